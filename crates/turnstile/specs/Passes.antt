-- Passes, what they took, and the turnstile that they are of.
use Rattle.std.specs.Prelude.{◌≡◌, ◌⊎◌, ℕ, true, List, Option, All}
use Rattle.atomic_table.specs.declared.shared.Seat.{Seat}
use Rattle.turnstile.specs.declared.stands.Stands.{Ghosts}
use Rattle.turnstile.specs.declared.pass.Pass.{Pass}
use Rattle.turnstile.specs.declared.pass.Held.{Held}
use Rattle.turnstile.specs.declared.turnstile.Turnstile.{Turnstile}
use Rattle.turnstile.specs.declared.view.View.{View}
use Rattle.turnstile.specs.Lists.{IsIn, own, Appends}
use Rattle.turnstile.specs.Views.{hand, joined_numbers, Descends}

-- the seat of a pass that wasn't joined, and its hand as it is while it holds the turn and while it doesn't
pub record IsPassSeat {X E P : Type 0} (seat : Seat (Option X) (View E P)) : Type 0 where
  pub live : seat.me.0.is_live ≡ true
  pub in_hand : seat.me.1 ≡ hand seat.me.0.turn

-- one seat, of one table
abbrev pub IsSameSeat : {S V : Type 0} → Seat S V → Seat S V → Type 0
IsSameSeat a b = (b.table_id ≡ a.table_id) × (b.id ≡ a.id)

module _ {S E P : Type 0} {G : Ghosts S E P} where
  -- what the pass knows
  abbrev pub view : Pass S E P G → View E P
  view p = p.seat.me.0

  abbrev pub number : Pass S E P G → ℕ
  number p = (view p).number

  abbrev pub root : Pass S E P G → Option P
  root p = (view p).root

  -- the entries that it has seen
  abbrev pub seen : Pass S E P G → List E
  seen p = (view p).seen

  -- of the list, those of this pass's number that aren't common
  abbrev pub own_in : Pass S E P G → List E → List E
  own_in p list = own G.number G.is_common (number p) list

  -- its own entries: those of them that it has seen
  abbrev pub own_of : Pass S E P G → List E
  own_of p = own_in p (seen p)

  -- the pass is of this turnstile
  abbrev pub IsOf : Turnstile S E P → Pass S E P G → Type 0
  IsOf t p = p.seat.table_id ≡ t.table.shared.table_id

  -- it is one pass, of one turnstile
  abbrev pub IsSame : Pass S E P G → Pass S E P G → Type 0
  IsSame p q = IsSameSeat p.seat q.seat

  -- the pass doesn't hold the turn
  abbrev pub IsAway : Pass S E P G → Type 0
  IsAway p = (view p).turn ≡ 0

  -- the pass took this as it last took the turn, and holds the turn
  pub record IsTakenBy (p : Pass S E P G) (held : Held S E P G) : Type 0 where
    pub holds : (view p).turn ≡ 1
    pub same : IsSame held.by.value p
    pub list : (view held.by.value).taken ≡ (view p).taken

  -- the list has grown since the pass took it, by entries that are common or name the pass's number
  abbrev pub GoesOn : Pass S E P G → List E → Type 0
  GoesOn p list = Appends G.number G.is_common (number p) (view p).taken list

  -- the value descends from the pass's root
  abbrev pub HasRoot : Pass S E P G → S → Type 0
  HasRoot p value = Descends G.descends (root p) value

  -- of each joined pass's number the list has the entries that the pass had as its own
  abbrev pub KeepsJoined : Pass S E P G → List E → Type 0
  KeepsJoined p list = All (λ j. own G.number G.is_common j.number list ≡ own G.number G.is_common j.number j.seen) (view p).joined

  -- each entry names 0 or the number of a joined pass
  abbrev pub NamesJoined : Pass S E P G → List E → Type 0
  NamesJoined p list = All (λ e. (G.number e ≡ 0) ⊎ IsIn (G.number e) (joined_numbers (view p))) list
