-- What a pass has and knows after the steps that take the turn, give it back and join passes.
use Rattle.std.proofs.Common.{◌≡◌, ◌<◌, ℕ, Bool, true, List, [], ◌∷◌, ◌++◌, length, sym, ap, ◌∙◌, subst, arith, length-append, Option, Some, None}
use Rattle.std.specs.Prelude.{All}
use mathlib.Core.Option.{none}
use lib.Seq.{get_or-append_seam}
use Rattle.atomic_table.specs.Table.{Me, step, Allows, rest}
use Rattle.atomic_table.specs.declared.shared.Seat.{Seat}
use Rattle.turnstile.specs.declared.view.View.{View}
use Rattle.turnstile.specs.declared.view.Joined.{Joined}
use Rattle.turnstile.specs.Lists.{BeginsWith, own, Appends}
use Rattle.turnstile.specs.Views.{hand, winning, counting, freeing, given_back, absorbing, Descends}
use Rattle.turnstile.specs.Rule.{IsRuled, Wins, Counts, Freed, Knows}
use Rattle.turnstile.specs.Passes.{IsPassSeat}
use Rattle.turnstile.proofs.Fronts.{begins_trans, own_append}
use Rattle.turnstile.proofs.Keeps.{frees_counted}

-- a table of one word has a first one
pub has_word : (words : ℕ) → words ≡ 1 → 0 < words
has_word words e = omega arith

-- what the slot that was taken last holds
abbrev first_held : {X : Type 0} → Option X → List (ℕ × Option X) → Option X
first_held d [] = d
first_held d (x ∷ xs) = x.1

pub alive : {E P : Type 0} (u v : View E P) → u ≡ v → v.is_live ≡ true → u.is_live ≡ true
alive {E} {P} u v e live = ap (λ (w : View E P). w.is_live) e ∙ live

module _ {X E P : Type 0} where
  -- a seat that is as before is a pass's as before
  pub pass_stays : (s t : Seat (Option X) (View E P)) → s.me ≡ t.me → IsPassSeat t → IsPassSeat s
  pass_stays s t e p = record {
    live = ap (λ (m : Me (Option X) (View E P)). m.0.is_live) e ∙ p.live;
    in_hand = ap (λ (m : Me (Option X) (View E P)). m.1) e ∙ p.in_hand ∙ ap (λ (m : Me (Option X) (View E P)). hand {X = X} m.0.turn) (sym e);
  }

  pub away_stays : (s t : Seat (Option X) (View E P)) → s.me ≡ t.me → t.me.0.turn ≡ 0 → s.me.0.turn ≡ 0
  away_stays s t e away = ap (λ (m : Me (Option X) (View E P)). m.0.turn) e ∙ away

  -- what a pass holds, by its view as it was told
  pub held_as : (u v : View E P) (has had : List (ℕ × Option X)) → u ≡ v → has ≡ had → had ≡ hand v.turn → has ≡ hand u.turn
  held_as u v has had e h so = h ∙ so ∙ ap (λ (w : View E P). hand {X = X} w.turn) (sym e)

module _ {X E P : Type 0} (list : X → List E) (number : E → ℕ) (is_common : E → Bool) (descends : P → X → Type 0) where
  abbrev M : Type 0
  M = Me (Option X) (View E P)

  abbrev Won : M → M → Type 0
  Won = Wins list number is_common descends

  -- who won the turn has the slot with the value
  pub has_slot : (m m' : M) → Won m m' → (old : Option X) × (m'.1 ≡ (0, old) ∷ rest m'.1)
  has_slot m m' w = (Some w.value, w.hand ∙ ap (λ (l : List (ℕ × Option X)). (0, Some w.value) ∷ rest l) (sym w.hand))

  held_is : (m m' : M) (w : Won m m') (found : Option X) → m'.1 ≡ (0, found) ∷ rest m'.1 → found ≡ Some w.value
  held_is m m' w found here = ap (λ (l : List (ℕ × Option X)). first_held None l) (sym here ∙ w.hand)

  -- so it isn't empty
  pub slot_full : (m m' : M) (found : Option X) → Won m m' → m'.1 ≡ (0, found) ∷ rest m'.1 → found ≡ None → ⊥
  slot_full m m' found w here empty = let full : found ≡ Some w.value = held_is m m' w found here in cc

  -- what is known once the value was taken out of it
  pub record Took (m m' : M) (x : X) : Type 0 where
    pub view : m'.0 ≡ winning (list x) m.0
    pub in_hand : m'.1 ≡ (0, None) ∷ []
    pub front : BeginsWith (list x) m.0.seen
    pub its_own : own number is_common m.0.number (list x) ≡ own number is_common m.0.number m.0.seen
    pub fits_root : Descends descends m.0.root x

  pub took : (m m' m'' : M) (found : Option X) (x : X) → Won m m' → m.1 ≡ hand m.0.turn → m.0.turn ≡ 0
      → m'.1 ≡ (0, found) ∷ rest m'.1 → m'' ≡ (m'.0, (0, None) ∷ rest m'.1) → found ≡ Some x → Took m m'' x
  took m m' m'' found x w has away here after full =
      let held : Some w.value ≡ Some x = sym (held_is m m' w found here) ∙ full in
      let same : w.value ≡ x = cc in
      let bare : m.1 ≡ [] = has ∙ ap (λ (n : ℕ). hand {X = X} n) away in record {
        view = ap (λ (n : M). n.0) after ∙ w.view ∙ ap (λ (y : X). winning (list y) m.0) same;
        in_hand = ap (λ (n : M). n.1) after ∙ ap (λ (l : List (ℕ × Option X)). (0, None) ∷ rest l) w.hand ∙ ap (λ (l : List (ℕ × Option X)). (0, None) ∷ l) bare;
        front = subst (λ (y : X). BeginsWith (list y) m.0.seen) same w.front;
        its_own = ap (λ (y : X). own number is_common m.0.number (list y)) (sym same) ∙ w.own;
        fits_root = subst (λ (y : X). Descends descends m.0.root y) same w.fits_root;
      }

-- what a seat knows and holds
abbrev Side : Type 0 → Type 0 → Type 0 → Type 0
Side X E P = Me (Option X) (View E P)

module _ {X E P : Type 0} (list : X → List E) (number : E → ℕ) (is_common : E → Bool) where
  abbrev Counting : X → Side X E P → Side X E P → Type 0
  Counting = Counts list number is_common

  slot_out : (m m' : Side X E P) (x : X) → Counting x m m' → m.1 ≡ hand m.0.turn → m.0.turn ≡ 1 → m'.1 ≡ (0, None) ∷ []
  slot_out m m' x k has turn = k.hand ∙ has ∙ ap (λ (n : ℕ). hand {X = X} n) turn

  -- who has counted has the slot, which is empty
  pub has_empty_slot : (m m' : Side X E P) (x : X) → Counting x m m' → m.1 ≡ hand m.0.turn → m.0.turn ≡ 1 → (old : Option X) × (m'.1 ≡ (0, old) ∷ rest m'.1)
  has_empty_slot m m' x k has turn =
      let out : m'.1 ≡ (0, None) ∷ [] = slot_out m m' x k has turn in
      (None, out ∙ ap (λ (l : List (ℕ × Option X)). (0, None) ∷ rest l) (sym out))

  pub slot_empty : (m m' : Side X E P) (x : X) (found : Option X) (y : X) → Counting x m m' → m.1 ≡ hand m.0.turn → m.0.turn ≡ 1 → m'.1 ≡ (0, found) ∷ rest m'.1 → found ≡ Some y → ⊥
  slot_empty m m' x found y k has turn here full =
      let empty : found ≡ None = ap (λ (l : List (ℕ × Option X)). first_held None l) (sym here ∙ slot_out m m' x k has turn) in
      cc

  -- the value stands in it again
  pub slot_filled : (m m' m'' : Side X E P) (x : X) → Counting x m m' → m.1 ≡ hand m.0.turn → m.0.turn ≡ 1 → m'' ≡ (m'.0, (0, Some x) ∷ rest m'.1) → m'' ≡ (counting (list x) m.0, (0, Some x) ∷ [])
  slot_filled m m' m'' x k has turn after =
      let out : m'.1 ≡ (0, None) ∷ [] = slot_out m m' x k has turn in
      let v : m'.0 ≡ counting (list x) m.0 = k.view in
      after ∙ (λ i. (v i, (0, Some x) ∷ rest (out i)))

  -- what the pass has seen once it ended its turn
  pub gave : (m m' m'' m''' : Side X E P) (x : X) → Counting x m m' → m'' ≡ (m'.0, (0, Some x) ∷ rest m'.1) → m'''.0 ≡ freeing m''.0 → m'''.0 ≡ given_back (list x) m.0
  gave m m' m'' m''' x k after freed = freed ∙ ap (λ (n : Side X E P). freeing n.0) after ∙ ap (λ (v : View E P). freeing v) k.view

-- with the value in the slot it may end the turn
pub may_free : {X E P : Type 0} (list : X → List E) (number : E → ℕ) (is_common : E → Bool) (descends : P → X → Type 0) (slots id : ℕ) (m : View E P) (n : Me (Option X) (View E P)) (x : X)
    → n ≡ (counting (list x) m, (0, Some x) ∷ []) → m.is_live ≡ true → Descends descends m.root x
    → Allows (IsRuled list number is_common descends) slots id n 0 (λ _. 0) (λ _. Freed (step slots 0 0 0 none) n 0)
may_free {X} {E} {P} list number is_common descends slots id m n x is live from =
    subst (λ (k : Me (Option X) (View E P)). Allows (IsRuled list number is_common descends) slots id k 0 (λ _. 0) (λ _. Freed (step slots 0 0 0 none) k 0)) (sym is) (frees_counted list number is_common descends slots id m x live from)

module _ {E P : Type 0} (number : E → ℕ) (is_common : E → Bool) where
  -- what was appended stands behind what was seen, and adds the pass's own of it
  pub gave_front : (v u : View E P) (l : List E) → u ≡ given_back l v → BeginsWith v.taken v.seen → Appends number is_common v.number v.taken l → BeginsWith u.seen v.seen
  gave_front v u l is a b = subst (λ (w : View E P). BeginsWith w.seen v.seen) (sym is) (begins_trans l v.taken v.seen (b.rest, b.is) a)

  pub gave_own : (v u : View E P) (l : List E) → u ≡ given_back l v → own number is_common v.number v.taken ≡ own number is_common v.number v.seen
      → (more : List E) → u.seen ≡ v.taken ++ more → own number is_common u.number u.seen ≡ own number is_common v.number v.seen ++ own number is_common v.number more
  gave_own v u l is same more e =
      ap (λ (w : View E P). own number is_common w.number u.seen) is ∙ ap (own number is_common v.number) e ∙ own_append number is_common v.number v.taken more
      ∙ ap (λ (xs : List E). xs ++ own number is_common v.number more) same

  -- what the first pass has seen once it took in another one
  pub record Grown (v w u : View E P) : Type 0 where
    pub one : BeginsWith u.seen v.seen
    pub other : BeginsWith u.seen w.seen
    pub its_own : own number is_common u.number u.seen ≡ own number is_common v.number v.seen

  pub grown : (v w u : View E P) → u ≡ absorbing v w → v.number ≡ 0 → Knows number is_common u → Grown v w u
  grown v w u is first k =
      let j : Joined E = record { number = w.number; seen = w.seen } in
      let joined : u.joined ≡ v.joined ++ j ∷ [] = ap (λ (x : View E P). x.joined) is in
      let number_is : u.number ≡ v.number = ap (λ (x : View E P). x.number) is in
      let earlier : u.earlier ≡ v.seen = ap (λ (x : View E P). x.earlier) is in
      let all : All (λ i. BeginsWith u.seen i.seen) (v.joined ++ j ∷ []) = subst (λ (l : List (Joined E)). All (λ i. BeginsWith u.seen i.seen) l) joined (k.all_joined (number_is ∙ first)) in record {
        one = subst (λ (l : List E). BeginsWith u.seen l) earlier k.front;
        other = subst (λ (i : Joined E). BeginsWith u.seen i.seen) (get_or-append_seam v.joined j [] j) (all (length v.joined) j (omega (arith, length-append v.joined (j ∷ []))));
        its_own = k.same_own ∙ ap (own number is_common u.number) earlier ∙ ap (λ (n : ℕ). own number is_common n v.seen) number_is;
      }

-- the same of its seat, which a step that changes nothing told
pub seat_grown : {X E P : Type 0} (number : E → ℕ) (is_common : E → Bool) (m m' m'' : Me (Option X) (View E P)) (w : View E P) → m' ≡ (absorbing m.0 w, m.1) → m'' ≡ m' → m.0.number ≡ 0 → Knows number is_common m'.0
    → Grown number is_common m.0 w m''.0
seat_grown {X} {E} {P} number is_common m m' m'' w joined same first k =
    grown number is_common m.0 w m''.0 (ap (λ (n : Me (Option X) (View E P)). n.0) (same ∙ joined)) first (subst (λ (n : Me (Option X) (View E P)). Knows number is_common n.0) (sym same) k)
