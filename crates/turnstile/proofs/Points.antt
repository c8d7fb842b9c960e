-- What the rule says between any two steps, point by point.
use Rattle.std.proofs.Common.{◌≡◌, ◌⊎◌, ℕ, Bool, ◌<◌, List, [], ◌∷◌, length, sym, ap, ◌∙◌, inl, inr, ⊎_elim, arith, Option, Some}
use mathlib.Core.Option.{some, none}
use mathlib.Core.Logic.{dite}
use native.Mathlib.Decide.{ℕ_discrete, dec_le}
use Rattle.atomic_table.specs.Table.{State}
use Rattle.turnstile.specs.declared.view.View.{View}
use Rattle.turnstile.specs.Lists.{BeginsWith, own}
use Rattle.turnstile.specs.Rule.{IsAt, IsHome, IsOut, IsRuled}
use Rattle.turnstile.proofs.Fronts.{begins_shorter, own_between}
use Rattle.turnstile.proofs.Keeps.{holds_turn}

module _ {X E P : Type 0} (list : X → List E) (number : E → ℕ) (is_common : E → Bool) (descends : P → X → Type 0) (s : State (Option X) (View E P)) (r : IsRuled list number is_common descends s) where
  -- of what any two passes have seen, one is a front of the other
  pub one_list : (j k : ℕ) (v w : View E P) → IsAt s.views j v → IsAt s.views k w → BeginsWith v.seen w.seen ⊎ BeginsWith w.seen v.seen
  one_list j k v w a b =
      let f = r.fits j v a in
      let g = r.fits k w b in
      dite (dec_le (length v.seen) (length w.seen))
      (λ le. inr (begins_shorter v.seen w.seen f.is_front.0 g.is_front.0 (sym f.is_front.1 ∙ g.is_front.1) le))
      (λ more. inl (begins_shorter w.seen v.seen g.is_front.0 f.is_front.0 (sym g.is_front.1 ∙ f.is_front.1) (omega arith)))

  -- two passes never hold the turn
  pub one_holder : (j k : ℕ) (v w : View E P) → IsAt s.views j v → IsAt s.views k w → 0 < v.turn → 0 < w.turn → j ≡ k
  one_holder j k v w a b hold hold' =
      let t = holds_turn list number is_common descends s r j v a hold in
      dite (ℕ_discrete k t.0.holder) (λ e. t.1 ∙ sym e) (λ ne. absurd (let none : w.turn ≡ 0 = t.0.others k w b ne in omega arith))

  -- the word says whether one holds the turn, and whether it has counted
  pub word_of_holder : (k : ℕ) (v : View E P) → IsAt s.views k v → 0 < v.turn → s.words ≡ v.turn ∷ []
  word_of_holder k v a hold = let t = holds_turn list number is_common descends s r k v a hold in r.words ∙ ap (λ (n : ℕ). n ∷ []) (sym t.0.turn ∙ ap (λ (u : View E P). u.turn) (sym t.2))

  -- where the word is 0, the value is at home, its list is one that a pass has seen and begins with what each has seen, and it descends from each pass's root
  pub at_rest : s.words ≡ 0 ∷ [] → (x : X) × (s.homes ≡ some (Some x) ∷ []) × ((k : ℕ) × (v : View E P) × IsAt s.views k v × (v.seen ≡ list x))
      × ((k : ℕ) (v : View E P) → IsAt s.views k v → BeginsWith (list x) v.seen × ((p : P) × (v.root ≡ Some p) × descends p x))
  at_rest words = ⊎_elim
      (λ (h : IsHome list descends r.word r.longest r.root s). (
        h.value,
        h.home,
        (r.seen.0, r.seen.1, r.seen.2, r.seen.3 ∙ sym h.its_list),
        λ k v a. let f = r.fits k v a in (rw h.its_list f.is_front, (r.root, f.of_root, h.fits_root)),
      ))
      (λ (o : IsOut r.word r.longest s). absurd (
      let e : r.word ∷ [] ≡ 0 ∷ [] = sym r.words ∙ words in
      let word : r.word ≡ 0 = cc in
      ⊎_elim (λ (a : r.word ≡ 1). omega arith) (λ (a : r.word ≡ 2). omega arith) o.in_turn))
      r.turn

  -- while one holds the turn and hasn't counted, the list that the value had as it was taken begins with what each pass has seen
  pub while_taken : (k : ℕ) (v : View E P) → IsAt s.views k v → v.turn ≡ 1 → (s.homes ≡ none ∷ []) × ((j : ℕ) (w : View E P) → IsAt s.views j w → BeginsWith v.taken w.seen)
  while_taken k v a turn =
      let t = holds_turn list number is_common descends s r k v a (omega arith) in
      let word : r.word ≡ 1 = sym t.0.turn ∙ ap (λ (u : View E P). u.turn) (sym t.2) ∙ turn in
      let taken : v.taken ≡ r.longest = ap (λ (u : View E P). u.taken) t.2 ∙ t.0.taken word in
      (t.0.out, λ j w b. rw taken (r.fits j w b).is_front)

  -- once it has counted, what it has seen begins with what each pass has seen
  pub once_counted : (k : ℕ) (v : View E P) → IsAt s.views k v → v.turn ≡ 2 → (j : ℕ) (w : View E P) → IsAt s.views j w → BeginsWith v.seen w.seen
  once_counted k v a turn j w b =
      let t = holds_turn list number is_common descends s r k v a (omega arith) in
      let word : r.word ≡ 2 = sym t.0.turn ∙ ap (λ (u : View E P). u.turn) (sym t.2) ∙ turn in
      let seen : v.seen ≡ r.longest = ap (λ (u : View E P). u.seen) t.2 ∙ t.0.counted word in
      rw seen (r.fits j w b).is_front

  -- an entry of a pass's own that any pass has seen, that pass has seen
  pub owns_all : (j k : ℕ) (v w : View E P) → IsAt s.views j v → IsAt s.views k w → BeginsWith w.seen v.seen → own number is_common v.number w.seen ≡ own number is_common v.number v.seen
  owns_all j k v w a b more = let f = r.fits j v a in own_between number is_common v.number r.longest w.seen v.seen (r.fits k w b).is_front more f.all_own
