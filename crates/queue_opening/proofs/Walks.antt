-- The walk of an opening over a queue's files.
use Rattle.std.proofs.Common.{◌≡◌, ℕ, ◌+◌, ◌-◌, ◌^◌, ◌<◌, ◌≤◌, List, [], ◌∷◌, ◌++◌, length, take, get_or, Option, Some, None, IsSome, unwrap_or, refl, sym, ◌∙◌, ap, subst, inl, inr, arith, length-append}
use Rattle.std.proofs.lemmas.List.{take_more}
use Rattle.std.proofs.lemmas.List.Elements.{Contains-push_cases}
use Rattle.std.specs.List.{Contains}
use Rattle.nsq_outside.specs.Files.{Files}
use Rattle.queue_image.specs.FileNames.{data_file}
use Rattle.queue_image.specs.Between.{content}
use Rattle.queue_image.specs.Places.{IsOrdered, distance}
use Rattle.queue_image.specs.Finds.{Walks}
use Rattle.queue_image.specs.Finds.Walks.{starts, good, passes}
use Rattle.queue_image.specs.declared.positions.Positions.{Positions}
use Rattle.queue_image.proofs.Walking.{skips}
use Rattle.queue_opening.specs.Walked.{IsNextIn, GivesOf, GivesWithin, GivesFails, WalkAdds, WalksUpTo, WalkFits, HasNumbers}
use Rattle.queue_opening.specs.declared.walking.Gives.{Gives}
use Rattle.queue_opening.specs.declared.walking.Gives.TheVariants.{Good, Bad, Fault}
use Rattle.queue_opening.specs.declared.walking.Walk.{Walk}

-- one number more is looked at
pub next_more : (numbers : List ℕ) (i from last next next' number : ℕ) → i < length numbers → number ≡ get_or numbers i 0 → IsNextIn (take i numbers) from last next → next' ≤ next → (from ≤ next → from ≤ next')
    → (from ≤ number → next' ≤ number) → IsNextIn (take (i + 1) numbers) from last next'
next_more numbers i from last next next' number inside here s most low least =
    let high = s.high in
    record {
      low = λ h. low (s.low h);
      high = omega (arith, high, most);
      least = λ k its past. elim (Contains-push_cases (take i numbers) number k (subst (λ (ns : List ℕ). Contains ns k) (take_more numbers i 0 inside ∙ ap (λ (n : ℕ). take i numbers ++ n ∷ []) (sym here)) its)) [
        | inl before ↦ let known = s.least k before past in omega (arith, most, known)
        | inr same ↦ let known = least (omega (arith, same, past)) in omega (arith, known, same)
      ];
    }

-- a file whose number is not among those of the files is empty
pub content_absent : (files : Files) (name numbers : List ℕ) (k : ℕ) → HasNumbers files name numbers → k < 2 ^ 64 → ¬ Contains numbers k → content files name k ≡ []
content_absent files name numbers k has small lacks = go (files (data_file name k)) refl
  where
    go : (o : Option (List ℕ)) → files (data_file name k) ≡ o → content files name k ≡ []
    go None e = ap (λ (o : Option (List ℕ)). unwrap_or o []) e
    go (Some bytes) e = absurd (lacks (has k small (subst (λ (o : Option (List ℕ)). IsSome o) (sym e) refl)))

module _ (least limit : ℕ) (p : Positions) (bytes : ℕ → List ℕ) where
  -- what a file gives is added to the walk
  pub walk_on : (k : ℕ) (old new : Walk) (given : Gives) → GivesOf least limit p k (bytes k) given → WalkAdds old new k given → WalksUpTo least limit p bytes k old.depth old.bad.items
      → WalksUpTo least limit p bytes (k + 1) new.depth new.bad.items
  walk_on k old new (Good n) g a w =
      let count = g.count in
      let before = w.count in
      record {
        bodies = w.bodies ++ g.bodies;
        walks = subst (λ (bad : List ℕ). Walks least limit p bytes (k + 1) (w.bodies ++ g.bodies) bad) (sym a.1) (good g.bodies w.walks g.good refl refl);
        count = omega (arith, length-append w.bodies g.bodies, count, before, a.0);
      }
  walk_on k old new Bad b a w =
      record { bodies = w.bodies; walks = passes w.walks b refl a.1; count = w.count ∙ sym a.0 }
  walk_on k old new Fault g a w = absurd a

  -- numbers without a file are passed over
  pub walk_skips : (k next : ℕ) {depth : ℕ} {bad : List ℕ} → k ≤ next → p.read_file < k → next ≤ p.write_file → ((j : ℕ) → k ≤ j → j < next → bytes j ≡ []) → WalksUpTo least limit p bytes k depth bad
      → WalksUpTo least limit p bytes next depth bad
  walk_skips k next order past last none w =
      record { bodies = w.bodies; walks = skips least limit p bytes (next - k) k next (omega arith) past (omega arith) none w.walks; count = w.count }

-- a file is walked over, and the numbers up to the next
pub walk_step : (least limit : ℕ) (p : Positions) (files : Files) (name numbers : List ℕ) (k next : ℕ) (old new : Walk) (given : Gives) → p.write_file ≤ 2 ^ 40 → p.read_file ≤ k → k < p.write_file
    → HasNumbers files name numbers → IsNextIn numbers (k + 1) p.write_file next → WalkAdds old new k given → GivesOf least limit p k (content files name k) given
    → WalksUpTo least limit p (content files name) k old.depth old.bad.items → WalksUpTo least limit p (content files name) next new.depth new.bad.items
walk_step least limit p files name numbers k next old new given range low before has n a g w =
    let high = n.high in
    walk_skips least limit p (content files name) (k + 1) next (n.low (omega arith)) (omega arith) high
    (λ j from to. content_absent files name numbers j has (omega (arith, high)) (λ its. let past = n.least j its from in omega (arith, past)))
    (walk_on least limit p (content files name) k old new given g a w)

-- the bad files so far
pub walk_within : (from k : ℕ) (old new : Walk) (given : Gives) → from ≤ k → WalkAdds old new k given → ((j : ℕ) → Contains old.bad.items j → (from ≤ j) × (j < k))
    → (j : ℕ) → Contains new.bad.items j → (from ≤ j) × (j < k + 1)
walk_within from k old new (Good n) low a within j its =
    let h = within j (subst (λ (bad : List ℕ). Contains bad j) a.1 its) in (h.0, omega (arith, h.1))
walk_within from k old new Bad low a within j its =
    elim (Contains-push_cases old.bad.items k j (subst (λ (bad : List ℕ). Contains bad j) a.1 its)) [
      | inl before ↦ let h = within j before in (h.0, omega (arith, h.1))
      | inr same ↦ (omega (arith, same), omega (arith, same))
    ]
walk_within from k old new Fault low a within j its = absurd a

-- so many records may there be up to the next file's start
pub walk_depth : (p : Positions) (k : ℕ) (old new : Walk) (given : Gives) → GivesWithin p k given → WalkAdds old new k given → old.depth ≤ distance k 0 → new.depth ≤ distance (k + 1) 0
walk_depth p k old new (Good n) g a few = omega (arith, g.0, a.0, few)
walk_depth p k old new Bad g a few = omega (arith, a.0, few)
walk_depth p k old new Fault g a few = absurd a

-- and up to the write position
pub walk_fits : (p : Positions) (old new : Walk) (given : Gives) → p.read_file ≤ p.write_file → GivesWithin p p.write_file given → WalkAdds old new p.write_file given
    → ((j : ℕ) → Contains old.bad.items j → (p.read_file ≤ j) × (j < p.write_file)) → old.depth ≤ distance p.write_file 0 → WalkFits p new
walk_fits p old new (Good n) order g a within few =
    let last : n ≤ p.write_at = g.1 refl in
    record {
      within = λ k its. let h = within k (subst (λ (bad : List ℕ). Contains bad k) a.1 its) in (h.0, omega (arith, h.1));
      depth = omega (arith, last, a.0, few);
      but_last = λ its. let h = within p.write_file (subst (λ (bad : List ℕ). Contains bad p.write_file) a.1 its) in absurd (omega (arith, h.1));
    }
walk_fits p old new Bad order g a within few = record {
  within = λ k its. let h = walk_within p.read_file p.write_file old new Bad order a within k its in (h.0, omega (arith, h.1));
  depth = omega (arith, a.0, few);
  but_last = λ _. omega (arith, a.0, few);
}
walk_fits p old new Fault order g a within few = absurd a

-- what came with a rise in a call came with a rise since an earlier one
pub given_earlier : (before mid now : ℕ) (given : Gives) → before ≤ mid → GivesFails mid now given → GivesFails before now given
given_earlier before mid now (Good n) low f = tt
given_earlier before mid now Bad low f = tt
given_earlier before mid now Fault low f = omega (arith, low, f)

pub first_walk : (least limit : ℕ) (p : Positions) (bytes : ℕ → List ℕ) (bad : List ℕ) → bad ≡ [] → WalksUpTo least limit p bytes p.read_file 0 bad
first_walk least limit p bytes bad e =
    record { bodies = []; walks = subst (λ (ns : List ℕ). Walks least limit p bytes p.read_file [] ns) (sym e) (starts refl); count = refl }

-- the read file is not above the write file
pub file_order : (p : Positions) → IsOrdered p → p.read_file ≤ p.write_file
file_order p (inl lt) = omega arith
file_order p (inr same) = omega (arith, same.0)
