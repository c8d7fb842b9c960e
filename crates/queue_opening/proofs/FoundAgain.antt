-- What is found in the files of an opening that failed: the same list.
use Rattle.std.proofs.Common.{◌≡◌, ◌≢◌, ℕ, ◌+◌, ◌-◌, ◌^◌, ◌<◌, ◌≤◌, ◌⊎◌, min, cond, Bool, true, false, IsTrue, List, [], ◌∷◌, ◌++◌, length, take, drop, Some, refl, sym, ◌∙◌, ap, subst, inl, inr, arith, length-append, length-take}
use Rattle.std.proofs.lemmas.Bool.{cases_lt}
use Rattle.std.proofs.lemmas.List.{append-nil, drop-take, take-take, nil_from_length}
use Rattle.std.specs.List.{Contains, slice_range}
use Rattle.nsq_outside.specs.Files.{Files, cut_to}
use Rattle.nsq_outside.specs.declared.did.Did.TheVariants.{Failed}
use Rattle.queue_image.specs.FileNames.{data_file, meta_file}
use Rattle.queue_image.specs.FileNames.IsOwnFile.{metadata}
use Rattle.queue_image.specs.Places.{IsOrdered, part_start, part_end}
use Rattle.queue_image.specs.Metas.{Says, meta_text}
use Rattle.queue_image.specs.Records.{IsRow}
use Rattle.queue_image.specs.Between.{content, IsSaved}
use Rattle.queue_image.specs.Finds.{IsGoodFile, IsBadFile, Walks, Finding, BadMeta, Records, IsFound, segment}
use Rattle.queue_image.specs.Finds.IsBadFile.{read_past, write_past}
use Rattle.queue_image.specs.Finds.IsFound.{fresh, empty, walked}
use Rattle.queue_image.specs.Finds.Walks.{starts, good, passes}
use Rattle.queue_image.specs.declared.positions.Positions.{Positions}
use Rattle.queue_image.proofs.Keeping.{saved_is_found}
use Rattle.queue_image.proofs.Naming.{metadata_apart, aside_apart}
use Rattle.queue_image.proofs.Walking.{walk_starts, if_same, not_both, one_finding}
use Rattle.queue_files.specs.declared.options.QueueOptions.{QueueOptions}
use Rattle.queue_files.proofs.WrittenBytes.{length-cut_to, cut-inside}
use Rattle.queue_opening.specs.Again.{FindsList, FindsSameList}
use Rattle.queue_opening.specs.Tidied.{SetsAside, OnlyTidied, IsTidy, IsPartlyTidy, WrittenWhere, OnlyWritten}
use Rattle.queue_opening.specs.Walked.{WalksUpTo}
use Rattle.queue_opening.specs.Planned.{IsPlan, IsPlanned, PlansWith, IsSettled, settled}
use Rattle.queue_opening.specs.declared.plan.Plan.{Plan}
use Rattle.queue_opening.proofs.Walks.{file_order}
use Rattle.queue_opening.proofs.Sizes.{starts_before}
use Rattle.queue_opening.proofs.Asides.{data_apart, data_not_aside}
use Rattle.queue_opening.proofs.Tidies.{bytes_of}
use Rattle.queue_opening.proofs.FoundReads.{bad_listed, listed_bad}
use Rattle.queue_opening.proofs.Lists.{settled_write, settled_nothing, listed}

-- a part of a list that was cut behind it
slice_cut : (xs : List ℕ) (from to : ℕ) → from ≤ to → slice_range (take to xs) from to ≡ slice_range xs from to
slice_cut xs from to low =
    let m = to - from in
    let sum : to ≡ from + m = omega arith in
    ap (λ (n : ℕ). take m (drop from (take n xs))) sum ∙ ap (take m) (drop-take from m xs) ∙ take-take m m (drop from xs) (omega arith)

module _ (least limit : ℕ) (p : Positions) (old new : ℕ → List ℕ) where
  -- the file of a number gives these records, or it is bad and they are none
  abbrev pub StillGives : ℕ → List (List ℕ) → Type 0
  StillGives k xs = IsGoodFile least limit p k (new k) xs ⊎ (IsBadFile least limit p k (new k) × (xs ≡ []))

  pub record WalksAgain (k : ℕ) (bodies : List (List ℕ)) : Type 0 where
    pub bad : List ℕ
    pub walks : Walks least limit p new k bodies bad

  -- where each file gives what it gave, the walk gives the same list
  pub walks_again : (n : ℕ) {k : ℕ} {bodies : List (List ℕ)} {bad : List ℕ} → Walks least limit p old k bodies bad → k ≤ p.write_file + 1 → length bodies ≤ n
      → ((j : ℕ) (xs : List (List ℕ)) → p.read_file ≤ j → j ≤ p.write_file → length xs ≤ n → IsGoodFile least limit p j (old j) xs → StillGives j xs)
      → ((j : ℕ) → p.read_file ≤ j → j ≤ p.write_file → IsBadFile least limit p j (old j) → StillGives j []) → WalksAgain k bodies
  walks_again n (starts e) high few of_good of_bad = record { bad = []; walks = starts e }
  walks_again n {k} {bodies} (good {k = m} {bodies = done} more w g e h) high few of_good of_bad =
      let low = walk_starts least limit p old w in
      let sum : length bodies ≡ length done + length more = ap length h ∙ length-append done more in
      let before = walks_again n w (omega (arith, e, high)) (omega (arith, sum, few)) of_good of_bad in
      elim (of_good m more low (omega (arith, e, high)) (omega (arith, sum, few)) g) [
        | inl still ↦ record { bad = before.bad; walks = good more before.walks still e h }
        | inr none ↦ let same : bodies ≡ done = h ∙ ap (λ (zs : List (List ℕ)). done ++ zs) none.1 ∙ append-nil done in
            record {
              bad = before.bad ++ m ∷ [];
              walks = subst (λ (zs : List (List ℕ)). Walks least limit p new k zs (before.bad ++ m ∷ [])) (sym same) (passes before.walks none.0 e refl);
            }
      ]
  walks_again n {k} {bodies} (passes {k = m} w b e h) high few of_good of_bad =
      let low = walk_starts least limit p old w in
      let before = walks_again n w (omega (arith, e, high)) few of_good of_bad in
      elim (of_bad m low (omega (arith, e, high)) b) [
        | inl still ↦ record { bad = before.bad; walks = good [] before.walks still e (sym (append-nil bodies)) }
        | inr none ↦ record { bad = before.bad ++ m ∷ []; walks = passes before.walks none.0 e refl }
      ]

  -- a file without bytes gives nothing
  pub gives_none : (k : ℕ) → new k ≡ [] → StillGives k []
  gives_none k none =
      let long : length (new k) ≡ 0 = ap length none in
      let start = part_start p k in
      let end = part_end p k (length (new k)) in
      let size : length (segment p k (new k)) ≡ min (end - start) (length (drop start (new k))) = length-take (end - start) (drop start (new k)) in
      elim (cases_lt 0 start) [
        | inl past ↦ inr (read_past (omega (arith, long, past)), refl)
        | inr first ↦ elim (cases_lt 0 end) [
          | inl past ↦ inr (write_past (omega (arith, long, past)), refl)
          | inr last ↦ inl (record {
            starts_inside = omega (arith, first);
            ends_inside = omega (arith, last);
            row = record { whole = nil_from_length (segment p k (new k)) (omega (arith, last, size)); sizes = tt };
          })
        ]
      ]

  -- a good write file that was cut where writing stands gives what it gave
  pub gives_cut : (xs : List (List ℕ)) → IsOrdered p → IsGoodFile least limit p p.write_file (old p.write_file) xs → new p.write_file ≡ cut_to (old p.write_file) p.write_at → StillGives p.write_file xs
  gives_cut xs order g cut =
      let k = p.write_file in
      let start = part_start p k in
      let ends_old : part_end p k (length (old k)) ≡ p.write_at = if_same k p.write_file p.write_at (length (old k)) refl in
      let ends_new : part_end p k (length (new k)) ≡ p.write_at = if_same k p.write_file p.write_at (length (new k)) refl in
      let inside : p.write_at ≤ length (old k) = omega (arith, g.ends_inside, ends_old) in
      let front : new k ≡ take p.write_at (old k) = cut ∙ cut-inside (old k) p.write_at inside in
      let long : length (new k) ≡ p.write_at = ap length cut ∙ length-cut_to (old k) p.write_at in
      let low : start ≤ p.write_at = omega (arith, starts_before p k (length (old k)) order g.starts_inside, ends_old) in
      let same : segment p k (new k) ≡ segment p k (old k)
      = ap (λ (e : ℕ). slice_range (new k) start e) ends_new ∙ ap (λ (bs : List ℕ). slice_range bs start p.write_at) front ∙ slice_cut (old k) start p.write_at low
      ∙ ap (λ (e : ℕ). slice_range (old k) start e) (sym ends_old) in
      inl (record { starts_inside = omega (arith, low, long); ends_inside = omega (arith, ends_new, long); row = subst (λ (bs : List ℕ). IsRow least limit bs xs) (sym same) g.row })

-- both positions of a queue that settles after its write file was bad are at the start of a file
settled_zero : (p : Positions) (none read_bad write_bad : Bool) → IsTrue write_bad → (settled p none read_bad write_bad).write_at ≡ 0
settled_zero p true read_bad write_bad h = refl
settled_zero p false read_bad true h = refl
settled_zero p false read_bad false h = let contra : false ≡ true = h in cc

-- where it wasn't bad and there are records, it writes on where it wrote
settled_same : (p : Positions) (none read_bad write_bad : Bool) → ¬ IsTrue none → ¬ IsTrue write_bad → (settled p none read_bad write_bad).write_at ≡ p.write_at
settled_same p true read_bad write_bad some h = absurd (some refl)
settled_same p false read_bad true some h = absurd (h refl)
settled_same p false read_bad false some h = refl

chosen : (b : Bool) (m n : ℕ) → ¬ IsTrue b → cond b m n ≡ n
chosen true m n h = absurd (h refl)
chosen false m n h = refl

abbrev bodies_of : Finding → List (List ℕ)
bodies_of BadMeta = []
bodies_of (Records bodies bad) = bodies

-- a list that is found in the old files and in the new ones
pub record IsFoundInBoth (least limit : ℕ) (name : List ℕ) (old new : Files) : Type 0 where
  pub bodies : List (List ℕ)
  pub bad : List ℕ
  pub was : IsFound least limit old name (Records bodies bad)
  pub now : FindsList least limit new name bodies

pub same_list : (least limit : ℕ) (name : List ℕ) (old new : Files) → limit < 2 ^ 32 → IsFoundInBoth least limit name old new → FindsSameList least limit name old new
same_list least limit name old new small b bodies bad found =
    let same : b.bodies ≡ bodies = ap bodies_of (one_finding least limit old name (Records b.bodies b.bad) (Records bodies bad) small b.was found) in
    subst (λ (zs : List (List ℕ)). FindsList least limit new name zs) same b.now

-- the data files that a plan doesn't name are as they were
abbrev IsKeptBut : List ℕ → Plan → Files → Files → Type 0
IsKeptBut name plan old new = (k : ℕ) → k < 2 ^ 64 → plan.below ≤ k → k ≢ plan.positions.write_file → ¬ SetsAside plan k → new (data_file name k) ≡ old (data_file name k)

module _ (name : List ℕ) (plan : Plan) (f0 f4 : Files) (i : IsPlan plan) (ot : OnlyTidied name plan f0 f4) where
  high : plan.positions.write_file ≤ 2 ^ 40
  high = let range = i.range in range.write_file

  below_high : plan.below ≤ 2 ^ 40
  below_high = let low = i.below in let order = file_order plan.positions i.ordered in omega (arith, low, order, high)

  kept_but : IsKeptBut name plan f0 f4
  kept_but k fits low apart not =
      ot (data_file name k) (λ j few its _. (data_apart name k j fits few (λ e. not (subst (λ (n : ℕ). SetsAside plan n) (sym e) its)), data_not_aside name k j fits))
      (λ j _ below. data_apart name k j fits (omega (arith, below, below_high)) (λ e. omega (arith, e, below, low))) (data_apart name k plan.positions.write_file fits (omega (arith, high)) apart)

  meta_kept : f4 (meta_file name) ≡ f0 (meta_file name)
  meta_kept =
      ot (meta_file name) (λ k fits _ _. ((metadata_apart name k fits).0, λ e. aside_apart name (data_file name k) (meta_file name) (metadata refl) e))
      (λ k _ below. (metadata_apart name k (omega (arith, below, below_high))).0) (metadata_apart name plan.positions.write_file (omega (arith, high))).0

module _ (options : QueueOptions) (name : List ℕ) (plan : Plan) (f0 f : Files) (small : options.limit < 2 ^ 32) (i : IsPlan plan) (pl : IsPlanned options.least options.limit f0 name plan)
    (t : IsPartlyTidy name plan f0 f) (kept : IsKeptBut name plan f0 f) (meta : f (meta_file name) ≡ f0 (meta_file name)) where
  abbrev q : Positions
  q = plan.positions

  module _ (p : Positions) (says : Says (f0 (meta_file name)) p) (pw : PlansWith options.least options.limit f0 name plan p)
      (found : WalksUpTo options.least options.limit p (content f0 name) (p.write_file + 1) plan.depth plan.bad.items) where
    abbrev old : ℕ → List ℕ
    old = content f0 name

    abbrev new : ℕ → List ℕ
    new = content f name

    p_order : p.read_file ≤ p.write_file
    p_order = let is = says.is in file_order p is.ordered

    p_high : p.write_file ≤ 2 ^ 40
    p_high = let is = says.is in let range = is.in_range in range.write_file

    q_high : q.write_file ≤ 2 ^ 40
    q_high = let range = i.range in range.write_file

    s : IsSettled p plan.depth plan.bad.items q
    s = pw.settles

    writes : q.write_file ≡ cond s.write_bad (min (p.write_file + 1) (2 ^ 40)) p.write_file
    writes = ap (λ (x : Positions). x.write_file) s.is ∙ settled_write p s.none s.read_bad s.write_bad

    write_above : p.write_file ≤ q.write_file
    write_above = go s.write_bad writes
      where
        go : (b : Bool) → q.write_file ≡ cond b (min (p.write_file + 1) (2 ^ 40)) p.write_file → p.write_file ≤ q.write_file
        go true e = omega (arith, e, p_high)
        go false e = omega (arith, e)

    not_aside : (k : ℕ) → k ≤ p.write_file → ¬ Contains plan.bad.items k → ¬ SetsAside plan k
    not_aside k low lacks (inl above) = omega (arith, above.1, pw.above, low)
    not_aside k low lacks (inr bad) = lacks bad

    -- a good file before the write file is as it was
    earlier_same : (k : ℕ) → p.read_file ≤ k → k < p.write_file → ¬ Contains plan.bad.items k → new k ≡ old k
    earlier_same k low before lacks =
        let fits : k < 2 ^ 64 = omega (arith, before, p_high) in
        bytes_of (kept k fits (omega (arith, pw.below, low)) (λ e. omega (arith, e, before, write_above)) (not_aside k (omega (arith, before)) lacks))

    abbrev Gives : ℕ → List (List ℕ) → Type 0
    Gives k xs = StillGives options.least options.limit p old new k xs

    none_given : (k : ℕ) → new k ≡ [] → Gives k []
    none_given k none = gives_none options.least options.limit p old new k none

    -- a bad file gives nothing
    of_bad : (j : ℕ) → p.read_file ≤ j → j ≤ p.write_file → IsBadFile options.least options.limit p j (old j) → Gives j []
    of_bad j low high b =
        let its = bad_listed options.least options.limit p old new small found.walks j low (omega (arith, high)) b in
        elim (t.aside j (omega (arith, high, p_high)) (inr its)) [
          | inl same ↦ inr (subst (λ (bs : List ℕ). IsBadFile options.least options.limit p j bs) (sym same) b, refl)
          | inr gone ↦ elim gone [
            | inl none ↦ none_given j none
            | inr cut ↦ let here : j ≡ p.write_file = omega (arith, cut.0, high, write_above) in
                let zero : q.write_at ≡ 0
                = ap (λ (x : Positions). x.write_at) s.is ∙ settled_zero p s.none s.read_bad s.write_bad (s.write.1 (subst (λ (n : ℕ). Contains plan.bad.items n) here its)) in
                none_given j (cut.1 ∙ ap (λ (n : ℕ). cut_to [] n) zero)
          ]
        ]

    -- a good write file gives what it gave
    of_last : (xs : List (List ℕ)) → length xs ≤ plan.depth → IsGoodFile options.least options.limit p p.write_file (old p.write_file) xs → ¬ Contains plan.bad.items p.write_file → Gives p.write_file xs
    of_last xs few g lacks =
        elim (subst (λ (k : ℕ). (new k ≡ old k) ⊎ (new k ≡ cut_to (old k) q.write_at)) here (t.cut (not_aside q.write_file (omega (arith, here)) (λ its. lacks (subst (λ (n : ℕ). Contains plan.bad.items n) here its))))) [
          | inl same ↦ inl (subst (λ (bs : List ℕ). IsGoodFile options.least options.limit p p.write_file bs xs) (sym same) g)
          | inr cut ↦ go s.none refl cut
        ]
      where
        fine : ¬ IsTrue s.write_bad
        fine h = lacks (s.write.0 h)

        here : q.write_file ≡ p.write_file
        here = writes ∙ chosen s.write_bad (min (p.write_file + 1) (2 ^ 40)) p.write_file fine

        go : (b : Bool) → s.none ≡ b → new p.write_file ≡ cut_to (old p.write_file) q.write_at → Gives p.write_file xs
        go true e cut =
            let zero = s.empty.0 e in
            let nothing : xs ≡ [] = nil_from_length xs (omega (arith, few, zero)) in
            let start = settled_nothing p q s.none s.read_bad s.write_bad e s.is in
            subst (λ (zs : List (List ℕ)). Gives p.write_file zs) (sym nothing) (none_given p.write_file (cut ∙ ap (cut_to (old p.write_file)) start.1))
        go false e cut =
            let is = says.is in
            let at : q.write_at ≡ p.write_at = ap (λ (x : Positions). x.write_at) s.is ∙ settled_same p s.none s.read_bad s.write_bad (λ h. (let contra : false ≡ true = sym e ∙ h in cc)) fine in
            gives_cut options.least options.limit p old new xs is.ordered g (cut ∙ ap (cut_to (old p.write_file)) at)

    of_good : (j : ℕ) (xs : List (List ℕ)) → p.read_file ≤ j → j ≤ p.write_file → length xs ≤ plan.depth → IsGoodFile options.least options.limit p j (old j) xs → Gives j xs
    of_good j xs low high few g =
        elim (cases_lt j p.write_file) [
          | inl before ↦ inl (subst (λ (bs : List ℕ). IsGoodFile options.least options.limit p j bs xs) (sym (earlier_same j low before lacks)) g)
          | inr last ↦ let here : j ≡ p.write_file = omega (arith, high, last) in
              subst (λ (k : ℕ). Gives k xs) (sym here)
              (of_last xs few (subst (λ (k : ℕ). IsGoodFile options.least options.limit p k (old k) xs) here g) (λ its. lacks (subst (λ (n : ℕ). Contains plan.bad.items n) (sym here) its)))
        ]
      where
        lacks : ¬ Contains plan.bad.items j
        lacks its = not_both options.least options.limit p old j xs small g (listed_bad options.least options.limit p old new found.walks j its)

    walked_again : WalksAgain options.least options.limit p old new (p.write_file + 1) found.bodies
    walked_again = let count = found.count in walks_again options.least options.limit p old new plan.depth found.walks (omega arith) (omega (arith, count)) of_good of_bad

  in_both : IsFoundInBoth options.least options.limit name f0 f
  in_both = elim pl.either [
    | inl none ↦ record { bodies = []; bad = []; was = fresh none; now = record { bad = []; found = fresh (meta ∙ none) } }
    | inr s ↦ with_meta s.0 s.1 (pl.with_meta s.0 s.1)
  ]
    where
      with_meta : (p : Positions) → Says (f0 (meta_file name)) p → PlansWith options.least options.limit f0 name plan p → IsFoundInBoth options.least options.limit name f0 f
      with_meta p says pw =
          elim pw.found [
            | inl none ↦ record {
              bodies = [];
              bad = [];
              was = empty says.text (record { depth = says.depth; positions = p }) says.there says.is none.0;
              now = record { bad = []; found = empty says.text (record { depth = says.depth; positions = p }) (meta ∙ says.there) says.is none.0 };
            }
            | inr w ↦ let again = walked_again p says pw w.1 in
                record {
                  bodies = w.1.bodies;
                  bad = plan.bad.items;
                  was = walked says.text (record { depth = says.depth; positions = p }) says.there says.is w.0 w.1.walks;
                  now = record { bad = again.bad; found = walked says.text (record { depth = says.depth; positions = p }) (meta ∙ says.there) says.is w.0 again.walks };
                }
          ]

  -- what an opening found is found where it ended before the metadata was written
  pub found_again : FindsSameList options.least options.limit name f0 f
  found_again = same_list options.least options.limit name f0 f small in_both

-- where the tidying failed
pub found_tidied : (options : QueueOptions) (name : List ℕ) (plan : Plan) (f0 f4 : Files) → options.limit < 2 ^ 32 → IsPlan plan → IsPlanned options.least options.limit f0 name plan → IsPartlyTidy name plan f0 f4
    → OnlyTidied name plan f0 f4 → FindsSameList options.least options.limit name f0 f4
found_tidied options name plan f0 f4 small i pl t ot = found_again options name plan f0 f4 small i pl t (kept_but name plan f0 f4 i ot) (meta_kept name plan f0 f4 i ot)

-- where the list could not be written down
pub found_written : (options : QueueOptions) (name : List ℕ) (plan : Plan) (f0 f4 f5 : Files) → options.limit < 2 ^ 32 → IsPlan plan → IsPlanned options.least options.limit f0 name plan → IsTidy name plan f0 f4
    → IsPartlyTidy name plan f0 f4 → OnlyTidied name plan f0 f4 → WrittenWhere name plan f4 f5 Failed → OnlyWritten name plan f4 f5 → FindsSameList options.least options.limit name f0 f5
found_written options name plan f0 f4 f5 small i pl tidy t ot w ow = go w
  where
    go : WrittenWhere name plan f4 f5 Failed → FindsSameList options.least options.limit name f0 f5
    go (inl same) =
        found_again options name plan f0 f5 small i pl
        (record {
          aside = λ k fits its.
              subst (λ (bs : List ℕ). (bs ≡ content f0 name k) ⊎ (bs ≡ []) ⊎ ((k ≡ plan.positions.write_file) × (bs ≡ cut_to [] plan.positions.write_at))) (sym (bytes_of (same.data_files k fits)))
              (t.aside k fits its);
          cut = λ not.
              let high : plan.positions.write_file ≤ 2 ^ 40 = (let range = i.range in range.write_file) in
              subst (λ (bs : List ℕ). (bs ≡ content f0 name plan.positions.write_file) ⊎ (bs ≡ cut_to (content f0 name plan.positions.write_file) plan.positions.write_at))
              (sym (bytes_of (same.data_files plan.positions.write_file (omega (arith, high))))) (t.cut not);
        })
        (λ k fits low apart not. same.data_files k fits ∙ kept_but name plan f0 f4 i ot k fits low apart not) (same.meta ∙ meta_kept name plan f0 f4 i ot)
    go (inr text) =
        let l = listed options name plan f0 f4 f5 small i pl tidy ot ow in
        let count = l.count in
        let range = i.range in
        let depth = i.depth in
        let saved : IsSaved options.least options.limit f5 name plan.positions l.bodies = record { text = text ∙ ap (λ (n : ℕ). Some (meta_text n plan.positions)) (sym count); list = l.list } in
        same_list options.least options.limit name f0 f5 small
        (record {
          bodies = l.bodies;
          bad = plan.bad.items;
          was = l.found;
          now = record {
            bad = [];
            found = saved_is_found options.least options.limit f5 name plan.positions l.bodies (omega (arith, range.write_file, range.write_at, depth, count)) range saved;
          };
        })
