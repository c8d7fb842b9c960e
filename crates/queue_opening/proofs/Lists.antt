-- What an opening leaves: the list that was found.
use Rattle.std.proofs.Common.{◌≡◌, ◌≢◌, ℕ, ◌+◌, ◌^◌, ◌<◌, ◌≤◌, ◌↔◌, min, cond, Bool, true, false, IsTrue, List, [], length, take, codes, Option, Some, None, IsSome, unwrap_or, refl, sym, ◌∙◌, ap, subst, inl, inr, arith}
use Rattle.std.proofs.lemmas.Bool.{cases_lt}
use Rattle.std.proofs.lemmas.List.{nil_from_length, append_cancel_right}
use Rattle.std.specs.List.{Contains}
use Rattle.nsq_outside.specs.Files.{Files, cut_to}
use Rattle.queue_image.specs.FileNames.{data_file, meta_file, meta_temp, set_aside, IsOwnFile}
use Rattle.queue_image.specs.FileNames.IsOwnFile.{numbered, metadata, written}
use Rattle.queue_image.specs.Places.{IsAtEnd, part_start, part_end}
use Rattle.queue_image.specs.Between.{content, Reads, Between}
use Rattle.queue_image.specs.Between.Reads.{arrives}
use Rattle.queue_image.specs.Finds.{IsGoodFile, IsBadFile, Walks, IsFound, Records}
use Rattle.queue_image.specs.Finds.IsFound.{fresh, empty, walked}
use Rattle.queue_image.specs.declared.positions.Positions.{Positions}
use Rattle.queue_image.proofs.Reading.{joined}
use Rattle.queue_image.proofs.Walking.{if_same, start_later, not_both}
use Rattle.queue_image.proofs.Naming.{metadata_apart, aside_apart}
use Rattle.queue_image.specs.Metas.{Says}
use Rattle.queue_opening.specs.Tidied.{IsSetAside, SetsAside, OnlyTidied, IsTidy, IsWritten, OnlyWritten}
use Rattle.queue_opening.specs.Tidied.{IsTidiedAt}
use Rattle.queue_opening.specs.Walked.{WalksUpTo}
use Rattle.queue_opening.specs.Planned.{IsPlan, IsPlanned, PlansWith, IsSettled, settled}
use Rattle.queue_files.specs.declared.options.QueueOptions.{QueueOptions}
use Rattle.queue_opening.specs.declared.plan.Plan.{Plan}
use Rattle.queue_files.proofs.WrittenBytes.{length-cut_to, take-cut}
use Rattle.queue_opening.proofs.Walks.{file_order}
use Rattle.queue_opening.proofs.Asides.{none_some, some_is, data_apart, data_not_aside, aside_not_data, asides_apart}
use Rattle.queue_opening.proofs.FoundReads.{bad_listed, listed_bad, reads_past, reads_kept, LastGood, LastBad, last_step, nothing_before, reads_last}

cond_zero : (b : Bool) (n : ℕ) → IsTrue b → cond b 0 n ≡ 0
cond_zero true n h = refl
cond_zero false n h = let contra : false ≡ true = h in cc

cond_same : (b : Bool) (n : ℕ) → ¬ IsTrue b → cond b 0 n ≡ n
cond_same true n h = absurd (h refl)
cond_same false n h = refl

-- the write file that a queue settles at
pub settled_write : (p : Positions) (none read_bad write_bad : Bool) → (settled p none read_bad write_bad).write_file ≡ cond write_bad (min (p.write_file + 1) (2 ^ 40)) p.write_file
settled_write p true read_bad write_bad = refl
settled_write p false read_bad write_bad = refl

pub settled_nothing : (p q : Positions) (none read_bad write_bad : Bool) → IsTrue none → q ≡ settled p none read_bad write_bad → IsAtEnd q × (q.write_at ≡ 0)
settled_nothing p q true read_bad write_bad h e = subst (λ (x : Positions). IsAtEnd x × (x.write_at ≡ 0)) (sym e) ((refl, refl), refl)
settled_nothing p q false read_bad write_bad h e = let contra : false ≡ true = h in cc

module _ (options : QueueOptions) (name : List ℕ) (plan : Plan) (f0 f4 f5 : Files) (small : options.limit < 2 ^ 32) (i : IsPlan plan) (pl : IsPlanned options.least options.limit f0 name plan)
    (t : IsTidy name plan f0 f4) (ot : OnlyTidied name plan f0 f4) (ow : OnlyWritten name plan f4 f5) where
  abbrev pub q : Positions
  q = plan.positions

  order : q.read_file ≤ q.write_file
  order = file_order q i.ordered

  high : q.write_file ≤ 2 ^ 40
  high = let range = i.range in range.write_file

  -- a data file from the read file on, and a name of one that is set aside, are as they were before the list was written down
  data_later : (k : ℕ) → k < 2 ^ 64 → q.read_file ≤ k → f5 (data_file name k) ≡ f4 (data_file name k)
  data_later k fits low =
      let apart = metadata_apart name k fits in
      ow (data_file name k) (λ e. apart.0 (sym e)) (λ e. apart.1 (sym e)) (λ j _ before. data_apart name k j fits (omega (arith, before, order, high)) (λ e. omega (arith, e, before, low)))

  aside_later : (k : ℕ) → f5 (set_aside (data_file name k)) ≡ f4 (set_aside (data_file name k))
  aside_later k =
      ow (set_aside (data_file name k)) (λ e. aside_apart name (data_file name k) (meta_file name) (metadata refl) (sym e)) (λ e. aside_apart name (data_file name k) (meta_temp name) (written refl) (sym e))
      (λ j _ before. aside_not_data name k j (omega (arith, before, order, high)))

  pub record Listed : Type 0 where
    pub bodies : List (List ℕ)
    pub found : IsFound options.least options.limit f0 name (Records bodies plan.bad.items)
    pub count : length bodies ≡ plan.depth
    pub list : Between options.least options.limit f5 name q bodies
    pub nothing : bodies ≡ [] → IsAtEnd q × (q.write_at ≡ 0)

  -- without a record
  at_start : (bodies : List (List ℕ)) → bodies ≡ [] → IsAtEnd q × (q.write_at ≡ 0) → Between options.least options.limit f5 name q bodies
  at_start bodies none end =
      let start = end.0 in
      record {
        reads = subst (λ (zs : List (List ℕ)). Reads options.least options.limit (content f5 name) q.write_file q.write_at q.read_file q.read_at zs) (sym none) (arrives start.0 start.1);
        inside = omega (arith, end.1);
      }

  module _ (p : Positions) (says : Says (f0 (meta_file name)) p) (pw : PlansWith options.least options.limit f0 name plan p) where
    abbrev pub old : ℕ → List ℕ
    old = content f0 name

    abbrev pub new : ℕ → List ℕ
    new = content f5 name

    p_order : p.read_file ≤ p.write_file
    p_order = let is = says.is in file_order p is.ordered

    p_high : p.write_file ≤ 2 ^ 40
    p_high = let is = says.is in let range = is.in_range in range.write_file

    write_above : p.write_file ≤ q.write_file
    write_above =
        let s = pw.settles in
        let e : q.write_file ≡ cond s.write_bad (min (p.write_file + 1) (2 ^ 40)) p.write_file = ap (λ (x : Positions). x.write_file) s.is ∙ settled_write p s.none s.read_bad s.write_bad in
        go s.write_bad e
      where
        go : (b : Bool) → q.write_file ≡ cond b (min (p.write_file + 1) (2 ^ 40)) p.write_file → p.write_file ≤ q.write_file
        go true e = omega (arith, e, p_high)
        go false e = omega (arith, e)

    -- what is set aside is above the write file or bad
    pub not_aside : (k : ℕ) → k ≤ p.write_file → ¬ Contains plan.bad.items k → ¬ SetsAside plan k
    not_aside k low lacks (inl above) = omega (arith, above.1, pw.above, low)
    not_aside k low lacks (inr bad) = lacks bad

    -- a good file stays
    pub good_same : (k : ℕ) → q.read_file ≤ k → p.read_file ≤ k → k < p.write_file → ¬ Contains plan.bad.items k → f5 (data_file name k) ≡ f0 (data_file name k)
    good_same k from low before lacks =
        let fits : k < 2 ^ 64 = omega (arith, before, p_high) in
        data_later k fits from
        ∙ ot (data_file name k) (λ j few its _. (data_apart name k j fits few (λ e. not_aside k (omega (arith, before)) lacks (subst (λ (n : ℕ). SetsAside plan n) (sym e) its)), data_not_aside name k j fits))
        (λ j _ below. data_apart name k j fits (omega (arith, below, pw.below, low, before, p_high)) (λ e. omega (arith, e, below, pw.below, low)))
        (data_apart name k q.write_file fits (omega (arith, high)) (λ e. omega (arith, e, before, write_above)))

    -- a bad file is gone
    bad_gone : (k : ℕ) → q.read_file ≤ k → k ≤ p.write_file → Contains plan.bad.items k → k ≢ q.write_file → new k ≡ []
    bad_gone k from low its apart =
        let fits : k < 2 ^ 64 = omega (arith, low, p_high) in
        let m = t.aside k fits (inr its) in ap (λ (o : Option (List ℕ)). unwrap_or o []) (data_later k fits from ∙ m.gone apart)

    module _ (found : WalksUpTo options.least options.limit p old (p.write_file + 1) plan.depth plan.bad.items) (read_bad write_bad : Bool) (read : IsTrue read_bad ↔ Contains plan.bad.items p.read_file)
        (write : IsTrue write_bad ↔ Contains plan.bad.items p.write_file) (some : plan.depth ≢ 0) (is : q ≡ settled p false read_bad write_bad) where
      abbrev pub bodies : List (List ℕ)
      bodies = found.bodies

      abbrev from : ℕ
      from = cond read_bad 0 p.read_at

      reads_from : q.read_file ≡ p.read_file
      reads_from = ap (λ (x : Positions). x.read_file) is

      is_bad : IsBadFile options.least options.limit p p.read_file (old p.read_file) → from ≡ 0
      is_bad b = cond_zero read_bad p.read_at (read.1 (bad_listed options.least options.limit p old new small found.walks p.read_file (omega arith) (omega (arith, p_order)) b))

      lacks_good : (k : ℕ) (xs : List (List ℕ)) → IsGoodFile options.least options.limit p k (old k) xs → ¬ Contains plan.bad.items k
      lacks_good k xs g its = not_both options.least options.limit p old k xs small g (listed_bad options.least options.limit p old new found.walks k its)

      is_good : (xs : List (List ℕ)) → IsGoodFile options.least options.limit p p.read_file (old p.read_file) xs → from ≡ p.read_at
      is_good xs g = cond_same read_bad p.read_at (λ h. lacks_good p.read_file xs g (read.0 h))

      -- what was found before the write file
      before_write : (done : List (List ℕ)) (bad : List ℕ) → Walks options.least options.limit p old p.write_file done bad → p.read_file < p.write_file
          → Reads options.least options.limit new p.write_file 0 p.read_file from done
      before_write done bad walks past =
          reads_kept options.least options.limit p old new from is_bad is_good walks past (omega arith)
          (λ j low before b. bad_gone j (omega (arith, reads_from, low)) (omega (arith, before)) (bad_listed options.least options.limit p old new small found.walks j low (omega (arith, before)) b) (λ e. omega (arith, e, before, write_above)))
          (λ j xs low before g. ap (λ (o : Option (List ℕ)). unwrap_or o []) (good_same j (omega (arith, reads_from, low)) low before (lacks_good j xs g)))

      abbrev Goal : Positions → Type 0
      Goal x = Between options.least options.limit f5 name x bodies

      in_same : LastGood options.least options.limit p old new bodies → write_bad ≡ false → Goal (settled p false read_bad false)
      in_same g e =
          let is' : q ≡ settled p false read_bad false = is ∙ ap (settled p false read_bad) e in
          let writes : q.write_file ≡ p.write_file = ap (λ (x : Positions). x.write_file) is' in
          let ends : q.write_at ≡ p.write_at = ap (λ (x : Positions). x.write_at) is' in
          let good = g.good in
          let lacks = lacks_good p.write_file g.more good in
          let cut : new q.write_file ≡ cut_to (old q.write_file) q.write_at
          = ap (λ (o : Option (List ℕ)). unwrap_or o []) (data_later q.write_file (omega (arith, high)) order
          ∙ t.cut (not_aside q.write_file (omega (arith, writes)) (λ its. lacks (subst (λ (n : ℕ). Contains plan.bad.items n) writes its)))) in
          let cut' : new p.write_file ≡ cut_to (old p.write_file) p.write_at
          = subst (λ (k : ℕ). new k ≡ cut_to (old k) p.write_at) writes (subst (λ (a : ℕ). new q.write_file ≡ cut_to (old q.write_file) a) ends cut) in
          let end : part_end p p.write_file (length (old p.write_file)) ≡ p.write_at = if_same p.write_file p.write_file p.write_at (length (old p.write_file)) refl in
          let inside : p.write_at ≤ length (old p.write_file) = omega (arith, good.ends_inside, end) in
          let front : take p.write_at (new p.write_file) ≡ take p.write_at (old p.write_file) = ap (take p.write_at) cut' ∙ take-cut (old p.write_file) p.write_at inside in
          let s = says.is in
          let last = reads_last options.least options.limit p old new g.more s.ordered good front in
          record {
            reads = subst (λ (zs : List (List ℕ)). Reads options.least options.limit new p.write_file p.write_at p.read_file from zs) (sym g.whole) (joined options.least options.limit (first g) last);
            inside = omega (arith, ap length cut', length-cut_to (old p.write_file) p.write_at);
          }
        where
          first : (g : LastGood options.least options.limit p old new bodies) → Reads options.least options.limit new p.write_file (part_start p p.write_file) p.read_file from g.done
          first g =
              elim (cases_lt p.read_file p.write_file) [
                | inl past ↦ subst (λ (a : ℕ). Reads options.least options.limit new p.write_file a p.read_file from g.done) (sym (start_later options.least options.limit p old p.write_file past)) (before_write g.done g.bad g.walks past)
                | inr low ↦ let same : p.read_file ≡ p.write_file = omega (arith, low, p_order) in
                    let none : g.done ≡ [] = nothing_before options.least options.limit p old new g.walks (sym same) in
                    let at : from ≡ p.read_at = is_good g.more (subst (λ (k : ℕ). IsGoodFile options.least options.limit p k (old k) g.more) (sym same) g.good) in
                    let start : part_start p p.write_file ≡ p.read_at = if_same p.write_file p.read_file p.read_at 0 (sym same) in
                    subst (λ (zs : List (List ℕ)). Reads options.least options.limit new p.write_file (part_start p p.write_file) p.read_file from zs) (sym none) (arrives same (at ∙ sym start))
              ]

      in_next : LastBad options.least options.limit p old new bodies → write_bad ≡ true → Goal (settled p false read_bad true)
      in_next b e =
          let is' : q ≡ settled p false read_bad true = is ∙ ap (settled p false read_bad) e in
          let writes : q.write_file ≡ min (p.write_file + 1) (2 ^ 40) = ap (λ (x : Positions). x.write_file) is' in
          record { reads = subst (λ (k : ℕ). Reads options.least options.limit new k 0 p.read_file from bodies) writes (on writes); inside = omega arith }
        where
          past : p.read_file < p.write_file
          past = elim (cases_lt p.read_file p.write_file) [
            | inl lt ↦ lt
            | inr low ↦ let none : bodies ≡ [] = nothing_before options.least options.limit p old new b.walks (omega (arith, low, p_order)) in
                absurd (some (sym found.count ∙ ap length none))
          ]

          on : q.write_file ≡ min (p.write_file + 1) (2 ^ 40) → Reads options.least options.limit new q.write_file 0 p.read_file from bodies
          on writes =
              elim (cases_lt p.write_file (2 ^ 40)) [
                | inl lt ↦ let next : q.write_file ≡ p.write_file + 1 = omega (arith, writes, lt) in
                    subst (λ (k : ℕ). Reads options.least options.limit new k 0 p.read_file from bodies) (sym next)
                    (reads_past options.least options.limit p old new p.write_file p.read_file from (before_write bodies b.bad b.walks past)
                    (bad_gone p.write_file (omega (arith, reads_from, p_order)) (omega arith) (bad_listed options.least options.limit p old new small found.walks p.write_file p_order (omega arith) b.is_bad) (λ e. omega (arith, e, next))))
                | inr last ↦ subst (λ (k : ℕ). Reads options.least options.limit new k 0 p.read_file from bodies) (omega (arith, writes, last, p_high)) (before_write bodies b.bad b.walks past)
              ]

      pub settled_list : Between options.least options.limit f5 name q bodies
      settled_list = subst Goal (sym is) (go write_bad refl)
        where
          go : (b : Bool) → write_bad ≡ b → Goal (settled p false read_bad write_bad)
          go true e =
              subst (λ (x : Bool). Goal (settled p false read_bad x)) (sym e)
              (elim (last_step options.least options.limit p old new found.walks refl p_order) [
                | inl g ↦ absurd (lacks_good p.write_file g.more g.good (write.0 e))
                | inr b ↦ in_next b e
              ])
          go false e =
              subst (λ (x : Bool). Goal (settled p false read_bad x)) (sym e)
              (elim (last_step options.least options.limit p old new found.walks refl p_order) [
                | inl g ↦ in_same g e
                | inr b ↦ let contra : false ≡ true = sym e ∙ write.1 (bad_listed options.least options.limit p old new small found.walks p.write_file p_order (omega arith) b.is_bad) in cc
              ])

    nothing_with : plan.depth ≡ 0 → IsAtEnd q × (q.write_at ≡ 0)
    nothing_with zero = let s = pw.settles in settled_nothing p q s.none s.read_bad s.write_bad (s.empty.1 zero) s.is

    list_with : (found : WalksUpTo options.least options.limit p old (p.write_file + 1) plan.depth plan.bad.items) → Between options.least options.limit f5 name q found.bodies
    list_with found = go s.none refl
      where
        s : IsSettled p plan.depth plan.bad.items q
        s = pw.settles

        go : (b : Bool) → s.none ≡ b → Between options.least options.limit f5 name q found.bodies
        go true e = let zero = s.empty.0 e in at_start found.bodies (nil_from_length found.bodies (found.count ∙ zero)) (nothing_with zero)
        go false e =
            settled_list found s.read_bad s.write_bad s.read s.write (λ zero. (let contra : false ≡ true = sym e ∙ s.empty.1 zero in cc)) (s.is ∙ ap (λ (b : Bool). settled p b s.read_bad s.write_bad) e)

    pub listed_with : Listed
    listed_with = elim pw.found [
      | inl none ↦ record {
        bodies = [];
        found = subst (λ (ns : List ℕ). IsFound options.least options.limit f0 name (Records [] ns)) (sym none.2) (empty says.text (record { depth = says.depth; positions = p }) says.there says.is none.0);
        count = sym none.1;
        list = at_start [] refl (nothing_with none.1);
        nothing = λ _. nothing_with none.1;
      }
      | inr f ↦ record {
        bodies = f.1.bodies;
        found = walked says.text (record { depth = says.depth; positions = p }) says.there says.is f.0 f.1.walks;
        count = f.1.count;
        list = list_with f.1;
        nothing = λ none. nothing_with (sym f.1.count ∙ ap length none);
      }
    ]

  pub listed_without : f0 (meta_file name) ≡ None → Listed
  listed_without none =
      let pw = pl.without none in
      let end : IsAtEnd q × (q.write_at ≡ 0) = subst (λ (x : Positions). IsAtEnd x × (x.write_at ≡ 0)) (sym pw.positions) ((refl, refl), refl) in
      record {
        bodies = [];
        found = subst (λ (ns : List ℕ). IsFound options.least options.limit f0 name (Records [] ns)) (sym pw.bad) (fresh none);
        count = sym pw.depth;
        list = at_start [] refl end;
        nothing = λ _. end;
      }

  pub listed : Listed
  listed = elim pl.either [ inl none ↦ listed_without none | inr s ↦ listed_with s.0 s.1 (pl.with_meta s.0 s.1) ]

  pub ends_all : length (content f5 name q.write_file) ≡ q.write_at
  ends_all = ap (λ (o : Option (List ℕ)). length (unwrap_or o [])) (data_later q.write_file (omega (arith, high)) order) ∙ t.ends

  -- the name with `.bad` of a file that is no data file
  pub aside_own : (own : List ℕ) → IsOwnFile name own → ((j : ℕ) → j < 2 ^ 64 → own ≢ data_file name j) → f5 (set_aside own) ≡ f0 (set_aside own)
  aside_own own is apart =
      ow (set_aside own) (λ e. aside_apart name own (meta_file name) (metadata refl) (sym e)) (λ e. aside_apart name own (meta_temp name) (written refl) (sym e))
      (λ j _ before e. aside_apart name own (data_file name j) (numbered j (omega (arith, before, order, high)) refl) (sym e))
      ∙ ot (set_aside own) (λ j few _ _. (λ e. aside_apart name own (data_file name j) (numbered j few refl) (sym e), λ e. apart j few (append_cancel_right own (data_file name j) (codes ".bad") e)))
      (λ j _ below e. let low = i.below in aside_apart name own (data_file name j) (numbered j (omega (arith, below, low, order, high)) refl) (sym e))
      (λ e. aside_apart name own (data_file name q.write_file) (numbered q.write_file (omega (arith, high)) refl) (sym e))

  module _ (w : IsWritten name plan f5) where
    -- no file is left below the read file
    pub gone_below : (k : ℕ) → k < q.read_file → f5 (data_file name k) ≡ None
    gone_below k low = go (f5 (data_file name k)) refl
      where
        fits : k < 2 ^ 64
        fits = omega (arith, low, order, high)

        go : (o : Option (List ℕ)) → f5 (data_file name k) ≡ o → f5 (data_file name k) ≡ None
        go None e = e
        go (Some x) e =
            let not : ¬ Contains plan.numbers.items k = λ its. none_some (f5 (data_file name k)) (w.removed k its low) (some_is (f5 (data_file name k)) x e) in
            let apart = metadata_apart name k fits in
            let later : f5 (data_file name k) ≡ f4 (data_file name k)
            = ow (data_file name k) (λ a. apart.0 (sym a)) (λ a. apart.1 (sym a))
            (λ j its before. data_apart name k j fits (omega (arith, before, order, high)) (λ a. not (subst (λ (n : ℕ). Contains plan.numbers.items n) (sym a) its))) in
            let before : f4 (data_file name k) ≡ f0 (data_file name k)
            = ot (data_file name k) (λ j few _ some. (data_apart name k j fits few (λ a. not (subst (λ (n : ℕ). Contains plan.numbers.items n) (sym a) (pl.numbers j few some))), data_not_aside name k j fits))
            (λ j its below. let low' = i.below in data_apart name k j fits (omega (arith, below, low', order, high)) (λ a. not (subst (λ (n : ℕ). Contains plan.numbers.items n) (sym a) its)))
            (data_apart name k q.write_file fits (omega (arith, high)) (λ a. omega (arith, a, low, order))) in
            absurd (not (pl.numbers k fits (some_is (f0 (data_file name k)) x (sym before ∙ sym later ∙ e))))

    none_later : (k : ℕ) → k < 2 ^ 64 → f4 (data_file name k) ≡ None → f5 (data_file name k) ≡ None
    none_later k fits none = elim (cases_lt k q.read_file) [ inl below ↦ gone_below k below | inr from ↦ data_later k fits from ∙ none ]

    -- what is set aside is so at the end
    pub aside_all : (k : ℕ) → k < 2 ^ 64 → SetsAside plan k → IsSetAside name f0 f5 q.write_file k
    aside_all k fits its =
        let m = t.aside k fits its in record { moved = λ some. aside_later k ∙ m.moved some; gone = λ apart. none_later k fits (m.gone apart); stays = λ none. aside_later k ∙ m.stays none }

    -- and so is a number without a file
    pub aside_none : (k : ℕ) → k < 2 ^ 64 → plan.below ≤ k → f0 (data_file name k) ≡ None → IsSetAside name f0 f5 q.write_file k
    aside_none k fits from none = record {
      moved = λ some. absurd (none_some (f0 (data_file name k)) none some);
      gone = λ apart. none_later k fits (ot (data_file name k) (λ j few _ some. (data_apart name k j fits few (λ e. other j e some), data_not_aside name k j fits)) removed (data_apart name k q.write_file fits (omega (arith, high)) apart) ∙ none);
      stays = λ _. aside_later k ∙ ot (set_aside (data_file name k)) (λ j few _ some. (aside_not_data name k j few, asides_apart name k j fits few (λ e. other j e some)))
          (λ j _ below. let low = i.below in aside_not_data name k j (omega (arith, below, low, order, high))) (aside_not_data name k q.write_file (omega (arith, high)));
    }
      where
        other : (j : ℕ) → k ≡ j → IsSome (f0 (data_file name j)) → ⊥
        other j e some = none_some (f0 (data_file name j)) (subst (λ (n : ℕ). f0 (data_file name n) ≡ None) e none) some

        removed : (j : ℕ) → Contains plan.numbers.items j → j < plan.below → data_file name k ≢ data_file name j
        removed j its below = data_apart name k j fits (omega (arith, below, from, fits)) (λ e. omega (arith, e, below, from))

    -- a number that is set aside where it has a file
    pub aside_from : (k : ℕ) → k < 2 ^ 64 → plan.above ≤ k → IsSetAside name f0 f5 q.write_file k
    aside_from k fits low = go (f0 (data_file name k)) refl
      where
        go : (o : Option (List ℕ)) → f0 (data_file name k) ≡ o → IsSetAside name f0 f5 q.write_file k
        go None e = let between = i.apart in aside_none k fits (omega (arith, between, low)) e
        go (Some x) e = aside_all k fits (inl (pl.numbers k fits (some_is (f0 (data_file name k)) x e), low))

    pub tidied_at : (p : Positions) → Says (f0 (meta_file name)) p → IsTidiedAt name f0 f5 p plan.bad.items q
    tidied_at p says =
        let pw = pl.with_meta p says in
        let s = pw.settles in
        let is = says.is in
        let range = is.in_range in
        let p_fits = range.write_file in
        let from = i.below in
        record {
          removed = λ k low. gone_below k (omega (arith, low, from, pw.below));
          above = λ k low fits. aside_from k fits (omega (arith, low, pw.above));
          bad = λ k its. let h = i.bad k its in aside_all k (omega (arith, h.1, pw.above, p_fits)) (inr its);
          kept_aside = λ k low lacks.
              let fits : k < 2 ^ 64 = omega (arith, low, p_fits) in
              aside_later k
              ∙ ot (set_aside (data_file name k))
              (λ j few its _. (aside_not_data name k j few, asides_apart name k j fits few (λ e. not_aside p says pw k low lacks (subst (λ (n : ℕ). SetsAside plan n) (sym e) its))))
              (λ j _ below. aside_not_data name k j (omega (arith, below, from, order, high))) (aside_not_data name k q.write_file (omega (arith, high)));
          good = λ k at before lacks. good_same p says pw k at (omega (arith, at, from, pw.below)) before lacks;
          same_write = λ lacks.
              let same : q.write_file ≡ p.write_file
              = ap (λ (x : Positions). x.write_file) s.is ∙ settled_write p s.none s.read_bad s.write_bad ∙ cond_else s.write_bad (min (p.write_file + 1) (2 ^ 40)) p.write_file (λ h. lacks (s.write.0 h)) in (
                same,
                subst (λ (k : ℕ). f5 (data_file name k) ≡ Some (cut_to (content f0 name k) q.write_at)) same
                    (data_later q.write_file (omega (arith, high)) order
                    ∙ t.cut (not_aside p says pw q.write_file (omega (arith, same)) (λ its. lacks (subst (λ (n : ℕ). Contains plan.bad.items n) same its)))),
              );
          next_write = λ its.
              let true_is = s.write.1 its in (
                ap (λ (x : Positions). x.write_file) s.is ∙ settled_write p s.none s.read_bad s.write_bad ∙ cond_then s.write_bad (min (p.write_file + 1) (2 ^ 40)) p.write_file true_is,
                ap (λ (x : Positions). x.write_at) s.is ∙ settled_zero p s.none s.read_bad s.write_bad true_is,
              );
        }
      where
        cond_else : (b : Bool) (m n : ℕ) → ¬ IsTrue b → cond b m n ≡ n
        cond_else true m n h = absurd (h refl)
        cond_else false m n h = refl

        cond_then : (b : Bool) (m n : ℕ) → IsTrue b → cond b m n ≡ m
        cond_then true m n h = refl
        cond_then false m n h = let contra : false ≡ true = h in cc

        settled_zero : (p : Positions) (none read_bad write_bad : Bool) → IsTrue write_bad → (settled p none read_bad write_bad).write_at ≡ 0
        settled_zero p true read_bad write_bad h = refl
        settled_zero p false read_bad true h = refl
        settled_zero p false read_bad false h = let contra : false ≡ true = h in cc
