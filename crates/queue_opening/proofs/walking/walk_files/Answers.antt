use Rattle.std.proofs.Common.{◌≡◌, ◌∙◌, List, ℕ, [], Option, unwrap_or, ap, subst, arith, refl}
use Rattle.std.specs.List.{Contains}
use Rattle.queue_image.specs.FileNames.{data_file}
use Rattle.queue_image.specs.Between.{content}
use Rattle.queue_opening.specs.Walked.{GivesOf, GivesCounts, WalksUpTo}
use Rattle.queue_opening.proofs.Walks.{walk_on, walk_step, walk_within, walk_depth, walk_fits, given_earlier, first_walk, file_order}
use Rattle.queue_opening.proofs.walking.walk_files.Goals as goal

pub loop-number-init : goal.loop-number-init
loop-number-init g c =
    let p = c.args.positions.now in
    record {
      name = refl;
      low = omega arith;
      high = file_order p c.requires.order;
      within = λ k its. absurd (let h = subst (λ (ns : List ℕ). Contains ns k) c.new.ensures.items its in omega (arith, h.1));
      depth = omega arith;
      same = λ told file. refl;
      walks = λ told has. first_walk c.args.options.now.least c.args.options.now.limit p (content (g.F.Folder.files c.args.folder.now) c.args.files.now) c.new.result.items c.new.ensures.items;
      exact = λ counts. refl;
      faults = omega arith;
    }

pub loop-number-preserved : goal.loop-number-preserved
loop-number-preserved g c =
    let i = c.loop-number.invariant in
    let p = c.args.positions.now in
    let k = c.loop-number.number in
    let next = c.next_number-number.ensures in
    let before = c.loop-number-test.true in
    let range = c.requires.range in
    let high = range.write_file in
    let given = c.given_by-gives.ensures in
    let after = next.low (omega (arith, before)) in
    record {
      name = given.name ∙ i.name;
      low = omega (arith, after, i.low);
      high = next.high;
      within = λ j its.
          let h = walk_within p.read_file k c.loop-number.walk c.add.new.self c.given_by-gives.result i.low c.in-Ok.ensures.added i.within j its in (h.0, omega (arith, h.1, after));
      depth = let d = walk_depth p k c.loop-number.walk c.add.new.self c.given_by-gives.result given.within c.in-Ok.ensures.added i.depth in omega (arith, d, after);
      same = λ told file. given.same told file ∙ i.same told file;
      walks = λ told has.
          let old = g.F.Folder.files c.args.folder.now in
          let now = g.F.Folder.files c.loop-number.folder in
          let here : content now c.loop-number.files k ≡ content old c.args.files.now k
          = ap (λ (name : List ℕ). content now name k) i.name ∙ ap (λ (o : Option (List ℕ)). unwrap_or o []) (i.same told (data_file c.args.files.now k)) in
          walk_step c.args.options.now.least c.args.options.now.limit p old c.args.files.now c.args.numbers.now k c.next_number-number.result c.loop-number.walk c.add.new.self c.given_by-gives.result
          high i.low before has next c.in-Ok.ensures.added
          (subst (λ (x : List ℕ). GivesOf c.args.options.now.least c.args.options.now.limit p k x c.given_by-gives.result) here (given.gives told)) (i.walks told has);
      exact = λ counts. c.in-Ok.ensures.exact (g.F.Folder.folder_faults c.loop-number.folder) (g.F.Folder.folder_faults c.given_by-gives.new.folder) (given.exact counts) ∙ i.exact counts;
      faults = omega (arith, given.faults, i.faults);
    }

pub returns-in-Err : goal.returns-in-Err
returns-in-Err g c =
    let i = c.loop-number.invariant in
    let given = c.given_by-gives.ensures in
    let first = g.F.Folder.folder_faults c.args.folder.now in
    let mid = g.F.Folder.folder_faults c.loop-number.folder in
    let now = g.F.Folder.folder_faults c.given_by-gives.new.folder in
    record {
      name = given.name ∙ i.name;
      walk = λ told has. tt;
      fits = tt;
      meta = c.in-Err.ensures.meta;
      same = λ told file. given.same told file ∙ i.same told file;
      faults = omega (arith, given.faults, i.faults);
      cause = c.in-Err.ensures.cause first now (given_earlier first mid now c.given_by-gives.result i.faults given.cause);
      exact = λ counts. c.in-Err.ensures.exact first now (subst (λ (n : ℕ). GivesCounts n now c.given_by-gives.result) (i.exact counts) (given.exact counts));
    }

pub returns-in-Err-add : goal.returns-in-Err-add
returns-in-Err-add g c =
    let i = c.loop-number.invariant in
    let given = c.given_by-gives-2.ensures in
    let first = g.F.Folder.folder_faults c.args.folder.now in
    let mid = g.F.Folder.folder_faults c.loop-number.folder in
    let now = g.F.Folder.folder_faults c.given_by-gives-2.new.folder in
    record {
      name = given.name ∙ i.name;
      walk = λ told has. tt;
      fits = tt;
      meta = c.in-Err-add.ensures.meta;
      same = λ told file. given.same told file ∙ i.same told file;
      faults = omega (arith, given.faults, i.faults);
      cause = c.in-Err-add.ensures.cause first now (given_earlier first mid now c.given_by-gives-2.result i.faults given.cause);
      exact = λ counts. c.in-Err-add.ensures.exact first now (subst (λ (n : ℕ). GivesCounts n now c.given_by-gives-2.result) (i.exact counts) (given.exact counts));
    }

pub returns-in-Ok-add : goal.returns-in-Ok-add
returns-in-Ok-add g c =
    let i = c.loop-number.invariant in
    let given = c.given_by-gives-2.ensures in
    let p = c.args.positions.now in
    let now = g.F.Folder.folder_faults c.given_by-gives-2.new.folder in
    let arrived : c.loop-number.number ≡ p.write_file = omega (arith, i.high, c.loop-number-test.false) in
    record {
      name = given.name ∙ i.name;
      walk = λ told has.
          let least = c.args.options.now.least in
          let limit = c.args.options.now.limit in
          let last = p.write_file in
          let old = g.F.Folder.files c.args.folder.now in
          let now = g.F.Folder.files c.loop-number.folder in
          let bytes = content old c.args.files.now in
          let here : content now c.loop-number.files last ≡ bytes last
          = ap (λ (name : List ℕ). content now name last) i.name ∙ ap (λ (o : Option (List ℕ)). unwrap_or o []) (i.same told (data_file c.args.files.now last)) in
          walk_on least limit p bytes last c.loop-number.walk c.add-2.new.self c.given_by-gives-2.result
          (subst (λ (x : List ℕ). GivesOf least limit p last x c.given_by-gives-2.result) here (given.gives told)) c.in-Ok-add.ensures.added
          (subst (λ (k : ℕ). WalksUpTo least limit p bytes k c.loop-number.walk.depth c.loop-number.walk.bad.items) arrived (i.walks told has));
      fits =
          walk_fits p c.loop-number.walk c.add-2.new.self c.given_by-gives-2.result (file_order p c.requires.order) given.within c.in-Ok-add.ensures.added
          (λ k its. let h = i.within k its in (h.0, omega (arith, h.1, arrived))) (omega (arith, i.depth, arrived));
      meta = tt;
      same = λ told file. given.same told file ∙ i.same told file;
      faults = omega (arith, given.faults, i.faults);
      cause = tt;
      exact = λ counts.
          c.in-Ok-add.ensures.exact (g.F.Folder.folder_faults c.args.folder.now) now (subst (λ (n : ℕ). GivesCounts n now c.given_by-gives-2.result) (i.exact counts) (given.exact counts));
    }
