use Rattle.std.proofs.Common.{◌≡◌, ◌∙◌, List, ℕ, [], Option, unwrap_or, length, ap, subst, arith}
use Rattle.std.specs.List.{slice_range}
use Rattle.queue_image.specs.FileNames.{data_file}
use Rattle.queue_image.specs.Between.{content}
use Rattle.queue_opening.specs.Walked.{RowGives}
use Rattle.queue_opening.proofs.Sizes.{file_gives}
use Rattle.queue_image.specs.Places.{part_end}
use Rattle.queue_image.specs.Finds.IsBadFile.{read_past, write_past}
use Rattle.queue_opening.proofs.walking.given_by.Goals as goal

pub returns-clause-gives : goal.returns-clause-gives
returns-clause-gives g c = λ told.
    let least = c.args.options.now.least in
    let limit = c.args.options.now.limit in
    let bytes = content (g.F.Folder.files c.args.folder.now) c.args.files.now c.args.number in
    let mid = g.F.Folder.files c.len.new.folder in
    let here : content mid c.len.new.self c.args.number ≡ bytes
    = ap (λ (name : List ℕ). content mid name c.args.number) c.in-Some.ensures.name
    ∙ ap (λ (o : Option (List ℕ)). unwrap_or o []) (c.in-Some.ensures.same told (data_file c.args.files.now c.args.number)) in
    let long = c.in-Some.ensures.length told in
    file_gives least limit c.args.positions.now c.args.number c.start_in-start.result c.end_in-end.result c.in-Some.len bytes c.count_row.result
    c.start_in-start.ensures c.end_in-end.ensures long c.if-start-len.false c.if-end-len.false
    (subst (λ (x : List ℕ). RowGives least limit (slice_range x c.start_in-start.result c.end_in-end.result) c.count_row.result) here
    (c.count_row.ensures.row told (omega (arith, ap (λ (x : List ℕ). length x) here, long, c.if-end-len.false))))

pub returns-then-start-len : goal.returns-then-start-len
returns-then-start-len g c =
    let measured = c.in-Some.ensures in
    record {
      name = measured.name;
      gives = λ told. read_past (omega (arith, measured.length told, c.start_in-start.ensures, c.if-start-len.true));
      within = tt;
      same = measured.same;
      faults = measured.faults;
      cause = tt;
      exact = measured.exact;
    }

pub returns-then-end-len : goal.returns-then-end-len
returns-then-end-len g c =
    let measured = c.in-Some.ensures in
    record {
      name = measured.name;
      gives = λ told.
          let long = measured.length told in
          write_past (omega (arith, long, ap (part_end c.args.positions.now c.args.number) long, c.end_in-end.ensures, c.if-end-len.true));
      within = tt;
      same = measured.same;
      faults = measured.faults;
      cause = tt;
      exact = measured.exact;
    }

pub returns-in_default : goal.returns-in_default
returns-in_default g c = record {
  name = c.in_default.ensures.name;
  gives = λ told. tt;
  within = tt;
  same = c.in_default.ensures.same;
  faults = c.in_default.ensures.faults;
  cause = c.in_default.ensures.cause;
  exact = c.in_default.ensures.exact;
}
