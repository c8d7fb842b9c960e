use Rattle.std.proofs.Common.{true, false, refl, ◌≡◌, Some, None, ap, sym, ◌∙◌}
use Rattle.queue_image.specs.Finds.IsFound.{fresh, spoilt, empty}
use Rattle.queue_image.specs.FileNames.{meta_file}
use Rattle.path_plain.specs.Folders.{files_of}
use Rattle.path_plain.proofs.Listed.{walk_is_found}
use Rattle.path_plain.proofs.finding.found_queue.Goals as goal

pub returns-in_default : goal.returns-in_default
returns-in_default c =
    let name : c.as_str.result.now ≡ meta_file c.args.name.now = c.as_str.ensures.value ∙ c.in_ok-meta_file.ensures in
    let none : files_of c.args.files.now (meta_file c.args.name.now) ≡ None = ap (files_of c.args.files.now) (sym name) ∙ sym c.in_default.ensures in
    rw c.nothing.ensures (fresh none)

pub returns-in_default-read_meta : goal.returns-in_default-read_meta
returns-in_default-read_meta c =
    let name : c.as_str.result.now ≡ meta_file c.args.name.now = c.as_str.ensures.value ∙ c.in_ok-meta_file.ensures in
    let some : files_of c.args.files.now (meta_file c.args.name.now) ≡ Some c.in-Some.text.now = ap (files_of c.args.files.now) (sym name) ∙ sym c.in-Some.ensures in
    spoilt c.in-Some.text.now some c.in_default-read_meta.ensures

pub returns-then-at_end : goal.returns-then-at_end
returns-then-at_end c =
    let name : c.as_str.result.now ≡ meta_file c.args.name.now = c.as_str.ensures.value ∙ c.in_ok-meta_file.ensures in
    let some : files_of c.args.files.now (meta_file c.args.name.now) ≡ Some c.in-Some.text.now = ap (files_of c.args.files.now) (sym name) ∙ sym c.in-Some.ensures in
    let meta = c.in-Some-read_meta.ensures in
    rw c.nothing-then-at_end.ensures
    (empty c.in-Some.text.now (record { depth = meta.0; positions = c.in-Some-read_meta.positions }) some meta.1 (c.if-at_end.ensures.0 refl))

pub returns : goal.returns
returns c =
    let name : c.as_str.result.now ≡ meta_file c.args.name.now = c.as_str.ensures.value ∙ c.in_ok-meta_file.ensures in
    let some : files_of c.args.files.now (meta_file c.args.name.now) ≡ Some c.in-Some.text.now = ap (files_of c.args.files.now) (sym name) ∙ sym c.in-Some.ensures in
    let meta = c.in-Some-read_meta.ensures in
    walk_is_found c.args.least c.args.limit (files_of c.args.files.now) c.args.name.now c.in-Some.text.now meta.0 c.in-Some-read_meta.positions c.walk.result some meta.1
    (λ at. let bad : false ≡ true = c.if-at_end.ensures.1 at in cc) c.walk.ensures
