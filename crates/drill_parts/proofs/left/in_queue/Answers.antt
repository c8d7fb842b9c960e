use Rattle.std.proofs.Common.{true, false, refl, ◌≡◌, [], Some, ap, sym, ◌∙◌, inl, inr}
use Rattle.queue_image.specs.FileNames.{meta_file}
use Rattle.queue_image.specs.Finds.IsFound.{empty, spoilt, walked}
use Rattle.queue_image.proofs.Walking.{behind_or_end}
use Rattle.path_image.specs.Found.{least_record, longest_record}
use Rattle.nsq_fakes.specs.MemFolders.{files_in}
use Rattle.drill_parts.proofs.Lefts.{bad_queue_none, queue_counts}
use Rattle.drill_parts.proofs.left.in_queue.Goals as goal

pub returns-in_default-read_meta : goal.returns-in_default-read_meta
returns-in_default-read_meta c =
    let files = files_in c.args.folder.now in
    let name : c.as_str.result.now ≡ meta_file c.args.name.now = c.as_str.ensures.value ∙ c.in_ok-meta_file.ensures in
    let some : files (meta_file c.args.name.now) ≡ Some c.in-Some.text.now = ap files (sym name) ∙ sym c.in-Some.ensures in
    bad_queue_none files c.args.name.now (spoilt c.in-Some.text.now some c.in_default-read_meta.ensures)

pub returns-then-at_end : goal.returns-then-at_end
returns-then-at_end c =
    let files = files_in c.args.folder.now in
    let name : c.as_str.result.now ≡ meta_file c.args.name.now = c.as_str.ensures.value ∙ c.in_ok-meta_file.ensures in
    let some : files (meta_file c.args.name.now) ≡ Some c.in-Some.text.now = ap files (sym name) ∙ sym c.in-Some.ensures in
    let meta = c.in-Some-read_meta.ensures in
    queue_counts files c.args.name.now [] [] 0
    (empty c.in-Some.text.now (record { depth = meta.0; positions = c.in-Some-read_meta.positions }) some meta.1 (c.if-at_end.ensures.0 refl)) refl

pub returns : goal.returns
returns c =
    let files = files_in c.args.folder.now in
    let name : c.as_str.result.now ≡ meta_file c.args.name.now = c.as_str.ensures.value ∙ c.in_ok-meta_file.ensures in
    let some : files (meta_file c.args.name.now) ≡ Some c.in-Some.text.now = ap files (sym name) ∙ sym c.in-Some.ensures in
    let meta = c.in-Some-read_meta.ensures in
    let walk = c.in_ok-walk.ensures in
    queue_counts files c.args.name.now walk.bodies walk.bad c.in_ok-walk.field-0
    (walked c.in-Some.text.now (record { depth = meta.0; positions = c.in-Some-read_meta.positions }) some meta.1
    (elim (behind_or_end least_record longest_record c.in-Some-read_meta.positions meta.1.ordered) [ inl at ↦ absurd (let bad : false ≡ true = c.if-at_end.ensures.1 at in cc) | inr behind ↦ behind ]) walk.walk)
    walk.count_is
