use Rattle.std.proofs.Common.{◌≡◌, List, ℕ, [], unwrap_or, ap, ◌∙◌, inl, inr, arith}
use Rattle.queue_image.specs.Between.{content}
use Rattle.nsq_fakes.specs.MemFolders.{files_in}
use Rattle.drill_parts.proofs.Lefts.{walk_begins, walk_next}
use Rattle.drill_parts.proofs.left.walk.Goals as goal

pub loop-number-init : goal.loop-number-init
loop-number-init c = record {
  high = elim c.requires.order [ inl lt ↦ omega arith | inr h ↦ omega (arith, h.0) ];
  walks = walk_begins c.args.positions (content (files_in c.args.folder.now) c.args.name.now);
}

pub loop-number-preserved : goal.loop-number-preserved
loop-number-preserved c =
    let bytes = content (files_in c.args.folder.now) c.args.name.now in
    let k = c.loop-number.number in
    let file = c.as_str.ensures.value ∙ c.in_ok-file.ensures in
    let here : c.content_of-bytes.result.now ≡ bytes k = c.content_of-bytes.ensures ∙ ap (λ (f : List ℕ). unwrap_or (files_in c.args.folder.now f) []) file in
    record {
      high = omega (arith, c.loop-number-test.true);
      walks = walk_next c.args.positions bytes k c.content_of-bytes.result.now c.loop-number.sum c.in_ok-in_file.field-0 c.in_ok-sum.sum here c.loop-number.invariant.walks c.in_ok-in_file.ensures c.in_ok-sum.ensures;
    }
