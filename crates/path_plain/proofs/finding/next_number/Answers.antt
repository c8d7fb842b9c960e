use Rattle.std.proofs.Common.{arith, ℕ, List, subst}
use Rattle.queue_image.specs.Answered.{NumbersFile}
use Rattle.path_plain.proofs.Listed.{still_absent}
use Rattle.path_plain.proofs.finding.next_number.Goals as goal

pub loop-file-preserved : goal.loop-file-preserved
loop-file-preserved c = record {
  low = c.nearer-next.ensures.least c.loop-file.invariant.low;
  high = omega (arith, c.nearer-next.ensures.most, c.loop-file.invariant.high);
  absent = λ k low high. still_absent c.args.files.now c.loop-file.file-index c.file-item.result c.args.name.now c.in_ok-number.number c.args.from c.loop-file.next c.nearer-next.result k
      c.loop-file-test.true c.file-item.is c.loop-file.invariant.absent
      (subst (λ (f : List ℕ). NumbersFile c.args.name.now f c.in_ok-number.number) c.bytes.ensures c.in_ok-number.ensures)
      c.nearer-next.ensures.most c.nearer-next.ensures.number c.nearer-next.type_inv low high;
}
