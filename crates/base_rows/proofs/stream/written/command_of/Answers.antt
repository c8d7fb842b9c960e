use Rattle.std.proofs.Common.{◌≡◌, ◌^◌, ◌<◌, ℕ, arith, drop}
use Rattle.v2_frame.specs.Judging.{Whole, Judged}
use Rattle.base_rows.proofs.WritableLemmas.{judged_can_write}
use Rattle.base_rows.proofs.stream.written.command_of.Goals as goal

pub returns-in-Whole : goal.returns-in-Whole
returns-in-Whole g c = judged_can_write _ c.args.bytes.now _ c.in-Whole.command (omega arith) (omega arith) (rw c.in-Whole.is at (rw c.expect.ensures at c.judge_front.ensures.verdict))
