use Rattle.std.proofs.Common.{length-take, take-append-drop, sym, arith}
use Rattle.v2_frame.specs.Judging.{open_line, endless_line}
use Rattle.v2_frame.proofs.PlaceLemmas.{HasNo_take}
use Rattle.v2_frame.proofs.judge.open_line.Goals as goal

pub returns-then-bytes-lt-TOO_LONG_LINE-clause-verdict : goal.returns-then-bytes-lt-TOO_LONG_LINE-clause-verdict
returns-then-bytes-lt-TOO_LONG_LINE-clause-verdict c = λ limits. open_line c.requires c.if-bytes-lt-TOO_LONG_LINE.true

pub returns-else-bytes-lt-TOO_LONG_LINE-clause-verdict : goal.returns-else-bytes-lt-TOO_LONG_LINE-clause-verdict
returns-else-bytes-lt-TOO_LONG_LINE-clause-verdict c = λ limits.
    endless_line (record { whole = sym (take-append-drop 16386 c.args.bytes.now); long = simp length-take (omega arith) }) (HasNo_take 10 16386 c.args.bytes.now c.requires)
