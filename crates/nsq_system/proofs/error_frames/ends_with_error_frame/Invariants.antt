use Rattle.std.proofs.Common.{length}
use Rattle.nsq_system.specs.Frames.{EndsInError}
use Rattle.nsq_system.proofs.error_frames.ends_with_error_frame.Given as goal

abbrev pub decreases-loop-front : goal.decreases-loop-front
decreases-loop-front l = length l.rest

abbrev pub invariant-loop-front : goal.invariant-loop-front
invariant-loop-front l = (EndsInError l.bytes → EndsInError l.rest) × (EndsInError l.rest → EndsInError l.bytes)
