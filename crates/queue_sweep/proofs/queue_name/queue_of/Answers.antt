use Rattle.std.proofs.Common.{List, ℕ, subst}
use Rattle.queue_sweep.specs.Forms.{HasForm}
use Rattle.queue_sweep.proofs.Colons.{found_queue}
use Rattle.queue_sweep.proofs.queue_name.queue_of.Goals as goal

pub returns : goal.returns
returns c = found_queue c.args.file.now c.in-Some.stem.now c.read_name.result (subst (λ (x : List ℕ). HasForm c.in-Some.stem.now x) c.as_bytes.ensures.value c.in-Some.ensures) c.read_name.ensures
