use Rattle.std.proofs.lemmas.Result.{IfOk-weaker}
use Rattle.daemon_main.proofs.program.drilled_text.Goals as goal

pub returns : goal.returns
returns g c = IfOk-weaker c.text_of-text.result _ _ (λ text e. record { drilled = c.in_ok-drilled.drilled; has_drilled = c.in_ok-drilled.ensures; is = e }) c.text_of-text.ensures
