use Rattle.daemon_main.proofs.Asking.{starts_with}
use Rattle.daemon_main.proofs.run.start.Goals as goal

pub returns-clause-content : goal.returns-clause-content
returns-clause-content g c = λ told. starts_with _ _ _ _ _ _ _ _ _ c.text_of-tcp.ensures c.text_of-http.ensures c.text_of-path.ensures (c.start.ensures.content told)
