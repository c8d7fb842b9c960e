use Rattle.daemon_main.proofs.Telling.{line_told, no_line_told}
use Rattle.std.proofs.Common.{refl, sym}
use Rattle.daemon_main.proofs.program.tell_line.Goals as goal

pub returns-in-Some-clause-content : goal.returns-in-Some-clause-content
returns-in-Some-clause-content g c = λ told. line_told _ c.in-Some.text.now (g.H.Host.content c.args.host.now) (g.H.Host.content c.tell.new.self) _ _ (sym c.in-Some.ensures) (c.tell.ensures.content told)

pub returns-in-None-clause-content : goal.returns-in-None-clause-content
returns-in-None-clause-content g c = λ told. no_line_told _ (g.H.Host.content c.args.host.now) (g.H.Host.content c.args.host.now) _ _ (sym c.in-None.ensures) refl
