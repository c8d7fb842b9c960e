use Rattle.base_rows.specs.Keeps.{KeepsNumbers, IsReady}
use Rattle.base_rows.proofs.turnstiles.threads.append_many.Given as goal

abbrev pub invariant-loop-value : goal.invariant-loop-value
invariant-loop-value g l = record { ready : IsReady l.turnstile l.pass; kept : KeepsNumbers l.initial.pass l.pass }
