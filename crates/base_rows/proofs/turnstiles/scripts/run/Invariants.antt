use Rattle.base_rows.specs.Keeps.{KeepsNumbers, IsReady}
use Rattle.base_rows.proofs.turnstiles.scripts.run.Given as goal

abbrev pub invariant-loop-step : goal.invariant-loop-step
invariant-loop-step g l = record {
  first : IsReady l.turnstile l.first;
  one : IsReady l.turnstile l.one;
  two : IsReady l.turnstile l.two;
  kept_first : KeepsNumbers l.initial.first l.first;
  kept_one : KeepsNumbers l.initial.one l.one;
  kept_two : KeepsNumbers l.initial.two l.two;
}
