use Rattle.std.proofs.Common.{ap, ◌∙◌}
use Rattle.broker_history.specs.State.{is_live}
use Rattle.history_laws.specs.Laws.{Becomes}
use Rattle.broker_history.proofs.Counting.{live_moves, live_joins, live_counts, kept_taken}
use Rattle.history_laws.proofs.kept.Goals as goal

pub returns : goal.returns
returns c = record {
  moves = λ from to kept kept' copies live s h. live_moves (Becomes from to) kept kept' copies (λ x y r. ap (λ z. is_live z.place) r.0 ∙ live) s h;
  joins = live_joins;
  counts = live_counts;
  taken = kept_taken;
}
