use Rattle.broker_history.proofs.Scripting.{talk_at_front, talk_script}
use Rattle.history_laws.proofs.talks.Goals as goal

pub returns : goal.returns
returns c = record { in_order = talk_at_front; all = talk_script }
