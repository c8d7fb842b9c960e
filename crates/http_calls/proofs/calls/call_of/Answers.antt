use Rattle.http_calls.proofs.AskLemmas.{all_can, all_status}
use Rattle.http_calls.proofs.calls.call_of.Goals as goal

pub returns-clause-can_be_asked : goal.returns-clause-can_be_asked
returns-clause-can_be_asked c = all_can c.args.options.now c.requires c.args.began c.args.request c.judged.result c.judged.ensures

pub returns-clause-status : goal.returns-clause-status
returns-clause-status c = all_status c.args.options.now c.args.began c.args.request c.judged.result c.judged.ensures
