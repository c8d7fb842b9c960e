use Rattle.std.proofs.lemmas.Result.{IfOk-weaker}
use Rattle.nsqd_words.proofs.Commands.{fifteen, whole}
use Rattle.nsqd_words.proofs.command.nsqd_command.Goals as goal

pub all_args-requires : goal.all_args-requires
all_args-requires c = fifteen c.options.result.now c.options.ensures

pub returns : goal.returns
returns c = IfOk-weaker c.args-2.result _ _ (λ command adds. whole c.bare_command.result command c.in_ok-list.list.items c.options.result.now c.bare_command.ensures c.options.ensures c.in_ok-list.ensures adds) c.args-2.ensures
