use Rattle.std.proofs.Common.{◌∙◌, sym}
use Rattle.channel_core.proofs.Looking.{flying_now}
use Rattle.channel_core.proofs.channel.Channel.in_flight.Goals as goal

pub returns : goal.returns
returns c = λ waits. c.count.ensures ∙ sym (flying_now c.args.client c.args.self.now c.self.view_is waits)
