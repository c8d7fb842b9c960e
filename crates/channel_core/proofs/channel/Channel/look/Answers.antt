use Rattle.channel_core.proofs.Looking.{look_none, look_yours, look_other}
use Rattle.channel_core.proofs.channel.Channel.look.Goals as goal

pub returns-in-None : goal.returns-in-None
returns-in-None c = look_none c.args.id c.args.self.now c.self.view_is c.in-None.ensures

pub returns-then-flight-client : goal.returns-then-flight-client
returns-then-flight-client c = look_yours c.args.client c.args.id c.in-Some.flight.now c.args.self.now c.self.view_is c.in-Some.ensures c.if-flight-client.true

pub returns-else-flight-client : goal.returns-else-flight-client
returns-else-flight-client c = look_other c.args.client c.args.id c.in-Some.flight.now c.args.self.now c.self.view_is c.in-Some.ensures c.if-flight-client.false
