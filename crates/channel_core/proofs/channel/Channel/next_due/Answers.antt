use Rattle.channel_core.proofs.Dues.{tells_next}
use Rattle.std.proofs.Common.{subst, sym}
use Rattle.channel_core.specs.Answers.{IsNextDue}
use Rattle.channel_core.specs.Seen.{channel_with}
use Rattle.channel_core.proofs.channel.Channel.next_due.Goals as goal

pub returns : goal.returns
returns c = λ waits. subst (IsNextDue (channel_with c.args.self.now waits)) (sym c.sooner_of.ensures) (tells_next c.next_due-flight.result c.next_due-waiting.result c.args.self.now c.self.view_is c.next_due-flight.ensures c.next_due-waiting.ensures waits)
