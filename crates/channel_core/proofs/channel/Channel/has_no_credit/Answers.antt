use Rattle.std.proofs.Common.{sym, subst, IsSome}
use Rattle.channel_copies.specs.Clients.{client_of}
use Rattle.channel_core.specs.Seen.{Seen}
use Rattle.channel_core.proofs.Looking.{by_credit}
use Rattle.channel_core.proofs.channel.Channel.has_no_credit.Goals as goal

pub get-requires : goal.get-requires
get-requires c = subst (λ (v : Seen). IsSome (client_of v.clients c.args.client)) (sym c.self.view_is) c.requires

pub returns : goal.returns
returns c = λ waits. by_credit c.args.client _ _ c.get.result c.args.self.now waits c.self.view_is c.get.ensures.value c.from-ready.ensures c.count-in_flight.ensures
