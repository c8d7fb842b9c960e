use Rattle.std.proofs.Common.{List, None, subst}
use Rattle.std.specs.Prelude.{◌≡◌, ◌==◌, find}
use Rattle.broker_history.specs.State.{Client}
use Rattle.floor_rooms.specs.ClientPlaces.{StandsAt}
use Rattle.floor_topics.proofs.LostClients.{one_belonging, one_standing}
use Rattle.floor_topics.proofs.losing.lose_one.Goals as goal

pub returns-in-Ok : goal.returns-in-Ok
returns-in-Ok c =
    one_standing c.args.number c.args.topic c.args.channel c.args.clients.now.items c.in-Ok.k c.index_mut.result.now c.lose.new.self (subst (λ (xs : List Client). StandsAt xs c.args.number c.in-Ok.k) c.deref.ensures.value c.in-Ok.ensures) c.index_mut.ensures.value c.lose.ensures

pub returns-in_default : goal.returns-in_default
returns-in_default c =
    one_belonging c.args.number c.args.topic c.args.channel c.args.clients.now.items
    (subst (λ (xs : List Client). find (λ (d : Client). d.number == c.args.number) xs ≡ None) c.deref.ensures.value c.in_default.ensures.found)
