use Rattle.std.proofs.Common.{◌+◌, List, length, refl, ap, subst, ◌∙◌, arith}
use Rattle.broker_history.specs.State.{counted}
use Rattle.channel_copies.specs.Flights.{CostsCalls, Leaves}
use Rattle.channel_copies.specs.Deferred.{Waiting}
use Rattle.channel_core.specs.Seen.{Seen}
use Rattle.channel_core.proofs.Keeping.{had_none, nothing_lent, still_whole}
use Rattle.channel_core.proofs.channel.Channel.defer.Goals as goal

pub invariant_of-self : goal.invariant_of-self
invariant_of-self g c =
    let nothing = ap (λ (v : Seen). v.drawn) c.self.view_is ∙ c.requires.nothing in
    still_whole c.self.inside.backlog c.self.inside.flights c.reserve.new.self c.self.inside.drawn c.self.invariant c.self.invariant.named nothing (nothing_lent nothing c.self.invariant) (omega (arith, c.self.invariant.room, c.reserve.ensures.spare))

pub returns-in_default-reserve-clause-rest : goal.returns-in_default-reserve-clause-rest
returns-in_default-reserve-clause-rest g c = ap (λ (v : Seen). record v { message_count = c.self.inside.message_count; deferred = c.reserve.new.self.waiting; deferred_spare = c.reserve.new.self.spare }) c.self.view_is

pub returns-in_default-reserve-clause-defers : goal.returns-in_default-reserve-clause-defers
returns-in_default-reserve-clause-defers g c = (refl, had_none c.self.view_is c.reserve.new.self.waiting c.reserve.new.self.spare c.reserve.ensures.rest)

pub returns : goal.returns
returns g c = record {
  defers =
      record {
        joins = subst (λ (ws : List Waiting). Leaves (record { due = c.args.now + c.args.message.delay; message = c.args.message }) c.put.new.self.waiting ws) (c.reserve.ensures.rest ∙ ap (λ (v : Seen). v.deferred) c.self.view_is) c.put.ensures.joins;
        count = c.saturating_add-self-inside.ensures ∙ ap (λ (v : Seen). counted v.message_count) c.self.view_is;
      };
  rest = ap (λ (v : Seen). record v { message_count = c.saturating_add-self-inside.result; deferred = c.put.new.self.waiting; deferred_spare = c.put.new.self.spare }) c.self.view_is;
  steps = subst (λ (ws : List Waiting). CostsCalls 1 (length ws) c.args.steps.now c.put.new.steps) (c.reserve.ensures.rest ∙ ap (λ (v : Seen). v.deferred) c.self.view_is) c.put.ensures.steps;
}
