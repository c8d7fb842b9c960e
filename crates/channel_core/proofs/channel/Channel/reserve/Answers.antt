use Rattle.std.proofs.Common.{length, refl, ap, ◌∙◌, arith}
use Rattle.channel_core.specs.Seen.{Seen}
use Rattle.channel_core.proofs.Keeping.{had_room, nothing_lent, still_whole, when_ok}
use Rattle.channel_core.proofs.channel.Channel.reserve.Goals as goal

pub invariant_of-self : goal.invariant_of-self
invariant_of-self c =
    let nothing = ap (λ (v : Seen). v.drawn) c.self.view_is ∙ c.requires in
    still_whole c.self.inside.backlog c.reserve.new.self c.self.inside.deferred c.self.inside.drawn c.self.invariant c.self.invariant.named nothing (nothing_lent nothing c.self.invariant) (omega (arith, c.self.invariant.room, ap length c.reserve.ensures.rest))

pub invariant_of-self-2 : goal.invariant_of-self-2
invariant_of-self-2 c =
    let nothing = ap (λ (v : Seen). v.drawn) c.self.view_is ∙ c.requires in
    still_whole c.self.inside.backlog c.reserve.new.self c.reserve-2.new.self c.self.inside.drawn c.self.invariant c.self.invariant.named nothing (nothing_lent nothing c.self.invariant)
    (omega (arith, c.self.invariant.room, ap length c.reserve.ensures.rest, c.reserve-2.ensures.spare))

pub returns-in_err-reserve-clause-rest : goal.returns-in_err-reserve-clause-rest
returns-in_err-reserve-clause-rest c = had_room c.self.view_is c.reserve.new.self.flights c.self.inside.deferred.waiting c.reserve.new.self.spare c.self.inside.deferred.spare c.reserve.ensures.rest refl

pub returns : goal.returns
returns c = record {
  room =
      when_ok c.reserve-2.result
      (λ room. record { flying = c.in_ok-reserve.ensures.room; deferred = omega (arith, room, c.in-Some.ensures, c.len.ensures, ap length c.reserve.ensures.rest) })
      c.reserve-2.ensures.room;
  rest = had_room c.self.view_is c.reserve.new.self.flights c.reserve-2.new.self.waiting c.reserve.new.self.spare c.reserve-2.new.self.spare c.reserve.ensures.rest c.reserve-2.ensures.rest;
}
