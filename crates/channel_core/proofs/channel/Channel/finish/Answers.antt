use Rattle.std.proofs.Common.{◌∙◌, ap, refl, arith}
use Rattle.channel_copies.proofs.Counts.{shorter}
use Rattle.channel_core.specs.Seen.{Seen}
use Rattle.channel_core.proofs.Keeping.{still_whole, nothing_lent, costs_flying}
use Rattle.channel_core.proofs.Rows.{asked, finished}
use Rattle.channel_core.proofs.channel.Channel.finish.Goals as goal

pub take-requires : goal.take-requires
take-requires g c = asked c.self.view_is c.requires.yours

pub invariant_of-self : goal.invariant_of-self
invariant_of-self g c =
    let nothing = ap (λ (v : Seen). v.drawn) c.self.view_is ∙ c.requires.nothing in
    still_whole _ _ _ _ c.self.invariant c.self.invariant.named nothing (nothing_lent nothing c.self.invariant) (omega (arith, shorter c.take.result c.self.inside.flights.flights c.take.new.self.flights c.take.ensures.leaves, c.self.invariant.room))

pub returns-clause-row : goal.returns-clause-row
returns-clause-row g c = finished c.take.result c.self.view_is c.requires.yours c.take.ensures.id c.take.ensures.leaves c.take.ensures.none refl

pub returns-clause-steps : goal.returns-clause-steps
returns-clause-steps g c = costs_flying 1 c.args.steps.now c.take.new.steps c.self.view_is c.take.ensures.steps
