use Rattle.std.proofs.Common.{◌∙◌, ap}
use Rattle.channel_core.specs.Seen.{Seen}
use Rattle.channel_core.proofs.Keeping.{nothing_lent}
use Rattle.channel_core.proofs.Telling.{by_depths, queued_depth, some_in_ring}
use Rattle.channel_core.proofs.channel.Channel.has_none_queued.Goals as goal

pub returns-then-depths-ne0 : goal.returns-then-depths-ne0
returns-then-depths-ne0 c = λ files disk on.
    let none = nothing_lent (ap (λ (v : Seen). v.drawn) c.self.view_is ∙ c.requires) c.self.invariant in
    some_in_ring c.args.self.now disk c.depths-depths.result.ring c.depths-depths.result.disk (queued_depth files disk c.depths-depths.result.ring c.depths-depths.result.disk c.args.self.now c.self.view_is on none c.depths-depths.ensures.ring c.depths-depths.ensures.disk) c.if-depths-ne0.true

pub returns : goal.returns
returns c = λ files disk on.
    let none = nothing_lent (ap (λ (v : Seen). v.drawn) c.self.view_is ∙ c.requires) c.self.invariant in
    by_depths c.args.self.now disk c.depths-depths.result.ring c.depths-depths.result.disk (queued_depth files disk c.depths-depths.result.ring c.depths-depths.result.disk c.args.self.now c.self.view_is on none c.depths-depths.ensures.ring c.depths-depths.ensures.disk) c.if-depths-ne0.false
