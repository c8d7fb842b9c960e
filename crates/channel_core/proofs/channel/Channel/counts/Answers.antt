use Rattle.std.proofs.Common.{◌∙◌, ap, refl, arith}
use Rattle.channel_core.specs.Seen.{Seen}
use Rattle.channel_core.proofs.Keeping.{nothing_lent}
use Rattle.channel_core.proofs.Telling.{none_behind, tells}
use Rattle.channel_core.proofs.channel.Channel.counts.Goals as goal

pub returns : goal.returns
returns c = record {
  tells =
      λ nothing files disk on.
      let none = nothing_lent (ap (λ (v : Seen). v.drawn) c.self.view_is ∙ nothing) c.self.invariant in
      tells files disk _ c.from.result c.args.self.now c.self.view_is on none c.self.invariant.named (c.from.ensures ∙ c.depths-depths.ensures.ring) (omega (arith, c.from.ensures, c.depths-depths.ensures.within)) c.depths-depths.ensures.disk refl c.len.ensures c.len-2.ensures refl refl refl;
  none = none_behind c.depths-depths.result.disk c.args.self.now c.self.view_is c.self.invariant.named c.depths-depths.ensures.disk;
}
