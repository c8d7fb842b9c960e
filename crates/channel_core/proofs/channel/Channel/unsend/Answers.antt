use Rattle.std.proofs.Common.{◌∙◌, ap, refl}
use Rattle.channel_core.specs.Seen.{Seen}
use Rattle.channel_core.proofs.Drawings.{back_unsent}
use Rattle.channel_core.proofs.Keeping.{still_whole, to_send, undo_named}
use Rattle.channel_core.proofs.channel.Channel.unsend.Goals as goal

pub undo-requires-clause-drawn : goal.undo-requires-clause-drawn
undo-requires-clause-drawn c = (to_send _ (ap (λ (v : Seen). v.drawn) c.self.view_is ∙ c.requires.drawn.2.is) c.self.invariant).lent

pub invariant_of-self : goal.invariant_of-self
invariant_of-self c = still_whole c.undo.new.self c.self.inside.flights c.self.inside.deferred _ c.self.invariant (undo_named _ _ c.undo.new.self _ c.self.invariant.named c.undo.ensures.seen) refl c.undo.ensures.nothing_now c.self.invariant.room

pub returns-clause-back : goal.returns-clause-back
returns-clause-back c = λ disk.
    back_unsent c.args.message _ disk c.undo.new.self.ring c.self.view_is c.requires.drawn.2 (ap (λ n. record (c.args.message) { attempts = n }) c.attempts_before.ensures) (c.undo.ensures.first disk)
