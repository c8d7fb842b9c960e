use Rattle.std.proofs.Common.{◌∙◌, IsSome, sym, ap, subst}
use Rattle.backlog.specs.Seen.{FitsLimit}
use Rattle.channel_core.specs.Drawn.{held_of}
use Rattle.channel_core.specs.Seen.{Seen}
use Rattle.channel_core.proofs.Drawings.{back_first, held_is, is_held}
use Rattle.channel_core.proofs.Keeping.{still_whole, to_hold, undo_named}
use Rattle.channel_core.proofs.channel.Channel.undo_held.Goals as goal

pub unwrap-message-requires : goal.unwrap-message-requires
unwrap-message-requires c = subst IsSome (sym (c.held.ensures ∙ ap held_of c.replace-drawn.ensures.value)) (subst (λ (v : Seen). IsSome (held_of v.drawn)) (sym c.self.view_is) (is_held c.requires.drawn.1))

pub undo-requires-clause-drawn : goal.undo-requires-clause-drawn
undo-requires-clause-drawn c = (to_hold c.requires.drawn.1.held c.requires.drawn.0 (ap (λ (v : Seen). v.drawn) c.self.view_is ∙ c.requires.drawn.1.is) c.self.invariant).lent

pub undo-requires-clause-short : goal.undo-requires-clause-short
undo-requires-clause-short c =
    let drawn = ap (λ (v : Seen). v.drawn) c.self.view_is ∙ c.requires.drawn.1.is in
    let of = sym (c.held.ensures ∙ ap held_of c.replace-drawn.ensures.value) ∙ c.unwrap-message.ensures in
    subst FitsLimit (sym (held_is c.unwrap-message.result c.requires.drawn.1.held c.requires.drawn.0 c.self.inside.drawn of drawn)) (to_hold c.requires.drawn.1.held c.requires.drawn.0 drawn c.self.invariant).short

pub invariant_of-self : goal.invariant_of-self
invariant_of-self c =
    still_whole c.undo.new.self c.self.inside.flights c.self.inside.deferred _ c.self.invariant (undo_named _ _ c.undo.new.self _ c.self.invariant.named c.undo.ensures.seen) c.replace-drawn.ensures.after c.undo.ensures.nothing_now c.self.invariant.room

pub returns-clause-back : goal.returns-clause-back
returns-clause-back c = λ disk held now at.
    back_first c.unwrap-message.result held now disk c.undo.new.self.ring c.self.view_is (sym (c.held.ensures ∙ ap held_of c.replace-drawn.ensures.value) ∙ c.unwrap-message.ensures) at (c.undo.ensures.first disk)
