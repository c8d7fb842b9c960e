use Rattle.std.proofs.Common.{◌∙◌, ◌+◌, IsSome, sym, ap, subst, refl, arith}
use Rattle.v2_frame.specs.declared.message.Message.{Message}
use Rattle.backlog.specs.Lists.{OnDisk}
use Rattle.channel_copies.specs.Flights.{Leaves}
use Rattle.channel_copies.specs.Putting.{around}
use Rattle.channel_core.specs.Drawn.{held_of}
use Rattle.channel_core.specs.Seen.{Seen}
use Rattle.channel_core.proofs.Drawings.{held_is, is_held}
use Rattle.channel_core.proofs.Keeping.{costs_deferred, keeps_of, still_named, still_whole, to_hold}
use Rattle.channel_copies.proofs.Capacity.{settle_capacity}
use Rattle.channel_core.proofs.Rows.{held_now}
use Rattle.channel_core.proofs.channel.Channel.settle_held.Goals as goal

pub overflow_add-due : goal.overflow_add-due
overflow_add-due g c = omega (arith, c.self.invariant.msg_timeout, c.requires.now)

pub unwrap-message-requires : goal.unwrap-message-requires
unwrap-message-requires g c = subst IsSome (sym (c.held.ensures ∙ ap held_of c.replace-drawn.ensures.value)) (subst (λ (v : Seen). IsSome (held_of v.drawn)) (sym c.self.view_is) (is_held c.requires.drawn))

pub settle-requires : goal.settle-requires
settle-requires g c = (to_hold c.requires.drawn.held c.args.now (ap (λ (v : Seen). v.drawn) c.self.view_is ∙ c.requires.drawn.is) c.self.invariant).lent

pub put-requires-clause-room : goal.put-requires-clause-room
put-requires-clause-room g c = omega (arith, (to_hold c.requires.drawn.held c.args.now (ap (λ (v : Seen). v.drawn) c.self.view_is ∙ c.requires.drawn.is) c.self.invariant).deferred)

pub invariant_of-self : goal.invariant_of-self
invariant_of-self g c =
    let ready = to_hold c.requires.drawn.held c.args.now (ap (λ (v : Seen). v.drawn) c.self.view_is ∙ c.requires.drawn.is) c.self.invariant in
    still_whole c.settle.new.self c.self.inside.flights c.put.new.self _ c.self.invariant (still_named _ _ c.settle.new.self c.self.invariant.named c.settle.ensures.queue (settle_capacity _ _ _ c.settle.ensures.seen)) c.replace-drawn.ensures.after c.settle.ensures.nothing_now (omega (arith, c.put.ensures.spare, ready.deferred))

pub returns-clause-disk : goal.returns-clause-disk
returns-clause-disk g c =
    let files = g.F.Folder.files in
    let count = g.F.Folder.folder_faults in
    keeps_of (files c.args.folder.now) (count c.args.folder.now) (around c.settle.new.self (files c.settle.new.folder) (count c.settle.new.folder)) c.self.view_is
    (record { queue = c.settle.ensures.queue; stands = c.settle.ensures.stands; others = c.settle.ensures.others; faults = c.settle.ensures.faults })

pub returns-clause-steps : goal.returns-clause-steps
returns-clause-steps g c = costs_deferred 1 c.args.steps.now c.put.new.steps c.self.view_is c.put.ensures.steps

pub returns-clause-row : goal.returns-clause-row
returns-clause-row g c = λ told disk held at on top.
    let files = g.F.Folder.files in
    let drawn = ap (λ (v : Seen). v.drawn) c.self.view_is ∙ at in
    let of = sym (c.held.ensures ∙ ap held_of c.replace-drawn.ensures.value) ∙ c.unwrap-message.ensures in
    let same = held_is c.unwrap-message.result held c.args.now c.self.inside.drawn of drawn in
    held_now c.args.now disk held c.self.view_is (to_hold held c.args.now drawn c.self.invariant).flies top (c.settle.ensures.first disk) (c.settle.ensures.list told disk (subst (λ (v : Seen). OnDisk v.backlog.queue (files c.args.folder.now) disk) (sym c.self.view_is) on))
    (subst (λ (m : Message). Leaves (record { due = c.args.now + c.self.inside.about.msg_timeout; message = m }) c.put.new.self.waiting c.self.inside.deferred.waiting) same c.put.ensures.joins) refl
