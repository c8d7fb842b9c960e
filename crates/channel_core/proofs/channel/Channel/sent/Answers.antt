use Rattle.std.proofs.Common.{◌∙◌, ◌+◌, sym, ap, subst, refl, arith, IsSome}
use Rattle.backlog.specs.Lists.{OnDisk}
use Rattle.channel_copies.specs.Clients.{client_of}
use Rattle.channel_copies.specs.Putting.{around}
use Rattle.channel_copies.proofs.Counts.{shorter}
use Rattle.channel_core.specs.Seen.{Seen}
use Rattle.channel_core.proofs.Keeping.{costs_flying, keeps_of, still_named, still_whole, to_send}
use Rattle.channel_copies.proofs.Capacity.{settle_capacity}
use Rattle.channel_core.proofs.Rows.{sent_row}
use Rattle.channel_core.proofs.channel.Channel.sent.Goals as goal

pub get-requires : goal.get-requires
get-requires g c = subst (λ (v : Seen). IsSome (client_of v.clients c.args.client)) (sym c.self.view_is) c.requires.client

pub overflow_add-due : goal.overflow_add-due
overflow_add-due g c = omega (arith, c.get.ensures.timeout, c.requires.now)

pub settle-requires : goal.settle-requires
settle-requires g c = (to_send _ (ap (λ (v : Seen). v.drawn) c.self.view_is ∙ c.requires.drawn.is) c.self.invariant).lent

pub put-requires-clause-room : goal.put-requires-clause-room
put-requires-clause-room g c = (to_send _ (ap (λ (v : Seen). v.drawn) c.self.view_is ∙ c.requires.drawn.is) c.self.invariant).flying

pub put-requires-clause-new : goal.put-requires-clause-new
put-requires-clause-new g c = (to_send _ (ap (λ (v : Seen). v.drawn) c.self.view_is ∙ c.requires.drawn.is) c.self.invariant).free

pub invariant_of-self : goal.invariant_of-self
invariant_of-self g c =
    let ready = to_send _ (ap (λ (v : Seen). v.drawn) c.self.view_is ∙ c.requires.drawn.is) c.self.invariant in
    still_whole _ _ _ _ c.self.invariant (still_named _ _ _ c.self.invariant.named c.settle.ensures.queue (settle_capacity _ _ _ c.settle.ensures.seen)) refl c.settle.ensures.nothing_now (omega (arith, shorter _ c.put.new.self.flights c.self.inside.flights.flights c.put.ensures.joins, ready.deferred))

pub returns-clause-row : goal.returns-clause-row
returns-clause-row g c = λ told disk on top.
    let files = g.F.Folder.files in
    sent_row disk (record { message = c.args.message; client = c.args.client; due = c.args.now + c.get.result.timeout; sent = c.args.now }) c.get.result c.self.view_is c.requires.drawn c.get.ensures.value refl top
    (c.settle.ensures.first disk) (c.settle.ensures.list told disk (subst (λ (v : Seen). OnDisk v.backlog.queue (files c.args.folder.now) disk) (sym c.self.view_is) on)) c.put.ensures.joins refl

pub returns-clause-disk : goal.returns-clause-disk
returns-clause-disk g c =
    let files = g.F.Folder.files in
    let count = g.F.Folder.folder_faults in
    keeps_of (files c.args.folder.now) (count c.args.folder.now) (around c.settle.new.self (files c.settle.new.folder) (count c.settle.new.folder)) c.self.view_is
    (record { queue = c.settle.ensures.queue; stands = c.settle.ensures.stands; others = c.settle.ensures.others; faults = c.settle.ensures.faults })

pub returns-clause-steps : goal.returns-clause-steps
returns-clause-steps g c = costs_flying 1 c.args.steps.now c.put.new.steps c.self.view_is c.put.ensures.steps
