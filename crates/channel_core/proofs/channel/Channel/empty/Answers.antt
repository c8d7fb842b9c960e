use Rattle.std.proofs.Common.{◌∙◌, length, refl, sym, ap, subst, arith}
use Rattle.backlog.specs.Seen.{Seen as Backlog}
use Rattle.backlog.specs.Lists.{OnDisk}
use Rattle.channel_copies.specs.Putting.{around}
use Rattle.channel_core.specs.Seen.{Seen, queued_in}
use Rattle.channel_core.proofs.Keeping.{keeps_of, nothing_lent, still_named, still_whole}
use Rattle.channel_core.proofs.Storing.{was_emptied, was_not_emptied}
use Rattle.channel_copies.proofs.Capacity.{empty_capacity}
use Rattle.channel_core.proofs.channel.Channel.empty.Goals as goal

pub empty-requires : goal.empty-requires
empty-requires g c = nothing_lent (ap (λ (v : Seen). v.drawn) c.self.view_is ∙ c.requires.nothing) c.self.invariant

pub invariant_of-self : goal.invariant_of-self
invariant_of-self g c =
    still_whole c.empty.new.self c.self.inside.flights c.self.inside.deferred c.self.inside.drawn c.self.invariant (still_named _ _ c.empty.new.self c.self.invariant.named c.empty.ensures.queue (empty_capacity _ _ _ c.empty.ensures.seen)) (ap (λ (v : Seen). v.drawn) c.self.view_is ∙ c.requires.nothing) c.empty.ensures.nothing_now c.self.invariant.room

pub invariant_of-self-2 : goal.invariant_of-self-2
invariant_of-self-2 g c =
    still_whole c.empty.new.self c.empty_flights.new.flights c.empty_deferred.new.deferred c.self.inside.drawn c.self.invariant (still_named _ _ c.empty.new.self c.self.invariant.named c.empty.ensures.queue (empty_capacity _ _ _ c.empty.ensures.seen)) (ap (λ (v : Seen). v.drawn) c.self.view_is ∙ c.requires.nothing) c.empty.ensures.nothing_now (omega (arith, ap length c.empty_flights.ensures))

pub returns-in-Fault-clause-row : goal.returns-in-Fault-clause-row
returns-in-Fault-clause-row g c = λ told disk on.
    was_not_emptied disk c.self.view_is (c.in-Fault.ensures.list told disk (subst (λ (v : Seen). OnDisk v.backlog.queue (g.F.Folder.files c.args.folder.now) disk) (sym c.self.view_is) on)) (ap (λ (b : Backlog). b.ring) c.in-Fault.ensures.seen.0) refl

pub returns-in-Fault-clause-disk : goal.returns-in-Fault-clause-disk
returns-in-Fault-clause-disk g c =
    let files = g.F.Folder.files in
    let count = g.F.Folder.folder_faults in
    keeps_of (files c.args.folder.now) (count c.args.folder.now) (around c.empty.new.self (files c.empty.new.folder) (count c.empty.new.folder)) c.self.view_is
    (record { queue = c.empty.ensures.queue; stands = c.empty.ensures.stands; others = c.empty.ensures.others; faults = c.empty.ensures.faults })

pub returns-clause-row : goal.returns-clause-row
returns-clause-row g c = λ told disk on.
    was_emptied (queued_in c.args.self.now disk) c.self.view_is (c.in-Done.ensures.list told disk (subst (λ (v : Seen). OnDisk v.backlog.queue (g.F.Folder.files c.args.folder.now) disk) (sym c.self.view_is) on)) (ap (λ (b : Backlog). b.ring) c.in-Done.ensures.seen.0)
    c.empty_flights.ensures c.empty_deferred.ensures refl

pub returns-clause-rest : goal.returns-clause-rest
returns-clause-rest g c =
    ap (λ (v : Seen). record v { backlog = c.empty.new.self; flights = c.empty_flights.new.flights.flights; deferred = c.empty_deferred.new.deferred.waiting; spare = c.empty_flights.new.flights.spare; deferred_spare = c.empty_deferred.new.deferred.spare }) c.self.view_is

pub returns-clause-disk : goal.returns-clause-disk
returns-clause-disk g c =
    let files = g.F.Folder.files in
    let count = g.F.Folder.folder_faults in
    keeps_of (files c.args.folder.now) (count c.args.folder.now) (around c.empty.new.self (files c.empty.new.folder) (count c.empty.new.folder)) c.self.view_is
    (record { queue = c.empty.ensures.queue; stands = c.empty.ensures.stands; others = c.empty.ensures.others; faults = c.empty.ensures.faults })
