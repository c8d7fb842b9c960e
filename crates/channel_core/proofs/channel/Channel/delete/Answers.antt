use Rattle.std.proofs.Common.{◌++◌, ◌∙◌, refl, sym, ap, subst}
use Rattle.backlog.specs.Seen.{Seen as Backlog}
use Rattle.backlog.specs.Lists.{DiskChanges, OnDisk, Stands}
use Rattle.channel_core.specs.Deleting.{DeleteFinds, DeleteGone}
use Rattle.channel_core.specs.declared.answers.DropChannel.TheVariants.{Done}
use Rattle.channel_core.specs.Seen.{Seen}
use Rattle.channel_core.proofs.Deleting.{finds_kept, finds_nothing, gone_kept, gone_with, kept_back, same_kept}
use Rattle.channel_core.proofs.Keeping.{nothing_lent, still_named, still_whole}
use Rattle.channel_core.proofs.channel.Channel.delete.Goals as goal

pub returns-in-Fault-clause-row : goal.returns-in-Fault-clause-row
returns-in-Fault-clause-row g c = λ told disk on. record {
  on_disk = c.in-Fault.ensures.list told disk (subst (λ (v : Seen). OnDisk v.backlog.queue (g.F.Folder.files c.args.folder.now) disk) (sym c.self.view_is) on);
  same = ap (λ (b : Backlog). b.ring ++ disk) c.in-Fault.ensures.seen.0 ∙ ap (λ (v : Seen). v.backlog.ring ++ disk) c.self.view_is;
}

pub delete-requires : goal.delete-requires
delete-requires g c = nothing_lent (ap (λ (v : Seen). v.drawn) c.self.view_is ∙ c.requires.nothing) c.self.invariant

pub invariant_of-result : goal.invariant_of-result
invariant_of-result g c =
    let nothing = ap (λ (v : Seen). v.drawn) c.self.view_is ∙ c.requires.nothing in
    let seen = c.in-Fault.ensures.seen in
    still_whole c.in-Fault.backlog c.self.inside.flights c.self.inside.deferred c.self.inside.drawn c.self.invariant
    (still_named _ _ c.in-Fault.backlog c.self.invariant.named (same_kept _ _ seen.1) (ap (λ (b : Backlog). b.capacity) seen.0)) nothing (ap (λ (b : Backlog). b.lent) seen.0 ∙ nothing_lent nothing c.self.invariant) c.self.invariant.room

pub returns-in-Fault-clause-seen : goal.returns-in-Fault-clause-seen
returns-in-Fault-clause-seen g c = kept_back _ _ _ c.self.view_is (same_kept _ _ c.in-Fault.ensures.seen.1) c.in-Fault.ensures.seen.0 refl

pub returns-in-Fault-clause-stands : goal.returns-in-Fault-clause-stands
returns-in-Fault-clause-stands g c = λ told stands. c.in-Fault.ensures.stands told (subst (λ (v : Seen). Stands v.backlog.queue (g.F.Folder.files c.args.folder.now)) (sym c.self.view_is) stands)

pub returns-in-Fault-clause-others : goal.returns-in-Fault-clause-others
returns-in-Fault-clause-others g c = λ told. subst (λ (v : Seen). DiskChanges v.backlog.queue (g.F.Folder.files c.args.folder.now) (g.F.Folder.files c.delete.new.folder)) c.self.view_is (c.delete.ensures.others told)

pub returns-in-Done-clause-others : goal.returns-in-Done-clause-others
returns-in-Done-clause-others g c = λ told. subst (λ (v : Seen). DiskChanges v.backlog.queue (g.F.Folder.files c.args.folder.now) (g.F.Folder.files c.delete.new.folder)) c.self.view_is (c.delete.ensures.others told)

pub returns-in-Fault-clause-found : goal.returns-in-Fault-clause-found
returns-in-Fault-clause-found g c = λ told. finds_kept c.args.self.backlog.queue (g.F.Folder.files c.delete.new.folder) _

pub returns-in-Fault-clause-gone : goal.returns-in-Fault-clause-gone
returns-in-Fault-clause-gone g c = λ told stands. gone_kept c.args.self.backlog.queue (g.F.Folder.files c.delete.new.folder) (g.F.Folder.folder_faults c.args.folder.now) (g.F.Folder.folder_faults c.delete.new.folder) _

pub returns-in-Done-clause-found : goal.returns-in-Done-clause-found
returns-in-Done-clause-found g c = λ told.
    subst (λ (v : Seen). DeleteFinds v.backlog.queue (g.F.Folder.files c.delete.new.folder) Done) c.self.view_is (finds_nothing c.self.inside.backlog.queue (g.F.Folder.files c.delete.new.folder) (c.in-Done.ensures.found told))

pub returns-in-Done-clause-gone : goal.returns-in-Done-clause-gone
returns-in-Done-clause-gone g c = λ told stands.
    let files = g.F.Folder.files in
    let count = g.F.Folder.folder_faults in
    subst (λ (v : Seen). DeleteGone v.backlog.queue (files c.delete.new.folder) (count c.args.folder.now) (count c.delete.new.folder) Done) c.self.view_is
    (gone_with c.self.inside.backlog.queue (files c.delete.new.folder) (count c.args.folder.now) (count c.delete.new.folder) (c.in-Done.ensures.gone told (subst (λ (v : Seen). Stands v.backlog.queue (files c.args.folder.now)) (sym c.self.view_is) stands)))
