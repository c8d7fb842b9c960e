use Rattle.std.proofs.Common.{◌∙◌, ◌++◌, refl, sym, ap, subst}
use Rattle.backlog.specs.Seen.{Seen as Backlog, SyncSeen}
use Rattle.backlog.specs.Lists.{OnDisk, Stands}
use Rattle.channel_copies.specs.Putting.{around}
use Rattle.channel_core.specs.Seen.{Seen}
use Rattle.channel_core.proofs.Keeping.{keeps_of, nothing_lent, queue_rest, still_named, still_whole}
use Rattle.channel_core.proofs.channel.Channel.sync.Goals as goal

pub sync-requires : goal.sync-requires
sync-requires g c = nothing_lent (ap (λ (v : Seen). v.drawn) c.self.view_is ∙ c.requires.nothing) c.self.invariant

pub invariant_of-self : goal.invariant_of-self
invariant_of-self g c =
    still_whole c.sync.new.self c.self.inside.flights c.self.inside.deferred c.self.inside.drawn c.self.invariant (still_named _ _ c.sync.new.self c.self.invariant.named c.sync.ensures.queue (ap (λ (b : Backlog). b.capacity) c.sync.ensures.rest))
    (ap (λ (v : Seen). v.drawn) c.self.view_is ∙ c.requires.nothing) c.sync.ensures.nothing_now c.self.invariant.room

pub returns : goal.returns
returns g c = record {
  same = λ disk. ap (λ (b : Backlog). b.ring ++ disk) c.sync.ensures.rest ∙ ap (λ (v : Seen). v.backlog.ring ++ disk) c.self.view_is;
  list = λ told disk on. c.sync.ensures.list told disk (subst (λ (v : Seen). OnDisk v.backlog.queue (g.F.Folder.files c.args.folder.now) disk) (sym c.self.view_is) on);
  found =
      λ told disk on stands.
      let files = g.F.Folder.files c.args.folder.now in
      c.sync.ensures.found told disk (subst (λ (v : Seen). OnDisk v.backlog.queue files disk) (sym c.self.view_is) on) (subst (λ (v : Seen). Stands v.backlog.queue files) (sym c.self.view_is) stands);
  seen = subst (λ (v : Seen). SyncSeen v.backlog.queue c.sync.new.self.queue c.sync.result) c.self.view_is c.sync.ensures.seen;
  rest = queue_rest _ _ _ c.self.view_is c.sync.ensures.rest refl;
  disk =
      let files = g.F.Folder.files in
      let count = g.F.Folder.folder_faults in
      keeps_of (files c.args.folder.now) (count c.args.folder.now) (around c.sync.new.self (files c.sync.new.folder) (count c.sync.new.folder)) c.self.view_is
      (record { queue = c.sync.ensures.queue; stands = c.sync.ensures.stands; others = c.sync.ensures.others; faults = c.sync.ensures.faults });
  cause = c.sync.ensures.cause;
}
