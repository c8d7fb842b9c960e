use Rattle.std.proofs.Common.{rules, ◌⊎◌, ◌∙◌, ◌≡◌, ◌-◌, ◌++◌, Option, Some, length, take, map, sym, ap, subst}
use Rattle.disk_queue.specs.Seen.{Seen as Queue}
use Rattle.disk_queue.specs.declared.answers.Sync.TheVariants as sync
use Rattle.backlog.specs.Kept.{IsQueue}
use Rattle.backlog.specs.Seen.{Seen, WritesAll}
use Rattle.backlog.specs.Lists.{HoldsAll, OnDisk, QueueFinds, Stands, stored}
use Rattle.backlog.proofs.Putting.{queue_where}
use Rattle.backlog.proofs.Saving.{did_rose, faults_rise, flush_all, flush_changed, flush_finds, flush_listed, flush_saved, flush_some, flush_stands, flush_tried, flushed_same, rose_before, rose_behind, sound_flushed, sync_rose}
use Rattle.backlog.proofs.backlog.Backlog.flush.Goals as goal
use Rattle.backlog.proofs.backlog.Backlog.flush.Goals.{in-Done-NotDue, in-Done-Failed, in-Done-Failed-2}

pub write_ring-written-requires : goal.write_ring-written-requires
write_ring-written-requires g c =
    let queue : IsQueue c.in-Some.queue = queue_where c.self.inside.queue c.in-Some.queue c.in-Some.is c.self.invariant.queue in
    record { options = queue.options; none = queue.none_staged; short = c.self.invariant.short; scratch = c.requires.scratch }

pub invariant_of-self : goal.invariant_of-self
invariant_of-self g c =
    let was = c.self.inside in
    let written = c.write_ring-written.ensures in
    sound_flushed was.ring c.write_ring-written.new.ring (length was.ring.items - length c.write_ring-written.new.ring.items) was.queue was.lent c.in-Some.queue c.write_ring-written.new.queue c.sync.new.self c.sync.result
    written.ring c.in-Some.is written.queue written.none_now c.sync.ensures.seen (ap (λ (b : Seen). b.lent) c.self.view_is ∙ c.requires.nothing) c.self.invariant

pub returns : goal.returns
returns g c =
    let files = g.F.Folder.files in
    let count = g.F.Folder.folder_faults in
    let f0 = files c.args.folder.now in
    let f1 = files c.write_ring-written.new.folder in
    let f2 = files c.sync.new.folder in
    let was = c.self.inside in
    let old = c.args.self.now in
    let wrote = c.write_ring-written in
    let written = c.write_ring-written.ensures in
    let q = c.in-Some.queue in
    let r = c.write_ring-written.new.queue in
    let s = c.sync.new.self in
    let n = length was.ring.items - length c.write_ring-written.new.ring.items in
    let is : old.queue ≡ Some q = ap (λ (b : Seen). b.queue) (sym c.self.view_is) ∙ c.in-Some.is in
    elim c.match-written.branch [
      | in-Done-NotDue w ↦
          let saved : (c.sync.result ≡ sync.NotDue) ⊎ (c.sync.result ≡ sync.Done) = search rules in
          rw w.result-is (record {
            nothing_now = ap (λ (b : Seen). b.lent) c.self.view_is ∙ c.requires.nothing;
            queue = flushed_same old.queue q r s n c.sync.result is written.queue c.sync.ensures.seen;
            list = λ told disk. subst (λ (b : Seen). OnDisk b.queue f0 disk → HoldsAll s f2 (disk ++ map stored (take (length b.ring - length wrote.new.ring.items) b.ring))) c.self.view_is
                (flush_listed was.queue q r s f0 f1 f2 disk (take n was.ring.items) c.in-Some.is (written.list told disk) (c.sync.ensures.list told));
            stands = λ told. flush_stands old.queue q r s f0 f1 f2 is (written.stands told) (c.sync.ensures.stands told);
            others = λ told. flush_changed old.queue q r f0 f1 f2 is (written.others told) written.queue.same.name (c.sync.ensures.others told);
            faults = faults_rise (count c.args.folder.now) (count wrote.new.folder) (count c.sync.new.folder) written.faults c.sync.ensures.faults;
            seen = (
              flush_all old was.ring wrote.new.ring was.queue was.lent q r s c.sync.result c.self.view_is c.in-Some.is written.ring written.queue c.sync.ensures.seen (subst (WritesAll wrote.new.ring.items) w.in-Done-NotDue.is-0 written.all),
              flush_saved r s c.sync.result c.sync.ensures.due c.sync.ensures.seen saved,
            );
            found = λ told disk held stands. subst (λ (b : Seen). QueueFinds b.queue f2 (disk ++ map stored b.ring)) c.self.view_is
                (subst (λ (x : Option Queue). QueueFinds x f2 (disk ++ map stored was.ring.items)) (sym c.in-Some.is)
                (flush_finds q r s was.ring.items wrote.new.ring.items disk f1 f2 wrote.result c.sync.result n (queue_where was.queue q c.in-Some.is c.self.invariant.queue).options written.queue c.sync.ensures.seen w.in-Done-NotDue.is-0 written.all saved
                (written.list told disk (subst (λ (x : Option Queue). OnDisk x f0 disk) is held)) (written.stands told (subst (λ (x : Option Queue). Stands x f0) is stands)) (c.sync.ensures.found told)));
            cause = tt;
          })
      | in-Done-Failed w ↦ rw w.result-is (record {
        nothing_now = ap (λ (b : Seen). b.lent) c.self.view_is ∙ c.requires.nothing;
        queue = flushed_same old.queue q r s n c.sync.result is written.queue c.sync.ensures.seen;
        list = λ told disk. subst (λ (b : Seen). OnDisk b.queue f0 disk → HoldsAll s f2 (disk ++ map stored (take (length b.ring - length wrote.new.ring.items) b.ring))) c.self.view_is
            (flush_listed was.queue q r s f0 f1 f2 disk (take n was.ring.items) c.in-Some.is (written.list told disk) (c.sync.ensures.list told));
        stands = λ told. flush_stands old.queue q r s f0 f1 f2 is (written.stands told) (c.sync.ensures.stands told);
        others = λ told. flush_changed old.queue q r f0 f1 f2 is (written.others told) written.queue.same.name (c.sync.ensures.others told);
        faults = faults_rise (count c.args.folder.now) (count wrote.new.folder) (count c.sync.new.folder) written.faults c.sync.ensures.faults;
        seen = (
          flush_some old was.ring wrote.new.ring was.queue was.lent q r s c.sync.result c.self.view_is c.in-Some.is written.ring written.queue c.sync.ensures.seen,
          flush_tried r s c.sync.result c.sync.ensures.due c.sync.ensures.seen,
        );
        found = λ told disk held stands. tt;
        cause = rose_behind (count c.args.folder.now) (count wrote.new.folder) (count c.sync.new.folder) written.faults (sync_rose (count wrote.new.folder) (count c.sync.new.folder) c.sync.result w.in-Done-Failed.is-1 c.sync.ensures.cause);
      })
      | in-Done-Failed-2 w ↦ rw w.result-is (record {
        nothing_now = ap (λ (b : Seen). b.lent) c.self.view_is ∙ c.requires.nothing;
        queue = flushed_same old.queue q r s n c.sync.result is written.queue c.sync.ensures.seen;
        list = λ told disk. subst (λ (b : Seen). OnDisk b.queue f0 disk → HoldsAll s f2 (disk ++ map stored (take (length b.ring - length wrote.new.ring.items) b.ring))) c.self.view_is
            (flush_listed was.queue q r s f0 f1 f2 disk (take n was.ring.items) c.in-Some.is (written.list told disk) (c.sync.ensures.list told));
        stands = λ told. flush_stands old.queue q r s f0 f1 f2 is (written.stands told) (c.sync.ensures.stands told);
        others = λ told. flush_changed old.queue q r f0 f1 f2 is (written.others told) written.queue.same.name (c.sync.ensures.others told);
        faults = faults_rise (count c.args.folder.now) (count wrote.new.folder) (count c.sync.new.folder) written.faults c.sync.ensures.faults;
        seen = (
          flush_some old was.ring wrote.new.ring was.queue was.lent q r s c.sync.result c.self.view_is c.in-Some.is written.ring written.queue c.sync.ensures.seen,
          flush_tried r s c.sync.result c.sync.ensures.due c.sync.ensures.seen,
        );
        found = λ told disk held stands. tt;
        cause = rose_before (count c.args.folder.now) (count wrote.new.folder) (count c.sync.new.folder) (did_rose (count c.args.folder.now) (count wrote.new.folder) wrote.result w.in-Done-Failed.is-0 written.cause) c.sync.ensures.faults;
      })
    ]
