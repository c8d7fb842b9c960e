use Rattle.std.proofs.Common.{◌≡◌, ◌∙◌, [], map, refl, ap}
use Rattle.std.proofs.Math.Nat.{le_of_eq}
use Rattle.v2_frame.specs.Written.{message_bytes}
use Rattle.disk_queue.specs.Seen.{Seen as Queue}
use Rattle.backlog.specs.Seen.{Seen}
use Rattle.backlog.specs.declared.backlog.Lent.TheVariants.{Nothing}
use Rattle.backlog.proofs.Drawing.{same_disk, sound_queue}
use Rattle.backlog.proofs.backlog.Backlog.sync.Goals as goal
use Rattle.backlog.proofs.backlog.Backlog.sync.Goals.{in-Some, in-None}

pub returns : goal.returns
returns g c =
    let free : c.self.inside.lent ≡ Nothing = ap (λ (b : Seen). b.lent) c.self.view_is ∙ c.requires in
    elim c.match-self.branch [
      | in-Some w ↦ let saved = w.sync.ensures in rw (w.result-is, w.self-inside-is, w.folder-is, ← c.self.view_is, w.in-Some.is) (record {
        nothing_now = free;
        queue = record { name = ap (λ (q : Queue). q.name) saved.seen; options = ap (λ (q : Queue). q.options) saved.seen };
        seen = (saved.seen, saved.due);
        rest = refl;
        list = λ told disk. same_disk w.in-Some.queue w.sync.new.self _ _ disk (saved.list told);
        found = λ told disk held stood. saved.found told (map message_bytes disk) [] held.list stood;
        stands = saved.stands;
        others = saved.others;
        faults = saved.faults;
        cause = saved.cause;
        exact = saved.exact;
      })
      | in-None w ↦ rw (w.result-is, w.self-inside-is, w.folder-is, ← c.self.view_is, w.in-None.is) (record {
        nothing_now = free;
        queue = tt;
        seen = refl;
        rest = refl;
        list = λ told disk none. none;
        found = λ told disk held stood. tt;
        stands = λ told stood. stood;
        others = λ told file. refl;
        faults = le_of_eq refl;
        cause = tt;
        exact = λ counts. refl;
      })
    ]

pub invariant_of-self : goal.invariant_of-self
invariant_of-self g c = elim c.match-self.branch [
  | in-Some w ↦
      let was = c.self.inside in
      let seen = w.sync.ensures.seen in
      rw w.self-inside-is (sound_queue was.ring.items was.ring.capacity was.queue was.lent w.in-Some.queue w.sync.new.self w.in-Some.is (ap (λ (q : Queue). q.options) seen)
      (ap (λ (q : Queue). q.staged.count) seen) (ap (λ (b : Seen). b.lent) c.self.view_is ∙ c.requires) c.self.invariant)
  | in-None w ↦ rw w.self-inside-is c.self.invariant
]
