use Rattle.std.proofs.Common.{◌≡◌, ◌∙◌, ◌+◌, [], map, None, Some, refl, ap, subst}
use Rattle.std.proofs.Math.Nat.{le_of_eq}
use Rattle.std.proofs.lemmas.List.Elements.{All-nil}
use Rattle.circular_buffer.specs.Buffer.{Buffer, buffer}
use Rattle.queue_image.specs.Finds.{Records}
use Rattle.v2_frame.specs.Written.{message_bytes}
use Rattle.v2_frame.specs.declared.message.Message.{Message}
use Rattle.disk_queue.specs.Seen.{Seen as Queue}
use Rattle.backlog.specs.Seen.{Seen, longest_body}
use Rattle.backlog.specs.Kept.{IsQueueWhere}
use Rattle.backlog.specs.Lists.{IsStored}
use Rattle.backlog.specs.declared.backlog.Backlog.TheInside.{Inside}
use Rattle.backlog.specs.declared.backlog.Lent.TheVariants.{Nothing}
use Rattle.backlog.proofs.Drawing.{same_disk, sound_queue}
use Rattle.backlog.proofs.Opening.{found_for}
use Rattle.backlog.proofs.Saving.{emptied_same, emptied_staged, sound_cleared}
use Rattle.backlog.proofs.backlog.Backlog.empty.Goals as goal
use Rattle.backlog.proofs.backlog.Backlog.empty.Goals.{in-Some+in-Done, in_default}

pub returns-in-Fault : goal.returns-in-Fault
returns-in-Fault g c =
    let kept = c.in-Fault.ensures in
    rw (← c.self.view_is, c.in-Some.is) (record {
      nothing_now = ap (λ (b : Seen). b.lent) c.self.view_is ∙ c.requires;
      queue = record { name = ap (λ (q : Queue). q.name) kept.seen; options = ap (λ (q : Queue). q.options) kept.seen };
      seen = (refl, kept.seen);
      list = λ told disk. same_disk c.in-Some.queue c.empty.new.self _ _ disk (kept.list told);
      found = λ told. tt;
      stands = kept.stands;
      others = kept.others;
      faults = kept.faults;
      cause = kept.cause;
      exact = kept.exact;
    })

pub invariant_of-self : goal.invariant_of-self
invariant_of-self g c =
    let was = c.self.inside in
    let seen = c.in-Fault.ensures.seen in
    sound_queue was.ring.items was.ring.capacity was.queue was.lent c.in-Some.queue c.empty.new.self c.in-Some.is (ap (λ (q : Queue). q.options) seen) (ap (λ (q : Queue). q.staged.count) seen)
    (ap (λ (b : Seen). b.lent) c.self.view_is ∙ c.requires) c.self.invariant

pub returns : goal.returns
returns g c =
    let was = c.self.inside in
    let free : was.lent ≡ Nothing = ap (λ (b : Seen). b.lent) c.self.view_is ∙ c.requires in
    elim c.match-self.branch [
      | in-Some+in-Done w ↦
          let emptied = w.in-Done.ensures in
          let ring : c.clear.new.self ≡ buffer [] was.ring.capacity = c.clear.ensures ∙ ap (λ (b : Inside). buffer [] b.ring.capacity) w.self-inside-is in
          let options = (subst IsQueueWhere w.in-Some.is c.self.invariant.queue).options in
          rw (w.self-inside-is, w.folder-is, ← c.self.view_is, w.in-Some.is) (record {
            nothing_now = free;
            queue = emptied_same w.in-Some.queue w.empty.new.self emptied.seen;
            seen = (ap (λ (b : Buffer Message). record { ring = b.items; capacity = b.capacity; queue = Some w.empty.new.self; lent = was.lent }) ring, emptied.seen);
            list = λ told disk on. record { list = emptied.list told (map message_bytes disk) [] on.list; stored = All-nil IsStored };
            found = λ told.
                found_for 26 (26 + longest_body) w.in-Some.queue.options.least w.in-Some.queue.options.limit (g.F.Folder.files w.empty.new.folder) w.in-Some.queue.name w.in-Some.queue.name (Records [] [])
                options.least options.limit refl (emptied.found told);
            stands = emptied.stands;
            others = emptied.others;
            faults = emptied.faults;
            cause = emptied.cause;
            exact = λ counts. (emptied.exact counts).0;
          })
      | in_default w ↦
          let ring : c.clear.new.self ≡ buffer [] was.ring.capacity = c.clear.ensures ∙ ap (λ (b : Inside). buffer [] b.ring.capacity) w.self-inside-is in
          rw (w.self-inside-is, w.folder-is, ← c.self.view_is, w.in_default.is) (record {
            nothing_now = free;
            queue = tt;
            seen = (ap (λ (b : Buffer Message). record { ring = b.items; capacity = b.capacity; queue = None; lent = was.lent }) ring, refl);
            list = λ told disk none. refl;
            found = λ told. tt;
            stands = λ told stood. stood;
            others = λ told file. refl;
            faults = le_of_eq refl;
            cause = tt;
            exact = λ counts. ap g.F.Folder.folder_faults w.folder-is;
          })
    ]

pub invariant_of-self-2 : goal.invariant_of-self-2
invariant_of-self-2 g c =
    let was = c.self.inside in
    let free : was.lent ≡ Nothing = ap (λ (b : Seen). b.lent) c.self.view_is ∙ c.requires in
    elim c.match-self.branch [
      | in-Some+in-Done w ↦
          let seen = w.in-Done.ensures.seen in
          let ring = c.clear.ensures ∙ ap (λ (b : Inside). buffer [] b.ring.capacity) w.self-inside-is in
          rw w.self-inside-is (sound_cleared was.ring.items was.ring.capacity (Some w.empty.new.self) was.lent c.clear.new.self ring free
          (sound_queue was.ring.items was.ring.capacity was.queue was.lent w.in-Some.queue w.empty.new.self w.in-Some.is (emptied_same w.in-Some.queue w.empty.new.self seen).options
          (emptied_staged w.in-Some.queue w.empty.new.self seen) free c.self.invariant))
      | in_default w ↦
          let ring = c.clear.ensures ∙ ap (λ (b : Inside). buffer [] b.ring.capacity) w.self-inside-is in
          rw w.self-inside-is (sound_cleared was.ring.items was.ring.capacity was.queue was.lent c.clear.new.self ring free c.self.invariant)
    ]
