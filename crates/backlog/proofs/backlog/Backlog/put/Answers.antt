use Rattle.std.proofs.Common.{◌≡◌, ◌≤◌, ◌<◌, ◌∙◌, Option, None, Some, length, take, refl, inl, inr, ap, sym, subst}
use Rattle.std.proofs.Math.Nat.{le_of_eq}
use Rattle.std.proofs.lemmas.Bool.{cases_lt, false≢true}
use Rattle.circular_buffer.specs.Buffer.{Buffer}
use Rattle.v2_frame.specs.declared.message.Message.{Message}
use Rattle.disk_queue.specs.Holding.{SaveStands}
use Rattle.disk_queue.specs.Seen.{Seen as Queue}
use Rattle.backlog.specs.declared.answers.PutOne.TheVariants.{Spilled, Fault as Back}
use Rattle.backlog.specs.Kept.{IsQueue}
use Rattle.backlog.specs.Seen.{Seen, FitsLimit, SameQueue}
use Rattle.backlog.specs.Lists.{DiskChanges, OnDisk, Stands}
use Rattle.backlog.proofs.Drawing.{sound_queue}
use Rattle.backlog.proofs.Putting.{not_put, put_beside, put_counted, put_counts, put_least, put_listed, put_refused, put_risen, put_same, put_short, put_spills, put_unmarks, put_kept, queue_where, same_queue, sound_back, sound_kept, written_long}
use Rattle.backlog.proofs.backlog.Backlog.put.Goals.{in-Stored, in-Fault}
use Rattle.backlog.proofs.backlog.Backlog.put.Goals as goal

pub returns-in-Ok : goal.returns-in-Ok
returns-in-Ok g c =
    let was = c.self.inside in
    let files = g.F.Folder.files c.args.folder.now in
    record {
      nothing_now = ap (λ (b : Seen). b.lent) c.self.view_is ∙ c.requires.nothing;
      queue = subst (λ (b : Seen). SameQueue b.queue was.queue) c.self.view_is (same_queue was.queue);
      place = subst (λ (b : Seen). length b.ring < b.capacity) c.self.view_is (c.in-Ok.ensures.variant.0 refl);
      seen = put_kept c.args.self.now was.ring.items was.ring.capacity was.queue was.lent c.try_push_back.new.self c.args.message c.self.view_is c.in-Ok.ensures.ok;
      list = λ told disk. subst (λ (b : Seen). OnDisk b.queue files disk) (sym c.self.view_is);
      stands = λ told. subst (λ (b : Seen). Stands b.queue files) (sym c.self.view_is);
      others = λ told name. refl;
      faults = le_of_eq refl;
      cause = refl;
      exact = λ counts. refl;
    }

pub returns-in_default : goal.returns-in_default
returns-in_default g c =
    let was = c.self.inside in
    let files = g.F.Folder.files c.args.folder.now in
    let refused = c.in-Err.ensures in
    let full : was.ring.capacity ≤ length was.ring.items = elim (cases_lt (length was.ring.items) was.ring.capacity) [ inl room ↦ absurd (false≢true (refused.variant.1 room)) | inr past ↦ past ] in
    record {
      nothing_now = ap (λ (b : Seen). b.lent) c.self.view_is ∙ c.requires.nothing;
      queue = subst (λ (b : Seen). SameQueue b.queue was.queue) c.self.view_is (same_queue was.queue);
      place = subst (λ (b : Seen). (b.capacity ≤ length b.ring) × (b.queue ≡ None)) c.self.view_is (full, c.in_default.is);
      seen = ap (λ (b : Buffer Message). record { ring = b.items; capacity = b.capacity; queue = was.queue; lent = was.lent }) refused.err.1 ∙ c.self.view_is;
      list = λ told disk. subst (λ (b : Seen). OnDisk b.queue files disk) (sym c.self.view_is);
      stands = λ told. subst (λ (b : Seen). Stands b.queue files) (sym c.self.view_is);
      others = λ told name. refl;
      faults = le_of_eq refl;
      cause = refl;
      exact = λ counts. refl;
    }

pub invariant_of-self : goal.invariant_of-self
invariant_of-self g c =
    let was = c.self.inside in
    sound_kept c.try_push_back.new.self was.ring.items c.args.message was.ring.capacity was.queue was.lent c.in-Ok.ensures.ok (c.in-Ok.ensures.variant.0 refl) c.requires.short (ap (λ (b : Seen). b.lent) c.self.view_is ∙ c.requires.nothing) c.self.invariant

pub invariant_of-self-in_default : goal.invariant_of-self-in_default
invariant_of-self-in_default g c = sound_back c.self.inside.ring c.try_push_back.new.self c.self.inside.queue c.self.inside.lent c.in-Err.ensures.err.1 c.self.invariant

pub write_record-size-requires : goal.write_record-size-requires
write_record-size-requires g c = record { short = subst FitsLimit (sym c.in-Err.ensures.err.0) c.requires.short; scratch = c.requires.scratch }

pub put-requires : goal.put-requires
put-requires g c =
    let queue : IsQueue c.in-Some.queue = queue_where c.self.inside.queue c.in-Some.queue c.in-Some.is c.self.invariant.queue in
    record {
      size = put_least c.in-Some.queue c.in-Err.message (length (take c.write_record-size.result c.write_record-size.new.scratch)) queue.options (written_long c.write_record-size.new.scratch c.write_record-size.result c.in-Err.message c.write_record-size.ensures.size c.write_record-size.ensures.within);
      none = queue.none_staged;
    }

pub returns : goal.returns
returns g c =
    let files = g.F.Folder.files in
    let count = g.F.Folder.folder_faults in
    let was = c.self.inside in
    let now = c.args.self.now in
    let q = c.in-Some.queue in
    let r = c.put.new.self in
    let back = c.in-Err.message in
    let old = files c.args.folder.now in
    let new = files c.put.new.folder in
    let bytes = take c.write_record-size.result c.write_record-size.new.scratch in
    let long = written_long c.write_record-size.new.scratch c.write_record-size.result back c.write_record-size.ensures.size c.write_record-size.ensures.within in
    let is : now.queue ≡ Some q = ap (λ (b : Seen). b.queue) (sym c.self.view_is) ∙ c.in-Some.is in
    let full : was.ring.capacity ≤ length was.ring.items = elim (cases_lt (length was.ring.items) was.ring.capacity) [ inl room ↦ absurd (false≢true (c.in-Err.ensures.variant.1 room)) | inr past ↦ past ] in
    let options = (queue_where was.queue q c.in-Some.is c.self.invariant.queue).options in
    elim c.match-put.branch [
      | in-Stored w ↦ rw w.result-is (record {
        nothing_now = ap (λ (b : Seen). b.lent) c.self.view_is ∙ c.requires.nothing;
        queue = put_same now.queue q r is c.put.ensures.name c.put.ensures.options;
        place = put_beside now was.ring was.queue was.lent q c.self.view_is full c.in-Some.is;
        seen = put_spills now was.ring c.try_push_back.new.self was.queue was.lent q r c.args.message back (length bytes) w.in-Stored.field-0 c.self.view_is c.in-Err.ensures.err.1 c.in-Some.is long c.in-Err.ensures.err.0 w.in-Stored.ensures.seen w.in-Stored.ensures.due;
        list = λ told disk. put_listed now.queue q r old new c.args.message back is c.in-Err.ensures.err.0 disk bytes c.put.result w.in-Stored.field-0 Spilled w.in-Stored.is refl c.write_record-size.ensures.fits c.write_record-size.ensures.bytes (c.put.ensures.list told);
        stands = λ told. subst (λ (x : Option Queue). Stands x old → SaveStands r new) (sym is) (c.put.ensures.stands told);
        others = λ told. subst (λ (x : Option Queue). DiskChanges x old new) (sym is) (c.put.ensures.others told);
        faults = c.put.ensures.faults;
        cause = tt;
        exact = λ counts. put_counted (count c.args.folder.now) (count c.put.new.folder) w.in-Stored.field-0 (w.in-Stored.ensures.exact counts);
      })
      | in-Fault w ↦ rw w.result-is (record {
        nothing_now = ap (λ (b : Seen). b.lent) c.self.view_is ∙ c.requires.nothing;
        queue = put_same now.queue q r is c.put.ensures.name c.put.ensures.options;
        place = put_beside now was.ring was.queue was.lent q c.self.view_is full c.in-Some.is;
        seen = (c.in-Err.ensures.err.0, put_unmarks now was.ring c.try_push_back.new.self was.queue was.lent q r (length bytes) c.put.result c.self.view_is c.in-Err.ensures.err.1 c.in-Some.is (not_put c.put.result w.in-Fault.is) c.put.ensures.seen);
        list = λ told disk. put_refused now.queue q r old new c.args.message back is c.in-Err.ensures.err.0 disk bytes c.put.result (Back back) w.in-Fault.is refl (c.put.ensures.list told);
        stands = λ told. subst (λ (x : Option Queue). Stands x old → SaveStands r new) (sym is) (c.put.ensures.stands told);
        others = λ told. subst (λ (x : Option Queue). DiskChanges x old new) (sym is) (c.put.ensures.others told);
        faults = c.put.ensures.faults;
        cause = put_risen (count c.args.folder.now) (count c.put.new.folder) q.options.limit (length bytes) c.put.result (put_short q c.args.message back (length bytes) options c.in-Err.ensures.err.0 c.requires.short long) c.put.ensures.too_long c.put.ensures.cause (not_put c.put.result w.in-Fault.is);
        exact = λ counts. put_counts (count c.args.folder.now) (count c.put.new.folder) q.options.limit (length bytes) c.put.result (put_short q c.args.message back (length bytes) options c.in-Err.ensures.err.0 c.requires.short long) c.put.ensures.too_long (c.put.ensures.exact counts) (not_put c.put.result w.in-Fault.is);
      })
    ]

pub invariant_of-self-2 : goal.invariant_of-self-2
invariant_of-self-2 g c =
    let was = c.self.inside in
    let q = c.in-Some.queue in
    sound_back was.ring c.try_push_back.new.self (Some c.put.new.self) was.lent c.in-Err.ensures.err.1
    (sound_queue was.ring.items was.ring.capacity was.queue was.lent q c.put.new.self c.in-Some.is c.put.ensures.options (c.put.ensures.none_now ∙ sym (queue_where was.queue q c.in-Some.is c.self.invariant.queue).none_staged)
    (ap (λ (b : Seen). b.lent) c.self.view_is ∙ c.requires.nothing) c.self.invariant)
