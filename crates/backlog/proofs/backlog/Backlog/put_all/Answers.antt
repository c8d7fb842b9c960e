use Rattle.std.proofs.Common.{ℕ, ◌≡◌, ◌∙◌, ◌++◌, ◌-◌, ◌≤◌, ◌<◌, Option, List, Some, drop, take, map, length, inl, inr, ap, refl, sym, subst, arith, length-take, Vec, Global}
use Rattle.std.specs.List.{All}
use Rattle.std.proofs.lemmas.List.{drop_all, length-drop, take_all}
use Rattle.std.proofs.lemmas.List.Elements.{All-take}
use Rattle.circular_buffer.specs.Buffer.{Buffer, buffer}
use Rattle.nsq_outside.specs.Files.{Files}
use Rattle.v2_frame.specs.declared.message.Message.{Message}
use Rattle.disk_queue.specs.Seen.{Seen as Queue}
use Rattle.disk_queue.specs.Holding.{SaveStands}
use Rattle.backlog.specs.declared.backlog.Backlog.TheInside.{Inside}
use Rattle.backlog.specs.Seen.{Seen, FitsLimit, QueueTakes, QueueUnstages, SameQueue, SpillsAll, room, size_of}
use Rattle.backlog.specs.Kept.{IsQueueWhere}
use Rattle.backlog.specs.Lists.{DiskChanges, HoldsAll, OnDisk, Stands, spilled, stored}
use Rattle.backlog.proofs.Drawing.{sound_queue}
use Rattle.backlog.proofs.Putting.{Placed, placed_behind, placed_nowhere, put_all_ring, queue_same, queue_sound, rest_of, same_queue, disk_same, sound_more}
use Rattle.backlog.proofs.backlog.Backlog.put_all.Goals.{then-room-len, in-Some+in-Done, in_default, else-room-len}
use Rattle.backlog.proofs.backlog.Backlog.put_all.Goals as goal

pub returns-in-Failed : goal.returns-in-Failed
returns-in-Failed g c =
    let before = g.F.Folder.files c.args.folder.now in
    let after = g.F.Folder.files c.spill.new.folder in
    let queue = c.spill.new.queue in
    let messages = c.args.messages.now.items in
    let failed = c.in-Failed.ensures in
    let is : c.args.self.now.queue ≡ Some c.in-Some.queue = ap (λ (b : Seen). b.queue) (sym c.self.view_is) ∙ c.in-Some.is in
    let past : c.self.inside.ring.capacity - length c.self.inside.ring.items < length messages = omega (arith, c.if-room-len.true, c.len-2.ensures, c.args.messages.now.ok.0, c.capacity.ensures.capacity, c.len.ensures.len) in
    record {
      nothing_now = ap (λ (b : Seen). b.lent) c.self.view_is ∙ c.requires.nothing;
      queue = subst (λ (x : Option Queue). SameQueue x (Some queue)) (sym is) (record { name = ap (λ (q : Queue). q.name) failed.seen.is; options = ap (λ (q : Queue). q.options) failed.seen.is });
      seen = (
        ap (λ (b : Seen). record b { queue = Some queue }) c.self.view_is,
        subst (λ (x : Option Queue). QueueUnstages x (Some queue)) (sym is) failed.seen,
        subst (λ (b : Seen). room b < length messages) c.self.view_is past,
      );
      taken = refl;
      list = λ told disk. subst (λ (x : Option Queue). OnDisk x before disk → HoldsAll queue after disk) (sym is) (failed.list told disk);
      stands = λ told. subst (λ (x : Option Queue). Stands x before → SaveStands queue after) (sym is) (failed.stands told);
      others = λ told. subst (λ (x : Option Queue). DiskChanges x before after) (sym is) (failed.others told);
      kept = λ told few. let within = subst (λ (b : Seen). length messages ≤ room b) (sym c.self.view_is) few in absurd (omega (arith, past, within));
      faults = failed.faults;
      cause = failed.cause;
    }

pub invariant_of-self : goal.invariant_of-self
invariant_of-self g c =
    let was = c.self.inside in
    let failed = c.in-Failed.ensures in
    let none = (subst IsQueueWhere c.in-Some.is c.self.invariant.queue).none_staged in
    sound_queue was.ring.items was.ring.capacity was.queue was.lent c.in-Some.queue c.spill.new.queue c.in-Some.is (ap (λ (q : Queue). q.options) failed.seen.is) (failed.none_now ∙ sym none)
    (ap (λ (b : Seen). b.lent) c.self.view_is ∙ c.requires.nothing) c.self.invariant

pub invariant_of-self-2 : goal.invariant_of-self-2
invariant_of-self-2 g c =
    let inside = c.self.inside in
    let after = c.if-room-len.self-inside in
    let more = c.if-room-len.messages.items in
    let ring : after.ring ≡ inside.ring = elim c.if-room-len.branch [
      | then-room-len w ↦ elim w.match-self.branch [
        | in-Some+in-Done w' ↦ ap (λ (b : Inside). b.ring) (w.self-inside-is ∙ w'.self-inside-is)
        | in_default w' ↦ ap (λ (b : Inside). b.ring) (w.self-inside-is ∙ w'.self-inside-is)
      ]
      | else-room-len w ↦ ap (λ (b : Inside). b.ring) w.self-inside-is
    ] in
    let lent : after.lent ≡ inside.lent = elim c.if-room-len.branch [
      | then-room-len w ↦ elim w.match-self.branch [
        | in-Some+in-Done w' ↦ ap (λ (b : Inside). b.lent) (w.self-inside-is ∙ w'.self-inside-is)
        | in_default w' ↦ ap (λ (b : Inside). b.lent) (w.self-inside-is ∙ w'.self-inside-is)
      ]
      | else-room-len w ↦ ap (λ (b : Inside). b.lent) w.self-inside-is
    ] in
    let queue : IsQueueWhere after.queue = elim c.if-room-len.branch [
      | then-room-len w ↦ elim w.match-self.branch [
        | in-Some+in-Done w' ↦ queue_sound inside.queue after.queue w'.in-Some.queue w'.spill.new.queue _ w'.in-Some.is (ap (λ (b : Inside). b.queue) (w.self-inside-is ∙ w'.self-inside-is)) w'.in-Done.ensures.seen w'.in-Done.ensures.none_now c.self.invariant.queue
        | in_default w' ↦ subst IsQueueWhere (sym (ap (λ (b : Inside). b.queue) (w.self-inside-is ∙ w'.self-inside-is))) c.self.invariant.queue
      ]
      | else-room-len w ↦ subst IsQueueWhere (sym (ap (λ (b : Inside). b.queue) w.self-inside-is)) c.self.invariant.queue
    ] in
    let room : length more ≤ inside.ring.capacity - length inside.ring.items = elim c.if-room-len.branch [
      | then-room-len w ↦ omega (arith, ap (λ (v : Vec Message Global). length v.items) w.messages-is, ap length w.truncate.ensures.items, length-take (c.capacity.result - c.len.result) c.args.messages.now.items, c.capacity.ensures.capacity, c.len.ensures.len)
      | else-room-len w ↦ omega (arith, ap (λ (v : Vec Message Global). length v.items) w.messages-is, w.if-room-len.false, c.len-2.ensures, c.args.messages.now.ok.0, c.capacity.ensures.capacity, c.len.ensures.len)
    ] in
    let short : All FitsLimit more = elim c.if-room-len.branch [
      | then-room-len w ↦ subst (All FitsLimit) (sym (ap (λ (v : Vec Message Global). v.items) w.messages-is ∙ w.truncate.ensures.items)) (All-take FitsLimit (c.capacity.result - c.len.result) c.args.messages.now.items c.requires.short)
      | else-room-len w ↦ subst (All FitsLimit) (sym (ap (λ (v : Vec Message Global). v.items) w.messages-is)) c.requires.short
    ] in
    sound_more c.keep.new.ring inside.ring.items more inside.ring.capacity after.queue after.lent (c.keep.ensures.kept ∙ ap (λ (b : Buffer Message). buffer (b.items ++ more) b.capacity) ring)
    c.self.invariant.within c.self.invariant.short room short queue (lent ∙ ap (λ (b : Seen). b.lent) c.self.view_is ∙ c.requires.nothing)

pub returns : goal.returns
returns g c =
    let files = g.F.Folder.files in
    let count = g.F.Folder.folder_faults in
    let inside = c.self.inside in
    let after = c.if-room-len.self-inside in
    let messages = c.args.messages.now.items in
    let place = inside.ring.capacity - length inside.ring.items in
    let rest = drop place messages in
    let f0 = files c.args.folder.now in
    let room_is : c.capacity.result - c.len.result ≡ place = omega (arith, c.capacity.ensures.capacity, c.len.ensures.len) in
    let lent : after.lent ≡ inside.lent = elim c.if-room-len.branch [
      | then-room-len w ↦ elim w.match-self.branch [
        | in-Some+in-Done w' ↦ ap (λ (b : Inside). b.lent) (w.self-inside-is ∙ w'.self-inside-is)
        | in_default w' ↦ ap (λ (b : Inside). b.lent) (w.self-inside-is ∙ w'.self-inside-is)
      ]
      | else-room-len w ↦ ap (λ (b : Inside). b.lent) w.self-inside-is
    ] in
    let ring : after.ring ≡ inside.ring = elim c.if-room-len.branch [
      | then-room-len w ↦ elim w.match-self.branch [
        | in-Some+in-Done w' ↦ ap (λ (b : Inside). b.ring) (w.self-inside-is ∙ w'.self-inside-is)
        | in_default w' ↦ ap (λ (b : Inside). b.ring) (w.self-inside-is ∙ w'.self-inside-is)
      ]
      | else-room-len w ↦ ap (λ (b : Inside). b.ring) w.self-inside-is
    ] in
    let front : c.if-room-len.messages.items ≡ take place messages = elim c.if-room-len.branch [
      | then-room-len w ↦ ap (λ (v : Vec Message Global). v.items) w.messages-is ∙ w.truncate.ensures.items ∙ ap (λ (n : ℕ). take n messages) room_is
      | else-room-len w ↦
          ap (λ (v : Vec Message Global). v.items) w.messages-is
          ∙ sym (take_all place messages (omega (arith, w.if-room-len.false, c.len-2.ensures, c.args.messages.now.ok.0, c.capacity.ensures.capacity, c.len.ensures.len)))
    ] in
    let placed : Placed g.F.Folder.tells_files inside.queue after.queue f0 (files c.if-room-len.folder) (count c.args.folder.now) (count c.if-room-len.folder) rest = elim c.if-room-len.branch [
      | then-room-len w ↦ elim w.match-self.branch [
        | in-Some+in-Done w' ↦
            let done = w'.in-Done.ensures in
            let q = w'.in-Some.queue in
            let r = w'.spill.new.queue in
            let f1 = files w'.spill.new.folder in
            let is = rest_of w'.deref.result.now messages (c.capacity.result - c.len.result) place w'.deref.ensures.value room_is in
            rw (ap (λ (b : Inside). b.queue) (w.self-inside-is ∙ w'.self-inside-is), w.folder-is ∙ w'.folder-is)
            (placed_behind g.F.Folder.tells_files inside.queue q r f0 f1 (count c.args.folder.now) (count w'.spill.new.folder) rest w'.in-Some.is
            (omega (arith, length-drop place messages, w.if-room-len.true, c.len-2.ensures, c.args.messages.now.ok.0, c.capacity.ensures.capacity, c.len.ensures.len))
            (subst (λ (xs : List Message). SpillsAll q r (map size_of xs)) is done.seen)
            (λ told disk. subst (λ (xs : List Message). HoldsAll q f0 disk → HoldsAll r f1 (disk ++ map stored xs)) is (done.list told disk)) done.stands done.faults)
        | in_default w' ↦
            rw (ap (λ (b : Inside). b.queue) (w.self-inside-is ∙ w'.self-inside-is), w.folder-is ∙ w'.folder-is)
            (placed_nowhere g.F.Folder.tells_files inside.queue f0 (count c.args.folder.now) rest (inr w'.in_default.is))
      ]
      | else-room-len w ↦
          rw (ap (λ (b : Inside). b.queue) w.self-inside-is, w.folder-is)
          (placed_nowhere g.F.Folder.tells_files inside.queue f0 (count c.args.folder.now) rest
          (inl (drop_all place messages (omega (arith, w.if-room-len.false, c.len-2.ensures, c.args.messages.now.ok.0, c.capacity.ensures.capacity, c.len.ensures.len)))))
    ] in
    record {
      nothing_now = lent ∙ ap (λ (b : Seen). b.lent) c.self.view_is ∙ c.requires.nothing;
      queue =
          let old = c.self.inside.queue in
          let new = c.if-room-len.self-inside.queue in
          let same : SameQueue old new = elim c.if-room-len.branch [
            | then-room-len w ↦ elim w.match-self.branch [
              | in-Some+in-Done w' ↦ queue_same old new w'.in-Some.queue w'.spill.new.queue _ w'.in-Some.is (ap (λ (b : Inside). b.queue) (w.self-inside-is ∙ w'.self-inside-is)) w'.in-Done.ensures.seen
              | in_default w' ↦ subst (SameQueue old) (sym (ap (λ (b : Inside). b.queue) (w.self-inside-is ∙ w'.self-inside-is))) (same_queue old)
            ]
            | else-room-len w ↦ subst (SameQueue old) (sym (ap (λ (b : Inside). b.queue) w.self-inside-is)) (same_queue old)
          ] in
          subst (λ (b : Seen). SameQueue b.queue new) c.self.view_is same;
      seen = (
        put_all_ring c.args.self.now inside.ring.items inside.ring.capacity inside.queue after.queue inside.lent after.lent c.keep.new.ring c.if-room-len.messages.items messages c.self.view_is
            (c.keep.ensures.kept ∙ ap (λ (b : Buffer Message). buffer (b.items ++ c.if-room-len.messages.items) b.capacity) ring) front lent,
        subst (λ (b : Seen). QueueTakes b.queue after.queue (drop (room b) messages)) c.self.view_is placed.takes,
      );
      taken = c.keep.ensures.taken;
      list = λ told disk. subst (λ (b : Seen). OnDisk b.queue f0 disk → OnDisk after.queue (files c.if-room-len.folder) (disk ++ spilled b.queue (drop (room b) messages))) c.self.view_is (placed.list told disk);
      stands = λ told. subst (λ (b : Seen). Stands b.queue f0 → Stands after.queue (files c.if-room-len.folder)) c.self.view_is (placed.stands told);
      others = λ told.
          let files = g.F.Folder.files in
          let queue = c.self.inside.queue in
          let old = files c.args.folder.now in
          let changes : DiskChanges queue old (files c.if-room-len.folder) = elim c.if-room-len.branch [
            | then-room-len w ↦ elim w.match-self.branch [
              | in-Some+in-Done w' ↦ subst (DiskChanges queue old) (sym (ap files (w.folder-is ∙ w'.folder-is))) (subst (λ (x : Option Queue). DiskChanges x old (files w'.spill.new.folder)) (sym w'.in-Some.is) (w'.in-Done.ensures.others told))
              | in_default w' ↦ subst (DiskChanges queue old) (sym (ap files (w.folder-is ∙ w'.folder-is))) (disk_same queue old)
            ]
            | else-room-len w ↦ subst (DiskChanges queue old) (sym (ap files w.folder-is)) (disk_same queue old)
          ] in
          subst (λ (b : Seen). DiskChanges b.queue old (files c.if-room-len.folder)) c.self.view_is changes;
      kept = λ told few.
          let within = subst (λ (b : Seen). length messages ≤ room b) (sym c.self.view_is) few in
          elim c.if-room-len.branch [
            | then-room-len w ↦ absurd (omega (arith, within, w.if-room-len.true, c.len-2.ensures, c.args.messages.now.ok.0, c.capacity.ensures.capacity, c.len.ensures.len))
            | else-room-len w ↦ λ name. ap (λ (f : Files). f name) (ap files w.folder-is)
          ];
      faults = placed.faults;
      cause = tt;
    }
