use Rattle.std.proofs.Common.{List, ℕ, true, get_or, length, refl, ap, subst, ◌∙◌, arith}
use Rattle.std.proofs.lemmas.List.{length-set}
use Rattle.std.specs.List.{insert}
use Rattle.broker_history.specs.Changes.{without_topic}
use Rattle.floor_rooms.specs.declared.hall.Hall.{Hall}
use Rattle.floor_rooms.specs.declared.room.Room.{Room}
use Rattle.floor_rooms.specs.Rooms.{topic_name}
use Rattle.floor_rooms.specs.Changes.{AtRoom, OthersStay}
use Rattle.floor_rooms.proofs.Marked.{else_stays}
use Rattle.floor_rooms.proofs.Dating.{since_kept, since_without}
use Rattle.floor_rooms.proofs.Naming.{names_kept}
use Rattle.floor_topics.proofs.Goes.{KeepsBack, back_keeps, back_sound, back_stands, keeps_rooms, left_sound, left_stands, marked_at, marked_gone, marked_idle, marked_only, marked_name, marked_none, marked_others, marked_range, put_back_at}
use Rattle.floor_topics.proofs.going.delete_room.Goals as goal

pub returns-in-Done-clause-sound : goal.returns-in-Done-clause-sound
returns-in-Done-clause-sound g c =
    let h0 = c.args.hall.now in
    let h1 = c.mark_room.new.self in
    let room = c.remove-queue.result in
    let mark = c.mark_room.ensures in
    left_sound h1 (record h1 { rooms = c.remove-queue.new.self; unsaved_names = true }) c.args.i room mark.sound (marked_at h0 h1 c.args.i room mark.sound c.requires.room mark.room c.requires.none c.remove-queue.ensures.value)
    (marked_none h0 h1 c.args.i room mark.sound c.requires.room mark.room c.requires.none c.remove-queue.ensures.value) c.remove-queue.ensures.items
    (keeps_rooms h1 c.remove-queue.new.self true mark.sound)

pub returns-in-Done-clause-stands : goal.returns-in-Done-clause-stands
returns-in-Done-clause-stands g c = λ told d s holds.
    let h0 = c.args.hall.now in
    let h1 = c.mark_room.new.self in
    let room = c.remove-queue.result in
    let mark = c.mark_room.ensures in
    let old = g.F.Folder.files c.args.folder.now in
    let new = g.F.Folder.files c.delete.new.folder in (
      without_topic s (topic_name room),
      ap (without_topic s) (marked_name h0 h1 c.args.i room mark.sound c.requires.room mark.room c.requires.none c.remove-queue.ensures.value d),
      left_stands h1 (record h1 { rooms = c.remove-queue.new.self; unsaved_names = true }) c.args.i room mark.sound (marked_at h0 h1 c.args.i room mark.sound c.requires.room mark.room c.requires.none c.remove-queue.ensures.value)
          (marked_none h0 h1 c.args.i room mark.sound c.requires.room mark.room c.requires.none c.remove-queue.ensures.value) c.remove-queue.ensures.items old new s (else_stays h1 (record h1 { rooms = c.remove-queue.new.self; unsaved_names = true }) refl)
          (marked_others h0 h1 c.args.i room mark.sound c.requires.room mark.room c.requires.none c.remove-queue.ensures.value old new (c.delete.ensures.others told))
          (marked_idle h0 h1 c.args.i room mark.sound c.requires.room mark.room c.requires.none c.remove-queue.ensures.value new (c.in-Done.ensures.found told)) (mark.stands old s holds),
    )

pub returns-in-Done-clause-others : goal.returns-in-Done-clause-others
returns-in-Done-clause-others g c = λ told d.
    let h0 = c.args.hall.now in
    let h1 = c.mark_room.new.self in
    let room = c.remove-queue.result in
    let mark = c.mark_room.ensures in
    let old = g.F.Folder.files c.args.folder.now in
    let new = g.F.Folder.files c.delete.new.folder in
    subst (λ (n : List ℕ). OthersStay n old new) (marked_name h0 h1 c.args.i room mark.sound c.requires.room mark.room c.requires.none c.remove-queue.ensures.value d)
    (marked_others h0 h1 c.args.i room mark.sound c.requires.room mark.room c.requires.none c.remove-queue.ensures.value old new (c.delete.ensures.others told))

pub returns-in-Fault-clause-sound : goal.returns-in-Fault-clause-sound
returns-in-Fault-clause-sound g c =
    let h0 = c.args.hall.now in
    let h1 = c.mark_room.new.self in
    let room = c.remove-queue.result in
    let mark = c.mark_room.ensures in
    let back : AtRoom c.args.i KeepsBack h1.rooms.items c.put_back.new.items.items = record {
      room = room;
      after = record room { queue = c.in-Fault.queue };
      there = marked_at h0 h1 c.args.i room mark.sound c.requires.room mark.room c.requires.none c.remove-queue.ensures.value;
      is = c.put_back.ensures ∙ ap (λ (xs : List Room). insert xs c.args.i (record room { queue = c.in-Fault.queue })) c.remove-queue.ensures.items
          ∙ put_back_at h1.rooms.items c.args.i (record room { queue = c.in-Fault.queue }) (marked_range h0 h1 c.args.i room mark.sound c.requires.room mark.room c.requires.none c.remove-queue.ensures.value);
      does = (refl, c.in-Fault.ensures.seen);
    } in
    back_sound h0 h1 c.args.i room mark.sound c.requires.room mark.room c.requires.none c.remove-queue.ensures.value (record h1 { rooms = c.put_back.new.items }) refl back (keeps_rooms h1 c.put_back.new.items h1.unsaved_names mark.sound)

pub returns-in-Fault-clause-stands : goal.returns-in-Fault-clause-stands
returns-in-Fault-clause-stands g c = λ told d s holds.
    let h0 = c.args.hall.now in
    let h1 = c.mark_room.new.self in
    let room = c.remove-queue.result in
    let mark = c.mark_room.ensures in
    let old = g.F.Folder.files c.args.folder.now in
    let new = g.F.Folder.files c.delete.new.folder in
    let back : AtRoom c.args.i KeepsBack h1.rooms.items c.put_back.new.items.items = record {
      room = room;
      after = record room { queue = c.in-Fault.queue };
      there = marked_at h0 h1 c.args.i room mark.sound c.requires.room mark.room c.requires.none c.remove-queue.ensures.value;
      is = c.put_back.ensures ∙ ap (λ (xs : List Room). insert xs c.args.i (record room { queue = c.in-Fault.queue })) c.remove-queue.ensures.items
          ∙ put_back_at h1.rooms.items c.args.i (record room { queue = c.in-Fault.queue }) (marked_range h0 h1 c.args.i room mark.sound c.requires.room mark.room c.requires.none c.remove-queue.ensures.value);
      does = (refl, c.in-Fault.ensures.seen);
    } in (
      s,
      refl,
      back_stands h0 h1 c.args.i room mark.sound c.requires.room mark.room c.requires.none c.remove-queue.ensures.value (record h1 { rooms = c.put_back.new.items }) refl back old new s (c.delete.ensures.others told) (c.in-Fault.ensures.row told) (c.in-Fault.ensures.stands told) (mark.stands old s holds),
    )

pub returns-in-Fault-clause-others : goal.returns-in-Fault-clause-others
returns-in-Fault-clause-others g c = λ told d.
    let h0 = c.args.hall.now in
    let h1 = c.mark_room.new.self in
    let room = c.remove-queue.result in
    let mark = c.mark_room.ensures in
    let old = g.F.Folder.files c.args.folder.now in
    let new = g.F.Folder.files c.delete.new.folder in
    subst (λ (n : List ℕ). OthersStay n old new) (marked_name h0 h1 c.args.i room mark.sound c.requires.room mark.room c.requires.none c.remove-queue.ensures.value d)
    (marked_others h0 h1 c.args.i room mark.sound c.requires.room mark.room c.requires.none c.remove-queue.ensures.value old new (c.delete.ensures.others told))

pub returns-in-Done-clause-rooms : goal.returns-in-Done-clause-rooms
returns-in-Done-clause-rooms g c = λ d.
    let h0 = c.args.hall.now in
    let h1 = c.mark_room.new.self in
    let room = c.remove-queue.result in
    let mark = c.mark_room.ensures in
    marked_gone h0 h1 c.args.i room mark.sound c.requires.room mark.room c.requires.none c.remove-queue.ensures.value c.requires.sound c.remove-queue.new.self.items c.remove-queue.ensures.items d

pub returns-in-Done-clause-files : goal.returns-in-Done-clause-files
returns-in-Done-clause-files g c = λ told.
    let h0 = c.args.hall.now in
    let h1 = c.mark_room.new.self in
    let room = c.remove-queue.result in
    let mark = c.mark_room.ensures in
    marked_only h0 h1 c.args.i room mark.sound c.requires.room mark.room c.requires.none c.remove-queue.ensures.value (g.F.Folder.files c.args.folder.now) (g.F.Folder.files c.delete.new.folder) (c.delete.ensures.others told)

pub returns-in-Done-clause-since : goal.returns-in-Done-clause-since
returns-in-Done-clause-since g c =
    let h0 = c.args.hall.now in
    let h1 = c.mark_room.new.self in
    let room = c.remove-queue.result in
    let mark = c.mark_room.ensures in
    since_without h0.moment h0.rooms.items c.remove-queue.new.self.items (topic_name (get_or h0.rooms.items c.args.i room)) (marked_gone h0 h1 c.args.i room mark.sound c.requires.room mark.room c.requires.none c.remove-queue.ensures.value c.requires.sound c.remove-queue.new.self.items c.remove-queue.ensures.items room)

pub returns-in-Fault-clause-rooms : goal.returns-in-Fault-clause-rooms
returns-in-Fault-clause-rooms g c = λ d.
    let h0 = c.args.hall.now in
    let h1 = c.mark_room.new.self in
    let room = c.remove-queue.result in
    let mark = c.mark_room.ensures in
    let back : AtRoom c.args.i KeepsBack h1.rooms.items c.put_back.new.items.items = record {
      room = room;
      after = record room { queue = c.in-Fault.queue };
      there = marked_at h0 h1 c.args.i room mark.sound c.requires.room mark.room c.requires.none c.remove-queue.ensures.value;
      is = c.put_back.ensures ∙ ap (λ (xs : List Room). insert xs c.args.i (record room { queue = c.in-Fault.queue })) c.remove-queue.ensures.items
          ∙ put_back_at h1.rooms.items c.args.i (record room { queue = c.in-Fault.queue }) (marked_range h0 h1 c.args.i room mark.sound c.requires.room mark.room c.requires.none c.remove-queue.ensures.value);
      does = (refl, c.in-Fault.ensures.seen);
    } in
    back_keeps h0 h1 c.args.i room mark.sound c.requires.room mark.room c.requires.none c.remove-queue.ensures.value (record h1 { rooms = c.put_back.new.items }) refl back

pub returns-in-Fault-clause-files : goal.returns-in-Fault-clause-files
returns-in-Fault-clause-files g c = λ told.
    let h0 = c.args.hall.now in
    let h1 = c.mark_room.new.self in
    let room = c.remove-queue.result in
    let mark = c.mark_room.ensures in
    marked_only h0 h1 c.args.i room mark.sound c.requires.room mark.room c.requires.none c.remove-queue.ensures.value (g.F.Folder.files c.args.folder.now) (g.F.Folder.files c.delete.new.folder) (c.delete.ensures.others told)

pub returns-in-Fault-clause-names : goal.returns-in-Fault-clause-names
returns-in-Fault-clause-names g c =
    names_kept c.args.hall.now.moment c.args.hall.now (record (c.mark_room.new.self) { rooms = c.put_back.new.items }) (ap (λ (x : Hall). x.unsaved_names) c.mark_room.ensures.rest) (returns-in-Fault-clause-rooms g c c.remove-queue.result)

pub returns-in-Fault-clause-since : goal.returns-in-Fault-clause-since
returns-in-Fault-clause-since g c = since_kept c.args.hall.now.moment c.args.hall.now.rooms.items c.put_back.new.items.items (returns-in-Fault-clause-rooms g c c.remove-queue.result)

pub remove-queue-requires : goal.remove-queue-requires
remove-queue-requires g c =
    let h0 = c.args.hall.now in
    let h1 = c.mark_room.new.self in
    let mark = c.mark_room.ensures.room in
    omega (arith, c.requires.room, ap length mark.is, length-set h0.rooms.items c.args.i mark.after, h1.rooms.ok.0)
