use Rattle.std.proofs.Common.{◌≡◌, ◌<◌, ◌+◌, min, List, length, get_or, refl, sym, ap, subst, arith}
use Rattle.std.specs.VecDeque.{deque_capacity, deque_len}
use Rattle.floor_rooms.specs.declared.hall.Hall.{Hall}
use Rattle.floor_rooms.specs.declared.room.Room.{Room}
use Rattle.floor_rooms.specs.Rooms.{topic_name}
use Rattle.floor_rooms.specs.Standing.{Carries}
use Rattle.backlog.specs.declared.answers.PutAll.TheVariants.{Done as AllDone, Fault as AllFault}
use Rattle.floor_topics.proofs.Frames.{ids_sound, on_error, spaced_names, spaced_since, spaced_stays, spaced_there, there_rest}
use Rattle.floor_topics.proofs.Marks.{range_behind}
use Rattle.floor_topics.proofs.Putting.{put_counted, put_fault, put_files, there_ids, there_named, there_names, there_since, there_sound}
use Rattle.floor_topics.proofs.publishing.put_there.Goals as goal

pub returns-in-Done : goal.returns-in-Done
returns-in-Done g c =
    let sound = c.list_room.ensures.sound (c.mark_room.ensures.sound) in
    let count : c.len-count.result ≡ length c.args.messages.now.items = omega (arith, c.len-count.ensures, c.args.messages.now.ok.0) in
    let same : c.put_at.new.hall.ids_used ≡ c.args.hall.now.ids_used = there_ids g.F.Folder.tells_files c.args.hall.now c.reserve_room.new.self c.mark_room.new.self c.list_room.new.self c.put_at.new.hall (g.F.Folder.files c.args.folder.now) (g.F.Folder.files c.put_at.new.folder) c.args.messages.now.items AllDone c.args.i (min c.reserve_room.new.self.unsaved_from c.reserve_room.new.self.moment) c.reserve_room.ensures.rest c.reserve_room.ensures.rooms c.mark_room.ensures.rest c.mark_room.ensures.room c.list_room.ensures.rest c.list_room.ensures.room sound c.put_at.ensures.rest c.in-Done.ensures.room in
    let enough = c.requires.ids in
    record {
      told = λ told d s holds. put_counted g.F.Folder.tells_files c.list_room.new.self c.put_at.new.hall (g.F.Folder.files c.args.folder.now) (g.F.Folder.files c.put_at.new.folder) c.args.messages.now.items c.args.i sound c.put_at.ensures.rest c.in-Done.ensures.room told c.requires.delays (topic_name (get_or c.args.hall.now.rooms.items c.args.i d)) (there_named g.F.Folder.tells_files c.args.hall.now c.reserve_room.new.self c.mark_room.new.self c.list_room.new.self c.put_at.new.hall (g.F.Folder.files c.args.folder.now) (g.F.Folder.files c.put_at.new.folder) c.args.messages.now.items AllDone c.args.i (min c.reserve_room.new.self.unsaved_from c.reserve_room.new.self.moment) c.reserve_room.ensures.rest c.reserve_room.ensures.rooms c.mark_room.ensures.rest c.mark_room.ensures.room c.list_room.ensures.rest c.list_room.ensures.room sound c.put_at.ensures.rest c.in-Done.ensures.room d) c.len-count.result count s (c.list_room.ensures.stands (g.F.Folder.files c.args.folder.now) s (c.mark_room.ensures.stands (g.F.Folder.files c.args.folder.now) s (c.reserve_room.ensures.stands (g.F.Folder.files c.args.folder.now) s holds)));
      stays = λ files. tt;
      ids = omega (arith, same, count);
      none = tt;
      rest = there_rest c.args.hall.now c.reserve_room.new.self c.mark_room.new.self c.list_room.new.self c.put_at.new.hall (min c.reserve_room.new.self.unsaved_from c.reserve_room.new.self.moment) (c.put_at.new.hall.ids_used + c.len-count.result) c.reserve_room.ensures.rest c.mark_room.ensures.rest c.list_room.ensures.rest c.put_at.ensures.rest;
      sound = ids_sound c.put_at.new.hall (c.put_at.new.hall.ids_used + c.len-count.result) (omega (arith, same, count, enough)) (there_sound g.F.Folder.tells_files c.args.hall.now c.reserve_room.new.self c.mark_room.new.self c.list_room.new.self c.put_at.new.hall (g.F.Folder.files c.args.folder.now) (g.F.Folder.files c.put_at.new.folder) c.args.messages.now.items AllDone c.args.i (min c.reserve_room.new.self.unsaved_from c.reserve_room.new.self.moment) c.reserve_room.ensures.rest c.reserve_room.ensures.rooms c.mark_room.ensures.rest c.mark_room.ensures.room c.list_room.ensures.rest c.list_room.ensures.room sound c.put_at.ensures.rest c.in-Done.ensures.room);
      names = there_names g.F.Folder.tells_files c.args.hall.now c.reserve_room.new.self c.mark_room.new.self c.list_room.new.self c.put_at.new.hall (g.F.Folder.files c.args.folder.now) (g.F.Folder.files c.put_at.new.folder) c.args.messages.now.items AllDone c.args.i (min c.reserve_room.new.self.unsaved_from c.reserve_room.new.self.moment) c.reserve_room.ensures.rest c.reserve_room.ensures.rooms c.mark_room.ensures.rest c.mark_room.ensures.room c.list_room.ensures.rest c.list_room.ensures.room sound c.put_at.ensures.rest c.in-Done.ensures.room (c.put_at.new.hall.ids_used + c.len-count.result);
      since = there_since g.F.Folder.tells_files c.args.hall.now c.reserve_room.new.self c.mark_room.new.self c.list_room.new.self c.put_at.new.hall (g.F.Folder.files c.args.folder.now) (g.F.Folder.files c.put_at.new.folder) c.args.messages.now.items AllDone c.args.i (min c.reserve_room.new.self.unsaved_from c.reserve_room.new.self.moment) c.reserve_room.ensures.rest c.reserve_room.ensures.rooms c.mark_room.ensures.rest c.mark_room.ensures.room c.list_room.ensures.rest c.list_room.ensures.room sound c.put_at.ensures.rest c.in-Done.ensures.room;
      files = λ told. put_files g.F.Folder.tells_files c.list_room.new.self c.put_at.new.hall (g.F.Folder.files c.args.folder.now) (g.F.Folder.files c.put_at.new.folder) c.args.messages.now.items AllDone c.args.i sound c.put_at.ensures.rest c.in-Done.ensures.room told;
      faults = c.put_at.ensures.faults;
      cause = tt;
    }

pub returns-in-Fault : goal.returns-in-Fault
returns-in-Fault g c =
    let sound = c.list_room.ensures.sound (c.mark_room.ensures.sound) in
    record {
      told = λ told d s holds. (s, refl, put_fault g.F.Folder.tells_files c.list_room.new.self c.put_at.new.hall (g.F.Folder.files c.args.folder.now) (g.F.Folder.files c.put_at.new.folder) c.args.messages.now.items c.args.i sound c.put_at.ensures.rest c.in-Fault.ensures.room told s (c.list_room.ensures.stands (g.F.Folder.files c.args.folder.now) s (c.mark_room.ensures.stands (g.F.Folder.files c.args.folder.now) s (c.reserve_room.ensures.stands (g.F.Folder.files c.args.folder.now) s holds))));
      stays = λ files. tt;
      ids = there_ids g.F.Folder.tells_files c.args.hall.now c.reserve_room.new.self c.mark_room.new.self c.list_room.new.self c.put_at.new.hall (g.F.Folder.files c.args.folder.now) (g.F.Folder.files c.put_at.new.folder) c.args.messages.now.items AllFault c.args.i (min c.reserve_room.new.self.unsaved_from c.reserve_room.new.self.moment) c.reserve_room.ensures.rest c.reserve_room.ensures.rooms c.mark_room.ensures.rest c.mark_room.ensures.room c.list_room.ensures.rest c.list_room.ensures.room sound c.put_at.ensures.rest c.in-Fault.ensures.room;
      none = tt;
      rest = there_rest c.args.hall.now c.reserve_room.new.self c.mark_room.new.self c.list_room.new.self c.put_at.new.hall (min c.reserve_room.new.self.unsaved_from c.reserve_room.new.self.moment) c.put_at.new.hall.ids_used c.reserve_room.ensures.rest c.mark_room.ensures.rest c.list_room.ensures.rest c.put_at.ensures.rest;
      sound = there_sound g.F.Folder.tells_files c.args.hall.now c.reserve_room.new.self c.mark_room.new.self c.list_room.new.self c.put_at.new.hall (g.F.Folder.files c.args.folder.now) (g.F.Folder.files c.put_at.new.folder) c.args.messages.now.items AllFault c.args.i (min c.reserve_room.new.self.unsaved_from c.reserve_room.new.self.moment) c.reserve_room.ensures.rest c.reserve_room.ensures.rooms c.mark_room.ensures.rest c.mark_room.ensures.room c.list_room.ensures.rest c.list_room.ensures.room sound c.put_at.ensures.rest c.in-Fault.ensures.room;
      names = there_names g.F.Folder.tells_files c.args.hall.now c.reserve_room.new.self c.mark_room.new.self c.list_room.new.self c.put_at.new.hall (g.F.Folder.files c.args.folder.now) (g.F.Folder.files c.put_at.new.folder) c.args.messages.now.items AllFault c.args.i (min c.reserve_room.new.self.unsaved_from c.reserve_room.new.self.moment) c.reserve_room.ensures.rest c.reserve_room.ensures.rooms c.mark_room.ensures.rest c.mark_room.ensures.room c.list_room.ensures.rest c.list_room.ensures.room sound c.put_at.ensures.rest c.in-Fault.ensures.room c.put_at.new.hall.ids_used;
      since = there_since g.F.Folder.tells_files c.args.hall.now c.reserve_room.new.self c.mark_room.new.self c.list_room.new.self c.put_at.new.hall (g.F.Folder.files c.args.folder.now) (g.F.Folder.files c.put_at.new.folder) c.args.messages.now.items AllFault c.args.i (min c.reserve_room.new.self.unsaved_from c.reserve_room.new.self.moment) c.reserve_room.ensures.rest c.reserve_room.ensures.rooms c.mark_room.ensures.rest c.mark_room.ensures.room c.list_room.ensures.rest c.list_room.ensures.room sound c.put_at.ensures.rest c.in-Fault.ensures.room;
      files = λ told. put_files g.F.Folder.tells_files c.list_room.new.self c.put_at.new.hall (g.F.Folder.files c.args.folder.now) (g.F.Folder.files c.put_at.new.folder) c.args.messages.now.items AllFault c.args.i sound c.put_at.ensures.rest c.in-Fault.ensures.room told;
      faults = c.put_at.ensures.faults;
      cause = c.in-Fault.ensures.cause;
    }

pub returns-in_err-reserve_room-clause-rest : goal.returns-in_err-reserve_room-clause-rest
returns-in_err-reserve_room-clause-rest g c = spaced_there c.args.hall.now c.reserve_room.new.self c.reserve_room.ensures.rest

pub returns-in_err-reserve_room-clause-stays : goal.returns-in_err-reserve_room-clause-stays
returns-in_err-reserve_room-clause-stays g c = λ files. on_error c.from_residual.result (Carries c.args.hall.now files c.reserve_room.new.self files (λ s t. t ≡ s)) (spaced_stays c.args.hall.now c.reserve_room.new.self files (c.reserve_room.ensures.stands files))

pub returns-in_err-reserve_room-clause-none : goal.returns-in_err-reserve_room-clause-none
returns-in_err-reserve_room-clause-none g c = on_error c.from_residual.result _ (ap (λ (x : Hall). x.ids_used) c.reserve_room.ensures.rest, refl)

pub returns-in_err-reserve_room-clause-sound : goal.returns-in_err-reserve_room-clause-sound
returns-in_err-reserve_room-clause-sound g c = c.reserve_room.ensures.sound c.requires.sound

pub returns-in_err-reserve_room-clause-names : goal.returns-in_err-reserve_room-clause-names
returns-in_err-reserve_room-clause-names g c = spaced_names c.args.hall.now c.reserve_room.new.self c.reserve_room.ensures.rest c.reserve_room.ensures.rooms

pub returns-in_err-reserve_room-clause-since : goal.returns-in_err-reserve_room-clause-since
returns-in_err-reserve_room-clause-since g c = spaced_since c.args.hall.now c.reserve_room.new.self c.reserve_room.ensures.rooms

pub returns-in_err-reserve_room-clause-files : goal.returns-in_err-reserve_room-clause-files
returns-in_err-reserve_room-clause-files g c = λ told file others. refl

pub mark_room-requires-clause-sound : goal.mark_room-requires-clause-sound
mark_room-requires-clause-sound g c = c.reserve_room.ensures.sound c.requires.sound

pub mark_room-requires-clause-room : goal.mark_room-requires-clause-room
mark_room-requires-clause-room g c = subst (λ (rs : List Room). c.args.i < length rs) (sym c.reserve_room.ensures.rooms) c.requires.room

pub list_room-requires-clause-room : goal.list_room-requires-clause-room
list_room-requires-clause-room g c = range_behind c.args.i _ c.reserve_room.new.self.rooms.items c.mark_room.new.self.rooms.items c.mark_room.ensures.room

pub list_room-requires-clause-space : goal.list_room-requires-clause-space
list_room-requires-clause-space g c = subst (λ (h : Hall). deque_len h.pending < deque_capacity h.pending) (sym c.mark_room.ensures.rest) c.in_ok-reserve_room.ensures.list

pub put_at-requires-clause-sound : goal.put_at-requires-clause-sound
put_at-requires-clause-sound g c = c.list_room.ensures.sound (c.mark_room.ensures.sound)

pub put_at-requires-clause-room : goal.put_at-requires-clause-room
put_at-requires-clause-room g c = range_behind c.args.i _ c.mark_room.new.self.rooms.items c.list_room.new.self.rooms.items c.list_room.ensures.room

pub put_at-requires-clause-short : goal.put_at-requires-clause-short
put_at-requires-clause-short g c = c.requires.short

pub put_at-requires-clause-scratch : goal.put_at-requires-clause-scratch
put_at-requires-clause-scratch g c = c.requires.scratch
