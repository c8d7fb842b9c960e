use Rattle.std.proofs.Common.{◌≡◌, ◌+◌, min, List, Some, length, refl, sym, ap, subst, ◌∙◌, arith}
use Rattle.nsq_base.specs.Places.{BelongsAt}
use Rattle.floor_rooms.specs.declared.hall.Hall.{Hall}
use Rattle.floor_rooms.specs.declared.room.Room.{Room}
use Rattle.floor_rooms.specs.Rooms.{topic_name}
use Rattle.floor_rooms.specs.Standing.{Carries}
use Rattle.floor_rooms.proofs.Dating.{keeps_equal, since_kept}
use Rattle.floor_rooms.proofs.Placing.{none_belonging}
use Rattle.floor_rooms.proofs.Forming.{fresh_room_sound}
use Rattle.floor_topics.proofs.Frames.{came_rest, ids_sound, on_error, spaced_more, spaced_names, spaced_since, spaced_stays}
use Rattle.floor_topics.proofs.Joining.{fresh_files, joined_counted, joined_sound, joins_name, joins_stalls, refused_stays}
use Rattle.floor_topics.proofs.Coming.{added_else, came_names, came_since}
use Rattle.floor_topics.proofs.publishing.put_new.Goals as goal

pub returns-in-Fault : goal.returns-in-Fault
returns-in-Fault g c = record {
  told =
      λ told s holds.
      let place : BelongsAt topic_name c.reserve_room.new.self.rooms.items c.args.topic c.args.i = subst (λ (xs : List Room). BelongsAt topic_name xs c.args.topic c.args.i) (sym c.reserve_room.ensures.rooms) c.requires.place in
      let sound = c.reserve_room.ensures.sound c.requires.sound in (
        s,
        refl,
        refused_stays c.reserve_room.new.self g.F.Folder.tells_files (g.F.Folder.files c.args.folder.now) (g.F.Folder.files c.fill.new.folder) c.args.topic c.in_ok-room.room sound c.in_ok-room.ensures.room (record {
          after = c.fill.new.room.queue.backlog.queue;
          unstages = c.in-Fault.ensures.room.seen.backlog.1;
          stands = c.in-Fault.ensures.room.stands;
          others = c.in-Fault.ensures.room.others;
        }) place.absent (none_belonging topic_name c.reserve_room.new.self.rooms.items c.args.topic c.args.i place) told (c.in_ok-room.ensures.stands (g.F.Folder.files c.args.folder.now)) s (c.reserve_room.ensures.stands (g.F.Folder.files c.args.folder.now) s holds),
      );
  stays = λ files. tt;
  ids = ap (λ (x : Hall). x.ids_used) c.reserve_room.ensures.rest;
  none = tt;
  rest = spaced_more c.args.hall.now c.reserve_room.new.self c.reserve_room.ensures.rest;
  sound = c.reserve_room.ensures.sound c.requires.sound;
  names = spaced_names c.args.hall.now c.reserve_room.new.self c.reserve_room.ensures.rest c.reserve_room.ensures.rooms;
  since = since_kept c.args.hall.now.moment c.args.hall.now.rooms.items c.reserve_room.new.self.rooms.items (keeps_equal c.args.hall.now.moment c.args.hall.now.rooms.items c.reserve_room.new.self.rooms.items c.reserve_room.ensures.rooms);
  files = λ told. fresh_files c.args.topic c.reserve_room.new.self.options c.in_ok-room.room (g.F.Folder.files c.args.folder.now) (g.F.Folder.files c.fill.new.folder) c.in_ok-room.ensures.room (c.in-Fault.ensures.room.others told);
  faults = c.fill.ensures.faults;
  cause = c.in-Fault.ensures.cause;
}

pub returns : goal.returns
returns g c = record {
  told =
      λ told s holds.
      let place : BelongsAt topic_name c.reserve_room.new.self.rooms.items c.args.topic c.args.i = subst (λ (xs : List Room). BelongsAt topic_name xs c.args.topic c.args.i) (sym c.reserve_room.ensures.rooms) c.requires.place in
      let sound = c.reserve_room.ensures.sound c.requires.sound in
      let count : c.len-count.result ≡ length c.args.messages.now.items = omega (arith, c.len-count.ensures, c.args.messages.now.ok.0) in
      let rest = added_else c.reserve_room.new.self c.add_room.new.self c.min-hall.result _ c.add_room.ensures.rest in
      joined_counted c.add_room.new.self g.F.Folder.tells_files (g.F.Folder.files c.args.folder.now) (g.F.Folder.files c.fill.new.folder) c.args.messages.now.items c.args.topic c.reserve_room.new.self.options c.in_ok-room.room c.fill.new.room c.reserve_room.new.self.moment c.in_ok-room.ensures.room c.in-Done.ensures.room c.reserve_room.new.self sound rest refl place.absent (none_belonging topic_name c.reserve_room.new.self.rooms.items c.args.topic c.args.i place) c.add_room.ensures.rooms told c.requires.delays (c.in_ok-room.ensures.stands (g.F.Folder.files c.args.folder.now)) c.len-count.result count s (c.reserve_room.ensures.stands (g.F.Folder.files c.args.folder.now) s holds);
  stays = λ files. tt;
  ids =
      let count : c.len-count.result ≡ length c.args.messages.now.items = omega (arith, c.len-count.ensures, c.args.messages.now.ok.0) in
      let same : c.add_room.new.self.ids_used ≡ c.args.hall.now.ids_used = ap (λ (x : Hall). x.ids_used) (added_else c.reserve_room.new.self c.add_room.new.self c.min-hall.result _ c.add_room.ensures.rest) ∙ ap (λ (x : Hall). x.ids_used) c.reserve_room.ensures.rest in
      omega (arith, same, count);
  none = tt;
  rest = came_rest c.args.hall.now c.reserve_room.new.self c.add_room.new.self c.min-hall.result (c.add_room.new.self.ids_used + c.len-count.result) _ c.reserve_room.ensures.rest c.add_room.ensures.rest;
  sound =
      let place : BelongsAt topic_name c.reserve_room.new.self.rooms.items c.args.topic c.args.i = subst (λ (xs : List Room). BelongsAt topic_name xs c.args.topic c.args.i) (sym c.reserve_room.ensures.rooms) c.requires.place in
      let sound = c.reserve_room.ensures.sound c.requires.sound in
      let count : c.len-count.result ≡ length c.args.messages.now.items = omega (arith, c.len-count.ensures, c.args.messages.now.ok.0) in
      let rest = added_else c.reserve_room.new.self c.add_room.new.self c.min-hall.result _ c.add_room.ensures.rest in
      let same : c.add_room.new.self.ids_used ≡ c.args.hall.now.ids_used = ap (λ (x : Hall). x.ids_used) rest ∙ ap (λ (x : Hall). x.ids_used) c.reserve_room.ensures.rest in
      let enough = c.requires.ids in
      let from : c.add_room.new.self.unsaved_from ≡ min c.reserve_room.new.self.unsaved_from c.reserve_room.new.self.moment = ap (λ (x : Hall). x.unsaved_from) c.add_room.ensures.rest ∙ c.min-hall.ensures in
      ids_sound c.add_room.new.self (c.add_room.new.self.ids_used + c.len-count.result) (omega (arith, same, count, enough))
      (joined_sound c.add_room.new.self g.F.Folder.tells_files (g.F.Folder.files c.args.folder.now) (g.F.Folder.files c.fill.new.folder) c.args.messages.now.items c.args.topic c.reserve_room.new.self.options c.in_ok-room.room c.fill.new.room c.reserve_room.new.self.moment c.in_ok-room.ensures.room c.in-Done.ensures.room c.reserve_room.new.self sound rest (ap (λ (x : Hall). x.quiet_until) c.add_room.ensures.rest) (ap (λ (x : Hall). x.pending.items) c.add_room.ensures.rest) from refl refl (none_belonging topic_name c.reserve_room.new.self.rooms.items c.args.topic c.args.i place) c.add_room.ensures.rooms);
  names = came_names c.args.hall.now c.reserve_room.new.self c.add_room.new.self c.args.i c.min-hall.result (c.add_room.new.self.ids_used + c.len-count.result) (record (c.fill.new.room) { since = Some c.reserve_room.new.self.moment }) c.args.topic c.requires.place (joins_name c.add_room.new.self g.F.Folder.tells_files (g.F.Folder.files c.args.folder.now) (g.F.Folder.files c.fill.new.folder) c.args.messages.now.items c.args.topic c.reserve_room.new.self.options c.in_ok-room.room c.fill.new.room c.reserve_room.new.self.moment c.in_ok-room.ensures.room c.in-Done.ensures.room) c.reserve_room.ensures.rest c.reserve_room.ensures.rooms c.add_room.ensures.rest c.add_room.ensures.rooms;
  since = came_since c.args.hall.now c.reserve_room.new.self c.add_room.new.self c.args.i (record (c.fill.new.room) { since = Some c.reserve_room.new.self.moment }) c.args.topic c.requires.place (joins_name c.add_room.new.self g.F.Folder.tells_files (g.F.Folder.files c.args.folder.now) (g.F.Folder.files c.fill.new.folder) c.args.messages.now.items c.args.topic c.reserve_room.new.self.options c.in_ok-room.room c.fill.new.room c.reserve_room.new.self.moment c.in_ok-room.ensures.room c.in-Done.ensures.room) c.reserve_room.ensures.rest c.reserve_room.ensures.rooms c.add_room.ensures.rooms (ap (λ (x : Hall). Some x.moment) c.reserve_room.ensures.rest) (joins_stalls c.add_room.new.self g.F.Folder.tells_files (g.F.Folder.files c.args.folder.now) (g.F.Folder.files c.fill.new.folder) c.args.messages.now.items c.args.topic c.reserve_room.new.self.options c.in_ok-room.room c.fill.new.room c.reserve_room.new.self.moment c.in_ok-room.ensures.room c.in-Done.ensures.room);
  files = λ told. fresh_files c.args.topic c.reserve_room.new.self.options c.in_ok-room.room (g.F.Folder.files c.args.folder.now) (g.F.Folder.files c.fill.new.folder) c.in_ok-room.ensures.room (c.in-Done.ensures.room.others told);
  faults = c.fill.ensures.faults;
  cause = tt;
}

pub returns-in_err-reserve_room-clause-rest : goal.returns-in_err-reserve_room-clause-rest
returns-in_err-reserve_room-clause-rest g c = spaced_more c.args.hall.now c.reserve_room.new.self c.reserve_room.ensures.rest

pub returns-in_err-reserve_room-clause-stays : goal.returns-in_err-reserve_room-clause-stays
returns-in_err-reserve_room-clause-stays g c = λ files. on_error _ (Carries c.args.hall.now files c.reserve_room.new.self files (λ s t. t ≡ s)) (spaced_stays c.args.hall.now c.reserve_room.new.self files (c.reserve_room.ensures.stands files))

pub returns-in_err-reserve_room-clause-none : goal.returns-in_err-reserve_room-clause-none
returns-in_err-reserve_room-clause-none g c = on_error c.from_residual.result _ (ap (λ (x : Hall). x.ids_used) c.reserve_room.ensures.rest, refl)

pub returns-in_err-reserve_room-clause-sound : goal.returns-in_err-reserve_room-clause-sound
returns-in_err-reserve_room-clause-sound g c = c.reserve_room.ensures.sound c.requires.sound

pub returns-in_err-reserve_room-clause-names : goal.returns-in_err-reserve_room-clause-names
returns-in_err-reserve_room-clause-names g c = spaced_names c.args.hall.now c.reserve_room.new.self c.reserve_room.ensures.rest c.reserve_room.ensures.rooms

pub returns-in_err-reserve_room-clause-since : goal.returns-in_err-reserve_room-clause-since
returns-in_err-reserve_room-clause-since g c = spaced_since c.args.hall.now c.reserve_room.new.self c.reserve_room.ensures.rooms

pub returns-in_err-reserve_room-clause-files : goal.returns-in_err-reserve_room-clause-files
returns-in_err-reserve_room-clause-files g c = λ told file others. refl

pub returns-in_err-room-clause-rest : goal.returns-in_err-room-clause-rest
returns-in_err-room-clause-rest g c = spaced_more c.args.hall.now c.reserve_room.new.self c.reserve_room.ensures.rest

pub returns-in_err-room-clause-stays : goal.returns-in_err-room-clause-stays
returns-in_err-room-clause-stays g c = λ files. on_error _ (Carries c.args.hall.now files c.reserve_room.new.self files (λ s t. t ≡ s)) (spaced_stays c.args.hall.now c.reserve_room.new.self files (c.reserve_room.ensures.stands files))

pub returns-in_err-room-clause-none : goal.returns-in_err-room-clause-none
returns-in_err-room-clause-none g c = on_error c.from_residual-in_err-room.result _ (ap (λ (x : Hall). x.ids_used) c.reserve_room.ensures.rest, refl)

pub returns-in_err-room-clause-sound : goal.returns-in_err-room-clause-sound
returns-in_err-room-clause-sound g c = c.reserve_room.ensures.sound c.requires.sound

pub returns-in_err-room-clause-names : goal.returns-in_err-room-clause-names
returns-in_err-room-clause-names g c = spaced_names c.args.hall.now c.reserve_room.new.self c.reserve_room.ensures.rest c.reserve_room.ensures.rooms

pub returns-in_err-room-clause-since : goal.returns-in_err-room-clause-since
returns-in_err-room-clause-since g c = spaced_since c.args.hall.now c.reserve_room.new.self c.reserve_room.ensures.rooms

pub returns-in_err-room-clause-files : goal.returns-in_err-room-clause-files
returns-in_err-room-clause-files g c = λ told file others. refl

pub fill-requires-clause-settled : goal.fill-requires-clause-settled
fill-requires-clause-settled g c = (fresh_room_sound c.reserve_room.new.self c.args.topic c.in_ok-room.room c.in_ok-room.ensures.room).settled

pub fill-requires-clause-short : goal.fill-requires-clause-short
fill-requires-clause-short g c = c.requires.short

pub fill-requires-clause-scratch : goal.fill-requires-clause-scratch
fill-requires-clause-scratch g c = c.requires.scratch

pub add_room-requires-clause-place : goal.add_room-requires-clause-place
add_room-requires-clause-place g c =
    let place : BelongsAt topic_name c.reserve_room.new.self.rooms.items c.args.topic c.args.i = subst (λ (xs : List Room). BelongsAt topic_name xs c.args.topic c.args.i) (sym c.reserve_room.ensures.rooms) c.requires.place in
    subst (λ n. BelongsAt topic_name c.reserve_room.new.self.rooms.items n c.args.i) (sym (joins_name c.reserve_room.new.self g.F.Folder.tells_files (g.F.Folder.files c.args.folder.now) (g.F.Folder.files c.fill.new.folder) c.args.messages.now.items c.args.topic c.reserve_room.new.self.options c.in_ok-room.room c.fill.new.room c.reserve_room.new.self.moment c.in_ok-room.ensures.room c.in-Done.ensures.room)) place

pub add_room-requires-clause-space : goal.add_room-requires-clause-space
add_room-requires-clause-space g c = c.in_ok-reserve_room.ensures.space
