use Rattle.std.proofs.Common.{◌≡◌, ◌∙◌, List, arith, inr, refl, sym, ap, subst}
use Rattle.std.specs.List.{All}
use Rattle.nsq_base.specs.Options.{IsInRange}
use Rattle.nsq_base.specs.declared.options.Options.{Options}
use Rattle.topic_core.specs.Rows.{found_topic, paused_in}
use Rattle.floor_rooms.specs.declared.hall.Hall.{Hall}
use Rattle.floor_rooms.specs.declared.room.Room.{Room}
use Rattle.floor_rooms.specs.Rooms.{put_room, room_in}
use Rattle.floor_files.specs.Opened.{IsOpenedRoom, IsOpenedStall, kept_channels, opened_topic}
use Rattle.floor_files.proofs.Parting.{fails_later}
use Rattle.floor_files.proofs.Joining.{found_later, opened_with, put_sound, put_stands, refuses_later, rest_both}
use Rattle.floor_files.proofs.Found.{back_opened, back_then, bad_opened, bad_then, finds_them, lists_opened, lists_refused, lists_same, lists_then, none_bad}
use Rattle.floor_files.proofs.opening.open_topic.Goals as goal

pub returns-in_err-room-clause-files : goal.returns-in_err-room-clause-files
returns-in_err-room-clause-files g c = λ told file no_topic no_channel. c.open_queue.ensures.others told file no_topic

pub returns-in-Ok-clause-opens : goal.returns-in-Ok-clause-opens
returns-in-Ok-clause-opens g c =
    let reserved = c.reserve_room.ensures in
    let done = c.in-Ok.ensures.opened in
    let b : Room = c.open_channels.new.room in
    let options : c.reserve_room.new.self.options ≡ c.args.hall.now.options = ap (λ (x : Hall). x.options) reserved.rest in
    record {
      room = b;
      is = c.put_room.ensures.rooms ∙ ap (λ (xs : List Room). put_room xs b) reserved.rooms;
      opened = subst (λ (o : Options). IsOpenedRoom o c.args.topic c.args.paused b) options (opened_with c.reserve_room.new.self.options c.args.topic c.args.paused c.in_ok-room.room b done.rest c.in_ok-room.ensures.room);
      stalls = subst (λ (o : Options). All (IsOpenedStall o c.args.topic) b.stalls.items) options done.stalls;
    }

pub returns-in-Ok-clause-told : goal.returns-in-Ok-clause-told
returns-in-Ok-clause-told g c = λ told messages found has pairs s stands.
    let reserved = c.reserve_room.ensures in
    let done = c.in-Ok.ensures.opened in
    let room = c.in_ok-room.ensures in
    let a : Room = c.in_ok-room.room in
    let b : Room = c.open_channels.new.room in
    let f0 = g.F.Folder.files c.args.folder.now in
    let f1 = g.F.Folder.files c.open_queue.new.folder in
    let f2 = g.F.Folder.files c.open_channels.new.folder in
    put_stands c.args.hall.now c.put_room.new.hall c.reserve_room.new.self.options c.args.topic c.args.paused b c.requires.sound c.requires.new (rest_both c.args.hall.now c.reserve_room.new.self c.put_room.new.hall reserved.rest c.put_room.ensures.rest)
    (c.put_room.ensures.rooms ∙ ap (λ (xs : List Room). put_room xs b) reserved.rooms) (opened_with c.reserve_room.new.self.options c.args.topic c.args.paused a b done.rest room.room) done.stalls f0 f2
    (λ file no_topic no_channel. c.open_channels.ensures.files told file no_topic no_channel ∙ c.open_queue.ensures.others told file no_topic) s (opened_topic c.args.topic c.args.paused messages found)
    (done.told told (paused_in c.args.paused (found_topic c.args.topic messages)) found (room.told told messages has) (found_later c.args.topic f0 f1 room.room.named (c.open_queue.ensures.others told) (kept_channels c.args.channels.now) found pairs)) stands

pub returns-in-Ok-clause-sound : goal.returns-in-Ok-clause-sound
returns-in-Ok-clause-sound g c =
    let reserved = c.reserve_room.ensures in
    let done = c.in-Ok.ensures.opened in
    let h : Hall = c.reserve_room.new.self in
    put_sound h c.put_room.new.hall h.options c.args.topic c.args.paused c.open_channels.new.room (reserved.sound c.requires.sound) (ap (λ (xs : List Room). room_in xs c.args.topic) reserved.rooms ∙ c.requires.new) c.put_room.ensures.rest c.put_room.ensures.rooms
    (opened_with h.options c.args.topic c.args.paused c.in_ok-room.room c.open_channels.new.room done.rest c.in_ok-room.ensures.room) done.stalls refl done.order c.put_room.ensures.pending

pub returns-in-Ok-clause-files : goal.returns-in-Ok-clause-files
returns-in-Ok-clause-files g c = λ told file no_topic no_channel. c.open_channels.ensures.files told file no_topic no_channel ∙ c.open_queue.ensures.others told file no_topic

pub returns-in_err-room-clause-again : goal.returns-in_err-room-clause-again
returns-in_err-room-clause-again g c = λ told. lists_refused c.args.topic (g.F.Folder.files c.args.folder.now) (g.F.Folder.files c.open_queue.new.folder) c.in_err-room.field-0.0 (c.open_queue.ensures.others told) (c.in_err-room.ensures.refused told)

pub returns-in-Ok-clause-again : goal.returns-in-Ok-clause-again
returns-in-Ok-clause-again g c = λ told. lists_then (g.F.Folder.files c.args.folder.now) (g.F.Folder.files c.open_queue.new.folder) (g.F.Folder.files c.open_channels.new.folder) (lists_opened c.args.topic (g.F.Folder.files c.args.folder.now) (g.F.Folder.files c.open_queue.new.folder) (c.open_queue.ensures.others told) (c.in_ok-room.ensures.again told)) (c.open_channels.ensures.again told)

pub returns-in-Ok-clause-good : goal.returns-in-Ok-clause-good
returns-in-Ok-clause-good g c = λ told. none_bad c.args.topic c.args.channels.now (g.F.Folder.files c.args.folder.now) (g.F.Folder.files c.open_queue.new.folder) (g.F.Folder.files c.open_channels.new.folder) (c.open_queue.ensures.others told) (c.in_ok-room.ensures.again told) (c.in-Ok.ensures.leaves told)

pub returns-in-Ok-clause-bad : goal.returns-in-Ok-clause-bad
returns-in-Ok-clause-bad g c = λ told. bad_then (g.F.Folder.files c.args.folder.now) (g.F.Folder.files c.open_queue.new.folder) (g.F.Folder.files c.open_channels.new.folder) (bad_opened c.args.topic (g.F.Folder.files c.args.folder.now) (g.F.Folder.files c.open_queue.new.folder) (c.open_queue.ensures.others told) (c.in_ok-room.ensures.again told)) (c.in-Ok.ensures.leaves told).bad

pub returns-in-Ok-clause-finds : goal.returns-in-Ok-clause-finds
returns-in-Ok-clause-finds g c = λ told. finds_them c.args.topic c.args.channels.now (g.F.Folder.files c.args.folder.now) (g.F.Folder.files c.open_queue.new.folder) (g.F.Folder.files c.open_channels.new.folder) (c.open_queue.ensures.others told) (c.in_ok-room.ensures.again told) (c.in-Ok.ensures.leaves told)

pub returns-in-Ok-clause-back : goal.returns-in-Ok-clause-back
returns-in-Ok-clause-back g c = λ told. back_then (g.F.Folder.files c.args.folder.now) (g.F.Folder.files c.open_queue.new.folder) (g.F.Folder.files c.open_channels.new.folder) (back_opened c.args.topic (g.F.Folder.files c.args.folder.now) (g.F.Folder.files c.open_queue.new.folder) (c.open_queue.ensures.others told) (c.in_ok-room.ensures.again told)) (c.in-Ok.ensures.leaves told).back

pub returns-in_err-room-clause-theirs : goal.returns-in_err-room-clause-theirs
returns-in_err-room-clause-theirs g c = λ told file no_topic no_channel. c.open_queue.ensures.others told file no_topic

pub returns-in-Ok-clause-theirs : goal.returns-in-Ok-clause-theirs
returns-in-Ok-clause-theirs g c = λ told file no_topic no_channel. c.open_channels.ensures.theirs told file no_channel ∙ c.open_queue.ensures.others told file no_topic

pub returns-in_err-reserve_room-clause-again : goal.returns-in_err-reserve_room-clause-again
returns-in_err-reserve_room-clause-again g c = λ told. lists_same (g.F.Folder.files c.args.folder.now)

pub open_channels-requires-clause-options : goal.open_channels-requires-clause-options
open_channels-requires-clause-options g c = subst (λ (x : Hall). IsInRange x.options) (sym c.reserve_room.ensures.rest) c.requires.sound.options

pub open_channels-requires-clause-named : goal.open_channels-requires-clause-named
open_channels-requires-clause-named g c = c.in_ok-room.ensures.room.backlog

pub open_channels-requires-clause-empty : goal.open_channels-requires-clause-empty
open_channels-requires-clause-empty g c = c.in_ok-room.ensures.empty

pub put_room-requires-clause-sound : goal.put_room-requires-clause-sound
put_room-requires-clause-sound g c = c.reserve_room.ensures.sound c.requires.sound

pub put_room-requires-clause-new : goal.put_room-requires-clause-new
put_room-requires-clause-new g c =
    let options = c.reserve_room.new.self.options in
    let opened = opened_with options c.args.topic c.args.paused c.in_ok-room.room c.open_channels.new.room c.in-Ok.ensures.opened.rest c.in_ok-room.ensures.room in
    ap (room_in c.reserve_room.new.self.rooms.items) opened.name ∙ ap (λ (xs : List Room). room_in xs c.args.topic) c.reserve_room.ensures.rooms ∙ c.requires.new

pub returns-in-Ok-clause-rest : goal.returns-in-Ok-clause-rest
returns-in-Ok-clause-rest g c = rest_both c.args.hall.now c.reserve_room.new.self c.put_room.new.hall c.reserve_room.ensures.rest c.put_room.ensures.rest

pub returns-in_err-reserve_room-clause-sound : goal.returns-in_err-reserve_room-clause-sound
returns-in_err-reserve_room-clause-sound g c = c.reserve_room.ensures.sound c.requires.sound

pub returns-in_err-room-clause-sound : goal.returns-in_err-room-clause-sound
returns-in_err-room-clause-sound g c = c.reserve_room.ensures.sound c.requires.sound

pub returns-in-Err : goal.returns-in-Err
returns-in-Err g c =
    let first = c.open_queue.ensures.faults in
    let second = c.open_channels.ensures.faults in
    record {
      opens = tt;
      told = λ told. tt;
      again = λ told. lists_then (g.F.Folder.files c.args.folder.now) (g.F.Folder.files c.open_queue.new.folder) (g.F.Folder.files c.open_channels.new.folder) (lists_opened c.args.topic (g.F.Folder.files c.args.folder.now) (g.F.Folder.files c.open_queue.new.folder) (c.open_queue.ensures.others told) (c.in_ok-room.ensures.again told)) (c.open_channels.ensures.again told);
      good = λ told. tt;
      theirs = λ told file no_topic no_channel. c.open_channels.ensures.theirs told file no_channel ∙ c.open_queue.ensures.others told file no_topic;
      bad = λ told. tt;
      finds = λ told. tt;
      back = λ told. tt;
      same = c.reserve_room.ensures.rooms;
      rest = c.reserve_room.ensures.rest;
      sound = c.reserve_room.ensures.sound c.requires.sound;
      refused = λ told.
          inr (refuses_later c.args.topic (g.F.Folder.files c.args.folder.now) (g.F.Folder.files c.open_queue.new.folder) c.in_ok-room.ensures.room.named (c.open_queue.ensures.others told) c.args.channels.now (g.F.Folder.files c.open_channels.new.folder) c.in-Err.refusal
          (c.in-Err.ensures.refused told));
      files = λ told file no_topic no_channel. c.open_channels.ensures.files told file no_topic no_channel ∙ c.open_queue.ensures.others told file no_topic;
      faults = omega (arith, first, second);
      cause = fails_later _ _ _ c.in-Err.refusal c.open_queue.ensures.faults c.in-Err.ensures.cause;
    }
