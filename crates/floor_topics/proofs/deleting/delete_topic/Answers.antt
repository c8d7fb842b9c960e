use Rattle.std.proofs.Common.{◌≡◌, false, length, get_or, is_some, refl, sym, ap, ◌∙◌, arith}
use Rattle.floor_rooms.specs.declared.hall.Hall.{Hall}
use Rattle.floor_rooms.specs.Rooms.{client_in, topic_name}
use Rattle.nsq_base.specs.Name.{is_ephemeral}
use Rattle.floor_rooms.proofs.Filing.{only_then}
use Rattle.floor_rooms.proofs.Forming.{some_at}
use Rattle.floor_rooms.proofs.Naming.{names_then}
use Rattle.floor_topics.proofs.Dropping.{absent_deleted, counted_at, dropped_name, dropped_none, dropped_rest, dropped_since, dropped_within, durable_fault, went_first, went_not, went_whole}
use Rattle.floor_topics.proofs.Frames.{same_names, same_since}
use Rattle.floor_topics.proofs.deleting.delete_topic.Goals as goal

pub returns-in_default-clause-told : goal.returns-in_default-clause-told
returns-in_default-clause-told g c = λ told s holds. (s, absent_deleted c.args.hall.now (g.F.Folder.files c.args.folder.now) s c.args.topic holds c.in_default.ensures, holds)

pub returns-in-Fault-clause-told : goal.returns-in-Fault-clause-told
returns-in-Fault-clause-told g c = λ told s holds.
    let d = (some_at c.args.hall.now.rooms.items c.in-Some.i c.in-Some.ensures.stands.in_range).0 in
    went_first c.args.hall.now (g.F.Folder.files c.args.folder.now) s c.args.topic (get_or c.args.hall.now.rooms.items c.in-Some.i d) c.requires holds (c.in-Some.ensures.found d) (c.in-Some.ensures.stands.is_key d) c.in-Fault.count c.lose_all.new.hall (g.F.Folder.files c.lose_all.new.folder) (c.in-Fault.ensures.within d) ((c.in-Fault.ensures.loses d).told told s holds)

pub returns-in-Fault-clause-rest : goal.returns-in-Fault-clause-rest
returns-in-Fault-clause-rest g c =
    let d = (some_at c.args.hall.now.rooms.items c.in-Some.i c.in-Some.ensures.stands.in_range).0 in
    (c.in-Fault.ensures.loses d).rest

pub returns-in-Fault-clause-sound : goal.returns-in-Fault-clause-sound
returns-in-Fault-clause-sound g c =
    let d = (some_at c.args.hall.now.rooms.items c.in-Some.i c.in-Some.ensures.stands.in_range).0 in
    (c.in-Fault.ensures.loses d).sound

pub returns-in-Fault-clause-names : goal.returns-in-Fault-clause-names
returns-in-Fault-clause-names g c =
    let d = (some_at c.args.hall.now.rooms.items c.in-Some.i c.in-Some.ensures.stands.in_range).0 in
    (c.in-Fault.ensures.loses d).names_told

pub returns-in-Fault-clause-since : goal.returns-in-Fault-clause-since
returns-in-Fault-clause-since g c =
    let d = (some_at c.args.hall.now.rooms.items c.in-Some.i c.in-Some.ensures.stands.in_range).0 in
    (c.in-Fault.ensures.loses d).since

pub returns-in-Fault-clause-files : goal.returns-in-Fault-clause-files
returns-in-Fault-clause-files g c =
    let d = (some_at c.args.hall.now.rooms.items c.in-Some.i c.in-Some.ensures.stands.in_range).0 in
    (c.in-Fault.ensures.loses d).files

pub returns-in-Fault-clause-faults : goal.returns-in-Fault-clause-faults
returns-in-Fault-clause-faults g c =
    let d = (some_at c.args.hall.now.rooms.items c.in-Some.i c.in-Some.ensures.stands.in_range).0 in
    (c.in-Fault.ensures.loses d).faults

pub drop_room-requires-clause-sound : goal.drop_room-requires-clause-sound
drop_room-requires-clause-sound g c =
    let d = (some_at c.args.hall.now.rooms.items c.in-Some.i c.in-Some.ensures.stands.in_range).0 in
    (c.in-Done.ensures.loses d).sound

pub drop_room-requires-clause-room : goal.drop_room-requires-clause-room
drop_room-requires-clause-room g c =
    let d = (some_at c.args.hall.now.rooms.items c.in-Some.i c.in-Some.ensures.stands.in_range).0 in
    dropped_within c.in-Some.i (length (get_or c.args.hall.now.rooms.items c.in-Some.i d).stalls.items) c.args.hall.now.rooms.items c.lose_all.new.hall.rooms.items (c.in-Done.ensures.rooms d)

pub drop_room-requires-clause-none : goal.drop_room-requires-clause-none
drop_room-requires-clause-none g c =
    let d = (some_at c.args.hall.now.rooms.items c.in-Some.i c.in-Some.ensures.stands.in_range).0 in
    dropped_none c.in-Some.i (length (get_or c.args.hall.now.rooms.items c.in-Some.i d).stalls.items) c.args.hall.now.rooms.items c.lose_all.new.hall.rooms.items (c.in-Done.ensures.rooms d) d refl

pub returns-in-Done-drop_room-clause-told : goal.returns-in-Done-drop_room-clause-told
returns-in-Done-drop_room-clause-told g c = λ told s holds.
    let d = (some_at c.args.hall.now.rooms.items c.in-Some.i c.in-Some.ensures.stands.in_range).0 in
    let now = (c.in-Done.ensures.loses d).told told s holds in
    let v = c.in-Done-drop_room.ensures.stands told d _ now in
    (v.0, went_whole c.args.hall.now (g.F.Folder.files c.args.folder.now) s c.args.topic (get_or c.args.hall.now.rooms.items c.in-Some.i d) c.requires holds (c.in-Some.ensures.found d) (c.in-Some.ensures.stands.is_key d) v.0 (topic_name (get_or c.lose_all.new.hall.rooms.items c.in-Some.i d)) (dropped_name c.in-Some.i (length (get_or c.args.hall.now.rooms.items c.in-Some.i d).stalls.items) c.args.hall.now.rooms.items c.lose_all.new.hall.rooms.items (c.in-Done.ensures.rooms d) d d) v.1, v.2)

pub returns-in-Done-drop_room-clause-rest : goal.returns-in-Done-drop_room-clause-rest
returns-in-Done-drop_room-clause-rest g c =
    let d = (some_at c.args.hall.now.rooms.items c.in-Some.i c.in-Some.ensures.stands.in_range).0 in
    dropped_rest c.args.hall.now c.lose_all.new.hall c.drop_room.new.hall (c.in-Done.ensures.loses d).rest c.drop_room.ensures.rest

pub returns-in-Done-drop_room-clause-names : goal.returns-in-Done-drop_room-clause-names
returns-in-Done-drop_room-clause-names g c =
    let d = (some_at c.args.hall.now.rooms.items c.in-Some.i c.in-Some.ensures.stands.in_range).0 in
    names_then c.args.hall.now c.lose_all.new.hall c.drop_room.new.hall (c.in-Done.ensures.loses d).names_told c.drop_room.ensures.names

pub returns-in-Done-drop_room-clause-since : goal.returns-in-Done-drop_room-clause-since
returns-in-Done-drop_room-clause-since g c =
    let d = (some_at c.args.hall.now.rooms.items c.in-Some.i c.in-Some.ensures.stands.in_range).0 in
    let loses = c.in-Done.ensures.loses d in
    dropped_since c.drop_room.result c.args.hall.now.moment c.lose_all.new.hall.moment (topic_name (get_or c.lose_all.new.hall.rooms.items c.in-Some.i d)) c.args.hall.now.rooms.items c.lose_all.new.hall.rooms.items c.drop_room.new.hall.rooms.items (ap (λ (h : Hall). h.moment) loses.rest) (c.drop_room.ensures.rooms d) loses.since c.drop_room.ensures.since

pub returns-in-Done-drop_room-clause-files : goal.returns-in-Done-drop_room-clause-files
returns-in-Done-drop_room-clause-files g c = λ told.
    let d = (some_at c.args.hall.now.rooms.items c.in-Some.i c.in-Some.ensures.stands.in_range).0 in
    only_then (g.F.Folder.files c.args.folder.now) (g.F.Folder.files c.lose_all.new.folder) (g.F.Folder.files c.drop_room.new.folder) ((c.in-Done.ensures.loses d).files told) (c.drop_room.ensures.files told)

pub returns-in-Done-drop_room-clause-faults : goal.returns-in-Done-drop_room-clause-faults
returns-in-Done-drop_room-clause-faults g c =
    let d = (some_at c.args.hall.now.rooms.items c.in-Some.i c.in-Some.ensures.stands.in_range).0 in
    let before = (c.in-Done.ensures.loses d).faults in
    let after = c.drop_room.ensures.faults in
    omega (arith, before, after)

pub returns-in-Fault-drop_room-clause-told : goal.returns-in-Fault-drop_room-clause-told
returns-in-Fault-drop_room-clause-told g c = λ told s holds.
    let d = (some_at c.args.hall.now.rooms.items c.in-Some.i c.in-Some.ensures.stands.in_range).0 in
    let now = (c.in-Done.ensures.loses d).told told s holds in
    let v = c.in-Fault-drop_room.ensures.stands told d _ now in
    let durable : is_ephemeral (topic_name (get_or c.args.hall.now.rooms.items c.in-Some.i d)) ≡ false = ap is_ephemeral (sym (dropped_name c.in-Some.i (length (get_or c.args.hall.now.rooms.items c.in-Some.i d).stalls.items) c.args.hall.now.rooms.items c.lose_all.new.hall.rooms.items (c.in-Done.ensures.rooms d) d d)) ∙ durable_fault (is_ephemeral (topic_name (get_or c.lose_all.new.hall.rooms.items c.in-Some.i d))) (c.in-Fault-drop_room.ensures.ephemeral d) in
    (v.0, went_not c.args.hall.now (g.F.Folder.files c.args.folder.now) s c.args.topic (get_or c.args.hall.now.rooms.items c.in-Some.i d) c.requires holds (c.in-Some.ensures.found d) (c.in-Some.ensures.stands.is_key d) v.0 c.len-all.result (counted_at c.args.hall.now.rooms.items c.in-Some.i c.index.result.now c.len-all.result c.in-Some.ensures.stands.in_range c.index.ensures (omega (arith, c.len-all.ensures, c.index.result.now.stalls.ok.0)) d) durable v.1, v.2)

pub returns-in-Fault-drop_room-clause-rest : goal.returns-in-Fault-drop_room-clause-rest
returns-in-Fault-drop_room-clause-rest g c =
    let d = (some_at c.args.hall.now.rooms.items c.in-Some.i c.in-Some.ensures.stands.in_range).0 in
    dropped_rest c.args.hall.now c.lose_all.new.hall c.drop_room.new.hall (c.in-Done.ensures.loses d).rest c.drop_room.ensures.rest

pub returns-in-Fault-drop_room-clause-names : goal.returns-in-Fault-drop_room-clause-names
returns-in-Fault-drop_room-clause-names g c =
    let d = (some_at c.args.hall.now.rooms.items c.in-Some.i c.in-Some.ensures.stands.in_range).0 in
    names_then c.args.hall.now c.lose_all.new.hall c.drop_room.new.hall (c.in-Done.ensures.loses d).names_told c.drop_room.ensures.names

pub returns-in-Fault-drop_room-clause-since : goal.returns-in-Fault-drop_room-clause-since
returns-in-Fault-drop_room-clause-since g c =
    let d = (some_at c.args.hall.now.rooms.items c.in-Some.i c.in-Some.ensures.stands.in_range).0 in
    let loses = c.in-Done.ensures.loses d in
    dropped_since c.drop_room.result c.args.hall.now.moment c.lose_all.new.hall.moment (topic_name (get_or c.lose_all.new.hall.rooms.items c.in-Some.i d)) c.args.hall.now.rooms.items c.lose_all.new.hall.rooms.items c.drop_room.new.hall.rooms.items (ap (λ (h : Hall). h.moment) loses.rest) (c.drop_room.ensures.rooms d) loses.since c.drop_room.ensures.since

pub returns-in-Fault-drop_room-clause-files : goal.returns-in-Fault-drop_room-clause-files
returns-in-Fault-drop_room-clause-files g c = λ told.
    let d = (some_at c.args.hall.now.rooms.items c.in-Some.i c.in-Some.ensures.stands.in_range).0 in
    only_then (g.F.Folder.files c.args.folder.now) (g.F.Folder.files c.lose_all.new.folder) (g.F.Folder.files c.drop_room.new.folder) ((c.in-Done.ensures.loses d).files told) (c.drop_room.ensures.files told)

pub returns-in-Fault-drop_room-clause-faults : goal.returns-in-Fault-drop_room-clause-faults
returns-in-Fault-drop_room-clause-faults g c =
    let d = (some_at c.args.hall.now.rooms.items c.in-Some.i c.in-Some.ensures.stands.in_range).0 in
    let before = (c.in-Done.ensures.loses d).faults in
    let after = c.drop_room.ensures.faults in
    omega (arith, before, after)

pub returns-in-Fault-drop_room-clause-cause : goal.returns-in-Fault-drop_room-clause-cause
returns-in-Fault-drop_room-clause-cause g c =
    let d = (some_at c.args.hall.now.rooms.items c.in-Some.i c.in-Some.ensures.stands.in_range).0 in
    let before = (c.in-Done.ensures.loses d).faults in
    let rose = c.in-Fault-drop_room.ensures.cause in
    omega (arith, before, rose)

pub returns-in-Fault-clause-numbers : goal.returns-in-Fault-clause-numbers
returns-in-Fault-clause-numbers g c =
    let d = (some_at c.args.hall.now.rooms.items c.in-Some.i c.in-Some.ensures.stands.in_range).0 in
    (c.in-Fault.ensures.loses d).numbers

pub returns-in-Done-drop_room-clause-numbers : goal.returns-in-Done-drop_room-clause-numbers
returns-in-Done-drop_room-clause-numbers g c =
    let d = (some_at c.args.hall.now.rooms.items c.in-Some.i c.in-Some.ensures.stands.in_range).0 in
    λ m. ap (λ (h : Hall). is_some (client_in h.clients.items m)) c.drop_room.ensures.rest ∙ (c.in-Done.ensures.loses d).numbers m

pub returns-in-Fault-drop_room-clause-numbers : goal.returns-in-Fault-drop_room-clause-numbers
returns-in-Fault-drop_room-clause-numbers g c =
    let d = (some_at c.args.hall.now.rooms.items c.in-Some.i c.in-Some.ensures.stands.in_range).0 in
    λ m. ap (λ (h : Hall). is_some (client_in h.clients.items m)) c.drop_room.ensures.rest ∙ (c.in-Done.ensures.loses d).numbers m

pub returns-in_default-clause-rest : goal.returns-in_default-clause-rest
returns-in_default-clause-rest g c = refl

pub returns-in_default-clause-sound : goal.returns-in_default-clause-sound
returns-in_default-clause-sound g c = c.requires

pub returns-in_default-clause-names : goal.returns-in_default-clause-names
returns-in_default-clause-names g c = same_names c.args.hall.now

pub returns-in_default-clause-since : goal.returns-in_default-clause-since
returns-in_default-clause-since g c = same_since c.args.hall.now

pub returns-in_default-clause-files : goal.returns-in_default-clause-files
returns-in_default-clause-files g c = λ told file others. refl

pub returns-in_default-clause-faults : goal.returns-in_default-clause-faults
returns-in_default-clause-faults g c = omega arith

pub returns-in_default-clause-cause : goal.returns-in_default-clause-cause
returns-in_default-clause-cause g c = tt

pub returns-in_default-clause-numbers : goal.returns-in_default-clause-numbers
returns-in_default-clause-numbers g c = λ m. refl

pub returns-in-Fault-clause-cause : goal.returns-in-Fault-clause-cause
returns-in-Fault-clause-cause g c = c.in-Fault.ensures.cause

pub returns-in-Done-drop_room-clause-sound : goal.returns-in-Done-drop_room-clause-sound
returns-in-Done-drop_room-clause-sound g c = c.drop_room.ensures.sound

pub returns-in-Done-drop_room-clause-cause : goal.returns-in-Done-drop_room-clause-cause
returns-in-Done-drop_room-clause-cause g c = tt

pub returns-in-Fault-drop_room-clause-sound : goal.returns-in-Fault-drop_room-clause-sound
returns-in-Fault-drop_room-clause-sound g c = c.drop_room.ensures.sound

pub room_place-requires : goal.room_place-requires
room_place-requires g c = c.requires

pub lose_all-requires-clause-sound : goal.lose_all-requires-clause-sound
lose_all-requires-clause-sound g c = c.requires

pub lose_all-requires-clause-room : goal.lose_all-requires-clause-room
lose_all-requires-clause-room g c = c.in-Some.ensures.stands.in_range
