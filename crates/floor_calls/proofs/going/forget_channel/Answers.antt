use Rattle.std.proofs.Common.{◌≡◌, true, get_or}
use Rattle.std.proofs.lemmas.Bool.{MatchBool-at_true}
use Rattle.broker_history.specs.State.{is_ephemeral_channel}
use Rattle.floor_rooms.specs.Rooms.{channel_name, topic_name}
use Rattle.floor_rooms.proofs.Forming.{some_at}
use Rattle.floor_rooms.proofs.Naming.{names_then}
use Rattle.floor_topics.proofs.LosingChannels.{lost_room, lost_since, lost_told, lost_within}
use Rattle.floor_calls.proofs.Leaving.{deserted_ephemeral, forgot_all, forgot_rest, lost_moment, none_came}
use Rattle.floor_calls.proofs.going.forget_channel.Goals as goal

pub unreachable-requires : goal.unreachable-requires
unreachable-requires g c =
    let d = (some_at c.args.hall.now.rooms.items c.args.i c.requires.room).0 in
    let x = (some_at (get_or c.args.hall.now.rooms.items c.args.i d).stalls.items c.args.j (c.requires.stall d)).0 in
    let topic = topic_name (get_or c.args.hall.now.rooms.items c.args.i d) in
    let stall = get_or (get_or c.args.hall.now.rooms.items c.args.i d).stalls.items c.args.j x in
    let no = c.lose_stall.ensures.ephemeral d x (deserted_ephemeral topic stall (c.requires.deserted d x)) in
    cc

pub forget_empty-requires-clause-room : goal.forget_empty-requires-clause-room
forget_empty-requires-clause-room g c =
    let d = (some_at c.args.hall.now.rooms.items c.args.i c.requires.room).0 in
    let x = (some_at (get_or c.args.hall.now.rooms.items c.args.i d).stalls.items c.args.j (c.requires.stall d)).0 in
    lost_within c.args.hall.now c.lose_stall.new.hall c.lose_stall.new.hall (g.F.Folder.files c.args.folder.now) (g.F.Folder.files c.lose_stall.new.folder) c.args.i c.args.j (channel_name (get_or (get_or c.args.hall.now.rooms.items c.args.i d).stalls.items c.args.j x)) c.requires.sound c.lose_stall.ensures.sound (c.in-Done.ensures.rooms d x)

pub returns-clause-told : goal.returns-clause-told
returns-clause-told g c = λ told d x s holds.
    let h0 = c.args.hall.now in
    let h1 = c.lose_stall.new.hall in
    let h2 = c.forget_empty.new.hall in
    let old = g.F.Folder.files c.args.folder.now in
    let new = g.F.Folder.files c.lose_stall.new.folder in
    let i = c.args.i in
    let j = c.args.j in
    let topic = topic_name (get_or h0.rooms.items i d) in
    let channel = channel_name (get_or (get_or h0.rooms.items i d).stalls.items j x) in
    let at = c.in-Done.ensures.rooms d x in
    let r = c.in-Done.ensures.stands told d x s holds in
    let f = c.forget_empty.ensures.stands at.after new r.0 r.2 in
    (f.0, lost_told h0 h1 h2 old new i j channel c.requires.sound c.lose_stall.ensures.sound at topic (lost_room h0 h1 h2 old new i j channel c.requires.sound c.lose_stall.ensures.sound at d) s r.0 f.0 holds r.1 r.2 f.1, f.2)

pub returns-clause-clients : goal.returns-clause-clients
returns-clause-clients g c =
    let h0 = c.args.hall.now in
    let d = (some_at h0.rooms.items c.args.i c.requires.room).0 in
    let x = (some_at (get_or h0.rooms.items c.args.i d).stalls.items c.args.j (c.requires.stall d)).0 in
    forgot_all h0 c.args.i c.args.j d x c.requires.sound c.requires.room (c.requires.stall d) c.lose_stall.new.hall c.forget_empty.new.hall (c.requires.deserted d x) (c.in-Done.ensures.clients d x) c.forget_empty.ensures.rest

pub returns-clause-rest : goal.returns-clause-rest
returns-clause-rest g c =
    let h0 = c.args.hall.now in
    let d = (some_at h0.rooms.items c.args.i c.requires.room).0 in
    let x = (some_at (get_or h0.rooms.items c.args.i d).stalls.items c.args.j (c.requires.stall d)).0 in
    let topic = topic_name (get_or h0.rooms.items c.args.i d) in
    let stall = get_or (get_or h0.rooms.items c.args.i d).stalls.items c.args.j x in
    let ephemeral : is_ephemeral_channel topic (channel_name stall) ≡ true = deserted_ephemeral topic stall (c.requires.deserted d x) in
    let unsaved : c.lose_stall.new.hall.unsaved_names ≡ h0.unsaved_names = MatchBool-at_true _ _ ephemeral (c.in-Done.ensures.unsaved d x) in
    forgot_rest h0 c.lose_stall.new.hall c.forget_empty.new.hall c.lose_stall.ensures.rest unsaved c.forget_empty.ensures.rest

pub returns-clause-names : goal.returns-clause-names
returns-clause-names g c = names_then c.args.hall.now c.lose_stall.new.hall c.forget_empty.new.hall c.lose_stall.ensures.names c.forget_empty.ensures.names

pub returns-clause-comes : goal.returns-clause-comes
returns-clause-comes g c =
    let h0 = c.args.hall.now in
    let d = (some_at h0.rooms.items c.args.i c.requires.room).0 in
    let x = (some_at (get_or h0.rooms.items c.args.i d).stalls.items c.args.j (c.requires.stall d)).0 in
    none_came c.args.i c.args.j (channel_name (get_or (get_or h0.rooms.items c.args.i d).stalls.items c.args.j x)) (get_or c.lose_stall.new.hall.rooms.items c.args.i d) h0.moment h0.rooms.items c.lose_stall.new.hall.rooms.items c.forget_empty.new.hall.rooms.items (c.in-Done.ensures.rooms d x) (c.forget_empty.ensures.rooms d)

pub returns-clause-since : goal.returns-clause-since
returns-clause-since g c =
    let d = (some_at c.args.hall.now.rooms.items c.args.i c.requires.room).0 in
    lost_since c.args.hall.now.moment c.lose_stall.new.hall.moment (get_or c.lose_stall.new.hall.rooms.items c.args.i d) c.args.hall.now.rooms.items c.lose_stall.new.hall.rooms.items c.forget_empty.new.hall.rooms.items (lost_moment c.args.hall.now c.lose_stall.new.hall c.lose_stall.ensures.rest) (c.forget_empty.ensures.rooms d) c.lose_stall.ensures.since c.forget_empty.ensures.since
