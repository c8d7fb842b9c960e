use Rattle.std.proofs.Common.{◌≡◌, ◌∙◌, Some, get_or, refl, ap, subst, arith}
use Rattle.std.specs.List.{slice_get}
use Rattle.std.specs.Vec.{with_item}
use Rattle.std.proofs.lemmas.List.{length-set}
use Rattle.std.proofs.lemmas.Option.{get_or_from_slice_get}
use Rattle.backlog.specs.Lists.{DiskChanges}
use Rattle.channel_core.specs.Seen.{queue_name}
use Rattle.floor_rooms.specs.declared.stall.Stall.{Stall}
use Rattle.floor_rooms.specs.declared.room.Room.{Room}
use Rattle.floor_rooms.specs.declared.hall.Hall.{Hall}
use Rattle.floor_rooms.specs.Rooms.{channel_name, topic_name}
use Rattle.floor_rooms.specs.Changes.{AtStall, OthersStay}
use Rattle.floor_rooms.proofs.Placing.{at_place}
use Rattle.floor_rooms.proofs.Marked.{MarksStall, range_of}
use Rattle.floor_rooms.proofs.Dating.{since_kept}
use Rattle.floor_rooms.proofs.Naming.{names_kept, names_unsaved}
use Rattle.floor_topics.specs.Losing.{StaysBack}
use Rattle.floor_topics.proofs.Goes.{keeps_rooms}
use Rattle.floor_topics.proofs.LostPlaces.{at_stall_held, back_keeps, back_sound, back_stands, channel_was, held_stall, lost_only, lost_others, none_drawn, read_same, settled_still, topic_was}
use Rattle.floor_topics.proofs.LostWhole.{GoesOut, gone_clients, gone_files, gone_others, gone_rooms, gone_since, gone_stands, marked_range, marked_stalls, whole_sound}
use Rattle.floor_topics.proofs.losing.delete_stall.Goals as goal

pub returns-in-None : goal.returns-in-None
returns-in-None g c =
    let h0 = c.args.hall.now in
    let h1 = c.mark_stall.new.self in
    let mark = c.mark_stall.ensures in
    let room = c.index_mut.result.now in
    let at : slice_get h1.rooms.items c.args.i ≡ Some room = at_place h1.rooms.items c.args.i room (marked_range h0.moment c.args.i c.args.j c.args.i h0.rooms.items h1.rooms.items mark.stall c.requires.room) c.index_mut.ensures.value in
    let h2 = record h1 { rooms = with_item h1.rooms c.args.i c.take_out.new.room } in
    let old = g.F.Folder.files c.args.folder.now in
    let new = g.F.Folder.files c.take_out.new.folder in
    let takes = c.in-None.ensures.takes in
    let stall = takes.stall in
    let back : AtStall c.args.i c.args.j (StaysBack g.F.Folder.tells_files old new) h1.rooms.items h2.rooms.items = record { room = room; after = c.take_out.new.room; there = at; is = refl; does = takes } in
    record {
      rest = ap (λ (x : Hall). record x { rooms = with_item h1.rooms c.args.i c.take_out.new.room; clients = h1.clients; unsaved_names = h1.unsaved_names; unsaved_from = h1.unsaved_from }) c.mark_stall.ensures.rest;
      rooms = λ d e. back_keeps h0 h1 c.args.i c.args.j mark.sound mark.stall room at stall takes.there h2 refl g.F.Folder.tells_files old new back;
      clients = λ d e. ap (λ (x : Hall). x.clients.items) c.mark_stall.ensures.rest;
      sound = back_sound h0 h1 c.args.i c.args.j mark.sound mark.stall room at stall takes.there h2 refl g.F.Folder.tells_files old new back (keeps_rooms h1 (with_item h1.rooms c.args.i c.take_out.new.room) h1.unsaved_names mark.sound) refl;
      stands = λ told d e s holds. (s, refl, back_stands h0 h1 c.args.i c.args.j mark.sound mark.stall room at stall takes.there h2 refl g.F.Folder.tells_files old new back told s (lost_others h0 h1 c.args.i c.args.j mark.sound mark.stall room at stall takes.there old new (at_stall_held (λ (s : Stall). DiskChanges s.channel.backlog.queue old new) room.stalls.items c.args.j stall (c.take_out.ensures.disk told) takes.there)) (mark.stands old s holds));
      others = λ told. held_stall (λ t k. OthersStay (queue_name t k) old new) c.args.i c.args.j (MarksStall h0.moment) h0.rooms.items h1.rooms.items mark.stall (subst (λ n. OthersStay (queue_name n (channel_name mark.stall.does.stall)) old new) (topic_was h0 h1 c.args.i c.args.j mark.sound mark.stall room at stall takes.there) (subst (λ k. OthersStay (queue_name (topic_name room) k) old new) (channel_was h0 h1 c.args.i c.args.j mark.sound mark.stall room at stall takes.there) (lost_others h0 h1 c.args.i c.args.j mark.sound mark.stall room at stall takes.there old new (at_stall_held (λ (s : Stall). DiskChanges s.channel.backlog.queue old new) room.stalls.items c.args.j stall (c.take_out.ensures.disk told) takes.there))));
      files = λ told. lost_only h0 h1 c.args.i c.args.j mark.sound mark.stall room at stall takes.there old new (at_stall_held (λ (s : Stall). DiskChanges s.channel.backlog.queue old new) room.stalls.items c.args.j stall (c.take_out.ensures.disk told) takes.there);
      names = names_kept h0.moment h0 h2 (ap (λ (x : Hall). x.unsaved_names) mark.rest) (back_keeps h0 h1 c.args.i c.args.j mark.sound mark.stall room at stall takes.there h2 refl g.F.Folder.tells_files old new back);
      since = since_kept h0.moment h0.rooms.items h2.rooms.items (back_keeps h0 h1 c.args.i c.args.j mark.sound mark.stall room at stall takes.there h2 refl g.F.Folder.tells_files old new back);
      faults = c.take_out.ensures.faults;
      cause = c.in-None.ensures.cause;
      unsaved = ap (λ (x : Hall). x.unsaved_names) c.mark_stall.ensures.rest;
    }

pub returns-in-Some : goal.returns-in-Some
returns-in-Some g c =
    let h0 = c.args.hall.now in
    let h1 = c.mark_stall.new.self in
    let mark = c.mark_stall.ensures in
    let room = c.index_mut.result.now in
    let at : slice_get h1.rooms.items c.args.i ≡ Some room = at_place h1.rooms.items c.args.i room (marked_range h0.moment c.args.i c.args.j c.args.i h0.rooms.items h1.rooms.items mark.stall c.requires.room) c.index_mut.ensures.value in
    let takes = c.in-Some.ensures.takes in
    let stall = takes.stall in
    let topic : c.name-topic.result ≡ topic_name room = c.name-topic.ensures ∙ ap topic_name (read_same h1.rooms.items c.args.i room c.index.result.now at c.index.ensures) in
    let channel : c.name-channel.result ≡ channel_name stall =
    c.name-channel.ensures
    ∙ ap channel_name (c.index-3.ensures ∙ ap (λ (r : Room). get_or r.stalls.items c.args.j c.index-3.result.now) (read_same h1.rooms.items c.args.i room c.index-2.result.now at c.index-2.ensures) ∙ get_or_from_slice_get room.stalls.items c.args.j stall c.index-3.result.now takes.there) in
    let goes : GoesOut h1 c.strike.new.hall c.args.i c.args.j c.name-topic.result c.name-channel.result room c.take_out.new.room stall = record {
      sound = mark.sound;
      at = at;
      there = takes.there;
      called = topic;
      named = channel;
      is = takes.is;
      left = takes.left;
      numbers = c.deref.result.now;
      members = c.deref.ensures.value ∙ takes.members;
      rest = ap (λ (x : Hall). record x { unsaved_names = c.strike.new.hall.unsaved_names }) c.strike.ensures.rest;
      clients = c.strike.ensures.clients;
      room3 = c.strike.ensures.room;
    } in
    let h3 = c.strike.new.hall in
    record {
      rest = ap (λ (x : Hall). record x { unsaved_names = h3.unsaved_names; unsaved_from = h3.unsaved_from }) c.strike.ensures.rest ∙ ap (λ (x : Hall). record x { rooms = h3.rooms; clients = h3.clients; unsaved_names = h3.unsaved_names; unsaved_from = h3.unsaved_from }) c.mark_stall.ensures.rest;
      rooms = gone_rooms h0 h1 c.strike.new.hall c.args.i c.args.j c.name-topic.result c.name-channel.result room c.take_out.new.room stall (ap (λ (x : Hall). record x { unsaved_from = h1.unsaved_from }) mark.rest) mark.stall goes;
      clients = gone_clients h0 h1 c.strike.new.hall c.args.i c.args.j c.name-topic.result c.name-channel.result room c.take_out.new.room stall (ap (λ (x : Hall). record x { unsaved_from = h1.unsaved_from }) mark.rest) mark.stall goes;
      sound = whole_sound h1 c.strike.new.hall c.args.i c.args.j c.name-topic.result c.name-channel.result room c.take_out.new.room stall goes;
      stands = λ told. gone_stands h0 h1 c.strike.new.hall c.args.i c.args.j c.name-topic.result c.name-channel.result room c.take_out.new.room stall (ap (λ (x : Hall). record x { unsaved_from = h1.unsaved_from }) mark.rest) mark.stall goes (g.F.Folder.files c.args.folder.now) (g.F.Folder.files c.take_out.new.folder) (at_stall_held (λ (s : Stall). DiskChanges s.channel.backlog.queue (g.F.Folder.files c.args.folder.now) (g.F.Folder.files c.take_out.new.folder)) room.stalls.items c.args.j stall (c.take_out.ensures.disk told) takes.there) (takes.found told) (mark.stands (g.F.Folder.files c.args.folder.now));
      others = λ told. gone_others h0 h1 c.strike.new.hall c.args.i c.args.j c.name-topic.result c.name-channel.result room c.take_out.new.room stall (ap (λ (x : Hall). record x { unsaved_from = h1.unsaved_from }) mark.rest) mark.stall goes (g.F.Folder.files c.args.folder.now) (g.F.Folder.files c.take_out.new.folder) (at_stall_held (λ (s : Stall). DiskChanges s.channel.backlog.queue (g.F.Folder.files c.args.folder.now) (g.F.Folder.files c.take_out.new.folder)) room.stalls.items c.args.j stall (c.take_out.ensures.disk told) takes.there);
      files = λ told. gone_files h0 h1 c.strike.new.hall c.args.i c.args.j c.name-topic.result c.name-channel.result room c.take_out.new.room stall (ap (λ (x : Hall). record x { unsaved_from = h1.unsaved_from }) mark.rest) mark.stall goes (g.F.Folder.files c.args.folder.now) (g.F.Folder.files c.take_out.new.folder) (at_stall_held (λ (s : Stall). DiskChanges s.channel.backlog.queue (g.F.Folder.files c.args.folder.now) (g.F.Folder.files c.take_out.new.folder)) room.stalls.items c.args.j stall (c.take_out.ensures.disk told) takes.there);
      names = names_unsaved c.args.hall.now c.strike.new.hall (ap (λ (x : Hall). x.unsaved_names) c.strike.ensures.rest);
      since = gone_since h0 h1 c.strike.new.hall c.args.i c.args.j c.name-topic.result c.name-channel.result room c.take_out.new.room stall (ap (λ (x : Hall). record x { unsaved_from = h1.unsaved_from }) mark.rest) mark.stall goes;
      faults = c.take_out.ensures.faults;
      cause = tt;
      unsaved = ap (λ (x : Hall). x.unsaved_names) c.strike.ensures.rest;
    }

pub take_out-requires-clause-stall : goal.take_out-requires-clause-stall
take_out-requires-clause-stall g c =
    let h0 = c.args.hall.now in
    let h1 = c.mark_stall.new.self in
    range_of c.args.j h1.rooms.items c.args.i c.index_mut.result.now c.index_mut.ensures.value (marked_stalls h0.moment c.args.i c.args.j h0.rooms.items h1.rooms.items c.mark_stall.ensures.stall)

pub take_out-requires-clause-nothing : goal.take_out-requires-clause-nothing
take_out-requires-clause-nothing g c =
    let h0 = c.args.hall.now in
    let h1 = c.mark_stall.new.self in
    let mark = c.mark_stall.ensures in
    let room = c.index_mut.result.now in
    let at : slice_get h1.rooms.items c.args.i ≡ Some room = at_place h1.rooms.items c.args.i room (marked_range h0.moment c.args.i c.args.j c.args.i h0.rooms.items h1.rooms.items mark.stall c.requires.room) c.index_mut.ensures.value in
    none_drawn h1 c.args.i room mark.sound at c.args.j (take_out-requires-clause-stall g c)

pub strike-requires-clause-order : goal.strike-requires-clause-order
strike-requires-clause-order g c = c.mark_stall.ensures.sound.client_order

pub strike-requires-clause-settled : goal.strike-requires-clause-settled
strike-requires-clause-settled g c =
    let h0 = c.args.hall.now in
    let h1 = c.mark_stall.new.self in
    let mark = c.mark_stall.ensures in
    let room = c.index_mut.result.now in
    let at : slice_get h1.rooms.items c.args.i ≡ Some room = at_place h1.rooms.items c.args.i room (marked_range h0.moment c.args.i c.args.j c.args.i h0.rooms.items h1.rooms.items mark.stall c.requires.room) c.index_mut.ensures.value in
    settled_still h1 c.args.i room mark.sound at c.take_out.new.room (ap (λ (r : Room). r.queue) c.in-Some.ensures.takes.is)

pub index-requires : goal.index-requires
index-requires g c =
    let h0 = c.args.hall.now in
    let h1 = c.mark_stall.new.self in
    let within = marked_range h0.moment c.args.i c.args.j c.args.i h0.rooms.items h1.rooms.items c.mark_stall.ensures.stall c.requires.room in
    omega (arith, within, h1.rooms.ok.0)

pub index-requires-2 : goal.index-requires-2
index-requires-2 g c =
    let h0 = c.args.hall.now in
    let h1 = c.mark_stall.new.self in
    let within = marked_range h0.moment c.args.i c.args.j c.args.i h0.rooms.items h1.rooms.items c.mark_stall.ensures.stall c.requires.room in
    omega (arith, within, h1.rooms.ok.0)

pub index-requires-3 : goal.index-requires-3
index-requires-3 g c =
    let h0 = c.args.hall.now in
    let h1 = c.mark_stall.new.self in
    let room = c.index-2.result.now in
    let within = range_of c.args.j h1.rooms.items c.args.i room c.index-2.ensures (marked_stalls h0.moment c.args.i c.args.j h0.rooms.items h1.rooms.items c.mark_stall.ensures.stall) in
    omega (arith, within, room.stalls.ok.0)

pub index_mut-requires : goal.index_mut-requires
index_mut-requires g c =
    let h0 = c.args.hall.now in
    let h1 = c.mark_stall.new.self in
    let within = marked_range h0.moment c.args.i c.args.j c.args.i h0.rooms.items h1.rooms.items c.mark_stall.ensures.stall c.requires.room in
    omega (arith, within, h1.rooms.ok.0)

pub strike-requires-clause-room : goal.strike-requires-clause-room
strike-requires-clause-room g c =
    let h0 = c.args.hall.now in
    let h1 = c.mark_stall.new.self in
    let within = marked_range h0.moment c.args.i c.args.j c.args.i h0.rooms.items h1.rooms.items c.mark_stall.ensures.stall c.requires.room in
    omega (arith, within, length-set h1.rooms.items c.args.i c.take_out.new.room)
