use Rattle.std.proofs.Common.{◌≡◌, ◌∙◌, true, Some, get_or, refl, ap}
use Rattle.std.specs.List.{slice_get}
use Rattle.std.proofs.lemmas.Option.{slice_get-get_or}
use Rattle.broker_history.specs.State.{is_ephemeral_channel}
use Rattle.floor_rooms.specs.declared.room.Room.{Room}
use Rattle.floor_rooms.specs.declared.hall.Hall.{Hall}
use Rattle.floor_rooms.specs.Rooms.{channel_name, topic_name}
use Rattle.floor_rooms.proofs.Placing.{at_place}
use Rattle.floor_rooms.proofs.Marked.{range_of}
use Rattle.floor_topics.proofs.LostPlaces.{of_stall, read_same}
use Rattle.floor_topics.proofs.LostWhole.{GoesOut, went_clients, went_names, went_rooms, went_stands, whole_since, whole_sound}
use Rattle.floor_topics.proofs.losing.forget_stall.Goals as goal

pub returns : goal.returns
returns c =
    let h = c.args.hall.now in
    let room = c.index_mut.result.now in
    let room2 = record room { stalls = c.drop_stall-members.new.stalls } in
    let stall = get_or room.stalls.items c.args.j c.index-3.result.now in
    let at : slice_get h.rooms.items c.args.i ≡ Some room = at_place h.rooms.items c.args.i room c.requires.room c.index_mut.ensures.value in
    let there : slice_get room.stalls.items c.args.j ≡ Some stall = slice_get-get_or room.stalls.items c.args.j c.index-3.result.now (range_of c.args.j h.rooms.items c.args.i room c.index_mut.ensures.value c.requires.stall) in
    let named : c.name-channel.result ≡ channel_name stall = c.name-channel.ensures ∙ ap channel_name (c.index-3.ensures ∙ ap (λ (r : Room). get_or r.stalls.items c.args.j c.index-3.result.now) (read_same h.rooms.items c.args.i room c.index-2.result.now at c.index-2.ensures)) in
    let ephemeral : is_ephemeral_channel (topic_name room) c.name-channel.result ≡ true =
    ap (is_ephemeral_channel (topic_name room)) named ∙ of_stall (λ r s. is_ephemeral_channel (topic_name r) (channel_name s) ≡ true) h.rooms.items c.args.i c.args.j room stall c.requires.ephemeral at there in
    let goes : GoesOut h c.strike.new.hall c.args.i c.args.j c.name-topic.result c.name-channel.result room room2 stall = record {
      sound = c.requires.sound;
      at = at;
      there = there;
      called = c.name-topic.ensures ∙ ap topic_name (read_same h.rooms.items c.args.i room c.index.result.now at c.index.ensures);
      named = named;
      is = refl;
      left = c.drop_stall-members.ensures.left;
      numbers = c.deref.result.now;
      members = c.deref.ensures.value ∙ c.drop_stall-members.ensures.members c.index-3.result.now;
      rest = ap (λ (x : Hall). record x { unsaved_names = c.strike.new.hall.unsaved_names }) c.strike.ensures.rest;
      clients = c.strike.ensures.clients;
      room3 = c.strike.ensures.room;
    } in
    record {
      rest = c.strike.ensures.rest;
      rooms = went_rooms h c.strike.new.hall c.args.i c.args.j c.name-topic.result c.name-channel.result room room2 stall goes ephemeral;
      clients = went_clients h c.strike.new.hall c.args.i c.args.j c.name-topic.result c.name-channel.result room room2 stall goes ephemeral;
      sound = whole_sound h c.strike.new.hall c.args.i c.args.j c.name-topic.result c.name-channel.result room room2 stall goes;
      stands = λ files. went_stands h c.strike.new.hall c.args.i c.args.j c.name-topic.result c.name-channel.result room room2 stall goes ephemeral files;
      names = went_names h c.strike.new.hall c.args.i c.args.j c.name-topic.result c.name-channel.result room room2 stall goes ephemeral (ap (λ (x : Hall). x.unsaved_names) c.strike.ensures.rest);
      since = whole_since h c.strike.new.hall c.args.i c.args.j c.name-topic.result c.name-channel.result room room2 stall goes;
    }
