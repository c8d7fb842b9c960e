use Rattle.std.proofs.Common.{◌<◌, ◌∙◌, ◌||◌, not, ap, arith, get_or}
use Rattle.std.specs.Prelude.{vec_capacity, vec_len}
use Rattle.std.specs.Global.{Vec}
use Rattle.nsq_base.specs.Places.{BelongsAt}
use Rattle.broker_history.specs.State.{is_ephemeral_channel}
use Rattle.floor_rooms.specs.declared.hall.Hall.{Hall}
use Rattle.floor_rooms.specs.declared.stall.Stall.{Stall}
use Rattle.floor_rooms.specs.Rooms.{channel_name, topic_name}
use Rattle.floor_rooms.proofs.Marked.{ListsRoom}
use Rattle.floor_rooms.proofs.Spacing.{range_at}
use Rattle.floor_rooms.proofs.Growing.{grown_at, grown_name_at, stalls_listed}
use Rattle.floor_rooms.proofs.hall.Hall.add_stall.Goals as goal

pub add-requires-clause-place : goal.add-requires-clause-place
add-requires-clause-place c =
    stalls_listed c.args.i c.args.self.now.pending.items c.list_room.new.self.pending.items c.args.self.now.rooms.items c.list_room.new.self.rooms.items c.index_mut-room.result.now (λ (v : Vec Stall). BelongsAt channel_name v.items (channel_name c.args.stall) c.args.j)
    c.list_room.ensures.room c.index_mut-room.ensures.value c.requires.place

pub add-requires-clause-space : goal.add-requires-clause-space
add-requires-clause-space c =
    stalls_listed c.args.i c.args.self.now.pending.items c.list_room.new.self.pending.items c.args.self.now.rooms.items c.list_room.new.self.rooms.items c.index_mut-room.result.now (λ (v : Vec Stall). vec_len v < vec_capacity v) c.list_room.ensures.room
    c.index_mut-room.ensures.value c.requires.space

pub returns-clause-room : goal.returns-clause-room
returns-clause-room c =
    grown_at c.args.i c.args.stall c.args.self.now.pending.items c.list_room.new.self.pending.items c.args.self.now.rooms.items c.list_room.new.self.rooms.items c.index_mut-room.result.now c.add.new.self c.list_room.ensures.room c.index_mut-room.ensures.value
    c.add.ensures.rest c.add.ensures.stalls

pub returns-clause-unsaved : goal.returns-clause-unsaved
returns-clause-unsaved c = λ d.
    c.also_durable-self.ensures
    ∙ ap (λ (x : Hall). x.unsaved_names || not (is_ephemeral_channel c.name.result c.name-2.result)) c.list_room.ensures.rest
    ∙ ap (λ t. c.args.self.now.unsaved_names || not (is_ephemeral_channel t c.name-2.result)) (c.name.ensures ∙ grown_name_at c.args.i c.args.self.now.pending.items c.list_room.new.self.pending.items c.args.self.now.rooms.items c.list_room.new.self.rooms.items c.index_mut-room.result.now c.list_room.ensures.room c.index_mut-room.ensures.value d)
    ∙ ap (λ n. c.args.self.now.unsaved_names || not (is_ephemeral_channel (topic_name (get_or c.args.self.now.rooms.items c.args.i d)) n)) c.name-2.ensures

pub index_mut-room-requires : goal.index_mut-room-requires
index_mut-room-requires c =
    let within = range_at c.args.i (ListsRoom c.args.self.now.pending.items c.list_room.new.self.pending.items) c.args.self.now.rooms.items c.list_room.new.self.rooms.items c.list_room.ensures.room in
    let long = c.list_room.new.self.rooms.ok.0 in
    omega (arith, within, long)
