use Rattle.std.proofs.Common.{None, Some, get_or, refl, ap}
use Rattle.broker_history.specs.declared.ask.Ask.TheVariants as ask
use Rattle.disk_queue.specs.declared.answers.Emptied.TheVariants.{Done, Fault}
use Rattle.floor_rooms.proofs.Forming.{some_at}
use Rattle.floor_calls.specs.Emptying.{EmptiesBy}
use Rattle.floor_serving.proofs.Asking.{ask_as, ask_done, ask_fault, empty_breaks, no_room, no_stall, one_told, stall_within, whole_told}
use Rattle.floor_serving.proofs.Staying.{around_by, same_equal}
use Rattle.floor_serving.proofs.requests.serve_emptying.Goals as goal

pub returns-in_default : goal.returns-in_default
returns-in_default g c = no_room g.F.Folder.tells_files (ask.Empty c.args.topic c.args.channel) c.args.topic c.args.channel c.args.hall.now (g.F.Folder.files c.args.folder.now) (g.F.Folder.folder_faults c.args.folder.now) c.requires (λ s says. says) c.in_default.ensures

pub empty_topic-requires-clause-room : goal.empty_topic-requires-clause-room
empty_topic-requires-clause-room g c = c.in-Some.ensures.stands.in_range

pub returns-in-Done : goal.returns-in-Done
returns-in-Done g c =
    ask_as g.F.Folder.tells_files (ask.Empty c.args.topic None) (ask.Empty c.args.topic c.args.channel) _ _ _ (ap (ask.Empty c.args.topic) c.in_default-channel.is)
    (ask_done g.F.Folder.tells_files (ask.Empty c.args.topic None) c.args.hall.now c.empty_topic.new.hall (g.F.Folder.files c.args.folder.now) (g.F.Folder.files c.empty_topic.new.folder) (g.F.Folder.folder_faults c.args.folder.now) (g.F.Folder.folder_faults c.empty_topic.new.folder) (around_by g.F.Folder.tells_files c.args.hall.now c.empty_topic.new.hall _ (g.F.Folder.files c.args.folder.now) (g.F.Folder.files c.empty_topic.new.folder) (g.F.Folder.folder_faults c.args.folder.now) (g.F.Folder.folder_faults c.empty_topic.new.folder) c.empty_topic.ensures.rest refl refl refl refl refl c.empty_topic.ensures.names c.empty_topic.ensures.since c.empty_topic.ensures.sound c.empty_topic.ensures.files c.empty_topic.ensures.faults) (same_equal c.args.hall.now c.empty_topic.new.hall _ c.empty_topic.ensures.rest refl refl)
    (λ told. whole_told g.F.Folder.tells_files c.args.hall.now c.empty_topic.new.hall (g.F.Folder.files c.args.folder.now) (g.F.Folder.files c.empty_topic.new.folder) c.args.topic c.in-Some.i c.in-Some.ensures (λ name. EmptiesBy Done name None) (c.in-Done.ensures.told told)))

pub returns-in-Fault : goal.returns-in-Fault
returns-in-Fault g c =
    ask_as g.F.Folder.tells_files (ask.Empty c.args.topic None) (ask.Empty c.args.topic c.args.channel) _ _ _ (ap (ask.Empty c.args.topic) c.in_default-channel.is)
    (ask_fault g.F.Folder.tells_files (ask.Empty c.args.topic None) c.args.hall.now c.empty_topic.new.hall (g.F.Folder.files c.args.folder.now) (g.F.Folder.files c.empty_topic.new.folder) (g.F.Folder.folder_faults c.args.folder.now) (g.F.Folder.folder_faults c.empty_topic.new.folder) (around_by g.F.Folder.tells_files c.args.hall.now c.empty_topic.new.hall _ (g.F.Folder.files c.args.folder.now) (g.F.Folder.files c.empty_topic.new.folder) (g.F.Folder.folder_faults c.args.folder.now) (g.F.Folder.folder_faults c.empty_topic.new.folder) c.empty_topic.ensures.rest refl refl refl refl refl c.empty_topic.ensures.names c.empty_topic.ensures.since c.empty_topic.ensures.sound c.empty_topic.ensures.files c.empty_topic.ensures.faults) (same_equal c.args.hall.now c.empty_topic.new.hall _ c.empty_topic.ensures.rest refl refl) 0
    (empty_breaks g.F.Folder.tells_files c.args.topic None c.args.hall.now c.empty_topic.new.hall (g.F.Folder.files c.args.folder.now) (g.F.Folder.files c.empty_topic.new.folder) (g.F.Folder.folder_faults c.args.folder.now) (g.F.Folder.folder_faults c.empty_topic.new.folder)
    (λ told. whole_told g.F.Folder.tells_files c.args.hall.now c.empty_topic.new.hall (g.F.Folder.files c.args.folder.now) (g.F.Folder.files c.empty_topic.new.folder) c.args.topic c.in-Some.i c.in-Some.ensures (λ name. EmptiesBy Fault name None) (c.in-Fault.ensures.told told)) c.in-Fault.ensures.cause))

pub stall_place-requires-clause-room : goal.stall_place-requires-clause-room
stall_place-requires-clause-room g c = c.in-Some.ensures.stands.in_range

pub returns-in_default-stall_place : goal.returns-in_default-stall_place
returns-in_default-stall_place g c =
    let d = (some_at c.args.hall.now.rooms.items c.in-Some.i c.in-Some.ensures.stands.in_range).0 in
    ask_as g.F.Folder.tells_files (ask.Empty c.args.topic (Some c.in-Some-channel.channel)) (ask.Empty c.args.topic c.args.channel) _ _ _ (ap (ask.Empty c.args.topic) c.in-Some-channel.is)
    (no_stall g.F.Folder.tells_files (ask.Empty c.args.topic (Some c.in-Some-channel.channel)) c.args.topic c.in-Some-channel.channel (get_or c.args.hall.now.rooms.items c.in-Some.i d) c.args.hall.now (g.F.Folder.files c.args.folder.now) (g.F.Folder.folder_faults c.args.folder.now) c.requires (λ s says. says) (c.in-Some.ensures.found d) (c.in_default-stall_place.ensures d))

pub empty_channel-requires-clause-room : goal.empty_channel-requires-clause-room
empty_channel-requires-clause-room g c = c.in-Some.ensures.stands.in_range

pub empty_channel-requires-clause-stall : goal.empty_channel-requires-clause-stall
empty_channel-requires-clause-stall g c = stall_within g.F.Folder.tells_files c.args.hall.now c.args.hall.now (g.F.Folder.files c.args.folder.now) (g.F.Folder.files c.args.folder.now) c.args.topic c.in-Some.i c.in-Some.ensures c.in-Some-channel.channel c.in-Some-stall_place.j c.in-Some-stall_place.ensures

pub returns-in-Done-empty_channel : goal.returns-in-Done-empty_channel
returns-in-Done-empty_channel g c =
    ask_as g.F.Folder.tells_files (ask.Empty c.args.topic (Some c.in-Some-channel.channel)) (ask.Empty c.args.topic c.args.channel) _ _ _ (ap (ask.Empty c.args.topic) c.in-Some-channel.is)
    (ask_done g.F.Folder.tells_files (ask.Empty c.args.topic (Some c.in-Some-channel.channel)) c.args.hall.now c.empty_channel.new.hall (g.F.Folder.files c.args.folder.now) (g.F.Folder.files c.empty_channel.new.folder) (g.F.Folder.folder_faults c.args.folder.now) (g.F.Folder.folder_faults c.empty_channel.new.folder) (around_by g.F.Folder.tells_files c.args.hall.now c.empty_channel.new.hall _ (g.F.Folder.files c.args.folder.now) (g.F.Folder.files c.empty_channel.new.folder) (g.F.Folder.folder_faults c.args.folder.now) (g.F.Folder.folder_faults c.empty_channel.new.folder) c.empty_channel.ensures.rest refl refl refl refl refl c.empty_channel.ensures.names c.empty_channel.ensures.since c.empty_channel.ensures.sound c.empty_channel.ensures.files c.empty_channel.ensures.faults) (same_equal c.args.hall.now c.empty_channel.new.hall _ c.empty_channel.ensures.rest refl refl)
    (λ told. one_told g.F.Folder.tells_files c.args.hall.now c.empty_channel.new.hall (g.F.Folder.files c.args.folder.now) (g.F.Folder.files c.empty_channel.new.folder) c.args.topic c.in-Some.i c.in-Some.ensures c.in-Some-channel.channel c.in-Some-stall_place.j c.in-Some-stall_place.ensures (λ topic channel. EmptiesBy Done topic (Some channel)) (c.in-Done-empty_channel.ensures.told told)))

pub returns-in-Fault-empty_channel : goal.returns-in-Fault-empty_channel
returns-in-Fault-empty_channel g c =
    ask_as g.F.Folder.tells_files (ask.Empty c.args.topic (Some c.in-Some-channel.channel)) (ask.Empty c.args.topic c.args.channel) _ _ _ (ap (ask.Empty c.args.topic) c.in-Some-channel.is)
    (ask_fault g.F.Folder.tells_files (ask.Empty c.args.topic (Some c.in-Some-channel.channel)) c.args.hall.now c.empty_channel.new.hall (g.F.Folder.files c.args.folder.now) (g.F.Folder.files c.empty_channel.new.folder) (g.F.Folder.folder_faults c.args.folder.now) (g.F.Folder.folder_faults c.empty_channel.new.folder) (around_by g.F.Folder.tells_files c.args.hall.now c.empty_channel.new.hall _ (g.F.Folder.files c.args.folder.now) (g.F.Folder.files c.empty_channel.new.folder) (g.F.Folder.folder_faults c.args.folder.now) (g.F.Folder.folder_faults c.empty_channel.new.folder) c.empty_channel.ensures.rest refl refl refl refl refl c.empty_channel.ensures.names c.empty_channel.ensures.since c.empty_channel.ensures.sound c.empty_channel.ensures.files c.empty_channel.ensures.faults) (same_equal c.args.hall.now c.empty_channel.new.hall _ c.empty_channel.ensures.rest refl refl) 0
    (empty_breaks g.F.Folder.tells_files c.args.topic (Some c.in-Some-channel.channel) c.args.hall.now c.empty_channel.new.hall (g.F.Folder.files c.args.folder.now) (g.F.Folder.files c.empty_channel.new.folder) (g.F.Folder.folder_faults c.args.folder.now) (g.F.Folder.folder_faults c.empty_channel.new.folder)
    (λ told. one_told g.F.Folder.tells_files c.args.hall.now c.empty_channel.new.hall (g.F.Folder.files c.args.folder.now) (g.F.Folder.files c.empty_channel.new.folder) c.args.topic c.in-Some.i c.in-Some.ensures c.in-Some-channel.channel c.in-Some-stall_place.j c.in-Some-stall_place.ensures (λ topic channel. EmptiesBy Fault topic (Some channel)) (c.in-Fault-empty_channel.ensures.told told)) c.in-Fault-empty_channel.ensures.cause))
