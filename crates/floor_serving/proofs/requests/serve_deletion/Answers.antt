use Rattle.std.proofs.Common.{None, Some, refl, ap}
use Rattle.broker_history.specs.declared.ask.Ask.TheVariants as ask
use Rattle.floor_rooms.specs.declared.hall.Hall.{Hall}
use Rattle.floor_serving.proofs.Asking.{ask_as, ask_done, ask_fault, delete_breaks, first_breaks}
use Rattle.floor_serving.proofs.Staying.{around_by}
use Rattle.floor_serving.proofs.requests.serve_deletion.Goals as goal

pub returns-in-Done : goal.returns-in-Done
returns-in-Done g c =
    ask_as g.F.Folder.tells_files (ask.Delete c.args.topic None) (ask.Delete c.args.topic c.args.channel) _ _ _ (ap (ask.Delete c.args.topic) c.in-None.is)
    (ask_done g.F.Folder.tells_files (ask.Delete c.args.topic None) c.args.hall.now c.delete_topic.new.hall (g.F.Folder.files c.args.folder.now) (g.F.Folder.files c.delete_topic.new.folder) (g.F.Folder.folder_faults c.args.folder.now) (g.F.Folder.folder_faults c.delete_topic.new.folder) (around_by g.F.Folder.tells_files c.args.hall.now c.delete_topic.new.hall _ (g.F.Folder.files c.args.folder.now) (g.F.Folder.files c.delete_topic.new.folder) (g.F.Folder.folder_faults c.args.folder.now) (g.F.Folder.folder_faults c.delete_topic.new.folder) c.delete_topic.ensures.rest refl refl refl refl refl c.delete_topic.ensures.names c.delete_topic.ensures.since c.delete_topic.ensures.sound c.delete_topic.ensures.files c.delete_topic.ensures.faults) (record { there = c.delete_topic.ensures.numbers; stopped = ap (λ (h : Hall). h.stopped) c.delete_topic.ensures.rest }) c.in-Done.ensures.told)

pub returns-in-Fault : goal.returns-in-Fault
returns-in-Fault g c =
    ask_as g.F.Folder.tells_files (ask.Delete c.args.topic None) (ask.Delete c.args.topic c.args.channel) _ _ _ (ap (ask.Delete c.args.topic) c.in-None.is)
    (ask_fault g.F.Folder.tells_files (ask.Delete c.args.topic None) c.args.hall.now c.delete_topic.new.hall (g.F.Folder.files c.args.folder.now) (g.F.Folder.files c.delete_topic.new.folder) (g.F.Folder.folder_faults c.args.folder.now) (g.F.Folder.folder_faults c.delete_topic.new.folder) (around_by g.F.Folder.tells_files c.args.hall.now c.delete_topic.new.hall _ (g.F.Folder.files c.args.folder.now) (g.F.Folder.files c.delete_topic.new.folder) (g.F.Folder.folder_faults c.args.folder.now) (g.F.Folder.folder_faults c.delete_topic.new.folder) c.delete_topic.ensures.rest refl refl refl refl refl c.delete_topic.ensures.names c.delete_topic.ensures.since c.delete_topic.ensures.sound c.delete_topic.ensures.files c.delete_topic.ensures.faults) (record { there = c.delete_topic.ensures.numbers; stopped = ap (λ (h : Hall). h.stopped) c.delete_topic.ensures.rest }) c.in-Fault.count
    (first_breaks g.F.Folder.tells_files c.args.topic c.in-Fault.count c.args.hall.now c.delete_topic.new.hall (g.F.Folder.files c.args.folder.now) (g.F.Folder.files c.delete_topic.new.folder) (g.F.Folder.folder_faults c.args.folder.now) (g.F.Folder.folder_faults c.delete_topic.new.folder) c.in-Fault.ensures.told c.in-Fault.ensures.cause))

pub returns-in-Done-delete_channel : goal.returns-in-Done-delete_channel
returns-in-Done-delete_channel g c =
    ask_as g.F.Folder.tells_files (ask.Delete c.args.topic (Some c.in-Some.channel)) (ask.Delete c.args.topic c.args.channel) _ _ _ (ap (ask.Delete c.args.topic) c.in-Some.is)
    (ask_done g.F.Folder.tells_files (ask.Delete c.args.topic (Some c.in-Some.channel)) c.args.hall.now c.delete_channel.new.hall (g.F.Folder.files c.args.folder.now) (g.F.Folder.files c.delete_channel.new.folder) (g.F.Folder.folder_faults c.args.folder.now) (g.F.Folder.folder_faults c.delete_channel.new.folder) (around_by g.F.Folder.tells_files c.args.hall.now c.delete_channel.new.hall _ (g.F.Folder.files c.args.folder.now) (g.F.Folder.files c.delete_channel.new.folder) (g.F.Folder.folder_faults c.args.folder.now) (g.F.Folder.folder_faults c.delete_channel.new.folder) c.delete_channel.ensures.rest refl refl refl refl refl c.delete_channel.ensures.names c.delete_channel.ensures.since c.delete_channel.ensures.sound c.delete_channel.ensures.files c.delete_channel.ensures.faults) (record { there = c.delete_channel.ensures.numbers; stopped = ap (λ (h : Hall). h.stopped) c.delete_channel.ensures.rest }) c.in-Done-delete_channel.ensures.told)

pub returns-in-Fault-delete_channel : goal.returns-in-Fault-delete_channel
returns-in-Fault-delete_channel g c =
    ask_as g.F.Folder.tells_files (ask.Delete c.args.topic (Some c.in-Some.channel)) (ask.Delete c.args.topic c.args.channel) _ _ _ (ap (ask.Delete c.args.topic) c.in-Some.is)
    (ask_fault g.F.Folder.tells_files (ask.Delete c.args.topic (Some c.in-Some.channel)) c.args.hall.now c.delete_channel.new.hall (g.F.Folder.files c.args.folder.now) (g.F.Folder.files c.delete_channel.new.folder) (g.F.Folder.folder_faults c.args.folder.now) (g.F.Folder.folder_faults c.delete_channel.new.folder) (around_by g.F.Folder.tells_files c.args.hall.now c.delete_channel.new.hall _ (g.F.Folder.files c.args.folder.now) (g.F.Folder.files c.delete_channel.new.folder) (g.F.Folder.folder_faults c.args.folder.now) (g.F.Folder.folder_faults c.delete_channel.new.folder) c.delete_channel.ensures.rest refl refl refl refl refl c.delete_channel.ensures.names c.delete_channel.ensures.since c.delete_channel.ensures.sound c.delete_channel.ensures.files c.delete_channel.ensures.faults) (record { there = c.delete_channel.ensures.numbers; stopped = ap (λ (h : Hall). h.stopped) c.delete_channel.ensures.rest }) 0
    (delete_breaks g.F.Folder.tells_files c.args.topic c.in-Some.channel c.args.hall.now c.delete_channel.new.hall (g.F.Folder.files c.args.folder.now) (g.F.Folder.files c.delete_channel.new.folder) (g.F.Folder.folder_faults c.args.folder.now) (g.F.Folder.folder_faults c.delete_channel.new.folder) c.in-Fault-delete_channel.ensures.told c.in-Fault-delete_channel.ensures.cause))
