use Rattle.std.proofs.Common.{◌≡◌, None, Some, get_or, refl, ap, arith}
use Rattle.broker_history.specs.Changes.{set_paused}
use Rattle.floor_rooms.proofs.Forming.{some_at}
use Rattle.floor_serving.specs.Asks.{pauses}
use Rattle.floor_serving.proofs.Asking.{ask_as, ask_done, ask_not, no_room, no_stall, one_told, paused_told, pauses_named, whole_told}
use Rattle.floor_serving.proofs.Staying.{around_by, only_same, same_equal}
use Rattle.floor_serving.proofs.requests.serve_pause.Goals as goal

pub returns-in_default : goal.returns-in_default
returns-in_default c = λ tells files faults. no_room tells (pauses c.args.on c.args.topic c.args.channel) c.args.topic c.args.channel c.args.hall.now files faults c.requires (λ s says. pauses_named c.args.on c.args.topic c.args.channel s says) c.in_default.ensures

pub pause-requires-clause-room : goal.pause-requires-clause-room
pause-requires-clause-room c = c.in-Some.ensures.stands.in_range

pub returns-in-Ok : goal.returns-in-Ok
returns-in-Ok c = λ tells files faults.
    ask_as tells (pauses c.args.on c.args.topic None) (pauses c.args.on c.args.topic c.args.channel) _ _ _ (ap (pauses c.args.on c.args.topic) c.in_default-channel.is)
    (ask_done tells (pauses c.args.on c.args.topic None) c.args.hall.now c.pause.new.hall files files faults faults (around_by tells c.args.hall.now c.pause.new.hall _ files files faults faults c.pause.ensures.rest refl refl refl refl refl c.pause.ensures.names c.pause.ensures.since c.pause.ensures.sound (λ told. only_same files) (omega arith)) (same_equal c.args.hall.now c.pause.new.hall _ c.pause.ensures.rest refl refl)
    (λ told. paused_told c.args.on c.args.topic None c.args.hall.now c.pause.new.hall files files (whole_told tells c.args.hall.now c.pause.new.hall files files c.args.topic c.in-Some.i c.in-Some.ensures (λ name s t. t ≡ set_paused c.args.on s name None) (c.in-Ok.ensures.paused files))))

pub returns-in-Err : goal.returns-in-Err
returns-in-Err c = λ tells files faults.
    ask_as tells (pauses c.args.on c.args.topic None) (pauses c.args.on c.args.topic c.args.channel) _ _ _ (ap (pauses c.args.on c.args.topic) c.in_default-channel.is)
    (ask_not tells (pauses c.args.on c.args.topic None) c.args.hall.now c.pause.new.hall files files faults faults (around_by tells c.args.hall.now c.pause.new.hall _ files files faults faults c.pause.ensures.rest refl refl refl refl refl c.pause.ensures.names c.pause.ensures.since c.pause.ensures.sound (λ told. only_same files) (omega arith)) (same_equal c.args.hall.now c.pause.new.hall _ c.pause.ensures.rest refl refl) _ (λ told. c.in-Err.ensures.stays files))

pub stall_place-requires-clause-room : goal.stall_place-requires-clause-room
stall_place-requires-clause-room c = c.in-Some.ensures.stands.in_range

pub returns-in_default-stall_place : goal.returns-in_default-stall_place
returns-in_default-stall_place c = λ tells files faults.
    let d = (some_at c.args.hall.now.rooms.items c.in-Some.i c.in-Some.ensures.stands.in_range).0 in
    ask_as tells (pauses c.args.on c.args.topic (Some c.in-Some-channel.channel)) (pauses c.args.on c.args.topic c.args.channel) _ _ _ (ap (pauses c.args.on c.args.topic) c.in-Some-channel.is)
    (no_stall tells (pauses c.args.on c.args.topic (Some c.in-Some-channel.channel)) c.args.topic c.in-Some-channel.channel (get_or c.args.hall.now.rooms.items c.in-Some.i d) c.args.hall.now files faults c.requires (λ s says. pauses_named c.args.on c.args.topic (Some c.in-Some-channel.channel) s says) (c.in-Some.ensures.found d) (c.in_default-stall_place.ensures d))

pub pause_channel-requires-clause-room : goal.pause_channel-requires-clause-room
pause_channel-requires-clause-room c = c.in-Some.ensures.stands.in_range

pub pause_channel-requires-clause-stall : goal.pause_channel-requires-clause-stall
pause_channel-requires-clause-stall c = λ d. (c.in-Some-stall_place.ensures d).stands.in_range

pub returns : goal.returns
returns c = λ tells files faults.
    ask_as tells (pauses c.args.on c.args.topic (Some c.in-Some-channel.channel)) (pauses c.args.on c.args.topic c.args.channel) _ _ _ (ap (pauses c.args.on c.args.topic) c.in-Some-channel.is)
    (ask_done tells (pauses c.args.on c.args.topic (Some c.in-Some-channel.channel)) c.args.hall.now c.pause_channel.new.hall files files faults faults (around_by tells c.args.hall.now c.pause_channel.new.hall _ files files faults faults c.pause_channel.ensures.rest refl refl refl refl refl c.pause_channel.ensures.names c.pause_channel.ensures.since c.pause_channel.ensures.sound (λ told. only_same files) (omega arith)) (same_equal c.args.hall.now c.pause_channel.new.hall _ c.pause_channel.ensures.rest refl refl)
    (λ told. paused_told c.args.on c.args.topic (Some c.in-Some-channel.channel) c.args.hall.now c.pause_channel.new.hall files files
    (one_told tells c.args.hall.now c.pause_channel.new.hall files files c.args.topic c.in-Some.i c.in-Some.ensures c.in-Some-channel.channel c.in-Some-stall_place.j c.in-Some-stall_place.ensures (λ topic channel s t. t ≡ set_paused c.args.on s topic (Some channel)) (c.pause_channel.ensures.paused files))))
