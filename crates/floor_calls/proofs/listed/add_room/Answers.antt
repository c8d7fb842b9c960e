use Rattle.std.proofs.Common.{ap, List, ◌∷◌, ◌++◌, [], map, ◌∙◌}
use Rattle.std.proofs.lemmas.List.{take_all}
use Rattle.nsq_base.specs.Names.{with_topic}
use Rattle.floor_rooms.specs.declared.stall.Stall.{Stall}
use Rattle.floor_rooms.specs.Rooms.{channel_name, topic_name}
use Rattle.floor_calls.proofs.Naming.{stall_added, topic_added}
use Rattle.floor_calls.proofs.listed.add_room.Goals as goal

pub stalls-init : goal.stalls-init
stalls-init c = c.in_ok-add.ensures.ok ∙ ap (with_topic c.args.names.now) c.name-topic.ensures ∙ topic_added c.args.names.now (topic_name c.args.room.now) c.requires.last

pub stalls-preserved : goal.stalls-preserved
stalls-preserved c =
    stall_added c.args.names.now c.add_channel.new.self c.stalls.names (topic_name c.args.room.now) c.name-topic.result c.name.result c.args.room.now.stalls.items c.deref-stall-items.result.now c.stalls.stall-index c.stall-item.result
    c.in_ok-add_channel.ensures.ok c.name-topic.ensures c.name.ensures c.stalls.invariant c.requires.last c.requires.order c.deref-stall-items.ensures.value c.stall-item.is c.stalls-test.true

pub returns : goal.returns
returns c =
    c.stalls.invariant
    ∙ ap (λ (xs : List Stall). c.args.names.now ++ (topic_name c.args.room.now, map channel_name xs) ∷ []) (take_all c.stalls.stall-index c.deref-stall-items.result.now c.stalls-test.false ∙ c.deref-stall-items.ensures.value)
