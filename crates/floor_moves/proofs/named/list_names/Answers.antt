use Rattle.std.proofs.Common.{ap, List, ◌∷◌, [], map, ◌∙◌}
use Rattle.std.proofs.lemmas.List.{take_all}
use Rattle.nsq_base.specs.Names.{with_topic}
use Rattle.floor_rooms.specs.declared.stall.Stall.{Stall}
use Rattle.floor_rooms.specs.Rooms.{channel_name, topic_name}
use Rattle.floor_moves.proofs.Naming.{stall_added}
use Rattle.floor_moves.proofs.named.list_names.Goals as goal

pub stalls-init : goal.stalls-init
stalls-init c = c.in_ok-add.ensures.ok ∙ ap (with_topic c.new-names.result) c.name-topic.ensures ∙ ap (λ ns. with_topic ns (topic_name c.args.room.now)) c.new-names.ensures

pub stalls-preserved : goal.stalls-preserved
stalls-preserved c =
    stall_added c.add_channel.new.self c.stalls.names (topic_name c.args.room.now) c.name-topic.result c.name.result c.args.room.now.stalls.items c.deref-stall-items.result.now c.stalls.stall-index c.stall-item.result
    c.in_ok-add_channel.ensures.ok c.name-topic.ensures c.name.ensures c.stalls.invariant c.requires c.deref-stall-items.ensures.value c.stall-item.is c.stalls-test.true

pub returns : goal.returns
returns c =
    c.stalls.invariant
    ∙ ap (λ (xs : List Stall). (topic_name c.args.room.now, map channel_name xs) ∷ []) (take_all c.stalls.stall-index c.deref-stall-items.result.now c.stalls-test.false ∙ c.deref-stall-items.ensures.value)
