use Rattle.std.proofs.Common.{ap, subst, sym, List, ℕ, ◌∙◌}
use Rattle.std.specs.List.{filter}
use Rattle.std.proofs.lemmas.List.{take_all}
use Rattle.path_image.specs.Found.{Pairwise}
use Rattle.broker_history.specs.Said.{is_wanted}
use Rattle.floor_rooms.specs.declared.stall.Stall.{Stall}
use Rattle.floor_rooms.specs.Rooms.{channel_name, topic_name}
use Rattle.floor_rooms.specs.Sound.{AreMembers, IsStallSound}
use Rattle.floor_calls.specs.Stats.{IsToldOfStall}
use Rattle.floor_calls.proofs.Telling.{one_told, one_passed, read_of_all}
use Rattle.floor_calls.proofs.told.channels_stats.Goals.{then-is_wanted_channel+in_ok-channel_stats+in_ok-push, else-is_wanted_channel}
use Rattle.floor_calls.proofs.told.channels_stats.Goals as goal

pub stalls-preserved : goal.stalls-preserved
stalls-preserved c =
    elim c.if-is_wanted_channel.branch [
      | then-is_wanted_channel+in_ok-channel_stats+in_ok-push w ↦
          rw (w.told-is, w.in_ok-push.ensures.ok)
          (one_told (IsToldOfStall c.args.hall.now (topic_name c.args.room.now)) (λ (x : Stall). is_wanted c.args.channel (channel_name x)) c.deref-stall-items.result.now c.stalls.stall-index c.stall-item.result c.stalls.told w.in_ok-channel_stats.field-0
          c.stall-item.is c.stalls-test.true (ap (is_wanted c.args.channel) (sym c.name.ensures.value) ∙ sym c.is_wanted_channel.ensures ∙ w.if-is_wanted_channel.true)
          (subst (λ (t : List ℕ). IsToldOfStall c.args.hall.now t c.stall-item.result w.in_ok-channel_stats.field-0) c.name-topic.ensures.value w.in_ok-channel_stats.ensures) c.stalls.invariant)
      | else-is_wanted_channel w ↦
          rw w.told-is
          (one_passed (IsToldOfStall c.args.hall.now (topic_name c.args.room.now)) (λ (x : Stall). is_wanted c.args.channel (channel_name x)) c.deref-stall-items.result.now c.stalls.stall-index c.stall-item.result c.stalls.told
          c.stall-item.is c.stalls-test.true (ap (is_wanted c.args.channel) (sym c.name.ensures.value) ∙ sym c.is_wanted_channel.ensures ∙ w.if-is_wanted_channel.false) c.stalls.invariant)
    ]

pub channel_stats-requires-clause-stall : goal.channel_stats-requires-clause-stall
channel_stats-requires-clause-stall c =
    let h = c.args.hall.now in
    subst (λ (t : List ℕ). IsStallSound h.options t h.quiet_until h.unsaved_from c.stall-item.result) (sym c.name-topic.ensures.value)
    (read_of_all (IsStallSound h.options (topic_name c.args.room.now) h.quiet_until h.unsaved_from) c.deref-stall-items.result.now c.args.room.now.stalls.items c.stalls.stall-index c.stall-item.result c.requires.room.stalls c.deref-stall-items.ensures.value c.stall-item.is c.stalls-test.true)

pub channel_stats-requires-clause-members : goal.channel_stats-requires-clause-members
channel_stats-requires-clause-members c =
    let clients = c.args.hall.now.clients.items in
    subst (λ (t : List ℕ). AreMembers clients t c.stall-item.result) (sym c.name-topic.ensures.value)
    (read_of_all (AreMembers clients (topic_name c.args.room.now)) c.deref-stall-items.result.now c.args.room.now.stalls.items c.stalls.stall-index c.stall-item.result c.requires.members c.deref-stall-items.ensures.value c.stall-item.is c.stalls-test.true)

pub returns : goal.returns
returns c =
    subst (λ (xs : List Stall). Pairwise (IsToldOfStall c.args.hall.now (topic_name c.args.room.now)) (filter (λ (x : Stall). is_wanted c.args.channel (channel_name x)) xs) c.stalls.told)
    (take_all c.stalls.stall-index c.deref-stall-items.result.now c.stalls-test.false ∙ c.deref-stall-items.ensures.value) c.stalls.invariant
