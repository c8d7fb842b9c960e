use Rattle.std.proofs.Common.{ap, sym, not, map, List, ℕ, ◌∙◌}
use Rattle.std.proofs.lemmas.List.{take_all}
use Rattle.nsq_base.specs.Name.{is_ephemeral}
use Rattle.path_image.specs.Data.{durable}
use Rattle.floor_rooms.specs.declared.stall.Stall.{Stall}
use Rattle.floor_rooms.specs.Rooms.{channel_name}
use Rattle.floor_rooms.specs.Kept.{stall_kept}
use Rattle.floor_calls.proofs.KeptNames.{one_kept, none_kept}
use Rattle.floor_calls.proofs.durable.kept_channels.Goals.{then-is_durable_channel+in_ok-push, else-is_durable_channel}
use Rattle.floor_calls.proofs.durable.kept_channels.Goals as goal

pub stalls-preserved : goal.stalls-preserved
stalls-preserved c =
    elim c.if-is_durable_channel.branch [
      | then-is_durable_channel+in_ok-push w ↦
          rw (w.channels-is, w.in_ok-push.ensures.items)
          (one_kept stall_kept (λ (x : Stall). not (is_ephemeral (channel_name x))) c.deref-stall-items.result.now c.stalls.stall-index c.stall-item.result c.stalls.channels.items w.kept_channel.result c.stalls.invariant w.kept_channel.ensures
          c.stall-item.is c.stalls-test.true (ap (λ (n : List ℕ). not (is_ephemeral n)) (sym c.name.ensures) ∙ sym c.is_durable_channel.ensures ∙ w.if-is_durable_channel.true))
      | else-is_durable_channel w ↦
          rw w.channels-is
          (none_kept stall_kept (λ (x : Stall). not (is_ephemeral (channel_name x))) c.deref-stall-items.result.now c.stalls.stall-index c.stall-item.result c.stalls.channels.items c.stalls.invariant
          c.stall-item.is c.stalls-test.true (ap (λ (n : List ℕ). not (is_ephemeral n)) (sym c.name.ensures) ∙ sym c.is_durable_channel.ensures ∙ w.if-is_durable_channel.false))
    ]

pub returns : goal.returns
returns c = c.stalls.invariant ∙ ap (λ (xs : List Stall). map stall_kept (durable channel_name xs)) (take_all c.stalls.stall-index c.deref-stall-items.result.now c.stalls-test.false ∙ c.deref-stall-items.ensures.value)
