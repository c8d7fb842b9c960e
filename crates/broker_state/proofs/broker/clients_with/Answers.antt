use Rattle.std.proofs.Common.{sym, ap, List, ◌∙◌}
use Rattle.std.proofs.lemmas.List.{take_all}
use Rattle.std.specs.List.{filter}
use Rattle.broker_history.specs.State.{Client, has_channel}
use Rattle.broker_state.proofs.Lists.{keeps, leaves}
use Rattle.broker_state.proofs.broker.clients_with.Goals.{then-has_channel+in_ok-copy+in_ok-put_last, else-has_channel}
use Rattle.broker_state.proofs.broker.clients_with.Goals as goal

pub loop-client-preserved : goal.loop-client-preserved
loop-client-preserved c =
    elim c.if-has_channel.branch [
      | then-has_channel+in_ok-copy+in_ok-put_last w ↦
          rw w.kept-is
          (keeps (has_channel c.args.topic.now c.args.channel.now) c.args.clients.now c.loop-client.client-index _ c.client-item.result _ _ _ c.loop-client-test.true c.loop-client.invariant c.client-item.is
          (sym c.has_channel.ensures ∙ w.if-has_channel.true) w.in_ok-copy.ensures w.in_ok-put_last.ensures)
      | else-has_channel w ↦
          rw w.kept-is
          (leaves (has_channel c.args.topic.now c.args.channel.now) c.args.clients.now c.loop-client.client-index _ c.client-item.result _ c.loop-client-test.true c.loop-client.invariant c.client-item.is
          (sym c.has_channel.ensures ∙ w.if-has_channel.false))
    ]

pub returns : goal.returns
returns c =
    c.loop-client.invariant ∙ ap (λ (xs : List Client). filter (has_channel c.args.topic.now c.args.channel.now) xs) (take_all c.loop-client.client-index c.args.clients.now c.loop-client-test.false)
