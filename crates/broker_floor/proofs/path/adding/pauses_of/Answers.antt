use Rattle.std.proofs.Common.{◌∷◌, [], ◌++◌, ◌∙◌, Bool, List, ℕ, ap, sym, take, take_all}
use Rattle.path_image.specs.Data.{KeptChannel}
use Rattle.broker_floor.specs.Adding.{pauses}
use Rattle.broker_floor.proofs.Joining.{pauses_next}
use Rattle.broker_floor.proofs.path.adding.pauses_of.Goals as goal

pub channels-init : goal.channels-init
channels-init c = c.new-list.ensures.items

pub channels-preserved : goal.channels-preserved
channels-preserved c =
    c.in_ok-push.ensures.items ∙ ap (λ (xs : List (List ℕ × Bool)). xs ++ (c.channel.inside.channel, c.channel.inside.paused) ∷ []) c.channels.invariant
    ∙ ap (λ (k : KeptChannel). pauses (take c.channels.channel-index c.args.channels.now) ++ (k.name, k.paused) ∷ []) c.channel.view_is
    ∙ sym (pauses_next c.args.channels.now c.channels.channel-index c.channel-item.result c.channels-test.true c.channel-item.is)

pub returns : goal.returns
returns c = c.channels.invariant ∙ ap pauses (take_all c.channels.channel-index c.args.channels.now c.channels-test.false)
