use Rattle.std.proofs.Common.{refl, arith}
use Rattle.v2_frame.specs.declared.command.Command.TheVariants as command
use Rattle.broker_history.specs.Step.{known_as, spoke}
use Rattle.negotiation.specs.Said.{said}
use Rattle.floor_serving.proofs.Commanding.{command_done, free_at, none_at}
use Rattle.floor_serving.proofs.Conditions.{identify_fresh, none_said, says_timely, says_value}
use Rattle.floor_serving.proofs.Staying.{same_changed, stays_clients}
use Rattle.floor_serving.proofs.commands.introduce.Goals as goal

pub unreachable-requires : goal.unreachable-requires
unreachable-requires c = none_said c.args.hall.now c.args.k c.args.body c.args.said c.requires.accepted c.requires.said c.in_default.is

pub index-requires : goal.index-requires
index-requires c =
    let within = c.requires.accepted.within in
    omega (arith, within, c.args.hall.now.clients.ok.0)

pub identify-requires-clause-client : goal.identify-requires-clause-client
identify-requires-clause-client c = c.requires.accepted.within

pub identify-requires-clause-none : goal.identify-requires-clause-none
identify-requires-clause-none c =
    none_at c.args.hall.now c.args.k (free_at c.args.hall.now c.args.k (command.Identify c.args.body) c.requires.accepted c.index.result.now c.index.ensures c.fresh_has_none.ensures (identify_fresh c.args.hall.now c.args.k c.args.body c.requires.accepted))

pub identify-requires-clause-timely : goal.identify-requires-clause-timely
identify-requires-clause-timely c = says_timely c.args.hall.now.options c.args.body c.args.said c.in-Some.identity c.requires.said c.in-Some.is

pub returns : goal.returns
returns c = λ tells files faults.
    command_done tells c.args.k (command.Identify c.args.body) c.args.hall.now c.identify.new.hall files faults (stays_clients c.args.hall.now c.identify.new.hall c.identify.ensures.rest) c.identify.ensures.sound
    (same_changed c.args.hall.now c.identify.new.hall c.args.k (λ d. known_as c.args.hall.now.moment (said c.in-Some.identity) (spoke c.args.hall.now.moment d)) c.requires.sound c.requires.accepted.within (λ d. refl) c.identify.ensures.clients _ c.identify.ensures.rest refl)
    (c.identify.ensures.told files c.args.body (says_value c.args.hall.now.options c.args.body c.args.said c.in-Some.identity c.requires.said c.in-Some.is))
