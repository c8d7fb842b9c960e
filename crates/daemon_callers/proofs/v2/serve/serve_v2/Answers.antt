use Rattle.std.proofs.Common.{refl, sym, subst}
use Rattle.v2_frame.specs.Reading.{Reading}
use Rattle.broker_history.specs.Calls.{AreAllowed}
use Rattle.broker_history.specs.Talk.{stops_before_gone}
use Rattle.daemon_callers.specs.Sessions.{rises}
use Rattle.daemon_callers.proofs.Ending.{never_begins}
use Rattle.daemon_callers.proofs.Warning.{warned_whole}
use Rattle.daemon_callers.proofs.Turning.{same_stream}
use Rattle.daemon_callers.proofs.Causing.{memory_has}
use Rattle.daemon_callers.proofs.v2.serve.serve_v2.Goals as goal

pub returns-in_default-new_buffers-clause-talk : goal.returns-in_default-new_buffers-clause-talk
returns-in_default-new_buffers-clause-talk g c = λ pieces written tells no_pieces no_written.
    let up = c.give_up-in_default-new_buffers in
    let wanted = g.D.Desk.wanted c.args.desk.now in
    never_begins c.args.limits (stops_before_gone c.args.number (g.D.Desk.seen c.args.desk.now)) (rises wanted wanted) _ _ _ _ _ _ up.result no_pieces (c.requires.new tells) no_written up.ensures.pieces refl (up.ensures.told written) up.ensures.memory

pub returns-in_default-new_buffers-clause-warned : goal.returns-in_default-new_buffers-clause-warned
returns-in_default-new_buffers-clause-warned g c = λ written. warned_whole c.give_up-in_default-new_buffers.result _ _ _ _ (c.give_up-in_default-new_buffers.ensures.warned written)

pub returns : goal.returns
returns g c =
    let did = c.conversation.ensures in
    record {
      talk = did.talk c.args.limits c.in-Ok.ensures;
      warned = did.warned;
      cause = did.cause;
      stream = did.stream;
      read_faults = did.read_faults;
      write_faults = did.write_faults;
      number = did.number;
      leads = did.leads;
    }

pub returns-in_default-new_buffers-clause-cause : goal.returns-in_default-new_buffers-clause-cause
returns-in_default-new_buffers-clause-cause g c = memory_has c.give_up-in_default-new_buffers.result _ _ _ _ _ c.give_up-in_default-new_buffers.ensures.memory

pub returns-in_default-new_buffers-clause-stream : goal.returns-in_default-new_buffers-clause-stream
returns-in_default-new_buffers-clause-stream g c = λ told. same_stream _ _ _ _ c.give_up-in_default-new_buffers.ensures.pieces c.give_up-in_default-new_buffers.ensures.left

pub returns-in_default-new_buffers-clause-read_faults : goal.returns-in_default-new_buffers-clause-read_faults
returns-in_default-new_buffers-clause-read_faults g c = c.give_up-in_default-new_buffers.ensures.read_faults

pub returns-in_default-new_buffers-clause-write_faults : goal.returns-in_default-new_buffers-clause-write_faults
returns-in_default-new_buffers-clause-write_faults g c = c.give_up-in_default-new_buffers.ensures.write_faults

pub returns-in_default-new_buffers-clause-number : goal.returns-in_default-new_buffers-clause-number
returns-in_default-new_buffers-clause-number g c = refl

pub returns-in_default-new_buffers-clause-leads : goal.returns-in_default-new_buffers-clause-leads
returns-in_default-new_buffers-clause-leads g c = g.met.D.Desk.stays _

pub returns-in_default-clause-cause : goal.returns-in_default-clause-cause
returns-in_default-clause-cause g c = memory_has c.give_up.result _ _ _ _ _ c.give_up.ensures.memory

pub returns-in_default-clause-stream : goal.returns-in_default-clause-stream
returns-in_default-clause-stream g c = λ told. same_stream _ _ _ _ c.give_up.ensures.pieces c.give_up.ensures.left

pub returns-in_default-clause-read_faults : goal.returns-in_default-clause-read_faults
returns-in_default-clause-read_faults g c = c.give_up.ensures.read_faults

pub returns-in_default-clause-write_faults : goal.returns-in_default-clause-write_faults
returns-in_default-clause-write_faults g c = c.give_up.ensures.write_faults

pub returns-in_default-clause-number : goal.returns-in_default-clause-number
returns-in_default-clause-number g c = refl

pub returns-in_default-clause-leads : goal.returns-in_default-clause-leads
returns-in_default-clause-leads g c = g.met.D.Desk.stays _

pub returns-in_default-clause-warned : goal.returns-in_default-clause-warned
returns-in_default-clause-warned g c = λ written. warned_whole c.give_up.result _ _ _ _ (c.give_up.ensures.warned written)

pub returns-in_default-clause-talk : goal.returns-in_default-clause-talk
returns-in_default-clause-talk g c = λ pieces written tells no_pieces no_written.
    let up = c.give_up in
    let wanted = g.D.Desk.wanted c.args.desk.now in
    never_begins c.args.limits (stops_before_gone c.args.number (g.D.Desk.seen c.args.desk.now)) (rises wanted wanted) _ _ _ _ _ _ up.result no_pieces (c.requires.new tells) no_written up.ensures.pieces refl (up.ensures.told written) up.ensures.memory

pub conversation-requires-clause-number : goal.conversation-requires-clause-number
conversation-requires-clause-number g c = λ κs lives. c.requires.number

pub conversation-requires-clause-new : goal.conversation-requires-clause-new
conversation-requires-clause-new g c = λ κs lives. c.requires.new

pub conversation-requires-clause-limits : goal.conversation-requires-clause-limits
conversation-requires-clause-limits g c = λ κs lives. subst (λ (r : Reading). AreAllowed r.limits) (sym c.in-Ok.ensures) c.requires.limits
