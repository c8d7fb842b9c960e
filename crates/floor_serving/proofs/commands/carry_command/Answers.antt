use Rattle.std.proofs.Common.{Ok, refl, sym, subst, ◌∙◌}
use Rattle.floor_serving.specs.declared.commanded.Commanded.{Commanded}
use Rattle.floor_serving.specs.Carrying.{basis}
use Rattle.floor_serving.specs.Commands.{CarriesCommand}
use Rattle.floor_serving.proofs.Commanding.{accepts, did_done, did_fault, did_not, knows_said, not_placed, refused}
use Rattle.floor_serving.proofs.Staying.{around_clients, same_changed}
use Rattle.broker_history.specs.Step.{spoke}
use Rattle.floor_serving.proofs.commands.carry_command.Goals as goal

pub unreachable-requires : goal.unreachable-requires
unreachable-requires g c = not_placed c.args.hall.now c.args.number c.args.command c.args.reply c.args.said c.requires.plan c.in_default.ensures

pub speak-requires-clause-client : goal.speak-requires-clause-client
speak-requires-clause-client g c = c.in-Some.ensures.in_range

pub do_command-requires-clause-accepted : goal.do_command-requires-clause-accepted
do_command-requires-clause-accepted g c = accepts c.args.hall.now c.args.number c.in-Some.k c.args.command c.args.reply c.args.said c.requires.plan c.in-Some.ensures (sym c.is_error.ensures ∙ c.if-is_error.false)

pub do_command-requires-clause-said : goal.do_command-requires-clause-said
do_command-requires-clause-said g c = knows_said c.args.hall.now c.args.number c.args.command c.args.reply c.args.said c.requires.plan (sym c.is_error.ensures ∙ c.if-is_error.false)

pub returns-then-is_error : goal.returns-then-is_error
returns-then-is_error g c =
    refused g.F.Folder.tells_files c.args.number c.in-Some.k c.args.command c.args.reply c.args.said (basis c.args.hall.now (g.F.Folder.files c.args.folder.now) (g.F.Folder.folder_faults c.args.folder.now)) (basis c.speak.new.hall (g.F.Folder.files c.args.folder.now) (g.F.Folder.folder_faults c.args.folder.now)) c.replied.result c.requires.plan c.in-Some.ensures (around_clients g.F.Folder.tells_files c.args.hall.now c.speak.new.hall (g.F.Folder.files c.args.folder.now) (g.F.Folder.folder_faults c.args.folder.now) c.speak.ensures.rest c.speak.ensures.sound)
    (same_changed c.args.hall.now c.speak.new.hall c.in-Some.k (spoke c.args.hall.now.moment) c.requires.sound c.in-Some.ensures.in_range (λ d. refl) c.speak.ensures.clients _ c.speak.ensures.rest refl)
    (sym c.is_error.ensures ∙ c.if-is_error.true) (c.speak.ensures.told (g.F.Folder.files c.args.folder.now) c.args.command) c.replied.ensures

pub returns-in-Err : goal.returns-in-Err
returns-in-Err g c =
    (did_not g.F.Folder.tells_files c.args.number c.in-Some.k c.args.command c.args.reply c.args.said (basis c.args.hall.now (g.F.Folder.files c.args.folder.now) (g.F.Folder.folder_faults c.args.folder.now)) (basis c.do_command.new.hall (g.F.Folder.files c.do_command.new.folder) (g.F.Folder.folder_faults c.do_command.new.folder)) c.requires.plan c.in-Some.ensures (sym c.is_error.ensures ∙ c.if-is_error.false) _ c.in-Err.ensures)

pub returns-in-Ok-Done : goal.returns-in-Ok-Done
returns-in-Ok-Done g c =
    did_done g.F.Folder.tells_files c.args.number c.in-Some.k c.args.command c.args.reply c.args.said (basis c.args.hall.now (g.F.Folder.files c.args.folder.now) (g.F.Folder.folder_faults c.args.folder.now)) (basis c.do_command.new.hall (g.F.Folder.files c.do_command.new.folder) (g.F.Folder.folder_faults c.do_command.new.folder)) c.requires.plan c.in-Some.ensures (sym c.is_error.ensures ∙ c.if-is_error.false) c.replied-in-Ok-Done.result (subst (λ (x : Commanded). CarriesCommand g.F.Folder.tells_files c.in-Some.k c.args.command (basis c.args.hall.now (g.F.Folder.files c.args.folder.now) (g.F.Folder.folder_faults c.args.folder.now)) (basis c.do_command.new.hall (g.F.Folder.files c.do_command.new.folder) (g.F.Folder.folder_faults c.do_command.new.folder)) (Ok x)) c.in-Ok-Done.field-0-is c.in-Ok-Done.ensures) c.replied-in-Ok-Done.ensures

pub returns-in-Ok-Fault : goal.returns-in-Ok-Fault
returns-in-Ok-Fault g c =
    did_fault g.F.Folder.tells_files c.args.number c.in-Some.k c.args.command c.args.reply c.args.said (basis c.args.hall.now (g.F.Folder.files c.args.folder.now) (g.F.Folder.folder_faults c.args.folder.now)) (basis c.do_command.new.hall (g.F.Folder.files c.do_command.new.folder) (g.F.Folder.folder_faults c.do_command.new.folder)) c.requires.plan c.in-Some.ensures (sym c.is_error.ensures ∙ c.if-is_error.false) c.in-Ok-Fault.frame c.kept_off.result (subst (λ (x : Commanded). CarriesCommand g.F.Folder.tells_files c.in-Some.k c.args.command (basis c.args.hall.now (g.F.Folder.files c.args.folder.now) (g.F.Folder.folder_faults c.args.folder.now)) (basis c.do_command.new.hall (g.F.Folder.files c.do_command.new.folder) (g.F.Folder.folder_faults c.do_command.new.folder)) (Ok x)) c.in-Ok-Fault.field-0-is c.in-Ok-Fault.ensures) c.kept_off.ensures
