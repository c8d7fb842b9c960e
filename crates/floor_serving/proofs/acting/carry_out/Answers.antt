use Rattle.std.proofs.Common.{subst, sym}
use Rattle.broker_history.specs.declared.entry.Act.{Act}
use Rattle.floor_turns.specs.Acting.{IsPlanned}
use Rattle.floor_serving.specs.Carrying.{CarriesOut, basis}
use Rattle.floor_serving.proofs.Planning.{no_command, planned_most}
use Rattle.floor_serving.proofs.acting.carry_out.Goals as goal

pub carry_command-requires-clause-plan : goal.carry_command-requires-clause-plan
carry_command-requires-clause-plan g c = (subst (λ (a : Act). IsPlanned c.args.hall.now c.args.number a c.args.said) c.in-Did.is c.requires.plan)

pub returns-in-Did : goal.returns-in-Did
returns-in-Did g c = subst (λ (a : Act). CarriesOut g.F.Folder.tells_files c.args.number a (basis c.args.hall.now (g.F.Folder.files c.args.folder.now) (g.F.Folder.folder_faults c.args.folder.now)) (basis c.carry_command.new.hall (g.F.Folder.files c.carry_command.new.folder) (g.F.Folder.folder_faults c.carry_command.new.folder)) c.carry_command.result) (sym c.in-Did.is) c.carry_command.ensures

pub carry_other-requires-clause-plan : goal.carry_other-requires-clause-plan
carry_other-requires-clause-plan g c = (c.args.said, c.requires.plan)

pub carry_other-requires-clause-other : goal.carry_other-requires-clause-other
carry_other-requires-clause-other g c = no_command c.args.act (planned_most c.args.hall.now c.args.number c.args.act c.args.said c.requires.plan) c.in_default.not-Did
