use Rattle.std.proofs.Common.{subst, sym}
use Rattle.v2_frame.specs.declared.command.Command.{Command}
use Rattle.floor_serving.specs.Carrying.{basis}
use Rattle.floor_serving.specs.Commands.{CarriesCommand, IsAccepted, KnowsSaid}
use Rattle.floor_serving.proofs.Commanding.{no_identify}
use Rattle.floor_serving.proofs.commands.do_command.Goals as goal

pub introduce-requires-clause-accepted : goal.introduce-requires-clause-accepted
introduce-requires-clause-accepted g c = subst (λ (x : Command). IsAccepted c.args.hall.now c.args.k x) c.in-Identify.is c.requires.accepted

pub introduce-requires-clause-said : goal.introduce-requires-clause-said
introduce-requires-clause-said g c = subst (λ (x : Command). KnowsSaid c.args.hall.now.options x c.args.said) c.in-Identify.is c.requires.said

pub returns-in-Identify : goal.returns-in-Identify
returns-in-Identify g c = subst (λ (x : Command). CarriesCommand g.F.Folder.tells_files c.args.k x (basis c.args.hall.now (g.F.Folder.files c.args.folder.now) (g.F.Folder.folder_faults c.args.folder.now)) (basis c.introduce.new.hall (g.F.Folder.files c.args.folder.now) (g.F.Folder.folder_faults c.args.folder.now)) c.introduce.result) (sym c.in-Identify.is) (c.introduce.ensures g.F.Folder.tells_files (g.F.Folder.files c.args.folder.now) (g.F.Folder.folder_faults c.args.folder.now))

pub do_other-requires-clause-other : goal.do_other-requires-clause-other
do_other-requires-clause-other g c = no_identify c.args.command c.in_default.not-Identify
