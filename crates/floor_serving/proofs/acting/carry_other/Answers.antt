use Rattle.std.proofs.Common.{subst, sym}
use Rattle.broker_history.specs.declared.entry.Act.{Act}
use Rattle.floor_turns.specs.Acting.{IsPlanned}
use Rattle.floor_serving.specs.Carrying.{CarriesOut, IsNoCommand, basis}
use Rattle.floor_serving.proofs.Closing.{act_left}
use Rattle.floor_serving.proofs.Planning.{asked_can, beat_there, begin_none, gone_there, left, planned_most}
use Rattle.floor_serving.proofs.acting.carry_other.Goals as goal

pub carry_begin-requires-clause-new : goal.carry_begin-requires-clause-new
carry_begin-requires-clause-new g c = begin_none c.args.hall.now c.args.number c.requires.plan.0 (subst (λ (a : Act). IsPlanned c.args.hall.now c.args.number a c.requires.plan.0) c.in-Began.is c.requires.plan.1)

pub carry_beat-requires-clause-there : goal.carry_beat-requires-clause-there
carry_beat-requires-clause-there g c = beat_there c.args.hall.now c.args.number c.requires.plan.0 (subst (λ (a : Act). IsPlanned c.args.hall.now c.args.number a c.requires.plan.0) c.in-Beat.is c.requires.plan.1)

pub carry_gone-requires-clause-there : goal.carry_gone-requires-clause-there
carry_gone-requires-clause-there g c = gone_there c.args.hall.now c.args.number c.requires.plan.0 (subst (λ (a : Act). IsPlanned c.args.hall.now c.args.number a c.requires.plan.0) c.in-Gone.is c.requires.plan.1)

pub carry_asked-requires-clause-can : goal.carry_asked-requires-clause-can
carry_asked-requires-clause-can g c = asked_can c.args.hall.now c.args.number c.in-Asked.ask c.in-Asked.answer c.requires.plan.0 (subst (λ (a : Act). IsPlanned c.args.hall.now c.args.number a c.requires.plan.0) c.in-Asked.is c.requires.plan.1)

pub returns-in-Began : goal.returns-in-Began
returns-in-Began g c = subst (λ (a : Act). CarriesOut g.F.Folder.tells_files c.args.number a (basis c.args.hall.now (g.F.Folder.files c.args.folder.now) (g.F.Folder.folder_faults c.args.folder.now)) (basis c.carry_begin.new.hall (g.F.Folder.files c.args.folder.now) (g.F.Folder.folder_faults c.args.folder.now)) c.carry_begin.result) (sym c.in-Began.is) (c.carry_begin.ensures g.F.Folder.tells_files (g.F.Folder.files c.args.folder.now) (g.F.Folder.folder_faults c.args.folder.now))

pub returns-in-Beat : goal.returns-in-Beat
returns-in-Beat g c = subst (λ (a : Act). CarriesOut g.F.Folder.tells_files c.args.number a (basis c.args.hall.now (g.F.Folder.files c.args.folder.now) (g.F.Folder.folder_faults c.args.folder.now)) (basis c.carry_beat.new.hall (g.F.Folder.files c.args.folder.now) (g.F.Folder.folder_faults c.args.folder.now)) c.carry_beat.result) (sym c.in-Beat.is) (c.carry_beat.ensures g.F.Folder.tells_files (g.F.Folder.files c.args.folder.now) (g.F.Folder.folder_faults c.args.folder.now))

pub returns-in-Gone : goal.returns-in-Gone
returns-in-Gone g c = subst (λ (a : Act). CarriesOut g.F.Folder.tells_files c.args.number a (basis c.args.hall.now (g.F.Folder.files c.args.folder.now) (g.F.Folder.folder_faults c.args.folder.now)) (basis c.carry_gone.new.hall (g.F.Folder.files c.carry_gone.new.folder) (g.F.Folder.folder_faults c.carry_gone.new.folder)) c.carry_gone.result) (sym c.in-Gone.is) c.carry_gone.ensures

pub returns-in-Asked : goal.returns-in-Asked
returns-in-Asked g c = subst (λ (a : Act). CarriesOut g.F.Folder.tells_files c.args.number a (basis c.args.hall.now (g.F.Folder.files c.args.folder.now) (g.F.Folder.folder_faults c.args.folder.now)) (basis c.carry_asked.new.hall (g.F.Folder.files c.carry_asked.new.folder) (g.F.Folder.folder_faults c.carry_asked.new.folder)) c.carry_asked.result) (sym c.in-Asked.is) (c.carry_asked.ensures c.args.number)

pub returns-in-Stop : goal.returns-in-Stop
returns-in-Stop g c = subst (λ (a : Act). CarriesOut g.F.Folder.tells_files c.args.number a (basis c.args.hall.now (g.F.Folder.files c.args.folder.now) (g.F.Folder.folder_faults c.args.folder.now)) (basis c.carry_stop.new.hall (g.F.Folder.files c.args.folder.now) (g.F.Folder.folder_faults c.args.folder.now)) c.carry_stop.result) (sym c.in-Stop.is) (c.carry_stop.ensures g.F.Folder.tells_files c.args.number (g.F.Folder.files c.args.folder.now) (g.F.Folder.folder_faults c.args.folder.now))

pub leave-requires : goal.leave-requires
leave-requires g c = left c.args.act (planned_most c.args.hall.now c.args.number c.args.act c.requires.plan.0 c.requires.plan.1) c.in_default.not-Began (λ command reply e. subst IsNoCommand e c.requires.other) c.in_default.not-Beat c.in_default.not-Gone c.in_default.not-Asked c.in_default.not-Stop

pub returns-in_default : goal.returns-in_default
returns-in_default g c = act_left g.F.Folder.tells_files c.args.number c.args.act c.args.hall.now (g.F.Folder.files c.args.folder.now) (g.F.Folder.folder_faults c.args.folder.now) c.leave.result c.requires.sound (left c.args.act (planned_most c.args.hall.now c.args.number c.args.act c.requires.plan.0 c.requires.plan.1) c.in_default.not-Began (λ command reply e. subst IsNoCommand e c.requires.other) c.in_default.not-Beat c.in_default.not-Gone c.in_default.not-Asked c.in_default.not-Stop) c.requires.plan.1.short c.leave.ensures.end c.leave.ensures.answer
