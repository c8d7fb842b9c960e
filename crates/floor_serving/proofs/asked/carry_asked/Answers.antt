use Rattle.std.proofs.Common.{Ok, subst, sym, ◌∙◌}
use Rattle.floor_serving.specs.declared.served.Served.{Served}
use Rattle.floor_serving.specs.Carrying.{basis}
use Rattle.floor_serving.specs.Asks.{CarriesAsk}
use Rattle.floor_serving.proofs.Asking.{asked_done, asked_err, asked_fault, asked_not}
use Rattle.floor_serving.proofs.asked.carry_asked.Goals as goal

pub returns-then-not-is_done : goal.returns-then-not-is_done
returns-then-not-is_done g c = λ number. asked_not g.F.Folder.tells_files number c.args.ask c.args.said c.args.hall.now (g.F.Folder.files c.args.folder.now) (g.F.Folder.folder_faults c.args.folder.now) c.requires.sound (sym c.is_done.ensures ∙ c.if-not-is_done.true)

pub returns-in-Ok-Done : goal.returns-in-Ok-Done
returns-in-Ok-Done g c = λ number.
    asked_done g.F.Folder.tells_files number c.args.ask (basis c.args.hall.now (g.F.Folder.files c.args.folder.now) (g.F.Folder.folder_faults c.args.folder.now)) (basis c.do_ask.new.hall (g.F.Folder.files c.do_ask.new.folder) (g.F.Folder.folder_faults c.do_ask.new.folder)) c.args.said (sym c.is_done.ensures ∙ c.if-not-is_done.false) (subst (λ (x : Served). CarriesAsk g.F.Folder.tells_files c.args.ask (basis c.args.hall.now (g.F.Folder.files c.args.folder.now) (g.F.Folder.folder_faults c.args.folder.now)) (basis c.do_ask.new.hall (g.F.Folder.files c.do_ask.new.folder) (g.F.Folder.folder_faults c.do_ask.new.folder)) (Ok x)) c.in-Ok-Done.field-0-is c.in-Ok-Done.ensures)

pub returns-in-Ok-Fault : goal.returns-in-Ok-Fault
returns-in-Ok-Fault g c = λ number.
    asked_fault g.F.Folder.tells_files number c.args.ask (basis c.args.hall.now (g.F.Folder.files c.args.folder.now) (g.F.Folder.folder_faults c.args.folder.now)) (basis c.do_ask.new.hall (g.F.Folder.files c.do_ask.new.folder) (g.F.Folder.folder_faults c.do_ask.new.folder)) c.args.said (sym c.is_done.ensures ∙ c.if-not-is_done.false) c.in-Ok-Fault.count (subst (λ (x : Served). CarriesAsk g.F.Folder.tells_files c.args.ask (basis c.args.hall.now (g.F.Folder.files c.args.folder.now) (g.F.Folder.folder_faults c.args.folder.now)) (basis c.do_ask.new.hall (g.F.Folder.files c.do_ask.new.folder) (g.F.Folder.folder_faults c.do_ask.new.folder)) (Ok x)) c.in-Ok-Fault.field-0-is c.in-Ok-Fault.ensures)

pub returns-in-Err : goal.returns-in-Err
returns-in-Err g c = λ number. asked_err g.F.Folder.tells_files number c.args.ask (basis c.args.hall.now (g.F.Folder.files c.args.folder.now) (g.F.Folder.folder_faults c.args.folder.now)) (basis c.do_ask.new.hall (g.F.Folder.files c.do_ask.new.folder) (g.F.Folder.folder_faults c.do_ask.new.folder)) c.args.said _ c.in-Err.ensures
