use Rattle.std.proofs.Common.{subst, sym}
use Rattle.broker_history.specs.declared.ask.Ask.{Ask}
use Rattle.broker_history.specs.Calls.{CanAsk}
use Rattle.floor_serving.specs.Carrying.{basis}
use Rattle.floor_serving.specs.Asks.{CarriesAsk}
use Rattle.floor_serving.proofs.asked.do_ask.Goals as goal

pub serve_publish-requires-clause-can : goal.serve_publish-requires-clause-can
serve_publish-requires-clause-can g c = subst CanAsk c.in-Publish.is c.requires.can

pub returns-in-Publish : goal.returns-in-Publish
returns-in-Publish g c = subst (λ (x : Ask). CarriesAsk g.F.Folder.tells_files x (basis c.args.hall.now (g.F.Folder.files c.args.folder.now) (g.F.Folder.folder_faults c.args.folder.now)) (basis c.serve_publish.new.hall (g.F.Folder.files c.serve_publish.new.folder) (g.F.Folder.folder_faults c.serve_publish.new.folder)) c.serve_publish.result) (sym c.in-Publish.is) c.serve_publish.ensures

pub returns-in-Stats : goal.returns-in-Stats
returns-in-Stats g c = subst (λ (x : Ask). CarriesAsk g.F.Folder.tells_files x (basis c.args.hall.now (g.F.Folder.files c.args.folder.now) (g.F.Folder.folder_faults c.args.folder.now)) (basis c.serve_nothing.new.hall (g.F.Folder.files c.args.folder.now) (g.F.Folder.folder_faults c.args.folder.now)) c.serve_nothing.result) (sym c.in-Stats.is) (c.serve_nothing.ensures g.F.Folder.tells_files (g.F.Folder.files c.args.folder.now) (g.F.Folder.folder_faults c.args.folder.now))

pub returns-in-Create : goal.returns-in-Create
returns-in-Create g c = subst (λ (x : Ask). CarriesAsk g.F.Folder.tells_files x (basis c.args.hall.now (g.F.Folder.files c.args.folder.now) (g.F.Folder.folder_faults c.args.folder.now)) (basis c.serve_creation.new.hall (g.F.Folder.files c.args.folder.now) (g.F.Folder.folder_faults c.args.folder.now)) c.serve_creation.result) (sym c.in-Create.is) (c.serve_creation.ensures g.F.Folder.tells_files (g.F.Folder.files c.args.folder.now) (g.F.Folder.folder_faults c.args.folder.now))

pub returns-in-Delete : goal.returns-in-Delete
returns-in-Delete g c = subst (λ (x : Ask). CarriesAsk g.F.Folder.tells_files x (basis c.args.hall.now (g.F.Folder.files c.args.folder.now) (g.F.Folder.folder_faults c.args.folder.now)) (basis c.serve_deletion.new.hall (g.F.Folder.files c.serve_deletion.new.folder) (g.F.Folder.folder_faults c.serve_deletion.new.folder)) c.serve_deletion.result) (sym c.in-Delete.is) c.serve_deletion.ensures

pub returns-in-Empty : goal.returns-in-Empty
returns-in-Empty g c = subst (λ (x : Ask). CarriesAsk g.F.Folder.tells_files x (basis c.args.hall.now (g.F.Folder.files c.args.folder.now) (g.F.Folder.folder_faults c.args.folder.now)) (basis c.serve_emptying.new.hall (g.F.Folder.files c.serve_emptying.new.folder) (g.F.Folder.folder_faults c.serve_emptying.new.folder)) c.serve_emptying.result) (sym c.in-Empty.is) c.serve_emptying.ensures

pub returns-in-Pause : goal.returns-in-Pause
returns-in-Pause g c = subst (λ (x : Ask). CarriesAsk g.F.Folder.tells_files x (basis c.args.hall.now (g.F.Folder.files c.args.folder.now) (g.F.Folder.folder_faults c.args.folder.now)) (basis c.serve_pause.new.hall (g.F.Folder.files c.args.folder.now) (g.F.Folder.folder_faults c.args.folder.now)) c.serve_pause.result) (sym c.in-Pause.is) (c.serve_pause.ensures g.F.Folder.tells_files (g.F.Folder.files c.args.folder.now) (g.F.Folder.folder_faults c.args.folder.now))

pub returns-in-Unpause : goal.returns-in-Unpause
returns-in-Unpause g c = subst (λ (x : Ask). CarriesAsk g.F.Folder.tells_files x (basis c.args.hall.now (g.F.Folder.files c.args.folder.now) (g.F.Folder.folder_faults c.args.folder.now)) (basis c.serve_pause-in-Unpause.new.hall (g.F.Folder.files c.args.folder.now) (g.F.Folder.folder_faults c.args.folder.now)) c.serve_pause-in-Unpause.result) (sym c.in-Unpause.is) (c.serve_pause-in-Unpause.ensures g.F.Folder.tells_files (g.F.Folder.files c.args.folder.now) (g.F.Folder.folder_faults c.args.folder.now))
