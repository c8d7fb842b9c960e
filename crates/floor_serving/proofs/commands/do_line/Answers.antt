use Rattle.std.proofs.Common.{rules, ◌≡◌, SFits, false, of_z, refl, subst, sym, to_z, true, w64}
use Rattle.std.proofs.lemmas.Int.{to_z-of_z}
use Rattle.v2_frame.specs.declared.command.Command.{Command}
use Rattle.v2_frame.specs.declared.command.Command.TheVariants as command
use Rattle.broker_history.specs.State.{Client, Closing, counted, is_subscribed}
use Rattle.broker_history.specs.Step.{spoke}
use Rattle.floor_calls.specs.Acts.{DoesAt}
use Rattle.floor_serving.specs.Carrying.{basis}
use Rattle.floor_serving.specs.Commands.{CarriesCommand, IsAccepted}
use Rattle.floor_serving.proofs.Commanding.{command_done, line_is}
use Rattle.floor_serving.proofs.Conditions.{at_accepted, cls_subscribed, fin_flies, touch_flies}
use Rattle.floor_serving.proofs.Staying.{same_changed, stays_clients, stays_kept}
use Rattle.floor_serving.proofs.commands.do_line.Goals as goal

pub join-requires-clause-accepted : goal.join-requires-clause-accepted
join-requires-clause-accepted g c = subst (λ (x : Command). IsAccepted c.args.hall.now c.args.k x) c.in-Sub.is c.requires.accepted

pub returns-in-Sub : goal.returns-in-Sub
returns-in-Sub g c = subst (λ (x : Command). CarriesCommand g.F.Folder.tells_files c.args.k x (basis c.args.hall.now (g.F.Folder.files c.args.folder.now) (g.F.Folder.folder_faults c.args.folder.now)) (basis c.join.new.hall (g.F.Folder.files c.args.folder.now) (g.F.Folder.folder_faults c.args.folder.now)) c.join.result) (sym c.in-Sub.is) (c.join.ensures g.F.Folder.tells_files (g.F.Folder.files c.args.folder.now) (g.F.Folder.folder_faults c.args.folder.now))

pub ready-requires-clause-accepted : goal.ready-requires-clause-accepted
ready-requires-clause-accepted g c =
    let small : SFits w64 c.in-Rdy.count = search rules in
    let whole : to_z w64 (of_z w64 c.in-Rdy.count) ≡ c.in-Rdy.count = to_z-of_z w64 c.in-Rdy.count small in
    subst (λ z. IsAccepted c.args.hall.now c.args.k (command.Rdy z)) (sym whole) (subst (λ (x : Command). IsAccepted c.args.hall.now c.args.k x) c.in-Rdy.is c.requires.accepted)

pub returns-in-Rdy : goal.returns-in-Rdy
returns-in-Rdy g c =
    let small : SFits w64 c.in-Rdy.count = search rules in
    let whole : to_z w64 (of_z w64 c.in-Rdy.count) ≡ c.in-Rdy.count = to_z-of_z w64 c.in-Rdy.count small in
    subst (λ (x : Command). CarriesCommand g.F.Folder.tells_files c.args.k x (basis c.args.hall.now (g.F.Folder.files c.args.folder.now) (g.F.Folder.folder_faults c.args.folder.now)) (basis c.ready.new.hall (g.F.Folder.files c.args.folder.now) (g.F.Folder.folder_faults c.args.folder.now)) c.ready.result) (sym c.in-Rdy.is) (subst (λ z. CarriesCommand g.F.Folder.tells_files c.args.k (command.Rdy z) (basis c.args.hall.now (g.F.Folder.files c.args.folder.now) (g.F.Folder.folder_faults c.args.folder.now)) (basis c.ready.new.hall (g.F.Folder.files c.args.folder.now) (g.F.Folder.folder_faults c.args.folder.now)) c.ready.result) whole (c.ready.ensures g.F.Folder.tells_files (g.F.Folder.files c.args.folder.now) (g.F.Folder.folder_faults c.args.folder.now)))

pub finish-requires-clause-client : goal.finish-requires-clause-client
finish-requires-clause-client g c = c.requires.accepted.within

pub finish-requires-clause-flies : goal.finish-requires-clause-flies
finish-requires-clause-flies g c = fin_flies c.args.hall.now c.args.k c.in-Fin.id (subst (λ (x : Command). IsAccepted c.args.hall.now c.args.k x) c.in-Fin.is c.requires.accepted)

pub returns-in-Fin : goal.returns-in-Fin
returns-in-Fin g c =
    command_done g.F.Folder.tells_files c.args.k c.args.command.now c.args.hall.now c.finish.new.hall (g.F.Folder.files c.args.folder.now) (g.F.Folder.folder_faults c.args.folder.now) (stays_kept c.args.hall.now c.finish.new.hall _ c.finish.ensures.rest refl refl refl refl refl refl c.finish.ensures.keeps) c.finish.ensures.sound
    (same_changed c.args.hall.now c.finish.new.hall c.args.k (λ d. record (spoke c.args.hall.now.moment d) { finish_count = counted d.finish_count }) c.requires.sound c.requires.accepted.within (λ d. refl) c.finish.ensures.clients _ c.finish.ensures.rest refl)
    (subst (λ (x : Command). DoesAt c.args.k x false c.args.hall.now (g.F.Folder.files c.args.folder.now) c.finish.new.hall (g.F.Folder.files c.args.folder.now)) (sym c.in-Fin.is) (c.finish.ensures.told (g.F.Folder.files c.args.folder.now)))

pub requeue_own-requires-clause-accepted : goal.requeue_own-requires-clause-accepted
requeue_own-requires-clause-accepted g c =
    let small : SFits w64 c.in-Req.delay = search rules in
    let whole : to_z w64 (of_z w64 c.in-Req.delay) ≡ c.in-Req.delay = to_z-of_z w64 c.in-Req.delay small in
    subst (λ z. IsAccepted c.args.hall.now c.args.k (command.Req c.in-Req.id z)) (sym whole) (subst (λ (x : Command). IsAccepted c.args.hall.now c.args.k x) c.in-Req.is c.requires.accepted)

pub returns-in-Req : goal.returns-in-Req
returns-in-Req g c =
    let small : SFits w64 c.in-Req.delay = search rules in
    let whole : to_z w64 (of_z w64 c.in-Req.delay) ≡ c.in-Req.delay = to_z-of_z w64 c.in-Req.delay small in
    subst (λ (x : Command). CarriesCommand g.F.Folder.tells_files c.args.k x (basis c.args.hall.now (g.F.Folder.files c.args.folder.now) (g.F.Folder.folder_faults c.args.folder.now)) (basis c.requeue_own.new.hall (g.F.Folder.files c.requeue_own.new.folder) (g.F.Folder.folder_faults c.requeue_own.new.folder)) c.requeue_own.result) (sym c.in-Req.is) (subst (λ z. CarriesCommand g.F.Folder.tells_files c.args.k (command.Req c.in-Req.id z) (basis c.args.hall.now (g.F.Folder.files c.args.folder.now) (g.F.Folder.folder_faults c.args.folder.now)) (basis c.requeue_own.new.hall (g.F.Folder.files c.requeue_own.new.folder) (g.F.Folder.folder_faults c.requeue_own.new.folder)) c.requeue_own.result) whole c.requeue_own.ensures)

pub touch-requires-clause-client : goal.touch-requires-clause-client
touch-requires-clause-client g c = c.requires.accepted.within

pub touch-requires-clause-flies : goal.touch-requires-clause-flies
touch-requires-clause-flies g c = touch_flies c.args.hall.now c.args.k c.in-Touch.id (subst (λ (x : Command). IsAccepted c.args.hall.now c.args.k x) c.in-Touch.is c.requires.accepted)

pub returns-in-Touch : goal.returns-in-Touch
returns-in-Touch g c =
    command_done g.F.Folder.tells_files c.args.k c.args.command.now c.args.hall.now c.touch.new.hall (g.F.Folder.files c.args.folder.now) (g.F.Folder.folder_faults c.args.folder.now) (stays_kept c.args.hall.now c.touch.new.hall _ c.touch.ensures.rest refl refl refl refl refl refl c.touch.ensures.keeps) c.touch.ensures.sound
    (same_changed c.args.hall.now c.touch.new.hall c.args.k (spoke c.args.hall.now.moment) c.requires.sound c.requires.accepted.within (λ d. refl) c.touch.ensures.clients _ c.touch.ensures.rest refl)
    (subst (λ (x : Command). DoesAt c.args.k x false c.args.hall.now (g.F.Folder.files c.args.folder.now) c.touch.new.hall (g.F.Folder.files c.args.folder.now)) (sym c.in-Touch.is) (c.touch.ensures.told (g.F.Folder.files c.args.folder.now)))

pub close-requires-clause-client : goal.close-requires-clause-client
close-requires-clause-client g c = c.requires.accepted.within

pub close-requires-clause-subscribed : goal.close-requires-clause-subscribed
close-requires-clause-subscribed g c =
    let accepted : IsAccepted c.args.hall.now c.args.k command.Cls = subst (λ (x : Command). IsAccepted c.args.hall.now c.args.k x) c.in-Cls.is c.requires.accepted in
    at_accepted (λ (d : Client). is_subscribed d.phase ≡ true) c.args.hall.now c.args.k command.Cls accepted (cls_subscribed c.args.hall.now c.args.k accepted)

pub returns-in-Cls : goal.returns-in-Cls
returns-in-Cls g c =
    command_done g.F.Folder.tells_files c.args.k c.args.command.now c.args.hall.now c.close.new.hall (g.F.Folder.files c.args.folder.now) (g.F.Folder.folder_faults c.args.folder.now) (stays_clients c.args.hall.now c.close.new.hall c.close.ensures.rest) c.close.ensures.sound
    (same_changed c.args.hall.now c.close.new.hall c.args.k (λ d. record (spoke c.args.hall.now.moment d) { phase = Closing }) c.requires.sound c.requires.accepted.within (λ d. refl) c.close.ensures.clients _ c.close.ensures.rest refl)
    (subst (λ (x : Command). DoesAt c.args.k x false c.args.hall.now (g.F.Folder.files c.args.folder.now) c.close.new.hall (g.F.Folder.files c.args.folder.now)) (sym c.in-Cls.is) (c.close.ensures.told (g.F.Folder.files c.args.folder.now)))

pub nothing-requires-clause-accepted : goal.nothing-requires-clause-accepted
nothing-requires-clause-accepted g c = subst (λ (x : Command). IsAccepted c.args.hall.now c.args.k x) c.in-Nop.is c.requires.accepted

pub returns-in-Nop : goal.returns-in-Nop
returns-in-Nop g c = subst (λ (x : Command). CarriesCommand g.F.Folder.tells_files c.args.k x (basis c.args.hall.now (g.F.Folder.files c.args.folder.now) (g.F.Folder.folder_faults c.args.folder.now)) (basis c.nothing.new.hall (g.F.Folder.files c.args.folder.now) (g.F.Folder.folder_faults c.args.folder.now)) c.nothing.result) (sym c.in-Nop.is) (c.nothing.ensures g.F.Folder.tells_files (g.F.Folder.files c.args.folder.now) (g.F.Folder.folder_faults c.args.folder.now))

pub unreachable-requires : goal.unreachable-requires
unreachable-requires g c = line_is c.args.command.now c.requires.line c.in_default.not-Sub c.in_default.not-Rdy c.in_default.not-Fin c.in_default.not-Req c.in_default.not-Touch c.in_default.not-Cls c.in_default.not-Nop
