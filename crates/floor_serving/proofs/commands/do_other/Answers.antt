use Rattle.std.proofs.Common.{rules, ◌≡◌, ◌+◌, ◌≤◌, ◌^◌, List, ℕ, SFits, codes, length, of_z, refl, subst, sym, to_z, w64}
use Rattle.std.specs.List.{All}
use Rattle.std.proofs.lemmas.Int.{to_z-of_z}
use Rattle.v2_frame.specs.declared.command.Command.{Command}
use Rattle.v2_frame.specs.declared.command.Command.TheVariants as command
use Rattle.broker_history.specs.Calls.{IsWhole}
use Rattle.floor_serving.specs.Carrying.{basis}
use Rattle.floor_serving.specs.Commands.{CarriesCommand, IsAccepted, IsPublish}
use Rattle.floor_serving.proofs.Bodies.{mpub_is}
use Rattle.floor_serving.proofs.Commanding.{is_line}
use Rattle.floor_serving.proofs.Conditions.{mpub_ids, mpub_short}
use Rattle.floor_serving.proofs.commands.do_other.Goals as goal

pub publish_one-requires-clause-accepted : goal.publish_one-requires-clause-accepted
publish_one-requires-clause-accepted g c = subst (λ (x : Command). IsAccepted c.args.hall.now c.args.k x) c.in-Pub.is c.requires.accepted

pub returns-in-Pub : goal.returns-in-Pub
returns-in-Pub g c = subst (λ (x : Command). CarriesCommand g.F.Folder.tells_files c.args.k x (basis c.args.hall.now (g.F.Folder.files c.args.folder.now) (g.F.Folder.folder_faults c.args.folder.now)) (basis c.publish_one.new.hall (g.F.Folder.files c.publish_one.new.folder) (g.F.Folder.folder_faults c.publish_one.new.folder)) c.publish_one.result) (sym c.in-Pub.is) c.publish_one.ensures

pub publish_as-requires-clause-client : goal.publish_as-requires-clause-client
publish_as-requires-clause-client g c = c.requires.accepted.within

pub publish_as-requires-clause-ids : goal.publish_as-requires-clause-ids
publish_as-requires-clause-ids g c = subst (λ (xs : List (List ℕ)). c.args.hall.now.ids_used + length xs ≤ 2 ^ 40) (sym c.spend-bodies.ensures) (mpub_ids c.args.hall.now c.args.k c.in-Mpub.topic c.in-Mpub.bodies (subst (λ (x : Command). IsAccepted c.args.hall.now c.args.k x) c.in-Mpub.is c.requires.accepted))

pub publish_as-requires-clause-short : goal.publish_as-requires-clause-short
publish_as-requires-clause-short g c = subst (All (λ (b : List ℕ). length b ≤ 16777216)) (sym c.spend-bodies.ensures) (mpub_short c.in-Mpub.topic c.in-Mpub.bodies (subst IsWhole c.in-Mpub.is c.requires.accepted.whole))

pub returns-in-Mpub : goal.returns-in-Mpub
returns-in-Mpub g c = subst (λ (x : Command). CarriesCommand g.F.Folder.tells_files c.args.k x (basis c.args.hall.now (g.F.Folder.files c.args.folder.now) (g.F.Folder.folder_faults c.args.folder.now)) (basis c.publish_as.new.hall (g.F.Folder.files c.publish_as.new.folder) (g.F.Folder.folder_faults c.publish_as.new.folder)) c.publish_as.result) (sym c.in-Mpub.is)
    (c.publish_as.ensures (command.Mpub c.in-Mpub.topic c.in-Mpub.bodies) (subst (λ (xs : List (List ℕ)). IsPublish (command.Mpub c.in-Mpub.topic c.in-Mpub.bodies) c.in-Mpub.topic 0 xs (codes "E_MPUB_FAILED")) (sym c.spend-bodies.ensures) (mpub_is c.in-Mpub.topic c.in-Mpub.bodies (codes "E_MPUB_FAILED") refl)))

pub publish_delayed-requires-clause-accepted : goal.publish_delayed-requires-clause-accepted
publish_delayed-requires-clause-accepted g c =
    let small : SFits w64 c.in-Dpub.delay = search rules in
    let whole : to_z w64 (of_z w64 c.in-Dpub.delay) ≡ c.in-Dpub.delay = to_z-of_z w64 c.in-Dpub.delay small in
    subst (λ z. IsAccepted c.args.hall.now c.args.k (command.Dpub c.in-Dpub.topic z c.in-Dpub.body)) (sym whole) (subst (λ (x : Command). IsAccepted c.args.hall.now c.args.k x) c.in-Dpub.is c.requires.accepted)

pub returns-in-Dpub : goal.returns-in-Dpub
returns-in-Dpub g c =
    let small : SFits w64 c.in-Dpub.delay = search rules in
    let whole : to_z w64 (of_z w64 c.in-Dpub.delay) ≡ c.in-Dpub.delay = to_z-of_z w64 c.in-Dpub.delay small in
    subst (λ (x : Command). CarriesCommand g.F.Folder.tells_files c.args.k x (basis c.args.hall.now (g.F.Folder.files c.args.folder.now) (g.F.Folder.folder_faults c.args.folder.now)) (basis c.publish_delayed.new.hall (g.F.Folder.files c.publish_delayed.new.folder) (g.F.Folder.folder_faults c.publish_delayed.new.folder)) c.publish_delayed.result) (sym c.in-Dpub.is) (subst (λ z. CarriesCommand g.F.Folder.tells_files c.args.k (command.Dpub c.in-Dpub.topic z c.in-Dpub.body) (basis c.args.hall.now (g.F.Folder.files c.args.folder.now) (g.F.Folder.folder_faults c.args.folder.now)) (basis c.publish_delayed.new.hall (g.F.Folder.files c.publish_delayed.new.folder) (g.F.Folder.folder_faults c.publish_delayed.new.folder)) c.publish_delayed.result) whole c.publish_delayed.ensures)

pub do_line-ended-requires-clause-line : goal.do_line-ended-requires-clause-line
do_line-ended-requires-clause-line g c = is_line c.args.command c.requires.other c.in_default.not-Pub c.in_default.not-Mpub c.in_default.not-Dpub
