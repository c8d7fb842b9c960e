use Rattle.std.proofs.Common.{rules, ◌∙◌, refl, sym, subst}
use Rattle.channel_copies.specs.Putting.{around}
use Rattle.channel_core.specs.Answers.{TellsDue}
use Rattle.channel_core.specs.Costs.{MoveCosts}
use Rattle.channel_core.specs.Seen.{channel_with, queued_in}
use Rattle.channel_core.proofs.Dues.{costs_came_due, costs_timed_out, flies_there, waits_there}
use Rattle.channel_copies.proofs.Wrote.{keeps_none}
use Rattle.channel_core.proofs.channel.Channel.move_due.Goals as goal

pub returns-in_default-clause-told : goal.returns-in_default-clause-told
returns-in_default-clause-told g c = sym c.due.ensures.is ∙ c.in_default.is

pub returns-in_default-clause-row : goal.returns-in_default-clause-row
returns-in_default-clause-row g c = λ told disk on.
    (subst (TellsDue c.args.now (channel_with c.args.self.now (queued_in c.args.self.now disk))) c.in_default.is (c.due.ensures.tells (queued_in c.args.self.now disk)), refl, on)

pub returns-in_default-clause-disk : goal.returns-in_default-clause-disk
returns-in_default-clause-disk g c = keeps_none g.F.Folder.tells_files (around c.args.self.now.backlog (g.F.Folder.files c.args.folder.now) (g.F.Folder.folder_faults c.args.folder.now))

pub time_out-requires-clause-there : goal.time_out-requires-clause-there
time_out-requires-clause-there g c = flies_there c.args.now c.args.self.now (search rules)

pub returns-then-flies-clause-row : goal.returns-then-flies-clause-row
returns-then-flies-clause-row g c = λ told disk on. c.time_out.ensures.row told c.args.now (search rules) disk on

pub come_due-requires-clause-there : goal.come_due-requires-clause-there
come_due-requires-clause-there g c = waits_there c.in-Some.id c.args.now c.args.self.now (search rules)

pub returns-clause-row : goal.returns-clause-row
returns-clause-row g c = λ told disk on. c.come_due.ensures.row told c.args.now (search rules) disk on

pub returns-in_default-clause-steps : goal.returns-in_default-clause-steps
returns-in_default-clause-steps g c = subst (MoveCosts c.args.self.now c.args.steps.now c.args.steps.now) (sym c.in_default.is ∙ c.due.ensures.is) refl

pub returns-then-flies-clause-steps : goal.returns-then-flies-clause-steps
returns-then-flies-clause-steps g c = costs_timed_out c.args.self.now c.args.steps.now c.time_out.new.steps c.in-Some.id (search rules) c.time_out.ensures.steps

pub returns-clause-steps : goal.returns-clause-steps
returns-clause-steps g c = costs_came_due c.args.self.now c.args.steps.now c.come_due.new.steps c.in-Some.id (search rules) c.come_due.ensures.steps
