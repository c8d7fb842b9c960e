use Rattle.std.proofs.Common.{◌∙◌, List, ℕ, subst, true, arith}
use Rattle.nsq_outside.specs.Causes.{CountsFault, DidCounts}
use Rattle.nsq_outside.specs.Files.{OnlyChanges, Cuts}
use Rattle.nsq_outside.specs.declared.did.Did.TheVariants.{Done}
use Rattle.queue_image.specs.FileNames.{data_file}
use Rattle.queue_opening.specs.Tidied.{IsAside, StaysOrGoes, OnlyAsideChanges, RemovedWhere, OnlyRemovedChange}
use Rattle.queue_opening.proofs.Tidies.{tidied_removed, tidied_above, tidied_bad, tidied_cut, tidy_where, partly_removed, partly_above, partly_before, partly_cut, aside_either, as_named, did_later}
use Rattle.queue_opening.proofs.tidying.tidy.Goals as goal

pub returns-in-Failed-clause-others : goal.returns-in-Failed-clause-others
returns-in-Failed-clause-others g c = λ told.
    let name = c.args.files.now in
    let plan = c.args.plan.now in
    let f0 = g.F.Folder.files c.args.folder.now in
    let f1 = g.F.Folder.files c.remove.new.folder in
    tidied_removed name plan c.requires.plan f0 f1 (subst (λ (ns : List ℕ). OnlyRemovedChange name ns plan.below f0 f1) c.deref.ensures.value (c.in-Failed.ensures.others told))

pub returns-in-Failed-set_aside-clause-others : goal.returns-in-Failed-set_aside-clause-others
returns-in-Failed-set_aside-clause-others g c = λ told.
    let name = c.args.files.now in
    let plan = c.args.plan.now in
    let f0 = g.F.Folder.files c.args.folder.now in
    let f1 = g.F.Folder.files c.remove.new.folder in
    let f2 = g.F.Folder.files c.set_aside.new.folder in
    tidied_above name plan c.requires.plan f0 f1 f2 (subst (λ (ns : List ℕ). OnlyRemovedChange name ns plan.below f0 f1) c.deref.ensures.value (c.in-Done.ensures.others told))
    (as_named (λ n ns. OnlyAsideChanges n ns plan.above f1 f2) c.args.names.now name c.deref-2.result.now plan.numbers.items c.requires.name c.deref-2.ensures.value (c.in-Failed-set_aside.ensures.others told))

pub returns-in-Failed-set_aside-2-clause-others : goal.returns-in-Failed-set_aside-2-clause-others
returns-in-Failed-set_aside-2-clause-others g c = λ told.
    let name = c.args.files.now in
    let plan = c.args.plan.now in
    let f0 = g.F.Folder.files c.args.folder.now in
    let f1 = g.F.Folder.files c.remove.new.folder in
    let f2 = g.F.Folder.files c.set_aside.new.folder in
    let f3 = g.F.Folder.files c.set_aside-2.new.folder in
    tidied_bad name plan c.requires.plan f0 f1 f2 f3 (subst (λ (ns : List ℕ). OnlyRemovedChange name ns plan.below f0 f1) c.deref.ensures.value (c.in-Done.ensures.others told))
    (as_named (λ n ns. OnlyAsideChanges n ns plan.above f1 f2) c.args.names.now name c.deref-2.result.now plan.numbers.items c.requires.name c.deref-2.ensures.value (c.in-Done-set_aside.ensures.others told))
    (as_named (λ n ns. OnlyAsideChanges n ns 0 f2 f3) c.set_aside.new.names name c.deref-3.result.now plan.bad.items (c.in-Done-set_aside.ensures.name ∙ c.requires.name) c.deref-3.ensures.value
    (c.in-Failed-set_aside-2.ensures.others told))

pub returns-clause-others : goal.returns-clause-others
returns-clause-others g c = λ told.
    let name = c.args.files.now in
    let plan = c.args.plan.now in
    let f0 = g.F.Folder.files c.args.folder.now in
    let f1 = g.F.Folder.files c.remove.new.folder in
    let f2 = g.F.Folder.files c.set_aside.new.folder in
    let f3 = g.F.Folder.files c.set_aside-2.new.folder in
    let f4 = g.F.Folder.files c.cut.new.folder in
    tidied_cut name plan c.requires.plan f0 f3 f4
    (tidied_bad name plan c.requires.plan f0 f1 f2 f3 (subst (λ (ns : List ℕ). OnlyRemovedChange name ns plan.below f0 f1) c.deref.ensures.value (c.in-Done.ensures.others told))
    (as_named (λ n ns. OnlyAsideChanges n ns plan.above f1 f2) c.args.names.now name c.deref-2.result.now plan.numbers.items c.requires.name c.deref-2.ensures.value (c.in-Done-set_aside.ensures.others told))
    (as_named (λ n ns. OnlyAsideChanges n ns 0 f2 f3) c.set_aside.new.names name c.deref-3.result.now plan.bad.items (c.in-Done-set_aside.ensures.name ∙ c.requires.name) c.deref-3.ensures.value
    (c.in-Done-set_aside-2.ensures.others told)))
    (subst (λ (n : List ℕ). OnlyChanges f3 f4 (data_file n plan.positions.write_file)) c.in-Done.ensures.name (c.cut.ensures.others told))

pub returns-clause-tidy : goal.returns-clause-tidy
returns-clause-tidy g c = λ told.
    let name = c.args.files.now in
    let plan = c.args.plan.now in
    let write = plan.positions.write_file in
    let f0 = g.F.Folder.files c.args.folder.now in
    let f1 = g.F.Folder.files c.remove.new.folder in
    let f2 = g.F.Folder.files c.set_aside.new.folder in
    let f3 = g.F.Folder.files c.set_aside-2.new.folder in
    let f4 = g.F.Folder.files c.cut.new.folder in
    let again = c.in-Done-set_aside.ensures.name ∙ c.requires.name in
    tidy_where name plan c.requires.plan f0 f1 f2 f3 f4 c.cut.result
    (subst (λ (ns : List ℕ). RemovedWhere name ns plan.below f1 Done) c.deref.ensures.value (c.in-Done.ensures.removed told))
    (subst (λ (ns : List ℕ). OnlyRemovedChange name ns plan.below f0 f1) c.deref.ensures.value (c.in-Done.ensures.others told))
    (as_named (λ n ns. IsAside n ns plan.above f1 f2) c.args.names.now name c.deref-2.result.now plan.numbers.items c.requires.name c.deref-2.ensures.value (c.in-Done-set_aside.ensures.aside told))
    (as_named (λ n ns. OnlyAsideChanges n ns plan.above f1 f2) c.args.names.now name c.deref-2.result.now plan.numbers.items c.requires.name c.deref-2.ensures.value (c.in-Done-set_aside.ensures.others told))
    (as_named (λ n ns. IsAside n ns 0 f2 f3) c.set_aside.new.names name c.deref-3.result.now plan.bad.items again c.deref-3.ensures.value (c.in-Done-set_aside-2.ensures.aside told))
    (as_named (λ n ns. OnlyAsideChanges n ns 0 f2 f3) c.set_aside.new.names name c.deref-3.result.now plan.bad.items again c.deref-3.ensures.value (c.in-Done-set_aside-2.ensures.others told))
    (subst (λ (n : List ℕ). OnlyChanges f3 f4 (data_file n write)) c.in-Done.ensures.name (c.cut.ensures.others told))
    (subst (λ (n : List ℕ). Cuts (f3 (data_file n write)) (f4 (data_file n write)) plan.positions.write_at c.cut.result) c.in-Done.ensures.name (c.cut.ensures.bytes told))

pub returns-in-Failed-clause-partly : goal.returns-in-Failed-clause-partly
returns-in-Failed-clause-partly g c = λ told.
    let name = c.args.files.now in
    let plan = c.args.plan.now in
    let f0 = g.F.Folder.files c.args.folder.now in
    let f1 = g.F.Folder.files c.remove.new.folder in
    partly_removed name plan c.requires.plan f0 f1 (subst (λ (ns : List ℕ). OnlyRemovedChange name ns plan.below f0 f1) c.deref.ensures.value (c.in-Failed.ensures.others told))

pub returns-in-Failed-set_aside-clause-partly : goal.returns-in-Failed-set_aside-clause-partly
returns-in-Failed-set_aside-clause-partly g c = λ told.
    let name = c.args.files.now in
    let plan = c.args.plan.now in
    let f0 = g.F.Folder.files c.args.folder.now in
    let f1 = g.F.Folder.files c.remove.new.folder in
    let f2 = g.F.Folder.files c.set_aside.new.folder in
    partly_above name plan c.requires.plan f0 f1 f2 (subst (λ (ns : List ℕ). OnlyRemovedChange name ns plan.below f0 f1) c.deref.ensures.value (c.in-Done.ensures.others told))
    (as_named (λ n ns. OnlyAsideChanges n ns plan.above f1 f2) c.args.names.now name c.deref-2.result.now plan.numbers.items c.requires.name c.deref-2.ensures.value (c.in-Failed-set_aside.ensures.others told))
    (as_named (λ n ns. StaysOrGoes n f1 f2) c.args.names.now name c.deref-2.result.now plan.numbers.items c.requires.name c.deref-2.ensures.value (c.in-Failed-set_aside.ensures.aside told))

pub returns-in-Failed-set_aside-2-clause-partly : goal.returns-in-Failed-set_aside-2-clause-partly
returns-in-Failed-set_aside-2-clause-partly g c = λ told.
    let name = c.args.files.now in
    let plan = c.args.plan.now in
    let f0 = g.F.Folder.files c.args.folder.now in
    let f1 = g.F.Folder.files c.remove.new.folder in
    let f2 = g.F.Folder.files c.set_aside.new.folder in
    let f3 = g.F.Folder.files c.set_aside-2.new.folder in
    partly_before name plan c.requires.plan f0 f1 f2 f3 (subst (λ (ns : List ℕ). OnlyRemovedChange name ns plan.below f0 f1) c.deref.ensures.value (c.in-Done.ensures.others told))
    (as_named (λ n ns. OnlyAsideChanges n ns plan.above f1 f2) c.args.names.now name c.deref-2.result.now plan.numbers.items c.requires.name c.deref-2.ensures.value (c.in-Done-set_aside.ensures.others told))
    (aside_either name plan c.requires.plan plan.numbers.items plan.above f1 f2 (as_named (λ n ns. IsAside n ns plan.above f1 f2) c.args.names.now name c.deref-2.result.now plan.numbers.items c.requires.name c.deref-2.ensures.value (c.in-Done-set_aside.ensures.aside told)))
    (as_named (λ n ns. OnlyAsideChanges n ns 0 f2 f3) c.set_aside.new.names name c.deref-3.result.now plan.bad.items (c.in-Done-set_aside.ensures.name ∙ c.requires.name) c.deref-3.ensures.value (c.in-Failed-set_aside-2.ensures.others told))
    (as_named (λ n ns. StaysOrGoes n f2 f3) c.set_aside.new.names name c.deref-3.result.now plan.bad.items (c.in-Done-set_aside.ensures.name ∙ c.requires.name) c.deref-3.ensures.value (c.in-Failed-set_aside-2.ensures.aside told))

pub returns-clause-partly : goal.returns-clause-partly
returns-clause-partly g c = λ told.
    let name = c.args.files.now in
    let plan = c.args.plan.now in
    let f0 = g.F.Folder.files c.args.folder.now in
    let f1 = g.F.Folder.files c.remove.new.folder in
    let f2 = g.F.Folder.files c.set_aside.new.folder in
    let f3 = g.F.Folder.files c.set_aside-2.new.folder in
    let f4 = g.F.Folder.files c.cut.new.folder in
    partly_cut name plan c.requires.plan f0 f1 f2 f3 f4 (subst (λ (ns : List ℕ). RemovedWhere name ns plan.below f1 Done) c.deref.ensures.value (c.in-Done.ensures.removed told))
    (subst (λ (ns : List ℕ). OnlyRemovedChange name ns plan.below f0 f1) c.deref.ensures.value (c.in-Done.ensures.others told))
    (as_named (λ n ns. IsAside n ns plan.above f1 f2) c.args.names.now name c.deref-2.result.now plan.numbers.items c.requires.name c.deref-2.ensures.value (c.in-Done-set_aside.ensures.aside told))
    (as_named (λ n ns. OnlyAsideChanges n ns plan.above f1 f2) c.args.names.now name c.deref-2.result.now plan.numbers.items c.requires.name c.deref-2.ensures.value (c.in-Done-set_aside.ensures.others told))
    (as_named (λ n ns. IsAside n ns 0 f2 f3) c.set_aside.new.names name c.deref-3.result.now plan.bad.items (c.in-Done-set_aside.ensures.name ∙ c.requires.name) c.deref-3.ensures.value (c.in-Done-set_aside-2.ensures.aside told))
    (as_named (λ n ns. OnlyAsideChanges n ns 0 f2 f3) c.set_aside.new.names name c.deref-3.result.now plan.bad.items (c.in-Done-set_aside.ensures.name ∙ c.requires.name) c.deref-3.ensures.value (c.in-Done-set_aside-2.ensures.others told))
    (subst (λ (n : List ℕ). OnlyChanges f3 f4 (data_file n plan.positions.write_file)) c.in-Done.ensures.name (c.cut.ensures.others told)) c.cut.result
    (subst (λ (n : List ℕ). Cuts (f3 (data_file n plan.positions.write_file)) (f4 (data_file n plan.positions.write_file)) plan.positions.write_at c.cut.result) c.in-Done.ensures.name (c.cut.ensures.bytes told))

pub returns-clause-name : goal.returns-clause-name
returns-clause-name g c = c.cut.ensures.name ∙ c.in-Done.ensures.name

pub returns-clause-faults : goal.returns-clause-faults
returns-clause-faults g c = omega (arith, c.in-Done.ensures.faults, c.in-Done-set_aside.ensures.faults, c.in-Done-set_aside-2.ensures.faults, c.cut.ensures.faults)

pub returns-clause-cause : goal.returns-clause-cause
returns-clause-cause g c =
    did_later (g.F.Folder.folder_faults c.args.folder.now) (g.F.Folder.folder_faults c.set_aside-2.new.folder) (g.F.Folder.folder_faults c.cut.new.folder) c.cut.result
    (omega (arith, c.in-Done.ensures.faults, c.in-Done-set_aside.ensures.faults, c.in-Done-set_aside-2.ensures.faults)) c.cut.ensures.cause

pub returns-clause-exact : goal.returns-clause-exact
returns-clause-exact g c = λ counts.
    subst (λ n. DidCounts n (g.F.Folder.folder_faults c.cut.new.folder) c.cut.result) (c.in-Done-set_aside-2.ensures.exact counts ∙ c.in-Done-set_aside.ensures.exact counts ∙ c.in-Done.ensures.exact counts) (c.cut.ensures.exact counts)

pub returns-in-Failed-set_aside-clause-faults : goal.returns-in-Failed-set_aside-clause-faults
returns-in-Failed-set_aside-clause-faults g c = omega (arith, c.in-Done.ensures.faults, c.in-Failed-set_aside.ensures.faults)

pub returns-in-Failed-set_aside-clause-cause : goal.returns-in-Failed-set_aside-clause-cause
returns-in-Failed-set_aside-clause-cause g c = omega (arith, c.in-Done.ensures.faults, c.in-Failed-set_aside.ensures.cause)

pub returns-in-Failed-set_aside-clause-exact : goal.returns-in-Failed-set_aside-clause-exact
returns-in-Failed-set_aside-clause-exact g c = λ counts.
    subst (λ n. CountsFault n (g.F.Folder.folder_faults c.set_aside.new.folder) true) (c.in-Done.ensures.exact counts) (c.in-Failed-set_aside.ensures.exact counts)

pub returns-in-Failed-set_aside-2-clause-faults : goal.returns-in-Failed-set_aside-2-clause-faults
returns-in-Failed-set_aside-2-clause-faults g c = omega (arith, c.in-Done.ensures.faults, c.in-Done-set_aside.ensures.faults, c.in-Failed-set_aside-2.ensures.faults)

pub returns-in-Failed-set_aside-2-clause-cause : goal.returns-in-Failed-set_aside-2-clause-cause
returns-in-Failed-set_aside-2-clause-cause g c = omega (arith, c.in-Done.ensures.faults, c.in-Done-set_aside.ensures.faults, c.in-Failed-set_aside-2.ensures.cause)

pub returns-in-Failed-set_aside-2-clause-exact : goal.returns-in-Failed-set_aside-2-clause-exact
returns-in-Failed-set_aside-2-clause-exact g c = λ counts.
    subst (λ n. CountsFault n (g.F.Folder.folder_faults c.set_aside-2.new.folder) true) (c.in-Done-set_aside.ensures.exact counts ∙ c.in-Done.ensures.exact counts) (c.in-Failed-set_aside-2.ensures.exact counts)
