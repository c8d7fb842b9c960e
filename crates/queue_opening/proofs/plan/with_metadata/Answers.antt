use Rattle.std.proofs.Common.{List, ℕ, sym, ap, subst}
use Rattle.queue_opening.specs.Walked.{HasNumbers}
use Rattle.queue_opening.proofs.Finds.{plans_with}
use Rattle.queue_opening.proofs.plan.with_metadata.Goals as goal

pub returns-in-Ok-clause-plan : goal.returns-in-Ok-clause-plan
returns-in-Ok-clause-plan g c = λ told has.
    let files = g.F.Folder.files c.args.folder.now in
    let done = c.arranged.ensures in
    plans_with c.args.options.now.least c.args.options.now.limit files c.args.files.now c.arranged.result c.args.positions c.in-Ok.found done.depth (ap (λ v. v.items) done.bad) done.above done.below
    done.settles (c.in-Ok.ensures.found told (subst (λ (ns : List ℕ). HasNumbers files c.args.files.now ns) (sym c.deref.ensures.value) has))
