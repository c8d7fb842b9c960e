use Rattle.std.proofs.Common.{inl, inr, codes}
use Rattle.queue_sweep.proofs.Stems.{stripped, not_stripped, answers}
use Rattle.queue_sweep.proofs.form.stem_of.Goals as goal

pub returns-in-Some : goal.returns-in-Some
returns-in-Some c = inr (stripped c.args.file.now (codes ".diskqueue.meta.dat") c.in-Some.stem.now c.in-Some.ensures.cases.0 c.in-Some.ensures.cases.1)

pub returns-in-None : goal.returns-in-None
returns-in-None c =
    answers c.data_stem.result _ _ _ _
    (λ none name h. elim h [ inl d ↦ none name d | inr e ↦ not_stripped c.args.file.now (codes ".diskqueue.meta.dat") name c.in-None.ensures.cases e ])
    (λ stem d. inl d)
    c.data_stem.ensures
