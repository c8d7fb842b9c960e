use Rattle.std.proofs.Common.{◌≡◌, ◌+◌, ◌∙◌, true, false, codes, take, refl}
use Rattle.std.proofs.lemmas.List.{take_rest}
use Rattle.queue_sweep.proofs.Stems.{stripped, not_stripped, before_ending, has_dot, around_dot, data_from_parts, answers}
use Rattle.queue_sweep.proofs.form.data_stem.Goals as goal

pub returns-in_default-last_dot : goal.returns-in_default-last_dot
returns-in_default-last_dot c = λ name d.
    has_dot name c.in-Some.rest.now d.0 c.in_default-last_dot.ensures
    (before_ending name c.args.file.now c.in-Some.rest.now d.0 d.2 (stripped c.args.file.now (codes ".dat") c.in-Some.rest.now c.in-Some.ensures.cases.0 c.in-Some.ensures.cases.1))

pub returns-then-not-is_file_number : goal.returns-then-not-is_file_number
returns-then-not-is_file_number c = λ name d.
    let file = c.args.file.now in
    let rest = c.in-Some.rest.now in
    let whole = before_ending name file rest d.0 d.2 (stripped file (codes ".dat") rest c.in-Some.ensures.cases.0 c.in-Some.ensures.cases.1) in
    let parts = around_dot name rest d.0 c.in-Some-last_dot.dot d.1 c.in-Some-last_dot.ensures whole in
    let contra : false ≡ true = c.if-not-is_file_number.ensures.1 (d.0, d.1, take_rest rest (c.in-Some-last_dot.dot + 1) ∙ parts.1) in
    cc

pub returns : goal.returns
returns c =
    let file = c.args.file.now in
    let rest = c.in-Some.rest.now in
    let dot = c.in-Some-last_dot.dot in
    let ends = stripped file (codes ".dat") rest c.in-Some.ensures.cases.0 c.in-Some.ensures.cases.1 in
    answers c.strip_suffix-2.result _ _ _ _
    (λ lacks name d.
    let parts = around_dot name rest d.0 dot d.1 c.in-Some-last_dot.ensures (before_ending name file rest d.0 d.2 ends) in
    not_stripped (take dot rest) (codes ".diskqueue") name lacks parts.0)
    (λ stem found. data_from_parts file rest stem.now _ dot ends c.in-Some-last_dot.ensures.0 (take_rest rest (dot + 1)) (c.if-not-is_file_number.ensures.0 refl) (stripped (take dot rest) (codes ".diskqueue") stem.now found.0 found.1))
    c.strip_suffix-2.ensures.cases
