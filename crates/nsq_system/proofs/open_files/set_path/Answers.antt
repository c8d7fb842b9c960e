use Rattle.std.proofs.Common.{◌++◌, List, ℕ, inl, inr, ap, ◌∙◌}
use Rattle.std.proofs.lemmas.Result.{err_from_is_err_and}
use Rattle.nsq_system.proofs.open_files.set_path.Goals as goal

pub returns-then-contains : goal.returns-then-contains
returns-then-contains c = record { path = tt; slash = λ _. tt; kind = inl c.into.ensures }

pub returns-in_err-push_str : goal.returns-in_err-push_str
returns-in_err-push_str c =
    let p = err_from_is_err_and c.from_residual.result c.from_residual.ensures.1 in
    rw p.1 (record { path = tt; slash = λ _. tt; kind = inr p.2 })

pub returns-in_err-push_str-2 : goal.returns-in_err-push_str-2
returns-in_err-push_str-2 c =
    let p = err_from_is_err_and c.from_residual-in_err-push_str-2.result c.from_residual-in_err-push_str-2.ensures.1 in
    rw p.1 (record { path = tt; slash = λ _. tt; kind = inr p.2 })

pub returns-clause-path : goal.returns-clause-path
returns-clause-path c =
    c.in_ok-push_str-2.ensures.bytes ∙ ap (λ (bytes : List ℕ). bytes ++ c.args.name.now) (c.in_ok-push_str.ensures.bytes ∙ ap (λ (bytes : List ℕ). bytes ++ c.args.folder.now) c.clear.ensures.bytes)

pub returns-clause-kind : goal.returns-clause-kind
returns-clause-kind c = tt
