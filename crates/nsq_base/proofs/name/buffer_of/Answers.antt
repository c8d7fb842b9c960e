use Rattle.std.proofs.Common.{ℕ, List, length, drop, replicate, ◌++◌, ap, ◌∙◌}
use Rattle.std.proofs.lemmas.List.{drop-replicate}
use Rattle.nsq_base.proofs.name.buffer_of.Goals as goal

pub returns : goal.returns
returns c =
    let n = length c.args.bytes.now in
    ap (λ (s : List ℕ). s ++ drop n (replicate 64 0)) c.copy_from_slice.ensures.after ∙ ap (λ (s : List ℕ). c.args.bytes.now ++ s) (drop-replicate n 64 0)
