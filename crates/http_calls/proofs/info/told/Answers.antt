use Rattle.std.proofs.Common.{◌≡◌, ℕ, List, IfOk, subst}
use Rattle.http_calls.proofs.InfoLemmas.{told_parts}
use Rattle.http_calls.proofs.info.told.Goals as goal

pub returns : goal.returns
returns c =
    subst (λ (x : List ℕ). IfOk c.joined.result (λ text. text.items ≡ x)) (told_parts c.args.address.now c.args.http_port.now c.args.start_time.now c.args.tcp_port.now) c.joined.ensures
