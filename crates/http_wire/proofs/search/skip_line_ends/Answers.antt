use Rattle.std.proofs.Common.{◌≡◌, ℕ, true, get_or, arith, rules}
use Rattle.std.proofs.lemmas.List.Elements.{All-more}
use Rattle.http_wire.specs.Head.{is_line_end}
use Rattle.http_wire.proofs.search.skip_line_ends.Goals as goal

pub loop-begin-preserved : goal.loop-begin-preserved
loop-begin-preserved c =
    let ends : is_line_end (get_or c.args.bytes.now c.loop-begin.begin 0) ≡ true = search rules in
    record { within = omega arith; line_ends = All-more (λ (b : ℕ). is_line_end b ≡ true) c.args.bytes.now c.loop-begin.begin 0 (omega arith) c.loop-begin.invariant.line_ends ends }
