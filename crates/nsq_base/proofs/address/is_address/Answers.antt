use Rattle.std.proofs.Common.{ℕ, ◌≡◌, ◌+◌, get_or, arith, ◌∙◌, ap}
use Rattle.std.proofs.lemmas.Bool.{false≢true}
use Rattle.std.proofs.lemmas.List.{take_rest}
use borrow.Author.Tests.{eqb-true}
use Rattle.nsq_base.proofs.Addresses.{begin_behind_colon, colon_before, due, port_behind_colon}
use Rattle.nsq_base.proofs.address.is_address.Goals as goal

pub returns-in_default : goal.returns-in_default
returns-in_default c =
    (λ h. absurd (false≢true h), λ a. absurd (c.in_default.ensures (omega (arith, begin_behind_colon _ _ a c.digits_start.ensures))))

pub returns-then-text-colon-eq58 : goal.returns-then-text-colon-eq58
returns-then-text-colon-eq58 c =
    let behind : c.digits_start.result ≡ c.in-Some.colon + 1 = omega (arith, c.in-Some.ensures.0, c.in-Some.ensures.1) in
    let parted = port_behind_colon _ _ c.in-Some.colon c.digits_start.ensures behind c.if-text-colon-eq58.true in
    let found = due _ c.read_port.result _ c.read_port.ensures in
    let port = rw (take_rest c.args.text.now (c.in-Some.colon + 1), ← c.is_some.ensures) at found in
    (λ h. parted.0 (port.0 h), λ a. port.1 (parted.1 a))

pub returns-else-text-colon-eq58 : goal.returns-else-text-colon-eq58
returns-else-text-colon-eq58 c =
    (λ h. absurd (c.if-text-colon-eq58.false (eqb-true _ _ h)), λ a. absurd (c.if-text-colon-eq58.false (ap (λ (k : ℕ). get_or c.args.text.now k 0) c.in-Some.ensures.1 ∙ colon_before _ _ a c.digits_start.ensures)))
