use Rattle.std.proofs.Common.{◌≡◌, ◌+◌, ◌==◌, ℕ, List, Some, sym, subst}
use Rattle.std.proofs.lemmas.List.{take_rest}
use Rattle.std.specs.List.{position}
use Rattle.nsq_base.specs.Name.{IsName}
use Rattle.queue_sweep.proofs.Colons.{around_colon, name_of_parts}
use Rattle.queue_sweep.proofs.queue_name.read_name.Goals as goal

pub returns-in_default-read : goal.returns-in_default-read
returns-in_default-read c = λ q.
    let n = c.in-Some.colon in
    let at : position (λ b. b == 58) c.args.name.now ≡ Some n = sym c.in-Some.ensures in
    c.in_default-read.ensures (around_colon c.args.name.now n at q).0

pub returns-in_default-read-2 : goal.returns-in_default-read-2
returns-in_default-read-2 c = λ q.
    let n = c.in-Some.colon in
    let at : position (λ b. b == 58) c.args.name.now ≡ Some n = sym c.in-Some.ensures in
    c.in_default-read-2.ensures (subst (λ (x : List ℕ). IsName x) (sym (take_rest c.args.name.now (n + 1))) (around_colon c.args.name.now n at q).1)

pub returns : goal.returns
returns c =
    let n = c.in-Some.colon in
    name_of_parts c.args.name.now c.in-Some-read.topic c.in-Some-read-2.channel _ n (sym c.in-Some.ensures) c.in-Some-read.ensures.0 c.in-Some-read.ensures.1 c.in-Some-read-2.ensures.0
    (take_rest c.args.name.now (n + 1)) c.in-Some-read-2.ensures.1
