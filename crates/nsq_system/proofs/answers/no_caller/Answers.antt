use Rattle.std.proofs.Common.{rules, ◌≡◌, subst, SFits, w32, to_z, of_z}
use Rattle.std.proofs.lemmas.Int.{to_z-of_z}
use Rattle.nsq_system.specs.Answers.{no_caller_at, no_caller_of}
use Rattle.nsq_system.proofs.answers.no_caller.Goals as goal

pub returns-in-Some : goal.returns-in-Some
returns-in-Some c =
    let small : SFits w32 c.in-Some.code = search rules in
    let same : to_z w32 (of_z w32 c.in-Some.code) ≡ c.in-Some.code = to_z-of_z w32 c.in-Some.code small in
    subst (λ code. c.no_caller_by.result ≡ no_caller_of code) c.in-Some.ensures
    (subst (λ code. c.no_caller_by.result ≡ no_caller_at code) same c.no_caller_by.ensures)
