use Rattle.std.proofs.Common.{rules, ◌≡◌, sym, subst, refl, true, false, pos, SFits, w32, to_z, of_z}
use Rattle.std.specs.Ordering.{int_eq}
use Rattle.std.proofs.lemmas.Int.{to_z-of_z}
use Rattle.nsq_system.specs.Answers.{is_among, lost_codes, shortage_codes}
use Rattle.nsq_system.proofs.answers.no_caller_by.Goals as goal

pub returns-then-contains-2 : goal.returns-then-contains-2
returns-then-contains-2 c =
    let small : SFits w32 c.args.code = search rules in
    let same : to_z w32 (of_z w32 c.args.code) ≡ c.args.code = to_z-of_z w32 c.args.code small in
    let waits : int_eq c.args.code (pos 11) ≡ false = search rules in
    let lost : is_among lost_codes c.args.code ≡ false = subst (λ code. is_among lost_codes code ≡ false) same (sym c.if-contains.ensures.value) in
    let short : is_among shortage_codes c.args.code ≡ true = subst (λ code. is_among shortage_codes code ≡ true) same (sym c.if-contains-2.ensures.value) in
    rw (waits, lost, short) refl

pub returns : goal.returns
returns c =
    let small : SFits w32 c.args.code = search rules in
    let same : to_z w32 (of_z w32 c.args.code) ≡ c.args.code = to_z-of_z w32 c.args.code small in
    let waits : int_eq c.args.code (pos 11) ≡ false = search rules in
    let lost : is_among lost_codes c.args.code ≡ false = subst (λ code. is_among lost_codes code ≡ false) same (sym c.if-contains.ensures.value) in
    let short : is_among shortage_codes c.args.code ≡ false = subst (λ code. is_among shortage_codes code ≡ false) same (sym c.if-contains-2.ensures.value) in
    rw (waits, lost, short) refl
