use Rattle.std.proofs.Common.{◌≡◌, ℕ, List, [], ◌∷◌, true, false, refl, sym, ◌∙◌}
use Rattle.std.specs.Prelude.{Bool, nat_eq}
use Rattle.std.specs.List.{ends_with}
use Rattle.http_wire.specs.Head.{EndsBlank}
use Rattle.http_wire.proofs.HeadLemmas.{blank_two, blank_three, blank_none}
use Rattle.http_wire.proofs.search.ends_blank.Goals as goal

told : (xs : List ℕ) (r : Bool) → ends_with nat_eq xs (10 ∷ 10 ∷ []) ≡ false → r ≡ ends_with nat_eq xs (10 ∷ 13 ∷ 10 ∷ []) → EndsBlank xs → r ≡ true
told xs true two three blank = refl
told xs false two three blank = absurd (blank_none xs two (sym three) blank)

pub returns-then-ends_with : goal.returns-then-ends_with
returns-then-ends_with c = (λ yes. blank_two c.args.bytes.now (sym c.ends_with.ensures.value ∙ c.if-ends_with.true), λ blank. c.if-ends_with.true)

pub returns-else-ends_with : goal.returns-else-ends_with
returns-else-ends_with c =
    let two = sym c.ends_with.ensures.value ∙ c.if-ends_with.false in
    (λ yes. blank_three c.args.bytes.now (sym c.ends_with-else-ends_with.ensures.value ∙ yes), λ blank. told c.args.bytes.now c.ends_with-else-ends_with.result two c.ends_with-else-ends_with.ensures.value blank)
