use Rattle.std.proofs.Common.{◌≡◌, true, false, refl, ◌==◌, ◌≤◌, ◌+◌, ℕ, List, ◌∷◌, ◌++◌, None, Some, length, take, sym, ◌∙◌, ap, subst, arith, length-take}
use Rattle.std.proofs.lemmas.List.{take_rest}
use Rattle.std.specs.List.{position}
use Rattle.std.specs.Str.Parse.{IsNumeral}
use Rattle.queue_image.proofs.Digits.{lead_place, lead_digits, around}
use Rattle.queue_image.proofs.decimals.leading_digits.Goals as goal

pub returns-in_err-len : goal.returns-in_err-len
returns-in_err-len c =
    rw c.from_residual.ensures
    (λ digits rest d. let found : position (λ b. b == c.args.separator) c.args.text.now ≡ Some (length digits) = lead_place c.args.text.now c.args.separator digits rest c.requires d in
    let none : position (λ b. b == c.args.separator) c.args.text.now ≡ None = sym c.find_byte.ensures ∙ c.in_err-len.was in cc)

pub returns-then-len-gt-LONGEST : goal.returns-then-len-gt-LONGEST
returns-then-len-gt-LONGEST c = λ digits rest d.
    let found = lead_place c.args.text.now c.args.separator digits rest c.requires d in
    let here : position (λ b. b == c.args.separator) c.args.text.now ≡ Some c.in_ok-len.len = sym c.find_byte.ensures ∙ c.in_ok-len.was in
    let same : c.in_ok-len.len ≡ length digits = cc in
    let short = d.bound in
    omega arith

pub returns-then-not-is_numeral : goal.returns-then-not-is_numeral
returns-then-not-is_numeral c = λ digits rest d.
    let here : position (λ b. b == c.args.separator) c.args.text.now ≡ Some c.in_ok-len.len = sym c.find_byte.ensures ∙ c.in_ok-len.was in
    let same : take c.in_ok-len.len c.args.text.now ≡ digits = lead_digits c.args.text.now c.args.separator c.in_ok-len.len digits rest c.requires d here in
    let bad : false ≡ true = c.if-not-is_numeral.ensures.1 (subst (λ (x : List ℕ). IsNumeral 10 x) (sym same) d.numeral) in cc

pub returns : goal.returns
returns c =
    let n = c.in_ok-len.len in
    let here : position (λ b. b == c.args.separator) c.args.text.now ≡ Some n = sym c.find_byte.ensures ∙ c.in_ok-len.was in
    let short : length (take n c.args.text.now) ≤ 40 = omega (arith, length-take n c.args.text.now) in
    record {
      whole = around c.args.text.now c.args.separator n here ∙ ap (λ (x : List ℕ). take n c.args.text.now ++ c.args.separator ∷ x) (sym (take_rest c.args.text.now (n + 1)));
      numeral = c.if-not-is_numeral.ensures.0 refl;
      bound = short;
    }
