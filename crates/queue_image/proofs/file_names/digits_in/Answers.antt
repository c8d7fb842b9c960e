use Rattle.std.proofs.Common.{◌≡◌, ℕ, List, ◌++◌, true, false, codes, length, take, drop, ap, sym, ◌∙◌, subst, arith, Some}
use Rattle.std.specs.Str.{bytes_eq}
use Rattle.std.specs.Str.Parse.{IsNumeral, digits_value}
use Rattle.queue_image.specs.FileNames.{file_digits}
use Rattle.queue_image.proofs.Naming.{begins-true, data_file-parts, digits_left, numeral-file_digits, digits_value-file_digits, some_where}
use Rattle.queue_image.proofs.file_names.digits_in.Goals as goal

pub returns-in_err-rest : goal.returns-in_err-rest
returns-in_err-rest c = λ n small e.
    let name = c.as_bytes.result.now in
    let front = begins-true c.args.file.now name (codes ".diskqueue." ++ (file_digits n ++ codes ".dat"))
    (e ∙ data_file-parts c.args.name.now n ∙ ap (λ (x : List ℕ). x ++ (codes ".diskqueue." ++ (file_digits n ++ codes ".dat"))) (sym c.as_bytes.ensures.value)) in
    let apart : bytes_eq (take (length name) c.args.file.now) name ≡ false = c.in_err-rest.ensures.cases in
    let contra : true ≡ false = sym front ∙ apart in
    cc

pub returns : goal.returns
returns c = λ n small e.
    let digits : c.in_ok-digits.digits.now ≡ file_digits n
    = digits_left c.args.name.now c.args.file.now c.in_ok-rest.rest.now c.in_ok-rest-2.rest.now c.in_ok-digits.digits.now n e
    (c.in_ok-rest.ensures.cases.1 ∙ ap (λ (x : List ℕ). drop (length x) c.args.file.now) c.as_bytes.ensures.value) c.in_ok-rest-2.ensures.cases.1 c.in_ok-digits.ensures.cases.1 in
    let value : digits_value 10 c.in_ok-digits.digits.now ≡ n = ap (digits_value 10) digits ∙ digits_value-file_digits n small in
    some_where c.value_up_to.result _ _ c.value_up_to.ensures (subst (λ (ds : List ℕ). IsNumeral 10 ds) (sym digits) (numeral-file_digits n small), omega (arith, value)) ∙ ap (λ (x : ℕ). Some x) value
