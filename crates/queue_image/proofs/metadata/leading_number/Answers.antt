use Rattle.std.proofs.Common.{◌≡◌, arith}
use Rattle.std.specs.Str.Parse.{digits_value}
use Rattle.queue_image.proofs.MetaLemmas.{same_lead}
use Rattle.queue_image.proofs.metadata.leading_number.Goals as goal

pub returns-in_err-value : goal.returns-in_err-value
returns-in_err-value c =
    rw c.from_residual-in_err-value.ensures
    (λ n rest x. let lead = c.in_ok-field.ensures in
    let same : digits_value 10 c.in_ok-field.field.digits.now ≡ n = same_lead c.args.text.now c.args.separator c.args.most n c.in_ok-field.field.digits.now c.in_ok-field.field.rest.now rest c.requires lead x in
    let bound = x.bound in
    c.in_err-value.ensures (lead.numeral, omega arith))
