use Rattle.std.proofs.Common.{◌≡◌, ◌<◌, ◌^◌, ◌-◌, ◌∙◌, ◌++◌, List, ℕ, true, false, sym, ap, replicate, length, arith}
use Rattle.std.specs.Fmt.{decimal}
use Rattle.queue_sweep.proofs.Stems.{stripped, not_stripped, zeros_before, zeros_are, spelled_zeros, same_number}
use Rattle.queue_sweep.proofs.form.is_file_number.Goals as goal

pub returns-in-Some-strip_suffix : goal.returns-in-Some-strip_suffix
returns-in-Some-strip_suffix c =
    let digits = c.args.digits.now in
    let zeros = c.in-Some-strip_suffix.zeros.now in
    let plain = c.as_bytes-plain.result.now in
    let m = c.in-Some.number in
    let own : plain ≡ decimal m = c.as_bytes-plain.ensures.value ∙ c.format.ensures.text in
    let whole : digits ≡ zeros ++ plain = stripped digits plain zeros c.in-Some-strip_suffix.ensures.cases.0 c.in-Some-strip_suffix.ensures.cases.1 in
    let small : m < 2 ^ 64 = omega arith in
    let zeros_count : replicate c.saturating_sub.result 48 ≡ replicate (6 - length plain) 48 = ap (λ (k : ℕ). replicate k 48) c.saturating_sub.ensures in (
      λ all. zeros_before m digits zeros plain small whole own (c.are_zeros.ensures.0 all ∙ zeros_count),
      λ number. let same : m ≡ number.0 = same_number m number.0 (c.in-Some.ensures number.0 number.1 number.2) in
          c.are_zeros.ensures.1 (zeros_are number.0 m digits zeros plain number.2 whole own same ∙ sym zeros_count),
    )

pub returns-in-None : goal.returns-in-None
returns-in-None c = (
  λ no. absurd (let contra : false ≡ true = no in cc),
  λ number.
      let same : c.in-Some.number ≡ number.0 = same_number c.in-Some.number number.0 (c.in-Some.ensures number.0 number.1 number.2) in
      let own : c.as_bytes-plain.result.now ≡ decimal number.0 = c.as_bytes-plain.ensures.value ∙ c.format.ensures.text ∙ ap decimal same in
      absurd (not_stripped c.args.digits.now c.as_bytes-plain.result.now (spelled_zeros number.0) c.in-None.ensures.cases (number.2 ∙ ap (λ (x : List ℕ). spelled_zeros number.0 ++ x) (sym own))),
)
