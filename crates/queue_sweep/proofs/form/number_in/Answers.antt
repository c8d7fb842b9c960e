use Rattle.std.proofs.Common.{◌∙◌, List, ℕ, Some, ap, sym, subst}
use Rattle.std.specs.Str.{IsUtf8}
use Rattle.queue_sweep.proofs.Stems.{digits_utf8, digits_read}
use Rattle.queue_sweep.proofs.form.number_in.Goals as goal

pub returns-in_default : goal.returns-in_default
returns-in_default c = λ n small e. absurd (c.in_default.ensures.cases.0 (subst (λ (x : List ℕ). IsUtf8 x) (sym e) (digits_utf8 n small)))

pub returns-in-Ok-parse : goal.returns-in-Ok-parse
returns-in-Ok-parse c = λ n small e. ap (λ (x : ℕ). Some x) (c.in-Ok-parse.ensures.value.0.1 ∙ (digits_read n c.in-Ok.text.now small (c.in-Ok.ensures.cases.0 ∙ e)).1)

pub returns-in-Err : goal.returns-in-Err
returns-in-Err c = λ n small e. absurd (c.in-Err.ensures.value.0 (digits_read n c.in-Ok.text.now small (c.in-Ok.ensures.cases.0 ∙ e)).0)
