use Rattle.std.proofs.Common.{ℕ, List, ◌++◌, codes, ap, sym, ◌∙◌}
use Rattle.std.specs.Fmt.{styled_decimal}
use Rattle.queue_image.proofs.Naming.{six_wide, data_file-parts}
use Rattle.queue_image.proofs.file_names.data_file.Goals as goal

pub returns : goal.returns
returns c =
    c.in_ok-format.ensures.ok ∙ ap (λ (d : List ℕ). c.args.name.now ++ (codes ".diskqueue." ++ (d ++ codes ".dat"))) (ap (λ s. styled_decimal s c.args.number) c.laid_out.ensures ∙ six_wide c.args.number)
    ∙ sym (data_file-parts c.args.name.now c.args.number)
