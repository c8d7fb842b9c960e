use Rattle.std.proofs.Common.{◌≡◌, ◌∙◌, length, ap, arith}
use Rattle.queue_image.specs.FileNames.{data_file}
use Rattle.queue_files.specs.FileCalls.{DataFile}
use Rattle.queue_opening.proofs.Asides.{data_file_long}
use Rattle.queue_opening.proofs.names.Names.set_aside.Goals as goal

pub spell_aside-requires : goal.spell_aside-requires
spell_aside-requires g c =
    let spelled : c.as_str-file.result.now ≡ data_file c.self.inside.data.name c.args.number
    = c.as_str-file.ensures ∙ ap (λ (d : DataFile). data_file d.name d.number) c.turn_to.ensures in
    omega (arith, ap length spelled, data_file_long c.self.inside.data.name c.args.number c.ranges.number.fits, c.self.invariant)
