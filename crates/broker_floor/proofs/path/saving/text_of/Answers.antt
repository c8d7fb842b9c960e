use Rattle.std.proofs.Common.{arith, refl, subst, sym, ◌∙◌}
use Rattle.names_file.specs.Kept.{CanKeepAll}
use Rattle.floor_rooms.specs.Kept.{hall_kept}
use Rattle.broker_floor.specs.Floors.{hall_of}
use Rattle.broker_floor.proofs.PathStoring.{is_text}
use Rattle.broker_floor.proofs.path.saving.text_of.Goals as goal

pub returns : goal.returns
returns g c =
    is_text _ _ _ c.epoch.result (hall_of c.args.floor.now).epoch c.deref.result.now (hall_kept (hall_of c.args.floor.now)) refl c.in_ok-write_names.ensures.ok c.new-text.ensures.items c.epoch.ensures.value (c.deref.ensures.value ∙ c.in_ok-kept.ensures.kept)
    c.epoch.ensures.bound (subst CanKeepAll (sym c.deref.ensures.value) (c.in_ok-kept.ensures.can c.requires)) c.write_names.ensures.keeps (let low = c.if-len-gt-LONGEST_NAMES.false in let is = c.len.ensures in omega (arith, low, is))
