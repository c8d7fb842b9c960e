use Rattle.std.proofs.Common.{◌≡◌, refl, subst, sym, ap}
use Rattle.nsq_outside.specs.Files.{Files}
use Rattle.broker_history.specs.Changes.{gone}
use Rattle.broker_history.specs.declared.entry.Act.TheVariants.{Gone}
use Rattle.broker_history.specs.declared.turned.Turned.TheVariants as turned
use Rattle.floor_rooms.specs.Standing.{Carries}
use Rattle.floor_serving.specs.Carrying.{basis}
use Rattle.floor_serving.proofs.Closing.{act_made, act_not, by_number, gone_leaves, is_placed, without_number}
use Rattle.floor_serving.proofs.Staying.{same_equal, stays_by}
use Rattle.floor_serving.proofs.acts.carry_gone.Goals as goal

pub unreachable-requires : goal.unreachable-requires
unreachable-requires g c = is_placed c.args.hall.now c.args.number c.requires.there c.in_default.ensures

pub gone-requires-clause-client : goal.gone-requires-clause-client
gone-requires-clause-client g c = c.in-Some.ensures.in_range

pub returns-in-Err : goal.returns-in-Err
returns-in-Err g c =
    (act_not g.F.Folder.tells_files c.args.number Gone (basis c.args.hall.now (g.F.Folder.files c.args.folder.now) (g.F.Folder.folder_faults c.args.folder.now)) (basis c.gone.new.hall (g.F.Folder.files c.gone.new.folder) (g.F.Folder.folder_faults c.gone.new.folder)) _
    (record { stays = stays_by c.args.hall.now c.gone.new.hall _ c.gone.ensures.rest refl refl refl refl refl c.gone.ensures.names c.gone.ensures.since; sound = c.gone.ensures.sound; files = c.gone.ensures.files; faults = c.gone.ensures.faults })
    (λ told. subst (λ (f : Files). Carries c.args.hall.now (g.F.Folder.files c.args.folder.now) c.gone.new.hall f (λ s t. t ≡ s)) (ap g.F.Folder.files (sym c.in-Err.ensures.none)) (c.in-Err.ensures.stays (g.F.Folder.files c.args.folder.now)))
    (same_equal c.args.hall.now c.gone.new.hall _ c.in-Err.ensures.unchanged refl refl))

pub returns-in-Ok : goal.returns-in-Ok
returns-in-Ok g c =
    act_made g.F.Folder.tells_files c.args.number Gone (basis c.args.hall.now (g.F.Folder.files c.args.folder.now) (g.F.Folder.folder_faults c.args.folder.now)) (basis c.gone.new.hall (g.F.Folder.files c.gone.new.folder) (g.F.Folder.folder_faults c.gone.new.folder)) turned.Ended c.done.result c.done.ensures
    (record { stays = stays_by c.args.hall.now c.gone.new.hall _ c.gone.ensures.rest refl refl refl refl refl c.gone.ensures.names c.gone.ensures.since; sound = c.gone.ensures.sound; files = c.gone.ensures.files; faults = c.gone.ensures.faults })
    (λ told. by_number c.args.hall.now c.gone.new.hall (g.F.Folder.files c.args.folder.now) (g.F.Folder.files c.gone.new.folder) c.args.number c.in-Some.k c.in-Some.ensures (λ n s t. t ≡ gone s n) (c.in-Ok.ensures.told told))
    refl
    (gone_leaves c.args.hall.now c.gone.new.hall _ c.args.number c.gone.ensures.rest refl (without_number c.args.hall.now c.gone.new.hall (g.F.Folder.files c.args.folder.now) (g.F.Folder.files c.gone.new.folder) c.args.number c.in-Some.k c.in-Some.ensures c.in-Ok.ensures.clients)) tt
