use Rattle.std.proofs.Common.{List, ℕ, sym, subst}
use Rattle.names_file.specs.Texts.{kept_of}
use Rattle.floor_rooms.specs.Kept.{hall_kept}
use Rattle.broker_floor.specs.Floors.{faults_of, files_of, hall_of}
use Rattle.broker_floor.specs.Closings.{IsTextOf}
use Rattle.broker_floor.proofs.Leaving.{shut_with, shut_without}
use Rattle.broker_floor.proofs.path.shutting.write_down.Goals as goal

pub returns-in_default-clause-shuts : goal.returns-in_default-clause-shuts
returns-in_default-clause-shuts g c =
    shut_without g.F.Folder.tells_files c.flush-flushed.result (hall_of c.args.floor.now) (files_of c.args.floor.now) (files_of c.flush-flushed.new.self)
    (faults_of c.args.floor.now) (faults_of c.flush-flushed.new.self) c.flush-flushed.ensures.others c.flush-flushed.ensures.files c.flush-flushed.ensures.faults

pub returns-clause-shuts : goal.returns-clause-shuts
returns-clause-shuts g c =
    let hall = hall_of c.args.floor.now in
    let of : IsTextOf c.deref.result.now (kept_of hall.epoch (hall_kept hall)) = subst (λ (t : List ℕ). IsTextOf t (kept_of hall.epoch (hall_kept hall))) (sym c.deref.ensures.value) c.in-Ok.ensures in
    rw c.end_of.ensures
    (shut_with g.F.Folder.tells_files c.flush-flushed.result c.store_behind-stored.result hall (files_of c.args.floor.now) (files_of c.flush-flushed.new.self)
    (files_of c.store_behind-stored.new.floor) (faults_of c.args.floor.now) (faults_of c.flush-flushed.new.self)
    (faults_of c.store_behind-stored.new.floor) c.deref.result.now of c.flush-flushed.ensures.left c.flush-flushed.ensures.others c.flush-flushed.ensures.files c.flush-flushed.ensures.faults
    c.flush-flushed.ensures.cause c.store_behind-stored.ensures.content c.store_behind-stored.ensures.others c.store_behind-stored.ensures.faults c.store_behind-stored.ensures.cause)
