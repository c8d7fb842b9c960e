use Rattle.std.proofs.Common.{subst}
use Rattle.floor_rooms.specs.Sound.{IsSound}
use Rattle.broker_floor.proofs.Storing.{holds_stored, others_stay}
use Rattle.broker_floor.proofs.floor.Floor.store.Goals as goal

pub returns-clause-stands : goal.returns-clause-stands
returns-clause-stands g c =
    λ told still s holds.
    holds_stored c.args.self.now.held.hall (g.F.Folder.files c.args.self.now.folder) (g.F.Folder.files c.replace_file.new.folder) s (subst IsSound c.get-hall.ensures.same (c.get-hall.ensures.sound still))
    (others_stay (g.F.Folder.files c.args.self.now.folder) (g.F.Folder.files c.replace_file.new.folder) c.args.name.now c.args.temp.now c.requires.name c.requires.temp (c.replace_file.ensures.others told)) holds
