use Rattle.std.proofs.Common.{◌≡◌, take}
use Rattle.broker_floor.specs.Floors.{faults_of, files_of, held_of, kit_of}
use Rattle.broker_floor.specs.Adding.{IsAdded}
use Rattle.broker_floor.proofs.path.adding.add_topics.Given as goal

abbrev pub invariant-topics : goal.invariant-topics
invariant-topics g l =
    IsAdded g.F.Folder.tells_files (take l.topic-index l.topics) (held_of l.fn.floor) (held_of l.floor) (files_of l.fn.floor) (files_of l.floor) (faults_of l.fn.floor) (faults_of l.floor)
    × ((kit_of l.floor).clock ≡ (kit_of l.fn.floor).clock)
    × ((kit_of l.floor).journal ≡ (kit_of l.fn.floor).journal)
