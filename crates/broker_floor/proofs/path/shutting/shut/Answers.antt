use Rattle.std.proofs.Common.{subst, sym, ◌∙◌}
use Rattle.broker_floor.specs.Floors.{faults_of, files_of, hall_of}
use Rattle.broker_floor.specs.Closings.{ShutsDown}
use Rattle.broker_floor.proofs.path.shutting.shut.Goals as goal

pub returns : goal.returns
returns g c =
    let shuts : ShutsDown g.F.Folder.tells_files c.write_down-end.result (hall_of c.args.floor) (files_of c.args.floor) (g.F.Folder.files c.end.result.folder) (faults_of c.args.floor) (g.F.Folder.folder_faults c.end.result.folder) =
    subst (λ f. ShutsDown g.F.Folder.tells_files c.write_down-end.result (hall_of c.args.floor) (files_of c.args.floor) (g.F.Folder.files f) (faults_of c.args.floor) (g.F.Folder.folder_faults f)) (sym c.end.ensures.folder) c.write_down-end.ensures.shuts in
    record {
      clock = c.end.ensures.clock ∙ c.write_down-end.ensures.clock;
      journal = c.end.ensures.journal ∙ c.write_down-end.ensures.journal;
      names = shuts.names;
      left = shuts.left;
      queues = shuts.queues;
      text = shuts.text;
      memory = shuts.memory;
      files = shuts.files;
      faults = shuts.faults;
      cause = shuts.cause;
    }
