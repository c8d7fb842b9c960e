use Rattle.std.proofs.Common.{arith, subst, ◌∙◌}
use Rattle.nsq_outside.specs.Causes.{DidCounts}
use Rattle.queue_opening.specs.FileCalls.{OnlyNumbersChange, Gone}
use Rattle.disk_queue.specs.Parts.{IsSound}
use Rattle.disk_queue.proofs.Saves.{rewritten, not_rewritten}
use Rattle.disk_queue.proofs.Joined.{did_later, save_changes, save_begins}
use Rattle.disk_queue.proofs.Sound.{named_as}
use Rattle.disk_queue.proofs.queue.Queue.save_files.Goals as goal

pub returns-in-Failed : goal.returns-in-Failed
returns-in-Failed g c =
    let old = g.F.Folder.files c.args.folder.now in
    let new = g.F.Folder.files c.save.new.folder in
    record {
      seen = named_as _ c.args.self.now c.save.new.self c.in-Failed.ensures.name c.self.view_is;
      sound = subst IsSound c.self.view_is c.self.invariant;
      metadata = λ told. not_rewritten _ c.args.self.now old new c.self.view_is c.self.invariant.range.read_file (c.in-Failed.ensures.metadata told) (c.in-Failed.ensures.others told);
      removed = λ told. tt;
      files = λ told. save_begins _ c.args.self.now old new c.self.view_is (c.in-Failed.ensures.others told);
      faults = c.in-Failed.ensures.faults;
      cause = c.in-Failed.ensures.cause;
      exact = c.in-Failed.ensures.exact;
    }

pub returns : goal.returns
returns g c =
    let old = g.F.Folder.files c.args.folder.now in
    let mid = g.F.Folder.files c.save.new.folder in
    let new = g.F.Folder.files c.remove.new.folder in
    let is = c.self.inside in
    record {
      seen = named_as _ c.args.self.now c.remove.new.self (c.remove.ensures.name ∙ c.in-Done.ensures.name) c.self.view_is;
      sound = subst IsSound c.self.view_is c.self.invariant;
      metadata = λ told.
          rewritten _ c.args.self.now old mid new c.remove.result c.self.view_is c.self.invariant.range.read_file (c.in-Done.ensures.metadata told)
          (subst (λ name. OnlyNumbersChange name mid new is.saved.positions.read_file is.positions.read_file) c.in-Done.ensures.name (c.remove.ensures.others told));
      removed = λ told.
          subst (λ q. Gone q.name new q.saved.positions.read_file q.positions.read_file c.remove.result) c.self.view_is
          (subst (λ name. Gone name new is.saved.positions.read_file is.positions.read_file c.remove.result) c.in-Done.ensures.name (c.remove.ensures.gone told));
      files = λ told.
          save_changes _ c.args.self.now old mid new c.self.view_is (c.in-Done.ensures.others told)
          (subst (λ name. OnlyNumbersChange name mid new is.saved.positions.read_file is.positions.read_file) c.in-Done.ensures.name (c.remove.ensures.others told));
      faults = omega (arith, c.in-Done.ensures.faults, c.remove.ensures.faults);
      cause = did_later (g.F.Folder.folder_faults c.args.folder.now) (g.F.Folder.folder_faults c.save.new.folder) (g.F.Folder.folder_faults c.remove.new.folder) c.remove.result c.in-Done.ensures.faults c.remove.ensures.cause;
      exact = λ counts. subst (λ n. DidCounts n (g.F.Folder.folder_faults c.remove.new.folder) c.remove.result) (c.in-Done.ensures.exact counts) (c.remove.ensures.exact counts);
    }
