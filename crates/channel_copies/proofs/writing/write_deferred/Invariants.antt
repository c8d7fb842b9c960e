use Rattle.std.proofs.Common.{◌≡◌, ◌≤◌, length, IsSome}
use Rattle.backlog.specs.declared.backlog.Lent.TheVariants.{Nothing}
use Rattle.channel_copies.specs.Putting.{KeepsDisk, around}
use Rattle.channel_copies.specs.Storing.{Stores, deferred_messages}
use Rattle.channel_copies.proofs.Wrote.{Spends}
use Rattle.channel_copies.proofs.writing.write_deferred.Given as goal

abbrev pub decreases-loop-message : goal.decreases-loop-message
decreases-loop-message g l = length l.deferred.waiting

abbrev pub invariant-loop-message : goal.invariant-loop-message
invariant-loop-message g l =
    let files = g.F.Folder.files in
    let count = g.F.Folder.folder_faults in
    let before = around l.fn.backlog (files l.fn.folder) (count l.fn.folder) in
    let now = around l.backlog (files l.folder) (count l.folder) in
    record {
      fewer : length l.deferred.waiting ≤ length l.fn.deferred.waiting;
      durable : IsSome l.backlog.queue;
      nothing : l.backlog.lent ≡ Nothing;
      capacity : l.backlog.capacity ≡ l.fn.backlog.capacity;
      stores : Stores g.F.Folder.tells_files (deferred_messages l.fn.deferred.waiting) (deferred_messages l.deferred.waiting) before now;
      disk : KeepsDisk g.F.Folder.tells_files before now;
      steps : Spends (length l.fn.deferred.waiting) (length l.deferred.waiting) l.fn.steps l.steps;
    }
