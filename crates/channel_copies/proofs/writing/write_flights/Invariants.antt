use Rattle.std.proofs.Common.{◌≡◌, ◌≤◌, length, IsSome}
use Rattle.backlog.specs.declared.backlog.Lent.TheVariants.{Nothing}
use Rattle.channel_copies.specs.Putting.{KeepsDisk, around}
use Rattle.channel_copies.specs.Storing.{Stores, flying_messages}
use Rattle.channel_copies.proofs.Wrote.{Spends}
use Rattle.channel_copies.proofs.writing.write_flights.Given as goal

abbrev pub decreases-loop-flight : goal.decreases-loop-flight
decreases-loop-flight g l = length l.flights.flights

abbrev pub invariant-loop-flight : goal.invariant-loop-flight
invariant-loop-flight g l =
    let files = g.F.Folder.files in
    let count = g.F.Folder.folder_faults in
    let before = around l.fn.backlog (files l.fn.folder) (count l.fn.folder) in
    let now = around l.backlog (files l.folder) (count l.folder) in
    record {
      fewer : length l.flights.flights ≤ length l.fn.flights.flights;
      durable : IsSome l.backlog.queue;
      nothing : l.backlog.lent ≡ Nothing;
      capacity : l.backlog.capacity ≡ l.fn.backlog.capacity;
      stores : Stores g.F.Folder.tells_files (flying_messages l.fn.flights.flights) (flying_messages l.flights.flights) before now;
      disk : KeepsDisk g.F.Folder.tells_files before now;
      steps : Spends (length l.fn.flights.flights) (length l.flights.flights) l.fn.steps l.steps;
    }
