use Rattle.std.proofs.Common.{◌-◌, length, take, drop}
use Rattle.v2_frame.proofs.PlaceLemmas.{behind_place}
use Rattle.v2_frame.proofs.ReaderLemmas.{first_some, first_none}
use Rattle.v2_frame.proofs.reader.pending.first_line.Goals as goal

pub returns-in-Some : goal.returns-in-Some
returns-in-Some c =
    first_some c.args.bytes.now (take (length c.args.bytes.now - c.args.scanned) (drop c.args.scanned c.args.bytes.now)) c.args.scanned c.requires.within c.requires.none
    (behind_place c.args.bytes.now c.args.scanned) c.in-Some.place c.in-Some.ensures.0 c.in-Some.ensures.1

pub returns-in-None : goal.returns-in-None
returns-in-None c =
    first_none c.args.bytes.now (take (length c.args.bytes.now - c.args.scanned) (drop c.args.scanned c.args.bytes.now)) c.args.scanned c.requires.within c.requires.none
    (behind_place c.args.bytes.now c.args.scanned) c.in-None.ensures
