use Rattle.std.proofs.Common.{◌+◌, ◌-◌, length, take, drop}
use Rattle.v2_frame.proofs.PlaceLemmas.{behind_place}
use Rattle.v2_frame.proofs.ReaderLemmas.{waits_size, waits_body}
use Rattle.v2_frame.proofs.reader.pending.needed_behind.Goals as goal

pub returns-in-None : goal.returns-in-None
returns-in-None c =
    let line = c.args.end + 1 in
    waits_size c.args.bytes.now c.args.end c.requires (take (length c.args.bytes.now - line) (drop line c.args.bytes.now)) (behind_place c.args.bytes.now line) c.in-None.ensures

pub returns-in-Some : goal.returns-in-Some
returns-in-Some c =
    let line = c.args.end + 1 in
    waits_body c.args.bytes.now c.args.end c.requires (take (length c.args.bytes.now - line) (drop line c.args.bytes.now)) c.in-Some.field-0-1.now c.in-Some.size (behind_place c.args.bytes.now line) c.in-Some.ensures.0
