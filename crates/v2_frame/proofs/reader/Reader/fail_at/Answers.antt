use Rattle.std.proofs.Common.{arith, ap}
use Rattle.v2_frame.specs.Reading.{Reading}
use Rattle.v2_frame.proofs.ReaderLemmas.{left_fault}
use Rattle.v2_frame.proofs.reader.Reader.fail_at.Goals as goal

pub fail-requires : goal.fail-requires
fail-requires c =
    let r = c.args.self.now in
    left_fault r.stage r.limits r.place r.pending c.args.kind c.args.at c.told_place-at.result c.requires.stage c.requires.fault
    (omega (arith, c.told_place-at.ensures, c.saturating_add.ensures, ap (λ (x : Reading). x.place) c.self.view_is))
