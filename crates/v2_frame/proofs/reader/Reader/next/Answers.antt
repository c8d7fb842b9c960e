use Rattle.std.proofs.Common.{◌≡◌, refl, inl}
use Rattle.v2_frame.specs.declared.got.Stage.TheVariants.{Failed}
use Rattle.v2_frame.proofs.ReaderLemmas.{left_failed}
use Rattle.v2_frame.proofs.reader.Reader.next.Goals as goal

pub returns-in-Commands : goal.returns-in-Commands
returns-in-Commands c = record { begun = c.args.self.now; starts = inl refl; next = c.command.ensures }

pub returns-in-Failed : goal.returns-in-Failed
returns-in-Failed c =
    let r = c.args.self.now in
    let failed : r.stage ≡ Failed c.in-Failed.fault = rw (← c.self.view_is) c.in-Failed.is in
    record { begun = r; starts = inl refl; next = record { left = left_failed r.stage r.limits r.place r.pending c.in-Failed.fault failed; failed = failed; limits = refl } }
