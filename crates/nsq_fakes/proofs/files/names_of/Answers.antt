use Rattle.std.proofs.Common.{◌≡◌, map, filter, string_bytes, append-nil}
use Rattle.std.specs.BTreeMap.{keys}
use Rattle.nsq_fakes.proofs.Listings.{begins, listing-keys}
use Rattle.nsq_fakes.proofs.files.names_of.Goals as goal

pub returns : goal.returns
returns c =
    let whole : map string_bytes c.loop-name.names.items ≡ filter (begins c.args.beginning.now) (map string_bytes (keys c.args.files.now)) = simp append-nil at (rw c.in-None.ensures.steps.0 at c.loop-name.invariant) in
    rw whole (listing-keys c.args.files.now c.args.beginning.now c.keys-name-items.ensures.ordered)
