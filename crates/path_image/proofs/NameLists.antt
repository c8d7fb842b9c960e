-- Names in byte order.
use Rattle.std.proofs.Common.{◌≡◌, ℕ, true, false, List, ap}
use Rattle.std.specs.Ordering.{is_lt}
use Rattle.std.specs.declared.cmp.Ordering.TheVariants.{Less}
use Rattle.nsq_base.specs.Names.{is_before, byte_order}
use Rattle.nsq_base.proofs.PutBy.{Less-from_before, byte_order-flip}

-- of two byte strings at most one comes before the other
pub before_once : (a b : List ℕ) → is_before a b ≡ true → is_before b a ≡ false
before_once a b h = ap is_lt (byte_order-flip a b Less (Less-from_before (byte_order a b) h))
