-- What holds of a value holds of what is the same.
use Rattle.std.proofs.Common.{◌≡◌, sym, subst}

pub at_same : {F : Type 0} (old : F) (P : F → Type 0) (new : F) → new ≡ old → P old → P new
at_same old P new same p = subst P (sym same) p
