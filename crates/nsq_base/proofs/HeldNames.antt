-- A buffer that was made of a name holds it.
use Rattle.std.proofs.Common.{◌≡◌, ℕ, ◌-◌, List, ◌++◌, length, take, refl, sym, ap, subst, ◌∙◌}
use Rattle.std.proofs.lemmas.List.{take_at}
use Rattle.std.specs.Prelude.{replicate}
use Rattle.nsq_core.specs.Name.{IsName}
use Rattle.nsq_base.specs.NameBuffers.{HoldsName, buffer_of}

pub holds_name : (name buffer : List ℕ) (len : ℕ) → IsName name → buffer ≡ buffer_of name → len ≡ length name → HoldsName buffer len
holds_name name buffer len is_name held long =
    let front : take len buffer ≡ name = ap (λ n. take n buffer) long ∙ ap (take (length name)) held ∙ take_at name (replicate (64 - length name) 0) (length name) refl in
    record {
      is_name = subst IsName (sym front) is_name;
      whole = ap length front ∙ sym long;
      blank = held ∙ ap (λ (x : List ℕ). x ++ replicate (64 - length name) 0) (sym front) ∙ ap (λ n. take len buffer ++ replicate (64 - n) 0) (sym long);
    }
