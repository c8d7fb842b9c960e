-- Which names are closed after a file was taken out of the open ones.
use Rattle.std.proofs.Common.{◌≡◌, ℕ, List, [], ◌∷◌, refl, sym, ◌∙◌, ap, subst, true, false, None, Some, String, string_bytes, cond}
use Rattle.std.specs.declared.alloc.Global.{Global}
use Rattle.std.specs.List.{AllByRecursion, IsDistinct}
use Rattle.std.specs.Map.{keys_of, lookup, remove_entry}
use Rattle.std.specs.Str.{bytes_eq}
use Rattle.std.specs.String.{string_eq}
use Rattle.std.proofs.lemmas.Slice.Eq.{bytes_eq-Decides}
use Rattle.nsq_system.specs.OpenFiles.{IsClosed}

-- no other name is the same
none_left : {F : Type 0} (key : String Global) (opened : List (String Global × F)) → AllByRecursion (λ other. string_eq key other ≡ false) (keys_of opened) → IsClosed opened (string_bytes key)
none_left key [] apart = refl
none_left key (file ∷ opened) apart = ap (λ b. cond b (Some file.1) (lookup (λ other. bytes_eq (string_bytes key) (string_bytes other)) opened)) apart.0 ∙ none_left key opened apart.1

-- the name that is taken out
pub closed-removed : {F : Type 0} (opened : List (String Global × F)) (name : List ℕ) → IsDistinct string_eq (keys_of opened)
    → IsClosed (remove_entry (λ key. bytes_eq name (string_bytes key)) opened) name
unfolding IsDistinct
closed-removed [] name apart = refl
closed-removed (file ∷ opened) name apart = (elim (bytes_eq name (string_bytes file.0))
    as (λ b. bytes_eq name (string_bytes file.0) ≡ b → IsClosed (cond b opened (file ∷ remove_entry (λ key. bytes_eq name (string_bytes key)) opened)) name) [
      | true ↦ λ here. subst (λ bytes. IsClosed opened bytes) (sym ((bytes_eq-Decides name (string_bytes file.0)).0 here)) (none_left file.0 opened apart.0)
      | false ↦ λ there. ap (λ b. cond b (Some file.1) (lookup (λ key. bytes_eq name (string_bytes key)) (remove_entry (λ key. bytes_eq name (string_bytes key)) opened))) there ∙ closed-removed opened name apart.1
    ]) refl

-- a name that was closed
pub closed-still : {F : Type 0} (opened : List (String Global × F)) (name other : List ℕ) → IsClosed opened other → IsClosed (remove_entry (λ key. bytes_eq name (string_bytes key)) opened) other
closed-still [] name other closed = closed
closed-still (file ∷ opened) name other closed = (elim (bytes_eq other (string_bytes file.0)) as (λ b. bytes_eq other (string_bytes file.0) ≡ b
    → cond b (Some file.1) (lookup (λ key. bytes_eq other (string_bytes key)) opened) ≡ None → IsClosed (remove_entry (λ key. bytes_eq name (string_bytes key)) (file ∷ opened)) other) [
      | true ↦ λ here found. cc
      | false ↦ λ there rest. elim (bytes_eq name (string_bytes file.0)) as (λ b. IsClosed (cond b opened (file ∷ remove_entry (λ key. bytes_eq name (string_bytes key)) opened)) other) [
        | true ↦ rest
        | false ↦ ap (λ b. cond b (Some file.1) (lookup (λ key. bytes_eq other (string_bytes key)) (remove_entry (λ key. bytes_eq name (string_bytes key)) opened))) there ∙ closed-still opened name other rest
      ]
    ]) refl closed
