use Rattle.std.proofs.Common.{◌≡◌, ◌↔◌, ◌==◌, Bool, ℕ, List, [], ◌∷◌, ◌++◌, refl, subst, true, false, Option, Some, None, Vec, String, string_bytes, cond, option_map}
use Rattle.std.specs.Prelude.{Contains, IsTrue}
use Rattle.std.specs.List.{IsAnyAnswer}
use Rattle.std.specs.declared.alloc.Global.{Global}
use Rattle.std.proofs.lemmas.Bool.Decides.{Decides-eqb}
use Rattle.std.proofs.lemmas.List.Elements.{contains_decides, Decides-contains}
use Rattle.std.specs.Map.{lookup}
use Rattle.std.specs.Option.{option_or}
use Rattle.std.specs.Str.{bytes_eq}
use Rattle.nsq_fakes.specs.MemFiles.{first_of}

-- the first file of a name in a list that ends in one more, with what stands for an absent one
pub first_of-push : (list : List (String Global × Vec ℕ Global)) (key : String Global) (file : Vec ℕ Global) (name : List ℕ) (otherwise : Option (List ℕ)) →
    option_or (first_of (list ++ (key, file) ∷ []) name) otherwise ≡ option_or (first_of list name) (cond (bytes_eq name (string_bytes key)) (Some file.items) otherwise)
first_of-push [] key file name otherwise =
    elim (bytes_eq name (string_bytes key))
    as (λ b. option_or (option_map (λ v. v.items) (cond b (Some file) None)) otherwise ≡ option_or None (cond b (Some file.items) otherwise))
    [ true ↦ refl | false ↦ refl ]
first_of-push (x ∷ list) key file name otherwise =
    elim (bytes_eq name (string_bytes x.0))
    as (λ b.
    option_or (option_map (λ v. v.items) (cond b (Some x.1) (lookup (λ k. bytes_eq name (string_bytes k)) (list ++ (key, file) ∷ [])))) otherwise
    ≡ option_or (option_map (λ v. v.items) (cond b (Some x.1) (lookup (λ k. bytes_eq name (string_bytes k)) list))) (cond (bytes_eq name (string_bytes key)) (Some file.items) otherwise))
    [ true ↦ refl | false ↦ first_of-push list key file name otherwise ]

-- whether a list of numbers was seen to have one
pub contains_is : (xs seen : List ℕ) (x : ℕ) (r : Bool) → seen ≡ xs → IsAnyAnswer (λ y t. (y == x) ≡ t) seen r → IsTrue r ↔ Contains xs x
contains_is xs seen x r same cases = subst (λ (ys : List ℕ). IsTrue r ↔ Contains ys x) same (Decides-contains seen x r (contains_decides (λ a b. a == b) Decides-eqb seen x r cases))
