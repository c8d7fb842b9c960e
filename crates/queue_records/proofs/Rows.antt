-- A row of records, read record by record.
use Rattle.std.proofs.Common.{◌≡◌, ◌-◌, ℕ, ◌+◌, ◌<◌, ◌≤◌, List, [], ◌++◌, length, take, drop, length-take, take-append-drop, refl, sym, ◌∙◌, ap, subst, arith}
use Rattle.std.proofs.lemmas.List.{length-drop, take_all, take_rest}
use Rattle.queue_image.specs.Records.{IsRow, IsNoRecord, IsDamaged}

-- no body yet
pub row_begins : (least limit : ℕ) (bytes : List ℕ) (bodies : List (List ℕ)) → bodies ≡ [] → IsRow least limit (take 0 bytes) bodies
row_begins least limit bytes bodies none = rw none (record { whole = refl; sizes = tt })

-- the row up to the end
pub row_ends : (least limit : ℕ) (bytes : List ℕ) (place : ℕ) (bodies : List (List ℕ)) → length bytes ≤ place → IsRow least limit (take place bytes) bodies → IsRow least limit bytes bodies
row_ends least limit bytes place bodies end row = subst (λ (x : List ℕ). IsRow least limit x bodies) (take_all place bytes end) row

-- something is left where the end isn't reached
pub some_left : (bytes : List ℕ) (place : ℕ) → place < length bytes → 0 < length (take (length bytes - place) (drop place bytes))
some_left bytes place inside = omega (arith, inside, length-take (length bytes - place) (drop place bytes), length-drop place bytes)

-- a step ahead leaves less
pub less_left : (bytes : List ℕ) (place long : ℕ) → place < length bytes → length bytes - (place + (4 + long)) < length bytes - place
less_left bytes place long inside = omega (arith, inside)

-- good records up to a place, and none behind it
pub damaged_here : (least limit : ℕ) (bytes : List ℕ) (place size : ℕ) (bodies : List (List ℕ)) → place ≤ length bytes → IsRow least limit (take place bytes) bodies → IsNoRecord least limit (take (length bytes - place) (drop place bytes)) size
    → IsDamaged least limit bytes place size
damaged_here least limit bytes place size bodies inside row none = record {
  before = bodies;
  rest = drop place bytes;
  whole = sym (take-append-drop place bytes) ∙ ap (λ (x : List ℕ). x ++ drop place bytes) row.whole;
  sizes = row.sizes;
  stands = omega (arith, inside, length-take place bytes, ap length row.whole);
  damage = subst (λ (x : List ℕ). IsNoRecord least limit x size) (take_rest bytes place) none;
}
