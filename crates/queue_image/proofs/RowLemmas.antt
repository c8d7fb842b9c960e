-- Rows of records: read in one way only.
use Rattle.std.proofs.Common.{◌≡◌, ◌-◌, length-take, take-append-drop, ℕ, ◌+◌, ◌^◌, ◌<◌, ◌≤◌, List, [], ◌∷◌, ◌++◌, length, take, drop, refl, sym, ◌∙◌, ap, subst, inl, inr, arith, append_assoc, length-append}
use Rattle.std.proofs.lemmas.List.{take_at, drop_at, append-nil, take_rest, nil_from_length}
use Rattle.std.proofs.lemmas.List.Concat.{flat_map-append}
use Rattle.std.proofs.lemmas.Nat.{from_be_bytes-to_be_bytes_4}
use Rattle.std.specs.List.{AllByRecursion}
use Rattle.std.specs.Int.{w32, to_be_bytes}
use Rattle.queue_image.specs.Records.{HasRecord, record_bytes, rows, IsSize, IsRow, size_read, IsNoRecord}
use Rattle.queue_image.specs.Records.IsNoRecord.{cut, wrong, passing}

-- each body has a size that the queue takes
abbrev pub Sizes : ℕ → ℕ → List (List ℕ) → Type 0
Sizes least limit bodies = AllByRecursion (λ body. IsSize least limit (length body)) bodies

-- the size in front of a body is its length
pub size_read-record : (body rest : List ℕ) → length body < 2 ^ 32 → size_read (record_bytes body ++ rest) ≡ length body
size_read-record body rest small = from_be_bytes-to_be_bytes_4 (length body) small

pub length-record : (body : List ℕ) → length (record_bytes body) ≡ 4 + length body
length-record body = length-append (to_be_bytes w32 (length body)) body

-- two records at one place are the same, and so is what follows them
pub same_record : (body other x y : List ℕ) → length body < 2 ^ 32 → length other < 2 ^ 32 → record_bytes body ++ x ≡ record_bytes other ++ y → (body ≡ other) × (x ≡ y)
same_record body other x y small small' e =
    let sizes : length body ≡ length other = sym (size_read-record body x small) ∙ ap size_read e ∙ size_read-record other y small' in
    let tails : body ++ x ≡ other ++ y = ap (drop 4) e in
    let bodies : body ≡ other = sym (take_at body x (length body) refl) ∙ ap (take (length body)) tails ∙ take_at other y (length body) (sym sizes) in
    (bodies, sym (drop_at body x (length body) refl) ∙ ap (drop (length body)) tails ∙ drop_at other y (length body) (sym sizes))

-- where a record stands, no damage does
pub record_is_whole : (least limit : ℕ) (body rest : List ℕ) (size : ℕ) → limit < 2 ^ 32 → IsSize least limit (length body) → IsNoRecord least limit (record_bytes body ++ rest) size → ⊥
record_is_whole least limit body rest size small s (cut some few none) = omega (arith, length-append (record_bytes body) rest, length-record body)
record_is_whole least limit body rest size small s (wrong enough read (inl low)) =
    let small' : length body < 2 ^ 32 = omega arith in omega (arith, read, size_read-record body rest small')
record_is_whole least limit body rest size small s (wrong enough read (inr high)) =
    let small' : length body < 2 ^ 32 = omega arith in omega (arith, read, size_read-record body rest small')
record_is_whole least limit body rest size small s (passing enough read past) =
    let small' : length body < 2 ^ 32 = omega arith in
    omega (arith, read, size_read-record body rest small', length-append (record_bytes body) rest, length-record body)

-- nothing is no damage
nothing_is_whole : (least limit size : ℕ) → IsNoRecord least limit [] size → ⊥
nothing_is_whole least limit size (cut some few none) = omega arith
nothing_is_whole least limit size (wrong enough read out) = omega arith
nothing_is_whole least limit size (passing enough read past) = omega arith

not_empty : (body rest : List ℕ) → [] ≡ record_bytes body ++ rest → ⊥
not_empty body rest e = omega (arith, ap length e, length-append (record_bytes body) rest, length-record body)

pub same_rows : (least limit : ℕ) (xs ys : List (List ℕ)) → limit < 2 ^ 32 → Sizes least limit xs → Sizes least limit ys → rows xs ≡ rows ys → xs ≡ ys
same_rows least limit [] [] small s t e = refl
same_rows least limit [] (y ∷ ys) small s t e = absurd (not_empty y (rows ys) e)
same_rows least limit (x ∷ xs) [] small s t e = absurd (not_empty x (rows xs) (sym e))
same_rows least limit (x ∷ xs) (y ∷ ys) small s t e =
    let h = same_record x y (rows xs) (rows ys) (omega (arith, s.0.1)) (omega (arith, t.0.1)) e in
    ap (λ b. b ∷ xs) h.0 ∙ ap (λ bs. y ∷ bs) (same_rows least limit xs ys small s.1 t.1 h.1)

pub rows_are_whole : (least limit : ℕ) (xs ys : List (List ℕ)) (rest : List ℕ) (size : ℕ) → limit < 2 ^ 32 → Sizes least limit xs → Sizes least limit ys → rows xs ≡ rows ys ++ rest
    → IsNoRecord least limit rest size → ⊥
rows_are_whole least limit [] [] rest size small s t e d = nothing_is_whole least limit size (subst (λ (r : List ℕ). IsNoRecord least limit r size) (sym e) d)
rows_are_whole least limit [] (y ∷ ys) rest size small s t e d = not_empty y (rows ys ++ rest) (e ∙ append_assoc (record_bytes y) (rows ys) rest)
rows_are_whole least limit (x ∷ xs) [] rest size small s t e d = record_is_whole least limit x (rows xs) size small s.0 (subst (λ (r : List ℕ). IsNoRecord least limit r size) (sym e) d)
rows_are_whole least limit (x ∷ xs) (y ∷ ys) rest size small s t e d =
    let h = same_record x y (rows xs) (rows ys ++ rest) (omega (arith, s.0.1)) (omega (arith, t.0.1)) (e ∙ append_assoc (record_bytes y) (rows ys) rest) in
    rows_are_whole least limit xs ys rest size small s.1 t.1 h.1 d

same_size : (least limit : ℕ) (rest : List ℕ) (s t : ℕ) → IsNoRecord least limit rest s → IsNoRecord least limit rest t → s ≡ t
same_size least limit rest s t (cut _ _ a) (cut _ _ b) = a ∙ sym b
same_size least limit rest s t (cut some few a) (wrong enough _ _) = absurd (omega arith)
same_size least limit rest s t (cut some few a) (passing enough _ _) = absurd (omega arith)
same_size least limit rest s t (wrong enough _ _) (cut some few b) = absurd (omega arith)
same_size least limit rest s t (wrong _ a _) (wrong _ b _) = a ∙ sym b
same_size least limit rest s t (wrong _ a _) (passing _ b _) = a ∙ sym b
same_size least limit rest s t (passing enough _ _) (cut some few b) = absurd (omega arith)
same_size least limit rest s t (passing _ a _) (wrong _ b _) = a ∙ sym b
same_size least limit rest s t (passing _ a _) (passing _ b _) = a ∙ sym b

pub same_damage : (least limit : ℕ) (xs ys : List (List ℕ)) (r t : List ℕ) (m n : ℕ) → limit < 2 ^ 32 → Sizes least limit xs → Sizes least limit ys → rows xs ++ r ≡ rows ys ++ t
    → IsNoRecord least limit r m → IsNoRecord least limit t n → (length (rows xs) ≡ length (rows ys)) × (m ≡ n)
same_damage least limit [] [] r t m n small s u e a b = (refl, same_size least limit r m n a (subst (λ (z : List ℕ). IsNoRecord least limit z n) (sym e) b))
same_damage least limit [] (y ∷ ys) r t m n small s u e a b =
    absurd (record_is_whole least limit y (rows ys ++ t) m small u.0 (subst (λ (z : List ℕ). IsNoRecord least limit z m) (e ∙ append_assoc (record_bytes y) (rows ys) t) a))
same_damage least limit (x ∷ xs) [] r t m n small s u e a b =
    absurd (record_is_whole least limit x (rows xs ++ r) n small s.0 (subst (λ (z : List ℕ). IsNoRecord least limit z n) (sym e ∙ append_assoc (record_bytes x) (rows xs) r) b))
same_damage least limit (x ∷ xs) (y ∷ ys) r t m n small s u e a b =
    let h = same_record x y (rows xs ++ r) (rows ys ++ t) (omega (arith, s.0.1)) (omega (arith, u.0.1)) (sym (append_assoc (record_bytes x) (rows xs) r) ∙ e ∙ append_assoc (record_bytes y) (rows ys) t) in
    let rest = same_damage least limit xs ys r t m n small s.1 u.1 h.1 a b in (
      length-append (record_bytes x) (rows xs) ∙ ap (λ (k : ℕ). k + length (rows xs)) (ap (λ (z : List ℕ). length (record_bytes z)) h.0) ∙ ap (λ (k : ℕ). length (record_bytes y) + k) rest.0
          ∙ sym (length-append (record_bytes y) (rows ys)),
      rest.1,
    )

pub Sizes-append : (least limit : ℕ) (xs ys : List (List ℕ)) → Sizes least limit xs → Sizes least limit ys → Sizes least limit (xs ++ ys)
Sizes-append least limit [] ys s t = t
Sizes-append least limit (x ∷ xs) ys s t = (s.0, Sizes-append least limit xs ys s.1 t)

pub rows_more : (bodies : List (List ℕ)) (body : List ℕ) → rows (bodies ++ body ∷ []) ≡ rows bodies ++ record_bytes body
rows_more bodies body = flat_map-append record_bytes bodies (body ∷ []) ∙ ap (λ x. rows bodies ++ x) (append-nil (record_bytes body))

-- a row grows by a record at its end
pub row_more : (least limit : ℕ) (bytes : List ℕ) (bodies : List (List ℕ)) (body : List ℕ) → IsRow least limit bytes bodies → IsSize least limit (length body)
    → IsRow least limit (bytes ++ record_bytes body) (bodies ++ body ∷ [])
row_more least limit bytes bodies body r s =
    record { whole = ap (λ x. x ++ record_bytes body) r.whole ∙ sym (rows_more bodies body); sizes = Sizes-append least limit bodies (body ∷ []) r.sizes (s, tt) }

-- a record behind a row makes a longer row
pub row_next : (least limit : ℕ) (bytes : List ℕ) (place : ℕ) (bodies bodies' : List (List ℕ)) (body copy : List ℕ) → place ≤ length bytes → IsRow least limit (take place bytes) bodies
    → HasRecord least limit (take (length bytes - place) (drop place bytes)) 0 body → copy ≡ body → bodies' ≡ bodies ++ copy ∷ []
    → (place + (4 + length body) ≤ length bytes) × IsRow least limit (take (place + (4 + length body)) bytes) bodies'
row_next least limit bytes place bodies bodies' body copy inside row r same new =
    let nothing : r.front ≡ [] = nil_from_length r.front (sym r.here) in
    let rest : drop place bytes ≡ record_bytes body ++ r.back
    = sym (take_rest bytes place) ∙ r.whole ∙ ap (λ (x : List ℕ). (x ++ record_bytes body) ++ r.back) nothing in
    let whole : bytes ≡ (take place bytes ++ record_bytes body) ++ r.back
    = sym (take-append-drop place bytes) ∙ ap (λ (x : List ℕ). take place bytes ++ x) rest ∙ sym (append_assoc (take place bytes) (record_bytes body) r.back) in
    let front : length (take place bytes ++ record_bytes body) ≡ place + (4 + length body)
    = omega (arith, length-append (take place bytes) (record_bytes body), length-record body, length-take place bytes) in
    let head : take (place + (4 + length body)) bytes ≡ take place bytes ++ record_bytes body
    = ap (take (place + (4 + length body))) whole ∙ take_at (take place bytes ++ record_bytes body) r.back (place + (4 + length body)) front in
    let all : bodies' ≡ bodies ++ body ∷ [] = new ∙ ap (λ (x : List ℕ). bodies ++ x ∷ []) same in (
      omega (arith, front, ap length whole, length-append (take place bytes ++ record_bytes body) r.back),
      subst (λ (bs : List (List ℕ)). IsRow least limit (take (place + (4 + length body)) bytes) bs) (sym all)
          (subst (λ (x : List ℕ). IsRow least limit x (bodies ++ body ∷ [])) (sym head) (row_more least limit (take place bytes) bodies body row r.size)),
    )
