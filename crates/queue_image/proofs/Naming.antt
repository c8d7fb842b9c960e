-- The names of queue files are told apart by their endings.
use Rattle.std.proofs.Common.{◌≡◌, ◌≢◌, Option, Some, None, Bool, true, false, cond, ◌==◌, lit<, take, drop, take-append-drop, ℕ, ◌-◌, ◌^◌, ◌<◌, ◌≤◌, ◌⊎◌, List, [], ◌∷◌, ◌++◌, length, replicate, codes, refl, sym, ◌∙◌, ap, subst, inl, inr, arith, append_assoc, length-append, zero, suc}
use Rattle.std.proofs.lemmas.List.{append-nil, length-replicate, take_at, drop_at, append_cancel_left, append_cancel_right, same_from_push}
use Rattle.std.proofs.lemmas.Fmt.{decimal_is_IsNumeral_wide}
use Rattle.std.proofs.lemmas.Str.Parse.{digit_from_value}
use Rattle.std.specs.Fmt.{decimal, format_spec, styled_decimal, padded_integral, char_count}
use Rattle.std.specs.Option.{SomeIff}
use Rattle.std.specs.Str.{bytes_eq}
use Rattle.std.proofs.lemmas.Bool.{eqb-false}
use Rattle.std.proofs.lemmas.List.Elements.{recursion_from_All}
use Rattle.std.proofs.lemmas.Slice.Eq.{bytes_eq-Decides}
use Rattle.std.specs.List.{AllByRecursion, AllPass}
use Rattle.nsq_core.specs.Name.{IsName, is_name_byte, is_ephemeral, ephemeral_suffix}
use Rattle.std.specs.Str.Parse.{IsNumeral, AllDigits, digits_value}
use Rattle.queue_image.specs.FileNames.{file_digits, data_file, meta_file, meta_temp, set_aside, channel_queue, IsOwnFile, IsFileOf}
use Rattle.queue_image.specs.FileNames.IsOwnFile.{numbered, metadata, written}
use Rattle.queue_image.specs.FileNames.IsFileOf.{own, aside}

-- a byte that stands nowhere in the list
abbrev pub Lacks : ℕ → List ℕ → Type 0
Lacks c xs = AllByRecursion (λ x. x ≢ c) xs

pub Lacks-append : (c : ℕ) (xs ys : List ℕ) → Lacks c xs → Lacks c ys → Lacks c (xs ++ ys)
Lacks-append c [] ys p q = q
Lacks-append c (x ∷ xs) ys p q = (p.0, Lacks-append c xs ys p.1 q)

not_lacked : (c : ℕ) (xs ys : List ℕ) → Lacks c (xs ++ c ∷ ys) → ⊥
not_lacked c [] ys p = p.0 refl
not_lacked c (x ∷ xs) ys p = not_lacked c xs ys p.1

-- what stands before the last such byte
pub before_last_one : (c : ℕ) (xs ys s t : List ℕ) → Lacks c s → Lacks c t → xs ++ c ∷ s ≡ ys ++ c ∷ t → xs ≡ ys
before_last_one c [] [] s t p q e = refl
before_last_one c [] (y ∷ ys) s t p q e = let tails : s ≡ ys ++ c ∷ t = cc in absurd (not_lacked c ys t (subst (λ (z : List ℕ). Lacks c z) tails p))
before_last_one c (x ∷ xs) [] s t p q e = let tails : t ≡ xs ++ c ∷ s = cc in absurd (not_lacked c xs s (subst (λ (z : List ℕ). Lacks c z) tails q))
before_last_one c (x ∷ xs) (y ∷ ys) s t p q e =
    let heads : x ≡ y = cc in
    let tails : xs ++ c ∷ s ≡ ys ++ c ∷ t = cc in
    ap (λ (z : ℕ). z ∷ xs) heads ∙ ap (λ (zs : List ℕ). y ∷ zs) (before_last_one c xs ys s t p q tails)

-- what stands before the first one, and behind it
pub around_first_one : (c : ℕ) (xs ys s t : List ℕ) → Lacks c xs → Lacks c ys → xs ++ c ∷ s ≡ ys ++ c ∷ t → (xs ≡ ys) × (s ≡ t)
around_first_one c [] [] s t p q e = (refl, cc)
around_first_one c [] (y ∷ ys) s t p q e = let heads : y ≡ c = cc in absurd (q.0 heads)
around_first_one c (x ∷ xs) [] s t p q e = let heads : x ≡ c = cc in absurd (p.0 heads)
around_first_one c (x ∷ xs) (y ∷ ys) s t p q e =
    let heads : x ≡ y = cc in
    let tails : xs ++ c ∷ s ≡ ys ++ c ∷ t = cc in
    let rest = around_first_one c xs ys s t p.1 q.1 tails in
    (ap (λ (z : ℕ). z ∷ xs) heads ∙ ap (λ (zs : List ℕ). y ∷ zs) rest.0, rest.1)

-- decimal digits are below `:`, so no letter and no separator is among them
pub Lacks-digits : (c : ℕ) (ds : List ℕ) → (c < 48) ⊎ (57 < c) → AllDigits 10 ds → Lacks c ds
Lacks-digits c [] out p = tt
Lacks-digits c (d ∷ ds) out p =
    let low = digit_from_value d p.0 in
    (λ e. elim out [ inl lt ↦ omega (arith, low, e) | inr gt ↦ omega (arith, low, e) ], Lacks-digits c ds out p.1)

Lacks-zeros : (c n : ℕ) → 48 ≢ c → Lacks c (replicate n 48)
Lacks-zeros c zero apart = tt
Lacks-zeros c (suc n) apart = (apart, Lacks-zeros c n apart)

pub decimal_digits : (n : ℕ) → n < 2 ^ 64 → AllDigits 10 (decimal n)
decimal_digits n small = (decimal_is_IsNumeral_wide n (omega arith)).0.1

Lacks-file_digits : (n : ℕ) → n < 2 ^ 64 → Lacks 113 (file_digits n)
Lacks-file_digits n small =
    Lacks-append 113 (replicate (6 - length (decimal n)) 48) (decimal n) (Lacks-zeros 113 (6 - length (decimal n)) (λ e. omega (arith, e)))
    (Lacks-digits 113 (decimal n) (inr (lit< tt)) (decimal_digits n small))

-- the test that a list written out lacks a byte
lacks : ℕ → List ℕ → Bool
lacks c [] = true
lacks c (x ∷ xs) = cond (x == c) false (lacks c xs)

Lacks-test : (c : ℕ) (xs : List ℕ) → lacks c xs ≡ true → Lacks c xs
unfolding lacks
Lacks-test c [] e = tt
Lacks-test c (x ∷ xs) e = step (x == c) refl e (λ h. Lacks-test c xs h)
  where
    step : (b : Bool) → (x == c) ≡ b → cond b false (lacks c xs) ≡ true → (lacks c xs ≡ true → Lacks c xs) → Lacks c (x ∷ xs)
    step true t h rest = cc
    step false t h rest = (eqb-false x c t, rest h)

-- a queue's file is its name, then `.disk`, then `q` and bytes without `q`
pub record IsMarked (name file : List ℕ) : Type 0 where
  pub tail : List ℕ
  pub lacks_mark : Lacks 113 tail
  pub whole : file ≡ (name ++ codes ".disk") ++ 113 ∷ tail

own_marked : (name file : List ℕ) → IsOwnFile name file → IsMarked name file
unfolding lacks
own_marked name file (numbered n small e) = record {
  tail = codes "ueue." ++ file_digits n ++ codes ".dat";
  lacks_mark = Lacks-append 113 (codes "ueue." ++ file_digits n) (codes ".dat")
      (Lacks-append 113 (codes "ueue.") (file_digits n) (Lacks-test 113 (codes "ueue.") refl) (Lacks-file_digits n small)) (Lacks-test 113 (codes ".dat") refl);
  whole = e ∙ simp append_assoc;
}
own_marked name file (metadata e) = record { tail = codes "ueue.meta.dat"; lacks_mark = Lacks-test 113 (codes "ueue.meta.dat") refl; whole = e ∙ simp append_assoc }
own_marked name file (written e) = record { tail = codes "ueue.meta.dat.tmp"; lacks_mark = Lacks-test 113 (codes "ueue.meta.dat.tmp") refl; whole = e ∙ simp append_assoc }

marked : (name file : List ℕ) → IsFileOf name file → IsMarked name file
unfolding lacks
marked name file (own o) = own_marked name file o
marked name file (aside bad o e) =
    let m = own_marked name bad o in
    record {
      tail = m.tail ++ codes ".bad";
      lacks_mark = Lacks-append 113 m.tail (codes ".bad") m.lacks_mark (Lacks-test 113 (codes ".bad") refl);
      whole = e ∙ ap (λ (x : List ℕ). x ++ codes ".bad") m.whole ∙ append_assoc (name ++ codes ".disk") (113 ∷ m.tail) (codes ".bad");
    }

-- no file belongs to two queues
pub one_queue : (a b file : List ℕ) → IsFileOf a file → IsFileOf b file → a ≡ b
one_queue a b file x y =
    let m = marked a file x in
    let n = marked b file y in
    append_cancel_right a b (codes ".disk") (before_last_one 113 (a ++ codes ".disk") (b ++ codes ".disk") m.tail n.tail m.lacks_mark n.lacks_mark (sym m.whole ∙ n.whole))

-- zeros in front of digits add nothing to their number
digits_value-zeros : (k : ℕ) (ds : List ℕ) → digits_value 10 (replicate k 48 ++ ds) ≡ digits_value 10 ds
digits_value-zeros zero ds = refl
digits_value-zeros (suc k) ds = digits_value-zeros k ds

pub digits_value-file_digits : (n : ℕ) → n < 2 ^ 64 → digits_value 10 (file_digits n) ≡ n
digits_value-file_digits n small = digits_value-zeros (6 - length (decimal n)) (decimal n) ∙ (decimal_is_IsNumeral_wide n (omega arith)).1

-- data files of two numbers have two names
pub one_number : (name : List ℕ) (m n : ℕ) → m < 2 ^ 64 → n < 2 ^ 64 → data_file name m ≡ data_file name n → m ≡ n
one_number name m n small small' e =
    let front = name ++ codes ".diskqueue." in
    let same : file_digits m ≡ file_digits n = append_cancel_left front (file_digits m) (file_digits n) (append_cancel_right (front ++ file_digits m) (front ++ file_digits n) (codes ".dat") e) in
    sym (digits_value-file_digits m small) ∙ ap (digits_value 10) same ∙ digits_value-file_digits n small'

-- a name with an `m` behind the queue's mark is no data file
not_numbered : (name rest : List ℕ) (n : ℕ) → n < 2 ^ 64 → name ++ codes ".diskqueue." ++ 109 ∷ rest ≢ data_file name n
unfolding lacks
not_numbered name rest n small e =
    let front = name ++ codes ".diskqueue." in
    let same : 109 ∷ rest ≡ file_digits n ++ codes ".dat" = append_cancel_left front (109 ∷ rest) (file_digits n ++ codes ".dat") (e ∙ append_assoc front (file_digits n) (codes ".dat")) in
    let lacked : Lacks 109 (file_digits n ++ codes ".dat")
    = Lacks-append 109 (file_digits n) (codes ".dat")
    (Lacks-append 109 (replicate (6 - length (decimal n)) 48) (decimal n) (Lacks-zeros 109 (6 - length (decimal n)) (λ h. omega (arith, h)))
    (Lacks-digits 109 (decimal n) (inr (lit< tt)) (decimal_digits n small)))
    (Lacks-test 109 (codes ".dat") refl) in
    let none : Lacks 109 (109 ∷ rest) = subst (λ (z : List ℕ). Lacks 109 z) (sym same) lacked in
    none.0 refl

pub metadata_apart : (name : List ℕ) (n : ℕ) → n < 2 ^ 64 → (meta_file name ≢ data_file name n) × (meta_temp name ≢ data_file name n) × (meta_temp name ≢ meta_file name)
metadata_apart name n small = (
  λ e. not_numbered name (codes "eta.dat") n small ((simp append_assoc) ∙ e),
  λ e. not_numbered name (codes "eta.dat.tmp") n small ((simp append_assoc) ∙ e),
  λ e. omega (arith, ap length e, length-append (meta_file name) (codes ".tmp")),
)

-- lists that are the same end with the same byte
same_end : (x y p q : List ℕ) (c d : ℕ) → x ++ (p ++ c ∷ []) ≡ y ++ (q ++ d ∷ []) → c ≡ d
same_end x y p q c d e = (same_from_push (x ++ p) (y ++ q) c d (append_assoc x p (c ∷ []) ∙ e ∙ sym (append_assoc y q (d ∷ [])))).1

pub aside_apart : (a b file : List ℕ) → IsOwnFile a file → file ≢ set_aside b
aside_apart a b file (numbered n small e) h =
    let ends : 116 ≡ 100 = same_end (a ++ codes ".diskqueue." ++ file_digits n) b (codes ".da") (codes ".ba") 116 100 (sym e ∙ h) in omega (arith, ends)
aside_apart a b file (metadata e) h =
    let ends : 116 ≡ 100 = same_end a b (codes ".diskqueue.meta.da") (codes ".ba") 116 100 (sym e ∙ h) in omega (arith, ends)
aside_apart a b file (written e) h =
    let ends : 112 ≡ 100 = same_end (meta_file a) b (codes ".tm") (codes ".ba") 112 100 (sym e ∙ h) in omega (arith, ends)

-- a number has six digits at least
six_digits : (n : ℕ) → 6 ≤ length (file_digits n)
six_digits n = omega (arith, length-append (replicate (6 - length (decimal n)) 48) (decimal n), length-replicate {A = ℕ} (6 - length (decimal n)) 48)

own_is_long : (name file : List ℕ) → IsOwnFile name file → 19 ≤ length file
own_is_long name file (numbered n small e) =
    let front = name ++ codes ".diskqueue." in
    omega (arith, ap length e, length-append (front ++ file_digits n) (codes ".dat"), length-append front (file_digits n), length-append name (codes ".diskqueue."), six_digits n)
own_is_long name file (metadata e) = omega (arith, ap length e, length-append name (codes ".diskqueue.meta.dat"))
own_is_long name file (written e) = omega (arith, ap length e, length-append (meta_file name) (codes ".tmp"), length-append name (codes ".diskqueue.meta.dat"))

pub long_name : (name file : List ℕ) → IsFileOf name file → 19 ≤ length file
long_name name file (own o) = own_is_long name file o
long_name name file (aside bad o e) = omega (arith, ap length e, length-append bad (codes ".bad"), own_is_long name bad o)

-- a name has no `:`
name_lacks_colon : (name : List ℕ) → IsName name → Lacks 58 name
unfolding lacks
name_lacks_colon name h = go (is_ephemeral name) refl h.allowed
  where
    all_lack : (xs : List ℕ) → AllPass is_name_byte xs → Lacks 58 xs
    all_lack xs p = AllByRecursion-map xs (recursion_from_All (λ x. is_name_byte x ≡ true) xs p)
      where
        AllByRecursion-map : (xs : List ℕ) → AllByRecursion (λ x. is_name_byte x ≡ true) xs → Lacks 58 xs
        AllByRecursion-map [] p = tt
        AllByRecursion-map (x ∷ xs) p = (λ e. let h : is_name_byte 58 ≡ true = subst (λ (z : ℕ). is_name_byte z ≡ true) e p.0 in cc, AllByRecursion-map xs p.1)

    go : (b : Bool) → is_ephemeral name ≡ b → AllPass is_name_byte (cond b (take (length name - length ephemeral_suffix) name) name) → Lacks 58 name
    go false e p = all_lack name p
    go true e p =
        let n = length name - length ephemeral_suffix in
        let ends : ephemeral_suffix ≡ drop n name = (bytes_eq-Decides ephemeral_suffix (drop n name)).0 e in
        subst (λ (z : List ℕ). Lacks 58 z) (take-append-drop n name)
        (Lacks-append 58 (take n name) (drop n name) (all_lack (take n name) p) (subst (λ (z : List ℕ). Lacks 58 z) ends (Lacks-test 58 ephemeral_suffix refl)))

pub one_channel : (topic channel topic' channel' : List ℕ) → IsName topic → IsName topic' → channel_queue topic channel ≡ channel_queue topic' channel' → (topic ≡ topic') × (channel ≡ channel')
one_channel topic channel topic' channel' p q e = around_first_one 58 topic topic' channel channel' (name_lacks_colon topic p) (name_lacks_colon topic' q) e

pub no_channel : (name topic channel : List ℕ) → IsName name → name ≢ channel_queue topic channel
no_channel name topic channel p e = not_lacked 58 topic channel (subst (λ (z : List ℕ). Lacks 58 z) e (name_lacks_colon name p))

-- a number's digits under the width of six, with zeros
pub six_wide : (n : ℕ) → styled_decimal (format_spec 32 0 4 6 (2 ^ 64 - 1)) n ≡ file_digits n
unfolding padded_integral char_count
six_wide n =
    let plain : 6 - length (decimal n) - 0 - 0 ≡ 6 - length (decimal n) = omega arith in
    ap (λ (k : ℕ). replicate k 48 ++ (decimal n ++ [])) plain
    ∙ ap (λ (ds : List ℕ). replicate (6 - length (decimal n)) 48 ++ ds) (append-nil (decimal n))

-- the name of a data file, as it is put together from the front
pub data_file-parts : (name : List ℕ) (n : ℕ) → data_file name n ≡ name ++ (codes ".diskqueue." ++ (file_digits n ++ codes ".dat"))
data_file-parts name n = append_assoc (name ++ codes ".diskqueue.") (file_digits n) (codes ".dat") ∙ append_assoc name (codes ".diskqueue.") (file_digits n ++ codes ".dat")

-- the digits of a file's number are a numeral
pub numeral-file_digits : (n : ℕ) → n < 2 ^ 64 → IsNumeral 10 (file_digits n)
numeral-file_digits n small =
    let h = (decimal_is_IsNumeral_wide n (omega arith)).0 in
    (omega (arith, h.0, length-append (replicate (6 - length (decimal n)) 48) (decimal n)), zeros (6 - length (decimal n)) h.1)
  where
    zeros : (k : ℕ) → AllDigits 10 (decimal n) → AllDigits 10 (replicate k 48 ++ decimal n)
    zeros zero p = p
    zeros (suc k) p = (lit< tt, zeros k p)

-- a list that begins with another passes the test that it does
pub begins-true : (xs ys rest : List ℕ) → xs ≡ ys ++ rest → bytes_eq (take (length ys) xs) ys ≡ true
begins-true xs ys rest e = (bytes_eq-Decides (take (length ys) xs) ys).1 (ap (take (length ys)) e ∙ take_at ys rest (length ys) refl)

-- what is left of a data file's name without the queue's, the mark and the ending
pub digits_left : (name file rest rest' digits : List ℕ) (n : ℕ) → file ≡ data_file name n → rest ≡ drop (length name) file → rest' ≡ drop 11 rest → digits ≡ take (length rest' - 4) rest' → digits ≡ file_digits n
digits_left name file rest rest' digits n e r s d =
    let marked : rest ≡ codes ".diskqueue." ++ (file_digits n ++ codes ".dat") = r ∙ ap (drop (length name)) (e ∙ data_file-parts name n) ∙ drop_at name (codes ".diskqueue." ++ (file_digits n ++ codes ".dat")) (length name) refl in
    let ended : rest' ≡ file_digits n ++ codes ".dat" = s ∙ ap (drop 11) marked in
    let count : length rest' - 4 ≡ length (file_digits n) = omega (arith, ap length ended, length-append (file_digits n) (codes ".dat")) in
    d ∙ ap (take (length rest' - 4)) ended ∙ take_at (file_digits n) (codes ".dat") (length rest' - 4) (sym count)

-- where the fact holds, the value is there
pub some_where : (o : Option ℕ) (P : Type 0) (v : ℕ) → SomeIff o P v → P → o ≡ Some v
some_where None P v h p = absurd (h p)
some_where (Some x) P v h p = ap (λ (y : ℕ). Some y) h.1
