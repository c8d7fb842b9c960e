-- Names, numbers and ids can be told, and words say a heading or nothing.
use Rattle.std.proofs.Common.{◌≡◌, ◌≢◌, ℕ, ◌<◌, ◌≤◌, true, false, ℤ, pos, List, [], ◌∷◌, length, codes, refl, sym, ap, subst, arith, inl, inr}
use Rattle.std.specs.Prelude.{◌⊎◌, Bool, if◌then◌else◌, neg_ℤ}
use Rattle.std.specs.Bool.{Decides}
use Rattle.std.specs.List.{AllPass, list_all}
use Rattle.std.specs.Char.{digit_value}
use Rattle.std.specs.Str.Parse.{AllDigits, digits_value, starts_with_minus}
use Rattle.std.proofs.lemmas.Bool.{cases_lt}
use Rattle.std.proofs.lemmas.Bool.Decides.{not_from_Decides, Decides-eqb}
use Rattle.std.proofs.lemmas.List.Sums.{AllPass-from_list_all, list_all-from_AllPass}
use Rattle.std.proofs.lemmas.Slice.Eq.{bytes_eq-Decides}
use Rattle.nsq_base.specs.Name.{IsName, is_name_byte, stem}
use Rattle.v2_frame.specs.Line.{without_minus, is_id_byte, IsNumber, IsIdWord}
use Rattle.v2_frame.specs.Heading.{Heading, Identify, Sub, Pub, Mpub, Dpub, Rdy, Fin, Req, Touch, Cls, Nop, Says, SaysNothing, IsWellNamed, HasBadTopic, HasBadChannel}

-- it holds, or it doesn't
abbrev pub Told : Type 0 → Type 0
Told P = P ⊎ (P → ⊥)

both : {P Q : Type 0} → Told P → Told Q → Told (P × Q)
both (inl p) (inl q) = inl (p, q)
both (inl p) (inr n) = inr (λ h. n h.1)
both (inr n) q = inr (λ h. n h.0)

told : {P : Type 0} (r : Bool) → Decides r P → Told P
told true d = inl (d.0 refl)
told false d = inr (not_from_Decides false d refl)

-- two texts are one, or they aren't
pub same : (xs ys : List ℕ) → Told (xs ≡ ys)
same xs ys = told _ (bytes_eq-Decides xs ys)

below : (m n : ℕ) → Told (m < n)
below m n = by (cases_lt m n)
  where
    by : (m < n) ⊎ (n ≤ m) → Told (m < n)
    by (inl lt) = inl lt
    by (inr le) = inr (λ lt. omega arith)

some : (xs : List ℕ) → Told (xs ≢ [])
some [] = inr (λ n. n refl)
some (x ∷ xs) = inl (λ e. cc)

all_pass : (p : ℕ → Bool) (xs : List ℕ) → Told (AllPass p xs)
all_pass p xs = by (list_all p xs) refl
  where
    by : (t : Bool) → list_all p xs ≡ t → Told (AllPass p xs)
    by true e = inl (AllPass-from_list_all p xs e)
    by false e = inr (λ all. let whole : list_all p xs ≡ true = list_all-from_AllPass p xs all in cc)

name : (text : List ℕ) → Told (IsName text)
name text = by (below 0 (length (stem text))) (all_pass is_name_byte (stem text)) (below (length text) 65)
  where
    by : Told (0 < length (stem text)) → Told (AllPass is_name_byte (stem text)) → Told (length text < 65) → Told (IsName text)
    by (inl a) (inl b) (inl c) = inl (record { not_empty = a; allowed = b; short = omega arith })
    by (inl a) (inl b) (inr n) = inr (λ h. n (omega (arith, h.short)))
    by (inl a) (inr n) _ = inr (λ h. n h.allowed)
    by (inr n) _ _ = inr (λ h. n h.not_empty)

digits : (cs : List ℕ) → Told (AllDigits 10 cs)
digits [] = inl tt
digits (c ∷ cs) = both (below (digit_value c) 10) (digits cs)

number : (word : List ℕ) → Told ((z : ℤ) × IsNumber word z)
number word = by (below 0 (length (without_minus word))) (digits (without_minus word)) (below (length (without_minus word)) 19)
  where
    by : Told (0 < length (without_minus word)) → Told (AllDigits 10 (without_minus word)) → Told (length (without_minus word) < 19) → Told ((z : ℤ) × IsNumber word z)
    by (inl a) (inl b) (inl c) =
        let size = digits_value 10 (without_minus word) in
        inl (if starts_with_minus word then neg_ℤ (pos size) else pos size, record { size = size; digits = record { numeral = (a, b); bound = omega arith; value = refl }; value = refl })
    by (inl a) (inl b) (inr n) = inr (λ h. n (omega (arith, h.1.digits.bound)))
    by (inl a) (inr n) _ = inr (λ h. n h.1.digits.numeral.1)
    by (inr n) _ _ = inr (λ h. n h.1.digits.numeral.0)

id_word : (word : List ℕ) → Told (IsIdWord word)
id_word word = by (told _ (Decides-eqb (length word) 16)) (all_pass is_id_byte word)
  where
    by : Told (length word ≡ 16) → Told (AllPass is_id_byte word) → Told (IsIdWord word)
    by (inl a) (inl b) = inl (record { long = a; allowed = b })
    by (inl a) (inr n) = inr (λ h. n h.allowed)
    by (inr n) _ = inr (λ h. n h.long)

-- words say a heading, or nothing
abbrev Saying : List (List ℕ) → Type 0
Saying words = ((heading : Heading) × Says words heading) ⊎ SaysNothing words

-- what is said takes one word at least, and three at most
says_long : (words : List (List ℕ)) (heading : Heading) → Says words heading → (0 < length words) × (length words ≤ 3)
says_long words Identify s = (omega (arith, ap length s), omega (arith, ap length s))
says_long words (Sub topic channel) s = (omega (arith, ap length s.0), omega (arith, ap length s.0))
says_long words (Pub topic) s = (omega (arith, ap length s.0), omega (arith, ap length s.0))
says_long words (Mpub topic) s = (omega (arith, ap length s.0), omega (arith, ap length s.0))
says_long words (Dpub topic delay) s = (omega (arith, ap length s.1), omega (arith, ap length s.1))
says_long words (Rdy count) (inl s) = (omega (arith, ap length s.0), omega (arith, ap length s.0))
says_long words (Rdy count) (inr s) = (omega (arith, ap length s.1), omega (arith, ap length s.1))
says_long words (Fin id) s = (omega (arith, ap length s.0), omega (arith, ap length s.0))
says_long words (Req id delay) s = (omega (arith, ap length s.1), omega (arith, ap length s.1))
says_long words (Touch id) s = (omega (arith, ap length s.0), omega (arith, ap length s.0))
says_long words Cls s = (omega (arith, ap length s), omega (arith, ap length s))
says_long words Nop s = (omega (arith, ap length s), omega (arith, ap length s))

one_of : {a b : List ℕ} → a ∷ [] ≡ b ∷ [] → a ≡ b
one_of e = cc

two_of : {a b c d : List ℕ} → a ∷ b ∷ [] ≡ c ∷ d ∷ [] → (a ≡ c) × (b ≡ d)
two_of e = (cc, cc)

three_of : {a b c d e f : List ℕ} → a ∷ b ∷ c ∷ [] ≡ d ∷ e ∷ f ∷ [] → (a ≡ d) × (b ≡ e) × (c ≡ f)
three_of e = (cc, cc, cc)

-- one word
module _ (a : List ℕ) where
  one_not : a ≢ codes "IDENTIFY" → a ≢ codes "RDY" → a ≢ codes "CLS" → a ≢ codes "NOP" → (heading : Heading) → Says (a ∷ []) heading → ⊥
  one_not i r c n Identify s = i (one_of s)
  one_not i r c n (Sub topic channel) s = omega (arith, ap length s.0)
  one_not i r c n (Pub topic) s = omega (arith, ap length s.0)
  one_not i r c n (Mpub topic) s = omega (arith, ap length s.0)
  one_not i r c n (Dpub topic delay) s = omega (arith, ap length s.1)
  one_not i r c n (Rdy count) (inl s) = r (one_of s.0)
  one_not i r c n (Rdy count) (inr s) = omega (arith, ap length s.1)
  one_not i r c n (Fin id) s = omega (arith, ap length s.0)
  one_not i r c n (Req id delay) s = omega (arith, ap length s.1)
  one_not i r c n (Touch id) s = omega (arith, ap length s.0)
  one_not i r c n Cls s = c (one_of s)
  one_not i r c n Nop s = n (one_of s)

  one_word : Told (a ≡ codes "IDENTIFY") → Told (a ≡ codes "RDY") → Told (a ≡ codes "CLS") → Told (a ≡ codes "NOP") → Saying (a ∷ [])
  one_word (inl e) _ _ _ = inl (Identify, ap (λ (x : List ℕ). x ∷ []) e)
  one_word (inr i) (inl e) _ _ = inl (Rdy (pos 1), inl (ap (λ (x : List ℕ). x ∷ []) e, refl))
  one_word (inr i) (inr r) (inl e) _ = inl (Cls, ap (λ (x : List ℕ). x ∷ []) e)
  one_word (inr i) (inr r) (inr c) (inl e) = inl (Nop, ap (λ (x : List ℕ). x ∷ []) e)
  one_word (inr i) (inr r) (inr c) (inr n) = inr (λ heading s. one_not i r c n heading s)

-- two words
module _ (a b : List ℕ) where
  two_not : ((a ≡ codes "PUB") × (b ≢ []) → ⊥) → ((a ≡ codes "MPUB") × (b ≢ []) → ⊥) → ((a ≡ codes "RDY") × ((z : ℤ) × IsNumber b z) → ⊥) → ((a ≡ codes "FIN") × IsIdWord b → ⊥) → ((a ≡ codes "TOUCH") × IsIdWord b → ⊥)
      → (heading : Heading) → Says (a ∷ b ∷ []) heading → ⊥
  two_not p m r f t Identify s = omega (arith, ap length s)
  two_not p m r f t (Sub topic channel) s = omega (arith, ap length s.0)
  two_not p m r f t (Pub topic) s = let e = two_of s.0 in p (e.0, subst (λ (x : List ℕ). x ≢ []) (sym e.1) s.1)
  two_not p m r f t (Mpub topic) s = let e = two_of s.0 in m (e.0, subst (λ (x : List ℕ). x ≢ []) (sym e.1) s.1)
  two_not p m r f t (Dpub topic delay) s = omega (arith, ap length s.1)
  two_not p m r f t (Rdy count) (inl s) = omega (arith, ap length s.0)
  two_not p m r f t (Rdy count) (inr s) = let e = two_of s.1 in r (e.0, (count, subst (λ (x : List ℕ). IsNumber x count) (sym e.1) s.2))
  two_not p m r f t (Fin id) s = let e = two_of s.0 in f (e.0, subst IsIdWord (sym e.1) s.1)
  two_not p m r f t (Req id delay) s = omega (arith, ap length s.1)
  two_not p m r f t (Touch id) s = let e = two_of s.0 in t (e.0, subst IsIdWord (sym e.1) s.1)
  two_not p m r f t Cls s = omega (arith, ap length s)
  two_not p m r f t Nop s = omega (arith, ap length s)

  two_words : Told ((a ≡ codes "PUB") × (b ≢ [])) → Told ((a ≡ codes "MPUB") × (b ≢ [])) → Told ((a ≡ codes "RDY") × ((z : ℤ) × IsNumber b z)) → Told ((a ≡ codes "FIN") × IsIdWord b) → Told ((a ≡ codes "TOUCH") × IsIdWord b) → Saying (a ∷ b ∷ [])
  two_words (inl h) _ _ _ _ = inl (Pub b, (ap (λ (x : List ℕ). x ∷ b ∷ []) h.0, h.1))
  two_words (inr p) (inl h) _ _ _ = inl (Mpub b, (ap (λ (x : List ℕ). x ∷ b ∷ []) h.0, h.1))
  two_words (inr p) (inr m) (inl h) _ _ = inl (Rdy h.1.0, inr (b, ap (λ (x : List ℕ). x ∷ b ∷ []) h.0, h.1.1))
  two_words (inr p) (inr m) (inr r) (inl h) _ = inl (Fin b, (ap (λ (x : List ℕ). x ∷ b ∷ []) h.0, h.1))
  two_words (inr p) (inr m) (inr r) (inr f) (inl h) = inl (Touch b, (ap (λ (x : List ℕ). x ∷ b ∷ []) h.0, h.1))
  two_words (inr p) (inr m) (inr r) (inr f) (inr t) = inr (λ heading s. two_not p m r f t heading s)

-- three words
module _ (a b c : List ℕ) where
  three_not : ((a ≡ codes "SUB") × ((b ≢ []) × (c ≢ [])) → ⊥) → ((a ≡ codes "DPUB") × ((b ≢ []) × ((z : ℤ) × IsNumber c z)) → ⊥) → ((a ≡ codes "REQ") × (IsIdWord b × ((z : ℤ) × IsNumber c z)) → ⊥)
      → (heading : Heading) → Says (a ∷ b ∷ c ∷ []) heading → ⊥
  three_not u d q Identify s = omega (arith, ap length s)
  three_not u d q (Sub topic channel) s = let e = three_of s.0 in u (e.0, (subst (λ (x : List ℕ). x ≢ []) (sym e.1) s.1, subst (λ (x : List ℕ). x ≢ []) (sym e.2) s.2))
  three_not u d q (Pub topic) s = omega (arith, ap length s.0)
  three_not u d q (Mpub topic) s = omega (arith, ap length s.0)
  three_not u d q (Dpub topic delay) s = let e = three_of s.1 in d (e.0, (subst (λ (x : List ℕ). x ≢ []) (sym e.1) s.2, (delay, subst (λ (x : List ℕ). IsNumber x delay) (sym e.2) s.3)))
  three_not u d q (Rdy count) (inl s) = omega (arith, ap length s.0)
  three_not u d q (Rdy count) (inr s) = omega (arith, ap length s.1)
  three_not u d q (Fin id) s = omega (arith, ap length s.0)
  three_not u d q (Req id delay) s = let e = three_of s.1 in q (e.0, (subst IsIdWord (sym e.1) s.2, (delay, subst (λ (x : List ℕ). IsNumber x delay) (sym e.2) s.3)))
  three_not u d q (Touch id) s = omega (arith, ap length s.0)
  three_not u d q Cls s = omega (arith, ap length s)
  three_not u d q Nop s = omega (arith, ap length s)

  three_words : Told ((a ≡ codes "SUB") × ((b ≢ []) × (c ≢ []))) → Told ((a ≡ codes "DPUB") × ((b ≢ []) × ((z : ℤ) × IsNumber c z))) → Told ((a ≡ codes "REQ") × (IsIdWord b × ((z : ℤ) × IsNumber c z))) → Saying (a ∷ b ∷ c ∷ [])
  three_words (inl h) _ _ = inl (Sub b c, (ap (λ (x : List ℕ). x ∷ b ∷ c ∷ []) h.0, h.1.0, h.1.1))
  three_words (inr u) (inl h) _ = inl (Dpub b h.1.1.0, (c, ap (λ (x : List ℕ). x ∷ b ∷ c ∷ []) h.0, h.1.0, h.1.1.1))
  three_words (inr u) (inr d) (inl h) = inl (Req b h.1.1.0, (c, ap (λ (x : List ℕ). x ∷ b ∷ c ∷ []) h.0, h.1.0, h.1.1.1))
  three_words (inr u) (inr d) (inr q) = inr (λ heading s. three_not u d q heading s)

pub saying : (words : List (List ℕ)) → Saying words
saying [] = inr (λ heading s. omega (arith, (says_long [] heading s).0))
saying (a ∷ []) = one_word a (same a (codes "IDENTIFY")) (same a (codes "RDY")) (same a (codes "CLS")) (same a (codes "NOP"))
saying (a ∷ b ∷ []) =
    two_words a b (both (same a (codes "PUB")) (some b)) (both (same a (codes "MPUB")) (some b)) (both (same a (codes "RDY")) (number b)) (both (same a (codes "FIN")) (id_word b)) (both (same a (codes "TOUCH")) (id_word b))
saying (a ∷ b ∷ c ∷ []) = three_words a b c (both (same a (codes "SUB")) (both (some b) (some c))) (both (same a (codes "DPUB")) (both (some b) (number c))) (both (same a (codes "REQ")) (both (id_word b) (number c)))
saying (a ∷ b ∷ c ∷ d ∷ more) = inr (λ heading s. omega (arith, (says_long (a ∷ b ∷ c ∷ d ∷ more) heading s).1))

-- a heading has good names, a bad topic, or a bad channel
topic_named : {C : Type 0} {topic : List ℕ} → Told (IsName topic) → IsName topic ⊎ ((IsName topic → ⊥) ⊎ C)
topic_named (inl h) = inl h
topic_named (inr n) = inr (inl n)

pub naming : (heading : Heading) → IsWellNamed heading ⊎ (HasBadTopic heading ⊎ HasBadChannel heading)
naming (Sub topic channel) = by (name topic) (name channel)
  where
    by : Told (IsName topic) → Told (IsName channel) → (IsName topic × IsName channel) ⊎ ((IsName topic → ⊥) ⊎ (IsName topic × (IsName channel → ⊥)))
    by (inl h) (inl k) = inl (h, k)
    by (inl h) (inr n) = inr (inr (h, n))
    by (inr n) _ = inr (inl n)
naming (Pub topic) = topic_named (name topic)
naming (Mpub topic) = topic_named (name topic)
naming (Dpub topic delay) = topic_named (name topic)
naming _ = inl tt
