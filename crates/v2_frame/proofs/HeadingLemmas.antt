-- One line says one heading.
use Rattle.std.proofs.Common.{◌≡◌, ℕ, ◌+◌, ◌*◌, ℤ, List, [], ◌∷◌, length, codes, get_or, refl, sym, ap, ◌∙◌, subst, arith, ⊎_elim, inl, inr}
use Rattle.v2_frame.specs.Line.{IsNumber, IsIdWord}
use Rattle.v2_frame.specs.Heading.{Heading, Identify, Sub, Pub, Mpub, Dpub, Rdy, Fin, Req, Touch, Cls, Nop, Says, SaysNothing, IsWellNamed, HasBadTopic, HasBadChannel}
use Rattle.v2_frame.specs.Command.{canonical_words}
use Rattle.v2_frame.specs.Parts.{IsNoVerb}
use Rattle.v2_frame.specs.declared.heading.Verb.TheVariants as verb

pub number_unique : {word : List ℕ} {a b : ℤ} → IsNumber word a → IsNumber word b → a ≡ b
number_unique h k = let same : h.size ≡ k.size = h.digits.value ∙ sym k.digits.value in cc

pub number_at : (v w : List ℕ) (a b : ℤ) → v ≡ w → IsNumber v a → IsNumber w b → a ≡ b
number_at v w a b e h k = number_unique (subst (λ (x : List ℕ). IsNumber x a) e h) k

-- the first two bytes of the first word tell the commands apart
code : List (List ℕ) → ℕ
code [] = 0
code (word ∷ words) = get_or word 0 0 * 256 + get_or word 1 0

key : Heading → ℕ
unfolding code
key heading = code (canonical_words heading)

says_key : (words : List (List ℕ)) (heading : Heading) → Says words heading → code words ≡ key heading
unfolding code key
says_key words Identify s = ap code s
says_key words (Sub topic channel) s = ap code s.0
says_key words (Pub topic) s = ap code s.0
says_key words (Mpub topic) s = ap code s.0
says_key words (Dpub topic delay) s = ap code s.1
says_key words (Rdy count) s = ⊎_elim (λ a. ap code a.0) (λ a. ap code a.1) s
says_key words (Fin id) s = ap code s.0
says_key words (Req id delay) s = ap code s.1
says_key words (Touch id) s = ap code s.0
says_key words Cls s = ap code s
says_key words Nop s = ap code s

same_key : (words : List (List ℕ)) (h k : Heading) → Says words h → Says words k → key h ≡ key k
same_key words h k s t = sym (says_key words h s) ∙ says_key words k t

one_word : (v w : List ℕ) → v ∷ [] ≡ v ∷ w ∷ [] → ⊥
one_word v w e = let l : length (v ∷ []) ≡ length (v ∷ w ∷ []) = ap length e in omega arith

-- RDY alone has no number
rdy_unique : (words : List (List ℕ)) (m n : ℤ) → Says words (Rdy m) → Says words (Rdy n) → m ≡ n
rdy_unique words m n (inl s) (inl t) = s.1 ∙ sym t.1
rdy_unique words m n (inl s) (inr t) = absurd (one_word (codes "RDY") t.0 (sym s.0 ∙ t.1))
rdy_unique words m n (inr s) (inl t) = absurd (one_word (codes "RDY") s.0 (sym t.0 ∙ s.1))
rdy_unique words m n (inr s) (inr t) =
    let e : s.0 ∷ [] ≡ t.0 ∷ [] = cc (s.1, t.1) in number_at s.0 t.0 m n (cc) s.2 t.2

-- words say one heading at most
pub says_unique : (words : List (List ℕ)) (h k : Heading) → Says words h → Says words k → h ≡ k
unfolding code key
says_unique words Identify Identify s t = refl
says_unique words Identify k s t = let e : key Identify ≡ key k = same_key words Identify k s t in absurd (omega arith)
says_unique words (Sub a b) (Sub c d) s t = let e : a ∷ b ∷ [] ≡ c ∷ d ∷ [] = cc in cc
says_unique words (Sub a b) k s t = let e : key (Sub a b) ≡ key k = same_key words (Sub a b) k s t in absurd (omega arith)
says_unique words (Pub a) (Pub b) s t = let e : a ∷ [] ≡ b ∷ [] = cc in cc
says_unique words (Pub a) k s t = let e : key (Pub a) ≡ key k = same_key words (Pub a) k s t in absurd (omega arith)
says_unique words (Mpub a) (Mpub b) s t = let e : a ∷ [] ≡ b ∷ [] = cc in cc
says_unique words (Mpub a) k s t = let e : key (Mpub a) ≡ key k = same_key words (Mpub a) k s t in absurd (omega arith)
says_unique words (Dpub a m) (Dpub b n) s t = let e : a ∷ s.0 ∷ [] ≡ b ∷ t.0 ∷ [] = cc (s.1, t.1) in
    let v : m ≡ n = number_at s.0 t.0 m n (cc) s.3 t.3 in cc
says_unique words (Dpub a m) k s t = let e : key (Dpub a m) ≡ key k = same_key words (Dpub a m) k s t in absurd (omega arith)
says_unique words (Rdy m) (Rdy n) s t = ap Rdy (rdy_unique words m n s t)
says_unique words (Rdy m) k s t = let e : key (Rdy m) ≡ key k = same_key words (Rdy m) k s t in absurd (omega arith)
says_unique words (Fin a) (Fin b) s t = let e : a ∷ [] ≡ b ∷ [] = cc in cc
says_unique words (Fin a) k s t = let e : key (Fin a) ≡ key k = same_key words (Fin a) k s t in absurd (omega arith)
says_unique words (Req a m) (Req b n) s t = let e : a ∷ s.0 ∷ [] ≡ b ∷ t.0 ∷ [] = cc (s.1, t.1) in
    let v : m ≡ n = number_at s.0 t.0 m n (cc) s.3 t.3 in cc
says_unique words (Req a m) k s t = let e : key (Req a m) ≡ key k = same_key words (Req a m) k s t in absurd (omega arith)
says_unique words (Touch a) (Touch b) s t = let e : a ∷ [] ≡ b ∷ [] = cc in cc
says_unique words (Touch a) k s t = let e : key (Touch a) ≡ key k = same_key words (Touch a) k s t in absurd (omega arith)
says_unique words Cls Cls s t = refl
says_unique words Cls k s t = let e : key Cls ≡ key k = same_key words Cls k s t in absurd (omega arith)
says_unique words Nop Nop s t = refl
says_unique words Nop k s t = let e : key Nop ≡ key k = same_key words Nop k s t in absurd (omega arith)

-- a good name isn't a bad one
pub not_bad_topic : (heading : Heading) → IsWellNamed heading → HasBadTopic heading → ⊥
not_bad_topic Identify named bad = bad
not_bad_topic (Sub topic channel) named bad = bad named.0
not_bad_topic (Pub topic) named bad = bad named
not_bad_topic (Mpub topic) named bad = bad named
not_bad_topic (Dpub topic delay) named bad = bad named
not_bad_topic (Rdy count) named bad = bad
not_bad_topic (Fin id) named bad = bad
not_bad_topic (Req id delay) named bad = bad
not_bad_topic (Touch id) named bad = bad
not_bad_topic Cls named bad = bad
not_bad_topic Nop named bad = bad

pub not_bad_channel : (heading : Heading) → IsWellNamed heading → HasBadChannel heading → ⊥
not_bad_channel (Sub topic channel) named bad = bad.1 named.1
not_bad_channel _ named bad = bad

-- a bad channel has a good topic
pub not_both_bad : (heading : Heading) → HasBadTopic heading → HasBadChannel heading → ⊥
not_both_bad (Sub topic channel) topic_bad channel_bad = topic_bad channel_bad.0
not_both_bad _ topic_bad channel_bad = channel_bad

-- RDY with a word that is no number says nothing
pub rdy_nothing : (word : List ℕ) → ((z : ℤ) → IsNumber word z → ⊥) → SaysNothing (codes "RDY" ∷ word ∷ [])
unfolding code key
rdy_nothing word none = λ h s. refused h s
  where
    refused : (h : Heading) → Says (codes "RDY" ∷ word ∷ []) h → ⊥
    refused (Rdy z) (inl s) = one_word (codes "RDY") word (sym s.0)
    refused (Rdy z) (inr s) = let e : word ∷ [] ≡ s.0 ∷ [] = cc (s.1) in none z (subst (λ (x : List ℕ). IsNumber x z) (cc) s.2)
    refused h s = let e : code (codes "RDY" ∷ word ∷ []) ≡ key h = says_key (codes "RDY" ∷ word ∷ []) h s in absurd (omega arith)

-- DPUB with a last word that is no number says nothing
pub dpub_nothing : (word last : List ℕ) → ((z : ℤ) → IsNumber last z → ⊥) → SaysNothing (codes "DPUB" ∷ word ∷ last ∷ [])
unfolding code key
dpub_nothing word last none = λ h s. refused h s
  where
    refused : (h : Heading) → Says (codes "DPUB" ∷ word ∷ last ∷ []) h → ⊥
    refused (Dpub topic z) s = let e : word ∷ last ∷ [] ≡ topic ∷ s.0 ∷ [] = cc (s.1) in none z (subst (λ (x : List ℕ). IsNumber x z) (cc) s.3)
    refused h s = let e : code (codes "DPUB" ∷ word ∷ last ∷ []) ≡ key h = says_key (codes "DPUB" ∷ word ∷ last ∷ []) h s in absurd (omega arith)

-- REQ with a word that is no id, or a last word that is no number, says nothing
pub req_nothing : (word last : List ℕ) → (IsIdWord word → (z : ℤ) → IsNumber last z → ⊥) → SaysNothing (codes "REQ" ∷ word ∷ last ∷ [])
unfolding code key
req_nothing word last none = λ h s. refused h s
  where
    refused : (h : Heading) → Says (codes "REQ" ∷ word ∷ last ∷ []) h → ⊥
    refused (Req id z) s = let e : word ∷ last ∷ [] ≡ id ∷ s.0 ∷ [] = cc (s.1) in none (subst IsIdWord (cc) s.2) z (subst (λ (x : List ℕ). IsNumber x z) (cc) s.3)
    refused h s = let e : code (codes "REQ" ∷ word ∷ last ∷ []) ≡ key h = says_key (codes "REQ" ∷ word ∷ last ∷ []) h s in absurd (omega arith)

-- words that don't begin with a verb say nothing
pub verb_nothing : (all : List (List ℕ)) (first : List ℕ) (rest : List (List ℕ)) → all ≡ first ∷ rest → IsNoVerb first → SaysNothing all
verb_nothing all first rest e none = λ h s. refused h s
  where
    refused : (h : Heading) → Says all h → ⊥
    refused Identify s = none verb.Identify (cc)
    refused (Sub topic channel) s = none verb.Sub (cc)
    refused (Pub topic) s = none verb.Pub (cc)
    refused (Mpub topic) s = none verb.Mpub (cc)
    refused (Dpub topic delay) s = none verb.Dpub (cc (s.1))
    refused (Rdy count) (inl s) = none verb.Rdy (cc)
    refused (Rdy count) (inr s) = none verb.Rdy (cc (s.1))
    refused (Fin id) s = none verb.Fin (cc)
    refused (Req id delay) s = none verb.Req (cc (s.1))
    refused (Touch id) s = none verb.Touch (cc)
    refused Cls s = none verb.Cls (cc)
    refused Nop s = none verb.Nop (cc)
