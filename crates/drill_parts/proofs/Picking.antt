-- Loops that pick and count, and the bytes of a publish.
use Rattle.std.proofs.Common.{◌≡◌, ◌==◌, ℕ, ◌+◌, ◌-◌, ◌<◌, Bool, true, false, cond, List, [], ◌∷◌, ◌++◌, length, take, get_or, codes, replicate, refl, sym, ap, ◌∙◌, arith}
use Rattle.std.specs.List.{count_by}
use Rattle.std.proofs.lemmas.List.{append-nil, length-take, take_all}
use Rattle.std.proofs.lemmas.List.Elements.{filter_more}
use Rattle.std.proofs.lemmas.List.Sums.{count_by-le-length, count_by_more_no, count_by_more_yes}
use borrow.Author.Tests.{eq-eqb, ne_eqb}
use Rattle.v2_frame.specs.Command.{size4}
use Rattle.drill_parts.specs.Callers.{digit, publish_piece, those_to}
use Rattle.drill_parts.specs.declared.draws.Publish.{Publish}

-- what a loop has picked, where the next publish is to the topic
pub picked : (topic : ℕ) (ps : List Publish) (i : ℕ) (d : Publish) (old new : List Publish) → i < length ps → old ≡ those_to topic (take i ps) → (get_or ps i d).topic ≡ topic → new ≡ old ++ get_or ps i d ∷ []
    → new ≡ those_to topic (take (i + 1) ps)
picked topic ps i d old new l o t n =
    n ∙ ap (λ (qs : List Publish). qs ++ get_or ps i d ∷ []) o
    ∙ ap (λ (b : Bool). those_to topic (take i ps) ++ cond b (get_or ps i d ∷ []) []) (sym (eq-eqb (get_or ps i d).topic topic t))
    ∙ sym (filter_more (λ (p : Publish). p.topic == topic) ps i d l)

-- and where it isn't
pub passed : (topic : ℕ) (ps : List Publish) (i : ℕ) (d : Publish) (old : List Publish) → i < length ps → old ≡ those_to topic (take i ps) → ((get_or ps i d).topic ≡ topic → ⊥) → old ≡ those_to topic (take (i + 1) ps)
passed topic ps i d old l o t =
    o ∙ sym (append-nil (those_to topic (take i ps)))
    ∙ ap (λ (b : Bool). those_to topic (take i ps) ++ cond b (get_or ps i d ∷ []) []) (sym (ne_eqb (get_or ps i d).topic topic t))
    ∙ sym (filter_more (λ (p : Publish). p.topic == topic) ps i d l)

-- what a loop has counted, where the next item is one of them, and where it isn't
module _ {X : Type 0} (p : X → Bool) (xs : List X) (i : ℕ) (x : X) (old new : ℕ) where
  pub counted : i < length xs → x ≡ get_or xs i x → old ≡ count_by p (take i xs) → p x ≡ true → new ≡ old + 1 → new ≡ count_by p (take (i + 1) xs)
  counted l e o t n = n ∙ ap (λ (k : ℕ). k + 1) o ∙ sym (count_by_more_yes p xs i x l (ap p (sym e) ∙ t))

  pub skipped : i < length xs → x ≡ get_or xs i x → old ≡ count_by p (take i xs) → p x ≡ false → new ≡ old → new ≡ count_by p (take (i + 1) xs)
  skipped l e o t n = n ∙ o ∙ sym (count_by_more_no p xs i x l (ap p (sym e) ∙ t))

-- no more are counted than there are
pub counted_low : {X : Type 0} (p : X → Bool) (xs : List X) (i old : ℕ) → i < length xs → old ≡ count_by p (take i xs) → old < length xs
counted_low p xs i old l o = omega (arith, count_by-le-length p (take i xs), length-take i xs)

-- the bytes of a publish, from their parts
pub publish_bytes : (p : Publish) (d len room : ℕ) (first second third fourth size whole : List ℕ) → first ≡ codes "PUB t" → d ≡ digit p.topic → second ≡ first ++ d ∷ [] → third ≡ second ++ 10 ∷ [] → size ≡ size4 p.length → fourth ≡ third ++ size
    → len ≡ room → room ≡ length fourth → whole ≡ take (len + p.length) fourth ++ replicate (len + p.length - room) 97 → whole ≡ publish_piece p
publish_bytes p d len room first second third fourth size whole a b e f g h k l w =
    let all : fourth ≡ ((codes "PUB t" ++ digit p.topic ∷ []) ++ 10 ∷ []) ++ size4 p.length = rw (h, f, e, a, b, g) refl in
    let front : take (len + p.length) fourth ≡ fourth = take_all (len + p.length) fourth (omega (arith, k, l)) in
    let more : len + p.length - room ≡ p.length = omega (arith, k) in
    w ∙ rw (front, more, all) refl
