-- What the words of a drill ask for.
use Rattle.std.proofs.Common.{◌≡◌, ℕ, ◌<◌, ◌≤◌, List, [], ◌∷◌, Some, refl, sym, ap, subst, ◌∙◌, map, length, get_or, arith}
use Rattle.std.specs.Prelude.{◌^◌, codes, option_map, slice_get}
use Rattle.std.proofs.lemmas.List.{length-map}
use Rattle.std.proofs.lemmas.Option.{same_Some, slice_get-map}
use Rattle.std.specs.Str.Parse.{digits_value}
use Rattle.clap.specs.Walk.{Text}
use Rattle.nsqd_words.specs.Command.{Words}
use Rattle.nsqd_words.specs.Numbers.{AreDigits, IsNumber}
use Rattle.nsqd_words.specs.Requests.{AsksDrill, BeginsDrill, IsUnknown, bad_drill}
use Rattle.nsqd_words.proofs.SayingLemmas.{word_at}

-- the word at a place
word_is : {X : Type 0} (text : X → Text) (xs : List X) (k : ℕ) (x : X) (t : Text) → k < length xs → x ≡ get_or xs k x → slice_get (map text xs) k ≡ Some t → text x ≡ t
word_is text xs k x t l e h = same_Some (text x) t (sym (slice_get-map text xs k ∙ ap (option_map text) (word_at xs k x l e)) ∙ h)

-- a number that is read up to a limit
abbrev pub IsUpTo : ℕ → Text → Type 0
IsUpTo most t = AreDigits 18 t × (digits_value 10 t ≤ most)

read_up_to : (most n : ℕ) (t : Text) → IsNumber t n → n ≤ most → IsUpTo most t
read_up_to most n t h l = (h.digits, subst (λ (m : ℕ). m ≤ most) h.value l)

-- other words than four are no drill's
pub not_four : {X : Type 0} (text : X → Text) (xs : List X) → BeginsDrill (map text xs) → (length xs ≡ 4 → ⊥) → IsUnknown (map text xs)
not_four text xs begins not_so = bad_drill (record {
  begins = begins;
  bad = λ seed count a. not_so (sym (length-map xs text) ∙ ap length a.words_are);
})

-- nor are four without a seed
pub no_seed : {X : Type 0} (text : X → Text) (xs : List X) (x : X) (t : Text) → BeginsDrill (map text xs) → 2 < length xs → x ≡ get_or xs 2 x → t ≡ text x → (IsUpTo (2 ^ 59) t → ⊥) → IsUnknown (map text xs)
no_seed text xs x t begins l e f none = bad_drill (record {
  begins = begins;
  bad = λ seed count a.
      none (subst (IsUpTo (2 ^ 59)) (sym (f ∙ word_is text xs 2 x a.seed_text l e (ap (λ (w : Words). slice_get w 2) a.words_are))) (read_up_to (2 ^ 59) seed a.seed_text a.seed_is a.seed_at_most));
})

-- nor without a count
pub no_count : {X : Type 0} (text : X → Text) (xs : List X) (x : X) (t : Text) → BeginsDrill (map text xs) → 3 < length xs → x ≡ get_or xs 3 x → t ≡ text x → (IsUpTo 100000 t → ⊥) → IsUnknown (map text xs)
no_count text xs x t begins l e f none = bad_drill (record {
  begins = begins;
  bad = λ seed count a.
      none (subst (IsUpTo 100000) (sym (f ∙ word_is text xs 3 x a.count_text l e (ap (λ (w : Words). slice_get w 3) a.words_are))) (read_up_to 100000 count a.count_text a.count_is a.count_at_most));
})

-- four words with both are
pub is_drill : {X : Type 0} (text : X → Text) (xs : List X) (x y : X) (s t : Text) (seed count : ℕ) → BeginsDrill (map text xs) → length xs ≡ 4 → x ≡ get_or xs 2 x → y ≡ get_or xs 3 y → s ≡ text x → t ≡ text y
    → IsUpTo (2 ^ 59) s × (seed ≡ digits_value 10 s) → IsUpTo 100000 t × (count ≡ digits_value 10 t) → AsksDrill (map text xs) seed count
is_drill text [] x y s t seed count begins l e f a b p q = absurd (omega arith)
is_drill text (u ∷ []) x y s t seed count begins l e f a b p q = absurd (omega arith)
is_drill text (u ∷ v ∷ []) x y s t seed count begins l e f a b p q = absurd (omega arith)
is_drill text (u ∷ v ∷ w ∷ []) x y s t seed count begins l e f a b p q = absurd (omega arith)
is_drill text (u ∷ v ∷ w ∷ z ∷ []) x y s t seed count begins l e f a b p q =
    let second : text v ≡ codes "drill" = same_Some (text v) (codes "drill") begins in
    let third : text w ≡ s = ap text (sym e) ∙ sym a in
    let fourth : text z ≡ t = ap text (sym f) ∙ sym b in
    record {
      program = text u;
      seed_text = s;
      count_text = t;
      words_are = rw (second, third, fourth) refl;
      seed_is = record { digits = p.0.0; value = p.1 };
      count_is = record { digits = q.0.0; value = q.1 };
      seed_at_most = subst (λ (n : ℕ). n ≤ 2 ^ 59) (sym p.1) p.0.1;
      count_at_most = subst (λ (n : ℕ). n ≤ 100000) (sym q.1) q.0.1;
    }
is_drill text (u ∷ v ∷ w ∷ z ∷ more ∷ others) x y s t seed count begins l e f a b p q = absurd (omega arith)
