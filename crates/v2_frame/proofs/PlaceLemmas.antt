-- Where a byte stands, words, and numbers.
use Rattle.std.proofs.Common.{◌≡◌, ◌≢◌, ℕ, ◌+◌, ◌-◌, ◌^◌, ◌<◌, ◌≤◌, false, List, [], ◌∷◌, ◌++◌, length, take, drop, get_or, refl, sym, ap, ◌∙◌, subst, arith}
use Rattle.std.specs.Prelude.{◌==◌, zero, suc}
use Rattle.std.specs.List.{All}
use Rattle.std.specs.Int.{IsInRange}
use Rattle.std.specs.Str.Parse.{AllDigits, digits_value}
use Rattle.std.proofs.lemmas.Bool.Decides.{nat_tests}
use Rattle.std.proofs.lemmas.List.{take_more, take_rest, take_all, take-append-drop, drop_more}
use Rattle.std.proofs.lemmas.List.Splits.{slice_split_at, slice_split_none, length-slice_split}
use Rattle.std.proofs.lemmas.Str.Parse.{digit_at, digits_value_short, numerals_by_value, tells_digits}
use Rattle.nsq_base.specs.Decimal.{IsDecimal}
use Rattle.v2_frame.specs.Line.{HasNo, words_of}

pub HasNo_push : (byte : ℕ) (xs : List ℕ) (b : ℕ) → HasNo byte xs → b ≢ byte → HasNo byte (xs ++ b ∷ [])
HasNo_push byte [] b n d = (d, tt)
HasNo_push byte (x ∷ xs) b n d = (n.0, HasNo_push byte xs b n.1 d)

-- one more byte isn't the one that is sought
pub HasNo_more : (byte : ℕ) (xs : List ℕ) (n : ℕ) → n < length xs → HasNo byte (take n xs) → get_or xs n 0 ≢ byte → HasNo byte (take (n + 1) xs)
HasNo_more byte xs n l none d = subst (λ (x : List ℕ). HasNo byte x) (sym (take_more xs n 0 l)) (HasNo_push byte (take n xs) (get_or xs n 0) none d)

-- a list, cut at an element
pub cut_at : (xs : List ℕ) (n b : ℕ) → n < length xs → get_or xs n 0 ≡ b → xs ≡ take n xs ++ b ∷ drop (n + 1) xs
cut_at xs n b l e = sym (take-append-drop n xs) ∙ ap (λ (x : List ℕ). take n xs ++ x) (drop_more xs n 0 l ∙ ap (λ (m : ℕ). m ∷ drop (n + 1) xs) e)

pub HasNo_take : (byte n : ℕ) (xs : List ℕ) → HasNo byte xs → HasNo byte (take n xs)
HasNo_take byte zero xs none = tt
HasNo_take byte (suc n) [] none = tt
HasNo_take byte (suc n) (x ∷ xs) none = (none.0, HasNo_take byte n xs none.1)

test_false : (a b : ℕ) → a ≢ b → (a == b) ≡ false
test_false a b d = grind (arith, nat_tests)

pub HasNo_at : (byte : ℕ) (xs : List ℕ) (k d : ℕ) → HasNo byte xs → k < length xs → (get_or xs k d == byte) ≡ false
HasNo_at byte [] k d none l = absurd (omega arith)
HasNo_at byte (x ∷ xs) zero d none l = test_false x byte none.0
HasNo_at byte (x ∷ xs) (suc k) d none l = HasNo_at byte xs k d none.1 (omega arith)

-- no byte of the list passes the test for the byte
pub HasNo_all : (byte : ℕ) (xs : List ℕ) → HasNo byte xs → All (λ x. (x == byte) ≡ false) xs
HasNo_all byte xs none = λ k d l. HasNo_at byte xs k d none l

-- a text without a space is one word
pub one_word_text : (text : List ℕ) → HasNo 32 text → words_of text ≡ text ∷ []
one_word_text text none = slice_split_none (λ b. b == 32) text (HasNo_all 32 text none)

-- a text is parted at its first space
pub words_parted : (text word rest : List ℕ) → HasNo 32 word → text ≡ word ++ 32 ∷ rest → words_of text ≡ word ∷ words_of rest
words_parted text word rest none e = ap words_of e ∙ slice_split_at (λ b. b == 32) word 32 rest (HasNo_all 32 word none) refl

-- a text has a word
pub words_some : (text : List ℕ) → 0 < length (words_of text)
words_some text = omega (arith, length-slice_split (λ b. b == 32) text)

-- the digits so far are below a power of ten
pub digits_small : (k : ℕ) (digits : List ℕ) → AllDigits 10 digits → length digits ≤ k → digits_value 10 digits < 10 ^ k
digits_small k digits all l = digits_value_short (numerals_by_value (AllDigits 10) tells_digits) digits k all l

-- a decimal has digits alone
pub decimal_digit_at : (most : ℕ) (digits : List ℕ) (n i : ℕ) → IsDecimal most digits n → i < length digits → IsInRange 48 57 (get_or digits i 0)
decimal_digit_at most digits n i d l = digit_at digits i d.numeral.1 l

-- what stands behind a place
pub behind_place : (xs : List ℕ) (n : ℕ) → take (length xs - n) (drop n xs) ≡ drop n xs
behind_place xs n = take_rest xs n

-- digits that were all read
pub decimal_is : (digits : List ℕ) (i number : ℕ) → AllDigits 10 (take i digits) → number ≡ digits_value 10 (take i digits) → length digits ≤ i → 0 < length digits → length digits ≤ 18
    → IsDecimal 18 digits number × (number < 10 ^ 18)
decimal_is digits i number all value done some short =
    let whole : take i digits ≡ digits = take_all i digits done in
    let each : AllDigits 10 digits = subst (λ (x : List ℕ). AllDigits 10 x) whole all in
    let same : number ≡ digits_value 10 digits = value ∙ ap (digits_value 10) whole in
    (record { numeral = (some, each); bound = short; value = same }, omega (arith, digits_small 18 digits each short))

-- a text with two spaces and one more has more than three words
pub many_words : (a b c : List ℕ) (text after behind rest : List ℕ) → words_of text ≡ a ∷ words_of after → words_of after ≡ b ∷ words_of behind → words_of behind ≡ c ∷ words_of rest → 3 < length (words_of text)
many_words a b c text after behind rest e f g = omega (arith, ap length e, ap length f, ap length g, words_some rest)
