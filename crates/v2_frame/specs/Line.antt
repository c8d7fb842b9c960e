-- Lines of the V2 stream and their words, over whole byte lists.
use Rattle.std.specs.Prelude.{◌≡◌, ◌≢◌, ℕ, ◌<◌, ◌==◌, ◌||◌, Bool, not, if◌then◌else◌, ℤ, pos, neg_ℤ, List, [], ◌∷◌, ◌++◌, length, drop}
use Rattle.std.specs.List.{AllByRecursion, AllPass, slice_split}
use Rattle.std.specs.Str.Lines.{strip_carriage_return}
use Rattle.std.specs.Str.Parse.{starts_with_minus}
use Rattle.nsq_base.specs.Decimal.{IsDecimal}

-- each is a byte
abbrev pub AreBytes : List ℕ → Type 0
AreBytes bytes = AllByRecursion (λ b. b < 256) bytes

-- the byte isn't among these
abbrev pub HasNo : ℕ → List ℕ → Type 0
HasNo byte [] = Unit {0}
HasNo byte (b ∷ bs) = (b ≢ byte) × HasNo byte bs

-- the bytes begin with this line and its line feed, and go on with the rest
pub record HasLine (bytes line rest : List ℕ) : Type 0 where
  pub whole : bytes ≡ line ++ 10 ∷ rest
  pub first : HasNo 10 line

-- the text of a line: the line without one carriage return at its end
abbrev pub text_of : List ℕ → List ℕ
text_of line = strip_carriage_return line

-- the words of a text: its parts round each space, so a text without a space is one word
abbrev pub words_of : List ℕ → List (List ℕ)
words_of text = slice_split (λ b. b == 32) text

-- a word without a minus sign at its front
abbrev pub without_minus : List ℕ → List ℕ
without_minus word = if starts_with_minus word then drop 1 word else word

-- the word is a number: perhaps a minus sign, then 1 to 18 decimal digits; leading zeros are allowed
pub record IsNumber (word : List ℕ) (number : ℤ) : Type 0 where
  pub size : ℕ
  pub digits : IsDecimal 18 (without_minus word) size
  pub value : number ≡ (if starts_with_minus word then neg_ℤ (pos size) else pos size)

-- neither a space nor a byte of a line end
abbrev pub is_id_byte : ℕ → Bool
is_id_byte b = not (b == 32 || b == 10 || b == 13)

-- the word is an id: 16 bytes without a space or a byte of a line end
pub record IsIdWord (word : List ℕ) : Type 0 where
  pub long : length word ≡ 16
  pub allowed : AllPass is_id_byte word
