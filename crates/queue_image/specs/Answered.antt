-- What the functions of this crate answer, by the cases of their results.
use Rattle.std.specs.Prelude.{◌≡◌, ◌≢◌, ℕ, ◌^◌, ◌<◌, ◌≤◌, List, ◌∷◌, ◌++◌, length, Option, Some, None}
use Rattle.std.specs.Str.Parse.{IsNumeral}
use Rattle.nsq_core.specs.Decimal.{IsDecimal}
use Rattle.queue_image.specs.FileNames.{data_file}
use Rattle.queue_image.specs.Metas.{Meta, IsMeta}
use Rattle.queue_image.specs.declared.positions.Positions.{Positions}
use Rattle.queue_image.specs.declared.decimals.Field.{Field}
use Rattle.queue_image.specs.declared.metadata.Number.{Number}

-- the number of the queue's data file of that name, or none where it is no name of one
abbrev pub NumbersFile : List ℕ → List ℕ → Option ℕ → Type 0
NumbersFile name file None = (n : ℕ) → n < 2 ^ 64 → file ≢ data_file name n
NumbersFile name file (Some n) = (n < 2 ^ 64) × (file ≡ data_file name n)

-- the number of the queue's data file of that name, where it is the name of one
abbrev pub MayNumber : List ℕ → List ℕ → Option ℕ → Type 0
MayNumber name file number = (n : ℕ) → n < 2 ^ 64 → file ≡ data_file name n → number ≡ Some n

-- the text begins with 1 to 40 digits and a separator, and this is the rest
pub record DigitsLead (text : List ℕ) (separator : ℕ) (digits rest : List ℕ) : Type 0 where
  pub whole : text ≡ digits ++ separator ∷ rest
  pub numeral : IsNumeral 10 digits
  pub bound : length digits ≤ 40

-- the digits and the rest of such a text, or none where it is no such text
abbrev pub BeginsWithDigits : List ℕ → ℕ → Option Field → Type 0
BeginsWithDigits text separator None = (digits rest : List ℕ) → ¬ DigitsLead text separator digits rest
BeginsWithDigits text separator (Some field) = DigitsLead text separator field.digits.now field.rest.now

-- the text begins with a number that is not too great, in 1 to 40 digits, and a separator, and this is the rest
pub record NumberLeads (text : List ℕ) (separator most n : ℕ) (rest : List ℕ) : Type 0 where
  pub digits : List ℕ
  pub whole : text ≡ digits ++ separator ∷ rest
  pub is : IsDecimal 40 digits n
  pub bound : n ≤ most

-- the number and the rest of such a text, or none where it is no such text
abbrev pub BeginsWithNumber : List ℕ → ℕ → ℕ → Option Number → Type 0
BeginsWithNumber text separator most None = (n : ℕ) (rest : List ℕ) → ¬ NumberLeads text separator most n rest
BeginsWithNumber text separator most (Some number) = NumberLeads text separator most number.value number.rest.now

-- the positions of a metadata text, or none where it is no metadata
abbrev pub ReadsMeta : List ℕ → Option Positions → Type 0
ReadsMeta text None = (meta : Meta) → ¬ IsMeta text meta
ReadsMeta text (Some positions) = (depth : ℕ) × IsMeta text (record { depth = depth; positions = positions })
