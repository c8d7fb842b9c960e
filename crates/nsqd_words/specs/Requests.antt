-- What the words of the command line ask for. The causes exclude each other: words whose second is `drill` ask for a drill
-- or are unknown; of all others clap's one kind of refusal, or none, says which cause they have.
use Rattle.std.specs.Prelude.{ℕ, ◌≡◌, ◌≢◌, ◌≤◌, ◌^◌, List, [], ◌∷◌, ◌++◌, Some, codes, slice_get, string_bytes}
use Rattle.clap.specs.declared.error.kind.ErrorKind.{ErrorKind}
use Rattle.clap.specs.declared.error.kind.ErrorKind.TheVariants as kind
use Rattle.nsq_base.specs.Options.{IsInRange}
use Rattle.nsq_base.specs.declared.options.Options.{Options}
use Rattle.nsqd_words.specs.Command.{Words, found_in, refusal_of}
use Rattle.nsqd_words.specs.Numbers.{IsNumber}
use Rattle.nsqd_words.specs.Saying.{SaysValues}
use Rattle.nsqd_words.specs.declared.request.Request.{Request}
use Rattle.nsqd_words.specs.declared.request.Request.TheVariants as request

-- the first word behind the program's name is `drill`
abbrev pub BeginsDrill : Words → Type 0
BeginsDrill words = slice_get words 1 ≡ Some (codes "drill")

-- the words are given to clap
abbrev pub IsForClap : Words → Type 0
IsForClap words = slice_get words 1 ≢ Some (codes "drill")

-- `drill SEED COUNT`, and no word more: two numbers in their ranges
pub record AsksDrill (words : Words) (seed count : ℕ) : Type 0 where
  pub program : List ℕ
  pub seed_text : List ℕ
  pub count_text : List ℕ
  pub words_are : words ≡ program ∷ codes "drill" ∷ seed_text ∷ count_text ∷ []
  pub seed_is : IsNumber seed_text seed
  pub count_is : IsNumber count_text count
  pub seed_at_most : seed ≤ 2 ^ 59
  pub count_at_most : count ≤ 100000

-- clap takes the words, and they say these options, whether in their ranges or not
pub record SaysOptions (words : Words) (o : Options) : Type 0 where
  pub for_clap : IsForClap words
  pub taken : refusal_of words ≡ []
  pub values : SaysValues (found_in words) o

-- the words ask for help
pub record AsksHelp (words : Words) : Type 0 where
  pub for_clap : IsForClap words
  pub asked : refusal_of words ≡ kind.DisplayHelp ∷ []

-- the words ask for the version
pub record AsksVersion (words : Words) : Type 0 where
  pub for_clap : IsForClap words
  pub asked : refusal_of words ≡ kind.DisplayVersion ∷ []

-- the words begin a drill, and aren't right for one
pub record IsBadDrill (words : Words) : Type 0 where
  pub begins : BeginsDrill words
  pub bad : (seed count : ℕ) → AsksDrill words seed count → ⊥

-- clap refuses the words, for another kind than help and version
pub record IsRefused (words : Words) : Type 0 where
  pub for_clap : IsForClap words
  pub why : ErrorKind
  pub refused : refusal_of words ≡ why ∷ []
  pub no_help : why ≢ kind.DisplayHelp
  pub no_version : why ≢ kind.DisplayVersion

-- clap takes the words, and no options in their ranges are what they say
pub record HasBadValue (words : Words) : Type 0 where
  pub for_clap : IsForClap words
  pub taken : refusal_of words ≡ []
  pub bad : (o : Options) → SaysValues (found_in words) o → IsInRange o → ⊥

-- the words aren't right
pub data IsUnknown (words : Words) : Type 0 where
  bad_drill : IsBadDrill words → IsUnknown words
  refused : IsRefused words → IsUnknown words
  bad_value : HasBadValue words → IsUnknown words

-- the words ask for this
abbrev pub Asks : Words → Request → Type 0
Asks words (request.Serve o) = SaysOptions words o × IsInRange o
Asks words (request.Drill seed count) = AsksDrill words seed count
Asks words (request.Help text) = AsksHelp words
Asks words (request.Version text) = AsksVersion words × (string_bytes text ≡ codes "nsqd 1.0.0" ++ 10 ∷ [])
Asks words request.Unknown = IsUnknown words
