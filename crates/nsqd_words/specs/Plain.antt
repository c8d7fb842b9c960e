-- What clap makes of plain words: an option as one word `--NAME=VALUE`, the flag, and the requests for help and the version.
use Rattle.std.specs.Prelude.{◌≡◌, ◌≢◌, List, [], ◌∷◌, ◌++◌, Option, Some, codes, map, slice_get}
use Rattle.std.specs.List.{AllByRecursion}
use Rattle.clap.specs.Walk.{Row, Text}
use Rattle.clap.specs.declared.error.kind.ErrorKind.TheVariants as kind
use Rattle.clap.specs.declared.parser.matches.ValueSource.{ValueSource}
use Rattle.clap.specs.declared.parser.matches.ValueSource.TheVariants.{CommandLine, DefaultValue}
use Rattle.nsqd_words.specs.Command.{Words, found_in, option_names, refusal_of, stop_flag}

-- an option and its value in one word
abbrev pub option_word : Text → Text → Text
option_word name value = codes "--" ++ (name ++ 61 ∷ value)

-- the flag
abbrev pub flag_word : Text
flag_word = codes "--" ++ stop_flag

-- a name, its values, and where they came from
abbrev pub Finding : Type 0
Finding = Text × List Text × Option ValueSource

-- an option that the words give
abbrev pub option_given : Text → Text → Finding
option_given name value = (name, value ∷ [], Some CommandLine)

-- the flag, where the words give it and where they don't
abbrev pub flag_given : Finding
flag_given = (stop_flag, codes "true" ∷ [], Some CommandLine)

abbrev pub flag_absent : Finding
flag_absent = (stop_flag, codes "false" ∷ [], Some DefaultValue)

abbrev pub finding_of : Row → Finding
finding_of r = (r.id, r.values, r.source)

-- clap takes the words, and finds this in them
abbrev pub Finds : Words → List Finding → Type 0
Finds words findings = (refusal_of words ≡ []) × (map finding_of (found_in words) ≡ findings)

-- the program's name alone says nothing
abbrev pub NothingIsFound : Type 0
NothingIsFound = (program : Text) → Finds (program ∷ []) (flag_absent ∷ [])

-- a word `--NAME=VALUE` says its value, whatever the value is, and nothing else
abbrev pub OneIsFound : Type 0
OneIsFound = (program value : Text) → AllByRecursion (λ name. Finds (program ∷ option_word name value ∷ []) (option_given name value ∷ flag_absent ∷ [])) option_names

-- the flag alone says that it is there, and nothing else
abbrev pub FlagIsFound : Type 0
FlagIsFound = (program : Text) → Finds (program ∷ flag_word ∷ []) (flag_given ∷ [])

-- an option that is given twice is refused, whatever follows
abbrev pub TwiceIsRefused : Type 0
TwiceIsRefused = (program value other : Text) (more : Words)
    → AllByRecursion (λ name. refusal_of (program ∷ option_word name value ∷ option_word name other ∷ more) ≡ kind.ArgumentConflict ∷ []) option_names

-- so is the flag
abbrev pub SecondFlagIsRefused : Type 0
SecondFlagIsRefused = (program : Text) (more : Words) → refusal_of (program ∷ flag_word ∷ flag_word ∷ more) ≡ kind.ArgumentConflict ∷ []

-- the flag takes no value in its word, whatever the value is and whatever follows
abbrev pub FlagValueIsRefused : Type 0
FlagValueIsRefused = (program value : Text) (more : Words) → refusal_of (program ∷ option_word stop_flag value ∷ more) ≡ kind.TooManyValues ∷ []

-- nor one in the next word: a word there that begins with no hyphen is refused, whatever follows
abbrev pub WordBehindFlagIsRefused : Type 0
WordBehindFlagIsRefused = (program value : Text) (more : Words) → slice_get value 0 ≢ Some 45
    → refusal_of (program ∷ flag_word ∷ value ∷ more) ≡ kind.UnknownArgument ∷ []

-- `--help` in front asks for help, and `--version` for the version, whatever follows
abbrev pub HelpIsAsked : Type 0
HelpIsAsked = (program : Text) (more : Words) → refusal_of (program ∷ codes "--help" ∷ more) ≡ kind.DisplayHelp ∷ []

abbrev pub VersionIsAsked : Type 0
VersionIsAsked = (program : Text) (more : Words) → refusal_of (program ∷ codes "--version" ∷ more) ≡ kind.DisplayVersion ∷ []
