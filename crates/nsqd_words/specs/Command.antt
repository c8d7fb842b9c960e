-- The command that `clap` reads the words for.
use Rattle.std.specs.Prelude.{◌≡◌, ℕ, Bool, true, false, List, [], ◌∷◌, Option, Some, codes, find, fold, map, option_and_then}
use Rattle.std.specs.List.{AllByRecursion}
use Rattle.std.specs.Str.{bytes_eq}
use Rattle.clap.specs.Walk.{Rule, Row, Text, first_of, rule_of}
use Rattle.clap.specs.Simple.{App, matches_of, new_app, new_rule, on_top, with_rule}
use Rattle.clap.specs.Kinds.{Kinds}
use Rattle.clap.specs.Faults.{fault_of}
use Rattle.clap.specs.declared.builder.action.ArgAction.TheVariants.{Set, SetTrue}
use Rattle.clap.specs.declared.builder.arg.Arg.{Arg}
use Rattle.clap.specs.declared.parser.matches.ValueSource.{ValueSource}
use Rattle.clap.specs.declared.parser.matches.ValueSource.TheVariants.{CommandLine}

-- the words of a command line, of which the first is the program's name
abbrev pub Words : Type 0
Words = List (List ℕ)

-- the names of the options that take a value, each written with `--` in front
abbrev pub option_names : List Text
option_names =
    codes "tcp-address" ∷ codes "http-address" ∷ codes "broadcast-address" ∷ codes "data-path"
    ∷ codes "mem-queue-size" ∷ codes "max-bytes-per-file" ∷ codes "sync-every" ∷ codes "max-msg-size"
    ∷ codes "max-body-size" ∷ codes "max-rdy-count" ∷ codes "sync-timeout" ∷ codes "msg-timeout"
    ∷ codes "max-msg-timeout" ∷ codes "max-req-timeout" ∷ codes "max-heartbeat-interval" ∷ []

-- an option that takes one value, and may be given once
abbrev pub option_rule : Text → Rule
option_rule name = record (new_rule name) { long = Some name; action = Some Set }

-- a command with one option more
abbrev pub with_option : App → Text → App
with_option app name = with_rule app (option_rule name)

-- the name of the one flag, written with `--` in front
abbrev pub stop_flag : Text
stop_flag = codes "http-stop"

-- a flag: it takes no value, and may be given once
abbrev pub flag_rule : Text → Rule
flag_rule name = record (new_rule name) { long = Some name; action = Some SetTrue }

-- a command with one flag more
abbrev pub with_flag : App → Text → App
with_flag app name = with_rule app (flag_rule name)

-- arguments of these rules, none of which is global
pub record AreArgs (list : List Arg) (rules : List Rule) : Type 0 where
  pub made : map rule_of list ≡ rules
  pub own : AllByRecursion (λ (a : Arg). a.global ≡ false) list

-- the command `nsqd` before it has an option: it has a version
abbrev pub bare_app : App
bare_app = on_top (λ s. record s { has_version = true }) (new_app (codes "nsqd"))

-- the command `nsqd`: its options and its flag, and by clap's own rules `--help` and `--version`
unfoldable pub nsqd_app : App
nsqd_app = with_flag (fold with_option bare_app option_names) stop_flag

-- for which kind clap refuses the words: none where it takes them
abbrev pub refusal_of : Words → Kinds
refusal_of words = fault_of nsqd_app words

-- what clap finds in the words, where it takes them
abbrev pub found_in : Words → List Row
found_in words = matches_of nsqd_app words

-- the value that was found for an option
abbrev pub value_in : List Row → Text → Option Text
value_in rows name = first_of name rows

-- where the value came from that was found for an option or a flag
abbrev pub source_in : List Row → Text → Option ValueSource
source_in rows name = option_and_then (λ r. r.source) (find (λ r. bytes_eq r.id name) rows)

-- a value came from the words, and is no default
abbrev pub is_from_words : Option ValueSource → Bool
is_from_words (Some CommandLine) = true
is_from_words _ = false

-- whether the flag of this name is there
abbrev pub is_given_in : List Row → Text → Bool
is_given_in rows name = is_from_words (source_in rows name)

-- where a kind is given, it is the only one
abbrev pub HasOneAtMost : Kinds → Type 0
HasOneAtMost [] = Unit {0}
HasOneAtMost (kind ∷ []) = Unit {0}
HasOneAtMost (kind ∷ other ∷ more) = ⊥
