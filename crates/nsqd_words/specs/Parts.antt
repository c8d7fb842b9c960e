-- What the parts of the readers answer. No public clause cites this module.
use Rattle.std.specs.Prelude.{ℕ, ◌≡◌, ◌≢◌, ◌<◌, ◌≤◌, ◌+◌, Bool, false, List, [], ◌∷◌, ◌++◌, Option, Some, None, length, take, drop, slice_get, MatchOption, ◌⊎◌, codes, string_bytes}
use Rattle.std.specs.Char.{is_ascii_digit}
use Rattle.std.specs.List.{AllByRecursion, AllPass}
use Rattle.clap.specs.Kinds.{Kinds}
use Rattle.clap.specs.Walk.{Row}
use Rattle.clap.specs.declared.error.kind.ErrorKind.{ErrorKind}
use Rattle.clap.specs.declared.error.kind.ErrorKind.TheVariants as kind
use Rattle.nsq_base.specs.Options.{AreSizesInRange, AreTimesInRange, IsInRange, default_options}
use Rattle.nsq_base.specs.declared.options.Options.{Options}
use Rattle.nsqd_words.specs.Durations.{IsPair, Pair, spelled, total_time, unit_name}
use Rattle.nsqd_words.specs.Saying.{SaysSizes, SaysTimes, SaysValues}
use Rattle.nsqd_words.specs.declared.durations.Measured.{Measured}
use Rattle.nsqd_words.specs.declared.durations.TimeUnit.{TimeUnit}
use Rattle.nsqd_words.specs.declared.durations.TimeUnit.TheVariants.{Minute}
use Rattle.nsqd_words.specs.declared.options.Sizes.{Sizes}
use Rattle.nsqd_words.specs.declared.options.Texts.{Texts}
use Rattle.nsqd_words.specs.declared.options.Times.{Times}
use Rattle.nsqd_words.specs.declared.request.Request.{Request}
use Rattle.nsqd_words.specs.declared.request.Request.TheVariants as request

-- ---- durations

-- the text doesn't begin with a digit
abbrev pub BeginsNoDigit : List ℕ → Type 0
BeginsNoDigit [] = Unit {0}
BeginsNoDigit (byte ∷ rest) = is_ascii_digit byte ≡ false

-- so many digits stand in front, and no more
pub record LeadDigits (text : List ℕ) (n : ℕ) : Type 0 where
  pub in_range : n ≤ length text
  pub all_digits : AllPass is_ascii_digit (take n text)
  pub no_more : BeginsNoDigit (drop n text)

-- behind a unit `m` no `s` stands, since both would be one unit
abbrev pub IsCut : TimeUnit → List ℕ → Type 0
IsCut unit rest = unit ≡ Minute → slice_get rest 0 ≢ Some 115

-- the text begins with this unit; none where it begins with none
abbrev pub BeginsUnit : List ℕ → Option TimeUnit → Type 0
BeginsUnit text None = (unit : TimeUnit) (rest : List ℕ) → text ≡ unit_name unit ++ rest → ⊥
BeginsUnit text (Some unit) = (rest : List ℕ) × (text ≡ unit_name unit ++ rest) × IsCut unit rest

-- the text is pairs, maybe none, and so many nanoseconds
pub record ArePairs (text : List ℕ) (n : ℕ) : Type 0 where
  pub pairs : List Pair
  pub are_pairs : AllByRecursion IsPair pairs
  pub text_is : text ≡ spelled pairs
  pub value : n ≡ total_time pairs

-- the text is pairs of so many nanoseconds and the rest, and it is that alone
pub record GoesOn (text rest : List ℕ) (before : ℕ) : Type 0 where
  pub all : (n : ℕ) → ArePairs rest n → ArePairs text (before + n)
  pub only : (n : ℕ) → ArePairs text n → (m : ℕ) × ArePairs rest m × (n ≡ before + m)

-- the first pair of a text
pub record IsFirst (text : List ℕ) (first : Measured) : Type 0 where
  pub at_least : 0 < first.length
  pub at_most : first.length ≤ length text
  pub goes_on : GoesOn text (drop first.length text) first.nanoseconds

-- the first pair of a text; none where no pairs below the limit are the text
abbrev pub FindsFirst : ℕ → List ℕ → Option Measured → Type 0
FindsFirst limit text first = MatchOption first ((n : ℕ) → n < limit → ArePairs text n → ⊥) (IsFirst text)

-- ---- options

-- options with these texts
abbrev pub with_texts : Options → Texts → Options
with_texts o texts = record o {
  tcp_address = texts.tcp_address;
  http_address = texts.http_address;
  broadcast_address = texts.broadcast_address;
  data_path = texts.data_path;
}

-- options with these sizes and counts
abbrev pub with_sizes : Options → Sizes → Options
with_sizes o sizes = record o {
  mem_queue_size = sizes.mem_queue_size;
  max_bytes_per_file = sizes.max_bytes_per_file;
  sync_every = sizes.sync_every;
  max_msg_size = sizes.max_msg_size;
  max_body_size = sizes.max_body_size;
  max_rdy_count = sizes.max_rdy_count;
}

-- options with these durations
abbrev pub with_times : Options → Times → Options
with_times o times = record o {
  sync_timeout = times.sync_timeout;
  msg_timeout = times.msg_timeout;
  max_msg_timeout = times.max_msg_timeout;
  max_req_timeout = times.max_req_timeout;
  max_heartbeat_interval = times.max_heartbeat_interval;
}

-- options with this flag
abbrev pub with_stop : Options → Bool → Options
with_stop o http_stop = record o { http_stop = http_stop }

-- the sizes and counts that are said; none where those that are said aren't in their ranges
abbrev pub FindsSizes : List Row → Option Sizes → Type 0
FindsSizes rows sizes = MatchOption sizes ((o : Options) → SaysSizes rows o → AreSizesInRange o → ⊥)
    (λ found. SaysSizes rows (with_sizes default_options found))

-- the durations that are said; none where those that are said aren't in their ranges
abbrev pub FindsTimes : List Row → Option Times → Type 0
FindsTimes rows times = MatchOption times ((o : Options) → SaysTimes rows o → AreTimesInRange o → ⊥)
    (λ found. SaysTimes rows (with_times default_options found))

-- the options that are said, each in its range; none where those that are said aren't
abbrev pub FindsOptions : List Row → Option Options → Type 0
FindsOptions rows options = MatchOption options ((o : Options) → SaysValues rows o → IsInRange o → ⊥)
    (λ found. SaysValues rows found × IsInRange found)

-- ---- the command

-- ---- clap's answers

-- what is asked for by what clap found
abbrev pub AsksByFound : List Row → Request → Type 0
AsksByFound rows (request.Serve o) = SaysValues rows o × IsInRange o
AsksByFound rows request.Unknown = (o : Options) → SaysValues rows o → IsInRange o → ⊥
AsksByFound rows _ = ⊥

-- what is asked for where clap's error has this kind, other than want of memory
abbrev pub AsksByKind : ErrorKind → Request → Type 0
AsksByKind why (request.Help text) = why ≡ kind.DisplayHelp
AsksByKind why (request.Version text) = (why ≡ kind.DisplayVersion) × (string_bytes text ≡ codes "nsqd 1.0.0" ++ 10 ∷ [])
AsksByKind why request.Unknown = (why ≢ kind.OutOfMemory) × (why ≢ kind.DisplayHelp) × (why ≢ kind.DisplayVersion)
AsksByKind why _ = ⊥

-- what clap's words ask for, over the kinds of its refusal and what it found
abbrev pub AsksClap : Kinds → List Row → Request → Type 0
AsksClap kinds rows (request.Serve o) = (kinds ≡ []) × SaysValues rows o × IsInRange o
AsksClap kinds rows request.Unknown = ((kinds ≡ []) × ((o : Options) → SaysValues rows o → IsInRange o → ⊥))
    ⊎ ((why : ErrorKind) × (kinds ≡ why ∷ []) × (why ≢ kind.DisplayHelp) × (why ≢ kind.DisplayVersion))
AsksClap kinds rows (request.Help text) = kinds ≡ kind.DisplayHelp ∷ []
AsksClap kinds rows (request.Version text) = (kinds ≡ kind.DisplayVersion ∷ []) × (string_bytes text ≡ codes "nsqd 1.0.0" ++ 10 ∷ [])
AsksClap kinds rows _ = ⊥
