-- What the parts of the judge answer.
use Rattle.std.specs.Prelude.{◌≡◌, ◌≢◌, ◌⊎◌, ℕ, ◌+◌, ◌<◌, ◌≤◌, List, [], ◌∷◌, ◌++◌, length, take, drop, codes, Some}
use Rattle.std.specs.List.{AllByRecursion}
use Rattle.v2_frame.specs.declared.batch.Content.{Content}
use Rattle.v2_frame.specs.declared.batch.Content.TheVariants as content
use Rattle.v2_frame.specs.declared.fault.FaultKind.{FaultKind}
use Rattle.v2_frame.specs.declared.fault.FaultKind.TheVariants.{BadTopic, BadChannel}
use Rattle.v2_frame.specs.declared.fault.Limits.{Limits}
use Rattle.v2_frame.specs.declared.judge.Found.{Found}
use Rattle.v2_frame.specs.declared.judge.Found.TheVariants as found
use Rattle.v2_frame.specs.declared.start.Sized.{Sized}
use Rattle.v2_frame.specs.declared.start.Sized.TheVariants as sized
use Rattle.v2_frame.specs.declared.start.Start.{Start}
use Rattle.v2_frame.specs.declared.start.Start.TheVariants as start
use Rattle.v2_frame.specs.declared.heading.Heading.{Heading as Line}
use Rattle.v2_frame.specs.declared.heading.Heading.TheVariants as line
use Rattle.v2_frame.specs.declared.heading.Verb.{Verb}
use Rattle.v2_frame.specs.declared.heading.Verb.TheVariants as verb
use Rattle.v2_frame.specs.declared.line.Words.{Words}
use Rattle.v2_frame.specs.declared.line.Words.TheVariants.{One, Two, Three, Many}
pub use Rattle.v2_sizes.specs.Sizes.{IsWholeField, IsField}
use Rattle.v2_frame.specs.Line.{HasNo}
use Rattle.v2_frame.specs.Heading.{Heading, Identify, Sub, Pub, Mpub, Dpub, Rdy, Fin, Req, Touch, Cls, Nop, IsWellNamed, HasBadTopic, HasBadChannel}
use Rattle.v2_frame.specs.Command.{heading_of, bytes_behind, content_of, IsSize, IsBody, IsWithin}
use Rattle.v2_frame.specs.Judging.{Verdict, Whole, Faulty, Unfinished, HasSize, IsBadSize, IsBadContent, HasHeading, Sizing, sizing_of}

-- these are the words, where there are at most three
abbrev pub AreWords : List (List ℕ) → Words → Type 0
AreWords words (One a) = words ≡ a.now ∷ []
AreWords words (Two a b) = words ≡ a.now ∷ b.now ∷ []
AreWords words (Three a b c) = words ≡ a.now ∷ b.now ∷ c.now ∷ []
AreWords words Many = 3 < length words

-- the heading that the program found
abbrev pub seen_heading : Line → Heading
seen_heading line.Identify = Identify
seen_heading (line.Sub topic channel) = Sub topic.now channel.now
seen_heading (line.Pub topic) = Pub topic.now
seen_heading (line.Mpub topic) = Mpub topic.now
seen_heading (line.Dpub topic delay) = Dpub topic.now delay
seen_heading (line.Rdy count) = Rdy count
seen_heading (line.Fin id) = Fin id
seen_heading (line.Req id delay) = Req id delay
seen_heading (line.Touch id) = Touch id
seen_heading line.Cls = Cls
seen_heading line.Nop = Nop

-- how a verb is spelled
abbrev pub spelled : Verb → List ℕ
spelled verb.Identify = codes "IDENTIFY"
spelled verb.Sub = codes "SUB"
spelled verb.Pub = codes "PUB"
spelled verb.Mpub = codes "MPUB"
spelled verb.Dpub = codes "DPUB"
spelled verb.Rdy = codes "RDY"
spelled verb.Fin = codes "FIN"
spelled verb.Req = codes "REQ"
spelled verb.Touch = codes "TOUCH"
spelled verb.Cls = codes "CLS"
spelled verb.Nop = codes "NOP"

-- the word spells no verb
abbrev pub IsNoVerb : List ℕ → Type 0
IsNoVerb word = (verb : Verb) → word ≢ spelled verb

-- the heading of a command that has a size behind its line
abbrev pub sized_heading : Sized → Heading
sized_heading sized.Identify = Identify
sized_heading (sized.Pub topic) = Pub topic
sized_heading (sized.Mpub topic) = Mpub topic
sized_heading (sized.Dpub topic delay) = Dpub topic delay

-- the start of a command with a well-named heading
abbrev pub IsStart : Heading → Start → Type 0
IsStart heading (start.Alone command) = (heading_of command ≡ heading) × IsWellNamed heading × (bytes_behind command ≡ []) × ((limits : Limits) → IsWithin limits command)
IsStart heading (start.Sized s) = (heading ≡ sized_heading s) × IsWellNamed heading

-- the heading has a bad name of this kind
abbrev pub HasBadName : Heading → FaultKind → Type 0
HasBadName heading BadTopic = HasBadTopic heading
HasBadName heading BadChannel = HasBadChannel heading
HasBadName heading _ = ⊥

-- what the content of an MPUB is
abbrev pub IsContent : ℕ → List ℕ → Content → Type 0
IsContent most bytes (content.Good bodies) = (bytes ≡ content_of bodies) × (0 < length bodies) × AllByRecursion (IsBody most) bodies
IsContent most bytes (content.Bad kind at) = IsBadContent most bytes kind at

-- the verdict on the bytes that was found
abbrev pub verdict_of : List ℕ → Found → Verdict
verdict_of bytes (found.Whole command taken) = Whole command (drop taken bytes)
verdict_of bytes (found.Faulty kind at) = Faulty kind at
verdict_of bytes found.Unfinished = Unfinished

-- a command takes no more bytes than there are, and a fault stands within them
abbrev pub StaysWithin : List ℕ → Found → Type 0
StaysWithin bytes (found.Whole command taken) = taken ≤ length bytes
StaysWithin bytes (found.Faulty kind at) = at ≤ length bytes
StaysWithin bytes found.Unfinished = Unit {0}

-- the same, and a command takes one byte at least
abbrev pub TakesSome : List ℕ → Found → Type 0
TakesSome bytes (found.Whole command taken) = (0 < taken) × (taken ≤ length bytes)
TakesSome bytes (found.Faulty kind at) = at ≤ length bytes
TakesSome bytes found.Unfinished = Unit {0}

-- the first line feed of the bytes stands at this place
pub record EndsLine (bytes : List ℕ) (end : ℕ) : Type 0 where
  pub within : end < length bytes
  pub first : HasNo 10 (take end bytes)
  pub whole : bytes ≡ take end bytes ++ 10 ∷ drop (end + 1) bytes

-- behind a line that says the heading stand a good size and so many bytes
pub record HasText (limits : Limits) (heading : Heading) (bytes : List ℕ) : Type 0 where
  pub sizing : Sizing
  pub sized : sizing_of limits heading ≡ Some sizing
  pub size : ℕ
  pub there : IsWholeField sizing.most bytes size

-- the bytes begin with a good line of a command that has a size behind its line, and the size is good, and so many bytes are
-- there
pub record HasSizedText (limits : Limits) (bytes : List ℕ) : Type 0 where
  pub line : List ℕ
  pub rest : List ℕ
  pub heading : Heading
  pub is : HasHeading bytes line heading rest
  pub named : IsWellNamed heading
  pub text : HasText limits heading rest
