-- The laws of the V2 stream, each the contract of a function that does nothing.
use Rattle.std.specs.Prelude.{◌≡◌, ℕ, List, ◌++◌}
use Rattle.v2_frame.specs.declared.command.Command.{Command}
use Rattle.v2_frame.specs.declared.fault.Fault.{Fault}
use Rattle.v2_frame.specs.declared.fault.Limits.{Limits}
use Rattle.v2_frame.specs.declared.fault.Rest.{Rest}
use Rattle.v2_frame.specs.declared.fault.Rest.TheVariants.{Faulty}
use Rattle.v2_frame.specs.Line.{AreBytes}
use Rattle.v2_frame.specs.Command.{Spells, canonical, IsWritable}
use Rattle.v2_frame.specs.Judging.{Verdict, Whole, Judged, Begins}
use Rattle.v2_frame.specs.Script.{IsScript}

-- no spelling of a command begins another's, and equal bytes spell one command
abbrev pub NoSpellingBeginsAnother : Type 0
NoSpellingBeginsAnother = (limits : Limits) (a b x y : List ℕ) (c d : Command) → Spells limits a c → Spells limits b d → a ++ x ≡ b ++ y → (a ≡ b) × (c ≡ d)

-- bytes have at most one verdict: a whole command, a fault of one kind at one place, or unfinished
abbrev pub OneVerdict : Type 0
OneVerdict = (limits : Limits) (bytes : List ℕ) (v w : Verdict) → Judged limits bytes v → Judged limits bytes w → v ≡ w

-- a spelling at the front of the bytes is their verdict
abbrev pub SpelledIsWhole : Type 0
SpelledIsWhole = (limits : Limits) (bytes rest : List ℕ) (c : Command) → Begins limits bytes c rest → Judged limits bytes (Whole c rest)

-- and the verdict of a whole command is a spelling at the front
abbrev pub WholeIsSpelled : Type 0
WholeIsSpelled = (limits : Limits) (bytes rest : List ℕ) (c : Command) → Judged limits bytes (Whole c rest) → Begins limits bytes c rest

-- the longer list of commands begins with the shorter, and where the shorter ends with a fault the two are equal
pub record GoesOn (commands : List Command) (rest : Rest) (longer : List Command) (later : Rest) : Type 0 where
  pub behind : List Command
  pub whole : longer ≡ commands ++ behind
  pub stays : (fault : Fault) → rest ≡ Faulty fault → (longer ≡ commands) × (later ≡ rest)

-- the script of more bytes begins with the script of fewer, and a fault stays
abbrev pub ScriptsGoOn : Type 0
ScriptsGoOn = (limits : Limits) (bytes more : List ℕ) (commands longer : List Command) (rest later : Rest) → IsScript limits bytes commands rest → IsScript limits (bytes ++ more) longer later → GoesOn commands rest longer later

-- a stream has at most one script
abbrev pub OneScript : Type 0
OneScript = (limits : Limits) (bytes : List ℕ) (commands others : List Command) (rest other : Rest) → IsScript limits bytes commands rest → IsScript limits bytes others other → (commands ≡ others) × (rest ≡ other)

-- bytes at a command's start have a verdict
abbrev pub HasVerdict : Limits → List ℕ → Type 0
HasVerdict limits bytes = (verdict : Verdict) × Judged limits bytes verdict

-- all bytes have one
abbrev pub EveryVerdict : Type 0
EveryVerdict = (limits : Limits) (bytes : List ℕ) → AreBytes bytes → HasVerdict limits bytes

-- a stream of these bytes has a script
abbrev pub SomeScript : Limits → List ℕ → Type 0
SomeScript limits bytes = (commands : List Command) × (rest : Rest) × IsScript limits bytes commands rest

-- every stream has one
abbrev pub EveryScript : Type 0
EveryScript = (limits : Limits) (bytes : List ℕ) → AreBytes bytes → SomeScript limits bytes

-- the canonical spelling of a command that has a spelling is one
abbrev pub CanonicalIsSpelling : Type 0
CanonicalIsSpelling = (limits : Limits) (c : Command) → IsWritable limits c → Spells limits (canonical c) c
