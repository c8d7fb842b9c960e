-- What is judged in bytes that begin at the start of a command. Each field is judged once its last byte is there.
-- Places count from the first byte of the command, and behind a line from the size's first byte.
use Rattle.std.specs.Prelude.{◌≡◌, ◌⊎◌, ℕ, ◌+◌, ◌^◌, ◌<◌, ◌≤◌, List, ◌++◌, length, flat_map, Option, Some, None}
use Rattle.std.specs.List.{AllByRecursion}
use Rattle.v2_frame.specs.declared.command.Command.{Command}
use Rattle.v2_frame.specs.declared.fault.FaultKind.{FaultKind}
use Rattle.v2_frame.specs.declared.fault.FaultKind.TheVariants.{LineTooLong, BadWord, BadTopic, BadChannel, BadSize, BadBody}
use Rattle.v2_frame.specs.declared.fault.Limits.{Limits}
use Rattle.v2_frame.specs.Line.{HasNo, HasLine, text_of, words_of}
use Rattle.v2_frame.specs.Heading.{Heading, Identify, Pub, Mpub, Dpub, SaysNothing, IsWellNamed, HasBadTopic, HasBadChannel}
pub use Rattle.v2_sizes.specs.Sizes.{HasSize, IsBadSize}
use Rattle.v2_frame.specs.Command.{longest_line, size4, sized, heading_of, bytes_behind, IsSize, IsBody, IsWithin, LineSays, Spells}

-- what is found at a command's start: a whole command and the bytes behind it, a fault of a kind at a place, or neither yet
pub data Verdict : Type 0 where
  Whole : (command : Command) (rest : List ℕ) → Verdict
  Faulty : (kind : FaultKind) (at : ℕ) → Verdict
  Unfinished : Verdict

-- the verdict on bytes that stand so much further on
abbrev pub shifted : ℕ → Verdict → Verdict
shifted n (Whole command rest) = Whole command rest
shifted n (Faulty kind at) = Faulty kind (n + at)
shifted n Unfinished = Unfinished

-- the bytes begin with so many bytes, and go on with the rest
pub record HasFront (bytes : List ℕ) (size : ℕ) (front rest : List ℕ) : Type 0 where
  pub whole : bytes ≡ front ++ rest
  pub long : length front ≡ size

-- the bytes begin with these bodies of good sizes, each behind its size, and go on with the rest
pub record HasBodies (most : ℕ) (bytes : List ℕ) (bodies : List (List ℕ)) (rest : List ℕ) : Type 0 where
  pub whole : bytes ≡ flat_map sized bodies ++ rest
  pub each : AllByRecursion (IsBody most) bodies

-- what is wrong where the size of an MPUB's next message has to stand: too few bytes for a size, a bad size, or a size above
-- what is left
pub data IsBadMessage (most : ℕ) (bytes : List ℕ) : FaultKind → Type 0 where
  no_size : length bytes < 4 → IsBadMessage most bytes BadBody
  bad_size : {size : ℕ} {rest : List ℕ} → HasSize bytes size rest → IsBadSize most size → IsBadMessage most bytes BadSize
  cut_body : {size : ℕ} {rest : List ℕ} → HasSize bytes size rest → IsSize most size → length rest < size → IsBadMessage most bytes BadBody

-- the place behind an MPUB's size, its count and these bodies
abbrev pub place_behind : List (List ℕ) → ℕ
place_behind bodies = 8 + length (flat_map sized bodies)

-- the first fault in the content of an MPUB, and its place from the first byte of the size before the content
pub data IsBadContent (most : ℕ) (content : List ℕ) : FaultKind → ℕ → Type 0 where
  no_count : length content < 4 → IsBadContent most content BadBody 0
  count_zero : {rest : List ℕ} → HasSize content 0 rest → IsBadContent most content BadBody 0
  bad_message : {count : ℕ} {bodies : List (List ℕ)} {rest left : List ℕ} {kind : FaultKind} {at : ℕ} → HasSize content count rest → HasBodies most rest bodies left → length bodies < count
      → IsBadMessage most left kind → at ≡ place_behind bodies → IsBadContent most content kind at
  left_over : {count : ℕ} {bodies : List (List ℕ)} {rest left : List ℕ} {at : ℕ} → HasSize content count rest → 0 < count → HasBodies most rest bodies left → length bodies ≡ count
      → 0 < length left → at ≡ place_behind bodies → IsBadContent most content BadBody at

-- the greatest size of what stands behind a line, and the fault of a size that is 0 or above it
pub record Sizing : Type 0 where
  pub most : ℕ
  pub wrong : FaultKind

-- the sizing of what stands behind the line, where a size stands there
abbrev pub sizing_of : Limits → Heading → Option Sizing
sizing_of limits Identify = Some (record { most = limits.body; wrong = BadBody })
sizing_of limits (Pub topic) = Some (record { most = limits.msg; wrong = BadSize })
sizing_of limits (Mpub topic) = Some (record { most = limits.body; wrong = BadBody })
sizing_of limits (Dpub topic delay) = Some (record { most = limits.msg; wrong = BadSize })
sizing_of limits _ = None

-- what is judged in the bytes behind a line that says the heading with good names
pub data Behind (limits : Limits) (heading : Heading) (bytes : List ℕ) : Verdict → Type 0 where
  whole : {command : Command} {rest : List ℕ} → heading_of command ≡ heading → bytes ≡ bytes_behind command ++ rest → IsWithin limits command → Behind limits heading bytes (Whole command rest)
  open_size : {sizing : Sizing} → sizing_of limits heading ≡ Some sizing → length bytes < 4 → Behind limits heading bytes Unfinished
  bad_size : {sizing : Sizing} {size : ℕ} {rest : List ℕ} {kind : FaultKind} → sizing_of limits heading ≡ Some sizing → HasSize bytes size rest → IsBadSize sizing.most size → kind ≡ sizing.wrong → Behind limits heading bytes (Faulty kind 0)
  open_body : {sizing : Sizing} {size : ℕ} {rest : List ℕ} → sizing_of limits heading ≡ Some sizing → HasSize bytes size rest → IsSize sizing.most size → length rest < size → Behind limits heading bytes Unfinished
  bad_content : {topic rest content left : List ℕ} {size : ℕ} {kind : FaultKind} {at : ℕ} → heading ≡ Mpub topic → HasSize bytes size rest → IsSize limits.body size → HasFront rest size content left
      → IsBadContent limits.msg content kind at → Behind limits heading bytes (Faulty kind at)

-- the bytes begin with a line that says the heading, and go on with the rest
pub record HasHeading (bytes line : List ℕ) (heading : Heading) (rest : List ℕ) : Type 0 where
  pub line_is : HasLine bytes line rest
  pub says : LineSays line heading

-- how many bytes without a line feed make a line too long: one more than the longest line and a carriage return
abbrev pub too_long_line : ℕ
too_long_line = 16386

-- what is judged in bytes that begin at the start of a command: its line, its words, its topic, its channel, and then what
-- stands behind the line
pub data Judged (limits : Limits) (bytes : List ℕ) : Verdict → Type 0 where
  open_line : HasNo 10 bytes → length bytes < too_long_line → Judged limits bytes Unfinished
  endless_line : {front rest : List ℕ} → HasFront bytes too_long_line front rest → HasNo 10 front → Judged limits bytes (Faulty LineTooLong 0)
  long_line : {line rest : List ℕ} → HasLine bytes line rest → longest_line < length (text_of line) → Judged limits bytes (Faulty LineTooLong 0)
  bad_word : {line rest : List ℕ} → HasLine bytes line rest → length (text_of line) ≤ longest_line → SaysNothing (words_of (text_of line)) → Judged limits bytes (Faulty BadWord 0)
  bad_topic : {line rest : List ℕ} {heading : Heading} → HasHeading bytes line heading rest → HasBadTopic heading → Judged limits bytes (Faulty BadTopic 0)
  bad_channel : {line rest : List ℕ} {heading : Heading} → HasHeading bytes line heading rest → HasBadChannel heading → Judged limits bytes (Faulty BadChannel 0)
  good_line : {line rest : List ℕ} {heading : Heading} {verdict shown : Verdict} → HasHeading bytes line heading rest → IsWellNamed heading → Behind limits heading rest verdict
      → shown ≡ shifted (length line + 1) verdict → Judged limits bytes shown

-- the command that the bytes begin with has this fault, at this place from its first byte
abbrev pub IsFault : Limits → List ℕ → FaultKind → ℕ → Type 0
IsFault limits bytes kind at = Judged limits bytes (Faulty kind at)

-- the bytes have neither a whole command at their front nor a fault
abbrev pub IsUnfinished : Limits → List ℕ → Type 0
IsUnfinished limits bytes = Judged limits bytes Unfinished

-- the bytes begin with a spelling of the command, and go on with the rest
pub record Begins (limits : Limits) (bytes : List ℕ) (command : Command) (rest : List ℕ) : Type 0 where
  pub front : List ℕ
  pub whole : bytes ≡ front ++ rest
  pub spells : Spells limits front command
