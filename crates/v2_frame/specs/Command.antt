-- Which bytes spell a command.
use Rattle.std.specs.Prelude.{◌≡◌, ℕ, ◌^◌, ◌<◌, ◌≤◌, List, [], ◌∷◌, ◌++◌, length, flat_map, codes, ℤ, nat_abs}
use Rattle.std.specs.List.{AllByRecursion, join_with_byte}
use Rattle.std.specs.Fmt.{signed_decimal}
use Rattle.v2_frame.specs.declared.command.Command.{Command}
use Rattle.v2_frame.specs.declared.command.Command.TheVariants as command
use Rattle.v2_frame.specs.declared.fault.Limits.{Limits}
use Rattle.v2_frame.specs.Line.{HasNo, text_of, words_of, IsIdWord}
pub use Rattle.v2_sizes.specs.Sizes.{size4, IsSize}
use Rattle.v2_frame.specs.Heading.{Heading, Identify, Sub, Pub, Mpub, Dpub, Rdy, Fin, Req, Touch, Cls, Nop, Says, IsWellNamed}

-- the most bytes that a line has before its line end
abbrev pub longest_line : ℕ
longest_line = 16384

-- a text behind its size
abbrev pub sized : List ℕ → List ℕ
sized text = size4 (length text) ++ text

-- the content of an MPUB: the count of its bodies, then each body behind its size
abbrev pub content_of : List (List ℕ) → List ℕ
content_of bodies = size4 (length bodies) ++ flat_map sized bodies

-- what the line of a command says
abbrev pub heading_of : Command → Heading
heading_of (command.Identify body) = Identify
heading_of (command.Sub topic channel) = Sub topic channel
heading_of (command.Pub topic body) = Pub topic
heading_of (command.Mpub topic bodies) = Mpub topic
heading_of (command.Dpub topic delay body) = Dpub topic delay
heading_of (command.Rdy count) = Rdy count
heading_of (command.Fin id) = Fin id
heading_of (command.Req id delay) = Req id delay
heading_of (command.Touch id) = Touch id
heading_of command.Cls = Cls
heading_of command.Nop = Nop

-- what stands behind the line of a command
abbrev pub bytes_behind : Command → List ℕ
bytes_behind (command.Identify body) = sized body
bytes_behind (command.Pub topic body) = sized body
bytes_behind (command.Mpub topic bodies) = sized (content_of bodies)
bytes_behind (command.Dpub topic delay body) = sized body
bytes_behind _ = []

-- the text has a good size
abbrev pub IsBody : ℕ → List ℕ → Type 0
IsBody most body = IsSize most (length body)

-- what stands behind the line has good sizes, and an MPUB has one body at least
abbrev pub IsWithin : Limits → Command → Type 0
IsWithin limits (command.Identify body) = IsBody limits.body body
IsWithin limits (command.Pub topic body) = IsBody limits.msg body
IsWithin limits (command.Mpub topic bodies) = (0 < length bodies) × AllByRecursion (IsBody limits.msg) bodies × IsBody limits.body (content_of bodies)
IsWithin limits (command.Dpub topic delay body) = IsBody limits.msg body
IsWithin limits _ = Unit {0}

-- the line isn't too long, and its words say the heading
pub record LineSays (line : List ℕ) (heading : Heading) : Type 0 where
  pub short : length (text_of line) ≤ longest_line
  pub says : Says (words_of (text_of line)) heading

-- the bytes spell the command: a line that says it, and what stands behind the line
pub record Spells (limits : Limits) (bytes : List ℕ) (c : Command) : Type 0 where
  pub line : List ℕ
  pub whole : bytes ≡ line ++ 10 ∷ bytes_behind c
  pub first : HasNo 10 line
  pub says : LineSays line (heading_of c)
  pub named : IsWellNamed (heading_of c)
  pub within : IsWithin limits c

-- the words of the canonical line: numbers without leading zeros, and RDY with its number
abbrev pub canonical_words : Heading → List (List ℕ)
canonical_words Identify = codes "IDENTIFY" ∷ []
canonical_words (Sub topic channel) = codes "SUB" ∷ topic ∷ channel ∷ []
canonical_words (Pub topic) = codes "PUB" ∷ topic ∷ []
canonical_words (Mpub topic) = codes "MPUB" ∷ topic ∷ []
canonical_words (Dpub topic delay) = codes "DPUB" ∷ topic ∷ signed_decimal delay ∷ []
canonical_words (Rdy count) = codes "RDY" ∷ signed_decimal count ∷ []
canonical_words (Fin id) = codes "FIN" ∷ id ∷ []
canonical_words (Req id delay) = codes "REQ" ∷ id ∷ signed_decimal delay ∷ []
canonical_words (Touch id) = codes "TOUCH" ∷ id ∷ []
canonical_words Cls = codes "CLS" ∷ []
canonical_words Nop = codes "NOP" ∷ []

-- the canonical line, without its line end: the words parted by single spaces
abbrev pub canonical_line : Heading → List ℕ
canonical_line heading = join_with_byte 32 (canonical_words heading)

-- the canonical spelling: the canonical line, a line feed, and what stands behind the line
abbrev pub canonical : Command → List ℕ
canonical c = canonical_line (heading_of c) ++ 10 ∷ bytes_behind c

-- the number has at most 18 digits
abbrev pub IsShortNumber : ℤ → Type 0
IsShortNumber number = nat_abs number < 10 ^ 18

-- each number of the heading has at most 18 digits, and each id is an id word
abbrev pub HasGoodWords : Heading → Type 0
HasGoodWords (Dpub topic delay) = IsShortNumber delay
HasGoodWords (Rdy count) = IsShortNumber count
HasGoodWords (Fin id) = IsIdWord id
HasGoodWords (Req id delay) = IsIdWord id × IsShortNumber delay
HasGoodWords (Touch id) = IsIdWord id
HasGoodWords _ = Unit {0}

-- what gives a command a spelling: good names, numbers of at most 18 digits, ids that are id words, good sizes
pub record IsWritable (limits : Limits) (c : Command) : Type 0 where
  pub named : IsWellNamed (heading_of c)
  pub words : HasGoodWords (heading_of c)
  pub within : IsWithin limits c
