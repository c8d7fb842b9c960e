-- What a client writes: what the writers ask of a command, and what its bytes spell.
use Rattle.std.specs.Prelude.{ℕ, ◌-◌, ◌^◌, ◌<◌, List, ◌++◌, ◌∷◌, length}
use Rattle.std.specs.List.{AllPass, AllByRecursion}
use Rattle.v2_frame.specs.declared.command.Command.{Command}
use Rattle.v2_frame.specs.declared.command.Command.TheVariants as command
use Rattle.v2_frame.specs.declared.fault.Limits.{Limits}
use Rattle.v2_frame.specs.Line.{is_id_byte}
use Rattle.v2_frame.specs.Heading.{Heading, Dpub, Rdy, Fin, Req, Touch, Mpub}
use Rattle.v2_frame.specs.Command.{sized, content_of, heading_of, Spells, canonical_line, IsShortNumber}

-- sizes as great as four bytes hold
abbrev pub any_size : Limits
any_size = record { msg = 2 ^ 32 - 1; body = 2 ^ 32 - 1 }

-- the bytes spell the command, judged without a greatest size
abbrev pub IsSpelled : List ℕ → Command → Type 0
IsSpelled bytes c = Spells any_size bytes c

-- the text isn't empty, and shorter than 2^31
pub record CanWriteText (text : List ℕ) : Type 0 where
  pub some : 0 < length text
  pub fits : length text < 2 ^ 31

-- the batch has one body at least, none of them is empty, and their content is shorter than 2^31
pub record CanWriteBatch (bodies : List (List ℕ)) : Type 0 where
  pub some : 0 < length bodies
  pub each : AllByRecursion (λ body. 0 < length body) bodies
  pub fits : length (content_of bodies) < 2 ^ 31

-- each number has at most 18 digits, and no id has a space or a byte of a line end
abbrev pub CanWriteWords : Heading → Type 0
CanWriteWords (Dpub topic delay) = IsShortNumber delay
CanWriteWords (Rdy count) = IsShortNumber count
CanWriteWords (Fin id) = AllPass is_id_byte id
CanWriteWords (Req id delay) = AllPass is_id_byte id × IsShortNumber delay
CanWriteWords (Touch id) = AllPass is_id_byte id
CanWriteWords _ = Unit {0}

-- what stands behind the line isn't empty where a body stands there, and its size is below 2^31
abbrev pub CanWriteBehind : Command → Type 0
CanWriteBehind (command.Identify body) = CanWriteText body
CanWriteBehind (command.Pub topic body) = CanWriteText body
CanWriteBehind (command.Mpub topic bodies) = CanWriteBatch bodies
CanWriteBehind (command.Dpub topic delay body) = CanWriteText body
CanWriteBehind _ = Unit {0}

-- a writer takes the command
pub record CanWrite (c : Command) : Type 0 where
  pub words : CanWriteWords (heading_of c)
  pub behind : CanWriteBehind c

-- the canonical spelling of an MPUB
abbrev pub batch_bytes : List ℕ → List (List ℕ) → List ℕ
batch_bytes topic bodies = canonical_line (Mpub topic) ++ 10 ∷ sized (content_of bodies)
