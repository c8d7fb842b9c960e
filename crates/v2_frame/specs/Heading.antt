-- What the line of a command says, before its names are judged.
use Rattle.std.specs.Prelude.{◌≡◌, ◌≢◌, ◌⊎◌, ℕ, ℤ, pos, List, [], ◌∷◌, codes}
use Rattle.nsq_base.specs.Name.{IsName}
use Rattle.v2_frame.specs.Line.{IsNumber, IsIdWord}

-- a command without what stands behind its line
pub data Heading : Type 0 where
  Identify : Heading
  Sub : (topic channel : List ℕ) → Heading
  Pub : (topic : List ℕ) → Heading
  Mpub : (topic : List ℕ) → Heading
  Dpub : (topic : List ℕ) (delay : ℤ) → Heading
  Rdy : (count : ℤ) → Heading
  Fin : (id : List ℕ) → Heading
  Req : (id : List ℕ) (delay : ℤ) → Heading
  Touch : (id : List ℕ) → Heading
  Cls : Heading
  Nop : Heading

-- the words of a line say the heading; no word is empty
abbrev pub Says : List (List ℕ) → Heading → Type 0
Says words Identify = words ≡ codes "IDENTIFY" ∷ []
Says words (Sub topic channel) = (words ≡ codes "SUB" ∷ topic ∷ channel ∷ []) × (topic ≢ []) × (channel ≢ [])
Says words (Pub topic) = (words ≡ codes "PUB" ∷ topic ∷ []) × (topic ≢ [])
Says words (Mpub topic) = (words ≡ codes "MPUB" ∷ topic ∷ []) × (topic ≢ [])
Says words (Dpub topic delay) = (number : List ℕ) × (words ≡ codes "DPUB" ∷ topic ∷ number ∷ []) × (topic ≢ []) × IsNumber number delay
Says words (Rdy count) = ((words ≡ codes "RDY" ∷ []) × (count ≡ pos 1)) ⊎ ((number : List ℕ) × (words ≡ codes "RDY" ∷ number ∷ []) × IsNumber number count)
Says words (Fin id) = (words ≡ codes "FIN" ∷ id ∷ []) × IsIdWord id
Says words (Req id delay) = (number : List ℕ) × (words ≡ codes "REQ" ∷ id ∷ number ∷ []) × IsIdWord id × IsNumber number delay
Says words (Touch id) = (words ≡ codes "TOUCH" ∷ id ∷ []) × IsIdWord id
Says words Cls = words ≡ codes "CLS" ∷ []
Says words Nop = words ≡ codes "NOP" ∷ []

-- the words say no heading
abbrev pub SaysNothing : List (List ℕ) → Type 0
SaysNothing words = (heading : Heading) → Says words heading → ⊥

-- each topic and each channel that the heading has is a name
abbrev pub IsWellNamed : Heading → Type 0
IsWellNamed (Sub topic channel) = IsName topic × IsName channel
IsWellNamed (Pub topic) = IsName topic
IsWellNamed (Mpub topic) = IsName topic
IsWellNamed (Dpub topic delay) = IsName topic
IsWellNamed _ = Unit {0}

-- the heading has a topic that is no name
abbrev pub HasBadTopic : Heading → Type 0
HasBadTopic (Sub topic channel) = ¬ IsName topic
HasBadTopic (Pub topic) = ¬ IsName topic
HasBadTopic (Mpub topic) = ¬ IsName topic
HasBadTopic (Dpub topic delay) = ¬ IsName topic
HasBadTopic _ = ⊥

-- the heading has a good topic, and a channel that is no name
abbrev pub HasBadChannel : Heading → Type 0
HasBadChannel (Sub topic channel) = IsName topic × (¬ IsName channel)
HasBadChannel _ = ⊥
