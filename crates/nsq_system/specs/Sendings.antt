-- What becomes of bytes that are taken, gathered and sent.
use Rattle.std.specs.Prelude.{ℕ, ◌≡◌, ◌+◌, ◌<◌, ◌≤◌, ◌⊎◌, ◌++◌, List, [], length, take, Bool, true, false, Option, None, Some}
use Rattle.std.specs.Io.KnownBytes.{Appends}
use Rattle.nsq_system.specs.Frames.{EndsInError}
use Rattle.nsq_outside.specs.declared.conn.Write.{Write}
use Rattle.nsq_outside.specs.declared.conn.Write.TheVariants.{Took, Failed}

-- of some bytes, those from the front up to this rest joined what a writer holds
pub record SendsUpTo (old new : Option (List ℕ)) (bytes rest : List ℕ) : Type 0 where
  pub sent : List ℕ
  pub whole : bytes ≡ sent ++ rest
  pub joined : Appends old new sent

-- some of these bytes from the front joined what a writer holds
abbrev pub SendsSome : Option (List ℕ) → Option (List ℕ) → List ℕ → Type 0
SendsSome old new bytes = (rest : List ℕ) × SendsUpTo old new bytes rest

-- the writer tells what it holds: of bytes that were taken, from the first on, it holds those from the front, in order and none twice, and the others
-- wait. Where it is broken it holds some from the front, and the others are lost
abbrev pub IsDelivered : (held : Option (List ℕ)) → (waiting : List ℕ) → (broken : Bool) → (taken : List ℕ) → Type 0
IsDelivered None waiting broken taken = ⊥
IsDelivered (Some held) waiting false taken = taken ≡ held ++ waiting
IsDelivered (Some held) waiting true taken = (lost : List ℕ) × (taken ≡ held ++ lost)

-- the bytes that a write took
abbrev pub taken_by : List ℕ → Write → List ℕ
taken_by from (Took n) = take n from
taken_by from Failed = []

-- bytes that were taken, all of them, stand behind those that were gathered before, or behind none where there was too little room; or nothing is
-- gathered any more, since they end in an error frame or are more than there can be room for. Those that weren't taken don't stand there
abbrev pub Gathers : List ℕ → List ℕ → List ℕ → Write → Type 0
Gathers before now from (Took n) =
    ((n ≡ length from) × ((now ≡ before ++ from) ⊎ ((now ≡ from) × (16384 < length before + length from))))
    ⊎ ((now ≡ []) × (EndsInError from ⊎ (16384 < length from)))
Gathers before now from Failed = (now ≡ before) ⊎ (now ≡ [])

-- bytes that were taken and end in an error frame are sent at once
abbrev pub SendsErrors : List ℕ → List ℕ → Write → Type 0
SendsErrors from now (Took n) = EndsInError from → now ≡ []
SendsErrors from now Failed = Unit {0}

-- bytes that were taken, don't end in one, and fit behind those that were gathered before stand there
abbrev pub KeepsOthers : List ℕ → List ℕ → List ℕ → Write → Type 0
KeepsOthers before now from (Took n) = length before + length from ≤ 16384 → (EndsInError from → ⊥) → now ≡ before ++ from
KeepsOthers before now from Failed = Unit {0}
