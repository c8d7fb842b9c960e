-- What a read and a write of a stream do.
use Rattle.std.specs.Prelude.{ℕ, ◌≡◌, ◌≤◌, ◌<◌, List, [], ◌∷◌, ◌++◌, take, drop, Bool, true, false}
use Rattle.nsq_outside.specs.Causes.{Rose, CountsFault}
use Rattle.nsq_outside.specs.declared.conn.Read.{Read}
use Rattle.nsq_outside.specs.declared.conn.Read.TheVariants.{Got, Nothing, End, Failed}
use Rattle.nsq_outside.specs.declared.conn.Write.{Write}
use Rattle.nsq_outside.specs.declared.conn.Write.TheVariants.{Took, Failed as NotTaken}

-- a piece has at least one byte and fits the buffer
abbrev pub IsAmountRead : Read → ℕ → Type 0
IsAmountRead (Got n) most = (0 < n) × (n ≤ most)
IsAmountRead Nothing most = Unit {0}
IsAmountRead End most = Unit {0}
IsAmountRead Failed most = Unit {0}

-- a piece moves from the bytes to come to the pieces read; every other answer moves nothing, and the end comes only where no byte is left
abbrev pub Reads : List (List ℕ) → List ℕ → List (List ℕ) → List ℕ → List ℕ → Read → Type 0
Reads pieces left pieces' left' into (Got n) = (pieces' ≡ pieces ++ take n into ∷ []) × (left ≡ take n into ++ left')
Reads pieces left pieces' left' into Nothing = (pieces' ≡ pieces) × (left' ≡ left)
Reads pieces left pieces' left' into End = (pieces' ≡ pieces) × (left' ≡ left) × (left ≡ [])
Reads pieces left pieces' left' into Failed = (pieces' ≡ pieces) × (left' ≡ left)

-- the buffer is as before, but for a piece at its start
abbrev pub KeepsBuffer : List ℕ → List ℕ → Read → Type 0
KeepsBuffer old new (Got n) = drop n new ≡ drop n old
KeepsBuffer old new Nothing = new ≡ old
KeepsBuffer old new End = new ≡ old
KeepsBuffer old new Failed = new ≡ old

-- after the end comes nothing but the end
abbrev pub EndsWith : Bool → Bool → Read → Type 0
EndsWith before now End = now ≡ true
EndsWith before now (Got n) = (before ≡ false) × (now ≡ false)
EndsWith before now Nothing = (before ≡ false) × (now ≡ false)
EndsWith before now Failed = (before ≡ false) × (now ≡ false)

-- Failed comes only with a rise
abbrev pub ReadFails : ℕ → ℕ → Read → Type 0
ReadFails before now Failed = Rose before now
ReadFails before now (Got n) = Unit {0}
ReadFails before now Nothing = Unit {0}
ReadFails before now End = Unit {0}

-- Failed is counted, and nothing else
abbrev pub ReadCounts : ℕ → ℕ → Read → Type 0
ReadCounts before now Failed = CountsFault before now true
ReadCounts before now (Got n) = CountsFault before now false
ReadCounts before now Nothing = CountsFault before now false
ReadCounts before now End = CountsFault before now false

-- at least one byte and no more than were offered
abbrev pub IsAmountWritten : Write → ℕ → Type 0
IsAmountWritten (Took n) most = (0 < n) × (n ≤ most)
IsAmountWritten NotTaken most = Unit {0}

-- the bytes that were taken join those before, or none
abbrev pub Writes : List ℕ → List ℕ → List ℕ → Write → Type 0
Writes written written' from (Took n) = written' ≡ written ++ take n from
Writes written written' from NotTaken = written' ≡ written

-- Failed comes only with a rise
abbrev pub WriteFails : ℕ → ℕ → Write → Type 0
WriteFails before now NotTaken = Rose before now
WriteFails before now (Took n) = Unit {0}

-- Failed is counted, and nothing else
abbrev pub WriteCounts : ℕ → ℕ → Write → Type 0
WriteCounts before now NotTaken = CountsFault before now true
WriteCounts before now (Took n) = CountsFault before now false
