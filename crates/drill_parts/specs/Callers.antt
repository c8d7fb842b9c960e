-- What the callers of a drill send, piece by piece.
use Rattle.std.specs.Prelude.{ℕ, zero, suc, ◌+◌, ◌*◌, ◌/◌, ◌==◌, if◌then◌else◌, List, [], ◌∷◌, ◌++◌, length, map, filter, take, drop, flat_map, replicate, codes}
use Rattle.nsq_base.specs.MsgId.{id_of}
use Rattle.v2_frame.specs.Command.{size4}
use Rattle.v2_frame.specs.Script.{magic}
use Rattle.drill_parts.specs.Draws.{publishes}
use Rattle.drill_parts.specs.declared.draws.Publish.{Publish}

-- the digit of a topic, of `t0` to `t3`
abbrev pub digit : (topic : ℕ) → ℕ
digit topic = if topic == 0 then 48 else if topic == 1 then 49 else if topic == 2 then 50 else 51

-- the name of a topic
abbrev pub topic_name : (topic : ℕ) → List ℕ
topic_name topic = codes "t" ++ digit topic ∷ []

-- a publish: PUB with a body of so many bytes `a`
abbrev pub publish_piece : Publish → List ℕ
publish_piece p = codes "PUB " ++ topic_name p.topic ++ 10 ∷ [] ++ size4 p.length ++ replicate p.length 97

-- what the publisher sends: the magic, then one publish a piece
abbrev pub publisher : List Publish → List (List ℕ)
publisher ps = magic ∷ map publish_piece ps

-- the subscription to the channel `c` of a topic, and RDY
abbrev pub greeting : (topic : ℕ) → List ℕ
greeting topic = magic ++ codes "SUB " ++ topic_name topic ++ codes " c" ++ 10 ∷ [] ++ codes "RDY 2500" ++ 10 ∷ []

-- the FIN of a publish, whose id has the first epoch
abbrev pub fin : Publish → List ℕ
fin p = codes "FIN " ++ id_of 1 p.number ++ 10 ∷ []

-- the FINs of the piece of this number, 64 of them where there are as many
abbrev pub fin_piece : List Publish → (k : ℕ) → List ℕ
fin_piece ps k = flat_map fin (take 64 (drop (64 * k) ps))

-- the first so many pieces of FINs
abbrev pub fin_pieces : List Publish → (count : ℕ) → List (List ℕ)
fin_pieces ps zero = []
fin_pieces ps (suc k) = fin_pieces ps k ++ fin_piece ps k ∷ []

-- the publishes to a topic, in order
abbrev pub those_to : (topic : ℕ) → List Publish → List Publish
those_to topic ps = filter (λ (p : Publish). p.topic == topic) ps

-- what finishes these publishes: all their FINs, 64 a piece
abbrev pub all_fins : List Publish → List (List ℕ)
all_fins ps = fin_pieces ps ((length ps + 63) / 64)

-- what the consumer of a topic sends: it subscribes, and finishes all that was published to the topic, in the order of publishing
abbrev pub consumer : List Publish → (topic : ℕ) → List (List ℕ)
consumer ps topic = greeting topic ∷ all_fins (those_to topic ps)

-- what all callers send, in their order: a publisher, and a consumer of each topic
abbrev pub senders : List Publish → List (List (List ℕ))
senders ps = publisher ps ∷ consumer ps 0 ∷ consumer ps 1 ∷ consumer ps 2 ∷ consumer ps 3 ∷ []

-- the callers of the drill with this seed and so many publishes
abbrev pub drill_callers : (seed count : ℕ) → List (List (List ℕ))
drill_callers seed count = senders (publishes seed count)
