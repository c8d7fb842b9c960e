-- What a request names: its arguments, topics and channels, and how the first refusal counts.
use Rattle.std.specs.Prelude.{ℕ, ◌&&◌, nat_lt, nat_le, if◌then◌else◌, Bool, List, [], ◌∷◌, length, Option, Some, None, Result, Ok, Err, codes}
use Rattle.std.specs.List.{list_all}
use Rattle.std.specs.Str.{bytes_eq}
use Rattle.nsq_base.specs.declared.pairs.Pair.{Pair}
use Rattle.nsq_base.specs.Name.{is_name_byte, stem}
use Rattle.http_wire.specs.declared.request.Request.{Request}
use Rattle.http_calls.specs.declared.refusal.Refusal.{Refusal}
use Rattle.http_calls.specs.declared.refusal.Refusal.TheVariants.{MissingTopic, InvalidTopic, InvalidArgTopic, MissingChannel, InvalidArgChannel}

-- a judgement, and where it refuses nothing, the next one with what it gave: so the first refusal counts
abbrev pub unless : {X Y : Type 0} → Result X Refusal → (X → Result Y Refusal) → Result Y Refusal
unless (Ok x) next = next x
unless (Err refusal) next = Err refusal

-- the value of the first pair of this name, or None where no pair has it
abbrev pub argument : List Pair → (name : List ℕ) → Option (List ℕ)
argument [] name = None
argument (pair ∷ pairs) name = if bytes_eq pair.name name then Some pair.value else argument pairs name

-- the value of an argument of a request
abbrev pub argument_of : Request → (name : List ℕ) → Option (List ℕ)
argument_of r name = argument r.query name

-- whether the bytes are the name of a topic or of a channel (`IsName`)
abbrev pub is_name : List ℕ → Bool
is_name bytes = nat_lt 0 (length (stem bytes)) && list_all is_name_byte (stem bytes) && nat_le (length bytes) 64

-- a name that has to be given
abbrev pub name_in : (missing invalid : Refusal) → Option (List ℕ) → Result (List ℕ) Refusal
name_in missing invalid None = Err missing
name_in missing invalid (Some bytes) = if is_name bytes then Ok bytes else Err invalid

-- a name that may be given
abbrev pub optional_name_in : (invalid : Refusal) → Option (List ℕ) → Result (Option (List ℕ)) Refusal
optional_name_in invalid None = Ok None
optional_name_in invalid (Some bytes) = if is_name bytes then Ok (Some bytes) else Err invalid

-- the topic, in a call that takes no channel
abbrev pub topic_in : Request → Result (List ℕ) Refusal
topic_in r = name_in MissingTopic InvalidTopic (argument_of r (codes "topic"))

-- the topic and the channel, in a call that takes both
abbrev pub names_in : Request → Result (List ℕ × List ℕ) Refusal
names_in r =
    unless (name_in MissingTopic InvalidArgTopic (argument_of r (codes "topic"))) (λ topic.
    unless (name_in MissingChannel InvalidArgChannel (argument_of r (codes "channel"))) (λ channel.
    Ok (topic, channel)))

-- the topic and the channel, in a call that takes each where it is given
abbrev pub optional_names_in : Request → Result (Option (List ℕ) × Option (List ℕ)) Refusal
optional_names_in r =
    unless (optional_name_in InvalidArgTopic (argument_of r (codes "topic"))) (λ topic.
    unless (optional_name_in InvalidArgChannel (argument_of r (codes "channel"))) (λ channel.
    Ok (topic, channel)))
