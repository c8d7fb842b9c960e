-- The messages in a request's body.
use Rattle.std.specs.Prelude.{ℕ, zero, suc, ◌+◌, ◌==◌, ◌||◌, nat_lt, nat_le, not, if◌then◌else◌, Bool, false, List, [], ◌∷◌, length, take, drop, filter, Option, Some, None, Result, Ok, Err, codes}
use Rattle.std.specs.List.{list_all, slice_split}
use Rattle.std.specs.Int.{from_be_bytes, w32}
use Rattle.std.specs.Str.{bytes_eq}
use Rattle.nsq_base.specs.declared.options.Options.{Options}
use Rattle.http_wire.specs.declared.request.Request.{Request}
use Rattle.http_calls.specs.declared.refusal.Refusal.{Refusal}
use Rattle.http_calls.specs.declared.refusal.Refusal.TheVariants.{MsgEmpty, MsgTooBig, BadMessage, BadBody}
use Rattle.http_calls.specs.Arguments.{unless, argument_of}

-- the body as one message
abbrev pub message_in : (most : ℕ) → (body : List ℕ) → Result (List ℕ) Refusal
message_in most body = if length body == 0 then Err MsgEmpty else (if nat_le (length body) most then Ok body else Err MsgTooBig)

-- the lines of a body: its parts round each line feed that aren't empty. A carriage return stays in its line
abbrev pub lines_of : (body : List ℕ) → List (List ℕ)
lines_of body = filter (λ (line : List ℕ). not (length line == 0)) (slice_split (λ b. b == 10) body)

-- the body as lines, each a message
abbrev pub lines_in : (most : ℕ) → (body : List ℕ) → Result (List (List ℕ)) Refusal
lines_in most body =
    if length (lines_of body) == 0 then Err MsgEmpty else (
    if list_all (λ (line : List ℕ). nat_le (length line) most) (lines_of body) then Ok (lines_of body) else Err MsgTooBig)

-- the size or the count in the first four bytes, most significant first
abbrev pub size_at : List ℕ → ℕ
size_at bytes = from_be_bytes w32 (take 4 bytes)

-- the size of the message that stands at the front of the bytes behind it: too few bytes for a size are a bad body, then a size of 0 or above the greatest
-- one is a bad message, then a size above what is left is a bad body
abbrev pub message_size_in : (most : ℕ) → List ℕ → Result ℕ Refusal
message_size_in most bytes =
    if nat_lt (length bytes) 4 then Err BadBody else (
    if size_at bytes == 0 || nat_lt most (size_at bytes) then Err BadMessage else (
    if nat_lt (length bytes) (4 + size_at bytes) then Err BadBody else
    Ok (size_at bytes)))

-- so many messages, each behind its size; bytes behind the last one are a bad body
abbrev pub messages_in : (most : ℕ) → (count : ℕ) → List ℕ → Result (List (List ℕ)) Refusal
messages_in most zero [] = Ok []
messages_in most zero (b ∷ bytes) = Err BadBody
messages_in most (suc count) bytes =
    unless (message_size_in most bytes) (λ size.
    unless (messages_in most count (drop (4 + size) bytes)) (λ behind.
    Ok (take size (drop 4 bytes) ∷ behind)))

-- the body as what stands behind the first size of MPUB in the TCP protocol: a count, and so many messages; a count of 0 is a bad body
abbrev pub batch_in : (most : ℕ) → (body : List ℕ) → Result (List (List ℕ)) Refusal
batch_in most body =
    if nat_lt (length body) 4 then Err BadBody else (
    if size_at body == 0 then Err BadBody else
    messages_in most (size_at body) (drop 4 body))

-- whether the body is such a batch: the argument is given, and is neither `false` nor `0`
abbrev pub is_binary : Option (List ℕ) → Bool
is_binary None = false
is_binary (Some value) = not (bytes_eq value (codes "false") || bytes_eq value (codes "0"))

-- the messages of a request that publishes many
abbrev pub messages_of : Options → Request → Result (List (List ℕ)) Refusal
messages_of o r = if is_binary (argument_of r (codes "binary")) then batch_in o.max_msg_size r.body else lines_in o.max_msg_size r.body
