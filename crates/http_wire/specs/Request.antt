-- What all bytes of a connection so far are: its first request, or the beginning of one, or a refusal.
use Rattle.std.specs.Prelude.{◌≡◌, ◌≢◌, ◌⊎◌, ℕ, ◌+◌, ◌<◌, ◌≤◌, List, [], length, take, drop, map}
use Rattle.httparse.specs.Grammar.{RequestHead, ReadsRequest}
use Rattle.httparse.specs.Spans.{name_and_value}
use Rattle.http_wire.specs.declared.request.Request.{Request}
use Rattle.http_wire.specs.Head.{longest_head, EndsAt, IsJudged}
use Rattle.http_wire.specs.Fields.{transfer_encoding, values_of, HasNone, IsBodySize}
use Rattle.http_wire.specs.Target.{path_of, query_of, pairs_of}

-- the most fields of a head
abbrev pub most_fields : ℕ
most_fields = 64

-- the names of a head's fields, with their values without the white space round them
abbrev pub fields_of : RequestHead → List (List ℕ × List ℕ)
fields_of head = map name_and_value head.fields

-- the whole text is a good head: a request head of HTTP/1.1 (RFC 9112) with at most so many fields, which say at most once how
-- long the body is
pub record IsGoodHead (text : List ℕ) (head : RequestHead) (size : ℕ) : Type 0 where
  pub reads : ReadsRequest text head []
  pub few : length head.fields ≤ most_fields
  pub sized : IsBodySize (fields_of head) size

-- a good head stands at the front, with as many bytes as this, and announces a body of this size
pub record HasHead (bytes : List ℕ) (end : ℕ) (head : RequestHead) (size : ℕ) : Type 0 where
  pub ends : EndsAt bytes end
  pub within : end ≤ longest_head
  pub good : IsGoodHead (take end bytes) head size

-- the head is judged, and isn't good
pub record IsBadHead (bytes : List ℕ) : Type 0 where
  pub judged : IsJudged bytes
  pub bad : (end : ℕ) (head : RequestHead) (size : ℕ) → ¬ (HasHead bytes end head size)

-- the head is good, and says that the body comes in another form than so many bytes
pub record IsNoLength (bytes : List ℕ) : Type 0 where
  pub end : ℕ
  pub head : RequestHead
  pub size : ℕ
  pub stands : HasHead bytes end head size
  pub coded : values_of transfer_encoding (fields_of head) ≢ []

-- the head is good, the body comes as so many bytes, and these are as many as this
pub record Announces (bytes : List ℕ) (end : ℕ) (head : RequestHead) (size : ℕ) : Type 0 where
  pub stands : HasHead bytes end head size
  pub plain : HasNone transfer_encoding (fields_of head)

-- the body that is announced is longer than the limit
pub record IsTooBig (limit : ℕ) (bytes : List ℕ) : Type 0 where
  pub end : ℕ
  pub head : RequestHead
  pub size : ℕ
  pub announced : Announces bytes end head size
  pub above : limit < size

-- the body that is announced is within the limit, and hasn't come whole
pub record IsOpenBody (limit : ℕ) (bytes : List ℕ) : Type 0 where
  pub end : ℕ
  pub head : RequestHead
  pub size : ℕ
  pub announced : Announces bytes end head size
  pub below : size ≤ limit
  pub open_end : length bytes < end + size

-- the head can't be judged yet, or it is good and its body hasn't come whole
abbrev pub IsUnfinished : ℕ → List ℕ → Type 0
IsUnfinished limit bytes = (¬ (IsJudged bytes)) ⊎ IsOpenBody limit bytes

-- a request, as its head and its body give it
abbrev pub request_of : RequestHead → List ℕ → Request
request_of head body = record { method = head.method; path = path_of head.target; query = pairs_of (query_of head.target); body = body }

-- the request is whole: the body that is announced is within the limit, and stands behind the head. What stands behind the body
-- doesn't matter
pub record IsWhole (limit : ℕ) (bytes : List ℕ) (request : Request) : Type 0 where
  pub end : ℕ
  pub head : RequestHead
  pub size : ℕ
  pub announced : Announces bytes end head size
  pub below : size ≤ limit
  pub come : end + size ≤ length bytes
  pub is : request ≡ request_of head (take size (drop end bytes))

-- what the bytes so far can be
pub data Outcome : Type 0 where
  Whole : (request : Request) → Outcome
  Unfinished BadHead NoLength TooBig : Outcome

-- what the bytes so far are, for a greatest body: each byte list is one of these, and no other. A bad head is refused before a
-- body without a length, and that before a body that is too big
abbrev pub IsRequest : ℕ → List ℕ → Outcome → Type 0
IsRequest limit bytes (Whole request) = IsWhole limit bytes request
IsRequest limit bytes Unfinished = IsUnfinished limit bytes
IsRequest limit bytes BadHead = IsBadHead bytes
IsRequest limit bytes NoLength = IsNoLength bytes
IsRequest limit bytes TooBig = IsTooBig limit bytes
