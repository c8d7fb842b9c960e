-- What an opening finds of queues are messages, where the files have bytes.
use Rattle.std.proofs.Common.{◌≡◌, ◌<◌, ◌≤◌, ◌+◌, ◌^◌, ℕ, List, [], ◌∷◌, ◌++◌, length, take, drop, get_or, map, Option, Some, None, unwrap_or, refl, sym, subst, arith, length-take, length-drop, ⊎_elim}
use Rattle.std.specs.Int.{from_be_bytes, to_be_bytes, w16, w32, w64}
use Rattle.std.specs.List.{All, AllByRecursion}
use Rattle.std.proofs.lemmas.Bool.{cases_lt}
use Rattle.std.proofs.lemmas.List.{get_or_past}
use Rattle.std.proofs.lemmas.List.Elements.{All-append, All-cons, All-drop, All-from_recursion, All-get_or, All-head, All-nil, All-tail, All-take}
use Rattle.nsq_outside.specs.Files.{Files}
use Rattle.queue_image.specs.Between.{content}
use Rattle.queue_image.specs.FileNames.{channel_queue, data_file}
use Rattle.queue_image.specs.Finds as queue
use Rattle.queue_image.specs.Finds.IsFound.{empty, fresh, spoilt, walked}
use Rattle.queue_image.specs.Finds.Walks.{good, passes, starts}
use Rattle.queue_image.specs.Records.{IsSize, record_bytes, rows}
use Rattle.queue_image.specs.declared.positions.Positions.{Positions}
use Rattle.v2_frame.specs.declared.message.Message.{Message}
use Rattle.v2_frame.proofs.MessageLemmas.{take_whole}
use Rattle.path_image.specs.Data.{KeptChannel, KeptTopic}
use Rattle.path_image.specs.Found.{FindsChannel, FindsTopic, FoundChannel, FoundTopic, HasMessages, IsRecordOf, Pairwise, queues_of}
use Rattle.floor_files.specs.Opened.{FindsQueue}
use Rattle.floor_files.proofs.Parting.{all_front}
use Rattle.broker_floor.specs.Adding.{FindsAll}
use Rattle.broker_floor.specs.Opening.{HaveBytes}

abbrev IsByte : ℕ → Type 0
IsByte b = b < 256

-- a body that is the bytes of a message
record IsMessage (body : List ℕ) : Type 0 where
  bytes : All IsByte body
  long : 26 ≤ length body

all_behind : {X : Type 0} (P : X → Type 0) (xs ys : List X) → All P (xs ++ ys) → All P ys
all_behind P [] ys h = h
all_behind P (x ∷ xs) ys h = all_behind P xs ys (All-tail P x (xs ++ ys) h)

-- the bodies of records in a row
row_bodies : (bodies : List (List ℕ)) → All IsByte (rows bodies) → AllByRecursion (λ body. IsSize 26 16777242 (length body)) bodies → All IsMessage bodies
row_bodies [] bytes sizes = All-nil IsMessage
row_bodies (b ∷ bodies) bytes sizes =
    let first = all_front IsByte (record_bytes b) (rows bodies) bytes in
    All-cons IsMessage b bodies (record { bytes = all_behind IsByte (to_be_bytes w32 (length b)) b first; long = sizes.0.0 }) (row_bodies bodies (all_behind IsByte (record_bytes b) (rows bodies) bytes) sizes.1)

-- those that a walk over files gives
walk_bodies : (p : Positions) (contents : ℕ → List ℕ) → ((k : ℕ) → All IsByte (contents k)) → {k : ℕ} {bodies : List (List ℕ)} {bad : List ℕ} → queue.Walks 26 16777242 p contents k bodies bad → All IsMessage bodies
walk_bodies p contents bytes (starts e) = All-nil IsMessage
walk_bodies p contents bytes (good {k = m} {bodies = before} more w g e h) =
    let part : All IsByte (queue.segment p m (contents m)) = All-take IsByte _ _ (All-drop IsByte _ (contents m) (bytes m)) in
    subst (All IsMessage) (sym h) (All-append IsMessage before more (walk_bodies p contents bytes w) (row_bodies more (subst (All IsByte) g.row.whole part) g.row.sizes))
walk_bodies p contents bytes (passes w b e h) = walk_bodies p contents bytes w

module _ (files : Files) (bytes : HaveBytes files) where
  -- the bytes of a data file, none where it is absent
  file_bytes : (file : List ℕ) (o : Option (List ℕ)) → files file ≡ o → All IsByte (unwrap_or o [])
  file_bytes file None is = All-nil IsByte
  file_bytes file (Some text) is = All-from_recursion IsByte text (bytes file text is)

  -- the bodies that are found are those of messages
  abbrev HaveMessages : queue.Finding → Type 0
  HaveMessages queue.BadMeta = Unit {0}
  HaveMessages (queue.Records bodies bad) = All IsMessage bodies

  found_bodies : (name : List ℕ) (x : queue.Finding) → queue.IsFound 26 16777242 files name x → HaveMessages x
  found_bodies name x (fresh e) = All-nil IsMessage
  found_bodies name x (spoilt text e bars) = tt
  found_bodies name x (empty text meta e i at) = All-nil IsMessage
  found_bodies name x (walked text meta e i behind w) = walk_bodies meta.positions (content files name) (λ k. file_bytes (data_file name k) (files (data_file name k)) refl) w

-- the message that a body is
message_of : List ℕ → Message
message_of body = record {
  stamp = from_be_bytes w64 (take 8 body);
  attempts = from_be_bytes w16 (take 2 (drop 8 body));
  id = take 16 (drop 2 (drop 8 body));
  body = drop 16 (drop 2 (drop 8 body));
  delay = 0;
}

small_at : (xs : List ℕ) → All IsByte xs → (i : ℕ) → get_or xs i 0 < 256
small_at xs all i = ⊎_elim (λ (lt : i < length xs). All-get_or IsByte xs i 0 lt all) (λ (ge : length xs ≤ i). omega (arith, get_or_past xs i 0 ge)) (cases_lt i (length xs))

number_8 : (xs : List ℕ) (n : ℕ) → ((i : ℕ) → get_or xs i 0 < 256) → n ≡ from_be_bytes w64 xs → n < 2 ^ 64
number_8 xs n small is = omega (arith, is, small 0, small 1, small 2, small 3, small 4, small 5, small 6, small 7)

number_2 : (xs : List ℕ) (n : ℕ) → ((i : ℕ) → get_or xs i 0 < 256) → n ≡ from_be_bytes w16 xs → n < 2 ^ 16
number_2 xs n small is = omega (arith, is, small 0, small 1)

is_record : (body : List ℕ) → IsMessage body → IsRecordOf body (message_of body)
unfolding message_of
is_record body is =
    let long = is.long in
    let rest : List ℕ = drop 8 body in
    let tail : List ℕ = drop 2 rest in
    let rest_long : length rest + 8 ≡ length body = omega (arith, length-drop 8 body, long) in
    let tail_long : length tail + 2 ≡ length rest = omega (arith, length-drop 2 rest, rest_long, long) in
    record {
      whole = take_whole body (take 8 body) rest (take 2 rest) tail (take 16 tail) (drop 16 tail) (message_of body) (small_at body is.bytes) refl refl rest_long refl refl tail_long refl refl refl refl refl refl;
      id = omega (arith, length-take 16 tail, rest_long, tail_long, long);
      stamp = number_8 (take 8 body) (from_be_bytes w64 (take 8 body)) (small_at (take 8 body) (All-take IsByte 8 body is.bytes)) refl;
      attempts = number_2 (take 2 rest) (from_be_bytes w16 (take 2 rest)) (small_at (take 2 rest) (All-take IsByte 2 rest (All-drop IsByte 8 body is.bytes))) refl;
      delay = refl;
    }

are_records : (bodies : List (List ℕ)) → All IsMessage bodies → Pairwise IsRecordOf bodies (map message_of bodies)
are_records [] all = tt
are_records (b ∷ bodies) all = (is_record b (All-head IsMessage b bodies all), are_records bodies (All-tail IsMessage b bodies all))

-- a queue's messages
module _ (files : Files) (bytes : HaveBytes files) where
  record FindsMessages (name : List ℕ) : Type 0 where
    messages : List Message
    has : HasMessages files name messages

  queue_found : (name : List ℕ) → FindsQueue files name → FindsMessages name
  queue_found name x = record {
    messages = map message_of x.bodies;
    has = record { bodies = x.bodies; bad = x.bad; queue = x.found; records = are_records x.bodies (found_bodies files bytes name (queue.Records x.bodies x.bad) x.found) };
  }

  -- channels of a topic
  record FindsThose (topic : List ℕ) (kept : List KeptChannel) : Type 0 where
    founds : List FoundChannel
    pairs : Pairwise (FindsChannel files topic) kept founds

  channels_found : (topic : List ℕ) (kept : List KeptChannel) → All (FindsQueue files) (map (λ (c : KeptChannel). channel_queue topic c.name) kept) → FindsThose topic kept
  channels_found topic [] all = record { founds = []; pairs = tt }
  channels_found topic (c ∷ kept) all =
      let names : List (List ℕ) = map (λ (d : KeptChannel). channel_queue topic d.name) kept in
      let one = queue_found (channel_queue topic c.name) (All-head (FindsQueue files) (channel_queue topic c.name) names all) in
      let rest = channels_found topic kept (All-tail (FindsQueue files) (channel_queue topic c.name) names all) in
      record {
        founds = record { name = c.name; paused = c.paused; messages = one.messages } ∷ rest.founds;
        pairs = (record { name = refl; paused = refl; messages = one.has }, rest.pairs);
      }

  -- topics
  pub record AreFound (topics : List KeptTopic) : Type 0 where
    pub founds : List FoundTopic
    pub pairs : Pairwise (FindsTopic files) topics founds

  pub topics_found : (topics : List KeptTopic) → All (FindsAll files) topics → AreFound topics
  topics_found [] all = record { founds = []; pairs = tt }
  topics_found (t ∷ topics) all =
      let names : List (List ℕ) = map (λ (c : KeptChannel). channel_queue t.name c.name) t.channels in
      let own : All (FindsQueue files) (queues_of t) = All-head (FindsAll files) t topics all in
      let one = queue_found t.name (All-head (FindsQueue files) t.name names own) in
      let channels = channels_found t.name t.channels (All-tail (FindsQueue files) t.name names own) in
      let rest = topics_found topics (All-tail (FindsAll files) t topics all) in
      record {
        founds = record { name = t.name; paused = t.paused; messages = one.messages; channels = channels.founds } ∷ rest.founds;
        pairs = (record { name = refl; paused = refl; messages = one.has; channels = channels.pairs }, rest.pairs);
      }
