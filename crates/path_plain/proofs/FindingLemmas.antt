-- What the plain opening of a folder reads, list by list.
use Rattle.std.proofs.Common.{◌≡◌, ℕ, ◌+◌, ◌<◌, ◌≤◌, List, [], ◌∷◌, ◌++◌, length, map, take, get_or, codes, Option, Some, None, sym, ap, subst, ◌∙◌, arith}
use Rattle.std.specs.List.{All, AllByRecursion, Contains}
use Rattle.std.proofs.lemmas.List.{get_or-map, length-map, take_all}
use Rattle.std.proofs.lemmas.List.Elements.{All-from_recursion, Contains-append_right, Contains-get_or}
use Rattle.serde_json.specs.Data as json
use Rattle.serde_json.specs.Find.{get_member}
use Rattle.nsq_outside.specs.Files.{Files}
use Rattle.queue_image.specs.FileNames.{channel_queue}
use Rattle.queue_image.specs.Finds.{Finding, BadMeta, Records, Walks}
use Rattle.queue_image.specs.Finds.Walks.{starts, good, passes}
use Rattle.queue_image.specs.Finds.IsFound.{fresh, spoilt, empty, walked}
use Rattle.queue_image.specs.declared.positions.Positions.{Positions}
use Rattle.queue_image.proofs.RowLemmas.{Sizes, Sizes-append}
use Rattle.path_image.specs.Data.{KeptChannel, KeptTopic, Kept, SaysEpoch, IsNames, data_name, last_epoch}
use Rattle.path_image.specs.Found.{Found, Names, BadData, Pairwise, IsFoundQueue, FindsTopic, IsFound, queues_of, least_record, longest_record}
use Rattle.path_image.specs.Found.IsFound.{bad_queue, names}
use Rattle.path_plain.specs.Findings.{HasBadMeta, HasBadTopic}
use Rattle.path_plain.proofs.Lists.{take_next}

module _ {X Y : Type 0} (R : X → Y → Type 0) where
  -- one more at the end of both lists
  pub pairwise_more : (xs : List X) (ys : List Y) (x : X) (y : Y) → Pairwise R xs ys → R x y → Pairwise R (xs ++ x ∷ []) (ys ++ y ∷ [])
  pairwise_more [] [] x y h r = (r, tt)
  pairwise_more [] (z ∷ ys) x y h r = absurd h
  pairwise_more (z ∷ xs) [] x y h r = absurd h
  pairwise_more (w ∷ xs) (z ∷ ys) x y h r = (h.0, pairwise_more xs ys x y h.1 r)

  -- what a loop over the first list has added
  pub pairwise_next : (xs : List X) (i : ℕ) (d x : X) (ys more : List Y) (y : Y) → i < length xs → x ≡ get_or xs i d → Pairwise R (take i xs) ys → R x y → more ≡ ys ++ y ∷ []
      → Pairwise R (take (i + 1) xs) more
  pairwise_next xs i d x ys more y l is h r m = rw (take_next xs i d l, ← is, m) (pairwise_more (take i xs) ys x y h r)

  -- what a loop over the whole list has added
  pub pairwise_all : (xs : List X) (i : ℕ) (ys : List Y) → length xs ≤ i → Pairwise R (take i xs) ys → Pairwise R xs ys
  pairwise_all xs i ys l h = subst (λ zs. Pairwise R zs ys) (take_all i xs l) h

-- the element at a place is one of the list's
contains_at : {X : Type 0} (xs : List X) (i : ℕ) (d x : X) → i < length xs → x ≡ get_or xs i d → Contains xs x
contains_at xs i d x l is = subst (Contains xs) (sym is) (Contains-get_or xs i d l)

-- what the element at a place is made into is one of those that the list's are made into
contains_made : {X Y : Type 0} (f : X → Y) (xs : List X) (i : ℕ) (d x : X) → i < length xs → x ≡ get_or xs i d → Contains (map f xs) (f x)
contains_made f xs i d x l is = contains_at (map f xs) i (f d) (f x) (subst (λ n. i < n) (sym (length-map xs f)) l) (ap f is ∙ sym (get_or-map f xs i d (f d) l))

-- the queue of the channel at a place has bad metadata
pub bad_channel_at : (files : Files) (topic : List ℕ) (kept : List KeptChannel) (i : ℕ) (d x : KeptChannel) → i < length kept → x ≡ get_or kept i d → IsFoundQueue files (channel_queue topic x.name) BadMeta
    → HasBadMeta files (map (λ (c : KeptChannel). channel_queue topic c.name) kept)
bad_channel_at files topic kept i d x l is bad = record { name = channel_queue topic x.name; own = contains_made (λ (c : KeptChannel). channel_queue topic c.name) kept i d x l is; bad = bad }

-- a queue of the topic at a place has bad metadata
pub bad_topic_at : (files : Files) (kept : List KeptTopic) (i : ℕ) (d x : KeptTopic) → i < length kept → x ≡ get_or kept i d → HasBadMeta files (queues_of x) → HasBadTopic files kept
bad_topic_at files kept i d x l is bad = record { topic = x; listed = contains_at kept i d x l is; bad = bad }

-- the queue of one of a topic's channels has bad metadata
pub bad_of_channel : (files : Files) (topic : KeptTopic) (name : List ℕ) (channels : List KeptChannel) → name ≡ topic.name → channels ≡ topic.channels
    → HasBadMeta files (map (λ (c : KeptChannel). channel_queue name c.name) channels) → HasBadMeta files (queues_of topic)
bad_of_channel files topic name channels named same b =
    let at_name = subst (λ (n : List ℕ). HasBadMeta files (map (λ (c : KeptChannel). channel_queue n c.name) channels)) named b in
    let bad = subst (λ (cs : List KeptChannel). HasBadMeta files (map (λ (c : KeptChannel). channel_queue topic.name c.name) cs)) same at_name in
    record {
      name = bad.name;
      own = Contains-append_right (topic.name ∷ []) (map (λ (c : KeptChannel). channel_queue topic.name c.name) topic.channels) bad.name bad.own;
      bad = bad.bad;
    }

walk_sizes : (least limit : ℕ) (p : Positions) (bytes : ℕ → List ℕ) {k : ℕ} {bodies : List (List ℕ)} {bad : List ℕ} → Walks least limit p bytes k bodies bad → Sizes least limit bodies
walk_sizes least limit p bytes (starts e) = tt
walk_sizes least limit p bytes (good {bodies = bodies} more w g e h) = subst (Sizes least limit) (sym h) (Sizes-append least limit bodies more (walk_sizes least limit p bytes w) g.row.sizes)
walk_sizes least limit p bytes (passes w b e h) = walk_sizes least limit p bytes w

-- the bodies of a finding are of sizes that its queue takes
SizesIn : Finding → Type 0
SizesIn BadMeta = Unit {0}
SizesIn (Records bodies bad) = Sizes least_record longest_record bodies

found_sizes : (files : Files) (name : List ℕ) (x : Finding) → IsFoundQueue files name x → SizesIn x
unfolding SizesIn
found_sizes files name x (fresh e) = tt
found_sizes files name x (spoilt text e n) = tt
found_sizes files name x (empty text meta e is at) = tt
found_sizes files name x (walked text meta e is behind w) = walk_sizes least_record longest_record _ _ w

least_of : (bodies : List (List ℕ)) → Sizes least_record longest_record bodies → AllByRecursion (λ (body : List ℕ). least_record ≤ length body) bodies
least_of [] s = tt
least_of (body ∷ bodies) s = (s.0.0, least_of bodies s.1)

-- each record that is found has the bytes of a message without a body at least
pub found_least : (files : Files) (name : List ℕ) (bodies : List (List ℕ)) (bad : List ℕ) → IsFoundQueue files name (Records bodies bad) → All (λ (body : List ℕ). least_record ≤ length body) bodies
unfolding SizesIn
found_least files name bodies bad f = All-from_recursion (λ (body : List ℕ). least_record ≤ length body) bodies (least_of bodies (found_sizes files name (Records bodies bad) f))

epoch_small : (member : Option json.Data) (epoch : ℕ) → SaysEpoch member epoch → epoch ≤ last_epoch
epoch_small None epoch s = omega (arith, s)
epoch_small (Some json.null) epoch s = omega (arith, s)
epoch_small (Some (json.boolean b)) epoch s = absurd s
epoch_small (Some (json.number (json.unsigned n))) epoch s = omega (arith, s.0, s.1)
epoch_small (Some (json.number (json.negative z))) epoch s = absurd s
epoch_small (Some (json.number (json.float x))) epoch s = absurd s
epoch_small (Some (json.string t)) epoch s = absurd s
epoch_small (Some (json.array ds)) epoch s = absurd s
epoch_small (Some (json.object ms)) epoch s = absurd s

-- an epoch that is kept is the last one or below it
pub epoch_bound : (text : List ℕ) (kept : Kept) → IsNames text kept → kept.epoch ≤ last_epoch
epoch_bound text kept is = epoch_small (get_member (codes "id_epoch") is.members) kept.epoch is.epoch

-- bad metadata of a queue of these topics, which are kept, is bad data
pub bad_found : (files : Files) (text : List ℕ) (kept : Kept) (topics : List KeptTopic) → files data_name ≡ Some text → IsNames text kept → kept.epoch < last_epoch → topics ≡ kept.topics
    → HasBadTopic files topics → IsFound files BadData
bad_found files text kept topics e is below same b =
    let bad : HasBadTopic files kept.topics = subst (HasBadTopic files) same b in
    bad_queue text kept e is below (record { topic = bad.topic; name = bad.bad.name; listed = bad.listed; own = bad.bad.own; bad = bad.bad.bad })

-- the topics that are kept are found
pub names_found : (files : Files) (text : List ℕ) (kept : Kept) (topics : List KeptTopic) (found : Found) → files data_name ≡ Some text → IsNames text kept → kept.epoch < last_epoch → topics ≡ kept.topics
    → found.epoch ≡ kept.epoch → Pairwise (FindsTopic files) topics found.topics → IsFound files (Names found)
names_found files text kept topics found e is below same epoch p = names text kept e is below epoch (subst (λ ts. Pairwise (FindsTopic files) ts found.topics) same p)
