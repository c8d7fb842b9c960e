-- The file of a daemon's durable names: what it says, and the text that is written. Its members are those of nsqd's `nsqd.dat`,
-- and `id_epoch`; they stand in byte order.
use Rattle.std.specs.Prelude.{◌≡◌, ◌≢◌, ℕ, ◌≤◌, ◌^◌, Bool, false, not, List, [], ◌∷◌, length, map, filter, fold, AllPairs, codes, Option, Some, None, IsUtf8}
use Rattle.std.specs.List.{AllByRecursion}
use Rattle.serde_json.specs.Data as json
use Rattle.serde_json.specs.Find.{get_member}
use Rattle.serde_json.specs.Read.{read}
use Rattle.serde_json.specs.Written.{compact_text}
use Rattle.nsq_base.specs.Name.{IsName, is_ephemeral}
use Rattle.nsq_base.specs.Names.{put_by}

-- a channel that the file keeps: its name, and whether it is paused
pub record KeptChannel : Type 0 where
  pub name : List ℕ
  pub paused : Bool

-- a topic that the file keeps, with its channels
pub record KeptTopic : Type 0 where
  pub name : List ℕ
  pub paused : Bool
  pub channels : List KeptChannel

-- what the file keeps: the epoch of the last run, and topics
pub record Kept : Type 0 where
  pub epoch : ℕ
  pub topics : List KeptTopic

-- the file's name
abbrev pub data_name : List ℕ
data_name = codes "nsqd.dat"

-- what it is called while it is written
abbrev pub temp_name : List ℕ
temp_name = codes "nsqd.dat.tmp"

-- the most bytes that the file has
abbrev pub longest_data : ℕ
longest_data = 2 ^ 24

-- the greatest epoch
abbrev pub last_epoch : ℕ
last_epoch = 16777215

-- a member says this truth value: false where it is absent or null
abbrev pub SaysFlag : Option json.Data → Bool → Type 0
SaysFlag None flag = flag ≡ false
SaysFlag (Some json.null) flag = flag ≡ false
SaysFlag (Some (json.boolean b)) flag = flag ≡ b
SaysFlag (Some (json.number n)) flag = ⊥
SaysFlag (Some (json.string s)) flag = ⊥
SaysFlag (Some (json.array ds)) flag = ⊥
SaysFlag (Some (json.object ms)) flag = ⊥

-- a number is this epoch: a whole one, and not too great
abbrev pub IsEpoch : json.Num → ℕ → Type 0
IsEpoch (json.unsigned n) epoch = (epoch ≡ n) × (n ≤ last_epoch)
IsEpoch (json.negative z) epoch = ⊥
IsEpoch (json.float x) epoch = ⊥

-- a member says this epoch: 0 where it is absent or null
abbrev pub SaysEpoch : Option json.Data → ℕ → Type 0
SaysEpoch None epoch = epoch ≡ 0
SaysEpoch (Some json.null) epoch = epoch ≡ 0
SaysEpoch (Some (json.boolean b)) epoch = ⊥
SaysEpoch (Some (json.number n)) epoch = IsEpoch n epoch
SaysEpoch (Some (json.string s)) epoch = ⊥
SaysEpoch (Some (json.array ds)) epoch = ⊥
SaysEpoch (Some (json.object ms)) epoch = ⊥

module _ {X : Type 0} (Says : json.Data → X → Type 0) where
  -- the items of an array say these, one each
  abbrev pub ItemsSay : json.Items → List X → Type 0
  ItemsSay json.no_items [] = Unit {0}
  ItemsSay json.no_items (x ∷ xs) = ⊥
  ItemsSay (json.item d ds) [] = ⊥
  ItemsSay (json.item d ds) (x ∷ xs) = Says d x × ItemsSay ds xs

  -- a member is an array of items that say these: none where it is absent or null
  abbrev pub SaysList : Option json.Data → List X → Type 0
  SaysList None xs = xs ≡ []
  SaysList (Some json.null) xs = xs ≡ []
  SaysList (Some (json.boolean b)) xs = ⊥
  SaysList (Some (json.number n)) xs = ⊥
  SaysList (Some (json.string s)) xs = ⊥
  SaysList (Some (json.array ds)) xs = ItemsSay ds xs
  SaysList (Some (json.object ms)) xs = ⊥

module _ {X : Type 0} (name : X → List ℕ) where
  -- those whose names aren't ephemeral
  abbrev pub durable : List X → List X
  durable xs = filter (λ x. not (is_ephemeral (name x))) xs

  -- in byte order of their names
  abbrev pub in_order : List X → List X
  in_order xs = fold (put_by name) [] xs

  -- of these, ephemeral ones are passed over, no two others have one name, and they are kept in byte order
  pub record IsKept (listed kept : List X) : Type 0 where
    pub once : AllPairs (λ a b. name a ≢ name b) (durable listed)
    pub order : kept ≡ in_order (durable listed)

-- the members of an object have a name, by the grammar of names
pub record HasName (members : json.Members) (name : List ℕ) : Type 0 where
  pub says : get_member (codes "name") members ≡ Some (json.string name)
  pub is_name : IsName name

-- an item of a topic's list says this channel; unknown members are ignored
pub record SaysChannel (item : json.Data) (channel : KeptChannel) : Type 0 where
  pub members : json.Members
  pub object : item ≡ json.object members
  pub name : HasName members channel.name
  pub paused : SaysFlag (get_member (codes "paused") members) channel.paused

-- an item of the file's list says this topic; unknown members are ignored
pub record SaysTopic (item : json.Data) (topic : KeptTopic) : Type 0 where
  pub members : json.Members
  pub listed : List KeptChannel
  pub object : item ≡ json.object members
  pub name : HasName members topic.name
  pub paused : SaysFlag (get_member (codes "paused") members) topic.paused
  pub channels : SaysList SaysChannel (get_member (codes "channels") members) listed
  pub keeps : IsKept (λ (c : KeptChannel). c.name) listed topic.channels

-- the text keeps these: an object in JSON, in UTF-8, of at most 16 MiB; unknown members are ignored
pub record IsNames (text : List ℕ) (kept : Kept) : Type 0 where
  pub members : json.Members
  pub listed : List KeptTopic
  pub short : length text ≤ longest_data
  pub utf8 : IsUtf8 text
  pub object : read text ≡ Some (json.object members)
  pub epoch : SaysEpoch (get_member (codes "id_epoch") members) kept.epoch
  pub topics : SaysList SaysTopic (get_member (codes "topics") members) listed
  pub keeps : IsKept (λ (t : KeptTopic). t.name) listed kept.topics

-- the text keeps nothing: it is bad
abbrev pub IsBadNames : List ℕ → Type 0
IsBadNames text = (kept : Kept) → IsNames text kept → ⊥

-- an array of values
abbrev pub items_of : List json.Data → json.Items
items_of [] = json.no_items
items_of (d ∷ ds) = json.item d (items_of ds)

-- a channel as it is written, members in byte order
abbrev pub channel_data : KeptChannel → json.Data
channel_data c = json.object (json.member (codes "name") (json.string c.name) (json.member (codes "paused") (json.boolean c.paused) json.no_members))

-- a topic as it is written, members in byte order
abbrev pub topic_data : KeptTopic → json.Data
topic_data t = json.object (json.member (codes "channels") (json.array (items_of (map channel_data t.channels))) (json.member (codes "name") (json.string t.name) (json.member (codes "paused") (json.boolean t.paused) json.no_members)))

-- what is kept, as it is written: members in byte order
abbrev pub names_data : Kept → json.Data
names_data kept = json.object (json.member (codes "id_epoch") (json.number (json.unsigned kept.epoch)) (json.member (codes "topics") (json.array (items_of (map topic_data kept.topics))) (json.member (codes "version") (json.string (codes "1.0.0")) json.no_members)))

-- the text that is written
abbrev pub names_text : Kept → List ℕ
names_text kept = compact_text (names_data kept)

-- a channel that the file can keep: its name is one
pub record CanKeepChannel (channel : KeptChannel) : Type 0 where
  pub named : IsName channel.name

-- a topic that the file can keep: its name is one, and so are those of its channels, which are kept as they are
pub record CanKeepTopic (topic : KeptTopic) : Type 0 where
  pub named : IsName topic.name
  pub channels : AllByRecursion CanKeepChannel topic.channels
  pub keeps : IsKept (λ (c : KeptChannel). c.name) topic.channels topic.channels

-- what the file can keep: an epoch that isn't too great, topics that are kept as they are, and a text in UTF-8 of at most 16 MiB
pub record CanKeep (kept : Kept) : Type 0 where
  pub epoch : kept.epoch ≤ last_epoch
  pub topics : AllByRecursion CanKeepTopic kept.topics
  pub keeps : IsKept (λ (t : KeptTopic). t.name) kept.topics kept.topics
  pub short : length (names_text kept) ≤ longest_data
  pub utf8 : IsUtf8 (names_text kept)
