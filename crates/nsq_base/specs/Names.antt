-- A daemon's topics with their channels: plain lists, each name once, in byte order.
use Rattle.std.specs.Prelude.{ℕ, Bool, IsTrue, List, [], ◌∷◌, ◌++◌, map, filter, All, AllPairs, unwrap_or}
use Rattle.std.specs.declared.cmp.Ordering.{Ordering}
use Rattle.std.specs.Cmp.Lexicographic.{slice_cmp}
use Rattle.std.specs.Ordering.{nat_cmp, is_lt}
use Rattle.std.specs.Str.{bytes_eq}
use Rattle.std.specs.Map.{lookup}
use Rattle.nsq_core.specs.Name.{IsName}

-- the order of byte strings: by the first byte that differs, a prefix before what it begins
abbrev pub byte_order : List ℕ → List ℕ → Ordering
byte_order = slice_cmp nat_cmp

-- whether a byte string comes before another
abbrev pub is_before : List ℕ → List ℕ → Bool
is_before a b = is_lt (byte_order a b)

module _ {X : Type 0} (key : X → List ℕ) where
  -- the key of each item comes before those of all later items
  abbrev pub IsAscendingBy : List X → Type 0
  IsAscendingBy xs = AllPairs (λ x y. IsTrue (is_before (key x) (key y))) xs

  -- the items whose keys come before x's, then x, then the items whose keys come after x's: so an item with x's key is replaced
  abbrev pub put_by : List X → X → List X
  put_by xs x = filter (λ y. is_before (key y) (key x)) xs ++ x ∷ filter (λ y. is_before (key x) (key y)) xs

-- each name comes before all later ones
abbrev pub IsAscending : List (List ℕ) → Type 0
IsAscending names = IsAscendingBy (λ n. n) names

-- the names with one more at its place in byte order, where it stays once
abbrev pub insert_name : List (List ℕ) → List ℕ → List (List ℕ)
insert_name names n = put_by (λ m. m) names n

-- topics in byte order, each with its channels in byte order
abbrev pub TopicList : Type 0
TopicList = List (List ℕ × List (List ℕ))

-- the name of a topic in such a list
abbrev pub topic_of : (List ℕ × List (List ℕ)) → List ℕ
topic_of entry = entry.0

-- the channels of a topic in such a list
abbrev pub channels_in : (List ℕ × List (List ℕ)) → List (List ℕ)
channels_in entry = entry.1

-- the names of the topics
abbrev pub topics_of : TopicList → List (List ℕ)
topics_of names = map (λ e. e.0) names

-- the lists of channels, one for each topic
abbrev pub channel_lists_of : TopicList → List (List (List ℕ))
channel_lists_of names = map (λ e. e.1) names

-- the channels of a topic, none where the topic isn't there
abbrev pub channels_of : TopicList → List ℕ → List (List ℕ)
channels_of names topic = unwrap_or (lookup (bytes_eq topic) names) []

-- the topics before this one, this one with these channels, the topics after it
abbrev pub with_channels : TopicList → List ℕ → List (List ℕ) → TopicList
with_channels names topic channels = put_by topic_of names (topic, channels)

-- with the topic, which keeps its channels where it is there already
abbrev pub with_topic : TopicList → List ℕ → TopicList
with_topic names topic = with_channels names topic (channels_of names topic)

-- with the channel in the topic, which is there then too
abbrev pub with_channel : TopicList → List ℕ → List ℕ → TopicList
with_channel names topic channel = with_channels names topic (insert_name (channels_of names topic) channel)

-- these are channels in byte order, each once
pub record AreChannels (channels : List (List ℕ)) : Type 0 where
  pub ascending : IsAscending channels
  pub named : All IsName channels

-- these are topics in byte order, each once and with its channels so too
pub record IsInOrder (names : TopicList) : Type 0 where
  pub ascending : IsAscendingBy topic_of names
  pub named : All (λ e. IsName e.0) names
  pub channels : All (λ e. AreChannels e.1) names
