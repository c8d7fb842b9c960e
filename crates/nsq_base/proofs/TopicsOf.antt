-- What a list of topics says of one topic, by the place where it stands or belongs.
use Rattle.std.proofs.Common.{◌≡◌, ℕ, suc, set, arith, Bool, true, false, Some, List, [], ◌∷◌, ◌++◌, take, drop, get_or, refl, ap, sym, ◌∙◌}
use Rattle.std.specs.List.{All}
use Rattle.std.specs.Map.{lookup}
use Rattle.std.specs.Option.{unwrap_or}
use Rattle.std.specs.Str.{bytes_eq}
use Rattle.std.proofs.lemmas.Slice.Eq.{bytes_eq-Decides}
use Rattle.std.proofs.lemmas.List.{append-nil, append_assoc, set-get_or}
use Rattle.std.proofs.lemmas.List.Elements.{All-nil, All-head, All-tail, All-weaker, filter_passes, All-same}
use Rattle.nsq_base.proofs.PutBy.{parts_at, put_by-stands, other_from_order, Less-from_before, byte_order-flip, IsAscendingBy-put_by, All-put_by}
use Rattle.nsq_core.specs.Name.{IsName}
use Rattle.nsq_base.specs.Names.{TopicList, topic_of, channels_of, with_topic, with_channel, with_channels, insert_name, is_before, AreChannels, IsInOrder}
use Rattle.nsq_base.specs.Places.{StandsAt, BelongsAt}

-- a look-up passes over entries at which the test fails
lookup-append : {K X : Type 0} (test : K → Bool) (front back : List (K × X)) → All (λ e. test e.0 ≡ false) front → lookup test (front ++ back) ≡ lookup test back
lookup-append test [] back h = refl
lookup-append test (e ∷ front) back h =
    rw (All-head (λ e. test e.0 ≡ false) e front h) (lookup-append test front back (All-tail (λ e. test e.0 ≡ false) e front h))

-- a byte string is itself
bytes_eq-refl : (a : List ℕ) → bytes_eq a a ≡ true
bytes_eq-refl a = (bytes_eq-Decides a a).1 refl

-- a topic that stands there has the channels of its entry
pub channels_of-stands : (names : TopicList) (t : List ℕ) (i : ℕ) (d : List ℕ × List (List ℕ)) → StandsAt topic_of names t i → channels_of names t ≡ (get_or names i d).1
channels_of-stands names t i d h =
    let front : All (λ e. bytes_eq t e.0 ≡ false) (take i names) =
    All-weaker (λ (e : List ℕ × List (List ℕ)). is_before e.0 t ≡ true) (λ e. bytes_eq t e.0 ≡ false)
    (λ e k. other_from_order t e.0 _ (byte_order-flip e.0 t _ (Less-from_before _ k)) refl) (take i names)
    (All-same (λ (e : List ℕ × List (List ℕ)). is_before e.0 t ≡ true) (take i names) _ (sym h.before) (filter_passes (λ (e : List ℕ × List (List ℕ)). is_before e.0 t) names)) in
    let here : bytes_eq t (get_or names i d).0 ≡ true = rw (h.is_key d) (bytes_eq-refl t) in
    let back : lookup (bytes_eq t) (get_or names i d ∷ drop (suc i) names) ≡ Some (get_or names i d).1 = rw here refl in
    ap (λ o. unwrap_or o []) (ap (lookup (bytes_eq t)) (sym (parts_at names i d h.in_range) ∙ append_assoc (take i names) (get_or names i d ∷ []) (drop (suc i) names)) ∙ lookup-append (bytes_eq t) (take i names) (get_or names i d ∷ drop (suc i) names) front ∙ back)

-- a topic that isn't there has no channels
pub channels_of-belongs : (names : TopicList) (t : List ℕ) (i : ℕ) → BelongsAt topic_of names t i → channels_of names t ≡ []
channels_of-belongs names t i h =
    ap (λ o. unwrap_or o []) (ap (lookup (bytes_eq t)) (sym (append-nil names)) ∙ lookup-append (bytes_eq t) names [] h.absent)

-- channels stay in order, each once, when a name is put in
pub AreChannels-insert_name : (channels : List (List ℕ)) (c : List ℕ) → AreChannels channels → IsName c → AreChannels (insert_name channels c)
AreChannels-insert_name channels c h k =
    record { ascending = IsAscendingBy-put_by (λ n. n) channels c h.ascending; named = All-put_by (λ n. n) IsName channels c h.named k }

-- topics stay in order, each once, when one gets other channels
pub IsInOrder-with_channels : (names : TopicList) (t : List ℕ) (cs : List (List ℕ)) → IsInOrder names → IsName t → AreChannels cs → IsInOrder (with_channels names t cs)
IsInOrder-with_channels names t cs h k l =
    record {
      ascending = IsAscendingBy-put_by topic_of names (t, cs) h.ascending;
      named = All-put_by topic_of (λ e. IsName e.0) names (t, cs) h.named k;
      channels = All-put_by topic_of (λ e. AreChannels e.1) names (t, cs) h.channels l;
    }

-- no channels are in order
pub AreChannels-nil : AreChannels []
AreChannels-nil = record { ascending = λ i j d l m. absurd (omega arith); named = All-nil IsName }

-- the entry of a topic that stands there gets other channels
pub set_topic : (names : TopicList) (t : List ℕ) (i : ℕ) (e : List ℕ × List (List ℕ)) (cs : List (List ℕ)) → StandsAt topic_of names t i → e ≡ get_or names i e → set names i (e.0, cs) ≡ with_channels names t cs
set_topic names t i e cs h is =
    ap (λ (n : List ℕ). set names i (n, cs)) (ap topic_of is ∙ h.is_key e) ∙ sym (put_by-stands topic_of names (t, cs) i h)

-- an entry that stands there, put there again, changes nothing
pub set_entry : (names : TopicList) (i : ℕ) (e : List ℕ × List (List ℕ)) (cs : List (List ℕ)) → e ≡ get_or names i e → cs ≡ e.1 → set names i (e.0, cs) ≡ names
set_entry names i e cs is k =
    ap (λ (l : List (List ℕ)). set names i (e.0, l)) k ∙ ap (λ (x : List ℕ × List (List ℕ)). set names i x) is ∙ set-get_or names i e

-- a topic that stands there stays as it is
pub with_topic-stands : (names : TopicList) (t : List ℕ) (i : ℕ) → StandsAt topic_of names t i → names ≡ with_topic names t
with_topic-stands names t i h =
    let d : List ℕ × List (List ℕ) = (t, channels_of names t) in
    let e : get_or names i d ≡ d = λ j. (h.is_key d j, sym (channels_of-stands names t i d h) j) in
    sym (put_by-stands topic_of names d i h ∙ ap (λ (x : List ℕ × List (List ℕ)). set names i x) (sym e) ∙ set-get_or names i d)

-- a name that stands there stays as it is
pub insert_name-stands : (channels : List (List ℕ)) (c : List ℕ) (i : ℕ) → StandsAt (λ n. n) channels c i → channels ≡ insert_name channels c
insert_name-stands channels c i h =
    sym (put_by-stands (λ n. n) channels c i h ∙ ap (λ (x : List ℕ). set channels i x) (sym (h.is_key c)) ∙ set-get_or channels i c)

-- a topic that stands there, when a channel is put in
pub with_channel-stands : (names : TopicList) (t c : List ℕ) (i : ℕ) (e : List ℕ × List (List ℕ)) (cs : List (List ℕ)) → StandsAt topic_of names t i → e ≡ get_or names i e → cs ≡ insert_name e.1 c → set names i (e.0, cs) ≡ with_channel names t c
with_channel-stands names t c i e cs h is k =
    set_topic names t i e cs h is ∙ ap (λ (l : List (List ℕ)). with_channels names t l) (k ∙ ap (λ (l : List (List ℕ)). insert_name l c) (ap (λ (x : List ℕ × List (List ℕ)). x.1) is ∙ sym (channels_of-stands names t i e h)))

-- a topic that wasn't there, with no channels
pub with_topic-belongs : (names : TopicList) (t : List ℕ) (i : ℕ) (cs : List (List ℕ)) → BelongsAt topic_of names t i → cs ≡ [] → with_channels names t cs ≡ with_topic names t
with_topic-belongs names t i cs h k = ap (λ (l : List (List ℕ)). with_channels names t l) (k ∙ sym (channels_of-belongs names t i h))

-- a topic that wasn't there, with one channel
pub with_channel-belongs : (names : TopicList) (t c : List ℕ) (i : ℕ) (cs : List (List ℕ)) → BelongsAt topic_of names t i → cs ≡ c ∷ [] → with_channels names t cs ≡ with_channel names t c
with_channel-belongs names t c i cs h k =
    ap (λ (l : List (List ℕ)). with_channels names t l) (k ∙ ap (λ (l : List (List ℕ)). insert_name l c) (sym (channels_of-belongs names t i h)))
