-- Topics are added to a hall, one after another.
use Rattle.std.proofs.Common.{◌≡◌, ◌≢◌, inl, inr, ℕ, ◌+◌, ◌≤◌, ◌<◌, Bool, true, false, if◌then◌else◌, List, [], ◌∷◌, ◌++◌, get_or, length, map, take, take_all, drop, Some, None, refl, sym, ap, subst, ◌∙◌, arith}
use Rattle.std.specs.Prelude.{IsTrue}
use Rattle.std.specs.List.{All, AllByRecursion, Contains, list_any}
use Rattle.std.specs.Str.{bytes_eq}
use Rattle.std.proofs.lemmas.List.Elements.{All-cons, All-from_recursion, All-head, All-map, All-nil, All-push, All-tail, All-weaker, Contains-append_right, Contains-get_or}
use Rattle.std.proofs.lemmas.List.{map-append}
use Rattle.std.proofs.lemmas.List.Folds.{list_any-append}
use Rattle.nsq_base.specs.Name.{IsName, is_ephemeral}
use Rattle.nsq_base.specs.Names.{IsAscendingBy, is_before}
use Rattle.nsq_base.specs.declared.options.Options.{Options}
use Rattle.nsq_outside.specs.Files.{Files}
use Rattle.queue_image.specs.FileNames.{IsFileOf, channel_queue}
use Rattle.queue_image.specs.FileNames.IsFileOf.{own}
use Rattle.queue_image.specs.Finds.{BadMeta}
use Rattle.queue_image.proofs.Keeping.{finding_keeps}
use Rattle.queue_image.proofs.Naming.{one_queue}
use Rattle.queue_opening.specs.Refusals.{OpenFails}
use Rattle.queue_opening.specs.declared.refusal.Open.{Open}
use Rattle.queue_opening.specs.declared.refusal.Open.TheVariants as refusal
use Rattle.path_image.specs.Data.{CanKeepTopic, KeptChannel, KeptTopic}
use Rattle.path_image.specs.Found.{FindsChannel, FindsTopic, FoundChannel, FoundTopic, Pairwise, queues_of}
use Rattle.broker_history.specs.Found.{started}
use Rattle.broker_history.specs.State.{State, with_topic}
use Rattle.broker_history.proofs.Lists.{find_put}
use Rattle.names_file.specs.Kept.{CanKeepAll}
use Rattle.queue_sweep.proofs.Listing.{channels_ascend, first_in, made_in, made_of, rest_in, topics_ascend}
use Rattle.topic_core.specs.Laws.{OwnFilesStay}
use Rattle.channel_core.specs.Seen.{queue_name}
use Rattle.floor_rooms.specs.declared.hall.Hall.{Hall}
use Rattle.floor_rooms.specs.declared.room.Room.{Room}
use Rattle.floor_rooms.specs.Rooms.{put_room, room_in, topic_name}
use Rattle.floor_rooms.specs.Standing.{StandsFor}
use Rattle.floor_rooms.proofs.Staying.{other_topic, topic_is_no_channel}
use Rattle.floor_files.specs.Opened.{AreApart, BadStays, FindsBack, FindsQueue, FindsThem, IsBad, ListsStay, NoneIsBad, OnlyTheirFiles, OpensRoom, OpensTo, RefusesTopic, kept_channels, opened_topic}
use Rattle.floor_files.proofs.Found.{back_then, bad_then, lists_then}
use Rattle.floor_files.proofs.Parting.{all_front, all_last, last_of, name_apart, or_parts}
use Rattle.broker_floor.specs.Held.{Held}
use Rattle.broker_floor.specs.Adding.{AddsOne, AddsTopics, HasOthersOnly, IsAdded, PutsTopic, why_of, FindsAll, HasBadOf, HasOnlyTopics, IsElsewhere, IsGood, IsNotAdded, IsNotOne, IsWhyNotAdded, IsWhyNotOne, OnlyFilesOf, SameList, StandsWith, pauses}
use Rattle.daemon_endings.specs.declared.ends.Why.{Why}
use Rattle.daemon_endings.specs.declared.ends.Why.TheVariants as why
use Rattle.broker_floor.proofs.Finding.{all_of, rose_later, topic_again}
use Rattle.broker_floor.proofs.Orders.{Ascends, ascends, before_apart, before_middle, middle_of, next_before, next_split, next_taken, none_before, opened_is, pairs_ascend, pairs_behind, topic_last}

pub kept_pauses : (channels : List KeptChannel) → kept_channels (pauses channels) ≡ channels
kept_pauses [] = refl
kept_pauses (c ∷ channels) = ap (λ cs. c ∷ cs) (kept_pauses channels)

-- what holds of the queues of channels, told by their pauses or by their names
module _ (P : List ℕ → Type 0) (topic : List ℕ) where
  pub by_names : (channels : List KeptChannel) → All (λ (c : List ℕ × Bool). P (queue_name topic c.0)) (pauses channels) → All P (map (λ (c : KeptChannel). channel_queue topic c.name) channels)
  by_names [] all = All-nil P
  by_names (c ∷ channels) all =
      All-cons P (channel_queue topic c.name) (map (λ (d : KeptChannel). channel_queue topic d.name) channels) (All-head (λ (d : List ℕ × Bool). P (queue_name topic d.0)) (c.name, c.paused) (pauses channels) all) (by_names channels (All-tail (λ (d : List ℕ × Bool). P (queue_name topic d.0)) (c.name, c.paused) (pauses channels) all))

  pub by_pauses : (channels : List KeptChannel) → All P (map (λ (c : KeptChannel). channel_queue topic c.name) channels) → All (λ (c : List ℕ × Bool). P (queue_name topic c.0)) (pauses channels)
  by_pauses [] all = All-nil (λ (d : List ℕ × Bool). P (queue_name topic d.0))
  by_pauses (c ∷ channels) all =
      let rest : List (List ℕ) = map (λ (d : KeptChannel). channel_queue topic d.name) channels in
      All-cons (λ (d : List ℕ × Bool). P (queue_name topic d.0)) (c.name, c.paused) (pauses channels) (All-head P (channel_queue topic c.name) rest all) (by_pauses channels (All-tail P (channel_queue topic c.name) rest all))

-- none was added yet
pub added_none : (h : Hall) (files : Files) → AddsTopics [] h files h files
added_none h files = record {
  stands = stands_none;
  lists = λ name bodies bad found. record { bad = bad; found = found };
  bad = λ name bad. bad;
  good = All-nil (IsGood files);
  finds = All-nil (FindsAll files);
  back = λ name found. found;
  only = λ file others. refl;
}
  where
    stands_none : (founds : List FoundTopic) → Pairwise (FindsTopic files) [] founds → (s : State) → s.topics ≡ [] → StandsFor h files s → StandsFor h files (record s { topics = map started founds })
    stands_none [] p s none stands = subst (λ ts. StandsFor h files (record s { topics = ts })) none stands
    stands_none (f ∷ founds) p s none stands = absurd p

found_is : (t : KeptTopic) (z : FoundTopic) → z.name ≡ t.name → z.paused ≡ t.paused → opened_topic t.name t.paused z.messages z.channels ≡ opened_topic z.name z.paused z.messages z.channels
found_is t z name paused = ap (λ n. opened_topic n t.paused z.messages z.channels) (sym name) ∙ ap (λ on. opened_topic z.name on z.messages z.channels) (sym paused)

-- one topic more was added
module _ (done : List KeptTopic) (t : KeptTopic) (h0 h h' : Hall) (f0 f f' : Files) (all : AddsTopics done h0 f0 h f) where
  module _ (before : All (λ (d : KeptTopic). is_before d.name t.name ≡ true) done) (up : Ascends (λ (c : KeptChannel). c.name) t.channels) (opens : OpensTo t.name t.paused (pauses t.channels) h f h' f') where
    stands_one : StandsWith (done ++ t ∷ []) h0 f0 h' f'
    stands_one founds pairs s none stands =
        let split = last_of (FindsTopic f0) done t founds pairs in
        let z : FoundTopic = split.last in
        let front : State = record s { topics = map started split.front } in
        let one : FindsTopic f t z = topic_again f0 f t z (all_of (SameList f0 f) (queues_of t) all.lists) split.pair in
        let channels : Pairwise (FindsChannel f t.name) (kept_channels (pauses t.channels)) z.channels = subst (λ cs. Pairwise (FindsChannel f t.name) cs z.channels) (sym (kept_pauses t.channels)) one.channels in
        let put : StandsFor h' f' (with_topic front (opened_topic t.name t.paused z.messages z.channels)) = opens z.messages z.channels one.messages channels front (all.stands split.front split.pairs s none stands) in
        let order : Ascends (λ (c : FoundChannel). c.name) z.channels = pairs_ascend (λ (c : KeptChannel). c.name) (λ (c : FoundChannel). c.name) (FindsChannel f t.name) (λ x y p. p.name) t.channels z.channels one.channels up in
        let is : opened_topic t.name t.paused z.messages z.channels ≡ started z = found_is t z one.name one.paused ∙ opened_is z order in
        let behind : All (λ (d : FoundTopic). is_before d.name z.name ≡ true) split.front =
        subst (λ n. All (λ (d : FoundTopic). is_before d.name n ≡ true) split.front) (sym one.name) (pairs_behind (λ (d : KeptTopic). d.name) (λ (d : FoundTopic). d.name) (FindsTopic f0) (λ x y p. p.name) t.name done split.front split.pairs before) in
        subst (λ ts. StandsFor h' f' (record s { topics = map started ts })) (sym split.whole)
        (subst (StandsFor h' f') (topic_last s split.front z behind) (subst (λ u. StandsFor h' f' (with_topic front u)) is put))

    pub added_one : ListsStay f f' → BadStays f f' → NoneIsBad t.name (pauses t.channels) f → FindsThem t.name (pauses t.channels) f → FindsBack f f' → OnlyTheirFiles t.name (pauses t.channels) f f' → AddsTopics (done ++ t ∷ []) h0 f0 h' f'
    added_one lists bad good finds back only = record {
      stands = stands_one;
      lists = lists_then f0 f f' all.lists lists;
      bad = bad_then f0 f f' all.bad bad;
      good = All-push (IsGood f0) done t all.good
          (All-cons (λ name. IsBad f0 name → ⊥) t.name (map (λ (c : KeptChannel). channel_queue t.name c.name) t.channels) (λ b. good.own (all.bad t.name b))
          (by_names (λ name. IsBad f0 name → ⊥) t.name t.channels
          (All-weaker (λ (c : List ℕ × Bool). IsBad f (queue_name t.name c.0) → ⊥) (λ (c : List ℕ × Bool). IsBad f0 (queue_name t.name c.0) → ⊥) (λ c g b. g (all.bad (queue_name t.name c.0) b)) (pauses t.channels) good.channels)));
      finds = All-push (FindsAll f0) done t all.finds
          (All-cons (FindsQueue f0) t.name (map (λ (c : KeptChannel). channel_queue t.name c.name) t.channels) (all.back t.name finds.own)
          (by_names (FindsQueue f0) t.name t.channels
          (All-weaker (λ (c : List ℕ × Bool). FindsQueue f (queue_name t.name c.0)) (λ (c : List ℕ × Bool). FindsQueue f0 (queue_name t.name c.0)) (λ c found. all.back (queue_name t.name c.0) found) (pauses t.channels) finds.channels)));
      back = back_then f0 f f' all.back back;
      only = λ file others. theirs file (all_last (IsElsewhere file) done t others) ∙ all.only file (all_front (IsElsewhere file) done (t ∷ []) others);
    }
      where
        theirs : (file : List ℕ) → IsElsewhere file t → f' file ≡ f file
        theirs file spared =
            let rest : List (List ℕ) = map (λ (c : KeptChannel). channel_queue t.name c.name) t.channels in
            only file (All-head (λ name. IsFileOf name file → ⊥) t.name rest spared) (by_pauses (λ name. IsFileOf name file → ⊥) t.name t.channels (All-tail (λ name. IsFileOf name file → ⊥) t.name rest spared))

-- the names of the topics of a hall, with one more
pub names_one : (done : List KeptTopic) (t : KeptTopic) (h h' : Hall) (r : Room) → HasOnlyTopics done h → h'.rooms.items ≡ put_room h.rooms.items r → topic_name r ≡ t.name → HasOnlyTopics (done ++ t ∷ []) h'
names_one done t h h' r old put called name none =
    let parts = or_parts (list_any (λ (d : KeptTopic). bytes_eq name d.name) done) (list_any (λ (d : KeptTopic). bytes_eq name d.name) (t ∷ [])) (sym (list_any-append (λ (d : KeptTopic). bytes_eq name d.name) done (t ∷ [])) ∙ none) in
    let last : bytes_eq name t.name ≡ false = (or_parts (bytes_eq name t.name) false parts.1).0 in
    ap (λ xs. room_in xs name) put ∙ find_put topic_name h.rooms.items r name ∙ ap (λ e. if e then Some r else room_in h.rooms.items name) (ap (bytes_eq name) called ∙ last) ∙ old name parts.0

-- a queue of another topic has other files
module _ (d t : KeptTopic) (named : IsName t.name) (other_named : IsName d.name) (apart : d.name ≢ t.name) where
  apart_own : All (λ n. n ≢ t.name) (queues_of d)
  apart_own =
      All-cons (λ n. n ≢ t.name) d.name (map (λ (c : KeptChannel). channel_queue d.name c.name) d.channels) apart
      (All-map (λ n. n ≢ t.name) (λ (c : KeptChannel). channel_queue d.name c.name) d.channels (all_of (λ (c : KeptChannel). channel_queue d.name c.name ≢ t.name) d.channels (λ c e. topic_is_no_channel t.name d.name c.name named (sym e))))

  apart_channel : (channel : List ℕ) → All (λ n. n ≢ queue_name t.name channel) (queues_of d)
  apart_channel channel =
      All-cons (λ n. n ≢ queue_name t.name channel) d.name (map (λ (c : KeptChannel). channel_queue d.name c.name) d.channels) (topic_is_no_channel d.name t.name channel other_named)
      (All-map (λ n. n ≢ queue_name t.name channel) (λ (c : KeptChannel). channel_queue d.name c.name) d.channels
      (all_of (λ (c : KeptChannel). channel_queue d.name c.name ≢ queue_name t.name channel) d.channels (λ c. other_topic d.name c.name t.name channel other_named named apart)))

abbrev AreOthers : List ℕ → KeptTopic → Type 0
AreOthers name d = All (λ n. n ≢ name) (queues_of d)

-- a queue whose topic wasn't added yet is as it was
own_stays : (done : List KeptTopic) (name : List ℕ) (f0 f : Files) → OnlyFilesOf done f0 f → All (AreOthers name) done → OwnFilesStay name f0 f
own_stays done name f0 f only all file its =
    only file (All-weaker (AreOthers name) (IsElsewhere file) (λ d ns. All-weaker (λ n. n ≢ name) (λ n. IsFileOf n file → ⊥) (λ n apart of. apart (one_queue n name file of (own its))) (queues_of d) ns) done all)

bad_before : (name : List ℕ) (f0 f : Files) → OwnFilesStay name f0 f → IsBad f name → IsBad f0 name
bad_before name f0 f stays bad = finding_keeps 26 16777242 f f0 name BadMeta (λ file its. sym (stays file its)) bad

module _ (topics done later : List KeptTopic) (t : KeptTopic) (whole : topics ≡ done ++ t ∷ later) (can : AllByRecursion CanKeepTopic topics) (before : All (λ (d : KeptTopic). is_before d.name t.name ≡ true) done) (h0 h : Hall) (f0 f f' : Files) where
  can_all : All CanKeepTopic (done ++ t ∷ later)
  can_all = subst (All CanKeepTopic) whole (All-from_recursion CanKeepTopic topics can)

  named_t : IsName t.name
  named_t = (middle_of CanKeepTopic done t later can_all).named

  others_named : All (λ (d : KeptTopic). IsName d.name × (d.name ≢ t.name)) done
  others_named k d low =
      let x : KeptTopic = get_or done k d in
      ((all_front CanKeepTopic done (t ∷ later) can_all k d low).named, λ e. name_apart t.name x.name (before_apart x.name t.name (before k d low)) (sym e))

  listed_t : Contains topics t
  listed_t = subst (λ xs. Contains xs t) (sym whole) (Contains-append_right done (t ∷ later) t (first_in t later))

  bad_own : OnlyFilesOf done f0 f → IsBad f t.name → HasBadOf topics f0
  bad_own only bad = record {
    topic = t;
    listed = listed_t;
    name = t.name;
    own = first_in t.name (map (λ (c : KeptChannel). channel_queue t.name c.name) t.channels);
    bad = bad_before t.name f0 f (own_stays done t.name f0 f only (All-weaker (λ (d : KeptTopic). IsName d.name × (d.name ≢ t.name)) (AreOthers t.name) (λ d x. apart_own d t named_t x.0 x.1) done others_named)) bad;
  }

  bad_channel : OnlyFilesOf done f0 f → (c : List ℕ × Bool) → Contains (pauses t.channels) c → IsBad f (queue_name t.name c.0) → HasBadOf topics f0
  bad_channel only c has bad =
      let m = made_of (λ (d : KeptChannel). (d.name, d.paused)) t.channels c has in
      let same : channel_queue t.name m.of.name ≡ queue_name t.name c.0 = ap (λ (x : List ℕ × Bool). queue_name t.name x.0) m.is in
      record {
        topic = t;
        listed = listed_t;
        name = queue_name t.name c.0;
        own = rest_in t.name (map (λ (d : KeptChannel). channel_queue t.name d.name) t.channels) (queue_name t.name c.0)
            (subst (λ n. Contains (map (λ (d : KeptChannel). channel_queue t.name d.name) t.channels) n) same (made_in (λ (d : KeptChannel). channel_queue t.name d.name) t.channels m.of m.here));
        bad =
            bad_before (queue_name t.name c.0) f0 f
            (own_stays done (queue_name t.name c.0) f0 f only (All-weaker (λ (d : KeptTopic). IsName d.name × (d.name ≢ t.name)) (AreOthers (queue_name t.name c.0)) (λ d x. apart_channel d t named_t x.0 x.1 c.0) done others_named)) bad;
      }

  bad_of : OnlyFilesOf done f0 f → RefusesTopic t.name (pauses t.channels) f f' refusal.BadMeta → HasBadOf topics f0
  bad_of only (inl own_bad) = bad_own only own_bad.found
  bad_of only (inr (inl memory)) = absurd cc
  bad_of only (inr (inr one)) = bad_channel only one.channel one.one (bad_before (queue_name t.name one.channel.0) f one.before one.same one.refused.found)

  module _ (tells : Bool) (k0 k k' : ℕ) (low : k0 ≤ k) (adds : IsTrue tells → AddsTopics done h0 f0 h f) where
    why_one : (reason : Why) → IsWhyNotOne reason tells t f f' k k' → IsWhyNotAdded reason tells topics f0 k0 k'
    why_one why.BadData refused = λ told. bad_of (adds told).only (refused told)
    why_one why.EpochSpent refused = refused
    why_one why.Fault rose = rose_later k0 k k' low rose
    why_one why.Memory refused = tt

    theirs_only : OnlyFilesOf done f0 f → OnlyTheirFiles t.name (pauses t.channels) f f' → OnlyFilesOf topics f0 f'
    theirs_only first only file others =
        let all : All (IsElsewhere file) (done ++ t ∷ later) = subst (All (IsElsewhere file)) whole others in
        let rest : List (List ℕ) = map (λ (c : KeptChannel). channel_queue t.name c.name) t.channels in
        let spared : IsElsewhere file t = middle_of (IsElsewhere file) done t later all in
        only file (All-head (λ name. IsFileOf name file → ⊥) t.name rest spared) (by_pauses (λ name. IsFileOf name file → ⊥) t.name t.channels (All-tail (λ name. IsFileOf name file → ⊥) t.name rest spared)) ∙ first file (all_front (IsElsewhere file) done (t ∷ later) all)

    -- a topic is refused
    pub not_added : (reason : Why) → IsNotOne reason tells t f f' k k' → IsNotAdded reason tells topics f0 f' k0 k'
    not_added reason x = record { why = why_one reason x.why; lists = λ told. lists_then f0 f f' (adds told).lists (x.lists told); only = λ told. theirs_only (adds told).only (x.only told) }

-- nothing was added to a hall without topics
pub added_first : (tells : Bool) (held : Held) (files : Files) (k : ℕ) → held.hall.rooms.items ≡ [] → IsAdded tells [] held held files files k k
added_first tells held files k empty = record { rest = refl; names = λ name none. ap (λ xs. room_in xs name) empty; adds = λ told. added_none held.hall files; faults = omega arith }

pub others_both : (a b c : Held) → HasOthersOnly a b → HasOthersOnly b c → HasOthersOnly a c
others_both a b c first second = second ∙ ap (λ (x : Held). record x { hall = record (x.hall) { rooms = c.hall.rooms; pending = c.hall.pending } }) first

-- the topic that a loop comes to was added
pub added_next : (tells : Bool) (done : List KeptTopic) (t : KeptTopic) (a b c : Held) (f0 f f' : Files) (k0 k k' : ℕ) → IsAdded tells done a b f0 f k0 k → All (λ (d : KeptTopic). is_before d.name t.name ≡ true) done → Ascends (λ (c : KeptChannel). c.name) t.channels
    → HasOthersOnly b c → PutsTopic t.name b.hall c.hall → (IsTrue tells → AddsOne t b.hall f c.hall f') → k ≤ k' → IsAdded tells (done ++ t ∷ []) a c f0 f' k0 k'
added_next tells done t a b c f0 f f' k0 k k' x before up rest puts adds low = record {
  rest = others_both a b c x.rest rest;
  names = names_one done t b.hall c.hall puts.room x.names puts.is puts.named;
  adds = λ told. let one = adds told in added_one done t a.hall b.hall c.hall f0 f f' (x.adds told) before up one.opens one.lists one.bad one.good one.finds one.back one.only;
  faults = let first = x.faults in omega (arith, first, low);
}

-- the hall still isn't flushed, and doesn't have the topic that a loop comes to
pub still_unflushed : (a b : Held) → HasOthersOnly a b → a.flushed ≡ false → b.flushed ≡ false
still_unflushed a b rest unflushed = ap (λ (x : Held). x.flushed) rest ∙ unflushed

-- a list of channels with their pauses
pub apart_pauses : (channels : List KeptChannel) → Ascends (λ (c : KeptChannel). c.name) channels → AreApart (pauses channels)
apart_pauses channels up before after c is =
    none_before (λ (d : List ℕ × Bool). d.0) c.0 before (before_middle (λ (d : List ℕ × Bool). d.0) before c after (subst (Ascends (λ (d : List ℕ × Bool). d.0)) is (ascends_pauses channels up)))
  where
    ascends_pauses : (cs : List KeptChannel) → Ascends (λ (c : KeptChannel). c.name) cs → Ascends (λ (d : List ℕ × Bool). d.0) (pauses cs)
    ascends_pauses [] up = tt
    ascends_pauses (x ∷ cs) up = (All-map (λ (d : List ℕ × Bool). is_before x.name d.0 ≡ true) (λ (c : KeptChannel). (c.name, c.paused)) cs up.0, ascends_pauses cs up.1)

pub durable_pauses : (channels : List KeptChannel) → All (λ (c : KeptChannel). is_ephemeral c.name ≡ false) channels → All (λ (c : List ℕ × Bool). is_ephemeral c.0 ≡ false) (pauses channels)
durable_pauses channels all = All-map (λ (c : List ℕ × Bool). is_ephemeral c.0 ≡ false) (λ (c : KeptChannel). (c.name, c.paused)) channels all

pub pauses_next : (xs : List KeptChannel) (i : ℕ) (x : KeptChannel) → i < length xs → x ≡ get_or xs i x → pauses (take (i + 1) xs) ≡ pauses (take i xs) ++ (x.name, x.paused) ∷ []
pauses_next xs i x low is = ap pauses (next_taken (λ (c : KeptChannel). c.name) xs i x low is) ∙ map-append (λ (c : KeptChannel). (c.name, c.paused)) (take i xs) (x ∷ [])

-- what holds of each item holds of the one that a loop comes to
pub at_next : {X : Type 0} (P : X → Type 0) (xs : List X) (i : ℕ) (x : X) → i < length xs → x ≡ get_or xs i x → All P xs → P x
at_next P xs i x low is all = subst P (sym is) (all i x low)

pub next_in : {X : Type 0} (xs : List X) (i : ℕ) (x : X) → i < length xs → x ≡ get_or xs i x → Contains xs x
next_in xs i x low is = subst (Contains xs) (sym is) (Contains-get_or xs i x low)

module _ (topics : List KeptTopic) (i : ℕ) (t : KeptTopic) (low : i < length topics) (is : t ≡ get_or topics i t) (can : CanKeepAll topics) where
  pub topics_before : All (λ (d : KeptTopic). is_before d.name t.name ≡ true) (take i topics)
  topics_before = next_before (λ (d : KeptTopic). d.name) topics i t low is (topics_ascend topics can)

  pub topic_order : IsAscendingBy (λ (c : KeptChannel). c.name) t.channels
  topic_order = channels_ascend topics t can (next_in topics i t low is)

  pub topic_new : (h : Hall) → HasOnlyTopics (take i topics) h → room_in h.rooms.items t.name ≡ None
  topic_new h names = names t.name (none_before (λ (d : KeptTopic). d.name) t.name (take i topics) topics_before)

  -- it is added, or refused
  module _ (tells : Bool) (a b c : Held) (f0 f f' : Files) (k0 k k' : ℕ) (x : IsAdded tells (take i topics) a b f0 f k0 k) where
    pub topic_added : HasOthersOnly b c → PutsTopic t.name b.hall c.hall → (IsTrue tells → AddsOne t b.hall f c.hall f') → k ≤ k' → IsAdded tells (take (i + 1) topics) a c f0 f' k0 k'
    topic_added rest puts adds more =
        subst (λ done. IsAdded tells done a c f0 f' k0 k') (sym (next_taken (λ (d : KeptTopic). d.name) topics i t low is))
        (added_next tells (take i topics) t a b c f0 f f' k0 k k' x topics_before (ascends (λ (d : KeptChannel). d.name) t.channels topic_order) rest puts adds more)

    pub topic_refused : (reason : Why) → IsNotOne reason tells t f f' k k' → IsNotAdded reason tells topics f0 f' k0 k'
    topic_refused reason refused = not_added topics (take i topics) (drop (i + 1) topics) t (next_split (λ (d : KeptTopic). d.name) topics i t low is) can.topics topics_before a.hall b.hall f0 f f' tells k0 k k' x.faults x.adds reason refused

-- behind the last one all were added
pub topics_added : (tells : Bool) (topics : List KeptTopic) (i : ℕ) (a b : Held) (f0 f : Files) (k0 k : ℕ) → length topics ≤ i → IsAdded tells (take i topics) a b f0 f k0 k → IsAdded tells topics a b f0 f k0 k
topics_added tells topics i a b f0 f k0 k past added = subst (λ done. IsAdded tells done a b f0 f k0 k) (take_all i topics past) added

-- want of memory for the list of its channels
pub memory_first : (tells : Bool) (t : KeptTopic) (files : Files) (before now : ℕ) → IsNotOne why.Memory tells t files files before now
memory_first tells t files before now = record { why = tt; lists = λ told name bodies bad found. record { bad = bad; found = found }; only = λ told file no_topic no_channel. refl }

why_refused : (e : Open) (tells : Bool) (t : KeptTopic) (old new : Files) (before now : ℕ) → (IsTrue tells → RefusesTopic t.name (pauses t.channels) old new e) → OpenFails before now e → IsWhyNotOne (why_of e) tells t old new before now
why_refused refusal.Fault tells t old new before now refuses fails = fails
why_refused refusal.BadMeta tells t old new before now refuses fails = refuses
why_refused refusal.Memory tells t old new before now refuses fails = tt

pub one_refused : (e : Open) (tells : Bool) (t : KeptTopic) (old new : Files) (before now : ℕ) → (IsTrue tells → RefusesTopic t.name (pauses t.channels) old new e) → OpenFails before now e → (IsTrue tells → ListsStay old new) → (IsTrue tells → OnlyTheirFiles t.name (pauses t.channels) old new) → IsNotOne (why_of e) tells t old new before now
one_refused e tells t old new before now refuses fails lists only = record { why = why_refused e tells t old new before now refuses fails; lists = lists; only = only }

-- what a call tells of a topic, by its name, its pause and its list of channels
module _ (t : KeptTopic) (name : List ℕ) (on : Bool) (list : List (List ℕ × Bool)) (called : name ≡ t.name) (paused : on ≡ t.paused) (listed : list ≡ pauses t.channels) where
  pub adds_of : (h h' : Hall) (f f' : Files) → OpensTo name on list h f h' f' → ListsStay f f' → BadStays f f' → NoneIsBad name list f → FindsThem name list f → FindsBack f f' → OnlyTheirFiles name list f f' → AddsOne t h f h' f'
  adds_of h h' f f' opens lists bad good finds back only = record {
    opens = subst (λ n. OpensTo n t.paused (pauses t.channels) h f h' f') called (subst (λ b. OpensTo name b (pauses t.channels) h f h' f') paused (subst (λ l. OpensTo name on l h f h' f') listed opens));
    lists = lists;
    bad = bad;
    good = subst (λ n. NoneIsBad n (pauses t.channels) f) called (subst (λ l. NoneIsBad name l f) listed good);
    finds = subst (λ n. FindsThem n (pauses t.channels) f) called (subst (λ l. FindsThem name l f) listed finds);
    back = back;
    only = subst (λ n. OnlyTheirFiles n (pauses t.channels) f f') called (subst (λ l. OnlyTheirFiles name l f f') listed only);
  }

  pub puts_of : (options : Options) (h h' : Hall) → OpensRoom options name on h.rooms.items h'.rooms.items → PutsTopic t.name h h'
  puts_of options h h' opens = record { room = opens.room; is = opens.is; named = opens.opened.name ∙ called }

  pub refused_of : (e : Open) (tells : Bool) (old new : Files) (before now : ℕ) → (IsTrue tells → RefusesTopic name list old new e) → OpenFails before now e → (IsTrue tells → ListsStay old new) → (IsTrue tells → OnlyTheirFiles name list old new) → IsNotOne (why_of e) tells t old new before now
  refused_of e tells old new before now refuses fails lists only =
      one_refused e tells t old new before now (λ told. subst (λ n. RefusesTopic n (pauses t.channels) old new e) called (subst (λ l. RefusesTopic name l old new e) listed (refuses told))) fails lists
      (λ told. subst (λ n. OnlyTheirFiles n (pauses t.channels) old new) called (subst (λ l. OnlyTheirFiles name l old new) listed (only told)))
