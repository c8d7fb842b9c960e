-- A hall with nothing pending, before the moment until which it is quiet, stands only for states in which nothing is due.
use Rattle.std.proofs.Common.{◌≡◌, ◌<◌, ◌==◌, ℕ, Bool, true, false, not, ◌&&◌, ◌||◌, List, [], ◌∷◌, ◌++◌, length, Option, Some, None, is_none, refl, sym, ap, subst, ◌∙◌, arith}
use Rattle.std.specs.List.{Contains, list_any}
use Rattle.std.proofs.lemmas.Bool.{false≢true, eqb-true}
use Rattle.nsq_outside.specs.Files.{Files}
use Rattle.path_image.specs.Found.{Pairwise}
use Rattle.v2_frame.specs.declared.message.Message.{Message}
use Rattle.channel_core.specs.Backlogs.{ring_depth, disk_depth}
use Rattle.broker_history.specs.State.{Channel, Topic, State, is_due, is_empty}
use Rattle.broker_history.specs.Topics.{takes, owes, has_due}
use Rattle.broker_history.specs.Before.{is_topic_due, is_any_due}
use Rattle.topic_core.proofs.Heads.{depths_count}
use Rattle.topic_core.proofs.Waiting.{from_settled}
use Rattle.channel_core.specs.Answers.{all_due}
use Rattle.channel_core.specs.Seen.{Seen as ChannelSeen, channel_with, seen_channel}
use Rattle.channel_core.proofs.Copies.{all_due_is}
use Rattle.floor_laws.proofs.Counting.{none_due as none_of_kept}
use Rattle.floor_laws.proofs.Pairs.{pairs_none}
use Rattle.floor_rooms.specs.declared.stall.Stall.{Stall}
use Rattle.floor_rooms.specs.declared.room.Room.{Room}
use Rattle.floor_rooms.specs.declared.hall.Hall.{Hall}
use Rattle.floor_rooms.specs.Rooms.{topic_name}
use Rattle.floor_rooms.specs.Sound.{IsStallSound, IsRoomSound, IsSound, has_none_waiting, rests}
use Rattle.floor_rooms.specs.Standing.{IsStallOf, IsRoomOf, HoldsFor}

-- how many copies are due doesn't depend on what is queued
pub due_whatever : (at : ℕ) (v : ChannelSeen) (waits others : List Message) → all_due at (channel_with v waits) ≡ all_due at (channel_with v others)
due_whatever at v waits others = all_due_is at waits v.flights v.deferred ∙ sym (all_due_is at others v.flights v.deferred)

-- no copy of a quiet channel is due
pub none_of_stall : (at : ℕ) (files : Files) (s : Stall) (k : Channel) → all_due at (channel_with s.channel []) ≡ 0 → IsStallOf files s k → list_any (λ x. is_due at x.place) k.copies ≡ false
none_of_stall at files s k none is = none_of_kept at (seen_channel s.channel is.disk) k is.is_kept (due_whatever at s.channel (s.channel.backlog.ring ++ is.disk) [] ∙ none)

-- a topic that isn't listed where nothing is
unlisted : (name : List ℕ) (listed : Bool) → (listed ≡ true → Contains [] name) → listed ≡ false
unlisted name false h = refl
unlisted name true h = let in_none = h refl in let within = in_none.1 in absurd (let no : ⊥ = omega (arith, within) in no)

-- parts of a test
both_parts : (a b : Bool) → (a && b) ≡ true → (a ≡ true) × (b ≡ true)
both_parts true b e = (refl, e)
both_parts false b e = absurd (false≢true e)

no_head : {X : Type 0} (head : Option X) → is_none head ≡ true → head ≡ None
no_head None e = refl
no_head (Some x) e = absurd (false≢true e)

-- a topic that rests takes nothing
idle_topic : (paused none_there none_waits taken : Bool) → (paused || (none_there || none_waits)) ≡ true → (not paused && not none_there && not none_waits && taken) ≡ false
idle_topic true none_there none_waits taken e = refl
idle_topic false true none_waits taken e = refl
idle_topic false false true taken e = refl
idle_topic false false false taken e = absurd (false≢true e)

no_pair : {X Y : Type 0} (R : X → Y → Type 0) (xs : List X) (ys : List Y) → Pairwise R xs ys → is_empty xs ≡ is_empty ys
no_pair R [] [] h = refl
no_pair R [] (y ∷ ys) h = absurd h
no_pair R (x ∷ xs) [] h = absurd h
no_pair R (x ∷ xs) (y ∷ ys) h = refl

no_length : {X : Type 0} (xs : List X) → length xs ≡ 0 → is_empty xs ≡ true
no_length [] e = refl
no_length (x ∷ xs) e = absurd (let no : ⊥ = omega (arith, e) in no)

-- where none waits in the hall none does in the state
none_waits : (files : Files) (r : Room) (t : Topic) (h : Hall) → IsRoomSound h r → IsRoomOf files r t → (b : Bool) → has_none_waiting r ≡ b → (b ≡ true → is_empty t.waiting ≡ true)
none_waits files r t h sound is b e yes_none =
    let parts = both_parts (ring_depth r.queue.backlog == 0) (disk_depth r.queue.backlog.queue == 0) (e ∙ yes_none) in
    let ring : ring_depth r.queue.backlog ≡ 0 = eqb-true (ring_depth r.queue.backlog) 0 parts.0 in
    let disk : disk_depth r.queue.backlog.queue ≡ 0 = eqb-true (disk_depth r.queue.backlog.queue) 0 parts.1 in
    no_length t.waiting (omega (arith, ring, disk, depths_count r.queue files t (λ none. sound.settled) is.queue))

weaker_test : (paused a b c d : Bool) → (paused || (a || b)) ≡ true → a ≡ c → (b ≡ true → d ≡ true) → (paused || (c || d)) ≡ true
weaker_test true a b c d e same f = refl
weaker_test false true b c d e same f = ap (λ x. x || d) (sym same)
weaker_test false false b c d e same f = ap (λ x. x || d) (sym same) ∙ f e

-- a room of such a hall
room_quiet : (h : Hall) (files : Files) (at : ℕ) → at < h.quiet_until → h.pending.items ≡ [] → (r : Room) (t : Topic) → IsRoomSound h r → IsRoomOf files r t → is_topic_due at t ≡ false
room_quiet h files at before none r t sound is =
    let rest : rests r ≡ true = sound.rests (unlisted (topic_name r) r.listed (λ e. subst (λ xs. Contains xs (topic_name r)) none (sound.listed e))) in
    let parts = both_parts (is_none r.queue.head) (r.queue.paused || (is_empty r.stalls.items || has_none_waiting r)) rest in
    let settled = from_settled r.queue files t sound.settled is.queue in
    let taken : t.taken ≡ None = settled.taken ∙ no_head r.queue.head parts.0 in
    let test : (t.paused || (is_empty t.channels || is_empty t.waiting)) ≡ true =
    ap (λ p. p || (is_empty t.channels || is_empty t.waiting)) settled.paused
    ∙ weaker_test r.queue.paused (is_empty r.stalls.items) (has_none_waiting r) (is_empty t.channels) (is_empty t.waiting) parts.1 (no_pair (IsStallOf files) r.stalls.items t.channels is.channels) (none_waits files r t h sound is (has_none_waiting r) refl) in
    let take : takes t ≡ false = idle_topic t.paused (is_empty t.channels) (is_empty t.waiting) (is_none t.taken) test in
    let owe : owes t.taken ≡ false = ap owes taken in
    let due : has_due at t ≡ false =
    pairs_none (IsStallOf files) (IsStallSound h.options (topic_name r) h.quiet_until h.unsaved_from) (λ k. list_any (λ x. is_due at x.place) k.copies) r.stalls.items t.channels
    (λ s k sound_s is_s. none_of_stall at files s k (sound_s.calm at before) is_s) sound.stalls is.channels in
    ap (λ b. b || owes t.taken || has_due at t) take ∙ ap (λ b. b || has_due at t) owe ∙ due

and_false : (a b : Bool) → b ≡ false → (a && b) ≡ false
and_false true b e = e
and_false false b e = refl

pub none_due : (h : Hall) (files : Files) (s : State) (at : ℕ) → IsSound h → HoldsFor h files s → at < h.quiet_until → h.pending.items ≡ [] → is_any_due s at ≡ false
none_due h files s at sound holds before none =
    and_false (not s.stopped) (list_any (is_topic_due at) s.topics) (pairs_none (IsRoomOf files) (IsRoomSound h) (is_topic_due at) h.rooms.items s.topics (room_quiet h files at before none) sound.rooms holds.stands.topics)
