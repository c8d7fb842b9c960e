-- What flushes leave of a topic's channels, of a topic and of all topics.
use Rattle.std.proofs.Common.{◌≡◌, ◌≢◌, ◌⊎◌, inl, inr, ◌≤◌, ◌<◌, ◌+◌, ◌-◌, ◌^◌, ℕ, suc, zero, set, min, Bool, true, false, nat_le, List, [], ◌∷◌, ◌++◌, length, get_or, Option, Some, None, refl, sym, ap, subst, ◌∙◌, arith}
use Rattle.std.specs.Prelude.{IfSome, IsTrue}
use Rattle.std.specs.List.{Contains, slice_get}
use Rattle.std.specs.Ordering.{is_lt}
use Rattle.std.proofs.lemmas.Bool.{false≢true, leb-true, leb-false}
use Rattle.std.proofs.lemmas.List.{length-append}
use Rattle.std.proofs.lemmas.List.Elements.{All-contains_itself, All-head, Contains-append_right}
use Rattle.std.proofs.lemmas.Option.{get_or_from_slice_get, slice_get_within}
use Rattle.nsq_base.specs.Name.{IsName}
use Rattle.nsq_base.specs.Names.{IsAscendingBy, is_before}
use Rattle.nsq_outside.specs.Causes.{Rose}
use Rattle.nsq_outside.specs.Files.{Files}
use Rattle.queue_image.specs.Finds.{Records}
use Rattle.queue_image.proofs.Keeping.{finding_keeps}
use Rattle.v2_frame.specs.declared.message.Message.{Message}
use Rattle.path_image.specs.Found.{HasMessages, Pairwise}
use Rattle.disk_queue.specs.Seen.{Seen as Queue}
use Rattle.backlog.specs.Lists.{DiskChanges, OnDisk, Stands}
use Rattle.backlog.specs.Answers.{FlushFails}
use Rattle.backlog.specs.declared.answers.Flushed.{Flushed}
use Rattle.backlog.specs.declared.answers.Flushed.TheVariants.{Done, Fault}
use Rattle.broker_history.specs.State.{Channel, is_ephemeral_channel}
use Rattle.broker_history.specs.Left.{SameMessages, left_in_channel}
use Rattle.topic_core.specs.Laws.{DiskStays, OwnFilesStay}
use Rattle.channel_core.specs.Seen.{Seen as ChannelSeen, queue_name, seen_channel}
use Rattle.channel_core.specs.Storing.{FlushLeaves, FlushStores}
use Rattle.floor_laws.proofs.Counting.{counts_alike}
use Rattle.floor_rooms.specs.declared.stall.Stall.{Stall}
use Rattle.floor_rooms.specs.declared.room.Room.{Room}
use Rattle.floor_rooms.specs.Rooms.{channel_name, topic_name}
use Rattle.floor_rooms.specs.Standing.{IsStallOf}
use Rattle.floor_rooms.specs.Changes.{OthersStay}
use Rattle.floor_rooms.proofs.Staying.{other_channel, others_stay, stall_stays}
use Rattle.floor_rooms.proofs.Orders.{tied}
use Rattle.floor_rooms.proofs.Dating.{pairs_one, pairs_same, pairs_then}
use Rattle.floor_rooms.proofs.Filing.{only_of_channel, only_same, only_then}
use Rattle.floor_files.proofs.Reading.{finds_queue}
use Rattle.floor_files.specs.Flushing.{CanFlushRoom, CanFlushStall, FindsQueue, KeepsStallNames, MissesFew, StallsLeft, StallsSoFar, both_flushed}

-- files that stay, and what an opening finds in them
pub own_then : (name : List ℕ) (a b c : Files) → OwnFilesStay name a b → OwnFilesStay name b c → OwnFilesStay name a c
own_then name a b c x y = λ file of. y file of ∙ x file of

messages_stay : (name : List ℕ) (old new : Files) (messages : List Message) → OwnFilesStay name old new → HasMessages old name messages → HasMessages new name messages
messages_stay name old new messages stays has = record { bodies = has.bodies; bad = has.bad; queue = finding_keeps 26 16777242 old new name (Records has.bodies has.bad) stays has.queue; records = has.records }

pub found_stays : (left : List Message) (name : List ℕ) (old new : Files) → OwnFilesStay name old new → FindsQueue left name old → FindsQueue left name new
found_stays left name old new stays f = record { messages = f.messages; found = messages_stay name old new f.messages stays f.found; same = f.same }

pub named_disk : (name : List ℕ) (queue : Option Queue) (old new : Files) → IfSome queue (λ q. q.name ≡ name) → OwnFilesStay name old new → DiskStays queue old new
named_disk name None old new is stays = tt
named_disk name (Some q) old new is stays = subst (λ (n : List ℕ). OwnFilesStay n old new) (sym is) stays

-- two answers together
pub fails_both : (n0 n1 n2 : ℕ) (a b : Flushed) → n0 ≤ n1 → n1 ≤ n2 → FlushFails n0 n1 a → FlushFails n1 n2 b → FlushFails n0 n2 (both_flushed a b)
fails_both n0 n1 n2 Done Done low high f g = tt
fails_both n0 n1 n2 Done Fault low high f g = omega (arith, low, g)
fails_both n0 n1 n2 Fault Done low high f g = omega (arith, high, f)
fails_both n0 n1 n2 Fault Fault low high f g = omega (arith, high, f)

done_first : (a b : Flushed) → both_flushed a b ≡ Done → a ≡ Done
done_first Done b e = refl
done_first Fault b e = absurd (let no : ⊥ = cc in no)

done_second : (a b : Flushed) → both_flushed a b ≡ Done → b ≡ Done
done_second Done b e = e
done_second Fault b e = absurd (let no : ⊥ = cc in no)

-- the queues that were missed
abbrev pub missed_with : Flushed → (name : List ℕ) → List (List ℕ) → List (List ℕ)
missed_with Done name missed = missed
missed_with Fault name missed = name ∷ missed

pub missed_here : (name : List ℕ) (missed : List (List ℕ)) → Contains (name ∷ missed) name
missed_here name missed = All-head (Contains (name ∷ missed)) name missed (All-contains_itself (name ∷ missed))

pub missed_still : (b : Flushed) (name : List ℕ) (missed : List (List ℕ)) (x : List ℕ) → Contains missed x → Contains (missed_with b name missed) x
missed_still Done name missed x h = h
missed_still Fault name missed x h = Contains-append_right (name ∷ []) missed x h

pub few_none : (before now : ℕ) → before ≤ now → MissesFew Done before now []
few_none before now low = record { done = λ e. refl; rose = omega (arith, low) }

rose_more : (n0 n1 n2 k : ℕ) → n0 ≤ n1 → n1 ≤ n2 → min (n0 + k) (2 ^ 64 - 1) ≤ n1 → Rose n1 n2 → min (n0 + suc k) (2 ^ 64 - 1) ≤ n2
rose_more n0 n1 n2 k low high few rose = omega (arith, low, high, few, rose)

rose_still : (n0 n1 n2 k : ℕ) → n1 ≤ n2 → min (n0 + k) (2 ^ 64 - 1) ≤ n1 → min (n0 + k) (2 ^ 64 - 1) ≤ n2
rose_still n0 n1 n2 k high few = omega (arith, high, few)

pub few_more : (a b : Flushed) (n0 n1 n2 : ℕ) (name : List ℕ) (missed : List (List ℕ)) → n0 ≤ n1 → n1 ≤ n2 → FlushFails n1 n2 b → MissesFew a n0 n1 missed → MissesFew (both_flushed a b) n0 n2 (missed_with b name missed)
few_more a Done n0 n1 n2 name missed low high cause few = record { done = λ e. few.done (done_first a Done e); rose = rose_still n0 n1 n2 (length missed) high few.rose }
few_more a Fault n0 n1 n2 name missed low high cause few = record { done = λ e. absurd (let no : Fault ≡ Done = done_second a Fault e in let never : ⊥ = cc in never); rose = rose_more n0 n1 n2 (length missed) low high few.rose cause }

rose_both : (n0 n1 n2 k m : ℕ) → n0 ≤ n1 → n1 ≤ n2 → min (n0 + k) (2 ^ 64 - 1) ≤ n1 → min (n1 + m) (2 ^ 64 - 1) ≤ n2 → min (n0 + (m + k)) (2 ^ 64 - 1) ≤ n2
rose_both n0 n1 n2 k m low high first second = omega (arith, low, high, first, second)

pub few_both : (a b : Flushed) (n0 n1 n2 : ℕ) (missed more : List (List ℕ)) → n0 ≤ n1 → n1 ≤ n2 → MissesFew a n0 n1 missed → MissesFew b n1 n2 more → MissesFew (both_flushed a b) n0 n2 (more ++ missed)
few_both a b n0 n1 n2 missed more low high x y = record {
  done = λ e. ap (λ ms. ms ++ missed) (y.done (done_second a b e)) ∙ x.done (done_first a b e);
  rose = subst (λ k. min (n0 + k) (2 ^ 64 - 1) ≤ n2) (sym (length-append more missed)) (rose_both n0 n1 n2 (length missed) (length more) low high x.rose y.rose);
}

-- items at two places of an ascending list have two names
module _ {X : Type 0} (key : X → List ℕ) where
  apart_before : (xs : List X) (i j : ℕ) (x y : X) → IsAscendingBy key xs → slice_get xs i ≡ Some x → slice_get xs j ≡ Some y → i < j → key x ≢ key y
  apart_before xs i j x y up at there l = λ e.
      let less : is_before (key (get_or xs i x)) (key (get_or xs j x)) ≡ true = up i j x l (slice_get_within xs j y there) in
      let here : is_before (key x) (key y) ≡ true =
      subst (λ z. is_before (key x) (key z) ≡ true) (get_or_from_slice_get xs j y x there) (subst (λ z. is_before (key z) (key (get_or xs j x)) ≡ true) (get_or_from_slice_get xs i x x at) less) in
      let same : is_before (key x) (key x) ≡ true = subst (λ n. is_before (key x) n ≡ true) (sym e) here in
      false≢true (sym (ap is_lt (tied (key x))) ∙ same)

  pub apart_at : (xs : List X) (i j : ℕ) (x y : X) → IsAscendingBy key xs → slice_get xs i ≡ Some x → slice_get xs j ≡ Some y → i ≢ j → key x ≢ key y
  apart_at xs i j x y up at there apart e =
      elim (nat_le j i) as (λ b. nat_le j i ≡ b → ⊥) [
        | true ↦ λ t. let more : j ≤ i = leb-true j i t in let less : j < i = strictly j i more (λ same. apart (sym same)) in apart_before xs j i y x up there at less (sym e)
        | false ↦ λ f. apart_before xs i j x y up at there (leb-false j i f) e
      ] refl
    where
      strictly : (j i : ℕ) → j ≤ i → j ≢ i → j < i
      strictly j i more other = omega (arith, more, other)

-- what stands elsewhere stays
pub slice_apart : {X : Type 0} (xs : List X) (i k : ℕ) (y : X) → i < k → slice_get (set xs i y) k ≡ slice_get xs k
slice_apart [] i k y l = refl
slice_apart (x ∷ xs) zero zero y l = absurd (let no : ⊥ = omega (arith, l) in no)
slice_apart (x ∷ xs) zero (suc k) y l = refl
slice_apart (x ∷ xs) (suc i) zero y l = absurd (let no : ⊥ = omega (arith, l) in no)
slice_apart (x ∷ xs) (suc i) (suc k) y l = slice_apart xs i k y (omega (arith, l))

pub some_same : {X : Type 0} (x y : X) → Some x ≡ Some y → x ≡ y
some_same x y e = cc

-- either of the first or the next
pub one_more : {A : Type 0} (k j : ℕ) → k < j + 1 → (k < j → A) → (k ≡ j → A) → A
one_more {A} k j below first here =
    elim (nat_le j k) as (λ b. nat_le j k ≡ b → A) [
      | true ↦ λ t. let more : j ≤ k = leb-true j k t in here (omega (arith, more, below))
      | false ↦ λ f. first (leb-false j k f)
    ] refl

-- a channel that is flushed next
channel_found : (topic : List ℕ) (s : Stall) (v : ChannelSeen) (c : Channel) (b : Flushed) (missed : List (List ℕ)) (f1 f2 : Files) → s.channel.about.topic ≡ topic → (of : IsStallOf f1 s c)
    → FlushLeaves (left_in_channel (seen_channel s.channel of.disk)) s.channel.about f2 b → FlushStores (left_in_channel (seen_channel s.channel of.disk)) s.channel.about v f2 b → is_ephemeral_channel topic (channel_name s) ≡ false
    → Contains (missed_with b (queue_name topic (channel_name s)) missed) (queue_name topic (channel_name s)) ⊎ FindsQueue (left_in_channel c) (queue_name topic (channel_name s)) f2
channel_found topic s v c Done missed f1 f2 is of leaves stores lasts =
    let own : is_ephemeral_channel s.channel.about.topic (channel_name s) ≡ false = ap (λ n. is_ephemeral_channel n (channel_name s)) is ∙ lasts in
    let left : List Message = left_in_channel (seen_channel s.channel of.disk) in
    let f : FindsQueue left (queue_name topic (channel_name s)) f2 = subst (λ n. FindsQueue left (queue_name n (channel_name s)) f2) is (finds_queue left (queue_name s.channel.about.topic (channel_name s)) v f2 (leaves own) (stores own)) in
    let alike : SameMessages left (left_in_channel c) = (counts_alike (seen_channel s.channel of.disk) c of.is_kept).left in
    inr (record { messages = f.messages; found = f.found; same = λ p. sym (alike p) ∙ f.same p })
channel_found topic s v c Fault missed f1 f2 is of leaves stores lasts = inl (missed_here (queue_name topic (channel_name s)) missed)

module _ (topic : List ℕ) (xs : List Stall) (j : ℕ) (s : Stall) (v : ChannelSeen) (answer b : Flushed) (f0 f1 f2 : Files) (n0 n1 n2 : ℕ) (up : IsAscendingBy channel_name xs) (named : IsName topic) (can : CanFlushStall topic s) (there : slice_get xs j ≡ Some s)
    (low : n0 ≤ n1) (high : n1 ≤ n2) (cause : FlushFails n1 n2 b) (leaves : (disk : List Message) → OnDisk s.channel.backlog.queue f1 disk → Stands s.channel.backlog.queue f1 → FlushLeaves (left_in_channel (seen_channel s.channel disk)) s.channel.about f2 b)
    (stores : (disk : List Message) → OnDisk s.channel.backlog.queue f1 disk → FlushStores (left_in_channel (seen_channel s.channel disk)) s.channel.about v f2 b)
    (change : DiskChanges s.channel.backlog.queue f1 f2) (so : StallsLeft answer n0 n1 j topic xs f0 f1) where
  abbrev own : List ℕ
  own = queue_name topic (channel_name s)

  others : OthersStay own f1 f2
  others = others_stay s.channel.backlog.queue own f1 f2 can.queue change

  apart_channel : (k : ℕ) (x : Stall) → k ≢ j → slice_get xs k ≡ Some x → queue_name topic (channel_name x) ≢ own
  apart_channel k x apart at = other_channel topic (channel_name x) topic (channel_name s) named named (apart_at channel_name xs k j x s up at there apart)

  less_apart : (k j : ℕ) → k < j → k ≢ j
  less_apart k j l e = let no : ⊥ = omega (arith, l, e) in no

  own_stays : OwnFilesStay own f0 f1
  own_stays = so.stays own (λ k x below at e. apart_channel k x (less_apart k j below) at (sym e))

  abbrev missed_now : List (List ℕ)
  missed_now = missed_with b own so.missed

  still_found : (x : Stall) (c : Channel) → queue_name topic (channel_name x) ≢ own → Contains so.missed (queue_name topic (channel_name x)) ⊎ FindsQueue (left_in_channel c) (queue_name topic (channel_name x)) f1
      → Contains missed_now (queue_name topic (channel_name x)) ⊎ FindsQueue (left_in_channel c) (queue_name topic (channel_name x)) f2
  still_found x c apart (inl m) = inl (missed_still b own so.missed (queue_name topic (channel_name x)) m)
  still_found x c apart (inr f) = inr (found_stays (left_in_channel c) (queue_name topic (channel_name x)) f1 f2 (others (queue_name topic (channel_name x)) apart) f)

  here_found : (c : Channel) → IsStallOf f0 s c → is_ephemeral_channel topic (channel_name s) ≡ false → Contains missed_now own ⊎ FindsQueue (left_in_channel c) own f2
  here_found c of lasts =
      let now : IsStallOf f1 s c = stall_stays f0 f1 topic s c can.queue own_stays of in
      channel_found topic s v c b so.missed f1 f2 can.topic_is now (leaves now.disk now.on_disk now.stands) (stores now.disk now.on_disk) lasts

  pub stalls_left_more : StallsLeft (both_flushed answer b) n0 n2 (j + 1) topic xs f0 f2
  stalls_left_more = record {
    missed = missed_now;
    few = few_more answer b n0 n1 n2 own so.missed low high cause so.few;
    left = λ k x below at c of lasts.
        one_more k j below (λ first. still_found x c (apart_channel k x (less_apart k j first) at) (so.left k x first at c of lasts))
        (λ here.
        let same : s ≡ x = some_same s x (sym there ∙ ap (slice_get xs) (sym here) ∙ at) in
        subst (λ (y : Stall). IsStallOf f0 y c → is_ephemeral_channel topic (channel_name y) ≡ false → Contains missed_now (queue_name topic (channel_name y)) ⊎ FindsQueue (left_in_channel c) (queue_name topic (channel_name y)) f2) same (here_found c) of lasts);
    stays = λ name apart. own_then name f0 f1 f2 (so.stays name (λ k x below at. apart k x (omega (arith, below)) at)) (others name (apart j s (omega arith) there));
  }

-- names stay
pub names_same : (s : Stall) → KeepsStallNames s s
names_same s = record { about = refl; paused = refl }

pub names_then : (a b c : Stall) → KeepsStallNames a b → KeepsStallNames b c → KeepsStallNames a c
names_then a b c x y = record { about = y.about ∙ x.about; paused = y.paused ∙ x.paused }

pub stalls_begin : (tells : Bool) (r : Room) (files : Files) (faults : ℕ) → StallsSoFar tells 0 r r Done files files faults faults
stalls_begin tells r files faults = record {
  same = refl;
  keeps = pairs_same KeepsStallNames names_same r.stalls.items;
  later = λ k from. refl;
  left = λ told. record { missed = []; few = few_none faults faults (omega arith); left = λ k s below at c of lasts. absurd (let no : ⊥ = omega (arith, below) in no); stays = λ name apart file of. refl };
  files = λ told. only_same files files (λ file. refl);
  faults = omega arith;
  cause = tt;
}

pub stalls_go_on : (tells : Bool) (j : ℕ) (a b c : Room) (s : Stall) (v : ChannelSeen) (answer next both : Flushed) (f0 f1 f2 : Files) (n0 n1 n2 : ℕ) → both ≡ both_flushed answer next → CanFlushRoom a → StallsSoFar tells j a b answer f0 f1 n0 n1 → slice_get b.stalls.items j ≡ Some s → c ≡ record b { stalls = c.stalls }
    → c.stalls.items ≡ set b.stalls.items j (record s { channel = v }) → v ≡ record (s.channel) { backlog = v.backlog; flights = v.flights; deferred = v.deferred; spare = v.spare; deferred_spare = v.deferred_spare }
    → (IsTrue tells → (disk : List Message) → OnDisk s.channel.backlog.queue f1 disk → Stands s.channel.backlog.queue f1 → FlushLeaves (left_in_channel (seen_channel s.channel disk)) s.channel.about f2 next)
    → (IsTrue tells → (disk : List Message) → OnDisk s.channel.backlog.queue f1 disk → FlushStores (left_in_channel (seen_channel s.channel disk)) s.channel.about v f2 next)
    → (IsTrue tells → DiskChanges s.channel.backlog.queue f1 f2) → n1 ≤ n2 → FlushFails n1 n2 next → StallsSoFar tells (j + 1) a c both f0 f2 n0 n2
stalls_go_on tells j a b c s v answer next both f0 f1 f2 n0 n1 n2 is can so at same stalls rest leaves stores change high cause =
    let was : slice_get a.stalls.items j ≡ Some s = sym (so.later j (omega arith)) ∙ at in
    let ready : CanFlushStall (topic_name a) s = subst (CanFlushStall (topic_name a)) (get_or_from_slice_get a.stalls.items j s s was) (can.stalls j s (slice_get_within a.stalls.items j s was)) in
    let low = so.faults in
    record {
      same = same ∙ ap (λ (r : Room). record r { stalls = c.stalls }) so.same;
      keeps = pairs_then KeepsStallNames names_then a.stalls.items b.stalls.items c.stalls.items so.keeps
          (subst (Pairwise KeepsStallNames b.stalls.items) (sym stalls) (pairs_one KeepsStallNames names_same b.stalls.items j s (record s { channel = v }) at (record { about = ap (λ (w : ChannelSeen). w.about) rest; paused = ap (λ (w : ChannelSeen). w.paused) rest })));
      later = λ k from. ap (λ ys. slice_get ys k) stalls ∙ slice_apart b.stalls.items j k (record s { channel = v }) (omega (arith, from)) ∙ so.later k (omega (arith, from));
      left = λ told. subst (λ u. StallsLeft u n0 n2 (j + 1) (topic_name a) a.stalls.items f0 f2) (sym is) (stalls_left_more (topic_name a) a.stalls.items j s v answer next f0 f1 f2 n0 n1 n2 can.order can.named ready was low high cause (leaves told) (stores told) (change told) (so.left told));
      files = λ told. only_then f0 f1 f2 (so.files told) (only_of_channel (topic_name a) (channel_name s) s.channel.backlog.queue f1 f2 can.named ready.named ready.queue (change told));
      faults = omega (arith, low, high);
      cause = subst (FlushFails n0 n2) (sym is) (fails_both n0 n1 n2 answer next low high so.cause cause);
    }
