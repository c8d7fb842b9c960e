-- A channel is lost, from its going out of its topic to the end.
use Rattle.std.proofs.Common.{◌≡◌, ◌<◌, ℕ, suc, set, true, false, List, ◌++◌, map, get_or, length, take, drop, Some, refl, sym, ap, subst, ◌∙◌, arith}
use Rattle.std.specs.Prelude.{HoldsAt}
use Rattle.std.specs.List.{slice_get}
use Rattle.std.proofs.lemmas.Bool.{false≢true}
use Rattle.std.proofs.lemmas.List.{get_or-set_same, length-set}
use Rattle.std.proofs.lemmas.Option.{slice_get_within}
use Rattle.nsq_outside.specs.Files.{Files}
use Rattle.queue_image.specs.FileNames.{meta_file}
use Rattle.queue_image.specs.Metas.{IsIdle}
use Rattle.backlog.specs.Lists.{DiskChanges}
use Rattle.broker_history.specs.State.{State, is_ephemeral_channel}
use Rattle.broker_history.specs.Changes.{lost}
use Rattle.channel_core.specs.Deleting.{DeleteFinds}
use Rattle.channel_core.specs.Seen.{queue_name}
use Rattle.channel_core.specs.declared.answers.DropChannel.TheVariants.{Done as IsDropped}
use Rattle.floor_rooms.specs.declared.stall.Stall.{Stall}
use Rattle.floor_rooms.specs.declared.room.Room.{Room}
use Rattle.floor_rooms.specs.declared.hall.Hall.{Hall}
use Rattle.floor_rooms.specs.Rooms.{channel_name, topic_name}
use Rattle.floor_rooms.specs.Sound.{IsSound}
use Rattle.floor_rooms.specs.Standing.{Carries, HoldsFor}
use Rattle.floor_rooms.specs.Changes.{AtRoom, AtStall, KeepsSince, OnlyQueueFiles, OthersStay}
use Rattle.floor_rooms.specs.Kept.{NamesTold}
use Rattle.floor_rooms.proofs.Marked.{MarksStall}
use Rattle.floor_rooms.proofs.Dating.{keeps_marks_stall, since_kept_then}
use Rattle.floor_topics.specs.Losing.{Forgets, LosesChannel, LosesStall, lost_among}
use Rattle.floor_topics.proofs.LostStalls.{OnlyLoses, lost_names, lost_since, lost_sound, lost_stands}
use Rattle.floor_topics.proofs.LostPlaces.{held_lost, joined, lost_idle, lost_only, lost_others, members_lose, topic_was, unmarked}

-- it went out of its topic in one hall, and the topic forgot it and its clients lost it in another
pub record GoesOut (h h3 : Hall) (i j : ℕ) (topic channel : List ℕ) (room room' : Room) (stall : Stall) : Type 0 where
  pub sound : IsSound h
  pub at : slice_get h.rooms.items i ≡ Some room
  pub there : slice_get room.stalls.items j ≡ Some stall
  pub called : topic ≡ topic_name room
  pub named : channel ≡ channel_name stall
  pub is : room' ≡ record room { stalls = room'.stalls }
  pub left : room'.stalls.items ≡ take j room.stalls.items ++ drop (suc j) room.stalls.items
  pub numbers : List ℕ
  pub members : numbers ≡ stall.members.items
  pub rest : OnlyLoses h h3
  pub clients : h3.clients.items ≡ lost_among numbers topic channel h.clients.items
  pub room3 : AtRoom i (Forgets channel) (set h.rooms.items i room') h3.rooms.items

module _ (h h3 : Hall) (i j : ℕ) (topic channel : List ℕ) (room room' : Room) (stall : Stall) (g : GoesOut h h3 i j topic channel room room' stall) where
  abbrev pub whole_at : AtRoom i (LosesStall j channel) h.rooms.items h3.rooms.items
  whole_at = joined i j channel h.rooms.items h3.rooms.items room room' stall g.at g.there (sym g.named) g.is g.left g.room3

  pub whole_clients : h3.clients.items ≡ map (lost (topic_name room) channel) h.clients.items
  whole_clients =
      g.clients ∙ ap (λ t. lost_among g.numbers t channel h.clients.items) g.called ∙ ap (λ k. lost_among g.numbers (topic_name room) k h.clients.items) g.named
      ∙ members_lose h i room g.sound g.at j stall g.there g.numbers g.members ∙ ap (λ k. map (lost (topic_name room) k) h.clients.items) (sym g.named)

  pub whole_sound : IsSound h3
  whole_sound = lost_sound h h3 i j channel g.sound g.rest whole_at whole_clients

  pub whole_since : KeepsSince h.moment h.rooms.items h3.rooms.items
  whole_since = lost_since h h3 i j channel g.sound g.rest whole_at whole_clients

  pub whole_stands : (old new : Files) (s : State) → OthersStay (queue_name (topic_name room) channel) old new → (is_ephemeral_channel (topic_name room) channel ≡ false → IsIdle (new (meta_file (queue_name (topic_name room) channel)))) → HoldsFor h old s
      → (t : State) × LosesChannel (topic_name room) channel s t × HoldsFor h3 new t
  whole_stands old new s others idle holds = lost_stands h h3 i j channel g.sound g.rest whole_at whole_clients old new s others idle holds

-- an ephemeral one goes
module _ (h h3 : Hall) (i j : ℕ) (topic channel : List ℕ) (room room' : Room) (stall : Stall) (g : GoesOut h h3 i j topic channel room room' stall) (ephemeral : is_ephemeral_channel (topic_name room) channel ≡ true) where
  pub went_rooms : HoldsAt (λ (r : Room). HoldsAt (λ (s : Stall). AtRoom i (LosesStall j (channel_name s)) h.rooms.items h3.rooms.items) r.stalls.items j) h.rooms.items i
  went_rooms =
      let a = whole_at h h3 i j topic channel room room' stall g in
      held_lost (λ t k. AtRoom i (LosesStall j k) h.rooms.items h3.rooms.items) i j channel h.rooms.items h3.rooms.items a a

  pub went_clients : HoldsAt (λ (r : Room). HoldsAt (λ (s : Stall). h3.clients.items ≡ map (lost (topic_name r) (channel_name s)) h.clients.items) r.stalls.items j) h.rooms.items i
  went_clients =
      held_lost (λ t k. h3.clients.items ≡ map (lost t k) h.clients.items) i j channel h.rooms.items h3.rooms.items (whole_at h h3 i j topic channel room room' stall g) (whole_clients h h3 i j topic channel room room' stall g)

  pub went_stands : (files : Files) → HoldsAt (λ (r : Room). HoldsAt (λ (s : Stall). Carries h files h3 files (LosesChannel (topic_name r) (channel_name s))) r.stalls.items j) h.rooms.items i
  went_stands files =
      held_lost (λ t k. Carries h files h3 files (LosesChannel t k)) i j channel h.rooms.items h3.rooms.items (whole_at h h3 i j topic channel room room' stall g)
      (λ s holds. whole_stands h h3 i j topic channel room room' stall g files files s (λ name apart file own. refl) (λ durable. absurd (false≢true (sym durable ∙ ephemeral))) holds)

  pub went_names : h3.unsaved_names ≡ h.unsaved_names → NamesTold h h3
  went_names unsaved = lost_names h h3 i j channel g.sound g.rest (whole_at h h3 i j topic channel room room' stall g) (whole_clients h h3 i j topic channel room room' stall g) ephemeral unsaved

-- a durable one is marked, and deleted
module _ (h0 h1 h3 : Hall) (i j : ℕ) (topic channel : List ℕ) (room room' : Room) (stall : Stall) (rest0 : h1 ≡ record h0 { rooms = h1.rooms; unsaved_from = h1.unsaved_from }) (mark : AtStall i j (MarksStall h0.moment) h0.rooms.items h1.rooms.items) (g : GoesOut h1 h3 i j topic channel room room' stall) where
  abbrev was_at : AtRoom i (LosesStall j channel) h0.rooms.items h3.rooms.items
  was_at = unmarked h0.moment i j channel h0.rooms.items h1.rooms.items h3.rooms.items mark (whole_at h1 h3 i j topic channel room room' stall g)

  name_was : topic_name room ≡ topic_name mark.room
  name_was = topic_was h0 h1 i j g.sound mark room g.at stall g.there

  pub gone_rooms : HoldsAt (λ (r : Room). HoldsAt (λ (s : Stall). AtRoom i (LosesStall j (channel_name s)) h0.rooms.items h3.rooms.items) r.stalls.items j) h0.rooms.items i
  gone_rooms = held_lost (λ t k. AtRoom i (LosesStall j k) h0.rooms.items h3.rooms.items) i j channel h0.rooms.items h3.rooms.items was_at was_at

  pub gone_clients : HoldsAt (λ (r : Room). HoldsAt (λ (s : Stall). h3.clients.items ≡ map (lost (topic_name r) (channel_name s)) h0.clients.items) r.stalls.items j) h0.rooms.items i
  gone_clients =
      held_lost (λ t k. h3.clients.items ≡ map (lost t k) h0.clients.items) i j channel h0.rooms.items h3.rooms.items was_at
      (whole_clients h1 h3 i j topic channel room room' stall g ∙ ap (λ n. map (lost n channel) h1.clients.items) name_was ∙ ap (λ (x : Hall). map (lost (topic_name mark.room) channel) x.clients.items) rest0)

  pub gone_since : KeepsSince h0.moment h0.rooms.items h3.rooms.items
  gone_since =
      since_kept_then h0.moment h0.rooms.items h1.rooms.items h3.rooms.items (keeps_marks_stall h0.moment i j h0.rooms.items h1.rooms.items mark)
      (subst (λ m. KeepsSince m h1.rooms.items h3.rooms.items) (ap (λ (x : Hall). x.moment) rest0) (whole_since h1 h3 i j topic channel room room' stall g))

  module _ (old new : Files) (change : DiskChanges stall.channel.backlog.queue old new) where
    own_others : OthersStay (queue_name (topic_name room) channel) old new
    own_others = subst (λ k. OthersStay (queue_name (topic_name room) k) old new) (sym g.named) (lost_others h0 h1 i j g.sound mark room g.at stall g.there old new change)

    pub gone_others : HoldsAt (λ (r : Room). HoldsAt (λ (s : Stall). OthersStay (queue_name (topic_name r) (channel_name s)) old new) r.stalls.items j) h0.rooms.items i
    gone_others =
        held_lost (λ t k. OthersStay (queue_name t k) old new) i j channel h0.rooms.items h3.rooms.items was_at (subst (λ n. OthersStay (queue_name n channel) old new) name_was own_others)

    pub gone_files : OnlyQueueFiles old new
    gone_files = lost_only h0 h1 i j g.sound mark room g.at stall g.there old new change

    pub gone_stands : DeleteFinds stall.channel.backlog.queue new IsDropped → ((s : State) → HoldsFor h0 old s → HoldsFor h1 old s)
        → HoldsAt (λ (r : Room). HoldsAt (λ (s : Stall). Carries h0 old h3 new (LosesChannel (topic_name r) (channel_name s))) r.stalls.items j) h0.rooms.items i
    gone_stands finds marked =
        held_lost (λ t k. Carries h0 old h3 new (LosesChannel t k)) i j channel h0.rooms.items h3.rooms.items was_at
        (λ s holds.
        subst (λ n. (t : State) × LosesChannel n channel s t × HoldsFor h3 new t) name_was
        (whole_stands h1 h3 i j topic channel room room' stall g old new s own_others
        (subst (λ k. is_ephemeral_channel (topic_name room) k ≡ false → IsIdle (new (meta_file (queue_name (topic_name room) k)))) (sym g.named) (lost_idle h0 h1 i j g.sound mark room g.at stall g.there new finds)) (marked s holds)))

-- as many topics as before a mark
pub marked_range : (m i j k : ℕ) (old new : List Room) → AtStall i j (MarksStall m) old new → k < length old → k < length new
marked_range m i j k old new mark l = omega (arith, ap length mark.is, length-set old i mark.after, l)

-- and as many channels of the topic
pub marked_stalls : (m i j : ℕ) (old new : List Room) → AtStall i j (MarksStall m) old new → HoldsAt (λ (r : Room). j < length r.stalls.items) new i
marked_stalls m i j old new mark =
    let in_range : j < length mark.after.stalls.items = omega (arith, ap length mark.does.stalls, length-set mark.room.stalls.items j mark.does.after, slice_get_within mark.room.stalls.items j mark.does.stall mark.does.there) in
    λ d. subst (λ (r : Room). j < length r.stalls.items) (sym (ap (λ rs. get_or rs i d) mark.is ∙ get_or-set_same old i mark.after d (slice_get_within old i mark.room mark.there))) in_range
