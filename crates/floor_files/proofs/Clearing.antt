-- What saves leave of a hall's topics and channels, of their marks and of what is kept of their names.
use Rattle.std.proofs.Common.{◌≡◌, ℕ, List, map, Option, Some, None, refl, sym, ap, subst, ◌∙◌}
use Rattle.std.specs.Prelude.{IfSome, option_and_then}
use Rattle.std.specs.Str.{bytes_eq}
use Rattle.disk_queue.specs.Seen.{Seen as Queue}
use Rattle.backlog.specs.Seen.{SameQueue}
use Rattle.path_image.specs.Data.{durable}
use Rattle.path_image.specs.Found.{Pairwise}
use Rattle.floor_laws.proofs.Pairs.{IfBoth, pairs_found}
use Rattle.floor_rooms.specs.declared.stall.Stall.{Stall}
use Rattle.floor_rooms.specs.declared.room.Room.{Room}
use Rattle.floor_rooms.specs.Rooms.{channel_name, topic_name, room_in, stall_in}
use Rattle.floor_rooms.specs.Kept.{room_kept, stall_kept}
use Rattle.floor_rooms.specs.Changes.{AtRoom, AtStall, InRoom}
use Rattle.floor_rooms.proofs.Dating.{pairs_one, pairs_same, pairs_then, pairs_weaker}
use Rattle.floor_rooms.proofs.Naming.{KeptAlike, kept_pairs}
use Rattle.floor_files.specs.Saving.{ClearsRoom, ClearsRooms, ClearsStall, IsNotDue, MarkGoes, MarksGo}
use Rattle.floor_files.proofs.Marking.{goes_same, same_queue}

pub goes_then : (a b c : Option ℕ) → MarkGoes a b → MarkGoes b c → MarkGoes a c
goes_then a b None x y = tt
goes_then a b (Some moment) x y = subst (λ o. IfSome o (λ m. a ≡ Some m)) y x

queue_then : (a b c : Option Queue) → SameQueue a b → SameQueue b c → SameQueue a c
queue_then None None c x y = y
queue_then None (Some b) c x y = absurd x
queue_then (Some a) None c x y = absurd x
queue_then (Some a) (Some b) None x y = absurd y
queue_then (Some a) (Some b) (Some c) x y = record { name = y.name ∙ x.name; options = y.options ∙ x.options }

module _ (at timeout : ℕ) where
  -- a channel
  pub clears_stall_same : (s : Stall) → (ClearsStall at timeout) s s
  clears_stall_same s = record { same = refl; queue = same_queue s.channel.backlog.queue; since = goes_same s.since; early = λ e. refl }

  abbrev stall_like : Stall → Stall → Stall
  stall_like a c = record a { channel = record (a.channel) { backlog = record (a.channel.backlog) { queue = c.channel.backlog.queue } }; since = c.since }

  pub clears_stall_then : (a b c : Stall) → (ClearsStall at timeout) a b → (ClearsStall at timeout) b c → (ClearsStall at timeout) a c
  clears_stall_then a b c x y = record {
    same = y.same ∙ ap (λ s. stall_like s c) x.same;
    queue = queue_then a.channel.backlog.queue b.channel.backlog.queue c.channel.backlog.queue x.queue y.queue;
    since = goes_then a.since b.since c.since x.since y.since;
    early = λ e. let first = x.early e in y.early (subst (IsNotDue at timeout) (sym (ap (λ (s : Stall). s.since) first)) e) ∙ first;
  }

  -- a topic
  pub clears_room_same : (r : Room) → (ClearsRoom at timeout) r r
  clears_room_same r = record { same = refl; queue = same_queue r.queue.backlog.queue; since = goes_same r.since; early = λ e. refl; stalls = pairs_same (ClearsStall at timeout) clears_stall_same r.stalls.items }

  abbrev room_like : Room → Room → Room
  room_like a c = record a { queue = record (a.queue) { backlog = record (a.queue.backlog) { queue = c.queue.backlog.queue } }; since = c.since; stalls = c.stalls }

  pub clears_room_then : (a b c : Room) → (ClearsRoom at timeout) a b → (ClearsRoom at timeout) b c → (ClearsRoom at timeout) a c
  clears_room_then a b c x y = record {
    same = y.same ∙ ap (λ r. room_like r c) x.same;
    queue = queue_then a.queue.backlog.queue b.queue.backlog.queue c.queue.backlog.queue x.queue y.queue;
    since = goes_then a.since b.since c.since x.since y.since;
    early = λ e.
        let first = x.early e in
        y.early (subst (IsNotDue at timeout) (sym (ap (λ (r : Room). r.since) first)) e) ∙ ap (λ (r : Room). record r { stalls = c.stalls }) first;
    stalls = pairs_then (ClearsStall at timeout) clears_stall_then a.stalls.items b.stalls.items c.stalls.items x.stalls y.stalls;
  }

  -- all topics
  pub clears_same : (rooms : List Room) → (ClearsRooms at timeout) rooms rooms
  clears_same rooms = pairs_same (ClearsRoom at timeout) clears_room_same rooms

  pub clears_then : (a b c : List Room) → (ClearsRooms at timeout) a b → (ClearsRooms at timeout) b c → (ClearsRooms at timeout) a c
  clears_then a b c x y = pairs_then (ClearsRoom at timeout) clears_room_then a b c x y

  pub clears_at_room : (i : ℕ) (Does : Room → Room → Type 0) (old new : List Room) → (a : AtRoom i Does old new) → (ClearsRoom at timeout) a.room a.after → (ClearsRooms at timeout) old new
  clears_at_room i Does old new a k = subst ((ClearsRooms at timeout) old) (sym a.is) (pairs_one (ClearsRoom at timeout) clears_room_same old i a.room a.after a.there k)

  pub clears_at_stall : (i j : ℕ) (Does : Stall → Stall → Type 0) (old new : List Room) → (a : AtStall i j Does old new) → (ClearsStall at timeout) a.does.stall a.does.after → (ClearsRooms at timeout) old new
  clears_at_stall i j Does old new a k =
      clears_at_room i (InRoom j Does) old new a (record {
        same = a.does.is ∙ sym (ap (λ r. room_like a.room r) a.does.is);
        queue = subst (λ (r : Room). SameQueue a.room.queue.backlog.queue r.queue.backlog.queue) (sym a.does.is) (same_queue a.room.queue.backlog.queue);
        since = subst (MarkGoes a.room.since) (sym (ap (λ (r : Room). r.since) a.does.is)) (goes_same a.room.since);
        early = λ e. a.does.is;
        stalls = subst (Pairwise (ClearsStall at timeout) a.room.stalls.items) (sym a.does.stalls) (pairs_one (ClearsStall at timeout) clears_stall_same a.room.stalls.items j a.does.stall a.does.after a.does.there k);
      })

  -- marks by names
  both_marks : (o u : Option Stall) → IfBoth (ClearsStall at timeout) o u → IfSome u (λ s. MarkGoes (option_and_then (λ (x : Stall). x.since) o) s.since)
  both_marks None None h = tt
  both_marks None (Some y) h = absurd h
  both_marks (Some x) None h = tt
  both_marks (Some x) (Some y) h = h.since

  room_marks : (o u : Option Room) → IfBoth (ClearsRoom at timeout) o u → IfSome u (λ r. MarkGoes (option_and_then (λ (x : Room). x.since) o) r.since)
  room_marks None None h = tt
  room_marks None (Some y) h = absurd h
  room_marks (Some x) None h = tt
  room_marks (Some x) (Some y) h = h.since

  stall_marks : (channel : List ℕ) (o u : Option Room) → IfBoth (ClearsRoom at timeout) o u
      → IfSome (option_and_then (λ (r : Room). stall_in r.stalls.items channel) u) (λ s. MarkGoes (option_and_then (λ (x : Stall). x.since) (option_and_then (λ (r : Room). stall_in r.stalls.items channel) o)) s.since)
  stall_marks channel None None h = tt
  stall_marks channel None (Some y) h = absurd h
  stall_marks channel (Some x) None h = tt
  stall_marks channel (Some x) (Some y) h =
      both_marks (stall_in x.stalls.items channel) (stall_in y.stalls.items channel)
      (pairs_found (ClearsStall at timeout) (λ s. bytes_eq channel (channel_name s)) (λ s. bytes_eq channel (channel_name s)) x.stalls.items y.stalls.items (λ a b k. ap (λ s. bytes_eq channel (channel_name s)) (sym k.same)) h.stalls)

  rooms_both : (old new : List Room) (topic : List ℕ) → (ClearsRooms at timeout) old new → IfBoth (ClearsRoom at timeout) (room_in old topic) (room_in new topic)
  rooms_both old new topic h = pairs_found (ClearsRoom at timeout) (λ r. bytes_eq topic (topic_name r)) (λ r. bytes_eq topic (topic_name r)) old new (λ a b k. ap (λ r. bytes_eq topic (topic_name r)) (sym k.same)) h

  pub marks_go : (old new : List Room) → (ClearsRooms at timeout) old new → MarksGo old new
  marks_go old new h = record {
    topics = λ topic. room_marks (room_in old topic) (room_in new topic) (rooms_both old new topic h);
    channels = λ topic channel. stall_marks channel (room_in old topic) (room_in new topic) (rooms_both old new topic h);
  }

  -- what is kept of names
  kept_stalls : (xs ys : List Stall) → Pairwise (ClearsStall at timeout) xs ys → map stall_kept (durable channel_name ys) ≡ map stall_kept (durable channel_name xs)
  kept_stalls xs ys h = kept_pairs channel_name stall_kept xs ys (pairs_weaker (ClearsStall at timeout) (KeptAlike channel_name stall_kept) (λ x y k. (ap channel_name k.same, λ e. ap stall_kept k.same)) xs ys h)

  kept_room : (a b : Room) → (ClearsRoom at timeout) a b → room_kept b ≡ room_kept a
  kept_room a b k = ap room_kept k.same ∙ ap (λ cs. record { name = topic_name a; paused = a.queue.paused; channels = cs }) (kept_stalls a.stalls.items b.stalls.items k.stalls)

  pub kept_cleared : (old new : List Room) → (ClearsRooms at timeout) old new → map room_kept (durable topic_name new) ≡ map room_kept (durable topic_name old)
  kept_cleared old new h = kept_pairs topic_name room_kept old new (pairs_weaker (ClearsRoom at timeout) (KeptAlike topic_name room_kept) (λ a b k. (ap topic_name k.same, λ e. kept_room a b k)) old new h)
