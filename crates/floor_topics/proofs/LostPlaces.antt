-- Places of a hall from which a channel is taken out.
use Rattle.std.proofs.Common.{◌≡◌, inl, ◌≤◌, ◌<◌, ℕ, suc, set, Bool, true, false, not, nat_eq, if◌then◌else◌, List, [], ◌∷◌, ◌++◌, map, length, take, drop, get_or, Option, Some, None, refl, sym, ap, subst, ◌∙◌, append_assoc, arith}
use Rattle.std.specs.Prelude.{◌↔◌, HoldsAt, IfSome, IsSome, IsTrue, is_some, option_and_then}
use Rattle.std.specs.List.{All, find, list_any, slice_get}
use Rattle.std.specs.Option.{option_or}
use Rattle.std.specs.Str.{bytes_eq}
use Rattle.std.proofs.lemmas.Bool.{false≢true}
use Rattle.std.proofs.lemmas.List.{drop-set-lt, get_or-set_same, set-set, take-set}
use Rattle.std.proofs.lemmas.List.Elements.{All-weaker}
use Rattle.std.proofs.lemmas.List.Folds.{find-append}
use Rattle.std.proofs.lemmas.Option.{get_or_from_slice_get, slice_get_within}
use Rattle.nsq_base.proofs.PutBy.{parts_at}
use Rattle.nsq_outside.specs.Files.{Files}
use Rattle.queue_image.specs.FileNames.{meta_file}
use Rattle.queue_image.specs.Metas.{IsIdle}
use Rattle.path_image.specs.Found.{Pairwise}
use Rattle.disk_queue.specs.Seen.{Seen as Queue}
use Rattle.backlog.specs.Lists.{DiskChanges}
use Rattle.broker_history.specs.State.{Channel, Client, State, has_channel, is_ephemeral_channel}
use Rattle.broker_history.specs.Channels.{IsKept}
use Rattle.broker_history.specs.Changes.{lost}
use Rattle.broker_history.specs.Topics.{owed_no_more}
use Rattle.topic_core.specs.Seen.{IsSettled}
use Rattle.channel_copies.specs.Clients.{client_of}
use Rattle.channel_core.specs.Answers.{all_due}
use Rattle.channel_core.specs.Deleting.{DeleteFinds}
use Rattle.channel_core.specs.Seen.{Seen as ChannelSeen, channel_with, queue_name, queued_in, seen_channel}
use Rattle.channel_core.specs.declared.about.About.{About}
use Rattle.channel_core.specs.declared.answers.DropChannel.TheVariants.{Done as IsDropped}
use Rattle.channel_core.specs.declared.drawn.Drawn.TheVariants.{Nothing}
use Rattle.floor_laws.proofs.Pairs.{IfBoth, pairs_found}
use Rattle.floor_rooms.specs.declared.stall.Stall.{Stall}
use Rattle.floor_rooms.specs.declared.room.Room.{Room}
use Rattle.floor_rooms.specs.declared.hall.Hall.{Hall}
use Rattle.floor_rooms.specs.Rooms.{channel_name, topic_name, client_in, room_in, stall_in}
use Rattle.floor_rooms.specs.Sound.{AreMembers, IsQuietUntil, IsRoomSound, IsSound, IsStallSound, member_of}
use Rattle.floor_rooms.specs.Standing.{HoldsFor, IsStallOf}
use Rattle.floor_rooms.specs.Changes.{AtRoom, AtStall, KeepsRooms, OnlyQueueFiles, OthersStay, TouchesStall, marked}
use Rattle.floor_rooms.proofs.Staying.{others_stay}
use Rattle.floor_rooms.proofs.Sounding.{KeepsRest, at_all, members_before, members_stay, sound_at_stall, stall_before, stall_past, stall_touched}
use Rattle.floor_rooms.proofs.Marked.{IsElse, MarksStall, else_stays}
use Rattle.floor_rooms.proofs.Placing.{at_place}
use Rattle.floor_rooms.proofs.Dating.{AreAmong, keeps_at_stall, keeps_marks_stall, keeps_then, pairs_one, since_equal}
use Rattle.floor_rooms.proofs.Filing.{only_of_channel}
use Rattle.floor_rooms.proofs.Orders.{stall_as_before}
use Rattle.floor_rooms.proofs.Turning.{stall_change}
use Rattle.floor_topics.specs.Losing.{Forgets, LosesStall, StaysBack, lost_among}
use Rattle.floor_topics.proofs.LostClients.{among_members, found_itself}

-- what is said of the names of a topic and its channel is said of those that are read at their places
pub held_lost : (P : (topic channel : List ℕ) → Type 0) (i j : ℕ) (channel : List ℕ) (old new : List Room) → (a : AtRoom i (LosesStall j channel) old new) → P (topic_name a.room) channel
    → HoldsAt (λ (r : Room). HoldsAt (λ (s : Stall). P (topic_name r) (channel_name s)) r.stalls.items j) old i
held_lost P i j channel old new a p =
    λ d e.
    let room : get_or old i d ≡ a.room = get_or_from_slice_get old i a.room d a.there in
    let stall : get_or a.room.stalls.items j e ≡ a.does.stall = get_or_from_slice_get a.room.stalls.items j a.does.stall e a.does.there in
    subst (λ (r : Room). P (topic_name r) (channel_name (get_or r.stalls.items j e))) (sym room) (subst (λ (s : Stall). P (topic_name a.room) (channel_name s)) (sym stall) (subst (P (topic_name a.room)) (sym a.does.named) p))

pub held_stall : (P : (topic channel : List ℕ) → Type 0) (i j : ℕ) (Does : Stall → Stall → Type 0) (old new : List Room) → (a : AtStall i j Does old new) → P (topic_name a.room) (channel_name a.does.stall)
    → HoldsAt (λ (r : Room). HoldsAt (λ (s : Stall). P (topic_name r) (channel_name s)) r.stalls.items j) old i
held_stall P i j Does old new a p =
    λ d e.
    let room : get_or old i d ≡ a.room = get_or_from_slice_get old i a.room d a.there in
    let stall : get_or a.room.stalls.items j e ≡ a.does.stall = get_or_from_slice_get a.room.stalls.items j a.does.stall e a.does.there in
    subst (λ (r : Room). P (topic_name r) (channel_name (get_or r.stalls.items j e))) (sym room) (subst (λ (s : Stall). P (topic_name a.room) (channel_name s)) (sym stall) p)

-- and so is what is said of those that were read there
pub told_at : (P : (topic channel : List ℕ) → Type 0) (rooms : List Room) (i j : ℕ) (room : Room) → i < length rooms → room ≡ get_or rooms i room → HoldsAt (λ (s : Stall). P (topic_name room) (channel_name s)) room.stalls.items j
    → HoldsAt (λ (r : Room). HoldsAt (λ (s : Stall). P (topic_name r) (channel_name s)) r.stalls.items j) rooms i
told_at P rooms i j room within read told = λ d e. subst (λ (r : Room). P (topic_name r) (channel_name (get_or r.stalls.items j e))) (sym (get_or_from_slice_get rooms i room d (at_place rooms i room within read))) (told e)

pub told_of : (P : (topic : List ℕ) → Type 0) (rooms : List Room) (i : ℕ) (room : Room) → i < length rooms → room ≡ get_or rooms i room → P (topic_name room) → HoldsAt (λ (r : Room). P (topic_name r)) rooms i
told_of P rooms i room within read told = λ d. subst (λ (r : Room). P (topic_name r)) (sym (get_or_from_slice_get rooms i room d (at_place rooms i room within read))) told

-- two flags of which each holds where the other does
pub same_truth : (a b : Bool) → IsTrue a ↔ IsTrue b → a ≡ b
same_truth true b h = sym (h.0 refl)
same_truth false true h = h.1 refl
same_truth false false h = refl

-- and what is said at the places is said of what stands there
pub of_stall : (Q : Room → Stall → Type 0) (rooms : List Room) (i j : ℕ) (room : Room) (stall : Stall) → HoldsAt (λ (r : Room). HoldsAt (λ (s : Stall). Q r s) r.stalls.items j) rooms i → slice_get rooms i ≡ Some room → slice_get room.stalls.items j ≡ Some stall → Q room stall
of_stall Q rooms i j room stall all at there =
    subst (Q room) (get_or_from_slice_get room.stalls.items j stall stall there) (subst (λ (r : Room). Q r (get_or r.stalls.items j stall)) (get_or_from_slice_get rooms i room room at) (all room stall))

pub at_stall_held : (Q : Stall → Type 0) (xs : List Stall) (j : ℕ) (stall : Stall) → HoldsAt Q xs j → slice_get xs j ≡ Some stall → Q stall
at_stall_held Q xs j stall all there = subst Q (get_or_from_slice_get xs j stall stall there) (all stall)

-- what was read at a place stands there
pub read_same : {X : Type 0} (xs : List X) (i : ℕ) (x y : X) → slice_get xs i ≡ Some x → y ≡ get_or xs i y → y ≡ x
read_same xs i x y at e = e ∙ get_or_from_slice_get xs i x y at

-- a channel was taken out of a topic, which forgot it then
abbrev pub joined : (i j : ℕ) (channel : List ℕ) (rooms new : List Room) (room room' : Room) (stall : Stall) → slice_get rooms i ≡ Some room → slice_get room.stalls.items j ≡ Some stall → channel_name stall ≡ channel → room' ≡ record room { stalls = room'.stalls }
    → room'.stalls.items ≡ take j room.stalls.items ++ drop (suc j) room.stalls.items → AtRoom i (Forgets channel) (set rooms i room') new → AtRoom i (LosesStall j channel) rooms new
joined i j channel rooms new room room' stall at there named is left a =
    let same : a.room ≡ room' = sym (get_or_from_slice_get (set rooms i room') i a.room room' a.there) ∙ get_or-set_same rooms i room' room' (slice_get_within rooms i room at) in
    let forgot : Room → Room = λ r. record r { queue = record (r.queue) { head = owed_no_more r.queue.head channel }; names = None } in
    let whole : a.after ≡ forgot (record room { stalls = room'.stalls }) = a.does ∙ ap forgot same ∙ ap forgot is in
    let stalls : a.after.stalls ≡ room'.stalls = ap (λ (r : Room). r.stalls) whole in
    record {
      room = room;
      after = a.after;
      there = at;
      is = a.is ∙ set-set rooms i room' a.after;
      does = record {
        stall = stall;
        there = there;
        named = named;
        is = whole ∙ ap (λ v. forgot (record room { stalls = v })) (sym stalls);
        left = ap (λ v. v.items) stalls ∙ left;
      };
    }

-- that its mark was made before makes no difference
abbrev pub unmarked : (m i j : ℕ) (channel : List ℕ) (a b c : List Room) → AtStall i j (MarksStall m) a b → AtRoom i (LosesStall j channel) b c → AtRoom i (LosesStall j channel) a c
unmarked m i j channel a b c x y =
    let same : y.room ≡ x.after =
    sym (get_or_from_slice_get b i y.room x.after y.there) ∙ ap (λ (rs : List Room). get_or rs i x.after) x.is ∙ get_or-set_same a i x.after x.after (slice_get_within a i x.room x.there) in
    let lost_of : Room → Room = λ r. record r { queue = record (r.queue) { head = owed_no_more r.queue.head channel }; names = None; stalls = y.after.stalls } in
    let within : j < length x.room.stalls.items = slice_get_within x.room.stalls.items j x.does.stall x.does.there in
    let stall : y.does.stall ≡ x.does.after =
    sym (get_or_from_slice_get y.room.stalls.items j y.does.stall x.does.after y.does.there) ∙ ap (λ (r : Room). get_or r.stalls.items j x.does.after) same ∙ ap (λ (zs : List Stall). get_or zs j x.does.after) x.does.stalls
    ∙ get_or-set_same x.room.stalls.items j x.does.after x.does.after within in
    record {
      room = x.room;
      after = y.after;
      there = x.there;
      is = y.is ∙ ap (λ (rs : List Room). set rs i y.after) x.is ∙ set-set a i x.after y.after;
      does = record {
        stall = x.does.stall;
        there = x.does.there;
        named = ap channel_name (sym x.does.does) ∙ ap channel_name (sym stall) ∙ y.does.named;
        is = y.does.is ∙ ap lost_of same ∙ ap lost_of x.does.is;
        left = y.does.left ∙ ap (λ (r : Room). take j r.stalls.items ++ drop (suc j) r.stalls.items) same ∙ ap (λ (zs : List Stall). take j zs ++ drop (suc j) zs) x.does.stalls
            ∙ ap (λ (zs : List Stall). zs ++ drop (suc j) (set x.room.stalls.items j x.does.after)) (take-set x.room.stalls.items j x.does.after)
            ∙ ap (λ (zs : List Stall). take j x.room.stalls.items ++ zs) (drop-set-lt (suc j) x.room.stalls.items j x.does.after (omega arith));
      };
    }

some_if : {X : Type 0} (x : X) (b : Bool) → is_some (if b then Some x else None) ≡ b
some_if x true = refl
some_if x false = refl

-- of a sound hall nothing is drawn, in its channels and in its topics
module _ (h : Hall) (i : ℕ) (room : Room) (sound : IsSound h) (at : slice_get h.rooms.items i ≡ Some room) where
  room_is : IsRoomSound h room
  room_is = at_all (IsRoomSound h) h.rooms.items i room sound.rooms at

  pub none_drawn : (j : ℕ) → j < length room.stalls.items → HoldsAt (λ (s : Stall). s.channel.drawn ≡ Nothing) room.stalls.items j
  none_drawn j l = λ e. (room_is.stalls j e l).settled

  pub settled_still : (room' : Room) → room'.queue ≡ room.queue → HoldsAt (λ (r : Room). IsSettled r.queue) (set h.rooms.items i room') i
  settled_still room' same =
      λ d.
      let now : get_or (set h.rooms.items i room') i d ≡ room' = get_or-set_same h.rooms.items i room' d (slice_get_within h.rooms.items i room at) in
      subst (λ (r : Room). IsSettled r.queue) (sym now) (subst IsSettled (sym same) room_is.settled)

  -- the clients whose numbers the channel has are all of its clients
  pub members_lose : (j : ℕ) (stall : Stall) → slice_get room.stalls.items j ≡ Some stall → (numbers : List ℕ) → numbers ≡ stall.members.items → lost_among numbers (topic_name room) (channel_name stall) h.clients.items ≡ map (lost (topic_name room) (channel_name stall)) h.clients.items
  members_lose j stall there numbers is =
      let mine : AreMembers h.clients.items (topic_name room) stall =
      at_all (AreMembers h.clients.items (topic_name room)) room.stalls.items j stall (at_all (λ (r : Room). All (AreMembers h.clients.items (topic_name r)) r.stalls.items) h.rooms.items i room sound.members at) there in
      ap (λ ns. lost_among ns (topic_name room) (channel_name stall) h.clients.items) is
      ∙ among_members stall.members.items (topic_name room) (channel_name stall) h.clients.items
      (All-weaker (λ (c : Client). client_in h.clients.items c.number ≡ Some c) (λ (c : Client). list_any (nat_eq c.number) stall.members.items ≡ has_channel (topic_name room) (channel_name stall) c)
      (λ c found. mine.listed c.number ∙ ap (λ o. is_some (member_of (topic_name room) (channel_name stall) o)) found ∙ some_if _ (has_channel (topic_name room) (channel_name stall) c)) h.clients.items (found_itself h.clients.items sound.client_order))

-- a queue whose deletion is done begins with nothing
pub dropped_idle : (queue : Option Queue) (e : Bool) (name : List ℕ) (files : Files) → is_some queue ≡ not e → e ≡ false → IfSome queue (λ q. q.name ≡ name) → DeleteFinds queue files IsDropped → IsIdle (files (meta_file name))
dropped_idle None true name files some durable is finds = absurd (false≢true (sym durable))
dropped_idle None false name files some durable is finds = absurd (false≢true some)
dropped_idle (Some q) e name files some durable is finds = subst (λ n. IsIdle (files (meta_file n))) is finds.idle

marked_some : (o u : Option ℕ) (at : ℕ) → u ≡ marked o at → IsSome u
marked_some None u at e = subst IsSome (sym e) refl
marked_some (Some m) u at e = subst IsSome (sym e) refl

-- the hall in which a channel was marked, with what was done to its files then
module _ (h0 h1 : Hall) (i j : ℕ) (sound : IsSound h1) (mark : AtStall i j (MarksStall h0.moment) h0.rooms.items h1.rooms.items) (room : Room) (at : slice_get h1.rooms.items i ≡ Some room) (stall : Stall) (there : slice_get room.stalls.items j ≡ Some stall) where
  at_room_is : IsRoomSound h1 room
  at_room_is = at_all (IsRoomSound h1) h1.rooms.items i room sound.rooms at

  at_stall_is : IsStallSound h1.options (topic_name room) h1.quiet_until h1.unsaved_from stall
  at_stall_is = at_all (IsStallSound h1.options (topic_name room) h1.quiet_until h1.unsaved_from) room.stalls.items j stall at_room_is.stalls there

  room_marked : room ≡ mark.after
  room_marked =
      sym (get_or_from_slice_get h1.rooms.items i room mark.after at) ∙ ap (λ (rs : List Room). get_or rs i mark.after) mark.is ∙ get_or-set_same h0.rooms.items i mark.after mark.after (slice_get_within h0.rooms.items i mark.room mark.there)

  stall_marked : stall ≡ mark.does.after
  stall_marked =
      sym (get_or_from_slice_get room.stalls.items j stall mark.does.after there) ∙ ap (λ (r : Room). get_or r.stalls.items j mark.does.after) room_marked ∙ ap (λ (zs : List Stall). get_or zs j mark.does.after) mark.does.stalls
      ∙ get_or-set_same mark.room.stalls.items j mark.does.after mark.does.after (slice_get_within mark.room.stalls.items j mark.does.stall mark.does.there)

  -- its names are those that it had
  pub topic_was : topic_name room ≡ topic_name mark.room
  topic_was = ap topic_name room_marked ∙ ap topic_name mark.does.is

  pub channel_was : channel_name stall ≡ channel_name mark.does.stall
  channel_was = ap channel_name stall_marked ∙ ap channel_name mark.does.does

  is_since : IsSome stall.since
  is_since = marked_some mark.does.stall.since stall.since h0.moment (ap (λ (s : Stall). s.since) stall_marked ∙ ap (λ (s : Stall). s.since) mark.does.does)

  pub lost_others : (old new : Files) → DiskChanges stall.channel.backlog.queue old new → OthersStay (queue_name (topic_name room) (channel_name stall)) old new
  lost_others old new change = others_stay stall.channel.backlog.queue (queue_name (topic_name room) (channel_name stall)) old new at_stall_is.queue change

  pub lost_only : (old new : Files) → DiskChanges stall.channel.backlog.queue old new → OnlyQueueFiles old new
  lost_only old new change = only_of_channel (topic_name room) (channel_name stall) stall.channel.backlog.queue old new at_room_is.named at_stall_is.named at_stall_is.queue change

  pub lost_idle : (new : Files) → DeleteFinds stall.channel.backlog.queue new IsDropped → is_ephemeral_channel (topic_name room) (channel_name stall) ≡ false → IsIdle (new (meta_file (queue_name (topic_name room) (channel_name stall))))
  lost_idle new finds durable =
      dropped_idle stall.channel.backlog.queue (is_ephemeral_channel (topic_name room) (channel_name stall)) (queue_name (topic_name room) (channel_name stall)) new at_stall_is.durable durable at_stall_is.queue finds

  -- it is put back
  module _ (h2 : Hall) (rest : IsElse h1 h2) (tells : Bool) (old new : Files) (back : AtStall i j (StaysBack tells old new) h1.rooms.items h2.rooms.items) where
    back_room : back.room ≡ room
    back_room = sym (get_or_from_slice_get h1.rooms.items i back.room room back.there) ∙ get_or_from_slice_get h1.rooms.items i room room at

    back_stall : back.does.stall ≡ stall
    back_stall =
        sym (get_or_from_slice_get back.room.stalls.items j back.does.stall stall back.does.there) ∙ ap (λ (r : Room). get_or r.stalls.items j stall) back_room ∙ get_or_from_slice_get room.stalls.items j stall stall there

    abbrev x : Stall
    x = back.does.stall

    abbrev y : Stall
    y = back.does.after

    abbrev seen_channel_rest : y.channel ≡ record (x.channel) { backlog = record (x.channel.backlog) { queue = y.channel.backlog.queue } }
    seen_channel_rest = back.does.does.seen.rest

    back_about : y.channel.about ≡ x.channel.about
    back_about = ap (λ (v : ChannelSeen). v.about) seen_channel_rest

    back_name : channel_name y ≡ channel_name x
    back_name = ap (λ (o : About). o.name) back_about

    pub back_keeps : KeepsRooms h0.moment h0.rooms.items h2.rooms.items
    back_keeps =
        keeps_then h0.moment h0.rooms.items h1.rooms.items h2.rooms.items (keeps_marks_stall h0.moment i j h0.rooms.items h1.rooms.items mark)
        (keeps_at_stall h0.moment i j (StaysBack tells old new) h1.rooms.items h2.rooms.items back (record {
          about = back_about;
          paused = ap (λ (v : ChannelSeen). v.paused) seen_channel_rest;
          members = ap (λ (s : Stall). s.members.items) back.does.does.is;
          since = since_equal h0.moment x.since y.since (ap (λ (s : Stall). s.since) back.does.does.is);
        }))

    pub back_sound : KeepsRest h1 h2 → h2.quiet_until ≡ h1.quiet_until → IsSound h2
    back_sound keeps quiet =
        let before : IsStallSound h1.options (topic_name back.room) h1.quiet_until h1.unsaved_from x = stall_before h1 h2 i j (StaysBack tells old new) sound keeps back in
        let touches : TouchesStall x y = record {
          about = back_about;
          drawn = ap (λ (v : ChannelSeen). v.drawn) seen_channel_rest ∙ before.settled;
          queue = back.does.does.seen.queue;
          clients = λ n. ap (λ (v : ChannelSeen). client_of v.clients n) seen_channel_rest;
          members = ap (λ (s : Stall). s.members.items) back.does.does.is;
          since = ap (λ (s : Stall). s.since) back.does.does.is;
          marked = inl (subst (λ (s : Stall). IsSome s.since) (sym back_stall) is_since);
        } in
        let calm : IsQuietUntil h2.quiet_until y.channel =
        λ now early. ap (λ (v : ChannelSeen). all_due now (channel_with v [])) seen_channel_rest ∙ before.calm now (omega (arith, early, quiet)) in
        sound_at_stall h1 h2 i j (StaysBack tells old new) sound keeps back back_name
        (subst (λ o. IsStallSound o (topic_name back.room) h2.quiet_until h2.unsaved_from y) (sym keeps.lowers.options)
        (stall_touched h1.options (topic_name back.room) h1.quiet_until h2.quiet_until h1.unsaved_from h2.unsaved_from x y keeps.lowers.unsaved before touches calm))
        (subst (λ o. IfSome o (λ m. m ≤ h2.moment)) (sym touches.since) (stall_past h1 h2 i j (StaysBack tells old new) sound keeps.later back))
        (members_stay h1.clients.items (topic_name back.room) x y back_name touches.clients touches.members (members_before h1 h2 i j (StaysBack tells old new) sound keeps back))

    back_of : IsTrue tells → (k : Channel) → IsStallOf old x k → IsStallOf new y k
    back_of told k is =
        let all = back.does.does.row told is.disk is.on_disk in
        let same : seen_channel y.channel is.disk ≡ seen_channel x.channel is.disk =
        ap (λ (v : ChannelSeen). channel_with v (queued_in y.channel is.disk)) seen_channel_rest ∙ ap (channel_with x.channel) all.same in
        record { disk = is.disk; on_disk = all.on_disk; is_kept = subst (λ (c : Channel). IsKept c k) (sym same) is.is_kept; stands = back.does.does.stands told is.stands }

    pub back_stands : IsTrue tells → (s : State) → OthersStay (queue_name (topic_name room) (channel_name stall)) old new → HoldsFor h1 old s → HoldsFor h2 new s
    back_stands told s others holds =
        let named : OthersStay (queue_name (topic_name back.room) (channel_name x)) old new =
        subst (λ (r : Room). OthersStay (queue_name (topic_name r) (channel_name x)) old new) (sym back_room) (subst (λ (z : Stall). OthersStay (queue_name (topic_name room) (channel_name z)) old new) (sym back_stall) others) in
        stall_as_before h1 h2 old new s (topic_name back.room) (channel_name x) x y sound holds (stall_change h1 h2 old new i j (StaysBack tells old new) sound back back_name (else_stays h1 h2 rest) named) (back_of told)

-- each topic and each channel that is there after one was lost was there before
some_more : {X : Type 0} (x : X) (o u : Option X) (b : Bool) → IsSome (option_or o u) → IsSome (option_or o (if b then Some x else u))
some_more x None u true h = refl
some_more x None u false h = h
some_more x (Some y) u b h = refl

in_all : (j : ℕ) (stalls : List Stall) (stall : Stall) (channel : List ℕ) → slice_get stalls j ≡ Some stall → IsSome (stall_in (take j stalls ++ drop (suc j) stalls) channel) → IsSome (stall_in stalls channel)
in_all j stalls stall channel there has =
    let p : Stall → Bool = λ (s : Stall). bytes_eq channel (channel_name s) in
    let parts : take j stalls ++ (get_or stalls j stall ∷ drop (suc j) stalls) ≡ stalls = sym (append_assoc (take j stalls) (get_or stalls j stall ∷ []) (drop (suc j) stalls)) ∙ parts_at stalls j stall (slice_get_within stalls j stall there) in
    subst (λ xs. IsSome (find p xs)) parts
    (subst IsSome (sym (find-append p (take j stalls) (get_or stalls j stall ∷ drop (suc j) stalls)))
    (some_more (get_or stalls j stall) (find p (take j stalls)) (find p (drop (suc j) stalls)) (p (get_or stalls j stall)) (subst IsSome (find-append p (take j stalls) (drop (suc j) stalls)) has)))

abbrev Shrinks : Room → Room → Type 0
Shrinks a b = (topic_name b ≡ topic_name a) × ((channel : List ℕ) → IsSome (stall_in b.stalls.items channel) → IsSome (stall_in a.stalls.items channel))

shrunk_room : (o u : Option Room) → IfBoth Shrinks o u → IsSome u → IsSome o
shrunk_room None None h s = s
shrunk_room None (Some b) h s = absurd h
shrunk_room (Some a) u h s = refl

shrunk_stall : (channel : List ℕ) (o u : Option Room) → IfBoth Shrinks o u → IsSome (option_and_then (λ (r : Room). stall_in r.stalls.items channel) u) → IsSome (option_and_then (λ (r : Room). stall_in r.stalls.items channel) o)
shrunk_stall channel None None h s = s
shrunk_stall channel None (Some b) h s = absurd h
shrunk_stall channel (Some a) None h s = absurd h
shrunk_stall channel (Some a) (Some b) h s = h.1 channel s

pub among_lost : (i j : ℕ) (channel : List ℕ) (old new : List Room) → AtRoom i (LosesStall j channel) old new → AreAmong new old
among_lost i j channel old new a =
    let own : Shrinks a.room a.after = (ap topic_name a.does.is, λ k has. in_all j a.room.stalls.items a.does.stall k a.does.there (subst (λ xs. IsSome (stall_in xs k)) a.does.left has)) in
    let all : Pairwise Shrinks old new = subst (Pairwise Shrinks old) (sym a.is) (pairs_one Shrinks (λ r. (refl, λ k has. has)) old i a.room a.after a.there own) in
    let both : (topic : List ℕ) → IfBoth Shrinks (room_in old topic) (room_in new topic) =
    λ topic. pairs_found Shrinks (λ r. bytes_eq topic (topic_name r)) (λ r. bytes_eq topic (topic_name r)) old new (λ x y s. ap (bytes_eq topic) (sym s.0)) all in
    record {
      topics = λ topic. shrunk_room (room_in old topic) (room_in new topic) (both topic);
      channels = λ topic k. shrunk_stall k (room_in old topic) (room_in new topic) (both topic);
    }
