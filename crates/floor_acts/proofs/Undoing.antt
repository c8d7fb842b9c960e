-- A message that was drawn for a client is put back: the hall stands for the states that it stood for before the drawing.
use Rattle.std.proofs.Common.{◌≡◌, inl, ℕ, Bool, List, refl, sym, ap, subst, ◌∙◌}
use Rattle.std.specs.Prelude.{IsTrue}
use Rattle.nsq_outside.specs.Files.{Files}
use Rattle.v2_frame.specs.declared.message.Message.{Message}
use Rattle.backlog.specs.Lists.{OnDisk, Stands}
use Rattle.backlog.specs.Seen.{SameQueue}
use Rattle.broker_history.specs.State.{Channel, State}
use Rattle.broker_history.specs.Channels.{IsKept}
use Rattle.channel_copies.specs.Clients.{client_of}
use Rattle.channel_core.specs.declared.answers.Next.TheVariants as next
use Rattle.channel_core.specs.declared.drawn.Drawn.TheVariants.{Nothing}
use Rattle.channel_core.specs.Drawing.{first_drawn}
use Rattle.channel_core.specs.Seen.{Seen as ChannelSeen, channel_with, drawn_in, queued_in, queue_name, seen_channel}
use Rattle.floor_rooms.specs.declared.stall.Stall.{Stall}
use Rattle.floor_rooms.specs.declared.hall.Hall.{Hall}
use Rattle.floor_rooms.specs.Rooms.{channel_name, topic_name}
use Rattle.floor_rooms.specs.Sound.{IsStallSound}
use Rattle.floor_rooms.specs.Standing.{Carries, HoldsFor, IsStallOf}
use Rattle.floor_rooms.specs.Changes.{AtStall, KeepsRooms, Touches, TouchesStall}
use Rattle.floor_rooms.proofs.Dating.{keeps_at_stall, keeps_stall_touched, keeps_then}
use Rattle.floor_rooms.proofs.Orders.{stall_as_before}
use Rattle.floor_rooms.proofs.Staying.{others_stay}
use Rattle.floor_rooms.proofs.Turning.{stall_change}
use Rattle.floor_acts.specs.Sending.{DrawsStall, HasDrawn, UnsendsStall}
use Rattle.floor_acts.proofs.Flying.{stays_rooms}
use Rattle.floor_acts.proofs.Drawing.{Both, draw_stall, join}

-- what differs of the hall
pub back_rest : (h1 h2 h3 : Hall) → h2 ≡ record h1 { rooms = h2.rooms } → h3 ≡ record h2 { quiet_until = h3.quiet_until } → h3 ≡ record h1 { rooms = h3.rooms; quiet_until = h3.quiet_until }
back_rest h1 h2 h3 e2 e3 = e3 ∙ ap (λ (h : Hall). record h { quiet_until = h3.quiet_until }) e2 ∙ ap (λ rooms. record h1 { rooms = rooms; quiet_until = h3.quiet_until }) (sym (ap (λ (h : Hall). h.rooms) e3))

module _ (tells : Bool) (i j client : ℕ) (message : Message) (f0 f1 : Files) (n0 n1 : ℕ) (hb h1 h2 h3 : Hall) (d : HasDrawn tells i j client (next.Send message) f0 f1 n0 n1 hb h1) (rest2 : h2 ≡ record h1 { rooms = h2.rooms })
    (back : AtStall i j (UnsendsStall message) h1.rooms.items h2.rooms.items) (rest3 : h3 ≡ record h2 { quiet_until = h3.quiet_until }) where
  abbrev Drew : Stall → Stall → Type 0
  Drew = DrawsStall tells client d.marked.moment (next.Send message) f0 f1 n0 n1

  abbrev both : AtStall i j (Both Drew (UnsendsStall message)) d.marked.rooms.items h2.rooms.items
  both = join i j Drew (UnsendsStall message) d.marked.rooms.items h1.rooms.items h2.rooms.items d.at back

  before : IsStallSound d.marked.options (topic_name d.at.room) d.marked.quiet_until d.marked.unsaved_from d.at.does.stall
  before = draw_stall tells i j client (next.Send message) f0 f1 n0 n1 hb h1 d

  rest_two : h2 ≡ record (d.marked) { rooms = h2.rooms }
  rest_two = rest2 ∙ ap (λ (h : Hall). record h { rooms = h2.rooms }) d.rest

  back_channel : both.does.after.channel ≡ record (d.at.does.stall.channel) { backlog = both.does.after.channel.backlog; drawn = Nothing; spare = d.at.does.after.channel.spare; deferred_spare = d.at.does.after.channel.deferred_spare }
  back_channel = both.does.does.second.rest ∙ ap (λ (v : ChannelSeen). record v { backlog = both.does.after.channel.backlog; drawn = Nothing }) d.at.does.does.rest

  touched : TouchesStall d.at.does.stall both.does.after
  touched = record {
    about = ap (λ (v : ChannelSeen). v.about) back_channel;
    drawn = both.does.does.second.nothing;
    queue = subst (SameQueue d.at.does.stall.channel.backlog.queue) (sym both.does.does.second.queue) d.at.does.does.disk.queue;
    clients = λ n. ap (λ (v : ChannelSeen). client_of v.clients n) back_channel;
    members = ap (λ (s : Stall). s.members.items) both.does.does.second.same ∙ ap (λ (s : Stall). s.members.items) d.at.does.does.same;
    since = ap (λ (s : Stall). s.since) both.does.does.second.same ∙ ap (λ (s : Stall). s.since) d.at.does.does.same;
    marked = inl d.is_marked;
  }

  pub back_touches : Touches i j d.marked h2
  back_touches = record {
    sound = d.sound;
    rest = rest_two;
    stall = record {
      room = both.room;
      after = both.after;
      there = both.there;
      is = both.is;
      does = record { stall = both.does.stall; after = both.does.after; there = both.does.there; is = both.does.is; stalls = both.does.stalls; does = touched };
    };
  }

  pub back_keeps : KeepsRooms hb.moment hb.rooms.items h3.rooms.items
  back_keeps =
      subst (KeepsRooms hb.moment hb.rooms.items) (sym (ap (λ (h : Hall). h.rooms.items) rest3))
      (keeps_then hb.moment hb.rooms.items d.marked.rooms.items h2.rooms.items d.keeps
      (keeps_at_stall hb.moment i j (Both Drew (UnsendsStall message)) d.marked.rooms.items h2.rooms.items both (keeps_stall_touched hb.moment d.at.does.stall both.does.after touched (ap (λ (v : ChannelSeen). v.paused) back_channel))))

  back_is : IsTrue tells → (c : Channel) → IsStallOf f0 d.at.does.stall c → IsStallOf f1 both.does.after c
  back_is told c is =
      let a : ChannelSeen = d.at.does.stall.channel in
      let b : ChannelSeen = d.at.does.after.channel in
      let z : ChannelSeen = both.does.after.channel in
      let g = d.at.does.does.gives told is.disk is.on_disk in
      let waits : List Message = drawn_in (first_drawn b.drawn message) b is.disk in
      let seen : seen_channel z is.disk ≡ seen_channel a is.disk =
      ap (channel_with z) (both.does.does.second.back is.disk) ∙ ap (λ (v : ChannelSeen). channel_with v waits) both.does.does.second.rest ∙ ap (channel_with b) g.same ∙ ap (λ (v : ChannelSeen). channel_with v (queued_in a is.disk)) d.at.does.does.rest in
      record {
        disk = is.disk;
        on_disk = subst (λ q. OnDisk q f1 is.disk) (sym both.does.does.second.queue) (d.at.does.does.list told is.disk is.on_disk);
        is_kept = subst (λ x. IsKept x c) (sym seen) is.is_kept;
        stands = subst (λ q. Stands q f1) (sym both.does.does.second.queue) (d.at.does.does.disk.stands told is.stands);
      }

  pub back_told : IsTrue tells → ((s : State) → HoldsFor h2 f1 s → HoldsFor h3 f1 s) → Carries hb f0 h3 f1 (λ s t. t ≡ s)
  back_told told end = λ s holds.
      let name : List ℕ = queue_name (topic_name d.at.room) (channel_name d.at.does.stall) in
      let change = stall_change d.marked h2 f0 f1 i j (Both Drew (UnsendsStall message)) d.sound both (ap (λ (v : ChannelSeen). v.about.name) back_channel) (stays_rooms d.marked h2 rest_two)
      (others_stay d.at.does.stall.channel.backlog.queue name f0 f1 before.queue (d.at.does.does.disk.others told)) in
      (s, refl, end s (stall_as_before d.marked h2 f0 f1 s (topic_name d.at.room) (channel_name d.at.does.stall) d.at.does.stall both.does.after d.sound (d.stands f0 s holds) change (back_is told)))
