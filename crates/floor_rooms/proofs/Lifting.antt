-- What is told of one channel of the hall is that row of the state's channel, and of the changed one in the hall.
use Rattle.std.proofs.Common.{◌≡◌, ℕ, List, ◌++◌, sym, ap, subst, ◌∙◌}
use Rattle.nsq_base.specs.declared.options.Options.{Options}
use Rattle.nsq_outside.specs.Files.{Files}
use Rattle.v2_frame.specs.declared.message.Message.{Message}
use Rattle.channel_core.specs.Lists.{OnDisk, Stands}
use Rattle.broker_history.specs.State.{Channel, State, is_ephemeral_channel}
use Rattle.broker_history.specs.Channels.{Room as Space, Moves, MovesLive, Joins, JoinsLive, Sends, Finishes, Touches, GivesBack, TimesOut, ComesDue, HoldsBack, Gets}
use Rattle.broker_history.specs.Step.{room_of}
use Rattle.channel_core.specs.Seen.{Seen, channel_with, queued_in, seen_channel}
use Rattle.channel_core.specs.Seen as core
use Rattle.channel_core.specs.Drawing.{Leads, Does, IsAsBefore}
use Rattle.channel_core.specs.declared.about.About.{About}
use Rattle.floor_laws.specs.Lifting.{Lift}
use Rattle.floor_laws.proofs.Lifting.{sends, finishes, touches, gives_back, times_out, comes_due, holds_back, gets, same_kept}
use Rattle.floor_rooms.specs.declared.stall.Stall.{Stall}
use Rattle.floor_rooms.specs.Rooms.{channel_name}
use Rattle.floor_rooms.specs.Sound.{IsStallSound}
use Rattle.floor_rooms.specs.Standing.{IsStallOf, LiftsTo}

-- whatever the row: where the channel, as it was kept, is told to lead somewhere by the row over what is kept, it leads there by the row
pub stall_lifts : (Live Row : Channel → Channel → Type 0) → Lift Live Row → (old new : Files) (stall to : Stall) (k : Channel) (from : Seen) (waits : List Message) (is : IsStallOf old stall k)
    → channel_with from waits ≡ seen_channel stall.channel is.disk → channel_name to ≡ channel_name stall → Stands to.channel.backlog.queue new → Leads Live from waits to.channel new → LiftsTo Row new to k
stall_lifts Live Row lift old new stall to k from waits is same named stands leads =
    let up = lift (seen_channel stall.channel is.disk) (seen_channel to.channel leads.disk) k is.is_kept (subst (λ c. Live c (seen_channel to.channel leads.disk)) same leads.row) in
    record {
      to = up.to;
      row = up.row;
      is = record { disk = leads.disk; on_disk = leads.on_disk; is_kept = up.is_kept; stands = stands };
      named = sym (ap (λ (c : Channel). c.name) up.is_kept.rest) ∙ named ∙ ap (λ (c : Channel). c.name) is.is_kept.rest;
    }

-- the eight rows
pub sends_lifts : (client at timeout : ℕ) (m : Message) (old new : Files) (stall to : Stall) (k : Channel) (from : Seen) (waits : List Message) (is : IsStallOf old stall k) → channel_with from waits ≡ seen_channel stall.channel is.disk
    → channel_name to ≡ channel_name stall → Stands to.channel.backlog.queue new → Leads (Sends MovesLive client at timeout m) from waits to.channel new → LiftsTo (Sends Moves client at timeout m) new to k
sends_lifts client at timeout m = stall_lifts (Sends MovesLive client at timeout m) (Sends Moves client at timeout m) (sends client at timeout m)

pub finishes_lifts : (client : ℕ) (id : List ℕ) (old new : Files) (stall to : Stall) (k : Channel) (from : Seen) (waits : List Message) (is : IsStallOf old stall k) → channel_with from waits ≡ seen_channel stall.channel is.disk
    → channel_name to ≡ channel_name stall → Stands to.channel.backlog.queue new → Leads (Finishes MovesLive client id) from waits to.channel new → LiftsTo (Finishes Moves client id) new to k
finishes_lifts client id = stall_lifts (Finishes MovesLive client id) (Finishes Moves client id) (finishes client id)

pub touches_lifts : (client : ℕ) (id : List ℕ) (at timeout most : ℕ) (old new : Files) (stall to : Stall) (k : Channel) (from : Seen) (waits : List Message) (is : IsStallOf old stall k) → channel_with from waits ≡ seen_channel stall.channel is.disk
    → channel_name to ≡ channel_name stall → Stands to.channel.backlog.queue new → Leads (Touches MovesLive client id at timeout most) from waits to.channel new → LiftsTo (Touches Moves client id at timeout most) new to k
touches_lifts client id at timeout most = stall_lifts (Touches MovesLive client id at timeout most) (Touches Moves client id at timeout most) (touches client id at timeout most)

pub gives_back_lifts : (room : Space) (client : ℕ) (id : List ℕ) (at delay : ℕ) (old new : Files) (stall to : Stall) (k : Channel) (from : Seen) (waits : List Message) (is : IsStallOf old stall k)
    → channel_with from waits ≡ seen_channel stall.channel is.disk → channel_name to ≡ channel_name stall → Stands to.channel.backlog.queue new → Leads (GivesBack MovesLive room client id at delay) from waits to.channel new → LiftsTo (GivesBack Moves room client id at delay) new to k
gives_back_lifts room client id at delay = stall_lifts (GivesBack MovesLive room client id at delay) (GivesBack Moves room client id at delay) (gives_back room client id at delay)

pub times_out_lifts : (room : Space) (id : List ℕ) (at : ℕ) (old new : Files) (stall to : Stall) (k : Channel) (from : Seen) (waits : List Message) (is : IsStallOf old stall k) → channel_with from waits ≡ seen_channel stall.channel is.disk
    → channel_name to ≡ channel_name stall → Stands to.channel.backlog.queue new → Leads (TimesOut MovesLive room id at) from waits to.channel new → LiftsTo (TimesOut Moves room id at) new to k
times_out_lifts room id at = stall_lifts (TimesOut MovesLive room id at) (TimesOut Moves room id at) (times_out room id at)

pub comes_due_lifts : (room : Space) (id : List ℕ) (at : ℕ) (old new : Files) (stall to : Stall) (k : Channel) (from : Seen) (waits : List Message) (is : IsStallOf old stall k) → channel_with from waits ≡ seen_channel stall.channel is.disk
    → channel_name to ≡ channel_name stall → Stands to.channel.backlog.queue new → Leads (ComesDue MovesLive room id at) from waits to.channel new → LiftsTo (ComesDue Moves room id at) new to k
comes_due_lifts room id at = stall_lifts (ComesDue MovesLive room id at) (ComesDue Moves room id at) (comes_due room id at)

pub holds_back_lifts : (id : List ℕ) (until : ℕ) (old new : Files) (stall to : Stall) (k : Channel) (from : Seen) (waits : List Message) (is : IsStallOf old stall k) → channel_with from waits ≡ seen_channel stall.channel is.disk
    → channel_name to ≡ channel_name stall → Stands to.channel.backlog.queue new → Leads (HoldsBack MovesLive id until) from waits to.channel new → LiftsTo (HoldsBack Moves id until) new to k
holds_back_lifts id until = stall_lifts (HoldsBack MovesLive id until) (HoldsBack Moves id until) (holds_back id until)

pub gets_lifts : (room : Space) (at : ℕ) (m : Message) (old new : Files) (stall to : Stall) (k : Channel) (from : Seen) (waits : List Message) (is : IsStallOf old stall k) → channel_with from waits ≡ seen_channel stall.channel is.disk
    → channel_name to ≡ channel_name stall → Stands to.channel.backlog.queue new → Leads (Gets JoinsLive room at m) from waits to.channel new → LiftsTo (Gets Joins room at m) new to k
gets_lifts room at m = stall_lifts (Gets JoinsLive room at m) (Gets Joins room at m) (gets room at m)

-- a channel that is as before is the same of a state
pub stays_lifts : (old new : Files) (stall to : Stall) (k : Channel) (from : Seen) (waits : List Message) (is : IsStallOf old stall k) → channel_with from waits ≡ seen_channel stall.channel is.disk → Stands to.channel.backlog.queue new
    → Leads IsAsBefore from waits to.channel new → IsStallOf new to k
stays_lifts old new stall to k from waits is same stands leads =
    let row = subst (λ c. IsAsBefore c (seen_channel to.channel leads.disk)) same leads.row in
    record { disk = leads.disk; on_disk = leads.on_disk; is_kept = same_kept (seen_channel stall.channel is.disk) (seen_channel to.channel leads.disk) k is.is_kept row.often row.is; stands = stands }

-- one whose backlog and files stay leads where it goes whatever is queued
pub does_leads : (Row : Channel → Channel → Type 0) (files : Files) (old new : Seen) (disk : List Message) → Does Row old new → new.backlog ≡ old.backlog → OnDisk old.backlog.queue files disk → Leads Row old (queued_in old disk) new files
does_leads Row files old new disk does same on = record {
  disk = disk;
  on_disk = subst (λ b. OnDisk b.queue files disk) (sym same) on;
  row = subst (λ b. Row (channel_with old (queued_in old disk)) (channel_with new (b.ring ++ disk))) (sym same) (does.row (queued_in old disk));
}

-- how much room the channel has is what the state says
pub own_room : (o : Options) (topic : List ℕ) (quiet unsaved : ℕ) (st : Stall) (s : State) → IsStallSound o topic quiet unsaved st → s.options ≡ o → core.room_of st.channel ≡ room_of s topic (channel_name st)
own_room o topic quiet unsaved st s sound same =
    ap (λ (a : About). record { ephemeral = is_ephemeral_channel a.topic a.name; mem = a.mem_queue_size }) sound.about ∙ ap (λ (p : Options). record { ephemeral = is_ephemeral_channel topic (channel_name st); mem = p.mem_queue_size }) (sym same)
