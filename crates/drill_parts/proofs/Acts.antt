-- How many messages each entry leaves.
use Rattle.std.proofs.Common.{◌≡◌, ℕ, ◌+◌, Bool, true, false, if◌then◌else◌, List, [], ◌∷◌, length, Option, Some, None, refl, sym, ap, subst, ◌∙◌}
use Rattle.nsq_outside.specs.declared.journal.End.{End}
use Rattle.nsq_outside.specs.declared.journal.End.TheVariants.{Done, Faulted, Skip}
use Rattle.v2_frame.specs.declared.command.Command.{Command}
use Rattle.v2_frame.specs.declared.command.Command.TheVariants.{Identify, Sub, Pub, Mpub, Dpub, Rdy, Fin, Req, Touch, Cls, Nop}
use Rattle.broker_history.specs.declared.ask.Ask.{Ask}
use Rattle.broker_history.specs.declared.ask.Ask.TheVariants as ask
use Rattle.broker_history.specs.declared.ask.Said.{Said}
use Rattle.broker_history.specs.declared.entry.Act.{Act}
use Rattle.broker_history.specs.declared.entry.Act.TheVariants.{Began, Did, Refused, Sent, Beat, Idle, Silent, Dropped, Gone, Asked, Listed, Ticked, Stop, Took, Copied, TimedOut, CameDue, HeldBack, Stuck}
use Rattle.broker_history.specs.declared.entry.Entry.{Entry}
use Rattle.broker_history.specs.Changes.{at_client, changed_client, gone, published}
use Rattle.broker_history.specs.Channels.{Finishes, GivesBack, Moves, Sends, Touches}
use Rattle.broker_history.specs.Identify.{Identity, identity_of}
use Rattle.broker_history.specs.Reply.{requeue_delay, span_of}
use Rattle.broker_history.specs.State.{Channel, Client, Route, State, client_of, is_ephemeral_channel, with_client}
use Rattle.broker_history.specs.Step.{AtOwn, CarriesOut, DoesAct, DoesCommand, DoesMove, DoesMoveTo, Step, asked_state, broken_off, carried_out, is_done, is_kept_off, own_room, room_of, spoke, with_identity}
use Rattle.drill_parts.specs.Conserving.{HaveOnes, Keeps, KeepsAct, KeepsAsked, KeepsCommand}
use Rattle.drill_parts.specs.Counts.{finished_as, finished_by, finished_in, messages_asked, messages_in, published_as, published_by}
use Rattle.drill_parts.proofs.Channels.{ChannelKeeps, comes_keeps, finishes_keeps, gives_keeps, holds_keeps, sends_keeps, times_keeps, touches_keeps}
use Rattle.drill_parts.proofs.States.{StateKeeps, at_channel, at_topic, channel_made, from_same, gone_same, onto, pause_keeps, published_keeps, state_same, topic_made}
use Rattle.drill_parts.proofs.Topics.{copies_keep, takes_keeps}

same_room : (s : State) (o : Option Route) (route : Route) → o ≡ Some route → own_room s o ≡ room_of s route.topic route.channel
same_room s o route e = ap (own_room s) e

client_same : (f : Client → Client) (s : State) (c : Option Client) → (changed_client f s c).topics ≡ s.topics
client_same f s None = refl
client_same f s (Some c) = refl

identity_same : (s : State) (at : ℕ) (c : Client) (i : Option Identity) → (with_identity s at c i).topics ≡ s.topics
identity_same s at c None = refl
identity_same s at c (Some i) = refl

module _ (only : List ℕ → List ℕ) where
  -- the same state
  is_keeps : (more fewer : ℕ) (s t u : State) → u ≡ t → StateKeeps only more fewer s t → StateKeeps only more fewer s u
  is_keeps more fewer s t u e k = subst (λ x. StateKeeps only more fewer s x) (sym e) k

  topics_same : (s t : State) → HaveOnes only s.topics → t.topics ≡ s.topics → StateKeeps only 0 0 s t
  topics_same s t ones same = state_same only s t ones same

  -- a row at a client's channel
  own_keeps : (more fewer : ℕ) (c : Client) (Row : Channel → Channel → Type 0) (f : Client → Client) (s s' : State) → HaveOnes only s.topics
      → ((route : Route) → c.route ≡ Some route → (k k' : Channel) → is_ephemeral_channel route.topic route.channel ≡ false → Row k k' → ChannelKeeps more fewer k k') → AtOwn c Row f s s' → StateKeeps only more fewer s s'
  own_keeps more fewer c Row f s s' ones good a =
      onto only more fewer s a.between s' (at_channel only more fewer a.route.topic a.route.channel Row s a.between ones (good a.route a.on) a.channel) (ap (λ (x : State). x.topics) a.is)

  carries_keeps : (s t : State) (at : ℕ) (c : Client) (command : Command) → HaveOnes only s.topics → KeepsCommand only command → CarriesOut s at c command t → StateKeeps only (messages_in command) (finished_in command) s t
  carries_keeps s t at c (Identify body) ones k d = is_keeps 0 0 s (with_identity s at c (identity_of s.options body)) t d (topics_same s (with_identity s at c (identity_of s.options body)) ones (identity_same s at c (identity_of s.options body)))
  carries_keeps s t at c (Sub topic channel) ones k d = onto only 0 0 s _ t (channel_made only s topic channel ones k) (ap (λ (x : State). x.topics) d)
  carries_keeps s t at c (Pub topic body) ones k d = is_keeps 1 0 s (published s at 0 topic (body ∷ [])) t d (published_keeps only s at 0 topic (body ∷ []) ones k)
  carries_keeps s t at c (Mpub topic bodies) ones k d = is_keeps (length bodies) 0 s (published s at 0 topic bodies) t d (published_keeps only s at 0 topic bodies ones k)
  carries_keeps s t at c (Dpub topic delay body) ones k d = is_keeps 1 0 s (published s at (span_of delay) topic (body ∷ [])) t d (published_keeps only s at (span_of delay) topic (body ∷ []) ones k)
  carries_keeps s t at c (Rdy count) ones k d = topics_same s t ones (ap (λ (x : State). x.topics) d)
  carries_keeps s t at c (Fin id) ones k d = own_keeps 0 1 c (Finishes Moves c.number id) _ s t ones (λ route e j j' stays r. finishes_keeps j j' c.number id r) d
  carries_keeps s t at c (Req id delay) ones k d =
      own_keeps 0 0 c (GivesBack Moves (own_room s c.route) c.number id at (requeue_delay s.options delay)) _ s t ones
      (λ route e j j' stays r. gives_keeps (own_room s c.route) (ap (λ room. room.ephemeral) (same_room s c.route route e) ∙ stays) j j' c.number id at (requeue_delay s.options delay) r) d
  carries_keeps s t at c (Touch id) ones k d = own_keeps 0 0 c (Touches Moves c.number id at c.timeout s.options.max_msg_timeout) _ s t ones (λ route e j j' stays r. touches_keeps j j' c.number id at c.timeout s.options.max_msg_timeout r) d
  carries_keeps s t at c Cls ones k d = topics_same s t ones (ap (λ (x : State). x.topics) d)
  carries_keeps s t at c Nop ones k d = topics_same s t ones (ap (λ (x : State). x.topics) d)

  command_keeps : (s t : State) (at : ℕ) (c : Client) (command : Command) (refused : Bool) → HaveOnes only s.topics → KeepsCommand only command → DoesCommand s at c command refused t
      → StateKeeps only (if refused then 0 else messages_in command) (if refused then 0 else finished_in command) s t
  command_keeps s t at c command true ones k d = topics_same s t ones (ap (λ (x : State). x.topics) d)
  command_keeps s t at c command false ones k d =
      from_same only (messages_in command) (finished_in command) s (with_client s (spoke at c)) t refl (carries_keeps (with_client s (spoke at c)) t at (spoke at c) command ones k d)

  carried_keeps : (s : State) (at : ℕ) (a : Ask) → HaveOnes only s.topics → KeepsAsked only a → StateKeeps only (messages_asked a) 0 s (carried_out s at a)
  carried_keeps s at (ask.Publish topic delay bodies) ones k = published_keeps only s at delay topic bodies ones k
  carried_keeps s at (ask.Stats topic channel) ones k = topics_same s s ones refl
  carried_keeps s at (ask.Create topic None) ones k = topic_made only s topic ones k
  carried_keeps s at (ask.Create topic (Some channel)) ones k = channel_made only s topic channel ones k
  carried_keeps s at (ask.Delete topic channel) ones k = absurd k
  carried_keeps s at (ask.Empty topic channel) ones k = absurd k
  carried_keeps s at (ask.Pause topic channel) ones k = pause_keeps only true s topic channel ones
  carried_keeps s at (ask.Unpause topic channel) ones k = pause_keeps only false s topic channel ones

  broken_same : (s : State) (a : Ask) (count : ℕ) → KeepsAsked only a → broken_off s a count ≡ s
  broken_same s (ask.Publish topic delay bodies) count k = refl
  broken_same s (ask.Stats topic channel) count k = refl
  broken_same s (ask.Create topic channel) count k = refl
  broken_same s (ask.Delete topic channel) count k = absurd k
  broken_same s (ask.Empty topic channel) count k = refl
  broken_same s (ask.Pause topic channel) count k = refl
  broken_same s (ask.Unpause topic channel) count k = refl

  done_keeps : (s t : State) (a : Ask) (b : Bool) → HaveOnes only s.topics → StateKeeps only (messages_asked a) 0 s t → StateKeeps only (if b then messages_asked a else 0) 0 s (if b then t else s)
  done_keeps s t a true ones k = k
  done_keeps s t a false ones k = topics_same s s ones refl

  asked_keeps : (s : State) (at : ℕ) (a : Ask) (answer : Said) (end : End) → HaveOnes only s.topics → KeepsAsked only a → StateKeeps only (published_as (Asked a answer) end) 0 s (asked_state s at a answer end)
  asked_keeps s at a answer Done ones k = done_keeps s (carried_out s at a) a (is_done answer) ones (carried_keeps s at a ones k)
  asked_keeps s at a answer (Faulted count) ones k = is_keeps 0 0 s s (broken_off s a count) (broken_same s a count k) (topics_same s s ones refl)
  asked_keeps s at a answer Skip ones k = topics_same s s ones refl

  move_keeps : (s t : State) (at : ℕ) (act : Act) → HaveOnes only s.topics → DoesMove s at act t → StateKeeps only 0 0 s t
  move_keeps s t at (Took topic m names) ones d = at_topic only 0 0 topic _ s t ones (λ x y named one r. takes_keeps only m names x y one r) d
  move_keeps s t at (Copied topic channel m) ones d =
      at_topic only 0 0 topic _ s t ones (λ x y named one r. copies_keep only (room_of s topic channel) at channel m x y one (λ stays. ap (λ n. is_ephemeral_channel n channel) named ∙ stays) r) d
  move_keeps s t at (TimedOut topic channel id) ones d = at_channel only 0 0 topic channel _ s t ones (λ k k' stays r. times_keeps (room_of s topic channel) stays k k' id at r) d
  move_keeps s t at (CameDue topic channel id) ones d = at_channel only 0 0 topic channel _ s t ones (λ k k' stays r. comes_keeps (room_of s topic channel) stays k k' id at r) d
  move_keeps s t at (HeldBack topic channel id) ones d = at_channel only 0 0 topic channel _ s t ones (λ k k' stays r. holds_keeps k k' id (at + s.options.msg_timeout) r) d
  move_keeps s t at act ones d = absurd d

  moved_keeps : (s t : State) (at : ℕ) (act : Act) (end : End) → HaveOnes only s.topics → DoesMoveTo s at act end t → StateKeeps only 0 0 s t
  moved_keeps s t at act Done ones d = move_keeps s t at act ones d
  moved_keeps s t at act (Faulted n) ones d = topics_same s t ones (ap (λ (x : State). x.topics) d)
  moved_keeps s t at act Skip ones d = topics_same s t ones (ap (λ (x : State). x.topics) d)

  act_keeps : (s t : State) (at n : ℕ) (act : Act) (end : End) → HaveOnes only s.topics → KeepsAct only act → DoesAct s at n act end t → StateKeeps only (published_as act end) (finished_as act end) s t
  act_keeps s t at n Began end ones k d = topics_same s t ones (ap (λ (x : State). x.topics) d)
  act_keeps s t at n (Did command r) end ones k d = command_keeps s t at d.client command (is_kept_off r end) ones k d.does
  act_keeps s t at n (Refused fault frame) end ones k d = topics_same s t ones (ap (λ (x : State). x.topics) d)
  act_keeps s t at n (Sent m) end ones k d = own_keeps 0 0 d.client (Sends Moves n at d.client.timeout m) _ s t ones (λ route e j j' stays r. sends_keeps j j' n at d.client.timeout m r) d.sends
  act_keeps s t at n Beat end ones k d = is_keeps 0 0 s (at_client _ s n) t d (topics_same s (at_client _ s n) ones (client_same _ s (client_of s n)))
  act_keeps s t at n Idle end ones k d = topics_same s t ones (ap (λ (x : State). x.topics) d)
  act_keeps s t at n Silent end ones k d = topics_same s t ones (ap (λ (x : State). x.topics) d)
  act_keeps s t at n Dropped end ones k d = topics_same s t ones (ap (λ (x : State). x.topics) d)
  act_keeps s t at n Gone end ones k d = is_keeps 0 0 s (gone s n) t d (topics_same s (gone s n) ones (gone_same only s n (client_of s n) ones))
  act_keeps s t at n (Asked b answer) end ones k d = is_keeps (published_as (Asked b answer) end) 0 s (asked_state s at b answer end) t d (asked_keeps s at b answer end ones k)
  act_keeps s t at n (Listed names) end ones k d = topics_same s t ones (ap (λ (x : State). x.topics) d)
  act_keeps s t at n Ticked end ones k d = topics_same s t ones (ap (λ (x : State). x.topics) d)
  act_keeps s t at n Stop end ones k d = topics_same s t ones (ap (λ (x : State). x.topics) d)
  act_keeps s t at n (Stuck topic channel) end ones k d = topics_same s t ones (ap (λ (x : State). x.topics) d)
  act_keeps s t at n (Took topic m names) end ones k d = moved_keeps s t at (Took topic m names) end ones d
  act_keeps s t at n (Copied topic channel m) end ones k d = moved_keeps s t at (Copied topic channel m) end ones d
  act_keeps s t at n (TimedOut topic channel id) end ones k d = moved_keeps s t at (TimedOut topic channel id) end ones d
  act_keeps s t at n (CameDue topic channel id) end ones k d = moved_keeps s t at (CameDue topic channel id) end ones d
  act_keeps s t at n (HeldBack topic channel id) end ones k d = moved_keeps s t at (HeldBack topic channel id) end ones d

  pub step_keeps : (s t : State) (e : Entry × End) → HaveOnes only s.topics → Keeps only e → Step s e t → StateKeeps only (published_by e) (finished_by e) s t
  step_keeps s t e ones k a = onto only (published_by e) (finished_by e) s a.between t (act_keeps s a.between e.0.at e.0.conn e.0.act e.1 ones k a.does) (ap (λ (x : State). x.topics) a.is)
