-- Each step lets the copies of a channel go on: the parts of a step, one after another.
use Rattle.std.proofs.Common.{◌≡◌, ℕ, ◌+◌, Bool, true, false, ◌&&◌, if◌then◌else◌, List, [], ◌∷◌, length, take, Option, Some, None, option_and_then, unwrap_or, refl, sym, ap, subst, ◌∙◌}
use Rattle.std.specs.List.{find}
use Rattle.std.specs.Str.{bytes_eq}
use Rattle.nsq_base.specs.Name.{is_ephemeral}
use Rattle.nsq_outside.specs.declared.journal.End.{End}
use Rattle.nsq_outside.specs.declared.journal.End.TheVariants.{Done, Faulted, Skip}
use Rattle.v2_frame.specs.declared.command.Command.{Command}
use Rattle.v2_frame.specs.declared.command.Command.TheVariants.{Identify, Sub, Pub, Mpub, Dpub, Rdy, Fin, Req, Touch, Cls, Nop}
use Rattle.v2_frame.specs.declared.message.Message.{Message}
use Rattle.broker_history.specs.declared.ask.Ask.{Ask}
use Rattle.broker_history.specs.declared.ask.Ask.TheVariants as ask
use Rattle.broker_history.specs.declared.ask.Said.{Said}
use Rattle.broker_history.specs.declared.entry.Act.{Act}
use Rattle.broker_history.specs.declared.entry.Act.TheVariants.{Began, Did, Refused, Sent, Beat, Idle, Silent, Dropped, Gone, Asked, Listed, Ticked, Stop, Took, Copied, TimedOut, CameDue, HeldBack, Stuck}
use Rattle.broker_history.specs.declared.entry.Entry.{Entry}
use Rattle.broker_history.specs.State.{State, Topic, Channel, Client, Phase, Fresh, Subscribed, Closing, Lost, Route, is_empty, topic_of, channel_of, channel_at, client_of, with_topic, with_channel, without_client, with_client, clients_of, is_ephemeral_channel, topic_or_new, channel_or_new, new_topic, new_channel}
use Rattle.broker_history.specs.Channels.{Moves, Finishes, Touches, GivesBack, Sends, emptied_all}
use Rattle.broker_history.specs.Topics.{put_bodies, put_message, with_waiting, is_full, published_message}
use Rattle.broker_history.specs.Changes.{published, published_topic, made, made_channel, deleted_channel, deleted_channels, channels_in, topic_changed, channel_changed_in, channel_changed, emptied, set_paused, left_channel, left_by, gone_client, gone, at_client, changed_client}
use Rattle.broker_history.specs.Identify.{Identity, identity_of}
use Rattle.broker_history.specs.Reply.{requeue_delay, span_of}
use Rattle.broker_history.specs.Step.{room_of, own_room, Copies, AtOwn, CarriesOut, DoesCommand, DoesMove, DoesMoveTo, DoesAct, Step, with_identity, carried_out, broken_off, asked_state, is_done, is_kept_off, spoke}
use Rattle.history_laws.specs.Copies.{ChannelGoesOn}
use Rattle.broker_history.proofs.Lists.{exact_bytes, find_passes}
use Rattle.history_laws.proofs.Copying.{channel_same, channel_emptied, sends_on, finishes_on, touches_on, gives_on, times_on, comes_on, holds_on, gets_on}
use Rattle.history_laws.proofs.Keeping.{TopicGoesOn, StateGoesOn, topic_same, topic_put, state_put, state_same, at_topic, in_channel, at_channel, fewer_on, fewer_deleted, fewer_channels, fewer_itself, deleted_on, onto, from_same}

none_some : {X A : Type 0} (x : X) → None ≡ Some x → A
none_some x e = cc

some_is : {X : Type 0} (x y : X) → Some x ≡ Some y → x ≡ y
some_is x y e = cc

-- what is there isn't made anew
or_there : {X : Type 0} (o : Option X) (new x : X) → o ≡ Some x → unwrap_or o new ≡ x
or_there None new x e = none_some x e
or_there (Some y) new x e = some_is y x e

-- a topic that is made, or is there
name_or_new : (s : State) (topic : List ℕ) (o : Option Topic) → topic_of s topic ≡ o → (unwrap_or o (new_topic topic)).name ≡ topic
name_or_new s topic None e = refl
name_or_new s topic (Some t) e = sym (exact_bytes topic t.name (find_passes (λ (t : Topic). bytes_eq topic t.name) s.topics t e))

named_topic : (s : State) (topic : List ℕ) → (topic_or_new s topic).name ≡ topic
named_topic s topic = name_or_new s topic (topic_of s topic) refl

channel_or : (t : Topic) (name : List ℕ) (o : Option Channel) → channel_of t name ≡ o → (unwrap_or o (new_channel name)).name ≡ name
channel_or t name None e = refl
channel_or t name (Some k) e = sym (exact_bytes name k.name (find_passes (λ (c : Channel). bytes_eq name c.name) t.channels k e))

named_channel : (t : Topic) (name : List ℕ) → (channel_or_new t name).name ≡ name
named_channel t name = channel_or t name (channel_of t name) refl

-- a topic that is made or there is put, changed so that its channels go on
changed_or_new : (s : State) (topic : List ℕ) (to : Topic) → to.name ≡ topic → TopicGoesOn (topic_or_new s topic) to → StateGoesOn s (with_topic s to)
changed_or_new s topic to named on =
    state_put s to (λ from e. subst (λ x. TopicGoesOn x to) (or_there (topic_of s topic) (new_topic topic) from (subst (λ n. topic_of s n ≡ Some from) named e)) on)

made_on : (s : State) (topic : List ℕ) (channel : Option (List ℕ)) → StateGoesOn s (made s topic channel)
made_on s topic None = changed_or_new s topic (topic_or_new s topic) (named_topic s topic) (topic_same (topic_or_new s topic) (topic_or_new s topic) refl)
made_on s topic (Some channel) =
    let t : Topic = topic_or_new s topic in
    let k : Channel = channel_or_new t channel in
    changed_or_new s topic (with_channel t k) (named_topic s topic)
    (topic_put t k (λ from e. subst (λ x. ChannelGoesOn (is_ephemeral_channel t.name k.name) x k) (or_there (channel_of t channel) (new_channel channel) from (subst (λ n. channel_of t n ≡ Some from) (named_channel t channel) e)) (channel_same (is_ephemeral_channel t.name k.name) k k refl)))

-- a publish leaves a topic's channels and its name
put_same : (mem : ℕ) (t : Topic) (m : Message) (b : Bool) → ((if b then t else with_waiting t m (is_full mem t)).channels ≡ t.channels) × ((if b then t else with_waiting t m (is_full mem t)).name ≡ t.name)
put_same mem t m true = (refl, refl)
put_same mem t m false = (refl, refl)

bodies_same : (mem epoch n at delay : ℕ) (t : Topic) (bodies : List (List ℕ)) → ((put_bodies mem epoch n at delay t bodies).channels ≡ t.channels) × ((put_bodies mem epoch n at delay t bodies).name ≡ t.name)
bodies_same mem epoch n at delay t [] = (refl, refl)
bodies_same mem epoch n at delay t (body ∷ bodies) =
    let m : Message = published_message epoch n at delay body in
    let a = put_same mem t m (is_ephemeral t.name && is_full mem t) in
    let b = bodies_same mem epoch (n + 1) at delay (put_message mem t m) bodies in
    (b.0 ∙ a.0, b.1 ∙ a.1)

published_on : (s : State) (at delay : ℕ) (topic : List ℕ) (bodies : List (List ℕ)) → StateGoesOn s (published s at delay topic bodies)
published_on s at delay topic bodies =
    let t : Topic = topic_or_new s topic in
    let b = bodies_same s.options.mem_queue_size s.epoch s.ids_used at delay t bodies in
    let u : State = record s { ids_used = s.ids_used + length bodies } in
    from_same s u (published s at delay topic bodies) refl (changed_or_new u topic (published_topic s at delay topic bodies) (b.1 ∙ named_topic s topic) (topic_same t (published_topic s at delay topic bodies) b.0))

-- a topic that changes where it is there
changed_on : (f : Topic → Topic) (s : State) (topic : List ℕ) → ((t : Topic) → ((f t).name ≡ t.name) × TopicGoesOn t (f t)) → (o : Option Topic) → topic_of s topic ≡ o → StateGoesOn s (topic_changed f s o)
changed_on f s topic good None e = state_same s s refl
changed_on f s topic good (Some t) e =
    let named : topic ≡ t.name = exact_bytes topic t.name (find_passes (λ (t : Topic). bytes_eq topic t.name) s.topics t e) in
    state_put s (f t) (λ from h. subst (λ x. TopicGoesOn x (f t)) (some_is t from (sym e ∙ subst (λ n. topic_of s n ≡ Some from) ((good t).0 ∙ sym named) h)) (good t).1)

-- a channel that changes where it is there
channel_changed_on : (f : Channel → Channel) (channel : List ℕ) (t : Topic) → ((k : Channel) → ((f k).name ≡ k.name) × ((ephemeral : Bool) → ChannelGoesOn ephemeral k (f k))) → (o : Option Channel) → channel_of t channel ≡ o
    → ((channel_changed_in f t o).name ≡ t.name) × TopicGoesOn t (channel_changed_in f t o)
channel_changed_on f channel t good None e = (refl, topic_same t t refl)
channel_changed_on f channel t good (Some k) e =
    let named : channel ≡ k.name = exact_bytes channel k.name (find_passes (λ (c : Channel). bytes_eq channel c.name) t.channels k e) in (
      refl,
      topic_put t (f k) (λ from h. subst (λ x. ChannelGoesOn (is_ephemeral_channel t.name (f k).name) x (f k)) (some_is k from (sym e ∙ subst (λ n. channel_of t n ≡ Some from) ((good k).0 ∙ sym named) h)) ((good k).1 (is_ephemeral_channel t.name (f k).name))),
    )

emptied_on : (s : State) (topic : List ℕ) (channel : Option (List ℕ)) → StateGoesOn s (emptied s topic channel)
emptied_on s topic None = changed_on (λ (t : Topic). record t { waiting = [] }) s topic (λ t. (refl, topic_same t (record t { waiting = [] }) refl)) (topic_of s topic) refl
emptied_on s topic (Some channel) =
    changed_on (channel_changed (λ (k : Channel). record k { copies = emptied_all k.copies }) channel) s topic
    (λ t. channel_changed_on (λ (k : Channel). record k { copies = emptied_all k.copies }) channel t (λ k. (refl, λ ephemeral. channel_emptied ephemeral k)) (channel_of t channel) refl) (topic_of s topic) refl

paused_on : (on : Bool) (s : State) (topic : List ℕ) (channel : Option (List ℕ)) → StateGoesOn s (set_paused on s topic channel)
paused_on on s topic None = changed_on (λ (t : Topic). record t { paused = on }) s topic (λ t. (refl, topic_same t (record t { paused = on }) refl)) (topic_of s topic) refl
paused_on on s topic (Some channel) =
    changed_on (channel_changed (λ (k : Channel). record k { paused = on }) channel) s topic
    (λ t. channel_changed_on (λ (k : Channel). record k { paused = on }) channel t (λ k. (refl, λ ephemeral. channel_same ephemeral k (record k { paused = on }) refl)) (channel_of t channel) refl) (topic_of s topic) refl

-- a client that goes
either_on : (s : State) (b : Bool) (t u : State) → StateGoesOn s t → StateGoesOn s u → StateGoesOn s (if b then t else u)
either_on s true t u a c = a
either_on s false t u a c = c

left_on : (s : State) (route : Route) → StateGoesOn s (left_channel s route)
left_on s route =
    either_on s (is_ephemeral_channel route.topic route.channel && is_empty (clients_of s route.topic route.channel)) (deleted_channel s route.topic route.channel) s
    (fewer_on s (deleted_channel s route.topic route.channel) (fewer_deleted s route.topic route.channel)) (state_same s s refl)

left_by_on : (s : State) (phase : Phase) (route : Option Route) → StateGoesOn s (left_by s phase route)
left_by_on s phase None = state_same s s refl
left_by_on s Lost (Some route) = state_same s s refl
left_by_on s Fresh (Some route) = left_on s route
left_by_on s Subscribed (Some route) = left_on s route
left_by_on s Closing (Some route) = left_on s route

gone_on : (s : State) (number : ℕ) (c : Option Client) → StateGoesOn s (gone_client s number c)
gone_on s number None = state_same s s refl
gone_on s number (Some c) =
    let u : State = record s { clients = without_client s.clients number } in
    from_same s u (left_by u c.phase c.route) refl (left_by_on u c.phase c.route)

client_on : (f : Client → Client) (s : State) (c : Option Client) → StateGoesOn s (changed_client f s c)
client_on f s None = state_same s s refl
client_on f s (Some c) = state_same s (with_client s (f c)) refl

identity_on : (s : State) (at : ℕ) (c : Client) (i : Option Identity) → StateGoesOn s (with_identity s at c i)
identity_on s at c None = state_same s s refl
identity_on s at c (Some i) = state_same s (with_identity s at c (Some i)) refl

-- the same state
on_is : (s t u : State) → u ≡ t → StateGoesOn s t → StateGoesOn s u
on_is s t u e a = subst (λ x. StateGoesOn s x) (sym e) a

-- a row at a client's channel
own_on : (c : Client) (Row : Channel → Channel → Type 0) (f : Client → Client) (s s' : State) → ((route : Route) → c.route ≡ Some route → (k k' : Channel) → Row k k' → (k'.name ≡ k.name) × ChannelGoesOn (is_ephemeral_channel route.topic route.channel) k k') → AtOwn c Row f s s' → StateGoesOn s s'
own_on c Row f s s' good a =
    onto s a.between s' (at_channel a.route.topic a.route.channel Row s a.between (good a.route a.on) a.channel) (ap (λ (x : State). x.topics) a.is)

same_room : (s : State) (o : Option Route) (route : Route) → o ≡ Some route → own_room s o ≡ room_of s route.topic route.channel
same_room s o route e = ap (own_room s) e

carries_on : (s t : State) (at : ℕ) (c : Client) (command : Command) → CarriesOut s at c command t → StateGoesOn s t
carries_on s t at c (Identify body) d = on_is s (with_identity s at c (identity_of s.options body)) t d (identity_on s at c (identity_of s.options body))
carries_on s t at c (Sub topic channel) d = onto s (made_channel s topic channel) t (made_on s topic (Some channel)) (ap (λ (x : State). x.topics) d)
carries_on s t at c (Pub topic body) d = on_is s (published s at 0 topic (body ∷ [])) t d (published_on s at 0 topic (body ∷ []))
carries_on s t at c (Mpub topic bodies) d = on_is s (published s at 0 topic bodies) t d (published_on s at 0 topic bodies)
carries_on s t at c (Dpub topic delay body) d = on_is s (published s at (span_of delay) topic (body ∷ [])) t d (published_on s at (span_of delay) topic (body ∷ []))
carries_on s t at c (Rdy count) d = state_same s t (ap (λ (x : State). x.topics) d)
carries_on s t at c (Fin id) d = own_on c (Finishes Moves c.number id) _ s t (λ route e k k' r. (ap (λ (x : Channel). x.name) r.is, finishes_on (room_of s route.topic route.channel) k k' c.number id r)) d
carries_on s t at c (Req id delay) d =
    own_on c (GivesBack Moves (own_room s c.route) c.number id at (requeue_delay s.options delay)) _ s t
    (λ route e k k' r. (ap (λ (x : Channel). x.name) r.is, subst (λ room. ChannelGoesOn room.ephemeral k k') (same_room s c.route route e) (gives_on (own_room s c.route) k k' c.number id at (requeue_delay s.options delay) r))) d
carries_on s t at c (Touch id) d = own_on c (Touches Moves c.number id at c.timeout s.options.max_msg_timeout) _ s t (λ route e k k' r. (ap (λ (x : Channel). x.name) r.is, touches_on (room_of s route.topic route.channel) k k' c.number id at c.timeout s.options.max_msg_timeout r)) d
carries_on s t at c Cls d = state_same s t (ap (λ (x : State). x.topics) d)
carries_on s t at c Nop d = state_same s t (ap (λ (x : State). x.topics) d)

command_on : (s t : State) (at : ℕ) (c : Client) (command : Command) (refused : Bool) → DoesCommand s at c command refused t → StateGoesOn s t
command_on s t at c command true d = state_same s t (ap (λ (x : State). x.topics) d)
command_on s t at c command false d = from_same s (with_client s (spoke at c)) t refl (carries_on (with_client s (spoke at c)) t at (spoke at c) command d)

carried_on : (s : State) (at : ℕ) (a : Ask) → StateGoesOn s (carried_out s at a)
carried_on s at (ask.Publish topic delay bodies) = published_on s at delay topic bodies
carried_on s at (ask.Stats topic channel) = state_same s s refl
carried_on s at (ask.Create topic channel) = made_on s topic channel
carried_on s at (ask.Delete topic channel) = deleted_on s topic channel
carried_on s at (ask.Empty topic channel) = emptied_on s topic channel
carried_on s at (ask.Pause topic channel) = paused_on true s topic channel
carried_on s at (ask.Unpause topic channel) = paused_on false s topic channel

broken_on : (s : State) (a : Ask) (count : ℕ) → StateGoesOn s (broken_off s a count)
broken_on s (ask.Delete topic None) count = let cs = take count (channels_in (topic_of s topic)) in fewer_on s (deleted_channels s topic cs) (fewer_channels topic cs s s (fewer_itself s s refl))
broken_on s (ask.Delete topic (Some channel)) count = state_same s s refl
broken_on s (ask.Publish topic delay bodies) count = state_same s s refl
broken_on s (ask.Stats topic channel) count = state_same s s refl
broken_on s (ask.Create topic channel) count = state_same s s refl
broken_on s (ask.Empty topic channel) count = state_same s s refl
broken_on s (ask.Pause topic channel) count = state_same s s refl
broken_on s (ask.Unpause topic channel) count = state_same s s refl

asked_on : (s : State) (at : ℕ) (a : Ask) (answer : Said) (end : End) → StateGoesOn s (asked_state s at a answer end)
asked_on s at a answer Done = either_on s (is_done answer) (carried_out s at a) s (carried_on s at a) (state_same s s refl)
asked_on s at a answer (Faulted count) = broken_on s a count
asked_on s at a answer Skip = state_same s s refl

copied_on : (s : State) (topic channel : List ℕ) (at : ℕ) (m : Message) (t t' : Topic) → topic ≡ t.name → Copies (room_of s topic channel) at channel m t t' → (t'.name ≡ t.name) × TopicGoesOn t t'
copied_on s topic channel at m t t' named r =
    let on : TopicGoesOn t r.between = in_channel channel _ t r.between (λ k k' q. (ap (λ (x : Channel). x.name) q.is, subst (λ n. ChannelGoesOn (is_ephemeral_channel n channel) k k') named (gets_on (room_of s topic channel) k k' at m q))) r.gets in (
      ap (λ (x : Topic). x.name) r.is ∙ ap (λ (x : Topic). x.name) r.gets.is,
      record { channels = λ name k k' e e'. on.channels name k k' e (ap (λ cs. find (λ (c : Channel). bytes_eq name c.name) cs) (sym (ap (λ (x : Topic). x.channels) r.is)) ∙ e') },
    )

move_on : (s t : State) (at : ℕ) (act : Act) → DoesMove s at act t → StateGoesOn s t
move_on s t at (Took topic m names) d = at_topic topic _ s t (λ x y e r. (ap (λ (z : Topic). z.name) r.is, topic_same x y (ap (λ (z : Topic). z.channels) r.is))) d
move_on s t at (Copied topic channel m) d =
    at_topic topic _ s t (λ x y e r. copied_on s topic channel at m x y (exact_bytes topic x.name (find_passes (λ (z : Topic). bytes_eq topic z.name) s.topics x e)) r) d
move_on s t at (TimedOut topic channel id) d = at_channel topic channel _ s t (λ k k' r. (ap (λ (x : Channel). x.name) r.is, times_on (room_of s topic channel) k k' id at r)) d
move_on s t at (CameDue topic channel id) d = at_channel topic channel _ s t (λ k k' r. (ap (λ (x : Channel). x.name) r.is, comes_on (room_of s topic channel) k k' id at r)) d
move_on s t at (HeldBack topic channel id) d = at_channel topic channel _ s t (λ k k' r. (ap (λ (x : Channel). x.name) r.is, holds_on (room_of s topic channel) k k' id (at + s.options.msg_timeout) r)) d
move_on s t at Began d = absurd d
move_on s t at (Did command r) d = absurd d
move_on s t at (Refused fault frame) d = absurd d
move_on s t at (Sent m) d = absurd d
move_on s t at Beat d = absurd d
move_on s t at Idle d = absurd d
move_on s t at Silent d = absurd d
move_on s t at Dropped d = absurd d
move_on s t at Gone d = absurd d
move_on s t at (Asked a answer) d = absurd d
move_on s t at (Listed names) d = absurd d
move_on s t at Ticked d = absurd d
move_on s t at Stop d = absurd d
move_on s t at (Stuck topic channel) d = absurd d

moved_on : (s t : State) (at : ℕ) (act : Act) (end : End) → DoesMoveTo s at act end t → StateGoesOn s t
moved_on s t at act Done d = move_on s t at act d
moved_on s t at act (Faulted n) d = state_same s t (ap (λ (x : State). x.topics) d)
moved_on s t at act Skip d = state_same s t (ap (λ (x : State). x.topics) d)

act_on : (s t : State) (at n : ℕ) (act : Act) (end : End) → DoesAct s at n act end t → StateGoesOn s t
act_on s t at n Began end d = state_same s t (ap (λ (x : State). x.topics) d)
act_on s t at n (Did command r) end d = command_on s t at d.client command (is_kept_off r end) d.does
act_on s t at n (Refused fault frame) end d = state_same s t (ap (λ (x : State). x.topics) d)
act_on s t at n (Sent m) end d = own_on d.client (Sends Moves n at d.client.timeout m) _ s t (λ route e k k' r. (ap (λ (x : Channel). x.name) r.is, sends_on (room_of s route.topic route.channel) k k' n at d.client.timeout m r)) d.sends
act_on s t at n Beat end d = on_is s (at_client _ s n) t d (client_on _ s (client_of s n))
act_on s t at n Idle end d = state_same s t (ap (λ (x : State). x.topics) d)
act_on s t at n Silent end d = state_same s t (ap (λ (x : State). x.topics) d)
act_on s t at n Dropped end d = state_same s t (ap (λ (x : State). x.topics) d)
act_on s t at n Gone end d = on_is s (gone s n) t d (gone_on s n (client_of s n))
act_on s t at n (Asked b answer) end d = on_is s (asked_state s at b answer end) t d (asked_on s at b answer end)
act_on s t at n (Listed names) end d = state_same s t (ap (λ (x : State). x.topics) d)
act_on s t at n Ticked end d = state_same s t (ap (λ (x : State). x.topics) d)
act_on s t at n Stop end d = state_same s t (ap (λ (x : State). x.topics) d)
act_on s t at n (Stuck topic channel) end d = state_same s t (ap (λ (x : State). x.topics) d)
act_on s t at n (Took topic m names) end d = moved_on s t at (Took topic m names) end d
act_on s t at n (Copied topic channel m) end d = moved_on s t at (Copied topic channel m) end d
act_on s t at n (TimedOut topic channel id) end d = moved_on s t at (TimedOut topic channel id) end d
act_on s t at n (CameDue topic channel id) end d = moved_on s t at (CameDue topic channel id) end d
act_on s t at n (HeldBack topic channel id) end d = moved_on s t at (HeldBack topic channel id) end d

step_on : (s t : State) (e : Entry × End) → Step s e t → StateGoesOn s t
step_on s t e a = onto s a.between t (act_on s a.between e.0.at e.0.conn e.0.act e.1 a.does) (ap (λ (x : State). x.topics) a.is)

-- what is found of a channel is found in its topic
pub record IsAt (s : State) (topic channel : List ℕ) (k : Channel) : Type 0 where
  pub t : Topic
  pub there : topic_of s topic ≡ Some t
  pub has : channel_of t channel ≡ Some k

at_from : (s : State) (topic channel : List ℕ) (k : Channel) (o : Option Topic) → topic_of s topic ≡ o → option_and_then (λ t. channel_of t channel) o ≡ Some k → IsAt s topic channel k
at_from s topic channel k None e h = none_some k h
at_from s topic channel k (Some t) e h = record { t = t; there = e; has = h }

pub copies_on : (s t : State) (e : Entry × End) (topic channel : List ℕ) (k k' : Channel) → Step s e t → channel_at s topic channel ≡ Some k → channel_at t topic channel ≡ Some k' → ChannelGoesOn (is_ephemeral_channel topic channel) k k'
copies_on s t e topic channel k k' step h h' =
    let a = at_from s topic channel k (topic_of s topic) refl h in
    let b = at_from t topic channel k' (topic_of t topic) refl h' in
    let named : a.t.name ≡ topic = sym (exact_bytes topic a.t.name (find_passes (λ (x : Topic). bytes_eq topic x.name) s.topics a.t a.there)) in
    subst (λ n. ChannelGoesOn (is_ephemeral_channel n channel) k k') named (((step_on s t e step).topics topic a.t b.t a.there b.there).channels channel k k' a.has b.has)
