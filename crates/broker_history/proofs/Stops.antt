-- A legal history has one Stop at most.
use Rattle.std.proofs.Common.{◌≡◌, ℕ, ◌≤◌, ◌+◌, Bool, true, false, not, ◌&&◌, if◌then◌else◌, List, [], ◌∷◌, ◌++◌, Option, None, Some, is_some, map, take, refl, sym, ap, ◌∙◌, arith}
use Rattle.nsq_outside.specs.declared.journal.End.{End}
use Rattle.nsq_outside.specs.declared.journal.End.TheVariants.{Done, Faulted, Skip}
use Rattle.v2_frame.specs.declared.command.Command.{Command}
use Rattle.v2_frame.specs.declared.command.Command.TheVariants.{Identify, Sub, Pub, Mpub, Dpub, Rdy, Fin, Req, Touch, Cls, Nop}
use Rattle.broker_history.specs.declared.ask.Ask.{Ask}
use Rattle.broker_history.specs.declared.ask.Ask.TheVariants as ask
use Rattle.broker_history.specs.declared.ask.Said.{Said}
use Rattle.broker_history.specs.declared.entry.Act.{Act}
use Rattle.broker_history.specs.declared.entry.Act.TheVariants.{Began, Did, Refused, Sent, Beat, Idle, Silent, Dropped, Gone, Asked, Listed, Ticked, Stop, Took, Copied, TimedOut, CameDue, HeldBack, Stuck}
use Rattle.broker_history.specs.declared.entry.Entry.{Entry}
use Rattle.broker_history.specs.State.{State, Topic, Channel, Client, Phase, Fresh, Subscribed, Closing, Lost, Route, is_empty, topic_of, channel_of, client_of, with_topic, without_client, clients_of, is_ephemeral_channel}
use Rattle.nsq_base.specs.Name.{is_ephemeral}
use Rattle.broker_history.specs.Changes.{made, lost, with_fewer, without_topic, without_channel, deleted_in, deleted_channel, deleted_channels, deleted, channels_in, topic_changed, emptied, set_paused, left_channel, left_by, gone_client, gone, AtTopic, at_client, changed_client}
use Rattle.broker_history.specs.Identify.{Identity, identity_of}
use Rattle.broker_history.specs.Step.{AtOwn, CarriesOut, DoesCommand, DoesMove, DoesMoveTo, DoesAct, IsAllowedAct, Step, with_identity, carried_out, broken_off, asked_state, is_done, is_kept_off}
use Rattle.broker_history.specs.Entries.{History, is_stop, stops_of, is_faulted, faults_of, faults_apart}
use Rattle.broker_history.specs.Legal.{Legal}
use Rattle.broker_history.proofs.Histories.{Runs, runs_from_legal}

-- the second state stopped where the first did
abbrev Same : State → State → Type 0
Same s t = t.stopped ≡ s.stopped

either_same : (b : Bool) (s t u : State) → Same s t → Same s u → Same s (if b then t else u)
either_same true s t u a c = a
either_same false s t u a c = c

is_same : (s t u : State) → u ≡ t → Same s t → Same s u
is_same s t u e a = ap (λ (x : State). x.stopped) e ∙ a

made_same : (s : State) (topic : List ℕ) (channel : Option (List ℕ)) → Same s (made s topic channel)
made_same s topic None = refl
made_same s topic (Some channel) = refl

fewer_same : (s : State) (t : Topic) → Same s (with_fewer s t)
fewer_same s t = either_same (is_ephemeral t.name && is_empty t.channels) s (without_topic s t.name) (with_topic s t) refl refl

deleted_in_same : (s : State) (channel : List ℕ) (t : Option Topic) → Same s (deleted_in s channel t)
deleted_in_same s channel None = refl
deleted_in_same s channel (Some t) =
    let u : State = record s { clients = map (lost t.name channel) s.clients } in
    either_same (is_some (channel_of t channel)) s (with_fewer u (without_channel t channel)) s (fewer_same u (without_channel t channel)) refl

deleted_channels_same : (topic : List ℕ) (channels : List (List ℕ)) (s u : State) → Same s u → Same s (deleted_channels u topic channels)
deleted_channels_same topic [] s u a = a
deleted_channels_same topic (c ∷ cs) s u a = deleted_channels_same topic cs s (deleted_channel u topic c) (deleted_in_same u c (topic_of u topic) ∙ a)

deleted_same : (s : State) (topic : List ℕ) (channel : Option (List ℕ)) → Same s (deleted s topic channel)
deleted_same s topic None = deleted_channels_same topic (channels_in (topic_of s topic)) s s refl
deleted_same s topic (Some channel) = deleted_in_same s channel (topic_of s topic)

changed_same : (f : Topic → Topic) (s : State) (t : Option Topic) → Same s (topic_changed f s t)
changed_same f s None = refl
changed_same f s (Some t) = refl

emptied_same : (s : State) (topic : List ℕ) (channel : Option (List ℕ)) → Same s (emptied s topic channel)
emptied_same s topic None = changed_same _ s (topic_of s topic)
emptied_same s topic (Some channel) = changed_same _ s (topic_of s topic)

paused_same : (on : Bool) (s : State) (topic : List ℕ) (channel : Option (List ℕ)) → Same s (set_paused on s topic channel)
paused_same on s topic None = changed_same _ s (topic_of s topic)
paused_same on s topic (Some channel) = changed_same _ s (topic_of s topic)

left_same : (s : State) (route : Route) → Same s (left_channel s route)
left_same s route = either_same (is_ephemeral_channel route.topic route.channel && is_empty (clients_of s route.topic route.channel)) s (deleted_channel s route.topic route.channel) s (deleted_in_same s route.channel (topic_of s route.topic)) refl

left_by_same : (s : State) (phase : Phase) (route : Option Route) → Same s (left_by s phase route)
left_by_same s phase None = refl
left_by_same s Lost (Some route) = refl
left_by_same s Fresh (Some route) = left_same s route
left_by_same s Subscribed (Some route) = left_same s route
left_by_same s Closing (Some route) = left_same s route

gone_same : (s : State) (number : ℕ) (c : Option Client) → Same s (gone_client s number c)
gone_same s number None = refl
gone_same s number (Some c) = left_by_same (record s { clients = without_client s.clients number }) c.phase c.route

client_same : (f : Client → Client) (s : State) (c : Option Client) → Same s (changed_client f s c)
client_same f s None = refl
client_same f s (Some c) = refl

at_topic_same : {name : List ℕ} {Row : Topic → Topic → Type 0} (s t : State) → AtTopic name Row s t → Same s t
at_topic_same s t a = ap (λ (x : State). x.stopped) a.is

own_same : {c : Client} {Row : Channel → Channel → Type 0} {f : Client → Client} (s t : State) → AtOwn c Row f s t → Same s t
own_same s t a = ap (λ (x : State). x.stopped) a.is ∙ at_topic_same s a.between a.channel

identity_same : (s : State) (at : ℕ) (c : Client) (i : Option Identity) → Same s (with_identity s at c i)
identity_same s at c None = refl
identity_same s at c (Some i) = refl

carries_same : (s t : State) (at : ℕ) (c : Client) (command : Command) → CarriesOut s at c command t → Same s t
carries_same s t at c (Identify body) d = is_same s (with_identity s at c (identity_of s.options body)) t d (identity_same s at c (identity_of s.options body))
carries_same s t at c (Sub topic channel) d = ap (λ (x : State). x.stopped) d
carries_same s t at c (Pub topic body) d = ap (λ (x : State). x.stopped) d
carries_same s t at c (Mpub topic bodies) d = ap (λ (x : State). x.stopped) d
carries_same s t at c (Dpub topic delay body) d = ap (λ (x : State). x.stopped) d
carries_same s t at c (Rdy count) d = ap (λ (x : State). x.stopped) d
carries_same s t at c (Fin id) d = own_same s t d
carries_same s t at c (Req id delay) d = own_same s t d
carries_same s t at c (Touch id) d = own_same s t d
carries_same s t at c Cls d = ap (λ (x : State). x.stopped) d
carries_same s t at c Nop d = ap (λ (x : State). x.stopped) d

command_same : (s t : State) (at : ℕ) (c : Client) (command : Command) (refused : Bool) → DoesCommand s at c command refused t → Same s t
command_same s t at c command true d = ap (λ (x : State). x.stopped) d
command_same s t at c command false d = carries_same _ t at _ command d

carried_same : (s : State) (at : ℕ) (a : Ask) → Same s (carried_out s at a)
carried_same s at (ask.Publish topic delay bodies) = refl
carried_same s at (ask.Stats topic channel) = refl
carried_same s at (ask.Create topic channel) = made_same s topic channel
carried_same s at (ask.Delete topic channel) = deleted_same s topic channel
carried_same s at (ask.Empty topic channel) = emptied_same s topic channel
carried_same s at (ask.Pause topic channel) = paused_same true s topic channel
carried_same s at (ask.Unpause topic channel) = paused_same false s topic channel

broken_same : (s : State) (a : Ask) (count : ℕ) → Same s (broken_off s a count)
broken_same s (ask.Delete topic None) count = deleted_channels_same topic (take count (channels_in (topic_of s topic))) s s refl
broken_same s (ask.Delete topic (Some channel)) count = refl
broken_same s (ask.Publish topic delay bodies) count = refl
broken_same s (ask.Stats topic channel) count = refl
broken_same s (ask.Create topic channel) count = refl
broken_same s (ask.Empty topic channel) count = refl
broken_same s (ask.Pause topic channel) count = refl
broken_same s (ask.Unpause topic channel) count = refl

asked_same : (s : State) (at : ℕ) (a : Ask) (answer : Said) (end : End) → Same s (asked_state s at a answer end)
asked_same s at a answer Done = either_same (is_done answer) s (carried_out s at a) s (carried_same s at a) refl
asked_same s at a answer (Faulted count) = broken_same s a count
asked_same s at a answer Skip = refl

move_same : (s t : State) (at : ℕ) (act : Act) → DoesMove s at act t → Same s t
move_same s t at (Took topic m names) d = at_topic_same s t d
move_same s t at (Copied topic channel m) d = at_topic_same s t d
move_same s t at (TimedOut topic channel id) d = at_topic_same s t d
move_same s t at (CameDue topic channel id) d = at_topic_same s t d
move_same s t at (HeldBack topic channel id) d = at_topic_same s t d
move_same s t at Began d = absurd d
move_same s t at (Did command r) d = absurd d
move_same s t at (Refused fault frame) d = absurd d
move_same s t at (Sent m) d = absurd d
move_same s t at Beat d = absurd d
move_same s t at Idle d = absurd d
move_same s t at Silent d = absurd d
move_same s t at Dropped d = absurd d
move_same s t at Gone d = absurd d
move_same s t at (Asked a answer) d = absurd d
move_same s t at (Listed names) d = absurd d
move_same s t at Ticked d = absurd d
move_same s t at Stop d = absurd d
move_same s t at (Stuck topic channel) d = absurd d

moved_same : (s t : State) (at : ℕ) (act : Act) (end : End) → DoesMoveTo s at act end t → Same s t
moved_same s t at act Done d = move_same s t at act d
moved_same s t at act (Faulted n) d = ap (λ (x : State). x.stopped) d
moved_same s t at act Skip d = ap (λ (x : State). x.stopped) d

-- 1 where the daemon stopped
stops : Bool → ℕ
stops b = if b then 1 else 0

-- what an act that isn't a Stop leaves
stays : (a b : Bool) → b ≡ a → stops a + stops false ≡ stops b
unfolding stops
stays true b e = rw e refl
stays false b e = rw e refl

-- what a Stop leaves
stopping : (a b : Bool) → a ≡ false → b ≡ true → stops a + stops true ≡ stops b
unfolding stops
stopping a b e f = rw (e, f) refl

-- a Stop is allowed before another alone
stop_allowed : (s : State) (end : End) → IsAllowedAct s 0 0 Stop end → s.stopped ≡ false
stop_allowed s Done a = a
stop_allowed s (Faulted n) a = absurd a
stop_allowed s Skip a = absurd a

-- what was stopped and whether the act is a Stop tell together whether it is stopped behind the act
act_stopped : (s t : State) (at n : ℕ) (act : Act) (end : End) → IsAllowedAct s at n act end → DoesAct s at n act end t → stops s.stopped + stops (is_stop act) ≡ stops t.stopped
act_stopped s t at n Began end a d = stays s.stopped t.stopped (ap (λ (x : State). x.stopped) d)
act_stopped s t at n (Did command r) end a d = stays s.stopped t.stopped (command_same s t at d.client command (is_kept_off r end) d.does)
act_stopped s t at n (Refused fault frame) end a d = stays s.stopped t.stopped (ap (λ (x : State). x.stopped) d)
act_stopped s t at n (Sent m) end a d = stays s.stopped t.stopped (own_same s t d.sends)
act_stopped s t at n Beat end a d = stays s.stopped t.stopped (is_same s (at_client _ s n) t d (client_same _ s (client_of s n)))
act_stopped s t at n Idle end a d = stays s.stopped t.stopped (ap (λ (x : State). x.stopped) d)
act_stopped s t at n Silent end a d = stays s.stopped t.stopped (ap (λ (x : State). x.stopped) d)
act_stopped s t at n Dropped end a d = stays s.stopped t.stopped (ap (λ (x : State). x.stopped) d)
act_stopped s t at n Gone end a d = stays s.stopped t.stopped (is_same s (gone s n) t d (gone_same s n (client_of s n)))
act_stopped s t at n (Asked b answer) end a d = stays s.stopped t.stopped (is_same s (asked_state s at b answer end) t d (asked_same s at b answer end))
act_stopped s t at n (Listed names) end a d = stays s.stopped t.stopped (ap (λ (x : State). x.stopped) d)
act_stopped s t at n Ticked end a d = stays s.stopped t.stopped (ap (λ (x : State). x.stopped) d)
act_stopped s t at n Stop end a d = stopping s.stopped t.stopped (stop_allowed s end a) (ap (λ (x : State). x.stopped) d)
act_stopped s t at n (Stuck topic channel) end a d = stays s.stopped t.stopped (ap (λ (x : State). x.stopped) d)
act_stopped s t at n (Took topic m names) end a d = stays s.stopped t.stopped (moved_same s t at (Took topic m names) end d)
act_stopped s t at n (Copied topic channel m) end a d = stays s.stopped t.stopped (moved_same s t at (Copied topic channel m) end d)
act_stopped s t at n (TimedOut topic channel id) end a d = stays s.stopped t.stopped (moved_same s t at (TimedOut topic channel id) end d)
act_stopped s t at n (CameDue topic channel id) end a d = stays s.stopped t.stopped (moved_same s t at (CameDue topic channel id) end d)
act_stopped s t at n (HeldBack topic channel id) end a d = stays s.stopped t.stopped (moved_same s t at (HeldBack topic channel id) end d)

step_stopped : (s u : State) (e : Entry × End) → Step s e u → stops s.stopped + stops (is_stop e.0.act) ≡ stops u.stopped
step_stopped s u e a = act_stopped s a.between e.0.at e.0.conn e.0.act e.1 a.allowed a.does ∙ ap (λ (x : State). stops x.stopped) (sym a.is)

-- the Stops of one more entry
stops_of-cons : (e : Entry × End) (h : History) (b : Bool) → is_stop e.0.act ≡ b → stops_of (e ∷ h) ≡ stops b + stops_of h
unfolding stops
stops_of-cons e h true is = rw is (omega arith)
stops_of-cons e h false is = rw is (omega arith)

stops_small : (b : Bool) → stops b ≤ 1
unfolding stops
stops_small true = omega arith
stops_small false = omega arith

-- what was stopped before and the Stops of a history are one at most
run_stops : (front : History) (s u : State) (h : History) → Runs front s h u → stops s.stopped + stops_of h ≤ 1
unfolding Runs
run_stops front s u [] r = omega (arith, stops_small s.stopped)
run_stops front s u (e ∷ h) r = omega (arith, step_stopped s r.0 e r.2, run_stops (front ++ e ∷ []) r.0 u h r.3, stops_of-cons e h (is_stop e.0.act) refl)

pub stops_once : (s u : State) (h : History) → Legal s h u → stops_of h ≤ 1
stops_once s u h a = omega (arith, run_stops [] s u h (runs_from_legal a))

-- the faults of one more entry
faults_of-cons : (e : Entry × End) (h : History) (b : Bool) → is_faulted e.1 ≡ b → faults_of (e ∷ h) ≡ stops b + faults_of h
unfolding stops
faults_of-cons e h true is = rw is (omega arith)
faults_of-cons e h false is = rw is (omega arith)

-- an entry's fault counts apart from a Stop, or the next entry is a Stop
apart_one : (faulted stop : Bool) → (stops (faulted && not stop) ≤ stops faulted) × (stops faulted ≤ stops (faulted && not stop) + stops stop)
unfolding stops
apart_one true true = (omega arith, omega arith)
apart_one true false = (omega arith, omega arith)
apart_one false true = (omega arith, omega arith)
apart_one false false = (omega arith, omega arith)

-- each fault counts apart from a Stop, or has a Stop of its own behind it
faults_bound : (e : Entry × End) (h : History) → (faults_apart (e ∷ h) ≤ faults_of (e ∷ h)) × (faults_of (e ∷ h) ≤ faults_apart (e ∷ h) + stops_of h)
unfolding stops
faults_bound e [] = let a = faults_of-cons e [] (is_faulted e.1) refl in (omega arith, omega arith)
faults_bound e (f ∷ h) =
    let a = faults_of-cons e (f ∷ h) (is_faulted e.1) refl in
    let b = apart_one (is_faulted e.1) (is_stop f.0.act) in
    let c = stops_of-cons f h (is_stop f.0.act) refl in
    let d = faults_bound f h in
    (omega arith, omega arith)

pub faults_but_one : (s u : State) (h : History) → Legal s h u → (faults_apart h ≤ faults_of h) × (faults_of h ≤ faults_apart h + 1)
faults_but_one s u [] a = (omega arith, omega arith)
faults_but_one s u (e ∷ h) a =
    let b = faults_bound e h in
    let c = stops_of-cons e h (is_stop e.0.act) refl in
    let d = stops_once s u (e ∷ h) a in
    (omega arith, omega arith)
