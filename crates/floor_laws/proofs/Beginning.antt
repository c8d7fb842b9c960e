-- Whether a connection ever began is told by its own entries.
use Rattle.std.proofs.Common.{◌≡◌, ℕ, ◌==◌, Bool, true, false, not, ◌&&◌, ◌||◌, if◌then◌else◌, List, [], ◌∷◌, ◌++◌, Option, None, Some, is_some, map, take, refl, sym, ap, ◌∙◌}
use Rattle.std.specs.List.{list_any}
use Rattle.std.proofs.lemmas.List.Folds.{list_any-append}
use Rattle.nsq_outside.specs.declared.journal.End.{End}
use Rattle.nsq_outside.specs.declared.journal.End.TheVariants.{Done, Faulted, Skip}
use Rattle.v2_frame.specs.declared.command.Command.{Command}
use Rattle.v2_frame.specs.declared.command.Command.TheVariants.{Identify, Sub, Pub, Mpub, Dpub, Rdy, Fin, Req, Touch, Cls, Nop}
use Rattle.broker_history.specs.declared.ask.Ask.{Ask}
use Rattle.broker_history.specs.declared.ask.Ask.TheVariants as ask
use Rattle.broker_history.specs.declared.ask.Said.{Said}
use Rattle.broker_history.specs.declared.entry.Act.{Act}
use Rattle.broker_history.specs.declared.entry.Act.TheVariants.{Began, Did, Refused, Sent, Beat, Idle, Silent, Dropped, Gone, Asked, Listed, Ticked, Stop, Took, Copied, TimedOut, CameDue, HeldBack, Stuck}
use Rattle.broker_history.specs.declared.entry.Entry.{Entry}
use Rattle.broker_history.specs.State.{State, Topic, Channel, Client, Phase, Fresh, Subscribed, Closing, Lost, Route, is_empty, has_begun, topic_of, channel_of, client_of, with_topic, without_client, clients_of, is_ephemeral_channel}
use Rattle.nsq_base.specs.Name.{is_ephemeral}
use Rattle.broker_history.specs.Changes.{made, lost, with_fewer, without_topic, without_channel, deleted_in, deleted_channel, deleted_channels, deleted, channels_in, topic_changed, emptied, set_paused, left_channel, left_by, gone_client, gone, AtTopic, at_client, changed_client}
use Rattle.broker_history.specs.Identify.{Identity, identity_of}
use Rattle.broker_history.specs.Step.{AtOwn, CarriesOut, DoesCommand, DoesMove, DoesMoveTo, DoesAct, Step, with_identity, carried_out, broken_off, asked_state, is_done, is_kept_off}
use Rattle.broker_history.specs.Entries.{History, own, is_own, is_began, is_common}
use Rattle.broker_history.specs.Legal.{Legal, none, more}
use Rattle.broker_history.proofs.Own.{own-append}
use Rattle.broker_history.specs.Calls.{has_began}

-- the second state had the same beginnings as the first
abbrev Same : State → State → Type 0
Same s t = t.began ≡ s.began

either_same : (b : Bool) (s t u : State) → Same s t → Same s u → Same s (if b then t else u)
either_same true s t u a c = a
either_same false s t u a c = c

is_same : (s t u : State) → u ≡ t → Same s t → Same s u
is_same s t u e a = ap (λ (x : State). x.began) e ∙ a

made_same : (s : State) (topic : List ℕ) (channel : Option (List ℕ)) → Same s (made s topic channel)
made_same s topic None = refl
made_same s topic (Some channel) = refl

fewer_same : (s : State) (t : Topic) → Same s (with_fewer s t)
fewer_same s t = either_same (is_ephemeral t.name && is_empty t.channels) s (without_topic s t.name) (with_topic s t) refl refl

deleted_in_same : (s : State) (channel : List ℕ) (t : Option Topic) → Same s (deleted_in s channel t)
deleted_in_same s channel None = refl
deleted_in_same s channel (Some t) =
    let u : State = record s { clients = map (lost t.name channel) s.clients } in
    either_same (is_some (channel_of t channel)) s (with_fewer u (without_channel t channel)) s (fewer_same u (without_channel t channel)) refl

deleted_channels_same : (topic : List ℕ) (channels : List (List ℕ)) (s u : State) → Same s u → Same s (deleted_channels u topic channels)
deleted_channels_same topic [] s u a = a
deleted_channels_same topic (c ∷ cs) s u a = deleted_channels_same topic cs s (deleted_channel u topic c) (deleted_in_same u c (topic_of u topic) ∙ a)

deleted_same : (s : State) (topic : List ℕ) (channel : Option (List ℕ)) → Same s (deleted s topic channel)
deleted_same s topic None = deleted_channels_same topic (channels_in (topic_of s topic)) s s refl
deleted_same s topic (Some channel) = deleted_in_same s channel (topic_of s topic)

changed_same : (f : Topic → Topic) (s : State) (t : Option Topic) → Same s (topic_changed f s t)
changed_same f s None = refl
changed_same f s (Some t) = refl

emptied_same : (s : State) (topic : List ℕ) (channel : Option (List ℕ)) → Same s (emptied s topic channel)
emptied_same s topic None = changed_same _ s (topic_of s topic)
emptied_same s topic (Some channel) = changed_same _ s (topic_of s topic)

paused_same : (on : Bool) (s : State) (topic : List ℕ) (channel : Option (List ℕ)) → Same s (set_paused on s topic channel)
paused_same on s topic None = changed_same _ s (topic_of s topic)
paused_same on s topic (Some channel) = changed_same _ s (topic_of s topic)

left_same : (s : State) (route : Route) → Same s (left_channel s route)
left_same s route = either_same (is_ephemeral_channel route.topic route.channel && is_empty (clients_of s route.topic route.channel)) s (deleted_channel s route.topic route.channel) s (deleted_in_same s route.channel (topic_of s route.topic)) refl

left_by_same : (s : State) (phase : Phase) (route : Option Route) → Same s (left_by s phase route)
left_by_same s phase None = refl
left_by_same s Lost (Some route) = refl
left_by_same s Fresh (Some route) = left_same s route
left_by_same s Subscribed (Some route) = left_same s route
left_by_same s Closing (Some route) = left_same s route

gone_same : (s : State) (number : ℕ) (c : Option Client) → Same s (gone_client s number c)
gone_same s number None = refl
gone_same s number (Some c) = left_by_same (record s { clients = without_client s.clients number }) c.phase c.route

client_same : (f : Client → Client) (s : State) (c : Option Client) → Same s (changed_client f s c)
client_same f s None = refl
client_same f s (Some c) = refl

at_topic_same : {name : List ℕ} {Row : Topic → Topic → Type 0} (s t : State) → AtTopic name Row s t → Same s t
at_topic_same s t a = ap (λ (x : State). x.began) a.is

own_same : {c : Client} {Row : Channel → Channel → Type 0} {f : Client → Client} (s t : State) → AtOwn c Row f s t → Same s t
own_same s t a = ap (λ (x : State). x.began) a.is ∙ at_topic_same s a.between a.channel

identity_same : (s : State) (at : ℕ) (c : Client) (i : Option Identity) → Same s (with_identity s at c i)
identity_same s at c None = refl
identity_same s at c (Some i) = refl

carries_same : (s t : State) (at : ℕ) (c : Client) (command : Command) → CarriesOut s at c command t → Same s t
carries_same s t at c (Identify body) d = is_same s (with_identity s at c (identity_of s.options body)) t d (identity_same s at c (identity_of s.options body))
carries_same s t at c (Sub topic channel) d = ap (λ (x : State). x.began) d
carries_same s t at c (Pub topic body) d = ap (λ (x : State). x.began) d
carries_same s t at c (Mpub topic bodies) d = ap (λ (x : State). x.began) d
carries_same s t at c (Dpub topic delay body) d = ap (λ (x : State). x.began) d
carries_same s t at c (Rdy count) d = ap (λ (x : State). x.began) d
carries_same s t at c (Fin id) d = own_same s t d
carries_same s t at c (Req id delay) d = own_same s t d
carries_same s t at c (Touch id) d = own_same s t d
carries_same s t at c Cls d = ap (λ (x : State). x.began) d
carries_same s t at c Nop d = ap (λ (x : State). x.began) d

command_same : (s t : State) (at : ℕ) (c : Client) (command : Command) (refused : Bool) → DoesCommand s at c command refused t → Same s t
command_same s t at c command true d = ap (λ (x : State). x.began) d
command_same s t at c command false d = carries_same _ t at _ command d

carried_same : (s : State) (at : ℕ) (a : Ask) → Same s (carried_out s at a)
carried_same s at (ask.Publish topic delay bodies) = refl
carried_same s at (ask.Stats topic channel) = refl
carried_same s at (ask.Create topic channel) = made_same s topic channel
carried_same s at (ask.Delete topic channel) = deleted_same s topic channel
carried_same s at (ask.Empty topic channel) = emptied_same s topic channel
carried_same s at (ask.Pause topic channel) = paused_same true s topic channel
carried_same s at (ask.Unpause topic channel) = paused_same false s topic channel

broken_same : (s : State) (a : Ask) (count : ℕ) → Same s (broken_off s a count)
broken_same s (ask.Delete topic None) count = deleted_channels_same topic (take count (channels_in (topic_of s topic))) s s refl
broken_same s (ask.Delete topic (Some channel)) count = refl
broken_same s (ask.Publish topic delay bodies) count = refl
broken_same s (ask.Stats topic channel) count = refl
broken_same s (ask.Create topic channel) count = refl
broken_same s (ask.Empty topic channel) count = refl
broken_same s (ask.Pause topic channel) count = refl
broken_same s (ask.Unpause topic channel) count = refl

asked_same : (s : State) (at : ℕ) (a : Ask) (answer : Said) (end : End) → Same s (asked_state s at a answer end)
asked_same s at a answer Done = either_same (is_done answer) s (carried_out s at a) s (carried_same s at a) refl
asked_same s at a answer (Faulted count) = broken_same s a count
asked_same s at a answer Skip = refl

move_same : (s t : State) (at : ℕ) (act : Act) → DoesMove s at act t → Same s t
move_same s t at (Took topic m names) d = at_topic_same s t d
move_same s t at (Copied topic channel m) d = at_topic_same s t d
move_same s t at (TimedOut topic channel id) d = at_topic_same s t d
move_same s t at (CameDue topic channel id) d = at_topic_same s t d
move_same s t at (HeldBack topic channel id) d = at_topic_same s t d
move_same s t at Began d = absurd d
move_same s t at (Did command r) d = absurd d
move_same s t at (Refused fault frame) d = absurd d
move_same s t at (Sent m) d = absurd d
move_same s t at Beat d = absurd d
move_same s t at Idle d = absurd d
move_same s t at Silent d = absurd d
move_same s t at Dropped d = absurd d
move_same s t at Gone d = absurd d
move_same s t at (Asked a answer) d = absurd d
move_same s t at (Listed names) d = absurd d
move_same s t at Ticked d = absurd d
move_same s t at Stop d = absurd d
move_same s t at (Stuck topic channel) d = absurd d

moved_same : (s t : State) (at : ℕ) (act : Act) (end : End) → DoesMoveTo s at act end t → Same s t
moved_same s t at act Done d = move_same s t at act d
moved_same s t at act (Faulted n) d = ap (λ (x : State). x.began) d
moved_same s t at act Skip d = ap (λ (x : State). x.began) d

-- the number began with this entry
abbrev begins : (m n : ℕ) → Act → Bool
begins m n act = (n == m) && is_began act

or_false : (b : Bool) → (b || false) ≡ b
or_false true = refl
or_false false = refl

or_and : (b : Bool) → (b || false) ≡ (b && true)
or_and true = refl
or_and false = refl

and_false : (b : Bool) → (b && false) ≡ false
and_false true = refl
and_false false = refl

or_or : (a b c : Bool) → ((a || b) || c) ≡ (a || (b || c))
or_or true b c = refl
or_or false b c = refl

-- an act that isn't a Began leaves them
stays : (s t : State) (m n : ℕ) (began : Bool) → began ≡ false → Same s t → has_begun t m ≡ (has_begun s m || ((n == m) && began))
stays s t m n began other same =
    ap (λ xs. list_any (λ k. k == m) xs) same ∙ sym (ap (λ b. has_begun s m || ((n == m) && b)) other ∙ ap (λ b. has_begun s m || b) (and_false (n == m)) ∙ or_false (has_begun s m))

-- who began, behind an act
act_begins : (s t : State) (at m n : ℕ) (act : Act) (end : End) → DoesAct s at n act end t → has_begun t m ≡ (has_begun s m || begins m n act)
act_begins s t at m n Began end d = ap (λ (x : State). has_begun x m) d ∙ list_any-append (λ k. k == m) s.began (n ∷ []) ∙ ap (λ b. has_begun s m || b) (or_and (n == m))
act_begins s t at m n (Did command r) end d = stays s t m n false refl (command_same s t at d.client command (is_kept_off r end) d.does)
act_begins s t at m n (Refused fault frame) end d = stays s t m n false refl (ap (λ (x : State). x.began) d)
act_begins s t at m n (Sent message) end d = stays s t m n false refl (own_same s t d.sends)
act_begins s t at m n Beat end d = stays s t m n false refl (is_same s (at_client _ s n) t d (client_same _ s (client_of s n)))
act_begins s t at m n Idle end d = stays s t m n false refl (ap (λ (x : State). x.began) d)
act_begins s t at m n Silent end d = stays s t m n false refl (ap (λ (x : State). x.began) d)
act_begins s t at m n Dropped end d = stays s t m n false refl (ap (λ (x : State). x.began) d)
act_begins s t at m n Gone end d = stays s t m n false refl (is_same s (gone s n) t d (gone_same s n (client_of s n)))
act_begins s t at m n (Asked b answer) end d = stays s t m n false refl (is_same s (asked_state s at b answer end) t d (asked_same s at b answer end))
act_begins s t at m n (Listed names) end d = stays s t m n false refl (ap (λ (x : State). x.began) d)
act_begins s t at m n Ticked end d = stays s t m n false refl (ap (λ (x : State). x.began) d)
act_begins s t at m n Stop end d = stays s t m n false refl (ap (λ (x : State). x.began) d)
act_begins s t at m n (Stuck topic channel) end d = stays s t m n false refl (ap (λ (x : State). x.began) d)
act_begins s t at m n (Took topic message names) end d = stays s t m n false refl (moved_same s t at (Took topic message names) end d)
act_begins s t at m n (Copied topic channel message) end d = stays s t m n false refl (moved_same s t at (Copied topic channel message) end d)
act_begins s t at m n (TimedOut topic channel id) end d = stays s t m n false refl (moved_same s t at (TimedOut topic channel id) end d)
act_begins s t at m n (CameDue topic channel id) end d = stays s t m n false refl (moved_same s t at (CameDue topic channel id) end d)
act_begins s t at m n (HeldBack topic channel id) end d = stays s t m n false refl (moved_same s t at (HeldBack topic channel id) end d)

-- a Began is no common entry
began_apart : (act : Act) (mine : Bool) → (if mine && not (is_common act) then is_began act || false else false) ≡ (mine && is_began act)
began_apart Began true = refl
began_apart (Stuck topic None) true = refl
began_apart (Stuck topic (Some channel)) true = refl
began_apart act true = refl
began_apart act false = refl

kept_one : (e : Entry × End) (b : Bool) → has_began (if b then e ∷ [] else []) ≡ (if b then is_began e.0.act || false else false)
kept_one e true = refl
kept_one e false = refl

-- who began by one entry
one_begins : (m : ℕ) (e : Entry × End) → has_began (own m (e ∷ [])) ≡ begins m e.0.conn e.0.act
one_begins m e = kept_one e (is_own m e) ∙ began_apart e.0.act (e.0.conn == m)

began-append : (m : ℕ) (h k : History) → has_began (own m (h ++ k)) ≡ (has_began (own m h) || has_began (own m k))
began-append m h k = ap has_began (own-append m h k) ∙ list_any-append (λ e. is_began e.0.act) (own m h) (own m k)

step_begins : (s u : State) (m : ℕ) (e : Entry × End) → Step s e u → has_begun u m ≡ (has_begun s m || has_began (own m (e ∷ [])))
step_begins s u m e a = ap (λ (x : State). has_begun x m) a.is ∙ act_begins s a.between e.0.at m e.0.conn e.0.act e.1 a.does ∙ ap (λ b. has_begun s m || b) (sym (one_begins m e))

pub legal_begins : {s t : State} {h : History} (m : ℕ) → Legal s h t → has_begun t m ≡ (has_begun s m || has_began (own m h))
legal_begins {s} m none = sym (or_false (has_begun s m))
legal_begins {s} m (more {t = t} {u = u} {h = h} {e = e} a paid step) =
    step_begins t u m e step ∙ ap (λ b. b || has_began (own m (e ∷ []))) (legal_begins m a) ∙ or_or (has_begun s m) (has_began (own m h)) (has_began (own m (e ∷ []))) ∙ ap (λ b. has_begun s m || b) (sym (began-append m h (e ∷ [])))
