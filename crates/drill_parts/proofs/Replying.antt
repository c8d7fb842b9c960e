-- How many ids are used along a history, and how commands are replied to.
use Rattle.std.proofs.Common.{◌≡◌, ◌≢◌, ℕ, ◌+◌, ◌≤◌, Bool, true, false, ◌&&◌, if◌then◌else◌, List, [], ◌∷◌, ◌++◌, length, Option, None, Some, is_some, map, take, refl, sym, ap, subst, ◌∙◌, arith}
use Rattle.std.specs.List.{AllByRecursion}
use Rattle.std.proofs.lemmas.List.Sums.{sum_by_push}
use Rattle.nsq_base.specs.Name.{is_ephemeral}
use Rattle.nsq_base.specs.declared.options.Options.{Options}
use Rattle.nsq_outside.specs.declared.journal.End.{End}
use Rattle.nsq_outside.specs.declared.journal.End.TheVariants.{Done, Faulted, Skip}
use Rattle.v2_frame.specs.declared.command.Command.{Command}
use Rattle.v2_frame.specs.declared.command.Command.TheVariants.{Identify, Sub, Pub, Mpub, Dpub, Rdy, Fin, Req, Touch, Cls, Nop}
use Rattle.v2_frame.specs.declared.frame.Frame.{Frame}
use Rattle.broker_history.specs.declared.ask.Ask.{Ask}
use Rattle.broker_history.specs.declared.ask.Ask.TheVariants as ask
use Rattle.broker_history.specs.declared.ask.Said.{Said}
use Rattle.broker_history.specs.declared.entry.Act.{Act}
use Rattle.broker_history.specs.declared.entry.Act.TheVariants.{Began, Did, Refused, Sent, Beat, Idle, Silent, Dropped, Gone, Asked, Listed, Ticked, Stop, Took, Copied, TimedOut, CameDue, HeldBack, Stuck}
use Rattle.broker_history.specs.declared.entry.Entry.{Entry}
use Rattle.broker_history.specs.Changes.{AtTopic, at_client, changed_client, channels_in, deleted, deleted_channel, deleted_channels, deleted_in, emptied, gone, gone_client, left_by, left_channel, lost, made, set_paused, topic_changed, with_fewer, without_channel, without_topic}
use Rattle.broker_history.specs.Entries.{History}
use Rattle.broker_history.specs.Identify.{Identity, identity_of}
use Rattle.broker_history.specs.Legal.{Legal, more, none}
use Rattle.broker_history.specs.Reply.{has_in_flight, reply_by, reply_to}
use Rattle.broker_history.specs.State.{Channel, Client, Closing, Fresh, Lost, Phase, Route, State, Subscribed, Topic, channel_of, client_of, clients_of, is_empty, is_ephemeral_channel, topic_of, with_topic, without_client}
use Rattle.broker_history.specs.Step.{AtOwn, CarriesOut, DoesAct, DoesCommand, DoesMove, DoesMoveTo, IsAllowedAct, IsNotLost, MayDo, OfClient, Step, asked_state, broken_off, carried_out, is_done, is_kept_off, with_identity}
use Rattle.drill_parts.specs.Counts.{messages_asked, messages_in}
use Rattle.drill_parts.specs.Replying.{CommandsAreReplied, HasReply, IsReplied, RunsStay, tried, tried_as}
use Rattle.drill_parts.proofs.Talking.{all_push}

-- what no act changes, but that a publish uses ids
abbrev fixed : State → Options × ℕ × ℕ
fixed s = (s.options, s.epoch, s.ids_used)

abbrev Same : State → State → Type 0
Same s t = fixed t ≡ fixed s

either_same : (b : Bool) (s t u : State) → Same s t → Same s u → Same s (if b then t else u)
either_same true s t u a c = a
either_same false s t u a c = c

is_same : (s t u : State) → u ≡ t → Same s t → Same s u
is_same s t u e a = ap fixed e ∙ a

made_same : (s : State) (topic : List ℕ) (channel : Option (List ℕ)) → Same s (made s topic channel)
made_same s topic None = refl
made_same s topic (Some channel) = refl

fewer_same : (s : State) (t : Topic) → Same s (with_fewer s t)
fewer_same s t = either_same (is_ephemeral t.name && is_empty t.channels) s (without_topic s t.name) (with_topic s t) refl refl

deleted_in_same : (s : State) (channel : List ℕ) (t : Option Topic) → Same s (deleted_in s channel t)
deleted_in_same s channel None = refl
deleted_in_same s channel (Some t) =
    let u : State = record s { clients = map (lost t.name channel) s.clients } in
    either_same (is_some (channel_of t channel)) s (with_fewer u (without_channel t channel)) s (fewer_same u (without_channel t channel)) refl

deleted_channels_same : (topic : List ℕ) (channels : List (List ℕ)) (s u : State) → Same s u → Same s (deleted_channels u topic channels)
deleted_channels_same topic [] s u a = a
deleted_channels_same topic (c ∷ cs) s u a = deleted_channels_same topic cs s (deleted_channel u topic c) (deleted_in_same u c (topic_of u topic) ∙ a)

deleted_same : (s : State) (topic : List ℕ) (channel : Option (List ℕ)) → Same s (deleted s topic channel)
deleted_same s topic None = deleted_channels_same topic (channels_in (topic_of s topic)) s s refl
deleted_same s topic (Some channel) = deleted_in_same s channel (topic_of s topic)

changed_same : (f : Topic → Topic) (s : State) (t : Option Topic) → Same s (topic_changed f s t)
changed_same f s None = refl
changed_same f s (Some t) = refl

emptied_same : (s : State) (topic : List ℕ) (channel : Option (List ℕ)) → Same s (emptied s topic channel)
emptied_same s topic None = changed_same _ s (topic_of s topic)
emptied_same s topic (Some channel) = changed_same _ s (topic_of s topic)

paused_same : (on : Bool) (s : State) (topic : List ℕ) (channel : Option (List ℕ)) → Same s (set_paused on s topic channel)
paused_same on s topic None = changed_same _ s (topic_of s topic)
paused_same on s topic (Some channel) = changed_same _ s (topic_of s topic)

left_same : (s : State) (route : Route) → Same s (left_channel s route)
left_same s route = either_same (is_ephemeral_channel route.topic route.channel && is_empty (clients_of s route.topic route.channel)) s (deleted_channel s route.topic route.channel) s (deleted_in_same s route.channel (topic_of s route.topic)) refl

left_by_same : (s : State) (phase : Phase) (route : Option Route) → Same s (left_by s phase route)
left_by_same s phase None = refl
left_by_same s Lost (Some route) = refl
left_by_same s Fresh (Some route) = left_same s route
left_by_same s Subscribed (Some route) = left_same s route
left_by_same s Closing (Some route) = left_same s route

gone_same : (s : State) (number : ℕ) (c : Option Client) → Same s (gone_client s number c)
gone_same s number None = refl
gone_same s number (Some c) = left_by_same (record s { clients = without_client s.clients number }) c.phase c.route

client_same : (f : Client → Client) (s : State) (c : Option Client) → Same s (changed_client f s c)
client_same f s None = refl
client_same f s (Some c) = refl

at_topic_same : {name : List ℕ} {Row : Topic → Topic → Type 0} (s t : State) → AtTopic name Row s t → Same s t
at_topic_same s t a = ap fixed a.is

own_same : {c : Client} {Row : Channel → Channel → Type 0} {f : Client → Client} (s t : State) → AtOwn c Row f s t → Same s t
own_same s t a = ap fixed a.is ∙ at_topic_same s a.between a.channel

identity_same : (s : State) (at : ℕ) (c : Client) (i : Option Identity) → Same s (with_identity s at c i)
identity_same s at c None = refl
identity_same s at c (Some i) = refl

-- an act leaves the options and the epoch, and uses so many ids at most
pub record Uses (n : ℕ) (s t : State) : Type 0 where
  pub options : t.options ≡ s.options
  pub epoch : t.epoch ≡ s.epoch
  pub ids : t.ids_used ≤ s.ids_used + n

uses_none : (n : ℕ) (s t : State) → Same s t → Uses n s t
uses_none n s t same = let ids = ap (λ (x : Options × ℕ × ℕ). x.2) same in record { options = ap (λ (x : Options × ℕ × ℕ). x.0) same; epoch = ap (λ (x : Options × ℕ × ℕ). x.1) same; ids = omega (arith, ids) }

uses_so : (n : ℕ) (s t : State) → t.options ≡ s.options → t.epoch ≡ s.epoch → t.ids_used ≡ s.ids_used + n → Uses n s t
uses_so n s t options epoch ids = record { options = options; epoch = epoch; ids = omega (arith, ids) }

carries_uses : (s t : State) (at : ℕ) (c : Client) (command : Command) → CarriesOut s at c command t → Uses (messages_in command) s t
carries_uses s t at c (Identify body) d = uses_none 0 s t (is_same s (with_identity s at c (identity_of s.options body)) t d (identity_same s at c (identity_of s.options body)))
carries_uses s t at c (Sub topic channel) d = uses_none 0 s t (ap fixed d)
carries_uses s t at c (Pub topic body) d = uses_so 1 s t (ap (λ (x : State). x.options) d) (ap (λ (x : State). x.epoch) d) (ap (λ (x : State). x.ids_used) d)
carries_uses s t at c (Mpub topic bodies) d = uses_so (length bodies) s t (ap (λ (x : State). x.options) d) (ap (λ (x : State). x.epoch) d) (ap (λ (x : State). x.ids_used) d)
carries_uses s t at c (Dpub topic delay body) d = uses_so 1 s t (ap (λ (x : State). x.options) d) (ap (λ (x : State). x.epoch) d) (ap (λ (x : State). x.ids_used) d)
carries_uses s t at c (Rdy count) d = uses_none 0 s t (ap fixed d)
carries_uses s t at c (Fin id) d = uses_none 0 s t (own_same s t d)
carries_uses s t at c (Req id delay) d = uses_none 0 s t (own_same s t d)
carries_uses s t at c (Touch id) d = uses_none 0 s t (own_same s t d)
carries_uses s t at c Cls d = uses_none 0 s t (ap fixed d)
carries_uses s t at c Nop d = uses_none 0 s t (ap fixed d)

command_uses : (s t : State) (at : ℕ) (c : Client) (command : Command) (refused : Bool) → DoesCommand s at c command refused t → Uses (messages_in command) s t
command_uses s t at c command true d = uses_none (messages_in command) s t (ap fixed d)
command_uses s t at c command false d = let u = carries_uses _ t at _ command d in record { options = u.options; epoch = u.epoch; ids = u.ids }

carried_uses : (s : State) (at : ℕ) (a : Ask) → Uses (messages_asked a) s (carried_out s at a)
carried_uses s at (ask.Publish topic delay bodies) = uses_so (length bodies) s (carried_out s at (ask.Publish topic delay bodies)) refl refl refl
carried_uses s at (ask.Stats topic channel) = uses_none 0 s (carried_out s at (ask.Stats topic channel)) (refl)
carried_uses s at (ask.Create topic channel) = uses_none 0 s (carried_out s at (ask.Create topic channel)) (made_same s topic channel)
carried_uses s at (ask.Delete topic channel) = uses_none 0 s (carried_out s at (ask.Delete topic channel)) (deleted_same s topic channel)
carried_uses s at (ask.Empty topic channel) = uses_none 0 s (carried_out s at (ask.Empty topic channel)) (emptied_same s topic channel)
carried_uses s at (ask.Pause topic channel) = uses_none 0 s (carried_out s at (ask.Pause topic channel)) (paused_same true s topic channel)
carried_uses s at (ask.Unpause topic channel) = uses_none 0 s (carried_out s at (ask.Unpause topic channel)) (paused_same false s topic channel)

broken_same : (s : State) (a : Ask) (count : ℕ) → Same s (broken_off s a count)
broken_same s (ask.Delete topic None) count = deleted_channels_same topic (take count (channels_in (topic_of s topic))) s s refl
broken_same s (ask.Delete topic (Some channel)) count = refl
broken_same s (ask.Publish topic delay bodies) count = refl
broken_same s (ask.Stats topic channel) count = refl
broken_same s (ask.Create topic channel) count = refl
broken_same s (ask.Empty topic channel) count = refl
broken_same s (ask.Pause topic channel) count = refl
broken_same s (ask.Unpause topic channel) count = refl

done_uses : (s t : State) (n : ℕ) (b : Bool) → Uses n s t → Uses n s (if b then t else s)
done_uses s t n true u = u
done_uses s t n false u = uses_none n s s refl

asked_uses : (s : State) (at : ℕ) (a : Ask) (answer : Said) (end : End) → Uses (messages_asked a) s (asked_state s at a answer end)
asked_uses s at a answer Done = done_uses s (carried_out s at a) (messages_asked a) (is_done answer) (carried_uses s at a)
asked_uses s at a answer (Faulted count) = uses_none (messages_asked a) s (broken_off s a count) (broken_same s a count)
asked_uses s at a answer Skip = uses_none (messages_asked a) s s refl

move_same : (s t : State) (at : ℕ) (act : Act) → DoesMove s at act t → Same s t
move_same s t at (Took topic m names) d = at_topic_same s t d
move_same s t at (Copied topic channel m) d = at_topic_same s t d
move_same s t at (TimedOut topic channel id) d = at_topic_same s t d
move_same s t at (CameDue topic channel id) d = at_topic_same s t d
move_same s t at (HeldBack topic channel id) d = at_topic_same s t d
move_same s t at act d = absurd d

moved_same : (s t : State) (at : ℕ) (act : Act) (end : End) → DoesMoveTo s at act end t → Same s t
moved_same s t at act Done d = move_same s t at act d
moved_same s t at act (Faulted n) d = ap fixed d
moved_same s t at act Skip d = ap fixed d

act_uses : (s t : State) (at n : ℕ) (act : Act) (end : End) → DoesAct s at n act end t → Uses (tried_as act) s t
act_uses s t at n Began end d = uses_none 0 s t (ap fixed d)
act_uses s t at n (Did command r) end d = command_uses s t at d.client command (is_kept_off r end) d.does
act_uses s t at n (Refused fault frame) end d = uses_none 0 s t (ap fixed d)
act_uses s t at n (Sent message) end d = uses_none 0 s t (own_same s t d.sends)
act_uses s t at n Beat end d = uses_none 0 s t (is_same s (at_client _ s n) t d (client_same _ s (client_of s n)))
act_uses s t at n Idle end d = uses_none 0 s t (ap fixed d)
act_uses s t at n Silent end d = uses_none 0 s t (ap fixed d)
act_uses s t at n Dropped end d = uses_none 0 s t (ap fixed d)
act_uses s t at n Gone end d = uses_none 0 s t (is_same s (gone s n) t d (gone_same s n (client_of s n)))
act_uses s t at n (Asked b answer) end d = let u = asked_uses s at b answer end in subst (λ x. Uses (messages_asked b) s x) (sym d) u
act_uses s t at n (Listed names) end d = uses_none 0 s t (ap fixed d)
act_uses s t at n Ticked end d = uses_none 0 s t (ap fixed d)
act_uses s t at n Stop end d = uses_none 0 s t (ap fixed d)
act_uses s t at n (Stuck topic channel) end d = uses_none 0 s t (ap fixed d)
act_uses s t at n (Took topic message names) end d = uses_none 0 s t (moved_same s t at (Took topic message names) end d)
act_uses s t at n (Copied topic channel message) end d = uses_none 0 s t (moved_same s t at (Copied topic channel message) end d)
act_uses s t at n (TimedOut topic channel id) end d = uses_none 0 s t (moved_same s t at (TimedOut topic channel id) end d)
act_uses s t at n (CameDue topic channel id) end d = uses_none 0 s t (moved_same s t at (CameDue topic channel id) end d)
act_uses s t at n (HeldBack topic channel id) end d = uses_none 0 s t (moved_same s t at (HeldBack topic channel id) end d)

step_uses : (s t : State) (e : Entry × End) → Step s e t → Uses (tried_as e.0.act) s t
step_uses s t e a =
    let u = act_uses s a.between e.0.at e.0.conn e.0.act e.1 a.does in
    let options = u.options in
    let epoch = u.epoch in
    let ids = u.ids in
    let same : t.ids_used ≡ a.between.ids_used = ap (λ (x : State). x.ids_used) a.is in
    record { options = ap (λ (x : State). x.options) a.is ∙ options; epoch = ap (λ (x : State). x.epoch) a.is ∙ epoch; ids = omega (arith, ids, same) }

pub history_uses : {s u : State} {h : History} → Legal s h u → Uses (tried h) s u
history_uses {s = s} none = uses_none 0 s s refl
history_uses {s = s} (more {t = t} {u = u} {h = h} {e = e} legal paid step) =
    let before = history_uses legal in
    let last = step_uses t u e step in
    let a = before.ids in
    let b = last.ids in
    let sum = sum_by_push (λ (x : Entry × End). tried_as x.0.act) h e in
    record { options = last.options ∙ before.options; epoch = last.epoch ∙ before.epoch; ids = omega (arith, a, b, sum) }

-- a reply stands where more ids may have been used
wider : (o : Options) (n m : ℕ) (act : Act) (end : End) → n ≤ m → HasReply o n act end → HasReply o m act end
wider o n m (Did command r) end l h = let few = h.few in record { used = h.used; few = omega (arith, few, l); phase = h.phase; flies = h.flies; is = h.is; ended = h.ended }
wider o n m act end l h = tt

all_wider : (o : Options) (n m : ℕ) (h : History) → n ≤ m → AllByRecursion (λ (e : Entry × End). HasReply o n e.0.act e.1) h → AllByRecursion (λ (e : Entry × End). HasReply o m e.0.act e.1) h
all_wider o n m [] l all = tt
all_wider o n m (e ∷ h) l all = (wider o n m e.0.act e.1 l all.0, all_wider o n m h l all.1)

module _ (s : State) (o : Options) (most number : ℕ) (options : s.options ≡ o) (few : s.ids_used ≤ most) where
  of_client : (command : Command) (r : Option Frame) (end : End) → end ≢ Skip → OfClient s number (λ c. IsNotLost c × (r ≡ reply_to s c command)) → IsReplied o most command r end
  of_client command r end other c = record {
    used = s.ids_used;
    few = few;
    phase = c.client.phase;
    flies = has_in_flight s c.client;
    is = let is = c.is in is.1 ∙ ap (λ (x : Options). reply_by x s.ids_used c.client.phase (has_in_flight s c.client) command) options;
    ended = other;
  }

  may_reply : (command : Command) (r : Option Frame) (end : End) → MayDo s number command r end → IsReplied o most command r end
  may_reply command r Done m = of_client command r Done (λ e. cc) m
  may_reply command r (Faulted n) m = of_client command r (Faulted n) (λ e. cc) m.0
  may_reply command r Skip m = absurd m

  replies : (at : ℕ) (act : Act) (end : End) → IsAllowedAct s at number act end → HasReply o most act end
  replies at (Did command r) end m = may_reply command r end m
  replies at act end m = tt

pub replied : CommandsAreReplied
replied s u h legal = go legal
  where
    go : {u : State} {h : History} → Legal s h u → AllByRecursion (λ (e : Entry × End). HasReply s.options (s.ids_used + tried h) e.0.act e.1) h
    go none = tt
    go (more {t = t} {h = h} {e = e} legal paid step) =
        let sum = sum_by_push (λ (x : Entry × End). tried_as x.0.act) h e in
        let uses = history_uses legal in
        let ids = uses.ids in
        let most : ℕ = s.ids_used + tried (h ++ e ∷ []) in
        all_push (λ (x : Entry × End). HasReply s.options most x.0.act x.1) h e (all_wider s.options (s.ids_used + tried h) most h (omega (arith, sum)) (go legal))
        (replies t s.options most e.0.conn uses.options (omega (arith, ids, sum)) e.0.at e.0.act e.1 step.allowed)

pub stays : RunsStay
stays s u h legal = let uses = history_uses legal in record { options = uses.options; epoch = uses.epoch }
