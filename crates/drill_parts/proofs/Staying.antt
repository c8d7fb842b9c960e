-- That no client is silent for too long, and none loses its channel.
use Rattle.std.proofs.Common.{◌≡◌, ℕ, ◌+◌, ◌*◌, ◌<◌, Bool, true, false, if◌then◌else◌, List, [], ◌∷◌, ◌++◌, nat_lt, Option, None, Some, option_map, unwrap_or, refl, sym, ap, subst, ◌∙◌, arith}
use Rattle.std.specs.List.{All, AllByRecursion}
use Rattle.std.proofs.lemmas.Bool.{false≢true, leb-true}
use Rattle.std.proofs.lemmas.List.Elements.{All-append, All-cons, All-filter, All-nil}
use Rattle.nsq_outside.specs.declared.journal.End.{End}
use Rattle.nsq_outside.specs.declared.journal.End.TheVariants.{Done, Faulted, Skip}
use Rattle.v2_frame.specs.declared.command.Command.{Command}
use Rattle.v2_frame.specs.declared.command.Command.TheVariants.{Identify, Sub, Pub, Mpub, Dpub, Rdy, Fin, Req, Touch, Cls, Nop}
use Rattle.v2_frame.specs.declared.frame.Frame.{Frame}
use Rattle.broker_history.specs.declared.ask.Ask.{Ask}
use Rattle.broker_history.specs.declared.ask.Ask.TheVariants as ask
use Rattle.broker_history.specs.declared.ask.Said.{Said}
use Rattle.broker_history.specs.declared.entry.Act.{Act}
use Rattle.broker_history.specs.declared.entry.Act.TheVariants.{Began, Did, Refused, Sent, Beat, Idle, Silent, Dropped, Gone, Asked, Listed, Ticked, Stop, Took, Copied, TimedOut, CameDue, HeldBack, Stuck}
use Rattle.broker_history.specs.declared.entry.Entry.{Entry}
use Rattle.broker_history.specs.Changes.{changed_client, gone_client, made, set_paused, topic_changed}
use Rattle.broker_history.specs.Credit.{has_passed, is_silent}
use Rattle.broker_history.specs.Entries.{History}
use Rattle.broker_history.specs.Identify.{default_heartbeat}
use Rattle.broker_history.specs.Legal.{Legal, more, none}
use Rattle.broker_history.specs.State.{Channel, Client, State, Topic, client_of, is_lost, put_client, topic_of, with_client, without_client}
use Rattle.broker_history.specs.Step.{AtOwn, CarriesOut, DoesAct, DoesCommand, DoesMove, DoesMoveTo, IfDone, IsAllowedAct, IsNotLost, OfClient, asked_state, broken_off, carried_out, is_done, is_kept_off, new_client, spoke, subscribed}
use Rattle.drill_parts.specs.Conserving.{HaveOnes, KeepAll, KeepsAct, KeepsAsked}
use Rattle.drill_parts.specs.Staying.{IsCalm, NobodyIsClosed, SaysNoMore, StaysOpen}
use Rattle.drill_parts.proofs.Conserved.{ones_stay}
use Rattle.drill_parts.proofs.Replying.{history_uses}
use Rattle.drill_parts.proofs.States.{found_holds, left_by_same}
use Rattle.drill_parts.proofs.Talking.{all_push}

-- a client that gave its last command at this moment, whose heartbeat has this interval, and that has its channel
pub record IsThere (at interval : ℕ) (c : Client) : Type 0 where
  pub beat : c.heartbeat ≡ Some interval
  pub spoken : c.last_command ≡ at
  pub here : is_lost c.phase ≡ false

module _ (at interval : ℕ) where
  abbrev There : Client → Type 0
  There c = IsThere at interval c

  abbrev AreThere : State → Type 0
  AreThere s = All There s.clients

  -- the clients with one put in, or without one
  put_there : (clients : List Client) (c : Client) → All There clients → There c → All There (put_client clients c)
  put_there clients c all here =
      All-append There _ _ (All-filter (λ d. nat_lt d.number c.number) There clients all) (All-cons There c _ here (All-filter (λ d. nat_lt c.number d.number) There clients all))

  of_there : (s : State) (number : ℕ) (c : Client) → AreThere s → client_of s number ≡ Some c → There c
  of_there s number c all e = found_holds There _ s.clients c all e

  same_there : (s t : State) → t.clients ≡ s.clients → AreThere s → AreThere t
  same_there s t same all = subst (λ cs. All There cs) (sym same) all

  -- a client that is there changes
  changed_there : (f : Client → Client) (s : State) (number : ℕ) (o : Option Client) → client_of s number ≡ o → ((c : Client) → There c → There (f c)) → AreThere s → AreThere (changed_client f s o)
  changed_there f s number None e good all = all
  changed_there f s number (Some c) e good all = put_there s.clients (f c) all (good c (of_there s number c all e))

  own_there : (c : Client) (Row : Channel → Channel → Type 0) (f : Client → Client) (s t : State) → There (f c) → AreThere s → AtOwn c Row f s t → AreThere t
  own_there c Row f s t here all a =
      let between : AreThere a.between = same_there s a.between (ap (λ (x : State). x.clients) a.channel.is) all in
      subst (λ (x : State). AreThere x) (sym a.is) (put_there a.between.clients (f c) between here)

  carries_there : (s t : State) (c : Client) (command : Command) (r : Option Frame) → SaysNoMore (Did command r) → There c → AreThere s → CarriesOut s at c command t → AreThere t
  carries_there s t c (Identify body) r plain here all d = absurd plain
  carries_there s t c (Sub topic channel) r plain here all d = subst (λ (x : State). AreThere x) (sym d) (put_there s.clients (subscribed topic channel c) all (record { beat = here.beat; spoken = here.spoken; here = refl }))
  carries_there s t c (Pub topic body) r plain here all d = same_there s t (ap (λ (x : State). x.clients) d) all
  carries_there s t c (Mpub topic bodies) r plain here all d = same_there s t (ap (λ (x : State). x.clients) d) all
  carries_there s t c (Dpub topic delay body) r plain here all d = same_there s t (ap (λ (x : State). x.clients) d) all
  carries_there s t c (Rdy count) r plain here all d = subst (λ (x : State). AreThere x) (sym d) (put_there s.clients _ all (record { beat = here.beat; spoken = here.spoken; here = here.here }))
  carries_there s t c (Fin id) r plain here all d = own_there c _ _ s t (record { beat = here.beat; spoken = here.spoken; here = here.here }) all d
  carries_there s t c (Req id delay) r plain here all d = own_there c _ _ s t (record { beat = here.beat; spoken = here.spoken; here = here.here }) all d
  carries_there s t c (Touch id) r plain here all d = own_there c _ _ s t here all d
  carries_there s t c Cls r plain here all d = subst (λ (x : State). AreThere x) (sym d) (put_there s.clients _ all (record { beat = here.beat; spoken = here.spoken; here = refl }))
  carries_there s t c Nop r plain here all d = same_there s t (ap (λ (x : State). x.clients) d) all

  command_there : (s t : State) (c : Client) (command : Command) (r : Option Frame) (refused : Bool) → SaysNoMore (Did command r) → There c → AreThere s → DoesCommand s at c command refused t → AreThere t
  command_there s t c command r refused plain here all d = go refused d
    where
      spoken : There (spoke at c)
      spoken = record { beat = here.beat; spoken = refl; here = here.here }

      put : AreThere (with_client s (spoke at c))
      put = put_there s.clients (spoke at c) all spoken

      go : (b : Bool) → DoesCommand s at c command b t → AreThere t
      go true d = subst (λ (x : State). AreThere x) (sym d) put
      go false d = carries_there (with_client s (spoke at c)) t (spoke at c) command r plain spoken put d

  paused_clients : (on : Bool) (s : State) (topic : List ℕ) (channel : Option (List ℕ)) → (set_paused on s topic channel).clients ≡ s.clients
  paused_clients on s topic None = changed_clients _ s (topic_of s topic)
    where
      changed_clients : (f : Topic → Topic) (s : State) (o : Option Topic) → (topic_changed f s o).clients ≡ s.clients
      changed_clients f s None = refl
      changed_clients f s (Some t) = refl
  paused_clients on s topic (Some channel) = changed_clients _ s (topic_of s topic)
    where
      changed_clients : (f : Topic → Topic) (s : State) (o : Option Topic) → (topic_changed f s o).clients ≡ s.clients
      changed_clients f s None = refl
      changed_clients f s (Some t) = refl

  made_clients : (s : State) (topic : List ℕ) (channel : Option (List ℕ)) → (made s topic channel).clients ≡ s.clients
  made_clients s topic None = refl
  made_clients s topic (Some channel) = refl

  carried_clients : (only : List ℕ → List ℕ) (s : State) (a : Ask) → KeepsAsked only a → (carried_out s at a).clients ≡ s.clients
  carried_clients only s (ask.Publish topic delay bodies) k = refl
  carried_clients only s (ask.Stats topic channel) k = refl
  carried_clients only s (ask.Create topic channel) k = made_clients s topic channel
  carried_clients only s (ask.Delete topic channel) k = absurd k
  carried_clients only s (ask.Empty topic channel) k = absurd k
  carried_clients only s (ask.Pause topic channel) k = paused_clients true s topic channel
  carried_clients only s (ask.Unpause topic channel) k = paused_clients false s topic channel

  broken_clients : (only : List ℕ → List ℕ) (s : State) (a : Ask) (count : ℕ) → KeepsAsked only a → (broken_off s a count).clients ≡ s.clients
  broken_clients only s (ask.Delete topic channel) count k = absurd k
  broken_clients only s (ask.Publish topic delay bodies) count k = refl
  broken_clients only s (ask.Stats topic channel) count k = refl
  broken_clients only s (ask.Create topic channel) count k = refl
  broken_clients only s (ask.Empty topic channel) count k = refl
  broken_clients only s (ask.Pause topic channel) count k = refl
  broken_clients only s (ask.Unpause topic channel) count k = refl

  done_clients : (s t : State) (b : Bool) → t.clients ≡ s.clients → (if b then t else s).clients ≡ s.clients
  done_clients s t true e = e
  done_clients s t false e = refl

  asked_clients : (only : List ℕ → List ℕ) (s : State) (a : Ask) (answer : Said) (end : End) → KeepsAsked only a → (asked_state s at a answer end).clients ≡ s.clients
  asked_clients only s a answer Done k = done_clients s (carried_out s at a) (is_done answer) (carried_clients only s a k)
  asked_clients only s a answer (Faulted count) k = broken_clients only s a count k
  asked_clients only s a answer Skip k = refl

  move_clients : (s t : State) (act : Act) → DoesMove s at act t → t.clients ≡ s.clients
  move_clients s t (Took topic m names) d = ap (λ (x : State). x.clients) d.is
  move_clients s t (Copied topic channel m) d = ap (λ (x : State). x.clients) d.is
  move_clients s t (TimedOut topic channel id) d = ap (λ (x : State). x.clients) d.is
  move_clients s t (CameDue topic channel id) d = ap (λ (x : State). x.clients) d.is
  move_clients s t (HeldBack topic channel id) d = ap (λ (x : State). x.clients) d.is
  move_clients s t act d = absurd d

  moved_there : (s t : State) (act : Act) (end : End) → AreThere s → DoesMoveTo s at act end t → AreThere t
  moved_there s t act Done all d = same_there s t (move_clients s t act d) all
  moved_there s t act (Faulted n) all d = same_there s t (ap (λ (x : State). x.clients) d) all
  moved_there s t act Skip all d = same_there s t (ap (λ (x : State). x.clients) d) all

  gone_there : (only : List ℕ → List ℕ) (s : State) (number : ℕ) (o : Option Client) → HaveOnes only s.topics → AreThere s → AreThere (gone_client s number o)
  gone_there only s number None ones all = all
  gone_there only s number (Some c) ones all =
      let u : State = record s { clients = without_client s.clients number } in
      subst (λ (x : State). AreThere x) (sym (left_by_same only u c.phase c.route ones)) (All-filter _ There s.clients all)

  act_there : (only : List ℕ → List ℕ) (s t : State) (n : ℕ) (act : Act) (end : End) → HaveOnes only s.topics → default_heartbeat s.options ≡ interval → KeepsAct only act → SaysNoMore act → AreThere s → DoesAct s at n act end t → AreThere t
  act_there only s t n Began end ones e k plain all d =
      subst (λ (x : State). AreThere x) (sym d) (put_there s.clients (new_client s.options at n) all (record { beat = ap Some e; spoken = refl; here = refl }))
  act_there only s t n (Did command r) end ones e k plain all d = command_there s t d.client command r (is_kept_off r end) plain (of_there s n d.client all d.there) all d.does
  act_there only s t n (Refused fault frame) end ones e k plain all d = same_there s t (ap (λ (x : State). x.clients) d) all
  act_there only s t n (Sent m) end ones e k plain all d =
      let c = of_there s n d.client all d.there in own_there d.client _ _ s t (record { beat = c.beat; spoken = c.spoken; here = c.here }) all d.sends
  act_there only s t n Beat end ones e k plain all d =
      subst (λ (x : State). AreThere x) (sym d) (changed_there _ s n (client_of s n) refl (λ c here. record { beat = here.beat; spoken = here.spoken; here = here.here }) all)
  act_there only s t n Idle end ones e k plain all d = same_there s t (ap (λ (x : State). x.clients) d) all
  act_there only s t n Silent end ones e k plain all d = same_there s t (ap (λ (x : State). x.clients) d) all
  act_there only s t n Dropped end ones e k plain all d = same_there s t (ap (λ (x : State). x.clients) d) all
  act_there only s t n Gone end ones e k plain all d = subst (λ (x : State). AreThere x) (sym d) (gone_there only s n (client_of s n) ones all)
  act_there only s t n (Asked b answer) end ones e k plain all d = same_there s t (ap (λ (x : State). x.clients) d ∙ asked_clients only s b answer end k) all
  act_there only s t n (Listed names) end ones e k plain all d = same_there s t (ap (λ (x : State). x.clients) d) all
  act_there only s t n Ticked end ones e k plain all d = same_there s t (ap (λ (x : State). x.clients) d) all
  act_there only s t n Stop end ones e k plain all d = same_there s t (ap (λ (x : State). x.clients) d) all
  act_there only s t n (Stuck topic channel) end ones e k plain all d = same_there s t (ap (λ (x : State). x.clients) d) all
  act_there only s t n (Took topic m names) end ones e k plain all d = moved_there s t (Took topic m names) end all d
  act_there only s t n (Copied topic channel m) end ones e k plain all d = moved_there s t (Copied topic channel m) end all d
  act_there only s t n (TimedOut topic channel id) end ones e k plain all d = moved_there s t (TimedOut topic channel id) end all d
  act_there only s t n (CameDue topic channel id) end ones e k plain all d = moved_there s t (CameDue topic channel id) end all d
  act_there only s t n (HeldBack topic channel id) end ones e k plain all d = moved_there s t (HeldBack topic channel id) end all d

  -- nobody was silent, and nobody is lost
  not_silent : (c : Client) → 0 < interval → There c → is_silent at c ≡ true → ⊥
  not_silent c some here silent =
      let passed : has_passed c.last_command (2 * interval) at ≡ true = subst (λ o. unwrap_or (option_map (λ i. has_passed c.last_command (2 * i) at) o) false ≡ true) here.beat silent in
      let late = leb-true (c.last_command + 2 * interval) at passed in
      let spoken = here.spoken in
      omega (arith, late, spoken, some)

  silent_none : (s : State) (n : ℕ) (end : End) → 0 < interval → AreThere s → IfDone end (OfClient s n (λ c. IsNotLost c × (is_silent at c ≡ true))) → ⊥
  silent_none s n Done some all m = let is = m.is in not_silent m.client some (of_there s n m.client all m.there) is.1
  silent_none s n (Faulted k) some all m = m
  silent_none s n Skip some all m = m

  lost_none : (s : State) (n : ℕ) (end : End) → AreThere s → IfDone end (OfClient s n (λ c. is_lost c.phase ≡ true)) → ⊥
  lost_none s n Done all m = let c = of_there s n m.client all m.there in false≢true (sym c.here ∙ m.is)
  lost_none s n (Faulted k) all m = m
  lost_none s n Skip all m = m

  act_open : (s : State) (n : ℕ) (act : Act) (end : End) → 0 < interval → AreThere s → IsAllowedAct s at n act end → StaysOpen act
  act_open s n Silent end some all m = silent_none s n end some all m
  act_open s n Dropped end some all m = lost_none s n end all m
  act_open s n act end some all m = tt

-- the parts of such a history
calm_front : (only : List ℕ → List ℕ) (at : ℕ) (h : History) (e : Entry × End) → AllByRecursion (IsCalm only at) (h ++ e ∷ []) → AllByRecursion (IsCalm only at) h × IsCalm only at e
calm_front only at [] e all = (tt, all.0)
calm_front only at (f ∷ h) e all = let both = calm_front only at h e all.1 in ((all.0, both.0), both.1)

calm_keeps : (only : List ℕ → List ℕ) (at : ℕ) (h : History) → AllByRecursion (IsCalm only at) h → KeepAll only h
calm_keeps only at [] all = tt
calm_keeps only at (e ∷ h) all = (all.0.keeps, calm_keeps only at h all.1)

module _ (only : List ℕ → List ℕ) (at : ℕ) (s : State) (ones : HaveOnes only s.topics) (nobody : s.clients ≡ []) (some : 0 < s.options.max_heartbeat_interval) where
  abbrev interval : ℕ
  interval = default_heartbeat s.options

  abbrev Open : Entry × End → Type 0
  Open e = StaysOpen e.0.act

  stays_open : {u : State} {h : History} → AllByRecursion (IsCalm only at) h → Legal s h u → AllByRecursion Open h × AreThere at interval u
  stays_open all none = (tt, subst (λ cs. All (There at interval) cs) (sym nobody) (All-nil (There at interval)))
  stays_open all (more {t = t} {u = u} {h = h} {e = e} legal paid step) =
      let parts = calm_front only at h e all in
      let before = stays_open parts.0 legal in
      let calm = parts.1 in
      let topics = ones_stay only s t h ones (calm_keeps only at h parts.0) legal in
      let uses = history_uses legal in
      let same : default_heartbeat t.options ≡ interval = ap default_heartbeat uses.options in
      let allowed : IsAllowedAct t at e.0.conn e.0.act e.1 = subst (λ n. IsAllowedAct t n e.0.conn e.0.act e.1) calm.now step.allowed in
      let does : DoesAct t at e.0.conn e.0.act e.1 step.between = subst (λ n. DoesAct t n e.0.conn e.0.act e.1 step.between) calm.now step.does in
      let positive : 0 < interval = omega arith in (
        all_push Open h e before.0 (act_open at interval t e.0.conn e.0.act e.1 positive before.1 allowed),
        same_there at interval step.between u (ap (λ (x : State). x.clients) step.is) (act_there at interval only t step.between e.0.conn e.0.act e.1 topics same calm.keeps calm.plain before.1 does),
      )

pub nobody_closed : NobodyIsClosed
nobody_closed only at s u h ones nobody some all legal = let both = stays_open only at s ones nobody some all legal in both.0
