-- What the entries of turns are, by how turns are laid out.
use Rattle.std.proofs.Common.{◌≡◌, ◌⊎◌, inl, inr, ℕ, ◌+◌, ◌≤◌, ◌==◌, Bool, true, false, not, ◌&&◌, ◌||◌, if◌then◌else◌, List, [], ◌∷◌, ◌++◌, length, Option, Some, None, refl, sym, ap, subst, ◌∙◌, append_assoc, arith}
use Rattle.std.specs.List.{AllByRecursion}
use Rattle.std.proofs.lemmas.Bool.{false≢true, eqb-true, eq-eqb}
use Rattle.std.proofs.lemmas.List.{append-nil}
use Rattle.nsq_outside.specs.declared.journal.End.{End}
use Rattle.nsq_outside.specs.declared.journal.End.TheVariants.{Done}
use Rattle.v2_frame.specs.declared.command.Command.{Command}
use Rattle.broker_history.specs.declared.ask.Ask.{Ask}
use Rattle.broker_history.specs.declared.entry.Act.{Act}
use Rattle.broker_history.specs.declared.entry.Act.TheVariants.{Began, Did, Refused, Sent, Beat, Idle, Silent, Dropped, Gone, Asked, Listed, Ticked, Stop, Took, Copied, TimedOut, CameDue, HeldBack, Stuck}
use Rattle.broker_history.specs.declared.entry.Entry.{Entry}
use Rattle.broker_history.specs.Entries.{History, IsCommon, is_due_move, is_held, is_move, is_stuck_topic, is_tick, is_free_act, is_common, is_faulted, is_stuck, own, is_own}
use Rattle.broker_history.specs.Before.{is_moved_at, is_stuck_at}
use Rattle.broker_history.specs.Moments.{IsFree, IsAt, IsTimed, moment_of}
use Rattle.broker_history.specs.Moments as moments
use Rattle.broker_history.specs.Talk.{IsSending, IsRest}
use Rattle.broker_history.proofs.Own.{own-append, common_none}
use Rattle.broker_history.specs.declared.call.Call.{Call}
use Rattle.broker_history.specs.declared.call.Call.TheVariants as call
use Rattle.broker_history.specs.declared.turned.Turned.{Turned}
use Rattle.broker_history.specs.declared.turned.Turned.TheVariants as turned
use Rattle.broker_history.specs.Answers.{Answers, Adds, AddsNothing, HasNoAct, Joins}
use Rattle.floor_laws.proofs.Counting.{parts}
use Rattle.floor_laws.specs.Laid.{IsMoved, AreMoved, AreStuck, IsHeld, AreHeldBack, IsActFor, AreActsFor, IsLaid, AreTurns, none, turn}
use Rattle.floor_laws.specs.Laws.{IsOf}

-- what holds of each entry of two histories, and what follows of each
pub all_both : (P : Entry × End → Type 0) (h k : History) → AllByRecursion P h → AllByRecursion P k → AllByRecursion P (h ++ k)
all_both P [] k a b = b
all_both P (e ∷ h) k a b = (a.0, all_both P h k a.1 b)

pub all_so : (P Q : Entry × End → Type 0) (h : History) → ((e : Entry × End) → P e → Q e) → AllByRecursion P h → AllByRecursion Q h
all_so P Q [] f a = tt
all_so P Q (e ∷ h) f a = (f e a.0, all_so P Q h f a.1)

-- turns and then turns
pub turns_join : {number : ℕ} {h k : History} → AreTurns number h → AreTurns number k → AreTurns number (h ++ k)
turns_join {number} {h = h} a none = subst (λ x. AreTurns number x) (sym (append-nil h)) a
turns_join {number} {h = h} a (turn {h = k} {k = l} at c answer b laid) = subst (λ x. AreTurns number x) (append_assoc h k l) (turn at c answer (turns_join a b) laid)

-- due moves, stuck entries and what is held back are free
due_free : (due held stuck : Bool) → due ≡ true → ((due || held) || stuck) ≡ true
due_free true held stuck h = refl
due_free false held stuck h = absurd (false≢true h)

held_free : (due held stuck : Bool) → held ≡ true → ((due || held) || stuck) ≡ true
held_free true held stuck h = refl
held_free false true stuck h = refl
held_free false false stuck h = absurd (false≢true h)

stuck_free : (move stuck faulted : Bool) → (stuck || (move && faulted)) ≡ true → (move || stuck) ≡ true
stuck_free true stuck faulted h = refl
stuck_free false true faulted h = refl
stuck_free false false faulted h = absurd (false≢true h)

or_true : (a b : Bool) → a ≡ true → (a || b) ≡ true
or_true true b h = refl
or_true false b h = absurd (false≢true h)

pub moved_free : (at : ℕ) (e : Entry × End) → IsMoved at e → IsFree e
moved_free at e m = due_free (is_due_move e.0.act) (is_held e.0.act) (is_stuck_topic e.0.act) (parts (is_due_move e.0.act) (e.0.at == at) m.moved).0

pub sticks_free : (at : ℕ) (e : Entry × End) → is_stuck_at at e ≡ true → IsFree e
sticks_free at e s = stuck_free (is_move e.0.act) (is_stuck_topic e.0.act) (is_faulted e.1) (parts (is_stuck e) (e.0.at == at) s).0

pub holds_free : (at : ℕ) (e : Entry × End) → IsHeld at e → IsFree e
holds_free at e h = held_free (is_due_move e.0.act) (is_held e.0.act) (is_stuck_topic e.0.act) h.held

pub free_common : (e : Entry × End) → IsFree e → IsCommon e
free_common e f = or_true (is_free_act e.0.act) (is_tick e.0.act) f

-- and have the turn's moment
pub moved_now : (at : ℕ) (e : Entry × End) → IsMoved at e → e.0.at ≡ at
moved_now at e m = eqb-true e.0.at at (parts (is_due_move e.0.act) (e.0.at == at) m.moved).1

pub sticks_now : (at : ℕ) (e : Entry × End) → is_stuck_at at e ≡ true → e.0.at ≡ at
sticks_now at e s = eqb-true e.0.at at (parts (is_stuck e) (e.0.at == at) s).1

-- an act that answers a call is no common entry, but for a tick's
pub record IsTickAnswered (c : Call) (answer : Turned) (e : Entry × End) : Type 0 where
  pub is : c ≡ call.Tick
  pub quiet : answer ≡ turned.Quiet
  pub tick : e.0.act ≡ Ticked

pub record IsApart (e : Entry × End) : Type 0 where
  pub apart : is_common e.0.act ≡ false
  pub other : is_tick e.0.act ≡ false

of_act : (e : Entry × End) (act : Act) → e.0.act ≡ act → is_common act ≡ false → is_tick act ≡ false → IsApart e
of_act e act is apart other = record { apart = ap is_common is ∙ apart; other = ap is_tick is ∙ other }

apart_command : (command : Command) (e : Entry × End) (answer : Turned) → Answers (call.Command command) e answer → IsApart e
apart_command command e (turned.Reply frame closing) h = of_act e (Did command h.0.0.0) h.0.0.1 refl refl
apart_command command e turned.Quiet h = of_act e (Did command h.0.0) h.0.1 refl refl
apart_command command e turned.Deleted h = of_act e Dropped h refl refl
apart_command command e answer h = absurd h

sends_apart : (e : Entry × End) (act : Act) → e.0.act ≡ act → IsSending act → IsApart e
sends_apart e (Sent m) is h = of_act e (Sent m) is refl refl
sends_apart e Beat is h = of_act e Beat is refl refl
sends_apart e act is h = absurd h

rests_apart : (e : Entry × End) (act : Act) → e.0.act ≡ act → IsRest act → IsApart e
rests_apart e Idle is h = of_act e Idle is refl refl
rests_apart e (Stuck topic (Some channel)) is h = of_act e (Stuck topic (Some channel)) is refl refl
rests_apart e act is h = absurd h

apart_next : (e : Entry × End) (answer : Turned) → Answers call.Next e answer → IsApart e
apart_next e (turned.Send frame) h = sends_apart e e.0.act refl h.0
apart_next e turned.Idle h = rests_apart e e.0.act refl h
apart_next e turned.Silent h = of_act e Silent h refl refl
apart_next e turned.Deleted h = of_act e Dropped h refl refl
apart_next e answer h = absurd h

pub apart : (c : Call) (answer : Turned) (e : Entry × End) → Answers c e answer → IsTickAnswered c answer e ⊎ IsApart e
apart call.Begin turned.Begun e h = inr (of_act e Began h refl refl)
apart call.Begin answer e h = absurd h
apart (call.Command command) answer e h = inr (apart_command command e answer h)
apart (call.Bad fault) (turned.Reply frame closing) e h = inr (of_act e (Refused fault frame) h.0 refl refl)
apart (call.Bad fault) answer e h = absurd h
apart call.Next answer e h = inr (apart_next e answer h)
apart call.Gone turned.Ended e h = inr (of_act e Gone h refl refl)
apart call.Gone answer e h = absurd h
apart (call.Ask a) (turned.Said told) e h = inr (of_act e (Asked a h.0) h.1 refl refl)
apart (call.Ask a) answer e h = absurd h
apart call.Names (turned.Listed names moment) e h = inr (of_act e (Listed names) h.0 refl refl)
apart call.Names answer e h = absurd h
apart call.Tick turned.Quiet e h = inl (record { is = refl; quiet = refl; tick = h })
apart call.Tick answer e h = absurd h
apart call.Stop turned.Stopping e h = inr (of_act e Stop h refl refl)
apart call.Stop answer e h = absurd h

-- where a call made no act, nothing is added
adds_nothing : (c : Call) (answer : Turned) → HasNoAct c answer → AddsNothing c answer
adds_nothing call.Tick turned.Quiet h = tt
adds_nothing call.Tick answer h = h
adds_nothing c answer h = h

-- an entry that is its number's own
mine : (number : ℕ) (e : Entry × End) → e.0.conn ≡ number → is_common e.0.act ≡ false → own number (e ∷ []) ≡ e ∷ []
mine number e names apart = let here : (e.0.conn == number) ≡ true = eq-eqb e.0.conn number names in rw (here, apart) refl

common_one : (number : ℕ) (e : Entry × End) → is_common e.0.act ≡ true → own number (e ∷ []) ≡ []
common_one number e common = common_none number (e ∷ []) (common, tt)

-- what an act adds to the own entries of its number
adds_act : (at number : ℕ) (c : Call) (answer : Turned) (before after : History) (e : Entry × End) → IsActFor at number c answer e → after ≡ before ++ own number (e ∷ []) → IsTickAnswered c answer e ⊎ IsApart e → Adds number before after c answer
adds_act at number c answer before after e act whole (inl t) =
    inl (whole ∙ ap (λ x. before ++ x) (common_one number e (ap is_common t.tick)) ∙ append-nil before, subst (λ x. AddsNothing x answer) (sym t.is) (subst (λ x. AddsNothing call.Tick x) (sym t.quiet) tt))
adds_act at number c answer before after e act whole (inr a) =
    let names : e.0.conn ≡ number = act.names ∙ ap (λ b. if b then 0 else number) a.other in
    inr (record { entry = e; whole = whole ∙ ap (λ x. before ++ x) (mine number e names a.apart); names = names; apart = a.apart; answers = act.answers })

adds_acts : (at number : ℕ) (c : Call) (answer : Turned) (acts before after : History) → AreActsFor at number c answer acts → after ≡ before ++ own number acts → Adds number before after c answer
adds_acts at number c answer [] before after act whole = inl (whole ∙ append-nil before, adds_nothing c answer act)
adds_acts at number c answer (e ∷ []) before after act whole = adds_act at number c answer before after e act whole (apart c answer e act.answers)
adds_acts at number c answer (e ∷ f ∷ h) before after act whole = absurd act

module _ (at number : ℕ) (c : Call) (answer : Turned) (k : History) (laid : IsLaid at number c answer k) where
  abbrev front : History
  front = (laid.moves ++ laid.stuck) ++ laid.held

  pub front_whole : k ≡ front ++ laid.acts
  front_whole = laid.whole ∙ sym (append_assoc (laid.moves ++ laid.stuck) laid.held laid.acts)

  pub front_free : AllByRecursion IsFree front
  front_free =
      all_both IsFree (laid.moves ++ laid.stuck) laid.held
      (all_both IsFree laid.moves laid.stuck (all_so (IsMoved at) IsFree laid.moves (moved_free at) laid.moved) (all_so (λ e. is_stuck_at at e ≡ true) IsFree laid.stuck (sticks_free at) laid.is_stuck))
      (all_so (IsHeld at) IsFree laid.held (holds_free at) laid.held_back)

  pub front_now : AllByRecursion (λ (e : Entry × End). e.0.at ≡ at) front
  front_now =
      all_both (λ (e : Entry × End). e.0.at ≡ at) (laid.moves ++ laid.stuck) laid.held
      (all_both (λ (e : Entry × End). e.0.at ≡ at) laid.moves laid.stuck (all_so (IsMoved at) (λ (e : Entry × End). e.0.at ≡ at) laid.moves (moved_now at) laid.moved) (all_so (λ e. is_stuck_at at e ≡ true) (λ (e : Entry × End). e.0.at ≡ at) laid.stuck (sticks_now at) laid.is_stuck))
      (all_so (IsHeld at) (λ (e : Entry × End). e.0.at ≡ at) laid.held (λ e h. h.now) laid.held_back)

  -- a number's own entries among them are its act
  pub laid_own : own number k ≡ own number laid.acts
  laid_own = ap (own number) front_whole ∙ own-append number front laid.acts ∙ ap (λ x. x ++ own number laid.acts) (common_none number front (all_so IsFree IsCommon front free_common front_free))

  pub laid_adds : (h : History) → Adds number (own number h) (own number (h ++ k)) c answer
  laid_adds h = adds_acts at number c answer laid.acts (own number h) (own number (h ++ k)) laid.act (own-append number h k ∙ ap (λ x. own number h ++ x) laid_own)

acts_short : (at number : ℕ) (c : Call) (answer : Turned) (acts : History) → AreActsFor at number c answer acts → length acts ≤ 1
acts_short at number c answer [] a = omega arith
acts_short at number c answer (e ∷ []) a = omega arith
acts_short at number c answer (e ∷ f ∷ h) a = absurd a

acts_now : (at number : ℕ) (c : Call) (answer : Turned) (acts : History) → AreActsFor at number c answer acts → AllByRecursion (λ (e : Entry × End). e.0.at ≡ at) acts
acts_now at number c answer [] a = tt
acts_now at number c answer (e ∷ []) a = (a.now, tt)
acts_now at number c answer (e ∷ f ∷ h) a = absurd a

-- a turn that read the clock once
pub laid_timed : (coming : ℕ → ℕ) (first readings number : ℕ) (c : Call) (answer : Turned) (h k : History) → IsTimed coming first h readings → IsLaid (moment_of coming (readings + 1)) number c answer k
    → IsTimed coming first (h ++ k) (readings + 1)
laid_timed coming first readings number c answer h k t laid =
    let at : ℕ = moment_of coming (readings + 1) in
    let free = front_free at number c answer k laid in
    let now = all_both (λ (e : Entry × End). e.0.at ≡ at) ((laid.moves ++ laid.stuck) ++ laid.held) laid.acts (front_now at number c answer k laid) (acts_now at number c answer laid.acts laid.act) in
    subst (λ x. IsTimed coming first (h ++ x) (readings + 1)) (sym (front_whole at number c answer k laid))
    (moments.turn ((laid.moves ++ laid.stuck) ++ laid.held) laid.acts t free (acts_short at number c answer laid.acts laid.act) now)

-- each entry is common or of the number
act_of : (at number : ℕ) (c : Call) (answer : Turned) (e : Entry × End) → IsActFor at number c answer e → IsTickAnswered c answer e ⊎ IsApart e → IsOf number e
act_of at number c answer e act (inl t) = inl (ap is_common t.tick)
act_of at number c answer e act (inr a) = inr (act.names ∙ ap (λ b. if b then 0 else number) a.other)

acts_of : (at number : ℕ) (c : Call) (answer : Turned) (acts : History) → AreActsFor at number c answer acts → AllByRecursion (IsOf number) acts
acts_of at number c answer [] a = tt
acts_of at number c answer (e ∷ []) a = (act_of at number c answer e a (apart c answer e a.answers), tt)
acts_of at number c answer (e ∷ f ∷ h) a = absurd a

laid_of : (at number : ℕ) (c : Call) (answer : Turned) (k : History) → IsLaid at number c answer k → AllByRecursion (IsOf number) k
laid_of at number c answer k laid =
    let front : History = (laid.moves ++ laid.stuck) ++ laid.held in
    subst (λ x. AllByRecursion (IsOf number) x) (sym (front_whole at number c answer k laid))
    (all_both (IsOf number) front laid.acts (all_so IsFree (IsOf number) front (λ e f. inl (free_common e f)) (front_free at number c answer k laid)) (acts_of at number c answer laid.acts laid.act))

pub turns_of : {number : ℕ} {h : History} → AreTurns number h → AllByRecursion (IsOf number) h
turns_of none = tt
turns_of {number} (turn {h = h} {k = k} at c answer a laid) = all_both (IsOf number) h k (turns_of a) (laid_of at number c answer k laid)

-- two timed histories, the second from the reading where the first ends
pub timed_join : {coming : ℕ → ℕ} {first mid last : ℕ} {h k : History} → IsTimed coming first h mid → IsTimed coming mid k last → IsTimed coming first (h ++ k) last
timed_join {coming} {first} {mid} {h = h} a moments.starts = subst (λ x. IsTimed coming first x mid) (sym (append-nil h)) a
timed_join {coming} {first} {h = h} a (moments.turn {h = k} {readings = r} moves acts b free short at) = subst (λ x. IsTimed coming first x (r + 1)) (append_assoc h k (moves ++ acts)) (moments.turn moves acts (timed_join a b) free short at)
