-- What a turn's answer tells of its history.
use Rattle.std.proofs.Common.{◌≡◌, ◌≢◌, ◌⊎◌, inl, inr, ℕ, Bool, true, false, ◌||◌, ◌&&◌, not, List, [], ◌∷◌, ◌++◌, is_some, refl, sym, ap, subst, ◌∙◌}
use Rattle.std.specs.Prelude.{IsTrue}
use Rattle.std.proofs.lemmas.Bool.{false≢true}
use Rattle.nsq_outside.specs.declared.journal.End.{End}
use Rattle.v2_frame.specs.declared.command.Command.{Command}
use Rattle.v2_frame.specs.declared.fault.Fault.{Fault}
use Rattle.v2_frame.specs.declared.frame.Frame.{Frame}
use Rattle.broker_history.specs.declared.ask.Ask.{Ask}
use Rattle.broker_history.specs.declared.entry.Entry.{Entry}
use Rattle.broker_history.specs.Entries.{History, has_stop, is_stop, own}
use Rattle.broker_history.specs.declared.call.Call.{Call}
use Rattle.broker_history.specs.declared.call.Call.TheVariants as call
use Rattle.broker_history.specs.declared.turned.Turned.{Turned}
use Rattle.broker_history.specs.declared.turned.Turned.TheVariants as turned
use Rattle.broker_history.specs.Answers.{Adds, AddsNothing, Answers, AnswersCommand, AnswersNext, EndsAtStop, Grows, IsAnswerTo, StopsSeen}
use Rattle.broker_history.specs.Calls.{MayCall, has_began, is_over}
use Rattle.floor_rooms.specs.declared.hall.Hall.{Hall}
use Rattle.floor_serving.specs.Plans.{is_strange}
use Rattle.floor_serving.specs.Moves.{Sight}
use Rattle.floor_laws.proofs.Laying.{laid_adds}
use Rattle.floor_serving.specs.Acting.{ActsBy, ClientsBy}
use Rattle.floor_serving.specs.Scenes.{IsTied, Scene, is_here}
use Rattle.floor_serving.specs.Turning.{IsAnswered, IsServed, IsStopped, IsTurnedAway, TakesTurn}
use Rattle.floor_serving.specs.Turns.{IsTurn, seen, seen_at}

-- a connection that may make a call fits it
may_fit : (c : Call) (number : ℕ) (own : History) → MayCall number own c → is_strange c (is_here own) ≡ false
may_fit call.Begin number own may = ap (λ b. b && not (is_over own)) may.1
may_fit (call.Command command) number own may = ap (λ b. not (b && not (is_over own))) may.began ∙ ap (λ b. not (true && not b)) may.stays
may_fit (call.Bad fault) number own may = ap (λ b. not (b && not (is_over own))) may.began ∙ ap (λ b. not (true && not b)) may.stays
may_fit call.Next number own may = ap (λ b. not (b && not (is_over own))) may.began ∙ ap (λ b. not (true && not b)) may.stays
may_fit call.Gone number own may = ap (λ b. not (b && not (is_over own))) may.began ∙ ap (λ b. not (true && not b)) may.stays
may_fit (call.Ask a) number own may = refl
may_fit call.Names number own may = refl
may_fit call.Tick number own may = refl
may_fit call.Stop number own may = refl

-- no act is answered Strange, and Stopping is answered by a Stop
no_strange : (c : Call) (e : Entry × End) → Answers c e turned.Strange → ⊥
no_strange call.Begin e h = h
no_strange c e h = h

stop_of : (c : Call) (e : Entry × End) → Answers c e turned.Stopping → is_stop e.0.act ≡ true
stop_of call.Stop e h = ap is_stop h
stop_of c e h = absurd h

-- answers that a call can have
strange_is : (c : Call) (there : Bool) → is_strange c there ≡ true → IsAnswerTo c turned.Strange
strange_is (call.Ask a) there e = absurd (false≢true e)
strange_is call.Names there e = absurd (false≢true e)
strange_is call.Tick there e = absurd (false≢true e)
strange_is call.Stop there e = absurd (false≢true e)
strange_is c there e = tt

stopping_is : (c : Call) → EndsAtStop c → IsAnswerTo c turned.Stopping
stopping_is call.Begin h = h
stopping_is c h = h

pub memory_is : (c : Call) → IsAnswerTo c turned.Memory
memory_is call.Begin = tt
memory_is c = tt

-- nothing joins where memory was wanting
pub nothing_is : (c : Call) → AddsNothing c turned.Memory
nothing_is call.Tick = tt
nothing_is c = tt

command_is : (command : Command) (e : Entry × End) (answer : Turned) → AnswersCommand command e answer → IsAnswerTo (call.Command command) answer
command_is command e (turned.Reply frame closing) h = tt
command_is command e turned.Quiet h = tt
command_is command e turned.Deleted h = tt
command_is command e answer h = absurd h

next_is : (e : Entry × End) (answer : Turned) → AnswersNext e answer → IsAnswerTo call.Next answer
next_is e (turned.Send frame) h = tt
next_is e turned.Idle h = tt
next_is e turned.Silent h = tt
next_is e turned.Deleted h = tt
next_is e answer h = absurd h

answer_is : (c : Call) (e : Entry × End) (answer : Turned) → Answers c e answer → IsAnswerTo c answer
answer_is call.Begin e turned.Begun h = tt
answer_is call.Begin e answer h = absurd h
answer_is (call.Command command) e answer h = command_is command e answer h
answer_is (call.Bad fault) e (turned.Reply frame closing) h = h.1
answer_is (call.Bad fault) e answer h = absurd h
answer_is call.Next e answer h = next_is e answer h
answer_is call.Gone e turned.Ended h = tt
answer_is call.Gone e answer h = absurd h
answer_is (call.Ask a) e (turned.Said told) h = tt
answer_is (call.Ask a) e answer h = absurd h
answer_is call.Names e (turned.Listed names at) h = tt
answer_is call.Names e answer h = absurd h
answer_is call.Tick e turned.Quiet h = tt
answer_is call.Tick e answer h = absurd h
answer_is call.Stop e turned.Stopping h = tt
answer_is call.Stop e answer h = absurd h

-- what is so where it is answered Stopping
seen_of : (seen : History) (answer : Turned) → (answer ≡ turned.Stopping → has_stop seen ≡ true) → StopsSeen seen answer
seen_of seen turned.Stopping f = f refl
seen_of seen answer f = tt

or_first : (a b : Bool) → a ≡ true → (a || b) ≡ true
or_first a b e = ap (λ x. x || b) e

or_last : (a b : Bool) → b ≡ true → (a || b) ≡ true
or_last true b e = refl
or_last false b e = e

-- a Stop that was noted stays so
stopped_on : (acts : History) (old new : Hall) → ClientsBy acts old new → old.stopped ≡ true → new.stopped ≡ true
stopped_on [] old new h e = h.stopped ∙ e
stopped_on (x ∷ acts) old new h e = h.stopped ∙ or_first old.stopped (is_stop x.0.act) e

-- answered by its act
served_stops : (at number : ℕ) (c : Call) (acts : History) (old new : Hall) → ActsBy at number c turned.Stopping acts → ClientsBy acts old new → new.stopped ≡ true
served_stops at number c [] old new by h = absurd cc
served_stops at number c (e ∷ []) old new by h = h.stopped ∙ or_last old.stopped (is_stop e.0.act) (stop_of c e by.answers)
served_stops at number c (e ∷ f ∷ acts) old new by h = absurd by

served_fits : (at number : ℕ) (c : Call) (acts : History) → ActsBy at number c turned.Strange acts → ⊥
served_fits at number c [] by = absurd cc
served_fits at number c (e ∷ []) by = no_strange c e by.answers
served_fits at number c (e ∷ f ∷ acts) by = by

served_is : (at number : ℕ) (c : Call) (answer : Turned) (acts : History) → ActsBy at number c answer acts → IsAnswerTo c answer
served_is at number c answer [] by = subst (IsAnswerTo c) (sym by) (memory_is c)
served_is at number c answer (e ∷ []) by = answer_is c e answer by.answers
served_is at number c answer (e ∷ f ∷ acts) by = absurd by

module _ (tells_notes tells_files : Bool) (number : ℕ) (c : Call) (answer : Turned) (old new : Sight) (t : TakesTurn tells_notes tells_files number c answer old new) where
  pub turn_grows : IsTrue tells_notes → Grows old.noted new.noted
  turn_grows told = record { added = t.added; whole = t.noted told }

  pub turn_adds : IsTrue tells_notes → Adds number (own number old.noted) (own number new.noted) c answer
  turn_adds told = subst (λ x. Adds number (own number old.noted) (own number x) c answer) (sym (t.noted told)) (laid_adds old.hall.moment number c answer t.added t.laid old.noted)

  stops_new : answer ≡ turned.Stopping → new.hall.stopped ≡ true
  stops_new is = by_why t.why
    where
      by_why : IsAnswered old.hall old.hall.moment number c answer t.added t.laid.acts → new.hall.stopped ≡ true
      by_why (inl away) = absurd (let no : turned.Stopping ≡ turned.Strange = sym is ∙ away.answered in cc)
      by_why (inr (inl stopped)) = stopped_on t.laid.acts old.hall new.hall t.clients stopped.stopped
      by_why (inr (inr served)) = served_stops old.hall.moment number c t.laid.acts old.hall new.hall (subst (λ a. ActsBy old.hall.moment number c a t.laid.acts) is served.act) t.clients

  pub turn_stopping : IsTied new.hall new.noted → StopsSeen new.noted answer
  turn_stopping tied = seen_of new.noted answer (λ is. sym tied.stopped ∙ stops_new is)

  pub turn_told : IsTied old.hall old.noted → MayCall number (own number old.noted) c → answer ≢ turned.Strange
  turn_told tied may = λ is. by_why is t.why
    where
      by_why : answer ≡ turned.Strange → IsAnswered old.hall old.hall.moment number c answer t.added t.laid.acts → ⊥
      by_why is (inl away) = false≢true (sym (may_fit c number (own number old.noted) may) ∙ ap (is_strange c) (sym (tied.clients number)) ∙ away.strange)
      by_why is (inr (inl stopped)) = absurd (let no : turned.Strange ≡ turned.Stopping = sym is ∙ stopped.answered in cc)
      by_why is (inr (inr served)) = served_fits old.hall.moment number c t.laid.acts (subst (λ a. ActsBy old.hall.moment number c a t.laid.acts) is served.act)

  pub turn_answers : IsAnswerTo c answer
  turn_answers = by_why t.why
    where
      by_why : IsAnswered old.hall old.hall.moment number c answer t.added t.laid.acts → IsAnswerTo c answer
      by_why (inl away) = subst (IsAnswerTo c) (sym away.answered) (strange_is c _ away.strange)
      by_why (inr (inl stopped)) = subst (IsAnswerTo c) (sym stopped.answered) (stopping_is c stopped.ends)
      by_why (inr (inr served)) = served_is old.hall.moment number c answer t.laid.acts served.act

-- so it is of a floor's turn
module _ {tells_notes tells_files tells_readings : Bool} {number : ℕ} {c : Call} {answer : Turned} {old new : Scene} (t : IsTurn tells_notes tells_files tells_readings number c answer old new) where
  pub scene_grows : IsTrue tells_notes → Grows old.notes new.notes
  scene_grows told = turn_grows tells_notes tells_files number c answer (seen_at old new.hall.moment) (seen new) t.takes told

  pub scene_adds : IsTrue tells_notes → Adds number (own number old.notes) (own number new.notes) c answer
  scene_adds told = turn_adds tells_notes tells_files number c answer (seen_at old new.hall.moment) (seen new) t.takes told

  pub scene_stopping : IsTied new.hall new.notes → StopsSeen new.notes answer
  scene_stopping tied = turn_stopping tells_notes tells_files number c answer (seen_at old new.hall.moment) (seen new) t.takes tied

  pub scene_told : IsTied old.hall old.notes → MayCall number (own number old.notes) c → answer ≢ turned.Strange
  scene_told tied may = turn_told tells_notes tells_files number c answer (seen_at old new.hall.moment) (seen new) t.takes (record { clients = tied.clients; begun = tied.begun; stopped = tied.stopped }) may

  pub scene_answers : IsAnswerTo c answer
  scene_answers = turn_answers tells_notes tells_files number c answer (seen_at old new.hall.moment) (seen new) t.takes
