-- What a turn that ticks notes.
use Rattle.std.proofs.Common.{ℕ, ◌≡◌, ◌≤◌, ◌+◌, ◌++◌, ◌∷◌, [], Bool, true, refl, ◌∙◌, ap, arith}
use Rattle.std.specs.Prelude.{IsTrue}
use Rattle.nsq_outside.specs.declared.journal.End.{End}
use Rattle.broker_history.specs.declared.entry.Entry.{Entry}
use Rattle.broker_history.specs.Entries.{History, is_tick}
use Rattle.broker_history.specs.Answers.{TicksNoted, ticks_of}
use Rattle.broker_history.specs.declared.call.Call.{Call}
use Rattle.broker_history.specs.declared.call.Call.TheVariants as call
use Rattle.broker_history.specs.declared.turned.Turned.{Turned}
use Rattle.broker_history.specs.declared.turned.Turned.TheVariants as turned
use Rattle.floor_laws.specs.Laid.{AreActsFor, IsLaid}
use Rattle.floor_laws.proofs.Ticking.{ticks-append}
use Rattle.floor_serving.specs.Scenes.{Scene}
use Rattle.floor_serving.specs.Turns.{IsTurn}

one_tick : (e : Entry × End) → is_tick e.0.act ≡ true → ticks_of (e ∷ []) ≡ 1
one_tick e f = rw f refl

-- a tick that was answered Quiet was noted
ticked_acts : (at number : ℕ) (acts : History) → AreActsFor at number call.Tick turned.Quiet acts → ticks_of acts ≡ 1
ticked_acts at number [] a = absurd a
ticked_acts at number (e ∷ []) a = one_tick e (ap is_tick a.answers)
ticked_acts at number (e ∷ f ∷ h) a = absurd a

ticked_laid : (at number : ℕ) (h h' added : History) → h' ≡ h ++ added → IsLaid at number call.Tick turned.Quiet added → ticks_of h + 1 ≤ ticks_of h'
ticked_laid at number h h' added whole laid =
    let front = laid.moves ++ laid.stuck in
    let act : ticks_of laid.acts ≡ 1 = ticked_acts at number laid.acts laid.act in
    let parts : ticks_of added ≡ ticks_of front + (ticks_of laid.held + ticks_of laid.acts) = ap ticks_of laid.whole ∙ ticks-append front (laid.held ++ laid.acts) ∙ ap (λ x. ticks_of front + x) (ticks-append laid.held laid.acts) in
    let both : ticks_of h' ≡ ticks_of h + ticks_of added = ap ticks_of whole ∙ ticks-append h added in
    omega (arith, act, parts, both)

-- what a turn notes of ticks, by its answer
pub turn_ticks : (tells_notes tells_files tells_readings : Bool) (number : ℕ) (t : Turned) (c : Call) (old new : Scene) → IsTrue tells_notes → IsTurn tells_notes tells_files tells_readings number c t old new → TicksNoted t c old.notes new.notes
turn_ticks tells_notes tells_files tells_readings number turned.Quiet call.Tick old new told turn = let t = turn.takes in ticked_laid new.hall.moment number old.notes new.notes t.added (t.noted told) t.laid
turn_ticks tells_notes tells_files tells_readings number turned.Quiet c old new told turn = tt
turn_ticks tells_notes tells_files tells_readings number t c old new told turn = tt
