-- A turn of the daemon that ticks, from what any turn tells.
use Rattle.std.proofs.Common.{inl, inr, ◌≡◌, Bool, true, false, sym, ◌∙◌, ap, subst}
use Rattle.std.proofs.lemmas.Bool.{false≢true}
use Rattle.broker_history.specs.Entries.{History, is_common}
use Rattle.broker_history.specs.Answers.{Adds, Answers, StopsSeen, TicksNoted}
use Rattle.broker_history.specs.declared.call.Call.TheVariants as call
use Rattle.broker_history.specs.declared.turned.Turned.{Turned}
use Rattle.broker_history.specs.declared.turned.Turned.TheVariants as turned
use Rattle.daemon_tick.specs.Ticks.{IsTicked, ticked_of}
use Rattle.daemon_tick.specs.declared.ticking.Ticked.{Ticked}

-- a tick brings no entry of the daemon's own
pub tick_adds : (own own' : History) (t : Turned) → Adds 0 own own' call.Tick t → own' ≡ own
tick_adds own own' t (inl a) = a.0
tick_adds own own' t (inr j) = go t j.answers j.apart
  where
    go : (t : Turned) → Answers call.Tick j.entry t → is_common j.entry.0.act ≡ false → own' ≡ own
    go turned.Quiet a apart = absurd (false≢true (sym apart ∙ ap is_common a))
    go t a apart = absurd a

-- it was noted, or a Stop is seen
tick_seen : (h h' : History) (t : Turned) → TicksNoted t call.Tick h h' → StopsSeen h' t → IsTicked (ticked_of t) h h'
tick_seen h h' turned.Quiet noted seen = noted
tick_seen h h' turned.Stopping noted seen = seen
tick_seen h h' t noted seen = tt

pub ticked_so : (h h' : History) (t : Turned) (answer : Ticked) → answer ≡ ticked_of t → TicksNoted t call.Tick h h' → StopsSeen h' t → IsTicked answer h h'
ticked_so h h' t answer is noted seen = subst (λ a. IsTicked a h h') (sym is) (tick_seen h h' t noted seen)
