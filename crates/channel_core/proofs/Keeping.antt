-- What every channel keeps, through a call.
use Rattle.std.proofs.Common.{◌≡◌, ◌≢◌, ℕ, ◌+◌, ◌*◌, ◌≤◌, Bool, true, false, not, List, length, Option, Some, None, Result, Ok, Err, OnOk, refl, sym, ap, ◌∙◌, subst, arith}
use Rattle.std.specs.Prelude.{is_some, IsSome, IfSome}
use Rattle.nsq_outside.specs.Files.{Files}
use Rattle.v2_frame.specs.declared.message.Message.{Message}
use Rattle.backlog.specs.Queues.{Seen as Queue}
use Rattle.backlog.specs.Seen.{Seen as Backlog, FitsLimit, SameQueue, undone}
use Rattle.backlog.specs.declared.backlog.Lent.TheVariants as lending
use Rattle.backlog.specs.declared.answers.PutOne.{PutOne}
use Rattle.broker_history.specs.State.{is_ephemeral_channel}
use Rattle.channel_copies.specs.declared.flight.Flight.{Flight}
use Rattle.channel_copies.specs.Flights.{CostsCalls, Flying, flights_of_id}
use Rattle.channel_copies.specs.Deferred.{Deferring, Waiting}
use Rattle.channel_copies.specs.Putting.{Around, KeepsDisk, Puts, around}
use Rattle.channel_copies.proofs.Capacity.{put_capacity}
use Rattle.channel_core.specs.declared.about.About.{About}
use Rattle.channel_core.specs.declared.drawn.Sending.{Sending}
use Rattle.channel_core.specs.declared.drawn.Drawn.{Drawn}
use Rattle.channel_core.specs.declared.drawn.Drawn.TheVariants.{Nothing, ToSend, ToHold}
use Rattle.channel_core.specs.Kept.{CanSend, CanHold, CanSettle, IsBacklogOf, IsWhole}
use Rattle.channel_core.specs.Costs.{CostsDeferred, CostsFlying, CostsHeaps}
use Rattle.channel_core.specs.Seen.{Seen}

module _ {about : About} {b : Backlog} {flying : Flying} {deferring : Deferring} {d : Drawn} where
  -- where nothing is drawn the backlog has lent nothing
  pub nothing_lent : d ≡ Nothing → IsWhole about b flying deferring d → b.lent ≡ lending.Nothing
  nothing_lent is w = subst (λ d. CanSettle d b.lent flying deferring.spare) is w.settles

  pub to_send : (s : Sending) → d ≡ ToSend s → IsWhole about b flying deferring d → CanSend b.lent flying deferring.spare s
  to_send s is w = subst (λ d. CanSettle d b.lent flying deferring.spare) is w.settles

  pub to_hold : (held : Message) (now : ℕ) → d ≡ ToHold held now → IsWhole about b flying deferring d → CanHold b.lent flying deferring.spare held
  to_hold held now is w = subst (λ d. CanSettle d b.lent flying deferring.spare) is w.settles

  -- a call after which nothing is drawn leaves it whole where there is room
  pub still_whole : (b' : Backlog) (flying' : Flying) (deferring' : Deferring) (d' : Drawn) → IsWhole about b flying deferring d → IsBacklogOf about b' → d' ≡ Nothing → b'.lent ≡ lending.Nothing → length flying'.flights ≤ deferring'.spare → IsWhole about b' flying' deferring' d'
  still_whole b' flying' deferring' d' w named is none room = record {
    named = named;
    room = room;
    msg_timeout = w.msg_timeout;
    max_msg_timeout = w.max_msg_timeout;
    settles = subst (λ d. CanSettle d b'.lent flying' deferring'.spare) (sym is) none;
  }

  -- and so does a drawing, where there is room to settle it
  pub ready_to_send : (b' : Backlog) (s : Sending) → IsWhole about b flying deferring d → IsBacklogOf about b' → b'.lent ≢ lending.Nothing → flights_of_id s.id flying.flights ≡ 0 → 1 ≤ flying.spare → length flying.flights + 1 ≤ deferring.spare → IsWhole about b' flying deferring (ToSend s)
  ready_to_send b' s w named lent free flies room = record {
    named = named;
    room = w.room;
    msg_timeout = w.msg_timeout;
    max_msg_timeout = w.max_msg_timeout;
    settles = record { lent = lent; free = free; flying = flies; deferred = room };
  }

  pub ready_to_hold : (b' : Backlog) (held : Message) (now : ℕ) → IsWhole about b flying deferring d → IsBacklogOf about b' → b'.lent ≢ lending.Nothing → flights_of_id held.id flying.flights ≡ 1 → FitsLimit held → length flying.flights + 1 ≤ deferring.spare → IsWhole about b' flying deferring (ToHold held now)
  ready_to_hold b' held now w named lent flies short room = record {
    named = named;
    room = w.room;
    msg_timeout = w.msg_timeout;
    max_msg_timeout = w.max_msg_timeout;
    settles = record { lent = lent; flies = flies; short = short; deferred = room };
  }

-- the backlog is the channel's still where its queue has the same name, and its ring holds as many
same_some : (q r : Option Queue) → SameQueue q r → is_some r ≡ is_some q
same_some None None same = refl
same_some None (Some r) same = absurd same
same_some (Some q) None same = absurd same
same_some (Some q) (Some r) same = refl

same_name : (q r : Option Queue) (name : List ℕ) → SameQueue q r → IfSome q (λ q. q.name ≡ name) → IfSome r (λ r. r.name ≡ name)
same_name None None name same h = h
same_name None (Some r) name same h = absurd same
same_name (Some q) None name same h = absurd same
same_name (Some q) (Some r) name same h = same.name ∙ h

pub still_named : (about : About) (b b' : Backlog) → IsBacklogOf about b → SameQueue b.queue b'.queue → b'.capacity ≡ b.capacity → IsBacklogOf about b'
still_named about b b' w same capacity = record {
  capacity = capacity ∙ w.capacity;
  durable = same_some b.queue b'.queue same ∙ w.durable;
  queue = same_name b.queue b'.queue _ same w.queue;
}

pub put_named : {tells : Bool} {m : Message} {answer : PutOne} {about : About} (old new : Around) → IsBacklogOf about old.backlog → Puts tells m answer old new → IsBacklogOf about new.backlog
put_named {m = m} {answer = answer} {about = about} old new w p = still_named about old.backlog new.backlog w p.queue (put_capacity old.backlog new.backlog m answer p.seen)

pub undo_named : (about : About) (b b' : Backlog) (m : Message) → IsBacklogOf about b → b' ≡ undone b m → IsBacklogOf about b'
undo_named about b b' m w is = subst (IsBacklogOf about) (sym is) (record { capacity = w.capacity; durable = w.durable; queue = w.queue })

-- a durable channel has a queue on disk
is_durable : (queue : Option Queue) (e : Bool) → is_some queue ≡ not e → e ≡ false → IsSome queue
is_durable (Some q) e is not_e = refl
is_durable None true is not_e = absurd (let no : ⊥ = cc in no)
is_durable None false is not_e = absurd (let no : ⊥ = cc in no)

pub durable_queue : (about : About) (b : Backlog) → IsBacklogOf about b → is_ephemeral_channel about.topic about.name ≡ false → IsSome b.queue
durable_queue about b w durable = is_durable b.queue (is_ephemeral_channel about.topic about.name) w.durable durable

-- steps, by what is seen whole
pub costs_flying : (calls before now : ℕ) {v0 v : Seen} → v0 ≡ v → CostsFlying calls v0 before now → CostsFlying calls v before now
costs_flying calls before now is c = subst (λ (u : Seen). CostsFlying calls u before now) is c

pub costs_deferred : (calls before now : ℕ) {v0 v : Seen} → v0 ≡ v → CostsDeferred calls v0 before now → CostsDeferred calls v before now
costs_deferred calls before now is c = subst (λ (u : Seen). CostsDeferred calls u before now) is c

-- no call
pub costs_none : (calls items before : ℕ) → CostsCalls calls items before before
costs_none calls items before = λ d few. omega arith

-- of both heaps, one after the other
one_more : (before mid now x y : ℕ) → mid ≤ before + x → now ≤ mid + y → now ≤ before + (x + y)
one_more before mid now x y a b = omega (arith, a, b)

pub costs_both : (flying deferring before mid now : ℕ) {v0 v : Seen} → v0 ≡ v → CostsFlying flying v0 before mid → CostsDeferred deferring v0 mid now → CostsHeaps flying deferring v before now
costs_both flying deferring before mid now {v0} {v} is a b = subst (λ (u : Seen). CostsHeaps flying deferring u before now) is (λ d e few less. one_more before mid now (flying * (2 * d + 2)) (deferring * (2 * e + 2)) (a d few) (b e less))

-- of all copies, or of all in flight alone
pub costs_all : (before mid now : ℕ) {v0 v : Seen} → v0 ≡ v → CostsFlying (length v0.flights) v0 before mid → CostsDeferred (length v0.deferred) v0 mid now → CostsHeaps (length v.flights) (length v.deferred) v before now
costs_all before mid now {v0} {v} is a b = subst (λ (u : Seen). CostsHeaps (length u.flights) (length u.deferred) u before now) is (costs_both (length v0.flights) (length v0.deferred) before mid now {v0 = v0} {v = v0} refl a b)

no_more : (before now x y : ℕ) → now ≤ before + x → now ≤ before + (x + y)
no_more before now x y a = omega (arith, a)

pub costs_first : (before now : ℕ) {v0 v : Seen} → v0 ≡ v → CostsFlying (length v0.flights) v0 before now → CostsHeaps (length v.flights) (length v.deferred) v before now
costs_first before now {v0} {v} is a = subst (λ (u : Seen). CostsHeaps (length u.flights) (length u.deferred) u before now) is (λ d e few less. no_more before now (length v0.flights * (2 * d + 2)) (length v0.deferred * (2 * e + 2)) (a d few))

-- what a call leaves alone of the backlog, by what is seen whole
pub keeps_of : {tells : Bool} (files : Files) (faults : ℕ) (b : Around) {v0 v : Seen} → v0 ≡ v → KeepsDisk tells (around v0.backlog files faults) b → KeepsDisk tells (around v.backlog files faults) b
keeps_of {tells} files faults b is k = subst (λ (u : Seen). KeepsDisk tells (around u.backlog files faults) b) is k

-- what changed, where of the backlog only the queue did
pub queue_rest : (v0 v w : Seen) → v0 ≡ v → w.backlog ≡ record v0.backlog { queue = w.backlog.queue } → w ≡ record v0 { backlog = w.backlog } → w ≡ record v { backlog = record v.backlog { queue = w.backlog.queue } }
queue_rest v0 v w is queue rest = rest ∙ (ap (λ (b : Backlog). record v0 { backlog = b }) queue ∙ ap (λ (u : Seen). record u { backlog = record u.backlog { queue = w.backlog.queue } }) is)

-- what a call changes that makes room for deferred copies and finds no memory
pub had_none : {v0 v : Seen} → v0 ≡ v → (waiting : List Waiting) (spare : ℕ) → waiting ≡ v0.deferred → record v0 { deferred = waiting; deferred_spare = spare } ≡ record v { deferred_spare = spare }
had_none {v0} {v} is waiting spare same = ap (λ ws. record v0 { deferred = ws; deferred_spare = spare }) same ∙ ap (λ (u : Seen). record u { deferred_spare = spare }) is

-- and one that makes room for a copy in flight too
pub room_rest : (v r : Seen) → r ≡ record v { spare = r.spare; deferred_spare = r.deferred_spare } → r ≡ record v { backlog = r.backlog; drawn = r.drawn; spare = r.spare; deferred_spare = r.deferred_spare }
room_rest v r is =
    is
    ∙ (ap (λ b. record v { backlog = b; spare = r.spare; deferred_spare = r.deferred_spare }) (sym (ap (λ (u : Seen). u.backlog) is))
    ∙ ap (λ d. record v { backlog = r.backlog; drawn = d; spare = r.spare; deferred_spare = r.deferred_spare }) (sym (ap (λ (u : Seen). u.drawn) is)))

-- what making room for copies in flight and for deferred ones changes
pub had_room : {v0 v : Seen} → v0 ≡ v → (flights : List Flight) (waiting : List Waiting) (spare deferred_spare : ℕ) → flights ≡ v0.flights → waiting ≡ v0.deferred
    → record v0 { flights = flights; deferred = waiting; spare = spare; deferred_spare = deferred_spare } ≡ record v { spare = spare; deferred_spare = deferred_spare }
had_room {v0} {v} is flights waiting spare deferred_spare fly wait =
    ap (λ fs. record v0 { flights = fs; deferred = waiting; spare = spare; deferred_spare = deferred_spare }) fly
    ∙ (ap (λ ws. record v0 { deferred = ws; spare = spare; deferred_spare = deferred_spare }) wait ∙ ap (λ (u : Seen). record u { spare = spare; deferred_spare = deferred_spare }) is)

-- what follows from what a call does where it succeeds
pub when_ok : {T E P Q : Type 0} (r : Result T E) → (P → Q) → OnOk r P → OnOk r Q
when_ok (Ok x) f h = f h
when_ok (Err e) f h = tt
