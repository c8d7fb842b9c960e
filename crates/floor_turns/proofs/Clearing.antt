-- What was paid allows the turn's act.
use Rattle.std.proofs.Common.{◌≡◌, inl, inr, ◌<◌, ℕ, Bool, true, false, ◌&&◌, List, [], Option, Some, None, is_none, is_some, refl, ap, subst, ◌∙◌, arith}
use Rattle.std.specs.List.{Contains}
use Rattle.std.proofs.lemmas.Bool.{false≢true}
use Rattle.nsq_outside.specs.Files.{Files}
use Rattle.broker_history.specs.State.{State, Topic}
use Rattle.broker_history.specs.Before.{is_any_taken}
use Rattle.topic_core.proofs.Waiting.{from_settled}
use Rattle.floor_laws.proofs.Pairs.{pairs_none}
use Rattle.floor_rooms.specs.declared.room.Room.{Room}
use Rattle.floor_rooms.specs.declared.hall.Hall.{Hall}
use Rattle.floor_rooms.specs.Rooms.{topic_name}
use Rattle.floor_rooms.specs.Sound.{IsRoomSound, IsSound, rests}
use Rattle.floor_rooms.specs.Standing.{HoldsFor, IsRoomOf}
use Rattle.floor_rooms.proofs.Quieting.{none_due}
use Rattle.floor_laws.proofs.Allowing.{moves_allow, stuck_allows, stuck_stops}
use Rattle.floor_turns.specs.declared.paying.Paid.TheVariants as paid
use Rattle.floor_turns.specs.Paying.{PaidMayAct, PaidMayStop}

-- a topic that isn't listed where nothing is has nothing to pay
unlisted : (name : List ℕ) (listed : Bool) → (listed ≡ true → Contains [] name) → listed ≡ false
unlisted name false h = refl
unlisted name true h = let in_none = h refl in let within = in_none.1 in absurd (let no : ⊥ = omega (arith, within) in no)

first_part : (a b : Bool) → (a && b) ≡ true → a ≡ true
first_part true b e = refl
first_part false b e = absurd (false≢true e)

no_head : {X : Type 0} (head : Option X) → is_none head ≡ true → head ≡ None
no_head None e = refl
no_head (Some x) e = absurd (false≢true e)

room_paid : (h : Hall) (files : Files) → h.pending.items ≡ [] → (r : Room) (t : Topic) → IsRoomSound h r → IsRoomOf files r t → is_some t.taken ≡ false
room_paid h files none r t sound is =
    let rest : rests r ≡ true = sound.rests (unlisted (topic_name r) r.listed (λ e. subst (λ xs. Contains xs (topic_name r)) none (sound.listed e))) in
    let settled = from_settled r.queue files t sound.settled is.queue in
    ap is_some (settled.taken ∙ no_head r.queue.head (first_part (is_none r.queue.head) _ rest))

pub none_taken : (h : Hall) (files : Files) (s : State) → IsSound h → HoldsFor h files s → h.pending.items ≡ [] → is_any_taken s ≡ false
none_taken h files s sound holds none = pairs_none (IsRoomOf files) (IsRoomSound h) (λ t. is_some t.taken) h.rooms.items s.topics (room_paid h files none) sound.rooms holds.stands.topics

pub paid_may_act : PaidMayAct
paid_may_act tells_notes tells_files most old new paid.Clear pays enough some sound same t holds =
    λ held u back calm.
    moves_allow old.hall.moment pays.extends.added held u pays.extends.is.moved back
    (inl (calm (none_due new.hall new.files t old.hall.moment sound holds (subst (λ at. at < new.hall.quiet_until) same pays.leaves.quiet) pays.leaves.none)))
paid_may_act tells_notes tells_files most old new paid.Most pays enough some sound same t holds =
    λ held u back calm. moves_allow old.hall.moment pays.extends.added held u pays.extends.is.moved back (inr (let count = pays.extends.is.count in omega (arith, enough, count)))
paid_may_act tells_notes tells_files most old new paid.Stuck pays enough some sound same t holds = λ held u back calm. stuck_allows old.hall.moment most pays.extends.added held u pays.extends.is back
paid_may_act tells_notes tells_files most old new paid.Wants pays enough some sound same t holds = absurd (some refl)

pub paid_may_stop : PaidMayStop
paid_may_stop tells_notes tells_files most old new paid.Clear pays some less sound t holds = inl (none_taken new.hall new.files t sound holds pays.leaves.none)
paid_may_stop tells_notes tells_files most old new paid.Most pays some less sound t holds = absurd (less refl)
paid_may_stop tells_notes tells_files most old new paid.Stuck pays some less sound t holds = stuck_stops old.hall.moment most pays.extends.added t pays.extends.is
paid_may_stop tells_notes tells_files most old new paid.Wants pays some less sound t holds = absurd (some refl)
