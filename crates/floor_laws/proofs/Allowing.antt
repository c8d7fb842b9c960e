-- What was paid allows the turn's act, also behind what was held back.
use Rattle.std.proofs.Common.{◌≡◌, ◌⊎◌, inl, inr, ℕ, ◌+◌, ◌<◌, ◌≤◌, Bool, true, false, not, ◌&&◌, ◌||◌, nat_le, if◌then◌else◌, List, [], ◌∷◌, ◌++◌, length, Option, Some, None, is_none, refl, sym, ap, subst, ◌∙◌, arith}
use Rattle.std.specs.List.{AllByRecursion, list_any, filter, find}
use Rattle.std.specs.Str.{bytes_eq}
use Rattle.std.proofs.lemmas.Bool.{false≢true, leb-true}
use Rattle.std.proofs.lemmas.List.Folds.{list_any-append}
use Rattle.nsq_outside.specs.declared.journal.End.{End}
use Rattle.nsq_outside.specs.declared.journal.End.TheVariants.{Done}
use Rattle.nsq_base.specs.Names.{is_before, put_by}
use Rattle.broker_history.specs.declared.entry.Act.{Act}
use Rattle.broker_history.specs.declared.entry.Act.TheVariants.{HeldBack}
use Rattle.broker_history.specs.declared.entry.Entry.{Entry}
use Rattle.broker_history.specs.State.{Place, Copy, Channel, Topic, State, is_due, is_empty, topic_of, channel_of, with_channel}
use Rattle.broker_history.specs.Channels.{Moves, HoldsBack}
use Rattle.broker_history.specs.Topics.{takes, owes, has_due}
use Rattle.broker_history.specs.Changes.{AtTopic, InChannel}
use Rattle.broker_history.specs.Entries.{History, is_held}
use Rattle.broker_history.specs.Before.{MayAct, MayStop, is_any_due, is_topic_due, is_moved_at, moves_before, stuck_before, stuck_last, most_moves}
use Rattle.broker_history.specs.Step.{DoesAct, Step}
use Rattle.floor_laws.specs.Paying.{AreMoves, AreHeld}
use Rattle.floor_laws.proofs.Paying.{moves_counted, stuck_seen, stuck_ends}
use Rattle.floor_laws.specs.Laid.{IsMoved, AreMoved, IsHeld, AreHeldBack, EndsStuck}
use Rattle.floor_laws.proofs.Laying.{all_so}

pub moved_moves : (at : ℕ) (h : History) → AreMoved at h → AreMoves at h
moved_moves at h a = all_so (IsMoved at) (λ e. is_moved_at at e ≡ true) h (λ e m. m.moved) a

pub held_held : (at : ℕ) (h : History) → AreHeldBack at h → AreHeld h
held_held at h a = all_so (IsHeld at) (λ e. is_held e.0.act ≡ true) h (λ e m. m.held) a

-- no move is due, or as many were made as a turn makes
pub moves_allow : (at : ℕ) (moves held : History) (s : State) → AreMoved at moves → AreHeldBack at held → (is_any_due s at ≡ false) ⊎ (most_moves ≤ length moves) → MayAct (moves ++ held) s at
moves_allow at moves held s a b (inl calm) = inl calm
moves_allow at moves held s a b (inr most) = inr (inl (let same : moves_before at (moves ++ held) ≡ length moves = moves_counted at moves held (moved_moves at moves a) (held_held at held b) in omega (arith, most, same)))

-- one got stuck
pub stuck_allows : (at most : ℕ) (h held : History) (s : State) → EndsStuck at most h → AreHeldBack at held → MayAct (h ++ held) s at
stuck_allows at most h held s e b = inr (inr (subst (λ x. stuck_before at (x ++ held) ≡ true) (sym e.whole) (stuck_seen at e.moves held e.entry e.stuck (held_held at held b))))

pub stuck_stops : (at most : ℕ) (h : History) (s : State) → EndsStuck at most h → MayStop h s at
stuck_stops at most h s e = inr (subst (λ x. stuck_last at x ≡ true) (sym e.whole) (stuck_ends at e.moves e.entry e.stuck))

-- what passes no test in a list passes none where some go, and where one that passes none is put
or_no : (a b : Bool) → (a || b) ≡ false → (a ≡ false) × (b ≡ false)
or_no false b h = (refl, h)
or_no true b h = absurd (false≢true (sym h))

and_or : (a b : Bool) → a ≡ false → b ≡ false → (a || b) ≡ false
and_or false b h k = k
and_or true b h k = absurd (false≢true (sym h))

module _ {X : Type 0} (p : X → Bool) where
  kept_no : (x : X) (xs : List X) (b : Bool) → p x ≡ false → list_any p xs ≡ false → list_any p (if b then x ∷ xs else xs) ≡ false
  kept_no x xs true h k = and_or (p x) (list_any p xs) h k
  kept_no x xs false h k = k

  filter_no : (q : X → Bool) (xs : List X) → list_any p xs ≡ false → list_any p (filter q xs) ≡ false
  filter_no q [] h = refl
  filter_no q (x ∷ xs) h = let both = or_no (p x) (list_any p xs) h in kept_no x (filter q xs) (q x) both.0 (filter_no q xs both.1)

  put_no : (key : X → List ℕ) (xs : List X) (x : X) → list_any p xs ≡ false → p x ≡ false → list_any p (put_by key xs x) ≡ false
  put_no key xs x h k =
      list_any-append p (filter (λ y. is_before (key y) (key x)) xs) (x ∷ filter (λ y. is_before (key x) (key y)) xs)
      ∙ and_or (list_any p (filter (λ y. is_before (key y) (key x)) xs)) (list_any p (x ∷ filter (λ y. is_before (key x) (key y)) xs)) (filter_no (λ y. is_before (key y) (key x)) xs h)
      (and_or (p x) (list_any p (filter (λ y. is_before (key x) (key y)) xs)) k (filter_no (λ y. is_before (key x) (key y)) xs h))

  one_no : (q : X → Bool) (x y : X) (xs : List X) (b : Bool) → q x ≡ b → (p x || list_any p xs) ≡ false → (list_any p xs ≡ false → find q xs ≡ Some y → p y ≡ false) → (if b then Some x else find q xs) ≡ Some y → p y ≡ false
  one_no q x y xs true e h g f = let same : x ≡ y = cc in subst (λ z. p z ≡ false) same (or_no (p x) (list_any p xs) h).0
  one_no q x y xs false e h g f = g (or_no (p x) (list_any p xs) h).1 f

  -- what is found passes none
  found_no : (q : X → Bool) (xs : List X) (y : X) → list_any p xs ≡ false → find q xs ≡ Some y → p y ≡ false
  found_no q [] y h f = absurd cc
  found_no q (x ∷ xs) y h f = one_no q x y xs (q x) refl h (λ h f. found_no q xs y h f) f

  -- one that becomes another that passes none
  become_no : (before after : List X) (x y : X) → list_any p (before ++ x ∷ after) ≡ false → p y ≡ false → list_any p (before ++ y ∷ after) ≡ false
  become_no [] after x y h k = and_or (p y) (list_any p after) k (or_no (p x) (list_any p after) h).1
  become_no (b ∷ before) after x y h k = let both = or_no (p b) (list_any p (before ++ x ∷ after)) h in and_or (p b) (list_any p (before ++ y ∷ after)) both.0 (become_no before after x y both.1 k)

-- a channel's list isn't empty where a channel is found in it, or was put
not_empty : {X : Type 0} (q : X → Bool) (xs : List X) (x : X) → find q xs ≡ Some x → is_empty xs ≡ false
not_empty q [] x h = absurd cc
not_empty q (y ∷ xs) x h = refl

with_one : {X : Type 0} (xs ys : List X) (x : X) → is_empty (xs ++ x ∷ ys) ≡ false
with_one [] ys x = refl
with_one (y ∷ xs) ys x = refl

later_not : (at span : ℕ) → 0 < span → nat_le (at + span) at ≡ false
later_not at span h = not_le (nat_le (at + span) at) refl
  where
    not_le : (b : Bool) → nat_le (at + span) at ≡ b → b ≡ false
    not_le true e = absurd (let d = leb-true (at + span) at e in let none : ⊥ = omega (arith, d, h) in none)
    not_le false e = refl

-- a copy that is held back isn't due
held_channel_calm : (id : List ℕ) (at span : ℕ) (k k' : Channel) → 0 < span → HoldsBack Moves id (at + span) k k' → list_any (λ x. is_due at x.place) k.copies ≡ false → list_any (λ x. is_due at x.place) k'.copies ≡ false
held_channel_calm id at span k k' long row calm =
    let none : is_due at row.moves.to.place ≡ false = ap (λ (x : Copy). is_due at x.place) row.moves.row.goes ∙ later_not at span long in
    ap (list_any (λ x. is_due at x.place)) row.moves.is
    ∙ become_no (λ x. is_due at x.place) row.moves.before row.moves.after row.moves.from row.moves.to (sym (ap (list_any (λ x. is_due at x.place)) row.moves.was) ∙ calm) none

held_topic_calm : (channel id : List ℕ) (at span : ℕ) (t t' : Topic) → 0 < span → InChannel channel (HoldsBack Moves id (at + span)) t t' → is_topic_due at t ≡ false → is_topic_due at t' ≡ false
held_topic_calm channel id at span t t' long row calm =
    let both = or_no (takes t || owes t.taken) (has_due at t) calm in
    let first = or_no (takes t) (owes t.taken) both.0 in
    let due : Channel → Bool = λ c. list_any (λ x. is_due at x.place) c.copies in
    let from : due row.from ≡ false = found_no due (λ (c : Channel). bytes_eq channel c.name) t.channels row.from both.1 row.there in
    let to : due row.to ≡ false = held_channel_calm id at span row.from row.to long row.row from in
    let channels : list_any due (put_by (λ (c : Channel). c.name) t.channels row.to) ≡ false = put_no due (λ (c : Channel). c.name) t.channels row.to both.1 to in
    let was : is_empty t.channels ≡ false = not_empty (λ (c : Channel). bytes_eq channel c.name) t.channels row.from row.there in
    let now : is_empty (put_by (λ (c : Channel). c.name) t.channels row.to) ≡ false = with_one _ _ row.to in
    ap (is_topic_due at) row.is
    ∙ and_or (takes (with_channel t row.to) || owes t.taken) (list_any due (put_by (λ (c : Channel). c.name) t.channels row.to))
    (and_or (takes (with_channel t row.to)) (owes t.taken) (ap (λ b. ((not t.paused && not b) && not (is_empty t.waiting)) && is_none t.taken) (now ∙ sym was) ∙ first.0) first.1)
    channels

when_running : (stopped : Bool) (a b : Bool) → (a ≡ false → b ≡ false) → (not stopped && a) ≡ false → (not stopped && b) ≡ false
when_running true a b f h = refl
when_running false a b f h = f h

held_state_calm : (topic channel id : List ℕ) (at span : ℕ) (s t : State) → 0 < span → AtTopic topic (InChannel channel (HoldsBack Moves id (at + span))) s t → is_any_due s at ≡ false → is_any_due t at ≡ false
held_state_calm topic channel id at span s t long row calm =
    ap (λ (x : State). is_any_due x at) row.is
    ∙ when_running s.stopped (list_any (is_topic_due at) s.topics) (list_any (is_topic_due at) (put_by (λ (u : Topic). u.name) s.topics row.new))
    (λ none. put_no (is_topic_due at) (λ (u : Topic). u.name) s.topics row.new none (held_topic_calm channel id at span row.old row.new long row.row (found_no (is_topic_due at) (λ (u : Topic). bytes_eq topic u.name) s.topics row.old none row.there))) calm

held_act_calm : (s t : State) (at n : ℕ) (act : Act) → is_held act ≡ true → 0 < s.options.msg_timeout → DoesAct s at n act Done t → is_any_due s at ≡ false → is_any_due t at ≡ false
held_act_calm s t at n (HeldBack topic channel id) h long d calm = held_state_calm topic channel id at s.options.msg_timeout s t long d calm
held_act_calm s t at n act h long d calm = absurd (false≢true h)

-- what is held back leaves no more due
pub held_calm : (s u : State) (e : Entry × End) → Step s e u → is_held e.0.act ≡ true → e.1 ≡ Done → 0 < s.options.msg_timeout → is_any_due s e.0.at ≡ false → is_any_due u e.0.at ≡ false
held_calm s u e step h done long calm =
    ap (λ (x : State). is_any_due x e.0.at) step.is
    ∙ held_act_calm s step.between e.0.at e.0.conn e.0.act h long (subst (λ end. DoesAct s e.0.at e.0.conn e.0.act end step.between) done step.does) calm
