-- What stands before an entry: in each turn what is due is moved first, until nothing is, or 64 moves were made, or a disk fault kept one off.
use Rattle.std.specs.Prelude.{◌≡◌, ◌⊎◌, ℕ, ◌+◌, ◌≤◌, ◌==◌, Bool, true, false, not, ◌&&◌, ◌||◌, if◌then◌else◌, [], ◌∷◌, reverse, is_some}
use Rattle.std.specs.List.{list_any}
use Rattle.nsq_outside.specs.declared.journal.End.{End}
use Rattle.broker_history.specs.declared.entry.Entry.{Entry}
use Rattle.broker_history.specs.State.{Topic, State}
use Rattle.broker_history.specs.Topics.{takes, owes, has_due}
use Rattle.broker_history.specs.Entries.{History, is_due_move, is_held, is_free_act, is_stop, is_stuck}

-- a move of this topic is due at a moment: it takes a message, or a channel is owed one, or a copy in one of its channels is due
abbrev pub is_topic_due : (at : ℕ) → Topic → Bool
is_topic_due at t = takes t || owes t.taken || has_due at t

-- a move is due at a moment; behind a Stop none is
abbrev pub is_any_due : State → (at : ℕ) → Bool
is_any_due s at = not s.stopped && list_any (is_topic_due at) s.topics

-- the most moves that a turn makes as they are due
abbrev pub most_moves : ℕ
most_moves = 64

-- the entry is a due move of this moment
abbrev pub is_moved_at : ℕ → Entry × End → Bool
is_moved_at at e = is_due_move e.0.act && (e.0.at == at)

-- of these entries, the last one first, so many at the front are due moves of this moment
abbrev pub moves_at_front : ℕ → History → ℕ
moves_at_front at [] = 0
moves_at_front at (e ∷ h) = if is_moved_at at e then moves_at_front at h + 1 else 0

-- the same behind what was held back
abbrev pub moves_in : ℕ → History → ℕ
moves_in at [] = 0
moves_in at (e ∷ h) = if is_held e.0.act then moves_in at h else moves_at_front at (e ∷ h)

-- how many due moves of this moment stand just before the end of a history, with nothing but held back ones between: a held back one may stand
-- behind all of them, and where one stands among them, those before it don't stand just before any more, and aren't counted
abbrev pub moves_before : (at : ℕ) → History → ℕ
moves_before at h = moves_in at (reverse h)

-- the entry is a stuck one of the daemon at this moment
abbrev pub is_stuck_at : ℕ → Entry × End → Bool
is_stuck_at at e = is_stuck e && (e.0.at == at)

-- of these entries, the last one first, the first is such a one, behind what was held back
abbrev pub stuck_in : ℕ → History → Bool
stuck_in at [] = false
stuck_in at (e ∷ h) = if is_stuck_at at e then true else (if is_held e.0.act then stuck_in at h else false)

-- a stuck entry of the daemon at this moment stands just before the end of a history, with nothing but held back ones between
abbrev pub stuck_before : (at : ℕ) → History → Bool
stuck_before at h = stuck_in at (reverse h)

-- the last entry of a history is such a one
abbrev pub first_stuck : ℕ → History → Bool
first_stuck at [] = false
first_stuck at (e ∷ h) = is_stuck_at at e

abbrev pub stuck_last : (at : ℕ) → History → Bool
stuck_last at h = first_stuck at (reverse h)

-- behind this history, which led to this state, a turn of this moment may make its act: no move is due, or as many as a turn makes stand just
-- before, or one got stuck
abbrev pub MayAct : History → State → (at : ℕ) → Type 0
MayAct h s at = (is_any_due s at ≡ false) ⊎ ((most_moves ≤ moves_before at h) ⊎ (stuck_before at h ≡ true))

-- a topic has taken a message, of which a channel is owed a copy
abbrev pub is_any_taken : State → Bool
is_any_taken s = list_any (λ (t : Topic). is_some t.taken) s.topics

-- a Stop pays all that is owed, however much it is, unless a disk fault kept it from that just before
abbrev pub MayStop : History → State → (at : ℕ) → Type 0
MayStop h s at = (is_any_taken s ≡ false) ⊎ (stuck_last at h ≡ true)

-- what is due was moved before the entry, as far as it has to be; moves and the daemon's Stuck stand anywhere
pub record IsPaid (h : History) (s : State) (e : Entry × End) : Type 0 where
  pub moved : (is_free_act e.0.act ≡ true) ⊎ MayAct h s e.0.at
  pub paid : (is_stop e.0.act ≡ false) ⊎ MayStop h s e.0.at
