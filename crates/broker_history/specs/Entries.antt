-- Histories, and which kind of thing an entry is.
use Rattle.std.specs.Prelude.{◌≡◌, ℕ, ◌+◌, ◌==◌, Bool, true, false, not, ◌&&◌, ◌||◌, if◌then◌else◌, List, [], ◌∷◌, length, filter, None}
use Rattle.std.specs.List.{list_any}
use Rattle.nsq_outside.specs.declared.journal.End.{End}
use Rattle.nsq_outside.specs.declared.journal.End.TheVariants.{Faulted}
use Rattle.broker_history.specs.declared.entry.Act.{Act}
use Rattle.broker_history.specs.declared.entry.Act.TheVariants.{Began, Gone, Ticked, Stop, Took, Copied, TimedOut, CameDue, HeldBack, Stuck}
use Rattle.broker_history.specs.declared.entry.Entry.{Entry}

-- entries with their ends, in order
abbrev pub History : Type 0
History = List (Entry × End)

-- the act is a move that comes as it is due
abbrev pub is_due_move : Act → Bool
is_due_move (Took topic m names) = true
is_due_move (Copied topic channel m) = true
is_due_move (TimedOut topic channel id) = true
is_due_move (CameDue topic channel id) = true
is_due_move act = false

-- the act is a move that is never due
abbrev pub is_held : Act → Bool
is_held (HeldBack topic channel id) = true
is_held act = false

-- the act is a move
abbrev pub is_move : Act → Bool
is_move act = is_due_move act || is_held act

-- the act is the daemon's Stuck: it names a topic alone; that of a client names a channel too
abbrev pub is_stuck_topic : Act → Bool
is_stuck_topic (Stuck topic None) = true
is_stuck_topic act = false

-- the act is a Ticked
abbrev pub is_tick : Act → Bool
is_tick Ticked = true
is_tick act = false

-- the act is free to stand anywhere, whatever is due: a move, or the daemon's Stuck
abbrev pub is_free_act : Act → Bool
is_free_act act = is_move act || is_stuck_topic act

-- the act is common: it names 0, and stands in turns of any connection
abbrev pub is_common : Act → Bool
is_common act = is_free_act act || is_tick act

abbrev pub IsCommon : Entry × End → Type 0
IsCommon e = is_common e.0.act ≡ true

abbrev pub is_began : Act → Bool
is_began Began = true
is_began act = false

abbrev pub is_gone : Act → Bool
is_gone Gone = true
is_gone act = false

abbrev pub is_stop : Act → Bool
is_stop Stop = true
is_stop act = false

-- the end is a disk fault
abbrev pub is_faulted : End → Bool
is_faulted (Faulted n) = true
is_faulted end = false

-- the entry is a stuck one of the daemon: its Stuck, or a move that met a disk fault
abbrev pub is_stuck : Entry × End → Bool
is_stuck e = is_stuck_topic e.0.act || (is_move e.0.act && is_faulted e.1)

-- the entries of a connection, in order: those that name it and aren't common
abbrev pub is_own : ℕ → Entry × End → Bool
is_own number e = (e.0.conn == number) && not (is_common e.0.act)

abbrev pub own : ℕ → History → History
own number h = filter (is_own number) h

-- whether a Stop stands in the history, and how many do
abbrev pub has_stop : History → Bool
has_stop h = list_any (λ e. is_stop e.0.act) h

abbrev pub stops_of : History → ℕ
stops_of h = length (filter (λ e. is_stop e.0.act) h)

-- how many entries of the history ended with a disk fault
abbrev pub faults_of : History → ℕ
faults_of h = length (filter (λ e. is_faulted e.1) h)

-- how many entries of the history ended with a disk fault and don't stand just before a Stop
abbrev pub faults_apart : History → ℕ
faults_apart [] = 0
faults_apart (e ∷ []) = if is_faulted e.1 then 1 else 0
faults_apart (e ∷ f ∷ h) = (if is_faulted e.1 && not (is_stop f.0.act) then 1 else 0) + faults_apart (f ∷ h)
