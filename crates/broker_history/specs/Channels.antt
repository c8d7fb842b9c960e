-- What the entries make of a channel's copies: one copy becomes another. Each row says which copy may, and what it becomes. A row stands over
-- two kinds of lists: a state's, which has each copy for ever, at its place (`Moves`), and what a channel of the program keeps, which has the
-- live ones alone, in any order (`MovesLive`).
use Rattle.std.specs.Prelude.{◌≡◌, ℕ, ◌+◌, ◌≤◌, min, Bool, true, false, not, ◌&&◌, ◌==◌, nat_le, nat_lt, if◌then◌else◌, List, [], ◌∷◌, ◌++◌, map, count_by}
use Rattle.std.specs.List.{list_any}
use Rattle.v2_frame.specs.declared.message.Message.{Message}
use Rattle.broker_history.specs.State.{Place, Queued, InFlight, Deferred, Finished, Emptied, Dropped, Copy, Channel, IsSame, compared, raised, counted, is_live, is_queued, queued, flying, flying_of}

-- where a copy goes that is put back: it is queued, or dropped where the channel is ephemeral and so many copies are queued already as find
-- room in memory
abbrev pub put_back : (ephemeral : Bool) → (mem queued : ℕ) → Place
put_back ephemeral mem queued = if ephemeral && nat_le mem queued then Dropped else Queued

-- where a copy goes that is to wait for so long from this moment on: back at once where it isn't to wait
abbrev pub put_off : (at delay : ℕ) → (back : Place) → Place
put_off at delay back = if delay == 0 then back else Deferred (at + delay)

-- a copy that joins a channel
abbrev pub copy_at : Message → Place → Copy
copy_at m place = record { message = compared m; place = place }

-- the copy is in flight with this client, until a moment and since one
pub record IsFlight (client : ℕ) (id : List ℕ) (due sent : ℕ) (x : Copy) : Type 0 where
  pub of : x.message.id ≡ id
  pub flies : x.place ≡ InFlight client due sent

-- Sent: a queued copy of the message gets one more attempt, which makes it the message, and is in flight with the client from now on, for the
-- client's time
pub record IsSent (client at timeout : ℕ) (m : Message) (from to : Copy) : Type 0 where
  pub waits : from.place ≡ Queued
  pub same : IsSame (raised from.message) m
  pub flies : to ≡ record { message = raised from.message; place = InFlight client (at + timeout) at }

-- FIN: a copy in flight with the client is finished
pub record IsFinished (client : ℕ) (id : List ℕ) (from to : Copy) : Type 0 where
  pub due : ℕ
  pub sent : ℕ
  pub flight : IsFlight client id due sent from
  pub done : to ≡ record from { place = Finished }

-- TOUCH: a copy in flight with the client is due after the client's time from now on, and no later than so long after it was sent
pub record IsTouched (client : ℕ) (id : List ℕ) (at timeout most : ℕ) (from to : Copy) : Type 0 where
  pub due : ℕ
  pub sent : ℕ
  pub flight : IsFlight client id due sent from
  pub later : to ≡ record from { place = InFlight client (min (at + timeout) (sent + most)) sent }

-- REQ: a copy in flight with the client goes to another place
pub record IsGivenBack (client : ℕ) (id : List ℕ) (place : Place) (from to : Copy) : Type 0 where
  pub due : ℕ
  pub sent : ℕ
  pub flight : IsFlight client id due sent from
  pub goes : to ≡ record from { place = place }

-- TimedOut: a copy in flight, with whomever, was due
pub record IsTimedOut (id : List ℕ) (at : ℕ) (back : Place) (from to : Copy) : Type 0 where
  pub client : ℕ
  pub due : ℕ
  pub sent : ℕ
  pub flight : IsFlight client id due sent from
  pub came : due ≤ at
  pub goes : to ≡ record from { place = back }

-- CameDue: a deferred copy was due
pub record IsCameDue (id : List ℕ) (at : ℕ) (back : Place) (from to : Copy) : Type 0 where
  pub due : ℕ
  pub of : from.message.id ≡ id
  pub waits : from.place ≡ Deferred due
  pub came : due ≤ at
  pub goes : to ≡ record from { place = back }

-- HeldBack: a queued copy is deferred
pub record IsHeldBack (id : List ℕ) (until : ℕ) (from to : Copy) : Type 0 where
  pub of : from.message.id ≡ id
  pub waits : from.place ≡ Queued
  pub goes : to ≡ record from { place = Deferred until }

-- one copy of a channel becomes another by a row, at its place in the list
pub record Moves (Row : Copy → Copy → Type 0) (old new : List Copy) : Type 0 where
  pub before : List Copy
  pub from : Copy
  pub to : Copy
  pub after : List Copy
  pub row : Row from to
  pub was : old ≡ before ++ from ∷ after
  pub is : new ≡ before ++ to ∷ after

-- one where the test is passed
abbrev pub one : Bool → ℕ
one b = if b then 1 else 0

-- two lists have each item as often, in whatever order: as many items of the one pass each test as of the other
abbrev pub AsOften : {X : Type 0} → List X → List X → Type 0
AsOften {X} xs ys = (p : X → Bool) → count_by p xs ≡ count_by p ys

-- one live copy becomes another by a row, in lists that have the live ones alone, in whatever order: it goes, and what it becomes comes
-- unless that is done with
pub record MovesLive (Row : Copy → Copy → Type 0) (old new : List Copy) : Type 0 where
  pub from : Copy
  pub to : Copy
  pub row : Row from to
  pub there : (p : Copy → Bool) → one (p from) ≤ count_by p old
  pub each : (p : Copy → Bool) → count_by p old + one (is_live to.place && p to) ≡ count_by p new + one (p from)

-- a copy joins a channel, at the end of its list
pub record Joins (x : Copy) (old new : List Copy) : Type 0 where
  pub is : new ≡ old ++ x ∷ []

-- a copy joins the live ones, unless it is done with
pub record JoinsLive (x : Copy) (old new : List Copy) : Type 0 where
  pub each : (p : Copy → Bool) → count_by p old + one (is_live x.place && p x) ≡ count_by p new

-- what a channel of the program keeps is a state's: it has the live copies, each as often
pub record HasLive (kept copies : List Copy) : Type 0 where
  pub often : (p : Copy → Bool) → count_by p kept ≡ count_by (λ x. is_live x.place && p x) copies

-- it has as many copies queued, in flight with a client, and in flight of an id
pub record CountsLive (kept copies : List Copy) : Type 0 where
  pub queues : queued kept ≡ queued copies
  pub flies : (number : ℕ) → flying number kept ≡ flying number copies
  pub of : (id : List ℕ) → flying_of id kept ≡ flying_of id copies

-- the copy after its channel was emptied: one that wasn't done with is now
abbrev pub emptied_copy : Copy → Copy
emptied_copy x = if is_live x.place then record x { place = Emptied } else x

abbrev pub emptied_all : List Copy → List Copy
emptied_all copies = map emptied_copy copies

-- whether no copy of this id is in flight
abbrev pub is_free : (id : List ℕ) → List Copy → Bool
is_free id copies = flying_of id copies == 0

-- whether a copy was dropped
abbrev pub is_dropped : Place → Bool
is_dropped Dropped = true
is_dropped place = false

-- how much room a channel has: it is ephemeral or not, and so many copies find room in memory
pub record Room : Type 0 where
  pub ephemeral : Bool
  pub mem : ℕ

-- where a copy of this channel goes that is put back now
abbrev pub back_in : Room → Channel → Place
back_in room k = put_back room.ephemeral room.mem (queued k.copies)

-- where a copy goes that joins with a message, at a moment
abbrev pub joins_at : Room → (at : ℕ) → Message → Channel → Place
joins_at room at m k = put_off at m.delay (back_in room k)

-- a channel's rows, over lists of copies of either kind: `Over` moves one copy, `Joining` adds one
module _ (Over : (Copy → Copy → Type 0) → List Copy → List Copy → Type 0) where
  -- Sent
  pub record Sends (client at timeout : ℕ) (m : Message) (old new : Channel) : Type 0 where
    pub moves : Over (IsSent client at timeout m) old.copies new.copies
    pub is : new ≡ record old { copies = new.copies }

  -- FIN
  pub record Finishes (client : ℕ) (id : List ℕ) (old new : Channel) : Type 0 where
    pub moves : Over (IsFinished client id) old.copies new.copies
    pub is : new ≡ record old { copies = new.copies }

  -- TOUCH
  pub record Touches (client : ℕ) (id : List ℕ) (at timeout most : ℕ) (old new : Channel) : Type 0 where
    pub moves : Over (IsTouched client id at timeout most) old.copies new.copies
    pub is : new ≡ record old { copies = new.copies }

  -- REQ, which is counted: back at once, or after a delay
  pub record GivesBack (room : Room) (client : ℕ) (id : List ℕ) (at delay : ℕ) (old new : Channel) : Type 0 where
    pub moves : Over (IsGivenBack client id (put_off at delay (back_in room old))) old.copies new.copies
    pub is : new ≡ record old { requeue_count = counted old.requeue_count; copies = new.copies }

  -- TimedOut, which is counted
  pub record TimesOut (room : Room) (id : List ℕ) (at : ℕ) (old new : Channel) : Type 0 where
    pub moves : Over (IsTimedOut id at (back_in room old)) old.copies new.copies
    pub is : new ≡ record old { timeout_count = counted old.timeout_count; copies = new.copies }

  -- CameDue
  pub record ComesDue (room : Room) (id : List ℕ) (at : ℕ) (old new : Channel) : Type 0 where
    pub moves : Over (IsCameDue id at (back_in room old)) old.copies new.copies
    pub is : new ≡ record old { copies = new.copies }

  -- HeldBack: a queued copy whose id is in flight in the channel
  pub record HoldsBack (id : List ℕ) (until : ℕ) (old new : Channel) : Type 0 where
    pub flies : is_free id old.copies ≡ false
    pub moves : Over (IsHeldBack id until) old.copies new.copies
    pub is : new ≡ record old { copies = new.copies }

-- Copied: a copy of the message joins, deferred where the message has a delay, which counts from now on; it is counted unless it is dropped
module _ (Joining : Copy → List Copy → List Copy → Type 0) where
  pub record Gets (room : Room) (at : ℕ) (m : Message) (old new : Channel) : Type 0 where
    pub joins : Joining (copy_at m (joins_at room at m old)) old.copies new.copies
    pub is : new ≡ record old { message_count = if is_dropped (joins_at room at m old) then old.message_count else counted old.message_count; copies = new.copies }

-- a channel of the program is one of a state: its copies are the live ones, and all else is the same
pub record IsKept (kept k : Channel) : Type 0 where
  pub live : HasLive kept.copies k.copies
  pub rest : kept ≡ record k { copies = kept.copies }

-- a client with so much credit may be sent a message of the channel, as far as the channel goes: it isn't paused, and fewer copies are in
-- flight with the client than it asked for
abbrev pub has_credit : (ready client : ℕ) → Channel → Bool
has_credit ready client c = not c.paused && nat_lt (flying client c.copies) ready

-- whether some queued copy's id isn't in flight in the channel, so that the copy can be sent
abbrev pub can_send : List Copy → Bool
can_send copies = list_any (λ x. is_queued x.place && is_free x.message.id copies) copies
