-- Copies in flight, in the order in which they came to be due at their moments.
use Rattle.std.specs.Prelude.{◌≡◌, ℕ, ◌+◌, ◌*◌, ◌^◌, ◌<◌, ◌≤◌, min, Bool, ◌&&◌, ◌==◌, nat_le, if◌then◌else◌, List, [], ◌∷◌, Option, Some, None, count_by}
use Rattle.std.specs.Str.{bytes_eq}
use Rattle.v2_frame.specs.declared.message.Message.{Message}
use Rattle.broker_history.specs.Channels.{one, AsOften}
use Rattle.backlog.specs.declared.answers.PutOne.{PutOne}
use Rattle.backlog.specs.declared.answers.PutOne.TheVariants.{Fault as Refused}
use Rattle.channel_copies.specs.Putting.{Around, Puts, IsTaken}
use Rattle.channel_copies.specs.declared.flight.Flight.{Flight}
use Rattle.channel_copies.specs.declared.putting.Back.{Back}
use Rattle.channel_copies.specs.declared.putting.Back.TheVariants.{Done, Fault}

-- those in flight, and for how many more there is room
pub record Flying : Type 0 where
  pub flights : List Flight
  pub spare : ℕ

-- one less: x goes, and each other item stays as often
abbrev pub Leaves : {X : Type 0} → X → (old new : List X) → Type 0
Leaves {X} x old new = (p : X → Bool) → count_by p old ≡ count_by p new + one (p x)

abbrev pub has_id : List ℕ → Flight → Bool
has_id id f = bytes_eq id f.message.id

abbrev pub has_client : ℕ → Flight → Bool
has_client client f = f.client == client

-- how many are of this id, and how many with this client
abbrev pub flights_of_id : List ℕ → List Flight → ℕ
flights_of_id id fs = count_by (has_id id) fs

abbrev pub flights_with : ℕ → List Flight → ℕ
flights_with client fs = count_by (has_client client) fs

-- f is in flight, and the only one of this id: of those of the id as many pass a test as f does
pub record IsOnly (id : List ℕ) (f : Flight) (fs : List Flight) : Type 0 where
  pub has : f.message.id ≡ id
  pub only : (p : Flight → Bool) → count_by (λ g. p g && has_id id g) fs ≡ one (p f)

abbrev pub Finds : List ℕ → List Flight → Option Flight → Type 0
Finds id fs None = flights_of_id id fs ≡ 0
Finds id fs (Some f) = IsOnly id f fs

-- of the two the one that is due sooner, and at one moment the earlier one
abbrev pub sooner : {X : Type 0} → (due : X → ℕ) → X → Option X → X
sooner due x None = x
sooner due x (Some y) = if nat_le (due x) (due y) then x else y

-- the one of the least due moment, and of several the first of the list
abbrev pub soonest : {X : Type 0} → (due : X → ℕ) → List X → Option X
soonest due [] = None
soonest due (x ∷ xs) = Some (sooner due x (soonest due xs))

-- that one, where it is due
abbrev pub due_by : {X : Type 0} → (due : X → ℕ) → (now : ℕ) → Option X → Option X
due_by due now None = None
due_by due now (Some x) = if nat_le (due x) now then Some x else None

abbrev pub first_due : (now : ℕ) → List Flight → Option Flight
first_due now fs = due_by (λ f. f.due) now (soonest (λ f. f.due) fs)

-- the only flight of this id went, and its message was put into the backlog, which took it or dropped it
pub record WentBack (tells : Bool) (id : List ℕ) (old new : List Flight) (before after : Around) : Type 0 where
  pub flight : Flight
  pub of : flight.message.id ≡ id
  pub leaves : Leaves flight old new
  pub none : flights_of_id id new ≡ 0
  pub answer : PutOne
  pub taken : IsTaken answer
  pub puts : Puts tells flight.message answer before after

-- the backlog refused it, and it is in flight as before
pub record CameAgain (tells : Bool) (old new : List Flight) (before after : Around) : Type 0 where
  pub often : AsOften old new
  pub message : Message
  pub back : Message
  pub puts : Puts tells message (Refused back) before after

abbrev pub MovesBack : (tells : Bool) → List ℕ → (old new : List Flight) → (before after : Around) → Back → Type 0
MovesBack tells id old new before after Done = WentBack tells id old new before after
MovesBack tells id old new before after Fault = CameAgain tells old new before after

-- when a touched flight is due: at the moment that is asked for, but no later than so long after its sending
abbrev pub touched : (until most : ℕ) → Flight → Flight
touched until most f = record f { due = min until (f.sent + most) }

-- the only flight of this id has another due moment, and each other stays as often: `rest` is all but it
pub record Prolongs (id : List ℕ) (until most : ℕ) (old new : List Flight) : Type 0 where
  pub flight : Flight
  pub of : flight.message.id ≡ id
  pub rest : List Flight
  pub none : flights_of_id id rest ≡ 0
  pub goes : Leaves flight old rest
  pub comes : Leaves (touched until most flight) new rest

-- calls of a heap, of which each found at most so many items, added at most so many steps: by each at most 2d + 2, where d is the greatest with
-- 2^d ≤ items + 1
abbrev pub CostsCalls : (calls items before now : ℕ) → Type 0
CostsCalls calls items before now = (d : ℕ) → items + 1 < 2 ^ (d + 1) → now ≤ before + calls * (2 * d + 2)
