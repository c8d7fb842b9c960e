-- What is said to what is asked of a hall is what is said of each state that it stands for.
use Rattle.std.proofs.Common.{◌≡◌, ℕ, if◌then◌else◌, List, Option, Some, None, is_some, refl, sym, ap}
use Rattle.nsq_outside.specs.Files.{Files}
use Rattle.broker_history.specs.declared.ask.Said.TheVariants.{Done, NoChannel, Ids}
use Rattle.broker_history.specs.State.{State, Topic, channel_of, topic_of}
use Rattle.broker_history.specs.Reply.{are_left, has_ids}
use Rattle.broker_history.specs.Said.{said_in, said_made, said_of}
use Rattle.floor_laws.proofs.Pairs.{IfBoth}
use Rattle.floor_acts.proofs.Found.{found_room, found_stall}
use Rattle.floor_rooms.specs.declared.room.Room.{Room}
use Rattle.floor_rooms.specs.declared.hall.Hall.{Hall}
use Rattle.floor_rooms.specs.Rooms.{room_in, stall_in}
use Rattle.floor_rooms.specs.Standing.{HoldsFor, IsRoomOf, IsStallOf}
use Rattle.floor_calls.specs.Asked.{found_where, made_where}

both_alike : {X Y : Type 0} (R : X → Y → Type 0) (o : Option X) (u : Option Y) → IfBoth R o u → is_some o ≡ is_some u
both_alike R None None h = refl
both_alike R None (Some y) h = absurd h
both_alike R (Some x) None h = absurd h
both_alike R (Some x) (Some y) h = refl

in_both : (files : Files) (r : Room) (t : Topic) (channel : Option (List ℕ)) → IsRoomOf files r t → found_where (Some r) channel ≡ said_in t channel
in_both files r t None is = refl
in_both files r t (Some channel) is = ap (λ b. if b then Done else NoChannel) (both_alike (IsStallOf files) (stall_in r.stalls.items channel) (channel_of t channel) (found_stall files r t is channel))

of_both : (files : Files) (channel : Option (List ℕ)) (r : Option Room) (t : Option Topic) → IfBoth (IsRoomOf files) r t → found_where r channel ≡ said_of t channel
of_both files channel None None h = refl
of_both files channel None (Some t) h = absurd h
of_both files channel (Some r) None h = absurd h
of_both files channel (Some r) (Some t) h = in_both files r t channel h

made_both : (files : Files) (channel : Option (List ℕ)) (r : Option Room) (t : Option Topic) → IfBoth (IsRoomOf files) r t → made_where r channel ≡ said_made t channel
made_both files None r t h = refl
made_both files (Some channel) None None h = refl
made_both files (Some channel) None (Some t) h = absurd h
made_both files (Some channel) (Some r) None h = absurd h
made_both files (Some channel) (Some r) (Some t) h = refl

pub said_is : (h : Hall) (topic : List ℕ) (channel : Option (List ℕ)) (files : Files) (s : State) → HoldsFor h files s → found_where (room_in h.rooms.items topic) channel ≡ said_of (topic_of s topic) channel
said_is h topic channel files s holds = of_both files channel (room_in h.rooms.items topic) (topic_of s topic) (found_room h files s holds topic)

pub made_is : (h : Hall) (topic : List ℕ) (channel : Option (List ℕ)) (files : Files) (s : State) → HoldsFor h files s → made_where (room_in h.rooms.items topic) channel ≡ said_made (topic_of s topic) channel
made_is h topic channel files s holds = made_both files channel (room_in h.rooms.items topic) (topic_of s topic) (found_room h files s holds topic)

pub published_is : (h : Hall) (count : ℕ) (files : Files) (s : State) → HoldsFor h files s → (if are_left h.ids_used count then Done else Ids) ≡ (if has_ids s count then Done else Ids)
published_is h count files s holds = ap (λ used. if are_left used count then Done else Ids) (sym holds.stands.ids_used)
