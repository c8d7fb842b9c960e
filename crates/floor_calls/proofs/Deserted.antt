-- A channel that has no client, in a hall and in the states that it stands for.
use Rattle.std.proofs.Common.{◌≡◌, ◌<◌, ◌==◌, ℕ, suc, Bool, true, false, ◌&&◌, ◌||◌, nat_eq, if◌then◌else◌, List, [], ◌∷◌, map, length, get_or, Option, Some, None, refl, sym, ap, subst, ◌∙◌, arith}
use Rattle.std.specs.Prelude.{is_some}
use Rattle.std.specs.List.{All, filter, find, list_any}
use Rattle.std.proofs.lemmas.Bool.{eq-eqb, false≢true}
use Rattle.std.proofs.lemmas.Option.{get_or_from_slice_get}
use Rattle.nsq_base.proofs.PutBy.{filter_none}
use Rattle.nsq_outside.specs.Files.{Files}
use Rattle.broker_history.specs.State.{Client, Lost, State, clients_of, has_channel, is_empty, is_ephemeral_channel}
use Rattle.broker_history.specs.Changes.{deleted_channel, left_channel, lost}
use Rattle.floor_rooms.specs.declared.stall.Stall.{Stall}
use Rattle.floor_rooms.specs.declared.hall.Hall.{Hall}
use Rattle.floor_rooms.specs.Rooms.{channel_name, client_in}
use Rattle.floor_rooms.specs.Sound.{AreMembers, IsSound, member_of}
use Rattle.floor_rooms.specs.Standing.{HoldsFor}
use Rattle.floor_rooms.proofs.Forming.{some_at}
use Rattle.floor_topics.proofs.SeatPlaces.{client_found}
use Rattle.floor_topics.proofs.Marks.{some_same}
use Rattle.floor_calls.specs.Going.{is_deserted}

-- tests
test_some : {X : Type 0} (x : X) (b : Bool) → is_some (if b then Some x else None) ≡ b
test_some x true = refl
test_some x false = refl

either_same : {X : Type 0} (b : Bool) (x y : X) → x ≡ y → x ≡ (if b then y else x)
either_same true x y e = e
either_same false x y e = refl

number_same : (n : ℕ) → nat_eq n n ≡ true
number_same n = eq-eqb n n refl

-- one that is found and passes a test is among those that do
with_more : {X : Type 0} (b : Bool) (x : X) (xs : List X) → is_empty xs ≡ false → is_empty (if b then x ∷ xs else xs) ≡ false
with_more true x xs e = refl
with_more false x xs e = e

found_where : {X : Type 0} (q : X → Bool) (y x : X) (ys : List X) (o : Option X) (a : Bool) → (if a then Some y else o) ≡ Some x → q x ≡ true → (o ≡ Some x → is_empty (filter q ys) ≡ false) → is_empty (if q y then y ∷ filter q ys else filter q ys) ≡ false
found_where q y x ys o true e passes more = ap (λ b. is_empty (if b then y ∷ filter q ys else filter q ys)) (ap q (some_same y x e) ∙ passes)
found_where q y x ys o false e passes more = with_more (q y) y (filter q ys) (more e)

found_among : {X : Type 0} (p q : X → Bool) (xs : List X) (x : X) → find p xs ≡ Some x → q x ≡ true → is_empty (filter q xs) ≡ false
found_among p q [] x e passes = absurd (let no : ⊥ = cc in no)
found_among p q (y ∷ ys) x e passes = found_where q y x ys (find p ys) (p y) e passes (λ more. found_among p q ys x more passes)

-- clients none of which has the channel lose nothing
pub none_lost : (topic channel : List ℕ) (cs : List Client) → All (λ c. has_channel topic channel c ≡ false) cs → map (lost topic channel) cs ≡ cs
none_lost topic channel [] none = refl
none_lost topic channel (c ∷ cs) none =
    ap (λ b. (if b then record c { phase = Lost } else c) ∷ map (lost topic channel) cs) (none 0 c (omega arith)) ∙ ap (λ ds. c ∷ ds) (none_lost topic channel cs (λ i d l. none (suc i) d (omega (arith, l))))

-- a channel of a sound hall
module _ (h : Hall) (topic : List ℕ) (x : Stall) (sound : IsSound h) (mine : AreMembers h.clients.items topic x) where
  -- its clients are those that have it
  is_listed : (i : ℕ) (d : Client) → i < length h.clients.items → list_any (nat_eq (get_or h.clients.items i d).number) x.members.items ≡ has_channel topic (channel_name x) (get_or h.clients.items i d)
  is_listed i d within =
      let c = some_at h.clients.items i within in
      subst (λ (y : Client). list_any (nat_eq y.number) x.members.items ≡ has_channel topic (channel_name x) y) (sym (get_or_from_slice_get h.clients.items i c.0 d c.1))
      (mine.listed c.0.number ∙ ap (λ o. is_some (member_of topic (channel_name x) o)) (client_found h i c.0 sound c.1) ∙ test_some (record { timeout = c.0.timeout; ready = c.0.ready }) (has_channel topic (channel_name x) c.0))

  pub none_has : x.members.items ≡ [] → All (λ c. has_channel topic (channel_name x) c ≡ false) h.clients.items
  none_has none = λ i d l. sym (is_listed i d l) ∙ ap (list_any (nat_eq (get_or h.clients.items i d).number)) none

  -- a number among its clients' is that of one that has it
  one_has : (o : Option Client) (m : ℕ) → client_in h.clients.items m ≡ o → is_some (member_of topic (channel_name x) o) ≡ true → is_empty (filter (has_channel topic (channel_name x)) h.clients.items) ≡ false
  one_has None m is has = absurd (false≢true has)
  one_has (Some c) m is has =
      found_among (λ (d : Client). d.number == m) (has_channel topic (channel_name x)) h.clients.items c is (sym (test_some (record { timeout = c.timeout; ready = c.ready }) (has_channel topic (channel_name x) c)) ∙ has)

  some_has : (m : ℕ) (ms : List ℕ) → x.members.items ≡ m ∷ ms → is_empty (filter (has_channel topic (channel_name x)) h.clients.items) ≡ false
  some_has m ms is =
      one_has (client_in h.clients.items m) m refl
      (sym (mine.listed m) ∙ ap (list_any (nat_eq m)) is ∙ ap (λ b. b || list_any (nat_eq m) ms) (number_same m))

  empty_so : (ms : List ℕ) → x.members.items ≡ ms → is_empty ms ≡ is_empty (filter (has_channel topic (channel_name x)) h.clients.items)
  empty_so [] is = sym (ap is_empty (filter_none (has_channel topic (channel_name x)) h.clients.items (none_has is)))
  empty_so (m ∷ ms) is = sym (some_has m ms is)

  deserted_so : (files : Files) (s : State) → HoldsFor h files s → is_deserted topic x ≡ (is_ephemeral_channel topic (channel_name x) && is_empty (clients_of s topic (channel_name x)))
  deserted_so files s holds =
      ap (λ b. is_ephemeral_channel topic (channel_name x) && b) (empty_so x.members.items refl ∙ ap (λ cs. is_empty (filter (has_channel topic (channel_name x)) cs)) (sym holds.stands.clients))

  -- it stays where it isn't deserted, and else goes
  pub stays_there : (files : Files) (s : State) → HoldsFor h files s → is_deserted topic x ≡ false → s ≡ left_channel s (record { topic = topic; channel = channel_name x })
  stays_there files s holds kept = ap (λ b. if b then deleted_channel s topic (channel_name x) else s) (sym (sym (deserted_so files s holds) ∙ kept))

  pub goes_there : (files : Files) (s : State) → HoldsFor h files s → is_deserted topic x ≡ true → deleted_channel s topic (channel_name x) ≡ left_channel s (record { topic = topic; channel = channel_name x })
  goes_there files s holds left = ap (λ b. if b then deleted_channel s topic (channel_name x) else s) (sym (sym (deserted_so files s holds) ∙ left))

-- what isn't there doesn't go
pub absent_left : (s : State) (topic channel : List ℕ) → s ≡ deleted_channel s topic channel → s ≡ left_channel s (record { topic = topic; channel = channel })
absent_left s topic channel same = either_same (is_ephemeral_channel topic channel && is_empty (clients_of s topic channel)) s (deleted_channel s topic channel) same
