-- A hall of which one client changed, or one more began.
use Rattle.std.proofs.Common.{◌≡◌, ◌<◌, ◌≤◌, ◌^◌, ◌==◌, ℕ, set, Bool, true, false, if◌then◌else◌, List, [], ◌∷◌, ◌++◌, length, get_or, Option, Some, None, HoldsAt, is_some, nat_lt, not, ◌&&◌, Less, Equal, Greater, set-set, length-set, refl, sym, ap, subst, ◌∙◌, arith, get_or-set_same}
use Rattle.std.specs.List.{All, insert}
use Rattle.std.specs.Ordering.{nat_cmp}
use Rattle.std.specs.Prelude.{Err, IfSome, IsSome, Ok, OnErr, Result}
use Rattle.std.specs.Global.{Vec}
use Rattle.std.proofs.lemmas.Bool.{eq-eqb, eqb-true, false≢true, le-ltb}
use Rattle.std.proofs.lemmas.List.Elements.{All-append, All-cons, All-filter, All-set, All-weaker}
use Rattle.std.proofs.lemmas.Option.{get_or_from_slice_get}
use Rattle.nsq_base.specs.declared.options.Options.{Options}
use Rattle.nsq_outside.specs.Files.{Files}
use Rattle.broker_history.specs.Changes.{at_client, changed_client}
use Rattle.broker_history.specs.Identify.{Identity, identity_of}
use Rattle.broker_history.specs.State.{Client, Phase, Fresh, Subscribed, Closing, Lost, Route, State, is_lost, is_on, is_subscribed, put_client, with_client}
use Rattle.v2_frame.specs.declared.command.Command.TheVariants.{Identify}
use Rattle.broker_history.specs.Step.{begun, known_as, new_client, spoke, with_identity}
use Rattle.floor_rooms.specs.ClientPlaces.{AreInOrder, BelongsAt, StandsAt}
use Rattle.floor_rooms.specs.Seen.{held_channel}
use Rattle.floor_rooms.proofs.ClientPlacing.{stands}
use Rattle.floor_rooms.proofs.Putting.{found_put, order_put, put_belonging, put_standing}
use Rattle.floor_rooms.specs.declared.room.Room.{Room}
use Rattle.floor_rooms.specs.declared.hall.Hall.{Hall}
use Rattle.floor_rooms.specs.Rooms.{channel_name, topic_name, client_in, stall_at}
use Rattle.floor_rooms.specs.Sound.{AreMembers, AsksForNone, HasItsChannel, IsRoomSound, IsSound, member_of}
use Rattle.floor_rooms.specs.Standing.{Carries, HoldsFor}
use Rattle.floor_rooms.proofs.Placing.{at_place}
use Rattle.floor_rooms.proofs.Sounding.{Lowers, room_lowered}
use Rattle.floor_acts.specs.Acts.{ChangesAt, DoesAt}

-- what stands at a place as it was read there
pub read_at : {X : Type 0} (xs : List X) (k : ℕ) (x d : X) → k < length xs → x ≡ get_or xs k x → get_or xs k d ≡ x
read_at xs k x d l e = get_or_from_slice_get xs k x d (at_place xs k x l e)

pub holds_read : {X : Type 0} (P : X → Type 0) (xs : List X) (k : ℕ) (x : X) → k < length xs → x ≡ get_or xs k x → P x → HoldsAt P xs k
holds_read P xs k x l e p = λ d. subst P (sym (read_at xs k x d l e)) p

pub read_holds : {X : Type 0} (P : X → Type 0) (xs : List X) (k : ℕ) (x : X) → k < length xs → x ≡ get_or xs k x → HoldsAt P xs k → P x
read_holds P xs k x l e p = subst P (sym e) (p x)

-- a number is as great as itself
equal_to : (a : ℕ) → nat_cmp a a ≡ Equal
equal_to a = ap (λ c. if c then Less else (if a == a then Equal else Greater)) (le-ltb a a (omega arith)) ∙ ap (λ c. if c then Equal else Greater) (eq-eqb a a refl)

-- the client at a place stands there by its number
pub stands_at : (cs : List Client) (k : ℕ) (c : Client) → AreInOrder cs → k < length cs → c ≡ get_or cs k c → StandsAt cs c.number k
stands_at cs k c up l e = stands cs c.number k c up l (λ d. ap (λ (y : Client). nat_cmp y.number c.number) (read_at cs k c d l e) ∙ equal_to c.number)

pub put_at_place : (cs : List Client) (k : ℕ) (c d : Client) → AreInOrder cs → k < length cs → c ≡ get_or cs k c → d.number ≡ c.number → set cs k d ≡ put_client cs d
put_at_place cs k c d up l e same = put_standing cs d k (subst (λ n. StandsAt cs n k) (sym same) (stands_at cs k c up l e))

-- and is the one that is found by it
pub found_at_place : (cs : List Client) (k : ℕ) (c : Client) → AreInOrder cs → k < length cs → c ≡ get_or cs k c → client_in cs c.number ≡ Some c
found_at_place cs k c up l e = (stands_at cs k c up l e).found c ∙ ap Some (sym e)

-- with other clients the hall stands for the states that have those
pub holds_clients : (h : Hall) (clients : Vec Client) (files : Files) (s : State) → HoldsFor h files s → HoldsFor (record h { clients = clients }) files (record s { clients = clients.items })
holds_clients h clients files s holds = record {
  stands = record {
    options = holds.stands.options;
    epoch = holds.stands.epoch;
    ids_used = holds.stands.ids_used;
    moment = holds.stands.moment;
    stopped = holds.stands.stopped;
    clients = refl;
    topics = holds.stands.topics;
  };
  idle = record { topics = holds.idle.topics; channels = holds.idle.channels };
}

pub carries_ordered : (h h' : Hall) (k : ℕ) (c d : Client) → AreInOrder h.clients.items → k < length h.clients.items → c ≡ get_or h.clients.items k c → d.number ≡ c.number → h' ≡ record h { clients = h'.clients } → h'.clients.items ≡ set h.clients.items k d → (files : Files)
    → Carries h files h' files (λ s t. t ≡ with_client s d)
carries_ordered h h' k c d up l e same rest put files = λ s holds.
    let whole : h'.clients.items ≡ put_client s.clients d = put ∙ put_at_place h.clients.items k c d up l e same ∙ ap (λ xs. put_client xs d) (sym holds.stands.clients) in (
      with_client s d,
      refl,
      subst (λ (x : Hall). HoldsFor x files (with_client s d)) (sym rest)
          (subst (λ xs. HoldsFor (record h { clients = h'.clients }) files (record s { clients = xs })) whole (holds_clients h h'.clients files s holds)),
    )

pub carries_client : (h h' : Hall) (k : ℕ) (c d : Client) → IsSound h → k < length h.clients.items → c ≡ get_or h.clients.items k c → d.number ≡ c.number → h' ≡ record h { clients = h'.clients } → h'.clients.items ≡ set h.clients.items k d → (files : Files)
    → Carries h files h' files (λ s t. t ≡ with_client s d)
carries_client h h' k c d sound l e same rest put files = carries_ordered h h' k c d sound.client_order l e same rest put files

-- a hall with other clients is sound where those are in order, each has its channel, and each channel has those that it had
pub sound_clients : (h h' : Hall) → IsSound h → h' ≡ record h { clients = h'.clients } → AreInOrder h'.clients.items
    → ((topic channel : List ℕ) (n : ℕ) → member_of topic channel (client_in h'.clients.items n) ≡ member_of topic channel (client_in h.clients.items n)) → All (HasItsChannel h) h'.clients.items → All AsksForNone h'.clients.items → IsSound h'
sound_clients h h' sound rest up members channels ready =
    let g : Hall = record h { clients = h'.clients } in
    let low : Lowers h g = record { options = refl; quiet = omega arith; unsaved = omega arith; pending = λ name has. has } in
    let Of : List Client → Room → Type 0 = λ cs r. All (AreMembers cs (topic_name r)) r.stalls.items in
    subst IsSound (sym rest) (record {
      options = sound.options;
      epoch = sound.epoch;
      ids_used = sound.ids_used;
      moment = sound.moment;
      client_order = up;
      room_order = sound.room_order;
      rooms = All-weaker (IsRoomSound h) (IsRoomSound g) (λ r x. room_lowered h g r low x) h.rooms.items sound.rooms;
      members = All-weaker (Of h.clients.items) (Of h'.clients.items)
          (λ r all. All-weaker (AreMembers h.clients.items (topic_name r)) (AreMembers h'.clients.items (topic_name r))
          (λ x a. record {
            known = λ n. a.known n ∙ sym (members (topic_name r) (channel_name x) n);
            listed = λ n. a.listed n ∙ ap is_some (sym (members (topic_name r) (channel_name x) n));
          }) r.stalls.items all) h.rooms.items sound.members;
      channels = channels;
      ready = ready;
      past = sound.past;
    })

-- a client that is the same to its channel as another one of its number
pub record SameMember (c d : Client) : Type 0 where
  pub number : d.number ≡ c.number
  pub held : held_channel d.phase d.route ≡ held_channel c.phase c.route
  pub member : (topic channel : List ℕ) → member_of topic channel (Some d) ≡ member_of topic channel (Some c)
  pub ready : AsksForNone c → AsksForNone d

one_member : (topic channel : List ℕ) (cs : List Client) (k : ℕ) (c d : Client) (n : ℕ) (b : Bool) → AreInOrder cs → k < length cs → c ≡ get_or cs k c → SameMember c d → (d.number == n) ≡ b
    → member_of topic channel (if b then Some d else client_in cs n) ≡ member_of topic channel (client_in cs n)
one_member topic channel cs k c d n true up l e same is =
    let number : c.number ≡ n = sym same.number ∙ eqb-true d.number n is in
    same.member topic channel ∙ ap (member_of topic channel) (sym (found_at_place cs k c up l e) ∙ ap (client_in cs) number)
one_member topic channel cs k c d n false up l e same is = refl

pub sound_client : (h h' : Hall) (k : ℕ) (c d : Client) → IsSound h → k < length h.clients.items → c ≡ get_or h.clients.items k c → SameMember c d → h' ≡ record h { clients = h'.clients } → h'.clients.items ≡ set h.clients.items k d → IsSound h'
sound_client h h' k c d sound l e same rest put =
    let cs : List Client = h.clients.items in
    let whole : h'.clients.items ≡ put_client cs d = put ∙ put_at_place cs k c d sound.client_order l e same.number in
    sound_clients h h' sound rest (subst AreInOrder (sym whole) (order_put cs d sound.client_order))
    (λ topic channel n. ap (λ xs. member_of topic channel (client_in xs n)) whole ∙ ap (member_of topic channel) (found_put cs d n) ∙ one_member topic channel cs k c d n (d.number == n) sound.client_order l e same refl)
    (subst (All (HasItsChannel h)) (sym put)
    (All-set (HasItsChannel h) cs k d
    (subst (λ o. IfSome o (λ (route : Route). IsSome (stall_at h.rooms.items route.topic route.channel))) (sym same.held) (read_holds (HasItsChannel h) cs k c l e (λ x. sound.channels k x l))) sound.channels))
    (subst (All AsksForNone) (sym put) (All-set AsksForNone cs k d (same.ready (read_holds AsksForNone cs k c l e (λ x. sound.ready k x l))) sound.ready))

-- a client that was changed by a function, as it was read
pub carries_at : (h h' : Hall) (k : ℕ) (f : Client → Client) (x y : Client) → IsSound h → k < length h.clients.items → x ≡ get_or h.clients.items k x → y ≡ f x → (f x).number ≡ x.number → h' ≡ record h { clients = h'.clients } → h'.clients.items ≡ set h.clients.items k y → (files : Files)
    → HoldsAt (λ c. Carries h files h' files (λ s t. t ≡ with_client s (f c))) h.clients.items k
carries_at h h' k f x y sound l e is same rest put files =
    holds_read (λ c. Carries h files h' files (λ s t. t ≡ with_client s (f c))) h.clients.items k x l e
    (carries_client h h' k x (f x) sound l e same rest (put ∙ ap (set h.clients.items k) is) files)

-- the same of the client that is found by its number
pub carries_found : (h h' : Hall) (k : ℕ) (f : Client → Client) (x y : Client) → IsSound h → k < length h.clients.items → x ≡ get_or h.clients.items k x → y ≡ f x → (f x).number ≡ x.number → h' ≡ record h { clients = h'.clients } → h'.clients.items ≡ set h.clients.items k y → (files : Files)
    → HoldsAt (λ c. Carries h files h' files (λ s t. t ≡ at_client f s c.number)) h.clients.items k
carries_found h h' k f x y sound l e is same rest put files =
    holds_read (λ c. Carries h files h' files (λ s t. t ≡ at_client f s c.number)) h.clients.items k x l e
    (λ s holds.
    let r = carries_client h h' k x (f x) sound l e same rest (put ∙ ap (set h.clients.items k) is) files s holds in
    (r.0, r.1 ∙ sym (ap (changed_client f s) (ap (λ cs. client_in cs x.number) holds.stands.clients ∙ found_at_place h.clients.items k x sound.client_order l e)), r.2))

-- a client that is read behind a change, and what a second change makes of all
pub changed_length : (f : Client → Client) (k : ℕ) (old new : List Client) → k < length old → ChangesAt k f old new → length new ≡ length old
changed_length f k [] new l h = absurd (omega (arith, l))
changed_length f k (x ∷ xs) new l h = ap length (h x) ∙ length-set (x ∷ xs) k (f (get_or (x ∷ xs) k x))

pub changed_range : (f : Client → Client) (k : ℕ) (old new : List Client) → k < length old → ChangesAt k f old new → k < length new
changed_range f k old new l h = let same = changed_length f k old new l h in omega (arith, l, same)

pub changed_read : (f : Client → Client) (k : ℕ) (old new : List Client) (y d : Client) → k < length old → ChangesAt k f old new → y ≡ get_or new k y → y ≡ f (get_or old k d)
changed_read f k old new y d l h e = e ∙ ap (λ cs. get_or cs k y) (h d) ∙ get_or-set_same old k (f (get_or old k d)) y l

pub changed_twice : (f g : Client → Client) (k : ℕ) (old mid : List Client) (y z : Client) → k < length old → ChangesAt k f old mid → y ≡ get_or mid k y → z ≡ g y → ChangesAt k (λ c. g (f c)) old (set mid k z)
changed_twice f g k old mid y z l h e is =
    λ d. ap (set mid k) (is ∙ ap g (changed_read f k old mid y d l h e)) ∙ ap (λ cs. set cs k (g (f (get_or old k d)))) (h d) ∙ set-set old k (f (get_or old k d)) (g (f (get_or old k d)))

pub carries_twice : (h0 h1 h2 : Hall) (k : ℕ) (f g : Client → Client) (y z : Client) (files : Files) → IsSound h1 → k < length h0.clients.items → ChangesAt k f h0.clients.items h1.clients.items
    → HoldsAt (λ c. Carries h0 files h1 files (λ s t. t ≡ with_client s (f c))) h0.clients.items k → y ≡ get_or h1.clients.items k y → z ≡ g y → ((c : Client) → (g c).number ≡ c.number) → h2 ≡ record h1 { clients = h2.clients } → h2.clients.items ≡ set h1.clients.items k z
    → HoldsAt (λ c. Carries h0 files h2 files (λ s t. t ≡ with_client (with_client s (f c)) (g (f c)))) h0.clients.items k
carries_twice h0 h1 h2 k f g y z files sound l changed first e is same rest put =
    λ d s holds.
    let there : k < length h1.clients.items = changed_range f k h0.clients.items h1.clients.items l changed in
    let x : y ≡ f (get_or h0.clients.items k d) = changed_read f k h0.clients.items h1.clients.items y d l changed e in
    let a = first d s holds in
    let b = carries_client h1 h2 k y (g y) sound there e (same y) rest (put ∙ ap (set h1.clients.items k) is) files a.0 a.2 in
    (b.0, b.1 ∙ ap (λ u. with_client u (g y)) a.1 ∙ ap (λ c. with_client (with_client s (f (get_or h0.clients.items k d))) (g c)) x, b.2)

-- a hall whose clients changed twice
pub clients_rest : (h0 h1 h2 : Hall) → h1 ≡ record h0 { clients = h1.clients } → h2 ≡ record h1 { clients = h2.clients } → h2 ≡ record h0 { clients = h2.clients }
clients_rest h0 h1 h2 e1 e2 = e2 ∙ ap (λ (h : Hall). record h { clients = h2.clients }) e1

-- a client that is read again and changes
pub changed_again : (f : Client → Client) (k : ℕ) (old new : List Client) (x y z : Client) → k < length old → x ≡ get_or old k x → new ≡ old → y ≡ get_or new k y → z ≡ f y → ChangesAt k f old (set new k z)
changed_again f k old new x y z l e same again is =
    let it : y ≡ x = again ∙ ap (λ cs. get_or cs k y) same ∙ read_at old k x y l e in
    λ d. ap (set new k) (is ∙ ap f (it ∙ sym (read_at old k x d l e))) ∙ ap (λ cs. set cs k (f (get_or old k d))) same

-- one change and then another, each as it is told
pub changed_here : (f : Client → Client) (k : ℕ) (old mid : List Client) (d : Client) → k < length old → ChangesAt k f old mid → get_or mid k d ≡ f (get_or old k d)
changed_here f k old mid d l h = ap (λ cs. get_or cs k d) (h d) ∙ get_or-set_same old k (f (get_or old k d)) d l

pub changes_then : (f g : Client → Client) (k : ℕ) (old mid new : List Client) → k < length old → ChangesAt k f old mid → ChangesAt k g mid new → ChangesAt k (λ c. g (f c)) old new
changes_then f g k old mid new l h i =
    λ d. i d ∙ ap (λ c. set mid k (g c)) (changed_here f k old mid d l h) ∙ ap (λ cs. set cs k (g (f (get_or old k d)))) (h d) ∙ set-set old k (f (get_or old k d)) (g (f (get_or old k d)))

pub carries_then : (h0 h1 h2 : Hall) (k : ℕ) (f g : Client → Client) (files : Files) → k < length h0.clients.items → ChangesAt k f h0.clients.items h1.clients.items → HoldsAt (λ c. Carries h0 files h1 files (λ s t. t ≡ with_client s (f c))) h0.clients.items k
    → HoldsAt (λ c. Carries h1 files h2 files (λ s t. t ≡ with_client s (g c))) h1.clients.items k → HoldsAt (λ c. Carries h0 files h2 files (λ s t. t ≡ with_client (with_client s (f c)) (g (f c)))) h0.clients.items k
carries_then h0 h1 h2 k f g files l changed first second =
    λ d s holds.
    let a = first d s holds in
    let b = second d a.0 a.2 in
    (b.0, b.1 ∙ ap (λ u. with_client u (g (get_or h1.clients.items k d))) a.1 ∙ ap (λ c. with_client (with_client s (f (get_or h0.clients.items k d))) (g c)) (changed_here f k h0.clients.items h1.clients.items d l changed), b.2)

-- who speaks, closes or says something of itself is the same to its channel
pub spoken : (at : ℕ) (c d : Client) → d ≡ spoke at c → SameMember c d
spoken at c d is = subst (SameMember c) (sym is) (record { number = refl; held = refl; member = λ topic channel. refl; ready = λ asks. asks })

held_closing : (p : Phase) (r : Option Route) → is_subscribed p ≡ true → held_channel Closing r ≡ held_channel p r
held_closing Fresh r e = absurd (false≢true e)
held_closing Subscribed r e = refl
held_closing Closing r e = refl
held_closing Lost r e = absurd (false≢true e)

not_lost : (p : Phase) → is_subscribed p ≡ true → is_lost p ≡ false
not_lost Fresh e = refl
not_lost Subscribed e = refl
not_lost Closing e = refl
not_lost Lost e = absurd (false≢true e)

pub closed : (c d : Client) → d ≡ record c { phase = Closing } → is_subscribed c.phase ≡ true → SameMember c d
closed c d is e =
    subst (SameMember c) (sym is) (record {
      number = refl;
      held = held_closing c.phase c.route e;
      member = λ topic channel. ap (λ b. if not b && is_on c.route topic channel then Some (record { timeout = c.timeout; ready = c.ready }) else None) (sym (not_lost c.phase e));
      ready = λ asks no. absurd (false≢true no);
    })

-- who has no channel is on none
on_none : (r : Option Route) (topic channel : List ℕ) → r ≡ None → is_on r topic channel ≡ false
on_none None topic channel e = refl
on_none (Some route) topic channel e = absurd (let no : ⊥ = cc in no)

pub none_held : (p : Phase) (r : Option Route) (topic channel : List ℕ) → held_channel p r ≡ None → (not (is_lost p) && is_on r topic channel) ≡ false
none_held Fresh r topic channel e = on_none r topic channel e
none_held Subscribed r topic channel e = on_none r topic channel e
none_held Closing r topic channel e = on_none r topic channel e
none_held Lost r topic channel e = refl

pub introduced : (at : ℕ) (i : Identity) (c d : Client) → d ≡ known_as at i c → held_channel c.phase c.route ≡ None → SameMember c d
introduced at i c d is none =
    subst (SameMember c) (sym is) (record {
      number = refl;
      held = refl;
      member = λ topic channel.
          ap (λ b. if b then Some (record { timeout = i.timeout; ready = c.ready }) else None) (none_held c.phase c.route topic channel none)
          ∙ sym (ap (λ b. if b then Some (record { timeout = c.timeout; ready = c.ready }) else None) (none_held c.phase c.route topic channel none));
      ready = λ asks. asks;
    })

-- what an IDENTIFY does, where its body says that
pub identifies : (h h' : Hall) (k : ℕ) (i : Identity) (body : List ℕ) (files : Files) → identity_of h.options body ≡ Some i
    → HoldsAt (λ c. Carries h files h' files (λ s t. t ≡ with_client (with_client s (spoke h.moment c)) (known_as h.moment i (spoke h.moment c)))) h.clients.items k → DoesAt k (Identify body) false h files h' files
identifies h h' k i body files is carries =
    λ d s holds.
    let c : Client = get_or h.clients.items k d in
    let r = carries d s holds in
    (r.0, r.1 ∙ sym (ap (with_identity (with_client s (spoke h.moment c)) h.moment (spoke h.moment c)) (ap (λ o. identity_of o body) holds.stands.options ∙ is)), r.2)

-- the same clients, held elsewhere
pub still_sound : (h h' : Hall) → IsSound h → h' ≡ record h { clients = h'.clients } → h'.clients.items ≡ h.clients.items → IsSound h'
still_sound h h' sound rest same =
    sound_clients h h' sound rest (subst AreInOrder (sym same) sound.client_order) (λ topic channel n. ap (λ cs. member_of topic channel (client_in cs n)) same) (subst (All (HasItsChannel h)) (sym same) sound.channels) (subst (All AsksForNone) (sym same) sound.ready)

pub still_told : (h h' : Hall) (files : Files) → h' ≡ record h { clients = h'.clients } → h'.clients.items ≡ h.clients.items → Carries h files h' files (λ s t. t ≡ s)
still_told h h' files rest same = λ s holds. (
  s,
  refl,
  subst (λ (x : Hall). HoldsFor x files s) (sym rest)
      (subst (λ cs. HoldsFor (record h { clients = h'.clients }) files (record s { clients = cs })) (same ∙ sym holds.stands.clients) (holds_clients h h'.clients files s holds)),
)

-- a fact that no error breaks
pub in_error : {X Y : Type 0} (r : Result X Y) (P : Type 0) → P → OnErr r P
in_error (Ok x) P p = tt
in_error (Err y) P p = p

-- a timeout that the options allow
pub timeout_fits : (h : Hall) → IsSound h → h.options.msg_timeout ≤ 2 ^ 62
timeout_fits h sound =
    let own = sound.options.times.msg_timeout in
    let most = sound.options.times.max_msg_timeout in
    omega (arith, own, most)

-- a client begins
pub none_stands : (cs : List Client) (n i : ℕ) → StandsAt cs n i → client_in cs n ≡ None → ⊥
none_stands [] n i h e = let l = h.in_range in omega (arith, l)
none_stands (x ∷ xs) n i h e = let found = sym (h.found x) ∙ e in cc

pub begins_at : (cs reserved seen new : List Client) (n k : ℕ) (x y : Client) → reserved ≡ cs → seen ≡ reserved → BelongsAt seen n k → x ≡ y → y.number ≡ n → new ≡ insert reserved k x → new ≡ put_client cs y
begins_at cs reserved seen new n k x y same read belongs is number put =
    put ∙ ap (λ xs. insert xs k x) same ∙ ap (insert cs k) is ∙ put_belonging cs y k (subst (λ m. BelongsAt cs m k) (sym number) (subst (λ xs. BelongsAt xs n k) (read ∙ same) belongs))

begun_member : (topic channel : List ℕ) (cs : List Client) (o : Options) (at number n : ℕ) (b : Bool) → client_in cs number ≡ None → (number == n) ≡ b
    → member_of topic channel (if b then Some (new_client o at number) else client_in cs n) ≡ member_of topic channel (client_in cs n)
begun_member topic channel cs o at number n true none is = sym (ap (member_of topic channel) (ap (client_in cs) (sym (eqb-true number n is)) ∙ none))
begun_member topic channel cs o at number n false none is = refl

all_put : (P : Client → Type 0) (cs : List Client) (c : Client) → All P cs → P c → All P (put_client cs c)
all_put P cs c all p = All-append P _ _ (All-filter (λ (d : Client). nat_lt d.number c.number) P cs all) (All-cons P c _ p (All-filter (λ (d : Client). nat_lt c.number d.number) P cs all))

pub sound_begun : (h h' : Hall) (number : ℕ) → IsSound h → client_in h.clients.items number ≡ None → h' ≡ record h { clients = h'.clients } → h'.clients.items ≡ put_client h.clients.items (new_client h.options h.moment number) → IsSound h'
sound_begun h h' number sound none rest whole =
    let cs : List Client = h.clients.items in
    let y : Client = new_client h.options h.moment number in
    sound_clients h h' sound rest (subst AreInOrder (sym whole) (order_put cs y sound.client_order))
    (λ topic channel n. ap (λ xs. member_of topic channel (client_in xs n)) whole ∙ ap (member_of topic channel) (found_put cs y n) ∙ begun_member topic channel cs h.options h.moment number n (number == n) none refl)
    (subst (All (HasItsChannel h)) (sym whole) (all_put (HasItsChannel h) cs y sound.channels tt))
    (subst (All AsksForNone) (sym whole) (all_put AsksForNone cs y sound.ready (λ e. refl)))

pub carries_begun : (h h' : Hall) (number : ℕ) (files : Files) → h' ≡ record h { clients = h'.clients } → h'.clients.items ≡ put_client h.clients.items (new_client h.options h.moment number) → Carries h files h' files (λ s t. t ≡ begun s h.moment number)
carries_begun h h' number files rest whole =
    λ s holds.
    let put : h'.clients.items ≡ put_client s.clients (new_client s.options h.moment number) =
    whole ∙ ap (λ xs. put_client xs (new_client h.options h.moment number)) (sym holds.stands.clients) ∙ ap (λ o. put_client s.clients (new_client o h.moment number)) (sym holds.stands.options) in
    let now : HoldsFor (record h { clients = h'.clients }) files (record s { clients = put_client s.clients (new_client s.options h.moment number) }) =
    subst (λ xs. HoldsFor (record h { clients = h'.clients }) files (record s { clients = xs })) put (holds_clients h h'.clients files s holds) in
    (begun s h.moment number, refl, subst (λ (x : Hall). HoldsFor x files (begun s h.moment number)) (sym rest) (holds_began (record h { clients = h'.clients }) files _ (s.began ++ number ∷ []) now))
  where
    holds_began : (g : Hall) (files : Files) (s : State) (began : List ℕ) → HoldsFor g files s → HoldsFor g files (record s { began = began })
    holds_began g files s began holds = record {
      stands = record {
        options = holds.stands.options;
        epoch = holds.stands.epoch;
        ids_used = holds.stands.ids_used;
        moment = holds.stands.moment;
        stopped = holds.stands.stopped;
        clients = holds.stands.clients;
        topics = holds.stands.topics;
      };
      idle = holds.idle;
    }
