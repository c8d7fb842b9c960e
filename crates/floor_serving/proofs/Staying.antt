-- What carrying out leaves of a hall.
use Rattle.std.proofs.Common.{◌≡◌, ◌≤◌, ◌<◌, ◌==◌, ℕ, set, Bool, true, false, if◌then◌else◌, List, length, get_or, Some, is_some, refl, sym, ap, subst, ◌∙◌, arith, eqb-true}
use Rattle.std.specs.Prelude.{IsTrue}
use Rattle.std.proofs.lemmas.List.{get_or_default}
use Rattle.nsq_outside.specs.Files.{Files}
use Rattle.broker_history.specs.State.{Client}
use Rattle.floor_rooms.specs.ClientPlaces.{AreInOrder}
use Rattle.floor_rooms.proofs.Putting.{found_put}
use Rattle.floor_rooms.specs.declared.hall.Hall.{Hall}
use Rattle.floor_rooms.specs.Changes.{KeepsRooms, KeepsSince, OnlyQueueFiles}
use Rattle.floor_rooms.specs.Kept.{NamesTold}
use Rattle.floor_rooms.specs.Rooms.{client_in}
use Rattle.floor_rooms.specs.Sound.{IsSound}
use Rattle.floor_rooms.proofs.Dating.{keeps_equal, since_kept}
use Rattle.floor_rooms.proofs.Forming.{some_at}
use Rattle.floor_rooms.proofs.Naming.{names_kept, names_then}
use Rattle.floor_calls.specs.Acts.{ChangesAt}
use Rattle.floor_calls.proofs.Putting.{found_at_place, put_at_place}
use Rattle.floor_turns.specs.Acting.{SameClients, StaysSet}
use Rattle.floor_turns.proofs.Carrying.{stays_same}
use Rattle.floor_serving.specs.Carrying.{Around, basis}

-- what is set stays where it does by one equation
pub stays_by : (h h' g : Hall) → h' ≡ g → g.options ≡ h.options → g.epoch ≡ h.epoch → g.began_at ≡ h.began_at → g.moment ≡ h.moment → g.stuck ≡ h.stuck → NamesTold h h' → KeepsSince h.moment h.rooms.items h'.rooms.items → StaysSet h h'
stays_by h h' g is options epoch began moment stuck names since = record {
  options = ap (λ (x : Hall). x.options) is ∙ options;
  epoch = ap (λ (x : Hall). x.epoch) is ∙ epoch;
  began_at = ap (λ (x : Hall). x.began_at) is ∙ began;
  moment = ap (λ (x : Hall). x.moment) is ∙ moment;
  stuck = ap (λ (x : Hall). x.stuck) is ∙ stuck;
  names = names;
  since = since;
}

-- nothing was done
pub only_same : (f : Files) → OnlyQueueFiles f f
only_same f = λ file other. refl

pub around_same : (tells : Bool) (h : Hall) (f : Files) (n : ℕ) → IsSound h → Around tells (basis h f n) (basis h f n)
around_same tells h f n sound = record { stays = stays_same h; sound = sound; files = λ told. only_same f; faults = omega arith }

-- topics and channels stay at their places
pub stays_kept : (h h' g : Hall) → h' ≡ g → g.options ≡ h.options → g.epoch ≡ h.epoch → g.began_at ≡ h.began_at → g.moment ≡ h.moment → g.stuck ≡ h.stuck → g.unsaved_names ≡ h.unsaved_names → KeepsRooms h.moment h.rooms.items h'.rooms.items → StaysSet h h'
stays_kept h h' g is options epoch began moment stuck unsaved keeps =
    stays_by h h' g is options epoch began moment stuck (names_kept h.moment h h' (ap (λ (x : Hall). x.unsaved_names) is ∙ unsaved) keeps) (since_kept h.moment h.rooms.items h'.rooms.items keeps)

pub around_kept : (tells : Bool) (h h' : Hall) (f : Files) (n : ℕ) → StaysSet h h' → IsSound h' → Around tells (basis h f n) (basis h' f n)
around_kept tells h h' f n stays sound = record { stays = stays; sound = sound; files = λ told. only_same f; faults = omega arith }

-- nothing but clients changed
pub stays_clients : (h h' : Hall) → h' ≡ record h { clients = h'.clients } → StaysSet h h'
stays_clients h h' is = stays_kept h h' (record h { clients = h'.clients }) is refl refl refl refl refl refl (keeps_equal h.moment h.rooms.items h'.rooms.items (ap (λ (x : Hall). x.rooms.items) is))

pub around_clients : (tells : Bool) (h h' : Hall) (f : Files) (n : ℕ) → h' ≡ record h { clients = h'.clients } → IsSound h' → Around tells (basis h f n) (basis h' f n)
around_clients tells h h' f n is sound = around_kept tells h h' f n (stays_clients h h' is) sound

-- the clients are those that were there
pub same_equal : (h h' g : Hall) → h' ≡ g → g.clients.items ≡ h.clients.items → g.stopped ≡ h.stopped → SameClients h h'
same_equal h h' g is clients stopped = record {
  there = λ m. ap (λ cs. is_some (client_in cs m)) (ap (λ (x : Hall). x.clients.items) is ∙ clients);
  stopped = ap (λ (x : Hall). x.stopped) is ∙ stopped;
}

pub same_hall : (h : Hall) → SameClients h h
same_hall h = record { there = λ m. refl; stopped = refl }

one_number : (cs : List Client) (k : ℕ) (c d : Client) (m : ℕ) (b : Bool) → AreInOrder cs → k < length cs → c ≡ get_or cs k c → d.number ≡ c.number → (d.number == m) ≡ b → is_some (if b then Some d else client_in cs m) ≡ is_some (client_in cs m)
one_number cs k c d m true up l e same is = ap is_some (sym (ap (client_in cs) (sym (eqb-true d.number m is) ∙ same) ∙ found_at_place cs k c up l e))
one_number cs k c d m false up l e same is = refl

pub numbers_set : (cs : List Client) (k : ℕ) (c d : Client) (m : ℕ) → AreInOrder cs → k < length cs → c ≡ get_or cs k c → d.number ≡ c.number → is_some (client_in (set cs k d) m) ≡ is_some (client_in cs m)
numbers_set cs k c d m up l e same =
    ap (λ xs. is_some (client_in xs m)) (put_at_place cs k c d up l e same) ∙ ap is_some (found_put cs d m) ∙ one_number cs k c d m (d.number == m) up l e same refl

-- the client at a place became another one of its number
module _ (h h' : Hall) (k : ℕ) (f : Client → Client) (sound : IsSound h) (within : k < length h.clients.items) (numbers : (c : Client) → (f c).number ≡ c.number) (changes : ChangesAt k f h.clients.items h'.clients.items) where
  pub same_there : (m : ℕ) → is_some (client_in h'.clients.items m) ≡ is_some (client_in h.clients.items m)
  same_there m =
      let d = (some_at h.clients.items k within).0 in
      let c : Client = get_or h.clients.items k d in
      let read : c ≡ get_or h.clients.items k c = get_or_default h.clients.items k d c within in
      ap (λ cs. is_some (client_in cs m)) (changes d) ∙ numbers_set h.clients.items k c (f c) m sound.client_order within read (numbers c)

  pub same_changed : (g : Hall) → h' ≡ g → g.stopped ≡ h.stopped → SameClients h h'
  same_changed g is stopped = record { there = same_there; stopped = ap (λ (x : Hall). x.stopped) is ∙ stopped }

-- one change behind another
pub same_then : (a b c : Hall) → SameClients a b → SameClients b c → SameClients a c
same_then a b c x y = record { there = λ m. y.there m ∙ x.there m; stopped = y.stopped ∙ x.stopped }

pub stays_then_clients : (a b c : Hall) → StaysSet a b → c ≡ record b { clients = c.clients } → StaysSet a c
stays_then_clients a b c x is =
    let y = stays_clients b c is in
    record {
      options = y.options ∙ x.options;
      epoch = y.epoch ∙ x.epoch;
      began_at = y.began_at ∙ x.began_at;
      moment = y.moment ∙ x.moment;
      stuck = y.stuck ∙ x.stuck;
      names = names_then a b c x.names y.names;
      since = subst (λ rs. KeepsSince a.moment a.rooms.items rs) (sym (ap (λ (h : Hall). h.rooms.items) is)) x.since;
    }

-- what is left is left by one equation, and names, marks and files as they are told
pub around_by : (tells : Bool) (h h' g : Hall) (f f' : Files) (n n' : ℕ) → h' ≡ g → g.options ≡ h.options → g.epoch ≡ h.epoch → g.began_at ≡ h.began_at → g.moment ≡ h.moment → g.stuck ≡ h.stuck → NamesTold h h' → KeepsSince h.moment h.rooms.items h'.rooms.items → IsSound h'
    → (IsTrue tells → OnlyQueueFiles f f') → n ≤ n' → Around tells (basis h f n) (basis h' f' n')
around_by tells h h' g f f' n n' is options epoch began moment stuck names since sound files faults = record { stays = stays_by h h' g is options epoch began moment stuck names since; sound = sound; files = files; faults = faults }
