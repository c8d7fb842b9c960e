-- Acts that are no commands and no asks, and what is said of all.
use Rattle.std.proofs.Common.{◌≡◌, ◌==◌, ℕ, Bool, true, false, not, ◌||◌, ◌&&◌, if◌then◌else◌, Option, Some, None, is_some, Ok, Err, refl, sym, ap, subst, ◌∙◌}
use Rattle.std.specs.Prelude.{HoldsAt, IsTrue}
use Rattle.std.proofs.lemmas.Bool.{false≢true}
use Rattle.nsq_outside.specs.Files.{Files}
use Rattle.nsq_outside.specs.declared.journal.End.TheVariants as end
use Rattle.broker_history.specs.declared.entry.Act.{Act}
use Rattle.broker_history.specs.declared.entry.Entry.{Entry}
use Rattle.broker_history.specs.declared.entry.Act.TheVariants.{Began, Beat, Gone, Stop, Refused, Idle, Silent, Dropped, Listed, Ticked}
use Rattle.broker_history.specs.State.{Client, State, put_client, without_client}
use Rattle.broker_history.specs.Entries.{is_stop}
use Rattle.broker_history.specs.Step.{DoesAct, new_client}
use Rattle.broker_history.specs.Answers.{IsShortAnswer}
use Rattle.broker_history.specs.declared.turned.Turned.{Turned}
use Rattle.floor_rooms.proofs.Putting.{found_gone, found_put}
use Rattle.floor_rooms.specs.declared.hall.Hall.{Hall}
use Rattle.floor_rooms.specs.Changes.{KeepsRooms}
use Rattle.floor_rooms.specs.Places.{IsClientPlace}
use Rattle.floor_rooms.specs.Rooms.{client_in}
use Rattle.floor_rooms.specs.Sound.{IsSound}
use Rattle.floor_rooms.specs.Standing.{Carries}
use Rattle.floor_rooms.proofs.Dating.{keeps_same}
use Rattle.floor_rooms.proofs.Forming.{some_at}
use Rattle.floor_calls.specs.Plans.{IsShortAct}
use Rattle.floor_turns.specs.Acting.{LeavesClients, SameClients, StaysSet, answer_of, there_after}
use Rattle.floor_turns.proofs.Carrying.{entry_of}
use Rattle.floor_serving.specs.declared.carried.Carried.{Carried}
use Rattle.floor_serving.specs.Carrying.{Around, Basis, CarriesOut, IsLeft, basis}
use Rattle.floor_serving.proofs.Staying.{around_same, stays_kept}

-- what was kept aside, by the act and the number that it is read with
pub kept_so : (tells : Bool) (kept : Option Entry) (n m at : ℕ) (a b : Act) → (IsTrue tells → kept ≡ Some (entry_of n at a)) → b ≡ a → n ≡ m → IsTrue tells → kept ≡ Some (entry_of m at b)
kept_so tells kept n m at a b is same conn told = is told ∙ ap (λ x. Some (entry_of n at x)) (sym same) ∙ ap (λ x. Some (entry_of x at b)) conn

-- an act that ended Done
pub act_done : (tells : Bool) (number : ℕ) (a : Act) (old new : Basis) (answer : Turned) {E : Type 0} → Around tells old new → (IsTrue tells → Carries old.hall old.files new.hall new.files (λ s t. DoesAct s old.hall.moment number a end.Done t)) → answer ≡ answer_of old.hall.moment a end.Done → LeavesClients a number old.hall new.hall → IsShortAnswer answer
    → CarriesOut {E = E} tells number a old new (Ok (record { end = end.Done; answer = answer }))
act_done tells number a old new answer around does is clients short = record {
  around = around;
  ends = record {
    does = λ told s holds allowed. let x = does told s holds in record { allowed = allowed; to = x.0; does = x.1; holds = x.2 };
    answer = is;
    noted = tt;
    cause = λ e. absurd (false≢true e);
    clients = clients;
    short = short;
  };
}

pub act_made : (tells : Bool) (number : ℕ) (a : Act) (old new : Basis) (answer : Turned) (r : Carried) {E : Type 0} → r ≡ record { end = end.Done; answer = answer } → Around tells old new → (IsTrue tells → Carries old.hall old.files new.hall new.files (λ s t. DoesAct s old.hall.moment number a end.Done t))
    → answer ≡ answer_of old.hall.moment a end.Done → LeavesClients a number old.hall new.hall → IsShortAnswer answer → CarriesOut {E = E} tells number a old new (Ok r)
act_made tells number a old new answer r {E} same around does is clients short = subst (λ (x : Carried). CarriesOut {E = E} tells number a old new (Ok x)) (sym same) (act_done tells number a old new answer around does is clients short)

-- memory was wanting for it
pub act_not : (tells : Bool) (number : ℕ) (a : Act) (old new : Basis) {E : Type 0} (e : E) → Around tells old new → (IsTrue tells → Carries old.hall old.files new.hall new.files (λ s t. t ≡ s)) → SameClients old.hall new.hall → CarriesOut {E = E} tells number a old new (Err e)
act_not tells number a old new e around rests same = record { around = around; ends = record { rests = rests; same = same } }

or_false : (b : Bool) → b ≡ (b || false)
or_false true = refl
or_false false = refl

or_true : (b : Bool) → true ≡ (b || true)
or_true true = refl
or_true false = refl

one_more : (b : Bool) (c : Client) (o : Option Client) → is_some (if b then Some c else o) ≡ (b || is_some o)
one_more true c o = refl
one_more false c o = refl

one_less : (b : Bool) (o : Option Client) → is_some (if b then None else o) ≡ (not b && is_some o)
one_less true o = refl
one_less false o = refl

-- one more client is there
pub begin_leaves : (h h' : Hall) (number : ℕ) → h' ≡ record h { clients = h'.clients } → h'.clients.items ≡ put_client h.clients.items (new_client h.options h.moment number) → LeavesClients Began number h h'
begin_leaves h h' number rest clients = record {
  there = λ m. ap (λ cs. is_some (client_in cs m)) clients ∙ ap is_some (found_put h.clients.items (new_client h.options h.moment number) m) ∙ one_more (number == m) (new_client h.options h.moment number) (client_in h.clients.items m);
  stopped = ap (λ (x : Hall). x.stopped) rest ∙ or_false h.stopped;
}

-- one less is
pub gone_leaves : (h h' g : Hall) (number : ℕ) → h' ≡ g → g.stopped ≡ h.stopped → h'.clients.items ≡ without_client h.clients.items number → LeavesClients Gone number h h'
gone_leaves h h' g number rest stopped clients = record {
  there = λ m. ap (λ cs. is_some (client_in cs m)) clients ∙ ap is_some (found_gone h.clients.items number m) ∙ one_less (number == m) (client_in h.clients.items m);
  stopped = ap (λ (x : Hall). x.stopped) rest ∙ stopped ∙ or_false h.stopped;
}

-- as many are
pub beat_leaves : (h h' : Hall) (number : ℕ) → SameClients h h' → LeavesClients Beat number h h'
beat_leaves h h' number same = record { there = same.there; stopped = same.stopped ∙ or_false h.stopped }

pub stop_leaves : (h h' : Hall) (number : ℕ) → h' ≡ record h { stopped = true } → LeavesClients Stop number h h'
stop_leaves h h' number rest = record { there = λ m. ap (λ (x : Hall). is_some (client_in x.clients.items m)) rest; stopped = ap (λ (x : Hall). x.stopped) rest ∙ or_true h.stopped }

pub stop_stays : (h h' : Hall) → h' ≡ record h { stopped = true } → StaysSet h h'
stop_stays h h' rest = stays_kept h h' (record h { stopped = true }) rest refl refl refl refl refl refl (subst (λ (x : Hall). KeepsRooms h.moment h.rooms.items x.rooms.items) (sym rest) (keeps_same h.moment h.rooms.items))

-- the client at a place is the one of its number
module _ (h h' : Hall) (f f' : Files) (number k : ℕ) (at : IsClientPlace h.clients.items number (Some k)) where
  abbrev first : Client
  first = (some_at h.clients.items k at.in_range).0

  pub by_number : (Does : ℕ → State → State → Type 0) → HoldsAt (λ c. Carries h f h' f' (Does c.number)) h.clients.items k → Carries h f h' f' (Does number)
  by_number Does told = subst (λ n. Carries h f h' f' (Does n)) (at.is first) (told first)

  pub without_number : HoldsAt (λ c. h'.clients.items ≡ without_client h.clients.items c.number) h.clients.items k → h'.clients.items ≡ without_client h.clients.items number
  without_number told = told first ∙ ap (without_client h.clients.items) (at.is first)

pub is_placed : (h : Hall) (number : ℕ) → is_some (client_in h.clients.items number) ≡ true → IsClientPlace h.clients.items number None → ⊥
is_placed h number there none = false≢true (ap is_some (sym none) ∙ there)

-- an act that changes nothing
left_does : (a : Act) → IsLeft a → (s : State) (at number : ℕ) → DoesAct s at number a end.Done s
left_does (Refused fault frame) is s at number = refl
left_does Idle is s at number = refl
left_does Silent is s at number = refl
left_does Dropped is s at number = refl
left_does (Listed names) is s at number = refl
left_does Ticked is s at number = refl
left_does a is s at number = absurd is

left_there : (a : Act) → IsLeft a → (number m : ℕ) (there : Bool) → there ≡ there_after a number m there
left_there (Refused fault frame) is number m there = refl
left_there Idle is number m there = refl
left_there Silent is number m there = refl
left_there Dropped is number m there = refl
left_there (Listed names) is number m there = refl
left_there Ticked is number m there = refl
left_there a is number m there = absurd is

left_stop : (a : Act) → IsLeft a → is_stop a ≡ false
left_stop (Refused fault frame) is = refl
left_stop Idle is = refl
left_stop Silent is = refl
left_stop Dropped is = refl
left_stop (Listed names) is = refl
left_stop Ticked is = refl
left_stop a is = absurd is

left_short : (a : Act) → IsLeft a → (at : ℕ) → IsShortAct a → IsShortAnswer (answer_of at a end.Done)
left_short (Refused fault frame) is at short = short
left_short Idle is at short = tt
left_short Silent is at short = tt
left_short Dropped is at short = tt
left_short (Listed names) is at short = tt
left_short Ticked is at short = tt
left_short a is at short = absurd is

pub act_left : (tells : Bool) (number : ℕ) (a : Act) (h : Hall) (f : Files) (n : ℕ) (r : Carried) {E : Type 0} → IsSound h → IsLeft a → IsShortAct a → r.end ≡ end.Done → r.answer ≡ answer_of h.moment a end.Done → CarriesOut {E = E} tells number a (basis h f n) (basis h f n) (Ok r)
act_left tells number a h f n r {E} sound is short ends answers =
    let g : Carried = record { end = end.Done; answer = r.answer } in
    let same : r ≡ g = ap (λ e. record { end = e; answer = r.answer }) ends in
    subst (λ (x : Carried). CarriesOut {E = E} tells number a (basis h f n) (basis h f n) (Ok x)) (sym same)
    (act_done tells number a (basis h f n) (basis h f n) r.answer (around_same tells h f n sound) (λ told s holds. (s, left_does a is s h.moment number, holds)) answers
    (record { there = λ m. left_there a is number m (is_some (client_in h.clients.items m)); stopped = or_false h.stopped ∙ ap (λ b. h.stopped || b) (sym (left_stop a is)) })
    (subst IsShortAnswer (sym answers) (left_short a is h.moment short)))
