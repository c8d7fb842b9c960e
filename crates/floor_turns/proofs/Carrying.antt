-- The act of a call is kept aside, carried out and noted.
use Rattle.std.proofs.Common.{◌≡◌, ◌⊎◌, inl, inr, ◌≤◌, ℕ, Bool, true, false, if◌then◌else◌, [], ◌∷◌, ◌++◌, Option, Some, None, refl, sym, ap, subst, ◌∙◌, arith}
use Rattle.std.specs.Prelude.{IsTrue, IfSome, MatchBool}
use Rattle.std.proofs.lemmas.List.{append-nil}
use Rattle.nsq_outside.specs.Causes.{Rose}
use Rattle.nsq_outside.specs.Files.{Files}
use Rattle.nsq_outside.specs.Journals as journals
use Rattle.nsq_outside.specs.declared.journal.End.{End}
use Rattle.nsq_outside.specs.declared.journal.End.TheVariants.{Done, Faulted, Skip}
use Rattle.v2_frame.specs.declared.command.Command.{Command}
use Rattle.v2_frame.specs.declared.frame.Frame.{Frame}
use Rattle.broker_history.specs.declared.entry.Act.{Act}
use Rattle.broker_history.specs.declared.entry.Act.TheVariants.{Did, Beat, Idle, Silent, Dropped, Ticked, Stuck}
use Rattle.broker_history.specs.declared.entry.Entry.{Entry}
use Rattle.broker_history.specs.State.{Client, at_moment, is_lost}
use Rattle.broker_history.specs.Reply.{did_answered}
use Rattle.broker_history.specs.Entries.{History, faults_of, is_faulted, is_tick}
use Rattle.broker_history.specs.Legal.{none}
use Rattle.broker_history.specs.Step.{IsAllowedAct}
use Rattle.broker_history.specs.declared.call.Call.{Call}
use Rattle.broker_history.specs.declared.call.Call.TheVariants as call
use Rattle.broker_history.specs.declared.turned.Turned.{Turned}
use Rattle.broker_history.specs.declared.turned.Turned.TheVariants as turned
use Rattle.broker_history.specs.Answers.{Answers, AnswersCommand, IsShortAnswer}
use Rattle.negotiation.specs.declared.identity.Identity.{Identity}
use Rattle.floor_rooms.specs.declared.hall.Hall.{Hall}
use Rattle.floor_rooms.specs.Sound.{IsSound}
use Rattle.floor_rooms.specs.Standing.{Carries}
use Rattle.floor_rooms.proofs.Dating.{keeps_same as rooms_same, since_kept}
use Rattle.floor_rooms.proofs.Orders.{holds_at}
use Rattle.floor_acts.specs.Plans.{IsAllowedPlan, IsCallsAct, IsNextAct, Serves, number_of}
use Rattle.floor_acts.specs.declared.plan.Plan.TheVariants as plan
use Rattle.floor_moves.specs.Moves.{RoseBy, sight}
use Rattle.floor_turns.specs.Acting.{ActCarries, Acts, FaultRose, IsNoted, IsPlanned, IsPlannedFor, LeavesClients, SameClients, StaysSet, answer_of, answer_to, conn_of}

-- the entry of an act
abbrev pub entry_of : (conn at : ℕ) → Act → Entry
entry_of conn at act = record { conn = conn; at = at; act = act }

-- what an act is answered is what its call is, by cases
answers_command : (command : Command) (r : Option Frame) (conn at : ℕ) (e : End) (o : Option Frame) → did_answered command r e ≡ o → AnswersCommand command (entry_of conn at (Did command r), e) (answer_to o)
answers_command command r conn at e None is = ((r, refl), is)
answers_command command r conn at e (Some frame) is = (((r, refl), is), refl)

either : {P Q : Type 0} (b : Bool) → MatchBool b P Q → P ⊎ Q
either true h = inl h
either false h = inr h

module _ (h : Hall) (number conn at : ℕ) (e : End) where
  abbrev Answered : Call → Act → Type 0
  Answered c act = Answers c (entry_of conn at act, e) (answer_of at act e)

  command_answered : (command : Command) (act : Act) (o : Option Frame) → (act ≡ Dropped) ⊎ (act ≡ Did command o) → Answered (call.Command command) act
  command_answered command act o (inl is) = subst (Answered (call.Command command)) (sym is) refl
  command_answered command act o (inr is) = subst (Answered (call.Command command)) (sym is) (answers_command command o conn at e (did_answered command o e) refl)

  next_answered : (act : Act) (c : Client) → IsNextAct h act c → Answered call.Next act
  next_answered Dropped c is = refl
  next_answered Silent c is = refl
  next_answered Beat c is = (tt, refl)
  next_answered Idle c is = tt
  next_answered act c is = absurd is

  pub answered : (c : Call) (act : Act) → IsCallsAct h number c act → Answered c act
  answered call.Begin act is = subst (Answered call.Begin) (sym is) refl
  answered (call.Command command) act is = command_answered command act _ (either (is_lost is.client.phase) is.is)
  answered (call.Bad fault) act is = subst (Answered (call.Bad fault)) (sym is) (refl, refl)
  answered call.Next act is = next_answered act is.client is.is
  answered call.Gone act is = subst (Answered call.Gone) (sym is) refl
  answered (call.Ask a) act is = subst (Answered (call.Ask a)) (sym is.1) (is.0, refl, refl)
  answered call.Names act is = subst (Answered call.Names) (sym is) (refl, refl)
  answered call.Tick act is = subst (Answered call.Tick) (sym is) refl
  answered call.Stop act is = subst (Answered call.Stop) (sym is) refl

-- whose entry an act is
next_other : (h : Hall) (act : Act) (c : Client) → IsNextAct h act c → is_tick act ≡ false
next_other h Ticked c is = absurd is
next_other h act c is = refl

command_other : (command : Command) (act : Act) (o : Option Frame) → (act ≡ Dropped) ⊎ (act ≡ Did command o) → is_tick act ≡ false
command_other command act o (inl is) = ap is_tick is
command_other command act o (inr is) = ap is_tick is

other_same : (act : Act) (number : ℕ) → is_tick act ≡ false → conn_of act number ≡ number
other_same act number e = ap (λ b. if b then 0 else number) e

pub conn_is : (h : Hall) (number : ℕ) (c : Call) (act : Act) → IsCallsAct h number c act → conn_of act number ≡ number_of c number
conn_is h number call.Begin act is = other_same act number (ap is_tick is)
conn_is h number (call.Command command) act is = other_same act number (command_other command act _ (either (is_lost is.client.phase) is.is))
conn_is h number (call.Bad fault) act is = other_same act number (ap is_tick is)
conn_is h number call.Next act is = other_same act number (next_other h act is.client is.is)
conn_is h number call.Gone act is = other_same act number (ap is_tick is)
conn_is h number (call.Ask a) act is = other_same act number (ap is_tick is.1)
conn_is h number call.Names act is = other_same act number (ap is_tick is)
conn_is h number call.Tick act is = ap (λ a. conn_of a number) is
conn_is h number call.Stop act is = other_same act number (ap is_tick is)

-- a plan of a number is one of whose entry it is
module _ (h : Hall) (number : ℕ) (act : Act) (said : Option Identity) where
  plan_of : (c : Call) (p : IsPlanned h number act said) → p.of ≡ c → IsCallsAct h number c act → Serves h number c → IsAllowedPlan h number c (plan.Act (record { act = act; said = said })) → IsPlanned h (number_of c number) act said
  plan_of call.Tick p same is serves stands = record {
    of = call.Tick;
    can = tt;
    serves = record { fits = refl; running = serves.running };
    is = is;
    stands = λ files s holds may. stands files s holds tt;
    knows = p.knows;
    short = p.short;
  }
  plan_of c p same is serves stands = p

  pub planned_conn : IsPlanned h number act said → IsPlanned h (conn_of act number) act said
  planned_conn p = subst (λ n. IsPlanned h n act said) (sym (conn_is h number p.of act p.is)) (plan_of p.of p refl p.is p.serves p.stands)

-- what was noted with an end that leaves an entry
if_some : {X : Type 0} (o : Option X) (x : X) (P : X → Type 0) → o ≡ Some x → IfSome o P → P x
if_some o x P e h = subst (λ u. IfSome u P) e h

noted_with : (old new : History) (entry : Entry) (e : End) → IsNoted e → journals.Notes old new entry e → new ≡ old ++ (entry, e) ∷ []
noted_with old new entry Done i h = h
noted_with old new entry (Faulted n) i h = h
noted_with old new entry Skip i h = absurd i

pub noted_act : (tells : Bool) (old mid new : History) (kept : Option Entry) (entry : Entry) (e : End) → IsNoted e → (IsTrue tells → kept ≡ Some entry) → (IsTrue tells → mid ≡ old) → (IsTrue tells → IfSome kept (λ x. journals.Notes mid new x e))
    → IsTrue tells → new ≡ old ++ (entry, e) ∷ []
noted_act tells old mid new kept entry e i keeps same notes told = noted_with mid new entry e i (if_some kept entry (λ x. journals.Notes mid new x e) (keeps told) (notes told)) ∙ ap (λ h. h ++ (entry, e) ∷ []) (same told)

pub noted_none : (tells : Bool) (old mid new : History) (kept : Option Entry) (entry : Entry) → (IsTrue tells → kept ≡ Some entry) → (IsTrue tells → mid ≡ old) → (IsTrue tells → IfSome kept (λ x. journals.Notes mid new x Skip)) → IsTrue tells → new ≡ old ++ []
noted_none tells old mid new kept entry keeps same notes told = if_some kept entry (λ x. journals.Notes mid new x Skip) (keeps told) (notes told) ∙ same told ∙ sym (append-nil old)

-- a fault raised the count
rose_act : (entry : Entry) (e : End) (before now : ℕ) → IsNoted e → before ≤ now → (is_faulted e ≡ true → Rose before now) → RoseBy (faults_of ((entry, e) ∷ [])) before now
rose_act entry Done before now i le cause = omega (arith, le)
rose_act entry (Faulted n) before now i le cause = cause refl
rose_act entry Skip before now i le cause = absurd i

fault_act : (act : Act) (before now : ℕ) → Rose before now → FaultRose before now act
fault_act (Stuck topic channel) before now rose = tt
fault_act act before now rose = rose

module _ (tells_notes tells_files : Bool) (number : ℕ) (c : Call) (h h' : Hall) (n n' : History) (f f' : Files) (k k' : ℕ) (sound : IsSound h) (stays : StaysSet h h') (faults : k ≤ k') where
  -- the act was made
  pub acts_made : (act : Act) (e : End) (answer : Turned) → IsPlannedFor h number c act → IsNoted e → answer ≡ answer_of h.moment act e → IsShortAnswer answer → (IsTrue tells_notes → n' ≡ n ++ (entry_of (conn_of act number) h.moment act, e) ∷ [])
      → (IsTrue tells_files → ActCarries h f h' f' (conn_of act number) act e) → (is_faulted e ≡ true → Rose k k') → LeavesClients act (conn_of act number) h h' → Acts tells_notes tells_files number c answer (sight h n f k) (sight h' n' f' k')
  acts_made act e answer planned i is short noted does cause clients =
      let conn : ℕ = conn_of act number in
      let entry : Entry × End = (entry_of conn h.moment act, e) in
      record {
        held = [];
        acts = entry ∷ [];
        held_back = tt;
        sending = inl refl;
        act = record { now = refl; names = refl; answers = subst (λ a. Answers c entry a) (sym is) (answered h number conn h.moment e c act planned.is) };
        short = short;
        noted = noted;
        leads = λ told s holds may.
            let allowed : IsAllowedAct s h.moment conn act Done = subst (λ m. IsAllowedAct s h.moment m act Done) (sym (conn_is h number c act planned.is)) (planned.stands f s holds may) in
            let to = does told s holds allowed in
            let same = stays.moment in
            record {
              between = s;
              back = none;
              calm = λ calm. calm;
              same = λ nothing. refl;
              to = at_moment to.to h.moment;
              steps = record { allowed = to.allowed; later = holds.stands.moment; bounded = sound.moment; between = to.to; does = to.does; is = refl };
              holds = holds_at h' f' to.to h.moment (omega (arith, same)) to.holds;
            };
        rose = λ told s holds. rose_act (entry_of conn h.moment act) e k k' i faults cause;
        caused = λ faulted. fault_act act k k' (cause faulted);
        faults = faults;
        clients = clients;
        stays = stays;
      }

  -- memory was wanting
  pub acts_none : (IsTrue tells_notes → n' ≡ n ++ []) → (IsTrue tells_files → Carries h f h' f' (λ s t. t ≡ s)) → SameClients h h' → Acts tells_notes tells_files number c turned.Memory (sight h n f k) (sight h' n' f' k')
  acts_none noted rests clients = record {
    held = [];
    acts = [];
    held_back = tt;
    sending = inl refl;
    act = refl;
    short = tt;
    noted = noted;
    leads = λ told s holds may.
        let to = rests told s holds in
        record { between = s; back = none; calm = λ calm. calm; same = λ nothing. refl; to = to.0; steps = to.1; holds = to.2 };
    rose = λ told s holds. omega (arith, faults);
    caused = tt;
    faults = faults;
    clients = clients;
    stays = stays;
  }

-- a hall is as set as it was
pub stays_same : (h : Hall) → StaysSet h h
stays_same h = record {
  options = refl;
  epoch = refl;
  began_at = refl;
  moment = refl;
  stuck = refl;
  names = record { before = λ e. e; same = λ e. refl };
  since = since_kept h.moment h.rooms.items h.rooms.items (rooms_same h.moment h.rooms.items);
}
