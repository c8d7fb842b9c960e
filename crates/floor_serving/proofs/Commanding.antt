-- A command of a client, carried out.
use Rattle.std.proofs.Common.{◌≡◌, ℕ, ℤ, List, Bool, true, false, get_or, Option, Some, None, is_some, Ok, Err, ◌||◌, refl, sym, ap, subst, ◌∙◌}
use Rattle.std.specs.Prelude.{HoldsAt, IsTrue}
use Rattle.std.proofs.lemmas.Bool.{false≢true}
use Rattle.nsq_outside.specs.Files.{Files}
use Rattle.nsq_outside.specs.declared.journal.End.{End}
use Rattle.nsq_outside.specs.declared.journal.End.TheVariants as end
use Rattle.v2_frame.specs.declared.command.Command.{Command}
use Rattle.v2_frame.specs.declared.command.Command.TheVariants as command
use Rattle.v2_frame.specs.declared.frame.Frame.{Frame}
use Rattle.broker_history.specs.declared.entry.Act.TheVariants.{Did}
use Rattle.broker_history.specs.State.{Client, State, is_fresh}
use Rattle.broker_history.specs.Step as step
use Rattle.broker_history.specs.Step.{CanFault, IsAllowedAct, is_error, is_kept_off}
use Rattle.negotiation.specs.declared.identity.Identity.{Identity}
use Rattle.floor_rooms.specs.Seen.{held_channel}
use Rattle.floor_calls.specs.Seating.{IsFree}
use Rattle.floor_rooms.specs.declared.hall.Hall.{Hall}
use Rattle.floor_rooms.specs.Places.{IsClientPlace}
use Rattle.floor_rooms.specs.Rooms.{client_in}
use Rattle.floor_rooms.specs.Sound.{IsSound}
use Rattle.floor_rooms.specs.Standing.{Carries}
use Rattle.floor_calls.specs.Replies.{IsShort, KnowsOf, flies_in}
use Rattle.floor_calls.specs.Acts.{DoesAt}
use Rattle.floor_turns.specs.Acting.{ActCarries, IsPlanned, LeavesClients, SameClients, StaysSet, answer_to}
use Rattle.broker_history.specs.Answers.{IsShortAnswer}
use Rattle.floor_serving.specs.declared.carried.Carried.{Carried}
use Rattle.floor_serving.specs.declared.commanded.Commanded.TheVariants as commanded
use Rattle.floor_serving.specs.Carrying.{Around, Basis, CarriesOut, basis}
use Rattle.floor_serving.specs.Commands.{CarriesCommand, IsAccepted, IsLine, IsNoIdentify, KeepsOff, KnowsSaid}
use Rattle.floor_serving.proofs.Conditions.{at_accepted, can_fault}
use Rattle.floor_serving.proofs.Planning.{IsDid, planned_did}
use Rattle.floor_serving.proofs.Staying.{around_kept}
use Rattle.floor_calls.proofs.Marks.{some_same}

-- which command it isn't
pub no_identify : (c : Command) → ((body : List ℕ) → c ≡ command.Identify body → ⊥) → IsNoIdentify c
no_identify (command.Identify body) identify = identify body refl
no_identify (command.Sub topic channel) identify = tt
no_identify (command.Pub topic body) identify = tt
no_identify (command.Mpub topic bodies) identify = tt
no_identify (command.Dpub topic delay body) identify = tt
no_identify (command.Rdy count) identify = tt
no_identify (command.Fin id) identify = tt
no_identify (command.Req id delay) identify = tt
no_identify (command.Touch id) identify = tt
no_identify command.Cls identify = tt
no_identify command.Nop identify = tt

pub is_line : (c : Command) → IsNoIdentify c → ((topic body : List ℕ) → c ≡ command.Pub topic body → ⊥) → ((topic : List ℕ) (bodies : List (List ℕ)) → c ≡ command.Mpub topic bodies → ⊥) → ((topic : List ℕ) (delay : ℤ) (body : List ℕ) → c ≡ command.Dpub topic delay body → ⊥) → IsLine c
is_line (command.Identify body) other one batch delayed = other
is_line (command.Sub topic channel) other one batch delayed = tt
is_line (command.Pub topic body) other one batch delayed = one topic body refl
is_line (command.Mpub topic bodies) other one batch delayed = batch topic bodies refl
is_line (command.Dpub topic delay body) other one batch delayed = delayed topic delay body refl
is_line (command.Rdy count) other one batch delayed = tt
is_line (command.Fin id) other one batch delayed = tt
is_line (command.Req id delay) other one batch delayed = tt
is_line (command.Touch id) other one batch delayed = tt
is_line command.Cls other one batch delayed = tt
is_line command.Nop other one batch delayed = tt

pub line_is : (c : Command) → IsLine c → ((topic channel : List ℕ) → c ≡ command.Sub topic channel → ⊥) → ((count : ℤ) → c ≡ command.Rdy count → ⊥) → ((id : List ℕ) → c ≡ command.Fin id → ⊥) → ((id : List ℕ) (delay : ℤ) → c ≡ command.Req id delay → ⊥) → ((id : List ℕ) → c ≡ command.Touch id → ⊥) → (c ≡ command.Cls → ⊥) → (c ≡ command.Nop → ⊥) → ⊥
line_is (command.Identify body) line sub rdy fin req touch cls nop = line
line_is (command.Sub topic channel) line sub rdy fin req touch cls nop = sub topic channel refl
line_is (command.Pub topic body) line sub rdy fin req touch cls nop = line
line_is (command.Mpub topic bodies) line sub rdy fin req touch cls nop = line
line_is (command.Dpub topic delay body) line sub rdy fin req touch cls nop = line
line_is (command.Rdy count) line sub rdy fin req touch cls nop = rdy count refl
line_is (command.Fin id) line sub rdy fin req touch cls nop = fin id refl
line_is (command.Req id delay) line sub rdy fin req touch cls nop = req id delay refl
line_is (command.Touch id) line sub rdy fin req touch cls nop = touch id refl
line_is command.Cls line sub rdy fin req touch cls nop = cls refl
line_is command.Nop line sub rdy fin req touch cls nop = nop refl

-- the client of a number, where it stands
module _ (h : Hall) (number k : ℕ) (c : Client) (there : client_in h.clients.items number ≡ Some c) where
  pub placed_read : IsClientPlace h.clients.items number (Some k) → (d : Client) → get_or h.clients.items k d ≡ c
  placed_read at d = some_same (get_or h.clients.items k d) c (sym (at.found d) ∙ there)

pub not_placed : (h : Hall) (number : ℕ) (command : Command) (reply : Option Frame) (said : Option Identity) → IsPlanned h number (Did command reply) said → IsClientPlace h.clients.items number None → ⊥
not_placed h number command reply said p none = false≢true (ap is_some (sym none ∙ (planned_did h number command reply said p).there))

-- the client of a command that is no error, at its place
pub accepts : (h : Hall) (number k : ℕ) (command : Command) (reply : Option Frame) (said : Option Identity) → IsPlanned h number (Did command reply) said → IsClientPlace h.clients.items number (Some k) → is_error reply ≡ false → IsAccepted h k command
accepts h number k command reply said p at e =
    let did = planned_did h number command reply said p in
    record {
      client = did.client;
      within = at.in_range;
      reads = placed_read h number k did.client did.there at;
      stays = did.stays;
      accepted = ap is_error (sym did.is) ∙ e;
      whole = did.whole;
    }

knows_of : (h : Hall) (command : Command) (reply : Option Frame) (said : Option Identity) → KnowsOf h.options command reply said → is_error reply ≡ false → KnowsSaid h.options command said
knows_of h (command.Identify body) reply said knows e = knows e
knows_of h command reply said knows e = tt

pub knows_said : (h : Hall) (number : ℕ) (command : Command) (reply : Option Frame) (said : Option Identity) → IsPlanned h number (Did command reply) said → is_error reply ≡ false → KnowsSaid h.options command said
knows_said h number command reply said p e = knows_of h command reply said p.knows e

-- what was done to the client at its place is what the command does
does_client : (h : Hall) (k : ℕ) (c : Client) (command : Command) (refused refused' : Bool) (s t : State) (d : Client) → get_or h.clients.items k d ≡ c → refused ≡ refused' → step.DoesCommand s h.moment (get_or h.clients.items k d) command refused' t → step.DoesCommand s h.moment c command refused t
does_client h k c command refused refused' s t d read same does =
    subst (λ b. step.DoesCommand s h.moment c command b t) (sym same) (subst (λ x. step.DoesCommand s h.moment x command refused' t) read does)

module _ (tells : Bool) (number k : ℕ) (command : Command) (reply : Option Frame) (old new : Basis) (c : Client) (there : client_in old.hall.clients.items number ≡ Some c) (reads : (d : Client) → get_or old.hall.clients.items k d ≡ c) where
  did_act : (e : End) (refused : Bool) → is_kept_off reply e ≡ refused → ((s : State) → IsAllowedAct s old.hall.moment number (Did command reply) end.Done → IsAllowedAct s old.hall.moment number (Did command reply) e)
      → (IsTrue tells → DoesAt k command refused old.hall old.files new.hall new.files) → IsTrue tells → ActCarries old.hall old.files new.hall new.files number (Did command reply) e
  did_act e refused is may does told = λ s holds allowed.
      let x = does told c s holds in
      record {
        allowed = may s allowed;
        to = x.0;
        does = record {
          client = c;
          there = ap (λ cs. client_in cs number) holds.stands.clients ∙ there;
          does = does_client old.hall k c command (is_kept_off reply e) refused s x.0 c (reads c) is x.1;
        };
        holds = x.2;
      }

-- the clients are those that were there, and no Stop was noted
or_false : (b : Bool) → b ≡ (b || false)
or_false true = refl
or_false false = refl

pub leaves_did : (command : Command) (reply : Option Frame) (number : ℕ) (h h' : Hall) → SameClients h h' → LeavesClients (Did command reply) number h h'
leaves_did command reply number h h' same = record { there = same.there; stopped = same.stopped ∙ or_false h.stopped }

short_answer : (reply : Option Frame) → IsShort reply → IsShortAnswer (answer_to reply)
short_answer None short = tt
short_answer (Some frame) short = short

module _ (tells : Bool) (number k : ℕ) (command : Command) (reply : Option Frame) (said : Option Identity) (old new : Basis) (p : IsPlanned old.hall number (Did command reply) said) (at : IsClientPlace old.hall.clients.items number (Some k)) (around : Around tells old new) (same : SameClients old.hall new.hall) where
  abbrev did : IsDid old.hall number command reply
  did = planned_did old.hall number command reply said p

  -- it was carried out or refused as its reply says
  taken : (refused : Bool) → is_error reply ≡ refused → (IsTrue tells → DoesAt k command refused old.hall old.files new.hall new.files) → {E : Type 0} → CarriesOut {E = E} tells number (Did command reply) old new (Ok (record { end = end.Done; answer = answer_to reply }))
  taken refused is does = record {
    around = around;
    ends = record {
      does = did_act tells number k command reply old new did.client did.there (placed_read old.hall number k did.client did.there at) end.Done refused is (λ s allowed. allowed) does;
      answer = refl;
      noted = tt;
      cause = λ e. absurd (false≢true e);
      clients = leaves_did command reply number old.hall new.hall same;
      short = short_answer reply p.short;
    };
  }

  -- or a disk fault kept it off
  faulted : (frame : Frame) → is_error reply ≡ false → KeepsOff tells k command old new frame → {E : Type 0} → CarriesOut {E = E} tells number (Did command reply) old new (Ok (record { end = end.Faulted 0; answer = answer_to (Some frame) }))
  faulted frame e off = record {
    around = around;
    ends = record {
      does = did_act tells number k command reply old new did.client did.there (placed_read old.hall number k did.client did.there at) (end.Faulted 0) true refl
          (λ s allowed. (allowed, subst (CanFault command) (sym did.is) (can_fault old.hall.options old.hall.ids_used did.client.phase (flies_in old.hall did.client) command frame off.says (ap is_error (sym did.is) ∙ e)), refl)) off.does;
      answer = ap answer_to (sym off.says);
      noted = tt;
      cause = λ faulted. off.rose;
      clients = leaves_did command reply number old.hall new.hall same;
      short = off.short;
    };
  }

-- a command that is refused
pub refused : (tells : Bool) (number k : ℕ) (command : Command) (reply : Option Frame) (said : Option Identity) (old new : Basis) (r : Carried) {E : Type 0} → IsPlanned old.hall number (Did command reply) said → IsClientPlace old.hall.clients.items number (Some k) → Around tells old new → SameClients old.hall new.hall
    → is_error reply ≡ true → DoesAt k command true old.hall old.files new.hall new.files → r ≡ record { end = end.Done; answer = answer_to reply } → CarriesOut {E = E} tells number (Did command reply) old new (Ok r)
refused tells number k command reply said old new r {E} p at around same e does is =
    subst (λ (x : Carried). CarriesOut {E = E} tells number (Did command reply) old new (Ok x)) (sym is) (taken tells number k command reply said old new p at around same true e (λ told. does))

-- one that isn't, by how it ended
module _ (tells : Bool) (number k : ℕ) (command : Command) (reply : Option Frame) (said : Option Identity) (old new : Basis) (p : IsPlanned old.hall number (Did command reply) said) (at : IsClientPlace old.hall.clients.items number (Some k)) (e : is_error reply ≡ false) {E : Type 0} where
  pub did_done : (r : Carried) → CarriesCommand {E = E} tells k command old new (Ok commanded.Done) → r ≡ record { end = end.Done; answer = answer_to reply } → CarriesOut {E = E} tells number (Did command reply) old new (Ok r)
  did_done r x is = subst (λ (y : Carried). CarriesOut {E = E} tells number (Did command reply) old new (Ok y)) (sym is) (taken tells number k command reply said old new p at x.around x.same false e x.ends)

  pub did_fault : (frame : Frame) (r : Carried) → CarriesCommand {E = E} tells k command old new (Ok (commanded.Fault frame)) → r ≡ record { end = end.Faulted 0; answer = answer_to (Some frame) } → CarriesOut {E = E} tells number (Did command reply) old new (Ok r)
  did_fault frame r x is = subst (λ (y : Carried). CarriesOut {E = E} tells number (Did command reply) old new (Ok y)) (sym is) (faulted tells number k command reply said old new p at x.around x.same frame e x.ends)

  pub did_not : (err : E) → CarriesCommand {E = E} tells k command old new (Err err) → CarriesOut {E = E} tells number (Did command reply) old new (Err err)
  did_not err x = record { around = x.around; ends = record { rests = x.ends; same = x.same } }

-- a command that needs no folder was carried out
pub command_done : (tells : Bool) (k : ℕ) (command : Command) (h h' : Hall) (f : Files) (n : ℕ) {E : Type 0} → StaysSet h h' → IsSound h' → SameClients h h' → DoesAt k command false h f h' f → CarriesCommand {E = E} tells k command (basis h f n) (basis h' f n) (Ok commanded.Done)
command_done tells k command h h' f n stays sound same does = record { around = around_kept tells h h' f n stays sound; same = same; ends = λ told. does }

-- or memory was wanting for it
pub command_not : (tells : Bool) (k : ℕ) (command : Command) (h h' : Hall) (f : Files) (n : ℕ) {E : Type 0} (e : E) → StaysSet h h' → IsSound h' → SameClients h h' → Carries h f h' f (λ s t. t ≡ s) → CarriesCommand {E = E} tells k command (basis h f n) (basis h' f n) (Err e)
command_not tells k command h h' f n e stays sound same rests = record { around = around_kept tells h h' f n stays sound; same = same; ends = λ told. rests }

-- the client at a place has no channel
pub free_at : (h : Hall) (k : ℕ) (command : Command) (a : IsAccepted h k command) (c : Client) → c ≡ get_or h.clients.items k c → (is_fresh c.phase ≡ true → held_channel c.phase c.route ≡ None) → is_fresh a.client.phase ≡ true → HoldsAt IsFree h.clients.items k
free_at h k command a c read none fresh =
    let same : c ≡ a.client = read ∙ a.reads c in
    let mine : is_fresh c.phase ≡ true = ap (λ (x : Client). is_fresh x.phase) same ∙ fresh in
    at_accepted IsFree h k command a (subst IsFree same (record { fresh = mine; none = none mine }))

pub none_at : (h : Hall) (k : ℕ) → HoldsAt IsFree h.clients.items k → HoldsAt (λ c. held_channel c.phase c.route ≡ None) h.clients.items k
none_at h k free = λ d. (free d).none
