-- Why the acts that a call leads to may stand behind each state that a hall stands for.
use Rattle.std.proofs.Common.{◌≡◌, ℕ, ◌==◌, Bool, true, false, not, ◌||◌, if◌then◌else◌, List, [], ◌∷◌, Some, None, is_some, refl, sym, ap, subst, ◌∙◌, ◌&&◌}
use Rattle.std.specs.List.{list_any}
use Rattle.std.proofs.lemmas.Bool.{false≢true}
use Rattle.nsq_base.specs.Names.{TopicList}
use Rattle.nsq_outside.specs.Files.{Files}
use Rattle.v2_frame.specs.declared.fault.Fault.{Fault}
use Rattle.v2_frame.specs.declared.frame.Frame.{Frame}
use Rattle.broker_history.specs.State.{Client, State, client_channel, is_lost, is_there, names_of}
use Rattle.broker_history.specs.Credit.{has_message, is_beat_due, is_silent}
use Rattle.broker_history.specs.Reply.{refusal, reply_to}
use Rattle.broker_history.specs.Said.{Says}
use Rattle.broker_history.specs.Step.{IsIdle, IsNotLost, OfClient}
use Rattle.floor_rooms.specs.declared.hall.Hall.{Hall}
use Rattle.floor_rooms.specs.Rooms.{client_in, hall_names}
use Rattle.floor_rooms.specs.Standing.{HoldsFor}
use Rattle.broker_history.specs.Answers.{EndsAtStop}
use Rattle.broker_history.specs.declared.ask.Ask.{Ask}
use Rattle.broker_history.specs.declared.ask.Said.{Said}
use Rattle.broker_history.specs.declared.call.Call.{Call}
use Rattle.broker_history.specs.declared.call.Call.TheVariants as call
use Rattle.broker_history.specs.declared.entry.Act.{Act}
use Rattle.broker_history.specs.declared.entry.Act.TheVariants as act
use Rattle.floor_acts.specs.declared.plan.Plan.{Plan}
use Rattle.floor_acts.specs.declared.plan.Plan.TheVariants as leads
use Rattle.floor_acts.specs.declared.due.NextDue.TheVariants as due
use Rattle.floor_acts.specs.Dues.{IsDueTo}
use Rattle.floor_acts.specs.Plans.{IsAllowedPlan, IsPlanOf, IsShortPlan, KnowsPlan, Serves, is_strange}
use Rattle.floor_acts.specs.Replies.{IsShort, IsShortFrame, KnowsOf, RepliesTo, reply_in}
use Rattle.std.specs.Prelude.{IfOk, MatchBool, Ok, Option, Result}
use Rattle.v2_frame.specs.declared.command.Command.{Command}
use Rattle.floor_calls.proofs.Sending.{nothing_gets}

-- a client of the hall, before a Stop
of_client : (h : Hall) (n : ℕ) (c : Client) (files : Files) (s : State) (Is : Client → Type 0) → client_in h.clients.items n ≡ Some c → h.stopped ≡ false → HoldsFor h files s → Is c → OfClient s n Is
of_client h n c files s Is found running holds is = record {
  client = c;
  there = ap (λ cs. client_in cs n) holds.stands.clients ∙ found;
  running = holds.stands.stopped ∙ running;
  is = is;
}

idle : (h : Hall) (n : ℕ) (c : Client) → client_in h.clients.items n ≡ Some c → h.stopped ≡ false → IsDueTo h c due.Nothing → (files : Files) (s : State) → HoldsFor h files s → OfClient s n (IsIdle s h.moment)
idle h n c found running is files s holds =
    of_client h n c files s (IsIdle s h.moment) found running holds (record { quiet = is.0; none = ap (λ b. b && has_message (client_channel s c.route)) (nothing_gets h c is.0 is.1 files s holds) })

-- a client that is found is there
any_one : (n : ℕ) (c : Client) (cs : List Client) (b : Bool) → (is_some (client_in cs n) ≡ true → list_any (λ (d : Client). d.number == n) cs ≡ true) → is_some (if b then Some c else client_in cs n) ≡ true → (b || list_any (λ (d : Client). d.number == n) cs) ≡ true
any_one n c cs true rest e = refl
any_one n c cs false rest e = rest e

any_found : (n : ℕ) (cs : List Client) → is_some (client_in cs n) ≡ true → list_any (λ (d : Client). d.number == n) cs ≡ true
any_found n [] e = absurd (false≢true e)
any_found n (c ∷ cs) e = any_one n c cs (c.number == n) (any_found n cs) e

gone : (h : Hall) (n : ℕ) → is_some (client_in h.clients.items n) ≡ true → (files : Files) (s : State) → HoldsFor h files s → is_there s n ≡ true
gone h n there files s holds = ap (λ cs. list_any (λ (d : Client). d.number == n) cs) holds.stands.clients ∙ any_found n h.clients.items there

-- who isn't strange is there
not_strange : (there : Bool) → not there ≡ false → there ≡ true
not_strange true e = refl
not_strange false e = absurd (false≢true (sym e))

-- who doesn't call strangely, of a call that a client alone makes, is there
pub there_at : (h : Hall) (n : ℕ) (c d : Call) → c ≡ d → is_strange d (is_some (client_in h.clients.items n)) ≡ not (is_some (client_in h.clients.items n)) → Serves h n c → is_some (client_in h.clients.items n) ≡ true
there_at h n c d is own serves = not_strange (is_some (client_in h.clients.items n)) (sym own ∙ subst (λ (e : Call). is_strange e (is_some (client_in h.clients.items n)) ≡ false) is serves.fits)

-- no Stop keeps the call from an act
pub running_at : (h : Hall) (n : ℕ) (c d : Call) → c ≡ d → EndsAtStop d → Serves h n c → h.stopped ≡ false
running_at h n c d is ends serves = serves.running (subst (λ (e : Call). EndsAtStop e) (sym is) ends)

-- all that is said of what a call leads to
pub record Leads (h : Hall) (n : ℕ) (c : Call) (p : Plan) : Type 0 where
  pub shape : IsPlanOf h n c p
  pub stands : IsAllowedPlan h n c p
  pub knows : KnowsPlan h.options p
  pub short : IsShortPlan p

leads_at : (h : Hall) (n : ℕ) (c d : Call) (p q : Plan) → c ≡ d → p ≡ q → Leads h n d q → Leads h n c p
leads_at h n c d p q is by all = subst (λ (r : Plan). Leads h n c r) (sym by) (subst (λ (e : Call). Leads h n e q) (sym is) all)

-- the same where memory might have been wanting
pub record LeadsTo {E : Type 0} (h : Hall) (n : ℕ) (c : Call) (r : Result Plan E) : Type 0 where
  pub shape : IfOk r (IsPlanOf h n c)
  pub stands : IfOk r (IsAllowedPlan h n c)
  pub knows : IfOk r (KnowsPlan h.options)
  pub short : IfOk r IsShortPlan

-- an act of which nothing was said
abbrev pub plain : Act → Plan
plain a = leads.Act (record { act = a; said = None })

module _ {E : Type 0} (h : Hall) (n : ℕ) where
  leads_to : (c d : Call) (r : Result Plan E) (p : Plan) → c ≡ d → r ≡ Ok p → Leads h n d p → LeadsTo h n c r
  leads_to c d r p is by all =
      subst (λ (q : Result Plan E). LeadsTo h n c q) (sym by) (subst (λ (e : Call). LeadsTo {E = E} h n e (Ok p)) (sym is) (record { shape = all.shape; stands = all.stands; knows = all.knows; short = all.short }))

pub begin_leads : {E : Type 0} (h : Hall) (n : ℕ) (c : Call) (r : Result Plan E) → c ≡ call.Begin → r ≡ Ok (plain act.Began) → LeadsTo h n c r
begin_leads h n c r is by =
    leads_to h n c call.Begin r (plain act.Began) is by (record { shape = refl; stands = λ files s holds may. may; knows = refl; short = tt })

pub gone_leads : {E : Type 0} (h : Hall) (n : ℕ) (c : Call) (r : Result Plan E) → c ≡ call.Gone → r ≡ Ok (plain act.Gone) → Serves h n c → LeadsTo h n c r
gone_leads h n c r is by serves =
    let there : is_some (client_in h.clients.items n) ≡ true = there_at h n c call.Gone is refl serves in
    leads_to h n c call.Gone r (plain act.Gone) is by (record { shape = refl; stands = λ files s holds may. gone h n there files s holds; knows = refl; short = tt })

pub tick_leads : {E : Type 0} (h : Hall) (n : ℕ) (c : Call) (r : Result Plan E) → c ≡ call.Tick → r ≡ Ok (plain act.Ticked) → Serves h n c → LeadsTo h n c r
tick_leads h n c r is by serves =
    let running : h.stopped ≡ false = running_at h n c call.Tick is tt serves in
    leads_to h n c call.Tick r (plain act.Ticked) is by (record { shape = refl; stands = λ files s holds may. record { daemon = refl; running = holds.stands.stopped ∙ running }; knows = refl; short = tt })

pub stop_leads : {E : Type 0} (h : Hall) (n : ℕ) (c : Call) (r : Result Plan E) → c ≡ call.Stop → r ≡ Ok (plain act.Stop) → Serves h n c → LeadsTo h n c r
stop_leads h n c r is by serves =
    let running : h.stopped ≡ false = running_at h n c call.Stop is tt serves in
    leads_to h n c call.Stop r (plain act.Stop) is by (record { shape = refl; stands = λ files s holds may. holds.stands.stopped ∙ running; knows = refl; short = tt })

pub asked_leads : {E : Type 0} (h : Hall) (n : ℕ) (a : Ask) (said : Said) (r : Result Plan E) → h.stopped ≡ false → ((files : Files) (s : State) → HoldsFor h files s → Says s a said) → r ≡ Ok (plain (act.Asked a said)) → LeadsTo h n (call.Ask a) r
asked_leads h n a said r running says by =
    leads_to h n (call.Ask a) (call.Ask a) r (plain (act.Asked a said)) refl by (record { shape = (said, refl); stands = λ files s holds may. (holds.stands.stopped ∙ running, says files s holds); knows = refl; short = tt })

pub names_leads : {E : Type 0} (h : Hall) (n : ℕ) (names : TopicList) (r : Result Plan E) → names ≡ hall_names h → ((files : Files) (s : State) → HoldsFor h files s → names ≡ names_of s) → r ≡ Ok (plain (act.Listed names)) → LeadsTo h n call.Names r
names_leads h n names r is told by =
    leads_to h n call.Names call.Names r (plain (act.Listed names)) refl by (record { shape = ap act.Listed is; stands = λ files s holds may. told files s holds; knows = refl; short = tt })

-- an act by whether the client's channel was deleted
by_lost : (h : Hall) (c : Client) (command : Command) (a : Act) (b : Bool) → b ≡ true → a ≡ act.Dropped → MatchBool b (a ≡ act.Dropped) (a ≡ act.Did command (reply_in h c command))
by_lost h c command a true e is = is
by_lost h c command a false e is = absurd (false≢true e)

by_reply : (h : Hall) (c : Client) (command : Command) (a : Act) (b : Bool) → b ≡ false → a ≡ act.Did command (reply_in h c command) → MatchBool b (a ≡ act.Dropped) (a ≡ act.Did command (reply_in h c command))
by_reply h c command a true e is = absurd (false≢true (sym e))
by_reply h c command a false e is = is

-- what the call of a client that is found leads to, before a Stop
module _ (h : Hall) (n : ℕ) (c : Client) (found : client_in h.clients.items n ≡ Some c) (running : h.stopped ≡ false) where
  pub lost_leads : {E : Type 0} (command : Command) (r : Result Plan E) → is_lost c.phase ≡ true → r ≡ Ok (plain act.Dropped) → LeadsTo h n (call.Command command) r
  lost_leads command r lost by =
      leads_to h n (call.Command command) (call.Command command) r (plain act.Dropped) refl by
      (record { shape = record { client = c; there = found; is = by_lost h c command act.Dropped (is_lost c.phase) lost refl }; stands = λ files s holds may. of_client h n c files s (λ d. is_lost d.phase ≡ true) found running holds lost; knows = refl; short = tt })

  pub refused_leads : {E : Type 0} (fault : Fault) (frame : Frame) (r : Result Plan E) → frame ≡ refusal fault → IsShortFrame frame → r ≡ Ok (plain (act.Refused fault frame)) → LeadsTo h n (call.Bad fault) r
  refused_leads fault frame r is short by =
      leads_to h n (call.Bad fault) (call.Bad fault) r (plain (act.Refused fault frame)) refl by
      (record { shape = ap (act.Refused fault) is; stands = λ files s holds may. of_client h n c files s (λ d. frame ≡ refusal fault) found running holds is; knows = refl; short = short })

  pub did_leads : (command : Command) (reply : Option Frame) (said : Option _) → is_lost c.phase ≡ false → reply ≡ reply_in h c command → RepliesTo h c command reply → KnowsOf h.options command reply said → IsShort reply → Leads h n (call.Command command) (leads.Act (record { act = act.Did command reply; said = said }))
  did_leads command reply said lost is told knows short = record {
    shape = record { client = c; there = found; is = by_reply h c command (act.Did command reply) (is_lost c.phase) lost (ap (act.Did command) is) };
    stands = λ files s holds may. of_client h n c files s (λ d. IsNotLost d × (reply ≡ reply_to s d command)) found running holds (lost, told lost files s holds);
    knows = knows;
    short = short;
  }

  pub lost_next : (p : Plan) → IsDueTo h c due.Dropped → p ≡ plain act.Dropped → Leads h n call.Next p
  lost_next p is by =
      leads_at h n call.Next call.Next p (plain act.Dropped) refl by
      (record { shape = record { client = c; there = found; is = is }; stands = λ files s holds may. of_client h n c files s (λ d. is_lost d.phase ≡ true) found running holds is; knows = refl; short = tt })

  pub silent_next : (p : Plan) → IsDueTo h c due.Silent → p ≡ plain act.Silent → Leads h n call.Next p
  silent_next p is by =
      leads_at h n call.Next call.Next p (plain act.Silent) refl by
      (record { shape = record { client = c; there = found; is = is }; stands = λ files s holds may. of_client h n c files s (λ d. IsNotLost d × (is_silent h.moment d ≡ true)) found running holds is; knows = refl; short = tt })

  pub beat_next : (p : Plan) → IsDueTo h c due.Beat → p ≡ plain act.Beat → Leads h n call.Next p
  beat_next p is by =
      leads_at h n call.Next call.Next p (plain act.Beat) refl by
      (record { shape = record { client = c; there = found; is = is }; stands = λ files s holds may. of_client h n c files s (λ d. IsNotLost d × (is_silent h.moment d ≡ false) × (is_beat_due h.moment d ≡ true)) found running holds is; knows = refl; short = tt })

  pub idle_next : (p : Plan) → IsDueTo h c due.Nothing → p ≡ plain act.Idle → Leads h n call.Next p
  idle_next p is by =
      leads_at h n call.Next call.Next p (plain act.Idle) refl by
      (record { shape = record { client = c; there = found; is = is }; stands = λ files s holds may. idle h n c found running is files s holds; knows = refl; short = tt })

  pub draws_next : (i j : ℕ) → IsDueTo h c (due.Message i j) → Leads h n call.Next (leads.Draw i j)
  draws_next i j is = record { shape = (refl, record { client = c; there = found; quiet = is.0; from = is.1 }); stands = tt; knows = tt; short = tt }
