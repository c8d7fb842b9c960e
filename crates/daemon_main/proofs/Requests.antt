-- Which request asks that the daemon stops, and which exchange notes a Stop.
use Rattle.std.proofs.Common.{◌≡◌, ◌<◌, inl, inr, ℕ, ◌+◌, ◌++◌, ◌∷◌, [], List, Bool, true, false, not, cond, if◌then◌else◌, Option, None, Some, Result, Ok, Err, refl, sym, ◌∙◌, ap, subst, arith}
use Rattle.std.specs.Prelude.{◌⊎◌, codes}
use Rattle.std.specs.List.{AllByRecursion, find}
use Rattle.std.specs.Str.{bytes_eq}
use Rattle.std.proofs.lemmas.Bool.{false≢true}
use Rattle.nsq_base.specs.declared.options.Options.{Options}
use Rattle.nsq_outside.specs.declared.journal.End.{End}
use Rattle.broker_history.specs.declared.ask.Ask.{Ask}
use Rattle.broker_history.specs.declared.ask.Said.{Said}
use Rattle.broker_history.specs.declared.entry.Act.{Act}
use Rattle.broker_history.specs.declared.entry.Act.TheVariants.{Stop}
use Rattle.broker_history.specs.declared.entry.Entry.{Entry}
use Rattle.broker_history.specs.Entries.{History, is_stop, stops_of}
use Rattle.broker_history.specs.Talk.{bytes_of}
use Rattle.broker_history.proofs.Lists.{exact_bytes}
use Rattle.http_wire.specs.declared.request.Request.{Request}
use Rattle.http_wire.specs.Request.{IsRequest, Whole}
use Rattle.http_calls.specs.declared.answer.HttpAnswer.{HttpAnswer}
use Rattle.http_calls.specs.declared.call.HttpCall.{HttpCall}
use Rattle.http_calls.specs.declared.call.HttpCall.TheVariants as call
use Rattle.http_calls.specs.declared.refusal.Refusal.{Refusal}
use Rattle.http_calls.specs.declared.refusal.Refusal.TheVariants.{NotFound, MethodNotAllowed}
use Rattle.http_calls.specs.Calls.{asks, call_for, called, is_served, judged}
use Rattle.http_calls.specs.Routes.{method_of, path_of, route_at, routes}
use Rattle.daemon_callers.specs.declared.http.ended.EndedHttp.{EndedHttp}
use Rattle.daemon_callers.specs.declared.http.ended.EndedHttp.TheVariants.{Answered, EndOfInput, Cut, Closed, ReadFault, WriteFault, Memory}
use Rattle.daemon_callers.specs.Exchange.{Answers, Fits, IsAsking, IsExchange, IsListing, is_listed, refused, alone, told, stopping, stopped}
use Rattle.daemon_callers.proofs.Others.{stops-append}

-- ---- which request asks for a Stop

-- whether a call stops
abbrev stops_call : HttpCall → Bool
stops_call call.Stops = true
stops_call c = false

-- what asks something doesn't stop
asks_no_stop : (r : Result Ask Refusal) → stops_call (asks r) ≡ false
asks_no_stop (Ok a) = refl
asks_no_stop (Err e) = refl

asked_away : {A : Type 0} (r : Result Ask Refusal) → stops_call (asks r) ≡ true → A
asked_away r h = absurd (false≢true (sym (asks_no_stop r) ∙ h))

-- a call that stops has this path and this method, and is served where the options say so. In the order of the calls: two that are answered at once, those that ask, and the stop
each_stop : (o : Options) (began : ℕ) (r : Request) → AllByRecursion (λ named. stops_call (called o began r named) ≡ true → (path_of named ≡ codes "/stop") × (method_of named ≡ codes "POST") × (is_served o named ≡ o.http_stop)) routes
each_stop o began r = (λ h. absurd (false≢true h), (λ h. absurd (false≢true h), (λ h. asked_away _ h, (λ h. asked_away _ h, (λ h. asked_away _ h, (λ h. asked_away _ h, (λ h. asked_away _ h, (λ h. asked_away _ h, (λ h. asked_away _ h, (λ h. asked_away _ h, (λ h. asked_away _ h, (λ h. asked_away _ h, (λ h. asked_away _ h, (λ h. asked_away _ h, (λ h. asked_away _ h, (λ h. (refl, refl, refl), tt))))))))))))))))

-- what is found in a list passes the test, and has what each item has
module _ {X : Type 0} (test : X → Bool) (P : X → Type 0) where
  found_here : (y x : X) (later : Option X) (b : Bool) → test y ≡ b → P y → (later ≡ Some x → (test x ≡ true) × P x) → cond b (Some y) later ≡ Some x → (test x ≡ true) × P x
  found_here y x later true is has rest e = let same : y ≡ x = cc in subst (λ z. (test z ≡ true) × P z) same (is, has)
  found_here y x later false is has rest e = rest e

  found_so : (xs : List X) (x : X) → AllByRecursion P xs → find test xs ≡ Some x → (test x ≡ true) × P x
  found_so [] x all h = cc
  found_so (y ∷ ys) x all h = found_here y x (find test ys) (test y) refl all.0 (found_so ys x all.1) h

-- by cases on an option whose type has no name here
option_cases : {X : Type 0} (P : Option X → Type 0) → P None → ((x : X) → P (Some x)) → (found : Option X) → P found
option_cases P none some None = none
option_cases P none some (Some x) = some x

-- a call that stops is served, and its method is the request's
judged_by : (served matched : Bool) (c : HttpCall) → stops_call (if not served then call.Refused NotFound else (if not matched then call.Refused MethodNotAllowed else c)) ≡ true → (served ≡ true) × (matched ≡ true) × (stops_call c ≡ true)
judged_by false matched c h = absurd (false≢true h)
judged_by true false c h = absurd (false≢true h)
judged_by true true c h = (refl, refl, h)

-- what a request has that asks for a Stop
pub record HasStopForm (o : Options) (r : Request) : Type 0 where
  pub path : r.path ≡ codes "/stop"
  pub method : r.method ≡ codes "POST"
  pub allowed : o.http_stop ≡ true

stop_so : (o : Options) (r : Request) (path method : List ℕ) (served : Bool) → bytes_eq r.path path ≡ true → bytes_eq r.method method ≡ true → served ≡ true → (path ≡ codes "/stop") × (method ≡ codes "POST") × (served ≡ o.http_stop) → HasStopForm o r
stop_so o r path method served same_path same_method is f = record { path = exact_bytes r.path path same_path ∙ f.0; method = exact_bytes r.method method same_method ∙ f.1; allowed = sym f.2 ∙ is }

-- a request that stops is `POST /stop`, and the options let it be served
pub stop_form : (o : Options) (began : ℕ) (r : Request) → call_for o began r ≡ call.Stops → HasStopForm o r
stop_form o began r h =
    option_cases (λ found. route_at r.path ≡ found → stops_call (judged o began r found) ≡ true → HasStopForm o r) (λ at stops. absurd (false≢true stops))
    (λ named at stops.
    let found = found_so (λ x. bytes_eq r.path (path_of x)) (λ x. stops_call (called o began r x) ≡ true → (path_of x ≡ codes "/stop") × (method_of x ≡ codes "POST") × (is_served o x ≡ o.http_stop)) routes named (each_stop o began r) at in
    let by = judged_by (is_served o named) (bytes_eq r.method (method_of named)) (called o began r named) stops in
    stop_so o r (path_of named) (method_of named) (is_served o named) found.0 by.1 by.0 (found.1 by.2))
    (route_at r.path) refl (ap stops_call h)

-- ---- which exchange notes one

one_none : (e : Entry × End) → is_stop e.0.act ≡ false → stops_of (e ∷ []) ≡ 0
one_none e f = rw f refl

listed_act : (a : Act) → is_listed a ≡ true → is_stop a ≡ false
listed_act Stop h = absurd (false≢true h)
listed_act a h = refl

listing_none : (mine : History) → IsListing mine → stops_of mine ≡ 0
listing_none mine l = ap stops_of l.whole ∙ one_none l.listed (listed_act l.listed.0.act l.lists)

asking_none : (a : Ask) (said : Said) (mine : History) → IsAsking a said mine → stops_of mine ≡ 0
asking_none a said mine i = ap stops_of i.whole ∙ one_none i.entry (ap is_stop i.asked)

-- these bytes are a whole request that asks for a Stop
pub record AreStopBytes (o : Options) (began : ℕ) (bytes : List ℕ) : Type 0 where
  pub request : Request
  pub whole : IsRequest o.max_body_size bytes (Whole request)
  pub stops : call_for o began request ≡ call.Stops

module _ (o : Options) (began : ℕ) where
  away : (bytes : List ℕ) (mine : History) → stops_of mine ≡ 0 → 0 < stops_of mine → AreStopBytes o began bytes
  away bytes mine none some = absurd (omega (arith, none, some))

  answers_stop : (bytes : List ℕ) (mine : History) (answer : HttpAnswer) → Answers o began bytes mine answer → 0 < stops_of mine → AreStopBytes o began bytes
  answers_stop bytes mine answer (refused outcome r is why none gives) some = away bytes mine (ap stops_of none) some
  answers_stop bytes mine answer (alone request is gives none) some = away bytes mine (ap stops_of none) some
  answers_stop bytes mine answer (told request a said is calls asking gives) some = away bytes mine (asking_none a said mine asking) some
  answers_stop bytes mine answer (stopping request a is calls listing gives) some = away bytes mine (listing_none mine listing) some
  answers_stop bytes mine answer (stopped request is calls entries gives) some = record { request = request; whole = is; stops = calls }

  fits_stop : (pieces : List (List ℕ)) (mine : History) → Fits o began pieces mine → 0 < stops_of mine → AreStopBytes o began (bytes_of pieces)
  fits_stop pieces mine (inl none) some = away (bytes_of pieces) mine (ap stops_of none) some
  fits_stop pieces mine (inr (inl a)) some = answers_stop (bytes_of pieces) mine a.0 a.1 some
  fits_stop pieces mine (inr (inr open_so)) some = away (bytes_of pieces) mine (listing_none mine open_so.1) some

  -- a last entry may be missing
  noted_stops : (mine whole : History) → (mine ≡ whole) ⊎ ((last : Entry × End) × (whole ≡ mine ++ last ∷ [])) → 0 < stops_of mine → 0 < stops_of whole
  noted_stops mine whole (inl same) some = subst (λ h. 0 < stops_of h) same some
  noted_stops mine whole (inr lacks) some = let more : stops_of whole ≡ stops_of mine + stops_of (lacks.0 ∷ []) = ap stops_of lacks.1 ∙ stops-append mine (lacks.0 ∷ []) in omega (arith, more, some)

  -- an exchange whose entries have a Stop is one whose bytes ask for it
  pub exchange_stop : (pieces : List (List ℕ)) (mine : History) (out : List ℕ) (ended : EndedHttp) → IsExchange o began pieces mine out ended → 0 < stops_of mine → AreStopBytes o began (bytes_of pieces)
  exchange_stop pieces mine out Answered x some = answers_stop (bytes_of pieces) mine x.answer x.answers some
  exchange_stop pieces mine out WriteFault x some = answers_stop (bytes_of pieces) mine x.answer x.answers some
  exchange_stop pieces mine out EndOfInput x some = let left = x.1 in away (bytes_of pieces) mine (ap stops_of left.no_own) some
  exchange_stop pieces mine out Cut x some = let left = x.2 in away (bytes_of pieces) mine (ap stops_of left.no_own) some
  exchange_stop pieces mine out Closed x some = away (bytes_of pieces) mine (listing_none mine x.1) some
  exchange_stop pieces mine out ReadFault x some = let left = x.1 in away (bytes_of pieces) mine (ap stops_of left.no_own) some
  exchange_stop pieces mine out Memory x some = fits_stop pieces x.whole x.fits (noted_stops mine x.whole x.noted some)
