-- The Stops of a history, and who asked for them.
use Rattle.std.proofs.Common.{◌≡◌, ◌⊎◌, ◌≤◌, ◌<◌, inl, inr, ℕ, zero, suc, ◌+◌, ◌==◌, ◌++◌, ◌∷◌, [], List, Bool, true, false, not, ◌&&◌, if◌then◌else◌, length, length-append, append_assoc, refl, sym, ◌∙◌, ap, subst, arith}
use Rattle.std.specs.List.{AllByRecursion}
use Rattle.std.proofs.lemmas.Bool.{eq-eqb, eqb-true, false≢true}
use Rattle.nsq_base.specs.declared.options.Options.{Options}
use Rattle.nsq_outside.specs.Hosts.{HostContent}
use Rattle.nsq_outside.specs.declared.host.Kind.{Kind}
use Rattle.nsq_outside.specs.declared.host.Kind.TheVariants.{Tcp, Http}
use Rattle.nsq_outside.specs.declared.journal.End.{End}
use Rattle.broker_history.specs.declared.entry.Act.{Act}
use Rattle.broker_history.specs.declared.entry.Act.TheVariants.{Stop}
use Rattle.broker_history.specs.declared.entry.Entry.{Entry}
use Rattle.broker_history.specs.Entries.{History, has_stop, is_common, is_stop, own, stops_of}
use Rattle.broker_history.proofs.Own.{own-append}
use Rattle.daemon_callers.specs.Served.{AreServed, IsServed, NamesUpTo, UpTo, Views, limits_of}
use Rattle.daemon_callers.specs.Stops.{AddsStop}
use Rattle.daemon_callers.proofs.Halting.{served_no_stop}
use Rattle.daemon_callers.proofs.Others.{stops-append}
use Rattle.daemon_main.specs.Callers.{AsksStop, DaemonStops, HasCallersStop, HasStopCause, IsOfStop, StopsAreCaused, StopsLast}
use Rattle.floor_laws.specs.Laws.{IsOf}
use Rattle.daemon_endings.specs.declared.serving.ServeEnd.{ServeEnd}
use Rattle.daemon_main.proofs.Requests.{exchange_stop, stop_form}

-- a Stop is no common entry
stop_apart : (a : Act) → is_stop a ≡ true → is_common a ≡ false
stop_apart Stop h = refl
stop_apart a h = absurd (false≢true h)

stop_one : (e : Entry × End) → is_stop e.0.act ≡ true → stops_of (own e.0.conn (e ∷ [])) ≡ 1
stop_one e is = let here : (e.0.conn == e.0.conn) ≡ true = eq-eqb e.0.conn e.0.conn refl in let other : is_common e.0.act ≡ false = stop_apart e.0.act is in rw (here, other) (rw is refl)

-- so it counts among those of its number
counts_own : (front : History) (e : Entry × End) (h : History) → is_stop e.0.act ≡ true → 0 < stops_of (own e.0.conn (front ++ e ∷ h))
counts_own front e h is =
    let n = e.0.conn in
    let all : stops_of (own n (front ++ e ∷ h)) ≡ stops_of (own n front) + stops_of (own n (e ∷ h)) = ap stops_of (own-append n front (e ∷ h)) ∙ stops-append (own n front) (own n (e ∷ h)) in
    let rest : stops_of (own n (e ∷ h)) ≡ stops_of (own n (e ∷ [])) + stops_of (own n h) = ap stops_of (own-append n (e ∷ []) h) ∙ stops-append (own n (e ∷ [])) (own n h) in
    let one = stop_one e is in
    omega (arith, all, rest, one)

-- each Stop has its cause, where a number's Stops have theirs, and no entry names a number above this one
module _ (count : ℕ) (Cause : ℕ → Type 0) where
  caused_from : (whole front h : History) → whole ≡ front ++ h → UpTo count h → ((n : ℕ) → n ≤ count → 0 < stops_of (own n whole) → Cause n) → AllByRecursion (λ (e : Entry × End). is_stop e.0.act ≡ true → Cause e.0.conn) h
  caused_from whole front [] is up causes = tt
  caused_from whole front (e ∷ h) is up causes = (
    λ stops. one e up.0 stops (subst (λ x. 0 < stops_of (own e.0.conn x)) (sym is) (counts_own front e h stops)),
    caused_from whole (front ++ e ∷ []) h (is ∙ sym (append_assoc front (e ∷ []) h)) up.1 causes,
  )
    where
      one : (e : Entry × End) → NamesUpTo count e → is_stop e.0.act ≡ true → 0 < stops_of (own e.0.conn whole) → Cause e.0.conn
      one e (inl common) stops some = absurd (false≢true (sym (stop_apart e.0.act stops) ∙ common))
      one e (inr low) stops some = causes e.0.conn low some

-- ---- whose Stops they are

above : (n first : ℕ) → (n == first) ≡ false → first ≤ n → first + 1 ≤ n
above n first is low = grind (arith, is, low)

module _ {K : Type 0} (seen : Views K) (o : Options) (began : ℕ) (h : History) (callers : List (Kind × List ℕ)) (back : List (ℕ × K)) where
  one_asks : (kind : Kind) (bytes : List ℕ) (before after : List (Kind × List ℕ)) (earlier later : List (ℕ × K)) (n : ℕ) (conn : K) → callers ≡ before ++ (kind, bytes) ∷ after → n ≡ length before + 1
      → back ≡ earlier ++ (n, conn) ∷ later → IsServed seen o began h n kind bytes conn → 0 < stops_of (own n h) → AsksStop seen o began callers back n
  one_asks Tcp bytes before after earlier later n conn place number returned s some = let none = served_no_stop seen (limits_of o) h n bytes conn s in absurd (omega (arith, none, some))
  one_asks Http bytes before after earlier later n conn place number returned s some =
      let x = s.exchange in
      let asks = exchange_stop o began (seen.pieces conn) (own n h) (seen.written conn) s.ended x.exchange some in
      let form = stop_form o began asks.request asks.stops in
      record {
        before = before;
        bytes = bytes;
        after = after;
        place = place;
        number_is = number;
        earlier = earlier;
        conn = conn;
        later = later;
        returned = returned;
        request = asks.request;
        whole = asks.whole;
        stops = asks.stops;
        path = form.path;
        method = form.method;
        allowed = form.allowed;
      }

  asks_from : (first : ℕ) (before cs : List (Kind × List ℕ)) (earlier xs : List (ℕ × K)) → callers ≡ before ++ cs → back ≡ earlier ++ xs → first ≡ length before + 1 → AreServed seen o began h first cs xs → (n : ℕ) → first ≤ n → n < first + length cs
      → 0 < stops_of (own n h) → AsksStop seen o began callers back n
  asks_from first before [] earlier [] came returned at s n low high some = absurd (omega (arith, low, high))
  asks_from first before [] earlier (x ∷ xs) came returned at s n low high some = absurd s
  asks_from first before (c ∷ cs) earlier [] came returned at s n low high some = absurd s
  asks_from first before (c ∷ cs) earlier (x ∷ xs) came returned at s n low high some =
      let size : length (before ++ c ∷ []) ≡ length before + 1 = length-append before (c ∷ []) in
      go (n == first) refl
      (λ other. asks_from (first + 1) (before ++ c ∷ []) cs (earlier ++ x ∷ []) xs (came ∙ sym (append_assoc before (c ∷ []) cs)) (returned ∙ sym (append_assoc earlier (x ∷ []) xs)) (omega (arith, at, size)) s.2 n other (omega (arith, high)) some)
    where
      go : (b : Bool) → (n == first) ≡ b → (first + 1 ≤ n → AsksStop seen o began callers back n) → AsksStop seen o began callers back n
      go true is rest =
          let here : n ≡ first = eqb-true n first is in
          let its : x.0 ≡ n = s.0 ∙ sym here in
          one_asks c.0 c.1 before cs earlier xs n x.1 came (here ∙ at) (returned ∙ ap (λ k. earlier ++ (k, x.1) ∷ xs) its) (subst (λ k. IsServed seen o began h k c.0 c.1 x.1) (sym here) s.1) some
      go false is rest = rest (above n first is low)

  -- a caller's number has a Stop only where that caller asked for it
  asked : AreServed seen o began h 1 callers back → (n : ℕ) → 1 ≤ n → n ≤ length callers → 0 < stops_of (own n h) → AsksStop seen o began callers back n
  asked s n low high some = asks_from 1 [] callers [] back refl refl refl s n low (omega (arith, high)) some

  module _ (ended : ServeEnd) (accept accept' : ℕ) (content : HostContent K) where
    cause_of : AreServed seen o began h 1 callers back → (0 < stops_of (own 0 h) → DaemonStops ended (length callers) accept accept' content) → (n : ℕ) → n ≤ length callers → 0 < stops_of (own n h)
        → HasStopCause seen o began callers back ended accept accept' content n
    cause_of s daemons zero high some = daemons some
    cause_of s daemons (suc n) high some = asked s (suc n) (omega arith) high some

    -- each Stop has its cause, where the daemon's own has
    pub stops_caused : AreServed seen o began h 1 callers back → UpTo (length callers) h → (0 < stops_of (own 0 h) → DaemonStops ended (length callers) accept accept' content)
        → StopsAreCaused seen o began callers back ended accept accept' content h
    stops_caused s up daemons = caused_from (length callers) (HasStopCause seen o began callers back ended accept accept' content) h [] h refl up (cause_of s daemons)

-- ---- that a Stop stands

one_stop : (e : Entry × End) (h : History) (b : Bool) → is_stop e.0.act ≡ b → (b ≡ true → 0 < stops_of (e ∷ h)) × (b ≡ false → stops_of (e ∷ h) ≡ stops_of h)
one_stop e h true is = (λ _. let both = stops-append (e ∷ []) h in let one : stops_of (e ∷ []) ≡ 1 = rw is refl in omega (arith, both, one), λ f. absurd (false≢true (sym f)))
one_stop e h false is = (λ t. absurd (false≢true t), λ _. rw is refl)

stops_by : (e : Entry × End) (h : History) (b : Bool) → is_stop e.0.act ≡ b → has_stop (e ∷ h) ≡ true → (has_stop h ≡ true → 0 < stops_of h) → 0 < stops_of (e ∷ h)
stops_by e h true here is rest = (one_stop e h true here).0 refl
stops_by e h false here is rest = let more : has_stop h ≡ true = rw here at is in let some = rest more in let same = (one_stop e h false here).1 refl in omega (arith, some, same)

pub has_stops : (h : History) → has_stop h ≡ true → 0 < stops_of h
has_stops [] is = absurd (false≢true is)
has_stops (e ∷ h) is = stops_by e h (is_stop e.0.act) refl is (has_stops h)

cons_nil : {A : Type 0} (e : Entry × End) (h : History) → e ∷ h ≡ [] → A
cons_nil e h same = cc

-- a Stop that isn't the daemon's is a caller's
above_0 : (e : Entry × End) (h : History) (n : ℕ) → e.0.conn ≡ n → is_stop e.0.act ≡ true → own 0 (e ∷ h) ≡ [] → 0 < e.0.conn
above_0 e h zero names is none =
    let some : 0 < stops_of (own 0 (e ∷ h)) = subst (λ k. 0 < stops_of (own k (e ∷ h))) names (counts_own [] e h is) in
    let no : stops_of (own 0 (e ∷ h)) ≡ 0 = ap stops_of none in
    absurd (omega (arith, some, no))
above_0 e h (suc n) names is none = omega (arith, names)

rest_none : (e : Entry × End) (h : History) → own 0 (e ∷ h) ≡ [] → own 0 h ≡ []
rest_none e h none = nothing (own 0 (e ∷ [])) (own 0 h) (sym (own-append 0 (e ∷ []) h) ∙ none)
  where
    nothing : (a b : History) → a ++ b ≡ [] → b ≡ []
    nothing [] b same = same
    nothing (x ∷ a) b same = cons_nil x (a ++ b) same

stop_here : (e : Entry × End) (h : History) (b : Bool) → is_stop e.0.act ≡ b → has_stop (e ∷ h) ≡ true → own 0 (e ∷ h) ≡ [] → (has_stop h ≡ true → HasCallersStop h) → HasCallersStop (e ∷ h)
stop_here e h true here is none rest = record { before = []; stop = e; after = h; whole = refl; is = here; of_caller = above_0 e h e.0.conn refl here none }
stop_here e h false here is none rest =
    let more : has_stop h ≡ true = rw here at is in
    let found = rest more in
    record { before = e ∷ found.before; stop = found.stop; after = found.after; whole = ap (λ x. e ∷ x) found.whole; is = found.is; of_caller = found.of_caller }

-- where a Stop stands, and none of the daemon's own entries, it is a caller's
pub callers_stop : (h : History) → has_stop h ≡ true → own 0 h ≡ [] → HasCallersStop h
callers_stop [] is none = absurd (false≢true is)
callers_stop (e ∷ h) is none = stop_here e h (is_stop e.0.act) refl is none (λ more. callers_stop h more (rest_none e h none))

pub stop_stays : (h h' es : History) → h' ≡ h ++ es → HasCallersStop h → HasCallersStop h'
stop_stays h h' es whole s = record {
  before = s.before;
  stop = s.stop;
  after = s.after ++ es;
  whole = whole ∙ ap (λ x. x ++ es) s.whole ∙ append_assoc s.before (s.stop ∷ s.after) es;
  is = s.is;
  of_caller = s.of_caller;
}

-- ---- that the daemon's own Stop stands last

-- what joined the daemon's entries is its Stop
own_stops : (own own' : History) (stopped : Bool) → own ≡ [] → AddsStop own own' stopped → AllByRecursion (λ (e : Entry × End). e.0.act ≡ Stop) own'
own_stops own own' true none (inl same) = subst (λ h. AllByRecursion (λ (e : Entry × End). e.0.act ≡ Stop) h) (sym (same ∙ none)) tt
own_stops own own' true none (inr j) = subst (λ h. AllByRecursion (λ (e : Entry × End). e.0.act ≡ Stop) h) (sym (j.whole ∙ ap (λ h. h ++ j.entry ∷ []) none)) (j.answers, tt)
own_stops own own' false none same = subst (λ h. AllByRecursion (λ (e : Entry × End). e.0.act ≡ Stop) h) (sym (same ∙ none)) tt

-- an entry of the daemon's turns is common, or its own, which is a Stop
stands_last : (e : Entry × End) (rest : History) (mine common : Bool) → (e.0.conn == 0) ≡ mine → is_common e.0.act ≡ common → IsOf 0 e
    → AllByRecursion (λ (x : Entry × End). x.0.act ≡ Stop) (if mine && not common then e ∷ rest else rest) → IsOfStop e × AllByRecursion (λ (x : Entry × End). x.0.act ≡ Stop) rest
stands_last e rest true true m is of all = (inl is, all)
stands_last e rest false true m is of all = (inl is, all)
stands_last e rest true false m is of all = (inr (eqb-true e.0.conn 0 m, all.0), all.1)
stands_last e rest false false m is (inl common) all = absurd (false≢true (sym is ∙ common))
stands_last e rest false false m is (inr names) all = absurd (false≢true (sym m ∙ eq-eqb e.0.conn 0 names))

of_stop : (h : History) → AllByRecursion (IsOf 0) h → AllByRecursion (λ (e : Entry × End). e.0.act ≡ Stop) (own 0 h) → AllByRecursion IsOfStop h
of_stop [] of all = tt
of_stop (e ∷ h) of all = let both = stands_last e (own 0 h) (e.0.conn == 0) (is_common e.0.act) refl refl of.0 all in (both.0, of_stop h of.1 both.1)

pub stops_last : (middle last notes daemons : History) (stopped : Bool) → notes ≡ middle ++ daemons → last ≡ middle ++ daemons → own 0 middle ≡ [] → AllByRecursion (IsOf 0) daemons → AddsStop (own 0 middle) (own 0 last) stopped → StopsLast notes
stops_last middle last notes daemons stopped whole last_whole none of adds =
    let same : own 0 last ≡ own 0 daemons = ap (own 0) last_whole ∙ own-append 0 middle daemons ∙ ap (λ h. h ++ own 0 daemons) none in
    let stops = own_stops (own 0 middle) (own 0 last) stopped none adds in
    record { served = middle; stop = daemons; whole = whole; none = none; daemons = of_stop daemons of (subst (λ h. AllByRecursion (λ (e : Entry × End). e.0.act ≡ Stop) h) same stops) }
