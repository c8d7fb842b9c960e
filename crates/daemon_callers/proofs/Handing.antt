-- What stays true of the callers that were served while the history grows, and how one more is served.
use Rattle.std.proofs.Common.{ℕ, ◌≡◌, ◌≢◌, ◌≤◌, ◌<◌, ◌+◌, ◌++◌, ◌∷◌, [], List, Bool, refl, sym, ◌∙◌, ap, subst, arith, length, length-append, append_assoc, map}
use Rattle.std.specs.List.{AllByRecursion}
use Rattle.std.proofs.lemmas.List.{append-nil, map-append}
use Rattle.nsq_base.specs.declared.options.Options.{Options}
use Rattle.nsq_outside.specs.Hosts.{HostContent, HostState, Accepts, OnlyAcceptFaults}
use Rattle.nsq_outside.specs.declared.host.Kind.{Kind}
use Rattle.nsq_outside.specs.declared.host.Kind.TheVariants.{Tcp, Http}
use Rattle.nsq_outside.specs.declared.host.Accept.TheVariants.{Caller}
use Rattle.broker_history.specs.declared.ended.Ended.{Ended}
use Rattle.broker_history.specs.declared.ended.Ended.TheVariants.{EndOfInput, Closed, ReadFault, WriteFault, Memory}
use Rattle.broker_history.specs.Entries.{History, own}
use Rattle.broker_history.specs.Talk.{Allows}
use Rattle.broker_history.proofs.Own.{talk_stays}
use Rattle.broker_history.specs.Calls.{IsHere}
use Rattle.floor_laws.specs.Laws.{IsOf}
use Rattle.daemon_callers.specs.Sessions.{HasCause}
use Rattle.daemon_callers.specs.Served.{Views, IsServed, AreServed, HasServed, OnlyCallersChange, limits_of}
use Rattle.daemon_callers.proofs.Exchanges.{exchange_stays, own_stays}
use Rattle.daemon_callers.proofs.Others.{none_of}

-- an ending's cause, of a connection that had no fault before
pub cause_allows : (ended : Ended) (at_end : Bool) (r r' w w' : ℕ) → r ≡ 0 → w ≡ 0 → HasCause ended at_end r r' w w' → Allows ended at_end r' w'
cause_allows EndOfInput at_end r r' w w' no_r no_w c = c
cause_allows Closed at_end r r' w w' no_r no_w c = tt
cause_allows ReadFault at_end r r' w w' no_r no_w c = omega (arith, c, no_r)
cause_allows WriteFault at_end r r' w w' no_r no_w c = omega (arith, c, no_w)
cause_allows Memory at_end r r' w w' no_r no_w c = tt

-- of what a host shows, accept faults alone rose, and rose again
pub accepted_then : {F C J : Type 0} (a b c : HostState F C J) → OnlyAcceptFaults a b → OnlyAcceptFaults b c → OnlyAcceptFaults a c
accepted_then {F} {C} {J} a b c p q =
    let p0 = p.0 in
    let q0 = q.0 in
    (omega (arith, p0, q0), q.1 ∙ ap {A = HostState F C J} (λ x. record x { accept_faults = c.accept_faults }) p.1)

-- a caller that came and was handed back changed nothing else
pub caller_changes : {K : Type 0} (left : K → List ℕ) (old mid gave new : HostContent K) (kind : Kind) (fresh : K) (back : List (ℕ × K)) → OnlyCallersChange old mid → Accepts left mid gave (Caller kind fresh) → new ≡ record gave { back = back }
    → OnlyCallersChange old new
caller_changes {K} left old mid gave new kind fresh back p accepts returned = record {
  starts = ap (λ (x : HostContent K). x.starts) returned ∙ ap (λ (x : HostContent K). x.starts) accepts.1 ∙ p.starts;
  printed = ap (λ (x : HostContent K). x.printed) returned ∙ ap (λ (x : HostContent K). x.printed) accepts.1 ∙ p.printed;
  lines = ap (λ (x : HostContent K). x.lines) returned ∙ ap (λ (x : HostContent K). x.lines) accepts.1 ∙ p.lines;
}

module _ {K : Type 0} (seen : Views K) (o : Options) (began : ℕ) where
  one_stays : (h es : History) (k : ℕ) (kind : Kind) (bytes : List ℕ) (conn : K) → own k es ≡ [] → IsServed seen o began h k kind bytes conn → IsServed seen o began (h ++ es) k kind bytes conn
  one_stays h es k Tcp bytes conn none s =
      let t = s.talks in
      record {
        ended = s.ended;
        talks = record { wanted = t.wanted; talk = talk_stays (limits_of o) k t.wanted h es (seen.pieces conn) (seen.written conn) s.ended none t.talk; warned = t.warned; stays = λ some. subst (λ x. IsHere x) (sym (own_stays k h es none)) (t.stays some) };
        cause = s.cause;
        stream = s.stream;
      }
  one_stays h es k Http bytes conn none s = record { ended = s.ended; exchange = exchange_stays o began k h es (seen.pieces conn) (seen.written conn) s.ended none s.exchange; warned = s.warned; cause = s.cause; stream = s.stream }

  all_stay : (h es : History) (first : ℕ) (cs : List (Kind × List ℕ)) (xs : List (ℕ × K)) → ((k : ℕ) → first ≤ k → k < first + length cs → own k es ≡ []) → AreServed seen o began h first cs xs → AreServed seen o began (h ++ es) first cs xs
  all_stay h es first [] [] none s = tt
  all_stay h es first [] (x ∷ xs) none s = absurd s
  all_stay h es first (c ∷ cs) [] none s = absurd s
  all_stay h es first (c ∷ cs) (x ∷ xs) none s =
      (s.0, one_stays h es first c.0 c.1 x.1 (none first (omega arith) (omega arith)) s.1, all_stay h es (first + 1) cs xs (λ k a b. none k (omega (arith, a)) (omega (arith, b))) s.2)

  one_more : (h : History) (first : ℕ) (cs : List (Kind × List ℕ)) (xs : List (ℕ × K)) (c : Kind × List ℕ) (x : ℕ × K) → AreServed seen o began h first cs xs → x.0 ≡ first + length cs
      → IsServed seen o began h x.0 c.0 c.1 x.1 → AreServed seen o began h first (cs ++ c ∷ []) (xs ++ x ∷ [])
  one_more h first [] [] c x s e i = let f : x.0 ≡ first = omega (arith, e) in (f, subst (λ k. IsServed seen o began h k c.0 c.1 x.1) f i, tt)
  one_more h first [] (y ∷ ys) c x s e i = absurd s
  one_more h first (d ∷ cs) [] c x s e i = absurd s
  one_more h first (d ∷ cs) (y ∷ ys) c x s e i = (s.0, s.1, one_more h (first + 1) cs ys c x s.2 (omega (arith, e)) i)

  -- no caller was served yet
  pub at_first : (h : History) (content : HostContent K) → HasServed seen o began 0 h content content
  at_first h content = record {
    callers = [];
    back = [];
    count = refl;
    came = refl;
    given = sym (append-nil content.given);
    returned = sym (append-nil content.back);
    served = tt;
  }

  -- no caller came: neither those to come, nor those given, nor those taken back changed
  pub still_served : (n : ℕ) (h : History) (old mid new : HostContent K) → HasServed seen o began n h old mid → new.coming ≡ mid.coming → new.given ≡ mid.given → new.back ≡ mid.back → HasServed seen o began n h old new
  still_served n h old mid new s coming given back = record {
    callers = s.callers;
    back = s.back;
    count = s.count;
    came = s.came ∙ ap (λ x. s.callers ++ x) (sym coming);
    given = given ∙ s.given;
    returned = back ∙ s.returned;
    served = s.served;
  }

  -- the history grew by entries of the turns of a number above those of the callers, or of the daemon's
  later_served : (n k : ℕ) (h h' es : History) (old new : HostContent K) (s : HasServed seen o began n h old new) → h' ≡ h ++ es → AllByRecursion (IsOf k) es → ((j : ℕ) → 1 ≤ j → j < 1 + n → k ≢ j)
      → AreServed seen o began h' 1 s.callers s.back
  later_served n k h h' es old new s whole of other =
      let count = s.count in
      subst (λ x. AreServed seen o began x 1 s.callers s.back) (sym whole) (all_stay h es 1 s.callers s.back (λ j a b. none_of j k es (other j a (omega (arith, b, count))) of) s.served)

  -- one more caller was served and handed back
  pub next_served : (left : K → List ℕ) (n : ℕ) (h h' es : History) (old mid gave new : HostContent K) (kind : Kind) (fresh conn : K) → HasServed seen o began n h old mid → Accepts left mid gave (Caller kind fresh)
      → new ≡ record gave { back = gave.back ++ (n + 1, conn) ∷ [] } → h' ≡ h ++ es → AllByRecursion (IsOf (n + 1)) es → IsServed seen o began h' (n + 1) kind (left fresh) conn → HasServed seen o began (n + 1) h' old new
  next_served left n h h' es old mid gave new kind fresh conn s accepts returned whole of is =
      let count = s.count in
      let c : Kind × List ℕ = (kind, left fresh) in
      let kept = later_served n (n + 1) h h' es old mid s whole of (λ j a b e. absurd (omega (arith, b, e))) in
      let coming : new.coming ≡ gave.coming = ap (λ (x : HostContent K). x.coming) returned in
      let given : new.given ≡ mid.given ++ kind ∷ [] = ap (λ (x : HostContent K). x.given) returned ∙ ap (λ (x : HostContent K). x.given) accepts.1 in
      let back : new.back ≡ mid.back ++ (n + 1, conn) ∷ [] = ap (λ (x : HostContent K). x.back) returned ∙ ap (λ (x : HostContent K). x.back ++ (n + 1, conn) ∷ []) accepts.1 in
      record {
        callers = s.callers ++ c ∷ [];
        back = s.back ++ (n + 1, conn) ∷ [];
        count = length-append s.callers (c ∷ []) ∙ ap (λ x. x + 1) count;
        came = s.came ∙ ap (λ x. s.callers ++ x) accepts.0 ∙ sym (append_assoc s.callers (c ∷ []) gave.coming) ∙ ap (λ x. (s.callers ++ c ∷ []) ++ x) (sym coming);
        given = given ∙ ap (λ x. x ++ kind ∷ []) s.given ∙ append_assoc old.given (map (λ (c : Kind × List ℕ). c.0) s.callers) (kind ∷ []) ∙ ap (λ x. old.given ++ x) (sym (map-append (λ (c : Kind × List ℕ). c.0) s.callers (c ∷ [])));
        returned = back ∙ ap (λ x. x ++ (n + 1, conn) ∷ []) s.returned ∙ append_assoc old.back s.back ((n + 1, conn) ∷ []);
        served = one_more h' 1 s.callers s.back c (n + 1, conn) kept (omega (arith, count)) is;
      }

  -- turns of the daemon followed
  pub daemon_served : (n : ℕ) (h h' es : History) (old new : HostContent K) → HasServed seen o began n h old new → h' ≡ h ++ es → AllByRecursion (IsOf 0) es → HasServed seen o began n h' old new
  daemon_served n h h' es old new s whole of =
      let kept = later_served n 0 h h' es old new s whole of (λ j a b e. absurd (omega (arith, a, e))) in
      record { callers = s.callers; back = s.back; count = s.count; came = s.came; given = s.given; returned = s.returned; served = kept }
