-- The publisher of a drill: no other caller publishes, nobody asks for a Stop, and no time passes.
use Rattle.std.proofs.Common.{◌≡◌, inl, inr, ℕ, zero, suc, ◌<◌, ◌≤◌, ◌==◌, Bool, true, false, List, [], ◌∷◌, ◌++◌, length, map, refl, sym, ap, subst, ◌∙◌, arith, append_assoc, length-append, Option}
use Rattle.std.specs.List.{AllByRecursion, list_any}
use Rattle.std.proofs.lemmas.Bool.{false≢true}
use Rattle.nsq_outside.specs.Hosts.{HostContent}
use Rattle.nsq_outside.specs.declared.host.Kind.{Kind}
use Rattle.nsq_outside.specs.declared.host.Kind.TheVariants.{Http, Tcp}
use Rattle.nsq_outside.specs.declared.journal.End.{End}
use Rattle.v2_frame.specs.declared.command.Command.{Command}
use Rattle.v2_frame.specs.declared.command.Command.TheVariants.{Identify}
use Rattle.v2_frame.specs.declared.frame.Frame.{Frame}
use Rattle.broker_history.specs.declared.ended.Ended.{Ended}
use Rattle.broker_history.specs.declared.ended.Ended.TheVariants.{EndOfInput, Closed, ReadFault, WriteFault, Memory}
use Rattle.broker_history.specs.declared.entry.Act.{Act}
use Rattle.broker_history.specs.declared.entry.Act.TheVariants.{Did, Asked, Gone}
use Rattle.broker_history.specs.declared.entry.Entry.{Entry}
use Rattle.broker_history.specs.Entries.{History, is_common, is_gone, is_own, is_stop, own}
use Rattle.broker_history.specs.Moments as moments
use Rattle.broker_history.specs.Moments.{HasReadings, greatest, moment_of}
use Rattle.broker_history.specs.Talk.{Allows, stops_before_gone}
use Rattle.daemon_main.specs.Rounds.{IsHalted}
use Rattle.daemon_callers.specs.Served.{IsServed, IsServedTcp, UpTo, Views}
use Rattle.daemon_main.specs.Callers.{HasCallersStop, HasStopCause, IsHandedBack, IsOfStop, StopsAreCaused, StopsLast, numbers_of, one_to}
use Rattle.daemon_endings.specs.declared.serving.ServeEnd.{ServeEnd}
use Rattle.drill_parts.specs.Conserving.{KeepAll}
use Rattle.drill_parts.specs.Counts.{messages_in}
use Rattle.drill_parts.specs.Publishing.{EndsWell, IsPub, PublishesAs}
use Rattle.drill_parts.specs.Replying.{tried_as}
use Rattle.drill_parts.specs.Staying.{IsCalm, SaysNoMore}
use Rattle.drill_parts.proofs.Closing.{within}
use Rattle.drill_parts.proofs.Owning.{IsNoGone, Takes, all_front, no_stops, of_owners, own_are, stops_last}
use Rattle.drill_parts.proofs.Talking.{all_push}
use Rattle.drill_parts.specs.Callers.{consumer, publisher, senders, those_to}
use Rattle.drill_parts.specs.Hosts.{drill_options, stream_of}
use Rattle.drill_parts.specs.declared.draws.Publish.{Publish}
use Rattle.daemon_main.proofs.Entering.{IsSender, all_so, among, at_place, calls, consumer_sends, daemon_so, drill_limits, numbered, takes_of}
use Rattle.drill_parts.proofs.Spelling.{fin_of, pub_of}
use Rattle.drill_parts.proofs.Tallying.{IsActed, IsEntered, Sends, only_c}

-- a consumer sends nothing that publishes
abbrev PublishesNone : Command → Type 0
PublishesNone command = messages_in command ≡ 0

pub record IsConsumer (pieces : List (List ℕ)) : Type 0 where
  pub sender : IsSender pieces
  pub none : AllByRecursion PublishesNone sender.commands

fins_none : (ps : List Publish) → AllByRecursion PublishesNone (map fin_of ps)
fins_none [] = tt
fins_none (p ∷ ps) = (refl, fins_none ps)

consumes_none : (ps : List Publish) (topic : ℕ) → IsConsumer (consumer ps topic)
consumes_none ps topic = record { sender = consumer_sends ps topic; none = (refl, (refl, fins_none (those_to topic ps))) }

abbrev consumers : List Publish → List (List (List ℕ))
consumers ps = consumer ps 0 ∷ consumer ps 1 ∷ consumer ps 2 ∷ consumer ps 3 ∷ []

all_consume : (ps : List Publish) → AllByRecursion IsConsumer (consumers ps)
all_consume ps = (consumes_none ps 0, (consumes_none ps 1, (consumes_none ps 2, (consumes_none ps 3, tt))))

-- the callers by their places: the first publishes, each later one consumes, and none is of HTTP
first_publishes : (ps : List Publish) (before : List (Kind × List ℕ)) (caller : Kind × List ℕ) (after : List (Kind × List ℕ)) → length before ≡ 0 → map calls (senders ps) ≡ before ++ caller ∷ after → caller ≡ calls (publisher ps)
first_publishes ps [] caller after none e = let same : calls (publisher ps) ≡ caller = cc in sym same
first_publishes ps (b ∷ before) caller after none e = absurd (omega (arith, none))

later_consumes : (ps : List Publish) (before : List (Kind × List ℕ)) (caller : Kind × List ℕ) (after : List (Kind × List ℕ)) → 0 < length before → map calls (senders ps) ≡ before ++ caller ∷ after
    → (pieces : List (List ℕ)) × (caller ≡ calls pieces) × IsConsumer pieces
later_consumes ps [] caller after some e = absurd (omega (arith, some))
later_consumes ps (b ∷ before) caller after some e = at_place IsConsumer calls (consumers ps) before caller after (all_consume ps) (let same : map calls (consumers ps) ≡ before ++ caller ∷ after = cc in same)

no_http : (ps : List Publish) (before : List (Kind × List ℕ)) (bytes : List ℕ) (after : List (Kind × List ℕ)) → map calls (senders ps) ≡ before ++ (Http, bytes) ∷ after → ⊥
no_http ps before bytes after e =
    let at = at_place (λ pieces. Unit {0}) calls (senders ps) before (Http, bytes) after (tt, (tt, (tt, (tt, (tt, tt))))) e in
    let same : Http ≡ Tcp = ap (λ (y : Kind × List ℕ). y.0) at.1 in cc

-- what publishes nothing: common acts, the daemon's Stop, and a conversation of such commands
common_tried : (act : Act) → is_common act ≡ true → tried_as act ≡ 0
common_tried (Did command r) h = absurd (false≢true h)
common_tried (Asked a answer) h = absurd (false≢true h)
common_tried act h = refl

stop_tried : (e : Entry × End) → IsOfStop e → PublishesAs 1 e
stop_tried e (inl common) = inl (common_tried e.0.act common)
stop_tried e (inr s) = inl (ap tried_as s.1)

takes_none : (act : Act) → Takes PublishesNone act → tried_as act ≡ 0
takes_none (Did command r) t = t
takes_none (Asked a answer) t = absurd t
takes_none act t = refl

-- none of these is a Gone
common_stays : (act : Act) → is_common act ≡ true → is_gone act ≡ false
common_stays Gone h = absurd (false≢true h)
common_stays act h = refl

stop_stays : (e : Entry × End) → IsOfStop e → IsNoGone e
stop_stays e (inl common) = common_stays e.0.act common
stop_stays e (inr s) = ap is_gone s.1

-- one of a list, and its place there
pub record Stands {X : Type 0} (all : List X) (x : X) : Type 0 where
  pub before : List X
  pub after : List X
  pub place : all ≡ before ++ x ∷ after

pub all_stand : {X : Type 0} (P : X → Type 0) (before xs : List X) → AllByRecursion P xs → AllByRecursion (λ x. P x × Stands (before ++ xs) x) xs
all_stand P before [] all = tt
all_stand {X} P before (x ∷ xs) all =
    let rest = all_stand P (before ++ x ∷ []) xs all.1 in
    ((all.0, record { before = before; after = xs; place = refl }), subst (λ (ys : List X). AllByRecursion (λ y. P y × Stands ys y) xs) (append_assoc before (x ∷ []) xs) rest)

module _ {K : Type 0} (seen : Views K) (began : ℕ) (h : History) (ps : List Publish) (callers rest : List (Kind × List ℕ)) (back : List (ℕ × K)) (came : map calls (senders ps) ≡ callers ++ rest) where
  -- the place of a caller in the list of all
  place_of_caller : (before : List (Kind × List ℕ)) (caller : Kind × List ℕ) (after : List (Kind × List ℕ)) → callers ≡ before ++ caller ∷ after → map calls (senders ps) ≡ before ++ caller ∷ (after ++ rest)
  place_of_caller before caller after place = came ∙ ap (λ cs. cs ++ rest) place ∙ append_assoc before (caller ∷ after) rest

  -- the publisher is the first
  pub first_served : (x : ℕ × K) → x.0 ≡ 1 → IsHandedBack seen drill_options began h callers x → IsServedTcp seen drill_limits h x.0 (stream_of (publisher ps)) x.1
  first_served x is (inl none) = absurd (omega (arith, is, none))
  first_served x is (inr c) =
      let number = c.number in
      let first = first_publishes ps c.before c.caller (c.after ++ rest) (omega (arith, is, number)) (place_of_caller c.before c.caller c.after c.place) in
      subst (λ (y : Kind × List ℕ). IsServed seen drill_options began h x.0 y.0 y.1 x.1) first c.served

  later_served : (k : ℕ) (x : ℕ × K) → x.0 ≡ k → 1 < k → IsHandedBack seen drill_options began h callers x → AllByRecursion (PublishesAs 1) (own k h)
  later_served k x is later (inl none) = absurd (omega (arith, is, later, none))
  later_served k x is later (inr c) =
      let number = c.number in
      let at = later_consumes ps c.before c.caller (c.after ++ rest) (omega (arith, is, later, number)) (place_of_caller c.before c.caller c.after c.place) in
      let s : IsServed seen drill_options began h x.0 Tcp (stream_of at.0) x.1 = subst (λ (y : Kind × List ℕ). IsServed seen drill_options began h x.0 y.0 y.1 x.1) at.1 c.served in
      let takes = takes_of seen h x.0 x.1 at.0 at.2.sender s PublishesNone at.2.none in
      subst (λ n. AllByRecursion (PublishesAs 1) (own n h)) is (all_so (λ (e : Entry × End). Takes PublishesNone e.0.act) (PublishesAs 1) (own x.0 h) (λ e t. inl (takes_none e.0.act t)) takes)

  -- so it alone publishes
  pub publishes_alone : AllByRecursion (IsHandedBack seen drill_options began h callers) back → UpTo (length callers) h → numbers_of back ≡ one_to (length callers) → StopsLast h → AllByRecursion (PublishesAs 1) h
  publishes_alone served up in_turn last = of_owners (PublishesAs 1) (length callers) h up (λ e c. inl (common_tried e.0.act c)) mine
    where
      mine : (k : ℕ) → k ≤ length callers → AllByRecursion (PublishesAs 1) (own k h)
      mine zero l = daemon_so (PublishesAs 1) h last stop_tried
      mine (suc zero) l = all_so (λ (e : Entry × End). is_own 1 e ≡ true) (PublishesAs 1) (own 1 h) (λ e m. inr m) (own_are 1 h)
      mine (suc (suc k)) l =
          let there : list_any (λ m. m == suc (suc k)) (numbers_of back) ≡ true = ap (list_any (λ m. m == suc (suc k))) in_turn ∙ among (suc (suc k)) (length callers) (omega arith) l in
          let x = numbered (IsHandedBack seen drill_options began h callers) (suc (suc k)) back served there in
          later_served (suc (suc k)) x.0 x.1 (omega arith) x.2

  module _ (ended : ServeEnd) (accept accept' : ℕ) (new : HostContent K) (caused : StopsAreCaused seen drill_options began callers back ended accept accept' new h) where
    -- each Stop is the daemon's
    of_daemon : (n : ℕ) → HasStopCause seen drill_options began callers back ended accept accept' new n → n ≡ 0
    of_daemon zero c = refl
    of_daemon (suc n) c = absurd (no_http ps c.before c.bytes (c.after ++ rest) (place_of_caller c.before (Http, c.bytes) c.after c.place))

    daemons : AllByRecursion (λ (e : Entry × End). is_stop e.0.act ≡ true → e.0.conn ≡ 0) h
    daemons =
        all_so (λ (e : Entry × End). is_stop e.0.act ≡ true → HasStopCause seen drill_options began callers back ended accept accept' new e.0.conn) (λ (e : Entry × End). is_stop e.0.act ≡ true → e.0.conn ≡ 0) h
        (λ e c s. of_daemon e.0.conn (c s)) caused

    -- and stands behind all that callers noted
    pub unstopped : (k : ℕ) → StopsLast h → stops_before_gone k h ≡ false
    unstopped k last =
        let both : AllByRecursion (λ (e : Entry × End). is_stop e.0.act ≡ true → e.0.conn ≡ 0) (last.served ++ last.stop) = subst (λ x. AllByRecursion (λ (e : Entry × End). is_stop e.0.act ≡ true → e.0.conn ≡ 0) x) last.whole daemons in
        ap (stops_before_gone k) last.whole ∙ stops_last k last.served last.stop (no_stops 0 last.served last.none (all_front (λ (e : Entry × End). is_stop e.0.act ≡ true → e.0.conn ≡ 0) last.served last.stop both))
        (all_so IsOfStop IsNoGone last.stop stop_stays last.daemons)

    pub no_callers_stop : HasCallersStop h → ⊥
    no_callers_stop s =
        let at = within (λ (e : Entry × End). is_stop e.0.act ≡ true → e.0.conn ≡ 0) s.before s.stop s.after (subst (λ x. AllByRecursion (λ (e : Entry × End). is_stop e.0.act ≡ true → e.0.conn ≡ 0) x) s.whole daemons) in
        let zero_is = at s.is in
        let some = s.of_caller in
        absurd (omega (arith, zero_is, some))

-- nobody is to come once the host halted: a drill has five callers, and so it wasn't halted as all numbers were given
pub nobody_left : {K : Type 0} (ps : List Publish) (callers : List (Kind × List ℕ)) (new : HostContent K) → map calls (senders ps) ≡ callers ++ new.coming → (new.halted ≡ true → new.coming ≡ []) → IsHalted (length callers) new → new.coming ≡ []
nobody_left ps callers new came none (inl halted) = none halted
nobody_left ps callers new came none (inr many) =
    let whole : 5 ≡ length (callers ++ new.coming) = ap length came in
    let parts = length-append callers new.coming in
    absurd (omega (arith, whole, parts, many))

-- then somebody came
pub some_came : (ps : List Publish) (callers rest : List (Kind × List ℕ)) → map calls (senders ps) ≡ callers ++ rest → rest ≡ [] → 0 < length callers
some_came ps callers rest came none =
    let whole : 5 ≡ length (callers ++ rest) = ap length came in
    let parts = length-append callers rest in
    let nobody = ap length none in
    omega (arith, whole, parts, nobody)

-- where the clock shows 0 whenever it is read, all happens at 0
greatest_zero : (coming : ℕ → ℕ) → ((n : ℕ) → coming n ≡ 0) → (n : ℕ) → greatest coming n ≡ 0
greatest_zero coming still zero = refl
greatest_zero coming still (suc n) = rw (greatest_zero coming still n, still n) refl

moment_zero : (coming : ℕ → ℕ) → ((n : ℕ) → coming n ≡ 0) → (n : ℕ) → moment_of coming n ≡ 0
moment_zero coming still n = rw (greatest_zero coming still n) refl

abbrev IsAtZero : Entry × End → Type 0
IsAtZero e = e.0.at ≡ 0

pub at_zero : (coming : ℕ → ℕ) {first readings : ℕ} {h : History} → ((n : ℕ) → coming n ≡ 0) → HasReadings coming first h readings → AllByRecursion IsAtZero h
at_zero coming still moments.none = tt
at_zero coming still (moments.next {h = h} {readings = readings} e before later more at) = all_push IsAtZero h e (at_zero coming still before) (at ∙ moment_zero coming still readings)

-- no caller says anything of itself
plain_command : (command : Command) (r : Option Frame) → Sends command → SaysNoMore (Did command r)
plain_command (Identify body) r s = absurd s
plain_command command r s = tt

plain : (act : Act) → IsActed act → SaysNoMore act
plain (Did command r) s = plain_command command r s
plain act s = tt

pub all_calm : (h : History) → AllByRecursion IsEntered h → KeepAll only_c h → AllByRecursion IsAtZero h → AllByRecursion (IsCalm only_c 0) h
all_calm [] entered keep still = tt
all_calm (e ∷ h) entered keep still = (record { keeps = keep.0; now = still.0; plain = plain e.0.act entered.0 }, all_calm h entered.1 keep.1 still.1)

-- its commands are PUBs, one for each publish
pub all_pubs : (ps : List Publish) → AllByRecursion IsPub (map pub_of ps)
all_pubs [] = tt
all_pubs (p ∷ ps) = (tt, all_pubs ps)

-- without a fault of the connection, and with no byte left at its end, the conversation ended well
pub ends_well : (ended : Ended) (at_end : Bool) (reads writes : ℕ) (left : List ℕ) → (at_end ≡ true → left ≡ []) → reads ≡ 0 → writes ≡ 0 → Allows ended at_end reads writes → EndsWell ended left
ends_well EndOfInput at_end reads writes left over no_read no_write cause = over cause
ends_well Closed at_end reads writes left over no_read no_write cause = tt
ends_well ReadFault at_end reads writes left over no_read no_write cause = absurd (omega (arith, no_read, cause))
ends_well WriteFault at_end reads writes left over no_read no_write cause = absurd (omega (arith, no_write, cause))
ends_well Memory at_end reads writes left over no_read no_write cause = tt
