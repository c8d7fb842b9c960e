-- The entries of a drill's history, from what its callers send.
use Rattle.std.proofs.Common.{◌≡◌, ◌≢◌, inl, inr, ℕ, zero, suc, ◌<◌, ◌≤◌, ◌==◌, Bool, true, false, ◌||◌, if◌then◌else◌, List, [], ◌∷◌, ◌++◌, flat_map, length, map, refl, sym, ap, subst, ◌∙◌, arith, append_assoc}
use Rattle.std.specs.Prelude.{nat_lt}
use Rattle.std.specs.List.{AllByRecursion, concat, list_any}
use Rattle.std.proofs.lemmas.Bool.{eq-eqb, eqb-true, false≢true}
use Rattle.std.proofs.lemmas.List.Folds.{list_any-append}
use Rattle.nsq_outside.specs.declared.host.Kind.{Kind}
use Rattle.nsq_outside.specs.declared.host.Kind.TheVariants.{Tcp}
use Rattle.nsq_outside.specs.declared.journal.End.{End}
use Rattle.v2_frame.specs.declared.command.Command.{Command}
use Rattle.v2_frame.specs.declared.fault.Limits.{Limits}
use Rattle.v2_frame.specs.Command.{IsWritable, canonical}
use Rattle.v2_frame.specs.Script.{magic}
use Rattle.broker_history.specs.declared.entry.Act.{Act}
use Rattle.broker_history.specs.declared.entry.Act.TheVariants.{Did, Asked}
use Rattle.broker_history.specs.declared.entry.Entry.{Entry}
use Rattle.broker_history.specs.Entries.{History, is_common, own}
use Rattle.broker_history.specs.Talk.{bytes_of, commands_of, stops_before_gone}
use Rattle.broker_history.proofs.Own.{own-append}
use Rattle.daemon_callers.specs.Served.{IsServed, IsServedTcp, UpTo, Views, limits_of}
use Rattle.daemon_main.specs.Callers.{IsHandedBack, IsOfStop, StopsLast, numbers_of, one_to}
use Rattle.drill_parts.specs.Talking.{Spell}
use Rattle.drill_parts.proofs.Owning.{Takes, all_front, all_own, of_owners, takes_all}
use Rattle.drill_parts.proofs.Talking.{gives_commands, talk_talks}
use Rattle.drill_parts.specs.Callers.{consumer, publisher, senders, those_to}
use Rattle.drill_parts.specs.Hosts.{drill_options, stream_of}
use Rattle.drill_parts.specs.declared.draws.Publish.{Publish}
use Rattle.drill_parts.proofs.Spelling.{IsShort, IsSome, consumer_some, consumer_spells, consumer_writable, consumes, fin_of, pub_of, publisher_some, publisher_spells, publisher_writable, topic_durable}
use Rattle.drill_parts.proofs.Tallying.{IsActed, IsEntered, Sends}

-- the limits of a drill
abbrev pub drill_limits : Limits
drill_limits = limits_of drill_options

-- pieces that aren't empty give their bytes
pub stream_is : (pieces : List (List ℕ)) → AllByRecursion IsSome pieces → stream_of pieces ≡ concat pieces
stream_is [] some = refl
stream_is ([] ∷ ps) some = absurd (omega (arith, some.0))
stream_is ((b ∷ bs) ∷ ps) some = ap (λ x. b ∷ bs ++ x) (stream_is ps some.1)

-- a caller sends commands of the drill
pub record IsSender (pieces : List (List ℕ)) : Type 0 where
  pub commands : List Command
  pub spells : stream_of pieces ≡ magic ++ flat_map canonical commands
  pub writable : AllByRecursion (IsWritable drill_limits) commands
  pub sends : AllByRecursion Sends commands

pub pubs_sent : (ps : List Publish) → AllByRecursion Sends (map pub_of ps)
pubs_sent [] = tt
pubs_sent (p ∷ ps) = (topic_durable p.topic, pubs_sent ps)

pub fins_sent : (ps : List Publish) → AllByRecursion Sends (map fin_of ps)
fins_sent [] = tt
fins_sent (p ∷ ps) = (tt, fins_sent ps)

abbrev pub publisher_sends : (ps : List Publish) → AllByRecursion IsShort ps → IsSender (publisher ps)
publisher_sends ps short = record {
  commands = map pub_of ps;
  spells = stream_is (publisher ps) (publisher_some ps) ∙ publisher_spells ps;
  writable = publisher_writable drill_limits (omega arith) ps short;
  sends = pubs_sent ps;
}

abbrev pub consumer_sends : (ps : List Publish) (topic : ℕ) → IsSender (consumer ps topic)
consumer_sends ps topic = record {
  commands = consumes ps topic;
  spells = stream_is (consumer ps topic) (consumer_some ps topic) ∙ consumer_spells ps topic;
  writable = consumer_writable drill_limits (omega arith) ps topic;
  sends = (record { topic_stays = topic_durable topic; channel_stays = refl; is = refl }, (tt, fins_sent (those_to topic ps)));
}

pub all_send : (ps : List Publish) → AllByRecursion IsShort ps → AllByRecursion IsSender (senders ps)
all_send ps short = (publisher_sends ps short, (consumer_sends ps 0, (consumer_sends ps 1, (consumer_sends ps 2, (consumer_sends ps 3, tt)))))

-- what stands at a place of a list that was made of another
pub at_place : {A B : Type 0} (P : A → Type 0) (f : A → B) (xs : List A) (before : List B) (c : B) (after : List B) → AllByRecursion P xs → map f xs ≡ before ++ c ∷ after → (x : A) × (c ≡ f x) × P x
at_place P f [] [] c after all e = absurd cc
at_place P f [] (b ∷ before) c after all e = absurd cc
at_place P f (x ∷ xs) [] c after all e = let same : c ≡ f x = cc in (x, same, all.0)
at_place P f (x ∷ xs) (b ∷ before) c after all e = at_place P f xs before c after all.1 (let same : map f xs ≡ before ++ c ∷ after = cc in same)

-- a number up to the last is among them
or_true : (a b : Bool) → b ≡ true → (a || b) ≡ true
or_true true b h = refl
or_true false b h = h

left_true : (a b : Bool) → a ≡ true → (a || b) ≡ true
left_true true b h = refl
left_true false b h = absurd (false≢true h)

among_next : (k n : ℕ) (b : Bool) → (suc n == k) ≡ b → 0 < k → k ≤ suc n → ((k ≤ n) → list_any (λ m. m == k) (one_to n) ≡ true) → (list_any (λ m. m == k) (one_to n) || (b || false)) ≡ true
among_next k n true e some few rest = or_true (list_any (λ m. m == k) (one_to n)) true refl
among_next k n false e some few rest =
    let other : suc n ≢ k = λ same. false≢true (sym e ∙ eq-eqb (suc n) k same) in
    left_true (list_any (λ m. m == k) (one_to n)) false (rest (omega (arith, some, few, other)))

pub among : (k n : ℕ) → 0 < k → k ≤ n → list_any (λ m. m == k) (one_to n) ≡ true
among k zero some few = absurd (omega (arith, some, few))
among k (suc n) some few = list_any-append (λ m. m == k) (one_to n) (suc n ∷ []) ∙ among_next k n (suc n == k) refl some few (λ l. among k n some l)

-- so a connection was handed back under it
abbrev pub Numbered : {K : Type 0} → (ℕ × K → Type 0) → ℕ → Type 0
Numbered {K} P k = (x : ℕ × K) × (x.0 ≡ k) × P x

numbered_here : {K : Type 0} (P : ℕ × K → Type 0) (k : ℕ) (x : ℕ × K) (rest : List ℕ) (b : Bool) → (x.0 == k) ≡ b → P x → (list_any (λ m. m == k) rest ≡ true → Numbered P k) → (b || list_any (λ m. m == k) rest) ≡ true → Numbered P k
numbered_here P k x rest true is here more e = (x, eqb-true x.0 k is, here)
numbered_here P k x rest false is here more e = more e

numbered_next : {K : Type 0} (P : ℕ × K → Type 0) (k : ℕ) (x : ℕ × K) (rest : List ℕ) (b : Bool) → P x → (list_any (λ m. m == k) rest ≡ true → Numbered P k) → list_any (λ m. m == k) (if b then x.0 ∷ rest else rest) ≡ true → Numbered P k
numbered_next P k x rest true here more e = numbered_here P k x rest (x.0 == k) refl here more e
numbered_next P k x rest false here more e = more e

pub numbered : {K : Type 0} (P : ℕ × K → Type 0) (k : ℕ) (back : List (ℕ × K)) → AllByRecursion P back → list_any (λ m. m == k) (numbers_of back) ≡ true → Numbered P k
numbered P k [] all e = absurd (false≢true e)
numbered P k (x ∷ back) all e = numbered_next P k x (numbers_of back) (nat_lt 0 x.0) all.0 (numbered P k back all.1) e

-- an entry is one of the drill where it is common, the daemon's, or one of such a conversation
common_entered : (act : Act) → is_common act ≡ true → IsActed act
common_entered (Did command r) h = absurd (false≢true h)
common_entered (Asked a answer) h = absurd (false≢true h)
common_entered act h = tt

stop_entered : (e : Entry × End) → IsOfStop e → IsEntered e
stop_entered e (inl common) = common_entered e.0.act common
stop_entered e (inr s) = subst (λ (act : Act). IsActed act) (sym s.1) tt

takes_entered : (act : Act) → Takes Sends act → IsActed act
takes_entered (Did command r) t = t
takes_entered (Asked a answer) t = absurd t
takes_entered act t = tt

-- what follows for one follows for all
pub all_so : {X : Type 0} (P Q : X → Type 0) (xs : List X) → ((x : X) → P x → Q x) → AllByRecursion P xs → AllByRecursion Q xs
all_so P Q [] so all = tt
all_so P Q (x ∷ xs) so all = (so x all.0, all_so P Q xs so all.1)

-- the daemon's own entries
pub daemon_so : (P : Entry × End → Type 0) (h : History) → StopsLast h → ((e : Entry × End) → IsOfStop e → P e) → AllByRecursion P (own 0 h)
daemon_so P h last so =
    let same : own 0 h ≡ own 0 last.stop = ap (own 0) last.whole ∙ own-append 0 last.served last.stop ∙ ap (λ x. x ++ own 0 last.stop) last.none in
    subst (λ x. AllByRecursion P x) (sym same) (all_own P 0 last.stop (all_so IsOfStop P last.stop so last.daemons))

abbrev pub calls : List (List ℕ) → Kind × List ℕ
calls pieces = (Tcp, stream_of pieces)

module _ {K : Type 0} (seen : Views K) (h : History) (k : ℕ) (conn : K) (pieces : List (List ℕ)) (s : IsSender pieces) (served : IsServedTcp seen drill_limits h k (stream_of pieces) conn) where
  -- what a caller sent, and what is left of it, spells its commands
  pub spell_of : Spell drill_limits s.commands (bytes_of (seen.pieces conn)) (seen.left conn)
  spell_of = record { whole = served.stream ∙ s.spells; writable = s.writable }

  -- its entries take the first of its commands
  pub takes_of : (Of : Command → Type 0) → AllByRecursion Of s.commands → AllByRecursion (λ (e : Entry × End). Takes Of e.0.act) (own k h)
  takes_of Of all =
      let t = served.talks in
      let taken = gives_commands drill_limits (stops_before_gone k h) t.wanted (seen.pieces conn) (own k h) (seen.written conn) served.ended s.commands (seen.left conn) t.talk spell_of in
      takes_all Of (own k h) (talk_talks drill_limits (stops_before_gone k h) t.wanted (seen.pieces conn) (own k h) (seen.written conn) served.ended t.talk)
      (all_front Of (commands_of (own k h)) taken.0 (subst (λ x. AllByRecursion Of x) taken.1 all))

module _ {K : Type 0} (seen : Views K) (began : ℕ) (h : History) (callers rest : List (Kind × List ℕ)) (back : List (ℕ × K)) (all : List (List (List ℕ))) (came : map calls all ≡ callers ++ rest) (sends : AllByRecursion IsSender all)
    (served : AllByRecursion (IsHandedBack seen drill_options began h callers) back) where
  tcp_entered : (k : ℕ) (conn : K) (pieces : List (List ℕ)) → IsSender pieces → IsServedTcp seen drill_limits h k (stream_of pieces) conn → AllByRecursion IsEntered (own k h)
  tcp_entered k conn pieces s served = all_so (λ (e : Entry × End). Takes Sends e.0.act) IsEntered (own k h) (λ e t. takes_entered e.0.act t) (takes_of seen h k conn pieces s served Sends s.sends)

  served_entered : (k : ℕ) (x : ℕ × K) → x.0 ≡ k → 0 < k → IsHandedBack seen drill_options began h callers x → AllByRecursion IsEntered (own k h)
  served_entered k x is some (inl none) = absurd (omega (arith, is, some, none))
  served_entered k x is some (inr c) =
      let whole : map calls all ≡ c.before ++ c.caller ∷ (c.after ++ rest) = came ∙ ap (λ cs. cs ++ rest) c.place ∙ append_assoc c.before (c.caller ∷ c.after) rest in
      let at = at_place IsSender calls all c.before c.caller (c.after ++ rest) sends whole in
      let s : IsServed seen drill_options began h x.0 Tcp (stream_of at.0) x.1 = subst (λ (y : Kind × List ℕ). IsServed seen drill_options began h x.0 y.0 y.1 x.1) at.1 c.served in
      subst (λ n. AllByRecursion IsEntered (own n h)) is (tcp_entered x.0 x.1 at.0 at.2 s)

  -- so all entries are
  pub all_entered : UpTo (length callers) h → numbers_of back ≡ one_to (length callers) → StopsLast h → AllByRecursion IsEntered h
  all_entered up in_turn last = of_owners IsEntered (length callers) h up (λ e c. common_entered e.0.act c) mine
    where
      mine : (k : ℕ) → k ≤ length callers → AllByRecursion IsEntered (own k h)
      mine zero l = daemon_so IsEntered h last stop_entered
      mine (suc k) l =
          let there : list_any (λ m. m == suc k) (numbers_of back) ≡ true = ap (list_any (λ m. m == suc k)) in_turn ∙ among (suc k) (length callers) (omega arith) l in
          let x = numbered (IsHandedBack seen drill_options began h callers) (suc k) back served there in
          served_entered (suc k) x.0 x.1 (omega arith) x.2
