-- What a connection's conversation in a history depends on: its own entries, and the Stops before its Gone.
use Rattle.std.proofs.Common.{◌≡◌, ℕ, ◌==◌, Bool, true, false, not, ◌&&◌, ◌||◌, if◌then◌else◌, List, [], ◌∷◌, ◌++◌, refl, sym, ap, subst, ◌∙◌}
use Rattle.std.specs.List.{AllByRecursion}
use Rattle.std.proofs.lemmas.Bool.{eq-eqb, false≢true}
use Rattle.std.proofs.lemmas.List.{append-nil}
use Rattle.std.proofs.lemmas.List.Elements.{filter-append}
use Rattle.nsq_outside.specs.declared.journal.End.{End}
use Rattle.v2_frame.specs.declared.fault.Limits.{Limits}
use Rattle.broker_history.specs.declared.entry.Act.{Act}
use Rattle.broker_history.specs.declared.entry.Act.TheVariants.{Gone}
use Rattle.broker_history.specs.declared.ended.Ended.{Ended}
use Rattle.broker_history.specs.declared.entry.Entry.{Entry}
use Rattle.broker_history.specs.Entries.{History, IsCommon, own, is_own, is_gone, is_stop, is_common, has_stop}
use Rattle.broker_history.specs.Talk.{has_gone, stops_before_gone, IsTalk, IsTalkIn}

true_false : {A : Type 0} → true ≡ false → A
true_false e = cc

cons_nil : {A : Type 0} (e : Entry × End) (h : History) → e ∷ h ≡ [] → A
cons_nil e h same = cc

-- no Gone of the connection is here or behind
none_here : (mine gone behind : Bool) → (if mine then (if gone then true else behind) else behind) ≡ false → (mine ≡ true → gone ≡ false) × (behind ≡ false)
none_here true true behind e = true_false e
none_here true false behind e = (λ h. refl, e)
none_here false gone behind e = (λ h. true_false (sym h), e)

-- so no Stop stands before one
none_before : (stop mine gone behind rest : Bool) → (mine ≡ true → gone ≡ false) → behind ≡ false → rest ≡ false
    → (if stop then behind else (if mine then (if gone then false else rest) else rest)) ≡ false
none_before true mine gone behind rest h a b = a
none_before false true gone behind rest h a b = rw (h refl) b
none_before false false gone behind rest h a b = b

-- where a Gone stands behind, a Stop stands before it if one is here, or one stands further on
one_before : (stop mine gone behind rest stops : Bool) → (mine ≡ true → gone ≡ false) → behind ≡ true → rest ≡ stops
    → (if stop then behind else (if mine then (if gone then false else rest) else rest)) ≡ (stop || stops)
one_before true mine gone behind rest stops h a b = a
one_before false true gone behind rest stops h a b = rw (h refl) b
one_before false false gone behind rest stops h a b = b

-- a Gone behind is one
one_behind : (mine gone : Bool) → (if mine then (if gone then true else true) else true) ≡ true
one_behind true true = refl
one_behind true false = refl
one_behind false gone = refl

-- none is kept of the first, and none of the others
none_kept : (mine : Bool) (e : Entry × End) (h : History) → (if mine then e ∷ h else h) ≡ [] → (mine ≡ false) × (h ≡ [])
none_kept true e h none = cons_nil e h none
none_kept false e h none = (refl, none)

-- the own entries of two histories
pub own-append : (number : ℕ) (h k : History) → own number (h ++ k) ≡ own number h ++ own number k
own-append number h k = filter-append (is_own number) h k

-- where no Gone stands, no Stop stands before one
pub no_stops : (number : ℕ) (h : History) → has_gone number h ≡ false → stops_before_gone number h ≡ false
no_stops number [] none = refl
no_stops number (e ∷ h) none =
    let here = none_here (e.0.conn == number) (is_gone e.0.act) (has_gone number h) none in
    none_before (is_stop e.0.act) (e.0.conn == number) (is_gone e.0.act) (has_gone number h) (stops_before_gone number h) here.0 here.1 (no_stops number h here.1)

gone_stays : (number : ℕ) (h k : History) → has_gone number k ≡ false → has_gone number (h ++ k) ≡ has_gone number h
gone_stays number [] k none = none
gone_stays number (e ∷ h) k none = ap (λ (b : Bool). if e.0.conn == number then (if is_gone e.0.act then true else b) else b) (gone_stays number h k none)

-- entries without a Gone of the connection tell nothing of Stops before it
pub stops_stay : (number : ℕ) (h k : History) → has_gone number k ≡ false → stops_before_gone number (h ++ k) ≡ stops_before_gone number h
stops_stay number [] k none = no_stops number k none
stops_stay number (e ∷ h) k none =
    ap (λ (b : Bool). if is_stop e.0.act then b else (if e.0.conn == number then (if is_gone e.0.act then false else stops_before_gone number (h ++ k)) else stops_before_gone number (h ++ k))) (gone_stays number h k none)
    ∙ ap (λ (b : Bool). if is_stop e.0.act then has_gone number h else (if e.0.conn == number then (if is_gone e.0.act then false else b) else b)) (stops_stay number h k none)

-- a Gone is no common entry
gone_alone : (act : Act) → is_gone act ≡ true → is_common act ≡ false
gone_alone Gone e = refl
gone_alone act e = absurd (false≢true e)

-- so what isn't a connection's own is no Gone of it
not_own : (mine common gone : Bool) → (gone ≡ true → common ≡ false) → (mine && not common) ≡ false → mine ≡ true → gone ≡ false
not_own mine common false f e m = refl
not_own mine common true f e m = absurd (let c : common ≡ false = f refl in cc)

not_here : (mine gone behind : Bool) → (mine ≡ true → gone ≡ false) → behind ≡ false → (if mine then (if gone then true else behind) else behind) ≡ false
not_here true gone behind f b = rw (f refl) b
not_here false gone behind f b = b

-- no Gone of a connection stands where no entry of it does
pub others_gone : (number : ℕ) (h : History) → own number h ≡ [] → has_gone number h ≡ false
others_gone number [] none = refl
others_gone number (e ∷ h) none =
    let rest = none_kept (is_own number e) e (own number h) none in
    not_here (e.0.conn == number) (is_gone e.0.act) (has_gone number h) (not_own (e.0.conn == number) (is_common e.0.act) (is_gone e.0.act) (gone_alone e.0.act) rest.0) (others_gone number h rest.1)

gone_at_end : (number : ℕ) (h : History) (e : Entry × End) → e.0.conn ≡ number → e.0.act ≡ Gone → has_gone number (h ++ e ∷ []) ≡ true
gone_at_end number [] e mine gone = let here : (e.0.conn == number) ≡ true = eq-eqb e.0.conn number mine in rw (here, gone) refl
gone_at_end number (f ∷ h) e mine gone =
    ap (λ (b : Bool). if f.0.conn == number then (if is_gone f.0.act then true else b) else b) (gone_at_end number h e mine gone) ∙ one_behind (f.0.conn == number) (is_gone f.0.act)

-- behind a connection's first Gone it is known whether a Stop stands before it
pub gone_tells : (number : ℕ) (h : History) (e : Entry × End) → e.0.conn ≡ number → e.0.act ≡ Gone → has_gone number h ≡ false → stops_before_gone number (h ++ e ∷ []) ≡ has_stop h
gone_tells number [] e mine gone none = let here : (e.0.conn == number) ≡ true = eq-eqb e.0.conn number mine in rw (here, gone) refl
gone_tells number (f ∷ h) e mine gone none =
    let here = none_here (f.0.conn == number) (is_gone f.0.act) (has_gone number h) none in
    one_before (is_stop f.0.act) (f.0.conn == number) (is_gone f.0.act) (has_gone number (h ++ e ∷ [])) (stops_before_gone number (h ++ e ∷ [])) (has_stop h) here.0
    (gone_at_end number h e mine gone) (gone_tells number h e mine gone here.1)

both_false : (mine common : Bool) → common ≡ true → (mine && not common) ≡ false
both_false true common c = rw c refl
both_false false common c = refl

module _ (limits : Limits) (number wanted : ℕ) where
  -- a conversation in a history, from its parts
  talk_in : (h entries : History) (stopped : Bool) (pieces : List (List ℕ)) (out : List ℕ) (ended : Ended) → own number h ≡ entries → stops_before_gone number h ≡ stopped
      → IsTalk limits stopped wanted pieces entries out ended → IsTalkIn limits number h wanted pieces out ended
  talk_in h entries stopped pieces out ended mine stops t =
      let here : IsTalk limits stopped wanted pieces (own number h) out ended = subst (λ (o : History). IsTalk limits stopped wanted pieces o out ended) (sym mine) t in
      subst (λ (b : Bool). IsTalk limits b wanted pieces (own number h) out ended) (sym stops) here

  -- entries of others leave a conversation as it is
  pub talk_stays : (h k : History) (pieces : List (List ℕ)) (out : List ℕ) (ended : Ended) → own number k ≡ [] → IsTalkIn limits number h wanted pieces out ended → IsTalkIn limits number (h ++ k) wanted pieces out ended
  talk_stays h k pieces out ended none t =
      talk_in (h ++ k) (own number h) (stops_before_gone number h) pieces out ended (own-append number h k ∙ ap (λ (o : History). own number h ++ o) none ∙ append-nil (own number h))
      (stops_stay number h k (others_gone number k none)) t

  -- without a Gone no Stop stands before it
  pub talk_without_gone : (h : History) (pieces : List (List ℕ)) (out : List ℕ) (ended : Ended) → has_gone number h ≡ false → IsTalk limits false wanted pieces (own number h) out ended
      → IsTalkIn limits number h wanted pieces out ended
  talk_without_gone h pieces out ended none t = talk_in h (own number h) false pieces out ended refl (no_stops number h none) t

  mine_at_end : (h : History) (e : Entry × End) → e.0.conn ≡ number → e.0.act ≡ Gone → own number (h ++ e ∷ []) ≡ own number h ++ e ∷ []
  mine_at_end h e mine gone = let here : (e.0.conn == number) ≡ true = eq-eqb e.0.conn number mine in own-append number h (e ∷ []) ∙ rw (here, gone) refl

  -- with its first Gone at the end, those of the whole history do
  pub talk_with_gone : (h : History) (e : Entry × End) (pieces : List (List ℕ)) (out : List ℕ) (ended : Ended) → e.0.conn ≡ number → e.0.act ≡ Gone → has_gone number h ≡ false
      → IsTalk limits (has_stop h) wanted pieces (own number h ++ e ∷ []) out ended → IsTalkIn limits number (h ++ e ∷ []) wanted pieces out ended
  talk_with_gone h e pieces out ended mine gone none t =
      talk_in (h ++ e ∷ []) (own number h ++ e ∷ []) (has_stop h) pieces out ended (mine_at_end h e mine gone) (gone_tells number h e mine gone none) t

not_mine : (number : ℕ) (e : Entry × End) → IsCommon e → is_own number e ≡ false
not_mine number e c = both_false (e.0.conn == number) (is_common e.0.act) c

-- a turn's entries: common ones name the daemon, so what joins the own entries of a connection is what isn't common
pub common_none : (number : ℕ) (h : History) → AllByRecursion IsCommon h → own number h ≡ []
common_none number [] a = refl
common_none number (e ∷ h) a = rw (not_mine number e a.0) (common_none number h a.1)
