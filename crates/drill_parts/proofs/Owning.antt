-- Histories by the connections that their entries are of.
use Rattle.std.proofs.Common.{◌≡◌, ◌⊎◌, inl, inr, ℕ, ◌≤◌, ◌==◌, Bool, true, false, if◌then◌else◌, List, [], ◌∷◌, ◌++◌, refl, sym, subst, ◌∙◌, arith}
use Rattle.std.specs.List.{AllByRecursion, sum_by}
use Rattle.std.proofs.lemmas.Bool.{eq-eqb, false≢true}
use Rattle.std.proofs.lemmas.List.Sums.{sum_by-cons}
use Rattle.nsq_outside.specs.declared.journal.End.{End}
use Rattle.v2_frame.specs.declared.command.Command.{Command}
use Rattle.broker_history.specs.declared.entry.Act.{Act}
use Rattle.broker_history.specs.declared.entry.Act.TheVariants.{Did, Asked, Stop}
use Rattle.broker_history.specs.declared.entry.Entry.{Entry}
use Rattle.broker_history.specs.Entries.{History, IsCommon, is_common, is_gone, is_own, is_stop, own}
use Rattle.broker_history.specs.Talk.{command_in, commands_of, has_gone, stops_before_gone}
use Rattle.drill_parts.specs.Talking.{IsTalking, Talks}

-- what holds of all own entries of the numbers, and of common ones, holds of all
module _ (P : Entry × End → Type 0) (n : ℕ) where
  mine_here : (k : ℕ) (e : Entry × End) (h : History) (b : Bool) → b ≡ true → AllByRecursion P (if b then e ∷ own k h else own k h) → P e
  mine_here k e h true is all = all.0
  mine_here k e h false is all = absurd (false≢true is)

  rest_of : (k : ℕ) (e : Entry × End) (h : History) (b : Bool) → AllByRecursion P (if b then e ∷ own k h else own k h) → AllByRecursion P (own k h)
  rest_of k e h true all = all.1
  rest_of k e h false all = all

  here : (e : Entry × End) (h : History) (b : Bool) → is_common e.0.act ≡ b → IsCommon e ⊎ (e.0.conn ≤ n) → (IsCommon e → P e) → ((k : ℕ) → k ≤ n → AllByRecursion P (own k (e ∷ h))) → P e
  here e h true is of common all = common is
  here e h false is (inl c) common all = absurd (false≢true (sym is ∙ c))
  here e h false is (inr l) common all =
      let mine : is_own e.0.conn e ≡ true = rw (is, eq-eqb e.0.conn e.0.conn refl) refl in
      mine_here e.0.conn e h (is_own e.0.conn e) mine (all e.0.conn l)

  pub of_owners : (h : History) → AllByRecursion (λ (e : Entry × End). IsCommon e ⊎ (e.0.conn ≤ n)) h → ((e : Entry × End) → IsCommon e → P e) → ((k : ℕ) → k ≤ n → AllByRecursion P (own k h)) → AllByRecursion P h
  of_owners [] of common all = tt
  of_owners (e ∷ h) of common all =
      (here e h (is_common e.0.act) refl of.0 (common e) all, of_owners h of.1 common (λ k l. rest_of k e h (is_own k e) (all k l)))

-- own entries are the connection's
own_so : (k : ℕ) (h : History) (e : Entry × End) (b : Bool) → is_own k e ≡ b → AllByRecursion (λ (x : Entry × End). is_own k x ≡ true) (own k h) → AllByRecursion (λ (x : Entry × End). is_own k x ≡ true) (if b then e ∷ own k h else own k h)
own_so k h e true is all = (is, all)
own_so k h e false is all = all

pub own_are : (k : ℕ) (h : History) → AllByRecursion (λ (e : Entry × End). is_own k e ≡ true) (own k h)
own_are k [] = tt
own_are k (e ∷ h) = own_so k h e (is_own k e) refl (own_are k h)

-- what holds of all entries holds of own ones, and of the front of a list what holds of all
own_one_so : (P : Entry × End → Type 0) (e : Entry × End) (h : History) (b : Bool) → P e → AllByRecursion P h → AllByRecursion P (if b then e ∷ h else h)
own_one_so P e h true here all = (here, all)
own_one_so P e h false here all = all

pub all_own : (P : Entry × End → Type 0) (k : ℕ) (h : History) → AllByRecursion P h → AllByRecursion P (own k h)
all_own P k [] all = tt
all_own P k (e ∷ h) all = own_one_so P e (own k h) (is_own k e) all.0 (all_own P k h all.1)

pub all_front : {X : Type 0} (P : X → Type 0) (xs ys : List X) → AllByRecursion P (xs ++ ys) → AllByRecursion P xs
all_front P [] ys all = tt
all_front P (x ∷ xs) ys all = (all.0, all_front P xs ys all.1)

-- what is counted of one connection's entries alone
abbrev pub IsAlone : (Entry × End → ℕ) → ℕ → Entry × End → Type 0
IsAlone f k e = (f e ≡ 0) ⊎ (is_own k e ≡ true)

own_one : (f : Entry × End → ℕ) (k : ℕ) (e : Entry × End) (h : History) (b : Bool) → is_own k e ≡ b → IsAlone f k e → sum_by f h ≡ sum_by f (own k h) → sum_by f (e ∷ h) ≡ sum_by f (if b then e ∷ own k h else own k h)
own_one f k e h true is alone rest = let a = sum_by-cons f e h in let b = sum_by-cons f e (own k h) in omega (arith, a, b, rest)
own_one f k e h false is (inl none) rest = let a = sum_by-cons f e h in omega (arith, a, none, rest)
own_one f k e h false is (inr mine) rest = absurd (false≢true (sym is ∙ mine))

pub own_sum : (f : Entry × End → ℕ) (k : ℕ) (h : History) → AllByRecursion (IsAlone f k) h → sum_by f h ≡ sum_by f (own k h)
own_sum f k [] all = refl
own_sum f k (e ∷ h) all = own_one f k e h (is_own k e) refl all.0 (own_sum f k h all.1)

-- the entries of a conversation, by the commands that it took
abbrev pub Takes : (Command → Type 0) → Act → Type 0
Takes Of (Did command r) = Of command
Takes Of (Asked a answer) = ⊥
Takes Of Stop = ⊥
Takes Of act = Unit {0}

takes_act : (Of : Command → Type 0) (act : Act) (rest : List Command) → IsTalking act → AllByRecursion Of (command_in act ++ rest) → Takes Of act × AllByRecursion Of rest
takes_act Of (Did command r) rest t all = (all.0, all.1)
takes_act Of (Asked a answer) rest t all = absurd t
takes_act Of Stop rest t all = absurd t
takes_act Of act rest t all = (tt, all)

pub takes_all : (Of : Command → Type 0) (h : History) → AllByRecursion Talks h → AllByRecursion Of (commands_of h) → AllByRecursion (λ (e : Entry × End). Takes Of e.0.act) h
takes_all Of [] t all = tt
takes_all Of (e ∷ h) t all = let both = takes_act Of e.0.act (commands_of h) t.0 all in (both.0, takes_all Of h t.1 both.1)

-- where no Stop stands in the front of a history, and no Gone behind it, no Stop stands before a Gone
no_gone_next : (mine gone rest : Bool) → gone ≡ false → rest ≡ false → (if mine then (if gone then true else rest) else rest) ≡ false
no_gone_next true true rest none more = absurd (false≢true (sym none))
no_gone_next true false rest none more = more
no_gone_next false gone rest none more = more

stop_next : (stop mine gone later rest : Bool) → (stop ≡ true → later ≡ false) → rest ≡ false → (if stop then later else (if mine then (if gone then false else rest) else rest)) ≡ false
stop_next true mine gone later rest behind more = behind refl
stop_next false true true later rest behind more = refl
stop_next false true false later rest behind more = more
stop_next false false gone later rest behind more = more

abbrev pub IsNoStop : Entry × End → Type 0
IsNoStop e = is_stop e.0.act ≡ false

abbrev pub IsNoGone : Entry × End → Type 0
IsNoGone e = is_gone e.0.act ≡ false

no_gone : (k : ℕ) (h : History) → AllByRecursion IsNoGone h → has_gone k h ≡ false
no_gone k [] none = refl
no_gone k (e ∷ h) none = no_gone_next (e.0.conn == k) (is_gone e.0.act) (has_gone k h) none.0 (no_gone k h none.1)

no_gone_behind : (k : ℕ) (h : History) → AllByRecursion IsNoGone h → stops_before_gone k h ≡ false
no_gone_behind k [] none = refl
no_gone_behind k (e ∷ h) none =
    stop_next (is_stop e.0.act) (e.0.conn == k) (is_gone e.0.act) (has_gone k h) (stops_before_gone k h) (λ s. no_gone k h none.1) (no_gone_behind k h none.1)

pub stops_last : (k : ℕ) (front behind : History) → AllByRecursion IsNoStop front → AllByRecursion IsNoGone behind → stops_before_gone k (front ++ behind) ≡ false
stops_last k [] behind some none = no_gone_behind k behind none
stops_last k (e ∷ front) behind some none =
    stop_next (is_stop e.0.act) (e.0.conn == k) (is_gone e.0.act) (has_gone k (front ++ behind)) (stops_before_gone k (front ++ behind)) (λ s. absurd (false≢true (sym some.0 ∙ s))) (stops_last k front behind some.1 none)

-- where a connection has no entries and each Stop is its own, none stands there
stop_own : (act : Act) → is_stop act ≡ true → is_common act ≡ false
stop_own Stop s = refl
stop_own act s = absurd (false≢true s)

own_none : (k : ℕ) (e : Entry × End) (h : History) (b : Bool) → is_own k e ≡ b → own k (e ∷ h) ≡ [] → (is_own k e ≡ false) × (own k h ≡ [])
own_none k e h true is none = let some : e ∷ own k h ≡ [] = subst (λ c. (if c then e ∷ own k h else own k h) ≡ []) is none in cc
own_none k e h false is none = (is, subst (λ c. (if c then e ∷ own k h else own k h) ≡ []) is none)

no_stop_here : (k : ℕ) (e : Entry × End) (b : Bool) → is_stop e.0.act ≡ b → is_own k e ≡ false → (is_stop e.0.act ≡ true → e.0.conn ≡ k) → is_stop e.0.act ≡ false
no_stop_here k e true is other mine = let own_it : is_own k e ≡ true = rw (stop_own e.0.act is, eq-eqb e.0.conn k (mine is)) refl in absurd (false≢true (sym other ∙ own_it))
no_stop_here k e false is other mine = is

pub no_stops : (k : ℕ) (h : History) → own k h ≡ [] → AllByRecursion (λ (e : Entry × End). is_stop e.0.act ≡ true → e.0.conn ≡ k) h → AllByRecursion IsNoStop h
no_stops k [] none all = tt
no_stops k (e ∷ h) none all =
    let parts = own_none k e h (is_own k e) refl none in (no_stop_here k e (is_stop e.0.act) refl parts.0 all.0, no_stops k h parts.1 all.1)
