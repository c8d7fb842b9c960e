-- What the entries of one number's turns are to the other numbers.
use Rattle.std.proofs.Common.{◌≡◌, ◌≢◌, ◌≤◌, ◌<◌, inl, inr, ℕ, ◌+◌, ◌==◌, [], ◌∷◌, ◌++◌, Bool, true, false, length, refl, sym, ◌∙◌, ap, subst, arith, length-append, filter}
use Rattle.std.specs.List.{AllByRecursion}
use Rattle.std.proofs.lemmas.Bool.{false≢true, eq-eqb}
use Rattle.std.proofs.lemmas.List.Elements.{filter-append}
use Rattle.std.proofs.lemmas.Grind.{common_steps}
use Rattle.nsq_outside.specs.declared.journal.End.{End}
use Rattle.broker_history.specs.declared.entry.Act.{Act}
use Rattle.broker_history.specs.declared.entry.Act.TheVariants.{Stop}
use Rattle.broker_history.specs.declared.entry.Entry.{Entry}
use Rattle.broker_history.specs.Entries.{History, is_common, is_stop, own, stops_of}
use Rattle.broker_history.proofs.Own.{own-append, common_none}
use Rattle.floor_laws.specs.Laws.{IsOf}
use Rattle.floor_laws.proofs.Laying.{all_both, all_so}
use Rattle.daemon_callers.specs.Served.{NamesUpTo, UpTo}

-- an equation of numbers that is tested false
apart : (m n : ℕ) → m ≢ n → (m == n) ≡ false
apart m n d = grind (arith, common_steps)

of_another : (k : ℕ) (e : Entry × End) → e.0.conn ≢ k → own k (e ∷ []) ≡ []
of_another k e d = let x : (e.0.conn == k) ≡ false = apart e.0.conn k d in rw x refl

-- own entries of one more
own_cons : (k : ℕ) (e : Entry × End) (h : History) → own k (e ∷ []) ≡ [] → own k h ≡ [] → own k (e ∷ h) ≡ []
own_cons k e h one rest = own-append k (e ∷ []) h ∙ ap (λ x. x ++ own k h) one ∙ rest

one_of : (k n : ℕ) (e : Entry × End) → n ≢ k → IsOf n e → own k (e ∷ []) ≡ []
one_of k n e d (inl common) = common_none k (e ∷ []) (common, tt)
one_of k n e d (inr names) = of_another k e (λ p. d (sym names ∙ p))

-- no entry of a number's turns is another number's own
pub none_of : (k n : ℕ) (es : History) → n ≢ k → AllByRecursion (IsOf n) es → own k es ≡ []
none_of k n [] d a = refl
none_of k n (e ∷ es) d a = own_cons k e es (one_of k n e d a.0) (none_of k n es d a.1)

names_of : (n : ℕ) (e : Entry × End) → IsOf n e → NamesUpTo n e
names_of n e (inl common) = inl common
names_of n e (inr names) = inr (omega (arith, names))

names_later : (n m : ℕ) → n ≤ m → (e : Entry × End) → NamesUpTo n e → NamesUpTo m e
names_later n m l e (inl common) = inl common
names_later n m l e (inr low) = inr (omega (arith, low, l))

-- entries of a number follow, and none is above it
pub up_to_more : (n m k : ℕ) (h h' es : History) → h' ≡ h ++ es → n ≤ m → k ≤ m → UpTo n h → AllByRecursion (IsOf k) es → UpTo m h'
up_to_more n m k h h' es whole l lk u a =
    subst (λ x. UpTo m x) (sym whole) (all_both (NamesUpTo m) h es (all_so (NamesUpTo n) (NamesUpTo m) h (names_later n m l) u) (all_so (IsOf k) (NamesUpTo m) es (λ e i. names_later k m lk e (names_of k e i)) a))

one_low : (n k : ℕ) (e : Entry × End) → n < k → NamesUpTo n e → own k (e ∷ []) ≡ []
one_low n k e l (inl common) = common_none k (e ∷ []) (common, tt)
one_low n k e l (inr low) = of_another k e (λ p. absurd (omega (arith, p, low, l)))

-- a number above all that were noted has no entry
pub nothing_yet : (n k : ℕ) (h : History) → UpTo n h → n < k → own k h ≡ []
nothing_yet n k [] u l = refl
nothing_yet n k (e ∷ h) u l = own_cons k e h (one_low n k e l u.0) (nothing_yet n k h u.1 l)

-- Stops
pub stops-append : (h k : History) → stops_of (h ++ k) ≡ stops_of h + stops_of k
stops-append h k = ap length (filter-append (λ e. is_stop e.0.act) h k) ∙ length-append (filter (λ e. is_stop e.0.act) h) (filter (λ e. is_stop e.0.act) k)

common_act : (a : Act) → is_common a ≡ true → is_stop a ≡ false
common_act Stop h = absurd (false≢true h)
common_act a h = refl

one_no_stop : (e : Entry × End) → is_stop e.0.act ≡ false → stops_of (e ∷ []) ≡ 0
one_no_stop e f = rw f refl

common_stops : (n : ℕ) (e : Entry × End) → is_common e.0.act ≡ true → stops_of (e ∷ []) ≡ stops_of (own n (e ∷ []))
common_stops n e common = one_no_stop e (common_act e.0.act common) ∙ ap stops_of (sym (common_none n (e ∷ []) (common, tt)))

named_stops : (n : ℕ) (e : Entry × End) (b : Bool) → is_common e.0.act ≡ b → e.0.conn ≡ n → stops_of (e ∷ []) ≡ stops_of (own n (e ∷ []))
named_stops n e true is names = common_stops n e is
named_stops n e false is names = let here : (e.0.conn == n) ≡ true = eq-eqb e.0.conn n names in rw (here, is) refl

one_stops : (n : ℕ) (e : Entry × End) → IsOf n e → stops_of (e ∷ []) ≡ stops_of (own n (e ∷ []))
one_stops n e (inl common) = common_stops n e common
one_stops n e (inr names) = named_stops n e (is_common e.0.act) refl names

-- the Stops among a number's turns are its own
pub stops_own : (n : ℕ) (es : History) → AllByRecursion (IsOf n) es → stops_of es ≡ stops_of (own n es)
stops_own n [] a = refl
stops_own n (e ∷ es) a =
    stops-append (e ∷ []) es ∙ ap (λ x. x + stops_of es) (one_stops n e a.0) ∙ ap (λ x. stops_of (own n (e ∷ [])) + x) (stops_own n es a.1) ∙ sym (stops-append (own n (e ∷ [])) (own n es)) ∙ ap stops_of (sym (own-append n (e ∷ []) es))
