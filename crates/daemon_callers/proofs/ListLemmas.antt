-- Where a connection lists the names: only behind a Stop.
use Rattle.std.proofs.Common.{◌≡◌, ℕ, Bool, true, false, ◌||◌, if◌then◌else◌, [], ◌∷◌, ◌++◌, refl, sym, ap, ◌∙◌}
use Rattle.std.specs.List.{list_any}
use Rattle.std.proofs.lemmas.List.Folds.{list_any-append}
use Rattle.nsq_outside.specs.declared.journal.End.{End}
use Rattle.broker_history.specs.declared.entry.Act.{Act}
use Rattle.broker_history.specs.declared.entry.Act.TheVariants.{Stop}
use Rattle.broker_history.specs.declared.entry.Entry.{Entry}
use Rattle.broker_history.specs.Entries.{History, own, is_stop, has_stop}
use Rattle.broker_history.proofs.Own.{own-append}
use Rattle.daemon_callers.specs.Exchange.{is_listed, before_stop, ListsBehindStop}

-- whether an entry lists the names
abbrev pub any_listed : History → Bool
any_listed h = list_any (λ (e : Entry × End). is_listed e.0.act) h

or_none : (a b : Bool) → (a || b) ≡ false → (a ≡ false) × (b ≡ false)
or_none true b e = absurd (let c : true ≡ false = e in cc)
or_none false b e = (refl, e)

none_or : (a b : Bool) → a ≡ false → b ≡ false → (a || b) ≡ false
none_or true b a_none b_none = a_none
none_or false b a_none b_none = b_none

-- an own entry more
any_next : (n : ℕ) (e : Entry × End) (h : History) → any_listed (own n (e ∷ h)) ≡ (any_listed (own n (e ∷ [])) || any_listed (own n h))
any_next n e h = ap any_listed (own-append n (e ∷ []) h) ∙ list_any-append (λ (x : Entry × End). is_listed x.0.act) (own n (e ∷ [])) (own n h)

unlisted_step : (n : ℕ) (stop : Bool) (e : Entry × End) (h : History) → any_listed (own n (e ∷ h)) ≡ false → (any_listed (own n h) ≡ false → ListsBehindStop n h) → any_listed (own n (if stop then [] else e ∷ before_stop h)) ≡ false
unlisted_step n true e h none rest = refl
unlisted_step n false e h none rest =
    let both = or_none (any_listed (own n (e ∷ []))) (any_listed (own n h)) (sym (any_next n e h) ∙ none) in
    any_next n e (before_stop h) ∙ none_or (any_listed (own n (e ∷ []))) (any_listed (own n (before_stop h))) both.0 (rest both.1)

-- where no own entry lists the names, none does before a Stop
pub unlisted : (n : ℕ) (h : History) → any_listed (own n h) ≡ false → ListsBehindStop n h
unlisted n [] none = refl
unlisted n (e ∷ h) none = unlisted_step n (is_stop e.0.act) e h none (unlisted n h)

before_step : (stop stops : Bool) (e : Entry × End) (h k : History) → (stop || stops) ≡ true → (stops ≡ true → k ≡ h) → (if stop then [] else e ∷ k) ≡ (if stop then [] else e ∷ h)
before_step true stops e h k some rest = refl
before_step false stops e h k some rest = ap (λ x. e ∷ x) (rest some)

-- what joins behind a Stop isn't before one
before_append : (h k : History) → has_stop h ≡ true → before_stop (h ++ k) ≡ before_stop h
before_append [] k some = cc
before_append (e ∷ h) k some = before_step (is_stop e.0.act) (has_stop h) e (before_stop h) (before_stop (h ++ k)) some (before_append h k)

-- behind a Stop the names may be listed
pub lists_behind : (n : ℕ) (h k later : History) → later ≡ h ++ k → has_stop h ≡ true → ListsBehindStop n h → ListsBehindStop n later
lists_behind n h k later whole some lists = ap (λ (x : History). any_listed (own n (before_stop x))) whole ∙ ap (λ (x : History). any_listed (own n x)) (before_append h k some) ∙ lists

-- no entry lists the names where there is none
pub lists_none : (n : ℕ) (h : History) → own n h ≡ [] → ListsBehindStop n h
lists_none n h none = unlisted n h (ap any_listed none)

-- nor where there is one, which doesn't
pub lists_one : (n : ℕ) (h : History) (e : Entry × End) → own n h ≡ e ∷ [] → is_listed e.0.act ≡ false → ListsBehindStop n h
lists_one n h e one other = unlisted n h (ap any_listed one ∙ none_or (is_listed e.0.act) false other refl)

-- a Stop lists nothing
pub stop_unlisted : (act : Act) → is_stop act ≡ true → is_listed act ≡ false
stop_unlisted Stop e = refl
stop_unlisted act e = absurd (let c : false ≡ true = e in cc)
