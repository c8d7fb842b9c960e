-- An exchange over HTTP in a history that grows, and its cause.
use Rattle.std.proofs.Common.{◌≡◌, ℕ, ◌++◌, ◌∷◌, [], List, Bool, true, false, if◌then◌else◌, refl, sym, ◌∙◌, ap, subst}
use Rattle.std.specs.List.{list_any}
use Rattle.std.proofs.lemmas.List.{append-nil}
use Rattle.nsq_base.specs.declared.options.Options.{Options}
use Rattle.nsq_outside.specs.declared.journal.End.{End}
use Rattle.broker_history.specs.declared.entry.Entry.{Entry}
use Rattle.broker_history.specs.Entries.{History, is_own, is_stop, own}
use Rattle.broker_history.specs.Talk.{bytes_of}
use Rattle.broker_history.proofs.Own.{own-append}
use Rattle.daemon_callers.specs.declared.http.ended.EndedHttp.{EndedHttp}
use Rattle.daemon_callers.specs.Exchange.{HasCause, IsExchange, IsExchangeIn, IsWarnedHttp, before_stop, is_listed}

pub own_stays : (k : ℕ) (h es : History) → own k es ≡ [] → own k (h ++ es) ≡ own k h
own_stays k h es none = own-append k h es ∙ ap (λ x. own k h ++ x) none ∙ append-nil (own k h)

cons_nil : {A : Type 0} (e : Entry × End) (h : History) → e ∷ h ≡ [] → A
cons_nil e h same = cc

-- none is kept of the first, and none of the others
none_kept : (mine : Bool) (e : Entry × End) (h : History) → (if mine then e ∷ h else h) ≡ [] → (mine ≡ false) × (h ≡ [])
none_kept true e h none = cons_nil e h none
none_kept false e h none = (refl, none)

-- what stands before the first Stop, behind an entry that may be one
behind_one : (k : ℕ) (e : Entry × End) (h h' : History) (stop : Bool) → own k h ≡ own k h' → own k (if stop then [] else e ∷ h) ≡ own k (if stop then [] else e ∷ h')
behind_one k e h h' true same = refl
behind_one k e h h' false same = ap (λ x. if is_own k e then e ∷ x else x) same

none_before : (k : ℕ) (e : Entry × End) (h : History) (stop : Bool) → is_own k e ≡ false → own k h ≡ [] → own k (if stop then [] else e ∷ h) ≡ []
none_before k e h true other none = refl
none_before k e h false other none = rw other none

-- where a number has no entry, it has none before the first Stop
nothing_before : (k : ℕ) (es : History) → own k es ≡ [] → own k (before_stop es) ≡ []
nothing_before k [] none = refl
nothing_before k (e ∷ es) none =
    let rest = none_kept (is_own k e) e (own k es) none in none_before k e (before_stop es) (is_stop e.0.act) rest.0 (nothing_before k es rest.1)

-- entries of others change nothing of what a number has before the first Stop
before_stays : (k : ℕ) (h es : History) → own k es ≡ [] → own k (before_stop (h ++ es)) ≡ own k (before_stop h)
before_stays k [] es none = nothing_before k es none
before_stays k (e ∷ h) es none = behind_one k e (before_stop (h ++ es)) (before_stop h) (is_stop e.0.act) (before_stays k h es none)

-- entries of others leave an exchange as it is
pub exchange_stays : (o : Options) (began k : ℕ) (h es : History) (pieces : List (List ℕ)) (out : List ℕ) (ended : EndedHttp) → own k es ≡ [] → IsExchangeIn o began k h pieces out ended → IsExchangeIn o began k (h ++ es) pieces out ended
exchange_stays o began k h es pieces out ended none x = record {
  read = x.read;
  exchange = subst (λ mine. IsExchange o began pieces mine out ended) (sym (own_stays k h es none)) x.exchange;
  lists = ap (λ mine. list_any (λ e. is_listed e.0.act) mine) (before_stays k h es none) ∙ x.lists;
}

-- an ending's cause, of a connection that had no fault before
pub cause_from_0 : (ended : EndedHttp) (at_end : Bool) (r r' w w' : ℕ) → r ≡ 0 → w ≡ 0 → HasCause ended at_end r r' w w' → HasCause ended at_end 0 r' 0 w'
cause_from_0 ended at_end r r' w w' no_r no_w c = subst (λ n. HasCause ended at_end 0 r' n w') no_w (subst (λ n. HasCause ended at_end n r' w w') no_r c)

-- whether its caller was told of want of memory, of a connection to which nothing was written and that had no fault before
pub warned_from_0 : (ended : EndedHttp) (out out' : List ℕ) (w w' : ℕ) → out ≡ [] → w ≡ 0 → IsWarnedHttp ended out out' w w' → IsWarnedHttp ended [] out' 0 w'
warned_from_0 ended out out' w w' none no_w t = subst (λ n. IsWarnedHttp ended [] out' n w') no_w (subst (λ x. IsWarnedHttp ended x out' w w') none t)

-- what was read and what is left of a connection that was new are the bytes that it had
pub stream_whole : (pieces pieces' : List (List ℕ)) (left left' : List ℕ) → pieces ≡ [] → bytes_of pieces' ++ left' ≡ bytes_of pieces ++ left → bytes_of pieces' ++ left' ≡ left
stream_whole pieces pieces' left left' none same = same ∙ ap (λ x. bytes_of x ++ left) none
