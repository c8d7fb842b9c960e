-- A loop over the calls that looks for the first of a path.
use Rattle.std.proofs.Common.{◌≡◌, ℕ, suc, ◌+◌, ◌<◌, Bool, true, false, List, [], ◌∷◌, ◌++◌, length, take, drop, get_or, Some, None, refl, sym, ap, ◌∙◌, add-one}
use Rattle.std.specs.List.{find}
use Rattle.std.proofs.Math.Seq.{take-suc}
use Rattle.std.proofs.lemmas.List.{take-append-drop}
use Rattle.std.proofs.lemmas.List.Folds.{find-append}
use Rattle.http_calls.specs.declared.route.Route.{Route}

-- none is found up to a place, nor there
pub find_miss : (p : Route → Bool) (rs : List Route) (i : ℕ) (d : Route) → i < length rs → find p (take i rs) ≡ None → p (get_or rs i d) ≡ false → find p (take (i + 1) rs) ≡ None
find_miss p rs i d within none other = rw (add-one, take-suc rs i d within, find-append p (take i rs) (get_or rs i d ∷ []), none, other) refl

-- none is found up to a place, but one is there
pub find_hit : (p : Route → Bool) (rs : List Route) (i : ℕ) (d : Route) → i < length rs → find p (take i rs) ≡ None → p (get_or rs i d) ≡ true → find p rs ≡ Some (get_or rs i d)
find_hit p rs i d within none here =
    let parts : rs ≡ (take i rs ++ get_or rs i d ∷ []) ++ drop (suc i) rs = rw (← take-suc rs i d within) (sym (take-append-drop (suc i) rs)) in
    ap (find p) parts
    ∙ rw (find-append p (take i rs ++ get_or rs i d ∷ []) (drop (suc i) rs), find-append p (take i rs) (get_or rs i d ∷ []), none, here) refl
