-- The own entries of a number: whether its connection is there, is gone, and went behind a Stop.
use Rattle.std.proofs.Common.{◌≡◌, ℕ, ◌==◌, Bool, true, false, not, ◌&&◌, ◌||◌, if◌then◌else◌, [], ◌∷◌, ◌++◌, refl, sym, ap, ◌∙◌}
use Rattle.std.proofs.lemmas.List.{append_cancel_left}
use Rattle.std.proofs.lemmas.List.Folds.{list_any-append}
use Rattle.nsq_outside.specs.declared.journal.End.{End}
use Rattle.broker_history.specs.declared.entry.Act.{Act}
use Rattle.broker_history.specs.declared.entry.Act.TheVariants.{Gone}
use Rattle.broker_history.specs.declared.entry.Entry.{Entry}
use Rattle.broker_history.specs.Entries.{History, own, is_began, is_gone, is_stop, is_common, has_stop}
use Rattle.broker_history.specs.Talk.{has_gone, stops_before_gone, WithGone}
use Rattle.broker_history.proofs.Own.{own-append}
use Rattle.broker_history.specs.Calls.{has_began, is_over, IsHere}
use Rattle.broker_history.specs.Answers.{Grows}

or_false : (a : Bool) → (a || false) ≡ a
or_false true = refl
or_false false = refl

or_true : (a : Bool) → (a || true) ≡ true
or_true true = refl
or_true false = refl

-- one more entry is a Began, or isn't
began-next : (h : History) (e : Entry × End) → has_began (h ++ e ∷ []) ≡ (has_began h || is_began e.0.act)
began-next h e = list_any-append (λ x. is_began x.0.act) h (e ∷ []) ∙ ap (λ x. has_began h || x) (or_false (is_began e.0.act))

over-next : (h : History) (e : Entry × End) → is_over (h ++ e ∷ []) ≡ (is_over h || is_gone e.0.act)
over-next h e = list_any-append (λ x. is_gone x.0.act) h (e ∷ []) ∙ ap (λ x. is_over h || x) (or_false (is_gone e.0.act))

-- a connection stays behind an entry that isn't its Gone
pub here_next : (h h' : History) (e : Entry × End) → IsHere h → h' ≡ h ++ e ∷ [] → is_gone e.0.act ≡ false → IsHere h'
here_next h h' e here whole stays = record {
  began = ap has_began whole ∙ began-next h e ∙ ap (λ x. x || is_began e.0.act) here.began;
  stays = ap is_over whole ∙ over-next h e ∙ ap (λ x. x || is_gone e.0.act) here.stays ∙ stays;
}

-- a connection is there once it began
pub here_first : (h h' : History) (e : Entry × End) → h ≡ [] → h' ≡ h ++ e ∷ [] → is_began e.0.act ≡ true → is_gone e.0.act ≡ false → IsHere h'
here_first h h' e none whole began stays =
    let one : h' ≡ e ∷ [] = whole ∙ ap (λ x. x ++ e ∷ []) none in
    record { began = ap has_began one ∙ ap (λ x. x || false) began; stays = ap is_over one ∙ ap (λ x. x || false) stays }

-- a Gone is no common entry
gone_apart : (act : Act) → is_gone act ≡ true → is_common act ≡ false
gone_apart Gone e = refl
gone_apart act e = cc

one_gone : (mine common gone later : Bool) (e : Entry × End) (k : History) → is_gone e.0.act ≡ gone → (gone ≡ true → common ≡ false) → later ≡ is_over k
    → (if mine then (if gone then true else later) else later) ≡ is_over (if mine && not common then e ∷ k else k)
one_gone true true true later e k g apart s = absurd (let c : true ≡ false = apart refl in cc)
one_gone true true false later e k g apart s = s
one_gone true false true later e k g apart s = ap (λ x. x || is_over k) (sym g)
one_gone true false false later e k g apart s = s ∙ ap (λ x. x || is_over k) (sym g)
one_gone false common gone later e k g apart s = s

-- a connection is gone where its own entries say so
pub has_gone-own : (n : ℕ) (h : History) → has_gone n h ≡ is_over (own n h)
has_gone-own n [] = refl
has_gone-own n (e ∷ h) = one_gone (e.0.conn == n) (is_common e.0.act) (is_gone e.0.act) (has_gone n h) e (own n h) refl (gone_apart e.0.act) (has_gone-own n h)

gone_later : (n : ℕ) (h k : History) → has_gone n k ≡ true → has_gone n (h ++ k) ≡ true
gone_later n h k g =
    has_gone-own n (h ++ k) ∙ ap is_over (own-append n h k) ∙ list_any-append (λ x. is_gone x.0.act) (own n h) (own n k)
    ∙ ap (λ x. is_over (own n h) || x) (sym (has_gone-own n k) ∙ g) ∙ or_true (is_over (own n h))

one_stop : (stop stops mine gone before later there : Bool) → (stop || stops) ≡ true → (if mine then (if gone then true else before) else before) ≡ false → later ≡ true
    → (stops ≡ true → before ≡ false → there ≡ true) → (if stop then later else (if mine then (if gone then false else there) else there)) ≡ true
one_stop true stops mine gone before later there s b l f = l
one_stop false stops true true before later there s b l f = cc
one_stop false stops true false before later there s b l f = f s b
one_stop false stops false gone before later there s b l f = f s b

-- a Stop stands before the Gone of a number that goes behind it
stopped_first : (n : ℕ) (h k : History) → has_stop h ≡ true → has_gone n h ≡ false → has_gone n k ≡ true → stops_before_gone n (h ++ k) ≡ true
stopped_first n [] k s b g = cc
stopped_first n (e ∷ h) k s b g =
    one_stop (is_stop e.0.act) (has_stop h) (e.0.conn == n) (is_gone e.0.act) (has_gone n h) (has_gone n (h ++ k)) (stops_before_gone n (h ++ k)) s b (gone_later n h k g) (λ t c. stopped_first n h k t c g)

-- the same, of what was seen before and behind the Gone
pub stopped_before : (n : ℕ) (seen seen' : History) → has_stop seen ≡ true → IsHere (own n seen) → Grows seen seen' → WithGone (own n seen) (own n seen') → stops_before_gone n seen' ≡ true
stopped_before n seen seen' stops here grows with_gone =
    let more : own n seen' ≡ own n seen ++ own n grows.added = ap (λ x. own n x) grows.whole ∙ own-append n seen grows.added in
    let last : own n grows.added ≡ with_gone.gone ∷ [] = append_cancel_left (own n seen) (own n grows.added) (with_gone.gone ∷ []) (sym more ∙ with_gone.whole) in
    let gone : has_gone n grows.added ≡ true = has_gone-own n grows.added ∙ ap is_over last ∙ ap (λ x. is_gone x || false) with_gone.is_gone in
    ap (λ x. stops_before_gone n x) grows.whole ∙ stopped_first n seen grows.added stops (has_gone-own n seen ∙ here.stays) gone
