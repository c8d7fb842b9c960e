-- What a call of an outbox leaves on its way.
use Rattle.std.proofs.Common.{◌≡◌, ◌≢◌, ◌⊎◌, ◌+◌, ◌<◌, ◌≤◌, ◌==◌, ℕ, List, [], ◌++◌, length, take, Bool, true, false, Option, None, Some, IfSome, Result, Ok, Err, OnErr, is_ok, cond, inl, inr, refl, sym, ◌∙◌, ap, subst, arith}
use Rattle.std.proofs.lemmas.Bool.{false≢true, eqb-true, cases_lt}
use Rattle.std.proofs.lemmas.List.{nil_from_length, take_all}
use Rattle.std.proofs.Math.Nat.{le_of_eq}
use Rattle.std.specs.Io.KnownBytes.{Keeps, Appends}
use Rattle.nsq_outside.specs.Causes.{DidCounts, CountsFault}
use Rattle.nsq_outside.specs.declared.conn.Write.{Write}
use Rattle.nsq_outside.specs.declared.conn.Write.TheVariants.{Took, Failed as NotTaken}
use Rattle.nsq_outside.specs.declared.did.Did.{Did}
use Rattle.nsq_outside.specs.declared.did.Did.TheVariants.{Done, Failed}
use Rattle.nsq_system.specs.Outboxes.{TakesOrBreaks, BreaksAtError}
use Rattle.nsq_system.specs.Sendings.{SendsSome, IsDelivered, Gathers, KeepsOthers}
use Rattle.nsq_system.specs.declared.outbox.Outbox.{Outbox}
use Rattle.nsq_system.proofs.Deliveries.{flushed, broke, still, stopped, gathered, passed, none_taken}

pub done_not_failed : Done ≢ Failed
done_not_failed same = cc

pub took_not_failed : (n : ℕ) → Took n ≢ NotTaken
took_not_failed n same = cc

-- an empty list by its length, and one that isn't
pub none_there : {X : Type 0} (items : List X) (len : ℕ) → len ≡ length items → true ≡ (len == 0) → items ≡ []
none_there items len size none = nil_from_length items (sym size ∙ eqb-true len 0 (sym none))

pub some_there : {X : Type 0} (items : List X) (len : ℕ) → len ≡ length items → false ≡ (len == 0) → items ≢ []
some_there items len size some none = false≢true (some ∙ ap (λ n. n == 0) (size ∙ ap length none))

pub no_more : (items : List ℕ) → items ≡ [] → length items ≤ 16384
no_more items none = let empty : length items ≡ 0 = ap length none in omega (arith, empty)

-- what holds anyway holds of whatever is there
pub any_some : {X : Type 0} (found : Option X) {P : Type 0} → P → IfSome found (λ _. P)
any_some None p = tt
any_some (Some x) p = p

-- a list that was extended
pub added : {T E : Type 0} (outcome : Result T E) (is : Bool) (old other new : List ℕ) → is ≡ is_ok outcome → new ≡ cond (is_ok outcome) (old ++ other) old → is ≡ true → new ≡ old ++ other
added (Ok value) is old other new told now held = now
added (Err error) is old other new told now held = absurd (false≢true (sym told ∙ held))

-- where there is room it can't fail
pub has_room : {T E : Type 0} (outcome : Result T E) (is : Bool) (size room : ℕ) {P : Type 0} → is ≡ is_ok outcome → OnErr outcome (room < size) → size ≤ room → is ≡ false → P
has_room (Ok value) is size room told full fits failed = absurd (false≢true (sym failed ∙ told))
has_room (Err error) is size room told full fits failed = absurd (omega (arith, full, fits))

-- all that waited was sent, from an outbox that isn't broken
pub sent_whole : (a b : Option (List ℕ)) (waiting bytes now taken : List ℕ) (was : Bool) → was ≡ false → bytes ≡ waiting → now ≡ [] → Appends a b bytes → IsDelivered a waiting was taken → IsDelivered b now was taken
sent_whole a b waiting bytes now taken true whole same none h d = absurd (false≢true (sym whole))
sent_whole a b waiting bytes now taken false whole same none h d =
    subst (λ (now : List ℕ). IsDelivered b now false taken) (sym none) (flushed a b waiting taken (subst (Appends a b) same h) d)

-- or a part of it, which breaks it
pub sent_part : (a b : Option (List ℕ)) (waiting bytes now taken : List ℕ) (was : Bool) → bytes ≡ waiting → (was ≡ false → SendsSome a b bytes) → (was ≡ true → b ≡ a) → IsDelivered a waiting was taken → IsDelivered b now true taken
sent_part a b waiting bytes now taken true same some kept d = subst (λ (held : Option (List ℕ)). IsDelivered held now true taken) (sym (kept refl)) (still a waiting now taken d)
sent_part a b waiting bytes now taken false same some kept d = still b [] now taken (broke a b waiting taken (subst (SendsSome a b) same (some refl)) d)

-- a broken outbox takes nothing
pub kept_back : (a : Option (List ℕ)) (waiting now taken : List ℕ) (was : Bool) → was ≡ true → IsDelivered a waiting was taken → IsDelivered a now was (taken ++ [])
kept_back a waiting now taken false broken d = absurd (false≢true broken)
kept_back a waiting now taken true broken d = none_taken a now taken true (still a waiting now taken d)

-- any other takes all bytes for which there is room
pub gathered_more : (a : Option (List ℕ)) (waiting now taken from : List ℕ) (was : Bool) → was ≡ false → now ≡ waiting ++ from → IsDelivered a waiting was taken → IsDelivered a now was (taken ++ take (length from) from)
gathered_more a waiting now taken from true whole is d = absurd (false≢true (sym whole))
gathered_more a waiting now taken from false whole is d =
    subst (λ (now : List ℕ). IsDelivered a now false (taken ++ take (length from) from)) (sym is)
    (subst (λ (front : List ℕ). IsDelivered a (waiting ++ from) false (taken ++ front)) (sym (take_all (length from) from (le_of_eq refl))) (gathered a waiting taken from d))

-- bytes passed where none waited
pub passed_on : (a b : Option (List ℕ)) (waiting taken bytes : List ℕ) (was : Bool) → was ≡ false → waiting ≡ [] → Appends a b bytes → IsDelivered a waiting was taken → IsDelivered b waiting was (taken ++ bytes)
passed_on a b waiting taken bytes true whole none h d = absurd (false≢true (sym whole))
passed_on a b waiting taken bytes false whole none h d =
    subst (λ (w : List ℕ). IsDelivered b w false (taken ++ bytes)) (sym none) (passed a b taken bytes h (subst (λ (w : List ℕ). IsDelivered a w false taken) none d))

kept_broken : (a b : Option (List ℕ)) (waiting taken : List ℕ) → Keeps a b → IsDelivered a waiting true taken → IsDelivered b waiting true taken
kept_broken None b waiting taken h d = absurd d
kept_broken (Some xs) None waiting taken h d = absurd h
kept_broken (Some xs) (Some ys) waiting taken h d = (d.0, d.1 ∙ ap (λ x. x ++ d.0) (sym h))

-- or none did, which breaks it
pub passed_none : (a b : Option (List ℕ)) (waiting taken : List ℕ) (was : Bool) → Keeps a b → IsDelivered a waiting was taken → IsDelivered b waiting true (taken ++ [])
passed_none a b waiting taken false h d = none_taken b waiting taken true (stopped a b waiting taken h d)
passed_none a b waiting taken true h d = none_taken b waiting taken true (kept_broken a b waiting taken h d)

-- what went through isn't gathered
pub gathers_none : (before now from : List ℕ) (answer : Write) → now ≡ [] → 16384 < length from → Gathers before now from answer
gathers_none before now from (Took n) none long = inr (none, inr long)
gathers_none before now from NotTaken none long = inr none

pub keeps_long : (before now from : List ℕ) (answer : Write) → 16384 < length from → KeepsOthers before now from answer
keeps_long before now from (Took n) long = λ fits _. absurd (omega (arith, long, fits))
keeps_long before now from NotTaken long = tt

-- what is gathered stands behind what there was room for
pub gathers_there : (before mid now from : List ℕ) → now ≡ mid ++ from → (mid ≡ before) ⊎ (mid ≡ []) → (length before + length from ≤ 16384 → mid ≡ before) → Gathers before now from (Took (length from))
gathers_there before mid now from is (inl same) fits = inl (refl, inl (is ∙ ap (λ x. x ++ from) same))
gathers_there before mid now from is (inr none) fits = inl (refl, by (cases_lt 16384 (length before + length from)))
  where
    by : (16384 < length before + length from) ⊎ (length before + length from ≤ 16384) → (now ≡ before ++ from) ⊎ ((now ≡ from) × (16384 < length before + length from))
    by (inl more) = inr (is ∙ ap (λ x. x ++ from) none, more)
    by (inr less) = inl (is ∙ ap (λ x. x ++ from) (fits less))

-- bytes that went through leave it whole
pub whole_breaks : {W : Type 0} (from : List ℕ) (outbox : Outbox W) (answer : Write) → TakesOrBreaks outbox answer → BreaksAtError from outbox answer
whole_breaks from outbox (Took n) whole = λ broken. absurd (false≢true (sym whole ∙ broken))
whole_breaks from outbox NotTaken whole = tt

-- a call that sent what was gathered breaks it exactly where it failed
pub counts_did : (did : Did) (before now : ℕ) (was is : Bool) → was ≡ false → DidCounts before now did → (did ≡ Done → is ≡ was) → (did ≡ Failed → is ≡ true) → CountsFault before now is
counts_did Done before now was is whole counts done failed = subst (λ (b : Bool). CountsFault before now b) (sym (done refl ∙ whole)) counts
counts_did Failed before now was is whole counts done failed = subst (λ (b : Bool). CountsFault before now b) (sym (failed refl)) counts
