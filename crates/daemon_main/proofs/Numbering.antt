-- The callers that were served one after another, as what was handed back says it.
use Rattle.std.proofs.Common.{◌≡◌, ◌<◌, inr, ℕ, zero, suc, ◌+◌, List, [], ◌∷◌, ◌++◌, true, length, refl, sym, ◌∙◌, ap, subst, arith, append_assoc, length-append, nat_lt}
use Rattle.std.specs.List.{AllByRecursion}
use Rattle.std.proofs.lemmas.Grind.{common_steps}
use Rattle.nsq_base.specs.declared.options.Options.{Options}
use Rattle.nsq_outside.specs.declared.host.Kind.{Kind}
use Rattle.broker_history.specs.Entries.{History}
use Rattle.daemon_callers.specs.Served.{AreServed, IsServed, Views}
use Rattle.daemon_main.specs.Callers.{IsHandedBack, numbers_of, one_to}

-- so many numbers from a first one on
abbrev from_to : ℕ → ℕ → List ℕ
from_to first zero = []
from_to first (suc n) = first ∷ from_to (first + 1) n

from_to-more : (first n : ℕ) → from_to first (suc n) ≡ from_to first n ++ (first + n) ∷ []
from_to-more first zero = let same : first ≡ first + 0 = omega arith in ap (λ k. k ∷ []) same
from_to-more first (suc n) = let same : (first + 1) + n ≡ first + suc n = omega arith in ap (λ xs. first ∷ xs) (from_to-more (first + 1) n ∙ ap (λ k. from_to (first + 1) n ++ k ∷ []) same)

up_from_one : (n : ℕ) → from_to 1 n ≡ one_to n
up_from_one zero = refl
up_from_one (suc n) = let same : 1 + n ≡ suc n = omega arith in from_to-more 1 n ∙ ap (λ xs. xs ++ (1 + n) ∷ []) (up_from_one n) ∙ ap (λ k. one_to n ++ k ∷ []) same

above_0 : (n : ℕ) → 0 < n → nat_lt 0 n ≡ true
above_0 n l = grind (arith, common_steps)

module _ {K : Type 0} (seen : Views K) (o : Options) (began : ℕ) (h : History) where
  numbers_cons : (x : ℕ × K) (xs : List (ℕ × K)) → 0 < x.0 → numbers_of (x ∷ xs) ≡ x.0 ∷ numbers_of xs
  numbers_cons x xs l = let b : nat_lt 0 x.0 ≡ true = above_0 x.0 l in rw b refl

  numbers_from : (first : ℕ) (cs : List (Kind × List ℕ)) (xs : List (ℕ × K)) → 0 < first → AreServed seen o began h first cs xs → numbers_of xs ≡ from_to first (length cs)
  numbers_from first [] [] l s = refl
  numbers_from first [] (x ∷ xs) l s = absurd s
  numbers_from first (c ∷ cs) [] l s = absurd s
  numbers_from first (c ∷ cs) (x ∷ xs) l s =
      let is : x.0 ≡ first = s.0 in
      numbers_cons x xs (omega (arith, is, l)) ∙ ap (λ ns. x.0 ∷ ns) (numbers_from (first + 1) cs xs (omega arith) s.2) ∙ ap (λ k. k ∷ from_to (first + 1) (length cs)) is

  -- the numbers of those that were handed back
  pub numbered : (cs : List (Kind × List ℕ)) (xs : List (ℕ × K)) → AreServed seen o began h 1 cs xs → numbers_of xs ≡ one_to (length cs)
  numbered cs xs s = numbers_from 1 cs xs (omega arith) s ∙ up_from_one (length cs)

  module _ (all : List (Kind × List ℕ)) where
    handed_from : (first : ℕ) (before cs : List (Kind × List ℕ)) (xs : List (ℕ × K)) → all ≡ before ++ cs → first ≡ length before + 1 → AreServed seen o began h first cs xs → AllByRecursion (IsHandedBack seen o began h all) xs
    handed_from first before [] [] e f s = tt
    handed_from first before [] (x ∷ xs) e f s = absurd s
    handed_from first before (c ∷ cs) [] e f s = absurd s
    handed_from first before (c ∷ cs) (x ∷ xs) e f s =
        let size : length (before ++ c ∷ []) ≡ length before + 1 = length-append before (c ∷ []) in (
          inr (record { before = before; caller = c; after = cs; place = e; number = s.0 ∙ f; served = subst (λ n. IsServed seen o began h n c.0 c.1 x.1) (sym s.0) s.1 }),
          handed_from (first + 1) (before ++ c ∷ []) cs xs (e ∙ sym (append_assoc before (c ∷ []) cs)) (omega (arith, f, size)) s.2,
        )

  -- each that was handed back was served
  pub handed : (cs : List (Kind × List ℕ)) (xs : List (ℕ × K)) → AreServed seen o began h 1 cs xs → AllByRecursion (IsHandedBack seen o began h cs) xs
  handed cs xs s = handed_from cs 1 [] cs xs refl refl s
