use Rattle.std.proofs.Common.{rules, ◌≡◌, ℕ, Bool, true, false, List, length}
use Rattle.std.specs.Bool.{MatchBool}
use Rattle.std.specs.List.{All, AllWithin}
use Rattle.std.proofs.lemmas.Bool.{false≢true}
use Rattle.std.proofs.lemmas.Iterator.{cases_from_all, YieldsList-from_slice}
use Rattle.std.proofs.lemmas.Iterator.Search.{true_from_All}
use Rattle.std.proofs.lemmas.List.Elements.{All-from_all_within}
use Rattle.nsq_base.specs.Text.{IsText}
use Rattle.nsq_base.proofs.options.are_utf8.Goals as goal

all_if_true : (P : List ℕ → Type 0) (X : Type 0) (xs : List (List ℕ)) (r : Bool) → MatchBool r (AllWithin P xs 0 (length xs)) X → r ≡ true → All P xs
all_if_true P X xs true h e = All-from_all_within P xs h
all_if_true P X xs false h e = absurd (false≢true e)

pub returns : goal.returns
returns c =
    let no : List ℕ → Type 0 = λ text. IsText text → ⊥ in
    let cases = cases_from_all _ _ _ IsText no c.all.ensures.ran (YieldsList-from_slice c.args.texts.now cc) (λ x q k. search rules) (λ x q k. search rules) in
    (λ h. all_if_true IsText _ c.args.texts.now c.all.result cases h, λ h. true_from_All IsText no c.all.result c.args.texts.now (λ text yes not. not yes) cases h)
