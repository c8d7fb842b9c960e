use Rattle.std.proofs.Common.{◌≡◌, List, ℕ, ◌++◌, ◌∷◌, [], OnOk, codes, ap, refl, subst, ◌∙◌}
use Rattle.json.specs.Token.{Token}
use Rattle.json.specs.Print.{token_text}
use Rattle.names_file.proofs.NameTexts.{end_parts}
use Rattle.names_file.proofs.names.write_end.Goals.{then-paused, else-paused}
use Rattle.names_file.proofs.names.write_end.Goals as goal

pub returns-clause-ok : goal.returns-clause-ok
returns-clause-ok c =
    let is : c.if-paused.flag.now ≡ token_text (Token.boolean c.args.paused) = elim c.if-paused.branch [ then-paused w ↦ rw (w.if-paused.true, w.flag-is) refl | else-paused w ↦ rw (w.if-paused.false, w.flag-is) refl ] in
    subst (λ (x : List ℕ). OnOk c.append_all.result (c.append_all.new.out.items ≡ c.args.out.now.items ++ (c.args.start.now ++ x)))
    (ap (λ (x : List ℕ). codes "\"name\":\"" ++ (c.args.name.now ++ (codes "\",\"paused\":" ++ (x ++ 125 ∷ [])))) is ∙ end_parts c.args.name.now c.args.paused c.requires)
    c.append_all.ensures.ok
