use Rattle.std.proofs.Common.{◌+◌, ◌∷◌, take, ap, ◌∙◌, sym, List, ℕ}
use Rattle.v2_frame.specs.Line.{words_of}
use Rattle.v2_frame.proofs.PlaceLemmas.{one_word_text, words_parted, behind_place}
use Rattle.v2_frame.proofs.line.parted.Goals as goal

pub returns-in_default : goal.returns-in_default
returns-in_default c = one_word_text c.args.text.now c.in_default.ensures

pub returns : goal.returns
returns c =
    let text = c.args.text.now in
    let space = c.in-Some.space in
    words_parted text (take space text) _ c.in-Some.ensures.1 c.in-Some.ensures.2 ∙ ap (λ (rest : List ℕ). take space text ∷ words_of rest) (sym (behind_place text (space + 1)))
