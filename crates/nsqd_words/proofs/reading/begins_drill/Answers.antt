use Rattle.std.proofs.Common.{ap, ◌∙◌, List, ℕ, codes}
use Rattle.std.specs.Prelude.{string_bytes}
use Rattle.std.specs.Str.{bytes_eq}
use Rattle.std.proofs.lemmas.Bool.{false≢true}
use Rattle.nsqd_words.proofs.SayingLemmas.{is_word, no_word}
use Rattle.nsqd_words.proofs.reading.begins_drill.Goals as goal

pub returns-in-Some : goal.returns-in-Some
returns-in-Some c =
    let found = c.in-Some.ensures.lookup in
    is_word string_bytes c.args.words.now 1 c.in-Some.word.now (codes "drill") c.eq.result found.3.0 found.1
    (c.eq.ensures ∙ ap (λ (t : List ℕ). bytes_eq t (codes "drill")) c.as_str.ensures.value)

pub returns-in-None : goal.returns-in-None
returns-in-None c =
    (λ t. absurd (false≢true t), λ e. absurd (no_word string_bytes c.args.words.now 1 (codes "drill") c.in-None.ensures.lookup.3 e))
