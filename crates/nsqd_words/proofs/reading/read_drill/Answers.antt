use Rattle.std.specs.Prelude.{string_bytes}
use Rattle.std.proofs.Common.{arith}
use borrow.Author.Tests.{ltb-false, ltb-true}
use Rattle.nsqd_words.proofs.DrillLemmas.{is_drill, no_count, no_seed, not_four}
use Rattle.nsqd_words.proofs.reading.read_drill.Goals.{in_default-via-then-words-lt4, in_default-via-else-words-lt4+else-words-lt5}
use Rattle.nsqd_words.proofs.reading.read_drill.Goals as goal

pub returns-in_default : goal.returns-in_default
returns-in_default c = not_four string_bytes c.args.words.now c.requires (λ four. elim c.in_default.branch [
  | in_default-via-then-words-lt4 w ↦ omega (arith, ltb-true)
  | in_default-via-else-words-lt4+else-words-lt5 w ↦ omega (arith, ltb-false)
])

pub returns-in_default-read_number_up_to : goal.returns-in_default-read_number_up_to
returns-in_default-read_number_up_to c =
    no_seed string_bytes c.args.words.now c.seed-item.result c.as_bytes.result.now c.requires (omega arith) c.seed-item.is c.as_bytes.ensures.value c.in_default-read_number_up_to.ensures

pub returns-in_default-read_number_up_to-2 : goal.returns-in_default-read_number_up_to-2
returns-in_default-read_number_up_to-2 c =
    no_count string_bytes c.args.words.now c.count-item.result c.as_bytes-2.result.now c.requires (omega arith) c.count-item.is c.as_bytes-2.ensures.value c.in_default-read_number_up_to-2.ensures

pub returns : goal.returns
returns c =
    is_drill string_bytes c.args.words.now c.seed-item.result c.count-item.result c.as_bytes.result.now c.as_bytes-2.result.now c.in-Some.seed c.in-Some-read_number_up_to.count c.requires (omega arith)
    c.seed-item.is c.count-item.is c.as_bytes.ensures.value c.as_bytes-2.ensures.value c.in-Some.ensures c.in-Some-read_number_up_to.ensures
