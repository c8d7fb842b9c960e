use Rattle.v2_frame.specs.Line.{words_of}
use Rattle.v2_frame.specs.Parts.{seen_heading}
use Rattle.v2_frame.proofs.FoundLemmas.{line_long, line_nothing, line_says, line_start}
use Rattle.v2_frame.proofs.judge.line_start.Goals as goal

pub returns-then-text-gt-LONGEST_LINE : goal.returns-then-text-gt-LONGEST_LINE
returns-then-text-gt-LONGEST_LINE c = line_long c.args.line.now c.text_of-text.result.now c.text_of-text.ensures c.if-text-gt-LONGEST_LINE.true

pub returns-in_default : goal.returns-in_default
returns-in_default c =
    let text = c.text_of-text.result.now in
    line_nothing c.args.line.now text c.text_of-text.ensures c.if-text-gt-LONGEST_LINE.false (c.in_default.ensures (words_of text) c.words_of.ensures)

pub returns : goal.returns
returns c =
    let line = c.args.line.now in
    let text = c.text_of-text.result.now in
    let heading = seen_heading c.in-Some.heading in
    line_start line heading c.start_of.result (line_says line text c.text_of-text.ensures heading c.if-text-gt-LONGEST_LINE.false (c.in-Some.ensures (words_of text) c.words_of.ensures)) c.start_of.ensures
