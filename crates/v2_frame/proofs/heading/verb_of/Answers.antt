use Rattle.v2_frame.specs.declared.heading.Verb.TheVariants as verb
use Rattle.v2_frame.specs.Parts.{spelled}
use Rattle.v2_frame.proofs.VerbLemmas.{are_same, not_same, no_verb}
use Rattle.v2_frame.proofs.heading.verb_of.Goals as goal

pub returns-then-same : goal.returns-then-same
returns-then-same c = are_same c.args.word.now (spelled verb.Identify) c.same.ensures c.if-same.true

pub returns-then-same-2 : goal.returns-then-same-2
returns-then-same-2 c = are_same c.args.word.now (spelled verb.Sub) c.same-2.ensures c.if-same-2.true

pub returns-then-same-3 : goal.returns-then-same-3
returns-then-same-3 c = are_same c.args.word.now (spelled verb.Pub) c.same-3.ensures c.if-same-3.true

pub returns-then-same-4 : goal.returns-then-same-4
returns-then-same-4 c = are_same c.args.word.now (spelled verb.Mpub) c.same-4.ensures c.if-same-4.true

pub returns-then-same-5 : goal.returns-then-same-5
returns-then-same-5 c = are_same c.args.word.now (spelled verb.Dpub) c.same-5.ensures c.if-same-5.true

pub returns-then-same-6 : goal.returns-then-same-6
returns-then-same-6 c = are_same c.args.word.now (spelled verb.Rdy) c.same-6.ensures c.if-same-6.true

pub returns-then-same-7 : goal.returns-then-same-7
returns-then-same-7 c = are_same c.args.word.now (spelled verb.Fin) c.same-7.ensures c.if-same-7.true

pub returns-then-same-8 : goal.returns-then-same-8
returns-then-same-8 c = are_same c.args.word.now (spelled verb.Req) c.same-8.ensures c.if-same-8.true

pub returns-then-same-9 : goal.returns-then-same-9
returns-then-same-9 c = are_same c.args.word.now (spelled verb.Touch) c.same-9.ensures c.if-same-9.true

pub returns-then-same-10 : goal.returns-then-same-10
returns-then-same-10 c = are_same c.args.word.now (spelled verb.Cls) c.same-10.ensures c.if-same-10.true

pub returns-then-same-11 : goal.returns-then-same-11
returns-then-same-11 c = are_same c.args.word.now (spelled verb.Nop) c.same-11.ensures c.if-same-11.true

pub returns : goal.returns
returns c =
    let word = c.args.word.now in
    no_verb word
    (not_same word (spelled verb.Identify) c.same.ensures c.if-same.false)
    (not_same word (spelled verb.Sub) c.same-2.ensures c.if-same-2.false)
    (not_same word (spelled verb.Pub) c.same-3.ensures c.if-same-3.false)
    (not_same word (spelled verb.Mpub) c.same-4.ensures c.if-same-4.false)
    (not_same word (spelled verb.Dpub) c.same-5.ensures c.if-same-5.false)
    (not_same word (spelled verb.Rdy) c.same-6.ensures c.if-same-6.false)
    (not_same word (spelled verb.Fin) c.same-7.ensures c.if-same-7.false)
    (not_same word (spelled verb.Req) c.same-8.ensures c.if-same-8.false)
    (not_same word (spelled verb.Touch) c.same-9.ensures c.if-same-9.false)
    (not_same word (spelled verb.Cls) c.same-10.ensures c.if-same-10.false)
    (not_same word (spelled verb.Nop) c.same-11.ensures c.if-same-11.false)
