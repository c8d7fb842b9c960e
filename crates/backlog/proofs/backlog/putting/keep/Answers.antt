use Rattle.std.proofs.Common.{◌∙◌, ◌≤◌, ◌++◌, ◌∷◌, List, [], length, reverse, ap, refl, arith, length-append}
use Rattle.std.proofs.lemmas.List.{reverse-reverse}
use Rattle.v2_frame.specs.declared.message.Message.{Message}
use Rattle.circular_buffer.specs.Buffer.{Buffer}
use Rattle.backlog.proofs.Putting.{keep_begins, kept_all, kept_more, kept_none}
use Rattle.backlog.proofs.backlog.putting.keep.Goals.{in-Some+in-Some-1, in-Some+in-None-1, in_default}
use Rattle.backlog.proofs.backlog.putting.keep.Goals as goal

pub loop-preserved : goal.loop-preserved
loop-preserved c =
    let before = c.loop.invariant in
    let rest = c.pop.new.self.items in
    let all = c.args.ring.now.items ++ c.args.messages.now.items in
    let room : length all ≤ c.loop.ring.capacity = omega (arith, length-append c.args.ring.now.items c.args.messages.now.items, before.capacity) in
    elim c.match-pop.branch [
      | in-Some+in-Some-1 w ↦ record {
        whole = ap (λ (b : Buffer Message). b.items ++ reverse rest) (w.ring-is ∙ w.push_back.ensures.items) ∙ kept_more c.loop.ring.items c.loop.messages.items rest all w.in-Some.message c.loop.ring.capacity before.whole w.in-Some.ensures.items room;
        capacity = ap (λ (b : Buffer Message). b.capacity) (w.ring-is ∙ w.push_back.ensures.items) ∙ before.capacity;
        left = omega (arith, length-append rest (w.in-Some.message ∷ []), ap length w.in-Some.ensures.items, before.left);
      }
      | in-Some+in-None-1 w ↦ record {
        whole = ap (λ (b : Buffer Message). b.items ++ reverse rest) (w.ring-is ∙ w.push_back.ensures.items) ∙ kept_more c.loop.ring.items c.loop.messages.items rest all w.in-Some.message c.loop.ring.capacity before.whole w.in-Some.ensures.items room;
        capacity = ap (λ (b : Buffer Message). b.capacity) (w.ring-is ∙ w.push_back.ensures.items) ∙ before.capacity;
        left = omega (arith, length-append rest (w.in-Some.message ∷ []), ap length w.in-Some.ensures.items, before.left);
      }
      | in_default w ↦ absurd (omega (arith, w.in_default.ensures.cases.0, before.left, c.loop.messages.ok.0, c.loop-test.true))
    ]

pub loop-init : goal.loop-init
loop-init c = record {
  whole = ap (λ (xs : List Message). c.args.ring.now.items ++ reverse xs) c.reverse.ensures.items ∙ ap (λ (xs : List Message). c.args.ring.now.items ++ xs) (reverse-reverse c.args.messages.now.items);
  capacity = refl;
  left = keep_begins c.reverse.new.self.items c.reverse.new.self.len c.len-end.result c.reverse.new.self.ok.0 c.len-end.ensures;
}

pub returns : goal.returns
returns c = record {
  kept = kept_all c.loop.ring c.loop.messages.items c.args.ring.now.items c.args.messages.now.items c.args.ring.now.capacity c.loop.counter c.len-end.result c.loop.invariant.whole c.loop.invariant.capacity c.loop.invariant.left c.loop-test.false;
  taken = kept_none c.loop.messages.items c.loop.counter c.len-end.result c.loop.invariant.left c.loop-test.false;
}
