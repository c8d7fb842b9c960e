use Rattle.std.proofs.Common.{◌≡◌, ℕ, ◌+◌, ◌≤◌, List, [], ◌∷◌, ◌++◌, take, drop, length, arith, ap, sym, subst, ◌∙◌, length-take, length-drop, length-append}
use Rattle.std.specs.List.{flat_map}
use Rattle.v2_frame.specs.Command.{sized}
use Rattle.v2_frame.specs.Judging.{HasBodies, no_count, count_zero}
use Rattle.v2_frame.proofs.PlaceLemmas.{behind_place}
use Rattle.v2_frame.proofs.FieldLemmas.{message_open, message_bad, bytes_left, content_whole, body_more, length_more}
use Rattle.v2_frame.proofs.batch.read_bodies.Goals as goal

pub returns-in_default : goal.returns-in_default
returns-in_default c = no_count c.in_default.ensures

pub returns-then-count-eq0 : goal.returns-then-count-eq0
returns-then-count-eq0 c = count_zero (rw c.if-count-eq0.true at c.in-Some.ensures.0)

pub returns-in-Open : goal.returns-in-Open
returns-in-Open c =
    let i = c.messages.invariant in
    message_open c.args.most c.in-Some.count c.messages.at c.args.content.now _ c.messages.bodies c.in-Some.ensures.0 c.in-Some.ensures.1 i.bodies i.behind
    _ (behind_place c.args.content.now c.messages.at) (omega arith) c.in-Open.ensures

pub returns-in-Bad : goal.returns-in-Bad
returns-in-Bad c =
    let i = c.messages.invariant in
    message_bad c.args.most c.in-Some.count c.messages.at c.args.content.now _ c.messages.bodies c.in-Some.ensures.0 c.in-Some.ensures.1 i.bodies i.behind
    _ (behind_place c.args.content.now c.messages.at) (omega arith) c.in-Bad.ensures

pub returns-then-at-content : goal.returns-then-at-content
returns-then-at-content c =
    let i = c.messages.invariant in
    bytes_left c.args.most c.in-Some.count c.messages.at c.args.content.now _ c.messages.bodies c.in-Some.ensures.0 c.in-Some.ensures.1 i.bodies i.behind (omega (arith, c.if-count-eq0.false)) (omega arith) (omega arith)

pub messages-preserved : goal.messages-preserved
messages-preserved c =
    let i = c.messages.invariant in
    let f = c.in-Whole.ensures in
    let at = c.messages.at in
    let size = c.in-Whole.size in
    let content = c.args.content.now in
    let bodies = c.messages.bodies in
    let body = c.in_ok-body.body in
    let slice = behind_place content at in
    let pushed : c.push.new.self ≡ bodies ++ body ∷ [] = c.in_ok-push.ensures.ok in
    let there : at + (4 + size) ≤ length content = omega (arith, f.there, ap length slice, length-drop at content) in
    let text : body ≡ take size (drop (at + 4) content) = c.in_ok-body.ensures ∙ ap (λ (n : ℕ). take n (drop (at + 4) content)) (omega arith) in
    let long : length body ≡ size = ap length text ∙ simp length-take (omega (arith, there, length-drop (at + 4) content)) in
    record {
      within = there;
      behind = omega (arith, i.behind, length_more bodies body size long, ap (λ (x : List (List ℕ)). length (flat_map sized x)) pushed);
      bodies = subst (λ (x : List (List ℕ)). HasBodies c.args.most (drop 4 content) x (drop (at + (4 + size)) content)) (sym pushed) (body_more c.args.most at size content _ body bodies i.bodies slice f text);
      some = omega (arith, ap length pushed, length-append bodies (body ∷ []), i.some);
    }

pub returns : goal.returns
returns c =
    let i = c.messages.invariant in
    let all : length c.messages.bodies ≡ c.in-Some.count = omega (arith, c.messages-test.false, i.some) in (
      content_whole c.args.most c.in-Some.count c.messages.at c.args.content.now _ c.messages.bodies c.in-Some.ensures.0 c.in-Some.ensures.1 i.bodies i.behind all (omega (arith, c.if-at-content.false)),
      omega (arith, all, c.if-count-eq0.false),
      i.bodies.each,
    )
