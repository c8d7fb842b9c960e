use Rattle.std.proofs.Common.{List, ℕ, ◌+◌, ◌-◌, take, drop, refl, sym, ap, subst, ◌∙◌}
use Rattle.v2_frame.specs.declared.frame.Frame.{Frame}
use Rattle.v2_frame.specs.Script.{told_place}
use Rattle.v2_client.specs.Frames.{FramesHeld, IsBadFrame, IsOpenFrame, BeginsWithFrame}
use Rattle.v2_client.proofs.FrameRowLemmas.{frame_taken}
use Rattle.v2_client.proofs.frame_reader.FrameReader.take_next.Goals as goal

pub returns-in-Open : goal.returns-in-Open
returns-in-Open c =
    (subst (λ (x : FramesHeld). IsOpenFrame x.limit c.args.self.now.bytes) c.self.view_is (subst (λ (x : List ℕ). IsOpenFrame c.self.inside.limit x) c.held-bytes.ensures c.in-Open.ensures), refl)

pub returns-in_default : goal.returns-in_default
returns-in_default c =
    let frame : Frame = record { kind = c.in-Whole.kind; body = take (c.in-Whole.end - 8) (drop 8 c.held-bytes.result.now) } in
    let rest = drop c.in-Whole.end c.held-bytes.result.now in
    let there : BeginsWithFrame c.self.inside.limit c.args.self.now.bytes frame rest = subst (λ (x : List ℕ). BeginsWithFrame c.self.inside.limit x frame rest) c.held-bytes.ensures c.in-Whole.ensures.2 in
    ((frame, rest, subst (λ (x : FramesHeld). BeginsWithFrame x.limit c.args.self.now.bytes frame rest) c.self.view_is there), refl)

pub returns-in-Bad : goal.returns-in-Bad
returns-in-Bad c =
    let at = c.in-Bad.at in
    let there : IsBadFrame c.self.inside.limit c.args.self.now.bytes at = subst (λ (x : List ℕ). IsBadFrame c.self.inside.limit x at) c.held-bytes.ensures c.in-Bad.ensures.0 in
    ((at, subst (λ (x : FramesHeld). IsBadFrame x.limit c.args.self.now.bytes at) c.self.view_is there, c.told_place.ensures ∙ ap (λ (x : FramesHeld). told_place (x.place + at)) c.self.view_is), refl)

pub returns : goal.returns
returns c =
    let i = c.self.inside in
    rw (← c.self.view_is) (frame_taken i.limit i.place i.start c.in-Whole.end c.told_place-self-inside.result i.buffer.items c.held-bytes.result.now c.in-Ok.body c.in-Whole.kind
    (c.held-bytes.ensures ∙ sym (ap (λ (x : FramesHeld). x.bytes) c.self.view_is)) c.in-Whole.ensures c.in-Ok.ensures c.told_place-self-inside.ensures)
