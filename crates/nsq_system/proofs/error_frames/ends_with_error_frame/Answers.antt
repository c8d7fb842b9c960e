use Rattle.std.proofs.Common.{◌≡◌, ◌-◌, ◌<◌, length, take, drop, sym, subst, arith}
use Rattle.std.proofs.lemmas.List.{take_rest}
use Rattle.nsq_system.specs.Frames.{EndsInError}
use Rattle.nsq_system.proofs.ErrorFrames.{IsSplit, error_is_last, last_is_error, too_short, goes_on, goes_back}
use Rattle.nsq_system.proofs.error_frames.ends_with_error_frame.Goals as goal

pub returns-then-frame-size-clause-ends : goal.returns-then-frame-size-clause-ends
returns-then-frame-size-clause-ends c = λ ends.
    let h = c.in-Some.ensures.cases in
    let n = c.from_be_bytes-size.result in
    let s : IsSplit n c.loop-front.rest.now c.in-Some.front.now c.in-Some.frame.now = record { head = h.0; behind = h.1; whole = h.2; size = c.from_be_bytes-size.ensures } in
    let short : length c.in-Some.frame.now < n = omega (arith, c.if-frame-size.true) in
    absurd (too_short n c.loop-front.rest.now c.in-Some.front.now c.in-Some.frame.now s short (c.loop-front.invariant.0 ends))

pub returns-then-frame-size-2-clause-ends : goal.returns-then-frame-size-2-clause-ends
returns-then-frame-size-2-clause-ends c = λ ends.
    let h = c.in-Some.ensures.cases in
    let n = c.from_be_bytes-size.result in
    let s : IsSplit n c.loop-front.rest.now c.in-Some.front.now c.in-Some.frame.now = record { head = h.0; behind = h.1; whole = h.2; size = c.from_be_bytes-size.ensures } in
    let end : length c.in-Some.frame.now ≡ n = omega (arith, c.if-frame-size-2.true) in
    c.is_error.ensures.1 (last_is_error n c.loop-front.rest.now c.in-Some.front.now c.in-Some.frame.now s end (c.loop-front.invariant.0 ends))

pub returns-then-frame-size-2-clause-only : goal.returns-then-frame-size-2-clause-only
returns-then-frame-size-2-clause-only c = λ is.
    let h = c.in-Some.ensures.cases in
    let n = c.from_be_bytes-size.result in
    let s : IsSplit n c.loop-front.rest.now c.in-Some.front.now c.in-Some.frame.now = record { head = h.0; behind = h.1; whole = h.2; size = c.from_be_bytes-size.ensures } in
    let end : length c.in-Some.frame.now ≡ n = omega (arith, c.if-frame-size-2.true) in
    c.loop-front.invariant.1 (error_is_last n c.loop-front.rest.now c.in-Some.front.now c.in-Some.frame.now s end (c.is_error.ensures.0 is))

pub loop-front-preserved : goal.loop-front-preserved
loop-front-preserved c =
    let h = c.in-Some.ensures.cases in
    let n = c.from_be_bytes-size.result in
    let rest = c.loop-front.rest.now in
    let frame = c.in-Some.frame.now in
    let s : IsSplit n rest c.in-Some.front.now frame = record { head = h.0; behind = h.1; whole = h.2; size = c.from_be_bytes-size.ensures } in
    let more : n < length frame = omega (arith, c.if-frame-size.false, c.if-frame-size-2.false) in
    let all : take (length frame - n) (drop n frame) ≡ drop n frame = take_rest frame n in
    subst (λ bytes. (EndsInError c.args.bytes.now → EndsInError bytes) × (EndsInError bytes → EndsInError c.args.bytes.now)) (sym all)
    (λ error. goes_on n rest c.in-Some.front.now frame s more (c.loop-front.invariant.0 error), λ error. c.loop-front.invariant.1 (goes_back n rest c.in-Some.front.now frame s more error))
