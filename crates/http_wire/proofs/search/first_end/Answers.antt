use Rattle.std.proofs.Common.{◌≡◌, ◌+◌, ◌-◌, ◌<◌, ◌≤◌, length, take, drop, ap, arith}
use Rattle.std.proofs.lemmas.List.{take_rest, length-drop}
use Rattle.http_wire.specs.Searching.{HasNoEnd}
use Rattle.http_wire.proofs.SearchLemmas.{HasNoEnd_between, HasNoEnd_one, none_before, none_at_all, first_found, found_at, begins_before}
use Rattle.http_wire.proofs.search.first_end.Goals as goal

pub returns-then-ends_blank : goal.returns-then-ends_blank
returns-then-ends_blank c =
    let bytes = c.args.bytes.now in
    let done = c.loop-place.done in
    let place = c.in-Some.place in
    let slice = take (length bytes - done) (drop done bytes) in
    let rest : slice ≡ drop done bytes = take_rest bytes done in
    let within : done + place + 1 ≤ length bytes = omega (arith, c.in-Some.ensures.0.high, ap length rest, length-drop done bytes, c.loop-place.invariant.within) in
    let none : HasNoEnd bytes (done + place) = HasNoEnd_between bytes done (done + place) (omega arith) c.loop-place.invariant.none (none_before bytes slice done place rest c.in-Some.ensures.0) in
    let order : c.args.begin < done + place = begins_before bytes c.args.begin (done + place) c.requires.begun (omega (arith, c.loop-place.invariant.order)) (omega arith) (found_at bytes slice done place rest c.in-Some.ensures.1) in
    (first_found bytes c.args.begin (done + place) c.requires.begun order within none (c.ends_blank.ensures.0 c.if-ends_blank.true), omega arith)

pub loop-place-preserved : goal.loop-place-preserved
loop-place-preserved c =
    let bytes = c.args.bytes.now in
    let done = c.loop-place.done in
    let place = c.in-Some.place in
    let slice = take (length bytes - done) (drop done bytes) in
    let rest : slice ≡ drop done bytes = take_rest bytes done in
    let within : done + place + 1 ≤ length bytes = omega (arith, c.in-Some.ensures.0.high, ap length rest, length-drop done bytes, c.loop-place.invariant.within) in
    let none : HasNoEnd bytes (done + place) = HasNoEnd_between bytes done (done + place) (omega arith) c.loop-place.invariant.none (none_before bytes slice done place rest c.in-Some.ensures.0) in
    record {
      order = omega (arith, c.loop-place.invariant.order);
      within = within;
      none = HasNoEnd_one bytes (done + place) none (λ blank. let set = c.ends_blank.ensures.1 blank in let unset = c.if-ends_blank.false in cc);
    }

pub returns : goal.returns
returns c =
    let bytes = c.args.bytes.now in
    let done = c.loop-place.done in
    HasNoEnd_between bytes done (length bytes) (omega arith) c.loop-place.invariant.none (none_at_all bytes (take (length bytes - done) (drop done bytes)) done (take_rest bytes done) c.in_default.ensures)
