use Rattle.std.proofs.Common.{length, take, drop, ap, refl, arith}
use Rattle.std.proofs.lemmas.List.{take_rest, length-drop}
use Rattle.http_wire.specs.Target.{path_of, query_of, pairs_of}
use Rattle.http_wire.specs.declared.request.Request.{Request}
use Rattle.http_wire.proofs.HeadLemmas.{EndsAt_take}
use Rattle.http_wire.proofs.FindLemmas.{bad_head, no_length, too_big, open_body, whole}
use Rattle.http_wire.proofs.found.find.Goals as goal

pub read_head-requires : goal.read_head-requires
read_head-requires c = EndsAt_take c.args.bytes.now c.args.end c.requires.ends

pub returns-in_default : goal.returns-in_default
returns-in_default c = bad_head c.args.bytes.now c.args.end c.requires.ends c.in_default.ensures

pub returns-then-head : goal.returns-then-head
returns-then-head c = no_length c.args.bytes.now c.args.end c.in-Some.head c.requires.ends c.requires.within c.in-Some.ensures c.if-head.true

pub returns-then-head-from : goal.returns-then-head-from
returns-then-head-from c =
    too_big c.args.limit c.args.bytes.now c.args.end c.in-Some.head c.requires.ends c.requires.within c.in-Some.ensures c.if-head.false (omega (arith, c.from.ensures))

pub returns-then-behind-size : goal.returns-then-behind-size
returns-then-behind-size c =
    let behind = take_rest c.args.bytes.now c.args.end in
    open_body c.args.limit c.args.bytes.now c.args.end c.in-Some.head c.requires.ends c.requires.within c.in-Some.ensures c.if-head.false (omega (arith, c.from.ensures))
    (omega (arith, ap length behind, length-drop c.args.end c.args.bytes.now, c.requires.ends.within))

pub returns-in-Ok : goal.returns-in-Ok
returns-in-Ok c =
    let behind = take_rest c.args.bytes.now c.args.end in
    whole c.args.limit c.args.bytes.now c.args.end c.in-Some.head c.in-Ok.request _ c.requires.ends c.requires.within c.in-Some.ensures c.if-head.false (omega (arith, c.from.ensures))
    (omega (arith, ap length behind, length-drop c.args.end c.args.bytes.now, c.requires.ends.within)) (ap (take c.in-Some.head.size) behind) c.in-Ok.ensures

pub returns-in-Err : goal.returns-in-Err
returns-in-Err c =
    let behind = take_rest c.args.bytes.now c.args.end in
    let said = c.in-Some.head in
    let body = take said.size (drop c.args.end c.args.bytes.now) in
    let request : Request = record { method = said.method.now; path = path_of said.target.now; query = pairs_of (query_of said.target.now); body = body } in (
      request,
      whole c.args.limit c.args.bytes.now c.args.end said request body c.requires.ends c.requires.within c.in-Some.ensures c.if-head.false (omega (arith, c.from.ensures))
          (omega (arith, ap length behind, length-drop c.args.end c.args.bytes.now, c.requires.ends.within)) refl refl,
    )
