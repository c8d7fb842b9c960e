use Rattle.std.proofs.Common.{arith, refl, inl, inr, ◌-◌}
use Rattle.v2_client.specs.Frames.{bad_size, bad_type, open_type, open_data}
use Rattle.v2_client.proofs.FrameLemmas.{type_small, front_whole}
use Rattle.v2_client.proofs.frame_reader.front_of.Goals.{then-size-lt4-via-then-size-lt4, then-size-lt4-via-else-size-lt4+then-size-limit}
use Rattle.v2_client.proofs.frame_reader.front_of.Goals as goal

pub returns-then-size-lt4 : goal.returns-then-size-lt4
returns-then-size-lt4 c =
    (bad_size c.in-Some.ensures.0 (elim c.then-size-lt4.branch [ then-size-lt4-via-then-size-lt4 w ↦ inl w.if-size-lt4.true | then-size-lt4-via-else-size-lt4+then-size-limit w ↦ inr w.if-size-limit.true ]) refl, omega arith)

pub returns-in_default-size_of : goal.returns-in_default-size_of
returns-in_default-size_of c = open_type c.in-Some.ensures.0 (record { room = omega arith; within = omega arith }) c.in_default-size_of.ensures

pub returns-in_default-kind_of : goal.returns-in_default-kind_of
returns-in_default-kind_of c =
    (bad_type c.in-Some.ensures.0 (record { room = omega arith; within = omega arith }) c.in-Some-size_of.ensures.0 c.in_default-kind_of.ensures refl, omega arith)

pub returns-then-text-length : goal.returns-then-text-length
returns-then-text-length c =
    open_data c.in-Some.ensures.0 (record { room = omega arith; within = omega arith }) c.in-Some-size_of.ensures.0 (omega (arith, c.in-Some-kind_of.ensures, type_small c.in-Some-kind_of.kind)) (omega arith)

pub returns : goal.returns
returns c =
    front_whole c.args.limit c.args.bytes.now c.in-Some.rest.now c.in-Some-size_of.text.now c.in-Some.size c.in-Some-size_of.number (c.in-Some.size - 4) c.in-Some-kind_of.kind
    c.in-Some.ensures.0 c.in-Some-size_of.ensures.0 c.in-Some-kind_of.ensures (omega arith) (omega arith) c.if-text-length.false
