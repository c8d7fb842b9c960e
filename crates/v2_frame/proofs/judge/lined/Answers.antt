use Rattle.std.proofs.Common.{◌≡◌, ◌+◌, drop, length, take, arith, length-take}
use Rattle.v2_frame.specs.Line.{HasLine}
use Rattle.v2_frame.proofs.FoundLemmas.{found_alone, found_sized, sized_text}
use Rattle.v2_frame.proofs.judge.lined.Goals as goal

pub returns-in-Err-clause-verdict : goal.returns-in-Err-clause-verdict
returns-in-Err-clause-verdict c =
    let p = c.requires in
    c.in-Err.ensures c.args.limits c.args.bytes.now (drop (c.args.end + 1) c.args.bytes.now) (record { whole = p.whole; first = p.first })

pub returns-in-Ok-Alone-clause-verdict : goal.returns-in-Ok-Alone-clause-verdict
returns-in-Ok-Alone-clause-verdict c =
    let p = c.requires in
    found_alone c.args.limits c.in-Ok-Alone.command (record { whole = p.whole; first = p.first }) (rw c.in-Ok-Alone.field-0-is at c.in-Ok-Alone.ensures)

pub returns-in-Ok-Sized-clause-verdict : goal.returns-in-Ok-Sized-clause-verdict
returns-in-Ok-Sized-clause-verdict c =
    let p = c.requires in
    let bytes = c.args.bytes.now in
    let end = c.args.end in
    let line : HasLine bytes (take end bytes) (drop (end + 1) bytes) = record { whole = p.whole; first = p.first } in
    let long : length (take end bytes) + 1 ≡ end + 1 = simp length-take (omega (arith, p.within)) in
    found_sized c.args.limits bytes (take end bytes) (drop (end + 1) bytes) c.in-Ok-Sized.start line (rw c.in-Ok-Sized.field-0-is at c.in-Ok-Sized.ensures) (end + 1) c.behind_line.result long c.behind_line.ensures.verdict

pub returns-in-Ok-Sized-clause-memory : goal.returns-in-Ok-Sized-clause-memory
returns-in-Ok-Sized-clause-memory c =
    let p = c.requires in
    let bytes = c.args.bytes.now in
    let end = c.args.end in
    let line : HasLine bytes (take end bytes) (drop (end + 1) bytes) = record { whole = p.whole; first = p.first } in
    sized_text c.args.limits bytes (take end bytes) (drop (end + 1) bytes) c.in-Ok-Sized.start line (rw c.in-Ok-Sized.field-0-is at c.in-Ok-Sized.ensures) c.behind_line.result c.behind_line.ensures.memory
