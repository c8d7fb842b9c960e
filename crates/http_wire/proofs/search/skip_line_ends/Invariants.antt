use Rattle.std.proofs.Common.{length, ◌-◌, ◌≤◌, take}
use Rattle.httparse.specs.Grammar.{AllPass}
use Rattle.http_wire.specs.Head.{is_line_end}
use Rattle.http_wire.proofs.search.skip_line_ends.Given as goal

abbrev pub invariant-loop-begin : goal.invariant-loop-begin
invariant-loop-begin l = record { within : l.begin ≤ length l.bytes; line_ends : AllPass is_line_end (take l.begin l.bytes) }

abbrev pub decreases-loop-begin : goal.decreases-loop-begin
decreases-loop-begin l = length l.bytes - l.begin
