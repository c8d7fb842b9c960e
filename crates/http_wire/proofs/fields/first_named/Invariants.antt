use Rattle.std.proofs.Common.{◌≡◌, map, drop}
use Rattle.httparse.specs.Spans.{header_bytes}
use Rattle.http_wire.specs.Fields.{values_of}
use Rattle.http_wire.proofs.fields.first_named.Given as goal

abbrev pub invariant-loop-place : goal.invariant-loop-place
invariant-loop-place l = values_of l.name (map (header_bytes l.head) l.fields) ≡ values_of l.name (drop l.place (map (header_bytes l.head) l.fields))
