use Rattle.std.proofs.Common.{◌≡◌, ◌++◌, flat_map, take}
use Rattle.http_wire.proofs.append.put_all.Given as goal

-- the parts so far stand behind what was there
abbrev pub invariant-parts : goal.invariant-parts
invariant-parts l = l.out.items ≡ l.initial.out.items ++ flat_map (λ part. part.now) (take l.part-index l.parts)
