use Rattle.std.proofs.Common.{List, ℕ, sym, subst}
use Rattle.http_wire.specs.Remembering.{Remembers}
use Rattle.http_wire.proofs.FindLemmas.{remembers_more}
use Rattle.http_wire.proofs.reader.RequestReader.feed.Goals as goal

pub invariant_of-self-2 : goal.invariant_of-self-2
invariant_of-self-2 c =
    let i = c.self.inside in
    subst (λ (x : List ℕ). Remembers i.limit x i.search i.needed) (sym c.in_ok-extend_from_slice.ensures.items) (remembers_more i.limit i.bytes.items c.args.piece.now i.search i.needed c.self.invariant)
