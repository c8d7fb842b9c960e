use Rattle.std.proofs.Common.{ap, ◌∙◌}
use Rattle.std.proofs.lemmas.Result.{err_from_is_err_and}
use Rattle.v2_frame.specs.Reading.{Reading, fed}
use Rattle.v2_frame.proofs.FeedingLemmas.{IsSame, fed_failed, same_whole, same_dropped, remembers_more, remembers_as, fed_nothing, fed_more}
use Rattle.v2_frame.proofs.reader.Reader.feed.Goals.{then-self-len, else-self-len}
use Rattle.v2_frame.proofs.reader.Reader.feed.Goals as goal

pub returns-in-Failed : goal.returns-in-Failed
returns-in-Failed c = rw (← c.self.view_is) (fed_failed _ c.args.piece.now _ c.in-Failed.is)

pub returns-in_err-extend_from_slice : goal.returns-in_err-extend_from_slice
returns-in_err-extend_from_slice c =
    let i = c.self.inside in
    let j = c.if-self-len.self-inside in
    let same : IsSame i j = elim c.if-self-len.branch [
      | then-self-len w ↦ rw w.self-inside-is (same_dropped i w.drop_front.new.bytes c.self.invariant w.drop_front.ensures)
      | else-self-len w ↦ rw w.self-inside-is (same_whole i c.self.invariant)
    ] in
    let p = err_from_is_err_and c.from_residual.result c.from_residual.ensures.1 in
    rw p.1 (fed_nothing i j _ same c.in_err-extend_from_slice.ensures.items ∙ c.self.view_is)

pub returns : goal.returns
returns c =
    let i = c.self.inside in
    let j = c.if-self-len.self-inside in
    let same : IsSame i j = elim c.if-self-len.branch [
      | then-self-len w ↦ rw w.self-inside-is (same_dropped i w.drop_front.new.bytes c.self.invariant w.drop_front.ensures)
      | else-self-len w ↦ rw w.self-inside-is (same_whole i c.self.invariant)
    ] in
    fed_more i j _ c.args.piece.now same c.in_default.not-Failed c.in_ok-extend_from_slice.ensures.items ∙ ap (λ (r : Reading). fed r.stage r c.args.piece.now) c.self.view_is

pub invariant_of-self : goal.invariant_of-self
invariant_of-self c =
    let i = c.self.inside in
    let j = c.if-self-len.self-inside in
    let same : IsSame i j = elim c.if-self-len.branch [
      | then-self-len w ↦ rw w.self-inside-is (same_dropped i w.drop_front.new.bytes c.self.invariant w.drop_front.ensures)
      | else-self-len w ↦ rw w.self-inside-is (same_whole i c.self.invariant)
    ] in
    remembers_as j.limits j.bytes.items _ j.start j.scanned j.needed same.remembers c.in_err-extend_from_slice.ensures.items

pub invariant_of-self-2 : goal.invariant_of-self-2
invariant_of-self-2 c =
    let i = c.self.inside in
    let j = c.if-self-len.self-inside in
    let same : IsSame i j = elim c.if-self-len.branch [
      | then-self-len w ↦ rw w.self-inside-is (same_dropped i w.drop_front.new.bytes c.self.invariant w.drop_front.ensures)
      | else-self-len w ↦ rw w.self-inside-is (same_whole i c.self.invariant)
    ] in
    remembers_more j.limits j.bytes.items c.args.piece.now _ j.start j.scanned j.needed same.remembers c.in_ok-extend_from_slice.ensures.items
