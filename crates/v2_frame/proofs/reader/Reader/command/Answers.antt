use Rattle.std.proofs.Common.{ℕ, List, length, drop, refl, ap, ◌∙◌, subst, arith}
use Rattle.v2_frame.specs.Judging.{IsUnfinished}
use Rattle.v2_frame.specs.Parts.{EndsLine}
use Rattle.v2_frame.proofs.PlaceLemmas.{behind_place}
use Rattle.v2_frame.proofs.ReaderLemmas.{left_open, waited, open_few, endless}
use Rattle.v2_frame.proofs.reader.Reader.command.Goals as goal

pub returns-then-pending-self : goal.returns-then-pending-self
returns-then-pending-self c =
    let i = c.self.inside in
    let few = ap length (behind_place c.deref.result.now i.start ∙ ap (drop i.start) c.deref.ensures.value) in
    rw (← c.self.view_is) (
      left_open i.stage i.limits i.place (drop i.start i.bytes.items) (rw (← c.self.view_is) at c.requires)
          (waited i.limits (drop i.start i.bytes.items) i.needed c.self.invariant.waits (omega (arith, few, c.if-pending-self.true))),
      refl,
    )

pub returns-then-pending-lt-TOO_LONG_LINE : goal.returns-then-pending-lt-TOO_LONG_LINE
returns-then-pending-lt-TOO_LONG_LINE c =
    let i = c.self.inside in
    let slice = behind_place c.deref.result.now i.start ∙ ap (drop i.start) c.deref.ensures.value in
    rw (← c.self.view_is) (
      left_open i.stage i.limits i.place (drop i.start i.bytes.items) (rw (← c.self.view_is) at c.requires)
          (subst (λ (x : List ℕ). IsUnfinished i.limits x) slice (open_few i.limits c.in_default.ensures c.if-pending-lt-TOO_LONG_LINE.true)),
      refl,
    )

pub fail_at-requires-clause-fault : goal.fail_at-requires-clause-fault
fail_at-requires-clause-fault c =
    let i = c.self.inside in
    let slice = behind_place c.deref.result.now i.start ∙ ap (drop i.start) c.deref.ensures.value in
    rw (← c.self.view_is) (endless i.limits (drop i.start i.bytes.items) _ slice c.in_default.ensures c.if-pending-lt-TOO_LONG_LINE.false)

pub at_line-requires-clause-line : goal.at_line-requires-clause-line
at_line-requires-clause-line c =
    let i = c.self.inside in
    let slice = behind_place c.deref.result.now i.start ∙ ap (drop i.start) c.deref.ensures.value in
    rw (← c.self.view_is) (subst (λ (x : List ℕ). EndsLine x c.in-Some.end) slice c.in-Some.ensures)
