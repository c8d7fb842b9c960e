use Rattle.std.proofs.Common.{ℕ, ◌+◌, ◌-◌, List, length, take, drop, refl, ap, sym, ◌∙◌, subst, arith, length-drop}
use Rattle.v2_frame.specs.Judging.{IsFault, IsUnfinished}
use Rattle.v2_frame.specs.Parts.{EndsLine, HasSizedText}
use Rattle.v2_frame.proofs.PlaceLemmas.{behind_place}
use Rattle.v2_frame.proofs.ReaderLemmas.{left_open, takes_front, remembers_line, remembers_none}
use Rattle.v2_frame.proofs.reader.Reader.at_line.Goals as goal

pub lined-requires : goal.lined-requires
lined-requires c =
    let i = c.self.inside in
    let slice = behind_place c.deref.result.now i.start ∙ ap (drop i.start) c.deref.ensures.value in
    subst (λ (x : List ℕ). EndsLine x c.args.end) (sym slice) (rw (← c.self.view_is) at c.requires.line)

pub returns-in-Ok-Unfinished : goal.returns-in-Ok-Unfinished
returns-in-Ok-Unfinished c =
    let i = c.self.inside in
    let slice = behind_place c.deref.result.now i.start ∙ ap (drop i.start) c.deref.ensures.value in
    rw (← c.self.view_is) (
      left_open i.stage i.limits i.place (drop i.start i.bytes.items) (rw (← c.self.view_is) at c.requires.stage)
          (subst (λ (x : List ℕ). IsUnfinished i.limits x) slice (rw c.in-Ok-Unfinished.field-0-is at c.in-Ok-Unfinished.ensures.verdict)),
      refl,
    )

pub returns-in-Ok-Whole : goal.returns-in-Ok-Whole
returns-in-Ok-Whole c =
    let i = c.self.inside in
    let bytes = c.deref.result.now in
    let slice = behind_place bytes i.start ∙ ap (drop i.start) c.deref.ensures.value in
    let pending = take (length bytes - i.start) (drop i.start bytes) in
    rw (← c.self.view_is) (takes_front i.limits i.stage i.place c.told_place-self-inside.result c.in-Ok-Whole.taken i.start pending i.bytes.items c.in-Ok-Whole.command (rw (← c.self.view_is) at c.requires.stage) slice
    (rw c.in-Ok-Whole.field-0-is at c.in-Ok-Whole.ensures.verdict) (rw c.in-Ok-Whole.field-0-is at c.in-Ok-Whole.ensures.taken)
    (omega (arith, c.told_place-self-inside.ensures, c.saturating_add.ensures)))

pub returns-in-Err : goal.returns-in-Err
returns-in-Err c =
    let i = c.self.inside in
    let slice = behind_place c.deref.result.now i.start ∙ ap (drop i.start) c.deref.ensures.value in
    rw (← c.self.view_is) (rw (← c.self.view_is) at c.requires.stage, subst (λ (x : List ℕ). HasSizedText i.limits x) slice c.in-Err.ensures.memory, refl)

pub fail_at-requires-clause-fault : goal.fail_at-requires-clause-fault
fail_at-requires-clause-fault c =
    let i = c.self.inside in
    let slice = behind_place c.deref.result.now i.start ∙ ap (drop i.start) c.deref.ensures.value in
    rw (← c.self.view_is) (subst (λ (x : List ℕ). IsFault i.limits x c.in-Ok-Faulty.kind c.in-Ok-Faulty.at) slice (rw c.in-Ok-Faulty.field-0-is at c.in-Ok-Faulty.ensures.verdict))

pub needed_behind-self-inside-requires : goal.needed_behind-self-inside-requires
needed_behind-self-inside-requires c =
    let i = c.self.inside in
    let slice = behind_place c.deref.result.now i.start ∙ ap (drop i.start) c.deref.ensures.value in
    subst (λ (x : List ℕ). EndsLine x c.args.end) (sym slice) (rw (← c.self.view_is) at c.requires.line)

pub invariant_of-self : goal.invariant_of-self
invariant_of-self c =
    let i = c.self.inside in
    let slice = behind_place c.deref.result.now i.start ∙ ap (drop i.start) c.deref.ensures.value in
    remembers_line i.limits i.bytes.items _ i.start c.args.end c.needed_behind-self-inside.result slice c.self.invariant.done (subst (λ (x : List ℕ). EndsLine x c.args.end) (sym slice) (rw (← c.self.view_is) at c.requires.line))
    (rw c.in-Ok-Unfinished.field-0-is at c.in-Ok-Unfinished.ensures.verdict) c.needed_behind-self-inside.ensures

pub invariant_of-self-in-Ok-Whole : goal.invariant_of-self-in-Ok-Whole
invariant_of-self-in-Ok-Whole c =
    let i = c.self.inside in
    let slice = behind_place c.deref.result.now i.start ∙ ap (drop i.start) c.deref.ensures.value in
    let some = rw c.in-Ok-Whole.field-0-is at c.in-Ok-Whole.ensures.taken in
    remembers_none i.limits i.bytes.items (i.start + c.in-Ok-Whole.taken) (omega (arith, some.1, ap length slice, length-drop i.start i.bytes.items, c.self.invariant.done))
