use Rattle.std.proofs.Common.{◌&&◌, not, Bool, sym, ap, ap₂, ◌∙◌, arith}
use Rattle.std.proofs.lemmas.List.{take_all}
use Rattle.nsq_outside.specs.declared.journal.End.{End}
use Rattle.broker_history.specs.declared.entry.Entry.{Entry}
use Rattle.broker_history.specs.Entries.{is_faulted}
use Rattle.drill_parts.specs.Counting.{is_accepting, published_in}
use Rattle.drill_parts.proofs.Picking.{counted, counted_low, skipped}
use Rattle.drill_parts.proofs.counting.published_in.Goals.{then-is_accepting+then-not-is_faulted, else-is_accepting, else-is_accepting-via-then-is_accepting+else-not-is_faulted, else-is_accepting-via-else-is_accepting}
use Rattle.drill_parts.proofs.counting.published_in.Goals as goal

abbrev counts : Entry × End → Bool
counts e = is_accepting e.0.act && not (is_faulted e.1)

pub overflow_add-count : goal.overflow_add-count
overflow_add-count c = omega (arith, counted_low counts c.args.entries.now c.loop-entry.entry-index c.loop-entry.count c.loop-entry-test.true c.loop-entry.invariant)

pub loop-entry-preserved : goal.loop-entry-preserved
loop-entry-preserved c =
    elim c.if-is_accepting.branch [
      | then-is_accepting+then-not-is_faulted w ↦
          counted counts c.args.entries.now c.loop-entry.entry-index c.loop-entry-item.result _ _ c.loop-entry-test.true c.loop-entry-item.is c.loop-entry.invariant
          (ap₂ (λ (a b : Bool). a && not b) (sym w.if-is_accepting.ensures) (sym w.if-not-is_faulted.ensures)) w.count-is
      | else-is_accepting w ↦
          skipped counts c.args.entries.now c.loop-entry.entry-index c.loop-entry-item.result _ _ c.loop-entry-test.true c.loop-entry-item.is c.loop-entry.invariant
          (elim w.else-is_accepting.branch [
            | else-is_accepting-via-then-is_accepting+else-not-is_faulted v ↦ ap₂ (λ (a b : Bool). a && not b) (sym v.if-is_accepting.ensures) (sym v.if-not-is_faulted.ensures)
            | else-is_accepting-via-else-is_accepting v ↦ ap (λ (a : Bool). a && not (is_faulted c.loop-entry-item.result.1)) (sym v.if-is_accepting.ensures)
          ])
          w.count-is
    ]

pub returns : goal.returns
returns c = c.loop-entry.invariant ∙ ap published_in (take_all c.loop-entry.entry-index c.args.entries.now c.loop-entry-test.false)
