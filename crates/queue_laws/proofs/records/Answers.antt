use Rattle.std.proofs.Common.{sym, ◌∙◌}
use Rattle.queue_image.proofs.RowLemmas.{same_rows, rows_are_whole, same_damage, row_more}
use Rattle.queue_laws.proofs.records.Goals as goal

pub returns : goal.returns
returns c = record {
  unique = λ least limit bytes xs ys small x y. same_rows least limit xs ys small x.sizes y.sizes (sym x.whole ∙ y.whole);
  whole = λ least limit bytes bodies place size small r d. rows_are_whole least limit bodies d.before d.rest size small r.sizes d.sizes (sym r.whole ∙ d.whole) d.damage;
  damage = λ least limit bytes p s q t small x y.
      let h = same_damage least limit x.before y.before x.rest y.rest s t small x.sizes y.sizes (sym x.whole ∙ y.whole) x.damage y.damage in
      (x.stands ∙ h.0 ∙ sym y.stands, h.1);
  grow = row_more;
}
