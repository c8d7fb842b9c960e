use Rattle.std.proofs.Common.{◌≡◌, true, false, [], length, sym, ap, refl}
use Rattle.std.proofs.lemmas.Bool.{eqb-false, eqb-true}
use Rattle.std.proofs.lemmas.List.{nil_from_length}
use Rattle.std.specs.Str.Parse.{digits_value}
use Rattle.queue_image.proofs.MetaParts.{after_depth, after_read_file, after_read_at, after_write_file, after_write_at, read_file_leads, read_at_leads, write_file_leads, write_at_leads, meta_from, same_order, tail2, tail3, tail4}
use Rattle.queue_image.proofs.metadata.read_meta.Goals as goal

pub returns-in_err-read_file : goal.returns-in_err-read_file
returns-in_err-read_file c =
    rw c.from_residual-in_err-read_file.ensures
    (λ meta i. c.in_err-read_file.ensures meta.positions.read_file (tail2 _ meta i) (read_file_leads _ meta i _ (after_depth _ meta i _ _ c.in_ok-depth.ensures)))

pub returns-in_err-read_at : goal.returns-in_err-read_at
returns-in_err-read_at c =
    rw c.from_residual-in_err-read_at.ensures
    (λ meta i. let text = c.args.text.now in
    let h1 = after_depth text meta i _ _ c.in_ok-depth.ensures in
    let h2 = after_read_file text meta i _ _ _ h1 c.in_ok-read_file.ensures in
    c.in_err-read_at.ensures meta.positions.read_at (tail3 text meta i) (read_at_leads text meta i _ h2.1))

pub returns-in_err-write_file : goal.returns-in_err-write_file
returns-in_err-write_file c =
    rw c.from_residual-in_err-write_file.ensures
    (λ meta i. let text = c.args.text.now in
    let h1 = after_depth text meta i _ _ c.in_ok-depth.ensures in
    let h2 = after_read_file text meta i _ _ _ h1 c.in_ok-read_file.ensures in
    let h3 = after_read_at text meta i _ _ _ h2.1 c.in_ok-read_at.ensures in
    c.in_err-write_file.ensures meta.positions.write_file (tail4 text meta i) (write_file_leads text meta i _ h3.1))

pub returns-in_err-write_at : goal.returns-in_err-write_at
returns-in_err-write_at c =
    rw c.from_residual-in_err-write_at.ensures
    (λ meta i. let text = c.args.text.now in
    let h1 = after_depth text meta i _ _ c.in_ok-depth.ensures in
    let h2 = after_read_file text meta i _ _ _ h1 c.in_ok-read_file.ensures in
    let h3 = after_read_at text meta i _ _ _ h2.1 c.in_ok-read_at.ensures in
    let h4 = after_write_file text meta i _ _ _ h3.1 c.in_ok-write_file.ensures in
    c.in_err-write_at.ensures meta.positions.write_at [] (write_at_leads text meta i _ h4.1))

pub returns-then-not-is_empty : goal.returns-then-not-is_empty
returns-then-not-is_empty c = λ meta i.
    let text = c.args.text.now in
    let h1 = after_depth text meta i _ _ c.in_ok-depth.ensures in
    let h2 = after_read_file text meta i _ _ _ h1 c.in_ok-read_file.ensures in
    let h3 = after_read_at text meta i _ _ _ h2.1 c.in_ok-read_at.ensures in
    let h4 = after_write_file text meta i _ _ _ h3.1 c.in_ok-write_file.ensures in
    let h5 = after_write_at text meta i _ _ _ h4.1 c.in_ok-write_at.ensures in
    eqb-false (length c.in_ok-write_at.write_at.rest.now) 0 (sym c.if-not-is_empty.ensures) (ap length h5.1)

pub returns-then-not-in_order : goal.returns-then-not-in_order
returns-then-not-in_order c = λ meta i.
    let text = c.args.text.now in
    let h1 = after_depth text meta i _ _ c.in_ok-depth.ensures in
    let h2 = after_read_file text meta i _ _ _ h1 c.in_ok-read_file.ensures in
    let h3 = after_read_at text meta i _ _ _ h2.1 c.in_ok-read_at.ensures in
    let h4 = after_write_file text meta i _ _ _ h3.1 c.in_ok-write_file.ensures in
    let h5 = after_write_at text meta i _ _ _ h4.1 c.in_ok-write_at.ensures in
    let bad : false ≡ true = c.if-not-in_order.ensures.1 (same_order meta.positions _ (sym h2.0) (sym h3.0) (sym h4.0) (sym h5.0) i.ordered) in
    cc

pub returns : goal.returns
returns c = (
  digits_value 10 c.in_ok-depth.depth.digits.now,
  meta_from c.args.text.now _ _ _ _ _ _ _ c.in_ok-depth.ensures c.in_ok-read_file.ensures c.in_ok-read_at.ensures c.in_ok-write_file.ensures c.in_ok-write_at.ensures
      (nil_from_length c.in_ok-write_at.write_at.rest.now (eqb-true (length c.in_ok-write_at.write_at.rest.now) 0 (sym c.if-not-is_empty.ensures))) (c.if-not-in_order.ensures.0 refl),
)
