use Rattle.std.proofs.Common.{rules, List, ℕ, ◌+◌, ◌++◌, arith, ap, sym, ◌∙◌, false, take}
use Rattle.names_file.specs.Texts.{items_text, comma_if}
use Rattle.names_file.proofs.NameTexts.{items_next, then_more, not_err, refused, cut_back, list_whole, positive}
use Rattle.names_file.proofs.names.write_list.Goals as goal

pub items-preserved : goal.items-preserved
items-preserved g c =
    let text = g.T.Item.text in
    let item = c.item-item.result in
    let added = not_err c.write.result (sym c.is_err.ensures.value ∙ c.if-is_err.false) c.write.ensures.ok in
    record {
      appended =
          then_more c.append_all.new.out.items c.items.out.items c.write.new.out.items (items_text text false (take c.items.item-index c.args.items.now)) (comma_if c.items.later ++ text item) added c.items.invariant.appended
          ∙ ap (λ (x : List ℕ). c.append_all.new.out.items ++ x) (sym (items_next text c.args.items.now c.items.item-index item c.items.later c.items-test.true c.item-item.is c.items.invariant.commas));
      commas = sym (positive (c.items.item-index + 1) (omega arith));
    }

pub returns-clause-ok : goal.returns-clause-ok
returns-clause-ok g c =
    list_whole g.T.Item.text c.args.items.now c.items.item-index c.args.out.now.items c.append_all.new.out.items c.items.out.items c.append_all-2.new.out.items c.args.start.now (omega (arith, c.items-test.false))
    c.in_ok-append_all.ensures.ok c.items.invariant.appended (not_err c.append_all-2.result (sym c.is_err-2.ensures.value ∙ c.if-is_err-2.false) c.append_all-2.ensures.ok)

pub returns-then-is_err-clause-err : goal.returns-then-is_err-clause-err
returns-then-is_err-clause-err g c =
    c.truncate.ensures.items
    ∙ cut_back c.args.out.now.items c.write.new.out.items _ _ (search rules)
    (refused c.write.result (sym c.is_err.ensures.value ∙ c.if-is_err.true) c.write.ensures.err
    ∙ then_more c.args.out.now.items c.append_all.new.out.items c.items.out.items _ _ c.items.invariant.appended c.in_ok-append_all.ensures.ok)

pub returns-then-is_err-2-clause-err : goal.returns-then-is_err-2-clause-err
returns-then-is_err-2-clause-err g c =
    c.truncate-then-is_err-2.ensures.items
    ∙ cut_back c.args.out.now.items c.append_all-2.new.out.items _ _ (search rules)
    (refused c.append_all-2.result (sym c.is_err-2.ensures.value ∙ c.if-is_err-2.true) c.append_all-2.ensures.err
    ∙ then_more c.args.out.now.items c.append_all.new.out.items c.items.out.items _ _ c.items.invariant.appended c.in_ok-append_all.ensures.ok)
