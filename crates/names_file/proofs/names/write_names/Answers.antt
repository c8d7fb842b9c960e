use Rattle.std.proofs.Common.{rules, sym, ◌∙◌}
use Rattle.names_file.proofs.Keeping.{text_keeps}
use Rattle.names_file.proofs.NameTexts.{names_whole, then_more, not_err, refused, cut_back}
use Rattle.names_file.proofs.names.write_names.Goals as goal

pub returns-clause-ok : goal.returns-clause-ok
returns-clause-ok c =
    names_whole c.args.epoch c.args.topics.now c.args.out.now.items c.append_all.new.out.items c.write_list.new.out.items c.append_all-2.new.out.items c.as_bytes-epoch.result.now
    c.in_ok-append_all.ensures.ok (not_err c.write_list.result (sym c.is_err.ensures.value ∙ c.if-is_err.false) c.write_list.ensures.ok)
    (not_err c.append_all-2.result (sym c.is_err-2.ensures.value ∙ c.if-is_err-2.false) c.append_all-2.ensures.ok)
    (c.as_bytes-epoch.ensures.value ∙ c.format.ensures.text)

pub returns-clause-keeps : goal.returns-clause-keeps
returns-clause-keeps c = text_keeps c.args.epoch c.args.topics.now

pub returns-in_err-append_all-clause-keeps : goal.returns-in_err-append_all-clause-keeps
returns-in_err-append_all-clause-keeps c = text_keeps c.args.epoch c.args.topics.now

pub returns-then-is_err-clause-keeps : goal.returns-then-is_err-clause-keeps
returns-then-is_err-clause-keeps c = text_keeps c.args.epoch c.args.topics.now

pub returns-then-is_err-2-clause-keeps : goal.returns-then-is_err-2-clause-keeps
returns-then-is_err-2-clause-keeps c = text_keeps c.args.epoch c.args.topics.now

pub returns-then-is_err-clause-err : goal.returns-then-is_err-clause-err
returns-then-is_err-clause-err c =
    c.truncate.ensures.items
    ∙ cut_back c.args.out.now.items c.write_list.new.out.items _ _ (search rules)
    (refused c.write_list.result (sym c.is_err.ensures.value ∙ c.if-is_err.true) c.write_list.ensures.err ∙ c.in_ok-append_all.ensures.ok)

pub returns-then-is_err-2-clause-err : goal.returns-then-is_err-2-clause-err
returns-then-is_err-2-clause-err c =
    c.truncate-then-is_err-2.ensures.items
    ∙ cut_back c.args.out.now.items c.append_all-2.new.out.items _ _ (search rules)
    (refused c.append_all-2.result (sym c.is_err-2.ensures.value ∙ c.if-is_err-2.true) c.append_all-2.ensures.err
    ∙ then_more c.args.out.now.items c.append_all.new.out.items c.write_list.new.out.items _ _ (not_err c.write_list.result (sym c.is_err.ensures.value ∙ c.if-is_err.false) c.write_list.ensures.ok)
    c.in_ok-append_all.ensures.ok)
