use Rattle.std.proofs.Common.{◌≡◌, ap, ◌∙◌, ◌++◌}
use Rattle.nsq_base.specs.MsgId.{id_of}
use Rattle.drill_parts.proofs.Lists.{fin_line}
use Rattle.drill_parts.proofs.callers.add_fin.Goals as goal

pub returns : goal.returns
returns c =
    let id : c.make-id.result ≡ id_of 1 c.args.publish.now.number = c.make-id.ensures ∙ ap (id_of 1) c.from.ensures in
    fin_line c.args.bytes.now.items _ _ c.push.new.self.items (id_of 1 c.args.publish.now.number) c.in_ok-extend_from_slice.ensures.items
    (c.in_ok-extend_from_slice-2.ensures.items ∙ ap (λ t. c.extend_from_slice.new.self.items ++ t) (c.bytes.ensures.value ∙ id)) c.in_ok-push.ensures.items
