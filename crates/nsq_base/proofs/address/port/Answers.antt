use Rattle.std.proofs.Common.{ap, sym, ◌∙◌}
use Rattle.std.specs.Str.Parse.{digits_value}
use Rattle.std.proofs.lemmas.List.{take_rest}
use Rattle.nsq_base.proofs.Addresses.{due, value_due, port_at_end, port_digits_are}
use Rattle.nsq_base.proofs.address.port.Goals as goal

pub unwrap-requires : goal.unwrap-requires
unwrap-requires c =
    (due _ c.read_port.result _ c.read_port.ensures).1 (rw (take_rest c.args.text.now c.digits_start.result) (port_at_end _ _ c.requires c.digits_start.ensures))

pub returns : goal.returns
returns c =
    value_due _ c.read_port.result _ c.unwrap.result c.read_port.ensures c.unwrap.ensures ∙ ap (digits_value 10) (take_rest c.args.text.now c.digits_start.result ∙ sym (port_digits_are _ _ c.requires c.digits_start.ensures))
