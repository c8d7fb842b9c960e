use Rattle.std.proofs.Common.{true, string_bytes, subst}
use Rattle.nsq_system.specs.KnownNames.{SetsName}
use Rattle.nsq_system.proofs.KnownTexts.{sets-name}
use Rattle.nsq_system.proofs.known_names.add_to.Goals as goal

pub returns-in_ok-insert : goal.returns-in_ok-insert
returns-in_ok-insert c =
    subst (λ name. SetsName c.args.names.now c.insert.new.self name true) c.in_ok-from_str.ensures.ok (sets-name (string_bytes c.in_ok-from_str.field-0) c.args.names.now c.insert.new.self true c.in_ok-insert.ensures.updates)
