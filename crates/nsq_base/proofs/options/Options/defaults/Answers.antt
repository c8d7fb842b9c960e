use Rattle.nsq_base.proofs.Defaults.{IsInRange-default_options}
use Rattle.nsq_base.proofs.options.Options.defaults.Goals as goal

pub returns-clause-in_range : goal.returns-clause-in_range
returns-clause-in_range c =
    rw (c.in_ok-copy.ensures, c.in_ok-copy-2.ensures, c.in_ok-copy-3.ensures, c.new.ensures, c.in_ok-copy-4.ensures) IsInRange-default_options
