use Rattle.std.proofs.Common.{refl, ◌∙◌}
use Rattle.nsq_fakes.proofs.host.MemHost.new.Goals as goal

pub returns-clause-content : goal.returns-clause-content
returns-clause-content g c =
    rw (c.new-2.ensures.items, c.from.ensures.0, c.new-3.ensures.items, c.new-4.ensures.items, c.new-5.ensures.items, c.new-6.ensures.items) refl

pub returns-clause-dials : goal.returns-clause-dials
returns-clause-dials g c = c.new.ensures.dials

pub returns-clause-dial_faults : goal.returns-clause-dial_faults
returns-clause-dial_faults g c = c.new.ensures.no_fault

pub returns-clause-callers : goal.returns-clause-callers
returns-clause-callers g c = c.from.ensures.0

pub returns-clause-to_link : goal.returns-clause-to_link
returns-clause-to_link g c = c.new.ensures.coming

pub returns-clause-state : goal.returns-clause-state
returns-clause-state g c = rw (c.new-8.ensures.no_fault, c.new-10.ensures.no_fault, c.new-12.ensures.no_fault) refl

pub returns-clause-fails : goal.returns-clause-fails
returns-clause-fails g c =
    record {
      at_accepts = (c.new-8.ensures.fails.0 ∙ c.new-7.ensures.items, c.new-8.ensures.fails.1);
      at_prints = (c.new-10.ensures.fails.0 ∙ c.new-9.ensures.items, c.new-10.ensures.fails.1);
      at_tells = (c.new-12.ensures.fails.0 ∙ c.new-11.ensures.items, c.new-12.ensures.fails.1);
    }
