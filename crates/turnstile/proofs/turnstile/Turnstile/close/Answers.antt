use Rattle.std.proofs.Common.{ap, ◌∙◌}
use mathlib.Core.Option.{some}
use Rattle.turnstile.proofs.Keeps.{never_empty, closes}
use Rattle.turnstile.proofs.turnstile.Turnstile.close.Goals as goal

pub unreachable-requires : goal.unreachable-requires
unreachable-requires g c = never_empty _ _ _ _ _ _ _ _ c.args.pass.is_live c.requires.away c.requires.last c.close_with-closed.ensures.values.2 (c.take.ensures.value ∙ ap some c.in_default.is)

pub returns-clause-list : goal.returns-clause-list
returns-clause-list g c = rw c.into_inner.ensures (closes _ _ _ _ _ _ _ _ c.in-Some.value c.args.pass.is_live c.requires.away c.requires.last c.close_with-closed.ensures.values.2 (c.take.ensures.value ∙ ap some c.in-Some.is)).its_list

pub returns-clause-descends : goal.returns-clause-descends
returns-clause-descends g c = rw c.into_inner.ensures (closes _ _ _ _ _ _ _ _ c.in-Some.value c.args.pass.is_live c.requires.away c.requires.last c.close_with-closed.ensures.values.2 (c.take.ensures.value ∙ ap some c.in-Some.is)).fits_root

pub returns-clause-kept : goal.returns-clause-kept
returns-clause-kept g c = rw c.into_inner.ensures (closes _ _ _ _ _ _ _ _ c.in-Some.value c.args.pass.is_live c.requires.away c.requires.last c.close_with-closed.ensures.values.2 (c.take.ensures.value ∙ ap some c.in-Some.is)).keeps

pub returns-clause-named : goal.returns-clause-named
returns-clause-named g c = rw c.into_inner.ensures (closes _ _ _ _ _ _ _ _ c.in-Some.value c.args.pass.is_live c.requires.away c.requires.last c.close_with-closed.ensures.values.2 (c.take.ensures.value ∙ ap some c.in-Some.is)).names
