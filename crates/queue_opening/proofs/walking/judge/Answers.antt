use Rattle.std.proofs.Common.{arith, inl, inr}
use Rattle.queue_opening.proofs.Sizes.{size_out, size_past, size_fits}
use Rattle.queue_opening.proofs.walking.judge.Goals as goal

pub returns-then-size-options-clause-stand : goal.returns-then-size-options-clause-stand
returns-then-size-options-clause-stand c = λ bytes e inside.
    size_out c.args.options.now.least c.args.options.now.limit c.args.size c.args.at c.args.end bytes c.ranges.size.fits c.requires e inside (inl c.if-size-options.true)

pub returns-then-size-options-2-clause-stand : goal.returns-then-size-options-2-clause-stand
returns-then-size-options-2-clause-stand c = λ bytes e inside.
    size_out c.args.options.now.least c.args.options.now.limit c.args.size c.args.at c.args.end bytes c.ranges.size.fits c.requires e inside (inr c.if-size-options-2.true)

pub returns-then-size-end-clause-stand : goal.returns-then-size-end-clause-stand
returns-then-size-end-clause-stand c = λ bytes e inside.
    size_past c.args.options.now.least c.args.options.now.limit c.args.size c.args.at c.args.end bytes c.ranges.size.fits c.requires e inside (omega (arith, c.if-size-end.true, c.requires))

pub returns-clause-stand : goal.returns-clause-stand
returns-clause-stand c = λ bytes e inside.
    size_fits c.args.options.now.least c.args.options.now.limit c.args.size c.args.at c.args.end bytes e inside (c.if-size-options.false, c.if-size-options-2.false) (omega (arith, c.if-size-end.false, c.requires))
