use Rattle.std.proofs.Common.{refl}
use Rattle.path_plain.proofs.Listed.{joins_more}
use Rattle.path_plain.proofs.finding.Listing.add.Goals as goal

pub loop-body-preserved : goal.loop-body-preserved
loop-body-preserved c = record {
  bodies = joins_more c.args.self.now.bodies c.loop-body.yielded c.loop-body.self.bodies c.push.new.self c.in-Some.body c.loop-body.invariant.bodies c.in_ok-push-in-Good.ensures.ok;
  bad = c.loop-body.invariant.bad;
}

pub returns-in_ok-push-in-Bad : goal.returns-in_ok-push-in-Bad
returns-in_ok-push-in-Bad c = rw c.in-Bad.is (refl, c.in_ok-push-in-Bad.ensures.items)
