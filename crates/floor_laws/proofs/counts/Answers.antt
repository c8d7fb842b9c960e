use Rattle.floor_laws.proofs.Counting.{counts_alike, tests_alike, none_due, none_sent}
use Rattle.floor_laws.proofs.counts.Goals as goal

pub returns : goal.returns
returns c = record { alike = counts_alike; tests = tests_alike; none_due = none_due; none_sent = none_sent }
