use Rattle.history_laws.proofs.Stepping.{copies_on}
use Rattle.history_laws.proofs.Credits.{sent_within}
use Rattle.history_laws.proofs.copies.Goals as goal

pub returns : goal.returns
returns c = record { one_place = copies_on; credit = sent_within }
