use Rattle.nsq_fakes.proofs.PassedBytes.{drop-bytes_to_come}
use Rattle.nsq_fakes.proofs.script.Script.pass.Goals as goal

pub returns-then-count-left-clause-bytes : goal.returns-then-count-left-clause-bytes
returns-then-count-left-clause-bytes c =
    drop-bytes_to_come c.args.self.now.pieces.items c.args.self.now.offset c.args.count c.requires.there
