use Rattle.std.proofs.lemmas.Result.{on_ok_weaker}
use Rattle.v2_client.proofs.FrameRowLemmas.{given_fed}
use Rattle.v2_client.proofs.frame_reader.FrameReader.feed.Goals as goal

pub returns-clause-fed : goal.returns-clause-fed
returns-clause-fed c = on_ok_weaker c.keep.result (given_fed c.args.self.now _ c.args.piece.now) c.keep.ensures.ok
