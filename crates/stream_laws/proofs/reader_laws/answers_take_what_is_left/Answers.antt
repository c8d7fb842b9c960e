use Rattle.v2_frame.proofs.ReadLemmas.{given_less}
use Rattle.stream_laws.proofs.ReadLemmas.{given_left, fault_stays}
use Rattle.stream_laws.proofs.reader_laws.answers_take_what_is_left.Goals as goal

pub returns : goal.returns
returns c = record { left = given_left; less = given_less; stays = fault_stays }
