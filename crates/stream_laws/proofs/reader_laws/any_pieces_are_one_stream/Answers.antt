use Rattle.std.proofs.Common.{refl}
use Rattle.v2_frame.proofs.ReadLemmas.{fed_limits, given_limits}
use Rattle.stream_laws.proofs.ReadLemmas.{fed_read, given_read, read_script}
use Rattle.stream_laws.proofs.reader_laws.any_pieces_are_one_stream.Goals as goal

pub returns : goal.returns
returns c = record {
  fresh = λ limits. (refl, refl);
  fed = fed_read;
  given = λ old new got bytes commands g h. given_read old new got bytes commands g h;
  script = read_script;
  limits = record { fed = fed_limits; given = given_limits };
}
