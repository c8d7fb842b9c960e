use Rattle.std.proofs.Common.{refl}
use Rattle.nsqd_words.proofs.options.put_texts.Goals as goal

pub returns : goal.returns
returns c = record {
  tcp_address = c.in_ok-put_text.ensures;
  http_address = c.in_ok-put_text-2.ensures;
  broadcast_address = c.in_ok-put_text-3.ensures;
  data_path = c.in_ok-put_text-4.ensures;
  lookupd_tcp_address = refl;
}
