use Rattle.std.proofs.Common.{arith, sym, ap, ◌∙◌}
use Rattle.std.proofs.lemmas.Result.{err_from_is_err_and}
use Rattle.v2_frame.specs.Command.{size4}
use Rattle.v2_client.proofs.WritingLemmas.{batch_count, batch_cut, batch_whole, not_err}
use Rattle.v2_client.proofs.write.write_batch.Goals as goal

pub size_bytes-requires-2 : goal.size_bytes-requires-2
size_bytes-requires-2 c = omega (arith, c.requires, c.count-count.ensures, batch_count c.args.bodies.now)

pub returns-in_err-reserve : goal.returns-in_err-reserve
returns-in_err-reserve c =
    let p = err_from_is_err_and c.from_residual.result c.from_residual.ensures.1 in
    rw p.1 (record { named = rw c.bytes-name.ensures.value at c.bytes-name.ensures.is_name; ok = tt; err = c.reserve.ensures.items })

pub returns-in_err-append_all : goal.returns-in_err-append_all
returns-in_err-append_all c =
    let p = err_from_is_err_and c.from_residual-in_err-append_all.result c.from_residual-in_err-append_all.ensures.1 in
    rw p.1 (record { named = rw c.bytes-name.ensures.value at c.bytes-name.ensures.is_name; ok = tt; err = c.in_err-append_all.ensures.err ∙ c.reserve.ensures.items })

pub returns-then-is_err : goal.returns-then-is_err
returns-then-is_err c = record {
  named = rw c.bytes-name.ensures.value at c.bytes-name.ensures.is_name;
  ok = tt;
  err = c.truncate.ensures.items ∙ batch_cut c.append_bodies.result c.args.out.now.items c.reserve.new.self.items c.append_all.new.out.items c.append_bodies.new.out.items _ c.len-before.result c.reserve.ensures.items c.in_ok-append_all.ensures.ok
      (sym c.is_err.ensures.value ∙ c.if-is_err.true) c.append_bodies.ensures.err (omega (arith, c.len-before.ensures, c.args.out.now.ok.0));
}

pub returns : goal.returns
returns c = record {
  named = rw c.bytes-name.ensures.value at c.bytes-name.ensures.is_name;
  ok = batch_whole c.args.out.now.items c.reserve.new.self.items c.append_all.new.out.items c.append_bodies.new.out.items c.bytes-name.result.now c.size_bytes.result c.size_bytes-2.result c.args.topic.now c.args.bodies.now
      c.reserve.ensures.items c.in_ok-append_all.ensures.ok (not_err c.append_bodies.result (sym c.is_err.ensures.value ∙ c.if-is_err.false) c.append_bodies.ensures.ok)
      c.bytes-name.ensures.value (c.size_bytes.ensures ∙ ap size4 c.content_size-size.ensures) (c.size_bytes-2.ensures ∙ ap size4 c.count-count.ensures);
  err = tt;
}
