use Rattle.std.proofs.Common.{◌∙◌, refl, sym, subst, take, le_refl, le_trans, rules, Some}
use Rattle.broker_history.specs.Entries.{has_stop, own}
use Rattle.broker_history.specs.Calls.{AreAllowed}
use Rattle.daemon_callers.proofs.Talking.{moved, fed_talk, nothing_talk, talk_waits}
use Rattle.daemon_callers.proofs.Turning.{memory_over, fed_front, fed_same, read_stream, same_stream}
use Rattle.daemon_callers.proofs.Warning.{warned_since}
use Rattle.daemon_callers.proofs.Causing.{fed_keeps, memory_cause, round_cause}
use Rattle.daemon_callers.proofs.Lending.{lent_whole, lent_room, lent_within, took_some, took_few, rose_since}
use Rattle.daemon_callers.proofs.v2.round.round.Goals as goal

pub returns-in-Some : goal.returns-in-Some
returns-in-Some g c =
    let sent = c.in-Some.ensures in
    record {
      talk = λ limits told i. sent.talk limits c.args.reader.now told i;
      here = sent.here;
      limits = refl;
      warned = sent.warned;
      cause = round_cause (Some c.in-Some.ended) _ _ _ _ _ _ (le_refl _) sent.cause;
      stream = λ told. same_stream (g.K.Source.pieces c.args.conn.now) (g.K.Source.pieces c.pushes.new.conn) (g.K.Source.left c.args.conn.now) (g.K.Source.left c.pushes.new.conn) sent.pieces sent.left;
      read_faults = sent.read_faults;
      write_faults = sent.write_faults;
      number = sent.number;
      wanted = sent.wanted;
      leads = sent.leads;
    }

pub returns-then-is_err : goal.returns-then-is_err
returns-then-is_err g c =
    let sent = c.in-None.ensures in
    let up = c.give_up.ensures in
    let into = c.get.new.into in
    let piece = take c.in-Got.count into in
    record {
      talk = λ limits told i.
          let some = took_some c.in-Got.count _ into c.in-Got.ensures.amount.0 c.in-Got.ensures.amount.1 c.get.auto.into in
          let few = took_few c.in-Got.count _ into c.get.auto.into (c.deref_mut.ensures.len ∙ c.args.buffers.now.piece.ok.0 ∙ c.args.buffers.now.whole) in
          let now = moved limits (c.in-Got.ensures.told told.0).0 refl c.get.ensures.written refl (fed_talk limits (g.K.Source.pieces c.pushes.new.conn) (own c.args.number (g.D.Desk.seen c.pushes.new.desk)) (g.K.Sink.written c.pushes.new.conn) c.args.reader.now piece (sent.talk limits c.args.reader.now told i) some few) in
          memory_over limits (has_stop (g.D.Desk.seen c.pushes.new.desk)) c.give_up.result now up.pieces (up.told told.1) up.memory;
      here = sent.here;
      limits = fed_keeps c.args.reader.now _ c.feed.result c.feed.new.self c.feed.ensures;
      warned = λ written. warned_since (Some c.give_up.result) (g.K.Sink.written c.give_up.new.conn) (g.K.Sink.write_faults c.args.conn.now) (g.K.Sink.write_faults c.get.new.conn) (g.K.Sink.write_faults c.give_up.new.conn) (le_trans sent.write_faults c.get.ensures.write_faults) (up.warned written);
      cause = round_cause (Some c.give_up.result) _ _ _ _ _ _ (le_refl _) (memory_cause c.give_up.result _ _ up.memory);
      stream = λ told.
          let reads = c.in-Got.ensures.told told in
          same_stream (g.K.Source.pieces c.get.new.conn) (g.K.Source.pieces c.give_up.new.conn) (g.K.Source.left c.get.new.conn) (g.K.Source.left c.give_up.new.conn) up.pieces up.left ∙ read_stream (g.K.Source.pieces c.pushes.new.conn) (g.K.Source.pieces c.get.new.conn) (g.K.Source.left c.pushes.new.conn) (g.K.Source.left c.get.new.conn) piece reads.0 reads.1 ∙ same_stream (g.K.Source.pieces c.args.conn.now) (g.K.Source.pieces c.pushes.new.conn) (g.K.Source.left c.args.conn.now) (g.K.Source.left c.pushes.new.conn) sent.pieces sent.left;
      read_faults = le_trans (le_trans sent.read_faults c.get.ensures.faults) c.give_up.ensures.read_faults;
      write_faults = le_trans (le_trans sent.write_faults c.get.ensures.write_faults) c.give_up.ensures.write_faults;
      number = sent.number;
      wanted = sent.wanted;
      leads = sent.leads;
    }

pub returns-else-is_err : goal.returns-else-is_err
returns-else-is_err g c =
    let sent = c.in-None.ensures in
    let did = c.commands.ensures in
    let into = c.get.new.into in
    let piece = take c.in-Got.count into in
    let fed = fed_front c.args.reader.now c.args.buffers.now.piece.len _ into _ c.in-Got.count c.feed.result c.feed.new.self c.deref.ensures.value (c.get.auto.into ∙ c.deref_mut.ensures.len) c.feed.ensures (sym c.is_err.ensures.value ∙ c.if-is_err.false) in
    record {
      talk = λ limits told i.
          let some = took_some c.in-Got.count _ into c.in-Got.ensures.amount.0 c.in-Got.ensures.amount.1 c.get.auto.into in
          let few = took_few c.in-Got.count _ into c.get.auto.into (c.deref_mut.ensures.len ∙ c.args.buffers.now.piece.ok.0 ∙ c.args.buffers.now.whole) in
          did.talk limits told (moved limits (c.in-Got.ensures.told told.0).0 refl c.get.ensures.written fed (fed_talk limits (g.K.Source.pieces c.pushes.new.conn) (own c.args.number (g.D.Desk.seen c.pushes.new.desk)) (g.K.Sink.written c.pushes.new.conn) c.args.reader.now piece (sent.talk limits c.args.reader.now told i) some few));
      here = did.here;
      limits = did.limits ∙ fed_same c.args.reader.now c.feed.new.self piece fed;
      warned = λ written. warned_since c.commands.result (g.K.Sink.written c.commands.new.conn) (g.K.Sink.write_faults c.args.conn.now) (g.K.Sink.write_faults c.get.new.conn) (g.K.Sink.write_faults c.commands.new.conn) (le_trans sent.write_faults c.get.ensures.write_faults) (did.warned written);
      cause = round_cause c.commands.result (g.K.Source.ended c.commands.new.conn) (g.K.Source.read_faults c.args.conn.now) (g.K.Source.read_faults c.commands.new.conn) (g.K.Sink.write_faults c.args.conn.now) (g.K.Sink.write_faults c.get.new.conn) (g.K.Sink.write_faults c.commands.new.conn) (le_trans sent.write_faults c.get.ensures.write_faults) did.cause;
      stream = λ told.
          let reads = c.in-Got.ensures.told told in
          same_stream (g.K.Source.pieces c.get.new.conn) (g.K.Source.pieces c.commands.new.conn) (g.K.Source.left c.get.new.conn) (g.K.Source.left c.commands.new.conn) did.pieces did.left ∙ read_stream (g.K.Source.pieces c.pushes.new.conn) (g.K.Source.pieces c.get.new.conn) (g.K.Source.left c.pushes.new.conn) (g.K.Source.left c.get.new.conn) piece reads.0 reads.1 ∙ same_stream (g.K.Source.pieces c.args.conn.now) (g.K.Source.pieces c.pushes.new.conn) (g.K.Source.left c.args.conn.now) (g.K.Source.left c.pushes.new.conn) sent.pieces sent.left;
      read_faults = le_trans (le_trans sent.read_faults c.get.ensures.faults) c.commands.ensures.read_faults;
      write_faults = le_trans (le_trans sent.write_faults c.get.ensures.write_faults) c.commands.ensures.write_faults;
      number = did.number ∙ sent.number;
      wanted = did.wanted ∙ sent.wanted;
      leads = g.met.D.Desk.goes_on _ _ _ sent.leads did.leads;
    }

pub returns-in-Nothing : goal.returns-in-Nothing
returns-in-Nothing g c =
    let sent = c.in-None.ensures in
    record {
      talk = λ limits told i. nothing_talk limits (moved limits (c.in-Nothing.ensures.told told.0).0 refl c.get.ensures.written refl (sent.talk limits c.args.reader.now told i));
      here = sent.here;
      limits = refl;
      warned = λ written. tt;
      cause = tt;
      stream = λ told. let reads = c.in-Nothing.ensures.told told in same_stream (g.K.Source.pieces c.pushes.new.conn) (g.K.Source.pieces c.get.new.conn) (g.K.Source.left c.pushes.new.conn) (g.K.Source.left c.get.new.conn) reads.0 reads.1 ∙ same_stream (g.K.Source.pieces c.args.conn.now) (g.K.Source.pieces c.pushes.new.conn) (g.K.Source.left c.args.conn.now) (g.K.Source.left c.pushes.new.conn) sent.pieces sent.left;
      read_faults = le_trans sent.read_faults c.get.ensures.faults;
      write_faults = le_trans sent.write_faults c.get.ensures.write_faults;
      number = sent.number;
      wanted = sent.wanted;
      leads = sent.leads;
    }

pub returns-in-End : goal.returns-in-End
returns-in-End g c =
    let sent = c.in-None.ensures in
    record {
      talk = λ limits told i.
          let now = moved limits (c.in-End.ensures.told told.0).0 refl c.get.ensures.written refl (sent.talk limits c.args.reader.now told i) in
          record { reached = talk_waits now; written = now.all_out };
      here = sent.here;
      limits = refl;
      warned = λ written. tt;
      cause = c.in-End.ensures.end;
      stream = λ told. let reads = c.in-End.ensures.told told in same_stream (g.K.Source.pieces c.pushes.new.conn) (g.K.Source.pieces c.get.new.conn) (g.K.Source.left c.pushes.new.conn) (g.K.Source.left c.get.new.conn) reads.0 reads.1 ∙ same_stream (g.K.Source.pieces c.args.conn.now) (g.K.Source.pieces c.pushes.new.conn) (g.K.Source.left c.args.conn.now) (g.K.Source.left c.pushes.new.conn) sent.pieces sent.left;
      read_faults = le_trans sent.read_faults c.get.ensures.faults;
      write_faults = le_trans sent.write_faults c.get.ensures.write_faults;
      number = sent.number;
      wanted = sent.wanted;
      leads = sent.leads;
    }

pub returns-in-Failed : goal.returns-in-Failed
returns-in-Failed g c =
    let sent = c.in-None.ensures in
    record {
      talk = λ limits told i.
          let now = moved limits (c.in-Failed.ensures.told told.0).0 refl c.get.ensures.written refl (sent.talk limits c.args.reader.now told i) in
          record { reached = talk_waits now; written = now.all_out };
      here = sent.here;
      limits = refl;
      warned = λ written. tt;
      cause = rose_since (g.K.Source.read_faults c.args.conn.now) (g.K.Source.read_faults c.pushes.new.conn) (g.K.Source.read_faults c.get.new.conn) sent.read_faults c.in-Failed.ensures.cause;
      stream = λ told. let reads = c.in-Failed.ensures.told told in same_stream (g.K.Source.pieces c.pushes.new.conn) (g.K.Source.pieces c.get.new.conn) (g.K.Source.left c.pushes.new.conn) (g.K.Source.left c.get.new.conn) reads.0 reads.1 ∙ same_stream (g.K.Source.pieces c.args.conn.now) (g.K.Source.pieces c.pushes.new.conn) (g.K.Source.left c.args.conn.now) (g.K.Source.left c.pushes.new.conn) sent.pieces sent.left;
      read_faults = le_trans sent.read_faults c.get.ensures.faults;
      write_faults = le_trans sent.write_faults c.get.ensures.write_faults;
      number = sent.number;
      wanted = sent.wanted;
      leads = sent.leads;
    }

pub pushes-requires-clause-number : goal.pushes-requires-clause-number
pushes-requires-clause-number g c = λ κs lives. c.requires.number

pub pushes-requires-clause-here : goal.pushes-requires-clause-here
pushes-requires-clause-here g c = λ κs lives. c.requires.here

pub commands-requires-clause-number : goal.commands-requires-clause-number
commands-requires-clause-number g c = λ κs lives. c.requires.number ∙ sym c.in-None.ensures.number

pub commands-requires-clause-here : goal.commands-requires-clause-here
commands-requires-clause-here g c = λ κs lives. c.in-None.ensures.here

pub commands-requires-clause-limits : goal.commands-requires-clause-limits
commands-requires-clause-limits g c = λ κs lives. subst AreAllowed (sym (fed_keeps c.args.reader.now _ c.feed.result c.feed.new.self c.feed.ensures)) c.requires.limits

pub invariant_of-buffers : goal.invariant_of-buffers
invariant_of-buffers g c = record { whole = c.args.buffers.now.whole }

pub invariant_of-buffers-then-is_err : goal.invariant_of-buffers-then-is_err
invariant_of-buffers-then-is_err g c = record {
  whole = lent_whole c.args.buffers.now.piece.len _ c.get.new.into _ (c.get.auto.into ∙ c.deref_mut.ensures.len) (c.args.buffers.now.piece.ok.0 ∙ c.args.buffers.now.whole);
}

pub invariant_of-buffers-in-Got : goal.invariant_of-buffers-in-Got
invariant_of-buffers-in-Got g c = record {
  whole = lent_whole c.args.buffers.now.piece.len _ c.get.new.into _ (c.get.auto.into ∙ c.deref_mut.ensures.len) (c.args.buffers.now.piece.ok.0 ∙ c.args.buffers.now.whole);
}

pub invariant_of-buffers-in-Nothing : goal.invariant_of-buffers-in-Nothing
invariant_of-buffers-in-Nothing g c = record {
  whole = lent_whole c.args.buffers.now.piece.len _ c.get.new.into _ (c.get.auto.into ∙ c.deref_mut.ensures.len) (c.args.buffers.now.piece.ok.0 ∙ c.args.buffers.now.whole);
}

pub invariant_of-buffers-in-End : goal.invariant_of-buffers-in-End
invariant_of-buffers-in-End g c = record {
  whole = lent_whole c.args.buffers.now.piece.len _ c.get.new.into _ (c.get.auto.into ∙ c.deref_mut.ensures.len) (c.args.buffers.now.piece.ok.0 ∙ c.args.buffers.now.whole);
}

pub invariant_of-buffers-in-Failed : goal.invariant_of-buffers-in-Failed
invariant_of-buffers-in-Failed g c = record {
  whole = lent_whole c.args.buffers.now.piece.len _ c.get.new.into _ (c.get.auto.into ∙ c.deref_mut.ensures.len) (c.args.buffers.now.piece.ok.0 ∙ c.args.buffers.now.whole);
}

pub slice_bounds-feed-end : goal.slice_bounds-feed-end
slice_bounds-feed-end g c = lent_within c.in-Got.count _ _ c.deref.result.now c.in-Got.ensures.amount.1 c.deref_mut.ensures.len c.deref.ensures.len

pub get-requires : goal.get-requires
get-requires g c = (search rules, lent_room _ (c.deref_mut.ensures.len ∙ c.args.buffers.now.piece.ok.0 ∙ c.args.buffers.now.whole))
