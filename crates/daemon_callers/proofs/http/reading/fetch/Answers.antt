use Rattle.std.proofs.Common.{◌∙◌, refl, sym, subst, take, drop, length, length-take, arith}
use Rattle.daemon_callers.specs.declared.http.ended.EndedHttp.{EndedHttp}
use Rattle.daemon_callers.specs.declared.http.reading.Came.TheVariants.{Over}
use Rattle.daemon_callers.specs.Comings.{ComesTo}
use Rattle.daemon_callers.proofs.ComingLemmas.{has_read_next, reads_next, reads_same, comes_end, comes_fault, comes_closed, ended_otherwise, ended_cause, fed_front, kept_long, read_stream, same_stream, taken}
use Rattle.daemon_callers.proofs.http.reading.fetch.Goals as goal

pub returns-then-is_err : goal.returns-then-is_err
returns-then-is_err g c =
    let into = c.get.new.into in
    let piece = take c.in-Got.count into in
    let fits = taken c.in-Got.count _ into c.in-Got.ensures.amount c.get.auto.into (c.deref_mut.ensures.len ∙ c.args.intake.now.piece.ok.0 ∙ c.args.intake.now.whole) in
    record {
      came = λ o told tells r opens. has_read_next o c.args.number _ _ _ _ _ r opens piece fits.0 fits.1 (c.in-Got.ensures.told told).0;
      cause = tt;
      otherwise = tt;
      stream = λ told. let reads = c.in-Got.ensures.told told in read_stream _ _ _ _ (take c.in-Got.count c.get.new.into) reads.0 reads.1;
      written = c.get.ensures.written;
      read_faults = c.get.ensures.faults;
      write_faults = c.get.ensures.write_faults;
      number = refl;
      wanted = refl;
      leads = g.met.D.Desk.stays _;
    }

pub returns-else-is_err : goal.returns-else-is_err
returns-else-is_err g c =
    let into = c.get.new.into in
    let piece = take c.in-Got.count into in
    let fits = taken c.in-Got.count _ into c.in-Got.ensures.amount c.get.auto.into (c.deref_mut.ensures.len ∙ c.args.intake.now.piece.ok.0 ∙ c.args.intake.now.whole) in
    let fed = fed_front c.args.intake.now.reader c.feed.new.self c.args.intake.now.piece.len c.deref.result.now into (drop (length into) c.args.intake.now.piece.items) c.in-Got.count c.feed.result c.deref.ensures.value (c.get.auto.into ∙ c.deref_mut.ensures.len) c.feed.ensures.ok
    (sym c.is_err.ensures.value ∙ c.if-is_err.false) in
    record {
      came = λ o told tells r opens.
          reads_next o c.args.number (g.K.Source.pieces c.args.conn.now) (g.K.Source.pieces c.get.new.conn) (g.D.Desk.seen c.args.desk.now) c.args.intake.now.reader c.args.intake.now.begun r opens piece fits.0 fits.1 (c.in-Got.ensures.told told).0 c.feed.new.self fed;
      cause = tt;
      otherwise = tt;
      stream = λ told. let reads = c.in-Got.ensures.told told in read_stream _ _ _ _ (take c.in-Got.count c.get.new.into) reads.0 reads.1;
      written = c.get.ensures.written;
      read_faults = c.get.ensures.faults;
      write_faults = c.get.ensures.write_faults;
      number = refl;
      wanted = refl;
      leads = g.met.D.Desk.stays _;
    }

pub returns-in-Goes : goal.returns-in-Goes
returns-in-Goes g c =
    record {
      came = λ o told tells r opens. reads_same o c.args.number _ _ _ _ _ r (g.D.Desk.seen c.tick.new.desk) (c.in-Nothing.ensures.told told).0 (c.in-Goes.ensures.ticks tells r.has_read.none);
      cause = tt;
      otherwise = tt;
      stream = λ told. let reads = c.in-Nothing.ensures.told told in same_stream _ _ _ _ reads.0 reads.1;
      written = c.get.ensures.written;
      read_faults = c.get.ensures.faults;
      write_faults = c.get.ensures.write_faults;
      number = c.tick.ensures.number;
      wanted = c.tick.ensures.wanted;
      leads = c.tick.ensures.leads;
    }

pub returns-in-Closed : goal.returns-in-Closed
returns-in-Closed g c =
    record {
      came = λ o told tells r opens.
          let closed = c.in-Closed.ensures.ticks tells r.has_read.none in
          comes_closed o c.args.number _ _ _ _ _ r opens (c.in-Nothing.ensures.told told).0 (g.D.Desk.seen c.tick.new.desk) closed.0 closed.1;
      cause = tt;
      otherwise = tt;
      stream = λ told. let reads = c.in-Nothing.ensures.told told in same_stream _ _ _ _ reads.0 reads.1;
      written = c.get.ensures.written;
      read_faults = c.get.ensures.faults;
      write_faults = c.get.ensures.write_faults;
      number = c.tick.ensures.number;
      wanted = c.tick.ensures.wanted;
      leads = c.tick.ensures.leads;
    }

pub returns-in-Memory : goal.returns-in-Memory
returns-in-Memory g c =
    record {
      came = λ o told tells r opens.
          (reads_same o c.args.number _ _ _ _ _ r (g.D.Desk.seen c.tick.new.desk) (c.in-Nothing.ensures.told told).0 (c.in-Memory.ensures.ticks tells r.has_read.none)).has_read;
      cause = tt;
      otherwise = tt;
      stream = λ told. let reads = c.in-Nothing.ensures.told told in same_stream _ _ _ _ reads.0 reads.1;
      written = c.get.ensures.written;
      read_faults = c.get.ensures.faults;
      write_faults = c.get.ensures.write_faults;
      number = c.tick.ensures.number;
      wanted = c.tick.ensures.wanted;
      leads = c.tick.ensures.leads;
    }

pub returns-in-End : goal.returns-in-End
returns-in-End g c =
    record {
      came = λ o told tells r opens.
          subst (λ (x : EndedHttp). ComesTo o c.args.number (g.K.Source.pieces c.get.new.conn) (g.D.Desk.seen c.args.desk.now) (Over x)) (sym c.ended_at.ensures) (comes_end o c.args.number _ _ _ _ _ r opens (c.in-End.ensures.told told).0);
      cause = ended_cause c.args.intake.now.begun c.ended_at.result _ _ _ _ _ c.ended_at.ensures c.in-End.ensures.end;
      otherwise = ended_otherwise c.args.intake.now.begun c.ended_at.result c.ended_at.ensures;
      stream = λ told. let reads = c.in-End.ensures.told told in same_stream _ _ _ _ reads.0 reads.1;
      written = c.get.ensures.written;
      read_faults = c.get.ensures.faults;
      write_faults = c.get.ensures.write_faults;
      number = refl;
      wanted = refl;
      leads = g.met.D.Desk.stays _;
    }

pub returns-in-Failed : goal.returns-in-Failed
returns-in-Failed g c =
    record {
      came = λ o told tells r opens. comes_fault o c.args.number _ _ _ _ _ r opens (c.in-Failed.ensures.told told).0;
      cause = c.in-Failed.ensures.cause;
      otherwise = tt;
      stream = λ told. let reads = c.in-Failed.ensures.told told in same_stream _ _ _ _ reads.0 reads.1;
      written = c.get.ensures.written;
      read_faults = c.get.ensures.faults;
      write_faults = c.get.ensures.write_faults;
      number = refl;
      wanted = refl;
      leads = g.met.D.Desk.stays _;
    }

pub tick-requires : goal.tick-requires
tick-requires g c = c.requires

pub get-requires-after_bounds : goal.get-requires-after_bounds
get-requires-after_bounds g c = λ κs lives. omega (arith, c.deref_mut.ensures.len, c.args.intake.now.whole, c.args.intake.now.piece.ok.0)

pub slice_bounds-feed-end : goal.slice_bounds-feed-end
slice_bounds-feed-end g c = omega (arith, c.in-Got.ensures.amount, c.deref_mut.ensures.len, c.deref.ensures.len, length-take c.in-Got.count c.deref.result.now)

pub invariant_of-intake : goal.invariant_of-intake
invariant_of-intake g c = record { whole = kept_long _ _ c.args.intake.now.piece.items c.get.new.into c.args.intake.now.piece.ok.0 c.args.intake.now.whole }

pub invariant_of-intake-in-Nothing : goal.invariant_of-intake-in-Nothing
invariant_of-intake-in-Nothing g c = record { whole = kept_long _ _ c.args.intake.now.piece.items c.get.new.into c.args.intake.now.piece.ok.0 c.args.intake.now.whole }

pub invariant_of-intake-in-End : goal.invariant_of-intake-in-End
invariant_of-intake-in-End g c = record { whole = kept_long _ _ c.args.intake.now.piece.items c.get.new.into c.args.intake.now.piece.ok.0 c.args.intake.now.whole }

pub invariant_of-intake-in-Failed : goal.invariant_of-intake-in-Failed
invariant_of-intake-in-Failed g c = record { whole = kept_long _ _ c.args.intake.now.piece.items c.get.new.into c.args.intake.now.piece.ok.0 c.args.intake.now.whole }
