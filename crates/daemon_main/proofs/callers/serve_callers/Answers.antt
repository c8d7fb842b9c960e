use Rattle.std.proofs.Common.{sym, subst, ap, ◌∙◌, inl, inr, le_refl}
use Rattle.std.proofs.lemmas.Bool.{false≢true}
use Rattle.nsq_outside.specs.Hosts.{HostContent, OnlyAcceptFaults}
use Rattle.daemon_callers.proofs.Handing.{accepted_then}
use Rattle.daemon_tick.specs.declared.ticking.Ticked.TheVariants as ticked
use Rattle.daemon_main.proofs.Causes.{rose_wider}
use Rattle.daemon_main.proofs.Looping.{above_none, accepted_nobody, halted_unfailed, memory_unfailed, next_fits, stopped_unfailed}
use Rattle.daemon_main.proofs.Rounding.{rounds_failed, rounds_first, rounds_halted, rounds_new, rounds_served, rounds_tick, rounds_waited, ticks_so}
use Rattle.daemon_main.proofs.callers.serve_callers.Goals as goal

pub callers-init : goal.callers-init
callers-init g c = record {
  unflushed = c.requires.unflushed;
  rounds = rounds_first _ _ _ _ _ _ _ _ (λ told. told.host) (λ told. told.notes) _ _ c.requires.empty;
  state = accepted_nobody (g.H.Host.state c.args.host.now);
}

pub overflow_add-number : goal.overflow_add-number
overflow_add-number g c = next_fits c.callers.number c.callers.auto.number-fits c.if-number.false

pub unreachable-requires : goal.unreachable-requires
unreachable-requires g c = false≢true c.in-None.ensures.steps

pub save_changed-requires : goal.save_changed-requires
save_changed-requires g c = record { unflushed = (c.tick.ensures.leads.0 ∙ c.callers.invariant.unflushed) }

pub serve_caller-requires-clause-options : goal.serve_caller-requires-clause-options
serve_caller-requires-clause-options g c κs within = c.requires.options

pub serve_caller-requires-clause-number : goal.serve_caller-requires-clause-number
serve_caller-requires-clause-number g c κs within = above_none c.callers.number

pub serve_caller-requires-clause-new : goal.serve_caller-requires-clause-new
serve_caller-requires-clause-new g c κs within = λ told.
    rounds_new _ _ _ _ _ _ _ _ (λ told. told.host) (λ told. told.notes) c.callers.number _ _ _ _ _ _ c.callers.invariant.rounds (ticks_so c.tick.ensures.leads.1 c.tick.ensures.nothing c.in-Quiet.ensures.noted) c.save_changed.ensures.went (ap g.H.Journal.Journal.notes c.save_changed.ensures.journal) told

pub save_changed-requires-in-Nothing : goal.save_changed-requires-in-Nothing
save_changed-requires-in-Nothing g c = record { unflushed = (c.tick.ensures.leads.0 ∙ c.callers.invariant.unflushed) }

pub callers-preserved-in-Caller : goal.callers-preserved-in-Caller
callers-preserved-in-Caller g c = record {
  unflushed = c.serve_caller.ensures.leads.0 ∙ c.save_changed.ensures.unflushed;
  rounds = rounds_served _ _ _ _ _ _ _ _ (λ told. told.host) (λ told. told.notes) g.H.Conn.Source.left c.callers.number _ _ _ _ _ _ _ _ _ c.in-Caller.kind c.in-Caller.conn c.serve_caller.new.conn c.callers.invariant.rounds (ticks_so c.tick.ensures.leads.1 c.tick.ensures.nothing c.in-Quiet.ensures.noted)
      c.save_changed.ensures.went (ap g.H.Journal.Journal.notes c.save_changed.ensures.journal) c.serve_caller.ensures.leads.1 c.in-Caller.ensures.content c.done.ensures.content
      (λ told. c.serve_caller.ensures.served told.pieces told.written told.notes c.in-Caller.ensures.fresh);
  state = accepted_then _ _ _ c.callers.invariant.state (subst (λ x. OnlyAcceptFaults (g.H.Host.state c.callers.host) x) (sym c.done.ensures.state) c.accept.ensures.state);
}

pub callers-preserved : goal.callers-preserved
callers-preserved g c = record {
  unflushed = c.save_changed-in-Nothing.ensures.unflushed;
  rounds = rounds_waited _ _ _ _ _ _ _ _ (λ told. told.host) (λ told. told.notes) c.callers.number _ _ _ _ _ _ _ c.callers.invariant.rounds (ticks_so c.tick.ensures.leads.1 c.tick.ensures.nothing c.in-Quiet.ensures.noted) c.save_changed-in-Nothing.ensures.went (ap g.H.Journal.Journal.notes c.save_changed-in-Nothing.ensures.journal) c.in-Nothing.ensures.content;
  state = accepted_then _ _ _ c.callers.invariant.state c.accept.ensures.state;
}

pub returns-then-number : goal.returns-then-number
returns-then-number g c = record {
  unflushed = c.callers.invariant.unflushed;
  over = record { number = c.callers.number; rounds = c.callers.invariant.rounds; why = λ told. inr c.if-number.true };
  state = c.callers.invariant.state;
  cause = λ is. halted_unfailed _ is;
  listeners = λ told is. halted_unfailed _ is;
}

pub returns-in-Stopping : goal.returns-in-Stopping
returns-in-Stopping g c = record {
  unflushed = (c.tick.ensures.leads.0 ∙ c.callers.invariant.unflushed);
  over = record {
    number = c.callers.number;
    rounds = rounds_tick _ _ _ _ _ _ _ _ (λ told. told.host) (λ told. told.notes) c.callers.number _ _ _ _ _ ticked.Stopping c.callers.invariant.rounds (ticks_so c.tick.ensures.leads.1 c.tick.ensures.nothing c.in-Stopping.ensures.noted);
    why = λ told. c.in-Stopping.ensures.noted told.notes;
  };
  state = c.callers.invariant.state;
  cause = λ is. stopped_unfailed _ is;
  listeners = λ told is. stopped_unfailed _ is;
}

pub returns-in-Memory : goal.returns-in-Memory
returns-in-Memory g c = record {
  unflushed = (c.tick.ensures.leads.0 ∙ c.callers.invariant.unflushed);
  over = record {
    number = c.callers.number;
    rounds = rounds_tick _ _ _ _ _ _ _ _ (λ told. told.host) (λ told. told.notes) c.callers.number _ _ _ _ _ ticked.Memory c.callers.invariant.rounds (ticks_so c.tick.ensures.leads.1 c.tick.ensures.nothing c.in-Memory.ensures.noted);
    why = λ told. tt;
  };
  state = c.callers.invariant.state;
  cause = λ is. memory_unfailed _ is;
  listeners = λ told is. memory_unfailed _ is;
}

pub returns-in-Halt : goal.returns-in-Halt
returns-in-Halt g c = record {
  unflushed = (c.tick.ensures.leads.0 ∙ c.callers.invariant.unflushed);
  over = record {
    number = c.callers.number;
    rounds = rounds_halted _ _ _ _ _ _ _ _ (λ told. told.host) (λ told. told.notes) c.callers.number _ _ _ _ _ _ c.callers.invariant.rounds (ticks_so c.tick.ensures.leads.1 c.tick.ensures.nothing c.in-Quiet.ensures.noted) (λ told. (c.in-Halt.ensures.content told).1);
    why = λ told. inl (ap (λ (x : HostContent _). x.halted) (c.in-Halt.ensures.content told.host).1);
  };
  state = accepted_then _ _ _ c.callers.invariant.state c.accept.ensures.state;
  cause = λ is. halted_unfailed _ is;
  listeners = λ told is. halted_unfailed _ is;
}

pub returns-in-Failed : goal.returns-in-Failed
returns-in-Failed g c = record {
  unflushed = (c.tick.ensures.leads.0 ∙ c.callers.invariant.unflushed);
  over = record {
    number = c.callers.number;
    rounds = rounds_failed _ _ _ _ _ _ _ _ (λ told. told.host) (λ told. told.notes) c.callers.number _ _ _ _ _ _ c.callers.invariant.rounds (ticks_so c.tick.ensures.leads.1 c.tick.ensures.nothing c.in-Quiet.ensures.noted) c.in-Failed.ensures.content;
    why = λ told. rose_wider _ _ _ _ c.callers.invariant.state.0 (le_refl _) c.in-Failed.ensures.cause;
  };
  state = accepted_then _ _ _ c.callers.invariant.state c.accept.ensures.state;
  cause = λ is. rose_wider _ _ _ _ c.callers.invariant.state.0 (le_refl _) c.in-Failed.ensures.cause;
  listeners = λ told is.
      let same = c.in-Failed.ensures.content told in
      record {
        at = c.callers.host;
        from_entry = c.callers.invariant.state.0;
        rose = c.in-Failed.ensures.cause;
        given = ap (λ (x : HostContent _). x.given) same;
        back = ap (λ (x : HostContent _). x.back) same;
      };
}
