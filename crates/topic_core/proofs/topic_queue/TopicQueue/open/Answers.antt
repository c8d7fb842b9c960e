use Rattle.std.proofs.Common.{◌≡◌, List, ℕ, Result, Err, true, Option, None, refl, sym, subst, arith, ◌∙◌}
use Rattle.std.proofs.lemmas.Bool.{false≢true}
use Rattle.std.specs.Prelude.{IfErr, IfSome}
use Rattle.nsq_base.specs.Name.{is_ephemeral}
use Rattle.v2_frame.specs.declared.message.Message.{Message}
use Rattle.backlog.specs.Open.{Open}
use Rattle.backlog.specs.Open.TheVariants.{Memory}
use Rattle.backlog.specs.Queues.{Seen as Queue}
use Rattle.backlog.specs.Opened.{FilesOfChange, IsTidied}
use Rattle.backlog.specs.Refusals.{OpenFails, OpenCounts}
use Rattle.backlog.specs.Lists.{IsFoundAgain, OnDisk, OpenRefused, Stands, WasFound}
use Rattle.topic_core.specs.Seen.{Seen, IsWant}
use Rattle.topic_core.specs.Rows.{IsTopicOf, found_topic}
use Rattle.topic_core.proofs.Saving.{open_ring, opened_topic}
use Rattle.topic_core.proofs.Flushing.{lasting}
use Rattle.topic_core.proofs.Opening.{handed_on, made_found, made_none, made_seen, not_ok, opened_named, opened_seen}
use Rattle.topic_core.proofs.topic_queue.TopicQueue.open.Goals as goal

pub over-requires-clause-named : goal.over-requires-clause-named
over-requires-clause-named g c =
    let durable = lasting c.args.name c.if-ephemeral.ensures.1 in
    opened_named c.args.name _ _ _ c.in_ok-backlog.backlog durable c.as_str.ensures c.in_ok-backlog.ensures.durable c.in_ok-backlog.ensures.seen

pub over-requires-clause-settled : goal.over-requires-clause-settled
over-requires-clause-settled g c = (open_ring c.in_ok-backlog.backlog _ _ _ c.in_ok-backlog.ensures.durable c.in_ok-backlog.ensures.seen).1

pub returns-in_err-fresh : goal.returns-in_err-fresh
returns-in_err-fresh g c =
    let r = c.from_residual.result in
    let is : r ≡ Err Memory = handed_on r Memory c.from_residual.ensures.1 in
    let passing : is_ephemeral c.args.name ≡ true = c.if-ephemeral.ensures.0 refl in
    record {
      seen = not_ok r _ c.from_residual.ensures.0;
      row = λ told. not_ok r _ c.from_residual.ensures.0;
      again = λ told durable. not_ok r _ c.from_residual.ensures.0;
      stands = λ told. not_ok r _ c.from_residual.ensures.0;
      tidied = λ told. not_ok r _ c.from_residual.ensures.0;
      ephemeral = λ e. (refl, subst (λ (x : Result Seen Open). IfErr x IsWant) (sym is) refl);
      refused = λ told. subst (λ (x : Result Seen Open). IfErr x (OpenRefused c.args.name (g.F.Folder.files c.args.folder.now) (g.F.Folder.files c.args.folder.now))) (sym is) (λ file. refl);
      others = λ told file other. refl;
      faults = omega arith;
      cause = subst (λ (x : Result Seen Open). IfErr x (OpenFails (g.F.Folder.folder_faults c.args.folder.now) (g.F.Folder.folder_faults c.args.folder.now))) (sym is) tt;
      exact = λ counts. subst (λ (x : Result Seen Open). OpenCounts (g.F.Folder.folder_faults c.args.folder.now) (g.F.Folder.folder_faults c.args.folder.now) x) (sym is) refl;
    }

pub returns-then-ephemeral : goal.returns-then-ephemeral
returns-then-ephemeral g c =
    let q = c.in_ok-fresh.field-0 in
    let passing : is_ephemeral c.args.name ≡ true = c.if-ephemeral.ensures.0 refl in
    let none : q.backlog.queue ≡ None = made_none c.args.name c.args.options.now q passing c.in_ok-fresh.ensures.seen in
    let files = g.F.Folder.files c.args.folder.now in
    record {
      seen = made_seen c.args.name c.args.options.now q passing c.in_ok-fresh.ensures.seen;
      row = λ told messages. made_found c.args.name q files files messages passing (c.in_ok-fresh.ensures.row files);
      again = λ told durable. absurd (false≢true (sym durable ∙ passing));
      stands = λ told. subst (λ (k : Option Queue). Stands k files) (sym none) tt;
      tidied = λ told. subst (λ (k : Option Queue). IfSome k (λ (disk : Queue). IsTidied disk files files)) (sym none) tt;
      ephemeral = λ e. (refl, tt);
      refused = λ told. tt;
      others = λ told file other. refl;
      faults = omega arith;
      cause = tt;
      exact = λ counts. refl;
    }

pub returns-in_err-backlog : goal.returns-in_err-backlog
returns-in_err-backlog g c =
    let r = c.from_residual-in_err-backlog.result in
    let e = c.in_err-backlog.field-0.0 in
    let was = c.from_residual-in_err-backlog.ensures.0 in
    let is : r ≡ Err e = handed_on r e c.from_residual-in_err-backlog.ensures.1 in
    let durable = lasting c.args.name c.if-ephemeral.ensures.1 in
    let before = g.F.Folder.files c.args.folder.now in
    let after = g.F.Folder.files c.open.new.folder in
    record {
      seen = not_ok r _ was;
      row = λ told. not_ok r _ was;
      again = λ told d. not_ok r _ was;
      stands = λ told. not_ok r _ was;
      tidied = λ told. not_ok r _ was;
      ephemeral = λ passing. absurd (false≢true (sym durable ∙ passing));
      refused = λ told. subst (λ (x : Result Seen Open). IfErr x (OpenRefused c.args.name before after)) (sym is) (subst (λ (name : List ℕ). OpenRefused name before after e) c.as_str.ensures (c.in_err-backlog.ensures.refused told));
      others = λ told. subst (λ (name : List ℕ). FilesOfChange name before after) c.as_str.ensures (c.open.ensures.others told);
      faults = c.open.ensures.faults;
      cause = subst (λ (x : Result Seen Open). IfErr x (OpenFails (g.F.Folder.folder_faults c.args.folder.now) (g.F.Folder.folder_faults c.open.new.folder))) (sym is) c.in_err-backlog.ensures.cause;
      exact = λ counts. subst (λ (x : Result Seen Open). OpenCounts (g.F.Folder.folder_faults c.args.folder.now) (g.F.Folder.folder_faults c.open.new.folder) x) (sym is) (c.in_err-backlog.ensures.exact counts);
    }

pub returns : goal.returns
returns g c =
    let before = g.F.Folder.files c.args.folder.now in
    let after = g.F.Folder.files c.open.new.folder in
    let b = c.in_ok-backlog.backlog in
    let durable = lasting c.args.name c.if-ephemeral.ensures.1 in
    record {
      seen = opened_seen c.args.name _ c.args.options.now _ _ b c.over.result durable c.as_str.ensures c.ring_of.ensures c.queue_options.ensures.value c.in_ok-backlog.ensures.seen c.over.ensures;
      row = λ told messages found.
          let list = subst (λ (name : List ℕ). (ms : List Message) → WasFound name before ms → OnDisk b.queue after ms) c.as_str.ensures (c.in_ok-backlog.ensures.list told) in
          subst (λ (q : Seen). IsTopicOf q after (found_topic c.args.name messages)) (sym c.over.ensures)
          (opened_topic c.args.name before after b _ _ _ durable c.in_ok-backlog.ensures.durable c.in_ok-backlog.ensures.seen list messages found);
      again = λ told d. subst (λ (name : List ℕ). IsFoundAgain name before after) c.as_str.ensures (c.in_ok-backlog.ensures.again told);
      stands = λ told. subst (λ (q : Seen). Stands q.backlog.queue after) (sym c.over.ensures) (c.in_ok-backlog.ensures.stands told);
      tidied = λ told. subst (λ (q : Seen). IfSome q.backlog.queue (λ (disk : Queue). IsTidied disk before after)) (sym c.over.ensures) (c.in_ok-backlog.ensures.tidied told);
      ephemeral = λ passing. absurd (false≢true (sym durable ∙ passing));
      refused = λ told. tt;
      others = λ told. subst (λ (name : List ℕ). FilesOfChange name before after) c.as_str.ensures (c.open.ensures.others told);
      faults = c.open.ensures.faults;
      cause = tt;
      exact = c.in_ok-backlog.ensures.exact;
    }
