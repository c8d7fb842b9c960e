use Rattle.std.proofs.Common.{ℕ, ◌∙◌, List, sym, ap, subst}
use Rattle.std.specs.Prelude.{IfSome}
use Rattle.std.proofs.lemmas.Bool.{false≢true}
use Rattle.backlog.specs.Queues.{Seen as Queue}
use Rattle.backlog.specs.Holding.{SaveStands}
use Rattle.backlog.specs.Seen.{Seen as Backlog}
use Rattle.backlog.specs.Opened.{FilesOfChange, IsTidied}
use Rattle.backlog.specs.Lists.{IsFoundAgain, OnDisk, Stands, WasFound}
use Rattle.channel_core.specs.Seen.{Seen}
use Rattle.channel_core.proofs.Making.{fresh_none, fresh_opened, none_holds, opened_backlog, opened_named, opened_nothing, opened_seen}
use Rattle.channel_core.proofs.channel.Channel.open.Goals as goal

pub returns-in_err-backlog-clause-others : goal.returns-in_err-backlog-clause-others
returns-in_err-backlog-clause-others g c = λ told.
    subst (λ (name : List ℕ). FilesOfChange name (g.F.Folder.files c.args.folder.now) (g.F.Folder.files c.open.new.folder)) (c.as_str.ensures.value ∙ c.in-Ok.ensures) (c.open.ensures.others told)

pub returns-clause-others : goal.returns-clause-others
returns-clause-others g c = λ told.
    subst (λ (name : List ℕ). FilesOfChange name (g.F.Folder.files c.args.folder.now) (g.F.Folder.files c.open.new.folder)) (c.as_str.ensures.value ∙ c.in-Ok.ensures) (c.open.ensures.others told)

pub returns-clause-again : goal.returns-clause-again
returns-clause-again g c = λ told durable.
    subst (λ (name : List ℕ). IsFoundAgain name (g.F.Folder.files c.args.folder.now) (g.F.Folder.files c.open.new.folder)) (c.as_str.ensures.value ∙ c.in-Ok.ensures) (c.in_ok-backlog.ensures.again told)

pub of-requires-clause-named : goal.of-requires-clause-named
of-requires-clause-named g c =
    let backlog = opened_backlog c.args.topic c.args.name c.args.options.now c.in_ok-backlog.backlog (c.as_str.ensures.value ∙ c.in-Ok.ensures) c.backlog_options.ensures.is c.in_ok-backlog.ensures.durable c.in_ok-backlog.ensures.seen in
    opened_named c.args.topic c.args.name c.args.options.now c.in_ok-backlog.backlog (sym c.is_ephemeral.ensures ∙ c.if-is_ephemeral.false) backlog

pub of-requires-clause-nothing : goal.of-requires-clause-nothing
of-requires-clause-nothing g c =
    let backlog = opened_backlog c.args.topic c.args.name c.args.options.now c.in_ok-backlog.backlog (c.as_str.ensures.value ∙ c.in-Ok.ensures) c.backlog_options.ensures.is c.in_ok-backlog.ensures.durable c.in_ok-backlog.ensures.seen in
    opened_nothing c.in_ok-backlog.backlog backlog

pub returns-clause-seen : goal.returns-clause-seen
returns-clause-seen g c =
    let backlog = opened_backlog c.args.topic c.args.name c.args.options.now c.in_ok-backlog.backlog (c.as_str.ensures.value ∙ c.in-Ok.ensures) c.backlog_options.ensures.is c.in_ok-backlog.ensures.durable c.in_ok-backlog.ensures.seen in
    opened_seen (sym c.is_ephemeral.ensures ∙ c.if-is_ephemeral.false) backlog c.of.ensures

pub returns-clause-list : goal.returns-clause-list
returns-clause-list g c = λ told durable messages was.
    let files = g.F.Folder.files in
    subst (λ (b : Backlog). OnDisk b.queue (files c.open.new.folder) messages) (sym (ap (λ (v : Seen). v.backlog) c.of.ensures))
    (c.in_ok-backlog.ensures.list told messages (subst (λ (n : List ℕ). WasFound n (files c.args.folder.now) messages) (sym (c.as_str.ensures.value ∙ c.in-Ok.ensures)) was))

pub returns-clause-stands : goal.returns-clause-stands
returns-clause-stands g c = λ told. subst (λ (b : Backlog). Stands b.queue (g.F.Folder.files c.open.new.folder)) (sym (ap (λ (v : Seen). v.backlog) c.of.ensures)) (c.in_ok-backlog.ensures.stands told)

pub returns-clause-tidied : goal.returns-clause-tidied
returns-clause-tidied g c = λ told.
    subst (λ (b : Backlog). IfSome b.queue (λ q. IsTidied q (g.F.Folder.files c.args.folder.now) (g.F.Folder.files c.open.new.folder))) (sym (ap (λ (v : Seen). v.backlog) c.of.ensures)) (c.in_ok-backlog.ensures.tidied told)

pub returns-clause-ephemeral : goal.returns-clause-ephemeral
returns-clause-ephemeral g c = λ ephemeral. absurd (false≢true (sym (sym c.is_ephemeral.ensures ∙ c.if-is_ephemeral.false) ∙ ephemeral))

pub returns-in_err-backlog-clause-ephemeral : goal.returns-in_err-backlog-clause-ephemeral
returns-in_err-backlog-clause-ephemeral g c = λ ephemeral. absurd (false≢true (sym (sym c.is_ephemeral.ensures ∙ c.if-is_ephemeral.false) ∙ ephemeral))

pub returns-then-is_ephemeral-clause-seen : goal.returns-then-is_ephemeral-clause-seen
returns-then-is_ephemeral-clause-seen g c = fresh_opened c.in_ok-fresh.ensures.seen (sym c.is_ephemeral.ensures ∙ c.if-is_ephemeral.true)

pub returns-then-is_ephemeral-clause-list : goal.returns-then-is_ephemeral-clause-list
returns-then-is_ephemeral-clause-list g c = λ told durable. absurd (false≢true (sym durable ∙ (sym c.is_ephemeral.ensures ∙ c.if-is_ephemeral.true)))

pub returns-then-is_ephemeral-clause-again : goal.returns-then-is_ephemeral-clause-again
returns-then-is_ephemeral-clause-again g c = λ told durable. absurd (false≢true (sym durable ∙ (sym c.is_ephemeral.ensures ∙ c.if-is_ephemeral.true)))

pub returns-then-is_ephemeral-clause-stands : goal.returns-then-is_ephemeral-clause-stands
returns-then-is_ephemeral-clause-stands g c = λ told. none_holds (λ (q : Queue). SaveStands q (g.F.Folder.files c.args.folder.now)) (fresh_none c.in_ok-fresh.ensures.seen (sym c.is_ephemeral.ensures ∙ c.if-is_ephemeral.true))

pub returns-then-is_ephemeral-clause-tidied : goal.returns-then-is_ephemeral-clause-tidied
returns-then-is_ephemeral-clause-tidied g c = λ told. none_holds (λ (q : Queue). IsTidied q (g.F.Folder.files c.args.folder.now) (g.F.Folder.files c.args.folder.now)) (fresh_none c.in_ok-fresh.ensures.seen (sym c.is_ephemeral.ensures ∙ c.if-is_ephemeral.true))
