use Rattle.std.proofs.Common.{ℕ, not, List, [], sym, ap, subst, ◌∙◌}
use Rattle.queue_image.specs.FileNames.{meta_file}
use Rattle.queue_image.specs.Metas.{IsIdle}
use Rattle.backlog.specs.Seen.{Seen as Backlog}
use Rattle.backlog.specs.Lists.{OnDisk, Stands}
use Rattle.channel_core.specs.Seen.{Seen}
use Rattle.channel_core.proofs.Making.{fresh_is, fresh_named, made_fresh}
use Rattle.channel_core.proofs.channel.Channel.fresh.Goals as goal

pub of-requires-clause-named : goal.of-requires-clause-named
of-requires-clause-named c =
    let backlog = fresh_is c.args.topic c.args.name c.args.options.now (c.as_str.ensures.value ∙ c.in_ok-queue.ensures) (ap not c.is_ephemeral-durable.ensures) c.backlog_options.ensures.is c.in_ok-backlog.ensures.seen in
    fresh_named c.args.topic c.args.name c.args.options.now c.in_ok-backlog.backlog backlog

pub of-requires-clause-nothing : goal.of-requires-clause-nothing
of-requires-clause-nothing c = ap (λ (b : Backlog). b.lent) c.in_ok-backlog.ensures.seen

pub returns : goal.returns
returns c = record {
  seen =
      let backlog = fresh_is c.args.topic c.args.name c.args.options.now (c.as_str.ensures.value ∙ c.in_ok-queue.ensures) (ap not c.is_ephemeral-durable.ensures) c.backlog_options.ensures.is c.in_ok-backlog.ensures.seen in
      made_fresh c.args.topic c.args.name c.args.options.now c.in_ok-backlog.backlog c.of.result c.of.ensures backlog;
  list = λ files. subst (λ (b : Backlog). OnDisk b.queue files []) (sym (ap (λ (v : Seen). v.backlog) c.of.ensures)) (c.in_ok-backlog.ensures.list files);
  stands =
      λ files idle.
      subst (λ (b : Backlog). Stands b.queue files) (sym (ap (λ (v : Seen). v.backlog) c.of.ensures)) (c.in_ok-backlog.ensures.stands files (subst (λ (n : List ℕ). IsIdle (files (meta_file n))) (sym (c.as_str.ensures.value ∙ c.in_ok-queue.ensures)) idle));
}
