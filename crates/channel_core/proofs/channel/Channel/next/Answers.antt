use Rattle.std.proofs.Common.{◌∙◌, refl, sym, ap, subst}
use Rattle.backlog.specs.Seen.{Seen as Backlog}
use Rattle.backlog.specs.Lists.{OnDisk}
use Rattle.channel_copies.specs.Putting.{KeepsDisk, around}
use Rattle.channel_core.specs.Seen.{Seen, channel_with, queued_in}
use Rattle.channel_core.specs.Drawing.{ready_of}
use Rattle.channel_core.proofs.Drawings.{draws_all, next_rest, next_where}
use Rattle.channel_core.proofs.Keeping.{room_rest}
use Rattle.channel_core.proofs.Looking.{credit_is}
use Rattle.channel_core.proofs.Telling.{when_false, when_true}
use Rattle.channel_copies.proofs.Wrote.{keeps_none, keeps_same}
use Rattle.channel_core.proofs.channel.Channel.next.Goals as goal

pub returns-then-has_no_credit : goal.returns-then-has_no_credit
returns-then-has_no_credit g c = record {
  cause = λ waits. when_true _ _ c.has_no_credit.result (c.has_no_credit.ensures waits) c.if-has_no_credit.true;
  drawn = c.requires.nothing;
  gives = λ told disk on. refl;
  list = λ told disk on. on;
  rest = refl;
  same = λ told file. refl;
  disk = keeps_none g.F.Folder.tells_files (around c.args.self.now.backlog (g.F.Folder.files c.args.folder.now) (g.F.Folder.folder_faults c.args.folder.now));
  fault = tt;
}

pub returns-then-is_paused : goal.returns-then-is_paused
returns-then-is_paused g c = record {
  cause = λ waits. (when_false _ _ c.has_no_credit.result (c.has_no_credit.ensures waits) c.if-has_no_credit.false, sym c.is_paused.ensures ∙ c.if-is_paused.true);
  drawn = c.requires.nothing;
  gives = λ told disk on. refl;
  list = λ told disk on. on;
  rest = refl;
  same = λ told file. refl;
  disk = keeps_none g.F.Folder.tells_files (around c.args.self.now.backlog (g.F.Folder.files c.args.folder.now) (g.F.Folder.folder_faults c.args.folder.now));
  fault = tt;
}

pub returns-then-has_none_queued : goal.returns-then-has_none_queued
returns-then-has_none_queued g c = record {
  cause =
      λ waits.
      credit_is (ready_of c.args.client c.args.self.now) c.args.client c.args.self.now waits (sym c.is_paused.ensures ∙ c.if-is_paused.false) (when_false _ _ c.has_no_credit.result (c.has_no_credit.ensures waits) c.if-has_no_credit.false);
  drawn = c.requires.nothing;
  gives = λ told disk on. (when_true _ _ c.has_none_queued.result (c.has_none_queued.ensures (g.F.Folder.files c.args.folder.now) disk on) c.if-has_none_queued.true, refl);
  list = λ told disk on. on;
  rest = refl;
  same = λ told file. refl;
  disk = keeps_none g.F.Folder.tells_files (around c.args.self.now.backlog (g.F.Folder.files c.args.folder.now) (g.F.Folder.folder_faults c.args.folder.now));
  fault = tt;
}

pub returns-in_default : goal.returns-in_default
returns-in_default g c = record {
  cause =
      λ waits.
      credit_is (ready_of c.args.client c.args.self.now) c.args.client c.args.self.now waits (sym c.is_paused.ensures ∙ c.if-is_paused.false) (when_false _ _ c.has_no_credit.result (c.has_no_credit.ensures waits) c.if-has_no_credit.false);
  drawn = ap (λ (v : Seen). v.drawn) c.reserve.ensures.rest ∙ c.requires.nothing;
  gives =
      λ told disk on.
      (when_false _ _ c.has_none_queued.result (c.has_none_queued.ensures (g.F.Folder.files c.args.folder.now) disk on) c.if-has_none_queued.false, ap (λ (v : Seen). queued_in v disk) c.reserve.ensures.rest);
  list = λ told disk on. subst (λ (v : Seen). OnDisk v.backlog.queue (g.F.Folder.files c.args.folder.now) disk) (sym c.reserve.ensures.rest) on;
  rest = room_rest c.args.self.now c.reserve.new.self c.reserve.ensures.rest;
  same = λ told file. refl;
  disk = keeps_same g.F.Folder.tells_files (g.F.Folder.files c.args.folder.now) (g.F.Folder.folder_faults c.args.folder.now) c.args.self.now.backlog c.reserve.new.self.backlog (ap (λ (v : Seen). v.backlog) c.reserve.ensures.rest);
  fault = tt;
}

pub draw_for-requires-clause-nothing : goal.draw_for-requires-clause-nothing
draw_for-requires-clause-nothing g c = ap (λ (v : Seen). v.drawn) c.reserve.ensures.rest ∙ c.requires.nothing

pub returns : goal.returns
returns g c = record {
  cause =
      λ waits.
      next_where c.args.client (ready_of c.args.client c.args.self.now) (channel_with c.args.self.now waits) c.draw_for.result c.draw_for.ensures.drawing
      (credit_is (ready_of c.args.client c.args.self.now) c.args.client c.args.self.now waits (sym c.is_paused.ensures ∙ c.if-is_paused.false) (when_false _ _ c.has_no_credit.result (c.has_no_credit.ensures waits) c.if-has_no_credit.false));
  drawn = c.draw_for.ensures.drawn;
  gives =
      λ told disk on.
      draws_all c.reserve.new.self c.args.self.now c.draw_for.new.self disk c.draw_for.result c.reserve.ensures.rest
      (when_false _ _ c.has_none_queued.result (c.has_none_queued.ensures (g.F.Folder.files c.args.folder.now) disk on) c.if-has_none_queued.false)
      c.draw_for.ensures.drawing
      (c.draw_for.ensures.gives told disk (subst (λ (v : Seen). OnDisk v.backlog.queue (g.F.Folder.files c.args.folder.now) disk) (sym c.reserve.ensures.rest) on));
  list = λ told disk on. c.draw_for.ensures.list told disk (subst (λ (v : Seen). OnDisk v.backlog.queue (g.F.Folder.files c.args.folder.now) disk) (sym c.reserve.ensures.rest) on);
  rest = next_rest c.args.self.now c.reserve.new.self c.draw_for.new.self c.reserve.ensures.rest c.draw_for.ensures.rest;
  same = λ told. c.draw_for.ensures.same told;
  disk =
      let files = g.F.Folder.files in
      let count = g.F.Folder.folder_faults in
      subst (λ (b : Backlog). KeepsDisk g.F.Folder.tells_files (around b (files c.args.folder.now) (count c.args.folder.now)) (around c.draw_for.new.self.backlog (files c.draw_for.new.folder) (count c.draw_for.new.folder)))
      (ap (λ (v : Seen). v.backlog) c.reserve.ensures.rest) c.draw_for.ensures.disk;
  fault = c.draw_for.ensures.fault;
}

pub draw_for-requires-clause-room : goal.draw_for-requires-clause-room
draw_for-requires-clause-room g c = c.in-Ok.ensures.room
