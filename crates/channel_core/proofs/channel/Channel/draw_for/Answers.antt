use Rattle.std.proofs.Common.{◌∙◌, sym, ap, subst, refl}
use Rattle.backlog.specs.Seen.{DrawLends, DrawsShort}
use Rattle.backlog.specs.Lists.{DrawGives, OnDisk}
use Rattle.channel_copies.specs.Putting.{around}
use Rattle.channel_core.specs.declared.drawn.Drawn.TheVariants.{ToHold, ToSend}
use Rattle.channel_core.specs.Seen.{HasRoom, Seen}
use Rattle.channel_core.proofs.Drawings.{drew_to_hold, drew_to_send, got_is, none_drawing, none_fails, none_gives, none_leaves, none_lent}
use Rattle.channel_core.proofs.Keeping.{keeps_of, nothing_lent, ready_to_hold, ready_to_send, still_named, still_whole}
use Rattle.channel_copies.proofs.Capacity.{draw_capacity}
use Rattle.channel_core.proofs.Telling.{when_false, when_true}
use Rattle.channel_copies.proofs.Wrote.{keeps_drawn}
use Rattle.channel_core.proofs.channel.Channel.draw_for.Goals as goal

pub draw-requires-clause-nothing : goal.draw-requires-clause-nothing
draw-requires-clause-nothing g c = nothing_lent (ap (λ (v : Seen). v.drawn) c.self.view_is ∙ c.requires.nothing) c.self.invariant

pub invariant_of-self : goal.invariant_of-self
invariant_of-self g c =
    let named = still_named _ _ c.draw.new.self c.self.invariant.named c.draw.ensures.queue (draw_capacity _ _ c.draw.result c.draw.ensures.seen) in
    still_whole c.draw.new.self c.self.inside.flights c.self.inside.deferred c.self.inside.drawn c.self.invariant named (ap (λ (v : Seen). v.drawn) c.self.view_is ∙ c.requires.nothing) (none_lent c.draw.result c.in-Err.answer _ c.in-Err.ensures c.draw.ensures.lent) c.self.invariant.room

pub invariant_of-self-then-has : goal.invariant_of-self-then-has
invariant_of-self-then-has g c =
    let named = still_named _ _ c.draw.new.self c.self.invariant.named c.draw.ensures.queue (draw_capacity _ _ c.draw.result c.draw.ensures.seen) in
    let room = subst HasRoom (sym c.self.view_is) c.requires.room in
    let got = got_is c.draw.result c.in-Ok.message c.in-Ok.ensures in
    ready_to_hold c.draw.new.self c.in-Ok.message c.args.now c.self.invariant named (subst (DrawLends c.draw.new.self.lent) got c.draw.ensures.lent) (when_true _ _ c.has.result c.has.ensures c.if-has.true) (subst DrawsShort got c.draw.ensures.short) room.deferred

pub invariant_of-self-2 : goal.invariant_of-self-2
invariant_of-self-2 g c =
    let named = still_named _ _ c.draw.new.self c.self.invariant.named c.draw.ensures.queue (draw_capacity _ _ c.draw.result c.draw.ensures.seen) in
    let room = subst HasRoom (sym c.self.view_is) c.requires.room in
    let got = got_is c.draw.result c.in-Ok.message c.in-Ok.ensures in
    ready_to_send c.draw.new.self _ c.self.invariant named (subst (DrawLends c.draw.new.self.lent) got c.draw.ensures.lent) (when_false _ _ c.has.result c.has.ensures c.if-has.false) room.flying room.deferred

pub returns-in-Err : goal.returns-in-Err
returns-in-Err g c = record {
  drawing = none_drawing c.draw.result c.in-Err.answer c.in-Err.ensures;
  drawn = none_leaves c.args.client c.args.now c.draw.result c.in-Err.answer _ c.in-Err.ensures (ap (λ (v : Seen). v.drawn) c.self.view_is ∙ c.requires.nothing);
  gives =
      λ told disk on.
      none_gives disk c.draw.result c.in-Err.answer _ c.self.view_is c.in-Err.ensures (c.draw.ensures.first told disk (subst (λ (v : Seen). OnDisk v.backlog.queue (g.F.Folder.files c.args.folder.now) disk) (sym c.self.view_is) on)) c.draw.ensures.seen;
  list = λ told disk on. c.draw.ensures.list told disk (subst (λ (v : Seen). OnDisk v.backlog.queue (g.F.Folder.files c.args.folder.now) disk) (sym c.self.view_is) on);
  rest = ap (λ (v : Seen). record v { backlog = c.draw.new.self; drawn = c.self.inside.drawn }) c.self.view_is;
  same = λ told. c.draw.ensures.same told;
  disk =
      let files = g.F.Folder.files in
      let count = g.F.Folder.folder_faults in
      keeps_of (files c.args.folder.now) (count c.args.folder.now) (around c.draw.new.self (files c.draw.new.folder) (count c.draw.new.folder)) c.self.view_is
      (keeps_drawn _ _ c.draw.ensures.queue c.draw.ensures.stands c.draw.ensures.same c.draw.ensures.faults);
  fault = none_fails _ _ c.draw.result c.in-Err.answer c.in-Err.ensures c.draw.ensures.cause;
}

pub returns-then-has : goal.returns-then-has
returns-then-has g c = record {
  drawing = tt;
  drawn = record { held = c.in-Ok.message; of = refl; is = refl };
  gives =
      λ told disk on.
      let there = subst (λ (v : Seen). OnDisk v.backlog.queue (g.F.Folder.files c.args.folder.now) disk) (sym c.self.view_is) on in
      let first = subst (DrawGives c.self.inside.backlog c.draw.new.self disk) (got_is c.draw.result c.in-Ok.message c.in-Ok.ensures) (c.draw.ensures.first told disk there) in
      drew_to_hold c.in-Ok.message disk c.self.view_is first.0 first.1 (when_true _ _ c.has.result c.has.ensures c.if-has.true) refl;
  list = λ told disk on. c.draw.ensures.list told disk (subst (λ (v : Seen). OnDisk v.backlog.queue (g.F.Folder.files c.args.folder.now) disk) (sym c.self.view_is) on);
  rest = ap (λ (v : Seen). record v { backlog = c.draw.new.self; drawn = ToHold c.in-Ok.message c.args.now }) c.self.view_is;
  same = λ told. c.draw.ensures.same told;
  disk =
      let files = g.F.Folder.files in
      let count = g.F.Folder.folder_faults in
      keeps_of (files c.args.folder.now) (count c.args.folder.now) (around c.draw.new.self (files c.draw.new.folder) (count c.draw.new.folder)) c.self.view_is
      (keeps_drawn _ _ c.draw.ensures.queue c.draw.ensures.stands c.draw.ensures.same c.draw.ensures.faults);
  fault = tt;
}

pub returns : goal.returns
returns g c = record {
  drawing = tt;
  drawn = (record { attempts = c.in-Ok.message.attempts; is = refl; raised = c.saturating_add.ensures }, subst DrawsShort (got_is c.draw.result c.in-Ok.message c.in-Ok.ensures) c.draw.ensures.short);
  gives =
      λ told disk on.
      let there = subst (λ (v : Seen). OnDisk v.backlog.queue (g.F.Folder.files c.args.folder.now) disk) (sym c.self.view_is) on in
      let first = subst (DrawGives c.self.inside.backlog c.draw.new.self disk) (got_is c.draw.result c.in-Ok.message c.in-Ok.ensures) (c.draw.ensures.first told disk there) in
      drew_to_send c.in-Ok.message _ disk c.self.view_is first.0 first.1 (when_false _ _ c.has.result c.has.ensures c.if-has.false) (ap (λ n. record (c.in-Ok.message) { attempts = n }) c.saturating_add.ensures) refl;
  list = λ told disk on. c.draw.ensures.list told disk (subst (λ (v : Seen). OnDisk v.backlog.queue (g.F.Folder.files c.args.folder.now) disk) (sym c.self.view_is) on);
  rest = ap (λ (v : Seen). record v { backlog = c.draw.new.self; drawn = ToSend (record { client = c.args.client; id = c.in-Ok.message.id; attempts = c.in-Ok.message.attempts; now = c.args.now }) }) c.self.view_is;
  same = λ told. c.draw.ensures.same told;
  disk =
      let files = g.F.Folder.files in
      let count = g.F.Folder.folder_faults in
      keeps_of (files c.args.folder.now) (count c.args.folder.now) (around c.draw.new.self (files c.draw.new.folder) (count c.draw.new.folder)) c.self.view_is
      (keeps_drawn _ _ c.draw.ensures.queue c.draw.ensures.stands c.draw.ensures.same c.draw.ensures.faults);
  fault = tt;
}
