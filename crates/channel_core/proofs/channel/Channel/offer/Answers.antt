use Rattle.std.proofs.Common.{◌∙◌, length, sym, ap, subst, refl}
use Rattle.backlog.specs.Seen.{Seen as Backlog}
use Rattle.channel_copies.specs.Putting.{IsTaken, around}
use Rattle.channel_core.specs.Seen.{Seen}
use Rattle.channel_core.proofs.Keeping.{costs_none, keeps_of, nothing_lent, put_named, still_whole}
use Rattle.channel_core.proofs.Storing.{count_after, counts_so, deferred_back, deferred_fails, taken_so, was_deferred, was_put, was_refused}
use Rattle.channel_copies.proofs.Wrote.{keeps_put, keeps_same}
use Rattle.channel_core.proofs.channel.Channel.offer.Goals as goal

pub returns-then-message-ne0 : goal.returns-then-message-ne0
returns-then-message-ne0 g c = record {
  row = λ told disk on. was_deferred c.args.now c.args.message (g.F.Folder.files c.args.folder.now) disk c.args.self.now c.defer.new.self c.defer.result c.if-message-ne0.true c.defer.ensures.defers c.defer.ensures.rest on;
  back = deferred_back c.args.now c.args.message c.args.self.now c.defer.new.self c.defer.result c.defer.ensures.defers;
  rest =
      let w = c.defer.new.self in
      c.defer.ensures.rest ∙ ap (λ (b : Backlog). record c.args.self.now { message_count = w.message_count; backlog = b; deferred = w.deferred; deferred_spare = w.deferred_spare }) (sym (ap (λ (v : Seen). v.backlog) c.defer.ensures.rest));
  disk = keeps_same g.F.Folder.tells_files (g.F.Folder.files c.args.folder.now) (g.F.Folder.folder_faults c.args.folder.now) c.args.self.now.backlog c.defer.new.self.backlog (ap (λ (v : Seen). v.backlog) c.defer.ensures.rest);
  cause = deferred_fails _ _ c.args.now c.args.message c.args.self.now c.defer.new.self c.defer.result c.if-message-ne0.true c.defer.ensures.defers;
  steps = c.defer.ensures.steps;
  free = λ none. absurd (c.if-message-ne0.true none);
}

pub returns-in-Kept : goal.returns-in-Kept
returns-in-Kept g c = record {
  row =
      λ told disk on.
      let files = g.F.Folder.files in
      let count = g.F.Folder.folder_faults in
      was_put c.put_back.result (files c.args.folder.now) (files c.put_back.new.folder) (count c.args.folder.now) (count c.put_back.new.folder) disk c.self.view_is c.self.invariant.named told c.if-message-ne0.false (taken_so c.put_back.result c.in-Kept.is) c.put_back.ensures on refl
      (c.saturating_add-self-inside.ensures ∙ sym (counts_so c.put_back.result c.self.inside.message_count c.in-Kept.is));
  back = tt;
  rest = ap (λ (v : Seen). record v { message_count = c.saturating_add-self-inside.result; backlog = c.put_back.new.backlog; deferred = c.self.inside.deferred.waiting; deferred_spare = c.self.inside.deferred.spare }) c.self.view_is;
  disk =
      let files = g.F.Folder.files in
      let count = g.F.Folder.folder_faults in
      let after = around c.put_back.new.backlog (files c.put_back.new.folder) (count c.put_back.new.folder) in
      keeps_of (files c.args.folder.now) (count c.args.folder.now) after c.self.view_is (keeps_put c.put_back.result (around c.self.inside.backlog (files c.args.folder.now) (count c.args.folder.now)) after c.put_back.ensures);
  cause = tt;
  steps = costs_none 1 (length c.args.self.now.deferred) c.args.steps.now;
  free = λ none. refl;
}

pub returns-in-Dropped : goal.returns-in-Dropped
returns-in-Dropped g c = record {
  row =
      λ told disk on.
      let files = g.F.Folder.files in
      let count = g.F.Folder.folder_faults in
      was_put c.put_back.result (files c.args.folder.now) (files c.put_back.new.folder) (count c.args.folder.now) (count c.put_back.new.folder) disk c.self.view_is c.self.invariant.named told c.if-message-ne0.false (subst IsTaken (sym c.in-Dropped.is) tt) c.put_back.ensures on refl
      (sym (ap (λ a. count_after a c.self.inside.message_count) c.in-Dropped.is));
  back = tt;
  rest = ap (λ (v : Seen). record v { message_count = c.self.inside.message_count; backlog = c.put_back.new.backlog; deferred = c.self.inside.deferred.waiting; deferred_spare = c.self.inside.deferred.spare }) c.self.view_is;
  disk =
      let files = g.F.Folder.files in
      let count = g.F.Folder.folder_faults in
      let after = around c.put_back.new.backlog (files c.put_back.new.folder) (count c.put_back.new.folder) in
      keeps_of (files c.args.folder.now) (count c.args.folder.now) after c.self.view_is (keeps_put c.put_back.result (around c.self.inside.backlog (files c.args.folder.now) (count c.args.folder.now)) after c.put_back.ensures);
  cause = tt;
  steps = costs_none 1 (length c.args.self.now.deferred) c.args.steps.now;
  free = λ none. refl;
}

pub put_back-requires-clause-nothing : goal.put_back-requires-clause-nothing
put_back-requires-clause-nothing g c = nothing_lent (ap (λ (v : Seen). v.drawn) c.self.view_is ∙ c.requires.nothing) c.self.invariant

pub invariant_of-self : goal.invariant_of-self
invariant_of-self g c =
    still_whole _ _ _ _ c.self.invariant (put_named _ _ c.self.invariant.named c.put_back.ensures) (ap (λ (v : Seen). v.drawn) c.self.view_is ∙ c.requires.nothing) c.put_back.ensures.nothing c.self.invariant.room

pub invariant_of-self-in-Dropped : goal.invariant_of-self-in-Dropped
invariant_of-self-in-Dropped g c =
    still_whole _ _ _ _ c.self.invariant (put_named _ _ c.self.invariant.named c.put_back.ensures) (ap (λ (v : Seen). v.drawn) c.self.view_is ∙ c.requires.nothing) c.put_back.ensures.nothing c.self.invariant.room

pub invariant_of-self-in-Fault : goal.invariant_of-self-in-Fault
invariant_of-self-in-Fault g c =
    still_whole _ _ _ _ c.self.invariant (put_named _ _ c.self.invariant.named c.put_back.ensures) (ap (λ (v : Seen). v.drawn) c.self.view_is ∙ c.requires.nothing) c.put_back.ensures.nothing c.self.invariant.room

pub returns-in-Fault : goal.returns-in-Fault
returns-in-Fault g c = record {
  row =
      λ told disk on.
      let files = g.F.Folder.files in
      let count = g.F.Folder.folder_faults in
      was_refused c.in-Fault.message (files c.args.folder.now) (files c.put_back.new.folder) (count c.args.folder.now) (count c.put_back.new.folder) disk c.self.view_is told c.in-Fault.ensures on refl;
  back = c.in-Fault.ensures.seen.0;
  rest = ap (λ (v : Seen). record v { message_count = c.self.inside.message_count; backlog = c.put_back.new.backlog; deferred = c.self.inside.deferred.waiting; deferred_spare = c.self.inside.deferred.spare }) c.self.view_is;
  disk =
      let files = g.F.Folder.files in
      let count = g.F.Folder.folder_faults in
      let after = around c.put_back.new.backlog (files c.put_back.new.folder) (count c.put_back.new.folder) in
      keeps_of (files c.args.folder.now) (count c.args.folder.now) after c.self.view_is (keeps_put c.put_back.result (around c.self.inside.backlog (files c.args.folder.now) (count c.args.folder.now)) after c.put_back.ensures);
  cause = (c.if-message-ne0.false, c.in-Fault.ensures.cause);
  steps = refl;
  free = λ none. refl;
}

pub put_back-requires-clause-short : goal.put_back-requires-clause-short
put_back-requires-clause-short g c = c.requires.short
