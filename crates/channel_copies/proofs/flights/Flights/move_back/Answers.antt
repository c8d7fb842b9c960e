use Rattle.std.specs.HashMap.{get}
use Rattle.std.proofs.Common.{◌<◌, nat_eq, sym, ap, ◌∙◌, refl, subst, option_copied, length, arith}
use Rattle.std.specs.Cmp.Lexicographic.{pointwise}
use Rattle.v2_frame.specs.declared.message.Message.{Message}
use Rattle.backlog.specs.Seen.{FitsLimit}
use Rattle.broker_history.specs.Channels.{AsOften}
use Rattle.channel_copies.specs.Flights.{Flying, WentBack, CostsCalls, flights_of_id}
use Rattle.channel_copies.specs.Putting.{around}
use Rattle.channel_copies.proofs.Heaps.{one_of_two, two_calls, fewer, taken_by}
use Rattle.channel_copies.specs.Index.{items_of}
use Rattle.channel_copies.proofs.Counts.{on_present}
use Rattle.channel_copies.proofs.Indexing.{counts_less, counts_again, taken_by_key, put_again, as_often_again, id_of_taken, fit_taken, has_key_of, is_some_of, copied_some, key_reaches, items_leave, none_left, has_one}
use Rattle.channel_copies.proofs.flights.Flights.move_back.Goals as goal

pub unwrap-key-requires : goal.unwrap-key-requires
unwrap-key-requires g c =
    copied_some c.get.result (c.get.ensures.value ∙ (has_key_of c.self.inside.heap.entries (get (pointwise nat_eq) c.self.inside.keys) c.args.id c.self.invariant.indexed (subst (λ (v : Flying). 0 < flights_of_id c.args.id v.flights) (sym c.self.view_is) c.requires.there)).1)

pub remove-message-requires : goal.remove-message-requires
remove-message-requires g c =
    is_some_of (key_reaches c.self.inside.heap.entries (get (pointwise nat_eq) c.self.inside.keys) c.args.id _ c.self.invariant.indexed (sym c.get.ensures.value ∙ ap option_copied c.unwrap-key.ensures)).there

pub put_back-requires-clause-short : goal.put_back-requires-clause-short
put_back-requires-clause-short g c = (fit_taken c.remove-message.ensures.one.1 c.self.invariant.indexed).short

pub invariant_of-self : goal.invariant_of-self
invariant_of-self g c =
    record { indexed = taken_by_key c.args.id c.remove-message.ensures.one.1 c.remove-message.ensures.item c.remove-message.ensures.others c.self.invariant.indexed (sym c.get.ensures.value ∙ ap option_copied c.unwrap-key.ensures) c.forget.ensures; counted = counts_less _ c.remove-message.ensures.one.1 c.self.invariant.counted c.count_down.ensures.counts }

pub invariant_of-self-in-Fault : goal.invariant_of-self-in-Fault
invariant_of-self-in-Fault g c =
    let at = sym c.get.ensures.value ∙ ap option_copied c.unwrap-key.ensures in
    let r = c.remove-message.ensures in
    let s = c.insert-key.ensures in
    let back = c.in-Fault.ensures.seen.0 in
    let fit = fit_taken r.one.1 c.self.invariant.indexed in
    record {
      indexed = put_again (get (pointwise nat_eq) c.self.inside.keys) c.args.id (taken_by_key c.args.id r.one.1 r.item r.others c.self.invariant.indexed at (λ q. refl)) (ap (λ (m : Message). m.id) back ∙ id_of_taken c.args.id r.item c.self.invariant.indexed at)
          s.one s.fresh s.live s.others (record { due = refl; short = subst FitsLimit (sym back) fit.short; sent = fit.sent }) (on_present _ c.insert-put.ensures.absent at c.insert-put.ensures.updates).0;
      counted = counts_again refl r.one.1 s.one c.self.invariant.counted;
    }

pub returns-in-Kept : goal.returns-in-Kept
returns-in-Kept g c =
    let at = sym c.get.ensures.value ∙ ap option_copied c.unwrap-key.ensures in
    let r = c.remove-message.ensures in
    let before = around c.args.backlog.now (g.F.Folder.files c.args.folder.now) (g.F.Folder.folder_faults c.args.folder.now) in
    let after = around c.put_back.new.backlog (g.F.Folder.files c.put_back.new.folder) (g.F.Folder.folder_faults c.put_back.new.folder) in
    record {
      moves = subst (λ (v : Flying). WentBack g.F.Folder.tells_files c.args.id v.flights (items_of c.remove-message.new.self.entries) before after) c.self.view_is (record {
        flight = c.remove-message.result;
        of = id_of_taken c.args.id r.item c.self.invariant.indexed at;
        leaves = items_leave r.one.1;
        none = none_left (get (pointwise nat_eq) c.self.inside.keys) c.args.id (taken_by_key c.args.id r.one.1 r.item r.others c.self.invariant.indexed at (λ q. refl));
        answer = c.put_back.result;
        taken = taken_by c.put_back.result c.in-Kept.is;
        puts = c.put_back.ensures;
      });
      steps = subst (λ (v : Flying). CostsCalls 2 (length v.flights) c.args.steps.now c.remove-message.new.steps) c.self.view_is (one_of_two (λ e. e.item) c.self.inside.heap.entries c.args.steps.now c.remove-message.new.steps r.steps);
    }

pub returns-in-Fault-clause-moves : goal.returns-in-Fault-clause-moves
returns-in-Fault-clause-moves g c =
    let r = c.remove-message.ensures in
    let same = ap (λ (m : Message). record c.remove-message.result { message = m }) c.in-Fault.ensures.seen.0 in
    record {
      often = subst (λ (v : Flying). AsOften v.flights (items_of c.insert-key.new.self.entries)) c.self.view_is (as_often_again same r.one.1 c.insert-key.ensures.one);
      message = c.remove-message.result.message;
      back = c.in-Fault.message;
      puts = c.in-Fault.ensures;
    }

pub returns-in-Fault-clause-steps : goal.returns-in-Fault-clause-steps
returns-in-Fault-clause-steps g c =
    subst (λ (v : Flying). CostsCalls 2 (length v.flights) c.args.steps.now c.insert-key.new.steps) c.self.view_is
    (two_calls (λ e. e.item) c.self.inside.heap.entries c.remove-message.new.self.entries c.args.steps.now c.remove-message.new.steps c.insert-key.new.steps (fewer c.remove-message.ensures.one.1) c.remove-message.ensures.steps c.insert-key.ensures.steps)

pub count_down-requires : goal.count_down-requires
count_down-requires g c = record { some = has_one c.remove-message.ensures.one.1 c.self.invariant.counted }

pub insert-key-requires : goal.insert-key-requires
insert-key-requires g c = omega (arith, c.remove-message.ensures.spare)
