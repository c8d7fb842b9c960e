use Rattle.std.proofs.Common.{ℕ, ◌≤◌, refl, sym, ◌∙◌, ap, subst}
use Rattle.std.proofs.lemmas.Bool.{false≢true}
use Rattle.std.proofs.Math.Nat.{le_of_eq}
use Rattle.nsq_system.proofs.Heard.{failed_not_done}
use Rattle.nsq_system.proofs.Outgoing.{done_not_failed, none_there, some_there, no_more, sent_whole, sent_part}
use Rattle.nsq_system.proofs.outbox.Outbox.flush.Goals as goal

pub returns-then-is_empty : goal.returns-then-is_empty
returns-then-is_empty g c = record {
  delivered = λ taken d. d;
  gathered = none_there c.args.self.now.gathered.items c.args.self.now.gathered.len c.args.self.now.gathered.ok.0 c.if-is_empty.ensures;
  faults = le_of_eq refl;
  cause = tt;
  counted = refl;
  stays = λ broken. (broken, refl);
  done = λ _. refl;
  broken = λ failed. absurd (done_not_failed failed);
  nothing = λ _. refl;
  failed = λ _ some. absurd (some (none_there c.args.self.now.gathered.items c.args.self.now.gathered.len c.args.self.now.gathered.ok.0 c.if-is_empty.ensures));
}

pub returns-then-send_all_unless : goal.returns-then-send_all_unless
returns-then-send_all_unless g c = record {
  delivered = λ taken d. sent_whole (g.W.Write.contents c.args.self.now.writer) (g.W.Write.contents c.send_all_unless.new.writer) c.args.self.now.gathered.items c.as_slice.result.now c.clear.new.self.items taken c.args.self.now.broken
      (c.if-send_all_unless.ensures.all refl).0 c.as_slice.ensures.value c.clear.ensures.items (c.if-send_all_unless.ensures.all refl).1 d;
  gathered = c.clear.ensures.items;
  faults = le_of_eq refl;
  cause = tt;
  counted = refl;
  stays = λ broken. absurd (false≢true (sym (c.if-send_all_unless.ensures.all refl).0 ∙ broken));
  done = λ _. refl;
  broken = λ failed. absurd (done_not_failed failed);
  nothing = λ _. refl;
  failed = λ broken _. absurd (false≢true (sym (c.if-send_all_unless.ensures.all refl).0 ∙ broken));
}

pub returns : goal.returns
returns g c = record {
  delivered = λ taken d. sent_part (g.W.Write.contents c.args.self.now.writer) (g.W.Write.contents c.send_all_unless.new.writer) c.args.self.now.gathered.items c.as_slice.result.now c.clear-2.new.self.items taken c.args.self.now.broken
      c.as_slice.ensures.value c.send_all_unless.ensures.some (λ broken. ap g.W.Write.contents (c.send_all_unless.ensures.kept broken)) d;
  gathered = c.clear-2.ensures.items;
  faults = c.add.ensures.faults;
  cause = c.add.ensures.rose;
  counted = c.add.ensures.counted;
  stays = λ broken. (refl, c.send_all_unless.ensures.kept broken);
  done = λ done. absurd (failed_not_done done);
  broken = λ _. refl;
  nothing = λ none. absurd (some_there c.args.self.now.gathered.items c.args.self.now.gathered.len c.args.self.now.gathered.ok.0 c.if-is_empty.ensures none);
  failed = λ _ _. refl;
}

pub invariant_of-self : goal.invariant_of-self
invariant_of-self g c = record { bound = c.args.self.now.bound; room = c.args.self.now.room }

pub invariant_of-self-then-send_all_unless : goal.invariant_of-self-then-send_all_unless
invariant_of-self-then-send_all_unless g c = record { bound = no_more c.clear.new.self.items c.clear.ensures.items; room = subst (λ (n : ℕ). 16384 ≤ n) (sym c.clear.ensures.capacity) c.args.self.now.room }

pub invariant_of-self-2 : goal.invariant_of-self-2
invariant_of-self-2 g c = record { bound = no_more c.clear-2.new.self.items c.clear-2.ensures.items; room = subst (λ (n : ℕ). 16384 ≤ n) (sym c.clear-2.ensures.capacity) c.args.self.now.room }
