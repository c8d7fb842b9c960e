-- How each row lets a channel's copies go on.
use Rattle.std.proofs.Common.{◌≡◌, ℕ, ◌==◌, Bool, true, false, not, ◌&&◌, if◌then◌else◌, List, [], ◌∷◌, ◌++◌, refl, sym, ap, subst, ◌∙◌}
use Rattle.std.proofs.lemmas.Bool.{false≢true}
use Rattle.std.proofs.lemmas.List.Folds.{list_all-append}
use Rattle.v2_frame.specs.declared.message.Message.{Message}
use Rattle.broker_history.specs.State.{Place, InFlight, Deferred, Finished, Emptied, Copy, Channel, is_live, queued}
use Rattle.broker_history.specs.Channels.{put_back, put_off, copy_at, IsSent, IsFinished, IsTouched, IsGivenBack, IsTimedOut, IsCameDue, IsHeldBack, Moves, Joins, Room, back_in, joins_at, is_dropped, emptied_copy, emptied_all, Sends, Finishes, Touches, GivesBack, TimesOut, ComesDue, HoldsBack, Gets}
use Rattle.history_laws.specs.Copies.{GoesOn, CopiesGoOn, none_dropped, ChannelGoesOn}

-- a copy goes on as it is
pub goes_itself : (x : Copy) → GoesOn x x
goes_itself x = record { id = refl; stamp = refl; body = refl; done = λ e. refl }

-- a live copy goes on with its message, to any place
goes_to : (x y : Copy) (place : Place) → is_live x.place ≡ true → y ≡ record x { place = place } → GoesOn x y
goes_to x y place live is = record {
  id = ap (λ (z : Copy). z.message.id) is;
  stamp = ap (λ (z : Copy). z.message.stamp) is;
  body = ap (λ (z : Copy). z.message.body) is;
  done = λ e. absurd (false≢true (sym e ∙ live));
}

pub copies_same : (xs : List Copy) → CopiesGoOn xs xs
copies_same [] = tt
copies_same (x ∷ xs) = (goes_itself x, copies_same xs)

copies_joined : (xs ys : List Copy) → CopiesGoOn xs (xs ++ ys)
copies_joined [] ys = tt
copies_joined (x ∷ xs) ys = (goes_itself x, copies_joined xs ys)

copies_moved : (before after : List Copy) (x y : Copy) → GoesOn x y → CopiesGoOn (before ++ x ∷ after) (before ++ y ∷ after)
copies_moved [] after x y g = (g, copies_same after)
copies_moved (b ∷ before) after x y g = (goes_itself b, copies_moved before after x y g)

-- what a copy becomes as its channel is emptied
emptied_one : (x : Copy) (b : Bool) → is_live x.place ≡ b → GoesOn x (if b then record x { place = Emptied } else x)
emptied_one x true e = goes_to x (record x { place = Emptied }) Emptied e refl
emptied_one x false e = goes_itself x

copies_emptied : (xs : List Copy) → CopiesGoOn xs (emptied_all xs)
copies_emptied [] = tt
copies_emptied (x ∷ xs) = (emptied_one x (is_live x.place) refl, copies_emptied xs)

-- dropped ones
both_parts : (a b : Bool) → (a && b) ≡ true → (a ≡ true) × (b ≡ true)
both_parts true b h = (refl, h)
both_parts false b h = absurd (false≢true h)

both_true : (a b : Bool) → a ≡ true → b ≡ true → (a && b) ≡ true
both_true true b h k = k
both_true false b h k = absurd (false≢true h)

none_moved : (before after : List Copy) (x y : Copy) → is_dropped y.place ≡ false → none_dropped (before ++ x ∷ after) ≡ true → none_dropped (before ++ y ∷ after) ≡ true
none_moved [] after x y kept none = both_true (not (is_dropped y.place)) (none_dropped after) (ap not kept) (both_parts (not (is_dropped x.place)) (none_dropped after) none).1
none_moved (b ∷ before) after x y kept none =
    let p = both_parts (not (is_dropped b.place)) (none_dropped (before ++ x ∷ after)) none in
    both_true (not (is_dropped b.place)) (none_dropped (before ++ y ∷ after)) p.0 (none_moved before after x y kept p.1)

none_joined : (xs : List Copy) (y : Copy) → is_dropped y.place ≡ false → none_dropped xs ≡ true → none_dropped (xs ++ y ∷ []) ≡ true
none_joined xs y kept none = list_all-append (λ (x : Copy). not (is_dropped x.place)) xs (y ∷ []) ∙ both_true (none_dropped xs) (not (is_dropped y.place) && true) none (both_true (not (is_dropped y.place)) true (ap not kept) refl)

none_one : (x : Copy) (b : Bool) → not (is_dropped x.place) ≡ true → not (is_dropped (if b then record x { place = Emptied } else x).place) ≡ true
none_one x true e = refl
none_one x false e = e

none_emptied : (xs : List Copy) → none_dropped xs ≡ true → none_dropped (emptied_all xs) ≡ true
none_emptied [] none = refl
none_emptied (x ∷ xs) none =
    let p = both_parts (not (is_dropped x.place)) (none_dropped xs) none in
    both_true (not (is_dropped (emptied_copy x).place)) (none_dropped (emptied_all xs)) (none_one x (is_live x.place) p.0) (none_emptied xs p.1)

-- what is put back in a channel that isn't ephemeral isn't dropped
back_kept : (ephemeral : Bool) (mem count : ℕ) → ephemeral ≡ false → is_dropped (put_back ephemeral mem count) ≡ false
back_kept ephemeral mem count e = rw e refl

off_one : (now : Bool) (n : ℕ) (back : Place) → is_dropped back ≡ false → is_dropped (if now then back else Deferred n) ≡ false
off_one true n back e = e
off_one false n back e = refl

-- a row is good: its copies go on, and in a channel that isn't ephemeral it drops none
pub record IsGood (ephemeral : Bool) (Row : Copy → Copy → Type 0) : Type 0 where
  pub goes : (x y : Copy) → Row x y → GoesOn x y
  pub kept : ephemeral ≡ false → (x y : Copy) → Row x y → is_dropped y.place ≡ false

flying_live : (x : Copy) (client due sent : ℕ) → x.place ≡ InFlight client due sent → is_live x.place ≡ true
flying_live x client due sent e = ap is_live e

to_place : (x y : Copy) (place : Place) → y ≡ record x { place = place } → is_dropped place ≡ false → is_dropped y.place ≡ false
to_place x y place is kept = ap (λ (z : Copy). is_dropped z.place) is ∙ kept

sent_good : (ephemeral : Bool) (client at timeout : ℕ) (m : Message) → IsGood ephemeral (IsSent client at timeout m)
sent_good ephemeral client at timeout m = record {
  goes = λ x y r. record {
    id = ap (λ (z : Copy). z.message.id) r.flies;
    stamp = ap (λ (z : Copy). z.message.stamp) r.flies;
    body = ap (λ (z : Copy). z.message.body) r.flies;
    done = λ e. absurd (false≢true (sym e ∙ ap is_live r.waits));
  };
  kept = λ e x y r. ap (λ (z : Copy). is_dropped z.place) r.flies;
}

finished_good : (ephemeral : Bool) (client : ℕ) (id : List ℕ) → IsGood ephemeral (IsFinished client id)
finished_good ephemeral client id = record {
  goes = λ x y r. goes_to x y Finished (flying_live x client r.due r.sent r.flight.flies) r.done;
  kept = λ e x y r. to_place x y Finished r.done refl;
}

touched_good : (ephemeral : Bool) (client : ℕ) (id : List ℕ) (at timeout most : ℕ) → IsGood ephemeral (IsTouched client id at timeout most)
touched_good ephemeral client id at timeout most = record {
  goes = λ x y r. goes_to x y _ (flying_live x client r.due r.sent r.flight.flies) r.later;
  kept = λ e x y r. to_place x y _ r.later refl;
}

given_good : (ephemeral : Bool) (client : ℕ) (id : List ℕ) (place : Place) → (ephemeral ≡ false → is_dropped place ≡ false) → IsGood ephemeral (IsGivenBack client id place)
given_good ephemeral client id place kept = record {
  goes = λ x y r. goes_to x y place (flying_live x client r.due r.sent r.flight.flies) r.goes;
  kept = λ e x y r. to_place x y place r.goes (kept e);
}

timed_good : (ephemeral : Bool) (id : List ℕ) (at : ℕ) (place : Place) → (ephemeral ≡ false → is_dropped place ≡ false) → IsGood ephemeral (IsTimedOut id at place)
timed_good ephemeral id at place kept = record {
  goes = λ x y r. goes_to x y place (flying_live x r.client r.due r.sent r.flight.flies) r.goes;
  kept = λ e x y r. to_place x y place r.goes (kept e);
}

due_good : (ephemeral : Bool) (id : List ℕ) (at : ℕ) (place : Place) → (ephemeral ≡ false → is_dropped place ≡ false) → IsGood ephemeral (IsCameDue id at place)
due_good ephemeral id at place kept = record {
  goes = λ x y r. goes_to x y place (ap is_live r.waits) r.goes;
  kept = λ e x y r. to_place x y place r.goes (kept e);
}

held_good : (ephemeral : Bool) (id : List ℕ) (until : ℕ) → IsGood ephemeral (IsHeldBack id until)
held_good ephemeral id until = record {
  goes = λ x y r. goes_to x y (Deferred until) (ap is_live r.waits) r.goes;
  kept = λ e x y r. to_place x y (Deferred until) r.goes refl;
}

-- a channel goes on by a good row
pub channel_moves : (ephemeral : Bool) (Row : Copy → Copy → Type 0) (k k' : Channel) → IsGood ephemeral Row → Moves Row k.copies k'.copies → ChannelGoesOn ephemeral k k'
channel_moves ephemeral Row k k' good m = record {
  copies = subst (λ xs. CopiesGoOn xs k'.copies) (sym m.was) (subst (λ ys. CopiesGoOn (m.before ++ m.from ∷ m.after) ys) (sym m.is) (copies_moved m.before m.after m.from m.to (good.goes m.from m.to m.row)));
  kept = λ e none. ap none_dropped m.is ∙ none_moved m.before m.after m.from m.to (good.kept e m.from m.to m.row) (ap none_dropped (sym m.was) ∙ none);
}

pub channel_same : (ephemeral : Bool) (k k' : Channel) → k'.copies ≡ k.copies → ChannelGoesOn ephemeral k k'
channel_same ephemeral k k' same = record {
  copies = subst (λ xs. CopiesGoOn k.copies xs) (sym same) (copies_same k.copies);
  kept = λ e none. ap none_dropped same ∙ none;
}

pub channel_emptied : (ephemeral : Bool) (k : Channel) → ChannelGoesOn ephemeral k (record k { copies = emptied_all k.copies })
channel_emptied ephemeral k = record { copies = copies_emptied k.copies; kept = λ e none. none_emptied k.copies none }

module _ (room : Room) (k k' : Channel) where
  kept_back : room.ephemeral ≡ false → is_dropped (back_in room k) ≡ false
  kept_back e = back_kept room.ephemeral room.mem (queued k.copies) e

  kept_off : (at delay : ℕ) → room.ephemeral ≡ false → is_dropped (put_off at delay (back_in room k)) ≡ false
  kept_off at delay e = off_one (delay == 0) _ (back_in room k) (kept_back e)

  pub sends_on : (client at timeout : ℕ) (m : Message) → Sends Moves client at timeout m k k' → ChannelGoesOn room.ephemeral k k'
  sends_on client at timeout m r = channel_moves room.ephemeral _ k k' (sent_good room.ephemeral client at timeout m) r.moves

  pub finishes_on : (client : ℕ) (id : List ℕ) → Finishes Moves client id k k' → ChannelGoesOn room.ephemeral k k'
  finishes_on client id r = channel_moves room.ephemeral _ k k' (finished_good room.ephemeral client id) r.moves

  pub touches_on : (client : ℕ) (id : List ℕ) (at timeout most : ℕ) → Touches Moves client id at timeout most k k' → ChannelGoesOn room.ephemeral k k'
  touches_on client id at timeout most r = channel_moves room.ephemeral _ k k' (touched_good room.ephemeral client id at timeout most) r.moves

  pub gives_on : (client : ℕ) (id : List ℕ) (at delay : ℕ) → GivesBack Moves room client id at delay k k' → ChannelGoesOn room.ephemeral k k'
  gives_on client id at delay r = channel_moves room.ephemeral _ k k' (given_good room.ephemeral client id (put_off at delay (back_in room k)) (kept_off at delay)) r.moves

  pub times_on : (id : List ℕ) (at : ℕ) → TimesOut Moves room id at k k' → ChannelGoesOn room.ephemeral k k'
  times_on id at r = channel_moves room.ephemeral _ k k' (timed_good room.ephemeral id at (back_in room k) kept_back) r.moves

  pub comes_on : (id : List ℕ) (at : ℕ) → ComesDue Moves room id at k k' → ChannelGoesOn room.ephemeral k k'
  comes_on id at r = channel_moves room.ephemeral _ k k' (due_good room.ephemeral id at (back_in room k) kept_back) r.moves

  pub holds_on : (id : List ℕ) (until : ℕ) → HoldsBack Moves id until k k' → ChannelGoesOn room.ephemeral k k'
  holds_on id until r = channel_moves room.ephemeral _ k k' (held_good room.ephemeral id until) r.moves

  pub gets_on : (at : ℕ) (m : Message) → Gets Joins room at m k k' → ChannelGoesOn room.ephemeral k k'
  gets_on at m r = record {
    copies = subst (λ xs. CopiesGoOn k.copies xs) (sym r.joins.is) (copies_joined k.copies (copy_at m (joins_at room at m k) ∷ []));
    kept = λ e none. ap none_dropped r.joins.is ∙ none_joined k.copies (copy_at m (joins_at room at m k)) (kept_off at m.delay e) none;
  }
