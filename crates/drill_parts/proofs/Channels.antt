-- How many messages each row leaves in a channel that is kept on disk.
use Rattle.std.proofs.Common.{◌≡◌, ℕ, ◌+◌, ◌==◌, Bool, true, false, if◌then◌else◌, List, [], ◌∷◌, ◌++◌, length, refl, ap, ◌∙◌, arith}
use Rattle.std.specs.List.{count_by, filter}
use Rattle.std.proofs.lemmas.List.{length-map}
use Rattle.std.proofs.lemmas.List.Sums.{length-filter}
use Rattle.v2_frame.specs.declared.message.Message.{Message}
use Rattle.broker_history.specs.State.{Place, Deferred, Copy, Channel, is_live, queued}
use Rattle.broker_history.specs.Channels.{put_back, put_off, copy_at, one, IsSent, IsFinished, IsTouched, IsGivenBack, IsTimedOut, IsCameDue, IsHeldBack, Moves, Joins, Room, back_in, joins_at, Sends, Finishes, Touches, GivesBack, TimesOut, ComesDue, HoldsBack, Gets}
use Rattle.broker_history.specs.Left.{left_in_channel}
use Rattle.broker_history.proofs.Counting.{count-cons, count-append}

-- how many messages are left in a channel
abbrev pub channel_size : Channel → ℕ
channel_size k = length (left_in_channel k)

abbrev lives : Copy → Bool
lives x = is_live x.place

size_is : (k : Channel) → channel_size k ≡ count_by lives k.copies
size_is k = length-map (filter lives k.copies) (λ (x : Copy). x.message) ∙ length-filter lives k.copies

-- a channel changes: so many messages more are left, and so many fewer
pub record ChannelKeeps (more fewer : ℕ) (k k' : Channel) : Type 0 where
  pub name : k'.name ≡ k.name
  pub sum : channel_size k' + fewer ≡ channel_size k + more

-- one copy becomes another: how many live
moved : (before after : List Copy) (x y : Copy) → count_by lives (before ++ y ∷ after) + one (lives x) ≡ count_by lives (before ++ x ∷ after) + one (lives y)
moved before after x y =
    let a = count-append lives before (y ∷ after) in
    let b = count-append lives before (x ∷ after) in
    let c = count-cons lives y after in
    let d = count-cons lives x after in
    omega (arith, a, b, c, d)

-- a row takes a live copy, and it lives on or not
pub record Leads (Row : Copy → Copy → Type 0) (on : Bool) : Type 0 where
  pub lived : (x y : Copy) → Row x y → is_live x.place ≡ true
  pub lives : (x y : Copy) → Row x y → is_live y.place ≡ on

keeps : (Row : Copy → Copy → Type 0) (k k' : Channel) → Leads Row true → k'.name ≡ k.name → Moves Row k.copies k'.copies → ChannelKeeps 0 0 k k'
keeps Row k k' leads same m =
    let old = size_is k ∙ ap (count_by lives) m.was in
    let new = size_is k' ∙ ap (count_by lives) m.is in
    let change = moved m.before m.after m.from m.to in
    let from : one (lives m.from) ≡ 1 = ap one (leads.lived m.from m.to m.row) in
    let to : one (lives m.to) ≡ 1 = ap one (leads.lives m.from m.to m.row) in
    record { name = same; sum = omega (arith, old, new, change, from, to) }

loses : (Row : Copy → Copy → Type 0) (k k' : Channel) → Leads Row false → k'.name ≡ k.name → Moves Row k.copies k'.copies → ChannelKeeps 0 1 k k'
loses Row k k' leads same m =
    let old = size_is k ∙ ap (count_by lives) m.was in
    let new = size_is k' ∙ ap (count_by lives) m.is in
    let change = moved m.before m.after m.from m.to in
    let from : one (lives m.from) ≡ 1 = ap one (leads.lived m.from m.to m.row) in
    let to : one (lives m.to) ≡ 0 = ap one (leads.lives m.from m.to m.row) in
    record { name = same; sum = omega (arith, old, new, change, from, to) }

-- what is put back in a channel that isn't ephemeral lives
back_lives : (ephemeral : Bool) (mem count : ℕ) → ephemeral ≡ false → is_live (put_back ephemeral mem count) ≡ true
back_lives ephemeral mem count e = rw e refl

either_lives : (now : Bool) (n : ℕ) (back : Place) → is_live back ≡ true → is_live (if now then back else Deferred n) ≡ true
either_lives true n back e = e
either_lives false n back e = refl

module _ (room : Room) (durable : room.ephemeral ≡ false) (k k' : Channel) where
  back_on : is_live (back_in room k) ≡ true
  back_on = back_lives room.ephemeral room.mem (queued k.copies) durable

  off_on : (at delay : ℕ) → is_live (put_off at delay (back_in room k)) ≡ true
  off_on at delay = either_lives (delay == 0) _ (back_in room k) back_on

  pub gives_keeps : (client : ℕ) (id : List ℕ) (at delay : ℕ) → GivesBack Moves room client id at delay k k' → ChannelKeeps 0 0 k k'
  gives_keeps client id at delay r =
      keeps (IsGivenBack client id (put_off at delay (back_in room k))) k k'
      (record { lived = λ x y g. ap is_live g.flight.flies; lives = λ x y g. ap (λ (z : Copy). is_live z.place) g.goes ∙ off_on at delay }) (ap (λ (c : Channel). c.name) r.is) r.moves

  pub times_keeps : (id : List ℕ) (at : ℕ) → TimesOut Moves room id at k k' → ChannelKeeps 0 0 k k'
  times_keeps id at r =
      keeps (IsTimedOut id at (back_in room k)) k k' (record { lived = λ x y g. ap is_live g.flight.flies; lives = λ x y g. ap (λ (z : Copy). is_live z.place) g.goes ∙ back_on }) (ap (λ (c : Channel). c.name) r.is) r.moves

  pub comes_keeps : (id : List ℕ) (at : ℕ) → ComesDue Moves room id at k k' → ChannelKeeps 0 0 k k'
  comes_keeps id at r =
      keeps (IsCameDue id at (back_in room k)) k k' (record { lived = λ x y g. ap is_live g.waits; lives = λ x y g. ap (λ (z : Copy). is_live z.place) g.goes ∙ back_on }) (ap (λ (c : Channel). c.name) r.is) r.moves

  -- a copy that joins is one more
  pub gets_keeps : (at : ℕ) (m : Message) → Gets Joins room at m k k' → ChannelKeeps 1 0 k k'
  gets_keeps at m r =
      let x : Copy = copy_at m (joins_at room at m k) in
      let old = size_is k in
      let new = size_is k' ∙ ap (count_by lives) r.joins.is in
      let both = count-append lives k.copies (x ∷ []) in
      let last = count-cons lives x [] in
      let there : one (lives x) ≡ 1 = ap one (off_on at m.delay) in
      record { name = ap (λ (c : Channel). c.name) r.is; sum = omega (arith, old, new, both, last, there) }

module _ (k k' : Channel) where
  pub sends_keeps : (client at timeout : ℕ) (m : Message) → Sends Moves client at timeout m k k' → ChannelKeeps 0 0 k k'
  sends_keeps client at timeout m r =
      keeps (IsSent client at timeout m) k k' (record { lived = λ x y g. ap is_live g.waits; lives = λ x y g. ap (λ (z : Copy). is_live z.place) g.flies }) (ap (λ (c : Channel). c.name) r.is) r.moves

  pub finishes_keeps : (client : ℕ) (id : List ℕ) → Finishes Moves client id k k' → ChannelKeeps 0 1 k k'
  finishes_keeps client id r =
      loses (IsFinished client id) k k' (record { lived = λ x y g. ap is_live g.flight.flies; lives = λ x y g. ap (λ (z : Copy). is_live z.place) g.done }) (ap (λ (c : Channel). c.name) r.is) r.moves

  pub touches_keeps : (client : ℕ) (id : List ℕ) (at timeout most : ℕ) → Touches Moves client id at timeout most k k' → ChannelKeeps 0 0 k k'
  touches_keeps client id at timeout most r =
      keeps (IsTouched client id at timeout most) k k' (record { lived = λ x y g. ap is_live g.flight.flies; lives = λ x y g. ap (λ (z : Copy). is_live z.place) g.later }) (ap (λ (c : Channel). c.name) r.is) r.moves

  pub holds_keeps : (id : List ℕ) (until : ℕ) → HoldsBack Moves id until k k' → ChannelKeeps 0 0 k k'
  holds_keeps id until r =
      keeps (IsHeldBack id until) k k' (record { lived = λ x y g. ap is_live g.waits; lives = λ x y g. ap (λ (z : Copy). is_live z.place) g.goes }) (ap (λ (c : Channel). c.name) r.is) r.moves
