-- What a call makes of a channel's copies, as a row.
use Rattle.std.proofs.Common.{◌≡◌, ℕ, ◌+◌, ◌<◌, min, Bool, true, false, ◌&&◌, List, [], ◌∷◌, ◌++◌, drop, length, Some, refl, sym, ap, ◌∙◌, subst, arith}
use Rattle.std.specs.List.{count_by}
use Rattle.std.proofs.lemmas.Bool.{eqb-true}
use Rattle.nsq_outside.specs.Files.{Files}
use Rattle.v2_frame.specs.declared.message.Message.{Message}
use Rattle.backlog.specs.Lists.{OnDisk, IsFirstMessage, list_with, disk_settled}
use Rattle.broker_history.specs.State.{Copy, Place, InFlight, Deferred, Finished, compared, raised}
use Rattle.broker_history.specs.Channels.{MovesLive, Finishes, Touches, Sends, HoldsBack, one, copy_at, is_free}
use Rattle.channel_copies.specs.declared.clients.Client.{Client}
use Rattle.channel_copies.specs.declared.flight.Flight.{Flight}
use Rattle.channel_copies.specs.Clients.{client_of}
use Rattle.channel_copies.specs.Flights.{Leaves, Prolongs, flights_of_id, has_id, has_client, touched}
use Rattle.channel_copies.proofs.Counts.{count-cons, count-and, and_true, shorter}
use Rattle.channel_copies.proofs.Indexing.{same_ids}
use Rattle.channel_core.specs.Seen.{Seen, queued_copy, flying_copy, deferred_copy, copies_of, channel_with, queued_in, drawn_in}
use Rattle.channel_core.specs.Answers.{IsYours}
use Rattle.channel_core.specs.Drawing.{Does, Leads, IsDrawnFor, IsFirstDrawn, first_drawn, timeout_of}
use Rattle.channel_core.proofs.Copies.{copies-count, flying_with_is}
use Rattle.channel_core.proofs.Looking.{timeout_is, isn't_free}

one_true : (b : Bool) → 0 < one b → b ≡ true
one_true true h = refl
one_true false h = absurd (let no : ⊥ = omega arith in no)

-- of those of its id as many passed a test as what went, which was the only one
passes : (p : Flight → Bool) (id : List ℕ) (f : Flight) (old new : List Flight) → f.message.id ≡ id → Leaves f old new → flights_of_id id new ≡ 0 → count_by (λ g. p g && has_id id g) old ≡ one (p f)
passes p id f old new of leaves none = omega (arith, leaves (λ g. p g && has_id id g), count-and p (has_id id) new, none, and_true (p f) (has_id id f) (same_ids id f.message.id (sym of)))

-- what is yours is in flight
pub yours_flies : (client : ℕ) (id : List ℕ) (v : Seen) → IsYours client id v → 0 < flights_of_id id v.flights
yours_flies client id v y = omega (arith, y.flies [], flying_with_is client id [] v.flights v.deferred, count-and (has_client client) (has_id id) v.flights)

pub asked : {client : ℕ} {id : List ℕ} {v0 v : Seen} → v0 ≡ v → IsYours client id v → 0 < flights_of_id id v0.flights
asked {client} {id} {v0} is y = yours_flies client id v0 (subst (IsYours client id) (sym is) y)

pub is_mine : (client : ℕ) (id : List ℕ) (f : Flight) (v : Seen) (new : List Flight) → IsYours client id v → f.message.id ≡ id → Leaves f v.flights new → flights_of_id id new ≡ 0 → f.client ≡ client
is_mine client id f v new y of leaves none =
    eqb-true f.client client (one_true (has_client client f) (omega (arith, y.flies [], flying_with_is client id [] v.flights v.deferred, passes (has_client client) id f v.flights new of leaves none)))

-- FIN
pub finished : (f : Flight) {client : ℕ} {id : List ℕ} {v0 v w : Seen} → v0 ≡ v → IsYours client id v → f.message.id ≡ id → Leaves f v0.flights w.flights → flights_of_id id w.flights ≡ 0 → w ≡ record v0 { flights = w.flights; spare = w.spare } → Does (Finishes MovesLive client id) v w
finished f {client} {id} {v0} {v} {w} is y of leaves none rest = subst (λ v. Does (Finishes MovesLive client id) v w) is (record {
  row = λ waits. record {
    moves = record {
      from = flying_copy f;
      to = record (flying_copy f) { place = Finished };
      row = record {
        due = f.due;
        sent = f.sent;
        flight = record { of = of; flies = ap (λ n. InFlight n f.due f.sent) (is_mine client id f v0 w.flights (subst (IsYours client id) (sym is) y) of leaves none) };
        done = refl;
      };
      there = λ p. omega (arith, copies-count p waits v0.flights v0.deferred, leaves (λ f. p (flying_copy f)));
      each = λ p. omega (arith, copies-count p waits v0.flights v0.deferred, copies-count p waits w.flights w.deferred, leaves (λ f. p (flying_copy f)), ap (λ (u : Seen). count_by (λ w. p (deferred_copy w)) u.deferred) rest);
    };
    is = ap (λ (u : Seen). record (channel_with u waits) { copies = copies_of waits w.flights w.deferred }) rest;
  };
})

-- TOUCH
pub prolonged : {client : ℕ} {id : List ℕ} {now until timeout most : ℕ} {v0 v w : Seen} → v0 ≡ v → IsYours client id v → until ≡ now + timeout → Prolongs id until most v0.flights w.flights → w ≡ record v0 { flights = w.flights; spare = w.spare } → Does (Touches MovesLive client id now timeout most) v w
prolonged {client} {id} {now} {until} {timeout} {most} {v0} {v} {w} is y at t rest = subst (λ v. Does (Touches MovesLive client id now timeout most) v w) is (record {
  row = λ waits.
      let f = t.flight in
      let mine = is_mine client id f v0 t.rest (subst (IsYours client id) (sym is) y) t.of t.goes t.none in
      record {
        moves = record {
          from = flying_copy f;
          to = flying_copy (touched until most f);
          row = record {
            due = f.due;
            sent = f.sent;
            flight = record { of = t.of; flies = ap (λ n. InFlight n f.due f.sent) mine };
            later = ap (λ n. copy_at f.message (InFlight n (min until (f.sent + most)) f.sent)) mine ∙ ap (λ n. copy_at f.message (InFlight client (min n (f.sent + most)) f.sent)) at;
          };
          there = λ p. omega (arith, copies-count p waits v0.flights v0.deferred, t.goes (λ f. p (flying_copy f)));
          each = λ p. omega (
            arith,
            copies-count p waits v0.flights v0.deferred,
            copies-count p waits w.flights w.deferred,
            t.goes (λ f. p (flying_copy f)),
            t.comes (λ f. p (flying_copy f)),
            ap (λ (u : Seen). count_by (λ w. p (deferred_copy w)) u.deferred) rest,
          );
        };
        is = ap (λ (u : Seen). record (channel_with u waits) { copies = copies_of waits w.flights w.deferred }) rest;
      };
})

-- the message that was drawn, with one more attempt, is the one that is sent
sent_copy : (first message : Message) (attempts : ℕ) (place : Place) → first ≡ record message { attempts = attempts } → message.attempts ≡ min (attempts + 1) 65535 → record { message = raised (compared first); place = place } ≡ copy_at message place
sent_copy first message attempts place is more =
    ap (λ (m : Message). record { message = record (compared m) { attempts = min (m.attempts + 1) 65535 }; place = place }) is ∙ ap (λ n. record { message = record (compared message) { attempts = n }; place = place }) (sym more)

-- the first of a list went
pub first_went : (first : Message) (old new : List Message) → IsFirstMessage old first → new ≡ drop 1 old → old ≡ first ∷ new
first_went first old new f is = f.whole ∙ ap (λ xs. first ∷ xs) (sym (is ∙ ap (drop 1) f.whole))

-- Sent
pub was_sent : {files : Files} (disk : List Message) (first : Message) (attempts : ℕ) (f : Flight) {client now timeout : ℕ} {message : Message} {waits : List Message} {v0 v w : Seen} → v0 ≡ v → f ≡ record { message = message; client = client; due = now + timeout; sent = now } → first ≡ record message { attempts = attempts } → message.attempts ≡ min (attempts + 1) 65535 → waits ≡ first ∷ queued_in w disk → OnDisk w.backlog.queue files disk → Leaves f w.flights v0.flights → w ≡ record v0 { backlog = w.backlog; flights = w.flights; drawn = w.drawn; spare = w.spare } → Leads (Sends MovesLive client now timeout message) v waits w files
was_sent {files} disk first attempts f {client} {now} {timeout} {message} {waits} {v0} {v} {w} is flight drawn more gone on joins rest = subst (λ v. Leads (Sends MovesLive client now timeout message) v waits w files) is (record {
  disk = disk;
  on_disk = on;
  row =
      let place = InFlight client (now + timeout) now in
      let is_copy : record { message = raised (compared first); place = place } ≡ flying_copy f = sent_copy first message attempts place drawn more ∙ ap flying_copy (sym flight) in
      record {
        moves = record {
          from = queued_copy first;
          to = record { message = raised (compared first); place = place };
          row = record { waits = refl; same = ap (λ (x : Copy). x.message) (sent_copy first message attempts place drawn more); flies = refl };
          there = λ p. omega (arith, copies-count p waits v0.flights v0.deferred, ap (count_by (λ m. p (queued_copy m))) gone, count-cons (λ m. p (queued_copy m)) first (queued_in w disk));
          each = λ p. omega (
            arith,
            copies-count p waits v0.flights v0.deferred,
            copies-count p (queued_in w disk) w.flights w.deferred,
            ap (count_by (λ m. p (queued_copy m))) gone,
            count-cons (λ m. p (queued_copy m)) first (queued_in w disk),
            joins (λ f. p (flying_copy f)),
            ap (λ x. one (p x)) is_copy,
            ap (λ (u : Seen). count_by (λ w. p (deferred_copy w)) u.deferred) rest,
          );
        };
        is = ap (λ (u : Seen). record (channel_with u waits) { copies = copies_of (queued_in w disk) w.flights w.deferred }) rest;
      };
})

-- HeldBack
pub was_held : {files : Files} (disk : List Message) (held : Message) {until : ℕ} {waits : List Message} {v0 v w : Seen} → v0 ≡ v → is_free held.id (copies_of waits v0.flights v0.deferred) ≡ false → waits ≡ held ∷ queued_in w disk → OnDisk w.backlog.queue files disk → Leaves (record { due = until; message = held }) w.deferred v0.deferred → w ≡ record v0 { backlog = w.backlog; deferred = w.deferred; drawn = w.drawn; deferred_spare = w.deferred_spare } → Leads (HoldsBack MovesLive held.id until) v waits w files
was_held {files} disk held {until} {waits} {v0} {v} {w} is flies gone on joins rest = subst (λ v. Leads (HoldsBack MovesLive held.id until) v waits w files) is (record {
  disk = disk;
  on_disk = on;
  row = record {
    flies = flies;
    moves = record {
      from = queued_copy held;
      to = copy_at held (Deferred until);
      row = record { of = refl; waits = refl; goes = refl };
      there = λ p. omega (arith, copies-count p waits v0.flights v0.deferred, ap (count_by (λ m. p (queued_copy m))) gone, count-cons (λ m. p (queued_copy m)) held (queued_in w disk));
      each = λ p. omega (
        arith,
        copies-count p waits v0.flights v0.deferred,
        copies-count p (queued_in w disk) w.flights w.deferred,
        ap (count_by (λ m. p (queued_copy m))) gone,
        count-cons (λ m. p (queued_copy m)) held (queued_in w disk),
        joins (λ w. p (deferred_copy w)),
        ap (λ (u : Seen). count_by (λ f. p (flying_copy f)) u.flights) rest,
      );
    };
    is = ap (λ (u : Seen). record (channel_with u waits) { copies = copies_of (queued_in w disk) w.flights w.deferred }) rest;
  };
})

-- a flight has another due moment: there are as many
pub as_many : {id : List ℕ} {until most : ℕ} (old new : List Flight) → Prolongs id until most old new → length old ≡ length new
as_many {until = until} {most = most} old new t = omega (arith, shorter t.flight old t.rest t.goes, shorter (touched until most t.flight) new t.rest t.comes)

-- TOUCH, for the client's time and the channel's greatest
pub touched_now : {client : ℕ} {id : List ℕ} {now until : ℕ} (k : Client) {v0 v w : Seen} → v0 ≡ v → IsYours client id v → client_of v0.clients client ≡ Some k → until ≡ now + k.timeout → Prolongs id until v0.about.max_msg_timeout v0.flights w.flights → w ≡ record v0 { flights = w.flights; spare = w.spare } → Does (Touches MovesLive client id now (timeout_of client v) v.about.max_msg_timeout) v w
touched_now {client} {id} {now} {until} k {v0} {v} {w} is y at sum t rest =
    subst (λ v. Does (Touches MovesLive client id now (timeout_of client v) v.about.max_msg_timeout) v w) is
    (prolonged {v0 = v0} {v = v0} refl (subst (IsYours client id) (sym is) y) (sum ∙ ap (λ n. now + n) (sym (timeout_is client v0 k at))) t rest)

-- Sent, to the client that it was drawn for
pub sent_row : {files : Files} {client now : ℕ} {message : Message} (disk : List Message) (f : Flight) (k : Client) {v0 v w : Seen} → v0 ≡ v → (d : IsDrawnFor client message now v.drawn) → client_of v0.clients client ≡ Some k → f ≡ record { message = message; client = client; due = now + k.timeout; sent = now } → IsFirstDrawn (first_drawn v.drawn message) v disk → ((first : Message) → w.backlog.ring ++ disk_settled v0.backlog.lent disk ≡ drop 1 (list_with v0.backlog first disk)) → OnDisk w.backlog.queue files (disk_settled v0.backlog.lent disk) → Leaves f w.flights v0.flights → w ≡ record v0 { backlog = w.backlog; flights = w.flights; drawn = w.drawn; spare = w.spare } → Leads (Sends MovesLive client now (timeout_of client v) message) v (drawn_in (first_drawn v.drawn message) v disk) w files
sent_row {files} {client} {now} {message} disk f k {v0} {v} {w} is d at flight top settles on joins rest =
    let first = first_drawn v.drawn message in
    let gone = first_went first (drawn_in first v disk) (queued_in w (disk_settled v0.backlog.lent disk)) top (settles first ∙ ap (λ (v : Seen). drop 1 (list_with v.backlog first disk)) is) in
    let time : timeout_of client v ≡ k.timeout = timeout_is client v k (subst (λ (v : Seen). client_of v.clients client ≡ Some k) is at) in
    was_sent (disk_settled v0.backlog.lent disk) first d.attempts f is (flight ∙ ap (λ n. record { message = message; client = client; due = now + n; sent = now }) (sym time)) (ap (λ x. first_drawn x message) d.is) d.raised gone on joins rest

-- HeldBack, of what was drawn to be held
pub held_row : {files : Files} {until : ℕ} (disk : List Message) (held : Message) {v0 v w : Seen} → v0 ≡ v → flights_of_id held.id v0.flights ≡ 1 → IsFirstDrawn held v disk → ((first : Message) → w.backlog.ring ++ disk_settled v0.backlog.lent disk ≡ drop 1 (list_with v0.backlog first disk)) → OnDisk w.backlog.queue files (disk_settled v0.backlog.lent disk) → Leaves (record { due = until; message = held }) w.deferred v0.deferred → w ≡ record v0 { backlog = w.backlog; deferred = w.deferred; drawn = w.drawn; deferred_spare = w.deferred_spare } → Leads (HoldsBack MovesLive held.id until) v (drawn_in held v disk) w files
held_row {files} {until} disk held {v0} {v} {w} is flies top settles on joins rest =
    let gone = first_went held (drawn_in held v disk) (queued_in w (disk_settled v0.backlog.lent disk)) top (settles held ∙ ap (λ (v : Seen). drop 1 (list_with v.backlog held disk)) is) in
    was_held (disk_settled v0.backlog.lent disk) held is (isn't_free held.id v0 (drawn_in held v disk) flies) gone on joins rest

-- until the time for a message of the options has passed
pub held_now : {files : Files} (now : ℕ) (disk : List Message) (held : Message) {v0 v w : Seen} → v0 ≡ v → flights_of_id held.id v0.flights ≡ 1 → IsFirstDrawn held v disk → ((first : Message) → w.backlog.ring ++ disk_settled v0.backlog.lent disk ≡ drop 1 (list_with v0.backlog first disk)) → OnDisk w.backlog.queue files (disk_settled v0.backlog.lent disk) → Leaves (record { due = now + v0.about.msg_timeout; message = held }) w.deferred v0.deferred → w ≡ record v0 { backlog = w.backlog; deferred = w.deferred; drawn = w.drawn; deferred_spare = w.deferred_spare } → Leads (HoldsBack MovesLive held.id (now + v.about.msg_timeout)) v (drawn_in held v disk) w files
held_now {files} now disk held {v0} {v} {w} is flies top settles on joins rest =
    subst (λ (v : Seen). Leads (HoldsBack MovesLive held.id (now + v.about.msg_timeout)) v (drawn_in held v disk) w files) is
    (held_row {until = now + v0.about.msg_timeout} disk held {v0 = v0} {v = v0} refl flies (subst (λ (v : Seen). IsFirstDrawn held v disk) (sym is) top) settles on joins rest)
