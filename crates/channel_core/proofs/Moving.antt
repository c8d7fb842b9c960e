-- What is put back, as a row.
use Rattle.std.proofs.Common.{◌≡◌, ℕ, ◌+◌, ◌≤◌, Bool, true, false, not, nat_eq, ◌&&◌, if◌then◌else◌, List, length, Option, Some, None, IsTrue, refl, sym, ap, ◌∙◌, subst, arith}
use Rattle.std.specs.List.{count_by}
use Rattle.std.specs.Prelude.{is_some}
use Rattle.nsq_outside.specs.Files.{Files}
use Rattle.v2_frame.specs.declared.message.Message.{Message}
use Rattle.backlog.specs.Queues.{Seen as Queue}
use Rattle.backlog.specs.Lists.{OnDisk}
use Rattle.broker_history.specs.State.{Copy, InFlight, Deferred, counted, is_live}
use Rattle.broker_history.specs.Channels.{MovesLive, GivesBack, TimesOut, ComesDue, one, copy_at, put_off, put_back, back_in}
use Rattle.channel_copies.specs.declared.flight.Flight.{Flight}
use Rattle.channel_copies.specs.Flights.{Leaves, WentBack, CameAgain, flights_of_id}
use Rattle.channel_copies.specs.Deferred.{FirstWentBack, WaitsAgain}
use Rattle.channel_copies.specs.Putting.{around}
use Rattle.channel_core.specs.Seen.{Seen, queued_copy, flying_copy, deferred_copy, copies_of, channel_with, queued_in, room_of}
use Rattle.channel_core.specs.Answers.{IsYours}
use Rattle.channel_core.specs.Drawing.{Leads, IsAsBefore}
use Rattle.channel_core.specs.Kept.{IsBacklogOf}
use Rattle.channel_core.proofs.Copies.{copies-count, queued_is}
use Rattle.channel_core.proofs.Joining.{back_place, has_no_disk, put_in, put_none, waits_count}
use Rattle.channel_core.proofs.Rows.{is_mine}

-- an ephemeral channel has no queue on disk
no_disk : (queue : Option Queue) (e : Bool) → is_some queue ≡ not e → e ≡ has_no_disk queue
no_disk None true is = refl
no_disk None false is = absurd (let no : ⊥ = cc in no)
no_disk (Some q) true is = absurd (let no : ⊥ = cc in no)
no_disk (Some q) false is = refl

-- where a copy of this channel is put back
pub back_is : (v : Seen) (disk : List Message) → IsBacklogOf v.about v.backlog → back_in (room_of v) (channel_with v (queued_in v disk)) ≡ back_place v.backlog.queue v.backlog.capacity v.backlog.ring disk
back_is v disk named =
    ap (λ n. put_back (room_of v).ephemeral v.about.mem_queue_size n) (queued_is (queued_in v disk) v.flights v.deferred)
    ∙ (ap (λ e. put_back e v.about.mem_queue_size (length (queued_in v disk))) (no_disk v.backlog.queue (room_of v).ephemeral named.durable)
    ∙ ap (λ mem. put_back (has_no_disk v.backlog.queue) mem (length (queued_in v disk))) (sym named.capacity))

joins_back : (p : Copy → Bool) (m : Message) (v : Seen) (disk : List Message) → IsBacklogOf v.about v.backlog
    → one (is_live (back_in (room_of v) (channel_with v (queued_in v disk))) && p (copy_at m (back_in (room_of v) (channel_with v (queued_in v disk))))) ≡ one (is_live (back_place v.backlog.queue v.backlog.capacity v.backlog.ring disk) && p (copy_at m (back_place v.backlog.queue v.backlog.capacity v.backlog.ring disk)))
joins_back p m v disk named = ap (λ x. one (is_live x && p (copy_at m x))) (back_is v disk named)

-- a flight was put back, whatever it is called
module _ (f : Flight) (v w : Seen) (disk to : List Message) (named : IsBacklogOf v.about v.backlog) (leaves : Leaves f v.flights w.flights) (joins : (p : Copy → Bool) → waits_count p v.backlog.ring disk + one (is_live (back_place v.backlog.queue v.backlog.capacity v.backlog.ring disk) && p (copy_at f.message (back_place v.backlog.queue v.backlog.capacity v.backlog.ring disk))) ≡ waits_count p w.backlog.ring to) (same : w.deferred ≡ v.deferred) where
  flight_there : (p : Copy → Bool) → one (p (flying_copy f)) ≤ count_by p (copies_of (queued_in v disk) v.flights v.deferred)
  flight_there p = omega (arith, copies-count p (queued_in v disk) v.flights v.deferred, leaves (λ f. p (flying_copy f)))

  flight_each : (p : Copy → Bool) → count_by p (copies_of (queued_in v disk) v.flights v.deferred) + one (is_live (back_in (room_of v) (channel_with v (queued_in v disk))) && p (copy_at f.message (back_in (room_of v) (channel_with v (queued_in v disk))))) ≡ count_by p (copies_of (queued_in w to) w.flights w.deferred) + one (p (flying_copy f))
  flight_each p = omega (
    arith,
    copies-count p (queued_in v disk) v.flights v.deferred,
    copies-count p (queued_in w to) w.flights w.deferred,
    leaves (λ f. p (flying_copy f)),
    joins p,
    joins_back p f.message v disk named,
    ap (count_by (λ w. p (deferred_copy w))) same,
  )

-- REQ with no delay
pub gave_back : {tells : Bool} {client : ℕ} {id : List ℕ} {now delay : ℕ} (files files' : Files) (faults faults' : ℕ) (disk : List Message) {v0 v w : Seen} → v0 ≡ v → IsBacklogOf v0.about v0.backlog → IsTrue tells → delay ≡ 0 → IsYours client id v → WentBack tells id v0.flights w.flights (around v0.backlog files faults) (around w.backlog files' faults') → OnDisk v0.backlog.queue files disk → w.requeue_count ≡ counted v0.requeue_count → w ≡ record v0 { requeue_count = w.requeue_count; backlog = w.backlog; flights = w.flights; spare = w.spare } → Leads (GivesBack MovesLive (room_of v) client id now delay) v (queued_in v disk) w files'
gave_back {tells} {client} {id} {now} {delay} files files' faults faults' disk {v0} {v} {w} is named told none y b on count rest =
    subst (λ n. Leads (GivesBack MovesLive (room_of v) client id now n) v (queued_in v disk) w files') (sym none) (subst (λ v. Leads (GivesBack MovesLive (room_of v) client id now 0) v (queued_in v disk) w files') is (
    let f = b.flight in
    let i = put_in tells f.message b.answer (around v0.backlog files faults) (around w.backlog files' faults') disk told b.taken b.puts on in
    let same = ap (λ (u : Seen). u.deferred) rest in
    record {
      disk = i.to;
      on_disk = i.on_disk;
      row = record {
        moves = record {
          from = flying_copy f;
          to = copy_at f.message (back_in (room_of v0) (channel_with v0 (queued_in v0 disk)));
          row = record {
            due = f.due;
            sent = f.sent;
            flight = record { of = b.of; flies = ap (λ n. InFlight n f.due f.sent) (is_mine client id f v0 w.flights (subst (IsYours client id) (sym is) y) b.of b.leaves b.none) };
            goes = refl;
          };
          there = flight_there f v0 w disk i.to named b.leaves i.counts same;
          each = flight_each f v0 w disk i.to named b.leaves i.counts same;
        };
        is =
            ap (λ (u : Seen). record (channel_with u (queued_in w i.to)) { requeue_count = w.requeue_count; copies = copies_of (queued_in w i.to) w.flights w.deferred }) rest
            ∙ ap (λ n. record (channel_with v0 (queued_in w i.to)) { requeue_count = n; copies = copies_of (queued_in w i.to) w.flights w.deferred }) count;
      };
    }))

-- TimedOut
pub timed_out : {tells : Bool} {id : List ℕ} {now : ℕ} (files files' : Files) (faults faults' : ℕ) (disk : List Message) {v0 v w : Seen} → v0 ≡ v → IsBacklogOf v0.about v0.backlog → IsTrue tells → (b : WentBack tells id v0.flights w.flights (around v0.backlog files faults) (around w.backlog files' faults')) → b.flight.due ≤ now → OnDisk v0.backlog.queue files disk → w.timeout_count ≡ counted v0.timeout_count → w ≡ record v0 { timeout_count = w.timeout_count; backlog = w.backlog; flights = w.flights; spare = w.spare } → Leads (TimesOut MovesLive (room_of v) id now) v (queued_in v disk) w files'
timed_out {tells} {id} {now} files files' faults faults' disk {v0} {v} {w} is named told b due on count rest =
    subst (λ v. Leads (TimesOut MovesLive (room_of v) id now) v (queued_in v disk) w files') is (
    let f = b.flight in
    let i = put_in tells f.message b.answer (around v0.backlog files faults) (around w.backlog files' faults') disk told b.taken b.puts on in
    let same = ap (λ (u : Seen). u.deferred) rest in
    record {
      disk = i.to;
      on_disk = i.on_disk;
      row = record {
        moves = record {
          from = flying_copy f;
          to = copy_at f.message (back_in (room_of v0) (channel_with v0 (queued_in v0 disk)));
          row = record { client = f.client; due = f.due; sent = f.sent; flight = record { of = b.of; flies = refl }; came = due; goes = refl };
          there = flight_there f v0 w disk i.to named b.leaves i.counts same;
          each = flight_each f v0 w disk i.to named b.leaves i.counts same;
        };
        is =
            ap (λ (u : Seen). record (channel_with u (queued_in w i.to)) { timeout_count = w.timeout_count; copies = copies_of (queued_in w i.to) w.flights w.deferred }) rest
            ∙ ap (λ n. record (channel_with v0 (queued_in w i.to)) { timeout_count = n; copies = copies_of (queued_in w i.to) w.flights w.deferred }) count;
      };
    })

-- CameDue
pub came_due : {tells : Bool} {id : List ℕ} {now : ℕ} (files files' : Files) (faults faults' : ℕ) (disk : List Message) {v0 v w : Seen} → v0 ≡ v → IsBacklogOf v0.about v0.backlog → IsTrue tells → (b : FirstWentBack tells v0.deferred w.deferred (around v0.backlog files faults) (around w.backlog files' faults')) → b.waiting.message.id ≡ id → b.waiting.due ≤ now → OnDisk v0.backlog.queue files disk → w ≡ record v0 { backlog = w.backlog; deferred = w.deferred; deferred_spare = w.deferred_spare } → Leads (ComesDue MovesLive (room_of v) id now) v (queued_in v disk) w files'
came_due {tells} {id} {now} files files' faults faults' disk {v0} {v} {w} is named told b of due on rest =
    subst (λ v. Leads (ComesDue MovesLive (room_of v) id now) v (queued_in v disk) w files') is (
    let m = b.waiting in
    let i = put_in tells m.message b.answer (around v0.backlog files faults) (around w.backlog files' faults') disk told b.taken b.puts on in
    record {
      disk = i.to;
      on_disk = i.on_disk;
      row = record {
        moves = record {
          from = deferred_copy m;
          to = copy_at m.message (back_in (room_of v0) (channel_with v0 (queued_in v0 disk)));
          row = record { due = m.due; of = of; waits = refl; came = due; goes = refl };
          there = λ p. omega (arith, copies-count p (queued_in v0 disk) v0.flights v0.deferred, b.leaves (λ w. p (deferred_copy w)));
          each = λ p. omega (
            arith,
            copies-count p (queued_in v0 disk) v0.flights v0.deferred,
            copies-count p (queued_in w i.to) w.flights w.deferred,
            b.leaves (λ w. p (deferred_copy w)),
            i.counts p,
            joins_back p m.message v0 disk named,
            ap (λ (u : Seen). count_by (λ f. p (flying_copy f)) u.flights) rest,
          );
        };
        is = ap (λ (u : Seen). record (channel_with u (queued_in w i.to)) { copies = copies_of (queued_in w i.to) w.flights w.deferred }) rest;
      };
    })

-- REQ with a delay
pub was_deferred : {client : ℕ} {id : List ℕ} {now delay : ℕ} (files : Files) (disk : List Message) (f : Flight) {v0 v w : Seen} → v0 ≡ v → nat_eq delay 0 ≡ false → IsYours client id v → f.message.id ≡ id → Leaves f v0.flights w.flights → flights_of_id id w.flights ≡ 0 → Leaves (record { due = now + delay; message = f.message }) w.deferred v0.deferred → OnDisk v0.backlog.queue files disk → w.requeue_count ≡ counted v0.requeue_count → w ≡ record v0 { requeue_count = w.requeue_count; flights = w.flights; deferred = w.deferred; spare = w.spare; deferred_spare = w.deferred_spare } → Leads (GivesBack MovesLive (room_of v) client id now delay) v (queued_in v disk) w files
was_deferred {client} {id} {now} {delay} files disk f {v0} {v} {w} is some y of leaves none joins on count rest =
    subst (λ v. Leads (GivesBack MovesLive (room_of v) client id now delay) v (queued_in v disk) w files) is (
    let back = back_in (room_of v0) (channel_with v0 (queued_in v0 disk)) in
    let place : put_off now delay back ≡ Deferred (now + delay) = ap (λ b. if b then back else Deferred (now + delay)) some in
    record {
      disk = disk;
      on_disk = subst (λ (u : Seen). OnDisk u.backlog.queue files disk) (sym rest) on;
      row = record {
        moves = record {
          from = flying_copy f;
          to = copy_at f.message (put_off now delay back);
          row = record {
            due = f.due;
            sent = f.sent;
            flight = record { of = of; flies = ap (λ n. InFlight n f.due f.sent) (is_mine client id f v0 w.flights (subst (IsYours client id) (sym is) y) of leaves none) };
            goes = refl;
          };
          there = λ p. omega (arith, copies-count p (queued_in v0 disk) v0.flights v0.deferred, leaves (λ f. p (flying_copy f)));
          each = λ p. omega (
            arith,
            copies-count p (queued_in v0 disk) v0.flights v0.deferred,
            copies-count p (queued_in w disk) w.flights w.deferred,
            leaves (λ f. p (flying_copy f)),
            joins (λ w. p (deferred_copy w)),
            ap (λ x. one (is_live x && p (copy_at f.message x))) place,
            ap (λ (u : Seen). count_by (λ m. p (queued_copy m)) (queued_in u disk)) rest,
          );
        };
        is =
            ap (λ (u : Seen). record (channel_with u (queued_in w disk)) { requeue_count = w.requeue_count; copies = copies_of (queued_in w disk) w.flights w.deferred }) rest
            ∙ ap (λ n. record (channel_with v0 (queued_in w disk)) { requeue_count = n; copies = copies_of (queued_in w disk) w.flights w.deferred }) count;
      };
    })

-- the folder failed, and a flight is there again
pub flies_again : {tells : Bool} (files files' : Files) (faults faults' : ℕ) (disk : List Message) {v0 v w : Seen} → v0 ≡ v → IsTrue tells → CameAgain tells v0.flights w.flights (around v0.backlog files faults) (around w.backlog files' faults') → OnDisk v0.backlog.queue files disk → w ≡ record v0 { backlog = w.backlog; flights = w.flights; spare = w.spare } → Leads IsAsBefore v (queued_in v disk) w files'
flies_again {tells} files files' faults faults' disk {v0} {v} {w} is told b on rest =
    subst (λ v. Leads IsAsBefore v (queued_in v disk) w files') is (
    let i = put_none tells b.message b.back (around v0.backlog files faults) (around w.backlog files' faults') disk told b.puts on in
    record {
      disk = disk;
      on_disk = i.on_disk;
      row = record {
        often = λ p. omega (
          arith,
          copies-count p (queued_in v0 disk) v0.flights v0.deferred,
          copies-count p (queued_in w disk) w.flights w.deferred,
          b.often (λ f. p (flying_copy f)),
          ap (count_by (λ m. p (queued_copy m))) i.same,
          ap (λ (u : Seen). count_by (λ w. p (deferred_copy w)) u.deferred) rest,
        );
        is = ap (λ (u : Seen). record (channel_with u (queued_in w disk)) { copies = copies_of (queued_in w disk) w.flights w.deferred }) rest;
      };
    })

-- and a deferred copy
pub waits_again : {tells : Bool} (files files' : Files) (faults faults' : ℕ) (disk : List Message) {v0 v w : Seen} → v0 ≡ v → IsTrue tells → WaitsAgain tells v0.deferred w.deferred (around v0.backlog files faults) (around w.backlog files' faults') → OnDisk v0.backlog.queue files disk → w ≡ record v0 { backlog = w.backlog; deferred = w.deferred; deferred_spare = w.deferred_spare } → Leads IsAsBefore v (queued_in v disk) w files'
waits_again {tells} files files' faults faults' disk {v0} {v} {w} is told b on rest =
    subst (λ v. Leads IsAsBefore v (queued_in v disk) w files') is (
    let i = put_none tells b.message b.back (around v0.backlog files faults) (around w.backlog files' faults') disk told b.puts on in
    record {
      disk = disk;
      on_disk = i.on_disk;
      row = record {
        often = λ p. omega (
          arith,
          copies-count p (queued_in v0 disk) v0.flights v0.deferred,
          copies-count p (queued_in w disk) w.flights w.deferred,
          b.often (λ w. p (deferred_copy w)),
          ap (count_by (λ m. p (queued_copy m))) i.same,
          ap (λ (u : Seen). count_by (λ f. p (flying_copy f)) u.flights) rest,
        );
        is = ap (λ (u : Seen). record (channel_with u (queued_in w disk)) { copies = copies_of (queued_in w disk) w.flights w.deferred }) rest;
      };
    })
