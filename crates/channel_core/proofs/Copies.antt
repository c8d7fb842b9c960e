-- How a channel's copies are counted, by where they are.
use Rattle.std.proofs.Common.{◌≡◌, ℕ, ◌+◌, Bool, nat_le, ◌&&◌, List, ◌++◌, map, length, arith}
use Rattle.std.specs.List.{count_by}
use Rattle.std.specs.Str.{bytes_eq}
use Rattle.v2_frame.specs.declared.message.Message.{Message}
use Rattle.broker_history.specs.State.{Copy, is_queued, is_in_flight, is_deferred, is_with, is_due, queued, in_flight, deferred, flying, flying_of, flying_with}
use Rattle.channel_copies.specs.declared.flight.Flight.{Flight}
use Rattle.channel_copies.specs.Flights.{flights_of_id, flights_with, has_id, has_client}
use Rattle.channel_copies.specs.Deferred.{Waiting}
use Rattle.channel_copies.proofs.Counts.{count-append, count-map, count-none, count-all}
use Rattle.channel_core.specs.Seen.{queued_copy, flying_copy, deferred_copy, copies_of}

pub copies-count : (p : Copy → Bool) (q : List Message) (fs : List Flight) (ws : List Waiting) → count_by p (copies_of q fs ws) ≡ count_by (λ m. p (queued_copy m)) q + (count_by (λ f. p (flying_copy f)) fs + count_by (λ w. p (deferred_copy w)) ws)
copies-count p q fs ws =
    omega (arith, count-append p (map queued_copy q) (map flying_copy fs ++ map deferred_copy ws), count-append p (map flying_copy fs) (map deferred_copy ws), count-map p queued_copy q, count-map p flying_copy fs, count-map p deferred_copy ws)

pub queued_is : (q : List Message) (fs : List Flight) (ws : List Waiting) → queued (copies_of q fs ws) ≡ length q
queued_is q fs ws = omega (arith, copies-count (λ x. is_queued x.place) q fs ws, count-all q, count-none fs, count-none ws)

pub in_flight_is : (q : List Message) (fs : List Flight) (ws : List Waiting) → in_flight (copies_of q fs ws) ≡ length fs
in_flight_is q fs ws = omega (arith, copies-count (λ x. is_in_flight x.place) q fs ws, count-none q, count-all fs, count-none ws)

pub deferred_is : (q : List Message) (fs : List Flight) (ws : List Waiting) → deferred (copies_of q fs ws) ≡ length ws
deferred_is q fs ws = omega (arith, copies-count (λ x. is_deferred x.place) q fs ws, count-none q, count-none fs, count-all ws)

pub flying_is : (client : ℕ) (q : List Message) (fs : List Flight) (ws : List Waiting) → flying client (copies_of q fs ws) ≡ flights_with client fs
flying_is client q fs ws = omega (arith, copies-count (λ x. is_with client x.place) q fs ws, count-none q, count-none ws)

pub flying_of_is : (id : List ℕ) (q : List Message) (fs : List Flight) (ws : List Waiting) → flying_of id (copies_of q fs ws) ≡ flights_of_id id fs
flying_of_is id q fs ws = omega (arith, copies-count (λ x. is_in_flight x.place && bytes_eq id x.message.id) q fs ws, count-none q, count-none ws)

pub flying_with_is : (client : ℕ) (id : List ℕ) (q : List Message) (fs : List Flight) (ws : List Waiting) → flying_with client id (copies_of q fs ws) ≡ count_by (λ f. has_client client f && has_id id f) fs
flying_with_is client id q fs ws = omega (arith, copies-count (λ x. is_with client x.place && bytes_eq id x.message.id) q fs ws, count-none q, count-none ws)

-- those that are due
pub flying_due_is : (now : ℕ) (id : List ℕ) (q : List Message) (fs : List Flight) (ws : List Waiting) → count_by (λ x. (is_in_flight x.place && is_due now x.place) && bytes_eq id x.message.id) (copies_of q fs ws) ≡ count_by (λ f. nat_le f.due now && has_id id f) fs
flying_due_is now id q fs ws = omega (arith, copies-count (λ x. (is_in_flight x.place && is_due now x.place) && bytes_eq id x.message.id) q fs ws, count-none q, count-none ws)

pub deferred_due_is : (now : ℕ) (id : List ℕ) (q : List Message) (fs : List Flight) (ws : List Waiting) → count_by (λ x. (is_deferred x.place && is_due now x.place) && bytes_eq id x.message.id) (copies_of q fs ws) ≡ count_by (λ w. nat_le w.due now && bytes_eq id w.message.id) ws
deferred_due_is now id q fs ws = omega (arith, copies-count (λ x. (is_deferred x.place && is_due now x.place) && bytes_eq id x.message.id) q fs ws, count-none q, count-none fs)

pub all_flying_due_is : (now : ℕ) (q : List Message) (fs : List Flight) (ws : List Waiting) → count_by (λ x. is_in_flight x.place && is_due now x.place) (copies_of q fs ws) ≡ count_by (λ f. nat_le f.due now) fs
all_flying_due_is now q fs ws = omega (arith, copies-count (λ x. is_in_flight x.place && is_due now x.place) q fs ws, count-none q, count-none ws)

pub all_due_is : (now : ℕ) (q : List Message) (fs : List Flight) (ws : List Waiting) → count_by (λ x. is_due now x.place) (copies_of q fs ws) ≡ count_by (λ f. nat_le f.due now) fs + count_by (λ w. nat_le w.due now) ws
all_due_is now q fs ws = omega (arith, copies-count (λ x. is_due now x.place) q fs ws, count-none q)
