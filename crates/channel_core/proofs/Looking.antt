-- What is found of an id, and what a client may have.
use Rattle.std.proofs.Common.{◌≡◌, ℕ, ◌≤◌, ◌<◌, Bool, true, false, nat_eq, nat_lt, nat_le, ◌&&◌, not, List, Option, Some, option_map, unwrap_or, refl, sym, ap, ◌∙◌, subst, arith}
use Rattle.std.specs.Prelude.{MatchBool}
use Rattle.std.proofs.lemmas.Bool.{eq-eqb, ne_eqb}
use Rattle.std.proofs.lemmas.Bool.Decides.{nat_tests}
use Rattle.v2_frame.specs.declared.message.Message.{Message}
use Rattle.broker_history.specs.State.{flying, flying_of, flying_with}
use Rattle.broker_history.specs.Channels.{one, is_free, has_credit}
use Rattle.channel_copies.specs.declared.clients.Client.{Client}
use Rattle.channel_copies.specs.declared.flight.Flight.{Flight}
use Rattle.channel_copies.specs.Clients.{client_of}
use Rattle.channel_copies.specs.Flights.{IsOnly, flights_of_id, flights_with, has_client}
use Rattle.channel_copies.proofs.Soonest.{due_is}
use Rattle.channel_core.specs.Seen.{Seen, channel_with}
use Rattle.channel_core.specs.Drawing.{ready_of, timeout_of}
use Rattle.channel_core.proofs.Copies.{flying_is, flying_of_is, flying_with_is}

pub look_none : (id : List ℕ) {v0 : Seen} (v : Seen) → v0 ≡ v → flights_of_id id v0.flights ≡ 0 → (waits : List Message) → flying_of id (channel_with v waits).copies ≡ 0
look_none id v is none waits = flying_of_is id waits v.flights v.deferred ∙ (ap (λ (v : Seen). flights_of_id id v.flights) (sym is) ∙ none)

pub look_some : (client : ℕ) (id : List ℕ) (f : Flight) {v0 : Seen} (v : Seen) → v0 ≡ v → IsOnly id f v0.flights → (waits : List Message) → (flying_of id (channel_with v waits).copies ≡ 1) × (flying_with client id (channel_with v waits).copies ≡ one (nat_eq f.client client))
look_some client id f v is o waits =
    let p : IsOnly id f v.flights = subst (λ (v : Seen). IsOnly id f v.flights) is o in
    (flying_of_is id waits v.flights v.deferred ∙ p.only (λ g. true), flying_with_is client id waits v.flights v.deferred ∙ p.only (has_client client))

pub look_yours : (client : ℕ) (id : List ℕ) (f : Flight) {v0 : Seen} (v : Seen) → v0 ≡ v → IsOnly id f v0.flights → f.client ≡ client → (waits : List Message) → flying_with client id (channel_with v waits).copies ≡ 1
look_yours client id f v is o same waits = (look_some client id f v is o waits).1 ∙ ap one (eq-eqb f.client client same)

pub look_other : (client : ℕ) (id : List ℕ) (f : Flight) {v0 : Seen} (v : Seen) → v0 ≡ v → IsOnly id f v0.flights → (f.client ≡ client → ⊥) → (waits : List Message) → (flying_of id (channel_with v waits).copies ≡ 1) × (flying_with client id (channel_with v waits).copies ≡ 0)
look_other client id f v is o other waits =
    let l = look_some client id f v is o waits in
    (l.0, l.1 ∙ ap one (ne_eqb f.client client other))

-- what a client asked for
pub ready_is_now : (client : ℕ) (v : Seen) (k : Client) → client_of v.clients client ≡ Some k → ready_of client v ≡ k.ready
ready_is_now client v k at = ap (λ (o : Option Client). unwrap_or (option_map (λ (c : Client). c.ready) o) 0) at

pub timeout_is : (client : ℕ) (v : Seen) (k : Client) → client_of v.clients client ≡ Some k → timeout_of client v ≡ k.timeout
timeout_is client v k at = ap (λ (o : Option Client). unwrap_or (option_map (λ (c : Client). c.timeout) o) 0) at

-- credit
pub flying_now : (client : ℕ) {v0 : Seen} (v : Seen) → v0 ≡ v → (waits : List Message) → flying client (channel_with v waits).copies ≡ flights_with client v0.flights
flying_now client v is waits = flying_is client waits v.flights v.deferred ∙ ap (λ (v : Seen). flights_with client v.flights) (sym is)

lt : (a b : ℕ) → a < b → nat_lt a b ≡ true
lt a b h = grind (arith, nat_tests)

pub credit_is : (ready client : ℕ) (v : Seen) (waits : List Message) → v.paused ≡ false → flying client (channel_with v waits).copies < ready → has_credit ready client (channel_with v waits) ≡ true
credit_is ready client v waits running fewer = ap (λ b. not b && nat_lt (flying client (channel_with v waits).copies) ready) running ∙ lt (flying client (channel_with v waits).copies) ready fewer

-- whether an id is free
pub is_free_now : (id : List ℕ) (v : Seen) (waits : List Message) → flights_of_id id v.flights ≡ 0 → is_free id (channel_with v waits).copies ≡ true
is_free_now id v waits none = eq-eqb (flying_of id (channel_with v waits).copies) 0 (flying_of_is id waits v.flights v.deferred ∙ none)

not_zero : (n : ℕ) → n ≡ 1 → nat_eq n 0 ≡ false
not_zero n h = grind (arith, nat_tests)

pub isn't_free : (id : List ℕ) (v : Seen) (waits : List Message) → flights_of_id id v.flights ≡ 1 → is_free id (channel_with v waits).copies ≡ false
isn't_free id v waits one = not_zero (flying_of id (channel_with v waits).copies) (flying_of_is id waits v.flights v.deferred ∙ one)

-- whether a client has credit
by_test : (ready count : ℕ) (t : Bool) → nat_le ready count ≡ t → MatchBool t (ready ≤ count) (count < ready)
by_test ready count true e = due_is count ready e
by_test ready count false e = grind (arith, nat_tests)

pub by_credit : (client ready count : ℕ) (k : Client) {v0 : Seen} (v : Seen) (waits : List Message) → v0 ≡ v → client_of v0.clients client ≡ Some k → ready ≡ k.ready → count ≡ flights_with client v0.flights
    → MatchBool (nat_le ready count) (ready_of client v ≤ flying client (channel_with v waits).copies) (flying client (channel_with v waits).copies < ready_of client v)
by_credit client ready count k {v0} v waits is at ready_is count_is =
    let asked : ready_of client v ≡ ready = ready_is_now client v k (subst (λ (u : Seen). client_of u.clients client ≡ Some k) is at) ∙ sym ready_is in
    let flies : flying client (channel_with v waits).copies ≡ count = flying_now client v is waits ∙ sym count_is in
    subst (λ n. MatchBool (nat_le ready count) (n ≤ flying client (channel_with v waits).copies) (flying client (channel_with v waits).copies < n)) (sym asked)
    (subst (λ n. MatchBool (nat_le ready count) (ready ≤ n) (n < ready)) (sym flies) (by_test ready count (nat_le ready count) refl))
