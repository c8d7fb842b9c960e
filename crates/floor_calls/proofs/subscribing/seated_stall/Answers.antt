use Rattle.std.proofs.Common.{◌≡◌, ◌∙◌, ◌<◌, ℕ, nat_eq, Some, sym, ap, subst}
use Rattle.std.specs.List.{list_any}
use Rattle.broker_history.specs.State.{Client}
use Rattle.channel_copies.specs.Clients.{client_of}
use Rattle.channel_core.specs.Seen.{Seen as ChannelSeen}
use Rattle.floor_rooms.proofs.Forming.{none_of_none}
use Rattle.floor_rooms.proofs.Placing.{at_place}
use Rattle.floor_topics.specs.Seating.{AreAscending, Seats}
use Rattle.floor_topics.proofs.LostPlaces.{read_same}
use Rattle.floor_acts.proofs.Putting.{holds_read}
use Rattle.floor_calls.specs.Subscribing.{IsSeated}
use Rattle.floor_calls.proofs.subscribing.seated_stall.Goals as goal

pub seat_in-requires-clause-new : goal.seat_in-requires-clause-new
seat_in-requires-clause-new c = ap (λ (v : ChannelSeen). client_of v.clients c.number-number.result) c.in_ok-stall.ensures.stall.channel.is

pub seat_in-requires-clause-absent : goal.seat_in-requires-clause-absent
seat_in-requires-clause-absent c = ap (list_any (nat_eq c.number-number.result)) c.in_ok-stall.ensures.stall.members

pub seat_in-requires-clause-order : goal.seat_in-requires-clause-order
seat_in-requires-clause-order c = subst AreAscending (sym c.in_ok-stall.ensures.stall.members) (none_of_none (λ (a b : ℕ). a < b))

pub returns : goal.returns
returns c =
    let clients = c.args.hall.now.clients.items in
    let client = c.index.result.now in
    let timeout : c.timeout-timeout.result ≡ client.timeout = c.timeout-timeout.ensures.value ∙ ap (λ (d : Client). d.timeout) (read_same clients c.args.k client c.index-2.result.now (at_place clients c.args.k client c.requires.client c.index.ensures) c.index-2.ensures) in
    holds_read (IsSeated c.args.topic c.args.channel c.args.hall.now.options c.seat_in.new.stall) clients c.args.k client c.requires.client c.index.ensures (record {
      bare = c.in_ok-stall.stall;
      fresh = c.in_ok-stall.ensures.stall;
      is_channel = c.in_ok-stall.ensures.stands;
      seats = subst (λ (n : ℕ). Seats n (Some (record { timeout = client.timeout; ready = 0 })) c.in_ok-stall.stall c.seat_in.new.stall) c.number-number.ensures
          (subst (λ (t : ℕ). Seats c.number-number.result (Some (record { timeout = t; ready = 0 })) c.in_ok-stall.stall c.seat_in.new.stall) timeout c.in-Ok.ensures.seats);
    })
