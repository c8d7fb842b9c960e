use Rattle.std.proofs.Common.{◌≡◌, ◌∙◌, ℕ, nat_eq, List, Some, Err, sym, ap, subst}
use Rattle.std.specs.List.{insert, list_any, slice_get}
use Rattle.std.proofs.lemmas.Bool.{false≢true}
use Rattle.channel_core.specs.Seen.{Seen as ChannelSeen}
use Rattle.floor_topics.specs.Seating.{AreAscending, IsNumberPlace}
use Rattle.floor_topics.proofs.SeatNumbers.{any_at, put_number_any, put_number_up}
use Rattle.floor_topics.proofs.seats.seat_in.Goals as goal

pub returns-in-Ok-clause-seats : goal.returns-in-Ok-clause-seats
returns-in-Ok-clause-seats c =
    let numbers = c.args.stall.now.members.items in
    let place : IsNumberPlace numbers c.args.number (Err c.in-Err.p) = subst (λ (xs : List ℕ). IsNumberPlace xs c.args.number (Err c.in-Err.p)) (c.deref.ensures.value ∙ c.reserve.ensures.items) c.in-Err.ensures in
    let items : c.insert.new.self.items ≡ insert numbers c.in-Err.p c.args.number = c.in-Ok.ensures.items ∙ ap (λ (xs : List ℕ). insert xs c.in-Err.p c.args.number) c.reserve.ensures.items in
    record {
      is = ap (λ (v : ChannelSeen). record (c.args.stall.now) { channel = v; members = c.insert.new.self }) c.subscribe.ensures.rest;
      clients = c.in_ok-subscribe.ensures.clients;
      listed = λ n. ap (list_any (nat_eq n)) items ∙ put_number_any c.in-Err.p c.args.number numbers n;
      order = subst AreAscending (sym items) (put_number_up c.in-Err.p c.args.number numbers place c.requires.order);
    }

pub returns-in_default-clause-seats : goal.returns-in_default-clause-seats
returns-in_default-clause-seats c =
    absurd (false≢true (sym c.requires.absent ∙ any_at c.in_default.field-0 c.args.number c.args.stall.now.members.items (subst (λ (xs : List ℕ). slice_get xs c.in_default.field-0 ≡ Some c.args.number) (c.deref.ensures.value ∙ c.reserve.ensures.items) c.in_default.ensures)))
