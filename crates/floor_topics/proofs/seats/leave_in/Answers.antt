use Rattle.std.proofs.Common.{◌≡◌, ◌∙◌, ℕ, nat_eq, List, Some, Err, sym, ap, subst}
use Rattle.std.specs.List.{list_any, slice_get}
use Rattle.std.proofs.lemmas.Bool.{false≢true}
use Rattle.std.proofs.lemmas.Option.{slice_get_within}
use Rattle.channel_core.specs.Seen.{Seen as ChannelSeen}
use Rattle.floor_topics.specs.Seating.{AreAscending, IsNumberPlace}
use Rattle.floor_topics.proofs.SeatNumbers.{gone_number_any, gone_number_up, none_belongs}
use Rattle.floor_topics.proofs.seats.leave_in.Goals as goal

pub returns-in-Ok : goal.returns-in-Ok
returns-in-Ok c =
    let numbers = c.args.stall.now.members.items in
    let at : slice_get numbers c.in-Ok.p ≡ Some c.args.number = subst (λ (xs : List ℕ). slice_get xs c.in-Ok.p ≡ Some c.args.number) c.deref.ensures.value c.in-Ok.ensures in
    record {
      is = ap (λ (v : ChannelSeen). record (c.args.stall.now) { channel = v; members = c.remove.new.self }) c.leave.ensures.rest;
      clients = c.leave.ensures.clients;
      listed = λ n. ap (list_any (nat_eq n)) c.remove.ensures.items ∙ gone_number_any c.in-Ok.p c.args.number numbers n at c.requires.order;
      order = subst AreAscending (sym c.remove.ensures.items) (gone_number_up c.in-Ok.p numbers (slice_get_within numbers c.in-Ok.p c.args.number at) c.requires.order);
    }

pub returns-in_default : goal.returns-in_default
returns-in_default c =
    absurd (false≢true (sym (none_belongs c.in_default.field-0 c.args.number c.args.stall.now.members.items (subst (λ (xs : List ℕ). IsNumberPlace xs c.args.number (Err c.in_default.field-0)) c.deref.ensures.value c.in_default.ensures)) ∙ c.requires.listed))
