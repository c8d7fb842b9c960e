use Rattle.std.proofs.Common.{◌+◌, ◌≤◌, ℕ, List, length, map, string_bytes, vec_len, vec_capacity, le_trans, inr, ap, sym, subst, refl, arith}
use Rattle.nsq_fakes.specs.MemHosts.{content_of}
use Rattle.nsq_fakes.specs.declared.conn.MemConn.{MemConn}
use Rattle.nsq_fakes.specs.MemConns.{left_of}
use Rattle.nsq_fakes.proofs.Callers.{links_stay}
use Rattle.nsq_fakes.proofs.Results.{from_ok}
use Rattle.nsq_fakes.proofs.host.MemHostDialer.dial.Goals as goal

pub returns-then-is_err : goal.returns-then-is_err
returns-then-is_err g c = record {
  told = (refl, inr refl, refl);
  fresh = tt;
  may = (ap (λ (back : List (ℕ × MemConn)). record (content_of c.args.self.now) { back = back }) c.make_room.ensures.items, refl);
  faults = c.add.ensures.faults;
  cause = c.add.ensures.rose;
  counted = c.add.ensures.counted;
  first = refl;
  callers = refl;
  calls = record { accepts = refl; prints = refl; tells = refl };
}

pub returns : goal.returns
returns g c = record {
  told = c.dial.ensures.told;
  fresh = c.dial.ensures.fresh;
  may = (ap (λ (back : List (ℕ × MemConn)). record (content_of c.args.self.now) { back = back }) c.make_room.ensures.items, refl);
  faults = c.dial.ensures.faults;
  cause = c.dial.ensures.cause;
  counted = c.dial.ensures.counted;
  first = c.dial.ensures.first;
  callers = refl;
  calls = record { accepts = refl; prints = refl; tells = refl };
}

pub invariant_of-self : goal.invariant_of-self
invariant_of-self g c = record {
  room = le_trans c.args.self.now.room c.make_room.ensures.capacity;
  order = subst (λ (back : List (ℕ × MemConn)). length back ≤ length c.args.self.now.given.items + length c.args.self.now.dialer.linked.items) (sym c.make_room.ensures.items) c.args.self.now.order;
  at_halt = c.args.self.now.at_halt;
}

pub invariant_of-self-2 : goal.invariant_of-self-2
invariant_of-self-2 g c =
    let host = c.args.self.now in
    let dialer = c.dial.new.self in
    let room : vec_len host.given + vec_len host.dialer.linked + 1 ≤ vec_capacity c.make_room.new.back = from_ok c.make_room.result _ c.if-is_err.ensures.value c.make_room.ensures.room in
    let back : length c.make_room.new.back.items ≤ length host.given.items + length host.dialer.linked.items = subst (λ (back : List (ℕ × MemConn)). length back ≤ length host.given.items + length host.dialer.linked.items) (sym c.make_room.ensures.items) host.order in
    let more : length host.dialer.linked.items ≤ length dialer.linked.items =
    links_stay (map string_bytes host.dialer.asked.items) (map string_bytes dialer.asked.items) host.dialer.linked.items dialer.linked.items (map left_of host.dialer.coming.items) (map left_of dialer.coming.items) c.args.address.now c.dial.result c.dial.ensures.told in
    record {
      room = omega (arith, room, c.dial.ensures.one);
      order = omega (arith, back, more);
      at_halt = host.at_halt;
    }
