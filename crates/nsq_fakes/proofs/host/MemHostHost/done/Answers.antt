use Rattle.std.proofs.Common.{◌≡◌, ◌+◌, ◌≤◌, ◌∷◌, [], ℕ, List, length, map, string_bytes, vec_len, ap, refl, sym, ◌∙◌, subst, arith, length-append}
use Rattle.std.proofs.lemmas.List.{length-map}
use Rattle.nsq_fakes.specs.MemHosts.{content_of}
use Rattle.nsq_fakes.specs.declared.conn.MemConn.{MemConn}
use Rattle.nsq_fakes.proofs.host.MemHostHost.done.Goals as goal

pub returns : goal.returns
returns g c = record {
  content = ap (λ (back : List (ℕ × MemConn)). record (content_of c.args.self.now) { back = back }) c.push_reserved.ensures.items;
  state = refl;
  dials = refl;
  dial_faults = refl;
  callers = refl;
  to_link = refl;
  calls = record { accepts = refl; prints = refl; tells = refl };
}

pub invariant_of-self : goal.invariant_of-self
invariant_of-self g c =
    let host = c.args.self.now in
    let linked : length (map string_bytes host.dialer.linked.items) ≡ length host.dialer.linked.items = length-map host.dialer.linked.items string_bytes in
    let back : length c.push_reserved.new.self.items ≡ length host.back.items + 1 = ap length c.push_reserved.ensures.items ∙ length-append host.back.items ((c.args.number, c.args.conn) ∷ []) in
    record {
      room = subst (λ (n : ℕ). vec_len host.given + vec_len host.dialer.linked ≤ n) (sym c.push_reserved.ensures.capacity) host.room;
      order = omega (arith, c.requires, linked, back);
      at_halt = host.at_halt;
    }
