use Rattle.std.proofs.Common.{◌<◌, ◌≤◌, length, refl, ap, arith}
use Rattle.http_wire.proofs.FindLemmas.{next_open, next_endless, remembers, waits_now}
use Rattle.http_wire.proofs.reader.RequestReader.next.Goals as goal

pub returns-then-len-self-clause-given : goal.returns-then-len-self-clause-given
returns-then-len-self-clause-given c =
    let i = c.self.inside in
    rw (← c.self.view_is) (waits_now i.limit i.bytes.items i.needed (omega (arith, c.if-len-self.true, c.len.ensures)) c.self.invariant.waits)

pub returns-then-len-lt-LONGEST_HEAD-clause-given : goal.returns-then-len-lt-LONGEST_HEAD-clause-given
returns-then-len-lt-LONGEST_HEAD-clause-given c =
    let i = c.self.inside in
    let none = rw c.in_default.is at c.find_end-end.ensures.found in
    let size : length i.bytes.items < 16384 = omega (arith, c.if-len-lt-LONGEST_HEAD.true, c.len-in_default.ensures, c.deref.ensures.len, ap length c.deref.ensures.value) in
    rw (← c.self.view_is) (next_open i.limit c.deref.result.now i.bytes.items c.deref.ensures.value size none)

pub returns-in_default-clause-given : goal.returns-in_default-clause-given
returns-in_default-clause-given c =
    let i = c.self.inside in
    let none = rw c.in_default.is at c.find_end-end.ensures.found in
    let size : 16384 ≤ length i.bytes.items = omega (arith, c.if-len-lt-LONGEST_HEAD.false, c.len-in_default.ensures, c.deref.ensures.len, ap length c.deref.ensures.value) in
    rw (← c.self.view_is) (next_endless c.deref.result.now i.bytes.items c.deref.ensures.value size none)

pub returns-clause-given : goal.returns-clause-given
returns-clause-given c =
    let i = c.self.inside in
    let found = rw c.deref-2.ensures.value at c.find-found.ensures in
    rw (← c.self.view_is) (c.given.ensures.given i.limit i.bytes.items found)

pub invariant_of-self : goal.invariant_of-self
invariant_of-self c =
    let i = c.self.inside in
    remembers i.limit c.deref.result.now i.bytes.items i.bytes.items c.find_end-end.result.0 i.needed c.deref.ensures.value refl c.find_end-end.ensures.searched c.self.invariant.waits

pub invariant_of-self-in_default : goal.invariant_of-self-in_default
invariant_of-self-in_default c =
    let i = c.self.inside in
    remembers i.limit c.deref.result.now i.bytes.items i.bytes.items c.find_end-end.result.0 i.needed c.deref.ensures.value refl c.find_end-end.ensures.searched c.self.invariant.waits

pub invariant_of-self-2 : goal.invariant_of-self-2
invariant_of-self-2 c =
    let i = c.self.inside in
    let found = rw c.deref-2.ensures.value at c.find-found.ensures in
    remembers i.limit c.deref.result.now i.bytes.items i.bytes.items c.find_end-end.result.0 c.given.new.needed c.deref.ensures.value refl c.find_end-end.ensures.searched (c.given.ensures.waits i.limit i.bytes.items found c.self.invariant.waits)
