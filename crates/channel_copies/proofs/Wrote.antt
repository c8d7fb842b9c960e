-- Writing messages behind those that wait.
use Rattle.std.proofs.Common.{◌≡◌, ℕ, ◌+◌, ◌*◌, ◌-◌, ◌^◌, ◌≤◌, ◌<◌, Bool, IsTrue, List, [], ◌∷◌, ◌++◌, map, length, drop, take, Option, Some, None, IsSome, ◌⊎◌, inl, inr, refl, sym, ap, ◌∙◌, subst, arith}
use Rattle.std.specs.List.{count_by}
use Rattle.std.specs.Prelude.{IfNone}
use Rattle.std.proofs.Math.Nat.{add-mul}
use Rattle.std.proofs.lemmas.List.{take_all, drop_all}
use Rattle.nsq_outside.specs.Causes.{Rose}
use Rattle.nsq_outside.specs.Files.{Files, SameFiles}
use Rattle.v2_frame.specs.declared.message.Message.{Message}
use Rattle.backlog.specs.Queues.{Seen as Queue}
use Rattle.backlog.specs.Holding.{OwnChange}
use Rattle.backlog.proofs.Kept.{own_join}
use Rattle.backlog.specs.Seen.{Seen as Backlog, SameQueue, FlushSeen}
use Rattle.backlog.specs.Lists.{OnDisk, Stands, DiskChanges, PutChanges, stored, disk_flushed}
use Rattle.backlog.specs.declared.answers.PutOne.{PutOne}
use Rattle.backlog.specs.declared.answers.PutOne.TheVariants.{Kept, Dropped, Spilled, Fault}
use Rattle.backlog.specs.declared.answers.Flushed.{Flushed}
use Rattle.backlog.specs.declared.answers.Flushed.TheVariants.{Done as FlushDone, Fault as FlushFault}
use Rattle.broker_history.specs.State.{compared}
use Rattle.broker_history.specs.Channels.{one}
use Rattle.channel_copies.specs.declared.flight.Flight.{Flight}
use Rattle.channel_copies.specs.Flights.{CostsCalls, Leaves}
use Rattle.channel_copies.specs.Deferred.{Waiting}
use Rattle.channel_copies.specs.Putting.{Around, Puts, IsTaken, KeepsDisk, around}
use Rattle.channel_copies.proofs.Counts.{count-cons, count-append, count-map}
use Rattle.channel_copies.specs.Storing.{Stores, StoresWhere, flying_messages, deferred_messages}

-- a queue of the same name, once more
pub same_kept : (q : Option Queue) → SameQueue q q
same_kept None = tt
same_kept (Some q) = record { name = refl; options = refl }

pub same_joined : (q r s : Option Queue) → SameQueue q r → SameQueue r s → SameQueue q s
same_joined None None None a b = tt
same_joined None None (Some s) a b = b
same_joined None (Some r) s a b = absurd a
same_joined (Some q) None s a b = absurd a
same_joined (Some q) (Some r) None a b = b
same_joined (Some q) (Some r) (Some s) a b = record { name = b.name ∙ a.name; options = b.options ∙ a.options }

pub same_there : (q r : Option Queue) → SameQueue q r → IsSome q → IsSome r
same_there None r same some = absurd (let no : ⊥ = cc in no)
same_there (Some q) None same some = absurd same
same_there (Some q) (Some r) same some = refl

-- changes of the queue's own files, one after another
pub unchanged : (queue : Option Queue) (old new : Files) → SameFiles old new → DiskChanges queue old new
unchanged None old new same = same
unchanged (Some q) old new same = λ file other. same file

pub changes_joined : (q r : Option Queue) (old mid new : Files) → SameQueue q r → DiskChanges q old mid → DiskChanges r mid new → DiskChanges q old new
changes_joined None None old mid new same a b = λ file. b file ∙ a file
changes_joined None (Some r) old mid new same a b = absurd same
changes_joined (Some q) None old mid new same a b = absurd same
changes_joined (Some q) (Some r) old mid new same a b = own_join q.name old mid new a (subst (λ (name : List ℕ). OwnChange name mid new) same.name b)

-- nothing happened
pub keeps_none : (tells : Bool) (a : Around) → KeepsDisk tells a a
keeps_none tells a = record {
  queue = same_kept a.backlog.queue;
  stands = λ told h. h;
  others = λ told. unchanged a.backlog.queue a.files a.files (λ file. refl);
  faults = omega arith;
}

pub keeps_same : (tells : Bool) (files : Files) (faults : ℕ) (b b' : Backlog) → b' ≡ b → KeepsDisk tells (around b files faults) (around b' files faults)
keeps_same tells files faults b b' is = subst (λ (c : Backlog). KeepsDisk tells (around b files faults) (around c files faults)) (sym is) (keeps_none tells (around b files faults))

-- one call after another
pub keeps_joined : {tells : Bool} (a b c : Around) → KeepsDisk tells a b → KeepsDisk tells b c → KeepsDisk tells a c
keeps_joined a b c f s = record {
  queue = same_joined a.backlog.queue b.backlog.queue c.backlog.queue f.queue s.queue;
  stands = λ told h. s.stands told (f.stands told h);
  others = λ told. changes_joined a.backlog.queue b.backlog.queue a.files b.files c.files f.queue (f.others told) (s.others told);
  faults = omega (arith, f.faults, s.faults);
}

-- putting a message changes no more
put_changed : (queue : Option Queue) (old new : Files) (answer : PutOne) → PutChanges queue old new answer → DiskChanges queue old new
put_changed queue old new Kept c = unchanged queue old new c
put_changed queue old new Dropped c = unchanged queue old new c
put_changed queue old new Spilled c = c
put_changed queue old new (Fault back) c = c

pub keeps_put : {tells : Bool} {message : Message} (answer : PutOne) (a b : Around) → Puts tells message answer a b → KeepsDisk tells a b
keeps_put answer a b p = record {
  queue = p.queue;
  stands = p.stands;
  others = λ told. put_changed a.backlog.queue a.files b.files answer (p.others told);
  faults = p.faults;
}

-- drawing changes no file
pub keeps_drawn : {tells : Bool} (a b : Around) → SameQueue a.backlog.queue b.backlog.queue → (IsTrue tells → Stands a.backlog.queue a.files → Stands b.backlog.queue b.files) → (IsTrue tells → SameFiles a.files b.files) → a.faults ≤ b.faults → KeepsDisk tells a b
keeps_drawn a b queue stands same faults = record { queue = queue; stands = stands; others = λ told. unchanged a.backlog.queue a.files b.files (same told); faults = faults }

-- how often a message is among those that wait
pub count-waits : (p : Message → Bool) (ring disk : List Message) → count_by p (map compared (ring ++ disk)) ≡ count_by (λ m. p (compared m)) ring + count_by (λ m. p (compared m)) disk
count-waits p ring disk = count-map p compared (ring ++ disk) ∙ count-append (λ m. p (compared m)) ring disk

pub count-stored : (p : Message → Bool) (ms : List Message) → count_by (λ m. p (compared m)) (map stored ms) ≡ count_by (λ m. p (compared m)) ms
count-stored p ms = count-map (λ m. p (compared m)) stored ms

count-one : (p : Message → Bool) (m : Message) → count_by p (map compared (m ∷ [])) ≡ one (p (compared m))
count-one p m = omega (arith, count-cons p (compared m) [])

-- a message that was put and didn't come back joined those that wait
pub put_stores : {tells : Bool} {m : Message} (answer : PutOne) (a b : Around) → IsTaken answer → IsSome a.backlog.queue → Puts tells m answer a b → Stores tells (m ∷ []) [] a b
put_stores {tells} {m} Kept a b taken there p = record {
  list = λ told disk on. record {
    to = disk;
    on_disk = p.list told disk on;
    joins = λ t. omega (
      arith,
      count-waits t a.backlog.ring disk,
      ap (λ (b : Backlog). count_by t (map compared (b.ring ++ disk))) p.seen,
      count-waits t (a.backlog.ring ++ m ∷ []) disk,
      count-append (λ m. t (compared m)) a.backlog.ring (m ∷ []),
      count-cons (λ m. t (compared m)) m [],
      count-one t m,
    );
  };
}
put_stores {tells} {m} Dropped a b taken there p = absurd (let none = p.place.1 in cc)
put_stores {tells} {m} Spilled a b taken there p = record {
  list = λ told disk on. record {
    to = disk ++ stored m ∷ [];
    on_disk = p.list told disk on;
    joins = λ t. omega (
      arith,
      count-waits t a.backlog.ring disk,
      ap (λ (b : Backlog). count_by t (map compared (b.ring ++ (disk ++ stored m ∷ [])))) p.seen.is,
      count-waits t a.backlog.ring (disk ++ stored m ∷ []),
      count-append (λ m. t (compared m)) disk (stored m ∷ []),
      count-cons (λ m. t (compared m)) (stored m) [],
      count-one t m,
    );
  };
}
put_stores (Fault back) a b taken there p = absurd taken

-- the ring's messages went to disk
pub flush_stores : {tells : Bool} (a b : Around) → FlushSeen a.backlog b.backlog FlushDone → (IsTrue tells → (disk : List Message) → OnDisk a.backlog.queue a.files disk → OnDisk b.backlog.queue b.files (disk_flushed a.backlog b.backlog disk)) → Stores tells [] [] a b
flush_stores a b seen list = record {
  list = λ told disk on.
      let ring : b.backlog.ring ≡ drop (length a.backlog.ring) a.backlog.ring = ap (λ (b : Backlog). b.ring) seen.0.is in
      let none : b.backlog.ring ≡ [] = ring ∙ drop_all (length a.backlog.ring) a.backlog.ring (omega arith) in
      let all : take (length a.backlog.ring - length b.backlog.ring) a.backlog.ring ≡ a.backlog.ring = take_all (length a.backlog.ring - length b.backlog.ring) a.backlog.ring (omega (arith, ap length none)) in
      record {
        to = disk_flushed a.backlog b.backlog disk;
        on_disk = list told disk on;
        joins = λ t. omega (
          arith,
          count-waits t a.backlog.ring disk,
          ap (λ ring. count_by t (map compared (ring ++ disk_flushed a.backlog b.backlog disk))) none,
          count-map t compared (disk_flushed a.backlog b.backlog disk),
          count-append (λ m. t (compared m)) disk (map stored (take (length a.backlog.ring - length b.backlog.ring) a.backlog.ring)),
          ap (λ ms. count_by (λ m. t (compared m)) (map stored ms)) all,
          count-stored t a.backlog.ring,
        );
      };
}

-- nothing was stored
pub stores_none : (tells : Bool) (all : List Message) (a : Around) → Stores tells all all a a
stores_none tells all a = record { list = λ told disk on. record { to = disk; on_disk = on; joins = λ t. refl } }

-- one after the other
pub stores_next : {tells : Bool} {all left left' more : List Message} (a b c : Around) → ((p : Message → Bool) → count_by p (map compared left) ≡ count_by p (map compared left') + count_by p (map compared more)) → Stores tells all left a b → Stores tells more [] b c → Stores tells all left' a c
stores_next {tells} {all} {left} {left'} {more} a b c less f s = record {
  list = λ told disk on.
      let first = f.list told disk on in
      let next = s.list told first.to first.on_disk in
      record { to = next.to; on_disk = next.on_disk; joins = λ p. omega (arith, first.joins p, next.joins p, less p) };
}

-- how many steps calls that took out all but these items may have cost
abbrev pub Spends : (all left before now : ℕ) → Type 0
Spends all left before now = (d : ℕ) → all + 1 < 2 ^ (d + 1) → now + left * (2 * d + 2) ≤ before + all * (2 * d + 2)

spend_one : (left left' before mid now k : ℕ) → left ≡ left' + 1 → mid + left * k ≤ before → now ≤ mid + 1 * k → now + left' * k ≤ before
spend_one left left' before mid now k less were cost = omega (arith, ap (λ n. n * k) less, add-mul left' 1 k, were, cost)

pub spends_none : (all before : ℕ) → Spends all all before before
spends_none all before = λ d h. omega arith

pub spends_next : (all left left' before mid now : ℕ) → left ≤ all → left ≡ left' + 1 → Spends all left before mid → CostsCalls 1 left mid now → Spends all left' before now
spends_next all left left' before mid now within less s c = λ d h. spend_one left left' (before + all * (2 * d + 2)) mid now (2 * d + 2) less (s d h) (c d (omega (arith, h, within)))

pub spends_all : (all left before now : ℕ) → Spends all left before now → CostsCalls all all before now
spends_all all left before now s = λ d h. omega (arith, s d h)

-- and the calls for items of two kinds
both_kinds : (n m before mid now k : ℕ) → mid ≤ before + n * k → now ≤ mid + m * k → now ≤ before + (n + m) * k
both_kinds n m before mid now k first next = omega (arith, add-mul n m k, first, next)

pub costs_all : (n m before mid now : ℕ) → CostsCalls n n before mid → CostsCalls m m mid now → CostsCalls (n + m) (n + m) before now
costs_all n m before mid now a b = λ d h. both_kinds n m before mid now (2 * d + 2) (a d (omega (arith, h))) (b d (omega (arith, h)))

-- a fault with a rise, where the count never fell before
pub rose_later : (before mid now : ℕ) → before ≤ mid → Rose mid now → Rose before now
rose_later before mid now low rose = omega (arith, low, rose)

-- so it is after any answer of a flush
pub room_made : {tells : Bool} (a b : Around) (answer : Flushed) → FlushSeen a.backlog b.backlog answer → (IsTrue tells → (disk : List Message) → OnDisk a.backlog.queue a.files disk → OnDisk b.backlog.queue b.files (disk_flushed a.backlog b.backlog disk)) → StoresWhere tells [] a b answer
room_made a b FlushDone seen list = flush_stores a b seen list
room_made a b FlushFault seen list = tt

-- a message was written, after room was made for it
pub one_written : {tells : Bool} {m : Message} (a b c : Around) (answer : PutOne) → IsTaken answer → IsSome a.backlog.queue → KeepsDisk tells a b → Stores tells [] [] a b → Puts tells m answer b c → Stores tells (m ∷ []) [] a c
one_written {tells} {m} a b c answer taken there keeps made p =
    let put = put_stores answer b c taken (same_there a.backlog.queue b.backlog.queue keeps.queue there) p in
    record {
      list = λ told disk on.
          let first = made.list told disk on in
          let next = put.list told first.to first.on_disk in
          record { to = next.to; on_disk = next.on_disk; joins = λ t. omega (arith, first.joins t, next.joins t) };
    }

-- a message that was put in one of these ways didn't come back
pub taken_so : (answer : PutOne) → (answer ≡ Kept) ⊎ ((answer ≡ Dropped) ⊎ (answer ≡ Spilled)) → IsTaken answer
taken_so answer so = elim so [
  | inl e ↦ subst IsTaken (sym e) tt
  | inr other ↦ elim other [
    | inl e ↦ subst IsTaken (sym e) tt
    | inr e ↦ subst IsTaken (sym e) tt
  ]
]

-- a flight went, and with it its message
pub flying_less : (f : Flight) (old new : List Flight) → Leaves f old new → (p : Message → Bool) → count_by p (map compared (flying_messages old)) ≡ count_by p (map compared (flying_messages new)) + count_by p (map compared (f.message ∷ []))
flying_less f old new leaves p = omega (
  arith,
  leaves (λ (g : Flight). p (compared g.message)),
  count-map p compared (flying_messages old),
  count-map (λ m. p (compared m)) (λ (g : Flight). g.message) old,
  count-map p compared (flying_messages new),
  count-map (λ m. p (compared m)) (λ (g : Flight). g.message) new,
  count-one p f.message,
)

-- and so a deferred copy
pub deferred_less : (due : ℕ) (m : Message) (old new : List Waiting) → Leaves (record { due = due; message = m }) old new → (p : Message → Bool) → count_by p (map compared (deferred_messages old)) ≡ count_by p (map compared (deferred_messages new)) + count_by p (map compared (m ∷ []))
deferred_less due m old new leaves p = omega (
  arith,
  leaves (λ (w : Waiting). p (compared w.message)),
  count-map p compared (deferred_messages old),
  count-map (λ m. p (compared m)) (λ (w : Waiting). w.message) old,
  count-map p compared (deferred_messages new),
  count-map (λ m. p (compared m)) (λ (w : Waiting). w.message) new,
  count-one p m,
)

-- what holds where there was none
pub when_none : {X P : Type 0} {o : Option X} → o ≡ None → IfNone o P → P
when_none {P = P} is h = subst (λ o. IfNone o P) is h
