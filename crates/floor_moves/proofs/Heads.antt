-- What becomes of a topic as a message of it is drawn, and then taken or put back.
use Rattle.std.proofs.Common.{◌≡◌, ◌≢◌, ◌⊎◌, inl, inr, ◌≤◌, ℕ, Bool, List, [], ◌∷◌, ◌++◌, Option, Some, None, refl, sym, ap, subst, ◌∙◌, arith}
use Rattle.std.specs.Prelude.{IsTrue, IsSome, IfSome}
use Rattle.nsq_outside.specs.Causes.{Rose}
use Rattle.nsq_outside.specs.Files.{Files, SameFiles}
use Rattle.nsq_outside.specs.Journals as journals
use Rattle.nsq_outside.specs.declared.journal.End.TheVariants.{Done, Faulted}
use Rattle.v2_frame.specs.declared.message.Message.{Message}
use Rattle.queue_image.specs.FileNames.{IsOwnFile}
use Rattle.disk_queue.specs.Seen.{Seen as DiskQueue}
use Rattle.backlog.specs.Seen.{Seen as Backlog, SameQueue, DrawSeen, DrawsOne, FindsNone, SettleSeen, undone}
use Rattle.backlog.specs.Seen.DrawsOne.{of_ring, of_disk}
use Rattle.backlog.specs.Seen.FindsNone.{no_queue, no_record}
use Rattle.backlog.specs.Lists.{DiskChanges, Stands}
use Rattle.backlog.specs.declared.backlog.Lent.{Lent}
use Rattle.backlog.specs.declared.backlog.Lent.TheVariants.{Nothing, OfRing, OfDisk}
use Rattle.backlog.specs.declared.answers.Drawn.{Drawn}
use Rattle.backlog.specs.declared.answers.Drawn.TheVariants as drawn
use Rattle.broker_history.specs.declared.entry.Act.TheVariants.{Took, Stuck}
use Rattle.broker_history.specs.declared.entry.Entry.{Entry}
use Rattle.broker_history.specs.State.{Taken, Topic}
use Rattle.broker_history.specs.Entries.{History}
use Rattle.topic_core.specs.Seen.{Seen as Queue}
use Rattle.topic_core.specs.Answers.{HeadSeen, LooksInto}
use Rattle.topic_core.specs.Rows.{IsTopicOf, MayTake, Stays}
use Rattle.topic_core.specs.Rows as rows
use Rattle.topic_core.specs.declared.answers.Head.{Head}
use Rattle.topic_core.specs.declared.answers.Head.TheVariants as head
use Rattle.topic_core.proofs.Saving.{same_joined}
use Rattle.floor_rooms.specs.declared.room.Room.{Room}
use Rattle.floor_rooms.specs.Rooms.{topic_name, stall_names}
use Rattle.floor_moves.specs.declared.made.Made.{Made}
use Rattle.floor_moves.specs.declared.made.Made.TheVariants as made
use Rattle.floor_moves.specs.Moves.{entry_at}
use Rattle.floor_moves.proofs.Stepping.{noted_done}
use Rattle.floor_moves.specs.Taking.{named, names_of, DrawsRoom, LeavesRoom, IsTaken, IsUntouched, TakesIn, Sticks}

-- how many messages find room stays in each drawing
none_capacity : (a b : Backlog) → FindsNone a b → b.capacity ≡ a.capacity
none_capacity a b (no_queue ring queue is) = ap (λ (x : Backlog). x.capacity) is
none_capacity a b (no_record peeks) = ap (λ (x : Backlog). x.capacity) peeks.is

one_capacity : (a b : Backlog) (m : Message) → DrawsOne a b m → b.capacity ≡ a.capacity
one_capacity a b m (of_ring ring is) = ap (λ (x : Backlog). x.capacity) is
one_capacity a b m (of_disk peeks) = ap (λ (x : Backlog). x.capacity) peeks.is

draw_capacity : (a b : Backlog) (answer : Drawn) → DrawSeen a b answer → b.capacity ≡ a.capacity
draw_capacity a b (drawn.Got m) d = one_capacity a b m d
draw_capacity a b drawn.Empty d = none_capacity a b d
draw_capacity a b drawn.Fault d = ap (λ (x : Backlog). x.capacity) d.is
draw_capacity a b drawn.Damaged d = ap (λ (x : Backlog). x.capacity) d.peeks.is
draw_capacity a b drawn.Memory d = ap (λ (x : Backlog). x.capacity) d.peeks.is

settle_capacity : (lent : Lent) (a b : Backlog) → SettleSeen lent a b → b.capacity ≡ a.capacity
settle_capacity Nothing a b d = absurd d
settle_capacity OfRing a b d = ap (λ (x : Backlog). x.capacity) d
settle_capacity OfDisk a b d = ap (λ (x : Backlog). x.capacity) d.is

-- what a look leaves of a topic's queue but its backlog
record Looks (old new : Queue) : Type 0 where
  name : new.name ≡ old.name
  paused : new.paused ≡ old.paused
  capacity : new.backlog.capacity ≡ old.backlog.capacity

looks_into : (old new : Queue) (answer : Drawn) → LooksInto old new answer → Looks old new
looks_into old new answer d = record { name = ap (λ (q : Queue). q.name) d.is; paused = ap (λ (q : Queue). q.paused) d.is; capacity = draw_capacity old.backlog new.backlog answer d.backlog }

looks_none : (old new : Queue) (answer : Drawn) → (new ≡ old) ⊎ LooksInto old new answer → Looks old new
looks_none old new answer (inl same) = record { name = ap (λ (q : Queue). q.name) same; paused = ap (λ (q : Queue). q.paused) same; capacity = ap (λ (q : Queue). q.backlog.capacity) same }
looks_none old new answer (inr d) = looks_into old new answer d

looks : (old new : Queue) (channels : List (List ℕ)) (answer : Head) → HeadSeen old new channels answer → Looks old new
looks old new channels head.Ready d =
    record { name = ap (λ (q : Queue). q.name) d.is; paused = ap (λ (q : Queue). q.paused) d.is; capacity = draw_capacity old.backlog new.backlog (drawn.Got d.message) d.backlog }
looks old new channels head.Empty d = looks_none old new drawn.Empty d
looks old new channels head.Fault d = looks_into old new drawn.Fault d
looks old new channels head.Damaged d = looks_into old new drawn.Damaged d
looks old new channels head.Memory d = looks_none old new drawn.Memory d

-- nor does any but a drawing give it a head
head_none : (old new : Queue) (answer : Drawn) → old.head ≡ None → (new ≡ old) ⊎ LooksInto old new answer → new.head ≡ None
head_none old new answer none (inl same) = ap (λ (q : Queue). q.head) same ∙ none
head_none old new answer none (inr d) = ap (λ (q : Queue). q.head) d.is ∙ none

-- the same files are a change of any queue's
same_changes : (queue : Option DiskQueue) (old new : Files) → SameFiles old new → DiskChanges queue old new
same_changes None old new same = same
same_changes (Some q) old new same = λ file other. same file

changes_on : (queue after : Option DiskQueue) (f0 f1 f2 : Files) → SameQueue queue after → SameFiles f0 f1 → DiskChanges after f1 f2 → DiskChanges queue f0 f2
changes_on None None f0 f1 f2 q same change = λ file. change file ∙ same file
changes_on None (Some r) f0 f1 f2 q same change = absurd q
changes_on (Some q) None f0 f1 f2 s same change = absurd s
changes_on (Some q) (Some r) f0 f1 f2 s same change = λ file other. change file (λ own. other (subst (λ n. IsOwnFile n file) s.name own)) ∙ same file

pub same_queue : (queue : Option DiskQueue) → SameQueue queue queue
same_queue None = tt
same_queue (Some q) = record { name = refl; options = refl }

-- a topic whose names are at hand
rest_named : (r r' : Room) → r' ≡ record (named r) { queue = r'.queue } → r' ≡ record r { queue = r'.queue; names = r'.names }
rest_named r r' e = e ∙ ap (λ ns. record r { queue = r'.queue; names = ns }) (sym (ap (λ (x : Room). x.names) e))

names_named : (r r' : Room) → r' ≡ record (named r) { queue = r'.queue } → IfSome r'.names (λ names. names ≡ names_of r)
names_named r r' e = subst (λ o. IfSome o (λ names. names ≡ names_of r)) (sym (ap (λ (x : Room). x.names) e)) refl

-- what was drawn of a topic whose names were filled in, and what was lent came back
pub drawn_named : (tells : Bool) (answer : Head) (old new : Files) (before after : ℕ) (r0 r1 r2 r3 : Room) → r1 ≡ named r0 → r3 ≡ r2 → DrawsRoom tells answer old new before after r1 r2 → DrawsRoom tells answer old new before after (named r0) r3
drawn_named tells answer old new before after r0 r1 r2 r3 e1 e3 d =
    subst (λ (x : Room). DrawsRoom tells answer old new before after (named r0) x) (sym e3) (subst (λ (x : Room). DrawsRoom tells answer old new before after x r2) e1 d)

-- and what is aside is of it still
pub kept_now : (tells : Bool) (at : ℕ) (r2 r3 : Room) (kept : Option Entry) → r3 ≡ r2 → (IsTrue tells → IfSome r2.queue.head (λ h. kept ≡ Some (entry_at at (Took (topic_name r2) h.message (names_of r2)))))
    → IsTrue tells → IfSome r3.queue.head (λ h. kept ≡ Some (entry_at at (Took (topic_name r3) h.message (names_of r3))))
kept_now tells at r2 r3 kept same keeps told = subst (λ (x : Room). IfSome x.queue.head (λ (h : Taken). kept ≡ Some (entry_at at (Took (topic_name x) h.message (names_of x))))) (sym same) (keeps told)

-- nothing was drawn, for want of memory for the names
pub leaves_same : (tells : Bool) (files : Files) (faults : ℕ) (r r' : Room) → r' ≡ r → r.queue.backlog.lent ≡ Nothing → IfSome r.names (λ names. names ≡ names_of r) → LeavesRoom tells files files faults faults r r'
leaves_same tells files faults r r' same settled names = subst (LeavesRoom tells files files faults faults r) (sym same) (record {
  rest = refl;
  names = names;
  name = refl;
  paused = refl;
  settled = settled;
  queue = same_queue r.queue.backlog.queue;
  capacity = refl;
  stands = λ told s. s;
  others = λ told. same_changes r.queue.backlog.queue files files (λ file. refl);
  faults = omega arith;
})

pub untouched_same : (tells_notes tells_files : Bool) (files : Files) (first last : History) (r r' : Room) → r' ≡ r → r.queue.head ≡ None → (IsTrue tells_notes → last ≡ first) → IsUntouched tells_notes tells_files files files first last r r'
untouched_same tells_notes tells_files files first last r r' same none noted = subst (IsUntouched tells_notes tells_files files files first last r) (sym same) (record { none = none; noted = noted; stays = λ told t is. is })

-- a topic of which nothing is drawn
module _ (tells : Bool) (answer : Head) (old new : Files) (before after : ℕ) (r r' : Room) (d : DrawsRoom tells answer old new before after (named r) r') where
  pub leaves_looked : r'.queue.backlog.lent ≡ Nothing → LeavesRoom tells old new before after r r'
  leaves_looked settled =
      let l = looks r.queue r'.queue (stall_names r) answer d.seen in
      record {
        rest = rest_named r r' d.rest;
        names = names_named r r' d.rest;
        name = l.name;
        paused = l.paused;
        settled = settled;
        queue = d.queue;
        capacity = l.capacity;
        stands = d.stands;
        others = λ told. same_changes r.queue.backlog.queue old new (d.same told);
        faults = d.faults;
      }

  -- it is stuck
  pub stuck_in : (tells_notes : Bool) (at : ℕ) (first last : History) → r'.queue ≡ record (r.queue) { backlog = r'.queue.backlog } → ((t : Topic) → IsTrue tells → IsTopicOf r.queue old t → (t.waiting ≢ []) × Rose before after) → r.queue.head ≡ None → (result : Made)
      → Sticks tells_notes (topic_name r') at first last result → TakesIn tells_notes tells at old new before after first last r r' result
  stuck_in tells_notes at first last is gives none made.Done sticks = absurd sticks
  stuck_in tells_notes at first last is gives none made.Stuck sticks = record {
    none = ap (λ (q : Queue). q.head) is ∙ none;
    noted = λ told. sticks told ∙ ap (λ t. first ++ (entry_at at (Stuck t None), Faulted 0) ∷ []) (ap (λ (q : Queue). q.name) is);
    stays = d.stays;
    waits = λ told t of. (gives t told of).0;
    rose = λ told t of. (gives t told of).1;
  }
  stuck_in tells_notes at first last is gives none made.Memory sticks = record { none = ap (λ (q : Queue). q.head) is ∙ none; noted = sticks; stays = d.stays }

pub fault_in : (tells_notes tells : Bool) (at : ℕ) (old new : Files) (before after : ℕ) (first last : History) (r r' : Room) → DrawsRoom tells head.Fault old new before after (named r) r' → r.queue.head ≡ None → (result : Made) → Sticks tells_notes (topic_name r') at first last result
    → TakesIn tells_notes tells at old new before after first last r r' result
fault_in tells_notes tells at old new before after first last r r' d none result sticks =
    stuck_in tells head.Fault old new before after r r' d tells_notes at first last d.seen.is (λ t told of. (d.gives told t of, d.cause)) none result sticks

pub damage_in : (tells_notes tells : Bool) (at : ℕ) (old new : Files) (before after : ℕ) (first last : History) (r r' : Room) → DrawsRoom tells head.Damaged old new before after (named r) r' → r.queue.head ≡ None → (result : Made)
    → Sticks tells_notes (topic_name r') at first last result → TakesIn tells_notes tells at old new before after first last r r' result
damage_in tells_notes tells at old new before after first last r r' d none result sticks =
    stuck_in tells head.Damaged old new before after r r' d tells_notes at first last d.seen.is (λ t told of. absurd (d.gives told t of)) none result sticks

-- nothing waits that can be drawn, or memory is wanting
pub empty_in : (tells_notes tells : Bool) (old new : Files) (before after : ℕ) (first last : History) (r r' : Room) → DrawsRoom tells head.Empty old new before after (named r) r' → r.queue.head ≡ None → (IsTrue tells_notes → last ≡ first) → IsUntouched tells_notes tells old new first last r r'
empty_in tells_notes tells old new before after first last r r' d none noted = record { none = head_none r.queue r'.queue drawn.Empty none d.seen; noted = noted; stays = d.stays }

pub want_in : (tells_notes tells : Bool) (old new : Files) (before after : ℕ) (first last : History) (r r' : Room) → DrawsRoom tells head.Memory old new before after (named r) r' → r.queue.head ≡ None → (IsTrue tells_notes → last ≡ first) → IsUntouched tells_notes tells old new first last r r'
want_in tells_notes tells old new before after first last r r' d none noted = record { none = head_none r.queue r'.queue drawn.Memory none d.seen; noted = noted; stays = d.stays }

-- a message that was drawn
module _ (tells : Bool) (old new : Files) (before after : ℕ) (r r' : Room) (d : DrawsRoom tells head.Ready old new before after (named r) r') where
  drawn_head : r'.queue.head ≡ Some (record { message = d.seen.message; owed = stall_names r })
  drawn_head = ap (λ (q : Queue). q.head) d.seen.is

  -- its topic has a head, and its names at hand
  pub has_head : IsSome r'.queue.head
  has_head = subst (λ o. IsSome o) (sym drawn_head) refl

  pub has_names : r'.names ≡ Some (names_of r')
  has_names =
      ap (λ (x : Room). x.names) d.rest ∙ ap Some (sym (ap (λ t. (t, stall_names r') ∷ []) (ap (λ (x : Queue). x.name) d.seen.is) ∙ ap (λ (x : Room). (topic_name r, stall_names x) ∷ []) d.rest))

  -- it is put back
  module _ (q : Queue) (settled : q.backlog.lent ≡ Nothing) (queue : q.backlog.queue ≡ r'.queue.backlog.queue) (seen : IfSome r'.queue.head (λ h. q ≡ record (r'.queue) { backlog = undone r'.queue.backlog h.message; head = None })) where
    undone_is : q ≡ record (r'.queue) { backlog = undone r'.queue.backlog d.seen.message; head = None }
    undone_is = subst (λ o. IfSome o (λ (h : Taken). q ≡ record (r'.queue) { backlog = undone r'.queue.backlog h.message; head = None })) drawn_head seen

    pub leaves_undone : LeavesRoom tells old new before after r (record r' { queue = q })
    leaves_undone =
        let l = looks r.queue r'.queue (stall_names r) head.Ready d.seen in
        let rest : record r' { queue = q } ≡ record (named r) { queue = q } = ap (λ (x : Room). record x { queue = q }) d.rest in
        record {
          rest = rest_named r (record r' { queue = q }) rest;
          names = names_named r (record r' { queue = q }) rest;
          name = ap (λ (x : Queue). x.name) undone_is ∙ l.name;
          paused = ap (λ (x : Queue). x.paused) undone_is ∙ l.paused;
          settled = settled;
          queue = subst (SameQueue r.queue.backlog.queue) (sym queue) d.queue;
          capacity = ap (λ (x : Queue). x.backlog.capacity) undone_is ∙ l.capacity;
          stands = λ told s. subst (λ x. Stands x new) (sym queue) (d.stands told s);
          others = λ told. same_changes r.queue.backlog.queue old new (d.same told);
          faults = d.faults;
        }

    pub untouched_undone : (tells_notes : Bool) (first last : History) → (IsTrue tells_notes → last ≡ first) → ((files : Files) → Stays r'.queue files q files) → IsUntouched tells_notes tells old new first last r (record r' { queue = q })
    untouched_undone tells_notes first last noted stays = record { none = ap (λ (x : Queue). x.head) undone_is; noted = noted; stays = λ told t is. stays new t (d.stays told t is) }

  -- it is taken
  pub leaves_settled : (q : Queue) (last : Files) (end : ℕ) → q.backlog.lent ≡ Nothing → SameQueue r'.queue.backlog.queue q.backlog.queue → q ≡ record (r'.queue) { backlog = q.backlog } → SettleSeen r'.queue.backlog.lent r'.queue.backlog q.backlog
      → (IsTrue tells → Stands r'.queue.backlog.queue new → Stands q.backlog.queue last) → (IsTrue tells → DiskChanges r'.queue.backlog.queue new last) → after ≤ end → LeavesRoom tells old last before end r (record r' { queue = q })
  leaves_settled q last end settled queue seen backlog stands others faults =
      let l = looks r.queue r'.queue (stall_names r) head.Ready d.seen in
      let rises = d.faults in
      let rest : record r' { queue = q } ≡ record (named r) { queue = q } = ap (λ (x : Room). record x { queue = q }) d.rest in
      record {
        rest = rest_named r (record r' { queue = q }) rest;
        names = names_named r (record r' { queue = q }) rest;
        name = ap (λ (x : Queue). x.name) seen ∙ l.name;
        paused = ap (λ (x : Queue). x.paused) seen ∙ l.paused;
        settled = settled;
        queue = same_joined r.queue.backlog.queue r'.queue.backlog.queue q.backlog.queue d.queue queue;
        capacity = settle_capacity r'.queue.backlog.lent r'.queue.backlog q.backlog backlog ∙ l.capacity;
        stands = λ told s. stands told (d.stands told s);
        others = λ told. changes_on r.queue.backlog.queue r'.queue.backlog.queue old new last d.queue (d.same told) (others told);
        faults = omega (arith, rises, faults);
      }

  pub taken_in : (tells_notes : Bool) (at : ℕ) (q : Queue) (last : Files) (h0 h1 h2 : History) (kept : Option Entry) → q ≡ record (r'.queue) { backlog = q.backlog }
      → (IsTrue tells_notes → IfSome r'.queue.head (λ h. kept ≡ Some (entry_at at (Took (topic_name r') h.message (names_of r'))))) → (IsTrue tells_notes → h1 ≡ h0) → (IsTrue tells_notes → IfSome kept (λ e. journals.Notes h1 h2 e Done))
      → (IsTrue tells → (t : Topic) → IsTopicOf r'.queue new t → IfSome r'.queue.head (λ h. MayTake h t → rows.Took h q last t)) → IsTaken tells_notes tells at old last h0 h2 r (record r' { queue = q })
  taken_in tells_notes at q last h0 h1 h2 kept seen keeps same notes row =
      let taken : Taken = record { message = d.seen.message; owed = stall_names r } in
      let names : names_of r' ≡ names_of r = ap (λ t. (t, stall_names r') ∷ []) (ap (λ (x : Queue). x.name) d.seen.is) ∙ ap (λ (x : Room). (topic_name r, stall_names x) ∷ []) d.rest in
      let entry : entry_at at (Took (topic_name r') d.seen.message (names_of r')) ≡ entry_at at (Took (topic_name r) d.seen.message (names_of r)) =
      ap (λ t. entry_at at (Took t d.seen.message (names_of r'))) (ap (λ (x : Queue). x.name) d.seen.is) ∙ ap (λ n. entry_at at (Took (topic_name r) d.seen.message n)) names in
      record {
        taken = taken;
        head = ap (λ (x : Queue). x.head) seen ∙ drawn_head;
        owed = refl;
        noted = noted_done tells_notes h0 h1 h2 kept (entry_at at (Took (topic_name r) d.seen.message (names_of r)))
            (λ told. subst (λ o. IfSome o (λ (h : Taken). kept ≡ Some (entry_at at (Took (topic_name r') h.message (names_of r'))))) drawn_head (keeps told) ∙ ap Some entry, same, notes);
        row = λ told t is may. subst (λ o. IfSome o (λ (h : Taken). MayTake h t → rows.Took h q last t)) drawn_head (row told t (d.stays told t is)) may;
      }
