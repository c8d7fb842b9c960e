-- What a drawing finds on disk.
use Rattle.std.proofs.Common.{ℕ, ◌≡◌, List, [], ◌++◌, length, map, Option, Some, sym, ap, subst, arith, length-append}
use Rattle.std.proofs.lemmas.List.{length-map}
use Rattle.nsq_outside.specs.Files.{Files}
use Rattle.v2_frame.specs.declared.message.Message.{Message}
use Rattle.v2_frame.specs.Written.{message_bytes}
use Rattle.disk_queue.specs.Seen.{Seen as Queue}
use Rattle.disk_queue.specs.Holding.{Holds}
use Rattle.disk_queue.specs.Reading.{IsFirst}
use Rattle.backlog.specs.Seen.{Seen, IsSameQueue}
use Rattle.backlog.specs.Lists.{HoldsAll, OnDisk}
use Rattle.backlog.specs.declared.backlog.Lent.{Lent}

-- the queue holds what is said to be on disk
held_there : (old : Seen) (items : List Message) (capacity : ℕ) (queue : Option Queue) (lent : Lent) (q : Queue) (files : Files) (disk : List Message)
    → record { ring = items; capacity = capacity; queue = queue; lent = lent } ≡ old
    → queue ≡ Some q → OnDisk old.queue files disk → HoldsAll q files disk
held_there old items capacity queue lent q files disk view there held =
    let on_disk : OnDisk queue files disk = subst (λ (b : Seen). OnDisk b.queue files disk) (sym view) held in
    subst (λ (w : Option Queue). OnDisk w files disk) there on_disk

-- where a list is held no file is damaged
pub never_damaged : (old : Seen) (items : List Message) (capacity : ℕ) (queue : Option Queue) (lent : Lent) (q : Queue) (files : Files) (disk : List Message)
    → record { ring = items; capacity = capacity; queue = queue; lent = lent } ≡ old
    → queue ≡ Some q → ((bodies waiting : List (List ℕ)) → Holds q files bodies waiting → ⊥) → OnDisk old.queue files disk → ⊥
never_damaged old items capacity queue lent q files disk view there never held =
    let holds = held_there old items capacity queue lent q files disk view there held in
    never (map message_bytes disk) [] holds.list

-- there is a message where the queue gives a record
pub some_message : (old : Seen) (items : List Message) (capacity : ℕ) (queue : Option Queue) (lent : Lent) (q : Queue) (files : Files) (disk : List Message) (body : List ℕ)
    → record { ring = items; capacity = capacity; queue = queue; lent = lent } ≡ old
    → queue ≡ Some q → ((bodies waiting : List (List ℕ)) → Holds q files bodies waiting → IsFirst bodies body) → OnDisk old.queue files disk → old.ring ++ disk ≡ [] → ⊥
some_message old items capacity queue lent q files disk body view there gives held none =
    let holds = held_there old items capacity queue lent q files disk view there held in
    let first = gives (map message_bytes disk) [] holds.list in
    omega (arith, ap length none, length-append old.ring disk, ap length first.whole, length-map disk message_bytes)

pub same_queue : (q r : Queue) → r.name ≡ q.name → r.options ≡ q.options → IsSameQueue q r
same_queue q r name options = record { name = name; options = options }
