-- What a connection in memory shows.
use Rattle.std.specs.Prelude.{ℕ, ◌≡◌, ◌<◌, ◌⊎◌, List, drop, length, map, IsSomeAnd, slice_get, min, Bool, true, false}
use Rattle.nsq_fakes.specs.Scripts.{to_come, rest_of, IsMark, IsAtEnd, IsWhole, PassesFirst, PassesBytes}
use Rattle.nsq_fakes.specs.MemCalls.{FailsAt, IsFailing, Counts, ForgetsFaults}
use Rattle.nsq_outside.specs.Hosts.{IsFresh, IsFreshLink}
use Rattle.nsq_outside.specs.declared.conn.Read.{Read}
use Rattle.nsq_outside.specs.declared.conn.Read.TheVariants.{Got, Nothing, End, Failed as ReadFailed}
use Rattle.nsq_outside.specs.declared.conn.Write.{Write}
use Rattle.nsq_outside.specs.declared.conn.Write.TheVariants.{Took, Failed as WriteFailed}
use Rattle.nsq_outside.specs.declared.host.Dialled.{Dialled}
use Rattle.nsq_outside.specs.declared.host.Dialled.TheVariants.{Linked, Failed as NotLinked}
use Rattle.nsq_fakes.specs.declared.script.Piece.{Piece}
use Rattle.nsq_fakes.specs.declared.conn.MemConn.{MemConn}

-- the pieces that were read
abbrev pub pieces_of : MemConn → List (List ℕ)
pieces_of conn = map (λ piece. piece.items) conn.pieces.items

-- the bytes that are still to come
abbrev pub left_of : MemConn → List ℕ
left_of conn = to_come conn.script

-- whether a read answered that no byte will come any more
abbrev pub has_ended : MemConn → Bool
has_ended conn = conn.ended

-- how often a read failed
abbrev pub read_faults_of : MemConn → ℕ
read_faults_of conn = conn.reads.faults.count

-- the bytes that were written
abbrev pub written_of : MemConn → List ℕ
written_of conn = conn.written.items

-- how often a write failed
abbrev pub write_faults_of : MemConn → ℕ
write_faults_of conn = conn.writes.faults.count

-- nothing was called yet, and the reads and the writes of these numbers fail
abbrev pub FailsAtCalls : List ℕ → List ℕ → MemConn → Type 0
FailsAtCalls reads writes conn = FailsAt reads conn.reads × FailsAt writes conn.writes

-- unless it has ended, a read is counted, and fails where its number is listed
abbrev pub CountsRead : MemConn → MemConn → Read → Type 0
CountsRead old new result = old.ended ≡ false → (Counts old.reads new.reads × (IsFailing old.reads → result ≡ ReadFailed))

-- a write is counted, and fails where its number is listed
abbrev pub CountsWrite : MemConn → MemConn → Write → Type 0
CountsWrite old new result = Counts old.writes new.writes × (IsFailing old.writes → result ≡ WriteFailed)

-- nothing was read or written yet, and nothing failed
abbrev pub IsUnused : MemConn → Type 0
IsUnused conn = IsFresh pieces_of has_ended written_of read_faults_of write_faults_of conn

-- a connection that a dial gives is so
abbrev pub IsUnusedLink : Dialled MemConn → Type 0
IsUnusedLink link = IsFreshLink pieces_of has_ended written_of read_faults_of write_faults_of link

-- these pieces are to be read
abbrev pub IsToGive : List Piece → MemConn → Type 0
IsToGive pieces conn = IsWhole pieces conn.script

-- a read gives what is left of the first piece, as much as fits, or passes one mark; every other answer leaves the script. The end comes where
-- no byte can come, and Failed where a read of this number fails or there is no memory to keep bytes
abbrev pub FollowsScript : MemConn → MemConn → ℕ → Read → Type 0
FollowsScript old new room (Got n) = (n ≡ min (length (rest_of old.script)) room) × PassesBytes old.script new.script n
FollowsScript old new room Nothing = IsMark old.script × PassesFirst old.script new.script
FollowsScript old new room End = (new.script ≡ old.script) × ((old.ended ≡ true) ⊎ IsAtEnd old.script)
FollowsScript old new room ReadFailed = (new.script ≡ old.script) × (IsFailing old.reads ⊎ (0 < length (rest_of old.script)))

-- a write takes all bytes or none
abbrev pub IsAllOrNone : ℕ → Write → Type 0
IsAllOrNone offered (Took n) = n ≡ offered
IsAllOrNone offered WriteFailed = Unit {0}

-- the pieces to be read and the reads and writes that fail are as before, and so are the numbers of the next ones; what failed is forgotten
pub record IsRestarted (old new : MemConn) : Type 0 where
  pub script : new.script ≡ old.script
  pub reads : ForgetsFaults old.reads new.reads
  pub writes : ForgetsFaults old.writes new.writes

-- the first of the connections to come is given, so restarted, and the others are still to come; or all are
abbrev pub LinksFirst : List MemConn → List MemConn → Dialled MemConn → Type 0
LinksFirst old new (Linked conn) = IsSomeAnd (slice_get old 0) (λ first. IsRestarted first conn) × (new ≡ drop 1 old)
LinksFirst old new NotLinked = new ≡ old
