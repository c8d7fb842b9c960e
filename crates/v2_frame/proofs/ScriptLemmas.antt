-- Rows of commands in a stream, and its magic.
use Rattle.std.proofs.Common.{◌≡◌, ◌≢◌, ℕ, ◌≤◌, List, [], ◌∷◌, ◌++◌, length, take, length-take, take-append-drop, refl, sym, arith}
use Rattle.v2_frame.specs.declared.command.Command.{Command}
use Rattle.v2_frame.specs.declared.fault.FaultKind.TheVariants.{BadMagic}
use Rattle.v2_frame.specs.declared.fault.Limits.{Limits}
use Rattle.v2_frame.specs.declared.fault.Rest.TheVariants as rest
use Rattle.v2_frame.specs.Judging.{HasFront, Begins}
use Rattle.v2_frame.specs.Script.{magic, Row, none, more, IsScript, bad_magic}
use Rattle.v2_frame.proofs.VerdictLemmas.{begins_more}

pub row_more : {limits : Limits} {bytes left : List ℕ} {commands : List Command} (after : List ℕ) → Row limits bytes commands left → Row limits (bytes ++ after) commands (left ++ after)
row_more after none = none
row_more after (more b r) = more (begins_more after b) (row_more after r)

-- a stream that begins with the magic
pub has_magic : (bytes after : List ℕ) → bytes ≡ magic ++ after → HasFront bytes 4 magic after
has_magic bytes after e = record { whole = e; long = refl }

-- one more command at the end of a row
pub row_push : {limits : Limits} {bytes left after : List ℕ} {commands : List Command} {command : Command} → Row limits bytes commands left → Begins limits left command after → Row limits bytes (commands ++ command ∷ []) after
row_push none b = more b none
row_push (more d r) b = more d (row_push r b)

-- the script of a stream whose first four bytes aren't the magic
pub no_magic : (limits : Limits) (bytes : List ℕ) (commands : List Command) → 4 ≤ length bytes → take 4 bytes ≢ magic → commands ≡ [] → IsScript limits bytes commands (rest.Faulty (record { kind = BadMagic; at = 0 }))
no_magic limits bytes commands long wrong e = bad_magic (record { whole = sym (take-append-drop 4 bytes); long = simp length-take (omega arith) }) wrong e refl
