-- The script of a stream of which the plain program has read a front.
use Rattle.std.proofs.Common.{◌≡◌, ℕ, ◌+◌, ◌-◌, ◌≤◌, List, ◌++◌, length, take, drop, length-drop, take-append-drop, sym, ap, ◌∙◌, subst, arith}
use Rattle.v2_frame.specs.declared.command.Command.{Command}
use Rattle.v2_frame.specs.declared.fault.FaultKind.{FaultKind}
use Rattle.v2_frame.specs.declared.fault.Limits.{Limits}
use Rattle.v2_frame.specs.declared.fault.Rest.TheVariants as rest
use Rattle.v2_frame.specs.Judging.{IsFault, IsUnfinished}
use Rattle.v2_frame.specs.Script.{magic, Row, told_place, IsScript, good_magic}

module _ (limits : Limits) (bytes : List ℕ) (start : ℕ) (commands : List Command) (right : take 4 bytes ≡ magic) (low : 4 ≤ start) (within : start ≤ length bytes) (row : Row limits (drop 4 bytes) commands (drop start bytes)) where
  whole_is : bytes ≡ magic ++ drop 4 bytes
  whole_is = sym (take-append-drop 4 bytes) ∙ ap (λ (x : List ℕ). x ++ drop 4 bytes) right

  place_is : 4 + (length (drop 4 bytes) - length (drop start bytes)) ≡ start
  place_is = omega (arith, length-drop 4 bytes, length-drop start bytes)

  pub script_open : (slice : List ℕ) → slice ≡ drop start bytes → IsUnfinished limits slice → IsScript limits bytes commands rest.Unfinished
  script_open slice e u = good_magic whole_is (record { left = drop start bytes; row = row; ends = subst (λ (x : List ℕ). IsUnfinished limits x) e u })

  pub script_faulty : (slice : List ℕ) (kind : FaultKind) (at told : ℕ) → slice ≡ drop start bytes → IsFault limits slice kind at → told ≡ told_place (start + at) → IsScript limits bytes commands (rest.Faulty (record { kind = kind; at = told }))
  script_faulty slice kind at told e f t =
      good_magic whole_is (record { left = drop start bytes; row = row; ends = (at, subst (λ (x : List ℕ). IsFault limits x kind at) e f, t ∙ ap (λ (n : ℕ). told_place (n + at)) (sym place_is)) })
