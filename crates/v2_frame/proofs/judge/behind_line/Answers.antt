use Rattle.std.proofs.Common.{ℕ, ◌+◌, ◌-◌, List, drop, length, take, refl, ap, sym, subst, ◌∙◌}
use Rattle.std.proofs.lemmas.List.{drop-drop}
use Rattle.v2_frame.specs.declared.judge.Found.TheVariants as found
use Rattle.v2_frame.specs.Judging.{Whole}
use Rattle.v2_frame.specs.Parts.{sized_heading, verdict_of, HasText}
use Rattle.v2_frame.proofs.PlaceLemmas.{behind_place}
use Rattle.v2_frame.proofs.FoundLemmas.{told_behind, taken_behind}
use Rattle.v2_frame.proofs.judge.behind_line.Goals as goal

pub returns-in-Err : goal.returns-in-Err
returns-in-Err c = record {
  verdict = tt;
  taken = tt;
  memory = subst (λ (x : List ℕ). HasText c.args.limits (sized_heading c.args.start) x) (behind_place c.args.bytes.now (c.args.end + 1)) c.in-Err.ensures.memory;
}

pub returns-in-Ok-Whole : goal.returns-in-Ok-Whole
returns-in-Ok-Whole c =
    let bytes = c.args.bytes.now in
    let line = c.args.end + 1 in
    let slice = take (length bytes - line) (drop line bytes) in
    let command = c.in-Ok-Whole.command in
    let taken = c.in-Ok-Whole.taken in
    record {
      verdict = told_behind c.args.limits (sized_heading c.args.start) slice (drop line bytes) line (verdict_of slice (found.Whole command taken)) (verdict_of bytes (found.Whole command (line + taken))) (behind_place bytes line)
          (rw c.in-Ok-Whole.field-0-is at c.in-Ok-Whole.ensures.verdict) (sym (ap (λ (x : List ℕ). Whole command x) (ap (λ (x : List ℕ). drop taken x) (behind_place bytes line) ∙ drop-drop taken line bytes)));
      taken = taken_behind bytes slice c.args.end taken (behind_place bytes line) c.requires (rw c.in-Ok-Whole.field-0-is at c.in-Ok-Whole.ensures.taken);
      memory = tt;
    }

pub returns-in-Ok-Faulty : goal.returns-in-Ok-Faulty
returns-in-Ok-Faulty c =
    let bytes = c.args.bytes.now in
    let line = c.args.end + 1 in
    let slice = take (length bytes - line) (drop line bytes) in
    let kind = c.in-Ok-Faulty.kind in
    let at = c.in-Ok-Faulty.at in
    record {
      verdict = told_behind c.args.limits (sized_heading c.args.start) slice (drop line bytes) line (verdict_of slice (found.Faulty kind at)) (verdict_of bytes (found.Faulty kind (line + at))) (behind_place bytes line)
          (rw c.in-Ok-Faulty.field-0-is at c.in-Ok-Faulty.ensures.verdict) refl;
      taken = (taken_behind bytes slice c.args.end at (behind_place bytes line) c.requires (rw c.in-Ok-Faulty.field-0-is at c.in-Ok-Faulty.ensures.taken)).1;
      memory = tt;
    }

pub returns-in-Ok-Unfinished : goal.returns-in-Ok-Unfinished
returns-in-Ok-Unfinished c =
    let bytes = c.args.bytes.now in
    let line = c.args.end + 1 in
    let slice = take (length bytes - line) (drop line bytes) in
    record {
      verdict = told_behind c.args.limits (sized_heading c.args.start) slice (drop line bytes) line (verdict_of slice found.Unfinished) (verdict_of bytes found.Unfinished) (behind_place bytes line)
          (rw c.in-Ok-Unfinished.field-0-is at c.in-Ok-Unfinished.ensures.verdict) refl;
      taken = tt;
      memory = tt;
    }
