use Rattle.std.proofs.Common.{◌≡◌, ◌≢◌, ℕ, ◌+◌, ◌-◌, List, take, drop, length, length-drop, arith, rules, ap, sym, subst, ◌∙◌}
use Rattle.std.proofs.lemmas.List.{drop-drop}
use Rattle.v2_frame.specs.declared.command.Command.{Command}
use Rattle.v2_frame.specs.Judging.{Begins}
use Rattle.v2_frame.specs.Script.{magic, Row, none}
use Rattle.v2_frame.specs.Parts.{TakesSome}
use Rattle.v2_frame.specs.declared.judge.Found.TheVariants as found
use Rattle.v2_frame.proofs.PlaceLemmas.{behind_place}
use Rattle.v2_frame.proofs.VerdictLemmas.{judged_begins}
use Rattle.v2_frame.proofs.ScriptLemmas.{row_push, no_magic}
use Rattle.streams_plain.proofs.ScriptLemmas.{script_open, script_faulty}
use Rattle.streams_plain.proofs.script.script_of.Goals as goal

pub returns-then-ne : goal.returns-then-ne
returns-then-ne c =
    let wrong : take 4 c.args.bytes.now ≢ magic = search rules in
    no_magic c.args.limits c.args.bytes.now c.new-commands.result.items (omega arith) wrong c.new-commands.ensures.items

pub commands-init : goal.commands-init
commands-init c = record {
  low = omega arith;
  within = omega arith;
  row = subst (λ (x : List Command). Row c.args.limits (drop 4 c.args.bytes.now) x (drop 4 c.args.bytes.now)) (sym c.new-commands.ensures.items) none;
}

pub commands-preserved : goal.commands-preserved
commands-preserved c =
    let i = c.commands.invariant in
    let bytes = c.args.bytes.now in
    let start = c.commands.start in
    let taken = c.in-Whole.taken in
    let slice = behind_place bytes start in
    let rest = take (length bytes - start) (drop start bytes) in
    let some : TakesSome rest (found.Whole c.in-Whole.command taken) = rw c.in-Whole.is at c.in_ok-command.ensures.taken in
    let begins : Begins c.args.limits rest c.in-Whole.command (drop taken rest) = judged_begins (rw c.in-Whole.is at c.in_ok-command.ensures.verdict) in
    let after : drop taken rest ≡ drop (start + taken) bytes = ap (drop taken) slice ∙ drop-drop taken start bytes in
    let here : Begins c.args.limits (drop start bytes) c.in-Whole.command (drop (start + taken) bytes) =
    subst (λ (x : List ℕ). Begins c.args.limits x c.in-Whole.command (drop (start + taken) bytes)) slice (subst (λ (x : List ℕ). Begins c.args.limits rest c.in-Whole.command x) after begins) in
    record {
      low = omega (arith, i.low);
      within = omega (arith, i.within, some, ap length slice, length-drop start bytes);
      row = subst (λ (x : List Command). Row c.args.limits (drop 4 bytes) x (drop (start + taken) bytes)) (sym c.in_ok-push-in-Whole.ensures.items) (row_push i.row here);
    }

pub returns-in-Faulty : goal.returns-in-Faulty
returns-in-Faulty c =
    let i = c.commands.invariant in
    let right : take 4 c.args.bytes.now ≡ magic = search rules in
    script_faulty c.args.limits c.args.bytes.now c.commands.start c.commands.commands.items right i.low i.within i.row _ c.in-Faulty.kind c.in-Faulty.at c.told_place-at.result
    (behind_place c.args.bytes.now c.commands.start) (rw c.in-Faulty.is at c.in_ok-command.ensures.verdict) c.told_place-at.ensures

pub returns-in-Unfinished : goal.returns-in-Unfinished
returns-in-Unfinished c =
    let i = c.commands.invariant in
    let right : take 4 c.args.bytes.now ≡ magic = search rules in
    script_open c.args.limits c.args.bytes.now c.commands.start c.commands.commands.items right i.low i.within i.row _
    (behind_place c.args.bytes.now c.commands.start) (rw c.in-Unfinished.is at c.in_ok-command.ensures.verdict)
