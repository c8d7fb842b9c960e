-- What a line starts, and the verdict on it, as the judge finds it.
use Rattle.std.proofs.Common.{◌≡◌, ℕ, ◌+◌, ◌<◌, ◌≤◌, List, ◌∷◌, ◌++◌, length, drop, Result, Ok, Err, refl, sym, ap, subst, ◌∙◌, arith, length-drop}
use Rattle.std.specs.Prelude.{IfOk, OnErr, MatchResult}
use Rattle.nsq_core.specs.declared.memory.Memory.{Memory}
use Rattle.v2_frame.specs.declared.command.Command.{Command}
use Rattle.v2_frame.specs.declared.fault.FaultKind.{FaultKind}
use Rattle.v2_frame.specs.declared.fault.FaultKind.TheVariants.{LineTooLong, BadWord, BadTopic, BadChannel}
use Rattle.v2_frame.specs.declared.fault.Limits.{Limits}
use Rattle.v2_frame.specs.declared.judge.Found.{Found}
use Rattle.v2_frame.specs.declared.start.Sized.{Sized}
use Rattle.v2_frame.specs.declared.start.Start.{Start}
use Rattle.v2_frame.specs.declared.start.Start.TheVariants as start
use Rattle.v2_frame.specs.Line.{HasLine, text_of, words_of}
use Rattle.v2_frame.specs.Heading.{Heading, Says, SaysNothing}
use Rattle.v2_frame.specs.Command.{longest_line, LineSays}
use Rattle.v2_frame.specs.Judging.{Verdict, Whole, Faulty, shifted, Behind, whole, HasHeading, Judged, long_line, bad_word, bad_topic, bad_channel, good_line}
use Rattle.v2_frame.specs.Lined.{LineStarts, IsBadLine, BehindLine}
use Rattle.v2_frame.specs.Parts.{sized_heading, verdict_of, IsStart, HasBadName, HasText, HasSizedText}

-- a line and its text
module _ (line text : List ℕ) (text_is : text ≡ text_of line) where
  pub line_long : longest_line < length text → IsBadLine line LineTooLong
  line_long many = λ limits bytes rest h. long_line h (omega (arith, ap length text_is))

  pub line_nothing : length text ≤ longest_line → SaysNothing (words_of text) → IsBadLine line BadWord
  line_nothing short nothing = λ limits bytes rest h. bad_word h (omega (arith, ap length text_is)) (subst (λ (x : List ℕ). SaysNothing (words_of x)) text_is nothing)

  pub line_says : (heading : Heading) → length text ≤ longest_line → Says (words_of text) heading → LineSays line heading
  line_says heading short says = record { short = omega (arith, ap length text_is); says = subst (λ (x : List ℕ). Says (words_of x) heading) text_is says }

-- what is judged of a heading that a line says
found_name : {limits : Limits} {bytes line rest : List ℕ} (heading : Heading) (kind : FaultKind) → HasHeading bytes line heading rest → HasBadName heading kind → Judged limits bytes (Faulty kind 0)
found_name heading BadTopic h bad = bad_topic h bad
found_name heading BadChannel h bad = bad_channel h bad
found_name heading _ h bad = absurd bad

pub line_start : (line : List ℕ) (heading : Heading) (r : Result Start FaultKind) → LineSays line heading → MatchResult r (λ (s : Start). IsStart heading s) (λ (kind : FaultKind). HasBadName heading kind)
    → MatchResult r (λ (s : Start). LineStarts line s) (λ (kind : FaultKind). IsBadLine line kind)
line_start line heading (Ok s) says is = record { heading = heading; says = says; is = is }
line_start line heading (Err kind) says bad = λ limits bytes rest h. found_name heading kind (record { line_is = h; says = says }) bad

start_alone : {limits : Limits} {bytes line rest : List ℕ} (heading : Heading) (command : Command) → HasHeading bytes line heading rest → IsStart heading (start.Alone command) → Judged limits bytes (Whole command rest)
start_alone {limits = limits} {rest = rest} heading command h s = good_line h s.1 (whole s.0 (ap (λ (x : List ℕ). x ++ rest) (sym s.2)) (s.3 limits)) refl

-- a line that starts a command which is whole
pub found_alone : (limits : Limits) {bytes line rest : List ℕ} (command : Command) → HasLine bytes line rest → LineStarts line (start.Alone command) → Judged limits bytes (Whole command rest)
found_alone limits command h s = start_alone s.heading command (record { line_is = h; says = s.says }) s.is

-- a line that starts a command with a size behind it
module _ (limits : Limits) (bytes line rest : List ℕ) (sized : Sized) (h : HasLine bytes line rest) (s : LineStarts line (start.Sized sized)) where
  pub found_sized : (n : ℕ) (r : Result Found Memory) → length line + 1 ≡ n → IfOk r (λ (f : Found). BehindLine limits (sized_heading sized) rest n (verdict_of bytes f)) → IfOk r (λ (f : Found). Judged limits bytes (verdict_of bytes f))
  found_sized n (Ok f) e b =
      good_line (record { line_is = h; says = s.says }) s.is.1 (subst (λ (x : Heading). Behind limits x rest b.verdict) (sym s.is.0) b.behind) (b.is ∙ ap (λ (m : ℕ). shifted m b.verdict) (sym e))
  found_sized n (Err x) e b = tt

  pub sized_text : (r : Result Found Memory) → OnErr r (HasText limits (sized_heading sized) rest) → OnErr r (HasSizedText limits bytes)
  sized_text (Ok f) t = tt
  sized_text (Err x) t =
      record { line = line; rest = rest; heading = s.heading; is = record { line_is = h; says = s.says }; named = s.is.1; text = subst (λ (x : Heading). HasText limits x rest) (sym s.is.0) t }

-- what was judged behind a line, told from the command's first byte
pub told_behind : (limits : Limits) (heading : Heading) (slice rest : List ℕ) (line : ℕ) (verdict shown : Verdict) → slice ≡ rest → Behind limits heading slice verdict → shown ≡ shifted line verdict → BehindLine limits heading rest line shown
told_behind limits heading slice rest line verdict shown e b is = record { verdict = verdict; behind = subst (λ (x : List ℕ). Behind limits heading x verdict) e b; is = is }

-- what was taken behind a line, from the command's first byte
pub taken_behind : (bytes slice : List ℕ) (end taken : ℕ) → slice ≡ drop (end + 1) bytes → end < length bytes → taken ≤ length slice → (0 < end + 1 + taken) × (end + 1 + taken ≤ length bytes)
taken_behind bytes slice end taken e l within = (omega arith, omega (arith, ap length e, length-drop (end + 1) bytes))
