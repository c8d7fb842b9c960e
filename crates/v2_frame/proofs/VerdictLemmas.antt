-- Bytes at a command's start have one verdict, more bytes leave it as it is, and a whole command is a spelling.
use Rattle.std.proofs.Common.{◌≡◌, ℕ, ◌+◌, ◌<◌, ◌≤◌, List, ◌∷◌, ◌++◌, length, refl, sym, ap, ◌∙◌, subst, arith, append_assoc, length-append}
use Rattle.v2_frame.specs.declared.command.Command.{Command}
use Rattle.v2_frame.specs.declared.fault.FaultKind.{FaultKind}
use Rattle.v2_frame.specs.declared.fault.FaultKind.TheVariants.{LineTooLong, BadWord, BadTopic, BadChannel}
use Rattle.v2_frame.specs.declared.fault.Limits.{Limits}
use Rattle.v2_frame.specs.Line.{HasLine, text_of, words_of}
use Rattle.v2_frame.specs.Heading.{Heading, SaysNothing, IsWellNamed, HasBadTopic, HasBadChannel}
use Rattle.v2_frame.specs.Command.{longest_line, bytes_behind, LineSays, Spells}
use Rattle.v2_frame.specs.Judging.{Verdict, Whole, Faulty, shifted, Behind, whole, bad_size, bad_content, HasHeading, Judged, open_line, endless_line, long_line, bad_word, bad_topic, bad_channel, good_line, IsFault, Begins}
use Rattle.v2_frame.proofs.LineLemmas.{line_unique, no_line, front_within, text_le, line_more, front_more}
use Rattle.v2_frame.proofs.HeadingLemmas.{says_unique, not_bad_topic, not_bad_channel, not_both_bad}
use Rattle.v2_frame.proofs.SizeLemmas.{size_more}
use Rattle.v2_frame.proofs.BehindLemmas.{behind_unique}

-- what is judged of a heading
data Named (limits : Limits) (line : List ℕ) (heading : Heading) (rest : List ℕ) : Verdict → Type 0 where
  topic : HasBadTopic heading → Named limits line heading rest (Faulty BadTopic 0)
  channel : HasBadChannel heading → Named limits line heading rest (Faulty BadChannel 0)
  well : {verdict shown : Verdict} → IsWellNamed heading → Behind limits heading rest verdict → shown ≡ shifted (length line + 1) verdict → Named limits line heading rest shown

-- what is judged of a whole line
data Lined (limits : Limits) (line rest : List ℕ) : Verdict → Type 0 where
  long : longest_line < length (text_of line) → Lined limits line rest (Faulty LineTooLong 0)
  nothing : length (text_of line) ≤ longest_line → SaysNothing (words_of (text_of line)) → Lined limits line rest (Faulty BadWord 0)
  says : (heading : Heading) {verdict : Verdict} → LineSays line heading → Named limits line heading rest verdict → Lined limits line rest verdict

named_unique : (limits : Limits) {line rest : List ℕ} {heading : Heading} {v w : Verdict} → Named limits line heading rest v → Named limits line heading rest w → v ≡ w
named_unique limits (topic a) (topic b) = refl
named_unique limits {heading = heading} (topic a) (channel b) = absurd (not_both_bad heading a b)
named_unique limits {heading = heading} (topic a) (well n b e) = absurd (not_bad_topic heading n a)
named_unique limits {heading = heading} (channel a) (topic b) = absurd (not_both_bad heading b a)
named_unique limits (channel a) (channel b) = refl
named_unique limits {heading = heading} (channel a) (well n b e) = absurd (not_bad_channel heading n a)
named_unique limits {heading = heading} (well n a e) (topic b) = absurd (not_bad_topic heading n b)
named_unique limits {heading = heading} (well n a e) (channel b) = absurd (not_bad_channel heading n b)
named_unique limits {line = line} (well n a e) (well m b f) = e ∙ ap (shifted (length line + 1)) (behind_unique limits a b) ∙ sym f

lined_unique : (limits : Limits) {line rest : List ℕ} {v w : Verdict} → Lined limits line rest v → Lined limits line rest w → v ≡ w
lined_unique limits (long a) (long b) = refl
lined_unique limits (long a) (nothing s b) = absurd (omega arith)
lined_unique limits (long a) (says k s b) = absurd (omega arith)
lined_unique limits (nothing s a) (long b) = absurd (omega arith)
lined_unique limits (nothing s a) (nothing r b) = refl
lined_unique limits (nothing s a) (says k r b) = absurd (a k r.says)
lined_unique limits (says h s a) (long b) = absurd (omega arith)
lined_unique limits (says h s a) (nothing r b) = absurd (b h s.says)
lined_unique limits {line = line} {rest = rest} {w = w} (says h s a) (says k r b) =
    named_unique limits a (subst (λ (x : Heading). Named limits line x rest w) (sym (says_unique (words_of (text_of line)) h k s.says r.says)) b)

moved : (limits : Limits) {a b x y : List ℕ} {v : Verdict} → (a ≡ b) × (x ≡ y) → Lined limits a x v → Lined limits b y v
moved limits {b = b} {x = x} {v = v} e d = subst (λ (r : List ℕ). Lined limits b r v) e.1 (subst (λ (l : List ℕ). Lined limits l x v) e.0 d)

-- a verdict on bytes with a whole line is one on that line
lined : (limits : Limits) {bytes line rest : List ℕ} {v : Verdict} → Judged limits bytes v → HasLine bytes line rest → Lined limits line rest v
lined limits (open_line none few) h = absurd (no_line none h)
lined limits {line = line} (endless_line f none) h = long (omega (arith, front_within f none h, text_le line))
lined limits {line = line} {rest = rest} (long_line k many) h = moved limits (line_unique k h) (long many)
lined limits (bad_word k s nothing_said) h = moved limits (line_unique k h) (nothing s nothing_said)
lined limits (bad_topic {heading = heading} k bad) h = moved limits (line_unique k.line_is h) (says heading k.says (topic bad))
lined limits (bad_channel {heading = heading} k bad) h = moved limits (line_unique k.line_is h) (says heading k.says (channel bad))
lined limits (good_line {heading = heading} k n b e) h = moved limits (line_unique k.line_is h) (says heading k.says (well n b e))

-- bytes have one verdict
pub judged_unique : (limits : Limits) {bytes : List ℕ} {v w : Verdict} → Judged limits bytes v → Judged limits bytes w → v ≡ w
judged_unique limits (open_line n few) (open_line m less) = refl
judged_unique limits (open_line n few) (endless_line {front = front} {rest = rest} f m) = absurd (omega (arith, ap length f.whole, f.long, length-append front rest))
judged_unique limits (open_line n few) (long_line k many) = absurd (no_line n k)
judged_unique limits (open_line n few) (bad_word k s t) = absurd (no_line n k)
judged_unique limits (open_line n few) (bad_topic k t) = absurd (no_line n k.line_is)
judged_unique limits (open_line n few) (bad_channel k t) = absurd (no_line n k.line_is)
judged_unique limits (open_line n few) (good_line k t b e) = absurd (no_line n k.line_is)
judged_unique limits (endless_line {front = front} {rest = rest} f m) (open_line n few) = absurd (omega (arith, ap length f.whole, f.long, length-append front rest))
judged_unique limits (endless_line f m) (endless_line g n) = refl
judged_unique limits (long_line k many) d = sym (lined_unique limits (lined limits d k) (long many))
judged_unique limits (bad_word k s t) d = sym (lined_unique limits (lined limits d k) (nothing s t))
judged_unique limits (bad_topic {heading = heading} k t) d = sym (lined_unique limits (lined limits d k.line_is) (says heading k.says (topic t)))
judged_unique limits (bad_channel {heading = heading} k t) d = sym (lined_unique limits (lined limits d k.line_is) (says heading k.says (channel t)))
judged_unique limits (good_line {heading = heading} k t b e) d = sym (lined_unique limits (lined limits d k.line_is) (says heading k.says (well t b e)))
judged_unique limits d (long_line k many) = lined_unique limits (lined limits d k) (long many)
judged_unique limits d (bad_word k s t) = lined_unique limits (lined limits d k) (nothing s t)
judged_unique limits d (bad_topic {heading = heading} k t) = lined_unique limits (lined limits d k.line_is) (says heading k.says (topic t))
judged_unique limits d (bad_channel {heading = heading} k t) = lined_unique limits (lined limits d k.line_is) (says heading k.says (channel t))
judged_unique limits d (good_line {heading = heading} k t b e) = lined_unique limits (lined limits d k.line_is) (says heading k.says (well t b e))

-- a spelling at the front is a whole command
pub begins_judged : {limits : Limits} {bytes rest : List ℕ} {c : Command} → Begins limits bytes c rest → Judged limits bytes (Whole c rest)
begins_judged {rest = rest} {c = c} b =
    let s = b.spells in
    good_line (record { line_is = record { whole = b.whole ∙ ap (λ (x : List ℕ). x ++ rest) s.whole ∙ append_assoc s.line (10 ∷ bytes_behind c) rest; first = s.first }; says = s.says })
    s.named (whole refl refl s.within) refl

-- and the other way round
pub judged_begins : {limits : Limits} {bytes rest : List ℕ} {c : Command} → Judged limits bytes (Whole c rest) → Begins limits bytes c rest
judged_begins {limits = limits} {bytes = bytes} {rest = rest} {c = c} (good_line {line = line} {rest = after} k n (whole {command = d} {rest = x} h e within) f) =
    let same : c ≡ d = cc in
    let left : rest ≡ x = cc in
    let spells : Spells limits (line ++ 10 ∷ bytes_behind d) d =
    record { line = line; whole = refl; first = k.line_is.first; says = subst (λ (x : Heading). LineSays line x) (sym h) k.says; named = subst IsWellNamed (sym h) n; within = within } in
    record {
      front = line ++ 10 ∷ bytes_behind d;
      whole = k.line_is.whole ∙ ap (λ (x : List ℕ). line ++ 10 ∷ x) e ∙ sym (append_assoc line (10 ∷ bytes_behind d) x) ∙ ap (λ (x : List ℕ). (line ++ 10 ∷ bytes_behind d) ++ x) (sym left);
      spells = subst (λ (x : Command). Spells limits (line ++ 10 ∷ bytes_behind d) x) (sym same) spells;
    }
judged_begins (good_line k n b f) = cc

-- more bytes at the end leave a fault as it is
behind_more : {limits : Limits} {heading : Heading} {bytes : List ℕ} {kind : FaultKind} {at : ℕ} (more : List ℕ) → Behind limits heading bytes (Faulty kind at) → Behind limits heading (bytes ++ more) (Faulty kind at)
behind_more more (bad_size s h bad e) = bad_size s (size_more more h) bad e
behind_more more (bad_content m h good f bad) = bad_content m (size_more more h) good (front_more more f) bad

heading_more : {bytes line rest : List ℕ} {heading : Heading} (more : List ℕ) → HasHeading bytes line heading rest → HasHeading (bytes ++ more) line heading (rest ++ more)
heading_more more h = record { line_is = line_more more h.line_is; says = h.says }

-- more bytes at the end leave a fault as it is
pub fault_more : {limits : Limits} {bytes : List ℕ} {kind : FaultKind} {at : ℕ} (more : List ℕ) → IsFault limits bytes kind at → IsFault limits (bytes ++ more) kind at
fault_more more (endless_line f n) = endless_line (front_more more f) n
fault_more more (long_line h many) = long_line (line_more more h) many
fault_more more (bad_word h s t) = bad_word (line_more more h) s t
fault_more more (bad_topic h t) = bad_topic (heading_more more h) t
fault_more more (bad_channel h t) = bad_channel (heading_more more h) t
fault_more more (good_line {verdict = Faulty kind at} h n b e) = good_line (heading_more more h) n (behind_more more b) e
fault_more more (good_line h n b e) = cc

-- and a command at the front
pub begins_more : {limits : Limits} {bytes rest : List ℕ} {c : Command} (more : List ℕ) → Begins limits bytes c rest → Begins limits (bytes ++ more) c (rest ++ more)
begins_more {rest = rest} more b = record { front = b.front; whole = ap (λ (x : List ℕ). x ++ more) b.whole ∙ append_assoc b.front rest more; spells = b.spells }

-- bytes begin with one command
pub begins_unique : (limits : Limits) {bytes x y : List ℕ} {c d : Command} → Begins limits bytes c x → Begins limits bytes d y → (c ≡ d) × (x ≡ y)
begins_unique limits {x = x} {y = y} {c = c} {d = d} b e =
    let same : Whole c x ≡ Whole d y = judged_unique limits (begins_judged b) (begins_judged e) in (cc, cc)
