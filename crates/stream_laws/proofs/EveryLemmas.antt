-- All bytes have a verdict, and so every stream has a script.
use Rattle.std.proofs.Common.{◌≡◌, ◌≢◌, true, false, ℕ, ◌+◌, ◌-◌, ◌<◌, ◌≤◌, List, [], ◌∷◌, ◌++◌, Some, length, take, drop, get_or, refl, sym, ap, ◌∙◌, subst, arith, append_assoc, length-append, length-take, length-drop, take-append-drop, inl, inr}
use Rattle.std.specs.Prelude.{◌⊎◌, ◌==◌, zero, suc}
use Rattle.std.specs.Int.{from_be_bytes, w32}
use Rattle.std.specs.List.{AllByRecursion, flat_map}
use Rattle.std.proofs.lemmas.Bool.{cases_lt}
use Rattle.std.proofs.lemmas.Bool.Decides.{eqb_tells}
use Rattle.std.proofs.lemmas.List.{append-nil, nil_from_length}
use Rattle.std.proofs.lemmas.Nat.{be_bytes_4}
use Rattle.v2_frame.specs.declared.command.Command.{Command}
use Rattle.v2_frame.specs.declared.command.Command.TheVariants as command
use Rattle.v2_frame.specs.declared.fault.FaultKind.{FaultKind}
use Rattle.v2_frame.specs.declared.fault.FaultKind.TheVariants.{BadMagic, LineTooLong, BadWord, BadTopic, BadChannel, BadSize, BadBody}
use Rattle.v2_frame.specs.declared.fault.Limits.{Limits}
use Rattle.v2_frame.specs.declared.fault.Rest.{Rest}
use Rattle.v2_frame.specs.declared.fault.Rest.TheVariants as rest
use Rattle.v2_frame.specs.Line.{AreBytes, HasNo, HasLine, text_of, words_of}
use Rattle.v2_frame.specs.Heading.{Heading, Identify, Sub, Pub, Mpub, Dpub, Rdy, Fin, Req, Touch, Cls, Nop, Says, SaysNothing, IsWellNamed, HasBadTopic, HasBadChannel}
use Rattle.v2_frame.specs.Command.{longest_line, size4, sized, content_of, IsSize, IsBody}
use Rattle.v2_frame.specs.Command.{bytes_behind as behind_of}
use Rattle.v2_frame.specs.Judging.{Verdict, Whole, Faulty, Unfinished, shifted, HasSize, HasBodies, IsBadMessage, no_size, bad_size, cut_body, IsBadContent, no_count, count_zero, bad_message, left_over, place_behind, Sizing, sizing_of, Behind, whole, open_size, open_body, HasHeading, Judged, long_line, bad_word, bad_topic, bad_channel, good_line, IsFault, IsUnfinished, Begins}
use Rattle.v2_frame.specs.Judging.{bad_size as wrong_size}
use Rattle.v2_frame.specs.Parts.{IsWholeField}
use Rattle.v2_frame.specs.Script.{magic, Row, none, more, told_place, HasScript, open_magic, good_magic}
use Rattle.stream_laws.specs.Laws.{HasVerdict, SomeScript}
use Rattle.v2_frame.proofs.SizeLemmas.{size_long}
use Rattle.v2_frame.proofs.FieldLemmas.{text_good, text_whole, text_bad}
use Rattle.v2_frame.proofs.ReaderLemmas.{open_few, endless}
use Rattle.v2_frame.proofs.VerdictLemmas.{judged_begins}
use Rattle.v2_frame.proofs.ScriptLemmas.{no_magic}
use Rattle.stream_laws.proofs.SayingLemmas.{same, saying, naming}

-- what stands behind a front of bytes are bytes, and so is the front
bytes_behind : (front behind : List ℕ) → AreBytes (front ++ behind) → AreBytes behind
bytes_behind [] behind b = b
bytes_behind (x ∷ xs) behind b = bytes_behind xs behind b.1

bytes_before : (front behind : List ℕ) → AreBytes (front ++ behind) → AreBytes front
bytes_before [] behind b = tt
bytes_before (x ∷ xs) behind b = (b.0, bytes_before xs behind b.1)

bytes_take : (n : ℕ) (bytes : List ℕ) → AreBytes bytes → AreBytes (take n bytes)
bytes_take n bytes b = bytes_before (take n bytes) (drop n bytes) (subst AreBytes (sym (take-append-drop n bytes)) b)

bytes_drop : (n : ℕ) (bytes : List ℕ) → AreBytes bytes → AreBytes (drop n bytes)
bytes_drop n bytes b = bytes_behind (take n bytes) (drop n bytes) (subst AreBytes (sym (take-append-drop n bytes)) b)

byte_at : (bytes : List ℕ) → AreBytes bytes → (i : ℕ) → get_or bytes i 0 < 256
byte_at [] b i = omega arith
byte_at (x ∷ xs) b zero = b.0
byte_at (x ∷ xs) b (suc i) = byte_at xs b.1 i

-- four bytes are a size
size_there : (bytes : List ℕ) → AreBytes bytes → 4 ≤ length bytes → (n : ℕ) × HasSize bytes n (drop 4 bytes)
size_there [] b l = absurd (omega arith)
size_there (x ∷ []) b l = absurd (omega arith)
size_there (x ∷ y ∷ []) b l = absurd (omega arith)
size_there (x ∷ y ∷ z ∷ []) b l = absurd (omega arith)
size_there (x ∷ y ∷ z ∷ w ∷ behind) b l =
    let same : size4 (from_be_bytes w32 (x ∷ y ∷ z ∷ w ∷ [])) ≡ x ∷ y ∷ z ∷ w ∷ [] = be_bytes_4 (x ∷ y ∷ z ∷ w ∷ []) (from_be_bytes w32 (x ∷ y ∷ z ∷ w ∷ [])) refl (byte_at (x ∷ y ∷ z ∷ w ∷ []) (b.0, (b.1.0, (b.1.1.0, (b.1.1.1.0, tt))))) refl in
    (from_be_bytes w32 (x ∷ y ∷ z ∷ w ∷ []), record { whole = ap (λ (s : List ℕ). s ++ behind) (sym same); fits = omega (arith, b.0, b.1.0, b.1.1.0, b.1.1.1.0) })

-- a size and so many bytes, or what is wrong in their place
data Sized (most : ℕ) (bytes : List ℕ) : Type 0 where
  few_bytes : length bytes < 4 → Sized most bytes
  no_good : {n : ℕ} → HasSize bytes n (drop 4 bytes) → (n ≡ 0) ⊎ (most < n) → Sized most bytes
  cut_short : {n : ℕ} → HasSize bytes n (drop 4 bytes) → IsSize most n → length (drop 4 bytes) < n → Sized most bytes
  all_there : (n : ℕ) → IsWholeField most bytes n → Sized most bytes

sizing_there : (most : ℕ) (bytes : List ℕ) → AreBytes bytes → Sized most bytes
sizing_there most bytes b = by (cases_lt (length bytes) 4)
  where
    long : (n : ℕ) → HasSize bytes n (drop 4 bytes) → IsSize most n → (length (drop 4 bytes) < n) ⊎ (n ≤ length (drop 4 bytes)) → Sized most bytes
    long n h good (inl lt) = cut_short h good lt
    long n h good (inr le) = all_there n (record { size_is = h; good = good; there = omega (arith, size_long h) })

    within : (n : ℕ) → HasSize bytes n (drop 4 bytes) → 0 < n → (most < n) ⊎ (n ≤ most) → Sized most bytes
    within n h positive (inl lt) = no_good h (inr lt)
    within n h positive (inr le) = long n h (record { positive = positive; within = le; fits = h.fits }) (cases_lt (length (drop 4 bytes)) n)

    positive : (n : ℕ) → HasSize bytes n (drop 4 bytes) → (0 < n) ⊎ (n ≤ 0) → Sized most bytes
    positive n h (inl lt) = within n h lt (cases_lt most n)
    positive n h (inr le) = no_good h (inl (omega arith))

    by : (length bytes < 4) ⊎ (4 ≤ length bytes) → Sized most bytes
    by (inl lt) = few_bytes lt
    by (inr le) = let s = size_there bytes b le in positive s.0 s.1 (cases_lt 0 s.0)

-- so many good bodies at the front, or what is wrong behind some of them
record Good (most n : ℕ) (bytes : List ℕ) : Type 0 where
  bodies : List (List ℕ)
  left : List ℕ
  have : HasBodies most bytes bodies left
  all : length bodies ≡ n

record Wrong (most n : ℕ) (bytes : List ℕ) : Type 0 where
  bodies : List (List ℕ)
  left : List ℕ
  kind : FaultKind
  have : HasBodies most bytes bodies left
  less : length bodies < n
  bad : IsBadMessage most left kind

no_bodies : (most : ℕ) (bytes : List ℕ) → HasBodies most bytes [] bytes
no_bodies most bytes = record { whole = refl; each = tt }

wrong_first : (most n : ℕ) (bytes : List ℕ) {kind : FaultKind} → IsBadMessage most bytes kind → Wrong most (suc n) bytes
wrong_first most n bytes {kind = kind} bad = record { bodies = []; left = bytes; kind = kind; have = no_bodies most bytes; less = omega arith; bad = bad }

body_first : (most : ℕ) (bytes body behind : List ℕ) {bodies : List (List ℕ)} {left : List ℕ} → bytes ≡ sized body ++ behind → IsBody most body → HasBodies most behind bodies left → HasBodies most bytes (body ∷ bodies) left
body_first most bytes body behind {bodies = bodies} {left = left} e good h =
    record { whole = e ∙ ap (λ (x : List ℕ). sized body ++ x) h.whole ∙ sym (append_assoc (sized body) (flat_map sized bodies) left); each = (good, h.each) }

bodies_there : (most n : ℕ) (bytes : List ℕ) → AreBytes bytes → Good most n bytes ⊎ Wrong most n bytes
bodies_there most zero bytes b = inl (record { bodies = []; left = bytes; have = no_bodies most bytes; all = refl })
bodies_there most (suc n) bytes b = by (λ text c. bodies_there most n text c) (sizing_there most bytes b)
  where
    on : (body behind : List ℕ) → bytes ≡ sized body ++ behind → IsBody most body → Good most n behind ⊎ Wrong most n behind → Good most (suc n) bytes ⊎ Wrong most (suc n) bytes
    on body behind e good (inl g) = inl (record { bodies = body ∷ g.bodies; left = g.left; have = body_first most bytes body behind e good g.have; all = omega (arith, g.all) })
    on body behind e good (inr w) = inr (record { bodies = body ∷ w.bodies; left = w.left; kind = w.kind; have = body_first most bytes body behind e good w.have; less = omega (arith, w.less); bad = w.bad })

    by : ((text : List ℕ) → AreBytes text → Good most n text ⊎ Wrong most n text) → Sized most bytes → Good most (suc n) bytes ⊎ Wrong most (suc n) bytes
    by next (few_bytes l) = inr (wrong_first most n bytes (no_size l))
    by next (no_good h wrong) = inr (wrong_first most n bytes (bad_size h wrong))
    by next (cut_short h good l) = inr (wrong_first most n bytes (cut_body h good l))
    by next (all_there size f) =
        let text = drop 4 bytes in
        let long : length (take size text) ≡ size = simp length-take (omega (arith, f.there, length-drop 4 bytes)) in
        let e : bytes ≡ sized (take size text) ++ drop size text =
        f.size_is.whole ∙ ap (λ (x : List ℕ). size4 size ++ x) (sym (take-append-drop size text)) ∙ ap (λ (m : ℕ). size4 m ++ (take size text ++ drop size text)) (sym long) in
        on (take size text) (drop size text) e (subst (λ (m : ℕ). IsSize most m) (sym long) f.good) (next (drop size text) (bytes_drop size text (bytes_drop 4 bytes b)))

-- the content of an MPUB is good, or has a fault
record GoodContent (most : ℕ) (content : List ℕ) : Type 0 where
  bodies : List (List ℕ)
  is : content_of bodies ≡ content
  some : 0 < length bodies
  each : AllByRecursion (IsBody most) bodies

record WrongContent (most : ℕ) (content : List ℕ) : Type 0 where
  kind : FaultKind
  at : ℕ
  bad : IsBadContent most content kind at

content_there : (most : ℕ) (content : List ℕ) → AreBytes content → GoodContent most content ⊎ WrongContent most content
content_there most content b = by (cases_lt (length content) 4)
  where
    left : (n : ℕ) → HasSize content n (drop 4 content) → 0 < n → (g : Good most n (drop 4 content)) → (0 < length g.left) ⊎ (length g.left ≤ 0) → GoodContent most content ⊎ WrongContent most content
    left n h some g (inl lt) = inr (record { kind = BadBody; at = place_behind g.bodies; bad = left_over h some g.have g.all lt refl })
    left n h some g (inr le) =
        let nothing : g.left ≡ [] = nil_from_length g.left (omega arith) in
        let text : drop 4 content ≡ flat_map sized g.bodies = g.have.whole ∙ ap (λ (x : List ℕ). flat_map sized g.bodies ++ x) nothing ∙ append-nil (flat_map sized g.bodies) in
        inl (record { bodies = g.bodies; is = sym (h.whole ∙ ap (λ (x : List ℕ). size4 n ++ x) text ∙ ap (λ (m : ℕ). size4 m ++ flat_map sized g.bodies) (sym g.all)); some = omega (arith, g.all); each = g.have.each })

    read : (n : ℕ) → HasSize content n (drop 4 content) → 0 < n → Good most n (drop 4 content) ⊎ Wrong most n (drop 4 content) → GoodContent most content ⊎ WrongContent most content
    read n h some (inl g) = left n h some g (cases_lt 0 (length g.left))
    read n h some (inr w) = inr (record { kind = w.kind; at = place_behind w.bodies; bad = bad_message h w.have w.less w.bad refl })

    counted : (n : ℕ) → HasSize content n (drop 4 content) → (0 < n) ⊎ (n ≤ 0) → GoodContent most content ⊎ WrongContent most content
    counted n h (inl some) = read n h some (bodies_there most n (drop 4 content) (bytes_drop 4 content b))
    counted n h (inr le) = let zero_is : n ≡ 0 = omega arith in inr (record { kind = BadBody; at = 0; bad = count_zero (subst (λ (m : ℕ). HasSize content m (drop 4 content)) zero_is h) })

    by : (length content < 4) ⊎ (4 ≤ length content) → GoodContent most content ⊎ WrongContent most content
    by (inl lt) = inr (record { kind = BadBody; at = 0; bad = no_count lt })
    by (inr le) = let s = size_there content b le in counted s.0 s.1 (cases_lt 0 s.0)

-- what stands behind a line has a verdict
abbrev Behinds : Limits → Heading → List ℕ → Type 0
Behinds limits heading bytes = (verdict : Verdict) × Behind limits heading bytes verdict

module _ (limits : Limits) (bytes : List ℕ) (b : AreBytes bytes) where
  sized_there : (heading : Heading) (sizing : Sizing) → sizing_of limits heading ≡ Some sizing → ((size : ℕ) → IsWholeField sizing.most bytes size → Behinds limits heading bytes) → Behinds limits heading bytes
  sized_there heading sizing s on = by (sizing_there sizing.most bytes b)
    where
      by : Sized sizing.most bytes → Behinds limits heading bytes
      by (few_bytes l) = (Unfinished, open_size s l)
      by (no_good h wrong) = (Faulty sizing.wrong 0, wrong_size s h wrong refl)
      by (cut_short h good l) = (Unfinished, open_body s h good l)
      by (all_there size f) = on size f

  batch_there : (topic : List ℕ) (size : ℕ) → IsWholeField limits.body bytes size → GoodContent limits.msg (take size (drop 4 bytes)) ⊎ WrongContent limits.msg (take size (drop 4 bytes)) → Behinds limits (Mpub topic) bytes
  batch_there topic size f (inl g) = (
    Whole (command.Mpub topic g.bodies) (drop (4 + size) bytes),
    text_whole limits (Mpub topic) limits.body size bytes (content_of g.bodies) f g.is (command.Mpub topic g.bodies) refl refl
        (g.some, g.each, text_good limits (Mpub topic) limits.body size bytes (content_of g.bodies) f g.is limits.body refl),
  )
  batch_there topic size f (inr w) = (Faulty w.kind w.at, text_bad limits (Mpub topic) limits.body size bytes (take size (drop 4 bytes)) f refl topic w.kind w.at refl refl w.bad)

  behind_there : (heading : Heading) → Behinds limits heading bytes
  behind_there Identify = sized_there Identify (record { most = limits.body; wrong = BadBody }) refl (λ size f. (
    Whole (command.Identify (take size (drop 4 bytes))) (drop (4 + size) bytes),
    text_whole limits Identify limits.body size bytes (take size (drop 4 bytes)) f refl (command.Identify (take size (drop 4 bytes))) refl refl
        (text_good limits Identify limits.body size bytes (take size (drop 4 bytes)) f refl limits.body refl),
  ))
  behind_there (Pub topic) = sized_there (Pub topic) (record { most = limits.msg; wrong = BadSize }) refl (λ size f. (
    Whole (command.Pub topic (take size (drop 4 bytes))) (drop (4 + size) bytes),
    text_whole limits (Pub topic) limits.msg size bytes (take size (drop 4 bytes)) f refl (command.Pub topic (take size (drop 4 bytes))) refl refl
        (text_good limits (Pub topic) limits.msg size bytes (take size (drop 4 bytes)) f refl limits.msg refl),
  ))
  behind_there (Mpub topic) = sized_there (Mpub topic) (record { most = limits.body; wrong = BadBody }) refl (λ size f.
      batch_there topic size f (content_there limits.msg (take size (drop 4 bytes)) (bytes_take size (drop 4 bytes) (bytes_drop 4 bytes b))))
  behind_there (Dpub topic delay) = sized_there (Dpub topic delay) (record { most = limits.msg; wrong = BadSize }) refl (λ size f. (
    Whole (command.Dpub topic delay (take size (drop 4 bytes))) (drop (4 + size) bytes),
    text_whole limits (Dpub topic delay) limits.msg size bytes (take size (drop 4 bytes)) f refl (command.Dpub topic delay (take size (drop 4 bytes))) refl refl
        (text_good limits (Dpub topic delay) limits.msg size bytes (take size (drop 4 bytes)) f refl limits.msg refl),
  ))
  behind_there (Sub topic channel) = (Whole (command.Sub topic channel) bytes, whole refl refl tt)
  behind_there (Rdy count) = (Whole (command.Rdy count) bytes, whole refl refl tt)
  behind_there (Fin id) = (Whole (command.Fin id) bytes, whole refl refl tt)
  behind_there (Req id delay) = (Whole (command.Req id delay) bytes, whole refl refl tt)
  behind_there (Touch id) = (Whole (command.Touch id) bytes, whole refl refl tt)
  behind_there Cls = (Whole command.Cls bytes, whole refl refl tt)
  behind_there Nop = (Whole command.Nop bytes, whole refl refl tt)

-- the first line, where there is one
record Lined (bytes : List ℕ) : Type 0 where
  line : List ℕ
  behind : List ℕ
  is : HasLine bytes line behind

lined : (bytes : List ℕ) → HasNo 10 bytes ⊎ Lined bytes
lined [] = inl tt
lined (x ∷ xs) = by (eqb_tells x 10) (lined xs)
  where
    by : (((x == 10) ≡ true) × (x ≡ 10)) ⊎ (((x == 10) ≡ false) × (x ≢ 10)) → HasNo 10 xs ⊎ Lined xs → HasNo 10 (x ∷ xs) ⊎ Lined (x ∷ xs)
    by (inl e) _ = inr (record { line = []; behind = xs; is = record { whole = ap (λ (y : ℕ). y ∷ xs) e.1; first = tt } })
    by (inr n) (inl free) = inl (n.1, free)
    by (inr n) (inr l) = inr (record { line = x ∷ l.line; behind = l.behind; is = record { whole = ap (λ (y : List ℕ). x ∷ y) l.is.whole; first = (n.1, l.is.first) } })

-- bytes at a command's start have a verdict
module _ (limits : Limits) (bytes : List ℕ) (b : AreBytes bytes) where
  in_line : (l : Lined bytes) → HasVerdict limits bytes
  in_line l = by (cases_lt longest_line (length (text_of l.line)))
    where
      good : (heading : Heading) → HasHeading bytes l.line heading l.behind → IsWellNamed heading → HasVerdict limits bytes
      good heading h n =
          let all : AreBytes (l.line ++ 10 ∷ l.behind) = subst AreBytes l.is.whole b in
          let found = behind_there limits l.behind (bytes_behind l.line (10 ∷ l.behind) all).1 heading in
          (shifted (length l.line + 1) found.0, good_line h n found.1 refl)

      has_names : (heading : Heading) → HasHeading bytes l.line heading l.behind → IsWellNamed heading ⊎ (HasBadTopic heading ⊎ HasBadChannel heading) → HasVerdict limits bytes
      has_names heading h (inl n) = good heading h n
      has_names heading h (inr (inl t)) = (Faulty BadTopic 0, bad_topic h t)
      has_names heading h (inr (inr c)) = (Faulty BadChannel 0, bad_channel h c)

      says : length (text_of l.line) ≤ longest_line → ((heading : Heading) × Says (words_of (text_of l.line)) heading) ⊎ SaysNothing (words_of (text_of l.line)) → HasVerdict limits bytes
      says short (inl s) = has_names s.0 (record { line_is = l.is; says = record { short = short; says = s.1 } }) (naming s.0)
      says short (inr nothing) = (Faulty BadWord 0, bad_word l.is short nothing)

      by : (longest_line < length (text_of l.line)) ⊎ (length (text_of l.line) ≤ longest_line) → HasVerdict limits bytes
      by (inl many) = (Faulty LineTooLong 0, long_line l.is many)
      by (inr short) = says short (saying (words_of (text_of l.line)))

  pub verdict_there : HasVerdict limits bytes
  verdict_there = by (lined bytes)
    where
      without : HasNo 10 bytes → (length bytes < 16386) ⊎ (16386 ≤ length bytes) → HasVerdict limits bytes
      without free (inl lt) = (Unfinished, open_few limits free lt)
      without free (inr le) = (Faulty LineTooLong 0, endless limits bytes bytes refl free le)

      by : HasNo 10 bytes ⊎ Lined bytes → HasVerdict limits bytes
      by (inl free) = without free (cases_lt (length bytes) 16386)
      by (inr l) = in_line l

-- the commands in a row, and what stops it
record Stops (limits : Limits) (bytes : List ℕ) : Type 0 where
  commands : List Command
  left : List ℕ
  row : Row limits bytes commands left
  stop : IsUnfinished limits left ⊎ ((kind : FaultKind) × (at : ℕ) × IsFault limits left kind at)

row_there : (fuel : ℕ) (limits : Limits) (bytes : List ℕ) → AreBytes bytes → length bytes < fuel → Stops limits bytes
row_there zero limits bytes b l = absurd (omega arith)
row_there (suc fuel) limits bytes b l = let v = verdict_there limits bytes b in by (λ behind c less. row_there fuel limits behind c less) v.0 v.1
  where
    by : ((behind : List ℕ) → AreBytes behind → length behind < fuel → Stops limits behind) → (verdict : Verdict) → Judged limits bytes verdict → Stops limits bytes
    by on Unfinished d = record { commands = []; left = bytes; row = none; stop = inl d }
    by on (Faulty kind at) d = record { commands = []; left = bytes; row = none; stop = inr (kind, at, d) }
    by on (Whole c behind) d =
        let begins : Begins limits bytes c behind = judged_begins d in
        let line = begins.spells.line in
        let less : length behind < fuel = omega (arith, ap length begins.whole, length-append begins.front behind, ap length begins.spells.whole, length-append line (10 ∷ behind_of c)) in
        let next = on behind (bytes_behind begins.front behind (subst AreBytes begins.whole b)) less in
        record { commands = c ∷ next.commands; left = next.left; row = more begins next.row; stop = next.stop }

script_behind : (limits : Limits) (place : ℕ) (bytes : List ℕ) → Stops limits bytes → (commands : List Command) × (end : Rest) × HasScript limits place bytes commands end
script_behind limits place bytes s = by s.stop
  where
    by : IsUnfinished limits s.left ⊎ ((kind : FaultKind) × (at : ℕ) × IsFault limits s.left kind at) → (commands : List Command) × (end : Rest) × HasScript limits place bytes commands end
    by (inl d) = (s.commands, rest.Unfinished, record { left = s.left; row = s.row; ends = d })
    by (inr f) = (s.commands, rest.Faulty (record { kind = f.0; at = told_place (place + (length bytes - length s.left) + f.1) }), record { left = s.left; row = s.row; ends = (f.1, f.2, refl) })

-- a stream has a script
pub script_there : (limits : Limits) (bytes : List ℕ) → AreBytes bytes → SomeScript limits bytes
script_there limits bytes b = by (cases_lt (length bytes) 4)
  where
    opened : (take 4 bytes ≡ magic) ⊎ (take 4 bytes ≢ magic) → 4 ≤ length bytes → SomeScript limits bytes
    opened (inl e) le =
        let behind = drop 4 bytes in
        let s = script_behind limits 4 behind (row_there (suc (length behind)) limits behind (bytes_drop 4 bytes b) (omega arith)) in
        (s.0, s.1, good_magic (sym (take-append-drop 4 bytes) ∙ ap (λ (x : List ℕ). x ++ behind) e) s.2)
    opened (inr n) le = ([], rest.Faulty (record { kind = BadMagic; at = 0 }), no_magic limits bytes [] le n refl)

    by : (length bytes < 4) ⊎ (4 ≤ length bytes) → SomeScript limits bytes
    by (inl lt) = ([], rest.Unfinished, open_magic lt refl refl)
    by (inr le) = opened (same (take 4 bytes) magic) le
