-- A text is pairs in one way.
use Rattle.std.proofs.Common.{◌≡◌, ◌≢◌, ℕ, ◌+◌, ◌-◌, ◌*◌, ◌<◌, ◌≤◌, true, List, [], ◌∷◌, ◌++◌, None, Some, length, take, drop, refl, sym, ap, ap₂, subst, ◌∙◌, arith}
use Rattle.std.specs.Prelude.{slice_get}
use Rattle.std.specs.Char.{is_ascii_digit}
use Rattle.std.specs.List.{AllByRecursion}
use Rattle.std.specs.Str.Parse.{digits_value}
use Rattle.std.proofs.lemmas.Bool.{false≢true}
use Rattle.std.proofs.lemmas.List.{take-append-drop, drop_at, drop-drop, length-append, length-drop, length-take-le, take_rest, drop_all}
use Rattle.std.proofs.lemmas.List.Elements.{recursion_from_All}
use Rattle.nsqd_words.specs.Durations.{IsDuration, IsPair, Pair, spelled, total_time, unit_name, unit_time}
use Rattle.nsqd_words.specs.Numbers.{AreDigits}
use Rattle.nsqd_words.specs.Parts.{ArePairs, BeginsNoDigit, BeginsUnit, GoesOn, IsCut, IsFirst, LeadDigits}
use Rattle.nsqd_words.specs.declared.durations.Measured.{Measured}
use Rattle.nsqd_words.specs.declared.durations.TimeUnit.{TimeUnit}
use Rattle.nsqd_words.specs.declared.durations.TimeUnit.TheVariants.{Hour, Minute, Second, Millisecond}

abbrev IsDigit : ℕ → Type 0
IsDigit byte = is_ascii_digit byte ≡ true

-- digits in front of what begins with none are the same
cut_digits : (ds es r s : List ℕ) → AllByRecursion IsDigit ds → AllByRecursion IsDigit es → BeginsNoDigit r → BeginsNoDigit s → ds ++ r ≡ es ++ s → (ds ≡ es) × (r ≡ s)
cut_digits [] [] r s p q no_r no_s e = (refl, e)
cut_digits [] (y ∷ es) r s p q no_r no_s e =
    let front : BeginsNoDigit (y ∷ (es ++ s)) = subst BeginsNoDigit e no_r in absurd (false≢true (sym front ∙ q.0))
cut_digits (x ∷ ds) [] r s p q no_r no_s e =
    let front : BeginsNoDigit (x ∷ (ds ++ r)) = subst BeginsNoDigit (sym e) no_s in absurd (false≢true (sym front ∙ p.0))
cut_digits (x ∷ ds) (y ∷ es) r s p q no_r no_s e =
    let front : x ≡ y = cc in
    let rest : ds ++ r ≡ es ++ s = cc in
    let more = cut_digits ds es r s p.1 q.1 no_r no_s rest in (ap₂ (λ (byte : ℕ) (bytes : List ℕ). byte ∷ bytes) front more.0, more.1)

-- a unit's name begins with no digit
unit_no_digit : (u : TimeUnit) (r : List ℕ) → BeginsNoDigit (unit_name u ++ r)
unit_no_digit Hour r = refl
unit_no_digit Minute r = refl
unit_no_digit Second r = refl
unit_no_digit Millisecond r = refl

-- lists that are the same begin alike
heads : (a b : ℕ) (r s : List ℕ) → a ∷ r ≡ b ∷ s → a ≡ b
heads a b r s e = cc

-- a text begins with one unit, where no `s` stands behind a unit `m`
unit_one : (u v : TimeUnit) (r s : List ℕ) → unit_name u ++ r ≡ unit_name v ++ s → IsCut u r → IsCut v s → (u ≡ v) × (r ≡ s)
unit_one Hour Hour r s e p q = (refl, cc)
unit_one Minute Minute r s e p q = (refl, cc)
unit_one Second Second r s e p q = (refl, cc)
unit_one Millisecond Millisecond r s e p q = (refl, cc)
unit_one Minute Millisecond r s e p q = let rest : r ≡ 115 ∷ s = cc in absurd (p refl (ap (λ (t : List ℕ). slice_get t 0) rest))
unit_one Millisecond Minute r s e p q = let rest : s ≡ 115 ∷ r = cc in absurd (q refl (ap (λ (t : List ℕ). slice_get t 0) rest))
unit_one Hour Minute r s e p q = absurd (omega (arith, heads 104 109 _ _ e))
unit_one Hour Second r s e p q = absurd (omega (arith, heads 104 115 _ _ e))
unit_one Hour Millisecond r s e p q = absurd (omega (arith, heads 104 109 _ _ e))
unit_one Minute Hour r s e p q = absurd (omega (arith, heads 109 104 _ _ e))
unit_one Minute Second r s e p q = absurd (omega (arith, heads 109 115 _ _ e))
unit_one Second Hour r s e p q = absurd (omega (arith, heads 115 104 _ _ e))
unit_one Second Minute r s e p q = absurd (omega (arith, heads 115 109 _ _ e))
unit_one Second Millisecond r s e p q = absurd (omega (arith, heads 115 109 _ _ e))
unit_one Millisecond Hour r s e p q = absurd (omega (arith, heads 109 104 _ _ e))
unit_one Millisecond Second r s e p q = absurd (omega (arith, heads 109 115 _ _ e))

-- digits don't begin with `s`
digits_no_s : (ds rest : List ℕ) → AreDigits 12 ds → slice_get (ds ++ rest) 0 ≢ Some 115
digits_no_s [] rest d e = absurd (omega (arith, d.at_least))
digits_no_s (x ∷ xs) rest d e =
    let s : x ≡ 115 = cc in
    let digit : is_ascii_digit x ≡ true = d.all_digits 0 0 (omega arith) in
    let wrong : is_ascii_digit 115 ≡ true = rw s at digit in false≢true wrong

-- so a unit is cut where pairs follow
pub spelled_cut : (u : TimeUnit) (ps : List Pair) → AllByRecursion IsPair ps → IsCut u (spelled ps)
spelled_cut u [] h m e = absurd (cc)
spelled_cut u (p ∷ ps) h m e = digits_no_s p.digits _ h.0 e

-- the front of a text that is pairs is its first pair
first_is : (text : List ℕ) (k : ℕ) (p : Pair) (ps : List Pair) → LeadDigits text k → IsPair p → text ≡ spelled (p ∷ ps) → (take k text ≡ p.digits) × (drop k text ≡ unit_name p.unit ++ spelled ps)
first_is text k p ps lead h e =
    cut_digits (take k text) p.digits (drop k text) (unit_name p.unit ++ spelled ps) (recursion_from_All IsDigit _ lead.all_digits) (recursion_from_All IsDigit _ h.all_digits) lead.no_more (unit_no_digit p.unit (spelled ps)) (take-append-drop k text ∙ e)

-- no text of pairs has front digits that are none of a pair
no_count : (text : List ℕ) (k : ℕ) → LeadDigits text k → (AreDigits 12 (take k text) → ⊥) → (ps : List Pair) → AllByRecursion IsPair ps → text ≡ spelled ps → 0 < length text → ⊥
no_count text k lead never [] h e some = absurd (omega (arith, ap length e))
no_count text k lead never (p ∷ ps) h e some = never (subst (λ (t : List ℕ). AreDigits 12 t) (sym (first_is text k p ps lead h.0 e).0) h.0)

pub no_pairs_by_count : (text : List ℕ) (k : ℕ) → LeadDigits text k → 0 < length text → (AreDigits 12 (take k text) → ⊥) → (n : ℕ) → ArePairs text n → ⊥
no_pairs_by_count text k lead some never n a = no_count text k lead never a.pairs a.are_pairs a.text_is some

-- nor is it without a unit behind them
no_unit : (text : List ℕ) (k : ℕ) → LeadDigits text k → BeginsUnit (drop k text) None → (ps : List Pair) → AllByRecursion IsPair ps → text ≡ spelled ps → 0 < length text → ⊥
no_unit text k lead never [] h e some = absurd (omega (arith, ap length e))
no_unit text k lead never (p ∷ ps) h e some = never p.unit (spelled ps) (first_is text k p ps lead h.0 e).1

pub no_pairs_by_unit : (text : List ℕ) (k : ℕ) → LeadDigits text k → 0 < length text → BeginsUnit (drop k text) None → (n : ℕ) → ArePairs text n → ⊥
no_pairs_by_unit text k lead some never n a = no_unit text k lead never a.pairs a.are_pairs a.text_is some

-- a front of digits and a unit, and behind it the rest
pub record Begins (text : List ℕ) (k : ℕ) (u : TimeUnit) (rest : List ℕ) : Type 0 where
  pub lead : LeadDigits text k
  pub count : AreDigits 12 (take k text)
  pub behind : drop k text ≡ unit_name u ++ rest
  pub cut : IsCut u rest

-- the nanoseconds of the front
abbrev pub front_time : List ℕ → ℕ → TimeUnit → ℕ
front_time text k u = digits_value 10 (take k text) * unit_time u

only_by : (text : List ℕ) (k : ℕ) (u : TimeUnit) (rest : List ℕ) → Begins text k u rest → (ps : List Pair) → AllByRecursion IsPair ps → text ≡ spelled ps → (m : ℕ) × ArePairs rest m × (total_time ps ≡ front_time text k u + m)
only_by text k u rest b [] h e = absurd (omega (arith, ap length e, b.count.at_least, b.lead.in_range, length-take-le k text b.lead.in_range))
only_by text k u rest b (p ∷ ps) h e =
    let first = first_is text k p ps b.lead h.0 e in
    let same = unit_one p.unit u (spelled ps) rest (sym first.1 ∙ b.behind) (spelled_cut p.unit ps h.1) b.cut in
    (total_time ps, record { pairs = ps; are_pairs = h.1; text_is = sym same.1; value = refl }, ap₂ (λ (ds : List ℕ) (v : TimeUnit). digits_value 10 ds * unit_time v + total_time ps) (sym first.0) same.0)

-- a text that begins so is pairs only by what follows
pub only_pairs : (text : List ℕ) (k : ℕ) (u : TimeUnit) (rest : List ℕ) → Begins text k u rest → (n : ℕ) → ArePairs text n → (m : ℕ) × ArePairs rest m × (n ≡ front_time text k u + m)
only_pairs text k u rest b n a =
    let found = only_by text k u rest b a.pairs a.are_pairs a.text_is in (found.0, found.1, a.value ∙ found.2)

-- and it is, where that is
pub all_pairs : (text : List ℕ) (k : ℕ) (u : TimeUnit) (rest : List ℕ) → Begins text k u rest → (n : ℕ) → ArePairs rest n → ArePairs text (front_time text k u + n)
all_pairs text k u rest b n a =
    record {
      pairs = record { digits = take k text; unit = u } ∷ a.pairs;
      are_pairs = (b.count, a.are_pairs);
      text_is = sym (take-append-drop k text) ∙ ap (λ (t : List ℕ). take k text ++ t) (b.behind ∙ ap (λ (t : List ℕ). unit_name u ++ t) a.text_is);
      value = ap (λ (m : ℕ). front_time text k u + m) a.value;
    }

-- what follows stands behind the unit's name
pub rest_is : (text : List ℕ) (k : ℕ) (u : TimeUnit) (rest : List ℕ) → Begins text k u rest → drop (k + length (unit_name u)) text ≡ rest
rest_is text k u rest b = sym (drop-drop (length (unit_name u)) k text) ∙ ap (drop (length (unit_name u))) b.behind ∙ drop_at (unit_name u) rest (length (unit_name u)) refl

-- a unit has a nanosecond and more
unit_some : (u : TimeUnit) → 1 ≤ length (unit_name u)
unit_some Hour = omega arith
unit_some Minute = omega arith
unit_some Second = omega arith
unit_some Millisecond = omega arith

-- a text goes on as itself, and on and on
pub goes_nowhere : (text : List ℕ) → GoesOn text text 0
goes_nowhere text =
    record { all = λ n a. subst (λ (m : ℕ). ArePairs text m) (omega arith) a; only = λ n a. (n, a, omega arith) }

pub goes_further : (text middle rest : List ℕ) (a b : ℕ) → GoesOn text middle a → GoesOn middle rest b → GoesOn text rest (a + b)
goes_further text middle rest a b g h =
    record {
      all = λ n p. subst (λ (m : ℕ). ArePairs text m) (omega arith) (g.all (b + n) (h.all n p));
      only = λ n p. let first = g.only n p in
          let second = h.only first.0 first.1 in (second.0, second.1, omega (arith, first.2, second.2));
    }

-- nothing is no pairs, and no nanoseconds
pub nothing : ArePairs [] 0
nothing = record { pairs = []; are_pairs = tt; text_is = refl; value = refl }

-- a duration is pairs, and so are pairs that aren't none
pub pairs_of_duration : (text : List ℕ) (n : ℕ) → IsDuration text n → ArePairs text n
pairs_of_duration text n d = record { pairs = d.pairs; are_pairs = d.are_pairs; text_is = d.text_is; value = d.value }

some_pairs : (text : List ℕ) (ps : List Pair) → text ≡ spelled ps → 0 < length text → 0 < length ps
some_pairs text [] e some = absurd (omega (arith, ap length e))
some_pairs text (p ∷ ps) e some = omega arith

pub duration_of_pairs : (text : List ℕ) (n : ℕ) → 0 < length text → ArePairs text n → IsDuration text n
duration_of_pairs text n some a =
    record { pairs = a.pairs; some = some_pairs text a.pairs a.text_is some; are_pairs = a.are_pairs; text_is = a.text_is; value = a.value }

-- a text that begins with a count and a unit
abbrev pub begun : (text : List ℕ) (k : ℕ) (u : TimeUnit) → LeadDigits text k → AreDigits 12 (take k text) → BeginsUnit (take (length text - k) (drop k text)) (Some u) → (rest : List ℕ) × Begins text k u rest
begun text k u lead count b =
    (b.0, record { lead = lead; count = count; behind = sym (take_rest text k) ∙ b.1; cut = b.2 })

-- its first pair
pub first_of_begins : (text : List ℕ) (k : ℕ) (u : TimeUnit) (rest : List ℕ) → Begins text k u rest → (first : Measured) → first.nanoseconds ≡ front_time text k u → first.length ≡ k + length (unit_name u) → IsFirst text first
first_of_begins text k u rest b first time size =
    let left : length text - k ≡ length (unit_name u) + length rest = sym (length-drop k text) ∙ ap length b.behind ∙ length-append (unit_name u) rest in
    let goes : GoesOn text rest (front_time text k u) = record { all = all_pairs text k u rest b; only = only_pairs text k u rest b } in
    let behind : drop first.length text ≡ rest = ap (λ (n : ℕ). drop n text) size ∙ rest_is text k u rest b in
    record {
      at_least = omega (arith, unit_some u);
      at_most = omega (arith, unit_some u, b.lead.in_range);
      goes_on = subst (λ (r : List ℕ). GoesOn text r first.nanoseconds) (sym behind) (subst (λ (n : ℕ). GoesOn text rest n) (sym time) goes);
    }

-- where a front is too long, so is the whole
pub too_long : (text : List ℕ) (k : ℕ) (u : TimeUnit) (rest : List ℕ) → Begins text k u rest → (limit : ℕ) → limit ≤ front_time text k u → (n : ℕ) → n < limit → ArePairs text n → ⊥
too_long text k u rest b limit long n small a =
    let only = only_pairs text k u rest b n a in omega (arith, only.2)

-- where pairs go on in no way, there is no duration
pub stuck : (text rest : List ℕ) (total limit : ℕ) → GoesOn text rest total → ((n : ℕ) → n < limit → ArePairs rest n → ⊥) → (n : ℕ) → n < limit → IsDuration text n → ⊥
stuck text rest total limit g never n small d =
    let only = g.only n (pairs_of_duration text n d) in never only.0 (omega (arith, only.2)) only.1

-- where a pair more is too long, there is none below the limit
pub overflow : (text rest : List ℕ) (total limit : ℕ) (first : Measured) → GoesOn text rest total → IsFirst rest first → limit ≤ total + first.nanoseconds → (n : ℕ) → n < limit → IsDuration text n → ⊥
overflow text rest total limit first g f long n small d =
    let only = g.only n (pairs_of_duration text n d) in
    let more = f.goes_on.only only.0 only.1 in omega (arith, only.2, more.2)

-- one pair more
pub one_pair_more : (text : List ℕ) (start total sum : ℕ) (first : Measured) → GoesOn text (drop start text) total → IsFirst (drop start text) first → sum ≡ total + first.nanoseconds → GoesOn text (drop (start + first.length) text) sum
one_pair_more text start total sum first g f e =
    let further = goes_further text (drop start text) (drop first.length (drop start text)) total first.nanoseconds g f.goes_on in
    subst (λ (r : List ℕ). GoesOn text r sum) (drop-drop first.length start text) (subst (λ (n : ℕ). GoesOn text (drop first.length (drop start text)) n) (sym e) further)

-- the text's end
pub at_end : (text : List ℕ) (start total : ℕ) → 0 < length text → length text ≤ start → GoesOn text (drop start text) total → IsDuration text total
at_end text start total some end g =
    let nothing_left : ArePairs (drop start text) 0 = subst (λ (t : List ℕ). ArePairs t 0) (sym (drop_all start text end)) nothing in
    duration_of_pairs text total some (subst (λ (n : ℕ). ArePairs text n) (omega arith) (g.all 0 nothing_left))

-- no duration is the empty text
spelled_some : (p : Pair) (ps : List Pair) → 1 ≤ length (spelled (p ∷ ps))
spelled_some p ps = omega (arith, length-append p.digits (unit_name p.unit ++ spelled ps), length-append (unit_name p.unit) (spelled ps), unit_some p.unit)

no_duration_by : (text : List ℕ) (ps : List Pair) → length text ≡ 0 → 0 < length ps → text ≡ spelled ps → ⊥
no_duration_by text [] none some e = omega arith
no_duration_by text (p ∷ ps) none some e = omega (arith, ap length e, spelled_some p ps)

pub no_duration : (text : List ℕ) (n : ℕ) → length text ≡ 0 → IsDuration text n → ⊥
no_duration text n none d = no_duration_by text d.pairs none d.some d.text_is

-- pairs of one text are one
pairs_one : (ps qs : List Pair) → AllByRecursion IsPair ps → AllByRecursion IsPair qs → spelled ps ≡ spelled qs → total_time ps ≡ total_time qs
pairs_one [] [] h g e = refl
pairs_one [] (q ∷ qs) h g e = absurd (omega (arith, ap length e, spelled_some q qs))
pairs_one (p ∷ ps) [] h g e = absurd (omega (arith, ap length e, spelled_some p ps))
pairs_one (p ∷ ps) (q ∷ qs) h g e =
    let front = cut_digits p.digits q.digits (unit_name p.unit ++ spelled ps) (unit_name q.unit ++ spelled qs) (recursion_from_All IsDigit _ h.0.all_digits) (recursion_from_All IsDigit _ g.0.all_digits) (unit_no_digit p.unit (spelled ps)) (unit_no_digit q.unit (spelled qs)) e in
    let behind = unit_one p.unit q.unit (spelled ps) (spelled qs) front.1 (spelled_cut p.unit ps h.1) (spelled_cut q.unit qs g.1) in
    let rest : total_time ps ≡ total_time qs = pairs_one ps qs h.1 g.1 behind.1 in
    ap₂ (λ (ds : List ℕ) (v : TimeUnit). digits_value 10 ds * unit_time v + total_time ps) front.0 behind.0 ∙ ap (λ (n : ℕ). digits_value 10 q.digits * unit_time q.unit + n) rest

-- a text writes one duration at most
pub durations_one : (text : List ℕ) (n m : ℕ) → IsDuration text n → IsDuration text m → n ≡ m
durations_one text n m d e = d.value ∙ pairs_one d.pairs e.pairs d.are_pairs e.are_pairs (sym d.text_is ∙ e.text_is) ∙ sym e.value
