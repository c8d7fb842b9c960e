-- The canonical spelling of a command is a spelling.
use Rattle.std.proofs.Common.{◌≡◌, ◌≢◌, ℕ, ◌-◌, ◌*◌, ◌^◌, ◌<◌, ◌≤◌, Bool, true, false, cond, ℤ, pos, neg_ℤ, List, [], ◌∷◌, ◌++◌, length, take, drop, get_or, codes, refl, sym, ap, ◌∙◌, subst, arith, length-append, inr, lit≤}
use Rattle.std.specs.Prelude.{◌==◌, ◌&&◌, zero, suc, slice_index, negsuc}
use Rattle.std.specs.List.{AllPass, AllByRecursion, list_all, join_with_byte}
use Rattle.std.specs.Fmt.{decimal, signed_decimal}
use Rattle.std.specs.Int.{IsInRange}
use Rattle.std.specs.Str.Parse.{AllDigits, starts_with_minus}
use Rattle.std.proofs.lemmas.Bool.Decides.{nat_tests, Decides-eqb}
use Rattle.std.proofs.lemmas.Fmt.{decimal_is_IsNumeral, length-decimal-le}
use Rattle.std.proofs.lemmas.List.Sums.{list_all-from_AllPass}
use Rattle.std.proofs.lemmas.Str.Parse.{digit_from_value, digit_at}
use Rattle.std.proofs.lemmas.Slice.Eq.{ends_is}
use Rattle.nsq_base.specs.Decimal.{IsDecimal}
use Rattle.nsq_base.specs.Name.{IsName, stem, is_name_byte, is_ephemeral, ephemeral_suffix}
use Rattle.v2_frame.specs.declared.command.Command.{Command}
use Rattle.v2_frame.specs.declared.fault.Limits.{Limits}
use Rattle.v2_frame.specs.Line.{HasNo, text_of, words_of, IsNumber, is_id_byte, IsIdWord}
use Rattle.v2_frame.specs.Heading.{Heading, Identify, Sub, Pub, Mpub, Dpub, Rdy, Fin, Req, Touch, Cls, Nop, Says, IsWellNamed}
use Rattle.v2_frame.specs.Command.{heading_of, Spells, canonical_words, canonical_line, canonical, IsShortNumber, HasGoodWords, IsWritable}
use Rattle.v2_frame.proofs.PlaceLemmas.{HasNo_at, one_word_text, words_parted}

-- a word without a space and without a byte of a line end, of at most 64 bytes
record IsGoodWord (word : List ℕ) : Type 0 where
  clean : list_all is_id_byte word ≡ true
  short : length word ≤ 64

and_left : (a b : Bool) → (a && b) ≡ true → a ≡ true
and_left true b e = refl
and_left false b e = e

and_right : (a b : Bool) → (a && b) ≡ true → b ≡ true
and_right true b e = e
and_right false b e = cc

both : (a b : Bool) → a ≡ true → b ≡ true → (a && b) ≡ true
both true b p q = q
both false b p q = p

-- such a byte isn't in a clean word
clean_no : (byte : ℕ) → is_id_byte byte ≡ false → (word : List ℕ) → list_all is_id_byte word ≡ true → HasNo byte word
clean_no byte bad [] e = tt
clean_no byte bad (b ∷ bs) e =
    let here : is_id_byte b ≡ true = and_left (is_id_byte b) (list_all is_id_byte bs) e in
    ((λ (same : b ≡ byte). let no_way : true ≡ false = sym here ∙ ap is_id_byte same ∙ bad in cc), clean_no byte bad bs (and_right (is_id_byte b) (list_all is_id_byte bs) e))

HasNo_append : (byte : ℕ) (xs ys : List ℕ) → HasNo byte xs → HasNo byte ys → HasNo byte (xs ++ ys)
HasNo_append byte [] ys n m = m
HasNo_append byte (x ∷ xs) ys n m = (n.0, HasNo_append byte xs ys n.1 m)

-- words joined by spaces: their words, what isn't in them, and their length
join_words : (word : List ℕ) (words : List (List ℕ)) → AllByRecursion IsGoodWord (word ∷ words) → words_of (join_with_byte 32 (word ∷ words)) ≡ word ∷ words
join_words word [] good = one_word_text word (clean_no 32 refl word good.0.clean)
join_words word (next ∷ words) good =
    words_parted (join_with_byte 32 (word ∷ next ∷ words)) word (join_with_byte 32 (next ∷ words)) (clean_no 32 refl word good.0.clean) refl
    ∙ ap (λ (x : List (List ℕ)). word ∷ x) (join_words next words good.1)

join_no : (byte : ℕ) → is_id_byte byte ≡ false → 32 ≢ byte → (words : List (List ℕ)) → AllByRecursion IsGoodWord words → HasNo byte (join_with_byte 32 words)
join_no byte bad other [] good = tt
join_no byte bad other (word ∷ []) good = clean_no byte bad word good.0.clean
join_no byte bad other (word ∷ next ∷ words) good =
    HasNo_append byte word (32 ∷ join_with_byte 32 (next ∷ words)) (clean_no byte bad word good.0.clean) (other, join_no byte bad other (next ∷ words) good.1)

length-join : (words : List (List ℕ)) → AllByRecursion IsGoodWord words → length (join_with_byte 32 words) ≤ 65 * length words
length-join [] good = omega arith
length-join (word ∷ []) good = omega (arith, good.0.short)
length-join (word ∷ next ∷ words) good =
    omega (arith, good.0.short, length-join (next ∷ words) good.1, length-append word (32 ∷ join_with_byte 32 (next ∷ words)))

-- a line without a carriage return is its text
test_at : (line : List ℕ) (n : ℕ) → HasNo 13 line → (slice_index line n == 13) ≡ false
test_at [] n none = refl
test_at (b ∷ bs) zero none = HasNo_at 13 (b ∷ bs) 0 0 none (omega arith)
test_at (b ∷ bs) (suc n) none = test_at bs n none.1

text_of_none : (line : List ℕ) → HasNo 13 line → text_of line ≡ line
text_of_none line none = ap (λ (t : Bool). cond t (take (length line - 1) line) line) (test_at line (length line - 1) none)

list_all_append : (p : ℕ → Bool) (xs ys : List ℕ) → list_all p xs ≡ true → list_all p ys ≡ true → list_all p (xs ++ ys) ≡ true
list_all_append p [] ys a b = b
list_all_append p (x ∷ xs) ys a b =
    both (p x) (list_all p (xs ++ ys)) (and_left (p x) (list_all p xs) a) (list_all_append p xs ys (and_right (p x) (list_all p xs) a) b)

list_all_map : (p q : ℕ → Bool) → ((b : ℕ) → p b ≡ true → q b ≡ true) → (xs : List ℕ) → list_all p xs ≡ true → list_all q xs ≡ true
list_all_map p q f [] a = refl
list_all_map p q f (x ∷ xs) a = both (q x) (list_all q xs) (f x (and_left (p x) (list_all p xs) a)) (list_all_map p q f xs (and_right (p x) (list_all p xs) a))

-- a byte of a name is a byte of a word
name_byte : (b : ℕ) → is_name_byte b ≡ true → is_id_byte b ≡ true
name_byte b h =
    let space : b ≢ 32 = λ e. let no_way : true ≡ false = sym h ∙ ap is_name_byte e in cc in
    let feed : b ≢ 10 = λ e. let no_way : true ≡ false = sym h ∙ ap is_name_byte e in cc in
    let carriage : b ≢ 13 = λ e. let no_way : true ≡ false = sym h ∙ ap is_name_byte e in cc in
    grind (arith, nat_tests)

-- a name is a good word, and not empty
name_clean : (name : List ℕ) (b : Bool) → is_ephemeral name ≡ b → AllPass is_name_byte (cond b (take (length name - length ephemeral_suffix) name) name) → list_all is_id_byte name ≡ true
name_clean name false e all = list_all_map is_name_byte is_id_byte name_byte name (list_all-from_AllPass is_name_byte name all)
name_clean name true e all =
    let cut = length name - length ephemeral_suffix in
    let whole : name ≡ take cut name ++ ephemeral_suffix = (ends_is Decides-eqb name ephemeral_suffix true (sym e)).0 refl in
    ap (list_all is_id_byte) whole
    ∙ list_all_append is_id_byte (take cut name) ephemeral_suffix (list_all_map is_name_byte is_id_byte name_byte (take cut name) (list_all-from_AllPass is_name_byte (take cut name) all)) refl

name_good : (name : List ℕ) → IsName name → IsGoodWord name
name_good name h = record { clean = name_clean name (is_ephemeral name) refl h.allowed; short = h.short }

name_some : (name : List ℕ) → IsName name → name ≢ []
name_some name h e = let none : 0 < length (stem []) = subst (λ (x : List ℕ). 0 < length (stem x)) e h.not_empty in omega arith

id_good : (id : List ℕ) → IsIdWord id → IsGoodWord id
id_good id h = record { clean = list_all-from_AllPass is_id_byte id h.allowed; short = omega (arith, h.long) }

-- decimal digits are clean
digit_byte : (b : ℕ) → IsInRange 48 57 b → is_id_byte b ≡ true
digit_byte b h = grind (arith, nat_tests)

digits_clean : (digits : List ℕ) → AllDigits 10 digits → list_all is_id_byte digits ≡ true
digits_clean [] all = refl
digits_clean (d ∷ digits) all = both (is_id_byte d) (list_all is_id_byte digits) (digit_byte d (digit_from_value d all.0)) (digits_clean digits all.1)

-- a number of at most 18 digits is written as a good word that is that number
record IsWritten (number : ℤ) : Type 0 where
  word : IsGoodWord (signed_decimal number)
  is : IsNumber (signed_decimal number) number

minus_none : (digits : List ℕ) → AllDigits 10 digits → 0 < length digits → starts_with_minus digits ≡ false
minus_none digits all some = let range : IsInRange 48 57 (get_or digits 0 0) = digit_at digits 0 all some in grind (arith, nat_tests)

decimal_short : (n : ℕ) → n < 10 ^ 18 → IsDecimal 18 (decimal n) n
decimal_short n small =
    let found = decimal_is_IsNumeral n (omega arith) in
    record { numeral = found.0; bound = length-decimal-le 18 n (omega arith) small (omega arith); value = sym found.1 }

number_written : (number : ℤ) → IsShortNumber number → IsWritten number
number_written (pos n) small =
    let d = decimal_short n small in
    let plain = minus_none (decimal n) d.numeral.1 d.numeral.0 in
    record {
      word = record { clean = digits_clean (decimal n) d.numeral.1; short = omega (arith, d.bound) };
      is = record {
        size = n;
        digits = subst (λ (b : Bool). IsDecimal 18 (cond b (drop 1 (decimal n)) (decimal n)) n) (sym plain) d;
        value = ap (λ (b : Bool). cond b (neg_ℤ (pos n)) (pos n)) (sym plain);
      };
    }
number_written (negsuc n) small =
    let d = decimal_short (suc n) small in
    record {
      word = record { clean = digits_clean (decimal (suc n)) d.numeral.1; short = omega (arith, d.bound) };
      is = record { size = suc n; digits = d; value = refl };
    }

verb_good : (verb : List ℕ) → list_all is_id_byte verb ≡ true → length verb ≤ 64 → IsGoodWord verb
verb_good verb clean short = record { clean = clean; short = short }

-- the canonical words are good words, at most three, and say the heading
record AreCanonical (heading : Heading) : Type 0 where
  good : AllByRecursion IsGoodWord (canonical_words heading)
  few : length (canonical_words heading) ≤ 3
  says : Says (canonical_words heading) heading

canonical_are : (heading : Heading) → IsWellNamed heading → HasGoodWords heading → AreCanonical heading
canonical_are Identify named words = record { good = (verb_good (codes "IDENTIFY") refl (lit≤ tt), tt); few = omega arith; says = refl }
canonical_are (Sub topic channel) named words = record { good = (verb_good (codes "SUB") refl (lit≤ tt), (name_good topic named.0, (name_good channel named.1, tt))); few = omega arith; says = (refl, name_some topic named.0, name_some channel named.1) }
canonical_are (Pub topic) named words = record { good = (verb_good (codes "PUB") refl (lit≤ tt), (name_good topic named, tt)); few = omega arith; says = (refl, name_some topic named) }
canonical_are (Mpub topic) named words = record { good = (verb_good (codes "MPUB") refl (lit≤ tt), (name_good topic named, tt)); few = omega arith; says = (refl, name_some topic named) }
canonical_are (Dpub topic delay) named words = record { good = (verb_good (codes "DPUB") refl (lit≤ tt), (name_good topic named, ((number_written delay words).word, tt))); few = omega arith; says = (signed_decimal delay, refl, name_some topic named, (number_written delay words).is) }
canonical_are (Rdy count) named words = record { good = (verb_good (codes "RDY") refl (lit≤ tt), ((number_written count words).word, tt)); few = omega arith; says = inr (signed_decimal count, refl, (number_written count words).is) }
canonical_are (Fin id) named words = record { good = (verb_good (codes "FIN") refl (lit≤ tt), (id_good id words, tt)); few = omega arith; says = (refl, words) }
canonical_are (Req id delay) named words = record { good = (verb_good (codes "REQ") refl (lit≤ tt), (id_good id words.0, ((number_written delay words.1).word, tt))); few = omega arith; says = (signed_decimal delay, refl, words.0, (number_written delay words.1).is) }
canonical_are (Touch id) named words = record { good = (verb_good (codes "TOUCH") refl (lit≤ tt), (id_good id words, tt)); few = omega arith; says = (refl, words) }
canonical_are Cls named words = record { good = (verb_good (codes "CLS") refl (lit≤ tt), tt); few = omega arith; says = refl }
canonical_are Nop named words = record { good = (verb_good (codes "NOP") refl (lit≤ tt), tt); few = omega arith; says = refl }

-- canonical words are words
canonical_words_are : (heading : Heading) → AreCanonical heading → words_of (canonical_line heading) ≡ canonical_words heading
canonical_words_are Identify a = join_words _ _ a.good
canonical_words_are (Sub topic channel) a = join_words _ _ a.good
canonical_words_are (Pub topic) a = join_words _ _ a.good
canonical_words_are (Mpub topic) a = join_words _ _ a.good
canonical_words_are (Dpub topic delay) a = join_words _ _ a.good
canonical_words_are (Rdy count) a = join_words _ _ a.good
canonical_words_are (Fin id) a = join_words _ _ a.good
canonical_words_are (Req id delay) a = join_words _ _ a.good
canonical_words_are (Touch id) a = join_words _ _ a.good
canonical_words_are Cls a = join_words _ _ a.good
canonical_words_are Nop a = join_words _ _ a.good

-- the canonical spelling is a spelling
pub canonical_spells : (limits : Limits) (c : Command) → IsWritable limits c → Spells limits (canonical c) c
canonical_spells limits c w =
    let heading = heading_of c in
    let a = canonical_are heading w.named w.words in
    let line = canonical_line heading in
    let none : HasNo 13 line = join_no 13 refl (omega arith) (canonical_words heading) a.good in
    let text : text_of line ≡ line = text_of_none line none in
    record {
      line = line;
      whole = refl;
      first = join_no 10 refl (omega arith) (canonical_words heading) a.good;
      says = record {
        short = omega (arith, ap length text, length-join (canonical_words heading) a.good, a.few);
        says = subst (λ (x : List (List ℕ)). Says x heading) (sym (ap words_of text ∙ canonical_words_are heading a)) a.says;
      };
      named = w.named;
      within = w.within;
    }
