-- Lemmas on the search for the end of a head.
use Rattle.std.proofs.Common.{◌≡◌, ℕ, ◌+◌, ◌-◌, ◌<◌, ◌≤◌, true, false, List, length, take, drop, get_or, refl, sym, ap, ◌∙◌, subst, arith, length-drop, take-append-drop, ⊎_elim, add-one}
use Rattle.std.specs.Prelude.{◌==◌, max, suc, zero}
use Rattle.std.proofs.lemmas.Bool.{cases_lt, eqb-true}
use Rattle.std.proofs.lemmas.Bool.Decides.{nat_tests}
use Rattle.std.proofs.lemmas.List.{take-take, length-take-le, get_or-take, get_or-drop}
use Rattle.std.proofs.lemmas.List.Elements.{All-take}
use Rattle.memchr.specs.Find.{Nowhere, NoneBefore, Passes, is_byte}
use Rattle.httparse.specs.Grammar.{AllPass}
use Rattle.http_wire.specs.Head.{is_line_end, EndsBlank, EndsHead, EndsAt}
use Rattle.http_wire.specs.Searching.{HasNoEnd, IsBegun}
use Rattle.http_wire.proofs.HeadLemmas.{blank_last, EndsAt_more}

-- bytes that don't end with a line feed end no head
no_end_at : (bytes : List ℕ) (n : ℕ) → n + 1 ≤ length bytes → (get_or bytes n 0 == 10) ≡ false → ¬ (EndsHead (take (n + 1) bytes))
no_end_at bytes n within other e =
    let last : get_or (take (n + 1) bytes) n 0 ≡ 10 = blank_last (take (n + 1) bytes) n (length-take-le (n + 1) bytes within) e.blank in
    let same : get_or bytes n 0 ≡ 10 = sym (get_or-take (n + 1) bytes n 0 (omega arith)) ∙ last in
    grind (arith, nat_tests)

-- where no byte from a place up to another is a line feed, no head ends between them
pub HasNoEnd_between : (bytes : List ℕ) (done upto : ℕ) → upto ≤ length bytes → HasNoEnd bytes done → ((k : ℕ) → done ≤ k → k < upto → (get_or bytes k 0 == 10) ≡ false) → HasNoEnd bytes upto
HasNoEnd_between bytes done upto within none other zero l e = none zero (omega arith) e
HasNoEnd_between bytes done upto within none other (suc n) l e =
    ⊎_elim (λ (small : n < done). none (suc n) (omega arith) e) (λ (big : done ≤ n). no_end_at bytes n (omega arith) (other n big (omega arith)) (subst (λ (x : ℕ). EndsHead (take x bytes)) (sym (add-one n)) e)) (cases_lt n done)

-- one more byte, with which no head ends
pub HasNoEnd_one : (bytes : List ℕ) (done : ℕ) → HasNoEnd bytes done → ¬ (EndsBlank (take (done + 1) bytes)) → HasNoEnd bytes (done + 1)
HasNoEnd_one bytes done none other n l e =
    ⊎_elim (λ (small : n < done + 1). none n (omega arith) e) (λ (big : done + 1 ≤ n). let is : n ≡ done + 1 = omega arith in other (subst (λ (x : ℕ). EndsBlank (take x bytes)) is e.blank)) (cases_lt n (done + 1))

-- no byte of what stands behind a place is a line feed, as the search behind it tells
pub none_before : (bytes slice : List ℕ) (done place : ℕ) → slice ≡ drop done bytes → NoneBefore (Passes (is_byte 10) slice) 0 (length slice) place → (k : ℕ) → done ≤ k → k < done + place → (get_or bytes k 0 == 10) ≡ false
none_before bytes slice done place e before k low high =
    let no : ¬ (Passes (is_byte 10) slice (k - done)) = before.before (k - done) (omega arith) (omega arith) in
    let there : get_or slice (k - done) 0 ≡ get_or bytes k 0 = ap (λ (x : List ℕ). get_or x (k - done) 0) e ∙ get_or-drop done bytes (k - done) 0 ∙ ap (λ (x : ℕ). get_or bytes x 0) (omega arith) in
    not_test (get_or bytes k 0) (λ t. no (subst (λ (x : ℕ). (x == 10) ≡ true) (sym there) t))
  where
    not_test : (x : ℕ) → ¬ ((x == 10) ≡ true) → (x == 10) ≡ false
    not_test x wrong = grind (arith, nat_tests)

pub none_at_all : (bytes slice : List ℕ) (done : ℕ) → slice ≡ drop done bytes → Nowhere (Passes (is_byte 10) slice) 0 (length slice) → (k : ℕ) → done ≤ k → k < length bytes → (get_or bytes k 0 == 10) ≡ false
none_at_all bytes slice done e nowhere k low high =
    let size : length slice ≡ length bytes - done = ap length e ∙ length-drop done bytes in
    let no : ¬ (Passes (is_byte 10) slice (k - done)) = nowhere (k - done) (omega arith) (omega arith) in
    let there : get_or slice (k - done) 0 ≡ get_or bytes k 0 = ap (λ (x : List ℕ). get_or x (k - done) 0) e ∙ get_or-drop done bytes (k - done) 0 ∙ ap (λ (x : ℕ). get_or bytes x 0) (omega arith) in
    not_test (get_or bytes k 0) (λ t. no (subst (λ (x : ℕ). (x == 10) ≡ true) (sym there) t))
  where
    not_test : (x : ℕ) → ¬ ((x == 10) ≡ true) → (x == 10) ≡ false
    not_test x wrong = grind (arith, nat_tests)

-- a head ends where the first empty line behind its first byte does
pub first_found : (bytes : List ℕ) (begin end : ℕ) → IsBegun bytes begin → begin < end → end + 1 ≤ length bytes → HasNoEnd bytes end → EndsBlank (take (end + 1) bytes) → EndsAt bytes (end + 1)
first_found bytes begin end begun order within none blank = record {
  within = within;
  ends = record {
    begun = λ all.
        (let at : is_line_end (get_or (take (end + 1) bytes) begin 0) ≡ true = all begin 0 (omega (arith, length-take-le (end + 1) bytes within)) in
        let same : get_or (take (end + 1) bytes) begin 0 ≡ get_or bytes begin 0 = get_or-take (end + 1) bytes begin 0 (omega arith) in
        let yes : is_line_end (get_or bytes begin 0) ≡ true = subst (λ (x : ℕ). is_line_end x ≡ true) same at in
        let no : is_line_end (get_or bytes begin 0) ≡ false = begun.head (omega arith) in
        cc);
    blank = blank;
  };
  first = λ n l. none n (omega arith);
}

-- what was searched, among the bytes at the front
pub HasNoEnd_front : (bytes : List ℕ) (m done begin : ℕ) → done ≤ m → AllPass is_line_end (take begin (take m bytes)) → HasNoEnd bytes done → HasNoEnd (take m bytes) (max done begin)
HasNoEnd_front bytes m done begin within ends none n l e =
    ⊎_elim (λ (big : done < n).
    (let part : take n (take begin (take m bytes)) ≡ take n (take m bytes) = take-take n begin (take m bytes) (omega arith) in
    e.begun (subst (λ (x : List ℕ). AllPass is_line_end x) part (All-take (λ b. is_line_end b ≡ true) n (take begin (take m bytes)) ends))))
    (λ (small : n ≤ done). none n small (subst (λ (x : List ℕ). EndsHead x) (take-take n m bytes (omega arith)) e)) (cases_lt done n)

pub HasNoEnd_back : (bytes : List ℕ) (m n : ℕ) → n ≤ m → HasNoEnd (take m bytes) n → HasNoEnd bytes n
HasNoEnd_back bytes m n within none k l e = none k l (subst (λ (x : List ℕ). EndsHead x) (sym (take-take k m bytes (omega arith))) e)

pub EndsAt_back : (bytes : List ℕ) (m end : ℕ) → EndsAt (take m bytes) end → EndsAt bytes end
EndsAt_back bytes m end e = subst (λ (x : List ℕ). EndsAt x end) (take-append-drop m bytes) (EndsAt_more (take m bytes) (drop m bytes) end e)

-- the line ends at the front of some of the bytes
pub front_ends : (bytes : List ℕ) (m begin : ℕ) → begin ≤ m → AllPass is_line_end (take begin bytes) → AllPass is_line_end (take begin (take m bytes))
front_ends bytes m begin within ends = subst (λ (x : List ℕ). AllPass is_line_end x) (sym (take-take begin m bytes within)) ends

pub back_ends : (bytes : List ℕ) (m begin : ℕ) → begin ≤ m → AllPass is_line_end (take begin (take m bytes)) → AllPass is_line_end (take begin bytes)
back_ends bytes m begin within ends = subst (λ (x : List ℕ). AllPass is_line_end x) (take-take begin m bytes within) ends

-- the byte that is found is a line feed
pub found_at : (bytes slice : List ℕ) (done place : ℕ) → slice ≡ drop done bytes → Passes (is_byte 10) slice place → (get_or bytes (done + place) 0 == 10) ≡ true
found_at bytes slice done place e there = subst (λ (x : ℕ). (x == 10) ≡ true) (ap (λ (x : List ℕ). get_or x place 0) e ∙ get_or-drop done bytes place 0) there

-- the head begins before a line feed that stands no earlier
pub begins_before : (bytes : List ℕ) (begin end : ℕ) → IsBegun bytes begin → begin ≤ end → end < length bytes → (get_or bytes end 0 == 10) ≡ true → begin < end
begins_before bytes begin end begun order within feed =
    ⊎_elim (λ (before : begin < end). before) (λ (behind : end ≤ begin).
    (let same : begin ≡ end = omega arith in
    let other : is_line_end (get_or bytes end 0) ≡ false = subst (λ (x : ℕ). is_line_end (get_or bytes x 0) ≡ false) same (begun.head (omega arith)) in
    let ends : is_line_end (get_or bytes end 0) ≡ true = feed_ends (get_or bytes end 0) feed in
    absurd (cc))) (cases_lt begin end)
  where
    feed_ends : (x : ℕ) → (x == 10) ≡ true → is_line_end x ≡ true
    feed_ends x e = subst (λ (y : ℕ). is_line_end y ≡ true) (sym (eqb-true x 10 e)) refl
