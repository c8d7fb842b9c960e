-- Lemmas on lines and their words.
use Rattle.std.proofs.Common.{◌≡◌, ℕ, ◌+◌, ◌-◌, ◌≤◌, Bool, true, false, cond, List, [], ◌∷◌, ◌++◌, length, take, refl, sym, ap, ◌∙◌, subst, arith, append_assoc, length-take}
use Rattle.std.specs.Prelude.{slice_index, ◌==◌}
use Rattle.v2_frame.specs.Line.{HasNo, HasLine, text_of}
use Rattle.v2_frame.specs.Judging.{HasFront}

-- two lists of one length at the front of one list are one
pub append_split : (a b x y : List ℕ) → length a ≡ length b → a ++ x ≡ b ++ y → (a ≡ b) × (x ≡ y)
append_split [] [] x y l e = (refl, e)
append_split [] (b ∷ bs) x y l e = absurd (omega arith)
append_split (a ∷ cs) [] x y l e = absurd (omega arith)
append_split (a ∷ cs) (b ∷ bs) x y l e =
    let head : a ≡ b = cc in
    let tail : cs ++ x ≡ bs ++ y = cc in
    let parts : (cs ≡ bs) × (x ≡ y) = append_split cs bs x y (omega arith) tail in
    (cc, parts.1)

-- the first line of a list is the only one
pub line_split : (a b x y : List ℕ) → HasNo 10 a → HasNo 10 b → a ++ 10 ∷ x ≡ b ++ 10 ∷ y → (a ≡ b) × (x ≡ y)
line_split [] [] x y na nb e = (refl, cc)
line_split [] (b ∷ bs) x y na nb e = let h : b ≡ 10 = cc in absurd (nb.0 h)
line_split (a ∷ cs) [] x y na nb e = let h : a ≡ 10 = cc in absurd (na.0 h)
line_split (a ∷ cs) (b ∷ bs) x y na nb e =
    let head : a ≡ b = cc in
    let tail : cs ++ 10 ∷ x ≡ bs ++ 10 ∷ y = cc in
    let parts : (cs ≡ bs) × (x ≡ y) = line_split cs bs x y na.1 nb.1 tail in
    (cc, parts.1)

pub line_unique : {bytes a b x y : List ℕ} → HasLine bytes a x → HasLine bytes b y → (a ≡ b) × (x ≡ y)
line_unique {a = a} {b = b} {x = x} {y = y} h k = line_split a b x y h.first k.first (sym h.whole ∙ k.whole)

-- where a line is whole there is a line feed
pub has_end : (line rest : List ℕ) → HasNo 10 (line ++ 10 ∷ rest) → ⊥
has_end [] rest n = n.0 refl
has_end (b ∷ bs) rest n = has_end bs rest n.1

pub no_line : {bytes line rest : List ℕ} → HasNo 10 bytes → HasLine bytes line rest → ⊥
no_line {line = line} {rest = rest} n h = has_end line rest (subst (λ (x : List ℕ). HasNo 10 x) h.whole n)

-- a front without a line feed lies within the first line
pub front_le : (front line x y : List ℕ) → HasNo 10 front → front ++ x ≡ line ++ 10 ∷ y → length front ≤ length line
front_le [] line x y n e = omega arith
front_le (f ∷ fs) [] x y n e = let h : f ≡ 10 = cc in absurd (n.0 h)
front_le (f ∷ fs) (l ∷ ls) x y n e =
    let tail : fs ++ x ≡ ls ++ 10 ∷ y = cc in
    let le : length fs ≤ length ls = front_le fs ls x y n.1 tail in omega arith

pub front_within : {bytes front x line y : List ℕ} {n : ℕ} → HasFront bytes n front x → HasNo 10 front → HasLine bytes line y → n ≤ length line
front_within {front = front} {x = x} {line = line} {y = y} h n k =
    let le : length front ≤ length line = front_le front line x y n (sym h.whole ∙ k.whole) in omega (arith, h.long)

-- a line is at most one longer than its text
cond_le : (b : Bool) (line : List ℕ) → length line ≤ length (cond b (take (length line - 1) line) line) + 1
cond_le true line = simp length-take (omega arith)
cond_le false line = omega arith

pub text_le : (line : List ℕ) → length line ≤ length (text_of line) + 1
text_le line = cond_le (slice_index line (length line - 1) == 13) line

-- more bytes at the end leave the first line and the front as they are
pub line_more : {bytes line rest : List ℕ} (more : List ℕ) → HasLine bytes line rest → HasLine (bytes ++ more) line (rest ++ more)
line_more {line = line} {rest = rest} more h = record { whole = ap (λ x. x ++ more) h.whole ∙ append_assoc line (10 ∷ rest) more; first = h.first }

pub front_more : {bytes front rest : List ℕ} {n : ℕ} (more : List ℕ) → HasFront bytes n front rest → HasFront (bytes ++ more) n front (rest ++ more)
front_more {front = front} {rest = rest} more h = record { whole = ap (λ x. x ++ more) h.whole ∙ append_assoc front rest more; long = h.long }

pub front_unique : {bytes a b x y : List ℕ} {n : ℕ} → HasFront bytes n a x → HasFront bytes n b y → (a ≡ b) × (x ≡ y)
front_unique {a = a} {b = b} {x = x} {y = y} h k = append_split a b x y (h.long ∙ sym k.long) (sym h.whole ∙ k.whole)
