-- Lemmas on where a head ends.
use Rattle.std.proofs.Common.{◌≡◌, ℕ, ◌+◌, ◌<◌, ◌≤◌, true, false, List, [], ◌∷◌, ◌++◌, length, take, get_or, refl, sym, ap, ◌∙◌, subst, arith, inl, inr, append_assoc, length-append, ⊎_elim}
use Rattle.std.specs.Prelude.{nat_eq}
use Rattle.std.specs.List.{ends_with, flat_map}
use Rattle.std.proofs.lemmas.Bool.{cases_lt}
use Rattle.std.proofs.lemmas.Bool.Decides.{Decides-eqb}
use Rattle.std.proofs.lemmas.List.{append-nil, take_at, take-take, take_all, take-append-le, length-take-le, get_or_at}
use Rattle.std.proofs.lemmas.Slice.Eq.{ends_is}
use Rattle.httparse.specs.Grammar.{AllPass, LineEnd, crlf, lf, print_end, print_blank, print_version, Field, print_field, print_section, RequestHead, print_request, ReadsRequest}
use Rattle.httparse.proofs.GrammarLemmas.{print_request-append}
use Rattle.http_wire.specs.Head.{is_line_end, EndsBlank, EndsHead, EndsAt}

-- ---- an empty line at the end

pub blank_two : (xs : List ℕ) → ends_with nat_eq xs (10 ∷ 10 ∷ []) ≡ true → EndsBlank xs
blank_two xs e = (_, inl ((ends_is Decides-eqb xs (10 ∷ 10 ∷ []) true (sym e)).0 refl))

pub blank_three : (xs : List ℕ) → ends_with nat_eq xs (10 ∷ 13 ∷ 10 ∷ []) ≡ true → EndsBlank xs
blank_three xs e = (_, inr ((ends_is Decides-eqb xs (10 ∷ 13 ∷ 10 ∷ []) true (sym e)).0 refl))

pub blank_none : (xs : List ℕ) → ends_with nat_eq xs (10 ∷ 10 ∷ []) ≡ false → ends_with nat_eq xs (10 ∷ 13 ∷ 10 ∷ []) ≡ false → ¬ (EndsBlank xs)
blank_none xs two three blank =
    elim blank.1 [
      | inl e ↦ (let yes = (ends_is Decides-eqb xs (10 ∷ 10 ∷ []) false (sym two)).1 blank.0 e in cc)
      | inr e ↦ (let yes = (ends_is Decides-eqb xs (10 ∷ 13 ∷ 10 ∷ []) false (sym three)).1 blank.0 e in cc)
    ]

-- what ends with an empty line ends with a line feed
pub blank_last : (xs : List ℕ) (n : ℕ) → length xs ≡ n + 1 → EndsBlank xs → get_or xs n 0 ≡ 10
blank_last xs n l blank =
    elim blank.1 [
      | inl e ↦ (let grouped : xs ≡ (blank.0 ++ 10 ∷ []) ++ 10 ∷ [] = e ∙ sym (append_assoc blank.0 (10 ∷ []) (10 ∷ [])) in
          ap (λ (x : List ℕ). get_or x n 0) grouped ∙ get_or_at (blank.0 ++ 10 ∷ []) 10 [] 0 n (omega (arith, ap length grouped, length-append (blank.0 ++ 10 ∷ []) (10 ∷ []))))
      | inr e ↦ (let grouped : xs ≡ (blank.0 ++ 10 ∷ 13 ∷ []) ++ 10 ∷ [] = e ∙ sym (append_assoc blank.0 (10 ∷ 13 ∷ []) (10 ∷ [])) in
          ap (λ (x : List ℕ). get_or x n 0) grouped ∙ get_or_at (blank.0 ++ 10 ∷ 13 ∷ []) 10 [] 0 n (omega (arith, ap length grouped, length-append (blank.0 ++ 10 ∷ 13 ∷ []) (10 ∷ []))))
    ]

-- ---- the first end

pub EndsAt_more : (bytes more : List ℕ) (end : ℕ) → EndsAt bytes end → EndsAt (bytes ++ more) end
EndsAt_more bytes more end e = record {
  within = omega (arith, length-append bytes more, e.within);
  ends = subst (λ (x : List ℕ). EndsHead x) (sym (take-append-le end bytes more e.within)) e.ends;
  first = λ n l h. e.first n l (subst (λ (x : List ℕ). EndsHead x) (take-append-le n bytes more (omega (arith, e.within, l))) h);
}

pub EndsAt_less : (bytes more : List ℕ) (end : ℕ) → end ≤ length bytes → EndsAt (bytes ++ more) end → EndsAt bytes end
EndsAt_less bytes more end within e = record {
  within = within;
  ends = subst (λ (x : List ℕ). EndsHead x) (take-append-le end bytes more within) e.ends;
  first = λ n l h. e.first n l (subst (λ (x : List ℕ). EndsHead x) (sym (take-append-le n bytes more (omega (arith, within, l)))) h);
}

pub EndsAt_unique : (bytes : List ℕ) (a b : ℕ) → EndsAt bytes a → EndsAt bytes b → a ≡ b
EndsAt_unique bytes a b e f =
    ⊎_elim (λ (l : a < b). absurd (f.first a l e.ends)) (λ (k : b ≤ a). ⊎_elim (λ (l : b < a). absurd (e.first b l f.ends)) (λ (m : a ≤ b). omega arith) (cases_lt b a)) (cases_lt a b)

-- a head ends where its own bytes do
pub EndsAt_take : (bytes : List ℕ) (end : ℕ) → EndsAt bytes end → EndsAt (take end bytes) (length (take end bytes))
EndsAt_take bytes end e =
    let size : length (take end bytes) ≡ end = length-take-le end bytes e.within in
    record {
      within = omega arith;
      ends = subst (λ (x : List ℕ). EndsHead x) (sym (take_all (length (take end bytes)) (take end bytes) (omega arith))) e.ends;
      first = λ n l h. e.first n (omega (arith, size, l)) (subst (λ (x : List ℕ). EndsHead x) (take-take n end bytes (omega (arith, size, l))) h);
    }

-- ---- what httparse reads ends a head

-- a byte that is no line end stands among these
pub not_only : (front : List ℕ) (byte : ℕ) (behind : List ℕ) → is_line_end byte ≡ false → ¬ (AllPass is_line_end (front ++ byte ∷ behind))
not_only front byte behind other all =
    let at : is_line_end (get_or (front ++ byte ∷ behind) (length front) 0) ≡ true = all (length front) 0 (omega (arith, length-append front (byte ∷ behind))) in
    let is : get_or (front ++ byte ∷ behind) (length front) 0 ≡ byte = get_or_at front byte behind 0 (length front) refl in
    let same : is_line_end byte ≡ true = subst (λ (x : ℕ). is_line_end x ≡ true) is at in
    cc

EndsLine : List ℕ → Type 0
EndsLine xs = (front : List ℕ) × (xs ≡ front ++ 10 ∷ [])

line_end : (front : List ℕ) (end : LineEnd) → EndsLine (front ++ print_end end)
unfolding EndsLine
line_end front crlf = (front ++ 13 ∷ [], sym (append_assoc front (13 ∷ []) (10 ∷ [])))
line_end front lf = (front, refl)

fields_end : (front : List ℕ) (fields : List Field) → EndsLine front → EndsLine (front ++ flat_map print_field fields)
unfolding EndsLine
fields_end front [] e = (e.0, append-nil front ∙ e.1)
fields_end front (f ∷ fields) e =
    let one : EndsLine (front ++ (f.name ++ 58 ∷ f.raw) ++ print_end f.end) = line_end (front ++ (f.name ++ 58 ∷ f.raw)) f.end in
    let field : front ++ print_field f ≡ front ++ (f.name ++ 58 ∷ f.raw) ++ print_end f.end = sym (append_assoc front (f.name ++ 58 ∷ f.raw) (print_end f.end)) in
    let next : EndsLine (front ++ print_field f) = (one.0, field ∙ one.1) in
    let all = fields_end (front ++ print_field f) fields next in
    (all.0, sym (append_assoc front (print_field f) (flat_map print_field fields)) ∙ all.1)

blank_end : (front : List ℕ) (last : LineEnd) → EndsLine front → EndsBlank (front ++ print_end last)
unfolding EndsLine
blank_end front crlf e = (e.0, inr (ap (λ (x : List ℕ). x ++ 13 ∷ 10 ∷ []) e.1 ∙ append_assoc e.0 (10 ∷ []) (13 ∷ 10 ∷ [])))
blank_end front lf e = (e.0, inl (ap (λ (x : List ℕ). x ++ 10 ∷ []) e.1 ∙ append_assoc e.0 (10 ∷ []) (10 ∷ [])))

section_end : (front : List ℕ) (end : LineEnd) (fields : List Field) (last : LineEnd) → EndsBlank ((front ++ print_end end) ++ print_section fields last)
section_end front end fields last =
    subst (λ (x : List ℕ). EndsBlank x) (append_assoc (front ++ print_end end) (flat_map print_field fields) (print_end last))
    (blank_end ((front ++ print_end end) ++ flat_map print_field fields) last (fields_end (front ++ print_end end) fields (line_end front end)))

request_blank : (h : RequestHead) → EndsBlank (print_request h)
unfolding print_request
request_blank h = section_end (print_blank h.blank ++ h.method ++ 32 ∷ h.target ++ 32 ∷ print_version h.minor) h.line_end h.fields h.last

request_begun : (h : RequestHead) → ¬ (AllPass is_line_end (print_request h))
request_begun h all =
    let rest = h.target ++ 32 ∷ (print_version h.minor ++ (print_end h.line_end ++ (print_section h.fields h.last ++ []))) in
    let shape : print_request h ≡ (print_blank h.blank ++ h.method) ++ 32 ∷ rest = sym (append-nil (print_request h)) ∙ print_request-append h [] ∙ sym (append_assoc (print_blank h.blank) h.method (32 ∷ rest)) in
    not_only (print_blank h.blank ++ h.method) 32 rest refl (subst (λ (x : List ℕ). AllPass is_line_end x) shape all)

pub request_ends : (h : RequestHead) → EndsHead (print_request h)
request_ends h = record { begun = request_begun h; blank = request_blank h }

-- nothing stands behind the head that is read of a whole head
pub reads_whole : (text : List ℕ) (h : RequestHead) (rest : List ℕ) → EndsAt text (length text) → ReadsRequest text h rest → ReadsRequest text h []
reads_whole text h [] e reads = reads
reads_whole text h (b ∷ rest) e reads =
    let front : take (length (print_request h)) text ≡ print_request h = ap (take (length (print_request h))) reads.1 ∙ take_at (print_request h) (b ∷ rest) (length (print_request h)) refl in
    absurd (e.first (length (print_request h)) (omega (arith, ap length reads.1, length-append (print_request h) (b ∷ rest))) (subst (λ (x : List ℕ). EndsHead x) (sym front) (request_ends h)))
