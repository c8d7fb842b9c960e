-- Lemmas on what the writers append.
use Rattle.std.proofs.Common.{◌≡◌, ℕ, ◌+◌, ◌-◌, ◌^◌, ◌<◌, ◌≤◌, true, false, List, [], ◌∷◌, ◌++◌, length, take, drop, get_or, slice_get, Some, Result, Ok, Err, OnOk, OnErr, codes, sym, ap, subst, ◌∙◌, arith, append_assoc, length-append, take-append-drop, flat_map}
use Rattle.std.specs.Result.{is_err}
use Rattle.std.specs.List.{AllByRecursion}
use Rattle.std.proofs.lemmas.List.{append-nil, take_at, take_more}
use Rattle.std.proofs.lemmas.List.Concat.{flat_map-append}
use Rattle.std.proofs.lemmas.Option.{get_or_from_slice_get, slice_get_within}
use Rattle.v2_frame.specs.declared.command.Command.{Command}
use Rattle.v2_frame.specs.declared.command.Command.TheVariants as command
use Rattle.v2_frame.specs.Heading.{Heading, Fin, Req, Touch, IsWellNamed}
use Rattle.v2_frame.specs.Command.{size4, sized, content_of, heading_of, canonical, IsBody, IsWithin, IsWritable}
use Rattle.v2_frame.proofs.SizeLemmas.{length-size4, count_le}
use Rattle.v2_frame.proofs.CanonicalLemmas.{canonical_spells}
use Rattle.v2_client.specs.Writing.{any_size, IsSpelled, CanWriteText, CanWriteBatch, CanWrite, batch_bytes}

-- one more part of a row
pub flat_map_next : {X : Type 0} (f : X → List ℕ) (xs : List X) (i : ℕ) (d : X) → i < length xs → flat_map f (take (i + 1) xs) ≡ flat_map f (take i xs) ++ f (get_or xs i d)
flat_map_next f xs i d l =
    ap (flat_map f) (take_more xs i d l) ∙ flat_map-append f (take i xs) (get_or xs i d ∷ []) ∙ ap (λ (y : List ℕ). flat_map f (take i xs) ++ y) (append-nil (f (get_or xs i d)))

-- the front of a row is no longer than the row
pub flat_map_front : {X : Type 0} (f : X → List ℕ) (xs : List X) (i : ℕ) → length (flat_map f (take i xs)) ≤ length (flat_map f xs)
flat_map_front f xs i =
    let whole : flat_map f xs ≡ flat_map f (take i xs) ++ flat_map f (drop i xs) = ap (flat_map f) (sym (take-append-drop i xs)) ∙ flat_map-append f (take i xs) (drop i xs) in
    omega (arith, ap length whole, length-append (flat_map f (take i xs)) (flat_map f (drop i xs)))

-- one more body of a batch
pub batch_next : (bodies : List (List ℕ)) (i : ℕ) (body : List ℕ) → slice_get bodies i ≡ Some body → flat_map sized (take (i + 1) bodies) ≡ flat_map sized (take i bodies) ++ sized body
batch_next bodies i body e =
    flat_map_next sized bodies i [] (slice_get_within bodies i body e) ∙ ap (λ (x : List ℕ). flat_map sized (take i bodies) ++ sized x) (get_or_from_slice_get bodies i body [] e)

-- the sizes of the bodies so far and of one more
pub batch_size : (bodies : List (List ℕ)) (i : ℕ) (body : List ℕ) → slice_get bodies i ≡ Some body
    → length (flat_map sized (take (i + 1) bodies)) ≡ length (flat_map sized (take i bodies)) + (4 + length body)
batch_size bodies i body e =
    omega (arith, ap length (batch_next bodies i body e), length-append (flat_map sized (take i bodies)) (sized body), length-append (size4 (length body)) body, length-size4 (length body))

-- the content's size
pub content_long : (bodies : List (List ℕ)) → length (content_of bodies) ≡ 4 + length (flat_map sized bodies)
content_long bodies = length-append (size4 (length bodies)) (flat_map sized bodies)

-- they fit the content
pub batch_fits : (bodies : List (List ℕ)) (i : ℕ) (body : List ℕ) → slice_get bodies i ≡ Some body
    → 4 + length (flat_map sized (take i bodies)) + (4 + length body) ≤ length (content_of bodies)
batch_fits bodies i body e = omega (arith, batch_size bodies i body e, flat_map_front sized bodies (i + 1), content_long bodies)

pub batch_count : (bodies : List (List ℕ)) → length bodies ≤ length (content_of bodies)
batch_count bodies = omega (arith, count_le bodies, content_long bodies)

-- each id of the heading has 16 bytes
abbrev pub HasWholeIds : Heading → Type 0
HasWholeIds (Fin id) = length id ≡ 16
HasWholeIds (Req id delay) = length id ≡ 16
HasWholeIds (Touch id) = length id ≡ 16
HasWholeIds _ = Unit {0}

text_within : (text : List ℕ) → CanWriteText text → IsBody (2 ^ 32 - 1) text
text_within text w = record { positive = w.some; within = omega (arith, w.fits); fits = omega (arith, w.fits) }

bodies_within : (bodies : List (List ℕ)) → length (flat_map sized bodies) < 2 ^ 31 → AllByRecursion (λ body. 0 < length body) bodies → AllByRecursion (IsBody (2 ^ 32 - 1)) bodies
bodies_within [] fits each = tt
bodies_within (body ∷ bodies) fits each =
    let parts = length-append (sized body) (flat_map sized bodies) in
    let one = length-append (size4 (length body)) body in
    (record { positive = each.0; within = omega (arith, parts, one); fits = omega (arith, parts, one) }, bodies_within bodies (omega (arith, parts)) each.1)

batch_within : (topic : List ℕ) (bodies : List (List ℕ)) → CanWriteBatch bodies → IsWithin any_size (command.Mpub topic bodies)
batch_within topic bodies w = (
  w.some,
  bodies_within bodies (omega (arith, w.fits, content_long bodies)) w.each,
  record { positive = omega (arith, content_long bodies); within = omega (arith, w.fits); fits = omega (arith, w.fits) },
)

-- a command that a writer takes is writable without a greatest size
writable : (c : Command) → IsWellNamed (heading_of c) → HasWholeIds (heading_of c) → CanWrite c → IsWritable any_size c
writable (command.Identify body) named ids w = record { named = named; words = tt; within = text_within body w.behind }
writable (command.Sub topic channel) named ids w = record { named = named; words = tt; within = tt }
writable (command.Pub topic body) named ids w = record { named = named; words = tt; within = text_within body w.behind }
writable (command.Mpub topic bodies) named ids w = record { named = named; words = tt; within = batch_within topic bodies w.behind }
writable (command.Dpub topic delay body) named ids w = record { named = named; words = w.words; within = text_within body w.behind }
writable (command.Rdy count) named ids w = record { named = named; words = w.words; within = tt }
writable (command.Fin id) named ids w = record { named = named; words = record { long = ids; allowed = w.words }; within = tt }
writable (command.Req id delay) named ids w = record { named = named; words = (record { long = ids; allowed = w.words.0 }, w.words.1); within = tt }
writable (command.Touch id) named ids w = record { named = named; words = record { long = ids; allowed = w.words }; within = tt }
writable command.Cls named ids w = record { named = named; words = tt; within = tt }
writable command.Nop named ids w = record { named = named; words = tt; within = tt }

-- its canonical spelling is one
pub can_write_spells : (c d : Command) → c ≡ d → IsWellNamed (heading_of d) → HasWholeIds (heading_of d) → CanWrite c → IsSpelled (canonical c) c
can_write_spells c d e named ids w =
    let there : CanWrite d = subst CanWrite e w in
    subst (λ (x : Command). IsSpelled (canonical x) x) (sym e) (canonical_spells any_size d (writable d named ids there))

-- what a call ensures where it gave no error
pub not_err : {T E P : Type 0} (r : Result T E) → is_err r ≡ false → OnOk r P → P
not_err (Ok x) e p = p
not_err (Err x) e p = cc

-- one more body behind those that were appended
pub batch_push : (new out start front size text body : List ℕ) → new ≡ out ++ (size ++ (text ++ [])) → out ≡ start ++ front → size ≡ size4 (length text) → text ≡ body → new ≡ start ++ (front ++ sized body)
batch_push new out start front size text body e o s t =
    let last : size ++ (text ++ []) ≡ sized body = ap (λ (x : List ℕ). size ++ x) (append-nil text) ∙ ap (λ (x : List ℕ). x ++ text) s ∙ ap sized t in
    e ∙ ap (λ (x : List ℕ). x ++ (size ++ (text ++ []))) o ∙ append_assoc start front (size ++ (text ++ [])) ∙ ap (λ (x : List ℕ). start ++ (front ++ x)) last

-- what a call ensures where it gave an error
refused : {T E P : Type 0} (r : Result T E) → is_err r ≡ true → OnErr r P → P
refused (Ok x) e p = cc
refused (Err x) e p = p

-- a batch whose bodies were refused is cut off
pub batch_cut : {T E : Type 0} (r : Result T E) (old mid now new head : List ℕ) (n : ℕ) → mid ≡ old → now ≡ mid ++ head → is_err r ≡ true → OnErr r (new ≡ now) → length old ≡ n → take n new ≡ old
batch_cut r old mid now new head n same is e p long = ap (take n) (refused r e p ∙ is ∙ ap (λ (x : List ℕ). x ++ head) same) ∙ take_at old head n long

-- the line, the size, the count and the bodies are the whole batch
pub batch_whole : (old mid now new name size count topic : List ℕ) (bodies : List (List ℕ)) → mid ≡ old → now ≡ mid ++ (codes "MPUB " ++ (name ++ 10 ∷ (size ++ (count ++ [])))) → new ≡ now ++ flat_map sized bodies
    → name ≡ topic → size ≡ size4 (length (content_of bodies)) → count ≡ size4 (length bodies) → new ≡ old ++ batch_bytes topic bodies
batch_whole old mid now new name size count topic bodies same head rest n s k =
    let all = flat_map sized bodies in
    let first = codes "MPUB " ++ (name ++ 10 ∷ (size ++ (count ++ []))) in
    let parts : first ++ all ≡ codes "MPUB " ++ (name ++ 10 ∷ (size ++ (count ++ all))) = ap (λ (x : List ℕ). codes "MPUB " ++ x)
    (append_assoc name (10 ∷ (size ++ (count ++ []))) all
    ∙ ap (λ (x : List ℕ). name ++ 10 ∷ x) (append_assoc size (count ++ []) all ∙ ap (λ (x : List ℕ). size ++ (x ++ all)) (append-nil count))) in
    rest ∙ ap (λ (x : List ℕ). x ++ all) head ∙ append_assoc mid first all ∙ ap (λ (x : List ℕ). mid ++ x) parts
    ∙ ap (λ (x : List ℕ). x ++ (codes "MPUB " ++ (name ++ 10 ∷ (size ++ (count ++ all))))) same
    ∙ ap (λ (x : List ℕ). old ++ (codes "MPUB " ++ (x ++ 10 ∷ (size ++ (count ++ all))))) n
    ∙ ap (λ (x : List ℕ). old ++ (codes "MPUB " ++ (topic ++ 10 ∷ (x ++ (count ++ all))))) s
    ∙ ap (λ (x : List ℕ). old ++ (codes "MPUB " ++ (topic ++ 10 ∷ (size4 (length (content_of bodies)) ++ (x ++ all))))) k
