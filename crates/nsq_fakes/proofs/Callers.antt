-- Who is to come to a host in memory, and how many addresses a dial leaves linked.
use Rattle.std.proofs.Common.{◌≡◌, ◌+◌, ◌<◌, ◌≤◌, ◌==◌, ◌∷◌, ℕ, [], List, String, string_bytes, true, false, length, map, ap, sym, ◌∙◌, arith, length-append}
use Rattle.std.proofs.lemmas.Bool.{false≢true, eqb-true}
use Rattle.std.proofs.lemmas.List.{length-map, nil_from_length}
use Rattle.std.specs.declared.alloc.Global.{Global}
use Rattle.nsq_outside.specs.Hosts.{Dials}
use Rattle.nsq_outside.specs.declared.host.Kind.{Kind}
use Rattle.nsq_outside.specs.declared.host.Dialled.{Dialled}
use Rattle.nsq_outside.specs.declared.host.Dialled.TheVariants.{Linked, Failed}
use Rattle.nsq_fakes.specs.MemConns.{left_of}
use Rattle.nsq_fakes.specs.declared.conn.MemConn.{MemConn}

-- a list that is told to be empty
pub none_there : {X : Type 0} (items : List X) (len : ℕ) → len ≡ length items → true ≡ (len == 0) → items ≡ []
none_there items len size none = nil_from_length items (sym size ∙ eqb-true len 0 (sym none))

-- and one that isn't
pub some_there : {X : Type 0} (items : List X) (len : ℕ) → len ≡ length items → false ≡ (len == 0) → 0 < length items
some_there [] len size some = absurd (false≢true (some ∙ ap (λ n. n == 0) size))
some_there (item ∷ items) len size some = omega arith

-- a list isn't both
pub not_both : {X P : Type 0} (items : List X) → items ≡ [] → 0 < length items → P
not_both items none some = let empty : length items ≡ 0 = ap length none in absurd (omega (arith, some, empty))

-- callers that are there are to come
pub some_coming : (callers : List (Kind × MemConn)) → 0 < length callers → 0 < length (map {B = Kind × List ℕ} (λ caller. (caller.0, left_of caller.1)) callers)
some_coming [] some = absurd (omega (arith, some))
some_coming (caller ∷ callers) some = omega arith

-- no dial takes a link away
pub links_stay : (asked asked' : List (List ℕ)) (linked linked' : List (String Global)) (coming coming' : List (List ℕ)) (address : List ℕ) (result : Dialled MemConn)
    → Dials left_of (record { asked = asked; linked = map string_bytes linked; coming = coming }) (record { asked = asked'; linked = map string_bytes linked'; coming = coming' }) address result
    → length linked ≤ length linked'
links_stay asked asked' linked linked' coming coming' address (Linked conn) told =
    let before : length (map string_bytes linked) ≡ length linked = length-map linked string_bytes in
    let behind : length (map string_bytes linked') ≡ length linked' = length-map linked' string_bytes in
    let one : length (map string_bytes linked') ≡ length (map string_bytes linked) + 1 = ap length told.2 ∙ length-append (map string_bytes linked) (address ∷ []) in
    omega (arith, before, behind, one)
links_stay asked asked' linked linked' coming coming' address Failed told =
    let before : length (map string_bytes linked) ≡ length linked = length-map linked string_bytes in
    let behind : length (map string_bytes linked') ≡ length linked' = length-map linked' string_bytes in
    let none : length (map string_bytes linked') ≡ length (map string_bytes linked) = ap length told.2 in
    omega (arith, before, behind, none)
