-- The metadata's text is read in one way, and what is written is read back.
use Rattle.std.proofs.Common.{◌≡◌, ℕ, ◌^◌, ◌<◌, List, ◌∷◌, ◌++◌, refl, sym, ◌∙◌, ap, inl, arith, lit<}
use Rattle.std.proofs.lemmas.Fmt.{decimal_is_IsNumeral_wide, length-decimal-le_wide}
use Rattle.std.specs.Fmt.{decimal}
use Rattle.std.specs.Str.Parse.{digits_value}
use Rattle.nsq_core.specs.Decimal.{IsDecimal}
use Rattle.queue_image.specs.Answered.{DigitsLead, NumberLeads}
use Rattle.queue_image.specs.Metas.{Meta, IsMeta, meta_text}
use Rattle.queue_image.specs.Places.{IsOrdered, IsInRange}
use Rattle.queue_image.specs.declared.positions.Positions.{Positions}
use Rattle.queue_image.proofs.Naming.{Lacks-digits, around_first_one}

-- digits up to a separator, and what stands behind it, are known from the bytes
pub same_field : (end : ℕ) (d e s t : List ℕ) (m n : ℕ) → end < 48 → IsDecimal 40 d m → IsDecimal 40 e n → d ++ end ∷ s ≡ e ++ end ∷ t → (m ≡ n) × (s ≡ t)
same_field end d e s t m n low p q h =
    let both = around_first_one end d e s t (Lacks-digits end d (inl low) p.numeral.1) (Lacks-digits end e (inl low) q.numeral.1) h in
    (p.value ∙ ap (digits_value 10) both.0 ∙ sym q.value, both.1)

abbrev of_numbers : ℕ → ℕ → ℕ → ℕ → ℕ → Meta
of_numbers depth read_file read_at write_file write_at =
    record { depth = depth; positions = record { read_file = read_file; read_at = read_at; write_file = write_file; write_at = write_at } }

same_metas : (d rf ra wf wa d' rf' ra' wf' wa' : ℕ) → d ≡ d' → rf ≡ rf' → ra ≡ ra' → wf ≡ wf' → wa ≡ wa'
    → of_numbers d rf ra wf wa ≡ of_numbers d' rf' ra' wf' wa'
same_metas d rf ra wf wa d' rf' ra' wf' wa' a b c e f =
    ap (λ (x : ℕ). of_numbers x rf ra wf wa) a ∙ ap (λ (x : ℕ). of_numbers d' x ra wf wa) b ∙ ap (λ (x : ℕ). of_numbers d' rf' x wf wa) c ∙ ap (λ (x : ℕ). of_numbers d' rf' ra' x wa) e
    ∙ ap (λ (x : ℕ). of_numbers d' rf' ra' wf' x) f

pub one_meta : (text : List ℕ) (m n : Meta) → IsMeta text m → IsMeta text n → m ≡ n
one_meta text m n x y =
    let depth = same_field 10 x.depth_digits y.depth_digits _ _ m.depth n.depth (lit< tt) x.depth y.depth (sym x.whole ∙ y.whole) in
    let read_file = same_field 44 x.read_file_digits y.read_file_digits _ _ m.positions.read_file n.positions.read_file (lit< tt) x.read_file y.read_file depth.1 in
    let read_at = same_field 10 x.read_at_digits y.read_at_digits _ _ m.positions.read_at n.positions.read_at (lit< tt) x.read_at y.read_at read_file.1 in
    let write_file = same_field 44 x.write_file_digits y.write_file_digits _ _ m.positions.write_file n.positions.write_file (lit< tt) x.write_file y.write_file read_at.1 in
    let write_at = same_field 10 x.write_at_digits y.write_at_digits _ _ m.positions.write_at n.positions.write_at (lit< tt) x.write_at y.write_at write_file.1 in
    same_metas m.depth m.positions.read_file m.positions.read_at m.positions.write_file m.positions.write_at n.depth n.positions.read_file n.positions.read_at n.positions.write_file n.positions.write_at
    depth.0 read_file.0 read_at.0 write_file.0 write_at.0

-- the digits of a number that 128 bits hold
pub decimal_is : (n : ℕ) → n < 2 ^ 128 → IsDecimal 40 (decimal n) n
decimal_is n small =
    let h = decimal_is_IsNumeral_wide n (omega arith) in
    record { numeral = h.0; bound = length-decimal-le_wide 40 n (lit< tt) (omega arith) (omega arith); value = sym h.1 }

pub reads_back : (depth : ℕ) (p : Positions) → depth < 2 ^ 128 → IsInRange p → IsOrdered p → IsMeta (meta_text depth p) (record { depth = depth; positions = p })
reads_back depth p small range order =
    let a = range.read_file in
    let b = range.read_at in
    let c = range.write_file in
    let d = range.write_at in
    record {
      depth_digits = decimal depth;
      read_file_digits = decimal p.read_file;
      read_at_digits = decimal p.read_at;
      write_file_digits = decimal p.write_file;
      write_at_digits = decimal p.write_at;
      whole = refl;
      depth = decimal_is depth small;
      read_file = decimal_is p.read_file (omega (arith, a));
      read_at = decimal_is p.read_at (omega (arith, b));
      write_file = decimal_is p.write_file (omega (arith, c));
      write_at = decimal_is p.write_at (omega (arith, d));
      in_range = range;
      ordered = order;
    }

-- digits that lead a text spell the number that leads it
pub same_lead : (text : List ℕ) (separator most n : ℕ) (digits rest rest' : List ℕ) → separator < 48 → DigitsLead text separator digits rest → NumberLeads text separator most n rest'
    → digits_value 10 digits ≡ n
same_lead text separator most n digits rest rest' low x y =
    (same_field separator digits y.digits rest rest' (digits_value 10 digits) n low (record { numeral = x.numeral; bound = x.bound; value = refl }) y.is (sym x.whole ∙ y.whole)).0
