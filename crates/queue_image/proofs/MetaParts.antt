-- The metadata's text, field by field.
use Rattle.std.proofs.Common.{◌≡◌, ℕ, ◌^◌, ◌<◌, List, [], ◌∷◌, ◌++◌, refl, sym, ◌∙◌, ap, inl, inr, arith, lit<}
use Rattle.std.specs.Str.Parse.{digits_value}
use Rattle.nsq_core.specs.Decimal.{IsDecimal}
use Rattle.queue_image.specs.Places.{IsOrdered}
use Rattle.queue_image.specs.Metas.{Meta, IsMeta}
use Rattle.queue_image.specs.Answered.{DigitsLead, NumberLeads}
use Rattle.queue_image.specs.declared.positions.Positions.{Positions}
use Rattle.queue_image.proofs.MetaLemmas.{same_field}

-- what stands behind the digits that lead a text
digits_next : (text : List ℕ) (separator : ℕ) (d rest e t : List ℕ) (n : ℕ) → separator < 48 → DigitsLead text separator d rest → text ≡ e ++ separator ∷ t → IsDecimal 40 e n → rest ≡ t
digits_next text separator d rest e t n low x w is =
    (same_field separator d e rest t (digits_value 10 d) n low (record { numeral = x.numeral; bound = x.bound; value = refl }) is (sym x.whole ∙ w)).1

-- the number that leads a text, and what stands behind it
number_next : (text : List ℕ) (separator most m : ℕ) (rest e t : List ℕ) (n : ℕ) → separator < 48 → NumberLeads text separator most m rest → text ≡ e ++ separator ∷ t → IsDecimal 40 e n
    → (m ≡ n) × (rest ≡ t)
number_next text separator most m rest e t n low x w is = same_field separator x.digits e rest t m n low x.is is (sym x.whole ∙ w)

module _ (text : List ℕ) (meta : Meta) (i : IsMeta text meta) where
  -- what stands behind the depth, and behind each number that follows
  abbrev pub tail4 : List ℕ
  tail4 = i.write_at_digits ++ 10 ∷ []

  abbrev pub tail3 : List ℕ
  tail3 = i.write_file_digits ++ 44 ∷ tail4

  abbrev pub tail2 : List ℕ
  tail2 = i.read_at_digits ++ 10 ∷ tail3

  abbrev pub tail1 : List ℕ
  tail1 = i.read_file_digits ++ 44 ∷ tail2

  pub after_depth : (d rest : List ℕ) → DigitsLead text 10 d rest → rest ≡ tail1
  after_depth d rest x = digits_next text 10 d rest i.depth_digits tail1 meta.depth (lit< tt) x i.whole i.depth

  pub after_read_file : (t rest : List ℕ) (m : ℕ) → t ≡ tail1 → NumberLeads t 44 (2 ^ 40) m rest → (m ≡ meta.positions.read_file) × (rest ≡ tail2)
  after_read_file t rest m e x = number_next t 44 (2 ^ 40) m rest i.read_file_digits tail2 meta.positions.read_file (lit< tt) x e i.read_file

  pub after_read_at : (t rest : List ℕ) (m : ℕ) → t ≡ tail2 → NumberLeads t 10 (2 ^ 62) m rest → (m ≡ meta.positions.read_at) × (rest ≡ tail3)
  after_read_at t rest m e x = number_next t 10 (2 ^ 62) m rest i.read_at_digits tail3 meta.positions.read_at (lit< tt) x e i.read_at

  pub after_write_file : (t rest : List ℕ) (m : ℕ) → t ≡ tail3 → NumberLeads t 44 (2 ^ 40) m rest → (m ≡ meta.positions.write_file) × (rest ≡ tail4)
  after_write_file t rest m e x = number_next t 44 (2 ^ 40) m rest i.write_file_digits tail4 meta.positions.write_file (lit< tt) x e i.write_file

  pub after_write_at : (t rest : List ℕ) (m : ℕ) → t ≡ tail4 → NumberLeads t 10 (2 ^ 62) m rest → (m ≡ meta.positions.write_at) × (rest ≡ [])
  after_write_at t rest m e x = number_next t 10 (2 ^ 62) m rest i.write_at_digits [] meta.positions.write_at (lit< tt) x e i.write_at

  pub depth_leads : DigitsLead text 10 i.depth_digits tail1
  depth_leads = record { whole = i.whole; numeral = i.depth.numeral; bound = i.depth.bound }

  pub read_file_leads : (t : List ℕ) → t ≡ tail1 → NumberLeads t 44 (2 ^ 40) meta.positions.read_file tail2
  read_file_leads t e = record { digits = i.read_file_digits; whole = e; is = i.read_file; bound = i.in_range.read_file }

  pub read_at_leads : (t : List ℕ) → t ≡ tail2 → NumberLeads t 10 (2 ^ 62) meta.positions.read_at tail3
  read_at_leads t e = record { digits = i.read_at_digits; whole = e; is = i.read_at; bound = i.in_range.read_at }

  pub write_file_leads : (t : List ℕ) → t ≡ tail3 → NumberLeads t 44 (2 ^ 40) meta.positions.write_file tail4
  write_file_leads t e = record { digits = i.write_file_digits; whole = e; is = i.write_file; bound = i.in_range.write_file }

  pub write_at_leads : (t : List ℕ) → t ≡ tail4 → NumberLeads t 10 (2 ^ 62) meta.positions.write_at []
  write_at_leads t e = record { digits = i.write_at_digits; whole = e; is = i.write_at; bound = i.in_range.write_at }

-- five numbers in a row, and nothing behind them, are metadata
pub meta_from : (text d r1 r2 r3 r4 r5 : List ℕ) (p : Positions) → DigitsLead text 10 d r1 → NumberLeads r1 44 (2 ^ 40) p.read_file r2 → NumberLeads r2 10 (2 ^ 62) p.read_at r3
    → NumberLeads r3 44 (2 ^ 40) p.write_file r4 → NumberLeads r4 10 (2 ^ 62) p.write_at r5 → r5 ≡ [] → IsOrdered p → IsMeta text (record { depth = digits_value 10 d; positions = p })
meta_from text d r1 r2 r3 r4 r5 p x a b c e none order = record {
  depth_digits = d;
  read_file_digits = a.digits;
  read_at_digits = b.digits;
  write_file_digits = c.digits;
  write_at_digits = e.digits;
  whole = x.whole ∙ ap (λ (t : List ℕ). d ++ 10 ∷ t) (a.whole ∙ ap (λ (t : List ℕ). a.digits ++ 44 ∷ t) (b.whole ∙ ap (λ (t : List ℕ). b.digits ++ 10 ∷ t)
      (c.whole ∙ ap (λ (t : List ℕ). c.digits ++ 44 ∷ t) (e.whole ∙ ap (λ (t : List ℕ). e.digits ++ 10 ∷ t) none))));
  depth = record { numeral = x.numeral; bound = x.bound; value = refl };
  read_file = a.is;
  read_at = b.is;
  write_file = c.is;
  write_at = e.is;
  in_range = record { read_file = a.bound; read_at = b.bound; write_file = c.bound; write_at = e.bound };
  ordered = order;
}

-- positions that are the same are in order alike
pub same_order : (p q : Positions) → p.read_file ≡ q.read_file → p.read_at ≡ q.read_at → p.write_file ≡ q.write_file → p.write_at ≡ q.write_at → IsOrdered p → IsOrdered q
same_order p q a b c d (inl lt) = inl (omega arith)
same_order p q a b c d (inr h) = inr (omega (arith, h.0), omega (arith, h.1))
