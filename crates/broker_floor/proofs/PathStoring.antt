-- The file of names as it was, or with the text of the names.
use Rattle.std.proofs.Common.{◌≡◌, inl, inr, ℕ, ◌<◌, ◌≤◌, ◌^◌, List, [], ◌++◌, length, Some, None, ap, subst, ◌∙◌, arith}
use Rattle.nsq_outside.specs.Files.{Files}
use Rattle.nsq_outside.specs.declared.did.Did.{Did}
use Rattle.nsq_outside.specs.declared.did.Did.TheVariants.{Done, Failed}
use Rattle.queue_files.specs.Replaced.{Replaces}
use Rattle.path_image.specs.Data.{IsNames, Kept, KeptTopic, data_name, longest_data, names_text, temp_name}
use Rattle.names_file.specs.Kept.{CanKeepAll}
use Rattle.names_file.specs.Texts.{kept_of}
use Rattle.broker_floor.specs.Closings.{IsTextOf, KeepsNames, OldOrNew}

-- the text that was appended to nothing is the text of what was lent
pub is_text : (text out before : List ℕ) (told epoch : ℕ) (lent kept : List KeptTopic) → text ≡ out → out ≡ before ++ names_text (kept_of told lent) → before ≡ [] → told ≡ epoch → lent ≡ kept → told < 2 ^ 24 → CanKeepAll lent
    → (told ≤ 16777215 → CanKeepAll lent → length (names_text (kept_of told lent)) ≤ longest_data → IsNames (names_text (kept_of told lent)) (kept_of told lent)) → length text ≤ 2 ^ 24 → IsTextOf text (kept_of epoch kept)
is_text text out before told epoch lent kept is wrote none same topics small can keeps fits =
    let written : text ≡ names_text (kept_of told lent) = is ∙ wrote ∙ ap (λ (x : List ℕ). x ++ names_text (kept_of told lent)) none in
    let lasts : IsTextOf text (kept_of told lent) = record { is = written; keeps = keeps (omega (arith, small)) can (subst (λ (t : List ℕ). length t ≤ 2 ^ 24) written fits) } in
    subst (λ (n : ℕ). IsTextOf text (kept_of n kept)) same (subst (λ ts. IsTextOf text (kept_of told ts)) topics lasts)

-- the text was stored
pub names_stored : (new : Files) (text : List ℕ) (kept : Kept) → IsTextOf text kept → (new data_name ≡ Some text) × (new temp_name ≡ None) → KeepsNames new kept
names_stored new text kept of there = record { text = there.0 ∙ ap Some of.is; keeps = of.keeps; temp = there.1 }

-- or it may have been, or not
pub old_or_new : (old new : Files) (text : List ℕ) (kept : Kept) (stored : Did) → IsTextOf text kept → Replaces old new data_name temp_name text stored → OldOrNew old new kept
old_or_new old new text kept Done of does = inr (record { text = does.0 ∙ ap Some of.is; keeps = of.keeps })
old_or_new old new text kept Failed of (inl stays) = inl stays
old_or_new old new text kept Failed of (inr there) = inr (record { text = there ∙ ap Some of.is; keeps = of.keeps })
