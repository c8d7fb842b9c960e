-- A walk over files that are given as a list.
use Rattle.std.proofs.Common.{◌≡◌, ◌≢◌, ℕ, ◌+◌, ◌^◌, ◌<◌, ◌≤◌, Bool, true, false, cond, List, [], ◌∷◌, ◌++◌, length, take, get_or, Option, Some, None, refl, sym, ◌∙◌, ap, subst, inl, inr, arith, append_assoc, Result, Ok, Err, IfOk}
use Rattle.std.proofs.lemmas.List.{take_more}
use Rattle.std.proofs.lemmas.Slice.Eq.{bytes_eq-Decides}
use Rattle.std.specs.Str.{bytes_eq}
use Rattle.queue_image.specs.FileNames.{data_file, meta_file}
use Rattle.queue_image.specs.Places.{IsAtEnd}
use Rattle.queue_image.specs.Metas.{IsMeta}
use Rattle.queue_image.specs.Between.{content}
use Rattle.queue_image.specs.Finds.{IsGoodFile, IsBadFile, Walks, IsFound}
use Rattle.queue_image.specs.Finds.IsFound.{walked}
use Rattle.queue_image.specs.Finds.Walks.{starts, good, passes}
use Rattle.path_plain.specs.Folders.{files_of}
use Rattle.queue_image.specs.Answered.{NumbersFile}
use Rattle.path_plain.specs.Answered.{PartIs, Adds, WalksTo, finding_of}
use Rattle.path_plain.specs.declared.named_file.NamedFile.{NamedFile}
use Rattle.queue_image.specs.declared.positions.Positions.{Positions}
use Rattle.path_plain.specs.declared.finding.Listing.{Listing}
use Rattle.path_plain.specs.declared.finding.Found.{Found}
use Rattle.path_plain.specs.declared.finding.Found.TheVariants.{BadMeta as FoundBadMeta, Records as FoundRecords}
use Rattle.path_plain.specs.declared.finding.Part.{Part}
use Rattle.path_plain.specs.declared.finding.Part.TheVariants.{Good, Bad}
use Rattle.queue_image.proofs.Naming.{one_number}
use Rattle.queue_image.proofs.Walking.{behind_or_end}

-- a file of another name does not matter
files_of-push : (files : List NamedFile) (file : NamedFile) (name : List ℕ) → files_of files name ≡ None → bytes_eq file.name name ≡ false → files_of (files ++ file ∷ []) name ≡ None
files_of-push [] file name e apart = ap (λ b. cond b (Some file.bytes) None) apart
files_of-push (first ∷ files) file name e apart = go (bytes_eq first.name name) refl (λ h. files_of-push files file name h apart)
  where
    go : (b : Bool) → bytes_eq first.name name ≡ b → (files_of files name ≡ None → files_of (files ++ file ∷ []) name ≡ None) → files_of ((first ∷ files) ++ file ∷ []) name ≡ None
    go true t rest = let some : Some first.bytes ≡ None = sym (ap (λ b. cond b (Some first.bytes) (files_of files name)) t) ∙ e in cc
    go false t rest =
        let none : files_of files name ≡ None = sym (ap (λ b. cond b (Some first.bytes) (files_of files name)) t) ∙ e in
        ap (λ b. cond b (Some first.bytes) (files_of (files ++ file ∷ []) name)) t ∙ rest none

-- texts that differ fail the test
apart_test : (xs ys : List ℕ) → xs ≢ ys → bytes_eq xs ys ≡ false
apart_test xs ys apart = go (bytes_eq xs ys) refl
  where
    go : (b : Bool) → bytes_eq xs ys ≡ b → bytes_eq xs ys ≡ false
    go true t = absurd (apart ((bytes_eq-Decides xs ys).0 t))
    go false t = t

-- a file whose number is not passed over is none of those that are
numbered_apart : (name file : List ℕ) (o : Option ℕ) (from next k : ℕ) → NumbersFile name file o → ((m : ℕ) → o ≡ Some m → from ≤ m → next ≤ m) → from ≤ k → k < next → next < 2 ^ 64 → file ≢ data_file name k
numbered_apart name file None from next k none least low high small e = none k (omega arith) e
numbered_apart name file (Some n) from next k is least low high small e =
    let same : n ≡ k = one_number name n k is.0 (omega arith) (sym is.1 ∙ e) in
    let past : next ≤ k = least k (ap (λ (m : ℕ). Some m) same) low in
    omega arith

-- with one more file of the list read, still none of the numbers passed over has one
pub still_absent : (files : List NamedFile) (i : ℕ) (file : NamedFile) (name : List ℕ) (o : Option ℕ) (from next next' k : ℕ) → i < length files → file ≡ get_or files i file
    → ((j : ℕ) → from ≤ j → j < next → files_of (take i files) (data_file name j) ≡ None) → NumbersFile name file.name o → next' ≤ next
    → ((m : ℕ) → o ≡ Some m → from ≤ m → next' ≤ m) → next' < 2 ^ 64 → from ≤ k → k < next' → files_of (take (i + 1) files) (data_file name k) ≡ None
still_absent files i file name o from next next' k inside here absent numbers most least small low high =
    ap (λ (fs : List NamedFile). files_of fs (data_file name k)) (take_more files i file inside ∙ ap (λ (f : NamedFile). take i files ++ f ∷ []) (sym here))
    ∙ files_of-push (take i files) file (data_file name k) (absent k low (omega arith)) (apart_test file.name (data_file name k) (numbered_apart name file.name o from next' k numbers least low high small))

module _ (least limit : ℕ) (p : Positions) (bytes : ℕ → List ℕ) where
  -- what a file gives is added to the walk
  pub adds : (k : ℕ) (file : List ℕ) (old new : Listing) (part : Part) → file ≡ bytes k → Walks least limit p bytes k old.bodies old.bad.items → PartIs least limit p k file part → Adds old new k part
      → Walks least limit p bytes (k + 1) new.bodies new.bad.items
  adds k file old new (Good more) here w g a =
      subst (λ (bad : List ℕ). Walks least limit p bytes (k + 1) new.bodies bad) (sym a.1)
      (good more w (subst (λ (f : List ℕ). IsGoodFile least limit p k f more) here g) refl a.0)
  adds k file old new Bad here w b a =
      subst (λ (bodies : List (List ℕ)). Walks least limit p bytes (k + 1) bodies new.bad.items) (sym a.0)
      (passes w (subst (λ (f : List ℕ). IsBadFile least limit p k f) here b) refl a.1)

  -- the walk starts with nothing
  pub first_walk : (bodies : List (List ℕ)) (bad : List ℕ) → bodies ≡ [] → bad ≡ [] → Walks least limit p bytes p.read_file bodies bad
  first_walk bodies bad e f =
      subst (λ (bs : List (List ℕ)). Walks least limit p bytes p.read_file bs bad) (sym e) (subst (λ (ns : List ℕ). Walks least limit p bytes p.read_file [] ns) (sym f) (starts refl))

-- the answer of the walk is that of the opening, where the positions are not the same
pub walk_is_found : {E : Type 0} (least limit : ℕ) (files : List ℕ → Option (List ℕ)) (name text : List ℕ) (depth : ℕ) (p : Positions) (r : Result Found E) → files (meta_file name) ≡ Some text
    → IsMeta text (record { depth = depth; positions = p }) → ¬ IsAtEnd p → IfOk r (λ found. WalksTo least limit p (content files name) found)
    → IfOk r (λ found. IsFound least limit files name (finding_of found))
walk_is_found least limit files name text depth p (Ok FoundBadMeta) e i apart w = absurd w
walk_is_found least limit files name text depth p (Ok (FoundRecords listing)) e i apart w =
    walked text (record { depth = depth; positions = p }) e i (elim (behind_or_end least limit p i.ordered) [ inl at ↦ absurd (apart at) | inr behind ↦ behind ]) w
walk_is_found least limit files name text depth p (Err _) e i apart w = tt

-- one more body behind those that joined a list
pub joins_more : (old more bodies bodies' : List (List ℕ)) (body : List ℕ) → bodies ≡ old ++ more → bodies' ≡ bodies ++ body ∷ [] → bodies' ≡ old ++ (more ++ body ∷ [])
joins_more old more bodies bodies' body is next = next ∙ ap (λ (x : List (List ℕ)). x ++ body ∷ []) is ∙ append_assoc old more (body ∷ [])
