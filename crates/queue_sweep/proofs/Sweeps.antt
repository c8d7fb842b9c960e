-- Files of unlisted queues are set aside, one after the other.
use Rattle.std.proofs.Common.{◌≡◌, ◌≢◌, ℕ, ◌+◌, ◌<◌, ◌≤◌, ◌⊎◌, Bool, true, false, List, [], ◌∷◌, ◌++◌, length, take, get_or, map, codes, Option, Some, None, IsSome, refl, sym, ◌∙◌, ap, subst, inl, inr, String, string_bytes, Result, Ok, Err, IfErr, OnOk, arith}
use Rattle.std.specs.declared.alloc.Global.{Global}
use Rattle.std.proofs.lemmas.Bool.{false≢true}
use Rattle.std.proofs.lemmas.List.{take_more, take_all, map-append, append_cancel_right}
use Rattle.std.proofs.lemmas.List.Elements.{Contains-push_cases}
use Rattle.std.proofs.lemmas.Slice.Eq.{bytes_eq-Decides}
use Rattle.std.specs.List.{Contains}
use Rattle.std.specs.Str.{bytes_eq}
use Rattle.std.specs.Result.{is_err}
use Rattle.nsq_outside.specs.Causes.{Rose}
use Rattle.nsq_outside.specs.Files.{Files, SameFiles, IsRenamed, IsListing, AppendsListing}
use Rattle.std.proofs.Math.Path.{fun_ext}
use Rattle.queue_image.specs.FileNames.{set_aside}
use Rattle.queue_image.proofs.Naming.{aside_apart}
use Rattle.path_image.specs.Data.{KeptTopic}
use Rattle.queue_sweep.specs.Swept.{IsUnlisted, IsMovedAside, IsLeftAlone, IsSweptTo, HasOnlyListed}
use Rattle.queue_sweep.specs.Steps.{SweepsOne, AreGone}
use Rattle.queue_sweep.specs.declared.unswept.Unswept.{Unswept}
use Rattle.queue_sweep.specs.declared.unswept.Unswept.TheVariants.{Fault, Memory}
use Rattle.queue_sweep.proofs.Colons.{own_file}

some_is : (o : Option (List ℕ)) (x : List ℕ) → o ≡ Some x → IsSome o
some_is o x e = subst (λ (p : Option (List ℕ)). IsSome p) (sym e) refl

-- a file is another, or it isn't
pub same_or_other : (a b : List ℕ) → (a ≡ b) ⊎ (a ≢ b)
same_or_other a b = go (bytes_eq a b) refl
  where
    go : (t : Bool) → bytes_eq a b ≡ t → (a ≡ b) ⊎ (a ≢ b)
    go true e = inl ((bytes_eq-Decides a b).0 e)
    go false e = inr (λ same. false≢true (sym e ∙ (bytes_eq-Decides a b).1 same))

module _ (topics : List KeptTopic) where
  -- an unlisted file has no `.bad` in its name's end
  pub not_aside : (file other : List ℕ) → IsUnlisted topics file → file ≢ set_aside other
  not_aside file other u = aside_apart u.queue.name other file (own_file u.queue.name file u.queue.form)

  -- nothing was done
  pub swept_from_same : (old new : Files) → SameFiles old new → IsSweptTo topics old new
  swept_from_same old new same = record { others = λ file _ _. same file; each = λ file _. inr (record { same = same file; same_aside = same (set_aside file) }) }

  module _ (old mid new : Files) (s : IsSweptTo topics old mid) where
    after_same : SameFiles mid new → IsSweptTo topics old new
    after_same same = record { others = λ file free apart. same file ∙ s.others file free apart; each = λ file u. still file (s.each file u) }
      where
        still : (file : List ℕ) → IsMovedAside file old mid ⊎ IsLeftAlone file old mid → IsMovedAside file old new ⊎ IsLeftAlone file old new
        still file (inl m) = inl (record { there = m.there; gone = same file ∙ m.gone; moved = same (set_aside file) ∙ m.moved })
        still file (inr l) = inr (record { same = same file ∙ l.same; same_aside = same (set_aside file) ∙ l.same_aside })

    module _ (one : List ℕ) (u : IsUnlisted topics one) (r : IsRenamed mid new one (set_aside one)) where
      here : IsMovedAside one old mid ⊎ IsLeftAlone one old mid → IsMovedAside one old new ⊎ IsLeftAlone one old new
      here (inl m) = let same = r.absent m.gone in inl (record { there = m.there; gone = same one ∙ m.gone; moved = same (set_aside one) ∙ m.moved })
      here (inr l) = go (mid one) refl
        where
          go : (o : Option (List ℕ)) → mid one ≡ o → IsMovedAside one old new ⊎ IsLeftAlone one old new
          go None e = let same = r.absent e in inr (record { same = same one ∙ l.same; same_aside = same (set_aside one) ∙ l.same_aside })
          go (Some bytes) e =
              let some = some_is (mid one) bytes e in
              inl (record { there = some_is (old one) bytes (sym l.same ∙ e); gone = r.gone some (not_aside one one u); moved = r.moved some ∙ l.same })

      elsewhere : (file : List ℕ) → IsUnlisted topics file → file ≢ one → IsMovedAside file old mid ⊎ IsLeftAlone file old mid → IsMovedAside file old new ⊎ IsLeftAlone file old new
      elsewhere file v apart h =
          let name : new file ≡ mid file = r.others file apart (not_aside file one v) in
          let aside : new (set_aside file) ≡ mid (set_aside file)
          = r.others (set_aside file) (λ e. not_aside one file u (sym e)) (λ e. apart (append_cancel_right file one (codes ".bad") e)) in
          elim h [
            | inl m ↦ inl (record { there = m.there; gone = name ∙ m.gone; moved = aside ∙ m.moved })
            | inr l ↦ inr (record { same = name ∙ l.same; same_aside = aside ∙ l.same_aside })
          ]

      after_renamed : IsSweptTo topics old new
      after_renamed = record {
        others = λ file free apart. r.others file (λ e. free (subst (λ (f : List ℕ). IsUnlisted topics f) (sym e) u)) (apart one u) ∙ s.others file free apart;
        each = λ file v. elim (same_or_other file one) [
          | inl e ↦ subst (λ (f : List ℕ). IsMovedAside f old new ⊎ IsLeftAlone f old new) (sym e) (here (s.each one u))
          | inr apart ↦ elsewhere file v apart (s.each file v)
        ];
      }

    -- one file more
    pub swept_more : (file : List ℕ) → SameFiles mid new ⊎ (IsUnlisted topics file × IsRenamed mid new file (set_aside file)) → IsSweptTo topics old new
    swept_more file (inl same) = after_same same
    swept_more file (inr both) = after_renamed file both.0 both.1

  -- a file that is gone stays so
  gone_still : (mid new : Files) (one file : List ℕ) → SameFiles mid new ⊎ (IsUnlisted topics one × IsRenamed mid new one (set_aside one)) → IsUnlisted topics file → mid file ≡ None → new file ≡ None
  gone_still mid new one file (inl same) v gone = same file ∙ gone
  gone_still mid new one file (inr both) v gone =
      elim (same_or_other file one) [
        | inl e ↦ both.1.absent (subst (λ (f : List ℕ). mid f ≡ None) e gone) file ∙ gone
        | inr apart ↦ both.1.others file apart (not_aside file one v) ∙ gone
      ]

  -- one that is renamed is gone
  gone_now : (mid new : Files) (one : List ℕ) → IsUnlisted topics one → IsRenamed mid new one (set_aside one) → new one ≡ None
  gone_now mid new one u r = go (mid one) refl
    where
      go : (o : Option (List ℕ)) → mid one ≡ o → new one ≡ None
      go None e = r.absent e one ∙ e
      go (Some bytes) e = r.gone (some_is (mid one) bytes e) (not_aside one one u)

  -- the unlisted ones of one file more are gone
  pub gone_more : (mid new : Files) (names : List (String Global)) (i : ℕ) (name : String Global) (text : List ℕ) (moved : Bool) → i < length names → name ≡ get_or names i name → text ≡ string_bytes name
      → AreGone topics (take i names) mid → SweepsOne topics text mid new (Ok moved) → AreGone topics (take (i + 1) names) new
  gone_more mid new names i name text moved inside here spelled gone step file its v =
      let texts : map string_bytes (take (i + 1) names) ≡ map string_bytes (take i names) ++ string_bytes name ∷ []
      = ap (map string_bytes) (take_more names i name inside ∙ ap (λ (n : String Global). take i names ++ n ∷ []) (sym here)) ∙ map-append string_bytes (take i names) (name ∷ []) in
      elim (Contains-push_cases (map string_bytes (take i names)) (string_bytes name) file (subst (λ (xs : List (List ℕ)). Contains xs file) texts its)) [
        | inl before ↦ gone_still mid new text file step.either v (gone file before v)
        | inr same ↦ let is : text ≡ file = spelled ∙ same in subst (λ (f : List ℕ). new f ≡ None) is (let u : IsUnlisted topics text = subst (λ (f : List ℕ). IsUnlisted topics f) (sym is) v in gone_now mid new text u (step.done u))
      ]

  pub gone_all : (files : Files) (names : List (String Global)) (i : ℕ) → length names ≤ i → AreGone topics (take i names) files → AreGone topics names files
  gone_all files names i past gone file its v = gone file (subst (λ (ns : List (String Global)). Contains (map string_bytes ns) file) (sym (take_all i names past)) its) v

  -- once those that were listed by the folder are gone, none is there
  pub only_listed : (old new : Files) (names : List (String Global)) → IsListing old [] (map string_bytes names) → IsSweptTo topics old new → AreGone topics names new → HasOnlyListed topics new
  only_listed old new names l s gone file u = go (old file) refl
    where
      go : (o : Option (List ℕ)) → old file ≡ o → new file ≡ None
      go None e = elim (s.each file u) [ inl m ↦ m.gone | inr h ↦ h.same ∙ e ]
      go (Some bytes) e = gone file ((l.each file).1 (some_is (old file) bytes e, refl)) u

  -- no other call changed anything
  pub swept_between : (f0 f1 f2 f3 : Files) → SameFiles f0 f1 → IsSweptTo topics f1 f2 → SameFiles f2 f3 → IsSweptTo topics f0 f3
  swept_between f0 f1 f2 f3 before s behind = subst (λ (f : Files). IsSweptTo topics f f3) (fun_ext before) (after_same f1 f2 f3 s behind)

  pub only_between : (f0 f1 f2 f3 : Files) (none names all : List (String Global)) → SameFiles f0 f1 → AppendsListing f0 [] none all → none ≡ [] → names ≡ all → IsSweptTo topics f1 f2 → AreGone topics names f2
      → SameFiles f2 f3 → HasOnlyListed topics f3
  only_between f0 f1 f2 f3 none names all before l empty same s gone behind =
      let whole : l.added ≡ names = sym (same ∙ l.appended ∙ ap (λ (xs : List (String Global)). xs ++ l.added) empty) in
      let listing : IsListing f0 [] (map string_bytes names) = subst (λ (xs : List (String Global)). IsListing f0 [] (map string_bytes xs)) whole l.listing in
      λ file u. behind file ∙ only_listed f0 f2 names listing (subst (λ (f : Files). IsSweptTo topics f f2) (fun_ext before) s) gone file u

-- what holds whatever the answer is
pub whatever : {T E : Type 0} (r : Result T E) (P : Type 0) → P → OnOk r P
whatever (Ok x) P h = h
whatever (Err e) P h = tt

module _ (topics : List KeptTopic) (file : List ℕ) where
  -- a listed file stays, and so does one for which memory was wanting
  pub one_listed : (files : Files) → (IsUnlisted topics file → ⊥) → SweepsOne topics file files files (Ok false)
  one_listed files listed = record { either = inl (λ f. refl); done = λ u. absurd (listed u) }

  pub one_wanting : (files : Files) → SweepsOne topics file files files (Err Memory)
  one_wanting files = record { either = inl (λ f. refl); done = tt }

  -- an unlisted one is renamed, or that failed
  pub one_renamed : (aside : List ℕ) (old new : Files) → IsUnlisted topics file → aside ≡ set_aside file → IsRenamed old new file aside → SweepsOne topics file old new (Ok true)
  one_renamed aside old new u spelled renamed =
      let done = subst (IsRenamed old new file) spelled renamed in
      record { either = inr (u, done); done = λ _. done }

  pub one_failed : (aside : List ℕ) (old new : Files) → IsUnlisted topics file → aside ≡ set_aside file → SameFiles old new ⊎ IsRenamed old new file aside → SweepsOne topics file old new (Err Fault)
  one_failed aside old new u spelled (inl same) = record { either = inl same; done = tt }
  one_failed aside old new u spelled (inr renamed) = record { either = inr (u, subst (IsRenamed old new file) spelled renamed); done = tt }

-- what holds where the answer isn't an error
pub spelled_then : {T E P : Type 0} (r : Result T E) → false ≡ is_err r → OnOk r P → P
spelled_then (Ok x) is h = h
spelled_then (Err e) is h = absurd (false≢true is)

-- a count that rose later rose
pub rose_since : {T : Type 0} (r : Result T Unswept) (before mid now : ℕ) → before ≤ mid → IfErr r (λ e. e ≡ Fault → Rose mid now) → IfErr r (λ e. e ≡ Fault → Rose before now)
rose_since (Ok x) before mid now low rose = tt
rose_since (Err e) before mid now low rose = λ fault. let later = rose fault in omega (arith, low, later)
