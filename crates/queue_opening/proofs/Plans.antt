-- What an opening plans.
use Rattle.std.proofs.Math.Seq.{take-append_seam}
use Rattle.std.proofs.Common.{◌≡◌, ℕ, ◌+◌, ◌^◌, ◌<◌, ◌≤◌, ◌↔◌, min, Bool, true, false, IsTrue, List, [], ◌∷◌, codes, ◌++◌, length, take, drop, map, get_or, Option, Some, None, unwrap_or, String, string_bytes, refl, sym, ◌∙◌, ap, subst, inl, inr, arith, length-append}
use Rattle.std.proofs.lemmas.List.{append_assoc, take_more, take_all, take_at, map-append}
use Rattle.std.proofs.lemmas.Bool.{cases_lt}
use Rattle.std.proofs.lemmas.List.Elements.{Contains-append_left, Contains-push, Contains-push_cases}
use Rattle.std.specs.List.{Contains}
use Rattle.std.specs.Option.{IsSomeAnd}
use Rattle.std.specs.declared.alloc.Global.{Global}
use Rattle.nsq_outside.specs.Files.{AppendsListing, BeginsWith, Files, ReadsAt}
use Rattle.nsq_outside.specs.declared.folder.ReadAt.TheVariants.{Got}
use Rattle.queue_image.specs.FileNames.{data_file, file_beginning, file_digits}
use Rattle.queue_image.specs.Metas.{Meta, IsMeta, Says}
use Rattle.queue_image.specs.Places.{IsOrdered, IsInRange, distance}
use Rattle.queue_image.specs.Answered.{NumbersFile, ReadsMeta}
use Rattle.queue_image.specs.declared.positions.Positions.{Positions}
use Rattle.queue_image.proofs.Naming.{one_number}
use Rattle.queue_opening.specs.Walked.{HasNumbers, WalkFits}
use Rattle.queue_opening.specs.Planned.{IsSpoilt, IsUsable, HasNumbersOf, AddsNumber, IsSettled, IsPlan, settled}
use Rattle.queue_opening.specs.declared.walking.Walk.{Walk}
use Rattle.queue_opening.specs.declared.plan.Plan.{Plan}
use Rattle.queue_opening.proofs.Walks.{file_order}

-- a metadata text is no longer than its numbers and the bytes behind them
pub meta_long : (text : List ℕ) (meta : Meta) → IsMeta text meta → length text ≤ 205
meta_long text meta i =
    let a = i.depth_digits in
    let b = i.read_file_digits in
    let c = i.read_at_digits in
    let d = i.write_file_digits in
    let e = i.write_at_digits in
    let one = i.depth in
    let two = i.read_file in
    let three = i.read_at in
    let four = i.write_file in
    let five = i.write_at in
    let t4 = e ++ 10 ∷ [] in
    let t3 = d ++ 44 ∷ t4 in
    let t2 = c ++ 10 ∷ t3 in
    let t1 = b ++ 44 ∷ t2 in
    omega (
      arith,
      ap length i.whole,
      length-append a (10 ∷ t1),
      length-append b (44 ∷ t2),
      length-append c (10 ∷ t3),
      length-append d (44 ∷ t4),
      length-append e (10 ∷ []),
      one.bound,
      two.bound,
      three.bound,
      four.bound,
      five.bound,
    )

-- a file that is longer
pub spoilt_long : (f0 f1 : Option (List ℕ)) (m n : ℕ) (into new : List ℕ) → IsSomeAnd f0 (λ bytes. m ≡ length bytes) → f1 ≡ f0 → ReadsAt f1 0 into new (Got n) → 205 < n → IsSpoilt f0
spoilt_long None f1 m n into new is same r past = absurd is
spoilt_long (Some bytes) f1 m n into new is same r past = record {
  text = bytes;
  there = refl;
  none = λ meta i. let long = meta_long bytes meta i in omega (arith, long, past, r.0, ap (λ (o : Option (List ℕ)). length (unwrap_or o [])) same);
}

-- the whole text of a file was read
whole_read : (bytes : List ℕ) (f1 : Option (List ℕ)) (n : ℕ) (into new text : List ℕ) → f1 ≡ Some bytes → ReadsAt f1 0 into new (Got n) → length into ≡ 206 → n ≤ 205 → text ≡ take n new → text ≡ bytes
whole_read bytes f1 n into new text same r room few e =
    let size : n ≡ length bytes = omega (arith, r.0, room, few, ap (λ (o : Option (List ℕ)). length (unwrap_or o [])) same) in
    let front : take n (drop 0 (unwrap_or f1 [])) ≡ bytes = ap (λ (o : Option (List ℕ)). take n (unwrap_or o [])) same ∙ take_all n bytes (omega (arith, size)) in
    e ∙ ap (take n) r.1 ∙ ap (λ (x : List ℕ). take n (x ++ drop n into)) front ∙ take_at bytes (drop n into) n (sym size)

-- a file whose whole text is none
pub spoilt_read : (f0 f1 : Option (List ℕ)) (m n : ℕ) (into new text : List ℕ) → IsSomeAnd f0 (λ bytes. m ≡ length bytes) → f1 ≡ f0 → ReadsAt f1 0 into new (Got n) → length into ≡ 206 → n ≤ 205
    → text ≡ take n new → ((meta : Meta) → ¬ IsMeta text meta) → IsSpoilt f0
spoilt_read None f1 m n into new text is same r room few e none = absurd is
spoilt_read (Some bytes) f1 m n into new text is same r room few e none =
    record { text = bytes; there = refl; none = λ meta i. none meta (subst (λ (x : List ℕ). IsMeta x meta) (sym (whole_read bytes f1 n into new text same r room few e)) i) }

-- a file whose whole text is metadata
pub says_read : (f0 f1 : Option (List ℕ)) (m n : ℕ) (into new text : List ℕ) (p : Positions) → IsSomeAnd f0 (λ bytes. m ≡ length bytes) → f1 ≡ f0 → ReadsAt f1 0 into new (Got n) → length into ≡ 206 → n ≤ 205
    → text ≡ take n new → ReadsMeta text (Some p) → Says f0 p
says_read None f1 m n into new text p is same r room few e read = absurd is
says_read (Some bytes) f1 m n into new text p is same r room few e read =
    record { text = bytes; depth = read.0; there = refl; is = subst (λ (x : List ℕ). IsMeta x (record { depth = read.0; positions = p })) (whole_read bytes f1 n into new text same r room few e) read.1 }

-- the number of a data file is added
pub adds_number : (name file' file old new : List ℕ) (number : ℕ) (o : Option ℕ) → o ≡ Some number → NumbersFile name file' o → file' ≡ file → new ≡ old ++ number ∷ [] → AddsNumber name file old new
adds_number name file' file old new number None e is same added = let contra : None ≡ Some number = e in cc
adds_number name file' file old new number (Some n) e is same added =
    let here : n ≡ number = ap (λ (o : Option ℕ). unwrap_or o 0) e in
    record {
      keeps = λ k its. subst (λ (xs : List ℕ). Contains xs k) (sym added) (Contains-append_left old (number ∷ []) k its);
      adds = λ k small its.
          let number_is : k ≡ n = one_number name k n small is.0 (sym its ∙ sym same ∙ is.1) in
          subst (λ (xs : List ℕ). Contains xs k) (sym added) (subst (λ (j : ℕ). Contains (old ++ number ∷ []) j) (sym here ∙ sym number_is) (Contains-push old number));
    }

-- one file more is looked at
pub numbers_more : (files : List (String Global)) (i : ℕ) (file : String Global) (name text old new : List ℕ) → i < length files → file ≡ get_or files i file → text ≡ string_bytes file
    → HasNumbersOf (take i files) name old → AddsNumber name text old new → HasNumbersOf (take (i + 1) files) name new
numbers_more files i file name text old new inside here spelled has a k small its =
    let names : map string_bytes (take (i + 1) files) ≡ map string_bytes (take i files) ++ string_bytes file ∷ []
    = ap (map string_bytes) (take_more files i file inside ∙ ap (λ (f : String Global). take i files ++ f ∷ []) (sym here)) ∙ map-append string_bytes (take i files) (file ∷ []) in
    elim (Contains-push_cases (map string_bytes (take i files)) (string_bytes file) (data_file name k) (subst (λ (xs : List (List ℕ)). Contains xs (data_file name k)) names its)) [
      | inl before ↦ a.keeps k (has k small before)
      | inr same ↦ a.adds k small (spelled ∙ same)
    ]

pub numbers_all : (files : List (String Global)) (i : ℕ) (name numbers : List ℕ) → length files ≤ i → HasNumbersOf (take i files) name numbers → HasNumbersOf files name numbers
numbers_all files i name numbers past has k small its =
    has k small (subst (λ (fs : List (String Global)). Contains (map string_bytes fs) (data_file name k)) (sym (take_all i files past)) its)

-- each data file's name begins as those of all files of the queue
data_begins : (name : List ℕ) (k : ℕ) → BeginsWith (data_file name k) (file_beginning name)
data_begins name k =
    let front = file_beginning name in
    let digits = file_digits k in
    rw (append_assoc front digits (codes ".dat")) (take-append_seam front (digits ++ codes ".dat"))

-- the numbers among the files that the folder listed for the queue are those of its data files
pub numbers_listed : (files : Files) (name beginning numbers : List ℕ) (none all listed : List (String Global)) → beginning ≡ file_beginning name → none ≡ [] → listed ≡ all
    → AppendsListing files beginning none all → HasNumbersOf listed name numbers → HasNumbers files name numbers
numbers_listed files name beginning numbers none all listed begins empty same l has k small there =
    let whole : l.added ≡ listed = sym (same ∙ l.appended ∙ ap (λ (xs : List (String Global)). xs ++ l.added) empty) in
    let front : BeginsWith (data_file name k) beginning = subst (λ (b : List ℕ). BeginsWith (data_file name k) b) (sym begins) (data_begins name k) in
    let listing = l.listing in
    let among : Contains (map string_bytes l.added) (data_file name k) = (listing.each (data_file name k)).1 (there, front) in
    has k small (subst (λ (xs : List (String Global)). Contains (map string_bytes xs) (data_file name k)) whole among)

module _ (p : Positions) (walk : Walk) (u : IsUsable p) (f : WalkFits p walk) where
  order : p.read_file ≤ p.write_file
  order = file_order p u.ordered

  -- where the queue stands is in order and in range, and has room for its records
  pub record Sound (q : Positions) : Type 0 where
    pub ordered : IsOrdered q
    pub range : IsInRange q
    pub depth : walk.depth ≤ distance q.write_file q.write_at
    pub below : p.read_file ≤ q.read_file

  pub sound : (none read_bad write_bad : Bool) → (IsTrue none ↔ (walk.depth ≡ 0)) → (IsTrue read_bad ↔ Contains walk.bad.items p.read_file) → (IsTrue write_bad ↔ Contains walk.bad.items p.write_file)
      → Sound (settled p none read_bad write_bad)
  sound true read_bad true n r w =
      let range = u.range in
      let high = range.write_file in
      let few = n.0 refl in
      record {
        ordered = inr (refl, omega arith);
        range = record { read_file = omega arith; read_at = omega arith; write_file = omega arith; write_at = omega arith };
        depth = omega (arith, few);
        below = omega (arith, order, high);
      }
  sound true read_bad false n r w =
      let range = u.range in
      let high = range.write_file in
      let few = n.0 refl in
      record {
        ordered = inr (refl, omega arith);
        range = record { read_file = high; read_at = omega arith; write_file = high; write_at = omega arith };
        depth = omega (arith, few);
        below = order;
      }
  sound false true true n r w =
      let range = u.range in
      let high = range.write_file in
      let few = f.but_last (w.0 refl) in
      record {
        ordered = after;
        range = record { read_file = range.read_file; read_at = omega arith; write_file = omega arith; write_at = omega arith };
        depth = omega (arith, few, high);
        below = omega arith;
      }
    where
      after : IsOrdered (settled p false true true)
      after = elim (cases_lt p.read_file (min (p.write_file + 1) (2 ^ 40))) [
        | inl lt ↦ inl lt
        | inr past ↦ let range = u.range in let high = range.write_file in inr (omega (arith, past, order, high), omega arith)
      ]
  sound false true false n r w =
      let range = u.range in
      record {
        ordered = elim u.ordered [ inl lt ↦ inl lt | inr same ↦ inr (same.0, omega arith) ];
        range = record { read_file = range.read_file; read_at = omega arith; write_file = range.write_file; write_at = range.write_at };
        depth = f.depth;
        below = omega arith;
      }
  sound false false true n r w =
      let range = u.range in
      let high = range.write_file in
      let few = f.but_last (w.0 refl) in
      record {
        ordered = inl before;
        range = record { read_file = range.read_file; read_at = range.read_at; write_file = omega arith; write_at = omega arith };
        depth = omega (arith, few, high);
        below = omega arith;
      }
    where
      before : p.read_file < min (p.write_file + 1) (2 ^ 40)
      before = elim u.ordered [
        | inl lt ↦ let range = u.range in let high = range.write_file in omega (arith, lt, high)
        | inr same ↦ let contra : false ≡ true = r.1 (subst (λ (k : ℕ). Contains walk.bad.items k) (sym same.0) (w.0 refl)) in cc
      ]
  sound false false false n r w = record { ordered = u.ordered; range = u.range; depth = f.depth; below = omega arith }

  -- what is found makes a plan
  pub plan_sound : (plan : Plan) → plan.depth ≡ walk.depth → plan.bad.items ≡ walk.bad.items → plan.above ≡ p.write_file + 1 → plan.below ≡ p.read_file → IsSettled p walk.depth walk.bad.items plan.positions
      → IsPlan plan
  plan_sound plan d b above below s =
      let it : Sound plan.positions = subst (λ (q : Positions). Sound q) (sym s.is) (sound s.none s.read_bad s.write_bad s.empty s.read s.write) in
      let few = it.depth in
      let low = it.below in
      record {
        ordered = it.ordered;
        range = it.range;
        depth = omega (arith, d, few);
        below = omega (arith, below, low);
        apart = omega (arith, above, below, order);
        bad = λ k its. let h = f.within k (subst (λ (ns : List ℕ). Contains ns k) b its) in (omega (arith, h.0, below), omega (arith, h.1, above));
      }
