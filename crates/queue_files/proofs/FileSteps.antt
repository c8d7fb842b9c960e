-- What calls on the files of a queue do together.
use Rattle.std.proofs.Common.{◌≡◌, ◌≢◌, ℕ, ◌+◌, ◌^◌, ◌<◌, ◌≤◌, List, [], ◌∷◌, ◌++◌, length, take, Option, Some, IsSome, unwrap_or, refl, sym, ◌∙◌, ap, subst, inl, inr, arith, append_assoc}
use Rattle.std.proofs.lemmas.List.{append-nil}
use Rattle.std.proofs.Math.Seq.{drop-nil}
use Rattle.nsq_outside.specs.Files.{Files, SameFiles, OnlyChanges, Cuts, WritesAt, Renames, IsRenamed, IsTorn, written_at}
use Rattle.nsq_outside.specs.declared.did.Did.{Did}
use Rattle.nsq_outside.specs.declared.did.Did.TheVariants.{Done, Failed}
use Rattle.queue_image.specs.FileNames.{data_file}
use Rattle.queue_image.proofs.Naming.{one_number}
use Rattle.queue_files.specs.FileCalls.{WritesBoth}
use Rattle.queue_files.specs.Replaced.{Writes, Replaces, OnlyTwoChange}
use Rattle.queue_files.proofs.WrittenBytes.{take-written, length-written, written-both, torn-keeps, take-less}

-- a failed write of the bytes leaves what stands before the size
second_failed : (old mid new : List ℕ) (at n : ℕ) (size : List ℕ) → length size ≡ 4 → mid ≡ written_at old at size → IsTorn mid new (at + 4) n → at ≤ length old → take at new ≡ take at old
second_failed old mid new at n size four is torn inside =
    let long : at + 4 ≤ length mid = omega (arith, ap length is, length-written old at size, four) in
    take-less mid new at (at + 4) (omega arith) (torn-keeps mid new (at + 4) n torn long) ∙ ap (take at) is ∙ take-written old at size inside

-- the size of a record is written, and then its bytes
pub both_written : (f0 f1 f2 : Files) (name : List ℕ) (at : ℕ) (size from : List ℕ) (did : Did) → length size ≡ 4 → WritesAt (f0 name) (f1 name) at size Done → WritesAt (f1 name) (f2 name) (at + 4) from did
    → WritesBoth (f0 name) (f2 name) at size from did
both_written f0 f1 f2 name at size from Done four a b =
    b ∙ ap (λ (o : Option (List ℕ)). Some (written_at (unwrap_or o []) (at + 4) from)) a
    ∙ ap (λ (n : ℕ). Some (written_at (written_at (unwrap_or (f0 name) []) at size) (at + n) from)) (sym four) ∙ ap (λ (x : List ℕ). Some x) (written-both (unwrap_or (f0 name) []) at size from)
both_written f0 f1 f2 name at size from Failed four a b =
    second_failed (unwrap_or (f0 name) []) (unwrap_or (f1 name) []) (unwrap_or (f2 name) []) at (length from) size four (ap (λ (o : Option (List ℕ)). unwrap_or o []) a) b.1

-- a data file and the next one
pub next_apart : (name : List ℕ) (n : ℕ) → n < 2 ^ 60 → data_file name (n + 1) ≢ data_file name n
next_apart name n small e = omega (arith, one_number name (n + 1) n (omega arith) (omega arith) e)

-- a file that was cut stays so when the next one is cut
pub roll_ended : (name : List ℕ) (n at : ℕ) (f0 f1 f2 f3 : Files) (did : Did) → n < 2 ^ 60 → Cuts (f0 (data_file name n)) (f1 (data_file name n)) at Done → SameFiles f1 f2
    → OnlyChanges f2 f3 (data_file name (n + 1)) → Cuts (f0 (data_file name n)) (f3 (data_file name n)) at did
roll_ended name n at f0 f1 f2 f3 Done small c s o = o (data_file name n) (λ e. next_apart name n small (sym e)) ∙ s (data_file name n) ∙ c
roll_ended name n at f0 f1 f2 f3 Failed small c s o = inr (o (data_file name n) (λ e. next_apart name n small (sym e)) ∙ s (data_file name n) ∙ c)

-- and the next one is cut as it was
pub roll_next : (name : List ℕ) (n : ℕ) (f0 f1 f2 f3 : Files) (did : Did) → n < 2 ^ 60 → OnlyChanges f0 f1 (data_file name n) → SameFiles f1 f2
    → Cuts (f2 (data_file name (n + 1))) (f3 (data_file name (n + 1))) 0 did → Cuts (f0 (data_file name (n + 1))) (f3 (data_file name (n + 1))) 0 did
roll_next name n f0 f1 f2 f3 did small o s c =
    let file = data_file name (n + 1) in
    subst (λ (x : Option (List ℕ)). Cuts x (f3 file) 0 did) (s file ∙ o file (next_apart name n small)) c

-- a number and a byte behind a text, and more behind them
text_step : (x x' a rest : List ℕ) (s : ℕ) → x' ≡ x ++ a ++ s ∷ [] → x' ++ rest ≡ x ++ (a ++ s ∷ rest)
text_step x x' a rest s e = ap (λ (y : List ℕ). y ++ rest) e ∙ append_assoc (x ++ a) (s ∷ []) rest ∙ append_assoc x a (s ∷ rest)

-- five numbers, each with its byte
pub text_parts : (x0 x1 x2 x3 x4 x5 a b c d e : List ℕ) (p q r s t : ℕ) → x0 ≡ [] → x1 ≡ x0 ++ a ++ p ∷ [] → x2 ≡ x1 ++ b ++ q ∷ [] → x3 ≡ x2 ++ c ++ r ∷ [] → x4 ≡ x3 ++ d ++ s ∷ []
    → x5 ≡ x4 ++ e ++ t ∷ [] → x5 ≡ a ++ p ∷ (b ++ q ∷ (c ++ r ∷ (d ++ s ∷ (e ++ t ∷ []))))
text_parts x0 x1 x2 x3 x4 x5 a b c d e p q r s t e0 e1 e2 e3 e4 e5 =
    e5 ∙ append_assoc x4 e (t ∷ []) ∙ text_step x3 x4 d (e ++ t ∷ []) s e4 ∙ text_step x2 x3 c (d ++ s ∷ (e ++ t ∷ [])) r e3 ∙ text_step x1 x2 b (c ++ r ∷ (d ++ s ∷ (e ++ t ∷ []))) q e2
    ∙ text_step x0 x1 a (b ++ q ∷ (c ++ r ∷ (d ++ s ∷ (e ++ t ∷ [])))) p e1 ∙ ap (λ (x : List ℕ). x ++ (a ++ p ∷ (b ++ q ∷ (c ++ r ∷ (d ++ s ∷ (e ++ t ∷ [])))))) e0

-- a file that was cut to nothing and then written has these bytes
pub written_anew : (f0 f1 f2 f3 : Files) (name from : List ℕ) (did : Did) → Cuts (f0 name) (f1 name) 0 Done → WritesAt (f1 name) (f2 name) 0 from Done → SameFiles f2 f3 → Writes (f3 name) from did
written_anew f0 f1 f2 f3 name from Done c w s =
    s name ∙ w ∙ ap (λ (o : Option (List ℕ)). Some (written_at (unwrap_or o []) 0 from)) c ∙ ap (λ (x : List ℕ). Some (from ++ x)) (drop-nil (0 + length from)) ∙ ap (λ (x : List ℕ). Some x) (append-nil from)
written_anew f0 f1 f2 f3 name from Failed c w s = tt

-- a file that was renamed is so in a folder with the same files
renamed_there : (f0 f1 f2 : Files) (from to : List ℕ) → IsRenamed f0 f1 from to → SameFiles f1 f2 → IsRenamed f0 f2 from to
renamed_there f0 f1 f2 from to r s = record {
  absent = λ none other. s other ∙ r.absent none other;
  moved = λ there. s to ∙ r.moved there;
  gone = λ there apart. s from ∙ r.gone there apart;
  others = λ other first second. s other ∙ r.others other first second;
}

pub renames_there : (f0 f1 f2 : Files) (from to : List ℕ) (did : Did) → IsRenamed f0 f1 from to → SameFiles f1 f2 → Renames f0 f2 from to did
renames_there f0 f1 f2 from to Done r s = renamed_there f0 f1 f2 from to r s
renames_there f0 f1 f2 from to Failed r s = inr (renamed_there f0 f1 f2 from to r s)

-- a file is replaced by way of its temporary
pub replaces_by : (f0 f1 f2 : Files) (name temp bytes : List ℕ) (did : Did) → temp ≢ name → Writes (f1 temp) bytes Done → OnlyChanges f0 f1 temp → Renames f1 f2 temp name did → Replaces f0 f2 name temp bytes did
replaces_by f0 f1 f2 name temp bytes Done apart w o r =
    let there = subst IsSome (sym w) refl in
    (r.moved there ∙ w, r.gone there apart)
replaces_by f0 f1 f2 name temp bytes Failed apart w o (inl s) = inl (s name ∙ o name (λ e. apart (sym e)))
replaces_by f0 f1 f2 name temp bytes Failed apart w o (inr r) = inr (r.moved (subst IsSome (sym w) refl) ∙ w)

pub replaces_others : (f0 f1 f2 : Files) (name temp : List ℕ) (did : Did) → OnlyChanges f0 f1 temp → Renames f1 f2 temp name did → OnlyTwoChange f0 f2 name temp
replaces_others f0 f1 f2 name temp Done o r = λ other first second. r.others other second first ∙ o other second
replaces_others f0 f1 f2 name temp Failed o (inl s) = λ other first second. s other ∙ o other second
replaces_others f0 f1 f2 name temp Failed o (inr r) = λ other first second. r.others other second first ∙ o other second
