-- The file of names is read.
use Rattle.std.proofs.Common.{◌≡◌, ◌<◌, ℕ, ◌-◌, List, [], ◌++◌, length, take, drop, min, Bool, Option, Some, Result, Ok, Err, sym, ap, subst, ◌∙◌, arith}
use Rattle.std.specs.Prelude.{IfErr, IfOk, IsTrue, option_map, unwrap_or}
use Rattle.std.proofs.lemmas.List.{take_all, take_at}
use Rattle.nsq_outside.specs.Files.{Files, ReadsAt}
use Rattle.nsq_outside.specs.declared.folder.ReadAt.TheVariants.{Got}
use Rattle.path_image.specs.Data.{IsBadNames, IsNames, Kept, data_name, longest_data}
use Rattle.broker_floor.specs.Adding.{IsUnread, IsWhyUnread}
use Rattle.broker_floor.specs.Opening.{KeepsIn}
use Rattle.broker_floor.specs.Opening.KeepsIn.{written}
use Rattle.daemon_endings.specs.declared.ends.Why.{Why}
use Rattle.daemon_endings.specs.declared.ends.Why.TheVariants as why

-- a text that is too long keeps nothing
pub long_bad : (text : List ℕ) → longest_data < length text → IsBadNames text
long_bad text long kept names = absurd (let short = names.short in omega (arith, long, short))

-- the bytes of a whole file
pub read_whole : (file : Option (List ℕ)) (bytes old new : List ℕ) (n : ℕ) → file ≡ Some bytes → length old ≡ length bytes → ReadsAt file 0 old new (Got n) → take n new ≡ bytes
read_whole file bytes old new n is size reads =
    let whole : unwrap_or file [] ≡ bytes = ap (λ (o : Option (List ℕ)). unwrap_or o []) is in
    let count : n ≡ length bytes = reads.0 ∙ ap (λ (bs : List ℕ). min (length old) (length bs - 0)) whole ∙ omega (arith, size) in
    let all : take n (unwrap_or file []) ≡ bytes = ap (take n) whole ∙ take_all n bytes (omega (arith, count)) in
    ap (take n) (reads.1 ∙ ap (λ xs. xs ++ drop n old) all) ∙ take_at bytes (drop n old) n (sym count)

-- the text that was found
pub text_found : {V : Type 0} (items : V → List ℕ) (file : Option (List ℕ)) (found : Option V) (v : V) → file ≡ option_map items found → found ≡ Some v → file ≡ Some (items v)
text_found items file found v is some = subst (λ o. file ≡ option_map items o) some is

-- what is read of it
pub kept_read : (r : Result Kept Why) (files : Files) (text : List ℕ) → files data_name ≡ Some text → IfOk r (IsNames text) → IfOk r (KeepsIn files)
kept_read (Ok kept) files text is names = written text is names
kept_read (Err e) files text is names = tt

why_read : (reason : Why) (tells : Bool) (files : Files) (text : List ℕ) (before now : ℕ) → (IsTrue tells → files data_name ≡ Some text) → IsWhyUnread text reason → IsUnread reason tells files before now
why_read why.BadData tells files text before now is x = λ told. record { text = text; is = is told; bad = x }
why_read why.EpochSpent tells files text before now is x = x
why_read why.Fault tells files text before now is x = absurd x
why_read why.Memory tells files text before now is x = tt

pub kept_unread : (r : Result Kept Why) (tells : Bool) (files : Files) (text : List ℕ) (before now : ℕ) → (IsTrue tells → files data_name ≡ Some text) → IfErr r (λ e. IsWhyUnread text e) → IfErr r (λ e. IsUnread e tells files before now)
kept_unread (Ok kept) tells files text before now is x = tt
kept_unread (Err e) tells files text before now is x = why_read e tells files text before now is x
