-- What a sweep leaves as it was, and what is not there afterwards.
use Rattle.std.proofs.Common.{◌≡◌, ◌≢◌, ℕ, ◌<◌, ◌≤◌, List, length, codes, refl, sym, ◌∙◌, ap, subst, inl, inr, arith, length-append}
use Rattle.std.proofs.lemmas.List.{append_cancel_right}
use Rattle.nsq_outside.specs.Files.{Files}
use Rattle.queue_image.specs.FileNames.{data_file, meta_file, set_aside, IsQueueName, IsOwnFile, IsFileOf}
use Rattle.queue_image.specs.FileNames.IsFileOf.{own, aside}
use Rattle.queue_image.specs.Finds as queue
use Rattle.queue_image.proofs.Naming.{one_queue, aside_apart, long_name}
use Rattle.queue_image.proofs.Keeping.{finding_keeps}
use Rattle.path_image.specs.Data.{KeptTopic}
use Rattle.path_image.specs.Found.{IsFoundQueue, least_record, longest_record}
use Rattle.queue_sweep.specs.Swept.{IsListedQueue, IsUnlisted, IsSweptTo, HasOnlyListed, HasNoFiles}
use Rattle.queue_sweep.proofs.Colons.{own_file}

-- a file of a listed queue is no unlisted one
listed_apart : (topics : List KeptTopic) (name file : List ℕ) → IsListedQueue topics name → IsFileOf name file → IsUnlisted topics file → ⊥
listed_apart topics name file l f u =
    u.absent (subst (λ (x : List ℕ). IsListedQueue topics x) (one_queue name u.queue.name file f (own (own_file u.queue.name file u.queue.form))) l)

-- and none that an unlisted one becomes
not_made : (topics : List KeptTopic) (name file other : List ℕ) → IsListedQueue topics name → IsFileOf name file → IsUnlisted topics other → file ≢ set_aside other
not_made topics name file other l (own o) u e = aside_apart name other file o e
not_made topics name file other l (aside bad o is) u e = listed_apart topics name other l (own (subst (λ (f : List ℕ). IsOwnFile name f) (append_cancel_right bad other (codes ".bad") (sym is ∙ e)) o)) u

pub files_stay : (topics : List KeptTopic) (old new : Files) (name file : List ℕ) → IsSweptTo topics old new → IsListedQueue topics name → IsFileOf name file → new file ≡ old file
files_stay topics old new name file s l f = s.others file (listed_apart topics name file l f) (λ other u. not_made topics name file other l f u)

own_files_stay : (topics : List KeptTopic) (old new : Files) (name : List ℕ) → IsSweptTo topics old new → IsListedQueue topics name → (file : List ℕ) → IsOwnFile name file → new file ≡ old file
own_files_stay topics old new name s l file o = files_stay topics old new name file s l (own o)

pub queue_stays : (topics : List KeptTopic) (old new : Files) (name : List ℕ) (found : queue.Finding) → IsSweptTo topics old new → IsListedQueue topics name → IsFoundQueue old name found → IsFoundQueue new name found
queue_stays topics old new name found s l h = finding_keeps least_record longest_record old new name found (own_files_stay topics old new name s l) h

-- an unlisted file has a long name
long_unlisted : (topics : List KeptTopic) (file : List ℕ) → IsUnlisted topics file → 19 ≤ length file
long_unlisted topics file u = long_name u.queue.name file (own (own_file u.queue.name file u.queue.form))

pub short_stays : (topics : List KeptTopic) (old new : Files) (file : List ℕ) → IsSweptTo topics old new → length file < 19 → new file ≡ old file
short_stays topics old new file s short =
    s.others file (λ u. omega (arith, long_unlisted topics file u)) (λ other u e. omega (arith, long_unlisted topics other u, ap length e, length-append other (codes ".bad")))

-- an unlisted queue has no file
pub no_files : (topics : List KeptTopic) (files : Files) (name : List ℕ) → HasOnlyListed topics files → IsQueueName name → ¬ IsListedQueue topics name → HasNoFiles files name
no_files topics files name only named absent = record {
  meta = only (meta_file name) (record { queue = record { name = name; queue = named; form = inr refl }; absent = absent });
  data_files = λ n small. only (data_file name n) (record { queue = record { name = name; queue = named; form = inl (n, small, refl) }; absent = absent });
}
