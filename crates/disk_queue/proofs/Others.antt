-- The queues of a folder leave one another alone.
use Rattle.std.proofs.Common.{◌≡◌, ◌≢◌, ℕ, List, [], take, Option, unwrap_or, refl, ap, arith}
use Rattle.nsq_outside.specs.Files.{Files}
use Rattle.queue_image.specs.FileNames.{data_file, meta_file, IsOwnFile}
use Rattle.queue_image.specs.FileNames.IsOwnFile.{numbered, metadata}
use Rattle.queue_image.specs.FileNames.IsFileOf.{own}
use Rattle.queue_image.proofs.Naming.{one_queue}
use Rattle.disk_queue.specs.Seen.{Seen}
use Rattle.disk_queue.specs.Holding.{Holds, SaveStands, OwnChange}
use Rattle.disk_queue.proofs.Kept.{holds_kept, stands_kept}

pub holding_keeps : (q : Seen) (old new : Files) (bodies waiting : List (List ℕ)) → ((file : List ℕ) → IsOwnFile q.name file → new file ≡ old file)
    → Holds q old bodies waiting → Holds q new bodies waiting
holding_keeps q old new bodies waiting same h =
    let within = h.within in
    holds_kept q old new bodies waiting
    (record {
      earlier = λ k _ low. ap (λ (o : Option (List ℕ)). unwrap_or o []) (same (data_file q.name k) (numbered k (omega (arith, within)) refl));
      here = λ _. ap (λ (o : Option (List ℕ)). take q.staged.at (unwrap_or o [])) (same (data_file q.name q.staged.file) (numbered q.staged.file (omega (arith, within)) refl));
    })
    h

pub standing_keeps : (q : Seen) (old new : Files) → ((file : List ℕ) → IsOwnFile q.name file → new file ≡ old file) → SaveStands q old → SaveStands q new
standing_keeps q old new same s =
    let within = s.within in
    stands_kept q old new (same (meta_file q.name) (metadata refl)) (λ k low. same (data_file q.name k) (numbered k (omega (arith, within)) refl)) s

pub others_stay : (name other : List ℕ) (old new : Files) → other ≢ name → OwnChange name old new → (file : List ℕ) → IsOwnFile other file → new file ≡ old file
others_stay name other old new apart change file its = change file (λ of. apart (one_queue other name file (own its) (own of)))
