-- What an opening of a topic's queues leaves to be found.
use Rattle.std.proofs.Common.{◌≡◌, ◌≢◌, ◌⊎◌, inl, inr, ℕ, ◌+◌, ◌<◌, Bool, true, false, List, [], ◌∷◌, ◌++◌, take, drop, get_or, length, refl, sym, ap, subst, ◌∙◌, arith}
use Rattle.std.proofs.lemmas.List.{take-append-drop}
use Rattle.std.specs.List.{All}
use Rattle.std.specs.Str.{bytes_eq}
use Rattle.std.proofs.lemmas.List.Elements.{All-nil, All-push, All-weaker}
use Rattle.nsq_outside.specs.Files.{Files, SameFiles}
use Rattle.queue_image.specs.FileNames.{IsFileOf}
use Rattle.queue_image.specs.Finds.{BadMeta, Finding, IsFound, Records}
use Rattle.queue_image.proofs.Keeping.{finding_keeps}
use Rattle.queue_image.proofs.Walking.{one_finding}
use Rattle.queue_opening.specs.Again.{FindsSameList}
use Rattle.queue_opening.specs.declared.refusal.Open.{Open}
use Rattle.queue_opening.specs.declared.refusal.Open.TheVariants.{Fault, BadMeta as IsBadMeta, Memory}
use Rattle.disk_queue.specs.Opened.{FilesOfChange}
use Rattle.backlog.specs.Lists.{IsFoundAgain, OpenRefused}
use Rattle.backlog.specs.Seen.{longest_body}
use Rattle.broker_history.proofs.Lists.{exact_bytes}
use Rattle.topic_core.proofs.Keeping.{opening_stays}
use Rattle.channel_core.specs.Seen.{queue_name}
use Rattle.floor_files.specs.Opened.{BadStays, FindsBack, FindsQueue, FindsThem, IsBad, LeavesFound, ListsStay, NoneIsBad, OnlyChannelFiles}
use Rattle.floor_files.proofs.Parting.{all_front, all_last, name_apart}
use Rattle.floor_files.proofs.Joining.{taken_next}

names_tell : (a b : List ℕ) (e : Bool) → bytes_eq a b ≡ e → (a ≡ b) ⊎ (a ≢ b)
names_tell a b true e = inl (exact_bytes a b e)
names_tell a b false e = inr (name_apart a b e)

-- no file changed
pub list_same : (name : List ℕ) (old new : Files) → SameFiles old new → FindsSameList 26 (26 + longest_body) name old new
list_same name old new same = λ bodies bad found. record { bad = bad; found = finding_keeps 26 (26 + longest_body) old new name (Records bodies bad) (λ file its. same file) found }

pub lists_same : (files : Files) → ListsStay files files
lists_same files = λ name bodies bad found. record { bad = bad; found = found }

-- one change after the other
pub lists_then : (f0 f1 f2 : Files) → ListsStay f0 f1 → ListsStay f1 f2 → ListsStay f0 f2
lists_then f0 f1 f2 a b = λ name bodies bad found. let first = a name bodies bad found in b name bodies first.bad first.found

pub bad_then : (f0 f1 f2 : Files) → BadStays f0 f1 → BadStays f1 f2 → BadStays f0 f2
bad_then f0 f1 f2 a b = λ name bad. b name (a name bad)

pub back_then : (f0 f1 f2 : Files) → FindsBack f0 f1 → FindsBack f1 f2 → FindsBack f0 f2
back_then f0 f1 f2 a b = λ name found. a name (b name found)

bodies_of : Finding → List (List ℕ)
bodies_of BadMeta = []
bodies_of (Records bodies bad) = bodies

-- a queue whose list is found again
module _ (name : List ℕ) (old new : Files) (again : IsFoundAgain name old new) where
  pub list_again : FindsSameList 26 (26 + longest_body) name old new
  unfolding bodies_of
  list_again bodies bad found =
      let same : again.bodies ≡ bodies = ap bodies_of (one_finding 26 (26 + longest_body) old name (Records again.bodies again.bad) (Records bodies bad) (omega arith) again.found found) in
      record { bad = []; found = subst (λ bs. IsFound 26 (26 + longest_body) new name (Records bs [])) same again.again }

  pub found_before : FindsQueue old name
  found_before = record { bodies = again.bodies; bad = again.bad; found = again.found }

  pub not_bad : IsBad old name → ⊥
  not_bad bad = absurd (let same : BadMeta ≡ Records again.bodies again.bad = one_finding 26 (26 + longest_body) old name BadMeta (Records again.bodies again.bad) (omega arith) bad again.found in cc)

-- one whose opening was refused
pub list_refused : (name : List ℕ) (old new : Files) (why : Open) → OpenRefused name old new why → FindsSameList 26 (26 + longest_body) name old new
list_refused name old new Fault same = same
list_refused name old new IsBadMeta bad = list_same name old new bad.same
list_refused name old new Memory same = list_same name old new same

-- other queues are as they were
module _ (changed : List ℕ) (old new : Files) (change : FilesOfChange changed old new) where
  pub lists_stay : FindsSameList 26 (26 + longest_body) changed old new → ListsStay old new
  lists_stay same name bodies bad found = elim (names_tell changed name (bytes_eq changed name) refl) [
    | inl is ↦ let own : FindsSameList 26 (26 + longest_body) name old new = subst (λ n. FindsSameList 26 (26 + longest_body) n old new) is same in own bodies bad found
    | inr apart ↦ record { bad = bad; found = finding_keeps 26 (26 + longest_body) old new name (Records bodies bad) (opening_stays name changed old new apart change) found }
  ]

  pub bad_stays : (IsBad old changed → ⊥) → BadStays old new
  bad_stays good name bad = elim (names_tell changed name (bytes_eq changed name) refl) [
    | inl is ↦ absurd (good (subst (IsBad old) (sym is) bad))
    | inr apart ↦ finding_keeps 26 (26 + longest_body) old new name BadMeta (opening_stays name changed old new apart change) bad
  ]

  pub back_stays : FindsQueue old changed → FindsBack old new
  back_stays own name found = elim (names_tell changed name (bytes_eq changed name) refl) [
    | inl is ↦ subst (FindsQueue old) is own
    | inr apart ↦ record {
      bodies = found.bodies;
      bad = found.bad;
      found = finding_keeps 26 (26 + longest_body) new old name (Records found.bodies found.bad) (λ file its. sym (opening_stays name changed old new apart change file its)) found.found;
    }
  ]

pub lists_opened : (changed : List ℕ) (old new : Files) → FilesOfChange changed old new → IsFoundAgain changed old new → ListsStay old new
lists_opened changed old new change again = lists_stay changed old new change (list_again changed old new again)

pub lists_refused : (changed : List ℕ) (old new : Files) (why : Open) → FilesOfChange changed old new → OpenRefused changed old new why → ListsStay old new
lists_refused changed old new why change refused = lists_stay changed old new change (list_refused changed old new why refused)

pub bad_opened : (changed : List ℕ) (old new : Files) → FilesOfChange changed old new → IsFoundAgain changed old new → BadStays old new
bad_opened changed old new change again = bad_stays changed old new change (not_bad changed old new again)

pub back_opened : (changed : List ℕ) (old new : Files) → FilesOfChange changed old new → IsFoundAgain changed old new → FindsBack old new
back_opened changed old new change again = back_stays changed old new change (found_before changed old new again)

-- none was opened yet
pub leaves_none : (topic : List ℕ) (files : Files) → LeavesFound topic [] files files
leaves_none topic files = record {
  again = lists_same files;
  good = All-nil (λ (c : List ℕ × Bool). IsBad files (queue_name topic c.0) → ⊥);
  bad = λ name bad. bad;
  finds = All-nil (λ (c : List ℕ × Bool). FindsQueue files (queue_name topic c.0));
  back = λ name found. found;
  only = λ file others. refl;
}

-- one more was
pub leaves_one : (topic : List ℕ) (done : List (List ℕ × Bool)) (c : List ℕ × Bool) (f0 f1 f2 : Files) → LeavesFound topic done f0 f1 → FilesOfChange (queue_name topic c.0) f1 f2 → IsFoundAgain (queue_name topic c.0) f1 f2 → LeavesFound topic (done ++ c ∷ []) f0 f2
leaves_one topic done c f0 f1 f2 h change again = record {
  again = lists_then f0 f1 f2 h.again (lists_opened (queue_name topic c.0) f1 f2 change again);
  good = All-push (λ (d : List ℕ × Bool). IsBad f0 (queue_name topic d.0) → ⊥) done c h.good (λ bad. not_bad (queue_name topic c.0) f1 f2 again (h.bad (queue_name topic c.0) bad));
  bad = bad_then f0 f1 f2 h.bad (bad_opened (queue_name topic c.0) f1 f2 change again);
  finds = All-push (λ (d : List ℕ × Bool). FindsQueue f0 (queue_name topic d.0)) done c h.finds (h.back (queue_name topic c.0) (found_before (queue_name topic c.0) f1 f2 again));
  back = back_then f0 f1 f2 h.back (back_opened (queue_name topic c.0) f1 f2 change again);
  only = λ file others. change file (all_last (λ (d : List ℕ × Bool). IsFileOf (queue_name topic d.0) file → ⊥) done c others) ∙ h.only file (all_front (λ (d : List ℕ × Bool). IsFileOf (queue_name topic d.0) file → ⊥) done (c ∷ []) others);
}

-- the opening of the next one changes its files alone, whatever its answer
pub only_next : (topic : List ℕ) (xs : List (List ℕ × Bool)) (i : ℕ) (c : List ℕ × Bool) (f0 f1 f2 : Files) → i < length xs → c ≡ get_or xs i c → OnlyChannelFiles topic (take i xs) f0 f1 → FilesOfChange (queue_name topic c.0) f1 f2 → OnlyChannelFiles topic xs f0 f2
only_next topic xs i c f0 f1 f2 l is only change file others =
    let P : List ℕ × Bool → Type 0 = λ d. IsFileOf (queue_name topic d.0) file → ⊥ in
    let both : All P ((take i xs ++ c ∷ []) ++ drop (i + 1) xs) = subst (All P) (sym (take-append-drop (i + 1) xs) ∙ ap (λ ys. ys ++ drop (i + 1) xs) (taken_next xs i c l is)) others in
    let front : All P (take i xs ++ c ∷ []) = all_front P (take i xs ++ c ∷ []) (drop (i + 1) xs) both in
    change file (all_last P (take i xs) c front) ∙ only file (all_front P (take i xs) (c ∷ []) front)

-- what stands where only some of them were opened
pub only_some : (topic : List ℕ) (xs : List (List ℕ × Bool)) (i : ℕ) (f0 f1 : Files) → OnlyChannelFiles topic (take i xs) f0 f1 → OnlyChannelFiles topic xs f0 f1
only_some topic xs i f0 f1 only file others =
    let P : List ℕ × Bool → Type 0 = λ d. IsFileOf (queue_name topic d.0) file → ⊥ in
    only file (all_front P (take i xs) (drop i xs) (subst (All P) (sym (take-append-drop i xs)) others))

-- the topic's own queue was opened before them
pub none_bad : (topic : List ℕ) (channels : List (List ℕ × Bool)) (f0 f1 f2 : Files) → FilesOfChange topic f0 f1 → IsFoundAgain topic f0 f1 → LeavesFound topic channels f1 f2 → NoneIsBad topic channels f0
none_bad topic channels f0 f1 f2 change again leaves = record {
  own = not_bad topic f0 f1 again;
  channels = All-weaker (λ (c : List ℕ × Bool). IsBad f1 (queue_name topic c.0) → ⊥) (λ (c : List ℕ × Bool). IsBad f0 (queue_name topic c.0) → ⊥) (λ c good bad. good (bad_opened topic f0 f1 change again (queue_name topic c.0) bad)) channels leaves.good;
}

pub finds_them : (topic : List ℕ) (channels : List (List ℕ × Bool)) (f0 f1 f2 : Files) → FilesOfChange topic f0 f1 → IsFoundAgain topic f0 f1 → LeavesFound topic channels f1 f2 → FindsThem topic channels f0
finds_them topic channels f0 f1 f2 change again leaves = record {
  own = found_before topic f0 f1 again;
  channels = All-weaker (λ (c : List ℕ × Bool). FindsQueue f1 (queue_name topic c.0)) (λ (c : List ℕ × Bool). FindsQueue f0 (queue_name topic c.0)) (λ c found. back_opened topic f0 f1 change again (queue_name topic c.0) found) channels leaves.finds;
}
