-- How many messages are found in a folder, from what is read in it.
use Rattle.std.proofs.Common.{◌≡◌, ℕ, ◌+◌, ◌<◌, List, [], ◌∷◌, ◌++◌, length, take, get_or, suc, Option, Some, None, ap, sym, ◌∙◌, subst, refl, arith, length-append, zero}
use Rattle.std.specs.Prelude.{MatchOption, sum_by}
use Rattle.std.proofs.lemmas.Option.{none-some, same_Some}
use Rattle.std.proofs.lemmas.List.{take_more}
use Rattle.std.proofs.lemmas.List.Sums.{sum_by-append}
use Rattle.nsq_outside.specs.Files.{Files}
use Rattle.queue_image.specs.Finds.{BadMeta, Finding, IsBadFile, IsGoodFile, Records, Walks}
use Rattle.queue_image.specs.Finds.Walks.{good, passes, starts}
use Rattle.queue_image.specs.declared.positions.Positions.{Positions}
use Rattle.queue_image.proofs.Walking.{one_finding}
use Rattle.path_image.specs.Data.{IsBadNames, IsNames, Kept, KeptChannel, KeptTopic, data_name}
use Rattle.path_image.specs.Found as path
use Rattle.path_image.specs.Found.{FindsChannel, FindsTopic, Found, FoundChannel, FoundTopic, HasMessages, IsFound, IsFoundQueue, Names, Pairwise, least_record, longest_record}
use Rattle.path_image.specs.Found.IsFound.{bad_queue, fresh, names, spent, spoilt}
use Rattle.path_image.proofs.FindingOnce.{names_once}
use Rattle.drill_parts.specs.Left.{CountsAll, CountsChannels, CountsQueue, CountsTopic, FindsNoNames, GivesSo, HasNoList, WalksOver, messages_in, messages_of, messages_within}
use Rattle.drill_parts.specs.Left.GivesSo.{good as gives_good, bad as gives_bad}

module _ {X Y : Type 0} (R : X → Y → Type 0) where
  -- lists with an element each for each other are equally long
  pub pair_length : (xs : List X) (ys : List Y) → Pairwise R xs ys → length xs ≡ length ys
  pair_length [] [] p = refl
  pair_length [] (y ∷ ys) p = absurd p
  pair_length (x ∷ xs) [] p = absurd p
  pair_length (x ∷ xs) (y ∷ ys) p = ap suc (pair_length xs ys p.1)

  -- what stands beside the element at a place
  pub pair_at : (xs : List X) (ys : List Y) (i : ℕ) (d : X) → i < length xs → Pairwise R xs ys → (y : Y) × R (get_or xs i d) y
  pair_at [] ys i d l p = absurd (omega (arith, l))
  pair_at (x ∷ xs) [] i d l p = absurd p
  pair_at (x ∷ xs) (y ∷ ys) zero d l p = (y, p.0)
  pair_at (x ∷ xs) (y ∷ ys) (suc i) d l p = pair_at xs ys i d (omega (arith, l)) p.1

  -- what stands beside a list with one more at its end
  pub record Ends (xs : List X) (x : X) (ys : List Y) : Type 0 where
    pub front : List Y
    pub last : Y
    pub whole : ys ≡ front ++ last ∷ []
    pub pairs : Pairwise R xs front
    pub end : R x last

  ends_more : (z : X) (w : Y) (xs : List X) (x : X) (ys : List Y) → R z w → Ends xs x ys → Ends (z ∷ xs) x (w ∷ ys)
  ends_more z w xs x ys r e = record { front = w ∷ e.front; last = e.last; whole = ap (λ l. w ∷ l) e.whole; pairs = (r, e.pairs); end = e.end }

  ends_one : (x : X) (y : Y) (ys : List Y) → R x y → Pairwise R [] ys → Ends [] x (y ∷ ys)
  ends_one x y [] r p = record { front = []; last = y; whole = refl; pairs = tt; end = r }
  ends_one x y (w ∷ ys) r p = absurd p

  pub ends_so : (xs : List X) (x : X) (ys : List Y) → Pairwise R (xs ++ x ∷ []) ys → Ends xs x ys
  ends_so [] x [] p = absurd p
  ends_so [] x (y ∷ ys) p = ends_one x y ys p.0 p.1
  ends_so (z ∷ xs) x [] p = absurd p
  ends_so (z ∷ xs) x (w ∷ ys) p = ends_more z w xs x ys p.0 (ends_so xs x ys p.1)

  -- one more is counted
  pub counts_next : (size : Y → ℕ) (xs : List X) (i : ℕ) (d x : X) (sum more new : ℕ) → i < length xs → x ≡ get_or xs i d → ((ys : List Y) → Pairwise R (take i xs) ys → sum ≡ sum_by size ys)
      → ((y : Y) → R x y → more ≡ size y) → new ≡ sum + more → (ys : List Y) → Pairwise R (take (i + 1) xs) ys → new ≡ sum_by size ys
  counts_next size xs i d x sum more new l here counted one e ys p =
      let parts = ends_so (take i xs) (get_or xs i d) ys (subst (λ zs. Pairwise R zs ys) (take_more xs i d l) p) in
      let last : more ≡ size parts.last = one parts.last (subst (λ z. R z parts.last) (sym here) parts.end) in
      let single : sum_by size (parts.last ∷ []) ≡ size parts.last = omega arith in
      let total : sum_by size ys ≡ sum_by size parts.front + sum_by size (parts.last ∷ []) = ap (sum_by size) parts.whole ∙ sum_by-append size parts.front (parts.last ∷ []) in
      omega (arith, e, counted parts.front parts.pairs, last, single, total)

  -- none is found
  pub none_at : (xs : List X) (i : ℕ) (d x : X) → i < length xs → x ≡ get_or xs i d → ((y : Y) → R x y → ⊥) → (ys : List Y) → Pairwise R xs ys → ⊥
  none_at xs i d x l here none ys p = let at = pair_at xs ys i d l p in none at.0 (subst (λ z. R z at.0) (sym here) at.1)

-- the bodies that are found
abbrev bodies_in : Finding → List (List ℕ)
bodies_in BadMeta = []
bodies_in (Records bodies bad) = bodies

module _ (files : Files) where
  -- where the metadata is bad there is no list
  pub bad_queue_none : (name : List ℕ) → IsFoundQueue files name BadMeta → HasNoList files name
  bad_queue_none name b messages h =
      let same : BadMeta ≡ Records h.bodies h.bad = one_finding least_record longest_record files name BadMeta (Records h.bodies h.bad) (omega arith) b h.queue in cc

  -- what a queue's records count
  pub queue_counts : (name : List ℕ) (bodies : List (List ℕ)) (bad : List ℕ) (n : ℕ) → IsFoundQueue files name (Records bodies bad) → n ≡ length bodies → CountsQueue files name n
  queue_counts name bodies bad n f e messages h =
      let same : Records bodies bad ≡ Records h.bodies h.bad = one_finding least_record longest_record files name (Records bodies bad) (Records h.bodies h.bad) (omega arith) f h.queue in
      let one : bodies ≡ h.bodies = ap bodies_in same in
      e ∙ ap length one ∙ pair_length _ h.bodies messages h.records

  -- a topic counts what its queue and its channels do
  pub topic_counts : (kept : KeptTopic) (name : List ℕ) (channels : List KeptChannel) (own theirs n : ℕ) → kept.name ≡ name → kept.channels ≡ channels → CountsQueue files name own
      → CountsChannels files name channels theirs → n ≡ own + theirs → CountsTopic files kept n
  topic_counts kept name channels own theirs n a b c d e found f =
      let mine : own ≡ length found.messages = c found.messages (subst (λ q. HasMessages files q found.messages) a f.messages) in
      let rest : theirs ≡ messages_within found.channels
      = d found.channels (subst (λ q. Pairwise (FindsChannel files q) channels found.channels) a (subst (λ ks. Pairwise (FindsChannel files kept.name) ks found.channels) b f.channels)) in
      e ∙ rw (mine, rest) refl

  pub topic_none : (kept : KeptTopic) (name : List ℕ) → kept.name ≡ name → HasNoList files name → (found : FoundTopic) → FindsTopic files kept found → ⊥
  topic_none kept name a none found f = none found.messages (subst (λ q. HasMessages files q found.messages) a f.messages)

  pub channels_none : (kept : KeptTopic) (name : List ℕ) (channels : List KeptChannel) → kept.name ≡ name → kept.channels ≡ channels
      → ((found : List FoundChannel) → Pairwise (FindsChannel files name) channels found → ⊥) → (found : FoundTopic) → FindsTopic files kept found → ⊥
  channels_none kept name channels a b none found f =
      none found.channels (subst (λ q. Pairwise (FindsChannel files q) channels found.channels) a (subst (λ ks. Pairwise (FindsChannel files kept.name) ks found.channels) b f.channels))

  -- so many messages, if names are found
  abbrev CountsIn : ℕ → path.Finding → Type 0
  CountsIn n path.BadData = Unit {0}
  CountsIn n path.EpochSpent = Unit {0}
  CountsIn n (path.Names found) = n ≡ messages_in found

  none_here : {X : Type 0} (o : Option (List ℕ)) (t : List ℕ) → o ≡ None → o ≡ Some t → X
  none_here o t a b = absurd (none-some t (sym a ∙ b))

  same_kept : (s t : List ℕ) (j k : Kept) → files data_name ≡ Some s → files data_name ≡ Some t → IsNames s j → IsNames t k → j ≡ k
  same_kept s t j k e f i h = names_once t j k (subst (λ x. IsNames x j) (same_Some s t (sym e ∙ f)) i) h

  counted_by : (n : ℕ) (j k : Kept) (founds : List FoundTopic) → j ≡ k → ((ts : List FoundTopic) → Pairwise (FindsTopic files) k.topics ts → n ≡ sum_by messages_of ts)
      → Pairwise (FindsTopic files) j.topics founds → n ≡ sum_by messages_of founds
  counted_by n j k founds same counts p = counts founds (subst (λ (x : Kept). Pairwise (FindsTopic files) x.topics founds) same p)

  counts_in : (n : ℕ) (text : List ℕ) (kept : Kept) → files data_name ≡ Some text → IsNames text kept → ((ts : List FoundTopic) → Pairwise (FindsTopic files) kept.topics ts → n ≡ sum_by messages_of ts)
      → (x : path.Finding) → IsFound files x → CountsIn n x
  counts_in n text kept e i counts x (fresh f) = none_here (files data_name) text f e
  counts_in n text kept e i counts x (spoilt t f b) = tt
  counts_in n text kept e i counts x (spent t k f b l) = tt
  counts_in n text kept e i counts x (bad_queue t k f b l q) = tt
  counts_in n text kept e i counts x (names {found = g} t k f b l m p) = counted_by n k kept g.topics (same_kept t text k kept f e b i) counts p

  -- the messages of all topics that the file of names keeps are all
  pub all_counted : (n : ℕ) (text : List ℕ) (kept : Kept) → files data_name ≡ Some text → IsNames text kept → ((ts : List FoundTopic) → Pairwise (FindsTopic files) kept.topics ts → n ≡ sum_by messages_of ts)
      → CountsAll files n
  all_counted n text kept e i counts found f = counts_in n text kept e i counts (Names found) f

  no_counts : (x : path.Finding) → files data_name ≡ None → IsFound files x → CountsIn 0 x
  no_counts x e (fresh f) = refl
  no_counts x e (spoilt t f b) = tt
  no_counts x e (spent t k f b l) = tt
  no_counts x e (bad_queue t k f b l q) = tt
  no_counts x e (names t k f b l m p) = none_here (files data_name) t e f

  -- without a file of names there is none
  pub none_counted : files data_name ≡ None → CountsAll files 0
  none_counted e found f = no_counts (Names found) e f

  abbrev NoNames : path.Finding → Type 0
  NoNames path.BadData = Unit {0}
  NoNames path.EpochSpent = Unit {0}
  NoNames (path.Names found) = ⊥

  no_names : (text : List ℕ) → files data_name ≡ Some text → ((kept : Kept) → IsNames text kept → (ts : List FoundTopic) → Pairwise (FindsTopic files) kept.topics ts → ⊥) → (x : path.Finding) → IsFound files x → NoNames x
  no_names text e none x (fresh f) = none_here (files data_name) text f e
  no_names text e none x (spoilt t f b) = tt
  no_names text e none x (spent t k f b l) = tt
  no_names text e none x (bad_queue t k f b l q) = tt
  no_names text e none x (names {found = g} t k f b l m p) = none k (subst (λ y. IsNames y k) (same_Some t text (sym f ∙ e)) b) g.topics p

  -- where the file of names is bad, none are found
  pub bad_names_none : (text : List ℕ) → files data_name ≡ Some text → IsBadNames text → FindsNoNames files
  bad_names_none text e b found f = no_names text e (λ k i ts p. b k i) (Names found) f

  -- nor where its topics can't be
  pub topics_none : (text : List ℕ) (kept : Kept) → files data_name ≡ Some text → IsNames text kept → ((ts : List FoundTopic) → Pairwise (FindsTopic files) kept.topics ts → ⊥) → FindsNoNames files
  topics_none text kept e i none found f =
      no_names text e (λ k j ts p. none ts (subst (λ (x : Kept). Pairwise (FindsTopic files) x.topics ts) (names_once text k kept j i) p)) (Names found) f

-- what an option says, said in other words
pub option_weaker : {X : Type 0} (o : Option X) (A B : Type 0) (P Q : X → Type 0) → (A → B) → ((x : X) → P x → Q x) → MatchOption o A P → MatchOption o B Q
option_weaker None A B P Q f g m = f m
option_weaker (Some x) A B P Q f g m = g x m

module _ (p : Positions) (bytes : ℕ → List ℕ) where
  -- the walk begins with nothing
  pub walk_begins : WalksOver p bytes p.read_file 0
  walk_begins = record { bodies = []; bad = []; walk = starts refl; count_is = refl }

  -- and what a file gives is added
  pub walk_next : (k : ℕ) (file : List ℕ) (sum more new : ℕ) → file ≡ bytes k → WalksOver p bytes k sum → GivesSo p k file more → new ≡ sum + more → WalksOver p bytes (k + 1) new
  walk_next k file sum more new here w (gives_good bodies g e) is = record {
    bodies = w.bodies ++ bodies;
    bad = w.bad;
    walk = good bodies w.walk (subst (λ f. IsGoodFile least_record longest_record p k f bodies) here g) refl refl;
    count_is = is ∙ rw (w.count_is, e) (sym (length-append w.bodies bodies));
  }
  walk_next k file sum more new here w (gives_bad b e) is = record {
    bodies = w.bodies;
    bad = w.bad ++ k ∷ [];
    walk = passes w.walk (subst (λ f. IsBadFile least_record longest_record p k f) here b) refl refl;
    count_is = omega (arith, is, e, w.count_is);
  }
