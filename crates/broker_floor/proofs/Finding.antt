-- What is found of topics stays where each queue's list does, and what the file of names keeps tells what is found.
use Rattle.std.proofs.Common.{◌≡◌, ◌⊎◌, inl, inr, ◌<◌, ◌≤◌, ℕ, ◌+◌, List, [], ◌∷◌, map, Option, Some, None, refl, sym, ap, subst, ◌∙◌, arith}
use Rattle.std.proofs.Math.Path.{fun_ext}
use Rattle.std.specs.List.{All, Contains}
use Rattle.std.proofs.lemmas.Bool.{cases_lt}
use Rattle.std.proofs.lemmas.List.Elements.{All-head, All-tail}
use Rattle.nsq_outside.specs.Causes.{Rose}
use Rattle.nsq_outside.specs.Files.{Files, SameFiles}
use Rattle.queue_image.specs.FileNames.{channel_queue}
use Rattle.v2_frame.specs.declared.message.Message.{Message}
use Rattle.path_image.specs.Data.{IsNames, Kept, KeptChannel, KeptTopic, data_name, last_epoch}
use Rattle.path_image.specs.Found.{BadData, EpochSpent, FindsChannel, FindsTopic, Finding, Found, FoundChannel, FoundTopic, HasBadQueue, HasMessages, IsFound, Names, Pairwise, queues_of}
use Rattle.path_image.specs.Found.IsFound.{fresh, spoilt, spent, bad_queue, names}
use Rattle.path_image.proofs.FindingOnce.{names_once}
use Rattle.floor_laws.proofs.Pairs.{pairs_become}
use Rattle.floor_files.specs.Opened.{IsBad}
use Rattle.names_file.specs.Texts.{kept_of}
use Rattle.broker_floor.specs.Opening.{FindsAgain, FindsNext, IsNamesFinding, KeepsIn}
use Rattle.broker_floor.specs.Opening.KeepsIn.{absent, written}
use Rattle.broker_floor.specs.Adding.{HasBadOf, IsGood, SameList}

module _ (old new : Files) where
  -- a queue's messages
  pub has_again : (name : List ℕ) (messages : List Message) → SameList old new name → HasMessages old name messages → HasMessages new name messages
  has_again name messages same has =
      let again = same has.bodies has.bad has.queue in
      record { bodies = has.bodies; bad = again.bad; queue = again.found; records = has.records }

  channels_again : (topic : List ℕ) (kept : List KeptChannel) (found : List FoundChannel) → All (SameList old new) (map (λ (c : KeptChannel). channel_queue topic c.name) kept) → Pairwise (FindsChannel old topic) kept found → Pairwise (FindsChannel new topic) kept found
  channels_again topic [] [] same p = tt
  channels_again topic [] (f ∷ found) same p = absurd p
  channels_again topic (c ∷ kept) [] same p = absurd p
  channels_again topic (c ∷ kept) (f ∷ found) same p =
      let rest : List (List ℕ) = map (λ (d : KeptChannel). channel_queue topic d.name) kept in
      (record { name = p.0.name; paused = p.0.paused; messages = has_again (channel_queue topic c.name) f.messages (All-head (SameList old new) (channel_queue topic c.name) rest same) p.0.messages }, channels_again topic kept found (All-tail (SameList old new) (channel_queue topic c.name) rest same) p.1)

  -- a topic
  pub topic_again : (t : KeptTopic) (found : FoundTopic) → All (SameList old new) (queues_of t) → FindsTopic old t found → FindsTopic new t found
  topic_again t found same x =
      let rest : List (List ℕ) = map (λ (c : KeptChannel). channel_queue t.name c.name) t.channels in
      record {
        name = x.name;
        paused = x.paused;
        messages = has_again t.name found.messages (All-head (SameList old new) t.name rest same) x.messages;
        channels = channels_again t.name t.channels found.channels (All-tail (SameList old new) t.name rest same) x.channels;
      }

  pub topics_again : (topics : List KeptTopic) (founds : List FoundTopic) → All (λ (t : KeptTopic). All (SameList old new) (queues_of t)) topics → Pairwise (FindsTopic old) topics founds → Pairwise (FindsTopic new) topics founds
  topics_again topics founds same p = pairs_become (FindsTopic old) (FindsTopic new) (λ (t : KeptTopic). All (SameList old new) (queues_of t)) topics founds topic_again same p

-- a count that rose behind an earlier one rose behind that one too
pub rose_later : (before mid now : ℕ) → before ≤ mid → Rose mid now → Rose before now
rose_later before mid now low rose = omega (arith, low, rose)

-- what holds of everything holds of the items of a list
pub all_of : {X : Type 0} (P : X → Type 0) (xs : List X) → ((x : X) → P x) → All P xs
all_of P xs f = λ k d l. f _

some_one : {X : Type 0} (a b : X) → Some a ≡ Some b → a ≡ b
some_one a b e = cc

none_some : {X A : Type 0} (o : Option X) (x : X) → o ≡ None → o ≡ Some x → A
none_some o x e f = absurd (let bad : None ≡ Some x = sym e ∙ f in cc)

-- what was found of names that a file keeps
pub record IsShown (files : Files) (kept : Kept) (found : Found) : Type 0 where
  pub epoch : found.epoch ≡ kept.epoch
  pub topics : Pairwise (FindsTopic files) kept.topics found.topics

-- what an opening finds, by what the file of names keeps
abbrev pub IsShownAs : Files → Kept → Finding → Type 0
IsShownAs files kept BadData = Unit {0}
IsShownAs files kept EpochSpent = kept.epoch ≡ last_epoch
IsShownAs files kept (Names found) = IsShown files kept found

module _ (files : Files) (kept : Kept) where
  same_kept : (s t : List ℕ) (other : Kept) → files data_name ≡ Some s → IsNames s kept → files data_name ≡ Some t → IsNames t other → other ≡ kept
  same_kept s t other e i f j = names_once t other kept j (subst (λ (x : List ℕ). IsNames x kept) (some_one s t (sym e ∙ f)) i)

  shown_names : (other : Kept) (found : Found) → other ≡ kept → found.epoch ≡ other.epoch → Pairwise (FindsTopic files) other.topics found.topics → IsShown files kept found
  shown_names other found same epoch pairs = record { epoch = epoch ∙ ap (λ (k : Kept). k.epoch) same; topics = subst (λ (k : Kept). Pairwise (FindsTopic files) k.topics found.topics) same pairs }

  pub shown : (x : Finding) → KeepsIn files kept → IsFound files x → IsShownAs files kept x
  shown x (absent e is) (fresh e') = record { epoch = sym (ap (λ (k : Kept). k.epoch) is); topics = subst (λ (k : Kept). Pairwise (FindsTopic files) k.topics []) (sym is) tt }
  shown x (absent e is) (spoilt t e' b) = tt
  shown x (absent e is) (spent t k e' i l) = none_some (files data_name) t e e'
  shown x (absent e is) (bad_queue t k e' i l b) = tt
  shown x (absent e is) (names {found = f} t k e' i l n p) = none_some (files data_name) t e e'
  shown x (written s e i) (fresh e') = none_some (files data_name) s e' e
  shown x (written s e i) (spoilt t e' b) = tt
  shown x (written s e i) (spent t k e' i' l) = ap (λ (z : Kept). z.epoch) (sym (same_kept s t k e i e' i')) ∙ l
  shown x (written s e i) (bad_queue t k e' i' l b) = tt
  shown x (written s e i) (names {found = f} t k e' i' l n p) = shown_names k f (same_kept s t k e i e' i') n p

  no_bad_queue : (other : Kept) → other ≡ kept → All (IsGood files) kept.topics → HasBadQueue files other → ⊥
  no_bad_queue other same good bad =
      let listed : Contains kept.topics bad.topic = subst (λ (k : Kept). Contains k.topics bad.topic) same bad.listed in
      all_in (λ name. IsBad files name → ⊥) (queues_of bad.topic) bad.name (all_in (IsGood files) kept.topics bad.topic good listed) bad.own bad.bad
    where
      all_in : {X : Type 0} (P : X → Type 0) (xs : List X) (x : X) → All P xs → Contains xs x → P x
      all_in P xs x all has = subst P has.2 (all has.0 x has.1)

  -- an opening finds names where no queue of theirs has bad metadata
  pub names_found : (x : Finding) → KeepsIn files kept → kept.epoch < last_epoch → All (IsGood files) kept.topics → IsFound files x → IsNamesFinding x
  names_found x (absent e is) below good (fresh e') = tt
  names_found x (absent e is) below good (spoilt t e' b) = none_some (files data_name) t e e'
  names_found x (absent e is) below good (spent t k e' i l) = none_some (files data_name) t e e'
  names_found x (absent e is) below good (bad_queue t k e' i l b) = none_some (files data_name) t e e'
  names_found x (absent e is) below good (names t k e' i l n p) = tt
  names_found x (written s e i) below good (fresh e') = tt
  names_found x (written s e i) below good (spoilt t e' b) = b kept (subst (λ (y : List ℕ). IsNames y kept) (some_one s t (sym e ∙ e')) i)
  names_found x (written s e i) below good (spent t k e' i' l) = absurd (let same = same_kept s t k e i e' i' in omega (arith, ap (λ (z : Kept). z.epoch) same, l, below))
  names_found x (written s e i) below good (bad_queue t k e' i' l b) = no_bad_queue k (same_kept s t k e i e' i') good b
  names_found x (written s e i) below good (names t k e' i' l n p) = tt

  none_in : {X : Type 0} (x : X) → Contains {X = X} [] x → ⊥
  none_in x has = absurd (let low = has.1 in omega (arith, low))

  -- a queue of theirs that has makes bad data
  pub bad_found : KeepsIn files kept → kept.epoch < last_epoch → HasBadOf kept.topics files → IsFound files BadData
  bad_found (absent e is) below bad = absurd (none_in bad.topic (subst (λ (k : Kept). Contains k.topics bad.topic) is bad.listed))
  bad_found (written s e i) below bad = bad_queue s kept e i below (record { topic = bad.topic; name = bad.name; listed = bad.listed; own = bad.own; bad = bad.bad })

  -- the last epoch is told
  pub spent_found : KeepsIn files kept → kept.epoch ≡ last_epoch → IsFound files EpochSpent
  spent_found (absent e is) last = absurd (omega (arith, ap (λ (k : Kept). k.epoch) is, last))
  spent_found (written s e i) last = spent s kept e i last

  no_pairs : (founds : List FoundTopic) → Pairwise (FindsTopic files) [] founds → founds ≡ []
  no_pairs [] p = refl
  no_pairs (f ∷ founds) p = absurd p

  -- and names with what their queues have are
  pub kept_found : (found : Found) → KeepsIn files kept → kept.epoch < last_epoch → IsShown files kept found → IsFound files (Names found)
  kept_found found (absent e is) below x =
      let none : found.topics ≡ [] = no_pairs found.topics (subst (λ (k : Kept). Pairwise (FindsTopic files) k.topics found.topics) is x.topics) in
      let zero_epoch : found.epoch ≡ 0 = x.epoch ∙ ap (λ (k : Kept). k.epoch) is in
      let FoundOf : ℕ → List FoundTopic → Found = λ n ts. record { epoch = n; topics = ts } in
      subst (λ (f : Found). IsFound files (Names f)) (sym (ap (λ n. FoundOf n found.topics) zero_epoch ∙ ap (FoundOf 0) none)) (fresh e)
  kept_found found (written s e i) below x = names s kept e i below x.epoch x.topics

-- the new file of names keeps what the old one kept, or the next epoch with the same topics
pub record KeepsNext (files : Files) (kept : Kept) : Type 0 where
  pub text : List ℕ
  pub is : files data_name ≡ Some text
  pub names : IsNames text (kept_of (kept.epoch + 1) kept.topics)

keeps_still : (old new : Files) (kept : Kept) → new data_name ≡ old data_name → KeepsIn old kept → KeepsIn new kept
keeps_still old new kept same (absent e is) = absent (same ∙ e) is
keeps_still old new kept same (written s e i) = written s (same ∙ e) i

module _ (old new : Files) (kept : Kept) (keeps : KeepsIn old kept) (below : kept.epoch < last_epoch) (same : All (λ (t : KeptTopic). All (SameList old new) (queues_of t)) kept.topics) where
  next_found : (found : Found) → KeepsNext new kept → IsShown old kept found → (kept.epoch + 1 < last_epoch) ⊎ (last_epoch ≤ kept.epoch + 1) → FindsNext new found
  next_found found next x (inl more) = let epoch = x.epoch in inl (names next.text (kept_of (kept.epoch + 1) kept.topics) next.is next.names more (omega (arith, epoch)) (topics_again old new kept.topics found.topics same x.topics))
  next_found found next x (inr last) = let epoch = x.epoch in inr (omega (arith, epoch, last, below), spent next.text (kept_of (kept.epoch + 1) kept.topics) next.is next.names (omega (arith, last, below)))

  again_shown : (found : Found) → (new data_name ≡ old data_name) ⊎ KeepsNext new kept → IsShown old kept found → IsFound new (Names found) ⊎ FindsNext new found
  again_shown found (inl is) x = inl (kept_found new kept found (keeps_still old new kept is keeps) below (record { epoch = x.epoch; topics = topics_again old new kept.topics found.topics same x.topics }))
  again_shown found (inr next) x = inr (next_found found next x (cases_lt (kept.epoch + 1) last_epoch))

  -- an opening of the new files finds the same, or the next epoch
  pub finds_again : (new data_name ≡ old data_name) ⊎ KeepsNext new kept → FindsAgain old new
  finds_again file found is = again_shown found file (shown old kept (Names found) keeps is)

-- so it does where no file changed
pub same_again : (old new : Files) → SameFiles old new → FindsAgain old new
same_again old new same found is = inl (subst (λ (files : Files). IsFound files (Names found)) (sym (fun_ext same)) is)
