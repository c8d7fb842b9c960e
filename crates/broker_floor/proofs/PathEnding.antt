-- A hall is filled, the file of names is written, and what the folder shows then.
use Rattle.std.proofs.Common.{◌≡◌, ◌≢◌, ◌⊎◌, inl, inr, ◌≤◌, ◌<◌, ℕ, ◌+◌, Bool, false, List, length, map, Option, Some, None, Result, Ok, Err, refl, sym, ap, subst, ◌∙◌, arith}
use Rattle.std.specs.Prelude.{IfErr, IsTrue, OnOk, codes}
use Rattle.std.proofs.Math.Path.{fun_ext}
use Rattle.std.specs.List.{All, Contains}
use Rattle.std.proofs.lemmas.List.Elements.{All-cons, All-contains, All-from_recursion, All-map, All-weaker, Contains-get_or}
use Rattle.nsq_base.specs.declared.options.Options.{Options}
use Rattle.nsq_outside.specs.Causes.{Rose}
use Rattle.nsq_outside.specs.declared.did.Did.TheVariants as did
use Rattle.nsq_outside.specs.Files.{Files, SameFiles}
use Rattle.queue_image.specs.FileNames.{IsFileOf, IsQueueName, channel_queue}
use Rattle.queue_image.specs.FileNames.IsFileOf.{aside, own}
use Rattle.queue_image.specs.FileNames.IsQueueName.{of_channel, of_topic}
use Rattle.queue_image.specs.Finds.{BadMeta, Records}
use Rattle.queue_image.proofs.Keeping.{finding_keeps}
use Rattle.queue_image.proofs.Naming.{long_name}
use Rattle.queue_files.specs.Replaced.{OnlyTwoChange, Replaces}
use Rattle.path_image.specs.Data.{CanKeepChannel, IsNames, Kept, KeptChannel, KeptTopic, SaysEpoch, data_name, last_epoch, names_text, temp_name}
use Rattle.serde_json.specs.Data as json
use Rattle.serde_json.specs.Find.{get_member}
use Rattle.path_image.specs.Found.{BadData, Finding, Found, IsFound, Names, queues_of}
use Rattle.path_image.specs.Found.IsFound.{spoilt}
use Rattle.names_file.specs.Kept.{CanKeepAll}
use Rattle.names_file.specs.Texts.{kept_of}
use Rattle.queue_sweep.specs.Swept.{IsListedQueue, IsSweptTo}
use Rattle.queue_sweep.specs.declared.unswept.Unswept.{Unswept}
use Rattle.queue_sweep.specs.declared.unswept.Unswept.TheVariants as unswept
use Rattle.queue_sweep.proofs.Colons.{own_file}
use Rattle.queue_sweep.proofs.Listing.{can_keep}
use Rattle.queue_sweep.proofs.Staying.{files_stay, queue_stays, short_stays}
use Rattle.broker_history.specs.Found.{start, started}
use Rattle.broker_history.specs.State.{State}
use Rattle.floor_rooms.specs.declared.hall.Hall.{Hall}
use Rattle.floor_rooms.specs.Made.{IsEmptyHall, empty_state}
use Rattle.floor_rooms.specs.Standing.{HoldsFor, StandsFor}
use Rattle.broker_floor.specs.Held.{Held}
use Rattle.floor_files.specs.Opened.{FindsQueue, IsBad, ListsStay}
use Rattle.floor_files.proofs.Found.{lists_then}
use Rattle.broker_floor.specs.Adding.{AddsTopics, Fills, FindsAll, HasNames, HasBadOf, HasOthersOnly, IsAdded, IsElsewhere, IsFilled, IsGood, IsNotAdded, IsNotFilled, IsNotSaved, IsOldOrKeeps, IsReady, IsUnread, IsWhyNotAdded, IsWhyNotSaved, OnlyFilledFiles, SameList, why_unswept}
use Rattle.broker_floor.specs.Opening.KeepsIn.{absent, written}
use Rattle.broker_floor.specs.Opening.{FindsAgain, HaveBytes, IsNamesFinding, IsOpenedHall, IsRefusal, IsWhy, KeepsIn, OnlyOpeningFiles, Raises}
use Rattle.daemon_endings.specs.declared.ends.Why.{Why}
use Rattle.daemon_endings.specs.declared.ends.Why.TheVariants as why
use Rattle.broker_floor.proofs.Decoding.{topics_found}
use Rattle.broker_floor.proofs.Finding.{KeepsNext, all_of, bad_found, finds_again, kept_found, names_found, rose_later, same_again, shown, spent_found, topics_again}
use Rattle.broker_floor.proofs.Idling.{idle_found}

-- the file of names and its temporary are no queue's
pub names_apart : (name file : List ℕ) → IsFileOf name file → file ≢ data_name
names_apart name file of same = absurd (let long = long_name name file of in omega (arith, long, ap length same))

pub temp_apart : (name file : List ℕ) → IsFileOf name file → file ≢ temp_name
temp_apart name file of same = absurd (let long = long_name name file of in omega (arith, long, ap length same))

pub names_of_none : (name : List ℕ) → IsFileOf name data_name → ⊥
names_of_none name of = names_apart name data_name of refl

pub temp_of_none : (name : List ℕ) → IsFileOf name temp_name → ⊥
temp_of_none name of = temp_apart name temp_name of refl

-- writing them leaves each queue's list
pub lists_saved : (old new : Files) → OnlyTwoChange old new data_name temp_name → ListsStay old new
lists_saved old new two name bodies bad found = record {
  bad = bad;
  found = finding_keeps 26 16777242 old new name (Records bodies bad) (λ file its. two file (names_apart name file (own its)) (temp_apart name file (own its))) found;
}

-- what is within a list
pub all_within : {X : Type 0} (P : X → Type 0) (xs : List X) → ((x : X) → Contains xs x → P x) → All P xs
all_within P xs f = λ k d low. f _ (Contains-get_or xs k d low)

spared_names : (topics : List KeptTopic) → All (IsElsewhere data_name) topics
spared_names topics = all_of (IsElsewhere data_name) topics (λ t. all_of (λ name. IsFileOf name data_name → ⊥) (queues_of t) names_of_none)

-- topics were added, and the file of names was written
module _ (topics : List KeptTopic) (can : CanKeepAll topics) (h0 h h' : Hall) (f0 f f' : Files) (adds : AddsTopics topics h0 f0 h f) where
  pub filled_only : OnlyTwoChange f f' data_name temp_name → OnlyFilledFiles topics f0 f'
  filled_only two file no_names no_temp spared = two file no_names no_temp ∙ adds.only file spared

  pub filled : OnlyTwoChange f f' data_name temp_name → ((s : State) → HoldsFor h f s → HoldsFor h' f' s) → HasNames f' h0.epoch topics → Fills topics h0 f0 h' f'
  filled two stands saved = record {
    holds = λ swept founds pairs s none first.
        let all = adds.stands founds pairs s none first in
        stands (record s { topics = map started founds }) (record { stands = all; idle = idle_found topics can f0 f swept adds.only h founds pairs all.topics });
    good = adds.good;
    finds = adds.finds;
    saved = saved;
    only = filled_only two;
  }

-- they weren't added
pub unfilled_added : (reason : Why) (tells : Bool) (topics : List KeptTopic) (epoch : ℕ) (f0 f : Files) (before now : ℕ) → IsNotAdded reason tells topics f0 f before now → IsNotFilled reason tells topics epoch f0 f before now
unfilled_added reason tells topics epoch f0 f before now x = record {
  why = x.why;
  lists = x.lists;
  file = λ told. inl (x.only told data_name (spared_names topics));
  only = λ told file no_names no_temp spared. x.only told file spared;
}

-- the file wasn't written
module _ (tells : Bool) (topics : List KeptTopic) (epoch : ℕ) (h0 h : Hall) (f0 f f' : Files) (k0 k k' : ℕ) (low : k0 ≤ k) (adds : IsTrue tells → AddsTopics topics h0 f0 h f) where
  why_unsaved : (reason : Why) → IsWhyNotSaved reason k k' → IsWhyNotAdded reason tells topics f0 k0 k'
  why_unsaved why.BadData x = absurd x
  why_unsaved why.EpochSpent x = x
  why_unsaved why.Fault x = rose_later k0 k k' low x
  why_unsaved why.Memory x = tt

  old_or_keeps : f data_name ≡ f0 data_name → IsOldOrKeeps f f' epoch topics → IsOldOrKeeps f0 f' epoch topics
  old_or_keeps same (inl is) = inl (is ∙ same)
  old_or_keeps same (inr keeps) = inr keeps

  pub unfilled_saved : (reason : Why) → IsNotSaved reason tells topics epoch f f' k k' → (IsTrue tells → OnlyTwoChange f f' data_name temp_name) → IsNotFilled reason tells topics epoch f0 f' k0 k'
  unfilled_saved reason x two = record {
    why = why_unsaved reason x.why;
    lists = λ told. lists_then f0 f f' (adds told).lists (lists_saved f f' (two told));
    file = λ told. old_or_keeps ((adds told).only data_name (spared_names topics)) (x.file told);
    only = λ told file no_names no_temp spared. two told file no_names no_temp ∙ (adds told).only file spared;
  }

-- files of unlisted queues were set aside
module _ (kept : Kept) (can : CanKeepAll kept.topics) (old f1 : Files) (swept : IsSweptTo kept.topics old f1) where
  listed_in : (t : KeptTopic) → Contains kept.topics t → (name : List ℕ) → Contains (queues_of t) name → IsListedQueue kept.topics name
  listed_in t listed name its = record { topic = t; listed = listed; own = its }

  pub swept_lists : All (λ (t : KeptTopic). All (SameList old f1) (queues_of t)) kept.topics
  swept_lists = all_within (λ (t : KeptTopic). All (SameList old f1) (queues_of t)) kept.topics (λ t listed. all_within (SameList old f1) (queues_of t) (λ name its bodies bad found. record { bad = bad; found = queue_stays kept.topics old f1 name (Records bodies bad) swept (listed_in t listed name its) found }))

  pub swept_good : All (IsGood f1) kept.topics → All (IsGood old) kept.topics
  swept_good good = all_within (IsGood old) kept.topics (λ t listed.
      all_within (λ name. IsBad old name → ⊥) (queues_of t) (λ name its bad. at_name (λ n. IsBad f1 n → ⊥) (queues_of t) name (at_name (IsGood f1) kept.topics t good listed) its (queue_stays kept.topics old f1 name BadMeta swept (listed_in t listed name its) bad)))
    where
      at_name : {X : Type 0} (P : X → Type 0) (xs : List X) (x : X) → All P xs → Contains xs x → P x
      at_name P xs x all has = subst P has.2 (all has.0 x has.1)

  found_back : (t : KeptTopic) → Contains kept.topics t → (name : List ℕ) → Contains (queues_of t) name → FindsQueue f1 name → FindsQueue old name
  found_back t listed name its x = record {
    bodies = x.bodies;
    bad = x.bad;
    found = finding_keeps 26 16777242 f1 old name (Records x.bodies x.bad) (λ file is. sym (files_stay kept.topics old f1 name file swept (listed_in t listed name its) (own is))) x.found;
  }

  pub swept_finds : All (FindsAll f1) kept.topics → All (FindsAll old) kept.topics
  swept_finds finds = all_within (FindsAll old) kept.topics (λ t listed.
      all_within (FindsQueue old) (queues_of t) (λ name its. found_back t listed name its (All-contains (FindsQueue f1) (queues_of t) name (All-contains (FindsAll f1) kept.topics t finds listed) its)))

  pub swept_names : f1 data_name ≡ old data_name
  swept_names = short_stays kept.topics old f1 data_name swept (omega arith)

  pub swept_files : OnlyOpeningFiles old f1
  swept_files file no_names no_temp no_queue = swept.others file (λ u. no_queue u.queue.name u.queue.queue (own (own_file u.queue.name file u.queue.form))) (λ f u is. no_queue u.queue.name u.queue.queue (aside f (own_file u.queue.name f u.queue.form) is))

  queue_names : (t : KeptTopic) → Contains kept.topics t → All IsQueueName (queues_of t)
  queue_names t listed =
      let keeps = can_keep kept.topics t can listed in
      All-cons IsQueueName t.name (map (λ (c : KeptChannel). channel_queue t.name c.name) t.channels) (of_topic keeps.named)
      (All-map IsQueueName (λ (c : KeptChannel). channel_queue t.name c.name) t.channels
      (All-weaker CanKeepChannel (λ (c : KeptChannel). IsQueueName (channel_queue t.name c.name)) (λ c x. of_channel t.name c.name keeps.named x.named refl) t.channels (All-from_recursion CanKeepChannel t.channels keeps.channels)))

  pub opening_files : (f' : Files) → OnlyFilledFiles kept.topics f1 f' → OnlyOpeningFiles old f'
  opening_files f' only file no_names no_temp no_queue =
      only file no_names no_temp (all_within (IsElsewhere file) kept.topics (λ t listed. All-weaker IsQueueName (λ name. IsFileOf name file → ⊥) (λ name named of. no_queue name named of) (queues_of t) (queue_names t listed)))
      ∙ swept_files file no_names no_temp no_queue

  -- refused while they are set aside, or for want of memory behind that
  module _ (keeps : KeepsIn old kept) (below : kept.epoch < last_epoch) where
    pub swept_again : FindsAgain old f1
    swept_again = finds_again old f1 kept keeps below swept_lists (inl swept_names)

    lists_filled : (f' : Files) → ListsStay f1 f' → All (λ (t : KeptTopic). All (SameList old f') (queues_of t)) kept.topics
    lists_filled f' lists =
        All-weaker (λ (t : KeptTopic). All (SameList old f1) (queues_of t)) (λ (t : KeptTopic). All (SameList old f') (queues_of t))
        (λ t all. All-weaker (SameList old f1) (SameList old f') (λ name same bodies bad found. let first = same bodies bad found in lists name bodies first.bad first.found) (queues_of t) all) kept.topics swept_lists

    next_of : (f' : Files) → IsOldOrKeeps f1 f' (kept.epoch + 1) kept.topics → (f' data_name ≡ old data_name) ⊎ KeepsNext f' kept
    next_of f' (inl same) = inl (same ∙ swept_names)
    next_of f' (inr both) = inr (record { text = names_text (kept_of (kept.epoch + 1) kept.topics); is = both.0; names = both.1 })

    bad_unfilled : HasBadOf kept.topics f1 → IsFound old BadData
    bad_unfilled bad = bad_found old kept keeps below (record {
      topic = bad.topic;
      listed = bad.listed;
      name = bad.name;
      own = bad.own;
      bad = finding_keeps 26 16777242 f1 old bad.name BadMeta (λ file its. sym (files_stay kept.topics old f1 bad.name file swept (listed_in bad.topic bad.listed bad.name bad.own) (own its))) bad.bad;
    })

-- the floor isn't filled
module _ (tells : Bool) (kept : Kept) (can : CanKeepAll kept.topics) (below : kept.epoch < last_epoch) (old f1 f' : Files) (k0 k k' : ℕ) (low : k0 ≤ k) (ready : IsTrue tells → IsReady kept old f1) where
  why_unfilled : (reason : Why) → IsWhyNotAdded reason tells kept.topics f1 k k' → IsWhy reason tells old f' k0 k'
  why_unfilled why.BadData x = λ told. bad_unfilled kept can old f1 (ready told).swept (ready told).keeps below (x told)
  why_unfilled why.EpochSpent x = absurd x
  why_unfilled why.Fault x = rose_later k0 k k' low x
  why_unfilled why.Memory x = tt

  pub refused_filling : (reason : Why) (epoch : ℕ) → epoch ≡ kept.epoch + 1 → IsNotFilled reason tells kept.topics epoch f1 f' k k' → IsRefusal reason tells old f' k0 k'
  refused_filling reason epoch is x = record {
    why = why_unfilled reason x.why;
    again = λ told.
        let swept = (ready told).swept in
        finds_again old f' kept (ready told).keeps below (lists_filled kept can old f1 swept (ready told).keeps below f' (x.lists told))
        (next_of kept can old f1 swept (ready told).keeps below f' (subst (λ n. IsOldOrKeeps f1 f' n kept.topics) is (x.file told)));
    files = λ told. opening_files kept can old f1 (ready told).swept f' (x.only told);
  }

  -- memory is wanting for a floor
  pub refused_floor : f' ≡ f1 → IsRefusal why.Memory tells old f' k0 k'
  refused_floor same = record {
    why = tt;
    again = λ told. subst (FindsAgain old) (sym same) (swept_again kept can old f1 (ready told).swept (ready told).keeps below);
    files = λ told. subst (OnlyOpeningFiles old) (sym same) (swept_files kept can old f1 (ready told).swept);
  }

-- the file of names isn't read
bad_unread : (reason : Why) (tells : Bool) (old new : Files) (before now : ℕ) → IsUnread reason tells old before now → IsWhy reason tells old new before now
bad_unread why.BadData tells old new before now x = λ told. let bad = x told in spoilt bad.text bad.is bad.bad
bad_unread why.EpochSpent tells old new before now x = absurd x
bad_unread why.Fault tells old new before now x = x
bad_unread why.Memory tells old new before now x = tt

pub refused_reading : (reason : Why) (tells : Bool) (old new : Files) (before now : ℕ) → IsUnread reason tells old before now → (IsTrue tells → SameFiles old new) → IsRefusal reason tells old new before now
refused_reading reason tells old new before now x same = record { why = bad_unread reason tells old new before now x; again = λ told. same_again old new (same told); files = λ told file no_names no_temp no_queue. same told file }

-- what the file keeps has no greater epoch than the last
epoch_small : (m : Option json.Data) (n : ℕ) → SaysEpoch m n → n ≤ last_epoch
epoch_small None n h = omega (arith, h)
epoch_small (Some json.null) n h = omega (arith, h)
epoch_small (Some (json.boolean x)) n h = absurd h
epoch_small (Some (json.number (json.unsigned k))) n h = let is = h.0 in let low = h.1 in omega (arith, is, low)
epoch_small (Some (json.number (json.negative z))) n h = absurd h
epoch_small (Some (json.number (json.float x))) n h = absurd h
epoch_small (Some (json.string x)) n h = absurd h
epoch_small (Some (json.array ds)) n h = absurd h
epoch_small (Some (json.object ms)) n h = absurd h

kept_small : (files : Files) (kept : Kept) → KeepsIn files kept → kept.epoch ≤ last_epoch
kept_small files kept (absent e is) = let none = ap (λ (k : Kept). k.epoch) is in omega (arith, none)
kept_small files kept (written s e i) = epoch_small (get_member (codes "id_epoch") i.members) kept.epoch i.epoch

-- it keeps the last one
pub refused_spent : (tells : Bool) (kept : Kept) (old new : Files) (before now : ℕ) → last_epoch ≤ kept.epoch → (IsTrue tells → KeepsIn old kept) → (IsTrue tells → SameFiles old new) → IsRefusal why.EpochSpent tells old new before now
refused_spent tells kept old new before now last keeps same = record {
  why = λ told. (spent_found old kept (keeps told) (let small = kept_small old kept (keeps told) in omega (arith, last, small)), same told);
  again = λ told. same_again old new (same told);
  files = λ told file no_names no_temp no_queue. same told file;
}

why_swept : (e : Unswept) (tells : Bool) (old new : Files) (before now : ℕ) → (e ≡ unswept.Fault → Rose before now) → IsWhy (why_unswept e) tells old new before now
why_swept unswept.Fault tells old new before now rose = rose refl
why_swept unswept.Memory tells old new before now rose = tt

pub swept_from : (topics : List KeptTopic) (old mid new : Files) → SameFiles old mid → IsSweptTo topics mid new → IsSweptTo topics old new
swept_from topics old mid new same swept = subst (λ (f : Files). IsSweptTo topics f new) (fun_ext same) swept

-- files aren't set aside
pub refused_sweeping : (e : Unswept) (tells : Bool) (kept : Kept) → CanKeepAll kept.topics → kept.epoch < last_epoch → (old mid new : Files) (k0 k k' : ℕ) → k0 ≤ k → (IsTrue tells → KeepsIn old kept) → (IsTrue tells → SameFiles old mid) → (IsTrue tells → IsSweptTo kept.topics mid new) → (e ≡ unswept.Fault → Rose k k')
    → IsRefusal (why_unswept e) tells old new k0 k'
refused_sweeping e tells kept can below old mid new k0 k k' low keeps same swept rose = record {
  why = why_swept e tells old new k0 k' (λ is. rose_later k0 k k' low (rose is));
  again = λ told. swept_again kept can old new (swept_from kept.topics old mid new (same told) (swept told)) (keeps told) below;
  files = λ told. swept_files kept can old new (swept_from kept.topics old mid new (same told) (swept told));
}

-- the file of names was written, or not
module _ (old new : Files) (epoch : ℕ) (topics : List KeptTopic) (text : List ℕ) (is : text ≡ names_text (kept_of epoch topics)) (names : IsNames (names_text (kept_of epoch topics)) (kept_of epoch topics)) where
  pub names_written : Replaces old new data_name temp_name text did.Done → HasNames new epoch topics
  names_written done = record { text = done.0 ∙ ap Some is; names = names; temp = done.1 }

  old_or_new : (new data_name ≡ old data_name) ⊎ (new data_name ≡ Some text) → IsOldOrKeeps old new epoch topics
  old_or_new (inl same) = inl same
  old_or_new (inr text_is) = inr (text_is ∙ ap Some is, names)

  pub names_failed : (tells : Bool) (before now : ℕ) → (IsTrue tells → Replaces old new data_name temp_name text did.Failed) → Rose before now → IsNotSaved why.Fault tells topics epoch old new before now
  names_failed tells before now failed rose = record { why = rose; file = λ told. old_or_new (failed told) }

pub names_unwritten : (tells : Bool) (topics : List KeptTopic) (epoch : ℕ) (files : Files) (before now : ℕ) → IsNotSaved why.Memory tells topics epoch files files before now
names_unwritten tells topics epoch files before now = record { why = tt; file = λ told. inl refl }

-- a floor that is filled stands for what was found
module _ (tells : Bool) (kept : Kept) (can : CanKeepAll kept.topics) (below : kept.epoch < last_epoch) (old f1 f' : Files) (h0 h : Hall) (ready : IsReady kept old f1) (fills : Fills kept.topics h0 f1 h f') where
  pub opened_finds : (x : Finding) → IsFound old x → IsNamesFinding x
  opened_finds x is = names_found old kept x ready.keeps below (swept_good kept can old f1 ready.swept fills.good) is

  -- names with their messages were found
  pub opened_names : HaveBytes old → (found : Found) × IsFound old (Names found)
  opened_names bytes =
      let x = topics_found old bytes kept.topics (swept_finds kept can old f1 ready.swept fills.finds) in
      let found : Found = record { epoch = kept.epoch; topics = x.founds } in
      (found, kept_found old kept found ready.keeps below (record { epoch = refl; topics = x.pairs }))

  pub opened_files : OnlyOpeningFiles old f'
  opened_files = opening_files kept can old f1 ready.swept f' fills.only

  pub opened_raises : (epoch : ℕ) → epoch ≡ kept.epoch + 1 → h0.epoch ≡ epoch → Raises old f' epoch
  opened_raises epoch next same = record {
    kept = kept;
    keeps = ready.keeps;
    next = next;
    text = subst (λ n. f' data_name ≡ Some (names_text (kept_of n kept.topics))) same fills.saved.text;
    names = subst (λ n. IsNames (names_text (kept_of n kept.topics)) (kept_of n kept.topics)) same fills.saved.names;
    temp = fills.saved.temp;
  }

  pub opened_holds : (options : Options) (epoch moment : ℕ) → epoch ≡ kept.epoch + 1 → StandsFor h0 f1 (empty_state options epoch moment) → (found : Found) → IsFound old (Names found) → HoldsFor h f' (start found options moment)
  opened_holds options epoch moment next stands found is =
      let x = shown old kept (Names found) ready.keeps is in
      let same : epoch ≡ found.epoch + 1 = let one = x.epoch in omega (arith, next, one) in
      subst (λ n. HoldsFor h f' (record (empty_state options n moment) { topics = map started found.topics })) same
      (fills.holds ready.only found.topics (topics_again old f1 kept.topics found.topics (swept_lists kept can old f1 ready.swept) x.topics) (empty_state options epoch moment) refl stands)

-- so is its hall
pub opened_hall : (options : Options) (epoch moment : ℕ) (a b : Held) → IsEmptyHall options epoch moment a.hall → a.flushed ≡ false → HasOthersOnly a b → IsOpenedHall options b
opened_hall options epoch moment a b empty unflushed rest = record {
  unflushed = ap (λ (x : Held). x.flushed) rest ∙ unflushed;
  options = ap (λ (x : Held). x.hall.options) rest ∙ empty.options;
  clients = ap (λ (x : Held). x.hall.clients.items) rest ∙ empty.clients;
  ids_used = ap (λ (x : Held). x.hall.ids_used) rest ∙ empty.ids_used;
  stopped = ap (λ (x : Held). x.hall.stopped) rest ∙ empty.stopped;
  stuck = ap (λ (x : Held). x.hall.stuck) rest ∙ empty.stuck;
  unsaved_names = ap (λ (x : Held). x.hall.unsaved_names) rest ∙ empty.unsaved_names;
  began_at = ap (λ (x : Held). x.hall.began_at) rest ∙ empty.began_at ∙ sym empty.moment ∙ sym (ap (λ (x : Held). x.hall.moment) rest);
}

-- topics were added, and the file of names was written or not
module _ (tells : Bool) (topics : List KeptTopic) (a b c : Held) (f0 f f' : Files) (k0 k : ℕ) (added : IsAdded tells topics a b f0 f k0 k) (two : IsTrue tells → OnlyTwoChange f f' data_name temp_name) where
  same_epoch : b.hall.epoch ≡ a.hall.epoch
  same_epoch = ap (λ (x : Held). x.hall.epoch) added.rest

  filled_all : CanKeepAll topics → a.flushed ≡ false → c ≡ b → (IsTrue tells → HasNames f' b.hall.epoch topics) → (IsTrue tells → b.flushed ≡ false → (s : State) → HoldsFor b.hall f s → HoldsFor c.hall f' s) → IsFilled tells topics a c f0 f'
  filled_all can unflushed same saved stands = record {
    rest = subst (HasOthersOnly a) (sym same) added.rest;
    fills = λ told. filled topics can a.hall b.hall c.hall f0 f f' (added.adds told) (two told) (stands told (ap (λ (x : Held). x.flushed) added.rest ∙ unflushed)) (subst (λ n. HasNames f' n topics) same_epoch (saved told));
  }

pub fill_ok : {T : Type 0} (r : Result T Why) (tells : Bool) (topics : List KeptTopic) (a b c : Held) (f0 f f' : Files) (k0 k : ℕ) → IsAdded tells topics a b f0 f k0 k → (IsTrue tells → OnlyTwoChange f f' data_name temp_name) → CanKeepAll topics → a.flushed ≡ false → c ≡ b
    → (IsTrue tells → OnOk r (HasNames f' b.hall.epoch topics)) → (IsTrue tells → b.flushed ≡ false → (s : State) → HoldsFor b.hall f s → HoldsFor c.hall f' s) → OnOk r (IsFilled tells topics a c f0 f')
fill_ok (Ok x) tells topics a b c f0 f f' k0 k added two can unflushed same saved stands = filled_all tells topics a b c f0 f f' k0 k added two can unflushed same saved stands
fill_ok (Err e) tells topics a b c f0 f f' k0 k added two can unflushed same saved stands = tt

pub fill_err : {T : Type 0} (r : Result T Why) (tells : Bool) (topics : List KeptTopic) (a b : Held) (f0 f f' : Files) (k0 k k' : ℕ) → IsAdded tells topics a b f0 f k0 k → (IsTrue tells → OnlyTwoChange f f' data_name temp_name)
    → IfErr r (λ e. IsNotSaved e tells topics b.hall.epoch f f' k k') → IfErr r (λ e. IsNotFilled e tells topics a.hall.epoch f0 f' k0 k')
fill_err (Ok x) tells topics a b f0 f f' k0 k k' added two refused = tt
fill_err (Err e) tells topics a b f0 f f' k0 k k' added two refused =
    unfilled_saved tells topics a.hall.epoch a.hall b.hall f0 f f' k0 k k' added.faults added.adds e (subst (λ n. IsNotSaved e tells topics n f f' k k') (ap (λ (x : Held). x.hall.epoch) added.rest) refused) two
