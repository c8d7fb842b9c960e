-- What the words say, from what clap finds in them.
use Rattle.std.proofs.Common.{◌≡◌, ℕ, ◌<◌, List, [], ◌∷◌, Option, None, Some, refl, sym, ap, subst, ◌∙◌, inl, inr, Bool, true, map, zero, suc, length, get_or, arith, ◌≤◌}
use Rattle.std.specs.Prelude.{◌⊎◌, ◌↔◌, IsTrue, MatchOption, SomeIff, find, option_and_then, option_map, slice_get}
use Rattle.std.specs.Str.{bytes_eq}
use Rattle.std.proofs.lemmas.Option.{none-some, same_Some, slice_get-map, slice_get_past}
use Rattle.std.proofs.lemmas.Slice.Eq.{bytes_eq-Decides}
use Rattle.std.specs.Str.Parse.{digits_value}
use Rattle.clap.specs.Faults.{fault_of, is_simple_and_free}
use Rattle.clap.specs.Kinds.{HasKind, IsAmong, Kinds}
use Rattle.clap.specs.Facts.{Entry}
use Rattle.clap.specs.Matches.{first_value, found_of, matched_of}
use Rattle.clap.specs.Simple.{App, HasMatchesOf, is_simple, matches_of}
use Rattle.clap.specs.Walk.{Row, Text, row_of, rows_of}
use Rattle.clap.specs.declared.error.Error.{Error}
use Rattle.clap.specs.declared.error.kind.ErrorKind.{ErrorKind}
use Rattle.clap.specs.declared.error.kind.ErrorKind.TheVariants as kind
use Rattle.clap.specs.declared.parser.matches.ArgMatches.{ArgMatches}
use Rattle.clap.specs.declared.parser.matches.Found.{Found}
use Rattle.clap.specs.declared.parser.matches.MatchedArg.{MatchedArg}
use Rattle.clap.proofs.OnLiterals.{clap_on_literals}
use Rattle.clap.proofs.WalkLemmas.{find_row, first_value-rows}
use Rattle.nsq_base.specs.Options.{IsInRange, default_options}
use Rattle.nsq_base.specs.declared.options.Options.{Options}
use Rattle.nsqd_words.specs.Command.{HasOneAtMost, Words, found_in, nsqd_app, refusal_of, source_in, stop_flag, value_in}
use Rattle.nsqd_words.specs.Durations.{IsDuration}
use Rattle.nsqd_words.specs.Numbers.{AreDigits, FindsBelow, IsNumber}
use Rattle.nsqd_words.specs.Parts.{AsksByFound, AsksByKind, AsksClap, FindsOptions, with_sizes, with_stop, with_texts, with_times}
use Rattle.nsqd_words.specs.Requests.{Asks, AsksDrill, AsksHelp, AsksVersion, SaysOptions, IsForClap, IsUnknown, bad_drill, bad_value, refused}
use Rattle.nsqd_words.specs.Saying.{IsSameText, IsValue, SaysFlag, SaysSizes, SaysTexts, SaysTimes, SaysValues}
use Rattle.nsqd_words.specs.declared.options.Sizes.{Sizes}
use Rattle.nsqd_words.specs.declared.options.Texts.{Texts}
use Rattle.nsqd_words.specs.declared.options.Times.{Times}
use Rattle.nsqd_words.specs.declared.request.Request.{Request}
use Rattle.nsqd_words.specs.declared.request.Request.TheVariants as request
use Rattle.nsqd_words.proofs.PairLemmas.{durations_one}

-- ---- one option

-- what is read of the text that was found
module _ {X : Type 0} (Reads : Text → X → Type 0) (default : X) (f : Found) (id : Text) where
  pub value_given : (text : Text) (x : X) → Some text ≡ first_value f id → Reads text x → IsValue Reads default (value_in (rows_of f) id) x
  value_given text x e h = subst (λ (o : Option Text). IsValue Reads default o x) (e ∙ first_value-rows f id) h

  pub value_absent : (x : X) → None ≡ first_value f id → x ≡ default → IsValue Reads default (value_in (rows_of f) id) x
  value_absent x e h = let d : IsValue Reads default None x = h in
      subst (λ (o : Option Text). IsValue Reads default o x) (e ∙ first_value-rows f id) d

pub finds_value : (Reads : Text → ℕ → Type 0) (default : ℕ) (f : Found) (id text : Text) (limit : ℕ) (found : Option ℕ) → Some text ≡ first_value f id → FindsBelow limit (Reads text) found → FindsBelow limit (IsValue Reads default (value_in (rows_of f) id)) found
finds_value Reads default f id text limit found e h =
    subst (λ (o : Option Text). FindsBelow limit (IsValue Reads default o) found) (e ∙ first_value-rows f id) h

pub finds_number : (text : Text) (limit : ℕ) (found : Option ℕ) → SomeIff found (AreDigits 18 text) (digits_value 10 text) → FindsBelow limit (IsNumber text) found
finds_number text limit None h = λ n small p. h p.digits
finds_number text limit (Some n) h = record { digits = h.0; value = h.1 }

-- where the value came from that was found
pub source-rows : (f : Found) (id : Text) → option_and_then (λ a. a.source) (matched_of f id) ≡ source_in (rows_of f) id
source-rows f id = go (find (λ e. bytes_eq e.0.now id) f.entries.items) ∙ ap (option_and_then (λ (r : Row). r.source)) (sym (find_row f.entries.items id))
  where
    go : (o : Option Entry) → option_and_then (λ (a : MatchedArg). a.source) (option_map (λ e. e.1) o) ≡ option_and_then (λ (r : Row). r.source) (option_map row_of o)
    go None = refl
    go (Some e) = refl

-- ---- one record of options

numbers_one : (text : Text) (n m : ℕ) → IsNumber text n → IsNumber text m → n ≡ m
numbers_one text n m p q = p.value ∙ sym q.value

texts_one : (text x y : Text) → IsSameText text x → IsSameText text y → x ≡ y
texts_one text x y p q = p ∙ sym q

value_one : {X : Type 0} (Reads : Text → X → Type 0) → ((text : Text) (x y : X) → Reads text x → Reads text y → x ≡ y) → (default : X) (o : Option Text) (x y : X) → IsValue Reads default o x → IsValue Reads default o y → x ≡ y
value_one Reads one default None x y p q = p ∙ sym q
value_one Reads one default (Some text) x y p q = one text x y p q

same_options : (o p : Options) → o.tcp_address ≡ p.tcp_address → o.http_address ≡ p.http_address → o.broadcast_address ≡ p.broadcast_address → o.lookupd_tcp_address ≡ p.lookupd_tcp_address → o.data_path ≡ p.data_path
    → o.mem_queue_size ≡ p.mem_queue_size → o.max_bytes_per_file ≡ p.max_bytes_per_file → o.sync_every ≡ p.sync_every → o.sync_timeout ≡ p.sync_timeout → o.msg_timeout ≡ p.msg_timeout → o.max_msg_timeout ≡ p.max_msg_timeout
    → o.max_msg_size ≡ p.max_msg_size → o.max_body_size ≡ p.max_body_size → o.max_req_timeout ≡ p.max_req_timeout → o.max_rdy_count ≡ p.max_rdy_count → o.max_heartbeat_interval ≡ p.max_heartbeat_interval → o.http_stop ≡ p.http_stop → o ≡ p
same_options o p a b c d e f g h i j k l m n q r s =
    let spelled_out : Options = record { tcp_address = o.tcp_address; http_address = o.http_address; broadcast_address = o.broadcast_address; lookupd_tcp_address = o.lookupd_tcp_address; data_path = o.data_path; mem_queue_size = o.mem_queue_size; max_bytes_per_file = o.max_bytes_per_file; sync_every = o.sync_every; sync_timeout = o.sync_timeout; msg_timeout = o.msg_timeout; max_msg_timeout = o.max_msg_timeout; max_msg_size = o.max_msg_size; max_body_size = o.max_body_size; max_req_timeout = o.max_req_timeout; max_rdy_count = o.max_rdy_count; max_heartbeat_interval = o.max_heartbeat_interval; http_stop = o.http_stop } in
    let same : spelled_out ≡ p = rw (a, b, c, d, e, f, g, h, i, j, k, l, m, n, q, r, s) refl in same

-- words say one record of options at most
pub values_one : (rows : List Row) (o p : Options) → SaysValues rows o → SaysValues rows p → o ≡ p
values_one rows o p s t =
    let text = value_one IsSameText texts_one in
    let number = value_one IsNumber numbers_one in
    let duration = value_one IsDuration durations_one in
    same_options o p
    (text _ _ _ _ s.texts.tcp_address t.texts.tcp_address)
    (text _ _ _ _ s.texts.http_address t.texts.http_address)
    (text _ _ _ _ s.texts.broadcast_address t.texts.broadcast_address)
    (s.texts.lookupd_tcp_address ∙ sym t.texts.lookupd_tcp_address)
    (text _ _ _ _ s.texts.data_path t.texts.data_path)
    (number _ _ _ _ s.sizes.mem_queue_size t.sizes.mem_queue_size)
    (number _ _ _ _ s.sizes.max_bytes_per_file t.sizes.max_bytes_per_file)
    (number _ _ _ _ s.sizes.sync_every t.sizes.sync_every)
    (duration _ _ _ _ s.times.sync_timeout t.times.sync_timeout)
    (duration _ _ _ _ s.times.msg_timeout t.times.msg_timeout)
    (duration _ _ _ _ s.times.max_msg_timeout t.times.max_msg_timeout)
    (number _ _ _ _ s.sizes.max_msg_size t.sizes.max_msg_size)
    (number _ _ _ _ s.sizes.max_body_size t.sizes.max_body_size)
    (duration _ _ _ _ s.times.max_req_timeout t.times.max_req_timeout)
    (number _ _ _ _ s.sizes.max_rdy_count t.sizes.max_rdy_count)
    (duration _ _ _ _ s.times.max_heartbeat_interval t.times.max_heartbeat_interval)
    (s.http_stop ∙ sym t.http_stop)

-- the parts say the whole
pub says_all : (rows : List Row) (texts : Texts) (sizes : Sizes) (times : Times) (http_stop : Bool) → SaysTexts rows (with_texts default_options texts) → SaysSizes rows (with_sizes default_options sizes) → SaysTimes rows (with_times default_options times) → SaysFlag rows stop_flag http_stop
    → SaysValues rows (with_stop (with_times (with_sizes (with_texts default_options texts) sizes) times) http_stop)
says_all rows texts sizes times http_stop a b c d =
    record {
      texts = record { tcp_address = a.tcp_address; http_address = a.http_address; broadcast_address = a.broadcast_address; data_path = a.data_path; lookupd_tcp_address = a.lookupd_tcp_address };
      sizes = record { mem_queue_size = b.mem_queue_size; max_bytes_per_file = b.max_bytes_per_file; sync_every = b.sync_every; max_msg_size = b.max_msg_size; max_body_size = b.max_body_size; max_rdy_count = b.max_rdy_count };
      times = record { sync_timeout = c.sync_timeout; msg_timeout = c.msg_timeout; max_msg_timeout = c.max_msg_timeout; max_req_timeout = c.max_req_timeout; max_heartbeat_interval = c.max_heartbeat_interval };
      http_stop = d;
    }

-- the options that are said are found where they are in their ranges
pub finds_options : (rows : List Row) (o : Options) (found : Option Options) → SaysValues rows o → MatchOption found (IsInRange o → ⊥) (λ p. (p ≡ o) × IsInRange o) → FindsOptions rows found
finds_options rows o None says h = λ p s i. h (subst IsInRange (values_one rows p o s says) i)
finds_options rows o (Some p) says h = (subst (λ (q : Options). SaysValues rows q) (sym h.0) says, subst IsInRange (sym h.0) h.1)

-- ---- clap's answer

nsqd_is_simple : is_simple nsqd_app ≡ true
unfolding nsqd_app clap_on_literals
nsqd_is_simple = refl

nsqd_is_free : is_simple_and_free nsqd_app ≡ true
unfolding nsqd_app clap_on_literals
nsqd_is_free = refl

pub rows_are : (app : App) (words : Words) (m : ArgMatches) → app ≡ nsqd_app → HasMatchesOf app words m → rows_of (found_of m) ≡ found_in words
rows_are app words m e h = (h (ap is_simple e ∙ nsqd_is_simple)).0 ∙ ap (λ (a : App). matches_of a words) e

pub free : (app : App) (words : Words) → app ≡ nsqd_app → (is_simple_and_free app ≡ true → fault_of app words ≡ []) → refusal_of words ≡ []
free app words e h = ap (λ (a : App). fault_of a words) (sym e) ∙ h (ap is_simple_and_free e ∙ nsqd_is_free)

pub kinds_of : (app : App) (words : Words) (e : Error) → app ≡ nsqd_app → (is_simple_and_free app ≡ true → HasKind (fault_of app words) e) → HasKind (refusal_of words) e
kinds_of app words error e h = subst (λ (a : App). HasKind (fault_of a words) error) e (h (ap is_simple_and_free e ∙ nsqd_is_free))

-- the kind of an error is the one kind of the refusal
only_kind : (kinds : Kinds) (why : ErrorKind) → HasOneAtMost kinds → IsAmong why kinds → kinds ≡ why ∷ []
only_kind [] why one h = absurd h
only_kind (k ∷ []) why one (inl e) = ap (λ (x : ErrorKind). x ∷ []) (sym e)
only_kind (k ∷ []) why one (inr h) = absurd h
only_kind (k ∷ l ∷ more) why one h = absurd one

-- what is asked for by clap's error
pub asked_by_kind : (kinds : Kinds) (rows : List Row) (why : ErrorKind) (r : Request) → HasOneAtMost kinds → (why ≡ kind.OutOfMemory) ⊎ IsAmong why kinds → AsksByKind why r → AsksClap kinds rows r
asked_by_kind kinds rows why (request.Serve o) one h a = absurd a
asked_by_kind kinds rows why (request.Drill seed count) one h a = absurd a
asked_by_kind kinds rows why (request.Help text) one (inl e) a = absurd (cc)
asked_by_kind kinds rows why (request.Help text) one (inr h) a = only_kind kinds why one h ∙ ap (λ (x : ErrorKind). x ∷ []) a
asked_by_kind kinds rows why (request.Version text) one (inl e) a = let f : why ≡ kind.DisplayVersion = a.0 in absurd (cc)
asked_by_kind kinds rows why (request.Version text) one (inr h) a = (only_kind kinds why one h ∙ ap (λ (x : ErrorKind). x ∷ []) a.0, a.1)
asked_by_kind kinds rows why request.Unknown one (inl e) a = absurd (a.0 e)
asked_by_kind kinds rows why request.Unknown one (inr h) a = inr (why, only_kind kinds why one h, a.1, a.2)

-- what is asked for by clap's matches
pub asked_by_found : (kinds : Kinds) (rows found : List Row) (r : Request) → kinds ≡ [] → found ≡ rows → AsksByFound found r → AsksClap kinds rows r
asked_by_found kinds rows found (request.Serve o) e f a = (e, subst (λ (xs : List Row). SaysValues xs o) f a.0, a.1)
asked_by_found kinds rows found (request.Drill seed count) e f a = absurd a
asked_by_found kinds rows found (request.Help text) e f a = absurd a
asked_by_found kinds rows found (request.Version text) e f a = absurd a
asked_by_found kinds rows found request.Unknown e f a = inl (e, λ o s i. a o (subst (λ (xs : List Row). SaysValues xs o) (sym f) s) i)

-- what clap's words ask for
pub asked_of_clap : (words : Words) (r : Request) → IsForClap words → AsksClap (refusal_of words) (found_in words) r → Asks words r
asked_of_clap words (request.Serve o) for_clap h = (record { for_clap = for_clap; taken = h.0; values = h.1 }, h.2)
asked_of_clap words (request.Drill seed count) for_clap h = absurd h
asked_of_clap words (request.Help text) for_clap h = record { for_clap = for_clap; asked = h }
asked_of_clap words (request.Version text) for_clap h = (record { for_clap = for_clap; asked = h.0 }, h.1)
asked_of_clap words request.Unknown for_clap (inl h) = bad_value (record { for_clap = for_clap; taken = h.0; bad = h.1 })
asked_of_clap words request.Unknown for_clap (inr h) = refused (record { for_clap = for_clap; why = h.0; refused = h.1; no_help = h.2; no_version = h.3 })

-- words of a drill aren't unknown
pub drills_known : (words : Words) (seed count : ℕ) → AsksDrill words seed count → IsUnknown words → ⊥
drills_known words seed count a (bad_drill b) = b.bad seed count a
drills_known words seed count a (refused b) = b.for_clap (ap (λ (w : Words). slice_get w 1) a.words_are)
drills_known words seed count a (bad_value b) = b.for_clap (ap (λ (w : Words). slice_get w 1) a.words_are)

-- ---- a drill's first word

pub word_at : {X : Type 0} (xs : List X) (k : ℕ) (x : X) → k < length xs → x ≡ get_or xs k x → slice_get xs k ≡ Some x
word_at {X} [] k x l e = absurd (omega arith)
word_at {X} (y ∷ ys) zero x l e = ap (λ (z : X). Some z) (sym e)
word_at {X} (y ∷ ys) (suc k) x l e = word_at ys k x (omega arith) e

-- whether a word is this text
pub is_word : {X : Type 0} (text : X → Text) (xs : List X) (k : ℕ) (x : X) (d : Text) (b : Bool) → k < length xs → x ≡ get_or xs k x → b ≡ bytes_eq (text x) d → IsTrue b ↔ (slice_get (map text xs) k ≡ Some d)
is_word text xs k x d b l e f =
    let there : slice_get (map text xs) k ≡ Some (text x) = slice_get-map text xs k ∙ ap (option_map text) (word_at xs k x l e) in
    let same = bytes_eq-Decides (text x) d in
    (λ t. there ∙ ap (λ (y : Text). Some y) (same.0 (sym f ∙ t)), λ h. f ∙ same.1 (same_Some (text x) d (sym there ∙ h)))

-- no word is, where there are too few
pub no_word : {X : Type 0} (text : X → Text) (xs : List X) (k : ℕ) (d : Text) → length xs ≤ k → slice_get (map text xs) k ≡ Some d → ⊥
no_word text xs k d l e = none-some d (sym (slice_get-map text xs k ∙ ap (option_map text) (slice_get_past xs k l)) ∙ e)

nil_or_one : (k : ErrorKind) → [] ≡ k ∷ [] → ⊥
nil_or_one k e = cc

same_kind : (k l : ErrorKind) → k ∷ [] ≡ l ∷ [] → k ≡ l
same_kind k l e = cc

-- words that say options in their ranges aren't unknown
options_known : (words : Words) (o : Options) → SaysOptions words o → IsInRange o → IsUnknown words → ⊥
options_known words o s i (bad_drill b) = s.for_clap b.begins
options_known words o s i (refused b) = absurd (nil_or_one b.why (sym s.taken ∙ b.refused))
options_known words o s i (bad_value b) = b.bad o s.values i

-- words that ask for help aren't
help_known : (words : Words) → AsksHelp words → IsUnknown words → ⊥
help_known words h (bad_drill b) = h.for_clap b.begins
help_known words h (refused b) = b.no_help (same_kind b.why kind.DisplayHelp (sym b.refused ∙ h.asked))
help_known words h (bad_value b) = nil_or_one kind.DisplayHelp (sym b.taken ∙ h.asked)

-- nor those that ask for the version
version_known : (words : Words) → AsksVersion words → IsUnknown words → ⊥
version_known words h (bad_drill b) = h.for_clap b.begins
version_known words h (refused b) = b.no_version (same_kind b.why kind.DisplayVersion (sym b.refused ∙ h.asked))
version_known words h (bad_value b) = nil_or_one kind.DisplayVersion (sym b.taken ∙ h.asked)

-- so what unknown words ask for is Unknown
pub unknown_is_unknown : (words : Words) (asked : Request) → Asks words asked → IsUnknown words → asked ≡ request.Unknown
unknown_is_unknown words (request.Serve o) h u = absurd (options_known words o h.0 h.1 u)
unknown_is_unknown words (request.Drill seed count) h u = absurd (drills_known words seed count h u)
unknown_is_unknown words (request.Help text) h u = absurd (help_known words h u)
unknown_is_unknown words (request.Version text) h u = absurd (version_known words h.0 u)
unknown_is_unknown words request.Unknown h u = refl
