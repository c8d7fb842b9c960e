-- What a client said, put together from its parts.
use Rattle.std.proofs.Common.{◌≡◌, ℕ, ℤ, Bool, true, false, not, ◌&&◌, if◌then◌else◌, List, codes, Option, Some, None, is_some, option_and_then, refl, sym, ap, subst, ◌∙◌}
use Rattle.std.proofs.lemmas.Bool.{false≢true}
use Rattle.serde_json.specs.Data.{Data, null, boolean, number, string, array, Members, object}
use Rattle.serde_json.specs.Find.{as_object, get, get_member}
use Rattle.nsq_base.specs.declared.options.Options.{Options}
use Rattle.broker_history.specs.Identify.{Identity as Meant, accepted, accepts, said_by, has_flags, has_numbers, has_texts, heartbeat_in, is_heartbeat, is_number, is_rate, is_timeout, number_in, timeout_in}
use Rattle.negotiation.specs.declared.identity.Texts.{Texts}
use Rattle.negotiation.specs.declared.times.Times.{Times}
use Rattle.negotiation.specs.Parts.{where_true, negotiates_in, texts_in, times_in}

-- a part is good exactly where it is there
is_good : {X : Type 0} (good : Bool) (x : X) (part : Option X) → part ≡ where_true good x → is_some part ≡ good
is_good true x part e = ap is_some e
is_good false x part e = ap is_some e

is_same : {X : Type 0} (good : Bool) (x y : X) → Some y ≡ where_true good x → Some y ≡ Some x
is_same true x y e = e
is_same false x y e = absurd (false≢true (sym (ap is_some e)))

-- three are good where each is
no_second : (a b c : Bool) → b ≡ false → (a && b && c) ≡ false
no_second true b c e = ap (λ x. x && c) e
no_second false b c e = refl

no_third : (a b c : Bool) → c ≡ false → (a && b && c) ≡ false
no_third true true c e = e
no_third true false c e = refl
no_third false b c e = refl

all_three : (a b c : Bool) → a ≡ true → b ≡ true → c ≡ true → (a && b && c) ≡ true
all_three a b c e f g = ap (λ x. x && b && c) e ∙ ap (λ x. x && c) f ∙ g

refused : (o : Options) (ms : Members) → accepts o ms ≡ false → None ≡ accepted o ms
refused o ms e = sym (ap (λ (b : Bool). if b then Some (said_by o ms) else None) e)

-- times of which each is there
abbrev timed : Option (Option ℕ) → Option ℕ → Option Times
timed (Some heartbeat) (Some timeout) = Some (record { heartbeat = heartbeat; timeout = timeout })
timed _ _ = None

-- of several tests one isn't met
first : (a rest : Bool) → a ≡ false → (a && rest) ≡ false
first a rest e = ap (λ x. x && rest) e

behind : (a rest : Bool) → rest ≡ false → (a && rest) ≡ false
behind true rest e = e
behind false rest e = refl

-- a number is one exactly where it is there
number_is : (n : Option ℤ) → is_number n ≡ is_some n
number_is None = refl
number_is (Some z) = refl

-- times of which each is good
all_numbers : (a b c d e f : Bool) (heartbeat heartbeat' : Option ℕ) (timeout timeout' : ℕ) → Some heartbeat ≡ where_true a heartbeat' → Some timeout ≡ where_true b timeout'
    → c ≡ true → d ≡ true → e ≡ true → f ≡ true
    → Some (let times : Times = record { heartbeat = heartbeat; timeout = timeout } in times) ≡ where_true (a && b && c && d && e && f) (let times : Times = record { heartbeat = heartbeat'; timeout = timeout' } in times)
all_numbers true true true true true true heartbeat heartbeat' timeout timeout' h t pc pd pe pf =
    ap (λ (x : Option (Option ℕ)). timed x (Some timeout)) h ∙ ap (λ (x : Option ℕ). timed (Some heartbeat') x) t
all_numbers false b c d e f heartbeat heartbeat' timeout timeout' h t pc pd pe pf = absurd (false≢true (sym (ap is_some h)))
all_numbers true false c d e f heartbeat heartbeat' timeout timeout' h t pc pd pe pf = absurd (false≢true (sym (ap is_some t)))
all_numbers true true false d e f heartbeat heartbeat' timeout timeout' h t pc pd pe pf = absurd (false≢true pc)
all_numbers true true true false e f heartbeat heartbeat' timeout timeout' h t pc pd pe pf = absurd (false≢true pd)
all_numbers true true true true false f heartbeat heartbeat' timeout timeout' h t pc pd pe pf = absurd (false≢true pe)
all_numbers true true true true true false heartbeat heartbeat' timeout timeout' h t pc pd pe pf = absurd (false≢true pf)

module _ (o : Options) (d : Data) (ms : Members) (is : d ≡ object ms) where
  -- the number that a member is
  abbrev member : List ℕ → Option ℤ
  member key = number_in (get_member key ms)

  found : (key : List ℕ) (n : Option ℤ) → n ≡ number_in (get key d) → member key ≡ n
  found key n e = sym (e ∙ ap (λ (x : Data). number_in (get key x)) is)

  abbrev h : Bool
  h = is_heartbeat o (member (codes "heartbeat_interval"))

  abbrev t : Bool
  t = is_timeout o (member (codes "msg_timeout"))

  abbrev r : Bool
  r = is_rate (member (codes "sample_rate"))

  abbrev s : Bool
  s = is_number (member (codes "output_buffer_size"))

  abbrev b : Bool
  b = is_number (member (codes "output_buffer_timeout"))

  abbrev l : Bool
  l = is_number (member (codes "deflate_level"))

  unless_good : has_numbers o ms ≡ false → None ≡ where_true (has_numbers o ms) (times_in o ms)
  unless_good e = sym (ap (λ (good : Bool). where_true good (times_in o ms)) e)

  -- one of the numbers isn't good
  pub no_heartbeat : (n : Option ℤ) (span : Option (Option ℕ)) → n ≡ number_in (get (codes "heartbeat_interval") d) → span ≡ where_true (is_heartbeat o n) (heartbeat_in o n) → is_some span ≡ false
      → None ≡ where_true (has_numbers o ms) (times_in o ms)
  no_heartbeat n span e is none =
      unless_good (first (h && t && r && s && b) l (first (h && t && r && s) b (first (h && t && r) s (first (h && t) r (first h t (ap (is_heartbeat o) (found (codes "heartbeat_interval") n e) ∙ sym (is_good (is_heartbeat o n) (heartbeat_in o n) span is) ∙ none))))))

  pub no_timeout : (n : Option ℤ) (span : Option ℕ) → n ≡ number_in (get (codes "msg_timeout") d) → span ≡ where_true (is_timeout o n) (timeout_in o n) → is_some span ≡ false
      → None ≡ where_true (has_numbers o ms) (times_in o ms)
  no_timeout n span e is none =
      unless_good (first (h && t && r && s && b) l (first (h && t && r && s) b (first (h && t && r) s (first (h && t) r (behind h t (ap (is_timeout o) (found (codes "msg_timeout") n e) ∙ sym (is_good (is_timeout o n) (timeout_in o n) span is) ∙ none))))))

  pub no_rate : (n : Option ℤ) (good : Bool) → n ≡ number_in (get (codes "sample_rate") d) → good ≡ is_rate n → good ≡ false → None ≡ where_true (has_numbers o ms) (times_in o ms)
  no_rate n good e is none =
      unless_good (first (h && t && r && s && b) l (first (h && t && r && s) b (first (h && t && r) s (behind (h && t) r (ap is_rate (found (codes "sample_rate") n e) ∙ sym is ∙ none)))))

  absent : (key : List ℕ) (n : Option ℤ) (none : Bool) → n ≡ number_in (get key d) → is_some n ≡ not none → none ≡ true → is_number (member key) ≡ false
  absent key n none e is so = ap is_number (found key n e) ∙ number_is n ∙ is ∙ ap not so

  there : (key : List ℕ) (n : Option ℤ) (none : Bool) → n ≡ number_in (get key d) → is_some n ≡ not none → none ≡ false → is_number (member key) ≡ true
  there key n none e is so = ap is_number (found key n e) ∙ number_is n ∙ is ∙ ap not so

  pub no_size : (n : Option ℤ) (none : Bool) → n ≡ number_in (get (codes "output_buffer_size") d) → is_some n ≡ not none → none ≡ true → None ≡ where_true (has_numbers o ms) (times_in o ms)
  no_size n none e is so =
      unless_good (first (h && t && r && s && b) l (first (h && t && r && s) b (behind (h && t && r) s (absent (codes "output_buffer_size") n none e is so))))

  pub no_span : (n : Option ℤ) (none : Bool) → n ≡ number_in (get (codes "output_buffer_timeout") d) → is_some n ≡ not none → none ≡ true → None ≡ where_true (has_numbers o ms) (times_in o ms)
  no_span n none e is so =
      unless_good (first (h && t && r && s && b) l (behind (h && t && r && s) b (absent (codes "output_buffer_timeout") n none e is so)))

  pub no_level : (n : Option ℤ) (none : Bool) → n ≡ number_in (get (codes "deflate_level") d) → is_some n ≡ not none → none ≡ true → None ≡ where_true (has_numbers o ms) (times_in o ms)
  no_level n none e is so =
      unless_good (behind (h && t && r && s && b) l (absent (codes "deflate_level") n none e is so))

  -- or each is
  pub good_times : (n n-2 n-3 n-4 n-5 n-6 : Option ℤ) (heartbeat : Option ℕ) (timeout : ℕ) (good none none-2 none-3 : Bool)
      → n ≡ number_in (get (codes "heartbeat_interval") d) → Some heartbeat ≡ where_true (is_heartbeat o n) (heartbeat_in o n)
      → n-2 ≡ number_in (get (codes "msg_timeout") d) → Some timeout ≡ where_true (is_timeout o n-2) (timeout_in o n-2)
      → n-3 ≡ number_in (get (codes "sample_rate") d) → good ≡ is_rate n-3 → good ≡ true
      → n-4 ≡ number_in (get (codes "output_buffer_size") d) → is_some n-4 ≡ not none → none ≡ false
      → n-5 ≡ number_in (get (codes "output_buffer_timeout") d) → is_some n-5 ≡ not none-2 → none-2 ≡ false
      → n-6 ≡ number_in (get (codes "deflate_level") d) → is_some n-6 ≡ not none-3 → none-3 ≡ false
      → Some (let times : Times = record { heartbeat = heartbeat; timeout = timeout } in times) ≡ where_true (has_numbers o ms) (times_in o ms)
  good_times n n-2 n-3 n-4 n-5 n-6 heartbeat timeout good none none-2 none-3 e hb e-2 to e-3 rate met e-4 some so e-5 some-2 so-2 e-6 some-3 so-3 =
      all_numbers h t r s b l heartbeat (heartbeat_in o (member (codes "heartbeat_interval"))) timeout (timeout_in o (member (codes "msg_timeout")))
      (subst (λ (x : Option ℤ). Some heartbeat ≡ where_true (is_heartbeat o x) (heartbeat_in o x)) (sym (found (codes "heartbeat_interval") n e)) hb)
      (subst (λ (x : Option ℤ). Some timeout ≡ where_true (is_timeout o x) (timeout_in o x)) (sym (found (codes "msg_timeout") n-2 e-2)) to)
      (ap is_rate (found (codes "sample_rate") n-3 e-3) ∙ sym rate ∙ met)
      (there (codes "output_buffer_size") n-4 none e-4 some so)
      (there (codes "output_buffer_timeout") n-5 none-2 e-5 some-2 so-2)
      (there (codes "deflate_level") n-6 none-3 e-6 some-3 so-3)

-- where one isn't good, all are refused
pub no_flags : (o : Options) (d : Data) (flag : Option Bool) → ((ms : Members) → d ≡ object ms → flag ≡ where_true (has_flags ms) (negotiates_in ms)) → is_some flag ≡ false → None ≡ option_and_then (accepted o) (as_object d)
no_flags o (object ms) flag is none =
    refused o ms (no_second (has_texts ms) (has_flags ms) (has_numbers o ms) (sym (is_good (has_flags ms) (negotiates_in ms) flag (is ms refl)) ∙ none))
no_flags o null flag is none = refl
no_flags o (boolean b) flag is none = refl
no_flags o (number n) flag is none = refl
no_flags o (string s) flag is none = refl
no_flags o (array ds) flag is none = refl

pub no_times : (o : Options) (d : Data) (times : Option Times) → ((ms : Members) → d ≡ object ms → times ≡ where_true (has_numbers o ms) (times_in o ms)) → is_some times ≡ false → None ≡ option_and_then (accepted o) (as_object d)
no_times o (object ms) times is none =
    refused o ms (no_third (has_texts ms) (has_flags ms) (has_numbers o ms) (sym (is_good (has_numbers o ms) (times_in o ms) times (is ms refl)) ∙ none))
no_times o null times is none = refl
no_times o (boolean b) times is none = refl
no_times o (number n) times is none = refl
no_times o (string s) times is none = refl
no_times o (array ds) times is none = refl

-- what these parts say together
abbrev pub joined : Option Bool → Option Times → Option Texts → Option Meant
joined (Some negotiates) (Some times) (Some texts) = Some (record {
  client_id = texts.client_id;
  hostname = texts.hostname;
  user_agent = texts.user_agent;
  negotiates = negotiates;
  heartbeat = times.heartbeat;
  timeout = times.timeout;
})
joined _ _ _ = None

-- all are good
pub all_said : (o : Options) (d : Data) (flag : Bool) (times : Times) (texts : Texts) → is_some (as_object d) ≡ true
    → ((ms : Members) → d ≡ object ms → Some flag ≡ where_true (has_flags ms) (negotiates_in ms))
    → ((ms : Members) → d ≡ object ms → Some times ≡ where_true (has_numbers o ms) (times_in o ms))
    → ((ms : Members) → d ≡ object ms → Some texts ≡ where_true (has_texts ms) (texts_in ms))
    → joined (Some flag) (Some times) (Some texts) ≡ option_and_then (accepted o) (as_object d)
all_said o (object ms) flag times texts some is_flag is_times is_texts =
    ap (λ (f : Option Bool). joined f (Some times) (Some texts)) (is_same (has_flags ms) (negotiates_in ms) flag (is_flag ms refl))
    ∙ ap (λ (t : Option Times). joined (Some (negotiates_in ms)) t (Some texts)) (is_same (has_numbers o ms) (times_in o ms) times (is_times ms refl))
    ∙ ap (joined (Some (negotiates_in ms)) (Some (times_in o ms))) (is_same (has_texts ms) (texts_in ms) texts (is_texts ms refl))
    ∙ sym (ap (λ (b : Bool). if b then Some (said_by o ms) else None) (all_three (has_texts ms) (has_flags ms) (has_numbers o ms)
    (sym (is_good (has_texts ms) (texts_in ms) (Some texts) (is_texts ms refl)))
    (sym (is_good (has_flags ms) (negotiates_in ms) (Some flag) (is_flag ms refl)))
    (sym (is_good (has_numbers o ms) (times_in o ms) (Some times) (is_times ms refl)))))
all_said o null flag times texts some is_flag is_times is_texts = absurd (false≢true some)
all_said o (boolean b) flag times texts some is_flag is_times is_texts = absurd (false≢true some)
all_said o (number n) flag times texts some is_flag is_times is_texts = absurd (false≢true some)
all_said o (string s) flag times texts some is_flag is_times is_texts = absurd (false≢true some)
all_said o (array ds) flag times texts some is_flag is_times is_texts = absurd (false≢true some)
