-- What a client says of itself, by the value of its JSON.
use Rattle.std.proofs.Common.{◌≡◌, ℕ, ◌*◌, ◌/◌, ◌==◌, ℤ, pos, negsuc, ◌++◌, decimal, codes, append_assoc, arith, Bool, true, false, if◌then◌else◌, List, [], Option, Some, None, is_some, option_and_then, refl, sym, ap, ◌∙◌}
use Rattle.std.specs.Prelude.{IsUtf8}
use Rattle.std.specs.Fmt.{digits}
use Rattle.std.specs.Str.{is_utf8}
use Rattle.std.proofs.lemmas.Str.{IsUtf8-from_is_utf8, is_utf8-from_IsUtf8}
use Rattle.serde_json.proofs.OnLiterals.{serde_json_on_literals}
use Rattle.serde_json.specs.Data.{Data, Members, object}
use Rattle.serde_json.specs.Find.{get, get_member, as_object}
use Rattle.serde_json.specs.Read.{read}
use Rattle.nsq_base.specs.declared.options.Options.{Options}
use Rattle.broker_history.specs.Identify.{Identity, accepted, accepts, said_by, flag_in, number_in, identity_of, features_text, timeout_in}
use Rattle.broker_history.specs.Reply.{identified, error, response, ok_frame}
use Rattle.std.proofs.lemmas.Bool.{false≢true}
use Rattle.broker_state.specs.Features.{features_by, timeout_ms}

-- a text that isn't JSON
no_text : (body : List ℕ) (b : Bool) → is_utf8 body ≡ b → (IsUtf8 body → read body ≡ None) → (if b then option_and_then as_object (read body) else None) ≡ None
no_text body true e none = ap (option_and_then as_object) (none (IsUtf8-from_is_utf8 body e))
no_text body false e none = refl

pub no_identity : (o : Options) (body : List ℕ) → (IsUtf8 body → read body ≡ None) → identity_of o body ≡ None
no_identity o body none = ap (option_and_then (accepted o)) (no_text body (is_utf8 body) refl none)

-- a text that is
pub identity_is : (o : Options) (body : List ℕ) (d : Data) → IsUtf8 body → read body ≡ Some d → identity_of o body ≡ option_and_then (accepted o) (as_object d)
identity_is o body d utf8 is = ap (option_and_then (accepted o)) (ap (λ (b : Bool). if b then option_and_then as_object (read body) else None) (is_utf8-from_IsUtf8 body utf8) ∙ ap (option_and_then as_object) is)

regroup : (a b c d e f g : List ℕ) → (((((a ++ b) ++ c) ++ d) ++ e) ++ f) ++ g ≡ a ++ (b ++ (c ++ (d ++ (e ++ (f ++ g)))))
regroup a b c d e f g = rw (append_assoc (((((a ++ b) ++ c) ++ d) ++ e)) f g, append_assoc ((((a ++ b) ++ c) ++ d)) e (f ++ g), append_assoc (((a ++ b) ++ c)) d (e ++ (f ++ g)), append_assoc ((a ++ b)) c (d ++ (e ++ (f ++ g))), append_assoc a b (c ++ (d ++ (e ++ (f ++ g))))) refl

-- the text as it is put together
pub put_together : (t0 t1 t2 t3 t4 b n1 n2 n3 n4 : List ℕ) (m1 m2 m3 k1 k2 : ℕ) → t0 ≡ [] → m1 ≡ k1 → m2 ≡ k2 → t1 ≡ (t0 ++ n1) ++ decimal m1 → t2 ≡ (t1 ++ n2) ++ decimal m2 → t3 ≡ (t2 ++ n3) ++ decimal m3 → t4 ≡ t3 ++ n4 → b ≡ t4
    → b ≡ (((((n1 ++ decimal k1) ++ n2) ++ decimal k2) ++ n3) ++ decimal m3) ++ n4
put_together t0 t1 t2 t3 t4 b n1 n2 n3 n4 m1 m2 m3 k1 k2 e0 f1 f2 e1 e2 e3 e4 is =
    let one : t1 ≡ n1 ++ decimal k1 = e1 ∙ ap (λ t. (t ++ n1) ++ decimal m1) e0 ∙ ap (λ m. n1 ++ decimal m) f1 in
    let two : t2 ≡ ((n1 ++ decimal k1) ++ n2) ++ decimal k2 = e2 ∙ ap (λ t. (t ++ n2) ++ decimal m2) one ∙ ap (λ m. ((n1 ++ decimal k1) ++ n2) ++ decimal m) f2 in
    is ∙ e4 ∙ ap (λ t. t ++ n4) (e3 ∙ ap (λ t. (t ++ n3) ++ decimal m3) two)

-- the text of the answer, written out
pub features_are : (o : Options) (said : Identity) → features_by o (said.timeout / 1000000) ≡ features_text o said
unfolding serde_json_on_literals digits
features_are o said =
    regroup (codes "{\"auth_required\":false,\"deflate\":false,\"deflate_level\":0,\"max_deflate_level\":0,\"max_msg_timeout\":") (decimal (o.max_msg_timeout / 1000000)) (codes ",\"max_rdy_count\":") (decimal o.max_rdy_count) (codes ",\"msg_timeout\":") (decimal (said.timeout / 1000000))
    (codes ",\"sample_rate\":0,\"snappy\":false,\"tls_v1\":false,\"version\":\"1.0.0\"}")

milliseconds_one : (now : Bool) (a ms : ℕ) → (if now then a else ms * 1000000) / 1000000 ≡ (if now then a / 1000000 else ms)
milliseconds_one true a ms = refl
milliseconds_one false a ms = omega arith

pub timeout_is : (o : Options) (n : Option ℤ) → timeout_in o n / 1000000 ≡ timeout_ms o n
timeout_is o None = refl
timeout_is o (Some (pos ms)) = milliseconds_one (ms == 0) o.msg_timeout ms
timeout_is o (Some (negsuc k)) = refl

bad_one : (o : Options) (ms : Option Members) → is_some ms ≡ false → identified o (option_and_then (accepted o) ms) ≡ error (codes "E_BAD_BODY bad JSON")
bad_one o None e = refl
bad_one o (Some ms) e = absurd (false≢true (sym e))

by_good : (o : Options) (ms : Members) (b : Bool) → b ≡ false → identified o (if b then Some (said_by o ms) else None) ≡ error (codes "E_BAD_BODY bad JSON")
by_good o ms true e = absurd (false≢true (sym e))
by_good o ms false e = refl

by_ok : (o : Options) (ms : Members) (b n : Bool) → b ≡ true → n ≡ false → identified o (if b then Some (record (said_by o ms) { negotiates = n }) else None) ≡ ok_frame
by_ok o ms true false e f = refl
by_ok o ms true true e f = absurd (false≢true (sym f))
by_ok o ms false n e f = absurd (false≢true e)

by_text : (o : Options) (ms : Members) (b n : Bool) → b ≡ true → n ≡ true → identified o (if b then Some (record (said_by o ms) { negotiates = n }) else None) ≡ response (features_text o (said_by o ms))
by_text o ms true true e f = refl
by_text o ms true false e f = absurd (false≢true f)
by_text o ms false n e f = absurd (false≢true e)

-- what is answered, by what was found of the value
pub bad_value : (o : Options) (d : Data) → is_some (as_object d) ≡ false → identified o (option_and_then (accepted o) (as_object d)) ≡ error (codes "E_BAD_BODY bad JSON")
bad_value o d none = bad_one o (as_object d) none

pub answer_is : (o : Options) (d : Data) (good negotiates : Bool) → is_some (as_object d) ≡ true → ((ms : Members) → d ≡ object ms → good ≡ accepts o ms) → negotiates ≡ flag_in (get (codes "feature_negotiation") d)
    → (good ≡ false → identified o (option_and_then (accepted o) (as_object d)) ≡ error (codes "E_BAD_BODY bad JSON"))
    × (good ≡ true → negotiates ≡ false → identified o (option_and_then (accepted o) (as_object d)) ≡ ok_frame)
    × (good ≡ true → negotiates ≡ true → identified o (option_and_then (accepted o) (as_object d)) ≡ response (features_by o (timeout_ms o (number_in (get (codes "msg_timeout") d)))))
answer_is o (object ms) good negotiates some by flag =
    let is : good ≡ accepts o ms = by ms refl in (
      λ e. by_good o ms (accepts o ms) (sym is ∙ e),
      λ e f. by_ok o ms (accepts o ms) (flag_in (get_member (codes "feature_negotiation") ms)) (sym is ∙ e) (sym flag ∙ f),
      λ e f. by_text o ms (accepts o ms) (flag_in (get_member (codes "feature_negotiation") ms)) (sym is ∙ e) (sym flag ∙ f)
          ∙ ap response (sym (features_are o (said_by o ms)) ∙ ap (features_by o) (timeout_is o (number_in (get_member (codes "msg_timeout") ms)))),
    )
answer_is o d good negotiates some by flag = absurd (false≢true some)
