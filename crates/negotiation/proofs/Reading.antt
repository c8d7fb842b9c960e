-- What a client says of itself, by the value of its JSON.
use Rattle.std.proofs.Common.{◌≡◌, ℕ, Bool, true, false, if◌then◌else◌, List, Some, None, option_and_then, refl, ap, ◌∙◌}
use Rattle.std.specs.Prelude.{IsUtf8}
use Rattle.std.specs.Str.{is_utf8}
use Rattle.std.proofs.lemmas.Str.{IsUtf8-from_is_utf8, is_utf8-from_IsUtf8}
use Rattle.serde_json.specs.Data.{Data}
use Rattle.serde_json.specs.Find.{as_object}
use Rattle.serde_json.specs.Read.{read}
use Rattle.nsq_base.specs.declared.options.Options.{Options}
use Rattle.broker_history.specs.Identify.{accepted, identity_of}

-- a text that isn't JSON
no_text : (body : List ℕ) (b : Bool) → is_utf8 body ≡ b → (IsUtf8 body → read body ≡ None) → (if b then option_and_then as_object (read body) else None) ≡ None
no_text body true e none = ap (option_and_then as_object) (none (IsUtf8-from_is_utf8 body e))
no_text body false e none = refl

pub no_identity : (o : Options) (body : List ℕ) → (IsUtf8 body → read body ≡ None) → identity_of o body ≡ None
no_identity o body none = ap (option_and_then (accepted o)) (no_text body (is_utf8 body) refl none)

-- a text that is
pub identity_is : (o : Options) (body : List ℕ) (d : Data) → IsUtf8 body → read body ≡ Some d → identity_of o body ≡ option_and_then (accepted o) (as_object d)
identity_is o body d utf8 is = ap (option_and_then (accepted o)) (ap (λ (b : Bool). if b then option_and_then as_object (read body) else None) (is_utf8-from_IsUtf8 body utf8) ∙ ap (option_and_then as_object) is)
