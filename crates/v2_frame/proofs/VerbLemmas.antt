-- Bytes that are compared.
use Rattle.std.proofs.Common.{◌≡◌, ◌≢◌, ℕ, Bool, List, true, false, true≢false, sym, ◌∙◌}
use Rattle.std.specs.Str.{bytes_eq}
use Rattle.std.proofs.lemmas.Slice.Eq.{bytes_eq-Decides}
use Rattle.v2_frame.specs.declared.heading.Verb.{Verb}
use Rattle.v2_frame.specs.declared.heading.Verb.TheVariants as verb
use Rattle.v2_frame.specs.Parts.{spelled, IsNoVerb}

-- bytes that were found to be the same, or not
pub are_same : {found : Bool} (one other : List ℕ) → found ≡ bytes_eq one other → found ≡ true → one ≡ other
are_same one other is so = (bytes_eq-Decides one other).0 (sym is ∙ so)

pub not_same : {found : Bool} (one other : List ℕ) → found ≡ bytes_eq one other → found ≡ false → one ≢ other
not_same one other is failed = λ e. true≢false (sym ((bytes_eq-Decides one other).1 e) ∙ sym is ∙ failed)

-- a word that is none of the verbs
pub no_verb : (word : List ℕ) → word ≢ spelled verb.Identify → word ≢ spelled verb.Sub → word ≢ spelled verb.Pub → word ≢ spelled verb.Mpub → word ≢ spelled verb.Dpub → word ≢ spelled verb.Rdy → word ≢ spelled verb.Fin → word ≢ spelled verb.Req → word ≢ spelled verb.Touch → word ≢ spelled verb.Cls → word ≢ spelled verb.Nop → IsNoVerb word
no_verb word a b c d e f g h i j k = λ v. each v
  where
    each : (v : Verb) → word ≢ spelled v
    each verb.Identify = a
    each verb.Sub = b
    each verb.Pub = c
    each verb.Mpub = d
    each verb.Dpub = e
    each verb.Rdy = f
    each verb.Fin = g
    each verb.Req = h
    each verb.Touch = i
    each verb.Cls = j
    each verb.Nop = k
