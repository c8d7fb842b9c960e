-- What a client that negotiates is answered.
use Rattle.std.proofs.Common.{◌≡◌, ℕ, ◌/◌, ◌++◌, decimal, codes, append_assoc, Bool, true, if◌then◌else◌, List, Option, Some, option_map, Bor, refl, sym, ap, ◌∙◌}
use Rattle.std.specs.Fmt.{digits}
use Rattle.serde_json.proofs.OnLiterals.{serde_json_on_literals}
use Rattle.nsq_base.specs.declared.options.Options.{Options}
use Rattle.broker_history.specs.Identify.{Identity as Meant, features_text}
use Rattle.broker_history.specs.Reply.{identified, response, ok_frame}
use Rattle.negotiation.specs.declared.identity.Identity.{Identity}
use Rattle.negotiation.specs.Features.{features_by}
use Rattle.negotiation.specs.Said.{said}

regroup : (a b c d e f g : List ℕ) → (((((a ++ b) ++ c) ++ d) ++ e) ++ f) ++ g ≡ a ++ (b ++ (c ++ (d ++ (e ++ (f ++ g)))))
regroup a b c d e f g = rw (append_assoc (((((a ++ b) ++ c) ++ d) ++ e)) f g, append_assoc ((((a ++ b) ++ c) ++ d)) e (f ++ g), append_assoc (((a ++ b) ++ c)) d (e ++ (f ++ g)), append_assoc ((a ++ b)) c (d ++ (e ++ (f ++ g))), append_assoc a b (c ++ (d ++ (e ++ (f ++ g))))) refl

-- the text of the answer, written out
features_are : (o : Options) (meant : Meant) → features_by o (meant.timeout / 1000000) ≡ features_text o meant
unfolding serde_json_on_literals digits
features_are o meant =
    regroup (codes "{\"auth_required\":false,\"deflate\":false,\"deflate_level\":0,\"max_deflate_level\":0,\"max_msg_timeout\":") (decimal (o.max_msg_timeout / 1000000)) (codes ",\"max_rdy_count\":") (decimal o.max_rdy_count) (codes ",\"msg_timeout\":") (decimal (meant.timeout / 1000000))
    (codes ",\"sample_rate\":0,\"snappy\":false,\"tls_v1\":false,\"version\":\"1.0.0\"}")

by_text : (o : Options) (meant : Meant) → meant.negotiates ≡ true → response (features_text o meant) ≡ identified o (Some meant)
by_text o meant e = sym (ap (λ (b : Bool). if b then response (features_text o meant) else ok_frame) e)

-- the frame of that text
pub answers_features : (o : Options) (found : Option (Bor Identity)) (i : Bor Identity) (text : List ℕ) → found ≡ Some i → i.now.negotiates ≡ true → text ≡ features_by o (i.now.timeout / 1000000)
    → response text ≡ identified o (option_map (λ (x : Bor Identity). said x.now) found)
answers_features o found i text is negotiates by =
    ap response (by ∙ features_are o (said i.now)) ∙ by_text o (said i.now) negotiates ∙ sym (ap (λ (f : Option (Bor Identity)). identified o (option_map (λ (x : Bor Identity). said x.now) f)) is)
