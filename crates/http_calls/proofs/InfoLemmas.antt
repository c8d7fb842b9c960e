-- Lemmas on texts in JSON.
use Rattle.std.proofs.Common.{◌≡◌, ℕ, List, [], ◌∷◌, ◌++◌, codes, append_assoc, append-nil, ap, ◌∙◌}
use Rattle.json.specs.Token.{Token, string}
use Rattle.json.specs.Print.{print_from, print, quoted}
use Rattle.http_calls.specs.Info.{told}

-- eleven parts, one behind the other
eleven_parts : (a b c d e f g h i j k : List ℕ) → a ++ (b ++ (c ++ (d ++ (e ++ (f ++ (g ++ (h ++ (i ++ (j ++ (k ++ [])))))))))) ≡ a ++ b ++ c ++ d ++ e ++ f ++ g ++ h ++ i ++ j ++ k
eleven_parts a b c d e f g h i j k = simp (append_assoc, append-nil)

-- the parts of the text
pub told_parts : (address http_port start_time tcp_port : List ℕ)
    → codes "{\"broadcast_address\":" ++ (address ++ (codes ",\"hostname\":" ++ (address ++ (codes ",\"http_port\":" ++ (http_port ++ (codes ",\"start_time\":" ++ (start_time ++ (codes ",\"tcp_port\":" ++ (tcp_port ++ (codes ",\"version\":\"1.0.0\"}" ++ []))))))))))
    ≡ told address http_port start_time tcp_port
told_parts address http_port start_time tcp_port =
    eleven_parts (codes "{\"broadcast_address\":") address (codes ",\"hostname\":") address (codes ",\"http_port\":") http_port (codes ",\"start_time\":") start_time (codes ",\"tcp_port\":") tcp_port (codes ",\"version\":\"1.0.0\"}")

-- one string alone
pub string_alone : (text : List ℕ) (tokens : List Token) → tokens ≡ string text ∷ [] → print tokens ≡ quoted text
unfolding print_from
string_alone text tokens is = ap print is ∙ append-nil (quoted text)
