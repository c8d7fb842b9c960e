-- Lemmas on the bytes of an answer.
use Rattle.std.proofs.Common.{◌≡◌, ℕ, List, [], ◌∷◌, ◌++◌, append_assoc, sym, ◌∙◌}
use Rattle.std.specs.Prelude.{codes}
use Rattle.std.proofs.lemmas.List.{append-nil}
use Rattle.http_wire.specs.Answer.{answer_of}

-- parts one behind the other, put together from the last one
abbrev behind : List (List ℕ) → List ℕ
behind [] = []
behind (part ∷ parts) = part ++ behind parts

-- the same behind a first one, put together from that
abbrev joined : List ℕ → List (List ℕ) → List ℕ
joined first [] = first
joined first (part ∷ parts) = joined (first ++ part) parts

together : (first : List ℕ) (parts : List (List ℕ)) → first ++ behind parts ≡ joined first parts
together first [] = append-nil first
together first (part ∷ parts) = sym (append_assoc first part (behind parts)) ∙ together (first ++ part) parts

-- the parts of an answer, one behind the other
pub answer_parts : (status phrase kind size body : List ℕ)
    → codes "HTTP/1.1 " ++ (status ++ (codes " " ++ (phrase ++ (codes "\r\nContent-Type: " ++ (kind ++ (codes "\r\nContent-Length: " ++ (size ++ (codes "\r\nConnection: close\r\n\r\n" ++ (body ++ []))))))))) ≡ answer_of status phrase kind size body
answer_parts status phrase kind size body =
    together (codes "HTTP/1.1 ") (status ∷ codes " " ∷ phrase ∷ codes "\r\nContent-Type: " ∷ kind ∷ codes "\r\nContent-Length: " ∷ size ∷ codes "\r\nConnection: close\r\n\r\n" ∷ body ∷ [])
