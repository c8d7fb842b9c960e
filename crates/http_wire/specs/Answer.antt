-- The bytes of an answer.
use Rattle.std.specs.Prelude.{◌≡◌, ◌⊎◌, ℕ, ◌==◌, if◌then◌else◌, Bool, List, [], ◌++◌, length, codes, decimal}

-- a status that answers have
abbrev pub IsStatus : ℕ → Type 0
IsStatus status =
    (status ≡ 200) ⊎ (status ≡ 400) ⊎ (status ≡ 404) ⊎ (status ≡ 405) ⊎ (status ≡ 411) ⊎ (status ≡ 413) ⊎ (status ≡ 500) ⊎ (status ≡ 503)

-- the phrase of such a status
abbrev pub phrase_of : ℕ → List ℕ
phrase_of status =
    if status == 200 then codes "OK" else (
    if status == 400 then codes "Bad Request" else (
    if status == 404 then codes "Not Found" else (
    if status == 405 then codes "Method Not Allowed" else (
    if status == 411 then codes "Length Required" else (
    if status == 413 then codes "Payload Too Large" else (
    if status == 500 then codes "Internal Server Error" else (
    if status == 503 then codes "Service Unavailable" else [])))))))

-- the type of a body: JSON or plain text
abbrev pub type_of : Bool → List ℕ
type_of json = if json then codes "application/json; charset=utf-8" else codes "text/plain; charset=utf-8"

-- an answer of these parts: the status line, the fields that say the body's type and length and that the connection ends, an
-- empty line, and the body
abbrev pub answer_of : (status phrase kind length body : List ℕ) → List ℕ
answer_of status phrase kind length body =
    codes "HTTP/1.1 " ++ status ++ codes " " ++ phrase
    ++ codes "\r\nContent-Type: " ++ kind
    ++ codes "\r\nContent-Length: " ++ length
    ++ codes "\r\nConnection: close\r\n\r\n" ++ body

-- the answer of a status to which this body belongs, as JSON or as plain text
abbrev pub answer_bytes : ℕ → Bool → List ℕ → List ℕ
answer_bytes status json body = answer_of (decimal status) (phrase_of status) (type_of json) (decimal (length body)) body
