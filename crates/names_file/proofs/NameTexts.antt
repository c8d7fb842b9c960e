-- Names need no escape in JSON, and the parts of the file of names make its text.
use Rattle.std.proofs.Common.{◌≡◌, ℕ, suc, ◌-◌, ◌<◌, ◌≤◌, ◌+◌, Bool, true, false, nat_lt, cond, if◌then◌else◌, flat_map, ◌||◌, decimal, Result, Ok, Err, OnOk, OnErr, List, [], ◌∷◌, ◌++◌, length, take, drop, get_or, map, codes, refl, sym, ap, ap₂, ◌∙◌, subst, arith, append_assoc, append-nil, take-append-drop}
use Rattle.std.specs.List.{AllPass, AllByRecursion}
use Rattle.std.specs.Result.{is_err, is_ok}
use Rattle.std.proofs.lemmas.Bool.Decides.{nat_tests}
use Rattle.std.proofs.lemmas.List.{take_more, length-take-le, take_all, take_at}
use Rattle.std.proofs.lemmas.List.Elements.{recursion_from_All}
use Rattle.std.proofs.lemmas.Slice.Eq.{bytes_eq-Decides}
use Rattle.json.specs.Token.{Token}
use Rattle.json.specs.Print.{escape_byte, escape, token_text}
use Rattle.json.proofs.Printed.Strings.{escape_byte_plain}
use Rattle.serde_json.specs.Data as json
use Rattle.serde_json.specs.Written as written
use Rattle.nsq_base.specs.Name.{IsName, is_name_byte, is_ephemeral, ephemeral_suffix}
use Rattle.path_image.specs.Data.{items_of, KeptChannel, KeptTopic, channel_data, topic_data, names_text}
use Rattle.names_file.specs.Texts.{kept_of, channel_text, topic_text, items_text, list_text, end_text, comma_if}

-- bytes that JSON writes as they are
abbrev Plain : List ℕ → Type 0
Plain bytes = AllByRecursion (λ b. escape_byte b ≡ b ∷ []) bytes

escape_plain : (bytes : List ℕ) → Plain bytes → escape bytes ≡ bytes
escape_plain [] h = refl
escape_plain (b ∷ bytes) h = ap₂ (λ (x y : List ℕ). x ++ y) h.0 (escape_plain bytes h.1)

plain_append : (xs ys : List ℕ) → Plain xs → Plain ys → Plain (xs ++ ys)
plain_append [] ys p q = q
plain_append (x ∷ xs) ys p q = (p.0, plain_append xs ys p.1 q)

name_byte_high : (b : ℕ) → is_name_byte b ≡ true → 45 ≤ b
name_byte_high b h = grind (arith, nat_tests)

name_byte_plain : (b : ℕ) → is_name_byte b ≡ true → escape_byte b ≡ b ∷ []
name_byte_plain b h =
    escape_byte_plain b (λ e. let high = name_byte_high b h in omega arith) (λ e. let is : is_name_byte 92 ≡ true = subst (λ z. is_name_byte z ≡ true) e h in cc) (let high = name_byte_high b h in omega arith)

suffix_plain : Plain ephemeral_suffix
unfolding escape_byte
suffix_plain = (refl, (refl, (refl, (refl, (refl, (refl, (refl, (refl, (refl, (refl, tt))))))))))

bytes_plain : (bytes : List ℕ) → AllPass is_name_byte bytes → Plain bytes
bytes_plain bytes h = go bytes (recursion_from_All (λ b. is_name_byte b ≡ true) bytes h)
  where
    go : (bytes : List ℕ) → AllByRecursion (λ b. is_name_byte b ≡ true) bytes → Plain bytes
    go [] p = tt
    go (b ∷ bytes) p = (name_byte_plain b p.0, go bytes p.1)

name_plain : (name : List ℕ) → IsName name → Plain name
name_plain name h = go (is_ephemeral name) refl h.allowed
  where
    go : (b : Bool) → is_ephemeral name ≡ b → AllPass is_name_byte (cond b (take (length name - length ephemeral_suffix) name) name) → Plain name
    go false e p = bytes_plain name p
    go true e p =
        let n = length name - length ephemeral_suffix in
        let ends : ephemeral_suffix ≡ drop n name = (bytes_eq-Decides ephemeral_suffix (drop n name)).0 e in
        subst Plain (take-append-drop n name) (plain_append (take n name) (drop n name) (bytes_plain (take n name) p) (subst Plain ends suffix_plain))

-- a name needs no escape
pub escape_name : (name : List ℕ) → IsName name → escape name ≡ name
escape_name name h = escape_plain name (name_plain name h)

-- an array's text is that of its items, and brackets
pub array_text : {X : Type 0} (data_of : X → json.Data) (later : Bool) (xs : List X)
    → written.items_text later (items_of (map data_of xs)) ≡ items_text (λ x. written.compact_text (data_of x)) later xs ++ 93 ∷ []
array_text data_of later [] = refl
array_text data_of later (x ∷ xs) =
    ap (λ (r : List ℕ). comma_if later ++ (written.compact_text (data_of x) ++ r)) (array_text data_of true xs)
    ∙ sym (append_assoc (comma_if later) _ _ ∙ ap (λ (r : List ℕ). comma_if later ++ r) (append_assoc (written.compact_text (data_of x)) _ _))

-- a number above 0 passes the test
pub positive : (n : ℕ) → 0 < n → nat_lt 0 n ≡ true
positive n h = grind (arith, nat_tests)

-- one more item of a list
items_push : {X : Type 0} (text : X → List ℕ) (later : Bool) (xs : List X) (x : X)
    → items_text text later (xs ++ x ∷ []) ≡ items_text text later xs ++ (comma_if (later || nat_lt 0 (length xs)) ++ text x)
items_push text false [] x = append-nil (text x)
items_push text true [] x = ap (λ (r : List ℕ). 44 ∷ r) (append-nil (text x))
items_push text false (y ∷ ys) x =
    ap (λ (r : List ℕ). text y ++ r) (items_push text true ys x)
    ∙ sym (append_assoc (text y) (items_text text true ys) (44 ∷ text x))
    ∙ ap (λ (b : Bool). (text y ++ items_text text true ys) ++ (comma_if b ++ text x)) (sym (positive (suc (length ys)) (omega arith)))
items_push text true (y ∷ ys) x =
    ap (λ (r : List ℕ). 44 ∷ (text y ++ r)) (items_push text true ys x) ∙ sym (ap (λ (r : List ℕ). 44 ∷ r) (append_assoc (text y) (items_text text true ys) (44 ∷ text x)))

-- the text of the items so far and of one more, which follows a comma where it isn't the first
pub items_next : {X : Type 0} (text : X → List ℕ) (xs : List X) (i : ℕ) (x : X) (later : Bool) → i < length xs → x ≡ get_or xs i x → later ≡ nat_lt 0 i
    → items_text text false (take (i + 1) xs) ≡ items_text text false (take i xs) ++ (comma_if later ++ text x)
items_next text xs i x later l is commas =
    ap (items_text text false) (take_more xs i x l ∙ ap (λ y. take i xs ++ y ∷ []) (sym is))
    ∙ items_push text false (take i xs) x
    ∙ ap (λ (b : Bool). items_text text false (take i xs) ++ (comma_if b ++ text x)) (ap (λ (n : ℕ). nat_lt 0 n) (length-take-le i xs (omega (arith, l))) ∙ sym commas)

-- the parts of an object's end
pub end_parts : (name : List ℕ) (paused : Bool) → IsName name
    → codes "\"name\":\"" ++ (name ++ (codes "\",\"paused\":" ++ (token_text (Token.boolean paused) ++ 125 ∷ []))) ≡ end_text name paused
unfolding escape_byte
end_parts name paused h =
    let rest = codes ",\"paused\":" ++ (token_text (Token.boolean paused) ++ 125 ∷ []) in
    ap (λ (r : List ℕ). codes "\"name\":\"" ++ r) (ap (λ (n : List ℕ). n ++ 34 ∷ rest) (sym (escape_name name h)) ∙ sym (append_assoc (escape name) (34 ∷ []) rest))

-- the parts of a topic
pub topic_parts : (t : KeptTopic) → codes "{\"channels\":" ++ (list_text channel_text t.channels ++ 44 ∷ end_text t.name t.paused) ≡ topic_text t
unfolding escape_byte
topic_parts t = ap (λ (r : List ℕ). codes "{\"channels\":[" ++ (r ++ 44 ∷ end_text t.name t.paused)) (sym (array_text channel_data false t.channels))

-- the parts of the file
pub names_parts : (epoch : ℕ) (topics : List KeptTopic)
    → codes "{\"id_epoch\":" ++ (decimal epoch ++ (codes ",\"topics\":" ++ (list_text topic_text topics ++ codes ",\"version\":\"1.0.0\"}"))) ≡ names_text (kept_of epoch topics)
unfolding escape_byte
names_parts epoch topics =
    ap (λ (r : List ℕ). codes "{\"id_epoch\":" ++ (decimal epoch ++ (codes ",\"topics\":[" ++ (r ++ codes ",\"version\":\"1.0.0\"}")))) (sym (array_text topic_data false topics))

-- what a call ensures where it gave no error
pub not_err : {T E P : Type 0} (r : Result T E) → is_err r ≡ false → OnOk r P → P
not_err (Ok x) e p = p
not_err (Err x) e p = cc

-- what is appended behind what was appended
pub then_more : (old mid new front more : List ℕ) → new ≡ mid ++ more → mid ≡ old ++ front → new ≡ old ++ (front ++ more)
then_more old mid new front more n m = n ∙ ap (λ (x : List ℕ). x ++ more) m ∙ append_assoc old front more

-- a topic behind what was there
pub topic_whole : (t : KeptTopic) (old mid new start comma name : List ℕ) (channels : List KeptChannel)
    → mid ≡ old ++ (start ++ list_text channel_text channels) → new ≡ mid ++ 44 ∷ end_text name t.paused
    → start ≡ comma ++ codes "{\"channels\":" → name ≡ t.name → channels ≡ t.channels → new ≡ old ++ (comma ++ topic_text t)
topic_whole t old mid new start comma name channels m n s is lists =
    let list = list_text channel_text channels in
    then_more old mid new (start ++ list) (44 ∷ end_text name t.paused) n m
    ∙ ap (λ (x : List ℕ). old ++ x)
    (append_assoc start list (44 ∷ end_text name t.paused)
    ∙ ap (λ (x : List ℕ). x ++ (list ++ 44 ∷ end_text name t.paused)) s
    ∙ append_assoc comma (codes "{\"channels\":") (list ++ 44 ∷ end_text name t.paused)
    ∙ ap (λ (x : List ℕ). comma ++ (codes "{\"channels\":" ++ (list ++ 44 ∷ end_text x t.paused))) is
    ∙ ap (λ (xs : List KeptChannel). comma ++ (codes "{\"channels\":" ++ (list_text channel_text xs ++ 44 ∷ end_text t.name t.paused))) lists
    ∙ ap (λ (x : List ℕ). comma ++ x) (topic_parts t))

-- the file behind what was there
pub names_whole : (epoch : ℕ) (topics : List KeptTopic) (old head mid new digits : List ℕ)
    → head ≡ old ++ (codes "{\"id_epoch\":" ++ (digits ++ [])) → mid ≡ head ++ (codes ",\"topics\":" ++ list_text topic_text topics)
    → new ≡ mid ++ codes ",\"version\":\"1.0.0\"}" → digits ≡ decimal epoch → new ≡ old ++ names_text (kept_of epoch topics)
names_whole epoch topics old head mid new digits h m n is =
    let list = codes ",\"topics\":" ++ list_text topic_text topics in
    let last = codes ",\"version\":\"1.0.0\"}" in
    let first = codes "{\"id_epoch\":" ++ (digits ++ []) in
    then_more old mid new (first ++ list) last n (then_more old head mid first list m h)
    ∙ ap (λ (x : List ℕ). old ++ x)
    (append_assoc first list last
    ∙ ap (λ (x : List ℕ). (codes "{\"id_epoch\":" ++ x) ++ (list ++ last)) (append-nil digits ∙ is)
    ∙ names_parts epoch topics)

-- what was, where there was an error
pub refused : {T E P : Type 0} (r : Result T E) → is_err r ≡ true → OnErr r P → P
refused (Ok x) e p = cc
refused (Err x) e p = p

-- a refused one leaves what was
pub not_more : {T E : Type 0} (r : Result T E) (more now new : List ℕ) → is_err r ≡ true → new ≡ (if is_ok r then more else now) → new ≡ now
not_more (Ok x) more now new e is = cc
not_more (Err x) more now new e is = is

-- what was appended is cut off
pub cut_back : (old now more : List ℕ) (n : ℕ) → length old ≡ n → now ≡ old ++ more → take n now ≡ old
cut_back old now more n len is = ap (take n) is ∙ take_at old more n len

-- parts, one behind the other
module _ {X : Type 0} (f : X → List ℕ) (xs : List X) (i : ℕ) (old mid now : List ℕ) (same : mid ≡ old) (so_far : now ≡ mid ++ flat_map f (take i xs)) where
  -- all of them were appended
  pub all_appended : length xs ≤ i → now ≡ old ++ flat_map f xs
  all_appended all = so_far ∙ ap (λ ys. mid ++ flat_map f ys) (take_all i xs all) ∙ ap (λ (o : List ℕ). o ++ flat_map f xs) same

  -- the next one wasn't, and the others are cut off
  pub parts_cut : {T E : Type 0} (r : Result T E) (more new : List ℕ) (n : ℕ) → length old ≡ n → is_err r ≡ true → new ≡ (if is_ok r then more else now) → take n new ≡ old
  parts_cut r more new n long e is = cut_back old new (flat_map f (take i xs)) n long (not_more r more now new e is ∙ so_far ∙ ap (λ (o : List ℕ). o ++ flat_map f (take i xs)) same)

-- a list behind what was there
pub list_whole : {X : Type 0} (text : X → List ℕ) (xs : List X) (i : ℕ) (old mid now new start : List ℕ) → length xs ≤ i → mid ≡ old ++ (start ++ 91 ∷ []) → now ≡ mid ++ items_text text false (take i xs) → new ≡ now ++ 93 ∷ []
    → new ≡ old ++ (start ++ list_text text xs)
list_whole text xs i old mid now new start all m a n =
    let front = start ++ 91 ∷ [] in
    let items = items_text text false (take i xs) in
    n ∙ ap (λ (x : List ℕ). x ++ 93 ∷ []) (then_more old mid now front items a m) ∙ append_assoc old (front ++ items) (93 ∷ [])
    ∙ ap (λ (x : List ℕ). old ++ x) (append_assoc front items (93 ∷ []) ∙ append_assoc start (91 ∷ []) (items ++ 93 ∷ []))
    ∙ ap (λ ys. old ++ (start ++ list_text text ys)) (take_all i xs all)
