-- The bytes of the callers are commands in their canonical spelling.
use Rattle.std.proofs.Common.{◌≡◌, ℕ, zero, suc, ◌+◌, ◌*◌, ◌/◌, ◌%◌, ◌<◌, ◌≤◌, ◌==◌, Bool, true, false, if◌then◌else◌, List, [], ◌∷◌, ◌++◌, length, map, take, drop, flat_map, replicate, codes, refl, sym, ap, ◌∙◌, arith, rules, length-append, length-drop}
use Rattle.std.specs.Prelude.{pos}
use Rattle.std.specs.Fmt.{decimal}
use Rattle.std.proofs.lemmas.Fmt.{decimal-digits_of}
use Rattle.std.specs.List.{AllByRecursion, AllPass, concat}
use Rattle.std.proofs.Math.Seq.{take-add}
use Rattle.std.proofs.lemmas.Bool.Decides.{nat_tests}
use Rattle.std.proofs.lemmas.List.{append-nil, length-replicate, take_all}
use Rattle.std.proofs.lemmas.List.Concat.{flat_map-append}
use Rattle.std.proofs.lemmas.List.Elements.{All-append, All-cons, All-nil}
use Rattle.std.proofs.lemmas.List.Folds.{concat-append}
use Rattle.nsq_base.specs.MsgId.{hex_digit, hex_digits, id_of}
use Rattle.nsq_base.specs.Name.{IsName}
use Rattle.nsq_base.proofs.IdDigits.{length-hex_digits}
use Rattle.v2_frame.specs.declared.command.Command.{Command}
use Rattle.v2_frame.specs.declared.command.Command.TheVariants.{Sub, Pub, Rdy, Fin}
use Rattle.v2_frame.specs.declared.fault.Limits.{Limits}
use Rattle.v2_frame.specs.Command.{IsWritable, canonical, size4}
use Rattle.v2_frame.specs.Line.{IsIdWord, is_id_byte}
use Rattle.v2_frame.specs.Script.{magic}
use Rattle.drill_parts.specs.Conserving.{IsDurable}
use Rattle.drill_parts.proofs.Talking.{all_push}
use Rattle.drill_parts.specs.Callers.{all_fins, consumer, fin, fin_piece, fin_pieces, greeting, publish_piece, publisher, those_to, topic_name}
use Rattle.drill_parts.specs.Draws.{behind, publish_from, publishes}
use Rattle.drill_parts.specs.declared.draws.Publish.{Publish}

-- the names of topics
abbrev name_by : (a b c : Bool) → List ℕ
name_by a b c = codes "t" ++ (if a then 48 else if b then 49 else if c then 50 else 51) ∷ []

named_by : (a b c : Bool) → IsName (name_by a b c)
named_by true b c = search rules
named_by false true c = search rules
named_by false false true = search rules
named_by false false false = search rules

durable_by : (a b c : Bool) → IsDurable (name_by a b c)
durable_by true b c = refl
durable_by false true c = refl
durable_by false false true = refl
durable_by false false false = refl

pub topic_named : (topic : ℕ) → IsName (topic_name topic)
topic_named topic = named_by (topic == 0) (topic == 1) (topic == 2)

pub topic_durable : (topic : ℕ) → IsDurable (topic_name topic)
topic_durable topic = durable_by (topic == 0) (topic == 1) (topic == 2)

channel_named : IsName (codes "c")
channel_named = search rules

-- the commands that the callers send
abbrev pub pub_of : Publish → Command
pub_of p = Pub (topic_name p.topic) (replicate p.length 97)

abbrev pub fin_of : Publish → Command
fin_of p = Fin (id_of 1 p.number)

abbrev pub consumes : List Publish → (topic : ℕ) → List Command
consumes ps topic = Sub (topic_name topic) (codes "c") ∷ Rdy (pos 2500) ∷ map fin_of (those_to topic ps)

publish_spells : (p : Publish) → publish_piece p ≡ canonical (pub_of p)
publish_spells p = ap (λ n. codes "PUB " ++ topic_name p.topic ++ 10 ∷ [] ++ size4 n ++ replicate p.length 97) (sym (length-replicate p.length 97))

publishes_spell : (ps : List Publish) → concat (map publish_piece ps) ≡ flat_map canonical (map pub_of ps)
publishes_spell [] = refl
publishes_spell (p ∷ ps) = ap (λ x. x ++ concat (map publish_piece ps)) (publish_spells p) ∙ ap (λ x. canonical (pub_of p) ++ x) (publishes_spell ps)

pub publisher_spells : (ps : List Publish) → concat (publisher ps) ≡ magic ++ flat_map canonical (map pub_of ps)
publisher_spells ps = ap (λ x. magic ++ x) (publishes_spell ps)

-- the FINs of all pieces are those of all publishes
fins_spell : (ps : List Publish) → flat_map fin ps ≡ flat_map canonical (map fin_of ps)
fins_spell [] = refl
fins_spell (p ∷ ps) = ap (λ x. fin p ++ x) (fins_spell ps)

fins_so_far : (ps : List Publish) (k : ℕ) → concat (fin_pieces ps k) ≡ flat_map fin (take (64 * k) ps)
fins_so_far ps zero = refl
fins_so_far ps (suc k) =
    let next : 64 * suc k ≡ 64 * k + 64 = omega arith in
    concat-append (fin_pieces ps k) (fin_piece ps k ∷ []) ∙ ap (λ x. concat (fin_pieces ps k) ++ x) (append-nil (fin_piece ps k)) ∙ ap (λ x. x ++ fin_piece ps k) (fins_so_far ps k)
    ∙ sym (flat_map-append fin (take (64 * k) ps) (take 64 (drop (64 * k) ps))) ∙ ap (flat_map fin) (sym (take-add (64 * k) 64 ps)) ∙ ap (λ n. flat_map fin (take n ps)) (sym next)

all_fins_spell : (ps : List Publish) → concat (all_fins ps) ≡ flat_map canonical (map fin_of ps)
all_fins_spell ps = fins_so_far ps ((length ps + 63) / 64) ∙ ap (flat_map fin) (take_all (64 * ((length ps + 63) / 64)) ps (omega arith)) ∙ fins_spell ps

ready_count : decimal 2500 ≡ codes "2500"
ready_count = decimal-digits_of 2500 (omega arith) (omega arith) ∙ refl

pub consumer_spells : (ps : List Publish) (topic : ℕ) → concat (consumer ps topic) ≡ magic ++ flat_map canonical (consumes ps topic)
consumer_spells ps topic =
    ap (λ x. greeting topic ++ x) (all_fins_spell (those_to topic ps))
    ∙ ap (λ x. magic ++ (codes "SUB " ++ topic_name topic ++ codes " c" ++ 10 ∷ [] ++ codes "RDY " ++ x ++ 10 ∷ [] ++ flat_map canonical (map fin_of (those_to topic ps)))) (sym ready_count)

-- no piece is empty
abbrev pub IsSome : List ℕ → Type 0
IsSome piece = 0 < length piece

publishes_some : (ps : List Publish) → AllByRecursion IsSome (map publish_piece ps)
publishes_some [] = tt
publishes_some (p ∷ ps) = (omega arith, publishes_some ps)

pub publisher_some : (ps : List Publish) → AllByRecursion IsSome (publisher ps)
publisher_some ps = (omega arith, publishes_some ps)

first_some : (ps : List Publish) → 0 < length ps → IsSome (flat_map fin (take 64 ps))
first_some [] l = absurd (omega (arith, l))
first_some (p ∷ ps) l = omega arith

fin_pieces_some : (ps : List Publish) (k : ℕ) → 64 * k < length ps + 64 → AllByRecursion IsSome (fin_pieces ps k)
fin_pieces_some ps zero l = tt
fin_pieces_some ps (suc k) l =
    let short = length-drop (64 * k) ps in
    all_push IsSome (fin_pieces ps k) (fin_piece ps k) (fin_pieces_some ps k (omega (arith, l))) (first_some (drop (64 * k) ps) (omega (arith, l, short)))

pub consumer_some : (ps : List Publish) (topic : ℕ) → AllByRecursion IsSome (consumer ps topic)
consumer_some ps topic = (omega arith, fin_pieces_some (those_to topic ps) ((length (those_to topic ps) + 63) / 64) (omega arith))

-- an id is an id word
id_byte : (b : ℕ) → 33 ≤ b → is_id_byte b ≡ true
id_byte b l = grind (arith, nat_tests)

digit_high : (n : ℕ) → n < 16 → 33 ≤ hex_digit n
digit_high n l = grind (arith, nat_tests)

digits_allowed : (count n : ℕ) → AllPass is_id_byte (hex_digits count n)
digits_allowed zero n = All-nil (λ b. is_id_byte b ≡ true)
digits_allowed (suc count) n =
    All-append (λ b. is_id_byte b ≡ true) (hex_digits count (n / 16)) (hex_digit (n % 16) ∷ []) (digits_allowed count (n / 16))
    (All-cons (λ b. is_id_byte b ≡ true) (hex_digit (n % 16)) [] (id_byte (hex_digit (n % 16)) (digit_high (n % 16) (omega arith))) (All-nil (λ b. is_id_byte b ≡ true)))

id_word : (epoch n : ℕ) → IsIdWord (id_of epoch n)
id_word epoch n = record {
  long = omega (arith, length-append (hex_digits 6 epoch) (hex_digits 10 n), length-hex_digits 6 epoch, length-hex_digits 10 n);
  allowed = All-append (λ b. is_id_byte b ≡ true) (hex_digits 6 epoch) (hex_digits 10 n) (digits_allowed 6 epoch) (digits_allowed 10 n);
}

-- a publish has a body of 1 to 200 bytes
pub record IsShort (p : Publish) : Type 0 where
  pub some : 0 < p.length
  pub few : p.length ≤ 200

short_from : (x number : ℕ) → IsShort (publish_from x number)
short_from x number = record { some = omega arith; few = omega arith }

pub publishes_short : (seed count : ℕ) → AllByRecursion IsShort (publishes seed count)
publishes_short seed zero = tt
publishes_short seed (suc n) = all_push IsShort (publishes seed n) (publish_from (behind seed n) n) (publishes_short seed n) (short_from (behind seed n) n)

-- so the commands have spellings
module _ (limits : Limits) (roomy : 200 ≤ limits.msg) where
  pub_writable : (p : Publish) → IsShort p → IsWritable limits (pub_of p)
  pub_writable p s =
      let long = length-replicate {A = ℕ} p.length 97 in
      let some = s.some in
      let few = s.few in
      record { named = topic_named p.topic; words = tt; within = record { positive = omega (arith, long, some); within = omega (arith, long, few); fits = omega (arith, long, few) } }

  pub publisher_writable : (ps : List Publish) → AllByRecursion IsShort ps → AllByRecursion (IsWritable limits) (map pub_of ps)
  publisher_writable [] s = tt
  publisher_writable (p ∷ ps) s = (pub_writable p s.0, publisher_writable ps s.1)

  fins_writable : (ps : List Publish) → AllByRecursion (IsWritable limits) (map fin_of ps)
  fins_writable [] = tt
  fins_writable (p ∷ ps) = (record { named = tt; words = id_word 1 p.number; within = tt }, fins_writable ps)

  pub consumer_writable : (ps : List Publish) (topic : ℕ) → AllByRecursion (IsWritable limits) (consumes ps topic)
  consumer_writable ps topic =
      (record { named = (topic_named topic, channel_named); words = tt; within = tt }, (record { named = tt; words = omega arith; within = tt }, fins_writable (those_to topic ps)))
