-- Lists with one more at their end, and names that differ.
use Rattle.std.proofs.Common.{◌≡◌, ◌≢◌, ℕ, Bool, true, false, ◌||◌, List, [], ◌∷◌, ◌++◌, Some, None, Result, Ok, Err, refl, sym, ap, subst, ◌∙◌, ◌≤◌, arith}
use Rattle.std.specs.Prelude.{IfErr, IsErrAnd}
use Rattle.std.specs.List.{All, find, list_any}
use Rattle.std.specs.Str.{bytes_eq}
use Rattle.std.proofs.lemmas.Bool.{false≢true}
use Rattle.std.proofs.lemmas.List.Elements.{All-cons, All-head, All-nil, All-tail}
use Rattle.nsq_base.specs.Name.{IsName}
use Rattle.nsq_base.specs.Places.{StandsAt}
use Rattle.queue_opening.specs.Refusals.{OpenFails}
use Rattle.queue_opening.specs.declared.refusal.Open.{Open}
use Rattle.queue_opening.specs.declared.refusal.Open.TheVariants as refusal
use Rattle.path_image.specs.Found.{Pairwise}
use Rattle.broker_history.proofs.Lists.{same_bytes}
use Rattle.channel_core.specs.Seen.{queue_name}
use Rattle.floor_rooms.proofs.Placing.{found_standing}
use Rattle.floor_rooms.proofs.Staying.{other_channel}

pub or_parts : (a b : Bool) → (a || b) ≡ false → (a ≡ false) × (b ≡ false)
or_parts true b e = absurd (false≢true (sym e))
or_parts false b e = (refl, e)

pub or_false : (a b : Bool) → a ≡ false → b ≡ false → (a || b) ≡ false
or_false a b e f = ap (λ x. x || b) e ∙ f

module _ {X : Type 0} (P : X → Type 0) where
  pub all_front : (xs ys : List X) → All P (xs ++ ys) → All P xs
  all_front [] ys h = All-nil P
  all_front (x ∷ xs) ys h = All-cons P x xs (All-head P x (xs ++ ys) h) (all_front xs ys (All-tail P x (xs ++ ys) h))

  pub all_last : (xs : List X) (y : X) → All P (xs ++ y ∷ []) → P y
  all_last [] y h = All-head P y [] h
  all_last (x ∷ xs) y h = all_last xs y (All-tail P x (xs ++ y ∷ []) h)

-- pairs with one more at the end
pub record HasLast {X Y : Type 0} (R : X → Y → Type 0) (xs : List X) (x : X) (ys : List Y) : Type 0 where
  pub front : List Y
  pub last : Y
  pub whole : ys ≡ front ++ last ∷ []
  pub pairs : Pairwise R xs front
  pub pair : R x last

pub last_of : {X Y : Type 0} (R : X → Y → Type 0) (xs : List X) (x : X) (ys : List Y) → Pairwise R (xs ++ x ∷ []) ys → HasLast R xs x ys
last_of R [] x [] h = absurd h
last_of R [] x (y ∷ []) h = record { front = []; last = y; whole = refl; pairs = tt; pair = h.0 }
last_of R [] x (y ∷ z ∷ ys) h = absurd h.1
last_of R (w ∷ xs) x [] h = absurd h
last_of R (w ∷ xs) x (y ∷ ys) h =
    let rest = last_of R xs x ys h.1 in
    record { front = y ∷ rest.front; last = rest.last; whole = ap (λ zs. y ∷ zs) rest.whole; pairs = (h.0, rest.pairs); pair = rest.pair }

-- a name that isn't among names
pub name_apart : (k n : List ℕ) → bytes_eq k n ≡ false → k ≢ n
name_apart k n e = λ same. false≢true (sym e ∙ ap (bytes_eq k) (sym same) ∙ same_bytes k)

pub queues_apart : (topic k : List ℕ) → IsName topic → (done : List (List ℕ × Bool)) → list_any (λ d. bytes_eq k d.0) done ≡ false → All (λ (d : List ℕ × Bool). queue_name topic k ≢ queue_name topic d.0) done
queues_apart topic k named [] none = All-nil (λ (d : List ℕ × Bool). queue_name topic k ≢ queue_name topic d.0)
queues_apart topic k named (d ∷ done) none =
    let both = or_parts (bytes_eq k d.0) (list_any (λ x. bytes_eq k x.0) done) none in
    All-cons (λ (x : List ℕ × Bool). queue_name topic k ≢ queue_name topic x.0) d done (other_channel topic k topic d.0 named named (name_apart k d.0 both.0)) (queues_apart topic k named done both.1)

-- what isn't found stands nowhere
none_is : {X : Type 0} (x : X) → None ≡ Some x → ⊥
none_is x e = absurd cc

pub no_place : {X : Type 0} (key : X → List ℕ) (xs : List X) (k k' : List ℕ) (i : ℕ) (d : X) → k' ≡ k → find (λ x. bytes_eq k (key x)) xs ≡ None → StandsAt key xs k' i → ⊥
no_place key xs k k' i d same none at = none_is _ (sym none ∙ found_standing key xs k i d (subst (λ n. StandsAt key xs n i) same at))

-- an error that is handed on
pub handed_on : {T E : Type 0} (r : Result T E) (e : E) (Q : E → Type 0) → IsErrAnd r (λ f. f ≡ e) → Q e → IfErr r Q
handed_on (Ok x) e Q h q = tt
handed_on (Err f) e Q h q = subst Q (sym h) q

-- why an opening failed, where its count of faults had risen before
pub fails_later : (a b c : ℕ) (e : Open) → a ≤ b → OpenFails b c e → OpenFails a c e
fails_later a b c refusal.Fault l fails = omega (arith, l, fails)
fails_later a b c refusal.BadMeta l fails = tt
fails_later a b c refusal.Memory l fails = tt
