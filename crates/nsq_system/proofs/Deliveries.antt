-- What joins a writer, and what is delivered then.
use Rattle.std.proofs.Common.{◌≡◌, ◌-◌, ◌<◌, ◌≤◌, ◌==◌, ℕ, List, [], ◌++◌, length, take, drop, Bool, true, false, Option, None, Some, refl, sym, ◌∙◌, ap, subst, append-nil, append_assoc, length-drop, arith}
use Rattle.std.specs.Io.KnownBytes.{Keeps, Appends}
use Rattle.std.proofs.lemmas.Bool.{eqb-true}
use Rattle.std.proofs.lemmas.List.{nil_from_length, take-append-drop, take_rest}
use Rattle.nsq_system.specs.Sendings.{SendsUpTo, SendsSome, IsDelivered}

pub keeps_same : (a : Option (List ℕ)) → Keeps a a
keeps_same None = tt
keeps_same (Some xs) = refl

pub keeps_again : (a b c : Option (List ℕ)) → Keeps a b → Keeps b c → Keeps a c
keeps_again None b c h k = tt
keeps_again (Some xs) None c h k = absurd h
keeps_again (Some xs) (Some ys) None h k = absurd k
keeps_again (Some xs) (Some ys) (Some zs) h k = k ∙ h

pub keeps_then : (a b c : Option (List ℕ)) (bs : List ℕ) → Keeps a b → Appends b c bs → Appends a c bs
keeps_then None b c bs h k = tt
keeps_then (Some xs) None c bs h k = absurd h
keeps_then (Some xs) (Some ys) None bs h k = absurd k
keeps_then (Some xs) (Some ys) (Some zs) bs h k = k ∙ ap (λ x. x ++ bs) h

-- no byte joined
pub keeps_none : (a b : Option (List ℕ)) → Appends a b [] → Keeps a b
keeps_none None b h = tt
keeps_none (Some xs) None h = absurd h
keeps_none (Some xs) (Some ys) h = h ∙ append-nil xs

appends_none : (a : Option (List ℕ)) → Appends a a []
appends_none None = tt
appends_none (Some xs) = sym (append-nil xs)

appends_join : (a b c : Option (List ℕ)) (xs ys : List ℕ) → Appends a b xs → Appends b c ys → Appends a c (xs ++ ys)
appends_join None b c xs ys h k = tt
appends_join (Some old) None c xs ys h k = absurd h
appends_join (Some old) (Some mid) None xs ys h k = absurd k
appends_join (Some old) (Some mid) (Some new) xs ys h k = k ∙ ap (λ x. x ++ ys) h ∙ append_assoc old xs ys

keeps_appends : (a b : Option (List ℕ)) → Keeps a b → Appends a b []
keeps_appends None b h = tt
keeps_appends (Some xs) None h = absurd h
keeps_appends (Some xs) (Some ys) h = h ∙ sym (append-nil xs)

-- nothing is sent yet
pub sends_none : (a : Option (List ℕ)) (bytes : List ℕ) → SendsUpTo a a bytes bytes
sends_none a bytes = record { sent = []; whole = refl; joined = appends_none a }

-- some more bytes are sent
pub sends_more : (a b c : Option (List ℕ)) (bytes rest : List ℕ) (n : ℕ) → SendsUpTo a b bytes rest → Appends b c (take n rest) → SendsUpTo a c bytes (drop n rest)
sends_more a b c bytes rest n s k = record {
  sent = s.sent ++ take n rest;
  whole = s.whole ∙ ap (λ x. s.sent ++ x) (sym (take-append-drop n rest)) ∙ sym (append_assoc s.sent (take n rest) (drop n rest));
  joined = appends_join a b c s.sent (take n rest) s.joined k;
}

-- no more bytes are sent
pub sends_no_more : (a b c : Option (List ℕ)) (bytes rest : List ℕ) → SendsUpTo a b bytes rest → Keeps b c → SendsUpTo a c bytes rest
sends_no_more a b c bytes rest s k = record {
  sent = s.sent;
  whole = s.whole;
  joined = subst (Appends a c) (append-nil s.sent) (appends_join a b c s.sent [] s.joined (keeps_appends b c k));
}

-- all are sent
pub sends_all : (a b : Option (List ℕ)) (bytes : List ℕ) → SendsUpTo a b bytes [] → Appends a b bytes
sends_all a b bytes s = subst (Appends a b) (sym (s.whole ∙ append-nil s.sent)) s.joined

-- all are sent where none is left
pub sends_whole : (a b : Option (List ℕ)) (bytes rest : List ℕ) → true ≡ (length rest == 0) → SendsUpTo a b bytes rest → Appends a b bytes
sends_whole a b bytes rest none s = sends_all a b bytes (subst (λ (r : List ℕ). SendsUpTo a b bytes r) (nil_from_length rest (eqb-true (length rest) 0 (sym none))) s)

-- fewer are left behind some that were sent
pub shorter_rest : (rest : List ℕ) (n : ℕ) → 0 < n → n ≤ length rest → length (take (length rest - n) (drop n rest)) < length rest
shorter_rest rest n some bound = omega (arith, some, bound, length-drop n rest, ap length (take_rest rest n))

-- all that waited was sent
pub flushed : (a b : Option (List ℕ)) (waiting taken : List ℕ) → Appends a b waiting → IsDelivered a waiting false taken → IsDelivered b [] false taken
flushed None b waiting taken h d = absurd d
flushed (Some xs) None waiting taken h d = absurd h
flushed (Some xs) (Some ys) waiting taken h d = d ∙ sym h ∙ sym (append-nil ys)

-- a part of what waited was sent
pub broke : (a b : Option (List ℕ)) (waiting taken : List ℕ) → SendsSome a b waiting → IsDelivered a waiting false taken → IsDelivered b [] true taken
broke None b waiting taken s d = absurd d
broke (Some xs) None waiting taken s d = absurd s.1.joined
broke (Some xs) (Some ys) waiting taken s d =
    (s.0, d ∙ ap (λ x. xs ++ x) s.1.whole ∙ sym (append_assoc xs s.1.sent s.0) ∙ ap (λ x. x ++ s.0) (sym s.1.joined))

-- what waits counts for nothing once it is broken
pub still : (a : Option (List ℕ)) (waiting now taken : List ℕ) → IsDelivered a waiting true taken → IsDelivered a now true taken
still None waiting now taken d = absurd d
still (Some xs) waiting now taken d = d

-- nothing more was sent
pub stopped : (a b : Option (List ℕ)) (waiting taken : List ℕ) → Keeps a b → IsDelivered a waiting false taken → IsDelivered b waiting true taken
stopped None b waiting taken h d = absurd d
stopped (Some xs) None waiting taken h d = absurd h
stopped (Some xs) (Some ys) waiting taken h d = (waiting, d ∙ ap (λ x. x ++ waiting) (sym h))

-- bytes were gathered behind those that wait
pub gathered : (a : Option (List ℕ)) (waiting taken bytes : List ℕ) → IsDelivered a waiting false taken → IsDelivered a (waiting ++ bytes) false (taken ++ bytes)
gathered None waiting taken bytes d = absurd d
gathered (Some xs) waiting taken bytes d = ap (λ x. x ++ bytes) d ∙ append_assoc xs waiting bytes

-- bytes were sent where none waited
pub passed : (a b : Option (List ℕ)) (taken bytes : List ℕ) → Appends a b bytes → IsDelivered a [] false taken → IsDelivered b [] false (taken ++ bytes)
passed None b taken bytes h d = absurd d
passed (Some xs) None taken bytes h d = absurd h
passed (Some xs) (Some ys) taken bytes h d = ap (λ x. x ++ bytes) (d ∙ append-nil xs) ∙ sym h ∙ sym (append-nil ys)

-- nothing was taken
pub none_taken : (a : Option (List ℕ)) (waiting taken : List ℕ) (broken : Bool) → IsDelivered a waiting broken taken → IsDelivered a waiting broken (taken ++ [])
none_taken a waiting taken broken d = subst (IsDelivered a waiting broken) (sym (append-nil taken)) d
