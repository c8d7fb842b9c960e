-- Disk faults add up.
use Rattle.std.proofs.Common.{◌≡◌, ℕ, ◌+◌, ◌-◌, ◌^◌, ◌≤◌, min, Bool, true, false, not, ◌&&◌, if◌then◌else◌, [], ◌∷◌, ◌++◌, length, refl, sym, ap, subst, ◌∙◌, length-append, arith}
use Rattle.std.specs.List.{filter}
use Rattle.std.proofs.lemmas.List.Elements.{filter-append}
use Rattle.nsq_outside.specs.Causes.{Rose}
use Rattle.nsq_outside.specs.declared.journal.End.{End}
use Rattle.broker_history.specs.declared.entry.Entry.{Entry}
use Rattle.broker_history.specs.Entries.{History, is_faulted, is_stop, faults_of, faults_apart}
use Rattle.floor_laws.specs.Laws.{RoseBy}

pub rises_add : (m n a b c : ℕ) → RoseBy m a b → RoseBy n b c → RoseBy (m + n) a c
rises_add m n a b c p q = omega (arith, p, q)

pub rise_later : (n a b c : ℕ) → RoseBy n a b → b ≤ c → RoseBy n a c
rise_later n a b c p q = omega (arith, p, q)

pub rise_behind : (a b c : ℕ) → a ≤ b → Rose b c → Rose a c
rise_behind a b c p q = omega (arith, p, q)

pub faults-append : (h k : History) → faults_of (h ++ k) ≡ faults_of h + faults_of k
faults-append h k = ap length (filter-append (λ e. is_faulted e.1) h k) ∙ length-append (filter (λ e. is_faulted e.1) h) (filter (λ e. is_faulted e.1) k)

-- 1 where a test passes
pub one_where : Bool → ℕ
one_where b = if b then 1 else 0

pub no_fault : one_where false ≡ 0
unfolding one_where
no_fault = refl

one_more : (e : Entry × End) (h : History) (b : Bool) → length (if b then e ∷ filter (λ f. is_faulted f.1) h else filter (λ f. is_faulted f.1) h) ≡ one_where b + faults_of h
unfolding one_where
one_more e h true = omega arith
one_more e h false = omega arith

pub faults-cons : (e : Entry × End) (h : History) → faults_of (e ∷ h) ≡ one_where (is_faulted e.1) + faults_of h
faults-cons e h = one_more e h (is_faulted e.1)

few : (faulted stop : Bool) → one_where (faulted && not stop) ≤ one_where faulted
unfolding one_where
few true true = omega arith
few true false = omega arith
few false stop = omega arith

-- an entry counts apart once at most
pub apart-cons : (e : Entry × End) (h : History) → faults_apart (e ∷ h) ≤ one_where (is_faulted e.1) + faults_apart h
unfolding one_where
apart-cons e [] = omega arith
apart-cons e (f ∷ h) = omega (arith, few (is_faulted e.1) (is_stop f.0.act))

pub apart_few : (h : History) → faults_apart h ≤ faults_of h
apart_few [] = omega arith
apart_few (e ∷ h) = omega (arith, apart-cons e h, faults-cons e h, apart_few h)

first_apart : (h k : History) → faults_apart (h ++ k) ≤ faults_apart h + faults_of k
unfolding one_where
first_apart [] k = omega (arith, apart_few k)
first_apart (e ∷ []) k = omega (arith, apart-cons e k, apart_few k)
first_apart (e ∷ f ∷ h) k = omega (arith, first_apart (f ∷ h) k)

second_apart : (h k : History) → faults_apart (h ++ k) ≤ faults_of h + faults_apart k
second_apart [] k = omega arith
second_apart (e ∷ h) k = omega (arith, apart-cons e (h ++ k), faults-cons e h, second_apart h k)

pub apart_adds : (h k : History) → (faults_apart (h ++ k) ≤ faults_apart h + faults_of k) × (faults_apart (h ++ k) ≤ faults_of h + faults_apart k)
apart_adds h k = (first_apart h k, second_apart h k)

-- turns and then turns
pub faults_join : (h k : History) (a b c : ℕ) → RoseBy (faults_of h) a b → RoseBy (faults_of k) b c → RoseBy (faults_of (h ++ k)) a c
faults_join h k a b c p q = subst (λ n. RoseBy n a c) (sym (faults-append h k)) (rises_add (faults_of h) (faults_of k) a b c p q)

-- the count rose by more than the faults that count apart, in the one part or in the other
pub stuck_join : (h k : History) (a b c : ℕ) (first mid last : Bool) → RoseBy (faults_of h) a b → RoseBy (faults_of k) b c → (first ≡ false → mid ≡ true → RoseBy (faults_apart h + 1) a b)
    → (mid ≡ false → last ≡ true → RoseBy (faults_apart k + 1) b c) → first ≡ false → last ≡ true → RoseBy (faults_apart (h ++ k) + 1) a c
stuck_join h k a b c first true last p q r s e f = let few = (apart_adds h k).0 in let more = r e refl in omega (arith, few, more, q)
stuck_join h k a b c first false last p q r s e f = let few = (apart_adds h k).1 in let more = s refl f in omega (arith, few, more, p)

pub le_join : (a b c : ℕ) → a ≤ b → b ≤ c → a ≤ c
le_join a b c p q = omega (arith, p, q)
