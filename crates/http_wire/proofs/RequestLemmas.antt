-- Lemmas on what the bytes of a connection are.
use Rattle.std.proofs.Common.{◌≡◌, ◌≢◌, ℕ, ◌+◌, ◌≤◌, List, [], ◌++◌, length, take, drop, refl, sym, ap, ◌∙◌, subst, arith, inl, inr, length-append, length-drop, ⊎_elim}
use Rattle.std.proofs.lemmas.List.{take-append-le, drop-append-le}
use Rattle.httparse.specs.Grammar.{RequestHead}
use Rattle.httparse.proofs.GrammarLemmas.{request_unique}
use Rattle.http_wire.specs.declared.request.Request.{Request}
use Rattle.http_wire.specs.Head.{longest_head, EndsAt, IsJudged}
use Rattle.http_wire.specs.Fields.{content_length, transfer_encoding, values_of, HasNone, IsBodySize}
use Rattle.http_wire.specs.Request.{fields_of, IsGoodHead, HasHead, IsBadHead, IsNoLength, Announces, IsTooBig, IsOpenBody, IsUnfinished, request_of, IsWhole, Outcome, Whole, Unfinished, BadHead, NoLength, TooBig, IsRequest}
use Rattle.http_wire.proofs.HeadLemmas.{EndsAt_more, EndsAt_less, EndsAt_unique}
use Rattle.http_wire.proofs.FieldLemmas.{length_unique}

-- ---- one head

-- a text is one good head
pub good_unique : (text : List ℕ) (h k : RequestHead) (m n : ℕ) → IsGoodHead text h m → IsGoodHead text k n → (h ≡ k) × (m ≡ n)
good_unique text h k m n a b =
    let same : h ≡ k = (request_unique text h k [] [] a.reads b.reads).0 in
    (same, length_unique (values_of content_length (fields_of h)) m n a.sized (subst (λ (x : RequestHead). IsBodySize (fields_of x) n) (sym same) b.sized))

-- two good heads at the front are one
record Same (e f : ℕ) (h k : RequestHead) (m n : ℕ) : Type 0 where
  ends : e ≡ f
  heads : h ≡ k
  sizes : m ≡ n

head_unique : (bytes : List ℕ) (e f : ℕ) (h k : RequestHead) (m n : ℕ) → HasHead bytes e h m → HasHead bytes f k n → Same e f h k m n
head_unique bytes e f h k m n a b =
    let ends : e ≡ f = EndsAt_unique bytes e f a.ends b.ends in
    let both = good_unique (take e bytes) h k m n a.good (subst (λ (x : ℕ). IsGoodHead (take x bytes) k n) (sym ends) b.good) in
    record { ends = ends; heads = both.0; sizes = both.1 }

pub HasHead_more : (bytes more : List ℕ) (end : ℕ) (head : RequestHead) (size : ℕ) → HasHead bytes end head size → HasHead (bytes ++ more) end head size
HasHead_more bytes more end head size h = record {
  ends = EndsAt_more bytes more end h.ends;
  within = h.within;
  good = subst (λ (x : List ℕ). IsGoodHead x head size) (sym (take-append-le end bytes more h.ends.within)) h.good;
}

HasHead_less : (bytes more : List ℕ) (end : ℕ) (head : RequestHead) (size : ℕ) → end ≤ length bytes → HasHead (bytes ++ more) end head size → HasHead bytes end head size
HasHead_less bytes more end head size within h = record {
  ends = EndsAt_less bytes more end within h.ends;
  within = h.within;
  good = subst (λ (x : List ℕ). IsGoodHead x head size) (take-append-le end bytes more within) h.good;
}

pub Announces_more : (bytes more : List ℕ) (end : ℕ) (head : RequestHead) (size : ℕ) → Announces bytes end head size → Announces (bytes ++ more) end head size
Announces_more bytes more end head size a = record { stands = HasHead_more bytes more end head size a.stands; plain = a.plain }

-- ---- what is there stays

judged_more : (bytes more : List ℕ) → IsJudged bytes → IsJudged (bytes ++ more)
judged_more bytes more j =
    ⊎_elim (λ (long : longest_head ≤ length bytes). inl (omega (arith, long, length-append bytes more))) (λ (at : (end : ℕ) × EndsAt bytes end). inr (at.0, EndsAt_more bytes more at.0 at.1)) j

-- a head that is good with more bytes ends within those that were judged
judged_within : (bytes more : List ℕ) (end : ℕ) (head : RequestHead) (size : ℕ) → IsJudged bytes → HasHead (bytes ++ more) end head size → end ≤ length bytes
judged_within bytes more end head size j h =
    ⊎_elim (λ (long : longest_head ≤ length bytes). omega (arith, long, h.within))
    (λ (at : (end : ℕ) × EndsAt bytes end). omega (arith, EndsAt_unique (bytes ++ more) end at.0 h.ends (EndsAt_more bytes more at.0 at.1), at.1.within)) j

bad_more : (bytes more : List ℕ) → IsBadHead bytes → IsBadHead (bytes ++ more)
bad_more bytes more b = record {
  judged = judged_more bytes more b.judged;
  bad = λ end head size h. b.bad end head size (HasHead_less bytes more end head size (judged_within bytes more end head size b.judged h) h);
}

-- the body is the same, whatever stands behind it
body_more : (bytes more : List ℕ) (end size : ℕ) → end + size ≤ length bytes → take size (drop end (bytes ++ more)) ≡ take size (drop end bytes)
body_more bytes more end size come =
    ap (take size) (drop-append-le end bytes more (omega arith)) ∙ take-append-le size (drop end bytes) more (omega (arith, length-drop end bytes))

pub stays : (limit : ℕ) (bytes more : List ℕ) (outcome : Outcome) → outcome ≢ Unfinished → IsRequest limit bytes outcome → IsRequest limit (bytes ++ more) outcome
stays limit bytes more (Whole request) other w = record {
  end = w.end;
  head = w.head;
  size = w.size;
  announced = Announces_more bytes more w.end w.head w.size w.announced;
  below = w.below;
  come = omega (arith, w.come, length-append bytes more);
  is = w.is ∙ ap (request_of w.head) (sym (body_more bytes more w.end w.size w.come));
}
stays limit bytes more Unfinished other u = absurd (other refl)
stays limit bytes more BadHead other b = bad_more bytes more b
stays limit bytes more NoLength other n = record { end = n.end; head = n.head; size = n.size; stands = HasHead_more bytes more n.end n.head n.size n.stands; coded = n.coded }
stays limit bytes more TooBig other t = record { end = t.end; head = t.head; size = t.size; announced = Announces_more bytes more t.end t.head t.size t.announced; above = t.above }

-- ---- one outcome

opened : (limit : ℕ) (bytes : List ℕ) → IsUnfinished limit bytes → IsJudged bytes → IsOpenBody limit bytes
opened limit bytes u j = ⊎_elim (λ (not_yet : ¬ (IsJudged bytes)). absurd (not_yet j)) (λ (o : IsOpenBody limit bytes). o) u

judged : (bytes : List ℕ) (end : ℕ) (head : RequestHead) (size : ℕ) → HasHead bytes end head size → IsJudged bytes
judged bytes end head size h = inr (end, h.ends)

bad_good : (bytes : List ℕ) (end : ℕ) (head : RequestHead) (size : ℕ) → IsBadHead bytes → HasHead bytes end head size → ⊥
bad_good bytes end head size b h = b.bad end head size h

plain_coded : (bytes : List ℕ) (end : ℕ) (head : RequestHead) (size : ℕ) → Announces bytes end head size → IsNoLength bytes → ⊥
plain_coded bytes end head size a n =
    let same = head_unique bytes end n.end head n.head size n.size a.stands n.stands in
    n.coded (subst (λ (x : RequestHead). HasNone transfer_encoding (fields_of x)) same.heads a.plain)

one_size : (bytes : List ℕ) (e f : ℕ) (h k : RequestHead) (m n : ℕ) → Announces bytes e h m → Announces bytes f k n → (e ≡ f) × (m ≡ n)
one_size bytes e f h k m n a b = let same = head_unique bytes e f h k m n a.stands b.stands in (same.ends, same.sizes)

whole_unique : (limit : ℕ) (bytes : List ℕ) (r s : Request) → IsWhole limit bytes r → IsWhole limit bytes s → r ≡ s
whole_unique limit bytes r s a b =
    let same = head_unique bytes a.end b.end a.head b.head a.size b.size a.announced.stands b.announced.stands in
    a.is ∙ ap (λ (h : RequestHead). request_of h (take a.size (drop a.end bytes))) same.heads ∙ ap (λ (n : ℕ). request_of b.head (take n (drop a.end bytes))) same.sizes
    ∙ ap (λ (e : ℕ). request_of b.head (take b.size (drop e bytes))) same.ends ∙ sym b.is

whole_open : (limit : ℕ) (bytes : List ℕ) (r : Request) → IsWhole limit bytes r → IsUnfinished limit bytes → ⊥
whole_open limit bytes r w u =
    let o = opened limit bytes u (judged bytes w.end w.head w.size w.announced.stands) in
    let same = one_size bytes w.end o.end w.head o.head w.size o.size w.announced o.announced in
    omega (arith, w.come, o.open_end, same.0, same.1)

whole_big : (limit : ℕ) (bytes : List ℕ) (r : Request) → IsWhole limit bytes r → IsTooBig limit bytes → ⊥
whole_big limit bytes r w t =
    let same = one_size bytes w.end t.end w.head t.head w.size t.size w.announced t.announced in
    omega (arith, w.below, t.above, same.1)

open_bad : (limit : ℕ) (bytes : List ℕ) → IsUnfinished limit bytes → IsBadHead bytes → ⊥
open_bad limit bytes u b = let o = opened limit bytes u b.judged in bad_good bytes o.end o.head o.size b o.announced.stands

open_coded : (limit : ℕ) (bytes : List ℕ) → IsUnfinished limit bytes → IsNoLength bytes → ⊥
open_coded limit bytes u n = let o = opened limit bytes u (judged bytes n.end n.head n.size n.stands) in plain_coded bytes o.end o.head o.size o.announced n

open_big : (limit : ℕ) (bytes : List ℕ) → IsUnfinished limit bytes → IsTooBig limit bytes → ⊥
open_big limit bytes u t =
    let o = opened limit bytes u (judged bytes t.end t.head t.size t.announced.stands) in
    let same = one_size bytes o.end t.end o.head t.head o.size t.size o.announced t.announced in
    omega (arith, o.below, t.above, same.1)

whole_bad : (limit : ℕ) (bytes : List ℕ) (r : Request) → IsWhole limit bytes r → IsBadHead bytes → ⊥
whole_bad limit bytes r w b = bad_good bytes w.end w.head w.size b w.announced.stands

big_bad : (limit : ℕ) (bytes : List ℕ) → IsTooBig limit bytes → IsBadHead bytes → ⊥
big_bad limit bytes t b = bad_good bytes t.end t.head t.size b t.announced.stands

coded_bad : (bytes : List ℕ) → IsNoLength bytes → IsBadHead bytes → ⊥
coded_bad bytes n b = bad_good bytes n.end n.head n.size b n.stands

pub one : (limit : ℕ) (bytes : List ℕ) (a b : Outcome) → IsRequest limit bytes a → IsRequest limit bytes b → a ≡ b
one limit bytes (Whole r) (Whole s) x y = ap Whole (whole_unique limit bytes r s x y)
one limit bytes (Whole r) Unfinished x y = absurd (whole_open limit bytes r x y)
one limit bytes (Whole r) BadHead x y = absurd (whole_bad limit bytes r x y)
one limit bytes (Whole r) NoLength x y = absurd (plain_coded bytes x.end x.head x.size x.announced y)
one limit bytes (Whole r) TooBig x y = absurd (whole_big limit bytes r x y)
one limit bytes Unfinished (Whole s) x y = absurd (whole_open limit bytes s y x)
one limit bytes Unfinished Unfinished x y = refl
one limit bytes Unfinished BadHead x y = absurd (open_bad limit bytes x y)
one limit bytes Unfinished NoLength x y = absurd (open_coded limit bytes x y)
one limit bytes Unfinished TooBig x y = absurd (open_big limit bytes x y)
one limit bytes BadHead (Whole s) x y = absurd (whole_bad limit bytes s y x)
one limit bytes BadHead Unfinished x y = absurd (open_bad limit bytes y x)
one limit bytes BadHead BadHead x y = refl
one limit bytes BadHead NoLength x y = absurd (coded_bad bytes y x)
one limit bytes BadHead TooBig x y = absurd (big_bad limit bytes y x)
one limit bytes NoLength (Whole s) x y = absurd (plain_coded bytes y.end y.head y.size y.announced x)
one limit bytes NoLength Unfinished x y = absurd (open_coded limit bytes y x)
one limit bytes NoLength BadHead x y = absurd (coded_bad bytes x y)
one limit bytes NoLength NoLength x y = refl
one limit bytes NoLength TooBig x y = absurd (plain_coded bytes y.end y.head y.size y.announced x)
one limit bytes TooBig (Whole s) x y = absurd (whole_big limit bytes s y x)
one limit bytes TooBig Unfinished x y = absurd (open_big limit bytes y x)
one limit bytes TooBig BadHead x y = absurd (big_bad limit bytes x y)
one limit bytes TooBig NoLength x y = absurd (plain_coded bytes x.end x.head x.size x.announced y)
one limit bytes TooBig TooBig x y = refl
