-- Lemmas on what is found at the front of bytes whose head has come, and on what a reader remembers.
use Rattle.std.proofs.Common.{◌≡◌, ℕ, ◌+◌, ◌<◌, ◌≤◌, true, false, List, [], ◌++◌, length, take, drop, sym, ap, ◌∙◌, subst, arith, inl, inr, append_assoc, length-append}
use Rattle.std.specs.Prelude.{min}
use Rattle.std.proofs.lemmas.List.{take-append-le, append-nil}
use Rattle.httparse.specs.Grammar.{AllPass, RequestHead}
use Rattle.http_wire.specs.declared.head.Head.{Head}
use Rattle.http_wire.specs.declared.request.Request.{Request}
use Rattle.http_wire.specs.declared.search.Search.{Search}
use Rattle.http_wire.specs.Head.{longest_head, is_line_end, EndsHead, EndsAt}
use Rattle.http_wire.specs.Fields.{transfer_encoding, values_of}
use Rattle.http_wire.specs.Target.{path_of, query_of, pairs_of}
use Rattle.http_wire.specs.Request.{fields_of, IsGoodHead, HasHead, IsBadHead, IsNoLength, Announces, IsTooBig, IsUnfinished, IsWhole}
use Rattle.http_wire.specs.Judged.{Says}
use Rattle.http_wire.specs.Remembering.{Waits, Remembers}
use Rattle.http_wire.specs.Searching.{HasNoEnd, IsSearched}
use Rattle.http_wire.proofs.HeadLemmas.{EndsAt_unique}
use Rattle.http_wire.proofs.FieldLemmas.{none_there}
use Rattle.http_wire.proofs.RequestLemmas.{Announces_more}

pub bad_head : (bytes : List ℕ) (end : ℕ) → EndsAt bytes end → ((head : RequestHead) (size : ℕ) → ¬ (IsGoodHead (take end bytes) head size)) → IsBadHead bytes
bad_head bytes end e bad = record {
  judged = inr (end, e);
  bad = λ f head size h. bad head size (subst (λ (x : ℕ). IsGoodHead (take x bytes) head size) (EndsAt_unique bytes f end h.ends e) h.good);
}

-- a head that doesn't end within its most bytes
pub endless : (bytes : List ℕ) (most : ℕ) → longest_head ≤ most → longest_head ≤ length bytes → HasNoEnd bytes most → IsBadHead bytes
endless bytes most l long none = record { judged = inl long; bad = λ end head size h. none end (omega (arith, h.within, l)) h.ends.ends }

-- a head that hasn't ended yet
pub open_head : (limit : ℕ) (bytes : List ℕ) → length bytes < longest_head → HasNoEnd bytes (length bytes) → IsUnfinished limit bytes
open_head limit bytes short none = inl (λ j. elim j [ inl long ↦ (omega (arith, long, short)) | inr at ↦ (none at.0 at.1.within at.1.ends) ])

stands : (bytes : List ℕ) (end : ℕ) (said : Head) → EndsAt bytes end → end ≤ longest_head → (s : Says (take end bytes) said) → HasHead bytes end s.head said.size
stands bytes end said e within s = record { ends = e; within = within; good = s.good }

pub no_length : (bytes : List ℕ) (end : ℕ) (said : Head) → EndsAt bytes end → end ≤ longest_head → Says (take end bytes) said → said.coded ≡ true → IsNoLength bytes
no_length bytes end said e within s set = record { end = end; head = s.head; size = said.size; stands = stands bytes end said e within s; coded = s.coded.0 set }

announces : (bytes : List ℕ) (end : ℕ) (said : Head) → EndsAt bytes end → end ≤ longest_head → (s : Says (take end bytes) said) → said.coded ≡ false → Announces bytes end s.head said.size
announces bytes end said e within s plain = record {
  stands = stands bytes end said e within s;
  plain = none_there said.coded (values_of transfer_encoding (fields_of s.head)) s.coded plain;
}

pub too_big : (limit : ℕ) (bytes : List ℕ) (end : ℕ) (said : Head) → EndsAt bytes end → end ≤ longest_head → Says (take end bytes) said → said.coded ≡ false → limit < said.size → IsTooBig limit bytes
too_big limit bytes end said e within s plain above = record { end = end; head = s.head; size = said.size; announced = announces bytes end said e within s plain; above = above }

pub open_body : (limit : ℕ) (bytes : List ℕ) (end : ℕ) (said : Head) → EndsAt bytes end → end ≤ longest_head → Says (take end bytes) said → said.coded ≡ false → said.size ≤ limit → length bytes < end + said.size
    → IsUnfinished limit bytes × Waits limit bytes (end + said.size)
open_body limit bytes end said e within s plain below short =
    let there : Announces bytes end s.head said.size = announces bytes end said e within s plain in (
      inr (record { end = end; head = s.head; size = said.size; announced = there; below = below; open_end = short }),
      λ more still. inr (record { end = end; head = s.head; size = said.size; announced = Announces_more bytes more end s.head said.size there; below = below; open_end = still }),
    )

pub whole : (limit : ℕ) (bytes : List ℕ) (end : ℕ) (said : Head) (request : Request) (body : List ℕ) → EndsAt bytes end → end ≤ longest_head → Says (take end bytes) said → said.coded ≡ false → said.size ≤ limit → end + said.size ≤ length bytes
    → body ≡ take said.size (drop end bytes)
    → request ≡ record { method = said.method.now; path = path_of said.target.now; query = pairs_of (query_of said.target.now); body = body } → IsWhole limit bytes request
whole limit bytes end said request body e within s plain below come b is = record {
  end = end;
  head = s.head;
  size = said.size;
  announced = announces bytes end said e within s plain;
  below = below;
  come = come;
  is = is ∙ ap (λ (m : List ℕ). made m said.target.now body) s.method ∙ ap (λ (t : List ℕ). made s.head.method t body) s.target ∙ ap (λ (x : List ℕ). made s.head.method s.head.target x) b;
}
  where
    made : (method target body : List ℕ) → Request
    made method target body = record { method = method; path = path_of target; query = pairs_of (query_of target); body = body }

-- ---- what is remembered

searched_more : (bytes piece : List ℕ) (begin done : ℕ) → IsSearched bytes begin done → IsSearched (bytes ++ piece) begin done
searched_more bytes piece begin done s = record {
  line_ends = subst (λ (x : List ℕ). AllPass is_line_end x) (sym (take-append-le begin bytes piece s.begin_within)) s.line_ends;
  begin_within = omega (arith, s.begin_within, length-append bytes piece);
  begin_longest = s.begin_longest;
  done_within = omega (arith, s.done_within, length-append bytes piece);
  done_longest = s.done_longest;
  none = λ n l e. s.none n l (subst (λ (x : List ℕ). EndsHead x) (take-append-le n bytes piece (omega (arith, s.done_within, l))) e);
}

pub remembers_more : (limit : ℕ) (bytes piece : List ℕ) (search : Search) (needed : ℕ) → Remembers limit bytes search needed → Remembers limit (bytes ++ piece) search needed
remembers_more limit bytes piece search needed r = record {
  searched = searched_more bytes piece search.begin search.done r.searched;
  waits = λ more l. subst (λ (x : List ℕ). IsUnfinished limit x) (sym (append_assoc bytes piece more)) (r.waits (piece ++ more) (omega (arith, l, ap length (append_assoc bytes piece more))));
}

-- what a search without an end tells of the bytes that it went over
pub next_open : (limit : ℕ) (slice items : List ℕ) → slice ≡ items → length items < longest_head → HasNoEnd slice (min (length slice) longest_head) → IsUnfinished limit items
next_open limit slice items e short none =
    open_head limit items short (λ n l ends. none n (omega (arith, l, short, ap length e)) (subst (λ (x : List ℕ). EndsHead (take n x)) (sym e) ends))

pub next_endless : (slice items : List ℕ) → slice ≡ items → longest_head ≤ length items → HasNoEnd slice (min (length slice) longest_head) → IsBadHead items
next_endless slice items e long none =
    endless items longest_head (omega arith) long (λ n l ends. none n (omega (arith, l, long, ap length e)) (subst (λ (x : List ℕ). EndsHead (take n x)) (sym e) ends))

pub remembers : (limit : ℕ) (one other items : List ℕ) (search : Search) (needed : ℕ) → one ≡ items → other ≡ items → IsSearched one search.begin search.done → Waits limit other needed → Remembers limit items search needed
remembers limit one other items search needed e f searched waits = record {
  searched = subst (λ (x : List ℕ). IsSearched x search.begin search.done) e searched;
  waits = subst (λ (x : List ℕ). Waits limit x needed) f waits;
}

pub waits_now : (limit : ℕ) (bytes : List ℕ) (needed : ℕ) → length bytes < needed → Waits limit bytes needed → IsUnfinished limit bytes
waits_now limit bytes needed short waits = subst (λ (x : List ℕ). IsUnfinished limit x) (append-nil bytes) (waits [] (omega (arith, short, ap length (append-nil bytes))))
