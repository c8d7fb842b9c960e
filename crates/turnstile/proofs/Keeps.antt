-- Each step keeps the rule.
use Rattle.std.proofs.Common.{◌≡◌, ◌≢◌, ◌⊎◌, ℕ, zero, suc, ◌<◌, Bool, true, eqb, List, [], ◌∷◌, ◌++◌, length, get_or, set, refl, sym, ap, ◌∙◌, subst, inl, inr, ⊎_elim, arith, Option, Some, None}
use Rattle.std.specs.Prelude.{IsTrue, All}
use mathlib.Core.Option.{some, none, some-injective, some-ne-none}
use mathlib.Core.Option as maybe
use mathlib.Core.Logic.{dite}
use native.Mathlib.Decide.{ℕ_discrete}
use prog.Atomic.{either}
use lib.ListN.{get_elem?}
use Rattle.std.proofs.lemmas.Bool.{eq-eqb, ne_eqb, false≢true}
use Rattle.std.proofs.lemmas.List.Elements.{All-append}
use Rattle.atomic_table.specs.Table.{State, Me, step, Act, keeps, takes, gives, carried_after, homes_after, stepped, Allows, Splits, Joins, opening, Final, Seen}
use Rattle.atomic_table.proofs.Lists.{at_set, set_here, set_else, set_again, at_longer, at_last}
use Rattle.turnstile.specs.declared.view.View.{View}
use Rattle.turnstile.specs.declared.view.Joined.{Joined}
use Rattle.turnstile.specs.Lists.{BeginsWith, IsIn, own, Appends}
use Rattle.turnstile.specs.Views.{numbers_of, longer, first_view, with_given, later_view, winning, counting, freeing, absorbing, spent, joined_numbers, IsLast, Descends}
use Rattle.turnstile.specs.Rule.{IsAt, Fits, IsHome, IsOut, IsRuled, Wins, Won, Counted, Freed, Looked}
use Rattle.turnstile.proofs.Fronts.{begins_refl, begins_trans, longer_begins, longer_within, longer_is, is_in_front, is_in_last, is_in_snoc, all_one, all_nil, at_snoc_place, at_single, numbers_more, own_none, own_other, own_between}

module _ {X E P : Type 0} (list : X → List E) (number : E → ℕ) (is_common : E → Bool) (descends : P → X → Type 0) where
  abbrev V : Type 0
  V = View E P

  abbrev St : Type 0
  St = State (Option X) V

  abbrev M : Type 0
  M = Me (Option X) V

  abbrev Own : ℕ → List E → List E
  Own = own number is_common

  abbrev Rule : St → Type 0
  Rule = IsRuled list number is_common descends

  abbrev Fit : List E → P → List ℕ → List (Joined E) → V → Type 0
  Fit = Fits number is_common

  at_once : (views : List V) (j k : ℕ) (v w : V) → j ≡ k → get_elem? views j ≡ some v → get_elem? views k ≡ some w → v ≡ w
  at_once views j k v w e a b = some-injective v w (sym a ∙ ap (get_elem? views) e ∙ b)

  -- a pass after the view of the pass id became w
  after_set : (views : List V) (id k : ℕ) (w u : V) → IsAt (set views id w) k u → ((k ≡ id) × (w ≡ u)) ⊎ ((k ≢ id) × IsAt views k u)
  after_set views id k w u h = ⊎_elim (λ (t : (k ≡ id) × (w ≡ u)). inl t) (λ (t : (k ≢ id) × (get_elem? views k ≡ some u)). inr (t.0, record { at = t.1; live = h.live })) (at_set views id k w u h.at)

  in_length : (views : List V) (id : ℕ) (v : V) → get_elem? views id ≡ some v → id < length views
  in_length [] id v e = absurd (some-ne-none v (sym e))
  in_length (x ∷ views) zero v e = omega arith
  in_length (x ∷ views) (suc id) v e = let t : id < length views = in_length views id v e in omega arith

  set_at : (views : List V) (id : ℕ) (v w : V) → get_elem? views id ≡ some v → w.is_live ≡ true → IsAt (set views id w) id w
  set_at views id v w e live = record { at = set_here views id w (in_length views id v e); live = live }

  set_other : (views : List V) (id k : ℕ) (w u : V) → k ≢ id → IsAt views k u → IsAt (set views id w) k u
  set_other views id k w u ne h = record { at = set_else views id k w ne ∙ h.at; live = h.live }

  -- Only this pass changes, and keeps its number. What is needed of it, of the others, and of the one list
  pub record Moves (s : St) (r : Rule s) (id : ℕ) (v w : V) (word' : ℕ) (longest' : List E) (homes' : List (maybe.Option (Option X))) : Type 0 where
    at : IsAt s.views id v
    live : w.is_live ≡ true
    same_number : w.number ≡ v.number
    mine : Fit longest' r.root r.given r.joined w
    theirs : (k : ℕ) (u : V) → IsAt s.views k u → k ≢ id → Fit longest' r.root r.given r.joined u
    has_seen : (k : ℕ) × (u : V) × IsAt (set s.views id w) k u × (u.seen ≡ longest')
    names : All (λ e. IsIn (number e) r.given) longest'
    keeps_own : All (λ j. Own j.number longest' ≡ Own j.number j.seen) r.joined
    turns : IsHome list descends word' longest' r.root (record { words = word' ∷ []; homes = homes'; views = set s.views id w }) ⊎ IsOut word' longest' (record { words = word' ∷ []; homes = homes'; views = set s.views id w })

  moved : (s : St) (r : Rule s) (id : ℕ) (v w : V) (word' : ℕ) (longest' : List E) (homes' : List (maybe.Option (Option X))) → Moves s r id v w word' longest' homes'
      → Rule record { words = word' ∷ []; homes = homes'; views = set s.views id w }
  moved s r id v w word' longest' homes' m = record {
    longest = longest';
    root = r.root;
    given = r.given;
    joined = r.joined;
    word = word';
    words = refl;
    fits = λ k u h. ⊎_elim (λ (t : (k ≡ id) × (w ≡ u)). subst (Fit longest' r.root r.given r.joined) t.1 m.mine) (λ (t : (k ≢ id) × IsAt s.views k u). m.theirs k u t.1 t.0) (after_set s.views id k w u h);
    apart = λ j k u x a b same. ⊎_elim
        (λ (t : (j ≡ id) × (w ≡ u)). ⊎_elim (λ (t' : (k ≡ id) × (w ≡ x)). t.0 ∙ sym t'.0)
        (λ (t' : (k ≢ id) × IsAt s.views k x). absurd (t'.0 (sym (r.apart id k v x m.at t'.1 (sym m.same_number ∙ ap (λ (z : V). z.number) t.1 ∙ same))))) (after_set s.views id k w x b))
        (λ (t : (j ≢ id) × IsAt s.views j u). ⊎_elim (λ (t' : (k ≡ id) × (w ≡ x)). absurd (t.0 (r.apart j id u v t.1 m.at (same ∙ sym (ap (λ (z : V). z.number) t'.1) ∙ m.same_number))))
        (λ (t' : (k ≢ id) × IsAt s.views k x). r.apart j k u x t.1 t'.1 same) (after_set s.views id k w x b))
        (after_set s.views id j w u a);
    each_given = λ n h. ⊎_elim
        (λ (t : (k : ℕ) × (u : V) × IsAt s.views k u × (u.number ≡ n)). inl (dite (ℕ_discrete t.0 id)
        (λ e. (id, w, set_at s.views id v w m.at.at m.live, m.same_number ∙ ap (λ (z : V). z.number) (at_once s.views id t.0 v t.1 (sym e) m.at.at t.2.at) ∙ t.3))
        (λ ne. (t.0, t.1, set_other s.views id t.0 w t.1 ne t.2, t.3))))
        (λ (t : IsIn n (numbers_of r.joined)). inr t) (r.each_given n h);
    joined_given = r.joined_given;
    first_given = r.first_given;
    seen = m.has_seen;
    named = m.names;
    kept = m.keeps_own;
    turn = m.turns;
  }

  at_words : (s : St) (r : Rule s) → get_or s.words 0 0 ≡ r.word
  at_words s r = ap (λ (ws : List ℕ). get_or ws 0 0) r.words

  restated : (s : St) (r : Rule s) (n id : ℕ) (c : List (ℕ × Option X)) (w : V) (a : Act (Option X)) (homes' : List (maybe.Option (Option X))) → homes_after s.homes c a ≡ homes'
      → Rule record { words = n ∷ []; homes = homes'; views = set s.views id w } → Rule (stepped s 0 n id c w a)
  restated s r n id c w a homes' same h =
      let words : set s.words 0 n ≡ n ∷ [] = ap (λ (ws : List ℕ). set ws 0 n) r.words in
      subst (λ (z : List ℕ × List (maybe.Option (Option X))). Rule record { words = z.0; homes = z.1; views = set s.views id w }) (λ i. (sym words i, sym same i)) h

  unchanged : (s : St) (r : Rule s) (id : ℕ) (c : List (ℕ × Option X)) (v : V) → get_elem? s.views id ≡ some v → Rule (stepped s 0 (get_or s.words 0 0) id c v keeps)
  unchanged s r id c v at =
      let words : set s.words 0 (get_or s.words 0 0) ≡ s.words = ap (λ (ws : List ℕ). set ws 0 (get_or ws 0 0)) r.words ∙ sym r.words in
      let views : set s.views id v ≡ s.views = set_again s.views id v at in
      subst (λ (z : List ℕ × List V). Rule record { words = z.0; homes = s.homes; views = z.1 }) (λ i. (sym words i, sym views i)) r

  seen_moves : (s : St) (r : Rule s) (id : ℕ) (v w : V) → get_elem? s.views id ≡ some v → w.is_live ≡ true → w.seen ≡ v.seen → (k : ℕ) × (u : V) × IsAt (set s.views id w) k u × (u.seen ≡ r.longest)
  seen_moves s r id v w at live same = dite (ℕ_discrete r.seen.0 id)
      (λ e. (id, w, set_at s.views id v w at live, same ∙ ap (λ (z : V). z.seen) (at_once s.views id r.seen.0 v r.seen.1 (sym e) at r.seen.2.at) ∙ r.seen.3))
      (λ ne. (r.seen.0, r.seen.1, set_other s.views id r.seen.0 w r.seen.1 ne r.seen.2, r.seen.3))

  -- a pass takes the turn
  win : (slots id : ℕ) (me : M) → me.0.is_live ≡ true → (s : St) (r : Rule s) → get_elem? s.views id ≡ some me.0 → (h : IsHome list descends r.word r.longest r.root s)
      → Moves s r id me.0 (winning (list h.value) me.0) 1 r.longest (none ∷ [])
  win slots id me live s r at h =
      let here : IsAt s.views id me.0 = record { at = at; live = live } in
      let f = r.fits id me.0 here in
      let w : V = winning (list h.value) me.0 in record {
        at = here;
        live = live;
        same_number = refl;
        mine = record { is_front = f.is_front; all_own = f.all_own; went_on = f.went_on; same_own = f.same_own; of_root = f.of_root; was_given = f.was_given; not_joined = f.not_joined; first = f.first };
        theirs = λ k u hu _. r.fits k u hu;
        has_seen = seen_moves s r id me.0 w at live refl;
        names = r.named;
        keeps_own = r.kept;
        turns = inr record {
          holder = id;
          view = w;
          at = set_at s.views id me.0 w at live;
          out = refl;
          turn = refl;
          taken = λ _. h.its_list;
          counted = λ e. absurd (omega (arith, e));
          in_turn = inl refl;
          others = λ k u hu ne. ⊎_elim (λ (t : (k ≡ id) × (w ≡ u)). absurd (ne t.0)) (λ (t : (k ≢ id) × IsAt s.views k u). h.nobody k u t.1) (after_set s.views id k w u hu);
        };
      }

  won : (slots id : ℕ) (me : M) → me.0.is_live ≡ true → (s : St) (r : Rule s) → get_elem? s.views id ≡ some me.0 → (h : IsHome list descends r.word r.longest r.root s)
      → Wins list number is_common descends me (winning (list h.value) me.0, (0, Some h.value) ∷ me.1)
  won slots id me live s r at h =
      let f = r.fits id me.0 (record { at = at; live = live }) in record {
        value = h.value;
        view = refl;
        hand = refl;
        front = subst (λ (l : List E). BeginsWith l me.0.seen) (sym h.its_list) f.is_front;
        own = ap (Own me.0.number) h.its_list ∙ f.all_own;
        fits_root = (r.root, f.of_root, h.fits_root);
      }

  pub wins : (slots id : ℕ) (me : M) → me.0.is_live ≡ true → me.0.turn ≡ 0
      → Allows Rule slots id me 0 (λ n. either (eqb n 0) 1 n) (Won list number is_common descends (step slots 0 0 1 none) me)
  wins slots id me live away s r deep at small =
      let n : ℕ = get_or s.words 0 0 in
      let n_is : n ≡ r.word = at_words s r in
      dite (ℕ_discrete n 0)
      (λ hit. ⊎_elim
      (λ (h : IsHome list descends r.word r.longest r.root s). (
        winning (list h.value) me.0,
        takes 0 (Some h.value),
        ap (λ (hs : List (maybe.Option (Option X))). get_elem? hs 0) h.home,
        subst (λ b. Rule (stepped s 0 (either b 1 n) id me.1 (winning (list h.value) me.0) (takes 0 (Some h.value)))) (sym (eq-eqb n 0 hit))
            (restated s r 1 id me.1 (winning (list h.value) me.0) (takes 0 (Some h.value)) (none ∷ []) (ap (λ (hs : List (maybe.Option (Option X))). set hs 0 none) h.home)
            (moved s r id me.0 (winning (list h.value) me.0) 1 r.longest (none ∷ []) (win slots id me live s r at h))),
        ((λ _. won slots id me live s r at h), λ not. absurd (not hit)),
      ))
      (λ (o : IsOut r.word r.longest s). absurd (⊎_elim (λ (e : r.word ≡ 1). omega arith) (λ (e : r.word ≡ 2). omega arith) o.in_turn))
      r.turn)
      (λ miss. (
        me.0,
        keeps,
        tt,
        subst (λ b. Rule (stepped s 0 (either b 1 n) id me.1 me.0 keeps)) (sym (ne_eqb n 0 miss)) (unchanged s r id me.1 me.0 at),
        ((λ hit. absurd (miss hit)), λ _. refl),
      ))

  -- the one pass that holds the turn
  pub holds_turn : (s : St) (r : Rule s) (id : ℕ) (v : V) → IsAt s.views id v → 0 < v.turn → (o : IsOut r.word r.longest s) × (id ≡ o.holder) × (v ≡ o.view)
  holds_turn s r id v here turn = ⊎_elim
      (λ (h : IsHome list descends r.word r.longest r.root s). absurd (let none : v.turn ≡ 0 = h.nobody id v here in omega arith))
      (λ (o : IsOut r.word r.longest s). dite (ℕ_discrete id o.holder)
      (λ e. (o, e, at_once s.views id o.holder v o.view e here.at o.at.at))
      (λ ne. absurd (let none : v.turn ≡ 0 = o.others id v here ne in omega arith)))
      r.turn

  numbered : (joined : List (Joined E)) (k : ℕ) (d : Joined E) → k < length joined → IsIn (get_or joined k d).number (numbers_of joined)
  numbered [] k d l = absurd (omega arith)
  numbered (j ∷ joined) zero d l = inl refl
  numbered (j ∷ joined) (suc k) d l = inr (numbered joined k d (omega arith))

  -- the pass that holds the turn counts the list of a value
  count : (id : ℕ) (me : M) (x : X) → ((e : E) → IsTrue (is_common e) → number e ≡ 0) → (here_live : me.0.is_live ≡ true) → (g : Appends number is_common me.0.number me.0.taken (list x))
      → (s : St) (r : Rule s) → get_elem? s.views id ≡ some me.0 → (o : IsOut r.word r.longest s) → id ≡ o.holder → me.0.taken ≡ r.longest
      → Moves s r id me.0 (counting (list x) me.0) 2 (list x) s.homes
  count id me x law live g s r at o holds taken =
      let here : IsAt s.views id me.0 = record { at = at; live = live } in
      let f = r.fits id me.0 here in
      let w : V = counting (list x) me.0 in
      let grown : BeginsWith (list x) r.longest = (g.rest, g.is ∙ ap (λ (l : List E). l ++ g.rest) taken) in
      let all_seen : BeginsWith (list x) me.0.seen = begins_trans (list x) r.longest me.0.seen grown f.is_front in
      let others : (n : ℕ) → n ≢ me.0.number → Own n (list x) ≡ Own n r.longest = (λ n ne. ap (Own n) g.is ∙ own_other number is_common n me.0.number me.0.taken g.rest g.each ne ∙ ap (Own n) taken) in record {
        at = here;
        live = live;
        same_number = refl;
        mine = record {
          is_front = begins_refl (list x);
          all_own = refl;
          went_on = begins_refl (list x);
          same_own = refl;
          of_root = f.of_root;
          was_given = f.was_given;
          not_joined = f.not_joined;
          first = λ e. ((f.first e).0, (f.first e).1, λ k d l. begins_trans (list x) me.0.seen (get_or r.joined k d).seen all_seen ((f.first e).2 k d l));
        };
        theirs = λ k u hu ne. let fu = r.fits k u hu in record {
          is_front = begins_trans (list x) r.longest u.seen grown fu.is_front;
          all_own = others u.number (λ e. ne (r.apart k id u me.0 hu here e)) ∙ fu.all_own;
          went_on = fu.went_on;
          same_own = fu.same_own;
          of_root = fu.of_root;
          was_given = fu.was_given;
          not_joined = fu.not_joined;
          first = fu.first;
        };
        has_seen = (id, w, set_at s.views id me.0 w at live, refl);
        names = subst (λ (l : List E). All (λ e. IsIn (number e) r.given) l) (sym g.is) (All-append (λ e. IsIn (number e) r.given) me.0.taken g.rest
            (subst (λ (l : List E). All (λ e. IsIn (number e) r.given) l) (sym taken) r.named)
            (λ k d l. ⊎_elim (λ (c : IsTrue (is_common (get_or g.rest k d))). subst (λ (z : ℕ). IsIn z r.given) (sym (law (get_or g.rest k d) c)) r.first_given)
            (λ (e : number (get_or g.rest k d) ≡ me.0.number). subst (λ (z : ℕ). IsIn z r.given) (sym e) f.was_given) (g.each k d l)));
        keeps_own = λ k d l. others (get_or r.joined k d).number (λ e. f.not_joined (subst (λ (z : ℕ). IsIn z (numbers_of r.joined)) e (numbered r.joined k d l))) ∙ r.kept k d l;
        turns = inr record {
          holder = id;
          view = w;
          at = set_at s.views id me.0 w at live;
          out = o.out;
          turn = refl;
          taken = λ e. absurd (omega (arith, e));
          counted = λ _. refl;
          in_turn = inr refl;
          others = λ k u hu ne. ⊎_elim (λ (t : (k ≡ id) × (w ≡ u)). absurd (ne t.0)) (λ (t : (k ≢ id) × IsAt s.views k u). o.others k u t.1 (λ e. t.0 (e ∙ sym holds))) (after_set s.views id k w u hu);
        };
      }

  pub counts : (slots id : ℕ) (me : M) (x : X) → ((e : E) → IsTrue (is_common e) → number e ≡ 0) → me.0.is_live ≡ true → me.0.turn ≡ 1 → Appends number is_common me.0.number me.0.taken (list x)
      → Allows Rule slots id me 0 (λ n. either (eqb n 1) 2 n) (Counted list number is_common (step slots 0 1 2 (some (Some x))) me)
  counts slots id me x law live turn g s r deep at small =
      let here : IsAt s.views id me.0 = record { at = at; live = live } in
      let f = r.fits id me.0 here in
      let t = holds_turn s r id me.0 here (omega arith) in
      let o : IsOut r.word r.longest s = t.0 in
      let word : r.word ≡ 1 = sym o.turn ∙ ap (λ (z : V). z.turn) (sym t.2) ∙ turn in
      let taken : me.0.taken ≡ r.longest = ap (λ (z : V). z.taken) t.2 ∙ o.taken word in
      let n : ℕ = get_or s.words 0 0 in
      let hit : n ≡ 1 = at_words s r ∙ word in (
        counting (list x) me.0,
        keeps,
        tt,
        subst (λ b. Rule (stepped s 0 (either b 2 n) id me.1 (counting (list x) me.0) keeps)) (sym (eq-eqb n 1 hit))
            (restated s r 2 id me.1 (counting (list x) me.0) keeps s.homes refl (moved s r id me.0 (counting (list x) me.0) 2 (list x) s.homes (count id me x law live g s r at o t.1 taken))),
        (λ value said. let same : x ≡ value = cc in record {
          view = ap (λ (y : X). counting (list y) me.0) same;
          hand = refl;
          front = subst (λ (l : List E). BeginsWith l me.0.seen) (sym taken) f.is_front;
          own = ap (Own me.0.number) taken ∙ f.all_own;
        }),
      )

  -- the pass that holds the turn and has counted gives the slot back
  free : (id : ℕ) (me : M) (x : X) → me.0.is_live ≡ true → list x ≡ me.0.seen → Descends descends me.0.root x
      → (s : St) (r : Rule s) → get_elem? s.views id ≡ some me.0 → (o : IsOut r.word r.longest s) → id ≡ o.holder → me.0.seen ≡ r.longest
      → Moves s r id me.0 (freeing me.0) 0 r.longest (some (Some x) ∷ [])
  free id me x live its_list from s r at o holds counted =
      let here : IsAt s.views id me.0 = record { at = at; live = live } in
      let f = r.fits id me.0 here in
      let w : V = freeing me.0 in
      let root : Some from.0 ≡ Some r.root = sym from.1 ∙ f.of_root in
      let root_is : from.0 ≡ r.root = cc in record {
        at = here;
        live = live;
        same_number = refl;
        mine = record { is_front = f.is_front; all_own = f.all_own; went_on = f.went_on; same_own = f.same_own; of_root = f.of_root; was_given = f.was_given; not_joined = f.not_joined; first = f.first };
        theirs = λ k u hu _. r.fits k u hu;
        has_seen = seen_moves s r id me.0 w at live refl;
        names = r.named;
        keeps_own = r.kept;
        turns = inl record {
          free = refl;
          value = x;
          home = refl;
          its_list = its_list ∙ counted;
          fits_root = subst (λ (p : P). descends p x) root_is from.2;
          nobody = λ k u hu. ⊎_elim (λ (t : (k ≡ id) × (w ≡ u)). ap (λ (z : V). z.turn) (sym t.1))
              (λ (t : (k ≢ id) × IsAt s.views k u). o.others k u t.1 (λ e. t.0 (e ∙ sym holds))) (after_set s.views id k w u hu);
        };
      }

  frees : (slots id : ℕ) (me : M) (x : X) → me.0.is_live ≡ true → me.0.turn ≡ 2 → me.1 ≡ (0, Some x) ∷ [] → list x ≡ me.0.seen → Descends descends me.0.root x
      → Allows Rule slots id me 0 (λ _. 0) (λ _. Freed (step slots 0 0 0 none) me 0)
  frees slots id me x live turn hand its_list from s r deep at small =
      let here : IsAt s.views id me.0 = record { at = at; live = live } in
      let t = holds_turn s r id me.0 here (omega arith) in
      let o : IsOut r.word r.longest s = t.0 in
      let word : r.word ≡ 2 = sym o.turn ∙ ap (λ (z : V). z.turn) (sym t.2) ∙ turn in
      let counted : me.0.seen ≡ r.longest = ap (λ (z : V). z.seen) t.2 ∙ o.counted word in (
        freeing me.0,
        gives,
        tt,
        restated s r 0 id me.1 (freeing me.0) gives (some (Some x) ∷ []) (ap (λ (c : List (ℕ × Option X)). homes_after s.homes c gives) hand ∙ ap (λ (hs : List (maybe.Option (Option X))). set hs 0 (some (Some x))) o.out)
            (moved s r id me.0 (freeing me.0) 0 r.longest (some (Some x) ∷ []) (free id me x live its_list from s r at o t.1 counted)),
        (refl, ap (λ (c : List (ℕ × Option X)). carried_after c gives) hand),
      )

  -- the same of a pass that has just counted, with the value back in its slot
  pub frees_counted : (slots id : ℕ) (v : V) (x : X) → v.is_live ≡ true → Descends descends v.root x
      → Allows Rule slots id (counting (list x) v, (0, Some x) ∷ []) 0 (λ _. 0) (λ _. Freed (step slots 0 0 0 none) (counting (list x) v, (0, Some x) ∷ []) 0)
  frees_counted slots id v x live from = frees slots id (counting (list x) v, (0, Some x) ∷ []) x live refl refl refl from

  pub looks : (slots id : ℕ) (me : M) → me.0.is_live ≡ true → Allows Rule slots id me 0 (λ n. n) (Looked number is_common (step slots 0 0 0 none) me)
  looks slots id me live s r deep at small =
      let f = r.fits id me.0 (record { at = at; live = live }) in (
        me.0,
        keeps,
        tt,
        unchanged s r id me.1 me.0 at,
        (
          refl,
          record {
            front = f.went_on;
            same_own = f.same_own;
            all_joined = λ e. subst (λ (js : List (Joined E)). All (λ j. BeginsWith me.0.seen j.seen) js) (sym (f.first e).1) (f.first e).2;
          },
        ),
      )

  -- a pass after one more came
  after_new : (views : List V) (id k : ℕ) (w new u : V) → IsAt (set views id w ++ new ∷ []) k u → IsAt (set views id w) k u ⊎ ((k ≡ length (set views id w)) × (new ≡ u))
  after_new views id k w new u h = ⊎_elim (λ (t : get_elem? (set views id w) k ≡ some u). inl record { at = t; live = h.live }) (λ (t : (k ≡ length (set views id w)) × (new ≡ u)). inr t) (at_snoc_place (set views id w) new u k h.at)

  kept_place : (views : List V) (new u : V) (k : ℕ) → IsAt views k u → IsAt (views ++ new ∷ []) k u
  kept_place views new u k h = record { at = at_longer views (new ∷ []) k u h.at; live = h.live }

  fit_given : (s : St) (r : Rule s) (n : ℕ) (u : V) → Fit r.longest r.root r.given r.joined u → u.number ≢ 0 → Fit r.longest r.root (r.given ++ n ∷ []) r.joined u
  fit_given s r n u f later = record {
    is_front = f.is_front;
    all_own = f.all_own;
    went_on = f.went_on;
    same_own = f.same_own;
    of_root = f.of_root;
    was_given = is_in_front u.number r.given (n ∷ []) f.was_given;
    not_joined = f.not_joined;
    first = λ e. absurd (later e);
  }

  -- a new pass is cut off the first one
  pub splits : (id n : ℕ) (v : V) → v.is_live ≡ true → v.number ≡ 0 → ¬ (IsIn n v.given) → Splits Rule id v (with_given n v) (later_view n v)
  splits id n v live first fresh s r at =
      let here : IsAt s.views id v = record { at = at; live = live } in
      let f = r.fits id v here in
      let w : V = with_given n v in
      let new : V = later_view n v in
      let views : List V = set s.views id w in
      let known : v.given ≡ r.given = (f.first first).0 in
      let not_given : ¬ (IsIn n r.given) = (λ h. fresh (subst (λ (z : List ℕ). IsIn n z) (sym known) h)) in
      let none : Own n r.longest ≡ [] = own_none number is_common n r.given r.longest r.named not_given in
      let none_seen : Own n v.seen ≡ [] = own_between number is_common n r.longest v.seen [] f.is_front (v.seen, refl) none in
      let place : ℕ = length views in
      let last : IsAt (views ++ new ∷ []) place new = record { at = at_last views new place refl; live = refl } in
      let mine : Fit r.longest r.root (r.given ++ n ∷ []) r.joined w = record {
        is_front = f.is_front;
        all_own = f.all_own;
        went_on = f.went_on;
        same_own = f.same_own;
        of_root = f.of_root;
        was_given = is_in_front v.number r.given (n ∷ []) f.was_given;
        not_joined = f.not_joined;
        first = λ e. (ap (λ (z : List ℕ). z ++ n ∷ []) known, (f.first e).1, (f.first e).2);
      } in
      let theirs : Fit r.longest r.root (r.given ++ n ∷ []) r.joined new = record {
        is_front = f.is_front;
        all_own = none ∙ sym none_seen;
        went_on = (v.seen, refl);
        same_own = none_seen;
        of_root = f.of_root;
        was_given = is_in_last n r.given;
        not_joined = λ h. not_given (r.joined_given n h);
        first = λ e. absurd (not_given (subst (λ (z : ℕ). IsIn z r.given) (sym e) r.first_given));
      } in
      let away : (k : ℕ) (u : V) → k ≢ id → IsAt s.views k u → u.number ≢ 0 = (λ k u ne h e. ne (r.apart k id u v h here (e ∙ sym first))) in
      let kept_at : (k : ℕ) (u : V) → IsAt s.views k u → (u' : V) × IsAt (views ++ new ∷ []) k u' × (u'.number ≡ u.number) × (u'.seen ≡ u.seen) × (u'.turn ≡ u.turn) × (u'.taken ≡ u.taken) = (λ k u h. dite (ℕ_discrete k id)
      (λ e. let same : v ≡ u = at_once s.views id k v u (sym e) at h.at in
      (w, subst (λ (z : ℕ). IsAt (views ++ new ∷ []) z w) (sym e) (kept_place views new w id (set_at s.views id v w at live)), ap (λ (z : V). z.number) same, ap (λ (z : V). z.seen) same, ap (λ (z : V). z.turn) same, ap (λ (z : V). z.taken) same))
      (λ ne. (u, kept_place views new u k (set_other s.views id k w u ne h), refl, refl, refl, refl))) in
      let was : (k : ℕ) (u : V) → IsAt views k u → (u' : V) × IsAt s.views k u' × (u.number ≡ u'.number) × (u.turn ≡ u'.turn) = (λ k u h. ⊎_elim
      (λ (t : (k ≡ id) × (w ≡ u)). (v, subst (λ (z : ℕ). IsAt s.views z v) (sym t.0) here, ap (λ (z : V). z.number) (sym t.1), ap (λ (z : V). z.turn) (sym t.1)))
      (λ (t : (k ≢ id) × IsAt s.views k u). (u, t.1, refl, refl)) (after_set s.views id k w u h)) in
      let known_number : (k : ℕ) (u : V) → IsAt views k u → u.number ≢ n = (λ k u h e. let t = was k u h in not_given (subst (λ (z : ℕ). IsIn z r.given) (sym t.2 ∙ e) (r.fits k t.0 t.1).was_given)) in record {
        longest = r.longest;
        root = r.root;
        given = r.given ++ n ∷ [];
        joined = r.joined;
        word = r.word;
        words = r.words;
        fits = λ k u h. ⊎_elim
            (λ (t : IsAt views k u). ⊎_elim (λ (a : (k ≡ id) × (w ≡ u)). subst (Fit r.longest r.root (r.given ++ n ∷ []) r.joined) a.1 mine)
            (λ (a : (k ≢ id) × IsAt s.views k u). fit_given s r n u (r.fits k u a.1) (away k u a.0 a.1)) (after_set s.views id k w u t))
            (λ (t : (k ≡ place) × (new ≡ u)). subst (Fit r.longest r.root (r.given ++ n ∷ []) r.joined) t.1 theirs) (after_new s.views id k w new u h);
        apart = λ j k u x a b same. ⊎_elim
            (λ (t : IsAt views j u). ⊎_elim
            (λ (t' : IsAt views k x). let p = was j u t in let q = was k x t' in r.apart j k p.0 q.0 p.1 q.1 (sym p.2 ∙ same ∙ q.2))
            (λ (t' : (k ≡ place) × (new ≡ x)). absurd (known_number j u t (same ∙ ap (λ (z : V). z.number) (sym t'.1)))) (after_new s.views id k w new x b))
            (λ (t : (j ≡ place) × (new ≡ u)). ⊎_elim
            (λ (t' : IsAt views k x). absurd (known_number k x t' (sym same ∙ ap (λ (z : V). z.number) (sym t.1))))
            (λ (t' : (k ≡ place) × (new ≡ x)). t.0 ∙ sym t'.0) (after_new s.views id k w new x b))
            (after_new s.views id j w new u a);
        each_given = λ m h. ⊎_elim
            (λ (old : IsIn m r.given). ⊎_elim
            (λ (t : (k : ℕ) × (u : V) × IsAt s.views k u × (u.number ≡ m)). let p = kept_at t.0 t.1 t.2 in inl (t.0, p.0, p.1, p.2 ∙ t.3))
            (λ (t : IsIn m (numbers_of r.joined)). inr t) (r.each_given m old))
            (λ (e : m ≡ n). inl (place, new, last, sym e)) (is_in_snoc m n r.given h);
        joined_given = λ m h. is_in_front m r.given (n ∷ []) (r.joined_given m h);
        first_given = is_in_front 0 r.given (n ∷ []) r.first_given;
        seen = (let p = kept_at r.seen.0 r.seen.1 r.seen.2 in (r.seen.0, p.0, p.1, p.3 ∙ r.seen.3));
        named = λ k d l. is_in_front (number (get_or r.longest k d)) r.given (n ∷ []) (r.named k d l);
        kept = r.kept;
        turn = ⊎_elim
            (λ (h : IsHome list descends r.word r.longest r.root s). inl record {
              free = h.free;
              value = h.value;
              home = h.home;
              its_list = h.its_list;
              fits_root = h.fits_root;
              nobody = λ k u a. ⊎_elim (λ (t : IsAt views k u). let p = was k u t in p.3 ∙ h.nobody k p.0 p.1) (λ (t : (k ≡ place) × (new ≡ u)). ap (λ (z : V). z.turn) (sym t.1)) (after_new s.views id k w new u a);
            })
            (λ (o : IsOut r.word r.longest s). let p = kept_at o.holder o.view o.at in inr record {
              holder = o.holder;
              view = p.0;
              at = p.1;
              out = o.out;
              turn = p.4 ∙ o.turn;
              taken = λ e. p.5 ∙ o.taken e;
              counted = λ e. p.3 ∙ o.counted e;
              in_turn = o.in_turn;
              others = λ k u a ne. ⊎_elim (λ (t : IsAt views k u). let q = was k u t in q.3 ∙ o.others k q.0 q.1 ne) (λ (t : (k ≡ place) × (new ≡ u)). ap (λ (z : V). z.turn) (sym t.1)) (after_new s.views id k w new u a);
            })
            r.turn;
      }

  -- the table at the start
  pub opens : (x : X) (p : P) → ((e : E) → IsTrue (is_common e) → number e ≡ 0) → All (λ e. IsTrue (is_common e)) (list x) → descends p x → Rule (opening (0 ∷ []) (Some x ∷ []) (first_view (list x) p))
  opens x p law common from =
      let v : V = first_view (list x) p in record {
        longest = list x;
        root = p;
        given = 0 ∷ [];
        joined = [];
        word = 0;
        words = refl;
        fits = λ k u h. subst (Fit (list x) p (0 ∷ []) []) (at_single v u k h.at).1 record {
          is_front = begins_refl (list x);
          all_own = refl;
          went_on = begins_refl (list x);
          same_own = refl;
          of_root = refl;
          was_given = inl refl;
          not_joined = λ h. absurd h;
          first = λ _. (refl, refl, all_nil (λ (j : Joined E). BeginsWith (list x) j.seen));
        };
        apart = λ j k u w a b _. (at_single v u j a.at).0 ∙ sym (at_single v w k b.at).0;
        each_given = λ n h. inl (0, v, record { at = refl; live = refl }, ⊎_elim (λ (e : n ≡ 0). sym e) (λ (no : ⊥). absurd no) h);
        joined_given = λ n h. absurd h;
        first_given = inl refl;
        seen = (0, v, record { at = refl; live = refl }, refl);
        named = λ k d l. inl (law (get_or (list x) k d) (common k d l));
        kept = all_nil (λ (j : Joined E). Own j.number (list x) ≡ Own j.number j.seen);
        turn = inl record {
          free = refl;
          value = x;
          home = refl;
          its_list = refl;
          fits_root = from;
          nobody = λ k u h. ap (λ (z : V). z.turn) (sym (at_single v u k h.at).1);
        };
      }

  -- what is known at the end
  pub record Ends (v : V) (slots : List (Option X)) : Type 0 where
    pub value : X
    pub home : get_elem? slots 0 ≡ some (Some value)
    pub its_list : list value ≡ v.seen
    pub fits_root : Descends descends v.root value
    pub keeps : All (λ j. Own j.number v.seen ≡ Own j.number j.seen) v.joined
    pub names : All (λ e. (number e ≡ 0) ⊎ IsIn (number e) (joined_numbers v)) v.seen

  pub ends : (id : ℕ) (v : V) (ws : List ℕ) (slots : List (Option X)) → v.is_live ≡ true → v.turn ≡ 0 → IsLast v → Final (Seen Rule id v) ws slots → Ends v slots
  ends id v ws slots live away last final =
      let s : St = final.0 in
      let r : Rule s = final.1.0 in
      let here : IsAt s.views id v = record { at = final.1.1; live = live } in
      let f = r.fits id v here in
      let knows = f.first last.first in
      let alone : (k : ℕ) (u : V) → IsAt s.views k u → (k ≡ id) × (v ≡ u) = (λ k u h.
      let fu = r.fits k u h in
      let same : k ≡ id = ⊎_elim
      (λ (e : u.number ≡ 0). r.apart k id u v h here (e ∙ sym last.first))
      (λ (j : IsIn u.number (joined_numbers v)). absurd (fu.not_joined (subst (λ (js : List (Joined E)). IsIn u.number (numbers_of js)) knows.1 j)))
      (last.all u.number (subst (λ (z : List ℕ). IsIn u.number z) (sym knows.0) fu.was_given)) in
      (same, at_once s.views id k v u (sym same) here.at h.at)) in
      let whole : v.seen ≡ r.longest = (let t = alone r.seen.0 r.seen.1 r.seen.2 in ap (λ (z : V). z.seen) t.1 ∙ r.seen.3) in
      ⊎_elim
      (λ (h : IsHome list descends r.word r.longest r.root s). record {
        value = h.value;
        home = final.4 0 (Some h.value) (ap (λ (hs : List (maybe.Option (Option X))). get_elem? hs 0) h.home);
        its_list = h.its_list ∙ sym whole;
        fits_root = (r.root, f.of_root, h.fits_root);
        keeps = subst (λ (z : List E × List (Joined E)). All (λ j. Own j.number z.0 ≡ Own j.number j.seen) z.1) (λ i. (sym whole i, sym knows.1 i)) r.kept;
        names = subst (λ (l : List E). All (λ e. (number e ≡ 0) ⊎ IsIn (number e) (joined_numbers v)) l) (sym whole)
            (λ k d l. last.all (number (get_or r.longest k d)) (subst (λ (z : List ℕ). IsIn (number (get_or r.longest k d)) z) (sym knows.0) (r.named k d l)));
      })
      (λ (o : IsOut r.word r.longest s). absurd (
      let t = alone o.holder o.view o.at in
      let word : v.turn ≡ r.word = ap (λ (z : V). z.turn) t.1 ∙ o.turn in
      ⊎_elim (λ (e : r.word ≡ 1). omega arith) (λ (e : r.word ≡ 2). omega arith) o.in_turn))
      r.turn

  -- the first pass takes in another one
  pub joins : (id other : ℕ) (v w : V) → v.is_live ≡ true → v.number ≡ 0 → w.is_live ≡ true → w.turn ≡ 0 → Joins Rule id v other w (absorbing v w) spent
  joins id other v w live first live' away s r at apart at' =
      let here : IsAt s.views id v = record { at = at; live = live } in
      let both : V = absorbing v w in
      let middle : List V = set s.views id both in
      let there : IsAt s.views other w = record { at = sym (set_else s.views id other both apart) ∙ at'; live = live' } in
      let f = r.fits id v here in
      let f' = r.fits other w there in
      let knows = f.first first in
      let more : Joined E = record { number = w.number; seen = w.seen } in
      let joined' : List (Joined E) = r.joined ++ more ∷ [] in
      let views' : List V = set middle other spent in
      let long : List E = longer v.seen w.seen in
      let begins = longer_begins r.longest v.seen w.seen f.is_front f'.is_front in
      let within : BeginsWith r.longest long = longer_within r.longest v.seen w.seen f.is_front f'.is_front in
      let own_same : Own v.number long ≡ Own v.number v.seen = own_between number is_common v.number r.longest long v.seen within begins.0 f.all_own in
      let not_zero : w.number ≢ 0 = (λ e. apart (r.apart other id w v there here (e ∙ sym first))) in
      let mine : Fit r.longest r.root r.given joined' both = record {
        is_front = within;
        all_own = f.all_own ∙ sym own_same;
        went_on = begins.0;
        same_own = own_same;
        of_root = f.of_root;
        was_given = f.was_given;
        not_joined = λ h. ⊎_elim (λ (a : IsIn v.number (numbers_of r.joined)). f.not_joined a) (λ (e : v.number ≡ w.number). not_zero (sym e ∙ first))
            (is_in_snoc v.number w.number (numbers_of r.joined) (subst (λ (z : List ℕ). IsIn v.number z) (numbers_more r.joined more) h));
        first = λ _. (
          knows.0,
          ap (λ (z : List (Joined E)). z ++ more ∷ []) knows.1,
          All-append (λ j. BeginsWith long j.seen) r.joined (more ∷ []) (λ k d l. begins_trans long v.seen (get_or r.joined k d).seen begins.0 (knows.2 k d l)) (all_one (λ j. BeginsWith long j.seen) more begins.1),
        );
      } in
      let theirs : (k : ℕ) (u : V) → k ≢ id → k ≢ other → IsAt s.views k u → Fit r.longest r.root r.given joined' u = (λ k u ne ne' h.
      let fu = r.fits k u h in record {
        is_front = fu.is_front;
        all_own = fu.all_own;
        went_on = fu.went_on;
        same_own = fu.same_own;
        of_root = fu.of_root;
        was_given = fu.was_given;
        not_joined = λ a. ⊎_elim (λ (b : IsIn u.number (numbers_of r.joined)). fu.not_joined b) (λ (e : u.number ≡ w.number). ne' (r.apart k other u w h there e))
            (is_in_snoc u.number w.number (numbers_of r.joined) (subst (λ (z : List ℕ). IsIn u.number z) (numbers_more r.joined more) a));
        first = λ e. absurd (ne (r.apart k id u v h here (e ∙ sym first)));
      }) in
      let was : (k : ℕ) (u : V) → IsAt views' k u → ((k ≡ id) × (both ≡ u)) ⊎ ((k ≢ id) × (k ≢ other) × IsAt s.views k u) = (λ k u h. ⊎_elim
      (λ (t : (k ≡ other) × (spent ≡ u)). absurd (false≢true (ap (λ (z : V). z.is_live) t.1 ∙ h.live)))
      (λ (t : (k ≢ other) × IsAt middle k u). ⊎_elim (λ (a : (k ≡ id) × (both ≡ u)). inl a) (λ (a : (k ≢ id) × IsAt s.views k u). inr (a.0, t.0, a.1)) (after_set s.views id k both u t.1))
      (after_set middle other k spent u h)) in
      let now : IsAt views' id both = set_other middle other id spent both (λ e. apart (sym e)) (set_at s.views id v both at live) in
      let kept_at : (k : ℕ) (u : V) → k ≢ other → k ≢ id → IsAt s.views k u → IsAt views' k u = (λ k u ne' ne h. set_other middle other k spent u ne' (set_other s.views id k both u ne h)) in record {
        longest = r.longest;
        root = r.root;
        given = r.given;
        joined = joined';
        word = r.word;
        words = r.words;
        fits = λ k u h. ⊎_elim (λ (t : (k ≡ id) × (both ≡ u)). subst (Fit r.longest r.root r.given joined') t.1 mine) (λ (t : (k ≢ id) × (k ≢ other) × IsAt s.views k u). theirs k u t.0 t.1 t.2) (was k u h);
        apart = λ j k u x a b same. ⊎_elim
            (λ (t : (j ≡ id) × (both ≡ u)). ⊎_elim (λ (t' : (k ≡ id) × (both ≡ x)). t.0 ∙ sym t'.0)
            (λ (t' : (k ≢ id) × (k ≢ other) × IsAt s.views k x). absurd (t'.0 (sym (r.apart id k v x here t'.2 (ap (λ (z : V). z.number) t.1 ∙ same))))) (was k x b))
            (λ (t : (j ≢ id) × (j ≢ other) × IsAt s.views j u). ⊎_elim (λ (t' : (k ≡ id) × (both ≡ x)). absurd (t.0 (r.apart j id u v t.2 here (same ∙ sym (ap (λ (z : V). z.number) t'.1)))))
            (λ (t' : (k ≢ id) × (k ≢ other) × IsAt s.views k x). r.apart j k u x t.2 t'.2 same) (was k x b))
            (was j u a);
        each_given = λ n h. ⊎_elim
            (λ (t : (k : ℕ) × (u : V) × IsAt s.views k u × (u.number ≡ n)). dite (ℕ_discrete t.0 other)
            (λ e. let same : w ≡ t.1 = at_once s.views other t.0 w t.1 (sym e) there.at t.2.at in
            inr (subst (λ (z : List ℕ). IsIn n z) (sym (numbers_more r.joined more)) (subst (λ (m : ℕ). IsIn m (numbers_of r.joined ++ w.number ∷ [])) (ap (λ (z : V). z.number) same ∙ t.3) (is_in_last w.number (numbers_of r.joined)))))
            (λ ne'. dite (ℕ_discrete t.0 id)
            (λ e. inl (id, both, now, ap (λ (z : V). z.number) (at_once s.views id t.0 v t.1 (sym e) at t.2.at) ∙ t.3))
            (λ ne. inl (t.0, t.1, kept_at t.0 t.1 ne' ne t.2, t.3))))
            (λ (t : IsIn n (numbers_of r.joined)). inr (subst (λ (z : List ℕ). IsIn n z) (sym (numbers_more r.joined more)) (is_in_front n (numbers_of r.joined) (w.number ∷ []) t)))
            (r.each_given n h);
        joined_given = λ n h. ⊎_elim (λ (a : IsIn n (numbers_of r.joined)). r.joined_given n a) (λ (e : n ≡ w.number). subst (λ (z : ℕ). IsIn z r.given) (sym e) f'.was_given)
            (is_in_snoc n w.number (numbers_of r.joined) (subst (λ (z : List ℕ). IsIn n z) (numbers_more r.joined more) h));
        first_given = r.first_given;
        seen = (let t = r.seen in dite (ℕ_discrete t.0 other)
            (λ e. let same : w ≡ t.1 = at_once s.views other t.0 w t.1 (sym e) there.at t.2.at in
            (id, both, now, longer_is r.longest v.seen w.seen f.is_front f'.is_front (inr (ap (λ (z : V). z.seen) same ∙ t.3))))
            (λ ne'. dite (ℕ_discrete t.0 id)
            (λ e. let same : v ≡ t.1 = at_once s.views id t.0 v t.1 (sym e) at t.2.at in
            (id, both, now, longer_is r.longest v.seen w.seen f.is_front f'.is_front (inl (ap (λ (z : V). z.seen) same ∙ t.3))))
            (λ ne. (t.0, t.1, kept_at t.0 t.1 ne' ne t.2, t.3))));
        named = r.named;
        kept = All-append (λ j. Own j.number r.longest ≡ Own j.number j.seen) r.joined (more ∷ []) r.kept (all_one (λ j. Own j.number r.longest ≡ Own j.number j.seen) more f'.all_own);
        turn = ⊎_elim
            (λ (h : IsHome list descends r.word r.longest r.root s). inl record {
              free = h.free;
              value = h.value;
              home = h.home;
              its_list = h.its_list;
              fits_root = h.fits_root;
              nobody = λ k u a. ⊎_elim (λ (t : (k ≡ id) × (both ≡ u)). ap (λ (z : V). z.turn) (sym t.1) ∙ h.nobody id v here) (λ (t : (k ≢ id) × (k ≢ other) × IsAt s.views k u). h.nobody k u t.2) (was k u a);
            })
            (λ (o : IsOut r.word r.longest s).
            let holds_not : o.holder ≢ other = (λ e.
            let same : w ≡ o.view = at_once s.views other o.holder w o.view (sym e) there.at o.at.at in
            let none : r.word ≡ 0 = sym o.turn ∙ ap (λ (z : V). z.turn) (sym same) ∙ away in
            ⊎_elim (λ (a : r.word ≡ 1). omega arith) (λ (a : r.word ≡ 2). omega arith) o.in_turn) in
            let rest : (k : ℕ) (u : V) → IsAt views' k u → k ≢ o.holder → u.turn ≡ 0 = (λ k u a ne. ⊎_elim
            (λ (t : (k ≡ id) × (both ≡ u)). ap (λ (z : V). z.turn) (sym t.1) ∙ o.others id v here (λ e. ne (t.0 ∙ e)))
            (λ (t : (k ≢ id) × (k ≢ other) × IsAt s.views k u). o.others k u t.2 ne) (was k u a)) in
            inr (dite (ℕ_discrete o.holder id)
            (λ e. let same : v ≡ o.view = at_once s.views id o.holder v o.view (sym e) at o.at.at in record {
              holder = id;
              view = both;
              at = now;
              out = o.out;
              turn = ap (λ (z : V). z.turn) same ∙ o.turn;
              taken = λ a. ap (λ (z : V). z.taken) same ∙ o.taken a;
              counted = λ a. longer_is r.longest v.seen w.seen f.is_front f'.is_front (inl (ap (λ (z : V). z.seen) same ∙ o.counted a));
              in_turn = o.in_turn;
              others = λ k u a ne. rest k u a (λ z. ne (z ∙ e));
            })
            (λ ne. record {
              holder = o.holder;
              view = o.view;
              at = kept_at o.holder o.view holds_not ne o.at;
              out = o.out;
              turn = o.turn;
              taken = o.taken;
              counted = o.counted;
              in_turn = o.in_turn;
              others = rest;
            })))
            r.turn;
      }

  -- the slot is not empty at the end
  pub never_empty : (id : ℕ) (v : V) (ws : List ℕ) (slots : List (Option X)) → v.is_live ≡ true → v.turn ≡ 0 → IsLast v → Final (Seen Rule id v) ws slots → get_elem? slots 0 ≡ some None → ⊥
  never_empty id v ws slots live away last final empty = let e : Ends v slots = ends id v ws slots live away last final in let home : get_elem? slots 0 ≡ some (Some e.value) = e.home in cc

  -- what is known of the value that is in the slot at the end
  pub record Closes (v : View E P) (x : X) : Type 0 where
    pub its_list : list x ≡ v.seen
    pub fits_root : Descends descends v.root x
    pub keeps : All (λ j. own number is_common j.number (list x) ≡ own number is_common j.number j.seen) v.joined
    pub names : All (λ e. (number e ≡ 0) ⊎ IsIn (number e) (joined_numbers v)) (list x)

  pub closes : (id : ℕ) (v : V) (ws : List ℕ) (slots : List (Option X)) (x : X) → v.is_live ≡ true → v.turn ≡ 0 → IsLast v → Final (Seen Rule id v) ws slots → get_elem? slots 0 ≡ some (Some x) → Closes v x
  closes id v ws slots x live away last final here =
      let e : Ends v slots = ends id v ws slots live away last final in
      let home : get_elem? slots 0 ≡ some (Some e.value) = e.home in
      let same : e.value ≡ x = cc in
      let its_list : list x ≡ v.seen = ap list (sym same) ∙ e.its_list in record {
        its_list = its_list;
        fits_root = subst (λ (y : X). Descends descends v.root y) same e.fits_root;
        keeps = subst (λ (l : List E). All (λ j. Own j.number l ≡ Own j.number j.seen) v.joined) (sym its_list) e.keeps;
        names = subst (λ (l : List E). All (λ e. (number e ≡ 0) ⊎ IsIn (number e) (joined_numbers v)) l) (sym its_list) e.names;
      }
