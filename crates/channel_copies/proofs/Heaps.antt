-- What the calls of a heap say of flights and of deferred copies.
use Rattle.std.proofs.Common.{◌≡◌, ℕ, ◌+◌, ◌≤◌, ◌<◌, true, List, [], ◌∷◌, map, length, All, Option, Some, None, IsSome, IfSome, IfNone, OnSome, option_map, ◌⊎◌, inl, inr, refl, sym, ap, ◌∙◌, subst, arith}
use Rattle.std.proofs.lemmas.List.Elements.{All-nil, All-cons, All-weaker}
use Rattle.due_heap.specs.declared.key.Key.{Key}
use Rattle.due_heap.specs.Heap.{Entry, FewSteps, TakesFirst, TakesOut, entry_of, first_due as heap_first}
use Rattle.v2_frame.specs.declared.message.Message.{Message}
use Rattle.backlog.specs.declared.answers.PutOne.{PutOne}
use Rattle.backlog.specs.declared.answers.PutOne.TheVariants.{Kept, Dropped, Spilled}
use Rattle.channel_copies.specs.Putting.{IsTaken}
use Rattle.backlog.specs.Seen.{FitsLimit}
use Rattle.broker_history.specs.Channels.{one, AsOften}
use Rattle.channel_copies.specs.declared.flight.Flight.{Flight}
use Rattle.channel_copies.specs.Flights.{CostsCalls, Leaves, first_due, soonest, due_by}
use Rattle.channel_copies.specs.Deferred.{Waiting, AreShort, waiting_in, waiting_of, first_waiting, soonest_waiting}
use Rattle.channel_copies.specs.Index.{items_of, IsFit}
use Rattle.channel_copies.proofs.Counts.{count-all, count-map, count-out, all-out}
use Rattle.channel_copies.proofs.Soonest.{Told, told, told_none, told_some, first_holds, first_none, first_seen, by_later, by_now}

length-seen : {X Y : Type 0} (f : X → Y) (xs : List X) → length (map f xs) ≡ length xs
length-seen f [] = refl
length-seen f (x ∷ xs) = omega (arith, length-seen f xs)

-- steps: of one call, and of two
pub one_call : {X Y : Type 0} (f : X → Y) (xs : List X) (before now : ℕ) → FewSteps (length xs) before now → CostsCalls 1 (length (map f xs)) before now
one_call f xs before now few d h = omega (arith, few d (omega (arith, h, length-seen f xs)))

pub two_calls : {X Y : Type 0} (f : X → Y) (xs ys : List X) (before mid now : ℕ) → length ys ≤ length xs → FewSteps (length xs) before mid → FewSteps (length ys) mid now → CostsCalls 2 (length (map f xs)) before now
two_calls f xs ys before mid now less a b d h = omega (arith, a d (omega (arith, h, length-seen f xs)), b d (omega (arith, h, less, length-seen f xs)))

pub one_of_two : {X Y : Type 0} (f : X → Y) (xs : List X) (before now : ℕ) → FewSteps (length xs) before now → CostsCalls 2 (length (map f xs)) before now
one_of_two f xs before now few d h = omega (arith, few d (omega (arith, h, length-seen f xs)))

pub out_shorter : {T : Type 0} {e : Entry T} {old new : List (Entry T)} → TakesOut e old new → length old ≡ length new + 1
out_shorter {e = e} {old = old} {new = new} t = omega (arith, count-out (λ e. true) t, count-all old, count-all new)

pub fewer : {T : Type 0} {e : Entry T} {old new : List (Entry T)} → TakesOut e old new → length new ≤ length old
fewer t = omega (arith, out_shorter t)

-- what a backlog answers but for a fault
pub taken_by : (answer : PutOne) → (answer ≡ Kept) ⊎ ((answer ≡ Dropped) ⊎ (answer ≡ Spilled)) → IsTaken answer
taken_by answer (inl h) = subst IsTaken (sym h) (tt {0})
taken_by answer (inr (inl h)) = subst IsTaken (sym h) (tt {0})
taken_by answer (inr (inr h)) = subst IsTaken (sym h) (tt {0})

module _ (now : ℕ) (es : List (Entry Flight)) where
  flights_first : All IsFit es → option_map (λ (e : Entry Flight). e.item) (heap_first es) ≡ soonest (λ f. f.due) (items_of es)
  flights_first fit = first_seen (λ (f : Flight). f.due) (λ e. e.item) es (All-weaker IsFit (λ e. e.item.due ≡ e.due) (λ e d. sym d.due) es fit)

  pub none_first : (o : Option (ℕ × Key)) → All IsFit es → o ≡ option_map told (heap_first es) → o ≡ None → None ≡ first_due now (items_of es)
  none_first o fit is none = ap (due_by (λ (f : Flight). f.due) now) (sym (ap (option_map (λ (e : Entry Flight). e.item)) (told_none es o is none)) ∙ flights_first fit)

  pub later_first : (o : Option (ℕ × Key)) (first : ℕ × Key) → All IsFit es → o ≡ option_map told (heap_first es) → o ≡ Some first → now < first.0 → None ≡ first_due now (items_of es)
  later_first o first fit is some later =
      let t = told_some es o first is some in
      let seen : Some t.entry.item ≡ soonest (λ f. f.due) (items_of es) = sym (ap (option_map (λ (e : Entry Flight). e.item)) t.is) ∙ flights_first fit in
      sym (by_later (λ (f : Flight). f.due) now t.entry.item (omega (arith, later, t.due, fit_due t fit))) ∙ ap (due_by (λ (f : Flight). f.due) now) seen
    where
      fit_due : (t : Told es first) → All IsFit es → t.entry.due ≡ t.entry.item.due
      fit_due t fit = (first_holds IsFit es t.entry t.is fit).due

  pub due_first : (o : Option (ℕ × Key)) (first : ℕ × Key) → All IsFit es → o ≡ option_map told (heap_first es) → o ≡ Some first → first.0 ≤ now → entry_of first.1 es ≡ heap_first es → option_map (λ (e : Entry Flight). e.item) (entry_of first.1 es) ≡ first_due now (items_of es)
  due_first o first fit is some due live =
      let t = told_some es o first is some in
      let seen : Some t.entry.item ≡ soonest (λ f. f.due) (items_of es) = sym (ap (option_map (λ (e : Entry Flight). e.item)) t.is) ∙ flights_first fit in
      ap (option_map (λ (e : Entry Flight). e.item)) (live ∙ t.is) ∙ (sym (by_now (λ (f : Flight). f.due) now t.entry.item (omega (arith, due, t.due, (first_holds IsFit es t.entry t.is fit).due))) ∙ ap (due_by (λ (f : Flight). f.due) now) seen)

  pub no_flights : (o : Option (ℕ × Key)) → o ≡ option_map told (heap_first es) → o ≡ None → items_of es ≡ []
  no_flights o is none = ap items_of (first_none es (told_none es o is none))

module _ (now : ℕ) (es : List (Entry Message)) where
  pub waiting_seen : option_map waiting_in (heap_first es) ≡ soonest_waiting (waiting_of es)
  waiting_seen = first_seen (λ (w : Waiting). w.due) waiting_in es (all_refl es)
    where
      all_refl : (es : List (Entry Message)) → All (λ e. e.due ≡ e.due) es
      all_refl [] = All-nil (λ e. e.due ≡ e.due)
      all_refl (e ∷ es) = All-cons (λ e. e.due ≡ e.due) e es refl (all_refl es)

  pub none_waits : (o : Option (ℕ × Key)) → o ≡ option_map told (heap_first es) → o ≡ None → None ≡ first_waiting now (waiting_of es)
  none_waits o is none = ap (due_by (λ (w : Waiting). w.due) now) (sym (ap (option_map waiting_in) (told_none es o is none)) ∙ waiting_seen)

  pub later_waits : (o : Option (ℕ × Key)) (first : ℕ × Key) → o ≡ option_map told (heap_first es) → o ≡ Some first → now < first.0 → None ≡ first_waiting now (waiting_of es)
  later_waits o first is some later =
      let t = told_some es o first is some in
      let seen : Some (waiting_in t.entry) ≡ soonest_waiting (waiting_of es) = sym (ap (option_map waiting_in) t.is) ∙ waiting_seen in
      sym (by_later (λ (w : Waiting). w.due) now (waiting_in t.entry) (omega (arith, later, t.due))) ∙ ap (due_by (λ (w : Waiting). w.due) now) seen

  pub due_waits : (o : Option (ℕ × Key)) (first : ℕ × Key) → o ≡ option_map told (heap_first es) → o ≡ Some first → first.0 ≤ now → entry_of first.1 es ≡ heap_first es → option_map (λ (e : Entry Message). e.item) (entry_of first.1 es) ≡ option_map (λ (w : Waiting). w.message) (first_waiting now (waiting_of es))
  due_waits o first is some due live =
      let t = told_some es o first is some in
      let seen : Some (waiting_in t.entry) ≡ soonest_waiting (waiting_of es) = sym (ap (option_map waiting_in) t.is) ∙ waiting_seen in
      ap (option_map (λ (e : Entry Message). e.item)) (live ∙ t.is) ∙ ap (option_map (λ (w : Waiting). w.message)) (sym (by_now (λ (w : Waiting). w.due) now (waiting_in t.entry) (omega (arith, due, t.due))) ∙ ap (due_by (λ (w : Waiting). w.due) now) seen)

  pub no_waiting : (o : Option (ℕ × Key)) → o ≡ option_map told (heap_first es) → o ≡ None → waiting_of es ≡ []
  no_waiting o is none = ap waiting_of (first_none es (told_none es o is none))

pub waiting_leaves : {e : Entry Message} {old new : List (Entry Message)} → TakesOut e old new → Leaves (waiting_in e) (waiting_of old) (waiting_of new)
waiting_leaves {old = old} {new = new} t p = omega (arith, count-map p waiting_in old, count-map p waiting_in new, count-out (λ e. p (waiting_in e)) t)

-- the key that a heap tells of its first is live
pub first_live : {T : Type 0} (es : List (Entry T)) (o : Option (ℕ × Key)) (first : ℕ × Key) → o ≡ option_map told (heap_first es) → o ≡ Some first → entry_of first.1 es ≡ heap_first es → IsSome (entry_of first.1 es)
first_live es o first is some live = subst IsSome (sym (live ∙ (told_some es o first is some).is)) refl

-- a heap that isn't empty has a first
pub some_first : (es : List (Entry Message)) (o : Option (ℕ × Key)) → 0 < length (waiting_of es) → o ≡ option_map told (heap_first es) → IsSome o
some_first [] o n is = absurd (let no : ⊥ = omega (arith, n) in no)
some_first (e ∷ es) o n is = subst IsSome (sym is) refl

-- and pops it by its moment
pub some_popped : (es : List (Entry Message)) (o : Option (ℕ × Key)) (first : ℕ × Key) (r : Option Message) → o ≡ option_map told (heap_first es) → o ≡ Some first → IfNone r (All (λ e. first.0 < e.due) es) → IsSome r
some_popped es o first None is some none =
    let t = told_some es o first is some in
    absurd (let no : ⊥ = omega (arith, t.due, first_holds (λ e. first.0 < e.due) es t.entry t.is none) in no)
some_popped es o first (Some m) is some none = refl

pub if_some : {X : Type 0} (P : X → Type 0) {o : Option X} {x : X} → o ≡ Some x → IfSome o P → P x
if_some P h i = subst (λ o. IfSome o P) h i

pub on_some : {X P : Type 0} {o : Option X} {x : X} → o ≡ Some x → OnSome o P → P
on_some {P = P} h i = subst (λ o. OnSome o P) h i

-- what was popped was the one that is due soonest
pub popped_first : {now : ℕ} {m : Message} {old new : List (Entry Message)} (t : TakesFirst now old new m) → soonest_waiting (waiting_of old) ≡ Some (record { due = t.entry.due; message = m })
popped_first {old = old} t = sym (waiting_seen 0 old) ∙ (ap (option_map waiting_in) t.first ∙ ap (λ i. Some (record { due = t.entry.due; message = i })) (sym t.is_item))

pub popped_leaves : {now : ℕ} {m : Message} {old new : List (Entry Message)} (t : TakesFirst now old new m) → Leaves (record { due = t.entry.due; message = m }) (waiting_of old) (waiting_of new)
popped_leaves {old = old} {new = new} t = subst (λ i. Leaves (record { due = t.entry.due; message = i }) (waiting_of old) (waiting_of new)) (sym t.is_item) (waiting_leaves t.out)

-- it was short, and so are the others
pub popped_short : {now : ℕ} {m : Message} {old new : List (Entry Message)} → TakesFirst now old new m → AreShort old → FitsLimit m × AreShort new
popped_short t a =
    let parts = all-out (λ (e : Entry Message). FitsLimit e.item) t.out a in
    (subst FitsLimit (sym t.is_item) parts.0, parts.1)

-- where it goes in again at its moment, all wait as before
pub waits_again : {now due : ℕ} {m back : Message} {k : Key} {old mid new : List (Entry Message)} (t : TakesFirst now old mid m) → back ≡ m → due ≡ t.entry.due → TakesOut (record { key = k; due = due; item = back }) new mid → AsOften (waiting_of old) (waiting_of new)
waits_again {back = back} t same at u p = omega (arith, popped_leaves t p, waiting_leaves u p, ap (λ m. one (p (record { due = t.entry.due; message = m }))) same, ap (λ n. one (p (record { due = n; message = back }))) at)

-- the moment that a heap tells is that of its first
pub told_at : (es : List (Entry Message)) (o : Option (ℕ × Key)) (first : ℕ × Key) (e : Entry Message) → o ≡ option_map told (heap_first es) → o ≡ Some first → heap_first es ≡ Some e → first.0 ≡ e.due
told_at es o first e is some at =
    let t = told_some es o first is some in
    t.due ∙ ap (λ (e : Entry Message). e.due) (same t.entry e (sym t.is ∙ at))
  where
    same : (a b : Entry Message) → Some a ≡ Some b → a ≡ b
    same a b h = cc

-- when the first of a heap is due
moment_of : {T X : Type 0} (due : X → ℕ) (g : Entry T → X) (o : Option (Entry T)) → ((e : Entry T) → o ≡ Some e → due (g e) ≡ e.due) → option_map (λ (p : ℕ × Key). p.0) (option_map told o) ≡ option_map due (option_map g o)
moment_of due g None fits = refl
moment_of due g (Some e) fits = ap Some (sym (fits e refl))

pub next_flight : (es : List (Entry Flight)) (o : Option (ℕ × Key)) → All IsFit es → o ≡ option_map told (heap_first es) → option_map (λ (p : ℕ × Key). p.0) o ≡ option_map (λ (f : Flight). f.due) (soonest (λ f. f.due) (items_of es))
next_flight es o fit is =
    ap (option_map (λ (p : ℕ × Key). p.0)) is
    ∙ (moment_of (λ (f : Flight). f.due) (λ (e : Entry Flight). e.item) (heap_first es) (λ e h. sym (first_holds IsFit es e h fit).due)
    ∙ ap (option_map (λ (f : Flight). f.due)) (flights_first 0 es fit))

pub next_waiting : (es : List (Entry Message)) (o : Option (ℕ × Key)) → o ≡ option_map told (heap_first es) → option_map (λ (p : ℕ × Key). p.0) o ≡ option_map (λ (w : Waiting). w.due) (soonest_waiting (waiting_of es))
next_waiting es o is =
    ap (option_map (λ (p : ℕ × Key). p.0)) is
    ∙ (moment_of (λ (w : Waiting). w.due) waiting_in (heap_first es) (λ e h. refl)
    ∙ ap (option_map (λ (w : Waiting). w.due)) (waiting_seen 0 es))
