-- A hall's clients and its Stop are those of its history, turn by turn.
use Rattle.std.proofs.Common.{◌≡◌, ◌⊎◌, inl, inr, ℕ, ◌==◌, ◌&&◌, ◌||◌, not, Bool, true, false, if◌then◌else◌, [], ◌∷◌, ◌++◌, is_some, refl, sym, ap, subst, ◌∙◌}
use Rattle.std.specs.List.{AllByRecursion, list_any}
use Rattle.std.proofs.lemmas.Bool.{false≢true, eqb-true}
use Rattle.std.proofs.lemmas.List.{append-nil}
use Rattle.std.proofs.lemmas.List.Folds.{list_any-append}
use Rattle.nsq_outside.specs.declared.journal.End.{End}
use Rattle.broker_history.specs.declared.entry.Act.{Act}
use Rattle.broker_history.specs.declared.entry.Act.TheVariants.{Began, Gone, Stop}
use Rattle.broker_history.specs.declared.entry.Entry.{Entry}
use Rattle.broker_history.specs.Entries.{History, IsCommon, has_stop, is_began, is_common, is_gone, is_own, is_stop, is_tick, own}
use Rattle.broker_history.proofs.Own.{own-append, common_none}
use Rattle.broker_history.specs.Talk.{IsRest, IsSending}
use Rattle.broker_history.specs.Moments.{IsFree}
use Rattle.v2_frame.specs.declared.command.Command.{Command}
use Rattle.broker_history.specs.declared.call.Call.{Call}
use Rattle.broker_history.specs.declared.call.Call.TheVariants as call
use Rattle.broker_history.specs.declared.turned.Turned.{Turned}
use Rattle.broker_history.specs.declared.turned.Turned.TheVariants as turned
use Rattle.broker_history.specs.Answers.{Answers, AnswersCommand, AnswersNext}
use Rattle.broker_history.specs.Calls.{MayCall, has_began, is_over}
use Rattle.floor_laws.specs.Laid.{AreActsFor, IsActFor}
use Rattle.floor_laws.proofs.Laying.{all_so, free_common, front_free, front_whole}
use Rattle.floor_turns.specs.Turns.{TurnTies}
use Rattle.floor_rooms.specs.declared.hall.Hall.{Hall}
use Rattle.floor_rooms.specs.Rooms.{client_in}
use Rattle.floor_turns.specs.Acting.{ClientsBy, there_after}
use Rattle.floor_turns.specs.Scenes.{IsTied, is_here}

-- whether an entry of a kind is among one, where no common entry is of that kind
one_of : (kind : Act → Bool) (e : Entry × End) (b : Bool) → list_any (λ (x : Entry × End). kind x.0.act) (if b then e ∷ [] else []) ≡ (b && kind e.0.act)
one_of kind e true = or_no (kind e.0.act)
  where
    or_no : (b : Bool) → (b || false) ≡ b
    or_no true = refl
    or_no false = refl
one_of kind e false = refl

apart : (mine common kind : Bool) → (kind ≡ true → common ≡ false) → ((mine && not common) && kind) ≡ (mine && kind)
apart true false kind h = refl
apart true true true h = absurd (false≢true (sym (h refl)))
apart true true false h = refl
apart false common kind h = refl

began_apart : (act : Act) → is_began act ≡ true → is_common act ≡ false
began_apart Began h = refl
began_apart act h = absurd (false≢true h)

gone_apart : (act : Act) → is_gone act ≡ true → is_common act ≡ false
gone_apart Gone h = refl
gone_apart act h = absurd (false≢true h)

-- so behind one entry more of a history, with common ones before it
module _ (notes front added : History) (e : Entry × End) (whole : added ≡ front ++ e ∷ []) (common : AllByRecursion IsCommon front) (m : ℕ) where
  own_added : own m (notes ++ added) ≡ own m notes ++ own m (e ∷ [])
  own_added = own-append m notes added ∙ ap (λ x. own m notes ++ own m x) whole ∙ ap (λ x. own m notes ++ x) (own-append m front (e ∷ []) ∙ ap (λ x. x ++ own m (e ∷ [])) (common_none m front common))

  kind_added : (kind : Act → Bool) → ((act : Act) → kind act ≡ true → is_common act ≡ false) → list_any (λ (x : Entry × End). kind x.0.act) (own m (notes ++ added)) ≡ (list_any (λ (x : Entry × End). kind x.0.act) (own m notes) || ((e.0.conn == m) && kind e.0.act))
  kind_added kind no_common =
      ap (list_any (λ (x : Entry × End). kind x.0.act)) own_added ∙ list_any-append (λ (x : Entry × End). kind x.0.act) (own m notes) (own m (e ∷ []))
      ∙ ap (λ b. list_any (λ (x : Entry × End). kind x.0.act) (own m notes) || b) (one_of kind e (is_own m e) ∙ apart (e.0.conn == m) (is_common e.0.act) (kind e.0.act) (no_common e.0.act))

-- what becomes of whether a client is there
by_began : (mine there began over : Bool) → there ≡ (began && not over) → (mine ≡ true → over ≡ false) → (mine || there) ≡ ((began || (mine && true)) && not (over || (mine && false)))
by_began true there true over is h = ap not (sym (ap (λ o. o || false) (h refl)))
by_began true there false over is h = ap not (sym (ap (λ o. o || false) (h refl)))
by_began false there true true is h = is
by_began false there true false is h = is
by_began false there false over is h = is

by_gone : (mine there began over : Bool) → there ≡ (began && not over) → (not mine && there) ≡ ((began || (mine && false)) && not (over || (mine && true)))
by_gone true there true true is = refl
by_gone true there true false is = refl
by_gone true there false over is = refl
by_gone false there true true is = is
by_gone false there true false is = is
by_gone false there false over is = is

by_other : (mine there began over : Bool) → there ≡ (began && not over) → there ≡ ((began || (mine && false)) && not (over || (mine && false)))
by_other true there true true is = is
by_other true there true false is = is
by_other true there false over is = is
by_other false there true true is = is
by_other false there true false is = is
by_other false there false over is = is

there_tied : (act : Act) (n m : ℕ) (there began over : Bool) → there ≡ (began && not over) → (is_began act ≡ true → (n == m) ≡ true → over ≡ false) → there_after act n m there ≡ ((began || ((n == m) && is_began act)) && not (over || ((n == m) && is_gone act)))
there_tied Began n m there began over is h = by_began (n == m) there began over is (h refl)
there_tied Gone n m there began over is h = by_gone (n == m) there began over is
there_tied act n m there began over is h = by_other (n == m) there began over is

-- one that is gone began
begun_on : (mine began over act_began act_gone : Bool) → (over ≡ true → began ≡ true) → (act_gone ≡ true → mine ≡ true → began ≡ true) → (over || (mine && act_gone)) ≡ true → (began || (mine && act_began)) ≡ true
begun_on mine true over act_began act_gone f g h = refl
begun_on mine false true act_began act_gone f g h = absurd (false≢true (f refl))
begun_on true false false act_began true f g h = absurd (false≢true (g refl refl))
begun_on true false false act_began false f g h = absurd (false≢true h)
begun_on false false false act_began act_gone f g h = absurd (false≢true h)

common_no_stop : (act : Act) → is_common act ≡ true → is_stop act ≡ false
common_no_stop Stop h = absurd (false≢true h)
common_no_stop act h = refl

front_no_stop : (h : History) → AllByRecursion IsCommon h → has_stop h ≡ false
front_no_stop [] a = refl
front_no_stop (e ∷ h) a = ap (λ b. b || has_stop h) (common_no_stop e.0.act a.0) ∙ front_no_stop h a.1

or_no : (b : Bool) → (b || false) ≡ b
or_no true = refl
or_no false = refl

stops_added : (notes front acts : History) → AllByRecursion IsCommon front → has_stop (notes ++ (front ++ acts)) ≡ (has_stop notes || has_stop acts)
stops_added notes front acts common =
    list_any-append (λ (e : Entry × End). is_stop e.0.act) notes (front ++ acts)
    ∙ ap (λ b. has_stop notes || b) (list_any-append (λ (e : Entry × End). is_stop e.0.act) front acts ∙ ap (λ b. b || has_stop acts) (front_no_stop front common))

-- behind common entries and an act, the hall's clients and its Stop are those of the history still
pub tied_behind : (h h' : Hall) (notes added front acts : History) → IsTied h notes → added ≡ front ++ acts → AllByRecursion IsCommon front → ClientsBy acts h h'
    → ((e : Entry × End) → acts ≡ e ∷ [] → is_began e.0.act ≡ true → has_began (own e.0.conn notes) ≡ false) → ((e : Entry × End) → acts ≡ e ∷ [] → is_gone e.0.act ≡ true → has_began (own e.0.conn notes) ≡ true) → (acts ≡ [] ⊎ ((e : Entry × End) × (acts ≡ e ∷ [])))
    → IsTied h' (notes ++ added)
tied_behind h h' notes added front [] tied whole common clients new gone one =
    let own_same : (m : ℕ) → own m (notes ++ added) ≡ own m notes = λ m. own-append m notes added ∙ ap (λ x. own m notes ++ x) (ap (own m) (whole ∙ append-nil front) ∙ common_none m front common) ∙ append-nil (own m notes) in
    record {
      clients = λ m. clients.there m ∙ tied.clients m ∙ ap is_here (sym (own_same m));
      begun = λ m over. ap has_began (own_same m) ∙ tied.begun m (sym (ap is_over (own_same m)) ∙ over);
      stopped = clients.stopped ∙ tied.stopped ∙ sym (ap (λ x. has_stop (notes ++ x)) whole ∙ stops_added notes front [] common ∙ or_no (has_stop notes));
    }
tied_behind h h' notes added front (e ∷ acts) tied whole common clients new gone (inl none) = absurd cc
tied_behind h h' notes added front (e ∷ acts) tied whole common clients new gone (inr one) =
    let same : e ≡ one.0 = first_is e one.0 acts one.1 in
    let rest : acts ≡ [] = rest_is e one.0 acts one.1 in
    let act : e ∷ acts ≡ e ∷ [] = ap (λ x. e ∷ x) rest in
    let all : added ≡ front ++ e ∷ [] = whole ∙ ap (λ x. front ++ e ∷ x) rest in
    record {
      clients = λ m.
          clients.there m
          ∙ there_tied e.0.act e.0.conn m (is_some (client_in h.clients.items m)) (has_began (own m notes)) (is_over (own m notes)) (tied.clients m)
          (λ began mine. not_over (is_over (own m notes)) (has_began (own m notes)) (tied.begun m) (subst (λ n. has_began (own n notes) ≡ false) (eqb-true e.0.conn m mine) (new e act began)))
          ∙ sym (ap (λ b. b && not (is_over (own m (notes ++ added)))) (kind_added notes front added e all common m is_began began_apart) ∙ ap (λ b. (has_began (own m notes) || ((e.0.conn == m) && is_began e.0.act)) && not b) (kind_added notes front added e all common m is_gone gone_apart));
      begun = λ m over.
          kind_added notes front added e all common m is_began began_apart
          ∙ begun_on (e.0.conn == m) (has_began (own m notes)) (is_over (own m notes)) (is_began e.0.act) (is_gone e.0.act) (tied.begun m)
          (λ goes mine. subst (λ n. has_began (own n notes) ≡ true) (eqb-true e.0.conn m mine) (gone e act goes)) (sym (kind_added notes front added e all common m is_gone gone_apart) ∙ over);
      stopped = clients.stopped ∙ ap (λ b. b || is_stop e.0.act) tied.stopped ∙ sym (ap (λ x. has_stop (notes ++ x)) all ∙ stops_added notes front (e ∷ []) common ∙ ap (λ b. has_stop notes || b) (or_no (is_stop e.0.act)));
    }
  where
    first_is : (e f : Entry × End) (acts : History) → e ∷ acts ≡ f ∷ [] → e ≡ f
    first_is e f acts same = cc

    rest_is : (e f : Entry × End) (acts : History) → e ∷ acts ≡ f ∷ [] → acts ≡ []
    rest_is e f acts same = cc

    not_over : (over began : Bool) → (over ≡ true → began ≡ true) → began ≡ false → over ≡ false
    not_over true began f e = absurd (false≢true (sym e ∙ f refl))
    not_over false began f e = refl

-- a Began and a Gone are noted where they may be
began_of : (c : Call) (answer : Turned) (e : Entry × End) → Answers c e answer → is_began e.0.act ≡ true → c ≡ call.Begin
began_of call.Begin answer e h b = refl
began_of (call.Command command) answer e h b = absurd (command_not command answer e h b)
  where
    command_not : (command : Command) (answer : Turned) (e : Entry × End) → AnswersCommand command e answer → is_began e.0.act ≡ true → ⊥
    command_not command (turned.Reply frame closing) e h b = false≢true (sym (ap is_began h.0.0.1) ∙ b)
    command_not command turned.Quiet e h b = false≢true (sym (ap is_began h.0.1) ∙ b)
    command_not command turned.Deleted e h b = false≢true (sym (ap is_began h) ∙ b)
    command_not command answer e h b = h
began_of (call.Bad fault) (turned.Reply frame closing) e h b = absurd (false≢true (sym (ap is_began h.0) ∙ b))
began_of (call.Bad fault) answer e h b = absurd h
began_of call.Next answer e h b = absurd (next_not answer e h b)
  where
    sends_not : (act : Act) → IsSending act → is_began act ≡ true → ⊥
    sends_not Began h b = h
    sends_not act h b = false≢true b

    rests_not : (act : Act) → IsRest act → is_began act ≡ true → ⊥
    rests_not Began h b = h
    rests_not act h b = false≢true b

    next_not : (answer : Turned) (e : Entry × End) → AnswersNext e answer → is_began e.0.act ≡ true → ⊥
    next_not (turned.Send frame) e h b = sends_not e.0.act h.0 b
    next_not turned.Idle e h b = rests_not e.0.act h b
    next_not turned.Silent e h b = false≢true (sym (ap is_began h) ∙ b)
    next_not turned.Deleted e h b = false≢true (sym (ap is_began h) ∙ b)
    next_not answer e h b = h
began_of call.Gone turned.Ended e h b = absurd (false≢true (sym (ap is_began h) ∙ b))
began_of call.Gone answer e h b = absurd h
began_of (call.Ask a) (turned.Said told) e h b = absurd (false≢true (sym (ap is_began h.1) ∙ b))
began_of (call.Ask a) answer e h b = absurd h
began_of call.Names (turned.Listed names moment) e h b = absurd (false≢true (sym (ap is_began h.0) ∙ b))
began_of call.Names answer e h b = absurd h
began_of call.Tick turned.Quiet e h b = absurd (false≢true (sym (ap is_began h) ∙ b))
began_of call.Tick answer e h b = absurd h
began_of call.Stop turned.Stopping e h b = absurd (false≢true (sym (ap is_began h) ∙ b))
began_of call.Stop answer e h b = absurd h

gone_of : (c : Call) (answer : Turned) (e : Entry × End) → Answers c e answer → is_gone e.0.act ≡ true → c ≡ call.Gone
gone_of call.Gone answer e h b = refl
gone_of call.Begin turned.Begun e h b = absurd (false≢true (sym (ap is_gone h) ∙ b))
gone_of call.Begin answer e h b = absurd h
gone_of (call.Command command) answer e h b = absurd (command_not command answer e h b)
  where
    command_not : (command : Command) (answer : Turned) (e : Entry × End) → AnswersCommand command e answer → is_gone e.0.act ≡ true → ⊥
    command_not command (turned.Reply frame closing) e h b = false≢true (sym (ap is_gone h.0.0.1) ∙ b)
    command_not command turned.Quiet e h b = false≢true (sym (ap is_gone h.0.1) ∙ b)
    command_not command turned.Deleted e h b = false≢true (sym (ap is_gone h) ∙ b)
    command_not command answer e h b = h
gone_of (call.Bad fault) (turned.Reply frame closing) e h b = absurd (false≢true (sym (ap is_gone h.0) ∙ b))
gone_of (call.Bad fault) answer e h b = absurd h
gone_of call.Next answer e h b = absurd (next_not answer e h b)
  where
    sends_not : (act : Act) → IsSending act → is_gone act ≡ true → ⊥
    sends_not Gone h b = h
    sends_not act h b = false≢true b

    rests_not : (act : Act) → IsRest act → is_gone act ≡ true → ⊥
    rests_not Gone h b = h
    rests_not act h b = false≢true b

    next_not : (answer : Turned) (e : Entry × End) → AnswersNext e answer → is_gone e.0.act ≡ true → ⊥
    next_not (turned.Send frame) e h b = sends_not e.0.act h.0 b
    next_not turned.Idle e h b = rests_not e.0.act h b
    next_not turned.Silent e h b = false≢true (sym (ap is_gone h) ∙ b)
    next_not turned.Deleted e h b = false≢true (sym (ap is_gone h) ∙ b)
    next_not answer e h b = h
gone_of (call.Ask a) (turned.Said told) e h b = absurd (false≢true (sym (ap is_gone h.1) ∙ b))
gone_of (call.Ask a) answer e h b = absurd h
gone_of call.Names (turned.Listed names moment) e h b = absurd (false≢true (sym (ap is_gone h.0) ∙ b))
gone_of call.Names answer e h b = absurd h
gone_of call.Tick turned.Quiet e h b = absurd (false≢true (sym (ap is_gone h) ∙ b))
gone_of call.Tick answer e h b = absurd h
gone_of call.Stop turned.Stopping e h b = absurd (false≢true (sym (ap is_gone h) ∙ b))
gone_of call.Stop answer e h b = absurd h

one_act : (at number : ℕ) (c : Call) (answer : Turned) (acts : History) → AreActsFor at number c answer acts → acts ≡ [] ⊎ ((e : Entry × End) × (acts ≡ e ∷ []))
one_act at number c answer [] a = inl refl
one_act at number c answer (e ∷ []) a = inr (e, refl)
one_act at number c answer (e ∷ f ∷ h) a = absurd a

act_of : (at number : ℕ) (c : Call) (answer : Turned) (acts : History) (e : Entry × End) → AreActsFor at number c answer acts → acts ≡ e ∷ [] → IsActFor at number c answer e
act_of at number c answer acts e a is = subst (λ x. AreActsFor at number c answer x) is a

named_not : (act : Act) (number conn : ℕ) → conn ≡ (if is_tick act then 0 else number) → is_tick act ≡ false → conn ≡ number
named_not act number conn is other = is ∙ ap (λ b. if b then 0 else number) other

began_no_tick : (act : Act) → is_began act ≡ true → is_tick act ≡ false
began_no_tick Began h = refl
began_no_tick act h = absurd (false≢true h)

gone_no_tick : (act : Act) → is_gone act ≡ true → is_tick act ≡ false
gone_no_tick Gone h = refl
gone_no_tick act h = absurd (false≢true h)

pub turn_ties : TurnTies
turn_ties tells_notes tells_files number c answer old new tied may t told =
    let at : ℕ = old.hall.moment in
    let front : History = (t.laid.moves ++ t.laid.stuck) ++ t.laid.held in
    subst (IsTied new.hall) (sym (t.noted told))
    (tied_behind old.hall new.hall old.noted t.added front t.laid.acts tied (front_whole at number c answer t.added t.laid) (all_so IsFree IsCommon front free_common (front_free at number c answer t.added t.laid)) t.clients
    (λ e is began.
    let act = act_of at number c answer t.laid.acts e t.laid.act is in
    let conn : e.0.conn ≡ number = named_not e.0.act number e.0.conn act.names (began_no_tick e.0.act began) in
    subst (λ n. has_began (own n old.noted) ≡ false) (sym conn) (subst (MayCall number (own number old.noted)) (began_of c answer e act.answers began) may).1)
    (λ e is gone.
    let act = act_of at number c answer t.laid.acts e t.laid.act is in
    let conn : e.0.conn ≡ number = named_not e.0.act number e.0.conn act.names (gone_no_tick e.0.act gone) in
    subst (λ n. has_began (own n old.noted) ≡ true) (sym conn) (subst (MayCall number (own number old.noted)) (gone_of c answer e act.answers gone) may).began)
    (one_act at number c answer t.laid.acts t.laid.act))
