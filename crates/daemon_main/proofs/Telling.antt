-- The end of the program, behind what it did: the line of its ending is told.
use Rattle.std.proofs.Common.{◌≡◌, inl, inr, ℕ, ◌++◌, ◌∷◌, [], List, Bool, refl, sym, ◌∙◌, ap, subst, arith, Option, Some, None, option_map}
use Rattle.std.specs.Prelude.{◌⊎◌, IfSome, IsTrue}
use Rattle.nsq_base.specs.declared.options.Options.{Options}
use Rattle.nsq_outside.specs.Causes.{Rose}
use Rattle.nsq_outside.specs.Files.{Files}
use Rattle.nsq_outside.specs.Hosts.{HostContent, HostState, OnlyTellFaults, Tells}
use Rattle.nsq_outside.specs.declared.host.Kit.{Kit}
use Rattle.broker_history.specs.Entries.{History}
use Rattle.daemon_callers.specs.Served.{Views}
use Rattle.daemon_main.specs.Asked.{StartsOnce, start_of}
use Rattle.daemon_endings.specs.Endings.{status_of as serve_status}
use Rattle.daemon_endings.specs.Statuses.{line_of, status_of}
use Rattle.daemon_main.specs.Endings.{IsCaused}
use Rattle.daemon_main.specs.Runs.{HasWorked, NoCaller, Runs, StayedHome}
use Rattle.daemon_main.specs.Sights.{Both, Sight, counts_of, sight, sight_of}
use Rattle.daemon_endings.specs.declared.serving.ServeEnd.{ServeEnd}
use Rattle.daemon_endings.specs.declared.serving.ServeEnd.TheVariants as end
use Rattle.daemon_main.proofs.Asking.{no_caller_then}
use Rattle.daemon_main.proofs.Causes.{caused_wider, completes_told}
use Rattle.daemon_main.proofs.Sighting.{worked_between}
use Rattle.daemon_main.specs.Doing.{DoesNothing, ServesSo}
use Rattle.daemon_main.specs.ProgramEndings.{IsTold, TellsLine}
use Rattle.daemon_main.specs.Programs.{IsPlainRun}
use Rattle.daemon_endings.specs.declared.ending.Ending.{Ending}
use Rattle.daemon_endings.specs.declared.ending.Ending.TheVariants.{Memory, Served}

-- all but the lines that were told is as it was
pub record KeepsAll {K : Type 0} (old new : HostContent K) : Type 0 where
  pub starts : new.starts ≡ old.starts
  pub printed : new.printed ≡ old.printed
  pub callers : NoCaller old new

keeps_all : {K : Type 0} (old new : HostContent K) → new ≡ old → KeepsAll old new
keeps_all {K} old new e = record {
  starts = ap (λ (x : HostContent K). x.starts) e;
  printed = ap (λ (x : HostContent K). x.printed) e;
  callers = record { coming = ap (λ (x : HostContent K). x.coming) e; given = ap (λ (x : HostContent K). x.given) e; back = ap (λ (x : HostContent K). x.back) e; halted = ap (λ (x : HostContent K). x.halted) e };
}

keeps_lines : {K : Type 0} (old new : HostContent K) (lines : List (List ℕ)) → new ≡ record old { lines = lines } → KeepsAll old new
keeps_lines {K} old new lines e = record {
  starts = ap (λ (x : HostContent K). x.starts) e;
  printed = ap (λ (x : HostContent K). x.printed) e;
  callers = record { coming = ap (λ (x : HostContent K). x.coming) e; given = ap (λ (x : HostContent K). x.given) e; back = ap (λ (x : HostContent K). x.back) e; halted = ap (λ (x : HostContent K). x.halted) e };
}

-- telling a line keeps all else
pub tells_keeps : {K : Type 0} (line : Option (List ℕ)) (old new : HostContent K) (tell tell' : ℕ) → TellsLine line old new tell tell' → KeepsAll old new
tells_keeps None old new tell tell' t = keeps_all old new t
tells_keeps (Some line) old new tell tell' (inl t) = keeps_lines old new (old.lines ++ line ∷ []) t
tells_keeps (Some line) old new tell tell' (inr t) = keeps_all old new t.0

-- and tells that line, or counts a fault
pub tells_told : {K : Type 0} (line : Option (List ℕ)) (old new : HostContent K) (before : List (List ℕ)) (tell0 tell tell' : ℕ) → old.lines ≡ before → tell0 ≡ tell → TellsLine line old new tell tell' → IsTold line before new.lines tell0 tell'
tells_told {K} None old new before tell0 tell tell' same count t = ap (λ (x : HostContent K). x.lines) t ∙ same
tells_told {K} (Some line) old new before tell0 tell tell' same count (inl t) = inl (ap (λ (x : HostContent K). x.lines) t ∙ ap (λ x. x ++ line ∷ []) same)
tells_told {K} (Some line) old new before tell0 tell tell' same count (inr t) = inr (ap (λ (x : HostContent K). x.lines) t.0 ∙ same, subst (λ x. Rose x tell') (sym count) t.1)

-- a line that was found for an ending
pub line_told : {K : Type 0} (line : Option (List ℕ)) (text : List ℕ) (old new : HostContent K) (tell tell' : ℕ) → line ≡ Some text → Tells old new text tell tell' → TellsLine line old new tell tell'
line_told line text old new tell tell' e t = subst (λ x. TellsLine x old new tell tell') (sym e) t

pub no_line_told : {K : Type 0} (line : Option (List ℕ)) (old new : HostContent K) (tell tell' : ℕ) → line ≡ None → new ≡ old → TellsLine line old new tell tell'
no_line_told line old new tell tell' e t = subst (λ x. TellsLine x old new tell tell') (sym e) t

-- the line of want of memory is the same whatever wanted it
pub wanting_line : line_of Memory ≡ line_of (Served end.Memory)
wanting_line = refl

-- two facts of both moments are one
both_and : {K : Type 0} (a b : Option (Sight K)) (P Q : Sight K → Sight K → Type 0) → Both a b P → Both a b Q → Both a b (λ x y. P x y × Q x y)
both_and None b P Q p q = tt
both_and (Some x) None P Q p q = tt
both_and (Some x) (Some y) P Q p q = (p, q)

told_both : {K : Type 0} {Told : Type 0} (a b : Option (Sight K)) (P : Sight K → Sight K → Type 0) → (Told → Both a b P) → Both a b (λ x y. Told → P x y)
told_both None b P h = tt
told_both (Some x) None P h = tt
told_both (Some x) (Some y) P h = h

same_kit : {X : Type 0} (o o' : Option X) (P : X → X → Type 0) → o' ≡ o → ((x : X) → P x x) → IfSome o (λ x. IfSome o' (λ y. P x y))
same_kit None o' P e f = tt
same_kit (Some x) o' P e f = subst (λ y. IfSome y (λ z. P x z)) (sym e) (f x)

module _ {F C J K : Type 0} (notes : J → History) (files : F → Files) (coming : C → ℕ → ℕ) (faults : F → ℕ) (Told : Type 0) (tells tells_files tells_notes : Bool) (host_of : Told → IsTrue tells) (seen : Views K) (options : Options) where
  abbrev Seen : Kit F C J → HostState F C J → HostContent K → Sight K
  Seen kit s c = sight notes files coming faults kit s c

  module _ (s0 s1 s2 : HostState F C J) (c0 c1 c2 : HostContent K) (told : OnlyTellFaults s1 s2) where
    -- the counts of the folder and the listeners are as they were
    accept_same : s2.accept_faults ≡ s1.accept_faults
    accept_same = ap (λ (x : HostState F C J). x.accept_faults) told.1

    started_told : (ended : ServeEnd) (x y : Kit F C J) → KeepsAll c1 c2 → StayedHome ended (Seen x s0 c0) (Seen y s1 c1) ⊎ (StartsOnce options c0 c1 × HasWorked seen options ended (Seen x s0 c0) (Seen y s1 c1))
        → StayedHome ended (Seen x s0 c0) (Seen y s2 c2) ⊎ (StartsOnce options c0 c2 × HasWorked seen options ended (Seen x s0 c0) (Seen y s2 c2))
    started_told ended x y keeps (inl h) = inl (record { files = h.files; coming = h.coming; notes = h.notes; callers = no_caller_then c0 c1 c2 h.callers keeps.callers; ends = h.ends })
    started_told ended x y keeps (inr w) = inr (
      keeps.starts ∙ w.0,
      worked_between seen options ended (Seen x s0 c0) (Seen x s0 c0) (Seen y s1 c1) (Seen y s2 c2)
          (record { files = refl; coming = refl; counts = record { folder = omega arith; accept = omega arith }; callers = record { coming = refl; given = refl; back = refl; halted = refl } })
          (record { files = refl; coming = refl; notes = refl; counts = record { folder = omega arith; accept = omega (arith, accept_same) }; callers = keeps.callers }) w.1,
    )

    -- what holds of the kit before and after holds behind the line
    moved : (P Q : Kit F C J → Kit F C J → Type 0) (o o' o'' : Option (Kit F C J)) → o'' ≡ o' → ((x y : Kit F C J) → P x y → Q x y) → IfSome o (λ x. IfSome o' (λ y. P x y)) → IfSome o (λ x. IfSome o'' (λ y. Q x y))
    moved P Q None o' o'' e f p = tt
    moved P Q (Some x) o' o'' e f p = subst (λ z. IfSome z (λ y. Q x y)) (sym e) (go o' p)
      where
        go : (z : Option (Kit F C J)) → IfSome z (λ y. P x y) → IfSome z (λ y. Q x y)
        go None h = tt
        go (Some y) h = f x y h

    kits : (P : Sight K → Sight K → Type 0) (s : HostState F C J) (c : HostContent K) (o o' : Option (Kit F C J)) → IfSome o (λ x. IfSome o' (λ y. P (Seen x s0 c0) (Seen y s c))) → Both (option_map (λ kit. Seen kit s0 c0) o) (option_map (λ kit. Seen kit s c) o') P
    kits P s c None o' h = tt
    kits P s c (Some x) None h = tt
    kits P s c (Some x) (Some y) h = h

    unkits : (P : Sight K → Sight K → Type 0) (s : HostState F C J) (c : HostContent K) (o o' : Option (Kit F C J)) → Both (option_map (λ kit. Seen kit s0 c0) o) (option_map (λ kit. Seen kit s c) o') P → IfSome o (λ x. IfSome o' (λ y. P (Seen x s0 c0) (Seen y s c)))
    unkits P s c None o' h = tt
    unkits P s c (Some x) None h = tt
    unkits P s c (Some x) (Some y) h = h

    both_told : (P Q : Sight K → Sight K → Type 0) → ((x y : Kit F C J) → P (Seen x s0 c0) (Seen y s1 c1) → Q (Seen x s0 c0) (Seen y s2 c2)) → Both (sight_of notes files coming faults s0 c0) (sight_of notes files coming faults s1 c1) P
        → Both (sight_of notes files coming faults s0 c0) (sight_of notes files coming faults s2 c2) Q
    both_told P Q f p =
        kits Q s2 c2 s0.kit s2.kit (moved (λ x y. P (Seen x s0 c0) (Seen y s1 c1)) (λ x y. Q (Seen x s0 c0) (Seen y s2 c2)) s0.kit s1.kit s2.kit (ap (λ (x : HostState F C J). x.kit) told.1) f (unkits P s1 c1 s0.kit s1.kit p))

    -- a plain run that served
    pub plain_served : (ending : Ending) → (IsTrue tells → TellsLine (line_of ending) c1 c2 s1.tell_faults s2.tell_faults)
        → ServesSo Told tells tells_files tells_notes seen s0 s1 c0 c1 (sight_of notes files coming faults s0 c0) (sight_of notes files coming faults s1 c1) options ending
        → Both (sight_of notes files coming faults s0 c0) (sight_of notes files coming faults s2 c2) (IsPlainRun Told tells tells_files tells_notes seen options (status_of ending))
    plain_served ending line s =
        let count = s.faults in
        let status : status_of ending ≡ serve_status s.ended = ap status_of s.is in
        let keeps : IsTrue tells → KeepsAll c1 c2 = λ t. tells_keeps (line_of ending) c1 c2 s1.tell_faults s2.tell_faults (line t) in
        let cause : (x y : Kit F C J) → IsCaused s.ended tells_files tells_notes (files x.folder) (counts_of faults x.folder s0) (counts_of faults y.folder s1) → IsCaused s.ended tells_files tells_notes (files x.folder) (counts_of faults x.folder s0) (counts_of faults y.folder s2)
        = λ x y c. caused_wider tells_files tells_notes s.ended (files x.folder) (counts_of faults x.folder s0) (counts_of faults x.folder s0) (counts_of faults y.folder s1) (counts_of faults y.folder s2) (record { folder = omega arith; accept = omega arith })
        (record { folder = omega arith; accept = omega (arith, accept_same) }) c in
        both_told (λ a b. IsCaused s.ended tells_files tells_notes a.files a.counts b.counts × (Told → Runs seen options s.ended a b)) (IsPlainRun Told tells tells_files tells_notes seen options (status_of ending)) (λ x y h. record {
          ended = s.ended;
          is = status;
          caused = cause x y h.0;
          complete = λ told_files told_notes bytes. completes_told s.ended tells_files tells_notes (files x.folder) (counts_of faults x.folder s0) (counts_of faults y.folder s2) told_files told_notes bytes (cause x y h.0);
          told = λ t. subst (λ e. IsTold (line_of e) c0.lines c2.lines s0.tell_faults s2.tell_faults) s.is (tells_told (line_of ending) c1 c2 c0.lines s0.tell_faults s1.tell_faults s2.tell_faults (s.lines t) (sym count.tell) (line t));
          asked = λ t. let a = s.asked t in let k = keeps t in record {
            starts = subst (λ z. (z ≡ c0.starts) ⊎ (z ≡ c0.starts ++ start_of options ∷ [])) (sym k.starts) a.starts;
            where_given = λ given. k.starts ∙ a.where_given (λ same. given (k.callers.given ∙ same));
            where_clean = λ clean. k.starts ∙ a.where_clean (sym status ∙ clean);
            printed = k.printed ∙ a.printed;
          };
          runs = λ t bytes. started_told s.ended x y (keeps (host_of t)) (h.1 t bytes);
        }) (both_and _ _ (λ a b. IsCaused s.ended tells_files tells_notes a.files a.counts b.counts) (λ a b. Told → Runs seen options s.ended a b) s.cause (told_both _ _ (Runs seen options s.ended) s.runs))

    -- a plain run that wanted memory before it began
    pub plain_wanting : (ending : Ending) → ending ≡ Memory → (IsTrue tells → TellsLine (line_of ending) c1 c2 s1.tell_faults s2.tell_faults) → DoesNothing tells s0 s1 c0 c1
        → Both (sight_of notes files coming faults s0 c0) (sight_of notes files coming faults s2 c2) (IsPlainRun Told tells tells_files tells_notes seen options (status_of ending))
    plain_wanting ending is line n =
        let keeps : IsTrue tells → KeepsAll c1 c2 = λ t. tells_keeps (line_of ending) c1 c2 s1.tell_faults s2.tell_faults (line t) in
        let same : KeepsAll c0 c1 = keeps_all c0 c1 n.content in
        let all : IsTrue tells → NoCaller c0 c2 = λ t. let k = keeps t in no_caller_then c0 c1 c2 same.callers k.callers in
        kits (IsPlainRun Told tells tells_files tells_notes seen options (status_of ending)) s2 c2 s0.kit s2.kit (same_kit s0.kit s2.kit (λ x y. IsPlainRun Told tells tells_files tells_notes seen options (status_of ending) (Seen x s0 c0) (Seen y s2 c2)) (ap (λ (x : HostState F C J). x.kit) told.1 ∙ ap (λ (x : HostState F C J). x.kit) n.state) (λ x. record {
          ended = end.Memory;
          is = ap status_of is;
          caused = tt;
          complete = λ told_files told_notes bytes. completes_told end.Memory tells_files tells_notes (files x.folder) (counts_of faults x.folder s0) (counts_of faults x.folder s2) told_files told_notes bytes tt;
          told = λ t. subst (λ e. IsTold (line_of e) c0.lines c2.lines s0.tell_faults s2.tell_faults) is
              (tells_told (line_of ending) c1 c2 c0.lines s0.tell_faults s1.tell_faults s2.tell_faults (ap (λ (z : HostContent K). z.lines) n.content) (sym (ap (λ (z : HostState F C J). z.tell_faults) n.state)) (line t));
          asked = λ t. let k = keeps t in record {
            starts = inl (k.starts ∙ same.starts);
            where_given = λ given. absurd (given (k.callers.given ∙ same.callers.given));
            where_clean = λ clean. absurd (omega (arith, ap status_of is, clean));
            printed = k.printed ∙ same.printed;
          };
          runs = λ t bytes. inl (record { files = refl; coming = refl; notes = refl; callers = all (host_of t); ends = inr refl });
        }))
