-- A piece that is fed to a reader, whose bytes that are done may have been dropped before.
use Rattle.std.proofs.Common.{◌≡◌, ℕ, List, ◌++◌, length, take, drop, Vec, Global, refl, sym, ap, subst, ◌∙◌, arith, append_assoc, length-append, length-drop}
use Rattle.std.proofs.lemmas.List.{take-append-le, drop-append-le}
use Rattle.v2_frame.specs.declared.fault.Fault.{Fault}
use Rattle.v2_frame.specs.declared.fault.Limits.{Limits}
use Rattle.v2_frame.specs.declared.got.Stage.{Stage}
use Rattle.v2_frame.specs.declared.got.Stage.TheVariants.{Opening, Commands, Failed}
use Rattle.v2_frame.specs.declared.reader.Reader.TheInside.{Inside}
use Rattle.v2_frame.specs.Line.{HasNo}
use Rattle.v2_frame.specs.Judging.{IsUnfinished}
use Rattle.v2_frame.specs.Reading.{Reading, fed, Remembers}

-- what is seen of a reader
abbrev pub seen : Limits → Stage → ℕ → List ℕ → Reading
seen limits stage place pending = record { limits = limits; stage = stage; place = place; pending = pending }

-- after a fault nothing more is kept, and else the piece is
pub fed_failed : (r : Reading) (piece : List ℕ) (fault : Fault) → r.stage ≡ Failed fault → r ≡ fed r.stage r piece
fed_failed r piece fault e = sym (ap (λ (s : Stage). fed s r piece) e)

fed_good : (s : Stage) (r : Reading) (piece : List ℕ) → ((fault : Fault) → s ≡ Failed fault → ⊥) → fed s r piece ≡ seen r.limits r.stage r.place (r.pending ++ piece)
fed_good Opening r piece good = refl
fed_good Commands r piece good = refl
fed_good (Failed fault) r piece good = absurd (good fault refl)

-- bytes of which those that are done were dropped, or not, show the same reader
pub record IsSame (i j : Inside) : Type 0 where
  pub limits : j.limits ≡ i.limits
  pub stage : j.stage ≡ i.stage
  pub place : j.place ≡ i.place
  pub pending : drop j.start j.bytes.items ≡ drop i.start i.bytes.items
  pub remembers : Remembers j.limits j.bytes.items j.start j.scanned j.needed

pub same_whole : (i : Inside) → Remembers i.limits i.bytes.items i.start i.scanned i.needed → IsSame i i
same_whole i r = record { limits = refl; stage = refl; place = refl; pending = refl; remembers = r }

remembers_dropped : (limits : Limits) (items dropped : List ℕ) (start scanned needed : ℕ) → Remembers limits items start scanned needed → dropped ≡ drop start items → Remembers limits dropped 0 scanned needed
remembers_dropped limits items dropped start scanned needed r e =
    subst (λ (x : List ℕ). Remembers limits x 0 scanned needed) (sym e) (record { done = omega arith; scan = omega (arith, r.scan, r.done, length-drop start items); none = r.none; waits = r.waits })

pub same_dropped : (i : Inside) (bytes : Vec ℕ Global) → Remembers i.limits i.bytes.items i.start i.scanned i.needed → bytes.items ≡ drop i.start i.bytes.items → IsSame i (record i { bytes = bytes; start = 0 })
same_dropped i bytes r e =
    record { limits = refl; stage = refl; place = refl; pending = e; remembers = remembers_dropped i.limits i.bytes.items bytes.items i.start i.scanned i.needed r e }

-- what is remembered still holds with a piece behind it
pub remembers_more : (limits : Limits) (items piece new : List ℕ) (start scanned needed : ℕ) → Remembers limits items start scanned needed → new ≡ items ++ piece → Remembers limits new start scanned needed
remembers_more limits items piece new start scanned needed r e =
    let behind : drop start (items ++ piece) ≡ drop start items ++ piece = drop-append-le start items piece r.done in
    let front : take scanned (drop start (items ++ piece)) ≡ take scanned (drop start items) =
    ap (take scanned) behind ∙ take-append-le scanned (drop start items) piece (omega (arith, r.scan, length-drop start items)) in
    subst (λ (x : List ℕ). Remembers limits x start scanned needed) (sym e) (record {
      done = omega (arith, r.done, length-append items piece);
      scan = omega (arith, r.scan, length-append items piece);
      none = subst (λ (x : List ℕ). HasNo 10 x) (sym front) r.none;
      waits = λ more few.
          let whole : drop start (items ++ piece) ++ more ≡ drop start items ++ (piece ++ more) = ap (λ (x : List ℕ). x ++ more) behind ∙ append_assoc (drop start items) piece more in
          subst (λ (x : List ℕ). IsUnfinished limits x) (sym whole) (r.waits (piece ++ more) (omega (arith, few, ap length whole)));
    })

pub remembers_as : (limits : Limits) (items new : List ℕ) (start scanned needed : ℕ) → Remembers limits items start scanned needed → new ≡ items → Remembers limits new start scanned needed
remembers_as limits items new start scanned needed r e = subst (λ (x : List ℕ). Remembers limits x start scanned needed) (sym e) r

-- the same reader, with other bytes pending
shows : (i j : Inside) (pending : List ℕ) → IsSame i j → seen j.limits j.stage j.place pending ≡ seen i.limits i.stage i.place pending
shows i j pending s =
    ap (λ (x : Limits). seen x j.stage j.place pending) s.limits ∙ ap (λ (x : Stage). seen i.limits x j.place pending) s.stage ∙ ap (λ (x : ℕ). seen i.limits i.stage x pending) s.place

-- the piece was refused
pub fed_nothing : (i j : Inside) (new : List ℕ) → IsSame i j → new ≡ j.bytes.items → seen j.limits j.stage j.place (drop j.start new) ≡ seen i.limits i.stage i.place (drop i.start i.bytes.items)
fed_nothing i j new s e =
    ap (λ (x : List ℕ). seen j.limits j.stage j.place x) (ap (drop j.start) e ∙ s.pending) ∙ shows i j (drop i.start i.bytes.items) s

-- and was kept
pub fed_more : (i j : Inside) (new piece : List ℕ) → IsSame i j → ((fault : Fault) → i.stage ≡ Failed fault → ⊥) → new ≡ j.bytes.items ++ piece
    → seen j.limits j.stage j.place (drop j.start new) ≡ fed i.stage (seen i.limits i.stage i.place (drop i.start i.bytes.items)) piece
fed_more i j new piece s good e =
    let r = seen i.limits i.stage i.place (drop i.start i.bytes.items) in
    let pending : drop j.start new ≡ drop i.start i.bytes.items ++ piece = ap (drop j.start) e ∙ drop-append-le j.start j.bytes.items piece s.remembers.done ∙ ap (λ (x : List ℕ). x ++ piece) s.pending in
    ap (λ (x : List ℕ). seen j.limits j.stage j.place x) pending ∙ shows i j (drop i.start i.bytes.items ++ piece) s ∙ sym (fed_good i.stage r piece good)
