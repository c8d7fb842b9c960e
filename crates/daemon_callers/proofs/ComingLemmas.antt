-- What a read does to the reading of a request.
use Rattle.std.proofs.Common.{◌≡◌, ◌≢◌, ℕ, ◌<◌, ◌≤◌, Bool, true, false, List, [], ◌∷◌, ◌++◌, length, take, drop, refl, sym, ap, subst, ◌∙◌, append_assoc, length-take, length-append, length-drop, Some, None, Result, Ok, Err, OnOk, is_err, arith}
use Rattle.std.proofs.lemmas.List.{append-nil}
use Rattle.std.proofs.Math.Seq.{take-append_seam}
use Rattle.nsq_core.specs.declared.memory.Memory.{Memory as NoMemory}
use Rattle.nsq_base.specs.declared.options.Options.{Options}
use Rattle.broker_history.specs.Entries.{History, own}
use Rattle.broker_history.specs.Talk.{bytes_of, longest_piece}
use Rattle.http_wire.specs.declared.got.GotRequest.{GotRequest}
use Rattle.http_wire.specs.declared.got.GotRequest.TheVariants as got
use Rattle.http_wire.specs.Request.{Unfinished, BadHead, NoLength, TooBig, IsRequest}
use Rattle.http_wire.specs.Reading.{Fed, Gives}
use Rattle.http_calls.specs.declared.refusal.Refusal.{Refusal}
use Rattle.http_calls.specs.Refusals.{refused_by}
use Rattle.daemon_callers.specs.declared.http.ended.EndedHttp.{EndedHttp}
use Rattle.daemon_callers.specs.declared.http.ended.EndedHttp.TheVariants.{Closed, ReadFault, WriteFault, Answered, EndOfInput, Cut, Memory as OutOfMemory}
use Rattle.daemon_callers.specs.Exchange.{HasCause, AreRead, nothing, piece, IsOpen, IsListing, ListsBehindStop, IsExchange, IsExchangeIn}
use Rattle.daemon_callers.specs.declared.http.reading.Came.{Came}
use Rattle.daemon_callers.specs.declared.http.reading.Came.TheVariants.{Whole, Refused, Over, Memory}
use Rattle.daemon_callers.specs.Comings.{Looks, IsRefused, HasCameCause, HasRead, HasBegun, IsReading, ComesTo, EndsOtherwise, ended_at}
use Rattle.daemon_callers.proofs.ListLemmas.{lists_none}

-- the bytes of pieces and of one more
pub bytes_of-next : (pieces : List (List ℕ)) (next : List ℕ) → bytes_of (pieces ++ next ∷ []) ≡ bytes_of pieces ++ next
bytes_of-next [] next = append-nil next
bytes_of-next (p ∷ ps) next = ap (λ x. p ++ x) (bytes_of-next ps next) ∙ sym (append_assoc p (bytes_of ps) next)

-- a list that ends with something isn't empty
some_last : (pieces : List (List ℕ)) (next : List ℕ) → pieces ++ next ∷ [] ≢ []
some_last [] next e = cc
some_last (p ∷ ps) next e = cc

-- a cause since later counts is one since earlier ones
pub cause_since : (ended : EndedHttp) (at_end : Bool) (r r' r'' w w' w'' : ℕ) → r ≤ r' → w ≤ w' → HasCause ended at_end r' r'' w' w'' → HasCause ended at_end r r'' w w''
cause_since EndOfInput at_end r r' r'' w w' w'' more_r more_w c = c
cause_since Cut at_end r r' r'' w w' w'' more_r more_w c = c
cause_since ReadFault at_end r r' r'' w w' w'' more_r more_w c = omega (arith, more_r, c)
cause_since WriteFault at_end r r' r'' w w' w'' more_r more_w c = omega (arith, more_w, c)
cause_since Answered at_end r r' r'' w w' w'' more_r more_w c = tt
cause_since Closed at_end r r' r'' w w' w'' more_r more_w c = tt
cause_since OutOfMemory at_end r r' r'' w w' w'' more_r more_w c = tt

-- bytes that were looked at are no end of the exchange
pub looked_otherwise : (limit : ℕ) (bytes : List ℕ) (came : Came) → Looks limit bytes (Some came) → EndsOtherwise came
looked_otherwise limit bytes (Whole request) l = tt
looked_otherwise limit bytes (Refused refusal) l = tt
looked_otherwise limit bytes (Over ended) l = absurd l
looked_otherwise limit bytes Memory l = tt

-- and they have no cause that isn't there
pub looked_cause : (limit : ℕ) (bytes : List ℕ) (came : Came) (at_end : Bool) (r r' w w' : ℕ) → Looks limit bytes (Some came) → HasCameCause came at_end r r' w w'
looked_cause limit bytes (Whole request) at_end r r' w w' l = tt
looked_cause limit bytes (Refused refusal) at_end r r' w w' l = tt
looked_cause limit bytes (Over ended) at_end r r' w w' l = absurd l
looked_cause limit bytes Memory at_end r r' w w' l = tt

-- the same of what the reading came to
pub cause_later : (came : Came) (at_end : Bool) (r r' r'' w w' w'' : ℕ) → r ≤ r' → w ≤ w' → HasCameCause came at_end r' r'' w' w'' → HasCameCause came at_end r r'' w w''
cause_later (Whole request) at_end r r' r'' w w' w'' more_r more_w c = tt
cause_later (Refused refusal) at_end r r' r'' w w' w'' more_r more_w c = tt
cause_later (Over ended) at_end r r' r'' w w' w'' more_r more_w c = cause_since ended at_end r r' r'' w w' w'' more_r more_w c
cause_later Memory at_end r r' r'' w w' w'' more_r more_w c = tt

-- nor is the end of the input one for want of memory
pub ended_otherwise : (begun : Bool) (ended : EndedHttp) → ended ≡ ended_at begun → EndsOtherwise (Over ended)
ended_otherwise true ended is = subst (λ (x : EndedHttp). EndsOtherwise (Over x)) (sym is) tt
ended_otherwise false ended is = subst (λ (x : EndedHttp). EndsOtherwise (Over x)) (sym is) tt

-- and it comes where the input was at its end
pub ended_cause : (begun : Bool) (ended : EndedHttp) (at_end : Bool) (r r' w w' : ℕ) → ended ≡ ended_at begun → at_end ≡ true → HasCause ended at_end r r' w w'
ended_cause true ended at_end r r' w w' is ends = subst (λ (x : EndedHttp). HasCause x at_end r r' w w') (sym is) ends
ended_cause false ended at_end r r' w w' is ends = subst (λ (x : EndedHttp). HasCause x at_end r r' w w') (sym is) ends

-- nothing was read and nothing noted
pub reads_none : (o : Options) (number : ℕ) (pieces : List (List ℕ)) (seen : History) → pieces ≡ [] → own number seen ≡ [] → HasRead o number pieces seen
reads_none o number pieces seen none no_own = record { read = subst (λ (x : List (List ℕ)). AreRead o.max_body_size x) (sym none) nothing; none = no_own }

-- the same, and a new reader
pub reads_first : (o : Options) (number limit : ℕ) (pieces : List (List ℕ)) (seen : History) (reader : Fed) (begun : Bool) → o.max_body_size ≡ limit → pieces ≡ [] → own number seen ≡ [] → reader ≡ record { limit = limit; bytes = [] } → begun ≡ false
    → IsReading o number pieces seen reader begun
reads_first o number limit pieces seen reader begun same none no_own fresh not_begun = record {
  has_read = reads_none o number pieces seen none no_own;
  limit_is = ap (λ (x : Fed). x.limit) fresh ∙ sym same;
  bytes_are = ap (λ (x : Fed). x.bytes) fresh ∙ sym (ap bytes_of none);
  has_begun = subst (λ (b : Bool). HasBegun b pieces) (sym not_begun) none;
}

module _ (o : Options) (number : ℕ) (pieces pieces' : List (List ℕ)) (seen : History) (reader : Fed) (begun : Bool) (r : IsReading o number pieces seen reader begun) where
  -- what the reader gives is what was read
  pub open_reading : IsRequest reader.limit reader.bytes Unfinished → IsOpen o pieces
  open_reading u = subst (λ (n : ℕ). IsRequest n (bytes_of pieces) Unfinished) r.limit_is (subst (λ (x : List ℕ). IsRequest reader.limit x Unfinished) r.bytes_are u)

  looked : (n : ℕ) (bytes : List ℕ) (came : Came) → n ≡ o.max_body_size → bytes ≡ bytes_of pieces → Looks n bytes (Some came) → Looks o.max_body_size (bytes_of pieces) (Some came)
  looked n bytes came limit_is bytes_are l = subst (λ (k : ℕ). Looks k (bytes_of pieces) (Some came)) limit_is (subst (λ (x : List ℕ). Looks n x (Some came)) bytes_are l)

  comes_at : (came : Came) → Looks o.max_body_size (bytes_of pieces) (Some came) → ComesTo o number pieces seen came
  comes_at (Whole request) l = (r.has_read, l)
  comes_at (Refused refusal) l = (r.has_read, l)
  comes_at (Over ended) l = absurd l
  comes_at Memory l = r.has_read

  -- where the bytes are no beginning of a request, the reading came to that
  pub comes_looked : (came : Came) → Looks reader.limit reader.bytes (Some came) → ComesTo o number pieces seen came
  comes_looked came l = comes_at came (looked reader.limit reader.bytes came r.limit_is r.bytes_are l)

  -- in other words
  pub reads_same : (seen' : History) → pieces' ≡ pieces → own number seen' ≡ [] → IsReading o number pieces' seen' reader begun
  reads_same seen' same none = record {
    has_read = record { read = subst (λ (x : List (List ℕ)). AreRead o.max_body_size x) (sym same) r.has_read.read; none = none };
    limit_is = r.limit_is;
    bytes_are = r.bytes_are ∙ sym (ap bytes_of same);
    has_begun = subst (λ (x : List (List ℕ)). HasBegun begun x) (sym same) r.has_begun;
  }

  module _ (opens : IsOpen o pieces) (next : List ℕ) (some : 0 < length next) (few : length next ≤ longest_piece) (joins : pieces' ≡ pieces ++ next ∷ []) where
    -- a piece was read
    pub has_read_next : HasRead o number pieces' seen
    has_read_next = record { read = subst (λ (x : List (List ℕ)). AreRead o.max_body_size x) (sym joins) (piece next r.has_read.read opens some few); none = r.has_read.none }

    -- and fed
    pub reads_next : (reader' : Fed) → reader' ≡ record { limit = reader.limit; bytes = reader.bytes ++ next } → IsReading o number pieces' seen reader' true
    reads_next reader' fed = record {
      has_read = has_read_next;
      limit_is = ap (λ (x : Fed). x.limit) fed ∙ r.limit_is;
      bytes_are = ap (λ (x : Fed). x.bytes) fed ∙ ap (λ (x : List ℕ). x ++ next) r.bytes_are ∙ sym (bytes_of-next pieces next) ∙ sym (ap bytes_of joins);
      has_begun = λ e. some_last pieces next (sym joins ∙ e);
    }

  module _ (opens : IsOpen o pieces) (same : pieces' ≡ pieces) where
    over : (seen' : History) (ended : EndedHttp) (began : ℕ) → IsExchange o began pieces (own number seen') [] ended → ListsBehindStop number seen' → IsExchangeIn o began number seen' pieces' [] ended
    over seen' ended began e lists = subst (λ (x : List (List ℕ)). IsExchangeIn o began number seen' x [] ended) (sym same) (record { read = r.has_read.read; exchange = e; lists = lists })

    ends : (b : Bool) (began : ℕ) → HasBegun b pieces → IsExchange o began pieces (own number seen) [] (ended_at b)
    ends true began h = (h, opens, record { no_own = r.has_read.none; no_out = refl })
    ends false began h = (h, record { no_own = r.has_read.none; no_out = refl })

    -- the source answered the end
    pub comes_end : ComesTo o number pieces' seen (Over (ended_at begun))
    comes_end = λ began. over seen (ended_at begun) began (ends begun began r.has_begun) (lists_none number seen r.has_read.none)

    -- a read failed
    pub comes_fault : ComesTo o number pieces' seen (Over ReadFault)
    comes_fault = λ began. over seen ReadFault began (opens, record { no_own = r.has_read.none; no_out = refl }) (lists_none number seen r.has_read.none)

    -- the daemon stops
    pub comes_closed : (seen' : History) → IsListing (own number seen') → ListsBehindStop number seen' → ComesTo o number pieces' seen' (Over Closed)
    comes_closed seen' l lists = λ began. over seen' Closed began (opens, l, refl) lists

-- a piece that was fed from the front of what was read into a buffer joins the bytes
pub fed_front : (old new : Fed) (size : ℕ) (buffer into rest : List ℕ) (count : ℕ) (result : Result (Unit {0}) NoMemory) → buffer ≡ take size (into ++ rest) → length into ≡ size
    → OnOk result (new ≡ record { limit = old.limit; bytes = old.bytes ++ take count buffer }) → is_err result ≡ false → new ≡ record { limit = old.limit; bytes = old.bytes ++ take count into }
fed_front old new size buffer into rest count (Err e) is all f ok = absurd (let c : true ≡ false = ok in cc)
fed_front old new size buffer into rest count (Ok x) is all f ok =
    let holding : List ℕ → Fed = λ b. record { limit = old.limit; bytes = old.bytes ++ take count b } in
    f ∙ ap holding (is ∙ subst (λ (k : ℕ). take k (into ++ rest) ≡ into) all (take-append_seam into rest))

-- a buffer that was written over from its front on is as long as before
pub kept_long : (size long : ℕ) (buffer into : List ℕ) → size ≡ length buffer → length buffer ≡ long → length (take size (into ++ drop (length into) buffer)) ≡ long
kept_long size long buffer into all is =
    let cut = length-take size (into ++ drop (length into) buffer) in
    let both = length-append into (drop (length into) buffer) in
    let rest = length-drop (length into) buffer in
    omega arith

-- what was read into a whole buffer is a piece
pub taken : (count size : ℕ) (into : List ℕ) → (0 < count) × (count ≤ size) → length into ≡ size → size ≡ longest_piece → (0 < length (take count into)) × (length (take count into) ≤ longest_piece)
taken count size into amount all whole =
    let long = length-take count into in
    (omega (arith, long, amount.0, amount.1, all), omega (arith, long, amount.1, whole))

-- a piece that is read was the front of what was left
pub read_stream : (pieces pieces' : List (List ℕ)) (left left' next : List ℕ) → pieces' ≡ pieces ++ next ∷ [] → left ≡ next ++ left' → bytes_of pieces' ++ left' ≡ bytes_of pieces ++ left
read_stream pieces pieces' left left' next p l =
    ap (λ x. bytes_of x ++ left') p ∙ ap (λ x. x ++ left') (bytes_of-next pieces next) ∙ append_assoc (bytes_of pieces) next left' ∙ ap (λ x. bytes_of pieces ++ x) (sym l)

-- the same stream in other words
pub same_stream : (pieces pieces' : List (List ℕ)) (left left' : List ℕ) → pieces' ≡ pieces → left' ≡ left → bytes_of pieces' ++ left' ≡ bytes_of pieces ++ left
same_stream pieces pieces' left left' p l = ap (λ x. bytes_of x ++ left') p ∙ ap (λ x. bytes_of pieces ++ x) l

-- what is given for bytes that are refused says why
pub looks_refused : (limit : ℕ) (bytes : List ℕ) (given : GotRequest) (r : Refusal) → Gives limit bytes given → Some r ≡ refused_by given → IsRefused limit bytes r
looks_refused limit bytes (got.Whole request) r g is = absurd (let e : Some r ≡ None = is in cc)
looks_refused limit bytes got.More r g is = absurd (let e : Some r ≡ None = is in cc)
looks_refused limit bytes got.BadHead r g is = record { outcome = BadHead; is_request = g; refuses = sym is }
looks_refused limit bytes got.NoLength r g is = record { outcome = NoLength; is_request = g; refuses = sym is }
looks_refused limit bytes got.TooBig r g is = record { outcome = TooBig; is_request = g; refuses = sym is }
looks_refused limit bytes got.Memory r g is = absurd (let e : Some r ≡ None = is in cc)
