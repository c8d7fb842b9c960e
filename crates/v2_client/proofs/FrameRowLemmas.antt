-- Lemmas on rows of frames, and on what a reader of frames gave out.
use Rattle.std.proofs.Common.{◌≡◌, ℕ, ◌+◌, ◌-◌, ◌≤◌, List, [], ◌∷◌, ◌++◌, length, take, drop, refl, sym, ap, subst, ◌∙◌, arith, length-append, length-drop}
use Rattle.std.proofs.lemmas.List.{append-nil, drop-drop}
use Rattle.v2_frame.specs.declared.frame.Frame.{Frame}
use Rattle.v2_frame.specs.declared.frame.FrameKind.{FrameKind}
use Rattle.v2_frame.specs.Script.{told_place}
use Rattle.v2_frame.specs.Written.{frame_bytes}
use Rattle.v2_client.specs.declared.frame_reader.GotFrame.{GotFrame}
use Rattle.v2_client.specs.declared.frame_reader.GotFrame.TheVariants as got
use Rattle.v2_client.specs.Frames.{BeginsWithFrame, IsBadFrame, FrameRow, none, more, FrameRest, Unfinished, Bad, FramesEnd, OneRowOfFrames, FramesGoOn, FramesHeld, HasGiven}
use Rattle.v2_client.specs.FrameReads.{Gives, GaveOf}
use Rattle.v2_client.proofs.FrameLemmas.{frame_more, frame_long, frame_unique, frame_not_open, frame_not_bad, bad_unique, bad_not_open, bad_more}

-- a further piece joins what is left
pub row_fed : {limit : ℕ} {bytes left : List ℕ} {frames : List Frame} (piece : List ℕ) → FrameRow limit bytes frames left → FrameRow limit (bytes ++ piece) frames (left ++ piece)
row_fed piece none = none
row_fed piece (more h row) = more (frame_more piece h) (row_fed piece row)

-- and the next frame joins the row
pub row_next : {limit : ℕ} {bytes left after : List ℕ} {frames : List Frame} {f : Frame} → FrameRow limit bytes frames left → BeginsWithFrame limit left f after → FrameRow limit bytes (frames ++ f ∷ []) after
row_next none h = more h none
row_next (more g row) h = more g (row_next row h)

pub row_long : {limit : ℕ} {bytes left : List ℕ} {frames : List Frame} → FrameRow limit bytes frames left → length left ≤ length bytes
row_long none = omega arith
row_long (more h row) = omega (arith, row_long row, frame_long h)

-- at an end no frame stands
not_ended : (limit place : ℕ) (bytes after : List ℕ) (f : Frame) (rest : FrameRest) → FramesEnd limit place bytes rest → BeginsWithFrame limit bytes f after → ⊥
not_ended limit place bytes after f Unfinished end h = frame_not_open h end
not_ended limit place bytes after f (Bad at) end h = frame_not_bad h end.1

-- an end at one place is one
end_unique : (limit place : ℕ) (bytes : List ℕ) (rest other : FrameRest) → FramesEnd limit place bytes rest → FramesEnd limit place bytes other → rest ≡ other
end_unique limit place bytes Unfinished Unfinished e f = refl
end_unique limit place bytes Unfinished (Bad at) e f = absurd (bad_not_open f.1 e)
end_unique limit place bytes (Bad at) Unfinished e f = absurd (bad_not_open e.1 f)
end_unique limit place bytes (Bad at) (Bad other) e f =
    let same : at ≡ other = e.2 ∙ ap (λ (n : ℕ). told_place (place + n)) (bad_unique e.1 f.1) ∙ sym f.2 in
    ap Bad same

-- two rows to ends are one
rows_same : (limit p q : ℕ) {bytes left over : List ℕ} {frames others : List Frame} (rest other : FrameRest) → FrameRow limit bytes frames left → FramesEnd limit p left rest → FrameRow limit bytes others over → FramesEnd limit q over other
    → (frames ≡ others) × (left ≡ over)
rows_same limit p q rest other none e none f = (refl, refl)
rows_same limit p q rest other none e (more h row) f = absurd (not_ended limit p _ _ _ rest e h)
rows_same limit p q rest other (more h row) e none f = absurd (not_ended limit q _ _ _ other f h)
rows_same limit p q rest other (more {rest = a} {frame = x} {frames = xs} h row) e (more {rest = b} {left = over} {frame = y} {frames = ys} k col) f =
    let same = frame_unique h k in
    let tails = rows_same limit p q rest other row e (subst (λ (z : List ℕ). FrameRow limit z ys over) (sym same.1) col) f in
    (ap (λ (z : Frame). z ∷ xs) same.0 ∙ ap (λ (z : List Frame). y ∷ z) tails.0, tails.1)

-- a stream has one row of frames, and one rest
pub one_row : OneRowOfFrames
one_row limit bytes frames others rest other a b =
    let same = rows_same limit (length bytes - length a.left) (length bytes - length b.left) rest other a.row a.ends b.row b.ends in
    (same.0, end_unique limit (length bytes - length b.left) b.left rest other (subst (λ (x : List ℕ). FramesEnd limit (length bytes - length x) x rest) same.1 a.ends) b.ends)

-- of two rows at one front the one to an end begins with the other
rows_front : (limit q : ℕ) {bytes left over : List ℕ} {frames longer : List Frame} (other : FrameRest) → FrameRow limit bytes frames left → FrameRow limit bytes longer over → FramesEnd limit q over other
    → (behind : List Frame) × (longer ≡ frames ++ behind) × FrameRow limit left behind over
rows_front limit q {longer = longer} other none col f = (longer, refl, col)
rows_front limit q other (more h row) none f = absurd (not_ended limit q _ _ _ other f h)
rows_front limit q other (more {frame = x} {frames = xs} h row) (more {left = over} {frame = y} {frames = ys} k col) f =
    let same = frame_unique h k in
    let found = rows_front limit q other row (subst (λ (z : List ℕ). FrameRow limit z ys over) (sym same.1) col) f in
    (found.0, ap (λ (z : Frame). z ∷ ys) (sym same.0) ∙ ap (λ (z : List Frame). x ∷ z) found.1, found.2)

-- behind a bad field no row goes on
bad_row : (limit n : ℕ) {bytes left : List ℕ} {frames : List Frame} → IsBadFrame limit bytes n → FrameRow limit bytes frames left → (frames ≡ []) × (left ≡ bytes)
bad_row limit n bad none = (refl, refl)
bad_row limit n bad (more h row) = absurd (frame_not_bad h bad)

-- the row of more bytes begins with that of fewer, and a bad field stays
pub rows_go_on : FramesGoOn
rows_go_on limit bytes piece frames longer rest later a b =
    let place = length (bytes ++ piece) - length b.left in
    let found = rows_front limit place later (row_fed piece a.row) b.row b.ends in
    record {
      behind = found.0;
      whole = found.1;
      stays = λ at e.
          let end : (n : ℕ) × IsBadFrame limit a.left n × (at ≡ told_place ((length bytes - length a.left) + n)) = subst (λ (r : FrameRest). FramesEnd limit (length bytes - length a.left) a.left r) e a.ends in
          let alone = bad_row limit end.0 (bad_more piece end.1) found.2 in
          let same : length (bytes ++ piece) - length b.left ≡ length bytes - length a.left = omega (arith, ap length alone.1, length-append bytes piece, length-append a.left piece) in
          let there : FramesEnd limit place b.left (Bad at) =
          (end.0, subst (λ (x : List ℕ). IsBadFrame limit x end.0) (sym alone.1) (bad_more piece end.1), end.2 ∙ ap (λ (p : ℕ). told_place (p + end.0)) (sym same)) in
          (found.1 ∙ ap (λ (z : List Frame). frames ++ z) alone.0 ∙ append-nil frames, end_unique limit place b.left later (Bad at) b.ends there ∙ sym e);
    }

-- the bytes that were fed go on, and the frames given out stay
pub given_fed : (old new : FramesHeld) (piece : List ℕ) → new ≡ record old { bytes = old.bytes ++ piece } → (fed : List ℕ) (frames : List Frame) → HasGiven old fed frames → HasGiven new (fed ++ piece) frames
given_fed old new piece e fed frames h =
    subst (λ (x : FramesHeld). HasGiven x (fed ++ piece) frames) (sym e) (record {
      row = row_fed piece h.row;
      place = h.place ∙ ap told_place (omega (arith, length-append fed piece, length-append old.bytes piece));
    })

told_on : (a n : ℕ) → told_place (told_place a + n) ≡ told_place (a + n)
told_on a n = omega arith

-- a frame taken is the next of all
given_whole : (old new : FramesHeld) (f : Frame) → Gives old new (got.Whole f) → (fed : List ℕ) (frames : List Frame) → HasGiven old fed frames → GaveOf new fed frames (got.Whole f)
given_whole old new f g fed frames h =
    let long = frame_long g.0 in
    let within = row_long h.row in
    record {
      row = subst (λ (n : ℕ). FrameRow n fed (frames ++ f ∷ []) new.bytes) (sym g.1) (row_next h.row g.0);
      place = g.2 ∙ ap (λ (n : ℕ). told_place (n + length (frame_bytes f.kind f.body))) h.place ∙ told_on (length fed - length old.bytes) (length (frame_bytes f.kind f.body)) ∙ ap told_place (omega arith);
    }

-- where nothing whole stands, the frames given out are all
given_more : (old new : FramesHeld) → Gives old new got.More → (fed : List ℕ) (frames : List Frame) → HasGiven old fed frames → GaveOf new fed frames got.More
given_more old new g fed frames h = subst (λ (x : FramesHeld). GaveOf x fed frames got.More) (sym g.1) (h, record { left = old.bytes; row = h.row; ends = g.0 })

given_bad : (old new : FramesHeld) (at : ℕ) → Gives old new (got.Bad at) → (fed : List ℕ) (frames : List Frame) → HasGiven old fed frames → GaveOf new fed frames (got.Bad at)
given_bad old new at g fed frames h =
    subst (λ (x : FramesHeld). GaveOf x fed frames (got.Bad at)) (sym g.1) (
      h,
      record {
        left = old.bytes;
        row = h.row;
        ends = (g.0.0, g.0.1, g.0.2 ∙ ap (λ (n : ℕ). told_place (n + g.0.0)) h.place ∙ told_on (length fed - length old.bytes) g.0.0);
      },
    )

given_memory : (old new : FramesHeld) → new ≡ old → (fed : List ℕ) (frames : List Frame) → HasGiven old fed frames → HasGiven new fed frames
given_memory old new e fed frames h = subst (λ (x : FramesHeld). HasGiven x fed frames) (sym e) h

-- what was answered is that of all bytes fed
pub given_on : (old new : FramesHeld) (result : GotFrame) → Gives old new result → (fed : List ℕ) (frames : List Frame) → HasGiven old fed frames → GaveOf new fed frames result
given_on old new (got.Whole f) g = given_whole old new f g
given_on old new got.More g = given_more old new g
given_on old new (got.Bad at) g = given_bad old new at g
given_on old new got.Memory g = given_memory old new g.1

-- a frame at the front of what is held is taken
pub frame_taken : (limit place start end told : ℕ) (items bytes body : List ℕ) (kind : FrameKind) → bytes ≡ drop start items
    → (8 ≤ end) × (end ≤ length bytes) × BeginsWithFrame limit bytes (record { kind = kind; body = take (end - 8) (drop 8 bytes) }) (drop end bytes) → body ≡ take (end - 8) (drop 8 bytes) → told ≡ told_place (place + end)
    → Gives (record { limit = limit; place = place; bytes = drop start items }) (record { limit = limit; place = told; bytes = drop (start + end) items }) (got.Whole (record { kind = kind; body = body }))
frame_taken limit place start end told items bytes body kind s front b t =
    let f : Frame = record { kind = kind; body = body } in
    let here : BeginsWithFrame limit bytes f (drop end bytes) = subst (λ (x : List ℕ). BeginsWithFrame limit bytes (record { kind = kind; body = x }) (drop end bytes)) (sym b) front.2 in
    let after : drop end bytes ≡ drop (start + end) items = ap (drop end) s ∙ drop-drop end start items in
    let long : end ≡ length (frame_bytes kind body) = omega (arith, front.1, frame_long here, length-drop end bytes) in (
      subst (λ (x : List ℕ). BeginsWithFrame limit x f (drop (start + end) items)) s (subst (λ (x : List ℕ). BeginsWithFrame limit bytes f x) after here),
      refl,
      t ∙ ap (λ (n : ℕ). told_place (place + n)) long,
    )
