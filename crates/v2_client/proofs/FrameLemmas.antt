-- Lemmas on what stands at the front of a stream of frames.
use Rattle.std.proofs.Common.{◌≡◌, ℕ, ◌+◌, ◌-◌, ◌≤◌, List, ◌++◌, length, take, drop, refl, sym, ap, subst, ◌∙◌, arith, append_assoc, length-append, length-take, take-append-drop}
use Rattle.std.proofs.lemmas.List.{drop-drop}
use Rattle.v2_frame.specs.declared.frame.Frame.{Frame}
use Rattle.v2_frame.specs.declared.frame.FrameKind.{FrameKind}
use Rattle.v2_frame.specs.declared.frame.FrameKind.TheVariants as kind
use Rattle.v2_frame.specs.Command.{size4}
use Rattle.v2_frame.specs.Judging.{HasSize}
use Rattle.v2_frame.specs.Written.{type_of, frame_bytes}
use Rattle.v2_frame.proofs.SizeLemmas.{size_unique, size_long, size_more}
use Rattle.v2_frame.proofs.LineLemmas.{append_split}
use Rattle.v2_client.specs.Frames.{BeginsWithFrame, IsBadFrame, bad_size, bad_type, IsOpenFrame, open_size, open_type, open_data}

pub type_small : (k : FrameKind) → type_of k ≤ 2
type_small kind.Response = omega arith
type_small kind.Error = omega arith
type_small kind.Message = omega arith

type_same : (a b : FrameKind) → type_of a ≡ type_of b → a ≡ b
type_same kind.Response kind.Response e = refl
type_same kind.Response kind.Error e = absurd (omega arith)
type_same kind.Response kind.Message e = absurd (omega arith)
type_same kind.Error kind.Response e = absurd (omega arith)
type_same kind.Error kind.Error e = refl
type_same kind.Error kind.Message e = absurd (omega arith)
type_same kind.Message kind.Response e = absurd (omega arith)
type_same kind.Message kind.Error e = absurd (omega arith)
type_same kind.Message kind.Message e = refl

-- a size and a type within the limit, and as many bytes as the size says, are a frame
pub front_whole : (limit : ℕ) (bytes rest text : List ℕ) (size number n : ℕ) (k : FrameKind) → HasSize bytes size rest → HasSize rest number text → number ≡ type_of k → size ≡ 4 + n → size ≤ limit → n ≤ length text
    → (8 ≤ 8 + n) × (8 + n ≤ length bytes) × BeginsWithFrame limit bytes (record { kind = k; body = take (8 + n - 8) (drop 8 bytes) }) (drop (8 + n) bytes)
front_whole limit bytes rest text size number n k h j t s within there =
    let behind : drop 8 bytes ≡ text = ap (drop 8) h.whole ∙ ap (λ (x : List ℕ). drop 8 (size4 size ++ x)) j.whole in
    let body = take (8 + n - 8) (drop 8 bytes) in
    let same : body ≡ take n text = ap (take (8 + n - 8)) behind ∙ ap (λ (m : ℕ). take m text) (omega arith) in
    let after : drop (8 + n) bytes ≡ drop n text = sym (drop-drop n 8 bytes) ∙ ap (drop n) behind in
    let long : length body ≡ n = ap length same ∙ simp length-take (omega arith) in
    let parts : text ≡ body ++ drop (8 + n) bytes = sym (take-append-drop n text) ∙ ap (λ (x : List ℕ). x ++ drop n text) (sym same) ∙ ap (λ (x : List ℕ). body ++ x) (sym after) in
    let sized : size ≡ 4 + length body = omega arith in (
      omega arith,
      omega (arith, size_long h, size_long j),
      record {
        whole = h.whole ∙ ap (λ (x : List ℕ). size4 size ++ x) (j.whole ∙ ap (λ (x : List ℕ). size4 number ++ x) parts)
            ∙ ap (λ (m : ℕ). size4 m ++ (size4 number ++ (body ++ drop (8 + n) bytes))) sized
            ∙ ap (λ (m : ℕ). size4 (4 + length body) ++ (size4 m ++ (body ++ drop (8 + n) bytes))) t;
        within = omega arith;
        fits = omega (arith, h.fits);
      },
    )

-- the size and the type of a frame
pub frame_size : {limit : ℕ} {bytes rest : List ℕ} {f : Frame} → BeginsWithFrame limit bytes f rest → HasSize bytes (4 + length f.body) (size4 (type_of f.kind) ++ (f.body ++ rest))
frame_size h = record { whole = h.whole; fits = h.fits }

pub frame_type : (f : Frame) (rest : List ℕ) → HasSize (size4 (type_of f.kind) ++ (f.body ++ rest)) (type_of f.kind) (f.body ++ rest)
frame_type f rest = record { whole = refl; fits = omega (arith, type_small f.kind) }

-- more bytes behind a frame
pub frame_more : {limit : ℕ} {bytes rest : List ℕ} {f : Frame} (more : List ℕ) → BeginsWithFrame limit bytes f rest → BeginsWithFrame limit (bytes ++ more) f (rest ++ more)
frame_more {rest = rest} {f = f} more h =
    record { whole = ap (λ (x : List ℕ). x ++ more) h.whole ∙ append_assoc (frame_bytes f.kind f.body) rest more; within = h.within; fits = h.fits }

-- how long it is
pub frame_long : {limit : ℕ} {bytes rest : List ℕ} {f : Frame} → BeginsWithFrame limit bytes f rest → length bytes ≡ length (frame_bytes f.kind f.body) + length rest
frame_long {rest = rest} {f = f} h = ap length h.whole ∙ length-append (frame_bytes f.kind f.body) rest

-- bytes begin with one frame
pub frame_unique : {limit : ℕ} {bytes rest left : List ℕ} {f g : Frame} → BeginsWithFrame limit bytes f rest → BeginsWithFrame limit bytes g left → (f ≡ g) × (rest ≡ left)
frame_unique {rest = rest} {left = left} {f = f} {g = g} h k =
    let sizes = size_unique (frame_size h) (frame_size k) in
    let types = size_unique (frame_type f rest) (subst (λ (x : List ℕ). HasSize x (type_of g.kind) (g.body ++ left)) (sym sizes.1) (frame_type g left)) in
    let parts : (f.body ≡ g.body) × (rest ≡ left) = append_split f.body g.body rest left (omega (arith, sizes.0)) types.1 in
    let kinds : f.kind ≡ g.kind = type_same f.kind g.kind types.0 in
    (ap (λ (k : FrameKind). record { kind = k; body = f.body }) kinds ∙ ap (λ (b : List ℕ). record { kind = g.kind; body = b }) parts.0, parts.1)

-- what stands behind the size of a whole frame is its type
type_there : {limit size number : ℕ} {bytes rest after left : List ℕ} {f : Frame} → BeginsWithFrame limit bytes f rest → HasSize bytes size after → HasSize after number left → (number ≡ type_of f.kind) × (left ≡ f.body ++ rest)
type_there {number = number} {rest = rest} {left = left} {f = f} h s t =
    size_unique (subst (λ (x : List ℕ). HasSize x number left) (size_unique s (frame_size h)).1 t) (frame_type f rest)

-- a whole frame is no open one, and has no bad field
pub frame_not_open : {limit : ℕ} {bytes rest : List ℕ} {f : Frame} → BeginsWithFrame limit bytes f rest → IsOpenFrame limit bytes → ⊥
frame_not_open h (open_size few) = omega (arith, size_long (frame_size h))
frame_not_open {rest = rest} {f = f} h (open_type {rest = after} s good few) =
    omega (arith, ap length (size_unique s (frame_size h)).1, size_long (frame_type f rest))
frame_not_open {rest = rest} {f = f} h (open_data {left = left} s good t small few) =
    omega (arith, (size_unique s (frame_size h)).0, ap length (type_there h s t).1, length-append f.body rest)

pub frame_not_bad : {limit at : ℕ} {bytes rest : List ℕ} {f : Frame} → BeginsWithFrame limit bytes f rest → IsBadFrame limit bytes at → ⊥
frame_not_bad h (bad_size s wrong e) = omega (arith, (size_unique s (frame_size h)).0, h.within)
frame_not_bad {f = f} h (bad_type s good t big e) = omega (arith, (type_there h s t).0, type_small f.kind)

-- a bad field stands at one place, and not in an open frame
pub bad_unique : {limit at other : ℕ} {bytes : List ℕ} → IsBadFrame limit bytes at → IsBadFrame limit bytes other → at ≡ other
bad_unique (bad_size s wrong e) (bad_size t worse f) = e ∙ sym f
bad_unique (bad_size s wrong e) (bad_type t good u big f) = absurd (omega (arith, (size_unique s t).0, good.room, good.within))
bad_unique (bad_type s good u big e) (bad_size t wrong f) = absurd (omega (arith, (size_unique s t).0, good.room, good.within))
bad_unique (bad_type s good u big e) (bad_type t fine v more f) = e ∙ sym f

pub bad_not_open : {limit at : ℕ} {bytes : List ℕ} → IsBadFrame limit bytes at → IsOpenFrame limit bytes → ⊥
bad_not_open (bad_size s wrong e) (open_size few) = omega (arith, size_long s)
bad_not_open (bad_size s wrong e) (open_type t good few) = omega (arith, (size_unique s t).0, good.room, good.within)
bad_not_open (bad_size s wrong e) (open_data t good u small few) = omega (arith, (size_unique s t).0, good.room, good.within)
bad_not_open (bad_type s good t big e) (open_size few) = omega (arith, size_long s)
bad_not_open (bad_type s good t big e) (open_type u fine few) = omega (arith, ap length (size_unique s u).1, size_long t)
bad_not_open (bad_type {number = number} {left = left} s good t big e) (open_data u fine v small few) =
    omega (arith, (size_unique (subst (λ (x : List ℕ). HasSize x number left) (size_unique s u).1 t) v).0)

-- a bad field stays bad with more bytes behind it
pub bad_more : {limit at : ℕ} {bytes : List ℕ} (more : List ℕ) → IsBadFrame limit bytes at → IsBadFrame limit (bytes ++ more) at
bad_more more (bad_size s wrong e) = bad_size (size_more more s) wrong e
bad_more more (bad_type s good t big e) = bad_type (size_more more s) good (size_more more t) big e
