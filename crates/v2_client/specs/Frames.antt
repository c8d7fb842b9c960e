-- The frames of a stream: those that stand in a row, and what stands behind them.
use Rattle.std.specs.Prelude.{◌≡◌, ◌⊎◌, ℕ, ◌+◌, ◌-◌, ◌^◌, ◌<◌, ◌≤◌, List, [], ◌∷◌, ◌++◌, length}
use Rattle.v2_frame.specs.declared.frame.Frame.{Frame}
use Rattle.v2_frame.specs.Judging.{HasSize}
use Rattle.v2_frame.specs.Script.{told_place}
use Rattle.v2_frame.specs.Written.{frame_bytes}

-- a size that a reader of frames takes: that of the type at least, and at most the limit
pub record IsFrameSize (limit size : ℕ) : Type 0 where
  pub room : 4 ≤ size
  pub within : size ≤ limit

-- the bytes begin with the frame, whose size is within the limit, and go on with the rest
pub record BeginsWithFrame (limit : ℕ) (bytes : List ℕ) (frame : Frame) (rest : List ℕ) : Type 0 where
  pub whole : bytes ≡ frame_bytes frame.kind frame.body ++ rest
  pub within : 4 + length frame.body ≤ limit
  pub fits : 4 + length frame.body < 2 ^ 32

-- a bad field at the front, and its place from the first byte of the size: a size below 4 or above the limit, or a type above 2
pub data IsBadFrame (limit : ℕ) (bytes : List ℕ) : ℕ → Type 0 where
  bad_size : {size at : ℕ} {rest : List ℕ} → HasSize bytes size rest → (size < 4) ⊎ (limit < size) → at ≡ 0 → IsBadFrame limit bytes at
  bad_type : {size number at : ℕ} {rest left : List ℕ} → HasSize bytes size rest → IsFrameSize limit size → HasSize rest number left → 2 < number → at ≡ 4 → IsBadFrame limit bytes at

-- neither a whole frame nor a bad field: fewer bytes than a size, than a size and a type, or than the size says
pub data IsOpenFrame (limit : ℕ) (bytes : List ℕ) : Type 0 where
  open_size : length bytes < 4 → IsOpenFrame limit bytes
  open_type : {size : ℕ} {rest : List ℕ} → HasSize bytes size rest → IsFrameSize limit size → length rest < 4 → IsOpenFrame limit bytes
  open_data : {size number : ℕ} {rest left : List ℕ} → HasSize bytes size rest → IsFrameSize limit size → HasSize rest number left → number ≤ 2 → 4 + length left < size → IsOpenFrame limit bytes

-- these frames stand in a row at the front of the bytes, and the rest is left
pub data FrameRow (limit : ℕ) : List ℕ → List Frame → List ℕ → Type 0 where
  none : {bytes : List ℕ} → FrameRow limit bytes [] bytes
  more : {bytes rest left : List ℕ} {frame : Frame} {frames : List Frame} → BeginsWithFrame limit bytes frame rest → FrameRow limit rest frames left → FrameRow limit bytes (frame ∷ frames) left

-- what stands behind the frames: nothing or the beginning of a frame, or a bad field at a place
pub data FrameRest : Type 0 where
  Unfinished : FrameRest
  Bad : (at : ℕ) → FrameRest

-- what the bytes at a place of the stream are, at the start of a frame
abbrev pub FramesEnd : ℕ → ℕ → List ℕ → FrameRest → Type 0
FramesEnd limit place bytes Unfinished = IsOpenFrame limit bytes
FramesEnd limit place bytes (Bad at) = (n : ℕ) × IsBadFrame limit bytes n × (at ≡ told_place (place + n))

-- the frames of a stream: as many as are whole, in a row, and what stands behind them
pub record AreFrames (limit : ℕ) (bytes : List ℕ) (frames : List Frame) (rest : FrameRest) : Type 0 where
  pub left : List ℕ
  pub row : FrameRow limit bytes frames left
  pub ends : FramesEnd limit (length bytes - length left) left rest

-- a stream has one row of frames, and one rest
abbrev pub OneRowOfFrames : Type 0
OneRowOfFrames = (limit : ℕ) (bytes : List ℕ) (frames others : List Frame) (rest other : FrameRest) → AreFrames limit bytes frames rest → AreFrames limit bytes others other → (frames ≡ others) × (rest ≡ other)

-- the longer list of frames begins with the shorter, and where a bad field stands behind the shorter the two are equal
pub record FramesGoFurther (frames : List Frame) (rest : FrameRest) (longer : List Frame) (later : FrameRest) : Type 0 where
  pub behind : List Frame
  pub whole : longer ≡ frames ++ behind
  pub stays : (at : ℕ) → rest ≡ Bad at → (longer ≡ frames) × (later ≡ rest)

-- the frames of more bytes begin with those of fewer, and a bad field stays
abbrev pub FramesGoOn : Type 0
FramesGoOn = (limit : ℕ) (bytes piece : List ℕ) (frames longer : List Frame) (rest later : FrameRest) → AreFrames limit bytes frames rest → AreFrames limit (bytes ++ piece) longer later → FramesGoFurther frames rest longer later

-- what a reader of frames holds: its limit, the place of its next byte as it is told, and the bytes that were fed and not given out
pub record FramesHeld : Type 0 where
  pub limit : ℕ
  pub place : ℕ
  pub bytes : List ℕ

-- of all bytes fed so far these frames were given out, and the reader holds what stands behind them
pub record HasGiven (held : FramesHeld) (fed : List ℕ) (frames : List Frame) : Type 0 where
  pub row : FrameRow held.limit fed frames held.bytes
  pub place : held.place ≡ told_place (length fed - length held.bytes)
