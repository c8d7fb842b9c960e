-- What the calls of a reader of frames answer.
use Rattle.std.specs.Prelude.{◌≡◌, ℕ, ◌+◌, ◌-◌, ◌≤◌, List, [], ◌∷◌, ◌++◌, length, take, drop}
use Rattle.v2_frame.specs.declared.frame.Frame.{Frame}
use Rattle.v2_frame.specs.Script.{told_place}
use Rattle.v2_frame.specs.Written.{frame_bytes}
use Rattle.v2_client.specs.declared.frame_reader.Front.{Front}
use Rattle.v2_client.specs.declared.frame_reader.Front.TheVariants as front
use Rattle.v2_client.specs.declared.frame_reader.GotFrame.{GotFrame}
use Rattle.v2_client.specs.declared.frame_reader.GotFrame.TheVariants.{Whole, More, Bad, Memory}
use Rattle.v2_client.specs.Frames.{BeginsWithFrame, IsBadFrame, IsOpenFrame, Unfinished, Bad as BadAt, AreFrames, FramesHeld, HasGiven}

-- what stands at the front: a frame of a type that ends at a place, an open one, or a bad field at a place
abbrev pub IsFront : ℕ → List ℕ → Front → Type 0
IsFront limit bytes (front.Whole kind end) = (8 ≤ end) × (end ≤ length bytes) × BeginsWithFrame limit bytes (record { kind = kind; body = take (end - 8) (drop 8 bytes) }) (drop end bytes)
IsFront limit bytes front.Open = IsOpenFrame limit bytes
IsFront limit bytes (front.Bad at) = IsBadFrame limit bytes at × (at ≤ 4)

-- a frame is taken from the front, or nothing changes: where no whole frame stands there, and where there is no memory for it
abbrev pub Gives : FramesHeld → FramesHeld → GotFrame → Type 0
Gives old new (Whole frame) = BeginsWithFrame old.limit old.bytes frame new.bytes × (new.limit ≡ old.limit) × (new.place ≡ told_place (old.place + length (frame_bytes frame.kind frame.body)))
Gives old new More = IsOpenFrame old.limit old.bytes × (new ≡ old)
Gives old new (Bad at) = ((n : ℕ) × IsBadFrame old.limit old.bytes n × (at ≡ told_place (old.place + n))) × (new ≡ old)
Gives old new Memory = ((frame : Frame) × (rest : List ℕ) × BeginsWithFrame old.limit old.bytes frame rest) × (new ≡ old)

-- whatever the pieces were: the frame is the next of all bytes fed, or the frames given out are all of them and what stands
-- behind them is unfinished or bad at the place
abbrev pub GaveOf : FramesHeld → List ℕ → List Frame → GotFrame → Type 0
GaveOf new fed frames (Whole frame) = HasGiven new fed (frames ++ frame ∷ [])
GaveOf new fed frames More = HasGiven new fed frames × AreFrames new.limit fed frames Unfinished
GaveOf new fed frames (Bad at) = HasGiven new fed frames × AreFrames new.limit fed frames (BadAt at)
GaveOf new fed frames Memory = HasGiven new fed frames
