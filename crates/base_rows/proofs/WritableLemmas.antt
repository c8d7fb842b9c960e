-- A command that was read, where no size is above 2^31, can be written.
use Rattle.std.proofs.Common.{◌≡◌, ℕ, zero, suc, ◌^◌, ◌<◌, Bool, true, false, cond, ℤ, pos, neg_ℤ, nat_abs, List, [], ◌∷◌, length, refl, ap, ◌∙◌, arith, inl, inr}
use Rattle.std.specs.List.{AllByRecursion}
use Rattle.std.specs.Str.Parse.{starts_with_minus}
use Rattle.v2_frame.specs.declared.command.Command.{Command}
use Rattle.v2_frame.specs.declared.command.Command.TheVariants as command
use Rattle.v2_frame.specs.declared.fault.Limits.{Limits}
use Rattle.v2_frame.specs.Line.{IsNumber, without_minus}
use Rattle.v2_frame.specs.Heading.{Heading, Says, Identify, Sub, Pub, Mpub, Dpub, Rdy, Fin, Req, Touch, Cls, Nop}
use Rattle.v2_frame.specs.Command.{heading_of, IsBody, IsWithin, IsShortNumber, Spells}
use Rattle.v2_frame.specs.Judging.{Whole, Judged}
use Rattle.v2_frame.proofs.PlaceLemmas.{digits_small}
use Rattle.v2_frame.proofs.VerdictLemmas.{judged_begins}
use Rattle.v2_client.specs.Writing.{CanWrite, CanWriteBehind, CanWriteText, CanWriteWords}

-- a sign leaves the size as it is
abs_signed : (minus : Bool) (size : ℕ) → nat_abs (cond minus (neg_ℤ (pos size)) (pos size)) ≡ size
abs_signed false size = refl
abs_signed true zero = refl
abs_signed true (suc size) = refl

number_short : (word : List ℕ) (number : ℤ) → IsNumber word number → IsShortNumber number
number_short word number h =
    let size : nat_abs number ≡ h.size = ap nat_abs h.value ∙ abs_signed (starts_with_minus word) h.size in
    omega (arith, size, h.digits.value, digits_small 18 (without_minus word) h.digits.numeral.1 h.digits.bound)

words_can_write : (words : List (List ℕ)) (heading : Heading) → Says words heading → CanWriteWords heading
words_can_write words Identify s = tt
words_can_write words (Sub topic channel) s = tt
words_can_write words (Pub topic) s = tt
words_can_write words (Mpub topic) s = tt
words_can_write words (Dpub topic delay) s = number_short s.0 delay s.3
words_can_write words (Rdy count) (inl s) = omega (arith, ap nat_abs s.1)
words_can_write words (Rdy count) (inr s) = number_short s.0 count s.2
words_can_write words (Fin id) s = s.1.allowed
words_can_write words (Req id delay) s = (s.2.allowed, number_short s.0 delay s.3)
words_can_write words (Touch id) s = s.1.allowed
words_can_write words Cls s = tt
words_can_write words Nop s = tt

text_can_write : (most : ℕ) (text : List ℕ) → most < 2 ^ 31 → IsBody most text → CanWriteText text
text_can_write most text small h = record { some = h.positive; fits = omega (arith, h.within, small) }

all_some : (most : ℕ) (bodies : List (List ℕ)) → AllByRecursion (IsBody most) bodies → AllByRecursion (λ (body : List ℕ). 0 < length body) bodies
all_some most [] h = tt
all_some most (body ∷ bodies) h = (h.0.positive, all_some most bodies h.1)

behind_can_write : (limits : Limits) (c : Command) → limits.msg < 2 ^ 31 → limits.body < 2 ^ 31 → IsWithin limits c → CanWriteBehind c
behind_can_write limits (command.Identify body) msg most h = text_can_write limits.body body most h
behind_can_write limits (command.Sub topic channel) msg most h = tt
behind_can_write limits (command.Pub topic body) msg most h = text_can_write limits.msg body msg h
behind_can_write limits (command.Mpub topic bodies) msg most h = record { some = h.0; each = all_some limits.msg bodies h.1; fits = omega (arith, h.2.within, most) }
behind_can_write limits (command.Dpub topic delay body) msg most h = text_can_write limits.msg body msg h
behind_can_write limits (command.Rdy count) msg most h = tt
behind_can_write limits (command.Fin id) msg most h = tt
behind_can_write limits (command.Req id delay) msg most h = tt
behind_can_write limits (command.Touch id) msg most h = tt
behind_can_write limits command.Cls msg most h = tt
behind_can_write limits command.Nop msg most h = tt

pub judged_can_write : (limits : Limits) (bytes rest : List ℕ) (c : Command) → limits.msg < 2 ^ 31 → limits.body < 2 ^ 31 → Judged limits bytes (Whole c rest) → CanWrite c
judged_can_write limits bytes rest c msg most judged =
    let spells : Spells limits _ c = (judged_begins judged).spells in
    record { words = words_can_write _ (heading_of c) spells.says.says; behind = behind_can_write limits c msg most spells.within }
