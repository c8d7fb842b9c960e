-- The delay of a published message.
use Rattle.std.specs.Prelude.{ℕ, ◌&&◌, nat_le, if◌then◌else◌, ℤ, pos, neg_ℤ, List, length, drop, Option, Some, None, option_map, Result, Ok, Err}
use Rattle.std.specs.Str.{all_ascii_digits}
use Rattle.std.specs.Str.Parse.{starts_with_minus, digits_value}
use Rattle.nsq_base.specs.declared.options.Options.{Options}
use Rattle.broker_history.specs.Reply.{is_delay, span_of}
use Rattle.http_calls.specs.declared.refusal.Refusal.{Refusal}
use Rattle.http_calls.specs.declared.refusal.Refusal.TheVariants.{InvalidDefer}

-- the number that 1 to 18 decimal digits spell, with leading zeros or without, or None where these are none
abbrev pub decimal_in : (digits : List ℕ) → Option ℕ
decimal_in digits = if nat_le 1 (length digits) && nat_le (length digits) 18 && all_ascii_digits digits then Some (digits_value 10 digits) else None

-- the number that a word is, as in the TCP protocol: such digits, perhaps behind a minus sign
abbrev pub number_in : (word : List ℕ) → Option ℤ
number_in word = if starts_with_minus word then option_map (λ n. neg_ℤ (pos n)) (decimal_in (drop 1 word)) else option_map (λ n. pos n) (decimal_in word)

-- a delay in nanoseconds: the number is one of milliseconds that DPUB may have too, from 0 to the longest delay
abbrev pub delay_by : Options → Option ℤ → Result ℕ Refusal
delay_by o None = Err InvalidDefer
delay_by o (Some ms) = if is_delay o ms then Ok (span_of ms) else Err InvalidDefer

-- the delay in nanoseconds that is asked for: none where the argument isn't given
abbrev pub delay_in : Options → Option (List ℕ) → Result ℕ Refusal
delay_in o None = Ok 0
delay_in o (Some word) = delay_by o (number_in word)
