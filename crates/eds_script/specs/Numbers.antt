-- Numbers of 1 to 19 digits, and the time of a tick.
use Rattle.std.specs.Prelude.{ℕ, ◌+◌, ◌^◌, ◌&&◌, nat_le, nat_lt, List, length, Bool, Option, Result, Ok}
use Rattle.std.specs.Char.{is_ascii_digit}
use Rattle.std.specs.List.{list_all}
use Rattle.eds_base.specs.Answering.{◌>>=◌, or_stop}
use Rattle.eds_base.specs.Numbers.{decimal_value}
use Rattle.eds_base.specs.Reading.{only}
use Rattle.eds_script.specs.Stops.{unless_stop}
use Rattle.eds_script.specs.declared.why.LineWhy.{LineWhy}
use Rattle.eds_script.specs.declared.why.LineWhy.TheVariants as why

-- 1 to 19 digits
abbrev pub are_digits : List ℕ → Bool
are_digits text = nat_lt 0 (length text) && (nat_le (length text) 19 && list_all is_ascii_digit text)

-- the number that 1 to 19 digits spell
abbrev pub number_of : List ℕ → Option ℕ
number_of text = only (are_digits text) (decimal_value 0 text)

-- a tick of at most 10^18 ns that ends, after so much time, by 2^63 - 1 ns
abbrev pub is_in_time : ℕ → ℕ → Bool
is_in_time time n = nat_le n (10 ^ 18) && nat_lt (time + n) (2 ^ 63)

-- how much time a tick of a text takes, after so much time
unfoldable pub tick_of : (time : ℕ) → List ℕ → Result ℕ LineWhy
tick_of time text = do
  n ← or_stop why.Number (number_of text)
  ok ← unless_stop why.Time (is_in_time time n)
  Ok n
