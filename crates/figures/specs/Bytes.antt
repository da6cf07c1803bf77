-- Numbers of two bytes, the high byte first.
use Rattle.std.specs.Prelude.{ℕ, ◌+◌, ◌*◌, cond, List, ℤ, pos, ◌-ℤ◌, nat_lt, slice_index}

-- The number in the two bytes from a place on; bytes that are not there count as 0.
abbrev pub word : List ℕ → ℕ → ℕ
word bytes place = 256 * slice_index bytes place + slice_index bytes (place + 1)

-- Such a number in two's complement: from 32,768 on it is negative.
abbrev pub twos_complement : ℕ → ℤ
twos_complement n = cond (nat_lt n 32768) (pos n) (pos n -ℤ pos 65536)

abbrev pub signed_word : List ℕ → ℕ → ℤ
signed_word bytes place = twos_complement (word bytes place)
