-- Decimal numbers without leading zeros. Ours.
use Rattle.std.specs.Prelude.{ℕ, ◌==◌, ◌&&◌, not, nat_lt, nat_le, Bool, if◌then◌else◌, List, length, slice_index, Option, Some, None}
use Rattle.std.specs.Char.{is_ascii_digit}
use Rattle.std.specs.List.{list_all}
use Rattle.std.specs.Str.Parse.{digits_value}

-- decimal digits, at least one of them, and a leading zero (48) only where it stands alone
unfoldable pub is_decimal : List ℕ → Bool
is_decimal text =
    nat_lt 0 (length text) && not (slice_index text 0 == 48 && nat_lt 1 (length text)) && list_all is_ascii_digit text

-- the decimal number that the text is, where it is from `least` to `most`
unfoldable pub decimal_in : ℕ → ℕ → List ℕ → Option ℕ
decimal_in least most text =
    if is_decimal text && nat_le least (digits_value 10 text) && nat_le (digits_value 10 text) most
    then Some (digits_value 10 text) else None
