-- What is printed of bytes.
use Rattle.std.specs.Prelude.{ℕ, ◌/◌, ◌%◌, List, [], ◌∷◌, true}
use Rattle.std.specs.Fmt.{digit_glyph}

-- a space and two hexadecimal digits
abbrev pub byte_text : ℕ → List ℕ
byte_text b = 32 ∷ digit_glyph true (b / 16) ∷ digit_glyph true (b % 16) ∷ []
