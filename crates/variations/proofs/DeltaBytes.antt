-- The bytes of a delta, as the program makes them.
use Rattle.std.proofs.Common.{◌≡◌, ◌%◌, true, ℤ, pos, negsuc, refl, arith, w16, of_z}
use Rattle.std.proofs.lemmas.Bool.Decides.{nat_tests}
use Rattle.format.specs.Bytes.{bits8, bits16}
use Rattle.variations.specs.DeltaForm.{is_byte_value}

pub of_z_bits : (z : ℤ) → of_z w16 z ≡ bits16 z
of_z_bits (pos n) = refl
of_z_bits (negsuc n) = omega arith

pub low_bits : (z : ℤ) → is_byte_value z ≡ true → of_z w16 z % 256 ≡ bits8 z
low_bits (pos n) h = grind (arith, nat_tests)
low_bits (negsuc n) h = grind (arith, nat_tests)
