-- A slot is the glyph's bytes, and a byte 00 where it is padded.
use Rattle.std.proofs.Common.{◌≡◌, ℕ, ◌+◌, ◌%◌, ◌≤◌, Bool, true, false, cond, eqb, List, [], ◌∷◌, ◌++◌, length, sym, refl, ap, ◌∙◌, append-nil, length-append, arith}
use Rattle.std.proofs.lemmas.Bool.{and_parts, eqb-true}
use Rattle.std.specs.Int.{from_bool}
use Rattle.format.specs.Table.{padded}
use Rattle.tables.specs.Parts.{is_padded}

padded_is : (s : Bool) (b : List ℕ) → padded s b ≡ b ++ cond {A = List ℕ} (is_padded s (length b)) (0 ∷ []) []
padded_is true b = refl
padded_is false b = sym (append-nil b)

module _ (s : Bool) (b : List ℕ) where
  pub with_pad : is_padded s (length b) ≡ true → padded s b ≡ b ++ (0 ∷ [])
  with_pad e = padded_is s b ∙ ap (λ (t : Bool). b ++ cond {A = List ℕ} t (0 ∷ []) []) e

  pub without_pad : is_padded s (length b) ≡ false → padded s b ≡ b
  without_pad e = padded_is s b ∙ ap (λ (t : Bool). b ++ cond {A = List ℕ} t (0 ∷ []) []) e ∙ append-nil b

  -- one byte more where it is padded
  slot_by : (t : Bool) → is_padded s (length b) ≡ t → length b + from_bool t ≡ length (padded s b)
  slot_by true e = sym (ap length (with_pad e) ∙ length-append b (0 ∷ []))
  slot_by false e = omega (arith, ap length (without_pad e))

  pub slot_long : (n p : ℕ) (t : Bool) → n ≡ length b → t ≡ is_padded s n → p ≡ from_bool t → n + p ≡ length (padded s b)
  slot_long n p t en et ep = (λ i. en i + ep i) ∙ slot_by t (ap (is_padded s) (sym en) ∙ sym et)

padded_odd : (s : Bool) (n : ℕ) → is_padded s n ≡ true → n % 2 ≡ 1
padded_odd s n e = eqb-true (n % 2) 1 (and_parts s (eqb (n % 2) 1) e).1

-- and so it still has an even number of bytes at most
pub slot_small : (s : Bool) (n p : ℕ) (t : Bool) → n ≤ 17179869184 → t ≡ is_padded s n → p ≡ from_bool t → n + p ≤ 17179869184
slot_small s n p true h e ep = omega (arith, padded_odd s n (sym e))
slot_small s n p false h e ep = omega arith
