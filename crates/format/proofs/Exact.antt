-- Fractions are exact: denominators are what is divided by, and a few movements worked by hand.
use Rattle.std.proofs.Common.{◌≡◌, ℕ, zero, suc, pred, ◌+◌, ◌-◌, ◌*◌, ◌<◌, true, false, [], ◌∷◌, ℤ, pos, negsuc, ◌-ℤ◌, ◌*ℤ◌, nat_abs, sym, refl, ap, ◌∙◌, arith}
use lib.IntN.{pos-*ℤ-pos}
use lib.Signed.{le_z, lt_z}
use Rattle.std.proofs.lemmas.Bool.{false≢true, lt-ltb, le-ltb, ltb-true}
use Rattle.std.proofs.lemmas.Bool.Decides.{nat_tests}
use Rattle.format.specs.Bytes.{same_int}
use Rattle.format.specs.Account.{Variation}
use Rattle.format.specs.Movement.{Fraction, bottom, Same, whole, ratio, ◌⊗◌, ◌⊕◌, axis_fraction, moved_by_calls}

-- Denominators

pred_up : (n : ℕ) → 0 < n → suc (pred n) ≡ n
pred_up zero h = absurd (omega arith)
pred_up (suc n) h = refl

product_bottom : (f g : Fraction) → bottom (f ⊗ g) ≡ bottom f *ℤ bottom g
product_bottom f g = ap pos (pred_up (suc f.under * suc g.under) (omega arith)) ∙ sym (pos-*ℤ-pos (suc f.under) (suc g.under))

sum_bottom : (f g : Fraction) → bottom (f ⊕ g) ≡ bottom f *ℤ bottom g
sum_bottom f g = product_bottom f g

ratio_bottom : (n d : ℤ) → lt_z (pos 0) d ≡ true → bottom (ratio n d) ≡ d
ratio_bottom n (pos zero) h = absurd (false≢true h)
ratio_bottom n (pos (suc d)) h = refl
ratio_bottom n (negsuc d) h = absurd (false≢true h)

-- what is divided by, below the peak and above it, is positive there

between : (s v p : ℤ) → le_z v s ≡ false → lt_z v p ≡ true → lt_z s p ≡ true
between (pos s) (pos v) (pos p) h k = grind (arith, nat_tests)
between (pos s) (pos v) (negsuc p) h k = absurd (false≢true k)
between (pos s) (negsuc v) p h k = absurd (false≢true (sym h))
between (negsuc s) (pos v) (pos p) h k = refl
between (negsuc s) (pos v) (negsuc p) h k = absurd (false≢true k)
between (negsuc s) (negsuc v) (pos p) h k = refl
between (negsuc s) (negsuc v) (negsuc p) h k = grind (arith, nat_tests)

positive : (s p : ℤ) → lt_z s p ≡ true → lt_z (pos 0) (p -ℤ s) ≡ true
positive (pos zero) (pos p) h = lt-ltb 0 (p + 0) (let l = ltb-true 0 p h in omega arith)
positive (pos (suc s)) (pos p) h = let l = ltb-true (suc s) p h in rw (le-ltb p (suc s) (omega arith)) (lt-ltb 0 (p - suc s) (omega arith))
positive (pos s) (negsuc p) h = absurd (false≢true h)
positive (negsuc s) (pos p) h = lt-ltb 0 (p + suc s) (omega arith)
positive (negsuc s) (negsuc p) h = let l = ltb-true p s h in rw (le-ltb (suc s) (suc p) (omega arith)) (lt-ltb 0 (suc s - suc p) (omega arith))

rising_bottom : (p s v : ℤ) → le_z v s ≡ false → lt_z v p ≡ true → bottom (ratio (v -ℤ s) (p -ℤ s)) ≡ p -ℤ s
rising_bottom p s v h k = ratio_bottom (v -ℤ s) (p -ℤ s) (positive s p (between s v p h k))

falling_bottom : (p e v : ℤ) → le_z e v ≡ false → lt_z v p ≡ false → same_int v p ≡ false → bottom (ratio (e -ℤ v) (e -ℤ p)) ≡ e -ℤ p
falling_bottom p e v h k d = ratio_bottom (e -ℤ v) (e -ℤ p) (positive p e (above p v e h k d))
  where
    above : (p v e : ℤ) → le_z e v ≡ false → lt_z v p ≡ false → same_int v p ≡ false → lt_z p e ≡ true
    above (pos p) (pos v) (pos e) h k d = grind (arith, nat_tests)
    above (pos p) (pos v) (negsuc e) h k d = absurd (false≢true (sym h))
    above (pos p) (negsuc v) e h k d = absurd (false≢true (sym k))
    above (negsuc p) (pos v) (pos e) h k d = refl
    above (negsuc p) (pos v) (negsuc e) h k d = absurd (false≢true (sym h))
    above (negsuc p) (negsuc v) (pos e) h k d = refl
    above (negsuc p) (negsuc v) (negsuc e) h k d = grind (arith, nat_tests)

same_itself : (f : Fraction) → Same f f
same_itself f = refl

same_turned : (f g : Fraction) → Same f g → Same g f
same_turned f g e = sym e

-- An axis with this peak, start and end, at v

abbrev over : ℤ → ℕ → Fraction
over n d = record { over = n; under = d }

-- no say: peak 0; start above peak; peak above end; start below 0 and end above
no_say :
    (axis_fraction (pos 0) (pos 0) (pos 0) (pos 9) ≡ whole (pos 1)) × (axis_fraction (pos 5) (pos 6) (pos 7) (pos 0) ≡ whole (pos 1))
    × (axis_fraction (pos 5) (pos 1) (pos 4) (pos 0) ≡ whole (pos 1)) × (axis_fraction (pos 5) (negsuc 0) (pos 7) (negsuc 99) ≡ whole (pos 1))
no_say = (refl, refl, refl, refl)

-- at the peak, at and past the bounds, half way up, a third of the way down, below 0
has_say :
    (axis_fraction (pos 8) (pos 4) (pos 14) (pos 8) ≡ whole (pos 1)) × (axis_fraction (pos 8) (pos 4) (pos 14) (pos 4) ≡ whole (pos 0))
    × (axis_fraction (pos 8) (pos 4) (pos 14) (negsuc 3) ≡ whole (pos 0)) × (axis_fraction (pos 8) (pos 4) (pos 14) (pos 14) ≡ whole (pos 0))
    × Same (axis_fraction (pos 8) (pos 4) (pos 14) (pos 6)) (over (pos 1) 1) × Same (axis_fraction (pos 8) (pos 4) (pos 14) (pos 10)) (over (pos 2) 2)
    × Same (axis_fraction (negsuc 15) (negsuc 15) (pos 0) (negsuc 3)) (over (pos 1) 3)
has_say = (refl, refl, refl, refl, refl, refl, refl)

-- A glyph with two variations of the point 0, at half the first peak and at the second

abbrev bold : Variation
bold = record { tents = record { peak = pos 0x4000; start = pos 0; end = pos 0x4000 } ∷ []; deltas = record { x = pos 10; y = negsuc 2; required = true } ∷ [] }

abbrev half : Variation
half = record { tents = record { peak = pos 0x2000; start = pos 0; end = pos 0x4000 } ∷ []; deltas = record { x = pos 1; y = pos 7; required = true } ∷ [] }

moves : Same (moved_by_calls (λ d. d.x) (bold ∷ half ∷ []) 0 (pos 0x2000 ∷ [])) (whole (pos 6)) × Same (moved_by_calls (λ d. d.y) (bold ∷ half ∷ []) 0 (pos 0x2000 ∷ [])) (over (pos 11) 1)
moves = (refl, refl)

moves_not : Same (moved_by_calls (λ d. d.x) (bold ∷ half ∷ []) 0 (pos 0x2000 ∷ [])) (whole (pos 5)) → ⊥
moves_not e = let f : ◌≡◌ {A = ℕ} _ _ = ap nat_abs e in omega arith
