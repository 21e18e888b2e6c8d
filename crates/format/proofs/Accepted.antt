-- The glyphs of the account come from the accepted calls alone.
use Rattle.std.proofs.Common.{◌≡◌, ℕ, List, [], ◌∷◌, refl}
use mathlib.Core.Option.{Option, none, some}
use Rattle.format.specs.Account.{Account, Cells, Declined, Call, glyph, variation, compile, refusal, after, opened, accepted_calls, laid, settled, accepted}
use Rattle.format.specs.Promise.{glyphs_after}

pub accepted_lay : (A : Account) (cs : List Call) → (after A cs).glyphs ≡ laid A.glyphs (accepted_calls A cs)
accepted_lay A [] = refl
accepted_lay A (glyph n ∷ cs) = by (refusal A (glyph n)) (accepted_lay (accepted A (glyph n)) cs) (accepted_lay A cs)
  where
    by : (o : Option Declined) →
        (after (accepted A (glyph n)) cs).glyphs ≡ laid (accepted A (glyph n)).glyphs (accepted_calls (accepted A (glyph n)) cs) →
        (after A cs).glyphs ≡ laid A.glyphs (accepted_calls A cs) →
        (after (settled o (accepted A (glyph n)) A) cs).glyphs
        ≡ laid A.glyphs (settled o (glyph n ∷ accepted_calls (settled o (accepted A (glyph n)) A) cs) (accepted_calls (settled o (accepted A (glyph n)) A) cs))
    by none i j = i
    by (some d) i j = j
accepted_lay A (variation ts ds ∷ cs) = by (refusal A (variation ts ds)) (accepted_lay (accepted A (variation ts ds)) cs) (accepted_lay A cs)
  where
    by : (o : Option Declined) →
        (after (accepted A (variation ts ds)) cs).glyphs ≡ laid (accepted A (variation ts ds)).glyphs (accepted_calls (accepted A (variation ts ds)) cs) →
        (after A cs).glyphs ≡ laid A.glyphs (accepted_calls A cs) →
        (after (settled o (accepted A (variation ts ds)) A) cs).glyphs
        ≡ laid A.glyphs (settled o (variation ts ds ∷ accepted_calls (settled o (accepted A (variation ts ds)) A) cs) (accepted_calls (settled o (accepted A (variation ts ds)) A) cs))
    by none i j = i
    by (some d) i j = j
accepted_lay A (compile cells sink ∷ cs) = accepted_lay A cs

-- the table that the account means is the one that the accepted calls fix
pub glyphs_are : (a : ℕ) (free : Cells) (cs : List Call) → (after (opened a free) cs).glyphs ≡ glyphs_after a free cs
glyphs_are a free cs = accepted_lay (opened a free) cs
