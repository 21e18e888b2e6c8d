-- Each refusal of a set once, at its limit and just inside it, and the first of two that apply.
use Rattle.std.specs.Prelude.{◌≡◌, ℕ, true, List, [], ◌∷◌, map, replicate, pos}
use Rattle.std.proofs.Math.Option.{Option, none, some}
use Rattle.format.specs.Account.{Delta, Given, Cells, Account, Declined, declined, set, table, slot, entry, stream, layer_of, first_of, axis_count_conditions, glyph, variation, refusal, opened, after}
use Rattle.format.specs.Glyphs.{listed}
use Rattle.format.specs.Table.{granted, refused, compile_answer}

abbrev cells : ℕ → ℕ → ℕ → ℕ → Cells
cells g v a d = record { glyph = g; variation = v; axis = a; delta = d }

abbrev plenty : Cells
plenty = cells 100000 100000 100000 100000

abbrev tents : ℕ → List Given
tents n = replicate n (record { peak = pos 1; bounds = none })

abbrev deltas : ℕ → List Delta
deltas n = replicate n (record { x = pos 1; y = pos 1; required = true })

-- one axis, the glyph 7 begun, with so many variations of two deltas each
abbrev with : Cells → ℕ → Account
with f n = record { axes = 1; free = f; glyphs = record { number = 7; variations = replicate n (record { tents = []; deltas = deltas 2 }) } ∷ [] }

-- refused with this number, for the variation i of glyph 7
abbrev at : ℕ → ℕ → Option Declined
at n i = some (declined n (some 7) (some i) none)

-- the refusals of each call, and the account after them
pub record RefusalsHold : Type 0 where
  -- the layers of 1 to 25
  pub layers : map layer_of (listed 1 25 (λ n. n))
      ≡ set ∷ set ∷ set ∷ set ∷ set ∷ set ∷ set ∷ set ∷ set ∷ set ∷ set ∷ set ∷ set ∷ set ∷ set ∷ table ∷ table ∷ table ∷ table ∷ slot ∷ slot ∷ stream ∷ stream ∷ entry ∷ slot ∷ []
  -- at most 64 axes
  pub axis_counts : (first_of (axis_count_conditions 64) ≡ none) × (first_of (axis_count_conditions 65) ≡ some (declined 1 none none none))
  -- a number too large, begun before, or without a free cell
  pub of_glyph :
      (refusal (with plenty 0) (glyph 65534) ∷ refusal (with plenty 0) (glyph 65535) ∷ refusal (with plenty 0) (glyph 7)
      ∷ refusal (with (cells 1 0 0 0) 0) (glyph 8) ∷ refusal (with (cells 0 9 9 9) 0) (glyph 8) ∷ refusal (with (cells 0 9 9 9) 0) (glyph 7) ∷ [])
      ≡ (none ∷ some (declined 2 (some 65535) none none) ∷ some (declined 3 (some 7) none none)
      ∷ none ∷ some (declined 9 (some 8) none none) ∷ some (declined 3 (some 7) none none) ∷ [])
  -- no glyph, other tents, too many deltas, another number of them, too many variations, too few cells
  pub of_variation :
      (refusal (opened 1 plenty) (variation (tents 1) (deltas 2))
      ∷ refusal (with plenty 3) (variation (tents 2) (deltas 2)) ∷ refusal (with plenty 3) (variation [] (deltas 32768))
      ∷ refusal (with plenty 0) (variation (tents 1) (deltas 32767)) ∷ refusal (with plenty 0) (variation (tents 1) (deltas 32768))
      ∷ refusal (with plenty 3) (variation (tents 1) (deltas 3)) ∷ refusal (with plenty 3) (variation (tents 1) (deltas 2))
      ∷ refusal (with plenty 4094) (variation (tents 1) (deltas 2)) ∷ refusal (with plenty 4095) (variation (tents 1) (deltas 2))
      ∷ refusal (with (cells 0 1 3 2) 3) (variation (tents 1) (deltas 2)) ∷ refusal (with (cells 9 0 3 2) 3) (variation (tents 1) (deltas 2))
      ∷ refusal (with (cells 9 1 2 2) 3) (variation (tents 1) (deltas 2)) ∷ refusal (with (cells 9 1 3 1) 3) (variation (tents 1) (deltas 2)) ∷ [])
      ≡ (some (declined 4 none none none)
      ∷ at 5 3 ∷ at 5 3
      ∷ none ∷ at 6 0
      ∷ at 7 3 ∷ none
      ∷ none ∷ at 8 4095
      ∷ none ∷ at 9 3
      ∷ at 9 3 ∷ at 9 3 ∷ [])
  -- a gap in the numbers, and too few count cells; 15 is among the worked bytes
  pub of_compile :
      (compile_answer (after (opened 1 plenty) (glyph 1 ∷ variation (tents 1) (deltas 1) ∷ [])) 0 1000 ≡ refused (declined 10 none none none))
      × (compile_answer (after (opened 1 plenty) (glyph 0 ∷ variation (tents 1) (deltas 1) ∷ [])) 0 1000 ≡ refused (declined 11 none none none))
      × (compile_answer (after (opened 1 plenty) (glyph 1 ∷ glyph 0 ∷ [])) 0 26 ≡ granted 26)
  -- a refused call leaves the account alone, and an accepted one uses up its cells
  pub cells_used :
      ((after (opened 2 (cells 2 1 6 3)) (glyph 70000 ∷ glyph 3 ∷ glyph 3 ∷ variation (tents 2) (deltas 3) ∷ variation (tents 2) (deltas 3) ∷ [])).free ≡ cells 1 0 0 0)
      × (after (opened 2 (cells 2 1 6 3)) (variation (tents 2) (deltas 3) ∷ []) ≡ opened 2 (cells 2 1 6 3))
