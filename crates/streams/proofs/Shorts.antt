-- Words that are cut short.
use Rattle.std.proofs.Common.{◌≡◌, ℕ, ◌+◌, ◌<◌, List, [], ◌∷◌, length, drop, None, refl, arith, length-drop}
use Rattle.kinds.specs.declared.point.PointKind.TheVariants.{Words}
use Rattle.format.specs.Packed.{words}
use Rattle.format.specs.Streams.{read_values}
use Rattle.streams.specs.declared.deltas.DeltaPacking.{DeltaPacking}
use Rattle.streams.specs.Deltas.{delta_in}
use Rattle.streams.specs.Points.{gap_in}

short_delta : (q : DeltaPacking) (xs : List ℕ) (at : ℕ) → length xs < 2 → None ≡ delta_in q (at + 2) (read_values words 1 xs)
short_delta q [] at h = refl
short_delta q (a ∷ []) at h = refl
short_delta q (a ∷ (b ∷ xs)) at h = absurd (omega arith)

pub no_delta : (q : DeltaPacking) (bs : List ℕ) (at : ℕ) → length bs < at + 2 → None ≡ delta_in q (at + 2) (read_values words 1 (drop at bs))
no_delta q bs at h = short_delta q (drop at bs) at (omega (arith, length-drop at bs))

short_gap : (xs : List ℕ) (at : ℕ) → length xs < 2 → None ≡ gap_in Words xs at
short_gap [] at h = refl
short_gap (a ∷ []) at h = refl
short_gap (a ∷ (b ∷ xs)) at h = absurd (omega arith)

pub no_gap : (bs : List ℕ) (at : ℕ) → length bs < at + 2 → None ≡ gap_in Words (drop at bs) at
no_gap bs at h = short_gap (drop at bs) at (omega (arith, length-drop at bs))
