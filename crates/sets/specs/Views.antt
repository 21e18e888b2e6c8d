-- What the views of a set show.
use Rattle.std.specs.Prelude.{◌≡◌, ℕ, ◌+◌, ◌<◌, ◌≤◌, true, cond, List, [], ◌∷◌, map, length, take, drop, ◌==◌, slice_index_or}
use Rattle.format.specs.Account.{Glyph, Variation, begun}
use Rattle.format.specs.Bytes.{joined}
use Rattle.format.specs.Glyphs.{peak}
use Rattle.format.specs.Table.{variations_of}
use Rattle.variations.specs.Deltas.{deltas_of}
use Rattle.tuples.specs.Choice.{StoredAs}
use Rattle.sets.specs.declared.view.GlyphDeltas.{GlyphDeltas}
use Rattle.sets.specs.declared.view.Span.{Span}

-- the variations in the order of the accepted calls
abbrev pub all_variations : List Glyph → List Variation
all_variations gs = joined (map (λ g. g.variations) gs)

-- stands for a variation that there is not
abbrev pub no_variation : Variation
no_variation = record { tents = []; deltas = [] }

-- the view is of the variation, which has a tents
pub record Shows (a : ℕ) (r : GlyphDeltas) (v : Variation) : Type 0 where
  pub axes : length v.tents ≡ a
  pub each_axis : (length r.peak.now ≡ a) × (length r.starts.now ≡ a) × (length r.ends.now ≡ a)
  pub few : length r.deltas.now ≤ 32767
  pub peak : r.peak.now ≡ peak v
  pub starts : r.starts.now ≡ map (λ t. t.start) v.tents
  pub ends : r.ends.now ≡ map (λ t. t.end) v.tents
  pub deltas : deltas_of r.deltas.now ≡ v.deltas
  pub stored : StoredAs v.deltas r.stored

-- how many variations stand before those of the glyph with the number
abbrev pub variations_before : ℕ → List Glyph → ℕ
variations_before n [] = 0
variations_before n (g ∷ gs) = cond (g.number == n) 0 (length g.variations + variations_before n gs)

-- the span is that of the glyph with the number
pub record Spans (gs : List Glyph) (n : ℕ) (r : Span) : Type 0 where
  pub is_begun : true ≡ begun n gs
  pub few : r.count ≤ 4095
  pub place : r.first ≡ variations_before n gs
  pub within : r.first + r.count ≤ length (all_variations gs)
  pub of_glyph : take r.count (drop r.first (all_variations gs)) ≡ variations_of n gs

-- stands for a glyph that there is not
abbrev pub no_glyph : Glyph
no_glyph = record { number = 0; variations = [] }

-- the span is that of the glyph at a place
pub record Lies (gs : List Glyph) (at : ℕ) (r : Span) : Type 0 where
  pub inside : at < length gs
  pub few : r.count ≤ 4095
  pub within : r.first + r.count ≤ length (all_variations gs)
  pub behind : r.first ≡ length (all_variations (take at gs))
  pub of_glyph : take r.count (drop r.first (all_variations gs)) ≡ (slice_index_or gs at no_glyph).variations
