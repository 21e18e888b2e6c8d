-- What the stores of a set keep.
use Rattle.std.specs.Prelude.{◌≡◌, ℕ, ◌*◌, ◌<◌, ◌≤◌, Bool, true, ◌&&◌, List, [], ◌∷◌, map, length, take, drop, ℤ, nat_lt}
use Rattle.std.specs.Int.Signed.{mag}
use Rattle.format.specs.Account.{Delta}
use Rattle.format.specs.Bytes.{all}
use Rattle.format.specs.Glyphs.{stores_all, stored_points, stored_deltas, coordinates}
use Rattle.format.specs.Packed.{packed_points}
use Rattle.variations.specs.declared.delta.GlyphDelta.{GlyphDelta}
use Rattle.variations.specs.Deltas.{deltas_of}
use Rattle.sets.specs.declared.cells.GlyphCell.{GlyphCell}
use Rattle.sets.specs.declared.cells.VariationCell.{VariationCell}
use Rattle.sets.specs.Cells.{number_at, count_at, first_at, head_at, next_at, deltas_at, start_at, variations_in, deltas_in}
use Rattle.sets.specs.Index.{Heads, Nexts, Apart, Low}
use Rattle.sets.specs.Layout.{Stores}

-- each glyph's first variation stands behind those of the glyphs before it
abbrev pub Firsts : ℕ → List GlyphCell → Type 0
Firsts m cs = (i : ℕ) → i < m → first_at cs i ≡ variations_in (take i cs)

-- each variation's first delta stands behind those of the variations before it
abbrev pub Starts : ℕ → List VariationCell → Type 0
Starts m cs = (i : ℕ) → i < m → start_at cs i ≡ deltas_in (take i cs)

-- the chains by which a glyph is found
abbrev pub Chained : ℕ → List GlyphCell → Type 0
Chained m cs = Heads (number_at cs) (head_at cs) m (length cs) × Nexts (number_at cs) (next_at cs) m (length cs)

-- no glyph has too many variations, and no variation too many deltas
abbrev pub Few : ℕ → List GlyphCell → ℕ → List VariationCell → Type 0
Few m gs n vs = ((i : ℕ) → i < m → count_at gs i ≤ 4095) × ((i : ℕ) → i < n → deltas_at vs i ≤ 32767)

-- the size of the points that the table stores of a variation with these deltas
abbrev pub points_size : List Delta → ℕ
points_size ds = length (packed_points (stored_points ds))

-- the size of the coordinates
abbrev pub values_size : List Delta → ℕ
values_size ds = length (coordinates (stored_deltas ds))

-- the deltas of each variation
abbrev pub deal_deltas : List VariationCell → List GlyphDelta → List (List Delta)
deal_deltas [] ds = []
deal_deltas (c ∷ cs) ds = deltas_of (take c.deltas ds) ∷ deal_deltas cs (drop c.deltas ds)

-- each cell says which points the table stores of its variation, and their sizes
abbrev pub Chosen : List VariationCell → List GlyphDelta → Type 0
Chosen cs ds =
    (map (λ c. c.stored.all) cs ≡ map stores_all (deal_deltas cs ds))
    × (map (λ c. c.stored.points) cs ≡ map points_size (deal_deltas cs ds))
    × (map (λ c. c.stored.values) cs ≡ map values_size (deal_deltas cs ds))

-- whether a value is of 16 bits
abbrev pub short_value : ℤ → Bool
short_value z = nat_lt (mag z) 32768

-- whether both coordinates are
abbrev pub short_delta : GlyphDelta → Bool
short_delta d = short_value d.x && short_value d.y

-- all values and all deltas are
abbrev pub ShortCells : List ℤ → List GlyphDelta → Type 0
ShortCells xs ds = (all short_value xs ≡ true) × (all short_delta ds ≡ true)

-- the cells in use lie within the stores, are counted, and say what the account says
pub record Sound (s : Stores) : Type 0 where
  pub within : (s.begun ≤ length s.glyphs) × (s.added ≤ length s.variations) × (3 * s.axes * s.added ≤ length s.values) × (s.moved ≤ length s.deltas)
  pub counted : (variations_in (take s.begun s.glyphs) ≡ s.added) × (deltas_in (take s.added s.variations) ≡ s.moved)
  pub placed : Firsts s.begun s.glyphs × Starts s.added s.variations
  pub chained : Chained s.begun s.glyphs
  pub numbered : Apart (number_at s.glyphs) s.begun × Low (number_at s.glyphs) s.begun
  pub few : Few s.begun s.glyphs s.added s.variations
  pub chosen : Chosen (take s.added s.variations) (take s.moved s.deltas)
  pub short : ShortCells (take (3 * s.axes * s.added) s.values) (take s.moved s.deltas)
