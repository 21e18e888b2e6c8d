-- What reading finds lies inside the bytes and is well formed, and each fault says what it is.
use Rattle.std.specs.Prelude.{◌≡◌, ℕ, ◌+◌, ◌<◌, ◌≤◌, Bool, true, false, cond, ◌||◌, List, ◌++◌, map, length, ℤ, ◌==◌, nat_le}
use Rattle.std.proofs.Math.Option.{Option, none, some}
use Rattle.std.specs.List.{AllByRecursion}
use Rattle.format.specs.Account.{Declined, layer_of}
use Rattle.format.specs.Packed.{Points}
use Rattle.format.specs.Streams.{Rest, rises, read_deltas, read_points, found, fault}
use Rattle.format.specs.Reader.{Entry, points_of, word_at, read_glyph}
use Rattle.format.specs.Laws.{InRange}

-- Streams

-- the bytes used and those left are all, and the place has moved by just as many as were used
pub record Stays {X : Type 0} (bs : List ℕ) (at : ℕ) (s : Rest X) : Type 0 where
  pub used : List ℕ
  pub used_then_left : used ++ s.left ≡ bs
  pub moved_by_used : s.place ≡ at + length used

-- a fault of this number, at a place from the first of the bytes to their end
pub record FailsInside (decline : ℕ → ℕ → Declined) (number : ℕ) (bs : List ℕ) (at : ℕ) (x : Declined) : Type 0 where
  pub place : ℕ
  pub declines : x ≡ decline number place
  pub not_before : at ≤ place
  pub not_past : place ≤ at + length bs

-- whatever the bytes, deltas are as many as asked for, and reading them stays inside
abbrev pub DeltasStayInside : Type 0
DeltasStayInside =
    (d : ℕ → ℕ → Declined) (k : ℕ) (bs : List ℕ) (at : ℕ) →
    ((s : Rest (List ℤ)) → read_deltas d k bs at ≡ found s → Stays bs at s × (length s.value ≡ k))
    × ((x : Declined) → read_deltas d k bs at ≡ fault x → FailsInside d 23 bs at x)

-- whatever the bytes, points are in range, and reading them stays inside
abbrev pub PointsStayInside : Type 0
PointsStayInside =
    (d : ℕ → ℕ → Declined) (p : ℕ) (bs : List ℕ) (at : ℕ) →
    ((s : Rest Points) → read_points d p bs at ≡ found s → Stays bs at s × InRange p s.value)
    × ((x : Declined) → read_points d p bs at ≡ fault x → FailsInside d 22 bs at x)

-- Glyphs

-- an entry over so many axes, of a glyph that has p points
pub record WellFormed (axes p : ℕ) (e : Entry) : Type 0 where
  pub peak_of_axes : length e.peak ≡ axes
  pub start_of_axes : length e.start ≡ axes
  pub end_of_axes : length e.end ≡ axes
  -- one move for each point of a set in range
  pub points : Points
  pub points_in_range : InRange p points
  pub moves_each : map (λ m. m.point) e.moves ≡ points_of p points
  -- no point is moved twice, and none beyond those of the glyph
  pub points_rise : rises 0 p (map (λ m. m.point) e.moves) ≡ true

-- what is asked for is there, and what is found is well formed
pub record LiesInTheSlot (bs : List ℕ) (g p : ℕ) (es : List Entry) : Type 0 where
  pub few_points : p ≤ 32767
  pub glyph_is_there : g < word_at bs 12
  pub few_entries : length es ≤ 4095
  pub entries_well_formed : AllByRecursion (WellFormed (word_at bs 4) p) es

-- whatever the bytes, a reading without a fault lies in the slot
abbrev pub ReadingLiesInTheSlot : Type 0
ReadingLiesInTheSlot = (bs : List ℕ) (g p : ℕ) (es : List Entry) → read_glyph bs g p ≡ found es → LiesInTheSlot bs g p es

-- Faults

-- is nothing said?
abbrev pub is_none : {X : Type 0} → Option X → Bool
is_none none = true
is_none (some x) = false

-- what a fault says where the glyph g of the table bs was asked for
pub record WellTold (bs : List ℕ) (g : ℕ) (d : Declined) : Type 0 where
  pub number_from : 16 ≤ d.number
  pub number_to : d.number ≤ 25
  pub in_its_layer : d.layer ≡ layer_of d.number
  -- faults of the table name no glyph, all others the one asked for
  pub names_its_glyph : d.glyph ≡ cond (nat_le d.number 19) none (some g)
  -- only a table too short for its head, and a request that the table cannot meet, have no place
  pub lacks_a_place : is_none d.place ≡ (d.number == 16 || d.number == 20)
  pub place_in_the_table : (q : ℕ) → d.place ≡ some q → q ≤ length bs

-- whatever the bytes, a fault says what it is, and where
abbrev pub FaultsHaveTheirNumbers : Type 0
FaultsHaveTheirNumbers = (bs : List ℕ) (g p : ℕ) (d : Declined) → read_glyph bs g p ≡ fault d → WellTold bs g d
