-- Where each entry gives its variation back, required points move alike, and so the two accounts of a glyph agree.
use Rattle.std.proofs.Common.{◌≡◌, ℕ, List, [], ◌∷◌, ℤ, sym, refl}
use mathlib.Core.Option.{some}
use Rattle.std.specs.List.{AllByRecursion}
use Rattle.format.specs.Account.{Delta, Variation, Glyph}
use Rattle.format.specs.Reader.{Move, Entry, read_glyph}
use Rattle.format.specs.Movement.{Fraction, Same, part, scale, variation_scale, delta_at, move_at, moved_by_calls, moved_by_bytes}
use Rattle.format.specs.Promise.{InStep, GivesBack, RequiredIn, Agree}
use Rattle.format.specs.Streams.{found}

-- the point k is found in the entry
abbrev pub FoundIn : ℕ → Entry → Type 0
FoundIn k e = (m : Move) × (move_at e.moves k ≡ some m)

-- where each entry gives its variation back, the points that all require are found in all
pub required_found : (k : ℕ) (vs : List Variation) (es : List Entry) → InStep GivesBack vs es → AllByRecursion (RequiredIn k) vs → AllByRecursion (FoundIn k) es
required_found k [] [] b r = tt
required_found k [] (e ∷ es) b r = absurd b
required_found k (v ∷ vs) [] b r = absurd b
required_found k (v ∷ vs) (e ∷ es) b r = (b.0.finds_required k r.0.0 r.0.1 r.0.2, required_found k vs es b.1 r.1)

module _ (c : Delta → ℤ) (c' : Move → ℤ) (same : (d : Delta) (m : Move) → m.x ≡ d.x → m.y ≡ d.y → c d ≡ c' m) (k : ℕ) (at : List ℤ) where
  part_alike : (v : Variation) (e : Entry) → GivesBack v e → FoundIn k e →
      part c (delta_at v.deltas k) (variation_scale v at) ≡ part c' (move_at e.moves k) (scale e.peak e.start e.end at)
  part_alike v e b m =
      let g = b.finds_as_given k m.0 m.1 in
      rw (b.same_peak, b.same_start, b.same_end, m.1, g.1, same g.0 m.0 g.2 g.3)

  -- a point that is found in every entry, required or not
  pub found_moves_alike : (vs : List Variation) (es : List Entry) → InStep GivesBack vs es → AllByRecursion (FoundIn k) es → moved_by_calls c vs k at ≡ moved_by_bytes c' es k at
  found_moves_alike [] [] b r = refl
  found_moves_alike [] (e ∷ es) b r = absurd b
  found_moves_alike (v ∷ vs) [] b r = absurd b
  found_moves_alike (v ∷ vs) (e ∷ es) b r = rw (part_alike v e b.0 r.0, found_moves_alike vs es b.1 r.1)

  pub moves_alike : (vs : List Variation) (es : List Entry) → InStep GivesBack vs es → AllByRecursion (RequiredIn k) vs → moved_by_calls c vs k at ≡ moved_by_bytes c' es k at
  moves_alike vs es b r = found_moves_alike vs es b (required_found k vs es b r)

pub same_from : (f g : Fraction) → f ≡ g → Same f g
same_from f g e = rw e

-- entries that give the variations back make the accounts agree
pub agree_from_entries :
    (axes : ℕ) (table : List ℕ) (g : Glyph) (p : ℕ) (es : List Entry) → read_glyph table g.number p ≡ found es → InStep GivesBack g.variations es → Agree axes table g p
agree_from_entries axes table g p es e b =
    let vs = g.variations in
    record {
      entries = es;
      reader_finds_them = e;
      each_gives_its_variation_back = b;
      required_points_move_alike = λ position n k r. (
        same_from (moved_by_calls (λ d. d.x) vs k position) (moved_by_bytes (λ m. m.x) es k position)
            (moves_alike (λ d. d.x) (λ m. m.x) (λ d m x y. sym x) k position vs es b r),
        same_from (moved_by_calls (λ d. d.y) vs k position) (moved_by_bytes (λ m. m.y) es k position)
            (moves_alike (λ d. d.y) (λ m. m.y) (λ d m x y. sym y) k position vs es b r),
      );
    }
