-- The variations of a glyph among those of the set.
use Rattle.std.proofs.Common.{◌≡◌, ℕ, ◌+◌, ◌<◌, ◌≤◌, false, eqb, List, [], ◌∷◌, length, get_or, drop, ℤ, Some, None, Option, MatchOption, unwrap_or, sym, refl, ap, subst, ◌∙◌, arith, length-drop, length-take-le, get_or-drop, get_or-take}
use Rattle.std.proofs.lemmas.List.{get_or-map, length-map}
use Rattle.std.proofs.lemmas.Bool.{or_parts}
use Rattle.format.specs.Account.{Glyph, Variation, begun}
use Rattle.format.specs.Glyphs.{peak, peaks_seen}
use Rattle.format.specs.Table.{variations_of}
use Rattle.counts.specs.declared.cells.CountCell.{CountCell}
use Rattle.sets.specs.declared.view.Span.{Span}
use Rattle.sets.specs.Views.{all_variations, no_variation, Spans}
use Rattle.sets.proofs.Peaked.{seen_is}
use Rattle.counting.specs.Counted.{marks, MarksHeld}
use Rattle.counting.specs.Marked.{MarkedFrom}
use Rattle.counting.specs.PointSets.{spanned}
use Rattle.counting.proofs.Marks.{all_long}
use Rattle.parts.proofs.Marks.{marks_of_glyph}

pub peaks_long : (gs : List Glyph) → length (peaks_seen gs) ≡ length (all_variations gs)
peaks_long gs = ap length (seen_is gs) ∙ length-map (all_variations gs) peak

pub peak_of : (gs : List Glyph) (i : ℕ) → i < length (all_variations gs) → get_or (peaks_seen gs) i [] ≡ peak (get_or (all_variations gs) i no_variation)
peak_of gs i l = ap (λ (ps : List (List ℤ)). get_or ps i []) (seen_is gs) ∙ get_or-map peak (all_variations gs) i no_variation [] l

module _ (gs : List Glyph) (p : Span) (within : p.first + p.count ≤ length (all_variations gs)) where
  pub spanned_long : length (spanned gs p) ≡ p.count
  spanned_long = let d = length-drop p.first (all_variations gs) in length-take-le p.count (drop p.first (all_variations gs)) (omega arith)

  module _ (j : ℕ) (l : j < p.count) where
    pub spanned_at : get_or (spanned gs p) j no_variation ≡ get_or (all_variations gs) (p.first + j) no_variation
    spanned_at = get_or-take p.count (drop p.first (all_variations gs)) j no_variation l ∙ get_or-drop p.first (all_variations gs) j no_variation

    pub spanned_peak : get_or (peaks_seen gs) (p.first + j) [] ≡ peak (get_or (spanned gs p) j no_variation)
    spanned_peak = peak_of gs (p.first + j) (omega arith) ∙ ap (λ (v : Variation). peak v) (sym spanned_at)

-- the cells of a glyph's span have its marks
pub marked_from : (gs : List Glyph) (cells : List CountCell) (n : ℕ) (p : Span) → Spans gs n p → MarksHeld gs cells → MarkedFrom gs p cells
marked_from gs cells n p s h j l =
    let vs = variations_of n gs in
    let long : length vs ≡ p.count = ap length (sym s.of_glyph) ∙ spanned_long gs p s.within in
    h (p.first + j) (omega (arith, all_long gs, s.within))
    ∙ marks_of_glyph n gs j (p.first + j) (omega arith) (ap (λ (k : ℕ). k + j) s.place)
    ∙ ap (λ (ws : List Variation). get_or (marks ws) j false) (sym s.of_glyph)

-- a glyph that was not begun has no variations
pub none_begun : (n : ℕ) (gs : List Glyph) → false ≡ begun n gs → variations_of n gs ≡ []
none_begun n [] e = refl
none_begun n (g ∷ gs) e =
    let o = or_parts (eqb g.number n) (begun n gs) (sym e) in
    rw o.0 (none_begun n gs (sym o.1))

-- the span of the glyph with the number n, or of none where no glyph has it
pub record OfGlyph (gs : List Glyph) (cells : List CountCell) (n : ℕ) (p : Span) : Type 0 where
  pub few : p.count ≤ 4095
  pub within : p.first + p.count ≤ length (all_variations gs)
  pub marked : MarkedFrom gs p cells
  pub variations : spanned gs p ≡ variations_of n gs

pub of_glyph : (gs : List Glyph) (cells : List CountCell) (n : ℕ) → MarksHeld gs cells → (o : Option Span) → MatchOption o (false ≡ begun n gs) (λ p. Spans gs n p) →
    (p : Span) → p ≡ unwrap_or o (record { first = 0; count = 0 }) → OfGlyph gs cells n p
of_glyph gs cells n h o m p e = subst (OfGlyph gs cells n) (sym e) (by o m)
  where
    by : (o : Option Span) → MatchOption o (false ≡ begun n gs) (λ p. Spans gs n p) → OfGlyph gs cells n (unwrap_or o (record { first = 0; count = 0 }))
    by None e = record { few = omega arith; within = omega arith; marked = λ j l. absurd (omega arith); variations = sym (none_begun n gs e) }
    by (Some p) s = record { few = s.few; within = s.within; marked = marked_from gs cells n p s h; variations = s.of_glyph }
