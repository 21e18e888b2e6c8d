-- The shared peaks that the parts of a table find through their cells.
use Rattle.std.proofs.Common.{◌≡◌, ℕ, ◌+◌, ◌<◌, ◌≤◌, List, [], ◌++◌, length, get_or, ℤ, Some, None, Option, IsSome, MatchOption, sym, refl, ap, ◌∙◌, subst, arith}
use Rattle.format.specs.Account.{Glyph}
use Rattle.format.specs.Bytes.{signed_words}
use Rattle.format.specs.Glyphs.{peaks_seen, shared_count, shared_peaks}
use Rattle.counts.specs.Cells.{order_at}
use Rattle.sets.specs.declared.view.GlyphDeltas.{GlyphDeltas}
use Rattle.sets.specs.OfSet.{account_of, glyphs_of}
use Rattle.sets.specs.Views.{all_variations, no_variation, Shows}
use Rattle.parts.specs.declared.set_parts.SetParts.{SetParts}
use Rattle.parts.specs.OfParts.{parts_glyphs}
use Rattle.parts.proofs.Peaks.{shared_inside, order_inside, order_peak, peaks_left, left_more, left_none}
use Rattle.parts.proofs.Spans.{peaks_long, peak_of}

module _ (p : SetParts) where
  abbrev gs : List Glyph
  gs = glyphs_of p.set.now

  counted : p.peaks ≡ shared_count (peaks_seen (parts_glyphs p))
  unfolding parts_glyphs
  counted = p.shared

  module _ (r : ℕ) (l : r < p.peaks) where
    shared : r < shared_count (peaks_seen gs)
    shared = omega (arith, p.shared)

    pub cell_inside : r < length p.cells.now
    cell_inside = omega (arith, shared_inside (peaks_seen gs) p.cells.now p.counted.orders r shared, p.counted.long)

    module _ (i : ℕ) (e : i ≡ order_at p.cells.now r) where
      order_has : i < length (all_variations gs)
      order_has = omega (arith, order_inside (peaks_seen gs) p.cells.now p.counted.orders r shared, peaks_long gs)

      shared_shown : (v : GlyphDeltas) → Shows (account_of p.set.now).axes v (get_or (all_variations gs) i no_variation) → v.peak.now ≡ get_or (shared_peaks (peaks_seen (parts_glyphs p))) r []
      unfolding parts_glyphs
      shared_shown v h =
          h.peak
          ∙ sym (peak_of gs i order_has)
          ∙ ap (λ (k : ℕ). get_or (peaks_seen gs) k []) e
          ∙ order_peak (peaks_seen gs) p.cells.now p.counted.orders r shared

      -- the set shows it
      abbrev pub Viewed : Option GlyphDeltas → Type 0
      Viewed o = MatchOption o (length (all_variations gs) ≤ i) (λ v. (i < length (all_variations gs)) × Shows (account_of p.set.now).axes v (get_or (all_variations gs) i no_variation))

      pub first_some : (o : Option GlyphDeltas) → Viewed o → IsSome o
      first_some None h = absurd (omega (arith, order_has, h))
      first_some (Some v) h = refl

      pub first_shown : (o : Option GlyphDeltas) → Viewed o → (v : GlyphDeltas) → o ≡ Some v → v.peak.now ≡ get_or (shared_peaks (peaks_seen (parts_glyphs p))) r []
      first_shown o h v s = shared_shown v (subst Viewed s h).1

    -- one shared peak more
    pub peak_more : (ws : List ℤ) → ws ≡ get_or (shared_peaks (peaks_seen (parts_glyphs p))) r [] → peaks_left (parts_glyphs p) r ≡ signed_words ws ++ peaks_left (parts_glyphs p) (r + 1)
    peak_more ws e =
        left_more (parts_glyphs p) r (omega (arith, counted)) ∙ ap (λ (zs : List ℤ). signed_words zs ++ peaks_left (parts_glyphs p) (r + 1)) (sym e)

  pub peak_last : (r : ℕ) → p.peaks ≤ r → peaks_left (parts_glyphs p) r ≡ []
  peak_last r l = left_none (parts_glyphs p) r (omega (arith, counted))
