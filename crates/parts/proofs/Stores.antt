-- What the store of a glyph holds, from what it keeps.
use Rattle.std.proofs.Common.{◌≡◌, ℕ, ◌+◌, ◌<◌, ◌≤◌, false, List, [], length, get_or, ltb, ℤ, Some, None, Option, IfSome, is_some, sym, ap, ◌∙◌, subst, arith}
use mathlib.Core.Option.{none, some}
use Rattle.std.proofs.ByRecursion.{All-get_or}
use Rattle.std.proofs.lemmas.List.{length-map}
use Rattle.std.proofs.lemmas.Bool.{ltb-true, ltb-false}
use Rattle.format.specs.Account.{Glyph, Variation}
use Rattle.format.specs.Glyphs.{peak, shared_index}
use Rattle.counts.specs.Cells.{rank_at, marked_at}
use Rattle.sets.specs.declared.view.GlyphDeltas.{GlyphDeltas}
use Rattle.sets.specs.OfSet.{account_of, glyphs_of}
use Rattle.sets.specs.Views.{all_variations, no_variation, Shows}
use Rattle.stores.specs.Parts.{variation_at}
use Rattle.tuples.specs.Headers.{index_of}
use Rattle.parts.specs.declared.store.GlyphStore.{GlyphStore}
use Rattle.counting.specs.Counted.{marks}
use Rattle.parts.specs.OfStore.{store_peaks, store_variations}
use Rattle.parts.proofs.Indices.{index_some, index_none}
use Rattle.parts.proofs.Peaks.{each_axis}
use Rattle.parts.proofs.Spans.{peaks_long, spanned_long, spanned_at, spanned_peak}

module _ (s : GlyphStore) where
  abbrev gs : List Glyph
  gs = glyphs_of s.parts.set.now

  abbrev first : ℕ
  first = s.span.first

  pub store_long : length (store_variations s) ≡ s.span.count
  unfolding store_variations
  store_long = spanned_long gs s.span s.within

  module _ (j : ℕ) (l : j < s.span.count) where
    pub store_shows : (r : GlyphDeltas) → Shows (account_of s.parts.set.now).axes r (get_or (all_variations gs) (first + j) no_variation) →
        Shows (account_of s.parts.set.now).axes r (variation_at (store_variations s) j)
    unfolding store_variations
    store_shows r h = subst (λ (v : Variation). Shows (account_of s.parts.set.now).axes r v) (sym (spanned_at gs s.span s.within j l)) h

    pub store_mark : marked_at s.parts.cells.now (first + j) ≡ get_or (marks (store_variations s)) j false
    unfolding store_variations
    store_mark = s.marked j l

    pub cell_there : first + j < length s.parts.cells.now
    cell_there = omega (arith, peaks_long gs, s.within, s.parts.counted.long)

    place : first + j < length (store_peaks s)
    unfolding store_peaks
    place = omega (arith, peaks_long gs, s.within)

    peak_is : get_or (store_peaks s) (first + j) [] ≡ peak (variation_at (store_variations s) j)
    unfolding store_peaks store_variations
    peak_is = spanned_peak gs s.span s.within j l

    store_index : (r : ℕ) → r ≡ rank_at s.parts.cells.now (first + j) → r < s.parts.peaks → some r ≡ shared_index (store_peaks s) (peak (variation_at (store_variations s) j))
    unfolding store_peaks
    store_index r e h =
        sym (index_some (store_peaks s) (first + j) place r (e ∙ s.parts.counted.ranks (first + j) place) (omega (arith, s.parts.shared)))
        ∙ ap (λ (p : List ℤ). shared_index (store_peaks s) p) peak_is

    store_no_index : (r : ℕ) → r ≡ rank_at s.parts.cells.now (first + j) → s.parts.peaks ≤ r → none ≡ shared_index (store_peaks s) (peak (variation_at (store_variations s) j))
    unfolding store_peaks
    store_no_index r e h =
        sym (index_none (store_peaks s) (first + j) place r (e ∙ s.parts.counted.ranks (first + j) place) (omega (arith, s.parts.shared)))
        ∙ ap (λ (p : List ℤ). shared_index (store_peaks s) p) peak_is

    -- the index that is given where the rank is that of a shared peak
    pub store_indexed : (r : ℕ) → r ≡ rank_at s.parts.cells.now (first + j) → (o : Option ℕ) → is_some o ≡ ltb r s.parts.peaks → IfSome o (λ i. i ≡ r) →
        index_of o ≡ shared_index (store_peaks s) (peak (variation_at (store_variations s) j))
    store_indexed r e None t h = store_no_index r e (ltb-false r s.parts.peaks (sym t))
    store_indexed r e (Some i) t h = ap some h ∙ store_index r e (ltb-true r s.parts.peaks (sym t))

    -- it has no more tents than a set may have axes
    pub store_axes : length (variation_at (store_variations s) j).tents ≤ 64
    unfolding store_peaks
    store_axes =
        let e = All-get_or (λ (p : List ℤ). length p ≡ (account_of s.parts.set.now).axes) (store_peaks s) (first + j) [] place (each_axis s.parts.set.now) in
        let p = ap length peak_is in
        let m = length-map (variation_at (store_variations s) j).tents (λ t. t.peak) in
        omega (arith, s.parts.set.now.axes.few)
