-- The points of a view are those of the span's point sets. Assumes nothing.
use Rattle.std.proofs.Common.{◌≡◌, ℕ, ◌+◌, ◌<◌, ◌≤◌, Bool, true, false, cond, List, length, get_or, drop, sym, refl, ap, ◌∙◌, arith, length-drop, length-take-le}
use Rattle.std.proofs.lemmas.List.{get_or-map, get_or-take, get_or-drop, length-map}
use Rattle.format.specs.Account.{Delta, Glyph, Variation}
use Rattle.format.specs.Glyphs.{required_from, stored_points}
use Rattle.format.specs.Packed.{Points, every, only, packed_points}
use Rattle.variations.specs.Deltas.{delta_of, deltas_of}
use Rattle.tuples.specs.Choice.{kept_points}
use Rattle.sets.specs.declared.view.GlyphDeltas.{GlyphDeltas}
use Rattle.sets.specs.declared.view.Span.{Span}
use Rattle.sets.specs.Views.{all_variations, no_variation, Shows}
use Rattle.counting.specs.PointSets.{spanned, sets_of}
use Rattle.counting.proofs.Packed.{points_most}

kept_is : (b : Bool) (ds : List Delta) → kept_points b ds ≡ cond b every (only (required_from 0 ds))
kept_is true ds = refl
kept_is false ds = refl

shown_points : (a : ℕ) (r : GlyphDeltas) (v : Variation) → Shows a r v → kept_points r.stored.all (deltas_of r.deltas.now) ≡ stored_points v.deltas
shown_points a r v h =
    ap (λ (ds : List Delta). kept_points r.stored.all ds) h.deltas
    ∙ kept_is r.stored.all v.deltas
    ∙ ap (λ (b : Bool). cond b every (only (required_from 0 v.deltas))) h.stored.all_is

module _ (gs : List Glyph) (p : Span) (i : ℕ) (l : i < p.count) (within : p.first + p.count ≤ length (all_variations gs)) where
  abbrev shown : Variation
  shown = get_or (all_variations gs) (p.first + i) no_variation

  pub spanned_long : length (spanned gs p) ≡ p.count
  spanned_long = let d = length-drop p.first (all_variations gs) in length-take-le p.count (drop p.first (all_variations gs)) (omega arith)

  set_at : get_or (sets_of gs p) i every ≡ stored_points shown.deltas
  set_at =
      let k = spanned_long in
      let h : i < length (spanned gs p) = omega arith in
      get_or-map (λ v. stored_points v.deltas) (spanned gs p) i no_variation every h
      ∙ ap (λ (v : Variation). stored_points v.deltas) (get_or-take p.count (drop p.first (all_variations gs)) i no_variation l ∙ get_or-drop p.first (all_variations gs) i no_variation)

  -- variation i of the span, seen
  pub points_shown : (a : ℕ) (r : GlyphDeltas) → Shows a r shown → kept_points r.stored.all (deltas_of r.deltas.now) ≡ get_or (sets_of gs p) i every
  points_shown a r h = shown_points a r shown h ∙ sym set_at

  pub size_shown : (a : ℕ) (r : GlyphDeltas) → Shows a r shown → r.stored.points ≡ length (packed_points (get_or (sets_of gs p) i every))
  size_shown a r h = h.stored.points_are ∙ ap (λ (q : Points). length (packed_points q)) (sym set_at)

  pub size_most : (a : ℕ) (r : GlyphDeltas) → Shows a r shown → r.stored.points ≤ 98303
  size_most a r h =
      let m = points_most shown.deltas in
      let e = h.stored.points_are in
      let d = length-map r.deltas.now delta_of in
      let k = ap length h.deltas in
      let f = h.few in
      omega arith
