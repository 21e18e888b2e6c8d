-- Where the variations of the glyph at a place lie in the stores.
use Rattle.std.proofs.Common.{◌≡◌, ℕ, zero, suc, ◌<◌, ◌≤◌, List, [], ◌∷◌, length, get_or, take, drop, sym, refl, ap, ◌∙◌, le_of_suc-le-suc, not-suc-le-zero, arith, length-append, length-drop, length-take-le, get_or-take, take-take, drop-drop}
use Rattle.format.specs.Account.{Variation}
use Rattle.sets.specs.declared.cells.GlyphCell.{GlyphCell}
use Rattle.sets.specs.Cells.{variations_in, blank_glyph, count_at, first_at}
use Rattle.sets.specs.Layout.{Stores, account_in, dealt, groups}
use Rattle.sets.specs.Sound.{Sound}
use Rattle.sets.specs.Views.{all_variations, no_glyph, Lies}
use Rattle.sets.proofs.Full.{glyphs_long}
use Rattle.sets.proofs.Shown.{all_is, all_long, dealt_long, variations_to}

behind_at : (cs : List GlyphCell) (vs : List Variation) (p : ℕ) → variations_in cs ≤ length vs → length (all_variations (take p (groups cs vs))) ≡ variations_in (take p cs)
behind_at [] vs zero h = refl
behind_at [] vs (suc p) h = refl
behind_at (c ∷ cs) vs zero h = refl
behind_at (c ∷ cs) vs (suc p) h =
    let l = length-drop c.variations vs in
    let t = length-take-le c.variations vs (omega arith) in
    let k = behind_at cs (drop c.variations vs) p (omega arith) in
    let a = length-append (take c.variations vs) (all_variations (take p (groups cs (drop c.variations vs)))) in
    omega arith

group_of : (cs : List GlyphCell) (vs : List Variation) (p : ℕ) → p < length cs → take (count_at cs p) (drop (variations_in (take p cs)) vs) ≡ (get_or (groups cs vs) p no_glyph).variations
group_of [] vs p l = absurd (not-suc-le-zero l)
group_of (c ∷ cs) vs zero l = refl
group_of (c ∷ cs) vs (suc p) l =
    rw (← drop-drop (variations_in (take p cs)) c.variations vs) (group_of cs (drop c.variations vs) p (le_of_suc-le-suc l))

module _ (s : Stores) (h : Sound s) (p : ℕ) (l : p < s.begun) where
  abbrev used : List GlyphCell
  used = take s.begun s.glyphs

  used_long : length used ≡ s.begun
  used_long = length-take-le s.begun s.glyphs h.within.0

  same_at : get_or used p blank_glyph ≡ get_or s.glyphs p blank_glyph
  same_at = get_or-take s.begun s.glyphs p blank_glyph l

  first_is : variations_in (take p used) ≡ first_at s.glyphs p
  first_is = ap variations_in (take-take p s.begun s.glyphs (omega arith)) ∙ sym (h.placed.0 p l)

  pub lies : Lies (account_in s).glyphs p (record { first = first_at s.glyphs p; count = count_at s.glyphs p })
  lies =
      let ll = used_long in
      let f = first_is in
      let ce = ap (λ (c : GlyphCell). c.variations) same_at in
      let all = all_long s h in
      let long = glyphs_long s h in
      let dl = dealt_long s h in
      let to = variations_to used p (omega arith) in
      record {
        inside = omega arith;
        few = h.few.0 p l;
        within = omega (arith, h.counted.0);
        behind = sym f ∙ sym (behind_at used (dealt s) p (omega (arith, h.counted.0)));
        of_glyph =
            ap (λ (vs : List Variation). take (count_at s.glyphs p) (drop (first_at s.glyphs p) vs)) (all_is s h)
            ∙ ap (λ (k : ℕ). take k (drop (first_at s.glyphs p) (dealt s))) (sym ce)
            ∙ ap (λ (k : ℕ). take (count_at used p) (drop k (dealt s))) (sym f)
            ∙ group_of used (dealt s) p (omega arith);
      }
