use Rattle.std.proofs.Common.{◌≡◌, ℕ, ◌<◌, ◌≤◌, Bool, true, false, ltb, MatchBool, List, length, take, sym, ap, ◌∙◌, subst, arith, get_or-take, length-take-le, rules, tests}
use Rattle.std.specs.List.{AllWithin, HoldsAt}
use Rattle.std.proofs.lemmas.Iterator.{cases_from_all, YieldsList-from_slice}
use Rattle.format.specs.Bytes.{all}
use Rattle.sets.specs.declared.cells.GlyphCell.{GlyphCell}
use Rattle.sets.specs.declared.set.Set.{Set}
use Rattle.sets.specs.Cells.{blank_glyph}
use Rattle.sets.specs.Layout.{dealt}
use Rattle.sets.specs.OfSet.{stores, sound_of, glyphs_of}
use Rattle.sets.proofs.Full.{glyphs_long, below_all, below_not}
use Rattle.sets.proofs.set.Set.all_below.Goals as goal

module _ (s : Set) where
  abbrev cells : List GlyphCell
  cells = take s.begun s.glyphs.now

  long : length cells ≡ s.begun
  long = length-take-le s.begun s.glyphs.now s.within.0

  tested : (r : Bool) →
      MatchBool r (AllWithin (λ x. x.number < s.begun) cells 0 (length cells)) ((k : ℕ) × (k < length cells) × HoldsAt (λ x. s.begun ≤ x.number) cells k) →
      r ≡ all (λ g. ltb g.number s.begun) (glyphs_of s)
  tested true h =
      let e = long in
      below_all s.begun s.begun s.glyphs.now (dealt (stores s)) s.within.0
      (λ i l. subst (λ (x : GlyphCell). x.number < s.begun) (get_or-take s.begun s.glyphs.now i blank_glyph l) (h i blank_glyph (omega arith) (omega arith)))
  tested false h =
      let e = long in
      let l : h.0 < s.begun = omega (arith, h.1) in
      below_not s.begun s.begun s.glyphs.now (dealt (stores s)) h.0 s.within.0 l
      (subst (λ (x : GlyphCell). s.begun ≤ x.number) (get_or-take s.begun s.glyphs.now h.0 blank_glyph l) (h.2 blank_glyph))

pub returns : goal.returns
returns c =
    let s = c.args.self.now in
    tested s c.all.result
    (cases_from_all _ _ _ (λ x. x.number < s.begun) (λ x. s.begun ≤ x.number) c.all.ensures.ran (YieldsList-from_slice (take s.begun s.glyphs.now) (cc))
    (λ x q k. search (rules, tests)) (λ x q k. search (rules, tests)))
    ∙ ap (λ (n : ℕ). all (λ g. ltb g.number n) (glyphs_of s)) (sym (glyphs_long (stores s) (sound_of s)))
