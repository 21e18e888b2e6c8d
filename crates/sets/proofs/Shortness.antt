-- The values that a set holds are signed 16-bit ones.
use Rattle.std.proofs.Common.{◌≡◌, ℕ, ◌*◌, true, List, [], ◌∷◌, map, take, refl, drop, ℤ, subst}
use Rattle.std.specs.List.{AllByRecursion}
use Rattle.std.proofs.ByRecursion.{All-take, All-drop, All-map}
use Rattle.std.proofs.lemmas.Bool.{ltb-true, lt-ltb, and_parts, and_from}
use Rattle.format.specs.Account.{Variation, ShortTent, ShortDelta, ShortVariation, ShortSet}
use Rattle.format.specs.Bytes.{Short, all}
use Rattle.variations.specs.declared.delta.GlyphDelta.{GlyphDelta}
use Rattle.variations.specs.Deltas.{delta_of}
use Rattle.sets.specs.declared.cells.GlyphCell.{GlyphCell}
use Rattle.sets.specs.declared.cells.VariationCell.{VariationCell}
use Rattle.tents.specs.declared.tent.Tent.{Tent}
use Rattle.tents.specs.Tents.{tent_of}
use Rattle.sets.specs.Layout.{Stores, tents_of, deal, dealt, groups, account_in}
use Rattle.sets.specs.Sound.{Sound, short_value, short_delta}
use Rattle.sets.proofs.Deal.{dealt_in_use}
use Rattle.sets.proofs.Lists.{all_true, true_all}

abbrev ShortCell : GlyphDelta → Type 0
ShortCell d = ShortDelta (delta_of d)

pub tents_tested : (part : Tent → ℤ) → ((t : Tent) → ShortTent (tent_of t) → Short (part t)) → (ts : List Tent) → AllByRecursion (λ t. ShortTent (tent_of t)) ts → all short_value (map part ts) ≡ true
tents_tested part short [] h = refl
tents_tested part short (t ∷ ts) h = and_from _ _ (lt-ltb _ _ (short t h.0)) (tents_tested part short ts h.1)

pub deltas_tested : (ds : List GlyphDelta) → AllByRecursion (λ d. ShortDelta (delta_of d)) ds → all short_delta ds ≡ true
deltas_tested ds h = all_true ShortCell short_delta (λ d q. and_from _ _ (lt-ltb _ _ q.0) (lt-ltb _ _ q.1)) ds h

tested_values : (xs : List ℤ) → all short_value xs ≡ true → AllByRecursion Short xs
tested_values xs h = true_all Short short_value (λ z q. ltb-true _ _ q) xs h

tested_deltas : (ds : List GlyphDelta) → all short_delta ds ≡ true → AllByRecursion ShortCell ds
tested_deltas ds h = true_all ShortCell short_delta (λ d q. let p = and_parts (short_value d.x) (short_value d.y) q in (ltb-true _ _ p.0, ltb-true _ _ p.1)) ds h

short_tents : (ps ss es : List ℤ) → AllByRecursion Short ps → AllByRecursion Short ss → AllByRecursion Short es → AllByRecursion ShortTent (tents_of ps ss es)
short_tents [] ss es p q r = tt
short_tents (x ∷ ps) [] es p q r = tt
short_tents (x ∷ ps) (y ∷ ss) [] p q r = tt
short_tents (x ∷ ps) (y ∷ ss) (z ∷ es) p q r = ((p.0, q.0, r.0), short_tents ps ss es p.1 q.1 r.1)

short_deal : (a : ℕ) (cs : List VariationCell) (xs : List ℤ) (ds : List GlyphDelta) → AllByRecursion Short xs → AllByRecursion ShortCell ds → AllByRecursion ShortVariation (deal a cs xs ds)
short_deal a [] xs ds h k = tt
short_deal a (c ∷ cs) xs ds h k = (
  (
    short_tents (take a xs) (take a (drop a xs)) (take a (drop (2 * a) xs)) (All-take Short a xs h) (All-take Short a (drop a xs) (All-drop Short a xs h)) (All-take Short a (drop (2 * a) xs) (All-drop Short (2 * a) xs h)),
    All-map ShortDelta delta_of (take c.deltas ds) (All-take ShortCell c.deltas ds k),
  ),
  short_deal a cs (drop (3 * a) xs) (drop c.deltas ds) (All-drop Short (3 * a) xs h) (All-drop ShortCell c.deltas ds k),
)

short_groups : (cs : List GlyphCell) (vs : List Variation) → AllByRecursion ShortVariation vs → ShortSet (groups cs vs)
short_groups [] vs h = tt
short_groups (c ∷ cs) vs h = (All-take ShortVariation c.variations vs h, short_groups cs (drop c.variations vs) (All-drop ShortVariation c.variations vs h))

pub short_set : (s : Stores) → Sound s → ShortSet (account_in s).glyphs
short_set s h =
    short_groups (take s.begun s.glyphs) (dealt s)
    (subst (λ (vs : List Variation). AllByRecursion ShortVariation vs) (dealt_in_use s h)
    (short_deal s.axes (take s.added s.variations) (take (3 * s.axes * s.added) s.values) (take s.moved s.deltas) (tested_values _ h.short.0) (tested_deltas _ h.short.1)))
