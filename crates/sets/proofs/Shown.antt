-- Where a variation and a glyph lie in the stores.
use Rattle.std.proofs.Common.{◌≡◌, ℕ, zero, suc, ◌+◌, ◌*◌, ◌<◌, ◌≤◌, List, [], ◌∷◌, ◌++◌, map, length, get_or, take, drop, ℤ, sym, refl, ap, ◌∙◌, le_of_suc-le-suc, not-suc-le-zero, mul-le-mul, mul-zero, mul-suc, arith, length-drop, take-append-drop, length-take-le, get_or-take, take-take, drop-drop}
use Rattle.std.proofs.lemmas.List.{length-map, drop-take}
use Rattle.std.proofs.lemmas.Bool.{eq-eqb, ne_eqb}
use Rattle.format.specs.Account as account
use Rattle.format.specs.Account.{Variation}
use Rattle.format.specs.Glyphs.{peak}
use Rattle.format.specs.Table.{variations_of}
use Rattle.variations.specs.declared.delta.GlyphDelta.{GlyphDelta}
use Rattle.variations.specs.Deltas.{delta_of, deltas_of}
use Rattle.sets.specs.declared.cells.GlyphCell.{GlyphCell}
use Rattle.sets.specs.declared.cells.VariationCell.{VariationCell}
use Rattle.sets.specs.Cells.{variations_in, deltas_in, blank_variation, start_at, deltas_at, blank_glyph, number_at, count_at, first_at}
use Rattle.sets.specs.Index.{Apart}
use Rattle.sets.specs.Layout.{Stores, account_in, dealt, deal, read, tents_of, groups}
use Rattle.sets.specs.Sound.{Sound}
use Rattle.sets.specs.Views.{all_variations, no_variation, variations_before, Spans}
use Rattle.sets.proofs.Chains.{seen_not}
use Rattle.sets.proofs.Deal.{length_deal}
use Rattle.sets.proofs.Lists.{begun_at}

none_left : {X : Type 0} (xs : List X) → 0 ≡ length xs → [] ≡ xs
none_left [] e = refl
none_left (x ∷ xs) e = absurd (omega arith)

flat_groups : (cs : List GlyphCell) (vs : List Variation) → variations_in cs ≡ length vs → all_variations (groups cs vs) ≡ vs
flat_groups [] vs e = none_left vs e
flat_groups (c ∷ cs) vs e =
    let l = length-drop c.variations vs in
    ap (λ (r : List Variation). take c.variations vs ++ r) (flat_groups cs (drop c.variations vs) (omega arith)) ∙ take-append-drop c.variations vs

module _ (s : Stores) (h : Sound s) where
  pub dealt_long : length (dealt s) ≡ s.added
  dealt_long = length_deal s.axes (take s.added s.variations) s.values s.deltas ∙ length-take-le s.added s.variations h.within.1

  pub all_is : all_variations (account_in s).glyphs ≡ dealt s
  all_is = flat_groups (take s.begun s.glyphs) (dealt s) (h.counted.0 ∙ sym dealt_long)

  pub all_long : length (all_variations (account_in s).glyphs) ≡ s.added
  all_long = ap length all_is ∙ dealt_long

deal_at : (a : ℕ) (cs : List VariationCell) (xs : List ℤ) (ds : List GlyphDelta) (i : ℕ) → i < length cs →
    get_or (deal a cs xs ds) i no_variation ≡ read a (get_or cs i blank_variation).deltas (drop (3 * a * i) xs) (drop (deltas_in (take i cs)) ds)
deal_at a [] xs ds i l = absurd (not-suc-le-zero l)
deal_at a (c ∷ cs) xs ds zero l = simp mul-zero
deal_at a (c ∷ cs) xs ds (suc i) l =
    let m : 3 * a * suc i ≡ 3 * a + 3 * a * i = mul-suc (3 * a) i ∙ omega arith in
    rw (m, ← drop-drop (3 * a * i) (3 * a) xs, ← drop-drop (deltas_in (take i cs)) c.deltas ds)
    (deal_at a cs (drop (3 * a) xs) (drop c.deltas ds) i (le_of_suc-le-suc l))

deltas_to : (cs : List VariationCell) (i : ℕ) → i < length cs → deltas_in (take i cs) + (get_or cs i blank_variation).deltas ≤ deltas_in cs
deltas_to [] i l = absurd (not-suc-le-zero l)
deltas_to (c ∷ cs) zero l = omega arith
deltas_to (c ∷ cs) (suc i) l = let k = deltas_to cs i (le_of_suc-le-suc l) in omega arith

module _ (s : Stores) (h : Sound s) (i : ℕ) (l : i < s.added) where
  abbrev cell : VariationCell
  cell = get_or s.variations i blank_variation

  abbrev cells : List VariationCell
  cells = take s.added s.variations

  cells_long : length cells ≡ s.added
  cells_long = length-take-le s.added s.variations h.within.1

  same_cell : get_or cells i blank_variation ≡ cell
  same_cell = get_or-take s.added s.variations i blank_variation l

  start_is : deltas_in (take i cells) ≡ cell.start
  start_is = ap deltas_in (take-take i s.added s.variations (omega arith)) ∙ sym (h.placed.1 i l)

  pub values_fit : 3 * s.axes * i + 3 * s.axes ≤ length s.values
  values_fit =
      let m : 3 * s.axes * suc i ≡ 3 * s.axes * i + 3 * s.axes = mul-suc (3 * s.axes) i ∙ omega arith in
      let k : 3 * s.axes * suc i ≤ 3 * s.axes * s.added = mul-le-mul (omega arith) l in
      omega (arith, h.within.2)

  pub deltas_fit : cell.start + cell.deltas ≤ length s.deltas
  deltas_fit =
      let ll = cells_long in
      let k = deltas_to cells i (omega arith) in
      let e = ap (λ (c : VariationCell). c.deltas) same_cell in
      let f = start_is in
      omega (arith, h.counted.1, h.within.3)

  pub in_cells : i < length s.variations
  in_cells = omega (arith, h.within.1)

  -- the variation, read at its places
  pub shown_is : get_or (all_variations (account_in s).glyphs) i no_variation ≡ read s.axes cell.deltas (drop (3 * s.axes * i) s.values) (drop cell.start s.deltas)
  shown_is =
      let ll = cells_long in
      ap (λ (vs : List Variation). get_or vs i no_variation) (all_is s h)
      ∙ deal_at s.axes cells s.values s.deltas i (omega arith)
      ∙ ap (λ (c : VariationCell). read s.axes c.deltas (drop (3 * s.axes * i) s.values) (drop (deltas_in (take i cells)) s.deltas)) same_cell
      ∙ ap (λ (n : ℕ). read s.axes cell.deltas (drop (3 * s.axes * i) s.values) (drop n s.deltas)) start_is

-- peaks, starts and ends of as many tents
pub peaks_of : (ps ss es : List ℤ) → length ps ≡ length ss → length ps ≡ length es → ps ≡ map (λ t. t.peak) (tents_of ps ss es)
peaks_of [] ss es e f = refl
peaks_of (p ∷ ps) [] es e f = absurd (omega arith)
peaks_of (p ∷ ps) (s ∷ ss) [] e f = absurd (omega arith)
peaks_of (p ∷ ps) (s ∷ ss) (x ∷ es) e f = ap (λ (r : List ℤ). p ∷ r) (peaks_of ps ss es (omega arith) (omega arith))

starts_of : (ps ss es : List ℤ) → length ps ≡ length ss → length ps ≡ length es → ss ≡ map (λ t. t.start) (tents_of ps ss es)
starts_of [] ss es e f = sym (none_left ss e)
starts_of (p ∷ ps) [] es e f = absurd (omega arith)
starts_of (p ∷ ps) (s ∷ ss) [] e f = absurd (omega arith)
starts_of (p ∷ ps) (s ∷ ss) (x ∷ es) e f = ap (λ (r : List ℤ). s ∷ r) (starts_of ps ss es (omega arith) (omega arith))

ends_of : (ps ss es : List ℤ) → length ps ≡ length ss → length ps ≡ length es → es ≡ map (λ t. t.end) (tents_of ps ss es)
ends_of [] ss es e f = sym (none_left es f)
ends_of (p ∷ ps) [] es e f = absurd (omega arith)
ends_of (p ∷ ps) (s ∷ ss) [] e f = absurd (omega arith)
ends_of (p ∷ ps) (s ∷ ss) (x ∷ es) e f = ap (λ (r : List ℤ). x ∷ r) (ends_of ps ss es (omega arith) (omega arith))

-- the first 3 a values, in three parts
module _ (a : ℕ) (xs : List ℤ) where
  all_three : take (3 * a) xs ≡ take (a + (a + a)) xs
  all_three = let e : 3 * a ≡ a + (a + a) = omega arith in ap (λ (n : ℕ). take n xs) e

  pub first_third : take a (take (3 * a) xs) ≡ take a xs
  first_third = take-take a (3 * a) xs (omega arith)

  behind_first : drop a (take (3 * a) xs) ≡ take (a + a) (drop a xs)
  behind_first = ap (drop a) all_three ∙ drop-take a (a + a) xs

  pub second_third : take a (drop a (take (3 * a) xs)) ≡ take a (drop a xs)
  second_third = ap (take a) behind_first ∙ take-take a (a + a) (drop a xs) (omega arith)

  pub last_third : drop a (drop a (take (3 * a) xs)) ≡ take a (drop (2 * a) xs)
  last_third =
      let e : a + a ≡ 2 * a = omega arith in
      ap (drop a) behind_first ∙ drop-take a a (drop a xs) ∙ ap (take a) (drop-drop a a xs ∙ ap (λ (n : ℕ). drop n xs) e)

-- the three rows of a variation
module _ (s : Stores) (h : Sound s) (i at : ℕ) (l : i < s.added) (is : at ≡ 3 * s.axes * i) where
  abbrev row : ℕ → List ℤ
  row k = take s.axes (drop k s.values)

  row_long : (k : ℕ) → k + s.axes ≤ length s.values → length (row k) ≡ s.axes
  row_long k q = let d = length-drop k s.values in length-take-le s.axes (drop k s.values) (omega arith)

  abbrev shown : Variation
  shown = get_or (all_variations (account_in s).glyphs) i no_variation

  shown_rows : shown ≡ record { tents = tents_of (row at) (row (at + s.axes)) (row (at + 2 * s.axes)); deltas = deltas_of (take (get_or s.variations i blank_variation).deltas (drop (get_or s.variations i blank_variation).start s.deltas)) }
  shown_rows =
      rw (is, ← drop-drop s.axes (3 * s.axes * i) s.values, ← drop-drop (2 * s.axes) (3 * s.axes * i) s.values) (shown_is s h i l)

  starts_long : length (row at) ≡ length (row (at + s.axes))
  starts_long = let v = values_fit s h i l in row_long at (omega arith) ∙ sym (row_long (at + s.axes) (omega arith))

  ends_long : length (row at) ≡ length (row (at + 2 * s.axes))
  ends_long = let v = values_fit s h i l in row_long at (omega arith) ∙ sym (row_long (at + 2 * s.axes) (omega arith))

  pub peak_shown : row at ≡ peak shown
  peak_shown = peaks_of (row at) (row (at + s.axes)) (row (at + 2 * s.axes)) starts_long ends_long ∙ ap (λ (v : Variation). peak v) (sym shown_rows)

  pub starts_shown : row (at + s.axes) ≡ map (λ t. t.start) shown.tents
  starts_shown = starts_of (row at) (row (at + s.axes)) (row (at + 2 * s.axes)) starts_long ends_long ∙ ap (λ (v : Variation). map (λ t. t.start) v.tents) (sym shown_rows)

  pub ends_shown : row (at + 2 * s.axes) ≡ map (λ t. t.end) shown.tents
  ends_shown = ends_of (row at) (row (at + s.axes)) (row (at + 2 * s.axes)) starts_long ends_long ∙ ap (λ (v : Variation). map (λ t. t.end) v.tents) (sym shown_rows)

  pub axes_shown : length shown.tents ≡ s.axes
  axes_shown =
      let v = values_fit s h i l in
      let p = peak_shown in
      let m = length-map shown.tents (λ t. t.peak) in
      sym m ∙ ap length (sym p) ∙ row_long at (omega arith)

  pub rows_long : (part : account.Tent → ℤ) (xs : List ℤ) → xs ≡ map part shown.tents → length xs ≡ s.axes
  rows_long part xs e = ap length e ∙ length-map shown.tents part ∙ axes_shown

  pub few_shown : (ds : List GlyphDelta) → deltas_of ds ≡ shown.deltas → length ds ≤ 32767
  few_shown ds is =
      let c = h.few.1 i l in
      let f = deltas_fit s h i l in
      let d = length-drop (start_at s.variations i) s.deltas in
      let t = length-take-le (deltas_at s.variations i) (drop (start_at s.variations i) s.deltas) (omega arith) in
      let m = length-map (take (deltas_at s.variations i) (drop (start_at s.variations i) s.deltas)) delta_of in
      let k = length-map ds delta_of in
      let e = ap length is ∙ ap (λ (v : Variation). length v.deltas) shown_rows in
      omega arith

  pub deltas_shown : deltas_of (take (get_or s.variations i blank_variation).deltas (drop (get_or s.variations i blank_variation).start s.deltas)) ≡ shown.deltas
  deltas_shown = ap (λ (v : Variation). v.deltas) (sym shown_rows)

-- the variations of a glyph, from the first place with its number
group_at : (n : ℕ) (cs : List GlyphCell) (vs : List Variation) (p : ℕ) → p < length cs → number_at cs p ≡ n → ((g : ℕ) → g < p → number_at cs g ≡ n → ⊥) →
    take (count_at cs p) (drop (variations_in (take p cs)) vs) ≡ variations_of n (groups cs vs)
group_at n [] vs p l e first = absurd (not-suc-le-zero l)
group_at n (c ∷ cs) vs zero l e first = rw (eq-eqb _ _ e) refl
group_at n (c ∷ cs) vs (suc p) l e first =
    rw (ne_eqb c.number n (λ q. first 0 (omega arith) q), ← drop-drop (variations_in (take p cs)) c.variations vs)
    (group_at n cs (drop c.variations vs) p (le_of_suc-le-suc l) e (λ g k q. first (suc g) (omega arith) q))

-- and how many variations stand before them
group_place : (n : ℕ) (cs : List GlyphCell) (vs : List Variation) (p : ℕ) → p < length cs → variations_in cs ≤ length vs → number_at cs p ≡ n → ((g : ℕ) → g < p → number_at cs g ≡ n → ⊥) →
    variations_in (take p cs) ≡ variations_before n (groups cs vs)
group_place n [] vs p l few e first = absurd (not-suc-le-zero l)
group_place n (c ∷ cs) vs zero l few e first = rw (eq-eqb _ _ e) refl
group_place n (c ∷ cs) vs (suc p) l few e first =
    let d = length-drop c.variations vs in
    let t = length-take-le c.variations vs (omega arith) in
    let r = group_place n cs (drop c.variations vs) p (le_of_suc-le-suc l) (omega arith) e (λ g k q. first (suc g) (omega arith) q) in
    rw (ne_eqb c.number n (λ q. first 0 (omega arith) q)) (omega arith)

pub variations_to : (cs : List GlyphCell) (i : ℕ) → i < length cs → variations_in (take i cs) + count_at cs i ≤ variations_in cs
variations_to [] i l = absurd (not-suc-le-zero l)
variations_to (c ∷ cs) zero l = omega arith
variations_to (c ∷ cs) (suc i) l = let k = variations_to cs i (le_of_suc-le-suc l) in omega arith

module _ (s : Stores) (h : Sound s) (d : Apart (number_at s.glyphs) s.begun) (n p : ℕ) (l : p < s.begun) (e : number_at s.glyphs p ≡ n) where
  abbrev used : List GlyphCell
  used = take s.begun s.glyphs

  used_long : length used ≡ s.begun
  used_long = length-take-le s.begun s.glyphs h.within.0

  same_at : (g : ℕ) → g < s.begun → get_or used g blank_glyph ≡ get_or s.glyphs g blank_glyph
  same_at g k = get_or-take s.begun s.glyphs g blank_glyph k

  first_is : variations_in (take p used) ≡ first_at s.glyphs p
  first_is = ap variations_in (take-take p s.begun s.glyphs (omega arith)) ∙ sym (h.placed.0 p l)

  pub spans : Spans (account_in s).glyphs n (record { first = first_at s.glyphs p; count = count_at s.glyphs p })
  spans =
      let ll = used_long in
      let f = first_is in
      let ce = ap (λ (c : GlyphCell). c.variations) (same_at p l) in
      let all = all_long s h in
      let to = variations_to used p (omega arith) in
      record {
        is_begun = begun_at n s.begun s.glyphs (dealt s) p h.within.0 l e;
        few = h.few.0 p l;
        place =
            sym f
            ∙ group_place n used (dealt s) p (omega arith) (omega (arith, h.counted.0, dealt_long s h)) (ap (λ (c : GlyphCell). c.number) (same_at p l) ∙ e)
            (λ g k q. seen_not (number_at s.glyphs) (number_at s.glyphs p) p (d p l) g k (ap (λ (c : GlyphCell). c.number) (sym (same_at g (omega arith))) ∙ q ∙ sym e));
        within = omega (arith, h.counted.0);
        of_glyph =
            ap (λ (vs : List Variation). take (count_at s.glyphs p) (drop (first_at s.glyphs p) vs)) (all_is s h)
            ∙ ap (λ (k : ℕ). take k (drop (first_at s.glyphs p) (dealt s))) (sym ce)
            ∙ ap (λ (k : ℕ). take (count_at used p) (drop k (dealt s))) (sym f)
            ∙ group_at n used (dealt s) p (omega arith) (ap (λ (c : GlyphCell). c.number) (same_at p l) ∙ e)
            (λ g k q. seen_not (number_at s.glyphs) (number_at s.glyphs p) p (d p l) g k (ap (λ (c : GlyphCell). c.number) (sym (same_at g (omega arith))) ∙ q ∙ sym e));
      }
