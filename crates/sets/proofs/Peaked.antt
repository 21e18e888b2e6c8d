-- The rows of peaks are the peaks of the account.
use Rattle.std.proofs.Common.{◌≡◌, ℕ, zero, suc, ◌+◌, ◌-◌, ◌*◌, ◌<◌, ◌≤◌, List, [], ◌∷◌, ◌++◌, map, length, get_or, take, drop, ℤ, sym, refl, ap, ◌∙◌, subst, le_of_suc-le-suc, not-suc-le-zero, mul-zero, mul-suc, arith, length-drop, length-take-le, take-take, drop-drop}
use mathlib.Core.List.{map-append}
use Rattle.std.proofs.lemmas.List.{drop-take}
use Rattle.format.specs.Account.{Glyph, Variation}
use Rattle.format.specs.Glyphs.{peak, peaks_seen}
use Rattle.format.specs.Table.{variation_count}
use Rattle.variations.specs.declared.delta.GlyphDelta.{GlyphDelta}
use Rattle.sets.specs.declared.cells.VariationCell.{VariationCell}
use Rattle.sets.specs.Layout.{Stores, account_in, deal, dealt, read}
use Rattle.sets.specs.Rows.{rows}
use Rattle.sets.specs.Sound.{Sound}
use Rattle.sets.specs.Views.{all_variations}
use Rattle.sets.proofs.Full.{count_is}
use Rattle.sets.proofs.Shown.{peaks_of, all_is}

pub seen_is : (gs : List Glyph) → peaks_seen gs ≡ map peak (all_variations gs)
seen_is [] = refl
seen_is (g ∷ gs) = ap (λ (r : List (List ℤ)). map peak g.variations ++ r) (seen_is gs) ∙ sym (map-append peak g.variations (all_variations gs))

pub length_rows : (a : ℕ) (xs : List ℤ) (n : ℕ) → length (rows a xs n) ≡ n
length_rows a xs zero = refl
length_rows a xs (suc n) = ap suc (length_rows a (drop (3 * a) xs) n)

pub rows_at : (a : ℕ) (xs : List ℤ) (n i : ℕ) → i < n → take a (drop (3 * a * i) xs) ≡ get_or (rows a xs n) i []
rows_at a xs zero i l = absurd (not-suc-le-zero l)
rows_at a xs (suc n) zero l = simp mul-zero
rows_at a xs (suc n) (suc i) l =
    let m : 3 * a * suc i ≡ 3 * a + 3 * a * i = mul-suc (3 * a) i ∙ omega arith in
    rw (m, ← drop-drop (3 * a * i) (3 * a) xs) (rows_at a (drop (3 * a) xs) n i (le_of_suc-le-suc l))

rows_are : (a : ℕ) (cs : List VariationCell) (xs : List ℤ) (ds : List GlyphDelta) → 3 * a * length cs ≤ length xs → rows a xs (length cs) ≡ map peak (deal a cs xs ds)
rows_are a [] xs ds h = refl
rows_are a (c ∷ cs) xs ds h =
    let m : 3 * a * suc (length cs) ≡ 3 * a + 3 * a * length cs = mul-suc (3 * a) (length cs) ∙ omega arith in
    let l1 = length-drop a xs in
    let l2 = length-drop (2 * a) xs in
    let l3 = length-drop (3 * a) xs in
    let t0 = length-take-le a xs (omega arith) in
    let t1 = length-take-le a (drop a xs) (omega arith) in
    let t2 = length-take-le a (drop (2 * a) xs) (omega arith) in
    let e : take a xs ≡ peak (read a c.deltas xs ds) = peaks_of (take a xs) (take a (drop a xs)) (take a (drop (2 * a) xs)) (omega arith) (omega arith) in
    let r : rows a (drop (3 * a) xs) (length cs) ≡ map peak (deal a cs (drop (3 * a) xs) (drop c.deltas ds)) = rows_are a cs (drop (3 * a) xs) (drop c.deltas ds) (omega arith) in
    λ i. e i ∷ r i

module _ (s : Stores) (h : Sound s) where
  pub peaks_are : rows s.axes s.values s.added ≡ peaks_seen (account_in s).glyphs
  peaks_are =
      let l = length-take-le s.added s.variations h.within.1 in
      subst (λ (n : ℕ). rows s.axes s.values n ≡ map peak (dealt s)) l
      (rows_are s.axes (take s.added s.variations) s.values s.deltas (subst (λ (n : ℕ). 3 * s.axes * n ≤ length s.values) (sym l) h.within.2))
      ∙ ap (λ (vs : List Variation). map peak vs) (sym (all_is s h)) ∙ sym (seen_is (account_in s).glyphs)

  pub peaks_long : s.added ≡ length (peaks_seen (account_in s).glyphs)
  peaks_long = sym (length_rows s.axes s.values s.added) ∙ ap length peaks_are

rows_taken : (a : ℕ) (xs : List ℤ) (n m : ℕ) → 3 * a * n ≤ m → rows a (take m xs) n ≡ rows a xs n
rows_taken a xs zero m h = refl
rows_taken a xs (suc n) m h =
    let e : 3 * a * suc n ≡ 3 * a + 3 * a * n = mul-suc (3 * a) n ∙ omega arith in
    let r = rows_taken a (drop (3 * a) xs) n (m - 3 * a) (omega arith) in
    let q : m ≡ 3 * a + (m - 3 * a) = omega arith in
    let d : drop (3 * a) (take m xs) ≡ take (m - 3 * a) (drop (3 * a) xs) = ap (λ (k : ℕ). drop (3 * a) (take k xs)) q ∙ drop-take (3 * a) (m - 3 * a) xs in
    let t : take a (take m xs) ≡ take a xs = take-take a m xs (omega arith) in
    let k = ap (λ (ys : List ℤ). rows a ys n) d in
    cc

module _ (s : Stores) (h : Sound s) where
  abbrev used : List ℤ
  used = take (3 * s.axes * s.added) s.values

  -- the values in use, by the number of variations
  pub used_long : length used ≡ 3 * s.axes * variation_count (account_in s).glyphs
  used_long = length-take-le (3 * s.axes * s.added) s.values h.within.2 ∙ ap (λ (n : ℕ). 3 * s.axes * n) (count_is s h)

  pub used_rows : rows s.axes used (variation_count (account_in s).glyphs) ≡ peaks_seen (account_in s).glyphs
  used_rows =
      ap (λ (n : ℕ). rows s.axes used n) (sym (count_is s h))
      ∙ rows_taken s.axes s.values s.added (3 * s.axes * s.added) (omega arith)
      ∙ peaks_are s h
