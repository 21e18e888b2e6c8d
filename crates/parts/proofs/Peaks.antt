-- The shared peaks of a set, from the cells, and their bytes.
use Rattle.std.proofs.Common.{◌≡◌, ℕ, zero, suc, ◌+◌, ◌*◌, ◌<◌, ◌≤◌, ◌&&◌, ltb, List, [], ◌++◌, map, length, get_or, drop, ℤ, sym, refl, ap, ◌∙◌, subst, mul-suc, arith, length-drop, length-take-le}
use Rattle.std.specs.List.{AllByRecursion}
use Rattle.std.proofs.lemmas.List.{at_drop_more, at_drop_all}
use Rattle.std.proofs.lemmas.Bool.{and_parts}
use Rattle.format.specs.Account.{Glyph}
use Rattle.format.specs.Bytes.{joined, signed_words}
use Rattle.format.specs.Glyphs.{peaks_seen, same_peak, peak_score, shared_count, shared_peaks}
use Rattle.format.specs.Ranked.{is_first, ranked}
use Rattle.format.proofs.Counts.{count_more}
use Rattle.format.proofs.Lists.{get_or_listed}
use Rattle.format.proofs.Padded.{peaks_size}
use Rattle.format.proofs.Peaks.{length_shared_peaks, few_shared_peaks, shared_keep}
use Rattle.format.proofs.Ranks.{ranked_below}
use Rattle.counts.specs.declared.cells.CountCell.{CountCell}
use Rattle.counts.specs.Cells.{order_at}
use Rattle.counts.specs.Ranking.{classes}
use Rattle.counts.proofs.Classes.{count_le}
use Rattle.sets.specs.declared.set.Set.{Set}
use Rattle.sets.specs.OfSet.{stores, account_of, glyphs_of, sound_of}
use Rattle.sets.specs.Rows.{rows}
use Rattle.sets.proofs.Peaked.{peaks_are}
use Rattle.tables.specs.Parts.{peak_count, peaks_data}
use Rattle.counting.specs.Counted.{OrdersHeld}

-- The first variation with each shared peak

module _ (ps : List (List ℤ)) (cells : List CountCell) (held : OrdersHeld ps cells) (r : ℕ) (l : r < shared_count ps) where
  ranks : r < classes (length ps) (same_peak ps)
  ranks =
      let m = count_more (length ps) (λ i. is_first (length ps) (same_peak ps) i && ltb 1 (peak_score ps i)) (is_first (length ps) (same_peak ps))
      (λ i k e. (and_parts (is_first (length ps) (same_peak ps) i) (ltb 1 (peak_score ps i)) e).0) in
      omega arith

  pub shared_inside : r < length ps
  shared_inside = omega (arith, ranks, count_le (length ps) (is_first (length ps) (same_peak ps)))

  pub order_inside : order_at cells r < length ps
  order_inside = subst (λ (i : ℕ). i < length ps) (sym (held r ranks)) (ranked_below (length ps) (same_peak ps) (peak_score ps) r ranks)

  pub order_peak : get_or ps (order_at cells r) [] ≡ get_or (shared_peaks ps) r []
  order_peak =
      ap (λ (i : ℕ). get_or ps i []) (held r ranks)
      ∙ sym (get_or_listed 0 (shared_count ps) (λ k. get_or ps (ranked (length ps) (same_peak ps) (peak_score ps) k) []) r r [] (omega arith) l)

-- How many there are, and how many bytes they have

rows_long : (a : ℕ) (xs : List ℤ) (n : ℕ) → 3 * a * n ≤ length xs → AllByRecursion (λ p. length p ≡ a) (rows a xs n)
rows_long a xs zero h = tt
rows_long a xs (suc n) h =
    let m : 3 * a * suc n ≡ 3 * a + 3 * a * n = mul-suc (3 * a) n ∙ omega arith in
    let d = length-drop (3 * a) xs in
    (length-take-le a xs (omega arith), rows_long a (drop (3 * a) xs) n (omega arith))

pub each_axis : (s : Set) → AllByRecursion (λ p. length p ≡ (account_of s).axes) (peaks_seen (glyphs_of s))
each_axis s =
    subst (λ (ps : List (List ℤ)). AllByRecursion (λ p. length p ≡ (account_of s).axes) ps) (peaks_are (stores s) (sound_of s))
    (rows_long s.axes.count s.values.now s.added s.within.2)

pub count_is : (gs : List Glyph) → shared_count (peaks_seen gs) ≡ peak_count gs
unfolding peak_count
count_is gs = sym (length_shared_peaks (peaks_seen gs))

pub count_few : (gs : List Glyph) → peak_count gs ≤ 4095
unfolding peak_count
count_few gs = few_shared_peaks (peaks_seen gs)

pub words_are : (s : Set) → length (peaks_data (glyphs_of s)) ≡ 2 * ((account_of s).axes * peak_count (glyphs_of s))
unfolding peaks_data peak_count
words_are s =
    let ps = peaks_seen (glyphs_of s) in
    peaks_size (account_of s).axes (shared_peaks ps) (shared_keep (λ p. length p ≡ (account_of s).axes) ps (each_axis s))

-- The bytes of the shared peaks from the r-th on

abbrev pub peaks_left : List Glyph → ℕ → List ℕ
peaks_left gs r = joined (map signed_words (drop r (shared_peaks (peaks_seen gs))))

pub left_first : (gs : List Glyph) → peaks_data gs ≡ peaks_left gs 0
unfolding peaks_data
left_first gs = refl

pub left_more : (gs : List Glyph) (r : ℕ) → r < shared_count (peaks_seen gs) → peaks_left gs r ≡ signed_words (get_or (shared_peaks (peaks_seen gs)) r []) ++ peaks_left gs (r + 1)
left_more gs r l = at_drop_more (λ qs. joined (map signed_words qs)) (shared_peaks (peaks_seen gs)) r [] (omega (arith, length_shared_peaks (peaks_seen gs)))

pub left_none : (gs : List Glyph) (r : ℕ) → shared_count (peaks_seen gs) ≤ r → peaks_left gs r ≡ []
left_none gs r l = at_drop_all (λ qs. joined (map signed_words qs)) (shared_peaks (peaks_seen gs)) r (omega (arith, length_shared_peaks (peaks_seen gs)))
