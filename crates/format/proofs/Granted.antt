-- What a granted compile says: none of its conditions applies.
use Rattle.std.proofs.Common.{◌≡◌, ℕ, suc, ◌+◌, ◌<◌, ◌≤◌, true, ltb, List, [], ◌∷◌, length, ℤ, refl, arith}
use mathlib.Core.Option.{Option, none, some}
use Rattle.std.specs.List.{AllByRecursion}
use Rattle.std.proofs.lemmas.Bool.{not-false, ltb-false}
use Rattle.format.specs.Bytes.{joined}
use Rattle.format.specs.Account.{Variation, Glyph, Account, Declined, Condition, declined, iff, first_of}
use Rattle.format.specs.Packed.{Points}
use Rattle.format.specs.Glyphs.{peaks_seen, point_sets, shared_points, data_bytes, headers_bytes, listed}
use Rattle.format.specs.Table.{variations_of, glyphs_bytes, even_total, table_bytes, data_conditions, size_conditions, numbers_full, variation_count, compile_conditions, granted, answered, compile_answer}
use Rattle.format.proofs.Conditions.{Off, none_applies}
use Rattle.format.proofs.Lists.{all_parts, all_joined}

-- the sizes of a glyph with these variations fit their words
pub record Fits (ps : List (List ℤ)) (vs : List Variation) : Type 0 where
  pub data_fits : AllByRecursion (λ v. length (data_bytes (shared_points (point_sets vs)) v) ≤ 65535) vs
  pub headers_fit : 4 + length (headers_bytes ps (shared_points (point_sets vs)) vs) ≤ 65535

pub record Granted (a : ℕ) (gs : List Glyph) (cells allowance n : ℕ) : Type 0 where
  pub full : numbers_full gs ≡ true
  pub cells_suffice : variation_count gs ≤ cells
  pub each_fits : (i : ℕ) → i < length gs → Fits (peaks_seen gs) (variations_of i gs)
  pub total_fits : even_total (glyphs_bytes gs) ≤ 67108864
  pub table_fits : length (table_bytes a gs) ≤ allowance
  pub whole : n ≡ length (table_bytes a gs)

data_of : (s : Option Points) (g i : ℕ) (vs : List Variation) → AllByRecursion Off (data_conditions s g i vs) → AllByRecursion (λ v. length (data_bytes s v) ≤ 65535) vs
data_of s g i [] h = tt
data_of s g i (v ∷ vs) h = (ltb-false 65535 (length (data_bytes s v)) h.0, data_of s g (suc i) vs h.1)

fits_of : (ps : List (List ℤ)) (g : ℕ) (vs : List Variation) → AllByRecursion Off (size_conditions ps g vs) → Fits ps vs
fits_of ps g vs h =
    let s = shared_points (point_sets vs) in
    let last = iff (ltb 65535 (4 + length (headers_bytes ps s vs))) (declined 13 (some g) none none) in
    let p = all_parts Off (data_conditions s g 0 vs) (last ∷ []) h in
    record {
      data_fits = data_of s g 0 vs p.0;
      headers_fit = ltb-false 65535 (4 + length (headers_bytes ps s vs)) p.1.0;
    }

answer_none : (m n : ℕ) (o : Option Declined) → answered m o ≡ granted n → (o ≡ none) × (n ≡ m)
answer_none m n none e = (refl, (let g : n ≡ m = cc in g))
answer_none m n (some d) e = absurd (let z : ◌≡◌ {A = ℕ} 0 1 = cc in omega arith)

pub granted_says : (A : Account) (cells allowance n : ℕ) → compile_answer A cells allowance ≡ granted n → Granted A.axes A.glyphs cells allowance n
unfolding compile_answer
granted_says A cells allowance n e =
    let gs = A.glyphs in
    let sizes : List Condition = joined (listed 0 (length gs) (λ n. size_conditions (peaks_seen gs) n (variations_of n gs))) in
    let ends : List Condition =
    iff (ltb 67108864 (even_total (glyphs_bytes gs))) (declined 14 none none none)
    ∷ iff (ltb allowance (length (table_bytes A.axes gs))) (declined 15 none none none)
    ∷ [] in
    let r = answer_none (length (table_bytes A.axes gs)) n (first_of (compile_conditions A cells allowance)) e in
    let o = none_applies (compile_conditions A cells allowance) r.0 in
    let p = all_parts Off sizes ends o.1.1 in
    record {
      full = not-false (numbers_full gs) o.0;
      cells_suffice = ltb-false cells (variation_count gs) o.1.0;
      each_fits = λ i l. fits_of (peaks_seen gs) i (variations_of i gs)
          (all_joined Off (length gs) 0 (λ n. size_conditions (peaks_seen gs) n (variations_of n gs)) p.0 i i (omega arith) l);
      total_fits = ltb-false 67108864 (even_total (glyphs_bytes gs)) p.1.0;
      table_fits = ltb-false allowance (length (table_bytes A.axes gs)) p.1.1.0;
      whole = r.1;
    }
