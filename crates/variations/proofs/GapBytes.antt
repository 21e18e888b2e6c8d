-- The bytes of packed points: the count, and then the runs.
use Rattle.std.proofs.Common.{◌≡◌, ℕ, suc, ◌+◌, Bool, true, false, List, [], ◌∷◌, ◌++◌, map, length, cond, sym, refl, ap, ◌∙◌, sum_by, ◌≤◌, arith}
use Rattle.std.proofs.lemmas.List.Recursion.{is_sum_by}
use Rattle.std.proofs.lemmas.Bool.{cond_both}
use Rattle.format.specs.Account.{Delta}
use Rattle.format.specs.Bytes.{joined}
use Rattle.format.specs.Packed.{gaps_after, gap_run_bytes, count_bytes, cut_gaps_at_most}
use Rattle.format.specs.Glyphs.{required_from}
use Rattle.variations.specs.declared.delta.GlyphDelta.{GlyphDelta}
use Rattle.variations.specs.Deltas.{deltas_of}
use Rattle.variations.specs.Gaps.{gaps_from, gap_runs_bytes}
use Rattle.variations.specs.PointSets.{required_bytes}

length_gaps : (b : ℕ) (ps : List ℕ) → length (gaps_after b ps) ≡ length ps
length_gaps b [] = refl
length_gaps b (p ∷ ps) = ap suc (length_gaps p ps)

pub required_is : (ds : List GlyphDelta) → required_bytes ds ≡ count_bytes (length (required_from 0 (deltas_of ds))) ++ gap_runs_bytes (gaps_from ds 0)
required_is ds =
    let ps = required_from 0 (deltas_of ds) in
    ap (λ n. count_bytes (length ps) ++ joined (map gap_run_bytes (cut_gaps_at_most n (gaps_after 0 ps)))) (sym (length_gaps 0 ps))

-- how many points are required: as many from any number on
from_any : (n m : ℕ) (ds : List Delta) → length (required_from n ds) ≡ length (required_from m ds)
from_any n m [] = refl
from_any n m (d ∷ ds) = by d.required _ _ (from_any (suc n) (suc m) ds)
  where
    by : (b : Bool) (xs ys : List ℕ) → length xs ≡ length ys → length (cond b (n ∷ xs) xs) ≡ length (cond b (m ∷ ys) ys)
    by true xs ys e = ap suc e
    by false xs ys e = e

abbrev pub one_if_required : GlyphDelta → ℕ
one_if_required d = cond d.required 1 0

pub count_is : (ds : List GlyphDelta) → sum_by one_if_required ds ≡ length (required_from 0 (deltas_of ds))
count_is ds = sym (is_sum_by (λ ds. length (required_from 0 (deltas_of ds))) one_if_required refl (λ d ds. by d.required (deltas_of ds)) ds)
  where
    by : (b : Bool) (ds : List Delta) → length (cond b (0 ∷ required_from 1 ds) (required_from 1 ds)) ≡ cond b 1 0 + length (required_from 0 ds)
    by true ds = ap suc (from_any 1 0 ds) ∙ omega arith
    by false ds = from_any 1 0 ds ∙ omega arith

pub count_most : (n : ℕ) (ds : List GlyphDelta) → length (required_from n (deltas_of ds)) ≤ length ds
count_most n [] = omega arith
count_most n (d ∷ ds) =
    let r = required_from (suc n) (deltas_of ds) in
    let h = count_most (suc n) ds in
    cond_both d.required (n ∷ r) r (λ ps. length ps ≤ suc (length ds)) (λ _. omega arith) (λ _. omega arith)
