-- Peaks as rows of a store of axis values: each takes a values, and the next begins 3 a further on. Assumes nothing.
use Rattle.std.specs.Prelude.{◌≡◌, ℕ, zero, suc, ◌*◌, ◌<◌, true, List, [], ◌∷◌, get_or, take, drop, ℤ, Decides, fold, slice_index_or}
use Rattle.std.proofs.Common.{ap, subst, of_z}
use Rattle.std.specs.Int.{w16}
use Rattle.format.specs.Bytes.{same_int, same_list}
use Rattle.format.specs.Glyphs.{same_peak}
use Rattle.format.proofs.Alike.{same_values, same_lists, same_itself}
use Rattle.counts.specs.Hashes.{mix}
use Rattle.counts.specs.Sameness.{Sameness, sameness_by_key}

-- the peaks of n variations
abbrev pub rows : ℕ → List ℤ → ℕ → List (List ℤ)
rows a xs zero = []
rows a xs (suc n) = take a xs ∷ rows a (drop (3 * a) xs) n

-- the hash of a row
abbrev pub hash_of : List ℤ → ℕ
hash_of zs = fold (λ h z. mix h (of_z w16 z)) 0 zs

-- peaks are the same exactly if their values are equal
pub peaks_decide : (p q : List ℤ) → Decides (same_list same_int p q) (p ≡ q)
peaks_decide p q = (λ e. same_lists same_int same_values p q e, λ e. subst (λ (r : List ℤ). same_list same_int p r ≡ true) e (same_itself p))

pub peaks_sameness : (ps : List (List ℤ)) (n : ℕ) → Sameness (same_peak ps) n
peaks_sameness ps n = sameness_by_key (λ i. get_or ps i []) (same_peak ps) n (λ i j. peaks_decide (slice_index_or ps i []) (slice_index_or ps j []))

-- and then their hashes are
pub peaks_agree : (ps : List (List ℤ)) (n i j : ℕ) → i < n → j < n → same_peak ps i j ≡ true → hash_of (slice_index_or ps i []) ≡ hash_of (slice_index_or ps j [])
peaks_agree ps n i j _ _ e = ap hash_of ((peaks_decide (slice_index_or ps i []) (slice_index_or ps j [])).0 e)
