-- When items are the same. Assumes nothing.
use Rattle.std.specs.Prelude.{◌≡◌, ℕ, ◌<◌, Bool, true, Decides, refl}
use Rattle.std.proofs.Common.{sym, ◌∙◌}

-- sameness of n items
pub record Sameness (alike : ℕ → ℕ → Bool) (n : ℕ) : Type 0 where
  pub reflexive : (i : ℕ) → i < n → alike i i ≡ true
  pub symmetric : (i j : ℕ) → i < n → j < n → alike i j ≡ true → alike j i ≡ true
  pub transitive : (i j k : ℕ) → i < n → j < n → k < n → alike i j ≡ true → alike j k ≡ true → alike i k ≡ true

-- items with a key, the same exactly if their keys are equal
pub sameness_by_key : {K : Type 0} (key : ℕ → K) (alike : ℕ → ℕ → Bool) (n : ℕ) → ((i j : ℕ) → Decides (alike i j) (key i ≡ key j)) → Sameness alike n
sameness_by_key key alike n d = record {
  reflexive = λ i _. (d i i).1 refl;
  symmetric = λ i j _ _ e. (d j i).1 (sym ((d i j).0 e));
  transitive = λ i j k _ _ _ e f. (d i k).1 ((d i j).0 e ∙ (d j k).0 f);
}
