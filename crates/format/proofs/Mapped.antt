-- What a result said, told from what was made of it.
use Rattle.std.proofs.Common.{◌≡◌, Some, None, Ok, Err, Option, Result, MatchResult, IsErrAnd, subst}
use Rattle.std.specs.Result.{result_ok}

-- its error was mapped
module _ {T E D : Type 0} (P : Result T E → Type 0) (R : E → D → Type 0) (r : Result T E) (s : Result T D) (mapped : MatchResult r (λ x. s ≡ Ok x) (λ e. IsErrAnd s (R e))) where
  pub ok_told : (x : T) → s ≡ Ok x → P r → P (Ok x)
  ok_told x q = by r mapped
    where
      by : (r : Result T E) → MatchResult r (λ y. s ≡ Ok y) (λ e. IsErrAnd s (R e)) → P r → P (Ok x)
      by (Ok y) m h = let e : y ≡ x = cc in subst (λ (z : T). P (Ok z)) e h
      by (Err e) m h = absurd (subst (λ t. IsErrAnd t (R e)) q m)

  pub err_told : (d : D) → s ≡ Err d → P r → (e : E) × P (Err e) × R e d
  err_told d q = by r mapped
    where
      by : (r : Result T E) → MatchResult r (λ y. s ≡ Ok y) (λ e. IsErrAnd s (R e)) → P r → (e : E) × P (Err e) × R e d
      by (Ok y) m h = cc
      by (Err e) m h = (e, h, subst (λ t. IsErrAnd t (R e)) q m)

-- its error was dropped
module _ {T E : Type 0} (P : Result T E → Type 0) (r : Result T E) (o : Option T) (kept : o ≡ result_ok r) where
  pub some_told : (x : T) → o ≡ Some x → P r → P (Ok x)
  some_told x q = by r kept
    where
      by : (r : Result T E) → o ≡ result_ok r → P r → P (Ok x)
      by (Ok y) m h = let e : y ≡ x = cc in subst (λ (z : T). P (Ok z)) e h
      by (Err e) m h = cc

  pub none_told : o ≡ None → P r → (e : E) × P (Err e)
  none_told q = by r kept
    where
      by : (r : Result T E) → o ≡ result_ok r → P r → (e : E) × P (Err e)
      by (Ok y) m h = cc
      by (Err e) m h = (e, h)
