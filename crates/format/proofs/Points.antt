-- Packed points are read back, with a count of one byte or of two.
use Rattle.std.proofs.Common.{◌≡◌, ℕ, suc, ◌+◌, ◌-◌, ◌/◌, ◌%◌, ◌<◌, ◌≤◌, Bool, true, false, cond, leb, List, [], ◌∷◌, ◌++◌, map, length, refl, ap, ◌∙◌, arith}
use Rattle.std.proofs.lemmas.Bool.{le-leb, lt-leb, leb-true, leb-false, ne_eqb}
use Rattle.format.specs.Bytes.{word, pair, joined}
use Rattle.format.specs.Account.{Declined}
use Rattle.format.specs.Packed.{only, gap_run_bytes, gaps_after, cut_gaps_at_most, packed_points}
use Rattle.format.specs.Streams.{rest, rises, read_points, found}
use Rattle.format.proofs.Gaps.{point_runs_back}

-- with its count, of one byte or of two

abbrev runs_of : List ℕ → List ℕ
runs_of ps = joined (map gap_run_bytes (cut_gaps_at_most (length ps) (gaps_after 0 ps)))

short_count_back :
    (d : ℕ → ℕ → Declined) (p q : ℕ) (qs r : List ℕ) (at : ℕ) → length (q ∷ qs) ≤ 127 → p ≤ 65536 → rises 0 p (q ∷ qs) ≡ true →
    read_points d p (length (q ∷ qs) ∷ (runs_of (q ∷ qs) ++ r)) at ≡ found (rest (only (q ∷ qs)) r (at + (1 + length (runs_of (q ∷ qs)))))
short_count_back d p q qs r at few le up =
    rw (lt-leb 127 (length qs) (omega arith), point_runs_back d p (q ∷ qs) r (at + 1) le up)
    (ap (λ (n : ℕ). found (rest (only (q ∷ qs)) r n)) (omega arith))

long_count_back :
    (d : ℕ → ℕ → Declined) (p k : ℕ) (ps r : List ℕ) (at : ℕ) → length ps ≡ k → 127 < k → k ≤ 32767 → p ≤ 65536 → rises 0 p ps ≡ true →
    read_points d p (word (32768 + k) ++ (runs_of ps ++ r)) at ≡ found (rest (only ps) r (at + (2 + length (runs_of ps))))
long_count_back d p k ps r at e many few le up =
    let high : (32768 + k) / 256 % 256 ≡ suc (127 + k / 256) = omega arith in
    let low : pair (suc (127 + k / 256) - 128) ((32768 + k) % 256) ≡ length ps = omega arith in
    rw (high, le-leb 127 (127 + k / 256) (omega arith), low, ne_eqb (length ps) 0 (omega arith), point_runs_back d p ps r (at + 2) le up)
    (ap (λ (n : ℕ). found (rest (only ps) r n)) (omega arith))

-- what is stored: all points, or at least one and at most 32,767, which rise strictly and are below p
pub record Storable (p : ℕ) (ps : List ℕ) : Type 0 where
  pub some_points : 0 < length ps
  pub few : length ps ≤ 32767
  pub rising : rises 0 p ps ≡ true

pub packed_points_back :
    (d : ℕ → ℕ → Declined) (p : ℕ) (ps r : List ℕ) (at : ℕ) → p ≤ 65536 → Storable p ps →
    read_points d p (packed_points (only ps) ++ r) at ≡ found (rest (only ps) r (at + length (packed_points (only ps))))
packed_points_back d p [] r at le h = absurd (omega (arith, h.some_points))
packed_points_back d p (q ∷ qs) r at le h = by_test (leb (length (q ∷ qs)) 127) refl
  where
    by_test : (b : Bool) → leb (length (q ∷ qs)) 127 ≡ b →
        read_points d p ((cond b (length (q ∷ qs) ∷ []) (word (32768 + length (q ∷ qs))) ++ runs_of (q ∷ qs)) ++ r) at
        ≡ found (rest (only (q ∷ qs)) r (at + length (cond b (length (q ∷ qs) ∷ []) (word (32768 + length (q ∷ qs))) ++ runs_of (q ∷ qs))))
    by_test true e =
        short_count_back d p q qs r at (leb-true (length (q ∷ qs)) 127 e) le h.rising
        ∙ ap (λ (n : ℕ). found (rest (only (q ∷ qs)) r (at + n))) (omega arith)
    by_test false e =
        long_count_back d p (length (q ∷ qs)) (q ∷ qs) r at refl (leb-false (length (q ∷ qs)) 127 e) h.few le h.rising
        ∙ ap (λ (n : ℕ). found (rest (only (q ∷ qs)) r (at + n))) (omega arith)
