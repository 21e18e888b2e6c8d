-- Required points compared point by point. Assumes nothing.
use Rattle.std.proofs.Common.{◌≡◌, ℕ, zero, suc, ◌+◌, ◌<◌, ◌≤◌, Bool, true, false, cond, eqb, List, [], ◌∷◌, length, get_or, MatchBool, sym, refl, ap, ◌∙◌, subst, inl, inr, arith}
use Rattle.std.specs.List.{AllWithin, HoldsAt, range_with_len}
use Rattle.std.proofs.lemmas.Bool.{cases_lt, eq-eqb, ne_eqb, eqb-true, cond-false}
use Rattle.std.proofs.lemmas.List.{get_or_past}
use Rattle.std.proofs.lemmas.List.FromFn.{length-range_with_len, get_or-range_with_len}
use Rattle.format.specs.Bytes.{any, same_list}
use Rattle.format.specs.Glyphs.{required_from}
use Rattle.format.proofs.Alike.{same_lists}
use Rattle.variations.specs.declared.delta.GlyphDelta.{GlyphDelta}
use Rattle.variations.specs.Deltas.{deltas_of}
use Rattle.counts.proofs.Classes.{refuted}
use Rattle.counting.specs.PointSets.{no_delta, required_at, points_itself}

abbrev points : ℕ → List GlyphDelta → List ℕ
points n ds = required_from n (deltas_of ds)

-- ---- points that agree make equal lists
equal_lists : (n : ℕ) (xs ys : List GlyphDelta) → ((k : ℕ) → required_at xs k ≡ required_at ys k) → points n xs ≡ points n ys
equal_lists n [] [] h = refl
equal_lists n [] (y ∷ ys) h = equal_lists (suc n) [] ys (λ k. h (suc k)) ∙ sym (cond-false y.required _ _ (sym (h 0)))
equal_lists n (x ∷ xs) [] h = cond-false x.required _ _ (h 0) ∙ equal_lists (suc n) xs [] (λ k. h (suc k))
equal_lists n (x ∷ xs) (y ∷ ys) h = rw (h 0, equal_lists (suc n) xs ys (λ k. h (suc k))) refl

-- ---- and a list says which points it has
ahead : (m n : ℕ) (ds : List GlyphDelta) → m < n → any (eqb m) (points n ds) ≡ false
ahead m n [] h = refl
ahead m n (d ∷ ds) h = by d.required (ahead m (suc n) ds (omega arith))
  where
    by : (b : Bool) → any (eqb m) (points (suc n) ds) ≡ false → any (eqb m) (cond b (n ∷ points (suc n) ds) (points (suc n) ds)) ≡ false
    by true q = rw (ne_eqb m n (λ e. omega arith)) q
    by false q = q

has_point : (n k j : ℕ) (ds : List GlyphDelta) → n + k ≡ j → any (eqb j) (points n ds) ≡ required_at ds k
has_point n k j [] e = refl
has_point n zero j (d ∷ ds) e = by d.required (ahead j (suc n) ds (omega arith))
  where
    by : (b : Bool) → any (eqb j) (points (suc n) ds) ≡ false → any (eqb j) (cond b (n ∷ points (suc n) ds) (points (suc n) ds)) ≡ b
    by true q = rw (eq-eqb j n (omega arith)) refl
    by false q = q
has_point n (suc k) j (d ∷ ds) e = by d.required (has_point (suc n) k j ds (omega arith))
  where
    by : (b : Bool) → any (eqb j) (points (suc n) ds) ≡ required_at ds k → any (eqb j) (cond b (n ∷ points (suc n) ds) (points (suc n) ds)) ≡ required_at ds k
    by true q = rw (ne_eqb j n (λ w. omega (arith, e))) q
    by false q = q

pub same_yes : (xs ys : List GlyphDelta) → ((k : ℕ) → required_at xs k ≡ required_at ys k) → true ≡ same_list eqb (points 0 xs) (points 0 ys)
same_yes xs ys h = sym (ap (λ (ps : List ℕ). same_list eqb (points 0 xs) ps) (sym (equal_lists 0 xs ys h)) ∙ points_itself (points 0 xs))

pub same_not : (xs ys : List GlyphDelta) (k : ℕ) → (required_at xs k ≡ required_at ys k → ⊥) → false ≡ same_list eqb (points 0 xs) (points 0 ys)
same_not xs ys k ne = sym (refuted (same_list eqb (points 0 xs) (points 0 ys)) (λ e.
    let q : points 0 xs ≡ points 0 ys = same_lists eqb eqb-true (points 0 xs) (points 0 ys) e in
    ne (sym (has_point 0 k k xs (omega arith)) ∙ ap (λ (ps : List ℕ). any (eqb k) ps) q ∙ has_point 0 k k ys (omega arith))))

-- ---- all points below n tested, n beyond both lists
pub same_from_all : (xs ys : List GlyphDelta) (n : ℕ) (r : Bool) → length xs ≤ n → length ys ≤ n →
    MatchBool r (AllWithin (λ k. required_at xs k ≡ required_at ys k) (range_with_len 0 n) 0 (length (range_with_len 0 n)))
    ((k : ℕ) × (k < length (range_with_len 0 n)) × HoldsAt (λ k. required_at xs k ≡ required_at ys k → ⊥) (range_with_len 0 n) k) →
    r ≡ same_list eqb (points 0 xs) (points 0 ys)
same_from_all xs ys n true lx ly h = same_yes xs ys (λ k. elim (cases_lt k n) [
  | inl l ↦
      let w : k < length (range_with_len 0 n) = omega (arith, length-range_with_len 0 n) in
      let e : get_or (range_with_len 0 n) k 0 ≡ k = get_or-range_with_len 0 n k 0 l ∙ omega arith in
      subst (λ (j : ℕ). required_at xs j ≡ required_at ys j) e (h k 0 (omega arith) w)
  | inr l ↦
      let mx : length xs ≤ k = omega arith in
      let my : length ys ≤ k = omega arith in
      ap (λ (d : GlyphDelta). d.required) (get_or_past xs k no_delta mx ∙ sym (get_or_past ys k no_delta my))
])
same_from_all xs ys n false lx ly h = same_not xs ys (get_or (range_with_len 0 n) h.0 0) (h.2 0)
