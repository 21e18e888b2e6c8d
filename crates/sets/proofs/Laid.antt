-- A turn of the loop that puts tents into the values.
use Rattle.std.proofs.Common.{◌≡◌, ℕ, zero, suc, ◌+◌, ◌*◌, ◌<◌, ◌≤◌, List, [], ◌∷◌, map, length, get_or, set, ℤ, pos, refl, ap, ◌∙◌, arith}
use Rattle.std.proofs.Math.Seq.{paste}
use Rattle.std.proofs.lemmas.List.Edits.{paste_more, length-paste}
use Rattle.std.proofs.lemmas.List.{length-map}
use Rattle.tents.specs.declared.tent.Tent.{Tent}
use Rattle.sets.specs.Writing.{laid}
use Rattle.sets.proofs.Filled.{peak_of, start_of, end_of}

-- a write in front of what was copied in
set_paste : (d : List ℤ) (b n k : ℕ) (s : List ℤ) (x : ℤ) → k < b → b ≤ length d → set (paste d b s n) k x ≡ paste (set d k x) b s n
set_paste [] b n k s x l h = absurd (omega arith)
set_paste (y ∷ d) zero n k s x l h = absurd (omega arith)
set_paste (y ∷ d) (suc b) n zero s x l h = let e : suc b + n ≡ suc (b + n) = omega arith in rw e refl
set_paste (y ∷ d) (suc b) n (suc k) s x l h =
    let e : suc b + n ≡ suc (b + n) = omega arith in
    rw e (ap (λ (r : List ℤ). y ∷ r) (set_paste d b n k s x (omega arith) (omega arith)))

module _ (xs : List ℤ) (at : ℕ) (ts : List Tent) (i : ℕ) (fits : at + 3 * length ts ≤ length xs) (more : i < length ts) where
  abbrev n : ℕ
  n = length ts

  abbrev ps : List ℤ
  ps = map peak_of ts

  abbrev ss : List ℤ
  ss = map start_of ts

  abbrev es : List ℤ
  es = map end_of ts

  abbrev p : ℤ
  p = get_or ps i (pos 0)

  abbrev s : ℤ
  s = get_or ss i (pos 0)

  abbrev e : ℤ
  e = get_or es i (pos 0)

  -- the peaks, and the starts behind them
  abbrev first : ℕ → List ℤ
  first j = paste xs at ps j

  abbrev second : ℕ → ℕ → List ℤ
  second j k = paste (first j) (at + n) ss k

  abbrev third : ℕ → ℕ → ℕ → List ℤ
  third j k m = paste (second j k) (at + n + n) es m

  first_long : (j : ℕ) → j ≤ n → length (first j) ≡ length xs
  first_long j l = let m = length-map ts peak_of in length-paste xs at ps j (omega arith) (omega arith)

  second_long : (j k : ℕ) → j ≤ n → k ≤ n → length (second j k) ≡ length xs
  second_long j k l h =
      let f = first_long j l in
      let m = length-map ts start_of in
      length-paste (first j) (at + n) ss k (omega arith) (omega arith) ∙ f

  peak_laid : set (third i i i) (at + i) p ≡ third (i + 1) i i
  peak_laid =
      let f = first_long i (omega arith) in
      let g = second_long i i (omega arith) (omega arith) in
      let m = length-map ts peak_of in
      set_paste (second i i) (at + n + n) i (at + i) es p (omega arith) (omega arith)
      ∙ ap (λ (d : List ℤ). paste d (at + n + n) es i)
      (set_paste (first i) (at + n) i (at + i) ss p (omega arith) (omega arith)
      ∙ ap (λ (d : List ℤ). paste d (at + n) ss i) (paste_more xs at ps i (pos 0) (omega arith) (omega arith)))

  start_laid : set (third (i + 1) i i) (at + n + i) s ≡ third (i + 1) (i + 1) i
  start_laid =
      let f = first_long (i + 1) (omega arith) in
      let g = second_long (i + 1) i (omega arith) (omega arith) in
      let m = length-map ts start_of in
      set_paste (second (i + 1) i) (at + n + n) i (at + n + i) es s (omega arith) (omega arith)
      ∙ ap (λ (d : List ℤ). paste d (at + n + n) es i) (paste_more (first (i + 1)) (at + n) ss i (pos 0) (omega arith) (omega arith))

  end_laid : set (third (i + 1) (i + 1) i) (at + n + n + i) e ≡ third (i + 1) (i + 1) (i + 1)
  end_laid =
      let g = second_long (i + 1) (i + 1) (omega arith) (omega arith) in
      let m = length-map ts end_of in
      paste_more (second (i + 1) (i + 1)) (at + n + n) es i (pos 0) (omega arith) (omega arith)

  pub laid_more : set (set (set (laid xs at ts i) (at + i) p) (at + n + i) s) (at + n + n + i) e ≡ laid xs at ts (i + 1)
  laid_more =
      ap (λ (d : List ℤ). set (set d (at + n + i) s) (at + n + n + i) e) peak_laid
      ∙ ap (λ (d : List ℤ). set d (at + n + n + i) e) start_laid
      ∙ end_laid
