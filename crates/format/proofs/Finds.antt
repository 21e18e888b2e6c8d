-- The points and deltas that a variation stores: every required point is found, each found one as handed in, and they rise.
use Rattle.std.proofs.Common.{◌≡◌, ℕ, zero, suc, ◌+◌, ◌≤◌, Bool, true, false, cond, T, eqb, List, [], ◌∷◌, map, length, sym, refl, ap, ◌∙◌, subst, add-zero, zero-add, arith}
use mathlib.Core.Option.{some}
use Rattle.std.proofs.lemmas.Bool.{eq-eqb, ne_eqb, eqb-true, le-leb, lt-ltb}
use Rattle.format.specs.Bytes.{passing}
use Rattle.format.specs.Account.{Delta}
use Rattle.format.specs.Glyphs.{required_from, required_deltas, xs_of, ys_of, listed, stores_all, stored_points, stored_deltas}
use Rattle.format.specs.Streams.{rises}
use Rattle.format.specs.Reader.{Move, moves_of, points_of}
use Rattle.format.specs.Movement.{delta_at, move_at}
use Rattle.format.specs.Packed.{every, only}

-- the points whose deltas pass, counted from n
abbrev chosen : (Delta → Bool) → ℕ → List Delta → List ℕ
chosen p n [] = []
chosen p n (d ∷ ds) = cond (p d) (n ∷ chosen p (suc n) ds) (chosen p (suc n) ds)

abbrev moves : (Delta → Bool) → ℕ → List Delta → List Move
moves p n ds = moves_of (chosen p n ds) (xs_of (passing p ds)) (ys_of (passing p ds))

abbrev move_of : ℕ → Delta → Move
move_of k d = record { point = k; x = d.x; y = d.y }

pub finds : (p : Delta → Bool) (n : ℕ) (ds : List Delta) (j : ℕ) (d : Delta) → delta_at ds j ≡ some d → p d ≡ true → move_at (moves p n ds) (n + j) ≡ some (move_of (n + j) d)
finds p n [] j d e t = absurd (let z : ◌≡◌ {A = ℕ} 0 1 = cc in omega arith)
finds p n (c ∷ ds) zero d e t =
    let f : c ≡ d = cc in
    rw (add-zero, f, t, eq-eqb n n refl)
finds p n (c ∷ ds) (suc j) d e t = by (p c) (finds p (suc n) ds j d e t)
  where
    by : (b : Bool) → move_at (moves p (suc n) ds) (suc n + j) ≡ some (move_of (suc n + j) d) →
        move_at (moves_of (cond b (n ∷ chosen p (suc n) ds) (chosen p (suc n) ds)) (xs_of (cond b (c ∷ passing p ds) (passing p ds))) (ys_of (cond b (c ∷ passing p ds) (passing p ds)))) (n + suc j)
        ≡ some (move_of (n + suc j) d)
    by true i = let s : suc n + j ≡ n + suc j = omega arith in rw (ne_eqb n (n + suc j) (λ g. omega arith)) (rw s at i)
    by false i = let s : suc n + j ≡ n + suc j = omega arith in rw s at i

pub finds_given : (p : Delta → Bool) (n : ℕ) (ds : List Delta) (k : ℕ) (m : Move) → move_at (moves p n ds) k ≡ some m →
    (j : ℕ) × (d : Delta) × (k ≡ n + j) × (delta_at ds j ≡ some d) × (m ≡ move_of k d)
finds_given p n [] k m e = absurd (let z : ◌≡◌ {A = ℕ} 0 1 = cc in omega arith)
finds_given p n (c ∷ ds) k m e = by (p c) (eqb n k) refl e (finds_given p (suc n) ds k m)
  where
    later : (j : ℕ) × (d : Delta) × (k ≡ suc n + j) × (delta_at ds j ≡ some d) × (m ≡ move_of k d) → (j : ℕ) × (d : Delta) × (k ≡ n + j) × (delta_at (c ∷ ds) j ≡ some d) × (m ≡ move_of k d)
    later f = (suc f.0, f.1, omega (arith, f.2), f.3, f.4)

    by : (b t : Bool) → eqb n k ≡ t →
        move_at (moves_of (cond b (n ∷ chosen p (suc n) ds) (chosen p (suc n) ds)) (xs_of (cond b (c ∷ passing p ds) (passing p ds))) (ys_of (cond b (c ∷ passing p ds) (passing p ds)))) k ≡ some m →
        (move_at (moves p (suc n) ds) k ≡ some m → (j : ℕ) × (d : Delta) × (k ≡ suc n + j) × (delta_at ds j ≡ some d) × (m ≡ move_of k d)) →
        (j : ℕ) × (d : Delta) × (k ≡ n + j) × (delta_at (c ∷ ds) j ≡ some d) × (m ≡ move_of k d)
    by false t q e i = later (i e)
    by true true q e i =
        let s : n ≡ k = eqb-true n k q in
        let f : some (move_of n c) ≡ some m = sym (rw q) ∙ e in
        let g : m ≡ move_of n c = cc in
        (0, c, omega arith, refl, g ∙ ap (λ (k : ℕ). move_of k c) s)
    by true false q e i = later (i (rw q at e))

-- What is stored

abbrev pub stored_moves : List Delta → List Move
stored_moves ds = moves_of (points_of (length ds) (stored_points ds)) (xs_of (stored_deltas ds)) (ys_of (stored_deltas ds))

chosen_all : (n : ℕ) (ds : List Delta) → chosen (λ d. true) n ds ≡ listed n (length ds) (λ i. i)
chosen_all n [] = refl
chosen_all n (d ∷ ds) = ap (λ (r : List ℕ). n ∷ r) (chosen_all (suc n) ds)

passing_all : (ds : List Delta) → passing (λ d. true) ds ≡ ds
passing_all [] = refl
passing_all (d ∷ ds) = ap (λ (r : List Delta). d ∷ r) (passing_all ds)

-- the stored moves are those of a choice that takes in every required delta
stored_choice : (ds : List Delta) → (p : Delta → Bool) × ((d : Delta) → d.required ≡ true → p d ≡ true) × (moves p 0 ds ≡ stored_moves ds)
stored_choice ds = by (stores_all ds)
  where
    by : (b : Bool) → (p : Delta → Bool) × ((d : Delta) → d.required ≡ true → p d ≡ true)
        × (moves p 0 ds ≡ moves_of (points_of (length ds) (cond b every (only (required_from 0 ds)))) (xs_of (cond b ds (required_deltas ds))) (ys_of (cond b ds (required_deltas ds))))
    by true = ((λ d. true), (λ d h. refl), rw (chosen_all 0 ds, passing_all ds))
    by false = ((λ d. d.required), (λ d h. h), refl)

is_true : (b : Bool) → T b → b ≡ true
is_true true h = refl
is_true false h = absurd h

pub stored_required : (ds : List Delta) (k : ℕ) (d : Delta) → delta_at ds k ≡ some d → T d.required → (m : Move) × (move_at (stored_moves ds) k ≡ some m)
stored_required ds k d e t =
    let s = stored_choice ds in
    let f = finds s.0 0 ds k d e (s.1 d (is_true d.required t)) in
    let z : 0 + k ≡ k = zero-add k in
    (record { point = 0 + k; x = d.x; y = d.y }, subst (λ (j : ℕ). move_at (stored_moves ds) j ≡ some (record { point = 0 + k; x = d.x; y = d.y })) z (subst (λ (ms : List Move). move_at ms (0 + k) ≡ some (record { point = 0 + k; x = d.x; y = d.y })) s.2 f))

pub stored_given : (ds : List Delta) (k : ℕ) (m : Move) → move_at (stored_moves ds) k ≡ some m → (d : Delta) × (delta_at ds k ≡ some d) × (m.x ≡ d.x) × (m.y ≡ d.y)
stored_given ds k m e =
    let s = stored_choice ds in
    let f = finds_given s.0 0 ds k m (subst (λ (ms : List Move). move_at ms k ≡ some m) (sym s.2) e) in
    let z : f.0 ≡ k = omega (arith, f.2) in
    (f.1, subst (λ (j : ℕ). delta_at ds j ≡ some f.1) z f.3, ap (λ (n : Move). n.x) f.4, ap (λ (n : Move). n.y) f.4)

-- the points of a choice rise, and are below the number of deltas
choice_rises : (p : Delta → Bool) (n low q : ℕ) (ds : List Delta) → low ≤ n → n + length ds ≤ q →
    rises low q (map (λ m. m.point) (moves_of (chosen p n ds) (xs_of (passing p ds)) (ys_of (passing p ds)))) ≡ true
choice_rises p n low q [] h k = refl
choice_rises p n low q (d ∷ ds) h k = by (p d) (choice_rises p (suc n) (suc n) q ds (omega arith) (omega arith)) (choice_rises p (suc n) low q ds (omega arith) (omega arith))
  where
    by : (b : Bool) → rises (suc n) q (map (λ m. m.point) (moves_of (chosen p (suc n) ds) (xs_of (passing p ds)) (ys_of (passing p ds)))) ≡ true →
        rises low q (map (λ m. m.point) (moves_of (chosen p (suc n) ds) (xs_of (passing p ds)) (ys_of (passing p ds)))) ≡ true →
        rises low q (map (λ m. m.point) (moves_of (cond b (n ∷ chosen p (suc n) ds) (chosen p (suc n) ds)) (xs_of (cond b (d ∷ passing p ds) (passing p ds))) (ys_of (cond b (d ∷ passing p ds) (passing p ds))))) ≡ true
    by true i j = rw (le-leb low n h, lt-ltb n q (omega arith)) i
    by false i j = j

pub stored_rise : (ds : List Delta) → rises 0 (length ds) (map (λ m. m.point) (stored_moves ds)) ≡ true
stored_rise ds =
    let s = stored_choice ds in
    subst (λ (ms : List Move). rises 0 (length ds) (map (λ m. m.point) ms) ≡ true) s.2 (choice_rises s.0 0 0 (length ds) ds (omega arith) (omega arith))
