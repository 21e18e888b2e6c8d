-- The cut of a list, one run at a time, in any form.
use Rattle.std.proofs.Common.{◌≡◌, ℕ, zero, suc, ◌+◌, ◌-◌, ◌≤◌, true, List, [], ◌∷◌, length, take, drop, Some, sym, refl, ap, ◌∙◌, subst, arith, length-drop}
use Rattle.std.specs.List.{AllByRecursion}
use Rattle.variations.specs.Forms.{Cut, Form, Lawful, reach, cut_at_most}
use Rattle.variations.specs.Runs.{Stepped, RunAt}
use Rattle.variations.proofs.Reaching.{reach_most, reach_within, reach_holds}

module _ {K V : Type 0} (f : Form K V) (most : ℕ) where
  -- more runs allowed change nothing
  cut_fuel : (a b : ℕ) (vs : List V) → length vs ≤ a → length vs ≤ b → cut_at_most f most a vs ≡ cut_at_most f most b vs
  cut_fuel zero zero vs h i = refl
  cut_fuel zero (suc b) [] h i = refl
  cut_fuel zero (suc b) (v ∷ vs) h i = absurd (omega arith)
  cut_fuel (suc a) zero [] h i = refl
  cut_fuel (suc a) zero (v ∷ vs) h i = absurd (omega arith)
  cut_fuel (suc a) (suc b) [] h i = refl
  cut_fuel (suc a) (suc b) (v ∷ vs) h i =
      let n = reach f (f.kind_of v) (most - 1) vs in
      let l = length-drop n vs in
      ap (λ (rs : List (Cut K V)). record { kind = f.kind_of v; values = v ∷ take n vs } ∷ rs) (cut_fuel a b (drop n vs) (omega arith) (omega arith))

  module _ (law : Lawful f most) where
    cut_step : (v : V) (vs : List V) → let n = reach f (f.kind_of v) (most - 1) vs in f.cut (v ∷ vs) ≡ record { kind = f.kind_of v; values = v ∷ take n vs } ∷ f.cut (drop n vs)
    cut_step v vs =
        let n = reach f (f.kind_of v) (most - 1) vs in
        let l = length-drop n vs in
        let first : Cut K V = record { kind = f.kind_of v; values = v ∷ take n vs } in
        law.cuts (v ∷ vs)
        ∙ ap (λ rs. first ∷ rs) (cut_fuel (length vs) (length (drop n vs)) (drop n vs) (omega arith) (omega arith) ∙ sym (law.cuts (drop n vs)))

    -- a run from its first value v and the count of those that follow
    pub run_at : (values : ℕ → List V) (places p second n after : ℕ) (v : V) (k : K) →
        Stepped values places p (Some (record { value = v; after = second })) → k ≡ f.kind_of v →
        n ≡ 1 + reach f k (most - 1) (values second) → values after ≡ drop (reach f k (most - 1) (values second)) (values second) →
        second + n ≤ after + 1 → after ≤ places →
        RunAt f most values places p (record { kind = k; count = n; start = p; after = after })
    run_at values places p second n after v k s ek en ea pace inside =
        let vs = values second in
        let b = s.2 in
        let m : n ≡ suc (reach f (f.kind_of v) (most - 1) vs) = en ∙ ap (λ j. 1 + reach f j (most - 1) vs) ek ∙ omega arith in
        let a = reach_most f (f.kind_of v) (most - 1) vs in
        let w = reach_within f (f.kind_of v) (most - 1) vs in
        let ea' : values after ≡ drop (reach f (f.kind_of v) (most - 1) vs) vs = ea ∙ ap (λ j. drop (reach f j (most - 1) vs) vs) ek in
        record {
          starts = refl;
          some_values = omega arith;
          few = omega (arith, law.some_values);
          enough = rw b (omega arith);
          paced = omega (arith, s.0);
          within = inside;
          rest = rw (b, m) (sym ea');
          fit = subst (λ j. AllByRecursion (λ x. f.holds j x ≡ true) (take n (values p))) (sym ek) (rw (b, m) (law.own v, reach_holds f law (f.kind_of v) (most - 1) vs));
          first = rw (b, m, ek, ea') (cut_step v vs);
        }
