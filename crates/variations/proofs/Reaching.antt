-- How far a run reaches, in any form, and the loop that looks for its end.
use Rattle.std.proofs.Common.{◌≡◌, ℕ, zero, suc, ◌+◌, ◌-◌, ◌<◌, ◌≤◌, Bool, true, false, List, [], ◌∷◌, length, take, drop, Some, None, Option, sym, refl, ap, ◌∙◌, subst, arith}
use Rattle.std.proofs.lemmas.Bool.{cond_both, cond-true, cond-false}
use Rattle.std.specs.List.{AllByRecursion}
use Rattle.variations.specs.declared.runs.Step.{Step}
use Rattle.variations.specs.Forms.{Form, Lawful, Blind, first_kind, kind_ahead, reach}
use Rattle.variations.specs.Runs.{Stepped}

module _ {K V : Type 0} (f : Form K V) where
  pub reach_most : (k : K) (m : ℕ) (vs : List V) → reach f k m vs ≤ m
  reach_most k m [] = omega arith
  reach_most k zero (v ∷ vs) = omega arith
  reach_most k (suc m) (v ∷ vs) =
      cond_both (f.stops k (f.kind_of v) (first_kind f vs)) 0 (suc (reach f k m vs)) (λ n. n ≤ suc m) (λ _. omega arith) (λ _. omega (arith, reach_most k m vs))

  pub reach_within : (k : K) (m : ℕ) (vs : List V) → reach f k m vs ≤ length vs
  reach_within k m [] = omega arith
  reach_within k zero (v ∷ vs) = omega arith
  reach_within k (suc m) (v ∷ vs) =
      cond_both (f.stops k (f.kind_of v) (first_kind f vs)) 0 (suc (reach f k m vs)) (λ n. n ≤ suc (length vs)) (λ _. omega arith) (λ _. omega (arith, reach_within k m vs))

  pub reach_holds : {most : ℕ} (law : Lawful f most) (k : K) (m : ℕ) (vs : List V) → AllByRecursion (λ v. f.holds k v ≡ true) (take (reach f k m vs) vs)
  reach_holds law k m [] = tt
  reach_holds law k zero (v ∷ vs) = tt
  reach_holds law k (suc m) (v ∷ vs) =
      cond_both (f.stops k (f.kind_of v) (first_kind f vs)) 0 (suc (reach f k m vs)) (λ n. AllByRecursion (λ x. f.holds k x ≡ true) (take n (v ∷ vs))) (λ _. tt)
      (λ s. (law.taken k v (first_kind f vs) s, reach_holds law k m vs))

  -- one value more of a run over a list that begins with v, where n of `most` values are taken
  pub reach_go : (most : ℕ) (k : K) (n t : ℕ) (vs ws d : List V) (v : V) → n < most → vs ≡ v ∷ ws → f.stops k (f.kind_of v) (first_kind f ws) ≡ false →
      n + reach f k (most - n) vs ≡ t → drop (reach f k (most - n) vs) vs ≡ d →
      (n + 1 + reach f k (most - (n + 1)) ws ≡ t) × (drop (reach f k (most - (n + 1)) ws) ws ≡ d)
  reach_go most k n t vs ws d v h e s et ed =
      let m : most - n ≡ suc (most - (n + 1)) = omega arith in
      let r : reach f k (most - n) vs ≡ suc (reach f k (most - (n + 1)) ws) = rw (e, m) (cond-false _ _ _ s) in
      (omega arith, rw (r, e) at ed)

  pub reach_stop : (most : ℕ) (k : K) (n : ℕ) (vs ws : List V) (v : V) → n < most → vs ≡ v ∷ ws → f.stops k (f.kind_of v) (first_kind f ws) ≡ true → reach f k (most - n) vs ≡ 0
  reach_stop most k n vs ws v h e s =
      let m : most - n ≡ suc (most - (n + 1)) = omega arith in
      rw (e, m) (cond-true _ _ _ s)

  module _ (values : ℕ → List V) (places : ℕ) where
    kind_first : (p : ℕ) (o : Option (Step V)) → Stepped values places p o → kind_ahead f o ≡ first_kind f (values p)
    kind_first p None h = sym (ap (first_kind f) h)
    kind_first p (Some s) h = sym (ap (first_kind f) h.2)

    pub record StopTest (k : K) (at after : ℕ) (v : V) (b : Bool) : Type 0 where
      pub further : at < after
      pub inside : after ≤ places
      pub begins : values at ≡ v ∷ values after
      pub test : f.stops k (f.kind_of v) (first_kind f (values after)) ≡ b

    pub stop_test : (k kv : K) (kn : Option K) (at : ℕ) (this next : Option (Step V)) (s : Step V) (b : Bool) →
        this ≡ Some s → Stepped values places at this → Stepped values places s.after next → kv ≡ f.kind_of s.value → kn ≡ kind_ahead f next → b ≡ f.stops k kv kn → StopTest k at s.after s.value b
    stop_test k kv kn at this next s b e t n ev en eb =
        let t' : Stepped values places at (Some s) = subst (λ o. Stepped values places at o) e t in
        let g : kn ≡ first_kind f (values s.after) = en ∙ kind_first s.after next n in
        record { further = t'.0; inside = t'.1; begins = t'.2; test = cc }

    -- the same, where what follows is known, or does not matter
    pub seen_test : (sees : Bool) (law : sees ≡ false → Blind f) (k kv : K) (kn : Option K) (at : ℕ) (this next : Option (Step V)) (s : Step V) (b : Bool) →
        this ≡ Some s → Stepped values places at this → (sees ≡ true → Stepped values places s.after next) →
        kv ≡ f.kind_of s.value → kn ≡ kind_ahead f next → b ≡ f.stops k kv kn → StopTest k at s.after s.value b
    seen_test true law k kv kn at this next s b e t h ev ek eb = stop_test k kv kn at this next s b e t (h refl) ev ek eb
    seen_test false law k kv kn at this next s b e t h ev ek eb =
        let t' : Stepped values places at (Some s) = subst (λ o. Stepped values places at o) e t in
        let one : f.stops k (f.kind_of s.value) kn ≡ f.stops k (f.kind_of s.value) None = law refl k (f.kind_of s.value) kn in
        let other : f.stops k (f.kind_of s.value) (first_kind f (values s.after)) ≡ f.stops k (f.kind_of s.value) None = law refl k (f.kind_of s.value) (first_kind f (values s.after)) in
        record { further = t'.0; inside = t'.1; begins = t'.2; test = other ∙ sym one ∙ ap (λ x. f.stops k x kn) (sym ev) ∙ sym eb }
