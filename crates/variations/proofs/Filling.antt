-- The bytes of runs, in any form.
use Rattle.std.proofs.Common.{◌≡◌, ℕ, suc, ◌+◌, ◌-◌, ◌*◌, ◌<◌, ◌≤◌, true, List, [], ◌∷◌, ◌++◌, map, length, take, Ok, Err, sym, refl, ap, ◌∙◌, arith, length-append}
use Rattle.std.specs.List.{AllByRecursion}
use Rattle.std.proofs.lemmas.List.{length-take-le}
use Rattle.format.specs.Bytes.{joined}
use Rattle.write.specs.declared.sink.SinkError.{SinkError}
use Rattle.write.specs.Sinks.{Standing, Fed}
use Rattle.write.specs.Steps.{kept}
use Rattle.write.proofs.Batches.{kept_fits, kept_never_full}
use Rattle.variations.specs.declared.runs.Run.{Run}
use Rattle.variations.specs.Forms.{Form, Lawful, run_bytes}
use Rattle.variations.specs.Runs.{RunAt, run_of}

no_bytes : (bs : List ℕ) → length bs ≡ 0 → bs ≡ []
no_bytes [] h = refl
no_bytes (b ∷ bs) h = absurd (omega arith)

module _ {K V : Type 0} (f : Form K V) (k : K) where
  -- a loop that hands over value by value: the first of n values of a list, and the m others
  pub record Turn (vs ws : List V) (n m : ℕ) (v : V) : Type 0 where
    pub holds : f.holds k v ≡ true
    pub enough : m ≤ length ws
    pub fit : AllByRecursion (λ x. f.holds k x ≡ true) (take m ws)
    pub bytes : joined (map (f.value_bytes k) (take n vs)) ≡ f.value_bytes k v ++ joined (map (f.value_bytes k) (take m ws))

  pub turn : (vs ws : List V) (n m : ℕ) (v : V) → vs ≡ v ∷ ws → n ≡ suc m → n ≤ length vs → AllByRecursion (λ x. f.holds k x ≡ true) (take n vs) → Turn vs ws n m v
  turn vs ws n m v e en h fit =
      let l = ap length e in
      let fit' : AllByRecursion (λ x. f.holds k x ≡ true) (take (suc m) (v ∷ ws)) = rw (e, en) at fit in
      record { holds = fit'.0; enough = omega arith; fit = fit'.1; bytes = rw (e, en) refl }

module _ {K V : Type 0} (f : Form K V) (most : ℕ) (law : Lawful f most) where
  length_values : (k : K) (vs : List V) → length (joined (map (f.value_bytes k) vs)) ≡ length vs * f.width k
  length_values k [] = omega arith
  length_values k (v ∷ vs) =
      omega (arith, length-append (f.value_bytes k v) (joined (map (f.value_bytes k) vs)), law.wide k v, length_values k vs)

  -- a kind of no width has no bytes
  pub values_none : (k : K) (vs : List V) → f.width k ≡ 0 → joined (map (f.value_bytes k) vs) ≡ []
  values_none k vs h = no_bytes _ (length_values k vs ∙ ap (λ w. length vs * w) h ∙ omega arith)

  pub bytes_none : (vs : List V) → vs ≡ [] → f.bytes vs ≡ []
  bytes_none vs e = ap f.bytes e ∙ law.joins [] ∙ ap (λ rs. joined (map (run_bytes f) rs)) (law.cuts [])

  module _ (values : ℕ → List V) (places p : ℕ) (r : Run K) (h : RunAt f most values places p r) where
    pub run_bytes_is : run_bytes f (run_of r (values p)) ≡ (f.flag r.kind + (r.count - 1)) ∷ joined (map (f.value_bytes r.kind) (take r.count (values p)))
    run_bytes_is = ap (λ n. (f.flag r.kind + (n - 1)) ∷ joined (map (f.value_bytes r.kind) (take r.count (values p)))) (length-take-le r.count (values p) h.enough)

    pub bytes_step : f.bytes (values p) ≡ run_bytes f (run_of r (values p)) ++ f.bytes (values r.after)
    bytes_step =
        law.joins (values p)
        ∙ ap (λ rs. joined (map (run_bytes f) rs)) h.first
        ∙ ap (λ bs. run_bytes f (run_of r (values p)) ++ bs) (sym (law.joins (values r.after)))

    length_run : length (run_bytes f (run_of r (values p))) ≡ 1 + r.count * f.width r.kind
    length_run =
        let l = length-take-le r.count (values p) h.enough in
        ap suc (length_values r.kind (take r.count (values p)) ∙ ap (λ n. n * f.width r.kind) l) ∙ omega arith

    length_step : length (f.bytes (values p)) ≡ 1 + r.count * f.width r.kind + length (f.bytes (values r.after))
    length_step =
        ap length bytes_step
        ∙ length-append (run_bytes f (run_of r (values p))) (f.bytes (values r.after))
        ∙ ap (λ n. n + length (f.bytes (values r.after))) length_run

    width_most : r.count * f.width r.kind ≤ 2 * r.count
    width_most = let w = law.narrow r.kind in grind arith

    -- an empty batch of n bytes, two for each value and one more, has room for it, and then shows it
    run_fits : (n : ℕ) (a : Standing) → 1 + 2 * most ≤ n → n ≤ a.allowance + length a.state → a.state ≡ [] → length (run_bytes f (run_of r (values r.start))) ≤ a.allowance
    run_fits n a big room e =
        rw h.starts (omega (arith, length_run, width_most, h.few, big, room, ap length e))

    pub run_shown : {a b : Standing} (n : ℕ) (shown : List ℕ) → 1 + 2 * most ≤ n → n ≤ a.allowance + length a.state → a.state ≡ [] → Fed kept (run_bytes f (run_of r (values r.start))) a b (Ok tt) →
        shown ≡ b.state → shown ≡ run_bytes f (run_of r (values p))
    run_shown {a} n shown big room e d s =
        let bs = run_bytes f (run_of r (values r.start)) in
        s ∙ (kept_fits (Ok tt) (run_fits n a big room e) d).1 ∙ ap (λ l. l ++ bs) e ∙ ap (λ q. run_bytes f (run_of r (values q))) h.starts

    pub run_never_full : {a b : Standing} (n : ℕ) (e : SinkError) → 1 + 2 * most ≤ n → n ≤ a.allowance + length a.state → a.state ≡ [] → Fed kept (run_bytes f (run_of r (values r.start))) a b (Err e) → ⊥
    run_never_full {a} n e big room empty d = kept_never_full e (run_fits n a big room empty) d

    -- a loop over the runs that adds up their sizes
    pub record Sized (from size n total : ℕ) : Type 0 where
      pub further : p < r.after
      pub bound : size + n + 3 * from ≤ 3 * r.after
      pub sum : size + n + length (f.bytes (values r.after)) ≡ total

    pub sized : (from size n total : ℕ) → n ≡ 1 + r.count * f.width r.kind → size + 3 * from ≤ 3 * p → size + length (f.bytes (values p)) ≡ total → Sized from size n total
    sized from size n total e b s =
        let z = length_step in
        let x = width_most in
        record { further = omega (arith, h.paced, h.some_values); bound = omega (arith, h.paced, h.some_values); sum = omega arith }
