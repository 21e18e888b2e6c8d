-- The form of packed points keeps what every form keeps.
use Rattle.std.proofs.Common.{◌≡◌, ℕ, zero, suc, ◌+◌, ◌≤◌, Bool, true, false, cond, not, List, [], ◌∷◌, map, length, take, drop, Option, refl, ap, ◌∙◌, arith}
use Rattle.std.proofs.lemmas.Bool.{true≢false}
use Rattle.format.specs.Bytes.{joined}
use Rattle.format.specs.Packed.{is_wide, same_class, class_extent, GapRun, cut_gaps_at_most, gap_run_bytes}
use Rattle.kinds.specs.declared.point.PointKind.{PointKind}
use Rattle.kinds.specs.declared.point.PointKind.TheVariants.{Bytes, Words}
use Rattle.variations.specs.Forms.{Cut, Lawful, Blind, first_kind, reach, cut_at_most, run_bytes}
use Rattle.variations.specs.Gaps.{cut_gaps}
use Rattle.variations.specs.GapForm.{meant, kind_for, stops, flag, width, cut_of, gap_form}

-- a run stops before a gap that is not of its class
cond_not : {X : Type 0} (b : Bool) (x y : X) → cond (not b) x y ≡ cond b y x
cond_not true x y = refl
cond_not false x y = refl

stops_is : (w : Bool) (g : ℕ) (next : Option PointKind) → stops (kind_for w) (kind_for (is_wide g)) next ≡ not (same_class w g)
stops_is true g next = by (is_wide g)
  where
    by : (b : Bool) → stops Words (kind_for b) next ≡ not b
    by true = refl
    by false = refl
stops_is false g next = by (is_wide g)
  where
    by : (b : Bool) → stops Bytes (kind_for b) next ≡ not (not b)
    by true = refl
    by false = refl

extent_is : (w : Bool) (n : ℕ) (gs : List ℕ) → class_extent w n gs ≡ reach gap_form (kind_for w) n gs
extent_is w zero [] = refl
extent_is w zero (g ∷ gs) = refl
extent_is w (suc n) [] = refl
extent_is w (suc n) (g ∷ gs) = rw (stops_is w g (first_kind gap_form gs), cond_not (same_class w g) 0 (suc (reach gap_form (kind_for w) n gs)), extent_is w n gs) refl

-- the cut of the definitions
cuts_at : (n : ℕ) (gs : List ℕ) → map cut_of (cut_gaps_at_most n gs) ≡ cut_at_most gap_form 128 n gs
cuts_at zero gs = refl
cuts_at (suc n) [] = refl
cuts_at (suc n) (g ∷ gs) =
    let cuts : ℕ → List (Cut PointKind ℕ) = λ m. record { kind = kind_for (is_wide g); values = g ∷ take m gs } ∷ map cut_of (cut_gaps_at_most n (drop m gs)) in
    let m = reach gap_form (kind_for (is_wide g)) 127 gs in
    ap cuts (extent_is (is_wide g) 127 gs)
    ∙ ap (λ rs. record { kind = kind_for (is_wide g); values = g ∷ take m gs } ∷ rs) (cuts_at n (drop m gs))

-- and its bytes
run_is : (r : GapRun) → gap_run_bytes r ≡ run_bytes gap_form (cut_of r)
run_is r = by r.wide
  where
    by : (w : Bool) → gap_run_bytes (record { wide = w; gaps = r.gaps }) ≡ run_bytes gap_form (cut_of (record { wide = w; gaps = r.gaps }))
    by true = refl
    by false = refl

runs_are : (rs : List GapRun) → map gap_run_bytes rs ≡ map (run_bytes gap_form) (map cut_of rs)
runs_are [] = refl
runs_are (r ∷ rs) = rw (run_is r, runs_are rs) refl

-- what a kind holds
own_kind : (g : ℕ) → same_class (meant (kind_for (is_wide g))) g ≡ true
own_kind g = by (is_wide g) refl
  where
    by : (b : Bool) → is_wide g ≡ b → same_class (meant (kind_for b)) g ≡ true
    by true e = e
    by false e = ap not e

stays : (k : PointKind) (g : ℕ) (next : Option PointKind) → stops k (kind_for (is_wide g)) next ≡ false → same_class (meant k) g ≡ true
stays k g next = by k (is_wide g) refl
  where
    by : (k : PointKind) (b : Bool) → is_wide g ≡ b → stops k (kind_for b) next ≡ false → same_class (meant k) g ≡ true
    by Bytes true e s = absurd (true≢false s)
    by Bytes false e s = ap not e
    by Words true e s = e
    by Words false e s = absurd (true≢false s)

width_is : (k : PointKind) (g : ℕ) → length (gap_form.value_bytes k g) ≡ width k
width_is Bytes g = refl
width_is Words g = refl

width_most : (k : PointKind) → width k ≤ 2
width_most Bytes = omega arith
width_most Words = omega arith

flag_most : (k : PointKind) → flag k + 128 ≤ 256
flag_most Bytes = omega arith
flag_most Words = omega arith

-- what follows a gap is never asked
pub gap_blind : Blind gap_form
gap_blind Bytes Bytes next = refl
gap_blind Bytes Words next = refl
gap_blind Words Bytes next = refl
gap_blind Words Words next = refl

pub gap_lawful : Lawful gap_form 128
gap_lawful = record {
  some_values = omega arith;
  few = omega arith;
  own = own_kind;
  taken = stays;
  wide = width_is;
  narrow = width_most;
  flagged = flag_most;
  cuts = λ gs. cuts_at (length gs) gs;
  joins = λ gs. ap joined (runs_are (cut_gaps gs));
}
