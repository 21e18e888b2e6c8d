-- The form of packed deltas keeps what every form keeps.
use Rattle.std.proofs.Common.{◌≡◌, ℕ, zero, suc, ◌+◌, ◌≤◌, true, false, not, ◌&&◌, ◌||◌, List, [], ◌∷◌, map, length, take, drop, ℤ, pos, negsuc, Some, Option, sym, refl, ap, ◌∙◌, arith}
use Rattle.std.proofs.lemmas.Bool.{cond_both, true≢false}
use Rattle.std.proofs.lemmas.Int.{ints}
use Rattle.std.proofs.lemmas.Bool.Decides.{nat_tests}
use Rattle.format.specs.Bytes.{joined}
use Rattle.format.specs.Packed.{Kind, zeros, bytes, words, kind, is_zero, is_word, starts_with, extent, Run}
use Rattle.format.specs.Packed.{stops as format_stops, cut_at_most as format_cut_at_most, run_bytes as format_run_bytes, cut as format_cut}
use Rattle.kinds.specs.declared.delta.DeltaKind.{DeltaKind}
use Rattle.kinds.specs.declared.delta.DeltaKind.TheVariants.{Zeros, Bytes, Words}
use Rattle.variations.specs.Forms.{Cut, Lawful, Blind, first_kind, reach, cut_at_most, run_bytes}
use Rattle.variations.specs.DeltaForm.{meant, kind_for, is_zero_value, is_byte_value, kind_of, holds, zeros_follow, short_follows, stops, flag, width, cut_of, delta_form}

-- the program's kinds are those of the definitions
kind_is : (z : ℤ) → meant (kind_of z) ≡ kind z
kind_is (pos zero) = refl
kind_is (pos (suc n)) = grind (arith, nat_tests)
kind_is (negsuc n) = grind (arith, nat_tests)

kind_back : (k : DeltaKind) → kind_for (meant k) ≡ k
kind_back Zeros = refl
kind_back Bytes = refl
kind_back Words = refl

stops_zero : (zs : List ℤ) → zeros_follow (first_kind delta_form zs) ≡ starts_with is_zero zs
stops_zero [] = refl
stops_zero (z ∷ zs) = rw (← kind_is z) (by (kind_of z))
  where
    by : (k : DeltaKind) → zeros_follow (Some k) ≡ is_zero (meant k)
    by Zeros = refl
    by Bytes = refl
    by Words = refl

stops_short : (zs : List ℤ) → short_follows (first_kind delta_form zs) ≡ starts_with (λ k. not (is_word k)) zs
stops_short [] = refl
stops_short (z ∷ zs) = rw (← kind_is z) (by (kind_of z))
  where
    by : (k : DeltaKind) → short_follows (Some k) ≡ not (is_word (meant k))
    by Zeros = refl
    by Bytes = refl
    by Words = refl

stops_is : (k : DeltaKind) (z : ℤ) (zs : List ℤ) → stops k (kind_of z) (first_kind delta_form zs) ≡ format_stops (meant k) z zs
stops_is Zeros z zs = rw (← kind_is z) (by (kind_of z))
  where
    by : (j : DeltaKind) → stops Zeros j (first_kind delta_form zs) ≡ not (is_zero (meant j))
    by Zeros = refl
    by Bytes = refl
    by Words = refl
stops_is Bytes z zs = rw (← kind_is z, ← stops_zero zs) (by (kind_of z))
  where
    by : (j : DeltaKind) → stops Bytes j (first_kind delta_form zs) ≡ (is_word (meant j) || (is_zero (meant j) && zeros_follow (first_kind delta_form zs)))
    by Zeros = refl
    by Bytes = refl
    by Words = refl
stops_is Words z zs = rw (← kind_is z, ← stops_short zs) (by (kind_of z))
  where
    by : (j : DeltaKind) → stops Words j (first_kind delta_form zs) ≡ (is_zero (meant j) || (not (is_word (meant j)) && short_follows (first_kind delta_form zs)))
    by Zeros = refl
    by Bytes = refl
    by Words = refl

extent_is : (k : DeltaKind) (n : ℕ) (zs : List ℤ) → extent (meant k) n zs ≡ reach delta_form k n zs
extent_is k zero [] = refl
extent_is k zero (z ∷ zs) = refl
extent_is k (suc n) [] = refl
extent_is k (suc n) (z ∷ zs) = rw (← stops_is k z zs, extent_is k n zs) refl

-- the cut of the definitions
cuts_at : (n : ℕ) (zs : List ℤ) → map cut_of (format_cut_at_most n zs) ≡ cut_at_most delta_form 64 n zs
cuts_at zero zs = refl
cuts_at (suc n) [] = refl
cuts_at (suc n) (z ∷ zs) =
    let k : kind_for (kind z) ≡ kind_of z = ap kind_for (sym (kind_is z)) ∙ kind_back (kind_of z) in
    let e : extent (kind z) 63 zs ≡ reach delta_form (kind_of z) 63 zs = ap (λ j. extent j 63 zs) (sym (kind_is z)) ∙ extent_is (kind_of z) 63 zs in
    let cuts : DeltaKind → ℕ → List (Cut DeltaKind ℤ) = λ j m. record { kind = j; values = z ∷ take m zs } ∷ map cut_of (format_cut_at_most n (drop m zs)) in
    let m = reach delta_form (kind_of z) 63 zs in
    ap (λ j. cuts j (extent (kind z) 63 zs)) k
    ∙ ap (cuts (kind_of z)) e
    ∙ ap (λ rs. record { kind = kind_of z; values = z ∷ take m zs } ∷ rs) (cuts_at n (drop m zs))

-- and its bytes
run_is : (r : Run) → format_run_bytes r ≡ run_bytes delta_form (cut_of r)
run_is r = by r.of
  where
    by : (k : Kind) → format_run_bytes (record { of = k; values = r.values }) ≡ run_bytes delta_form (cut_of (record { of = k; values = r.values }))
    by zeros = refl
    by bytes = ap (λ n. n ∷ joined (map (delta_form.value_bytes Bytes) r.values)) (omega arith)
    by words = refl

runs_are : (rs : List Run) → map format_run_bytes rs ≡ map (run_bytes delta_form) (map cut_of rs)
runs_are [] = refl
runs_are (r ∷ rs) = rw (run_is r, runs_are rs) refl

-- what a kind holds
zero_is : (z : ℤ) → is_zero_value z ≡ true → z ≡ pos 0
zero_is z h = grind (arith, ints)

own_kind : (z : ℤ) → holds (kind_of z) z ≡ true
own_kind z =
    cond_both (is_zero_value z) Zeros _ (λ k. holds k z ≡ true) (λ e. e)
    (λ _. cond_both (is_byte_value z) Bytes Words (λ k. holds k z ≡ true) (λ e. e) (λ _. refl))

stays : (k j : DeltaKind) (z : ℤ) (next : Option DeltaKind) → holds j z ≡ true → stops k j next ≡ false → holds k z ≡ true
stays Zeros Zeros z next h s = h
stays Zeros Bytes z next h s = absurd (true≢false s)
stays Zeros Words z next h s = absurd (true≢false s)
stays Bytes Zeros z next h s = ap is_byte_value (zero_is z h)
stays Bytes Bytes z next h s = h
stays Bytes Words z next h s = absurd (true≢false s)
stays Words Zeros z next h s = refl
stays Words Bytes z next h s = refl
stays Words Words z next h s = refl

width_is : (k : DeltaKind) (z : ℤ) → length (delta_form.value_bytes k z) ≡ width k
width_is Zeros z = refl
width_is Bytes z = refl
width_is Words z = refl

width_most : (k : DeltaKind) → width k ≤ 2
width_most Zeros = omega arith
width_most Bytes = omega arith
width_most Words = omega arith

flag_most : (k : DeltaKind) → flag k + 64 ≤ 256
flag_most Zeros = omega arith
flag_most Bytes = omega arith
flag_most Words = omega arith

-- deltas do look at what follows
pub delta_blind : true ≡ false → Blind delta_form
delta_blind sees = absurd (true≢false sees)

pub delta_lawful : Lawful delta_form 64
delta_lawful = record {
  some_values = omega arith;
  few = omega arith;
  own = own_kind;
  taken = λ k z next s. stays k (kind_of z) z next (own_kind z) s;
  wide = width_is;
  narrow = width_most;
  flagged = flag_most;
  cuts = λ zs. cuts_at (length zs) zs;
  joins = λ zs. ap joined (runs_are (format_cut zs));
}
