-- Packed deltas are read back: any lawful cut into runs is, and the cut is lawful.
use Rattle.std.proofs.Common.{◌≡◌, ℕ, zero, suc, ◌+◌, ◌-◌, ◌%◌, ◌<◌, ◌≤◌, Bool, true, false, cond, ltb, List, [], ◌∷◌, ◌++◌, map, length, take, drop, replicate, ℤ, pos, negsuc, refl, ap, ◌∙◌, append_assoc, add-zero, arith, length-append, length-drop, take-append-drop, length-take}
use mathlib.Core.Option.{some}
use lib.Signed.{mag}
use Rattle.std.specs.List.{AllByRecursion}
use Rattle.std.proofs.lemmas.Bool.{le-ltb, or_parts, ltb-true, not-false}
use Rattle.std.proofs.ByRecursion.{All-drop}
use Rattle.std.proofs.lemmas.Bool.Decides.{nat_tests}
use Rattle.format.specs.Bytes.{bits8, bits16, signed8, signed16, Short, joined}
use Rattle.format.specs.Account.{Declined}
use Rattle.format.specs.Packed.{Kind, zeros, bytes, words, Run, run_bytes, value_bytes, control, kind, is_zero, is_word, stops, extent, cut_at_most, cut, packed_deltas}
use Rattle.format.specs.Streams.{rest, read_values, run_kind, held, delta_runs, read_deltas, found, and_then}
use Rattle.format.proofs.Words.{signed16_back, bits16_fits, signed8_back, words_back, bytes_back}

-- Deltas: any cut into runs, each of 1 to 64 values that its kind holds, is read back

abbrev pub Holds : Kind → ℤ → Type 0
Holds zeros z = z ≡ pos 0
Holds bytes z = mag z < 128
Holds words z = mag z < 32768

pub record Lawful (r : Run) : Type 0 where
  pub few : length r.values ≤ 64
  pub some_values : 0 < length r.values
  pub fit : AllByRecursion (Holds r.of) r.values

abbrev pub all_values : List Run → List ℤ
all_values rs = joined (map (λ r. r.values) rs)

zeros_back : (zs : List ℤ) → AllByRecursion (Holds zeros) zs → replicate (length zs) (pos 0) ≡ zs
zeros_back [] h = refl
zeros_back (z ∷ zs) h = rw (h.0, zeros_back zs h.1)

zeros_no_bytes : (zs : List ℤ) (r : List ℕ) → joined (map (value_bytes zeros) zs) ++ r ≡ r
zeros_no_bytes [] r = refl
zeros_no_bytes (z ∷ zs) r = zeros_no_bytes zs r

all_words : (zs : List ℤ) → AllByRecursion (Holds words) zs → AllByRecursion (λ z. (bits16 z < 65536) × (signed16 (bits16 z) ≡ z)) zs
all_words [] h = tt
all_words (z ∷ zs) h = ((bits16_fits z h.0, signed16_back z h.0), all_words zs h.1)

all_bytes : (zs : List ℤ) → AllByRecursion (Holds bytes) zs → AllByRecursion (λ z. signed8 (bits8 z) ≡ z) zs
all_bytes [] h = tt
all_bytes (z ∷ zs) h = (signed8_back z h.0, all_bytes zs h.1)

pub values_back : (k : Kind) (zs : List ℤ) (r : List ℕ) → AllByRecursion (Holds k) zs → read_values k (length zs) (joined (map (value_bytes k) zs) ++ r) ≡ some (zs, r)
values_back zeros zs r h = rw (zeros_back zs h, zeros_no_bytes zs r)
values_back bytes zs r h = bytes_back signed8 bits8 zs r (all_bytes zs h)
values_back words zs r h = words_back signed16 bits16 zs r (all_words zs h)

control_count : (k : Kind) (n : ℕ) → n < 64 → control k (suc n) % 64 ≡ n
control_count zeros n h = omega arith
control_count bytes n h = omega arith
control_count words n h = omega arith

control_kind : (k : Kind) (n : ℕ) → n < 64 → run_kind (control k (suc n)) ≡ some k
control_kind zeros n h = grind (arith, nat_tests)
control_kind bytes n h = grind (arith, nat_tests)
control_kind words n h = grind (arith, nat_tests)

held_length : (k : Kind) (zs : List ℤ) → length (joined (map (value_bytes k) zs)) ≡ held k (length zs)
held_length zeros [] = refl
held_length zeros (z ∷ zs) = held_length zeros zs
held_length bytes [] = refl
held_length bytes (z ∷ zs) = ap suc (held_length bytes zs)
held_length words [] = refl
held_length words (z ∷ zs) = let e = held_length words zs in omega arith

-- one run off the front
run_back :
    (d : ℕ → ℕ → Declined) (m : ℕ) (k : Kind) (v : ℤ) (vs more : List ℤ) (bs : List ℕ) (at : ℕ) → length vs < 64 → AllByRecursion (Holds k) (v ∷ vs) →
    delta_runs d (suc m) (length (v ∷ vs ++ more)) (control k (suc (length vs)) ∷ (joined (map (value_bytes k) (v ∷ vs)) ++ bs)) at
    ≡ and_then (delta_runs d m (length more) bs (at + (1 + held k (suc (length vs))))) (λ s. found (rest (v ∷ vs ++ s.value) s.left s.place))
run_back d m k v vs more bs at few h =
    let e = length-append vs more in
    let left : suc (length (vs ++ more)) - suc (length vs) ≡ length more = omega arith in
    rw (control_count k (length vs) few, le-ltb (suc (length (vs ++ more))) (suc (length vs)) (omega arith), control_kind k (length vs) few, values_back k (v ∷ vs) bs h, left)

none_back : (d : ℕ → ℕ → Declined) (m : ℕ) (r : List ℕ) (at : ℕ) → delta_runs d m 0 r at ≡ found (rest [] r (at + 0))
none_back d zero r at = rw add-zero
none_back d (suc m) r at = rw add-zero

-- one run more, before what is read back already
more_back :
    (d : ℕ → ℕ → Declined) (m : ℕ) (k : Kind) (zs more : List ℤ) (bs r : List ℕ) (at : ℕ) →
    0 < length zs → length zs ≤ 64 → AllByRecursion (Holds k) zs → length (zs ++ more) ≤ m →
    ((m' at' : ℕ) → length more ≤ m' → delta_runs d m' (length more) (bs ++ r) at' ≡ found (rest more r (at' + length bs))) →
    delta_runs d m (length (zs ++ more)) (((control k (length zs) ∷ joined (map (value_bytes k) zs)) ++ bs) ++ r) at
    ≡ found (rest (zs ++ more) r (at + length ((control k (length zs) ∷ joined (map (value_bytes k) zs)) ++ bs)))
more_back d m k [] more bs r at some_values few fit le ih = absurd (omega arith)
more_back d zero k (v ∷ vs) more bs r at some_values few fit le ih = absurd (omega arith)
more_back d (suc m) k (v ∷ vs) more bs r at some_values few fit le ih =
    let e = length-append vs more in
    rw (append_assoc (joined (map (value_bytes k) (v ∷ vs))) bs r)
    (run_back d m k v vs more (bs ++ r) at (omega arith) fit
    ∙ rw (ih m (at + (1 + held k (suc (length vs)))) (omega arith)) (ap (λ (n : ℕ). found (rest (v ∷ vs ++ more) r n)) (omega (arith, length-append (joined (map (value_bytes k) (v ∷ vs))) bs, held_length k (v ∷ vs)))))

pub deltas_back :
    (d : ℕ → ℕ → Declined) (m : ℕ) (rs : List Run) (r : List ℕ) (at : ℕ) → AllByRecursion Lawful rs → length (all_values rs) ≤ m →
    delta_runs d m (length (all_values rs)) (joined (map run_bytes rs) ++ r) at ≡ found (rest (all_values rs) r (at + length (joined (map run_bytes rs))))
deltas_back d m [] r at h le = none_back d m r at
deltas_back d m (run ∷ rs) r at h le =
    more_back d m run.of run.values (all_values rs) (joined (map run_bytes rs)) r at h.0.some_values h.0.few h.0.fit le
    (λ m' at' le'. deltas_back d m' rs r at' h.1 le')

-- The cut that the format's rules make is lawful, and its values are those that were cut

kind_zero : (z : ℤ) → is_zero (kind z) ≡ true → z ≡ pos 0
kind_zero (pos zero) e = refl
kind_zero (pos (suc n)) e = grind (arith, nat_tests)
kind_zero (negsuc n) e = grind (arith, nat_tests)

kind_not_word : (z : ℤ) → is_word (kind z) ≡ false → mag z < 128
kind_not_word (pos zero) e = omega arith
kind_not_word (pos (suc n)) e = grind (arith, nat_tests)
kind_not_word (negsuc n) e = grind (arith, nat_tests)

kind_holds : (z : ℤ) → Short z → Holds (kind z) z
kind_holds (pos zero) h = refl
kind_holds (pos (suc n)) h = by_test (ltb (suc n) 128) refl
  where
    by_test : (b : Bool) → ltb (suc n) 128 ≡ b → Holds (cond b bytes words) (pos (suc n))
    by_test true e = ltb-true (suc n) 128 e
    by_test false e = h
kind_holds (negsuc n) h = by_test (ltb n 128) refl
  where
    by_test : (b : Bool) → ltb n 128 ≡ b → Holds (cond b bytes words) (negsuc n)
    by_test true e = ltb-true n 128 e
    by_test false e = h

goes_on : (k : Kind) (z : ℤ) (zs : List ℤ) → Short z → stops k z zs ≡ false → Holds k z
goes_on zeros z zs h e = kind_zero z (not-false (is_zero (kind z)) e)
goes_on bytes z zs h e = kind_not_word z (or_parts (is_word (kind z)) _ e).0
goes_on words z zs h e = h

taken_holds : (k : Kind) (n : ℕ) (zs : List ℤ) → AllByRecursion Short zs → AllByRecursion (Holds k) (take (extent k n zs) zs)
taken_holds k zero zs h = tt
taken_holds k (suc n) [] h = tt
taken_holds k (suc n) (z ∷ zs) h = by_test (stops k z zs) refl (taken_holds k n zs h.1)
  where
    by_test : (b : Bool) → stops k z zs ≡ b → AllByRecursion (Holds k) (take (extent k n zs) zs) → AllByRecursion (Holds k) (take (cond b 0 (suc (extent k n zs))) (z ∷ zs))
    by_test true e t = tt
    by_test false e t = (goes_on k z zs h.0 e, t)

extent_most : (k : Kind) (n : ℕ) (zs : List ℤ) → extent k n zs ≤ n
extent_most k zero zs = omega arith
extent_most k (suc n) [] = omega arith
extent_most k (suc n) (z ∷ zs) = let i = extent_most k n zs in grind (arith, nat_tests)

pub cut_values : (m : ℕ) (zs : List ℤ) → length zs ≤ m → all_values (cut_at_most m zs) ≡ zs
cut_values zero [] h = refl
cut_values zero (z ∷ zs) h = absurd (omega arith)
cut_values (suc m) [] h = refl
cut_values (suc m) (z ∷ zs) h =
    let n = extent (kind z) 63 zs in
    let i = cut_values m (drop n zs) (omega (arith, length-drop n zs)) in
    ap (λ (r : List ℤ). z ∷ r) (rw i (take-append-drop n zs))

pub cut_lawful : (m : ℕ) (zs : List ℤ) → AllByRecursion Short zs → AllByRecursion Lawful (cut_at_most m zs)
cut_lawful zero zs h = tt
cut_lawful (suc m) [] h = tt
cut_lawful (suc m) (z ∷ zs) h =
    let n = extent (kind z) 63 zs in (
      record {
        few = omega (arith, length-take n zs, extent_most (kind z) 63 zs);
        some_values = omega arith;
        fit = (kind_holds z h.0, taken_holds (kind z) 63 zs h.1);
      },
      cut_lawful m (drop n zs) (All-drop Short n zs h.1),
    )

-- packed deltas are read back, whatever follows them
pub packed_deltas_back :
    (d : ℕ → ℕ → Declined) (zs : List ℤ) (r : List ℕ) (at : ℕ) → AllByRecursion Short zs →
    read_deltas d (length zs) (packed_deltas zs ++ r) at ≡ found (rest zs r (at + length (packed_deltas zs)))
packed_deltas_back d zs r at h =
    let v = cut_values (length zs) zs (omega arith) in
    let b = deltas_back d (length zs) (cut zs) r at (cut_lawful (length zs) zs h) (omega (arith, ap length v)) in
    rw v at b
