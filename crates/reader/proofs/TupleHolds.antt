-- The tuples of an entry hold what the definition gives, and stand in the table.
use Rattle.std.proofs.Common.{◌≡◌, ℕ, suc, ◌+◌, ◌*◌, ◌<◌, ◌≤◌, false, not, ◌&&◌, leb, List, [], length, take, drop, ℤ, sym, ap, ◌∙◌, subst, mul-le-mul, arith, length-drop, length-take}
use mathlib.Core.Option.{none}
use Rattle.std.proofs.lemmas.Bool.{leb-false}
use Rattle.format.specs.Account.{first_of}
use Rattle.format.specs.Reader.{checked, word_at, long_at, value_or, shared_peak, is_embedded, peak_index, table_conditions}
use Rattle.slots.specs.Heads.{no_peak}
use Rattle.reader.specs.declared.table.Head.{Head}
use Rattle.reader.specs.declared.table.Table.{Table}
use Rattle.reader.specs.declared.tuple.Tuple.{Tuple}
use Rattle.reader.specs.Tables.{head_of}
use Rattle.reader.specs.Tuples.{words_in, Holds}
use Rattle.reader.proofs.SlotPlaces.{peaks_inside}
use Rattle.reader.proofs.TupleSteps.{words_are, part_of_front}

-- a tuple that was cut from the front of a table
pub holds_of : (t : Table) (u : Tuple) (front : List ℕ) (end q : ℕ) (vs : List ℤ) → front ≡ take end t.bytes.now → q + 2 * t.head.axes ≤ length front →
    (q + 2 * t.head.axes ≤ length front → (u.at ≡ q) × (u.part.now ≡ take (2 * t.head.axes) (drop q front))) → vs ≡ words_in (take (2 * t.head.axes) (drop q front)) → Holds t u vs
holds_of t u front end q vs e l f v =
    let a = t.head.axes in
    let bs = t.bytes.now in
    let r = f l in
    let m : length front ≡ length (take end bs) = ap length e in
    record {
      values = ap words_in r.1 ∙ sym v;
      stands = r.1 ∙ ap (λ b. take (2 * a) (drop q b)) e ∙ part_of_front q (2 * a) end bs (omega (arith, length-take end bs)) ∙ ap (λ k. take (2 * a) (drop k bs)) (sym r.0);
    }

-- a shared peak
module _ (bs : List ℕ) (fine : first_of (table_conditions bs) ≡ none) (i : ℕ) (less : i < word_at bs 6) where
  shared_inside : long_at bs 8 + 2 * (word_at bs 4 * i) + 2 * word_at bs 4 ≤ length bs
  shared_inside =
      let few : word_at bs 4 * suc i ≤ word_at bs 4 * word_at bs 6 = mul-le-mul (omega arith) (omega arith) in
      omega (arith, few, peaks_inside bs fine)

  shared_is : shared_peak (checked bs) i ≡ words_in (take (2 * word_at bs 4) (drop (long_at bs 8 + 2 * (word_at bs 4 * i)) bs))
  shared_is =
      let q = long_at bs 8 + 2 * (word_at bs 4 * i) in
      ap (value_or [] (λ r. r.0)) (words_are (word_at bs 4) (drop q bs) (omega (arith, shared_inside, length-drop q bs)))

  -- at the place that the head gives
  pub shared_by_head : (h : Head) → h ≡ head_of bs →
      (h.peaks_at + 2 * (h.axes * i) + 2 * h.axes ≤ length bs) × (shared_peak (checked bs) i ≡ words_in (take (2 * h.axes) (drop (h.peaks_at + 2 * (h.axes * i)) bs)))
  shared_by_head h e =
      subst (λ (h : Head). (h.peaks_at + 2 * (h.axes * i) + 2 * h.axes ≤ length bs) × (shared_peak (checked bs) i ≡ words_in (take (2 * h.axes) (drop (h.peaks_at + 2 * (h.axes * i)) bs))))
      (sym e) (shared_inside, shared_is)

-- a peak that is not embedded is among the shared ones
pub peak_is_there : (w count : ℕ) → is_embedded w ≡ false → no_peak w count ≡ false → peak_index w < count
peak_is_there w count e n = leb-false count (peak_index w) (ap (λ b. not b && leb count (peak_index w)) (sym e) ∙ n)
