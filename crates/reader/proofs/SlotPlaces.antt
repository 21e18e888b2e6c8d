-- The slot of a glyph in a table that was checked.
use Rattle.std.proofs.Common.{◌≡◌, ℕ, zero, suc, ◌+◌, ◌-◌, ◌*◌, ◌<◌, ◌≤◌, Bool, true, false, cond, ◌||◌, ltb, leb, List, length, take, drop, sym, refl, ap, ◌∙◌, subst, ⊎_elim, arith}
use mathlib.Core.Option.{none}
use Rattle.std.specs.List.{AllByRecursion}
use Rattle.std.proofs.lemmas.Bool.{ltb-false, or_parts, cases_eq, leb-false}
use Rattle.std.proofs.lemmas.List.{drop-take}
use Rattle.format.specs.Account.{Condition, first_of}
use Rattle.format.specs.Glyphs.{listed}
use Rattle.format.specs.Reader.{checked, word_at, long_at, offset_of, offset_condition, slot_bytes, table_conditions, read_bytes_of_slot, read_slot}
use Rattle.format.proofs.Conditions.{Off, none_applies}
use Rattle.reader.specs.declared.table.Head.{Head}
use Rattle.reader.specs.Tables.{offset_in, says_long, head_of}
use Rattle.reader.proofs.TableSteps.{offset_is, before, before_next, applies_is}

listed_off : (f : ℕ → Condition) (n i : ℕ) → AllByRecursion Off (listed i n f) → (k : ℕ) → i ≤ k → k < i + n → (f k).applies ≡ false
listed_off f zero i o k h l = absurd (omega arith)
listed_off f (suc n) i o k h l =
    ⊎_elim
    (λ q. subst (λ (x : ℕ). (f x).applies ≡ false) q o.0)
    (λ q. listed_off f n (suc i) o.1 k (omega arith) (omega arith))
    (cases_eq i k)

-- what the conditions on a table leave
module _ (bs : List ℕ) (fine : first_of (table_conditions bs) ≡ none) where
  off : AllByRecursion Off (table_conditions bs)
  off = none_applies (table_conditions bs) fine

  pub offsets_inside : 20 + cond (says_long bs) 4 2 * (word_at bs 12 + 1) ≤ length bs
  offsets_inside = ltb-false _ _ off.1.1.0

  pub peaks_inside : long_at bs 8 + 2 * (word_at bs 4 * word_at bs 6) ≤ length bs
  peaks_inside = ltb-false _ _ off.1.1.1.0

  rising : (g : ℕ) → g < word_at bs 12 → offset_in bs (says_long bs) g ≤ offset_in bs (says_long bs) (g + 1)
  rising g l =
      let a = listed_off (offset_condition (checked bs)) (word_at bs 12 + 1) 0 off.1.1.1.1.1 (g + 1) (omega arith) (omega arith) in
      let b = or_parts (ltb (offset_in bs (says_long bs) (g + 1)) (before bs (says_long bs) (g + 1))) _
      (sym (applies_is bs (says_long bs) (word_at bs 12) (long_at bs 16) offsets_inside (checked bs) refl refl refl refl (g + 1) (omega arith)) ∙ a) in
      let low : before bs (says_long bs) (g + 1) ≤ offset_in bs (says_long bs) (g + 1) = ltb-false _ _ b.0 in
      omega (arith, before_next bs (says_long bs) g)

in_range : (n g p : ℕ) → (leb n g || ltb 32767 p) ≡ false → g < n
in_range n g p e = leb-false n g (or_parts (leb n g) _ e).0

module _ (bs : List ℕ) (g p : ℕ) where
  slot_is : (leb (word_at bs 12) g || ltb 32767 p) ≡ false → read_slot (checked bs) g p ≡ read_bytes_of_slot (checked bs) g p (slot_bytes (checked bs) g) (long_at bs 16 + offset_of (checked bs) g)
  slot_is t = rw t

  module _ (h : Head) (e : h ≡ head_of bs) (fine : first_of (table_conditions bs) ≡ none) (t : (leb h.glyphs g || ltb 32767 p) ≡ false) where
    t' : (leb (word_at bs 12) g || ltb 32767 p) ≡ false
    t' = ap (λ x. leb x g || ltb 32767 p) (sym (ap (λ x. x.glyphs) e)) ∙ t

    less : g < word_at bs 12
    less = in_range (word_at bs 12) g p t'

    -- both offsets of the glyph lie in the table
    pub first_inside : 20 + cond h.long 4 2 * (g + 1) ≤ length bs
    first_inside =
        let l = less in
        subst (λ (x : Head). 20 + cond x.long 4 2 * (g + 1) ≤ length bs) (sym e) (by (says_long bs) (offsets_inside bs fine))
      where
        by : (b : Bool) → 20 + cond b 4 2 * (word_at bs 12 + 1) ≤ length bs → 20 + cond b 4 2 * (g + 1) ≤ length bs
        by true r = let l = less in omega arith
        by false r = let l = less in omega arith

    pub second_inside : 20 + cond h.long 4 2 * (g + 1 + 1) ≤ length bs
    second_inside = subst (λ (x : Head). 20 + cond x.long 4 2 * (g + 1 + 1) ≤ length bs) (sym e) (by (says_long bs) (offsets_inside bs fine))
      where
        by : (b : Bool) → 20 + cond b 4 2 * (word_at bs 12 + 1) ≤ length bs → 20 + cond b 4 2 * (g + 1 + 1) ≤ length bs
        by true r = let l = less in omega arith
        by false r = let l = less in omega arith

    -- the slot goes from one offset to the next
    pub located : (start stop : ℕ) → start ≡ offset_in bs h.long g → stop ≡ offset_in bs h.long (g + 1) →
        read_slot (checked bs) g p ≡ read_bytes_of_slot (checked bs) g p (drop (h.data_at + start) (take (h.data_at + stop) bs)) (h.data_at + start)
    located start stop es ep =
        let l = less in
        let d = h.data_at in
        let room = offsets_inside bs fine in
        let q : long_at bs 16 ≡ d = sym (ap (λ x. x.data_at) e) in
        let at-start : start ≡ offset_in bs (says_long bs) g = es ∙ ap (λ (x : Head). offset_in bs x.long g) e in
        let at-stop : stop ≡ offset_in bs (says_long bs) (g + 1) = ep ∙ ap (λ (x : Head). offset_in bs x.long (g + 1)) e in
        let a : offset_of (checked bs) g ≡ start = offset_is bs (says_long bs) (word_at bs 12) g room (omega arith) ∙ sym at-start in
        let b : offset_of (checked bs) (g + 1) ≡ stop = offset_is bs (says_long bs) (word_at bs 12) (g + 1) room (omega arith) ∙ sym at-stop in
        let m : d + start + (stop - start) ≡ d + stop = omega (arith, rising bs fine g l, at-start, at-stop) in
        slot_is t'
        ∙ ap (λ o. read_bytes_of_slot (checked bs) g p (take (offset_of (checked bs) (g + 1) - o) (drop (long_at bs 16 + o) bs)) (long_at bs 16 + o)) a
        ∙ ap (λ o. read_bytes_of_slot (checked bs) g p (take (o - start) (drop (long_at bs 16 + start) bs)) (long_at bs 16 + start)) b
        ∙ ap (λ x. read_bytes_of_slot (checked bs) g p (take (stop - start) (drop (x + start) bs)) (x + start)) q
        ∙ ap (λ r. read_bytes_of_slot (checked bs) g p r (d + start)) (sym (drop-take (d + start) (stop - start) bs) ∙ ap (λ x. drop (d + start) (take x bs)) m)
