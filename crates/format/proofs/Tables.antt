-- A table is read back: its check finds no fault, and each peak and each slot is found as it was written.
use Rattle.std.proofs.Common.{◌≡◌, ℕ, zero, suc, ◌+◌, ◌*◌, ◌<◌, ◌≤◌, Bool, true, false, cond, not, eqb, ltb, leb, List, [], ◌∷◌, ◌++◌, length, get_or, ℤ, sym, refl, ap, ◌∙◌, subst, arith}
use mathlib.Core.Option.{Option, none, some}
use lib.ListN.{length-map}
use Rattle.std.proofs.lemmas.Bool.{le-ltb, lt-leb, or_from}
use Rattle.format.specs.Bytes.{joined}
use Rattle.format.specs.Account.{Declined, declined, Condition, iff, first_of}
use Rattle.format.specs.Glyphs.{listed}
use Rattle.format.specs.Table.{is_short, padded, table_of}
use Rattle.format.specs.Streams.{fault_if}
use Rattle.format.specs.Reader.{Checked, checked, long_at, unless, offset_of, offset_size, falls, offset_condition, in_table, table_conditions, shared_peak, slot_bytes, read_slot, read_bytes_of_slot, read_glyph}
use Rattle.format.proofs.Padded.{pad, padded_pad, padded_total, width, offsets_size, peaks_size, offsets_rise, offsets_most}
use Rattle.format.proofs.TableFront.{slots_of, offsets_of, offsets_part, peaks_part, peaks_start, data_start, formed, table_formed}
use Rattle.format.proofs.TableParts.{Fitting, checked_of, offsets_count, parts_small, formed_size, formed_version, formed_checked, formed_slot, formed_peak}
use Rattle.format.proofs.Conditions.{all_pass, listed_pass}

-- No condition applies

-- the conditions over a table and what was taken from it
abbrev conditions_over : List ℕ → Checked → List Condition
conditions_over bs c =
    iff (ltb (length bs) 20) (declined 16 none none none)
    ∷ iff (not (eqb (long_at bs 0) 65536)) (in_table 17 0)
    ∷ iff (ltb (length bs) (20 + offset_size c * (c.glyph_count + 1))) (in_table 18 12)
    ∷ iff (ltb (length bs) (c.peaks_at + 2 * (c.axes * c.peak_count))) (in_table 18 8)
    ∷ iff (ltb (length bs) c.data_at) (in_table 18 16)
    ∷ listed 0 (c.glyph_count + 1) (offset_condition c)

module _ (s : Bool) (a : ℕ) (ps : List (List ℤ)) (bs : List (List ℕ)) where
  rises_on : (i : ℕ) → i < length bs + 1 → falls (checked_of s a ps bs) i ≡ false
  rises_on zero h = refl
  rises_on (suc i) h = le-ltb _ _ (offsets_rise 0 (slots_of s bs) i (omega (arith, length-map bs (padded s))))

  inside : (i : ℕ) → i < length bs + 1 → ltb (length (formed s a ps bs)) (data_start s ps bs + get_or (offsets_of s bs) i 0) ≡ false
  inside i h = le-ltb _ _ (omega (arith, formed_size s a ps bs, offsets_most 0 (slots_of s bs) i (omega (arith, length-map bs (padded s)))))

  offsets_room : 20 + offset_size (checked_of s a ps bs) * (length bs + 1) ≤ length (formed s a ps bs)
  offsets_room = by s (formed_size s a ps bs) (offsets_size s (offsets_of s bs)) (offsets_count s bs)
    where
      by : (s : Bool) →
          length (formed s a ps bs) ≡ 20 + (length (offsets_part s bs) + (length (peaks_part ps) + length (joined (slots_of s bs)))) →
          length (offsets_part s bs) ≡ width s * length (offsets_of s bs) → length (offsets_of s bs) ≡ length bs + 1 →
          20 + cond (not s) 4 2 * (length bs + 1) ≤ length (formed s a ps bs)
      by true e f g = omega arith
      by false e f g = omega arith

  formed_none : Fitting a ps bs → first_of (conditions_over (formed s a ps bs) (checked_of s a ps bs)) ≡ none
  formed_none h =
      let t = formed s a ps bs in
      let size = formed_size s a ps bs in
      all_pass (conditions_over t (checked_of s a ps bs)) (
        le-ltb (length t) 20 (omega arith),
        (
          ap (λ (v : ℕ). not (eqb v 65536)) (formed_version s a ps bs),
          (
            le-ltb (length t) _ offsets_room,
            (
              le-ltb (length t) (peaks_start s bs + 2 * (a * length ps)) (omega (arith, peaks_size a ps h.peaks_of_axes)),
              (
                le-ltb (length t) (data_start s ps bs) (omega arith),
                listed_pass (offset_condition (checked_of s a ps bs)) 0 (length bs + 1) (λ i l m. or_from _ _ (rises_on i (omega arith)) (inside i (omega arith))),
              ),
            ),
          ),
        ),
      )

-- The table

checked_slot : (c : Checked) (g p : ℕ) (x : List ℕ) → g < c.glyph_count → p ≤ 32767 → slot_bytes c g ≡ x →
    read_slot c g p ≡ read_bytes_of_slot c g p x (c.data_at + offset_of c g)
checked_slot c g p x h l e =
    ap (λ (b : Bool). fault_if b (declined 20 (some g) none none) (read_bytes_of_slot c g p (slot_bytes c g) (c.data_at + offset_of c g)))
    (or_from (leb c.glyph_count g) (ltb 32767 p) (lt-leb c.glyph_count g h) (le-ltb 32767 p l))
    ∙ ap (λ (y : List ℕ). read_bytes_of_slot c g p y (c.data_at + offset_of c g)) e

module _ (a : ℕ) (ps : List (List ℤ)) (bs : List (List ℕ)) where
  -- what the check takes from the table, all at once
  pub table_checked : Fitting a ps bs → checked (table_of a ps bs) ≡ checked_of (is_short bs) a ps bs
  table_checked h = ap checked (table_formed a ps bs) ∙ formed_checked (is_short bs) a ps bs h refl

  pub table_none : Fitting a ps bs → first_of (table_conditions (table_of a ps bs)) ≡ none
  table_none h =
      ap (λ (t : List ℕ). first_of (table_conditions t)) (table_formed a ps bs)
      ∙ ap (λ (c : Checked). first_of (conditions_over (formed (is_short bs) a ps bs) c)) (formed_checked (is_short bs) a ps bs h refl)
      ∙ formed_none (is_short bs) a ps bs h

  pub record TableBack : Type 0 where
    pub no_fault : first_of (table_conditions (table_of a ps bs)) ≡ none
    pub axes_back : (checked (table_of a ps bs)).axes ≡ a
    pub peak_count_back : (checked (table_of a ps bs)).peak_count ≡ length ps
    pub glyph_count_back : (checked (table_of a ps bs)).glyph_count ≡ length bs
    pub peak_back : (i : ℕ) → i < length ps → shared_peak (checked (table_of a ps bs)) i ≡ get_or ps i []
    pub slot_back : (g : ℕ) → g < length bs → slot_bytes (checked (table_of a ps bs)) g ≡ padded (is_short bs) (get_or bs g [])
    pub glyph_back : (g p : ℕ) → g < length bs → p ≤ 32767 →
        let c = checked (table_of a ps bs) in
        read_glyph (table_of a ps bs) g p ≡ read_bytes_of_slot c g p (padded (is_short bs) (get_or bs g [])) (c.data_at + offset_of c g)

  pub glyph_read : Fitting a ps bs → (g p : ℕ) → g < length bs → p ≤ 32767 →
      let c = checked (table_of a ps bs) in
      read_glyph (table_of a ps bs) g p ≡ read_bytes_of_slot c g p (padded (is_short bs) (get_or bs g [])) (c.data_at + offset_of c g)
  unfolding read_glyph
  glyph_read h g p l m =
      let t = table_of a ps bs in
      let e = table_checked h in
      let n : g < (checked t).glyph_count = subst (λ (k : ℕ). g < k) (sym (ap (λ (c : Checked). c.glyph_count) e)) l in
      ap (λ (o : Option Declined). unless o (read_slot (checked t) g p)) (table_none h)
      ∙ checked_slot (checked t) g p (padded (is_short bs) (get_or bs g [])) n m
      (ap (λ (c : Checked). slot_bytes c g) e ∙ formed_slot (is_short bs) a ps bs g l)

  pub table_back : Fitting a ps bs → TableBack
  table_back h =
      let e = table_checked h in
      record {
        no_fault = table_none h;
        axes_back = ap (λ (c : Checked). c.axes) e;
        peak_count_back = ap (λ (c : Checked). c.peak_count) e;
        glyph_count_back = ap (λ (c : Checked). c.glyph_count) e;
        peak_back = λ i l. ap (λ (c : Checked). shared_peak c i) e ∙ formed_peak (is_short bs) a ps bs h i l;
        slot_back = λ g l. ap (λ (c : Checked). slot_bytes c g) e ∙ formed_slot (is_short bs) a ps bs g l;
        glyph_back = glyph_read h;
      }

  -- the same over what the check takes, with the place written out and the pad apart
  pub glyph_read_of : Fitting a ps bs → (g p : ℕ) → g < length bs → p ≤ 32767 →
      let s = is_short bs in
      let b = get_or bs g [] in
      read_glyph (table_of a ps bs) g p ≡ read_bytes_of_slot (checked_of s a ps bs) g p (b ++ pad s b) (data_start s ps bs + get_or (offsets_of s bs) g 0)
  glyph_read_of h g p l m =
      let s = is_short bs in
      let b = get_or bs g [] in
      glyph_read h g p l m
      ∙ ap (λ (c : Checked). read_bytes_of_slot c g p (padded s b) (c.data_at + offset_of c g)) (table_checked h)
      ∙ ap (λ (x : List ℕ). read_bytes_of_slot (checked_of s a ps bs) g p x (data_start s ps bs + get_or (offsets_of s bs) g 0)) (padded_pad s b)

  -- its length fits four bytes
  pub table_small : Fitting a ps bs → length (table_of a ps bs) < 4294967296
  table_small h =
      let s = is_short bs in
      let small : data_start s ps bs < 4000000000 = parts_small s a ps bs h in
      subst (λ (t : List ℕ). length t < 4294967296) (sym (table_formed a ps bs))
      (omega (arith, formed_size s a ps bs, padded_total s bs, h.small_data, small))
