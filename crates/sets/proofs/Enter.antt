-- What a cell for a new variation does to the stores.
use Rattle.std.proofs.Common.{◌≡◌, ℕ, suc, ◌+◌, ◌-◌, ◌*◌, ◌<◌, ◌≤◌, List, [], ◌∷◌, ◌++◌, length, get_or, take, set, sym, refl, ap, ◌∙◌, subst, inl, inr, mul-one, mul-add, add-one, arith, length-set, get_or-set_other, get_or-set_same, take-suc-set}
use lib.Seq.{take-set-le}
use Rattle.std.proofs.lemmas.Bool.{cases_eq}
use Rattle.tuples.specs.declared.choice.StoredPoints.{StoredPoints}
use Rattle.links.specs.Links.{linked}
use Rattle.sets.specs.declared.cells.GlyphCell.{GlyphCell}
use Rattle.sets.specs.declared.cells.VariationCell.{VariationCell}
use Rattle.sets.specs.Cells.{variations_in, deltas_in, blank_glyph, blank_variation, head_at, next_at, number_at, count_at, deltas_at, start_at}
use Rattle.sets.specs.Index.{Heads, Nexts}
use Rattle.sets.specs.Layout.{Stores}
use Rattle.sets.specs.Sound.{Sound, Chained, Firsts, Starts, Chosen, ShortCells}
use Rattle.sets.specs.Writing.{last_cell, front, Admitted}
use Rattle.sets.proofs.Behind.{kept_starts}
use Rattle.sets.proofs.Chains.{kept_heads, kept_nexts, kept_apart, kept_low}
use Rattle.sets.proofs.Deal.{counts}
use Rattle.sets.proofs.Lists.{variations_in_snoc, field_kept, field_same, field_other}

-- the cell of the last glyph, with one variation more
abbrev pub one_more : Stores → GlyphCell
one_more s = record { number = (last_cell s).number; variations = (last_cell s).variations + 1; first = (last_cell s).first; head = (last_cell s).head; next = (last_cell s).next }

-- the cell of a variation with n deltas
abbrev pub cell_for : Stores → ℕ → StoredPoints → VariationCell
cell_for s n r = record { deltas = n; start = s.moved; stored = r }

-- one variation more is counted
abbrev pub counted : Stores → ℕ → StoredPoints → Stores
counted s n r = record {
  axes = s.axes;
  names = s.names;
  glyphs = set s.glyphs (s.begun - 1) (one_more s);
  variations = set s.variations s.added (cell_for s n r);
  values = s.values;
  deltas = s.deltas;
  begun = s.begun;
  added = s.added + 1;
  moved = s.moved + n;
}

deltas_in_snoc : (cs : List VariationCell) (c : VariationCell) → deltas_in (cs ++ (c ∷ [])) ≡ deltas_in cs + c.deltas
deltas_in_snoc [] c = omega arith
deltas_in_snoc (d ∷ cs) c = let e = deltas_in_snoc cs c in omega arith

pub values_more : (s : Stores) → 3 * s.axes * (s.added + 1) ≡ 3 * s.axes * s.added + 3 * s.axes
values_more s = mul-add (3 * s.axes) s.added 1 ∙ ap (λ x. 3 * s.axes * s.added + x) (mul-one (3 * s.axes))

module _ (s : Stores) (t n : ℕ) (r : StoredPoints) (h : Sound s) (room : Admitted s t n) where
  abbrev cells : List GlyphCell
  cells = set s.glyphs (s.begun - 1) (one_more s)

  abbrev cell : VariationCell
  cell = cell_for s n r

  in_cells : s.begun - 1 < length s.glyphs
  in_cells = let b = room.begun in omega (arith, h.within.0)

  pub counted_cells : take s.begun cells ≡ front s ++ (one_more s ∷ [])
  counted_cells =
      let b = room.begun in
      let e : suc (s.begun - 1) ≡ s.begun = omega arith in
      subst (λ m. take m cells ≡ front s ++ (one_more s ∷ [])) e (take-suc-set s.glyphs (s.begun - 1) (one_more s) in_cells)

  pub counted_variations : take (s.added + 1) (set s.variations s.added cell) ≡ take s.added s.variations ++ (cell ∷ [])
  counted_variations = rw add-one (take-suc-set s.variations s.added cell room.variations)

  kept : {X : Type 0} (field : GlyphCell → X) → field (one_more s) ≡ field (last_cell s) → (i : ℕ) → field (get_or cells i blank_glyph) ≡ field (get_or s.glyphs i blank_glyph)
  kept {X} field e = field_kept field s.glyphs (s.begun - 1) (one_more s) in_cells e

  counted_firsts : Firsts s.begun cells
  counted_firsts i l =
      kept (λ c. c.first) refl i ∙ h.placed.0 i l ∙ ap variations_in (sym (take-set-le i s.glyphs (s.begun - 1) (one_more s) (omega arith)))

  counted_starts : Starts (s.added + 1) (set s.variations s.added cell)
  counted_starts i l = elim (cases_eq i s.added) [
    | inl e ↦ subst (λ (x : ℕ). start_at (set s.variations s.added cell) x ≡ deltas_in (take x (set s.variations s.added cell))) (sym e)
        (ap (λ (c : VariationCell). c.start) (get_or-set_same s.variations s.added cell blank_variation room.variations)
        ∙ sym h.counted.1 ∙ ap deltas_in (sym (take-set-le s.added s.variations s.added cell (omega arith))))
    | inr ne ↦ kept_starts s.variations s.added cell h.placed.1 i (omega arith)
  ]

  counted_chained : Chained s.begun cells
  counted_chained =
      subst (λ (m : ℕ). Heads (number_at cells) (head_at cells) s.begun m × Nexts (number_at cells) (next_at cells) s.begun m) (sym (length-set s.glyphs (s.begun - 1) (one_more s))) (
        kept_heads (number_at s.glyphs) (number_at cells) (head_at s.glyphs) (next_at s.glyphs) (head_at cells) (next_at cells) s.begun (length s.glyphs)
            (λ g _. kept (λ c. c.number) refl g) (kept (λ c. linked c.head) refl) (λ g _. kept (λ c. linked c.next) refl g) h.chained.0,
        kept_nexts (number_at s.glyphs) (number_at cells) (head_at s.glyphs) (next_at s.glyphs) (head_at cells) (next_at cells) s.begun (length s.glyphs)
            (λ g _. kept (λ c. c.number) refl g) (kept (λ c. linked c.head) refl) (λ g _. kept (λ c. linked c.next) refl g) h.chained.1,
      )

  counted_few : (i : ℕ) → i < s.begun → count_at cells i ≤ 4095
  counted_few i l = elim (cases_eq i (s.begun - 1)) [
    | inl e ↦
        let z : count_at cells i ≡ (last_cell s).variations + 1 = ap (λ (k : ℕ). count_at cells k) e ∙ field_same (λ c. c.variations) s.glyphs (s.begun - 1) (one_more s) in_cells in
        omega (arith, room.few_variations)
    | inr ne ↦
        let o = field_other (λ c. c.variations) s.glyphs (s.begun - 1) (one_more s) i ne in
        omega (arith, h.few.0 i l)
  ]

  deltas_few : (i : ℕ) → i < s.added + 1 → deltas_at (set s.variations s.added cell) i ≤ 32767
  deltas_few i l = elim (cases_eq i s.added) [
    | inl e ↦
        let z : deltas_at (set s.variations s.added cell) i ≡ n =
        ap (λ (k : ℕ). deltas_at (set s.variations s.added cell) k) e ∙ ap (λ (c : VariationCell). c.deltas) (get_or-set_same s.variations s.added cell blank_variation room.variations) in
        omega (arith, room.few_deltas)
    | inr ne ↦
        let o = ap (λ (c : VariationCell). c.deltas) (get_or-set_other s.variations s.added i cell blank_variation ne) in
        let q : i < s.added = omega arith in
        omega (arith, h.few.1 i q)
  ]

  pub counted_sound : Chosen (take (s.added + 1) (set s.variations s.added cell)) (take (s.moved + n) s.deltas) →
      ShortCells (take (3 * s.axes * (s.added + 1)) s.values) (take (s.moved + n) s.deltas) → Sound (counted s n r)
  counted_sound chosen short =
      let l1 = length-set s.glyphs (s.begun - 1) (one_more s) in
      let l2 = length-set s.variations s.added cell in
      let m = values_more s in
      let v1 = variations_in_snoc (front s) (one_more s) in
      let v2 = counts s h room.begun in
      let d1 = deltas_in_snoc (take s.added s.variations) cell in
      record {
        within = (omega (arith, h.within.0), omega (arith, room.variations), omega (arith, room.values), omega (arith, room.deltas));
        counted = (ap variations_in counted_cells ∙ v1 ∙ omega arith, ap deltas_in counted_variations ∙ d1 ∙ omega (arith, h.counted.1));
        placed = (counted_firsts, counted_starts);
        chained = counted_chained;
        numbered = (
          kept_apart (number_at s.glyphs) (number_at cells) s.begun (λ g _. kept (λ c. c.number) refl g) h.numbered.0,
          kept_low (number_at s.glyphs) (number_at cells) s.begun (λ g _. kept (λ c. c.number) refl g) h.numbered.1,
        );
        few = (counted_few, deltas_few);
        chosen = chosen;
        short = short;
      }
