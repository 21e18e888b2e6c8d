-- A write behind the cells in use keeps what the stores keep.
use Rattle.std.proofs.Common.{ℕ, ◌≤◌, ◌≢◌, List, take, set, sym, ap, ◌∙◌, subst, arith, length-set, get_or-set_other}
use lib.Seq.{take-set-le}
use Rattle.sets.specs.declared.cells.VariationCell.{VariationCell}
use Rattle.sets.specs.Cells.{deltas_in, blank_variation}
use Rattle.sets.specs.Layout.{Stores}
use Rattle.sets.specs.Sound.{Sound, Starts, Chosen}

-- a cell behind those in use
abbrev pub with_cell : Stores → VariationCell → Stores
with_cell s c = record {
  axes = s.axes;
  names = s.names;
  glyphs = s.glyphs;
  variations = set s.variations s.added c;
  values = s.values;
  deltas = s.deltas;
  begun = s.begun;
  added = s.added;
  moved = s.moved;
}

pub kept_starts : (cs : List VariationCell) (m : ℕ) (c : VariationCell) → Starts m cs → Starts m (set cs m c)
kept_starts cs m c h i l =
    let ne : i ≢ m = omega arith in
    ap (λ (x : VariationCell). x.start) (get_or-set_other cs m i c blank_variation ne) ∙ h i l ∙ ap deltas_in (sym (take-set-le i cs m c (omega arith)))

pub cell_sound : (s : Stores) (c : VariationCell) → Sound s → Sound (with_cell s c)
cell_sound s c h =
    let l = length-set s.variations s.added c in
    record {
      within = (h.within.0, omega (arith, h.within.1), h.within.2, h.within.3);
      counted = (h.counted.0, ap deltas_in (take-set-le s.added s.variations s.added c (omega arith)) ∙ h.counted.1);
      placed = (h.placed.0, kept_starts s.variations s.added c h.placed.1);
      chained = h.chained;
      numbered = h.numbered;
      few = (h.few.0, λ i q. let ne : i ≢ s.added = omega arith in subst (λ (x : VariationCell). x.deltas ≤ 32767) (sym (get_or-set_other s.variations s.added i c blank_variation ne)) (h.few.1 i q));
      chosen = subst (λ (cs : List VariationCell). Chosen cs (take s.moved s.deltas)) (sym (take-set-le s.added s.variations s.added c (omega arith))) h.chosen;
      short = h.short;
    }
