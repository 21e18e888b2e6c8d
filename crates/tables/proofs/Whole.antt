-- A table is its head, its offsets, the shared peaks and the slots; its length.
use Rattle.std.proofs.Common.{◌≡◌, ℕ, ◌+◌, ◌≤◌, Bool, List, ◌++◌, map, length, sym, refl, ap, ◌∙◌, arith, length-append}
use Rattle.format.specs.Account.{Glyph}
use Rattle.format.specs.Bytes.{joined}
use Rattle.format.specs.Glyphs.{peaks_seen, shared_peaks}
use Rattle.format.specs.Table.{padded, table_bytes, glyphs_bytes}
use Rattle.format.proofs.Padded.{padded_total}
use Rattle.format.proofs.Places.{length_glyphs_bytes}
use Rattle.format.proofs.TableFront.{formed, table_formed}
use Rattle.tables.specs.declared.layout.Layout.{Layout}
use Rattle.tables.specs.Forms.{halves}
use Rattle.tables.specs.Parts.{peak_count, peaks_data, slots_from, slots_data, offsets_data, head_of, head_data}
use Rattle.tables.specs.Layouts.{Laid}
use Rattle.tables.proofs.Slots.{slots_all}

-- the table in the form s, with these slots and so many glyphs
assembled : Bool → ℕ → List Glyph → List (List ℕ) → ℕ → List ℕ
assembled s a gs slots n =
    let offsets = offsets_data s 0 slots in
    head_of a (peak_count gs) (20 + length offsets) n s (20 + (length offsets + length (peaks_data gs)))
    ++ (offsets ++ (peaks_data gs ++ slots_data slots))

formed_is : (s : Bool) (a : ℕ) (gs : List Glyph) → formed s a (shared_peaks (peaks_seen gs)) (glyphs_bytes gs) ≡ assembled s a gs (map (padded s) (glyphs_bytes gs)) (length (glyphs_bytes gs))
unfolding formed assembled peak_count peaks_data offsets_data slots_data
formed_is s a gs = refl

module _ (a : ℕ) (gs : List Glyph) (l : Layout) (h : Laid gs l) where
  pub table_is : (s : Bool) → s ≡ halves l.form →
      let slots = slots_from s gs 0 in
      table_bytes a gs ≡ head_data s a gs ++ (offsets_data s 0 slots ++ (peaks_data gs ++ slots_data slots))
  unfolding table_bytes head_data assembled
  table_is s e =
      table_formed a (shared_peaks (peaks_seen gs)) (glyphs_bytes gs)
      ∙ ap (λ (t : Bool). formed t a (shared_peaks (peaks_seen gs)) (glyphs_bytes gs)) (sym (e ∙ h.form))
      ∙ formed_is s a gs
      ∙ ap (λ (n : ℕ). assembled s a gs (map (padded s) (glyphs_bytes gs)) n) (length_glyphs_bytes gs)
      ∙ ap (λ (bs : List (List ℕ)). assembled s a gs bs (length gs)) (sym (slots_all s gs))

  abbrev form : Bool
  form = halves l.form

  abbrev slots : List (List ℕ)
  slots = slots_from form gs 0

  abbrev offsets : List ℕ
  offsets = offsets_data form 0 slots

  head_size : length (head_data form a gs) ≡ 20
  unfolding head_data
  head_size = refl

  slots_size : length (slots_data slots) ≡ l.slots
  unfolding slots_data
  slots_size = ap (λ (bs : List (List ℕ)). length (joined bs)) (slots_all form gs) ∙ sym h.size

  pub table_size : length (table_bytes a gs) ≡ 20 + (length offsets + length (peaks_data gs)) + l.slots
  table_size =
      let after-peaks = length-append (peaks_data gs) (slots_data slots) in
      let after-offsets = length-append offsets (peaks_data gs ++ slots_data slots) in
      ap length (table_is form refl)
      ∙ omega (arith, head_size, slots_size, after-peaks, after-offsets, length-append (head_data form a gs) (offsets ++ (peaks_data gs ++ slots_data slots)))

  pub slots_few : l.slots ≤ 67108864
  slots_few = omega (arith, h.size, h.small, padded_total form (glyphs_bytes gs))
