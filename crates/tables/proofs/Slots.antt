-- The slots from a glyph on, their offsets, and the size of those.
use Rattle.std.proofs.Common.{◌≡◌, ℕ, suc, ◌+◌, ◌-◌, ◌*◌, ◌<◌, ◌≤◌, Bool, true, false, List, [], ◌∷◌, ◌++◌, map, length, sym, ap, ◌∙◌, arith}
use lib.ListN.{length-map}
use Rattle.format.specs.Account.{Glyph}
use Rattle.format.specs.Bytes.{joined}
use Rattle.format.specs.Glyphs.{listed}
use Rattle.format.specs.Table.{padded, offset_bytes, offsets_after, glyphs_bytes}
use Rattle.format.proofs.Lists.{length_listed}
use Rattle.format.proofs.Offsets.{length_offsets}
use Rattle.format.proofs.Padded.{offsets_size}
use Rattle.tables.specs.Parts.{glyph_at, slots_from, slots_data, offsets_data, width_of}

module _ (s : Bool) (gs : List Glyph) where
  slots_step : (n : ℕ) → n < length gs → slots_from s gs n ≡ padded s (glyph_at gs n) ∷ slots_from s gs (n + 1)
  unfolding slots_from
  slots_step n h =
      let m = length gs - (n + 1) in
      let e : length gs - n ≡ suc m = omega arith in
      let a : suc n ≡ n + 1 = omega arith in
      ap (λ (k : ℕ). map (padded s) (listed n k (glyph_at gs))) e
      ∙ ap (λ (j : ℕ). padded s (glyph_at gs n) ∷ map (padded s) (listed j m (glyph_at gs))) a

  slots_end : (n : ℕ) → n ≡ length gs → slots_from s gs n ≡ []
  unfolding slots_from
  slots_end n h =
      let e : length gs - n ≡ 0 = omega arith in
      ap (λ (k : ℕ). map (padded s) (listed n k (glyph_at gs))) e

  pub slots_all : slots_from s gs 0 ≡ map (padded s) (glyphs_bytes gs)
  unfolding slots_from glyph_at
  slots_all =
      let e : length gs - 0 ≡ length gs = omega arith in
      ap (λ (k : ℕ). map (padded s) (listed 0 k (glyph_at gs))) e

  slots_count : length (slots_from s gs 0) ≡ length gs
  unfolding slots_from
  slots_count =
      let e : length gs - 0 ≡ length gs = omega arith in
      length-map (listed 0 (length gs - 0) (glyph_at gs)) (padded s) ∙ length_listed 0 (length gs - 0) (glyph_at gs) ∙ e

  pub offsets_sized : length (offsets_data s 0 (slots_from s gs 0)) ≡ width_of s * (length gs + 1)
  unfolding offsets_data
  offsets_sized =
      let n : suc (length (slots_from s gs 0)) ≡ length gs + 1 = omega (arith, slots_count) in
      offsets_size s (offsets_after 0 (slots_from s gs 0)) ∙ ap (λ (k : ℕ). width_of s * k) (length_offsets 0 (slots_from s gs 0) ∙ n)

-- the bytes of the slots, one slot further and at their end

pub slots_next : (s : Bool) (gs : List Glyph) (n : ℕ) → n < length gs → slots_data (slots_from s gs n) ≡ padded s (glyph_at gs n) ++ slots_data (slots_from s gs (n + 1))
unfolding slots_data
slots_next s gs n h = ap (λ (bs : List (List ℕ)). joined bs) (slots_step s gs n h)

pub slots_none : (s : Bool) (gs : List Glyph) (n : ℕ) → n ≡ length gs → slots_data (slots_from s gs n) ≡ []
unfolding slots_data
slots_none s gs n e = ap (λ (bs : List (List ℕ)). joined bs) (slots_end s gs n e)

-- and so the bytes of the offsets

pub offsets_next : (s : Bool) (gs : List Glyph) (n o size : ℕ) → n < length gs → size ≡ length (padded s (glyph_at gs n)) →
    offsets_data s o (slots_from s gs n) ≡ offset_bytes s o ++ offsets_data s (o + size) (slots_from s gs (n + 1))
unfolding offsets_data
offsets_next s gs n o size h e =
    ap (λ (bs : List (List ℕ)). joined (map (offset_bytes s) (offsets_after o bs))) (slots_step s gs n h)
    ∙ ap (λ (k : ℕ). offset_bytes s o ++ joined (map (offset_bytes s) (offsets_after (o + k) (slots_from s gs (n + 1))))) (sym e)

pub offsets_last : (s : Bool) (gs : List Glyph) (n o : ℕ) → n ≡ length gs → offsets_data s o (slots_from s gs n) ≡ offset_bytes s o ++ []
unfolding offsets_data
offsets_last s gs n o e = ap (λ (bs : List (List ℕ)). joined (map (offset_bytes s) (offsets_after o bs))) (slots_end s gs n e)

pub width_most : (s : Bool) → width_of s ≤ 4
width_most true = omega arith
width_most false = omega arith
