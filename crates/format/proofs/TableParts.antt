-- A table that fits its fields: what the reader's check takes from it, and where its parts are.
use Rattle.std.proofs.Common.{◌≡◌, ℕ, zero, suc, ◌+◌, ◌-◌, ◌*◌, ◌%◌, ◌<◌, ◌≤◌, Bool, true, false, cond, not, eqb, List, [], ◌∷◌, ◌++◌, length, get_or, take, drop, ℤ, sym, refl, ap, ◌∙◌, append_assoc, mul-le-mul, arith, length-append}
use lib.ListN.{length-map}
use lib.Seq.{drop-append-add}
use Rattle.std.specs.List.{AllByRecursion}
use Rattle.format.specs.Bytes.{Short, bits16, signed16, signed_words, joined}
use Rattle.format.specs.Table.{is_short, even_total, padded}
use Rattle.format.specs.Streams.{read_words}
use Rattle.format.specs.Reader.{Checked, checked, word_at, long_at, value_or, read_offsets, shared_peak, slot_bytes}
use Rattle.format.proofs.Words.{words_size, words_back, bits16_fits, signed16_back}
use Rattle.format.proofs.Offsets.{Held, offsets_back, length_offsets, slot_back}
use Rattle.format.proofs.Padded.{fits, width, offsets_size, peaks_size, slot_of}
use Rattle.format.proofs.TableFront.{front_axes, front_peaks, front_peaks_at, front_glyphs, front_flags, front_data_at, front_drop, front_size, slots_of, offsets_of, offsets_part, peaks_part, peaks_start, data_start, formed}

-- what a table's fields can hold
pub record Fitting (a : ℕ) (ps : List (List ℤ)) (bs : List (List ℕ)) : Type 0 where
  pub few_axes : a ≤ 65535
  pub peaks_of_axes : AllByRecursion (λ p. length p ≡ a) ps
  pub peaks_short : AllByRecursion (AllByRecursion Short) ps
  pub few_peaks : length ps ≤ 4095
  pub few_glyphs : length bs ≤ 65535
  pub small_data : even_total bs ≤ 67108864

-- what the check of such a table takes from it
abbrev pub checked_of : Bool → ℕ → List (List ℤ) → List (List ℕ) → Checked
checked_of s a ps bs =
    record {
      table = formed s a ps bs;
      axes = a;
      peak_count = length ps;
      peaks_at = peaks_start s bs;
      glyph_count = length bs;
      is_long = not s;
      data_at = data_start s ps bs;
      offsets = offsets_of s bs;
    }

pub offsets_count : (s : Bool) (bs : List (List ℕ)) → length (offsets_of s bs) ≡ length bs + 1
offsets_count s bs = omega (arith, length_offsets 0 (slots_of s bs), length-map bs (padded s))

offsets_read : (s : Bool) (bs : List (List ℕ)) (r : List ℕ) → AllByRecursion (Held s) (offsets_of s bs) → (l : Bool) (n : ℕ) → l ≡ not s → n ≡ length bs →
    value_or [] (λ r. r.0) (read_offsets l (n + 1) (offsets_part s bs ++ r)) ≡ offsets_of s bs
offsets_read s bs r h l n e f =
    let k : length bs + 1 ≡ length (offsets_of s bs) = sym (offsets_count s bs) in
    rw (e, f, k, offsets_back s (offsets_of s bs) r h)

flag_read : (s : Bool) → eqb (cond s 0 1 % 2) 1 ≡ not s
flag_read true = refl
flag_read false = refl

flag_small : (s : Bool) → cond s 0 1 < 65536
flag_small true = omega arith
flag_small false = omega arith

pub parts_small : (s : Bool) (a : ℕ) (ps : List (List ℤ)) (bs : List (List ℕ)) → Fitting a ps bs → data_start s ps bs < 4000000000
parts_small s a ps bs h = by s (offsets_size s (offsets_of s bs)) (offsets_count s bs)
  where
    by : (s : Bool) → length (offsets_part s bs) ≡ width s * length (offsets_of s bs) → length (offsets_of s bs) ≡ length bs + 1 → data_start s ps bs < 4000000000
    by true e f = omega (arith, peaks_size a ps h.peaks_of_axes, mul-le-mul h.few_axes h.few_peaks)
    by false e f = omega (arith, peaks_size a ps h.peaks_of_axes, mul-le-mul h.few_axes h.few_peaks)

module _ (s : Bool) (a : ℕ) (ps : List (List ℤ)) (bs : List (List ℕ)) where
  pub formed_size : length (formed s a ps bs) ≡ 20 + (length (offsets_part s bs) + (length (peaks_part ps) + length (joined (slots_of s bs))))
  unfolding formed
  formed_size =
      let ds = joined (slots_of s bs) in
      front_size a (length ps) (peaks_start s bs) (length bs) (cond s 0 1) (data_start s ps bs) (offsets_part s bs ++ (peaks_part ps ++ ds))
      ∙ omega (arith, length-append (offsets_part s bs) (peaks_part ps ++ ds), length-append (peaks_part ps) ds)

  pub formed_peaks : (k : ℕ) → drop (peaks_start s bs + k) (formed s a ps bs) ≡ drop k (peaks_part ps ++ joined (slots_of s bs))
  unfolding formed
  formed_peaks k =
      let ds = joined (slots_of s bs) in
      let e : peaks_start s bs + k ≡ 20 + (length (offsets_part s bs) + k) = omega arith in
      ap (λ (j : ℕ). drop j (formed s a ps bs)) e
      ∙ front_drop a (length ps) (peaks_start s bs) (length bs) (cond s 0 1) (data_start s ps bs) (offsets_part s bs ++ (peaks_part ps ++ ds)) (length (offsets_part s bs) + k)
      ∙ drop-append-add (offsets_part s bs) (peaks_part ps ++ ds) k

  pub formed_data : (k : ℕ) → drop (data_start s ps bs + k) (formed s a ps bs) ≡ drop k (joined (slots_of s bs))
  formed_data k =
      let e : data_start s ps bs + k ≡ peaks_start s bs + (length (peaks_part ps) + k) = omega arith in
      ap (λ (j : ℕ). drop j (formed s a ps bs)) e
      ∙ formed_peaks (length (peaks_part ps) + k)
      ∙ drop-append-add (peaks_part ps) (joined (slots_of s bs)) k

  pub formed_version : long_at (formed s a ps bs) 0 ≡ 65536
  unfolding formed
  formed_version = refl

  pub formed_checked : Fitting a ps bs → is_short bs ≡ s → checked (formed s a ps bs) ≡ checked_of s a ps bs
  unfolding formed
  formed_checked h e =
      let r = offsets_part s bs ++ (peaks_part ps ++ joined (slots_of s bs)) in
      let big : data_start s ps bs < 4294967296 = omega (arith, parts_small s a ps bs h) in
      let n = length ps in
      let p = peaks_start s bs in
      let g = length bs in
      let f : ℕ = cond s 0 1 in
      let d = data_start s ps bs in
      let axes = front_axes a n p g f d r (omega (arith, h.few_axes)) in
      let peaks = front_peaks a n p g f d r (omega (arith, h.few_peaks)) in
      let peaks_at = front_peaks_at a n p g f d r (omega arith) in
      let glyphs = front_glyphs a n p g f d r (omega (arith, h.few_glyphs)) in
      let flags = front_flags a n p g f d r (flag_small s) in
      let data_at = front_data_at a n p g f d r big in
      let form : eqb (word_at (formed s a ps bs) 14 % 2) 1 ≡ not s = ap (λ (w : ℕ). eqb (w % 2) 1) flags ∙ flag_read s in
      let offs = offsets_read s bs (peaks_part ps ++ joined (slots_of s bs)) (fits s bs e h.small_data) (eqb (word_at (formed s a ps bs) 14 % 2) 1) (word_at (formed s a ps bs) 12) form glyphs in
      λ i. record {
        table = formed s a ps bs;
        axes = axes i;
        peak_count = peaks i;
        peaks_at = peaks_at i;
        glyph_count = glyphs i;
        is_long = form i;
        data_at = data_at i;
        offsets = offs i;
      }

  -- the slot of a glyph
  pub formed_slot : (g : ℕ) → g < length bs → slot_bytes (checked_of s a ps bs) g ≡ padded s (get_or bs g [])
  formed_slot g h =
      let os = offsets_of s bs in
      let o = get_or os g 0 in
      let l : g < length (slots_of s bs) = omega (arith, length-map bs (padded s)) in
      let k : g + 1 ≡ suc g = omega arith in
      let z : o - 0 ≡ o = omega arith in
      let b : take (get_or os (suc g) 0 - o) (drop (o - 0) (joined (slots_of s bs))) ≡ get_or (slots_of s bs) g [] = slot_back 0 (slots_of s bs) g l in
      ap (λ (j : ℕ). take (get_or os j 0 - o) (drop (data_start s ps bs + o) (formed s a ps bs))) k
      ∙ ap (λ (xs : List ℕ). take (get_or os (suc g) 0 - o) xs) (formed_data o)
      ∙ ap (λ (j : ℕ). take (get_or os (suc g) 0 - o) (drop j (joined (slots_of s bs)))) (sym z)
      ∙ b
      ∙ slot_of s bs g

-- Shared peaks

all_short : (zs : List ℤ) → AllByRecursion Short zs → AllByRecursion (λ z. (bits16 z < 65536) × (signed16 (bits16 z) ≡ z)) zs
all_short [] h = tt
all_short (z ∷ zs) h = ((bits16_fits z h.0, signed16_back z h.0), all_short zs h.1)

peak_read : (a : ℕ) (ps : List (List ℤ)) (r : List ℕ) (i : ℕ) → AllByRecursion (λ p. length p ≡ a) ps → AllByRecursion (AllByRecursion Short) ps → i < length ps →
    value_or [] (λ r. r.0) (read_words signed16 a (drop (2 * (a * i)) (peaks_part ps ++ r))) ≡ get_or ps i []
peak_read a [] r i e h l = absurd (omega arith)
peak_read a (p ∷ ps) r zero e h l =
    let z : 2 * (a * 0) ≡ 0 = omega arith in
    rw (z, append_assoc (signed_words p) (peaks_part ps) r, ← e.0, words_back signed16 bits16 p (peaks_part ps ++ r) (all_short p h.0))
peak_read a (p ∷ ps) r (suc i) e h l =
    let n : length p ≡ a = e.0 in
    let z : 2 * (a * suc i) ≡ length (signed_words p) + 2 * (a * i) = omega (arith, words_size p) in
    rw (z, append_assoc (signed_words p) (peaks_part ps) r, drop-append-add (signed_words p) (peaks_part ps ++ r) (2 * (a * i))) (peak_read a ps r i e.1 h.1 (omega arith))

pub formed_peak : (s : Bool) (a : ℕ) (ps : List (List ℤ)) (bs : List (List ℕ)) → Fitting a ps bs → (i : ℕ) → i < length ps → shared_peak (checked_of s a ps bs) i ≡ get_or ps i []
formed_peak s a ps bs h i l =
    ap (λ (xs : List ℕ). value_or [] (λ r. r.0) (read_words signed16 a xs)) (formed_peaks s a ps bs (2 * (a * i)))
    ∙ peak_read a ps (joined (slots_of s bs)) i h.peaks_of_axes h.peaks_short l
