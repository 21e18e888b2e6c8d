-- The short and the long form of a table: its flags word and its length.
use Rattle.std.proofs.Common.{◌≡◌, ℕ, ◌+◌, ◌*◌, ◌/◌, ◌<◌, Bool, true, false, cond, List, [], ◌∷◌, ◌++◌, map, length, ℤ, refl, ap, ◌∙◌, arith, length-append}
use lib.ListN.{length-map}
use Rattle.std.specs.List.{AllByRecursion}
use Rattle.std.proofs.lemmas.Bool.{le-leb, lt-leb}
use Rattle.std.proofs.ByRecursion.{All-append}
use Rattle.format.specs.Bytes.{joined, total}
use Rattle.format.specs.Account.{Variation, Glyph, opened, after}
use Rattle.format.specs.Glyphs.{peak, peaks_seen, shared_peaks, shared_count}
use Rattle.format.specs.Table.{glyphs_bytes, even_total, is_short, padded, table_bytes}
use Rattle.format.specs.Reader.{word_at}
use Rattle.format.specs.Answers.{peaks_bytes, Formed, ShortOrLong}
use Rattle.format.proofs.Padded.{padded_even, width, offsets_size, peaks_size}
use Rattle.format.proofs.TableFront.{front_flags, front_size, slots_of, offsets_of, offsets_part, peaks_part, peaks_start, data_start, formed, table_formed}
use Rattle.format.proofs.TableParts.{offsets_count}
use Rattle.format.proofs.Reached.{SoundVariation, SoundGlyph, Sound, reached}
use Rattle.format.proofs.Peaks.{length_shared_peaks, shared_keep}
use Rattle.format.proofs.Places.{length_glyphs_bytes}

-- Slots

short_slots : (bs : List (List ℕ)) → length (joined (slots_of true bs)) ≡ even_total bs
short_slots [] = refl
short_slots (b ∷ bs) = omega (arith, padded_even b, short_slots bs, length-append (padded true b) (joined (slots_of true bs)))

long_slots : (bs : List (List ℕ)) → length (joined (slots_of false bs)) ≡ total (map length bs)
long_slots [] = refl
long_slots (b ∷ bs) = omega (arith, long_slots bs, length-append b (joined (slots_of false bs)))

-- Either form

flag_small : (s : Bool) → cond s 0 1 < 65536
flag_small true = omega arith
flag_small false = omega arith

module _ (s : Bool) (a : ℕ) (ps : List (List ℤ)) (bs : List (List ℕ)) where
  abbrev after_front : List ℕ
  after_front = offsets_part s bs ++ (peaks_part ps ++ joined (slots_of s bs))

  formed_flags : word_at (formed s a ps bs) 14 ≡ cond s 0 1
  unfolding formed
  formed_flags = front_flags a (length ps) (peaks_start s bs) (length bs) (cond s 0 1) (data_start s ps bs) after_front (flag_small s)

  formed_size : length (formed s a ps bs) ≡ 20 + (width s * (length bs + 1) + (length (peaks_part ps) + length (joined (slots_of s bs))))
  unfolding formed
  formed_size =
      let f : length (formed s a ps bs) ≡ 20 + length after_front = front_size a (length ps) (peaks_start s bs) (length bs) (cond s 0 1) (data_start s ps bs) after_front in
      let o : length (offsets_part s bs) ≡ width s * (length bs + 1) = offsets_size s (offsets_of s bs) ∙ ap (λ (n : ℕ). width s * n) (offsets_count s bs) in
      let p = length-append (offsets_part s bs) (peaks_part ps ++ joined (slots_of s bs)) in
      let q = length-append (peaks_part ps) (joined (slots_of s bs)) in
      f ∙ ap (λ (n : ℕ). 20 + n) (p ∙ ap (λ (n : ℕ). n + length (peaks_part ps ++ joined (slots_of s bs))) o ∙ ap (λ (n : ℕ). width s * (length bs + 1) + n) q)

-- The table of a set

module _ (a : ℕ) (gs : List Glyph) where
  table_is : (s : Bool) → is_short (glyphs_bytes gs) ≡ s → table_bytes a gs ≡ formed s a (shared_peaks (peaks_seen gs)) (glyphs_bytes gs)
  unfolding table_bytes
  table_is s e =
      table_formed a (shared_peaks (peaks_seen gs)) (glyphs_bytes gs)
      ∙ ap (λ (t : Bool). formed t a (shared_peaks (peaks_seen gs)) (glyphs_bytes gs)) e

  of_form : (s : Bool) (slots : ℕ) → is_short (glyphs_bytes gs) ≡ s → length (joined (slots_of s (glyphs_bytes gs))) ≡ slots → Formed a gs (cond s 0 1) (width s) slots
  of_form s slots e l =
      let ps = shared_peaks (peaks_seen gs) in
      let bs = glyphs_bytes gs in
      let z = ap length (table_is s e) ∙ formed_size s a ps bs in
      let n : length bs ≡ length gs = length_glyphs_bytes gs in
      let w : width s * (length bs + 1) ≡ width s * (length gs + 1) = ap (λ (k : ℕ). width s * (k + 1)) n in
      record {
        flags_word = ap (λ (t : List ℕ). word_at t 14) (table_is s e) ∙ formed_flags s a ps bs;
        size = omega (arith, z, w, l);
      }

-- Shared peaks of every set that calls lead to

peaks_of : (a : ℕ) (vs : List Variation) → AllByRecursion (SoundVariation a) vs → AllByRecursion (λ p. length p ≡ a) (map peak vs)
peaks_of a [] h = tt
peaks_of a (v ∷ vs) h = (length-map v.tents (λ t. t.peak) ∙ h.0.tents_number, peaks_of a vs h.1)

peaks_of_all : (a : ℕ) (gs : List Glyph) → AllByRecursion (SoundGlyph a) gs → AllByRecursion (λ p. length p ≡ a) (peaks_seen gs)
peaks_of_all a [] h = tt
peaks_of_all a (g ∷ gs) h = All-append (λ (p : List ℤ). length p ≡ a) (map peak g.variations) (peaks_seen gs) (peaks_of a g.variations h.0.each_variation) (peaks_of_all a gs h.1)

peaks_sized : (a : ℕ) (gs : List Glyph) → Sound a gs → length (peaks_bytes gs) ≡ 2 * (a * shared_count (peaks_seen gs))
peaks_sized a gs s =
    let ps = peaks_seen gs in
    peaks_size a (shared_peaks ps) (shared_keep (λ (p : List ℤ). length p ≡ a) ps (peaks_of_all a gs s.each_glyph))
    ∙ ap (λ (n : ℕ). 2 * (a * n)) (length_shared_peaks ps)

pub short_or_long : ShortOrLong
short_or_long =
    record {
      short_form = λ a gs l. of_form a gs true (even_total (glyphs_bytes gs)) (le-leb (even_total (glyphs_bytes gs) / 2) 65535 l) (short_slots (glyphs_bytes gs));
      long_form = λ a gs l. of_form a gs false (total (map length (glyphs_bytes gs))) (lt-leb (even_total (glyphs_bytes gs) / 2) 65535 l) (long_slots (glyphs_bytes gs));
      peaks_size = λ a free calls. peaks_sized a (after (opened a free) calls).glyphs (reached a free calls);
    }
