-- A granted set: its table fits its fields, and the two accounts of each of its glyphs agree.
use Rattle.std.proofs.Common.{◌≡◌, ℕ, ◌+◌, ◌<◌, ◌≤◌, Bool, true, false, ◌||◌, ltb, leb, List, [], ◌∷◌, ◌++◌, length, get_or, sym, refl, ap, ◌∙◌, subst, arith}
use mathlib.Core.Option.{Option, none, some}
use Rattle.std.specs.List.{AllByRecursion}
use Rattle.std.proofs.lemmas.Bool.{and_parts, ltb-true, ltb-false, le-leb, false≢true}
use Rattle.std.proofs.ByRecursion.{All-weaker}
use Rattle.format.specs.Bytes.{Short, all}
use Rattle.format.specs.Account.{Variation, Glyph, begun, Declined, declined, ShortVariation, ShortSet}
use Rattle.format.specs.Glyphs.{listed, peaks_seen, shared_peaks, glyph_bytes}
use Rattle.format.specs.Table.{numbers_full, glyphs_bytes, is_short, table_bytes, even_total}
use Rattle.format.specs.Streams.{fault, fault_if}
use Rattle.format.specs.Reader.{Checked, checked, unless, offset_of, slot_bytes, read_slot, read_glyph, read_bytes_of_slot}
use Rattle.format.specs.Promise.{In, DeltasNumber, Agree}
use Rattle.format.proofs.Reached.{SoundVariation, SoundGlyph, Sound}
use Rattle.format.proofs.Granted.{Granted}
use Rattle.format.proofs.Places.{number_below, glyphs_few, length_glyphs_bytes, fits_of, bytes_of}
use Rattle.format.proofs.Peaks.{SoundPeak, index_finds, index_small, few_shared_peaks, sound_shared_peaks}
use Rattle.format.proofs.Padded.{pad, padded_pad}
use Rattle.format.proofs.TableFront.{data_start, offsets_of}
use Rattle.format.proofs.TableParts.{checked_of, formed_peak, Fitting}
use Rattle.format.proofs.Tables.{table_back, table_small, glyph_read_of}
use Rattle.format.proofs.Slots.{PeakThere, Readable, padded_slot_read_back}
use Rattle.format.proofs.Movements.{agree_from_entries}
use Rattle.format.proofs.Lists.{all_in, test_listed, all_from}

points_few : (a p : ℕ) (vs : List Variation) → AllByRecursion (SoundVariation a) vs → DeltasNumber vs p → p ≤ 32767
points_few a p [] s d = d
points_few a p (v ∷ vs) s d = omega (arith, s.0.few_deltas)

-- a number that was not begun is not below the number of glyphs
past : (i : ℕ) (gs : List Glyph) → numbers_full gs ≡ true → begun i gs ≡ false → length gs ≤ i
past i gs f e = by (ltb i (length gs)) refl
  where
    by : (b : Bool) → ltb i (length gs) ≡ b → length gs ≤ i
    by false h = ltb-false i (length gs) h
    by true h =
        let p = and_parts (all (λ (g : Glyph). ltb g.number (length gs)) gs) (all (λ (n : ℕ). begun n gs) (listed 0 (length gs) (λ (n : ℕ). n))) f in
        let t = test_listed (λ (n : ℕ). begun n gs) 0 (length gs) (λ (n : ℕ). n) p.1 i i (omega arith) (ltb-true i (length gs) h) in
        absurd (false≢true (sym e ∙ t))

-- the table of a set that none of 10 to 14 applies to fits its fields, and its length fits four bytes

pub set_fitting : (a : ℕ) (gs : List Glyph) → a ≤ 65535 → Sound a gs → ShortSet gs → numbers_full gs ≡ true → even_total (glyphs_bytes gs) ≤ 67108864 →
    Fitting a (shared_peaks (peaks_seen gs)) (glyphs_bytes gs)
set_fitting a gs few sound short full small =
    let ps = shared_peaks (peaks_seen gs) in
    record {
      few_axes = few;
      peaks_of_axes = All-weaker (SoundPeak a) (λ q. length q ≡ a) (λ q s. s.values_number) ps (sound_shared_peaks a gs sound short);
      peaks_short = All-weaker (SoundPeak a) (AllByRecursion Short) (λ q s. s.short_values) ps (sound_shared_peaks a gs sound short);
      few_peaks = few_shared_peaks (peaks_seen gs);
      few_glyphs = subst (λ (n : ℕ). n ≤ 65535) (sym (length_glyphs_bytes gs)) (glyphs_few a gs sound full);
      small_data = small;
    }

pub set_small : (a : ℕ) (gs : List Glyph) → a ≤ 65535 → Sound a gs → ShortSet gs → numbers_full gs ≡ true → even_total (glyphs_bytes gs) ≤ 67108864 → length (table_bytes a gs) < 4294967296
unfolding table_bytes
set_small a gs few sound short full small = table_small a (shared_peaks (peaks_seen gs)) (glyphs_bytes gs) (set_fitting a gs few sound short full small)

-- A granted set

module _ (a : ℕ) (gs : List Glyph) (cells allowance n : ℕ) (few : a ≤ 65535) (sound : Sound a gs) (short : ShortSet gs) (is : Granted a gs cells allowance n) where
  fits : Fitting a (shared_peaks (peaks_seen gs)) (glyphs_bytes gs)
  fits = set_fitting a gs few sound short is.full is.total_fits

  abbrev check : Checked
  check = checked_of (is_short (glyphs_bytes gs)) a (shared_peaks (peaks_seen gs)) (glyphs_bytes gs)

  module _ (g : Glyph) (one : In g gs) (p : ℕ) (number : DeltasNumber g.variations p) where
    sound_one : SoundGlyph a g
    sound_one = all_in (SoundGlyph a) g gs one sound.each_glyph

    readable : Readable check a p (peaks_seen gs) g.variations
    readable =
        let vs = g.variations in
        let s = sound_one.each_variation in
        let k = all_in (λ (g : Glyph). AllByRecursion ShortVariation g.variations) g gs one short in
        let f = fits_of a cells allowance n g gs one sound.numbers_apart is in
        record {
          axes_agree = refl;
          points_few = points_few a p vs s number;
          variations_few = sound_one.few_variations;
          tents_number = All-weaker (SoundVariation a) _ (λ v t. t.tents_number) vs s;
          deltas_number = sound_one.alike p number;
          short_tents = All-weaker ShortVariation _ (λ v t. t.0) vs k;
          short_deltas = All-weaker ShortVariation _ (λ v t. t.1) vs k;
          data_fits = f.data_fits;
          headers_fit = f.headers_fit;
          peaks_there = all_from (PeakThere check (peaks_seen gs)) vs (λ v i j e.
              let k = index_finds v g gs one i j e in (
                index_small v g gs one i j e,
                k.0,
                formed_peak (is_short (glyphs_bytes gs)) a (shared_peaks (peaks_seen gs)) (glyphs_bytes gs) fits j k.0 ∙ k.1,
              ));
        }

    -- the two accounts of each glyph agree
    pub granted_agrees : Agree a (table_bytes a gs) g p
    unfolding table_bytes
    granted_agrees =
        let s = is_short (glyphs_bytes gs) in
        let ps = peaks_seen gs in
        let b = glyph_bytes ps g.variations in
        let at = data_start s (shared_peaks ps) (glyphs_bytes gs) + get_or (offsets_of s (glyphs_bytes gs)) g.number 0 in
        let r = padded_slot_read_back s check a g.number p at ps g.variations readable in
        agree_from_entries a (table_bytes a gs) g p r.entries
        (glyph_read_of a (shared_peaks ps) (glyphs_bytes gs) fits g.number p
        (subst (λ (k : ℕ). g.number < k) (sym (length_glyphs_bytes gs)) (number_below g gs one is.full)) readable.points_few
        ∙ ap (λ (bs : List ℕ). read_bytes_of_slot check g.number p (bs ++ pad s bs) at) (bytes_of g gs one sound.numbers_apart is.full)
        ∙ ap (λ (bs : List ℕ). read_bytes_of_slot check g.number p bs at) (sym (padded_pad s b))
        ∙ r.reader_finds_them)
        r.each_gives_its_variation_back

  -- no glyph but those begun is there
  pub no_other_glyph : (i p : ℕ) → begun i gs ≡ false → read_glyph (table_bytes a gs) i p ≡ fault (declined 20 (some i) none none)
  unfolding table_bytes read_glyph
  no_other_glyph i p e =
      let t = table_bytes a gs in
      let b = table_back a (shared_peaks (peaks_seen gs)) (glyphs_bytes gs) fits in
      let n : (checked t).glyph_count ≡ length gs = b.glyph_count_back ∙ length_glyphs_bytes gs in
      let l : leb (checked t).glyph_count i ≡ true = ap (λ (k : ℕ). leb k i) n ∙ le-leb (length gs) i (past i gs is.full e) in
      ap (λ (o : Option Declined). unless o (read_slot (checked t) i p)) b.no_fault
      ∙ ap (λ (c : Bool). fault_if (c || ltb 32767 p) (declined 20 (some i) none none) (read_bytes_of_slot (checked t) i p (slot_bytes (checked t) i) ((checked t).data_at + offset_of (checked t) i))) l
