-- One variation of a glyph: its header and its entry are read back.
use Rattle.std.proofs.Common.{◌≡◌, ℕ, ◌+◌, ◌≤◌, Bool, true, false, not, ◌&&◌, leb, List, ◌++◌, map, length, ℤ, refl, ap, ◌∙◌, subst, arith}
use mathlib.Core.Option.{Option, none, some}
use Rattle.std.specs.List.{AllByRecursion}
use Rattle.std.proofs.lemmas.Bool.{lt-leb, false≢true}
use Rattle.std.proofs.ByRecursion.{All-append, All-map, All-weaker}
use Rattle.format.specs.Bytes.{Short}
use Rattle.format.specs.Account.{Tent, Variation, ShortTent, ShortDelta}
use Rattle.format.specs.Packed.{Points, every}
use Rattle.format.specs.Glyphs.{peak, stored_points, stored_deltas, xs_of, ys_of, has_region, peak_part, region_part, header_values, index_word, header_bytes, data_bytes, is_shared, shared_index}
use Rattle.format.specs.Streams.{rest, found}
use Rattle.format.specs.Reader.{Checked, Header, header_of, entry_of, is_embedded, peak_index, read_header, read_entry}
use Rattle.format.proofs.Words.{words_size}
use Rattle.format.proofs.Headers.{header_back, embedded_back, index_back, private_back}
use Rattle.format.proofs.Stored.{entry_back}
use Rattle.format.proofs.Alike.{same_sets}
use Rattle.format.proofs.Gives.{There, there_index, entry_gives_back}
use Rattle.format.proofs.EntriesBack.{Reads}

-- what one variation needs so that it is read back from a slot with these shared peaks and these shared points
pub record ReadableOne (c : Checked) (p : ℕ) (ps : List (List ℤ)) (s : Option Points) (v : Variation) : Type 0 where
  pub tents_number : length v.tents ≡ c.axes
  pub deltas_number : length v.deltas ≡ p
  pub short_tents : AllByRecursion ShortTent v.tents
  pub short_deltas : AllByRecursion ShortDelta v.deltas
  pub data_fits : length (data_bytes s v) ≤ 65535
  pub peak_there : There c (shared_index ps (peak v)) (peak v)

abbrev pub index_of : List (List ℤ) → Option Points → Variation → ℕ
index_of ps s v = index_word (shared_index ps (peak v)) (has_region v) (is_shared s (stored_points v.deltas))

abbrev pub header : ℕ → List (List ℤ) → Option Points → Variation → ℕ → Header
header a ps s v at = header_of a at (length (data_bytes s v)) (index_of ps s v) (header_values (shared_index ps (peak v)) v)

values_short : (i : Option ℕ) (r : Bool) (ts : List Tent) → AllByRecursion ShortTent ts → AllByRecursion Short (peak_part i (map (λ t. t.peak) ts) ++ region_part r ts)
values_short i r ts h = All-append Short (peak_part i (map (λ t. t.peak) ts)) (region_part r ts) (of_peak i) (of_region r)
  where
    of_peak : (i : Option ℕ) → AllByRecursion Short (peak_part i (map (λ t. t.peak) ts))
    of_peak none = All-map Short (λ t. t.peak) ts (All-weaker ShortTent (λ t. Short t.peak) (λ t k. k.0) ts h)
    of_peak (some j) = tt

    of_region : (r : Bool) → AllByRecursion Short (region_part r ts)
    of_region true =
        All-append Short (map (λ t. t.start) ts) (map (λ t. t.end) ts)
        (All-map Short (λ t. t.start) ts (All-weaker ShortTent (λ t. Short t.start) (λ t k. k.1) ts h))
        (All-map Short (λ t. t.end) ts (All-weaker ShortTent (λ t. Short t.end) (λ t k. k.2) ts h))
    of_region false = tt

-- the shared points that the entries are read with
abbrev pub shared_or_every : Option Points → Points
shared_or_every none = every
shared_or_every (some q) = q

shared_is : (s : Option Points) (q : Points) → is_shared s q ≡ true → shared_or_every s ≡ q
shared_is none q h = absurd (false≢true h)
shared_is (some p) q h = same_sets p q h

-- no such shared peak: never
peak_not_amiss : (c : Checked) (i : Option ℕ) (q : List ℤ) (r s : Bool) → There c i q → (not (is_embedded (index_word i r s)) && leb c.peak_count (peak_index (index_word i r s))) ≡ false
peak_not_amiss c none q r s h = rw (embedded_back none r s tt)
peak_not_amiss c (some i) q r s h = rw (embedded_back (some i) r s h.0, index_back i r s h.0) (lt-leb c.peak_count i h.1)

module _ (c : Checked) (p : ℕ) (ps : List (List ℤ)) (s : Option Points) (v : Variation) (few : p ≤ 32767) (f : ReadableOne c p ps s v) where
  pub one_header_back : (r : List ℕ) (at : ℕ) → read_header c.axes (header_bytes ps s v ++ r) at ≡ some (rest (header c.axes ps s v at) r (at + length (header_bytes ps s v)))
  one_header_back r at =
      let i = shared_index ps (peak v) in
      header_back ps s v c.axes r at f.tents_number (omega (arith, f.data_fits)) (there_index c i (peak v) f.peak_there) (values_short i (has_region v) v.tents f.short_tents)
      ∙ ap (λ (n : ℕ). some (rest (header c.axes ps s v at) r (at + n))) (omega (arith, words_size (header_values i v)))

  pub one_peak_there : (at : ℕ) → (not (is_embedded (header c.axes ps s v at).index) && leb c.peak_count (peak_index (header c.axes ps s v at).index)) ≡ false
  one_peak_there at = peak_not_amiss c (shared_index ps (peak v)) (peak v) (has_region v) (is_shared s (stored_points v.deltas)) f.peak_there

  pub one_entry_back : (at : ℕ) → Reads c p (shared_or_every s) (data_bytes s v) v (header c.axes ps s v at)
  one_entry_back at =
      let i = shared_index ps (peak v) in
      let sh = is_shared s (stored_points v.deltas) in
      let h = header c.axes ps s v at in
      record {
        size_of_data = refl;
        entry = entry_of c h (length v.deltas) (stored_points v.deltas) (xs_of (stored_deltas v.deltas)) (ys_of (stored_deltas v.deltas));
        entry_found = λ d at'.
            subst (λ (n : ℕ). read_entry c d n (shared_or_every s) h (data_bytes s v) at' ≡ found (entry_of c h (length v.deltas) (stored_points v.deltas) (xs_of (stored_deltas v.deltas)) (ys_of (stored_deltas v.deltas)))) f.deltas_number
            (entry_back c d s (shared_or_every s) h v at' (omega (arith, f.deltas_number)) f.short_deltas
            (private_back i (has_region v) sh (there_index c i (peak v) f.peak_there))
            (shared_is s (stored_points v.deltas)));
        given_back = entry_gives_back c v at (length (data_bytes s v)) i sh f.tents_number f.peak_there;
      }
