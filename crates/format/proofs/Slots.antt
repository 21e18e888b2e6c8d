-- A slot is read back: the bytes of a glyph, padded or not, give an entry for each variation, in their order, that gives it back.
use Rattle.std.proofs.Common.{◌≡◌, ℕ, ◌+◌, ◌<◌, ◌≤◌, Bool, true, false, not, ◌&&◌, leb, List, [], ◌∷◌, ◌++◌, map, length, drop, ℤ, sym, refl, ap, ◌∙◌, subst, append_assoc, arith, length-append}
use mathlib.Core.Option.{Option, none, some}
use Rattle.std.specs.List.{AllByRecursion}
use Rattle.std.proofs.ByRecursion.{All-weaker}
use Rattle.format.specs.Bytes.{word, joined}
use Rattle.format.specs.Account.{Variation, ShortTent, ShortDelta}
use Rattle.format.specs.Packed.{Points}
use Rattle.format.specs.Glyphs.{peak, shared_index, point_sets, shared_points, shared_part, shared_flag, data_bytes, header_bytes, headers_bytes, glyph_bytes}
use Rattle.format.specs.Table.{padded}
use Rattle.format.specs.Streams.{found}
use Rattle.format.specs.Reader.{Checked, Entry, shared_peak, is_embedded, peak_index, read_bytes_of_slot, read_store}
use Rattle.format.specs.Promise.{InStep, GivesBack}
use Rattle.format.proofs.Padded.{pad, padded_pad, pad_either}
use Rattle.format.proofs.Words.{word_pair}
use Rattle.format.proofs.Gives.{There, front_dropped}
use Rattle.format.proofs.EntriesBack.{headers_at, headers_back, headers_all, headers_in_step, Reads, entries_back}
use Rattle.format.proofs.EntryBack.{ReadableOne, header, shared_or_every, one_header_back, one_peak_there, one_entry_back}
use Rattle.format.proofs.SlotParts.{SharedBack, shared_set_back, shared_back, is_some, count_fits, count_back, flag_back, Pad, store_back}

-- the shared peak that a variation names is in the table
abbrev pub PeakThere : Checked → List (List ℤ) → Variation → Type 0
PeakThere c ps v = (i : ℕ) → shared_index ps (peak v) ≡ some i → (i < 4095) × (i < c.peak_count) × (shared_peak c i ≡ peak v)

-- what a glyph's variations need so that a slot of the checked table c gives them back
pub record Readable (c : Checked) (a p : ℕ) (ps : List (List ℤ)) (vs : List Variation) : Type 0 where
  pub axes_agree : a ≡ c.axes
  pub points_few : p ≤ 32767
  pub variations_few : length vs ≤ 4095
  pub tents_number : AllByRecursion (λ v. length v.tents ≡ a) vs
  pub deltas_number : AllByRecursion (λ v. length v.deltas ≡ p) vs
  pub short_tents : AllByRecursion (λ v. AllByRecursion ShortTent v.tents) vs
  pub short_deltas : AllByRecursion (λ v. AllByRecursion ShortDelta v.deltas) vs
  pub data_fits : AllByRecursion (λ v. length (data_bytes (shared_points (point_sets vs)) v) ≤ 65535) vs
  pub headers_fit : 4 + length (headers_bytes ps (shared_points (point_sets vs)) vs) ≤ 65535
  pub peaks_there : AllByRecursion (PeakThere c ps) vs

-- the slot with these bytes at this place gives the variations back
pub record SlotRead (c : Checked) (g p : ℕ) (slot : List ℕ) (at : ℕ) (vs : List Variation) : Type 0 where
  pub entries : List Entry
  pub reader_finds_them : read_bytes_of_slot c g p slot at ≡ found entries
  pub each_gives_its_variation_back : InStep GivesBack vs entries

there : (c : Checked) (q : List ℤ) (i : Option ℕ) → ((j : ℕ) → i ≡ some j → (j < 4095) × (j < c.peak_count) × (shared_peak c j ≡ q)) → There c i q
there c q none h = tt
there c q (some j) h = h j refl

all_fit :
    (c : Checked) (p : ℕ) (ps : List (List ℤ)) (s : Option Points) (vs : List Variation) →
    AllByRecursion (λ v. length v.tents ≡ c.axes) vs → AllByRecursion (λ v. length v.deltas ≡ p) vs → AllByRecursion (λ v. AllByRecursion ShortTent v.tents) vs → AllByRecursion (λ v. AllByRecursion ShortDelta v.deltas) vs →
    AllByRecursion (λ v. length (data_bytes s v) ≤ 65535) vs → AllByRecursion (PeakThere c ps) vs → AllByRecursion (ReadableOne c p ps s) vs
all_fit c p ps s [] t d st sd f k = tt
all_fit c p ps s (v ∷ vs) t d st sd f k = (
  record { tents_number = t.0; deltas_number = d.0; short_tents = st.0; short_deltas = sd.0; data_fits = f.0; peak_there = there c (peak v) (shared_index ps (peak v)) k.0 },
  all_fit c p ps s vs t.1 d.1 st.1 sd.1 f.1 k.1,
)

-- the two words at the front
words_back : (c : Checked) (g p n o : ℕ) (bs : List ℕ) (at : ℕ) → n < 65536 → o < 65536 →
    read_bytes_of_slot c g p (word n ++ (word o ++ bs)) at ≡ read_store c g p n o (word n ++ (word o ++ bs)) at
words_back c g p n o bs at h k = rw (word_pair n h, word_pair o k)

past_headers : (n o : ℕ) (hb bs : List ℕ) → o ≡ 4 + length hb → drop o (word n ++ (word o ++ (hb ++ bs))) ≡ bs
past_headers n o hb bs e = front_dropped o (word n ++ (word o ++ hb)) bs (omega arith)

pub parts_back :
    (c : Checked) (g p : ℕ) (ps : List (List ℤ)) (s : Option Points) (vs : List Variation) (pad : List ℕ) (at : ℕ) →
    p ≤ 32767 → length vs ≤ 4095 → 4 + length (headers_bytes ps s vs) ≤ 65535 → AllByRecursion (ReadableOne c p ps s) vs → SharedBack p s → Pad pad →
    let hb = headers_bytes ps s vs in
    SlotRead c g p (word (shared_flag s + length vs) ++ (word (4 + length hb) ++ (hb ++ (shared_part s ++ (joined (map (data_bytes s) vs) ++ pad))))) at vs
parts_back c g p ps s vs pad at few_points few fits all-vs shared pads =
    let hb = headers_bytes ps s vs in
    let sb = shared_part s in
    let db = joined (map (data_bytes s) vs) in
    let n = shared_flag s + length vs in
    let o = 4 + length hb in
    let slot = word n ++ (word o ++ (hb ++ (sb ++ (db ++ pad)))) in
    let hs = headers_at (header_bytes ps s) (header c.axes ps s) vs (at + 4) in
    let hh = headers_back g c.axes (header_bytes ps s) (header c.axes ps s) 0 vs (sb ++ (db ++ pad)) (at + 4)
    (All-weaker (ReadableOne c p ps s) _ (λ v f. one_header_back c p ps s v few_points f) vs all-vs) in
    let pk = headers_all g c.axes (header_bytes ps s) (header c.axes ps s) (λ h. (not (is_embedded h.index) && leb c.peak_count (peak_index h.index)) ≡ false) vs (at + 4)
    (All-weaker (ReadableOne c p ps s) _ (λ v f. one_peak_there c p ps s v few_points f) vs all-vs) in
    let st = headers_in_step g c.axes (header_bytes ps s) (header c.axes ps s) (λ v h. Reads c p (shared_or_every s) (data_bytes s v) v h) vs (at + 4)
    (All-weaker (ReadableOne c p ps s) _ (λ v f. one_entry_back c p ps s v few_points f) vs all-vs) in
    let es = entries_back c g p (shared_or_every s) (data_bytes s) 0 vs hs pad ((at + o) + length sb) st in
    record {
      entries = es.0;
      reader_finds_them =
          words_back c g p n o (hb ++ (sb ++ (db ++ pad))) at (count_fits s (length vs) few) (omega arith)
          ∙ store_back c g p n o slot at (length vs) (is_some s) hs hb sb db pad (shared_or_every s) es.0
          (count_back s (length vs) few) (flag_back s (length vs) few) refl (omega (arith, length-append hb (sb ++ (db ++ pad))))
          refl (past_headers n o hb (sb ++ (db ++ pad)) refl)
          hh pk (shared_back g p s (db ++ pad) (at + o) shared) es.1 pads;
      each_gives_its_variation_back = es.2;
    }

-- the slot of a glyph with variations, with or without a byte 00 after it
pub slot_read_back :
    (c : Checked) (a g p at : ℕ) (ps : List (List ℤ)) (v : Variation) (vs : List Variation) (pad : List ℕ) → Pad pad → Readable c a p ps (v ∷ vs) →
    SlotRead c g p (glyph_bytes ps (v ∷ vs) ++ pad) at (v ∷ vs)
slot_read_back c a g p at ps v vs pad pads h =
    let s = shared_points (point_sets (v ∷ vs)) in
    let hb = headers_bytes ps s (v ∷ vs) in
    let sb = shared_part s in
    let db = joined (map (data_bytes s) (v ∷ vs)) in
    let regroup : (hb ++ (sb ++ db)) ++ pad ≡ hb ++ (sb ++ (db ++ pad)) = append_assoc hb (sb ++ db) pad ∙ ap (λ (r : List ℕ). hb ++ r) (append_assoc sb db pad) in
    let tents : AllByRecursion (λ u. length u.tents ≡ c.axes) (v ∷ vs) = All-weaker (λ u. length u.tents ≡ a) (λ u. length u.tents ≡ c.axes) (λ u e. e ∙ h.axes_agree) (v ∷ vs) h.tents_number in
    subst (λ (r : List ℕ). SlotRead c g p (word (shared_flag s + length (v ∷ vs)) ++ (word (4 + length hb) ++ r)) at (v ∷ vs)) (sym regroup)
    (parts_back c g p ps s (v ∷ vs) pad at h.points_few h.variations_few h.headers_fit
    (all_fit c p ps s (v ∷ vs) tents h.deltas_number h.short_tents h.short_deltas h.data_fits h.peaks_there)
    (shared_set_back p (v ∷ vs) h.points_few h.deltas_number) pads)

-- the slot of a glyph without variations has no bytes
pub empty_slot_read_back : (c : Checked) (g p at : ℕ) → SlotRead c g p [] at []
empty_slot_read_back c g p at = record { entries = []; reader_finds_them = refl; each_gives_its_variation_back = tt }

-- the bytes as the table holds them, of short or long offsets
pub padded_slot_read_back :
    (short : Bool) (c : Checked) (a g p at : ℕ) (ps : List (List ℤ)) (vs : List Variation) → Readable c a p ps vs → SlotRead c g p (padded short (glyph_bytes ps vs)) at vs
padded_slot_read_back true c a g p at ps [] h = empty_slot_read_back c g p at
padded_slot_read_back false c a g p at ps [] h = empty_slot_read_back c g p at
padded_slot_read_back short c a g p at ps (v ∷ vs) h =
    let b = glyph_bytes ps (v ∷ vs) in
    subst (λ (bs : List ℕ). SlotRead c g p bs at (v ∷ vs)) (sym (padded_pad short b)) (slot_read_back c a g p at ps v vs (pad short b) (pad_either short b) h)
