-- A slot, whatever its bytes: what is found in it is well formed, and each fault says what it is.
use Rattle.std.proofs.Common.{◌≡◌, ℕ, zero, suc, ◌+◌, ◌-◌, ◌*◌, ◌%◌, ◌<◌, ◌≤◌, Bool, true, false, ◌||◌, ltb, leb, List, [], ◌∷◌, ◌++◌, length, drop, refl, arith, length-drop, length-take}
use mathlib.Core.Option.{none, some}
use Rattle.std.specs.List.{AllByRecursion}
use Rattle.std.proofs.lemmas.Bool.{leb-false, ltb-false, or_parts}
use Rattle.std.proofs.ByRecursion.{All-append}
use Rattle.format.specs.Bytes.{pair}
use Rattle.format.specs.Account.{Declined, declined, Condition, iff, first_of}
use Rattle.format.specs.Packed.{every}
use Rattle.format.specs.Streams.{and_then}
use Rattle.format.specs.Reader.{Checked, Header, Entry, at_slot, read_headers, peak_conditions, read_shared, read_entries, at_end, read_store, read_bytes_of_slot, offset_of, slot_bytes, read_slot}
use Rattle.format.specs.Found.{FailsInside, WellFormed, WellTold}
use Rattle.format.proofs.Lists.{all_parts}
use Rattle.format.proofs.Conditions.{Off, none_applies}
use Rattle.format.proofs.Outcomes.{Outcome, outcome_then, outcome_if, outcome_unless, outcome_weaker}
use Rattle.format.proofs.Inside.{stays_at, stays_ends}
use Rattle.format.proofs.PointsInside.{InPlace, points_told}
use Rattle.format.proofs.FaultsTold.{request_told, slot_told, stream_told, first_told, first_all}
use Rattle.format.proofs.HeadersFound.{Fits, Peaked, HeadersFound, headers_found, peaks_told, peaks_are_there}
use Rattle.format.proofs.EntriesFound.{EntriesFound, entries_found}

module _ (c : Checked) (g p : ℕ) (room : c.peaks_at + 2 * (c.axes * c.peak_count) ≤ length c.table) where
  abbrev Told : Declined → Type 0
  Told = WellTold c.table g

  -- the entries of a slot
  pub record SlotFound (es : List Entry) : Type 0 where
    pub few : length es ≤ 4095
    pub well_formed : AllByRecursion (WellFormed c.axes p) es

  at_end_found : (at : ℕ) (es : List Entry) (bs : List ℕ) → at ≤ length c.table → SlotFound es → Outcome SlotFound Told (at_end g at es bs)
  at_end_found at es [] le h = h
  at_end_found at es (zero ∷ []) le h = h
  at_end_found at es (suc b ∷ []) le h = slot_told c.table g none 25 at (omega arith) (omega arith) le
  at_end_found at es (zero ∷ (b' ∷ bs)) le h = slot_told c.table g none 25 at (omega arith) (omega arith) le
  at_end_found at es (suc b ∷ (b' ∷ bs)) le h = slot_told c.table g none 25 at (omega arith) (omega arith) le

  shared_found : (b : Bool) (bs : List ℕ) (at : ℕ) → Outcome (InPlace (at_slot g) p bs at) (FailsInside (at_slot g) 22 bs at) (read_shared g p b bs at)
  shared_found true bs at = points_told (at_slot g) p bs at
  shared_found false bs at = (stays_at every bs at, tt)

  -- shared points, entries and what follows them
  data_found :
      (b : Bool) (hs : List Header) (bs : List ℕ) (at end : ℕ) → end ≤ length c.table → length hs ≤ 4095 →
      AllByRecursion (Fits c.axes end) hs → AllByRecursion (Peaked c.peak_count) hs → at + length bs ≤ length c.table →
      Outcome SlotFound Told (and_then (read_shared g p b bs at) (λ s. and_then (read_entries c g p s.value 0 hs s.left s.place) (λ r. at_end g r.place r.value r.left)))
  data_found b hs bs at end le few f peaked inside =
      outcome_then (InPlace (at_slot g) p bs at) SlotFound (FailsInside (at_slot g) 22 bs at) Told (read_shared g p b bs at) _ (shared_found b bs at)
      (λ x w. stream_told c.table g none 22 bs at x (omega arith) (omega arith) inside w)
      (λ s w. outcome_then (EntriesFound c g p s.value end room w.1 (length hs)) SlotFound Told Told (read_entries c g p s.value 0 hs s.left s.place) _
      (entries_found c g p s.value end room w.1 0 hs s.left s.place le f peaked (omega (arith, stays_ends bs at s w.0)))
      (λ d v. v)
      (λ r v. at_end_found r.place r.value r.left (omega (arith, v.inside)) (record { few = omega (arith, v.as_many); well_formed = v.well_formed })))

  store_found :
      (count offset : ℕ) (slot : List ℕ) (at end : ℕ) → 4 ≤ length slot → at + length slot ≡ end → end ≤ length c.table →
      Outcome SlotFound Told (read_store c g p count offset slot at)
  store_found count offset slot at end four e le =
      let t = c.table in
      outcome_then (HeadersFound t g c.axes end le (count % 4096)) SlotFound Told Told (read_headers g c.axes 0 (count % 4096) (drop 4 slot) (at + 4)) _
      (headers_found t g c.axes end le 0 (count % 4096) (drop 4 slot) (at + 4) (omega (arith, length-drop 4 slot)))
      (λ d w. w)
      (λ hs f.
      let peaks = peak_conditions g c.peak_count 0 hs.value in
      let data-offset = iff (ltb (at + offset) hs.place || ltb (length slot) offset) (at_slot g 21 (at + 2)) in
      let cs = peaks ++ (data-offset ∷ []) in
      let peaks-say = peaks_told t g c.axes end le c.peak_count 0 hs.value f.fit in
      let offset-says = slot_told t g none 21 (at + 2) (omega arith) (omega arith) (omega arith) in
      outcome_unless SlotFound Told (first_of cs) _
      (first_told Told cs (first_all Told cs (All-append (λ (k : Condition). Told k.answer) peaks (data-offset ∷ []) peaks-say (offset-says, tt))))
      (λ a.
      let off = all_parts Off peaks (data-offset ∷ []) (none_applies cs a) in
      let fits = ltb-false (length slot) offset (or_parts (ltb (at + offset) hs.place) (ltb (length slot) offset) off.1.0).1 in
      data_found (leb 32768 count) hs.value (drop offset slot) (at + offset) end le (omega (arith, f.as_many)) f.fit
      (peaks_are_there g c.peak_count 0 hs.value off.0) (omega (arith, length-drop offset slot))))

  slot_bytes_found : (slot : List ℕ) (at : ℕ) → at + length slot ≤ length c.table → Outcome SlotFound Told (read_bytes_of_slot c g p slot at)
  slot_bytes_found [] at le = record { few = omega arith; well_formed = tt }
  slot_bytes_found (n ∷ []) at le = slot_told c.table g none 21 at (omega arith) (omega arith) (omega arith)
  slot_bytes_found (n ∷ (n' ∷ [])) at le = slot_told c.table g none 21 (at + 2) (omega arith) (omega arith) (omega arith)
  slot_bytes_found (n ∷ (n' ∷ (o ∷ []))) at le = slot_told c.table g none 21 (at + 2) (omega arith) (omega arith) (omega arith)
  slot_bytes_found (n ∷ (n' ∷ (o ∷ (o' ∷ bs)))) at le =
      let slot = n ∷ (n' ∷ (o ∷ (o' ∷ bs))) in
      store_found (pair n n') (pair o o') slot at (at + length slot) (omega arith) refl le

  -- what is asked for is there
  pub record AskedAndFound (es : List Entry) : Type 0 where
    pub few_points : p ≤ 32767
    pub glyph_is_there : g < c.glyph_count
    pub slot_found : SlotFound es

  pub slot_found_or_told : (g < c.glyph_count → c.data_at + offset_of c g ≤ length c.table) → Outcome AskedAndFound Told (read_slot c g p)
  slot_found_or_told starts =
      let at = c.data_at + offset_of c g in
      outcome_if AskedAndFound Told (leb c.glyph_count g || ltb 32767 p) (declined 20 (some g) none none) (read_bytes_of_slot c g p (slot_bytes c g) at)
      (λ e. request_told c.table g)
      (λ e.
      let passed = or_parts (leb c.glyph_count g) (ltb 32767 p) e in
      let few = ltb-false 32767 p passed.1 in
      let there = leb-false c.glyph_count g passed.0 in
      let begins = starts there in
      let size = offset_of c (g + 1) - offset_of c g in
      outcome_weaker SlotFound AskedAndFound Told (read_bytes_of_slot c g p (slot_bytes c g) at)
      (slot_bytes_found (slot_bytes c g) at (omega (arith, length-take size (drop at c.table), length-drop at c.table)))
      (λ es h. record { few_points = few; glyph_is_there = there; slot_found = h }))
