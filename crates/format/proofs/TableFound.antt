-- A table, whatever its bytes: what reading a glyph finds, and what its faults say.
use Rattle.std.proofs.Common.{◌≡◌, ℕ, ◌+◌, ◌*◌, ◌<◌, ◌≤◌, Bool, true, false, cond, ltb, List, length, subst, arith}
use Rattle.std.specs.List.{AllByRecursion}
use Rattle.std.proofs.lemmas.Bool.{ltb-false, or_parts}
use Rattle.std.proofs.ByRecursion.{All-get_or}
use Rattle.format.specs.Account.{Declined, Condition, first_of}
use Rattle.format.specs.Glyphs.{listed}
use Rattle.format.specs.Streams.{found, fault}
use Rattle.format.specs.Reader.{Checked, Entry, checked, offset_of, offset_size, offset_condition, falls, table_conditions, read_slot, read_glyph}
use Rattle.format.specs.Found.{WellTold, LiesInTheSlot}
use Rattle.format.proofs.Lists.{all_listed, length_listed, get_or_listed}
use Rattle.format.proofs.Conditions.{Off, none_applies}
use Rattle.format.proofs.Outcomes.{Outcome, of_found, of_fault, outcome_unless, outcome_weaker}
use Rattle.format.proofs.FaultsTold.{short_told, table_told, First, first_told, first_all}
use Rattle.format.proofs.SlotFound.{AskedAndFound, slot_found_or_told}

module _ (t : List ℕ) (g : ℕ) where
  -- an offset stands inside where all of them do
  offset_inside : (b : Bool) (n i : ℕ) → 20 + cond b 4 2 * (n + 1) ≤ length t → i < n + 1 → 20 + cond b 4 2 * i ≤ length t
  offset_inside true n i h l = omega arith
  offset_inside false n i h l = omega arith

  conditions_told : First (WellTold t g) (table_conditions t)
  conditions_told =
      let c = checked t in (
        short_told t g,
        λ long. let head = ltb-false (length t) 20 long in (
          table_told t g 17 0 (omega arith) (omega arith) (omega arith),
          λ version. (
            table_told t g 18 12 (omega arith) (omega arith) (omega arith),
            λ offsets. let room = ltb-false (length t) (20 + offset_size c * (c.glyph_count + 1)) offsets in (
              table_told t g 18 8 (omega arith) (omega arith) (omega arith),
              λ peaks. (
                table_told t g 18 16 (omega arith) (omega arith) (omega arith),
                λ parts.
                    first_all (WellTold t g) (listed 0 (c.glyph_count + 1) (offset_condition c))
                    (all_listed (λ (k : Condition). WellTold t g k.answer) 0 (c.glyph_count + 1) (offset_condition c)
                    (λ i l. table_told t g 19 (20 + offset_size c * i) (omega arith) (omega arith) (offset_inside c.is_long c.glyph_count i room (omega arith)))),
              ),
            ),
          ),
        ),
      )

-- a slot begins inside
slot_begins : (c : Checked) (g : ℕ) → AllByRecursion Off (listed 0 (c.glyph_count + 1) (offset_condition c)) → g < c.glyph_count → c.data_at + offset_of c g ≤ length c.table
slot_begins c g off l =
    let n = c.glyph_count + 1 in
    let z : 0 + g ≡ g = omega arith in
    let d = offset_condition c 0 in
    let at = All-get_or Off (listed 0 n (offset_condition c)) g d (omega (arith, length_listed 0 n (offset_condition c))) off in
    let passed : Off (offset_condition c g) = subst Off (get_or_listed 0 n (offset_condition c) g g d z (omega arith)) at in
    ltb-false (length c.table) (c.data_at + offset_of c g) (or_parts (falls c g) (ltb (length c.table) (c.data_at + offset_of c g)) passed).1

glyph_found : (bs : List ℕ) (g p : ℕ) → Outcome (LiesInTheSlot bs g p) (WellTold bs g) (read_glyph bs g p)
unfolding read_glyph
glyph_found bs g p =
    let c = checked bs in
    outcome_unless (LiesInTheSlot bs g p) (WellTold bs g) (first_of (table_conditions bs)) (read_slot c g p)
    (first_told (WellTold bs g) (table_conditions bs) (conditions_told bs g))
    (λ a.
    let off = none_applies (table_conditions bs) a in
    let room = ltb-false (length bs) (c.peaks_at + 2 * (c.axes * c.peak_count)) off.1.1.1.0 in
    outcome_weaker (AskedAndFound c g p room) (LiesInTheSlot bs g p) (WellTold bs g) (read_slot c g p)
    (slot_found_or_told c g p room (slot_begins c g off.1.1.1.1.1))
    (λ es h. record {
      few_points = h.few_points;
      glyph_is_there = h.glyph_is_there;
      few_entries = h.slot_found.few;
      entries_well_formed = h.slot_found.well_formed;
    }))

pub reading_lies_in_the_slot : (bs : List ℕ) (g p : ℕ) (es : List Entry) → read_glyph bs g p ≡ found es → LiesInTheSlot bs g p es
reading_lies_in_the_slot bs g p es e = of_found (LiesInTheSlot bs g p) (WellTold bs g) (read_glyph bs g p) es (glyph_found bs g p) e

pub faults_have_their_numbers : (bs : List ℕ) (g p : ℕ) (d : Declined) → read_glyph bs g p ≡ fault d → WellTold bs g d
faults_have_their_numbers bs g p d e = of_fault (LiesInTheSlot bs g p) (WellTold bs g) (read_glyph bs g p) d (glyph_found bs g p) e
