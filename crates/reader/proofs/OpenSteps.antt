-- A glyph of a table: the check of the table, then the reading of the slot.
use Rattle.std.proofs.Common.{◌≡◌, ℕ, List, Ok, Err, Result, refl, ◌∙◌, subst}
use mathlib.Core.Option.{none, some}
use Rattle.format.specs.Account.{Declined, first_of}
use Rattle.format.specs.Streams.{Read, found, fault}
use Rattle.format.specs.Reader.{checked, table_conditions, read_slot, read_glyph}
use Rattle.format.specs.Reader.{Entry as ReadEntry}
use Rattle.slots.proofs.HeadSteps.{not_both}
use Rattle.reader.specs.declared.fault.Fault.{Fault}
use Rattle.reader.specs.declared.table.Table.{Table}
use Rattle.reader.specs.declared.slot.Slot.{Slot}
use Rattle.reader.specs.Faults.{fault_declined}
use Rattle.reader.specs.Tables.{Sound}
use Rattle.reader.specs.SlotWalks.{Walk, SlotAnswer}

same_found : {X : Type 0} (r : Read X) (x y : X) → r ≡ found x → r ≡ found y → x ≡ y
same_found r x y e f = cc

same_fault : {X : Type 0} (r : Read X) (d e : Declined) → r ≡ fault d → r ≡ fault e → d ≡ e
same_fault r d e a b = cc

module _ (bs : List ℕ) (g p : ℕ) where
  pub table_wrong : (d : Declined) → first_of (table_conditions bs) ≡ some d → read_glyph bs g p ≡ fault d
  unfolding read_glyph
  table_wrong d e = rw e

  table_right : first_of (table_conditions bs) ≡ none → read_glyph bs g p ≡ read_slot (checked bs) g p
  unfolding read_glyph
  table_right e = rw e

  -- what an answer says of the reading
  abbrev pub Answered : Result Slot Fault → Type 0
  Answered (Ok s) = (es : List ReadEntry) × (read_glyph bs g p ≡ found es) × Walk s es
  Answered (Err f) = read_glyph bs g p ≡ fault (fault_declined f)

  pub opens : (r : Result Slot Fault) → Answered r → (es : List ReadEntry) → read_glyph bs g p ≡ found es → (s : Slot) × (r ≡ Ok s) × Walk s es
  opens (Ok s) a es e = (s, refl, subst (λ (l : List ReadEntry). Walk s l) (same_found (read_glyph bs g p) a.0 es a.1 e) a.2)
  opens (Err f) a es e = absurd (not_both (read_glyph bs g p) _ _ a e)

  pub refuses : (r : Result Slot Fault) → Answered r → (d : Declined) → read_glyph bs g p ≡ fault d → (f : Fault) × (r ≡ Err f) × (fault_declined f ≡ d)
  refuses (Ok s) a d e = absurd (not_both (read_glyph bs g p) _ _ e a.1)
  refuses (Err f) a d e = (f, refl, same_fault (read_glyph bs g p) (fault_declined f) d a e)

by_slot : (t : Table) (g p : ℕ) (r : Result Slot Fault) → Sound t → SlotAnswer t g p r → Answered t.bytes.now g p r
by_slot t g p (Ok s) w a = (a.entries, table_right t.bytes.now g p w.no_fault ∙ a.is_read, a.walk)
by_slot t g p (Err f) w a = table_right t.bytes.now g p w.no_fault ∙ a

pub answered : (bs : List ℕ) (t : Table) (g p : ℕ) (r : Result Slot Fault) → t.bytes.now ≡ bs → Sound t → SlotAnswer t g p r → Answered bs g p r
answered bs t g p r e w a = subst (λ (l : List ℕ). Answered l g p r) e (by_slot t g p r w a)
