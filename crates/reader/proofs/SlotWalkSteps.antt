-- The walk over a slot: how many entries are left, and the next of them.
use Rattle.std.proofs.Common.{◌≡◌, ℕ, zero, suc, ◌+◌, Bool, true, false, ltb, List, [], ◌∷◌, length, take, drop, Some, None, Option as Maybe, sym, refl, ap, ◌∙◌, subst, arith}
use mathlib.Core.Option.{Option, none, some}
use Rattle.std.proofs.lemmas.Bool.{cond-true, cond-false}
use Rattle.format.specs.Account.{Declined, Condition, first_of}
use Rattle.format.specs.Packed.{Points, every}
use Rattle.format.specs.Streams.{Rest, rest, Read, found, fault, fault_if, and_then}
use Rattle.format.specs.Reader.{Header, Entry, Checked, header_then, read_header, read_headers, read_entry, read_entries, peak_conditions, at_entry}
use Rattle.slots.specs.declared.entry.Parts.{Parts}
use Rattle.slots.specs.Heads.{no_peak}
use Rattle.slots.specs.Entries.{EntryRead}
use Rattle.reader.specs.declared.points.PointList.{PointList}
use Rattle.reader.specs.PointWalks.{ListRead}
use Rattle.slots.specs.Slots.{shared_read}
use Rattle.reader.specs.declared.slot.Slot.{Slot}
use Rattle.reader.specs.SlotWalks.{list_at, ListOf}
use Rattle.reader.proofs.PointWalkSteps.{any_decline}

-- how many headers and entries are read

after_one : {X : Type 0} (n : ℕ) (x : X) (r : Read (Rest (List X))) (xs : List X) (left : List ℕ) (p : ℕ) →
    ((ys : List X) (l : List ℕ) (q : ℕ) → r ≡ found (rest ys l q) → length ys ≡ n) → and_then r (λ s. found (rest (x ∷ s.value) s.left s.place)) ≡ found (rest xs left p) → length xs ≡ suc n
after_one n x (fault d) xs left p ih e = absurd (let z : ◌≡◌ {A = ℕ} 0 1 = cc in omega arith)
after_one n x (found s) xs left p ih e =
    let q : rest (x ∷ s.value) s.left s.place ≡ rest xs left p = cc in
    sym (ap (λ r. length r.value) q) ∙ ap suc (ih s.value s.left s.place refl)

module _ (g a : ℕ) where
  one_header : (n i at : ℕ) (o : Option (Rest Header)) (more : List ℕ → ℕ → Read (Rest (List Header))) (hs : List Header) (left : List ℕ) (p : ℕ) →
      ((b : List ℕ) (q : ℕ) (ys : List Header) (l : List ℕ) (k : ℕ) → more b q ≡ found (rest ys l k) → length ys ≡ n) → header_then g i at o more ≡ found (rest hs left p) → length hs ≡ suc n
  one_header n i at none more hs left p ih e = absurd (let z : ◌≡◌ {A = ℕ} 0 1 = cc in omega arith)
  one_header n i at (some h) more hs left p ih e = after_one n h.value (more h.left h.place) hs left p (ih h.left h.place) e

  pub heads_count : (n i : ℕ) (bs : List ℕ) (at : ℕ) (hs : List Header) (left : List ℕ) (p : ℕ) → read_headers g a i n bs at ≡ found (rest hs left p) → length hs ≡ n
  heads_count zero i bs at hs left p e =
      let q : rest [] bs at ≡ rest hs left p = cc in
      sym (ap (λ r. length r.value) q)
  heads_count (suc n) i bs at hs left p e =
      one_header n i at (read_header a bs at) (λ b q. read_headers g a (suc i) n b q) hs left p (λ b q ys l k f. heads_count n (suc i) b q ys l k f) e

module _ (c : Checked) (g p : ℕ) (set : Points) where
  one_entry : (n : ℕ) (t : Bool) (d : Declined) (o : Read Entry) (r : Read (Rest (List Entry))) (es : List Entry) (left : List ℕ) (q : ℕ) →
      ((ys : List Entry) (l : List ℕ) (k : ℕ) → r ≡ found (rest ys l k) → length ys ≡ n) →
      fault_if t d (and_then o (λ e. and_then r (λ s. found (rest (e ∷ s.value) s.left s.place)))) ≡ found (rest es left q) → length es ≡ suc n
  one_entry n true d o r es left q ih e = absurd (let z : ◌≡◌ {A = ℕ} 0 1 = cc in omega arith)
  one_entry n false d (fault f) r es left q ih e = absurd (let z : ◌≡◌ {A = ℕ} 0 1 = cc in omega arith)
  one_entry n false d (found x) r es left q ih e = after_one n x r es left q ih e

  pub entries_count : (i : ℕ) (hs : List Header) (bs : List ℕ) (at : ℕ) (es : List Entry) (left : List ℕ) (q : ℕ) → read_entries c g p set i hs bs at ≡ found (rest es left q) → length es ≡ length hs
  entries_count i [] bs at es left q e =
      let r : rest [] bs at ≡ rest es left q = cc in
      sym (ap (λ s. length s.value) r)
  entries_count i (h ∷ hs) bs at es left q e =
      one_entry (length hs) (ltb (length bs) h.size) (at_entry g i 21 h.at) (read_entry c (at_entry g i) p set h (take h.size bs) at)
      (read_entries c g p set (suc i) hs (drop h.size bs) (at + h.size)) es left q (λ ys l k f. entries_count (suc i) hs (drop h.size bs) (at + h.size) ys l k f) e

-- the shared peak of the first header that is left, and of the others

none_first : (x : Condition) (xs : List Condition) (b : Bool) → x.applies ≡ b → first_of (x ∷ xs) ≡ none → (x.applies ≡ false) × (first_of xs ≡ none)
none_first x xs true a e = absurd (let q : some x.answer ≡ none = sym (cond-true _ _ _ a) ∙ e in let z : ◌≡◌ {A = ℕ} 0 1 = cc in omega arith)
none_first x xs false a e = (a, sym (cond-false _ _ _ a) ∙ e)

pub peaks_next : (g peaks i : ℕ) (hs : List Header) (h : Header) (tl : List Header) → hs ≡ h ∷ tl → first_of (peak_conditions g peaks i hs) ≡ none →
    (no_peak h.index peaks ≡ false) × (first_of (peak_conditions g peaks (i + 1) tl) ≡ none)
peaks_next g peaks i hs h tl e f =
    let x = none_first _ (peak_conditions g peaks (suc i) tl) (no_peak h.index peaks) refl (ap (λ l. first_of (peak_conditions g peaks i l)) (sym e) ∙ f) in
    let t : i + 1 ≡ suc i = omega arith in
    (x.0, ap (λ j. first_of (peak_conditions g peaks j tl)) t ∙ x.1)

-- the list of an entry's points, which are its own or the shared ones
pub list_read : (b : Bool) (bs : List ℕ) (at p : ℕ) (set : Points) (q : Parts) (shared r : Maybe PointList) (y : EntryRead bs at p set b q) → ListRead shared p set → ListOf b bs at shared r → ListRead r p y.set
list_read true bs at p set q shared r y w k =
    rw k.1 (record { left = drop q.x bs; past = q.x; is_read = λ d. (rw (k.2, k.3) (y.set_read d)) })
list_read false bs at p set q shared r y w k =
    let e : found (rest set (drop at bs) at) ≡ found (rest y.set (drop q.x bs) q.x) = y.set_read any_decline in
    let f : rest set (drop at bs) at ≡ rest y.set (drop q.x bs) q.x = cc in
    rw k (subst (λ (s : Points). ListRead shared p s) (ap (λ z. z.value) f) w)

-- the list of a slot's shared points
pub first_list : (s : Slot) (m : Maybe ℕ) (p body : ℕ) (set : Points) → ((d : ℕ → ℕ → Declined) → shared_read d p s.bytes.now m body ≡ found (rest set (drop body s.bytes.now) body)) → ListRead (list_at s m) p set
first_list s None p body set h =
    let e : found (rest every (drop body s.bytes.now) body) ≡ found (rest set (drop body s.bytes.now) body) = h any_decline in
    let f : rest every (drop body s.bytes.now) body ≡ rest set (drop body s.bytes.now) body = cc in
    sym (ap (λ z. z.value) f)
first_list s (Some at) p body set h = record { left = drop body s.bytes.now; past = body; is_read = h }
