-- The parts of a slot, one after another.
use Rattle.std.proofs.Common.{◌≡◌, ℕ, zero, suc, ◌+◌, ◌-◌, ◌%◌, ◌<◌, ◌≤◌, Bool, true, false, cond, not, ◌||◌, eqb, ltb, leb, List, [], ◌∷◌, ◌++◌, length, get_or, drop, None, Ok, Err, Result, sym, refl, ap, ◌∙◌, arith, length-drop}
use mathlib.Core.Option.{Option, none, some}
use Rattle.std.proofs.lemmas.Bool.{cond-true, cond-false, ne_eqb}
use Rattle.std.proofs.lemmas.List.{drop_more, drop_all, drop-drop}
use Rattle.format.specs.Account.{Declined, Condition, iff, first_of}
use Rattle.format.specs.Bytes.{pair}
use Rattle.format.specs.Packed.{Points, every}
use Rattle.format.specs.Streams.{Rest, rest, Read, found, fault, and_then}
use Rattle.format.specs.Reader.{unless, Header, Entry, Checked, at_slot, at_end, peak_conditions, read_shared, read_headers, read_entries, read_store, read_bytes_of_slot}
use Rattle.slots.specs.declared.slot.SlotStart.{SlotStart}
use Rattle.slots.specs.Entries.{own_or_shared}
use Rattle.std.specs.Bool.{then_some}
use Rattle.slots.specs.Slots.{bad_end, shared_read, SlotRead, CheckedAs}
use Rattle.slots.specs.declared.fault.SlotFault.{SlotFault}
use Rattle.format.proofs.Lists.{length_listed}
use Rattle.slots.proofs.HeadSteps.{four_bytes}

-- the stages of a slot's reading
abbrev after_shared : Checked → ℕ → ℕ → List Header → Rest Points → Read (List Entry)
after_shared c g p hs s = and_then (read_entries c g p s.value 0 hs s.left s.place) (λ r. at_end g r.place r.value r.left)

abbrev conditions : Checked → ℕ → ℕ → ℕ → ℕ → Rest (List Header) → List Condition
conditions c g offset len at hs = peak_conditions g c.peak_count 0 hs.value ++ (iff (ltb (at + offset) hs.place || ltb len offset) (at_slot g 21 (at + 2)) ∷ [])

abbrev after_heads : Checked → ℕ → ℕ → ℕ → ℕ → List ℕ → ℕ → ℕ → Rest (List Header) → Read (List Entry)
after_heads c g p count offset sb len at hs =
    unless (first_of (conditions c g offset len at hs)) (and_then (read_shared g p (leb 32768 count) sb (at + offset)) (after_shared c g p hs.value))

abbrev store : Checked → ℕ → ℕ → ℕ → ℕ → List ℕ → List ℕ → ℕ → ℕ → Read (List Entry)
store c g p count offset hb sb len at = and_then (read_headers g c.axes 0 (count % 4096) hb (at + 4)) (after_heads c g p count offset sb len at)

shared_is : (g p : ℕ) (b : Bool) (bs : List ℕ) (at : ℕ) → read_shared g p b bs at ≡ own_or_shared (at_slot g) p every b bs at
shared_is g p true bs at = refl
shared_is g p false bs at = refl

-- conditions: those of peaks first
one_some : (x : Condition) (xs ys : List Condition) (d : Declined) (b : Bool) → x.applies ≡ b → (first_of xs ≡ some d → first_of (xs ++ ys) ≡ some d) → first_of (x ∷ xs) ≡ some d → first_of ((x ∷ xs) ++ ys) ≡ some d
one_some x xs ys d true a r e = cond-true _ _ _ a ∙ sym (cond-true _ _ _ a) ∙ e
one_some x xs ys d false a r e = cond-false _ _ _ a ∙ r (sym (cond-false _ _ _ a) ∙ e)

pub first_some : (xs ys : List Condition) (d : Declined) → first_of xs ≡ some d → first_of (xs ++ ys) ≡ some d
first_some [] ys d e = let z : ◌≡◌ {A = ℕ} 0 1 = cc in absurd (omega arith)
first_some (x ∷ xs) ys d e = one_some x xs ys d x.applies refl (first_some xs ys d) e

one_none : (x : Condition) (xs ys : List Condition) (b : Bool) → x.applies ≡ b → (first_of xs ≡ none → first_of (xs ++ ys) ≡ first_of ys) → first_of (x ∷ xs) ≡ none → first_of ((x ∷ xs) ++ ys) ≡ first_of ys
one_none x xs ys true a r e = let q : some x.answer ≡ none = sym (cond-true _ _ _ a) ∙ e in let z : ◌≡◌ {A = ℕ} 0 1 = cc in absurd (omega arith)
one_none x xs ys false a r e = cond-false _ _ _ a ∙ r (sym (cond-false _ _ _ a) ∙ e)

pub first_none : (xs ys : List Condition) → first_of xs ≡ none → first_of (xs ++ ys) ≡ first_of ys
first_none [] ys e = refl
first_none (x ∷ xs) ys e = one_none x xs ys x.applies refl (first_none xs ys) e

module _ (c : Checked) (g p count offset : ℕ) (bs : List ℕ) (at a peaks : ℕ) (ea : c.axes ≡ a) (ek : c.peak_count ≡ peaks) where
  store_is : read_store c g p count offset (drop at bs) at ≡ store c g p count offset (drop (at + 4) bs) (drop (at + offset) bs) (length bs - at) at
  store_is =
      ap (λ hb. store c g p count offset hb (drop offset (drop at bs)) (length (drop at bs)) at) (drop-drop 4 at bs)
      ∙ ap (λ sb. store c g p count offset (drop (at + 4) bs) sb (length (drop at bs)) at) (drop-drop offset at bs)
      ∙ ap (λ n. store c g p count offset (drop (at + 4) bs) (drop (at + offset) bs) n at) (length-drop at bs)

  heads_of : (r : Read (Rest (List Header))) → read_headers g a 0 (count % 4096) (drop (at + 4) bs) (at + 4) ≡ r →
      read_store c g p count offset (drop at bs) at ≡ and_then r (after_heads c g p count offset (drop (at + offset) bs) (length bs - at) at)
  heads_of r e =
      store_is ∙ ap (λ m. and_then (read_headers g m 0 (count % 4096) (drop (at + 4) bs) (at + 4)) (after_heads c g p count offset (drop (at + offset) bs) (length bs - at) at)) ea
      ∙ ap (λ m. and_then m (after_heads c g p count offset (drop (at + offset) bs) (length bs - at) at)) e

  pub heads_wrong : (d : Declined) → read_headers g a 0 (count % 4096) (drop (at + 4) bs) (at + 4) ≡ fault d → read_store c g p count offset (drop at bs) at ≡ fault d
  heads_wrong d e = heads_of (fault d) e

  module _ (hs : List Header) (past : ℕ) (heads : read_headers g a 0 (count % 4096) (drop (at + 4) bs) (at + 4) ≡ found (rest hs (drop past bs) past)) where
    unless_of : (o : Option Declined) → first_of (conditions c g offset (length bs - at) at (rest hs (drop past bs) past)) ≡ o →
        read_store c g p count offset (drop at bs) at ≡ unless o (and_then (read_shared g p (leb 32768 count) (drop (at + offset) bs) (at + offset)) (after_shared c g p hs))
    unless_of o e = heads_of (found (rest hs (drop past bs) past)) heads
        ∙ ap (λ m. unless m (and_then (read_shared g p (leb 32768 count) (drop (at + offset) bs) (at + offset)) (after_shared c g p hs))) e

    pub peaks_wrong : (d : Declined) → first_of (peak_conditions g peaks 0 hs) ≡ some d → read_store c g p count offset (drop at bs) at ≡ fault d
    peaks_wrong d e = unless_of (some d) (first_some (peak_conditions g c.peak_count 0 hs) _ d (ap (λ m. first_of (peak_conditions g m 0 hs)) ek ∙ e))

    module _ (fine : first_of (peak_conditions g peaks 0 hs) ≡ none) where
      last : first_of (conditions c g offset (length bs - at) at (rest hs (drop past bs) past)) ≡ cond (ltb (at + offset) past || ltb (length bs - at) offset) (some (at_slot g 21 (at + 2))) none
      last = first_none (peak_conditions g c.peak_count 0 hs) (iff (ltb (at + offset) past || ltb (length bs - at) offset) (at_slot g 21 (at + 2)) ∷ []) (ap (λ m. first_of (peak_conditions g m 0 hs)) ek ∙ fine)

      pub offset_wrong : (ltb (at + offset) past || ltb (length bs - at) offset) ≡ true → read_store c g p count offset (drop at bs) at ≡ fault (at_slot g 21 (at + 2))
      offset_wrong e = unless_of (some (at_slot g 21 (at + 2))) (last ∙ cond-true _ _ _ e)

      module _ (right : (ltb (at + offset) past || ltb (length bs - at) offset) ≡ false) where
        shared_of : (r : Read (Rest Points)) → own_or_shared (at_slot g) p every (leb 32768 count) (drop (at + offset) bs) (at + offset) ≡ r →
            read_store c g p count offset (drop at bs) at ≡ and_then r (after_shared c g p hs)
        shared_of r e = unless_of none (last ∙ cond-false _ _ _ right)
            ∙ ap (λ m. and_then m (after_shared c g p hs)) (shared_is g p (leb 32768 count) (drop (at + offset) bs) (at + offset) ∙ e)

        pub shared_wrong : (d : Declined) → own_or_shared (at_slot g) p every (leb 32768 count) (drop (at + offset) bs) (at + offset) ≡ fault d → read_store c g p count offset (drop at bs) at ≡ fault d
        shared_wrong d e = shared_of (fault d) e

        module _ (set : Points) (x : ℕ) (share : own_or_shared (at_slot g) p every (leb 32768 count) (drop (at + offset) bs) (at + offset) ≡ found (rest set (drop x bs) x)) where
          entries_of : (r : Read (Rest (List Entry))) → read_entries c g p set 0 hs (drop x bs) x ≡ r → read_store c g p count offset (drop at bs) at ≡ and_then r (λ s. at_end g s.place s.value s.left)
          entries_of r e = shared_of (found (rest set (drop x bs) x)) share ∙ ap (λ m. and_then m (λ s. at_end g s.place s.value s.left)) e

          pub entries_wrong : (d : Declined) → read_entries c g p set 0 hs (drop x bs) x ≡ fault d → read_store c g p count offset (drop at bs) at ≡ fault d
          entries_wrong d e = entries_of (fault d) e

          pub end_wrong : (es : List Entry) (end : ℕ) → read_entries c g p set 0 hs (drop x bs) x ≡ found (rest es (drop end bs) end) → bad_end (drop end bs) ≡ true → read_store c g p count offset (drop at bs) at ≡ fault (at_slot g 25 end)
          end_wrong es end e b = entries_of (found (rest es (drop end bs) end)) e ∙ ends (drop end bs) b
            where
              ends : (r : List ℕ) → bad_end r ≡ true → at_end g end es r ≡ fault (at_slot g 25 end)
              ends [] b = let z : ◌≡◌ {A = ℕ} 0 1 = cc in absurd (omega arith)
              ends (zero ∷ []) b = let z : ◌≡◌ {A = ℕ} 0 1 = cc in absurd (omega arith)
              ends (suc n ∷ []) b = refl
              ends (zero ∷ (m ∷ r)) b = refl
              ends (suc n ∷ (m ∷ r)) b = refl

          pub end_right : (es : List Entry) (end : ℕ) → read_entries c g p set 0 hs (drop x bs) x ≡ found (rest es (drop end bs) end) → bad_end (drop end bs) ≡ false → read_store c g p count offset (drop at bs) at ≡ found es
          end_right es end e b = entries_of (found (rest es (drop end bs) end)) e ∙ ends (drop end bs) b
            where
              ends : (r : List ℕ) → bad_end r ≡ false → at_end g end es r ≡ found es
              ends [] b = refl
              ends (zero ∷ []) b = refl
              ends (suc n ∷ []) b = let z : ◌≡◌ {A = ℕ} 0 1 = cc in absurd (omega arith)
              ends (zero ∷ (m ∷ r)) b = let z : ◌≡◌ {A = ℕ} 0 1 = cc in absurd (omega arith)
              ends (suc n ∷ (m ∷ r)) b = let z : ◌≡◌ {A = ℕ} 0 1 = cc in absurd (omega arith)

-- the end of a slot
more_by : (x y : ℕ) (r : List ℕ) → true ≡ bad_end (x ∷ (y ∷ r))
more_by zero y r = refl
more_by (suc x) y r = refl

one_by : (x : ℕ) → not (eqb x 0) ≡ bad_end (x ∷ [])
one_by zero = refl
one_by (suc x) = let e : eqb (suc x) 0 ≡ false = ne_eqb _ _ (λ q. omega arith) in rw e

module _ (bs : List ℕ) (at : ℕ) where
  pub end_none : length bs - at ≡ 0 → false ≡ bad_end (drop at bs)
  end_none h = rw (drop_all at bs (omega arith))

  pub end_one : length bs - at ≡ 1 → not (eqb (get_or bs at 0) 0) ≡ bad_end (drop at bs)
  end_one h = rw (drop_more bs at 0 (omega arith), drop_all (at + 1) bs (omega arith)) (one_by (get_or bs at 0))

  pub end_more : 2 ≤ length bs - at → true ≡ bad_end (drop at bs)
  end_more h = rw (drop_more bs at 0 (omega arith), drop_more bs (at + 1) 0 (omega arith)) (more_by (get_or bs at 0) (get_or bs (at + 1) 0) (drop (at + 1 + 1) bs))

-- a short slot, and one of four bytes or more
module _ (c : Checked) (g p : ℕ) where
  none_by : (l : List ℕ) (at : ℕ) → length l ≡ 0 → read_bytes_of_slot c g p l at ≡ found []
  none_by [] at h = refl
  none_by (x ∷ l) at h = absurd (omega arith)

  short_one : (l : List ℕ) (at : ℕ) → length l ≡ 1 → read_bytes_of_slot c g p l at ≡ fault (at_slot g 21 at)
  short_one [] at h = absurd (omega arith)
  short_one (x ∷ []) at h = refl
  short_one (x ∷ (y ∷ l)) at h = absurd (omega arith)

  short_two : (l : List ℕ) (at : ℕ) → 2 ≤ length l → length l < 4 → read_bytes_of_slot c g p l at ≡ fault (at_slot g 21 (at + 2))
  short_two [] at h k = absurd (omega arith)
  short_two (x ∷ []) at h k = absurd (omega arith)
  short_two (x ∷ (y ∷ [])) at h k = refl
  short_two (x ∷ (y ∷ (z ∷ []))) at h k = refl
  short_two (x ∷ (y ∷ (z ∷ (w ∷ l)))) at h k = absurd (omega arith)

  module _ (bs : List ℕ) (at : ℕ) where
    pub slot_empty : length bs - at ≡ 0 → read_bytes_of_slot c g p (drop at bs) at ≡ found []
    slot_empty h = none_by (drop at bs) at (length-drop at bs ∙ h)

    pub slot_one : length bs - at ≡ 1 → read_bytes_of_slot c g p (drop at bs) at ≡ fault (at_slot g 21 at)
    slot_one h = short_one (drop at bs) at (length-drop at bs ∙ h)

    pub slot_two : 2 ≤ length bs - at → length bs - at < 4 → read_bytes_of_slot c g p (drop at bs) at ≡ fault (at_slot g 21 (at + 2))
    slot_two h k = short_two (drop at bs) at (omega (arith, length-drop at bs)) (omega (arith, length-drop at bs))

    pub slot_store : (count offset : ℕ) → 4 ≤ length bs - at → count ≡ pair (get_or bs at 0) (get_or bs (at + 1) 0) → offset ≡ pair (get_or bs (at + 2) 0) (get_or bs (at + 3) 0) →
        read_bytes_of_slot c g p (drop at bs) at ≡ read_store c g p count offset (drop at bs) at
    slot_store count offset h ec eo =
        let f = four_bytes 0 bs at h in
        ap (λ l. read_bytes_of_slot c g p l at) f ∙ sym (ap (λ l. read_store c g p (pair (get_or bs at 0) (get_or bs (at + 1) 0)) (pair (get_or bs (at + 2) 0) (get_or bs (at + 3) 0)) l at) f) ∙ (rw (ec, eo))

pub recheck : (bs : List ℕ) (a peaks p : ℕ) (old new : Checked → ℕ → Read (List Entry)) (r : Result SlotStart SlotFault) → ((c : Checked) (g : ℕ) → new c g ≡ old c g) → CheckedAs bs a peaks p old r → CheckedAs bs a peaks p new r
recheck bs a peaks p old new (Ok s) e k =
    record {
      set = k.set;
      number = k.number;
      set_read = k.set_read;
      headers = k.headers;
      left = k.left;
      past = k.past;
      heads_read = k.heads_read;
      peaks_there = k.peaks_there;
      entries_read = λ c g ea ek. let q = k.entries_read c g ea ek in (q.0, q.1, q.2, q.3, e c g ∙ q.4);
    }
recheck bs a peaks p old new (Err f) e k = λ c g ea ek. e c g ∙ k c g ea ek

pub empty_slot : (bs : List ℕ) (at a peaks p : ℕ) → length bs - at ≡ 0 → SlotRead bs a peaks p (λ c g. read_bytes_of_slot c g p (drop at bs) at) (record { count = 0; header = at; body = at; shared = p; points = None })
empty_slot bs at a peaks p h =
    record {
      set = every;
      number = length_listed 0 p (λ i. i);
      set_read = λ d. refl;
      headers = [];
      left = drop at bs;
      past = at;
      heads_read = λ g. refl;
      peaks_there = λ g. refl;
      entries_read = λ c g ea ek. ([], drop at bs, at, refl, slot_empty c g p bs at h);
    }

-- the shared points, listed or every point
pub listed_is : (bs : List ℕ) (p body past : ℕ) (b : Bool) (set : Points) → ((d : ℕ → ℕ → Declined) → own_or_shared d p every b (drop body bs) body ≡ found (rest set (drop past bs) past)) →
    (d : ℕ → ℕ → Declined) → shared_read d p bs (then_some b body) past ≡ found (rest set (drop past bs) past)
listed_is bs p body past true set h d = h d
listed_is bs p body past false set h d =
    let e : found (rest every (drop body bs) body) ≡ found (rest set (drop past bs) past) = h d in
    let q : rest every (drop body bs) body ≡ rest set (drop past bs) past = cc in
    ap (λ s. found (rest s (drop past bs) past)) (ap (λ t. t.value) q)
