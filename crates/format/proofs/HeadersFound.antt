-- Headers, whatever the bytes: each holds tuples of the axes, and its place is inside.
use Rattle.std.proofs.Common.{◌≡◌, ℕ, zero, suc, ◌+◌, ◌*◌, ◌≤◌, Bool, true, false, cond, not, ◌&&◌, leb, List, [], ◌∷◌, length, take, drop, ℤ, refl, ap, arith, length-append, length-drop, length-take}
use mathlib.Core.Option.{Option, none, some}
use Rattle.std.specs.List.{AllByRecursion}
use Rattle.format.specs.Bytes.{pair, signed16}
use Rattle.format.specs.Streams.{Read, Rest, rest, found}
use Rattle.format.specs.Reader.{Header, is_embedded, is_regional, peak_index, tuples, header_rest, read_header, header_then, read_headers, peak_conditions}
use Rattle.format.specs.Found.{WellTold}
use Rattle.format.proofs.Outcomes.{Outcome, outcome_then}
use Rattle.format.proofs.Fronts.{Front, words_front}
use Rattle.format.proofs.FaultsTold.{slot_told}
use Rattle.format.proofs.Conditions.{Off}

-- the tuples that the index word says are stored have one value for each axis, and the header is not past the end
pub record Fits (a end : ℕ) (h : Header) : Type 0 where
  pub embedded_of_axes : is_embedded h.index ≡ true → length h.embedded ≡ a
  pub starts_of_axes : is_regional h.index ≡ true → length h.starts ≡ a
  pub ends_of_axes : is_regional h.index ≡ true → length h.ends ≡ a
  pub not_past : h.at ≤ end

module _ (a : ℕ) (vs : List ℤ) where
  embedded_count : (e r : Bool) → length vs ≡ cond e a 0 + cond r (2 * a) 0 → e ≡ true → length (take (cond e a 0) vs) ≡ a
  embedded_count true true n h = omega (arith, length-take a vs)
  embedded_count true false n h = omega (arith, length-take a vs)
  embedded_count false r n h = absurd (let z : ◌≡◌ {A = ℕ} 0 1 = cc in omega arith)

  starts_count : (e r : Bool) → length vs ≡ cond e a 0 + cond r (2 * a) 0 → r ≡ true → length (take a (drop (cond e a 0) vs)) ≡ a
  starts_count true true n h = omega (arith, length-take a (drop a vs), length-drop a vs)
  starts_count false true n h = omega (arith, length-take a vs)
  starts_count e false n h = absurd (let z : ◌≡◌ {A = ℕ} 0 1 = cc in omega arith)

  ends_count : (e r : Bool) → length vs ≡ cond e a 0 + cond r (2 * a) 0 → r ≡ true → length (drop a (drop (cond e a 0) vs)) ≡ a
  ends_count true true n h = omega (arith, length-drop a (drop a vs), length-drop a vs)
  ends_count false true n h = omega (arith, length-drop a vs)
  ends_count e false n h = absurd (let z : ◌≡◌ {A = ℕ} 0 1 = cc in omega arith)

-- what was read and what is left end where all the bytes do
abbrev pub Ends : {X : Type 0} → ℕ → Rest X → Type 0
Ends end r = r.place + length r.left ≡ end

abbrev HeaderFound : ℕ → ℕ → Option (Rest Header) → Type 0
HeaderFound a end none = Unit {0}
HeaderFound a end (some h) = Fits a end h.value × Ends end h

tuples_found :
    (a at size w end : ℕ) (bs : List ℕ) (o : Option (List ℤ × List ℕ)) →
    let n = cond (is_embedded w) a 0 + cond (is_regional w) (2 * a) 0 in
    Front n (2 * n) bs o → at + (4 + length bs) ≡ end → HeaderFound a end (header_rest a at size w o)
tuples_found a at size w end bs none f e = tt
tuples_found a at size w end bs (some r) f e =
    let m = f.as_many_items in (
      record {
        embedded_of_axes = embedded_count a r.0 (is_embedded w) (is_regional w) m;
        starts_of_axes = starts_count a r.0 (is_embedded w) (is_regional w) m;
        ends_of_axes = ends_count a r.0 (is_embedded w) (is_regional w) m;
        not_past = omega arith;
      },
      omega (arith, m, f.as_many_bytes, length-append f.used r.1, ap length f.used_then_left),
    )

header_found : (a : ℕ) (bs : List ℕ) (at end : ℕ) → at + length bs ≡ end → HeaderFound a end (read_header a bs at)
header_found a [] at end e = tt
header_found a (s ∷ []) at end e = tt
header_found a (s ∷ (s' ∷ [])) at end e = tt
header_found a (s ∷ (s' ∷ (w ∷ []))) at end e = tt
header_found a (s ∷ (s' ∷ (w ∷ (w' ∷ bs)))) at end e =
    let i = pair w w' in
    tuples_found a at (pair s s') i end bs (tuples a i bs) (words_front signed16 (cond (is_embedded i) a 0 + cond (is_regional i) (2 * a) 0) bs) (omega arith)

module _ (t : List ℕ) (g a end : ℕ) (inside : end ≤ length t) where
  pub record HeadersFound (n : ℕ) (r : Rest (List Header)) : Type 0 where
    pub fit : AllByRecursion (Fits a end) r.value
    pub as_many : length r.value ≡ n
    pub ends : Ends end r

  header_then_found :
      (i at n : ℕ) (o : Option (Rest Header)) (more : List ℕ → ℕ → Read (Rest (List Header))) → at ≤ end → HeaderFound a end o →
      ((b : List ℕ) (p : ℕ) → p + length b ≡ end → Outcome (HeadersFound n) (WellTold t g) (more b p)) →
      Outcome (HeadersFound (suc n)) (WellTold t g) (header_then g i at o more)
  header_then_found i at n none more le f ih = slot_told t g (some i) 21 at (omega arith) (omega arith) (omega arith)
  header_then_found i at n (some h) more le f ih =
      outcome_then (HeadersFound n) (HeadersFound (suc n)) (WellTold t g) (WellTold t g)
      (more h.left h.place) (λ r. found (rest (h.value ∷ r.value) r.left r.place))
      (ih h.left h.place f.1) (λ d w. w)
      (λ r k. record { fit = (f.0, k.fit); as_many = ap suc k.as_many; ends = k.ends })

  pub headers_found : (i n : ℕ) (bs : List ℕ) (at : ℕ) → at + length bs ≡ end → Outcome (HeadersFound n) (WellTold t g) (read_headers g a i n bs at)
  headers_found i zero bs at e = record { fit = tt; as_many = refl; ends = e }
  headers_found i (suc n) bs at e =
      header_then_found i at n (read_header a bs at) (λ b p. read_headers g a (suc i) n b p) (omega arith) (header_found a bs at end e)
      (λ b p f. headers_found (suc i) n b p f)

  -- the conditions on shared peaks

  pub peaks_told : (count i : ℕ) (hs : List Header) → AllByRecursion (Fits a end) hs → AllByRecursion (λ c. WellTold t g c.answer) (peak_conditions g count i hs)
  peaks_told count i [] f = tt
  peaks_told count i (h ∷ hs) f =
      (slot_told t g (some i) 21 h.at (omega arith) (omega arith) (omega (arith, f.0.not_past)), peaks_told count (suc i) hs f.1)

-- an embedded peak, or one that is there
abbrev pub Peaked : ℕ → Header → Type 0
Peaked count h = (not (is_embedded h.index) && leb count (peak_index h.index)) ≡ false

pub peaks_are_there : (g count i : ℕ) (hs : List Header) → AllByRecursion Off (peak_conditions g count i hs) → AllByRecursion (Peaked count) hs
peaks_are_there g count i [] o = tt
peaks_are_there g count i (h ∷ hs) o = (o.0, peaks_are_there g count (suc i) hs o.1)
