-- Entries, whatever the bytes: each is well formed, and each fault says what it is.
use Rattle.std.proofs.Common.{◌≡◌, ℕ, zero, suc, ◌+◌, ◌*◌, ◌<◌, ◌≤◌, Bool, true, false, cond, not, ◌&&◌, ltb, leb, List, [], ◌∷◌, map, length, take, drop, ℤ, sym, refl, ap, ◌∙◌, subst, mul-le-mul, arith, length-drop, length-take}
use mathlib.Core.Option.{Option, none, some}
use lib.ListN.{length-map}
use Rattle.std.specs.List.{AllByRecursion}
use Rattle.std.proofs.lemmas.Bool.{le-leb, lt-ltb, ltb-false, leb-false}
use Rattle.format.specs.Bytes.{pair, signed16}
use Rattle.format.specs.Account.{Declined, implied_start, implied_end}
use Rattle.format.specs.Packed.{Points, every, only}
use Rattle.format.specs.Glyphs.{listed}
use Rattle.format.specs.Streams.{Read, Rest, rest, rises, cons_to, read_words, read_points, read_deltas, and_then, found}
use Rattle.format.specs.Reader.{Checked, Header, Entry, is_embedded, is_regional, is_private, peak_index, value_or, shared_peak, entry_peak, entry_of, points_of, moves_of, nothing_left, at_entry, read_entry, read_entries}
use Rattle.format.specs.Laws.{InRange}
use Rattle.format.specs.Found.{FailsInside, WellFormed, WellTold}
use Rattle.format.proofs.Outcomes.{Outcome, outcome_then, outcome_if, outcome_cond}
use Rattle.format.proofs.Inside.{stays_at, stays_ends}
use Rattle.format.proofs.DeltasInside.{AsMany, deltas_told}
use Rattle.format.proofs.PointsInside.{InPlace, points_told}
use Rattle.format.proofs.FaultsTold.{slot_told, stream_told}
use Rattle.format.proofs.HeadersFound.{Fits, Peaked}

-- Peaks

abbrev Complete : {X : Type 0} → ℕ → Option (List X × List ℕ) → Type 0
Complete n none = ⊥
Complete n (some r) = length r.0 ≡ n

one_more : {X : Type 0} (x : X) (n : ℕ) (o : Option (List X × List ℕ)) → Complete n o → Complete (suc n) (cons_to x o)
one_more x n none h = h
one_more x n (some r) h = ap suc h

words_complete : {X : Type 0} (f : ℕ → X) (n : ℕ) (bs : List ℕ) → 2 * n ≤ length bs → Complete n (read_words f n bs)
words_complete f zero bs h = refl
words_complete f (suc n) [] h = absurd (omega arith)
words_complete f (suc n) (a ∷ []) h = absurd (omega arith)
words_complete f (suc n) (a ∷ (b ∷ bs)) h = one_more (f (pair a b)) n (read_words f n bs) (words_complete f n bs (omega arith))

complete_count : {X : Type 0} (n : ℕ) (o : Option (List X × List ℕ)) → Complete n o → length (value_or [] (λ r. r.0) o) ≡ n
complete_count n none h = absurd h
complete_count n (some r) h = h

module _ (c : Checked) (room : c.peaks_at + 2 * (c.axes * c.peak_count) ≤ length c.table) where
  shared_of_axes : (i : ℕ) → i < c.peak_count → length (shared_peak c i) ≡ c.axes
  shared_of_axes i h =
      let a = c.axes in
      let at = c.peaks_at + 2 * (a * i) in
      let few : a * suc i ≤ a * c.peak_count = mul-le-mul (omega arith) (omega arith) in
      complete_count a (read_words signed16 a (drop at c.table)) (words_complete signed16 a (drop at c.table) (omega (arith, few, room, length-drop at c.table)))

  peak_of_axes : (h : Header) (end : ℕ) → Fits c.axes end h → Peaked c.peak_count h → length (entry_peak c h) ≡ c.axes
  peak_of_axes h end f k = by (is_embedded h.index) f.embedded_of_axes k
    where
      by : (b : Bool) → (b ≡ true → length h.embedded ≡ c.axes) → (not b && leb c.peak_count (peak_index h.index)) ≡ false →
          length (cond b h.embedded (shared_peak c (peak_index h.index))) ≡ c.axes
      by true e n = e refl
      by false e n = shared_of_axes (peak_index h.index) (leb-false c.peak_count (peak_index h.index) n)

-- a bound of the tents: stored, or implied by the peak
bound_of_axes : (b : Bool) (a : ℕ) (stored peak : List ℤ) (implied : ℤ → ℤ) → (b ≡ true → length stored ≡ a) → length peak ≡ a → length (cond b stored (map implied peak)) ≡ a
bound_of_axes true a stored peak implied h e = h refl
bound_of_axes false a stored peak implied h e = length-map peak implied ∙ e

-- Moves

moves_points : (qs : List ℕ) (xs ys : List ℤ) → length xs ≡ length qs → length ys ≡ length qs → map (λ m. m.point) (moves_of qs xs ys) ≡ qs
moves_points [] xs ys e f = refl
moves_points (q ∷ qs) [] ys e f = absurd (omega arith)
moves_points (q ∷ qs) (x ∷ xs) [] e f = absurd (omega arith)
moves_points (q ∷ qs) (x ∷ xs) (y ∷ ys) e f = ap (λ (l : List ℕ). q ∷ l) (moves_points qs xs ys (omega arith) (omega arith))

listed_rise : (from n p : ℕ) → from + n ≤ p → rises from p (listed from n (λ i. i)) ≡ true
listed_rise from zero p h = refl
listed_rise from (suc n) p h = rw (le-leb from from (omega arith), lt-ltb from p (omega arith)) (listed_rise (suc from) n p (omega arith))

range_rises : (p : ℕ) (ps : Points) → InRange p ps → rises 0 p (points_of p ps) ≡ true
range_rises p every h = listed_rise 0 p p (omega arith)
range_rises p (only qs) h = h.1

-- Entries

module _ (c : Checked) (g p : ℕ) (shared : Points) (end : ℕ)
    (room : c.peaks_at + 2 * (c.axes * c.peak_count) ≤ length c.table) (range : InRange p shared) where
  abbrev Told : Declined → Type 0
  Told = WellTold c.table g

  entry_well_formed :
      (h : Header) (ps : Points) (xs ys : List ℤ) → Fits c.axes end h → Peaked c.peak_count h → InRange p ps →
      length xs ≡ length (points_of p ps) → length ys ≡ length (points_of p ps) → WellFormed c.axes p (entry_of c h p ps xs ys)
  entry_well_formed h ps xs ys f k r e e' =
      let peak = peak_of_axes c room h end f k in
      let moves = moves_points (points_of p ps) xs ys e e' in
      record {
        peak_of_axes = peak;
        start_of_axes = bound_of_axes (is_regional h.index) c.axes h.starts (entry_peak c h) implied_start f.starts_of_axes peak;
        end_of_axes = bound_of_axes (is_regional h.index) c.axes h.ends (entry_peak c h) implied_end f.ends_of_axes peak;
        points = ps;
        points_in_range = r;
        moves_each = moves;
        points_rise = subst (λ (qs : List ℕ). rises 0 p qs ≡ true) (sym moves) (range_rises p ps r);
      }

  nothing_left_told : (i at : ℕ) (e : Entry) (bs : List ℕ) → WellFormed c.axes p e → at ≤ length c.table → Outcome (WellFormed c.axes p) Told (nothing_left (at_entry g i) at e bs)
  nothing_left_told i at e [] w le = w
  nothing_left_told i at e (b ∷ bs) w le = slot_told c.table g (some i) 24 at (omega arith) (omega arith) le

  -- a fault of a stream in the data of entry i
  data_told :
      (i n : ℕ) (bs : List ℕ) (at : ℕ) → 21 ≤ n → n ≤ 25 → at + length bs ≤ length c.table → (x : Declined) → FailsInside (at_entry g i) n bs at x → Told x
  data_told i n bs at low high inside x h = stream_told c.table g (some i) n bs at x low high inside h

  -- the deltas of so many points, x and then y
  coordinates_found :
      (i : ℕ) (h : Header) (ps : Points) (bs : List ℕ) (at : ℕ) → Fits c.axes end h → Peaked c.peak_count h → InRange p ps → at + length bs ≤ length c.table →
      let d = at_entry g i in
      let k = length (points_of p ps) in
      Outcome (WellFormed c.axes p) Told
      (and_then (read_deltas d k bs at) (λ x. and_then (read_deltas d k x.left x.place) (λ y. nothing_left d y.place (entry_of c h p ps x.value y.value) y.left)))
  coordinates_found i h ps bs at f pk r le =
      let d = at_entry g i in
      let k = length (points_of p ps) in
      outcome_then (AsMany d k bs at) (WellFormed c.axes p) (FailsInside d 23 bs at) Told (read_deltas d k bs at) _ (deltas_told d k bs at)
      (data_told i 23 bs at (omega arith) (omega arith) le)
      (λ x u. let x-ends = stays_ends bs at x u.0 in
      outcome_then (AsMany d k x.left x.place) (WellFormed c.axes p) (FailsInside d 23 x.left x.place) Told
      (read_deltas d k x.left x.place) _ (deltas_told d k x.left x.place)
      (data_told i 23 x.left x.place (omega arith) (omega arith) (omega arith))
      (λ y v. nothing_left_told i y.place (entry_of c h p ps x.value y.value) y.left
      (entry_well_formed h ps x.value y.value f pk r u.1 v.1) (omega (arith, stays_ends x.left x.place y v.0))))

  entry_found :
      (i : ℕ) (h : Header) (bs : List ℕ) (at : ℕ) → Fits c.axes end h → Peaked c.peak_count h → at + length bs ≤ length c.table →
      Outcome (WellFormed c.axes p) Told (read_entry c (at_entry g i) p shared h bs at)
  entry_found i h bs at f pk le =
      let d = at_entry g i in
      let points = read_points d p bs at in
      let given = found (rest shared bs at) in
      outcome_then (InPlace d p bs at) (WellFormed c.axes p) (FailsInside d 22 bs at) Told (cond (is_private h.index) points given) _
      (outcome_cond (InPlace d p bs at) (FailsInside d 22 bs at) (is_private h.index) points given (λ e. points_told d p bs at) (λ e. (stays_at shared bs at, range)))
      (data_told i 22 bs at (omega arith) (omega arith) le)
      (λ q w. coordinates_found i h q.value q.left q.place f pk w.1 (omega (arith, stays_ends bs at q w.0)))

  pub record EntriesFound (n : ℕ) (r : Rest (List Entry)) : Type 0 where
    pub well_formed : AllByRecursion (WellFormed c.axes p) r.value
    pub as_many : length r.value ≡ n
    pub inside : r.place + length r.left ≤ length c.table

  pub entries_found :
      (i : ℕ) (hs : List Header) (bs : List ℕ) (at : ℕ) → end ≤ length c.table → AllByRecursion (Fits c.axes end) hs → AllByRecursion (Peaked c.peak_count) hs →
      at + length bs ≤ length c.table → Outcome (EntriesFound (length hs)) Told (read_entries c g p shared i hs bs at)
  entries_found i [] bs at in_end f k le = record { well_formed = tt; as_many = refl; inside = le }
  entries_found i (h ∷ hs) bs at in_end f k le =
      let more : Entry → Read (Rest (List Entry)) = λ e. and_then (read_entries c g p shared (suc i) hs (drop h.size bs) (at + h.size)) (λ r. found (rest (e ∷ r.value) r.left r.place)) in
      outcome_if (EntriesFound (length (h ∷ hs))) Told (ltb (length bs) h.size) (at_entry g i 21 h.at)
      (and_then (read_entry c (at_entry g i) p shared h (take h.size bs) at) more)
      (λ e. slot_told c.table g (some i) 21 h.at (omega arith) (omega arith) (omega (arith, f.0.not_past)))
      (λ e.
      let fits = ltb-false (length bs) h.size e in
      outcome_then (WellFormed c.axes p) (EntriesFound (length (h ∷ hs))) Told Told
      (read_entry c (at_entry g i) p shared h (take h.size bs) at) more
      (entry_found i h (take h.size bs) at f.0 k.0 (omega (arith, length-take h.size bs)))
      (λ d w. w)
      (λ x w.
      outcome_then (EntriesFound (length hs)) (EntriesFound (length (h ∷ hs))) Told Told
      (read_entries c g p shared (suc i) hs (drop h.size bs) (at + h.size)) (λ r. found (rest (x ∷ r.value) r.left r.place))
      (entries_found (suc i) hs (drop h.size bs) (at + h.size) in_end f.1 k.1 (omega (arith, length-drop h.size bs)))
      (λ d v. v)
      (λ r v. record { well_formed = (w, v.well_formed); as_many = ap suc v.as_many; inside = v.inside })))
