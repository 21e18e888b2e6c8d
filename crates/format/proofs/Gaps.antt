-- The runs of gaps of a rising list of points are read back.
use Rattle.std.proofs.Common.{◌≡◌, ℕ, zero, suc, ◌+◌, ◌-◌, ◌*◌, ◌%◌, ◌<◌, ◌≤◌, Bool, true, false, cond, ◌&&◌, ltb, leb, List, [], ◌∷◌, ◌++◌, map, length, take, drop, sym, refl, ap, ◌∙◌, subst, append_assoc, add-zero, arith, length-append, length-drop, take-append-drop, length-take}
use mathlib.Core.Option.{some}
use Rattle.std.specs.List.{AllByRecursion}
use Rattle.std.proofs.lemmas.Bool.{le-ltb, le-leb, lt-leb, ltb-true, leb-true, and_from, and_parts}
use Rattle.std.proofs.ByRecursion.{All-drop}
use Rattle.std.proofs.lemmas.Bool.Decides.{nat_tests}
use Rattle.format.specs.Bytes.{joined}
use Rattle.format.specs.Account.{Declined}
use Rattle.format.specs.Packed.{GapRun, gap_run_bytes, gap_bytes, gaps_after, is_wide, same_class, class_extent, cut_gaps_at_most}
use Rattle.format.specs.Streams.{rest, read_gaps, points_after, last_of, rises, point_runs, found, and_then}
use Rattle.format.proofs.Words.{words_back, bytes_back}

abbrev Holds : Bool → ℕ → Type 0
Holds true g = g < 65536
Holds false g = g < 256

pub record Lawful (r : GapRun) : Type 0 where
  pub few : length r.gaps ≤ 128
  pub some_gaps : 0 < length r.gaps
  pub fit : AllByRecursion (Holds r.wide) r.gaps

abbrev pub all_gaps : List GapRun → List ℕ
all_gaps rs = joined (map (λ r. r.gaps) rs)

all_wide : (gs : List ℕ) → AllByRecursion (Holds true) gs → AllByRecursion (λ (g : ℕ). (g < 65536) × (g ≡ g)) gs
all_wide [] h = tt
all_wide (g ∷ gs) h = ((h.0, refl), all_wide gs h.1)

all_same : (gs : List ℕ) → AllByRecursion (λ (g : ℕ). g ≡ g) gs
all_same [] = tt
all_same (g ∷ gs) = (refl, all_same gs)

gaps_back : (w : Bool) (gs r : List ℕ) → AllByRecursion (Holds w) gs → read_gaps w (length gs) (joined (map (gap_bytes w) gs) ++ r) ≡ some (gs, r)
gaps_back true gs r h = words_back (λ (g : ℕ). g) (λ g. g) gs r (all_wide gs h)
gaps_back false gs r h = bytes_back (λ (g : ℕ). g) (λ g. g) gs r (all_same gs)

abbrev gap_control : Bool → ℕ → ℕ
gap_control w n = cond w 128 0 + (n - 1)

control_count : (w : Bool) (n : ℕ) → n < 128 → gap_control w (suc n) % 128 ≡ n
control_count true n h = omega arith
control_count false n h = omega arith

control_wide : (w : Bool) (n : ℕ) → n < 128 → leb 128 (gap_control w (suc n)) ≡ w
control_wide true n h = le-leb 128 (128 + (suc n - 1)) (omega arith)
control_wide false n h = lt-leb 128 (0 + (suc n - 1)) (omega arith)

gap_length : (w : Bool) (gs : List ℕ) → length (joined (map (gap_bytes w) gs)) ≡ cond w (2 * length gs) (length gs)
gap_length true [] = refl
gap_length true (g ∷ gs) = let e = gap_length true gs in omega arith
gap_length false [] = refl
gap_length false (g ∷ gs) = ap suc (gap_length false gs)

-- the points of a list of gaps, in two parts
points_append : (from : ℕ) (gs hs : List ℕ) → points_after from (gs ++ hs) ≡ points_after from gs ++ points_after (last_of from (points_after from gs)) hs
points_append from [] hs = refl
points_append from (g ∷ gs) hs = ap (λ (r : List ℕ). (from + g) ∷ r) (points_append (from + g) gs hs)

rises_left : (low p : ℕ) (qs ss : List ℕ) → rises low p (qs ++ ss) ≡ true → rises low p qs ≡ true
rises_left low p [] ss h = refl
rises_left low p (q ∷ qs) ss h =
    let a = and_parts (leb low q) (ltb q p && rises (suc q) p (qs ++ ss)) h in
    let b = and_parts (ltb q p) (rises (suc q) p (qs ++ ss)) a.1 in
    and_from (leb low q) (ltb q p && rises (suc q) p qs) a.0 (and_from (ltb q p) (rises (suc q) p qs) b.0 (rises_left (suc q) p qs ss b.1))

rises_right : (low p q : ℕ) (qs ss : List ℕ) → rises low p ((q ∷ qs) ++ ss) ≡ true → rises (suc (last_of q qs)) p ss ≡ true
rises_right low p q [] ss h =
    let a = and_parts (leb low q) (ltb q p && rises (suc q) p ss) h in
    (and_parts (ltb q p) (rises (suc q) p ss) a.1).1
rises_right low p q (r ∷ qs) ss h =
    let a = and_parts (leb low q) (ltb q p && rises (suc q) p ((r ∷ qs) ++ ss)) h in
    let b = and_parts (ltb q p) (rises (suc q) p ((r ∷ qs) ++ ss)) a.1 in
    rises_right (suc q) p r qs ss b.1

-- one run off the front
run_back :
    (d : ℕ → ℕ → Declined) (m p from low : ℕ) (w : Bool) (g : ℕ) (gs more bs : List ℕ) (at : ℕ) → length gs < 128 → AllByRecursion (Holds w) (g ∷ gs) →
    rises low p (points_after from (g ∷ gs)) ≡ true →
    let last = last_of (from + g) (points_after (from + g) gs) in
    point_runs d (suc m) p (length (g ∷ gs ++ more)) from low (gap_control w (suc (length gs)) ∷ (joined (map (gap_bytes w) (g ∷ gs)) ++ bs)) at
    ≡ and_then (point_runs d m p (length more) last (suc last) bs (at + (1 + cond w (2 * suc (length gs)) (suc (length gs)))))
    (λ s. found (rest (points_after from (g ∷ gs) ++ s.value) s.left s.place))
run_back d m p from low w g gs more bs at few h up =
    let e = length-append gs more in
    let left : suc (length (gs ++ more)) - suc (length gs) ≡ length more = omega arith in
    rw (control_count w (length gs) few, le-ltb (suc (length (gs ++ more))) (suc (length gs)) (omega arith), control_wide w (length gs) few, gaps_back w (g ∷ gs) bs h, left, up)

none_back : (d : ℕ → ℕ → Declined) (m p from low : ℕ) (r : List ℕ) (at : ℕ) → point_runs d m p 0 from low r at ≡ found (rest [] r (at + 0))
none_back d zero p from low r at = rw add-zero
none_back d (suc m) p from low r at = rw add-zero

more_back :
    (d : ℕ → ℕ → Declined) (m p from low : ℕ) (w : Bool) (gs more bs r : List ℕ) (at : ℕ) →
    0 < length gs → length gs ≤ 128 → AllByRecursion (Holds w) gs → length (gs ++ more) ≤ m → rises low p (points_after from (gs ++ more)) ≡ true →
    ((m' from' low' at' : ℕ) → length more ≤ m' → rises low' p (points_after from' more) ≡ true →
    point_runs d m' p (length more) from' low' (bs ++ r) at' ≡ found (rest (points_after from' more) r (at' + length bs))) →
    point_runs d m p (length (gs ++ more)) from low (((gap_control w (length gs) ∷ joined (map (gap_bytes w) gs)) ++ bs) ++ r) at
    ≡ found (rest (points_after from (gs ++ more)) r (at + length ((gap_control w (length gs) ∷ joined (map (gap_bytes w) gs)) ++ bs)))
more_back d m p from low w [] more bs r at some_gaps few fit le up ih = absurd (omega arith)
more_back d zero p from low w (g ∷ gs) more bs r at some_gaps few fit le up ih = absurd (omega arith)
more_back d (suc m) p from low w (g ∷ gs) more bs r at some_gaps few fit le up ih =
    let e = length-append gs more in
    let last = last_of (from + g) (points_after (from + g) gs) in
    let split = points_append from (g ∷ gs) more in
    let up' : rises low p (points_after from (g ∷ gs) ++ points_after last more) ≡ true = subst (λ (qs : List ℕ). rises low p qs ≡ true) split up in
    rw (append_assoc (joined (map (gap_bytes w) (g ∷ gs))) bs r)
    (run_back d m p from low w g gs more (bs ++ r) at (omega arith) fit (rises_left low p (points_after from (g ∷ gs)) (points_after last more) up')
    ∙ rw (ih m last (suc last) (at + (1 + cond w (2 * suc (length gs)) (suc (length gs)))) (omega arith) (rises_right low p (from + g) (points_after (from + g) gs) (points_after last more) up'))
    (ap (λ (n : ℕ). found (rest (points_after from (g ∷ gs) ++ points_after last more) r n))
    (omega (arith, length-append (joined (map (gap_bytes w) (g ∷ gs))) bs, gap_length w (g ∷ gs)))
    ∙ ap (λ (qs : List ℕ). found (rest qs r (at + length ((gap_control w (length (g ∷ gs)) ∷ joined (map (gap_bytes w) (g ∷ gs))) ++ bs)))) (sym split)))

-- any lawful cut of gaps is read back
pub runs_back :
    (d : ℕ → ℕ → Declined) (m p from low : ℕ) (rs : List GapRun) (r : List ℕ) (at : ℕ) → AllByRecursion Lawful rs → length (all_gaps rs) ≤ m →
    rises low p (points_after from (all_gaps rs)) ≡ true →
    point_runs d m p (length (all_gaps rs)) from low (joined (map gap_run_bytes rs) ++ r) at
    ≡ found (rest (points_after from (all_gaps rs)) r (at + length (joined (map gap_run_bytes rs))))
runs_back d m p from low [] r at h le up = none_back d m p from low r at
runs_back d m p from low (run ∷ rs) r at h le up =
    more_back d m p from low run.wide run.gaps (all_gaps rs) (joined (map gap_run_bytes rs)) r at h.0.some_gaps h.0.few h.0.fit le up
    (λ m' from' low' at' le' up'. runs_back d m' p from' low' rs r at' h.1 le' up')

-- the cut into runs of one class

class_holds : (w : Bool) (g : ℕ) → g < 65536 → same_class w g ≡ true → Holds w g
class_holds true g h e = h
class_holds false g h e = grind (arith, nat_tests)

taken_holds : (w : Bool) (n : ℕ) (gs : List ℕ) → AllByRecursion (λ g. g < 65536) gs → AllByRecursion (Holds w) (take (class_extent w n gs) gs)
taken_holds w zero gs h = tt
taken_holds w (suc n) [] h = tt
taken_holds w (suc n) (g ∷ gs) h = by_test (same_class w g) refl (taken_holds w n gs h.1)
  where
    by_test : (b : Bool) → same_class w g ≡ b → AllByRecursion (Holds w) (take (class_extent w n gs) gs) → AllByRecursion (Holds w) (take (cond b (suc (class_extent w n gs)) 0) (g ∷ gs))
    by_test true e t = (class_holds w g h.0 e, t)
    by_test false e t = tt

extent_most : (w : Bool) (n : ℕ) (gs : List ℕ) → class_extent w n gs ≤ n
extent_most w zero gs = omega arith
extent_most w (suc n) [] = omega arith
extent_most w (suc n) (g ∷ gs) = let i = extent_most w n gs in grind (arith, nat_tests)

own_class : (g : ℕ) → same_class (is_wide g) g ≡ true
own_class g = by_test (is_wide g) refl
  where
    by_test : (b : Bool) → is_wide g ≡ b → same_class b g ≡ true
    by_test true e = e
    by_test false e = rw e

cut_gaps : (m : ℕ) (gs : List ℕ) → length gs ≤ m → all_gaps (cut_gaps_at_most m gs) ≡ gs
cut_gaps zero [] h = refl
cut_gaps zero (g ∷ gs) h = absurd (omega arith)
cut_gaps (suc m) [] h = refl
cut_gaps (suc m) (g ∷ gs) h =
    let n = class_extent (is_wide g) 127 gs in
    let i = cut_gaps m (drop n gs) (omega (arith, length-drop n gs)) in
    ap (λ (r : List ℕ). g ∷ r) (rw i (take-append-drop n gs))

cut_lawful : (m : ℕ) (gs : List ℕ) → AllByRecursion (λ g. g < 65536) gs → AllByRecursion Lawful (cut_gaps_at_most m gs)
cut_lawful zero gs h = tt
cut_lawful (suc m) [] h = tt
cut_lawful (suc m) (g ∷ gs) h =
    let n = class_extent (is_wide g) 127 gs in (
      record {
        few = omega (arith, length-take n gs, extent_most (is_wide g) 127 gs);
        some_gaps = omega arith;
        fit = (class_holds (is_wide g) g h.0 (own_class g), taken_holds (is_wide g) 127 gs h.1);
      },
      cut_lawful m (drop n gs) (All-drop (λ g. g < 65536) n gs h.1),
    )

-- gaps and points

length_gaps : (b : ℕ) (ps : List ℕ) → length (gaps_after b ps) ≡ length ps
length_gaps b [] = refl
length_gaps b (p ∷ ps) = ap suc (length_gaps p ps)

-- from the second point on, the bound from below is more than the point before
gaps_rise : (b low p : ℕ) (ps : List ℕ) → b ≤ low → rises low p ps ≡ true → points_after b (gaps_after b ps) ≡ ps
gaps_rise b low p [] le h = refl
gaps_rise b low p (q ∷ qs) le h =
    let a = and_parts (leb low q) (ltb q p && rises (suc q) p qs) h in
    let c = and_parts (ltb q p) (rises (suc q) p qs) a.1 in
    let up : b + (q - b) ≡ q = omega (arith, leb-true low q a.0) in
    rw (up, gaps_rise q (suc q) p qs (omega arith) c.1)

gaps_fit : (b low p : ℕ) (ps : List ℕ) → p ≤ 65536 → rises low p ps ≡ true → AllByRecursion (λ g. g < 65536) (gaps_after b ps)
gaps_fit b low p [] le h = tt
gaps_fit b low p (q ∷ qs) le h =
    let a = and_parts (leb low q) (ltb q p && rises (suc q) p qs) h in
    let c = and_parts (ltb q p) (rises (suc q) p qs) a.1 in
    (omega (arith, ltb-true q p c.0), gaps_fit q (suc q) p qs le c.1)

-- the runs of a list of points that rises are read back
pub point_runs_back :
    (d : ℕ → ℕ → Declined) (p : ℕ) (ps r : List ℕ) (at : ℕ) → p ≤ 65536 → rises 0 p ps ≡ true →
    let runs = joined (map gap_run_bytes (cut_gaps_at_most (length ps) (gaps_after 0 ps))) in
    point_runs d (length ps) p (length ps) 0 0 (runs ++ r) at ≡ found (rest ps r (at + length runs))
point_runs_back d p ps r at le up =
    let gs = gaps_after 0 ps in
    let rs = cut_gaps_at_most (length ps) gs in
    let l = length_gaps 0 ps in
    let v = cut_gaps (length ps) gs (omega arith) in
    let q : points_after 0 (all_gaps rs) ≡ ps = ap (points_after 0) v ∙ gaps_rise 0 0 p ps (omega arith) up in
    let n : length (all_gaps rs) ≡ length ps = ap length v ∙ l in
    let b = runs_back d (length ps) p 0 0 rs r at (cut_lawful (length ps) gs (gaps_fit 0 0 p ps le up)) (omega arith) (rw q up) in
    subst (λ (k : ℕ). point_runs d (length ps) p k 0 0 (joined (map gap_run_bytes rs) ++ r) at ≡ found (rest ps r (at + length (joined (map gap_run_bytes rs))))) n
    (subst (λ (qs : List ℕ). point_runs d (length ps) p (length (all_gaps rs)) 0 0 (joined (map gap_run_bytes rs) ++ r) at ≡ found (rest qs r (at + length (joined (map gap_run_bytes rs))))) q b)
