-- The points of an entry, one after another.
use Rattle.std.proofs.Common.{◌≡◌, ℕ, zero, suc, ◌+◌, ◌-◌, ◌<◌, List, ◌∷◌, drop, Some, None, Ok, Err, Option as Maybe, Result, sym, refl, ap, ◌∙◌, arith}
use mathlib.Core.Option.{none}
use Rattle.format.specs.Account.{Declined, declined}
use Rattle.format.specs.Packed.{Points, every, only}
use Rattle.format.specs.Glyphs.{listed}
use Rattle.format.specs.Streams.{Rest, rest, Read, found, fault, and_then, point_runs, read_points}
use Rattle.format.specs.Reader.{points_of}
use Rattle.streams.specs.declared.fault.StreamFault.{StreamFault}
use Rattle.streams.specs.Faults.{stream_declined}
use Rattle.streams.specs.Ahead.{ends, give_all, read_ahead}
use Rattle.std.specs.Result.{result_unwrap_or}
use Rattle.streams.specs.Points.{PointCursor, points_ahead, PointStep, by_count}
use Rattle.slots.proofs.HeadSteps.{not_both}
use Rattle.reader.specs.declared.points.PointWalk.TheVariants.{Listed}
use Rattle.reader.specs.PointWalks.{PointsLeft, Came}
use Rattle.reader.proofs.AheadSteps.{gives_all, comes, ends_here, no_fault}

pub any_decline : ℕ → ℕ → Declined
any_decline n at = declined n none none none

pub every_next : (q p : ℕ) (qs : List ℕ) → q < p → qs ≡ listed q (p - q) (λ i. i) → qs ≡ q ∷ listed (q + 1) (p - (q + 1)) (λ i. i)
every_next q p qs h e =
    let s : p - q ≡ suc (p - (q + 1)) = omega arith in
    let t : suc q ≡ q + 1 = omega arith in
    e ∙ ap (λ m. listed q m (λ i. i)) s ∙ ap (λ j. q ∷ listed j (p - (q + 1)) (λ i. i)) t

-- a step of the list's cursor
pub came : (c c' : PointCursor) (qs : List ℕ) (past : ℕ) (r : Result (Maybe ℕ) StreamFault) → points_ahead c ≡ give_all qs (ends past) → PointStep c r c' → Came qs (result_unwrap_or r None) (Listed c')
came c c' qs past (Err f) e s = no_fault (points_ahead c) (points_ahead c') past qs f e s.answer
came c c' qs past (Ok None) e s = ends_here (points_ahead c) (points_ahead c') past qs e s.answer
came c c' qs past (Ok (Some q)) e s =
    let r = comes (points_ahead c) (points_ahead c') past qs q e s.answer s.left in
    (r.0, r.1, (past, r.2))

-- the start

all_points : (p : ℕ) (set : Points) (left left' : List ℕ) (e e' : ℕ) (r : Read (Rest Points)) → r ≡ found (rest every left' e') → r ≡ found (rest set left e) → points_of p set ≡ listed 0 (p - 0) (λ i. i)
all_points p set left left' e e' r a b =
    let q : rest every left' e' ≡ rest set left e = cc in
    let z : p ≡ p - 0 = omega arith in
    ap (points_of p) (sym (ap (λ t. t.value) q)) ∙ ap (λ m. listed 0 m (λ i. i)) z

counted_inv : (r : Read (Rest (List ℕ))) (qs left : List ℕ) (e : ℕ) → and_then r (λ s. found (rest (only s.value) s.left s.place)) ≡ found (rest (only qs) left e) → r ≡ found (rest qs left e)
counted_inv (fault d) qs left e h = absurd (let z : ◌≡◌ {A = ℕ} 0 1 = cc in omega arith)
counted_inv (found s) qs left e h =
    let q : rest (only s.value) s.left s.place ≡ rest (only qs) left e = cc in
    let v : only s.value ≡ only qs = ap (λ t. t.value) q in
    let v' : s.value ≡ qs = cc in
    ap (λ t. found (rest t s.left s.place)) v' ∙ ap (λ t. found (rest qs t s.place)) (ap (λ t. t.left) q) ∙ ap (λ t. found (rest qs left t)) (ap (λ t. t.place) q)

no_every : (r : Read (Rest (List ℕ))) (left : List ℕ) (e : ℕ) → and_then r (λ s. found (rest (only s.value) s.left s.place)) ≡ found (rest every left e) → ⊥
no_every (fault d) left e h = let z : ◌≡◌ {A = ℕ} 0 1 = cc in omega arith
no_every (found s) left e h =
    let q : rest (only s.value) s.left s.place ≡ rest every left e = cc in
    let v : only s.value ≡ every = ap (λ t. t.value) q in
    let z : ◌≡◌ {A = ℕ} 0 1 = cc in omega arith

some_count : (d : ℕ → ℕ → Declined) (p : ℕ) (bs : List ℕ) (n past : ℕ) → 0 < n → by_count d p bs n past ≡ and_then (point_runs d n p n 0 0 (drop past bs) past) (λ s. found (rest (only s.value) s.left s.place))
some_count d p bs zero past h = absurd (omega arith)
some_count d p bs (suc n) past h = refl

listed_points : (d : ℕ → ℕ → Declined) (p : ℕ) (bs : List ℕ) (n past : ℕ) (set : Points) (left : List ℕ) (e : ℕ) → 0 < n → by_count d p bs n past ≡ found (rest set left e) →
    point_runs d n p n 0 0 (drop past bs) past ≡ found (rest (points_of p set) left e)
listed_points d p bs n past (only qs) left e h f = counted_inv (point_runs d n p n 0 0 (drop past bs) past) qs left e (sym (some_count d p bs n past h) ∙ f)
listed_points d p bs n past every left e h f = absurd (no_every (point_runs d n p n 0 0 (drop past bs) past) left e (sym (some_count d p bs n past h) ∙ f))

no_count : (d : ℕ → ℕ → Declined) (p : ℕ) (bs : List ℕ) (n past : ℕ) → n ≡ 0 → by_count d p bs n past ≡ found (rest every (drop past bs) past)
no_count d p bs n past e = rw e

pub unlisted : (p : ℕ) (set : Points) → set ≡ every → points_of p set ≡ listed 0 (p - 0) (λ i. i)
unlisted p set e = let z : p ≡ p - 0 = omega arith in ap (points_of p) e ∙ ap (λ m. listed 0 m (λ i. i)) z

module _ (p : ℕ) (set : Points) (left : List ℕ) (e : ℕ) (bs : List ℕ) (at : ℕ) (f : read_points any_decline p (drop at bs) at ≡ found (rest set left e)) where
  pub faulty : (g : StreamFault) → read_points any_decline p (drop at bs) at ≡ fault (stream_declined any_decline g) → points_of p set ≡ listed 0 (p - 0) (λ i. i)
  faulty g h = absurd (not_both (read_points any_decline p (drop at bs) at) _ _ h f)

  module _ (n past : ℕ) (h : read_points any_decline p (drop at bs) at ≡ by_count any_decline p bs n past) where
    pub uncounted : n ≡ 0 → points_of p set ≡ listed 0 (p - 0) (λ i. i)
    uncounted z = all_points p set left (drop past bs) e past (read_points any_decline p (drop at bs) at) (h ∙ no_count any_decline p bs n past z) f

    pub counted : (c : PointCursor) → 0 < n → read_ahead any_decline bs (points_ahead c) ≡ point_runs any_decline n p n 0 0 (drop past bs) past → PointsLeft (Listed c) (points_of p set)
    counted c z r =
        let m = listed_points any_decline p bs n past set left e z (sym h ∙ f) in
        (e, gives_all any_decline bs (points_ahead c) (points_of p set) left e (r ∙ m))
