-- The pieces are those of the table.
use Rattle.std.proofs.Common.{◌≡◌, ℕ, ◌+◌, ◌*◌, ◌/◌, Bool, true, false, cond, not, List, [], ◌∷◌, ◌++◌, map, length, take, drop, ℤ, sym, refl, ap, ◌∙◌, arith, length-append, take_at, drop_at}
use lib.ListN.{length-map}
use lib.Seq.{drop-append-add}
use Rattle.std.proofs.lemmas.List.{take_all}
use Rattle.format.specs.Account.{Delta, Tent}
use Rattle.format.specs.Bytes.{word, signed_words, all}
use Rattle.format.specs.Packed.{every, only, packed_points}
use Rattle.format.specs.Glyphs.{bounds_implied, required_from, required_deltas, coordinates, stored_points, stored_deltas, is_shared, data_bytes, index_word, peak_part, region_part, peak, has_region, shared_index}
use Rattle.tuples.specs.Choice.{kept_deltas, kept_points}
use Rattle.tuples.specs.Tents.{tents_from}
use Rattle.tuples.specs.Headers.{index_of, region_of, third}
use Rattle.tuples.specs.Data.{points_part}
use Rattle.tuples.specs.Laws.{starts, ends, PointsAreTheTables, DataIsTheTables, SizeIsTheTables, RegionIsTheTables, AxesComeInThirds, HeaderIsTheTables}

-- by cases of the choice
points_by : (b : Bool) (ds : List Delta) → kept_points b ds ≡ cond b every (only (required_from 0 ds))
points_by true ds = refl
points_by false ds = refl

kept_by : (b : Bool) (ds : List Delta) → kept_deltas b ds ≡ cond b ds (required_deltas ds)
kept_by true ds = refl
kept_by false ds = refl

part_by : (s b : Bool) (ds : List Delta) → points_part s b ds ≡ cond s [] (packed_points (kept_points b ds))
part_by true b ds = refl
part_by false b ds = refl

pub points_tied : PointsAreTheTables
points_tied ds b e = points_by b ds ∙ ap (λ x. cond x every (only (required_from 0 ds))) e

pub data_tied : DataIsTheTables
data_tied s v b shared e f =
    let ds = v.deltas in
    let p : points_part shared b ds ≡ cond (is_shared s (stored_points ds)) [] (packed_points (stored_points ds)) =
    part_by shared b ds ∙ ap (λ x. cond x [] (packed_points (kept_points b ds))) f ∙ ap (λ x. cond (is_shared s (stored_points ds)) [] (packed_points x)) (points_tied ds b e) in
    let k : kept_deltas b ds ≡ stored_deltas ds = kept_by b ds ∙ ap (λ x. cond x ds (required_deltas ds)) e in
    ap (λ l. l ++ coordinates (kept_deltas b ds)) p
    ∙ ap (λ l. cond (is_shared s (stored_points ds)) [] (packed_points (stored_points ds)) ++ coordinates l) k

long_part : (b : Bool) (xs : List ℕ) → cond b 0 (length xs) ≡ length (cond b [] xs)
long_part true xs = refl
long_part false xs = refl

pub size_tied : SizeIsTheTables
size_tied s v r shared h f =
    let ds = v.deltas in
    let b = is_shared s (stored_points ds) in
    let l = length-append (cond b [] (packed_points (stored_points ds))) (coordinates (stored_deltas ds)) in
    let p : cond shared 0 r.points ≡ length (cond b [] (packed_points (stored_points ds))) =
    ap (λ n. cond shared 0 n) h.points_are ∙ ap (λ x. cond x 0 (length (packed_points (stored_points ds)))) f ∙ long_part b (packed_points (stored_points ds)) in
    ap (λ n. n + r.values) p ∙ ap (λ n. length (cond b [] (packed_points (stored_points ds))) + n) h.values_are ∙ sym l

tents_again : (ts : List Tent) → tents_from (map (λ t. t.peak) ts) (map (λ t. t.start) ts) (map (λ t. t.end) ts) ≡ ts
tents_again [] = refl
tents_again (t ∷ ts) = ap (λ l. t ∷ l) (tents_again ts)

pub region_tied : RegionIsTheTables
region_tied v = ap (λ ts. not (all bounds_implied ts)) (tents_again v.tents)

-- three lists of one length, one after the other
module _ (ps ss es : List ℤ) (n : ℕ) (p : length ps ≡ n) (s : length ss ≡ n) (e : length es ≡ n) where
  long : length (ps ++ (ss ++ es)) / 3 ≡ n
  long = let l = length-append ps (ss ++ es) in let k = length-append ss es in omega arith

  thirds : (third 0 (ps ++ (ss ++ es)) ≡ ps) × (third 1 (ps ++ (ss ++ es)) ≡ ss) × (third 2 (ps ++ (ss ++ es)) ≡ es)
  thirds =
      let m = length (ps ++ (ss ++ es)) / 3 in
      let zs = ps ++ (ss ++ es) in
      let none : 0 * m ≡ 0 = omega arith in
      let one : drop (1 * m) zs ≡ ss ++ es = drop_at ps (ss ++ es) (1 * m) (omega (arith, long)) in
      let two : drop (2 * m) zs ≡ es =
      ap (λ k. drop k zs) (omega (arith, long)) ∙ drop-append-add ps (ss ++ es) n ∙ drop_at ss es n s in (
        ap (λ k. take m (drop k zs)) none ∙ take_at ps (ss ++ es) m (p ∙ sym long),
        ap (take m) one ∙ take_at ss es m (s ∙ sym long),
        ap (take m) two ∙ take_all m es (omega (arith, long)),
      )

pub axes_tied : AxesComeInThirds
axes_tied v = let ts = v.tents in thirds (peak v) (starts v) (ends v) (length ts) (length-map ts (λ t. t.peak)) (length-map ts (λ t. t.start)) (length-map ts (λ t. t.end))

region_by : (b : Bool) (ts : List Tent) → region_of b (map (λ t. t.start) ts) (map (λ t. t.end) ts) ≡ region_part b ts
region_by true ts = refl
region_by false ts = refl

pub header_tied : HeaderIsTheTables
header_tied ps s v n i region shared en ei er es =
    ap (λ m. word m ++ (word (index_word (index_of i) region shared) ++ signed_words (peak_part (index_of i) (peak v) ++ region_of region (starts v) (ends v)))) en
    ∙ ap (λ j. word (length (data_bytes s v)) ++ (word (index_word j region shared) ++ signed_words (peak_part j (peak v) ++ region_of region (starts v) (ends v)))) ei
    ∙ ap (λ l. word (length (data_bytes s v)) ++ (word (index_word (shared_index ps (peak v)) region shared) ++ signed_words (peak_part (shared_index ps (peak v)) (peak v) ++ l))) (region_by region v.tents)
    ∙ ap (λ r. word (length (data_bytes s v)) ++ (word (index_word (shared_index ps (peak v)) r shared) ++ signed_words (peak_part (shared_index ps (peak v)) (peak v) ++ region_part r v.tents))) er
    ∙ ap (λ h. word (length (data_bytes s v)) ++ (word (index_word (shared_index ps (peak v)) (has_region v) h) ++ signed_words (peak_part (shared_index ps (peak v)) (peak v) ++ region_part (has_region v) v.tents))) es
