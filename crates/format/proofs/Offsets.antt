-- The offsets and the slots of a table are found again.
use Rattle.std.proofs.Common.{◌≡◌, ℕ, zero, suc, ◌+◌, ◌-◌, ◌*◌, ◌/◌, ◌%◌, ◌<◌, ◌≤◌, Bool, true, false, List, [], ◌∷◌, ◌++◌, map, length, get_or, take, drop, refl, ap, suc-add, zero-add, arith}
use mathlib.Core.Option.{some}
use Rattle.std.specs.List.{AllByRecursion}
use Rattle.format.specs.Bytes.{long, joined}
use Rattle.format.specs.Table.{offsets_after, offset_bytes}
use Rattle.format.specs.Streams.{read_longs}
use Rattle.format.specs.Reader.{read_offsets}
use Rattle.format.proofs.Words.{word_pair, words_back}

longs_back : {X : Type 0} (f : ℕ → X) (g : X → ℕ) (xs : List X) (r : List ℕ) → AllByRecursion (λ x. (g x < 4294967296) × (f (g x) ≡ x)) xs → read_longs f (length xs) (joined (map (λ x. long (g x)) xs) ++ r) ≡ some (xs, r)
longs_back f g [] r h = refl
longs_back f g (x ∷ xs) r h =
    let n = g x in
    let l = h.0.0 in
    let e : 65536 * (n / 65536) + n % 65536 ≡ n = omega arith in
    rw (word_pair (n / 65536) (omega arith), word_pair (n % 65536) (omega arith), e, h.0.1, longs_back f g xs r h.1)

-- an offset that the form holds
abbrev pub Held : Bool → ℕ → Type 0
Held true o = (o / 2 < 65536) × (2 * (o / 2) ≡ o)
Held false o = (o < 4294967296) × (o ≡ o)

pub offsets_back : (short : Bool) (os : List ℕ) (r : List ℕ) → AllByRecursion (Held short) os → read_offsets (mathlib.Core.Bool.not short) (length os) (joined (map (offset_bytes short) os) ++ r) ≡ some (os, r)
offsets_back true os r h = words_back (λ o. 2 * o) (λ o. o / 2) os r h
offsets_back false os r h = longs_back (λ (o : ℕ). o) (λ o. o) os r h

pub length_offsets : (o : ℕ) (bs : List (List ℕ)) → length (offsets_after o bs) ≡ suc (length bs)
length_offsets o [] = refl
length_offsets o (b ∷ bs) = ap suc (length_offsets (o + length b) bs)

take_front : {X : Type 0} (xs ys : List X) → take (length xs) (xs ++ ys) ≡ xs
take_front [] ys = refl
take_front (x ∷ xs) ys = rw (take_front xs ys)

drop_front : {X : Type 0} (xs ys : List X) (n : ℕ) → drop (length xs + n) (xs ++ ys) ≡ drop n ys
drop_front [] ys n = rw zero-add
drop_front (x ∷ xs) ys n = rw suc-add (drop_front xs ys n)

offsets_first : (o : ℕ) (bs : List (List ℕ)) → get_or (offsets_after o bs) 0 0 ≡ o
offsets_first o [] = refl
offsets_first o (b ∷ bs) = refl

offsets_least : (o : ℕ) (bs : List (List ℕ)) (i : ℕ) → i ≤ length bs → o ≤ get_or (offsets_after o bs) i 0
offsets_least o [] zero h = omega arith
offsets_least o [] (suc i) h = absurd (omega arith)
offsets_least o (b ∷ bs) zero h = omega arith
offsets_least o (b ∷ bs) (suc i) h = omega (arith, offsets_least (o + length b) bs i (omega arith))

-- the slot i of the data, between its offset and the next
pub slot_back : (o : ℕ) (bs : List (List ℕ)) (i : ℕ) → i < length bs →
    take (get_or (offsets_after o bs) (suc i) 0 - get_or (offsets_after o bs) i 0) (drop (get_or (offsets_after o bs) i 0 - o) (joined bs)) ≡ get_or bs i []
slot_back o [] i h = absurd (omega arith)
slot_back o (b ∷ bs) zero h =
    let e : o - o ≡ 0 = omega arith in
    let f : o + length b - o ≡ length b = omega arith in
    rw (offsets_first (o + length b) bs, e, f) (take_front b (joined bs))
slot_back o (b ∷ bs) (suc i) h =
    let x = get_or (offsets_after (o + length b) bs) i 0 in
    let e : x - o ≡ length b + (x - (o + length b)) = omega (arith, offsets_least (o + length b) bs i (omega arith)) in
    rw (e, drop_front b (joined bs) (x - (o + length b))) (slot_back (o + length b) bs i (omega arith))
