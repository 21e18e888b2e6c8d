-- The promise can be kept, and a wrong table, answer or sink breaks it: one set, by computation.
use Rattle.std.proofs.Common.{◌≡◌, ℕ, ◌≤◌, true, List, [], ◌∷◌, ◌++◌, length, take, set, ℤ, pos, negsuc, nat_abs, sym, refl, ap, ◌∙◌, subst, arith}
use mathlib.Core.Option.{none, some}
use Rattle.std.specs.List.{AllByRecursion}
use Rattle.std.proofs.lemmas.Bool.{false≢true}
use Rattle.format.specs.Account.{Delta, Glyph, Cells, Call, glyph, variation, Meaning, opened, after, ShortCall, Declined, declined}
use Rattle.format.specs.Table.{granted, refused, table_of, table_bytes, compile_answer}
use Rattle.format.specs.Streams.{fault, found}
use Rattle.format.specs.Reader.{Entry, Move, read_glyph}
use Rattle.format.specs.Promise.{InStep, GivesBack, Agree, here, glyphs_after, table_after, Kept, Compiled}
use Rattle.format.specs.Worked.{bytes_of_one}
use Rattle.format.proofs.Promised.{every_compile_keeps}

abbrev room : Cells
room = record { glyph = 1; variation = 1; axis = 3; delta = 1 }

abbrev calls : List Call
calls = glyph 0 ∷ variation (record { peak = pos 0x4000; bounds = none } ∷ []) (record { x = pos 10; y = negsuc 2; required = true } ∷ []) ∷ []

abbrev one : Glyph
one = record { number = 0; variations = record { tents = record { peak = pos 0x4000; start = pos 0; end = pos 0x4000 } ∷ []; deltas = record { x = pos 10; y = negsuc 2; required = true } ∷ [] } ∷ [] }

-- a buffer with these bytes in it, that still takes n
abbrev buffer : ℕ → List ℕ → Meaning
buffer n bs = record { allowance = n; state = bs; step = λ s b. s ++ (b ∷ []) }

short : AllByRecursion ShortCall calls
short = (tt, ((((omega arith, tt), tt), ((omega arith, omega arith), tt)), tt))

-- It can be kept

set_is : (glyphs_after 1 room calls ≡ one ∷ []) × (table_after 1 room calls ≡ bytes_of_one)
unfolding table_bytes table_of
set_is = (refl, refl)

keeps : Kept 1 room calls (buffer 50 (7 ∷ [])) (granted 40) (buffer 10 (7 ∷ bytes_of_one))
unfolding compile_answer table_bytes table_of
keeps = every_compile_keeps (after (opened 1 room) calls) 1 room calls (omega arith) short refl 1 (buffer 50 (7 ∷ []))

refuses : Kept 1 room calls (buffer 39 []) (refused (declined 15 none none none)) (buffer 39 [])
unfolding compile_answer table_bytes table_of
refuses = every_compile_keeps (after (opened 1 room) calls) 1 room calls (omega arith) short refl 1 (buffer 39 [])

agrees : Agree 1 bytes_of_one one 1
unfolding table_bytes table_of
agrees = keeps.both_accounts_agree 40 refl one here 1 refl

-- A wrong answer or sink

hands_over_nothing : Kept 1 room calls (buffer 40 []) (granted 40) (buffer 40 []) → ⊥
unfolding table_bytes table_of
hands_over_nothing k = let e : ◌≡◌ {A = ℕ} 40 0 = ap (λ (m : Meaning). m.allowance) (k.granted_hands_over_the_table 40 refl).2 in omega arith

drops_a_byte : Kept 1 room calls (buffer 40 []) (granted 40) (buffer 0 (take 39 bytes_of_one)) → ⊥
unfolding table_bytes table_of
drops_a_byte k = let e : ◌≡◌ {A = ℕ} 39 40 = ap (λ (m : Meaning). length m.state) (k.granted_hands_over_the_table 40 refl).2 in omega arith

another_length : (s : Meaning) → Kept 1 room calls (buffer 40 []) (granted 39) s → ⊥
unfolding table_bytes table_of
another_length s k = let e : ◌≡◌ {A = ℕ} 39 40 = (k.granted_hands_over_the_table 39 refl).0 in omega arith

too_much : (s : Meaning) → Kept 1 room calls (buffer 39 []) (granted 40) s → ⊥
too_much s k = let e : 40 ≤ 39 = (k.granted_hands_over_the_table 40 refl).1 in omega arith

refuses_and_writes : (d : Declined) → Kept 1 room calls (buffer 40 []) (refused d) (buffer 0 bytes_of_one) → ⊥
refuses_and_writes d k = let e : ◌≡◌ {A = ℕ} 0 40 = ap (λ (m : Meaning). m.allowance) (k.refused_hands_over_nothing d refl) in omega arith

-- A wrong table

same_found : {X : Type 0} (x y : X) → found x ≡ found y → x ≡ y
same_found x y e = cc

no_fault : {X : Type 0} (x : X) (d : Declined) → fault d ≡ found x → ⊥
no_fault x d e = absurd (let z : ◌≡◌ {A = ℕ} 0 1 = cc in omega arith)

read_as : (t : List ℕ) (es : List Entry) → read_glyph t 0 1 ≡ found es → Agree 1 t one 1 → InStep GivesBack one.variations es
read_as t es e k = subst (InStep GivesBack one.variations) (same_found k.entries es (sym k.reader_finds_them ∙ e)) k.each_gives_its_variation_back

abbrev entry : ℤ → ℤ → List Move → Entry
entry p e ms = record { peak = p ∷ []; start = pos 0 ∷ []; end = e ∷ []; moves = ms }

abbrev move : ℕ → ℤ → ℤ → Move
move k x y = record { point = k; x = x; y = y }

first_of : ℤ → List ℤ → ℕ
first_of d [] = nat_abs d
first_of d (z ∷ zs) = nat_abs z

another_x : Agree 1 (set bytes_of_one 36 11) one 1 → ⊥
unfolding read_glyph
another_x k =
    let g = (read_as (set bytes_of_one 36 11) (entry (pos 0x4000) (pos 0x4000) (move 0 (pos 11) (negsuc 2) ∷ []) ∷ []) refl k).0.finds_as_given 0 (move 0 (pos 11) (negsuc 2)) refl in
    let d : record { x = pos 10; y = negsuc 2; required = true } ≡ g.0 = cc in
    let e : ◌≡◌ {A = ℕ} 11 10 = ap nat_abs g.2 ∙ ap (λ (d : Delta). nat_abs d.x) (sym d) in
    omega arith

another_peak : Agree 1 (set bytes_of_one 33 1) one 1 → ⊥
unfolding read_glyph first_of
another_peak k =
    let g = (read_as (set bytes_of_one 33 1) (entry (pos 0x4001) (pos 0x4001) (move 0 (pos 10) (negsuc 2) ∷ []) ∷ []) refl k).0.same_peak in
    let e : ◌≡◌ {A = ℕ} 0x4001 0x4000 = ap (first_of (pos 0)) g in
    omega arith

empty_slot : Agree 1 (set bytes_of_one 23 0) one 1 → ⊥
unfolding read_glyph
empty_slot k = read_as (set bytes_of_one 23 0) [] refl k

faulty : Agree 1 (set bytes_of_one 1 2) one 1 → ⊥
unfolding read_glyph
faulty k = no_fault k.entries (declined 17 none none (some 0)) k.reader_finds_them

-- An entry that lacks a required point, or has one twice, does not give its variation back

lacks_a_point : GivesBack (record { tents = []; deltas = record { x = pos 1; y = pos 1; required = true } ∷ [] }) (record { peak = []; start = []; end = []; moves = [] }) → ⊥
lacks_a_point b = let m = b.finds_required 0 (record { x = pos 1; y = pos 1; required = true }) refl tt in absurd (let z : ◌≡◌ {A = ℕ} 0 1 = cc in omega arith)

twice : GivesBack (record { tents = []; deltas = record { x = pos 1; y = pos 1; required = true } ∷ [] }) (record { peak = []; start = []; end = []; moves = move 0 (pos 1) (pos 1) ∷ move 0 (pos 9) (pos 9) ∷ [] }) → ⊥
twice b = false≢true b.points_rise

-- A compile that refuses without cause: the promise of `Kept` speaks of what is handed over, that of `Compiled` of the answer too

refuses_without_cause : (d : Declined) → Kept 1 room calls (buffer 40 []) (refused d) (buffer 40 [])
refuses_without_cause d =
    record {
      granted_hands_over_the_table = λ n e. absurd (other n e);
      refused_hands_over_nothing = λ d e. refl;
      both_accounts_agree = λ n e. absurd (other n e);
    }
  where
    other : (n : ℕ) → refused d ≡ granted n → ⊥
    other n e = absurd (let z : ◌≡◌ {A = ℕ} 0 1 = cc in omega arith)

not_without_cause : (d : Declined) (s : Meaning) → Compiled (after (opened 1 room) calls) 1 (buffer 40 []) (refused d) s → ⊥
unfolding compile_answer table_bytes table_of
not_without_cause d s k = let e : refused d ≡ granted 40 = k.answers_by_the_rules in absurd (let z : ◌≡◌ {A = ℕ} 0 1 = cc in omega arith)
