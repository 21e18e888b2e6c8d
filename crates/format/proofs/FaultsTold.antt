-- Faults of a slot say what they are, and so does the first condition that applies.
use Rattle.std.proofs.Common.{◌≡◌, ℕ, ◌+◌, ◌≤◌, Bool, true, false, cond, List, [], ◌∷◌, length, sym, refl, subst, arith}
use mathlib.Core.Option.{Option, none, some}
use Rattle.std.specs.List.{AllByRecursion}
use Rattle.std.proofs.lemmas.Bool.{le-leb, lt-leb, ne_eqb, or_from}
use Rattle.format.specs.Account.{Declined, declined, Condition, first_of}
use Rattle.format.specs.Found.{FailsInside, WellTold}

module _ (t : List ℕ) (g : ℕ) where
  -- without a place: the table is too short, or it cannot meet the request

  pub short_told : WellTold t g (declined 16 none none none)
  short_told =
      record {
        number_from = omega arith;
        number_to = omega arith;
        in_its_layer = refl;
        names_its_glyph = refl;
        lacks_a_place = refl;
        place_in_the_table = λ q e. absurd (let z : ◌≡◌ {A = ℕ} 0 1 = cc in omega arith);
      }

  pub request_told : WellTold t g (declined 20 (some g) none none)
  request_told =
      record {
        number_from = omega arith;
        number_to = omega arith;
        in_its_layer = refl;
        names_its_glyph = refl;
        lacks_a_place = refl;
        place_in_the_table = λ q e. absurd (let z : ◌≡◌ {A = ℕ} 0 1 = cc in omega arith);
      }

  -- of the table
  pub table_told : (n at : ℕ) → 17 ≤ n → n ≤ 19 → at ≤ length t → WellTold t g (declined n none none (some at))
  table_told n at low high inside =
      record {
        number_from = omega arith;
        number_to = omega arith;
        in_its_layer = refl;
        names_its_glyph = rw (le-leb n 19 high);
        lacks_a_place = sym (or_from _ _ (ne_eqb n 16 (λ e. omega arith)) (ne_eqb n 20 (λ e. omega arith)));
        place_in_the_table = λ q e. let z : at ≡ q = cc in omega arith;
      }

  -- of a slot, or of an entry in it
  pub slot_told : (v : Option ℕ) (n at : ℕ) → 21 ≤ n → n ≤ 25 → at ≤ length t → WellTold t g (declined n (some g) v (some at))
  slot_told v n at low high inside =
      record {
        number_from = omega arith;
        number_to = high;
        in_its_layer = refl;
        names_its_glyph = rw (lt-leb n 19 (omega arith));
        lacks_a_place = sym (or_from _ _ (ne_eqb n 16 (λ e. omega arith)) (ne_eqb n 20 (λ e. omega arith)));
        place_in_the_table = λ q e. let z : at ≡ q = cc in omega arith;
      }

  -- of a stream whose bytes lie in the table
  pub stream_told :
      (v : Option ℕ) (n : ℕ) (bs : List ℕ) (at : ℕ) (x : Declined) → 21 ≤ n → n ≤ 25 → at + length bs ≤ length t →
      FailsInside (λ m q. declined m (some g) v (some q)) n bs at x → WellTold t g x
  stream_told v n bs at x low high inside h =
      subst (WellTold t g) (sym h.declines) (slot_told v n h.place low high (omega (arith, h.not_past)))

-- The first condition that applies

-- what holds of each answer, where the conditions before it do not apply
abbrev pub First : (Declined → Type 0) → List Condition → Type 0
First D [] = Unit {0}
First D (c ∷ cs) = D c.answer × (c.applies ≡ false → First D cs)

pub first_told : (D : Declined → Type 0) (cs : List Condition) → First D cs → (d : Declined) → first_of cs ≡ some d → D d
first_told D [] h d e = absurd (let z : ◌≡◌ {A = ℕ} 0 1 = cc in omega arith)
first_told D (c ∷ cs) h d e = by c.applies refl e (λ off. first_told D cs (h.1 off) d)
  where
    by : (b : Bool) → c.applies ≡ b → cond b (some c.answer) (first_of cs) ≡ some d → (c.applies ≡ false → first_of cs ≡ some d → D d) → D d
    by true on f i = let z : c.answer ≡ d = cc in subst D z h.0
    by false off f i = i off f

pub first_all : (D : Declined → Type 0) (cs : List Condition) → AllByRecursion (λ c. D c.answer) cs → First D cs
first_all D [] h = tt
first_all D (c ∷ cs) h = (h.0, λ off. first_all D cs h.1)
