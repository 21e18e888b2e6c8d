-- The account of the calls: what a set holds after a list of calls, by what was asked of it.
use Rattle.std.specs.Prelude.{ℕ, ◌-◌, ◌*◌, Bool, true, false, cond, not, ◌||◌, List, [], ◌∷◌, ◌++◌, map, length, ℤ, pos, ◌==◌, int_le, nat_eq, nat_le, nat_lt}
use Rattle.std.proofs.Math.Option.{Option, none, some}
use Rattle.std.specs.List.{AllByRecursion}
use Rattle.format.specs.Bytes.{Short, any}

-- a tent: the peak on one axis with its bounds, in units of 1/16384
pub record Tent : Type 0 where
  pub peak : ℤ
  pub start : ℤ
  pub end : ℤ

pub record Delta : Type 0 where
  pub x : ℤ
  pub y : ℤ
  pub required : Bool

pub record Variation : Type 0 where
  pub tents : List Tent
  pub deltas : List Delta

pub record Glyph : Type 0 where
  pub number : ℕ
  pub variations : List Variation

-- free cells of the four stores
pub record Cells : Type 0 where
  pub glyph : ℕ
  pub variation : ℕ
  pub axis : ℕ
  pub delta : ℕ

-- the glyphs stand in the order in which they were begun
pub record Account : Type 0 where
  pub axes : ℕ
  pub free : Cells
  pub glyphs : List Glyph

-- the meaning of a sink: how many bytes it still takes, its state, and the step from a state and one byte to the next
pub record Meaning : Type 0 where
  pub allowance : ℕ
  pub state : List ℕ
  pub step : List ℕ → ℕ → List ℕ

-- a tent as it is handed in: a peak, with or without bounds
pub record Given : Type 0 where
  pub peak : ℤ
  pub bounds : Option (ℤ × ℤ)

pub data Call : Type 0 where
  glyph : ℕ → Call
  variation : List Given → List Delta → Call
  compile : ℕ → Meaning → Call  -- with so many count cells, to this sink

-- bounds that are absent are implied
abbrev pub least : ℤ → ℤ → ℤ
least a b = cond (int_le a b) a b

abbrev pub most : ℤ → ℤ → ℤ
most a b = cond (int_le a b) b a

abbrev pub implied_start : ℤ → ℤ
implied_start p = least p (pos 0)

abbrev pub implied_end : ℤ → ℤ
implied_end p = most p (pos 0)

abbrev pub bound_or : (ℤ × ℤ → ℤ) → ℤ → Option (ℤ × ℤ) → ℤ
bound_or side implied none = implied
bound_or side implied (some b) = side b

abbrev pub tent : Given → Tent
tent g =
    record {
      peak = g.peak;
      start = bound_or (λ b. b.0) (implied_start g.peak) g.bounds;
      end = bound_or (λ b. b.1) (implied_end g.peak) g.bounds;
    }

-- Refusals and faults

pub data Layer : Type 0 where
  set table slot entry stream : Layer

-- a call that is declined: its number, its layer, the glyph and the variation concerned, the place in the table
pub record Declined : Type 0 where
  pub number : ℕ
  pub layer : Layer
  pub glyph : Option ℕ
  pub variation : Option ℕ
  pub place : Option ℕ

abbrev pub layer_of : ℕ → Layer
layer_of n =
    cond (nat_le n 15) set
    (cond (nat_le n 19) table
    (cond (n == 22 || n == 23) stream
    (cond (n == 24) entry slot)))

abbrev pub declined : ℕ → Option ℕ → Option ℕ → Option ℕ → Declined
declined n g v at = record { number = n; layer = layer_of n; glyph = g; variation = v; place = at }

-- a condition, with what is answered where it is the first that applies
pub record Condition : Type 0 where
  pub applies : Bool
  pub answer : Declined

abbrev pub iff : Bool → Declined → Condition
iff b d = record { applies = b; answer = d }

abbrev pub first_of : List Condition → Option Declined
first_of [] = none
first_of (c ∷ cs) = cond c.applies (some c.answer) (first_of cs)

-- every axis count is at most this
abbrev pub most_axes : ℕ
most_axes = 64

-- 1
abbrev pub axis_count_conditions : ℕ → List Condition
axis_count_conditions n = iff (nat_lt most_axes n) (declined 1 none none none) ∷ []

-- the glyph begun last, and those before it
abbrev pub last : List Glyph → Option Glyph
last [] = none
last (g ∷ gs) = last_or g gs
  where
    last_or : Glyph → List Glyph → Option Glyph
    last_or g [] = some g
    last_or g (h ∷ gs) = last_or h gs

abbrev pub begun : ℕ → List Glyph → Bool
begun n gs = any (λ g. nat_eq g.number n) gs

-- 2, 3, 9
abbrev pub glyph_conditions : Account → ℕ → List Condition
glyph_conditions A n =
    iff (nat_lt 65534 n) (declined 2 (some n) none none)
    ∷ iff (begun n A.glyphs) (declined 3 (some n) none none)
    ∷ iff (nat_lt A.free.glyph 1) (declined 9 (some n) none none)
    ∷ []

-- not as many deltas as the first variation
abbrev pub other_count : List Variation → ℕ → Bool
other_count [] n = false
other_count (v ∷ vs) n = not (length v.deltas == n)

-- 4 to 9
abbrev pub variation_conditions : Account → List Given → List Delta → List Condition
variation_conditions A ts ds = to (last A.glyphs)
  where
    to : Option Glyph → List Condition
    to none = iff true (declined 4 none none none) ∷ []
    to (some g) =
        let vs = g.variations in
        let at : ℕ → Declined = λ n. declined n (some g.number) (some (length vs)) none in
        iff (not (length ts == A.axes)) (at 5)
        ∷ iff (nat_lt 32767 (length ds)) (at 6)
        ∷ iff (other_count vs (length ds)) (at 7)
        ∷ iff (nat_le 4095 (length vs)) (at 8)
        ∷ iff (nat_lt A.free.variation 1 || nat_lt A.free.axis (3 * A.axes) || nat_lt A.free.delta (length ds)) (at 9)
        ∷ []

-- what an accepted call adds, at the end
abbrev pub begin : ℕ → List Glyph → List Glyph
begin n gs = gs ++ (record { number = n; variations = [] } ∷ [])

abbrev pub add : Variation → List Glyph → List Glyph
add v [] = []
add v (g ∷ []) = record { number = g.number; variations = g.variations ++ (v ∷ []) } ∷ []
add v (g ∷ (h ∷ gs)) = g ∷ add v (h ∷ gs)

abbrev pub variation_of : List Given → List Delta → Variation
variation_of ts ds = record { tents = map tent ts; deltas = ds }

abbrev pub refusal : Account → Call → Option Declined
refusal A (glyph n) = first_of (glyph_conditions A n)
refusal A (variation ts ds) = first_of (variation_conditions A ts ds)
refusal A (compile cells sink) = none

-- the account where the call is accepted
abbrev pub accepted : Account → Call → Account
accepted A (glyph n) =
    record { axes = A.axes; free = record { glyph = A.free.glyph - 1; variation = A.free.variation; axis = A.free.axis; delta = A.free.delta }; glyphs = begin n A.glyphs }
accepted A (variation ts ds) =
    record {
      axes = A.axes;
      free = record { glyph = A.free.glyph; variation = A.free.variation - 1; axis = A.free.axis - 3 * A.axes; delta = A.free.delta - length ds };
      glyphs = add (variation_of ts ds) A.glyphs;
    }
accepted A (compile cells sink) = A

-- a refused call leaves the account alone
abbrev pub settled : {X : Type 0} → Option Declined → X → X → X
settled none new old = new
settled (some d) new old = old

abbrev pub next : Account → Call → Account
next A c = settled (refusal A c) (accepted A c) A

abbrev pub after : Account → List Call → Account
after A [] = A
after A (c ∷ cs) = after (next A c) cs

abbrev pub opened : ℕ → Cells → Account
opened a free = record { axes = a; free = free; glyphs = [] }

-- The same glyphs, from the accepted calls alone: neither the free cells nor a refused call has a part in them.

abbrev pub accepted_calls : Account → List Call → List Call
accepted_calls A [] = []
accepted_calls A (glyph n ∷ cs) = let r = accepted_calls (next A (glyph n)) cs in settled (refusal A (glyph n)) (glyph n ∷ r) r
accepted_calls A (variation ts ds ∷ cs) = let r = accepted_calls (next A (variation ts ds)) cs in settled (refusal A (variation ts ds)) (variation ts ds ∷ r) r
accepted_calls A (compile cells sink ∷ cs) = accepted_calls A cs

abbrev pub laid : List Glyph → List Call → List Glyph
laid gs [] = gs
laid gs (glyph n ∷ cs) = laid (begin n gs) cs
laid gs (variation ts ds ∷ cs) = laid (add (variation_of ts ds) gs) cs
laid gs (compile cells sink ∷ cs) = laid gs cs

-- the values handed in are signed 16-bit ones
abbrev pub ShortGiven : Given → Type 0
ShortGiven g = Short g.peak × ShortBounds g.bounds
  where
    ShortBounds : Option (ℤ × ℤ) → Type 0
    ShortBounds none = Unit {0}
    ShortBounds (some b) = Short b.0 × Short b.1

abbrev pub ShortTent : Tent → Type 0
ShortTent t = Short t.peak × Short t.start × Short t.end

abbrev pub ShortDelta : Delta → Type 0
ShortDelta d = Short d.x × Short d.y

-- those of a variation, and of all in a set
abbrev pub ShortVariation : Variation → Type 0
ShortVariation v = AllByRecursion ShortTent v.tents × AllByRecursion ShortDelta v.deltas

abbrev pub ShortSet : List Glyph → Type 0
ShortSet gs = AllByRecursion (λ g. AllByRecursion ShortVariation g.variations) gs

abbrev pub ShortCall : Call → Type 0
ShortCall (glyph n) = Unit {0}
ShortCall (variation ts ds) = AllByRecursion ShortGiven ts × AllByRecursion ShortDelta ds
ShortCall (compile cells sink) = Unit {0}
