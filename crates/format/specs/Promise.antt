-- The main promise: between the account of the calls and the account of the compiled bytes, every required movement agrees.
use Rattle.std.specs.Prelude.{◌≡◌, ℕ, ◌≤◌, true, T, List, [], ◌∷◌, ◌++◌, map, length, ℤ}
use Rattle.std.proofs.Math.Option.{some}
use Rattle.std.specs.List.{AllByRecursion}
use Rattle.format.specs.Account.{Delta, Variation, Glyph, Cells, Account, Meaning, Call, compile, opened, after, accepted_calls, laid, ShortCall, Declined, most_axes}
use Rattle.format.specs.Table.{Answer, granted, refused, table_bytes, compile_answer, sink_after, taken}
use Rattle.format.specs.Streams.{rises}
use Rattle.format.specs.Streams.{found}
use Rattle.format.specs.Reader.{Entry, Move, read_glyph}
use Rattle.format.specs.Movement.{Same, delta_at, move_at, moved_by_calls, moved_by_bytes}

-- p stands for the number of deltas of a glyph: that of its variations, or any that a reader takes where it has none
abbrev pub DeltasNumber : List Variation → ℕ → Type 0
DeltasNumber [] p = p ≤ 32767
DeltasNumber (v ∷ vs) p = p ≡ length v.deltas

-- two lists of one length, with the relation at each place
abbrev pub InStep : {X Y : Type 0} → (X → Y → Type 0) → List X → List Y → Type 0
InStep R [] [] = Unit {0}
InStep R [] (y ∷ ys) = ⊥
InStep R (x ∷ xs) [] = ⊥
InStep R (x ∷ xs) (y ∷ ys) = R x y × InStep R xs ys

-- the entry gives the variation back
pub record GivesBack (v : Variation) (e : Entry) : Type 0 where
  pub same_peak : e.peak ≡ map (λ t. t.peak) v.tents
  pub same_start : e.start ≡ map (λ t. t.start) v.tents
  pub same_end : e.end ≡ map (λ t. t.end) v.tents
  -- every required point is found
  pub finds_required : (k : ℕ) (d : Delta) → delta_at v.deltas k ≡ some d → T d.required → (m : Move) × (move_at e.moves k ≡ some m)
  -- no point is found twice, and none beyond the deltas handed in
  pub points_rise : rises 0 (length v.deltas) (map (λ m. m.point) e.moves) ≡ true
  -- at a point that is found is the delta handed in
  pub finds_as_given : (k : ℕ) (m : Move) → move_at e.moves k ≡ some m → (d : Delta) × (delta_at v.deltas k ≡ some d) × (m.x ≡ d.x) × (m.y ≡ d.y)

-- the point k is required in each of the variations
abbrev pub RequiredIn : ℕ → Variation → Type 0
RequiredIn k v = (d : Delta) × (delta_at v.deltas k ≡ some d) × T d.required

-- what the two accounts of one glyph have in common
pub record Agree (axes : ℕ) (table : List ℕ) (g : Glyph) (p : ℕ) : Type 0 where
  -- the account of the bytes: the reader gives it without a fault
  pub entries : List Entry
  pub reader_finds_them : read_glyph table g.number p ≡ found entries
  -- exactly the accepted variations, in their order
  pub each_gives_its_variation_back : InStep GivesBack g.variations entries
  -- at every position a point that all variations require moves by the same fraction
  pub required_points_move_alike :
      (position : List ℤ) → length position ≡ axes → (k : ℕ) → AllByRecursion (RequiredIn k) g.variations →
      Same (moved_by_calls (λ d. d.x) g.variations k position) (moved_by_bytes (λ m. m.x) entries k position)
      × Same (moved_by_calls (λ d. d.y) g.variations k position) (moved_by_bytes (λ m. m.y) entries k position)

-- one of a list
pub data In {X : Type 0} (x : X) : List X → Type 0 where
  here : {xs : List X} → In x (x ∷ xs)
  there : {y : X} {xs : List X} → In x xs → In x (y ∷ xs)

-- the glyphs of a set after these calls, from the accepted ones alone
abbrev pub glyphs_after : ℕ → Cells → List Call → List Glyph
glyphs_after a free calls = laid [] (accepted_calls (opened a free) calls)

-- the one table that the axis count and the accepted calls fix
abbrev pub table_fixed_by : ℕ → List Call → List ℕ
table_fixed_by a accepted = table_bytes a (laid [] accepted)

abbrev pub table_after : ℕ → Cells → List Call → List ℕ
table_after a free calls = table_fixed_by a (accepted_calls (opened a free) calls)

-- What a compile after these calls keeps, given the sink before it, its answer and the sink after it
pub record Kept (a : ℕ) (free : Cells) (calls : List Call) (sink : Meaning) (answer : Answer) (sink' : Meaning) : Type 0 where
  pub granted_hands_over_the_table :
      (n : ℕ) → answer ≡ granted n → (n ≡ length (table_after a free calls)) × (n ≤ sink.allowance) × (sink' ≡ taken sink (table_after a free calls))
  pub refused_hands_over_nothing : (d : Declined) → answer ≡ refused d → sink' ≡ sink
  pub both_accounts_agree :
      (n : ℕ) → answer ≡ granted n → (g : Glyph) → In g (glyphs_after a free calls) → (p : ℕ) → DeltasNumber g.variations p →
      Agree a (table_after a free calls) g p

-- Throughout every list of calls from the opening of a set, at every compile among them, whatever the sink
abbrev pub RequiredMovementsAgree : Type 0
RequiredMovementsAgree =
    (a : ℕ) (free : Cells) (calls : List Call) → a ≤ most_axes → AllByRecursion ShortCall calls →
    (before : List Call) (cells : ℕ) (sink : Meaning) (later : List Call) → calls ≡ before ++ (compile cells sink ∷ later) →
    let answer = compile_answer (after (opened a free) before) cells sink.allowance in
    Kept a free before sink answer (sink_after sink answer (table_after a free before))

-- The same said of a set whose account is k, however it came about by calls
abbrev pub EveryCompileKeeps : Type 0
EveryCompileKeeps =
    (k : Account) (a : ℕ) (free : Cells) (calls : List Call) → a ≤ most_axes → AllByRecursion ShortCall calls → after (opened a free) calls ≡ k →
    (cells : ℕ) (sink : Meaning) →
    let answer = compile_answer k cells sink.allowance in
    Kept a free calls sink answer (sink_after sink answer (table_after a free calls))

-- What one compile of a set with the account k does: its answer, what it hands over, and what follows of both for every history of the set
pub record Compiled (k : Account) (cells : ℕ) (sink : Meaning) (answer : Answer) (sink' : Meaning) : Type 0 where
  pub answers_by_the_rules : answer ≡ compile_answer k cells sink.allowance
  pub hands_over_by_the_rules : sink' ≡ sink_after sink answer (table_bytes k.axes k.glyphs)
  pub keeps_the_promise : (a : ℕ) (free : Cells) (calls : List Call) → after (opened a free) calls ≡ k → Kept a free calls sink answer sink'
