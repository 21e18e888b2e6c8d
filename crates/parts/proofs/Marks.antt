-- The points that a glyph shares, from the marks of its variations.
use Rattle.std.proofs.Common.{◌≡◌, ℕ, ◌+◌, ◌<◌, Bool, true, false, cond, eqb, ltb, List, [], ◌∷◌, ◌++◌, length, get_or, sym, refl, ap, ◌∙◌, subst, arith, get_or-append-add}
use mathlib.Core.Option.{Option, none, some}
use Rattle.std.proofs.lemmas.List.{get_or_append_left, get_or-map, length-map}
use Rattle.std.proofs.lemmas.Bool.{both_ways, false≢true, ltb-true, cond-true}
use Rattle.format.specs.Account.{Glyph, Variation}
use Rattle.format.specs.Glyphs.{stored_points, point_sets, same_points, same_set, set_count, set_score, shared_points, is_shared, shared_part}
use Rattle.format.specs.Packed.{Points, every, packed_points}
use Rattle.format.specs.Ranked.{ranked}
use Rattle.format.specs.Table.{variations_of}
use Rattle.format.proofs.Alike.{same_sets}
use Rattle.format.proofs.Counts.{count_none}
use Rattle.sets.specs.Views.{no_variation, variations_before}
use Rattle.counts.proofs.Classes.{refuted}
use Rattle.counting.specs.Counted.{marks, all_marks}
use Rattle.counting.specs.PointSets.{sets_itself}
use Rattle.counting.proofs.Marks.{marks_long}

-- the mark of a variation
pub mark_at : (vs : List Variation) (j : ℕ) → j < length vs → get_or (marks vs) j false ≡ is_shared (shared_points (point_sets vs)) (stored_points (get_or vs j no_variation).deltas)
mark_at vs j l = get_or-map (λ v. is_shared (shared_points (point_sets vs)) (stored_points v.deltas)) vs j no_variation false l

shared_are : (o : Option Points) (p : Points) → is_shared o p ≡ true → shared_part o ≡ packed_points p
shared_are none p h = absurd (false≢true h)
shared_are (some s) p h = ap packed_points (same_sets s p h)

-- a variation with the mark has the points that are shared
pub shared_marked : (vs : List Variation) (j : ℕ) → j < length vs → get_or (marks vs) j false ≡ true → shared_part (shared_points (point_sets vs)) ≡ packed_points (stored_points (get_or vs j no_variation).deltas)
shared_marked vs j l h = shared_are (shared_points (point_sets vs)) (stored_points (get_or vs j no_variation).deltas) (sym (mark_at vs j l) ∙ h)

-- where none has it, none are shared
module _ (vs : List Variation) (h : (j : ℕ) → j < length vs → get_or (marks vs) j false ≡ false) where
  abbrev sets : List Points
  sets = point_sets vs

  abbrev best : ℕ
  best = ranked (length sets) (same_set sets) (set_score sets) 0

  set_at : (j : ℕ) → j < length vs → get_or sets j every ≡ stored_points (get_or vs j no_variation).deltas
  set_at j l = get_or-map (λ v. stored_points v.deltas) vs j no_variation every l

  module _ (e : ltb 1 (set_count sets best) ≡ true) where
    shared_is : shared_points sets ≡ some (get_or sets best every)
    shared_is = cond-true (ltb 1 (set_count sets best)) (some (get_or sets best every)) none e

    unlike : (j : ℕ) → j < length sets → same_set sets j best ≡ false
    unlike j l = refuted (same_set sets j best) (λ t.
        let m : j < length vs = omega (arith, length-map vs (λ v. stored_points v.deltas)) in
        let q : get_or sets j every ≡ get_or sets best every = same_sets (get_or sets j every) (get_or sets best every) t in
        let s : is_shared (some (get_or sets best every)) (get_or sets j every) ≡ true = subst (λ (p : Points). same_points (get_or sets best every) p ≡ true) (sym q) (sets_itself (get_or sets best every)) in
        let f : is_shared (shared_points sets) (stored_points (get_or vs j no_variation).deltas) ≡ false = sym (mark_at vs j m) ∙ h j m in
        let g : is_shared (shared_points sets) (stored_points (get_or vs j no_variation).deltas) ≡ is_shared (some (get_or sets best every)) (get_or sets j every) =
        ap (λ (o : Option Points). is_shared o (stored_points (get_or vs j no_variation).deltas)) shared_is ∙ ap (λ (p : Points). is_shared (some (get_or sets best every)) p) (sym (set_at j m)) in
        both_ways _ f (g ∙ s))

    never : ⊥
    never =
        let z = count_none (length sets) (λ j. same_set sets j best) unlike in
        let k = ltb-true 1 (set_count sets best) e in
        omega arith

  pub shared_none : shared_part (shared_points (point_sets vs)) ≡ []
  shared_none = by (ltb 1 (set_count sets best)) refl
    where
      by : (t : Bool) → ltb 1 (set_count sets best) ≡ t → shared_part (cond t (some (get_or sets best every)) none) ≡ []
      by true e = absurd (never e)
      by false e = refl

-- The marks of a glyph among all marks

-- a glyph's marks stand behind those of the glyphs before it
pub marks_of_glyph : (n : ℕ) (gs : List Glyph) (j i : ℕ) → j < length (variations_of n gs) → i ≡ variations_before n gs + j → get_or (all_marks gs) i false ≡ get_or (marks (variations_of n gs)) j false
marks_of_glyph n [] j i l e = absurd (omega arith)
marks_of_glyph n (g ∷ gs) j i l e = by (eqb g.number n) l e (λ m k. marks_of_glyph n gs j k m)
  where
    long : length (marks g.variations) ≡ length g.variations
    long = marks_long g.variations

    by : (t : Bool) → j < length (cond t g.variations (variations_of n gs)) → i ≡ cond t 0 (length g.variations + variations_before n gs) + j →
        (j < length (variations_of n gs) → (k : ℕ) → k ≡ variations_before n gs + j → get_or (all_marks gs) k false ≡ get_or (marks (variations_of n gs)) j false) →
        get_or (marks g.variations ++ all_marks gs) i false ≡ get_or (marks (cond t g.variations (variations_of n gs))) j false
    by true l e r =
        let s : i ≡ j = omega arith in
        ap (λ (k : ℕ). get_or (marks g.variations ++ all_marks gs) k false) s ∙ get_or_append_left (marks g.variations) (all_marks gs) false j (omega (arith, long))
    by false l e r =
        let s : i ≡ length (marks g.variations) + (variations_before n gs + j) = omega (arith, long) in
        ap (λ (k : ℕ). get_or (marks g.variations ++ all_marks gs) k false) s
        ∙ get_or-append-add (marks g.variations) (all_marks gs) (variations_before n gs + j) false
        ∙ r l (variations_before n gs + j) refl
