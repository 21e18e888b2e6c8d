-- The marks of all glyphs, glyph by glyph. Assumes nothing.
use Rattle.std.proofs.Common.{◌≡◌, ℕ, zero, suc, ◌+◌, ◌-◌, ◌<◌, ◌≤◌, false, List, [], ◌∷◌, ◌++◌, length, get_or, take, drop, sym, refl, ap, ◌∙◌, subst, inl, inr, le_of_suc-le-suc, not-suc-le-zero, add-one, arith, length-append, length-drop, length-take-le, take_all}
use Rattle.std.proofs.lemmas.List.{length-map, get_or_append_left, get_or-append_right}
use Rattle.std.proofs.lemmas.Bool.{cases_lt}
use Rattle.format.specs.Account.{Glyph, Variation}
use Rattle.format.specs.Glyphs.{point_sets, stored_points, shared_points, is_shared}
use Rattle.counts.specs.declared.cells.CountCell.{CountCell}
use Rattle.counts.specs.Cells.{marked_at}
use Rattle.counts.specs.Marking.{LeavesUnmarked}
use Rattle.counts.specs.Tables.{LeavesRanks}
use Rattle.sets.specs.declared.view.Span.{Span}
use Rattle.sets.specs.Views.{all_variations, no_glyph, Lies}
use Rattle.counting.specs.Counted.{marks, all_marks, MarksHeld}
use Rattle.counting.specs.Marked.{KeepsRanks, MarkedTo}

pub marks_long : (vs : List Variation) → length (marks vs) ≡ length vs
marks_long vs = length-map vs (λ v. is_shared (shared_points (point_sets vs)) (stored_points v.deltas))

pub all_long : (gs : List Glyph) → length (all_marks gs) ≡ length (all_variations gs)
all_long [] = refl
all_long (g ∷ gs) =
    let a = length-append (marks g.variations) (all_marks gs) in
    let b = length-append g.variations (all_variations gs) in
    let m = marks_long g.variations in
    let k = all_long gs in
    omega arith

mark_at : (gs : List Glyph) (p j at : ℕ) → p < length gs → j < length (get_or gs p no_glyph).variations → at ≡ length (all_variations (take p gs)) + j →
    get_or (all_marks gs) at false ≡ get_or (marks (get_or gs p no_glyph).variations) j false
mark_at [] p j at l h e = absurd (not-suc-le-zero l)
mark_at (g ∷ gs) zero j at l h e =
    let m = marks_long g.variations in
    let q : at ≡ j = omega arith in
    ap (λ (x : ℕ). get_or (marks g.variations ++ all_marks gs) x false) q ∙ get_or_append_left (marks g.variations) (all_marks gs) false j (omega arith)
mark_at (g ∷ gs) (suc p) j at l h e =
    let m = marks_long g.variations in
    let a = length-append g.variations (all_variations (take p gs)) in
    get_or-append_right (marks g.variations) (all_marks gs) (length g.variations) at false m (omega arith)
    ∙ mark_at gs p j (at - length g.variations) (le_of_suc-le-suc l) h (omega arith)

-- one glyph more
longer : (gs : List Glyph) (p : ℕ) → p < length gs → length (all_variations (take (suc p) gs)) ≡ length (all_variations (take p gs)) + length (get_or gs p no_glyph).variations
longer [] p l = absurd (not-suc-le-zero l)
longer (g ∷ gs) zero l = let a = length-append g.variations [] in omega arith
longer (g ∷ gs) (suc p) l =
    let a = length-append g.variations (all_variations (take (suc p) gs)) in
    let b = length-append g.variations (all_variations (take p gs)) in
    let k = longer gs p (le_of_suc-le-suc l) in
    omega arith

module _ (gs : List Glyph) (p : ℕ) (span : Span) (lies : Lies gs p span) (old new : List CountCell)
    (here : (i : ℕ) → i < span.count → marked_at new (span.first + i) ≡ get_or (marks (take span.count (drop span.first (all_variations gs)))) i false)
    (before : (k : ℕ) → k < span.first → marked_at new k ≡ marked_at old k) where
  counted : span.count ≡ length (get_or gs p no_glyph).variations
  counted =
      let d = length-drop span.first (all_variations gs) in
      sym (length-take-le span.count (drop span.first (all_variations gs)) (omega (arith, lies.within))) ∙ ap length lies.of_glyph

  pub marked_more : MarkedTo gs p old → MarkedTo gs (p + 1) new
  marked_more done i l =
      let k = longer gs p lies.inside in
      let c = counted in
      let b = lies.behind in
      let m : i < length (all_variations (take (suc p) gs)) = subst (λ (x : ℕ). i < length (all_variations (take x gs))) (add-one p) l in
      elim (cases_lt i span.first) [
        | inl q ↦ before i q ∙ done i (omega arith)
        | inr q ↦
            let j = i - span.first in
            let r : j < span.count = omega arith in
            let e : i ≡ span.first + j = omega arith in
            ap (marked_at new) e ∙ here j r ∙ ap (λ (vs : List Variation). get_or (marks vs) j false) lies.of_glyph ∙ sym (mark_at gs p j i lies.inside (omega arith) (omega arith))
      ]

pub marked_none : (gs : List Glyph) (cells : List CountCell) → MarkedTo gs 0 cells
marked_none gs cells i l = absurd (let z : ⊥ = omega arith in z)

pub marked_all : (gs : List Glyph) (p : ℕ) (cells : List CountCell) → length gs ≤ p → MarkedTo gs p cells → MarksHeld gs cells
marked_all gs p cells l done i h =
    let e = take_all p gs l in
    let a = all_long gs in
    done i (subst (λ (x : List Glyph). i < length (all_variations x)) (sym e) (omega arith))

-- ---- ranks and orders stay
pub keeps_same : (cells : List CountCell) → KeepsRanks cells cells
keeps_same cells = record { rank = λ k. refl; order = λ k. refl }

pub keeps_more : (a b c : List CountCell) → KeepsRanks a b → KeepsRanks b c → KeepsRanks a c
keeps_more a b c p q = record { rank = λ k. q.rank k ∙ p.rank k; order = λ k. q.order k ∙ p.order k }

pub keeps_filled : (n : ℕ) (old new : List CountCell) → LeavesRanks n old new → KeepsRanks old new
keeps_filled n old new h = record { rank = h.rank; order = h.order }

pub keeps_marked : (n : ℕ) (old new : List CountCell) → LeavesUnmarked n old new → KeepsRanks old new
keeps_marked n old new h = record { rank = λ k. ap (λ (x : CountCell). x.rank) (h.rest k); order = λ k. ap (λ (x : CountCell). x.order) (h.rest k) }
