-- The numbers begun, and how many variations there are.
use Rattle.std.proofs.Common.{◌≡◌, ℕ, zero, suc, ◌+◌, ◌<◌, ◌≤◌, Bool, true, false, ltb, List, [], ◌∷◌, length, take, drop, sym, refl, ap, ◌∙◌, subst, inl, inr, le_of_suc-le-suc, not-suc-le-zero, arith, length-append, length-take-le}
use Rattle.std.proofs.lemmas.Bool.{lt-ltb, le-ltb, and_from, and_left, and_right, and_parts, cases_eq, cases_lt, false≢true}
use Rattle.format.specs.Account.{Glyph, Variation, begun}
use Rattle.format.specs.Bytes.{all}
use Rattle.format.specs.Glyphs.{listed}
use Rattle.format.specs.Table.{variation_count, numbers_full}
use Rattle.sets.specs.declared.cells.GlyphCell.{GlyphCell}
use Rattle.sets.specs.Cells.{number_at}
use Rattle.sets.specs.Index.{Low}
use Rattle.sets.specs.Layout.{Stores, account_in, dealt, groups}
use Rattle.sets.specs.Sound.{Sound}
use Rattle.sets.specs.Views.{all_variations}
use Rattle.sets.proofs.Lists.{length_groups, begun_not}
use Rattle.sets.proofs.Shown.{all_long}

pub glyphs_long : (s : Stores) → Sound s → length (account_in s).glyphs ≡ s.begun
glyphs_long s h = length_groups (take s.begun s.glyphs) (dealt s) ∙ length-take-le s.begun s.glyphs h.within.0

pub below_all : (k m : ℕ) (cs : List GlyphCell) (vs : List Variation) → m ≤ length cs → ((i : ℕ) → i < m → number_at cs i < k) → true ≡ all (λ g. ltb g.number k) (groups (take m cs) vs)
below_all k zero cs vs h f = refl
below_all k (suc m) [] vs h f = absurd (not-suc-le-zero h)
below_all k (suc m) (c ∷ cs) vs h f =
    sym (and_from _ _ (lt-ltb _ _ (f 0 (omega arith))) (sym (below_all k m cs (drop c.variations vs) (le_of_suc-le-suc h) (λ i l. f (suc i) (omega arith)))))

pub below_not : (k m : ℕ) (cs : List GlyphCell) (vs : List Variation) (i : ℕ) → m ≤ length cs → i < m → k ≤ number_at cs i → false ≡ all (λ g. ltb g.number k) (groups (take m cs) vs)
below_not k zero cs vs i h l e = absurd (not-suc-le-zero l)
below_not k (suc m) [] vs i h l e = absurd (not-suc-le-zero h)
below_not k (suc m) (c ∷ cs) vs zero h l e = sym (and_left _ _ (le-ltb _ _ e))
below_not k (suc m) (c ∷ cs) vs (suc i) h l e =
    sym (and_right _ _ (sym (below_not k m cs (drop c.variations vs) i (le_of_suc-le-suc h) (le_of_suc-le-suc l) e)))

pub listed_all : (p : ℕ → Bool) (from n : ℕ) → ((j : ℕ) → from ≤ j → j < from + n → true ≡ p j) → true ≡ all p (listed from n (λ k. k))
listed_all p from zero f = refl
listed_all p from (suc n) f =
    sym (and_from _ _ (sym (f from (omega arith) (omega arith))) (sym (listed_all p (suc from) n (λ j a b. f j (omega arith) (omega arith)))))

pub listed_not : (p : ℕ → Bool) (from n j : ℕ) → from ≤ j → j < from + n → false ≡ p j → false ≡ all p (listed from n (λ k. k))
listed_not p from zero j a b e = absurd (omega arith)
listed_not p from (suc n) j a b e = elim (cases_eq j from) [
  | inl q ↦ sym (and_left _ _ (sym (subst (λ (x : ℕ). false ≡ p x) q e)))
  | inr ne ↦ sym (and_right _ _ (sym (listed_not p (suc from) n j (omega arith) (omega arith) e)))
]

counted : (gs : List Glyph) → length (all_variations gs) ≡ variation_count gs
counted [] = refl
counted (g ∷ gs) = length-append g.variations (all_variations gs) ∙ ap (λ (n : ℕ). length g.variations + n) (counted gs)

pub count_is : (s : Stores) → Sound s → s.added ≡ variation_count (account_in s).glyphs
count_is s h = sym (all_long s h) ∙ counted (account_in s).glyphs

-- numbers that are full are few
pub few_glyphs : (s : Stores) → Sound s → Low (number_at s.glyphs) s.begun → true ≡ numbers_full (account_in s).glyphs → length (account_in s).glyphs ≤ 65535
few_glyphs s h d full = elim (cases_lt 65535 (length (account_in s).glyphs)) [
  | inl l ↦
      let gs = (account_in s).glyphs in
      let p = and_parts _ (all (λ n. begun n gs) (listed 0 (length gs) (λ n. n))) (sym full) in
      let no_such : false ≡ begun 65535 gs = begun_not 65535 s.begun s.glyphs (dealt s) h.within.0 (λ i k e. let q = d i k in let z : ⊥ = omega arith in z) in
      let n = listed_not (λ n. begun n gs) 0 (length gs) 65535 (omega arith) (omega arith) no_such in
      absurd (false≢true (n ∙ p.1))
  | inr l ↦ omega arith
]
