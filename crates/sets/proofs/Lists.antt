-- Laws of the lists that an account is made of.
use Rattle.std.proofs.Common.{◌≡◌, ℕ, zero, suc, ◌+◌, ◌<◌, ◌≤◌, Bool, true, false, eqb, ◌≢◌, List, [], ◌∷◌, ◌++◌, length, get_or, take, drop, set, sym, refl, ap, ◌∙◌, inl, inr, le_of_suc-le-suc, not-suc-le-zero, arith, get_or-set_other, get_or-set_same, drop-drop}
use Rattle.std.specs.List.{AllByRecursion}
use Rattle.std.proofs.lemmas.Bool.{cases_eq, eq-eqb, ne_eqb, or_right, or_from, and_parts, and_from}
use Rattle.format.specs.Account.{Glyph, Variation, begun}
use Rattle.format.specs.Bytes.{all}
use Rattle.sets.specs.declared.cells.GlyphCell.{GlyphCell}
use Rattle.sets.specs.Cells.{variations_in, blank_glyph, number_at, count_at}
use Rattle.sets.specs.Layout.{groups}

-- one field of every cell, after a write of one cell
module _ {X : Type 0} (field : GlyphCell → X) (cells : List GlyphCell) (i : ℕ) (c : GlyphCell) where
  pub field_same : i < length cells → field (get_or (set cells i c) i blank_glyph) ≡ field c
  field_same l = ap field (get_or-set_same cells i c blank_glyph l)

  pub field_other : (k : ℕ) → k ≢ i → field (get_or (set cells i c) k blank_glyph) ≡ field (get_or cells k blank_glyph)
  field_other k ne = ap field (get_or-set_other cells i k c blank_glyph ne)

  pub field_kept : i < length cells → field c ≡ field (get_or cells i blank_glyph) → (k : ℕ) → field (get_or (set cells i c) k blank_glyph) ≡ field (get_or cells k blank_glyph)
  field_kept l e k = elim (cases_eq k i) [ inl q ↦ rw q (field_same l ∙ e) | inr ne ↦ field_other k ne ]

-- a glyph is begun exactly if its number is that of a cell in use
pub begun_at : (n m : ℕ) (cs : List GlyphCell) (vs : List Variation) (i : ℕ) → m ≤ length cs → i < m → number_at cs i ≡ n → true ≡ begun n (groups (take m cs) vs)
begun_at n zero cs vs i h l e = absurd (not-suc-le-zero l)
begun_at n (suc m) [] vs i h l e = absurd (not-suc-le-zero h)
begun_at n (suc m) (c ∷ cs) vs zero h l e = rw (eq-eqb _ _ e) refl
begun_at n (suc m) (c ∷ cs) vs (suc i) h l e =
    sym (or_right (eqb c.number n) _ (sym (begun_at n m cs (drop c.variations vs) i (le_of_suc-le-suc h) (le_of_suc-le-suc l) e)))

pub begun_not : (n m : ℕ) (cs : List GlyphCell) (vs : List Variation) → m ≤ length cs → ((i : ℕ) → i < m → number_at cs i ≡ n → ⊥) → false ≡ begun n (groups (take m cs) vs)
begun_not n zero cs vs h f = refl
begun_not n (suc m) [] vs h f = absurd (not-suc-le-zero h)
begun_not n (suc m) (c ∷ cs) vs h f =
    sym (or_from (eqb c.number n) _ (ne_eqb _ _ (λ e. f 0 (omega arith) e))
    (sym (begun_not n m cs (drop c.variations vs) (le_of_suc-le-suc h) (λ i l e. f (suc i) (omega arith) e))))

pub groups_snoc : (cs : List GlyphCell) (c : GlyphCell) (vs : List Variation) →
    groups (cs ++ (c ∷ [])) vs ≡ groups cs vs ++ (record { number = c.number; variations = take c.variations (drop (variations_in cs) vs) } ∷ [])
groups_snoc [] c vs = refl
groups_snoc (d ∷ cs) c vs =
    rw (← drop-drop (variations_in cs) d.variations vs) (ap (λ (r : List Glyph). record { number = d.number; variations = take d.variations vs } ∷ r) (groups_snoc cs c (drop d.variations vs)))

pub variations_in_snoc : (cs : List GlyphCell) (c : GlyphCell) → variations_in (cs ++ (c ∷ [])) ≡ variations_in cs + c.variations
variations_in_snoc [] c = omega arith
variations_in_snoc (d ∷ cs) c = let e = variations_in_snoc cs c in omega arith

pub length_groups : (cs : List GlyphCell) (vs : List Variation) → length (groups cs vs) ≡ length cs
length_groups [] vs = refl
length_groups (c ∷ cs) vs = ap suc (length_groups cs (drop c.variations vs))

-- a write that keeps number and count
pub kept_variations : (cs : List GlyphCell) (b m : ℕ) (c : GlyphCell) → c.variations ≡ count_at cs b → variations_in (take m (set cs b c)) ≡ variations_in (take m cs)
kept_variations [] b m c e = refl
kept_variations (d ∷ cs) b zero c e = refl
kept_variations (d ∷ cs) zero (suc m) c e = ap (λ (x : ℕ). x + variations_in (take m cs)) e
kept_variations (d ∷ cs) (suc b) (suc m) c e = ap (λ (x : ℕ). d.variations + x) (kept_variations cs b m c e)

pub kept_groups : (cs : List GlyphCell) (b m : ℕ) (c : GlyphCell) (vs : List Variation) → c.number ≡ number_at cs b → c.variations ≡ count_at cs b →
    groups (take m (set cs b c)) vs ≡ groups (take m cs) vs
kept_groups [] b m c vs n e = refl
kept_groups (d ∷ cs) b zero c vs n e = refl
kept_groups (d ∷ cs) zero (suc m) c vs n e =
    λ i. record { number = n i; variations = take (e i) vs } ∷ groups (take m cs) (drop (e i) vs)
kept_groups (d ∷ cs) (suc b) (suc m) c vs n e =
    ap (λ (r : List Glyph). record { number = d.number; variations = take d.variations vs } ∷ r) (kept_groups cs b m c (drop d.variations vs) n e)

-- a test that two lists pass, and so the one made of them
pub all_append : {X : Type 0} (p : X → Bool) (xs ys : List X) → all p xs ≡ true → all p ys ≡ true → all p (xs ++ ys) ≡ true
all_append p [] ys h k = k
all_append p (x ∷ xs) ys h k = let q = and_parts (p x) (all p xs) h in and_from _ _ q.0 (all_append p xs ys q.1 k)

-- a test, and what it tests
pub all_true : {X : Type 0} (P : X → Type 0) (p : X → Bool) → ((x : X) → P x → p x ≡ true) → (xs : List X) → AllByRecursion P xs → all p xs ≡ true
all_true P p f [] h = refl
all_true P p f (x ∷ xs) h = and_from _ _ (f x h.0) (all_true P p f xs h.1)

pub true_all : {X : Type 0} (P : X → Type 0) (p : X → Bool) → ((x : X) → p x ≡ true → P x) → (xs : List X) → all p xs ≡ true → AllByRecursion P xs
true_all P p f [] h = tt
true_all P p f (x ∷ xs) h = let q = and_parts (p x) (all p xs) h in (f x q.0, true_all P p f xs q.1)
