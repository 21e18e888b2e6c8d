-- Laws of how the stores hold the variations.
use Rattle.std.proofs.Common.{◌≡◌, ℕ, zero, suc, ◌+◌, ◌-◌, ◌*◌, ◌<◌, ◌≤◌, false, not, eqb, List, [], ◌∷◌, ◌++◌, length, get_or, take, drop, ℤ, sym, refl, ap, ◌∙◌, subst, le_of_suc-le-suc, not-suc-le-zero, mul-zero, mul-suc, arith, length-drop, take-append-drop, length-take-le, take_all, drop-cons, get_or-take, take-suc, drop-drop}
use lib.Seq.{take-append-le, drop-append-le}
use Rattle.std.proofs.lemmas.List.{length-map}
use Rattle.format.specs.Account.{Glyph, Variation, add, other_count}
use Rattle.variations.specs.declared.delta.GlyphDelta.{GlyphDelta}
use Rattle.variations.specs.Deltas.{delta_of}
use Rattle.sets.specs.declared.cells.GlyphCell.{GlyphCell}
use Rattle.sets.specs.declared.cells.VariationCell.{VariationCell}
use Rattle.sets.specs.Cells.{variations_in, deltas_in, blank_glyph, blank_variation}
use Rattle.sets.specs.Layout.{Stores, account_in, dealt, deal, read, groups}
use Rattle.sets.specs.Sound.{Sound}
use Rattle.sets.specs.Writing.{last_cell, front, last_variations}
use Rattle.sets.proofs.Lists.{groups_snoc, variations_in_snoc}

pub length_deal : (a : ℕ) (cs : List VariationCell) (xs : List ℤ) (ds : List GlyphDelta) → length (deal a cs xs ds) ≡ length cs
length_deal a [] xs ds = refl
length_deal a (c ∷ cs) xs ds = ap suc (length_deal a cs (drop (3 * a) xs) (drop c.deltas ds))

pub deal_snoc : (a : ℕ) (cs : List VariationCell) (c : VariationCell) (xs : List ℤ) (ds : List GlyphDelta) →
    deal a (cs ++ (c ∷ [])) xs ds ≡ deal a cs xs ds ++ (read a c.deltas (drop (3 * a * length cs) xs) (drop (deltas_in cs) ds) ∷ [])
deal_snoc a [] c xs ds = simp mul-zero
deal_snoc a (d ∷ cs) c xs ds =
    let m : 3 * a * suc (length cs) ≡ 3 * a + 3 * a * length cs = mul-suc (3 * a) (length cs) ∙ omega arith in
    rw (m, ← drop-drop (3 * a * length cs) (3 * a) xs, ← drop-drop (deltas_in cs) d.deltas ds)
    (ap (λ (r : List Variation). read a d.deltas xs ds ∷ r) (deal_snoc a cs c (drop (3 * a) xs) (drop d.deltas ds)))

-- what lies behind the cells in use does not matter
pub deal_more : (a : ℕ) (cs : List VariationCell) (xs ys : List ℤ) (ds es : List GlyphDelta) →
    3 * a * length cs ≤ length xs → deltas_in cs ≤ length ds → deal a cs (xs ++ ys) (ds ++ es) ≡ deal a cs xs ds
deal_more a [] xs ys ds es h k = refl
deal_more a (c ∷ cs) xs ys ds es h k =
    let m : 3 * a * suc (length cs) ≡ 3 * a + 3 * a * length cs = mul-suc (3 * a) (length cs) ∙ omega arith in
    let lx = length-drop (3 * a) xs in
    let ld = length-drop c.deltas ds in
    let lp = length-drop a xs in
    let lq = length-drop (2 * a) xs in
    let e1 = take-append-le a xs ys (omega arith) in
    let e2 = drop-append-le a xs ys (omega arith) in
    let e3 = take-append-le a (drop a xs) ys (omega arith) in
    let e4 = drop-append-le (2 * a) xs ys (omega arith) in
    let e5 = take-append-le a (drop (2 * a) xs) ys (omega arith) in
    let e6 = take-append-le c.deltas ds es (omega arith) in
    let e7 = drop-append-le (3 * a) xs ys (omega arith) in
    let e8 = drop-append-le c.deltas ds es (omega arith) in
    let i = deal_more a cs (drop (3 * a) xs) ys (drop c.deltas ds) es (omega arith) (omega arith) in
    cc

-- only the cells in use matter
module _ (s : Stores) (h : Sound s) where
  abbrev held : ℕ
  held = 3 * s.axes * s.added

  abbrev cs : List VariationCell
  cs = take s.added s.variations

  pub dealt_in_use : deal s.axes cs (take held s.values) (take s.moved s.deltas) ≡ dealt s
  dealt_in_use =
      let c = length-take-le s.added s.variations h.within.1 in
      let e : 3 * s.axes * length cs ≡ held = ap (λ (n : ℕ). 3 * s.axes * n) c in
      let f = length-take-le held s.values h.within.2 in
      let m = length-take-le s.moved s.deltas h.within.3 in
      sym (deal_more s.axes cs (take held s.values) (drop held s.values) (take s.moved s.deltas) (drop s.moved s.deltas) (omega arith) (omega (arith, h.counted.1)))
      ∙ ap (λ (x : List ℤ). deal s.axes cs x (take s.moved s.deltas ++ drop s.moved s.deltas)) (take-append-drop held s.values)
      ∙ ap (λ (x : List GlyphDelta). deal s.axes cs s.values x) (take-append-drop s.moved s.deltas)

pub length_deltas : (a : ℕ) (cs : List VariationCell) (xs : List ℤ) (ds : List GlyphDelta) (i : ℕ) (v : Variation) (c : VariationCell) →
    deltas_in cs ≤ length ds → i < length cs → length (get_or (deal a cs xs ds) i v).deltas ≡ (get_or cs i c).deltas
length_deltas a [] xs ds i v c h l = absurd (not-suc-le-zero l)
length_deltas a (d ∷ cs) xs ds zero v c h l = length-map (take d.deltas ds) delta_of ∙ length-take-le d.deltas ds (omega arith)
length_deltas a (d ∷ cs) xs ds (suc i) v c h l =
    let k = length-drop d.deltas ds in
    length_deltas a cs (drop (3 * a) xs) (drop d.deltas ds) i v c (omega arith) (le_of_suc-le-suc l)

-- what follows the cells of the first glyphs does not matter to them
pub groups_more : (cs : List GlyphCell) (vs ws : List Variation) → variations_in cs ≤ length vs → groups cs (vs ++ ws) ≡ groups cs vs
groups_more [] vs ws h = refl
groups_more (c ∷ cs) vs ws h =
    let l = length-drop c.variations vs in
    let e1 = take-append-le c.variations vs ws (omega arith) in
    let e2 = drop-append-le c.variations vs ws (omega arith) in
    let i = groups_more cs (drop c.variations vs) ws (omega arith) in
    cc

pub add_snoc : (v : Variation) (gs : List Glyph) (g : Glyph) → add v (gs ++ (g ∷ [])) ≡ gs ++ (record { number = g.number; variations = g.variations ++ (v ∷ []) } ∷ [])
add_snoc v [] g = refl
add_snoc v (h ∷ []) g = refl
add_snoc v (h ∷ (k ∷ gs)) g = ap (λ (r : List Glyph). h ∷ r) (add_snoc v (k ∷ gs) g)

module _ (s : Stores) (h : Sound s) (some : 0 < s.begun) where
  pub cells_are : take s.begun s.glyphs ≡ front s ++ (last_cell s ∷ [])
  cells_are =
      let e : suc (s.begun - 1) ≡ s.begun = omega arith in
      subst (λ n. take n s.glyphs ≡ front s ++ (last_cell s ∷ [])) e (take-suc s.glyphs (s.begun - 1) blank_glyph (omega arith))

  pub counts : variations_in (front s) + (last_cell s).variations ≡ s.added
  counts = sym (variations_in_snoc (front s) (last_cell s)) ∙ ap variations_in (sym cells_are) ∙ h.counted.0

  pub length_dealt : length (dealt s) ≡ s.added
  length_dealt = length_deal s.axes (take s.added s.variations) s.values s.deltas ∙ length-take-le s.added s.variations h.within.1

  -- the last glyph has what the first ones leave
  pub rest_taken : take (last_cell s).variations (drop (variations_in (front s)) (dealt s)) ≡ drop (variations_in (front s)) (dealt s)
  rest_taken =
      let l = length-drop (variations_in (front s)) (dealt s) in
      let k = length_dealt in
      let j = counts in
      take_all (last_cell s).variations (drop (variations_in (front s)) (dealt s)) (omega arith)

  pub glyphs_are : (account_in s).glyphs ≡ groups (front s) (dealt s) ++ (record { number = (last_cell s).number; variations = drop (variations_in (front s)) (dealt s) } ∷ [])
  glyphs_are =
      let e1 = ap (λ (r : List GlyphCell). groups r (dealt s)) cells_are in
      let e2 = groups_snoc (front s) (last_cell s) (dealt s) in
      let e3 = rest_taken in
      cc

  pub last_length : length (last_variations s) ≡ (last_cell s).variations
  last_length =
      let l = length-drop (variations_in (front s)) (dealt s) in
      let k = length_dealt in
      let j = counts in
      omega arith

abbrev no_variation : Variation
no_variation = record { tents = []; deltas = [] }

-- the first variation of the last glyph
module _ (s : Stores) (h : Sound s) (some : 0 < s.begun) (any : (last_cell s).variations ≡ 0 → ⊥) where
  abbrev at : ℕ
  at = s.added - (last_cell s).variations

  place : variations_in (front s) ≡ at
  place = let j = counts s h some in omega arith

  first_is : last_variations s ≡ get_or (dealt s) at no_variation ∷ drop (suc at) (dealt s)
  first_is =
      let j = counts s h some in
      let d = length_dealt s h some in
      ap (λ n. drop n (dealt s)) place ∙ drop-cons (dealt s) at no_variation (omega arith)

  first_deltas : length (get_or (dealt s) at no_variation).deltas ≡ (get_or s.variations at blank_variation).deltas
  first_deltas =
      let j = counts s h some in
      let t = length-take-le s.added s.variations h.within.1 in
      length_deltas s.axes (take s.added s.variations) s.values s.deltas at no_variation blank_variation (omega (arith, h.counted.1, h.within.3)) (omega arith)
      ∙ ap (λ (c : VariationCell). c.deltas) (get_or-take s.added s.variations at blank_variation (omega arith))

  pub other_is : (n : ℕ) → not (eqb (get_or s.variations at blank_variation).deltas n) ≡ other_count (last_variations s) n
  other_is n = ap (λ (x : ℕ). not (eqb x n)) (sym first_deltas) ∙ ap (λ (vs : List Variation). other_count vs n) (sym first_is)

pub other_none : (s : Stores) → Sound s → 0 < s.begun → (last_cell s).variations ≡ 0 → (n : ℕ) → false ≡ other_count (last_variations s) n
other_none s h some z n = ap (λ (vs : List Variation). other_count vs n) (sym (empty (last_variations s) (last_length s h some ∙ z)))
  where
    empty : (vs : List Variation) → length vs ≡ 0 → vs ≡ []
    empty [] e = refl
    empty (v ∷ vs) e = absurd (omega arith)
