-- Which points the table stores of the variations in the stores.
use Rattle.std.proofs.Common.{◌≡◌, ℕ, suc, ◌*◌, ◌<◌, ◌≤◌, List, [], ◌∷◌, ◌++◌, map, length, get_or, take, drop, ℤ, sym, refl, ap, ◌∙◌, arith, length-drop, length-take-le, get_or-take, drop-drop, drop_at}
use mathlib.Core.List.{map-append}
use lib.Seq.{take-append-le, drop-append-le, take-length}
use Rattle.std.proofs.lemmas.List.{get_or-map}
use Rattle.format.specs.Account.{Delta, Variation}
use Rattle.format.specs.Glyphs.{stores_all}
use Rattle.variations.specs.declared.delta.GlyphDelta.{GlyphDelta}
use Rattle.variations.specs.Deltas.{deltas_of}
use Rattle.tuples.specs.Choice.{StoredAs}
use Rattle.sets.specs.declared.cells.VariationCell.{VariationCell}
use Rattle.sets.specs.Cells.{deltas_in, blank_variation}
use Rattle.sets.specs.Layout.{Stores, account_in, deal, dealt}
use Rattle.sets.specs.Sound.{Sound, deal_deltas, Chosen, points_size, values_size}
use Rattle.sets.specs.Views.{all_variations, no_variation}
use Rattle.sets.proofs.Deal.{dealt_in_use}
use Rattle.sets.proofs.Shown.{all_is, dealt_long}

deal_deltas_snoc : (cs : List VariationCell) (c : VariationCell) (ds : List GlyphDelta) →
    deal_deltas (cs ++ (c ∷ [])) ds ≡ deal_deltas cs ds ++ (deltas_of (take c.deltas (drop (deltas_in cs) ds)) ∷ [])
deal_deltas_snoc [] c ds = refl
deal_deltas_snoc (d ∷ cs) c ds =
    rw (← drop-drop (deltas_in cs) d.deltas ds)
    (ap (λ (r : List (List Delta)). deltas_of (take d.deltas ds) ∷ r) (deal_deltas_snoc cs c (drop d.deltas ds)))

-- what lies behind the deltas in use does not matter
deal_deltas_more : (cs : List VariationCell) (ds es : List GlyphDelta) → deltas_in cs ≤ length ds → deal_deltas cs (ds ++ es) ≡ deal_deltas cs ds
deal_deltas_more [] ds es h = refl
deal_deltas_more (c ∷ cs) ds es h =
    let l = length-drop c.deltas ds in
    let e1 = take-append-le c.deltas ds es (omega arith) in
    let e2 = drop-append-le c.deltas ds es (omega arith) in
    let i = deal_deltas_more cs (drop c.deltas ds) es (omega arith) in
    cc

-- one variation more, with its deltas behind those in use
module _ (cs : List VariationCell) (c : VariationCell) (ds es : List GlyphDelta) (all : deltas_in cs ≡ length ds) (is : c.deltas ≡ length es) where
  deltas_more : deal_deltas (cs ++ (c ∷ [])) (ds ++ es) ≡ deal_deltas cs ds ++ (deltas_of es ∷ [])
  deltas_more =
      let d : drop (deltas_in cs) (ds ++ es) ≡ es = drop_at ds es (deltas_in cs) (sym all) in
      let t : take c.deltas es ≡ es = ap (λ (n : ℕ). take n es) is ∙ take-length es in
      let e1 = deal_deltas_snoc cs c (ds ++ es) in
      let e2 = deal_deltas_more cs ds es (omega arith) in
      cc

  field_more : {X : Type 0} (f : VariationCell → X) (g : List Delta → X) →
      map f cs ≡ map g (deal_deltas cs ds) → f c ≡ g (deltas_of es) → map f (cs ++ (c ∷ [])) ≡ map g (deal_deltas (cs ++ (c ∷ [])) (ds ++ es))
  field_more {X} f g h e =
      map-append f cs (c ∷ [])
      ∙ (λ i. h i ++ (e i ∷ []))
      ∙ sym (map-append g (deal_deltas cs ds) (deltas_of es ∷ []))
      ∙ ap (map g) (sym deltas_more)

pub chosen_more : (cs : List VariationCell) (c : VariationCell) (ds es : List GlyphDelta) → Chosen cs ds → deltas_in cs ≡ length ds → c.deltas ≡ length es →
    StoredAs (deltas_of es) c.stored → Chosen (cs ++ (c ∷ [])) (ds ++ es)
chosen_more cs c ds es h all is new = (
  field_more cs c ds es all is (λ x. x.stored.all) stores_all h.0 new.all_is,
  field_more cs c ds es all is (λ x. x.stored.points) points_size h.1 new.points_are,
  field_more cs c ds es all is (λ x. x.stored.values) values_size h.2 new.values_are,
)

-- the deltas of the variations that are dealt
deltas_dealt : (a : ℕ) (cs : List VariationCell) (xs : List ℤ) (ds : List GlyphDelta) → map (λ v. v.deltas) (deal a cs xs ds) ≡ deal_deltas cs ds
deltas_dealt a [] xs ds = refl
deltas_dealt a (c ∷ cs) xs ds = ap (λ (r : List (List Delta)). deltas_of (take c.deltas ds) ∷ r) (deltas_dealt a cs (drop (3 * a) xs) (drop c.deltas ds))

deal_deltas_long : (cs : List VariationCell) (ds : List GlyphDelta) → length (deal_deltas cs ds) ≡ length cs
deal_deltas_long [] ds = refl
deal_deltas_long (c ∷ cs) ds = ap suc (deal_deltas_long cs (drop c.deltas ds))

module _ (s : Stores) (h : Sound s) (i : ℕ) (l : i < s.added) where
  abbrev cells : List VariationCell
  cells = take s.added s.variations

  abbrev used : List GlyphDelta
  used = take s.moved s.deltas

  in_cells : i < length cells
  in_cells = let e = length-take-le s.added s.variations h.within.1 in omega arith

  abbrev shown : List Delta
  shown = (get_or (all_variations (account_in s).glyphs) i no_variation).deltas

  -- the deltas of variation i
  deltas_at : get_or (deal_deltas cells used) i [] ≡ shown
  deltas_at =
      let e = dealt_long s h in
      let a = all_is s h in
      ap (λ (ds : List (List Delta)). get_or ds i []) (sym (deltas_dealt s.axes cells (take (3 * s.axes * s.added) s.values) used))
      ∙ ap (λ (vs : List Variation). get_or (map (λ v. v.deltas) vs) i []) (dealt_in_use s h)
      ∙ get_or-map (λ (v : Variation). v.deltas) (dealt s) i no_variation [] (omega arith)
      ∙ ap (λ (vs : List Variation). (get_or vs i no_variation).deltas) (sym a)

  field_at : {X : Type 0} (f : VariationCell → X) (g : List Delta → X) → map f cells ≡ map g (deal_deltas cells used) → f (get_or s.variations i blank_variation) ≡ g shown
  field_at {X} f g e =
      let m = in_cells in
      let d = deal_deltas_long cells used in
      ap f (sym (get_or-take s.added s.variations i blank_variation l))
      ∙ sym (get_or-map f cells i blank_variation (f blank_variation) m)
      ∙ ap (λ (xs : List X). get_or xs i (f blank_variation)) e
      ∙ get_or-map g (deal_deltas cells used) i [] (f blank_variation) (omega arith)
      ∙ ap g deltas_at

  pub stored_shown : StoredAs shown (get_or s.variations i blank_variation).stored
  stored_shown = record {
    all_is = field_at (λ c. c.stored.all) stores_all h.chosen.0;
    points_are = field_at (λ c. c.stored.points) points_size h.chosen.1;
    values_are = field_at (λ c. c.stored.values) values_size h.chosen.2;
  }
