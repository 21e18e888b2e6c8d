-- What a variation that is put into the stores does to the account.
use Rattle.std.proofs.Common.{◌≡◌, ℕ, ◌+◌, ◌-◌, ◌*◌, ◌≤◌, List, [], ◌∷◌, ◌++◌, map, length, take, drop, set, ℤ, sym, refl, ap, ◌∙◌, append_assoc, arith, length-append, length-drop, length-set, take-append-drop, length-take-le, take_all, take_at, drop_at}
use lib.Seq.{drop-append-le}
use Rattle.std.proofs.lemmas.List.{length-map}
use Rattle.format.specs.Account as account
use Rattle.format.specs.Account.{Variation, variation_of, accepted, add, tent}
use Rattle.variations.specs.declared.delta.GlyphDelta.{GlyphDelta}
use Rattle.variations.specs.Deltas.{delta_of, deltas_of}
use Rattle.tuples.specs.declared.choice.StoredPoints.{StoredPoints}
use Rattle.sets.specs.declared.cells.VariationCell.{VariationCell}
use Rattle.tents.specs.declared.tent.Tent.{Tent}
use Rattle.sets.specs.Cells.{variations_in, deltas_in}
use Rattle.tents.specs.Tents.{given}
use Rattle.sets.specs.Given.{variation_call}
use Rattle.sets.specs.Layout.{Stores, account_in, dealt, deal, groups, read, tents_of}
use Rattle.sets.specs.Sound.{Sound}
use Rattle.sets.specs.Writing.{last_cell, front, Admitted}
use Rattle.sets.proofs.Deal.{deal_snoc, deal_more, groups_more, add_snoc, counts, length_dealt, glyphs_are}
use Rattle.sets.proofs.Enter.{values_more, counted, one_more, cell_for, counted_cells, counted_variations}
use Rattle.sets.proofs.Filled.{peak_of, start_of, end_of, filled, filled_sound, filled_room, values_are, deltas_are, values_length, deltas_length, front_length, moved_length}
use Rattle.sets.proofs.Lists.{groups_snoc}

tents_are : (ts : List Tent) → tents_of (map peak_of ts) (map start_of ts) (map end_of ts) ≡ map tent (map given ts)
tents_are [] = refl
tents_are (t ∷ ts) = ap (λ (r : List account.Tent). tent (given t) ∷ r) (tents_are ts)

read_is : (a : ℕ) (ps ss es rs : List ℤ) (ds ms : List GlyphDelta) → length ps ≡ a → length ss ≡ a → length es ≡ a →
    read a (length ds) (((ps ++ ss) ++ es) ++ rs) (ds ++ ms) ≡ record { tents = tents_of ps ss es; deltas = deltas_of ds }
read_is a ps ss es rs ds ms p s e =
    let w1 : ((ps ++ ss) ++ es) ++ rs ≡ ps ++ (ss ++ (es ++ rs)) = simp append_assoc in
    let w2 : ((ps ++ ss) ++ es) ++ rs ≡ (ps ++ ss) ++ (es ++ rs) = append_assoc (ps ++ ss) es rs in
    let l = length-append ps ss in
    let e1 : take a (((ps ++ ss) ++ es) ++ rs) ≡ ps = ap (take a) w1 ∙ take_at ps (ss ++ (es ++ rs)) a p in
    let e2 : drop a (((ps ++ ss) ++ es) ++ rs) ≡ ss ++ (es ++ rs) = ap (drop a) w1 ∙ drop_at ps (ss ++ (es ++ rs)) a p in
    let e3 : take a (ss ++ (es ++ rs)) ≡ ss = take_at ss (es ++ rs) a s in
    let e4 : drop (2 * a) (((ps ++ ss) ++ es) ++ rs) ≡ es ++ rs = ap (drop (2 * a)) w2 ∙ drop_at (ps ++ ss) (es ++ rs) (2 * a) (omega arith) in
    let e5 : take a (es ++ rs) ≡ es = take_at es rs a e in
    let e6 : take (length ds) (ds ++ ms) ≡ ds = take_at ds ms (length ds) refl in
    cc

module _ (s : Stores) (ts : List Tent) (ds : List GlyphDelta) (h : Sound s) (r : StoredPoints) (room : Admitted s (length ts) (length ds)) where
  abbrev at : ℕ
  at = 3 * s.axes * s.added

  abbrev ps : List ℤ
  ps = map peak_of ts

  abbrev ss : List ℤ
  ss = map start_of ts

  abbrev es : List ℤ
  es = map end_of ts

  abbrev cs : List VariationCell
  cs = take s.added s.variations

  abbrev new : Variation
  new = variation_of (map given ts) (deltas_of ds)

  cells_length : length cs ≡ s.added
  cells_length = length-take-le s.added s.variations h.within.1

  start_is : 3 * s.axes * length cs ≡ at
  start_is = ap (λ n. 3 * s.axes * n) cells_length

  dealt_front : (xs : List ℤ) (ms : List GlyphDelta) → deal s.axes cs (take at s.values ++ xs) (take s.moved s.deltas ++ ms) ≡ dealt s
  dealt_front xs ms =
      let a1 = start_is in
      let a2 = front_length s ts ds h room in
      let a3 = moved_length s ts ds h room in
      let b1 : 3 * s.axes * length cs ≤ length (take at s.values) = omega arith in
      let b2 : deltas_in cs ≤ length (take s.moved s.deltas) = omega (arith, h.counted.1) in
      let e1 = take-append-drop at s.values in
      let e2 = take-append-drop s.moved s.deltas in
      deal_more s.axes cs (take at s.values) xs (take s.moved s.deltas) ms b1 b2
      ∙ sym (deal_more s.axes cs (take at s.values) (drop at s.values) (take s.moved s.deltas) (drop s.moved s.deltas) b1 b2)
      ∙ ap (λ (x : List ℤ). deal s.axes cs x (take s.moved s.deltas ++ drop s.moved s.deltas)) e1
      ∙ ap (λ (x : List GlyphDelta). deal s.axes cs s.values x) e2

  new_is : read s.axes (length ds) (drop (3 * s.axes * length cs) (filled s ts ds).values) (drop (deltas_in cs) (filled s ts ds).deltas) ≡ new
  new_is =
      let lp = length-map ts peak_of in
      let ls = length-map ts start_of in
      let le = length-map ts end_of in
      let v : drop (3 * s.axes * length cs) (filled s ts ds).values ≡ ((ps ++ ss) ++ es) ++ drop (at + (length ts + length ts + length ts)) s.values =
      ap (drop (3 * s.axes * length cs)) (values_are s ts ds h room) ∙ drop_at (take at s.values) _ (3 * s.axes * length cs) (front_length s ts ds h room ∙ sym start_is) in
      let d : drop (deltas_in cs) (filled s ts ds).deltas ≡ ds ++ drop (s.moved + length ds) s.deltas =
      ap (drop (deltas_in cs)) (deltas_are s ts ds h room) ∙ drop_at (take s.moved s.deltas) _ (deltas_in cs) (moved_length s ts ds h room ∙ sym h.counted.1) in
      ap (λ (x : List ℤ). read s.axes (length ds) x (drop (deltas_in cs) (filled s ts ds).deltas)) v
      ∙ ap (λ (y : List GlyphDelta). read s.axes (length ds) (((ps ++ ss) ++ es) ++ drop (at + (length ts + length ts + length ts)) s.values) y) d
      ∙ read_is s.axes ps ss es _ ds _ (lp ∙ room.tents) (ls ∙ room.tents) (le ∙ room.tents)
      ∙ ap (λ (r : List account.Tent). record { tents = r; deltas = deltas_of ds }) (tents_are ts)

  -- the variations in the stores, with one more
  pub dealt_more : dealt (counted (filled s ts ds) (length ds) r) ≡ dealt s ++ (new ∷ [])
  dealt_more =
      ap (λ (c : List VariationCell). deal s.axes c (filled s ts ds).values (filled s ts ds).deltas) (counted_variations (filled s ts ds) (length ts) (length ds) r (filled_sound s ts ds h room) (filled_room s ts ds h room))
      ∙ deal_snoc s.axes cs (cell_for s (length ds) r) (filled s ts ds).values (filled s ts ds).deltas
      ∙ ap (λ (v : Variation). deal s.axes cs (filled s ts ds).values (filled s ts ds).deltas ++ (v ∷ [])) new_is
      ∙ ap (λ (x : List ℤ). deal s.axes cs x (filled s ts ds).deltas ++ (new ∷ [])) (values_are s ts ds h room)
      ∙ ap (λ (y : List GlyphDelta). deal s.axes cs (take at s.values ++ (((ps ++ ss) ++ es) ++ drop (at + (length ts + length ts + length ts)) s.values)) y ++ (new ∷ [])) (deltas_are s ts ds h room)
      ∙ ap (λ (vs : List Variation). vs ++ (new ∷ [])) (dealt_front _ _)

  pub glyphs_more : (account_in (counted (filled s ts ds) (length ds) r)).glyphs ≡ add (new) (account_in s).glyphs
  glyphs_more =
      let c = counts s h room.begun in
      let l = length_dealt s h room.begun in
      let ld = length-drop (variations_in (front s)) (dealt s) in
      let la = length-append (drop (variations_in (front s)) (dealt s)) (new ∷ []) in
      let e1 = counted_cells (filled s ts ds) (length ts) (length ds) r (filled_sound s ts ds h room) (filled_room s ts ds h room) in
      let e2 = groups_snoc (front s) (one_more s) (dealt s ++ (new ∷ [])) in
      let e3 = groups_more (front s) (dealt s) (new ∷ []) (omega arith) in
      let e4 = drop-append-le (variations_in (front s)) (dealt s) (new ∷ []) (omega arith) in
      let e5 = take_all ((last_cell s).variations + 1) (drop (variations_in (front s)) (dealt s) ++ (new ∷ [])) (omega (arith, la, ld)) in
      let e6 = glyphs_are s h room.begun in
      let e7 = add_snoc (new) (groups (front s) (dealt s)) (record { number = (last_cell s).number; variations = drop (variations_in (front s)) (dealt s) }) in
      let e8 = dealt_more in
      cc

  pub entered : account_in (counted (filled s ts ds) (length ds) r) ≡ accepted (account_in s) (variation_call ts ds)
  entered =
      let g = glyphs_more in
      let l1 = length-set s.glyphs (s.begun - 1) (one_more s) in
      let l2 = length-set s.variations s.added (cell_for s (length ds) r) in
      let l3 = values_length s ts ds h room in
      let l4 = deltas_length s ts ds h room in
      let m = values_more s in
      let f1 : length (set s.glyphs (s.begun - 1) (one_more s)) - s.begun ≡ length s.glyphs - s.begun = omega arith in
      let f2 : length (set s.variations s.added (cell_for s (length ds) r)) - (s.added + 1) ≡ length s.variations - s.added - 1 = omega arith in
      let f3 : length (filled s ts ds).values - 3 * s.axes * (s.added + 1) ≡ length s.values - at - 3 * s.axes = omega arith in
      let lm = length-map ds delta_of in
      let f4 : length (filled s ts ds).deltas - (s.moved + length ds) ≡ length s.deltas - s.moved - length (deltas_of ds) = omega arith in
      cc
