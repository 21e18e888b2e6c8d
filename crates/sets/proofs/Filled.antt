-- What the values and the deltas of a new variation do to the stores.
use Rattle.std.proofs.Common.{◌≡◌, ℕ, ◌+◌, ◌*◌, ◌≤◌, true, List, [], ◌∷◌, ◌++◌, map, length, take, drop, set, ℤ, sym, refl, ap, ◌∙◌, subst, append_assoc, arith, length-append, length-take-le, take_at}
use lib.Seq.{paste, length-paste}
use Rattle.std.proofs.lemmas.List.Edits.{paste_all, paste-paste}
use Rattle.std.proofs.lemmas.List.{length-map}
use Rattle.format.specs.Bytes.{all}
use Rattle.variations.specs.declared.delta.GlyphDelta.{GlyphDelta}
use Rattle.variations.specs.Deltas.{deltas_of}
use Rattle.tuples.specs.declared.choice.StoredPoints.{StoredPoints}
use Rattle.tuples.specs.Choice.{StoredAs}
use Rattle.sets.specs.declared.cells.VariationCell.{VariationCell}
use Rattle.tents.specs.declared.tent.Tent.{Tent}
use Rattle.tents.specs.Tents.{tent_of}
use Rattle.sets.specs.Layout.{Stores}
use Rattle.sets.specs.Sound.{Sound, Chosen, ShortCells, short_value, short_delta}
use Rattle.sets.specs.Writing.{with_values, with_deltas, laid, Admitted}
use Rattle.sets.proofs.Choices.{chosen_more}
use Rattle.sets.proofs.Enter.{values_more, cell_for, counted_variations}
use Rattle.sets.proofs.Lists.{all_append}

-- the three values of a tent
abbrev pub peak_of : Tent → ℤ
peak_of t = t.peak

abbrev pub start_of : Tent → ℤ
start_of t = (tent_of t).start

abbrev pub end_of : Tent → ℤ
end_of t = (tent_of t).end

-- the values and the deltas of a variation behind those in use
abbrev pub filled : Stores → List Tent → List GlyphDelta → Stores
filled s ts ds =
    with_deltas (with_values s (laid s.values (3 * s.axes * s.added) ts (length ts))) (paste s.deltas s.moved ds (length ds))

module _ (s : Stores) (ts : List Tent) (ds : List GlyphDelta) (h : Sound s) (room : Admitted s (length ts) (length ds)) where
  abbrev at : ℕ
  at = 3 * s.axes * s.added

  abbrev ps : List ℤ
  ps = map peak_of ts

  abbrev ss : List ℤ
  ss = map start_of ts

  abbrev es : List ℤ
  es = map end_of ts

  in_front : at ≤ length s.values
  in_front = h.within.2

  pub values_are : (filled s ts ds).values ≡ take at s.values ++ (((ps ++ ss) ++ es) ++ drop (at + (length ts + length ts + length ts)) s.values)
  values_are =
      let lp = length-map ts peak_of in
      let ls = length-map ts start_of in
      let le = length-map ts end_of in
      let l1 = length-append ps ss in
      let l2 = length-append (ps ++ ss) es in
      let i : at + length ts + length ts ≡ at + (length ts + length ts) = omega arith in
      ap (λ (x : List ℤ). paste x (at + length ts + length ts) es (length ts)) (paste-paste s.values at ps ss (length ts) (length ts) (sym lp) (sym ls) in_front)
      ∙ ap (λ n. paste (paste s.values at (ps ++ ss) (length ts + length ts)) n es (length ts)) i
      ∙ paste-paste s.values at (ps ++ ss) es (length ts + length ts) (length ts) (omega arith) (sym le) in_front
      ∙ paste_all s.values at ((ps ++ ss) ++ es) (length ts + length ts + length ts) (omega arith)

  pub deltas_are : (filled s ts ds).deltas ≡ take s.moved s.deltas ++ (ds ++ drop (s.moved + length ds) s.deltas)
  deltas_are = paste_all s.deltas s.moved ds (length ds) refl

  pub values_length : length (filled s ts ds).values ≡ length s.values
  values_length =
      let lp = length-map ts peak_of in
      let ls = length-map ts start_of in
      let le = length-map ts end_of in
      let r = room.values in
      let e1 = length-paste s.values at ps (length ts) (omega arith) (omega arith) in
      let e2 = length-paste (paste s.values at ps (length ts)) (at + length ts) ss (length ts) (omega arith) (omega arith) in
      length-paste (paste (paste s.values at ps (length ts)) (at + length ts) ss (length ts)) (at + length ts + length ts) es (length ts) (omega arith) (omega arith) ∙ e2 ∙ e1

  pub deltas_length : length (filled s ts ds).deltas ≡ length s.deltas
  deltas_length = length-paste s.deltas s.moved ds (length ds) room.deltas (omega arith)

  pub front_length : length (take at s.values) ≡ at
  front_length = length-take-le at s.values in_front

  pub moved_length : length (take s.moved s.deltas) ≡ s.moved
  moved_length = length-take-le s.moved s.deltas h.within.3

  values_kept : take at (filled s ts ds).values ≡ take at s.values
  values_kept = ap (take at) values_are ∙ take_at (take at s.values) _ at front_length

  deltas_kept : take s.moved (filled s ts ds).deltas ≡ take s.moved s.deltas
  deltas_kept = ap (take s.moved) deltas_are ∙ take_at (take s.moved s.deltas) _ s.moved moved_length

  -- with the values, and not yet the deltas
  pub valued_sound : Sound (with_values s (filled s ts ds).values)
  valued_sound =
      let l = values_length in
      record {
        within = (h.within.0, h.within.1, omega (arith, h.within.2), h.within.3);
        counted = h.counted;
        placed = h.placed;
        chained = h.chained;
        numbered = h.numbered;
        few = h.few;
        chosen = h.chosen;
        short = (ap (all short_value) values_kept ∙ h.short.0, h.short.1);
      }

  pub filled_sound : Sound (filled s ts ds)
  filled_sound =
      let l = values_length in
      let d = deltas_length in
      record {
        within = (h.within.0, h.within.1, omega (arith, h.within.2), omega (arith, h.within.3));
        counted = h.counted;
        placed = h.placed;
        chained = h.chained;
        numbered = h.numbered;
        few = h.few;
        chosen = subst (λ (es : List GlyphDelta). Chosen (take s.added s.variations) es) (sym deltas_kept) h.chosen;
        short = (ap (all short_value) values_kept ∙ h.short.0, ap (all short_delta) deltas_kept ∙ h.short.1);
      }

  pub filled_room : Admitted (filled s ts ds) (length ts) (length ds)
  filled_room =
      let l = values_length in
      let d = deltas_length in
      record {
        begun = room.begun;
        tents = room.tents;
        few_deltas = room.few_deltas;
        few_variations = room.few_variations;
        variations = room.variations;
        values = omega (arith, room.values);
        deltas = omega (arith, room.deltas);
      }

  values_in_use : take (3 * s.axes * (s.added + 1)) (filled s ts ds).values ≡ take at s.values ++ ((ps ++ ss) ++ es)
  values_in_use =
      let lp = length-map ts peak_of in
      let ls = length-map ts start_of in
      let le = length-map ts end_of in
      let l1 = length-append ps ss in
      let l2 = length-append (ps ++ ss) es in
      let l3 = length-append (take at s.values) ((ps ++ ss) ++ es) in
      let f = front_length in
      let m = values_more s in
      ap (take (3 * s.axes * (s.added + 1))) (values_are ∙ sym (append_assoc (take at s.values) ((ps ++ ss) ++ es) _))
      ∙ take_at (take at s.values ++ ((ps ++ ss) ++ es)) _ (3 * s.axes * (s.added + 1)) (omega arith)

  deltas_in_use : take (s.moved + length ds) (filled s ts ds).deltas ≡ take s.moved s.deltas ++ ds
  deltas_in_use =
      let l = length-append (take s.moved s.deltas) ds in
      let f = moved_length in
      ap (take (s.moved + length ds)) (deltas_are ∙ sym (append_assoc (take s.moved s.deltas) ds _))
      ∙ take_at (take s.moved s.deltas ++ ds) _ (s.moved + length ds) (omega arith)

  pub filled_short : all short_value ps ≡ true → all short_value ss ≡ true → all short_value es ≡ true → all short_delta ds ≡ true →
      ShortCells (take (3 * s.axes * (s.added + 1)) (filled s ts ds).values) (take (s.moved + length ds) (filled s ts ds).deltas)
  filled_short p q r d = (
    ap (all short_value) values_in_use
        ∙ all_append short_value (take at s.values) ((ps ++ ss) ++ es) h.short.0 (all_append short_value (ps ++ ss) es (all_append short_value ps ss p q) r),
    ap (all short_delta) deltas_in_use ∙ all_append short_delta (take s.moved s.deltas) ds h.short.1 d,
  )

  pub filled_chosen : (r : StoredPoints) → StoredAs (deltas_of ds) r →
      Chosen (take (s.added + 1) (set s.variations s.added (cell_for s (length ds) r))) (take (s.moved + length ds) (filled s ts ds).deltas)
  filled_chosen r is =
      let e = counted_variations (filled s ts ds) (length ts) (length ds) r filled_sound filled_room in
      let m = moved_length in
      subst (λ (cs : List VariationCell). Chosen cs (take (s.moved + length ds) (filled s ts ds).deltas)) (sym e)
      (subst (λ (es : List GlyphDelta). Chosen (take s.added s.variations ++ (cell_for s (length ds) r ∷ [])) es) (sym deltas_in_use)
      (chosen_more (take s.added s.variations) (cell_for s (length ds) r) (take s.moved s.deltas) ds h.chosen (h.counted.1 ∙ sym m) refl is))
