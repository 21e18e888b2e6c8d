-- From what the passes of compile find to what compile promises.
use Rattle.std.proofs.Common.{◌≡◌, ℕ, ◌+◌, ◌-◌, ◌<◌, ◌≤◌, true, false, ◌⊎◌, List, [], ◌∷◌, map, length, replicate, ℤ, Ok, Err, fold, Result, sym, refl, ap, ◌∙◌, subst, inl, inr, length-append}
use mathlib.Core.Option.{Option, none, some}
use lib.ListN.{length-map}
use Rattle.std.proofs.lemmas.Bool.{lt-ltb, le-ltb}
use Rattle.format.specs.Account.{Account, Glyph, Variation, Declined, most_axes, ShortSet, first_of}
use Rattle.format.specs.Glyphs.{peak, peaks_seen}
use Rattle.format.specs.Table.{granted, refused, variations_of, numbers_full, variation_count, table_bytes, size_conditions}
use Rattle.format.specs.Answers.{Countable, SizesFit, NotCompiled, long_data, long_headers}
use Rattle.format.specs.Promise.{Compiled}
use Rattle.format.proofs.Conditions.{none_applies}
use Rattle.format.proofs.SizeAnswers.{sizes_fit, size_reason, LongData, LongHeaders}
use Rattle.format.proofs.CompileAnswers.{numbers_of_a_call, granted_met_none}
use Rattle.format.proofs.Promised.{compiled}
use Rattle.write.specs.Sinks.{Standing, Step}
use Rattle.sets.specs.declared.refusal.Refusal.{Refusal}
use Rattle.stores.specs.declared.size.StoreFault.{StoreFault}
use Rattle.stores.specs.Sizes.{store_declined, StoreSized}
use Rattle.sets.specs.Refusals.{declined_of}
use Rattle.counts.specs.declared.cells.CountCell.{CountCell}
use Rattle.counts.specs.Cells.{blank}
use Rattle.gvar.specs.Compiling.{meaning_of, compiled_of, cells_after, SinkLeft, WrittenSo, Written}

-- 12 and 13

-- the sizes of glyph n fit where none of its conditions applies
pub one_fits : (gs : List Glyph) (n : ℕ) → first_of (size_conditions (peaks_seen gs) n (variations_of n gs)) ≡ none → SizesFit gs n
one_fits gs n e = sizes_fit gs n (none_applies (size_conditions (peaks_seen gs) n (variations_of n gs)) e)

-- the first glyph whose sizes do not fit refuses the set
pub one_refuses : (gs : List Glyph) (n : ℕ) (d : Declined) → n < length gs → ((m : ℕ) → m < n → SizesFit gs m) →
    first_of (size_conditions (peaks_seen gs) n (variations_of n gs)) ≡ some d →
    (a cells allowance : ℕ) → Countable gs cells → NotCompiled a gs cells allowance d
one_refuses gs n d l fit e a cells allowance c = by (size_reason gs n d e)
  where
    by : LongData gs n d ⊎ LongHeaders gs n d → NotCompiled a gs cells allowance d
    by (inl p) = subst (NotCompiled a gs cells allowance) p.named (long_data n p.which c l fit p.inside p.fit_before p.long)
    by (inr p) = subst (NotCompiled a gs cells allowance) p.2 (long_headers n c l fit p.0 p.1)

-- the store of glyph n was measured
module _ (gs : List Glyph) (n : ℕ) (ps : List (List ℤ)) (vs : List Variation) (peaks_are : ps ≡ peaks_seen gs) (variations-are : vs ≡ variations_of n gs) where
  told_of : (o : Option Declined) → first_of (size_conditions ps n vs) ≡ o → first_of (size_conditions (peaks_seen gs) n (variations_of n gs)) ≡ o
  told_of o e = ap (λ (qs : List (List ℤ)). first_of (size_conditions qs n (variations_of n gs))) (sym peaks_are) ∙ ap (λ (ws : List Variation). first_of (size_conditions ps n ws)) (sym variations-are) ∙ e

  pub measured_fits : (k : ℕ) → StoreSized ps vs (Ok k) → SizesFit gs n
  measured_fits k s = one_fits gs n (told_of none (s.told.0 n))

  pub measured_refuses : (f : StoreFault) (r : Refusal) → declined_of r ≡ store_declined n f → n < length gs → ((m : ℕ) → m < n → SizesFit gs m) →
      StoreSized ps vs (Err f) → (a cells allowance : ℕ) → Countable gs cells → NotCompiled a gs cells allowance (declined_of r)
  measured_refuses f r e l fit s a cells allowance c =
      subst (NotCompiled a gs cells allowance) (sym e) (one_refuses gs n (store_declined n f) l fit (told_of (some (store_declined n f)) (s.told n)) a cells allowance c)

-- What is promised

module _ (k : Account) (cells : ℕ) (step : Step) (s : Standing) (few : k.axes ≤ most_axes) (short : ShortSet k.glyphs) where
  -- a refusal for one of the reasons that there are, with the sink as it was
  pub compiled_refused : (t : Standing) (d : Declined) → t ≡ s → NotCompiled k.axes k.glyphs cells s.allowance d →
      Compiled k cells (meaning_of step s) (refused d) (meaning_of step t)
  compiled_refused t d e reason =
      compiled k cells (meaning_of step s) (refused d) (meaning_of step t) few short
      (sym ((numbers_of_a_call.of_compile k cells s.allowance d).1 reason))
      (ap (meaning_of step) e)

  -- a granted table, handed over whole
  pub compiled_granted : (t : Standing) (n : ℕ) → Countable k.glyphs cells → WrittenSo step k.axes k.glyphs s t (Ok n) →
      Compiled k cells (meaning_of step s) (granted n) (meaning_of step t)
  compiled_granted t n c w =
      let h = w.3.outcome in
      let table = table_bytes k.axes k.glyphs in
      let allowance : t.allowance ≡ s.allowance - length table = h.1 in
      let state : t.state ≡ fold step s.state table = h.2 in
      compiled k cells (meaning_of step s) (granted n) (meaning_of step t) few short
      (sym ((granted_met_none.of_compile k cells s.allowance n).1
      (record { countable = c; sizes_fit = w.1; glyphs_fit = w.2; table_fits = h.0; whole_table = w.0 })))
      (λ i. record { allowance = allowance i; state = state i; step = step })

  pub compiled_written : (t : Standing) (r : Result ℕ Refusal) → Countable k.glyphs cells → Written step k.axes k.glyphs s t r →
      Compiled k cells (meaning_of step s) (compiled_of r) (meaning_of step t)
  compiled_written t (Ok n) c w = compiled_granted t n c w.outcome
  compiled_written t (Err e) c w = compiled_refused t (declined_of e) w.outcome.0 (w.outcome.1 cells c)

-- The count cells

-- a set has a peak for each variation
pub peaks_counted : (gs : List Glyph) → length (peaks_seen gs) ≡ variation_count gs
peaks_counted [] = refl
peaks_counted (g ∷ gs) =
    length-append (map peak g.variations) (peaks_seen gs)
    ∙ ap (λ (n : ℕ). n + length (peaks_seen gs)) (length-map g.variations peak)
    ∙ ap (λ (n : ℕ). length g.variations + n) (peaks_counted gs)

module _ (gs : List Glyph) (cs : List CountCell) where
  -- 10 and 11 leave them alone
  pub cells_at_gap : numbers_full gs ≡ false → cells_after gs cs ≡ cs
  cells_at_gap e = rw e refl

  pub cells_too_few : numbers_full gs ≡ true → length cs < variation_count gs → cells_after gs cs ≡ cs
  cells_too_few e l = rw (e, lt-ltb (length cs) (variation_count gs) l) refl

  -- every other end leaves zeros
  pub cells_cleared : numbers_full gs ≡ true → variation_count gs ≤ length cs → cells_after gs cs ≡ replicate (length cs) blank
  cells_cleared e l = rw (e, le-ltb (length cs) (variation_count gs) l) refl

-- the sink after a written table, or as it was
pub sink_left : (step : Step) (a : ℕ) (gs : List Glyph) (s t : Standing) (r : Result ℕ Refusal) → Written step a gs s t r → SinkLeft step (table_bytes a gs) s t r
sink_left step a gs s t (Ok n) w = w.outcome.3
sink_left step a gs s t (Err e) w = w.outcome.0
