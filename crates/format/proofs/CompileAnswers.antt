-- Which sets are not compiled, with which answer, and which are; and the answers of all calls together.
use Rattle.std.proofs.Common.{◌≡◌, ℕ, ◌<◌, Bool, true, false, not, ltb, ◌⊎◌, ◌↔◌, List, [], ◌∷◌, ◌++◌, length, sym, refl, ap, ◌∙◌, subst, inl, inr, arith}
use mathlib.Core.Option.{Option, none, some}
use Rattle.std.specs.List.{AllByRecursion}
use Rattle.std.proofs.lemmas.Bool.{ltb-true, ltb-false, lt-ltb, le-ltb, not-false, not_from_true}
use Rattle.std.proofs.ByRecursion.{All-append}
use Rattle.format.specs.Bytes.{joined}
use Rattle.format.specs.Account.{Glyph, Account, Declined, Condition, iff, first_of}
use Rattle.format.specs.Glyphs.{listed}
use Rattle.format.specs.Table.{glyphs_bytes, even_total, numbers_full, variation_count, table_bytes, compile_conditions, granted, refused, answered, compile_answer}
use Rattle.format.specs.Answers.{by_set, Countable, SizesFit, NotCompiled, missing_numbers, few_count_cells, long_data, long_headers, long_glyphs, long_table, CompileGranted, NumbersOfACall, GrantedMetNone}
use Rattle.format.proofs.Conditions.{Off, none_applies, all_pass}
use Rattle.format.proofs.Firsts.{some_same, none_some, first_left, first_after, first_either, FirstAmong, first_among, among_first, none_among}
use Rattle.format.proofs.Lists.{all_parts, all_joined}
use Rattle.format.proofs.CallAnswers.{axis_count_refused, axis_count_granted, glyph_refused, glyph_granted, variation_refused, variation_granted}
use Rattle.format.proofs.SizeAnswers.{of_sizes, sizes_fit, fit_sizes, LongData, LongHeaders, size_reason, long_data_first, long_headers_first}

-- The conditions, in three parts

module _ (a : ℕ) (gs : List Glyph) (cells allowance : ℕ) where
  abbrev Reason : Declined → Type 0
  Reason = NotCompiled a gs cells allowance

  abbrev sizes : List Condition
  sizes = joined (listed 0 (length gs) (λ n. of_sizes gs n))

  abbrev ends : List Condition
  ends =
      iff (ltb 67108864 (even_total (glyphs_bytes gs))) (by_set 14 none none)
      ∷ iff (ltb allowance (length (table_bytes a gs))) (by_set 15 none none)
      ∷ []

  abbrev conditions : List Condition
  conditions = iff (not (numbers_full gs)) (by_set 10 none none) ∷ iff (ltb cells (variation_count gs)) (by_set 11 none none) ∷ (sizes ++ ends)

  -- Refused

  fit_among : (d : Declined) (f : FirstAmong 0 (length gs) (λ n. of_sizes gs n) d) → (m : ℕ) → m < f.place → SizesFit gs m
  fit_among d f m l = sizes_fit gs m (f.off_before m m (omega arith) l)

  -- 12 and 13
  of_one : Countable gs cells → (d : Declined) → FirstAmong 0 (length gs) (λ n. of_sizes gs n) d → Reason d
  of_one c d f =
      let s : f.at ≡ f.place = omega (arith, f.is) in
      by f.place f.inside (fit_among d f) (size_reason gs f.place d (subst (λ (n : ℕ). first_of (of_sizes gs n) ≡ some d) s f.answers))
    where
      by : (n : ℕ) → n < length gs → ((m : ℕ) → m < n → SizesFit gs m) → LongData gs n d ⊎ LongHeaders gs n d → Reason d
      by n l h (inl p) = subst Reason p.named (long_data n p.which c l h p.inside p.fit_before p.long)
      by n l h (inr p) = subst Reason p.2 (long_headers n c l h p.0 p.1)

  all_fit : AllByRecursion Off sizes → (n : ℕ) → n < length gs → SizesFit gs n
  all_fit h n l = sizes_fit gs n (all_joined Off (length gs) 0 (λ n. of_sizes gs n) h n n (omega arith) l)

  fit_all : ((n : ℕ) → n < length gs → SizesFit gs n) → AllByRecursion Off sizes
  fit_all h = none_among (length gs) 0 (λ n. of_sizes gs n) (λ j m e l. fit_sizes gs m (h m (omega arith)))

  -- 14 and 15
  of_ends : Countable gs cells → ((n : ℕ) → n < length gs → SizesFit gs n) → (d : Declined) → first_of ends ≡ some d → Reason d
  of_ends c h d = by (ltb 67108864 (even_total (glyphs_bytes gs))) (ltb allowance (length (table_bytes a gs))) refl refl
    where
      by : (b e : Bool) → ltb 67108864 (even_total (glyphs_bytes gs)) ≡ b → ltb allowance (length (table_bytes a gs)) ≡ e →
          first_of (iff b (by_set 14 none none) ∷ iff e (by_set 15 none none) ∷ []) ≡ some d → Reason d
      by true e p q k = subst Reason (some_same (by_set 14 none none) d k) (long_glyphs c h (ltb-true 67108864 (even_total (glyphs_bytes gs)) p))
      by false true p q k =
          subst Reason (some_same (by_set 15 none none) d k) (long_table c h (ltb-false 67108864 (even_total (glyphs_bytes gs)) p) (ltb-true allowance (length (table_bytes a gs)) q))
      by false false p q k = none_some d k

  reason_of : (d : Declined) → first_of conditions ≡ some d → Reason d
  reason_of d = by (numbers_full gs) (ltb cells (variation_count gs)) refl refl
    where
      rest : Countable gs cells → (first_of sizes ≡ some d) ⊎ (AllByRecursion Off sizes × (first_of ends ≡ some d)) → Reason d
      rest c (inl p) = of_one c d (first_among (length gs) 0 (λ n. of_sizes gs n) d p)
      rest c (inr p) = of_ends c (all_fit p.0) d p.1

      by : (b e : Bool) → numbers_full gs ≡ b → ltb cells (variation_count gs) ≡ e →
          first_of (iff (not b) (by_set 10 none none) ∷ iff e (by_set 11 none none) ∷ (sizes ++ ends)) ≡ some d → Reason d
      by false e p q k = subst Reason (some_same (by_set 10 none none) d k) (missing_numbers p)
      by true true p q k = subst Reason (some_same (by_set 11 none none) d k) (few_count_cells p (ltb-true cells (variation_count gs) q))
      by true false p q k = rest (p, ltb-false cells (variation_count gs) q) (first_either sizes ends d k)

  -- past 10 and 11
  past : Countable gs cells → first_of conditions ≡ first_of (sizes ++ ends)
  past c = rw (c.0, le-ltb cells (variation_count gs) c.1)

  among : Countable gs cells → (n : ℕ) (d : Declined) → n < length gs → ((m : ℕ) → m < n → SizesFit gs m) → first_of (of_sizes gs n) ≡ some d → first_of conditions ≡ some d
  among c n d l h e =
      past c ∙ first_left sizes ends d
      (among_first (length gs) 0 (λ n. of_sizes gs n) d n n (omega arith) l (λ j m q b. fit_sizes gs m (h m (omega arith))) e)

  of_reason : (d : Declined) → Reason d → first_of conditions ≡ some d
  of_reason _ (missing_numbers e) = rw e
  of_reason _ (few_count_cells e l) = rw (e, lt-ltb cells (variation_count gs) l)
  of_reason _ (long_data n i c l h k f m) = among c n (by_set 12 (some n) (some i)) l h (long_data_first gs n i k f m)
  of_reason _ (long_headers n c l h f m) = among c n (by_set 13 (some n) none) l h (long_headers_first gs n f m)
  of_reason _ (long_glyphs c h m) = past c ∙ first_after sizes ends (fit_all h) ∙ rw (lt-ltb 67108864 (even_total (glyphs_bytes gs)) m)
  of_reason _ (long_table c h l m) =
      past c ∙ first_after sizes ends (fit_all h) ∙ rw (le-ltb 67108864 (even_total (glyphs_bytes gs)) l, lt-ltb allowance (length (table_bytes a gs)) m)

  -- Granted

  bounds_met : first_of conditions ≡ none → CompileGranted a gs cells allowance (length (table_bytes a gs))
  bounds_met e =
      let o = none_applies conditions e in
      let p = all_parts Off sizes ends o.1.1 in
      record {
        countable = (not-false (numbers_full gs) o.0, ltb-false cells (variation_count gs) o.1.0);
        sizes_fit = all_fit p.0;
        glyphs_fit = ltb-false 67108864 (even_total (glyphs_bytes gs)) p.1.0;
        table_fits = ltb-false allowance (length (table_bytes a gs)) p.1.1.0;
        whole_table = refl;
      }

  met_bounds : (n : ℕ) → CompileGranted a gs cells allowance n → first_of conditions ≡ none
  met_bounds n g =
      all_pass conditions (
        not_from_true (numbers_full gs) g.countable.0,
        (
          le-ltb cells (variation_count gs) g.countable.1,
          All-append Off sizes ends (fit_all g.sizes_fit) (
            le-ltb 67108864 (even_total (glyphs_bytes gs)) g.glyphs_fit,
            (le-ltb allowance (length (table_bytes a gs)) g.table_fits, tt),
          ),
        ),
      )

-- The answer

answer_refused : (m : ℕ) (o : Option Declined) (d : Declined) → answered m o ≡ refused d → o ≡ some d
answer_refused m none d e = absurd (let z : ◌≡◌ {A = ℕ} 0 1 = cc in omega arith)
answer_refused m (some c) d e = ap some (let g : c ≡ d = cc in g)

answer_granted : (m n : ℕ) (o : Option Declined) → answered m o ≡ granted n → (o ≡ none) × (m ≡ n)
answer_granted m n none e = (refl, (let g : m ≡ n = cc in g))
answer_granted m n (some d) e = absurd (let z : ◌≡◌ {A = ℕ} 0 1 = cc in omega arith)

module _ (A : Account) (cells allowance : ℕ) where
  abbrev size : ℕ
  size = length (table_bytes A.axes A.glyphs)

  compile_refused : (d : Declined) → compile_answer A cells allowance ≡ refused d ↔ NotCompiled A.axes A.glyphs cells allowance d
  unfolding compile_answer
  compile_refused d = (
    λ e. reason_of A.axes A.glyphs cells allowance d (answer_refused size (first_of (compile_conditions A cells allowance)) d e),
    λ r. ap (answered size) (of_reason A.axes A.glyphs cells allowance d r),
  )

  compile_granted : (n : ℕ) → compile_answer A cells allowance ≡ granted n ↔ CompileGranted A.axes A.glyphs cells allowance n
  unfolding compile_answer
  compile_granted n = (
    λ e.
        let r = answer_granted size n (first_of (compile_conditions A cells allowance)) e in
        subst (CompileGranted A.axes A.glyphs cells allowance) r.1 (bounds_met A.axes A.glyphs cells allowance r.0),
    λ g. ap (answered size) (met_bounds A.axes A.glyphs cells allowance n g) ∙ ap granted (sym g.whole_table),
  )

pub numbers_of_a_call : NumbersOfACall
numbers_of_a_call = record { of_axis_count = axis_count_refused; of_glyph = glyph_refused; of_variation = variation_refused; of_compile = compile_refused }

pub granted_met_none : GrantedMetNone
granted_met_none = record { of_axis_count = axis_count_granted; of_glyph = glyph_granted; of_variation = variation_granted; of_compile = compile_granted }
