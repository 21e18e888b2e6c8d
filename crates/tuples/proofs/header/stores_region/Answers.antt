use Rattle.std.proofs.Common.{◌≡◌, ℕ, ◌<◌, Bool, true, false, List, length, ℤ, pos, MatchBool, sym, refl, ◌∙◌, arith, rules, tests}
use Rattle.std.specs.List.{zip, HoldsAt, AllWithin}
use Rattle.std.proofs.lemmas.Bool.{false≢true}
use Rattle.std.proofs.lemmas.Iterator.{cases_from_any, YieldsList-from_slice, YieldsList-from_zip}
use Rattle.std.proofs.lemmas.List.Recursion.{or_is}
use Rattle.tuples.proofs.Regions.{is_outside, some_outside, region_is}
use Rattle.tuples.proofs.header.stores_region.Goals as goal

-- what the walk over the axes answers
found : (r : Bool) (xs : List (ℤ × (ℤ × ℤ))) → MatchBool r ((k : ℕ) × (k < length xs) × HoldsAt (λ x. is_outside x ≡ true) xs k) (AllWithin (λ x. is_outside x ≡ false) xs 0 (length xs)) → r ≡ some_outside xs
found true xs h = or_is some_outside is_outside refl (λ _ _. refl) xs (pos 0, (pos 0, pos 0)) true (λ e. (h.0, h.1, h.2 (pos 0, (pos 0, pos 0)))) (λ e. absurd (false≢true (sym e)))
found false xs h = or_is some_outside is_outside refl (λ _ _. refl) xs (pos 0, (pos 0, pos 0)) false (λ e. absurd (false≢true e)) (λ e i l. h i (pos 0, (pos 0, pos 0)) (omega arith) l)

pub returns : goal.returns
returns c =
    let ps = c.args.peak.now in
    let ss = c.args.start.now in
    let es = c.args.end.now in
    found _ (zip ps (zip ss es))
    (cases_from_any c.any.new.self _ c.any.result (λ x. is_outside x ≡ true) (λ x. is_outside x ≡ false)
    c.any.ensures.ran
    (YieldsList-from_zip (YieldsList-from_slice ps cc) (YieldsList-from_zip (YieldsList-from_slice ss cc) (YieldsList-from_slice es cc)))
    (λ x q k. search (rules, tests))
    (λ x q k. search (rules, tests)))
    ∙ region_is ps ss es
