use Rattle.std.proofs.Common.{◌≡◌, ℕ, ◌+◌, ◌<◌, Bool, true, false, MatchBool, List, length, refl, sym, ap, ◌∙◌, subst, arith, rules, tests}
use Rattle.std.specs.List.{AllWithin, HoldsAt, range_with_len}
use Rattle.std.proofs.lemmas.Iterator.{cases_from_all, YieldsList-from_range}
use Rattle.std.proofs.lemmas.List.FromFn.{length-range_with_len, get_or-range_with_len}
use Rattle.format.specs.Account.{Glyph, begun}
use Rattle.format.specs.Bytes.{all}
use Rattle.format.specs.Glyphs.{listed}
use Rattle.sets.specs.OfSet.{stores, sound_of, glyphs_of}
use Rattle.sets.proofs.Full.{glyphs_long, listed_all, listed_not}
use Rattle.sets.proofs.set.Set.all_begun.Goals as goal

module _ (gs : List Glyph) (n : ℕ) where
  abbrev numbers : List ℕ
  numbers = range_with_len 0 n

  tested : (r : Bool) →
      MatchBool r (AllWithin (λ x. true ≡ begun x gs) numbers 0 (length numbers)) ((k : ℕ) × (k < length numbers) × HoldsAt (λ x. false ≡ begun x gs) numbers k) →
      r ≡ all (λ x. begun x gs) (listed 0 n (λ x. x))
  tested true h =
      let e = length-range_with_len 0 n in
      listed_all (λ x. begun x gs) 0 n (λ j a l. let z : 0 + j ≡ j = omega arith in subst (λ (x : ℕ). true ≡ begun x gs) (get_or-range_with_len 0 n j 0 (omega arith) ∙ z) (h j 0 a (omega arith)))
  tested false h =
      let e = length-range_with_len 0 n in
      let z : 0 + h.0 ≡ h.0 = omega arith in
      listed_not (λ x. begun x gs) 0 n h.0 (omega arith) (omega (arith, h.1)) (subst (λ (x : ℕ). false ≡ begun x gs) (get_or-range_with_len 0 n h.0 0 (omega (arith, h.1)) ∙ z) (h.2 0))

pub returns : goal.returns
returns c =
    let s = c.args.self.now in
    let gs = glyphs_of s in
    tested gs s.begun c.all.result
    (cases_from_all _ _ _ (λ x. true ≡ begun x gs) (λ x. false ≡ begun x gs) c.all.ensures.ran (YieldsList-from_range 0 s.begun s.begun refl (omega arith))
    (λ x q k. search (rules, tests)) (λ x q k. search (rules, tests)))
    ∙ ap (λ (m : ℕ). all (λ x. begun x gs) (listed 0 m (λ x. x))) (sym (glyphs_long (stores s) (sound_of s)))
