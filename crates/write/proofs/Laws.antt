-- The laws of `Handed`: what the proofs of sinks and of pieces use of it.
use Rattle.std.proofs.Common.{◌≡◌, ℕ, ◌+◌, ◌-◌, ◌<◌, ◌≤◌, List, [], ◌∷◌, ◌++◌, length, drop, Ok, Err, fold, sym, refl, ap, ◌∙◌, arith, length-append, drop-drop}
use Rattle.write.specs.declared.sink.SinkError.TheVariants.{Full}
use Rattle.write.specs.Sinks.{Standing, Step, Handed}

pub folded_append : (step : Step) (xs ys s : List ℕ) → fold step s (xs ++ ys) ≡ fold step (fold step s xs) ys
folded_append step [] ys s = refl
folded_append step (x ∷ xs) ys s = folded_append step xs ys (step s x)

-- nothing handed over
pub handed_none : {step : Step} {a : Standing} → Handed step [] a a (Ok tt)
handed_none = record { outcome = (omega arith, omega arith, refl, refl, refl) }

-- a sink without the allowance refuses, and stays as it is
pub handed_full : {step : Step} {bs : List ℕ} {a : Standing} → a.allowance < length bs → Handed step bs a a (Err Full)
handed_full h = record { outcome = (h, refl) }

-- the bytes taken: what a sink shows
pub handed_all :
    {step : Step} {bs : List ℕ} {a b : Standing}
    → length bs ≤ a.allowance
    → b.allowance ≡ a.allowance - length bs
    → b.state ≡ fold step a.state bs
    → b.beyond ≡ drop (length bs) a.beyond
    → b.lent ≡ a.lent
    → Handed step bs a b (Ok tt)
handed_all h e f d n = record { outcome = (h, e, f, d, n) }

-- the allowance after bytes were taken
pub handed_allowance : {step : Step} {bs : List ℕ} {a b : Standing} → Handed step bs a b (Ok tt) → b.allowance + length bs ≡ a.allowance
handed_allowance h = omega (arith, h.outcome.0, h.outcome.1)

-- ys after xs
pub handed_both : {step : Step} {xs ys : List ℕ} {a b c : Standing} → Handed step xs a b (Ok tt) → Handed step ys b c (Ok tt) → Handed step (xs ++ ys) a c (Ok tt)
handed_both {step} {xs} {ys} {a} {b} {c} h k =
    let e = length-append xs ys in
    handed_all
    (omega (arith, handed_allowance h, handed_allowance k))
    (omega (arith, handed_allowance h, handed_allowance k))
    (k.outcome.2 ∙ ap (λ s. fold step s ys) h.outcome.2 ∙ sym (folded_append step xs ys a.state))
    (k.outcome.3 ∙ ap (drop (length ys)) h.outcome.3 ∙ drop-drop (length ys) (length xs) a.beyond ∙ ap (λ n. drop n a.beyond) (sym e))
    (k.outcome.4 ∙ h.outcome.4)
