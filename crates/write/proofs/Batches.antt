-- What a batch of at most N bytes stands at when it has taken bytes.
use Rattle.std.proofs.Common.{◌≡◌, ℕ, ◌-◌, ◌≤◌, List, [], ◌++◌, length, Ok, Err, sym, refl, ap, ◌∙◌, arith, length-append}
use lib.Seq.{drop-nil}
use Rattle.write.specs.declared.sink.SinkError.{SinkError}
use Rattle.write.specs.declared.sink.SinkError.TheVariants.{Full}
use Rattle.write.specs.Sinks.{Standing, Step, Handed, Fed, Reply}
use Rattle.write.specs.Steps.{kept}
use Rattle.write.proofs.Folds.{folded_kept}
use Rattle.write.proofs.Laws.{handed_all}

-- a batch that holds xs
abbrev pub batch_of : ℕ → List ℕ → Standing
batch_of N xs = record { allowance = N - length xs; state = xs; beyond = []; lent = [] }

-- where there is room, the new bytes come after those taken before
pub gathered : (N : ℕ) (xs bs ys : List ℕ) → ys ≡ xs ++ bs → length bs ≤ N - length xs → Handed kept bs (batch_of N xs) (batch_of N ys) (Ok tt)
gathered N xs bs ys e fits =
    handed_all
    fits
    (omega (arith, ap length e, length-append xs bs))
    (e ∙ sym (folded_kept bs xs))
    (sym (drop-nil (length bs)))
    refl

-- bytes that fit are all taken, after those taken before
pub kept_fits : {bs : List ℕ} {a b : Standing} (r : Reply) → length bs ≤ a.allowance → Fed kept bs a b r → (r ≡ Ok tt) × (b.state ≡ a.state ++ bs)
kept_fits {bs} {a} (Ok u) fits f = (refl, f.outcome.outcome.2 ∙ folded_kept bs a.state)
kept_fits (Err Full) fits f = absurd (omega (arith, fits, f.outcome.0))

-- and so a sink with room for them never refuses
pub kept_never_full : {step : Step} {bs : List ℕ} {a b : Standing} (e : SinkError) → length bs ≤ a.allowance → Fed step bs a b (Err e) → ⊥
kept_never_full Full fits f = omega (arith, fits, f.outcome.0)

-- What a new batch shows once bytes that fit it were fed to it, and that it took them all.

pub fresh_shows : {N : ℕ} {fresh filled shown bs : List ℕ} → fresh ≡ [] → length bs ≤ N → Fed kept bs (batch_of N fresh) (batch_of N filled) (Ok tt) → shown ≡ filled → shown ≡ bs
fresh_shows {N} {fresh} {filled} {shown} {bs} e fits f s =
    s ∙ (kept_fits (Ok tt) (omega (arith, ap length e, fits)) f).1 ∙ ap (λ l. l ++ bs) e

pub fresh_never_full : {N : ℕ} {fresh bs : List ℕ} {b : Standing} (e : SinkError) → fresh ≡ [] → length bs ≤ N → Fed kept bs (batch_of N fresh) b (Err e) → ⊥
fresh_never_full e is fits f = kept_never_full e (omega (arith, ap length is, fits)) f
