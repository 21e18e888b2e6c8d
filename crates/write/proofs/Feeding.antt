-- The laws of `Fed` and of `Part`: bytes handed over part by part.
use Rattle.std.proofs.Common.{◌≡◌, ℕ, ◌≤◌, List, [], ◌++◌, length, Ok, Err, sym, refl, ap, ◌∙◌, subst, append_assoc, append-nil, arith, length-append}
use Rattle.std.specs.Result.{IsErrAnd}
use Rattle.std.proofs.lemmas.Result.{err_from_is_err_and}
use Rattle.write.specs.declared.sink.SinkError.{SinkError}
use Rattle.write.specs.declared.sink.SinkError.TheVariants.{Full}
use Rattle.write.specs.Sinks.{Standing, Step, Reply, Handed, Part, Fed}
use Rattle.write.proofs.Laws.{handed_none, handed_allowance, handed_both}

-- the same bytes in other words
pub fed_as : {step : Step} {parts whole : List ℕ} {a b : Standing} {r : Reply} → parts ≡ whole → Fed step parts a b r → Fed step whole a b r
fed_as {step} {parts} {whole} {a} {b} {r} e f = subst (λ bs. Fed step bs a b r) e f

-- a refusal that a `?` passes on
pub fed_refused : {step : Step} {bs : List ℕ} {a b : Standing} {e : SinkError} (r : Reply) → IsErrAnd r (λ f. f ≡ e) → Fed step bs a b (Err e) → Fed step bs a b r
fed_refused {step} {bs} {a} {b} {e} r q f = let k = err_from_is_err_and r q in subst (Fed step bs a b) (sym (k.1 ∙ ap Err k.2)) f

-- one hand-over is a feeding of one part
pub fed_whole : {step : Step} {bs : List ℕ} {a b : Standing} (r : Reply) → Handed step bs a b r → Fed step bs a b r
fed_whole (Ok u) h = record { outcome = h }
fed_whole {step} {bs} {a} {b} (Err Full) h =
    let part : Part step bs bs a b = record { done = []; split = refl; handed = subst (λ s. Handed step [] a s (Ok tt)) (sym h.outcome.1) handed_none } in
    record { outcome = (h.outcome.0, (bs, part)) }

-- where there is the allowance, a feeding hands over all
pub fed_fits : {step : Step} {bs : List ℕ} {a b : Standing} (r : Reply) → length bs ≤ a.allowance → Fed step bs a b r → Handed step bs a b r
fed_fits (Ok u) fits f = f.outcome
fed_fits (Err Full) fits f = absurd (omega (arith, f.outcome.0))

-- ys fed after xs was handed over
pub fed_then : {step : Step} {xs ys : List ℕ} {a b c : Standing} (r : Reply) → Handed step xs a b (Ok tt) → Fed step ys b c r → Fed step (xs ++ ys) a c r
fed_then (Ok u) h f = record { outcome = handed_both h f.outcome }
fed_then {step} {xs} {ys} {a} {b} {c} (Err Full) h f =
    let p = f.outcome.1.1 in
    let part : Part step (xs ++ ys) f.outcome.1.0 a c =
    record { done = xs ++ p.done; split = append_assoc xs p.done f.outcome.1.0 ∙ ap (λ l. xs ++ l) p.split; handed = handed_both h p.handed } in
    record { outcome = (omega (arith, length-append xs ys, handed_allowance h, f.outcome.0), (f.outcome.1.0, part)) }

-- xs did not fit, and so xs and ys did not
pub fed_stop : {step : Step} {xs : List ℕ} (ys : List ℕ) {a b : Standing} (e : SinkError) → Fed step xs a b (Err e) → Fed step (xs ++ ys) a b (Err e)
fed_stop {step} {xs} ys {a} {b} Full f =
    let p = f.outcome.1.1 in
    let rest = f.outcome.1.0 in
    let part : Part step (xs ++ ys) (rest ++ ys) a b =
    record { done = p.done; split = sym (append_assoc p.done rest ys) ∙ ap (λ l. l ++ ys) p.split; handed = p.handed } in
    record { outcome = (omega (arith, length-append xs ys, f.outcome.0), (rest ++ ys, part)) }

-- A loop that feeds: at first nothing is done, then a part more each turn, until nothing is left or a part does not fit.

pub part_none : {step : Step} {whole : List ℕ} {a : Standing} → Part step whole whole a a
part_none = record { done = []; split = refl; handed = handed_none }

module _ {step : Step} {whole rest : List ℕ} {a b : Standing} (xs rest' : List ℕ) (e : rest ≡ xs ++ rest') (p : Part step whole rest a b) where
  split_again : p.done ++ (xs ++ rest') ≡ whole
  split_again = ap (λ l. p.done ++ l) (sym e) ∙ p.split

  pub part_more : {c : Standing} → Handed step xs b c (Ok tt) → Part step whole rest' a c
  part_more h = record { done = p.done ++ xs; split = append_assoc p.done xs rest' ∙ split_again; handed = handed_both p.handed h }

  pub part_stop : {c : Standing} (f : SinkError) → Fed step xs b c (Err f) → Fed step whole a c (Err f)
  part_stop {c} f h = subst (λ bs. Fed step bs a c (Err f)) split_again (fed_then (Err f) p.handed (fed_stop rest' f h))

pub part_done : {step : Step} {whole rest : List ℕ} {a b : Standing} → rest ≡ [] → Part step whole rest a b → Fed step whole a b (Ok tt)
part_done {step} {whole} {rest} {a} {b} e p =
    let all : p.done ≡ whole = sym (append-nil p.done) ∙ ap (λ l. p.done ++ l) (sym e) ∙ p.split in
    record { outcome = subst (λ bs. Handed step bs a b (Ok tt)) all p.handed }
