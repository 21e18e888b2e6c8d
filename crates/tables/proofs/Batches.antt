-- Bytes that are held back before they go to a sink, and what is handed over of them.
use Rattle.std.proofs.Common.{◌≡◌, ℕ, List, [], ◌++◌, Err, sym, refl, ap, ◌∙◌, subst, append_assoc, append-nil}
use Rattle.write.specs.declared.sink.SinkError.{SinkError}
use Rattle.write.specs.Sinks.{Standing, Step, Reply, Part, Fed}
use Rattle.write.proofs.Laws.{handed_none}
use Rattle.write.proofs.Feeding.{fed_then, part_more, part_stop}

-- Bytes held back stand before the rest.

module _ {step : Step} {whole : List ℕ} {a b : Standing} (held rest : List ℕ) (p : Part step whole (held ++ rest) a b) where
  -- part of what is held is handed over
  pub held_emptied : (held' : List ℕ) {c : Standing} → Part step held held' b c → Part step whole (held' ++ rest) a c
  held_emptied held' q = part_more q.done (held' ++ rest) (ap (λ l. l ++ rest) (sym q.split) ∙ append_assoc q.done held' rest) p q.handed

  -- what is held does not fit
  pub held_stop : {c : Standing} (e : SinkError) → Fed step held b c (Err e) → Fed step whole a c (Err e)
  held_stop e f = part_stop held rest refl p e f

  -- a front of the rest is held too
  pub held_more : (held' xs rest' : List ℕ) → rest ≡ xs ++ rest' → held' ≡ held ++ xs → Part step whole (held' ++ rest') a b
  held_more held' xs rest' e f =
      part_more [] (held' ++ rest') (ap (λ l. held ++ l) e ∙ sym (append_assoc held xs rest') ∙ ap (λ l. l ++ rest') (sym f)) p handed_none

-- what is held is all that is left
pub held_last : {step : Step} {whole : List ℕ} {a b c : Standing} (held : List ℕ) → Part step whole (held ++ []) a b → (r : Reply) → Fed step held b c r → Fed step whole a c r
held_last {step} {whole} {a} {b} {c} held p r f =
    let all : p.done ++ held ≡ whole = ap (λ l. p.done ++ l) (sym (append-nil held)) ∙ p.split in
    subst (λ bs. Fed step bs a c r) all (fed_then r p.handed f)
