use Rattle.std.proofs.Common.{◌≡◌, ◌≤◌, ◌/◌, ◌%◌, true, [], ◌∷◌, take, drop, ap, ◌∙◌, arith}
use Rattle.std.proofs.lemmas.Bool.{not-true, ltb-false}
use Rattle.format.specs.Bytes.{word}
use Rattle.format.specs.Packed.{is_wide, same_class}
use Rattle.write.proofs.Feeding.{fed_whole}
use Rattle.kinds.specs.declared.point.PointKind.TheVariants.{Bytes}
use Rattle.variations.specs.GapForm.{meant}
use Rattle.variations.proofs.gap_kinds.PointKindRunKind.put.Goals as goal

pub returns-in-Bytes : goal.returns-in-Bytes
returns-in-Bytes g c h =
    let own : same_class (meant Bytes) c.args.gap ≡ true = rw c.in-Bytes.is at h in
    let short : c.args.gap ≤ 255 = ltb-false 255 c.args.gap (not-true (is_wide c.args.gap) own) in
    let low : take 1 (drop 1 c.to_be_bytes-bytes.result) ≡ c.args.gap ∷ [] = ap (λ l. take 1 (drop 1 l)) c.to_be_bytes-bytes.ensures ∙ ap (λ n. n ∷ []) (omega arith) in
    rw c.in-Bytes.is (fed_whole c.take.result (rw low at c.take.ensures))

pub returns-in-Words : goal.returns-in-Words
returns-in-Words g c h =
    let gap = c.args.gap in
    let high : gap % 65536 / 256 % 256 ≡ gap / 256 % 256 = omega arith in
    let low : gap % 65536 % 256 ≡ gap % 256 = omega arith in
    let both : c.to_be_bytes-bytes.result ≡ word gap = c.to_be_bytes-bytes.ensures ∙ ap (λ n. n ∷ (gap % 65536 % 256) ∷ []) high ∙ ap (λ n. (gap / 256 % 256) ∷ n ∷ []) low in
    rw c.in-Words.is (fed_whole c.take-in-Words.result (rw both at c.take-in-Words.ensures))
