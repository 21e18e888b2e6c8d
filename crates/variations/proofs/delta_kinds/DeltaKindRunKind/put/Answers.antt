use Rattle.std.proofs.Common.{◌≡◌, true, [], ◌∷◌, take, drop, ap, ◌∙◌, w16, of_z, rules}
use Rattle.format.specs.Bytes.{word, bits8, bits16}
use Rattle.write.proofs.Feeding.{fed_whole}
use Rattle.variations.specs.DeltaForm.{is_byte_value}
use Rattle.variations.proofs.DeltaBytes.{of_z_bits, low_bits}
use Rattle.variations.proofs.delta_kinds.DeltaKindRunKind.put.Goals as goal

pub returns-in-Bytes : goal.returns-in-Bytes
returns-in-Bytes g c h =
    let v = c.args.value in
    let small : is_byte_value v ≡ true = rw c.in-Bytes.is at h in
    let is : c.to_be_bytes-bytes.result ≡ word (of_z w16 v) = search rules in
    let low : take 1 (drop 1 c.to_be_bytes-bytes.result) ≡ bits8 v ∷ [] = ap (λ l. take 1 (drop 1 l)) is ∙ ap (λ n. n ∷ []) (low_bits v small) in
    rw c.in-Bytes.is (fed_whole c.take.result (rw low at c.take.ensures))

pub returns-in-Words : goal.returns-in-Words
returns-in-Words g c h =
    let v = c.args.value in
    let is : c.to_be_bytes-bytes.result ≡ word (of_z w16 v) = search rules in
    let both : c.to_be_bytes-bytes.result ≡ word (bits16 v) = is ∙ ap word (of_z_bits v) in
    rw c.in-Words.is (fed_whole c.take-in-Words.result (rw both at c.take-in-Words.ensures))
