-- One byte more of a text.
use Rattle.std.proofs.Common.{◌≡◌, ℕ, ◌+◌, ◌-◌, ◌^◌, ◌<◌, List, [], ◌∷◌, ◌++◌, true, false, length, get_or, take, flat_map, ap, sym, ◌∙◌}
use Rattle.std.specs.Fmt.{digits, padded_integral, format_spec}
use Rattle.std.proofs.lemmas.Fmt.{hex_byte}
use Rattle.std.proofs.lemmas.List.{take_more, flat_map_more}
use Rattle.printed.specs.Texts.{byte_text}

pub byte_more : (bs : List ℕ) (i : ℕ) → i < length bs → get_or bs i 0 < 256 → flat_map byte_text (take i bs) ++ (32 ∷ padded_integral (format_spec 32 0 4 2 (2 ^ 64 - 1)) false [] (digits 16 true (get_or bs i 0))) ≡ flat_map byte_text (take (i + 1) bs)
byte_more bs i within small =
    ap (λ t. flat_map byte_text (take i bs) ++ (32 ∷ t)) (hex_byte true (get_or bs i 0) small)
    ∙ flat_map_more byte_text [] (take i bs) (get_or bs i 0)
    ∙ ap (flat_map byte_text) (sym (take_more bs i 0 within))
