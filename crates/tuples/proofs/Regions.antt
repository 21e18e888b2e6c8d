-- Axis by axis: whether some tent has bounds that its peak does not imply.
use Rattle.std.proofs.Common.{◌≡◌, Bool, true, false, not, ◌&&◌, ◌||◌, List, [], ◌∷◌, ℤ, refl, ap, ◌∙◌}
use Rattle.std.specs.List.{zip}
use Rattle.format.specs.Bytes.{all}
use Rattle.format.specs.Glyphs.{bounds_implied}
use Rattle.tuples.specs.Tents.{tents_from, some_region}

-- of one axis: a peak, a start and an end
abbrev pub is_outside : ℤ × (ℤ × ℤ) → Bool
is_outside x = not (bounds_implied (record { peak = x.0; start = x.1.0; end = x.1.1 }))

abbrev pub some_outside : List (ℤ × (ℤ × ℤ)) → Bool
some_outside [] = false
some_outside (x ∷ xs) = is_outside x || some_outside xs

not_both : (a b : Bool) → (not a || not b) ≡ not (a && b)
not_both true b = refl
not_both false b = refl

pub region_is : (ps ss es : List ℤ) → some_outside (zip ps (zip ss es)) ≡ some_region ps ss es
region_is [] ss es = refl
region_is (p ∷ ps) [] es = refl
region_is (p ∷ ps) (s ∷ ss) [] = refl
region_is (p ∷ ps) (s ∷ ss) (e ∷ es) =
    let t = bounds_implied (record { peak = p; start = s; end = e }) in
    ap (λ b. not t || b) (region_is ps ss es) ∙ not_both t (all bounds_implied (tents_from ps ss es))
