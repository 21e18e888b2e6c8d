-- All tents of a variation, as three lists over the axes.
use Rattle.std.specs.Prelude.{Bool, not, List, [], ◌∷◌, ℤ}
use Rattle.format.specs.Account.{Tent}
use Rattle.format.specs.Bytes.{all}
use Rattle.format.specs.Glyphs.{bounds_implied}

-- the tents of the axes that have a peak, a start and an end
abbrev pub tents_from : List ℤ → List ℤ → List ℤ → List Tent
tents_from [] ss es = []
tents_from (p ∷ ps) [] es = []
tents_from (p ∷ ps) (s ∷ ss) [] = []
tents_from (p ∷ ps) (s ∷ ss) (e ∷ es) = record { peak = p; start = s; end = e } ∷ tents_from ps ss es

-- is there an axis whose bounds are not those implied by its peak?
abbrev pub some_region : List ℤ → List ℤ → List ℤ → Bool
some_region ps ss es = not (all bounds_implied (tents_from ps ss es))
