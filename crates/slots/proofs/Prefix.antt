-- What was given in front of what is ahead.
use Rattle.std.proofs.Common.{◌≡◌, List, [], ◌∷◌, ◌++◌, sym, refl, ap, append_assoc}
use Rattle.format.specs.Streams.{Rest, rest, Read, found, fault, and_then}
use Rattle.streams.specs.Ahead.{one_more}

-- values in front of what is read
abbrev pub prefixed : {X : Type 0} → List X → Read (Rest (List X)) → Read (Rest (List X))
prefixed xs r = and_then r (λ s. found (rest (xs ++ s.value) s.left s.place))

module _ {X : Type 0} where
  pub prefixed_none : (r : Read (Rest (List X))) → r ≡ prefixed [] r
  prefixed_none (found s) = refl
  prefixed_none (fault e) = refl

  pub prefixed_more : (xs : List X) (x : X) (r : Read (Rest (List X))) → prefixed xs (one_more x r) ≡ prefixed (xs ++ (x ∷ [])) r
  prefixed_more xs x (found s) = ap (λ ys. found (rest ys s.left s.place)) (sym (append_assoc xs (x ∷ []) s.value))
  prefixed_more xs x (fault e) = refl
