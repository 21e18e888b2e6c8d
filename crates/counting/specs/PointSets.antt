-- The point sets of a span of a set's variations, and their hashes.
use Rattle.std.specs.Prelude.{◌≡◌, ℕ, ◌+◌, ◌-◌, ◌*◌, ◌<◌, Bool, true, false, List, [], ◌∷◌, length, get_or, take, drop, pos, Decides, fold, nat_eq, slice_index_or, refl}
use Rattle.std.proofs.Common.{ap, subst}
use Rattle.std.proofs.lemmas.Bool.{eq-eqb}
use Rattle.format.specs.Account.{Glyph, Variation}
use Rattle.format.specs.Bytes.{same_list}
use Rattle.format.specs.Glyphs.{point_sets, same_points, same_set}
use Rattle.format.specs.Packed.{Points, every, only, packed_points}
use Rattle.format.proofs.Alike.{same_sets}
use Rattle.counts.specs.Hashes.{mix}
use Rattle.counts.specs.Sameness.{Sameness, sameness_by_key}
use Rattle.sets.specs.declared.view.Span.{Span}
use Rattle.sets.specs.Views.{all_variations}
use Rattle.variations.specs.declared.delta.GlyphDelta.{GlyphDelta}

-- the variations of a span
abbrev pub spanned : List Glyph → Span → List Variation
spanned gs p = take p.count (drop p.first (all_variations gs))

-- the points that the table stores of each
abbrev pub sets_of : List Glyph → Span → List Points
sets_of gs p = point_sets (spanned gs p)

-- a hash with one point more, and the hash of a point set
abbrev pub mix_point : ℕ → ℕ → ℕ
mix_point h p = mix h (p + 1)

abbrev pub hash_of : Points → ℕ
hash_of every = 0
hash_of (only ps) = fold mix_point 0 ps

-- the score of a class of k point sets, whose first is point set c
abbrev pub worth_of : List Points → ℕ → ℕ → ℕ
worth_of ps c k = (k - 1) * length (packed_points (slice_index_or ps c every))

-- stands for a delta that there is not
abbrev pub no_delta : GlyphDelta
no_delta = record { x = pos 0; y = pos 0; required = false }

-- whether point i is required; none past the last is
abbrev pub required_at : List GlyphDelta → ℕ → Bool
required_at ds i = (get_or ds i no_delta).required

-- a list of points is the same as itself
pub points_itself : (ps : List ℕ) → same_list nat_eq ps ps ≡ true
points_itself [] = refl
points_itself (p ∷ ps) = rw (eq-eqb p p refl, points_itself ps)

-- point sets are the same exactly if they are equal
pub sets_itself : (p : Points) → same_points p p ≡ true
sets_itself every = refl
sets_itself (only ps) = points_itself ps

pub sets_decide : (p q : Points) → Decides (same_points p q) (p ≡ q)
sets_decide p q = (λ e. same_sets p q e, λ e. subst (λ (r : Points). same_points p r ≡ true) e (sets_itself p))

pub sets_sameness : (ps : List Points) (n : ℕ) → Sameness (same_set ps) n
sets_sameness ps n = sameness_by_key (λ i. get_or ps i every) (same_set ps) n (λ i j. sets_decide (slice_index_or ps i every) (slice_index_or ps j every))

-- and then their hashes are
pub sets_agree : (ps : List Points) (n i j : ℕ) → i < n → j < n → same_set ps i j ≡ true → hash_of (slice_index_or ps i every) ≡ hash_of (slice_index_or ps j every)
sets_agree ps n i j _ _ e = ap hash_of ((sets_decide (slice_index_or ps i every) (slice_index_or ps j every)).0 e)
