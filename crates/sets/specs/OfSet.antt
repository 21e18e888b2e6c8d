-- The stores of a set, and the account that it holds.
use Rattle.std.specs.Prelude.{◌≡◌, List, [], ◌∷◌, Ok, Err, Result}
use Rattle.format.specs.Account.{Account, Glyph}
use Rattle.sets.specs.declared.refusal.Refusal.{Refusal}
use Rattle.sets.specs.declared.set.Set.{Set}
use Rattle.sets.specs.Layout.{Stores, Lent, account_in, lent_in}
use Rattle.sets.specs.Sound.{Sound}

-- what the lent slices of a set hold, and its counts
abbrev pub stores : Set → Stores
stores s = record {
  axes = s.axes.count;
  names = s.glyphs.ghost_name ∷ s.variations.ghost_name ∷ s.values.ghost_name ∷ s.deltas.ghost_name ∷ [];
  glyphs = s.glyphs.now;
  variations = s.variations.now;
  values = s.values.now;
  deltas = s.deltas.now;
  begun = s.begun;
  added = s.added;
  moved = s.moved;
}

-- the account that a set holds
abbrev pub account_of : Set → Account
account_of s = account_in (stores s)

-- its glyphs
abbrev pub glyphs_of : Set → List Glyph
glyphs_of s = (account_of s).glyphs

-- what the lender knows of its stores
abbrev pub lent_of : Set → Lent
lent_of s = lent_in (stores s)

-- what every set keeps
abbrev pub sound_of : (s : Set) → Sound (stores s)
sound_of s = record { within = s.within; counted = s.counted; placed = s.placed; chained = s.chained; numbered = s.numbered; few = s.few; chosen = s.chosen; short = s.short }

-- a refused call leaves the stores and all counts as they were
abbrev pub SameWhereRefused : Result (Unit {0}) Refusal → Set → Set → Type 0
SameWhereRefused (Ok u) before after = Unit {0}
SameWhereRefused (Err e) before after = stores after ≡ stores before
