-- A stream stays inside its bytes: at once, and after bytes that stand before it.
use Rattle.std.proofs.Common.{◌≡◌, ℕ, ◌+◌, List, [], ◌∷◌, ◌++◌, length, refl, ap, ◌∙◌, subst, append_assoc, arith, length-append}
use Rattle.format.specs.Account.{Declined}
use Rattle.format.specs.Streams.{Rest, rest}
use Rattle.format.specs.Found.{Stays, FailsInside}
use Rattle.format.proofs.Fronts.{OffTheFront}

pub stays_at : {X : Type 0} (x : X) (bs : List ℕ) (at : ℕ) → Stays bs at (rest x bs at)
stays_at x bs at = record { used = []; used_then_left = refl; moved_by_used = omega arith }

pub fails_at : (d : ℕ → ℕ → Declined) (number : ℕ) (bs : List ℕ) (at : ℕ) → FailsInside d number bs at (d number at)
fails_at d number bs at = record { place = at; declines = refl; not_before = omega arith; not_past = omega arith }

-- what is left ends where all the bytes do
pub stays_ends : {X : Type 0} (bs : List ℕ) (at : ℕ) (s : Rest X) → Stays bs at s → s.place + length s.left ≡ at + length bs
stays_ends bs at s h = omega (arith, h.moved_by_used, length-append h.used s.left, ap length h.used_then_left)

-- after bytes that stand before

pub stays_within :
    {X Y : Type 0} (front bs : List ℕ) (at j : ℕ) (s : Rest X) (y : Y) → length front ≡ j →
    Stays bs (at + j) s → Stays (front ++ bs) at (rest y s.left s.place)
stays_within front bs at j s y e h =
    record {
      used = front ++ h.used;
      used_then_left = append_assoc front h.used s.left ∙ ap (λ (l : List ℕ). front ++ l) h.used_then_left;
      moved_by_used = omega (arith, length-append front h.used, h.moved_by_used);
    }

pub fails_within :
    (d : ℕ → ℕ → Declined) (number : ℕ) (front bs : List ℕ) (at j : ℕ) (x : Declined) → length front ≡ j →
    FailsInside d number bs (at + j) x → FailsInside d number (front ++ bs) at x
fails_within d number front bs at j x e h =
    record {
      place = h.place;
      declines = h.declines;
      not_before = omega (arith, h.not_before);
      not_past = omega (arith, h.not_past, length-append front bs);
    }

-- after the control byte c and the n items of its run

module _ {Z : Type 0} (c n size : ℕ) (bs : List ℕ) (items : List Z) (left : List ℕ) (at : ℕ) (f : OffTheFront n size bs items left) where
  pub stays_after : {X Y : Type 0} (s : Rest X) (y : Y) → Stays left (at + (1 + size)) s → Stays (c ∷ bs) at (rest y s.left s.place)
  stays_after s y h =
      subst (λ (b : List ℕ). Stays (c ∷ b) at (rest y s.left s.place)) f.used_then_left
      (stays_within (c ∷ f.used) left at (1 + size) s y (omega (arith, f.as_many_bytes)) h)

  pub fails_after : (d : ℕ → ℕ → Declined) (number : ℕ) (x : Declined) → FailsInside d number left (at + (1 + size)) x → FailsInside d number (c ∷ bs) at x
  fails_after d number x h =
      subst (λ (b : List ℕ). FailsInside d number (c ∷ b) at x) f.used_then_left
      (fails_within d number (c ∷ f.used) left at (1 + size) x (omega (arith, f.as_many_bytes)) h)
