-- What holds of a reading's outcome, either of what is found or of the fault, part by part.
use Rattle.std.proofs.Common.{◌≡◌, Bool, true, false, cond, refl, subst}
use mathlib.Core.Option.{Option, none, some}
use Rattle.format.specs.Account.{Declined}
use Rattle.format.specs.Streams.{Read, found, fault, and_then, fault_if}
use Rattle.format.specs.Reader.{unless}

abbrev pub Outcome : {X : Type 0} → (X → Type 0) → (Declined → Type 0) → Read X → Type 0
Outcome F D (found x) = F x
Outcome F D (fault d) = D d

pub of_found : {X : Type 0} (F : X → Type 0) (D : Declined → Type 0) (r : Read X) (x : X) → Outcome F D r → r ≡ found x → F x
of_found F D r x h e = subst (Outcome F D) e h

pub of_fault : {X : Type 0} (F : X → Type 0) (D : Declined → Type 0) (r : Read X) (d : Declined) → Outcome F D r → r ≡ fault d → D d
of_fault F D r d h e = subst (Outcome F D) e h

pub outcome_then :
    {X Y : Type 0} (F : X → Type 0) (G : Y → Type 0) (D E : Declined → Type 0) (r : Read X) (f : X → Read Y) →
    Outcome F D r → ((d : Declined) → D d → E d) → ((x : X) → F x → Outcome G E (f x)) → Outcome G E (and_then r f)
outcome_then F G D E (found x) f h e k = k x h
outcome_then F G D E (fault d) f h e k = e d h

pub outcome_weaker : {X : Type 0} (F G : X → Type 0) (D : Declined → Type 0) (r : Read X) → Outcome F D r → ((x : X) → F x → G x) → Outcome G D r
outcome_weaker F G D (found x) h k = k x h
outcome_weaker F G D (fault d) h k = h

module _ {X : Type 0} (F : X → Type 0) (D : Declined → Type 0) where
  pub outcome_if : (b : Bool) (d : Declined) (r : Read X) → (b ≡ true → D d) → (b ≡ false → Outcome F D r) → Outcome F D (fault_if b d r)
  outcome_if true d r h k = h refl
  outcome_if false d r h k = k refl

  pub outcome_cond : (b : Bool) (r s : Read X) → (b ≡ true → Outcome F D r) → (b ≡ false → Outcome F D s) → Outcome F D (cond b r s)
  outcome_cond true r s h k = h refl
  outcome_cond false r s h k = k refl

  pub outcome_unless : (o : Option Declined) (r : Read X) → ((d : Declined) → o ≡ some d → D d) → (o ≡ none → Outcome F D r) → Outcome F D (unless o r)
  outcome_unless none r h k = k refl
  outcome_unless (some d) r h k = h d refl
