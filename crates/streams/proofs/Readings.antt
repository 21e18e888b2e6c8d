-- What is ahead as one reading, and what follows the bytes that were read.
use Rattle.std.proofs.Common.{◌≡◌, ℕ, ◌+◌, Bool, true, false, List, [], ◌∷◌, ◌++◌, drop, sym, refl, ap, ◌∙◌, drop-drop}
use Rattle.format.specs.Account.{Declined}
use Rattle.format.specs.Streams.{Rest, rest, Read, found, fault, fault_if, and_then}
use Rattle.streams.specs.declared.fault.StreamFault.{StreamFault}
use Rattle.streams.specs.Faults.{stream_declined}
use Rattle.streams.specs.Ahead.{Ahead, ends, fails, give_all, fails_if, one_more, read_ahead}

module _ {X : Type 0} where
  -- a whole stream and a faulty one, as readings
  pub read_all : (d : ℕ → ℕ → Declined) (bs : List ℕ) (xs : List X) (past : ℕ) → read_ahead d bs (give_all xs (ends past)) ≡ found (rest xs (drop past bs) past)
  read_all d bs [] past = refl
  read_all d bs (x ∷ xs) past = ap (one_more x) (read_all d bs xs past)

  pub read_none : (d : ℕ → ℕ → Declined) (bs : List ℕ) (xs : List X) (f : StreamFault) → read_ahead d bs (give_all xs (fails f)) ≡ fault (stream_declined d f)
  read_none d bs [] f = refl
  read_none d bs (x ∷ xs) f = ap (one_more x) (read_none d bs xs f)

  pub read_if : (d : ℕ → ℕ → Declined) (bs : List ℕ) (b : Bool) (f : StreamFault) (a : Ahead X) → read_ahead d bs (fails_if b f a) ≡ fault_if b (stream_declined d f) (read_ahead d bs a)
  read_if d bs true f a = refl
  read_if d bs false f a = refl

  -- values in front of a reading
  pub push : (x : X) (xs : List X) (r : Read (Rest (List X))) →
      and_then r (λ s. found (rest ((x ∷ xs) ++ s.value) s.left s.place)) ≡ one_more x (and_then r (λ s. found (rest (xs ++ s.value) s.left s.place)))
  push x xs (found s) = refl
  push x xs (fault e) = refl

  pub whole : (r : Read (Rest (List X))) → and_then r (λ s. found (rest ([] ++ s.value) s.left s.place)) ≡ r
  whole (found s) = refl
  whole (fault e) = refl

-- what follows the first byte, and the second
pub after_byte : (bs : List ℕ) (at b : ℕ) (r : List ℕ) → drop at bs ≡ b ∷ r → drop (at + 1) bs ≡ r
after_byte bs at b r e = sym (drop-drop 1 at bs) ∙ ap (drop 1) e

pub after_word : (bs : List ℕ) (at b b' : ℕ) (r : List ℕ) → drop at bs ≡ b ∷ (b' ∷ r) → drop (at + 2) bs ≡ r
after_word bs at b b' r e = sym (drop-drop 2 at bs) ∙ ap (drop 2) e
