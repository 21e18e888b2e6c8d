-- Items are read off the front: which bytes they use, how many items there are, and when there are enough bytes.
use Rattle.std.proofs.Common.{◌≡◌, ℕ, zero, suc, ◌*◌, Bool, true, false, cond, List, [], ◌∷◌, ◌++◌, length, pos, refl, ap, arith}
use mathlib.Core.Option.{Option, none, some}
use lib.ListN.{length-replicate}
use Rattle.format.specs.Bytes.{pair, signed8, signed16}
use Rattle.format.specs.Packed.{Kind, zeros, bytes, words}
use Rattle.format.specs.Streams.{cons_to, read_bytes, read_words, read_gaps, read_values, held}

-- n items made of a front part of so many bytes
pub record OffTheFront {X : Type 0} (n size : ℕ) (bs : List ℕ) (items : List X) (left : List ℕ) : Type 0 where
  pub used : List ℕ
  pub used_then_left : used ++ left ≡ bs
  pub as_many_bytes : length used ≡ size
  pub as_many_items : length items ≡ n

-- the items where there are any
abbrev pub Front : {X : Type 0} → ℕ → ℕ → List ℕ → Option (List X × List ℕ) → Type 0
Front n size bs none = Unit {0}
Front n size bs (some r) = OffTheFront n size bs r.0 r.1

no_items : {X : Type 0} (bs : List ℕ) → OffTheFront {X = X} 0 0 bs [] bs
no_items bs = record { used = []; used_then_left = refl; as_many_bytes = refl; as_many_items = refl }

one_byte_more : {X : Type 0} (x : X) (n size b : ℕ) (bs : List ℕ) (o : Option (List X × List ℕ)) → Front n size bs o → Front (suc n) (suc size) (b ∷ bs) (cons_to x o)
one_byte_more x n size b bs none h = tt
one_byte_more x n size b bs (some r) h =
    record {
      used = b ∷ h.used;
      used_then_left = ap (λ (l : List ℕ). b ∷ l) h.used_then_left;
      as_many_bytes = ap suc h.as_many_bytes;
      as_many_items = ap suc h.as_many_items;
    }

one_word_more : {X : Type 0} (x : X) (n a b : ℕ) (bs : List ℕ) (o : Option (List X × List ℕ)) → Front n (2 * n) bs o → Front (suc n) (2 * suc n) (a ∷ (b ∷ bs)) (cons_to x o)
one_word_more x n a b bs none h = tt
one_word_more x n a b bs (some r) h =
    record {
      used = a ∷ (b ∷ h.used);
      used_then_left = ap (λ (l : List ℕ). a ∷ (b ∷ l)) h.used_then_left;
      as_many_bytes = omega (arith, h.as_many_bytes);
      as_many_items = ap suc h.as_many_items;
    }

module _ {X : Type 0} (f : ℕ → X) where
  pub bytes_front : (n : ℕ) (bs : List ℕ) → Front n n bs (read_bytes f n bs)
  bytes_front zero bs = no_items bs
  bytes_front (suc n) [] = tt
  bytes_front (suc n) (b ∷ bs) = one_byte_more (f b) n n b bs (read_bytes f n bs) (bytes_front n bs)

  pub words_front : (n : ℕ) (bs : List ℕ) → Front n (2 * n) bs (read_words f n bs)
  words_front zero bs = no_items bs
  words_front (suc n) [] = tt
  words_front (suc n) (a ∷ []) = tt
  words_front (suc n) (a ∷ (b ∷ bs)) = one_word_more (f (pair a b)) n a b bs (read_words f n bs) (words_front n bs)

pub gaps_front : (w : Bool) (n : ℕ) (bs : List ℕ) → Front n (cond w (2 * n) n) bs (read_gaps w n bs)
gaps_front true n bs = words_front (λ (g : ℕ). g) n bs
gaps_front false n bs = bytes_front (λ (g : ℕ). g) n bs

pub values_front : (k : Kind) (n : ℕ) (bs : List ℕ) → Front n (held k n) bs (read_values k n bs)
values_front zeros n bs = record { used = []; used_then_left = refl; as_many_bytes = refl; as_many_items = length-replicate n (pos 0) }
values_front bytes n bs = bytes_front signed8 n bs
values_front words n bs = words_front signed16 n bs
