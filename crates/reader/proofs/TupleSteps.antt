-- The words in some bytes, and the tuples of a header.
use Rattle.std.proofs.Common.{◌≡◌, ℕ, zero, suc, ◌+◌, ◌-◌, ◌*◌, ◌/◌, ◌<◌, ◌≤◌, true, cond, List, [], ◌∷◌, length, get_or, take, drop, ℤ, pos, refl, ap, ◌∙◌, arith, length-drop, take-take}
use mathlib.Core.Option.{Option, some}
use Rattle.std.proofs.lemmas.Bool.{cond-true}
use Rattle.std.proofs.lemmas.List.{drop-drop, drop-take}
use Rattle.format.specs.Bytes.{pair, signed16}
use Rattle.format.specs.Streams.{read_words}
use Rattle.format.specs.Reader.{is_embedded, is_regional}
use Rattle.slots.specs.declared.headers.Head.{Head}
use Rattle.slots.specs.Heads.{tuple_words, HeadRead}
use Rattle.reader.specs.Tuples.{words_in}

-- how many there are
pub length_words : (bs : List ℕ) → length bs / 2 ≡ length (words_in bs)
length_words [] = refl
length_words (a ∷ []) = refl
length_words (a ∷ (b ∷ bs)) = let r = length_words bs in omega arith

-- the one with the number i
pub word_here : (bs : List ℕ) (i : ℕ) → i < length bs / 2 → get_or (words_in bs) i (pos 0) ≡ signed16 (pair (get_or bs (2 * i) 0) (get_or bs (2 * i + 1) 0))
word_here [] i h = absurd (omega arith)
word_here (a ∷ []) i h = absurd (omega arith)
word_here (a ∷ (b ∷ bs)) zero h = refl
word_here (a ∷ (b ∷ bs)) (suc i) h =
    let e : 2 * suc i ≡ suc (suc (2 * i)) = omega arith in
    let f : suc (suc (2 * i)) + 1 ≡ suc (suc (2 * i + 1)) = omega arith in
    rw (e, f) (word_here bs i (omega arith))

-- a part of the words
pub drop_words : (i : ℕ) (bs : List ℕ) → drop i (words_in bs) ≡ words_in (drop (2 * i) bs)
drop_words zero bs = refl
drop_words (suc i) [] = let e : 2 * suc i ≡ suc (suc (2 * i)) = omega arith in rw e
drop_words (suc i) (a ∷ []) = let e : 2 * suc i ≡ suc (suc (2 * i)) = omega arith in rw e
drop_words (suc i) (a ∷ (b ∷ bs)) = let e : 2 * suc i ≡ suc (suc (2 * i)) = omega arith in rw e (drop_words i bs)

pub take_words : (k : ℕ) (bs : List ℕ) → take k (words_in bs) ≡ words_in (take (2 * k) bs)
take_words zero bs = refl
take_words (suc k) [] = let e : 2 * suc k ≡ suc (suc (2 * k)) = omega arith in rw e
take_words (suc k) (a ∷ []) = let e : 2 * suc k ≡ suc (suc (2 * k)) = omega arith in rw e
take_words (suc k) (a ∷ (b ∷ bs)) =
    let e : 2 * suc k ≡ suc (suc (2 * k)) = omega arith in
    rw e (ap (λ l. signed16 (pair a b) ∷ l) (take_words k bs))

-- the words that are read
pub words_are : (n : ℕ) (bs : List ℕ) → 2 * n ≤ length bs → read_words signed16 n bs ≡ some (words_in (take (2 * n) bs), drop (2 * n) bs)
words_are zero bs h = refl
words_are (suc n) [] h = absurd (omega arith)
words_are (suc n) (a ∷ []) h = absurd (omega arith)
words_are (suc n) (a ∷ (b ∷ bs)) h =
    let e : 2 * suc n ≡ suc (suc (2 * n)) = omega arith in
    rw (e, words_are n bs (omega arith))

same_words : (o : Option (List ℤ × List ℕ)) (vs ws : List ℤ) (l m : List ℕ) → o ≡ some (vs, l) → o ≡ some (ws, m) → vs ≡ ws
same_words o vs ws l m e f =
    let q : ◌≡◌ {A = List ℤ × List ℕ} (vs, l) (ws, m) = cc in
    ap (λ t. t.0) q

-- a part of the front of a list
pub part_of_front : (from n end : ℕ) (bs : List ℕ) → from + n ≤ end → take n (drop from (take end bs)) ≡ take n (drop from bs)
part_of_front from n end bs h =
    let e : end ≡ from + (end - from) = omega arith in
    ap (λ m. take n (drop from (take m bs))) e ∙ ap (take n) (drop-take from (end - from) bs) ∙ take-take n (end - from) (drop from bs) (omega arith)

-- the tuples of a header, at the places that the end of the header gives
module _ (bs : List ℕ) (at a : ℕ) (h : Head) (r : HeadRead bs at a h) where
  pub values_are : r.values ≡ words_in (take (2 * tuple_words a h.index) (drop (at + 4) bs))
  values_are =
      let n = tuple_words a h.index in
      same_words _ r.values _ _ _ r.tuples_read (words_are n (drop (at + 4) bs) (omega (arith, length-drop (at + 4) bs, r.place, r.inside)))

  pub embedded_is : (q : ℕ) → is_embedded h.index ≡ true → q ≡ h.past - 2 * tuple_words a h.index → take (cond (is_embedded h.index) a 0) r.values ≡ words_in (take (2 * a) (drop q bs))
  embedded_is q e eq =
      let n = tuple_words a h.index in
      let c : cond (is_embedded h.index) a 0 ≡ a = cond-true _ _ _ e in
      let p : at + 4 ≡ q = omega (arith, r.place) in
      let t = take-take (2 * a) (2 * n) (drop (at + 4) bs) (omega arith) in
      ap (λ k. take k r.values) c ∙ ap (take a) values_are ∙ take_words a (take (2 * n) (drop (at + 4) bs)) ∙ ap words_in t ∙ ap (λ k. words_in (take (2 * a) (drop k bs))) p

  pub embedded_inside : (q : ℕ) → is_embedded h.index ≡ true → q ≡ h.past - 2 * tuple_words a h.index → q + 2 * a ≤ length bs
  embedded_inside q e eq =
      let c : cond (is_embedded h.index) a 0 ≡ a = cond-true _ _ _ e in
      omega (arith, r.place, r.inside)

  module _ (reg : is_regional h.index ≡ true) where
    count : tuple_words a h.index ≡ cond (is_embedded h.index) a 0 + 2 * a
    count = ap (λ k. cond (is_embedded h.index) a 0 + k) (cond-true _ _ _ reg)

    pub starts_are : (q : ℕ) → q ≡ h.past - 4 * a → take a (drop (cond (is_embedded h.index) a 0) r.values) ≡ words_in (take (2 * a) (drop q bs))
    starts_are q eq =
        let n = tuple_words a h.index in
        let k = cond (is_embedded h.index) a 0 in
        let p : at + 4 + 2 * k ≡ q = omega (arith, r.place, count) in
        ap (λ l. take a (drop k l)) values_are ∙ ap (take a) (drop_words k (take (2 * n) (drop (at + 4) bs))) ∙ take_words a (drop (2 * k) (take (2 * n) (drop (at + 4) bs)))
        ∙ ap words_in (part_of_front (2 * k) (2 * a) (2 * n) (drop (at + 4) bs) (omega (arith, count)))
        ∙ ap (λ l. words_in (take (2 * a) l)) (drop-drop (2 * k) (at + 4) bs ∙ ap (λ m. drop m bs) p)

    pub ends_are : (q : ℕ) → q ≡ h.past - 2 * a → drop a (drop (cond (is_embedded h.index) a 0) r.values) ≡ words_in (take (2 * a) (drop q bs))
    ends_are q eq =
        let n = tuple_words a h.index in
        let k = cond (is_embedded h.index) a 0 in
        let p : at + 4 + (2 * k + 2 * a) ≡ q = omega (arith, r.place, count) in
        let m : 2 * n ≡ 2 * k + 2 * a + 2 * a = omega (arith, count) in
        ap (λ l. drop a (drop k l)) values_are ∙ ap (drop a) (drop_words k (take (2 * n) (drop (at + 4) bs))) ∙ drop_words a (drop (2 * k) (take (2 * n) (drop (at + 4) bs)))
        ∙ ap words_in (drop-drop (2 * a) (2 * k) (take (2 * n) (drop (at + 4) bs)) ∙ ap (λ z. drop (2 * k + 2 * a) (take z (drop (at + 4) bs))) m ∙ drop-take (2 * k + 2 * a) (2 * a) (drop (at + 4) bs))
        ∙ ap (λ l. words_in (take (2 * a) l)) (drop-drop (2 * k + 2 * a) (at + 4) bs ∙ ap (λ z. drop z bs) p)

    pub starts_inside : (q : ℕ) → q ≡ h.past - 4 * a → q + 2 * a ≤ length bs
    starts_inside q eq = omega (arith, r.place, r.inside, count)

    pub ends_inside : (q : ℕ) → q ≡ h.past - 2 * a → q + 2 * a ≤ length bs
    ends_inside q eq = omega (arith, r.place, r.inside, count)
