-- Signed values as words: their number, and one more of them among packed bytes.
use Rattle.std.proofs.Common.{◌≡◌, ℕ, ◌+◌, ◌*◌, ◌<◌, ◌≤◌, min, List, [], ◌∷◌, ◌++◌, length, get_or, take, set, ℤ, pos, negsuc, sym, refl, ap, ◌∙◌, append_assoc, append-nil, arith, length-set, w16, of_z}
use Rattle.std.proofs.lemmas.List.{take_more, take_more_set, take_all}
use Rattle.format.specs.Bytes.{word, bits16, signed_words}

pub length_words : (zs : List ℤ) → length (signed_words zs) ≡ 2 * length zs
length_words [] = refl
length_words (z ∷ zs) = omega (arith, length_words zs)

pub words_append : (xs ys : List ℤ) → signed_words (xs ++ ys) ≡ signed_words xs ++ signed_words ys
words_append [] ys = refl
words_append (x ∷ xs) ys = ap (λ l. word (bits16 x) ++ l) (words_append xs ys)

-- the bits of a value, as a conversion to bytes has them
bits_are : (z : ℤ) → of_z w16 z ≡ bits16 z
bits_are (pos n) = refl
bits_are (negsuc n) = omega arith

two_more : (bs : List ℕ) (j x y : ℕ) → j + 1 < length bs → take (j + 2) (set (set bs j x) (j + 1) y) ≡ take j bs ++ (x ∷ y ∷ [])
two_more bs j x y h =
    ap (λ n. take n (set (set bs j x) (j + 1) y)) (omega arith)
    ∙ take_more_set (set bs j x) (j + 1) y (omega (arith, length-set bs j x))
    ∙ ap (λ l. l ++ (y ∷ [])) (take_more_set bs j x (omega arith))
    ∙ append_assoc (take j bs) (x ∷ []) (y ∷ [])

-- one value more
pub words_more : (zs : List ℤ) (i : ℕ) (z : ℤ) (bs w : List ℕ) → i < length zs → 2 * i + 1 < length bs → w ≡ word (of_z w16 (get_or zs i z)) →
    take (2 * i) bs ≡ signed_words (take i zs) →
    take (2 * (i + 1)) (set (set bs (2 * i) (get_or w 0 0)) (2 * i + 1) (get_or w 1 0)) ≡ signed_words (take (i + 1) zs)
words_more zs i z bs w h hb e t =
    let v = get_or zs i z in
    ap (λ n. take n (set (set bs (2 * i) (get_or w 0 0)) (2 * i + 1) (get_or w 1 0))) (omega arith)
    ∙ two_more bs (2 * i) (get_or w 0 0) (get_or w 1 0) hb
    ∙ ap (λ l. take (2 * i) bs ++ (get_or l 0 0 ∷ get_or l 1 0 ∷ [])) (e ∙ ap word (bits_are v))
    ∙ ap (λ l. l ++ word (bits16 v)) t
    ∙ ap (λ l. signed_words (take i zs) ++ l) (sym (append-nil (word (bits16 v))))
    ∙ sym (words_append (take i zs) (v ∷ []))
    ∙ ap signed_words (sym (take_more zs i z h))

-- a part of at most 64 values is packed whole
pub packed_whole : (part : List ℤ) (n size : ℕ) → n ≡ min (length part) 64 → size ≡ 64 → length part ≤ size → take n part ≡ part
packed_whole part n size e s h = take_all n part (omega arith)
