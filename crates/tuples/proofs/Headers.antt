-- A header in its parts: four bytes, then three tuples, each stored or missing.
use Rattle.std.proofs.Common.{◌≡◌, ℕ, ◌+◌, ◌*◌, ◌≤◌, Bool, true, false, cond, not, List, [], ◌++◌, length, ℤ, is_some, Some, None, Option, refl, sym, ap, ◌∙◌, arith, length-append}
use Rattle.format.specs.Bytes.{word, signed_words}
use Rattle.format.specs.Glyphs.{index_word, peak_part}
use Rattle.tuples.specs.Headers.{index_of, region_of, header_of}
use Rattle.tuples.proofs.Words.{length_words, words_append}

-- a peak without an index is stored
peak_is : (i : Option ℕ) (b : Bool) (p : List ℤ) → is_some i ≡ not b → peak_part (index_of i) p ≡ cond b p []
peak_is None true p e = refl
peak_is None false p e = let z : ◌≡◌ {A = ℕ} 0 1 = cc in absurd (omega arith)
peak_is (Some i) true p e = let z : ◌≡◌ {A = ℕ} 0 1 = cc in absurd (omega arith)
peak_is (Some i) false p e = refl

-- whether there is none
pub own_peak : (i : Option ℕ) → (b : Bool) × (is_some i ≡ not b)
own_peak None = (true, refl)
own_peak (Some i) = (false, refl)

region_is : (b : Bool) (s e : List ℤ) → region_of b s e ≡ cond b s [] ++ cond b e []
region_is true s e = refl
region_is false s e = refl

-- the words of a tuple, if it is stored
abbrev pub words_if : Bool → List ℤ → List ℕ
words_if b zs = cond b (signed_words zs) []

words_of : (b : Bool) (zs : List ℤ) → signed_words (cond b zs []) ≡ words_if b zs
words_of true zs = refl
words_of false zs = refl

pub words_most : (b : Bool) (zs : List ℤ) → length (words_if b zs) ≤ 2 * length zs
words_most true zs = omega (arith, length_words zs)
words_most false zs = omega arith

-- the first four bytes
abbrev pub head : ℕ → Option ℕ → Bool → Bool → List ℕ
head n i region shared = word n ++ word (index_word (index_of i) region shared)

module _ (n : ℕ) (i : Option ℕ) (region shared : Bool) (p s e : List ℤ) (b : Bool) (own : is_some i ≡ not b) where
  values_are : signed_words (peak_part (index_of i) p ++ region_of region s e) ≡ words_if b p ++ (words_if region s ++ words_if region e)
  values_are =
      words_append (peak_part (index_of i) p) (region_of region s e)
      ∙ ap (λ l. signed_words l ++ signed_words (region_of region s e)) (peak_is i b p own)
      ∙ ap (λ l. signed_words (cond b p []) ++ signed_words l) (region_is region s e)
      ∙ ap (λ l. signed_words (cond b p []) ++ l) (words_append (cond region s []) (cond region e []))
      ∙ (λ j. words_of b p j ++ (words_of region s j ++ words_of region e j))

  -- what the program hands over, part by part
  pub header_parts : (h p' s' e' : List ℕ) → h ≡ head n i region shared → p' ≡ words_if b p → s' ≡ words_if region s → e' ≡ words_if region e →
      h ++ (p' ++ (s' ++ e')) ≡ header_of n i region shared p s e
  header_parts h p' s' e' eh ep es ee = (λ j. eh j ++ (ep j ++ (es j ++ ee j))) ∙ ap (λ l. head n i region shared ++ l) (sym values_are)

  -- its size
  pub header_size : (p' s' e' : List ℕ) → p' ≡ words_if b p → s' ≡ words_if region s → e' ≡ words_if region e →
      4 + length p' + length s' + length e' ≡ length (header_of n i region shared p s e)
  header_size p' s' e' ep es ee =
      let l = length-append p' (s' ++ e') in
      let k = length-append s' e' in
      omega arith ∙ ap length (header_parts (head n i region shared) p' s' e' refl ep es ee)
