-- The headers of a slot at a place of a table.
use Rattle.std.proofs.Common.{◌≡◌, ℕ, zero, suc, ◌+◌, ◌-◌, ◌*◌, ◌<◌, ◌≤◌, true, false, List, [], ◌∷◌, ◌++◌, length, get_or, drop, ℤ, sym, refl, ap, ◌∙◌, arith, length-drop}
use mathlib.Core.Option.{none, some}
use Rattle.std.proofs.lemmas.Bool.{cond-true, cond-false}
use Rattle.std.proofs.lemmas.List.{drop_more, drop-drop}
use Rattle.format.specs.Account.{Declined, first_of}
use Rattle.format.specs.Bytes.{pair, signed16}
use Rattle.format.specs.Streams.{Rest, rest, Read, found, fault, and_then, read_words}
use Rattle.format.specs.Reader.{word_at, tuples, Header, header_of, header_rest, read_header, read_headers, peak_conditions, at_entry}
use Rattle.slots.specs.declared.headers.Head.{Head}
use Rattle.streams.specs.Ahead.{one_more}
use Rattle.slots.proofs.Prefix.{prefixed}
use Rattle.slots.proofs.Prefix.{prefixed_none, prefixed_more}
use Rattle.slots.specs.Heads.{tuple_words, no_peak, HeadRead}

-- so many words are there, or not
module _ {X : Type 0} (f : ℕ → X) where
  pub words_there : (n : ℕ) (bs : List ℕ) → 2 * n ≤ length bs → (vs : List X) × (read_words f n bs ≡ some (vs, drop (2 * n) bs)) × (length vs ≡ n)
  words_there zero bs h = ([], refl, refl)
  words_there (suc n) [] h = absurd (omega arith)
  words_there (suc n) (a ∷ []) h = absurd (omega arith)
  words_there (suc n) (a ∷ (b ∷ bs)) h =
      let r = words_there n bs (omega arith) in
      let e : 2 * suc n ≡ suc (suc (2 * n)) = omega arith in
      (f (pair a b) ∷ r.0, rw (e, r.1), ap suc r.2)

  pub words_short : (n : ℕ) (bs : List ℕ) → length bs < 2 * n → read_words f n bs ≡ none
  words_short zero bs h = absurd (omega arith)
  words_short (suc n) [] h = refl
  words_short (suc n) (a ∷ []) h = refl
  words_short (suc n) (a ∷ (b ∷ bs)) h = rw (words_short n bs (omega arith))

-- the word after the one at a place
pub next_word : (bs : List ℕ) (at w : ℕ) → w ≡ word_at bs (at + 2) → w ≡ pair (get_or bs (at + 2) 0) (get_or bs (at + 3) 0)
next_word bs at w e =
    let t : at + 2 + 1 ≡ at + 3 = omega arith in
    e ∙ ap (λ k. pair (get_or bs (at + 2) 0) (get_or bs k 0)) t

four_short : (a at : ℕ) (bs : List ℕ) → length bs < 4 → read_header a bs at ≡ none
four_short a at [] h = refl
four_short a at (b ∷ []) h = refl
four_short a at (b ∷ (c ∷ [])) h = refl
four_short a at (b ∷ (c ∷ (d ∷ []))) h = refl
four_short a at (b ∷ (c ∷ (d ∷ (e ∷ bs)))) h = absurd (omega arith)

module _ (a : ℕ) (bs : List ℕ) (at : ℕ) where
  pub no_four : length bs - at < 4 → read_header a (drop at bs) at ≡ none
  no_four h = four_short a at (drop at bs) (omega (arith, length-drop at bs))

  one : (i j : ℕ) → i < length bs → j ≡ i + 1 → drop i bs ≡ get_or bs i 0 ∷ drop j bs
  one i j h e = rw e (drop_more bs i 0 h)

  pub four_bytes : 4 ≤ length bs - at → drop at bs ≡ get_or bs at 0 ∷ (get_or bs (at + 1) 0 ∷ (get_or bs (at + 2) 0 ∷ (get_or bs (at + 3) 0 ∷ drop (at + 4) bs)))
  four_bytes h =
      one at (at + 1) (omega arith) refl
      ∙ ap (λ t. get_or bs at 0 ∷ t) (one (at + 1) (at + 2) (omega arith) (omega arith)
      ∙ ap (λ t. get_or bs (at + 1) 0 ∷ t) (one (at + 2) (at + 3) (omega arith) (omega arith)
      ∙ ap (λ t. get_or bs (at + 2) 0 ∷ t) (one (at + 3) (at + 4) (omega arith) (omega arith))))

  head_is : (size index : ℕ) → 4 ≤ length bs - at → size ≡ pair (get_or bs at 0) (get_or bs (at + 1) 0) → index ≡ pair (get_or bs (at + 2) 0) (get_or bs (at + 3) 0) →
      read_header a (drop at bs) at ≡ header_rest a at size index (tuples a index (drop (at + 4) bs))
  head_is size index h es ei = ap (λ t. read_header a t at) (four_bytes h) ∙ (rw (es, ei))

  pub no_tuples : (index n : ℕ) → 4 ≤ length bs - at → index ≡ pair (get_or bs (at + 2) 0) (get_or bs (at + 3) 0) →
      n ≡ tuple_words a index → length bs - at - 4 < 2 * n → read_header a (drop at bs) at ≡ none
  no_tuples index n h ei en l =
      let size = pair (get_or bs at 0) (get_or bs (at + 1) 0) in
      let s : read_words signed16 (tuple_words a index) (drop (at + 4) bs) ≡ none = words_short signed16 (tuple_words a index) (drop (at + 4) bs) (omega (arith, length-drop (at + 4) bs)) in
      head_is size index h refl ei ∙ ap (header_rest a at size index) s

  -- the tuples, if they are inside
  tuples_are : (n past : ℕ) → at + 4 + 2 * n ≡ past → past ≤ length bs → (vs : List ℤ) × (read_words signed16 n (drop (at + 4) bs) ≡ some (vs, drop past bs)) × (length vs ≡ n)
  tuples_are n past e l =
      let w = words_there signed16 n (drop (at + 4) bs) (omega (arith, length-drop (at + 4) bs)) in
      (w.0, w.1 ∙ ap (λ r. some (w.0, r)) (drop-drop (2 * n) (at + 4) bs ∙ ap (λ k. drop k bs) e), w.2)

  pub head_read : (size index n past : ℕ) → 4 ≤ length bs - at → size ≡ pair (get_or bs at 0) (get_or bs (at + 1) 0) → index ≡ pair (get_or bs (at + 2) 0) (get_or bs (at + 3) 0) →
      n ≡ tuple_words a index → 2 * n ≤ length bs - at - 4 → past ≡ at + 4 + 2 * n → HeadRead bs at a (record { size = size; index = index; past = past })
  head_read size index n past h es ei en l ep =
      let w = tuples_are (tuple_words a index) past (omega arith) (omega arith) in
      let z : at + (4 + 2 * length w.0) ≡ past = omega (arith, w.2) in
      record {
        values = w.0;
        place = omega arith;
        inside = omega arith;
        tuples_read = w.1;
        is_read = head_is size index h es ei ∙ ap (header_rest a at size index) w.1 ∙ ap (λ k. some (rest (header_of a at size index w.0) (drop past bs) k)) z;
      }

-- one header more
push : (x : Header) (r : Read (Rest (List Header))) → and_then r (λ s. found (rest (x ∷ s.value) s.left s.place)) ≡ one_more x r
push x (found s) = refl
push x (fault e) = refl

module _ (g a : ℕ) (bs : List ℕ) (at n i : ℕ) where
  pub heads_fault : i < n → read_header a (drop at bs) at ≡ none → read_headers g a i (n - i) (drop at bs) at ≡ fault (at_entry g i 21 at)
  heads_fault l e =
      let s : n - i ≡ suc (n - (i + 1)) = omega arith in
      rw (s, e)

  pub heads_more : (h : Head) → i < n → (r : HeadRead bs at a h) → read_headers g a i (n - i) (drop at bs) at
      ≡ one_more (header_of a at h.size h.index r.values) (read_headers g a (i + 1) (n - (i + 1)) (drop h.past bs) h.past)
  heads_more h l r =
      let x = header_of a at h.size h.index r.values in
      let s : n - i ≡ suc (n - (i + 1)) = omega arith in
      let t : suc i ≡ i + 1 = omega arith in
      rw (s, r.is_read) (push x (read_headers g a (suc i) (n - (i + 1)) (drop h.past bs) h.past))
      ∙ ap (λ j. one_more x (read_headers g a j (n - (i + 1)) (drop h.past bs) h.past)) t

  pub heads_none : n ≤ i → read_headers g a i (n - i) (drop at bs) at ≡ found (rest [] (drop at bs) at)
  heads_none l =
      let s : n - i ≡ 0 = omega arith in
      rw s

-- what was read is in front of what is left
abbrev pub HeadsSoFar : List ℕ → ℕ → ℕ → ℕ → ℕ → ℕ → Type 0
HeadsSoFar bs at a n i place = (hs : List Header) × ((g : ℕ) → read_headers g a 0 n (drop at bs) at ≡ prefixed hs (read_headers g a i (n - i) (drop place bs) place))

module _ (bs : List ℕ) (at a n : ℕ) where
  pub so_far_none : HeadsSoFar bs at a n 0 at
  so_far_none = let z : n - 0 ≡ n = omega arith in ([], λ g. rw z (prefixed_none (read_headers g a 0 n (drop at bs) at)))

  pub so_far_more : (i place : ℕ) (h : Head) → i < n → HeadsSoFar bs at a n i place → HeadRead bs place a h → HeadsSoFar bs at a n (i + 1) h.past
  so_far_more i place h l s r =
      let x = header_of a place h.size h.index r.values in
      (s.0 ++ (x ∷ []), λ g. s.1 g ∙ ap (prefixed s.0) (heads_more g a bs place n i h l r) ∙ prefixed_more s.0 x _)

  pub so_far_fault : (i place : ℕ) → i < n → HeadsSoFar bs at a n i place → read_header a (drop place bs) place ≡ none → (g : ℕ) → read_headers g a 0 n (drop at bs) at ≡ fault (at_entry g i 21 place)
  so_far_fault i place l s e g = s.1 g ∙ ap (prefixed s.0) (heads_fault g a bs place n i l e)

  pub so_far_all : (i place : ℕ) → n ≤ i → HeadsSoFar bs at a n i place → (hs : List Header) × ((g : ℕ) → read_headers g a 0 n (drop at bs) at ≡ found (rest hs (drop place bs) place))
  so_far_all i place l s = (s.0 ++ [], λ g. s.1 g ∙ ap (prefixed s.0) (heads_none g a bs place n i l))

-- the first of a list of headers that is found
pub un_one : {X : Type 0} (x : X) (r : Read (Rest (List X))) (hs : List X) (left : List ℕ) (p : ℕ) → one_more x r ≡ found (rest hs left p) → (tl : List X) × (r ≡ found (rest tl left p)) × (hs ≡ x ∷ tl)
un_one x (found s) hs left p e =
    let q : rest (x ∷ s.value) s.left s.place ≡ rest hs left p = cc in
    let l : s.left ≡ left = ap (λ t. t.left) q in
    let k : s.place ≡ p = ap (λ t. t.place) q in
    (s.value, ap (λ t. found (rest s.value t s.place)) l ∙ ap (λ t. found (rest s.value left t)) k, sym (ap (λ t. t.value) q))
un_one x (fault d) hs left p e = absurd (let z : ◌≡◌ {A = ℕ} 0 1 = cc in omega arith)

pub not_both : {X : Type 0} (r : Read X) (d : Declined) (x : X) → r ≡ fault d → r ≡ found x → ⊥
not_both r d x e f = let z : ◌≡◌ {A = ℕ} 0 1 = cc in omega arith

-- the headers left are found, and the first condition on them is the first of all
abbrev pub PeaksLeft : List ℕ → ℕ → ℕ → ℕ → ℕ → ℕ → ℕ → Type 0
PeaksLeft bs at a n peaks i place =
    (g : ℕ) (hs : List Header) (left : List ℕ) (p : ℕ) → read_headers g a 0 n (drop at bs) at ≡ found (rest hs left p) →
    (tl : List Header) × (read_headers g a i (n - i) (drop place bs) place ≡ found (rest tl left p)) × (first_of (peak_conditions g peaks 0 hs) ≡ first_of (peak_conditions g peaks i tl))

module _ (bs : List ℕ) (at a n peaks : ℕ) where
  pub peaks_none : PeaksLeft bs at a n peaks 0 at
  peaks_none g hs left p e = let z : n - 0 ≡ n = omega arith in (hs, rw z e, refl)

  pub peaks_more : (i place : ℕ) (h : Head) → i < n → PeaksLeft bs at a n peaks i place → HeadRead bs place a h → no_peak h.index peaks ≡ false → PeaksLeft bs at a n peaks (i + 1) h.past
  peaks_more i place h l s r b g hs left p e =
      let q = s g hs left p e in
      let x = header_of a place h.size h.index r.values in
      let u = un_one x (read_headers g a (i + 1) (n - (i + 1)) (drop h.past bs) h.past) q.0 left p (sym (heads_more g a bs place n i h l r) ∙ q.1) in
      let t : suc i ≡ i + 1 = omega arith in
      (u.0, u.1, q.2 ∙ ap (λ t. first_of (peak_conditions g peaks i t)) u.2 ∙ cond-false _ _ _ b ∙ ap (λ j. first_of (peak_conditions g peaks j u.0)) t)

  pub peaks_here : (i place : ℕ) (h : Head) → i < n → PeaksLeft bs at a n peaks i place → HeadRead bs place a h → no_peak h.index peaks ≡ true →
      (g : ℕ) (hs : List Header) (left : List ℕ) (p : ℕ) → read_headers g a 0 n (drop at bs) at ≡ found (rest hs left p) → first_of (peak_conditions g peaks 0 hs) ≡ some (at_entry g i 21 place)
  peaks_here i place h l s r b g hs left p e =
      let q = s g hs left p e in
      let x = header_of a place h.size h.index r.values in
      let u = un_one x (read_headers g a (i + 1) (n - (i + 1)) (drop h.past bs) h.past) q.0 left p (sym (heads_more g a bs place n i h l r) ∙ q.1) in
      q.2 ∙ ap (λ t. first_of (peak_conditions g peaks i t)) u.2 ∙ cond-true _ _ _ b

  pub peaks_never : (i place : ℕ) → i < n → PeaksLeft bs at a n peaks i place → read_header a (drop place bs) place ≡ none →
      (g : ℕ) (hs : List Header) (left : List ℕ) (p : ℕ) → read_headers g a 0 n (drop at bs) at ≡ found (rest hs left p) → first_of (peak_conditions g peaks 0 hs) ≡ none
  peaks_never i place l s b g hs left p e =
      let q = s g hs left p e in
      absurd (not_both (read_headers g a i (n - i) (drop place bs) place) _ _ (heads_fault g a bs place n i l b) q.1)

  pub peaks_all : (i place : ℕ) → n ≤ i → PeaksLeft bs at a n peaks i place →
      (g : ℕ) (hs : List Header) (left : List ℕ) (p : ℕ) → read_headers g a 0 n (drop at bs) at ≡ found (rest hs left p) → first_of (peak_conditions g peaks 0 hs) ≡ none
  peaks_all i place l s g hs left p e =
      let q = s g hs left p e in
      let f : found (rest [] (drop place bs) place) ≡ found (rest q.0 left p) = sym (heads_none g a bs place n i l) ∙ q.1 in
      let z : rest [] (drop place bs) place ≡ rest q.0 left p = cc in
      q.2 ∙ ap (λ t. first_of (peak_conditions g peaks i t)) (sym (ap (λ t. t.value) z))
