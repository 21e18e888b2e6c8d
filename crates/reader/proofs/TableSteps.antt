-- The offsets of a table, one after another.
use Rattle.std.proofs.Common.{◌≡◌, ℕ, zero, suc, ◌+◌, ◌-◌, ◌*◌, ◌<◌, ◌≤◌, Bool, true, false, cond, ◌||◌, ltb, List, [], ◌∷◌, length, get_or, drop, Option as Maybe, sym, refl, ap, ◌∙◌, subst, arith, length-drop, get_or-drop}
use mathlib.Core.Option.{none, some}
use Rattle.std.proofs.lemmas.Bool.{le-ltb, cond-true, cond-false}
use Rattle.format.specs.Account.{first_of}
use Rattle.format.specs.Bytes.{pair}
use Rattle.format.specs.Glyphs.{listed}
use Rattle.format.specs.Streams.{read_words, read_longs}
use Rattle.format.specs.Reader.{Checked, checked, value_or, word_at, offset_of, falls, offset_condition, in_table, table_conditions}
use Rattle.reader.specs.declared.table.Head.{Head}
use Rattle.reader.specs.Tables.{offset_in, offset_list, head_of, head_conditions, FirstBad, bad_answer}
use Rattle.slots.proofs.SlotSteps.{first_none}
use Rattle.slots.proofs.HeadSteps.{words_there}

module _ {X : Type 0} (f : ℕ → X) (d : X) where
  words_get : (n : ℕ) (bs : List ℕ) → 2 * n ≤ length bs → (i : ℕ) → i < n → get_or (value_or [] (λ r. r.0) (read_words f n bs)) i d ≡ f (pair (get_or bs (2 * i) 0) (get_or bs (2 * i + 1) 0))
  words_get zero bs h i k = absurd (omega arith)
  words_get (suc n) [] h i k = absurd (omega arith)
  words_get (suc n) (a ∷ []) h i k = absurd (omega arith)
  words_get (suc n) (a ∷ (b ∷ bs)) h zero k = rw (words_there f n bs (omega arith)).1
  words_get (suc n) (a ∷ (b ∷ bs)) h (suc i) k =
      let r = words_there f n bs (omega arith) in
      let e : 2 * suc i ≡ suc (suc (2 * i)) = omega arith in
      let e' : suc (suc (2 * i)) + 1 ≡ suc (suc (2 * i + 1)) = omega arith in
      rw (r.1, e, e') (rw r.1 at (words_get n bs (omega arith) i (omega arith)))

  longs_there : (n : ℕ) (bs : List ℕ) → 4 * n ≤ length bs → (vs : List X) × (left : List ℕ) × (read_longs f n bs ≡ some (vs, left))
  longs_there zero bs h = ([], bs, refl)
  longs_there (suc n) [] h = absurd (omega arith)
  longs_there (suc n) (a ∷ []) h = absurd (omega arith)
  longs_there (suc n) (a ∷ (b ∷ [])) h = absurd (omega arith)
  longs_there (suc n) (a ∷ (b ∷ (c ∷ []))) h = absurd (omega arith)
  longs_there (suc n) (a ∷ (b ∷ (c ∷ (e ∷ bs)))) h =
      let r = longs_there n bs (omega arith) in
      (f (65536 * pair a b + pair c e) ∷ r.0, r.1, rw r.2)

  longs_get : (n : ℕ) (bs : List ℕ) → 4 * n ≤ length bs → (i : ℕ) → i < n →
      get_or (value_or [] (λ r. r.0) (read_longs f n bs)) i d ≡ f (65536 * pair (get_or bs (4 * i) 0) (get_or bs (4 * i + 1) 0) + pair (get_or bs (4 * i + 2) 0) (get_or bs (4 * i + 3) 0))
  longs_get zero bs h i k = absurd (omega arith)
  longs_get (suc n) [] h i k = absurd (omega arith)
  longs_get (suc n) (a ∷ []) h i k = absurd (omega arith)
  longs_get (suc n) (a ∷ (b ∷ [])) h i k = absurd (omega arith)
  longs_get (suc n) (a ∷ (b ∷ (c ∷ []))) h i k = absurd (omega arith)
  longs_get (suc n) (a ∷ (b ∷ (c ∷ (e ∷ bs)))) h zero k = rw (longs_there n bs (omega arith)).2
  longs_get (suc n) (a ∷ (b ∷ (c ∷ (e ∷ bs)))) h (suc i) k =
      let r = longs_there n bs (omega arith) in
      let here : 4 * suc i ≡ suc (suc (suc (suc (4 * i)))) = omega arith in
      let second : suc (suc (suc (suc (4 * i)))) + 1 ≡ suc (suc (suc (suc (4 * i + 1)))) = omega arith in
      let third : suc (suc (suc (suc (4 * i)))) + 2 ≡ suc (suc (suc (suc (4 * i + 2)))) = omega arith in
      let fourth : suc (suc (suc (suc (4 * i)))) + 3 ≡ suc (suc (suc (suc (4 * i + 3)))) = omega arith in
      rw (r.2, here, second, third, fourth) (rw r.2 at (longs_get n bs (omega arith) i (omega arith)))

-- an offset of the list is the number at its place
pub offset_is : (bs : List ℕ) (long : Bool) (n i : ℕ) → 20 + cond long 4 2 * (n + 1) ≤ length bs → i < n + 1 → get_or (offset_list bs long n) i 0 ≡ offset_in bs long i
offset_is bs true n i h k =
    let a : 20 + 4 * i + 1 ≡ 20 + (4 * i + 1) = omega arith in
    let b : 20 + 4 * i + 2 ≡ 20 + (4 * i + 2) = omega arith in
    let c : 20 + 4 * i + 2 + 1 ≡ 20 + (4 * i + 3) = omega arith in
    longs_get (λ o. o) 0 (n + 1) (drop 20 bs) (omega (arith, length-drop 20 bs)) i k ∙ simp get_or-drop (rw (c, a, b))
offset_is bs false n i h k =
    let a : 20 + 2 * i + 1 ≡ 20 + (2 * i + 1) = omega arith in
    words_get (λ o. 2 * o) 0 (n + 1) (drop 20 bs) (omega (arith, length-drop 20 bs)) i k ∙ simp get_or-drop (rw a)

-- the offset before, and 0 before the first
abbrev pub before : List ℕ → Bool → ℕ → ℕ
before bs long zero = 0
before bs long (suc i) = offset_in bs long i

pub before_next : (bs : List ℕ) (long : Bool) (i : ℕ) → offset_in bs long i ≡ before bs long (i + 1)
before_next bs long i = let e : i + 1 ≡ suc i = omega arith in rw e

abbrev pub BadLeft : List ℕ → Bool → ℕ → ℕ → ℕ → Type 0
BadLeft bs long n start i =
    (c : Checked) → c.table ≡ bs → c.data_at ≡ start → c.is_long ≡ long → c.offsets ≡ offset_list bs long n →
    first_of (listed 0 (n + 1) (offset_condition c)) ≡ first_of (listed i (n + 1 - i) (offset_condition c))

module _ (bs : List ℕ) (long : Bool) (n start : ℕ) where
  pub bad_none : BadLeft bs long n start 0
  bad_none c et ed el eo = let z : n + 1 - 0 ≡ n + 1 = omega arith in rw z

  module _ (room : 20 + cond long 4 2 * (n + 1) ≤ length bs) where
    module _ (c : Checked) (et : c.table ≡ bs) (ed : c.data_at ≡ start) (el : c.is_long ≡ long) (eo : c.offsets ≡ offset_list bs long n) where
      offset_there : (i : ℕ) → i < n + 1 → offset_of c i ≡ offset_in bs long i
      offset_there i h = ap (λ l. get_or l i 0) eo ∙ offset_is bs long n i room h

      falls_is : (i : ℕ) → i < n + 1 → falls c i ≡ ltb (offset_in bs long i) (before bs long i)
      falls_is zero h = sym (le-ltb (offset_in bs long 0) 0 (omega arith))
      falls_is (suc i) h = rw (offset_there (suc i) h, offset_there i (omega arith))

      pub applies_is : (i : ℕ) → i < n + 1 → (offset_condition c i).applies ≡ (ltb (offset_in bs long i) (before bs long i) || ltb (length bs) (start + offset_in bs long i))
      applies_is i h =
          ap (λ b. b || ltb (length c.table) (c.data_at + offset_of c i)) (falls_is i h)
          ∙ ap (λ o. ltb (offset_in bs long i) (before bs long i) || ltb (length c.table) (c.data_at + o)) (offset_there i h)
          ∙ ap (λ t. ltb (offset_in bs long i) (before bs long i) || ltb (length t) (c.data_at + offset_in bs long i)) et
          ∙ ap (λ t. ltb (offset_in bs long i) (before bs long i) || ltb (length bs) (t + offset_in bs long i)) ed

      here_by : (i : ℕ) → i < n + 1 → (ltb (offset_in bs long i) (before bs long i) || ltb (length bs) (start + offset_in bs long i)) ≡ true →
          first_of (listed i (n + 1 - i) (offset_condition c)) ≡ some (in_table 19 (20 + cond long 4 2 * i))
      here_by i h e =
          let s : n + 1 - i ≡ suc (n + 1 - (i + 1)) = omega arith in
          ap (λ m. first_of (listed i m (offset_condition c))) s
          ∙ cond-true _ _ _ (applies_is i h ∙ e)
          ∙ ap (λ b. some (in_table 19 (20 + cond b 4 2 * i))) el

      next_by : (i : ℕ) → i < n + 1 → (ltb (offset_in bs long i) (before bs long i) || ltb (length bs) (start + offset_in bs long i)) ≡ false →
          first_of (listed i (n + 1 - i) (offset_condition c)) ≡ first_of (listed (i + 1) (n + 1 - (i + 1)) (offset_condition c))
      next_by i h e =
          let s : n + 1 - i ≡ suc (n + 1 - (i + 1)) = omega arith in
          let t : suc i ≡ i + 1 = omega arith in
          ap (λ m. first_of (listed i m (offset_condition c))) s
          ∙ cond-false _ _ _ (applies_is i h ∙ e)
          ∙ ap (λ j. first_of (listed j (n + 1 - (i + 1)) (offset_condition c))) t

    pub bad_here : (i : ℕ) → i < n + 1 → (ltb (offset_in bs long i) (before bs long i) || ltb (length bs) (start + offset_in bs long i)) ≡ true → BadLeft bs long n start i →
        (c : Checked) → c.table ≡ bs → c.data_at ≡ start → c.is_long ≡ long → c.offsets ≡ offset_list bs long n →
        first_of (listed 0 (n + 1) (offset_condition c)) ≡ some (in_table 19 (20 + cond long 4 2 * i))
    bad_here i h e f c et ed el eo = f c et ed el eo ∙ here_by c et ed el eo i h e

    pub bad_next : (i : ℕ) → i < n + 1 → (ltb (offset_in bs long i) (before bs long i) || ltb (length bs) (start + offset_in bs long i)) ≡ false → BadLeft bs long n start i → BadLeft bs long n start (i + 1)
    bad_next i h e f c et ed el eo = f c et ed el eo ∙ next_by c et ed el eo i h e

  pub bad_done : (i : ℕ) → n + 1 ≤ i → BadLeft bs long n start i →
      (c : Checked) → c.table ≡ bs → c.data_at ≡ start → c.is_long ≡ long → c.offsets ≡ offset_list bs long n → first_of (listed 0 (n + 1) (offset_condition c)) ≡ none
  bad_done i h f c et ed el eo = let s : n + 1 - i ≡ 0 = omega arith in f c et ed el eo ∙ (rw s)

pub first_true : (a b : Bool) → a ≡ true → (a || b) ≡ true
first_true a b e = rw e

pub second_true : (a b : Bool) → b ≡ true → (a || b) ≡ true
second_true true b e = refl
second_true false b e = e

-- the offsets of a table whose header is sound
pub offsets_by : (bs : List ℕ) (h : Head) (r : Maybe ℕ) → h ≡ head_of bs → FirstBad bs h.long h.glyphs h.data_at r →
    first_of (listed 0 (word_at bs 12 + 1) (offset_condition (checked bs))) ≡ bad_answer h.long r
offsets_by bs h r e f =
    (subst (λ (x : Head). FirstBad bs x.long x.glyphs x.data_at r) e f) (checked bs) refl refl refl refl ∙ ap (λ (x : Head). bad_answer x.long r) (sym e)

pub table_by : (bs : List ℕ) (h : Head) (r : Maybe ℕ) → h ≡ head_of bs → first_of (head_conditions bs) ≡ none → FirstBad bs h.long h.glyphs h.data_at r →
    first_of (table_conditions bs) ≡ bad_answer h.long r
table_by bs h r e n f = first_none (head_conditions bs) (listed 0 (word_at bs 12 + 1) (offset_condition (checked bs))) n ∙ offsets_by bs h r e f
