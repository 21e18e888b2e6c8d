-- The sums of the glyphs' sizes, and the layout that they give.
use Rattle.std.proofs.Common.{◌≡◌, ℕ, zero, suc, ◌+◌, ◌/◌, ◌%◌, ◌<◌, ◌≤◌, true, false, List, [], ◌∷◌, map, length, sym, refl, ap, ◌∙◌, subst, add_assoc, arith, length-append}
use Rattle.std.proofs.lemmas.Bool.{le-leb, lt-leb}
use Rattle.format.specs.Account.{Glyph}
use Rattle.format.specs.Bytes.{joined, total}
use Rattle.format.specs.Glyphs.{listed}
use Rattle.format.specs.Table.{even, even_total, padded, glyphs_bytes}
use Rattle.format.proofs.Padded.{padded_even}
use Rattle.tables.specs.declared.layout.Sums.{Sums}
use Rattle.tables.specs.declared.layout.Layout.{Layout}
use Rattle.tables.specs.Forms.{halves}
use Rattle.tables.specs.Parts.{glyph_at}
use Rattle.tables.specs.Layouts.{Summed, Laid}

-- One glyph more

total_more : (w : List ℕ → ℕ) (f : ℕ → List ℕ) (from n j : ℕ) → from + n ≡ j → total (map w (listed from (suc n) f)) ≡ total (map w (listed from n f)) + w (f j)
total_more w f from zero j e =
    let q : from ≡ j = omega arith in
    let z : w (f from) + 0 ≡ 0 + w (f from) = omega arith in
    subst (λ (x : ℕ). w (f from) + 0 ≡ 0 + w (f x)) q z
total_more w f from (suc n) j e =
    ap (λ (x : ℕ). w (f from) + x) (total_more w f (suc from) n j (omega arith))
    ∙ sym (add_assoc (w (f from)) (total (map w (listed (suc from) n f))) (w (f j)))

total_next : (w : List ℕ → ℕ) (f : ℕ → List ℕ) (n : ℕ) → total (map w (listed 0 (n + 1) f)) ≡ total (map w (listed 0 n f)) + w (f n)
total_next w f n =
    let a : n + 1 ≡ suc n = omega arith in
    ap (λ (m : ℕ). total (map w (listed 0 m f))) a ∙ total_more w f 0 n n (omega arith)

module _ (gs : List Glyph) where
  pub summed_more : (n k : ℕ) (s t : Sums) → Summed gs n s → k ≡ length (glyph_at gs n) → k ≤ 17179869184 →
      t.even ≡ s.even + (k + k % 2) → t.exact ≡ s.exact + k → Summed gs (n + 1) t
  summed_more n k s t h q few e x =
      let even-next = total_next (λ b. even (length b)) (glyph_at gs) n in
      let exact-next = total_next length (glyph_at gs) n in
      record {
        evens = e ∙ ap (λ (y : ℕ). y + (k + k % 2)) h.evens ∙ ap (λ (y : ℕ). even_total (listed 0 n (glyph_at gs)) + even y) q ∙ sym even-next;
        exacts = x ∙ ap (λ (y : ℕ). y + k) h.exacts ∙ ap (λ (y : ℕ). total (map length (listed 0 n (glyph_at gs))) + y) q ∙ sym exact-next;
        less = omega (arith, h.less);
        small = omega (arith, h.small);
      }

-- All glyphs

short_slots : (bs : List (List ℕ)) → length (joined (map (padded true) bs)) ≡ even_total bs
short_slots [] = refl
short_slots (b ∷ bs) = omega (arith, padded_even b, short_slots bs, length-append (padded true b) (joined (map (padded true) bs)))

long_slots : (bs : List (List ℕ)) → length (joined (map (padded false) bs)) ≡ total (map length bs)
long_slots [] = refl
long_slots (b ∷ bs) = length-append b (joined (map (padded false) bs)) ∙ ap (λ (x : ℕ). length b + x) (long_slots bs)

module _ (gs : List Glyph) (s : Sums) (h : Summed gs (length gs) s) where
  even_is : s.even ≡ even_total (glyphs_bytes gs)
  unfolding glyph_at
  even_is = h.evens

  exact_is : s.exact ≡ total (map length (glyphs_bytes gs))
  unfolding glyph_at
  exact_is = h.exacts

  pub laid_not : 67108864 < s.even → 67108864 < even_total (glyphs_bytes gs)
  laid_not l = subst (λ (n : ℕ). 67108864 < n) even_is l

  pub laid_short : (l : Layout) → s.even ≤ 67108864 → s.even / 2 ≤ 65535 → halves l.form ≡ true → l.slots ≡ s.even → Laid gs l
  laid_short l few half e z =
      record {
        form = e ∙ sym (le-leb (even_total (glyphs_bytes gs) / 2) 65535 (subst (λ (n : ℕ). n / 2 ≤ 65535) even_is half));
        size = z ∙ even_is ∙ sym (short_slots (glyphs_bytes gs)) ∙ ap (λ t. length (joined (map (padded t) (glyphs_bytes gs)))) (sym e);
        small = subst (λ (n : ℕ). n ≤ 67108864) even_is few;
      }

  pub laid_long : (l : Layout) → s.even ≤ 67108864 → 65535 < s.even / 2 → halves l.form ≡ false → l.slots ≡ s.exact → Laid gs l
  laid_long l few half e z =
      record {
        form = e ∙ sym (lt-leb (even_total (glyphs_bytes gs) / 2) 65535 (subst (λ (n : ℕ). 65535 < n / 2) even_is half));
        size = z ∙ exact_is ∙ sym (long_slots (glyphs_bytes gs)) ∙ ap (λ t. length (joined (map (padded t) (glyphs_bytes gs)))) (sym e);
        small = subst (λ (n : ℕ). n ≤ 67108864) even_is few;
      }
