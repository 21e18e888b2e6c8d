-- A part of the cells is written, and the others stay. Assumes nothing.
use Rattle.std.proofs.Common.{◌≡◌, ℕ, ◌+◌, ◌-◌, ◌<◌, ◌≤◌, List, ◌++◌, length, get_or, take, drop, sym, ap, ◌∙◌, inl, inr, arith, length-take-le}
use Rattle.std.proofs.lemmas.List.{get_or_append_left, get_or-append_right, get_or-take, get_or-drop}
use Rattle.std.proofs.lemmas.Bool.{cases_lt}
use Rattle.counts.specs.declared.cells.CountCell.{CountCell}
use Rattle.counts.specs.Cells.{blank}
use Rattle.counting.specs.Marked.{KeepsRanks}

-- the cells from a on, as many as ys, become ys
module _ (xs ys : List CountCell) (a k : ℕ) (within : a + k ≤ length xs) (long : length ys ≡ k) where
  abbrev put : List CountCell
  put = take a xs ++ (ys ++ drop k (drop a xs))

  front_long : length (take a xs) ≡ a
  front_long = length-take-le a xs (omega arith)

  pub put_here : (i : ℕ) → i < k → get_or put (a + i) blank ≡ get_or ys i blank
  put_here i l =
      let e : a + i - a ≡ i = omega arith in
      let h : i < length ys = omega arith in
      get_or-append_right (take a xs) (ys ++ drop k (drop a xs)) a (a + i) blank front_long (omega arith)
      ∙ ap (λ (j : ℕ). get_or (ys ++ drop k (drop a xs)) j blank) e
      ∙ get_or_append_left ys (drop k (drop a xs)) blank i h

  pub put_before : (i : ℕ) → i < a → get_or put i blank ≡ get_or xs i blank
  put_before i l =
      let f = front_long in
      let h : i < length (take a xs) = omega arith in
      get_or_append_left (take a xs) (ys ++ drop k (drop a xs)) blank i h ∙ get_or-take a xs i blank l

  put_after : (i : ℕ) → a + k ≤ i → get_or put i blank ≡ get_or xs i blank
  put_after i l =
      let e : a + (k + (i - a - k)) ≡ i = omega arith in
      get_or-append_right (take a xs) (ys ++ drop k (drop a xs)) a i blank front_long (omega arith)
      ∙ get_or-append_right ys (drop k (drop a xs)) k (i - a) blank long (omega arith)
      ∙ get_or-drop k (drop a xs) (i - a - k) blank ∙ get_or-drop a xs (k + (i - a - k)) blank ∙ ap (λ (j : ℕ). get_or xs j blank) e

  -- what every cell of the part keeps, every cell does
  kept : (field : CountCell → ℕ) → ((i : ℕ) → field (get_or ys i blank) ≡ field (get_or (take k (drop a xs)) i blank)) → (i : ℕ) → field (get_or put i blank) ≡ field (get_or xs i blank)
  kept field same i = elim (cases_lt i a) [
    | inl l ↦ ap field (put_before i l)
    | inr l ↦ elim (cases_lt i (a + k)) [
      | inl m ↦
          let j = i - a in
          let e : i ≡ a + j = omega arith in
          let h : j < k = omega arith in
          ap (λ (x : ℕ). field (get_or put x blank)) e ∙ ap field (put_here j h) ∙ same j
          ∙ ap field (get_or-take k (drop a xs) j blank h ∙ get_or-drop a xs j blank) ∙ ap (λ (x : ℕ). field (get_or xs x blank)) (sym e)
      | inr m ↦ ap field (put_after i m)
    ]
  ]

  pub put_keeps : KeepsRanks (take k (drop a xs)) ys → KeepsRanks xs put
  put_keeps h = record { rank = kept (λ x. x.rank) h.rank; order = kept (λ x. x.order) h.order }
