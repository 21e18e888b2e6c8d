-- The first n cells of a table, or others side by side, and what the table says where only these change. Assumes nothing.
use Rattle.std.proofs.Common.{◌≡◌, ℕ, ◌+◌, ◌-◌, ◌<◌, ◌≤◌, Bool, List, ◌++◌, length, get_or, take, drop, sym, ap, ◌∙◌, inl, inr, arith, length-append, length-drop, length-take-le}
use borrow.Rule.Slice.PartMut.{put_mid, post_of}
use Rattle.std.proofs.lemmas.Bool.{cases_lt}
use Rattle.std.proofs.lemmas.List.{get_or_append_left, get_or-append_right, get_or-take, get_or-drop}
use Rattle.format.specs.Ranked.{first, is_first}
use Rattle.counts.specs.declared.cells.CountCell.{CountCell}
use Rattle.counts.specs.Cells.{blank, marked_at}
use Rattle.counts.specs.Tables.{Filled, LeavesRanks}
use Rattle.counts.specs.Ranking.{Standing, KeepsCounts, LeavesCounts}
use Rattle.counts.specs.Marking.{LeavesUnmarked}
use Rattle.counts.proofs.Classes.{count_le}
use Rattle.counts.proofs.Ranks.{standing_stays}

pub filled_front : {same : ℕ → ℕ → Bool} {n : ℕ} {cells : List CountCell} → Filled same n cells → Filled same n (take n cells)
filled_front {same} {n} {cells} t = record {
  long = omega (arith, length-take-le n cells t.long);
  inside = t.inside;
  firsts = λ i l. ap (λ (c : CountCell). c.first) (get_or-take n cells i blank l) ∙ t.firsts i l;
  counts = λ i l. ap (λ (c : CountCell). c.count) (get_or-take n cells (first n same i) blank (t.inside i l)) ∙ t.counts i l;
}

-- the first n cells become ys
module _ (n : ℕ) (cells ys : List CountCell) (long : n ≤ length cells) (each : length ys ≡ n) where
  abbrev joined : List CountCell
  joined = ys ++ drop n cells

  pub joined_front : (k : ℕ) → k < n → get_or joined k blank ≡ get_or ys k blank
  joined_front k l = get_or_append_left ys (drop n cells) blank k (omega arith)

  joined_back : (k : ℕ) → n ≤ k → get_or joined k blank ≡ get_or cells k blank
  joined_back k l =
      let e : n + (k - n) ≡ k = omega arith in
      get_or-append_right ys (drop n cells) n k blank each l ∙ get_or-drop n cells (k - n) blank ∙ ap (λ (i : ℕ). get_or cells i blank) e

  joined_long : length joined ≡ length cells
  joined_long = length-append ys (drop n cells) ∙ omega (arith, length-drop n cells)

  -- a field that those cells keep
  joined_field : (field : CountCell → ℕ) → ((k : ℕ) → field (get_or ys k blank) ≡ field (get_or (take n cells) k blank)) → (k : ℕ) → field (get_or joined k blank) ≡ field (get_or cells k blank)
  joined_field field same k = elim (cases_lt k n) [
    | inl l ↦ ap field (joined_front k l) ∙ same k ∙ ap field (get_or-take n cells k blank l)
    | inr l ↦ ap field (joined_back k l)
  ]

  pub ranks_joined : LeavesRanks n (take n cells) ys → LeavesRanks n cells joined
  ranks_joined p = record {
    long = joined_long;
    beyond = joined_back;
    rank = joined_field (λ c. c.rank) p.rank;
    order = joined_field (λ c. c.order) p.order;
  }

  pub counts_joined : KeepsCounts (take n cells) ys → LeavesCounts n cells joined
  counts_joined p = record {
    long = joined_long;
    beyond = joined_back;
    first = joined_field (λ c. c.first) p.first;
    count = joined_field (λ c. c.count) p.count;
  }

  pub unmarked_joined : LeavesUnmarked n (take n cells) ys → LeavesUnmarked n cells joined
  unmarked_joined p = record {
    long = joined_long;
    beyond = joined_back;
    rest = λ k. elim (cases_lt k n) [
      | inl l ↦
          let same : get_or joined k blank ≡ get_or ys k blank = joined_front k l in
          same ∙ p.rest k ∙ ap (λ (c : CountCell). record c { marked = marked_at ys k }) (get_or-take n cells k blank l)
          ∙ ap (λ (b : Bool). record (get_or cells k blank) { marked = b }) (ap (λ (c : CountCell). c.marked) (sym same))
      | inr l ↦
          let same : get_or joined k blank ≡ get_or cells k blank = joined_back k l in
          same ∙ ap (λ (b : Bool). record (get_or cells k blank) { marked = b }) (ap (λ (c : CountCell). c.marked) (sym same))
    ];
  }

  pub standing_joined : (same : ℕ → ℕ → Bool) (score : ℕ → ℕ) → Standing same score n ys → Standing same score n joined
  standing_joined same score t = record {
    long = omega (arith, joined_long);
    ranks = λ i l. ap (λ (c : CountCell). c.rank) (joined_front i l) ∙ t.ranks i l;
    orders = λ r l.
        let inside : r < n = omega (arith, count_le n (is_first n same)) in
        ap (λ (c : CountCell). c.order) (joined_front r inside) ∙ t.orders r l;
  }

-- the m cells from a on become ys
module _ (a m : ℕ) (xs ys : List CountCell) (within : a + m ≤ length xs) (long : length ys ≡ m) where
  front : length (take a xs) ≡ a
  front = length-take-le a xs (omega arith)

  -- a field that those cells keep
  field_around : (field : CountCell → ℕ) → ((j : ℕ) → field (get_or ys j blank) ≡ field (get_or (take m (drop a xs)) j blank)) → (k : ℕ) → field (get_or (put_mid a m xs ys) k blank) ≡ field (get_or xs k blank)
  field_around field same k = elim (cases_lt k a) [
    | inl l ↦
        let f = front in
        ap field (get_or_append_left (take a xs) (ys ++ post_of a m xs) blank k (omega arith) ∙ get_or-take a xs k blank l)
    | inr l ↦ ap field (get_or-append_right (take a xs) (ys ++ post_of a m xs) a k blank front l) ∙ elim (cases_lt (k - a) m) [
      | inl b ↦
          let e : a + (k - a) ≡ k = omega arith in
          ap field (get_or_append_left ys (post_of a m xs) blank (k - a) (omega arith)) ∙ same (k - a)
          ∙ ap field (get_or-take m (drop a xs) (k - a) blank b ∙ get_or-drop a xs (k - a) blank ∙ ap (λ (i : ℕ). get_or xs i blank) e)
      | inr b ↦
          let e : a + (m + (k - a - m)) ≡ k = omega arith in
          ap field (get_or-append_right ys (post_of a m xs) m (k - a) blank long b ∙ get_or-drop m (drop a xs) (k - a - m) blank ∙ get_or-drop a xs (m + (k - a - m)) blank ∙ ap (λ (i : ℕ). get_or xs i blank) e)
    ]
  ]

  length_around : length (put_mid a m xs ys) ≡ length xs
  length_around =
      let f = front in
      let p : length (post_of a m xs) ≡ length xs - a - m = length-drop m (drop a xs) ∙ ap (λ (i : ℕ). i - m) (length-drop a xs) in
      length-append (take a xs) (ys ++ post_of a m xs) ∙ omega (arith, length-append ys (post_of a m xs))

  -- ranks stay where only these cells are filled again
  pub standing_around : (same : ℕ → ℕ → Bool) (score : ℕ → ℕ) (n k : ℕ) → LeavesRanks k (take m (drop a xs)) ys → Standing same score n xs → Standing same score n (put_mid a m xs ys)
  standing_around same score n k p t =
      standing_stays same score n xs (put_mid a m xs ys) length_around (field_around (λ c. c.rank) p.rank) (field_around (λ c. c.order) p.order) t
