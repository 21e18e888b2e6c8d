-- After classes are collected, sorted, marked and spread, the cells have their ranks. Assumes nothing.
use Rattle.std.proofs.Common.{◌≡◌, ℕ, suc, ◌<◌, Bool, true, false, ◌≢◌, List, length, sym, ap, ◌∙◌, subst, arith}
use Rattle.format.specs.Ranked.{count_below, first, is_first, before, rank}
use Rattle.counts.specs.declared.cells.CountCell.{CountCell}
use Rattle.counts.specs.Sameness.{Sameness}
use Rattle.counts.specs.Cells.{first_at, rank_at, order_at}
use Rattle.counts.specs.Tables.{Filled}
use Rattle.counts.specs.Ranking.{listed, scored, score_of, classes, rank_of, Standing, KeepsCounts, Joins}
use Rattle.counts.specs.Heaps.{Apart, Sorted, Shuffled, Entries}
use Rattle.counts.proofs.Classes.{count_ext, first_inside, first_le, first_first, is_first_yes}
use Rattle.counts.proofs.Standings.{listed_is, before_is}
use Rattle.counts.proofs.Swaps.{counts_more, listed_same, scored_same, entries_same}
use Rattle.counts.proofs.Sinking.{before_total}
use Rattle.counts.proofs.Orders.{ranked_place, place_rank, rank_inside}

-- the cells at the start, and with the classes collected, sorted and marked, and with the ranks spread
module _ {alike : ℕ → ℕ → Bool} {n : ℕ} (s : Sameness alike n) (worth : ℕ → ℕ → ℕ) (k : ℕ) (start listing sorting marking spreading : List CountCell)
    (each : length start ≡ n) (count : k ≡ count_below n (listed start)) (entries : Entries n listing k) (apart : Apart k (order_at listing)) (listing-rest : KeepsCounts start listing)
    (sorted : Sorted (scored worth listing) 1 k (order_at sorting)) (moved : Shuffled k (order_at listing) (order_at sorting)) (sorting-rest : KeepsCounts listing sorting) where
  rest_sorting : KeepsCounts start sorting
  rest_sorting = counts_more start listing sorting listing-rest sorting-rest

  pub entries_sorting : Entries n sorting k
  entries_sorting = entries_same n k k listing sorting (omega arith) entries moved sorting-rest

  pub apart_sorting : Apart k (order_at sorting)
  apart_sorting = moved.apart k (omega arith) apart

  module _ (t : Filled alike n start) where
    abbrev score : ℕ → ℕ
    score = score_of n alike worth

    abbrev O : ℕ → ℕ
    O = order_at sorting

    pub all_classes : k ≡ classes n alike
    all_classes = count ∙ count_ext n (listed start) (is_first n alike) (listed_is s t each)

    inside : (r : ℕ) → r < k → O r < n
    inside r l = omega (arith, (entries_sorting.heads r l).inside, rest_sorting.long)

    heads : (r : ℕ) → r < k → is_first n alike (O r) ≡ true
    heads r l = sym (listed_is s t each (O r) (inside r l)) ∙ sym (listed_same start sorting rest_sorting (O r)) ∙ (entries_sorting.heads r l).head

    rising : (r : ℕ) → suc r < k → before score (O r) (O (suc r)) ≡ true
    rising r l =
        let m : r < k = omega arith in
        let ne : O r ≢ O (suc r) = λ e. (let q = apart_sorting r (suc r) m l e in let z : ⊥ = omega arith in z) in
        let b : before (scored worth start) (O (suc r)) (O r) ≡ false =
        subst (λ (f : ℕ → ℕ). before f (O (suc r)) (O r) ≡ false) (scored_same worth start listing listing-rest) (sorted r (suc r) (omega arith) (omega arith) l) in
        before_total score (O r) (O (suc r)) (sym (before_is s t each worth (O (suc r)) (O r) (inside (suc r) l) (inside r m) (heads (suc r) l) (heads r m)) ∙ b) ne

    module _ (marked : (r : ℕ) → r < k → rank_at marking (O r) ≡ r) (marking-orders : (r : ℕ) → order_at marking r ≡ O r) (marking-rest : KeepsCounts sorting marking)
        (spread : (i : ℕ) → i < n → Joins marking i → rank_at spreading i ≡ rank_at marking (first_at marking i)) (spreading-orders : (r : ℕ) → order_at spreading r ≡ order_at marking r) (spreading-rest : KeepsCounts marking spreading) where
      rest_marking : KeepsCounts start marking
      rest_marking = counts_more start sorting marking rest_sorting marking-rest

      first_is : (i : ℕ) → i < n → first_at marking i ≡ first n alike i
      first_is i l = rest_marking.first i ∙ t.firsts i l

      joins : (i : ℕ) → i < n → Joins marking i
      joins i l =
          let e = first_is i l in
          let f : first_at marking (first n alike i) ≡ first n alike i = first_is (first n alike i) (first_inside s i l) ∙ first_first s i l in
          (omega (arith, first_le s i l), ap (first_at marking) e ∙ f ∙ sym e)

      ranks : (i : ℕ) → i < n → rank_at spreading i ≡ rank_of n alike score i
      ranks i l =
          let f = first n alike i in
          let lf : f < n = first_inside s i l in
          let head : is_first n alike f ≡ true = is_first_yes n alike f (first_first s i l) in
          let at : O (rank n alike score f) ≡ f = place_rank n alike score k O all_classes inside heads rising f lf head in
          let low : rank n alike score f < k = rank_inside n alike score k O all_classes inside heads rising f lf head in
          spread i l (joins i l) ∙ ap (rank_at marking) (first_is i l ∙ sym at) ∙ marked (rank n alike score f) low

      pub standing : Standing alike score n spreading
      standing = record {
        long = omega (arith, t.long, rest_marking.long, spreading-rest.long);
        ranks = ranks;
        orders = λ r l. spreading-orders r ∙ marking-orders r ∙ ranked_place n alike score k O all_classes inside heads rising r (subst (λ (m : ℕ). r < m) (sym all_classes) l);
      }

-- ranks stay where cells keep their ranks and orders
pub standing_stays : (same : ℕ → ℕ → Bool) (score : ℕ → ℕ) (n : ℕ) (old new : List CountCell) → length new ≡ length old → ((i : ℕ) → rank_at new i ≡ rank_at old i) → ((r : ℕ) → order_at new r ≡ order_at old r) → Standing same score n old → Standing same score n new
standing_stays same score n old new long ranks orders t = record {
  long = omega (arith, t.long);
  ranks = λ i l. ranks i ∙ t.ranks i l;
  orders = λ r l. orders r ∙ t.orders r l;
}
