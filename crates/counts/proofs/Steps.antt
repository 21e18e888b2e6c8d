-- What the writes of a count table leave. Assumes nothing.
use Rattle.std.proofs.Common.{◌≡◌, ℕ, ◌+◌, ◌<◌, ◌≤◌, ◌≢◌, List, length, get_or, set, Some, sym, refl, add-one, ap, ◌∙◌, subst, inl, inr, arith, length-set, get_or-set_other, get_or-set_same}
use Rattle.std.proofs.lemmas.Bool.{cases_eq}
use Rattle.counts.specs.declared.cells.CountCell.{CountCell}
use Rattle.counts.specs.Cells.{blank, first_at, count_at, head_at, next_at, rank_at, order_at, entered, chained}
use Rattle.links.specs.Links.{linked, to_item}
use Rattle.links.proofs.Links.{linked_to}
use Rattle.counts.specs.Tables.{LeavesRanks}

-- what one field of every cell says, after a write of one cell
module _ {V : Type 0} (field : CountCell → V) (cells : List CountCell) (i : ℕ) (c : CountCell) where
  pub field_same : i < length cells → field (get_or (set cells i c) i blank) ≡ field c
  field_same l = ap field (get_or-set_same cells i c blank l)

  pub field_other : (k : ℕ) → k ≢ i → field (get_or (set cells i c) k blank) ≡ field (get_or cells k blank)
  field_other k ne = ap field (get_or-set_other cells i k c blank ne)

  pub field_kept : i < length cells → field c ≡ field (get_or cells i blank) → (k : ℕ) → field (get_or (set cells i c) k blank) ≡ field (get_or cells k blank)
  field_kept l e k = elim (cases_eq k i) [ inl q ↦ rw q (field_same l ∙ e) | inr ne ↦ field_other k ne ]

-- ---- what neither touches ranks nor the cells from n on
pub leaves_more : (n : ℕ) (a b c : List CountCell) → LeavesRanks n a b → LeavesRanks n b c → LeavesRanks n a c
leaves_more n a b c p q = record {
  long = q.long ∙ p.long;
  beyond = λ k l. q.beyond k l ∙ p.beyond k l;
  rank = λ k. q.rank k ∙ p.rank k;
  order = λ k. q.order k ∙ p.order k;
}

pub leaves_set : (n i : ℕ) (cells : List CountCell) (c : CountCell) → i < n → i < length cells → c.rank ≡ rank_at cells i → c.order ≡ order_at cells i → LeavesRanks n cells (set cells i c)
leaves_set n i cells c li l r o = record {
  long = length-set cells i c;
  beyond = λ k m. let ne : k ≢ i = omega arith in get_or-set_other cells i k c blank ne;
  rank = field_kept (λ x. x.rank) cells i c l r;
  order = field_kept (λ x. x.order) cells i c l o;
}

-- ---- item i joins the class of item f
module _ (cells : List CountCell) (i f : ℕ) (within : i < length cells) (le : f ≤ i) where
  abbrev start : CountCell
  start = record (get_or cells i blank) { first = f; count = 0 }

  abbrev noted : List CountCell
  noted = set cells i start

  abbrev bumped : CountCell
  bumped = record (get_or noted f blank) { count = count_at noted f + 1 }

  noted_long : f < length noted
  noted_long = simp length-set (omega arith)

  pub entered_here : first_at (entered cells i f) i ≡ f
  unfolding entered
  entered_here = field_kept (λ x. x.first) noted f bumped noted_long refl i ∙ field_same (λ x. x.first) cells i start within

  pub entered_first : (k : ℕ) → k ≢ i → first_at (entered cells i f) k ≡ first_at cells k
  unfolding entered
  entered_first k ne = field_kept (λ x. x.first) noted f bumped noted_long refl k ∙ field_other (λ x. x.first) cells i start k ne

  pub entered_head : (k : ℕ) → head_at (entered cells i f) k ≡ head_at cells k
  unfolding entered
  entered_head k = field_kept (λ x. linked x.head) noted f bumped noted_long refl k ∙ field_kept (λ x. linked x.head) cells i start within refl k

  pub entered_next : (k : ℕ) → next_at (entered cells i f) k ≡ next_at cells k
  unfolding entered
  entered_next k = field_kept (λ x. linked x.next) noted f bumped noted_long refl k ∙ field_kept (λ x. linked x.next) cells i start within refl k

  pub entered_joined : f < i → count_at (entered cells i f) f ≡ count_at cells f + 1
  unfolding entered
  entered_joined l =
      let ne : f ≢ i = omega arith in
      field_same (λ x. x.count) noted f bumped noted_long ∙ ap (λ (x : ℕ). x + 1) (field_other (λ x. x.count) cells i start f ne)

  pub entered_new : f ≡ i → count_at (entered cells i f) f ≡ 1
  unfolding entered
  entered_new e =
      let zero : count_at noted f ≡ 0 = subst (λ (x : ℕ). count_at noted x ≡ 0) (sym e) (field_same (λ x. x.count) cells i start within) in
      field_same (λ x. x.count) noted f bumped noted_long ∙ ap (λ (x : ℕ). x + 1) zero

  pub entered_count : (k : ℕ) → k ≢ f → k ≢ i → count_at (entered cells i f) k ≡ count_at cells k
  unfolding entered
  entered_count k nf ni = field_other (λ x. x.count) noted f bumped k nf ∙ field_other (λ x. x.count) cells i start k ni

  pub entered_leaves : (n : ℕ) → i < n → LeavesRanks n cells (entered cells i f)
  unfolding entered
  entered_leaves n l = leaves_more n cells noted _ (leaves_set n i cells start l within refl refl) (leaves_set n f noted bumped (omega arith) noted_long refl refl)

-- ---- item i comes first in the chain of bucket b
module _ (cells : List CountCell) (i b : ℕ) (within : i < length cells) (bucket : b < length cells) where
  abbrev tied : CountCell
  tied = record (get_or cells i blank) { next = (get_or cells b blank).head }

  abbrev hung : List CountCell
  hung = set cells i tied

  abbrev top : CountCell
  top = record (get_or hung b blank) { head = to_item i }

  hung_long : b < length hung
  hung_long = simp length-set bucket

  pub chained_first : (k : ℕ) → first_at (chained cells i b) k ≡ first_at cells k
  unfolding chained
  chained_first k = field_kept (λ x. x.first) hung b top hung_long refl k ∙ field_kept (λ x. x.first) cells i tied within refl k

  pub chained_count : (k : ℕ) → count_at (chained cells i b) k ≡ count_at cells k
  unfolding chained
  chained_count k = field_kept (λ x. x.count) hung b top hung_long refl k ∙ field_kept (λ x. x.count) cells i tied within refl k

  pub chained_next : next_at (chained cells i b) i ≡ head_at cells b
  unfolding chained
  chained_next = field_kept (λ x. linked x.next) hung b top hung_long refl i ∙ field_same (λ x. linked x.next) cells i tied within

  pub chained_nexts : (k : ℕ) → k ≢ i → next_at (chained cells i b) k ≡ next_at cells k
  unfolding chained
  chained_nexts k ne = field_kept (λ x. linked x.next) hung b top hung_long refl k ∙ field_other (λ x. linked x.next) cells i tied k ne

  pub chained_head : head_at (chained cells i b) b ≡ Some i
  unfolding chained
  chained_head = field_same (λ x. linked x.head) hung b top hung_long ∙ linked_to i

  pub chained_heads : (k : ℕ) → k ≢ b → head_at (chained cells i b) k ≡ head_at cells k
  unfolding chained
  chained_heads k ne = field_other (λ x. linked x.head) hung b top k ne ∙ field_kept (λ x. linked x.head) cells i tied within refl k

  pub chained_leaves : (n : ℕ) → i < n → b < n → LeavesRanks n cells (chained cells i b)
  unfolding chained
  chained_leaves n l m = leaves_more n cells hung _ (leaves_set n i cells tied l within refl refl) (leaves_set n b hung top m hung_long refl refl)
