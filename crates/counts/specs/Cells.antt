-- What a count table's cells hold, and what its writes do. Assumes nothing.
use Rattle.std.specs.Prelude.{ℕ, ◌+◌, Bool, false, ◌&&◌, List, get_or, set, Option, ◌==◌, nat_le, nat_lt, slice_index_or, slice_set}
use Rattle.counts.specs.declared.cells.CountCell.{CountCell}
use Rattle.links.specs.Links.{linked, no_link, to_item}

-- the cell of zeros
abbrev pub blank : CountCell
blank = record { first = 0; count = 0; head = no_link; next = no_link; rank = 0; order = 0; marked = false }

-- what the cell of an item, a bucket or a rank says
abbrev pub first_at : List CountCell → ℕ → ℕ
first_at cells i = (get_or cells i blank).first

abbrev pub count_at : List CountCell → ℕ → ℕ
count_at cells i = (get_or cells i blank).count

abbrev pub head_at : List CountCell → ℕ → Option ℕ
head_at cells i = linked (get_or cells i blank).head

abbrev pub next_at : List CountCell → ℕ → Option ℕ
next_at cells i = linked (get_or cells i blank).next

abbrev pub rank_at : List CountCell → ℕ → ℕ
rank_at cells i = (get_or cells i blank).rank

abbrev pub order_at : List CountCell → ℕ → ℕ
order_at cells i = (get_or cells i blank).order

abbrev pub marked_at : List CountCell → ℕ → Bool
marked_at cells i = (get_or cells i blank).marked

-- item i, whose cell this is, is the first of a class of some of n items, as the cell says
abbrev pub lists : CountCell → ℕ → ℕ → Bool
lists c n i = c.first == i && (nat_lt 0 c.count && nat_le c.count n)

-- it is the first of a class of more than one
abbrev pub repeats_as : CountCell → ℕ → Bool
repeats_as c i = c.first == i && nat_lt 1 c.count

-- item i joins the class of item f
unfoldable pub entered : List CountCell → ℕ → ℕ → List CountCell
entered cells i f =
    let a = set cells i (record (slice_index_or cells i blank) { first = f; count = 0 }) in
    slice_set a f (record (slice_index_or a f blank) { count = count_at a f + 1 })

-- first item i comes first in the chain of bucket b
unfoldable pub chained : List CountCell → ℕ → ℕ → List CountCell
chained cells i b =
    let a = set cells i (record (slice_index_or cells i blank) { next = (get_or cells b blank).head }) in
    slice_set a b (record (slice_index_or a b blank) { head = to_item i })
