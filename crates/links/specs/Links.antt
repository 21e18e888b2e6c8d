-- The item that a link leads to. Assumes nothing.
use Rattle.std.specs.Prelude.{ℕ, zero, suc, ◌+◌, Option, Some, None}
use Rattle.links.specs.declared.link.Link.{Link}

abbrev pub no_link : Link
no_link = record { code = 0 }

abbrev pub to_item : ℕ → Link
to_item i = record { code = i + 1 }

-- the link to an item, or to none
abbrev pub link_of : Option ℕ → Link
link_of None = no_link
link_of (Some i) = to_item i

abbrev item_of : ℕ → Option ℕ
item_of zero = None
item_of (suc i) = Some i

abbrev pub linked : Link → Option ℕ
linked l = item_of l.code
