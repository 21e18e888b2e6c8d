-- What links lead to.
use Rattle.std.proofs.Common.{◌≡◌, ℕ, ◌<◌, Some, None, Option, IfSome, refl, ap, ◌∙◌, add-one}
use Rattle.links.specs.Links.{linked, to_item, link_of}

pub linked_to : (i : ℕ) → linked (to_item i) ≡ Some i
linked_to i = rw add-one refl

-- the link to an item, or to none, leads there
pub linked_of : (x : Option ℕ) → linked (link_of x) ≡ x
linked_of None = refl
linked_of (Some i) = linked_to i
