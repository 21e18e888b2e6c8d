use Rattle.parts.specs.OfParts.{parts_axes}
use Rattle.parts.proofs.set_parts.writing.SetPartsTableParts.axis_count.Goals as goal

pub returns : goal.returns
unfolding parts_axes
returns c = c.axis_count.ensures.is
