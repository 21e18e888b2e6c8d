use Rattle.format.proofs.TableFound.{reading_lies_in_the_slot}
use Rattle.format.proofs.found.reading_lies_in_the_slot.Goals as goal

pub returns : goal.returns
returns c = reading_lies_in_the_slot
