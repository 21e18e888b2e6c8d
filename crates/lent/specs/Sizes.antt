-- How many cells of each kind a memory has.
use Rattle.std.specs.Prelude.{length}
use Rattle.lent.specs.declared.memory.Memory.{Memory}
use Rattle.lent.specs.declared.memory.Sizes.{Sizes}

abbrev pub sizes_of : Memory → Sizes
sizes_of m =
    record {
      glyphs = length m.glyphs.items;
      variations = length m.variations.items;
      values = length m.values.items;
      deltas = length m.deltas.items;
      counts = length m.counts.items;
    }
