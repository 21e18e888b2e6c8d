-- What the form of a table's offsets means.
use Rattle.std.specs.Prelude.{Bool, true, false}
use Rattle.tables.specs.declared.form.OffsetForm.{OffsetForm}
use Rattle.tables.specs.declared.form.OffsetForm.TheVariants.{Short, Long}

-- whether the offsets are halved
abbrev pub halves : OffsetForm → Bool
halves Short = true
halves Long = false
