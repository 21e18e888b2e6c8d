use Rattle.std.proofs.Common.{◌≡◌, ◌+◌, get_or, set, false, pos, ◌∙◌, arith, w16, to_z, of_z, rules}
use Rattle.std.proofs.lemmas.List.Edits.{paste_more}
use Rattle.std.proofs.ByRecursion.{All-more}
use Rattle.format.specs.Account.{ShortDelta}
use Rattle.format.specs.Bytes.{Short}
use Rattle.variations.specs.declared.delta.GlyphDelta.{GlyphDelta}
use Rattle.variations.specs.Deltas.{delta_of}
use Rattle.sets.proofs.set.add.put_deltas.Goals as goal

abbrev nothing : GlyphDelta
nothing = record { x = pos 0; y = pos 0; required = false }

pub loop-i-preserved : goal.loop-i-preserved
loop-i-preserved c =
    let i = c.loop-i.i in
    let at = c.args.at in
    let ds = c.args.deltas.now in
    let d = get_or ds i nothing in
    let x : to_z w16 (of_z w16 d.x) ≡ d.x = search rules in
    let y : to_z w16 (of_z w16 d.y) ≡ d.y = search rules in
    let short_x : Short d.x = search rules in
    let short_y : Short d.y = search rules in (
      (λ j. set (c.loop-i.invariant.0 j) (at + i) (record { x = x j; y = y j; required = d.required })) ∙ paste_more c.args.store.now at ds i nothing (omega arith) (omega arith),
      All-more (λ e. ShortDelta (delta_of e)) ds i nothing (omega arith) c.loop-i.invariant.1 (short_x, short_y),
    )
