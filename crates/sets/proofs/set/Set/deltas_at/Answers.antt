use Rattle.std.proofs.Common.{ℕ, ◌+◌, ◌*◌, ◌≤◌, List, length, get_or, take, drop, sym, refl, ap, ◌∙◌, subst}
use Rattle.variations.specs.declared.delta.GlyphDelta.{GlyphDelta}
use Rattle.variations.specs.Deltas.{deltas_of}
use Rattle.sets.specs.Cells.{blank_variation}
use Rattle.sets.specs.OfSet.{stores, sound_of}
use Rattle.sets.proofs.Shown.{deltas_fit, deltas_shown}
use Rattle.sets.proofs.set.Set.deltas_at.Goals as goal

pub deltas_from-requires : goal.deltas_from-requires
deltas_from-requires c =
    let s = c.args.self.now in
    subst (λ (n : ℕ). (get_or s.variations.now c.args.i blank_variation).start + n ≤ length s.deltas.now) (sym c.from.ensures) (deltas_fit (stores s) (sound_of s) c.args.i c.requires)

pub returns : goal.returns
returns c =
    let s = c.args.self.now in
    ap (λ (ds : List GlyphDelta). deltas_of ds)
    (c.deltas_from.ensures ∙ ap (λ (n : ℕ). take n (drop (get_or s.variations.now c.args.i blank_variation).start s.deltas.now)) c.from.ensures)
    ∙ deltas_shown (stores s) (sound_of s) c.args.i (3 * s.axes.count * c.args.i) c.requires refl
