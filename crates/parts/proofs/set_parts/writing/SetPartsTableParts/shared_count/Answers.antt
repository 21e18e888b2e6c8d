use Rattle.std.proofs.Common.{◌≡◌, ℕ, ◌*◌, sym, ap, ◌∙◌}
use Rattle.sets.specs.OfSet.{account_of, glyphs_of}
use Rattle.tables.specs.Parts.{peak_count}
use Rattle.parts.specs.OfParts.{parts_axes, parts_glyphs}
use Rattle.parts.proofs.Peaks.{count_is, words_are}
use Rattle.parts.proofs.set_parts.writing.SetPartsTableParts.shared_count.Goals as goal

pub returns-clause-is : goal.returns-clause-is
unfolding parts_glyphs
returns-clause-is c = c.args.self.now.shared ∙ count_is (glyphs_of c.args.self.now.set.now)

pub returns-clause-words : goal.returns-clause-words
unfolding parts_axes parts_glyphs
returns-clause-words c =
    let p = c.args.self.now in
    let s = p.set.now in
    let e : p.peaks ≡ peak_count (glyphs_of s) = p.shared ∙ count_is (glyphs_of s) in
    words_are s ∙ ap (λ (n : ℕ). 2 * ((account_of s).axes * n)) (sym e)
