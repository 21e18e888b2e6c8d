use Rattle.std.proofs.Common.{refl}
use Rattle.tables.proofs.Sizes.{laid_not, laid_short, laid_long}
use Rattle.tables.proofs.layout.lay_out.Goals as goal

pub returns-then-sums-gt-MOST_BYTES : goal.returns-then-sums-gt-MOST_BYTES
returns-then-sums-gt-MOST_BYTES g c =
    let gs = g.P.TableParts.glyphs c.args.parts.now in
    laid_not gs c.add_up-sums.result c.add_up-sums.ensures c.if-sums-gt-MOST_BYTES.true

pub returns-then-sums-le-MOST_SHORT : goal.returns-then-sums-le-MOST_SHORT
returns-then-sums-le-MOST_SHORT g c =
    let gs = g.P.TableParts.glyphs c.args.parts.now in
    laid_short gs c.add_up-sums.result c.add_up-sums.ensures _ c.if-sums-gt-MOST_BYTES.false c.if-sums-le-MOST_SHORT.true refl refl

pub returns : goal.returns
returns g c =
    let gs = g.P.TableParts.glyphs c.args.parts.now in
    laid_long gs c.add_up-sums.result c.add_up-sums.ensures _ c.if-sums-gt-MOST_BYTES.false c.if-sums-le-MOST_SHORT.false refl refl
