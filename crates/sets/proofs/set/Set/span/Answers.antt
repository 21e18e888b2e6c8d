use Rattle.std.proofs.Common.{◌≡◌, false, MatchOption, Option, sym, subst}
use Rattle.format.specs.Account.{begun}
use Rattle.sets.specs.declared.view.Span.{Span}
use Rattle.sets.specs.Layout.{dealt}
use Rattle.sets.specs.OfSet.{stores, sound_of, glyphs_of}
use Rattle.sets.specs.Views.{Spans}
use Rattle.sets.proofs.Lists.{begun_not}
use Rattle.sets.proofs.Shown.{spans}
use Rattle.sets.proofs.set.Set.span.Goals as goal

pub returns-in_err-place : goal.returns-in_err-place
returns-in_err-place c =
    let s = c.args.self.now in
    subst (λ (o : Option Span). MatchOption o (false ≡ begun c.args.number (glyphs_of s)) (λ p. Spans (glyphs_of s) c.args.number p)) (sym c.from_residual.ensures)
    (begun_not c.args.number s.begun s.glyphs.now (dealt (stores s)) s.within.0 c.in_err-place.ensures)

pub returns : goal.returns
returns c =
    let s = c.args.self.now in
    subst (λ (p : Span). Spans (glyphs_of s) c.args.number p) (sym c.span.ensures)
    (spans (stores s) (sound_of s) s.numbered.0 c.args.number c.in_ok-place.place c.in_ok-place.ensures.0 c.in_ok-place.ensures.1)
