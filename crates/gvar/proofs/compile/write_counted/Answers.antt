use Rattle.std.proofs.Common.{◌≡◌, ◌<◌, length, refl, Result, MatchResult, arith, rules, tests}
use Rattle.std.proofs.lemmas.Result.{err_from_is_err_and}
use Rattle.format.specs.Table.{even_total, glyphs_bytes, table_bytes}
use Rattle.format.specs.Answers.{long_glyphs, long_table}
use Rattle.format.proofs.Mapped.{ok_told, err_told}
use Rattle.sets.specs.declared.refusal.Refusal.TheVariants.{GlyphsTooLarge}
use Rattle.tables.specs.declared.layout.Layout.{Layout}
use Rattle.tables.specs.declared.layout.TooLarge.{TooLarge}
use Rattle.tables.specs.Layouts.{Laid}
use Rattle.parts.specs.OfParts.{parts_axes, parts_glyphs}
use Rattle.gvar.proofs.compile.write_counted.Goals as goal

pub returns-in_err-layout : goal.returns-in_err-layout
returns-in_err-layout g c =
    let gs = parts_glyphs c.args.parts.now in
    let p = err_from_is_err_and c.from_residual-in_err-layout.result c.from_residual-in_err-layout.ensures.1 in
    let t = err_told (λ (r : Result Layout TooLarge). MatchResult r (Laid gs) (λ _. 67108864 < even_total (glyphs_bytes gs))) _ c.lay_out.result c.map_err.result c.map_err.ensures.cases _ c.in_err-layout.was c.lay_out.ensures in
    let e : c.in_err-layout.field-0.0 ≡ GlyphsTooLarge = search (rules, tests) in
    rw (p.1, p.2, e) (record { outcome = (refl, λ cells k. long_glyphs k c.in_ok-fit_sizes.ensures t.1) })

pub returns-then-length-allowance : goal.returns-then-length-allowance
returns-then-length-allowance g c =
    let gs = parts_glyphs c.args.parts.now in
    let laid : Laid gs c.in_ok-layout.layout = ok_told (λ (r : Result Layout TooLarge). MatchResult r (Laid gs) (λ _. 67108864 < even_total (glyphs_bytes gs))) _ c.lay_out.result c.map_err.result c.map_err.ensures.cases _ c.in_ok-layout.was c.lay_out.ensures in
    let table = table_bytes (parts_axes c.args.parts.now) gs in
    let long : (g.S.Sink.stands c.args.sink.now).allowance < length table =
    omega (arith, c.if-length-allowance.true, c.allowance.ensures, c.table_length-length.ensures.is laid) in
    record { outcome = (refl, λ cells k. long_table k c.in_ok-fit_sizes.ensures laid.small long) }
