use Rattle.std.proofs.Common.{◌≡◌, List, ◌++◌, ℕ, ◌∙◌}
use Rattle.format.proofs.TableFront.{front}
use Rattle.tables.specs.Forms.{halves}
use Rattle.tables.specs.Parts.{head_data}
use Rattle.tables.proofs.table.Table.head.Goals as goal

-- what was put after what
after : {z x y a b : List ℕ} → z ≡ x ++ a → x ≡ y → a ≡ b → z ≡ y ++ b
after e f h = e ∙ (λ i. f i ++ h i)

pub returns : goal.returns
unfolding head_data
returns g c =
    let s = halves c.args.self.now.form in
    let gs = g.P.TableParts.glyphs c.args.self.now.parts.now in
    let a = g.P.TableParts.axes c.args.self.now.parts.now in
    let major = after c.put.ensures.bytes c.new-head.ensures c.word.ensures in
    let minor = after c.put-2.ensures.bytes major c.word-2.ensures in
    let axes = after c.put-3.ensures.bytes minor c.word-3.ensures in
    let peaks = after c.put-4.ensures.bytes axes c.word-4.ensures in
    let peaks-at = after c.put-5.ensures.bytes peaks c.long.ensures in
    let glyphs = after c.put-6.ensures.bytes peaks-at c.word-5.ensures in
    let form = after c.put-7.ensures.bytes glyphs c.word-6.ensures in
    let whole = after c.put-8.ensures.bytes form c.long-2.ensures in
    let count = c.from.ensures ∙ c.axis_count.ensures in
    let meant : front c.from.result c.shared_count.result c.peaks_start.result c.glyph_count.result c.flags.result c.slots_start.result ≡ head_data s a gs =
    λ i. front (count i) (c.shared_count.ensures.is i) (c.peaks_start.ensures.is i) (c.glyph_count.ensures.is i) (c.flags.ensures i) (c.slots_start.ensures.is i) in
    whole ∙ meant
