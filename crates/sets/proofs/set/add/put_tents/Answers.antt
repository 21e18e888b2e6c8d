use Rattle.std.proofs.Common.{◌≡◌, ◌+◌, length, map, get_or, set, pos, None, sym, ◌∙◌, subst, arith, w16, to_z, of_z, rules}
use Rattle.std.proofs.lemmas.List.{get_or-map}
use Rattle.std.proofs.ByRecursion.{All-more}
use Rattle.format.specs.Account.{ShortTent}
use Rattle.format.specs.Bytes.{Short}
use Rattle.tents.specs.declared.tent.Tent.{Tent}
use Rattle.tents.specs.Tents.{tent_of}
use Rattle.sets.proofs.Filled.{peak_of, start_of, end_of}
use Rattle.sets.proofs.Laid.{laid_more}
use Rattle.sets.proofs.set.add.put_tents.Goals as goal

abbrev nothing : Tent
nothing = record { peak = pos 0; bounds = None }

pub loop-i-preserved : goal.loop-i-preserved
loop-i-preserved c =
    let i = c.loop-i.i in
    let at = c.args.at in
    let ts = c.args.tents.now in
    let n = length ts in
    let t = get_or ts i nothing in
    let b = c.extent-bounds.result in
    let p : to_z w16 (of_z w16 t.peak) ≡ t.peak = search rules in
    let s : to_z w16 (of_z w16 b.min) ≡ b.min = search rules in
    let e : to_z w16 (of_z w16 b.max) ≡ b.max = search rules in
    let ps : to_z w16 (of_z w16 t.peak) ≡ get_or (map peak_of ts) i (pos 0) = p ∙ sym (get_or-map peak_of ts i nothing (pos 0) (omega arith)) in
    let ss : to_z w16 (of_z w16 b.min) ≡ get_or (map start_of ts) i (pos 0) = s ∙ c.extent-bounds.ensures.min ∙ sym (get_or-map start_of ts i nothing (pos 0) (omega arith)) in
    let es : to_z w16 (of_z w16 b.max) ≡ get_or (map end_of ts) i (pos 0) = e ∙ c.extent-bounds.ensures.max ∙ sym (get_or-map end_of ts i nothing (pos 0) (omega arith)) in
    let short_peak : Short t.peak = search rules in
    let short_start : Short b.min = search rules in
    let short_end : Short b.max = search rules in (
      (λ j. set (set (set (c.loop-i.invariant.0 j) (at + i) (ps j)) (at + n + i) (ss j)) (at + n + n + i) (es j)) ∙ laid_more c.args.values.now at ts i c.requires c.loop-i-test.true,
      All-more (λ (x : Tent). ShortTent (tent_of x)) ts i nothing (omega arith) c.loop-i.invariant.1 (short_peak, subst Short c.extent-bounds.ensures.min short_start, subst Short c.extent-bounds.ensures.max short_end),
    )
