use Rattle.std.proofs.Common.{◌≡◌, ℕ, ◌*◌, List, length, ℤ, sym, ap, ◌∙◌, subst, arith}
use Rattle.std.proofs.Math.Seq.{paste}
use Rattle.format.specs.Table.{variation_count}
use Rattle.variations.specs.declared.delta.GlyphDelta.{GlyphDelta}
use Rattle.sets.specs.declared.set.Set.{Set}
use Rattle.tents.specs.declared.tent.Tent.{Tent}
use Rattle.sets.specs.Layout.{Stores, account_in}
use Rattle.sets.specs.OfSet.{stores, sound_of, glyphs_of}
use Rattle.sets.specs.Sound.{Sound}
use Rattle.sets.specs.Writing.{with_values, with_deltas, laid}
use Rattle.sets.proofs.Behind.{cell_sound}
use Rattle.sets.proofs.Enter.{counted, counted_sound}
use Rattle.sets.proofs.Entered.{entered}
use Rattle.sets.proofs.Filled.{peak_of, start_of, end_of, filled, valued_sound, filled_sound, filled_room, filled_chosen, filled_short}
use Rattle.sets.proofs.Full.{count_is}
use Rattle.sets.proofs.Shortness.{tents_tested, deltas_tested}
use Rattle.sets.proofs.set.Set.enter.Goals as goal

-- what the two writes leave, as the values and the deltas of the new variation
module _ (s : Set) (ts : List Tent) (ds : List GlyphDelta) (at : ℕ) (behind : at ≡ 3 * s.axes.count * variation_count (glyphs_of s)) where
  place : at ≡ 3 * s.axes.count * s.added
  place = behind ∙ ap (λ (n : ℕ). 3 * s.axes.count * n) (sym (count_is (stores s) (sound_of s)))

  module _ (xs : List ℤ) (put : xs ≡ laid s.values.now at ts (length ts)) where
    valued : xs ≡ (filled (stores s) ts ds).values
    valued = put ∙ ap (λ (n : ℕ). laid s.values.now n ts (length ts)) place

    written : (ys : List GlyphDelta) → ys ≡ paste s.deltas.now s.moved ds (length ds) → with_deltas (with_values (stores s) xs) ys ≡ filled (stores s) ts ds
    written ys e = λ i. with_deltas (with_values (stores s) (valued i)) (e i)

pub put_tents-requires : goal.put_tents-requires
put_tents-requires c =
    let e = place c.args.self.now c.args.tents.now c.args.deltas.now _ c.axis_values-at.ensures.long in
    omega (arith, c.requires.values, c.requires.tents)

pub invariant_of-self : goal.invariant_of-self
invariant_of-self c =
    let s : Stores = stores c.args.self.now in
    let ts = c.args.tents.now in
    let ds = c.args.deltas.now in
    let e = valued c.args.self.now ts ds _ c.axis_values-at.ensures.long c.put_tents.new.values c.put_tents.ensures.is in
    let h = subst (λ (xs : List ℤ). Sound (with_values s xs)) (sym e) (valued_sound s ts ds (sound_of c.args.self.now) c.requires) in
    record { within = h.within; counted = h.counted; placed = h.placed; chained = h.chained; numbered = h.numbered; few = h.few; chosen = h.chosen; short = h.short }

pub invariant_of-self-3 : goal.invariant_of-self-3
invariant_of-self-3 c =
    let s : Stores = stores c.args.self.now in
    let ts = c.args.tents.now in
    let ds = c.args.deltas.now in
    let e = written c.args.self.now ts ds _ c.axis_values-at.ensures.long c.put_tents.new.values c.put_tents.ensures.is c.put_deltas.new.store c.put_deltas.ensures.is in
    let h = cell_sound _ _ (subst (λ (t : Stores). Sound t) (sym e) (filled_sound s ts ds (sound_of c.args.self.now) c.requires)) in
    record { within = h.within; counted = h.counted; placed = h.placed; chained = h.chained; numbered = h.numbered; few = h.few; chosen = h.chosen; short = h.short }

pub invariant_of-self-4 : goal.invariant_of-self-4
invariant_of-self-4 c =
    let s : Stores = stores c.args.self.now in
    let ts = c.args.tents.now in
    let ds = c.args.deltas.now in
    let r = c.stored_points-stored.result in
    let h : Sound s = sound_of c.args.self.now in
    let e = written c.args.self.now ts ds _ c.axis_values-at.ensures.long c.put_tents.new.values c.put_tents.ensures.is c.put_deltas.new.store c.put_deltas.ensures.is in
    let short = c.put_tents.ensures.short in
    let k = subst (λ (t : Stores). Sound (counted t (length ds) r)) (sym e)
    (counted_sound (filled s ts ds) (length ts) (length ds) r (filled_sound s ts ds h c.requires) (filled_room s ts ds h c.requires)
    (filled_chosen s ts ds h c.requires r c.stored_points-stored.ensures)
    (filled_short s ts ds h c.requires (tents_tested peak_of (λ t q. q.0) ts short) (tents_tested start_of (λ t q. q.1) ts short) (tents_tested end_of (λ t q. q.2) ts short) (deltas_tested _ c.put_deltas.ensures.short))) in
    record { within = k.within; counted = k.counted; placed = k.placed; chained = k.chained; numbered = k.numbered; few = k.few; chosen = k.chosen; short = k.short }

pub returns-clause-account : goal.returns-clause-account
returns-clause-account c =
    let s : Stores = stores c.args.self.now in
    let ts = c.args.tents.now in
    let ds = c.args.deltas.now in
    let r = c.stored_points-stored.result in
    let e = written c.args.self.now ts ds _ c.axis_values-at.ensures.long c.put_tents.new.values c.put_tents.ensures.is c.put_deltas.new.store c.put_deltas.ensures.is in
    ap (λ (t : Stores). account_in (counted t (length ds) r)) e ∙ entered s ts ds (sound_of c.args.self.now) r c.requires
