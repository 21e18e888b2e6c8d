use Rattle.std.proofs.Common.{◌≡◌, ℕ, ◌%◌, ◌<◌, ◌≤◌, Some, length, sym, ap, ◌∙◌, subst, arith}
use Rattle.links.specs.Links.{linked}
use Rattle.links.proofs.Links.{linked_of, linked_to}
use Rattle.sets.specs.OfSet.{stores, sound_of}
use Rattle.sets.specs.Cells.{number_at}
use Rattle.sets.specs.Index.{previous}
use Rattle.sets.proofs.Begin.{mid_sound, begin_sound, begin_account}
use Rattle.sets.proofs.Chains.{Inside, inside_fits, previous_inside}
use Rattle.sets.proofs.set.Set.begin.Goals as goal

pub invariant_of-self : goal.invariant_of-self
invariant_of-self c =
    let s = c.args.self.now in
    let n = c.args.number in
    let h = mid_sound (stores s) n (c.from.result % length s.glyphs.now) c.of-next.result c.of-next.result c.requires.room (sound_of s) in
    record { within = h.within; counted = h.counted; placed = h.placed; chained = h.chained; numbered = h.numbered; few = h.few; chosen = h.chosen; short = h.short }

pub invariant_of-self-2 : goal.invariant_of-self-2
invariant_of-self-2 c =
    let s = c.args.self.now in
    let n = c.args.number in
    let cs = s.glyphs.now in
    let b = c.from.result % length cs in
    let room = c.requires.room in
    let inside = subst (Inside (number_at cs) (length cs) b s.begun) (sym c.chain.ensures) (previous_inside (number_at cs) (length cs) b s.begun) in
    let link : linked c.of-next.result ≡ previous (number_at cs) (length cs) b s.begun =
    ap linked (c.of-next.ensures.item (inside_fits (number_at cs) (length cs) b s.begun _ c.chain.result inside (omega arith))) ∙ linked_of c.chain.result ∙ c.chain.ensures in
    let front : linked c.of-head.result ≡ Some s.begun = ap linked (c.of-head.ensures.item (omega arith)) ∙ linked_to s.begun in
    let h = begin_sound (stores s) n b c.of-next.result c.of-head.result room (sound_of s) (ap (λ (x : ℕ). x % length cs) c.from.ensures) link front c.requires.new c.requires.small in
    record { within = h.within; counted = h.counted; placed = h.placed; chained = h.chained; numbered = h.numbered; few = h.few; chosen = h.chosen; short = h.short }

pub returns-clause-account : goal.returns-clause-account
returns-clause-account c =
    let s = c.args.self.now in
    begin_account (stores s) c.args.number (c.from.result % length s.glyphs.now) c.of-next.result c.of-head.result c.requires.room
