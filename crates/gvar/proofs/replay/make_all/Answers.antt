use Rattle.std.proofs.Common.{◌≡◌, ℕ, ◌<◌, length, get_or, take, ◌∙◌, subst, add-one, arith, length-take-le, get_or-take}
use Rattle.sets.specs.OfSet.{account_of}
use Rattle.gvar.specs.Runs.{Made}
use Rattle.gvar.specs.declared.requests.Request.{Request}
use Rattle.gvar.specs.declared.requests.Request.TheVariants.{Glyph}
use Rattle.gvar.proofs.Replays.{run_noted_more, run_noted_all}
use Rattle.gvar.proofs.replay.make_all.Goals as goal

pub loop-i-preserved : goal.loop-i-preserved
loop-i-preserved g c =
    let s = g.S.Sink in
    let inv = c.loop-i.invariant in
    let qs = c.args.requests.now in
    let i = c.loop-i.i in
    let t = s.stands c.loop-i.sink in
    let t' = s.stands c.make.new.sink in
    let k = account_of c.loop-i.set in
    let k' = account_of c.make.new.set in
    let cut : length (take c.min-n.result qs) ≡ c.min-n.result = length-take-le c.min-n.result qs (omega arith) in
    let below : i < c.min-n.result = omega (arith, c.loop-i-test.true) in
    let same : get_or (take c.min-n.result qs) i (Glyph 0) ≡ get_or qs i (Glyph 0) = get_or-take c.min-n.result qs i (Glyph 0) below in (
      c.make.ensures.cells ∙ inv.0,
      rw add-one
          (run_noted_more s.step (length c.args.cells.now) qs c.loop-i.replies i (Glyph 0) c.make.result
          (account_of c.args.set.now) (s.stands c.args.sink.now) k t k' t' (omega arith) (omega arith) inv.1
          (subst (λ (q : Request). Made s.step (length c.args.cells.now) k (record { request = q; reply = c.make.result; sink = t; sink' = t' }) k') same
          (subst (λ (n : ℕ). Made s.step n k (record { request = get_or (take c.min-n.result qs) i (Glyph 0); reply = c.make.result; sink = t; sink' = t' }) k') inv.0 c.make.ensures.made))),
    )

pub returns : goal.returns
returns g c =
    let s = g.S.Sink in
    run_noted_all s.step (length c.args.cells.now) c.args.requests.now c.loop-i.replies c.loop-i.i
    (account_of c.args.set.now) (s.stands c.args.sink.now) (account_of c.loop-i.set) (s.stands c.loop-i.sink) (grind (arith, length-take-le)) c.loop-i.invariant.1
