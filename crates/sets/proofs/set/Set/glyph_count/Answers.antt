use Rattle.std.proofs.Common.{sym, arith}
use Rattle.sets.specs.OfSet.{stores, sound_of}
use Rattle.sets.proofs.Full.{glyphs_long, few_glyphs}
use Rattle.sets.proofs.Shortness.{short_set}
use Rattle.sets.proofs.set.Set.glyph_count.Goals as goal

pub returns : goal.returns
returns c =
    let s = c.args.self.now in
    let l = glyphs_long (stores s) (sound_of s) in
    record {
      is = sym l;
      few = λ full. let f = few_glyphs (stores s) (sound_of s) s.numbered.1 full in omega arith;
      short = short_set (stores s) (sound_of s);
    }
