use Rattle.std.proofs.Common.{◌≡◌, ◌*◌, map, get_or, take, drop, refl, ap, ◌∙◌, drop-drop}
use Rattle.format.specs.Account.{Variation}
use Rattle.format.specs.Glyphs.{peak}
use Rattle.sets.specs.OfSet.{stores, sound_of, glyphs_of}
use Rattle.sets.specs.Views.{all_variations, no_variation}
use Rattle.sets.proofs.Choices.{stored_shown}
use Rattle.sets.proofs.Shown.{first_third, second_third, last_third, axes_shown, rows_long, few_shown, peak_shown, starts_shown, ends_shown}
use Rattle.sets.proofs.set.Set.shown.Goals as goal

pub returns : goal.returns
returns c =
    let s = c.args.self.now in
    let i = c.args.i in
    let n = s.axes.count in
    let at = 3 * n * i in
    let xs = drop at s.values.now in
    let v : Variation = get_or (all_variations (glyphs_of s)) i no_variation in
    let a : c.from-axes.result ≡ n = c.from-axes.ensures ∙ c.axis_count.ensures.is in
    let t = c.tents_at.ensures in
    let p : c.split_at.result.0.now ≡ peak v =
    c.split_at.ensures.front ∙ (λ j. take (a j) (t j)) ∙ first_third n xs ∙ peak_shown (stores s) (sound_of s) i at c.requires refl in
    let b : c.split_at-2.result.0.now ≡ map (λ t. t.start) v.tents =
    c.split_at-2.ensures.front ∙ ap (take c.from-axes.result) c.split_at.ensures.back ∙ (λ j. take (a j) (drop (a j) (t j)))
    ∙ second_third n xs ∙ ap (take n) (drop-drop n at s.values.now) ∙ starts_shown (stores s) (sound_of s) i at c.requires refl in
    let e : c.split_at-2.result.1.now ≡ map (λ t. t.end) v.tents =
    c.split_at-2.ensures.back ∙ ap (drop c.from-axes.result) c.split_at.ensures.back ∙ (λ j. drop (a j) (drop (a j) (t j)))
    ∙ last_third n xs ∙ ap (take n) (drop-drop (2 * n) at s.values.now) ∙ ends_shown (stores s) (sound_of s) i at c.requires refl in
    record {
      axes = axes_shown (stores s) (sound_of s) i at c.requires refl;
      each_axis = (
        rows_long (stores s) (sound_of s) i at c.requires refl (λ t. t.peak) _ p,
        rows_long (stores s) (sound_of s) i at c.requires refl (λ t. t.start) _ b,
        rows_long (stores s) (sound_of s) i at c.requires refl (λ t. t.end) _ e,
      );
      few = few_shown (stores s) (sound_of s) i at c.requires refl _ c.deltas_at.ensures;
      peak = p;
      starts = b;
      ends = e;
      deltas = c.deltas_at.ensures;
      stored = stored_shown (stores s) (sound_of s) i c.requires;
    }
