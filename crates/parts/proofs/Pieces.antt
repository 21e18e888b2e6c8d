-- The header and the data of a variation, from what the set shows of it and whether it is marked.
use Rattle.std.proofs.Common.{◌≡◌, ℕ, ◌+◌, ◌<◌, ◌≤◌, Bool, true, false, cond, List, [], length, get_or, ℤ, Option, sym, ap, ◌∙◌, arith}
use Rattle.std.proofs.lemmas.List.{length-map}
use Rattle.format.specs.Account.{Delta, Variation}
use Rattle.format.specs.Glyphs.{peak, stored_points, is_shared, point_sets, shared_points, shared_index}
use Rattle.variations.specs.Deltas.{delta_of, deltas_of}
use Rattle.tuples.specs.Data.{data_of}
use Rattle.tuples.specs.Headers.{index_of, header_of}
use Rattle.tuples.specs.Laws.{starts, ends}
use Rattle.tuples.specs.Tents.{some_region}
use Rattle.tuples.specs.Choice.{kept_points}
use Rattle.tuples.proofs.Tying.{points_tied, data_tied, size_tied, region_tied, header_tied}
use Rattle.format.specs.Packed.{packed_points}
use Rattle.sets.specs.declared.view.GlyphDeltas.{GlyphDeltas}
use Rattle.sets.specs.Views.{Shows}
use Rattle.stores.specs.Parts.{variation_at, shared_of, header_in, data_in}
use Rattle.stores.proofs.Owed.{shared_are, header_is, data_is}
use Rattle.counting.specs.Counted.{marks}
use Rattle.parts.proofs.Marks.{mark_at, shared_marked, shared_none}
use Rattle.counting.proofs.Packed.{points_most}
use Rattle.parts.proofs.Sizes.{stored_most}

module _ (a : ℕ) (r : GlyphDeltas) (v : Variation) (h : Shows a r v) where
  pub deltas_few : length v.deltas ≤ 32767
  deltas_few =
      let e = ap length h.deltas in
      let m = length-map r.deltas.now delta_of in
      omega (arith, h.few)

  pub points_few : r.stored.points ≤ 98303
  points_few = let p = points_most v.deltas in let d = deltas_few in omega (arith, h.stored.points_are)

  pub values_few : r.stored.values ≤ 196602
  values_few = let p = stored_most v.deltas in let d = deltas_few in omega (arith, h.stored.values_are)

  -- the points that it stores
  pub points_told : packed_points (kept_points r.stored.all (deltas_of r.deltas.now)) ≡ packed_points (stored_points v.deltas)
  points_told =
      ap (λ (ds : List Delta). packed_points (kept_points r.stored.all ds)) h.deltas ∙ ap packed_points (points_tied v.deltas r.stored.all h.stored.all_is)

module _ (a : ℕ) (r : GlyphDeltas) (vs : List Variation) (j : ℕ) (l : j < length vs) (h : Shows a r (variation_at vs j)) where
  -- a marked one has the shared points
  pub shared_told : get_or (marks vs) j false ≡ true → packed_points (stored_points (variation_at vs j).deltas) ≡ shared_of vs
  shared_told m = sym (shared_marked vs j l m) ∙ shared_are vs

  module _ (b : Bool) (e : b ≡ get_or (marks vs) j false) where
    marked : b ≡ is_shared (shared_points (point_sets vs)) (stored_points (variation_at vs j).deltas)
    marked = e ∙ mark_at vs j l

    pub data_told : data_of b r.stored.all (deltas_of r.deltas.now) ≡ data_in vs (variation_at vs j)
    data_told =
        ap (λ (ds : List Delta). data_of b r.stored.all ds) h.deltas
        ∙ data_tied (shared_points (point_sets vs)) (variation_at vs j) r.stored.all b h.stored.all_is marked
        ∙ data_is vs (variation_at vs j)

    pub size_told : cond b 0 r.stored.points + r.stored.values ≡ length (data_in vs (variation_at vs j))
    size_told =
        size_tied (shared_points (point_sets vs)) (variation_at vs j) r.stored b h.stored marked ∙ ap length (data_is vs (variation_at vs j))

    pub header_told : (ps : List (List ℤ)) (n : ℕ) (i : Option ℕ) (region : Bool) →
        n ≡ length (data_in vs (variation_at vs j)) → index_of i ≡ shared_index ps (peak (variation_at vs j)) → region ≡ some_region r.peak.now r.starts.now r.ends.now →
        header_of n i region b r.peak.now r.starts.now r.ends.now ≡ header_in ps vs (variation_at vs j)
    header_told ps n i region size index has =
        let v = variation_at vs j in
        let q : some_region r.peak.now r.starts.now r.ends.now ≡ some_region (peak v) (starts v) (ends v) = λ k. some_region (h.peak k) (h.starts k) (h.ends k) in
        let w : header_of n i region b r.peak.now r.starts.now r.ends.now ≡ header_of n i region b (peak v) (starts v) (ends v) = λ k. header_of n i region b (h.peak k) (h.starts k) (h.ends k) in
        w
        ∙ header_tied ps (shared_points (point_sets vs)) v n i region b (size ∙ ap length (sym (data_is vs v))) index (has ∙ q ∙ region_tied v) marked
        ∙ header_is ps vs v

-- where none is marked, there are no shared points
pub none_shared : (vs : List Variation) → ((j : ℕ) → j < length vs → get_or (marks vs) j false ≡ false) → shared_of vs ≡ []
none_shared vs h = sym (shared_are vs) ∙ shared_none vs h
