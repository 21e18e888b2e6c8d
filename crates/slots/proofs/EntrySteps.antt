-- The parts of an entry, one after another.
use Rattle.std.proofs.Common.{◌≡◌, ℕ, ◌<◌, ◌≤◌, Bool, List, [], length, drop, ℤ, Ok, ap, ◌∙◌}
use Rattle.std.proofs.lemmas.List.{drop_more, drop_all}
use Rattle.format.specs.Account.{Declined}
use Rattle.format.specs.Packed.{Points}
use Rattle.format.specs.Streams.{Rest, rest, Read, found, fault, and_then, read_deltas}
use Rattle.format.specs.Reader.{Header, Checked, Entry, is_private, read_entry, points_of, entry_of, nothing_left}
use Rattle.streams.specs.declared.points.PointSet.{PointSet}
use Rattle.slots.specs.declared.entry.Parts.{Parts}
use Rattle.streams.specs.Deltas.{PastDeltas}
use Rattle.slots.specs.Entries.{own_or_shared, PointsRead, EntryRead}

-- the rest of an entry's reading after its points, and after its x
abbrev after_points : Checked → (ℕ → ℕ → Declined) → ℕ → Header → Rest Points → Read Entry
after_points c d p h q =
    and_then (read_deltas d (length (points_of p q.value)) q.left q.place) λ x.
    and_then (read_deltas d (length (points_of p q.value)) x.left x.place) λ y.
    nothing_left d y.place (entry_of c h p q.value x.value y.value) y.left

abbrev after_x : Checked → (ℕ → ℕ → Declined) → ℕ → Header → Points → Rest (List ℤ) → Read Entry
after_x c d p h set x =
    and_then (read_deltas d (length (points_of p set)) x.left x.place) λ y.
    nothing_left d y.place (entry_of c h p set x.value y.value) y.left

module _ (c : Checked) (d : ℕ → ℕ → Declined) (p : ℕ) (s : Points) (h : Header) (bs : List ℕ) (at : ℕ) (b : Bool) (e : is_private h.index ≡ b) where
  points_are : (set : Points) (x : ℕ) → own_or_shared d p s b (drop at bs) at ≡ found (rest set (drop x bs) x) → read_entry c d p s h (drop at bs) at ≡ after_points c d p h (rest set (drop x bs) x)
  points_are set x r = rw e (ap (λ t. and_then t (after_points c d p h)) r)

  module _ (set : Points) (x n : ℕ) (r : own_or_shared d p s b (drop at bs) at ≡ found (rest set (drop x bs) x)) (k : length (points_of p set) ≡ n) where
    x_is : (xs : List ℤ) (y : ℕ) → read_deltas d n (drop x bs) x ≡ found (rest xs (drop y bs) y) → read_entry c d p s h (drop at bs) at ≡ after_x c d p h set (rest xs (drop y bs) y)
    x_is xs y q = points_are set x r ∙ ap (λ t. and_then t (after_x c d p h set)) (ap (λ m. read_deltas d m (drop x bs) x) k ∙ q)

    pub y_is : (xs ys : List ℤ) (y end : ℕ) (left : List ℕ) → read_deltas d n (drop x bs) x ≡ found (rest xs (drop y bs) y) → read_deltas d n (drop y bs) y ≡ found (rest ys left end) →
        read_entry c d p s h (drop at bs) at ≡ nothing_left d end (entry_of c h p set xs ys) left
    y_is xs ys y end left q g = x_is xs y q ∙ ap (λ t. and_then t (λ y. nothing_left d y.place (entry_of c h p set xs y.value) y.left)) (ap (λ m. read_deltas d m (drop y bs) y) k ∙ g)

    pub left_over : (xs ys : List ℤ) (y end : ℕ) → read_deltas d n (drop x bs) x ≡ found (rest xs (drop y bs) y) → read_deltas d n (drop y bs) y ≡ found (rest ys (drop end bs) end) → end < length bs →
        read_entry c d p s h (drop at bs) at ≡ fault (d 24 end)
    left_over xs ys y end q g l = y_is xs ys y end (drop end bs) q g ∙ ap (nothing_left d end (entry_of c h p set xs ys)) (drop_more bs end 0 l)

-- the definition gives the entry of these parts
pub entry_is : (c : Checked) (d : ℕ → ℕ → Declined) (p : ℕ) (s : Points) (h : Header) (bs : List ℕ) (at : ℕ) (b : Bool) (q : Parts) → is_private h.index ≡ b → (r : EntryRead bs at p s b q) →
    read_entry c d p s h (drop at bs) at ≡ found (entry_of c h p r.set r.xs r.ys)
entry_is c d p s h bs at b q e r =
    y_is c d p s h bs at b e r.set q.x q.points (r.set_read d) r.number r.xs r.ys q.y r.end [] (r.x_read d) (r.y_read d)

pub parted : (bs : List ℕ) (at p : ℕ) (s : Points) (b : Bool) (set : PointSet) (y end : ℕ) → PointsRead bs at p s b set → PastDeltas bs set.past set.size (Ok y) → PastDeltas bs y set.size (Ok end) → length bs ≤ end →
    EntryRead bs at p s b (record { points = set.size; x = set.past; y = y })
parted bs at p s b set y end q x z l =
    record {
      set = q.set;
      xs = x.0;
      ys = z.0;
      end = end;
      set_read = q.is_read;
      number = q.number;
      x_read = x.1;
      y_read = λ d. z.1 d ∙ ap (λ r. found (rest z.0 r end)) (drop_all end bs l);
    }
