-- What a cell for a new glyph does to the stores.
use Rattle.std.proofs.Common.{◌≡◌, ℕ, Some, ◌+◌, ◌-◌, ◌%◌, ◌<◌, ◌≤◌, false, ◌≢◌, List, [], ◌∷◌, ◌++◌, length, get_or, take, set, sym, refl, ap, ◌∙◌, subst, inl, inr, mod-lt, add-one, arith, length-set, take-suc-set}
use lib.Seq.{take-set-le}
use Rattle.std.proofs.lemmas.Bool.{cases_eq, false≢true}
use Rattle.format.specs.Account.{begun, glyph, accepted}
use Rattle.links.specs.declared.link.Link.{Link}
use Rattle.links.specs.Links.{linked}
use Rattle.sets.specs.declared.cells.GlyphCell.{GlyphCell}
use Rattle.sets.specs.Cells.{variations_in, blank_glyph, number_at, count_at, first_at, head_at, next_at}
use Rattle.sets.specs.Index.{previous, Heads, Nexts}
use Rattle.sets.specs.Layout.{Stores, account_in, dealt, groups}
use Rattle.sets.specs.Sound.{Sound, Chained, Firsts}
use Rattle.sets.proofs.Chains.{more_heads, more_nexts, kept_heads, kept_nexts, kept_apart, more_apart, kept_low, more_low}
use Rattle.sets.proofs.Lists.{groups_snoc, variations_in_snoc, kept_groups, kept_variations, field_same, field_other, field_kept, begun_at}

-- the cell of the new glyph, and the cell whose place is its bucket
abbrev pub new_cell : Stores → ℕ → Link → GlyphCell
new_cell s n x = record { number = n; variations = 0; first = s.added; head = (get_or s.glyphs s.begun blank_glyph).head; next = x }

abbrev pub with_new : Stores → ℕ → Link → List GlyphCell
with_new s n x = set s.glyphs s.begun (new_cell s n x)

abbrev pub headed : List GlyphCell → ℕ → Link → GlyphCell
headed cs b x = record { number = number_at cs b; variations = count_at cs b; first = first_at cs b; head = x; next = (get_or cs b blank_glyph).next }

abbrev pub begun_cells : Stores → ℕ → ℕ → Link → Link → List GlyphCell
begun_cells s n b x h = set (with_new s n x) b (headed (with_new s n x) b h)

abbrev pub begin_stores : Stores → ℕ → ℕ → Link → Link → Stores
begin_stores s n b x h = record {
  axes = s.axes;
  names = s.names;
  glyphs = begun_cells s n b x h;
  variations = s.variations;
  values = s.values;
  deltas = s.deltas;
  begun = s.begun + 1;
  added = s.added;
  moved = s.moved;
}

module _ (s : Stores) (n b : ℕ) (x t : Link) (room : s.begun < length s.glyphs) where
  abbrev mid : List GlyphCell
  mid = with_new s n x

  abbrev new : GlyphCell
  new = new_cell s n x

  abbrev cells : List GlyphCell
  cells = begun_cells s n b x t

  abbrev top : GlyphCell
  top = headed mid b t

  mid_long : length mid ≡ length s.glyphs
  mid_long = length-set s.glyphs s.begun new

  pub begun_long : length cells ≡ length s.glyphs
  begun_long = length-set mid b top ∙ mid_long

  taken : take (s.begun + 1) mid ≡ take s.begun s.glyphs ++ (new ∷ [])
  taken = rw add-one (take-suc-set s.glyphs s.begun new room)

  counted_to : (i : ℕ) → i ≤ s.begun → variations_in (take i cells) ≡ variations_in (take i s.glyphs)
  counted_to i l = kept_variations mid b i top refl ∙ ap variations_in (take-set-le i s.glyphs s.begun new l)

  counted_all : variations_in (take (s.begun + 1) cells) ≡ variations_in (take s.begun s.glyphs)
  counted_all = kept_variations mid b (s.begun + 1) top refl ∙ ap variations_in taken ∙ variations_in_snoc (take s.begun s.glyphs) new ∙ omega arith

  pub begin_account : account_in (begin_stores s n b x t) ≡ accepted (account_in s) (glyph n)
  begin_account =
      let l = begun_long in
      let f : length cells - (s.begun + 1) ≡ length s.glyphs - s.begun - 1 = omega arith in
      let g : groups (take (s.begun + 1) cells) (dealt s) ≡ groups (take s.begun s.glyphs) (dealt s) ++ (record { number = n; variations = [] } ∷ []) =
      kept_groups mid b (s.begun + 1) top (dealt s) refl refl
      ∙ ap (λ (r : List GlyphCell). groups r (dealt s)) taken ∙ groups_snoc (take s.begun s.glyphs) new (dealt s) in
      cc

  -- the new cell alone, behind those in use
  abbrev pub mid_stores : Stores
  mid_stores = record { axes = s.axes; names = s.names; glyphs = mid; variations = s.variations; values = s.values; deltas = s.deltas; begun = s.begun; added = s.added; moved = s.moved }

  mid_other : {X : Type 0} (field : GlyphCell → X) (k : ℕ) → k < s.begun → field (get_or mid k blank_glyph) ≡ field (get_or s.glyphs k blank_glyph)
  mid_other {X} field k q = let ne : k ≢ s.begun = omega arith in field_other field s.glyphs s.begun new k ne

  mid_heads : (k : ℕ) → head_at mid k ≡ head_at s.glyphs k
  mid_heads k = field_kept (λ c. linked c.head) s.glyphs s.begun new room refl k

  mid_chained : Chained s.begun s.glyphs → Chained s.begun mid
  mid_chained h =
      subst (λ (k : ℕ). Heads (number_at mid) (head_at mid) s.begun k × Nexts (number_at mid) (next_at mid) s.begun k) (sym mid_long) (
        kept_heads (number_at s.glyphs) (number_at mid) (head_at s.glyphs) (next_at s.glyphs) (head_at mid) (next_at mid) s.begun (length s.glyphs)
            (mid_other (λ c. c.number)) mid_heads (mid_other (λ c. linked c.next)) h.0,
        kept_nexts (number_at s.glyphs) (number_at mid) (head_at s.glyphs) (next_at s.glyphs) (head_at mid) (next_at mid) s.begun (length s.glyphs)
            (mid_other (λ c. c.number)) mid_heads (mid_other (λ c. linked c.next)) h.1,
      )

  pub mid_sound : Sound s → Sound mid_stores
  mid_sound h =
      let l = mid_long in
      record {
        within = (omega (arith, h.within.0), h.within.1, h.within.2, h.within.3);
        counted = (ap variations_in (take-set-le s.begun s.glyphs s.begun new (omega arith)) ∙ h.counted.0, h.counted.1);
        placed = (
          (λ i q. mid_other (λ c. c.first) i q ∙ h.placed.0 i q ∙ ap variations_in (sym (take-set-le i s.glyphs s.begun new (omega arith)))),
          h.placed.1,
        );
        chained = mid_chained h.chained;
        numbered = (
          kept_apart (number_at s.glyphs) (number_at mid) s.begun (mid_other (λ c. c.number)) h.numbered.0,
          kept_low (number_at s.glyphs) (number_at mid) s.begun (mid_other (λ c. c.number)) h.numbered.1,
        );
        few = ((λ i q. subst (λ (k : ℕ). k ≤ 4095) (sym (mid_other (λ c. c.variations) i q)) (h.few.0 i q)), h.few.1);
        chosen = h.chosen;
        short = h.short;
      }

  module _ (h : Sound s) (bucket : b ≡ n % length s.glyphs) (link : linked x ≡ previous (number_at s.glyphs) (length s.glyphs) b s.begun) (front : linked t ≡ Some s.begun) where
    in_mid : b < length mid
    in_mid = let l = mid_long in let p : 0 < length s.glyphs = omega arith in let m : n % length s.glyphs < length s.glyphs = mod-lt _ p in omega arith

    begin_firsts : Firsts (s.begun + 1) cells
    begin_firsts i l =
        field_kept (λ c. c.first) mid b top in_mid refl i
        ∙ elim (cases_eq i s.begun) [
          | inl e ↦
              subst (λ (y : ℕ). first_at mid y ≡ variations_in (take y cells)) (sym e)
              (field_same (λ c. c.first) s.glyphs s.begun new room ∙ sym h.counted.0 ∙ sym (counted_to s.begun (omega arith)))
          | inr ne ↦
              let lt : i < s.begun = omega arith in
              mid_other (λ c. c.first) i lt ∙ h.placed.0 i lt ∙ sym (counted_to i (omega arith))
        ]

    number_here : number_at cells s.begun ≡ n
    number_here = field_kept (λ c. c.number) mid b top in_mid refl s.begun ∙ field_same (λ c. c.number) s.glyphs s.begun new room

    bucket_is : b ≡ number_at cells s.begun % length s.glyphs
    bucket_is = bucket ∙ ap (λ (y : ℕ). y % length s.glyphs) (sym number_here)

    number_old : (g : ℕ) → g < s.begun → number_at cells g ≡ number_at s.glyphs g
    number_old g l = field_kept (λ c. c.number) mid b top in_mid refl g ∙ mid_other (λ c. c.number) g l

    head_here : head_at cells (number_at cells s.begun % length s.glyphs) ≡ Some s.begun
    head_here = ap (head_at cells) (sym bucket_is) ∙ field_same (λ c. linked c.head) mid b top in_mid ∙ front

    heads_old : (k : ℕ) → k ≢ number_at cells s.begun % length s.glyphs → head_at cells k ≡ head_at s.glyphs k
    heads_old k ne = field_other (λ c. linked c.head) mid b top k (λ e. ne (e ∙ bucket_is)) ∙ mid_heads k

    next_here : next_at cells s.begun ≡ previous (number_at s.glyphs) (length s.glyphs) (number_at cells s.begun % length s.glyphs) s.begun
    next_here =
        field_kept (λ c. linked c.next) mid b top in_mid refl s.begun ∙ field_same (λ c. linked c.next) s.glyphs s.begun new room
        ∙ link ∙ ap (λ (y : ℕ). previous (number_at s.glyphs) (length s.glyphs) y s.begun) bucket_is

    nexts_old : (j : ℕ) → j < s.begun → next_at cells j ≡ next_at s.glyphs j
    nexts_old j l = field_kept (λ c. linked c.next) mid b top in_mid refl j ∙ mid_other (λ c. linked c.next) j l

    begin_chained : Chained (s.begun + 1) cells
    begin_chained =
        subst (λ (k : ℕ). Heads (number_at cells) (head_at cells) (s.begun + 1) k × Nexts (number_at cells) (next_at cells) (s.begun + 1) k) (sym begun_long) (
          more_heads (number_at s.glyphs) (number_at cells) (head_at s.glyphs) (next_at s.glyphs) (head_at cells) (next_at cells) s.begun (length s.glyphs)
              number_old head_here heads_old next_here nexts_old h.chained.0,
          more_nexts (number_at s.glyphs) (number_at cells) (head_at s.glyphs) (next_at s.glyphs) (head_at cells) (next_at cells) s.begun (length s.glyphs)
              number_old head_here heads_old next_here nexts_old h.chained.1,
        )

    begin_few : (i : ℕ) → i < s.begun + 1 → count_at cells i ≤ 4095
    begin_few i l =
        let e = field_kept (λ c. c.variations) mid b top in_mid refl i in
        elim (cases_eq i s.begun) [
          | inl q ↦
              let z : count_at mid i ≡ 0 = ap (λ (k : ℕ). count_at mid k) q ∙ field_same (λ c. c.variations) s.glyphs s.begun new room in
              omega arith
          | inr ne ↦
              let lt : i < s.begun = omega arith in
              let o = mid_other (λ c. c.variations) i lt in
              omega (arith, h.few.0 i lt)
        ]

    pub begin_sound : false ≡ begun n (account_in s).glyphs → n ≤ 65534 → Sound (begin_stores s n b x t)
    begin_sound new-one small =
        let l = begun_long in
        record {
          within = (omega arith, h.within.1, h.within.2, h.within.3);
          counted = (counted_all ∙ h.counted.0, h.counted.1);
          placed = (begin_firsts, h.placed.1);
          chained = begin_chained;
          numbered = (
            more_apart (number_at s.glyphs) (number_at cells) s.begun number_old
                (λ g l e. false≢true (new-one ∙ sym (begun_at n s.begun s.glyphs (dealt s) g (omega arith) l (e ∙ number_here)))) h.numbered.0,
            more_low (number_at s.glyphs) (number_at cells) s.begun number_old (subst (λ (y : ℕ). y ≤ 65534) (sym number_here) small) h.numbered.1,
          );
          few = (begin_few, h.few.1);
          chosen = h.chosen;
          short = h.short;
        }
