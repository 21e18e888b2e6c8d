-- One entry of a slot after another.
use Rattle.std.proofs.Common.{◌≡◌, ℕ, suc, ◌+◌, ◌-◌, ◌<◌, ◌≤◌, Bool, true, false, ltb, List, [], ◌∷◌, ◌++◌, length, take, drop, sym, refl, ap, ◌∙◌, arith, length-drop, length-take}
use mathlib.Core.Option.{none}
use Rattle.std.proofs.lemmas.Bool.{lt-ltb, le-ltb, ltb-true, ltb-false}
use Rattle.std.proofs.lemmas.List.{drop_all, drop-drop, drop-take}
use Rattle.format.specs.Account.{Declined}
use Rattle.format.specs.Packed.{Points}
use Rattle.format.specs.Streams.{Rest, rest, Read, found, fault, and_then}
use Rattle.format.specs.Reader.{Header, Entry, Checked, header_of, entry_of, is_private, points_of, at_entry, read_header, read_headers, read_entry, read_entries}
use Rattle.slots.specs.declared.headers.Head.{Head}
use Rattle.slots.specs.declared.entries.Step.{Step}
use Rattle.slots.specs.declared.entry.Parts.{Parts}
use Rattle.streams.specs.Ahead.{one_more}
use Rattle.slots.proofs.Prefix.{prefixed}
use Rattle.slots.specs.Heads.{HeadRead}
use Rattle.slots.specs.Entries.{EntryRead}
use Rattle.slots.specs.Walks.{EntryThere}
use Rattle.slots.proofs.Prefix.{prefixed_none, prefixed_more}
use Rattle.slots.proofs.HeadSteps.{heads_more, heads_none, heads_fault, un_one, not_both}
use Rattle.slots.proofs.EntrySteps.{entry_is}

-- the table up to the end of an entry's data
cut_by : (bs : List ℕ) (body size : ℕ) (b : Bool) → ltb (length bs) body ≡ b → size ≤ length bs - body → drop body (take (length bs - (length bs - body - size)) bs) ≡ take size (drop body bs)
cut_by bs body size false l h =
    let m : body ≤ length bs = ltb-false _ _ l in
    let e : length bs - (length bs - body - size) ≡ body + size = omega arith in
    rw e (drop-take body size bs)
cut_by bs body size true l h =
    let m : length bs < body = ltb-true _ _ l in
    let e : size ≡ 0 = omega arith in
    let t : length (take (length bs - (length bs - body - size)) bs) ≤ body = omega (arith, length-take (length bs - (length bs - body - size)) bs) in
    drop_all body _ t ∙ (rw e)

pub cut_is : (bs : List ℕ) (body size : ℕ) → size ≤ length bs - body → drop body (take (length bs - (length bs - body - size)) bs) ≡ take size (drop body bs)
cut_is bs body size h = cut_by bs body size (ltb (length bs) body) refl h

module _ (c : Checked) (g p : ℕ) (t : Points) (i : ℕ) where
  push : (e : Entry) (r : Read (Rest (List Entry))) → and_then r (λ s. found (rest (e ∷ s.value) s.left s.place)) ≡ one_more e r
  push e (found s) = refl
  push e (fault d) = refl

  one_entry : (x : Header) (tl : List Header) (bs : List ℕ) (at : ℕ) (e : Entry) → x.size ≤ length bs → read_entry c (at_entry g i) p t x (take x.size bs) at ≡ found e →
      read_entries c g p t i (x ∷ tl) bs at ≡ one_more e (read_entries c g p t (suc i) tl (drop x.size bs) (at + x.size))
  one_entry x tl bs at e l r =
      let b : ltb (length bs) x.size ≡ false = le-ltb _ _ l in
      rw (b, r) (push e (read_entries c g p t (suc i) tl (drop x.size bs) (at + x.size)))

  entry_short : (x : Header) (tl : List Header) (bs : List ℕ) (at : ℕ) → length bs < x.size → read_entries c g p t i (x ∷ tl) bs at ≡ fault (at_entry g i 21 x.at)
  entry_short x tl bs at l =
      let b : ltb (length bs) x.size ≡ true = lt-ltb _ _ l in
      rw b

  entry_wrong : (x : Header) (tl : List Header) (bs : List ℕ) (at : ℕ) (f : Declined) → x.size ≤ length bs → read_entry c (at_entry g i) p t x (take x.size bs) at ≡ fault f →
      read_entries c g p t i (x ∷ tl) bs at ≡ fault f
  entry_wrong x tl bs at f l r =
      let b : ltb (length bs) x.size ≡ false = le-ltb _ _ l in
      rw (b, r)

  module _ (bs : List ℕ) (header body a n : ℕ) (hs : List Header) (left : List ℕ) (past : ℕ) (less : i < n) (heads : read_headers g a i (n - i) (drop header bs) header ≡ found (rest hs left past)) where
    -- the first header of those that are left
    first : (h : Head) (r : HeadRead bs header a h) → (tl : List Header) × (read_headers g a (i + 1) (n - (i + 1)) (drop h.past bs) h.past ≡ found (rest tl left past)) × (hs ≡ header_of a header h.size h.index r.values ∷ tl)
    first h r = un_one (header_of a header h.size h.index r.values) (read_headers g a (i + 1) (n - (i + 1)) (drop h.past bs) h.past) hs left past (sym (heads_more g a bs header n i h less r) ∙ heads)

    pub no_header : read_header a (drop header bs) header ≡ none → (d : Declined) → read_entries c g p t i hs (drop body bs) body ≡ fault d
    no_header e d = absurd (not_both (read_headers g a i (n - i) (drop header bs) header) _ _ (heads_fault g a bs header n i less e) heads)

    pub no_data : (h : Head) → HeadRead bs header a h → length bs - body < h.size → read_entries c g p t i hs (drop body bs) body ≡ fault (at_entry g i 21 header)
    no_data h r l =
        let u = first h r in
        ap (λ z. read_entries c g p t i z (drop body bs) body) u.2
        ∙ entry_short (header_of a header h.size h.index r.values) u.0 (drop body bs) body (omega (arith, length-drop body bs))

    pub bad_entry : (h : Head) (end : ℕ) (d : Declined) → HeadRead bs header a h → h.size ≤ length bs - body → drop body (take end bs) ≡ take h.size (drop body bs) →
        ((x : Header) → is_private x.index ≡ is_private h.index → read_entry c (at_entry g i) p t x (drop body (take end bs)) body ≡ fault d) →
        read_entries c g p t i hs (drop body bs) body ≡ fault d
    bad_entry h end d r l k f =
        let u = first h r in
        let x = header_of a header h.size h.index r.values in
        ap (λ z. read_entries c g p t i z (drop body bs) body) u.2
        ∙ entry_wrong x u.0 (drop body bs) body d (omega (arith, length-drop body bs)) (ap (λ z. read_entry c (at_entry g i) p t x z body) (sym k) ∙ f x refl)

    pub good_entry : (shared : ℕ) (s : Step) (num : length (points_of p t) ≡ shared) (y : EntryThere bs header body a p shared s) →
        (tl : List Header) × (read_headers g a (i + 1) (n - (i + 1)) (drop s.head.past bs) s.head.past ≡ found (rest tl left past))
        × (read_entries c g p t i hs (drop body bs) body
        ≡ one_more (entry_of c (header_of a header s.head.size s.head.index y.head.values) p (y.parts t num).set (y.parts t num).xs (y.parts t num).ys) (read_entries c g p t (i + 1) tl (drop s.next bs) s.next))
        × (hs ≡ header_of a header s.head.size s.head.index y.head.values ∷ tl)
    good_entry shared s num y =
        let r = y.head in
        let h = s.head in
        let u = first h r in
        let x = header_of a header h.size h.index r.values in
        let q = y.parts t num in
        let e = entry_of c x p q.set q.xs q.ys in
        let k : suc i ≡ i + 1 = omega arith in
        let read : read_entry c (at_entry g i) p t x (take h.size (drop body bs)) body ≡ found e =
        ap (λ z. read_entry c (at_entry g i) p t x z body) (sym y.is_cut) ∙ entry_is c (at_entry g i) p t x (take s.end bs) body (is_private h.index) s.parts refl q in (
          u.0,
          u.1,
          ap (λ z. read_entries c g p t i z (drop body bs) body) u.2
              ∙ one_entry x u.0 (drop body bs) body e (omega (arith, length-drop body bs, y.fits)) read
              ∙ ap (λ z. one_more e (read_entries c g p t (suc i) u.0 z (body + h.size))) (drop-drop h.size body bs)
              ∙ ap (λ z. one_more e (read_entries c g p t (suc i) u.0 (drop z bs) z)) (sym y.next)
              ∙ ap (λ j. one_more e (read_entries c g p t j u.0 (drop s.next bs) s.next)) k,
          u.2,
        )

-- the entries so far are in front of those that are left
abbrev pub EntriesSoFar : List ℕ → ℕ → ℕ → ℕ → ℕ → ℕ → ℕ → ℕ → ℕ → ℕ → Type 0
EntriesSoFar bs header body a p n shared i h place =
    (c : Checked) (g : ℕ) (t : Points) (hs : List Header) (left : List ℕ) (past : ℕ) → length (points_of p t) ≡ shared →
    read_headers g a 0 n (drop header bs) header ≡ found (rest hs left past) →
    (es : List Entry) × (tl : List Header) × (read_headers g a i (n - i) (drop h bs) h ≡ found (rest tl left past))
    × (read_entries c g p t 0 hs (drop body bs) body ≡ prefixed es (read_entries c g p t i tl (drop place bs) place))

module _ (bs : List ℕ) (header body a p n shared : ℕ) where
  pub entries_none : EntriesSoFar bs header body a p n shared 0 header body
  entries_none c g t hs left past num e = let z : n - 0 ≡ n = omega arith in ([], hs, rw z e, prefixed_none (read_entries c g p t 0 hs (drop body bs) body))

  pub entries_more : (i h place : ℕ) (s : Step) → i < n → EntriesSoFar bs header body a p n shared i h place → EntryThere bs h place a p shared s →
      EntriesSoFar bs header body a p n shared (i + 1) s.head.past s.next
  entries_more i h place s l f y c g t hs left past num e =
      let q = f c g t hs left past num e in
      let m = good_entry c g p t i bs h place a n q.1 left past l q.2 shared s num y in
      let r = y.parts t num in
      let x = entry_of c (header_of a h s.head.size s.head.index y.head.values) p r.set r.xs r.ys in
      (q.0 ++ (x ∷ []), m.0, m.1, q.3 ∙ ap (prefixed q.0) m.2 ∙ prefixed_more q.0 x _)

  pub entries_all : (i h place : ℕ) → n ≤ i → EntriesSoFar bs header body a p n shared i h place →
      (c : Checked) (g : ℕ) (t : Points) (hs : List Header) (left : List ℕ) (past : ℕ) → length (points_of p t) ≡ shared →
      read_headers g a 0 n (drop header bs) header ≡ found (rest hs left past) → (es : List Entry) × (read_entries c g p t 0 hs (drop body bs) body ≡ found (rest es (drop place bs) place))
  entries_all i h place l f c g t hs left past num e =
      let q = f c g t hs left past num e in
      let k : found (rest [] (drop h bs) h) ≡ found (rest q.1 left past) = sym (heads_none g a bs h n i l) ∙ q.2 in
      let z : rest [] (drop h bs) h ≡ rest q.1 left past = cc in
      (q.0 ++ [], q.3 ∙ ap (λ w. prefixed q.0 (read_entries c g p t i w (drop place bs) place)) (sym (ap (λ w. w.value) z)))

  pub entries_fault : (i h place : ℕ) (d : ℕ → Declined) → i < n → EntriesSoFar bs header body a p n shared i h place →
      ((c : Checked) (g : ℕ) (t : Points) (n : ℕ) (hs : List Header) (left : List ℕ) (past : ℕ) → length (points_of p t) ≡ shared → i < n →
      read_headers g a i (n - i) (drop h bs) h ≡ found (rest hs left past) → read_entries c g p t i hs (drop place bs) place ≡ fault (d g)) →
      (c : Checked) (g : ℕ) (t : Points) (hs : List Header) (left : List ℕ) (past : ℕ) → length (points_of p t) ≡ shared →
      read_headers g a 0 n (drop header bs) header ≡ found (rest hs left past) → read_entries c g p t 0 hs (drop body bs) body ≡ fault (d g)
  entries_fault i h place d l f w c g t hs left past num e =
      let q = f c g t hs left past num e in
      q.3 ∙ ap (prefixed q.0) (w c g t n q.1 left past num l q.2)

pub there : (bs : List ℕ) (header body a p shared : ℕ) (h : Head) (q : Parts) (have : ℕ) (tb : List ℕ) (b : Bool) → have ≡ length bs - body → h.size ≤ have → HeadRead bs header a h →
    tb ≡ take (length bs - (have - h.size)) bs → b ≡ is_private h.index → ((t : Points) → length (points_of p t) ≡ shared → EntryRead tb body p t b q) →
    EntryThere bs header body a p shared (record { head = h; end = length bs - (have - h.size); next = body + h.size; parts = q })
there bs header body a p shared h q have tb b eh l r et eb f =
    record {
      head = r;
      fits = omega arith;
      is_cut = rw eh (cut_is bs body h.size (omega arith));
      inside = omega arith;
      next = refl;
      parts = λ t num. rw (et, eb) at (f t num);
    }

pub wrong_entry : (c : Checked) (g p : ℕ) (t : Points) (i : ℕ) (bs : List ℕ) (header body a n : ℕ) (hs : List Header) (left : List ℕ) (past : ℕ) (less : i < n)
    (heads : read_headers g a i (n - i) (drop header bs) header ≡ found (rest hs left past)) (h : Head) (have : ℕ) (tb : List ℕ) (b : Bool) (d : Declined) → have ≡ length bs - body → h.size ≤ have → HeadRead bs header a h →
    tb ≡ take (length bs - (have - h.size)) bs → b ≡ is_private h.index →
    ((x : Header) → is_private x.index ≡ b → read_entry c (at_entry g i) p t x (drop body tb) body ≡ fault d) →
    read_entries c g p t i hs (drop body bs) body ≡ fault d
wrong_entry c g p t i bs header body a n hs left past less heads h have tb b d eh l r et eb f =
    bad_entry c g p t i bs header body a n hs left past less heads h (length bs - (have - h.size)) d r (omega arith) (rw eh (cut_is bs body h.size (omega arith)))
    (λ x e. ap (λ z. read_entry c (at_entry g i) p t x (drop body z) body) (sym et) ∙ f x (e ∙ sym eb))

-- the parts of an entry in the same bytes
abbrev pub moved : (bs bs' : List ℕ) (at p : ℕ) (s : Points) (b : Bool) (q : Parts) → bs' ≡ bs → EntryRead bs at p s b q → EntryRead bs' at p s b q
moved bs bs' at p s b q e r =
    record {
      set = r.set;
      xs = r.xs;
      ys = r.ys;
      end = r.end;
      set_read = λ d. rw e (r.set_read d);
      number = r.number;
      x_read = λ d. rw e (r.x_read d);
      y_read = λ d. rw e (r.y_read d);
    }
