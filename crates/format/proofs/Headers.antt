-- A header is read back.
use Rattle.std.proofs.Common.{◌≡◌, ℕ, ◌+◌, ◌*◌, ◌%◌, ◌<◌, Bool, true, false, cond, not, List, [], ◌∷◌, ◌++◌, map, length, ℤ, sym, refl, ap, ◌∙◌, append-nil, add-zero, arith, length-append}
use mathlib.Core.Option.{Option, none, some}
use lib.ListN.{length-map}
use Rattle.std.specs.List.{AllByRecursion}
use Rattle.std.proofs.lemmas.Bool.{le-leb, lt-leb}
use Rattle.format.specs.Bytes.{Short, bits16, signed16, signed_words}
use Rattle.format.specs.Account.{Variation}
use Rattle.format.specs.Packed.{Points}
use Rattle.format.specs.Glyphs.{index_word, peak, peak_part, region_part, has_region, header_values, header_bytes, shared_index, data_bytes, is_shared, stored_points}
use Rattle.format.specs.Streams.{rest}
use Rattle.format.specs.Reader.{is_embedded, is_regional, is_private, peak_index, tuples, header_of, read_header}
use Rattle.format.proofs.Words.{word_pair, words_back, bits16_fits, signed16_back}

abbrev is_none : Option ℕ → Bool
is_none none = true
is_none (some i) = false

-- an index of a shared peak
abbrev pub Index : Option ℕ → Type 0
Index none = Unit {0}
Index (some i) = i < 4095

word_fits : (i : Option ℕ) (r s : Bool) → Index i → index_word i r s < 65536
word_fits none true true h = omega arith
word_fits none true false h = omega arith
word_fits none false true h = omega arith
word_fits none false false h = omega arith
word_fits (some i) true true h = omega arith
word_fits (some i) true false h = omega arith
word_fits (some i) false true h = omega arith
word_fits (some i) false false h = omega arith

pub embedded_back : (i : Option ℕ) (r s : Bool) → Index i → is_embedded (index_word i r s) ≡ is_none i
embedded_back none true true h = refl
embedded_back none true false h = refl
embedded_back none false true h = refl
embedded_back none false false h = refl
embedded_back (some i) r s h = lt-leb 32768 (index_word (some i) r s) (small r s)
  where
    small : (r s : Bool) → index_word (some i) r s < 32768
    small true true = omega arith
    small true false = omega arith
    small false true = omega arith
    small false false = omega arith

pub regional_back : (i : Option ℕ) (r s : Bool) → Index i → is_regional (index_word i r s) ≡ r
regional_back none true true h = refl
regional_back none true false h = refl
regional_back none false true h = refl
regional_back none false false h = refl
regional_back (some i) true true h = le-leb 16384 (index_word (some i) true true % 32768) (omega arith)
regional_back (some i) true false h = le-leb 16384 (index_word (some i) true false % 32768) (omega arith)
regional_back (some i) false true h = lt-leb 16384 (index_word (some i) false true % 32768) (omega arith)
regional_back (some i) false false h = lt-leb 16384 (index_word (some i) false false % 32768) (omega arith)

pub private_back : (i : Option ℕ) (r s : Bool) → Index i → is_private (index_word i r s) ≡ not s
private_back none true true h = refl
private_back none true false h = refl
private_back none false true h = refl
private_back none false false h = refl
private_back (some i) true true h = lt-leb 8192 (index_word (some i) true true % 16384) (omega arith)
private_back (some i) true false h = le-leb 8192 (index_word (some i) true false % 16384) (omega arith)
private_back (some i) false true h = lt-leb 8192 (index_word (some i) false true % 16384) (omega arith)
private_back (some i) false false h = le-leb 8192 (index_word (some i) false false % 16384) (omega arith)

pub index_back : (i : ℕ) (r s : Bool) → i < 4095 → peak_index (index_word (some i) r s) ≡ i
index_back i true true h = omega arith
index_back i true false h = omega arith
index_back i false true h = omega arith
index_back i false false h = omega arith

all_short : (zs : List ℤ) → AllByRecursion Short zs → AllByRecursion (λ z. (bits16 z < 65536) × (signed16 (bits16 z) ≡ z)) zs
all_short [] h = tt
all_short (z ∷ zs) h = ((bits16_fits z h.0, signed16_back z h.0), all_short zs h.1)

-- as many values as the flags say
values_count : (i : Option ℕ) (v : Variation) (a : ℕ) → length v.tents ≡ a → length (header_values i v) ≡ cond (is_none i) a 0 + cond (has_region v) (2 * a) 0
values_count i v a e = by i (has_region v)
  where
    pk : length (peak v) ≡ a
    pk = length-map v.tents (λ t. t.peak) ∙ e

    st : length (map (λ t. t.start) v.tents) ≡ a
    st = length-map v.tents (λ t. t.start) ∙ e

    en : length (map (λ t. t.end) v.tents) ≡ a
    en = length-map v.tents (λ t. t.end) ∙ e

    by : (i : Option ℕ) (r : Bool) → length (peak_part i (peak v) ++ region_part r v.tents) ≡ cond (is_none i) a 0 + cond r (2 * a) 0
    by none true =
        let ss = map (λ t. t.start) v.tents in
        let es = map (λ t. t.end) v.tents in
        let g : length (peak v ++ (ss ++ es)) ≡ a + 2 * a = omega (arith, pk, st, en, length-append (peak v) (ss ++ es), length-append ss es) in
        g
    by none false = ap length (append-nil (peak v)) ∙ pk ∙ sym (add-zero a)
    by (some j) true =
        let ss = map (λ t. t.start) v.tents in
        let es = map (λ t. t.end) v.tents in
        let g : length (ss ++ es) ≡ 0 + 2 * a = omega (arith, st, en, length-append ss es) in
        g
    by (some j) false = refl

pub header_back :
    (ps : List (List ℤ)) (s : Option Points) (v : Variation) (a : ℕ) (r : List ℕ) (at : ℕ) →
    let i = shared_index ps (peak v) in
    let w = index_word i (has_region v) (is_shared s (stored_points v.deltas)) in
    length v.tents ≡ a → length (data_bytes s v) < 65536 → Index i → AllByRecursion Short (header_values i v) →
    read_header a (header_bytes ps s v ++ r) at
    ≡ some (rest (header_of a at (length (data_bytes s v)) w (header_values i v)) r (at + (4 + 2 * length (header_values i v))))
header_back ps s v a r at e size small short =
    let i = shared_index ps (peak v) in
    let sh = is_shared s (stored_points v.deltas) in
    let zs = header_values i v in
    let n : cond (is_none i) a 0 + cond (has_region v) (2 * a) 0 ≡ length zs = sym (values_count i v a e) in
    let t : tuples a (index_word i (has_region v) sh) (signed_words zs ++ r) ≡ some (zs, r) =
    rw (embedded_back i (has_region v) sh small, regional_back i (has_region v) sh small, n) (words_back signed16 bits16 zs r (all_short zs short)) in
    rw (word_pair (length (data_bytes s v)) size, word_pair (index_word i (has_region v) sh) (word_fits i (has_region v) sh small), t)
