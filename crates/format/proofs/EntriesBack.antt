-- Headers and entries are read back as lists.
use Rattle.std.proofs.Common.{◌≡◌, ℕ, suc, ◌+◌, false, not, ◌&&◌, leb, List, [], ◌∷◌, ◌++◌, map, length, refl, ap, append_assoc, add-zero, arith, length-append}
use mathlib.Core.Option.{some}
use Rattle.std.specs.List.{AllByRecursion}
use Rattle.std.proofs.lemmas.Bool.{le-ltb}
use Rattle.format.specs.Bytes.{joined}
use Rattle.format.specs.Account.{Variation, Declined, Condition, first_of}
use Rattle.format.specs.Packed.{Points}
use Rattle.format.specs.Streams.{rest, found}
use Rattle.format.specs.Reader.{Checked, Header, Entry, is_embedded, peak_index, read_header, read_headers, peak_conditions, at_entry, read_entry, read_entries}
use Rattle.format.specs.Promise.{InStep, GivesBack}
use Rattle.format.proofs.Gives.{front_taken, front_dropped}

-- the headers of a list of variations, the first of them at this place
abbrev pub headers_at : (Variation → List ℕ) → (Variation → ℕ → Header) → List Variation → ℕ → List Header
headers_at bytes header [] at = []
headers_at bytes header (v ∷ vs) at = header v at ∷ headers_at bytes header vs (at + length (bytes v))

module _ (g a : ℕ) (bytes : Variation → List ℕ) (header : Variation → ℕ → Header) where
  pub headers_back :
      (i : ℕ) (vs : List Variation) (r : List ℕ) (at : ℕ) →
      AllByRecursion (λ v. (r : List ℕ) (at : ℕ) → read_header a (bytes v ++ r) at ≡ some (rest (header v at) r (at + length (bytes v)))) vs →
      read_headers g a i (length vs) (joined (map bytes vs) ++ r) at ≡ found (rest (headers_at bytes header vs at) r (at + length (joined (map bytes vs))))
  headers_back i [] r at h = rw add-zero
  headers_back i (v ∷ vs) r at h =
      rw (append_assoc (bytes v) (joined (map bytes vs)) r, h.0 (joined (map bytes vs) ++ r) at, headers_back (suc i) vs r (at + length (bytes v)) h.1)
      (ap (λ (n : ℕ). found (rest (header v at ∷ headers_at bytes header vs (at + length (bytes v))) r n)) (omega (arith, length-append (bytes v) (joined (map bytes vs)))))

  pub headers_all : (P : Header → Type 0) (vs : List Variation) (at : ℕ) → AllByRecursion (λ v. (at : ℕ) → P (header v at)) vs → AllByRecursion P (headers_at bytes header vs at)
  headers_all P [] at h = tt
  headers_all P (v ∷ vs) at h = (h.0 at, headers_all P vs (at + length (bytes v)) h.1)

  pub headers_in_step : (R : Variation → Header → Type 0) (vs : List Variation) (at : ℕ) → AllByRecursion (λ v. (at : ℕ) → R v (header v at)) vs → InStep R vs (headers_at bytes header vs at)
  headers_in_step R [] at h = tt
  headers_in_step R (v ∷ vs) at h = (h.0 at, headers_in_step R vs (at + length (bytes v)) h.1)

-- every shared peak that a header names is there
pub no_peak_amiss :
    (g count i : ℕ) (hs : List Header) (cs : List Condition) → AllByRecursion (λ h. (not (is_embedded h.index) && leb count (peak_index h.index)) ≡ false) hs →
    first_of (peak_conditions g count i hs ++ cs) ≡ first_of cs
no_peak_amiss g count i [] cs h = refl
no_peak_amiss g count i (h ∷ hs) cs k = rw k.0 (no_peak_amiss g count (suc i) hs cs k.1)

-- a header and the data of its variation, whatever place they have
pub record Reads (c : Checked) (p : ℕ) (shared : Points) (bs : List ℕ) (v : Variation) (h : Header) : Type 0 where
  pub size_of_data : h.size ≡ length bs
  pub entry : Entry
  pub entry_found : (d : ℕ → ℕ → Declined) (at : ℕ) → read_entry c d p shared h bs at ≡ found entry
  pub given_back : GivesBack v entry

module _ (c : Checked) (g p : ℕ) (shared : Points) (bytes : Variation → List ℕ) where
  pub entries_back :
      (i : ℕ) (vs : List Variation) (hs : List Header) (r : List ℕ) (at : ℕ) → InStep (λ v h. Reads c p shared (bytes v) v h) vs hs →
      (es : List Entry) × (read_entries c g p shared i hs (joined (map bytes vs) ++ r) at ≡ found (rest es r (at + length (joined (map bytes vs))))) × InStep GivesBack vs es
  entries_back i [] [] r at h = ([], rw add-zero, tt)
  entries_back i [] (x ∷ hs) r at h = absurd h
  entries_back i (v ∷ vs) [] r at h = absurd h
  entries_back i (v ∷ vs) (x ∷ hs) r at h =
      let more = joined (map bytes vs) ++ r in
      let ih = entries_back (suc i) vs hs r (at + length (bytes v)) h.1 in
      let e = h.0.entry in (
        e ∷ ih.0,
        rw (
          append_assoc (bytes v) (joined (map bytes vs)) r,
          h.0.size_of_data,
          le-ltb (length (bytes v ++ more)) (length (bytes v)) (omega (arith, length-append (bytes v) more)),
          front_taken (length (bytes v)) (bytes v) more refl,
          h.0.entry_found (at_entry g i) at,
          front_dropped (length (bytes v)) (bytes v) more refl,
          ih.1,
        )
            (ap (λ (n : ℕ). found (rest (e ∷ ih.0) r n)) (omega (arith, length-append (bytes v) (joined (map bytes vs))))),
        (h.0.given_back, ih.2),
      )
