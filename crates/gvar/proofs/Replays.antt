-- Laws of runs: one call more, all calls, and the promise at every compile.
use Rattle.std.proofs.Common.{◌≡◌, ℕ, zero, suc, ◌<◌, ◌≤◌, min, List, [], ◌∷◌, ◌++◌, map, length, get_or, take, set, sym, refl, ap, ◌∙◌, subst, le_of_suc-le-suc, not-suc-le-zero, arith}
use mathlib.Core.Option.{Option, some}
use Rattle.format.specs.Account.{Account, Cells, next, after, opened}
use Rattle.format.specs.Table.{Answer}
use Rattle.format.specs.Promise.{Kept}
use Rattle.write.specs.Sinks.{Standing, Step}
use Rattle.gvar.specs.declared.requests.Request.{Request}
use Rattle.gvar.specs.declared.requests.Request.TheVariants.{Glyph, Variation, Compile}
use Rattle.gvar.specs.Compiling.{meaning_of}
use Rattle.gvar.specs.Runs.{Reply, Event, note, noted, call_of, calls_of, Made, Run, RunNoted, EveryCompileKept, Replayed}

-- Requests and replies

notes_more : (es : List Event) (e : Event) → map note (es ++ (e ∷ [])) ≡ map note es ++ (note e ∷ [])
notes_more [] e = refl
notes_more (f ∷ es) e = ap (λ (ns : List (Request × Reply)). note f ∷ ns) (notes_more es e)

noted_more : (qs : List Request) (rs : List Reply) (i : ℕ) (q : Request) (r : Reply) → i < length qs → i < length rs →
    noted (take (suc i) qs) (take (suc i) (set rs i r)) ≡ noted (take i qs) (take i rs) ++ ((get_or qs i q, r) ∷ [])
noted_more [] rs i q r h l = absurd (not-suc-le-zero h)
noted_more (p ∷ qs) [] i q r h l = absurd (not-suc-le-zero l)
noted_more (p ∷ qs) (a ∷ rs) zero q r h l = refl
noted_more (p ∷ qs) (a ∷ rs) (suc i) q r h l =
    ap (λ (ns : List (Request × Reply)). (p, a) ∷ ns) (noted_more qs rs i q r (le_of_suc-le-suc h) (le_of_suc-le-suc l))

noted_all : (qs : List Request) (rs : List Reply) (n : ℕ) → min (length qs) (length rs) ≤ n → noted (take n qs) (take n rs) ≡ noted qs rs
noted_all [] rs zero h = refl
noted_all [] rs (suc n) h = refl
noted_all (q ∷ qs) [] zero h = refl
noted_all (q ∷ qs) [] (suc n) h = refl
noted_all (q ∷ qs) (r ∷ rs) zero h = absurd (omega arith)
noted_all (q ∷ qs) (r ∷ rs) (suc n) h = ap (λ (ns : List (Request × Reply)). (q, r) ∷ ns) (noted_all qs rs n (omega arith))

module _ (step : Step) (cells : ℕ) where
  -- One call more

  run_more : (k : Account) (s : Standing) (es : List Event) (mid : Account) (t : Standing) (e : Event) (later : Account) →
      Run step cells k s es mid t → e.sink ≡ t → Made step cells mid e later → Run step cells k s (es ++ (e ∷ [])) later e.sink'
  run_more k s [] mid t e later w q m = (later, q ∙ w.1, subst (λ (x : Account). Made step cells x e later) w.0 m, (refl, refl))
  run_more k s (f ∷ es) mid t e later (n, p, a, w) q m = (n, p, a, run_more n f.sink' es mid t e later w q m)

  pub run_noted_more : (qs : List Request) (rs : List Reply) (i : ℕ) (q : Request) (r : Reply) (k : Account) (s : Standing) (mid : Account) (t : Standing) (later : Account) (t' : Standing) →
      i < length qs → i < length rs →
      RunNoted step cells (take i qs) (take i rs) k s mid t →
      Made step cells mid (record { request = get_or qs i q; reply = r; sink = t; sink' = t' }) later →
      RunNoted step cells (take (suc i) qs) (take (suc i) (set rs i r)) k s later t'
  run_noted_more qs rs i q r k s mid t later t' h l (es, n, w) m =
      let e : Event = record { request = get_or qs i q; reply = r; sink = t; sink' = t' } in (
        es ++ (e ∷ []),
        notes_more es e ∙ ap (λ (ns : List (Request × Reply)). ns ++ ((get_or qs i q, r) ∷ [])) n ∙ sym (noted_more qs rs i q r h l),
        run_more k s es mid t e later w refl m,
      )

  pub run_noted_all : (qs : List Request) (rs : List Reply) (n : ℕ) (k : Account) (s : Standing) (later : Account) (t : Standing) →
      min (length qs) (length rs) ≤ n → RunNoted step cells (take n qs) (take n rs) k s later t → RunNoted step cells qs rs k s later t
  run_noted_all qs rs n k s later t h (es, m, w) = (es, m ∙ noted_all qs rs n h, w)

  -- The promise

  -- every call leads to the next account
  made_next : (k : Account) (q : Request) (r : Reply) (s t : Standing) (k' : Account) →
      Made step cells k (record { request = q; reply = r; sink = s; sink' = t }) k' → k' ≡ next k (call_of step cells q s)
  made_next k (Glyph n) r s t k' m = m.0.1
  made_next k (Variation ts ds) r s t k' m = m.0.1
  made_next k Compile r s t k' m = m.3

  -- an event of a run was made of the account after the calls before it
  made_after : (before : List Event) (e : Event) (later : List Event) (k : Account) (s : Standing) (k' : Account) (s' : Standing) →
      Run step cells k s (before ++ (e ∷ later)) k' s' → (mid : Account) × Made step cells (after k (calls_of step cells before)) e mid
  made_after [] e later k s k' s' (mid, p, m, w) = (mid, m)
  made_after (f ∷ before) e later k s k' s' (mid, p, m, w) =
      subst (λ (x : Account). (y : Account) × Made step cells (after x (calls_of step cells before)) e y)
      (made_next k f.request f.reply f.sink f.sink' mid m)
      (made_after before e later mid f.sink' k' s' w)

  some_is : (x y : Answer) → ◌≡◌ {A = Option Answer} (some x) (some y) → x ≡ y
  some_is x y e = cc

  pub every_compile_kept : (a : ℕ) (free : Cells) (s : Standing) (es : List Event) (k : Account) (s' : Standing) →
      Run step cells (opened a free) s es k s' → EveryCompileKept step cells a free es
  every_compile_kept a free s es k s' w before e later split asked answer told =
      let made = made_after before e later (opened a free) s k s' (subst (λ (x : List Event). Run step cells (opened a free) s x k s') split w) in
      let c = subst (λ (q : Request). Made step cells (after (opened a free) (calls_of step cells before)) (record { request = q; reply = e.reply; sink = e.sink; sink' = e.sink' }) made.0) asked made.1 in
      subst (λ (x : Answer). Kept a free (calls_of step cells before) (meaning_of step e.sink) x (meaning_of step e.sink'))
      (some_is c.0 answer (sym c.1 ∙ told))
      (c.2.keeps_the_promise a free (calls_of step cells before) refl)

  pub replayed : (a : ℕ) (free : Cells) (qs : List Request) (rs : List Reply) (s : Standing) (k : Account) (s' : Standing) →
      RunNoted step cells qs rs (opened a free) s k s' → Replayed step cells a free qs rs s k s'
  replayed a free qs rs s k s' (es, n, w) = record { events = es; of_requests = n; run = w; kept = every_compile_kept a free s es k s' w }
