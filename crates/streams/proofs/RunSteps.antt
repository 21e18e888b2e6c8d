-- What is ahead of a cursor over runs, run by run and value by value.
use Rattle.std.proofs.Common.{◌≡◌, ℕ, zero, suc, ◌+◌, ◌-◌, ◌<◌, ◌≤◌, Bool, true, false, ltb, List, [], ◌∷◌, length, get_or, drop, Some, None, Ok, Err, Option as Maybe, Result, sym, refl, ap, ◌∙◌, subst, zero-add, arith}
use mathlib.Core.Path.{fun_ext}
use Rattle.std.proofs.lemmas.Bool.{cond-false, ne_eqb, ltb-false, lt-ltb, le-ltb}
use Rattle.std.proofs.lemmas.List.{drop_more, drop_all}
use Rattle.streams.specs.declared.fault.StreamFault.{StreamFault}
use Rattle.streams.specs.declared.runs.RunState.{RunState}
use Rattle.streams.specs.declared.runs.RunState.TheVariants.{Between, Inside, Done}
use Rattle.streams.specs.declared.runs.Unpacked.{Unpacked}
use Rattle.streams.specs.declared.runs.RunCursor.{RunCursor}
use Rattle.streams.specs.Ahead.{Ahead, ends, fails, gives, answer_of, rest_of, fails_if}
use Rattle.streams.specs.Runs.{Form, run_state, value_ahead, run_ahead, begun_ahead, control_ahead, runs_ahead, stream_ahead, state_ahead, ahead, RunStep}
use Rattle.streams.proofs.Steps.{Exactly, not_ended}

-- with a value of a run to come
some_state : {K : Type 0} (k : K) (n : ℕ) → run_state k (suc n) ≡ Inside k n
some_state k n =
    let e : suc n - 1 ≡ n = omega arith in
    cond-false _ _ _ (ne_eqb (suc n) 0 (λ e. omega arith)) ∙ ap (Inside k) e

module _ {P K V : Type 0} (f : Form P K V) (bs : List ℕ) where
  -- more fuel changes nothing
  fuel : (m m' k : ℕ) (p : P) (at : ℕ) → k ≤ m → k ≤ m' → runs_ahead f bs m k p at ≡ runs_ahead f bs m' k p at
  fuel zero zero k p at h i = refl
  fuel zero (suc m') zero p at h i = refl
  fuel (suc m) zero zero p at h i = refl
  fuel (suc m) (suc m') zero p at h i = refl
  fuel zero (suc m') (suc k) p at h i = absurd (omega arith)
  fuel (suc m) zero (suc k) p at h i = absurd (omega arith)
  fuel (suc m) (suc m') (suc k) p at h i =
      ap (control_ahead f bs (drop at bs) at (suc k) p) (fun_ext (λ n. fun_ext (λ q. fun_ext (λ past. fuel m m' (k - n) q past (omega arith) (omega arith)))))

  -- a control byte

  no_control : (left : ℕ) (p : P) (at : ℕ) → 0 < left → length bs ≤ at → stream_ahead f bs left p at ≡ fails (f.blames at)
  no_control zero p at q h = absurd (omega arith)
  no_control (suc left) p at q h = rw (drop_all at bs h)

  no_run : (left : ℕ) (p : P) (at : ℕ) → 0 < left → at < length bs → f.begins (get_or bs at 0) ≡ None → stream_ahead f bs left p at ≡ fails (f.blames at)
  no_run zero p at q h e = absurd (omega arith)
  no_run (suc left) p at q h e = rw (drop_more bs at 0 h, e)

  run_too_long : (left : ℕ) (p : P) (at : ℕ) (k : K) (n : ℕ) → 0 < left → at < length bs → f.begins (get_or bs at 0) ≡ Some (k, n) → left ≤ n → stream_ahead f bs left p at ≡ fails (f.blames at)
  run_too_long zero p at k n q h e l = absurd (omega arith)
  run_too_long (suc left) p at k n q h e l =
      let t : ltb (suc left) (suc n) ≡ true = lt-ltb _ _ (omega arith) in
      rw (drop_more bs at 0 h, e, t)

  entered : (left : ℕ) (p : P) (at : ℕ) (k : K) (n : ℕ) → 0 < left → at < length bs → f.begins (get_or bs at 0) ≡ Some (k, n) → n < left →
      stream_ahead f bs left p at ≡ run_ahead f bs k at (suc n) p (at + 1) (stream_ahead f bs (left - (n + 1)))
  entered zero p at k n q h e l = absurd (omega arith)
  entered (suc left) p at k n q h e l =
      let t : ltb (suc left) (suc n) ≡ false = le-ltb _ _ (omega arith) in
      let s : suc left - (n + 1) ≡ left - n = omega arith in
      rw (drop_more bs at 0 h, e, t, s)
      (ap (run_ahead f bs k at (suc n) p (at + 1)) (fun_ext (λ q. fun_ext (λ past. fuel left (left - n) (left - n) q past (omega arith) (omega arith)))))

  -- a state with n values of a run to come, also where n is 0
  after_value : (k : K) (n control at left : ℕ) (p : P) → state_ahead f bs (run_state k n) control at left p ≡ run_ahead f bs k control n p at (stream_ahead f bs left)
  after_value k zero control at left p = refl
  after_value k (suc n) control at left p = rw (some_state k n)

  -- as many values as counted
  exact_value : (control : ℕ) (o : Maybe (Unpacked V P)) (more : P → ℕ → Ahead V) (m : ℕ) → ((q : P) (past : ℕ) → Exactly (more q past) m) → Exactly (value_ahead f bs control o more) (suc m)
  exact_value control None more m h = tt
  exact_value control (Some u) more m h = h u.packing u.past

  exact_run : (k : K) (control n : ℕ) (p : P) (at : ℕ) (more : P → ℕ → Ahead V) (left : ℕ) → ((q : P) (past : ℕ) → Exactly (more q past) left) → Exactly (run_ahead f bs k control n p at more) (n + left)
  exact_run k control zero p at more left h = rw (zero-add left) (h p at)
  exact_run k control (suc n) p at more left h =
      let e : suc n + left ≡ suc (n + left) = omega arith in
      rw e (exact_value control (f.unpacks p k bs at) _ (n + left) (λ q past. exact_run k control n q past more left h))

  exact_begun : (o : Maybe (K × ℕ)) (at k : ℕ) (p : P) (more : ℕ → P → ℕ → Ahead V) → ((n : ℕ) (q : P) (past : ℕ) → Exactly (more n q past) (k - n)) → Exactly (begun_ahead f bs o at (suc k) p more) (suc k)
  exact_begun None at k p more h = tt
  exact_begun (Some r) at k p more h = by (ltb (suc k) (suc r.1)) refl
    where
      by : (b : Bool) → ltb (suc k) (suc r.1) ≡ b → Exactly (fails_if b (f.blames at) (run_ahead f bs r.0 at (suc r.1) p (at + 1) (more r.1))) (suc k)
      by true e = tt
      by false e =
          let s : suc r.1 + (k - r.1) ≡ suc k = omega (arith, ltb-false _ _ e) in
          subst (λ (i : ℕ). Exactly (run_ahead f bs r.0 at (suc r.1) p (at + 1) (more r.1)) i) s (exact_run r.0 at (suc r.1) p (at + 1) (more r.1) (k - r.1) (h r.1))

  exact_control : (xs : List ℕ) (at k : ℕ) (p : P) (more : ℕ → P → ℕ → Ahead V) → ((n : ℕ) (q : P) (past : ℕ) → Exactly (more n q past) (k - n)) → Exactly (control_ahead f bs xs at (suc k) p more) (suc k)
  exact_control [] at k p more h = tt
  exact_control (c ∷ r) at k p more h = exact_begun (f.begins c) at k p more h

  exact_runs : (m k : ℕ) (p : P) (at : ℕ) → k ≤ m → Exactly (runs_ahead f bs m k p at) k
  exact_runs zero zero p at h = refl
  exact_runs zero (suc k) p at h = absurd (omega arith)
  exact_runs (suc m) zero p at h = refl
  exact_runs (suc m) (suc k) p at h = exact_control (drop at bs) at k p _ (λ n q past. exact_runs m (k - n) q past (omega arith))

  pub exact_stream : (k : ℕ) (p : P) (at : ℕ) → Exactly (stream_ahead f bs k p at) k
  exact_stream k p at = exact_runs k k p at (omega arith)

  not_in_run : (k : K) (control n at left : ℕ) (p : P) (past : ℕ) → run_ahead f bs k control (suc n) p at (stream_ahead f bs left) ≡ ends past → ⊥
  not_in_run k control n at left p past e =
      let s : suc n + left ≡ suc (n + left) = omega arith in
      not_ended _ past (n + left) (rw s at (exact_run k control (suc n) p at (stream_ahead f bs left) left (exact_stream left))) e

  -- a stream ends at the cursor's place
  pub ends_here : (s : RunState K) (control at left : ℕ) (p : P) (past : ℕ) → state_ahead f bs s control at left p ≡ ends past → at ≡ past
  ends_here Between control at zero p past e = cc
  ends_here Between control at (suc left) p past e = absurd (not_ended _ past left (exact_stream (suc left) p at) e)
  ends_here (Inside k n) control at left p past e = absurd (not_in_run k control n at left p past e)
  ends_here Done control at left p past e = cc

-- what the calls do
module _ {P K V : Type 0} (f : Form P K V) (c : RunCursor P K) where
  refuses : (e : StreamFault) → ahead f c ≡ fails e → RunStep f c (Err e) c
  refuses e h = record { answer = ap answer_of (sym h); left = h ∙ ap rest_of (sym h); same = refl }

  pub refuses_control : c.state ≡ Between → 0 < c.left → length c.table.now ≤ c.at → RunStep f c (Err (f.blames c.at)) c
  refuses_control e q h = refuses _ (rw e (no_control f c.table.now c.left c.packing c.at q h))

  pub refuses_kind : c.state ≡ Between → 0 < c.left → c.at < length c.table.now → f.begins (get_or c.table.now c.at 0) ≡ None → RunStep f c (Err (f.blames c.at)) c
  refuses_kind e q h b = refuses _ (rw e (no_run f c.table.now c.left c.packing c.at q h b))

  pub refuses_length : (r : K × ℕ) → c.state ≡ Between → 0 < c.left → c.at < length c.table.now → f.begins (get_or c.table.now c.at 0) ≡ Some r → c.left ≤ r.1 → RunStep f c (Err (f.blames c.at)) c
  refuses_length r e q h b l = refuses _ (rw e (run_too_long f c.table.now c.left c.packing c.at r.0 r.1 q h b l))

  -- inside the run that begins here
  abbrev pub inside : K → ℕ → RunCursor P K
  inside k n = record { table = c.table; control = c.at; at = c.at + 1; left = c.left - (n + 1); state = Inside k n; packing = c.packing }

  pub enters : (t : K × ℕ) (r : Result (Maybe V) StreamFault) (c' : RunCursor P K) → c.state ≡ Between → 0 < c.left → c.at < length c.table.now → f.begins (get_or c.table.now c.at 0) ≡ Some t → t.1 < c.left →
      RunStep f (inside t.0 t.1) r c' → RunStep f c r c'
  enters t r c' e q h b l s =
      let i : ahead f c ≡ ahead f (inside t.0 t.1) = rw e (entered f c.table.now c.left c.packing c.at t.0 t.1 q h b l) in
      record { answer = s.answer ∙ ap answer_of (sym i); left = s.left ∙ ap rest_of (sym i); same = s.same }

  pub refuses_value : (k : K) (n : ℕ) → c.state ≡ Inside k n → f.unpacks c.packing k c.table.now c.at ≡ None → RunStep f c (Err (f.blames c.control)) c
  refuses_value k n e h = refuses _ (rw (e, h))

  -- after a value of its run
  abbrev pub after : RunState K → Unpacked V P → RunCursor P K
  after s u = record { table = c.table; control = c.control; at = u.past; left = c.left; state = s; packing = u.packing }

  pub gives_value : (k : K) (n : ℕ) (s : RunState K) (u : Unpacked V P) → c.state ≡ Inside k n → s ≡ run_state k n → f.unpacks c.packing k c.table.now c.at ≡ Some u → RunStep f c (Ok (Some u.value)) (after s u)
  gives_value k n s u e es h =
      let i : ahead f c ≡ gives u.value (ahead f (after s u)) =
      rw (e, es, h) (ap (gives u.value) (sym (after_value f c.table.now k n c.control u.past c.left u.packing))) in
      record { answer = ap answer_of (sym i); left = ap rest_of (sym i); same = refl }
