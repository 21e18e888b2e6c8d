-- Lists of calls from the opening of a set on, granted or refused, with compiles among them, all to one sink.
use Rattle.std.specs.Prelude.{◌≡◌, ℕ, List, [], ◌∷◌, ◌++◌, map, Ok, Err, Result}
use Rattle.std.proofs.Math.Option.{Option, none, some}
use Rattle.format.specs.Account.{Account, Cells, Declined, Call, glyph, compile, refusal, next, opened}
use Rattle.format.specs.Table.{Answer, granted, refused}
use Rattle.format.specs.Promise.{Compiled, Kept}
use Rattle.write.specs.Sinks.{Standing, Step}
use Rattle.sets.specs.Given.{variation_call}
use Rattle.sets.specs.declared.refusal.Refusal.{Refusal}
use Rattle.sets.specs.Refusals.{declined_of}
use Rattle.gvar.specs.declared.requests.Request.{Request}
use Rattle.gvar.specs.declared.requests.Request.TheVariants.{Glyph, Variation, Compile}
use Rattle.gvar.specs.declared.requests.Granted.{Granted}
use Rattle.gvar.specs.declared.requests.Granted.TheVariants.{Accepted, Table}
use Rattle.gvar.specs.Compiling.{meaning_of}

-- a reply: what is granted, or why the call is refused
abbrev pub Reply : Type 0
Reply = Result Granted Refusal

-- what a reply says of a glyph or a variation: accepted, or why it is refused
abbrev pub addition_answer : Reply → Option (Option Declined)
addition_answer (Ok Accepted) = some none
addition_answer (Ok (Table n)) = none
addition_answer (Err e) = some (some (declined_of e))

-- what a reply says of a compile
abbrev pub table_answer : Reply → Option Answer
table_answer (Ok Accepted) = none
table_answer (Ok (Table n)) = some (granted n)
table_answer (Err e) = some (refused (declined_of e))

-- a request that was met, its reply, and where the sink stood before and after it
pub record Event : Type 0 where
  pub request : Request
  pub reply : Reply
  pub sink : Standing
  pub sink' : Standing

-- the requests with their replies, as far as both go
abbrev pub noted : List Request → List Reply → List (Request × Reply)
noted [] rs = []
noted (q ∷ qs) [] = []
noted (q ∷ qs) (r ∷ rs) = (q, r) ∷ noted qs rs

abbrev pub note : Event → Request × Reply
note e = (e.request, e.reply)

-- all compiles have so many count cells, and a sink with this step
module _ (step : Step) (cells : ℕ) where
  -- the call that a request makes, where the sink stands at s
  abbrev pub call_of : Request → Standing → Call
  call_of (Glyph n) s = glyph n
  call_of (Variation ts ds) s = variation_call ts.now ds.now
  call_of Compile s = compile cells (meaning_of step s)

  -- the calls that were made
  abbrev pub calls_of : List Event → List Call
  calls_of es = map (λ e. call_of e.request e.sink) es

  -- a glyph or a variation is answered by its conditions, and the account follows
  abbrev pub Added : Account → Call → Reply → Account → Type 0
  Added k c r k' = (addition_answer r ≡ some (refusal k c)) × (k' ≡ next k c)

  -- one call takes the account from k to k': a glyph or a variation leaves the sink alone, a compile leaves the account alone
  abbrev pub Made : Account → Event → Account → Type 0
  Made k e k' = by e.request
    where
      by : Request → Type 0
      by (Glyph n) = Added k (glyph n) e.reply k' × (e.sink' ≡ e.sink)
      by (Variation ts ds) = Added k (variation_call ts.now ds.now) e.reply k' × (e.sink' ≡ e.sink)
      by Compile =
          (answer : Answer) × (table_answer e.reply ≡ some answer)
          × Compiled k cells (meaning_of step e.sink) answer (meaning_of step e.sink') × (k' ≡ k)

  -- the events lead from the account k and the sink at s to k' and s', one call after another
  abbrev pub Run : Account → Standing → List Event → Account → Standing → Type 0
  Run k s [] k' s' = (k' ≡ k) × (s' ≡ s)
  Run k s (e ∷ es) k' s' = (mid : Account) × (e.sink ≡ s) × Made k e mid × Run mid e.sink' es k' s'

  -- a run over these requests, with these replies
  abbrev pub RunNoted : List Request → List Reply → Account → Standing → Account → Standing → Type 0
  RunNoted qs rs k s k' s' = (es : List Event) × (map note es ≡ noted qs rs) × Run k s es k' s'

  -- every compile among the events keeps the promise for the calls before it
  abbrev pub EveryCompileKept : ℕ → Cells → List Event → Type 0
  EveryCompileKept a free es =
      (before : List Event) (e : Event) (later : List Event) → es ≡ before ++ (e ∷ later) →
      e.request ≡ Compile → (answer : Answer) → table_answer e.reply ≡ some answer →
      Kept a free (calls_of before) (meaning_of step e.sink) answer (meaning_of step e.sink')

  -- a set was opened with a axes and so many free cells, the requests were met, and the account is k, the sink at s'
  pub record Replayed (a : ℕ) (free : Cells) (requests : List Request) (replies : List Reply) (s : Standing) (k : Account) (s' : Standing) : Type 0 where
    pub events : List Event
    pub of_requests : map note events ≡ noted requests replies
    pub run : Run (opened a free) s events k s'
    pub kept : EveryCompileKept a free events
