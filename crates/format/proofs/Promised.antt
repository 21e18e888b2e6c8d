-- The main promise: what every compile keeps, after every list of calls.
use Rattle.std.proofs.Common.{◌≡◌, ℕ, ◌≤◌, List, ◌∷◌, sym, refl, ap, ◌∙◌, subst, arith}
use Rattle.std.specs.List.{AllByRecursion}
use Rattle.format.specs.Account.{Glyph, Cells, Account, Meaning, Call, compile, opened, after, ShortCall, most_axes, ShortSet}
use Rattle.format.specs.Table.{table_bytes, Answer, granted, compile_answer, sink_after}
use Rattle.format.specs.Promise.{glyphs_after, table_after, Kept, RequiredMovementsAgree, EveryCompileKeeps, Compiled}
use Rattle.format.proofs.Accepted.{glyphs_are}
use Rattle.format.proofs.Reached.{reached_axes, reached_glyphs, short_reached}
use Rattle.format.proofs.Granted.{Granted, granted_says}
use Rattle.format.proofs.SetTable.{granted_agrees}
use Rattle.format.proofs.Lists.{all_parts}

-- Every compile

module _ (k : Account) (a : ℕ) (free : Cells) (calls : List Call) (is : after (opened a free) calls ≡ k) where
  axes_are : k.axes ≡ a
  axes_are = ap (λ (A : Account). A.axes) (sym is) ∙ reached_axes a free calls

  glyphs_k : k.glyphs ≡ glyphs_after a free calls
  glyphs_k = ap (λ (A : Account). A.glyphs) (sym is) ∙ glyphs_are a free calls

  -- the table of the account is the one that the accepted calls fix
  pub table_is : table_bytes k.axes k.glyphs ≡ table_after a free calls
  table_is = ap (λ (b : ℕ). table_bytes b k.glyphs) axes_are ∙ ap (λ (gs : List Glyph). table_bytes a gs) glyphs_k

  granted_after : (cells allowance n : ℕ) → compile_answer k cells allowance ≡ granted n → Granted a (glyphs_after a free calls) cells allowance n
  granted_after cells allowance n e =
      subst (λ (b : ℕ). Granted b (glyphs_after a free calls) cells allowance n) axes_are
      (subst (λ (gs : List Glyph). Granted k.axes gs cells allowance n) glyphs_k (granted_says k cells allowance n e))

  -- the account k of a set, however it came about by calls
  compile_keeps : k.axes ≤ most_axes → ShortSet k.glyphs → (cells : ℕ) (sink : Meaning) →
      let answer = compile_answer k cells sink.allowance in
      Kept a free calls sink answer (sink_after sink answer (table_after a free calls))
  compile_keeps few short cells sink =
      record {
        granted_hands_over_the_table = λ n e.
            let is = granted_after cells sink.allowance n e in
            (is.whole, omega (arith, is.whole, is.table_fits), ap (λ o. sink_after sink o (table_after a free calls)) e);
        refused_hands_over_nothing = λ d e. ap (λ o. sink_after sink o (table_after a free calls)) e;
        both_accounts_agree = λ n e g i p d.
            granted_agrees a (glyphs_after a free calls) cells sink.allowance n (omega (arith, axes_are, few)) (reached_glyphs a free calls) (subst ShortSet glyphs_k short)
            (granted_after cells sink.allowance n e) g i p d;
      }

pub every_compile_keeps : EveryCompileKeeps
every_compile_keeps k a free calls few short is =
    compile_keeps k a free calls is (omega (arith, axes_are k a free calls is)) (subst ShortSet (sym (glyphs_k k a free calls is)) (short_reached a free calls short))

-- from what code shows of a compile: the axis count and the values are within their bounds, the answer and the sink are as the rules say
pub compiled : (k : Account) (cells : ℕ) (sink : Meaning) (answer : Answer) (sink' : Meaning) → k.axes ≤ most_axes → ShortSet k.glyphs →
    answer ≡ compile_answer k cells sink.allowance → sink' ≡ sink_after sink answer (table_bytes k.axes k.glyphs) → Compiled k cells sink answer sink'
compiled k cells sink answer sink' few short e f =
    record {
      answers_by_the_rules = e;
      hands_over_by_the_rules = f;
      keeps_the_promise = λ a free calls is.
          let t = table_after a free calls in
          let g : sink' ≡ sink_after sink answer t = f ∙ ap (sink_after sink answer) (table_is k a free calls is) in
          subst (Kept a free calls sink answer) (sym g)
          (subst (λ (o : Answer). Kept a free calls sink o (sink_after sink o t)) (sym e) (compile_keeps k a free calls is few short cells sink));
    }

-- Throughout every list of calls

pub required_movements_agree : RequiredMovementsAgree
required_movements_agree a free calls few short before cells sink later e =
    let s : AllByRecursion ShortCall before = (all_parts ShortCall before (compile cells sink ∷ later) (subst (AllByRecursion ShortCall) e short)).0 in
    every_compile_keeps (after (opened a free) before) a free before few s refl cells sink
