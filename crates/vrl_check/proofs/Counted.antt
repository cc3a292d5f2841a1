-- A judgement has one empty value for each error assignment of what is judged, and tells of each closure in it.
use Rattle.std.proofs.Common.{arith, ◌≡◌, ℕ, suc, ◌+◌, Bool, true, false, List, [], ◌∷◌, ◌++◌, length, Option, Some, refl, ap, ◌∙◌}
use Rattle.std.proofs.lemmas.List.{length-append, length-replicate}
use Rattle.vrl_value.specs.declared.value.Tag.{Tag}
use Rattle.vrl_diag.specs.declared.diagnostic.Span.{Span}
use Rattle.vrl_kind.specs.Canonical.{any_kind}
use Rattle.vrl_kind.specs.KindTree.{KindTree}
use Rattle.vrl_state.specs.States.{RootMap}
use Rattle.vrl_syntax.specs.ErrorAssignments.{in_args, in_arms, in_closure, in_else, in_expr, in_exprs, in_form, in_pairs}
use Rattle.vrl_syntax.specs.Tree.{Args, Arms, Closure, Else, Expr, Exprs, Form, Pairs, no_pairs, pair}
use Rattle.vrl_judge.specs.Closures.{ClosureBody, Try, of_body}
use Rattle.vrl_judge.specs.Rules.{Argument, Judgement, Loop, banged, with_codes}
use Rattle.vrl_check.specs.Determined.{EmptiesAreCounted, LoopsAreCounted}
use Rattle.vrl_check.specs.Judgement.{AreUnjudged, deleted_kind, pair_values, passing_closure}
use Rattle.vrl_check.specs.Judgement.{Judges, unreached, reached, Gives, a_literal, an_array, an_object, a_known_root, an_unknown_root, a_query, a_group, a_block, a_conditional, a_negation, an_equality, of_table, a_merge, a_conjunction, a_disjunction, a_coalescing, an_assignment, a_merge_into_nothing, a_merge_assignment, an_error_assignment, a_call_of_nothing, a_call, a_deletion, an_existence, a_wrong_closure_call, a_closure_call, a_return, an_abort, an_abort_with, JudgesBoth, operands, JudgesAll, no_more, one_more, JudgesArguments, no_more_arguments, one_more_argument, JudgesBlock, unreached_block, reached_block, JudgesArms, an_arm, an_else, a_missing_else, JudgesBody, unreached_body, reached_body, JudgesTries, a_stable_try, an_unstable_try, JudgesRuns, by_tries, by_what_is_given, JudgesItems, no_more_items, one_more_item, JudgesScript, a_script}
use Rattle.vrl_check.specs.Loops.{closures_in_args, closures_in_arms, closures_in_closure, closures_in_else, closures_in_expr, closures_in_exprs, closures_in_form, closures_in_pairs, unjudged}
use Rattle.vrl_check.specs.OpenRules.{OpenRules}

-- ---- lists

-- lists one behind the other
joined : {A : Type 0} (a b c : List A) (n m : ℕ) → c ≡ a ++ b → length a ≡ n → length b ≡ m → length c ≡ n + m
joined a b c n m is one two = ap length is ∙ length-append a b ∙ ap (λ k. k + length b) one ∙ ap (λ k. n + k) two

-- behind nothing
from_none : (n m : ℕ) → n ≡ 0 + m → n ≡ m
from_none n m is = omega (arith, is)

-- ---- so many empty values, and so many closures

abbrev Counts : Judgement → ℕ → ℕ → Type 0
Counts j n m = (length j.empties ≡ n) × (length j.loops ≡ m)

-- what isn't judged has empty values and no states, as many as they are told to be
unjudged_counted : {rules : OpenRules} {n : ℕ} {tags : List Tag} (m : ℕ) → AreUnjudged rules n tags → (length tags ≡ n) × (length (unjudged m) ≡ m)
unjudged_counted m are = (are.counted, length-replicate m _)

-- more than there were before
abbrev pub CountsMore : Judgement → Judgement → ℕ → ℕ → Type 0
CountsMore before j n m = (length j.empties ≡ length before.empties + n) × (length j.loops ≡ length before.loops + m)

nothing_more : (j : Judgement) → CountsMore j j 0 0
nothing_more j = (omega arith, omega arith)

-- more than none
from_nothing : (j : Judgement) (n m : ℕ) → (length j.empties ≡ 0 + n) × (length j.loops ≡ 0 + m) → Counts j n m
from_nothing j n m is = (from_none (length j.empties) n is.0, from_none (length j.loops) m is.1)

-- two parts
two_counted : (j k whole : Judgement) (a b n m : ℕ) → Counts j a b → Counts k n m → whole.empties ≡ j.empties ++ k.empties → whole.loops ≡ j.loops ++ k.loops → Counts whole (a + n) (b + m)
two_counted j k whole a b n m left right empties loops =
    (joined j.empties k.empties whole.empties a n empties left.0 right.0, joined j.loops k.loops whole.loops b m loops left.1 right.1)

-- a part, and then what is more
step_counted : (before j middle after : Judgement) (a b n m : ℕ) → Counts j a b → middle.empties ≡ before.empties ++ j.empties → middle.loops ≡ before.loops ++ j.loops → CountsMore middle after n m → CountsMore before after (a + n) (b + m)
step_counted before j middle after a b n m part empties loops more =
    let first = joined before.empties j.empties middle.empties (length before.empties) a empties refl part.0 in
    let second = joined before.loops j.loops middle.loops (length before.loops) b loops refl part.1 in
    (omega (arith, first, more.0), omega (arith, second, more.1))

-- a part at the end
end_counted : (before j after : Judgement) (a b : ℕ) → Counts j a b → after.empties ≡ before.empties ++ j.empties → after.loops ≡ before.loops ++ j.loops → CountsMore before after a b
end_counted before j after a b part empties loops =
    (joined before.empties j.empties after.empties (length before.empties) a empties refl part.0, joined before.loops j.loops after.loops (length before.loops) b loops refl part.1)

values_counted : (ps : Pairs) (n m : ℕ) → (n ≡ in_exprs (pair_values ps)) × (m ≡ closures_in_exprs (pair_values ps)) → (n ≡ in_pairs ps) × (m ≡ closures_in_pairs ps)
values_counted ps n m is = (is.0 ∙ empties ps, is.1 ∙ loops ps) where
  empties : (qs : Pairs) → in_exprs (pair_values qs) ≡ in_pairs qs
  empties no_pairs = refl
  empties (pair name e qs) = ap (λ k. in_expr e + k) (empties qs)

  loops : (qs : Pairs) → closures_in_exprs (pair_values qs) ≡ closures_in_pairs qs
  loops no_pairs = refl
  loops (pair name e qs) = ap (λ k. closures_in_expr e + k) (loops qs)

banged_counted : (span : Span) (bang : Bool) (j : Judgement) (n m : ℕ) → Counts j n m → Counts (banged span bang j) n m
banged_counted span false j n m counted = counted
banged_counted span true j n m counted = counted

-- a call: its arguments, and its closure, which isn't judged
call_counted : {rules : OpenRules} (gs : Args) (c : Closure) (tags : List Tag) (j whole : Judgement) → AreUnjudged rules (in_closure c) tags → Counts j (in_args gs) (closures_in_args gs)
    → whole.empties ≡ (passing_closure c tags j).empties → whole.loops ≡ (passing_closure c tags j).loops
    → Counts whole (in_args gs + in_closure c) (closures_in_args gs + closures_in_closure c)
call_counted gs c tags j whole allowed counted empties loops =
    let passed = unjudged_counted (closures_in_closure c) allowed in (
      joined j.empties tags whole.empties (in_args gs) (in_closure c) empties counted.0 passed.0,
      joined j.loops (unjudged (closures_in_closure c)) whole.loops (closures_in_args gs) (closures_in_closure c) loops counted.1 passed.1,
    )

-- a call whose closure is judged: the closure itself stands before those in it
closure_counted : (gs : Args) (loop : Loop) (es : Exprs) (j k whole : Judgement) → Counts j (in_args gs) (closures_in_args gs) → Counts k (in_exprs es) (closures_in_exprs es) → whole.empties ≡ j.empties ++ k.empties → whole.loops ≡ j.loops ++ (Some loop ∷ k.loops)
    → Counts whole (in_args gs + in_exprs es) (closures_in_args gs + suc (closures_in_exprs es))
closure_counted gs loop es j k whole arguments body empties loops = (
  joined j.empties k.empties whole.empties (in_args gs) (in_exprs es) empties arguments.0 body.0,
  joined j.loops (Some loop ∷ k.loops) whole.loops (closures_in_args gs) (suc (closures_in_exprs es)) loops arguments.1 (ap suc body.1),
)

-- ---- every judgement

mutual
  judges_counted : {rules : OpenRules} {inside : Bool} {known : Option RootMap} {e : Expr} {j : Judgement} → Judges rules inside known e j → Counts j (in_expr e) (closures_in_expr e)
  judges_counted (unreached {e = e} allowed) = unjudged_counted (closures_in_expr e) allowed
  judges_counted (reached gives) = gives_counted gives

  gives_counted : {rules : OpenRules} {inside : Bool} {known : RootMap} {span : Span} {f : Form} {j : Judgement} → Gives rules inside known span f j → Counts j (in_form f) (closures_in_form f)
  gives_counted (a_literal cut) = (refl, refl)
  gives_counted (an_array {es = es} {j = j} all cut) = from_nothing j (in_exprs es) (closures_in_exprs es) (all_counted all)
  gives_counted (an_object {ps = ps} {j = j} all cut) = values_counted ps (length j.empties) (length j.loops) (from_nothing j (in_exprs (pair_values ps)) (closures_in_exprs (pair_values ps)) (all_counted all))
  gives_counted (a_known_root is read) = (refl, refl)
  gives_counted (an_unknown_root is) = (refl, refl)
  gives_counted (a_query part read) = judges_counted part
  gives_counted (a_group part) = judges_counted part
  gives_counted (a_block branch) = block_counted branch
  gives_counted (a_conditional {gs = gs} {es = es} {j = j} arms) = from_nothing j (in_arms gs + in_else es) (closures_in_arms gs + closures_in_else es) (arms_counted arms)
  gives_counted (a_negation part scalar) = judges_counted part
  gives_counted (an_equality is parts scalar) = operands_counted parts
  gives_counted (of_table is parts cut fails) = operands_counted parts
  gives_counted (a_merge parts merged) = operands_counted parts
  gives_counted (a_conjunction {l = l} {r = r} {j = j} {k = k} {whole = whole} left_fail part_fail left right in_order scalar ok one two three) =
      two_counted j k whole (in_expr l) (closures_in_expr l) (in_expr r) (closures_in_expr r) (judges_counted left) (judges_counted right) in_order.empties in_order.loops
  gives_counted (a_disjunction {l = l} {r = r} {j = j} {k = k} {whole = whole} left right then cut ok) =
      two_counted j k whole (in_expr l) (closures_in_expr l) (in_expr r) (closures_in_expr r) (judges_counted left) (judges_counted right) then.behind.empties then.behind.loops
  gives_counted (a_coalescing {l = l} {r = r} {j = j} {k = k} {whole = whole} left right in_order either ok) =
      two_counted j k whole (in_expr l) (closures_in_expr l) (in_expr r) (closures_in_expr r) (judges_counted left) (judges_counted right) in_order.empties in_order.loops
  gives_counted (an_assignment part written) = judges_counted part
  gives_counted (a_merge_into_nothing part) = judges_counted part
  gives_counted (a_merge_assignment {e = e} {j = j} part written) = from_nothing j (in_expr e) (closures_in_expr e) (judges_counted part)
  gives_counted (an_error_assignment empty given given_both failed failed_both part may cut either null text one two three four joins) =
      let counted = judges_counted part in
      (ap suc counted.0, counted.1)
  gives_counted (a_call_of_nothing {gs = gs} {c = c} {j = j} {tags = tags} unknown other arguments allowed) =
      call_counted gs c tags j (passing_closure c tags j) allowed (from_nothing j (in_args gs) (closures_in_args gs) (arguments_counted arguments)) refl refl
  gives_counted (a_call {span = span} function {bang = bang} {gs = gs} {c = c} {j = j} {whole = whole} {tags = tags} K fails fail named arguments allowed is answered joins) =
      banged_counted span bang (record whole { kind = K; fail = fail }) (in_args gs + in_closure c) (closures_in_args gs + closures_in_closure c)
      (call_counted gs c tags j whole allowed (from_nothing j (in_args gs) (closures_in_args gs) (arguments_counted arguments)) (ap (λ w. w.empties) is) (ap (λ w. w.loops) is))
  gives_counted (a_deletion {span = span} {bang = bang} {gs = gs} {c = c} {js = js} {j = j} {whole = whole} {tags = tags} ok named arguments allowed is deleted) =
      banged_counted span bang (record whole { kind = deleted_kind whole.poisoned js; ok = ok }) (in_args gs + in_closure c) (closures_in_args gs + closures_in_closure c)
      (call_counted gs c tags j whole allowed (from_nothing j (in_args gs) (closures_in_args gs) (arguments_counted arguments)) (ap (λ w. w.empties) is) (ap (λ w. w.loops) is))
  gives_counted (an_existence {span = span} {bang = bang} {gs = gs} {c = c} {j = j} {whole = whole} {tags = tags} K named arguments allowed is scalar) =
      banged_counted span bang (record whole { kind = K }) (in_args gs + in_closure c) (closures_in_args gs + closures_in_closure c)
      (call_counted gs c tags j whole allowed (from_nothing j (in_args gs) (closures_in_args gs) (arguments_counted arguments)) (ap (λ w. w.empties) is) (ap (λ w. w.loops) is))
  gives_counted (a_wrong_closure_call {span = span} f {bang = bang} {gs = gs} {c = c} {j = j} {tags = tags} first others named runs arguments allowed is) =
      banged_counted span bang (with_codes (first ∷ others) (passing_closure c tags (record j { kind = any_kind }))) (in_args gs + in_closure c) (closures_in_args gs + closures_in_closure c)
      (call_counted gs c tags j (passing_closure c tags j) allowed (from_nothing j (in_args gs) (closures_in_args gs) (arguments_counted arguments)) refl refl)
  gives_counted (a_closure_call {span = span} f {bang = bang} {gs = gs} {es = es} {t = t} {j = j} C key value loop {k = k} {whole = whole} K fail named runs arguments no_codes cut_down key_cut value_cut all_runs then cut joins) =
      banged_counted span bang (with_codes (of_body f t k) (record whole { kind = K; fail = fail })) (in_args gs + in_exprs es) (closures_in_args gs + suc (closures_in_exprs es))
      (closure_counted gs loop es j k whole (from_nothing j (in_args gs) (closures_in_args gs) (arguments_counted arguments)) (runs_counted all_runs) then.behind.empties then.behind.loops)
  gives_counted (a_return part joins either) = judges_counted part
  gives_counted an_abort = (refl, refl)
  gives_counted (an_abort_with part) = judges_counted part

  operands_counted : {rules : OpenRules} {inside : Bool} {known : RootMap} {l r : Expr} {j k whole : Judgement} → JudgesBoth rules inside known l r j k whole → Counts whole (in_expr l + in_expr r) (closures_in_expr l + closures_in_expr r)
  operands_counted (operands {l = l} {r = r} {j = j} {k = k} {whole = whole} left right then) =
      two_counted j k whole (in_expr l) (closures_in_expr l) (in_expr r) (closures_in_expr r) (judges_counted left) (judges_counted right) then.behind.empties then.behind.loops

  all_counted : {rules : OpenRules} {inside : Bool} {before after : Judgement} {es : Exprs} {Ks : List KindTree} → JudgesAll rules inside before es Ks after → CountsMore before after (in_exprs es) (closures_in_exprs es)
  all_counted (no_more {before = before}) = nothing_more before
  all_counted (one_more {before = before} {j = j} {middle = middle} {after = after} {e = e} {es = es} part then rest) =
      step_counted before j middle after (in_expr e) (closures_in_expr e) (in_exprs es) (closures_in_exprs es) (judges_counted part) then.behind.empties then.behind.loops (all_counted rest)

  pub arguments_counted : {rules : OpenRules} {inside : Bool} {before after : Judgement} {gs : Args} {js : List Argument} → JudgesArguments rules inside before gs js after → CountsMore before after (in_args gs) (closures_in_args gs)
  arguments_counted (no_more_arguments {before = before}) = nothing_more before
  arguments_counted (one_more_argument {before = before} {j = j} {middle = middle} {after = after} {e = e} {gs = gs} part then rest) =
      step_counted before j middle after (in_expr e) (closures_in_expr e) (in_args gs) (closures_in_args gs) (judges_counted part) then.behind.empties then.behind.loops (arguments_counted rest)

  block_counted : {rules : OpenRules} {inside : Bool} {known : Option RootMap} {es : Exprs} {j : Judgement} → JudgesBlock rules inside known es j → Counts j (in_exprs es) (closures_in_exprs es)
  block_counted (unreached_block {es = es} allowed) = unjudged_counted (closures_in_exprs es) allowed
  block_counted (reached_block {es = es} {j = j} null all) = from_nothing j (in_exprs es) (closures_in_exprs es) (all_counted all)

  arms_counted : {rules : OpenRules} {inside : Bool} {state : Option RootMap} {ways all : Judgement} {gs : Arms} {otherwise : Else} → JudgesArms rules inside state ways gs otherwise all
      → CountsMore ways all (in_arms gs + in_else otherwise) (closures_in_arms gs + closures_in_else otherwise)
  arms_counted (an_arm {ways = ways} {j = j} {with_predicate = with_predicate} {k = k} {with_branch = with_branch} {all = all} {p = p} {es = es} {gs = gs} {otherwise = otherwise} predicate beside branch besides rest) =
      let others = arms_counted rest in
      let inner = step_counted with_predicate k with_branch all (in_exprs es) (closures_in_exprs es) (in_arms gs + in_else otherwise) (closures_in_arms gs + closures_in_else otherwise) (block_counted branch) besides.empties besides.loops others in
      let whole = step_counted ways j with_predicate all (in_expr p) (closures_in_expr p) (in_exprs es + (in_arms gs + in_else otherwise)) (closures_in_exprs es + (closures_in_arms gs + closures_in_else otherwise)) (judges_counted predicate) beside.empties beside.loops inner in
      (omega (arith, whole.0), omega (arith, whole.1))
  arms_counted (an_else {ways = ways} {k = k} {all = all} {es = es} branch beside) =
      let end = end_counted ways k all (in_exprs es) (closures_in_exprs es) (block_counted branch) beside.empties beside.loops in
      (omega (arith, end.0), omega (arith, end.1))
  arms_counted (a_missing_else {ways = ways} {all = all} null beside) =
      let empties = joined ways.empties [] all.empties (length ways.empties) 0 beside.empties refl refl in
      let loops = joined ways.loops [] all.loops (length ways.loops) 0 beside.loops refl refl in
      (omega (arith, empties), omega (arith, loops))

  body_counted : {rules : OpenRules} {b : ClosureBody} {known : Option RootMap} {j : Judgement} → JudgesBody rules b known j → Counts j (in_exprs b.items) (closures_in_exprs b.items)
  body_counted (unreached_body {b = b} allowed) = unjudged_counted (closures_in_exprs b.items) allowed
  body_counted (reached_body block) = block_counted block

  tries_counted : {rules : OpenRules} {b : ClosureBody} {try : Try} {known last : Option RootMap} {k : Judgement} → JudgesTries rules b try known last k → Counts k (in_exprs b.items) (closures_in_exprs b.items)
  tries_counted (a_stable_try body within) = body_counted body
  tries_counted (an_unstable_try body unstable next tries) = tries_counted tries

  runs_counted : {rules : OpenRules} {b : ClosureBody} {known : Option RootMap} {loop : Loop} {k : Judgement} → JudgesRuns rules b known loop k → Counts k (in_exprs b.items) (closures_in_exprs b.items)
  runs_counted (by_tries tried tries) = tries_counted tries
  runs_counted (by_what_is_given may body begins goes_on) = body_counted body

items_counted : {rules : OpenRules} {before after : Judgement} {es : Exprs} → JudgesItems rules before es after → CountsMore before after (in_exprs es) (closures_in_exprs es)
items_counted (no_more_items {before = before}) = nothing_more before
items_counted (one_more_item {before = before} {j = j} {middle = middle} {after = after} {e = e} {es = es} part then rest) =
    step_counted before j middle after (in_expr e) (closures_in_expr e) (in_exprs es) (closures_in_exprs es) (judges_counted part) then.behind.empties then.behind.loops (items_counted rest)

script_counted : (rules : OpenRules) (start : KindTree) (items : Exprs) (j : Judgement) → JudgesScript rules start items j → Counts j (in_exprs items) (closures_in_exprs items)
script_counted rules start items k (a_script {j = j} starts null all) = from_nothing j (in_exprs items) (closures_in_exprs items) (items_counted all)

pub empties_are_counted : EmptiesAreCounted
empties_are_counted = record {
  expression = λ rules inside known e j judges. (judges_counted judges).0;
  block = λ rules inside known es j judges. (block_counted judges).0;
  script = λ rules start items j judges. (script_counted rules start items j judges).0;
}

pub loops_are_counted : LoopsAreCounted
loops_are_counted = record {
  expression = λ rules inside known e j judges. (judges_counted judges).1;
  block = λ rules inside known es j judges. (block_counted judges).1;
  script = λ rules start items j judges. (script_counted rules start items j judges).1;
}
