-- A judgement is poisoned exactly where it has an error code: each rule's own codes, and those of its parts.
use Rattle.std.proofs.Common.{◌≡◌, List, ◌∷◌, ◌++◌, Bool, true, false, ◌||◌, Option, None, refl, sym, ap, ◌∙◌}
use Rattle.std.specs.List.{list_any}
use Rattle.std.proofs.lemmas.List.Folds.{list_any-append}
use Rattle.vrl_diag.specs.declared.diagnostic.Diagnostic.{Diagnostic}
use Rattle.vrl_diag.specs.declared.diagnostic.Span.{Span}
use Rattle.vrl_kind.specs.Canonical.{any_kind, never_kind}
use Rattle.vrl_kind.specs.KindTree.{KindTree}
use Rattle.vrl_state.specs.States.{RootMap}
use Rattle.vrl_syntax.specs.Tree.{Args, Arms, Else, Expr, Exprs, Form}
use Rattle.vrl_diag.specs.Refusal.{is_error}
use Rattle.vrl_judge.specs.Closures.{ClosureBody, Try, of_body}
use Rattle.vrl_judge.specs.Rules.{Argument, Judgement, Loop, IsBehind, at, banged, if_state, when, with_codes}
use Rattle.vrl_check.specs.Judgement.{IsBeside}
use Rattle.vrl_check.specs.Judgement.{Judges, unreached, reached, Gives, a_literal, an_array, an_object, a_known_root, an_unknown_root, a_query, a_group, a_block, a_conditional, a_negation, an_equality, of_table, a_merge, a_conjunction, a_disjunction, a_coalescing, an_assignment, a_merge_into_nothing, a_merge_assignment, an_error_assignment, a_call_of_nothing, a_call, a_deletion, an_existence, a_wrong_closure_call, a_closure_call, a_return, an_abort, an_abort_with, JudgesBoth, operands, JudgesAll, no_more, one_more, JudgesArguments, no_more_arguments, one_more_argument, JudgesBlock, unreached_block, reached_block, JudgesArms, an_arm, an_else, a_missing_else, JudgesBody, unreached_body, reached_body, JudgesTries, a_stable_try, an_unstable_try, JudgesRuns, by_tries, by_what_is_given, JudgesItems, no_more_items, one_more_item, JudgesScript, a_script, deleted_kind, passing_closure, run_through}
use Rattle.vrl_check.specs.Determined.{HasCause, PoisonsHaveCauses}
use Rattle.vrl_check.specs.OpenRules.{OpenRules}

-- one judgement's codes behind another's
cause_joined : (first second codes : List Diagnostic) (a b c : Bool) → c ≡ (a || b) → codes ≡ first ++ second → a ≡ list_any is_error first → b ≡ list_any is_error second → c ≡ list_any is_error codes
cause_joined first second codes a b c poisoned is one two =
    poisoned ∙ ap (λ x. x || b) one ∙ ap (λ x. list_any is_error first || x) two ∙ sym (list_any-append is_error first second) ∙ ap (list_any is_error) (sym is)

-- codes of its own
cause_with_codes : (ds : List Diagnostic) (j : Judgement) → HasCause j → HasCause (with_codes ds j)
cause_with_codes ds j cause = cause_joined j.codes ds (j.codes ++ ds) j.poisoned (list_any is_error ds) _ refl refl cause refl

cause_banged : (span : Span) (bang : Bool) (j : Judgement) → HasCause j → HasCause (banged span bang j)
cause_banged span false j cause = cause
cause_banged span true j cause = cause_with_codes _ (record j { fail = None }) cause

-- parts in order, and alternatives
cause_behind : (before part after : Judgement) → IsBehind before part after → HasCause before → HasCause part → HasCause after
cause_behind before part after is = cause_joined before.codes part.codes after.codes before.poisoned part.poisoned after.poisoned is.poisoned is.codes

cause_beside : (ways way all : Judgement) → IsBeside ways way all → HasCause ways → HasCause way → HasCause all
cause_beside ways way all is = cause_joined ways.codes way.codes all.codes ways.poisoned way.poisoned all.poisoned is.poisoned is.codes

-- what is `whole`
cause_of : (j k : Judgement) → j ≡ k → HasCause k → HasCause j
cause_of j k is cause = ap (λ w. w.poisoned) is ∙ cause ∙ ap (λ w. list_any is_error w.codes) (sym is)

mutual
  judges_cause : {rules : OpenRules} {inside : Bool} {known : Option RootMap} {e : Expr} {j : Judgement} → Judges rules inside known e j → HasCause j
  judges_cause (unreached allowed) = refl
  judges_cause (reached gives) = given_cause gives

  given_cause : {rules : OpenRules} {inside : Bool} {known : RootMap} {span : Span} {f : Form} {j : Judgement} → Gives rules inside known span f j → HasCause j
  given_cause (a_literal cut) = refl
  given_cause (an_array all cut) = all_cause all refl
  given_cause (an_object all cut) = all_cause all refl
  given_cause (a_known_root is at) = refl
  given_cause (an_unknown_root is) = refl
  given_cause (a_query part at) = judges_cause part
  given_cause (a_group part) = judges_cause part
  given_cause (a_block block) = block_cause block
  given_cause (a_conditional arms) = arms_cause arms refl
  given_cause (a_negation {j = j} {K = K} part scalar) = cause_with_codes _ (record j { kind = K }) (judges_cause part)
  given_cause (an_equality {whole = whole} {K = K} is parts scalar) = cause_with_codes _ (record whole { kind = K }) (both_cause parts)
  given_cause (of_table {whole = whole} is parts cut fails) = cause_with_codes _ whole (both_cause parts)
  given_cause (a_merge {whole = whole} {K = K} parts merged) = cause_with_codes _ (record whole { kind = K }) (both_cause parts)
  given_cause (a_conjunction {j = j} {k = k} {whole = whole} left_fail part_fail left right in_order scalar ok one two three) = cause_behind j k whole in_order (judges_cause left) (judges_cause right)
  given_cause (a_disjunction {j = j} {k = k} {whole = whole} left right then cut ok) = cause_behind j k whole then.behind (judges_cause left) (judges_cause right)
  given_cause (a_coalescing {j = j} {k = k} {whole = whole} {K = K} {ok = ok} left right in_order either joins) =
      cause_with_codes _ (record whole { kind = K; ok = ok; fail = k.fail }) (cause_behind j k whole in_order (judges_cause left) (judges_cause right))
  given_cause (an_assignment {j = j} {ok = ok} part written) = cause_with_codes _ (record j { ok = ok }) (judges_cause part)
  given_cause (a_merge_into_nothing {j = j} part) = cause_with_codes _ j (judges_cause part)
  given_cause (a_merge_assignment {j = j} {ok = ok} part written) = cause_with_codes _ (record j { ok = ok }) (judges_cause part)
  given_cause (an_error_assignment {j = j} empty {K = K} given given_both failed failed_both {ok = ok} part may cut either null text one two three four joins) =
      cause_with_codes _ (record j { kind = K; ok = ok; fail = None }) (judges_cause part)
  given_cause (a_call_of_nothing {j = j} unknown other arguments allowed) = cause_with_codes _ (record j { kind = j.kind }) (arguments_cause arguments refl)
  given_cause (a_call {span = span} function {bang = bang} {j = j} {whole = whole} K fails fail named arguments allowed is answered joins) =
      cause_banged span bang (record whole { kind = K; fail = fail }) (cause_of whole _ is (cause_with_codes _ j (arguments_cause arguments refl)))
  given_cause (a_deletion {span = span} {bang = bang} {js = js} {j = j} {whole = whole} ok named arguments allowed is deleted) =
      cause_banged span bang (record whole { kind = deleted_kind whole.poisoned js; ok = ok }) (cause_of whole _ is (cause_with_codes _ j (arguments_cause arguments refl)))
  given_cause (an_existence {span = span} {bang = bang} {j = j} {whole = whole} K named arguments allowed is scalar) =
      cause_banged span bang (record whole { kind = K }) (cause_of whole _ is (cause_with_codes _ j (arguments_cause arguments refl)))
  given_cause (a_wrong_closure_call {span = span} f {bang = bang} {c = c} {j = j} {tags = tags} first others named runs arguments allowed is) =
      let passed : Judgement = passing_closure c tags (record j { kind = any_kind }) in
      cause_banged span bang (with_codes (first ∷ others) passed) (cause_with_codes (first ∷ others) passed (arguments_cause arguments refl))
  given_cause (a_closure_call {span = span} f {bang = bang} {t = t} {j = j} C key value loop {k = k} {whole = whole} K fail named runs arguments no_codes cut_down key_cut value_cut all_runs then cut joins) =
      let called : Judgement = record whole { kind = K; fail = fail } in
      cause_banged span bang (with_codes (of_body f t k) called) (cause_with_codes (of_body f t k) called (cause_behind j (run_through loop k) whole then.behind (arguments_cause arguments refl) (runs_cause all_runs)))
  given_cause (a_return {inside = inside} {span = span} {j = j} {ret = ret} {R = R} part joins either) =
      cause_with_codes (when inside (at 1004 span)) (record j { kind = never_kind; ok = if_state inside j.ok; ret = ret; returned = R }) (judges_cause part)
  given_cause an_abort = refl
  given_cause (an_abort_with {j = j} part) = cause_with_codes _ j (judges_cause part)

  both_cause : {rules : OpenRules} {inside : Bool} {known : RootMap} {l r : Expr} {j k whole : Judgement} → JudgesBoth rules inside known l r j k whole → HasCause whole
  both_cause (operands {j = j} {k = k} {whole = whole} left right then) = cause_behind j k whole then.behind (judges_cause left) (judges_cause right)

  all_cause : {rules : OpenRules} {inside : Bool} {before after : Judgement} {es : Exprs} {Ks : List KindTree} → JudgesAll rules inside before es Ks after → HasCause before → HasCause after
  all_cause no_more cause = cause
  all_cause (one_more {before = before} {j = j} {middle = middle} part then rest) cause = all_cause rest (cause_behind before j middle then.behind cause (judges_cause part))

  arguments_cause : {rules : OpenRules} {inside : Bool} {before after : Judgement} {gs : Args} {js : List Argument} → JudgesArguments rules inside before gs js after → HasCause before → HasCause after
  arguments_cause no_more_arguments cause = cause
  arguments_cause (one_more_argument {before = before} {j = j} {middle = middle} part then rest) cause = arguments_cause rest (cause_behind before j middle then.behind cause (judges_cause part))

  block_cause : {rules : OpenRules} {inside : Bool} {known : Option RootMap} {es : Exprs} {j : Judgement} → JudgesBlock rules inside known es j → HasCause j
  block_cause (unreached_block allowed) = refl
  block_cause (reached_block null all) = all_cause all refl

  arms_cause : {rules : OpenRules} {inside : Bool} {state : Option RootMap} {ways all : Judgement} {gs : Arms} {otherwise : Else} → JudgesArms rules inside state ways gs otherwise all → HasCause ways → HasCause all
  arms_cause (an_arm {ways = ways} {j = j} {with_predicate = with_predicate} {k = k} {with_branch = with_branch} {p = p} predicate beside block besides rest) cause =
      arms_cause rest (cause_beside with_predicate k with_branch besides (cause_beside ways _ with_predicate beside cause (cause_with_codes _ j (judges_cause predicate))) (block_cause block))
  arms_cause (an_else {ways = ways} {k = k} {all = all} block beside) cause = cause_beside ways k all beside cause (block_cause block)
  arms_cause (a_missing_else {ways = ways} {all = all} null beside) cause = cause_beside ways _ all beside cause refl

  body_cause : {rules : OpenRules} {b : ClosureBody} {known : Option RootMap} {j : Judgement} → JudgesBody rules b known j → HasCause j
  body_cause (unreached_body allowed) = refl
  body_cause (reached_body block) = block_cause block

  tries_cause : {rules : OpenRules} {b : ClosureBody} {try : Try} {known last : Option RootMap} {k : Judgement} → JudgesTries rules b try known last k → HasCause k
  tries_cause (a_stable_try body within) = body_cause body
  tries_cause (an_unstable_try body unstable next tries) = tries_cause tries

  runs_cause : {rules : OpenRules} {b : ClosureBody} {known : Option RootMap} {loop : Loop} {k : Judgement} → JudgesRuns rules b known loop k → HasCause k
  runs_cause (by_tries tried tries) = tries_cause tries
  runs_cause (by_what_is_given may body begins goes_on) = body_cause body

items_cause : {rules : OpenRules} {before after : Judgement} {es : Exprs} → JudgesItems rules before es after → HasCause before → HasCause after
items_cause no_more_items cause = cause
items_cause (one_more_item {before = before} {j = j} {middle = middle} {e = e} part then rest) cause =
    items_cause rest (cause_behind before _ middle then.behind cause (cause_with_codes _ j (judges_cause part)))

script_cause : (rules : OpenRules) (start : KindTree) (items : Exprs) (j : Judgement) → JudgesScript rules start items j → HasCause j
script_cause rules start items k (a_script starts null all) = items_cause all refl

pub poisons_have_causes : PoisonsHaveCauses
poisons_have_causes = record {
  expression = λ rules inside known e j judges. judges_cause judges;
  form = λ rules inside known span f j gives. given_cause gives;
  all = λ rules inside before after es Ks judges cause. all_cause judges cause;
  block = λ rules inside known es j judges. block_cause judges;
  items = λ rules before after es judges cause. items_cause judges cause;
  script = script_cause;
  body = λ rules b known j judges. body_cause judges;
}
