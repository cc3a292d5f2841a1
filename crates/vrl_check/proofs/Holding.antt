-- A judgement without tries, in which the state of each closure holds, is one by rules that give what holds alone.
use Rattle.std.proofs.Common.{◌≡◌, ℕ, Bool, true, false, List, [], ◌∷◌, ◌++◌, Option, Some, refl, sym, ap, ◌∙◌}
use Rattle.std.proofs.lemmas.Bool.{and_from, and_parts, false≢true}
use Rattle.std.proofs.lemmas.List.Folds.{list_all-append}
use Rattle.vrl_value.specs.declared.value.Tag.{Tag}
use Rattle.vrl_diag.specs.declared.diagnostic.Span.{Span}
use Rattle.vrl_syntax.specs.Tree.{Args, Arms, Closure, Else, Expr, Exprs, Form}
use Rattle.vrl_kind.specs.Canonical.{any_kind}
use Rattle.vrl_kind.specs.KindTree.{KindTree}
use Rattle.vrl_state.specs.States.{RootMap}
use Rattle.vrl_judge.specs.Closures.{ClosureBody, of_body}
use Rattle.vrl_judge.specs.Rules.{Argument, Judgement, Loop, banged, with_codes}
use Rattle.vrl_check.specs.Determined.{StatesThatHoldCanBeGiven}
use Rattle.vrl_check.specs.Judgement.{AreUnjudged, deleted_kind, passing_closure}
use Rattle.vrl_check.specs.Judgement.{Judges, unreached, reached, Gives, a_literal, an_array, an_object, a_known_root, an_unknown_root, a_query, a_group, a_block, a_conditional, a_negation, an_equality, of_table, a_merge, a_conjunction, a_disjunction, a_coalescing, an_assignment, a_merge_into_nothing, a_merge_assignment, an_error_assignment, a_call_of_nothing, a_call, a_deletion, an_existence, a_wrong_closure_call, a_closure_call, a_return, an_abort, an_abort_with, JudgesBoth, operands, JudgesAll, no_more, one_more, JudgesArguments, no_more_arguments, one_more_argument, JudgesBlock, unreached_block, reached_block, JudgesArms, an_arm, an_else, a_missing_else, JudgesBody, unreached_body, reached_body, JudgesRuns, by_tries, by_what_is_given, JudgesItems, no_more_items, one_more_item, JudgesScript, a_script}
use Rattle.vrl_check.specs.Loops.{closures_in_closure, unjudged}
use Rattle.vrl_check.specs.OpenRules.{OpenRules, GiveWhatHolds, each_holds, holds, only_what_holds}

-- ---- lists

abbrev AllHold : List (Option Loop) → Type 0
AllHold loops = each_holds loops ≡ true

-- where all hold, so do those of two parts
parts_hold : (a b c : List (Option Loop)) → c ≡ a ++ b → AllHold c → AllHold a × AllHold b
parts_hold a b c is all =
    and_parts (each_holds a) (each_holds b) (sym (list_all-append _ a b) ∙ ap each_holds (sym is) ∙ all)

banged_hold : (span : Span) (bang : Bool) (j : Judgement) → AllHold (banged span bang j).loops → AllHold j.loops
banged_hold span false j all = all
banged_hold span true j all = all

-- of a call, whose closure isn't judged, those of its arguments
call_hold : (c : Closure) (tags : List Tag) (j whole : Judgement) → whole.loops ≡ (passing_closure c tags j).loops
    → AllHold whole.loops → AllHold j.loops
call_hold c tags j whole is all = (parts_hold j.loops (unjudged (closures_in_closure c)) whole.loops is all).0

-- ---- every judgement

module _ (rules : OpenRules) (no_tries : rules.tries ≡ false) where
  abbrev strict : OpenRules
  strict = only_what_holds rules

  as_before : {n : ℕ} {tags : List Tag} → AreUnjudged rules n tags → AreUnjudged strict n tags
  as_before are = record { counted = are.counted; allowed = are.allowed }

  mutual
    judges_held : {inside : Bool} {known : Option RootMap} {e : Expr} {j : Judgement} → Judges rules inside known e j
        → AllHold j.loops → Judges strict inside known e j
    judges_held (unreached allowed) all = unreached (as_before allowed)
    judges_held (reached gives) all = reached (gives_held gives all)

    gives_held : {inside : Bool} {known : RootMap} {span : Span} {f : Form} {j : Judgement}
        → Gives rules inside known span f j → AllHold j.loops → Gives strict inside known span f j
    gives_held (a_literal cut) all = a_literal cut
    gives_held (an_array parts cut) all = an_array (all_held parts all).1 cut
    gives_held (an_object parts cut) all = an_object (all_held parts all).1 cut
    gives_held (a_known_root is read) all = a_known_root is read
    gives_held (an_unknown_root is) all = an_unknown_root is
    gives_held (a_query part read) all = a_query (judges_held part all) read
    gives_held (a_group part) all = a_group (judges_held part all)
    gives_held (a_block branch) all = a_block (block_held branch all)
    gives_held (a_conditional arms) all = a_conditional (arms_held arms all).1
    gives_held (a_negation part scalar) all = a_negation (judges_held part all) scalar
    gives_held (an_equality is parts scalar) all = an_equality is (operands_held parts all) scalar
    gives_held (of_table is parts cut fails) all = of_table is (operands_held parts all) cut fails
    gives_held (a_merge parts merged) all = a_merge (operands_held parts all) merged
    gives_held (a_conjunction {j = j} {k = k} {whole = whole} left_fail part_fail left right in_order scalar ok one two
        three) all =
        let held = parts_hold j.loops k.loops whole.loops in_order.loops all in
        a_conjunction left_fail part_fail (judges_held left held.0) (judges_held right held.1) in_order scalar ok one
        two three
    gives_held (a_disjunction {j = j} {k = k} {whole = whole} left right next cut ok) all =
        let held = parts_hold j.loops k.loops whole.loops next.behind.loops all in
        a_disjunction (judges_held left held.0) (judges_held right held.1) next cut ok
    gives_held (a_coalescing {j = j} {k = k} {whole = whole} left right in_order either ok) all =
        let held = parts_hold j.loops k.loops whole.loops in_order.loops all in
        a_coalescing (judges_held left held.0) (judges_held right held.1) in_order either ok
    gives_held (an_assignment part written) all = an_assignment (judges_held part all) written
    gives_held (a_merge_into_nothing part) all = a_merge_into_nothing (judges_held part all)
    gives_held (a_merge_assignment part written) all = a_merge_assignment (judges_held part all) written
    gives_held (an_error_assignment empty given given_both failed failed_both part may cut either null text one two
        three four joins) all =
        an_error_assignment empty given given_both failed failed_both (judges_held part all) may cut either null text
        one two three four joins
    gives_held (a_call_of_nothing {c = c} {j = j} {tags = tags} unknown other arguments allowed) all =
        a_call_of_nothing unknown other (arguments_held arguments
        (call_hold c tags j (passing_closure c tags j) refl all)).1 (as_before allowed)
    gives_held (a_call {span = span} function {bang = bang} {c = c} {j = j} {whole = whole} {tags = tags} K fails fail
        named arguments allowed is answered joins) all =
        let held = call_hold c tags j whole (ap (λ w. w.loops) is)
        (banged_hold span bang (record whole { kind = K; fail = fail }) all) in
        a_call function K fails fail named (arguments_held arguments held).1 (as_before allowed) is answered joins
    gives_held (a_deletion {span = span} {bang = bang} {c = c} {js = js} {j = j} {whole = whole} {tags = tags} ok named
        arguments allowed is deleted) all =
        let held = call_hold c tags j whole (ap (λ w. w.loops) is)
        (banged_hold span bang (record whole { kind = deleted_kind whole.poisoned js; ok = ok }) all) in
        a_deletion ok named (arguments_held arguments held).1 (as_before allowed) is deleted
    gives_held (an_existence {span = span} {bang = bang} {c = c} {j = j} {whole = whole} {tags = tags} K named
        arguments allowed is scalar) all =
        let held = call_hold c tags j whole (ap (λ w. w.loops) is)
        (banged_hold span bang (record whole { kind = K }) all) in
        an_existence K named (arguments_held arguments held).1 (as_before allowed) is scalar
    gives_held (a_wrong_closure_call {span = span} f {bang = bang} {c = c} {j = j} {tags = tags} first others named
        runs arguments allowed is) all =
        let held = call_hold c tags j (passing_closure c tags j) refl
        (banged_hold span bang (with_codes (first ∷ others)
        (passing_closure c tags (record j { kind = any_kind }))) all) in
        a_wrong_closure_call f first others named runs (arguments_held arguments held).1 (as_before allowed) is
    gives_held (a_closure_call {span = span} f {bang = bang} {t = t} {j = j} C key value loop {k = k} {whole = whole} K
        fail named runs arguments no_codes cut_down key_cut value_cut all_runs next cut joins) all =
        let held = parts_hold j.loops (Some loop ∷ k.loops) whole.loops next.behind.loops
        (banged_hold span bang (with_codes (of_body f t k) (record whole { kind = K; fail = fail })) all) in
        let own = and_parts (holds loop) (each_holds k.loops) held.1 in
        a_closure_call f C key value loop K fail named runs (arguments_held arguments held.0).1 no_codes cut_down
        key_cut value_cut (runs_held all_runs own.0 own.1) next cut joins
    gives_held (a_return part joins either) all = a_return (judges_held part all) joins either
    gives_held an_abort all = an_abort
    gives_held (an_abort_with part) all = an_abort_with (judges_held part all)

    operands_held : {inside : Bool} {known : RootMap} {l r : Expr} {j k whole : Judgement}
        → JudgesBoth rules inside known l r j k whole → AllHold whole.loops
        → JudgesBoth strict inside known l r j k whole
    operands_held (operands {j = j} {k = k} {whole = whole} left right next) all =
        let held = parts_hold j.loops k.loops whole.loops next.behind.loops all in
        operands (judges_held left held.0) (judges_held right held.1) next

    -- of parts in order, those before them hold too
    all_held : {inside : Bool} {before after : Judgement} {es : Exprs} {Ks : List KindTree}
        → JudgesAll rules inside before es Ks after → AllHold after.loops
        → AllHold before.loops × JudgesAll strict inside before es Ks after
    all_held no_more all = (all, no_more)
    all_held (one_more {before = before} {j = j} {middle = middle} part next rest) all =
        let others = all_held rest all in
        let held = parts_hold before.loops j.loops middle.loops next.behind.loops others.0 in
        (held.0, one_more (judges_held part held.1) next others.1)

    arguments_held : {inside : Bool} {before after : Judgement} {gs : Args} {js : List Argument}
        → JudgesArguments rules inside before gs js after → AllHold after.loops
        → AllHold before.loops × JudgesArguments strict inside before gs js after
    arguments_held no_more_arguments all = (all, no_more_arguments)
    arguments_held (one_more_argument {before = before} {j = j} {middle = middle} part next rest) all =
        let others = arguments_held rest all in
        let held = parts_hold before.loops j.loops middle.loops next.behind.loops others.0 in
        (held.0, one_more_argument (judges_held part held.1) next others.1)

    block_held : {inside : Bool} {known : Option RootMap} {es : Exprs} {j : Judgement}
        → JudgesBlock rules inside known es j → AllHold j.loops → JudgesBlock strict inside known es j
    block_held (unreached_block allowed) all = unreached_block (as_before allowed)
    block_held (reached_block null parts) all = reached_block null (all_held parts all).1

    arms_held : {inside : Bool} {state : Option RootMap} {ways all : Judgement} {gs : Arms} {otherwise : Else}
        → JudgesArms rules inside state ways gs otherwise all → AllHold all.loops
        → AllHold ways.loops × JudgesArms strict inside state ways gs otherwise all
    arms_held (an_arm {ways = ways} {j = j} {with_predicate = with_predicate} {k = k} {with_branch = with_branch}
        predicate beside branch besides rest) all =
        let others = arms_held rest all in
        let branches = parts_hold with_predicate.loops k.loops with_branch.loops besides.loops others.0 in
        let held = parts_hold ways.loops j.loops with_predicate.loops beside.loops branches.0 in
        (held.0, an_arm (judges_held predicate held.1) beside (block_held branch branches.1) besides others.1)
    arms_held (an_else {ways = ways} {k = k} {all = whole} branch beside) all =
        let held = parts_hold ways.loops k.loops whole.loops beside.loops all in
        (held.0, an_else (block_held branch held.1) beside)
    arms_held (a_missing_else {ways = ways} {all = whole} null beside) all =
        ((parts_hold ways.loops [] whole.loops beside.loops all).0, a_missing_else null beside)

    body_held : {b : ClosureBody} {known : Option RootMap} {j : Judgement} → JudgesBody rules b known j
        → AllHold j.loops → JudgesBody strict b known j
    body_held (unreached_body allowed) all = unreached_body (as_before allowed)
    body_held (reached_body block) all = reached_body (block_held block all)

    runs_held : {b : ClosureBody} {known : Option RootMap} {loop : Loop} {k : Judgement}
        → JudgesRuns rules b known loop k → holds loop ≡ true → AllHold k.loops → JudgesRuns strict b known loop k
    runs_held (by_tries tried tries) own all = absurd (false≢true (sym no_tries ∙ tried))
    runs_held (by_what_is_given {loop = loop} may body begins goes_on) own all =
        by_what_is_given (and_from (rules.given loop) (holds loop) may own)
        (body_held body all) begins goes_on

  items_held : {before after : Judgement} {es : Exprs} → JudgesItems rules before es after → AllHold after.loops
      → AllHold before.loops × JudgesItems strict before es after
  items_held no_more_items all = (all, no_more_items)
  items_held (one_more_item {before = before} {j = j} {middle = middle} part next rest) all =
      let others = items_held rest all in
      let held = parts_hold before.loops j.loops middle.loops next.behind.loops others.0 in
      (held.0, one_more_item (judges_held part held.1) next others.1)

script_held : (rules : OpenRules) → rules.tries ≡ false → (start : KindTree) (items : Exprs) (j : Judgement)
    → JudgesScript rules start items j → each_holds j.loops ≡ true → JudgesScript (only_what_holds rules) start items j
script_held rules no_tries start items k (a_script starts null all) held =
    a_script starts null (items_held rules no_tries all held).1

-- what they give holds
given_holds : (rules : OpenRules) → GiveWhatHolds (only_what_holds rules)
given_holds rules loop given = and_parts loop.begins loop.goes_on (and_parts (rules.given loop) (holds loop) given).1

pub states_that_hold : StatesThatHoldCanBeGiven
states_that_hold = record { script = script_held; given = given_holds }
