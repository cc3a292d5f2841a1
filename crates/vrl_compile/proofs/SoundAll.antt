-- Soundness of every expression: what is shown of each form, put together.
use Rattle.std.proofs.Common.{ℤ, Bool, List, [], length, Option, Some, None, refl, ◌∙◌, subst}
use Rattle.vrl_diag.specs.declared.diagnostic.Span.{Span}
use Rattle.vrl_syntax.specs.Tree.{expr, Expr, Exprs, Form, Args, Arms, Else}
use Rattle.vrl_kind.specs.Canonical.{any_kind}
use Rattle.vrl_kind.specs.KindTree.{KindTree}
use Rattle.vrl_state.specs.States.{RootMap}
use Rattle.vrl_builtin.specs.Rows.{SettingTree}
use Rattle.vrl_binding.specs.Binding.{collections}
use Rattle.vrl_judge.specs.Closures.{ClosureBody, Try}
use Rattle.vrl_judge.specs.Rules.{Argument, Judgement, Loop, settle}
use Rattle.vrl_check.specs.Determined.{HasCause}
use Rattle.vrl_check.specs.Loops.{closures_in_expr, closures_in_exprs}
use Rattle.vrl_check.specs.OpenRules.{GiveWhatHolds, OpenRules}
use Rattle.vrl_check.specs.Judgement.{body_of, passing_closure, unreached_parts, Judges, unreached, reached, Gives, a_literal, an_array, an_object, a_known_root, an_unknown_root, a_query, a_group, a_block, a_conditional, a_negation, an_equality, of_table, a_merge, a_conjunction, a_disjunction, a_coalescing, an_assignment, a_merge_into_nothing, a_merge_assignment, an_error_assignment, a_call_of_nothing, a_call, a_deletion, an_existence, a_wrong_closure_call, a_closure_call, a_return, an_abort, an_abort_with, operands, JudgesAll, no_more, one_more, JudgesArguments, no_more_arguments, one_more_argument, JudgesBlock, unreached_block, reached_block, JudgesArms, an_arm, an_else, a_missing_else, JudgesBody, unreached_body, reached_body, JudgesTries, a_stable_try, an_unstable_try, JudgesRuns, by_tries, by_what_is_given}
use Rattle.vrl_compile.specs.Sound.{ClosuresAreSound, ExpressionsAreSound, setting_of}
use Rattle.vrl_compile.proofs.SoundBlocks.{block_is_sound, conditional_is_sound, reached_block_is_sound, sound_arm, sound_else, sound_missing_else, unreached_block_is_sound, AreSoundArms, IsSoundBlock}
use Rattle.vrl_compile.proofs.SoundBodies.{reached_body_is_sound, runs_from_next, unreached_body_is_sound, AreSoundRuns, IsSoundBody}
use Rattle.vrl_compile.proofs.SoundCalls.{call_is_sound, call_of_nothing_is_sound}
use Rattle.vrl_compile.proofs.SoundClosures.{closure_call_is_sound, wrong_closure_call_is_sound}
use Rattle.vrl_compile.proofs.SoundCounts.{IsToldOf}
use Rattle.vrl_compile.proofs.SoundEnds.{sound_settled, IsSoundForm, IsSoundPart}
use Rattle.vrl_compile.proofs.SoundMet.{inhabits_cut}
use Rattle.vrl_compile.proofs.SoundParts.{collection_given}
use Rattle.vrl_compile.specs.SoundLaws.{Laws}
use Rattle.vrl_compile.proofs.SoundLists as lists
use Rattle.vrl_compile.proofs.SoundLists.{no_more_sound, one_more_sound, AreSound, AreSoundArguments}
use Rattle.vrl_compile.proofs.SoundOperators.{equality_is_sound, merge_is_sound, negation_is_sound, table_is_sound}
use Rattle.vrl_compile.proofs.SoundPaths.{deletion_is_sound, existence_is_sound}
use Rattle.vrl_compile.proofs.SoundReturns.{abort_is_sound, abort_with_is_sound, return_is_sound}
use Rattle.vrl_compile.proofs.SoundRuns.{all_run_with, first_run_with, runs_keep, AreRunWith}
use Rattle.vrl_compile.proofs.SoundTruth.{coalescing_is_sound, conjunction_is_sound, disjunction_is_sound}
use Rattle.vrl_compile.proofs.SoundValues.{array_is_sound, group_is_sound, literal_is_sound, object_is_sound, query_is_sound, read_is_sound, unknown_is_sound}
use Rattle.vrl_compile.proofs.SoundWrites.{assignment_is_sound, error_assignment_is_sound, merge_assignment_is_sound, merge_into_nothing_is_sound}

-- what is reached ends as its form does, once it is settled
reached_is_sound : (setting : SettingTree) (known : RootMap) (span : Span) (f : Form) (j : Judgement) → HasCause j → IsSoundForm setting known f j → IsSoundPart setting (Some known) (expr span f) (settle j)
reached_is_sound setting known span f j cause sound none well rest store stored fits = sound_settled j _ (cause ∙ none) (sound none well rest store stored fits)

-- nothing that is dead is run
dead_is_sound : (setting : SettingTree) (e : Expr) (j : Judgement) → IsSoundPart setting None e j
dead_is_sound setting e j none well rest store stored fits = absurd fits

module _ (laws : Laws) (moment : ℤ) (rules : OpenRules) (holds : GiveWhatHolds rules) where
  abbrev setting : SettingTree
  setting = setting_of moment rules

  told_of : {inside : Bool} {known : Option RootMap} {e : Expr} {j : Judgement} → Judges rules inside known e j → IsToldOf e j
  told_of judges = record { counted = laws.counted.expression _ _ _ _ _ judges; cause = laws.causes.expression _ _ _ _ _ judges }

  mutual
    expression_sound : {inside : Bool} {known : Option RootMap} {e : Expr} {j : Judgement} → Judges rules inside known e j → IsSoundPart setting known e j
    expression_sound (unreached {e = e} {tags = tags} allowed) = dead_is_sound setting e (unreached_parts tags (closures_in_expr e))
    expression_sound (reached {known = known} {span = span} {f = f} {j = j} gives) = reached_is_sound setting known span f j (laws.causes.form _ _ _ _ _ _ gives) (form_sound gives (laws.causes.form _ _ _ _ _ _ gives))

    form_sound : {inside : Bool} {known : RootMap} {span : Span} {f : Form} {j : Judgement} → Gives rules inside known span f j → HasCause j → IsSoundForm setting known f j
    form_sound (a_literal {known = known} {v = v} {K = K} cut) cause = literal_is_sound laws setting known v K cut
    form_sound (an_array {known = known} {es = es} {j = j} {Ks = Ks} {K = K} all cut) cause = array_is_sound laws setting known es j Ks K (all_are_sound all) cut
    form_sound (an_object {known = known} {ps = ps} {j = j} {Ks = Ks} {K = K} all cut) cause = object_is_sound laws setting known ps j Ks K (all_are_sound all) cut
    form_sound (a_known_root {known = known} {root = root} {path = path} {K = K} {M = M} is at) cause = read_is_sound laws setting known root path K M is at
    form_sound (an_unknown_root {known = known} {span = span} {root = root} {path = path} is) cause = unknown_is_sound setting known span root path any_kind
    form_sound (a_query {known = known} {e = e} {path = path} {j = j} {K = K} part at) cause = query_is_sound laws setting known e path j K (expression_sound part) at
    form_sound (a_group {known = known} {e = e} {j = j} part) cause = group_is_sound setting known e j (expression_sound part)
    form_sound (a_block {known = known} {es = es} {j = j} all) cause = block_is_sound setting known es j (block_sound all)
    form_sound (a_conditional {known = known} {gs = gs} {es = es} {j = j} arms) cause = conditional_is_sound laws setting known gs es j (arms_are_sound arms)
    form_sound (a_negation {known = known} {span = span} {e = e} {j = j} {K = K} part cut) cause = negation_is_sound laws setting known span e j K (told_of part) cut (expression_sound part)
    form_sound (an_equality {known = known} {span = span} {o = o} {l = l} {r = r} {j = j} {k = k} {whole = w} {K = K} is (operands first second in_order) cut) cause =
        equality_is_sound laws setting known span o l r j k w K is (told_of first) (told_of second) in_order cut (expression_sound first) (expression_sound second)
    form_sound (of_table {known = known} {span = span} {o = o} {table = t} {l = l} {r = r} {j = j} {k = k} {whole = w} {K = K} {fail = fail} is (operands first second in_order) cut fails) cause =
        table_is_sound laws setting known span o t l r j k w K fail is (told_of first) (told_of second) in_order cut fails (expression_sound first) (expression_sound second)
    form_sound (a_merge {known = known} {l = l} {r = r} {j = j} {k = k} {whole = w} {K = K} (operands first second in_order) is) cause =
        merge_is_sound laws setting known l r j k w K (told_of first) (told_of second) in_order is (expression_sound first) (expression_sound second)
    form_sound (a_conjunction {known = known} {l = l} {r = r} {j = j} {k = k} {whole = w} {K = K} left_fail part_fail {ok = ok} {fail = fail} first second in_order cut oks left_fails part_fails fails) cause =
        conjunction_is_sound laws setting known l r j k w K left_fail part_fail ok fail (told_of first) in_order cut oks left_fails part_fails fails (expression_sound first) (expression_sound second)
    form_sound (a_disjunction {known = known} {l = l} {r = r} {j = j} {k = k} {whole = w} {K = K} {ok = ok} first second in_order cut oks) cause =
        disjunction_is_sound laws setting known l r j k w K ok (told_of first) in_order cut oks (expression_sound first) (expression_sound second)
    form_sound (a_coalescing {known = known} {span = span} {l = l} {r = r} {j = j} {k = k} {whole = w} {K = K} {ok = ok} first second in_order either oks) cause =
        coalescing_is_sound laws setting known span l r j k w K ok (told_of first) in_order either oks (expression_sound first) (expression_sound second)
    form_sound (an_assignment {known = known} {span = span} {t = t} {e = e} {j = j} {ok = ok} part written) cause = assignment_is_sound laws setting known span t e j ok written (expression_sound part)
    form_sound (a_merge_into_nothing {known = known} {span = span} {e = e} {j = j} part) cause = merge_into_nothing_is_sound setting known span e j
    form_sound (a_merge_assignment {known = known} {span = span} {s = s} {root = root} {path = path} {e = e} {j = j} {ok = ok} part written) cause =
        merge_assignment_is_sound laws setting known span s root path e j ok written (expression_sound part)
    form_sound (an_error_assignment {known = known} {span = span} {t = t} {u = u} {e = e} {j = j} empty {E = E} {K = K} {N = N} {T = T} given given_both failed failed_both {ok = ok} part allowed cut either null_kind text_kind one two three four oks) cause =
        error_assignment_is_sound laws setting known span t u e j empty E K N T given given_both failed failed_both ok cut either null_kind text_kind one two three four oks (expression_sound part)
    form_sound (a_call_of_nothing {known = known} {s = s} {name = name} {bang = bang} {gs = gs} {c = c} {j = j} {tags = tags} unknown other arguments allowed) cause =
        call_of_nothing_is_sound setting known s name bang gs c (passing_closure c tags (record j { kind = any_kind }))
    form_sound (a_call {known = known} {span = span} {s = s} function {name = name} {bang = bang} {gs = gs} {c = c} {js = js} {j = j} {whole = w} {tags = tags} K fails fail named arguments allowed is answered joined) cause =
        call_is_sound laws setting known span s function name bang gs c tags js j w K fails fail named (arguments_are_sound arguments) is answered joined cause
    form_sound (a_deletion {known = known} {span = span} {s = s} {name = name} {bang = bang} {gs = gs} {c = c} {js = js} {j = j} {whole = w} {tags = tags} ok named arguments allowed is deleted) cause =
        deletion_is_sound laws setting known span s name bang gs c tags js j w ok named (arguments_are_sound arguments) is deleted cause
    form_sound (an_existence {known = known} {span = span} {s = s} {name = name} {bang = bang} {gs = gs} {c = c} {js = js} {j = j} {whole = w} {tags = tags} K named arguments allowed is scalar) cause =
        existence_is_sound laws setting known span s name bang gs c tags js j w K named (arguments_are_sound arguments) is scalar cause
    form_sound (a_wrong_closure_call {known = known} {span = span} {s = s} f {name = name} {bang = bang} {gs = gs} {c = c} {js = js} {j = j} {tags = tags} first others named closed arguments allowed is) cause =
        wrong_closure_call_is_sound setting known span s f name bang gs c js first others (passing_closure c tags (record j { kind = any_kind })) is
    form_sound (a_closure_call {known = known} {span = span} {s = s} f {name = name} {bang = bang} {gs = gs} {names = names} {es = es} {t = t} {g = g} {j = j} C key value loop {k = k} {whole = w} K fail named closed arguments no_codes cut keys values runs in_order is joined) cause =
        closure_call_is_sound laws setting known span s f name bang gs names es t g j C key value loop k w K fail named closed (arguments_are_sound arguments) no_codes cut keys values (runs_are_sound runs) in_order is joined
    form_sound (a_return {inside = inside} {known = known} {span = span} {e = e} {j = j} {ret = ret} {R = R} part rets either) cause = return_is_sound laws setting inside known span e j ret R rets either (expression_sound part)
    form_sound (an_abort {known = known}) cause = abort_is_sound setting known []
    form_sound (an_abort_with {known = known} {e = e} {j = j} part) cause = abort_with_is_sound laws setting known e j (told_of part) (expression_sound part)

    all_are_sound : {inside : Bool} {before after : Judgement} {es : Exprs} {Ks : List KindTree} → JudgesAll rules inside before es Ks after → AreSound setting before es Ks after
    all_are_sound no_more = no_more_sound
    all_are_sound (one_more part in_order more) = one_more_sound (laws.counted.expression _ _ _ _ _ part) (expression_sound part) in_order (all_are_sound more)

    arguments_are_sound : {inside : Bool} {before after : Judgement} {gs : Args} {js : List Argument} → JudgesArguments rules inside before gs js after → AreSoundArguments setting before gs js after
    arguments_are_sound no_more_arguments = lists.no_more_arguments
    arguments_are_sound (one_more_argument part in_order more) = lists.one_more_argument (told_of part) (expression_sound part) in_order (arguments_are_sound more)

    block_sound : {inside : Bool} {known : Option RootMap} {es : Exprs} {j : Judgement} → JudgesBlock rules inside known es j → IsSoundBlock setting known es j
    block_sound (unreached_block {es = es} {tags = tags} allowed) = unreached_block_is_sound setting es (unreached_parts tags (closures_in_exprs es))
    block_sound (reached_block {known = known} {es = es} {Ks = Ks} {N = N} {j = j} null_kind all) = reached_block_is_sound laws setting known es Ks N j null_kind (laws.causes.all _ _ _ _ _ _ all refl) (all_are_sound all)

    arms_are_sound : {inside : Bool} {state : Option RootMap} {ways all : Judgement} {gs : Arms} {otherwise : Else} → JudgesArms rules inside state ways gs otherwise all → AreSoundArms setting state ways gs otherwise all
    arms_are_sound (an_arm {j = j} predicate beside branch besides more) =
        sound_arm j (laws.counted.expression _ _ _ _ _ predicate) (expression_sound predicate) beside (laws.counted.block _ _ _ _ _ branch) (block_sound branch) besides (arms_are_sound more)
    arms_are_sound (an_else branch beside) = sound_else (block_sound branch) beside
    arms_are_sound (a_missing_else null_kind beside) = sound_missing_else null_kind beside

    body_is_sound : {b : ClosureBody} {known : Option RootMap} {j : Judgement} → JudgesBody rules b known j → IsSoundBody setting b known j
    body_is_sound (unreached_body {b = b} {tags = tags} allowed) = unreached_body_is_sound setting b (unreached_parts tags (closures_in_exprs b.items))
    body_is_sound (reached_body {b = b} {known = known} {j = j} block) = reached_body_is_sound laws setting b known j (block_sound block)

    tries_are_sound : {b : ClosureBody} {try : Try} {known last : Option RootMap} {j : Judgement} → JudgesTries rules b try known last j → AreSoundRuns setting b known last j
    tries_are_sound (a_stable_try {known = known} {j = j} judges within) =
        record { body = body_is_sound judges; begins = λ store fits. fits; goes_on = λ store fits. laws.within j.ok known store fits within; cause = laws.causes.body _ _ _ _ judges }
    tries_are_sound (an_unstable_try {b = b} {try = try} {known = known} {next = next} {last = last} {j = j} {k = k} judges beyond is more) =
        runs_from_next laws setting try b known j.ok next last k is (tries_are_sound more)

    runs_are_sound : {b : ClosureBody} {begin : Option RootMap} {loop : Loop} {j : Judgement} → JudgesRuns rules b begin loop j → AreSoundRuns setting b begin loop.known j
    runs_are_sound (by_tries tried tries) = tries_are_sound tries
    runs_are_sound (by_what_is_given {known = known} {loop = loop} {k = k} given judges begins goes_on) =
        let both = holds loop given in
        record {
          body = body_is_sound judges;
          begins = λ store fits. laws.within known loop.known store fits (begins.0 both.0);
          goes_on = λ store fits. laws.within k.ok loop.known store fits (goes_on.0 both.1);
          cause = laws.causes.body _ _ _ _ judges;
        }

pub expressions_sound : Laws → ExpressionsAreSound
expressions_sound laws moment rules holds inside known e j judges = expression_sound laws moment rules holds judges

pub closures_sound : Laws → ClosuresAreSound
closures_sound laws = record {
  runs = λ moment rules holds b span begin loop j judges none well rest vss store after possible kinds formed stored fits ran.
      runs_keep laws (setting_of moment rules) b begin loop j (runs_are_sound laws moment rules holds judges) none well rest span vss store after
      (all_run_with _ b vss possible kinds formed) stored fits ran;
  calls = λ moment rules holds f names es K C key part cut keys parts span begin loop j judges none well v of_kind allowed formed rest vss others store after is stored fits ran.
      let b : ClosureBody = body_of f names es key part in
      let count = length rules.sources in
      let given = collection_given laws count f names es C key part v keys parts (inhabits_cut (collections f) K C v cut of_kind allowed) formed in
      runs_keep laws (setting_of moment rules) b begin loop j (runs_are_sound laws moment rules holds judges) none well rest span vss store after
      (first_run_with count b vss others (subst (AreRunWith count b) is given)) stored fits ran;
}
