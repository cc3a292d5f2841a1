-- No code stands twice at one place: each form gives a code once at its own place, and once at the place of each part, by codes of which none is
-- both.
use Rattle.std.proofs.Common.{◌≡◌, ℕ, ◌+◌, ◌≤◌, arith, Bool, true, false, ◌&&◌, ◌||◌, not, if◌then◌else◌, List, [], ◌∷◌, ◌++◌, Option, Some, None, nat_eq, eqb-true, refl, sym, ap, subst, ◌∙◌}
use Rattle.std.specs.List.{list_any}
use Rattle.std.proofs.lemmas.Bool.{true≢false}
use Rattle.vrl_diag.specs.declared.diagnostic.Diagnostic.{Diagnostic}
use Rattle.vrl_diag.specs.declared.diagnostic.Span.{Span}
use Rattle.vrl_kind.specs.Canonical.{any_kind}
use Rattle.vrl_kind.specs.KindTree.{KindTree}
use Rattle.vrl_state.specs.States.{RootMap}
use Rattle.vrl_syntax.specs.Tree.{Args, Arms, Closure, Else, Expr, expr, Exprs, Form, Message, Pairs, no_args, arg, no_arms, arm, no_closure, closure, no_else, else_block, no_exprs, exprs, no_message, message, no_pairs, pair, literal, array, object, read, query, group, block, conditional, negation, binary, assign, merge, both, call, return_of, abort_with, span_of}
use Rattle.vrl_syntax.specs.declared.root.Op.{Op}
use Rattle.vrl_syntax.specs.declared.root.Target.{Target}
use Rattle.vrl_syntax.specs.declared.root.Target.TheVariants.{Nowhere, Place}
use Rattle.vrl_binding.specs.Binding.{path_parameters}
use Rattle.vrl_table.specs.Table.{row_of, ParametersAreToldApart}
use Rattle.vrl_judge.specs.Closures.{ClosureBody, Try, of_body}
use Rattle.vrl_judge.specs.Rules.{Argument, Judgement, Loop, is_comparison, is_compared, is_fallible, is_message_wrong, is_needless, is_nowhere, is_other, is_equality, at, chained, no_objects, of_assignment, of_error_assignment, of_message, of_predicate, puts_misfit, when, with_codes, writes_misfit}
use Rattle.vrl_check.specs.Apart.{arguments_at, at_place, closure_blocks_at, expressions_at, names_at, nothing_weighs, one_if, same_span, weigh_args, weigh_arms, weigh_closure, weigh_else, weigh_expr, weigh_exprs, weigh_form, weigh_message, weigh_pairs, weigh_target, weigh_within, is_quiet, is_sum, AreApart, NoCodeStandsTwice, Weights}
use Rattle.vrl_check.specs.Judgement.{deleted_kind, of_item, pair_values, passing_closure, table_of, wants_literal, wants_path}
use Rattle.vrl_check.specs.Judgement.{Judges, unreached, reached, Gives, a_literal, an_array, an_object, a_known_root, an_unknown_root, a_query, a_group, a_block, a_conditional, a_negation, an_equality, of_table, a_merge, a_conjunction, a_disjunction, a_coalescing, an_assignment, a_merge_into_nothing, a_merge_assignment, an_error_assignment, a_call_of_nothing, a_call, a_deletion, an_existence, a_wrong_closure_call, a_closure_call, a_return, an_abort, an_abort_with, JudgesBoth, operands, JudgesAll, no_more, one_more, JudgesArguments, no_more_arguments, one_more_argument, JudgesBlock, unreached_block, reached_block, JudgesArms, an_arm, an_else, a_missing_else, JudgesBody, unreached_body, reached_body, JudgesTries, a_stable_try, an_unstable_try, JudgesRuns, by_tries, by_what_is_given, JudgesItems, no_more_items, one_more_item, JudgesScript, a_script}
use Rattle.vrl_check.specs.OpenRules.{OpenRules}
use Rattle.vrl_check.proofs.CountedCodes.{assigned, behind_counted, both_assigned, both_counted, call_counted, counted, four_counted, none_counted, one, one_counted, own, own_640, own_650, own_651, own_660, own_701, own_1004, part, part_100, part_652, part_1011, predicate, run_counted, spans, two_counted, values, weights, when_counted, wrong_counted}
use Rattle.vrl_value.specs.declared.value.Tag.TheVariants as tag
use Rattle.vrl_syntax.specs.declared.root.Op.TheVariants as op
use Rattle.vrl_judge.specs.declared.prefix.Prefix.TheVariants as prefix

no_merge_and : op.And ≡ op.Merge → ⊥
no_merge_and is = cc

no_merge_or : op.Or ≡ op.Merge → ⊥
no_merge_or is = cc

no_merge_coalesce : op.Coalesce ≡ op.Merge → ⊥
no_merge_coalesce is = cc

-- a sum is no comparison, and gives no code of one
no_comparison : (o : Op) → is_sum o ≡ true → is_comparison o ≡ false
no_comparison op.Plus is = refl
no_comparison o is = absurd (true≢false (sym is))

no_equality : (o : Op) → is_sum o ≡ true → is_equality o ≡ false
no_equality op.Plus is = refl
no_equality o is = absurd (true≢false (sym is))

sum_gives_none : (span : Span) (o : Op) (l r : Expr) → is_sum o ≡ true → chained span o l r ≡ []
sum_gives_none span o l r is = ap (λ b. when (b && (is_compared l || is_compared r)) (at 650 span)) (no_comparison o is)

Some≢None : {A : Type 0} {a : A} → Some a ≡ None → ⊥
Some≢None is = cc

pair_weights : (w : Weights) (ps : Pairs) → weigh_exprs w (pair_values ps) ≡ weigh_pairs w ps
pair_weights w no_pairs = refl
pair_weights w (pair n e ps) = ap (λ k. weigh_expr w e + k) (pair_weights w ps)

-- ---- what is counted among the codes of a part is at most what the part weighs

module _ (rules : OpenRules) (names_apart : ParametersAreToldApart) (code : ℕ) (here : Span) where
  abbrev count : List Diagnostic → ℕ
  count ds = counted code here ds

  abbrev w : Weights
  w = weights code here

  abbrev at_own : Span → ℕ
  at_own span = own code here span

  abbrev at_part : Span → ℕ
  at_part span = part code here span

  -- where what holds a part may give it a code, the part counts in full
  in_full : (e : Expr) → weigh_within w false e ≡ weigh_expr w e
  in_full (expr span f) = refl

  nothing_light : (n : ℕ) → count [] ≤ n
  nothing_light n = let none = none_counted code here in omega (arith, none)

  -- a form within a group or a sum counts at its own place where it may give a code there
  quiet_or_own : (span : Span) (f : Form) (n : ℕ) (b : Bool) → is_quiet f ≡ b → (is_quiet f ≡ true → n ≤ weigh_form w f) → n ≤ at_own span + weigh_form w f → n ≤ (if b then 0 else w.expression span) + weigh_form w f
  quiet_or_own span f n true is quiet few = let less = quiet is in omega (arith, less)
  quiet_or_own span f n false is quiet few = omega (arith, few)

  -- a comparison, behind its operands
  chained_light : (span : Span) (o : Op) (l r : Expr) (whole : Judgement) (n : ℕ) → count whole.codes ≤ n → count (whole.codes ++ chained span o l r) ≤ at_own span + n
  chained_light span o l r whole n few =
      let all = both_counted code here whole.codes (chained span o l r) in
      let more = when_counted code here (is_comparison o && (is_compared l || is_compared r)) 650 span in
      let its = own_650 code here span in
      omega (arith, few, all, more, its)

  -- a merge, behind its operands
  merged_light : (l r : Expr) (j k whole : Judgement) → count whole.codes + (at_part (span_of l) + at_part (span_of r)) ≤ weigh_expr w l + weigh_expr w r →
      count (whole.codes ++ no_objects (span_of l) (span_of r) j k) ≤ weigh_expr w l + weigh_expr w r
  merged_light l r j k whole few =
      let all = both_counted code here whole.codes (no_objects (span_of l) (span_of r) j k) in
      let more = two_counted code here (is_other tag.Object j) (is_other tag.Object k) 652 652 (span_of l) (span_of r) in
      let first = part_652 code here (span_of l) in
      let second = part_652 code here (span_of r) in
      omega (arith, few, all, more, first, second)

  assignment_light : (span : Span) (t : Target) (j : Judgement) → count (j.codes ++ of_assignment span t j) ≤ count j.codes + at_own span
  assignment_light span t j =
      let all = both_counted code here j.codes (of_assignment span t j) in
      let more = four_counted code here (is_fallible j) (is_nowhere t) (puts_misfit t j prefix.Event) (puts_misfit t j prefix.Metadata) 103 640 1006 1017 span in
      let its = assigned code here span in
      omega (arith, all, more, its)

  -- arguments that stand behind nothing
  from_nothing : (js : List Argument) (j : Judgement) (gs : Args) → count j.codes + (values code here js + spans code here js) ≤ count [] + weigh_args w gs → count j.codes + (values code here js + spans code here js) ≤ weigh_args w gs
  from_nothing js j gs few = let none = none_counted code here in omega (arith, few, none)

  -- nothing is judged where nothing is reached
  unreached_light : (e : Expr) → count [] + at_part (span_of e) ≤ weigh_expr w e
  unreached_light (expr span f) = let none = none_counted code here in omega (arith, none)

  mutual
    judges_light : {inside : Bool} {known : Option RootMap} {e : Expr} {j : Judgement} → Judges rules inside known e j → count j.codes + at_part (span_of e) ≤ weigh_expr w e
    judges_light (unreached {e = e} allowed) = unreached_light e
    judges_light (reached {span = span} {f = f} {j = j} gives) = let few = gives_light gives in omega (arith, few)

    gives_light : {inside : Bool} {known : RootMap} {span : Span} {f : Form} {j : Judgement} → Gives rules inside known span f j → count j.codes ≤ at_own span + weigh_form w f
    gives_light (a_literal {span = span} cut) = let none = none_counted code here in omega (arith, none)
    gives_light (an_array {span = span} {es = es} {j = j} all cut) = let few = all_light all in let none = none_counted code here in omega (arith, few, none)
    gives_light (an_object {span = span} {ps = ps} {j = j} all cut) = let few = all_light all in let none = none_counted code here in let same = pair_weights w ps in omega (arith, few, none, same)
    gives_light (a_known_root {span = span} is at) = let none = none_counted code here in omega (arith, none)
    gives_light (an_unknown_root {span = span} is) = let few = one_counted code here 701 span in let its = own_701 code here span in omega (arith, few, its)
    gives_light (a_query {span = span} {e = e} {j = j} judged at) = let few = judges_light judged in omega (arith, few)
    gives_light (a_group {span = span} {e = e} {j = j} judged) = let few = within_light true judged in omega (arith, few)
    gives_light (a_block {span = span} {es = es} {j = j} items) = let few = block_light items in omega (arith, few)
    gives_light (a_conditional {span = span} {gs = gs} {es = es} {j = j} arms) = let few = arms_light arms in let none = none_counted code here in omega (arith, few, none)
    gives_light (a_negation {span = span} {e = e} {j = j} judged scalar) =
        let few = judges_light judged in
        let codes = both_counted code here j.codes (when (is_other tag.Bool j) (at 660 span)) in
        let more = when_counted code here (is_other tag.Bool j) 660 span in
        let its = own_660 code here span in
        omega (arith, few, codes, more, its)
    gives_light (an_equality {span = span} {o = o} {l = l} {r = r} {whole = whole} is parts scalar) = chained_light span o l r whole (weigh_within w (is_sum o) l + weigh_within w (is_sum o) r) (sides_light (is_sum o) parts)
    gives_light (of_table {span = span} {o = o} {l = l} {r = r} {whole = whole} is parts cut fails) = chained_light span o l r whole (weigh_within w (is_sum o) l + weigh_within w (is_sum o) r) (sides_light (is_sum o) parts)
    gives_light (a_merge {span = span} {l = l} {r = r} {j = j} {k = k} {whole = whole} parts merged) =
        let few = merged_light l r j k whole (operands_light parts) in
        let one = in_full l in
        let two = in_full r in
        omega (arith, few, one, two)
    gives_light (a_conjunction {span = span} {l = l} {r = r} {j = j} {k = k} {whole = whole} left_fail part_fail left right in_order scalar ok one two three) =
        let first = within_light false left in
        let second = within_light false right in
        let codes = behind_counted code here j k whole in_order in
        omega (arith, first, second, codes)
    gives_light (a_disjunction {span = span} {l = l} {r = r} {j = j} {k = k} {whole = whole} left right next cut ok) =
        let first = within_light false left in
        let second = within_light false right in
        let codes = behind_counted code here j k whole next.behind in
        omega (arith, first, second, codes)
    gives_light (a_coalescing {span = span} {l = l} {r = r} {j = j} {k = k} {whole = whole} left right in_order either ok) =
        let first = within_light false left in
        let second = within_light false right in
        let codes = behind_counted code here j k whole in_order in
        let all = both_counted code here whole.codes (when (is_needless j) (at 651 span)) in
        let more = when_counted code here (is_needless j) 651 span in
        let its = own_651 code here span in
        omega (arith, first, second, codes, all, more, its)
    gives_light (an_assignment {span = span} {t = t} {e = e} {j = j} judged written) =
        let few = judges_light judged in
        let more = assignment_light span t j in
        omega (arith, few, more)
    gives_light (a_merge_into_nothing {span = span} {e = e} {j = j} judged) =
        let few = judges_light judged in
        let all = both_counted code here j.codes (at 640 span) in
        let more = one_counted code here 640 span in
        let its = own_640 code here span in
        omega (arith, few, all, more, its)
    gives_light (a_merge_assignment {span = span} {s = s} {root = root} {path = path} {e = e} {j = j} judged written) =
        let few = merge_of judged in
        let more = assignment_light span (Place s root path) j in
        omega (arith, few, more)
    gives_light (an_error_assignment {span = span} {t = t} {u = u} {e = e} {j = j} empty {K = K} given given_both failed failed_both judged may cut either null text one two three four joins) =
        let few = judges_light judged in
        let all = both_counted code here j.codes (of_error_assignment span t u j K) in
        let more = four_counted code here (is_needless j) (is_nowhere t && is_nowhere u) (writes_misfit t u j K prefix.Event) (writes_misfit t u j K prefix.Metadata) 104 640 1006 1017 span in
        let its = both_assigned code here span in
        omega (arith, few, all, more, its)
    gives_light (a_call_of_nothing {span = span} {s = s} {gs = gs} {c = c} {js = js} {j = j} unknown other arguments allowed) =
        let few = arguments_light arguments in
        let none = none_counted code here in
        let all = both_counted code here j.codes (at 105 s) in
        let more = one_counted code here 105 s in
        omega (arith, few, none, all, more)
    gives_light (a_call {span = span} {s = s} function {bang = bang} {gs = gs} {c = c} {js = js} {j = j} {whole = whole} {tags = tags} K fails fail named arguments allowed is answered joins) =
        let few = from_nothing js j gs (arguments_light arguments) in
        let all = call_counted code here (wants_literal (row_of function)) (row_of function).parameters span bang gs c tags js j whole (record whole { kind = K; fail = fail }) (weigh_args w gs) (names_apart function) few is refl in
        omega (arith, all)
    gives_light (a_deletion {span = span} {s = s} {bang = bang} {gs = gs} {c = c} {js = js} {j = j} {whole = whole} {tags = tags} ok named arguments allowed is deleted) =
        let few = from_nothing js j gs (arguments_light arguments) in
        let all = call_counted code here wants_path path_parameters span bang gs c tags js j whole (record whole { kind = deleted_kind whole.poisoned js; ok = ok }) (weigh_args w gs) refl few is refl in
        omega (arith, all)
    gives_light (an_existence {span = span} {s = s} {bang = bang} {gs = gs} {c = c} {js = js} {j = j} {whole = whole} {tags = tags} K named arguments allowed is scalar) =
        let few = from_nothing js j gs (arguments_light arguments) in
        let all = call_counted code here wants_path path_parameters span bang gs c tags js j whole (record whole { kind = K }) (weigh_args w gs) refl few is refl in
        omega (arith, all)
    gives_light (a_wrong_closure_call {span = span} {s = s} f {bang = bang} {gs = gs} {c = c} {js = js} {j = j} {tags = tags} first others named runs arguments allowed is) =
        let few = from_nothing js j gs (arguments_light arguments) in
        let all = wrong_counted code here f span bang gs c js j (with_codes (first ∷ others) (passing_closure c tags (record j { kind = any_kind }))) (first ∷ others) (weigh_args w gs) few is refl in
        omega (arith, all)
    gives_light (a_closure_call {span = span} {s = s} f {bang = bang} {gs = gs} {es = es} {t = t} {g = g} {j = j} C key value loop {k = k} {whole = whole} K fail named runs arguments no_codes cut_down key_cut value_cut all_runs next cut joins) =
        let few = from_nothing (g ∷ []) j gs (arguments_light arguments) in
        let all = run_counted code here f span t bang (g ∷ []) j k whole (with_codes (of_body f t k) (record whole { kind = K; fail = fail })) (weigh_args w gs) (weigh_exprs w es) few (runs_light all_runs) next.behind.codes refl in
        omega (arith, all)
    gives_light (a_return {inside = inside} {span = span} {e = e} {j = j} judged joins either) =
        let few = judges_light judged in
        let all = both_counted code here j.codes (when inside (at 1004 span)) in
        let more = when_counted code here inside 1004 span in
        let its = own_1004 code here span in
        omega (arith, few, all, more, its)
    gives_light (an_abort {span = span}) = let none = none_counted code here in omega (arith, none)
    gives_light (an_abort_with {span = span} {e = e} {j = j} judged) =
        let few = judges_light judged in
        let all = both_counted code here j.codes (of_message (span_of e) j) in
        let more = when_counted code here (is_message_wrong j) 1011 (span_of e) in
        let its = part_1011 code here (span_of e) in
        omega (arith, few, all, more, its)

    -- what a form gives that has no code at its own place
    quiet_light : {inside : Bool} {known : RootMap} {span : Span} {j : Judgement} (f : Form) → is_quiet f ≡ true → Gives rules inside known span f j → count j.codes ≤ weigh_form w f
    quiet_light (literal v) is (a_literal cut) = let none = none_counted code here in omega (arith, none)
    quiet_light (group e) is (a_group judged) = within_light true judged
    quiet_light (binary o l r) is (of_table {span = span} {whole = whole} from parts cut fails) =
        let few = sides_light (is_sum o) parts in
        let all = both_counted code here whole.codes (chained span o l r) in
        let none = ap count (sum_gives_none span o l r is) ∙ none_counted code here in
        omega (arith, few, all, none)
    quiet_light (binary o l r) is (an_equality equal parts scalar) = absurd (true≢false (sym equal ∙ no_equality o is))
    quiet_light (binary op.Merge l r) is (a_merge parts merged) = absurd (true≢false (sym is))
    quiet_light (binary op.And l r) is (a_conjunction left_fail part_fail left right in_order scalar ok one two three) = absurd (true≢false (sym is))
    quiet_light (binary op.Or l r) is (a_disjunction left right next cut ok) = absurd (true≢false (sym is))
    quiet_light (binary op.Coalesce l r) is (a_coalescing left right in_order either ok) = absurd (true≢false (sym is))
    quiet_light f is gives = let wrong : ⊥ = cc in absurd wrong

    within_light : {inside : Bool} {known : Option RootMap} {e : Expr} {j : Judgement} (quiet : Bool) → Judges rules inside known e j → count j.codes ≤ weigh_within w quiet e
    within_light quiet (unreached {e = e} allowed) = nothing_light (weigh_within w quiet e)
    within_light false (reached {span = span} {f = f} gives) = let few = gives_light gives in omega (arith, few)
    within_light true (reached {span = span} {f = f} {j = j} gives) = quiet_or_own span f (count j.codes) (is_quiet f) refl (λ is. quiet_light f is gives) (gives_light gives)

    sides_light : {inside : Bool} {known : RootMap} {l r : Expr} {j k whole : Judgement} (quiet : Bool) → JudgesBoth rules inside known l r j k whole → count whole.codes ≤ weigh_within w quiet l + weigh_within w quiet r
    sides_light quiet (operands {l = l} {r = r} {j = j} {k = k} {whole = whole} left right next) =
        let first = within_light quiet left in
        let second = within_light quiet right in
        let codes = behind_counted code here j k whole next.behind in
        omega (arith, first, second, codes)

    -- a merge gives no code at its own place
    merge_light : {inside : Bool} {known : RootMap} {span : Span} {o : Op} {l r : Expr} {j : Judgement} → o ≡ op.Merge → Gives rules inside known span (binary o l r) j → count j.codes ≤ weigh_expr w l + weigh_expr w r
    merge_light is (a_merge {l = l} {r = r} {j = j} {k = k} {whole = whole} parts merged) = merged_light l r j k whole (operands_light parts)
    merge_light is (an_equality equal parts scalar) = absurd (true≢false (sym equal ∙ ap is_equality is))
    merge_light is (of_table {table = table} from parts cut fails) = absurd (Some≢None (sym from ∙ ap table_of is))
    merge_light is (a_conjunction left_fail part_fail left right in_order scalar ok one two three) = absurd (no_merge_and is)
    merge_light is (a_disjunction left right next cut ok) = absurd (no_merge_or is)
    merge_light is (a_coalescing left right in_order either ok) = absurd (no_merge_coalesce is)

    merge_of : {inside : Bool} {known : Option RootMap} {span : Span} {l r : Expr} {j : Judgement} → Judges rules inside known (expr span (binary op.Merge l r)) j → count j.codes ≤ weigh_expr w l + weigh_expr w r
    merge_of (unreached allowed) = let none = none_counted code here in omega (arith, none)
    merge_of (reached gives) = merge_light refl gives

    operands_light : {inside : Bool} {known : RootMap} {l r : Expr} {j k whole : Judgement} → JudgesBoth rules inside known l r j k whole → count whole.codes + (at_part (span_of l) + at_part (span_of r)) ≤ weigh_expr w l + weigh_expr w r
    operands_light (operands {l = l} {r = r} {j = j} {k = k} {whole = whole} left right next) =
        let first = judges_light left in
        let second = judges_light right in
        let codes = behind_counted code here j k whole next.behind in
        omega (arith, first, second, codes)

    all_light : {inside : Bool} {before after : Judgement} {es : Exprs} {Ks : List KindTree} → JudgesAll rules inside before es Ks after → count after.codes ≤ count before.codes + weigh_exprs w es
    all_light (no_more {before = before}) = omega arith
    all_light (one_more {before = before} {j = j} {middle = middle} {after = after} {e = e} {es = es} judged next rest) =
        let first = judges_light judged in
        let codes = behind_counted code here before j middle next.behind in
        let others = all_light rest in
        omega (arith, first, codes, others)

    arguments_light : {inside : Bool} {before after : Judgement} {gs : Args} {js : List Argument} → JudgesArguments rules inside before gs js after → count after.codes + (values code here js + spans code here js) ≤ count before.codes + weigh_args w gs
    arguments_light (no_more_arguments {before = before}) = omega arith
    arguments_light (one_more_argument {before = before} {j = j} {middle = middle} {after = after} {span = span} {e = e} {gs = gs} {js = js} judged next rest) =
        let first = judges_light judged in
        let codes = behind_counted code here before j middle next.behind in
        let others = arguments_light rest in
        omega (arith, first, codes, others)

    block_light : {inside : Bool} {known : Option RootMap} {es : Exprs} {j : Judgement} → JudgesBlock rules inside known es j → count j.codes ≤ weigh_exprs w es
    block_light (unreached_block {es = es} allowed) = let none = none_counted code here in omega (arith, none)
    block_light (reached_block {es = es} {j = j} null all) = let few = all_light all in let none = none_counted code here in omega (arith, few, none)

    arms_light : {inside : Bool} {state : Option RootMap} {ways all : Judgement} {gs : Arms} {otherwise : Else} → JudgesArms rules inside state ways gs otherwise all → count all.codes ≤ count ways.codes + (weigh_arms w gs + weigh_else w otherwise)
    arms_light (an_arm {ways = ways} {j = j} {with_predicate = with_predicate} {k = k} {with_branch = with_branch} {all = all} {p = p} {es = es} {gs = gs} {otherwise = otherwise} judged beside branch besides rest) =
        let first = judges_light judged in
        let outer = ap count beside.codes ∙ both_counted code here ways.codes (j.codes ++ of_predicate (span_of p) j) in
        let inner = both_counted code here j.codes (of_predicate (span_of p) j) in
        let more = predicate code here (is_fallible j) (is_other tag.Bool j) (span_of p) in
        let inside = block_light branch in
        let next = ap count besides.codes ∙ both_counted code here with_predicate.codes k.codes in
        let others = arms_light rest in
        omega (arith, first, outer, inner, more, inside, next, others)
    arms_light (an_else {ways = ways} {k = k} {all = all} {es = es} branch beside) =
        let inside = block_light branch in
        let next = ap count beside.codes ∙ both_counted code here ways.codes k.codes in
        omega (arith, inside, next)
    arms_light (a_missing_else {ways = ways} {all = all} null beside) =
        let none = none_counted code here in
        let next = ap count beside.codes ∙ both_counted code here ways.codes [] in
        omega (arith, none, next)

    body_light : {b : ClosureBody} {known : Option RootMap} {j : Judgement} → JudgesBody rules b known j → count j.codes ≤ weigh_exprs w b.items
    body_light (unreached_body {b = b} allowed) = let none = none_counted code here in omega (arith, none)
    body_light (reached_body branch) = block_light branch

    tries_light : {b : ClosureBody} {try : Try} {known last : Option RootMap} {k : Judgement} → JudgesTries rules b try known last k → count k.codes ≤ weigh_exprs w b.items
    tries_light (a_stable_try body within) = body_light body
    tries_light (an_unstable_try body unstable next tries) = tries_light tries

    runs_light : {b : ClosureBody} {known : Option RootMap} {loop : Loop} {k : Judgement} → JudgesRuns rules b known loop k → count k.codes ≤ weigh_exprs w b.items
    runs_light (by_tries tried tries) = tries_light tries
    runs_light (by_what_is_given may body begins goes_on) = body_light body

  items_light : {before after : Judgement} {es : Exprs} → JudgesItems rules before es after → count after.codes ≤ count before.codes + weigh_exprs w es
  items_light (no_more_items {before = before}) = omega arith
  items_light (one_more_item {before = before} {j = j} {middle = middle} {after = after} {e = e} {es = es} judged next rest) =
      let first = judges_light judged in
      let codes = ap count next.behind.codes ∙ both_counted code here before.codes (j.codes ++ of_item (span_of e) j) in
      let all = both_counted code here j.codes (of_item (span_of e) j) in
      let more = when_counted code here (is_fallible j) 100 (span_of e) in
      let its = part_100 code here (span_of e) in
      let others = items_light rest in
      omega (arith, first, codes, all, more, its, others)

  script_light : {start : KindTree} {items : Exprs} {j : Judgement} → JudgesScript rules start items j → count j.codes ≤ weigh_exprs w items
  script_light (a_script {es = es} {j = j} starts null judged) = let few = items_light judged in let none = none_counted code here in omega (arith, few, none)

-- ---- what weighs less at each place weighs less

module _ (u v : Weights) (at_expressions : (span : Span) → u.expression span ≤ v.expression span) (at_names : (span : Span) → u.name span ≤ v.name span) (at_arguments : (span : Span) → u.argument span ≤ v.argument span) (at_closure_blocks : (span : Span) → u.closure_block span ≤ v.closure_block span) where
  target_less : (t : Target) → weigh_target u t ≤ weigh_target v t
  target_less Nowhere = omega arith
  target_less (Place span root path) = at_expressions span

  mutual
    expr_less : (e : Expr) → weigh_expr u e ≤ weigh_expr v e
    expr_less (expr span f) = let one = at_expressions span in let more = form_less f in omega (arith, one, more)

    within_less : (quiet : Bool) (e : Expr) → weigh_within u quiet e ≤ weigh_within v quiet e
    within_less quiet (expr span f) = by (quiet && is_quiet f) (form_less f) where
      by : (b : Bool) → weigh_form u f ≤ weigh_form v f → (if b then 0 else u.expression span) + weigh_form u f ≤ (if b then 0 else v.expression span) + weigh_form v f
      by true more = omega (arith, more)
      by false more = let one = at_expressions span in omega (arith, one, more)

    form_less : (f : Form) → weigh_form u f ≤ weigh_form v f
    form_less (literal a) = omega arith
    form_less (array es) = exprs_less es
    form_less (object ps) = pairs_less ps
    form_less (read root path) = omega arith
    form_less (query e path) = expr_less e
    form_less (group e) = within_less true e
    form_less (block es) = exprs_less es
    form_less (conditional gs es) = let one = arms_less gs in let more = else_less es in omega (arith, one, more)
    form_less (negation e) = expr_less e
    form_less (binary o l r) = let one = within_less (is_sum o) l in let more = within_less (is_sum o) r in omega (arith, one, more)
    form_less (assign t e) = expr_less e
    form_less (merge t e) = let one = target_less t in let more = expr_less e in omega (arith, one, more)
    form_less (both t other e) = expr_less e
    form_less (call name span bang gs c) = let one = at_names span in let more = args_less gs in let last = closure_less c in omega (arith, one, more, last)
    form_less (return_of e) = expr_less e
    form_less (abort_with m) = message_less m

    exprs_less : (es : Exprs) → weigh_exprs u es ≤ weigh_exprs v es
    exprs_less no_exprs = omega arith
    exprs_less (exprs e es) = let one = expr_less e in let more = exprs_less es in omega (arith, one, more)

    pairs_less : (ps : Pairs) → weigh_pairs u ps ≤ weigh_pairs v ps
    pairs_less no_pairs = omega arith
    pairs_less (pair key e ps) = let one = expr_less e in let more = pairs_less ps in omega (arith, one, more)

    arms_less : (gs : Arms) → weigh_arms u gs ≤ weigh_arms v gs
    arms_less no_arms = omega arith
    arms_less (arm p es gs) = let one = expr_less p in let more = exprs_less es in let last = arms_less gs in omega (arith, one, more, last)

    else_less : (e : Else) → weigh_else u e ≤ weigh_else v e
    else_less no_else = omega arith
    else_less (else_block es) = exprs_less es

    args_less : (gs : Args) → weigh_args u gs ≤ weigh_args v gs
    args_less no_args = omega arith
    args_less (arg name span e gs) = let first = at_arguments span in let one = expr_less e in let more = args_less gs in omega (arith, first, one, more)

    closure_less : (c : Closure) → weigh_closure u c ≤ weigh_closure v c
    closure_less no_closure = omega arith
    closure_less (closure names es span) = let one = at_closure_blocks span in let more = exprs_less es in omega (arith, one, more)

    message_less : (m : Message) → weigh_message u m ≤ weigh_message v m
    message_less no_message = omega arith
    message_less (message e) = expr_less e

-- ---- the codes differ

not_true : (b : Bool) → not b ≡ true → b ≡ false
not_true true wrong = absurd (true≢false (sym wrong))
not_true false is = refl

both_hold : (a b : Bool) → (a && b) ≡ true → (a ≡ true) × (b ≡ true)
both_hold true b holds = (refl, holds)
both_hold false b wrong = absurd (true≢false (sym wrong))

not_or : (a b : Bool) → (a || b) ≡ false → (a ≡ false) × (b ≡ false)
not_or true b wrong = absurd (true≢false wrong)
not_or false b none = (refl, none)

abbrev among : ℕ → List ℕ → Bool
among k ks = list_any (λ m. nat_eq m k) ks

abbrev differ : List ℕ → Bool
differ [] = true
differ (k ∷ ks) = not (among k ks) && differ ks

module _ (code : ℕ) (here : Span) where
  abbrev sum_of : List ℕ → Span → ℕ
  sum_of [] span = 0
  sum_of (k ∷ ks) span = one code here k span + sum_of ks span

  other_code : (k : ℕ) (span : Span) → nat_eq k code ≡ false → one code here k span ≤ 0
  unfolding one
  other_code k span differs = let none : one_if (nat_eq k code && same_span span here) ≡ 0 = ap (λ b. one_if (b && same_span span here)) differs in omega (arith, none)

  one_at_most : (b c : Bool) → one_if (b && c) ≤ one_if c
  one_at_most true c = omega arith
  one_at_most false true = omega arith
  one_at_most false false = omega arith

  at_place_alone : (k : ℕ) (span : Span) → one code here k span ≤ one_if (same_span span here)
  unfolding one
  at_place_alone k span = one_at_most (nat_eq k code) (same_span span here)

  none_among : (ks : List ℕ) (span : Span) → among code ks ≡ false → sum_of ks span ≤ 0
  none_among [] span none = omega arith
  none_among (k ∷ ks) span none =
      let parts = not_or (nat_eq k code) (among code ks) none in
      let first = other_code k span parts.0 in
      let rest = none_among ks span parts.1 in
      omega (arith, first, rest)

  one_of_them : (ks : List ℕ) (span : Span) → differ ks ≡ true → sum_of ks span ≤ one_if (same_span span here)
  one_of_them [] span apart = omega arith
  one_of_them (k ∷ ks) span apart = by (nat_eq k code) refl (one_of_them ks span (both_hold (not (among k ks)) (differ ks) apart).1) where
    by : (same : Bool) → nat_eq k code ≡ same → sum_of ks span ≤ one_if (same_span span here) → one code here k span + sum_of ks span ≤ one_if (same_span span here)
    by true is rest =
        let first = at_place_alone k span in
        let others = none_among ks span (ap (λ m. among m ks) (sym (eqb-true k code is)) ∙ not_true (among k ks) (both_hold (not (among k ks)) (differ ks) apart).0) in
        omega (arith, first, others)
    by false is rest =
        let first = other_code k span is in
        omega (arith, first, rest)

  at_one_place : (span : Span) → own code here span + part code here span ≤ one_if (same_span span here)
  unfolding own part
  at_one_place span =
      let all = one_of_them (100 ∷ 102 ∷ 103 ∷ 104 ∷ 106 ∷ 107 ∷ 110 ∷ 620 ∷ 630 ∷ 640 ∷ 650 ∷ 651 ∷ 652 ∷ 660 ∷ 701 ∷ 1004 ∷ 1005 ∷ 1006 ∷ 1010 ∷ 1011 ∷ 1013 ∷ 1017 ∷ []) span refl in
      omega (arith, all)

-- 105 stands at the name of a call alone, 108 at an argument, and 1015 at the block of a closure
no_more_than : (n : ℕ) → n ≤ n
no_more_than n = omega arith

name_codes : (here : Span) (items : Exprs) → names_at here items ≤ 1 → weigh_exprs (weights 105 here) items ≤ 1
unfolding own part one
name_codes here items apart =
    let less = exprs_less (weights 105 here) (record nothing_weighs { name = at_place here }) (λ span. no_more_than 0) (λ span. no_more_than (one_if (same_span span here))) (λ span. no_more_than 0) (λ span. no_more_than 0) items in
    omega (arith, less, apart)

argument_codes : (here : Span) (items : Exprs) → arguments_at here items ≤ 1 → weigh_exprs (weights 108 here) items ≤ 1
unfolding own part one
argument_codes here items apart =
    let less = exprs_less (weights 108 here) (record nothing_weighs { argument = at_place here }) (λ span. no_more_than 0) (λ span. no_more_than 0) (λ span. no_more_than (one_if (same_span span here))) (λ span. no_more_than 0) items in
    omega (arith, less, apart)

closure_codes : (here : Span) (items : Exprs) → closure_blocks_at here items ≤ 1 → weigh_exprs (weights 1015 here) items ≤ 1
unfolding own part one
closure_codes here items apart =
    let less = exprs_less (weights 1015 here) (record nothing_weighs { closure_block = at_place here }) (λ span. no_more_than 0) (λ span. no_more_than 0) (λ span. no_more_than 0) (λ span. no_more_than (one_if (same_span span here))) items in
    omega (arith, less, apart)

other_codes : (code : ℕ) (here : Span) (items : Exprs) → expressions_at here items ≤ 1 → nat_eq 105 code ≡ false → nat_eq 108 code ≡ false → nat_eq 1015 code ≡ false → weigh_exprs (weights code here) items ≤ 1
other_codes code here items apart no_name no_argument no_block =
    let less = exprs_less (weights code here) (record nothing_weighs { expression = at_place here }) (at_one_place code here) (λ span. other_code code here 105 span no_name) (λ span. other_code code here 108 span no_argument) (λ span. other_code code here 1015 span no_block) items in
    omega (arith, less, apart)

light : (code : ℕ) (here : Span) (items : Exprs) → AreApart items → weigh_exprs (weights code here) items ≤ 1
light code here items apart = by (nat_eq 105 code) (nat_eq 108 code) (nat_eq 1015 code) refl refl refl where
  by : (name argument closures : Bool) → nat_eq 105 code ≡ name → nat_eq 108 code ≡ argument → nat_eq 1015 code ≡ closures → weigh_exprs (weights code here) items ≤ 1
  by true argument closures is other last = subst (λ k. weigh_exprs (weights k here) items ≤ 1) (eqb-true 105 code is) (name_codes here items (apart.names here))
  by false true closures is other last = subst (λ k. weigh_exprs (weights k here) items ≤ 1) (eqb-true 108 code other) (argument_codes here items (apart.arguments here))
  by false false true is other last = subst (λ k. weigh_exprs (weights k here) items ≤ 1) (eqb-true 1015 code last) (closure_codes here items (apart.closure_blocks here))
  by false false false is other last = other_codes code here items (apart.expressions here) is other last

pub no_code_twice : ParametersAreToldApart → NoCodeStandsTwice
unfolding counted
no_code_twice names_apart rules start items j apart judges code here =
    let few = script_light rules names_apart code here judges in
    let most = light code here items apart in
    omega (arith, few, most)
