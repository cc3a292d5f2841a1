-- The judgement: what each form of the language gives in a state, before any event is there. The
-- rules are those of the Vector Remap Language, which refuses a script that leaves an error
-- unhandled; the codes are those of its error reference, and some of this project's own.
--
-- Each form names its four ends: what is known where it ends with a value, with an error and with a
-- return, and the kind of what is returned. In a dead state nothing can happen, and no code is
-- given. Every kind is cut, and so is every join.
--
-- The judgement is told for every way in which the open rules may be given; that of the language is
-- the one at `language_rules`. `inside` says whether the part stands in the body of a closure.
use Rattle.std.specs.Prelude.{◌≡◌, ◌≢◌, ◌↔◌, ℕ, suc, Bool, true, false, ◌||◌, ◌&&◌, not, List, [], ◌∷◌, ◌++◌, length, map as map_list, slice_get, Option, Some, None, is_some, IsTrue, if◌then◌else◌}
use Rattle.std.specs.FinMap as map
use Rattle.std.specs.List.{list_all}
use Rattle.std.specs.Option.{option_map_or}
use Rattle.std.specs.declared.result.Result.{Result}
use Rattle.std.specs.declared.result.Result.TheVariants.{Ok, Err}
use Rattle.vrl_value.specs.Tree.{Tree}
use Rattle.vrl_value.specs.declared.value.Tag.{Tag}
use Rattle.vrl_diag.specs.declared.diagnostic.Span.{Span}
use Rattle.vrl_diag.specs.declared.diagnostic.Diagnostic.{Diagnostic}
use Rattle.vrl_syntax.specs.Tree.{Expr, expr, Form, literal, array, object, read, query, group, block, conditional, negation, binary, assign, merge, both, call, return_of, abort_with, Exprs, no_exprs, exprs, Pairs, Arms, no_arms, arm, Else, no_else, else_block, Args, no_args, arg, Closure, no_closure, closure, no_message, message, no_pairs, pair, span_of}
use Rattle.vrl_syntax.specs.Calls.{for_names, form_named, is_closure_form, is_exists, literal_of, path_of, is_del}
use Rattle.vrl_syntax.specs.ErrorAssignments.{empty_value, in_closure, in_expr, in_exprs}
use Rattle.vrl_syntax.specs.Stores.{metadata_name}
use Rattle.vrl_syntax.specs.declared.call_form.CallForm.{CallForm}
use Rattle.vrl_syntax.specs.declared.root.Op.{Op}
use Rattle.vrl_syntax.specs.declared.root.Root.{Root}
use Rattle.vrl_syntax.specs.declared.root.Target.{Target}
use Rattle.vrl_syntax.specs.declared.root.Target.TheVariants.{Nowhere, Place}
use Rattle.vrl_kind.specs.Canonical.{IsCanonical, any_kind, never_kind}
use Rattle.vrl_kind.specs.Cut.{IsCut}
use Rattle.vrl_kind.specs.KindTree.{KindTree}
use Rattle.vrl_kind.specs.Kinds.{found_at, root_tags, tags_at}
use Rattle.vrl_kind.specs.PartSets.{parts_at}
use Rattle.vrl_kind.specs.Sets.{SameSets}
use Rattle.vrl_place.specs.Sets.{is_alone}
use Rattle.vrl_state.specs.States.{RootMap, State, json_object, kind_of, with_names, IsCutOf, IsEither, IsJoined, IsKnownWithin}
use Rattle.vrl_builtin.specs.CutDown.{cut_to}
use Rattle.vrl_builtin.specs.Rows.{GivenTree, ParameterRow, Row}
use Rattle.vrl_builtin.specs.declared.tags.Tags.{Tags as TagSet}
use Rattle.vrl_binding.specs.Binding.{binding, collection_parameters, collections, keywords_of, path_parameters}
use Rattle.vrl_table.specs.Table.{row_of}
use Rattle.vrl_binding.specs.declared.binding.BindFault.{BindFault}
use Rattle.vrl_table.specs.declared.function.Fun.{Fun}
use Rattle.vrl_check.specs.Loops.{closures_in_closure, closures_in_expr, closures_in_exprs, unjudged}
use Rattle.vrl_check.specs.OpenRules.{OpenRules}
use Rattle.vrl_judge.specs.Closures.{ClosureBody, Try, first_try, next_try, call_at, is_possible, key_tags, left_body, of_body, of_wanted_closure, IsNextTry}
use Rattle.vrl_syntax.specs.Calls.{takes_closure}
use Rattle.vrl_judge.specs.Rules.{IsReadAt, scalars_at, IsScalar, array_at, object_at, Judgement, Loop, is_alive, if_state, nothing, gives, at, when, with_codes, settled_kind, settle, is_known, is_needless, is_other, is_fallible, may_be_truth, may_be_no_truth, IsBehind, IsThen, left, is_equality, some_pair, table_tags, chained, of_pairs, no_objects, IsMerged, or_else_at, IsTargetWritten, of_assignment, of_error_assignment, of_message, of_predicate, Argument, is_disjoint, has_others, argument_at, banged, IsDeleted, sum_tag, number_tag, order_tag}
use Rattle.vrl_value.specs.declared.value.Tag.TheVariants as tag
use Rattle.vrl_path.specs.declared.path.Step as steps
use Rattle.vrl_syntax.specs.declared.root.Op.TheVariants as op
use Rattle.vrl_binding.specs.declared.binding.BindFault.TheVariants as fault

-- ---- what isn't judged

-- its empty values, one for each of so many error assignments: each has a tag that the rules allow
-- for them
pub record AreUnjudged (rules : OpenRules) (assignments : ℕ) (tags : List Tag) : Type 0 where
  pub counted : length tags ≡ assignments
  pub allowed : list_all rules.unjudged tags ≡ true

-- these empty values, and so many closures
abbrev pub unreached_parts : List Tag → ℕ → Judgement
unreached_parts tags closures = record (nothing tags) { loops = unjudged closures }

-- ---- parts of forms

-- the names of an object's fields, and their values
abbrev pub pair_names : Pairs → List (List ℕ)
pair_names no_pairs = []
pair_names (pair n e ps) = n ∷ pair_names ps

abbrev pub pair_values : Pairs → Exprs
pair_values no_pairs = no_exprs
pair_values (pair n e ps) = exprs e (pair_values ps)

-- one way beside others: each may be the one that is taken
pub record IsBeside (ways way all : Judgement) : Type 0 where
  pub kind : IsEither ways.kind way.kind all.kind
  pub ok : IsJoined ways.ok way.ok all.ok
  pub fail : IsJoined ways.fail way.fail all.fail
  pub ret : IsJoined ways.ret way.ret all.ret
  pub returned : IsEither ways.returned way.returned all.returned
  pub poisoned : all.poisoned ≡ (ways.poisoned || way.poisoned)
  pub codes : all.codes ≡ ways.codes ++ way.codes
  pub empties : all.empties ≡ ways.empties ++ way.empties
  pub loops : all.loops ≡ ways.loops ++ way.loops

-- the table of an operator that takes some pairs of tags; the others have rules of their own
abbrev pub table_of : Op → Option (Tag → Tag → Option Tag)
table_of op.Plus = Some sum_tag
table_of op.Minus = Some number_tag
table_of op.Times = Some number_tag
table_of op.Less = Some order_tag
table_of op.AtMost = Some order_tag
table_of op.More = Some order_tag
table_of op.AtLeast = Some order_tag
table_of o = None

-- an item of the script itself that may fail is 100
abbrev pub of_item : Span → Judgement → List Diagnostic
of_item span j = when (is_fallible j) (at 100 span)

-- a predicate, with its own codes
abbrev pub predicate_of : Expr → Judgement → Judgement
predicate_of p j = with_codes (of_predicate (span_of p) j) j

-- ---- calls

-- At most one code stands on an argument, the first of these: one that may fail is 630, one whose
-- kind has no tag that the parameter allows 110, and one that isn't written as it must be 1013.
abbrev pub of_argument : TagSet → Bool → Argument → List Diagnostic
of_argument T unwritten a =
    if is_fallible a.judged then at 630 (span_of a.value) else
    (if is_known a.judged && is_disjoint T a.judged.kind then at 110 (span_of a.value)
    else when unwritten (at 1013 (span_of a.value)))

-- a parameter that wants a literal has none, or one that the function doesn't allow
abbrev pub wants_literal : Row → ℕ → ParameterRow → Expr → Bool
wants_literal r i p e = p.literal && option_map_or (λ v. not (r.accepts i v)) (literal_of e) true

abbrev pub wants_path : ℕ → ParameterRow → Expr → Bool
wants_path i p e = not (is_some (path_of e))

abbrev pub bound : List (Option ℕ) → List Argument → List (Option Argument)
bound places js = map_list (argument_at js) places

-- the code of a parameter's argument, where it has one
abbrev pub of_found : (ℕ → ParameterRow → Expr → Bool) → ℕ → ParameterRow → Option Argument → List Diagnostic
of_found wants i p None = []
of_found wants i p (Some g) = of_argument p.allowed (wants i p g.value) g

-- the codes of bound arguments, by the parameters from a place on
abbrev pub of_arguments : (ℕ → ParameterRow → Expr → Bool) → ℕ → List ParameterRow → List (Option Argument)
    → List Diagnostic
of_arguments wants i [] js = []
of_arguments wants i (p ∷ ps) [] = []
of_arguments wants i (p ∷ ps) (g ∷ js) = of_found wants i p g ++ of_arguments wants (suc i) ps js

-- a function of the table takes no closure, nor does `del` or `exists`: 1010
abbrev pub of_closure : Span → Closure → List Diagnostic
of_closure span no_closure = []
of_closure span (closure names es s) = at 1010 span

-- the argument at a place has a keyword that is no parameter's name: 108
abbrev pub of_unknown : Option Argument → List Diagnostic
of_unknown None = []
of_unknown (Some g) = at 108 g.span

-- the code of a call whose arguments aren't bound: 106, 108 or 107
abbrev pub of_fault : Span → List Argument → BindFault → List Diagnostic
of_fault span js fault.Number = at 106 span
of_fault span js (fault.Unknown i) = of_unknown (slice_get js i)
of_fault span js (fault.Missing i) = at 107 span
of_fault span js fault.Memory = []

-- a call's own codes: one alone where its arguments aren't bound, else those of its arguments and
-- of its closure
abbrev pub own_codes : (ℕ → ParameterRow → Expr → Bool) → List ParameterRow → Span → List Diagnostic → List Argument
    → Result (List (Option ℕ)) BindFault → List Diagnostic
own_codes wants ps span closure_codes js (Ok places) = of_arguments wants 0 ps (bound places js) ++ closure_codes
own_codes wants ps span closure_codes js (Err f) = of_fault span js f

abbrev pub of_call : (ℕ → ParameterRow → Expr → Bool) → List ParameterRow → Span → Closure → List Argument
    → Result (List (Option ℕ)) BindFault → List Diagnostic
of_call wants ps span c js b = own_codes wants ps span (of_closure span c) js b

-- those of a call of a function that takes a closure
abbrev pub of_closure_call : CallForm → Span → Args → Closure → List Argument → List Diagnostic
of_closure_call f span gs c js = own_codes (λ i p e. false) (collection_parameters f) span
    (of_wanted_closure f span c) js (binding (collection_parameters f) (keywords_of gs))

-- behind the arguments a closure that isn't judged, with these empty values
abbrev pub passing_closure : Closure → List Tag → Judgement → Judgement
passing_closure c tags j = record j { empties = j.empties ++ tags; loops = j.loops ++ unjudged (closures_in_closure c) }

-- the arguments in order, with the call's own codes; its closure isn't judged
abbrev pub behind_arguments : (ℕ → ParameterRow → Expr → Bool) → List ParameterRow → Span → Args → Closure → List Tag
    → List Argument → Judgement → Judgement
behind_arguments wants ps span gs c tags js j =
    with_codes (of_call wants ps span c js (binding ps (keywords_of gs))) (passing_closure c tags j)

-- the places of the parameters' arguments; none where they aren't bound
abbrev pub places_in : Result (List (Option ℕ)) BindFault → List (Option ℕ)
places_in (Ok places) = places
places_in (Err f) = []

-- the kind without the tags at its root that aren't among these
pub record IsCutDown (T : TagSet) (K L : KindTree) : Type 0 where
  pub canonical : IsCanonical L
  pub tags : SameSets (tags_at L) (cut_to T K)

-- what a function is asked about: the kind of each argument, cut down to the tags that its
-- parameter allows, and its value where it is written as a literal
abbrev pub IsAskedAbout : ParameterRow → Option Argument → GivenTree → Type 0
IsAskedAbout p None given = given ≡ record { kind = None; literal = None }
IsAskedAbout p (Some g) given = (L : KindTree) × IsCutDown p.allowed g.judged.kind L
    × (given ≡ record { kind = Some L; literal = literal_of g.value })

abbrev pub AreAskedAbout : List ParameterRow → List (Option Argument) → List GivenTree → Type 0
AreAskedAbout (p ∷ ps) (g ∷ js) (given ∷ givens) = IsAskedAbout p g given × AreAskedAbout ps js givens
AreAskedAbout (p ∷ ps) (g ∷ js) [] = ⊥
AreAskedAbout ps js givens = givens ≡ []

-- the kind of some argument isn't within its parameter's
abbrev pub some_has_others : List ParameterRow → List (Option Argument) → Bool
some_has_others (p ∷ ps) (Some g ∷ js) = has_others p.allowed g.judged.kind || some_has_others ps js
some_has_others (p ∷ ps) (None ∷ js) = some_has_others ps js
some_has_others ps js = false

-- The kind of a call's value, cut, and whether it may end with an error of its own: where the kind
-- of an argument isn't within its parameter's, or where the function may fail. Of a call that has
-- an error code, or has one in it, nothing is asked.
pub record IsAnswered (sources : List (List ℕ)) (r : Row) (js : List (Option Argument)) (K : KindTree)
    (may : Bool) : Type 0 where
  pub givens : List GivenTree
  pub given : AreAskedAbout r.parameters js givens
  pub kind : IsCutOf (r.kind givens sources) K
  pub fails : may ≡ (some_has_others r.parameters js || r.may_fail givens)

abbrev pub IsAnsweredUnless : Bool → List (List ℕ) → Row → List (Option Argument) → KindTree → Bool → Type 0
IsAnsweredUnless true sources r js K may = (K ≡ any_kind) × (may ≡ false)
IsAnsweredUnless false sources r js K may = IsAnswered sources r js K may

abbrev pub IsDeletedAt : Option (Root × List steps.Step) → Option RootMap → Option RootMap → Type 0
IsDeletedAt None before after = after ≡ before
IsDeletedAt (Some found) before after = IsDeleted found.0 found.1 before after

-- the path that a `del` deletes; none where an error code stands on it or in it
abbrev pub deleted_path : Bool → List Argument → Option (Root × List steps.Step)
deleted_path false (g ∷ []) = path_of g.value
deleted_path poisoned js = None

-- the kind of its value; any where an error code stands
abbrev pub deleted_kind : Bool → List Argument → KindTree
deleted_kind false (g ∷ []) = g.judged.kind
deleted_kind poisoned js = any_kind

-- the body of a closure, of which each name is bound to a key of this kind, or to a value of that
-- one
abbrev pub body_of : CallForm → List (List ℕ) → Exprs → KindTree → KindTree → ClosureBody
body_of f names es key value =
    record { names = names; kinds = for_names f key value; items = es; runs = is_possible value }

-- a closure behind the arguments of its call: as it was judged last, and what is known before each
-- of its runs is known behind all of them
abbrev pub run_through : Loop → Judgement → Judgement
run_through loop j = record j { ok = loop.known; loops = Some loop ∷ j.loops }

-- ---- the forms

mutual
  pub data Judges (rules : OpenRules) : Bool → Option RootMap → Expr → Judgement → Type 0 where
    unreached : {inside : Bool} {e : Expr} {tags : List Tag}
        → AreUnjudged rules (in_expr e) tags
        → Judges rules inside None e (unreached_parts tags (closures_in_expr e))
    reached : {inside : Bool} {known : RootMap} {span : Span} {f : Form} {j : Judgement}
        → Gives rules inside known span f j → Judges rules inside (Some known) (expr span f) (settle j)

  -- what a form gives where it is reached, before it is settled
  pub data Gives (rules : OpenRules) : Bool → RootMap → Span → Form → Judgement → Type 0 where
    a_literal : {inside : Bool} {known : RootMap} {span : Span} {v : Tree} {K : KindTree}
        → IsCutOf (found_at v) K
        → Gives rules inside known span (literal v) (gives K (Some known))
    an_array : {inside : Bool} {known : RootMap} {span : Span} {es : Exprs} {j : Judgement} {Ks : List KindTree}
        {K : KindTree}
        → JudgesAll rules inside (gives never_kind (Some known)) es Ks j → IsCutOf (array_at Ks) K
        → Gives rules inside known span (array es) (record j { kind = K })
    an_object : {inside : Bool} {known : RootMap} {span : Span} {ps : Pairs} {j : Judgement} {Ks : List KindTree}
        {K : KindTree}
        → JudgesAll rules inside (gives never_kind (Some known)) (pair_values ps) Ks j
        → IsCutOf (object_at (pair_names ps) Ks) K
        → Gives rules inside known span (object ps) (record j { kind = K })
    -- reads: a variable that isn't known is 701
    a_known_root : {inside : Bool} {known : RootMap} {span : Span} {root : Root} {path : List steps.Step}
        {K M : KindTree}
        → kind_of root known ≡ Some K → IsReadAt K path M
        → Gives rules inside known span (read root path) (gives M (Some known))
    an_unknown_root : {inside : Bool} {known : RootMap} {span : Span} {root : Root} {path : List steps.Step}
        → kind_of root known ≡ None
        → Gives rules inside known span (read root path) (with_codes (at 701 span) (gives any_kind (Some known)))
    a_query : {inside : Bool} {known : RootMap} {span : Span} {e : Expr} {path : List steps.Step} {j : Judgement}
        {K : KindTree}
        → Judges rules inside (Some known) e j → IsReadAt j.kind path K
        → Gives rules inside known span (query e path) (record j { kind = K })
    -- what holds items
    a_group : {inside : Bool} {known : RootMap} {span : Span} {e : Expr} {j : Judgement}
        → Judges rules inside (Some known) e j
        → Gives rules inside known span (group e) j
    a_block : {inside : Bool} {known : RootMap} {span : Span} {es : Exprs} {j : Judgement}
        → JudgesBlock rules inside (Some known) es j
        → Gives rules inside known span (block es) j
    a_conditional : {inside : Bool} {known : RootMap} {span : Span} {gs : Arms} {es : Else} {j : Judgement}
        → JudgesArms rules inside (Some known) (nothing []) gs es j
        → Gives rules inside known span (conditional gs es) j
    -- operators
    a_negation : {inside : Bool} {known : RootMap} {span : Span} {e : Expr} {j : Judgement} {K : KindTree}
        → Judges rules inside (Some known) e j → IsScalar tag.Bool K
        → Gives rules inside known span (negation e)
        (with_codes (when (is_other tag.Bool j) (at 660 span)) (record j { kind = K }))
    an_equality : {inside : Bool} {known : RootMap} {span : Span} {o : Op} {l r : Expr} {j k whole : Judgement}
        {K : KindTree}
        → is_equality o ≡ true → JudgesBoth rules inside known l r j k whole → IsScalar tag.Bool K
        → Gives rules inside known span (binary o l r) (with_codes (chained span o l r) (record whole { kind = K }))
    of_table : {inside : Bool} {known : RootMap} {span : Span} {o : Op} {table : Tag → Tag → Option Tag} {l r : Expr}
        {j k whole : Judgement} {K : KindTree} {fail : Option RootMap}
        → table_of o ≡ Some table → JudgesBoth rules inside known l r j k whole
        → IsCutOf (scalars_at (table_tags table j.kind k.kind)) K
        → IsJoined whole.fail (if_state (some_pair (λ a b. not (is_some (table a b))) j.kind k.kind) whole.ok) fail
        → Gives rules inside known span (binary o l r)
        (of_pairs table j k (with_codes (chained span o l r) whole) K fail)
    a_merge : {inside : Bool} {known : RootMap} {span : Span} {l r : Expr} {j k whole : Judgement} {K : KindTree}
        → JudgesBoth rules inside known l r j k whole → IsMerged j.kind k.kind K
        → Gives rules inside known span (binary op.Merge l r)
        (with_codes (no_objects (span_of l) (span_of r) j k) (record whole { kind = K }))
    -- `&&`: the right side is judged where the left one may be a boolean
    a_conjunction : {inside : Bool} {known : RootMap} {span : Span} {l r : Expr} {j k whole : Judgement} {K : KindTree}
        (left_fail part_fail : Option RootMap) {ok fail : Option RootMap}
        → Judges rules inside (Some known) l j → Judges rules inside (if_state (root_tags j.kind tag.Bool) j.ok) r k
        → IsBehind j k whole → IsScalar tag.Bool K
        → IsJoined (if_state (may_be_truth j.kind) j.ok) (if_state (may_be_truth k.kind) k.ok) ok
        → IsJoined j.fail (if_state (may_be_no_truth j.kind) j.ok) left_fail → IsJoined left_fail k.fail part_fail
        → IsJoined part_fail (if_state (may_be_no_truth k.kind) k.ok) fail
        → Gives rules inside known span (binary op.And l r) (record whole { kind = K; ok = ok; fail = fail })
    -- `||`: the right side is judged where the left one may be null or a boolean; its value is the
    -- whole's alone where the left is exactly null
    a_disjunction : {inside : Bool} {known : RootMap} {span : Span} {l r : Expr} {j k whole : Judgement} {K : KindTree}
        {ok : Option RootMap}
        → Judges rules inside (Some known) l j → Judges rules inside (if_state (may_be_truth j.kind) j.ok) r k
        → IsThen j k whole
        → IsCutOf (or_else_at j.kind k.kind) K
        → IsJoined (if_state (not (is_alone (root_tags j.kind) tag.Null)) j.ok) k.ok ok
        → Gives rules inside known span (binary op.Or l r) (record whole { kind = K; ok = ok })
    -- `??`: the right side is judged where the left one ended with an error. A left side that can't
    -- fail is 651, a warning
    a_coalescing : {inside : Bool} {known : RootMap} {span : Span} {l r : Expr} {j k whole : Judgement} {K : KindTree}
        {ok : Option RootMap}
        → Judges rules inside (Some known) l j → Judges rules inside j.fail r k → IsBehind j k whole
        → IsEither j.kind k.kind K → IsJoined j.ok k.ok ok
        → Gives rules inside known span (binary op.Coalesce l r)
        (with_codes (when (is_needless j) (at 651 span)) (record whole { kind = K; ok = ok; fail = k.fail }))
    -- assignments
    an_assignment : {inside : Bool} {known : RootMap} {span : Span} {t : Target} {e : Expr} {j : Judgement}
        {ok : Option RootMap}
        → Judges rules inside (Some known) e j → IsTargetWritten t j.kind j.ok ok
        → Gives rules inside known span (assign t e) (with_codes (of_assignment span t j) (record j { ok = ok }))
    a_merge_into_nothing : {inside : Bool} {known : RootMap} {span : Span} {e : Expr} {j : Judgement}
        → Judges rules inside (Some known) e j
        → Gives rules inside known span (merge Nowhere e) (with_codes (at 640 span) j)
    -- `t |= e` is `t = t | e`
    a_merge_assignment : {inside : Bool} {known : RootMap} {span s : Span} {root : Root} {path : List steps.Step}
        {e : Expr} {j : Judgement} {ok : Option RootMap}
        → Judges rules inside (Some known) (expr span (binary op.Merge (expr s (read root path)) e)) j
        → IsTargetWritten (Place s root path) j.kind j.ok ok
        → Gives rules inside known span (merge (Place s root path) e)
        (with_codes (of_assignment span (Place s root path) j) (record j { ok = ok }))
    -- `t, u = e`: behind a value the value and null are written; behind an error the empty value,
    -- of any tag that the rules allow, and a text
    an_error_assignment : {inside : Bool} {known : RootMap} {span : Span} {t u : Target} {e : Expr} {j : Judgement}
        (empty : Tag) {E K N T : KindTree} (given given_both failed failed_both : Option RootMap) {ok : Option RootMap}
        → Judges rules inside (Some known) e j
        → rules.empty j.kind empty ≡ true → IsCutOf (found_at (empty_value empty)) E → IsEither j.kind E K
        → IsScalar tag.Null N → IsScalar tag.Text T
        → IsTargetWritten t j.kind j.ok given → IsTargetWritten u N given given_both
        → IsTargetWritten t E j.fail failed → IsTargetWritten u T failed failed_both
        → IsJoined given_both failed_both ok
        → Gives rules inside known span (both t u e)
        (with_codes (of_error_assignment span t u j K)
        (record j { kind = K; ok = ok; fail = None; empties = empty ∷ j.empties }))
    -- calls: a function that there isn't is 105
    a_call_of_nothing : {inside : Bool} {known : RootMap} {span s : Span} {name : List ℕ} {bang : Bool} {gs : Args}
        {c : Closure} {js : List Argument} {j : Judgement} {tags : List Tag}
        → ((function : Fun) → (row_of function).name ≢ name)
        → (is_del name || (is_exists name || takes_closure name)) ≡ false
        → JudgesArguments rules inside (gives never_kind (Some known)) gs js j → AreUnjudged rules (in_closure c) tags
        → Gives rules inside known span (call name s bang gs c)
        (with_codes (at 105 s) (passing_closure c tags (record j { kind = any_kind })))
    a_call : {inside : Bool} {known : RootMap} {span s : Span} (function : Fun) {name : List ℕ} {bang : Bool}
        {gs : Args} {c : Closure} {js : List Argument} {j whole : Judgement} {tags : List Tag}
        (K : KindTree) (fails : Bool) (fail : Option RootMap)
        → (row_of function).name ≡ name
        → JudgesArguments rules inside (gives never_kind (Some known)) gs js j → AreUnjudged rules (in_closure c) tags
        → whole ≡ behind_arguments (wants_literal (row_of function)) (row_of function).parameters span gs c tags js j
        → IsAnsweredUnless whole.poisoned rules.sources (row_of function)
        (bound (places_in (binding (row_of function).parameters (keywords_of gs))) js) K fails
        → IsJoined whole.fail (if_state fails whole.ok) fail
        → Gives rules inside known span (call name s bang gs c)
        (banged span bang (record whole { kind = K; fail = fail }))
    -- `del`: the kind is that of reading the path, and what stands there is taken out
    a_deletion : {inside : Bool} {known : RootMap} {span s : Span} {name : List ℕ} {bang : Bool} {gs : Args}
        {c : Closure} {js : List Argument} {j whole : Judgement} {tags : List Tag} (ok : Option RootMap)
        → is_del name ≡ true
        → JudgesArguments rules inside (gives never_kind (Some known)) gs js j → AreUnjudged rules (in_closure c) tags
        → whole ≡ behind_arguments wants_path path_parameters span gs c tags js j
        → IsDeletedAt (deleted_path whole.poisoned js) whole.ok ok
        → Gives rules inside known span (call name s bang gs c)
        (banged span bang (record whole { kind = deleted_kind whole.poisoned js; ok = ok }))
    -- `exists`: a boolean, and the state stays
    an_existence : {inside : Bool} {known : RootMap} {span s : Span} {name : List ℕ} {bang : Bool} {gs : Args}
        {c : Closure} {js : List Argument} {j whole : Judgement} {tags : List Tag} (K : KindTree)
        → is_exists name ≡ true
        → JudgesArguments rules inside (gives never_kind (Some known)) gs js j → AreUnjudged rules (in_closure c) tags
        → whole ≡ behind_arguments wants_path path_parameters span gs c tags js j
        → IsScalar tag.Bool K
        → Gives rules inside known span (call name s bang gs c) (banged span bang (record whole { kind = K }))
    -- A function that takes a closure. Where the call has a code of its own the closure isn't
    -- judged.
    a_wrong_closure_call : {inside : Bool} {known : RootMap} {span s : Span} (f : CallForm) {name : List ℕ}
        {bang : Bool} {gs : Args} {c : Closure} {js : List Argument} {j : Judgement} {tags : List Tag}
        (first : Diagnostic) (others : List Diagnostic)
        → form_named name ≡ Some f → is_closure_form (Some f) ≡ true
        → JudgesArguments rules inside (gives never_kind (Some known)) gs js j → AreUnjudged rules (in_closure c) tags
        → of_closure_call f span gs c js ≡ first ∷ others
        → Gives rules inside known span (call name s bang gs c)
        (banged span bang (with_codes (first ∷ others) (passing_closure c tags (record j { kind = any_kind }))))
    -- Else it is judged behind the argument, whose kind, cut down to the tags of a collection, is
    -- C; its body has the judgement k. An error may come of the argument's tag, and of the body.
    -- What is known before each run is known behind the call.
    a_closure_call : {inside : Bool} {known : RootMap} {span s : Span} (f : CallForm) {name : List ℕ} {bang : Bool}
        {gs : Args} {names : List (List ℕ)} {es : Exprs} {t : Span} {g : Argument} {j : Judgement}
        (C key value : KindTree) (loop : Loop) {k whole : Judgement} (K : KindTree) (fail : Option RootMap)
        → form_named name ≡ Some f → is_closure_form (Some f) ≡ true
        → JudgesArguments rules inside (gives never_kind (Some known)) gs (g ∷ []) j
        → of_closure_call f span gs (closure names es t) (g ∷ []) ≡ []
        → IsCutDown (collections f) g.judged.kind C → IsCutOf (scalars_at (key_tags C)) key → IsCutOf (parts_at C) value
        → JudgesRuns rules (body_of f names es key value) j.ok loop k
        → IsThen j (run_through loop k) whole
        → IsCutOf (call_at f C k.kind) K
        → IsJoined whole.fail (if_state (has_others (collections f) g.judged.kind) j.ok) fail
        → Gives rules inside known span (call name s bang gs (closure names es t))
        (banged span bang (with_codes (of_body f t k) (record whole { kind = K; fail = fail })))
    -- ends: a return in a closure is 1004, and goes on behind its expression
    a_return : {inside : Bool} {known : RootMap} {span : Span} {e : Expr} {j : Judgement} {ret : Option RootMap}
        {R : KindTree}
        → Judges rules inside (Some known) e j → IsJoined j.ret j.ok ret
        → IsEither j.returned (settled_kind false (is_alive j.ok) j.kind) R
        → Gives rules inside known span (return_of e)
        (with_codes (when inside (at 1004 span))
        (record j { kind = never_kind; ok = if_state inside j.ok; ret = ret; returned = R }))
    an_abort : {inside : Bool} {known : RootMap} {span : Span}
        → Gives rules inside known span (abort_with no_message) (nothing [])
    -- a message that may fail, or isn't exactly a text, is 1011
    an_abort_with : {inside : Bool} {known : RootMap} {span : Span} {e : Expr} {j : Judgement}
        → Judges rules inside (Some known) e j
        → Gives rules inside known span (abort_with (message e))
        (with_codes (of_message (span_of e) j) (record j { kind = never_kind; ok = None }))

  -- two operands, the second judged where the first ends with a value
  pub data JudgesBoth
      (rules : OpenRules) : Bool → RootMap → Expr → Expr → Judgement → Judgement → Judgement → Type 0 where
    operands : {inside : Bool} {known : RootMap} {l r : Expr} {j k whole : Judgement}
        → Judges rules inside (Some known) l j → Judges rules inside j.ok r k → IsThen j k whole
        → JudgesBoth rules inside known l r j k whole

  -- expressions behind what was judged before them, with their kinds
  pub data JudgesAll (rules : OpenRules) : Bool → Judgement → Exprs → List KindTree → Judgement → Type 0 where
    no_more : {inside : Bool} {before : Judgement} → JudgesAll rules inside before no_exprs [] before
    one_more : {inside : Bool} {before j middle after : Judgement} {e : Expr} {es : Exprs} {Ks : List KindTree}
        → Judges rules inside before.ok e j → IsThen before j middle → JudgesAll rules inside middle es Ks after
        → JudgesAll rules inside before (exprs e es) (j.kind ∷ Ks) after

  -- the arguments of a call behind what was judged before them
  pub data JudgesArguments (rules : OpenRules) : Bool → Judgement → Args → List Argument → Judgement → Type 0 where
    no_more_arguments : {inside : Bool} {before : Judgement} → JudgesArguments rules inside before no_args [] before
    one_more_argument : {inside : Bool} {before j middle after : Judgement} {name : Option (List ℕ)} {span : Span}
        {e : Expr} {gs : Args} {js : List Argument}
        → Judges rules inside before.ok e j → IsThen before j middle → JudgesArguments rules inside middle gs js after
        → JudgesArguments rules inside before (arg name span e gs)
        (record { span = span; value = e; judged = j } ∷ js) after

  -- the items of a block or a branch; an empty one gives null, and its names end with it
  pub data JudgesBlock (rules : OpenRules) : Bool → Option RootMap → Exprs → Judgement → Type 0 where
    unreached_block : {inside : Bool} {es : Exprs} {tags : List Tag}
        → AreUnjudged rules (in_exprs es) tags
        → JudgesBlock rules inside None es (unreached_parts tags (closures_in_exprs es))
    reached_block : {inside : Bool} {known : RootMap} {es : Exprs} {Ks : List KindTree} {N : KindTree} {j : Judgement}
        → IsScalar tag.Null N → JudgesAll rules inside (gives N (Some known)) es Ks j
        → JudgesBlock rules inside (Some known) es (settle (left known j))

  -- the arms of an `if` beside the ways before them: each branch is judged behind all predicates
  -- before it
  pub data JudgesArms (rules : OpenRules) : Bool → Option RootMap → Judgement → Arms → Else → Judgement → Type 0 where
    an_arm : {inside : Bool} {state : Option RootMap} {ways j with_predicate k with_branch all : Judgement} {p : Expr}
        {es : Exprs} {gs : Arms} {otherwise : Else}
        → Judges rules inside state p j
        → IsBeside ways (record (predicate_of p j) { kind = never_kind; ok = None }) with_predicate
        → JudgesBlock rules inside j.ok es k → IsBeside with_predicate k with_branch
        → JudgesArms rules inside j.ok with_branch gs otherwise all
        → JudgesArms rules inside state ways (arm p es gs) otherwise all
    an_else : {inside : Bool} {state : Option RootMap} {ways k all : Judgement} {es : Exprs}
        → JudgesBlock rules inside state es k → IsBeside ways k all
        → JudgesArms rules inside state ways no_arms (else_block es) all
    a_missing_else : {inside : Bool} {state : Option RootMap} {ways all : Judgement} {N : KindTree}
        → IsScalar tag.Null N → IsBeside ways (settle (gives N state)) all
        → JudgesArms rules inside state ways no_arms no_else all

  -- the body of a closure, of which its names have their kinds, and end with it
  pub data JudgesBody (rules : OpenRules) : ClosureBody → Option RootMap → Judgement → Type 0 where
    unreached_body : {b : ClosureBody} {tags : List Tag}
        → AreUnjudged rules (in_exprs b.items) tags
        → JudgesBody rules b None (unreached_parts tags (closures_in_exprs b.items))
    reached_body : {b : ClosureBody} {known : RootMap} {j : Judgement}
        → JudgesBlock rules true (Some (with_names b.names b.kinds known)) b.items j
        → JudgesBody rules b (Some known) (left_body b known j)

  -- The tries at a body, from one on, with what is known at it; then what is known at the last one,
  -- and the judgement there. The first that is stable is the last: what is known behind the body is
  -- within what is known at it.
  pub data JudgesTries
      (rules : OpenRules) : ClosureBody → Try → Option RootMap → Option RootMap → Judgement → Type 0 where
    a_stable_try : {b : ClosureBody} {try : Try} {known : Option RootMap} {j : Judgement}
        → JudgesBody rules b (if_state b.runs known) j → IsKnownWithin j.ok known
        → JudgesTries rules b try known known j
    an_unstable_try : {b : ClosureBody} {try : Try} {known next last : Option RootMap} {j k : Judgement}
        → JudgesBody rules b (if_state b.runs known) j → ¬ IsKnownWithin j.ok known
        → IsNextTry try b known j.ok next → JudgesTries rules b (next_try try) next last k
        → JudgesTries rules b try known last k

  -- all runs of a body, where this is known where the call begins to run it: by tries, where the
  -- rules allow them, or from a state that they allow
  pub data JudgesRuns (rules : OpenRules) : ClosureBody → Option RootMap → Loop → Judgement → Type 0 where
    by_tries : {b : ClosureBody} {known last : Option RootMap} {k : Judgement}
        → rules.tries ≡ true → JudgesTries rules b first_try known last k
        → JudgesRuns rules b known (record { known = last; begins = true; goes_on = true }) k
    by_what_is_given : {b : ClosureBody} {known : Option RootMap} {loop : Loop} {k : Judgement}
        → rules.given loop ≡ true → JudgesBody rules b (if_state b.runs loop.known) k
        → (IsTrue loop.begins ↔ IsKnownWithin known loop.known) → (IsTrue loop.goes_on ↔ IsKnownWithin k.ok loop.known)
        → JudgesRuns rules b known loop k

-- the items of a script: one that may fail is 100
pub data JudgesItems (rules : OpenRules) : Judgement → Exprs → Judgement → Type 0 where
  no_more_items : {before : Judgement} → JudgesItems rules before no_exprs before
  one_more_item : {before j middle after : Judgement} {e : Expr} {es : Exprs}
      → Judges rules false before.ok e j → IsThen before (with_codes (of_item (span_of e) j) j) middle
      → JudgesItems rules middle es after
      → JudgesItems rules before (exprs e es) after

-- the state that a script is judged from: the event has the declared kind, cut; beside it only the
-- metadata is known, an object of JSON; no block is open
pub record IsScriptStart (K : KindTree) (state : State) : Type 0 where
  pub roots : RootMap
  pub known : state.known ≡ Some roots
  pub event : IsCut K roots.event
  pub variables : roots.variables ≡ map.insert map.empty metadata_name json_object
  pub scopes : state.scopes ≡ []

-- a script over events of a kind; an empty one gives null
pub data JudgesScript (rules : OpenRules) : KindTree → Exprs → Judgement → Type 0 where
  a_script : {start N : KindTree} {state : State} {es : Exprs} {j : Judgement}
      → IsScriptStart start state → IsScalar tag.Null N → JudgesItems rules (gives N state.known) es j
      → JudgesScript rules start es (settle j)
