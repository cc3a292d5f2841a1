-- The third try at a closure is stable: while a body is judged, each root that was known stays known, and one that the body doesn't write keeps its kind. The
-- kind of each value is one that a root can have, so what is written is within every kind.
use Rattle.std.proofs.Common.{◌≡◌, ℕ, Bool, true, false, ◌||◌, ◌&&◌, not, is_some, All, List, [], ◌∷◌, ◌++◌, Option, Some, None, IfSome, if◌then◌else◌, refl, sym, ap, ◌∙◌, subst}
use Rattle.std.proofs.lemmas.Bool.{false≢true, or_left}
use Rattle.std.proofs.lemmas.List.Elements.{All-cons, All-nil}
use Rattle.std.proofs.lemmas.List.Folds.{list_any-append}
use Rattle.std.specs.List.{list_any}
use Rattle.std.specs.Prelude.{⊤}
use Rattle.vrl_value.specs.declared.value.Tag.{Tag}
use Rattle.vrl_path.specs.declared.path.Step.{Step}
use Rattle.vrl_diag.specs.declared.diagnostic.Span.{Span}
use Rattle.vrl_syntax.specs.Calls.{for_names, is_del, path_of}
use Rattle.vrl_syntax.specs.ErrorAssignments.{empty_value}
use Rattle.vrl_syntax.specs.Tree.{Args, Arms, Closure, closure, Else, Expr, expr, Exprs, Form, Pairs, no_pairs, pair, read}
use Rattle.vrl_syntax.specs.Written.{argument_roots, args_write, arms_write, closure_writes, else_writes, expr_writes, exprs_write, form_writes, pairs_write, path_roots, target_roots}
use Rattle.vrl_syntax.specs.declared.call_form.CallForm.{CallForm}
use Rattle.vrl_syntax.specs.declared.root.Op.{Op}
use Rattle.vrl_syntax.specs.declared.root.Root.{Root}
use Rattle.vrl_syntax.specs.declared.root.Target.TheVariants.{Place}
use Rattle.vrl_kind.specs.Canonical.{any_kind, never_kind}
use Rattle.vrl_kind.specs.KindTree.{KindTree}
use Rattle.vrl_kind.specs.Kinds.{root_tags}
use Rattle.vrl_kind.specs.PartSets.{parts_at}
use Rattle.vrl_place.specs.Sets.{is_alone}
use Rattle.vrl_binding.specs.Binding.{binding, collections, keywords_of}
use Rattle.vrl_table.specs.Table.{row_of, ResultsArePresent}
use Rattle.vrl_table.specs.declared.function.Fun.{Fun}
use Rattle.vrl_state.specs.Laws.{ForgettingWidens, RootKindsJoinThemselves}
use Rattle.vrl_state.specs.States.{same_root, with_names, HasRootKinds, IsCutOf, IsForgotten, IsKnownWithin, IsRootKind, IsRootKindIf, RootMap}
use Rattle.vrl_state.proofs.Limits.{either_root, root_of, sets_root}
use Rattle.vrl_judge.specs.Closures.{ClosureBody, Try, call_at, key_tags, left_body, of_body}
use Rattle.vrl_judge.specs.Judging.{table_rule}
use Rattle.vrl_judge.specs.Rules.{Argument, Judgement, Loop, banged, chained, gives, has_others, if_state, is_alive, left, may_be_no_truth, may_be_truth, nothing, of_pairs, scalars_at, settle, some_pair, table_tags, with_codes, IsThen}
use Rattle.vrl_judge.specs.declared.tables.Table.{Table}
use Rattle.vrl_judge.proofs.RootKinds.{any_root, array_root, merged_root, never_root, object_root, or_else_root, read_root, scalar_root, scalars_root, settled_root, table_root, value_root}
use Rattle.vrl_check.specs.Determined.{ThirdTriesAreStable}
use Rattle.vrl_check.specs.Judgement.{bound, deleted_kind, deleted_path, pair_names, pair_values, passing_closure, places_in, predicate_of, run_through, table_of, IsAnsweredUnless, IsBeside, IsCutDown, IsDeletedAt}
use Rattle.vrl_check.specs.Judgement.{Judges, unreached, reached, Gives, a_literal, an_array, an_object, a_known_root, an_unknown_root, a_query, a_group, a_block, a_conditional, a_negation, an_equality, of_table, a_merge, a_conjunction, a_disjunction, a_coalescing, an_assignment, a_merge_into_nothing, a_merge_assignment, an_error_assignment, a_call_of_nothing, a_call, a_deletion, an_existence, a_wrong_closure_call, a_closure_call, a_return, an_abort, an_abort_with, JudgesBoth, operands, JudgesAll, no_more, one_more, JudgesArguments, no_more_arguments, one_more_argument, JudgesBlock, unreached_block, reached_block, JudgesArms, an_arm, an_else, a_missing_else, JudgesBody, unreached_body, reached_body, JudgesTries, a_stable_try, an_unstable_try, JudgesRuns, by_tries, by_what_is_given}
use Rattle.vrl_check.specs.OpenRules.{OpenRules}
use Rattle.vrl_check.proofs.SteadyRoots.{block_steady, body_steady, deleted_steady, first_among, joined_steady, names_steady, next_steady, root_itself, second_among, steady_as, steady_if, steady_start, target_steady, within_forgotten, AreAmong, IsSteady, IsSteadyMap}
use Rattle.vrl_kind.specs.KindTree as trees
use Rattle.vrl_value.specs.declared.value.Tag.TheVariants as tag
use Rattle.vrl_syntax.specs.declared.call_form.CallForm.TheVariants as form
use Rattle.vrl_syntax.specs.declared.root.Op.TheVariants as op
use Rattle.vrl_judge.specs.declared.tables.Table.TheVariants as table

told : {A : Type 0} (x y : A) → Some x ≡ Some y → x ≡ y
told x y same = cc

-- ---- kinds of values

-- the table of an operator is one of the tables
one_table : (o : Op) (T : Tag → Tag → Option Tag) → table_of o ≡ Some T → (r : Table) × (table_rule r ≡ T)
one_table op.Plus T is = (table.Sum, told _ _ is)
one_table op.Minus T is = (table.Number, told _ _ is)
one_table op.Times T is = (table.Number, told _ _ is)
one_table op.Less T is = (table.Order, told _ _ is)
one_table op.AtMost T is = (table.Order, told _ _ is)
one_table op.More T is = (table.Order, told _ _ is)
one_table op.AtLeast T is = (table.Order, told _ _ is)
one_table o T is = let wrong : None ≡ Some T = is in absurd cc

table_kind : (o : Op) (T : Tag → Tag → Option Tag) (K L M : KindTree) → table_of o ≡ Some T → IsCutOf (scalars_at (table_tags T K L)) M → IsRootKind M
table_kind o T K L M is cut =
    let found = one_table o T is in
    table_root found.0 K L M (subst (λ S. IsCutOf (scalars_at (table_tags S K L)) M) (sym found.1) cut)

answered_kind : ResultsArePresent → (function : Fun) (poisoned : Bool) (sources : List (List ℕ)) (js : List (Option Argument)) (K : KindTree) (may : Bool) → IsAnsweredUnless poisoned sources (row_of function) js K may → IsRootKind K
answered_kind present function true sources js K may is = subst IsRootKind (sym is.0) any_root
answered_kind present function false sources js K may is = sets_root _ K is.kind (present function is.givens sources)

-- what is cut down to tags of values is never absent
and_none : (b : Bool) → (b && false) ≡ false
and_none true = refl
and_none false = refl

cut_down_present : (f : CallForm) (K C : KindTree) → IsCutDown (collections f) K C → root_tags C tag.Absent ≡ false
cut_down_present f K C is = is.tags [] tag.Absent ∙ and_none (root_tags K tag.Absent)

key_kind : (C K : KindTree) → IsCutOf (scalars_at (key_tags C)) K → IsRootKind K
key_kind C K cut = scalars_root (key_tags C) K cut (neither (root_tags C tag.Object) (root_tags C tag.List)) where
  neither : (a b : Bool) → ((a && false) || (b && false)) ≡ false
  neither true b = and_none b
  neither false b = and_none b

part_kind : (C K : KindTree) → IsCutOf (parts_at C) K → IsRootKind K
part_kind C K cut = sets_root (parts_at C) K cut (part_present C) where
  part_present : (L : KindTree) → parts_at L [] tag.Absent ≡ false
  part_present (trees.kind s l o) = and_none _

call_present : (f : CallForm) (C K : KindTree) → root_tags C tag.Absent ≡ false → call_at f C K [] tag.Absent ≡ false
call_present form.ForEach C K present = refl
call_present form.Filter C K present = present
call_present form.MapValues C K present = present
call_present form.MapKeys C K present = refl
call_present form.Del C K present = refl
call_present form.Exists C K present = refl

names_kinds : (f : CallForm) (K L : KindTree) → IsRootKind K → IsRootKind L → All IsRootKind (for_names f K L)
names_kinds form.ForEach K L k l = All-cons IsRootKind K (L ∷ []) k (All-cons IsRootKind L [] l (All-nil IsRootKind))
names_kinds form.Filter K L k l = All-cons IsRootKind K (L ∷ []) k (All-cons IsRootKind L [] l (All-nil IsRootKind))
names_kinds form.MapValues K L k l = All-cons IsRootKind L [] l (All-nil IsRootKind)
names_kinds form.MapKeys K L k l = All-cons IsRootKind K [] k (All-nil IsRootKind)
names_kinds form.Del K L k l = All-nil IsRootKind
names_kinds form.Exists K L k l = All-nil IsRootKind

-- the kinds of arguments
abbrev HaveRoots : List Argument → Type 0
HaveRoots [] = ⊤
HaveRoots (g ∷ js) = IsRootKind g.judged.kind × HaveRoots js

deleted_root : (poisoned : Bool) (js : List Argument) → HaveRoots js → IsRootKind (deleted_kind poisoned js)
deleted_root false (g ∷ []) roots = roots.0
deleted_root poisoned js roots = any_root

-- ---- what is deleted is written

path_written : (e : Expr) (found : Root × List Step) → path_of e ≡ Some found → list_any (same_root found.0) (path_roots e) ≡ true
path_written (expr span (read root path)) found is = subst (λ (f : Root × List Step). list_any (same_root f.0) (root ∷ []) ≡ true) (told (root, path) found is) (or_left (same_root root root) false (root_itself root))
path_written (expr span f) found is = let wrong : None ≡ Some found = is in absurd cc

-- ---- what is shown of each judgement

-- the kind of its value can be a root's, and each end goes on from what was known
record AreSteady (W : List Root) (base : RootMap) (K : KindTree) (given failed returned : Option RootMap) : Type 0 where
  kind : IsRootKind K
  ok : IsSteady W base given
  fail : IsSteady W base failed
  ret : IsSteady W base returned

abbrev GoesOn : List Root → RootMap → Judgement → Type 0
GoesOn W base j = AreSteady W base j.kind j.ok j.fail j.ret

module _ (joins : RootKindsJoinThemselves) (W : List Root) (base : RootMap) where
  nothing_goes : (tags : List Tag) → GoesOn W base (nothing tags)
  nothing_goes tags = record { kind = never_root; ok = tt; fail = tt; ret = tt }

  start_goes : (K : KindTree) (known : Option RootMap) → IsRootKind K → IsSteady W base known → GoesOn W base (gives K known)
  start_goes K known root steady = record { kind = root; ok = steady; fail = tt; ret = tt }

  -- a value of another kind
  of_kind : (j : Judgement) (K : KindTree) → IsRootKind K → GoesOn W base j → GoesOn W base (record j { kind = K })
  of_kind j K root goes = record { kind = root; ok = goes.ok; fail = goes.fail; ret = goes.ret }

  pairs_go : (T : Tag → Tag → Option Tag) (l r parts : Judgement) (K : KindTree) (fail : Option RootMap) → IsRootKind K → IsSteady W base fail → GoesOn W base parts → GoesOn W base (of_pairs T l r parts K fail)
  pairs_go T l r parts K fail root error goes = record {
    kind = root;
    ok = steady_if W base (parts.poisoned || some_pair (λ a b. is_some (T a b)) l.kind r.kind) parts.ok goes.ok;
    fail = error;
    ret = goes.ret;
  }

  settled_goes : (j : Judgement) → GoesOn W base j → GoesOn W base (settle j)
  settled_goes j goes = record { kind = settled_root j.poisoned (is_alive j.ok) j.kind goes.kind; ok = goes.ok; fail = steady_if W base (not j.poisoned) j.fail goes.fail; ret = goes.ret }

  banged_goes : (span : Span) (bang : Bool) (j : Judgement) → GoesOn W base j → GoesOn W base (banged span bang j)
  banged_goes span false j goes = goes
  banged_goes span true j goes = record { kind = goes.kind; ok = goes.ok; fail = tt; ret = goes.ret }

  -- parts in order, and alternatives
  then_goes : (before part after : Judgement) → IsThen before part after → GoesOn W base before → GoesOn W base part → GoesOn W base after
  then_goes before part after is first second = record {
    kind = subst IsRootKind (sym is.behind.kind) second.kind;
    ok = steady_as W base is.behind.ok second.ok;
    fail = joined_steady joins W base before.fail part.fail after.fail is.fail first.fail second.fail;
    ret = joined_steady joins W base before.ret part.ret after.ret is.behind.ret first.ret second.ret;
  }

  beside_goes : (ways way all : Judgement) → IsBeside ways way all → GoesOn W base ways → GoesOn W base way → GoesOn W base all
  beside_goes ways way all is first second = record {
    kind = either_root ways.kind way.kind all.kind first.kind second.kind is.kind;
    ok = joined_steady joins W base ways.ok way.ok all.ok is.ok first.ok second.ok;
    fail = joined_steady joins W base ways.fail way.fail all.fail is.fail first.fail second.fail;
    ret = joined_steady joins W base ways.ret way.ret all.ret is.ret first.ret second.ret;
  }

  -- ends of a block, and of the body of a closure
  left_goes : (before : RootMap) (j : Judgement) → IsSteadyMap W base before → GoesOn W base j → GoesOn W base (left before j)
  left_goes before j began goes = record {
    kind = goes.kind;
    ok = block_steady W base before j.ok began goes.ok;
    fail = block_steady W base before j.fail began goes.fail;
    ret = block_steady W base before j.ret began goes.ret;
  }

  body_left : (b : ClosureBody) (before : RootMap) (j : Judgement) → IsSteadyMap W base before → GoesOn W (with_names b.names b.kinds base) j → GoesOn W base (left_body b before j)
  body_left b before j began goes = record {
    kind = goes.kind;
    ok = body_steady W b.names b.kinds base before j.ok began goes.ok;
    fail = body_steady W b.names b.kinds base before j.fail began goes.fail;
    ret = body_steady W b.names b.kinds base before j.ret began goes.ret;
  }

  -- what stands at a path is taken out, if some path is deleted
  deleted_goes : (found : Option (Root × List Step)) (before after : Option RootMap) → ((f : Root × List Step) → found ≡ Some f → list_any (same_root f.0) W ≡ true) → IsDeletedAt found before after → IsSteady W base before → IsSteady W base after
  deleted_goes None before after among is steady = steady_as W base is steady
  deleted_goes (Some f) before after among is steady = deleted_steady W base f.0 f.1 before after (among f refl) is steady

pairs_are : (ps : Pairs) → exprs_write (pair_values ps) ≡ pairs_write ps
pairs_are no_pairs = refl
pairs_are (pair name e ps) = ap (λ roots. expr_writes e ++ roots) (pairs_are ps)

-- the path of the one argument of a `del` is among those of its arguments
found_written : {rules : OpenRules} {inside : Bool} {before after : Judgement} {gs : Args} {js : List Argument} (poisoned : Bool) (found : Root × List Step) → JudgesArguments rules inside before gs js after → deleted_path poisoned js ≡ Some found → list_any (same_root found.0) (argument_roots gs) ≡ true
found_written false found (one_more_argument {e = e} part next no_more_arguments) is = list_any-append (same_root found.0) (path_roots e) [] ∙ or_left (list_any (same_root found.0) (path_roots e)) false (path_written e found is)
found_written poisoned found arguments is = let wrong : None ≡ Some found = is in absurd cc

-- ---- every judgement

-- of a part whose writes are among these
module _ (joins : RootKindsJoinThemselves) (present : ResultsArePresent) (rules : OpenRules) (none_given : (loop : Loop) → rules.given loop ≡ false) (W : List Root) where
  -- what the arguments of a call write, and its closure
  arguments_among : (name : List ℕ) (gs : Args) (c : Closure) → AreAmong ((if is_del name then argument_roots gs else []) ++ (args_write gs ++ closure_writes c)) W → AreAmong (args_write gs) W
  arguments_among name gs c among = first_among W (args_write gs) (closure_writes c) (second_among W (if is_del name then argument_roots gs else []) (args_write gs ++ closure_writes c) among)

  closure_among : (name : List ℕ) (gs : Args) (c : Closure) → AreAmong ((if is_del name then argument_roots gs else []) ++ (args_write gs ++ closure_writes c)) W → AreAmong (closure_writes c) W
  closure_among name gs c among = second_among W (args_write gs) (closure_writes c) (second_among W (if is_del name then argument_roots gs else []) (args_write gs ++ closure_writes c) among)

  deleted_among : (name : List ℕ) (gs : Args) (c : Closure) → is_del name ≡ true → AreAmong ((if is_del name then argument_roots gs else []) ++ (args_write gs ++ closure_writes c)) W → AreAmong (argument_roots gs) W
  deleted_among name gs c del among = subst (λ b. AreAmong (if b then argument_roots gs else []) W) del (first_among W (if is_del name then argument_roots gs else []) (args_write gs ++ closure_writes c) among)

  mutual
    judges_goes : (base : RootMap) {inside : Bool} {known : Option RootMap} {e : Expr} {j : Judgement} → Judges rules inside known e j → AreAmong (expr_writes e) W → IsSteady W base known → GoesOn W base j
    judges_goes base (unreached {e = e} allowed) among steady = nothing_goes joins W base []
    judges_goes base (reached {j = j} part) among steady = settled_goes joins W base j (form_goes base part among steady)

    form_goes : (base : RootMap) {inside : Bool} {known : RootMap} {span : Span} {f : Form} {j : Judgement} → Gives rules inside known span f j → AreAmong (form_writes f) W → IsSteadyMap W base known → GoesOn W base j
    form_goes base (a_literal {known = known} {v = v} {K = K} cut) among steady = start_goes joins W base K (Some known) (value_root v K cut) steady
    form_goes base (an_array {known = known} {j = j} {Ks = Ks} {K = K} all cut) among steady =
        of_kind joins W base j K (array_root Ks K cut) (all_goes base all among (start_goes joins W base never_kind (Some known) never_root steady))
    form_goes base (an_object {known = known} {ps = ps} {j = j} {Ks = Ks} {K = K} all cut) among steady =
        of_kind joins W base j K (object_root (pair_names ps) Ks K cut) (all_goes base all (subst (λ roots. AreAmong roots W) (sym (pairs_are ps)) among) (start_goes joins W base never_kind (Some known) never_root steady))
    form_goes base (a_known_root {known = known} {root = root} {path = path} {K = K} {M = M} is at) among steady =
        let here : IsRootKind K = subst IsRootKindIf is (root_of root known steady.roots) in
        start_goes joins W base M (Some known) (read_root K path M at here.present) steady
    form_goes base (an_unknown_root {known = known} is) among steady = start_goes joins W base any_kind (Some known) any_root steady
    form_goes base (a_query {path = path} {j = j} {K = K} judged at) among steady =
        let part = judges_goes base judged among steady in
        of_kind joins W base j K (read_root j.kind path K at part.kind.present) part
    form_goes base (a_group judged) among steady = judges_goes base judged among steady
    form_goes base (a_block items) among steady = block_goes base items among steady
    form_goes base (a_conditional {gs = gs} {es = es} arms) among steady =
        arms_go base arms (first_among W (arms_write gs) (else_writes es) among) (second_among W (arms_write gs) (else_writes es) among) steady (nothing_goes joins W base [])
    form_goes base (a_negation {j = j} {K = K} judged scalar) among steady = of_kind joins W base j K (scalar_root tag.Bool K scalar refl) (judges_goes base judged among steady)
    form_goes base (an_equality {whole = whole} {K = K} is parts scalar) among steady = of_kind joins W base whole K (scalar_root tag.Bool K scalar refl) (operands_go base parts among steady)
    form_goes base (of_table {span = span} {o = o} {table = T} {l = l} {r = r} {j = j} {k = k} {whole = whole} {K = K} {fail = fail} is parts cut fails) among steady =
        let both = operands_go base parts among steady in
        let others : Bool = some_pair (λ a b. not (is_some (T a b))) j.kind k.kind in
        let error = joined_steady joins W base whole.fail (if_state others whole.ok) fail fails both.fail (steady_if W base others whole.ok both.ok) in
        pairs_go joins W base T j k (with_codes (chained span o l r) whole) K fail (table_kind o T j.kind k.kind K is cut) error both
    form_goes base (a_merge {j = j} {k = k} {whole = whole} {K = K} parts merged) among steady = of_kind joins W base whole K (merged_root j.kind k.kind K merged) (operands_go base parts among steady)
    form_goes base (a_conjunction {l = l} {r = r} {j = j} {k = k} {whole = whole} {K = K} left_fail part_fail {ok = ok} {fail = fail} one two behind scalar ends left_fails part_fails fails) among steady =
        let first = judges_goes base one (first_among W (expr_writes l) (expr_writes r) among) steady in
        let second = judges_goes base two (second_among W (expr_writes l) (expr_writes r) among) (steady_if W base (root_tags j.kind tag.Bool) j.ok first.ok) in
        let on_left = joined_steady joins W base j.fail (if_state (may_be_no_truth j.kind) j.ok) left_fail left_fails first.fail (steady_if W base (may_be_no_truth j.kind) j.ok first.ok) in
        let on_part = joined_steady joins W base left_fail k.fail part_fail part_fails on_left second.fail in
        record {
          kind = scalar_root tag.Bool K scalar refl;
          ok = joined_steady joins W base (if_state (may_be_truth j.kind) j.ok) (if_state (may_be_truth k.kind) k.ok) ok ends (steady_if W base (may_be_truth j.kind) j.ok first.ok) (steady_if W base (may_be_truth k.kind) k.ok second.ok);
          fail = joined_steady joins W base part_fail (if_state (may_be_no_truth k.kind) k.ok) fail fails on_part (steady_if W base (may_be_no_truth k.kind) k.ok second.ok);
          ret = joined_steady joins W base j.ret k.ret whole.ret behind.ret first.ret second.ret;
        }
    form_goes base (a_disjunction {l = l} {r = r} {j = j} {k = k} {whole = whole} {K = K} {ok = ok} one two next cut ends) among steady =
        let first = judges_goes base one (first_among W (expr_writes l) (expr_writes r) among) steady in
        let second = judges_goes base two (second_among W (expr_writes l) (expr_writes r) among) (steady_if W base (may_be_truth j.kind) j.ok first.ok) in
        let both = then_goes joins W base j k whole next first second in
        let some : Bool = not (is_alone (root_tags j.kind) tag.Null) in
        record {
          kind = or_else_root j.kind k.kind K first.kind second.kind cut;
          ok = joined_steady joins W base (if_state some j.ok) k.ok ok ends (steady_if W base some j.ok first.ok) second.ok;
          fail = both.fail;
          ret = both.ret;
        }
    form_goes base (a_coalescing {l = l} {r = r} {j = j} {k = k} {whole = whole} {K = K} {ok = ok} one two behind either ends) among steady =
        let first = judges_goes base one (first_among W (expr_writes l) (expr_writes r) among) steady in
        let second = judges_goes base two (second_among W (expr_writes l) (expr_writes r) among) first.fail in
        record {
          kind = either_root j.kind k.kind K first.kind second.kind either;
          ok = joined_steady joins W base j.ok k.ok ok ends first.ok second.ok;
          fail = second.fail;
          ret = joined_steady joins W base j.ret k.ret whole.ret behind.ret first.ret second.ret;
        }
    form_goes base (an_assignment {t = t} {e = e} {j = j} {ok = ok} judged written) among steady =
        let part = judges_goes base judged (second_among W (target_roots t) (expr_writes e) among) steady in
        record { kind = part.kind; ok = target_steady W base t j.kind j.ok ok (first_among W (target_roots t) (expr_writes e) among) part.kind written part.ok; fail = part.fail; ret = part.ret }
    form_goes base (a_merge_into_nothing {e = e} judged) among steady = judges_goes base judged (second_among W [] (expr_writes e) among) steady
    form_goes base (a_merge_assignment {s = s} {root = root} {path = path} {e = e} {j = j} {ok = ok} judged written) among steady =
        let part = judges_goes base judged (second_among W (root ∷ []) (expr_writes e) among) steady in
        record { kind = part.kind; ok = target_steady W base (Place s root path) j.kind j.ok ok (first_among W (root ∷ []) (expr_writes e) among) part.kind written part.ok; fail = part.fail; ret = part.ret }
    form_goes base (an_error_assignment {t = t} {u = u} {e = e} {j = j} empty {E = E} {K = K} {N = N} {T = T} given given_both failed failed_both {ok = ok} judged may cut either null text one two three four ends) among steady =
        let others = second_among W (target_roots t) (target_roots u ++ expr_writes e) among in
        let first = first_among W (target_roots t) (target_roots u ++ expr_writes e) among in
        let second = first_among W (target_roots u) (expr_writes e) others in
        let part = judges_goes base judged (second_among W (target_roots u) (expr_writes e) others) steady in
        let value : IsRootKind E = value_root (empty_value empty) E cut in
        let on_value = target_steady W base u N given given_both second (scalar_root tag.Null N null refl) two (target_steady W base t j.kind j.ok given first part.kind one part.ok) in
        let on_error = target_steady W base u T failed failed_both second (scalar_root tag.Text T text refl) four (target_steady W base t E j.fail failed first value three part.fail) in
        record { kind = either_root j.kind E K part.kind value either; ok = joined_steady joins W base given_both failed_both ok ends on_value on_error; fail = tt; ret = part.ret }
    form_goes base (a_call_of_nothing {known = known} {name = name} {gs = gs} {c = c} {j = j} unknown other arguments allowed) among steady =
        of_kind joins W base j any_kind any_root (arguments_go base arguments (arguments_among name gs c among) (start_goes joins W base never_kind (Some known) never_root steady)).0
    form_goes base (a_call {known = known} {span = span} function {name = name} {bang = bang} {gs = gs} {c = c} {js = js} {j = j} {whole = whole} K fails fail named arguments allowed is answered ends) among steady =
        let parts = arguments_go base arguments (arguments_among name gs c among) (start_goes joins W base never_kind (Some known) never_root steady) in
        let behind : GoesOn W base whole = subst (GoesOn W base) (sym is) parts.0 in
        banged_goes joins W base span bang (record whole { kind = K; fail = fail }) (record {
          kind = answered_kind present function whole.poisoned rules.sources (bound (places_in (binding (row_of function).parameters (keywords_of gs))) js) K fails answered;
          ok = behind.ok;
          fail = joined_steady joins W base whole.fail (if_state fails whole.ok) fail ends behind.fail (steady_if W base fails whole.ok behind.ok);
          ret = behind.ret;
        })
    form_goes base (a_deletion {known = known} {span = span} {name = name} {bang = bang} {gs = gs} {c = c} {js = js} {j = j} {whole = whole} ok del arguments allowed is deleted) among steady =
        let parts = arguments_go base arguments (arguments_among name gs c among) (start_goes joins W base never_kind (Some known) never_root steady) in
        let behind : GoesOn W base whole = subst (GoesOn W base) (sym is) parts.0 in
        banged_goes joins W base span bang (record whole { kind = deleted_kind whole.poisoned js; ok = ok }) (record {
          kind = deleted_root whole.poisoned js parts.1;
          ok = deleted_goes joins W base (deleted_path whole.poisoned js) whole.ok ok (λ f same. deleted_among name gs c del among f.0 (found_written whole.poisoned f arguments same)) deleted behind.ok;
          fail = behind.fail;
          ret = behind.ret;
        })
    form_goes base (an_existence {known = known} {span = span} {name = name} {bang = bang} {gs = gs} {c = c} {j = j} {whole = whole} K exists arguments allowed is scalar) among steady =
        let parts = arguments_go base arguments (arguments_among name gs c among) (start_goes joins W base never_kind (Some known) never_root steady) in
        let behind : GoesOn W base whole = subst (GoesOn W base) (sym is) parts.0 in
        banged_goes joins W base span bang (record whole { kind = K }) (of_kind joins W base whole K (scalar_root tag.Bool K scalar refl) behind)
    form_goes base (a_wrong_closure_call {known = known} {span = span} f {name = name} {bang = bang} {gs = gs} {c = c} {j = j} {tags = tags} first others named runs arguments allowed codes) among steady =
        let parts = arguments_go base arguments (arguments_among name gs c among) (start_goes joins W base never_kind (Some known) never_root steady) in
        banged_goes joins W base span bang (with_codes (first ∷ others) (passing_closure c tags (record j { kind = any_kind }))) (of_kind joins W base j any_kind any_root parts.0)
    form_goes base (a_closure_call {known = known} {span = span} f {name = name} {bang = bang} {gs = gs} {names = names} {es = es} {t = t} {g = g} {j = j} C key value loop {k = k} {whole = whole} K fail named runs arguments no_codes cut_down key_cut value_cut all_runs next cut ends) among steady =
        let parts = arguments_go base arguments (arguments_among name gs (closure names es t) among) (start_goes joins W base never_kind (Some known) never_root steady) in
        let run = runs_go base all_runs (names_kinds f key value (key_kind C key key_cut) (part_kind C value value_cut)) (closure_among name gs (closure names es t) among) parts.0.ok in
        let through : GoesOn W base (run_through loop k) = record { kind = run.1.kind; ok = run.0; fail = run.1.fail; ret = run.1.ret } in
        let behind = then_goes joins W base j (run_through loop k) whole next parts.0 through in
        let others : Bool = has_others (collections f) g.judged.kind in
        banged_goes joins W base span bang (with_codes (of_body f t k) (record whole { kind = K; fail = fail })) (record {
          kind = sets_root (call_at f C k.kind) K cut (call_present f C k.kind (cut_down_present f g.judged.kind C cut_down));
          ok = behind.ok;
          fail = joined_steady joins W base whole.fail (if_state others j.ok) fail ends behind.fail (steady_if W base others j.ok parts.0.ok);
          ret = behind.ret;
        })
    form_goes base (a_return {inside = inside} {j = j} {ret = ret} judged ends either) among steady =
        let part = judges_goes base judged among steady in
        record { kind = never_root; ok = steady_if W base inside j.ok part.ok; fail = part.fail; ret = joined_steady joins W base j.ret j.ok ret ends part.ret part.ok }
    form_goes base an_abort among steady = nothing_goes joins W base []
    form_goes base (an_abort_with judged) among steady =
        let part = judges_goes base judged among steady in
        record { kind = never_root; ok = tt; fail = part.fail; ret = part.ret }

    operands_go : (base : RootMap) {inside : Bool} {known : RootMap} {l r : Expr} {j k whole : Judgement} → JudgesBoth rules inside known l r j k whole → AreAmong (expr_writes l ++ expr_writes r) W → IsSteadyMap W base known → GoesOn W base whole
    operands_go base (operands {l = l} {r = r} {j = j} {k = k} {whole = whole} one two next) among steady =
        let first = judges_goes base one (first_among W (expr_writes l) (expr_writes r) among) steady in
        then_goes joins W base j k whole next first (judges_goes base two (second_among W (expr_writes l) (expr_writes r) among) first.ok)

    all_goes : (base : RootMap) {inside : Bool} {before after : Judgement} {es : Exprs} {Ks : List KindTree} → JudgesAll rules inside before es Ks after → AreAmong (exprs_write es) W → GoesOn W base before → GoesOn W base after
    all_goes base no_more among given = given
    all_goes base (one_more {before = before} {j = j} {middle = middle} {e = e} {es = es} part next rest) among given =
        all_goes base rest (second_among W (expr_writes e) (exprs_write es) among)
        (then_goes joins W base before j middle next given (judges_goes base part (first_among W (expr_writes e) (exprs_write es) among) given.ok))

    arguments_go : (base : RootMap) {inside : Bool} {before after : Judgement} {gs : Args} {js : List Argument} → JudgesArguments rules inside before gs js after → AreAmong (args_write gs) W → GoesOn W base before → GoesOn W base after × HaveRoots js
    arguments_go base no_more_arguments among given = (given, tt)
    arguments_go base (one_more_argument {before = before} {j = j} {middle = middle} {e = e} {gs = gs} part next rest) among given =
        let one = judges_goes base part (first_among W (expr_writes e) (args_write gs) among) given.ok in
        let others = arguments_go base rest (second_among W (expr_writes e) (args_write gs) among) (then_goes joins W base before j middle next given one) in
        (others.0, (one.kind, others.1))

    block_goes : (base : RootMap) {inside : Bool} {known : Option RootMap} {es : Exprs} {j : Judgement} → JudgesBlock rules inside known es j → AreAmong (exprs_write es) W → IsSteady W base known → GoesOn W base j
    block_goes base (unreached_block allowed) among steady = nothing_goes joins W base []
    block_goes base (reached_block {known = known} {N = N} {j = j} null all) among steady =
        settled_goes joins W base (left known j) (left_goes joins W base known j steady (all_goes base all among (start_goes joins W base N (Some known) (scalar_root tag.Null N null refl) steady)))

    arms_go : (base : RootMap) {inside : Bool} {state : Option RootMap} {ways all : Judgement} {gs : Arms} {otherwise : Else} → JudgesArms rules inside state ways gs otherwise all → AreAmong (arms_write gs) W → AreAmong (else_writes otherwise) W → IsSteady W base state → GoesOn W base ways → GoesOn W base all
    arms_go base (an_arm {ways = ways} {j = j} {with_predicate = with_predicate} {k = k} {with_branch = with_branch} {p = p} {es = es} {gs = gs} predicate beside branch besides rest) among last steady given =
        let others = second_among W (expr_writes p) (exprs_write es ++ arms_write gs) among in
        let one = judges_goes base predicate (first_among W (expr_writes p) (exprs_write es ++ arms_write gs) among) steady in
        let tested = beside_goes joins W base ways (record (predicate_of p j) { kind = never_kind; ok = None }) with_predicate beside given (record { kind = never_root; ok = tt; fail = one.fail; ret = one.ret }) in
        let taken = beside_goes joins W base with_predicate k with_branch besides tested (block_goes base branch (first_among W (exprs_write es) (arms_write gs) others) one.ok) in
        arms_go base rest (second_among W (exprs_write es) (arms_write gs) others) last one.ok taken
    arms_go base (an_else {ways = ways} {k = k} {all = all} branch beside) among last steady given = beside_goes joins W base ways k all beside given (block_goes base branch last steady)
    arms_go base (a_missing_else {state = state} {ways = ways} {all = all} {N = N} null beside) among last steady given =
        beside_goes joins W base ways (settle (gives N state)) all beside given (settled_goes joins W base (gives N state) (start_goes joins W base N state (scalar_root tag.Null N null refl) steady))

    body_goes : (base : RootMap) {b : ClosureBody} {known : Option RootMap} {j : Judgement} → JudgesBody rules b known j → All IsRootKind b.kinds → AreAmong (exprs_write b.items) W → IsSteady W base known → GoesOn W base j
    body_goes base (unreached_body allowed) kinds among steady = nothing_goes joins W base []
    body_goes base (reached_body {b = b} {known = known} {j = j} block) kinds among steady =
        body_left joins W base b known j steady (block_goes (with_names b.names b.kinds base) block among (names_steady W b.names b.kinds base known kinds steady))

    tries_go : (base : RootMap) {b : ClosureBody} {try : Try} {known last : Option RootMap} {k : Judgement} → JudgesTries rules b try known last k → All IsRootKind b.kinds → AreAmong (exprs_write b.items) W → IsSteady W base known → IsSteady W base last × GoesOn W base k
    tries_go base (a_stable_try {b = b} {known = known} body within) kinds among steady = (steady, body_goes base body kinds among (steady_if W base b.runs known steady))
    tries_go base (an_unstable_try {b = b} {try = try} {known = known} {next = next} {j = j} body unstable is rest) kinds among steady =
        let one = body_goes base body kinds among (steady_if W base b.runs known steady) in
        tries_go base rest kinds among (next_steady joins W base try b known j.ok next among is steady one.ok)

    runs_go : (base : RootMap) {b : ClosureBody} {known : Option RootMap} {loop : Loop} {k : Judgement} → JudgesRuns rules b known loop k → All IsRootKind b.kinds → AreAmong (exprs_write b.items) W → IsSteady W base known → IsSteady W base loop.known × GoesOn W base k
    runs_go base (by_tries tried tries) kinds among steady = tries_go base tries kinds among steady
    runs_go base (by_what_is_given {loop = loop} may body begins goes_on) kinds among steady = absurd (false≢true (sym (none_given loop) ∙ may))

-- ---- the third try

-- nothing is known behind a body that isn't run
nothing_within : {rules : OpenRules} (b : ClosureBody) (known : Option RootMap) (j : Judgement) → JudgesBody rules b None j → IsKnownWithin j.ok known
nothing_within b known j (unreached_body allowed) = tt

pub third_tries : RootKindsJoinThemselves → ForgettingWidens → ResultsArePresent → ThirdTriesAreStable
third_tries joins widens present rules none_given b before known j kinds roots forgotten judged = by b.runs known roots forgotten judged where
  by : (runs : Bool) (state : Option RootMap) → IfSome state HasRootKinds → IsForgotten (exprs_write b.items) before state → JudgesBody rules b (if_state runs state) j → IsKnownWithin j.ok state
  by false state has is body = nothing_within b state j body
  by true None has is body = nothing_within b None j body
  by true (Some base) has is body =
      let goes = body_goes joins present rules none_given (exprs_write b.items) base body kinds (λ r written. written) (steady_start (exprs_write b.items) base has) in
      within_forgotten widens (exprs_write b.items) before base j.ok is goes.ok
