-- A script has at most one judgement: no two rules judge one form, and each gives one thing.
use Rattle.std.proofs.Common.{◌≡◌, ℕ, Bool, not, is_some, true, false, ◌||◌, List, ◌∷◌, length, Option, Some, None, refl, sym, ap, ◌∙◌, subst}
use Rattle.std.proofs.lemmas.Bool.{false≢true}
use Rattle.vrl_value.specs.Tree.{Tree}
use Rattle.vrl_value.specs.declared.value.Tag.{Tag}
use Rattle.vrl_path.specs.declared.path.Step.{Step}
use Rattle.vrl_diag.specs.declared.diagnostic.Span.{Span}
use Rattle.vrl_syntax.specs.Tree.{Expr, expr, Form, Exprs, no_exprs, exprs, Pairs, no_pairs, pair, Arms, no_arms, arm, Else, no_else, else_block, Args, no_args, arg, Closure, no_closure, closure, no_message, message, span_of}
use Rattle.vrl_syntax.specs.declared.root.Op.{Op}
use Rattle.vrl_syntax.specs.declared.root.Root.{Root}
use Rattle.vrl_syntax.specs.declared.root.Target.{Target}
use Rattle.vrl_syntax.specs.declared.root.Target.TheVariants.{Nowhere, Place}
use Rattle.vrl_kind.specs.Canonical.{never_kind}
use Rattle.vrl_kind.specs.KindTree.{KindTree}
use Rattle.vrl_kind.specs.Tags.{same_tag}
use Rattle.vrl_kind.specs.Kinds.{found_at, root_tags}
use Rattle.vrl_kind.specs.Laws.{EqualTagsAreOneKind}
use Rattle.vrl_place.specs.Sets.{is_alone}
use Rattle.vrl_state.specs.States.{RootMap}
use Rattle.vrl_table.specs.Table.{FormsAreNoFunctions, FunctionsAreFound}
use Rattle.vrl_syntax.specs.ErrorAssignments.{empty_value}
use Rattle.vrl_judge.specs.Rules.{Judgement, Loop, IsTargetWritten, gives, settle, with_codes, if_state, is_alive}
use Rattle.vrl_check.specs.Judgement.{JudgesBoth, JudgesAll, JudgesBlock, JudgesArms, JudgesItems, JudgesScript}
use Rattle.vrl_check.specs.Determined.{JudgementsAreDetermined}
use Rattle.vrl_check.specs.Loops.{closures_in_exprs}
use Rattle.vrl_check.specs.OpenRules.{OpenRules, LeaveNothingOpen, language_rules}
use Rattle.vrl_check.proofs.Decided.{all_goes, arms_go, behind_adds, beside_adds, blocks_alike, both_decided, by_given, by_rules, goes_on, items_go, judged_alike, next_decided, two_decided, Adds, AreDecided, IsDecided}
use Rattle.vrl_check.proofs.DeterminedPremises.{one_cut_by, one_cut, one_read, one_either, one_merged, same_roots, one_join_of, one_join, one_written, some_is, one_behind, one_then, one_unjudged, one_beside, HasOne, GivesOne, HaveOne, ArgumentsHaveOne, BlockHasOne, ArmsHaveOne, ClosureHasOne, settled_once, judged_once}
use Rattle.vrl_check.proofs.DeterminedCalls.{no_arguments_once, one_more_argument_of, NamesTell, one_call}
use Rattle.std.specs.FinMap as map
use Rattle.vrl_value.specs.declared.value.Tag.TheVariants as tag
use Rattle.vrl_syntax.specs.Tree as syntax
use Rattle.vrl_syntax.specs.declared.root.Op.TheVariants as op
use Rattle.vrl_check.specs.Judgement as judging
use Rattle.vrl_judge.specs.Rules as words

-- ---- values and reads

one_literal : EqualTagsAreOneKind → (span : Span) (v : Tree) → GivesOne span (syntax.literal v)
one_literal kinds span v rules inside known j k decided (judging.a_literal one) (judging.a_literal two) = ap (λ M. gives M (Some known)) (one_cut kinds refl one two)

one_array : EqualTagsAreOneKind → (span : Span) (es : Exprs) → HaveOne es → GivesOne span (syntax.array es)
one_array kinds span es all rules inside known j k decided (judging.an_array {j = a} {Ks = Ks} {K = K} one is) (judging.an_array {j = b} {Ks = Ls} {K = L} two is') =
    let parts : (Ks ≡ Ls) × (a ≡ b) = all rules inside _ Ks Ls a b decided one two in
    let kind : K ≡ L = one_cut kinds (ap words.array_at parts.0) is is' in
    λ i. record (parts.1 i) { kind = kind i }

one_object : EqualTagsAreOneKind → (span : Span) (ps : Pairs) → HaveOne (judging.pair_values ps) → GivesOne span (syntax.object ps)
one_object kinds span ps all rules inside known j k decided (judging.an_object {j = a} {Ks = Ks} {K = K} one is) (judging.an_object {j = b} {Ks = Ls} {K = L} two is') =
    let parts : (Ks ≡ Ls) × (a ≡ b) = all rules inside _ Ks Ls a b decided one two in
    let kind : K ≡ L = one_cut kinds (ap (words.object_at (judging.pair_names ps)) parts.0) is is' in
    λ i. record (parts.1 i) { kind = kind i }

one_root : EqualTagsAreOneKind → (span : Span) (root : Root) (path : List Step) → GivesOne span (syntax.read root path)
one_root kinds span root path rules inside known j k decided (judging.a_known_root {K = K} is one) (judging.a_known_root {K = L} too two) =
    ap (λ M. gives M (Some known)) (one_read kinds (some_is K L (sym is ∙ too)) one two)
one_root kinds span root path rules inside known j k decided (judging.a_known_root {K = K} is one) (judging.an_unknown_root none) = let wrong : Some K ≡ None = sym is ∙ none in cc
one_root kinds span root path rules inside known j k decided (judging.an_unknown_root none) (judging.a_known_root {K = K} is one) = let wrong : Some K ≡ None = sym is ∙ none in cc
one_root kinds span root path rules inside known j k decided (judging.an_unknown_root none) (judging.an_unknown_root too) = refl

one_query : EqualTagsAreOneKind → (span : Span) (e : Expr) (path : List Step) → HasOne e → GivesOne span (syntax.query e path)
one_query kinds span e path has rules inside known j k decided (judging.a_query {j = a} {K = K} one is) (judging.a_query {j = b} {K = L} two is') =
    let same : a ≡ b = has rules inside (Some known) a b decided one two in
    let kind : K ≡ L = one_read kinds (λ i. (same i).kind) is is' in
    λ i. record (same i) { kind = kind i }

-- ---- what holds items

one_group : (span : Span) (e : Expr) → HasOne e → GivesOne span (syntax.group e)
one_group span e has rules inside known j k decided (judging.a_group one) (judging.a_group two) = has rules inside (Some known) j k decided one two

nothing_once : HaveOne no_exprs
nothing_once rules inside before Ks Ls j k decided judging.no_more judging.no_more = (refl, refl)

one_more_of : EqualTagsAreOneKind → (e : Expr) (es : Exprs) → HasOne e → HaveOne es → HaveOne (exprs e es)
one_more_of kinds e es has all rules inside before Ks Ls a b decided (judging.one_more {j = j} {middle = m} {Ks = Ms} one then more) (judging.one_more {j = k} {middle = n} {Ks = Ns} one' then' more') =
    let part = next_decided before j m a before k n b (behind_adds before j m then.behind) (all_goes more) (behind_adds before k n then'.behind) (all_goes more') (refl, refl) (judged_alike j k one one') decided in
    let same : j ≡ k = has rules inside before.ok j k part one one' in
    let next : m ≡ n = one_then kinds refl same then then' in
    let rest : (Ms ≡ Ns) × (a ≡ b) = all rules inside n Ms Ns a b decided (subst (λ x. JudgesAll rules inside x es Ms a) next more) more' in
    ((λ i. (same i).kind ∷ rest.0 i), rest.1)

one_block : EqualTagsAreOneKind → (es : Exprs) → HaveOne es → BlockHasOne es
one_block kinds es all rules inside None j k decided (judging.unreached_block one) (judging.unreached_block two) = ap (λ ts. judging.unreached_parts ts (closures_in_exprs es)) (one_unjudged decided one two)
one_block kinds es all rules inside (Some known) j k decided (judging.reached_block {Ks = Ks} {N = M} {j = a} null one) (judging.reached_block {Ks = Ls} {N = N} {j = b} null' two) =
    let kind : M ≡ N = one_cut kinds refl null null' in
    ap (λ x. settle (words.left known x)) (all rules inside (gives N (Some known)) Ks Ls a b decided (subst (λ K. JudgesAll rules inside (gives K (Some known)) es Ks a) kind one) two).1

block_once : {rules : OpenRules} {inside : Bool} {es : Exprs} {known known' : Option RootMap} {j k : Judgement} → IsDecided rules j k → BlockHasOne es → known ≡ known' → JudgesBlock rules inside known es j → JudgesBlock rules inside known' es k → j ≡ k
block_once {rules = rules} {inside = inside} {es = es} {known' = known'} {j = j} {k = k} decided has known one two = has rules inside known' j k decided (subst (λ s. JudgesBlock rules inside s es j) known one) two

one_block_form : (span : Span) (es : Exprs) → BlockHasOne es → GivesOne span (syntax.block es)
one_block_form span es has rules inside known j k decided (judging.a_block one) (judging.a_block two) = has rules inside (Some known) j k decided one two

one_arm : EqualTagsAreOneKind → (p : Expr) (es : Exprs) (gs : Arms) (otherwise : Else) → HasOne p → BlockHasOne es → ArmsHaveOne gs otherwise → ArmsHaveOne (arm p es gs) otherwise
one_arm kinds p es gs otherwise has block_has rest rules inside known ways a b decided
    (judging.an_arm {j = j} {with_predicate = m} {k = x} {with_branch = n} predicate tested branch joined more)
    (judging.an_arm {j = j'} {with_predicate = m'} {k = x'} {with_branch = n'} predicate' tested' branch' joined' more') =
    let first : Adds ways j m = record { empties = tested.empties; loops = tested.loops } in
    let first' : Adds ways j' m' = record { empties = tested'.empties; loops = tested'.loops } in
    let second = beside_adds m x n joined in
    let second' = beside_adds m' x' n' joined' in
    let on_test = next_decided ways j m a ways j' m' b first (goes_on m x n a second (arms_go more)) first' (goes_on m' x' n' b second' (arms_go more')) (refl, refl) (judged_alike j j' predicate predicate') decided in
    let same : j ≡ j' = has rules inside known j j' on_test predicate predicate' in
    let test : m ≡ m' = one_beside kinds refl (λ i. record (with_codes (words.of_predicate (span_of p) (same i)) (same i)) { kind = never_kind; ok = None }) tested tested' in
    let on_branch = next_decided m x n a m' x' n' b second (arms_go more) second' (arms_go more') (ap (λ w. length w.empties) test, ap (λ w. length w.loops) test) (blocks_alike x x' branch branch') decided in
    let taken : x ≡ x' = block_once on_branch block_has (λ i. (same i).ok) branch branch' in
    let next : n ≡ n' = one_beside kinds test taken joined joined' in
    rest rules inside j'.ok n' a b decided (subst (λ y. JudgesArms rules inside y.ok n' gs otherwise a) same (subst (λ y. JudgesArms rules inside j.ok y gs otherwise a) next more)) more'

one_else : EqualTagsAreOneKind → (es : Exprs) → BlockHasOne es → ArmsHaveOne no_arms (else_block es)
one_else kinds es has rules inside known ways a b decided (judging.an_else {k = j} one joined) (judging.an_else {k = k} two joined') =
    one_beside kinds refl (has rules inside known j k (both_decided ways j a ways k b (beside_adds ways j a joined) (beside_adds ways k b joined') (refl, refl) decided).1 one two) joined joined'

one_missing_else : EqualTagsAreOneKind → ArmsHaveOne no_arms no_else
one_missing_else kinds rules inside known ways a b decided (judging.a_missing_else null joined) (judging.a_missing_else null' joined') =
    one_beside kinds refl (ap (λ M. settle (gives M known)) (one_cut kinds refl null null')) joined joined'

one_conditional : (span : Span) (gs : Arms) (otherwise : Else) → ArmsHaveOne gs otherwise → GivesOne span (syntax.conditional gs otherwise)
one_conditional span gs otherwise has rules inside known j k decided (judging.a_conditional one) (judging.a_conditional two) = has rules inside (Some known) _ j k decided one two

-- ---- operators

one_negation : EqualTagsAreOneKind → (span : Span) (e : Expr) → HasOne e → GivesOne span (syntax.negation e)
one_negation kinds span e has rules inside known j k decided (judging.a_negation {j = a} {K = K} one is) (judging.a_negation {j = b} {K = L} two is') =
    let same : a ≡ b = has rules inside (Some known) a b decided one two in
    let kind : K ≡ L = one_cut kinds refl is is' in
    λ i. with_codes (words.when (words.is_other tag.Bool (same i)) (words.at 660 span)) (record (same i) { kind = kind i })

one_operands : EqualTagsAreOneKind → {rules : OpenRules} {inside : Bool} {known : RootMap} {l r : Expr} {j k whole j' k' whole' : Judgement} → IsDecided rules whole whole' → HasOne l → HasOne r → JudgesBoth rules inside known l r j k whole → JudgesBoth rules inside known l r j' k' whole' → (j ≡ j') × (k ≡ k') × (whole ≡ whole')
one_operands kinds {rules = rules} {inside = inside} {known = known} {j = j} {k = k} {whole = w} {j' = j'} {k' = k'} {whole' = w'} decided left right (judging.operands first second then) (judging.operands first' second' then') =
    let parts = two_decided j k w j' k' w' first first' (behind_adds j k w then.behind) (behind_adds j' k' w' then'.behind) decided in
    let one : j ≡ j' = left rules inside (Some known) j j' parts.0 first first' in
    let two : k ≡ k' = judged_once parts.1 right (λ i. (one i).ok) second second' in
    (one, two, one_then kinds one two then then')

-- an operator with a table is no comparison for equality
no_table : (o : Op) (table : Tag → Tag → Option Tag) → words.is_equality o ≡ true → judging.table_of o ≡ Some table → ⊥
no_table op.Equal table is too = let wrong : None ≡ Some table = too in cc
no_table op.Unequal table is too = let wrong : None ≡ Some table = too in cc
no_table o table is too = false≢true is

one_binary : EqualTagsAreOneKind → (span : Span) (o : Op) (l r : Expr) → HasOne l → HasOne r → GivesOne span (syntax.binary o l r)
one_binary kinds span o l r left right rules inside known g h decided (judging.an_equality {whole = w} {K = K} is both cut) (judging.an_equality {whole = w'} {K = K'} is' both' cut') =
    let same : w ≡ w' = (one_operands kinds decided left right both both').2 in
    let kind : K ≡ K' = one_cut kinds refl cut cut' in
    λ i. with_codes (words.chained span o l r) (record (same i) { kind = kind i })
one_binary kinds span o l r left right rules inside known g h decided (judging.of_table {table = t} {j = j} {k = k} {whole = w} {K = K} {fail = F} is both cut fails) (judging.of_table {table = t'} {j = j'} {k = k'} {whole = w'} {K = K'} {fail = F'} is' both' cut' fails') =
    let table : t ≡ t' = some_is t t' (sym is ∙ is') in
    let same : (j ≡ j') × (k ≡ k') × (w ≡ w') = one_operands kinds decided left right both both' in
    let kind : K ≡ K' = one_cut kinds (λ i. words.scalars_at (words.table_tags (table i) (same.0 i).kind (same.1 i).kind)) cut cut' in
    let fail : F ≡ F' = one_join kinds (λ i. (same.2 i).fail) (λ i. if_state (words.some_pair (λ a b. not (is_some (table i a b))) (same.0 i).kind (same.1 i).kind) (same.2 i).ok) fails fails' in
    λ i. words.of_pairs (table i) (same.0 i) (same.1 i) (with_codes (words.chained span o l r) (same.2 i)) (kind i) (fail i)
one_binary kinds span o l r left right rules inside known g h decided (judging.a_merge {j = j} {k = k} {whole = w} {K = K} both is) (judging.a_merge {j = j'} {k = k'} {whole = w'} {K = K'} both' is') =
    let same : (j ≡ j') × (k ≡ k') × (w ≡ w') = one_operands kinds decided left right both both' in
    let kind : K ≡ K' = one_merged kinds (λ i. (same.0 i).kind) (λ i. (same.1 i).kind) is is' in
    λ i. with_codes (words.no_objects (span_of l) (span_of r) (same.0 i) (same.1 i)) (record (same.2 i) { kind = kind i })
one_binary kinds span o l r left right rules inside known g h decided
    (judging.a_conjunction {j = j} {k = k} {whole = w} {K = K} A B {ok = T} {fail = F} first second behind is ends left_fails part_fails fails)
    (judging.a_conjunction {j = j'} {k = k'} {whole = w'} {K = K'} A' B' {ok = T'} {fail = F'} first' second' behind' is' ends' left_fails' part_fails' fails') =
    let truth : Judgement → Option RootMap = λ x. if_state (words.may_be_truth x.kind) x.ok in
    let no_truth : Judgement → Option RootMap = λ x. if_state (words.may_be_no_truth x.kind) x.ok in
    let failing : Judgement → Option RootMap = λ x. x.fail in
    let parts = two_decided j k w j' k' w' first first' (behind_adds j k w behind) (behind_adds j' k' w' behind') decided in
    let one : j ≡ j' = left rules inside (Some known) j j' parts.0 first first' in
    let two : k ≡ k' = judged_once parts.1 right (λ i. if_state (root_tags (one i).kind tag.Bool) (one i).ok) second second' in
    let whole : record w { fail = None } ≡ record w' { fail = None } = one_behind kinds one two behind behind' in
    let kind : K ≡ K' = one_cut kinds refl is is' in
    let ok : T ≡ T' = one_join kinds (ap truth one) (ap truth two) ends ends' in
    let left_fail : A ≡ A' = one_join kinds (ap failing one) (ap no_truth one) left_fails left_fails' in
    let part_fail : B ≡ B' = one_join kinds left_fail (ap failing two) part_fails part_fails' in
    let fail : F ≡ F' = one_join kinds part_fail (ap no_truth two) fails fails' in
    λ i. record (whole i) { kind = kind i; ok = ok i; fail = fail i }
one_binary kinds span o l r left right rules inside known g h decided
    (judging.a_disjunction {j = j} {k = k} {whole = w} {K = K} {ok = T} first second then is ends)
    (judging.a_disjunction {j = j'} {k = k'} {whole = w'} {K = K'} {ok = T'} first' second' then' is' ends') =
    let parts = two_decided j k w j' k' w' first first' (behind_adds j k w then.behind) (behind_adds j' k' w' then'.behind) decided in
    let one : j ≡ j' = left rules inside (Some known) j j' parts.0 first first' in
    let two : k ≡ k' = judged_once parts.1 right (λ i. if_state (words.may_be_truth (one i).kind) (one i).ok) second second' in
    let whole : w ≡ w' = one_then kinds one two then then' in
    let kind : K ≡ K' = one_cut kinds (λ i. words.or_else_at (one i).kind (two i).kind) is is' in
    let ok : T ≡ T' = one_join kinds (λ i. if_state (not (is_alone (root_tags (one i).kind) tag.Null)) (one i).ok) (λ i. (two i).ok) ends ends' in
    λ i. record (whole i) { kind = kind i; ok = ok i }
one_binary kinds span o l r left right rules inside known g h decided
    (judging.a_coalescing {j = j} {k = k} {whole = w} {K = K} {ok = T} first second behind is ends)
    (judging.a_coalescing {j = j'} {k = k'} {whole = w'} {K = K'} {ok = T'} first' second' behind' is' ends') =
    let parts = two_decided j k w j' k' w' first first' (behind_adds j k w behind) (behind_adds j' k' w' behind') decided in
    let one : j ≡ j' = left rules inside (Some known) j j' parts.0 first first' in
    let two : k ≡ k' = judged_once parts.1 right (λ i. (one i).fail) second second' in
    let whole : record w { fail = None } ≡ record w' { fail = None } = one_behind kinds one two behind behind' in
    let kind : K ≡ K' = one_either kinds (λ i. (one i).kind) (λ i. (two i).kind) is is' in
    let ok : T ≡ T' = one_join kinds (λ i. (one i).ok) (λ i. (two i).ok) ends ends' in
    λ i. with_codes (words.when (not ((one i).poisoned || words.is_fallible (one i))) (words.at 651 span)) (record (whole i) { kind = kind i; ok = ok i; fail = (two i).fail })
one_binary kinds span o l r left right rules inside known g h decided (judging.an_equality is both cut) (judging.of_table {table = t} too parts tags fails) = absurd (no_table o t is too)
one_binary kinds span o l r left right rules inside known g h decided (judging.of_table {table = t} too parts tags fails) (judging.an_equality is both cut) = absurd (no_table o t is too)
one_binary kinds span o l r left right rules inside known g h decided (judging.an_equality is both cut) two = absurd (false≢true is)
one_binary kinds span o l r left right rules inside known g h decided one (judging.an_equality is both cut) = absurd (false≢true is)
one_binary kinds span o l r left right rules inside known g h decided (judging.of_table {table = t} is both cut fails) two = let wrong : None ≡ Some t = is in cc
one_binary kinds span o l r left right rules inside known g h decided one (judging.of_table {table = t} is both cut fails) = let wrong : None ≡ Some t = is in cc

-- ---- assignments

one_written_end : EqualTagsAreOneKind → (span : Span) (t : Target) {j k : Judgement} {a b : Option RootMap} → j ≡ k → IsTargetWritten t j.kind j.ok a → IsTargetWritten t k.kind k.ok b
    → with_codes (words.of_assignment span t j) (record j { ok = a }) ≡ with_codes (words.of_assignment span t k) (record k { ok = b })
one_written_end kinds span t {a = a} {b = b} same one two =
    let ok : a ≡ b = one_written kinds t (λ i. (same i).kind) (λ i. (same i).ok) one two in
    λ i. with_codes (words.of_assignment span t (same i)) (record (same i) { ok = ok i })

one_assignment : EqualTagsAreOneKind → (span : Span) (t : Target) (e : Expr) → HasOne e → GivesOne span (syntax.assign t e)
one_assignment kinds span t e has rules inside known g h decided (judging.an_assignment {j = j} one written) (judging.an_assignment {j = k} two written') =
    one_written_end kinds span t (has rules inside (Some known) j k decided one two) written written'

one_merge_into_nothing : (span : Span) (e : Expr) → HasOne e → GivesOne span (syntax.merge Nowhere e)
one_merge_into_nothing span e has rules inside known g h decided (judging.a_merge_into_nothing {j = j} one) (judging.a_merge_into_nothing {j = k} two) =
    ap (with_codes (words.at 640 span)) (has rules inside (Some known) j k decided one two)

-- `t |= e` is judged as `t = t | e`
one_merge_assignment : EqualTagsAreOneKind → (span place : Span) (root : Root) (path : List Step) (e : Expr) → HasOne e → GivesOne span (syntax.merge (Place place root path) e)
one_merge_assignment kinds span place root path e has rules inside known g h decided (judging.a_merge_assignment {j = j} one written) (judging.a_merge_assignment {j = k} two written') =
    let target : HasOne (expr place (syntax.read root path)) = settled_once place (syntax.read root path) (one_root kinds place root path) in
    let merged : HasOne (expr span (syntax.binary op.Merge (expr place (syntax.read root path)) e)) = settled_once span _ (one_binary kinds span op.Merge _ e target has) in
    one_written_end kinds span (Place place root path) (merged rules inside (Some known) j k decided one two) written written'

-- the empty value of one error assignment before others
others_decided : {rules : OpenRules} {a b : Tag} {ts us : List Tag} {ls ms : List (Option Loop)} → AreDecided rules (a ∷ ts) (b ∷ us) ls ms → AreDecided rules ts us ls ms
others_decided (by_rules decided) = by_rules decided
others_decided {ts = ts} {us = us} (by_given no_tries same have) =
    let rest : ts ≡ us = cc in
    by_given no_tries rest have

one_tag_of : {rules : OpenRules} {a b : Tag} {ts us : List Tag} {ls ms : List (Option Loop)} (K : KindTree) → AreDecided rules (a ∷ ts) (b ∷ us) ls ms → rules.empty K a ≡ true → rules.empty K b ≡ true → a ≡ b
one_tag_of {a = a} {b = b} K (by_rules decided) may may' = decided.tag K a b may may'
one_tag_of K (by_given no_tries same have) may may' = cc

one_error_assignment : EqualTagsAreOneKind → (span : Span) (t u : Target) (e : Expr) → HasOne e → GivesOne span (syntax.both t u e)
one_error_assignment kinds span t u e has rules inside known g h decided
    (judging.an_error_assignment {j = j} a {E = E} {K = K} {N = N} {T = T} A B C D {ok = O} one may is either is_null is_text given_t given_u failed_t failed_u ends)
    (judging.an_error_assignment {j = k} b {E = E'} {K = K'} {N = N'} {T = T'} A' B' C' D' {ok = O'} two may' is' either' is_null' is_text' given_t' given_u' failed_t' failed_u' ends') =
    let same : j ≡ k = has rules inside (Some known) j k (others_decided decided) one two in
    let kind : j.kind ≡ k.kind = λ i. (same i).kind in
    let one_tag : a ≡ b = one_tag_of k.kind decided (subst (λ M. rules.empty M a ≡ true) kind may) may' in
    let empty : E ≡ E' = one_cut kinds (ap (λ x. found_at (empty_value x)) one_tag) is is' in
    let value : K ≡ K' = one_either kinds kind empty either either' in
    let null : N ≡ N' = one_cut kinds refl is_null is_null' in
    let text : T ≡ T' = one_cut kinds refl is_text is_text' in
    let given : A ≡ A' = one_written kinds t kind (λ i. (same i).ok) given_t given_t' in
    let given_both : B ≡ B' = one_written kinds u null given given_u given_u' in
    let failed : C ≡ C' = one_written kinds t empty (λ i. (same i).fail) failed_t failed_t' in
    let failed_both : D ≡ D' = one_written kinds u text failed failed_u failed_u' in
    let ok : O ≡ O' = one_join kinds given_both failed_both ends ends' in
    λ i. with_codes (words.of_error_assignment span t u (same i) (value i)) (record (same i) { kind = value i; ok = ok i; fail = None; empties = one_tag i ∷ (same i).empties })

-- ---- ends

one_return : EqualTagsAreOneKind → (span : Span) (e : Expr) → HasOne e → GivesOne span (syntax.return_of e)
one_return kinds span e has rules inside known g h decided (judging.a_return {j = j} {ret = A} {R = R} one ends is) (judging.a_return {j = k} {ret = B} {R = S} two ends' is') =
    let same : j ≡ k = has rules inside (Some known) j k decided one two in
    let ret : A ≡ B = one_join kinds (λ i. (same i).ret) (λ i. (same i).ok) ends ends' in
    let returned : R ≡ S = one_either kinds (λ i. (same i).returned) (λ i. words.settled_kind false (is_alive (same i).ok) (same i).kind) is is' in
    λ i. with_codes (words.when inside (words.at 1004 span)) (record (same i) { kind = never_kind; ok = if_state inside (same i).ok; ret = ret i; returned = returned i })

one_abort : (span : Span) → GivesOne span (syntax.abort_with no_message)
one_abort span rules inside known g h decided judging.an_abort judging.an_abort = refl

one_abort_with : (span : Span) (e : Expr) → HasOne e → GivesOne span (syntax.abort_with (message e))
one_abort_with span e has rules inside known g h decided (judging.an_abort_with {j = j} one) (judging.an_abort_with {j = k} two) =
    ap (λ (x : Judgement). with_codes (words.when (words.is_fallible x || words.is_other tag.Text x) (words.at 1011 (span_of e))) (record x { kind = never_kind; ok = None })) (has rules inside (Some known) j k decided one two)

-- ---- every form

mutual
  one_judgement : EqualTagsAreOneKind → NamesTell → (e : Expr) → HasOne e
  one_judgement kinds names (expr span f) = settled_once span f (one_given kinds names span f)

  one_given : EqualTagsAreOneKind → NamesTell → (span : Span) (f : Form) → GivesOne span f
  one_given kinds names span (syntax.literal v) = one_literal kinds span v
  one_given kinds names span (syntax.array es) = one_array kinds span es (all_judged_once kinds names es)
  one_given kinds names span (syntax.object ps) = one_object kinds span ps (pairs_judged_once kinds names ps)
  one_given kinds names span (syntax.read root path) = one_root kinds span root path
  one_given kinds names span (syntax.query e path) = one_query kinds span e path (one_judgement kinds names e)
  one_given kinds names span (syntax.group e) = one_group span e (one_judgement kinds names e)
  one_given kinds names span (syntax.block es) = one_block_form span es (one_block kinds es (all_judged_once kinds names es))
  one_given kinds names span (syntax.conditional gs otherwise) = one_conditional span gs otherwise (arms_judged_once kinds names gs otherwise (else_judged_once kinds names otherwise))
  one_given kinds names span (syntax.negation e) = one_negation kinds span e (one_judgement kinds names e)
  one_given kinds names span (syntax.binary o l r) = one_binary kinds span o l r (one_judgement kinds names l) (one_judgement kinds names r)
  one_given kinds names span (syntax.assign t e) = one_assignment kinds span t e (one_judgement kinds names e)
  one_given kinds names span (syntax.merge Nowhere e) = one_merge_into_nothing span e (one_judgement kinds names e)
  one_given kinds names span (syntax.merge (Place place root path) e) = one_merge_assignment kinds span place root path e (one_judgement kinds names e)
  one_given kinds names span (syntax.both t u e) = one_error_assignment kinds span t u e (one_judgement kinds names e)
  one_given kinds names span (syntax.call name place bang gs block) = one_call kinds names span name place bang gs block (arguments_judged_once kinds names gs) (closure_judged_once kinds names block)
  one_given kinds names span (syntax.return_of e) = one_return kinds span e (one_judgement kinds names e)
  one_given kinds names span (syntax.abort_with no_message) = one_abort span
  one_given kinds names span (syntax.abort_with (message e)) = one_abort_with span e (one_judgement kinds names e)

  all_judged_once : EqualTagsAreOneKind → NamesTell → (es : Exprs) → HaveOne es
  all_judged_once kinds names no_exprs = nothing_once
  all_judged_once kinds names (exprs e es) = one_more_of kinds e es (one_judgement kinds names e) (all_judged_once kinds names es)

  arguments_judged_once : EqualTagsAreOneKind → NamesTell → (gs : Args) → ArgumentsHaveOne gs
  arguments_judged_once kinds names no_args = no_arguments_once
  arguments_judged_once kinds names (arg name span e gs) = one_more_argument_of kinds name span e gs (one_judgement kinds names e) (arguments_judged_once kinds names gs)

  closure_judged_once : EqualTagsAreOneKind → NamesTell → (block : Closure) → ClosureHasOne block
  closure_judged_once kinds names no_closure = tt
  closure_judged_once kinds names (closure bars es span) = one_block kinds es (all_judged_once kinds names es)

  pairs_judged_once : EqualTagsAreOneKind → NamesTell → (ps : Pairs) → HaveOne (judging.pair_values ps)
  pairs_judged_once kinds names no_pairs = nothing_once
  pairs_judged_once kinds names (pair name e ps) = one_more_of kinds e (judging.pair_values ps) (one_judgement kinds names e) (pairs_judged_once kinds names ps)

  arms_judged_once : EqualTagsAreOneKind → NamesTell → (gs : Arms) (otherwise : Else) → ArmsHaveOne no_arms otherwise → ArmsHaveOne gs otherwise
  arms_judged_once kinds names no_arms otherwise last = last
  arms_judged_once kinds names (arm p es gs) otherwise last = one_arm kinds p es gs otherwise (one_judgement kinds names p) (one_block kinds es (all_judged_once kinds names es)) (arms_judged_once kinds names gs otherwise last)

  else_judged_once : EqualTagsAreOneKind → NamesTell → (otherwise : Else) → ArmsHaveOne no_arms otherwise
  else_judged_once kinds names no_else = one_missing_else kinds
  else_judged_once kinds names (else_block es) = one_else kinds es (one_block kinds es (all_judged_once kinds names es))

-- ---- scripts

items_once : EqualTagsAreOneKind → NamesTell → (rules : OpenRules) (es : Exprs) (before j k : Judgement) → IsDecided rules j k → JudgesItems rules before es j → JudgesItems rules before es k → j ≡ k
items_once kinds names rules no_exprs before j k decided judging.no_more_items judging.no_more_items = refl
items_once kinds names rules (exprs e es) before a b decided (judging.one_more_item {j = j} {middle = m} one then more) (judging.one_more_item {j = k} {middle = n} two then' more') =
    let first : Adds before j m = record { empties = then.behind.empties; loops = then.behind.loops } in
    let first' : Adds before k n = record { empties = then'.behind.empties; loops = then'.behind.loops } in
    let part = next_decided before j m a before k n b first (items_go more) first' (items_go more') (refl, refl) (judged_alike j k one two) decided in
    let same : j ≡ k = one_judgement kinds names e rules false before.ok j k part one two in
    let next : m ≡ n = one_then kinds refl (λ i. with_codes (judging.of_item (span_of e) (same i)) (same i)) then then' in
    items_once kinds names rules es n a b decided (subst (λ x. JudgesItems rules x es a) next more) more'

one_script : EqualTagsAreOneKind → NamesTell → (rules : OpenRules) (start : KindTree) (items : Exprs) (j k : Judgement) → IsDecided rules j k → JudgesScript rules start items j → JudgesScript rules start items k → j ≡ k
one_script kinds names rules start items j k decided (judging.a_script {N = M} {state = s} {j = a} is null one) (judging.a_script {N = N} {state = t} {j = b} too null' two) =
    let kind : M ≡ N = one_cut kinds refl null null' in
    let roots : is.roots ≡ too.roots = same_roots is.roots too.roots (one_cut_by start is.roots.event too.roots.event is.event too.event) (λ x. ap (λ v. map.get v x) (is.variables ∙ sym too.variables)) in
    let known : s.known ≡ t.known = is.known ∙ ap Some roots ∙ sym too.known in
    ap settle (items_once kinds names rules items (gives N t.known) a b decided (subst (λ K. JudgesItems rules (gives K t.known) items a) kind (subst (λ x. JudgesItems rules (gives M x) items a) known one)) two)

-- two tags that are the same
one_tag_alone : (t u : Tag) → same_tag t u ≡ true → t ≡ u
one_tag_alone tag.Text tag.Text same = refl
one_tag_alone tag.Int tag.Int same = refl
one_tag_alone tag.Bool tag.Bool same = refl
one_tag_alone tag.Null tag.Null same = refl
one_tag_alone tag.Time tag.Time same = refl
one_tag_alone tag.Pattern tag.Pattern same = refl
one_tag_alone tag.List tag.List same = refl
one_tag_alone tag.Object tag.Object same = refl
one_tag_alone tag.Absent tag.Absent same = refl
one_tag_alone t u same = absurd (false≢true same)

language_decides : (sources : List (List ℕ)) → LeaveNothingOpen (language_rules sources)
language_decides sources = record {
  tag = λ K t u is too. sym (one_tag_alone (words.empty_tag K) t is) ∙ one_tag_alone (words.empty_tag K) u too;
  unjudged = λ t u is too. sym (one_tag_alone tag.Null t is) ∙ one_tag_alone tag.Null u too;
  loop = λ loop. refl;
}

pub one_judgement_each : EqualTagsAreOneKind → FunctionsAreFound → FormsAreNoFunctions → JudgementsAreDetermined
one_judgement_each kinds names forms = record {
  script = λ rules decided start items j k. one_script kinds (names, forms) rules start items j k (by_rules decided);
  given = λ rules no_tries start items j k one two same have. one_script kinds (names, forms) rules start items j k (by_given no_tries same have) one two;
  kind = λ K L M N. one_cut kinds refl;
  join = one_join_of kinds;
  language = language_decides;
}
