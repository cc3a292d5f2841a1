-- The judgement of a form, from what its parts were judged to be.
use Rattle.std.proofs.Common.{◌≡◌, ◌≢◌, Bool, true, ◌||◌, ◌&&◌, not, List, Option, Some, None, is_some, refl, sym, ap, ◌∙◌, subst}
use Rattle.vrl_diag.specs.declared.diagnostic.Span.{Span}
use Rattle.vrl_kind.specs.Canonical.{any_kind}
use Rattle.vrl_kind.specs.KindTree.{KindTree}
use Rattle.vrl_kind.specs.Kinds.{found_at, root_tags}
use Rattle.vrl_place.specs.Sets.{is_alone}
use Rattle.vrl_path.specs.declared.path.Step.{Step}
use Rattle.vrl_state.specs.States.{kind_in, kind_of, IsCutOf, IsEntered, IsRootKind, RootMap}
use Rattle.vrl_syntax.specs.ErrorAssignments.{in_expr, in_exprs}
use Rattle.vrl_syntax.specs.Tree.{Expr, expr, Form, literal, read, query, group, block, negation, binary, Exprs, span_of}
use Rattle.vrl_syntax.specs.declared.root.Op.{Op}
use Rattle.vrl_syntax.specs.declared.root.Root.{Root}
use Rattle.vrl_value.specs.Tree.{Tree}
use Rattle.vrl_judge.specs.Rules.{Judgement, IsReadAt, at, chained, gives, is_alive, is_compared, is_comparison, is_equality, is_other, left, no_objects, of_pairs, settle, with_codes, when}
use Rattle.vrl_check.specs.Judgement.{of_item, table_of, unreached_parts}
use Rattle.vrl_check.specs.Loops.{closures_in_expr, closures_in_exprs}
use Rattle.vrl_check.specs.Judgement.{Judges, unreached, reached, a_literal, a_known_root, an_unknown_root, a_query, a_group, a_block, a_negation, an_equality, of_table, a_merge, JudgesBoth, operands, JudgesBlock, unreached_block, reached_block, JudgesAll}
use Rattle.vrl_check.specs.Walking.{nulls, AreBoth, IsAnywhereAs, IsBesideAs, IsBlockAs, IsGivenAs, IsItemAs, IsJudgedAs, IsSequenceAs}
use Rattle.vrl_judge.specs.Judging.{AreEnds, ArePairedAs, HasEnds, HasJudged, HaveCommonScopes, IsBlockEndAs, IsCombinedAs, IsEquatedAs, IsInBlock, IsMergedAs, IsNegatedAs, IsReadOffAs, IsReported, IsSettledAs, no_ends, table_rule}
use Rattle.vrl_judge.specs.declared.checker.Checker.{Checker}
use Rattle.vrl_judge.specs.declared.ends.Ends.{Ends}
use Rattle.vrl_judge.specs.declared.operators.Operands.{Operands}
use Rattle.vrl_judge.specs.declared.finding.Finding.{Finding}
use Rattle.vrl_judge.specs.declared.tables.Table.{Table}
use Rattle.vrl_judge.proofs.Parts.{fails_as, reported_judged}
use Rattle.vrl_judge.proofs.Gathering.{value_ends, value_gathered}
use Rattle.vrl_judge.proofs.RootKinds.{read_root, value_root}
use Rattle.vrl_check.proofs.Passed.{nulls_allowed}
use Rattle.vrl_check.proofs.Told.{judges_at}
use Rattle.vrl_judge.proofs.Joining.{common}
use Rattle.vrl_judge.proofs.Forms.{other_of, paired}
use Rattle.vrl_syntax.specs.declared.root.Op.TheVariants as op
use Rattle.vrl_value.specs.declared.value.Tag.TheVariants as tag
use Rattle.vrl_check.specs.OpenRules.{language_rules}

-- an finding is its kind and its ends
pub finding_is : (o : Finding) (K : KindTree) (e : Ends) → o.kind ≡ K → o.ends ≡ e → o ≡ record { kind = K; ends = e }
finding_is o K e kind ends = λ i. record { kind = kind i; ends = ends i }

-- the ends of a part stand in the scopes behind it
pub here_are : (before after : Checker) (part : Finding) (j : Judgement) → HasJudged before after part j → AreEnds after.state.scopes part.ends
here_are before after part j has = subst (λ s. AreEnds s part.ends) (sym has.gathered.scopes) has.ends.are

-- ---- an expression

-- where no way leads to it
pub expr_passed : (e : Expr) (before after : Checker) (finding : Finding) → before.state.known ≡ None → HasJudged before after finding (record (unreached_parts (nulls (in_expr e)) (closures_in_expr e)) { ok = before.state.known }) → IsJudgedAs e before after finding
expr_passed e before after finding dead has =
    let j = unreached_parts (nulls (in_expr e)) (closures_in_expr e) in
    (j, subst (λ k. Judges (language_rules before.patterns.now) before.inside k e j) (sym dead) (unreached (nulls_allowed before.patterns.now (in_expr e))), subst (λ k. HasJudged before after finding (record j { ok = k })) dead has)

-- where one does
pub expr_reached : (e : Expr) (span : Span) (f : Form) (before after : Checker) (part finding : Finding) → e ≡ expr span f → before.state.known ≢ None → IsGivenAs span f before after part → IsSettledAs part after finding → IsJudgedAs e before after finding
expr_reached e span f before after part finding is alive given settles = by before.state.known refl where
  by : (known : Option RootMap) → before.state.known ≡ known → IsJudgedAs e before after finding
  by None dead = absurd (alive dead)
  by (Some known) here =
      let form = given known here in
      (settle form.0, subst (λ k. Judges (language_rules before.patterns.now) before.inside k e (settle form.0)) (sym here) (subst (λ x. Judges (language_rules before.patterns.now) before.inside (Some known) x (settle form.0)) (sym is) (reached form.1)), settles before form.0 form.2)

-- ---- values

-- a value alone
pub value_judged : (before : Checker) (finding : Finding) (K : KindTree) (known : RootMap) → before.state.known ≡ Some known → finding.kind ≡ K → finding.ends ≡ no_ends → IsRootKind K → HasJudged before before finding (gives K (Some known))
value_judged before finding K known alive is none root = subst (λ k. HasJudged before before finding (gives K k)) alive (record {
  kind = is;
  root = root;
  ends = subst (λ e. HasEnds before.state.scopes e (gives K before.state.known)) (sym none) (value_ends before K);
  gathered = value_gathered before K;
})

pub literal_given : (v : Tree) (before : Checker) (finding : Finding) (K : KindTree) → IsCutOf (found_at v) K → finding.kind ≡ K → finding.ends ≡ no_ends → IsAnywhereAs (literal v) before before finding
literal_given v before finding K cut is none span known alive = (gives K (Some known), a_literal cut, value_judged before finding K known alive is none (value_root v K cut))

pub read_given : (span : Span) (root : Root) (path : List Step) (before : Checker) (finding : Finding) (K M : KindTree) → Some K ≡ kind_in root before.state.known → IsRootKind K → IsReadAt K path M → finding.kind ≡ M → finding.ends ≡ no_ends
    → IsGivenAs span (read root path) before before finding
read_given span root path before finding K M found root_kind at_path is none known alive =
    let here : kind_of root known ≡ Some K = ap (kind_in root) (sym alive) ∙ sym found in
    (gives M (Some known), a_known_root here at_path, value_judged before finding M known alive is none (read_root K path M at_path root_kind.present))

pub unknown_given : (span : Span) (root : Root) (path : List Step) (before after : Checker) (finding : Finding) → None ≡ kind_in root before.state.known → HasJudged before after finding (with_codes (at 701 span) (gives any_kind before.state.known))
    → IsGivenAs span (read root path) before after finding
unknown_given span root path before after finding found has known alive =
    let here : kind_of root known ≡ None = ap (kind_in root) (sym alive) ∙ sym found in
    (with_codes (at 701 span) (gives any_kind (Some known)), an_unknown_root here, subst (λ k. HasJudged before after finding (with_codes (at 701 span) (gives any_kind k))) alive has)

pub read_judged : (path : List Step) (before : Checker) (finding : Finding) (K M : KindTree) → IsRootKind K → IsReadAt K path M → finding.kind ≡ M → finding.ends ≡ no_ends → (j : Judgement) × HasJudged before before finding j
read_judged path before finding K M root_kind at_path is none = (
  gives M before.state.known,
  record {
    kind = is;
    root = read_root K path M at_path root_kind.present;
    ends = subst (λ e. HasEnds before.state.scopes e (gives M before.state.known)) (sym none) (value_ends before M);
    gathered = value_gathered before M;
  },
)

pub query_given : (e : Expr) (path : List Step) (before after : Checker) (part finding : Finding) → IsJudgedAs e before after part → IsReadOffAs path part after finding → IsAnywhereAs (query e path) before after finding
query_given e path before after part finding judged off span known alive =
    let whole = off before judged.0 judged.2 in
    (record judged.0 { kind = whole.0 }, a_query (subst (λ k. Judges (language_rules before.patterns.now) before.inside k e judged.0) alive judged.1) whole.1, whole.2)

pub group_given : (e : Expr) (before after : Checker) (finding : Finding) → IsJudgedAs e before after finding → IsAnywhereAs (group e) before after finding
group_given e before after finding judged span known alive = (judged.0, a_group (subst (λ k. Judges (language_rules before.patterns.now) before.inside k e judged.0) alive judged.1), judged.2)

-- ---- blocks

pub block_given : (es : Exprs) (before after : Checker) (finding : Finding) → IsBlockAs es before after finding → IsAnywhereAs (block es) before after finding
block_given es before after finding judged span known alive = (judged.0, a_block (subst (λ k. JudgesBlock (language_rules before.patterns.now) before.inside k es judged.0) alive judged.1), judged.2)

pub block_passed : (es : Exprs) (before after : Checker) (finding : Finding) → before.state.known ≡ None → HasJudged before after finding (record (unreached_parts (nulls (in_exprs es)) (closures_in_exprs es)) { ok = before.state.known }) → IsBlockAs es before after finding
block_passed es before after finding dead has =
    let j = unreached_parts (nulls (in_exprs es)) (closures_in_exprs es) in
    (j, subst (λ k. JudgesBlock (language_rules before.patterns.now) before.inside k es j) (sym dead) (unreached_block (nulls_allowed before.patterns.now (in_exprs es))), subst (λ k. HasJudged before after finding (record j { ok = k })) dead has)

pub block_reached : (es : Exprs) (before entered now after : Checker) (part finding : Finding) → before.state.known ≢ None → IsEntered before.state entered.state → entered.diagnostics ≡ before.diagnostics → entered.empties ≡ before.empties → entered.loops ≡ before.loops → entered.patterns ≡ before.patterns → entered.inside ≡ before.inside
    → IsSequenceAs es entered now part → IsBlockEndAs part now after finding → IsBlockAs es before after finding
block_reached es before entered now after part finding alive enters same_codes same_empties same_loops same_patterns same_inside sequence ends_block = by before.state.known refl where
  by : (known : Option RootMap) → before.state.known ≡ known → IsBlockAs es before after finding
  by None dead = absurd (alive dead)
  by (Some known) here =
      let all = sequence known (enters.known ∙ here) in
      let judged = subst (λ b. JudgesAll (language_rules before.patterns.now) b (gives all.0 (Some known)) es all.1 all.2) same_inside (subst (λ ps. JudgesAll (language_rules ps.now) entered.inside (gives all.0 (Some known)) es all.1 all.2) same_patterns all.4) in (
        settle (left known all.2),
        subst (λ k. JudgesBlock (language_rules before.patterns.now) before.inside k es (settle (left known all.2))) (sym here) (reached_block all.3 judged),
        ends_block before entered known all.2 here enters same_codes same_empties same_loops same_patterns same_inside all.5,
      )

-- the items of an open block
pub in_block : (es : Exprs) (before entered now : Checker) (part : Finding) → before.state.known ≢ None → IsEntered before.state entered.state → IsSequenceAs es entered now part → IsInBlock now part
in_block es before entered now part alive enters sequence = by before.state.known refl where
  by : (known : Option RootMap) → before.state.known ≡ known → IsInBlock now part
  by None dead = absurd (alive dead)
  by (Some known) here =
      let all = sequence known (enters.known ∙ here) in
      record {
        scope = enters.scope;
        scopes = before.state.scopes;
        opened = all.5.gathered.scopes ∙ enters.scopes;
        ends = subst (λ s. AreEnds s part.ends) enters.scopes all.5.ends.are;
      }

-- ---- operators

pub negation_given : (span : Span) (e : Expr) (before now after : Checker) (part finding : Finding) → IsJudgedAs e before now part → IsNegatedAs span part now after finding → IsGivenAs span (negation e) before after finding
negation_given span e before now after part finding judged negates known alive =
    let whole = negates before judged.0 judged.2 in
    (with_codes (when (is_other tag.Bool judged.0) (at 660 span)) (record judged.0 { kind = whole.0 }), a_negation (subst (λ k. Judges (language_rules before.patterns.now) before.inside k e judged.0) alive judged.1) whole.1, whole.2)

-- two operands
pub operands_given : (l r : Expr) (before now after : Checker) (first : Finding) (parts : Operands) → IsJudgedAs l before now first → IsBesideAs r first now after parts → AreBoth l r before after parts
operands_given l r before now after first parts judged beside =
    let both = beside before judged.0 judged.2 in
    (judged.0, both.0, both.1, judged.1, subst (λ k. Judges (language_rules before.patterns.now) before.inside k r both.0) judged.2.gathered.ok both.2, both.3, both.4)

both_judged : (l r : Expr) (before after : Checker) (parts : Operands) (known : RootMap) (both : AreBoth l r before after parts) → before.state.known ≡ Some known → JudgesBoth (language_rules before.patterns.now) before.inside known l r both.0 both.1 both.2
both_judged l r before after parts known both alive = operands (subst (λ k. Judges (language_rules before.patterns.now) before.inside k l both.0) alive both.3) both.4 both.5

pub beside_given : (r : Expr) (now after : Checker) (first second : Finding) (other : Bool) (parts : Operands) → other ≡ (is_some now.state.known && not first.ends.poisoned && not (is_alone (root_tags first.kind) tag.Object))
    → IsJudgedAs r now after second → ArePairedAs first other second after parts → IsBesideAs r first now after parts
beside_given r now after first second other parts is judged paired before j has =
    let both = paired before now j judged.0 has (other_of tag.Object before now first j other has is) judged.2 in
    (judged.0, both.0, judges_at before now now.state.known r judged.0 has.gathered.patterns has.gathered.inside refl judged.1, both.1, both.2)

pub both_common : (now after : Checker) (first second : Finding) (r : Expr) → AreEnds now.state.scopes first.ends → IsJudgedAs r now after second → HaveCommonScopes first.ends second.ends
both_common now after first second r are judged = common now.state.scopes first.ends second.ends are judged.2.ends.are

pub equality_given : (span : Span) (o : Op) (l r : Expr) (before now after : Checker) (stands : Bool) (parts : Operands) (finding : Finding) → is_equality o ≡ true → stands ≡ (is_comparison o && (is_compared l || is_compared r))
    → AreBoth l r before now parts → IsEquatedAs span stands parts now after finding → IsGivenAs span (binary o l r) before after finding
equality_given span o l r before now after stands parts finding equal is both equates known alive =
    let whole = equates before both.0 both.1 both.2 both.6 in (
      with_codes (chained span o l r) (record both.2 { kind = whole.0 }),
      an_equality equal (both_judged l r before now parts known both alive) whole.1,
      subst (λ b. HasJudged before after finding (with_codes (when b (at 650 span)) (record both.2 { kind = whole.0 }))) is whole.2,
    )

pub table_given : (span : Span) (o : Op) (t : Table) (l r : Expr) (before now after : Checker) (stands : Bool) (parts : Operands) (finding : Finding) → table_of o ≡ Some (table_rule t) → stands ≡ (is_comparison o && (is_compared l || is_compared r))
    → AreBoth l r before now parts → IsCombinedAs span t stands parts now after finding → IsGivenAs span (binary o l r) before after finding
table_given span o t l r before now after stands parts finding rule is both combines known alive =
    let whole = combines before both.0 both.1 both.2 both.6 in (
      of_pairs (table_rule t) both.0 both.1 (with_codes (chained span o l r) both.2) whole.0 whole.1,
      of_table rule (both_judged l r before now parts known both alive) whole.2 whole.3,
      subst (λ b. HasJudged before after finding (of_pairs (table_rule t) both.0 both.1 (with_codes (when b (at 650 span)) both.2) whole.0 whole.1)) is whole.4,
    )

pub operands_are : (l r : Expr) (before now : Checker) (parts : Operands) → AreBoth l r before now parts → AreEnds now.state.scopes parts.ends
operands_are l r before now parts both = subst (λ s. AreEnds s parts.ends) (sym both.6.gathered.scopes) both.6.ends.are

-- ---- merges

pub merge_given : (l r : Expr) (left_span right_span : Span) (before now after : Checker) (parts : Operands) (finding : Finding) → left_span ≡ span_of l → right_span ≡ span_of r → AreBoth l r before now parts → IsMergedAs left_span right_span parts now after finding
    → IsAnywhereAs (binary op.Merge l r) before after finding
merge_given l r left_span right_span before now after parts finding left_is right_is both merges span known alive =
    let whole = merges before both.0 both.1 both.2 both.6 in (
      with_codes (no_objects (span_of l) (span_of r) both.0 both.1) (record both.2 { kind = whole.0 }),
      a_merge (both_judged l r before now parts known both alive) whole.1,
      subst (λ s. HasJudged before after finding (with_codes (no_objects s (span_of r) both.0 both.1) (record both.2 { kind = whole.0 }))) left_is
          (subst (λ s. HasJudged before after finding (with_codes (no_objects left_span s both.0 both.1) (record both.2 { kind = whole.0 }))) right_is whole.2),
    )

-- a place that is read, as the left side
pub place_judged : (place : Span) (root : Root) (path : List Step) (before now : Checker) (known : RootMap) (part finding : Finding) → before.state.known ≡ Some known → IsGivenAs place (read root path) before now part → IsSettledAs part now finding
    → IsJudgedAs (expr place (read root path)) before now finding
place_judged place root path before now known part finding alive given settles =
    expr_reached (expr place (read root path)) place (read root path) before now part finding refl (λ dead. let some : Some known ≡ None = sym alive ∙ dead in cc) given settles

pub merge_into_given : (e : Expr) (place right_span : Span) (root : Root) (path : List Step) (before now middle after : Checker) (part first : Finding) (parts : Operands) (finding : Finding) → right_span ≡ span_of e
    → IsGivenAs place (read root path) before now part → IsSettledAs part now first → IsBesideAs e first now middle parts → IsMergedAs place right_span parts middle after finding
    → IsAnywhereAs (binary op.Merge (expr place (read root path)) e) before after finding
merge_into_given e place right_span root path before now middle after part first parts finding right_is given settles beside merges span known alive =
    let l = expr place (read root path) in
    let judged = place_judged place root path before now known part first alive given settles in
    merge_given l e place right_span before middle after parts finding refl right_is (operands_given l e before now middle first parts judged beside) merges span known alive

-- whether a way leads there or not
pub merge_into_judged : (e : Expr) (place right_span : Span) (before now middle after : Checker) (part first : Finding) (parts : Operands) (finding : Finding) (j : Judgement)
    → HasJudged before now part j → IsSettledAs part now first → IsBesideAs e first now middle parts → IsMergedAs place right_span parts middle after finding → (k : Judgement) × HasJudged before after finding k
merge_into_judged e place right_span before now middle after part first parts finding j has settles beside merges =
    let both = beside before (settle j) (settles before j has) in
    let whole = merges before (settle j) both.0 both.1 both.4 in
    (with_codes (no_objects place right_span (settle j) both.0) (record both.1 { kind = whole.0 }), whole.2)

-- what was read stands in the scopes
pub place_are : (before now : Checker) (part first : Finding) (j : Judgement) → HasJudged before now part j → IsSettledAs part now first → AreEnds now.state.scopes first.ends
place_are before now part first j has settles = here_are before now first (settle j) (settles before j has)

-- ---- items of a script

pub item_judged : (e : Expr) (span : Span) (before now after : Checker) (part : Finding) (stands : Bool) (new : Ends) → span ≡ span_of e → stands ≡ is_some part.ends.fail → IsJudgedAs e before now part → IsReported (when stands (at 100 span)) now after part.ends new
    → IsItemAs e before after (record { kind = part.kind; ends = new })
item_judged e span before now after part stands new here stands_is judged told =
    let j = judged.0 in
    let has = judged.2 in
    let fallible : stands ≡ is_alive j.fail = stands_is ∙ fails_as before.state.scopes part.ends j has.ends in
    let told_so = subst (λ s. IsReported (when (is_alive j.fail) (at 100 s)) now after part.ends new) here (subst (λ b. IsReported (when b (at 100 span)) now after part.ends new) fallible told) in
    (j, judged.1, reported_judged (of_item (span_of e) j) before now after part (record { kind = part.kind; ends = new }) j told_so refl has)
