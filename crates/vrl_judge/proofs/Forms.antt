-- The judgement of a form, from what its parts were judged to be.
use Rattle.std.proofs.Common.{◌≡◌, Bool, true, false, ◌||◌, ◌&&◌, not, ℕ, List, ◌∷◌, ◌++◌, is_some, option_map, refl, sym, ap, ap₂, ◌∙◌, subst}
use Rattle.vrl_diag.specs.declared.diagnostic.Diagnostic.{Diagnostic}
use Rattle.vrl_diag.specs.declared.diagnostic.Span.{Span}
use Rattle.vrl_kind.specs.Canonical.{any_kind}
use Rattle.vrl_kind.specs.KindTree.{KindTree}
use Rattle.vrl_kind.specs.Kinds.{root_tags}
use Rattle.vrl_place.specs.Sets.{is_alone}
use Rattle.vrl_kind.specs.Overlay.{overlaid_at}
use Rattle.vrl_path.specs.declared.path.Step.{Step}
use Rattle.vrl_state.specs.States.{kept as kept_by, knows, IsCutOf, IsLeft, IsRootKind, Scope}
use Rattle.vrl_value.specs.declared.value.Tag.{Tag}
use Rattle.vrl_judge.specs.Branching.{IsOrFail}
use Rattle.vrl_judge.specs.Rules.{Judgement, IsMerged, IsMergedIf, IsReadAt, IsScalar, at, gives, if_state, is_other, left, no_objects, of_pairs, scalars_at, settled_kind, some_pair, table_tags, with_codes, when}
use Rattle.vrl_judge.specs.Judging.{branches_known, loops_known, AreEnds, AreJoinedEnds, AreLeftEnds, ArePairedAs, HasEnds, HasGathered, HasJudged, IsBlockEndAs, IsCombinedAs, IsEquatedAs, IsMergedAs, IsMoved, IsNegatedAs, IsReadOffAs, IsReported, IsSettledAs, known_on, no_ends, settled_ends, table_rule}
use Rattle.vrl_judge.specs.declared.checker.Checker.{Checker}
use Rattle.vrl_judge.specs.declared.ends.Ends.{Ends}
use Rattle.vrl_judge.specs.declared.operators.Operands.{Operands}
use Rattle.vrl_judge.specs.declared.finding.Finding.{Finding}
use Rattle.vrl_judge.specs.declared.tables.Table.{Table}
use Rattle.vrl_judge.proofs.Parts.{are_ends_of, behind_with, ends_in, ends_of, ends_or_fail, gathered_moved, gathered_of, kept_all, left_ends, reported_ends, reported_gathered, reported_more, settled_judged}
use Rattle.vrl_judge.proofs.Gathering.{part_are, part_then, value_ends, value_gathered, with_kind_of}
use Rattle.vrl_judge.proofs.RootKinds.{any_root, merged_root, read_root, scalar_root, table_root}
use Rattle.vrl_judge.proofs.Joining.{join_of}
use Rattle.vrl_value.specs.declared.value.Tag.TheVariants as tag

-- ---- an expression

pub expr_settled : (now : Checker) (part finding : Finding) (alive : Bool) → alive ≡ is_some now.state.known
    → finding.kind ≡ settled_kind part.ends.poisoned alive part.kind → finding.ends ≡ settled_ends part.ends → IsSettledAs part now finding
expr_settled now part finding alive reached_here kind ends before j has = settled_judged before now part finding alive j has reached_here kind ends

-- ---- values

-- codes that stand on what was judged, which has this kind then
pub told_judged : (ds : List Diagnostic) (start before after : Checker) (old new : Ends) (j : Judgement) (K : KindTree) → IsReported ds before after old new → HasEnds start.state.scopes old j → HasGathered start before j → IsRootKind K
    → HasJudged start after (record { kind = K; ends = new }) (with_codes ds (record j { kind = K }))
told_judged ds start before after old new j K told has_ends gathered root = record {
  kind = refl;
  root = root;
  ends = reported_ends start.state.scopes ds before after old new (record j { kind = K }) told (ends_of start.state.scopes old j (record j { kind = K }) has_ends refl refl refl refl);
  gathered = reported_gathered ds start before after old new (record j { kind = K }) told (gathered_of start before j (record j { kind = K }) gathered refl refl refl refl);
}

pub unknown_judged : (span : Span) (before after : Checker) (part : Finding) (K : KindTree) (new : Ends) → K ≡ any_kind → part.kind ≡ K → part.ends ≡ no_ends → IsReported (when true (at 701 span)) before after part.ends new
    → HasJudged before after (record { kind = part.kind; ends = new }) (with_codes (at 701 span) (gives any_kind before.state.known))
unknown_judged span before after part K new any is none told =
    let has_ends = subst (λ e. HasEnds before.state.scopes e (gives any_kind before.state.known)) (sym none) (value_ends before any_kind) in
    subst (λ M. HasJudged before after (record { kind = M; ends = new }) (with_codes (at 701 span) (gives any_kind before.state.known))) (sym (is ∙ any))
    (told_judged (at 701 span) before before after part.ends new (gives any_kind before.state.known) any_kind told has_ends (value_gathered before any_kind) any_root)

pub read_off : (path : List Step) (part : Finding) (now : Checker) (K : KindTree) → IsReadAt part.kind path K → IsReadOffAs path part now (record { kind = K; ends = part.ends })
read_off path part now K at_path before j has =
    let there = subst (λ M. IsReadAt M path K) has.kind at_path in
    (K, there, with_kind_of before now part.ends j K has.ends has.gathered (read_root j.kind path K there has.root.present))

-- ---- blocks

-- the end of an open block
pub block_ended : (now after : Checker) (part finding : Finding) (ends : Ends) → IsLeft now.state after.state → after.diagnostics ≡ now.diagnostics → after.empties ≡ now.empties → after.loops ≡ now.loops → after.patterns ≡ now.patterns → after.inside ≡ now.inside
    → ((scope : Scope) (scopes : List Scope) → AreEnds (scope ∷ scopes) part.ends → AreLeftEnds scope scopes part.ends ends) → IsSettledAs (record { kind = part.kind; ends = ends }) after finding → IsBlockEndAs part now after finding
block_ended now after part finding ends leaves same_codes same_empties same_loops same_patterns same_inside left_so settles before entered known j here enters entered_codes entered_empties entered_loops entered_patterns entered_inside has =
    let lists : leaves.scope ∷ after.state.scopes ≡ enters.scope ∷ before.state.scopes = sym leaves.scopes ∙ has.gathered.scopes ∙ enters.scopes in
    let one : leaves.scope ≡ enters.scope = cc in
    let rest : after.state.scopes ≡ before.state.scopes = cc in
    let inside = ends_in entered.state.scopes (enters.scope ∷ before.state.scopes) part.ends j enters.scopes has.ends in
    let names = λ (x : List ℕ). enters.names x ∙ ap (λ k. knows k x) here in
    let gone = left_ends enters.scope before.state.scopes known part.ends ends j enters.hidden names inside (left_so enters.scope before.state.scopes inside.are) in
    settles before (left known j) (record {
      kind = has.kind;
      root = has.root;
      ends = gone;
      gathered = record {
        ok = leaves.known ∙ ap₂ (λ x k. option_map (kept_by x) k) one has.gathered.ok ∙ kept_all enters.scope known j.ok enters.hidden names;
        scopes = rest;
        diagnostics = ap (λ ds. ds.items) same_codes ∙ has.gathered.diagnostics ∙ ap (λ ds. ds.items ++ j.codes) entered_codes;
        empties = ap (λ ts. ts.items) same_empties ∙ has.gathered.empties ∙ ap (λ ts. ts.items ++ j.empties) entered_empties;
        loops = ap (λ ls. branches_known ls.items) same_loops ∙ has.gathered.loops ∙ ap (λ ls. branches_known ls.items ++ loops_known j.loops) entered_loops;
        patterns = same_patterns ∙ has.gathered.patterns ∙ entered_patterns;
        inside = same_inside ∙ has.gathered.inside ∙ entered_inside;
      };
    })

-- ---- operators

-- the code's test of a part is that of its judgement
pub other_is : (t : Tag) (before now : Checker) (part : Finding) (j : Judgement) → HasJudged before now part j → (is_some now.state.known && not part.ends.poisoned && not (is_alone (root_tags part.kind) t)) ≡ is_other t j
other_is t before now part j has =
    ap (λ k. is_some k && not part.ends.poisoned && not (is_alone (root_tags part.kind) t)) has.gathered.ok
    ∙ ap₂ (λ p K. is_some j.ok && not p && not (is_alone (root_tags K) t)) has.ends.poisoned has.kind

pub other_of : (t : Tag) (before now : Checker) (part : Finding) (j : Judgement) (other : Bool) → HasJudged before now part j → other ≡ (is_some now.state.known && not part.ends.poisoned && not (is_alone (root_tags part.kind) t)) → other ≡ is_other t j
other_of t before now part j other has is = is ∙ other_is t before now part j has

pub negated : (span : Span) (now after : Checker) (part : Finding) (other : Bool) (new : Ends) (K : KindTree) → other ≡ (is_some now.state.known && not part.ends.poisoned && not (is_alone (root_tags part.kind) tag.Bool))
    → IsReported (when other (at 660 span)) now after part.ends new → IsScalar tag.Bool K → IsNegatedAs span part now after (record { kind = K; ends = new })
negated span now after part other new K is told scalar before j has =
    let there = subst (λ b. IsReported (when b (at 660 span)) now after part.ends new) (other_of tag.Bool before now part j other has is) told in
    (K, scalar, told_judged (when (is_other tag.Bool j) (at 660 span)) before now after part.ends new j K there has.ends has.gathered (scalar_root tag.Bool K scalar refl))

pub paired : (first second : Finding) (other also : Bool) (after : Checker) (ends : Ends) → also ≡ (is_some after.state.known && not second.ends.poisoned && not (is_alone (root_tags second.kind) tag.Object))
    → AreJoinedEnds first.ends second.ends ends → ((scopes : List Scope) → AreEnds scopes first.ends → AreEnds scopes second.ends → AreEnds scopes ends)
    → ArePairedAs first other second after (record { left = first.kind; right = second.kind; left_no_object = other; right_no_object = also; ends = ends })
paired first second other also after ends is joined are before now j k has other_is_so has_second =
    let both = are before.state.scopes has.ends.are (part_are before now after second j k has.gathered has_second) in
    let all = part_then before now after first.ends ends second j k has.ends has.gathered has_second joined both in (
      behind_with ends j k,
      all.in_order,
      record {
        left = has.kind;
        right = has_second.kind;
        left_no_object = other_is_so;
        right_no_object = other_of tag.Object now after second k also has_second is;
        ends = all.ends;
        gathered = all.gathered;
      },
    )

pub equated : (span : Span) (now after : Checker) (stands : Bool) (parts : Operands) (new : Ends) (K : KindTree) → IsReported (when stands (at 650 span)) now after parts.ends new → IsScalar tag.Bool K
    → IsEquatedAs span stands parts now after (record { kind = K; ends = new })
equated span now after stands parts new K told scalar before j k whole has =
    (K, scalar, told_judged (when stands (at 650 span)) before now after parts.ends new whole K told has.ends has.gathered (scalar_root tag.Bool K scalar refl))

pub combined : (span : Span) (t : Table) (stands refuses takes goes : Bool) (now told_at marked after : Checker) (parts : Operands) (next new : Ends) (K : KindTree)
    → IsReported (when stands (at 650 span)) now told_at parts.ends next → IsCutOf (scalars_at (table_tags (table_rule t) parts.left parts.right)) K
    → refuses ≡ some_pair (λ a b. not (is_some (table_rule t a b))) parts.left parts.right → takes ≡ some_pair (λ a b. is_some (table_rule t a b)) parts.left parts.right → goes ≡ (new.poisoned || takes)
    → IsOrFail next (if_state refuses told_at.state.known) new → AreEnds told_at.state.scopes new → marked ≡ told_at → after.state.known ≡ if_state goes marked.state.known → IsMoved marked after
    → IsCombinedAs span t stands parts now after (record { kind = K; ends = new })
combined span t stands refuses takes goes now told_at marked after parts next new K told cut refuses_is takes_is goes_is or_fail are same known_is moved before j k whole has =
    let ds = when stands (at 650 span) in
    let rule = table_rule t in
    let told_all = with_codes ds whole in
    let scopes = before.state.scopes in
    let has_told = reported_ends scopes ds now told_at parts.ends next whole told has.ends in
    let gathered = reported_gathered ds before now told_at parts.ends next whole told has.gathered in
    let cut_so = subst (λ L. IsCutOf (scalars_at (table_tags rule j.kind L)) K) has.right (subst (λ L. IsCutOf (scalars_at (table_tags rule L parts.right)) K) has.left cut) in
    let may_refuse : refuses ≡ some_pair (λ a b. not (is_some (rule a b))) j.kind k.kind = refuses_is ∙ ap₂ (some_pair (λ a b. not (is_some (rule a b)))) has.left has.right in
    let may_take : takes ≡ some_pair (λ a b. is_some (rule a b)) j.kind k.kind = takes_is ∙ ap₂ (some_pair (λ a b. is_some (rule a b))) has.left has.right in
    let both = subst (λ s. AreEnds s new) gathered.scopes are in
    let refused : if_state refuses told_at.state.known ≡ if_state (some_pair (λ a b. not (is_some (rule a b))) j.kind k.kind) whole.ok = ap₂ (λ b s. if_state b s) may_refuse gathered.ok in
    let fail = join_of (known_on next.fail) whole.fail (if_state refuses told_at.state.known) (if_state (some_pair (λ a b. not (is_some (rule a b))) j.kind k.kind) whole.ok) (known_on new.fail) has_told.fail refused or_fail.fail in
    let ok : after.state.known ≡ if_state (told_all.poisoned || some_pair (λ a b. is_some (rule a b)) j.kind k.kind) whole.ok =
    known_is ∙ ap₂ (λ b s. if_state b s) (goes_is ∙ ap₂ (λ p q. p || q) (ap (λ e. e.poisoned) or_fail.others ∙ has_told.poisoned) may_take) (ap (λ c. c.state.known) same ∙ gathered.ok) in
    let here = subst (λ c. HasGathered before c told_all) (sym same) gathered in
    let all = gathered_moved before marked after told_all here moved in (
      K,
      known_on new.fail,
      cut_so,
      fail,
      record {
        kind = refl;
        root = table_root t j.kind k.kind K cut_so;
        ends = ends_of scopes new (record told_all { fail = known_on new.fail }) (of_pairs rule j k told_all K (known_on new.fail)) (ends_or_fail scopes next new told_all has_told or_fail.others both) refl refl refl refl;
        gathered = gathered_of before after (record told_all { ok = after.state.known }) (of_pairs rule j k told_all K (known_on new.fail)) all ok refl refl refl;
      },
    )

-- the operands' ends, with the codes told, stand in the scopes of the state
pub combined_are : (now told_at : Checker) (ds : List Diagnostic) (parts : Operands) (next : Ends) → AreEnds now.state.scopes parts.ends → IsReported ds now told_at parts.ends next → AreEnds told_at.state.scopes next
combined_are now told_at ds parts next are told =
    subst (λ s. AreEnds s next) (sym (ap (λ s. s.scopes) told.state)) (are_ends_of now.state.scopes parts.ends next (sym (ap (λ e. e.fail) told.ends)) (sym (ap (λ e. e.ret) told.ends)) are)

-- ---- merges

pub not_merged : (K L M : KindTree) → (is_alone (root_tags K) tag.Object && is_alone (root_tags L) tag.Object) ≡ false → M ≡ any_kind → IsMerged K L M
not_merged K L M none is = subst (λ b. IsMergedIf b K L M) (sym none) is

pub overlaid_merged : (K L M : KindTree) → (is_alone (root_tags K) tag.Object && is_alone (root_tags L) tag.Object) ≡ true → IsCutOf (overlaid_at K L) M → IsMerged K L M
overlaid_merged K L M both is = subst (λ b. IsMergedIf b K L M) (sym both) is

pub merged : (left_span right_span : Span) (now told_at after : Checker) (parts : Operands) (next new : Ends) (K : KindTree) → IsReported (when parts.left_no_object (at 652 left_span)) now told_at parts.ends next → IsReported (when parts.right_no_object (at 652 right_span)) told_at after next new
    → IsMerged parts.left parts.right K → IsMergedAs left_span right_span parts now after (record { kind = K; ends = new })
merged left_span right_span now told_at after parts next new K first second is before j k whole has =
    let both = reported_more (when parts.left_no_object (at 652 left_span)) (when parts.right_no_object (at 652 right_span)) now told_at after parts.ends next new first second in
    let told = subst (λ b. IsReported (when (is_other tag.Object j) (at 652 left_span) ++ when b (at 652 right_span)) now after parts.ends new) has.right_no_object
    (subst (λ b. IsReported (when b (at 652 left_span) ++ when parts.right_no_object (at 652 right_span)) now after parts.ends new) has.left_no_object both) in
    let kind = subst (λ L. IsMerged j.kind L K) has.right (subst (λ L. IsMerged L parts.right K) has.left is) in
    (K, kind, told_judged (no_objects left_span right_span j k) before now after parts.ends new whole K told has.ends has.gathered (merged_root j.kind k.kind K kind))
