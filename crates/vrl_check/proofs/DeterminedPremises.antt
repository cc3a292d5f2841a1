-- What each premise of a rule tells is told of one thing alone: kinds, what is known, and parts one behind or beside another. And
-- what is shown of each part of a script: that it has one judgement.
use Rattle.std.proofs.Common.{arith, ◌≡◌, ℕ, Bool, true, false, List, [], ◌∷◌, length, Option, Some, None, option_map, MatchOption, IsTrue, inl, inr, refl, sym, ap, ◌∙◌, subst}
use Rattle.std.proofs.lemmas.Bool.{and_parts, false≢true, cases_lt}
use Rattle.std.proofs.lemmas.Cmp.{nat_list_cmp_total}
use Rattle.std.specs.Cmp.Lexicographic.{slice_cmp}
use Rattle.std.specs.List.{list_all}
use Rattle.std.specs.FinMap.{IsAntisymmetric, nat_cmp-IsAntisymmetric, slice_cmp-IsAntisymmetric}
use Rattle.std.specs.Ordering.{nat_cmp}
use Rattle.std.specs.Prelude.{⊤}
use Rattle.vrl_value.specs.declared.value.Tag.{Tag}
use Rattle.vrl_path.specs.declared.path.Step.{Step}
use Rattle.vrl_diag.specs.declared.diagnostic.Span.{Span}
use Rattle.vrl_syntax.specs.Tree.{Expr, expr, Form, Exprs, Arms, Else, Args, Closure, no_closure, closure}
use Rattle.vrl_syntax.specs.declared.root.Root.{Root}
use Rattle.vrl_syntax.specs.declared.root.Root.TheVariants.{Event, Name}
use Rattle.vrl_syntax.specs.declared.root.Target.{Target}
use Rattle.vrl_syntax.specs.declared.root.Target.TheVariants.{Nowhere, Place}
use Rattle.vrl_kind.specs.Count.{nodes, levels}
use Rattle.vrl_kind.specs.Cut.{IsCut, level_limit, node_limit}
use Rattle.vrl_kind.specs.KindTree.{KindTree}
use Rattle.vrl_kind.specs.Kinds.{tags_at}
use Rattle.vrl_kind.specs.Laws.{EqualTagsAreOneKind}
use Rattle.vrl_kind.specs.Sets.{Sets}
use Rattle.vrl_place.proofs.OneResult.{one_removal, one_write}
use Rattle.vrl_state.specs.States.{HasNow, IsCutOf, IsEachTurned, IsEither, IsEitherVariable, IsJoined, IsLeftKind, IsWrittenKind, RootMap, Variables, kind_of, with_kind, written_from}
use Rattle.vrl_builtin.specs.declared.tags.Tags.{Tags as TagSet}
use Rattle.vrl_judge.specs.Rules.{Argument, Judgement, Loop, IsBehind, IsDeleted, IsMerged, IsMergedIf, IsReadAt, IsThen, IsTargetWritten, settle}
use Rattle.vrl_check.specs.Judgement.{AreUnjudged, IsBeside, Judges, Gives, JudgesAll, JudgesArguments, JudgesBlock, JudgesArms, IsCutDown, IsDeletedAt, unreached, unreached_parts, reached}
use Rattle.vrl_check.specs.Loops.{closures_in_form}
use Rattle.vrl_check.specs.OpenRules.{OpenRules, LeaveNothingOpen}
use Rattle.vrl_check.proofs.Decided.{AreDecided, by_given, by_rules, IsDecided}
use Rattle.std.specs.FinMap as map

-- ---- kinds

pub one_cut_by : (K M N : KindTree) → IsCut K M → IsCut K N → M ≡ N
one_cut_by K M N a b =
    elim (cases_lt node_limit (nodes K)) [
      | inl many ↦ a.too_many many ∙ sym (b.too_many many)
      | inr few ↦ elim (cases_lt level_limit (levels K)) [
        | inl deep ↦ a.too_deep deep ∙ sym (b.too_deep deep)
        | inr shallow ↦ a.kept few shallow ∙ sym (b.kept few shallow)
      ]
    ]

pub one_cut : EqualTagsAreOneKind → {A B : Sets} {M N : KindTree} → A ≡ B → IsCutOf A M → IsCutOf B N → M ≡ N
one_cut kinds {B = B} {M = M} {N = N} sets one two =
    let a : IsCutOf B M = subst (λ S. IsCutOf S M) sets one in
    let whole : a.whole ≡ two.whole = kinds a.whole two.whole a.canonical two.canonical (λ p t. a.tags p t ∙ sym (two.tags p t)) in
    one_cut_by two.whole M N (subst (λ K. IsCut K M) whole a.cut) two.cut

pub one_written_kind : EqualTagsAreOneKind → (K N M L : KindTree) (path : List Step) → IsWrittenKind K path N M → IsWrittenKind K path N L → M ≡ L
one_written_kind kinds K N M L path one two =
    let whole : one.whole ≡ two.whole = kinds one.whole two.whole one.canonical two.canonical (one_write path (tags_at K) (tags_at N) (tags_at one.whole) (tags_at two.whole) one.write two.write) in
    one_cut_by two.whole M L (subst (λ W. IsCut W M) whole one.cut) two.cut

pub one_left_kind : EqualTagsAreOneKind → (K M L : KindTree) (path : List Step) → IsLeftKind K path M → IsLeftKind K path L → M ≡ L
one_left_kind kinds K M L path one two =
    let whole : one.whole ≡ two.whole = kinds one.whole two.whole one.canonical two.canonical (one_removal path (tags_at K) (tags_at one.whole) (tags_at two.whole) one.removal two.removal) in
    one_cut_by two.whole M L (subst (λ W. IsCut W M) whole one.cut) two.cut

both_or_neither : (a b : Bool) → (IsTrue a → IsTrue b) → (IsTrue b → IsTrue a) → a ≡ b
both_or_neither true b to from = sym (to refl)
both_or_neither false true to from = from refl
both_or_neither false false to from = refl

pub one_read : EqualTagsAreOneKind → {K L M N : KindTree} {path : List Step} → K ≡ L → IsReadAt K path M → IsReadAt L path N → M ≡ N
one_read kinds {L = L} {M = M} {N = N} {path = path} kind one two =
    let a : IsReadAt L path M = subst (λ O. IsReadAt O path M) kind one in
    let whole : a.whole ≡ two.whole = kinds a.whole two.whole a.canonical two.canonical (λ p t. both_or_neither _ _ (λ h. (two.tags p t).1 ((a.tags p t).0 h)) (λ h. (a.tags p t).1 ((two.tags p t).0 h))) in
    one_cut_by two.whole M N (subst (λ O. IsCut O M) whole a.is_cut) two.is_cut

pub one_either : EqualTagsAreOneKind → {K L M K' L' M' : KindTree} → K ≡ K' → L ≡ L' → IsEither K L M → IsEither K' L' M' → M ≡ M'
one_either kinds {L = L} {M = M} {K' = K'} left right one two =
    one_cut kinds refl (subst (λ Y. IsEither K' Y M) right (subst (λ X. IsEither X L M) left one)) two

one_merged_if : EqualTagsAreOneKind → (b : Bool) (K L M N : KindTree) → IsMergedIf b K L M → IsMergedIf b K L N → M ≡ N
one_merged_if kinds true K L M N one two = one_cut kinds refl one two
one_merged_if kinds false K L M N one two = one ∙ sym two

pub one_merged : EqualTagsAreOneKind → {K L M K' L' M' : KindTree} → K ≡ K' → L ≡ L' → IsMerged K L M → IsMerged K' L' M' → M ≡ M'
one_merged kinds {L = L} {M = M} {K' = K'} {L' = L'} {M' = M'} left right one two =
    one_merged_if kinds _ K' L' M M' (subst (λ Y. IsMerged K' Y M) right (subst (λ X. IsMerged X L M) left one)) two

pub one_cut_down : EqualTagsAreOneKind → {T T' : TagSet} {K K' L M : KindTree} → T ≡ T' → K ≡ K' → IsCutDown T K L → IsCutDown T' K' M → L ≡ M
one_cut_down kinds {T' = T'} {K = K} {K' = K'} {L = L} {M = M} allowed kind one two =
    let a : IsCutDown T' K' L = subst (λ N. IsCutDown T' N L) kind (subst (λ S. IsCutDown S K L) allowed one) in
    kinds L M a.canonical two.canonical (λ p t. a.tags p t ∙ sym (two.tags p t))

-- ---- what is known

one_name : IsAntisymmetric (slice_cmp nat_cmp)
one_name = slice_cmp-IsAntisymmetric nat_cmp-IsAntisymmetric

pub same_roots : (a b : RootMap) → a.event ≡ b.event → ((x : List ℕ) → map.get a.variables x ≡ map.get b.variables x) → a ≡ b
same_roots a b event variables =
    let made : KindTree → Variables → RootMap = λ K v. record { event = K; variables = v } in
    ap (λ K. made K a.variables) event ∙ ap (made b.event) (map.same_map nat_list_cmp_total one_name a.variables b.variables variables)

one_variable : EqualTagsAreOneKind → (K L M N : Option KindTree) → IsEitherVariable K L M → IsEitherVariable K L N → M ≡ N
one_variable kinds None L M N a b = a ∙ sym b
one_variable kinds (Some K) None M N a b = a ∙ sym b
one_variable kinds (Some K) (Some L) None N a b = absurd a
one_variable kinds (Some K) (Some L) (Some M) None a b = absurd b
one_variable kinds (Some K) (Some L) (Some M) (Some N) a b = ap Some (one_cut kinds refl a b)

pub one_join_of : EqualTagsAreOneKind → (a b c d : Option RootMap) → IsJoined a b c → IsJoined a b d → c ≡ d
one_join_of kinds None b c d one two = one ∙ sym two
one_join_of kinds (Some a) None c d one two = one ∙ sym two
one_join_of kinds (Some a) (Some b) None d one two = absurd one
one_join_of kinds (Some a) (Some b) (Some c) None one two = absurd two
one_join_of kinds (Some a) (Some b) (Some c) (Some d) one two =
    ap Some (same_roots c d (one_cut kinds refl one.event two.event) (λ x. one_variable kinds (map.get a.variables x) (map.get b.variables x) _ _ (one.variables x) (two.variables x)))

pub one_join : EqualTagsAreOneKind → {a b c a' b' c' : Option RootMap} → a ≡ a' → b ≡ b' → IsJoined a b c → IsJoined a' b' c' → c ≡ c'
one_join kinds {b = b} {c = c} {a' = a'} {b' = b'} {c' = c'} left right one two =
    one_join_of kinds a' b' c c' (subst (λ y. IsJoined a' y c) right (subst (λ x. IsJoined x b c) left one)) two

one_written_of : EqualTagsAreOneKind → (t : Target) (K : KindTree) (before c d : Option RootMap) → IsTargetWritten t K before c → IsTargetWritten t K before d → c ≡ d
one_written_of kinds Nowhere K before c d one two = one ∙ sym two
one_written_of kinds (Place span root path) K None c d one two = one ∙ sym two
one_written_of kinds (Place span root path) K (Some roots) c d one two =
    one.2 ∙ ap (λ M. Some (with_kind root M roots)) (one_written_kind kinds (written_from (kind_of root roots)) K one.0 two.0 path one.1 two.1) ∙ sym two.2

pub one_written : EqualTagsAreOneKind → (t : Target) {K L : KindTree} {a b c d : Option RootMap} → K ≡ L → a ≡ b → IsTargetWritten t K a c → IsTargetWritten t L b d → c ≡ d
one_written kinds t {L = L} {a = a} {b = b} {c = c} {d = d} kind known one two =
    one_written_of kinds t L b c d (subst (λ x. IsTargetWritten t L x c) known (subst (λ K. IsTargetWritten t K a c) kind one)) two

abbrev IsTakenOutOf : Option KindTree → Root → List Step → RootMap → Option RootMap → Type 0
IsTakenOutOf found root path roots after = MatchOption found (after ≡ Some roots) (λ K. HasNow root (IsLeftKind K path) roots after)

one_taken_out : EqualTagsAreOneKind → (found : Option KindTree) (root : Root) (path : List Step) (roots : RootMap) (c d : Option RootMap) → IsTakenOutOf found root path roots c → IsTakenOutOf found root path roots d → c ≡ d
one_taken_out kinds None root path roots c d one two = one ∙ sym two
one_taken_out kinds (Some K) root path roots c d one two = one.2 ∙ ap (λ M. Some (with_kind root M roots)) (one_left_kind kinds K one.0 two.0 path one.1 two.1) ∙ sym two.2

one_deleted_of : EqualTagsAreOneKind → (root : Root) (path : List Step) (before c d : Option RootMap) → IsDeleted root path before c → IsDeleted root path before d → c ≡ d
one_deleted_of kinds root [] before c d one two = one.2 ∙ ap (λ M. option_map (with_kind root M) before) (one_cut kinds refl one.1 two.1) ∙ sym two.2
one_deleted_of kinds root (step ∷ path) None c d one two = one ∙ sym two
one_deleted_of kinds root (step ∷ path) (Some roots) c d one two = one_taken_out kinds (kind_of root roots) root (step ∷ path) roots c d one two

pub one_deleted : EqualTagsAreOneKind → (found : Option (Root × List Step)) (before c d : Option RootMap) → IsDeletedAt found before c → IsDeletedAt found before d → c ≡ d
one_deleted kinds None before c d one two = one ∙ sym two
one_deleted kinds (Some found) before c d one two = one_deleted_of kinds found.0 found.1 before c d one two

pub some_is : {A : Type 0} (x y : A) → Some x ≡ Some y → x ≡ y
some_is x y same = cc

one_turned_of : (f : KindTree → KindTree) (roots : List Root) (before c d : Option RootMap) → IsEachTurned f roots before c → IsEachTurned f roots before d → c ≡ d
one_turned_of f roots before None None one two = refl
one_turned_of f roots before None (Some d) one two = absurd (false≢true (one.alive ∙ sym two.alive))
one_turned_of f roots before (Some c) None one two = absurd (false≢true (two.alive ∙ sym one.alive))
one_turned_of f roots before (Some c) (Some d) one two =
    ap Some (same_roots c d (some_is c.event d.event (one.kinds Event ∙ sym (two.kinds Event))) (λ x. one.kinds (Name x) ∙ sym (two.kinds (Name x))))

pub one_turned : (f : KindTree → KindTree) (roots : List Root) {a b c d : Option RootMap} → a ≡ b → IsEachTurned f roots a c → IsEachTurned f roots b d → c ≡ d
one_turned f roots {b = b} {c = c} {d = d} known one two = one_turned_of f roots b c d (subst (λ s. IsEachTurned f roots s c) known one) two

-- ---- parts in order, and alternatives

-- one part behind others, but for how the whole fails
pub one_behind : EqualTagsAreOneKind → {j k l j' k' l' : Judgement} → j ≡ j' → k ≡ k' → IsBehind j k l → IsBehind j' k' l' → record l { fail = None } ≡ record l' { fail = None }
one_behind kinds {k = k} {l = l} {j' = j'} {k' = k'} {l' = l'} before part one two =
    let a : IsBehind j' k' l = subst (λ y. IsBehind j' y l) part (subst (λ x. IsBehind x k l) before one) in
    let ret : l.ret ≡ l'.ret = one_join_of kinds j'.ret k'.ret l.ret l'.ret a.ret two.ret in
    let returned : l.returned ≡ l'.returned = one_cut kinds refl a.returned two.returned in
    let kind : l.kind ≡ l'.kind = a.kind ∙ sym two.kind in
    let ok : l.ok ≡ l'.ok = a.ok ∙ sym two.ok in
    let poisoned : l.poisoned ≡ l'.poisoned = a.poisoned ∙ sym two.poisoned in
    let codes : l.codes ≡ l'.codes = a.codes ∙ sym two.codes in
    let empties : l.empties ≡ l'.empties = a.empties ∙ sym two.empties in
    let loops : l.loops ≡ l'.loops = a.loops ∙ sym two.loops in
    λ i. record { kind = kind i; ok = ok i; fail = None; ret = ret i; returned = returned i; poisoned = poisoned i; codes = codes i; empties = empties i; loops = loops i }

pub one_then : EqualTagsAreOneKind → {j k l j' k' l' : Judgement} → j ≡ j' → k ≡ k' → IsThen j k l → IsThen j' k' l' → l ≡ l'
one_then kinds {l = l} {l' = l'} before part one two =
    let behind : record l { fail = None } ≡ record l' { fail = None } = one_behind kinds before part one.behind two.behind in
    let fail : l.fail ≡ l'.fail = one_join kinds (λ i. (before i).fail) (λ i. (part i).fail) one.fail two.fail in
    λ i. record (behind i) { fail = fail i }

pub one_beside : EqualTagsAreOneKind → {j k l j' k' l' : Judgement} → j ≡ j' → k ≡ k' → IsBeside j k l → IsBeside j' k' l' → l ≡ l'
one_beside kinds {k = k} {l = l} {j' = j'} {k' = k'} {l' = l'} ways way one two =
    let a : IsBeside j' k' l = subst (λ y. IsBeside j' y l) way (subst (λ x. IsBeside x k l) ways one) in
    let kind : l.kind ≡ l'.kind = one_cut kinds refl a.kind two.kind in
    let ok : l.ok ≡ l'.ok = one_join_of kinds j'.ok k'.ok l.ok l'.ok a.ok two.ok in
    let fail : l.fail ≡ l'.fail = one_join_of kinds j'.fail k'.fail l.fail l'.fail a.fail two.fail in
    let ret : l.ret ≡ l'.ret = one_join_of kinds j'.ret k'.ret l.ret l'.ret a.ret two.ret in
    let returned : l.returned ≡ l'.returned = one_cut kinds refl a.returned two.returned in
    let poisoned : l.poisoned ≡ l'.poisoned = a.poisoned ∙ sym two.poisoned in
    let codes : l.codes ≡ l'.codes = a.codes ∙ sym two.codes in
    let empties : l.empties ≡ l'.empties = a.empties ∙ sym two.empties in
    let loops : l.loops ≡ l'.loops = a.loops ∙ sym two.loops in
    λ i. record { kind = kind i; ok = ok i; fail = fail i; ret = ret i; returned = returned i; poisoned = poisoned i; codes = codes i; empties = empties i; loops = loops i }

-- ---- what is shown of each part

abbrev pub HasOne : Expr → Type 0
HasOne e = (rules : OpenRules) (inside : Bool) (known : Option RootMap) (j k : Judgement) → IsDecided rules j k → Judges rules inside known e j → Judges rules inside known e k → j ≡ k

abbrev pub GivesOne : Span → Form → Type 0
GivesOne span f = (rules : OpenRules) (inside : Bool) (known : RootMap) (j k : Judgement) → IsDecided rules j k → Gives rules inside known span f j → Gives rules inside known span f k → j ≡ k

abbrev pub HaveOne : Exprs → Type 0
HaveOne es = (rules : OpenRules) (inside : Bool) (before : Judgement) (Ks Ls : List KindTree) (j k : Judgement) → IsDecided rules j k → JudgesAll rules inside before es Ks j → JudgesAll rules inside before es Ls k → (Ks ≡ Ls) × (j ≡ k)

abbrev pub ArgumentsHaveOne : Args → Type 0
ArgumentsHaveOne gs = (rules : OpenRules) (inside : Bool) (before : Judgement) (js ks : List Argument) (j k : Judgement) → IsDecided rules j k → JudgesArguments rules inside before gs js j → JudgesArguments rules inside before gs ks k → (js ≡ ks) × (j ≡ k)

abbrev pub BlockHasOne : Exprs → Type 0
BlockHasOne es = (rules : OpenRules) (inside : Bool) (known : Option RootMap) (j k : Judgement) → IsDecided rules j k → JudgesBlock rules inside known es j → JudgesBlock rules inside known es k → j ≡ k

abbrev pub ArmsHaveOne : Arms → Else → Type 0
ArmsHaveOne gs otherwise = (rules : OpenRules) (inside : Bool) (known : Option RootMap) (ways j k : Judgement) → IsDecided rules j k → JudgesArms rules inside known ways gs otherwise j → JudgesArms rules inside known ways gs otherwise k → j ≡ k

abbrev pub ClosureHasOne : Closure → Type 0
ClosureHasOne no_closure = ⊤
ClosureHasOne (closure names es span) = BlockHasOne es

-- ---- what isn't judged

-- two lists of tags are one where they are of one length, and each tag is one that the rules allow
same_tags : (rules : OpenRules) → LeaveNothingOpen rules → (ts us : List Tag) → length ts ≡ length us → list_all rules.unjudged ts ≡ true → list_all rules.unjudged us ≡ true → ts ≡ us
same_tags rules decided [] [] same one two = refl
same_tags rules decided [] (u ∷ us) same one two = absurd (omega (arith, same))
same_tags rules decided (t ∷ ts) [] same one two = absurd (omega (arith, same))
same_tags rules decided (t ∷ ts) (u ∷ us) same one two =
    let first = and_parts (rules.unjudged t) (list_all rules.unjudged ts) one in
    let second = and_parts (rules.unjudged u) (list_all rules.unjudged us) two in
    let tag : t ≡ u = decided.unjudged t u first.0 second.0 in
    let rest : ts ≡ us = same_tags rules decided ts us (omega (arith, same)) first.1 second.1 in
    λ i. tag i ∷ rest i

-- so it has one list of empty values
pub one_unjudged : {rules : OpenRules} {n : ℕ} {ts us : List Tag} {ls ms : List (Option Loop)} → AreDecided rules ts us ls ms → AreUnjudged rules n ts → AreUnjudged rules n us → ts ≡ us
one_unjudged {rules = rules} {ts = ts} {us = us} (by_rules decided) one two = same_tags rules decided ts us (one.counted ∙ sym two.counted) one.allowed two.allowed
one_unjudged (by_given no_tries same have) one two = same

-- an expression is judged where it is reached, and gives nothing where it isn't
pub settled_once : (span : Span) (f : Form) → GivesOne span f → HasOne (expr span f)
settled_once span f given rules inside None j k decided (unreached one) (unreached two) = ap (λ ts. unreached_parts ts (closures_in_form f)) (one_unjudged decided one two)
settled_once span f given rules inside (Some known) j k decided (reached {j = a} one) (reached {j = b} two) = ap settle (given rules inside known a b decided one two)

-- the same behind what is known to be the same
pub judged_once : {rules : OpenRules} {inside : Bool} {e : Expr} {known known' : Option RootMap} {j k : Judgement} → IsDecided rules j k → HasOne e → known ≡ known' → Judges rules inside known e j → Judges rules inside known' e k → j ≡ k
judged_once {rules = rules} {inside = inside} {e = e} {known' = known'} {j = j} {k = k} decided has known one two = has rules inside known' j k decided (subst (λ s. Judges rules inside s e j) known one) two
