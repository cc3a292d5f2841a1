-- The arguments of a call, one behind another.
use Rattle.std.proofs.Common.{◌≡◌, ◌≤◌, ◌<◌, ◌+◌, ◌&&◌, not, ℕ, List, [], ◌∷◌, ◌++◌, length, drop, get_or, map, Option, is_some, refl, sym, ap, ap₂, ◌∙◌, subst, append-nil, append_assoc, arith}
use Rattle.std.proofs.lemmas.List.{at_drop_all, at_drop_more, map-append}
use Rattle.vrl_diag.specs.declared.diagnostic.Span.{Span}
use Rattle.vrl_syntax.specs.Tree.{Args, no_args, arg, Expr, Form}
use Rattle.vrl_syntax.specs.View.{arg_of, args_view}
use Rattle.vrl_syntax.specs.declared.tree.Arg.{Arg as CodeArg}
use Rattle.vrl_kind.specs.Canonical.{never_kind}
use Rattle.vrl_state.specs.States.{IsRootKind}
use Rattle.vrl_judge.specs.Calling.{part_of}
use Rattle.vrl_check.specs.Calling.{written, AreArgumentsAs, AreRootKinds, IsCalledAs, IsTold}
use Rattle.vrl_judge.specs.Rules.{Argument, Judgement, gives}
use Rattle.vrl_check.specs.Judgement.{Judges, JudgesArguments, no_more_arguments, one_more_argument}
use Rattle.vrl_judge.specs.Judging.{no_ends, AreEnds, AreJoinedEnds, HasEnds, HasGathered, HasJudged, HaveCommonScopes}
use Rattle.vrl_check.specs.Walking.{ArgumentsCanBeJudged, ExprCanBeJudged, IsGivenAs, IsJudgedAs}
use Rattle.vrl_judge.specs.declared.calls.Argument.{Argument as CodeArgument}
use Rattle.vrl_check.specs.declared.calls.Arguments.{Arguments}
use Rattle.vrl_judge.specs.declared.checker.Checker.{Checker}
use Rattle.vrl_judge.specs.declared.ends.Ends.{Ends}
use Rattle.vrl_judge.specs.declared.finding.Finding.{Finding}
use Rattle.vrl_check.proofs.Capable.{first_argument_can, other_arguments_can}
use Rattle.vrl_judge.proofs.Parts.{behind_with, fails_as}
use Rattle.vrl_check.proofs.Partway.{can_at, part_common}
use Rattle.vrl_judge.proofs.Gathering.{part_are, part_then, value_ends, value_gathered}
use Rattle.vrl_syntax.proofs.PartSizes.{args_size, expr_size}
use Rattle.vrl_check.proofs.Told.{judges_at}
use Rattle.vrl_check.specs.OpenRules.{language_rules}

abbrev pub place_of : Argument → Span × Expr
place_of g = (g.span, g.value)

-- ---- a list of arguments

pub next_arg : (all : List CodeArg) (i : ℕ) (it : CodeArg) → i < length all → it ≡ get_or all i it → args_view (drop i all) ≡ arg (arg_of it).0 (arg_of it).1 (arg_of it).2 (args_view (drop (i + 1) all))
next_arg all i it below is = at_drop_more args_view all i it below ∙ ap (λ x. arg (arg_of x).0 (arg_of x).1 (arg_of x).2 (args_view (drop (i + 1) all))) (sym is)

pub no_arg_left : (all : List CodeArg) (i : ℕ) → length all ≤ i → args_view (drop i all) ≡ no_args
no_arg_left all i end = at_drop_all args_view all i end

-- ---- the arguments that were judged so far

-- what is judged of the arguments that are left, behind those so far, is judged of all
pub record IsArgumentsPartway (before now : Checker) (whole left : Args) (parts : List CodeArgument) (ends : Ends) : Type 0 where
  pub js : List Argument
  pub j : Judgement
  pub leads : (more : List Argument) (k : Judgement) → JudgesArguments (language_rules before.patterns.now) before.inside j left more k → JudgesArguments (language_rules before.patterns.now) before.inside (gives never_kind before.state.known) whole (js ++ more) k
  pub has_ends : HasEnds before.state.scopes ends j
  pub gathered : HasGathered before now j
  pub can : ArgumentsCanBeJudged before.patterns.now left
  pub fewer : args_size left ≤ args_size whole
  pub parts_are : parts ≡ map part_of js
  pub written_are : written whole ≡ map place_of js ++ written left
  pub roots : AreRootKinds js

arguments_none : (before : Checker) (whole : Args) → ArgumentsCanBeJudged before.patterns.now whole → IsArgumentsPartway before before whole whole [] no_ends
arguments_none before whole can = record {
  js = [];
  j = gives never_kind before.state.known;
  leads = λ more k rest. rest;
  has_ends = value_ends before never_kind;
  gathered = value_gathered before never_kind;
  can = can;
  fewer = omega arith;
  parts_are = refl;
  written_are = refl;
  roots = tt;
}

pub arguments_first : (before : Checker) (whole left : Args) (parts : List CodeArgument) (ends : Ends) → left ≡ whole → parts ≡ [] → ends ≡ no_ends → ArgumentsCanBeJudged before.patterns.now whole → IsArgumentsPartway before before whole left parts ends
arguments_first before whole left parts ends all empty none can =
    subst (λ l. IsArgumentsPartway before before whole l parts ends) (sym all)
    (subst (λ ps. IsArgumentsPartway before before whole whole ps ends) (sym empty)
    (subst (λ e. IsArgumentsPartway before before whole whole [] e) (sym none) (arguments_none before whole can)))

-- what the next argument requires
pub argument_can_next : (before now : Checker) (whole left rest : Args) (name : Option (List ℕ)) (span : Span) (e : Expr) (parts : List CodeArgument) (ends : Ends) → left ≡ arg name span e rest → IsArgumentsPartway before now whole left parts ends → ExprCanBeJudged now.patterns.now e
argument_can_next before now whole left rest name span e parts ends is so_far =
    can_at before now e so_far.gathered.patterns (first_argument_can name span e rest (subst (ArgumentsCanBeJudged before.patterns.now) is so_far.can))

pub argument_fewer : (before now : Checker) (whole left rest : Args) (name : Option (List ℕ)) (span : Span) (e : Expr) (parts : List CodeArgument) (ends : Ends) → left ≡ arg name span e rest → IsArgumentsPartway before now whole left parts ends → expr_size e ≤ args_size whole
argument_fewer before now whole left rest name span e parts ends is so_far =
    let fewer : args_size (arg name span e rest) ≤ args_size whole = subst (λ l. args_size l ≤ args_size whole) is so_far.fewer in
    omega (arith, fewer)

pub argument_common : (before now after : Checker) (whole left : Args) (e : Expr) (parts : List CodeArgument) (ends : Ends) (part : Finding) → IsArgumentsPartway before now whole left parts ends → IsJudgedAs e now after part → HaveCommonScopes ends part.ends
argument_common before now after whole left e parts ends part so_far judged = part_common before now after ends part so_far.j judged.0 so_far.has_ends so_far.gathered judged.2

-- what the walk keeps of an argument that was judged last
abbrev pub kept_of : Finding → Checker → CodeArgument
kept_of part after = record { kind = part.kind; fallible = is_some part.ends.fail; known = is_some after.state.known && not part.ends.poisoned }

argument_told : (now after : Checker) (part : Finding) (span : Span) (e : Expr) (p : Judgement) → HasJudged now after part p → kept_of part after ≡ part_of (record { span = span; value = e; judged = p })
argument_told now after part span e p has =
    let kind = has.kind in
    let fallible = fails_as now.state.scopes part.ends p has.ends in
    let known = ap₂ (λ s b. is_some s && not b) has.gathered.ok has.ends.poisoned in
    λ i. record { kind = kind i; fallible = fallible i; known = known i }

-- one more that can be a root's kind
one_more_root : (js : List Argument) (g : Argument) → AreRootKinds js → IsRootKind g.judged.kind → AreRootKinds (js ++ (g ∷ []))
one_more_root [] g roots root = (root, tt)
one_more_root (h ∷ js) g roots root = (roots.0, one_more_root js g roots.1 root)

-- one more argument
pub arguments_next : (before now after : Checker) (whole left rest : Args) (name : Option (List ℕ)) (span : Span) (e : Expr) (parts more_parts : List CodeArgument) (argument : CodeArgument) (ends next : Ends) (part : Finding) → left ≡ arg name span e rest → more_parts ≡ parts ++ (argument ∷ [])
    → IsArgumentsPartway before now whole left parts ends → IsJudgedAs e now after part
    → argument ≡ kept_of part after
    → AreJoinedEnds ends part.ends next → (AreEnds before.state.scopes ends → AreEnds before.state.scopes part.ends → AreEnds before.state.scopes next)
    → IsArgumentsPartway before after whole rest more_parts next
arguments_next before now after whole left rest name span e parts more_parts argument ends next part is more so_far judged argument_is joined are =
    let p = judged.0 in
    let g : Argument = record { span = span; value = e; judged = p } in
    let both = are so_far.has_ends.are (part_are before now after part so_far.j p so_far.gathered judged.2) in
    let all = part_then before now after ends next part so_far.j p so_far.has_ends so_far.gathered judged.2 joined both in
    let from : Judges (language_rules before.patterns.now) before.inside so_far.j.ok e p = judges_at before now so_far.j.ok e p so_far.gathered.patterns so_far.gathered.inside so_far.gathered.ok judged.1 in
    let fewer : args_size (arg name span e rest) ≤ args_size whole = subst (λ l. args_size l ≤ args_size whole) is so_far.fewer in
    let last : argument ≡ part_of g = argument_is ∙ argument_told now after part span e p judged.2 in
    record {
      js = so_far.js ++ (g ∷ []);
      j = behind_with next so_far.j p;
      leads = λ ks k others.
          subst (λ gs. JudgesArguments (language_rules before.patterns.now) before.inside (gives never_kind before.state.known) whole gs k) (sym (append_assoc so_far.js (g ∷ []) ks))
          (so_far.leads (g ∷ ks) k (subst (λ l. JudgesArguments (language_rules before.patterns.now) before.inside so_far.j l (g ∷ ks) k) (sym is) (one_more_argument from all.in_order others)));
      has_ends = all.ends;
      gathered = all.gathered;
      can = other_arguments_can name span e rest (subst (ArgumentsCanBeJudged before.patterns.now) is so_far.can);
      fewer = omega (arith, fewer);
      parts_are = more ∙ ap₂ (λ xs x. xs ++ (x ∷ [])) so_far.parts_are last ∙ sym (map-append part_of so_far.js (g ∷ []));
      written_are = so_far.written_are ∙ ap (λ l. map place_of so_far.js ++ written l) is ∙ sym (append_assoc (map place_of so_far.js) ((span, e) ∷ []) (written rest)) ∙ ap (λ xs. xs ++ written rest) (sym (map-append place_of so_far.js (g ∷ [])));
      roots = one_more_root so_far.js g so_far.roots judged.2.root;
    }

-- all of them
pub arguments_given : (before now : Checker) (whole left : Args) (arguments : Arguments) → left ≡ no_args → IsArgumentsPartway before now whole left arguments.parts.items arguments.ends → AreArgumentsAs whole before now arguments
arguments_given before now whole left arguments is so_far = (
  so_far.js,
  so_far.j,
  subst (λ gs. JudgesArguments (language_rules before.patterns.now) before.inside (gives never_kind before.state.known) whole gs so_far.j) (append-nil so_far.js)
      (so_far.leads [] so_far.j (subst (λ l. JudgesArguments (language_rules before.patterns.now) before.inside so_far.j l [] so_far.j) (sym is) no_more_arguments)),
  record {
    told = record { parts_are = so_far.parts_are; written_are = so_far.written_are ∙ ap (λ l. map place_of so_far.js ++ written l) is ∙ append-nil (map place_of so_far.js) };
    roots = so_far.roots;
    ends = so_far.has_ends;
    gathered = so_far.gathered;
  },
)

-- ---- the call

-- where the arguments stand, for a call behind them
pub arguments_are : (gs : Args) (before now : Checker) (arguments : Arguments) → AreArgumentsAs gs before now arguments → AreEnds now.state.scopes arguments.ends
arguments_are gs before now arguments are = subst (λ s. AreEnds s arguments.ends) (sym are.3.gathered.scopes) are.3.ends.are

-- they were judged in some way
pub arguments_told : (gs : Args) (before now : Checker) (arguments : Arguments) → AreArgumentsAs gs before now arguments → IsTold gs arguments.parts.items
arguments_told gs before now arguments are = (are.0, are.3.told)

pub call_given : (span : Span) (f : Form) (gs : Args) (before now after : Checker) (arguments : Arguments) (finding : Finding) → AreArgumentsAs gs before now arguments → IsCalledAs span f gs arguments now after finding → IsGivenAs span f before after finding
call_given span f gs before now after arguments finding are called known alive =
    called before known are.0 are.1 alive (subst (λ s. JudgesArguments (language_rules before.patterns.now) before.inside (gives never_kind s) gs are.0 are.1) alive are.2) are.3
