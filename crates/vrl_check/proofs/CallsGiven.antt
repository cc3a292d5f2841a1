-- What a function is asked about, argument by argument.
use Rattle.std.proofs.Common.{◌≡◌, ℕ, true, List, [], ◌∷◌, ◌++◌, length, map, Option, refl, sym, ap, ◌∙◌, subst, append_assoc, append-nil}
use Rattle.std.proofs.lemmas.Bool.{and_from}
use Rattle.std.proofs.lemmas.List.{map-append}
use Rattle.std.proofs.lemmas.List.Folds.{list_all-append}
use Rattle.vrl_syntax.specs.Regexes.{args_regexes_below}
use Rattle.vrl_syntax.specs.View.{args_view}
use Rattle.vrl_syntax.specs.declared.tree.Arg.{Arg as CodeArg}
use Rattle.vrl_builtin.specs.Conditions.{below_if, literals_below}
use Rattle.vrl_builtin.specs.Rows.{GivenTree, ParameterRow}
use Rattle.vrl_builtin.specs.View.{given_tree, parameter_row}
use Rattle.vrl_builtin.specs.declared.given.Given.{Given}
use Rattle.vrl_builtin.specs.declared.parameter.Parameter.{Parameter}
use Rattle.vrl_judge.specs.Calling.{part_of}
use Rattle.vrl_check.specs.Calling.{AreTold}
use Rattle.vrl_judge.specs.Rules.{Argument, argument_at}
use Rattle.vrl_check.specs.Judgement.{bound, some_has_others, AreAskedAbout, IsAskedAbout}
use Rattle.vrl_judge.specs.declared.calls.Argument.{Argument as CodeArgument}
use Rattle.vrl_judge.proofs.Deleted.{empty_list}

-- ---- all of them

-- what is given for the parameters that are left, behind what was given so far, is what is given for all
pub record AreGivenPartway (args : List CodeArg) (parts : List CodeArgument) (parameters : List Parameter) (places : List (Option ℕ)) (givens : List Given) (left : List Parameter) (others : List (Option ℕ)) : Type 0 where
  pub leads : (js : List Argument) → AreTold (args_view args) parts js → (more : List GivenTree) → AreAskedAbout (map parameter_row left) (bound others js) more → AreAskedAbout (map parameter_row parameters) (bound places js) (map given_tree givens ++ more)
  pub regexes : (count : ℕ) → args_regexes_below count (args_view args) ≡ true → literals_below count (map given_tree givens) ≡ true

pub given_next : (args : List CodeArg) (parts : List CodeArgument) (parameters : List Parameter) (places : List (Option ℕ)) (givens now : List Given) (given : Given) (left rest : List Parameter) (p : Parameter) (others behind : List (Option ℕ)) (q : Option ℕ)
    → left ≡ p ∷ rest → others ≡ q ∷ behind → now ≡ givens ++ (given ∷ [])
    → ((js : List Argument) → AreTold (args_view args) parts js → IsAskedAbout (parameter_row p) (argument_at js q) (given_tree given))
    → ((count : ℕ) → args_regexes_below count (args_view args) ≡ true → below_if count (given_tree given).literal ≡ true)
    → AreGivenPartway args parts parameters places givens left others → AreGivenPartway args parts parameters places now rest behind
given_next args parts parameters places givens now given left rest p others behind q is bound_is pushed one below so_far =
    let seen : map given_tree now ≡ map given_tree givens ++ (given_tree given ∷ []) = ap (map given_tree) pushed ∙ map-append given_tree givens (given ∷ []) in
    record {
      leads = λ js are more all.
          let whole : AreAskedAbout (map parameter_row (p ∷ rest)) (bound (q ∷ behind) js) (given_tree given ∷ more) = (one js are, all) in
          let from : AreAskedAbout (map parameter_row left) (bound others js) (given_tree given ∷ more) =
          subst (λ ps. AreAskedAbout (map parameter_row ps) (bound others js) (given_tree given ∷ more)) (sym is) (subst (λ qs. AreAskedAbout (map parameter_row (p ∷ rest)) (bound qs js) (given_tree given ∷ more)) (sym bound_is) whole)
          in
          subst (AreAskedAbout (map parameter_row parameters) (bound places js)) (sym (append_assoc (map given_tree givens) (given_tree given ∷ []) more) ∙ ap (λ gs. gs ++ more) (sym seen)) (so_far.leads js are (given_tree given ∷ more) from);
      regexes = λ count below_all.
          ap (literals_below count) seen
          ∙ list_all-append (λ (g : GivenTree). below_if count g.literal) (map given_tree givens) (given_tree given ∷ [])
          ∙ and_from _ _ (so_far.regexes count below_all) (and_from _ _ (below count below_all) refl);
    }

none_asked : (ps : List ParameterRow) → AreAskedAbout ps [] []
none_asked [] = refl
none_asked (p ∷ ps) = refl

pub given_end : (args : List CodeArg) (parts : List CodeArgument) (parameters : List Parameter) (places : List (Option ℕ)) (givens : List Given) (left : List Parameter) (others : List (Option ℕ)) → length left ≡ 0
    → AreGivenPartway args parts parameters places givens left others → (js : List Argument) → AreTold (args_view args) parts js → AreAskedAbout (map parameter_row parameters) (bound places js) (map given_tree givens)
given_end args parts parameters places givens left others none so_far js are =
    subst (AreAskedAbout (map parameter_row parameters) (bound places js)) (append-nil (map given_tree givens))
    (so_far.leads js are [] (subst (λ ps. AreAskedAbout (map parameter_row ps) (bound others js) []) (sym (empty_list left none)) refl))

pub given_end_early : (args : List CodeArg) (parts : List CodeArgument) (parameters : List Parameter) (places : List (Option ℕ)) (givens : List Given) (left : List Parameter) (others : List (Option ℕ)) → length others ≡ 0
    → AreGivenPartway args parts parameters places givens left others → (js : List Argument) → AreTold (args_view args) parts js → AreAskedAbout (map parameter_row parameters) (bound places js) (map given_tree givens)
given_end_early args parts parameters places givens left others none so_far js are =
    subst (AreAskedAbout (map parameter_row parameters) (bound places js)) (append-nil (map given_tree givens))
    (so_far.leads js are [] (subst (λ qs. AreAskedAbout (map parameter_row left) (bound qs js) []) (sym (empty_list others none)) (none_asked (map parameter_row left))))

-- ---- kinds that aren't within their parameters'

-- what is left decides
abbrev pub LeavesOthers : List CodeArgument → List Parameter → List (Option ℕ) → List Parameter → List (Option ℕ) → Type 0
LeavesOthers parts parameters places left others = (js : List Argument) → parts ≡ map part_of js → some_has_others (map parameter_row parameters) (bound places js) ≡ some_has_others (map parameter_row left) (bound others js)
