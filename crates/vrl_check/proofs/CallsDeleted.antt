-- What a `del` takes out.
use Rattle.std.proofs.Common.{◌≡◌, false, List, [], ◌∷◌, length, map, Option, None, refl, sym, ap, ◌∙◌, subst}
use Rattle.vrl_path.specs.declared.path.Step.{Step as CodeStep}
use Rattle.vrl_diag.specs.declared.diagnostic.Span.{Span}
use Rattle.vrl_syntax.specs.Tree.{Expr}
use Rattle.vrl_syntax.specs.View.{args_view}
use Rattle.vrl_syntax.specs.declared.root.Root.{Root}
use Rattle.vrl_syntax.specs.declared.tree.Arg.{Arg as CodeArg}
use Rattle.vrl_state.specs.States.{RootMap}
use Rattle.vrl_check.specs.Calling.{written}
use Rattle.vrl_syntax.specs.Calls.{path_of}
use Rattle.vrl_judge.specs.Rules.{Argument}
use Rattle.vrl_check.specs.Judgement.{deleted_path, IsDeletedAt}

-- ---- the argument

abbrev place_of : Argument → Span × Expr
place_of g = (g.span, g.value)

-- the path of the one that is written
abbrev path_in : List (Span × Expr) → Option (Root × List CodeStep)
path_in (x ∷ []) = path_of x.1
path_in xs = None

deleted_is : (js : List Argument) → deleted_path false js ≡ path_in (map place_of js)
deleted_is [] = refl
deleted_is (g ∷ []) = refl
deleted_is (g ∷ h ∷ js) = refl

deleted_in : (args : List CodeArg) (js : List Argument) → written (args_view args) ≡ map place_of js → path_in (written (args_view args)) ≡ deleted_path false js
deleted_in args js is = ap path_in is ∙ sym (deleted_is js)

pub more_deleted : (args : List CodeArg) (a : CodeArg) (others : List CodeArg) (known : Option RootMap) → args ≡ a ∷ others → (length others ≡ 0 → ⊥) → (js : List Argument) → written (args_view args) ≡ map place_of js → IsDeletedAt (deleted_path false js) known known
more_deleted args a [] known is some js at = absurd (some refl)
more_deleted args a (b ∷ others) known is some js at =
    let all : path_in (written (args_view args)) ≡ None = ap (λ xs. path_in (written (args_view xs))) is in
    subst (λ d. IsDeletedAt d known known) (sym all ∙ deleted_in args js at) refl
