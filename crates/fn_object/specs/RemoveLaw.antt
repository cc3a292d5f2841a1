-- `remove` keeps the law.
use Rattle.std.specs.Prelude.{◌≡◌, ℕ, true, List, Option, Some, None, codes, IfSome, refl}
use Rattle.std.proofs.Common.{ap, ◌∙◌}
use Rattle.vrl_value.specs.Tag.{tag_of}
use Rattle.vrl_value.specs.Tree.{Tree, null, IsOrdered}
use Rattle.vrl_value.specs.declared.value.Tag.{Tag}
use Rattle.vrl_kind.specs.KindTree.{KindTree}
use Rattle.vrl_path.specs.Trees.{remove_tree}
use Rattle.vrl_path.specs.declared.path.Step.{Step}
use Rattle.vrl_builtin.specs.Law.{KeepsLaw, IsLawful, IsOfGiven}
use Rattle.vrl_builtin.specs.Rows.{named, argument_at, kind_at, value_or}
use Rattle.vrl_builtin.specs.TagSets.{allows}
use Rattle.vrl_builtin.specs.Words.{first_other}
use Rattle.vrl_builtin.proofs.GivenTags.{arrays_only, container_only}
use Rattle.vrl_builtin.specs.Listed.{trees_in}
use Rattle.vrl_builtin.specs.AnyParts.{any_of, containers_in}
use Rattle.vrl_builtin.proofs.AnswerParts.{answered, given_part, IsPart}
use Rattle.vrl_builtin.proofs.AnyParts.{container_tag, loosely_allowed}
use Rattle.fn_object.specs.PathLaw.{removed_is, removed_tag}
use Rattle.fn_object.specs.Paths.{path_answer, removal_fault, step_tags, steps_of}
use Rattle.fn_object.specs.Remove.{remove_row, removed_at}

removed_lawful : (K : Option KindTree) (o : Option (ℕ × Tag)) (words : Option (List ℕ))
    (arguments : List (Option Tree)) (v : Tree) (p : List Step) → allows (containers_in K) (tag_of v) ≡ true
    → IsPart arguments v →
    IsLawful (any_of (containers_in K)) true arguments (named (codes "remove") (path_answer o words (remove_tree v p)))
removed_lawful K (Some other) words arguments v p allowed part = refl
removed_lawful K None (Some words) arguments v p allowed part = refl
removed_lawful K None None arguments v p allowed part =
    answered (any_of (containers_in K)) true arguments (remove_tree v p)
    (loosely_allowed (containers_in K) (remove_tree v p)
    (ap (allows (containers_in K)) (removed_tag v p) ∙ allowed)) (removed_is arguments v p part)

pub remove-law : KeepsLaw remove_row
remove-law = record {
  present = λ givens sources given below. refl;
  lawful = λ givens arguments setting given fit instances below.
      let K = kind_at 0 givens in
      container_only
      (λ a. argument_at 0 arguments ≡ a → IsOfGiven K a → IfSome a IsOrdered
      → IsLawful (any_of (containers_in K)) true arguments
      (named (codes "remove") (removed_at (value_or null a) (value_or null (argument_at 1 arguments)))))
      (argument_at 0 arguments) fit.0.there fit.0.allowed
      (λ v allowed first of ordered.
      arrays_only (λ b. IsLawful (any_of (containers_in K)) true arguments
      (named (codes "remove") (removed_at v (value_or null b))))
      (argument_at 1 arguments) fit.1.0.there fit.1.0.allowed
      (λ ts. removed_lawful K (first_other step_tags ts) (removal_fault (steps_of (trees_in ts))) arguments v
      (steps_of (trees_in ts)) (container_tag K v allowed of) (given_part 0 v arguments first ordered)))
      refl (instances.kinds 0) (instances.ordered 0);
}
