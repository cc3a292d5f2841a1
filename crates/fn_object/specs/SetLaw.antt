-- `set` keeps the law.
use Rattle.std.specs.Prelude.{◌≡◌, ℕ, true, List, [], ◌∷◌, Option, Some, None, codes, IfSome, refl}
use Rattle.vrl_value.specs.Tree.{Tree, null, array, IsOrdered}
use Rattle.vrl_value.specs.declared.value.Tag.{Tag}
use Rattle.vrl_path.specs.Trees.{set_tree}
use Rattle.vrl_path.specs.declared.path.Step.{Step}
use Rattle.vrl_builtin.specs.Law.{KeepsLaw, IsLawful}
use Rattle.vrl_builtin.specs.Rows.{named, argument_at, value_or}
use Rattle.vrl_builtin.specs.TagSets.{containers}
use Rattle.vrl_builtin.specs.Words.{first_other}
use Rattle.vrl_builtin.proofs.GivenTags.{arrays_only, some_only}
use Rattle.vrl_builtin.specs.Listed.{trees_in}
use Rattle.vrl_builtin.specs.AnyParts.{any_of}
use Rattle.vrl_builtin.proofs.AnswerParts.{answered, given_part, IsPart}
use Rattle.vrl_builtin.proofs.AnyParts.{loosely_allowed}
use Rattle.fn_object.specs.PathLaw.{set_is, set_tag}
use Rattle.fn_object.specs.Paths.{path_answer, step_tags, steps_of, write_fault}
use Rattle.fn_object.specs.Set.{set_at, set_row}

set_on : (o : Option (ℕ × Tag)) (words : Option (List ℕ)) (arguments : List (Option Tree)) (v : Tree) (s : Step)
    (p : List Step) (n : Tree) → IsPart arguments v → IsPart arguments n →
    IsLawful (any_of containers) true arguments (named (codes "set") (path_answer o words (set_tree v (s ∷ p) n)))
set_on (Some other) words arguments v s p n old new = refl
set_on None (Some words) arguments v s p n old new = refl
set_on None None arguments v s p n old new =
    answered (any_of containers) true arguments (set_tree v (s ∷ p) n)
    (loosely_allowed containers (set_tree v (s ∷ p) n) (set_tag v s p n))
    (set_is arguments v (s ∷ p) n old new)

set_lawful : (o : Option (ℕ × Tag)) (arguments : List (Option Tree)) (v : Tree) (p : List Step) (n : Tree)
    → IsPart arguments v → IsPart arguments n →
    IsLawful (any_of containers) true arguments (named (codes "set") (path_answer o (write_fault p) (set_tree v p n)))
set_lawful (Some other) arguments v [] n old new = refl
set_lawful None arguments v [] n old new = refl
set_lawful o arguments v (s ∷ p) n old new = set_on o (write_fault (s ∷ p)) arguments v s p n old new

pub set-law : KeepsLaw set_row
set-law = record {
  present = λ givens sources given below. refl;
  lawful = λ givens arguments setting given fit instances below.
      some_only (λ a. argument_at 0 arguments ≡ a → IfSome a IsOrdered
      → IsLawful (any_of containers) true arguments
      (named (codes "set")
      (set_at (value_or null a) (value_or null (argument_at 1 arguments))
      (value_or null (argument_at 2 arguments)))))
      (argument_at 0 arguments) fit.0.there
      (λ v first ordered.
      arrays_only (λ b. IsLawful (any_of containers) true arguments
      (named (codes "set") (set_at v (value_or null b) (value_or null (argument_at 2 arguments)))))
      (argument_at 1 arguments) fit.1.0.there fit.1.0.allowed
      (λ ts.
      some_only (λ c. argument_at 2 arguments ≡ c → IfSome c IsOrdered
      → IsLawful (any_of containers) true arguments (named (codes "set") (set_at v (array ts) (value_or null c))))
      (argument_at 2 arguments) fit.1.1.0.there
      (λ n third in_order. set_lawful (first_other step_tags ts) arguments v (steps_of (trees_in ts)) n
      (given_part 0 v arguments first ordered) (given_part 2 n arguments third in_order))
      refl (instances.ordered 2)))
      refl (instances.ordered 0);
}
