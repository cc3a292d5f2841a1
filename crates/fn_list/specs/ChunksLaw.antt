-- `chunks` keeps the law.
use Rattle.std.specs.Prelude.{◌≡◌, pos, true, [], map, Option, Some, None, codes, unsigned_abs, IsTrue, IfSome, refl}
use Rattle.std.proofs.Common.{sym, ap, ◌∙◌}
use Rattle.vrl_value.specs.Tree.{Tree, string, integer, array}
use Rattle.vrl_value.specs.View.{items_of_trees}
use Rattle.vrl_value.specs.declared.value.Tag.TheVariants as tag
use Rattle.vrl_kind.specs.Kinds.{only_at}
use Rattle.vrl_builtin.specs.Containers.{array_of}
use Rattle.vrl_builtin.specs.Law.{KeepsLaw, IsLawful}
use Rattle.vrl_builtin.specs.Rows.{value, failure, named, argument_at, integer_at, integer_or, literal_at, text_at}
use Rattle.vrl_builtin.proofs.Containers.{array_is_lawful, each_text, plain_part, IsLawfulPart}
use Rattle.vrl_builtin.proofs.Lawful.{choice_is}
use Rattle.fn_list.specs.Chunks.{chunks_row, is_small, may_be_small, pieces_of}

small_fails : (literal argument : Option Tree) → IfSome literal (λ v. argument ≡ Some v)
    → is_small (integer_or (pos 1) argument) ≡ true → IsTrue (may_be_small literal)
small_fails None argument same small = refl
small_fails (Some (integer n)) argument same small = sym (ap (λ a. is_small (integer_or (pos 1) a)) same) ∙ small
small_fails (Some v) argument same small = refl

pub chunks-law : KeepsLaw chunks_row
chunks-law = record {
  present = λ givens sources given below. refl;
  lawful = λ givens arguments setting given fit instances below.
      let n = integer_at 1 (pos 1) arguments in let s = text_at 0 [] arguments in let fails = may_be_small
      (literal_at 1 givens) in let A = only_at tag.Text in
      choice_is (λ answer. IsLawful (array_of A) fails arguments (named (codes "chunks") answer)) (is_small n)
      (failure (codes "chunk_size below 1"))
      (value (array (items_of_trees (map string (pieces_of (unsigned_abs n) s)))))
      (small_fails (literal_at 1 givens) (argument_at 1 arguments) (instances.literals 1))
      (λ other. array_is_lawful A fails arguments _
      (each_text (IsLawfulPart A arguments) (pieces_of (unsigned_abs n) s)
      (λ t. plain_part A arguments (string t) tt refl)));
}
