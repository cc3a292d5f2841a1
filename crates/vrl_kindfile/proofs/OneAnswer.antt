-- A file has one answer.
use Rattle.std.proofs.Common.{◌≡◌, ◌⊎◌, ℕ, List, Some, None, inl, inr, refl, sym, ap, ◌∙◌, subst}
use Rattle.vrl_value.specs.Look.{Step}
use Rattle.vrl_value.specs.Tree.{Tree}
use Rattle.vrl_json.specs.Line.{reading_of, not_json, not_whole, whole}
use Rattle.vrl_kind.specs.KindTree.{KindTree}
use Rattle.vrl_kind.specs.Laws.{EqualTagsAreOneKind}
use Rattle.vrl_kindfile.specs.Files.{IsAllowed, IsAtFault, IsKindOf, IsNotJson, IsText}
use Rattle.vrl_kindfile.specs.Laws.{FilesHaveOneAnswer}
use Rattle.vrl_kindfile.specs.Pointer.{pointer_of}

one_tree : (file : List ℕ) (t u : Tree) → IsText file t → IsText file u → t ≡ u
one_tree file t u first second =
    let same : whole t ≡ whole u = sym first.reading ∙ second.reading in
    cc

one_kind_of : EqualTagsAreOneKind → (t u : Tree) (K L : KindTree) → t ≡ u → IsKindOf t K → IsKindOf u L → K ≡ L
one_kind_of told t u K L same first second =
    let again : IsKindOf t L = subst (λ v. IsKindOf v L) (sym same) second in
    told K L first.described.canonical again.described.canonical (λ p v. first.described.tags p v ∙ sym (again.described.tags p v))

one_path : (t : Tree) (p q : List Step) → IsAtFault t p → IsAtFault t q → p ≡ q
one_path t p q (inl first) (inl second) =
    let same : Some p ≡ Some q = sym first ∙ second in
    cc
one_path t p q (inl first) (inr second) =
    let none : Some p ≡ None = sym first ∙ second.1.is_kind.faultless in
    cc
one_path t p q (inr first) (inl second) =
    let none : Some q ≡ None = sym second ∙ first.1.is_kind.faultless in
    cc
one_path t p q (inr first) (inr second) = first.0 ∙ sym second.0

no_kind : EqualTagsAreOneKind → (t : Tree) (K : KindTree) (p : List Step) → IsKindOf t K → IsAllowed K → IsAtFault t p → ⊥
no_kind told t K p is allowed (inl first) =
    let none : Some p ≡ None = sym first ∙ is.faultless in
    cc
no_kind told t K p is allowed (inr second) = second.1.refused (subst IsAllowed (one_kind_of told t t K second.1.kind refl is second.1.is_kind) allowed)

is_json : (file : List ℕ) (t : Tree) → IsText file t → IsNotJson file → ⊥
is_json file t text refused = cases refused.reading where
  cases : (reading_of file ≡ not_json) ⊎ (reading_of file ≡ not_whole) → ⊥
  cases (inl e) =
      let same : whole t ≡ not_json = sym text.reading ∙ e in
      cc
  cases (inr e) =
      let same : whole t ≡ not_whole = sym text.reading ∙ e in
      cc

pub one_answer : EqualTagsAreOneKind → FilesHaveOneAnswer
one_answer told = record {
  one_kind = λ file K L first second. one_kind_of told first.tree second.tree K L (one_tree file first.tree second.tree first.text second.text) first.kind second.kind;
  one_fault = λ file p q first second.
      let same : second.tree ≡ first.tree = one_tree file second.tree first.tree second.text first.text in
      let again : IsAtFault first.tree second.path = subst (λ t. IsAtFault t second.path) same second.at_fault in
      first.is_pointer ∙ ap pointer_of (one_path first.tree first.path second.path first.at_fault again) ∙ sym second.is_pointer;
  kind_or_fault = λ file pointer K first second.
      let same : second.tree ≡ first.tree = one_tree file second.tree first.tree second.text first.text in
      no_kind told first.tree K second.path first.kind first.allowed (subst (λ t. IsAtFault t second.path) same second.at_fault);
  kind_or_not_json = λ file K first refused. is_json file first.tree first.text refused;
  fault_or_not_json = λ file pointer first refused. is_json file first.tree first.text refused;
}
