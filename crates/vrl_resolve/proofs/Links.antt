-- What the calls of a linker say of it, one behind the other.
use Rattle.std.proofs.Common.{◌≡◌, ℕ, suc, ◌+◌, List, [], ◌∷◌, drop, map, refl, sym, ap, ◌∙◌, subst, drop-drop}
use Rattle.std.proofs.Math.Seq.{drop-nil}
use Rattle.std.proofs.lemmas.Result.{IfOk-weaker}
use Rattle.std.specs.Prelude.{IfOk, ⊤}
use Rattle.std.specs.declared.result.Result.{Result}
use Rattle.std.specs.String.{string_bytes}
use Rattle.vrl_value.specs.declared.memory.Memory.{Memory}
use Rattle.vrl_value.specs.declared.value.Tag.{Tag}
use Rattle.vrl_syntax.specs.ErrorAssignments.{in_expr, other_tags}
use Rattle.vrl_syntax.specs.Tree.{Expr, expr, Form, group}
use Rattle.vrl_syntax.specs.View.{expr_of}
use Rattle.vrl_syntax.specs.declared.tree.Expr.{Expr as CodeExpr}
use Rattle.vrl_diag.specs.declared.diagnostic.Span.{Span}
use Rattle.vrl_store.specs.StoreView.{Names}
use Rattle.vrl_resolve.specs.Linked.{Linked, linked_of}
use Rattle.vrl_resolve.specs.Linking.{names_in, a_group, stands, IsBeginning, IsLinked, IsLinkedForm, Links, LinksForm, Numbers}
use Rattle.vrl_resolve.specs.declared.link.Linker.{Linker}
use Rattle.vrl_resolve.specs.declared.node.Node.{Node}
use Rattle.vrl_resolve.proofs.Begins.{begins_behind, begins_itself}

pub numbers_weaker : {a b : Linker} {P Q : Names → Type 0} → ((names : Names) → P names → Q names) → Numbers a b P → Numbers a b Q
numbers_weaker follows one = record { grows = one.grows; tags = one.tags; so = λ names begins. follows names (one.so names begins) }

pub links_weaker : {a b : Linker} {count : ℕ} {P Q : Names → List Tag → Type 0} → ((names : Names) → P names a.tags.left.now → Q names a.tags.left.now) → Links a b count P → Links a b count Q
links_weaker follows one = record { grows = one.grows; behind = one.behind; so = λ names begins. follows names (one.so names begins) }

pub numbers_then : {a b c : Linker} {P Q : Names → Type 0} → Numbers a b P → Numbers b c Q → Numbers a c (λ names. P names × Q names)
numbers_then {a} {b} {c} one two = record {
  grows = begins_behind (names_in a) (names_in b) (names_in c) one.grows two.grows;
  tags = two.tags ∙ one.tags;
  so = λ names begins. (one.so names (begins_behind (names_in b) (names_in c) names two.grows begins), two.so names begins);
}

-- with what is so of all names that begin with those before
pub links_with : {a b : Linker} {count : ℕ} {P : Names → Type 0} {Q : Names → List Tag → Type 0} → ((names : Names) → IsBeginning (names_in a) names → P names) → Links a b count Q → Links a b count (λ names tags. P names × Q names tags)
links_with {a} {b} holds links = record {
  grows = links.grows;
  behind = links.behind;
  so = λ names begins. (holds names (begins_behind (names_in a) (names_in b) names links.grows begins), links.so names begins);
}

-- nothing is done
pub links_itself : (a : Linker) {P : Names → List Tag → Type 0} → ((names : Names) → P names a.tags.left.now) → Links a a 0 P
links_itself a holds = record { grows = begins_itself (names_in a); behind = refl; so = λ names begins. holds names }

pub links_numbers : {a b : Linker} {P : Names → Type 0} → Numbers a b P → Links a b 0 (λ names tags. P names)
links_numbers one = record { grows = one.grows; behind = one.tags; so = one.so }

pub links_then : {a b c : Linker} {m n : ℕ} {P Q : Names → List Tag → Type 0} → Links a b m P → Links b c n Q → Links a c (m + n) (λ names tags. P names tags × Q names (drop m tags))
links_then {a} {b} {c} {m} {n} {P} {Q} one two = record {
  grows = begins_behind (names_in a) (names_in b) (names_in c) one.grows two.grows;
  behind = two.behind ∙ ap (drop n) one.behind ∙ drop-drop n m a.tags.left.now;
  so = λ names begins. (one.so names (begins_behind (names_in b) (names_in c) names two.grows begins), subst (Q names) one.behind (two.so names begins));
}

pub links_and_numbers : {a b c : Linker} {m : ℕ} {P : Names → List Tag → Type 0} {Q : Names → Type 0} → Links a b m P → Numbers b c Q → Links a c m (λ names tags. P names tags × Q names)
links_and_numbers {a} {b} {c} one two = record {
  grows = begins_behind (names_in a) (names_in b) (names_in c) one.grows two.grows;
  behind = two.tags ∙ one.behind;
  so = λ names begins. (one.so names (begins_behind (names_in b) (names_in c) names two.grows begins), two.so names begins);
}

pub numbers_and_links : {a b c : Linker} {m : ℕ} {P : Names → Type 0} {Q : Names → List Tag → Type 0} → Numbers a b P → Links b c m Q → Links a c m (λ names tags. P names × Q names tags)
numbers_and_links {a} {b} {c} {m} {P} {Q} one two = record {
  grows = begins_behind (names_in a) (names_in b) (names_in c) one.grows two.grows;
  behind = two.behind ∙ ap (drop m) one.tags;
  so = λ names begins. (one.so names (begins_behind (names_in b) (names_in c) names two.grows begins), subst (Q names) one.tags (two.so names begins));
}

-- a tag is taken first
drop_other : (m : ℕ) (tags : List Tag) → drop m (other_tags tags) ≡ drop (suc m) tags
drop_other m [] = drop-nil m ∙ sym (drop-nil {A = Tag} (suc m))
drop_other m (t ∷ tags) = refl

pub links_behind_tag : {a b c : Linker} {m : ℕ} {Q : Names → List Tag → Type 0} → names_in b ≡ names_in a → b.tags.left.now ≡ other_tags a.tags.left.now → Links b c m Q → Links a c (suc m) (λ names tags. Q names (other_tags tags))
links_behind_tag {a} {b} {c} {m} {Q} same others two = record {
  grows = subst (λ names. IsBeginning names (names_in c)) same two.grows;
  behind = two.behind ∙ ap (drop m) others ∙ drop_other m a.tags.left.now;
  so = λ names begins. subst (Q names) others (two.so names begins);
}

-- tags are passed over
pub links_passed : (a b : Linker) (count : ℕ) → names_in b ≡ names_in a → b.tags.left.now ≡ drop count a.tags.left.now → Links a b count (λ names tags. ⊤)
links_passed a b count same passed = record { grows = subst (IsBeginning (names_in a)) (sym same) (begins_itself (names_in a)); behind = passed; so = λ names begins. tt }

-- ---- a form of an expression

pub form_stands : {a b : Linker} {n : Linked} (e : Expr) (span : Span) (f : Form) → e ≡ expr span f → LinksForm a b f n → Links a b (in_expr e) (λ names tags. IsLinked names tags e n)
form_stands {a} {b} {n} e span f is links =
    subst (λ x. Links a b (in_expr x) (λ names tags. IsLinked names tags x n)) (sym is) (record { grows = links.grows; behind = links.behind; so = λ names begins. stands (links.so names begins) })

-- what the function of a form gives is the node of the expression
pub form_given : (a b : Linker) (r : Result Node Memory) (e : CodeExpr) (f : Form) → IfOk r (λ node. LinksForm a b f (linked_of node)) → expr_of e ≡ expr e.span f
    → IfOk r (λ node. Links a b (in_expr (expr_of e)) (λ names tags. IsLinked names tags (expr_of e) (linked_of node)))
form_given a b r e f given is = IfOk-weaker r _ _ (λ node links. form_stands (expr_of e) e.span f is links) given

-- ---- a form is made

pub form_made : {a b : Linker} {count : ℕ} {P : Names → List Tag → Type 0} (f : Form) (m n : Linked) → m ≡ n → ((names : Names) → P names a.tags.left.now → IsLinkedForm names a.tags.left.now f n) → Links a b count P
    → Links a b count (λ names tags. IsLinkedForm names tags f m)
form_made {a} {b} {count} f m n is made one =
    links_weaker (λ names holds. subst (IsLinkedForm names a.tags.left.now f) (sym is) (made names holds)) one

pub group_stands : {a b : Linker} {n : Linked} (e part : Expr) (span : Span) → e ≡ expr span (group part) → Links a b (in_expr part) (λ names tags. IsLinked names tags part n) → Links a b (in_expr e) (λ names tags. IsLinked names tags e n)
group_stands {a} {b} {n} e part span is links = form_stands e span (group part) is (links_weaker (λ names one. a_group one) links)

pub same_names : (a b : Linker) → b.names ≡ a.names → names_in b ≡ names_in a
same_names a b same = λ i. map string_bytes (same i).keys
