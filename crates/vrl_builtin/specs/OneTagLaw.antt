-- A function whose results have one tag keeps the law.
use Rattle.std.specs.Prelude.{◌≡◌, ℕ, Bool, true, List, [], ◌∷◌, Option, IsTrue, refl}
use Rattle.std.proofs.Common.{sym}
use Rattle.vrl_value.specs.Look.{Step, raw_at, there}
use Rattle.vrl_value.specs.Tag.{tag_of}
use Rattle.vrl_value.specs.Tree.{Tree, string, integer, boolean, null, timestamp, regex, array, object, IsOrdered}
use Rattle.vrl_value.specs.declared.value.Tag.{Tag}
use Rattle.vrl_value.specs.declared.value.Tag.TheVariants as tag
use Rattle.vrl_kind.specs.Kinds.{only_at}
use Rattle.vrl_kind.specs.Sets.{Sets, IsAllowed}
use Rattle.vrl_kind.specs.Tags.{same_tag}
use Rattle.vrl_builtin.specs.Law.{IsLawful, KeepsLaw}
use Rattle.vrl_builtin.specs.OneTag.{whole_row, IsOneTag, IsPlain, KeepsOneTag, OneTagRow}
use Rattle.vrl_builtin.specs.Rows.{Answer, value, failure, named}

-- ---- a value without parts

pub plain_is_of : (v : Tree) (A : Sets) → IsPlain v → IsTrue (A [] (tag_of v)) → IsAllowed v A
plain_is_of v A plain allowed [] = allowed
plain_is_of (string s) A plain allowed (step ∷ p) = tt
plain_is_of (integer n) A plain allowed (step ∷ p) = tt
plain_is_of (boolean b) A plain allowed (step ∷ p) = tt
plain_is_of null A plain allowed (step ∷ p) = tt
plain_is_of (timestamp nanos) A plain allowed (step ∷ p) = tt
plain_is_of (regex n) A plain allowed (step ∷ p) = absurd plain
plain_is_of (array ts) A plain allowed (step ∷ p) = absurd plain
plain_is_of (object ms) A plain allowed (step ∷ p) = absurd plain

pub no_regex : (v : Tree) → IsPlain v → (n : ℕ) (p : List Step) → raw_at v p ≡ there (regex n) → ⊥
no_regex (string s) plain n [] e = cc
no_regex (integer m) plain n [] e = cc
no_regex (boolean b) plain n [] e = cc
no_regex null plain n [] e = cc
no_regex (timestamp nanos) plain n [] e = cc
no_regex (string s) plain n (step ∷ p) e = cc
no_regex (integer m) plain n (step ∷ p) e = cc
no_regex (boolean b) plain n (step ∷ p) e = cc
no_regex null plain n (step ∷ p) e = cc
no_regex (timestamp nanos) plain n (step ∷ p) e = cc
no_regex (regex m) plain n p e = plain
no_regex (array ts) plain n p e = plain
no_regex (object ms) plain n p e = plain

pub plain_is_ordered : (v : Tree) → IsPlain v → IsOrdered v
plain_is_ordered (string s) plain = tt
plain_is_ordered (integer n) plain = tt
plain_is_ordered (boolean b) plain = tt
plain_is_ordered null plain = tt
plain_is_ordered (timestamp nanos) plain = tt
plain_is_ordered (regex n) plain = absurd plain
plain_is_ordered (array ts) plain = absurd plain
plain_is_ordered (object ms) plain = absurd plain

-- a value without parts whose tag is allowed
pub plain_is_lawful : (v : Tree) (A : Sets) (fails : Bool) (arguments : List (Option Tree)) → IsPlain v
    → IsTrue (A [] (tag_of v)) → IsLawful A fails arguments (value v)
plain_is_lawful v A fails arguments plain allowed = (
  plain_is_of v A plain allowed,
  plain_is_ordered v plain,
  λ n holds. absurd (no_regex v plain n holds.0 holds.1),
)

-- ---- its tag

self_same : (t u : Tag) → t ≡ u → same_tag u t ≡ true
self_same tag.Text u is = rw (sym is) refl
self_same tag.Int u is = rw (sym is) refl
self_same tag.Bool u is = rw (sym is) refl
self_same tag.Null u is = rw (sym is) refl
self_same tag.Time u is = rw (sym is) refl
self_same tag.Pattern u is = rw (sym is) refl
self_same tag.List u is = rw (sym is) refl
self_same tag.Object u is = rw (sym is) refl
self_same tag.Absent u is = rw (sym is) refl

pub one_tag_is_lawful : (t : Tag) (fails : Bool) (name : List ℕ) (arguments : List (Option Tree)) (answer : Answer)
    → IsOneTag t fails answer → IsLawful (only_at t) fails arguments (named name answer)
one_tag_is_lawful t fails name arguments (value v) is =
    plain_is_lawful v (only_at t) fails arguments is.0 (self_same (tag_of v) t is.1)
one_tag_is_lawful t fails name arguments (failure words) is = is

pub one_tag-law : (r : OneTagRow) → KeepsOneTag r → KeepsLaw (whole_row r)
one_tag-law r keeps = record {
  present = λ givens sources given below. keeps.present;
  lawful = λ givens arguments setting given fit instances below.
      one_tag_is_lawful r.tag (r.may_fail givens) r.name arguments (r.means arguments setting)
      (keeps.lawful givens arguments setting fit instances);
}
