-- Parts that may be absent, and rests.
use Rattle.std.proofs.Common.{◌≡◌, ℕ, Bool, true, false, List, [], ◌∷◌, ◌++◌, Some, None, bytes_eq, codes, refl, sym, ap, ◌∙◌, subst}
use Rattle.std.proofs.lemmas.Slice.Eq.{bytes_eq-Decides}
use Rattle.vrl_value.specs.Look.{Step, field}
use Rattle.vrl_value.specs.Tree.{Tree, string, integer, boolean, null, timestamp, regex, array, object, Members, no_members, member}
use Rattle.vrl_value.specs.declared.value.Tag.{Tag}
use Rattle.vrl_kind.specs.KindTree.{KindTree, RestTree, nothing, json_rest, exact}
use Rattle.vrl_kind.specs.Kinds.{tags_at, rest_at, json_at, or_absent}
use Rattle.vrl_kind.specs.Tags.{Tags}
use Rattle.vrl_kindfile.specs.Shapes.{is_nothing, only_optional, optional_in}
use Rattle.vrl_kindfile.specs.Descriptions.{alternative_at, described_at, part_given, part_tags}
use Rattle.vrl_kindfile.specs.Faults.{Role, as_description, as_part, as_rest, faults, member_role, members_faults, named_role, under}
use Rattle.vrl_kindfile.specs.Walk.{IsDescription, IsPart, IsRefusal, IsRestOf, IsUnder}
use Rattle.vrl_kindfile.specs.declared.refusal.Refusal.{Refusal}
use Rattle.vrl_kindfile.proofs.Alternatives.{any_single}
use Rattle.vrl_kindfile.proofs.Refusals.{faultless_both, refused_under}

-- members under roles that give each name the same role
members_alike : (role : Role) → ((name : List ℕ) → member_role role name ≡ named_role name) → (ms : Members) → members_faults role ms ≡ members_faults as_description ms
members_alike role named no_members = refl
members_alike role named (member name t ms) = ap (λ r. under (field name) (faults r t) ++ members_faults role ms) (named name) ∙ ap (λ rest. under (field name) (faults (named_role name) t) ++ rest) (members_alike role named ms)

part_members : (ms : Members) → members_faults as_part ms ≡ members_faults as_description ms
part_members = members_alike as_part (λ name. refl)

rest_members : (ms : Members) → members_faults as_rest ms ≡ members_faults as_description ms
rest_members = members_alike as_rest (λ name. refl)

-- a part that isn't optional has the faults of a description
pub part_faults : (t : Tree) → optional_in t ≡ None → faults as_part t ≡ faults as_description t
part_faults (string s) plain = refl
part_faults (integer n) plain = refl
part_faults (boolean b) plain = refl
part_faults null plain = refl
part_faults (timestamp nanos) plain = refl
part_faults (regex n) plain = refl
part_faults (array ts) plain = refl
part_faults (object ms) plain = rw (plain, part_members ms) refl

-- a rest that isn't the word `nothing` has them too
pub rest_faults_are : (t : Tree) → is_nothing t ≡ false → faults as_rest t ≡ faults as_description t
rest_faults_are (string s) plain = rw plain refl
rest_faults_are (integer n) plain = refl
rest_faults_are (boolean b) plain = refl
rest_faults_are null plain = refl
rest_faults_are (timestamp nanos) plain = refl
rest_faults_are (regex n) plain = refl
rest_faults_are (array ts) plain = refl
rest_faults_are (object ms) plain = rw (rest_members ms) refl

only_named : (test : Bool) (name : List ℕ) (t held : Tree) → bytes_eq name (codes "optional") ≡ test → only_optional (member name t no_members) ≡ Some held → (name ≡ codes "optional") × (t ≡ held)
only_named true name t held is e =
    let found : Some t ≡ Some held = rw is at e in
    ((bytes_eq-Decides name (codes "optional")).0 is, cc)
only_named false name t held is e =
    let none : None ≡ Some held = rw is at e in
    cc

optional_member : (name : List ℕ) (t held : Tree) → name ≡ codes "optional" → t ≡ held → faults as_part (object (member name t no_members)) ≡ under (field (codes "optional")) (faults as_description held) ++ []
optional_member name t held is same = rw (is, same) refl

-- the faults of an optional part are those of what it holds
pub optional_faults : (t held : Tree) → optional_in t ≡ Some held → faults as_part t ≡ under (field (codes "optional")) (faults as_description held) ++ []
optional_faults (string s) held e = cc
optional_faults (integer n) held e = cc
optional_faults (boolean b) held e = cc
optional_faults null held e = cc
optional_faults (timestamp nanos) held e = cc
optional_faults (regex n) held e = cc
optional_faults (array ts) held e = cc
optional_faults (object no_members) held e = cc
optional_faults (object (member name t no_members)) held e =
    let parts = only_named (bytes_eq name (codes "optional")) name t held refl e in
    optional_member name t held parts.0 parts.1
optional_faults (object (member name t (member other u ms))) held e = cc

pub optional_refused : (t held : Tree) (r longer : Refusal) → optional_in t ≡ Some held → IsRefusal (faults as_description held) r → IsUnder (field (codes "optional")) r longer → IsRefusal (faults as_part t) longer
optional_refused t held r longer is first under_is = subst (λ paths. IsRefusal paths longer) (sym (optional_faults t held is)) (refused_under (field (codes "optional")) (faults as_description held) [] r longer first under_is)

pub or_absent_same : (p : List Step) (T U : Tags) (u : Tag) → T u ≡ U u → or_absent p T u ≡ or_absent p U u
or_absent_same [] T U u same = rw same refl
or_absent_same (s ∷ p) T U u same = same

pub required_part : (t : Tree) (K : KindTree) → optional_in t ≡ None → IsDescription t K → IsPart t K
required_part t K plain is = record {
  faultless = part_faults t plain ∙ is.faultless;
  tags = λ p u. is.tags p u ∙ ap (λ o. part_tags (part_given o t) p (described_at p) u) (sym plain);
}

pub optional_part : (t held : Tree) (K M : KindTree) → optional_in t ≡ Some held → IsDescription held K → ((p : List Step) → tags_at M p ≡ or_absent p (tags_at K p)) → IsPart t M
optional_part t held K M is of may = record {
  faultless = optional_faults t held is ∙ faultless_both _ _ _ of.faultless refl;
  tags = λ p u. ap (λ T. T u) (may p) ∙ or_absent_same p (tags_at K p) (described_at p held) u (of.tags p u) ∙ ap (λ o. part_tags (part_given o t) p (described_at p) u) (sym is);
}

-- the word `json` describes JSON
pub json_alternative : (p : List Step) (u : Tag) → json_at p u ≡ alternative_at p (string (codes "json")) u
json_alternative [] u = refl
json_alternative (s ∷ p) u = or_absent_same p (json_at p) (described_at p (string (codes "json"))) u (json_alternative p u ∙ any_single (alternative_at p) (string (codes "json")) u)

json_described : (p : List Step) (u : Tag) → json_at p u ≡ described_at p (string (codes "json")) u
json_described p u = json_alternative p u ∙ any_single (alternative_at p) (string (codes "json")) u

pub rest_left_out : IsRestOf None json_rest
rest_left_out = record { faultless = refl; tags = λ p u. or_absent_same p (json_at p) (described_at p (string (codes "json"))) u (json_described p u) }

nothing_faults : (t : Tree) → is_nothing t ≡ true → faults as_rest t ≡ []
nothing_faults (string s) is = rw is refl
nothing_faults (integer n) is = cc
nothing_faults (boolean b) is = cc
nothing_faults null is = cc
nothing_faults (timestamp nanos) is = cc
nothing_faults (regex n) is = cc
nothing_faults (array ts) is = cc
nothing_faults (object ms) is = cc

pub rest_of_nothing : (t : Tree) → is_nothing t ≡ true → IsRestOf (Some t) nothing
rest_of_nothing t is = record { faultless = rw (nothing_faults t is) refl; tags = λ p u. rw is refl }

pub rest_of_kind : (t : Tree) (K : KindTree) (R : RestTree) → is_nothing t ≡ false → R ≡ exact K → IsDescription t K → IsRestOf (Some t) R
rest_of_kind t K R plain is of = record {
  faultless = rw (rest_faults_are t plain, of.faultless) refl;
  tags = λ p u. ap (λ r. rest_at r p u) is ∙ or_absent_same p (tags_at K p) (described_at p t) u (of.tags p u) ∙ rw plain refl;
}
