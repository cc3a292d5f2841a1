-- The fields of a match are of the kind that is known of them.
use Rattle.std.specs.Prelude.{◌≡◌, ◌≢◌, ℕ, suc, Bool, true, false, ◌&&◌, ◌||◌, not, List, [], ◌∷◌, Option, Some, None, IsTrue, IfSome, bytes_eq, decimal, is_some, refl, if◌then◌else◌}
use Rattle.std.proofs.Common.{sym, ap, ◌∙◌}
use Rattle.std.proofs.lemmas.Bool.{false_from_ne_true, true≢false}
use Rattle.std.proofs.lemmas.Slice.Eq.{bytes_eq-Decides}
use Rattle.std.proofs.Math.Bool.{and-false, or-false}
use Rattle.std.specs.List.{list_any}
use Rattle.vrl_value.specs.Look.{Step, field, place, found_behind, found_if, raw_at, tag_found}
use Rattle.vrl_value.specs.Tree.{Tree, null, object, Members, no_members, find, put, MembersAreOrdered}
use Rattle.vrl_value.specs.declared.value.Tag.TheVariants as tag
use Rattle.vrl_value.proofs.Members.{find-put, find-put_other}
use Rattle.vrl_value.proofs.Order.{put_ordered}
use Rattle.vrl_builtin.specs.Law.{IsLawful}
use Rattle.vrl_builtin.specs.Rows.{value}
use Rattle.vrl_builtin.proofs.Containers.{each_found, each_put, object_is_lawful, plain_part, EachMember, IsLawfulPart}
use Rattle.fn_search.specs.Fields.{absent_kind, fields, fields_kind, first_group, is_named, later_groups, named_kind, text_or_null, text_or_null_kind, with_named, with_names, with_numbers}

-- ---- each field is a text or null

record AreFields (arguments : List (Option Tree)) (ms : Members) : Type 0 where
  pub each : EachMember (IsLawfulPart text_or_null_kind arguments) ms
  pub ordered : MembersAreOrdered ms

put_one : (arguments : List (Option Tree)) (k s : List ℕ) (g : Option (ℕ × ℕ)) (ms : Members) → AreFields arguments ms
    → AreFields arguments (put k (text_or_null s g) ms)
put_one arguments k s None ms are = record {
  each = each_put (IsLawfulPart text_or_null_kind arguments) k null ms
      (plain_part text_or_null_kind arguments null tt refl) are.each;
  ordered = put_ordered k null ms tt are.ordered;
}
put_one arguments k s (Some g) ms are = record {
  each = each_put (IsLawfulPart text_or_null_kind arguments) k (text_or_null s (Some g)) ms
      (plain_part text_or_null_kind arguments (text_or_null s (Some g)) tt refl) are.each;
  ordered = put_ordered k (text_or_null s (Some g)) ms tt are.ordered;
}

put_name : (arguments : List (Option Tree)) (k s : List ℕ) (g : Option (ℕ × ℕ)) (ms : Members) → AreFields arguments ms
    → AreFields arguments (with_named k (text_or_null s g) ms)
put_name arguments [] s g ms are = are
put_name arguments (b ∷ k) s g ms are = put_one arguments (b ∷ k) s g ms are

put_names : (arguments : List (Option Tree)) (names : List (List ℕ)) (s : List ℕ) (gs : List (Option (ℕ × ℕ)))
    (ms : Members) → AreFields arguments ms → AreFields arguments (with_names names s gs ms)
put_names arguments [] s gs ms are = are
put_names arguments (name ∷ names) s gs ms are =
    put_names arguments names s (later_groups gs) _ (put_name arguments name s (first_group gs) ms are)

put_numbers : (arguments : List (Option Tree)) (n : ℕ) (s : List ℕ) (gs : List (Option (ℕ × ℕ))) (ms : Members)
    → AreFields arguments ms → AreFields arguments (with_numbers n s gs ms)
put_numbers arguments n s [] ms are = are
put_numbers arguments n s (g ∷ gs) ms are =
    put_numbers arguments (suc n) s gs _ (put_one arguments (decimal n) s g ms are)

are_named : (arguments : List (Option Tree)) (names : List (List ℕ)) (s : List ℕ) (gs : List (Option (ℕ × ℕ)))
    → AreFields arguments (with_names names s gs no_members)
are_named arguments names s gs = put_names arguments names s gs no_members (record { each = tt; ordered = tt })

-- ---- there is one for each name

not_and : (b : Bool) → (not b && b) ≡ false
not_and true = refl
not_and false = refl

-- whether a group of this name makes the field
abbrev makes : List ℕ → List ℕ → Bool
makes name k = not (bytes_eq k []) && bytes_eq k name

apart : (k l : List ℕ) → k ≢ l → bytes_eq k l ≡ false
apart k l other = false_from_ne_true (bytes_eq k l) (λ is. other ((bytes_eq-Decides k l).0 is))

some_is : {A : Type 0} (o : Option A) (a : A) → o ≡ Some a → is_some o ≡ true
some_is o a is = ap is_some is

one_name : (b : ℕ) (name k : List ℕ) (t : Tree) (ms : Members) (same : Bool) → bytes_eq k (b ∷ name) ≡ same →
    is_some (find k (put (b ∷ name) t ms)) ≡ ((not (bytes_eq k []) && same) || is_some (find k ms))
one_name b name k t ms true same =
    let is : k ≡ b ∷ name = (bytes_eq-Decides k (b ∷ name)).0 same in
    let some : bytes_eq k [] ≡ false = apart k [] (λ none. absurd cc) in
    ap (λ l. is_some (find l (put (b ∷ name) t ms))) is ∙ some_is _ t (find-put (b ∷ name) t ms)
    ∙ sym (ap (λ e. (not e && true) || is_some (find k ms)) some)
one_name b name k t ms false same =
    let other : ¬ (k ≡ b ∷ name) = λ is. true≢false (sym ((bytes_eq-Decides k (b ∷ name)).1 is) ∙ same) in
    ap is_some (find-put_other k (b ∷ name) t ms other)
    ∙ sym (ap (λ e. e || is_some (find k ms)) (and-false (not (bytes_eq k []))))

has_name : (name k : List ℕ) (t : Tree) (ms : Members)
    → is_some (find k (with_named name t ms)) ≡ (makes name k || is_some (find k ms))
has_name [] k t ms = sym (ap (λ e. e || is_some (find k ms)) (not_and (bytes_eq k [])))
has_name (b ∷ name) k t ms = one_name b name k t ms (bytes_eq k (b ∷ name)) refl

joined_tests : (e a b f : Bool) → ((e && b) || ((e && a) || f)) ≡ ((e && (a || b)) || f)
joined_tests true true true f = refl
joined_tests true true false f = refl
joined_tests true false true f = refl
joined_tests true false false f = refl
joined_tests false a b f = refl

has_names : (names : List (List ℕ)) (s : List ℕ) (gs : List (Option (ℕ × ℕ))) (ms : Members) (k : List ℕ)
    → is_some (find k (with_names names s gs ms)) ≡ (is_named names k || is_some (find k ms))
has_names [] s gs ms k = sym (ap (λ e. e || is_some (find k ms)) (and-false (not (bytes_eq k []))))
has_names (name ∷ names) s gs ms k =
    has_names names s (later_groups gs) (with_named name (text_or_null s (first_group gs)) ms) k
    ∙ ap (λ f. is_named names k || f) (has_name name k (text_or_null s (first_group gs)) ms)
    ∙ joined_tests (not (bytes_eq k [])) (bytes_eq k name) (list_any (bytes_eq k) names) (is_some (find k ms))

all_named : (names : List (List ℕ)) (s : List ℕ) (gs : List (Option (ℕ × ℕ))) (k : List ℕ)
    → is_some (find k (with_names names s gs no_members)) ≡ is_named names k
all_named names s gs k = has_names names s gs no_members k ∙ or-false (is_named names k)

-- ---- so they are of the kind

then_so : (b x y : Bool) → b ≡ true → IsTrue x → IsTrue (if b then x else y)
then_so true x y is holds = holds
then_so false x y is holds = absurd (true≢false (sym is))

else_so : (b x y : Bool) → b ≡ false → IsTrue y → IsTrue (if b then x else y)
else_so true x y is holds = absurd (true≢false is)
else_so false x y is holds = holds

if_some_so : {A : Type 0} (P Q : A → Type 0) (o : Option A) → ((a : A) → P a → Q a) → IfSome o P → IfSome o Q
if_some_so P Q None so is = tt
if_some_so P Q (Some a) so is = so a is

field_is_allowed : (arguments : List (Option Tree)) (names : List (List ℕ)) (k : List ℕ) (p : List Step)
    (o : Option Tree) → is_some o ≡ is_named names k → IfSome o (IsLawfulPart text_or_null_kind arguments) →
    IfSome (tag_found (found_behind (found_if o) p (λ u. raw_at u p))) (λ t. IsTrue (named_kind names (field k ∷ p) t))
field_is_allowed arguments names k [] None has part =
    else_so (is_named names k) (text_or_null_kind [] tag.Absent) (absent_kind [] tag.Absent) (sym has) refl
field_is_allowed arguments names k (step ∷ p) None has part = tt
field_is_allowed arguments names k p (Some v) has part =
    if_some_so (λ t. IsTrue (text_or_null_kind p t)) (λ t. IsTrue (named_kind names (field k ∷ p) t))
    (tag_found (raw_at v p))
    (λ t is. then_so (is_named names k) (text_or_null_kind p t) (absent_kind p t) (sym has) is) (part.allowed p)

named_is_lawful : (names : List (List ℕ)) (fails : Bool) (arguments : List (Option Tree)) (ms : Members)
    → AreFields arguments ms → ((k : List ℕ) → is_some (find k ms) ≡ is_named names k) →
    IsLawful (named_kind names) fails arguments (value (object ms))
named_is_lawful names fails arguments ms are has =
    let open_kind = object_is_lawful text_or_null_kind fails arguments ms are.each are.ordered in (
      allowed,
      open_kind.1,
      open_kind.2,
    )
  where
    allowed : (p : List Step) → IfSome (tag_found (raw_at (object ms) p)) (λ t. IsTrue (named_kind names p t))
    allowed [] = refl
    allowed (place i ∷ p) = tt
    allowed (field k ∷ p) = field_is_allowed arguments names k p (find k ms) (has k)
        (each_found (IsLawfulPart text_or_null_kind arguments) k ms are.each)

pub fields_are_lawful : (names : List (List ℕ)) (numbered : Bool) (s : List ℕ) (gs : List (Option (ℕ × ℕ)))
    (fails : Bool) (arguments : List (Option Tree)) →
    IsLawful (fields_kind names numbered) fails arguments (value (object (fields names numbered s gs)))
fields_are_lawful names true s gs fails arguments =
    let are = put_numbers arguments 0 s gs _ (are_named arguments names s gs) in
    object_is_lawful text_or_null_kind fails arguments (fields names true s gs) are.each are.ordered
fields_are_lawful names false s gs fails arguments =
    named_is_lawful names fails arguments (with_names names s gs no_members) (are_named arguments names s gs)
    (all_named names s gs)
