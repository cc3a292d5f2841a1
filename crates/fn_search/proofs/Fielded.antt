-- The fields of a match, and the kind that is known of them, one after the other.
use Rattle.std.proofs.Common.{◌≡◌, ℕ, suc, ◌+◌, ◌<◌, Bool, true, false, ◌&&◌, ◌||◌, not, if◌then◌else◌, List, [], ◌∷◌, ◌++◌, map, take, length, decimal, Option, Some, None, IfSome, bytes_eq, option_map, get_or, refl, append_assoc, sym, ap, subst, ◌∙◌, arith}
use Rattle.std.proofs.lemmas.Bool.{true≢false}
use Rattle.std.proofs.lemmas.List.{take_more}
use Rattle.std.proofs.lemmas.List.Elements.{All-tail}
use Rattle.std.proofs.lemmas.Map.Text.{is_eq-slice_cmp}
use Rattle.std.proofs.lemmas.Slice.Eq.{bytes_eq-Decides}
use Rattle.std.proofs.Math.Bool.{and-false}
use Rattle.std.specs.List.{list_any}
use Rattle.std.specs.Ordering.{is_eq, match_ordering, nat_cmp}
use Rattle.std.specs.Cmp.Lexicographic.{slice_cmp}
use Rattle.std.specs.declared.cmp.Ordering.{Ordering}
use Rattle.std.specs.declared.cmp.Ordering.TheVariants.{Less, Equal, Greater}
use Rattle.vrl_value.specs.Look.{Step, field, place}
use Rattle.vrl_value.specs.Tree.{Members, put}
use Rattle.vrl_value.specs.declared.value.Tag.{Tag}
use Rattle.vrl_value.specs.declared.value.Tag.TheVariants as tag
use Rattle.vrl_kind.specs.KindTree.{KindTree, KnownFields, no_fields, known_field, RestTree, nothing}
use Rattle.vrl_kind.specs.Kinds.{fields_at, rest_at, root_tags, tags_at, SameTags}
use Rattle.vrl_kind.specs.Make.{last_first, named_view, object_kind}
use Rattle.vrl_kind.specs.Sets.{SameSets}
use Rattle.vrl_kind.specs.Tags.{Tags, same_tag}
use Rattle.vrl_pattern.specs.Places.{place_span, place_spans, AreParts, IsPart}
use Rattle.vrl_pattern.specs.declared.place.Place.{Place}
use Rattle.fn_search.specs.Fields.{absent_kind, first_group, is_named, later_groups, named_kind, text_or_null, text_or_null_kind, with_numbers}
use Rattle.fn_search.specs.Known.{AreKnown, IsOneMore}

-- ---- groups

pub parts_later : (text : List ℕ) (gs : List (Option (ℕ × ℕ))) → AreParts text gs → AreParts text (later_groups gs)
parts_later text [] are = are
parts_later text (g ∷ gs) are = All-tail (λ s. IfSome s (IsPart text)) g gs are

pub part_of : (text : List ℕ) (o : Option Place) → IfSome (option_map place_span o) (IsPart text) → IfSome o (λ p. IsPart text (place_span p))
part_of text None part = tt
part_of text (Some p) part = part

pub number_step : (n next : ℕ) (s : List ℕ) (gs : List (Option (ℕ × ℕ))) (ms : Members) → next ≡ suc n → 0 < length gs →
    with_numbers next s (later_groups gs) (put (decimal n) (text_or_null s (first_group gs)) ms) ≡ with_numbers n s gs ms
number_step n next s [] ms step some = absurd (omega arith)
number_step n next s (g ∷ gs) ms step some = ap (λ k. with_numbers k s gs (put (decimal n) (text_or_null s g) ms)) step

pub later_length : (gs : List (Option (ℕ × ℕ))) → 0 < length gs → length (later_groups gs) + 1 ≡ length gs
later_length [] some = absurd (omega arith)
later_length (g ∷ gs) some = omega arith

pub spans_length : (ps : List (Option Place)) → length (place_spans ps) ≡ length ps
spans_length [] = refl
spans_length (p ∷ ps) = ap suc (spans_length ps)

-- ---- known fields

known_more : (names : List (List ℕ)) (name : List ℕ) (known after : List (List ℕ × KindTree)) → AreKnown names known → IsOneMore name known after → AreKnown (names ++ name ∷ []) after
known_more [] [] known after are more = more ∙ are
known_more [] (b ∷ name) known after are more =
    subst (AreKnown ((b ∷ name) ∷ [])) (sym (more.2 ∙ ap (λ es. es ++ ((b ∷ name, more.0) ∷ [])) are)) (refl, more.1, refl)
known_more ([] ∷ names) name known after are more = known_more names name known after are more
known_more ((c ∷ first) ∷ names) name [] after are more = absurd are
known_more ((c ∷ first) ∷ names) [] (e ∷ known) after are more = subst (AreKnown ((c ∷ first) ∷ (names ++ [] ∷ []))) (sym more) (are.0, are.1, known_more names [] known known are.2 refl)
known_more ((c ∷ first) ∷ names) (b ∷ name) (e ∷ known) after are more =
    subst (AreKnown ((c ∷ first) ∷ (names ++ (b ∷ name) ∷ []))) (sym more.2)
    (are.0, are.1, known_more names (b ∷ name) known (known ++ ((b ∷ name, more.0) ∷ [])) are.2 (more.0, more.1, refl))

pub known_on : (names : List (List ℕ)) (i : ℕ) (name d : List ℕ) (known after : List (List ℕ × KindTree)) → i < length names → name ≡ get_or names i d → IsOneMore name known after →
    AreKnown (take i names) known → AreKnown (take (i + 1) names) after
known_on names i name d known after below is more are =
    subst (λ ns. AreKnown ns after) (sym (take_more names i d below)) (subst (λ n. AreKnown (take i names ++ n ∷ []) after) is (known_more (take i names) name known after are more))

-- ---- what they say

ordered_choice : {A : Type 0} (o : Ordering) (f g : A) → match_ordering o f g f ≡ (if is_eq o then g else f)
ordered_choice Less f g = refl
ordered_choice Equal f g = refl
ordered_choice Greater f g = refl

-- what a first field says
first_says : (n : List ℕ) (K : KindTree) (fs : KnownFields) (k : List ℕ) (p : List Step) (T : Tags) (t : Tag) →
    fields_at (known_field n K fs) k p T t ≡ (if bytes_eq k n then tags_at K p t else fields_at fs k p T t)
first_says n K fs k p T t =
    ap (λ (F : Tags). F t) (ordered_choice (slice_cmp nat_cmp k n) (fields_at fs k p T) (tags_at K p)) ∙ ap (λ b. (if b then tags_at K p else fields_at fs k p T) t) (is_eq-slice_cmp k n)
    ∙ inside (bytes_eq k n) (tags_at K p) (fields_at fs k p T)
  where
    inside : (b : Bool) (F G : Tags) → (if b then F else G) t ≡ (if b then F t else G t)
    inside true F G = refl
    inside false F G = refl

passed_over : (e a : Bool) → (not e && (e || a)) ≡ (not e && a)
passed_over true a = refl
passed_over false a = refl

-- of a name, and of others, over what is said else
one_more_name : (x y : Bool) (e same any : Bool) → (same ≡ true → e ≡ false) → (if not e && any then x else (if same then x else y)) ≡ (if not e && (same || any) then x else y)
one_more_name x y true true any apart = absurd (true≢false (apart refl))
one_more_name x y true false any apart = refl
one_more_name x y false true true apart = refl
one_more_name x y false true false apart = refl
one_more_name x y false false true apart = refl
one_more_name x y false false false apart = refl

named_apart : (b : ℕ) (name k : List ℕ) → bytes_eq k (b ∷ name) ≡ true → bytes_eq k [] ≡ false
named_apart b name k same = no_if (bytes_eq k []) (λ none. let a = (bytes_eq-Decides k (b ∷ name)).0 same in let d = (bytes_eq-Decides k []).0 none in absurd cc)
  where
    no_if : (c : Bool) → (c ≡ true → ⊥) → c ≡ false
    no_if true never = absurd (never refl)
    no_if false never = refl

say : (names : List (List ℕ)) (known : List (List ℕ × KindTree)) → AreKnown names known → (fs : KnownFields) (k : List ℕ) (p : List Step) (T : Tags) (t : Tag) →
    fields_at (last_first known fs) k p T t ≡ (if is_named names k then text_or_null_kind p t else fields_at fs k p T t)
say [] known are fs k p T t =
    ap (λ es. fields_at (last_first es fs) k p T t) are ∙ sym (ap (λ b. if b then text_or_null_kind p t else fields_at fs k p T t) (and-false (not (bytes_eq k []))))
say ([] ∷ names) known are fs k p T t =
    say names known are fs k p T t ∙ sym (ap (λ b. if b then text_or_null_kind p t else fields_at fs k p T t) (passed_over (bytes_eq k []) (list_any (bytes_eq k) names)))
say ((b ∷ name) ∷ names) [] are fs k p T t = absurd are
say ((b ∷ name) ∷ names) (e ∷ known) are fs k p T t =
    let x = text_or_null_kind p t in
    let y = fields_at fs k p T t in
    say names known are.2 (known_field e.0 e.1 fs) k p T t
    ∙ ap (λ z. if is_named names k then x else z) (first_says e.0 e.1 fs k p T t ∙ ap (λ n. if bytes_eq k n then tags_at e.1 p t else y) are.0 ∙ ap (λ z. if bytes_eq k (b ∷ name) then z else y) (are.1 p t))
    ∙ one_more_name x y (bytes_eq k []) (bytes_eq k (b ∷ name)) (list_any (bytes_eq k) names) (named_apart b name k)

root_is : (fs : KnownFields) (r : RestTree) (t : Tag) → root_tags (object_kind fs r) t ≡ same_tag tag.Object t
root_is fs r tag.Text = refl
root_is fs r tag.Int = refl
root_is fs r tag.Bool = refl
root_is fs r tag.Null = refl
root_is fs r tag.Time = refl
root_is fs r tag.Pattern = refl
root_is fs r tag.List = refl
root_is fs r tag.Object = refl
root_is fs r tag.Absent = refl

absent_is : (p : List Step) (t : Tag) → rest_at nothing p t ≡ absent_kind p t
absent_is [] t = refl
absent_is (s ∷ p) t = refl

pub named_made : (names : List (List ℕ)) (known : List (List ℕ × KindTree)) (K : KindTree) → AreKnown names known → SameTags K (object_kind (named_view known) nothing) → SameSets (tags_at K) (named_kind names)
named_made names known K are same [] t = same [] t ∙ root_is (named_view known) nothing t
named_made names known K are same (place i ∷ p) t = same (place i ∷ p) t
named_made names known K are same (field k ∷ p) t =
    same (field k ∷ p) t ∙ say names known are no_fields k p (rest_at nothing p) t ∙ ap (λ z. if is_named names k then text_or_null_kind p t else z) (absent_is p t)

-- ---- objects

pub items_go_on : {A B : Type 0} (f : A → B) (done after all : List B) (t : B) (g : A) (gs left : List A) → left ≡ g ∷ gs → t ≡ f g → after ≡ done ++ t ∷ [] → done ++ map f left ≡ all → after ++ map f gs ≡ all
items_go_on f done after all t g gs left is one adds so_far =
    ap (λ ts. ts ++ map f gs) adds ∙ append_assoc done (t ∷ []) (map f gs) ∙ ap (λ u. done ++ (u ∷ map f gs)) one ∙ ap (λ xs. done ++ map f xs) (sym is) ∙ so_far
