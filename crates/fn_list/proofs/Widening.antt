-- Places of arrays: whether all are sure, one after the other, and joined where they aren't sure.
use Rattle.std.proofs.Common.{◌≡◌, ◌≤◌, ◌+◌, ℕ, zero, suc, Bool, true, false, ◌&&◌, ◌||◌, List, [], ◌∷◌, ◌++◌, drop, length, map, refl, sym, ap, ◌∙◌, subst, if◌then◌else◌}
use Rattle.std.proofs.lemmas.List.{append-nil}
use Rattle.std.proofs.Math.ListN.{drop_of_length-le}
use Rattle.std.proofs.Math.Bool.{and-false}
use Rattle.std.specs.List.{list_all, list_any}
use Rattle.vrl_value.specs.Look.{Step, field, place}
use Rattle.vrl_value.specs.declared.value.Tag.{Tag}
use Rattle.vrl_value.specs.declared.value.Tag.TheVariants as tag
use Rattle.vrl_kind.specs.KindTree.{KindTree, ListTree, no_list, list_part, RestTree, nothing, exact, no_places, known_place}
use Rattle.vrl_kind.specs.Kinds.{places_at, rest_at, tags_at, IsJoin, SameTags}
use Rattle.vrl_kind.specs.Make.{array_kind}
use Rattle.vrl_kind.specs.Sets.{Sets, SameSets}
use Rattle.vrl_kind.specs.View.{places_view}
use Rattle.fn_list.specs.Append.{appended_at}
use Rattle.fn_list.specs.Sure.{all_sure, chosen, is_known, is_sure, is_there, joined, placed, then_places, widened}
use Rattle.fn_list.specs.Widened.{AreWidened}
use Rattle.fn_list.specs.Zip.{pair_at}
use Rattle.vrl_builtin.proofs.Containers.{absent_so}

pub all_there : (ks : List KindTree) → list_all is_there ks ≡ all_sure (places_view ks)
all_there [] = refl
all_there (k ∷ ks) = ap (λ b. is_there k && b) (all_there ks)

pub then_view : (ks ls : List KindTree) → places_view (ks ++ ls) ≡ then_places (places_view ks) (places_view ls)
then_view [] ls = refl
then_view (k ∷ ks) ls = ap (known_place k) (then_view ks ls)

and_assoc : (a b c : Bool) → ((a && b) && c) ≡ (a && (b && c))
and_assoc true b c = refl
and_assoc false b c = refl

wide_at : (sure : Bool) (A : Sets) (ks ls : List KindTree) (r : RestTree) (own : KindTree) → AreWidened sure A ks ls → ((p : List Step) (t : Tag) → tags_at own p t ≡ (rest_at r p t || A p t)) → (i : ℕ) (p : List Step) (t : Tag) →
    places_at (places_view ls) i p (rest_at (exact own) p) t ≡ (if sure && is_sure (places_view ks) i then places_at (places_view ks) i p (rest_at r p) t else joined (λ q. places_at (places_view ks) i q (rest_at r q)) A p t)
wide_at sure A [] [] r own wide is i p t =
    absent_so p (tags_at own p) (λ u. rest_at r p u || A p u) t (is p t) ∙ ap (λ b. if b then rest_at r p t else joined (rest_at r) A p t) (sym (and-false sure))
wide_at sure A (k ∷ ks) (l ∷ ls) r own wide is zero p t = wide.0 p t
wide_at sure A (k ∷ ks) (l ∷ ls) r own wide is (suc i) p t =
    wide_at (sure && is_there k) A ks ls r own wide.1 is i p t
    ∙ ap (λ b. if b then places_at (places_view ks) i p (rest_at r p) t else joined (λ q. places_at (places_view ks) i q (rest_at r q)) A p t) (and_assoc sure (is_there k) (is_sure (places_view ks) i))
wide_at sure A [] (l ∷ ls) r own wide is i p t = absurd wide
wide_at sure A (k ∷ ks) [] r own wide is i p t = absurd wide

pub widely_told : (W : KindTree) (ks ls : List KindTree) (r : RestTree) (behind own M : KindTree) → AreWidened true (tags_at W) ks ls → ((p : List Step) → tags_at behind p ≡ rest_at r p) → IsJoin behind W own →
    SameTags M (array_kind (places_view ls) (exact own)) → SameSets (tags_at M) (placed (widened (places_view ks) r (tags_at W)))
widely_told W ks ls r behind own M wide rest both same [] tag.Text = same [] tag.Text
widely_told W ks ls r behind own M wide rest both same [] tag.Int = same [] tag.Int
widely_told W ks ls r behind own M wide rest both same [] tag.Bool = same [] tag.Bool
widely_told W ks ls r behind own M wide rest both same [] tag.Null = same [] tag.Null
widely_told W ks ls r behind own M wide rest both same [] tag.Time = same [] tag.Time
widely_told W ks ls r behind own M wide rest both same [] tag.Pattern = same [] tag.Pattern
widely_told W ks ls r behind own M wide rest both same [] tag.List = same [] tag.List
widely_told W ks ls r behind own M wide rest both same [] tag.Object = same [] tag.Object
widely_told W ks ls r behind own M wide rest both same [] tag.Absent = same [] tag.Absent
widely_told W ks ls r behind own M wide rest both same (place i ∷ p) t =
    same (place i ∷ p) t ∙ wide_at true (tags_at W) ks ls r own wide (λ q u. both q u ∙ ap (λ T. T u || tags_at W q u) (rest q)) i p t
widely_told W ks ls r behind own M wide rest both same (field n ∷ p) t = same (field n ∷ p) t

pub exact_told : (xs ys none done all : List KindTree) (M : KindTree) → none ≡ [] → done ≡ none ++ xs → all ≡ done ++ ys → SameTags M (array_kind (places_view all) nothing) →
    SameTags M (array_kind (then_places (places_view xs) (places_view ys)) nothing)
exact_told xs ys none done all M empty first second same p t =
    let whole : all ≡ xs ++ ys = second ∙ ap (λ zs. zs ++ ys) (first ∙ ap (λ zs. zs ++ xs) empty) in
    same p t ∙ ap (λ ps. tags_at (array_kind ps nothing) p t) (ap places_view whole ∙ then_view xs ys)

pub all_widened : (A : Sets) (ks : List KindTree) (i : ℕ) (sure : Bool) (done : List KindTree) → length ks ≤ i → ((more : List KindTree) → AreWidened sure A (drop i ks) more → AreWidened true A ks (done ++ more)) → AreWidened true A ks done
all_widened A ks i sure done past told =
    subst (λ (ls : List KindTree). AreWidened true A ks ls) (append-nil done) (told [] (subst (λ (ms : List KindTree). AreWidened sure A ms []) (sym (drop_of_length-le ks past)) tt))

pub any_map : {A B : Type 0} (f : B → Bool) (g : A → B) (xs : List A) → list_any f (map g xs) ≡ list_any (λ x. f (g x)) xs
any_map f g [] = refl
any_map f g (x ∷ xs) = ap (λ b. f (g x) || b) (any_map f g xs)

pub pair_told : (A B M : KindTree) (ks : List KindTree) → ks ≡ A ∷ B ∷ [] → SameTags M (array_kind (places_view ks) nothing) → SameSets (tags_at M) (pair_at (tags_at A) (tags_at B))
pair_told A B M ks are same p t = same p t ∙ ap (λ ls. tags_at (array_kind (places_view ls) nothing) p t) are ∙ two p t where
  two : (p : List Step) (t : Tag) → tags_at (array_kind (known_place A (known_place B no_places)) nothing) p t ≡ pair_at (tags_at A) (tags_at B) p t
  two [] tag.Text = refl
  two [] tag.Int = refl
  two [] tag.Bool = refl
  two [] tag.Null = refl
  two [] tag.Time = refl
  two [] tag.Pattern = refl
  two [] tag.List = refl
  two [] tag.Object = refl
  two [] tag.Absent = refl
  two (place zero ∷ p) t = refl
  two (place (suc zero) ∷ p) t = refl
  two (place (suc (suc i)) ∷ p) t = refl
  two (field n ∷ p) t = refl

pub pair_so : (A B C D : Sets) → SameSets A C → SameSets B D → SameSets (pair_at A B) (pair_at C D)
pair_so A B C D first second [] t = refl
pair_so A B C D first second (place zero ∷ p) t = first p t
pair_so A B C D first second (place (suc zero) ∷ p) t = second p t
pair_so A B C D first second (place (suc (suc i)) ∷ p) t = refl
pair_so A B C D first second (field n ∷ p) t = refl

pub appended_so : (l m : ListTree) (A B : Sets) → SameSets A B → SameSets (appended_at l m A) (appended_at l m B)
appended_so (list_part ps r) (list_part qs q) A B same p t = either (is_known ps r && is_known qs q) p t where
  widely : (p : List Step) (t : Tag) → placed (widened ps r A) p t ≡ placed (widened ps r B) p t
  widely [] t = refl
  widely (place i ∷ p) t =
      ap (λ b. if is_sure ps i then places_at ps i p (rest_at r p) t else b)
      (absent_so p (λ u. places_at ps i p (rest_at r p) u || A p u) (λ u. places_at ps i p (rest_at r p) u || B p u) t (ap (λ b. places_at ps i p (rest_at r p) t || b) (same p t)))
  widely (field n ∷ p) t = refl

  either : (b : Bool) (p : List Step) (t : Tag) → chosen b (tags_at (array_kind (then_places ps qs) nothing)) (placed (widened ps r A)) p t ≡ chosen b (tags_at (array_kind (then_places ps qs) nothing)) (placed (widened ps r B)) p t
  either true p t = refl
  either false p t = widely p t
appended_so no_list m A B same p t = refl
appended_so (list_part ps r) no_list A B same p t = refl
