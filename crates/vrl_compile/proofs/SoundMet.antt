-- The arguments of a function against its parameters: what is known of them before the call, and their values.
use Rattle.std.proofs.Common.{◌≡◌, ℕ, zero, suc, ◌+◌, Bool, true, false, not, ◌&&◌, ◌⊎◌, inl, inr, List, [], ◌∷◌, length, map, Option, Some, None, IfSome, IsTrue, is_none, option_map, slice_get, refl, sym, ap, ◌∙◌, subst, if◌then◌else◌, arith, add-zero}
use Rattle.std.specs.Bool.{⊤}
use Rattle.std.specs.List.{list_any}
use Rattle.std.specs.Option.{option_map_or}
use Rattle.std.proofs.lemmas.Bool.{and_from, false≢true, not-false, or_parts, true≢false}
use Rattle.std.proofs.lemmas.Option.{IfSome_then}
use Rattle.vrl_value.specs.Look.{Step, field, place, no_place, found_behind, part_at, raw_at, tag_found}
use Rattle.vrl_value.specs.Tag.{tag_of}
use Rattle.vrl_value.specs.Tree.{Tree, array, object, IsOrdered}
use Rattle.vrl_value.specs.View.{items_of_trees}
use Rattle.vrl_value.specs.declared.value.Tag.{Tag}
use Rattle.vrl_syntax.specs.Calls.{literal_of}
use Rattle.vrl_kind.specs.KindTree.{KindTree}
use Rattle.vrl_kind.specs.Kinds.{root_tags, step_tag, tags_at, Inhabits}
use Rattle.vrl_kind.specs.Tags.{Tags, all_tags}
use Rattle.vrl_builtin.specs.Conditions.{arguments_below, below_if, AreArguments, AreArgumentsFrom, AreGiven, AreGivenFrom, IsArgument, IsGiven, IsLiteral, IsThere}
use Rattle.vrl_builtin.specs.Law.{AreInstances, IsOfGiven}
use Rattle.vrl_builtin.specs.Rows.{GivenTree, ParameterRow, Row, argument_at as value_at, held, kind_at, literal_at}
use Rattle.vrl_builtin.specs.TagSets.{allows}
use Rattle.vrl_builtin.specs.declared.tags.Tags.{Tags as TagSet}
use Rattle.vrl_judge.specs.Rules.{Argument, argument_at, has_others, some_tag}
use Rattle.vrl_check.specs.Judgement.{bound, some_has_others, wants_literal, AreAskedAbout, IsCutDown, IsAskedAbout}
use Rattle.vrl_resolve.specs.Calls.{argument_in, first_unfit, or_others, unfit_tag}
use Rattle.vrl_compile.proofs.SoundArguments.{AreValuesOf, IsValueOf}
use Rattle.vrl_compile.proofs.SoundBound.{ArePresent, AreWritten}
use Rattle.vrl_compile.proofs.SoundTags.{some_tag-intro}

-- ---- the value of the argument of a parameter, where it has one

abbrev pub IsValueIf : ℕ → Option Argument → Option Tree → Type 0
IsValueIf count None None = ⊤
IsValueIf count (Some g) (Some v) = IsValueOf count g v
IsValueIf count g v = ⊥

abbrev pub AreValuesIf : ℕ → List (Option Argument) → List (Option Tree) → Type 0
AreValuesIf count [] [] = ⊤
AreValuesIf count (g ∷ gs) (w ∷ ws) = IsValueIf count g w × AreValuesIf count gs ws
AreValuesIf count gs ws = ⊥

value_if : (count : ℕ) (js : List Argument) (vs : List Tree) (q : Option ℕ) → AreValuesOf count js vs → IsValueIf count (argument_at js q) (argument_in (items_of_trees vs) q)
value_if count js vs None are = tt
value_if count [] [] (Some zero) are = tt
value_if count [] [] (Some (suc i)) are = tt
value_if count [] (v ∷ vs) (Some i) are = absurd are
value_if count (g ∷ js) [] (Some i) are = absurd are
value_if count (g ∷ js) (v ∷ vs) (Some zero) are = are.0
value_if count (g ∷ js) (v ∷ vs) (Some (suc i)) are = value_if count js vs (Some i) are.1

pub values_if : (count : ℕ) (js : List Argument) (vs : List Tree) (places : List (Option ℕ)) → AreValuesOf count js vs → AreValuesIf count (bound places js) (map (argument_in (items_of_trees vs)) places)
values_if count js vs [] are = tt
values_if count js vs (q ∷ places) are = (value_if count js vs q are, values_if count js vs places are)

-- ---- kinds cut down

-- what has a part behind a step is the container that the step fits
container : (v : Tree) (s : Step) → (part_at v s ≡ no_place) ⊎ (tag_of v ≡ step_tag s)
container (object ms) (field k) = inr refl
container (array ts) (place i) = inr refl
container v s = inl refl

-- a value of a kind whose tag is among some is of the kind cut down to these
pub inhabits_cut : (T : TagSet) (K L : KindTree) (v : Tree) → IsCutDown T K L → Inhabits v K → allows T (tag_of v) ≡ true → Inhabits v L
inhabits_cut T K L v cut of_kind allowed [] = cut.tags [] (tag_of v) ∙ and_from _ _ (of_kind []) allowed
inhabits_cut T K L v cut of_kind allowed (s ∷ p) = by (container v s) where
  by : (part_at v s ≡ no_place) ⊎ (tag_of v ≡ step_tag s) → IfSome (tag_found (raw_at v (s ∷ p))) (λ t. IsTrue (tags_at L (s ∷ p) t))
  by (inl none) = subst (λ found. IfSome (tag_found (found_behind found p (λ u. raw_at u p))) (λ t. IsTrue (tags_at L (s ∷ p) t))) (sym none) tt
  by (inr same) = IfSome_then (tag_found (raw_at v (s ∷ p))) (of_kind (s ∷ p)) (λ t h. cut.tags (s ∷ p) t ∙ and_from _ _ h (ap (allows T) (sym same) ∙ allowed))

-- ---- tags that parameters allow

-- where no tag of a kind passes a test, no value's does
fails_test : (test : Tags) (K : KindTree) (v : Tree) → list_any (λ t. root_tags K t && test t) all_tags ≡ false → Inhabits v K → test (tag_of v) ≡ false
fails_test test K v none of_kind = by (test (tag_of v)) refl where
  by : (b : Bool) → test (tag_of v) ≡ b → test (tag_of v) ≡ false
  by true is = absurd (true≢false (sym (some_tag-intro (λ t. root_tags K t && test t) (tag_of v) (and_from _ _ (of_kind []) is)) ∙ none))
  by false is = is

-- a value of a kind within a parameter's tags has one of these
pub within_tags : (T : TagSet) (K : KindTree) (v : Tree) → has_others T K ≡ false → Inhabits v K → allows T (tag_of v) ≡ true
unfolding some_tag
within_tags T K v none of_kind = not-false (allows T (tag_of v)) (fails_test (λ t. not (allows T t)) K v none of_kind)

fits_parameter : (p : ParameterRow) (v : Tree) → allows p.allowed (tag_of v) ≡ true → unfit_tag p (Some v) ≡ None
fits_parameter p v is = ap (λ (b : Bool). if b then None else Some (tag_of v)) is

allowed_by : (t : Tag) (b : Bool) → (if b then None else Some t) ≡ None → b ≡ true
allowed_by t true is = refl
allowed_by t false is = absurd cc

abbrev AllFit : List ParameterRow → List (Option Tree) → Type 0
AllFit (p ∷ ps) (w ∷ ws) = (unfit_tag p w ≡ None) × AllFit ps ws
AllFit ps ws = ⊤

-- ---- a list as the end of another

abbrev IsTail : {A : Type 0} → ℕ → List A → List A → Type 0
IsTail i all xs = (k : ℕ) → slice_get all (i + k) ≡ slice_get xs k

whole_tail : {A : Type 0} (all : List A) → IsTail 0 all all
whole_tail all k = let same : 0 + k ≡ k = omega arith in ap (slice_get all) same

tail_here : {A : Type 0} (i : ℕ) (all xs : List A) (x : A) → IsTail i all (x ∷ xs) → slice_get all i ≡ Some x
tail_here i all xs x tail = ap (slice_get all) (sym (add-zero i)) ∙ tail zero

tail_next : {A : Type 0} (i : ℕ) (all xs : List A) (x : A) → IsTail i all (x ∷ xs) → IsTail (suc i) all xs
tail_next i all xs x tail k = let same : suc i + k ≡ i + suc k = omega arith in ap (slice_get all) same ∙ tail (suc k)

-- the value of a parameter's argument
here_at : (i : ℕ) (all ws : List (Option Tree)) (w : Option Tree) → IsTail i all (w ∷ ws) → value_at i all ≡ w
here_at i all ws w tail = ap held (tail_here i all ws w tail)

no_others : (name : List ℕ) (t : Option Tag) (others : Option (List ℕ × Tag)) → or_others name t others ≡ None → (t ≡ None) × (others ≡ None)
no_others name None others is = (refl, is)
no_others name (Some t) others is = absurd cc

-- where no argument is found whose tag isn't allowed, all are
all_fit : (i : ℕ) (ps : List ParameterRow) (all ws : List (Option Tree)) → IsTail i all ws → first_unfit i ps all ≡ None → AllFit ps ws
all_fit i [] all ws tail none = tt
all_fit i (p ∷ ps) all [] tail none = tt
all_fit i (p ∷ ps) all (w ∷ ws) tail none =
    let both = no_others p.name (unfit_tag p (value_at i all)) (first_unfit (suc i) ps all) none in
    (ap (unfit_tag p) (sym (here_at i all ws w tail)) ∙ both.0, all_fit (suc i) ps all ws (tail_next i all ws w tail) both.1)

first_fits : (i : ℕ) (p : ParameterRow) (ps : List ParameterRow) (all ws : List (Option Tree)) (w : Option Tree) → IsTail i all (w ∷ ws) → unfit_tag p w ≡ None → first_unfit (suc i) ps all ≡ None → first_unfit i (p ∷ ps) all ≡ None
first_fits i p ps all ws w tail fits others = ap (λ t. or_others p.name t (first_unfit (suc i) ps all)) (ap (unfit_tag p) (here_at i all ws w tail) ∙ fits) ∙ others

-- where the kind of each argument is within its parameter's, no tag is found that isn't allowed
none_unfit : (count i : ℕ) (ps : List ParameterRow) (gs : List (Option Argument)) (all ws : List (Option Tree)) → IsTail i all ws → length gs ≡ length ps → some_has_others ps gs ≡ false → AreValuesIf count gs ws → first_unfit i ps all ≡ None
none_unfit count i [] gs all ws tail same none are = refl
none_unfit count i (p ∷ ps) [] all ws tail same none are = absurd (omega arith)
none_unfit count i (p ∷ ps) (g ∷ gs) all [] tail same none are = absurd are
none_unfit count i (p ∷ ps) (None ∷ gs) all (None ∷ ws) tail same none are = first_fits i p ps all ws None tail refl (none_unfit count (suc i) ps gs all ws (tail_next i all ws None tail) (omega arith) none are.1)
none_unfit count i (p ∷ ps) (None ∷ gs) all (Some v ∷ ws) tail same none are = absurd are.0
none_unfit count i (p ∷ ps) (Some g ∷ gs) all (None ∷ ws) tail same none are = absurd are.0
none_unfit count i (p ∷ ps) (Some g ∷ gs) all (Some v ∷ ws) tail same none are =
    let both = or_parts (has_others p.allowed g.judged.kind) (some_has_others ps gs) none in
    first_fits i p ps all ws (Some v) tail (fits_parameter p v (within_tags p.allowed g.judged.kind v both.0 are.0.kind)) (none_unfit count (suc i) ps gs all ws (tail_next i all ws (Some v) tail) (omega arith) both.1 are.1)

-- ---- what a function asks for

-- of one parameter, by what is known of its argument and by its value
record IsMet (accepts : Tree → Bool) (count : ℕ) (p : ParameterRow) (given : GivenTree) (w : Option Tree) : Type 0 where
  allowed : IsGiven p accepts given.kind given.literal
  argument : IsArgument p accepts w
  instance : IsOfGiven given.kind w
  literal : IfSome given.literal (λ v. w ≡ Some v)
  ordered : IfSome w IsOrdered
  below : below_if count w ≡ true

not_required : (A : Type 0) (required : Bool) → (required && true) ≡ false → IsThere {A = A} required None
not_required A true is = absurd (true≢false is)
not_required A false is = tt

is_there : (A : Type 0) (required : Bool) (a : A) → IsThere required (Some a)
is_there A true a = refl
is_there A false a = tt

-- what must be a literal is one that is allowed
literal_allowed : (wants : Bool) (accepts : Tree → Bool) (l : Option Tree) → (wants && option_map_or (λ v. not (accepts v)) l true) ≡ false → IsLiteral wants accepts l
literal_allowed true accepts None is = absurd (true≢false is)
literal_allowed true accepts (Some v) is = (refl, not-false (accepts v) is)
literal_allowed false accepts l is = tt

-- and so is its value
value_allowed : (wants : Bool) (accepts : Tree → Bool) (l : Option Tree) (v : Tree) → IsLiteral wants accepts l → IfSome l (λ u. v ≡ u) → IsLiteral wants accepts (Some v)
value_allowed true accepts None v is same = absurd (false≢true is.0)
value_allowed true accepts (Some u) v is same = (refl, subst (λ x. IsTrue (accepts x)) (sym same) is.1)
value_allowed false accepts l v is same = tt

one_met : (count : ℕ) (r : Row) (i : ℕ) (p : ParameterRow) (g : Option Argument) (given : GivenTree) (w : Option Tree) → (p.required && is_none g) ≡ false → IfSome g (λ a. wants_literal r i p a.value ≡ false) → IsAskedAbout p g given → IsValueIf count g w
    → unfit_tag p w ≡ None → IsMet (r.accepts i) count p given w
one_met count r i p None given None present written is value fits =
    subst (λ (x : GivenTree). IsMet (r.accepts i) count p x None) (sym is) (record {
      allowed = record { there = not_required KindTree p.required present; allowed = tt };
      argument = record { there = not_required Tree p.required present; allowed = tt; literal = tt };
      instance = tt;
      literal = tt;
      ordered = tt;
      below = refl;
    })
one_met count r i p None given (Some v) present written is value fits = absurd value
one_met count r i p (Some g) given None present written is value fits = absurd value
one_met count r i p (Some g) given (Some v) present written is value fits =
    let allowed = allowed_by (tag_of v) (allows p.allowed (tag_of v)) fits in
    let wanted = literal_allowed p.literal (r.accepts i) (literal_of g.value) written in
    subst (λ (x : GivenTree). IsMet (r.accepts i) count p x (Some v)) (sym is.2) (record {
      allowed = record { there = is_there KindTree p.required is.0; allowed = wanted };
      argument = record { there = is_there Tree p.required v; allowed = allowed; literal = value_allowed p.literal (r.accepts i) (literal_of g.value) v wanted value.literal };
      instance = inhabits_cut p.allowed g.judged.kind is.0 v is.1 value.kind allowed;
      literal = IfSome_then (literal_of g.value) value.literal (λ u same. ap Some same);
      ordered = value.well.ordered;
      below = value.well.below;
    })

-- of the parameters from a place on
abbrev AreMet : (ℕ → Tree → Bool) → ℕ → ℕ → List ParameterRow → List GivenTree → List (Option Tree) → Type 0
AreMet accepts count i [] [] [] = ⊤
AreMet accepts count i (p ∷ ps) (given ∷ givens) (w ∷ ws) = IsMet (accepts i) count p given w × AreMet accepts count (suc i) ps givens ws
AreMet accepts count i ps givens ws = ⊥

are_met : (count : ℕ) (r : Row) (i : ℕ) (ps : List ParameterRow) (gs : List (Option Argument)) (givens : List GivenTree) (ws : List (Option Tree)) → length gs ≡ length ps → ArePresent ps gs → AreWritten (wants_literal r) i ps gs → AreAskedAbout ps gs givens
    → AreValuesIf count gs ws → AllFit ps ws → AreMet r.accepts count i ps givens ws
are_met count r i [] [] givens [] same present written given values fit = subst (λ x. AreMet r.accepts count i [] x []) (sym given) tt
are_met count r i [] [] givens (w ∷ ws) same present written given values fit = absurd values
are_met count r i [] (g ∷ gs) givens ws same present written given values fit = absurd (omega arith)
are_met count r i (p ∷ ps) [] givens ws same present written given values fit = absurd (omega arith)
are_met count r i (p ∷ ps) (g ∷ gs) [] ws same present written given values fit = absurd given
are_met count r i (p ∷ ps) (g ∷ gs) (x ∷ givens) [] same present written given values fit = absurd values
are_met count r i (p ∷ ps) (g ∷ gs) (x ∷ givens) (w ∷ ws) same present written given values fit =
    (one_met count r i p g x w present.0 written.0 given.0 values.0 fit.0, are_met count r (suc i) ps gs givens ws (omega arith) present.1 written.1 given.1 values.1 fit.1)

-- what is known is allowed
met_allowed : (accepts : ℕ → Tree → Bool) (count i : ℕ) (ps : List ParameterRow) (givens : List GivenTree) (ws : List (Option Tree)) (all : List GivenTree) → IsTail i all givens → AreMet accepts count i ps givens ws → AreGivenFrom i ps accepts all
met_allowed accepts count i [] givens ws all tail met = tt
met_allowed accepts count i (p ∷ ps) [] ws all tail met = absurd met
met_allowed accepts count i (p ∷ ps) (x ∷ givens) [] all tail met = absurd met
met_allowed accepts count i (p ∷ ps) (x ∷ givens) (w ∷ ws) all tail met = (
  subst (λ (o : Option GivenTree). IsGiven p (accepts i) (held (option_map (λ g. g.kind) o)) (held (option_map (λ g. g.literal) o))) (sym (tail_here i all givens x tail)) met.0.allowed,
  met_allowed accepts count (suc i) ps givens ws all (tail_next i all givens x tail) met.1,
)

-- and so are the values
met_arguments : (accepts : ℕ → Tree → Bool) (count i : ℕ) (ps : List ParameterRow) (givens : List GivenTree) (ws : List (Option Tree)) (all : List (Option Tree)) → IsTail i all ws → AreMet accepts count i ps givens ws → AreArgumentsFrom i ps accepts all
met_arguments accepts count i [] givens ws all tail met = tt
met_arguments accepts count i (p ∷ ps) [] ws all tail met = absurd met
met_arguments accepts count i (p ∷ ps) (x ∷ givens) [] all tail met = absurd met
met_arguments accepts count i (p ∷ ps) (x ∷ givens) (w ∷ ws) all tail met =
    (subst (IsArgument p (accepts i)) (sym (here_at i all ws w tail)) met.0.argument, met_arguments accepts count (suc i) ps givens ws all (tail_next i all ws w tail) met.1)

-- they are such as are known
record IsInstanceAt (givens : List GivenTree) (ws : List (Option Tree)) (k : ℕ) : Type 0 where
  kind : IsOfGiven (kind_at k givens) (value_at k ws)
  literal : IfSome (literal_at k givens) (λ v. value_at k ws ≡ Some v)
  ordered : IfSome (value_at k ws) IsOrdered

met_instance : (accepts : ℕ → Tree → Bool) (count i : ℕ) (ps : List ParameterRow) (givens : List GivenTree) (ws : List (Option Tree)) → AreMet accepts count i ps givens ws → (k : ℕ) → IsInstanceAt givens ws k
met_instance accepts count i [] [] [] met zero = record { kind = tt; literal = tt; ordered = tt }
met_instance accepts count i [] [] [] met (suc k) = record { kind = tt; literal = tt; ordered = tt }
met_instance accepts count i [] [] (w ∷ ws) met k = absurd met
met_instance accepts count i [] (x ∷ givens) ws met k = absurd met
met_instance accepts count i (p ∷ ps) [] ws met k = absurd met
met_instance accepts count i (p ∷ ps) (x ∷ givens) [] met k = absurd met
met_instance accepts count i (p ∷ ps) (x ∷ givens) (w ∷ ws) met zero = record { kind = met.0.instance; literal = met.0.literal; ordered = met.0.ordered }
met_instance accepts count i (p ∷ ps) (x ∷ givens) (w ∷ ws) met (suc k) =
    let later = met_instance accepts count (suc i) ps givens ws met.1 k in
    record { kind = later.kind; literal = later.literal; ordered = later.ordered }

met_below : (accepts : ℕ → Tree → Bool) (count i : ℕ) (ps : List ParameterRow) (givens : List GivenTree) (ws : List (Option Tree)) → AreMet accepts count i ps givens ws → IsTrue (arguments_below count ws)
met_below accepts count i ps givens [] met = refl
met_below accepts count i [] [] (w ∷ ws) met = absurd met
met_below accepts count i [] (x ∷ givens) (w ∷ ws) met = absurd met
met_below accepts count i (p ∷ ps) [] (w ∷ ws) met = absurd met
met_below accepts count i (p ∷ ps) (x ∷ givens) (w ∷ ws) met = and_from _ _ met.0.below (met_below accepts count (suc i) ps givens ws met.1)

pub record MeetsRow (count : ℕ) (r : Row) (givens : List GivenTree) (ws : List (Option Tree)) : Type 0 where
  pub allowed : AreGiven r givens
  pub arguments : AreArguments r ws
  pub instances : AreInstances givens ws
  pub below : IsTrue (arguments_below count ws)

-- where no code stands on the arguments and each value has a tag that its parameter allows, the function's law may be asked
pub meets_row : (count : ℕ) (r : Row) (gs : List (Option Argument)) (givens : List GivenTree) (ws : List (Option Tree)) → length gs ≡ length r.parameters → ArePresent r.parameters gs → AreWritten (wants_literal r) 0 r.parameters gs
    → AreAskedAbout r.parameters gs givens → AreValuesIf count gs ws → first_unfit 0 r.parameters ws ≡ None → MeetsRow count r givens ws
meets_row count r gs givens ws same present written given values none =
    let met = are_met count r 0 r.parameters gs givens ws same present written given values (all_fit 0 r.parameters ws ws (whole_tail ws) none) in
    record {
      allowed = met_allowed r.accepts count 0 r.parameters givens ws givens (whole_tail givens) met;
      arguments = met_arguments r.accepts count 0 r.parameters givens ws ws (whole_tail ws) met;
      instances = record {
        kinds = λ k. (met_instance r.accepts count 0 r.parameters givens ws met k).kind;
        literals = λ k. (met_instance r.accepts count 0 r.parameters givens ws met k).literal;
        ordered = λ k. (met_instance r.accepts count 0 r.parameters givens ws met k).ordered;
      };
      below = met_below r.accepts count 0 r.parameters givens ws met;
    }

-- where each kind is within its parameter's, each value has a tag that its parameter allows
pub values_fit : (count : ℕ) (ps : List ParameterRow) (gs : List (Option Argument)) (ws : List (Option Tree)) → length gs ≡ length ps → some_has_others ps gs ≡ false → AreValuesIf count gs ws → first_unfit 0 ps ws ≡ None
values_fit count ps gs ws same none values = none_unfit count 0 ps gs ws ws (whole_tail ws) same none values
