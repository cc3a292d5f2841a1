-- The arguments of a call on which no error code stands: they are bound, each required one is there, and each is written as its parameter
-- wants it.
use Rattle.std.proofs.Common.{◌≡◌, ℕ, zero, suc, ◌<◌, ◌≤◌, Bool, true, false, ◌&&◌, ◌||◌, nat_lt, List, [], ◌∷◌, length, Option, Some, None, IfSome, Result, Ok, Err, option_map, is_none, slice_get, refl, sym, ap, ◌∙◌, subst, if◌then◌else◌, arith}
use Rattle.std.proofs.lemmas.Bool.{ltb-false, or_parts, true≢false}
use Rattle.std.proofs.lemmas.List.Quantifiers.{position-Some}
use Rattle.std.specs.Option.{option_map_or}
use Rattle.std.specs.Bool.{⊤}
use Rattle.vrl_diag.specs.declared.diagnostic.Diagnostic.{Diagnostic}
use Rattle.vrl_diag.specs.declared.diagnostic.Span.{Span}
use Rattle.vrl_syntax.specs.Tree.{Expr, Closure, no_closure, closure, span_of}
use Rattle.vrl_builtin.specs.Rows.{ParameterRow}
use Rattle.vrl_builtin.specs.declared.tags.Tags.{Tags as TagSet}
use Rattle.vrl_binding.specs.Binding.{binding, bound_from, bound_or_missing, bound_or_unknown, first_missing, first_unknown, has_twice, is_keyword, is_unknown, is_wrong_number, keyword_at, positional_at, Keywords}
use Rattle.vrl_binding.specs.declared.binding.BindFault.{BindFault}
use Rattle.vrl_binding.specs.declared.binding.BindFault.TheVariants as fault
use Rattle.vrl_judge.specs.Rules.{Argument, argument_at, at, is_disjoint, is_fallible, is_known, when}
use Rattle.vrl_check.specs.Judgement.{bound, of_argument, of_arguments, of_closure, of_unknown, own_codes}
use Rattle.vrl_compile.specs.Sound.{HasNoError}
use Rattle.vrl_compile.proofs.SoundEnds.{no_error_parts}

-- ---- places that are bound are those of arguments

abbrev IsWithin : ℕ → Option ℕ → Type 0
IsWithin n None = ⊤
IsWithin n (Some i) = i < n

abbrev AreWithin : ℕ → List (Option ℕ) → Type 0
AreWithin n [] = ⊤
AreWithin n (q ∷ qs) = IsWithin n q × AreWithin n qs

keyword_within : (name : List ℕ) (ks : Keywords) → IsWithin (length ks) (keyword_at name ks)
keyword_within name ks = by (keyword_at name ks) refl where
  by : (o : Option ℕ) → keyword_at name ks ≡ o → IsWithin (length ks) o
  by None is = tt
  by (Some i) is = let found = position-Some (is_keyword name) ks i None is in found.0

later : (n : ℕ) (o : Option ℕ) → IsWithin n o → IsWithin (suc n) (option_map suc o)
later n None is = tt
later n (Some i) is = omega arith

positional_within : (i : ℕ) (ks : Keywords) → IsWithin (length ks) (positional_at i ks)
positional_within zero [] = tt
positional_within (suc i) [] = tt
positional_within zero (None ∷ ks) = omega arith
positional_within (suc i) (None ∷ ks) = later (length ks) (positional_at i ks) (positional_within i ks)
positional_within zero (Some k ∷ ks) = later (length ks) (positional_at zero ks) (positional_within zero ks)
positional_within (suc i) (Some k ∷ ks) = later (length ks) (positional_at (suc i) ks) (positional_within (suc i) ks)

-- the places of the parameters that are left, by the first of them
record AreOf (n count : ℕ) (places : List (Option ℕ)) : Type 0 where
  counted : length places ≡ count
  within : AreWithin n places

next_places : (n count : ℕ) (k q : Option ℕ) (named others : List (Option ℕ)) → IsWithin n k → IsWithin n q → AreOf n count named → AreOf n count others → AreOf n (suc count) (option_map_or (λ i. Some i ∷ named) k (q ∷ others))
next_places n count None q named others in_k in_q of_named of_others = record { counted = ap suc of_others.counted; within = (in_q, of_others.within) }
next_places n count (Some i) q named others in_k in_q of_named of_others = record { counted = ap suc of_named.counted; within = (in_k, of_named.within) }

places_of : (i : ℕ) (ps : List ParameterRow) (ks : Keywords) → AreOf (length ks) (length ps) (bound_from i ps ks)
places_of i [] ks = record { counted = refl; within = tt }
places_of i (p ∷ ps) ks =
    next_places (length ks) (length ps) (keyword_at p.name ks) (positional_at i ks) (bound_from i ps ks) (bound_from (suc i) ps ks) (keyword_within p.name ks) (positional_within i ks) (places_of i ps ks) (places_of (suc i) ps ks)

-- ---- each required parameter has an argument

abbrev pub ArePresent : List ParameterRow → List (Option Argument) → Type 0
ArePresent (p ∷ ps) (g ∷ gs) = ((p.required && is_none g) ≡ false) × ArePresent ps gs
ArePresent ps gs = ⊤

none_at : (js : List Argument) (q : Option ℕ) → IsWithin (length js) q → is_none (argument_at js q) ≡ is_none q
none_at js None is = refl
none_at [] (Some i) is = absurd (omega arith)
none_at (g ∷ js) (Some zero) is = refl
none_at (g ∷ js) (Some (suc i)) is = none_at js (Some i) (omega arith)

not_missing : (missing : Bool) (rest : Option ℕ) → (if missing then Some zero else option_map suc rest) ≡ None → (missing ≡ false) × (rest ≡ None)
not_missing true rest is = absurd cc
not_missing false None is = (refl, refl)
not_missing false (Some i) is = absurd cc

all_present : (ps : List ParameterRow) (places : List (Option ℕ)) (js : List Argument) → AreWithin (length js) places → first_missing ps places ≡ None → ArePresent ps (bound places js)
all_present [] places js within is = tt
all_present (p ∷ ps) [] js within is = tt
all_present (p ∷ ps) (q ∷ places) js within is =
    let first = not_missing (p.required && is_none q) (first_missing ps places) is in
    (ap (λ b. p.required && b) (none_at js q within.0) ∙ first.0, all_present ps places js within.1 first.1)

-- ---- each argument is written as its parameter wants it

abbrev pub AreWritten : (ℕ → ParameterRow → Expr → Bool) → ℕ → List ParameterRow → List (Option Argument) → Type 0
AreWritten wants i (p ∷ ps) (g ∷ gs) = IfSome g (λ a. wants i p a.value ≡ false) × AreWritten wants (suc i) ps gs
AreWritten wants i ps gs = ⊤

no_error : (fails disjoint unwritten : Bool) (span : Span) → HasNoError (if fails then at 630 span else (if disjoint then at 110 span else when unwritten (at 1013 span))) → unwritten ≡ false
no_error true disjoint unwritten span none = absurd (true≢false none)
no_error false true unwritten span none = absurd (true≢false none)
no_error false false true span none = absurd (true≢false none)
no_error false false false span none = refl

argument_written : (T : TagSet) (unwritten : Bool) (g : Argument) → HasNoError (of_argument T unwritten g) → unwritten ≡ false
argument_written T unwritten g none = no_error (is_fallible g.judged) (is_known g.judged && is_disjoint T g.judged.kind) unwritten (span_of g.value) none

all_written : (wants : ℕ → ParameterRow → Expr → Bool) (i : ℕ) (ps : List ParameterRow) (gs : List (Option Argument)) → HasNoError (of_arguments wants i ps gs) → AreWritten wants i ps gs
all_written wants i [] gs none = tt
all_written wants i (p ∷ ps) [] none = tt
all_written wants i (p ∷ ps) (None ∷ gs) none = (tt, all_written wants (suc i) ps gs none)
all_written wants i (p ∷ ps) (Some g ∷ gs) none =
    let codes = no_error_parts (of_argument p.allowed (wants i p g.value) g) (of_arguments wants (suc i) ps gs) none in
    (argument_written p.allowed (wants i p g.value) g codes.0, all_written wants (suc i) ps gs codes.1)

-- ---- what is bound

abbrev outcome : Bool → Option ℕ → Option ℕ → List (Option ℕ) → Result (List (Option ℕ)) BindFault
outcome wrong unknown missing places = if wrong then Err fault.Number else bound_or_unknown unknown (bound_or_missing missing places)

record IsOutcome (wrong : Bool) (missing : Option ℕ) (places found : List (Option ℕ)) : Type 0 where
  right : wrong ≡ false
  whole : missing ≡ None
  same : found ≡ places

places_found : (wrong : Bool) (unknown missing : Option ℕ) (places found : List (Option ℕ)) → outcome wrong unknown missing places ≡ Ok found → IsOutcome wrong missing places found
places_found true unknown missing places found is = absurd cc
places_found false (Some u) missing places found is = absurd cc
places_found false None (Some m) places found is = absurd cc
places_found false None None places found is = record { right = refl; whole = refl; same = cc }

unknown_found : (wrong : Bool) (unknown missing : Option ℕ) (places : List (Option ℕ)) (i : ℕ) → outcome wrong unknown missing places ≡ Err (fault.Unknown i) → unknown ≡ Some i
unknown_found true unknown missing places i is = absurd cc
unknown_found false (Some u) missing places i is = cc
unknown_found false None (Some m) places i is = absurd cc
unknown_found false None None places i is = absurd cc

no_memory_found : (wrong : Bool) (unknown missing : Option ℕ) (places : List (Option ℕ)) → outcome wrong unknown missing places ≡ Err fault.Memory → ⊥
no_memory_found true unknown missing places is = cc
no_memory_found false (Some u) missing places is = cc
no_memory_found false None (Some m) places is = cc
no_memory_found false None None places is = cc

-- a keyword that is no parameter's name has its code
unknown_told : (js : List Argument) (i : ℕ) → i < length js → HasNoError (of_unknown (slice_get js i)) → ⊥
unknown_told [] i is none = omega arith
unknown_told (g ∷ js) zero is none = true≢false none
unknown_told (g ∷ js) (suc i) is none = unknown_told js i (omega arith) none

-- a function that takes no closure has none
pub closure_told : (span : Span) (c : Closure) → HasNoError (of_closure span c) → c ≡ no_closure
closure_told span no_closure none = refl
closure_told span (closure names es s) none = absurd (true≢false none)

-- `closure_codes` are those of its closure
pub record IsBoundCall (wants : ℕ → ParameterRow → Expr → Bool) (ps : List ParameterRow) (ks : Keywords) (closure_codes : List Diagnostic) (js : List Argument) : Type 0 where
  pub places : List (Option ℕ)
  pub found : binding ps ks ≡ Ok places
  pub counted : length places ≡ length ps
  -- no more arguments than parameters
  pub few : length js ≤ length ps
  pub present : ArePresent ps (bound places js)
  pub written : AreWritten wants 0 ps (bound places js)
  pub closure : HasNoError closure_codes

few_arguments : (n m k : ℕ) (twice : Bool) → n ≡ k → (nat_lt m n || twice) ≡ false → k ≤ m
few_arguments n m k twice same is = subst (λ x. x ≤ m) same (ltb-false m n (or_parts (nat_lt m n) twice is).0)

pub call_is_bound : (wants : ℕ → ParameterRow → Expr → Bool) (ps : List ParameterRow) (ks : Keywords) (span : Span) (closure_codes : List Diagnostic) (js : List Argument) (b : Result (List (Option ℕ)) BindFault) → binding ps ks ≡ b → length ks ≡ length js
    → HasNoError (own_codes wants ps span closure_codes js b) → IsBoundCall wants ps ks closure_codes js
call_is_bound wants ps ks span closure_codes js (Ok found) is same none =
    let told = places_found (is_wrong_number ps ks) (first_unknown ps ks) (first_missing ps (bound_from 0 ps ks)) (bound_from 0 ps ks) found is in
    let all : AreOf (length js) (length ps) found = subst (λ n. AreOf n (length ps) found) same (subst (AreOf (length ks) (length ps)) (sym told.same) (places_of 0 ps ks)) in
    let codes = no_error_parts (of_arguments wants 0 ps (bound found js)) closure_codes none in
    record {
      places = found;
      found = is;
      counted = all.counted;
      few = few_arguments (length ks) (length ps) (length js) (has_twice ks) same told.right;
      present = all_present ps found js all.within (ap (first_missing ps) told.same ∙ told.whole);
      written = all_written wants 0 ps (bound found js) codes.0;
      closure = codes.1;
    }
call_is_bound wants ps ks span closure_codes js (Err fault.Number) is same none = absurd (true≢false none)
call_is_bound wants ps ks span closure_codes js (Err (fault.Unknown i)) is same none =
    let unknown = unknown_found (is_wrong_number ps ks) (first_unknown ps ks) (first_missing ps (bound_from 0 ps ks)) (bound_from 0 ps ks) i is in
    let found = position-Some (is_unknown ps) ks i None unknown in
    let below : i < length js = omega (arith, found.0) in
    absurd (unknown_told js i below none)
call_is_bound wants ps ks span closure_codes js (Err (fault.Missing i)) is same none = absurd (true≢false none)
call_is_bound wants ps ks span closure_codes js (Err fault.Memory) is same none = absurd (no_memory_found (is_wrong_number ps ks) (first_unknown ps ks) (first_missing ps (bound_from 0 ps ks)) (bound_from 0 ps ks) is)
