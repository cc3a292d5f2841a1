-- How often one code at one place stands among the codes of each form.
use Rattle.std.proofs.Common.{◌≡◌, ℕ, zero, suc, ◌+◌, ◌≤◌, arith, Bool, true, false, ◌&&◌, List, [], ◌∷◌, ◌++◌, Option, Some, None, nat_eq, not, slice_get, if◌then◌else◌, refl, sym, ap, ◌∙◌}
use Rattle.std.specs.declared.result.Result.TheVariants.{Ok, Err}
use Rattle.vrl_diag.specs.declared.diagnostic.Diagnostic.{Diagnostic}
use Rattle.vrl_value.specs.declared.value.Tag.{Tag}
use Rattle.vrl_diag.specs.declared.diagnostic.Span.{Span}
use Rattle.vrl_syntax.specs.Tree.{Args, Closure, Expr, no_closure, closure, span_of}
use Rattle.vrl_syntax.specs.Calls.{has_shape}
use Rattle.vrl_syntax.specs.declared.call_form.CallForm.{CallForm}
use Rattle.vrl_builtin.specs.Rows.{ParameterRow}
use Rattle.vrl_binding.specs.Binding.{binding, bound_from, bound_or_missing, bound_or_unknown, collection_parameters, first_missing, first_unknown, is_wrong_number, keywords_of, Keywords}
use Rattle.vrl_table.specs.Table.{has_name_twice}
use Rattle.vrl_binding.specs.declared.binding.BindFault.{BindFault}
use Rattle.vrl_judge.specs.Closures.{is_wrong_body, of_body, of_wanted_closure}
use Rattle.vrl_judge.specs.Rules.{Argument, Judgement, at, banged, is_disjoint, is_fallible, is_known, is_needless, when, IsBehind}
use Rattle.vrl_check.specs.Apart.{one_if, same_span, times, Weights}
use Rattle.vrl_check.specs.Judgement.{behind_arguments, bound, of_arguments, of_closure, of_closure_call, of_found, of_unknown, own_codes}
use Rattle.vrl_check.proofs.BoundOnce.{bound_once, hits}
use Rattle.vrl_binding.specs.declared.binding.BindFault.TheVariants as fault

module _ (code : ℕ) (here : Span) where
  -- how often a code at a place is this one
  unfoldable pub one : ℕ → Span → ℕ
  one k span = one_if (nat_eq k code && same_span span here)

  -- the codes that a form gives at its own place, and those that it gives at the place of a part
  unfoldable pub own : Span → ℕ
  own span = one 103 span + (one 104 span + (one 106 span + (one 107 span + (one 620 span + (one 640 span + (one 650 span + (one 651 span + (one 660 span + (one 701 span + (one 1004 span + (one 1006 span + (one 1010 span + one 1017 span))))))))))))

  unfoldable pub part : Span → ℕ
  part span = one 100 span + (one 102 span + (one 110 span + (one 630 span + (one 652 span + (one 1005 span + (one 1011 span + one 1013 span))))))

  abbrev pub weights : Weights
  weights = record { expression = λ span. own span + part span; name = one 105; argument = one 108; closure_block = one 1015 }

  unfoldable pub counted : List Diagnostic → ℕ
  counted ds = times code here ds

  pub none_counted : counted [] ≡ 0
  unfolding counted
  none_counted = refl

  pub both_counted : (a b : List Diagnostic) → counted (a ++ b) ≡ counted a + counted b
  unfolding counted
  both_counted [] b = omega arith
  both_counted (d ∷ ds) b =
      let more = both_counted ds b in
      omega (arith, more)

  pub one_counted : (k : ℕ) (span : Span) → counted (at k span) ≤ one k span
  unfolding counted one
  one_counted k span = omega arith

  pub when_counted : (b : Bool) (k : ℕ) (span : Span) → counted (when b (at k span)) ≤ one k span
  when_counted true k span = one_counted k span
  when_counted false k span = let none = none_counted in omega (arith, none)

  pub two_counted : (a b : Bool) (k l : ℕ) (span other : Span) → counted (when a (at k span) ++ when b (at l other)) ≤ one k span + one l other
  two_counted a b k l span other =
      let both = both_counted (when a (at k span)) (when b (at l other)) in
      let first = when_counted a k span in
      let second = when_counted b l other in
      omega (arith, both, first, second)

  -- the codes of an assignment
  pub four_counted : (a b c d : Bool) (k l m n : ℕ) (span : Span) → counted (when a (at k span) ++ (when b (at l span) ++ (when c (at m span) ++ when d (at n span)))) ≤ one k span + (one l span + (one m span + one n span))
  four_counted a b c d k l m n span =
      let all = both_counted (when a (at k span)) (when b (at l span) ++ (when c (at m span) ++ when d (at n span))) in
      let others = both_counted (when b (at l span)) (when c (at m span) ++ when d (at n span)) in
      let first = when_counted a k span in
      let second = when_counted b l span in
      let last = two_counted c d m n span span in
      omega (arith, all, others, first, second, last)

  pub assigned : (span : Span) → one 103 span + (one 640 span + (one 1006 span + one 1017 span)) ≤ own span
  unfolding own
  assigned span = omega arith

  pub both_assigned : (span : Span) → one 104 span + (one 640 span + (one 1006 span + one 1017 span)) ≤ own span
  unfolding own
  both_assigned span = omega arith

  pub own_640 : (span : Span) → one 640 span ≤ own span
  unfolding own
  own_640 span = omega arith

  pub own_650 : (span : Span) → one 650 span ≤ own span
  unfolding own
  own_650 span = omega arith

  pub own_651 : (span : Span) → one 651 span ≤ own span
  unfolding own
  own_651 span = omega arith

  pub own_660 : (span : Span) → one 660 span ≤ own span
  unfolding own
  own_660 span = omega arith

  pub own_701 : (span : Span) → one 701 span ≤ own span
  unfolding own
  own_701 span = omega arith

  pub own_1004 : (span : Span) → one 1004 span ≤ own span
  unfolding own
  own_1004 span = omega arith

  pub own_call : (span : Span) → (one 106 span + (one 107 span + one 1010 span)) + one 620 span ≤ own span
  unfolding own
  own_call span = omega arith

  pub part_100 : (span : Span) → one 100 span ≤ part span
  unfolding part
  part_100 span = omega arith

  pub part_652 : (span : Span) → one 652 span ≤ part span
  unfolding part
  part_652 span = omega arith

  pub part_1011 : (span : Span) → one 1011 span ≤ part span
  unfolding part
  part_1011 span = omega arith

  pub predicate : (a b : Bool) (span : Span) → counted (if a then at 1005 span else when b (at 102 span)) ≤ part span
  unfolding part
  predicate true b span = let first = one_counted 1005 span in omega (arith, first)
  predicate false b span = let second = when_counted b 102 span in omega (arith, second)

  one_of_three : (a b c : Bool) (span : Span) → counted (if a then at 630 span else (if b then at 110 span else when c (at 1013 span))) ≤ part span
  unfolding part
  one_of_three true b c span = let first = one_counted 630 span in omega (arith, first)
  one_of_three false true c span = let second = one_counted 110 span in omega (arith, second)
  one_of_three false false c span = let third = when_counted c 1013 span in omega (arith, third)

  pub behind_counted : (before j after : Judgement) → IsBehind before j after → counted after.codes ≡ counted before.codes + counted j.codes
  behind_counted before j after behind = ap counted behind.codes ∙ both_counted before.codes j.codes

  -- ---- calls

  -- what is counted at the values of arguments, and at the arguments
  abbrev pub values : List Argument → ℕ
  values [] = 0
  values (g ∷ js) = part (span_of g.value) + values js

  abbrev pub spans : List Argument → ℕ
  spans [] = 0
  spans (g ∷ js) = one 108 g.span + spans js

  abbrev found_value : Option Argument → ℕ
  found_value None = 0
  found_value (Some g) = part (span_of g.value)

  abbrev found_values : List (Option Argument) → ℕ
  found_values [] = 0
  found_values (g ∷ js) = found_value g + found_values js

  found_counted : (wants : ℕ → ParameterRow → Expr → Bool) (i : ℕ) (p : ParameterRow) (g : Option Argument) → counted (of_found wants i p g) ≤ found_value g
  found_counted wants i p None = let none = none_counted in omega (arith, none)
  found_counted wants i p (Some g) = one_of_three (is_fallible g.judged) (is_known g.judged && is_disjoint p.allowed g.judged.kind) (wants i p g.value) (span_of g.value)

  arguments_counted : (wants : ℕ → ParameterRow → Expr → Bool) (i : ℕ) (ps : List ParameterRow) (js : List (Option Argument)) → counted (of_arguments wants i ps js) ≤ found_values js
  arguments_counted wants i [] js = let none = none_counted in omega (arith, none)
  arguments_counted wants i (p ∷ ps) [] = let none = none_counted in omega (arith, none)
  arguments_counted wants i (p ∷ ps) (g ∷ js) =
      let both = both_counted (of_found wants i p g) (of_arguments wants (suc i) ps js) in
      let first = found_counted wants i p g in
      let others = arguments_counted wants (suc i) ps js in
      omega (arith, both, first, others)

  -- ---- each argument is found once at most

  -- what stands at the first place, and the places of the others
  abbrev firsts : ℕ → List (Option ℕ) → ℕ
  firsts x [] = 0
  firsts x (None ∷ places) = firsts x places
  firsts x (Some zero ∷ places) = x + firsts x places
  firsts x (Some (suc n) ∷ places) = firsts x places

  abbrev others : List (Option ℕ) → List (Option ℕ)
  others [] = []
  others (None ∷ places) = None ∷ others places
  others (Some zero ∷ places) = None ∷ others places
  others (Some (suc n) ∷ places) = Some n ∷ others places

  no_firsts : (x : ℕ) (places : List (Option ℕ)) → hits 0 places ≤ 0 → firsts x places ≤ 0
  no_firsts x [] none = omega arith
  no_firsts x (None ∷ places) none = no_firsts x places none
  no_firsts x (Some zero ∷ places) none = omega (arith, none)
  no_firsts x (Some (suc n) ∷ places) none = no_firsts x places (omega (arith, none))

  one_first : (x : ℕ) (places : List (Option ℕ)) → hits 0 places ≤ 1 → firsts x places ≤ x
  one_first x [] once = omega arith
  one_first x (None ∷ places) once = one_first x places once
  one_first x (Some zero ∷ places) once =
      let none = no_firsts x places (omega (arith, once)) in
      omega (arith, none)
  one_first x (Some (suc n) ∷ places) once = one_first x places (omega (arith, once))

  others_hit : (n : ℕ) (places : List (Option ℕ)) → hits n (others places) ≤ hits (suc n) places
  others_hit n [] = omega arith
  others_hit n (None ∷ places) = others_hit n places
  others_hit n (Some zero ∷ places) = let rest = others_hit n places in omega (arith, rest)
  others_hit n (Some (suc m) ∷ places) = let rest = others_hit n places in omega (arith, rest)

  nothing_found : (places : List (Option ℕ)) → found_values (bound places []) ≤ 0
  nothing_found [] = omega arith
  nothing_found (None ∷ places) = let rest = nothing_found places in omega (arith, rest)
  nothing_found (Some n ∷ places) = let rest = nothing_found places in omega (arith, rest)

  first_and_others : (g : Argument) (js : List Argument) (places : List (Option ℕ)) → found_values (bound places (g ∷ js)) ≡ firsts (part (span_of g.value)) places + found_values (bound (others places) js)
  first_and_others g js [] = refl
  first_and_others g js (None ∷ places) = let rest = first_and_others g js places in omega (arith, rest)
  first_and_others g js (Some zero ∷ places) = let rest = first_and_others g js places in omega (arith, rest)
  first_and_others g js (Some (suc n) ∷ places) = let rest = first_and_others g js places in omega (arith, rest)

  found_once : (js : List Argument) (places : List (Option ℕ)) → ((n : ℕ) → hits n places ≤ 1) → found_values (bound places js) ≤ values js
  found_once [] places once = nothing_found places
  found_once (g ∷ js) places once =
      let split = first_and_others g js places in
      let first = one_first (part (span_of g.value)) places (once 0) in
      let rest = found_once js (others places) (λ n. let fewer = others_hit n places in let few = once (suc n) in omega (arith, fewer, few)) in
      omega (arith, split, first, rest)

  -- ---- the codes of a call

  closure_counted : (span : Span) (c : Closure) → counted (of_closure span c) ≤ one 1010 span
  closure_counted span no_closure = let none = none_counted in omega (arith, none)
  closure_counted span (closure names es s) = one_counted 1010 span

  wanted_counted : (f : CallForm) (span : Span) (c : Closure) → counted (of_wanted_closure f span c) ≤ one 1010 span
  wanted_counted f span no_closure = one_counted 1010 span
  wanted_counted f span (closure names es s) = when_counted (not (has_shape f names)) 1010 span

  unknown_counted : (i : ℕ) (js : List Argument) → counted (of_unknown (slice_get js i)) ≤ spans js
  unknown_counted i [] = let none = none_counted in omega (arith, none)
  unknown_counted zero (g ∷ js) = let first = one_counted 108 g.span in omega (arith, first)
  unknown_counted (suc i) (g ∷ js) = let rest = unknown_counted i js in omega (arith, rest)

  abbrev most : Span → List Argument → ℕ
  most span js = (one 106 span + (one 107 span + one 1010 span)) + (values js + spans js)

  -- the codes of its arguments, and those of its closure, which are one 1010 at most
  fits_counted : (wants : ℕ → ParameterRow → Expr → Bool) (ps : List ParameterRow) (span : Span) (ds : List Diagnostic) (js : List Argument) (places : List (Option ℕ)) → ((n : ℕ) → hits n places ≤ 1) → counted ds ≤ one 1010 span →
      counted (own_codes wants ps span ds js (Ok places)) ≤ most span js
  fits_counted wants ps span ds js places once few =
      let both = both_counted (of_arguments wants 0 ps (bound places js)) ds in
      let first = arguments_counted wants 0 ps (bound places js) in
      let found = found_once js places once in
      omega (arith, both, first, found, few)

  fault_counted : (wants : ℕ → ParameterRow → Expr → Bool) (ps : List ParameterRow) (span : Span) (ds : List Diagnostic) (js : List Argument) (f : BindFault) → counted (own_codes wants ps span ds js (Err f)) ≤ most span js
  fault_counted wants ps span ds js fault.Number = let first = one_counted 106 span in omega (arith, first)
  fault_counted wants ps span ds js (fault.Unknown i) = let first = unknown_counted i js in omega (arith, first)
  fault_counted wants ps span ds js (fault.Missing i) = let first = one_counted 107 span in omega (arith, first)
  fault_counted wants ps span ds js fault.Memory = let none = none_counted in omega (arith, none)

  answer_counted : (wants : ℕ → ParameterRow → Expr → Bool) (ps : List ParameterRow) (span : Span) (ds : List Diagnostic) (js : List Argument) (wrong : Bool) (unknown missing : Option ℕ) (places : List (Option ℕ)) → ((n : ℕ) → hits n places ≤ 1) → counted ds ≤ one 1010 span →
      counted (own_codes wants ps span ds js (if wrong then Err fault.Number else bound_or_unknown unknown (bound_or_missing missing places))) ≤ most span js
  answer_counted wants ps span ds js true unknown missing places once few = fault_counted wants ps span ds js fault.Number
  answer_counted wants ps span ds js false (Some i) missing places once few = fault_counted wants ps span ds js (fault.Unknown i)
  answer_counted wants ps span ds js false None (Some i) places once few = fault_counted wants ps span ds js (fault.Missing i)
  answer_counted wants ps span ds js false None None places once few = fits_counted wants ps span ds js places once few

  binding_counted : (wants : ℕ → ParameterRow → Expr → Bool) (ps : List ParameterRow) (span : Span) (ds : List Diagnostic) (js : List Argument) (ks : Keywords) → has_name_twice ps ≡ false → counted ds ≤ one 1010 span →
      counted (own_codes wants ps span ds js (binding ps ks)) ≤ most span js
  binding_counted wants ps span ds js ks apart few =
      answer_counted wants ps span ds js (is_wrong_number ps ks) (first_unknown ps ks) (first_missing ps (bound_from 0 ps ks)) (bound_from 0 ps ks) (bound_once ps ks apart) few

  banged_counted : (span : Span) (bang : Bool) (j : Judgement) → counted (banged span bang j).codes ≤ counted j.codes + one 620 span
  banged_counted span false j = omega arith
  banged_counted span true j =
      let both = both_counted j.codes (when (is_needless j) (at 620 span)) in
      let more = when_counted (is_needless j) 620 span in
      omega (arith, both, more)

  -- a call behind its arguments, by its own codes
  own_counted : (wants : ℕ → ParameterRow → Expr → Bool) (ps : List ParameterRow) (span : Span) (bang : Bool) (gs : Args) (ds : List Diagnostic) (js : List Argument) (j shown : Judgement) (weight : ℕ) → has_name_twice ps ≡ false → counted ds ≤ one 1010 span →
      counted j.codes + (values js + spans js) ≤ weight → counted shown.codes ≡ counted (j.codes ++ own_codes wants ps span ds js (binding ps (keywords_of gs))) → counted (banged span bang shown).codes ≤ own span + weight
  own_counted wants ps span bang gs ds js j shown weight apart few arguments codes =
      let both = both_counted j.codes (own_codes wants ps span ds js (binding ps (keywords_of gs))) in
      let its = binding_counted wants ps span ds js (keywords_of gs) apart few in
      let more = banged_counted span bang shown in
      let all = own_call span in
      omega (arith, codes, both, its, more, all, arguments)

  pub call_counted : (wants : ℕ → ParameterRow → Expr → Bool) (ps : List ParameterRow) (span : Span) (bang : Bool) (gs : Args) (c : Closure) (tags : List Tag) (js : List Argument) (j whole shown : Judgement) (weight : ℕ) → has_name_twice ps ≡ false →
      counted j.codes + (values js + spans js) ≤ weight → whole ≡ behind_arguments wants ps span gs c tags js j → shown.codes ≡ whole.codes → counted (banged span bang shown).codes ≤ own span + weight
  call_counted wants ps span bang gs c tags js j whole shown weight apart arguments is same =
      own_counted wants ps span bang gs (of_closure span c) js j shown weight apart (closure_counted span c) arguments (ap counted (same ∙ ap (λ w. w.codes) is))

  -- a call of a function that takes a closure, with codes of its own
  pub wrong_counted : (f : CallForm) (span : Span) (bang : Bool) (gs : Args) (c : Closure) (js : List Argument) (j shown : Judgement) (ds : List Diagnostic) (weight : ℕ) →
      counted j.codes + (values js + spans js) ≤ weight → of_closure_call f span gs c js ≡ ds → shown.codes ≡ j.codes ++ ds → counted (banged span bang shown).codes ≤ own span + weight
  wrong_counted f span bang gs c js j shown ds weight arguments is same =
      own_counted (λ i p e. false) (collection_parameters f) span bang gs (of_wanted_closure f span c) js j shown weight refl (wanted_counted f span c) arguments (ap counted (same ∙ ap (λ es. j.codes ++ es) (sym is)))

  -- and one without, behind its body
  pub run_counted : (f : CallForm) (span s : Span) (bang : Bool) (js : List Argument) (j k whole shown : Judgement) (weight within : ℕ) → counted j.codes + (values js + spans js) ≤ weight → counted k.codes ≤ within →
      whole.codes ≡ j.codes ++ k.codes → shown.codes ≡ whole.codes ++ of_body f s k → counted (banged span bang shown).codes ≤ own span + (weight + (one 1015 s + within))
  run_counted f span s bang js j k whole shown weight within arguments body codes same =
      let inner = ap counted codes ∙ both_counted j.codes k.codes in
      let outer = ap counted same ∙ both_counted whole.codes (of_body f s k) in
      let its = when_counted (is_wrong_body f k) 1015 s in
      let more = banged_counted span bang shown in
      let all = own_call span in
      omega (arith, inner, outer, its, more, all, arguments, body)
