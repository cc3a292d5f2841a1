-- The codes of a call: those of its arguments, by their parameters, and that of arguments that aren't bound.
use Rattle.std.proofs.Common.{◌≡◌, ◌≢◌, ℕ, zero, suc, ◌+◌, Bool, List, [], ◌∷◌, length, map, Option, Some, Result, Err, slice_get, refl, sym, ap, ◌∙◌, subst, arith, add-zero}
use Rattle.vrl_syntax.specs.Tree.{Args, Expr}
use Rattle.vrl_syntax.specs.View.{args_view}
use Rattle.vrl_syntax.specs.declared.tree.Arg.{Arg as CodeArg}
use Rattle.vrl_builtin.specs.Rows.{ParameterRow}
use Rattle.vrl_builtin.specs.View.{parameter_row}
use Rattle.vrl_builtin.specs.declared.parameter.Parameter.{Parameter}
use Rattle.vrl_binding.specs.Binding.{IsBound}
use Rattle.vrl_binding.specs.declared.binding.BindFault.{BindFault}
use Rattle.vrl_check.specs.Calling.{callee_parameters, callee_wants, written, AreTold}
use Rattle.vrl_judge.specs.Rules.{Argument, argument_at}
use Rattle.vrl_check.specs.Judgement.{bound, of_arguments, of_found}
use Rattle.vrl_judge.specs.Judging.{IsReported}
use Rattle.vrl_judge.specs.declared.calls.Argument.{Argument as CodeArgument}
use Rattle.vrl_check.specs.declared.calls.Callee.{Callee}
use Rattle.vrl_judge.specs.declared.checker.Checker.{Checker}
use Rattle.vrl_judge.specs.declared.ends.Ends.{Ends}
use Rattle.vrl_judge.proofs.Deleted.{empty_list}
use Rattle.vrl_judge.proofs.Parts.{reported_more, reported_none}
use Rattle.vrl_binding.specs.declared.binding.BindFault.TheVariants as fault

-- ---- the codes of the arguments

-- the same arguments
pub told_as : (gs gs' : Args) (parts parts' : List CodeArgument) (js : List Argument) → gs' ≡ gs → parts' ≡ parts → AreTold gs parts js → AreTold gs' parts' js
told_as gs gs' parts parts' js same are told = record { parts_are = are ∙ told.parts_are; written_are = ap written same ∙ told.written_are }

no_codes : (wants : ℕ → ParameterRow → Expr → Bool) (i : ℕ) (ps : List ParameterRow) → [] ≡ of_arguments wants i ps []
no_codes wants i [] = refl
no_codes wants i (p ∷ ps) = refl

-- the codes of the parameters that are left, behind those so far, are the codes of all
pub record AreCodesPartway (named : Callee) (args : List CodeArg) (parts : List CodeArgument) (places : List (Option ℕ)) (start : Checker) (first : Ends) (now : Checker) (ends : Ends) (place : ℕ) (left : List Parameter) (others : List (Option ℕ)) : Type 0 where
  pub suffix : (i : ℕ) → slice_get (callee_parameters named) (place + i) ≡ slice_get (map parameter_row left) i
  pub within : place + length left ≡ length (callee_parameters named)
  pub leads : (js : List Argument) → AreTold (args_view args) parts js → (after : Checker) (new : Ends) → IsReported (of_arguments (callee_wants named) place (map parameter_row left) (bound others js)) now after ends new
      → IsReported (of_arguments (callee_wants named) 0 (callee_parameters named) (bound places js)) start after first new

pub codes_next : (named : Callee) (args : List CodeArg) (parts : List CodeArgument) (places : List (Option ℕ)) (start : Checker) (first : Ends) (now after : Checker) (ends next : Ends) (place more : ℕ) (left rest : List Parameter) (p : Parameter)
    (others behind : List (Option ℕ)) (q : Option ℕ) → left ≡ p ∷ rest → others ≡ q ∷ behind → more ≡ suc place
    → ((js : List Argument) → AreTold (args_view args) parts js → IsReported (of_found (callee_wants named) place (parameter_row p) (argument_at js q)) now after ends next)
    → AreCodesPartway named args parts places start first now ends place left others → AreCodesPartway named args parts places start first after next more rest behind
codes_next named args parts places start first now after ends next place more left rest p others behind q is bound_is counted reports so_far = record {
  suffix = λ i.
      let same : more + i ≡ place + suc i = omega arith in
      ap (slice_get (callee_parameters named)) same ∙ so_far.suffix (suc i) ∙ ap (λ ps. slice_get (map parameter_row ps) (suc i)) is;
  within =
      let longer : length left ≡ suc (length rest) = ap length is in
      let within = so_far.within in
      omega arith;
  leads = λ js told end new reported.
      let both = reported_more _ _ now after end ends next new (reports js told) (subst (λ n. IsReported (of_arguments (callee_wants named) n (map parameter_row rest) (bound behind js)) after end next new) counted reported) in
      so_far.leads js told end new
      (subst (λ qs. IsReported (of_arguments (callee_wants named) place (map parameter_row left) (bound qs js)) now end ends new) (sym bound_is)
      (subst (λ ps. IsReported (of_arguments (callee_wants named) place (map parameter_row ps) (bound (q ∷ behind) js)) now end ends new) (sym is) both));
}

-- the parameter that is next
pub code_parameter : (named : Callee) (args : List CodeArg) (parts : List CodeArgument) (places : List (Option ℕ)) (start : Checker) (first : Ends) (now : Checker) (ends : Ends) (place : ℕ) (left rest : List Parameter) (p : Parameter) (others : List (Option ℕ))
    → left ≡ p ∷ rest → AreCodesPartway named args parts places start first now ends place left others → slice_get (callee_parameters named) place ≡ Some (parameter_row p)
code_parameter named args parts places start first now ends place left rest p others is so_far =
    ap (slice_get (callee_parameters named)) (sym (add-zero place)) ∙ so_far.suffix zero ∙ ap (λ ps. slice_get (map parameter_row ps) zero) is

-- no parameter is left, or no place
pub codes_end : (named : Callee) (args : List CodeArg) (parts : List CodeArgument) (places : List (Option ℕ)) (start : Checker) (first : Ends) (now : Checker) (ends : Ends) (place : ℕ) (left : List Parameter) (others : List (Option ℕ))
    → length left ≡ 0 → AreCodesPartway named args parts places start first now ends place left others
    → (js : List Argument) → AreTold (args_view args) parts js → IsReported (of_arguments (callee_wants named) 0 (callee_parameters named) (bound places js)) start now first ends
codes_end named args parts places start first now ends place left others none so_far js told =
    so_far.leads js told now ends (subst (λ ps. IsReported (of_arguments (callee_wants named) place (map parameter_row ps) (bound others js)) now now ends ends) (sym (empty_list left none)) (reported_none now ends))

pub codes_end_early : (named : Callee) (args : List CodeArg) (parts : List CodeArgument) (places : List (Option ℕ)) (start : Checker) (first : Ends) (now : Checker) (ends : Ends) (place : ℕ) (left : List Parameter) (others : List (Option ℕ))
    → length others ≡ 0 → AreCodesPartway named args parts places start first now ends place left others
    → (js : List Argument) → AreTold (args_view args) parts js → IsReported (of_arguments (callee_wants named) 0 (callee_parameters named) (bound places js)) start now first ends
codes_end_early named args parts places start first now ends place left others none so_far js told =
    so_far.leads js told now ends (subst (λ qs. IsReported (of_arguments (callee_wants named) place (map parameter_row left) (bound qs js)) now now ends ends) (sym (empty_list others none))
    (subst (λ ds. IsReported ds now now ends ends) (no_codes (callee_wants named) place (map parameter_row left)) (reported_none now ends)))

-- ---- arguments that aren't bound

-- but for want of memory, what is answered is what is bound
pub fault_is : (b : Result (List (Option ℕ)) BindFault) (f : BindFault) → f ≢ fault.Memory → IsBound b (Err f) → Err f ≡ b
fault_is b fault.Number other is = is
fault_is b (fault.Unknown i) other is = is
fault_is b (fault.Missing i) other is = is
fault_is b fault.Memory other is = absurd (other refl)
