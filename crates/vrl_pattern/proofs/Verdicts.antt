-- What the crate's answers say of a source.
use Rattle.std.proofs.Common.{MatchOption, Result, Ok, Err, IfOk, IfErr, ◌≡◌, ◌≢◌, ℕ, ◌<◌, ◌≤◌, true, false, List, Option, Some, None, refl, sym, subst, arith, inl, inr, chars}
use Rattle.std.proofs.lemmas.Bool.Decides.{nat_tests}
use Rattle.std.specs.Option.{IsSomeAnd, IfSome}
use Rattle.regex.specs.Sources.{IsRefusal}
use Rattle.regex.specs.Failures.{IsRightKind}
use Rattle.regex.specs.Strings.{regex_source, regex_config, IsReadFromSource}
use Rattle.regex.specs.declared.string.regex.Regex.{Regex}
use Rattle.regex.specs.declared.error.Error.{Error}
use Rattle.regex.specs.declared.error.Error.TheVariants as error
use Rattle.regex_hir.specs.Re.{Re}
use Rattle.regex_hir.specs.declared.hir.Hir.{Hir}
use Rattle.regex_syntax.specs.Brackets.{Nested}
use Rattle.regex_syntax.specs.Grammar.{Names, read}
use Rattle.regex_syntax.specs.Verdict.{default_config, Reads, Refuses}
use Rattle.regex_syntax.specs.declared.Config.{Config}
use Rattle.regex_syntax.specs.declared.error.ErrorKind.{ErrorKind}
use Rattle.regex_syntax.specs.declared.error.ErrorKind.TheVariants.{OutOfMemory}
use Rattle.vrl_pattern.specs.Built.{IsBuiltOf}
use Rattle.vrl_pattern.specs.Malformed.{is_no_pattern, is_malformed}
use Rattle.vrl_pattern.specs.Verdict.{IsVerdict}
use Rattle.vrl_value.specs.declared.memory.Memory.{Memory}

shallow : (found : Option (Nested Re × Names)) (Q : Nested Re × Names → Type 0) → ((x : Nested Re × Names) → Q x → x.0.depth ≤ default_config.nest_limit) → IsSomeAnd found Q → is_no_pattern found ≡ false
shallow None Q within h = absurd h
shallow (Some x) Q within h = let low = within x h in grind (arith, nat_tests)

formed : (config : Config) (source : List ℕ) (hir : Hir) (names : Names) → config ≡ default_config → Reads config source hir names → is_malformed source ≡ false
unfolding Reads is_malformed
formed config source hir names is reads = shallow (read default_config (chars source)) _ (λ x h. h.0) (subst (λ k. Reads k source hir names) is reads)

deep : (found : Option (Nested Re × Names)) → IfSome found (λ (re, _). default_config.nest_limit < re.depth) → is_no_pattern found ≡ true
deep None h = refl
deep (Some x) h = let high : default_config.nest_limit < x.0.depth = h in grind (arith, nat_tests)

refused : (source : List ℕ) (kind : ErrorKind) → Refuses default_config source kind → kind ≢ OutOfMemory → is_malformed source ≡ true
unfolding Refuses is_malformed
refused source kind refuses other = elim refuses [
  | inl memory ↦ absurd (other memory)
  | inr (inl none) ↦ rw none refl
  | inr (inr nested) ↦ deep _ nested.1
]

-- what an answer of the crate says of the source
abbrev pub Says : List ℕ → Result Regex Error → Type 0
Says source (Ok regex) = (is_malformed source ≡ false) × IsBuiltOf source regex
Says source (Err (error.Syntax e)) = is_malformed source ≡ true
Says source (Err other) = Unit {0}

pub says : (source : List ℕ) (r : Result Regex Error)
    → IfOk r (λ regex. regex_source regex ≡ source) → IfOk r (λ regex. regex_config regex ≡ default_config) → IfOk r IsReadFromSource
    → IfErr r (IsRefusal default_config source) → IfErr r (IsRightKind default_config source) → Says source r
says source (Ok regex) same config read refusal kind = (
  subst (λ s. is_malformed s ≡ false) same (formed (regex_config regex) (regex_source regex) _ _ config read),
  record { source_is = same; config_is = config; read = read },
)
says source (Err (error.Syntax e)) same config read refusal kind = refused source e.kind (refusal e refl) kind
says source (Err error.CompiledTooBig) same config read refusal kind = tt
says source (Err error.Internal) same config read refusal kind = tt
says source (Err error.OutOfMemory) same config read refusal kind = tt

-- what is told of it
abbrev pub Told : List ℕ → Result (Option Regex) Memory → Type 0
Told source made = IfOk made (λ built. MatchOption built (is_malformed source ≡ true) (λ regex. (is_malformed source ≡ false) × IsBuiltOf source regex))

pub told : (source : List ℕ) (r : Result Regex Error) (verdict : Result (Option Regex) Memory) → Says source r → IsVerdict r verdict → Told source verdict
told source (Ok regex) verdict says is = subst (Told source) (sym is) says
told source (Err (error.Syntax e)) verdict says is = subst (Told source) (sym is) says
told source (Err error.CompiledTooBig) verdict says is = subst (Told source) (sym is) tt
told source (Err error.Internal) verdict says is = subst (Told source) (sym is) tt
told source (Err error.OutOfMemory) verdict says is = subst (Told source) (sym is) tt
