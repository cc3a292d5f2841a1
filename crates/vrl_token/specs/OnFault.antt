-- What a syntax fault says: what is wrong with a text, or want of memory, which says nothing of it.
use Rattle.std.specs.Prelude.{ℕ, List, ◌++◌, codes, decimal}
use Rattle.vrl_diag.specs.declared.diagnostic.Diagnostic.{Diagnostic}
use Rattle.vrl_token.specs.declared.fault.SyntaxFault.{SyntaxFault}
use Rattle.vrl_token.specs.declared.fault.SyntaxFault.TheVariants.{Fault, Memory}

-- where the fault has a diagnostic, it is one of these
abbrev pub OnFault : (Diagnostic → Type 0) → SyntaxFault → Type 0
OnFault P (Fault fault) = P fault
OnFault P Memory = Unit {0}

-- the text of a fault
abbrev pub fault_text : SyntaxFault → List ℕ
fault_text (Fault fault) = codes "error " ++ decimal fault.code
fault_text Memory = codes "out of memory"
