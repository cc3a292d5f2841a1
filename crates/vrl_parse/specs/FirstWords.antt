-- What the parser's functions promise of the words before it.
use Rattle.std.specs.Prelude.{◌≡◌, ℕ, Bool, true, false, List, [], ◌∷◌}
use Rattle.vrl_diag.specs.declared.diagnostic.Span.{Span}
use Rattle.vrl_parse.specs.declared.parser.Operand.{Operand as CodeOperand}
use Rattle.vrl_parse.specs.declared.parser.Operand.TheVariants as code
use Rattle.vrl_parse.specs.declared.parser.Parser.{Parser}
use Rattle.vrl_parse.specs.declared.stop.Stop.{Stop}
use Rattle.vrl_parse.specs.declared.stop.Stop.TheVariants as stop
use Rattle.vrl_parse.specs.Descent.{a_block, a_call, a_group, a_literal, a_negation, a_path, a_template, an_array, an_if, an_object, Lacks, Look, Operand, Piece, Said, Says, Sees}
use Rattle.vrl_token.specs.declared.fault.SyntaxFault.{SyntaxFault}
use Rattle.vrl_token.specs.declared.fault.SyntaxFault.TheVariants.{Fault, Memory}
use Rattle.vrl_word.specs.Words.{Word, words_from}

-- the words that a parser has before it
abbrev pub words_left : Parser → List Word
words_left p = words_from p.patterns p.rest.now

-- the test says whether this is seen
pub record Tells (b : Bool) (l : Look) (ws : List Word) : Type 0 where
  pub yes : b ≡ true → Sees l ws
  pub no : b ≡ false → ¬ Sees l ws

-- there is no first word that can be taken so
pub record Without (k : Piece) (ws : List Word) : Type 0 where
  pub lacks : Lacks k ws

-- there is a first word that can be taken so
abbrev pub Holds : Piece → List Word → Type 0
Holds k [] = ⊥
Holds k (w ∷ ws) = (v : Said k) × Says k w v

-- there is no first word that can be taken so, and none was taken
pub record Missing (k : Piece) (ws left : List Word) : Type 0 where
  pub lacks : Lacks k ws
  pub stays : left ≡ ws

-- this holds where the parser stops for what the words are, and not for want of memory
abbrev pub OnRefusal : Type 0 → Stop → Type 0
OnRefusal P stop.Refused = P
OnRefusal P stop.Memory = Unit {0}

-- what is told of a stop at this place
abbrev pub fault_of : Stop → Span → SyntaxFault
fault_of stop.Refused span = Fault (record { code = 203; span = span })
fault_of stop.Memory span = Memory

-- the place of the first word, or that where the text ends
abbrev pub place_at : List Word → ℕ → Span
place_at [] ends = record { start = ends; end = ends }
place_at (w ∷ ws) ends = w.span

-- the operand that the parser tells
abbrev pub told_operand : CodeOperand → Operand
told_operand code.Negation = a_negation
told_operand code.Call = a_call
told_operand code.Array = an_array
told_operand code.Group = a_group
told_operand code.Object = an_object
told_operand code.Block = a_block
told_operand code.Conditional = an_if
told_operand code.Path = a_path
told_operand code.Template = a_template
told_operand code.Literal = a_literal
