-- What the parser does, told as data: for each of its functions a program over the words before it. It never goes back.
use Rattle.std.specs.Prelude.{◌≡◌, ℕ, suc, Bool, true, false, IsTrue, List, [], ◌∷◌, Option, Some, None}
use Rattle.vrl_path.specs.declared.path.Step.{Step}
use Rattle.vrl_diag.specs.declared.diagnostic.Span.{Span}
use Rattle.vrl_syntax.specs.Tree.{Expr, expr, literal, array, object, read, query, group, block, conditional, negation, binary, assign, merge, both, call, return_of, abort_with, Exprs, no_exprs, exprs, Pairs, no_pairs, pair, Arms, no_arms, arm, Else, no_else, else_block, Args, no_args, arg, no_closure, closure, no_message, message, span_of}
use Rattle.vrl_syntax.specs.declared.root.Op.{Op}
use Rattle.vrl_syntax.specs.declared.root.Root.{Root}
use Rattle.vrl_syntax.specs.declared.root.Target.{Target}
use Rattle.vrl_token.specs.declared.token.Token.{Token}
use Rattle.vrl_token.specs.declared.token.Token.TheVariants as token
use Rattle.vrl_value.specs.Tree.{Tree}
use Rattle.vrl_parse.specs.Grammar.{Is}
use Rattle.vrl_word.specs.Words.{Word, over, literal_of, template_of, path_of, target_of, function_of, name_span, operator_of, levels}

-- ---- single words

-- what a word can be taken as; an operator has its level
pub data Piece : Type 0 where
  sign_word : Token → Piece
  target_word name_word key_word function_word path_word literal_word template_word suffix_word : Piece
  operator_word : ℕ → Piece

-- what it then says
abbrev pub Said : Piece → Type 0
Said (sign_word t) = Unit {0}
Said target_word = Target
Said name_word = List ℕ
Said key_word = List ℕ
Said function_word = List ℕ × Bool
Said path_word = Root × List Step
Said literal_word = Tree
Said template_word = Expr
Said suffix_word = List Step
Said (operator_word n) = Op

abbrev pub Says : (k : Piece) → Word → Said k → Type 0
Says (sign_word t) w v = Is t w
Says target_word w v = target_of w ≡ Some v
Says name_word w v = Is (token.Name v) w
Says key_word w v = Is (token.Text v) w
Says function_word w v = function_of w.token ≡ Some v
Says path_word w v = path_of w.token ≡ Some v
Says literal_word w v = literal_of w ≡ Some v
Says template_word w v = template_of w ≡ Some v
Says suffix_word w v = Is (token.Suffix v) w
Says (operator_word n) w v = operator_of w.token ≡ Some (n, v)

-- the first word says so and stands there, and these are the words behind it
pub data Takes (k : Piece) : List Word → Said k → Span → List Word → Type 0 where
  takes : {w : Word} {ws : List Word} (v : Said k) → Says k w v → Takes k (w ∷ ws) v w.span ws

-- there is no first word that can be taken so
abbrev pub Lacks : Piece → List Word → Type 0
Lacks k [] = Unit {0}
Lacks k (w ∷ ws) = (v : Said k) → ¬ Says k w v

-- what is looked at before a word is taken
pub data Look : Type 0 where
  at_end : Look
  next : Token → Look
  before : Piece → Token → Look
  expression_end : Look
  tightest : ℕ → Look

-- no expression goes on with it
abbrev pub ends_expression : Token → Bool
ends_expression token.Separator = true
ends_expression token.CloseParenthesis = true
ends_expression token.CloseBracket = true
ends_expression token.CloseBrace = true
ends_expression token.Comma = true
ends_expression t = false

abbrev pub Begins : Token → List Word → Type 0
Begins t [] = ⊥
Begins t (w ∷ ws) = Is t w

abbrev pub Sees : Look → List Word → Type 0
Sees at_end [] = Unit {0}
Sees at_end (w ∷ ws) = ⊥
Sees (next t) ws = Begins t ws
Sees (before k t) [] = ⊥
Sees (before k t) (w ∷ ws) = (v : Said k) × Says k w v × Begins t ws
Sees expression_end [] = Unit {0}
Sees expression_end (w ∷ ws) = IsTrue (ends_expression w.token)
Sees (tightest n) ws = n ≡ levels

-- which operand begins with a word
pub data Operand : Type 0 where
  a_negation a_call an_array a_group an_object a_block an_if a_path a_template a_literal : Operand

abbrev pub operand_of : Token → Operand
operand_of token.Not = a_negation
operand_of (token.Function n) = a_call
operand_of (token.BangFunction n) = a_call
operand_of token.OpenBracket = an_array
operand_of token.OpenParenthesis = a_group
operand_of token.OpenObject = an_object
operand_of token.OpenBlock = a_block
operand_of token.If = an_if
operand_of (token.Name n) = a_path
operand_of (token.NamePath n path) = a_path
operand_of (token.EventPath path) = a_path
operand_of (token.MetadataPath path) = a_path
operand_of (token.Template first holes) = a_template
operand_of t = a_literal

abbrev pub operand_at : List Word → Operand
operand_at [] = a_literal
operand_at (w ∷ ws) = operand_of w.token

-- ---- programs

-- what is parsed; a chain goes on behind the left side of operators of a level, and arms behind the word `if`
pub data Rule : Type 0 where
  script item single : Rule
  level : ℕ → Rule
  chain : ℕ → Expr → Rule
  operand parts pairs arguments argument closing names more_names braces arms : Rule

-- what a rule answers; an argument with its name and place, a closure and a block with the block's place, and
-- arms with the place of the last block
abbrev pub Meaning : Rule → Type 0
Meaning script = Exprs
Meaning item = Expr
Meaning single = Expr
Meaning (level n) = Expr
Meaning (chain n left) = Expr
Meaning operand = Expr
Meaning parts = Exprs
Meaning pairs = Pairs
Meaning arguments = Args
Meaning argument = Option (List ℕ) × Span × Expr
Meaning closing = List (List ℕ) × Exprs × Span
Meaning names = List (List ℕ)
Meaning more_names = List (List ℕ)
Meaning braces = Exprs × Span
Meaning arms = Arms × Else × Span

-- take a word and go on with what it says, or go on without it; look; follow a rule and go on with its answer
pub data Program (A : Type 0) : Type 0 where
  done : A → Program A
  refuse : Program A
  take : (k : Piece) → (Said k → Span → Program A) → Program A → Program A
  look : Look → Program A → Program A → Program A
  by_operand : (Operand → Program A) → Program A
  go : (r : Rule) → (Meaning r → Program A) → Program A

-- without the word there is no script
abbrev pub expect : {A : Type 0} → (k : Piece) → (Said k → Span → Program A) → Program A
expect k p = take k p refuse

-- ---- the program of each rule

-- a suffix where there is one
abbrev pub suffixed : Expr → Program Expr
suffixed e = take suffix_word (λ path end. done (expr (over (span_of e) end) (query e path))) (done e)

abbrev pub assignment : Program Expr
assignment = expect target_word λ t start. expect (sign_word token.Assign) λ _ _. go single λ e. done
    (expr (over start (span_of e)) (assign t e))

abbrev pub merging : Program Expr
merging = expect target_word λ t start. expect (sign_word token.MergeAssign) λ _ _. go single λ e. done
    (expr (over start (span_of e)) (merge t e))

-- behind `abort`
abbrev pub aborting : Span → Program Expr
aborting start = look expression_end (done (expr start (abort_with no_message)))
    (go single λ e. done (expr (over start (span_of e)) (abort_with (message e))))

-- behind the arguments of a call
abbrev pub calling : List ℕ × Bool → Span → Args → Span → Program Expr
calling f start gs end = look (next token.Arrow)
    (go closing λ c. done (expr (over start c.2) (call f.0 (name_span start f.1) f.1 gs (closure c.0 c.1 c.2))))
    (suffixed (expr (over start end) (call f.0 (name_span start f.1) f.1 gs no_closure)))

abbrev pub operand_program : Operand → Program Expr
operand_program a_negation =
    expect (sign_word token.Not) λ _ start. go operand λ e. done (expr (over start (span_of e)) (negation e))
operand_program a_call = expect function_word λ f start. expect
    (sign_word token.OpenParenthesis) λ _ _. go arguments λ gs. expect
    (sign_word token.CloseParenthesis) λ _ end. calling f start gs end
operand_program an_array = expect (sign_word token.OpenBracket) λ _ start. go parts λ es. expect
    (sign_word token.CloseBracket) λ _ end. suffixed (expr (over start end) (array es))
operand_program a_group = expect (sign_word token.OpenParenthesis) λ _ start. go item λ e. expect
    (sign_word token.CloseParenthesis) λ _ end. suffixed (expr (over start end) (group e))
operand_program an_object = expect (sign_word token.OpenObject) λ _ start. go pairs λ ps. expect
    (sign_word token.CloseBrace) λ _ end. done (expr (over start end) (object ps))
operand_program a_block = go braces λ b. done (expr b.1 (block b.0))
operand_program an_if =
    expect (sign_word token.If) λ _ start. go arms λ a. done (expr (over start a.2) (conditional a.0 a.1))
operand_program a_path = expect path_word λ p span. done (expr span (read p.0 p.1))
operand_program a_template = expect template_word λ e _. done e
operand_program a_literal = expect literal_word λ v span. done (expr span (literal v))

abbrev pub program_of : (r : Rule) → Program (Meaning r)
program_of script = take (sign_word token.Separator) (λ _ _. go script done)
    (look at_end (done no_exprs) (look (next token.CloseBrace) (done no_exprs)
    (go item λ e. take (sign_word token.Separator) (λ _ _. go script λ es. done (exprs e es))
    (done (exprs e no_exprs)))))
program_of item = look (before path_word token.Comma)
    (expect target_word λ t start. expect (sign_word token.Comma) λ _ _. expect target_word λ u _. expect
    (sign_word token.Assign) λ _ _. go single λ e. done (expr (over start (span_of e)) (both t u e)))
    (go single done)
program_of single = look (before path_word token.Assign) assignment (look (before path_word token.MergeAssign) merging
    (take (sign_word token.Return) (λ _ start. go single λ e. done (expr (over start (span_of e)) (return_of e)))
    (take (sign_word token.Abort) (λ _ start. aborting start) (go (level 0) done))))
program_of (level n) = look (tightest n) (go operand done) (go (level (suc n)) λ left. go (chain n left) done)
program_of (chain n left) = take (operator_word n)
    (λ o _. go (level (suc n)) λ right. go
    (chain n (expr (over (span_of left) (span_of right)) (binary o left right))) done) (done left)
program_of operand = by_operand operand_program
program_of parts = look (next token.CloseBracket) (done no_exprs)
    (go single λ e. take (sign_word token.Comma) (λ _ _. go parts λ es. done (exprs e es)) (done (exprs e no_exprs)))
program_of pairs = look (next token.CloseBrace) (done no_pairs)
    (expect key_word λ key _. expect (sign_word token.Colon) λ _ _. go single λ e. take (sign_word token.Comma)
    (λ _ _. go pairs λ ps. done (pair key e ps)) (done (pair key e no_pairs)))
program_of arguments = look (next token.CloseParenthesis) (done no_args)
    (go argument λ a. take (sign_word token.Comma) (λ _ _. go arguments λ gs. done (arg a.0 a.1 a.2 gs))
    (done (arg a.0 a.1 a.2 no_args)))
program_of argument = look (before name_word token.Colon)
    (expect name_word λ n start. expect (sign_word token.Colon) λ _ _. go single λ e. done
    (Some n, over start (span_of e), e))
    (go single λ e. done (None, span_of e, e))
program_of closing = expect (sign_word token.Arrow) λ _ _. expect
    (sign_word token.OpenBars) λ _ _. go names λ ns. expect (sign_word token.CloseBars) λ _ _. go braces λ b. done
    (ns, b.0, b.1)
program_of names = expect name_word λ n _. go more_names λ ns. done (n ∷ ns)
program_of more_names =
    take (sign_word token.Comma) (λ _ _. expect name_word λ n _. go more_names λ ns. done (n ∷ ns)) (done [])
program_of braces = expect (sign_word token.OpenBlock) λ _ start. go script λ es. expect
    (sign_word token.CloseBrace) λ _ end. done (es, over start end)
program_of arms = go (level 0) λ e. go braces λ b. take (sign_word token.Else)
    (λ _ _. take (sign_word token.If)
    (λ _ _. go arms λ a. done (arm e b.0 a.0, a.1, a.2))
    (go braces λ c. done (arm e b.0 no_arms, else_block c.0, c.1)))
    (done (arm e b.0 no_arms, no_else, b.1))

-- ---- what programs do

-- how a program ends: with an answer and the words that are left, or without a script, before the words with
-- which none goes on
pub data Ending (A : Type 0) : Type 0 where
  took : A → List Word → Ending A
  refused : List Word → Ending A

-- a program of this rule, begun at these words, ends so
pub data Runs : (r : Rule) → Program (Meaning r) → List Word → Ending (Meaning r) → Type 0 where
  ran : {r : Rule} {x : Meaning r} {ws : List Word} → Runs r (done x) ws (took x ws)
  refuses : {r : Rule} {ws : List Word} → Runs r refuse ws (refused ws)
  taken : {r : Rule} {k : Piece} {p : Said k → Span
      → Program (Meaning r)} {q : Program (Meaning r)} {ws vs : List Word} {v : Said k} {s : Span} {o : Ending
      (Meaning r)} → Takes k ws v s vs → Runs r (p v s) vs o → Runs r (take k p q) ws o
  untaken : {r : Rule} {k : Piece} {p : Said k → Span
      → Program (Meaning r)} {q : Program (Meaning r)} {ws : List Word} {o : Ending (Meaning r)} → Lacks k ws
      → Runs r q ws o → Runs r (take k p q) ws o
  seen : {r : Rule} {l : Look} {p q : Program (Meaning r)} {ws : List Word} {o : Ending (Meaning r)} → Sees l ws
      → Runs r p ws o → Runs r (look l p q) ws o
  unseen : {r : Rule} {l : Look} {p q : Program (Meaning r)} {ws : List Word} {o : Ending (Meaning r)} → ¬ Sees l ws
      → Runs r q ws o → Runs r (look l p q) ws o
  chosen : {r : Rule} {p : Operand → Program (Meaning r)} {a : Operand} {ws : List Word} {o : Ending (Meaning r)}
      → operand_at ws ≡ a → Runs r (p a) ws o → Runs r (by_operand p) ws o
  gone : {r q : Rule} {p : Meaning q
      → Program (Meaning r)} {x : Meaning q} {ws vs : List Word} {o : Ending (Meaning r)}
      → Runs q (program_of q) ws (took x vs) → Runs r (p x) vs o → Runs r (go q p) ws o
  not_gone : {r q : Rule} {p : Meaning q → Program (Meaning r)} {ws vs : List Word}
      → Runs q (program_of q) ws (refused vs) → Runs r (go q p) ws (refused vs)

-- the rule answers this and leaves these words, or finds no script and stops before these words
abbrev pub RuleTakes : (r : Rule) → List Word → Meaning r → List Word → Type 0
RuleTakes r ws x vs = Runs r (program_of r) ws (took x vs)

abbrev pub RuleRefuses : Rule → List Word → List Word → Type 0
RuleRefuses r ws vs = Runs r (program_of r) ws (refused vs)
