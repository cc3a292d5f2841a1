-- The words that a program took before it refuses can be completed: where it stops, each word that it still wants may come.
use Rattle.std.proofs.Common.{arith, ◌≡◌, ◌+◌, ◌-◌, ◌<◌, ℕ, zero, suc, Bool, true, false, ◌&&◌, None, List, [], ◌∷◌, ◌++◌, ltb, refl, sym, ap, ◌∙◌, subst}
use Rattle.std.proofs.lemmas.Bool.{and_parts, lt-ltb, ltb-false, ltb-true}
use Rattle.std.proofs.lemmas.List.{append-nil, append_assoc}
use Rattle.vrl_diag.specs.declared.diagnostic.Span.{Span}
use Rattle.vrl_path.specs.declared.path.Step.TheVariants.{Field}
use Rattle.vrl_syntax.specs.Tree.{Expr, expr, literal, group, no_exprs, no_pairs, no_arms, arm, no_else, no_args}
use Rattle.vrl_syntax.specs.declared.root.Op.TheVariants as op
use Rattle.vrl_syntax.specs.declared.root.Root.TheVariants as root
use Rattle.vrl_syntax.specs.declared.root.Target.TheVariants as target
use Rattle.vrl_token.specs.declared.token.Token.{Token}
use Rattle.vrl_token.specs.declared.token.Token.TheVariants as token
use Rattle.vrl_value.specs.Tree.{null as null_value, string}
use Rattle.vrl_word.specs.Words.{Word}
use Rattle.vrl_parse.specs.Grammar.{one_name, IsScript, no_items, single as single_item, IsSingle, coalesce, IsLevel, tighter, tightest as tightest_level, IsUnary, primary, a_literal as literal_operand, no_arguments, unnamed, a_closure, no_singles, no_parts, IsBlock, a_script, last_arm}
use Rattle.vrl_parse.specs.Descent.{Piece, sign_word, target_word, name_word, key_word, function_word, path_word, literal_word, template_word, suffix_word, operator_word, Said, Says, takes, Sees, Operand, a_negation, a_call, an_array, a_group, an_object, a_block, an_if, a_path, a_template, a_literal, operand_program, Rule, script, item, single, level, chain, operand, parts, pairs, arguments, argument, closing, names, more_names, braces, arms, Meaning, Program, done, refuse, take, look, by_operand, go, program_of, refused, Runs, refuses, taken, untaken, seen, unseen, chosen, gone, not_gone, RuleRefuses}
use Rattle.vrl_parse.proofs.Beginnings.{operator_low}
use Rattle.vrl_parse.proofs.Spelled.{Front, Keeps, Spells, add_word, kept, rule_keeps}

-- ---- words that may come

abbrev pub no_place : Span
no_place = record { start = 0; end = 0 }

-- a token that stands nowhere, behind so many regex literals
abbrev pub word_at : ℕ → Token → Word
word_at n t = record { token = t; span = no_place; number = n }

abbrev pub words_at : ℕ → List Token → List Word
words_at n [] = []
words_at n (t ∷ ts) = word_at n t ∷ words_at n ts

abbrev pub is_plain : Token → Bool
is_plain (token.Regex s) = false
is_plain t = true

-- none is a regex literal, so all of them stand behind as many
abbrev pub ArePlain : List Token → Type 0
ArePlain [] = Unit {0}
ArePlain (t ∷ ts) = (is_plain t ≡ true) × ArePlain ts

plain_both : (ts us : List Token) → ArePlain ts → ArePlain us → ArePlain (ts ++ us)
plain_both [] us one two = two
plain_both (t ∷ ts) us one two = (one.0, plain_both ts us one.1 two)

words_both : (n : ℕ) (ts us : List Token) → words_at n (ts ++ us) ≡ words_at n ts ++ words_at n us
words_both n [] us = refl
words_both n (t ∷ ts) us = ap (λ ws. word_at n t ∷ ws) (words_both n ts us)

-- with some such words behind, the program's words are what it makes of them
pub record Ending {A : Type 0} (n : ℕ) (holds : List Word → A → Type 0) : Type 0 where
  pub more : List Token
  pub plain : ArePlain more
  pub answer : A
  pub told : holds (words_at n more) answer

-- the same of words that were taken, whatever literals stand before
abbrev pub CanEnd : {A : Type 0} → (List Word → A → Type 0) → List Word → Type 0
CanEnd holds us = (n : ℕ) → Ending n (λ ts. holds (us ++ ts))

-- ---- a word for each piece, but for an operator, which is never wanted

abbrev a_name : List ℕ
a_name = 120 ∷ []

abbrev filler : Piece → Token
filler (sign_word t) = t
filler target_word = token.EventPath []
filler name_word = token.Name a_name
filler key_word = token.Text a_name
filler function_word = token.Function a_name
filler path_word = token.EventPath []
filler literal_word = token.Null
filler template_word = token.Template [] []
filler suffix_word = token.Suffix (Field a_name ∷ [])
filler (operator_word n) = token.Plus

abbrev filled : (k : Piece) → Said k
filled (sign_word t) = tt
filled target_word = target.Place no_place root.Event []
filled name_word = a_name
filled key_word = a_name
filled function_word = (a_name, false)
filled path_word = (root.Event, [])
filled literal_word = null_value
filled template_word = expr no_place (group (expr no_place (literal (string []))))
filled suffix_word = Field a_name ∷ []
filled (operator_word n) = op.Plus

abbrev fills : Piece → Bool
fills (sign_word t) = is_plain t
fills (operator_word n) = false
fills k = true

filler_says : (k : Piece) (n : ℕ) → fills k ≡ true → Says k (word_at n (filler k)) (filled k)
filler_says (sign_word t) n can = record { is = refl }
filler_says target_word n can = refl
filler_says name_word n can = record { is = refl }
filler_says key_word n can = record { is = refl }
filler_says function_word n can = refl
filler_says path_word n can = refl
filler_says literal_word n can = refl
filler_says template_word n can = refl
filler_says suffix_word n can = record { is = refl }
filler_says (operator_word m) n can = cc

filler_plain : (k : Piece) → fills k ≡ true → is_plain (filler k) ≡ true
filler_plain (sign_word t) can = can
filler_plain (operator_word n) can = refl
filler_plain k can = refl

-- ---- words for each rule; there are no levels behind the tightest

abbrev a_null : Expr
a_null = expr no_place (literal null_value)

abbrev can_be : Rule → Bool
can_be (level n) = ltb n 9
can_be r = true

abbrev rule_tokens : Rule → List Token
rule_tokens script = []
rule_tokens item = token.Null ∷ []
rule_tokens single = token.Null ∷ []
rule_tokens (level n) = token.Null ∷ []
rule_tokens (chain n left) = []
rule_tokens operand = token.Null ∷ []
rule_tokens parts = []
rule_tokens pairs = []
rule_tokens arguments = []
rule_tokens argument = token.Null ∷ []
rule_tokens closing = token.Arrow ∷ token.OpenBars ∷ token.Name a_name ∷ token.CloseBars ∷ token.OpenBlock ∷ token.CloseBrace ∷ []
rule_tokens names = token.Name a_name ∷ []
rule_tokens more_names = []
rule_tokens braces = token.OpenBlock ∷ token.CloseBrace ∷ []
rule_tokens arms = token.Null ∷ token.OpenBlock ∷ token.CloseBrace ∷ []

abbrev rule_answer : (r : Rule) → Meaning r
rule_answer script = no_exprs
rule_answer item = a_null
rule_answer single = a_null
rule_answer (level n) = a_null
rule_answer (chain n left) = left
rule_answer operand = a_null
rule_answer parts = no_exprs
rule_answer pairs = no_pairs
rule_answer arguments = no_args
rule_answer argument = (None, no_place, a_null)
rule_answer closing = (a_name ∷ [], no_exprs, no_place)
rule_answer names = a_name ∷ []
rule_answer more_names = []
rule_answer braces = (no_exprs, no_place)
rule_answer arms = (arm a_null no_exprs no_arms, no_else, no_place)

rule_plain : (r : Rule) → ArePlain (rule_tokens r)
rule_plain script = tt
rule_plain item = (refl, tt)
rule_plain single = (refl, tt)
rule_plain (level n) = (refl, tt)
rule_plain (chain n left) = tt
rule_plain operand = (refl, tt)
rule_plain parts = tt
rule_plain pairs = tt
rule_plain arguments = tt
rule_plain argument = (refl, tt)
rule_plain closing = (refl, (refl, (refl, (refl, (refl, (refl, tt))))))
rule_plain names = (refl, tt)
rule_plain more_names = tt
rule_plain braces = (refl, (refl, tt))
rule_plain arms = (refl, (refl, (refl, tt)))

null_unary : (n : ℕ) → IsUnary (word_at n token.Null ∷ []) a_null
null_unary n = primary (literal_operand refl)

null_above : (n d m : ℕ) → d + m ≡ 8 → IsLevel m (word_at n token.Null ∷ []) a_null
null_above n zero m is =
    let same : 8 ≡ m = omega (arith, is) in
    subst (λ k. IsLevel k (word_at n token.Null ∷ []) a_null) same (tightest_level (null_unary n))
null_above n (suc d) m is = tighter (null_above n d (suc m) (omega (arith, is)))

null_level : (n m : ℕ) → m < 9 → IsLevel m (word_at n token.Null ∷ []) a_null
null_level n m low = null_above n (8 - m) m (omega (arith, low))

null_single : (n : ℕ) → IsSingle (word_at n token.Null ∷ []) a_null
null_single n = coalesce (null_level n 0 (omega arith))

empty_block : (n : ℕ) → IsBlock (word_at n token.OpenBlock ∷ word_at n token.CloseBrace ∷ []) no_exprs no_place
empty_block n = a_script {ws = []} (record { is = refl }) no_items (record { is = refl })

rule_spelled : (r : Rule) (n : ℕ) → can_be r ≡ true → Spells r (words_at n (rule_tokens r)) (rule_answer r)
rule_spelled script n can = no_items
rule_spelled item n can = single_item (null_single n)
rule_spelled single n can = null_single n
rule_spelled (level m) n can = null_level n m (ltb-true m 9 can)
rule_spelled (chain m left) n can = λ us h. rw append-nil h
rule_spelled operand n can = null_unary n
rule_spelled parts n can = no_singles
rule_spelled pairs n can = no_parts
rule_spelled arguments n can = no_arguments
rule_spelled argument n can = unnamed (null_single n)
rule_spelled closing n can =
    a_closure {ws = word_at n (token.Name a_name) ∷ []} {vs = word_at n token.OpenBlock ∷ word_at n token.CloseBrace ∷ []} (record { is = refl }) (record { is = refl }) (one_name (record { is = refl })) (record { is = refl }) (empty_block n)
rule_spelled names n can = one_name (record { is = refl })
rule_spelled more_names n can = λ w m is. one_name is
rule_spelled braces n can = empty_block n
rule_spelled arms n can = last_arm {ws = word_at n token.Null ∷ []} {vs = word_at n token.OpenBlock ∷ word_at n token.CloseBrace ∷ []} (null_level n 0 (omega arith)) (empty_block n)

rule_ending : (r : Rule) → can_be r ≡ true → CanEnd (Spells r) []
rule_ending r can n = record { more = rule_tokens r; plain = rule_plain r; answer = rule_answer r; told = rule_spelled r n can }

-- ---- a program ends where each word that it wants comes

abbrev ends : {A : Type 0} → Program A → Bool
ends (done x) = true
ends refuse = false
ends (take k p q) = fills k && ends (p (filled k) no_place)
ends (look l p q) = ends q
ends (by_operand p) = false
ends (go r p) = can_be r && ends (p (rule_answer r))

some_end : {A : Type 0} (n : ℕ) (p : Program A) (holds : List Word → A → Type 0) → ends p ≡ true → Keeps p holds → Ending n holds
some_end n (done x) holds can h = record { more = []; plain = tt; answer = x; told = h }
some_end n refuse holds can h = let wrong : ⊥ = cc in absurd wrong
some_end n (take k p q) holds can h =
    let both = and_parts (fills k) (ends (p (filled k) no_place)) can in
    let rest = some_end n (p (filled k) no_place) (λ ts. holds (word_at n (filler k) ∷ ts)) both.1 (h.0 (word_at n (filler k)) (filled k) (filler_says k n both.0)) in
    record { more = filler k ∷ rest.more; plain = (filler_plain k both.0, rest.plain); answer = rest.answer; told = rest.told }
some_end n (look l p q) holds can h = some_end n q holds can h.1
some_end n (by_operand p) holds can h = let wrong : ⊥ = cc in absurd wrong
some_end n (go r p) holds can h =
    let both = and_parts (can_be r) (ends (p (rule_answer r))) can in
    let rest = some_end n (p (rule_answer r)) (λ ts. holds (words_at n (rule_tokens r) ++ ts)) both.1 (h (words_at n (rule_tokens r)) (rule_answer r) (rule_spelled r n both.0)) in
    record {
      more = rule_tokens r ++ rest.more;
      plain = plain_both (rule_tokens r) rest.more (rule_plain r) rest.plain;
      answer = rest.answer;
      told = subst (λ ts. holds ts rest.answer) (sym (words_both n (rule_tokens r) rest.more)) rest.told;
    }

-- behind each step that it makes the program can still end
abbrev Sure : {A : Type 0} → Program A → Type 0
Sure (done x) = Unit {0}
Sure refuse = Unit {0}
Sure (take k p q) = ((w : Word) (v : Said k) → Says k w v → (ends (p v w.span) ≡ true) × Sure (p v w.span)) × Sure q
Sure (look l p q) = ((ws : List Word) → Sees l ws → Sure p) × ((ws : List Word) → ¬ Sees l ws → Sure q)
Sure (by_operand p) = (a : Operand) → Sure (p a)
Sure (go r p) = (can_be r ≡ true) × ((x : Meaning r) → (ends (p x) ≡ true) × Sure (p x))

next_by : (n : ℕ) (b : Bool) → ltb n 8 ≡ b → n < 9 → ¬ (n ≡ 8) → ltb (suc n) 9 ≡ true
next_by n true is low other = let below = ltb-true n 8 is in lt-ltb (suc n) 9 (omega (arith, below))
next_by n false is low other = let above = ltb-false n 8 is in absurd (other (omega (arith, above, low)))

operand_sure : (a : Operand) → Sure (operand_program a)
operand_sure a_negation = ((λ _ _ _. (refl, (refl, λ _. (refl, tt)))), tt)
operand_sure a_call =
    ((λ _ _ _. (refl, ((λ _ _ _. (refl, (refl, λ _. (refl, ((λ _ _ _. (refl, ((λ _ _. (refl, λ _. (refl, tt))), (λ _ _. ((λ _ _ _. (refl, tt)), tt))))), tt))))), tt))), tt)
operand_sure an_array = ((λ _ _ _. (refl, (refl, λ _. (refl, ((λ _ _ _. (refl, ((λ _ _ _. (refl, tt)), tt))), tt))))), tt)
operand_sure a_group = ((λ _ _ _. (refl, (refl, λ _. (refl, ((λ _ _ _. (refl, ((λ _ _ _. (refl, tt)), tt))), tt))))), tt)
operand_sure an_object = ((λ _ _ _. (refl, (refl, λ _. (refl, ((λ _ _ _. (refl, tt)), tt))))), tt)
operand_sure a_block = (refl, λ _. (refl, tt))
operand_sure an_if = ((λ _ _ _. (refl, (refl, λ _. (refl, tt)))), tt)
operand_sure a_path = ((λ _ _ _. (refl, tt)), tt)
operand_sure a_template = ((λ _ _ _. (refl, tt)), tt)
operand_sure a_literal = ((λ _ _ _. (refl, tt)), tt)

rule_sure : (r : Rule) → can_be r ≡ true → Sure (program_of r)
rule_sure script can = (
  (λ _ _ _. (refl, (refl, λ _. (refl, tt)))),
  ((λ _ _. tt), (λ _ _. ((λ _ _. tt), (λ _ _. (refl, λ _. (refl, ((λ _ _ _. (refl, (refl, λ _. (refl, tt)))), tt))))))),
)
rule_sure item can = (
  (λ _ _. ((λ _ _ _. (refl, ((λ _ _ _. (refl, ((λ _ _ _. (refl, ((λ _ _ _. (refl, (refl, λ _. (refl, tt)))), tt))), tt))), tt))), tt)),
  (λ _ _. (refl, λ _. (refl, tt))),
)
rule_sure single can = (
  (λ _ _. ((λ _ _ _. (refl, ((λ _ _ _. (refl, (refl, λ _. (refl, tt)))), tt))), tt)),
  (λ _ _. (
    (λ _ _. ((λ _ _ _. (refl, ((λ _ _ _. (refl, (refl, λ _. (refl, tt)))), tt))), tt)),
    (λ _ _. (
      (λ _ _ _. (refl, (refl, λ _. (refl, tt)))),
      (
        (λ _ _ _. (refl, ((λ _ _. tt), (λ _ _. (refl, λ _. (refl, tt)))))),
        (refl, λ _. (refl, tt)),
      ),
    )),
  )),
)
rule_sure (level n) can = (
  (λ _ _. (refl, λ _. (refl, tt))),
  (λ _ other. (next_by n (ltb n 8) refl (ltb-true n 9 can) other, λ _. (refl, (refl, λ _. (refl, tt))))),
)
rule_sure (chain n left) can = ((λ w o is. (ap (λ b. b && true) (low w o is), (low w o is, λ _. (refl, (refl, λ _. (refl, tt)))))), tt)
  where
    low : (w : Word) (o : Said (operator_word n)) → Says (operator_word n) w o → ltb (suc n) 9 ≡ true
    low w o is = let below = operator_low w.token n o is in lt-ltb (suc n) 9 (omega (arith, below))
rule_sure operand can = operand_sure
rule_sure parts can = ((λ _ _. tt), (λ _ _. (refl, λ _. (refl, ((λ _ _ _. (refl, (refl, λ _. (refl, tt)))), tt)))))
rule_sure pairs can = (
  (λ _ _. tt),
  (λ _ _. ((λ _ _ _. (refl, ((λ _ _ _. (refl, (refl, λ _. (refl, ((λ _ _ _. (refl, (refl, λ _. (refl, tt)))), tt))))), tt))), tt)),
)
rule_sure arguments can = ((λ _ _. tt), (λ _ _. (refl, λ _. (refl, ((λ _ _ _. (refl, (refl, λ _. (refl, tt)))), tt)))))
rule_sure argument can = (
  (λ _ _. ((λ _ _ _. (refl, ((λ _ _ _. (refl, (refl, λ _. (refl, tt)))), tt))), tt)),
  (λ _ _. (refl, λ _. (refl, tt))),
)
rule_sure closing can =
    ((λ _ _ _. (refl, ((λ _ _ _. (refl, (refl, λ _. (refl, ((λ _ _ _. (refl, (refl, λ _. (refl, tt)))), tt))))), tt))), tt)
rule_sure names can = ((λ _ _ _. (refl, (refl, λ _. (refl, tt)))), tt)
rule_sure more_names can = ((λ _ _ _. (refl, ((λ _ _ _. (refl, (refl, λ _. (refl, tt)))), tt))), tt)
rule_sure braces can = ((λ _ _ _. (refl, (refl, λ _. (refl, ((λ _ _ _. (refl, tt)), tt))))), tt)
rule_sure arms can =
    (refl, λ _. (refl, (refl, λ _. (refl, ((λ _ _ _. (refl, ((λ _ _ _. (refl, (refl, λ _. (refl, tt)))), (refl, λ _. (refl, tt))))), tt)))))

-- ---- what was taken before a refusal

-- words behind others
grouped : {A : Type 0} (holds : List Word → A → Type 0) (us vs : List Word) → CanEnd (λ ts. holds (us ++ ts)) vs → CanEnd holds (us ++ vs)
grouped holds us vs end n =
    let e = end n in
    record { more = e.more; plain = e.plain; answer = e.answer; told = subst (λ ts. holds ts e.answer) (sym (append_assoc us vs (words_at n e.more))) e.told }

-- a rule that was completed, and then what goes on with its answer
ended_behind : {A : Type 0} (q : Rule) (p : Meaning q → Program A) (holds : List Word → A → Type 0) (us : List Word)
    → ((ts : List Word) (x : Meaning q) → Spells q ts x → Keeps (p x) (λ vs. holds (ts ++ vs))) → ((x : Meaning q) → ends (p x) ≡ true) → CanEnd (Spells q) us → CanEnd holds us
ended_behind q p holds us keeps can end n =
    let e = end n in
    let front : List Word = us ++ words_at n e.more in
    let rest = some_end n (p e.answer) (λ ts. holds (front ++ ts)) (can e.answer) (keeps front e.answer e.told) in
    record {
      more = e.more ++ rest.more;
      plain = plain_both e.more rest.more e.plain rest.plain;
      answer = rest.answer;
      told = subst (λ ts. holds ts rest.answer) (append_assoc us (words_at n e.more) (words_at n rest.more) ∙ ap (λ ts. us ++ ts) (sym (words_both n e.more rest.more))) rest.told;
    }

completed : {r : Rule} {p : Program (Meaning r)} {ws vs : List Word} → (holds : List Word → Meaning r → Type 0) → Keeps p holds → Sure p → CanEnd holds [] → Runs r p ws (refused vs) → Front ws vs (CanEnd holds)
completed holds h sure end refuses = record { words = []; parts = refl; told = end }
completed holds h sure end (taken {p = p} (takes {w} v is) run) =
    let now = sure.0 w v is in
    let kept_now = h.0 w v is in
    add_word (completed (λ ts. holds (w ∷ ts)) kept_now now.1 (λ n. some_end n (p v w.span) (λ ts. holds (w ∷ ts)) now.0 kept_now) run)
completed holds h sure end (untaken lack run) = completed holds h.1 sure.1 end run
completed holds h sure end (seen {ws = ws} s run) = completed holds (h.0 ws s) (sure.0 ws s) end run
completed holds h sure end (unseen {ws = ws} s run) = completed holds h.1 (sure.1 ws s) end run
completed holds h sure end (chosen {a = a} e run) = completed holds (h a) (sure a) end run
completed {vs = vs} holds h sure end (gone {q = q} {p = p} {x = y} inner run) =
    let front = kept rule_keeps (Spells q) (rule_keeps q) inner in
    let now = sure.1 y in
    let kept_now = h front.words y front.told in
    let rest = completed (λ ts. holds (front.words ++ ts)) kept_now now.1 (λ n. some_end n (p y) (λ ts. holds (front.words ++ ts)) now.0 kept_now) run in
    record {
      words = front.words ++ rest.words;
      parts = front.parts ∙ ap (λ ts. front.words ++ ts) rest.parts ∙ sym (append_assoc front.words rest.words vs);
      told = grouped holds front.words rest.words rest.told;
    }
completed holds h sure end (not_gone {q = q} {p = p} inner) =
    let front = completed (Spells q) (rule_keeps q) (rule_sure q sure.0) (rule_ending q sure.0) inner in
    record { words = front.words; parts = front.parts; told = ended_behind q p holds front.words h (λ x. (sure.1 x).0) front.told }

-- the words before a script is refused
pub script_is_completed : {ws vs : List Word} → RuleRefuses script ws vs → Front ws vs (CanEnd IsScript)
script_is_completed run = completed (Spells script) (rule_keeps script) (rule_sure script refl) (rule_ending script refl) run
