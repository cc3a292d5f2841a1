-- How the parts of a script begin, and what stands behind them.
use Rattle.std.proofs.Common.{arith, ◌≡◌, ℕ, suc, ◌<◌, ◌≤◌, ◌⊎◌, inl, inr, Bool, true, false, Option, Some, None, List, [], ◌∷◌, ◌++◌, refl, sym, ap, ◌∙◌, subst}
use Rattle.vrl_path.specs.declared.path.Step.{Step}
use Rattle.vrl_diag.specs.declared.diagnostic.Span.{Span}
use Rattle.vrl_syntax.specs.Stores.{metadata}
use Rattle.vrl_syntax.specs.Tree.{Expr, Exprs}
use Rattle.vrl_syntax.specs.declared.root.Op.{Op}
use Rattle.vrl_syntax.specs.declared.root.Root.{Root}
use Rattle.vrl_syntax.specs.declared.root.Root.TheVariants as root
use Rattle.vrl_syntax.specs.declared.root.Target.{Target}
use Rattle.vrl_token.specs.declared.token.Token.{Token}
use Rattle.vrl_token.specs.declared.token.Token.TheVariants as token
use Rattle.vrl_value.specs.Tree.{Tree}
use Rattle.vrl_word.specs.Words.{Word, function_of, literal_of, operator_of, path_of, target_at, template_at}
use Rattle.vrl_parse.specs.Grammar.{IsItem, both_targets, single as single_item, IsSingle, assigned, merged, returned, aborted, aborted_with, coalesce, IsLevel, tighter, joined, tightest as tightest_level, IsUnary, negated, primary, IsPrimary, a_literal as literal_operand, a_template as template_operand, a_path as path_operand, without_suffix, with_suffix, with_closure, an_object as object_operand, a_block as block_operand, an_if as if_operand, MayHaveSuffix, a_call as call_operand, an_array as array_operand, a_group as group_operand, called, IsArg, named, unnamed, IsBlock, a_script}
use Rattle.vrl_parse.specs.Descent.{sign_word, name_word, path_word, suffix_word, operator_word, Lacks, at_end, before, expression_end, ends_expression, Begins, Sees, a_call, a_path, a_template, a_literal, operand_of}

-- ---- single tokens

-- no expression ends before it
abbrev pub goes_on : Token → Bool
goes_on (token.Suffix path) = true
goes_on token.Arrow = true
goes_on token.Assign = true
goes_on token.MergeAssign = true
goes_on token.Colon = true
goes_on token.Else = true
goes_on t = false

-- what can begin with it: a path or a name, another operand, or neither
pub data Opening : Type 0 where
  path_opens operand_opens none_opens : Opening

abbrev pub opening : Token → Opening
opening (token.Name n) = path_opens
opening (token.NamePath n path) = path_opens
opening (token.EventPath path) = path_opens
opening (token.MetadataPath path) = path_opens
opening (token.Text s) = operand_opens
opening (token.Template first holes) = operand_opens
opening (token.RawText s) = operand_opens
opening (token.Regex s) = operand_opens
opening (token.Timestamp moment) = operand_opens
opening (token.Number k) = operand_opens
opening token.True = operand_opens
opening token.False = operand_opens
opening token.Null = operand_opens
opening token.If = operand_opens
opening (token.Function n) = operand_opens
opening (token.BangFunction n) = operand_opens
opening token.Not = operand_opens
opening token.OpenParenthesis = operand_opens
opening token.OpenBracket = operand_opens
opening token.OpenBlock = operand_opens
opening token.OpenObject = operand_opens
opening t = none_opens

ends_still : (t : Token) → ends_expression t ≡ true → goes_on t ≡ false
ends_still token.Separator e = refl
ends_still t e = cc

ends_no_operator : (t : Token) {x : ℕ × Op} → ends_expression t ≡ true → ¬ (operator_of t ≡ Some x)
ends_no_operator token.Separator e f = cc
ends_no_operator t e f = cc

operator_still : (t : Token) {x : ℕ × Op} → operator_of t ≡ Some x → goes_on t ≡ false
operator_still token.Separator e = refl
operator_still t e = cc

abbrev level_in : Option (ℕ × Op) → ℕ
level_in None = 0
level_in (Some x) = x.0

levels_low : (t : Token) → level_in (operator_of t) < 8
levels_low token.Separator = omega arith
levels_low t = omega arith

pub operator_low : (t : Token) (m : ℕ) (o : Op) → operator_of t ≡ Some (m, o) → m < 8
operator_low t m o e = subst (λ k. k < 8) (ap level_in e) (levels_low t)

open_no_end : (t : Token) → ¬ (opening t ≡ none_opens) → ends_expression t ≡ false
open_no_end token.Separator no_opening = absurd (no_opening refl)
open_no_end token.CloseParenthesis no_opening = absurd (no_opening refl)
open_no_end token.CloseBracket no_opening = absurd (no_opening refl)
open_no_end token.CloseBrace no_opening = absurd (no_opening refl)
open_no_end token.Comma no_opening = absurd (no_opening refl)
open_no_end t no_opening = refl

path_opening : (t : Token) {x : Root × List Step} → path_of t ≡ Some x → opening t ≡ path_opens
path_opening token.Separator e = cc
path_opening t e = cc

pub path_operand_of : (t : Token) {x : Root × List Step} → path_of t ≡ Some x → operand_of t ≡ a_path
path_operand_of token.Separator e = cc
path_operand_of t e = cc

function_opening : (t : Token) {x : List ℕ × Bool} → function_of t ≡ Some x → opening t ≡ operand_opens
function_opening token.Separator e = cc
function_opening t e = cc

pub function_operand_of : (t : Token) {x : List ℕ × Bool} → function_of t ≡ Some x → operand_of t ≡ a_call
function_operand_of token.Separator e = cc
function_operand_of t e = cc

literal_opening : (t : Token) (s : Span) (n : ℕ) {v : Tree} → literal_of (record { token = t; span = s; number = n }) ≡ Some v → opening t ≡ operand_opens
literal_opening token.Separator s n e = cc
literal_opening t s n e = cc

pub literal_operand_of : (t : Token) (s : Span) (n : ℕ) {v : Tree} → literal_of (record { token = t; span = s; number = n }) ≡ Some v → operand_of t ≡ a_literal
literal_operand_of token.Separator s n e = cc
literal_operand_of t s n e = cc

template_opening : (t : Token) (s : Span) {e : Expr} → template_at t s ≡ Some e → opening t ≡ operand_opens
template_opening token.Separator s e = cc
template_opening t s e = cc

pub template_operand_of : (t : Token) (s : Span) {e : Expr} → template_at t s ≡ Some e → operand_of t ≡ a_template
template_operand_of token.Separator s e = cc
template_operand_of t s e = cc

-- a target is a path or a name
pub target_path : (t : Token) (s : Span) {x : Target} → target_at t s ≡ Some x → (p : Root × List Step) × (path_of t ≡ Some p)
target_path (token.Name n) s e = ((root.Name n, []), refl)
target_path (token.NamePath n path) s e = ((root.Name n, path), refl)
target_path (token.EventPath path) s e = ((root.Event, path), refl)
target_path (token.MetadataPath path) s e = ((metadata, path), refl)
target_path t s e = let nothing : ⊥ = cc in absurd nothing

-- ---- what stands behind an expression

-- an expression of this level ends before these words, and so do the tighter ones
abbrev pub Stops : ℕ → List Word → Type 0
Stops n [] = Unit {0}
Stops n (w ∷ ws) = (goes_on w.token ≡ false) × ((m : ℕ) (o : Op) → operator_of w.token ≡ Some (m, o) → m < n)

pub weaker : (n m : ℕ) (ws : List Word) → n ≤ m → Stops n ws → Stops m ws
weaker n m [] le s = tt
weaker n m (w ∷ ws) le s = (s.0, λ k o e. let lt = s.1 k o e in omega arith)

pub ends_stop : (ws : List Word) → Sees expression_end ws → Stops 0 ws
ends_stop [] s = tt
ends_stop (w ∷ ws) s = (ends_still w.token s, λ m o e. absurd (ends_no_operator w.token s e))

pub operator_stops : {n : ℕ} {o : Op} (w : Word) (ws : List Word) → operator_of w.token ≡ Some (n, o) → Stops (suc n) (w ∷ ws)
operator_stops {n} {o} w ws e =
    (operator_still w.token e, λ m p f. let same : m ≡ n = ap level_in (sym f ∙ e) in omega arith)

pub no_suffix : (n : ℕ) (ws : List Word) → Stops n ws → Lacks suffix_word ws
no_suffix n [] s = tt
no_suffix n (w ∷ ws) s = λ path is. cc (s.0, ap goes_on is.is)

pub no_going : (n : ℕ) (ws : List Word) (t : Token) → goes_on t ≡ true → Stops n ws → ¬ Begins t ws
no_going n [] t g s b = b
no_going n (w ∷ ws) t g s b = cc (s.0, ap goes_on b.is, g)

pub no_operator : (n : ℕ) (ws : List Word) → Stops n ws → Lacks (operator_word n) ws
no_operator n [] s = tt
no_operator n (w ∷ ws) s = λ o e. let lt = s.1 n o e in omega arith

pub no_tight_operator : (ws : List Word) → Lacks (operator_word 8) ws
no_tight_operator [] = tt
no_tight_operator (w ∷ ws) = λ o e. let lt = operator_low w.token 8 o e in omega arith

-- signs
pub no_sign : (t : Token) (ws : List Word) → ¬ Begins t ws → Lacks (sign_word t) ws
no_sign t [] other = tt
no_sign t (w ∷ ws) other = λ _ is. other is

pub other_sign : (t u : Token) (ws : List Word) → ¬ (t ≡ u) → Begins t ws → ¬ Begins u ws
other_sign t u [] differ b c = b
other_sign t u (w ∷ ws) differ b c = differ (sym b.is ∙ c.is)

pub sign_ends : (t : Token) (ws : List Word) → ends_expression t ≡ true → Begins t ws → Sees expression_end ws
sign_ends t [] e b = tt
sign_ends t (w ∷ ws) e b = ap ends_expression b.is ∙ e

-- ---- how an expression begins

-- with a word that ends none
abbrev pub Opens : List Word → Type 0
Opens [] = ⊥
Opens (w ∷ ws) = ends_expression w.token ≡ false

abbrev pub BeginsOperator : List Word → Type 0
BeginsOperator [] = Unit {0}
BeginsOperator (w ∷ ws) = (x : ℕ × Op) × (operator_of w.token ≡ Some x)

-- with an operand; behind one that is a path or a name stands nothing, or an operator
abbrev pub Leads : List Word → Type 0
Leads [] = ⊥
Leads (w ∷ ws) = (opening w.token ≡ operand_opens) ⊎ (opening w.token ≡ path_opens) × BeginsOperator ws

-- with an operand that is neither a path nor a name
abbrev pub Heads : List Word → Type 0
Heads [] = ⊥
Heads (w ∷ ws) = opening w.token ≡ operand_opens

pub opens_more : (us vs : List Word) → Opens us → Opens (us ++ vs)
opens_more [] vs o = absurd o
opens_more (w ∷ us) vs o = o

heads_more : (us vs : List Word) → Heads us → Heads (us ++ vs)
heads_more [] vs h = absurd h
heads_more (w ∷ us) vs h = h

heads_lead : (us : List Word) → Heads us → Leads us
heads_lead [] h = h
heads_lead (w ∷ us) h = inl h

leads_more : (us vs : List Word) → Leads us → BeginsOperator vs → Leads (us ++ vs)
leads_more [] vs l b = absurd l
leads_more (w ∷ []) vs (inl e) b = inl e
leads_more (w ∷ []) vs (inr p) b = inr (p.0, b)
leads_more (w ∷ v ∷ us) vs (inl e) b = inl e
leads_more (w ∷ v ∷ us) vs (inr p) b = inr p

leads_open : (us : List Word) → Leads us → Opens us
leads_open [] l = l
leads_open (w ∷ us) (inl e) = open_no_end w.token (λ f. cc)
leads_open (w ∷ us) (inr p) = open_no_end w.token (λ f. cc (p.0, f))

heads_suffixable : {us : List Word} {e : Expr} → MayHaveSuffix us e → Heads us
heads_suffixable (call_operand (called {w = w} is io h ic)) = function_opening w.token is
heads_suffixable (array_operand io h ic) = ap opening io.is
heads_suffixable (group_operand io h ic) = ap opening io.is

heads_block : {us : List Word} {es : Exprs} {s : Span} → IsBlock us es s → Heads us
heads_block (a_script io h ic) = ap opening io.is

leads_primary : {us : List Word} {e : Expr} → IsPrimary us e → Leads us
leads_primary (literal_operand {w = w} e) = inl (literal_opening w.token w.span w.number e)
leads_primary (template_operand {w = w} e) = inl (template_opening w.token w.span e)
leads_primary (path_operand {w = w} e) = inr (path_opening w.token e, tt)
leads_primary {us = us} (without_suffix h) = heads_lead us (heads_suffixable h)
leads_primary (with_suffix {ws = ws} {w = w} h is) = heads_lead (ws ++ w ∷ []) (heads_more ws (w ∷ []) (heads_suffixable h))
leads_primary (with_closure (called {w = w} is io h ic) k) = inl (function_opening w.token is)
leads_primary (object_operand io h ic) = inl (ap opening io.is)
leads_primary {us = us} (block_operand h) = heads_lead us (heads_block h)
leads_primary (if_operand is h) = inl (ap opening is.is)

leads_unary : {us : List Word} {e : Expr} → IsUnary us e → Leads us
leads_unary (negated is h) = inl (ap opening is.is)
leads_unary (primary h) = leads_primary h

pub leads_level : {n : ℕ} {us : List Word} {e : Expr} → IsLevel n us e → Leads us
leads_level (tighter h) = leads_level h
leads_level (joined {n = n} {o = o} {ws = ws} {vs = vs} w hl e hr) = leads_more ws (w ∷ vs) (leads_level hl) ((n, o), e)
leads_level (tightest_level h) = leads_unary h

path_open : (t : Token) {p : Root × List Step} → path_of t ≡ Some p → ends_expression t ≡ false
path_open t e = open_no_end t (λ f. cc (path_opening t e, f))

pub opens_single : {us : List Word} {e : Expr} → IsSingle us e → Opens us
opens_single (assigned {w = w} e iq h) = path_open w.token (target_path w.token w.span e).1
opens_single (merged {w = w} e iq h) = path_open w.token (target_path w.token w.span e).1
opens_single (returned is h) = ap ends_expression is.is
opens_single (aborted is) = ap ends_expression is.is
opens_single (aborted_with is h) = ap ends_expression is.is
opens_single {us = us} (coalesce h) = leads_open us (leads_level h)

pub opens_item : {us : List Word} {e : Expr} → IsItem us e → Opens us
opens_item (both_targets {w = w} e ic f iq h) = path_open w.token (target_path w.token w.span e).1
opens_item (single_item h) = opens_single h

pub opens_argument : {us : List Word} {n : Option (List ℕ)} {s : Span} {e : Expr} → IsArg us n s e → Opens us
opens_argument (named is ic h) = ap ends_expression is.is
opens_argument (unnamed h) = opens_single h

-- ---- what such words are not

pub no_expression_end : (us : List Word) → Opens us → ¬ Sees expression_end us
no_expression_end [] o s = o
no_expression_end (w ∷ us) o s = cc (o, s)

pub no_ending : (t : Token) (us : List Word) → ends_expression t ≡ true → Opens us → ¬ Begins t us
no_ending t [] e o b = b
no_ending t (w ∷ us) e o b = cc (o, ap ends_expression b.is, e)

pub no_end : (us : List Word) → Opens us → ¬ Sees at_end us
no_end [] o s = o
no_end (w ∷ us) o s = s

pub no_leading : (t : Token) (us vs : List Word) → opening t ≡ none_opens → Leads us → Lacks (sign_word t) (us ++ vs)
no_leading t [] vs n l = absurd l
no_leading t (w ∷ us) vs n (inl e) = λ _ is. cc (e, ap opening is.is, n)
no_leading t (w ∷ us) vs n (inr p) = λ _ is. cc (p.0, ap opening is.is, n)

pub no_path_before : (t : Token) (us vs : List Word) → operator_of t ≡ None → Leads us → ¬ Begins t vs → ¬ Sees (before path_word t) (us ++ vs)
no_path_before t [] vs n l other s = l
no_path_before t (w ∷ us) vs n (inl e) other s = cc (e, path_opening w.token s.1)
no_path_before t (w ∷ []) vs n (inr p) other s = other s.2
no_path_before t (w ∷ v ∷ us) vs n (inr p) other s = cc (p.1.1, ap operator_of s.2.is, n)

pub no_single_before : (t : Token) {us : List Word} {e : Expr} (vs : List Word) → operator_of t ≡ None → ¬ (t ≡ token.Assign) → ¬ (t ≡ token.MergeAssign) → ¬ Begins t vs → IsSingle us e → ¬ Sees (before path_word t) (us ++ vs)
no_single_before t vs n one two other (assigned e iq h) s = one (sym s.2.is ∙ iq.is)
no_single_before t vs n one two other (merged e iq h) s = two (sym s.2.is ∙ iq.is)
no_single_before t vs n one two other (returned is h) s = cc (s.1, ap path_of is.is)
no_single_before t vs n one two other (aborted is) s = cc (s.1, ap path_of is.is)
no_single_before t vs n one two other (aborted_with is h) s = cc (s.1, ap path_of is.is)
no_single_before t {us = us} vs n one two other (coalesce h) s = no_path_before t us vs n (leads_level h) other s

pub name_is_path : (t : Token) (ws : List Word) → Sees (before name_word t) ws → Sees (before path_word t) ws
name_is_path t [] s = s
name_is_path t (w ∷ ws) s = ((root.Name s.0, []), ap path_of s.1.is, s.2)
