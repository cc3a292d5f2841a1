-- The first word of an item is no separator and ends nothing.
use Rattle.std.proofs.Common.{◌≡◌, ℕ, Bool, true, false, List, [], ◌∷◌, ◌++◌, refl, sym, ap, true≢false}
use Rattle.vrl_diag.specs.declared.diagnostic.Span.{Span}
use Rattle.vrl_syntax.specs.Tree.{Args, Expr, Exprs}
use Rattle.vrl_token.specs.declared.token.Token.{Token}
use Rattle.vrl_token.specs.declared.token.Token.TheVariants as token
use Rattle.vrl_word.specs.Words.{Word}
use Rattle.vrl_parse.specs.Grammar.{IsItem, both_targets, single as single_item, IsSingle, assigned, merged, returned, aborted, aborted_with, coalesce, IsLevel, tighter, joined, tightest, IsUnary, negated, primary, IsPrimary, a_literal, a_template, a_path, without_suffix, with_suffix, with_closure, an_object, a_block, an_if, MayHaveSuffix, a_call, an_array, a_group, IsCall, called, IsBlock, a_script}
use Rattle.vrl_format.proofs.Taking.{plain}
use Rattle.vrl_format.proofs.SameWords.{function_plain, literal_plain, path_plain, target_plain, template_plain}

-- the token is no separator and ends nothing
abbrev pub starts : Token → Bool
starts token.Separator = false
starts token.CloseBrace = false
starts t = true

abbrev pub Begins : List Word → Type 0
Begins [] = ⊥
Begins (w ∷ ws) = starts w.token ≡ true

pub begins_more : (ws vs : List Word) → Begins ws → Begins (ws ++ vs)
begins_more [] vs begins = absurd begins
begins_more (w ∷ ws) vs begins = begins

plain_starts : (t : Token) → plain t ≡ true → starts t ≡ true
plain_starts token.Separator is = absurd (true≢false (sym is))
plain_starts token.CloseBrace is = absurd (true≢false (sym is))
plain_starts t is = refl

call_begins : {ws : List Word} {f : List ℕ × Bool} {s t : Span} {gs : Args} → IsCall ws f s gs t → Begins ws
call_begins (called {w = w} {f = f} is opens it closes) = plain_starts w.token (function_plain w.token f is)

block_begins : {ws : List Word} {es : Exprs} {s : Span} → IsBlock ws es s → Begins ws
block_begins (a_script opens it closes) = ap starts opens.is

part_begins : {ws : List Word} {e : Expr} → MayHaveSuffix ws e → Begins ws
part_begins (a_call it) = call_begins it
part_begins (an_array opens it closes) = ap starts opens.is
part_begins (a_group opens it closes) = ap starts opens.is

primary_begins : {ws : List Word} {e : Expr} → IsPrimary ws e → Begins ws
primary_begins (a_literal {w = w} {v = v} is) = plain_starts w.token (literal_plain w.token w.number v is)
primary_begins (a_template {w = w} {e = e} is) = plain_starts w.token (template_plain w.token w.span e is)
primary_begins (a_path {w = w} {r = r} {p = p} is) = plain_starts w.token (path_plain w.token (r, p) is)
primary_begins (without_suffix it) = part_begins it
primary_begins (with_suffix {ws = ws} {w = w} it is) = begins_more ws (w ∷ []) (part_begins it)
primary_begins (with_closure {ws = ws} {vs = vs} it closure) = begins_more ws vs (call_begins it)
primary_begins (an_object opens it closes) = ap starts opens.is
primary_begins (a_block it) = block_begins it
primary_begins (an_if is it) = ap starts is.is

unary_begins : {ws : List Word} {e : Expr} → IsUnary ws e → Begins ws
unary_begins (negated is it) = ap starts is.is
unary_begins (primary it) = primary_begins it

level_begins : {n : ℕ} {ws : List Word} {e : Expr} → IsLevel n ws e → Begins ws
level_begins (tighter it) = level_begins it
level_begins (joined {ws = ws} {vs = vs} w left is right) = begins_more ws (w ∷ vs) (level_begins left)
level_begins (tightest it) = unary_begins it

single_begins : {ws : List Word} {e : Expr} → IsSingle ws e → Begins ws
single_begins (assigned {w = w} {t = t} is assign it) = plain_starts w.token (target_plain w.token w.span t is)
single_begins (merged {w = w} {t = t} is assign it) = plain_starts w.token (target_plain w.token w.span t is)
single_begins (returned is it) = ap starts is.is
single_begins (aborted is) = ap starts is.is
single_begins (aborted_with is it) = ap starts is.is
single_begins (coalesce it) = level_begins it

pub item_begins : {ws : List Word} {e : Expr} → IsItem ws e → Begins ws
item_begins (both_targets {w = w} {t = t} is comma other assign it) = plain_starts w.token (target_plain w.token w.span t is)
item_begins (single_item it) = single_begins it
