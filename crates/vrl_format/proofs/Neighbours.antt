-- What tokens begin, and what ends with them.
use Rattle.std.proofs.Common.{◌≡◌, refl, ℕ, Bool, true, false, not, if◌then◌else◌, List, [], ◌∷◌, Some}
use Rattle.std.proofs.lemmas.Bool.{and_from}
use Rattle.vrl_diag.specs.declared.diagnostic.Span.{Span}
use Rattle.vrl_path.specs.declared.path.Step.{Step}
use Rattle.vrl_syntax.specs.Tree.{Expr}
use Rattle.vrl_syntax.specs.declared.root.Op.{Op}
use Rattle.vrl_syntax.specs.declared.root.Root.{Root}
use Rattle.vrl_syntax.specs.declared.root.Target.{Target}
use Rattle.vrl_token.specs.Brackets.{encloses, goes_on, goes_on_behind, open_behind}
use Rattle.vrl_token.specs.Context.{closes_operand, ends_operand}
use Rattle.vrl_token.specs.declared.token.Token.{Token}
use Rattle.vrl_token.specs.declared.token.Token.TheVariants as token
use Rattle.vrl_value.specs.Tree.{Tree}
use Rattle.vrl_word.specs.Words.{function_of, literal_at, operator_of, path_of, target_at, template_at}
use Rattle.vrl_format.proofs.Joining.{begins_key, begins_no_item, ends_part, fits, is_arrow, is_behind, is_name, is_other_than_not, is_wanted, may_follow, none_fails}

-- ---- classes of tokens

-- any token may stand behind it
abbrev pub is_free : Token → Bool
is_free token.OpenBars = false
is_free (token.Function n) = false
is_free (token.BangFunction n) = false
is_free t = true

-- an expression may begin behind it
abbrev pub begins : Token → Bool
begins token.If = true
begins token.Abort = true
begins token.Return = true
begins token.Assign = true
begins token.MergeAssign = true
begins token.Coalesce = true
begins token.Or = true
begins token.And = true
begins token.Equal = true
begins token.Unequal = true
begins token.Less = true
begins token.AtMost = true
begins token.More = true
begins token.AtLeast = true
begins token.Merge = true
begins token.Plus = true
begins token.Minus = true
begins token.Times = true
begins token.Not = true
begins token.OpenParenthesis = true
begins token.OpenBracket = true
begins token.OpenBlock = true
begins token.Comma = true
begins token.Colon = true
begins token.Separator = true
begins t = false

-- an item begins behind it
abbrev pub begins_item : Token → Bool
begins_item token.OpenBlock = true
begins_item token.Separator = true
begins_item t = false

-- an item may end with it
abbrev pub ends_item : Token → Bool
ends_item token.Abort = true
ends_item t = ends_operand t

-- items may end behind it
abbrev pub rests : Token → Bool
rests token.OpenBlock = true
rests token.Separator = true
rests t = ends_item t

-- an object may end behind it
abbrev pub ends_pair : Token → Bool
ends_pair token.OpenObject = true
ends_pair token.Comma = true
ends_pair t = ends_item t

-- a name of a closure stands behind it
abbrev pub begins_name : Token → Bool
begins_name token.OpenBars = true
begins_name token.Comma = true
begins_name t = false

abbrev pub is_function : Token → Bool
is_function (token.Function n) = true
is_function (token.BangFunction n) = true
is_function t = false

-- the token is an operand by itself
abbrev pub is_simple : Token → Bool
is_simple (token.Text s) = true
is_simple (token.Template s holes) = true
is_simple (token.RawText s) = true
is_simple (token.Regex s) = true
is_simple (token.Timestamp m) = true
is_simple (token.Number n) = true
is_simple token.True = true
is_simple token.False = true
is_simple token.Null = true
is_simple (token.Name n) = true
is_simple (token.EventPath p) = true
is_simple (token.MetadataPath p) = true
is_simple (token.NamePath n p) = true
is_simple t = false

-- ---- one class in another

pub begins_free : (t : Token) → begins t ≡ true → is_free t ≡ true
begins_free token.Separator e = refl
begins_free t e = cc

pub begins_apart : (t : Token) → begins t ≡ true → not (ends_operand t) ≡ true
begins_apart token.Separator e = refl
begins_apart t e = cc

pub item_free : (t : Token) → ends_item t ≡ true → is_free t ≡ true
item_free token.Separator e = cc
item_free t e = cc

pub operand_item : (t : Token) → ends_operand t ≡ true → ends_item t ≡ true
operand_item token.Separator e = cc
operand_item t e = cc

pub closing_operand : (t : Token) → closes_operand t ≡ true → ends_operand t ≡ true
closing_operand token.Separator e = cc
closing_operand t e = cc

pub item_begins : (t : Token) → begins_item t ≡ true → begins t ≡ true
item_begins token.Separator e = refl
item_begins t e = cc

pub item_rests : (t : Token) → begins_item t ≡ true → rests t ≡ true
item_rests token.Separator e = refl
item_rests t e = cc

pub end_rests : (t : Token) → ends_item t ≡ true → rests t ≡ true
end_rests token.Separator e = cc
end_rests t e = cc

pub rests_still : (t : Token) → rests t ≡ true → not (goes_on t) ≡ true
rests_still token.Separator e = refl
rests_still t e = cc

pub rests_free : (t : Token) → rests t ≡ true → is_free t ≡ true
rests_free token.Separator e = refl
rests_free t e = cc

pub rests_part : (t : Token) → rests t ≡ true → ends_part t ≡ true
rests_part token.Separator e = refl
rests_part t e = cc

pub operand_no_item : (t : Token) → ends_operand t ≡ true → begins_no_item t ≡ true
operand_no_item token.Separator e = cc
operand_no_item t e = cc

pub operand_other : (t : Token) → ends_operand t ≡ true → is_other_than_not t ≡ true
operand_other token.Separator e = cc
operand_other t e = cc

pub item_pair : (t : Token) → ends_item t ≡ true → ends_pair t ≡ true
item_pair token.Separator e = cc
item_pair t e = cc

pub key_pair : (t : Token) → begins_key t ≡ true → ends_pair t ≡ true
key_pair token.Separator e = cc
key_pair t e = cc

pub pair_part : (t : Token) → ends_pair t ≡ true → ends_part t ≡ true
pair_part token.Separator e = refl
pair_part t e = cc

pub pair_free : (t : Token) → ends_pair t ≡ true → is_free t ≡ true
pair_free token.Separator e = cc
pair_free t e = cc

pub name_free : (t : Token) → is_name t ≡ true → is_free t ≡ true
name_free token.Separator e = cc
name_free t e = cc

pub arrow_free : (t : Token) → is_arrow t ≡ true → is_free t ≡ true
arrow_free token.Separator e = cc
arrow_free t e = cc

pub simple_operand : (t : Token) → is_simple t ≡ true → ends_operand t ≡ true
simple_operand token.Separator e = cc
simple_operand t e = cc

-- ---- words of one token

pub target_simple : (t : Token) (s : Span) {x : Target} → target_at t s ≡ Some x → is_simple t ≡ true
target_simple token.Separator s e = cc
target_simple t s e = cc

pub literal_simple : (t : Token) (n : ℕ) {v : Tree} → literal_at t n ≡ Some v → is_simple t ≡ true
literal_simple token.Separator n e = cc
literal_simple t n e = cc

pub template_simple : (t : Token) (s : Span) {e : Expr} → template_at t s ≡ Some e → is_simple t ≡ true
template_simple token.Separator s e = cc
template_simple t s e = cc

pub path_simple : (t : Token) {x : Root × List Step} → path_of t ≡ Some x → is_simple t ≡ true
path_simple token.Separator e = cc
path_simple t e = cc

pub function_is : (t : Token) {x : List ℕ × Bool} → function_of t ≡ Some x → is_function t ≡ true
function_is token.Separator e = cc
function_is t e = cc

pub operator_begins : (t : Token) {x : ℕ × Op} → operator_of t ≡ Some x → begins t ≡ true
operator_begins token.Separator e = refl
operator_begins t e = cc

-- ---- brackets

pub simple_stays : (t : Token) (before : List Token) → is_simple t ≡ true → open_behind (t ∷ before) ≡ open_behind before
simple_stays token.OpenParenthesis before e = cc
simple_stays token.OpenBracket before e = cc
simple_stays token.OpenObject before e = cc
simple_stays token.OpenBars before e = cc
simple_stays token.OpenBlock before e = cc
simple_stays token.CloseParenthesis before e = cc
simple_stays token.CloseBracket before e = cc
simple_stays token.CloseBrace before e = cc
simple_stays token.CloseBars before e = cc
simple_stays t before e = refl

pub function_stays : (t : Token) (before : List Token) → is_function t ≡ true → open_behind (t ∷ before) ≡ open_behind before
function_stays (token.Function n) before e = refl
function_stays (token.BangFunction n) before e = refl
function_stays t before e = cc

pub operator_stays : (t : Token) (before : List Token) {x : ℕ × Op} → operator_of t ≡ Some x → open_behind (t ∷ before) ≡ open_behind before
operator_stays token.OpenParenthesis before e = cc
operator_stays token.OpenBracket before e = cc
operator_stays token.OpenObject before e = cc
operator_stays token.OpenBars before e = cc
operator_stays token.OpenBlock before e = cc
operator_stays token.CloseParenthesis before e = cc
operator_stays token.CloseBracket before e = cc
operator_stays token.CloseBrace before e = cc
operator_stays token.CloseBars before e = cc
operator_stays t before e = refl

-- a block's bracket encloses nothing
pub block_opens : (before : List Token) → encloses (open_behind (token.OpenBlock ∷ before)) ≡ false
block_opens [] = refl
block_opens (token.CloseBars ∷ ts) = refl
block_opens (t ∷ ts) = refl

-- ---- the token directly before

pub none_weaker : (P Q : Token → Bool) → ((t : Token) → P t ≡ true → Q t ≡ true) → (before : List Token) → none_fails P before ≡ true → none_fails Q before ≡ true
none_weaker P Q step [] h = refl
none_weaker P Q step (t ∷ ts) h = step t h

pub behind_weaker : (P Q : Token → Bool) → ((t : Token) → P t ≡ true → Q t ≡ true) → (before : List Token) → is_behind P before ≡ true → is_behind Q before ≡ true
behind_weaker P Q step [] h = h
behind_weaker P Q step (t ∷ ts) h = step t h

pub behind_none : (P Q : Token → Bool) → ((t : Token) → P t ≡ true → Q t ≡ true) → (before : List Token) → is_behind P before ≡ true → none_fails Q before ≡ true
behind_none P Q step [] h = refl
behind_none P Q step (t ∷ ts) h = step t h

pub still_behind : (before : List Token) → none_fails rests before ≡ true → not (goes_on_behind before) ≡ true
still_behind [] h = refl
still_behind (t ∷ ts) h = rests_still t h

-- ---- what may follow

-- any token is wanted behind one that is free
pub wanted : (before : List Token) (t : Token) → none_fails is_free before ≡ true → is_wanted before t ≡ true
wanted [] t free = refl
wanted (token.OpenBars ∷ ts) t free = cc
wanted (token.Function n ∷ ts) t free = cc
wanted (token.BangFunction n ∷ ts) t free = cc
wanted (u ∷ ts) t free = refl

pub name_wanted : (before : List Token) (n : List ℕ) → is_behind begins_name before ≡ true → is_wanted before (token.Name n) ≡ true
name_wanted [] n h = refl
name_wanted (token.Function m ∷ ts) n h = cc
name_wanted (token.BangFunction m ∷ ts) n h = cc
name_wanted (u ∷ ts) n h = refl

pub parenthesis_wanted : (before : List Token) → is_behind is_function before ≡ true → is_wanted before token.OpenParenthesis ≡ true
parenthesis_wanted [] h = refl
parenthesis_wanted (token.OpenBars ∷ ts) h = cc
parenthesis_wanted (u ∷ ts) h = refl

simple_fits : (t : Token) (before : List Token) → is_simple t ≡ true → none_fails (λ u. not (ends_operand u)) before ≡ true → fits before t ≡ true
simple_fits (token.Number n) before e apart = apart
simple_fits (token.Text s) before e apart = refl
simple_fits t before e apart = cc

pub simple_follows : (t : Token) (before : List Token) → is_simple t ≡ true → none_fails begins before ≡ true → may_follow before t ≡ true
simple_follows t before e h =
    and_from _ _ (simple_fits t before e (none_weaker begins (λ u. not (ends_operand u)) begins_apart before h)) (wanted before t (none_weaker begins is_free begins_free before h))

function_fits : (t : Token) (before : List Token) → is_function t ≡ true → fits before t ≡ true
function_fits (token.Function n) before e = refl
function_fits (token.BangFunction n) before e = refl
function_fits t before e = cc

pub function_follows : (t : Token) (before : List Token) → is_function t ≡ true → none_fails begins before ≡ true → may_follow before t ≡ true
function_follows t before e h = and_from _ _ (function_fits t before e) (wanted before t (none_weaker begins is_free begins_free before h))

operator_fits : (t : Token) (before : List Token) {x : ℕ × Op} → operator_of t ≡ Some x → is_behind begins_no_item before ≡ true → none_fails is_other_than_not before ≡ true → fits before t ≡ true
operator_fits token.Coalesce before e no_item other = no_item
operator_fits token.Or before e no_item other = no_item
operator_fits token.And before e no_item other = no_item
operator_fits token.Merge before e no_item other = no_item
operator_fits token.Equal before e no_item other = other
operator_fits t before e no_item other = cc

pub operator_follows : (t : Token) (before : List Token) {x : ℕ × Op} → operator_of t ≡ Some x → is_behind ends_operand before ≡ true → may_follow before t ≡ true
operator_follows t before e h =
    let no_item = behind_weaker ends_operand begins_no_item operand_no_item before h in
    let other = behind_none ends_operand is_other_than_not operand_other before h in
    let free = behind_none ends_operand is_free (λ u o. item_free u (operand_item u o)) before h in
    and_from _ _ (operator_fits t before e no_item other) (wanted before t free)

-- ---- the two ends of a condition

pub either_holds : (c a b : Bool) → a ≡ true → b ≡ true → (if c then a else b) ≡ true
either_holds true a b p q = p
either_holds false a b p q = q

pub else_holds : (c a b : Bool) → c ≡ false → b ≡ true → (if c then a else b) ≡ true
else_holds true a b lacks q = cc
else_holds false a b lacks q = q
