-- Which tokens stand beside which in a script. The tokens before a place are listed from the nearest
-- on, separators among them.
use Rattle.std.specs.Prelude.{◌≡◌, Bool, true, false, ◌&&◌, not, if◌then◌else◌, List, [], ◌∷◌}
use Rattle.vrl_token.specs.Brackets.{encloses, goes_on, goes_on_behind, open_behind}
use Rattle.vrl_token.specs.Context.{closes_operand, ends_operand}
use Rattle.vrl_token.specs.declared.bracket.Bracket.{Bracket}
use Rattle.vrl_token.specs.declared.token.Token.{Token}
use Rattle.vrl_token.specs.declared.token.Token.TheVariants as token

-- ---- what stands directly before

-- a token stands directly before the place, and passes the test
abbrev pub is_behind : (Token → Bool) → List Token → Bool
is_behind test [] = false
is_behind test (t ∷ ts) = test t

abbrev pub is_name : Token → Bool
is_name (token.Name n) = true
is_name t = false

abbrev pub is_arrow : Token → Bool
is_arrow token.Arrow = true
is_arrow t = false

-- the token is another one than `!`
abbrev pub is_other_than_not : Token → Bool
is_other_than_not token.Not = false
is_other_than_not t = true

abbrev pub is_open_parenthesis : Token → Bool
is_open_parenthesis token.OpenParenthesis = true
is_open_parenthesis t = false

-- no item begins directly behind the token: it is no separator, and opens no block
abbrev pub begins_no_item : Token → Bool
begins_no_item token.Separator = false
begins_no_item token.OpenBlock = false
begins_no_item t = true

-- the key of an object stands directly behind the token
abbrev pub begins_key : Token → Bool
begins_key token.OpenObject = true
begins_key token.Comma = true
begins_key t = false

-- the token is a comma, or the item doesn't go on behind it
abbrev pub ends_part : Token → Bool
ends_part token.Comma = true
ends_part t = not (goes_on t)

-- the test holds of the token directly before, or none stands there
abbrev pub none_fails : (Token → Bool) → List Token → Bool
none_fails test [] = true
none_fails test (t ∷ ts) = test t

abbrev pub has_one : List Bracket → Bool
has_one [] = false
has_one (b ∷ bs) = true

-- the innermost open bracket is that of a block, or of a closure's body
abbrev pub is_block : List Bracket → Bool
is_block [] = false
is_block (b ∷ bs) = not (encloses (b ∷ bs))

-- ---- what may follow

-- a colon stands directly behind an argument's name or a key, and before a key `{` or a comma
abbrev pub colon_fits : List Token → Bool
colon_fits (token.Name n ∷ ts) = true
colon_fits (token.Text s ∷ ts) = is_behind begins_key ts
colon_fits ts = false

-- a token may stand here by what it is
abbrev pub fits : List Token → Token → Bool
fits before (token.Number n) = none_fails (λ t. not (ends_operand t)) before
fits before token.Assign = none_fails is_other_than_not before
fits before token.Equal = none_fails is_other_than_not before
fits before token.CloseBars = is_behind is_name before
fits before token.OpenBars = is_behind is_arrow before
fits before token.Separator = not (encloses (open_behind before)) && not (goes_on_behind before)
fits before token.Coalesce = is_behind begins_no_item before
fits before token.Or = is_behind begins_no_item before
fits before token.And = is_behind begins_no_item before
fits before token.Merge = is_behind begins_no_item before
fits before token.Else = is_behind begins_no_item before
fits before token.CloseBrace = has_one (open_behind before)
    && (if is_block (open_behind before) then not (goes_on_behind before) else none_fails ends_part before)
fits before token.Colon = colon_fits before
fits before (token.Suffix p) = is_behind closes_operand before
fits before t = true

-- it may stand here by what stands directly before
abbrev pub is_wanted : List Token → Token → Bool
is_wanted (token.OpenBars ∷ ts) t = is_name t
is_wanted (token.Function n ∷ ts) t = is_open_parenthesis t
is_wanted (token.BangFunction n ∷ ts) t = is_open_parenthesis t
is_wanted before t = true

abbrev pub may_follow : List Token → Token → Bool
may_follow before t = fits before t && is_wanted before t

-- each of the tokens may stand behind those before it
abbrev pub AreJoined : List Token → List Token → Type 0
AreJoined before [] = Unit {0}
AreJoined before (t ∷ ts) = (may_follow before t ≡ true) × AreJoined (t ∷ before) ts

-- ---- scripts

-- the tokens before the place behind these tokens
abbrev pub behind_all : List Token → List Token → List Token
behind_all before [] = before
behind_all before (t ∷ ts) = behind_all (t ∷ before) ts
