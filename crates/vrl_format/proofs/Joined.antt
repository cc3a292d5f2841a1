-- The tokens of a script may stand beside one another as they do.
use Rattle.std.proofs.Common.{◌≡◌, refl, ap, ◌∙◌, ℕ, Bool, true, false, not, Option, Some, List, [], ◌∷◌, ◌++◌, length, ◌+◌}
use Rattle.std.proofs.lemmas.Bool.{and_from}
use Rattle.vrl_diag.specs.declared.diagnostic.Span.{Span}
use Rattle.vrl_path.specs.declared.path.Step.{Step}
use Rattle.vrl_syntax.specs.Tree.{Args, Arms, Closure, Else, Expr, Exprs, Pairs, Script}
use Rattle.vrl_syntax.specs.declared.root.Op.{Op}
use Rattle.vrl_token.specs.Brackets.{closed, encloses, open_behind}
use Rattle.vrl_token.specs.Context.{closes_operand, ends_operand}
use Rattle.vrl_token.specs.declared.token.Spanned.{Spanned}
use Rattle.vrl_token.specs.declared.token.Token.{Token}
use Rattle.vrl_token.specs.declared.token.Token.TheVariants as token
use Rattle.vrl_word.specs.Words.{Word, function_of, operator_of, regex_of, words_from}
use Rattle.vrl_parse.specs.Grammar.{Is, AreNames, one_name, more_names, IsScript, no_items, separator, last_item, more_items, IsItem, both_targets, single as single_item, IsSingle, assigned, merged, returned, aborted, aborted_with, coalesce, IsLevel, tighter, joined, tightest, IsUnary, negated, primary, IsPrimary, a_literal, a_template, a_path, without_suffix, with_suffix, with_closure, an_object, a_block, an_if, MayHaveSuffix, a_call, an_array, a_group, IsCall, called, AreArgs, no_arguments, last_argument, more_arguments, IsArg, named, unnamed, IsClosure, a_closure, AreSingles, no_singles, last_single, more_singles, ArePairs, no_parts, last_pair, more_pairs, IsBlock, a_script, AreArms, last_arm, with_else, more_arms}
use Rattle.vrl_parse.specs.Reading.{Reads}
use Rattle.vrl_format.specs.Formatting.{tokens_in}
use Rattle.vrl_format.proofs.Joining.{AreJoined, begins_key, begins_no_item, behind_all, colon_fits, ends_part, has_one, is_arrow, is_behind, is_block, is_name, is_other_than_not, may_follow, none_fails}
use Rattle.vrl_format.proofs.Neighbours.{arrow_free, begins, begins_free, begins_item, begins_name, behind_none, behind_weaker, block_opens, closing_operand, either_holds, else_holds, end_rests, ends_item, ends_pair, function_follows, function_is, function_stays, is_free, is_function, is_simple, item_begins, item_free, item_pair, item_rests, key_pair, literal_simple, name_free, name_wanted, none_weaker, operand_item, operand_no_item, operand_other, operator_begins, operator_follows, operator_stays, pair_free, pair_part, parenthesis_wanted, path_simple, rests, rests_free, rests_part, simple_follows, simple_operand, simple_stays, still_behind, target_simple, template_simple, wanted}
use Rattle.vrl_format.proofs.JoinedParts.{Part, WordsJoined, behind_words, both, nothing, one, sorted, wrapped, wrapped_then}

-- ---- sorts of what stands before

-- an expression may begin
abbrev Begins : List Token → Type 0
Begins before = none_fails begins before ≡ true

-- any token may stand there
abbrev Free : List Token → Type 0
Free before = none_fails is_free before ≡ true

-- an operand stands there
abbrev Operands : List Token → Type 0
Operands before = is_behind ends_operand before ≡ true

-- `)` or `]` stands there
abbrev Closings : List Token → Type 0
Closings before = is_behind closes_operand before ≡ true

-- an item stands there
abbrev Items : List Token → Type 0
Items before = is_behind ends_item before ≡ true

abbrev Functions : List Token → Type 0
Functions before = is_behind is_function before ≡ true

-- a key may begin
abbrev BeginsKey : List Token → Type 0
BeginsKey before = is_behind begins_key before ≡ true

-- an object may end
abbrev EndsPair : List Token → Type 0
EndsPair before = none_fails ends_pair before ≡ true

-- a colon may stand there
abbrev Labels : List Token → Type 0
Labels before = (colon_fits before ≡ true) × Free before

abbrev BeginsName : List Token → Type 0
BeginsName before = is_behind begins_name before ≡ true

abbrev Names : List Token → Type 0
Names before = is_behind is_name before ≡ true

abbrev Arrows : List Token → Type 0
Arrows before = is_behind is_arrow before ≡ true

-- the same where separators may stand
abbrev Apart : (List Token → Type 0) → List Token → Type 0
Apart S before = S before × (encloses (open_behind before) ≡ false)

-- an item may begin
abbrev BeginsItem : List Token → Type 0
BeginsItem before = none_fails begins_item before ≡ true

-- items may end
abbrev Rests : List Token → Type 0
Rests before = none_fails rests before ≡ true

-- ---- one sort in another

begins_any : (before : List Token) → Begins before → Free before
begins_any before s = none_weaker begins is_free begins_free before s

items_any : (before : List Token) → Items before → Free before
items_any before s = behind_none ends_item is_free item_free before s

operands_end : (before : List Token) → Operands before → Items before
operands_end before s = behind_weaker ends_operand ends_item operand_item before s

operands_any : (before : List Token) → Operands before → Free before
operands_any before s = items_any before (operands_end before s)

closings_end : (before : List Token) → Closings before → Operands before
closings_end before s = behind_weaker closes_operand ends_operand closing_operand before s

closings_any : (before : List Token) → Closings before → Free before
closings_any before s = operands_any before (closings_end before s)

names_any : (before : List Token) → Names before → Free before
names_any before s = behind_none is_name is_free name_free before s

arrows_any : (before : List Token) → Arrows before → Free before
arrows_any before s = behind_none is_arrow is_free arrow_free before s

pairs_any : (before : List Token) → EndsPair before → Free before
pairs_any before s = none_weaker ends_pair is_free pair_free before s

items_pair : (before : List Token) → Items before → EndsPair before
items_pair before s = behind_none ends_item ends_pair item_pair before s

keys_pair : (before : List Token) → BeginsKey before → EndsPair before
keys_pair before s = behind_none begins_key ends_pair key_pair before s

keys_any : (before : List Token) → BeginsKey before → Free before
keys_any before s = pairs_any before (keys_pair before s)

rests_any : (before : List Token) → Rests before → Free before
rests_any before s = none_weaker rests is_free rests_free before s

items_begin : (before : List Token) → Apart BeginsItem before → Begins before
items_begin before s = none_weaker begins_item begins item_begins before s.0

items_rest : (before : List Token) → Apart Items before → Apart Rests before
items_rest before s = (behind_none ends_item rests end_rests before s.0, s.1)

beginnings_rest : (before : List Token) → Apart BeginsItem before → Apart Rests before
beginnings_rest before s = (none_weaker begins_item rests item_rests before s.0, s.1)

same : (S : List Token → Type 0) (before : List Token) → S before → S before
same S before s = s

-- ---- single words

-- a word that is an operand by itself
operand_word : (w : Word) → is_simple w.token ≡ true → Part Begins Operands (w ∷ [])
operand_word w e = one Begins Operands w.token (record { is = refl }) (λ before s. simple_follows w.token before e s) (λ before s. simple_operand w.token e) (λ before. simple_stays w.token before e)

function_word : (w : Word) {f : List ℕ × Bool} → function_of w.token ≡ Some f → Part Begins Functions (w ∷ [])
function_word w e = one Begins Functions w.token (record { is = refl }) (λ before s. function_follows w.token before (function_is w.token e) s) (λ before s. function_is w.token e) (λ before. function_stays w.token before (function_is w.token e))

operator_word : (w : Word) {x : ℕ × Op} → operator_of w.token ≡ Some x → Part Operands Begins (w ∷ [])
operator_word w e = one Operands Begins w.token (record { is = refl }) (λ before s. operator_follows w.token before e s) (λ before s. operator_begins w.token e) (λ before. operator_stays w.token before e)

other_behind : (before : List Token) → Operands before → none_fails is_other_than_not before ≡ true
other_behind before s = behind_none ends_operand is_other_than_not operand_other before s

assign_word : {w : Word} → Is token.Assign w → Part Operands Begins (w ∷ [])
assign_word is = one Operands Begins token.Assign is (λ before s. and_from _ _ (other_behind before s) (wanted before token.Assign (operands_any before s))) (λ before s. refl) (λ before. refl)

-- the comma behind the first of two targets
targets_word : {w : Word} → Is token.Comma w → Part Operands Begins (w ∷ [])
targets_word is = one Operands Begins token.Comma is (λ before s. wanted before token.Comma (operands_any before s)) (λ before s. refl) (λ before. refl)

merge_word : {w : Word} → Is token.MergeAssign w → Part Operands Begins (w ∷ [])
merge_word is = one Operands Begins token.MergeAssign is (λ before s. wanted before token.MergeAssign (operands_any before s)) (λ before s. refl) (λ before. refl)

return_word : {w : Word} → Is token.Return w → Part Begins Begins (w ∷ [])
return_word is = one Begins Begins token.Return is (λ before s. wanted before token.Return (begins_any before s)) (λ before s. refl) (λ before. refl)

abort_word : {w : Word} → Is token.Abort w → Part Begins Begins (w ∷ [])
abort_word is = one Begins Begins token.Abort is (λ before s. wanted before token.Abort (begins_any before s)) (λ before s. refl) (λ before. refl)

last_abort_word : {w : Word} → Is token.Abort w → Part Begins Items (w ∷ [])
last_abort_word is = one Begins Items token.Abort is (λ before s. wanted before token.Abort (begins_any before s)) (λ before s. refl) (λ before. refl)

not_word : {w : Word} → Is token.Not w → Part Begins Begins (w ∷ [])
not_word is = one Begins Begins token.Not is (λ before s. wanted before token.Not (begins_any before s)) (λ before s. refl) (λ before. refl)

if_word : {w : Word} → Is token.If w → Part Free Begins (w ∷ [])
if_word is = one Free Begins token.If is (λ before s. wanted before token.If s) (λ before s. refl) (λ before. refl)

no_item_behind : (before : List Token) → Operands before → is_behind begins_no_item before ≡ true
no_item_behind before s = behind_weaker ends_operand begins_no_item operand_no_item before s

else_word : {w : Word} → Is token.Else w → Part Operands Free (w ∷ [])
else_word is = one Operands Free token.Else is (λ before s. and_from _ _ (no_item_behind before s) (wanted before token.Else (operands_any before s))) (λ before s. refl) (λ before. refl)

suffix_word : {w : Word} (p : List Step) → Is (token.Suffix p) w → Part Closings Operands (w ∷ [])
suffix_word p is = one Closings Operands (token.Suffix p) is (λ before s. and_from _ _ s (wanted before (token.Suffix p) (closings_any before s))) (λ before s. refl) (λ before. refl)

arrow_word : {w : Word} → Is token.Arrow w → Part Free Arrows (w ∷ [])
arrow_word is = one Free Arrows token.Arrow is (λ before s. wanted before token.Arrow s) (λ before s. refl) (λ before. refl)

comma_word : {w : Word} → Is token.Comma w → Part Items Begins (w ∷ [])
comma_word is = one Items Begins token.Comma is (λ before s. wanted before token.Comma (items_any before s)) (λ before s. refl) (λ before. refl)

pair_comma_word : {w : Word} → Is token.Comma w → Part Items BeginsKey (w ∷ [])
pair_comma_word is = one Items BeginsKey token.Comma is (λ before s. wanted before token.Comma (items_any before s)) (λ before s. refl) (λ before. refl)

name_comma_word : {w : Word} → Is token.Comma w → Part Names BeginsName (w ∷ [])
name_comma_word is = one Names BeginsName token.Comma is (λ before s. wanted before token.Comma (names_any before s)) (λ before s. refl) (λ before. refl)

name_word : {w : Word} (n : List ℕ) → Is (token.Name n) w → Part BeginsName Names (w ∷ [])
name_word n is = one BeginsName Names (token.Name n) is (λ before s. name_wanted before n s) (λ before s. refl) (λ before. refl)

label_word : {w : Word} (n : List ℕ) → Is (token.Name n) w → Part Begins Labels (w ∷ [])
label_word n is = one Begins Labels (token.Name n) is (λ before s. wanted before (token.Name n) (begins_any before s)) (λ before s. (refl, refl)) (λ before. refl)

key_word : {w : Word} (k : List ℕ) → Is (token.Text k) w → Part BeginsKey Labels (w ∷ [])
key_word k is = one BeginsKey Labels (token.Text k) is (λ before s. wanted before (token.Text k) (keys_any before s)) (λ before s. (s, refl)) (λ before. refl)

colon_word : {w : Word} → Is token.Colon w → Part Labels Begins (w ∷ [])
colon_word is = one Labels Begins token.Colon is (λ before s. and_from _ _ s.0 (wanted before token.Colon s.1)) (λ before s. refl) (λ before. refl)

separator_word : {w : Word} → Is token.Separator w → Part (Apart Rests) (Apart BeginsItem) (w ∷ [])
separator_word is = one (Apart Rests) (Apart BeginsItem) token.Separator is
    (λ before s. and_from _ _ (and_from _ _ (ap not s.1) (still_behind before s.0)) (wanted before token.Separator (rests_any before s.0)))
    (λ before s. (refl, s.1)) (λ before. refl)

-- ---- brackets

parenthesized : (S R : List Token → Type 0) {o c : Word} {ws : List Word} → Is token.OpenParenthesis o → Is token.CloseParenthesis c
    → ((before : List Token) → S before → may_follow before token.OpenParenthesis ≡ true) → ((before : List Token) → R before → Free before)
    → Part Begins R ws → Part S Closings (o ∷ ws ++ c ∷ [])
parenthesized S R opens closes first free p = wrapped S Begins R Closings token.OpenParenthesis token.CloseParenthesis opens closes
    first (λ before s. refl) (λ before inner s stays. wanted inner token.CloseParenthesis (free inner s)) (λ inner. refl) (λ before inner stays. ap closed stays) p

squared : {o c : Word} {ws : List Word} → Is token.OpenBracket o → Is token.CloseBracket c → Part Begins Free ws → Part Begins Closings (o ∷ ws ++ c ∷ [])
squared opens closes p = wrapped Begins Begins Free Closings token.OpenBracket token.CloseBracket opens closes
    (λ before s. wanted before token.OpenBracket (begins_any before s)) (λ before s. refl) (λ before inner s stays. wanted inner token.CloseBracket s) (λ inner. refl) (λ before inner stays. ap closed stays) p

braced_pairs : {o c : Word} {ws : List Word} → Is token.OpenObject o → Is token.CloseBrace c → Part BeginsKey EndsPair ws → Part Begins Operands (o ∷ ws ++ c ∷ [])
braced_pairs opens closes p = wrapped Begins BeginsKey EndsPair Operands token.OpenObject token.CloseBrace opens closes
    (λ before s. wanted before token.OpenObject (begins_any before s)) (λ before s. refl)
    (λ before inner s stays. and_from _ _ (and_from _ _ (ap has_one stays) (else_holds (is_block (open_behind inner)) _ _ (ap is_block stays) (none_weaker ends_pair ends_part pair_part inner s))) (wanted inner token.CloseBrace (pairs_any inner s)))
    (λ inner. refl) (λ before inner stays. ap closed stays) p

braced_items : {o c : Word} {ws : List Word} → Is token.OpenBlock o → Is token.CloseBrace c → Part (Apart BeginsItem) (Apart Rests) ws → Part Free Operands (o ∷ ws ++ c ∷ [])
braced_items opens closes p = wrapped Free (Apart BeginsItem) (Apart Rests) Operands token.OpenBlock token.CloseBrace opens closes
    (λ before s. wanted before token.OpenBlock s) (λ before s. (refl, block_opens before))
    (λ before inner s stays. and_from _ _ (and_from _ _ (ap has_one stays) (either_holds (is_block (open_behind inner)) _ _ (still_behind inner s.0) (none_weaker rests ends_part rests_part inner s.0))) (wanted inner token.CloseBrace (rests_any inner s.0)))
    (λ inner. refl) (λ before inner stays. ap closed stays) p

barred_names : {o c : Word} {ws : List Word} → Is token.OpenBars o → Is token.CloseBars c → Part BeginsName Names ws → Part Arrows Free (o ∷ ws ++ c ∷ [])
barred_names opens closes p = wrapped Arrows BeginsName Names Free token.OpenBars token.CloseBars opens closes
    (λ before s. and_from _ _ s (wanted before token.OpenBars (arrows_any before s))) (λ before s. refl)
    (λ before inner s stays. and_from _ _ s (wanted inner token.CloseBars (names_any inner s)))
    (λ inner. refl) (λ before inner stays. ap closed stays) p

-- a part within which no bracket stays open is one of a block's items
of_block : {S E : List Token → Type 0} {ws : List Word} → Part S E ws → Part (Apart S) (Apart E) ws
of_block {ws = ws} p = record {
  joined = λ before s. p.joined before s.0;
  ends = λ before s. (p.ends before s.0, ap encloses (p.balanced before) ∙ s.1);
  balanced = p.balanced;
}

-- an item of a block or of the script
of_items : {ws : List Word} → Part Begins Items ws → Part (Apart BeginsItem) (Apart Rests) ws
of_items p = sorted (λ before s. (items_begin before s, s.1)) items_rest (of_block p)

of_operand : {ws : List Word} → Part Begins Operands ws → Part Begins Items ws
of_operand p = sorted (same Begins) operands_end p

any_before : {E : List Token → Type 0} {ws : List Word} → Part Free E ws → Part Begins E ws
any_before {E = E} p = sorted begins_any (same E) p

behind_operand : {E : List Token → Type 0} {ws : List Word} → Part Free E ws → Part Operands E ws
behind_operand {E = E} p = sorted operands_any (same E) p

-- ---- the grammar

names_part : {ws : List Word} {ns : List (List ℕ)} → AreNames ws ns → Part BeginsName Names ws
names_part (one_name {n = n} is) = name_word n is
names_part (more_names {n = n} is comma rest) = both (name_word n is) (both (name_comma_word comma) (names_part rest))

mutual
  script_part : {ws : List Word} {es : Exprs} → IsScript ws es → Part (Apart BeginsItem) (Apart Rests) ws
  script_part no_items = nothing (Apart BeginsItem) (Apart Rests) beginnings_rest
  script_part (separator is rest) = both (sorted beginnings_rest (same (Apart BeginsItem)) (separator_word is)) (script_part rest)
  script_part (last_item it) = of_items (item_part it)
  script_part (more_items it is rest) = both (of_items (item_part it)) (both (separator_word is) (script_part rest))

  item_part : {ws : List Word} {e : Expr} → IsItem ws e → Part Begins Items ws
  item_part (both_targets {w = w} {v = v} t comma u assign it) =
      both (operand_word w (target_simple w.token w.span t)) (both (targets_word comma) (both (operand_word v (target_simple v.token v.span u)) (both (assign_word assign) (single_part it))))
  item_part (single_item it) = single_part it

  single_part : {ws : List Word} {e : Expr} → IsSingle ws e → Part Begins Items ws
  single_part (assigned {w = w} t is it) = both (operand_word w (target_simple w.token w.span t)) (both (assign_word is) (single_part it))
  single_part (merged {w = w} t is it) = both (operand_word w (target_simple w.token w.span t)) (both (merge_word is) (single_part it))
  single_part (returned is it) = both (return_word is) (single_part it)
  single_part (aborted is) = last_abort_word is
  single_part (aborted_with is it) = both (abort_word is) (single_part it)
  single_part (coalesce it) = of_operand (level_part it)

  level_part : {n : ℕ} {ws : List Word} {e : Expr} → IsLevel n ws e → Part Begins Operands ws
  level_part (tighter it) = level_part it
  level_part (joined w left is right) = both (level_part left) (both (operator_word w is) (level_part right))
  level_part (tightest it) = unary_part it

  unary_part : {ws : List Word} {e : Expr} → IsUnary ws e → Part Begins Operands ws
  unary_part (negated is it) = both (not_word is) (unary_part it)
  unary_part (primary it) = primary_part it

  primary_part : {ws : List Word} {e : Expr} → IsPrimary ws e → Part Begins Operands ws
  primary_part (a_literal {w = w} is) = operand_word w (literal_simple w.token w.number is)
  primary_part (a_template {w = w} is) = operand_word w (template_simple w.token w.span is)
  primary_part (a_path {w = w} is) = operand_word w (path_simple w.token is)
  primary_part (without_suffix it) = sorted (same Begins) closings_end (suffixed_part it)
  primary_part (with_suffix {p = p} it is) = both (suffixed_part it) (suffix_word p is)
  primary_part (with_closure it closure) = both (sorted (same Begins) closings_any (call_part it)) (closure_part closure)
  primary_part (an_object opens it closes) = braced_pairs opens closes (pairs_part it)
  primary_part (a_block it) = any_before (block_part it)
  primary_part (an_if is it) = both (any_before (if_word is)) (arms_part it)

  suffixed_part : {ws : List Word} {e : Expr} → MayHaveSuffix ws e → Part Begins Closings ws
  suffixed_part (a_call it) = call_part it
  suffixed_part (an_array opens it closes) = squared opens closes (singles_part it)
  suffixed_part (a_group opens it closes) = parenthesized Begins Items opens closes (λ before s. wanted before token.OpenParenthesis (begins_any before s)) items_any (item_part it)

  call_part : {ws : List Word} {f : List ℕ × Bool} {s t : Span} {gs : Args} → IsCall ws f s gs t → Part Begins Closings ws
  call_part (called {w = w} is opens it closes) = both (function_word w is) (parenthesized Functions Free opens closes parenthesis_wanted (same Free) (args_part it))

  args_part : {ws : List Word} {gs : Args} → AreArgs ws gs → Part Begins Free ws
  args_part no_arguments = nothing Begins Free begins_any
  args_part (last_argument it) = sorted (same Begins) items_any (arg_part it)
  args_part (more_arguments it is rest) = both (arg_part it) (both (comma_word is) (args_part rest))

  arg_part : {ws : List Word} {n : Option (List ℕ)} {s : Span} {e : Expr} → IsArg ws n s e → Part Begins Items ws
  arg_part (named {n = n} is colon it) = both (label_word n is) (both (colon_word colon) (single_part it))
  arg_part (unnamed it) = single_part it

  closure_part : {ws : List Word} {c : Closure} {s : Span} → IsClosure ws c s → Part Free Operands ws
  closure_part (a_closure {o = o} {c = c} {ws = ws} {vs = vs} arrow opens names closes it) =
      both (arrow_word arrow) (wrapped_then o c ws vs (both (barred_names opens closes (names_part names)) (block_part it)))

  singles_part : {ws : List Word} {es : Exprs} → AreSingles ws es → Part Begins Free ws
  singles_part no_singles = nothing Begins Free begins_any
  singles_part (last_single it) = sorted (same Begins) items_any (single_part it)
  singles_part (more_singles it is rest) = both (single_part it) (both (comma_word is) (singles_part rest))

  pairs_part : {ws : List Word} {ps : Pairs} → ArePairs ws ps → Part BeginsKey EndsPair ws
  pairs_part no_parts = nothing BeginsKey EndsPair keys_pair
  pairs_part (last_pair {key = k} is colon it) = both (key_word k is) (both (colon_word colon) (sorted (same Begins) items_pair (single_part it)))
  pairs_part (more_pairs {key = k} is colon it comma rest) = both (key_word k is) (both (colon_word colon) (both (single_part it) (both (pair_comma_word comma) (pairs_part rest))))

  block_part : {ws : List Word} {es : Exprs} {s : Span} → IsBlock ws es s → Part Free Operands ws
  block_part (a_script opens it closes) = braced_items opens closes (script_part it)

  arms_part : {ws : List Word} {gs : Arms} {es : Else} {s : Span} → AreArms ws gs es s → Part Begins Operands ws
  arms_part (last_arm predicate it) = both (level_part predicate) (behind_operand (block_part it))
  arms_part (with_else predicate it is rest) = both (level_part predicate) (both (behind_operand (block_part it)) (both (else_word is) (block_part rest)))
  arms_part (more_arms predicate it is also rest) = both (level_part predicate) (both (behind_operand (block_part it)) (both (else_word is) (both (if_word also) (arms_part rest))))

-- ---- tokens

joined_tokens : (n : ℕ) (before : List Token) (ts : List Spanned) → WordsJoined before (words_from n ts) → AreJoined before (tokens_in ts)
joined_tokens n before [] h = tt
joined_tokens n before (t ∷ ts) h = (h.0, joined_tokens (length (regex_of t.token) + n) (t.token ∷ before) ts h.1)

behind_tokens : (n : ℕ) (before : List Token) (ts : List Spanned) → behind_words before (words_from n ts) ≡ behind_all before (tokens_in ts)
behind_tokens n before [] = refl
behind_tokens n before (t ∷ ts) = behind_tokens (length (regex_of t.token) + n) (t.token ∷ before) ts

pub tokens_joined : (ts : List Spanned) (s : Script) → Reads ts s → AreJoined [] (tokens_in ts)
tokens_joined ts s reads = joined_tokens 0 [] ts ((script_part reads.items).joined [] (refl, refl))
