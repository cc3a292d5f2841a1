-- The walk of `clap` over the words ends with what the words give, word by word.
use Rattle.std.proofs.Common.{◌≡◌, ◌∙◌, ◌&&◌, ◌||◌, ℕ, Bool, cond, codes, true, false, refl, sym, ap, subst, List, [], ◌∷◌, Option, Some, None, is_some}
use Rattle.std.specs.Prelude.{option_and_then}
use Rattle.std.specs.List.{fold}
use Rattle.std.specs.Option.{option_map, option_map_or}
use Rattle.std.specs.Str.{bytes_eq}
use Rattle.clap.specs.Faults.{positional_fault, react_fault, settle_fault, stray_fault, turn_fault, walk_fault}
use Rattle.clap.specs.Kinds.{Kinds, or_else}
use Rattle.clap.specs.Walk.{Held, Row, Rule, Text, Waiting, Walk, arg_by_id, finished, idle, is_pending, option, plain_word, after_step, positional_held, pushed, reacted, settled, to_positional, walked}
use Rattle.remap_words.specs.Uses.{Use, Word, flag, option_with_value, script, uses_from, uses_of}
use Rattle.remap_words.specs.Words.{Settings, unless, with_use, with_uses}
use Rattle.remap_words.proofs.Table.{alone, at_any, at_first, at_second, built_flag, built_option, built_script, script_by_id, shape, table}
use Rattle.remap_words.proofs.Rows.{At, IsUse, Shows, script_made}
use Rattle.remap_words.proofs.Held.{IsFault, Stands, Turns, fault_first, none_behind, pending_fault, pending_stands, react_turns}
use Rattle.remap_words.proofs.Turns.{long_turn, long_walk, name_fault, name_walk, place}
use Rattle.remap_words.proofs.Defaults.{Agrees, end_fault, fault_agrees}

-- the faults from here on, and the rows at the end
abbrev pub tail : Walk → List Text → Kinds
tail w words = or_else (walk_fault shape [] w words) (end_fault (fold (walked table []) w words).held)

abbrev pub end_rows : Walk → List Text → List Row
end_rows w words = finished table (fold (walked table []) w words).held

-- the walk over the words from here on ends with this
abbrev pub Ends : Walk → List Text → Option Settings → Type 0
Ends w words m = Agrees (tail w words) (end_rows w words) m

or_else_assoc : (a b c : Kinds) → or_else (or_else a b) c ≡ or_else a (or_else b c)
or_else_assoc [] b c = refl
or_else_assoc (k ∷ ks) b c = refl

-- a word that does this, before the others
pub turned : (w next : Walk) (word : Text) (rest : List Text) (turn : Kinds) (m : Option Settings) → turn_fault shape [] w word ≡ turn → walked table [] w word ≡ next
    → Agrees (or_else turn (tail next rest)) (end_rows next rest) m → Ends w (word ∷ rest) m
unfolding walk_fault
turned w next word rest turn m faults walks agrees =
    subst (λ ks. Agrees ks (end_rows w (word ∷ rest)) m) (sym (or_else_assoc (turn_fault shape [] w word)
    (walk_fault shape [] (walked table [] w word) rest) (end_fault (fold (walked table []) (walked table [] w word) rest).held)))
    (subst (λ v. Agrees (or_else (turn_fault shape [] w word) (tail v rest)) (end_rows v rest) m) (sym walks)
    (subst (λ ks. Agrees (or_else ks (tail next rest)) (end_rows next rest) m) (sym faults) agrees))

-- what the words behind give, with what is given before them
abbrev pub given_after : Option Settings → Option (List Use) → Option Settings
given_after m uses = option_and_then (λ us. option_and_then (with_uses us) m) uses

pub none_after : (uses : Option (List Use)) → given_after None uses ≡ None
none_after None = refl
none_after (Some us) = refl

pub one_more : (m : Option Settings) (u : Use) (uses : Option (List Use))
    → given_after m (option_map (λ others. u ∷ others) uses) ≡ given_after (option_and_then (with_use u) m) uses
one_more m u None = refl
one_more None u (Some us) = refl
one_more (Some g) u (Some us) = refl

pub refused_first : (kinds others : Kinds) (rows : List Row) → IsFault kinds → Agrees (or_else kinds others) rows None
refused_first kinds others rows fault = fault_agrees (or_else kinds others) rows (fault_first kinds others fault)

-- after a turn
pub passed : (kinds others : Kinds) (rows : List Row) (h : Held) (position : ℕ) (m : Option Settings) (uses : Option (List Use)) → Turns kinds h position m
    → (Stands h m → At position m → Agrees others rows (given_after m uses)) → Agrees (or_else kinds others) rows (given_after m uses)
passed [] others rows h position m uses turns next = next turns.0 turns.1
passed (k ∷ ks) others rows h position m uses turns next =
    subst (λ o. Agrees (k ∷ ks) rows o) (sym (ap (λ o. given_after o uses) turns ∙ none_after uses)) tt

-- the walk from here on, with no option that waits, ends with what the uses give behind what is given so far
abbrev pub Follows : Bool → List Text → Option (List Use) → Type 0
Follows is_trailing rest uses = (position : ℕ) (h : Held) (m : Option Settings) → Stands h m → At position m
    → Ends (place is_trailing idle position h) rest (given_after m uses)

-- ---- a name

not_pending : (b : Bool) (kinds : Kinds) → cond (b && false) [] kinds ≡ kinds
not_pending true kinds = refl
not_pending false kinds = refl

script_settles : (h : Held) → positional_fault table false built_script h ≡ settle_fault table false h
script_settles h = not_pending (is_pending built_script h.pending) (settle_fault table false h)

name_refused : (position : ℕ) (h : Held) → IsFault (settle_fault table false h) → IsFault (name_fault position h)
name_refused position h fault = at_any (λ o. IsFault (option_map_or (λ a. positional_fault table false a h) o (stray_fault shape))) position
    (subst IsFault (sym (script_settles h)) fault) tt

abbrev named_held : Held → Text → Held
named_held h word = record (settled table h) { pending = Some (codes "script", word ∷ []) }

name_held : (h : Held) (word : Text) → positional_held table built_script word h ≡ named_held h word
name_held h word = go (is_pending built_script h.pending)
  where
    go : (b : Bool) → pushed (codes "script") word (cond (b && false) h (settled table h)) ≡ named_held h word
    go true = refl
    go false = refl

first_fault : (position : ℕ) (h : Held) → position ≡ 1 → name_fault position h ≡ settle_fault table false h
first_fault position h first =
    ap (λ p. name_fault p h) first ∙ ap (λ o. option_map_or (λ a. positional_fault table false a h) o (stray_fault shape)) at_first ∙ script_settles h

first_walk : (is_trailing : Bool) (waiting : Waiting) (position : ℕ) (h : Held) (word : Text) → position ≡ 1
    → name_walk is_trailing waiting position h word ≡ place is_trailing idle 2 (named_held h word)
first_walk is_trailing waiting position h word first =
    ap (λ p. name_walk is_trailing waiting p h word) first ∙ ap (λ o. to_positional table o word (place is_trailing waiting 1 h) h) at_first
    ∙ ap (λ n. place (is_trailing || false) idle 2 n) (name_held h word) ∙ ap (λ b. place b idle 2 (named_held h word)) (alone is_trailing)

second_fault : (position : ℕ) (h : Held) → position ≡ 2 → IsFault (name_fault position h)
second_fault position h second =
    subst IsFault (sym (ap (λ p. name_fault p h) second ∙ ap (λ o. option_map_or (λ a. positional_fault table false a h) o (stray_fault shape)) at_second)) tt

at_two : (g : Settings) (twice : Bool) (word : Text) → At 2 (unless twice (record g { script = Some word }))
at_two g true word = tt
at_two g false word = refl

pub name_agrees : (is_trailing : Bool) (waiting : Waiting) (position : ℕ) (h : Held) (word : Text) (rest : List Text) (m : Option Settings) (uses : Option (List Use))
    → Stands h m → At position m → Follows is_trailing rest uses
    → Agrees (or_else (name_fault position h) (tail (name_walk is_trailing waiting position h word) rest)) (end_rows (name_walk is_trailing waiting position h word) rest)
    (given_after (option_and_then (with_use (script word)) m) uses)
name_agrees is_trailing waiting position h word rest None uses stands at follows =
    subst (Agrees _ _) (sym (none_after uses)) (refused_first (name_fault position h) _ _ (name_refused position h stands))
name_agrees is_trailing waiting position h word rest (Some g) uses stands at follows = go g.script refl
  where
    go : (o : Option Text) → g.script ≡ o
        → Agrees (or_else (name_fault position h) (tail (name_walk is_trailing waiting position h word) rest)) (end_rows (name_walk is_trailing waiting position h word) rest)
        (given_after (with_use (script word) g) uses)
    go None e =
        let first : position ≡ 1 = at ∙ ap (λ o. cond (is_some o) 2 1) e in
        let held = named_held h word in
        subst (λ ks. Agrees (or_else ks (tail (name_walk is_trailing waiting position h word) rest)) (end_rows (name_walk is_trailing waiting position h word) rest)
        (given_after (with_use (script word) g) uses)) (sym (first_fault position h first ∙ stands.0))
        (subst (λ v. Ends v rest (given_after (with_use (script word) g) uses)) (sym (first_walk is_trailing waiting position h word first))
        (follows 2 held (with_use (script word) g)
        (pending_stands built_script (codes "script") (word ∷ []) held (with_use (script word) g) script_by_id refl (script_made word (settled table h).rows g stands.1))
        (at_two g (is_some g.script) word)))
    go (Some t) e =
        let second : position ≡ 2 = at ∙ ap (λ o. cond (is_some o) 2 1) e in
        let none : with_use (script word) g ≡ None = ap (λ o. unless (is_some o) (record g { script = Some word })) e in
        subst (Agrees _ _) (sym (ap (λ o. given_after o uses) none ∙ none_after uses)) (refused_first (name_fault position h) _ _ (second_fault position h second))

-- ---- options

-- an option whose value is the next word, or stands behind `=`
pub record IsSetting (name : Text) (given : Text → Use) : Type 0 where
  pub by : arg_by_id table name ≡ Some (built_option name)
  pub same : bytes_eq name name ≡ true
  pub of : (value : Text) → IsUse (built_option name) (value ∷ []) (given value)

abbrev pub waiting_held : Text → List Row → ℕ → Held
waiting_held name rows skip = record { rows = rows; pending = Some (name, []); skip = skip }

-- the walk from an option on that waits for its value
abbrev pub Waits : List Text → Type 0
Waits rest = (name : Text) (given : Text → Use) (position : ℕ) (rows : List Row) (skip : ℕ) (g : Settings) → IsSetting name given → Shows rows g → At position (Some g)
    → Ends (place false (option name) position (waiting_held name rows skip)) rest (given_after (Some g) (uses_of (Some given) rest))

-- a long option at its rule, and the word that it is
abbrev pub LongAgrees : ℕ → Held → Text → List Text → Option Settings → Option Text → Option Rule → Word → Type 0
LongAgrees position h word rest m value found what =
    Agrees (or_else (long_turn idle position h word found value) (tail (long_walk idle position h word found value) rest))
    (end_rows (long_walk idle position h word found value) rest) (given_after m (uses_from what rest (λ waits. uses_of waits rest)))

react_agrees : (a : Rule) (values : List Text) (u : Use) (position : ℕ) (h : Held) (rest : List Text) (m : Option Settings) → IsUse a values u → Stands h m → At position m
    → Follows false rest (uses_of None rest)
    → Agrees (or_else (or_else (react_fault table false a values h) []) (tail (place false idle position (reacted table a values h)) rest))
    (end_rows (place false idle position (reacted table a values h)) rest) (given_after m (option_map (λ others. u ∷ others) (uses_of None rest)))
react_agrees a values u position h rest m of stands at follows =
    let next = reacted table a values h in
    let more = option_and_then (with_use u) m in
    subst (λ ks. Agrees (or_else ks (tail (place false idle position next) rest)) (end_rows (place false idle position next) rest)
    (given_after m (option_map (λ others. u ∷ others) (uses_of None rest)))) (sym (none_behind (react_fault table false a values h)))
    (subst (Agrees (or_else (react_fault table false a values h) (tail (place false idle position next) rest)) (end_rows (place false idle position next) rest))
    (sym (one_more m u (uses_of None rest)))
    (passed (react_fault table false a values h) _ _ next position more (uses_of None rest) (react_turns a values u h position m of stands at)
    (λ s t. follows position next more s t)))

pub setting_agrees : (name : Text) (given : Text → Use) (position : ℕ) (h : Held) (word : Text) (rest : List Text) (m : Option Settings) (value : Option Text)
    → IsSetting name given → Stands h m → At position m → Follows false rest (uses_of None rest) → Waits rest
    → LongAgrees position h word rest m value (Some (built_option name)) (option_with_value given value)
setting_agrees name given position h word rest m (Some v) is stands at follows waits =
    react_agrees (built_option name) (v ∷ []) (given v) position h rest m (is.of v) stands at follows
setting_agrees name given position h word rest None None is stands at follows waits =
    let faults = settle_fault table false h in
    subst (Agrees _ _) (sym (none_after (uses_of (Some given) rest))) (refused_first (or_else faults []) _ _ (fault_first faults [] stands))
setting_agrees name given position h word rest (Some g) None is stands at follows waits =
    subst (λ ks. Agrees (or_else (or_else ks []) (tail (place false (option name) position (waiting_held name (settled table h).rows h.skip)) rest))
    (end_rows (place false (option name) position (waiting_held name (settled table h).rows h.skip)) rest) (given_after (Some g) (uses_of (Some given) rest))) (sym stands.0)
    (waits name given position (settled table h).rows h.skip g is stands.1 at)

pub flag_agrees : (name : Text) (u : Use) (position : ℕ) (h : Held) (word : Text) (rest : List Text) (m : Option Settings) (value : Option Text)
    → IsUse (built_flag name) [] u → Stands h m → At position m → Follows false rest (uses_of None rest)
    → LongAgrees position h word rest m value (Some (built_flag name)) (flag u value)
flag_agrees name u position h word rest m (Some v) of stands at follows = tt
flag_agrees name u position h word rest m None of stands at follows =
    react_agrees (built_flag name) [] u position h rest m of stands at follows

-- ---- the value of an option

value_step : (name : Text) (position : ℕ) (rows : List Row) (skip : ℕ) (word : Text) → arg_by_id table name ≡ Some (built_option name) → bytes_eq name name ≡ true
    → after_step table word (place false (option name) position (waiting_held name rows skip)) (plain_word table (option name) word (waiting_held name rows skip)).0
    (plain_word table (option name) word (waiting_held name rows skip)).1
    ≡ place false idle position (record { rows = rows; pending = Some (name, word ∷ []); skip = skip })
value_step name position rows skip word by same = rw (by, same) refl

-- an option that waits is refused where its value is missing
pub missing_fault : (name : Text) (rows : List Row) (skip : ℕ) → arg_by_id table name ≡ Some (built_option name)
    → IsFault (settle_fault table false (waiting_held name rows skip))
missing_fault name rows skip by = subst IsFault (sym (pending_fault (built_option name) name [] (waiting_held name rows skip) by refl)) tt

pub value_agrees : (name : Text) (given : Text → Use) (position : ℕ) (rows : List Row) (skip : ℕ) (g : Settings) (word : Text) (rest : List Text) (uses : Option (List Use))
    → IsSetting name given → Shows rows g → At position (Some g) → Follows false rest uses
    → Ends (after_step table word (place false (option name) position (waiting_held name rows skip)) (plain_word table (option name) word (waiting_held name rows skip)).0
    (plain_word table (option name) word (waiting_held name rows skip)).1) rest (given_after (Some g) (option_map (λ others. given word ∷ others) uses))
value_agrees name given position rows skip g word rest uses is shows at follows =
    let held : Held = record { rows = rows; pending = Some (name, word ∷ []); skip = skip } in
    subst (λ v. Ends v rest (given_after (Some g) (option_map (λ others. given word ∷ others) uses))) (sym (value_step name position rows skip word is.by is.same))
    (subst (Ends (place false idle position held) rest) (sym (one_more (Some g) (given word) uses))
    (follows position held (with_use (given word) g)
    (pending_stands (built_option name) name (word ∷ []) held (with_use (given word) g) is.by refl ((is.of word).made rows g shows))
    ((is.of word).place position g at)))
