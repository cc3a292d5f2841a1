-- What one word does to a walk, by the form of the word.
use Rattle.std.proofs.Common.{◌≡◌, ℕ, Bool, cond, true, false, refl, [], ◌∷◌, Option, Some, None, is_some}
use Rattle.std.specs.Option.{option_map_or}
use Rattle.std.specs.Str.{bytes_eq}
use Rattle.clap.specs.Faults.{long_fault, option_fault, positional_fault, react_fault, settle_fault, step_fault, stray_fault, turn_fault}
use Rattle.clap.specs.Kinds.{Kinds, or_else}
use Rattle.clap.specs.Lexer.{long_of, short_of}
use Rattle.clap.specs.Walk.{Held, Rule, Text, Waiting, Walk, after_flag, after_step, arg_by_index, arg_by_long, idle, long_met, option, plain_word, positional, takes_values, to_positional, walked}
use Rattle.clap.specs.declared.error.kind.ErrorKind.TheVariants.{TooManyValues}
use Rattle.remap_words.proofs.Table.{shape, table}
use Rattle.remap_words.proofs.Held.{IsFault, fault_first}

abbrev pub place : Bool → Waiting → ℕ → Held → Walk
place is_trailing waiting position h = record {
  held = h;
  waiting = waiting;
  position = position;
  is_trailing = is_trailing;
  stopped = None;
}

-- ---- a word of a positional

abbrev pub name_fault : ℕ → Held → Kinds
name_fault position h = option_map_or (λ a. positional_fault table false a h) (arg_by_index table position) (stray_fault shape)

abbrev pub name_walk : Bool → Waiting → ℕ → Held → Text → Walk
name_walk is_trailing waiting position h word = to_positional table (arg_by_index table position) word (place is_trailing waiting position h) h

pub trailing_fault : (waiting : Waiting) (position : ℕ) (h : Held) (word : Text) → turn_fault shape [] (place true waiting position h) word ≡ name_fault position h
trailing_fault waiting position h word = refl

pub trailing_walk : (waiting : Waiting) (position : ℕ) (h : Held) (word : Text)
    → walked table [] (place true waiting position h) word ≡ name_walk true waiting position h word
unfolding walked
trailing_walk waiting position h word = refl

-- the word does not begin with a hyphen
pub record IsPlain (word : Text) : Type 0 where
  pub dashes : bytes_eq word (45 ∷ 45 ∷ []) ≡ false
  pub long : long_of word ≡ None
  pub short : short_of word ≡ None

pub plain_fault : (position : ℕ) (h : Held) (word : Text) → IsPlain word → turn_fault shape [] (place false idle position h) word ≡ name_fault position h
plain_fault position h word plain = rw (plain.dashes, plain.long, plain.short) refl

pub plain_walk : (position : ℕ) (h : Held) (word : Text) → IsPlain word
    → walked table [] (place false idle position h) word ≡ name_walk false idle position h word
unfolding walked
plain_walk position h word plain = rw (plain.dashes, plain.long, plain.short) refl

-- ---- a word that is the value of an option

pub value_fault : (id : Text) (position : ℕ) (h : Held) (word : Text) → IsPlain word → turn_fault shape [] (place false (option id) position h) word ≡ []
value_fault id position h word plain = rw (plain.dashes, plain.long, plain.short) refl

pub value_walk : (id : Text) (position : ℕ) (h : Held) (word : Text) → IsPlain word
    → walked table [] (place false (option id) position h) word
    ≡ after_step table word (place false (option id) position h) (plain_word table (option id) word h).0 (plain_word table (option id) word h).1
unfolding walked
value_walk id position h word plain = rw (plain.dashes, plain.long, plain.short) refl

-- ---- `--`

abbrev pub dashes : Text
dashes = 45 ∷ 45 ∷ []

pub dashes_fault : (waiting : Waiting) (position : ℕ) (h : Held) → turn_fault shape [] (place false waiting position h) dashes ≡ []
dashes_fault idle position h = refl
dashes_fault (option id) position h = refl
dashes_fault positional position h = refl

pub dashes_walk : (waiting : Waiting) (position : ℕ) (h : Held) → walked table [] (place false waiting position h) dashes ≡ place true waiting position h
unfolding walked
dashes_walk idle position h = refl
dashes_walk (option id) position h = refl
dashes_walk positional position h = refl

-- ---- a long option

abbrev pub long_turn : Waiting → ℕ → Held → Text → Option Rule → Option Text → Kinds
long_turn waiting position h word found value = or_else (long_fault table false found value h)
    (step_fault shape position (after_flag table waiting word (long_met table found value h).0 (long_met table found value h).1).0
    (after_flag table waiting word (long_met table found value h).0 (long_met table found value h).1).1)

abbrev pub long_walk : Waiting → ℕ → Held → Text → Option Rule → Option Text → Walk
long_walk waiting position h word found value = after_step table word (place false waiting position h)
    (after_flag table waiting word (long_met table found value h).0 (long_met table found value h).1).0
    (after_flag table waiting word (long_met table found value h).0 (long_met table found value h).1).1

pub long_fault_is : (waiting : Waiting) (position : ℕ) (h : Held) (word name : Text) (value : Option Text) → bytes_eq word (45 ∷ 45 ∷ []) ≡ false
    → long_of word ≡ Some (name, value) → turn_fault shape [] (place false waiting position h) word ≡ long_turn waiting position h word (arg_by_long table name) value
long_fault_is idle position h word name value dashes long = rw (dashes, long) refl
long_fault_is (option id) position h word name value dashes long = rw (dashes, long) refl
long_fault_is positional position h word name value dashes long = rw (dashes, long) refl

pub long_walk_is : (waiting : Waiting) (position : ℕ) (h : Held) (word name : Text) (value : Option Text) → bytes_eq word (45 ∷ 45 ∷ []) ≡ false
    → long_of word ≡ Some (name, value) → walked table [] (place false waiting position h) word ≡ long_walk waiting position h word (arg_by_long table name) value
unfolding walked
long_walk_is idle position h word name value dashes long = rw (dashes, long) refl
long_walk_is (option id) position h word name value dashes long = rw (dashes, long) refl
long_walk_is positional position h word name value dashes long = rw (dashes, long) refl

-- an option before which a value is missing is refused
pub long_refused : (h : Held) (found : Option Rule) (value : Option Text) → IsFault (settle_fault table false h) → IsFault (long_fault table false found value h)
long_refused h None value fault = tt
long_refused h (Some a) value fault = go (takes_values a) value
  where
    go : (b : Bool) (v : Option Text) → IsFault (cond b (option_fault table false a v h)
        (cond (is_some v) (TooManyValues ∷ []) (react_fault table false a [] h)))
    go true (Some v) = fault_first _ _ fault
    go true None = fault
    go false (Some v) = tt
    go false None = fault_first _ _ fault
