-- The forms of spellings, each as a front that may have another rest.
use Rattle.std.proofs.Common.{◌≡◌, ◌≢◌, ℕ, ◌<◌, ◌==◌, ◌||◌, not, Bool, true, false, List, [], ◌∷◌, ◌++◌, inl, inr, refl, sym, ap, ◌∙◌, subst, append_assoc, arith}
use Rattle.vrl_token.specs.Lexical.{BeginsInside, BeginsOutside, IsBlank, IsFieldPart, IsLongestRun, IsName, IsNamePart, IsNameStart, IsDigit}
use Rattle.vrl_token.specs.Characters.{Character, IsQuoted, spelling_of}
use Rattle.vrl_token.specs.Numbers.{IsBehindSign, IsDigits, IsNumeral}
use Rattle.vrl_token.specs.Paths.{Ends, RootSegments, Segment, Segments, dotted, field, index, minus_text, quoted, undotted}
use Rattle.vrl_token.specs.Words.{BeginsRaw, BeginsWith, IsFreeName, IsNameRun, IsNonempty, IsRaw, IsTextSpelling}
use Rattle.vrl_token.specs.Respelling.{Stops}
use Rattle.vrl_token.proofs.Beginnings.{one_letter}
use Rattle.vrl_token.proofs.Stopping.{no_digits, no_segment, no_undotted, none_inside, outside, stop_apart, stop_no_field, stop_no_part}

-- neither a blank nor a newline
abbrev pub IsVisible : ℕ → Type 0
IsVisible b = (¬ IsBlank b) × (b ≢ 10)

pub visible : (b : ℕ) → 32 < b → IsVisible b
visible b large = (λ h. grind (arith, h, large), λ e. omega (arith, e, large))

-- nor `=` or `|`, with which a sign may go on
abbrev pub IsLone : ℕ → Type 0
IsLone b = IsVisible b × ((b ≢ 61) × (b ≢ 124))

abbrev is_lone : ℕ → Bool
is_lone b = not (b == 32 || (b == 9 || (b == 13 || (b == 10 || (b == 61 || b == 124)))))

other_byte : (b mark : ℕ) → is_lone b ≡ true → is_lone mark ≡ false → b ≢ mark
other_byte b mark passes fails e = let wrong : true ≡ false = sym passes ∙ ap is_lone e ∙ fails in cc

pub lone : (b : ℕ) → is_lone b ≡ true → IsLone b
lone b passes = (
  (λ h. elim h [ inl e ↦ other_byte b 32 passes refl e | inr (inl e) ↦ other_byte b 9 passes refl e | inr (inr e) ↦ other_byte b 13 passes refl e ], other_byte b 10 passes refl),
  (other_byte b 61 passes refl, other_byte b 124 passes refl),
)

-- ---- quotes

-- characters and the quote behind them
abbrev pub closed : ℕ → List Character → List ℕ
closed quote cs = spelling_of cs ++ quote ∷ []

closed_parts : (quote : ℕ) (cs : List Character) (rest : List ℕ) → spelling_of cs ++ quote ∷ rest ≡ closed quote cs ++ rest
closed_parts quote cs rest = sym (append_assoc (spelling_of cs) (quote ∷ []) rest)

quoted_again : {quote : ℕ} {text rest : List ℕ} {cs : List Character} (other : List ℕ) → IsQuoted quote text cs rest → IsQuoted quote (closed quote cs ++ other) cs other
quoted_again {quote} {text} {rest} {cs} other is = record { parts = sym (closed_parts quote cs other); inside = is.inside }

pub text_parts : {text rest : List ℕ} (cs : List Character) → IsTextSpelling text cs rest → text ≡ (34 ∷ closed 34 cs) ++ rest
text_parts {text} {rest} cs is = is.parts ∙ ap (λ t. 34 ∷ t) (is.is_quoted.parts ∙ closed_parts 34 cs rest)

pub text_again : {text rest : List ℕ} (cs : List Character) (other : List ℕ) → IsTextSpelling text cs rest → IsTextSpelling ((34 ∷ closed 34 cs) ++ other) cs other
text_again cs other is = record { behind = closed 34 cs ++ other; parts = refl; is_quoted = quoted_again other is.is_quoted }

pub raw_parts : {text rest : List ℕ} (letter : ℕ) (cs : List Character) → IsRaw letter text cs rest → text ≡ (letter ∷ 39 ∷ closed 39 cs) ++ rest
raw_parts {text} {rest} letter cs is = is.parts ∙ ap (λ t. letter ∷ 39 ∷ t) (is.is_quoted.parts ∙ closed_parts 39 cs rest)

pub raw_again : {text rest : List ℕ} (letter : ℕ) (cs : List Character) (other : List ℕ) → IsRaw letter text cs rest → IsRaw letter ((letter ∷ 39 ∷ closed 39 cs) ++ other) cs other
raw_again letter cs other is = record { behind = closed 39 cs ++ other; parts = refl; is_quoted = quoted_again other is.is_quoted }

-- ---- numbers

-- digits, behind a minus or none
abbrev pub numeral : Bool → List ℕ → List ℕ
numeral negative digits = minus_text negative ++ digits

unsigned_parts : (negative : Bool) (text unsigned digits rest : List ℕ) → IsBehindSign negative text unsigned → unsigned ≡ digits ++ rest → text ≡ numeral negative digits ++ rest
unsigned_parts true text unsigned digits rest sign parts = sign ∙ ap (λ t. 45 ∷ t) parts
unsigned_parts false text unsigned digits rest sign parts = sign ∙ parts

pub numeral_parts : {negative : Bool} {text digits rest : List ℕ} → IsNumeral negative text digits rest → text ≡ numeral negative digits ++ rest
numeral_parts {negative} {text} {digits} {rest} is = unsigned_parts negative text is.unsigned digits rest is.sign is.parts

behind_minus : (negative : Bool) (digits other : List ℕ) → IsBehindSign negative (numeral negative digits ++ other) (digits ++ other)
behind_minus true digits other = refl
behind_minus false digits other = refl

pub numeral_again : {negative : Bool} {text digits rest : List ℕ} (other : List ℕ) → IsNumeral negative text digits rest → Stops other → IsNumeral negative (numeral negative digits ++ other) digits other
numeral_again {negative} {text} {digits} {rest} other is stops =
    record { unsigned = digits ++ other; sign = behind_minus negative digits other; parts = refl; is_digits = is.is_digits; ends = no_digits other stops }

digit_is_lone : (d : ℕ) → IsDigit d → IsLone d
digit_is_lone d is = (visible d (omega (arith, is.0)), (λ e. omega (arith, e, is.1), λ e. omega (arith, e, is.1)))

pub numeral_is_lone : (negative : Bool) (digits : List ℕ) → IsDigits digits → BeginsInside IsLone (numeral negative digits)
numeral_is_lone true digits is = lone 45 refl
numeral_is_lone false [] is = absurd is
numeral_is_lone false (d ∷ []) is = digit_is_lone d is
numeral_is_lone false (d ∷ e ∷ ds) is = digit_is_lone d is.0

-- ---- names

name_start_is_lone : (b : ℕ) → IsNameStart b → IsLone b
name_start_is_lone b is = (visible b (grind (arith, is)), (λ e. grind (arith, is, e), λ e. grind (arith, is, e)))

pub name_is_lone : (name : List ℕ) → IsName name → BeginsInside IsLone name
name_is_lone [] is = absurd is
name_is_lone (b ∷ bs) is = name_start_is_lone b is.0

run_again : {text name rest : List ℕ} (other : List ℕ) → IsLongestRun IsNamePart text name rest → BeginsOutside IsNamePart other → IsLongestRun IsNamePart (name ++ other) name other
run_again other run ends = record { parts = refl; passes = run.passes; ends = ends }

pub name_again : {text name rest : List ℕ} (other : List ℕ) → IsNameRun text name rest → Stops other → IsNameRun (name ++ other) name other
name_again other is stops = record { is_name = is.is_name; run = run_again other is.run (outside IsNamePart other stop_no_part stops) }

pub free_again : {text name rest : List ℕ} (other : List ℕ) → IsFreeName text name rest → BeginsOutside IsNamePart other → IsFreeName (name ++ other) name other
free_again other is ends = record { is_name = is.is_name; run = run_again other is.run ends; free = is.free }

pub free_stops : {text name rest : List ℕ} (other : List ℕ) → IsFreeName text name rest → Stops other → IsFreeName (name ++ other) name other
free_stops other is stops = free_again other is (outside IsNamePart other stop_no_part stops)

-- no quote follows the name
pub no_raw : {text name rest : List ℕ} (other : List ℕ) → IsFreeName text name rest → Stops other → ¬ BeginsRaw (name ++ other)
no_raw {text} {name} {rest} other is stops raw =
    let again = free_stops other is stops in
    none_inside (λ b. b ≡ 39) other (stop_apart 39 refl) stops (one_letter name (name ++ other) other is.is_name again.run raw).1

pub call_ends : (other : List ℕ) → BeginsWith 40 other → BeginsOutside IsNamePart other
call_ends [] opens = tt
call_ends (b ∷ bs) opens = λ part. grind (arith, opens, part)

-- ---- paths

-- segments with their dots, and what follows them
abbrev pub path : List Segment → List ℕ → List ℕ
path [] rest = rest
path (s ∷ ss) rest = dotted s (path ss rest)

undotted_front : (s : Segment) (rest : List ℕ) → undotted s rest ≡ undotted s [] ++ rest
undotted_front (field name) rest = sym (append_assoc name [] rest)
undotted_front (quoted cs) rest = ap (λ t. 34 ∷ t) (closed_parts 34 cs rest)
undotted_front (index n ds) rest = ap (λ t. 91 ∷ t) (ap (λ t. minus_text n ++ t) (sym (append_assoc ds (93 ∷ []) rest)) ∙ sym (append_assoc (minus_text n) (ds ++ 93 ∷ []) rest))

dotted_front : (s : Segment) (rest : List ℕ) → dotted s rest ≡ dotted s [] ++ rest
dotted_front (field name) rest = ap (λ t. 46 ∷ t) (undotted_front (field name) rest)
dotted_front (quoted cs) rest = ap (λ t. 46 ∷ t) (undotted_front (quoted cs) rest)
dotted_front (index n ds) rest = undotted_front (index n ds) rest

-- a front and what stands behind it, where each is a front of what follows it
joined_front : (f : List ℕ → List ℕ) (middle rest : List ℕ) → ((t : List ℕ) → f t ≡ f [] ++ t) → f (middle ++ rest) ≡ f middle ++ rest
joined_front f middle rest front = front (middle ++ rest) ∙ sym (append_assoc (f []) middle rest) ∙ ap (λ t. t ++ rest) (sym (front middle))

pub path_front : (ss : List Segment) (rest : List ℕ) → path ss rest ≡ path ss [] ++ rest
path_front [] rest = refl
path_front (s ∷ ss) rest = ap (dotted s) (path_front ss rest) ∙ joined_front (dotted s) (path ss []) rest (dotted_front s)

path_of : (ss : List Segment) (text rest : List ℕ) → Segments text ss rest → text ≡ path ss rest
path_of [] text rest walk = walk.0
path_of (s ∷ ss) text rest walk = walk.1.parts ∙ ap (dotted s) (path_of ss walk.0 rest walk.2)

pub path_parts : (ss : List Segment) (text rest : List ℕ) → Segments text ss rest → text ≡ path ss [] ++ rest
path_parts ss text rest walk = path_of ss text rest walk ∙ path_front ss rest

-- where a path ends at a stop, or goes on, no field goes on
field_ends : (ss : List Segment) (other : List ℕ) → Stops other → BeginsOutside IsFieldPart (path ss other)
field_ends [] other stops = outside IsFieldPart other stop_no_field stops
field_ends (field name ∷ ss) other stops = λ part. grind (arith, part)
field_ends (quoted cs ∷ ss) other stops = λ part. grind (arith, part)
field_ends (index n ds ∷ ss) other stops = λ part. grind (arith, part)

segment_ends : (s : Segment) (next : List ℕ) → BeginsOutside IsFieldPart next → Ends s next
segment_ends (field name) next ends = ends
segment_ends (quoted cs) next ends = tt
segment_ends (index n ds) next ends = tt

path_again : (ss : List Segment) (text rest other : List ℕ) → Segments text ss rest → Stops other → Segments (path ss other) ss other
path_again [] text rest other walk stops = (refl, no_segment other stops)
path_again (s ∷ ss) text rest other walk stops =
    (path ss other, record { parts = refl; is_segment = walk.1.is_segment; ends = segment_ends s (path ss other) (field_ends ss other stops) }, path_again ss walk.0 rest other walk.2 stops)

pub segments_again : (ss : List Segment) (text rest other : List ℕ) → Segments text ss rest → Stops other → Segments (path ss [] ++ other) ss other
segments_again ss text rest other walk stops = subst (λ t. Segments t ss other) (path_front ss other) (path_again ss text rest other walk stops)

pub path_is_lone : (ss : List Segment) → IsNonempty ss → BeginsInside IsLone (path ss [])
path_is_lone [] some = absurd some
path_is_lone (field name ∷ ss) some = lone 46 refl
path_is_lone (quoted cs ∷ ss) some = lone 46 refl
path_is_lone (index n ds ∷ ss) some = lone 91 refl

-- a name is no longer before a path
pub path_ends_name : (ss : List Segment) (other : List ℕ) → IsNonempty ss → BeginsOutside IsNamePart (path ss [] ++ other)
path_ends_name [] other some = absurd some
path_ends_name (field name ∷ ss) other some = λ part. grind (arith, part)
path_ends_name (quoted cs ∷ ss) other some = λ part. grind (arith, part)
path_ends_name (index n ds ∷ ss) other some = λ part. grind (arith, part)

-- ---- paths from a root

-- segments of which the first has no dot of its own, and what follows them
abbrev pub root : List Segment → List ℕ → List ℕ
root [] rest = rest
root (s ∷ ss) rest = undotted s (path ss rest)

root_front : (ss : List Segment) (rest : List ℕ) → root ss rest ≡ root ss [] ++ rest
root_front [] rest = refl
root_front (s ∷ ss) rest = ap (undotted s) (path_front ss rest) ∙ joined_front (undotted s) (path ss []) rest (undotted_front s)

root_of : (sign : ℕ) (ss : List Segment) (text rest : List ℕ) → RootSegments sign text ss rest → text ≡ sign ∷ root ss rest
root_of sign [] text rest walk = walk.0
root_of sign (s ∷ ss) text rest walk = walk.2 ∙ ap (λ t. sign ∷ t) (walk.3.parts ∙ ap (undotted s) (path_of ss walk.1 rest walk.4))

pub root_parts : (sign : ℕ) (ss : List Segment) (text rest : List ℕ) → RootSegments sign text ss rest → text ≡ (sign ∷ root ss []) ++ rest
root_parts sign ss text rest walk = root_of sign ss text rest walk ∙ ap (λ t. sign ∷ t) (root_front ss rest)

root_walk : (sign : ℕ) (ss : List Segment) (text rest other : List ℕ) → RootSegments sign text ss rest → Stops other → RootSegments sign (sign ∷ root ss other) ss other
root_walk sign [] text rest other walk stops = (refl, no_undotted other stops)
root_walk sign (s ∷ ss) text rest other walk stops =
    (undotted s (path ss other), path ss other, refl, record { parts = refl; is_segment = walk.3.is_segment; ends = segment_ends s (path ss other) (field_ends ss other stops) }, path_again ss walk.1 rest other walk.4 stops)

pub root_again : (sign : ℕ) (ss : List Segment) (text rest other : List ℕ) → RootSegments sign text ss rest → Stops other → RootSegments sign ((sign ∷ root ss []) ++ other) ss other
root_again sign ss text rest other walk stops = subst (λ t. RootSegments sign (sign ∷ t) ss other) (root_front ss other) (root_walk sign ss text rest other walk stops)
