-- What the rows of the matches show of what is given.
use Rattle.std.proofs.Common.{◌≡◌, ◌∙◌, ◌&&◌, ◌||◌, ℕ, Bool, cond, codes, true, false, refl, sym, ap, subst, List, [], ◌∷◌, ◌++◌, append-nil, Option, Some, None, is_some, true≢false}
use Rattle.std.specs.Prelude.{⊤}
use Rattle.std.specs.List.{find}
use Rattle.std.specs.Option.{option_map}
use Rattle.std.specs.Str.{bytes_eq}
use Rattle.std.proofs.lemmas.Slice.Eq.{bytes_eq-Decides}
use Rattle.clap.specs.Faults.{use_fault}
use Rattle.clap.specs.Kinds.{Kinds, or_else}
use Rattle.clap.specs.Walk.{Row, Rule, Text, at_row, has_row, more_values, used, with_values, without}
use Rattle.clap.specs.declared.builder.value_parser.Reading.TheVariants.{AsWritten}
use Rattle.clap.specs.declared.error.kind.ErrorKind.TheVariants.{ArgumentConflict}
use Rattle.clap.specs.declared.parser.matches.ValueSource.TheVariants.{CommandLine}
use Rattle.remap_words.specs.Uses as one
use Rattle.remap_words.specs.Uses.{Use}
use Rattle.remap_words.specs.Words.{Settings, unless, with_use}
use Rattle.remap_words.proofs.Table.{built_flag, built_option, built_script}

-- the row of an argument that was given once
abbrev pub value_row : Text → Text → Row
value_row id value = record {
  id = id;
  values = value ∷ [];
  count = None;
  source = Some CommandLine;
  reading = AsWritten;
}

abbrev pub row_at : Text → List Row → Option Row
row_at id rows = find (λ r. bytes_eq r.id id) rows

abbrev pub flag_row : Text → Bool → Option Row
flag_row id given = cond given (Some (value_row id (codes "true"))) None

pub record Shows (rows : List Row) (g : Settings) : Type 0 where
  pub script : row_at (codes "script") rows ≡ option_map (value_row (codes "script")) g.script
  pub kind : row_at (codes "kind") rows ≡ option_map (value_row (codes "kind")) g.kind
  pub jobs : row_at (codes "jobs") rows ≡ option_map (value_row (codes "jobs")) g.jobs
  pub generate : row_at (codes "generate") rows ≡ option_map (value_row (codes "generate")) g.generate
  pub drop_on_error : row_at (codes "drop-on-error") rows ≡ flag_row (codes "drop-on-error") g.drop_on_error
  pub keep_on_abort : row_at (codes "keep-on-abort") rows ≡ flag_row (codes "keep-on-abort") g.keep_on_abort
  pub envelope : row_at (codes "envelope") rows ≡ flag_row (codes "envelope") g.envelope
  pub check : row_at (codes "check") rows ≡ flag_row (codes "check") g.check

-- ---- rows

has_row-row : (id : Text) (rows : List Row) → has_row id rows ≡ is_some (row_at id rows)
has_row-row id [] = refl
has_row-row id (r ∷ rs) = go (bytes_eq r.id id) (has_row-row id rs)
  where
    go : (b : Bool) → has_row id rs ≡ is_some (row_at id rs) → (b || has_row id rs) ≡ is_some (cond b (Some r) (row_at id rs))
    go true e = refl
    go false e = e

-- where an id has no row, its new row stands behind the others
pub at_row-new : (id : Text) (change : Row → List Row) (missing rows : List Row) → has_row id rows ≡ false → at_row id change missing rows ≡ rows ++ missing
at_row-new id change missing [] none = refl
at_row-new id change missing (r ∷ rs) none = go (bytes_eq r.id id) none (at_row-new id change missing rs)
  where
    go : (b : Bool) → (b || has_row id rs) ≡ false → (has_row id rs ≡ false → at_row id change missing rs ≡ rs ++ missing)
        → cond b (change r ++ rs) (r ∷ at_row id change missing rs) ≡ r ∷ (rs ++ missing)
    go true e next = absurd (true≢false e)
    go false e next = ap (λ xs. r ∷ xs) (next e)

row_new : (id value : Text) (rows : List Row) → has_row id rows ≡ false
    → with_values id AsWritten CommandLine (value ∷ []) (without id rows) ≡ rows ++ value_row id value ∷ []
row_new id value rows none =
    ap (with_values id AsWritten CommandLine (value ∷ [])) (at_row-new id (λ _. []) [] rows none ∙ append-nil rows)
    ∙ at_row-new id (more_values CommandLine (value ∷ [])) (value_row id value ∷ []) rows none

pub row_added : (id : Text) (r : Row) (rows : List Row) → bytes_eq r.id id ≡ true → has_row id rows ≡ false → row_at id (rows ++ r ∷ []) ≡ Some r
row_added id r [] same none = rw same refl
row_added id r (x ∷ xs) same none = go (bytes_eq x.id id) none (row_added id r xs same)
  where
    go : (b : Bool) → (b || has_row id xs) ≡ false → (has_row id xs ≡ false → row_at id (xs ++ r ∷ []) ≡ Some r)
        → cond b (Some x) (row_at id (xs ++ r ∷ [])) ≡ Some r
    go true e next = absurd (true≢false e)
    go false e next = next e

pub row_elsewhere : (id : Text) (r : Row) (rows : List Row) → bytes_eq r.id id ≡ false → row_at id (rows ++ r ∷ []) ≡ row_at id rows
row_elsewhere id r [] other = rw other refl
row_elsewhere id r (x ∷ xs) other = ap (λ o. cond (bytes_eq x.id id) (Some x) o) (row_elsewhere id r xs other)

value_there : (id : Text) (value : Option Text) → is_some (option_map (value_row id) value) ≡ is_some value
value_there id None = refl
value_there id (Some v) = refl

flag_there : (id : Text) (given : Bool) → is_some (flag_row id given) ≡ given
flag_there id true = refl
flag_there id false = refl

pub has_value : (id : Text) (rows : List Row) (value : Option Text) → row_at id rows ≡ option_map (value_row id) value → has_row id rows ≡ is_some value
has_value id rows value at = has_row-row id rows ∙ ap (λ o. is_some o) at ∙ value_there id value

pub has_flag : (id : Text) (rows : List Row) (given : Bool) → row_at id rows ≡ flag_row id given → has_row id rows ≡ given
has_flag id rows given at = has_row-row id rows ∙ ap (λ o. is_some o) at ∙ flag_there id given

-- ---- one use

abbrev pub Made : Kinds → List Row → Option Settings → Type 0
Made [] rows None = ⊥
Made [] rows (Some g) = Shows rows g
Made (k ∷ ks) rows m = m ≡ None

abbrev pub At : ℕ → Option Settings → Type 0
At position None = ⊤
At position (Some g) = position ≡ cond (is_some g.script) 2 1

-- a use of the argument with these values is this use
pub record IsUse (a : Rule) (values : List Text) (u : Use) : Type 0 where
  pub made : (rows : List Row) (g : Settings) → Shows rows g → Made (use_fault false a values rows) (used a values rows) (with_use u g)
  pub place : (position : ℕ) (g : Settings) → At position (Some g) → At position (with_use u g)

abbrev faults : Bool → Kinds
faults b = cond b (ArgumentConflict ∷ []) []

value_faults : (name value : Text) (rows : List Row) → use_fault false (built_option name) (value ∷ []) rows ≡ faults (has_row name rows)
value_faults name value rows = go (has_row name rows)
  where
    go : (b : Bool) → or_else (cond (b && true) (ArgumentConflict ∷ []) []) [] ≡ faults b
    go true = refl
    go false = refl

flag_faults : (name : Text) (rows : List Row) → use_fault false (built_flag name) [] rows ≡ faults (has_row name rows)
flag_faults name rows = go (has_row name rows)
  where
    go : (b : Bool) → or_else (cond (b && true) (ArgumentConflict ∷ []) []) [] ≡ faults b
    go true = refl
    go false = refl

script_faults : (value : Text) (rows : List Row) → use_fault false built_script (value ∷ []) rows ≡ faults (has_row (codes "script") rows)
script_faults value rows = go (has_row (codes "script") rows)
  where
    go : (b : Bool) → or_else (cond (b && true) (ArgumentConflict ∷ []) []) [] ≡ faults b
    go true = refl
    go false = refl

-- what is given a second time is refused by both
made_once : (id value : Text) (rows : List Row) (kinds : Kinds) (after : List Row) (twice : Bool) (g : Settings) → kinds ≡ faults (has_row id rows)
    → after ≡ with_values id AsWritten CommandLine (value ∷ []) (without id rows) → has_row id rows ≡ twice
    → (has_row id rows ≡ false → Shows (rows ++ value_row id value ∷ []) g) → Made kinds after (unless twice g)
made_once id value rows kinds after twice g kinds_are after_is has shows =
    subst (λ ks. Made ks after (unless twice g)) (sym (kinds_are ∙ ap faults has)) (go twice has)
  where
    go : (b : Bool) → has_row id rows ≡ b → Made (faults b) after (unless b g)
    go true e = refl
    go false e = subst (λ rs. Shows rs g) (sym (after_is ∙ row_new id value rows e)) (shows e)

at_unless : (position : ℕ) (twice : Bool) (g : Settings) → At position (Some g) → At position (unless twice g)
at_unless position true g at = tt
at_unless position false g at = at

-- ---- what a use changes

-- the rows that settings stand for, each behind its name
abbrev entries : Settings → List (Text × Option Row)
entries g =
    (codes "script", option_map (value_row (codes "script")) g.script)
    ∷ (codes "kind", option_map (value_row (codes "kind")) g.kind)
    ∷ (codes "jobs", option_map (value_row (codes "jobs")) g.jobs)
    ∷ (codes "generate", option_map (value_row (codes "generate")) g.generate)
    ∷ (codes "drop-on-error", flag_row (codes "drop-on-error") g.drop_on_error)
    ∷ (codes "keep-on-abort", flag_row (codes "keep-on-abort") g.keep_on_abort)
    ∷ (codes "envelope", flag_row (codes "envelope") g.envelope)
    ∷ (codes "check", flag_row (codes "check") g.check)
    ∷ []

abbrev AreShown : List Row → List (Text × Option Row) → Type 0
AreShown rows [] = ⊤
AreShown rows (e ∷ es) = (row_at e.0 rows ≡ e.1) × AreShown rows es

abbrev with_row : Row → List (Text × Option Row) → List (Text × Option Row)
with_row r [] = []
with_row r (e ∷ es) = (e.0, cond (bytes_eq r.id e.0) (Some r) e.1) ∷ with_row r es

all_shown : (r : Row) (rows : List Row) (es : List (Text × Option Row)) → has_row r.id rows ≡ false → AreShown rows es → AreShown (rows ++ r ∷ []) (with_row r es)
all_shown r rows [] none shown = tt
all_shown r rows (e ∷ es) none shown = (go (bytes_eq r.id e.0) refl, all_shown r rows es none shown.1)
  where
    go : (b : Bool) → bytes_eq r.id e.0 ≡ b → row_at e.0 (rows ++ r ∷ []) ≡ cond b (Some r) e.1
    go true same = row_added e.0 r rows same (subst (λ id. has_row id rows ≡ false) ((bytes_eq-Decides r.id e.0).0 same) none)
    go false other = row_elsewhere e.0 r rows other ∙ shown.0

listed : (rows : List Row) (g : Settings) → Shows rows g → AreShown rows (entries g)
listed rows g s = (s.script, (s.kind, (s.jobs, (s.generate, (s.drop_on_error, (s.keep_on_abort, (s.envelope, (s.check, tt))))))))

shown_by : (rows : List Row) (g : Settings) → AreShown rows (entries g) → Shows rows g
shown_by rows g (script, (kind, (jobs, (generate, (drop_on_error, (keep_on_abort, (envelope, (check, all)))))))) = record {
  script = script;
  kind = kind;
  jobs = jobs;
  generate = generate;
  drop_on_error = drop_on_error;
  keep_on_abort = keep_on_abort;
  envelope = envelope;
  check = check;
}

-- settings that have one more row are shown with it
shown_with : (r : Row) (rows : List Row) (g h : Settings) → with_row r (entries g) ≡ entries h → Shows rows g → has_row r.id rows ≡ false → Shows (rows ++ r ∷ []) h
shown_with r rows g h is s none = shown_by (rows ++ r ∷ []) h (subst (λ es. AreShown (rows ++ r ∷ []) es) is (all_shown r rows (entries g) none (listed rows g s)))

pub script_made : (value : Text) (rows : List Row) (g : Settings) → Shows rows g
    → Made (use_fault false built_script (value ∷ []) rows) (used built_script (value ∷ []) rows) (with_use (one.script value) g)
script_made value rows g s = made_once (codes "script") value rows _ _ (is_some g.script) (record g { script = Some value })
    (script_faults value rows) refl (has_value (codes "script") rows g.script s.script) (shown_with (value_row (codes "script") value) rows g _ refl s)

pub kind_use : (value : Text) → IsUse (built_option (codes "kind")) (value ∷ []) (one.kind value)
kind_use value = record {
  made = λ rows g s. made_once (codes "kind") value rows _ _ (is_some g.kind) (record g { kind = Some value })
      (value_faults (codes "kind") value rows) refl (has_value (codes "kind") rows g.kind s.kind) (shown_with (value_row (codes "kind") value) rows g _ refl s);
  place = λ position g at. at_unless position (is_some g.kind) (record g { kind = Some value }) at;
}

pub jobs_use : (value : Text) → IsUse (built_option (codes "jobs")) (value ∷ []) (one.jobs value)
jobs_use value = record {
  made = λ rows g s. made_once (codes "jobs") value rows _ _ (is_some g.jobs) (record g { jobs = Some value })
      (value_faults (codes "jobs") value rows) refl (has_value (codes "jobs") rows g.jobs s.jobs) (shown_with (value_row (codes "jobs") value) rows g _ refl s);
  place = λ position g at. at_unless position (is_some g.jobs) (record g { jobs = Some value }) at;
}

pub generate_use : (value : Text) → IsUse (built_option (codes "generate")) (value ∷ []) (one.generate value)
generate_use value = record {
  made = λ rows g s. made_once (codes "generate") value rows _ _ (is_some g.generate) (record g { generate = Some value })
      (value_faults (codes "generate") value rows) refl (has_value (codes "generate") rows g.generate s.generate) (shown_with (value_row (codes "generate") value) rows g _ refl s);
  place = λ position g at. at_unless position (is_some g.generate) (record g { generate = Some value }) at;
}

pub drop_on_error_use : IsUse (built_flag (codes "drop-on-error")) [] one.drop_on_error
drop_on_error_use = record {
  made = λ rows g s. made_once (codes "drop-on-error") (codes "true") rows _ _ (g.drop_on_error) (record g { drop_on_error = true })
      (flag_faults (codes "drop-on-error") rows) refl (has_flag (codes "drop-on-error") rows g.drop_on_error s.drop_on_error) (shown_with (value_row (codes "drop-on-error") (codes "true")) rows g _ refl s);
  place = λ position g at. at_unless position (g.drop_on_error) (record g { drop_on_error = true }) at;
}

pub keep_on_abort_use : IsUse (built_flag (codes "keep-on-abort")) [] one.keep_on_abort
keep_on_abort_use = record {
  made = λ rows g s. made_once (codes "keep-on-abort") (codes "true") rows _ _ (g.keep_on_abort) (record g { keep_on_abort = true })
      (flag_faults (codes "keep-on-abort") rows) refl (has_flag (codes "keep-on-abort") rows g.keep_on_abort s.keep_on_abort) (shown_with (value_row (codes "keep-on-abort") (codes "true")) rows g _ refl s);
  place = λ position g at. at_unless position (g.keep_on_abort) (record g { keep_on_abort = true }) at;
}

pub envelope_use : IsUse (built_flag (codes "envelope")) [] one.envelope
envelope_use = record {
  made = λ rows g s. made_once (codes "envelope") (codes "true") rows _ _ (g.envelope) (record g { envelope = true })
      (flag_faults (codes "envelope") rows) refl (has_flag (codes "envelope") rows g.envelope s.envelope) (shown_with (value_row (codes "envelope") (codes "true")) rows g _ refl s);
  place = λ position g at. at_unless position (g.envelope) (record g { envelope = true }) at;
}

pub check_use : IsUse (built_flag (codes "check")) [] one.check
check_use = record {
  made = λ rows g s. made_once (codes "check") (codes "true") rows _ _ (g.check) (record g { check = true })
      (flag_faults (codes "check") rows) refl (has_flag (codes "check") rows g.check s.check) (shown_with (value_row (codes "check") (codes "true")) rows g _ refl s);
  place = λ position g at. at_unless position (g.check) (record g { check = true }) at;
}
