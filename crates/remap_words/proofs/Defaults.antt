-- What the end of the words adds to the rows, and what it asks of them.
use Rattle.std.proofs.Common.{◌≡◌, ◌∙◌, ◌||◌, Bool, cond, codes, true, false, not, refl, sym, ap, subst, List, [], ◌∷◌, ◌++◌, Option, Some, None, is_some}
use Rattle.std.specs.Prelude.{⊤, option_and_then, slice_get}
use Rattle.std.specs.Option.{option_map, option_map_or}
use Rattle.std.specs.Str.{bytes_eq}
use Rattle.clap.specs.Facts.{explicit_source}
use Rattle.clap.specs.Faults.{check_fault, default_fault, defaults_fault, given_default_fault, settle_fault}
use Rattle.clap.specs.Kinds.{Kinds, check_kinds, or_else}
use Rattle.clap.specs.Takes.{is_given}
use Rattle.clap.specs.Walk.{Held, Row, Rule, Text, default_rows, finished, first_of, has_row, more_values, one_of, row_text, settled, with_default}
use Rattle.clap.specs.declared.builder.value_parser.Reading.TheVariants.{AsWritten}
use Rattle.clap.specs.declared.error.kind.ErrorKind.TheVariants.{MissingRequiredArgument}
use Rattle.clap.specs.declared.parser.matches.ValueSource.TheVariants.{DefaultValue}
use Rattle.remap_words.specs.Command.{flag_text}
use Rattle.remap_words.specs.Words.{Settings}
use Rattle.remap_words.proofs.Table.{built_flag, built_option, built_script, shape, table}
use Rattle.remap_words.proofs.Rows.{Shows, at_row-new, flag_row, has_flag, row_added, row_at, row_elsewhere, value_row}
use Rattle.remap_words.proofs.Held.{IsFault, Stands, fault_first}

-- ---- the rows

abbrev default_row : Text → Row
default_row name = record {
  id = name;
  values = codes "false" ∷ [];
  count = None;
  source = Some DefaultValue;
  reading = AsWritten;
}

abbrev with_flag : Text → List Row → List Row
with_flag name rows = cond (has_row name rows) rows (rows ++ default_row name ∷ [])

option_default : (name : Text) (rows : List Row) → with_default rows (built_option name) ≡ rows
option_default name rows = go (has_row name rows)
  where
    go : (b : Bool) → cond b rows rows ≡ rows
    go true = refl
    go false = refl

script_default : (rows : List Row) → with_default rows built_script ≡ rows
script_default rows = go (has_row (codes "script") rows)
  where
    go : (b : Bool) → cond b rows rows ≡ rows
    go true = refl
    go false = refl

flag_default : (name : Text) (rows : List Row) → with_default rows (built_flag name) ≡ with_flag name rows
flag_default name rows = go (has_row name rows) refl
  where
    go : (b : Bool) → has_row name rows ≡ b
        → cond b rows (default_rows name AsWritten (codes "false" ∷ []) rows) ≡ cond b rows (rows ++ default_row name ∷ [])
    go true e = refl
    go false e = at_row-new name (more_values DefaultValue (codes "false" ∷ [])) (default_row name ∷ []) rows e

abbrev flags_done : List Row → List Row
flags_done rows = with_default (with_default (with_default (with_default rows (built_flag (codes "drop-on-error"))) (built_flag (codes "keep-on-abort"))) (built_flag (codes "envelope")))
    (built_flag (codes "check"))

abbrev with_flags : List Row → List Row
with_flags rows = with_flag (codes "check") (with_flag (codes "envelope") (with_flag (codes "keep-on-abort") (with_flag (codes "drop-on-error") rows)))

flags_are : (rows : List Row) → flags_done rows ≡ with_flags rows
flags_are rows =
    let dropped = with_flag (codes "drop-on-error") rows in
    let kept = with_flag (codes "keep-on-abort") dropped in
    ap (λ rs. with_default (with_default (with_default rs (built_flag (codes "keep-on-abort"))) (built_flag (codes "envelope"))) (built_flag (codes "check"))) (flag_default (codes "drop-on-error") rows)
    ∙ ap (λ rs. with_default (with_default rs (built_flag (codes "envelope"))) (built_flag (codes "check"))) (flag_default (codes "keep-on-abort") dropped)
    ∙ ap (λ rs. with_default rs (built_flag (codes "check"))) (flag_default (codes "envelope") kept)
    ∙ flag_default (codes "check") (with_flag (codes "envelope") kept)

pub finished_is : (h : Held) → finished table h ≡ with_flags (settled table h).rows
unfolding table
finished_is h =
    let rows = (settled table h).rows in
    ap (λ rs. flags_done (with_default (with_default (with_default rs (built_option (codes "kind"))) (built_option (codes "jobs"))) (built_option (codes "generate"))))
    (script_default rows)
    ∙ ap (λ rs. flags_done (with_default (with_default rs (built_option (codes "jobs"))) (built_option (codes "generate")))) (option_default (codes "kind") rows)
    ∙ ap (λ rs. flags_done (with_default rs (built_option (codes "generate")))) (option_default (codes "jobs") rows)
    ∙ ap flags_done (option_default (codes "generate") rows) ∙ flags_are rows

elsewhere : (id name : Text) (rows : List Row) → bytes_eq name id ≡ false → row_at id (with_flag name rows) ≡ row_at id rows
elsewhere id name rows other = go (has_row name rows)
  where
    go : (b : Bool) → row_at id (cond b rows (rows ++ default_row name ∷ [])) ≡ row_at id rows
    go true = refl
    go false = row_elsewhere id (default_row name) rows other

abbrev shown_row : Text → Bool → Row
shown_row name given = cond given (value_row name (codes "true")) (default_row name)

here : (name : Text) (rows : List Row) (given : Bool) → bytes_eq name name ≡ true → row_at name rows ≡ flag_row name given
    → row_at name (with_flag name rows) ≡ Some (shown_row name given)
here name rows given same at = go given at (has_flag name rows given at)
  where
    go : (b : Bool) → row_at name rows ≡ flag_row name b → has_row name rows ≡ b → row_at name (with_flag name rows) ≡ Some (shown_row name b)
    go true found has = rw has found
    go false found has = rw has (row_added name (default_row name) rows same has)

-- ---- what the getters read

value_read : (id : Text) (rows : List Row) (value : Option Text) → row_at id rows ≡ option_map (value_row id) value → first_of id rows ≡ value
value_read id rows value at = ap (option_and_then (λ (r : Row). slice_get r.values 0)) at ∙ go value
  where
    go : (o : Option Text) → option_and_then (λ (r : Row). slice_get r.values 0) (option_map (value_row id) o) ≡ o
    go None = refl
    go (Some v) = refl

flag_read : (id : Text) (rows : List Row) (given : Bool) → row_at id rows ≡ Some (shown_row id given) → one_of id rows ≡ Some (flag_text given)
flag_read id rows given at = ap (option_and_then row_text) at ∙ go given
  where
    go : (b : Bool) → row_text (shown_row id b) ≡ Some (flag_text b)
    go true = refl
    go false = refl

-- the rows at the end, as the getters read them
pub record AreRead (rows : List Row) (g : Settings) : Type 0 where
  pub script : first_of (codes "script") rows ≡ g.script
  pub kind : first_of (codes "kind") rows ≡ g.kind
  pub jobs : first_of (codes "jobs") rows ≡ g.jobs
  pub generate : first_of (codes "generate") rows ≡ g.generate
  pub drop_on_error : one_of (codes "drop-on-error") rows ≡ Some (flag_text g.drop_on_error)
  pub keep_on_abort : one_of (codes "keep-on-abort") rows ≡ Some (flag_text g.keep_on_abort)
  pub envelope : one_of (codes "envelope") rows ≡ Some (flag_text g.envelope)
  pub check : one_of (codes "check") rows ≡ Some (flag_text g.check)

-- the flags' defaults change no other row
behind : (id : Text) (rows : List Row) → bytes_eq (codes "drop-on-error") id ≡ false → bytes_eq (codes "keep-on-abort") id ≡ false → bytes_eq (codes "envelope") id ≡ false
    → bytes_eq (codes "check") id ≡ false → row_at id (with_flags rows) ≡ row_at id rows
behind id rows drops keeps encloses checks =
    let dropped = with_flag (codes "drop-on-error") rows in
    let kept = with_flag (codes "keep-on-abort") dropped in
    elsewhere id (codes "check") (with_flag (codes "envelope") kept) checks ∙ elsewhere id (codes "envelope") kept encloses
    ∙ elsewhere id (codes "keep-on-abort") dropped keeps ∙ elsewhere id (codes "drop-on-error") rows drops

pub flags_read : (rows : List Row) (g : Settings) → Shows rows g → AreRead (with_flags rows) g
flags_read rows g s =
    let dropped = with_flag (codes "drop-on-error") rows in
    let kept = with_flag (codes "keep-on-abort") dropped in
    let enclosing = with_flag (codes "envelope") kept in
    record {
      script = value_read (codes "script") (with_flags rows) g.script (behind (codes "script") rows refl refl refl refl ∙ s.script);
      kind = value_read (codes "kind") (with_flags rows) g.kind (behind (codes "kind") rows refl refl refl refl ∙ s.kind);
      jobs = value_read (codes "jobs") (with_flags rows) g.jobs (behind (codes "jobs") rows refl refl refl refl ∙ s.jobs);
      generate = value_read (codes "generate") (with_flags rows) g.generate (behind (codes "generate") rows refl refl refl refl ∙ s.generate);
      drop_on_error = flag_read (codes "drop-on-error") (with_flags rows) g.drop_on_error
          (elsewhere (codes "drop-on-error") (codes "check") enclosing refl ∙ elsewhere (codes "drop-on-error") (codes "envelope") kept refl
          ∙ elsewhere (codes "drop-on-error") (codes "keep-on-abort") dropped refl ∙ here (codes "drop-on-error") rows g.drop_on_error refl s.drop_on_error);
      keep_on_abort = flag_read (codes "keep-on-abort") (with_flags rows) g.keep_on_abort
          (elsewhere (codes "keep-on-abort") (codes "check") enclosing refl ∙ elsewhere (codes "keep-on-abort") (codes "envelope") kept refl
          ∙ here (codes "keep-on-abort") dropped g.keep_on_abort refl (elsewhere (codes "keep-on-abort") (codes "drop-on-error") rows refl ∙ s.keep_on_abort));
      envelope = flag_read (codes "envelope") (with_flags rows) g.envelope
          (elsewhere (codes "envelope") (codes "check") enclosing refl
          ∙ here (codes "envelope") kept g.envelope refl (elsewhere (codes "envelope") (codes "keep-on-abort") dropped refl
          ∙ elsewhere (codes "envelope") (codes "drop-on-error") rows refl ∙ s.envelope));
      check = flag_read (codes "check") (with_flags rows) g.check (here (codes "check") enclosing g.check refl
          (elsewhere (codes "check") (codes "envelope") kept refl ∙ elsewhere (codes "check") (codes "keep-on-abort") dropped refl
          ∙ elsewhere (codes "check") (codes "drop-on-error") rows refl ∙ s.check));
    }

-- ---- the faults of the end

abbrev NoDefaultFails : List Rule → Type 0
NoDefaultFails [] = ⊤
NoDefaultFails (a ∷ rest) = ((rows : List Row) → default_fault rows a ≡ []) × NoDefaultFails rest

none_fails : (rules : List Rule) → NoDefaultFails rules → (rows : List Row) → defaults_fault rows rules ≡ []
unfolding defaults_fault
none_fails [] none rows = refl
none_fails (a ∷ rest) none rows = ap (λ ks. or_else ks (defaults_fault (with_default rows a) rest)) (none.0 rows) ∙ none_fails rest none.1 (with_default rows a)

script_passes : (rows : List Row) → default_fault rows built_script ≡ []
script_passes rows = go (has_row (codes "script") rows)
  where
    go : (b : Bool) → cond (b || true) [] (given_default_fault built_script []) ≡ []
    go true = refl
    go false = refl

option_passes : (name : Text) (rows : List Row) → default_fault rows (built_option name) ≡ []
option_passes name rows = go (has_row name rows)
  where
    go : (b : Bool) → cond (b || true) [] (given_default_fault (built_option name) []) ≡ []
    go true = refl
    go false = refl

flag_passes : (name : Text) (rows : List Row) → default_fault rows (built_flag name) ≡ []
flag_passes name rows = go (has_row name rows)
  where
    go : (b : Bool) → cond (b || false) [] (given_default_fault (built_flag name) (codes "false" ∷ [])) ≡ []
    go true = refl
    go false = refl

defaults_pass : (rows : List Row) → defaults_fault rows table ≡ []
unfolding table
defaults_pass = none_fails table (
  script_passes,
  (
    option_passes (codes "kind"),
    (
      option_passes (codes "jobs"),
      (
        option_passes (codes "generate"),
        (flag_passes (codes "drop-on-error"), (flag_passes (codes "keep-on-abort"), (flag_passes (codes "envelope"), (flag_passes (codes "check"), tt)))),
      ),
    ),
  ),
)

-- a name is asked for
asked : (rows : List Row) → check_fault shape rows false ≡ cond (is_given (codes "script") rows) [] (MissingRequiredArgument ∷ [])
unfolding table
asked rows = go (is_given (codes "script") rows)
  where
    go : (b : Bool) → check_kinds false false (not b || false) ≡ cond b [] (MissingRequiredArgument ∷ [])
    go true = refl
    go false = refl

named : (rows : List Row) (script : Option Text) → row_at (codes "script") rows ≡ option_map (value_row (codes "script")) script
    → is_given (codes "script") rows ≡ is_some script
named rows script at = ap (λ o. option_map_or (λ (r : Row). explicit_source r.source) o false) at ∙ go script
  where
    go : (o : Option Text) → option_map_or (λ (r : Row). explicit_source r.source) (option_map (value_row (codes "script")) o) false ≡ is_some o
    go None = refl
    go (Some t) = refl

abbrev pub end_fault : Held → Kinds
end_fault h = or_else (settle_fault table false h)
    (or_else (defaults_fault (settled table h).rows table) (check_fault shape (finished table h) false))

-- where the faults are none the rows show what is given, with a name, and else nothing is given, or no name
abbrev pub Agrees : Kinds → List Row → Option Settings → Type 0
Agrees [] rows None = ⊥
Agrees [] rows (Some g) = (is_some g.script ≡ true) × AreRead rows g
Agrees (k ∷ ks) rows None = ⊤
Agrees (k ∷ ks) rows (Some g) = g.script ≡ None

pub fault_agrees : (kinds : Kinds) (rows : List Row) → IsFault kinds → Agrees kinds rows None
fault_agrees [] rows fault = absurd fault
fault_agrees (k ∷ ks) rows fault = tt

end_is : (h : Held) (g : Settings) → Stands h (Some g) → end_fault h ≡ cond (is_some g.script) [] (MissingRequiredArgument ∷ [])
end_is h g stands =
    let rows = (settled table h).rows in
    ap (λ ks. or_else ks (or_else (defaults_fault rows table) (check_fault shape (finished table h) false))) stands.0
    ∙ ap (λ ks. or_else ks (check_fault shape (finished table h) false)) (defaults_pass rows) ∙ asked (finished table h)
    ∙ ap (λ rs. cond (is_given (codes "script") rs) [] (MissingRequiredArgument ∷ [])) (finished_is h)
    ∙ ap (λ b. cond b [] (MissingRequiredArgument ∷ [])) (named (with_flags rows) g.script (behind (codes "script") rows refl refl refl refl ∙ stands.1.script))

pub end_agrees : (h : Held) (m : Option Settings) → Stands h m → Agrees (end_fault h) (finished table h) m
end_agrees h None stands = fault_agrees (end_fault h) (finished table h) (fault_first (settle_fault table false h) _ stands)
end_agrees h (Some g) stands =
    subst (λ ks. Agrees ks (finished table h) (Some g)) (sym (end_is h g stands)) (go g.script refl)
  where
    go : (o : Option Text) → g.script ≡ o → Agrees (cond (is_some o) [] (MissingRequiredArgument ∷ [])) (finished table h) (Some g)
    go None e = e
    go (Some t) e = (ap (λ o. is_some o) e, subst (λ rs. AreRead rs g) (sym (finished_is h)) (flags_read (settled table h).rows g stands.1))
