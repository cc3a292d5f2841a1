-- What `clap` answers, by what the words give.
use Rattle.std.proofs.Common.{◌≡◌, ◌∙◌, ◌⊎◌, codes, true, false, refl, sym, ap, subst, inl, inr, List, [], ◌∷◌, Option, Some, None, Result, Ok, Err, IfErr, IfOk, IsSomeAnd}
use Rattle.std.specs.Prelude.{is_some, option_and_then}
use Rattle.clap.specs.Faults.{built_fault, entered_fault, fault_of, is_simple_and_free, level_fault}
use Rattle.clap.specs.Kinds.{FailsBy, HasKind, IsAmong, Kinds}
use Rattle.clap.specs.Matches.{found_of}
use Rattle.clap.specs.Simple.{App, HasMatchesOf, entered, is_simple, matches_of, names_of}
use Rattle.clap.specs.Values.{kind_of}
use Rattle.clap.specs.Walk.{Row, Text, idle, nothing_held, rows_after, rows_of, walk}
use Rattle.clap.specs.declared.error.Error.{Error}
use Rattle.clap.specs.declared.error.kind.ErrorKind.{ErrorKind}
use Rattle.clap.specs.declared.error.kind.ErrorKind.TheVariants.{OutOfMemory}
use Rattle.clap.specs.declared.parser.matches.ArgMatches.{ArgMatches}
use Rattle.clap.proofs.WalkLemmas.{first_value-rows, one_text-rows}
use Rattle.remap_words.specs.Command.{AreMatchesOf, remap_app}
use Rattle.remap_words.specs.Uses.{has_short}
use Rattle.remap_words.specs.Words.{Settings, given_of, invocation_given, nothing_given, words_mean}
use Rattle.remap_words.proofs.Table.{built_app, built_is, free_is, shape, table}
use Rattle.remap_words.proofs.Rows.{Shows}
use Rattle.remap_words.proofs.Turns.{place}
use Rattle.remap_words.proofs.Defaults.{Agrees}
use Rattle.remap_words.proofs.Walks.{end_rows, tail}
use Rattle.remap_words.proofs.Reading.{both_agree}

simple_is : is_simple remap_app ≡ true
simple_is = refl

-- the command has no others below it
no_stop : (words : List Text) (stop : Option (Text × List Text))
    → level_fault shape [] nothing_held words (is_some (entered built_app stop)) (entered_fault built_app stop)
    ≡ tail (place false idle 1 nothing_held) words
no_stop words None = refl
no_stop words (Some p) = refl

faults_are : (words : List Text) → fault_of remap_app words ≡ tail (place false idle 1 nothing_held) words
faults_are words = ap (λ a. built_fault a nothing_held words) built_is ∙ no_stop words (walk table [] nothing_held words).stopped

rows_are : (words : List Text) → matches_of remap_app words ≡ end_rows (place false idle 1 nothing_held) words
rows_are words = ap (λ (a : App). rows_after a.top.rules (names_of a) words) built_is

nothing_shown : Shows [] nothing_given
nothing_shown = record {
  script = refl;
  kind = refl;
  jobs = refl;
  generate = refl;
  drop_on_error = refl;
  keep_on_abort = refl;
  envelope = refl;
  check = refl;
}

pub words_agree : (words : List Text) → has_short words ≡ false → Agrees (fault_of remap_app words) (matches_of remap_app words) (given_of words)
words_agree words free =
    subst (λ ks. Agrees ks (matches_of remap_app words) (given_of words)) (sym (faults_are words))
    (subst (λ rs. Agrees (tail (place false idle 1 nothing_held) words) rs (given_of words)) (sym (rows_are words))
    ((both_agree words).0 1 nothing_held (Some nothing_given) (refl, nothing_shown) refl free))

matched : (m : ArgMatches) (given : Option Settings) → Agrees [] (rows_of (found_of m)) given → IsSomeAnd given (λ g. AreMatchesOf g m)
matched m None agrees = absurd agrees
matched m (Some g) agrees =
    let f = found_of m in
    let read = agrees.1 in
    record {
      script = first_value-rows f (codes "script") ∙ read.script;
      kind = first_value-rows f (codes "kind") ∙ read.kind;
      jobs = first_value-rows f (codes "jobs") ∙ read.jobs;
      generate = first_value-rows f (codes "generate") ∙ read.generate;
      drop_on_error = one_text-rows f (codes "drop-on-error") ∙ read.drop_on_error;
      keep_on_abort = one_text-rows f (codes "keep-on-abort") ∙ read.keep_on_abort;
      envelope = one_text-rows f (codes "envelope") ∙ read.envelope;
      check = one_text-rows f (codes "check") ∙ read.check;
    }

-- where the words are taken the matches tell what is given
pub matches_tell : (words : List Text) (a : App) (r : Result ArgMatches Error) → a ≡ remap_app → has_short words ≡ false → IfOk r (HasMatchesOf a words)
    → (is_simple_and_free a ≡ true → FailsBy (fault_of a words) r) → IfOk r (λ m. IsSomeAnd (given_of words) (λ g. AreMatchesOf g m))
matches_tell words a (Err e) is free has fails = tt
matches_tell words a (Ok m) is free has fails =
    let none : fault_of remap_app words ≡ [] = ap (λ x. fault_of x words) (sym is) ∙ fails (ap is_simple_and_free is ∙ free_is) in
    let rows : matches_of remap_app words ≡ rows_of (found_of m) = sym ((has (ap is_simple is ∙ simple_is)).0 ∙ ap (λ x. matches_of x words) is) in
    matched m (given_of words) (subst (λ rs. Agrees [] rs (given_of words)) rows
    (subst (λ ks. Agrees ks (matches_of remap_app words) (given_of words)) none (words_agree words free)))

meant : (k : ErrorKind) (kinds : Kinds) (rows : List Row) (given : Option Settings) → IsAmong k kinds → Agrees kinds rows given
    → option_and_then invocation_given given ≡ None
meant k [] rows given among agrees = absurd among
meant k (x ∷ xs) rows None among agrees = refl
meant k (x ∷ xs) rows (Some g) among agrees = rw agrees refl

-- where they are not the words mean nothing, unless memory ran out
pub refusal_tells : (words : List Text) (a : App) (r : Result ArgMatches Error) → a ≡ remap_app → has_short words ≡ false
    → (is_simple_and_free a ≡ true → FailsBy (fault_of a words) r) → IfErr r (λ e. (kind_of e ≡ OutOfMemory) ⊎ (words_mean words ≡ None))
refusal_tells words a (Ok m) is free fails = tt
refusal_tells words a (Err e) is free fails =
    let kinds : HasKind (fault_of remap_app words) e = subst (λ x. HasKind (fault_of x words) e) is (fails (ap is_simple_and_free is ∙ free_is)) in
    elim kinds [
      | inl memory ↦ inl memory
      | inr among ↦ inr (meant (kind_of e) (fault_of remap_app words) (matches_of remap_app words) (given_of words) among (words_agree words free))
    ]
