-- Diagnostics in order, none of which stands twice, are in a strict order; so are those of malformed literals.
use Rattle.std.proofs.Common.{◌≡◌, ℕ, ◌<◌, ◌≤◌, Bool, true, false, ◌&&◌, if◌then◌else◌, List, [], ◌∷◌, ◌++◌, nat_eq, sum_by, refl, sym, ap, ◌∙◌, subst, arith}
use Rattle.std.proofs.lemmas.Bool.{eqb-false}
use Rattle.std.specs.List.{AllByRecursion}
use Rattle.std.specs.List.Sorted.{IsSorted, IsStrictlySortedBy}
use Rattle.std.specs.Cmp.{nat_cmp_is}
use Rattle.std.specs.Ordering.{is_gt, nat_cmp, ordering_then}
use Rattle.std.specs.declared.cmp.Ordering.{Ordering}
use Rattle.std.specs.declared.cmp.Ordering.TheVariants.{Less, Equal, Greater}
use Rattle.std.proofs.lemmas.List.Sorted.{sum_by-IsPermutation}
use Rattle.std.proofs.lemmas.List.Sums.{sum_by-cons}
use Rattle.vrl_diag.specs.declared.diagnostic.Diagnostic.{Diagnostic}
use Rattle.vrl_diag.specs.declared.diagnostic.Span.{Span}
use Rattle.vrl_token.specs.declared.token.Spanned.{Spanned}
use Rattle.vrl_token.specs.Placing.{InOrderFrom, spans_of}
use Rattle.vrl_word.specs.Words.{regex_of}
use Rattle.vrl_pattern.specs.Malformed.{is_malformed}
use Rattle.vrl_judge.specs.Ordered.{AreOrdered, diagnostic_cmp}
use Rattle.vrl_check.specs.Apart.{one_if, same_span, times}
use Rattle.vrl_compile.specs.Answer.{malformed_at, malformed_literals}
use Rattle.vrl_compile.proofs.Determined.{diagnostics_total, tied}
use Rattle.vrl_compile.proofs.Sorting.{reversed_gt, sorted_tail}

abbrev Strict : List Diagnostic → Type 0
Strict ds = IsStrictlySortedBy diagnostic_cmp ds

-- one before others that are in strict order
in_front : (d e : Diagnostic) (ds : List Diagnostic) → diagnostic_cmp d e ≡ Less → Strict (e ∷ ds) → Strict (d ∷ e ∷ ds)
unfolding IsStrictlySortedBy
in_front d e ds less strict = ((less, all_behind ds strict.0), strict) where
  all_behind : (fs : List Diagnostic) → AllByRecursion (λ f. diagnostic_cmp e f ≡ Less) fs → AllByRecursion (λ f. diagnostic_cmp d f ≡ Less) fs
  all_behind [] all = tt
  all_behind (f ∷ fs) all = (diagnostics_total.trans d e f less all.0, all_behind fs all.1)

pub one_alone : (d : Diagnostic) → Strict (d ∷ [])
unfolding IsStrictlySortedBy
one_alone d = (tt, tt)

pub no_diagnostic : Strict []
unfolding IsStrictlySortedBy
no_diagnostic = tt

-- ---- what stands once

same_itself : (n : ℕ) → nat_eq n n ≡ true
same_itself n = by (nat_eq n n) refl where
  by : (b : Bool) → nat_eq n n ≡ b → b ≡ true
  by true is = refl
  by false is = absurd (eqb-false n n is refl)

itself_once : (d : Diagnostic) → one_if (nat_eq d.code d.code && same_span d.span d.span) ≡ 1
itself_once d = rw (same_itself d.code, same_itself d.span.start, same_itself d.span.end) refl

-- two that stand one behind the other are in order, and they aren't the same
less_than_next : (d e : Diagnostic) (ds : List Diagnostic) → IsSorted diagnostic_cmp (d ∷ e ∷ ds) → times d.code d.span (d ∷ e ∷ ds) ≤ 1 → diagnostic_cmp d e ≡ Less
less_than_next d e ds sorted once = by (diagnostic_cmp d e) refl where
  by : (o : Ordering) → diagnostic_cmp d e ≡ o → o ≡ Less
  by Less is = refl
  by Equal is =
      let same : d ≡ e = tied d e is in
      let first = itself_once d in
      let second : one_if (nat_eq e.code d.code && same_span e.span d.span) ≡ 1 = subst (λ f. one_if (nat_eq f.code d.code && same_span f.span d.span) ≡ 1) same first in
      absurd (omega (arith, once, first, second))
  by Greater is =
      let above : is_gt (diagnostic_cmp d e) ≡ false = reversed_gt (diagnostic_cmp e d) (diagnostic_cmp d e) (diagnostics_total.antisymm e d) (sorted 0 d (omega arith) (omega arith)) in
      let wrong : true ≡ false = sym (ap is_gt is) ∙ above in
      cc

strict_of : (ds : List Diagnostic) → IsSorted diagnostic_cmp ds → ((code : ℕ) (span : Span) → times code span ds ≤ 1) → Strict ds
strict_of [] sorted once = no_diagnostic
strict_of (d ∷ []) sorted once = one_alone d
strict_of (d ∷ e ∷ ds) sorted once =
    in_front d e ds (less_than_next d e ds sorted (once d.code d.span)) (strict_of (e ∷ ds) (sorted_tail diagnostic_cmp d (e ∷ ds) sorted) (λ code span. let all = once code span in omega (arith, all)))

times_sum : (code : ℕ) (span : Span) (ds : List Diagnostic) → times code span ds ≡ sum_by (λ d. one_if (nat_eq d.code code && same_span d.span span)) ds
times_sum code span [] = refl
times_sum code span (d ∷ ds) =
    let rest = times_sum code span ds in
    let whole = sum_by-cons (λ d. one_if (nat_eq d.code code && same_span d.span span)) d ds in
    omega (arith, rest, whole)

-- the order of codes of which none stands twice
pub ordered_strictly : (codes diagnostics : List Diagnostic) → AreOrdered codes diagnostics → ((code : ℕ) (span : Span) → times code span codes ≤ 1) → Strict diagnostics
ordered_strictly codes diagnostics ordered once = strict_of diagnostics ordered.sorted (λ code span.
    let few = once code span in
    let before = times_sum code span codes in
    let after = times_sum code span diagnostics in
    let same = sum_by-IsPermutation (λ d. one_if (nat_eq d.code code && same_span d.span span)) codes diagnostics ordered.same in
    omega (arith, few, before, after, same))

-- ---- malformed literals

-- what begins before another is told before it
before_less : (d e : Diagnostic) → d.span.start < e.span.start → diagnostic_cmp d e ≡ Less
before_less d e less =
    let first : Less ≡ nat_cmp d.span.start e.span.start = nat_cmp_is d.span.start e.span.start Less less in
    sym (ap (λ o. ordering_then o (ordering_then (nat_cmp d.span.end e.span.end) (nat_cmp d.code e.code))) first)

record Behind (start : ℕ) (ds : List Diagnostic) : Type 0 where
  strict : Strict ds
  above : AllByRecursion (λ d. start ≤ d.span.start) ds

above_from : (start next : ℕ) (ds : List Diagnostic) → start ≤ next → AllByRecursion (λ d. next ≤ d.span.start) ds → AllByRecursion (λ d. start ≤ d.span.start) ds
above_from start next [] less all = tt
above_from start next (d ∷ ds) less all = (let first = all.0 in omega (arith, less, first), above_from start next ds less all.1)

all_less : (d : Diagnostic) (next : ℕ) (ds : List Diagnostic) → d.span.start < next → AllByRecursion (λ e. next ≤ e.span.start) ds → AllByRecursion (λ e. diagnostic_cmp d e ≡ Less) ds
all_less d next [] less all = tt
all_less d next (e ∷ ds) less all = (let first = all.0 in before_less d e (omega (arith, less, first)), all_less d next ds less all.1)

one_before : (start next : ℕ) (d : Diagnostic) (ds : List Diagnostic) → start ≤ d.span.start → d.span.start < next → Behind next ds → Behind start (d ∷ ds)
unfolding IsStrictlySortedBy
one_before start next d ds from less behind =
    record { strict = (all_less d next ds less behind.above, behind.strict); above = (from, above_from start next ds (omega (arith, from, less)) behind.above) }

maybe_before : (start next : ℕ) (span : Span) (ds : List Diagnostic) (b : Bool) → start ≤ span.start → span.start < next → Behind next ds → Behind start ((if b then record { code = 101; span = span } ∷ [] else []) ++ ds)
maybe_before start next span ds true from less behind = one_before start next (record { code = 101; span = span }) ds from less behind
maybe_before start next span ds false from less behind = record { strict = behind.strict; above = above_from start next ds (omega (arith, from, less)) behind.above }

literal_before : (start next : ℕ) (span : Span) (ds : List Diagnostic) (sources : List (List ℕ)) → start ≤ span.start → span.start < next → Behind next ds → Behind start (malformed_at span sources ++ ds)
literal_before start next span ds [] from less behind = record { strict = behind.strict; above = above_from start next ds (omega (arith, from, less)) behind.above }
literal_before start next span ds (source ∷ sources) from less behind = maybe_before start next span ds (is_malformed source) from less behind

literals_behind : (start stop : ℕ) (ts : List Spanned) → InOrderFrom start stop (spans_of ts) → Behind start (malformed_literals ts)
literals_behind start stop [] is = record { strict = no_diagnostic; above = tt }
literals_behind start stop (t ∷ ts) is = literal_before start t.span.end t.span (malformed_literals ts) (regex_of t.token) is.0 is.1 (literals_behind t.span.end stop ts is.2)

pub literals_strictly : (stop : ℕ) (ts : List Spanned) → InOrderFrom 0 stop (spans_of ts) → Strict (malformed_literals ts)
literals_strictly stop ts is = (literals_behind 0 stop ts is).strict
