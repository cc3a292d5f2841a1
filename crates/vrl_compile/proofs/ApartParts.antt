-- The parts of a script that is read stand at places of their own: no two expressions, names, arguments or blocks of closures stand at one place.
use Rattle.std.proofs.Common.{◌≡◌, ℕ, suc, ◌+◌, ◌<◌, ◌≤◌, Bool, true, false, List, nat_eq, eqb-true, refl, sym, ◌∙◌, arith}
use Rattle.std.specs.List.{AllByRecursion}
use Rattle.std.proofs.lemmas.Bool.{and_parts}
use Rattle.vrl_diag.specs.declared.diagnostic.Span.{Span}
use Rattle.vrl_syntax.specs.Tree.{Script}
use Rattle.vrl_token.specs.declared.token.Spanned.{Spanned}
use Rattle.vrl_token.specs.Placing.{HolesStand, InOrderFrom, spans_of}
use Rattle.vrl_word.specs.Words.{name_span}
use Rattle.vrl_parse.specs.Reading.{Reads}
use Rattle.vrl_check.specs.Apart.{at_place, nothing_weighs, one_if, same_span, weigh_exprs, AreApart}
use Rattle.vrl_compile.proofs.CountedParts.{script_fits, words_stand}
use Rattle.vrl_compile.proofs.Regions.{Count, none, single, fewer, widened, at_most_one, Inside, no_part, part}

-- two places are one, or nothing is counted
abbrev SameOr : Span → Span → (ℕ → Type 0) → Type 0
SameOr span here P = (span.start ≡ here.start → span.end ≡ here.end → P 1) → P 0 → P (at_place here span)

same_or : (span here : Span) (P : ℕ → Type 0) → SameOr span here P
same_or span here P same other = by (same_span span here) refl where
  by : (b : Bool) → same_span span here ≡ b → P (one_if b)
  by true is = let both_are = and_parts (nat_eq span.start here.start) (nat_eq span.end here.end) is in same (eqb-true span.start here.start both_are.0) (eqb-true span.end here.end both_are.1)
  by false is = other

own_none : {x y a n : ℕ} (span : Span) → Inside x y a n span.start span.end → Count x y (0 + n) (span.start + a) span.end
own_none span (no_part zero) = none (omega (arith, zero))
own_none span (part one at some up free) = single (omega (arith, one)) at some up

own_here : {n : ℕ} (here span : Span) → span.start < span.end → span.start ≡ here.start → span.end ≡ here.end → Inside here.start here.end 0 n span.start span.end → Count here.start here.end (1 + n) (span.start + 0) span.end
own_here here span some start stop (no_part zero) = single (omega (arith, zero)) (omega (arith, start)) (omega (arith, some, start, stop)) (omega (arith, stop))
own_here here span some start stop (part one at more up free) = absurd (omega (arith, start, stop, free))

behind_none : {x y n from to : ℕ} (start : ℕ) → start ≤ from → Count x y n from to → Count x y (0 + n) start to
behind_none {n = n} {to = to} start less count = fewer (0 + n) (omega arith) (widened start to less (omega arith) count)

block_none : {x y : ℕ} (span : Span) (n last : ℕ) → Count x y n (suc span.start) last → Count x y (0 + n) span.start last
block_none span n last count = behind_none span.start (omega arith) count

expressions_apart : (total : ℕ) (ts : List Spanned) (s : Script) → InOrderFrom 0 total (spans_of ts) → AllByRecursion (λ t. HolesStand t.token t.span) ts → Reads ts s → (here : Span) → weigh_exprs (record nothing_weighs { expression = at_place here }) s.items ≤ 1
expressions_apart total ts s ordered holes reads here =
    at_most_one (script_fits here.start here.end 0 (record nothing_weighs { expression = at_place here }) (omega arith)
    (λ span n some within. same_or span here (λ k. Count here.start here.end (k + n) (span.start + 0) span.end) (λ start stop. own_here here span some start stop within) (own_none span within))
    (λ span bang n from to some behind order count. behind_none (span.start + 0) (omega (arith, some, behind)) count)
    (λ span n from to some at up count. behind_none span.start (omega (arith, at)) (widened from span.end (omega arith) up count))
    (λ span n last above count. block_none span n last count)
    0 total reads.items (words_stand 0 0 total ts ordered holes))

name_here : {n from to : ℕ} (here span : Span) → span.start < span.end → span.end ≤ from → from ≤ to → span.start ≡ here.start → Count here.start (suc here.start) n from to → Count here.start (suc here.start) (1 + n) (span.start + 0) to
name_here here span some behind order start (none zero) = single (omega (arith, zero)) (omega (arith, start)) (omega arith) (omega (arith, start, some, behind, order))
name_here here span some behind order start (single one at more up) = absurd (omega (arith, some, behind, start, at))

same_start : (span : Span) (bang : Bool) → (name_span span bang).start ≡ span.start
same_start span true = refl
same_start span false = refl

names_apart : (total : ℕ) (ts : List Spanned) (s : Script) → InOrderFrom 0 total (spans_of ts) → AllByRecursion (λ t. HolesStand t.token t.span) ts → Reads ts s → (here : Span) → weigh_exprs (record nothing_weighs { name = at_place here }) s.items ≤ 1
names_apart total ts s ordered holes reads here =
    at_most_one (script_fits here.start (suc here.start) 0 (record nothing_weighs { name = at_place here }) (omega arith)
    (λ span n some within. own_none span within)
    (λ span bang n from to some behind order count. same_or (name_span span bang) here (λ k. Count here.start (suc here.start) (k + n) (span.start + 0) to) (λ start stop. name_here here span some behind order (sym (same_start span bang) ∙ start) count) (behind_none (span.start + 0) (omega (arith, some, behind)) count))
    (λ span n from to some at up count. behind_none span.start (omega (arith, at)) (widened from span.end (omega arith) up count))
    (λ span n last above count. block_none span n last count)
    0 total reads.items (words_stand 0 0 total ts ordered holes))

argument_here : {n from to : ℕ} (here span : Span) → span.start < span.end → span.start + 1 ≤ from → to ≤ span.end → span.start ≡ here.start → span.end ≡ here.end → Count here.start here.end n from to → Count here.start here.end (1 + n) span.start span.end
argument_here here span some at up start stop (none zero) = single (omega (arith, zero)) (omega (arith, start)) (omega (arith, some, start, stop)) (omega (arith, stop))
argument_here here span some at up start stop (single one first more last) = absurd (omega (arith, at, start, first))

arguments_apart : (total : ℕ) (ts : List Spanned) (s : Script) → InOrderFrom 0 total (spans_of ts) → AllByRecursion (λ t. HolesStand t.token t.span) ts → Reads ts s → (here : Span) → weigh_exprs (record nothing_weighs { argument = at_place here }) s.items ≤ 1
arguments_apart total ts s ordered holes reads here =
    at_most_one (script_fits here.start here.end 1 (record nothing_weighs { argument = at_place here }) (omega arith)
    (λ span n some within. own_none span within)
    (λ span bang n from to some behind order count. behind_none (span.start + 1) (omega (arith, some, behind)) count)
    (λ span n from to some at up count. same_or span here (λ k. Count here.start here.end (k + n) span.start span.end) (λ start stop. argument_here here span some at up start stop count) (behind_none span.start (omega (arith, at)) (widened from span.end (omega arith) up count)))
    (λ span n last above count. block_none span n last count)
    0 total reads.items (words_stand 0 0 total ts ordered holes))

-- a block counts where it begins
block_here : {n last : ℕ} (here span : Span) → span.start < last → span.start ≡ here.start → Count here.start (suc here.start) n (suc span.start) last → Count here.start (suc here.start) (1 + n) span.start last
block_here here span above start (none zero) = single (omega (arith, zero)) (omega (arith, start)) (omega arith) (omega (arith, start, above))
block_here here span above start (single one at more up) = absurd (omega (arith, start, at))

closure_blocks_apart : (total : ℕ) (ts : List Spanned) (s : Script) → InOrderFrom 0 total (spans_of ts) → AllByRecursion (λ t. HolesStand t.token t.span) ts → Reads ts s → (here : Span) → weigh_exprs (record nothing_weighs { closure_block = at_place here }) s.items ≤ 1
closure_blocks_apart total ts s ordered holes reads here =
    at_most_one (script_fits here.start (suc here.start) 0 (record nothing_weighs { closure_block = at_place here }) (omega arith)
    (λ span n some within. own_none span within)
    (λ span bang n from to some behind order count. behind_none (span.start + 0) (omega (arith, some, behind)) count)
    (λ span n from to some at up count. behind_none span.start (omega (arith, at)) (widened from span.end (omega arith) up count))
    (λ span n last above count. same_or span here (λ k. Count here.start (suc here.start) (k + n) span.start last) (λ start stop. block_here here span above start count) (block_none span n last count))
    0 total reads.items (words_stand 0 0 total ts ordered holes))

pub parts_apart : (total : ℕ) (ts : List Spanned) (s : Script) → InOrderFrom 0 total (spans_of ts) → AllByRecursion (λ t. HolesStand t.token t.span) ts → Reads ts s → AreApart s.items
parts_apart total ts s ordered holes reads = record {
  expressions = expressions_apart total ts s ordered holes reads;
  names = names_apart total ts s ordered holes reads;
  arguments = arguments_apart total ts s ordered holes reads;
  closure_blocks = closure_blocks_apart total ts s ordered holes reads;
}
