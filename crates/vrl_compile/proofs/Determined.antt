-- A text has one reading, and its diagnostics are one list.
use Rattle.std.proofs.Common.{◌≡◌, ℕ, List, [], ◌∷◌, length, refl, sym, ap, ◌∙◌, subst, arith}
use Rattle.std.specs.Cmp.{IsTotalOrder}
use Rattle.std.specs.Ordering.{nat_cmp, ordering_then}
use Rattle.std.specs.declared.cmp.Ordering.{Ordering}
use Rattle.std.specs.declared.cmp.Ordering.TheVariants.{Less, Equal, Greater}
use Rattle.std.proofs.lemmas.Cmp.{nat_cmp_total, on_total, then_total}
use Rattle.vrl_diag.specs.declared.diagnostic.Diagnostic.{Diagnostic}
use Rattle.vrl_diag.specs.declared.diagnostic.Span.{Span}
use Rattle.vrl_kind.specs.KindTree.{KindTree}
use Rattle.vrl_syntax.specs.Limits.{exprs_faults}
use Rattle.vrl_syntax.specs.Tree.{Script}
use Rattle.vrl_token.specs.Laws.{TokensAreDetermined}
use Rattle.vrl_token.specs.TokenList.{TokenList}
use Rattle.vrl_token.specs.declared.token.Spanned.{Spanned}
use Rattle.vrl_parse.specs.Reading.{ErrorPlacesAreDetermined, IsErrorPlace, Reads, ScriptsAreDetermined}
use Rattle.vrl_check.specs.Determined.{JudgementsAreDetermined}
use Rattle.vrl_check.specs.OpenRules.{language_rules}
use Rattle.vrl_judge.specs.Ordered.{AreOrdered, diagnostic_cmp}
use Rattle.vrl_compile.specs.Answer.{AreOfScript, IsScript, IsUngrammatical, beyond, judged, malformed, malformed_literals, of_script, unread, unread_at, wrong}
use Rattle.vrl_compile.specs.Reading.{DiagnosticsAreDetermined, ScriptsHaveOneReading}
use Rattle.vrl_compile.proofs.Sorting.{one_order}

-- ---- readings

pub one_reading : TokensAreDetermined → ScriptsAreDetermined → ScriptsHaveOneReading
one_reading tokens scripts text ts us s t one two =
    let lists = tokens.one_list text ts us one.tokenized two.tokenized in
    record { tokens_are = lists; script_is = scripts us s t (subst (λ xs. Reads xs s) lists one.reads) two.reads }

-- tokens in which no script is read are no script's
read_and_unread : TokensAreDetermined → (text : List ℕ) (ts : List Spanned) (s : Script) (span : Span) → IsScript text ts s → ¬ IsUngrammatical text span
read_and_unread tokens text ts s span is none =
    none.unread s (subst (λ xs. Reads xs s) (tokens.one_list text ts none.tokens is.tokenized none.tokenized) is.reads)

-- and they go wrong at one place
one_error_place : TokensAreDetermined → ErrorPlacesAreDetermined → (text : List ℕ) (s t : Span) → IsUngrammatical text s → IsUngrammatical text t → s ≡ t
one_error_place tokens places text s t one two =
    let of_text : List Spanned → TokenList = λ ts. record { tokens = ts; «end» = length text } in
    let lists = tokens.one_list text one.tokens two.tokens one.tokenized two.tokenized in
    places (of_text two.tokens) s t (subst (λ ts. IsErrorPlace (of_text ts) s) lists one.place) two.place

-- ---- the order of diagnostics

pub diagnostics_total : IsTotalOrder diagnostic_cmp
diagnostics_total = then_total (on_total (λ d. d.span.start) nat_cmp_total) (then_total (on_total (λ d. d.span.end) nat_cmp_total) (on_total (λ d. d.code) nat_cmp_total))

same_number : (m n : ℕ) → nat_cmp m n ≡ Equal → m ≡ n
same_number m n same = grind (arith, same)

-- where two comparisons in turn tie, both do
both_tie : (a b : Ordering) → ordering_then a b ≡ Equal → (a ≡ Equal) × (b ≡ Equal)
both_tie Less b same = cc
both_tie Equal b same = (refl, same)
both_tie Greater b same = cc

same_span : (s t : Span) → s.start ≡ t.start → s.end ≡ t.end → s ≡ t
same_span s t starts ends =
    let made : ℕ → ℕ → Span = λ a b. record { start = a; end = b } in
    ap (λ a. made a s.end) starts ∙ ap (made t.start) ends

-- two diagnostics that tie are the same
pub tied : (d e : Diagnostic) → diagnostic_cmp d e ≡ Equal → d ≡ e
tied d e same =
    let first = both_tie (nat_cmp d.span.start e.span.start) _ same in
    let second = both_tie (nat_cmp d.span.end e.span.end) (nat_cmp d.code e.code) first.1 in
    let span = same_span d.span e.span (same_number _ _ first.0) (same_number _ _ second.0) in
    let made : Span → ℕ → Diagnostic = λ s c. record { span = s; code = c } in
    ap (λ s. made s d.code) span ∙ ap (made e.span) (same_number _ _ second.1)

one_order_of : (codes xs ys : List Diagnostic) → AreOrdered codes xs → AreOrdered codes ys → xs ≡ ys
one_order_of codes xs ys one two = one_order diagnostics_total tied codes xs ys one.same one.sorted two.same two.sorted

-- ---- diagnostics

one_first : (faults ds es xs ys : List Diagnostic) (d e : Diagnostic) → faults ≡ d ∷ ds → faults ≡ e ∷ es → xs ≡ d ∷ [] → ys ≡ e ∷ [] → xs ≡ ys
one_first faults ds es xs ys d e one two first second =
    let both : d ∷ ds ≡ e ∷ es = sym one ∙ two in
    let heads : d ≡ e = cc in
    first ∙ ap (λ x. x ∷ []) heads ∙ sym second

nothing_first : {P : Type 0} (faults ds : List Diagnostic) (d : Diagnostic) → faults ≡ d ∷ ds → faults ≡ [] → P
nothing_first faults ds d some none = let wrong : d ∷ ds ≡ [] = sym some ∙ none in cc

of_one_script : JudgementsAreDetermined → (declared : KindTree) (ts : List Spanned) (s : Script) (xs ys : List Diagnostic) → AreOfScript declared ts s xs → AreOfScript declared ts s ys → xs ≡ ys
of_one_script one declared ts s xs ys (beyond d ds is first) (beyond e es too second) = one_first (exprs_faults s.items) ds es xs ys d e is too first second
of_one_script one declared ts s xs ys (beyond d ds is first) (malformed limits e es some second) = nothing_first (exprs_faults s.items) ds d is limits
of_one_script one declared ts s xs ys (beyond d ds is first) (judged can j judges ordered) = nothing_first (exprs_faults s.items) ds d is can.limits
of_one_script one declared ts s xs ys (malformed limits d ds some first) (beyond e es too second) = nothing_first (exprs_faults s.items) es e too limits
of_one_script one declared ts s xs ys (malformed limits d ds some first) (malformed limits_too e es too second) = first ∙ sym some ∙ too ∙ sym second
of_one_script one declared ts s xs ys (malformed limits d ds some first) (judged can j judges ordered) = nothing_first (malformed_literals ts) ds d some can.well_formed
of_one_script one declared ts s xs ys (judged can j judges ordered) (beyond e es too second) = nothing_first (exprs_faults s.items) es e too can.limits
of_one_script one declared ts s xs ys (judged can j judges ordered) (malformed limits e es some second) = nothing_first (malformed_literals ts) es e some can.well_formed
of_one_script one declared ts s xs ys (judged can j judges ordered) (judged can_too k judges_too ordered_too) =
    one_order_of k.codes xs ys (subst (λ x. AreOrdered x.codes xs) (one.script (language_rules s.patterns) (one.language s.patterns) declared s.items j k judges judges_too) ordered) ordered_too

pub determined : TokensAreDetermined → ScriptsAreDetermined → ErrorPlacesAreDetermined → JudgementsAreDetermined → DiagnosticsAreDetermined
determined tokens scripts places one declared text xs ys (wrong d is first) (wrong e too second) = first ∙ ap (λ x. x ∷ []) (tokens.one_fault text d e is too) ∙ sym second
determined tokens scripts places one declared text xs ys (wrong d is first) (unread span none also) = absurd (tokens.not_both text none.tokens d none.tokenized is)
determined tokens scripts places one declared text xs ys (wrong d is first) (of_script ts s has of) = absurd (tokens.not_both text ts d has.tokenized is)
determined tokens scripts places one declared text xs ys (unread span none is) (wrong e too second) = absurd (tokens.not_both text none.tokens e none.tokenized too)
determined tokens scripts places one declared text xs ys (unread span none is) (unread place too also) = is ∙ ap unread_at (one_error_place tokens places text span place none too) ∙ sym also
determined tokens scripts places one declared text xs ys (unread span none is) (of_script ts s has of) = absurd (read_and_unread tokens text ts s span has none)
determined tokens scripts places one declared text xs ys (of_script ts s has of) (wrong e too second) = absurd (tokens.not_both text ts e has.tokenized too)
determined tokens scripts places one declared text xs ys (of_script ts s has of) (unread span none is) = absurd (read_and_unread tokens text ts s span has none)
determined tokens scripts places one declared text xs ys (of_script ts s has of) (of_script us t too also) =
    let same = one_reading tokens scripts text us ts t s too has in
    of_one_script one declared ts s xs ys of (subst (λ x. AreOfScript declared ts x ys) same.script_is (subst (λ x. AreOfScript declared x t ys) same.tokens_are also))
