-- Tokens that are parted as those of a script are nested no deeper.
use Rattle.std.proofs.Common.{◌≡◌, refl, sym, ap, ◌∙◌, subst, ℕ, ◌<◌, ◌⊎◌, true, false, List, [], ◌∷◌, length}
use Rattle.std.proofs.lemmas.Bool.{and_from, and_parts}
use Rattle.vrl_token.specs.Brackets.{closed, open_behind}
use Rattle.vrl_token.specs.Nesting.{IsTooDeep}
use Rattle.vrl_token.specs.declared.bracket.Bracket.{Bracket}
use Rattle.vrl_token.specs.declared.token.Token.{Token}
use Rattle.vrl_token.specs.declared.token.Token.TheVariants as token
use Rattle.vrl_token.specs.declared.token.Spanned.{Spanned}
use Rattle.vrl_syntax.specs.Tree.{Script}
use Rattle.vrl_parse.specs.Reading.{Reads}
use Rattle.vrl_token.specs.Reading.{backwards}
use Rattle.vrl_format.specs.Formatting.{tokens_in}
use Rattle.vrl_format.proofs.Joining.{AreJoined, behind_all, has_one, may_follow}
use Rattle.vrl_format.specs.Apart.{Parted}
use Rattle.vrl_format.proofs.Parting.{parted}
use Rattle.vrl_format.proofs.Bodies.{bodies_parted}
use Rattle.vrl_format.proofs.Counted.{deepest_is}
use Rattle.vrl_format.proofs.Deepest.{brace_closes, braces_close, braces_parted, canon, closing, deepest, deepest_parted, deeper, is_more, move}
use Rattle.vrl_format.proofs.Joined.{tokens_joined}
use Rattle.vrl_format.proofs.Worst.{backwards_is, bodies, depth, exceeding_is_too_deep, most, too_deep_exceeds, worst, worst_most}

-- ---- closing braces

closed_length : (bs : List Bracket) → length (closed bs) ≡ deeper closing (length bs)
closed_length [] = refl
closed_length (b ∷ bs) = refl

open_length : (t : Token) (before : List Token) → length (open_behind (t ∷ before)) ≡ deeper (move t) (length (open_behind before))
open_length token.CloseParenthesis before = closed_length (open_behind before)
open_length token.CloseBracket before = closed_length (open_behind before)
open_length token.CloseBrace before = closed_length (open_behind before)
open_length token.CloseBars before = closed_length (open_behind before)
open_length t before = refl

some_more : (bs : List Bracket) → has_one bs ≡ true → is_more (length bs) ≡ true
some_more [] e = e
some_more (b ∷ bs) e = refl

brace_fits : (t : Token) (before : List Token) → may_follow before t ≡ true → brace_closes t (length (open_behind before)) ≡ true
brace_fits token.CloseBrace before h = some_more (open_behind before) (and_parts _ _ (and_parts _ _ h).0).0
brace_fits t before h = refl

braces_joined : (before ts : List Token) → AreJoined before ts → braces_close (length (open_behind before)) ts ≡ true
braces_joined before [] h = refl
braces_joined before (t ∷ ts) h =
    and_from _ _ (brace_fits t before h.0) (subst (λ (d : ℕ). braces_close d ts ≡ true) (open_length t before) (braces_joined (t ∷ before) ts h.1))

-- ---- parted tokens

abbrev IsOver : ℕ → ℕ → Type 0
IsOver deep many = (64 < deep) ⊎ (4 < many)

abbrev IsOverParted : List Parted → Type 0
IsOverParted ps = IsOver (deepest (0 ∷ []) 0 (canon ps)) (most bodies [] (canon ps))

worst_depth : (ts : List Token) → braces_close 0 ts ≡ true → worst (depth (behind_all [] ts)) (behind_all [] ts) ≡ deepest (0 ∷ []) 0 (canon (parted ts))
worst_depth ts fits = worst_most (depth (behind_all [] ts)) ts ∙ deepest_is [] ts ∙ deepest_parted ts fits

worst_bodies : (ts : List Token) → worst bodies (behind_all [] ts) ≡ most bodies [] (canon (parted ts))
worst_bodies ts = worst_most bodies ts ∙ bodies_parted ts

over_parted : (ts : List Token) → braces_close 0 ts ≡ true → IsTooDeep (behind_all [] ts) → IsOverParted (parted ts)
over_parted ts fits deep =
    subst (λ (n : ℕ). IsOver n (most bodies [] (canon (parted ts)))) (worst_depth ts fits)
    (subst (λ (n : ℕ). IsOver (worst (depth (behind_all [] ts)) (behind_all [] ts)) n) (worst_bodies ts) (too_deep_exceeds (behind_all [] ts) deep))

parted_over : (ts : List Token) → braces_close 0 ts ≡ true → IsOverParted (parted ts) → IsTooDeep (behind_all [] ts)
parted_over ts fits over =
    exceeding_is_too_deep (behind_all [] ts)
    (subst (λ (n : ℕ). IsOver n (worst bodies (behind_all [] ts))) (sym (worst_depth ts fits))
    (subst (λ (n : ℕ). IsOver (deepest (0 ∷ []) 0 (canon (parted ts))) n) (sym (worst_bodies ts)) over))

-- tokens that are parted alike, where each `}` closes a bracket
pub depth_kept : (ts us : List Token) → braces_close 0 ts ≡ true → parted us ≡ parted ts → IsTooDeep (behind_all [] us) → IsTooDeep (behind_all [] ts)
depth_kept ts us fits same deep =
    let fits_too : braces_close 0 us ≡ true
    = sym (braces_parted us true false 0) ∙ ap (λ (ps : List Parted). braces_close 0 (canon ps)) same ∙ braces_parted ts true false 0 ∙ fits in
    parted_over ts fits (subst IsOverParted same (over_parted us fits_too deep))

pub script_depth_kept : (ts us : List Spanned) (s : Script) → Reads ts s → parted (tokens_in us) ≡ parted (tokens_in ts)
    → IsTooDeep (backwards us) → IsTooDeep (backwards ts)
script_depth_kept ts us s reads same deep =
    subst IsTooDeep (sym (backwards_is (tokens_in ts)))
    (depth_kept (tokens_in ts) (tokens_in us) (braces_joined [] (tokens_in ts) (tokens_joined ts s reads)) same (subst IsTooDeep (backwards_is (tokens_in us)) deep))
