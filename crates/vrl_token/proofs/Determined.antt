-- A text has one division into pieces, or one first fault, and never both.
use Rattle.std.proofs.Common.{◌≡◌, ℕ, List, [], ◌∷◌, length, inl, inr, refl, sym, ap, ◌∙◌, subst}
use Rattle.vrl_diag.specs.declared.diagnostic.Diagnostic.{Diagnostic}
use Rattle.vrl_value.specs.Laws.{MomentsReadBack}
use Rattle.vrl_token.specs.declared.piece.Piece.{Piece}
use Rattle.vrl_token.specs.declared.piece.Lexeme.{Lexeme}
use Rattle.vrl_token.specs.declared.token.Spanned.{Spanned}
use Rattle.vrl_token.specs.Brackets.{tokens_from}
use Rattle.vrl_token.specs.Division.{IsDivision, IsFirstFault, Leads, kept, pieces_behind, span_between}
use Rattle.vrl_token.specs.Laws.{TokensAreDetermined}
use Rattle.vrl_token.specs.Nesting.{IsTooDeep}
use Rattle.vrl_token.specs.Reading.{HasTokens, IsTokenized, IsTextFault, backwards}
use Rattle.vrl_token.proofs.Only.{Lexed, fault, finish, piece}
use Rattle.vrl_token.proofs.Begun.{Reads, one_start}

-- how pieces end: at the end of the text, or at a fault
data End : Type 0 where
  whole : End
  wrong : ℕ → List ℕ → End

abbrev lexed_of : End → Lexed
lexed_of whole = finish
lexed_of (wrong code rest) = fault code rest

-- a piece stands where the pieces don't end
no_piece : (e : End) (p : Piece) (rest : List ℕ) → ¬ (lexed_of e ≡ piece p rest)
no_piece whole p rest same = cc
no_piece (wrong code last) p rest same = cc

same_end : (e f : End) → lexed_of e ≡ lexed_of f → e ≡ f
same_end whole whole same = refl
same_end whole (wrong code rest) same = cc
same_end (wrong code rest) whole same = cc
same_end (wrong code rest) (wrong other last) same =
    let codes_same : code ≡ other = cc in
    let rests_same : rest ≡ last = cc in
    ap (λ c. wrong c rest) codes_same ∙ ap (λ t. wrong other t) rests_same

same_lexeme : (p q : Lexeme) → p.piece ≡ q.piece → p.span ≡ q.span → p ≡ q
same_lexeme p q front back = ap (λ x. let l : Lexeme = record { piece = x; span = p.span } in l) front ∙ ap (λ s. let l : Lexeme = record { piece = q.piece; span = s } in l) back

-- pieces of a text that end so
record Divides (total : ℕ) (before : List Piece) (text : List ℕ) (ps : List Lexeme) (place : List ℕ) (e : End) : Type 0 where
  pub leads : Leads total before text ps place
  pub ends : Reads (pieces_behind before ps) place (lexed_of e)

record Same (ps qs : List Lexeme) (place other : List ℕ) (e f : End) : Type 0 where
  pub pieces : ps ≡ qs
  pub places : place ≡ other
  pub ends : e ≡ f

same_division : MomentsReadBack → (total : ℕ) (before : List Piece) (text : List ℕ) (ps qs : List Lexeme) (place other : List ℕ) (e f : End) → Divides total before text ps place e → Divides total before text qs other f → Same ps qs place other e f
same_division law total before text [] [] place other e f one two =
    record {
      pieces = refl;
      places = sym one.leads ∙ two.leads;
      ends = same_end e f (one_start law before text (lexed_of e) (lexed_of f) (subst (λ t. Reads before t (lexed_of e)) (sym one.leads) one.ends) (subst (λ t. Reads before t (lexed_of f)) (sym two.leads) two.ends));
    }
same_division law total before text [] (q ∷ qs) place other e f one two =
    absurd (no_piece e q.piece two.leads.0 (one_start law before text (lexed_of e) (piece q.piece two.leads.0) (subst (λ t. Reads before t (lexed_of e)) (sym one.leads) one.ends) two.leads.1))
same_division law total before text (p ∷ ps) [] place other e f one two =
    absurd (no_piece f p.piece one.leads.0 (one_start law before text (lexed_of f) (piece p.piece one.leads.0) (subst (λ t. Reads before t (lexed_of f)) (sym two.leads) two.ends) one.leads.1))
same_division law total before text (p ∷ ps) (q ∷ qs) place other e f one two =
    let same : piece p.piece one.leads.0 ≡ piece q.piece two.leads.0 = one_start law before text (piece p.piece one.leads.0) (piece q.piece two.leads.0) one.leads.1 two.leads.1 in
    let pieces_same : p.piece ≡ q.piece = cc (same) in
    let rests_same : one.leads.0 ≡ two.leads.0 = cc (same) in
    let lexemes_same = same_lexeme p q pieces_same (one.leads.2 ∙ ap (λ t. span_between total text t) rests_same ∙ sym two.leads.2) in
    let leads : Leads total (q.piece ∷ before) two.leads.0 ps place = subst (λ t. Leads total (q.piece ∷ before) t ps place) rests_same (subst (λ x. Leads total (x ∷ before) one.leads.0 ps place) pieces_same one.leads.3) in
    let ends : Reads (pieces_behind (q.piece ∷ before) ps) place (lexed_of e) = subst (λ x. Reads (pieces_behind (x ∷ before) ps) place (lexed_of e)) pieces_same one.ends in
    let more = same_division law total (q.piece ∷ before) two.leads.0 ps qs place other e f (record { leads = leads; ends = ends }) (record { leads = two.leads.3; ends = two.ends }) in
    record { pieces = ap (λ x. x ∷ ps) lexemes_same ∙ ap (λ xs. q ∷ xs) more.pieces; places = more.places; ends = more.ends }

-- ---- texts

whole_text : (text : List ℕ) (ps : List Lexeme) → IsDivision text ps → Divides (length text) [] text ps [] whole
whole_text text ps is = record { leads = is; ends = refl }

to_fault : (text : List ℕ) (d : Diagnostic) (is : IsFirstFault text d) → Divides (length text) [] text is.pieces is.place (wrong d.code is.rest)
to_fault text d is = record { leads = is.leads; ends = is.is_fault }

one_division : MomentsReadBack → (text : List ℕ) (ps qs : List Lexeme) → IsDivision text ps → IsDivision text qs → ps ≡ qs
one_division law text ps qs one two = (same_division law (length text) [] text ps qs [] [] whole whole (whole_text text ps one) (whole_text text qs two)).pieces

no_fault : MomentsReadBack → (text : List ℕ) (ps : List Lexeme) (d : Diagnostic) → IsDivision text ps → ¬ IsFirstFault text d
no_fault law text ps d one two =
    let same : whole ≡ wrong d.code two.rest = (same_division law (length text) [] text ps two.pieces [] two.place whole (wrong d.code two.rest) (whole_text text ps one) (to_fault text d two)).ends in
    cc (same)

same_diagnostic : (d e : Diagnostic) → d.code ≡ e.code → d.span ≡ e.span → d ≡ e
same_diagnostic d e front back = ap (λ x. let l : Diagnostic = record { code = x; span = d.span } in l) front ∙ ap (λ s. let l : Diagnostic = record { code = e.code; span = s } in l) back

one_first_fault : MomentsReadBack → (text : List ℕ) (d e : Diagnostic) → IsFirstFault text d → IsFirstFault text e → d ≡ e
one_first_fault law text d e one two =
    let same = same_division law (length text) [] text one.pieces two.pieces one.place two.place (wrong d.code one.rest) (wrong e.code two.rest) (to_fault text d one) (to_fault text e two) in
    let ends : wrong d.code one.rest ≡ wrong e.code two.rest = same.ends in
    let codes_same : d.code ≡ e.code = cc (ends) in
    let rests_same : one.rest ≡ two.rest = cc (ends) in
    same_diagnostic d e codes_same (one.span ∙ ap (λ t. span_between (length text) t one.rest) same.places ∙ ap (λ t. span_between (length text) two.place t) rests_same ∙ sym two.span)

-- ---- tokens

one_list : MomentsReadBack → (text : List ℕ) (a b : List Spanned) → HasTokens text a → HasTokens text b → a ≡ b
one_list law text a b one two = one.tells ∙ ap (λ ps. tokens_from [] (kept ps)) (one_division law text one.pieces two.pieces one.division two.division) ∙ sym two.tells

not_both : MomentsReadBack → (text : List ℕ) (tokens : List Spanned) (d : Diagnostic) → IsTokenized text tokens → ¬ IsTextFault text d
not_both law text tokens d is (inl fault_is) = no_fault law text is.has.pieces d is.has.division fault_is
not_both law text tokens d is (inr nested) = is.limits (subst (λ ts. IsTooDeep (backwards ts)) (one_list law text nested.tokens tokens nested.has is.has) nested.deep)

one_fault : MomentsReadBack → (text : List ℕ) (a b : Diagnostic) → IsTextFault text a → IsTextFault text b → a ≡ b
one_fault law text a b (inl one) (inl two) = one_first_fault law text a b one two
one_fault law text a b (inl one) (inr two) = absurd (no_fault law text two.has.pieces a two.has.division one)
one_fault law text a b (inr one) (inl two) = absurd (no_fault law text one.has.pieces b one.has.division two)
one_fault law text a b (inr one) (inr two) = one.fault_is ∙ sym two.fault_is

pub tokens_determined : MomentsReadBack → TokensAreDetermined
tokens_determined law = record { one_list = λ text a b one two. one_list law text a b one.has two.has; not_both = not_both law; one_fault = one_fault law }
