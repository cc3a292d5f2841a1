-- A layout means the same as its text, and is its own layout.
use Rattle.std.proofs.Common.{◌≡◌, refl, sym, ap, ◌∙◌, subst, ℕ, false, List, [], None, length}
use Rattle.vrl_syntax.specs.Limits.{exprs_faults}
use Rattle.vrl_syntax.specs.Tree.{Script}
use Rattle.vrl_token.specs.Laws.{TokensAreDetermined}
use Rattle.vrl_token.specs.Nesting.{IsTooDeep}
use Rattle.vrl_token.specs.Reading.{HasTokens, IsTokenized, backwards}
use Rattle.vrl_token.specs.Respelling.{RespellingLaws}
use Rattle.vrl_token.specs.declared.token.Spanned.{Spanned}
use Rattle.vrl_parse.specs.Reading.{Reads}
use Rattle.vrl_format.specs.Apart.{apart}
use Rattle.vrl_format.specs.Comments.{comments_of}
use Rattle.vrl_format.specs.Formatting.{IsLaidOut, IsReadTo, MeansTheSame, tokens_in}
use Rattle.vrl_format.proofs.Joining.{AreJoined}
use Rattle.vrl_format.specs.Laws.{LayoutsMeanTheSame, LayoutsStay}
use Rattle.vrl_format.proofs.Settled.{ArePieces, settled_stay}
use Rattle.vrl_format.specs.Layout.{layout}
use Rattle.vrl_format.specs.Pieces.{pieces_of}
use Rattle.vrl_format.specs.Unplaced.{without_places}
use Rattle.vrl_format.proofs.Alike.{at_the_start}
use Rattle.vrl_format.proofs.ApartParted.{same_parted}
use Rattle.vrl_format.proofs.Cleared.{elements_clear}
use Rattle.vrl_format.proofs.Cuts.{AreSpelled, Cut, joined}
use Rattle.vrl_format.proofs.CutTexts.{cuts_have, has_cuts, tokens_cut}
use Rattle.vrl_format.proofs.DepthKept.{script_depth_kept}
use Rattle.vrl_format.proofs.ElementPieces.{elements_of, text_comments, text_pieces, text_tokens}
use Rattle.vrl_format.proofs.Elements.{AreTold, Element, Plan, cuts_of, element_comments, element_pieces, element_tokens, plans}
use Rattle.vrl_format.proofs.Joined.{tokens_joined}
use Rattle.vrl_format.proofs.Planned.{plans_are_layout}
use Rattle.vrl_format.proofs.Planning.{all_planned}
use Rattle.vrl_format.proofs.Recounted.{same_comments}
use Rattle.vrl_format.proofs.Relaid.{laid_elements, relaid}
use Rattle.vrl_format.proofs.Resettled.{pieces_settled}
use Rattle.vrl_format.proofs.Respelt.{layout_is_spelled}
use Rattle.vrl_format.proofs.SameApart.{planned_tokens, same_at_start}
use Rattle.vrl_format.proofs.SameLimits.{limits_kept}
use Rattle.vrl_format.proofs.SameReading.{same_tokens_read}
use Rattle.vrl_format.proofs.Tellings.{no_false}
use Rattle.vrl_format.proofs.Told.{elements_told}

-- a text, its tokens, and another text that has the same tokens but for separators at edges, the same
-- comments, and between its pieces what their layout leaves there
pub record Relays (text : List ℕ) (ts : List Spanned) (laid : List ℕ) : Type 0 where
  pub tokens : List Spanned
  pub has : HasTokens laid tokens
  pub same : apart (tokens_in tokens) ≡ apart (tokens_in ts)
  pub comments : comments_of laid tokens ≡ comments_of text ts
  pub settled : ArePieces (pieces_of text ts) (pieces_of laid tokens)

-- ---- cuts

abbrev plans_of : List Element → List Plan
plans_of es = plans None 0 [] [] es

relays_elements : (cs : List Cut) → AreSpelled [] cs → (es : List Element) → elements_of cs ≡ es → AreTold [] false [] es
    → AreSpelled [] (cuts_of (plans_of es)) → Relays (joined cs) (tokens_cut cs) (joined (cuts_of (plans_of es)))
relays_elements cs spelled es is told written =
    let ds = cuts_of (plans_of es) in
    let total = length (joined ds) in
    let planned = all_planned total None 0 [] [] false [] [] es told (at_the_start es) in
    let again : elements_of ds ≡ laid_elements None [] [] es = relaid total [] false [] None 0 [] [] es planned told in
    record {
      tokens = tokens_cut ds;
      has = cuts_have ds written;
      same = ap apart (planned_tokens total [] (plans_of es) planned) ∙ same_at_start es told (at_the_start es)
          ∙ ap apart (sym (text_tokens cs ∙ ap element_tokens is));
      comments = text_comments ds written ∙ ap (element_comments 0) again ∙ same_comments 0 None [] [] es
          ∙ sym (text_comments cs spelled ∙ ap (element_comments 0) is);
      settled =
          (let old : pieces_of (joined cs) (tokens_cut cs) ≡ element_pieces [] es = text_pieces cs spelled ∙ ap (element_pieces []) is in
          let new : pieces_of (joined ds) (tokens_cut ds) ≡ element_pieces [] (laid_elements None [] [] es) =
          text_pieces ds written ∙ ap (element_pieces []) again in
          subst (λ ps. ArePieces ps (pieces_of (joined ds) (tokens_cut ds))) (sym old)
          (subst (λ ps. ArePieces (element_pieces [] es) ps) (sym new) (pieces_settled [] false es told)));
    }

relays_cuts : RespellingLaws → (cs : List Cut) → AreSpelled [] cs → AreJoined [] (tokens_in (tokens_cut cs))
    → Relays (joined cs) (tokens_cut cs) (layout (pieces_of (joined cs) (tokens_cut cs)))
relays_cuts laws cs spelled follow =
    let es = elements_of cs in
    let told : AreTold [] false [] es =
    elements_told (length (joined cs)) [] false [] [] cs laws spelled (subst (AreJoined []) (text_tokens cs) follow) refl in
    let clear = elements_clear (length (joined cs)) [] false [] false 0 [] cs spelled refl (λ closes. no_false closes) in
    let written : AreSpelled [] (cuts_of (plans_of es)) = layout_is_spelled laws es told clear in
    subst (Relays (joined cs) (tokens_cut cs)) (plans_are_layout es ∙ sym (ap layout (text_pieces cs spelled)))
    (relays_elements cs spelled es refl told written)

-- ---- texts

relays : RespellingLaws → (text : List ℕ) (ts : List Spanned) (s : Script) → HasTokens text ts → Reads ts s
    → Relays text ts (layout (pieces_of text ts))
relays laws text ts s has reads =
    let cut = has_cuts text ts has in
    let follow : AreJoined [] (tokens_in (tokens_cut cut.cuts)) = subst (λ us. AreJoined [] (tokens_in us)) cut.tokens_are (tokens_joined ts s reads) in
    let whole : Relays text (tokens_cut cut.cuts) (layout (pieces_of text (tokens_cut cut.cuts))) =
    subst (λ x. Relays x (tokens_cut cut.cuts) (layout (pieces_of x (tokens_cut cut.cuts)))) (sym cut.text_is)
    (relays_cuts laws cut.cuts cut.spelled follow) in
    subst (λ us. Relays text us (layout (pieces_of text us))) (sym cut.tokens_are) whole

-- ---- scripts

-- the layout of a script is tokenized, read to the same script, and keeps the limits of paths
abbrev IsReadAgain : List ℕ → List Spanned → Script → Script → Type 0
IsReadAgain laid us s r = IsTokenized laid us × Reads us r × (exprs_faults r.items ≡ []) × (without_places r ≡ without_places s)

read_again : (ts us : List Spanned) (laid : List ℕ) (s : Script) → ¬ IsTooDeep (backwards ts) → Reads ts s → exprs_faults s.items ≡ []
    → HasTokens laid us → apart (tokens_in us) ≡ apart (tokens_in ts) → (r : Script) × IsReadAgain laid us s r
read_again ts us laid s flat reads limits has same =
    let again = same_tokens_read ts us s reads same in
    let r = again.0 in (
      r,
      (
        record { has = has; limits = λ deep. flat (script_depth_kept ts us s reads (same_parted ts us same) deep) },
        again.1,
        limits_kept s.items r.items (ap (λ x. x.items) again.2) limits,
        again.2,
      ),
    )

means_the_same : (text laid : List ℕ) (ts : List Spanned) (s : Script) (tokenized : IsTokenized text ts) → Reads ts s
    → exprs_faults s.items ≡ [] → (found : Relays text ts laid) (r : Script) → IsReadAgain laid found.tokens s r → laid ≡ layout (pieces_of text ts)
    → MeansTheSame text laid × IsLaidOut laid laid
means_the_same text laid ts s tokenized reads limits found r (again, read, kept_limits, same) is =
    let other : IsReadTo laid r = record { tokens = found.tokens; tokenized = again; reads = read; limits = kept_limits } in (
      record {
        script = s;
        other_script = r;
        read = record { tokens = ts; tokenized = tokenized; reads = reads; limits = limits };
        other_read = other;
        same_script = same;
        same_tokens = found.same;
        same_comments = found.comments;
      },
      record {
        script = r;
        is_read = other;
        layout = record {
          tokens = found.tokens;
          tokenized = again;
          is = is ∙ sym (settled_stay (pieces_of text ts) (pieces_of laid found.tokens) found.settled);
        };
      },
    )

-- a text's layout is that of the tokens that it is read by
both : TokensAreDetermined → RespellingLaws → (text laid : List ℕ) → IsLaidOut text laid → MeansTheSame text laid × IsLaidOut laid laid
both tokens laws text laid out =
    let read = out.is_read in
    let one : out.layout.tokens ≡ read.tokens = tokens.one_list text out.layout.tokens read.tokens out.layout.tokenized read.tokenized in
    let is : laid ≡ layout (pieces_of text read.tokens) = out.layout.is ∙ ap (λ ts. layout (pieces_of text ts)) one in
    let found : Relays text read.tokens laid =
    subst (Relays text read.tokens) (sym is) (relays laws text read.tokens out.script read.tokenized.has read.reads) in
    let again = read_again read.tokens found.tokens laid out.script read.tokenized.limits read.reads read.limits found.has found.same in
    means_the_same text laid read.tokens out.script read.tokenized read.reads read.limits found again.0 again.1 is

pub layouts_mean_the_same : TokensAreDetermined → RespellingLaws → LayoutsMeanTheSame
layouts_mean_the_same tokens laws text laid out = (both tokens laws text laid out).0

pub layouts_stay : TokensAreDetermined → RespellingLaws → LayoutsStay
layouts_stay tokens laws text laid out = (both tokens laws text laid out).1
