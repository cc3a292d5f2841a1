-- Parts of a list that were judged so far.
use Rattle.std.proofs.Common.{◌≡◌, ◌≤◌, ◌+◌, ◌<◌, ℕ, false, List, [], ◌∷◌, ◌++◌, length, drop, get_or, refl, sym, ap, ap₂, ◌∙◌, subst, append_assoc, append-nil, arith}
use Rattle.std.proofs.lemmas.List.{at_drop_all, at_drop_more, map-append}
use Rattle.vrl_kind.specs.Canonical.{never_kind}
use Rattle.vrl_kind.specs.KindTree.{KindTree}
use Rattle.vrl_state.specs.States.{IsCutOf, IsRootKind}
use Rattle.vrl_syntax.specs.Tree.{Else, Expr, Exprs, Form, no_exprs, exprs, Pairs, no_pairs, pair, array, object, span_of}
use Rattle.vrl_syntax.specs.View.{expr_of, exprs_view, pairs_view}
use Rattle.vrl_syntax.specs.declared.tree.Expr.{Expr as CodeExpr}
use Rattle.vrl_judge.specs.Rules.{Judgement, IsScalar, array_at, gives, object_at, with_codes}
use Rattle.vrl_check.specs.Judgement.{of_item, pair_names, pair_values}
use Rattle.vrl_check.specs.Judgement.{Judges, JudgesAll, no_more, one_more, JudgesItems, no_more_items, one_more_item, an_array, an_object}
use Rattle.vrl_judge.specs.Judging.{AreEnds, AreJoinedEnds, HasEnds, HasGathered, HasJudged, HaveCommonScopes, IsSettledAs, no_ends}
use Rattle.vrl_check.specs.Walking.{ExprCanBeJudged, ElseCanBeJudged, FormCanBeJudged, IsAnywhereAs, IsItemAs, IsJudgedAs, IsScriptAs, IsSequenceAs, ItemsCanBeJudged, PairsCanBeJudged}
use Rattle.vrl_judge.specs.declared.checker.Checker.{Checker}
use Rattle.vrl_judge.specs.declared.ends.Ends.{Ends}
use Rattle.vrl_judge.specs.declared.finding.Finding.{Finding}
use Rattle.vrl_check.proofs.Capable.{first_can, rest_can, values_can, values_size}
use Rattle.vrl_judge.proofs.Containers.{kinds_in, names_in}
use Rattle.vrl_judge.proofs.Parts.{behind_with}
use Rattle.vrl_judge.proofs.RootKinds.{array_root, object_root, scalar_root}
use Rattle.vrl_syntax.proofs.PartSizes.{expr_size, exprs_size, pairs_size}
use Rattle.vrl_check.proofs.Told.{judges_at}
use Rattle.vrl_judge.proofs.Joining.{common}
use Rattle.vrl_judge.proofs.Gathering.{part_are, part_then, value_ends, value_gathered, with_kind_of}
use Rattle.vrl_value.specs.declared.value.Tag.TheVariants as tag
use Rattle.vrl_check.specs.OpenRules.{language_rules}

-- ---- one part behind others

pub part_common : (before now after : Checker) (ends : Ends) (part : Finding) (j p : Judgement) → HasEnds before.state.scopes ends j → HasGathered before now j → HasJudged now after part p → HaveCommonScopes ends part.ends
part_common before now after ends part j p has_ends gathered has = common before.state.scopes ends part.ends has_ends.are (part_are before now after part j p gathered has)

-- what can be judged at one place can be at another
pub can_at : (before now : Checker) (e : Expr) → now.patterns ≡ before.patterns → ExprCanBeJudged before.patterns.now e → ExprCanBeJudged now.patterns.now e
can_at before now e same can = subst (λ ps. ExprCanBeJudged ps.now e) (sym same) can

pub form_at : (before now : Checker) (f : Form) → now.patterns ≡ before.patterns → FormCanBeJudged before.patterns.now f → FormCanBeJudged now.patterns.now f
form_at before now f same can = subst (λ ps. FormCanBeJudged ps.now f) (sym same) can

pub items_at : (before now : Checker) (es : Exprs) → now.patterns ≡ before.patterns → ItemsCanBeJudged before.patterns.now es → ItemsCanBeJudged now.patterns.now es
items_at before now es same can = subst (λ ps. ItemsCanBeJudged ps.now es) (sym same) can

pub else_at : (before now : Checker) (otherwise : Else) → now.patterns ≡ before.patterns → ElseCanBeJudged before.patterns.now otherwise → ElseCanBeJudged now.patterns.now otherwise
else_at before now otherwise same can = subst (λ ps. ElseCanBeJudged ps.now otherwise) (sym same) can

-- ---- items

-- what is judged of what is left, behind what was judged so far, is judged of the whole
pub record IsPartway (before now : Checker) (K : KindTree) (whole left : Exprs) (ends : Ends) (Ks : List KindTree) (j : Judgement) : Type 0 where
  pub leads : (more : List KindTree) (k : Judgement) → JudgesAll (language_rules before.patterns.now) before.inside j left more k → JudgesAll (language_rules before.patterns.now) before.inside (gives K before.state.known) whole (Ks ++ more) k
  pub has_ends : HasEnds before.state.scopes ends j
  pub gathered : HasGathered before now j
  pub can : ItemsCanBeJudged before.patterns.now left
  pub fewer : exprs_size left ≤ exprs_size whole

partway_first : (before : Checker) (K : KindTree) (whole : Exprs) → ItemsCanBeJudged before.patterns.now whole → IsPartway before before K whole whole no_ends [] (gives K before.state.known)
partway_first before K whole can = record { leads = λ more k all. all; has_ends = value_ends before K; gathered = value_gathered before K; can = can; fewer = omega arith }

-- one more part
partway_next : (before now after : Checker) (K : KindTree) (whole rest : Exprs) (e : Expr) (ends next : Ends) (part : Finding) (Ks : List KindTree) (j p : Judgement)
    → IsPartway before now K whole (exprs e rest) ends Ks j → Judges (language_rules now.patterns.now) now.inside now.state.known e p → HasJudged now after part p → AreJoinedEnds ends part.ends next → AreEnds before.state.scopes next
    → IsPartway before after K whole rest next (Ks ++ (part.kind ∷ [])) (behind_with next j p)
partway_next before now after K whole rest e ends next part Ks j p so_far judges has joined are =
    let all = part_then before now after ends next part j p so_far.has_ends so_far.gathered has joined are in
    let from : Judges (language_rules before.patterns.now) before.inside j.ok e p = judges_at before now j.ok e p so_far.gathered.patterns so_far.gathered.inside so_far.gathered.ok judges in
    let fewer = so_far.fewer in
    record {
      leads = λ more k rest_all.
          let kinds : Ks ++ (p.kind ∷ more) ≡ (Ks ++ (part.kind ∷ [])) ++ more = ap (λ L. Ks ++ (L ∷ more)) (sym has.kind) ∙ sym (append_assoc Ks (part.kind ∷ []) more) in
          subst (λ Ls. JudgesAll (language_rules before.patterns.now) before.inside (gives K before.state.known) whole Ls k) kinds (so_far.leads (p.kind ∷ more) k (one_more from all.in_order rest_all));
      has_ends = all.ends;
      gathered = all.gathered;
      can = rest_can e rest so_far.can;
      fewer = omega (arith, fewer);
    }

partway_end : (before now : Checker) (K : KindTree) (whole : Exprs) (ends : Ends) (Ks : List KindTree) (j : Judgement) → IsPartway before now K whole no_exprs ends Ks j → JudgesAll (language_rules before.patterns.now) before.inside (gives K before.state.known) whole Ks j
partway_end before now K whole ends Ks j so_far = subst (λ Ls. JudgesAll (language_rules before.patterns.now) before.inside (gives K before.state.known) whole Ls j) (append-nil Ks) (so_far.leads [] j no_more)

-- the next of the items that are left, and their end
pub next_item : (all : List CodeExpr) (i : ℕ) (e : CodeExpr) → i < length all → e ≡ get_or all i e → exprs_view (drop i all) ≡ exprs (expr_of e) (exprs_view (drop (i + 1) all))
next_item all i e below is = at_drop_more exprs_view all i e below ∙ ap (λ x. exprs (expr_of x) (exprs_view (drop (i + 1) all))) (sym is)

pub no_item_left : (all : List CodeExpr) (i : ℕ) → length all ≤ i → exprs_view (drop i all) ≡ no_exprs
no_item_left all i end = at_drop_all exprs_view all i end

pub next_pair : (all : List (List ℕ × CodeExpr)) (i : ℕ) (e : List ℕ × CodeExpr) → i < length all → e ≡ get_or all i e → pairs_view (drop i all) ≡ pair e.0 (expr_of e.1) (pairs_view (drop (i + 1) all))
next_pair all i e below is = at_drop_more pairs_view all i e below ∙ ap (λ x. pair x.0 (expr_of x.1) (pairs_view (drop (i + 1) all))) (sym is)

pub no_pair_left : (all : List (List ℕ × CodeExpr)) (i : ℕ) → length all ≤ i → pairs_view (drop i all) ≡ no_pairs
no_pair_left all i end = at_drop_all pairs_view all i end

-- ---- arrays

pub record IsArrayPartway (before now : Checker) (whole left : Exprs) (ends : Ends) (Ks : List KindTree) : Type 0 where
  pub j : Judgement
  pub so_far : IsPartway before now never_kind whole left ends Ks j

pub array_first : (before : Checker) (whole left : Exprs) (ends : Ends) (Ks : List KindTree) → left ≡ whole → ends ≡ no_ends → Ks ≡ [] → ItemsCanBeJudged before.patterns.now whole → IsArrayPartway before before whole left ends Ks
array_first before whole left ends Ks all none empty can =
    let first = partway_first before never_kind whole can in
    subst (λ l. IsArrayPartway before before whole l ends Ks) (sym all)
    (subst (λ e. IsArrayPartway before before whole whole e Ks) (sym none)
    (subst (λ Ls. IsArrayPartway before before whole whole no_ends Ls) (sym empty) (record { j = gives never_kind before.state.known; so_far = first })))

pub array_can_next : (before now : Checker) (whole left rest : Exprs) (e : Expr) (ends : Ends) (Ks : List KindTree) → left ≡ exprs e rest → IsArrayPartway before now whole left ends Ks → ExprCanBeJudged now.patterns.now e
array_can_next before now whole left rest e ends Ks is so_far = can_at before now e so_far.so_far.gathered.patterns (first_can e rest (subst (ItemsCanBeJudged before.patterns.now) is so_far.so_far.can))

pub array_fewer : (before now : Checker) (whole left rest : Exprs) (e : Expr) (ends : Ends) (Ks : List KindTree) → left ≡ exprs e rest → IsArrayPartway before now whole left ends Ks → expr_size e ≤ exprs_size whole
array_fewer before now whole left rest e ends Ks is so_far = let fewer : exprs_size (exprs e rest) ≤ exprs_size whole = subst (λ l. exprs_size l ≤ exprs_size whole) is so_far.so_far.fewer in omega (arith, fewer)

pub array_common : (before now after : Checker) (whole left : Exprs) (e : Expr) (ends : Ends) (part : Finding) (Ks : List KindTree) → IsArrayPartway before now whole left ends Ks → IsJudgedAs e now after part → HaveCommonScopes ends part.ends
array_common before now after whole left e ends part Ks so_far judged = part_common before now after ends part so_far.j judged.0 so_far.so_far.has_ends so_far.so_far.gathered judged.2

pub array_next : (before now after : Checker) (whole left rest : Exprs) (e : Expr) (ends next : Ends) (part : Finding) (Ks Ls : List KindTree) → left ≡ exprs e rest → Ls ≡ Ks ++ (part.kind ∷ [])
    → IsArrayPartway before now whole left ends Ks → IsJudgedAs e now after part → AreJoinedEnds ends part.ends next → (AreEnds before.state.scopes ends → AreEnds before.state.scopes part.ends → AreEnds before.state.scopes next)
    → IsArrayPartway before after whole rest next Ls
array_next before now after whole left rest e ends next part Ks Ls is more so_far judged joined are =
    let here = subst (λ l. IsPartway before now never_kind whole l ends Ks so_far.j) is so_far.so_far in
    let both = are here.has_ends.are (part_are before now after part so_far.j judged.0 here.gathered judged.2) in
    record {
      j = behind_with next so_far.j judged.0;
      so_far = subst (λ Ms. IsPartway before after never_kind whole rest next Ms (behind_with next so_far.j judged.0)) (sym more) (partway_next before now after never_kind whole rest e ends next part Ks so_far.j judged.0 here judged.1 judged.2 joined both);
    }

pub array_given : (before now : Checker) (whole left : Exprs) (ends : Ends) (Ks : List KindTree) (K : KindTree) → left ≡ no_exprs → IsArrayPartway before now whole left ends Ks → IsCutOf (array_at Ks) K → IsAnywhereAs (array whole) before now (record { kind = K; ends = ends })
array_given before now whole left ends Ks K is so_far cut span known alive =
    let here = subst (λ l. IsPartway before now never_kind whole l ends Ks so_far.j) is so_far.so_far in
    let all = subst (λ k. JudgesAll (language_rules before.patterns.now) before.inside (gives never_kind k) whole Ks so_far.j) alive (partway_end before now never_kind whole ends Ks so_far.j here) in
    (record so_far.j { kind = K }, an_array all cut, with_kind_of before now ends so_far.j K here.has_ends here.gathered (array_root Ks K cut))

-- ---- objects

pub record IsObjectPartway (before now : Checker) (whole left : Pairs) (ends : Ends) (es : List (List ℕ × KindTree)) : Type 0 where
  pub values : IsArrayPartway before now (pair_values whole) (pair_values left) ends (kinds_in es)
  pub names : names_in es ++ pair_names left ≡ pair_names whole

pub object_first : (before : Checker) (whole left : Pairs) (ends : Ends) (es : List (List ℕ × KindTree)) → left ≡ whole → ends ≡ no_ends → es ≡ [] → PairsCanBeJudged before.patterns.now whole → IsObjectPartway before before whole left ends es
object_first before whole left ends es all none empty can = record {
  values = array_first before (pair_values whole) (pair_values left) ends (kinds_in es) (ap pair_values all) none (ap kinds_in empty) (values_can whole can);
  names = ap₂ (λ ns ps. ns ++ pair_names ps) (ap names_in empty) all;
}

pub object_can_next : (before now : Checker) (whole left rest : Pairs) (n : List ℕ) (e : Expr) (ends : Ends) (es : List (List ℕ × KindTree)) → left ≡ pair n e rest → IsObjectPartway before now whole left ends es → ExprCanBeJudged now.patterns.now e
object_can_next before now whole left rest n e ends es is so_far = array_can_next before now (pair_values whole) (pair_values left) (pair_values rest) e ends (kinds_in es) (ap pair_values is) so_far.values

pub object_fewer : (before now : Checker) (whole left rest : Pairs) (n : List ℕ) (e : Expr) (ends : Ends) (es : List (List ℕ × KindTree)) → left ≡ pair n e rest → IsObjectPartway before now whole left ends es → expr_size e ≤ pairs_size whole
object_fewer before now whole left rest n e ends es is so_far =
    subst (λ k. expr_size e ≤ k) (values_size whole) (array_fewer before now (pair_values whole) (pair_values left) (pair_values rest) e ends (kinds_in es) (ap pair_values is) so_far.values)

pub object_common : (before now after : Checker) (whole left : Pairs) (e : Expr) (ends : Ends) (part : Finding) (es : List (List ℕ × KindTree)) → IsObjectPartway before now whole left ends es → IsJudgedAs e now after part → HaveCommonScopes ends part.ends
object_common before now after whole left e ends part es so_far judged = array_common before now after (pair_values whole) (pair_values left) e ends part (kinds_in es) so_far.values judged

pub object_next : (before now after : Checker) (whole left rest : Pairs) (n : List ℕ) (e : Expr) (ends next : Ends) (part : Finding) (es fs : List (List ℕ × KindTree)) → left ≡ pair n e rest → fs ≡ es ++ ((n, part.kind) ∷ [])
    → IsObjectPartway before now whole left ends es → IsJudgedAs e now after part → AreJoinedEnds ends part.ends next → (AreEnds before.state.scopes ends → AreEnds before.state.scopes part.ends → AreEnds before.state.scopes next)
    → IsObjectPartway before after whole rest next fs
object_next before now after whole left rest n e ends next part es fs is more so_far judged joined are = record {
  values = array_next before now after (pair_values whole) (pair_values left) (pair_values rest) e ends next part (kinds_in es) (kinds_in fs) (ap pair_values is)
      (ap kinds_in more ∙ map-append (λ f. f.1) es ((n, part.kind) ∷ [])) so_far.values judged joined are;
  names = ap (λ gs. names_in gs ++ pair_names rest) more
      ∙ ap (λ ns. ns ++ pair_names rest) (map-append (λ f. f.0) es ((n, part.kind) ∷ []))
      ∙ append_assoc (names_in es) (n ∷ []) (pair_names rest)
      ∙ ap (λ ps. names_in es ++ pair_names ps) (sym is)
      ∙ so_far.names;
}

pub object_given : (before now : Checker) (whole left : Pairs) (ends : Ends) (es : List (List ℕ × KindTree)) (K : KindTree) → left ≡ no_pairs → IsObjectPartway before now whole left ends es → IsCutOf (object_at (names_in es) (kinds_in es)) K
    → IsAnywhereAs (object whole) before now (record { kind = K; ends = ends })
object_given before now whole left ends es K is so_far cut span known alive =
    let Ks = kinds_in es in
    let j = so_far.values.j in
    let here = subst (λ l. IsPartway before now never_kind (pair_values whole) (pair_values l) ends Ks j) is so_far.values.so_far in
    let all = subst (λ k. JudgesAll (language_rules before.patterns.now) before.inside (gives never_kind k) (pair_values whole) Ks j) alive (partway_end before now never_kind (pair_values whole) ends Ks j here) in
    let names : names_in es ≡ pair_names whole = sym (append-nil (names_in es)) ∙ ap (λ ps. names_in es ++ pair_names ps) (sym is) ∙ so_far.names in
    let named = subst (λ ns. IsCutOf (object_at ns Ks) K) names cut in
    (record j { kind = K }, an_object all named, with_kind_of before now ends j K here.has_ends here.gathered (object_root (names_in es) Ks K cut))

-- ---- items of a block

pub record IsSequencePartway (before now : Checker) (whole left : Exprs) (last : Finding) : Type 0 where
  pub N : KindTree
  pub Ks : List KindTree
  pub j : Judgement
  pub null : IsScalar tag.Null N
  pub so_far : IsPartway before now N whole left last.ends Ks j
  pub kind : last.kind ≡ j.kind
  pub root : IsRootKind j.kind

pub sequence_first : (before : Checker) (whole left : Exprs) (last : Finding) (N : KindTree) → left ≡ whole → last.kind ≡ N → last.ends ≡ no_ends → IsScalar tag.Null N → ItemsCanBeJudged before.patterns.now whole → IsSequencePartway before before whole left last
sequence_first before whole left last N all is none null can = record {
  N = N;
  Ks = [];
  j = gives N before.state.known;
  null = null;
  so_far = subst (λ l. IsPartway before before N whole l last.ends [] (gives N before.state.known)) (sym all)
      (subst (λ e. IsPartway before before N whole whole e [] (gives N before.state.known)) (sym none) (partway_first before N whole can));
  kind = is;
  root = scalar_root tag.Null N null refl;
}

pub sequence_can_next : (before now : Checker) (whole left rest : Exprs) (e : Expr) (last : Finding) → left ≡ exprs e rest → IsSequencePartway before now whole left last → ExprCanBeJudged now.patterns.now e
sequence_can_next before now whole left rest e last is so_far = can_at before now e so_far.so_far.gathered.patterns (first_can e rest (subst (ItemsCanBeJudged before.patterns.now) is so_far.so_far.can))

pub sequence_fewer : (before now : Checker) (whole left rest : Exprs) (e : Expr) (last : Finding) → left ≡ exprs e rest → IsSequencePartway before now whole left last → expr_size e ≤ exprs_size whole
sequence_fewer before now whole left rest e last is so_far = let fewer : exprs_size (exprs e rest) ≤ exprs_size whole = subst (λ l. exprs_size l ≤ exprs_size whole) is so_far.so_far.fewer in omega (arith, fewer)

pub sequence_common : (before now after : Checker) (whole left : Exprs) (e : Expr) (last part : Finding) → IsSequencePartway before now whole left last → IsJudgedAs e now after part → HaveCommonScopes last.ends part.ends
sequence_common before now after whole left e last part so_far judged = part_common before now after last.ends part so_far.j judged.0 so_far.so_far.has_ends so_far.so_far.gathered judged.2

pub sequence_next : (before now after : Checker) (whole left rest : Exprs) (e : Expr) (last next part : Finding) → left ≡ exprs e rest
    → IsSequencePartway before now whole left last → IsJudgedAs e now after part → next.kind ≡ part.kind → AreJoinedEnds last.ends part.ends next.ends → (AreEnds before.state.scopes last.ends → AreEnds before.state.scopes part.ends → AreEnds before.state.scopes next.ends)
    → IsSequencePartway before after whole rest next
sequence_next before now after whole left rest e last next part is so_far judged same joined are =
    let here = subst (λ l. IsPartway before now so_far.N whole l last.ends so_far.Ks so_far.j) is so_far.so_far in
    let both = are here.has_ends.are (part_are before now after part so_far.j judged.0 here.gathered judged.2) in
    record {
      N = so_far.N;
      Ks = so_far.Ks ++ (part.kind ∷ []);
      j = behind_with next.ends so_far.j judged.0;
      null = so_far.null;
      so_far = partway_next before now after so_far.N whole rest e last.ends next.ends part so_far.Ks so_far.j judged.0 here judged.1 judged.2 joined both;
      kind = same ∙ judged.2.kind;
      root = judged.2.root;
    }

pub sequence_end : (before now : Checker) (whole left : Exprs) (last : Finding) → left ≡ no_exprs → IsSequencePartway before now whole left last → IsSequenceAs whole before now last
sequence_end before now whole left last is so_far known alive =
    let here = subst (λ l. IsPartway before now so_far.N whole l last.ends so_far.Ks so_far.j) is so_far.so_far in
    let all = subst (λ k. JudgesAll (language_rules before.patterns.now) before.inside (gives so_far.N k) whole so_far.Ks so_far.j) alive (partway_end before now so_far.N whole last.ends so_far.Ks so_far.j here) in
    (so_far.N, so_far.Ks, so_far.j, so_far.null, all, record { kind = so_far.kind; root = so_far.root; ends = here.has_ends; gathered = here.gathered })

-- ---- items of a script

pub record IsScriptPartway (before now : Checker) (whole left : Exprs) (last : Finding) : Type 0 where
  pub N : KindTree
  pub j : Judgement
  pub null : IsScalar tag.Null N
  pub leads : (k : Judgement) → JudgesItems (language_rules before.patterns.now) j left k → JudgesItems (language_rules before.patterns.now) (gives N before.state.known) whole k
  pub has : HasJudged before now last j
  pub can : ItemsCanBeJudged before.patterns.now left
  pub outside : before.inside ≡ false

pub script_first : (before : Checker) (whole left : Exprs) (last : Finding) (N : KindTree) → left ≡ whole → last.kind ≡ N → last.ends ≡ no_ends → IsScalar tag.Null N → ItemsCanBeJudged before.patterns.now whole → before.inside ≡ false → IsScriptPartway before before whole left last
script_first before whole left last N all is none null can outside =
    let first : IsScriptPartway before before whole whole last = record {
      N = N;
      j = gives N before.state.known;
      null = null;
      leads = λ k items. items;
      has = record {
        kind = is;
        root = scalar_root tag.Null N null refl;
        ends = subst (λ e. HasEnds before.state.scopes e (gives N before.state.known)) (sym none) (value_ends before N);
        gathered = value_gathered before N;
      };
      can = can;
      outside = outside;
    } in
    subst (λ l. IsScriptPartway before before whole l last) (sym all) first

pub script_can_next : (before now : Checker) (whole left rest : Exprs) (e : Expr) (last : Finding) → left ≡ exprs e rest → IsScriptPartway before now whole left last → ExprCanBeJudged now.patterns.now e
script_can_next before now whole left rest e last is so_far = can_at before now e so_far.has.gathered.patterns (first_can e rest (subst (ItemsCanBeJudged before.patterns.now) is so_far.can))

pub script_common : (before now after : Checker) (whole left : Exprs) (e : Expr) (last part : Finding) → IsScriptPartway before now whole left last → IsItemAs e now after part → HaveCommonScopes last.ends part.ends
script_common before now after whole left e last part so_far item =
    part_common before now after last.ends part so_far.j (with_codes (of_item (span_of e) item.0) item.0) so_far.has.ends so_far.has.gathered item.2

pub script_next : (before now after : Checker) (whole left rest : Exprs) (e : Expr) (last next part : Finding) → left ≡ exprs e rest
    → IsScriptPartway before now whole left last → IsItemAs e now after part → next.kind ≡ part.kind → AreJoinedEnds last.ends part.ends next.ends → (AreEnds before.state.scopes last.ends → AreEnds before.state.scopes part.ends → AreEnds before.state.scopes next.ends)
    → IsScriptPartway before after whole rest next
script_next before now after whole left rest e last next part is so_far item same joined are =
    let told = with_codes (of_item (span_of e) item.0) item.0 in
    let both = are so_far.has.ends.are (part_are before now after part so_far.j told so_far.has.gathered item.2) in
    let all = part_then before now after last.ends next.ends part so_far.j told so_far.has.ends so_far.has.gathered item.2 joined both in
    let from : Judges (language_rules before.patterns.now) false so_far.j.ok e item.0 =
    subst (λ b. Judges (language_rules before.patterns.now) b so_far.j.ok e item.0) so_far.outside (judges_at before now so_far.j.ok e item.0 so_far.has.gathered.patterns so_far.has.gathered.inside so_far.has.gathered.ok item.1)
    in
    record {
      N = so_far.N;
      j = behind_with next.ends so_far.j told;
      null = so_far.null;
      leads = λ k items. so_far.leads k (subst (λ l. JudgesItems (language_rules before.patterns.now) so_far.j l k) (sym is) (one_more_item from all.in_order items));
      has = record { kind = same ∙ item.2.kind; root = item.2.root; ends = all.ends; gathered = all.gathered };
      can = rest_can e rest (subst (ItemsCanBeJudged before.patterns.now) is so_far.can);
      outside = so_far.outside;
    }

pub script_end : (before now : Checker) (whole left : Exprs) (last finding : Finding) → left ≡ no_exprs → IsScriptPartway before now whole left last → IsSettledAs last now finding → IsScriptAs whole before now finding
script_end before now whole left last finding is so_far settles =
    let has = settles before so_far.j so_far.has in
    (so_far.N, so_far.j, so_far.null, so_far.leads so_far.j (subst (λ l. JudgesItems (language_rules before.patterns.now) so_far.j l so_far.j) (sym is) no_more_items), has)
