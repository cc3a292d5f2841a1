-- Fields looked up by their names.
use Rattle.std.proofs.Common.{◌≡◌, ◌≢◌, ℕ, Bool, List, [], ◌∷◌, ◌++◌, Option, Some, None, length, Ordering, Less, Equal, Greater, refl, sym, ap, ◌∙◌, subst, arith}
use Rattle.std.proofs.lemmas.Cmp.{nat_list_cmp_total, tied_itself}
use Rattle.std.specs.Cmp.Lexicographic.{slice_cmp}
use Rattle.std.specs.Option.{MatchOption}
use Rattle.std.specs.Ordering.{nat_cmp, match_ordering}
use denote.Ref.{Bor}
use Rattle.vrl_value.specs.Look.{Step}
use Rattle.vrl_value.specs.declared.value.Tag.{Tag}
use Rattle.vrl_kind.specs.Canonical.{IsBeforeFields}
use Rattle.vrl_kind.specs.Fields.{AreBefore}
use Rattle.vrl_kind.specs.KindTree.{KindTree, KnownFields, no_fields, known_field}
use Rattle.vrl_kind.specs.Kinds.{fields_at, tags_at}
use Rattle.vrl_kind.specs.Make.{last_first, named_view}
use Rattle.vrl_kind.specs.Sets.{Sets, SameSets}
use Rattle.vrl_kind.specs.Tags.{Tags}
use Rattle.vrl_kind.specs.View.{fields_view}
use Rattle.vrl_kind.specs.declared.kind.KindField.{KindField}
use Rattle.vrl_kind.proofs.Ahead.{greater}
use Rattle.vrl_place.specs.Inner.{ArePushed, FieldsAre, IsCutAt, fields_sets, opened_at, spot_sets}
use Rattle.vrl_place.specs.Sets.{or_absent_if}
use Rattle.vrl_place.specs.declared.fields.Cut.{Cut}
use Rattle.vrl_place.specs.declared.fields.Fields.{Fields}
use Rattle.vrl_place.proofs.Orders.{one_name, tags_cases}

passed : (o : Ordering) (X I : Tags) → o ≢ Equal → match_ordering o X I X ≡ X
passed Less X I ne = refl
passed Equal X I ne = absurd (ne refl)
passed Greater X I ne = refl

met : (o : Ordering) (X I : Tags) → o ≡ Equal → match_ordering o X I X ≡ I
met Less X I e = cc
met Equal X I e = refl
met Greater X I e = cc

-- a name behind another is none of those before that one
past : (k m : List ℕ) → slice_cmp nat_cmp m k ≡ Less → slice_cmp nat_cmp k m ≢ Equal
past k m less same =
    let over : slice_cmp nat_cmp k m ≡ Greater = greater m k less in
    cc

ahead : (k m : List ℕ) → slice_cmp nat_cmp k m ≡ Less → slice_cmp nat_cmp k m ≢ Equal
ahead k m less same = cc

-- ---- what is known of one name

passed_before : (k : List ℕ) (ls fs : List KindField) (p : List Step) (T : Tags) → AreBefore k ls → fields_at (fields_view (ls ++ fs)) k p T ≡ fields_at (fields_view fs) k p T
passed_before k [] fs p T before = refl
passed_before k (f ∷ ls) fs p T before =
    passed (slice_cmp nat_cmp k f.name) (fields_at (fields_view (ls ++ fs)) k p T) (tags_at f.kind p) (past k f.name before.0) ∙ passed_before k ls fs p T before.1

passed_behind : (k : List ℕ) (fs : KnownFields) (p : List Step) (T : Tags) → IsBeforeFields k fs → fields_at fs k p T ≡ T
passed_behind k no_fields p T before = refl
passed_behind k (known_field m j fs) p T before = passed (slice_cmp nat_cmp k m) (fields_at fs k p T) (tags_at j p) (ahead k m before.0) ∙ passed_behind k fs p T before.1

known_at : (k : List ℕ) (fs ls rs : List KindField) (f : KindField) (p : List Step) (T : Tags) → fs ≡ ls ++ f ∷ rs → f.name ≡ k → AreBefore k ls → tags_at f.kind p ≡ fields_at (fields_view fs) k p T
known_at k fs ls rs f p T whole name before =
    sym (ap (λ xs. fields_at (fields_view xs) k p T) whole
    ∙ passed_before k ls (f ∷ rs) p T before
    ∙ met (slice_cmp nat_cmp k f.name) (fields_at (fields_view rs) k p T) (tags_at f.kind p) (ap (slice_cmp nat_cmp k) name ∙ tied_itself nat_list_cmp_total k))

unknown_at : (k : List ℕ) (fs ls rs : List KindField) (p : List Step) (T : Tags) → fs ≡ ls ++ rs → AreBefore k ls → IsBeforeFields k (fields_view rs) → T ≡ fields_at (fields_view fs) k p T
unknown_at k fs ls rs p T whole before behind =
    sym (ap (λ xs. fields_at (fields_view xs) k p T) whole ∙ passed_before k ls rs p T before ∙ passed_behind k (fields_view rs) p T behind)

-- where a cut has a field, and where it has none
pub field_found : (k : List ℕ) (fs : List KindField) (cut : Cut) (f : Bor KindField) → IsCutAt k fs cut → cut.at ≡ Some f → (p : List Step) (T : Tags) → tags_at f.now.kind p ≡ fields_at (fields_view fs) k p T
field_found k fs cut f is there p T =
    let found : (fs ≡ cut.before.now ++ f.now ∷ cut.behind.now) × (f.now.name ≡ k) =
    subst (λ o. MatchOption o (fs ≡ cut.before.now ++ cut.behind.now) (λ g. (fs ≡ cut.before.now ++ g.now ∷ cut.behind.now) × (g.now.name ≡ k))) there is.at in
    known_at k fs cut.before.now cut.behind.now f.now p T found.0 found.1 is.before

pub field_lacking : (k : List ℕ) (fs : List KindField) (cut : Cut) → IsCutAt k fs cut → cut.at ≡ None → (p : List Step) (T : Tags) → T ≡ fields_at (fields_view fs) k p T
field_lacking k fs cut is none p T =
    let whole : fs ≡ cut.before.now ++ cut.behind.now =
    subst (λ o. MatchOption o (fs ≡ cut.before.now ++ cut.behind.now) (λ g. (fs ≡ cut.before.now ++ g.now ∷ cut.behind.now) × (g.now.name ≡ k))) none is.at in
    unknown_at k fs cut.before.now cut.behind.now p T whole is.before is.behind

-- ---- what the fields say of a name, which may be absent too

opened_cong : (b : Bool) (fs : List KindField) (n : List ℕ) (p : List Step) (T U : Tags) (t : Tag) → T t ≡ U t → opened_at b fs n p T t ≡ opened_at b fs n p U t
opened_cong b [] n p T U t e = e
opened_cong b (f ∷ fs) n p T U t e = tags_cases (slice_cmp nat_cmp n f.name) _ _ _ _ _ _ t (opened_cong b fs n p T U t e) refl (opened_cong b fs n p T U t e)

absent_cases : (o : Ordering) (b : Bool) (X I : Sets) (p : List Step) (t : Tag) → match_ordering o (or_absent_if b X p) (or_absent_if b I p) (or_absent_if b X p) t ≡ or_absent_if b (λ q. match_ordering o (X q) (I q) (X q)) p t
absent_cases Less b X I [] t = refl
absent_cases Less b X I (s ∷ p) t = refl
absent_cases Equal b X I [] t = refl
absent_cases Equal b X I (s ∷ p) t = refl
absent_cases Greater b X I [] t = refl
absent_cases Greater b X I (s ∷ p) t = refl

opened_is : (b : Bool) (fs : List KindField) (n : List ℕ) (B : Sets) (p : List Step) (t : Tag) → opened_at b fs n p (or_absent_if b B p) t ≡ or_absent_if b (λ q. fields_at (fields_view fs) n q (B q)) p t
opened_is b [] n B [] t = refl
opened_is b [] n B (s ∷ p) t = refl
opened_is b (f ∷ fs) n B p t =
    tags_cases (slice_cmp nat_cmp n f.name) _ _ _ _ (or_absent_if b (tags_at f.kind) p) _ t (opened_is b fs n B p t) refl (opened_is b fs n B p t)
    ∙ absent_cases (slice_cmp nat_cmp n f.name) b (λ q. fields_at (fields_view fs) n q (B q)) (tags_at f.kind) p t

opened_over : (b : Bool) (fs gs : List KindField) (n : List ℕ) (p : List Step) (T : Tags) (t : Tag) → opened_at b (fs ++ gs) n p T t ≡ opened_at b fs n p (opened_at b gs n p T) t
opened_over b [] gs n p T t = refl
opened_over b (f ∷ fs) gs n p T t = tags_cases (slice_cmp nat_cmp n f.name) _ _ _ _ _ _ t (opened_over b fs gs n p T t) refl (opened_over b fs gs n p T t)

opened_before : (b : Bool) (k : List ℕ) (fs : List KindField) (p : List Step) (T : Tags) → AreBefore k fs → opened_at b fs k p T ≡ T
opened_before b k [] p T before = refl
opened_before b k (f ∷ fs) p T before =
    passed (slice_cmp nat_cmp k f.name) (opened_at b fs k p T) (or_absent_if b (tags_at f.kind) p) (past k f.name before.0) ∙ opened_before b k fs p T before.1

-- fields around a name say of another one what all say
opened_around : (b : Bool) (k : List ℕ) (fs ls rs : List KindField) (at : Option (Bor KindField)) (n : List ℕ) → slice_cmp nat_cmp n k ≢ Equal → MatchOption at (fs ≡ ls ++ rs) (λ f. (fs ≡ ls ++ f.now ∷ rs) × (f.now.name ≡ k))
    → (p : List Step) (T : Tags) (t : Tag) → opened_at b ls n p (opened_at b rs n p T) t ≡ opened_at b fs n p T t
opened_around b k fs ls rs None n ne whole p T t = sym (opened_over b ls rs n p T t) ∙ ap (λ xs. opened_at b xs n p T t) (sym whole)
opened_around b k fs ls rs (Some f) n ne whole p T t =
    opened_cong b ls n p _ _ t
    (ap (λ U. U t) (sym (passed (slice_cmp nat_cmp n f.now.name) (opened_at b rs n p T) (or_absent_if b (tags_at f.now.kind) p) (λ is. ne (ap (slice_cmp nat_cmp n) (sym whole.1) ∙ is)))))
    ∙ sym (opened_over b ls (f.now ∷ rs) n p T t)
    ∙ ap (λ xs. opened_at b xs n p T t) (sym whole.0)

-- ---- fields that are put behind others

last_first_end : (es : List (List ℕ × KindTree)) (n : List ℕ) (k : KindTree) (fs : KnownFields) → last_first (es ++ (n, k) ∷ []) fs ≡ known_field n k (last_first es fs)
last_first_end [] n k fs = refl
last_first_end (e ∷ es) n k fs = last_first_end es n k (known_field e.0 e.1 fs)

-- the field that was put in last counts first
pub named_end : (es : List (List ℕ × KindTree)) (n : List ℕ) (k : KindTree) → named_view (es ++ (n, k) ∷ []) ≡ known_field n k (named_view es)
named_end es n k = last_first_end es n k _

-- the fields that are left, and behind them those that were put, say what all of them say
pub record AreLeft (b : Bool) (fs ls : List KindField) (olds news : List (List ℕ × KindTree)) : Type 0 where
  pub same : (n : List ℕ) (p : List Step) (T : Tags) (t : Tag) → opened_at b ls n p (fields_at (named_view news) n p T) t ≡ opened_at b fs n p (fields_at (named_view olds) n p T) t

pub one_pushed : (b : Bool) (f : KindField) (fs ls rs : List KindField) (olds named news : List (List ℕ × KindTree)) (m : List ℕ) (K : KindTree) → ls ≡ rs ++ f ∷ [] → news ≡ named ++ (m, K) ∷ [] → m ≡ f.name → SameSets (tags_at K) (or_absent_if b (tags_at f.kind)) → AreLeft b fs ls olds named → AreLeft b fs rs olds news
one_pushed b f fs ls rs olds named news m K e put name kind are = record {
  same = λ n p T t.
      opened_cong b rs n p _ (opened_at b (f ∷ []) n p (fields_at (named_view named) n p T)) t
      (ap (λ xs. fields_at (named_view xs) n p T t) put ∙ ap (λ x. fields_at x n p T t) (named_end named m K)
      ∙ ap (λ x. match_ordering (slice_cmp nat_cmp n x) (fields_at (named_view named) n p T) (tags_at K p) (fields_at (named_view named) n p T) t) name
      ∙ tags_cases (slice_cmp nat_cmp n f.name) _ _ _ _ _ _ t refl (kind p t) refl)
      ∙ sym (opened_over b rs (f ∷ []) n p (fields_at (named_view named) n p T) t)
      ∙ ap (λ xs. opened_at b xs n p (fields_at (named_view named) n p T) t) (sym e)
      ∙ are.same n p T t;
}

pub all_pushed : (b : Bool) (fs ls : List KindField) (olds news : List (List ℕ × KindTree)) → length ls ≡ 0 → AreLeft b fs ls olds news → ArePushed b fs olds news
all_pushed b fs [] olds news none are = record { at = are.same }
all_pushed b fs (f ∷ ls) olds news none are = absurd (omega arith)

-- the fields behind a name, then that one, and then those before it
pub field_put : (fs : Fields) (k : List ℕ) (K : KindTree) (b : Bool) (cut : Cut) (none first second third : List (List ℕ × KindTree)) (m : List ℕ) → IsCutAt k fs.known.now cut → none ≡ [] → ArePushed b cut.behind.now none first → second ≡ first ++ (m, K) ∷ [] → m ≡ k → ArePushed b cut.before.now second third
    → FieldsAre fs k (tags_at K) b third
field_put fs k K b cut none first second third m is empty low put name high = record {
  at = λ n p t.
      high.at n p (or_absent_if b (spot_sets fs.behind) p) t
      ∙ ap (λ xs. opened_at b cut.before.now n p (fields_at (named_view xs) n p (or_absent_if b (spot_sets fs.behind) p)) t) (put ∙ ap (λ x. first ++ (x, K) ∷ []) name)
      ∙ ap (λ xs. opened_at b cut.before.now n p (fields_at xs n p (or_absent_if b (spot_sets fs.behind) p)) t) (named_end first k K)
      ∙ by_name (slice_cmp nat_cmp n k) n p t refl;
}
  where
    beside : (n : List ℕ) (p : List Step) (t : Tag) → slice_cmp nat_cmp n k ≢ Equal → opened_at b cut.before.now n p (fields_at (named_view first) n p (or_absent_if b (spot_sets fs.behind) p)) t ≡ or_absent_if b (fields_sets fs n) p t
    beside n p t ne =
        opened_cong b cut.before.now n p _ _ t (low.at n p (or_absent_if b (spot_sets fs.behind) p) t ∙ ap (λ xs. opened_at b cut.behind.now n p (fields_at (named_view xs) n p (or_absent_if b (spot_sets fs.behind) p)) t) empty)
        ∙ opened_around b k fs.known.now cut.before.now cut.behind.now cut.at n ne is.at p (or_absent_if b (spot_sets fs.behind) p) t
        ∙ opened_is b fs.known.now n (spot_sets fs.behind) p t

    by_name : (o : Ordering) (n : List ℕ) (p : List Step) (t : Tag) → slice_cmp nat_cmp n k ≡ o
        → opened_at b cut.before.now n p (match_ordering o (fields_at (named_view first) n p (or_absent_if b (spot_sets fs.behind) p)) (tags_at K p) (fields_at (named_view first) n p (or_absent_if b (spot_sets fs.behind) p))) t
        ≡ match_ordering o (or_absent_if b (fields_sets fs n)) (tags_at K) (or_absent_if b (fields_sets fs n)) p t
    by_name Less n p t is = beside n p t (λ e. cc)
    by_name Equal n p t same = ap (λ U. U t) (opened_before b n cut.before.now p (tags_at K p) (subst (λ x. AreBefore x cut.before.now) (sym (one_name n k same)) is.before))
    by_name Greater n p t is = beside n p t (λ e. cc)
