-- The words in which the rules of the judgement are told: kinds by their tags, what a part was
-- judged to be, what a rule asks of it, and the codes of each form. The rules are those of the
-- Vector Remap Language; the codes are those of its error reference, and some of this project's
-- own. Every kind is cut, and so is every join.
use Rattle.std.specs.Prelude.{◌≡◌, ℕ, zero, suc, Bool, true, false, ◌||◌, ◌&&◌, not, List, [], ◌∷◌, ◌++◌, slice_get, Option, Some, None, is_some, bytes_eq, find, unwrap_or, if◌then◌else◌, option_map}
use Rattle.std.specs.List.{list_any}
use Rattle.vrl_value.specs.Look.{field, place}
use Rattle.vrl_value.specs.declared.value.Tag.{Tag}
use Rattle.vrl_diag.specs.declared.diagnostic.Span.{Span}
use Rattle.vrl_diag.specs.declared.diagnostic.Diagnostic.{Diagnostic}
use Rattle.vrl_diag.specs.Refusal.{is_error}
use Rattle.vrl_syntax.specs.Stores.{is_metadata, left_in}
use Rattle.vrl_syntax.specs.Tree.{Expr, expr, binary}
use Rattle.vrl_syntax.specs.declared.root.Op.{Op}
use Rattle.vrl_syntax.specs.declared.root.Root.{Root}
use Rattle.vrl_syntax.specs.declared.root.Target.{Target}
use Rattle.vrl_syntax.specs.declared.root.Target.TheVariants.{Nowhere, Place}
use Rattle.vrl_kind.specs.Canonical.{IsCanonical, any_kind, never_kind}
use Rattle.vrl_kind.specs.Cut.{IsCut}
use Rattle.vrl_kind.specs.KindTree.{KindTree}
use Rattle.vrl_kind.specs.Kinds.{found_at, is_absence, root_tags, tags_at, without_at}
use Rattle.vrl_kind.specs.Overlay.{overlaid_at}
use Rattle.vrl_kind.specs.Sets.{Sets}
use Rattle.vrl_kind.specs.Tags.{Tags, all_tags, never, only, same_tag}
use Rattle.vrl_place.specs.Read.{allowed, HasJust}
use Rattle.vrl_place.specs.Sets.{is_alone}
use Rattle.vrl_state.specs.States.{RootMap, with_kind, IsCutOf, IsEither, IsJoined}
use Rattle.vrl_builtin.specs.TagSets.{allows}
use Rattle.vrl_builtin.specs.declared.tags.Tags.{Tags as TagSet}
use Rattle.vrl_judge.specs.declared.prefix.Prefix.{Prefix}
use Rattle.std.specs.FinMap as map
use Rattle.vrl_value.specs.declared.value.Tag.TheVariants as tag
use Rattle.vrl_path.specs.declared.path.Step as steps
use Rattle.vrl_syntax.specs.declared.root.Op.TheVariants as op
use Rattle.vrl_syntax.specs.declared.root.Root.TheVariants as root
use Rattle.vrl_judge.specs.declared.prefix.Prefix.TheVariants as prefix
use Rattle.vrl_place.specs.Read as places
use Rattle.vrl_state.specs.States as states

-- ---- kinds by their tags

-- some tag of the kind passes the test
unfoldable pub some_tag : (Tag → Bool) → KindTree → Bool
some_tag test K = list_any (λ t. root_tags K t && test t) all_tags

-- the kind of what is read at a path of a kind, cut
pub record IsReadAt (K : KindTree) (path : List steps.Step) (M : KindTree) : Type 0 where
  pub whole : KindTree
  pub canonical : IsCanonical whole
  pub tags : HasJust (tags_at whole) (places.read (allowed (tags_at K)) path)
  pub is_cut : IsCut whole M

-- the kind of scalars alone
abbrev pub scalars_at : Tags → Sets
scalars_at T [] = T
scalars_at T (s ∷ p) = never

abbrev pub IsScalar : Tag → KindTree → Type 0
IsScalar t K = IsCutOf (scalars_at (only t)) K

-- arrays with these kinds at their places, and no other
abbrev pub items_at : List KindTree → ℕ → Sets
items_at [] i p = is_absence p
items_at (K ∷ Ks) zero p = tags_at K p
items_at (K ∷ Ks) (suc i) p = items_at Ks i p

abbrev pub array_at : List KindTree → Sets
array_at Ks [] = only tag.List
array_at Ks (place i ∷ p) = items_at Ks i p
array_at Ks (field n ∷ p) = never

-- objects with these kinds at their fields, of equal names the last, and no other
abbrev pub last_or : {A : Type 0} → Option A → Option A → Option A
last_or None b = b
last_or (Some a) b = Some a

abbrev pub named_at : List (List ℕ) → List KindTree → List ℕ → Option KindTree
named_at (m ∷ ms) (K ∷ Ks) n = last_or (named_at ms Ks n) (if bytes_eq m n then Some K else None)
named_at ms Ks n = None

abbrev pub field_of : Option KindTree → Sets
field_of None p = is_absence p
field_of (Some K) p = tags_at K p

abbrev pub object_at : List (List ℕ) → List KindTree → Sets
object_at ms Ks [] = only tag.Object
object_at ms Ks (field n ∷ p) = field_of (named_at ms Ks n) p
object_at ms Ks (place i ∷ p) = never

-- ---- judgements

-- Of a closure that is judged: what is known before each run of its body; whether what is known
-- where the call begins to run it is within that, and whether what is known behind a run is. By the
-- rules of the language both are.
pub record Loop : Type 0 where
  pub known : Option RootMap
  pub begins : Bool
  pub goes_on : Bool

pub record Judgement : Type 0 where
  -- the kind of its value; never where it can't end with one, and any where it is poisoned
  pub kind : KindTree
  -- where it ends with a value, and where with an error
  pub ok : Option RootMap
  pub fail : Option RootMap
  -- where it ends with a return, and the kind of what is returned
  pub ret : Option RootMap
  pub returned : KindTree
  -- an error code stands on it or in it
  pub poisoned : Bool
  pub codes : List Diagnostic
  -- the tag of the empty value of each error assignment in it, as they stand in the text, an outer
  -- one before those in it
  pub empties : List Tag
  -- each closure in it, as they stand in the text, an outer one before those in it; none for one
  -- that isn't judged
  pub loops : List (Option Loop)

abbrev pub is_alive : Option RootMap → Bool
is_alive known = is_some known

-- what there is, if this holds; else nothing
abbrev pub if_state : {A : Type 0} → Bool → Option A → Option A
if_state true state = state
if_state false state = None

-- nothing can happen: no value, no error, no return
abbrev pub nothing : List Tag → Judgement
nothing tags = record {
  kind = never_kind;
  ok = None;
  fail = None;
  ret = None;
  returned = never_kind;
  poisoned = false;
  codes =
      [];
  empties = tags;
  loops = [];
}

-- what gives a value of this kind, and does nothing else
abbrev pub gives : KindTree → Option RootMap → Judgement
gives K state = record (nothing []) { kind = K; ok = state }

abbrev pub at : ℕ → Span → List Diagnostic
at code span = record { code = code; span = span } ∷ []

abbrev pub when : Bool → List Diagnostic → List Diagnostic
when true ds = ds
when false ds = []

-- a form's own codes, behind those of its parts
abbrev pub with_codes : List Diagnostic → Judgement → Judgement
with_codes ds j = record j { codes = j.codes ++ ds; poisoned = j.poisoned || list_any is_error ds }

-- what is poisoned has kind any and no error is left of it; what can't end with a value has kind
-- never
abbrev pub settled_kind : Bool → Bool → KindTree → KindTree
settled_kind true alive K = any_kind
settled_kind false true K = K
settled_kind false false K = never_kind

abbrev pub settle : Judgement → Judgement
settle j = record j { kind = settled_kind j.poisoned (is_alive j.ok) j.kind; fail = if_state (not j.poisoned) j.fail }

-- ---- what a rule asks of a part

-- a code about the kind of a part stands only where the part can end with a value and has no error
-- of its own
abbrev pub is_known : Judgement → Bool
is_known j = is_alive j.ok && not j.poisoned

-- the part has a kind that isn't exactly this tag
abbrev pub is_other : Tag → Judgement → Bool
is_other t j = is_known j && not (is_alone (root_tags j.kind) t)

-- the part may end with an error
abbrev pub is_fallible : Judgement → Bool
is_fallible j = is_alive j.fail

-- the part can't end with an error, and no error code tells why
abbrev pub is_needless : Judgement → Bool
is_needless j = not (j.poisoned || is_fallible j)

-- the kind allows a boolean or null
abbrev pub may_be_truth : KindTree → Bool
may_be_truth K = root_tags K tag.Bool || root_tags K tag.Null

-- the kind allows something else
abbrev pub may_be_no_truth : KindTree → Bool
may_be_no_truth K = some_tag (λ t. not (same_tag t tag.Bool || same_tag t tag.Null)) K

-- ---- parts in order, and alternatives

-- one part behind others: it is judged where these end with a value, and the whole ends so where it
-- does
pub record IsBehind (before part after : Judgement) : Type 0 where
  pub kind : after.kind ≡ part.kind
  pub ok : after.ok ≡ part.ok
  pub ret : IsJoined before.ret part.ret after.ret
  pub returned : IsEither before.returned part.returned after.returned
  pub poisoned : after.poisoned ≡ (before.poisoned || part.poisoned)
  pub codes : after.codes ≡ before.codes ++ part.codes
  pub empties : after.empties ≡ before.empties ++ part.empties
  pub loops : after.loops ≡ before.loops ++ part.loops

-- the same, and the whole ends with an error where any of them does
pub record IsThen (before part after : Judgement) : Type 0 where
  pub behind : IsBehind before part after
  pub fail : IsJoined before.fail part.fail after.fail

-- the names of a block or a branch end with it: what is known behind it is known before it
abbrev pub without_new_names : RootMap → RootMap → RootMap
without_new_names before after =
    record after { variables = map.retain_keys after.variables (λ x. map.contains_key before.variables x) }

abbrev pub left : RootMap → Judgement → Judgement
left before j = record j {
  ok = option_map (without_new_names before) j.ok;
  fail = option_map
      (without_new_names before) j.fail;
  ret = option_map (without_new_names before) j.ret;
}

-- ---- operators

-- the pairs of tags that a sum takes, each with the tag of what it gives; a null beside a text
-- counts as empty
abbrev pub sum_tag : Tag → Tag → Option Tag
sum_tag tag.Int tag.Int = Some tag.Int
sum_tag tag.Text tag.Text = Some tag.Text
sum_tag tag.Text tag.Null = Some tag.Text
sum_tag tag.Null tag.Text = Some tag.Text
sum_tag a b = None

-- differences and products take whole numbers
abbrev pub number_tag : Tag → Tag → Option Tag
number_tag tag.Int tag.Int = Some tag.Int
number_tag a b = None

-- whole numbers, texts and moments are ordered
abbrev pub order_tag : Tag → Tag → Option Tag
order_tag tag.Int tag.Int = Some tag.Bool
order_tag tag.Text tag.Text = Some tag.Bool
order_tag tag.Time tag.Time = Some tag.Bool
order_tag a b = None

abbrev pub is_equality : Op → Bool
is_equality op.Equal = true
is_equality op.Unequal = true
is_equality o = false

-- some pair of tags, one of each kind, passes the test
abbrev pub some_pair : (Tag → Tag → Bool) → KindTree → KindTree → Bool
some_pair test K L = some_tag (λ a. some_tag (test a) L) K

abbrev pub is_tag : Option Tag → Tag → Bool
is_tag None t = false
is_tag (Some a) t = same_tag a t

-- the tags of what a table gives for the pairs that the kinds allow
unfoldable pub table_tags : (Tag → Tag → Option Tag) → KindTree → KindTree → Tags
table_tags table K L t = some_pair (λ a b. is_tag (table a b) t) K L

-- a comparison that isn't in parentheses
abbrev pub is_comparison : Op → Bool
is_comparison op.Less = true
is_comparison op.AtMost = true
is_comparison op.More = true
is_comparison op.AtLeast = true
is_comparison o = is_equality o

abbrev pub is_compared : Expr → Bool
is_compared (expr span (binary o l r)) = is_comparison o
is_compared e = false

-- a comparison of a comparison is 650
abbrev pub chained : Span → Op → Expr → Expr → List Diagnostic
chained span o l r = when (is_comparison o && (is_compared l || is_compared r)) (at 650 span)

-- Both operands are judged. It may end with an error where a pair that isn't in the table is
-- possible, and not with a value where none of the table is; but behind a code it goes on behind
-- both operands.
abbrev pub of_pairs : (Tag → Tag → Option Tag) → Judgement → Judgement → Judgement → KindTree → Option RootMap
    → Judgement
of_pairs table l r parts K fail = record parts {
  kind = K;
  ok = if_state (parts.poisoned || some_pair (λ a b. is_some (table a b)) l.kind r.kind) parts.ok;
  fail = fail;
}

-- `|`: each side is exactly an object, or 652 stands on it
abbrev pub no_objects : Span → Span → Judgement → Judgement → List Diagnostic
no_objects left_span right_span l r =
    when (is_other tag.Object l) (at 652 left_span) ++ when (is_other tag.Object r) (at 652 right_span)

-- The kind of a merge of two objects. Where a side isn't exactly an object the merge is poisoned or
-- gives no value, and no kind is asked for.
abbrev pub IsMergedIf : Bool → KindTree → KindTree → KindTree → Type 0
IsMergedIf true K L M = IsCutOf (overlaid_at K L) M
IsMergedIf false K L M = M ≡ any_kind

abbrev pub IsMerged : KindTree → KindTree → KindTree → Type 0
IsMerged K L M = IsMergedIf (is_alone (root_tags K) tag.Object && is_alone (root_tags L) tag.Object) K L M

-- the left side of a `||` without null, or the right one
abbrev pub or_else_at : KindTree → KindTree → Sets
or_else_at K L p t = without_at K tag.Null p t || tags_at L p t

-- ---- assignments

-- the place of a target is written; one that takes nothing changes nothing
abbrev pub IsTargetWritten : Target → KindTree → Option RootMap → Option RootMap → Type 0
IsTargetWritten Nowhere K before after = after ≡ before
IsTargetWritten (Place span root path) K before after = states.IsWritten root path K before after

abbrev pub is_nowhere : Target → Bool
is_nowhere Nowhere = true
is_nowhere (Place span root path) = false

-- the root is the event, or the metadata
abbrev pub is_prefix_of : Prefix → Root → Bool
is_prefix_of prefix.Event root.Event = true
is_prefix_of prefix.Event (root.Name x) = false
is_prefix_of prefix.Metadata r = is_metadata r

-- the target is the root itself
abbrev pub is_whole : Prefix → Target → Bool
is_whole p (Place span r []) = is_prefix_of p r
is_whole p t = false

-- the event takes an object or an array, the metadata an object
abbrev pub takes : Prefix → KindTree → Bool
takes prefix.Event K = root_tags K tag.List || root_tags K tag.Object
takes prefix.Metadata K = root_tags K tag.Object

-- the root itself is written with a kind that it doesn't take
abbrev pub is_misfit : Prefix → Target → KindTree → Bool
is_misfit p target K = is_whole p target && not (takes p K)

-- of the event that is 1006, of the metadata 1017
abbrev pub of_misfits : Span → (Prefix → Bool) → List Diagnostic
of_misfits span misfit = when (misfit prefix.Event) (at 1006 span) ++ when (misfit prefix.Metadata) (at 1017 span)

abbrev pub puts_misfit : Target → Judgement → Prefix → Bool
puts_misfit target j p = is_known j && is_misfit p target j.kind

-- `t = e`: an expression that may fail is 103, and a target that takes nothing 640
abbrev pub of_assignment : Span → Target → Judgement → List Diagnostic
of_assignment span target j = when (is_fallible j) (at 103 span) ++
    (when (is_nowhere target) (at 640 span) ++ of_misfits span (puts_misfit target j))

-- the tag of the empty value of a kind; null for a regex, for several tags and for none
abbrev pub empty_tag : KindTree → Tag
empty_tag K = unwrap_or
    (find (λ t. is_alone (root_tags K) t)
    (tag.Text ∷ tag.Int ∷ tag.Bool ∷ tag.Object ∷ tag.List ∷ tag.Time ∷ [])) tag.Null

-- What is written to `ok` is of this kind; neither root takes what is written to `err`, a text or
-- null. No code stands twice at one place.
abbrev pub writes_misfit : Target → Target → Judgement → KindTree → Prefix → Bool
writes_misfit ok err j value p =
    (is_alive j.ok || is_alive j.fail) && ((not j.poisoned && is_misfit p ok value) || is_whole p err)

-- `ok, err = e`: an expression that can't fail is 104, and two targets that take nothing are 640
abbrev pub of_error_assignment : Span → Target → Target → Judgement → KindTree → List Diagnostic
of_error_assignment span ok err j value = when (is_needless j) (at 104 span) ++
    (when (is_nowhere ok && is_nowhere err) (at 640 span) ++ of_misfits span (writes_misfit ok err j value))

-- ---- ends

-- a predicate that may fail is 1005, and one that isn't exactly a boolean 102
abbrev pub of_predicate : Span → Judgement → List Diagnostic
of_predicate span j = if is_fallible j then at 1005 span else when (is_other tag.Bool j) (at 102 span)

-- a message that may fail, or isn't exactly a text, is 1011
abbrev pub is_message_wrong : Judgement → Bool
is_message_wrong j = is_fallible j || is_other tag.Text j

abbrev pub of_message : Span → Judgement → List Diagnostic
of_message span j = when (is_message_wrong j) (at 1011 span)

-- ---- calls

-- an argument: its place from its keyword on, its value, and what that was judged to be
pub record Argument : Type 0 where
  pub span : Span
  pub value : Expr
  pub judged : Judgement

-- no tag of the kind is one of these
abbrev pub is_disjoint : TagSet → KindTree → Bool
is_disjoint T K = not (some_tag (allows T) K)

-- some tag of the kind is none of these: the kind isn't within them
abbrev pub has_others : TagSet → KindTree → Bool
has_others T K = some_tag (λ t. not (allows T t)) K

-- the argument of each parameter, where it has one
abbrev pub argument_at : List Argument → Option ℕ → Option Argument
argument_at js None = None
argument_at js (Some i) = slice_get js i

-- A `!` leaves no error. A call that can't end with one is 620, where no other error code stands on
-- it or in it.
abbrev pub banged : Span → Bool → Judgement → Judgement
banged span false j = j
banged span true j = with_codes (when (is_needless j) (at 620 span)) (record j { fail = None })

-- the state without what stands at a path; that of a root is what is left in it
abbrev pub IsDeleted : Root → List steps.Step → Option RootMap → Option RootMap → Type 0
IsDeleted root [] before after =
    (K : KindTree) × IsCutOf (found_at (left_in root)) K × (after ≡ option_map (with_kind root K) before)
IsDeleted root (step ∷ path) before after = states.IsTakenOut root (step ∷ path) before after
