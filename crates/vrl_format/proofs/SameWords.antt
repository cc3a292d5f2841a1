-- What a word says, at whatever place it stands.
use Rattle.std.proofs.Common.{◌≡◌, ℕ, Bool, true, false, List, [], ◌∷◌, Some, if◌then◌else◌, bytes_eq, codes, refl, ap, ◌∙◌}
use Rattle.vrl_path.specs.declared.path.Step.{Step}
use Rattle.vrl_diag.specs.declared.diagnostic.Span.{Span}
use Rattle.vrl_syntax.specs.Stores.{metadata}
use Rattle.vrl_syntax.specs.Tree.{Expr, expr, literal, read, group, binary, no_span}
use Rattle.vrl_syntax.specs.declared.root.Op.{Op}
use Rattle.vrl_syntax.specs.declared.root.Op.TheVariants as op
use Rattle.vrl_syntax.specs.declared.root.Root.{Root}
use Rattle.vrl_syntax.specs.declared.root.Root.TheVariants as root
use Rattle.vrl_syntax.specs.declared.root.Target.{Target}
use Rattle.vrl_syntax.specs.declared.root.Target.TheVariants as target
use Rattle.vrl_token.specs.declared.token.Hole.{Hole}
use Rattle.vrl_token.specs.declared.token.Token.{Token}
use Rattle.vrl_token.specs.declared.token.Token.TheVariants as token
use Rattle.vrl_value.specs.Tree.{Tree, string}
use Rattle.vrl_word.specs.Words.{Word, function_of, literal_at, literal_of, operator_of, path_of, target_at, target_of, template_at, template_of, text_at, with_hole, with_holes}
use Rattle.vrl_format.specs.Unplaced.{unplaced, unplaced_target}
use Rattle.vrl_format.proofs.Taking.{Same, plain}

-- ---- words that are no separators and no braces

pub target_plain : (t : Token) (s : Span) (x : Target) → target_at t s ≡ Some x → plain t ≡ true
target_plain token.Separator s x is = let nothing : ⊥ = cc in absurd nothing
target_plain token.OpenBlock s x is = let nothing : ⊥ = cc in absurd nothing
target_plain token.OpenObject s x is = let nothing : ⊥ = cc in absurd nothing
target_plain token.CloseBrace s x is = let nothing : ⊥ = cc in absurd nothing
target_plain t s x is = refl

pub literal_plain : (t : Token) (n : ℕ) (x : Tree) → literal_at t n ≡ Some x → plain t ≡ true
literal_plain token.Separator n x is = let nothing : ⊥ = cc in absurd nothing
literal_plain token.OpenBlock n x is = let nothing : ⊥ = cc in absurd nothing
literal_plain token.OpenObject n x is = let nothing : ⊥ = cc in absurd nothing
literal_plain token.CloseBrace n x is = let nothing : ⊥ = cc in absurd nothing
literal_plain t n x is = refl

pub template_plain : (t : Token) (s : Span) (x : Expr) → template_at t s ≡ Some x → plain t ≡ true
template_plain token.Separator s x is = let nothing : ⊥ = cc in absurd nothing
template_plain token.OpenBlock s x is = let nothing : ⊥ = cc in absurd nothing
template_plain token.OpenObject s x is = let nothing : ⊥ = cc in absurd nothing
template_plain token.CloseBrace s x is = let nothing : ⊥ = cc in absurd nothing
template_plain t s x is = refl

pub path_plain : (t : Token) (x : Root × List Step) → path_of t ≡ Some x → plain t ≡ true
path_plain token.Separator x is = let nothing : ⊥ = cc in absurd nothing
path_plain token.OpenBlock x is = let nothing : ⊥ = cc in absurd nothing
path_plain token.OpenObject x is = let nothing : ⊥ = cc in absurd nothing
path_plain token.CloseBrace x is = let nothing : ⊥ = cc in absurd nothing
path_plain t x is = refl

pub function_plain : (t : Token) (x : List ℕ × Bool) → function_of t ≡ Some x → plain t ≡ true
function_plain token.Separator x is = let nothing : ⊥ = cc in absurd nothing
function_plain token.OpenBlock x is = let nothing : ⊥ = cc in absurd nothing
function_plain token.OpenObject x is = let nothing : ⊥ = cc in absurd nothing
function_plain token.CloseBrace x is = let nothing : ⊥ = cc in absurd nothing
function_plain t x is = refl

pub operator_plain : (t : Token) (x : ℕ × Op) → operator_of t ≡ Some x → plain t ≡ true
operator_plain token.Separator x is = let nothing : ⊥ = cc in absurd nothing
operator_plain token.OpenBlock x is = let nothing : ⊥ = cc in absurd nothing
operator_plain token.OpenObject x is = let nothing : ⊥ = cc in absurd nothing
operator_plain token.CloseBrace x is = let nothing : ⊥ = cc in absurd nothing
operator_plain t x is = refl

-- ---- literals

pub literal_again : (v w : Word) (x : Tree) → Same v w → literal_of w ≡ Some x → literal_of v ≡ Some x
literal_again v w x same is = (λ i. literal_at (same.token i) (same.number i)) ∙ is

-- ---- targets

-- another word is a target that is the same but for its place
pub record TargetAgain (v : Word) (want : Target) : Type 0 where
  pub target : Target
  pub is : target_of v ≡ Some target
  pub same : unplaced_target target ≡ want

record TargetAt (t : Token) (s : Span) (want : Target) : Type 0 where
  target : Target
  is : target_at t s ≡ Some target
  same : unplaced_target target ≡ want

abbrev placed_or_not : Bool → Span → Root → Target
placed_or_not nowhere s r = if nowhere then target.Nowhere else target.Place s r []

same_place : (nowhere : Bool) (s u : Span) (r : Root) → unplaced_target (placed_or_not nowhere s r) ≡ unplaced_target (placed_or_not nowhere u r)
same_place true s u r = refl
same_place false s u r = refl

some_is : {A : Type 0} {x y : A} → Some x ≡ Some y → x ≡ y
some_is is = cc

target_placed : (t : Token) (s u : Span) (x : Target) → target_at t s ≡ Some x → TargetAt t u (unplaced_target x)
target_placed (token.Name n) s u x is = record {
  target = placed_or_not (bytes_eq n (codes "_")) u (root.Name n);
  is = refl;
  same = same_place (bytes_eq n (codes "_")) u s (root.Name n) ∙ ap unplaced_target (some_is is);
}
target_placed (token.NamePath n path) s u x is =
    record { target = target.Place u (root.Name n) path; is = refl; same = ap unplaced_target (some_is is) }
target_placed (token.EventPath path) s u x is =
    record { target = target.Place u root.Event path; is = refl; same = ap unplaced_target (some_is is) }
target_placed (token.MetadataPath path) s u x is =
    record { target = target.Place u metadata path; is = refl; same = ap unplaced_target (some_is is) }
target_placed t s u x is = let nothing : ⊥ = cc in absurd nothing

pub target_again : (v w : Word) (x : Target) → Same v w → target_of w ≡ Some x → TargetAgain v (unplaced_target x)
target_again v w x same is =
    let t = target_placed w.token w.span v.span x is in
    record { target = t.target; is = ap (λ u. target_at u v.span) same.token ∙ t.is; same = t.same }

-- ---- texts with variables

same_holes : (s u : Span) (holes : List Hole) (one two : Expr) → unplaced one ≡ unplaced two
    → unplaced (with_holes s one holes) ≡ unplaced (with_holes u two holes)
same_holes s u [] one two same = same
same_holes s u (h ∷ holes) one two same = same_holes s u holes (with_hole s one h) (with_hole u two h)
    (λ i. expr no_span (binary op.Plus (expr no_span (binary op.Plus (same i) (expr no_span (read (root.Name h.name) []))))
    (expr no_span (literal (string h.behind)))))

-- another word is a text that is the same but for its place
pub record TemplateAgain (v : Word) (want : Expr) : Type 0 where
  pub text : Expr
  pub is : template_of v ≡ Some text
  pub same : unplaced text ≡ want

record TemplateAt (t : Token) (s : Span) (want : Expr) : Type 0 where
  text : Expr
  is : template_at t s ≡ Some text
  same : unplaced text ≡ want

template_placed : (t : Token) (s u : Span) (x : Expr) → template_at t s ≡ Some x → TemplateAt t u (unplaced x)
template_placed (token.Template before holes) s u x is = record {
  text = expr u (group (with_holes u (text_at u before) holes));
  is = refl;
  same = ap (λ e. expr no_span (group e)) (same_holes u s holes (text_at u before) (text_at s before) refl) ∙ ap unplaced (some_is is);
}
template_placed t s u x is = let nothing : ⊥ = cc in absurd nothing

pub template_again : (v w : Word) (x : Expr) → Same v w → template_of w ≡ Some x → TemplateAgain v (unplaced x)
template_again v w x same is =
    let t = template_placed w.token w.span v.span x is in
    record { text = t.text; is = ap (λ u. template_at u v.span) same.token ∙ t.is; same = t.same }
