-- Parts as the walk told them, one behind another.
use Rattle.std.proofs.Common.{◌≡◌, List, ◌++◌, Option, refl, sym, ap, ◌∙◌, subst, append-nil}
use Rattle.vrl_value.specs.declared.value.Tag.{Tag}
use Rattle.vrl_diag.specs.declared.diagnostic.Diagnostic.{Diagnostic}
use Rattle.vrl_state.specs.States.{IsRootKind, Scope}
use Rattle.vrl_judge.specs.Rules.{Judgement, Loop, gives}
use Rattle.vrl_judge.specs.Judging.{branches_known, loops_known, no_ends, AreEnds, HasEnds, HasGathered, HasJudged, IsMoved, IsReported}
use Rattle.vrl_judge.specs.Seen.{seen}
use Rattle.vrl_judge.specs.declared.checker.Checker.{Checker}
use Rattle.vrl_judge.specs.declared.ends.Ends.{Ends}
use Rattle.vrl_judge.specs.declared.finding.Finding.{Finding}
use Rattle.vrl_kind.specs.KindTree.{KindTree}
use Rattle.vrl_judge.proofs.Parts.{added, loops_added, no_loops}
use Rattle.vrl_judge.proofs.Joining.{no_ends_are}

-- ---- one part

-- the judgement that is told of a part is what was seen of it
pub as_seen : (before after : Checker) (part : Finding) (j : Judgement) → HasJudged before after part j → j ≡ seen part after j.codes j.empties j.loops
as_seen before after part j has = λ i. record {
  kind = sym has.kind i;
  ok = sym has.gathered.ok i;
  fail = sym has.ends.fail i;
  ret = sym has.ends.ret i;
  returned = sym has.ends.returned i;
  poisoned = sym has.ends.poisoned i;
  codes = j.codes;
  empties = j.empties;
  loops = j.loops;
}

-- what is gathered from one place to another
pub record Gathers (before after : Checker) (ds : List Diagnostic) (ts : List Tag) (ls : List (Option Loop)) : Type 0 where
  pub scopes : after.state.scopes ≡ before.state.scopes
  pub diagnostics : after.diagnostics.items ≡ before.diagnostics.items ++ ds
  pub empties : after.empties.items ≡ before.empties.items ++ ts
  pub loops : branches_known after.loops.items ≡ branches_known before.loops.items ++ loops_known ls
  pub patterns : after.patterns ≡ before.patterns
  pub inside : after.inside ≡ before.inside

pub gathered : (before after : Checker) (j : Judgement) → HasGathered before after j → Gathers before after j.codes j.empties j.loops
gathered before after j has = record { scopes = has.scopes; diagnostics = has.diagnostics; empties = has.empties; loops = has.loops; patterns = has.patterns; inside = has.inside }

pub has_gathered : (before after : Checker) (j : Judgement) → Gathers before after j.codes j.empties j.loops → after.state.known ≡ j.ok → HasGathered before after j
has_gathered before after j is ok = record { ok = ok; scopes = is.scopes; diagnostics = is.diagnostics; empties = is.empties; loops = is.loops; patterns = is.patterns; inside = is.inside }

-- a part with its kind and its ends
pub record IsTold (before after : Checker) (part : Finding) (ds : List Diagnostic) (ts : List Tag) (ls : List (Option Loop)) : Type 0 where
  pub root : IsRootKind part.kind
  pub are : AreEnds before.state.scopes part.ends
  pub gathers : Gathers before after ds ts ls

pub told_of : (before after : Checker) (part : Finding) (j : Judgement) → HasJudged before after part j → IsTold before after part j.codes j.empties j.loops
told_of before after part j has = record {
  root = subst IsRootKind (sym has.kind) has.root;
  are = has.ends.are;
  gathers = gathered before after j has.gathered;
}

pub seen_ends : (scopes : List Scope) (part : Finding) (after : Checker) (ds : List Diagnostic) (ts : List Tag) (ls : List (Option Loop)) → AreEnds scopes part.ends → HasEnds scopes part.ends (seen part after ds ts ls)
seen_ends scopes part after ds ts ls are = record { are = are; fail = refl; ret = refl; returned = refl; poisoned = refl }

pub told : (before after : Checker) (part : Finding) (ds : List Diagnostic) (ts : List Tag) (ls : List (Option Loop)) → IsTold before after part ds ts ls → HasJudged before after part (seen part after ds ts ls)
told before after part ds ts ls is = record {
  kind = refl;
  root = is.root;
  ends = seen_ends before.state.scopes part after ds ts ls is.are;
  gathered = record { ok = refl; scopes = is.gathers.scopes; diagnostics = is.gathers.diagnostics; empties = is.gathers.empties; loops = is.gathers.loops; patterns = is.gathers.patterns; inside = is.gathers.inside };
}

-- its ends where the part was judged stand where it ended too
pub are_behind : (before after : Checker) (part : Finding) (ds : List Diagnostic) (ts : List Tag) (ls : List (Option Loop)) → IsTold before after part ds ts ls → AreEnds after.state.scopes part.ends
are_behind before after part ds ts ls is = subst (λ scopes. AreEnds scopes part.ends) (sym is.gathers.scopes) is.are

-- a value, and nothing else
pub value_judged : (now : Checker) (K : KindTree) → IsRootKind K → HasJudged now now (record { kind = K; ends = no_ends }) (gives K now.state.known)
value_judged now K root = record {
  kind = refl;
  root = root;
  ends = record { are = no_ends_are now.state.scopes; fail = refl; ret = refl; returned = refl; poisoned = refl };
  gathered = record { ok = refl; scopes = refl; diagnostics = sym (append-nil now.diagnostics.items); empties = sym (append-nil now.empties.items); loops = no_loops now; patterns = refl; inside = refl };
}

-- ---- steps

pub gathers_moved : (a b c : Checker) (ds : List Diagnostic) (ts : List Tag) (ls : List (Option Loop)) → Gathers a b ds ts ls → IsMoved b c → Gathers a c ds ts ls
gathers_moved a b c ds ts ls is moved = record {
  scopes = moved.scopes ∙ is.scopes;
  diagnostics = ap (λ v. v.items) moved.diagnostics ∙ is.diagnostics;
  empties = ap (λ v. v.items) moved.empties ∙ is.empties;
  loops = ap (λ v. branches_known v.items) moved.loops ∙ is.loops;
  patterns = moved.patterns ∙ is.patterns;
  inside = moved.inside ∙ is.inside;
}

pub gathers_both : (a b c : Checker) (ds es : List Diagnostic) (ts us : List Tag) (ls ms : List (Option Loop)) → Gathers a b ds ts ls → Gathers b c es us ms → Gathers a c (ds ++ es) (ts ++ us) (ls ++ ms)
gathers_both a b c ds es ts us ls ms first second = record {
  scopes = second.scopes ∙ first.scopes;
  diagnostics = added a.diagnostics.items b.diagnostics.items c.diagnostics.items ds es first.diagnostics second.diagnostics;
  empties = added a.empties.items b.empties.items c.empties.items ts us first.empties second.empties;
  loops = loops_added a b c ls ms first.loops second.loops;
  patterns = second.patterns ∙ first.patterns;
  inside = second.inside ∙ first.inside;
}

-- codes behind what was gathered
pub gathers_codes : (a b c : Checker) (ds es : List Diagnostic) (ts : List Tag) (ls : List (Option Loop)) → Gathers a b ds ts ls → c.state.scopes ≡ b.state.scopes → c.diagnostics.items ≡ b.diagnostics.items ++ es
    → c.empties ≡ b.empties → c.loops ≡ b.loops → c.patterns ≡ b.patterns → c.inside ≡ b.inside → Gathers a c (ds ++ es) ts ls
gathers_codes a b c ds es ts ls is scopes diagnostics empties loops patterns inside = record {
  scopes = scopes ∙ is.scopes;
  diagnostics = added a.diagnostics.items b.diagnostics.items c.diagnostics.items ds es is.diagnostics diagnostics;
  empties = ap (λ v. v.items) empties ∙ is.empties;
  loops = ap (λ v. branches_known v.items) loops ∙ is.loops;
  patterns = patterns ∙ is.patterns;
  inside = inside ∙ is.inside;
}

pub gathers_reported : (a b c : Checker) (ds es : List Diagnostic) (ts : List Tag) (ls : List (Option Loop)) (old new : Ends) → Gathers a b ds ts ls → IsReported es b c old new → Gathers a c (ds ++ es) ts ls
gathers_reported a b c ds es ts ls old new is reported = gathers_codes a b c ds es ts ls is (ap (λ s. s.scopes) reported.state) reported.diagnostics reported.empties reported.loops reported.patterns reported.inside

-- two parts, with a step behind each
pub gathers_two : (a b c d e : Checker) (ds es : List Diagnostic) (ts us : List Tag) (ls ms : List (Option Loop)) → Gathers a b ds ts ls → IsMoved b c → Gathers c d es us ms → IsMoved d e → Gathers a e (ds ++ es) (ts ++ us) (ls ++ ms)
gathers_two a b c d e ds es ts us ls ms first step second last =
    gathers_moved a d e (ds ++ es) (ts ++ us) (ls ++ ms) (gathers_both a c d ds es ts us ls ms (gathers_moved a b c ds ts ls first step) second) last
