-- What decides between two judgements of one part: the rules leave nothing open, or they allow no tries, and the two
-- have the same empty values and the same states of closures. What decides between two wholes decides between their
-- parts, since each part has as many of them in both.
use Rattle.std.proofs.Common.{arith, ◌≡◌, Bool, true, false, List, [], ◌∷◌, ◌++◌, length, append_assoc, append-nil, Option, Some, None, refl, sym, ap, ◌∙◌, subst}
use Rattle.vrl_value.specs.declared.value.Tag.{Tag}
use Rattle.vrl_diag.specs.declared.diagnostic.Span.{Span}
use Rattle.vrl_syntax.specs.Tree.{Args, Arms, Else, Expr, Exprs}
use Rattle.vrl_kind.specs.KindTree.{KindTree}
use Rattle.vrl_state.specs.States.{RootMap}
use Rattle.vrl_judge.specs.Rules.{Argument, Judgement, Loop, IsBehind, banged, nothing}
use Rattle.vrl_check.specs.Determined.{HaveOneState}
use Rattle.vrl_check.specs.Judgement.{IsBeside, Judges, JudgesAll, no_more, one_more, JudgesArguments, no_more_arguments, one_more_argument, JudgesArms, an_arm, an_else, a_missing_else, JudgesBlock, JudgesItems, no_more_items, one_more_item}
use Rattle.vrl_check.specs.OpenRules.{OpenRules, LeaveNothingOpen}
use Rattle.vrl_check.proofs.Counted.{arguments_counted, empties_are_counted, loops_are_counted}

-- ---- lists

-- two lists are the same part by part
same_parts : {A : Type 0} (a b a' b' : List A) → length a ≡ length a' → a ++ b ≡ a' ++ b' → (a ≡ a') × (b ≡ b')
same_parts [] b [] b' same is = (refl, is)
same_parts [] b (y ∷ a') b' same is = absurd (omega (arith, same))
same_parts (x ∷ a) b [] b' same is = absurd (omega (arith, same))
same_parts (x ∷ a) b (y ∷ a') b' same is =
    let first : x ≡ y = cc in
    let more : a ++ b ≡ a' ++ b' = cc in
    let rest : (a ≡ a') × (b ≡ b') = same_parts a b a' b' (omega (arith, same)) more in
    ((λ i. first i ∷ rest.0 i), rest.1)

state_parts : (a b a' b' : List (Option Loop)) → length a ≡ length a' → HaveOneState (a ++ b) (a' ++ b')
    → HaveOneState a a' × HaveOneState b b'
state_parts [] b [] b' same have = (tt, have)
state_parts [] b (y ∷ a') b' same have = absurd (omega (arith, same))
state_parts (x ∷ a) b [] b' same have = absurd (omega (arith, same))
state_parts (Some x ∷ a) b (Some y ∷ a') b' same have =
    let rest = state_parts a b a' b' (omega (arith, same)) have.1 in
    ((have.0, rest.0), rest.1)
state_parts (Some x ∷ a) b (None ∷ a') b' same have = state_parts a b a' b' (omega (arith, same)) have
state_parts (None ∷ a) b (y ∷ a') b' same have = state_parts a b a' b' (omega (arith, same)) have

-- ---- what decides

pub data AreDecided (rules : OpenRules) (ts us : List Tag) (ls ms : List (Option Loop)) : Type 0 where
  by_rules : LeaveNothingOpen rules → AreDecided rules ts us ls ms
  by_given : rules.tries ≡ false → ts ≡ us → HaveOneState ls ms → AreDecided rules ts us ls ms

abbrev pub IsDecided : OpenRules → Judgement → Judgement → Type 0
IsDecided rules j k = AreDecided rules j.empties k.empties j.loops k.loops

-- ---- parts

-- a part behind what was judged before it
pub record Adds (before part after : Judgement) : Type 0 where
  pub empties : after.empties ≡ before.empties ++ part.empties
  pub loops : after.loops ≡ before.loops ++ part.loops

pub behind_adds : (before part after : Judgement) → IsBehind before part after → Adds before part after
behind_adds before part after is = record { empties = is.empties; loops = is.loops }

pub beside_adds : (ways way all : Judgement) → IsBeside ways way all → Adds ways way all
beside_adds ways way all is = record { empties = is.empties; loops = is.loops }

pub banged_adds : (span : Span) (bang : Bool) (before part after : Judgement) → Adds before part after
    → Adds before part (banged span bang after)
banged_adds span false before part after adds = record { empties = adds.empties; loops = adds.loops }
banged_adds span true before part after adds = record { empties = adds.empties; loops = adds.loops }

-- two judgements have as many empty values, and as many closures
abbrev pub AreAlike : Judgement → Judgement → Type 0
AreAlike j k = (length j.empties ≡ length k.empties) × (length j.loops ≡ length k.loops)

pub both_decided : {rules : OpenRules} (j x g k y h : Judgement) → Adds j x g → Adds k y h → AreAlike j k
    → IsDecided rules g h → IsDecided rules j k × IsDecided rules x y
both_decided j x g k y h one two alike (by_rules decided) = (by_rules decided, by_rules decided)
both_decided j x g k y h one two alike (by_given no_tries same have) =
    let empties = same_parts j.empties x.empties k.empties y.empties alike.0 (sym one.empties ∙ same ∙ two.empties) in
    let loops = state_parts j.loops x.loops k.loops y.loops alike.1
    (subst (HaveOneState (j.loops ++ x.loops)) two.loops (subst (λ ls. HaveOneState ls h.loops) one.loops have)) in
    (by_given no_tries empties.0 loops.0, by_given no_tries empties.1 loops.1)

-- ---- what is alike

pub judged_alike : {rules : OpenRules} {inside inside' : Bool} {known known' : Option RootMap} {e : Expr}
    (j k : Judgement)
    → Judges rules inside known e j → Judges rules inside' known' e k → AreAlike j k
judged_alike j k one two = (
  empties_are_counted.expression _ _ _ _ j one ∙ sym (empties_are_counted.expression _ _ _ _ k two),
  loops_are_counted.expression _ _ _ _ j one ∙ sym (loops_are_counted.expression _ _ _ _ k two),
)

pub blocks_alike : {rules : OpenRules} {inside inside' : Bool} {known known' : Option RootMap} {es : Exprs}
    (j k : Judgement)
    → JudgesBlock rules inside known es j → JudgesBlock rules inside' known' es k → AreAlike j k
blocks_alike j k one two = (
  empties_are_counted.block _ _ _ _ j one ∙ sym (empties_are_counted.block _ _ _ _ k two),
  loops_are_counted.block _ _ _ _ j one ∙ sym (loops_are_counted.block _ _ _ _ k two),
)

pub arguments_alike : {rules : OpenRules} {inside inside' : Bool} {before : Judgement} {gs : Args}
    {js ks : List Argument} (j k : Judgement)
    → JudgesArguments rules inside before gs js j → JudgesArguments rules inside' before gs ks k → AreAlike j k
arguments_alike j k one two =
    let first = arguments_counted one in
    let second = arguments_counted two in
    (first.0 ∙ sym second.0, first.1 ∙ sym second.1)

-- two parts of one form
pub two_decided : {rules : OpenRules} {inside inside' : Bool} {known known' : Option RootMap} {e : Expr}
    (j x g k y h : Judgement)
    → Judges rules inside known e j → Judges rules inside' known' e k → Adds j x g → Adds k y h → IsDecided rules g h
    → IsDecided rules j k × IsDecided rules x y
two_decided j x g k y h first second one two decided =
    both_decided j x g k y h one two (judged_alike j k first second) decided

-- ---- parts in order

-- there is some part behind
abbrev pub Goes : Judgement → Judgement → Type 0
Goes before after = (part : Judgement) × Adds before part after

-- one part, and another behind it
abbrev pub joined : Judgement → Judgement → Judgement
joined part more = record (nothing (part.empties ++ more.empties)) { loops = part.loops ++ more.loops }

joined_adds : (before part middle more after : Judgement) → Adds before part middle → Adds middle more after
    → Adds before (joined part more) after
joined_adds before part middle more after one two = record {
  empties =
      two.empties ∙ ap (λ ts. ts ++ more.empties) one.empties ∙ append_assoc before.empties part.empties more.empties;
  loops = two.loops ∙ ap (λ ls. ls ++ more.loops) one.loops ∙ append_assoc before.loops part.loops more.loops;
}

nothing_goes : (j : Judgement) → Goes j j
nothing_goes j = (nothing [], record { empties = sym (append-nil j.empties); loops = sym (append-nil j.loops) })

pub goes_on : (before part middle after : Judgement) → Adds before part middle → Goes middle after → Goes before after
goes_on before part middle after adds more =
    (joined part more.0, joined_adds before part middle more.0 after adds more.1)

-- so a part with others before it, and others behind it, is decided
pub next_decided : {rules : OpenRules} (before x m a before' y n b : Judgement) → Adds before x m → Goes m a
    → Adds before' y n → Goes n b → AreAlike before before' → AreAlike x y → IsDecided rules a b → IsDecided rules x y
next_decided before x m a before' y n b one more two more' same alike decided =
    let rest = both_decided before (joined x more.0) a before' (joined y more'.0) b
    (joined_adds before x m more.0 a one more.1) (joined_adds before' y n more'.0 b two more'.1) same decided in
    (both_decided x more.0 (joined x more.0) y more'.0 (joined y more'.0) (record { empties = refl; loops = refl })
    (record { empties = refl; loops = refl }) alike rest.1).0

pub all_goes : {rules : OpenRules} {inside : Bool} {before after : Judgement} {es : Exprs} {Ks : List KindTree}
    → JudgesAll rules inside before es Ks after → Goes before after
all_goes (no_more {before = before}) = nothing_goes before
all_goes (one_more {before = before} {j = j} {middle = middle} {after = after} part next rest) =
    goes_on before j middle after (behind_adds before j middle next.behind) (all_goes rest)

pub arguments_go : {rules : OpenRules} {inside : Bool} {before after : Judgement} {gs : Args} {js : List Argument}
    → JudgesArguments rules inside before gs js after → Goes before after
arguments_go (no_more_arguments {before = before}) = nothing_goes before
arguments_go (one_more_argument {before = before} {j = j} {middle = middle} {after = after} part next rest) =
    goes_on before j middle after (behind_adds before j middle next.behind) (arguments_go rest)

pub arms_go : {rules : OpenRules} {inside : Bool} {state : Option RootMap} {ways all : Judgement} {gs : Arms}
    {otherwise : Else}
    → JudgesArms rules inside state ways gs otherwise all → Goes ways all
arms_go (an_arm {ways = ways} {j = j} {with_predicate = with_predicate} {k = k} {with_branch = with_branch} {all = all}
    predicate beside branch besides rest) =
    goes_on ways j with_predicate all (record { empties = beside.empties; loops = beside.loops })
    (goes_on with_predicate k with_branch all (beside_adds with_predicate k with_branch besides) (arms_go rest))
arms_go (an_else {ways = ways} {k = k} {all = all} branch beside) = (k, beside_adds ways k all beside)
arms_go (a_missing_else {ways = ways} {all = all} null beside) =
    (nothing [], record { empties = beside.empties; loops = beside.loops })

pub items_go : {rules : OpenRules} {before after : Judgement} {es : Exprs} → JudgesItems rules before es after
    → Goes before after
items_go (no_more_items {before = before}) = nothing_goes before
items_go (one_more_item {before = before} {j = j} {middle = middle} {after = after} part next rest) =
    goes_on before j middle after
    (record { empties = next.behind.empties; loops = next.behind.loops }) (items_go rest)
