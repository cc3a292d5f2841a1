use Rattle.std.proofs.Common.{◌+◌, ◌-◌, ◌*◌, ◌<◌, ◌≤◌, length}
use Rattle.vrl_syntax.specs.View.{expr_of}
use Rattle.vrl_parse.specs.Descent.{arguments, arms, chain, level, pairs, parts, script}
use Rattle.vrl_parse.specs.FirstWords.{words_left}
use Rattle.vrl_parse.proofs.Loops.{Leads, args_onto, arms_onto, exprs_onto, pairs_onto}
use Rattle.vrl_parse.proofs.parser.Parser.+parser.Given as goal

-- first by the tokens that are left, then by who calls whom before a token is taken
abbrev pub decreases-abort : goal.decreases-abort
decreases-abort l = 32 * length l.self.now.rest.now + 17

abbrev pub decreases-arg : goal.decreases-arg
decreases-arg l = 32 * length l.self.now.rest.now + 17

abbrev pub decreases-args : goal.decreases-args
decreases-args l = 32 * length l.self.now.rest.now + 18

abbrev pub decreases-arms : goal.decreases-arms
decreases-arms l = 32 * length l.self.now.rest.now + 15

abbrev pub decreases-array : goal.decreases-array
decreases-array l = 32 * length l.self.now.rest.now + 4

abbrev pub decreases-assignment : goal.decreases-assignment
decreases-assignment l = 32 * length l.self.now.rest.now + 15

abbrev pub decreases-behind_call : goal.decreases-behind_call
decreases-behind_call l = 32 * length l.self.now.rest.now + 4

abbrev pub decreases-block : goal.decreases-block
decreases-block l = 32 * length l.self.now.rest.now + 3

abbrev pub decreases-braced : goal.decreases-braced
decreases-braced l = 32 * length l.self.now.rest.now + 4

abbrev pub decreases-call : goal.decreases-call
decreases-call l = 32 * length l.self.now.rest.now + 4

abbrev pub decreases-closure : goal.decreases-closure
decreases-closure l = 32 * length l.self.now.rest.now + 3

abbrev pub decreases-conditional : goal.decreases-conditional
decreases-conditional l = 32 * length l.self.now.rest.now + 4

abbrev pub decreases-group : goal.decreases-group
decreases-group l = 32 * length l.self.now.rest.now + 4

abbrev pub decreases-item : goal.decreases-item
decreases-item l = 32 * length l.self.now.rest.now + 18

abbrev pub decreases-merge : goal.decreases-merge
decreases-merge l = 32 * length l.self.now.rest.now + 15

abbrev pub decreases-negation : goal.decreases-negation
decreases-negation l = 32 * length l.self.now.rest.now + 4

abbrev pub decreases-object : goal.decreases-object
decreases-object l = 32 * length l.self.now.rest.now + 4

abbrev pub decreases-operand : goal.decreases-operand
decreases-operand l = 32 * length l.self.now.rest.now + 5

abbrev pub decreases-pairs : goal.decreases-pairs
decreases-pairs l = 32 * length l.self.now.rest.now + 17

abbrev pub decreases-parts : goal.decreases-parts
decreases-parts l = 32 * length l.self.now.rest.now + 17

abbrev pub decreases-script : goal.decreases-script
decreases-script l = 32 * length l.self.now.rest.now + 20

abbrev pub decreases-single : goal.decreases-single
decreases-single l = 32 * length l.self.now.rest.now + 16

abbrev pub decreases-level : goal.decreases-level
decreases-level l = 32 * length l.self.now.rest.now + (14 - l.level)

abbrev pub invariant-args-loop-args : goal.invariant-args-loop-args
invariant-args-loop-args l = record { leads : Leads arguments arguments (args_onto l.args.items) (words_left l.fn.self) (words_left l.self); shorter : length l.self.rest.now ≤ length l.fn.self.rest.now }

abbrev pub decreases-args-loop-args : goal.decreases-args-loop-args
decreases-args-loop-args l = length l.self.rest.now

abbrev pub invariant-arms-loop-arms : goal.invariant-arms-loop-arms
invariant-arms-loop-arms l = record { leads : Leads arms arms (λ a. (arms_onto l.arms.items a.0, a.1, a.2)) (words_left l.fn.self) (words_left l.self); shorter : length l.self.rest.now ≤ length l.fn.self.rest.now }

abbrev pub decreases-arms-loop-arms : goal.decreases-arms-loop-arms
decreases-arms-loop-arms l = length l.self.rest.now

abbrev pub invariant-level-loop-op : goal.invariant-level-loop-op
invariant-level-loop-op l = record { leads : Leads (level l.level) (chain l.level (expr_of l.left)) (λ e. e) (words_left l.fn.self) (words_left l.self); shorter : length l.self.rest.now < length l.fn.self.rest.now }

abbrev pub decreases-level-loop-op : goal.decreases-level-loop-op
decreases-level-loop-op l = length l.self.rest.now

abbrev pub invariant-pairs-loop-pairs : goal.invariant-pairs-loop-pairs
invariant-pairs-loop-pairs l = record { leads : Leads pairs pairs (pairs_onto l.pairs.items) (words_left l.fn.self) (words_left l.self); shorter : length l.self.rest.now ≤ length l.fn.self.rest.now }

abbrev pub decreases-pairs-loop-pairs : goal.decreases-pairs-loop-pairs
decreases-pairs-loop-pairs l = length l.self.rest.now

abbrev pub invariant-parts-loop-parts : goal.invariant-parts-loop-parts
invariant-parts-loop-parts l = record { leads : Leads parts parts (exprs_onto l.parts.items) (words_left l.fn.self) (words_left l.self); shorter : length l.self.rest.now ≤ length l.fn.self.rest.now }

abbrev pub decreases-parts-loop-parts : goal.decreases-parts-loop-parts
decreases-parts-loop-parts l = length l.self.rest.now

abbrev pub invariant-script-loop-self : goal.invariant-script-loop-self
invariant-script-loop-self l = record { leads : Leads script script (exprs_onto l.items.items) (words_left l.fn.self) (words_left l.self); shorter : length l.self.rest.now ≤ length l.fn.self.rest.now }

abbrev pub decreases-script-loop-self : goal.decreases-script-loop-self
decreases-script-loop-self l = length l.self.rest.now
