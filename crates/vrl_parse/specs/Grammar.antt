-- The grammar of a script, one case for each production; it is that of the VRL reference in Vector's
-- documentation, for the forms that are in the language here. Places are those of the first and the last
-- token of a part.
use Rattle.std.specs.Prelude.{◌≡◌, ℕ, suc, Bool, List, [], ◌∷◌, ◌++◌, Option, Some, None}
use Rattle.vrl_path.specs.declared.path.Step.{Step}
use Rattle.vrl_diag.specs.declared.diagnostic.Span.{Span}
use Rattle.vrl_syntax.specs.Tree.{Expr, expr, literal, array, object, read, query, group, block, conditional, negation, binary, assign, merge, both, call, return_of, abort_with, Exprs, no_exprs, exprs, Pairs, no_pairs, pair, Arms, no_arms, arm, Else, no_else, else_block, Args, no_args, arg, Closure, no_closure, closure, no_message, message, span_of}
use Rattle.vrl_syntax.specs.declared.root.Op.{Op}
use Rattle.vrl_syntax.specs.declared.root.Root.{Root}
use Rattle.vrl_syntax.specs.declared.root.Target.{Target}
use Rattle.vrl_token.specs.declared.token.Token.{Token}
use Rattle.vrl_token.specs.declared.token.Token.TheVariants as token
use Rattle.vrl_value.specs.Tree.{Tree}
use Rattle.vrl_word.specs.Words.{Word, over, literal_of, template_of, path_of, target_of, function_of, name_span, operator_of, levels}

-- the word is this sign
pub record Is (t : Token) (w : Word) : Type 0 where
  pub is : w.token ≡ t

-- name {"," name}
pub data AreNames : List Word → List (List ℕ) → Type 0 where
  one_name : {w : Word} {n : List ℕ} → Is (token.Name n) w → AreNames (w ∷ []) (n ∷ [])
  more_names : {w c : Word} {n : List ℕ} {ws : List Word} {ns : List (List ℕ)} → Is (token.Name n) w → Is token.Comma c
      → AreNames ws ns → AreNames (w ∷ c ∷ ws) (n ∷ ns)

mutual
  -- [seps] [item {seps item}] [seps]
  pub data IsScript : List Word → Exprs → Type 0 where
    no_items : IsScript [] no_exprs
    separator : {w : Word} {ws : List Word} {es : Exprs} → Is token.Separator w → IsScript ws es → IsScript (w ∷ ws) es
    last_item : {ws : List Word} {e : Expr} → IsItem ws e → IsScript ws (exprs e no_exprs)
    more_items : {ws vs : List Word} {w : Word} {e : Expr} {es : Exprs} → IsItem ws e → Is token.Separator w
        → IsScript vs es → IsScript (ws ++ w ∷ vs) (exprs e es)

  -- target "," target "=" single | single
  pub data IsItem : List Word → Expr → Type 0 where
    both_targets : {w c v q : Word} {t u : Target} {ws : List Word} {e : Expr} → target_of w ≡ Some t
        → Is token.Comma c → target_of v ≡ Some u → Is token.Assign q → IsSingle ws e
        → IsItem (w ∷ c ∷ v ∷ q ∷ ws) (expr (over w.span (span_of e)) (both t u e))
    single : {ws : List Word} {e : Expr} → IsSingle ws e → IsItem ws e

  -- target "=" single | target "|=" single | "return" single | "abort" [single] | coalesce
  pub data IsSingle : List Word → Expr → Type 0 where
    assigned : {w q : Word} {t : Target} {ws : List Word} {e : Expr} → target_of w ≡ Some t → Is token.Assign q
        → IsSingle ws e → IsSingle (w ∷ q ∷ ws) (expr (over w.span (span_of e)) (assign t e))
    merged : {w q : Word} {t : Target} {ws : List Word} {e : Expr} → target_of w ≡ Some t → Is token.MergeAssign q
        → IsSingle ws e → IsSingle (w ∷ q ∷ ws) (expr (over w.span (span_of e)) (merge t e))
    returned : {w : Word} {ws : List Word} {e : Expr} → Is token.Return w → IsSingle ws e
        → IsSingle (w ∷ ws) (expr (over w.span (span_of e)) (return_of e))
    aborted : {w : Word} → Is token.Abort w → IsSingle (w ∷ []) (expr w.span (abort_with no_message))
    aborted_with : {w : Word} {ws : List Word} {e : Expr} → Is token.Abort w → IsSingle ws e
        → IsSingle (w ∷ ws) (expr (over w.span (span_of e)) (abort_with (message e)))
    coalesce : {ws : List Word} {e : Expr} → IsLevel 0 ws e → IsSingle ws e

  -- the levels, each left-associative
  pub data IsLevel : ℕ → List Word → Expr → Type 0 where
    tighter : {n : ℕ} {ws : List Word} {e : Expr} → IsLevel (suc n) ws e → IsLevel n ws e
    joined : {n : ℕ} {o : Op} {ws vs : List Word} (w : Word) {l r : Expr} → IsLevel n ws l
        → operator_of w.token ≡ Some (n, o) → IsLevel (suc n) vs r
        → IsLevel n (ws ++ w ∷ vs) (expr (over (span_of l) (span_of r)) (binary o l r))
    tightest : {ws : List Word} {e : Expr} → IsUnary ws e → IsLevel levels ws e

  -- "!" unary | primary
  pub data IsUnary : List Word → Expr → Type 0 where
    negated : {w : Word} {ws : List Word} {e : Expr} → Is token.Not w → IsUnary ws e
        → IsUnary (w ∷ ws) (expr (over w.span (span_of e)) (negation e))
    primary : {ws : List Word} {e : Expr} → IsPrimary ws e → IsUnary ws e

  -- literal | text with variables | path | name | call [suffix] | array [suffix] | "(" item ")" [suffix]
  -- | object | block | if
  pub data IsPrimary : List Word → Expr → Type 0 where
    a_literal : {w : Word} {v : Tree} → literal_of w ≡ Some v → IsPrimary (w ∷ []) (expr w.span (literal v))
    a_template : {w : Word} {e : Expr} → template_of w ≡ Some e → IsPrimary (w ∷ []) e
    a_path : {w : Word} {r : Root} {p : List Step} → path_of w.token ≡ Some (r, p)
        → IsPrimary (w ∷ []) (expr w.span (read r p))
    without_suffix : {ws : List Word} {e : Expr} → MayHaveSuffix ws e → IsPrimary ws e
    with_suffix : {ws : List Word} {w : Word} {p : List Step} {e : Expr} → MayHaveSuffix ws e → Is (token.Suffix p) w
        → IsPrimary (ws ++ w ∷ []) (expr (over (span_of e) w.span) (query e p))
    with_closure : {ws vs : List Word} {span end last : Span} {f : List ℕ × Bool} {gs : Args} {c : Closure}
        → IsCall ws f span gs end → IsClosure vs c last
        → IsPrimary (ws ++ vs) (expr (over span last) (call f.0 (name_span span f.1) f.1 gs c))
    an_object : {o c : Word} {ws : List Word} {ps : Pairs} → Is token.OpenObject o → ArePairs ws ps
        → Is token.CloseBrace c → IsPrimary (o ∷ ws ++ c ∷ []) (expr (over o.span c.span) (object ps))
    a_block : {ws : List Word} {span : Span} {es : Exprs} → IsBlock ws es span → IsPrimary ws (expr span (block es))
    an_if : {w : Word} {ws : List Word} {end : Span} {gs : Arms} {es : Else} → Is token.If w → AreArms ws gs es end
        → IsPrimary (w ∷ ws) (expr (over w.span end) (conditional gs es))

  -- call | array | "(" item ")"
  pub data MayHaveSuffix : List Word → Expr → Type 0 where
    a_call : {ws : List Word} {span end : Span} {f : List ℕ × Bool} {gs : Args} → IsCall ws f span gs end
        → MayHaveSuffix ws (expr (over span end) (call f.0 (name_span span f.1) f.1 gs no_closure))
    an_array : {o c : Word} {ws : List Word} {es : Exprs} → Is token.OpenBracket o → AreSingles ws es
        → Is token.CloseBracket c → MayHaveSuffix (o ∷ ws ++ c ∷ []) (expr (over o.span c.span) (array es))
    a_group : {o c : Word} {ws : List Word} {e : Expr} → Is token.OpenParenthesis o → IsItem ws e
        → Is token.CloseParenthesis c → MayHaveSuffix (o ∷ ws ++ c ∷ []) (expr (over o.span c.span) (group e))

  -- function "(" [arg {"," arg} [","]] ")": with the function, the place of its token, and that of the last one
  pub data IsCall : List Word → List ℕ × Bool → Span → Args → Span → Type 0 where
    called : {w o c : Word} {f : List ℕ × Bool} {ws : List Word} {gs : Args} → function_of w.token ≡ Some f
        → Is token.OpenParenthesis o → AreArgs ws gs → Is token.CloseParenthesis c
        → IsCall (w ∷ o ∷ ws ++ c ∷ []) f w.span gs c.span

  -- [arg {"," arg} [","]]
  pub data AreArgs : List Word → Args → Type 0 where
    no_arguments : AreArgs [] no_args
    last_argument : {ws : List Word} {n : Option (List ℕ)} {s : Span} {e : Expr} → IsArg ws n s e
        → AreArgs ws (arg n s e no_args)
    more_arguments : {ws vs : List Word} {c : Word} {n : Option (List ℕ)} {s : Span} {e : Expr} {gs : Args}
        → IsArg ws n s e → Is token.Comma c → AreArgs vs gs → AreArgs (ws ++ c ∷ vs) (arg n s e gs)

  -- [name ":"] single
  pub data IsArg : List Word → Option (List ℕ) → Span → Expr → Type 0 where
    named : {w c : Word} {n : List ℕ} {ws : List Word} {e : Expr} → Is (token.Name n) w → Is token.Colon c
        → IsSingle ws e → IsArg (w ∷ c ∷ ws) (Some n) (over w.span (span_of e)) e
    unnamed : {ws : List Word} {e : Expr} → IsSingle ws e → IsArg ws None (span_of e) e

  -- "->" "|" name {"," name} "|" block: with the place of the block
  pub data IsClosure : List Word → Closure → Span → Type 0 where
    a_closure : {a o c : Word} {ws vs : List Word} {names : List (List ℕ)} {es : Exprs} {span : Span}
        → Is token.Arrow a → Is token.OpenBars o → AreNames ws names → Is token.CloseBars c → IsBlock vs es span
        → IsClosure (a ∷ o ∷ ws ++ c ∷ vs) (closure names es span) span

  -- [single {"," single} [","]]
  pub data AreSingles : List Word → Exprs → Type 0 where
    no_singles : AreSingles [] no_exprs
    last_single : {ws : List Word} {e : Expr} → IsSingle ws e → AreSingles ws (exprs e no_exprs)
    more_singles : {ws vs : List Word} {c : Word} {e : Expr} {es : Exprs} → IsSingle ws e → Is token.Comma c
        → AreSingles vs es → AreSingles (ws ++ c ∷ vs) (exprs e es)

  -- [text ":" single {"," text ":" single} [","]]
  pub data ArePairs : List Word → Pairs → Type 0 where
    no_parts : ArePairs [] no_pairs
    last_pair : {k c : Word} {key : List ℕ} {ws : List Word} {e : Expr} → Is (token.Text key) k → Is token.Colon c
        → IsSingle ws e → ArePairs (k ∷ c ∷ ws) (pair key e no_pairs)
    more_pairs : {k c d : Word} {key : List ℕ} {ws vs : List Word} {e : Expr} {ps : Pairs} → Is (token.Text key) k
        → Is token.Colon c → IsSingle ws e → Is token.Comma d → ArePairs vs ps
        → ArePairs (k ∷ c ∷ ws ++ d ∷ vs) (pair key e ps)

  -- "{" script "}": with its place
  pub data IsBlock : List Word → Exprs → Span → Type 0 where
    a_script : {o c : Word} {ws : List Word} {es : Exprs} → Is token.OpenBlock o → IsScript ws es
        → Is token.CloseBrace c → IsBlock (o ∷ ws ++ c ∷ []) es (over o.span c.span)

  -- coalesce block {"else" "if" coalesce block} ["else" block], what stands behind "if": with the place of
  -- the last block
  pub data AreArms : List Word → Arms → Else → Span → Type 0 where
    last_arm : {ws vs : List Word} {e : Expr} {es : Exprs} {s : Span} → IsLevel 0 ws e → IsBlock vs es s
        → AreArms (ws ++ vs) (arm e es no_arms) no_else s
    with_else : {l : Word} {ws vs us : List Word} {e : Expr} {es fs : Exprs} {s t : Span} → IsLevel 0 ws e
        → IsBlock vs es s → Is token.Else l → IsBlock us fs t
        → AreArms (ws ++ (vs ++ l ∷ us)) (arm e es no_arms) (else_block fs) t
    more_arms : {l w : Word} {ws vs us : List Word} {e : Expr} {es : Exprs} {gs : Arms} {fs : Else} {s t : Span}
        → IsLevel 0 ws e → IsBlock vs es s → Is token.Else l → Is token.If w → AreArms us gs fs t
        → AreArms (ws ++ (vs ++ l ∷ w ∷ us)) (arm e es gs) fs t
