-- Leaves under names, put at what the names say.
use Rattle.std.proofs.Common.{◌≡◌, ℕ, List, [], ◌∷◌, ◌++◌, map, Option, Some, None, Result, Ok, Err, OnOk, refl, sym, ap, ◌∙◌, append_assoc}
use Rattle.std.proofs.lemmas.List.{append-nil}
use Rattle.vrl_value.specs.Tree.{Tree, object, Members, no_members, member, put}
use Rattle.fn_list.specs.Flatten.{inner_of, leaves, leaves_at, path_text, put_leaves, under, Leaf}

abbrev pub leaves_of : List ℕ → Tree → Option Members → List Leaf
leaves_of k t None = record { first = k; others = []; held = t } ∷ []
leaves_of k t (Some ms) = map (under k) (leaves ms)

pub leaves_inner : (k : List ℕ) (t : Tree) → leaves_at k t ≡ leaves_of k t (inner_of t)
leaves_inner k (object (member l t ms)) = refl
leaves_inner k (object no_members) = refl
leaves_inner k t = refl

pub put_both : (start separator : List ℕ) (ls others : List Leaf) (ms : Members) → put_leaves start separator (ls ++ others) ms ≡ put_leaves start separator others (put_leaves start separator ls ms)
put_both start separator [] others ms = refl
put_both start separator (l ∷ ls) others ms = put_both start separator ls others (put (start ++ path_text separator l.first l.others) l.held ms)

pub put_under : (start separator k : List ℕ) (ls : List Leaf) (ms : Members) → put_leaves start separator (map (under k) ls) ms ≡ put_leaves (start ++ (k ++ separator)) separator ls ms
put_under start separator k [] ms = refl
put_under start separator k (l ∷ ls) ms =
    let text = path_text separator l.first l.others in
    ap (λ name. put_leaves start separator (map (under k) ls) (put name l.held ms)) (sym (append_assoc start (k ++ separator) text ∙ ap (λ rest. start ++ rest) (append_assoc k separator text)))
    ∙ put_under start separator k ls (put ((start ++ (k ++ separator)) ++ text) l.held ms)

-- what one field comes to, where objects in it are opened, and where there are none
pub opened_at : (start separator k : List ℕ) (t : Tree) (ms old new : Members) → Some ms ≡ inner_of t → new ≡ put_leaves (start ++ (k ++ separator)) separator (leaves ms) old → new ≡ put_leaves start separator (leaves_at k t) old
opened_at start separator k t ms old new inner told =
    told ∙ sym (put_under start separator k (leaves ms) old) ∙ ap (λ o. put_leaves start separator (leaves_of k t o) old) inner ∙ sym (ap (λ ls. put_leaves start separator ls old) (leaves_inner k t))

pub closed_at : (start separator k key : List ℕ) (t : Tree) (old new : Members) → None ≡ inner_of t → key ≡ start ++ (k ++ []) → new ≡ put key t old → new ≡ put_leaves start separator (leaves_at k t) old
closed_at start separator k key t old new inner named told =
    told ∙ ap (λ name. put name t old) (named ∙ ap (λ rest. start ++ rest) (append-nil k)) ∙ ap (λ o. put_leaves start separator (leaves_of k t o) old) inner ∙ sym (ap (λ ls. put_leaves start separator ls old) (leaves_inner k t))

pub walked : (start separator k : List ℕ) (t : Tree) (ns old new whole : Members) → new ≡ put_leaves start separator (leaves_at k t) old → put_leaves start separator (leaves (member k t ns)) old ≡ whole → put_leaves start separator (leaves ns) new ≡ whole
walked start separator k t ns old new whole told before = ap (put_leaves start separator (leaves ns)) told ∙ sym (put_both start separator (leaves_at k t) (leaves ns) old) ∙ before

pub on_ok : {T E : Type 0} (r : Result T E) (P Q : Type 0) → (P → Q) → OnOk r P → OnOk r Q
on_ok (Ok x) P Q f p = f p
on_ok (Err e) P Q f p = tt
